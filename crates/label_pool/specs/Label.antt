-- What the steps of a label make of it, and their evidence

use Rattle.std.specs.Prelude.{ℕ, Bool, false, not, ◌==◌, ◌&&◌}
use Rattle.std.specs.Option.{option_map_or}
use Rattle.net_types.specs.declared.channel.Channel.{Channel}
use Rattle.net_types.specs.Label.{label_number_of}
use Rattle.branch_desk.specs.gsmp_wire.declared.request.Request.{Request}
use Rattle.branch_desk.specs.gsmp_wire.declared.request.Request.TheVariants.{AddBranch, DeleteTree}
use Rattle.label_pool.specs.Tag.{Tag, Gone}
use Rattle.label_pool.specs.declared.label.Recalled.{Recalled}

abbrev pub in_state : {S T : Type 0} → Tag S → T → Tag T
in_state label state = record { instance = label.instance; number = label.number; state = state }

abbrev pub quit_of : Tag Recalled → Gone
quit_of label = record { instance = label.instance; number = label.number; last = label.state.last }

-- the channel is that of the label of this number
abbrev pub is_channel_of : (number : ℕ) → Channel → Bool
is_channel_of number channel = option_map_or (λ other. other == number) (label_number_of channel) false

-- Add Branch of the label's channel on a port; Delete Tree of it
abbrev pub wires : (number : ℕ) → Request → Bool
wires number (AddBranch input output) = not (input.port.0 == 0) && is_channel_of number input.channel
wires number request = false

abbrev pub unwires : (number : ℕ) → Request → Bool
unwires number (DeleteTree input) = is_channel_of number input.channel
unwires number request = false
