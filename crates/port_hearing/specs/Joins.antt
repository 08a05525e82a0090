-- How a join is taken back

use Rattle.std.specs.Prelude.{ℕ, List, [], ◌∷◌, Option, None, Some}
use Rattle.net_types.specs.declared.node.PortNo.{PortNo}
use Rattle.net_types.specs.declared.channel.End.{End}
use Rattle.port_model.specs.declared.action.Action.{Action}
use Rattle.port_model.specs.declared.action.Action.TheVariants.{TakeBack}
use Rattle.port_model.specs.Setup.{label_end}

-- the input that a grant is lent to is taken back
abbrev pub taken_back : PortNo → (label : ℕ) → Option End → List Action
taken_back port label None = []
taken_back port label (Some input) = TakeBack input (label_end port label) ∷ []
