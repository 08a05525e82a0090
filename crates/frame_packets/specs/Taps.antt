-- What was carried of each queue on each channel since the last end of a frame there

use Rattle.std.specs.Prelude.{◌≡◌, ℕ, Bool, true, false, ◌==◌, ◌&&◌, nat_lt, List, [], ◌∷◌, ◌++◌, length, map, if◌then◌else◌}
use Rattle.net_types.specs.declared.channel.Channel.{Channel}
use Rattle.net_types.specs.declared.node.Place.{Place}
use Rattle.atm_cells.specs.declared.cell.Cell.{Cell}
use Rattle.world_model.specs.Places.{place_node, queue_number}
use Rattle.telling_model.specs.declared.standing.Standing.{Standing}
use Rattle.frame_packets.specs.declared.queue.Queue.{Queue}
use Rattle.frame_packets.specs.declared.queue.TapKey.{TapKey}

-- *A queue*, by its node and by its number there
abbrev pub queue_of : Place → Queue
queue_of place = record { node = place_node place; number = queue_number place }

abbrev pub same_queue : Queue → Queue → Bool
same_queue a b = (a.node.0 == b.node.0) && (a.number == b.number)

-- *A queue and a channel*
abbrev pub key_of : Standing → TapKey
key_of standing = record { queue = queue_of standing.place; channel = standing.cell.header.channel }

abbrev pub same_key : TapKey → TapKey → Bool
same_key a b = same_queue a.queue b.queue && ((a.channel.vpi == b.channel.vpi) && (a.channel.vci == b.channel.vci))

-- *A tap*: of the cells that were carried from one queue on one channel since the last one there that ended a frame, the
-- first 32, and whether there were others
pub record Tap : Type 0 where
  pub key : TapKey
  pub kept : List Cell
  pub has_more : Bool

abbrev pub most_kept : ℕ
most_kept = 32

abbrev pub no_cells : TapKey → Tap
no_cells key = record { key = key; kept = []; has_more = false }

abbrev pub has_room : Tap → Bool
has_room tap = nat_lt (length tap.kept) most_kept

abbrev pub with_cell : Tap → Cell → Tap
with_cell tap cell = record tap {
  kept = if has_room tap then tap.kept ++ cell ∷ [] else tap.kept;
  has_more = if has_room tap then tap.has_more else true;
}

-- *Taps*, in the order of their first cells: the one of a queue and a channel
abbrev pub tap_at : List Tap → TapKey → Tap
tap_at [] key = no_cells key
tap_at (tap ∷ taps) key = if same_key key tap.key then tap else tap_at taps key

-- a cell joins its tap, which may be a new one
abbrev pub cell_tapped : List Tap → TapKey → Cell → List Tap
cell_tapped [] key cell = with_cell (no_cells key) cell ∷ []
cell_tapped (tap ∷ taps) key cell = if same_key key tap.key then with_cell tap cell ∷ taps else tap ∷ cell_tapped taps key cell

-- a tap has no cells
abbrev pub tap_cleared : List Tap → TapKey → List Tap
tap_cleared [] key = []
tap_cleared (tap ∷ taps) key = if same_key key tap.key then no_cells tap.key ∷ taps else tap ∷ tap_cleared taps key

abbrev pub keys_of : List Tap → List TapKey
keys_of taps = map (λ tap. tap.key) taps
