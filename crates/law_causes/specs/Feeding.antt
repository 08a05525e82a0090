-- How the branches of a node's switch lead, where each list of cells is fed by one other at most

use Rattle.std.specs.Prelude.{◌≡◌, ◌≢◌, ◌≤◌, List, [], Option, Some}
use Rattle.std.specs.FinMap.{get}
use Rattle.std.specs.Option.{option_and_then}
use Rattle.law_cell_lists.specs.world_model.Words.{NodeId, Down, End, Cell, home_of, World, Site, site_at, queue_at, on_channel}
use Rattle.law_cell_lists.specs.world_model.crossbar_model.declared.branch.Branch.{Branch}

-- what is found on the inputs of a switch
abbrev pub Found : Type 0
Found = End → Option Branch

-- *One feeder*, as the ownership of labels and the shapes of requests have it: an input of the control link leads to
-- the channel of which it is the home; an input of a link leads to its own home, or to a channel of a link, and two
-- never lead to one; and where one leads to a channel of a link, no cell waits for the switch on that channel's home
pub record IsLed (found : Found) (queue : List Cell) : Type 0 where
  pub down : (input : End) (branch : Branch) → found input ≡ Some branch → input.port.0 ≡ 0
      → (branch.output.port.0 ≢ 0) × ((branch.output.port.0 ≤ 8) × (input ≡ home_of branch.output))
  pub up : (input : End) (branch : Branch) → found input ≡ Some branch → input.port.0 ≢ 0 → branch.output.port.0 ≡ 0
      → branch.output ≡ home_of input
  pub across : (input : End) (branch : Branch) → found input ≡ Some branch → input.port.0 ≢ 0 → branch.output.port.0 ≢ 0
      → (branch.output.port.0 ≤ 8) × (on_channel (home_of branch.output).channel queue ≡ [])
  pub once : (one other : End) (first second : Branch) → found one ≡ Some first → found other ≡ Some second
      → one.port.0 ≢ 0 → other.port.0 ≢ 0 → first.output ≡ second.output → one ≡ other

-- at each node of a world
abbrev pub branch_at : World → NodeId → Found
branch_at w node end = option_and_then (λ (site : Site). get site.switch.crossbar.branches end) (site_at w node)

abbrev pub IsFedOnce : World → Type 0
IsFedOnce w = (node : NodeId) → IsLed (branch_at w node) (queue_at w (Down node))
