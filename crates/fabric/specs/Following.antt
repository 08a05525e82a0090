-- The branches of a switch one by one, in the order of their inputs.

use Rattle.std.specs.Prelude.{Bool, true, List, map, find, Option, None, Some}
use Rattle.std.specs.Ordering.{is_lt}
use Rattle.std.specs.FinMap.{entries}
use Rattle.net_types.specs.declared.channel.End.{End}
use Rattle.crossbar_model.specs.Channels.{end_cmp}
use Rattle.crossbar_model.specs.Crossbar.{Branches}

-- an input stands behind another in the order of port, VPI and VCI; where there is no other, it does
abbrev pub is_behind : (other : Option End) → End → Bool
is_behind None input = true
is_behind (Some other) input = is_lt (end_cmp other input)

-- each branch in the order of their inputs: the input, and where its cells go
abbrev pub branches_of : Branches → List (End × End)
branches_of m = map (λ e. (e.0, e.1.output)) (entries m)

-- the first branch whose input stands behind another; where there is no other, the first of all
abbrev pub branch_behind : Branches → (other : Option End) → Option (End × End)
branch_behind m other = find (λ b. is_behind other b.0) (branches_of m)
