use Rattle.std.proofs.Common.{Result, Ok, Err, Some, sym, ap}
use Rattle.std.specs.Result.{IfOk}
use Rattle.topology.proofs.topology.Topology.ranges.Goals as goal

-- what follows where a call succeeds
weaker : {T E : Type 0} (P Q : T → Type 0) (r : Result T E) → ((x : T) → P x → Q x) → IfOk r P → IfOk r Q
weaker P Q (Ok x) next h = next x h
weaker P Q (Err e) next h = h

pub returns : goal.returns
returns c = weaker _ _ c.linked_ranges.result (λ ranges same. rw (c.node.ensures, ← c.self.view_is) (ap Some (sym same))) c.linked_ranges.ensures
