use Rattle.std.proofs.Common.{◌≡◌, ◌+◌, ◌≤◌, ◌++◌, List, ℕ, length}
use Rattle.lab_text.specs.Lines.{lines_of}
use Rattle.message_text.specs.Listing.{IsListedFrom, fault_from}
use Rattle.message_text.proofs.listing.list_messages.Given as goal

abbrev pub invariant-loop-rest : goal.invariant-loop-rest
invariant-loop-rest l = record {
  counted : l.before + length l.rest ≤ 16777217;
  numbers : l.number ≤ l.before;
  listed : (text : List ℕ) → IsListedFrom l.protocol l.before l.number (lines_of l.rest) text
      → IsListedFrom l.fn.protocol 0 0 (lines_of l.fn.input) (l.out ++ text);
  fault : fault_from l.before (lines_of l.rest) ≡ fault_from 0 (lines_of l.fn.input);
}

abbrev pub decreases-loop-rest : goal.decreases-loop-rest
decreases-loop-rest l = length l.rest
