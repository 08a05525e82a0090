use Rattle.std.proofs.Common.{◌≡◌, ◌++◌, length}
use Rattle.lab_text.specs.Words.{words}
use Rattle.call_edge.proofs.words.read_words.Given as goal

abbrev pub invariant-loop-word : goal.invariant-loop-word
invariant-loop-word l = l.found.items ++ words l.rest ≡ words l.fn.octets

abbrev pub decreases-loop-word : goal.decreases-loop-word
decreases-loop-word l = length l.rest
