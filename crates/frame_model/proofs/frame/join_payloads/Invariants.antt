use Rattle.std.proofs.Common.{◌≡◌, ◌*◌, ◌++◌, length, take, drop}
use Rattle.frame_model.specs.Frame.{octets_of}
use Rattle.frame_model.proofs.frame.join_payloads.Given as goal

abbrev pub invariant-loop-k : goal.invariant-loop-k
invariant-loop-k l =
    (l.out ≡ octets_of (take l.k l.cells) ++ drop (48 * l.k) l.fn.out) × (length (octets_of (take l.k l.cells)) ≡ 48 * l.k)
