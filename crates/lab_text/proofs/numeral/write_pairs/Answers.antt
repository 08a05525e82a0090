use Rattle.std.proofs.Common.{arith}
use Rattle.lab_text.proofs.NumeralLemmas.{paired_is}
use Rattle.lab_text.proofs.numeral.write_pairs.Goals as goal

pub returns : goal.returns
returns c =
    paired_is c.args.digits.now c.loop-k.octets c.loop-k.invariant.0 (λ i within. c.loop-k.invariant.1 i (omega arith))
