use Rattle.std.proofs.Common.{◌≡◌, [], take}
use Rattle.atm_cells.specs.Cell.{hec_generator}
use Rattle.atm_cells.specs.Polynomial.{bits}
use Rattle.atm_cells.proofs.Octets.{rest}
use Rattle.atm_cells.proofs.hec.hec.Given as goal

abbrev pub invariant-loop-octet : goal.invariant-loop-octet
invariant-loop-octet l = bits 8 l.remainder ≡ rest hec_generator [] (take l.octet-index l.header)
