use Rattle.std.proofs.Common.{◌≡◌, true, replicate, take}
use Rattle.atm_cells.specs.Polynomial.{bits}
use Rattle.atm_cells.proofs.Octets.{rest}
use Rattle.aal5_frames.specs.Crc.{crc_generator}
use Rattle.aal5_frames.proofs.crc.crc32.Given as goal

abbrev pub invariant-loop-octet : goal.invariant-loop-octet
invariant-loop-octet l = bits 32 l.register ≡ rest crc_generator (replicate 32 true) (take l.octet-index l.octets)
