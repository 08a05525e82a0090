use Rattle.std.proofs.Common.{Ok, rules, ◌∙◌, arith}
use Rattle.aal5_frames.proofs.Trailer.{exactly}
use Rattle.aal5_frames.proofs.check.check_pdu.Goals as goal

pub returns-clause-ok : goal.returns-clause-ok
returns-clause-ok c =
    exactly c.args.octets.now (Ok c.from-length.result) (λ i. omega (arith, c.type_inv.octets i)) (search rules) (c.from-length.ensures ∙ c.from_be_bytes.ensures)
