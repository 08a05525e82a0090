use Rattle.pcapng_blocks.specs.Blocks.{sized_octets}
use Rattle.pcapng_blocks.proofs.Parts.{three_parts}
use Rattle.lab_text.proofs.Fronts.{begun, next, said}
use Rattle.pcapng_blocks.proofs.block.put_sized.Goals as goal

pub returns-clause-ok : goal.returns-clause-ok
unfolding sized_octets
returns-clause-ok c =
    three_parts _ _ _ _ _ _ _ c.in_ok-put_u32.ensures.ok c.in_ok-put_u32-2.ensures.ok c.in_ok-put_padded.ensures.ok

pub returns-in_err-put_u32-clause-err : goal.returns-in_err-put_u32-clause-err
unfolding sized_octets
returns-in_err-put_u32-clause-err c =
    said c.from_residual.result _ (begun _ _ _ c.in_err-put_u32.ensures.err)

pub returns-in_err-put_u32-2-clause-err : goal.returns-in_err-put_u32-2-clause-err
unfolding sized_octets
returns-in_err-put_u32-2-clause-err c =
    said c.from_residual-in_err-put_u32-2.result _ (next _ _ _ _ _ c.in_ok-put_u32.ensures.ok (begun _ _ _ c.in_err-put_u32-2.ensures.err))

pub returns-in_err-put_padded-clause-err : goal.returns-in_err-put_padded-clause-err
unfolding sized_octets
returns-in_err-put_padded-clause-err c =
    said c.from_residual-in_err-put_padded.result _ (next _ _ _ _ _ c.in_ok-put_u32.ensures.ok (next _ _ _ _ _ c.in_ok-put_u32-2.ensures.ok (c.in_err-put_padded.ensures.err)))
