use Rattle.std.proofs.Common.{arith}
use Rattle.pcapng_blocks.proofs.Lengths.{section_length}
use Rattle.pcapng_blocks.proofs.Parts.{block_parts, block_told}
use Rattle.lab_text.proofs.Fronts.{as_text, begun, here, next, said}
use Rattle.pcapng_blocks.proofs.block.write_section_header.Goals as goal

pub returns-clause-ok : goal.returns-clause-ok
returns-clause-ok c =
    block_told _ _ _ _ _ _ _ _ c.in_ok-put_u32.ensures.ok c.in_ok-put_u32-2.ensures.ok c.in_ok-put_section_body.ensures.ok c.in_ok-put_u32-3.ensures.ok
    (omega (arith, section_length c.args.application.now, c.option_length.ensures.len))

pub returns-in_err-put_u32-clause-err : goal.returns-in_err-put_u32-clause-err
returns-in_err-put_u32-clause-err c =
    said c.from_residual.result _ (begun _ _ _ c.in_err-put_u32.ensures.err)

pub returns-in_err-put_u32-2-clause-err : goal.returns-in_err-put_u32-2-clause-err
returns-in_err-put_u32-2-clause-err c =
    said c.from_residual-in_err-put_u32-2.result _ (next _ _ _ _ _ c.in_ok-put_u32.ensures.ok (begun _ _ _ c.in_err-put_u32-2.ensures.err))

pub returns-in_err-put_section_body-clause-err : goal.returns-in_err-put_section_body-clause-err
returns-in_err-put_section_body-clause-err c =
    said c.from_residual-in_err-put_section_body.result _ (as_text _ _ _ _ (block_parts _ 0x0A0D0D0A _ (omega (arith, section_length c.args.application.now, c.option_length.ensures.len))) (next _ _ _ _ _ c.in_ok-put_u32.ensures.ok (next _ _ _ _ _ c.in_ok-put_u32-2.ensures.ok (here _ _ _ _ c.in_err-put_section_body.ensures.err))))

pub returns-in_err-put_u32-3-clause-err : goal.returns-in_err-put_u32-3-clause-err
returns-in_err-put_u32-3-clause-err c =
    said c.from_residual-in_err-put_u32-3.result _ (as_text _ _ _ _ (block_parts _ 0x0A0D0D0A _ (omega (arith, section_length c.args.application.now, c.option_length.ensures.len))) (next _ _ _ _ _ c.in_ok-put_u32.ensures.ok (next _ _ _ _ _ c.in_ok-put_u32-2.ensures.ok (next _ _ _ _ _ c.in_ok-put_section_body.ensures.ok (begun _ _ _ c.in_err-put_u32-3.ensures.err)))))
