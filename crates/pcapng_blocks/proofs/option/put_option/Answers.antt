use Rattle.pcapng_blocks.proofs.Parts.{option_parts, option_told}
use Rattle.lab_text.proofs.Fronts.{as_text, begun, next, said}
use Rattle.pcapng_blocks.proofs.option.put_option.Goals as goal

pub returns-clause-ok : goal.returns-clause-ok
returns-clause-ok c =
    option_told _ _ _ _ c.args.value.now c.args.code _ _ c.number_of.ensures c.min-held.ensures c.in_ok-put_u16.ensures.ok c.in_ok-put_u16-2.ensures.ok c.in_ok-put_padded.ensures.ok

pub returns-in_err-put_u16-clause-err : goal.returns-in_err-put_u16-clause-err
returns-in_err-put_u16-clause-err c =
    said c.from_residual.result _ (as_text _ _ _ _ (option_parts c.args.value.now c.args.code _ _ c.number_of.ensures c.min-held.ensures) (begun _ _ _ c.in_err-put_u16.ensures.err))

pub returns-in_err-put_u16-2-clause-err : goal.returns-in_err-put_u16-2-clause-err
returns-in_err-put_u16-2-clause-err c =
    said c.from_residual-in_err-put_u16-2.result _ (as_text _ _ _ _ (option_parts c.args.value.now c.args.code _ _ c.number_of.ensures c.min-held.ensures) (next _ _ _ _ _ c.in_ok-put_u16.ensures.ok (begun _ _ _ c.in_err-put_u16-2.ensures.err)))

pub returns-in_err-put_padded-clause-err : goal.returns-in_err-put_padded-clause-err
returns-in_err-put_padded-clause-err c =
    said c.from_residual-in_err-put_padded.result _ (as_text _ _ _ _ (option_parts c.args.value.now c.args.code _ _ c.number_of.ensures c.min-held.ensures) (next _ _ _ _ _ c.in_ok-put_u16.ensures.ok (next _ _ _ _ _ c.in_ok-put_u16-2.ensures.ok (c.in_err-put_padded.ensures.err))))
