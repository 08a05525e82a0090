use Rattle.std.proofs.Common.{refl}
use Rattle.pcapng_blocks.specs.Blocks.{shb_userappl}
use Rattle.pcapng_blocks.proofs.Parts.{section_parts}
use Rattle.lab_text.proofs.Fronts.{as_text, begun, here, next, on_err, said}
use Rattle.pcapng_blocks.proofs.block.put_section_body.Goals as goal

pub returns-in_err-put_u32-clause-err : goal.returns-in_err-put_u32-clause-err
returns-in_err-put_u32-clause-err c =
    said c.from_residual.result _ (as_text _ _ _ _ (section_parts _ (shb_userappl c.args.application.now) refl) (begun _ _ _ c.in_err-put_u32.ensures.err))

pub returns-in_err-put_u16-clause-err : goal.returns-in_err-put_u16-clause-err
returns-in_err-put_u16-clause-err c =
    said c.from_residual-in_err-put_u16.result _ (as_text _ _ _ _ (section_parts _ (shb_userappl c.args.application.now) refl) (next _ _ _ _ _ c.in_ok-put_u32.ensures.ok (begun _ _ _ c.in_err-put_u16.ensures.err)))

pub returns-in_err-put_u16-2-clause-err : goal.returns-in_err-put_u16-2-clause-err
returns-in_err-put_u16-2-clause-err c =
    said c.from_residual-in_err-put_u16-2.result _ (as_text _ _ _ _ (section_parts _ (shb_userappl c.args.application.now) refl) (next _ _ _ _ _ c.in_ok-put_u32.ensures.ok (next _ _ _ _ _ c.in_ok-put_u16.ensures.ok (begun _ _ _ c.in_err-put_u16-2.ensures.err))))

pub returns-in_err-extend_from_slice-clause-err : goal.returns-in_err-extend_from_slice-clause-err
returns-in_err-extend_from_slice-clause-err c =
    said c.from_residual-in_err-extend_from_slice.result _ (as_text _ _ _ _ (section_parts _ (shb_userappl c.args.application.now) refl) (next _ _ _ _ _ c.in_ok-put_u32.ensures.ok (next _ _ _ _ _ c.in_ok-put_u16.ensures.ok (next _ _ _ _ _ c.in_ok-put_u16-2.ensures.ok (begun _ _ _ c.in_err-extend_from_slice.ensures.items)))))

pub returns-in_err-put_option-clause-err : goal.returns-in_err-put_option-clause-err
returns-in_err-put_option-clause-err c =
    said c.from_residual-in_err-put_option.result _ (as_text _ _ _ _ (section_parts _ (shb_userappl c.args.application.now) refl) (next _ _ _ _ _ c.in_ok-put_u32.ensures.ok (next _ _ _ _ _ c.in_ok-put_u16.ensures.ok (next _ _ _ _ _ c.in_ok-put_u16-2.ensures.ok (next _ _ _ _ _ c.in_ok-extend_from_slice.ensures.items (here _ _ _ _ c.in_err-put_option.ensures.err))))))

pub returns-clause-err : goal.returns-clause-err
returns-clause-err c =
    on_err c.put_end_of_options.result _ _ (λ h. as_text _ _ _ _ (section_parts _ (shb_userappl c.args.application.now) refl) (next _ _ _ _ _ c.in_ok-put_u32.ensures.ok (next _ _ _ _ _ c.in_ok-put_u16.ensures.ok (next _ _ _ _ _ c.in_ok-put_u16-2.ensures.ok (next _ _ _ _ _ c.in_ok-extend_from_slice.ensures.items (next _ _ _ _ _ c.in_ok-put_option.ensures.ok (h))))))) c.put_end_of_options.ensures.err
