use Rattle.pcapng_blocks.specs.Blocks.{if_description, if_name, if_tsresol}
use Rattle.pcapng_blocks.proofs.Parts.{interface_parts, interface_told, on_ok}
use Rattle.lab_text.proofs.Fronts.{as_text, begun, here, next, on_err, said}
use Rattle.pcapng_blocks.proofs.block.put_interface_body.Goals as goal

pub returns-clause-ok : goal.returns-clause-ok
returns-clause-ok c =
    on_ok c.put_end_of_options.result _ _
    (interface_told _ _ _ _ _ _ _ _ c.args.link_type (if_name c.args.name.now) (if_description c.args.description.now) (if_tsresol c.args.resolution) c.in_ok-put_u16.ensures.ok c.in_ok-put_u16-2.ensures.ok c.in_ok-put_u32.ensures.ok c.in_ok-put_option.ensures.ok c.in_ok-put_option-2.ensures.ok c.in_ok-put_option-3.ensures.ok)
    c.put_end_of_options.ensures.ok

pub returns-in_err-put_u16-clause-err : goal.returns-in_err-put_u16-clause-err
returns-in_err-put_u16-clause-err c =
    said c.from_residual.result _ (as_text _ _ _ _ (interface_parts c.args.link_type (if_name c.args.name.now) (if_description c.args.description.now) (if_tsresol c.args.resolution)) (begun _ _ _ c.in_err-put_u16.ensures.err))

pub returns-in_err-put_u16-2-clause-err : goal.returns-in_err-put_u16-2-clause-err
returns-in_err-put_u16-2-clause-err c =
    said c.from_residual-in_err-put_u16-2.result _ (as_text _ _ _ _ (interface_parts c.args.link_type (if_name c.args.name.now) (if_description c.args.description.now) (if_tsresol c.args.resolution)) (next _ _ _ _ _ c.in_ok-put_u16.ensures.ok (begun _ _ _ c.in_err-put_u16-2.ensures.err)))

pub returns-in_err-put_u32-clause-err : goal.returns-in_err-put_u32-clause-err
returns-in_err-put_u32-clause-err c =
    said c.from_residual-in_err-put_u32.result _ (as_text _ _ _ _ (interface_parts c.args.link_type (if_name c.args.name.now) (if_description c.args.description.now) (if_tsresol c.args.resolution)) (next _ _ _ _ _ c.in_ok-put_u16.ensures.ok (next _ _ _ _ _ c.in_ok-put_u16-2.ensures.ok (begun _ _ _ c.in_err-put_u32.ensures.err))))

pub returns-in_err-put_option-clause-err : goal.returns-in_err-put_option-clause-err
returns-in_err-put_option-clause-err c =
    said c.from_residual-in_err-put_option.result _ (as_text _ _ _ _ (interface_parts c.args.link_type (if_name c.args.name.now) (if_description c.args.description.now) (if_tsresol c.args.resolution)) (next _ _ _ _ _ c.in_ok-put_u16.ensures.ok (next _ _ _ _ _ c.in_ok-put_u16-2.ensures.ok (next _ _ _ _ _ c.in_ok-put_u32.ensures.ok (here _ _ _ _ c.in_err-put_option.ensures.err)))))

pub returns-in_err-put_option-2-clause-err : goal.returns-in_err-put_option-2-clause-err
returns-in_err-put_option-2-clause-err c =
    said c.from_residual-in_err-put_option-2.result _ (as_text _ _ _ _ (interface_parts c.args.link_type (if_name c.args.name.now) (if_description c.args.description.now) (if_tsresol c.args.resolution)) (next _ _ _ _ _ c.in_ok-put_u16.ensures.ok (next _ _ _ _ _ c.in_ok-put_u16-2.ensures.ok (next _ _ _ _ _ c.in_ok-put_u32.ensures.ok (next _ _ _ _ _ c.in_ok-put_option.ensures.ok (here _ _ _ _ c.in_err-put_option-2.ensures.err))))))

pub returns-in_err-put_option-3-clause-err : goal.returns-in_err-put_option-3-clause-err
returns-in_err-put_option-3-clause-err c =
    said c.from_residual-in_err-put_option-3.result _ (as_text _ _ _ _ (interface_parts c.args.link_type (if_name c.args.name.now) (if_description c.args.description.now) (if_tsresol c.args.resolution)) (next _ _ _ _ _ c.in_ok-put_u16.ensures.ok (next _ _ _ _ _ c.in_ok-put_u16-2.ensures.ok (next _ _ _ _ _ c.in_ok-put_u32.ensures.ok (next _ _ _ _ _ c.in_ok-put_option.ensures.ok (next _ _ _ _ _ c.in_ok-put_option-2.ensures.ok (here _ _ _ _ c.in_err-put_option-3.ensures.err)))))))

pub returns-clause-err : goal.returns-clause-err
returns-clause-err c =
    on_err c.put_end_of_options.result _ _ (λ h. as_text _ _ _ _ (interface_parts c.args.link_type (if_name c.args.name.now) (if_description c.args.description.now) (if_tsresol c.args.resolution)) (next _ _ _ _ _ c.in_ok-put_u16.ensures.ok (next _ _ _ _ _ c.in_ok-put_u16-2.ensures.ok (next _ _ _ _ _ c.in_ok-put_u32.ensures.ok (next _ _ _ _ _ c.in_ok-put_option.ensures.ok (next _ _ _ _ _ c.in_ok-put_option-2.ensures.ok (next _ _ _ _ _ c.in_ok-put_option-3.ensures.ok (h)))))))) c.put_end_of_options.ensures.err
