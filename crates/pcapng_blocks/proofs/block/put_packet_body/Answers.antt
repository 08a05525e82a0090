use Rattle.pcapng_blocks.specs.Blocks.{opt_comment}
use Rattle.pcapng_blocks.proofs.Parts.{packet_parts}
use Rattle.lab_text.proofs.Fronts.{as_text, begun, here, next, on_err, said}
use Rattle.pcapng_blocks.proofs.block.put_packet_body.Goals as goal

pub returns-in_err-put_u32-clause-err : goal.returns-in_err-put_u32-clause-err
returns-in_err-put_u32-clause-err c =
    said c.from_residual.result _ (as_text _ _ _ _ (packet_parts c.args.interface c.args.timestamp c.args.packet.now (opt_comment c.args.comment.now)) (begun _ _ _ c.in_err-put_u32.ensures.err))

pub returns-in_err-put_time-clause-err : goal.returns-in_err-put_time-clause-err
returns-in_err-put_time-clause-err c =
    said c.from_residual-in_err-put_time.result _ (as_text _ _ _ _ (packet_parts c.args.interface c.args.timestamp c.args.packet.now (opt_comment c.args.comment.now)) (next _ _ _ _ _ c.in_ok-put_u32.ensures.ok (here _ _ _ _ c.in_err-put_time.ensures.err)))

pub returns-in_err-put_sized-clause-err : goal.returns-in_err-put_sized-clause-err
returns-in_err-put_sized-clause-err c =
    said c.from_residual-in_err-put_sized.result _ (as_text _ _ _ _ (packet_parts c.args.interface c.args.timestamp c.args.packet.now (opt_comment c.args.comment.now)) (next _ _ _ _ _ c.in_ok-put_u32.ensures.ok (next _ _ _ _ _ c.in_ok-put_time.ensures.ok (here _ _ _ _ c.in_err-put_sized.ensures.err))))

pub returns-in_err-put_option-clause-err : goal.returns-in_err-put_option-clause-err
returns-in_err-put_option-clause-err c =
    said c.from_residual-in_err-put_option.result _ (as_text _ _ _ _ (packet_parts c.args.interface c.args.timestamp c.args.packet.now (opt_comment c.args.comment.now)) (next _ _ _ _ _ c.in_ok-put_u32.ensures.ok (next _ _ _ _ _ c.in_ok-put_time.ensures.ok (next _ _ _ _ _ c.in_ok-put_sized.ensures.ok (here _ _ _ _ c.in_err-put_option.ensures.err)))))

pub returns-clause-err : goal.returns-clause-err
returns-clause-err c =
    on_err c.put_end_of_options.result _ _ (λ h. as_text _ _ _ _ (packet_parts c.args.interface c.args.timestamp c.args.packet.now (opt_comment c.args.comment.now)) (next _ _ _ _ _ c.in_ok-put_u32.ensures.ok (next _ _ _ _ _ c.in_ok-put_time.ensures.ok (next _ _ _ _ _ c.in_ok-put_sized.ensures.ok (next _ _ _ _ _ c.in_ok-put_option.ensures.ok (h)))))) c.put_end_of_options.ensures.err
