use Rattle.std.proofs.Common.{◌++◌, refl, ap, ◌∙◌}
use Rattle.link_model.specs.declared.record.Refusal.{Refusal}
use Rattle.message_text.specs.Listing.{refuse_text}
use Rattle.message_text.proofs.Answers.{gsmp_refused, on_ok}
use Rattle.message_text.proofs.listing.answer_gsmp.Goals as goal

pub returns-in_ok-write_refuse-in-Err : goal.returns-in_ok-write_refuse-in-Err
returns-in_ok-write_refuse-in-Err c =
    on_ok c.text-in-Err.result _ _
    (λ ended. gsmp_refused c.args.octets.now c.args.out.now c.write_refuse.new.out c.text-in-Err.new.self c.in-Err.fault ((c.in-Err.ensures.refused c.in-Err.fault).0 refl)
    (c.in_ok-write_refuse-in-Err.ensures ∙ ap (λ (name : Refusal). c.args.out.now ++ refuse_text name) c.gsmp_refusal.ensures) ended)
    c.text-in-Err.ensures.ok
