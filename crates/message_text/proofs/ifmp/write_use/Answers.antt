use Rattle.std.proofs.Common.{take, ap, sym, ◌∙◌}
use Rattle.std.proofs.lemmas.List.{take_at}
use Rattle.message_text.specs.Fields.{named_octets}
use Rattle.message_text.specs.Ifmp.{use_text}
use Rattle.lab_text.proofs.Fronts.{as_text, here, next, on_err, said}
use Rattle.message_text.proofs.ifmp.write_use.Goals as goal

pub returns-in_err-write_channel-clause-err : goal.returns-in_err-write_channel-clause-err
unfolding use_text
returns-in_err-write_channel-clause-err c =
    said c.from_residual.result _ (here _ _ _ _ c.in_err-write_channel.ensures.err)

pub returns-clause-err : goal.returns-clause-err
unfolding use_text
returns-clause-err c =
    on_err c.write_octets.result _ _ (λ h. next _ _ _ _ _ c.in_ok-write_channel.ensures.ok
    (as_text _ _ _ _ (ap (named_octets _) (ap (take c.write_identifier-size.result) c.write_identifier-size.ensures.written ∙ take_at _ _ _ (sym c.write_identifier-size.ensures.len))) h)) c.write_octets.ensures.err
