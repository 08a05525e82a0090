use Rattle.std.proofs.Common.{◌≡◌, ◌-◌, ◌++◌, ℕ, List, Some, Result, length, take, drop, ap, sym, subst, ◌∙◌, arith}
use Rattle.std.proofs.lemmas.List.{take_all, length-drop}
use Rattle.std.specs.Result.{result_err}
use Rattle.ifmp_wire.specs.declared.message.Message.{Message}
use Rattle.ifmp_wire.specs.declared.reader.Fault.{Fault}
use Rattle.ifmp_wire.specs.Message.{Tells}
use Rattle.ifmp_wire.specs.Tests.{first_fault}
use Rattle.message_text.proofs.Answers.{on_ok}
use Rattle.frame_words.specs.Frame.{message_or}
use Rattle.frame_words.proofs.Readings.{message_refused, message_told}
use Rattle.frame_words.proofs.packet.write_control.Goals as goal

pub returns-in-Ok : goal.returns-in-Ok
returns-in-Ok c =
    let p = c.args.packet.now in
    let m = c.in-Ok.message in
    let whole : take (length p - 20) (drop 20 p) ≡ drop 20 p = take_all (length p - 20) (drop 20 p) (rw length-drop (omega arith)) in
    let told = subst (λ (part : List ℕ). Tells part m) whole ((c.decode.ensures.ok m).0 c.in-Ok.is) in
    on_ok c.write_ifmp.result _ _ (λ is. is ∙ ap (λ (r : Result Message Fault). c.args.out.now ++ message_or p r) (sym (message_told (drop 20 p) m told))) c.write_ifmp.ensures.ok

pub returns-in-Err : goal.returns-in-Err
returns-in-Err c =
    let p = c.args.packet.now in
    let fault = c.in-Err.field-0 in
    let whole : take (length p - 20) (drop 20 p) ≡ drop 20 p = take_all (length p - 20) (drop 20 p) (rw length-drop (omega arith)) in
    let fails : first_fault (drop 20 p) ≡ Some fault = ap first_fault (sym whole) ∙ sym c.decode.ensures.fault ∙ ap result_err c.in-Err.is in
    on_ok c.write_fields.result _ _ (λ is. is ∙ ap (λ (r : Result Message Fault). c.args.out.now ++ message_or p r) (sym (message_refused (drop 20 p) fault fails))) c.write_fields.ensures
