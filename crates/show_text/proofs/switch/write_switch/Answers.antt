use Rattle.std.proofs.Common.{append_assoc, codes}
use Rattle.std.specs.Prelude.{decimal}
use Rattle.lab_text.proofs.Fronts.{as_text, begun, here, next, next_as, on_err, said}
use Rattle.show_text.proofs.switch.write_switch.Goals as goal

pub returns-in_err-text-clause-err : goal.returns-in_err-text-clause-err
returns-in_err-text-clause-err c =
    said c.from_residual.result _ (begun _ _ _ c.in_err-text.ensures.err)

pub returns-in_err-write_name-clause-err : goal.returns-in_err-write_name-clause-err
returns-in_err-write_name-clause-err c =
    said c.from_residual-in_err-write_name.result _ (next _ _ _ _ _ c.in_ok-text.ensures.ok (begun _ _ _ c.in_err-write_name.ensures.err))

pub returns-in_err-text-2-clause-err : goal.returns-in_err-text-2-clause-err
returns-in_err-text-2-clause-err c =
    said c.from_residual-in_err-text-2.result _ (next _ _ _ _ _ c.in_ok-text.ensures.ok (next _ _ _ _ _ c.in_ok-write_name.ensures.ok (begun _ _ _ c.in_err-text-2.ensures.err)))

pub returns-in_err-text-3-clause-err : goal.returns-in_err-text-3-clause-err
returns-in_err-text-3-clause-err c =
    said c.from_residual-in_err-text-3.result _ (next _ _ _ _ _ c.in_ok-text.ensures.ok (next _ _ _ _ _ c.in_ok-write_name.ensures.ok (next _ _ _ _ _ c.in_ok-text-2.ensures.ok (begun _ _ _ c.in_err-text-3.ensures.err))))

pub returns-in_err-write_number-clause-err : goal.returns-in_err-write_number-clause-err
returns-in_err-write_number-clause-err c =
    said c.from_residual-in_err-write_number.result _ (next _ _ _ _ _ c.in_ok-text.ensures.ok (next _ _ _ _ _ c.in_ok-write_name.ensures.ok (next _ _ _ _ _ c.in_ok-text-2.ensures.ok (next_as _ _ _ _ _ _ (c.state_word.ensures) c.in_ok-text-3.ensures.ok (as_text _ _ _ _ (append_assoc (codes " switched ") (decimal c.args.switched) _) (here _ _ _ _ c.in_err-write_number.ensures.err))))))

pub returns-in_err-write_slots-clause-err : goal.returns-in_err-write_slots-clause-err
returns-in_err-write_slots-clause-err c =
    said c.from_residual-in_err-write_slots.result _ (next _ _ _ _ _ c.in_ok-text.ensures.ok (next _ _ _ _ _ c.in_ok-write_name.ensures.ok (next _ _ _ _ _ c.in_ok-text-2.ensures.ok (next_as _ _ _ _ _ _ (c.state_word.ensures) c.in_ok-text-3.ensures.ok (as_text _ _ _ _ (append_assoc (codes " switched ") (decimal c.args.switched) _) (next _ _ _ _ _ c.in_ok-write_number.ensures.ok (here _ _ _ _ c.in_err-write_slots.ensures.err)))))))

pub returns-clause-err : goal.returns-clause-err
returns-clause-err c =
    on_err c.text-4.result _ _ (λ h. next _ _ _ _ _ c.in_ok-text.ensures.ok (next _ _ _ _ _ c.in_ok-write_name.ensures.ok (next _ _ _ _ _ c.in_ok-text-2.ensures.ok (next_as _ _ _ _ _ _ (c.state_word.ensures) c.in_ok-text-3.ensures.ok (as_text _ _ _ _ (append_assoc (codes " switched ") (decimal c.args.switched) _) (next _ _ _ _ _ c.in_ok-write_number.ensures.ok (next _ _ _ _ _ c.in_ok-write_slots.ensures.ok (begun _ _ _ h)))))))) c.text-4.ensures.err
