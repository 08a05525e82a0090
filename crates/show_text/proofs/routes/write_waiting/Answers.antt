use Rattle.std.proofs.Common.{List, ap, ℕ}
use Rattle.script_model.specs.Writing.{change_words}
use Rattle.show_text.specs.Words.{spaced}
use Rattle.lab_text.proofs.Fronts.{begun, here_as, next, next_as, on_err, said}
use Rattle.show_text.proofs.routes.write_waiting.Goals as goal

pub returns-in_err-text-clause-err : goal.returns-in_err-text-clause-err
returns-in_err-text-clause-err c =
    said c.from_residual.result _ (begun _ _ _ c.in_err-text.ensures.err)

pub returns-in_err-write_change-clause-err : goal.returns-in_err-write_change-clause-err
returns-in_err-write_change-clause-err c =
    said c.from_residual-in_err-write_change.result _ (next _ _ _ _ _ c.in_ok-text.ensures.ok (here_as _ _ _ _ _ (ap (λ (name : List ℕ). spaced (change_words name c.args.change.now.prefix c.args.change.now.next)) c.name.ensures) c.in_err-write_change.ensures.err))

pub returns-in_err-text-2-clause-err : goal.returns-in_err-text-2-clause-err
returns-in_err-text-2-clause-err c =
    said c.from_residual-in_err-text-2.result _ (next _ _ _ _ _ c.in_ok-text.ensures.ok (next_as _ _ _ _ _ _ (ap (λ (name : List ℕ). spaced (change_words name c.args.change.now.prefix c.args.change.now.next)) c.name.ensures) c.in_ok-write_change.ensures.ok (begun _ _ _ c.in_err-text-2.ensures.err)))

pub returns-clause-err : goal.returns-clause-err
returns-clause-err c =
    on_err c.text-3.result _ _ (λ h. next _ _ _ _ _ c.in_ok-text.ensures.ok (next_as _ _ _ _ _ _ (ap (λ (name : List ℕ). spaced (change_words name c.args.change.now.prefix c.args.change.now.next)) c.name.ensures) c.in_ok-write_change.ensures.ok (next_as _ _ _ _ _ _ (c.begun_word.ensures) c.in_ok-text-2.ensures.ok (begun _ _ _ h)))) c.text-3.ensures.err
