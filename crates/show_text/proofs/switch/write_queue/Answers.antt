use Rattle.std.proofs.Common.{[], append_assoc, arith, codes, ◌∷◌}
use Rattle.std.specs.Prelude.{decimal}
use Rattle.std.proofs.lemmas.Bool.Decides.{nat_tests}
use Rattle.lab_text.specs.Text.{line_of}
use Rattle.script_model.specs.Texts.{place_text}
use Rattle.lab_text.proofs.Fronts.{as_text, here, next, said}
use Rattle.show_text.proofs.Queues.{queue_is}
use Rattle.show_text.proofs.switch.write_queue.Goals as goal

pub returns-in_err-write_place-clause-err : goal.returns-in_err-write_place-clause-err
returns-in_err-write_place-clause-err c =
    said c.from_residual-in_err-write_place.result _ (as_text _ _ _ _ (queue_is c.args.names.now c.args.place c.args.cells (grind (arith, nat_tests, c.if-cells-eq0.false))) (next _ _ (codes "queue ") (line_of (place_text c.args.names.now c.args.place ∷ decimal c.args.cells ∷ [])) _ c.in_ok-text.ensures.ok (here _ _ _ _ c.in_err-write_place.ensures.err)))

pub returns-in_err-write_number-clause-err : goal.returns-in_err-write_number-clause-err
returns-in_err-write_number-clause-err c =
    said c.from_residual-in_err-write_number.result _ (as_text _ _ _ _ (queue_is c.args.names.now c.args.place c.args.cells (grind (arith, nat_tests, c.if-cells-eq0.false))) (next _ _ (codes "queue ") (line_of (place_text c.args.names.now c.args.place ∷ decimal c.args.cells ∷ [])) _ c.in_ok-text.ensures.ok (next _ _ _ _ _ c.in_ok-write_place.ensures.ok (as_text _ _ _ _ (append_assoc (codes " ") (decimal c.args.cells) (codes "\n")) (here _ _ _ _ c.in_err-write_number.ensures.err)))))
