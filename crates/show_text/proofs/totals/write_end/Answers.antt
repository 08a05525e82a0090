use Rattle.std.proofs.Common.{append_assoc, codes}
use Rattle.std.specs.Prelude.{decimal}
use Rattle.lab_text.proofs.Fronts.{as_text, begun, here, next, on_err, said}
use Rattle.show_text.proofs.totals.write_end.Goals as goal

pub returns-in_err-write_number-clause-err : goal.returns-in_err-write_number-clause-err
returns-in_err-write_number-clause-err c =
    said c.from_residual.result _ (as_text _ _ _ _ (append_assoc (codes "end nodes ") (decimal c.args.totals.now.nodes) _) (here _ _ _ _ c.in_err-write_number.ensures.err))

pub returns-in_err-write_number-2-clause-err : goal.returns-in_err-write_number-2-clause-err
returns-in_err-write_number-2-clause-err c =
    said c.from_residual-in_err-write_number-2.result _ (as_text _ _ _ _ (append_assoc (codes "end nodes ") (decimal c.args.totals.now.nodes) _) (next _ _ _ _ _ c.in_ok-write_number.ensures.ok (as_text _ _ _ _ (append_assoc (codes " labels ") (decimal c.args.totals.now.labels) _) (here _ _ _ _ c.in_err-write_number-2.ensures.err))))

pub returns-in_err-write_number-3-clause-err : goal.returns-in_err-write_number-3-clause-err
returns-in_err-write_number-3-clause-err c =
    said c.from_residual-in_err-write_number-3.result _ (as_text _ _ _ _ (append_assoc (codes "end nodes ") (decimal c.args.totals.now.nodes) _) (next _ _ _ _ _ c.in_ok-write_number.ensures.ok (as_text _ _ _ _ (append_assoc (codes " labels ") (decimal c.args.totals.now.labels) _) (next _ _ _ _ _ c.in_ok-write_number-2.ensures.ok (as_text _ _ _ _ (append_assoc (codes " grants ") (decimal c.args.totals.now.grants) _) (here _ _ _ _ c.in_err-write_number-3.ensures.err))))))

pub returns-in_err-write_number-4-clause-err : goal.returns-in_err-write_number-4-clause-err
returns-in_err-write_number-4-clause-err c =
    said c.from_residual-in_err-write_number-4.result _ (as_text _ _ _ _ (append_assoc (codes "end nodes ") (decimal c.args.totals.now.nodes) _) (next _ _ _ _ _ c.in_ok-write_number.ensures.ok (as_text _ _ _ _ (append_assoc (codes " labels ") (decimal c.args.totals.now.labels) _) (next _ _ _ _ _ c.in_ok-write_number-2.ensures.ok (as_text _ _ _ _ (append_assoc (codes " grants ") (decimal c.args.totals.now.grants) _) (next _ _ _ _ _ c.in_ok-write_number-3.ensures.ok (as_text _ _ _ _ (append_assoc (codes " branches ") (decimal c.args.totals.now.branches) _) (here _ _ _ _ c.in_err-write_number-4.ensures.err))))))))

pub returns-in_err-write_number-5-clause-err : goal.returns-in_err-write_number-5-clause-err
returns-in_err-write_number-5-clause-err c =
    said c.from_residual-in_err-write_number-5.result _ (as_text _ _ _ _ (append_assoc (codes "end nodes ") (decimal c.args.totals.now.nodes) _) (next _ _ _ _ _ c.in_ok-write_number.ensures.ok (as_text _ _ _ _ (append_assoc (codes " labels ") (decimal c.args.totals.now.labels) _) (next _ _ _ _ _ c.in_ok-write_number-2.ensures.ok (as_text _ _ _ _ (append_assoc (codes " grants ") (decimal c.args.totals.now.grants) _) (next _ _ _ _ _ c.in_ok-write_number-3.ensures.ok (as_text _ _ _ _ (append_assoc (codes " branches ") (decimal c.args.totals.now.branches) _) (next _ _ _ _ _ c.in_ok-write_number-4.ensures.ok (as_text _ _ _ _ (append_assoc (codes " cells ") (decimal c.args.totals.now.cells) _) (here _ _ _ _ c.in_err-write_number-5.ensures.err))))))))))

pub returns-clause-err : goal.returns-clause-err
returns-clause-err c =
    on_err c.text.result _ _ (λ h. as_text _ _ _ _ (append_assoc (codes "end nodes ") (decimal c.args.totals.now.nodes) _) (next _ _ _ _ _ c.in_ok-write_number.ensures.ok (as_text _ _ _ _ (append_assoc (codes " labels ") (decimal c.args.totals.now.labels) _) (next _ _ _ _ _ c.in_ok-write_number-2.ensures.ok (as_text _ _ _ _ (append_assoc (codes " grants ") (decimal c.args.totals.now.grants) _) (next _ _ _ _ _ c.in_ok-write_number-3.ensures.ok (as_text _ _ _ _ (append_assoc (codes " branches ") (decimal c.args.totals.now.branches) _) (next _ _ _ _ _ c.in_ok-write_number-4.ensures.ok (as_text _ _ _ _ (append_assoc (codes " cells ") (decimal c.args.totals.now.cells) _) (next _ _ _ _ _ c.in_ok-write_number-5.ensures.ok (begun _ _ _ h))))))))))) c.text.ensures.err
