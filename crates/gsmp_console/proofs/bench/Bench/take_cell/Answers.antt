use Rattle.std.proofs.Common.{sym, ◌∙◌}
use Rattle.std.proofs.lemmas.Result.{on_ok_weaker}
use Rattle.gsmp_console.specs.contracts.bench.Bench.{the_view}
use Rattle.gsmp_console.proofs.Cells.{cell_held}
use Rattle.gsmp_console.proofs.bench.Bench.take_cell.Goals as goal

pub returns-in-Some-clause-taken : goal.returns-in-Some-clause-taken
returns-in-Some-clause-taken c =
    rw (← c.self.view_is) (on_ok_weaker c.hold.result (cell_held (the_view c.self.inside) c.args.notes.now c.args.cell.now _ c.take_cell.new.self c.take_cell.new.notes c.in-Some.held c.in_ok-held.ensures.reassembly c.in_ok-held.ensures.notes (sym c.in-Some.is ∙ c.in_ok-held.ensures.message)) c.hold.ensures.held)
