use Rattle.std.proofs.lemmas.Result.{on_ok_weaker}
use Rattle.gsmp_console.specs.contracts.bench.Bench.{the_view}
use Rattle.gsmp_console.proofs.Cells.{carried_up, not_carried_up}
use Rattle.gsmp_console.proofs.bench.Bench.carry_up.Goals as goal

pub returns-in-Some-clause-carried : goal.returns-in-Some-clause-carried
returns-in-Some-clause-carried c =
    rw (← c.self.view_is) (on_ok_weaker c.receive.result (carried_up (the_view c.self.inside) c.args.notes.now _ c.pop.new.self c.in-Some.cell c.in-Some.ensures.first c.in-Some.ensures.popped) c.receive.ensures.came)

pub returns-in-None-clause-carried : goal.returns-in-None-clause-carried
returns-in-None-clause-carried c =
    rw (← c.self.view_is) (not_carried_up (the_view c.self.inside) c.args.notes.now c.pop.new.self c.in-None.ensures.first c.in-None.ensures.popped)
