use Rattle.std.proofs.Common.{ap, ◌∙◌}
use Rattle.std.proofs.lemmas.Result.{on_ok_weaker}
use Rattle.gsmp_console.specs.Bench.{Held, carried_first, lab_in}
use Rattle.gsmp_console.specs.contracts.bench.Bench.{the_view}
use Rattle.gsmp_console.proofs.Cells.{carried_down, not_carried_down}
use Rattle.gsmp_console.proofs.bench.Bench.carry_down.Goals as goal

pub returns-in-Some-clause-carried : goal.returns-in-Some-clause-carried
returns-in-Some-clause-carried c =
    on_ok_weaker c.reach.result
    (λ e. carried_down (the_view c.self.inside) c.args.notes.now (lab_in c.reach.new.self c.reach.new.notes) c.pop.new.self c.in-Some.cell c.in-Some.ensures.first c.in-Some.ensures.popped e
    ∙ ap (λ (h : Held). carried_first (lab_in h c.args.notes.now)) c.self.view_is)
    c.reach.ensures.came

pub returns-in-None-clause-carried : goal.returns-in-None-clause-carried
returns-in-None-clause-carried c =
    not_carried_down (the_view c.self.inside) c.args.notes.now c.pop.new.self c.in-None.ensures.first c.in-None.ensures.popped
    ∙ ap (λ (h : Held). carried_first (lab_in h c.args.notes.now)) c.self.view_is
