use Rattle.std.proofs.Common.{ap, sym, ◌∙◌}
use Rattle.std.proofs.lemmas.Result.{on_ok_weaker}
use Rattle.console_model.specs.declared.event.Side.TheVariants as side
use Rattle.console_model.specs.Steps.{loses}
use Rattle.gsmp_console.specs.Bench.{Held, lab_in}
use Rattle.gsmp_console.specs.contracts.bench.Bench.{the_view}
use Rattle.gsmp_console.proofs.Cells.{lost_up, not_lost_up}
use Rattle.gsmp_console.proofs.bench.Bench.lose_up.Goals as goal

pub returns-clause-lost : goal.returns-clause-lost
returns-clause-lost c =
    on_ok_weaker c.note_lost.result
    (λ e. lost_up (the_view c.self.inside) c.args.notes.now c.pop.new.self c.note_lost.new.notes c.in-Some.cell c.in-Some.ensures.first c.in-Some.ensures.popped e
    ∙ ap (λ (h : Held). loses (lab_in h c.args.notes.now) side.Switch) c.self.view_is)
    c.note_lost.ensures

pub returns-in_default-clause-lost : goal.returns-in_default-clause-lost
returns-in_default-clause-lost c =
    not_lost_up (the_view c.self.inside) c.args.notes.now c.pop.new.self (sym c.in_default.is ∙ c.pop.ensures.first) c.pop.ensures.popped
    ∙ ap (λ (h : Held). loses (lab_in h c.args.notes.now) side.Switch) c.self.view_is
