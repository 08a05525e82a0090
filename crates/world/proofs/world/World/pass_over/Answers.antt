use Rattle.std.proofs.Common.{◌∙◌, ◌+◌, ap}
use Rattle.world.proofs.Empty.{runs_later}
use Rattle.world.proofs.world.World.pass_over.Goals as goal

pub returns-then-count-gt0-clause-runs : goal.returns-then-count-gt0-clause-runs
returns-then-count-gt0-clause-runs g c = runs_later g.C.NodeController.seen g.topology c.args.self.now c.args.count c.requires.1.1.0

pub returns-then-count-gt0-clause-meter : goal.returns-then-count-gt0-clause-meter
returns-then-count-gt0-clause-meter g c = λ some.
    c.at.ensures ∙ ap (λ counts. record { events = c.args.self.now.events + c.args.count; counts = counts })
    (c.counts.ensures g.topology (runs_later g.C.NodeController.seen g.topology c.args.self.now c.args.count c.requires.1.1.0))
