use Rattle.std.proofs.Common.{◌∙◌, ◌+◌, ap, refl}
use Rattle.world.proofs.Stepped.{runs_on}
use Rattle.world.proofs.world.World.step.Goals as goal

pub returns-clause-runs : goal.returns-clause-runs
returns-clause-runs g c = runs_on g.C.NodeController.seen g.topology c.args.self.now c.act.new.self c.args.notes.now c.act.new.notes c.args.event.now c.requires.1.1.0 c.requires.1.1.1 c.in_ok-act.ensures.come
    _ refl refl refl refl refl refl refl refl refl

pub returns-clause-meter : goal.returns-clause-meter
returns-clause-meter g c = c.at.ensures ∙ ap (λ counts. record { events = c.act.new.self.events + 1; counts = counts }) (c.counts.ensures g.topology
    (runs_on g.C.NodeController.seen g.topology c.args.self.now c.act.new.self c.args.notes.now c.act.new.notes c.args.event.now c.requires.1.1.0 c.requires.1.1.1 c.in_ok-act.ensures.come
    (record { sites = c.act.new.self.sites; round = c.act.new.self.round; starts = c.act.new.self.starts; waiting = c.act.new.self.waiting; numbers = c.act.new.self.numbers; events = c.act.new.self.events + 1; sent = c.act.new.self.sent; tally = c.count.new.self; redirects = c.act.new.self.redirects; switched = c.act.new.self.switched })
    refl refl refl refl refl refl refl refl refl))
