use Rattle.branch_desk.specs.port_model.Labels.{Label}
use Rattle.branch_desk.specs.port_model.Ticks.{is_unpassed}
use Rattle.port_session.proofs.Passing.{any_there, none_more}
use Rattle.port_session.proofs.session.Session.wants_ack.Goals as goal

pub returns-then-is_unpassed_at : goal.returns-then-is_unpassed_at
returns-then-is_unpassed_at c =
    any_there (λ (label : Label). is_unpassed c.args.self.now.session.known label.state) c.args.self.now.session.labels c.loop-place.place c.is_unpassed_at.result c.is_unpassed_at.ensures
    (rw c.held-place-end.ensures at c.loop-place-test.true) c.if-is_unpassed_at.true

pub loop-place-preserved : goal.loop-place-preserved
loop-place-preserved c =
    none_more (λ (label : Label). is_unpassed c.args.self.now.session.known label.state) c.args.self.now.session.labels c.loop-place.place c.is_unpassed_at.result c.loop-place.invariant c.is_unpassed_at.ensures
    (rw c.held-place-end.ensures at c.loop-place-test.true) c.if-is_unpassed_at.false
