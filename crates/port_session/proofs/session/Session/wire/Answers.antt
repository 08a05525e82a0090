use Rattle.std.proofs.Common.{sym}
use Rattle.port_labels.specs.Book.{wiring}
use Rattle.port_session.proofs.Spares.{lowest_absent, tied_taken}
use Rattle.port_session.proofs.session.Session.wire.Goals as goal

pub enter-requires-clause-absent : goal.enter-requires-clause-absent
enter-requires-clause-absent c = lowest_absent c.session.inside.pool c.session.inside.book c.in-Some.label.number c.session.invariant.tied (sym c.in-Some.ensures.lowest)

pub invariant_of-session-in-Ok : goal.invariant_of-session-in-Ok
invariant_of-session-in-Ok c = record {
  number = c.session.invariant.number;
  tied = rw (c.in-Some.ensures.taken, c.in-Ok.ensures.ok) (tied_taken c.session.inside.pool c.session.inside.book (wiring c.in-Some.label.number c.args.flow) c.session.invariant.tied);
}
