use Rattle.std.proofs.Common.{None, refl}
use Rattle.branch_desk.specs.port_model.Labels.{Label}
use Rattle.port_session.proofs.Changed.{changed_labels, tied_changed}
use Rattle.port_session.proofs.session.Session.part.Goals as goal

pub invariant_of-self : goal.invariant_of-self
invariant_of-self c = record {
  number = c.self.invariant.number;
  tied = rw c.part.ensures (tied_changed c.self.inside.pool c.self.inside.book c.args.label (λ (label : Label). record label { join = None }) c.self.invariant.tied);
}

pub returns : goal.returns
returns c = rw (← c.self.view_is, c.part.ensures, changed_labels c.self.inside.book c.args.label (λ (label : Label). record label { join = None })) refl
