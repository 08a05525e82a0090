use Rattle.std.proofs.Common.{refl}
use Rattle.port_labels.specs.Book.{acknowledged}
use Rattle.branch_desk.specs.port_model.Labels.{Label}
use Rattle.port_session.proofs.Changed.{changed_labels, tied_changed}
use Rattle.port_session.proofs.session.Session.acknowledge.Goals as goal

pub invariant_of-self : goal.invariant_of-self
invariant_of-self c = record {
  number = c.self.invariant.number;
  tied = rw c.acknowledge.ensures (tied_changed c.self.inside.pool c.self.inside.book c.args.label (λ (label : Label). record label { state = acknowledged label.state }) c.self.invariant.tied);
}

pub returns : goal.returns
returns c = rw (← c.self.view_is, c.acknowledge.ensures, changed_labels c.self.inside.book c.args.label (λ (label : Label). record label { state = acknowledged label.state })) refl
