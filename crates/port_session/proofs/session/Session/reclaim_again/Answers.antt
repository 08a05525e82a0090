use Rattle.std.proofs.Common.{refl}
use Rattle.port_labels.specs.Book.{reclaimed}
use Rattle.branch_desk.specs.port_model.Labels.{Label}
use Rattle.port_session.proofs.Changed.{changed_labels, tied_changed}
use Rattle.port_session.proofs.session.Session.reclaim_again.Goals as goal

pub invariant_of-self : goal.invariant_of-self
invariant_of-self c = record {
  number = c.self.invariant.number;
  tied = rw c.reclaim_again.ensures (tied_changed c.self.inside.pool c.self.inside.book c.args.label (λ (label : Label). record label { state = reclaimed c.reclaim_number-reclaim.result label.state }) c.self.invariant.tied);
}

pub returns : goal.returns
returns c =
    let number = rw (← c.self.view_is) at c.reclaim_number-reclaim.ensures in
    rw (← c.self.view_is, c.reclaim_again.ensures, changed_labels c.self.inside.book c.args.label (λ (label : Label). record label { state = reclaimed c.reclaim_number-reclaim.result label.state }), number) refl
