use Rattle.std.proofs.Common.{false, refl}
use Rattle.branch_desk.specs.port_model.Labels.{Label, Recalled}
use Rattle.port_session.proofs.Changed.{changed_labels, tied_changed}
use Rattle.port_session.proofs.session.Session.recall.Goals as goal

pub invariant_of-self : goal.invariant_of-self
invariant_of-self c = record {
  number = c.self.invariant.number;
  tied = rw c.recall.ensures (tied_changed c.self.inside.pool c.self.inside.book c.args.label (λ (label : Label). record label { state = Recalled c.reclaim_number-reclaim.result false }) c.self.invariant.tied);
}

pub returns : goal.returns
returns c =
    let number = rw (← c.self.view_is) at c.reclaim_number-reclaim.ensures in
    rw (← c.self.view_is, c.recall.ensures, changed_labels c.self.inside.book c.args.label (λ (label : Label). record label { state = Recalled c.reclaim_number-reclaim.result false }), number) refl
