use Rattle.std.proofs.Common.{Bool, true, false, cond}
use Rattle.port_labels.specs.Book.{in_state}
use Rattle.branch_desk.specs.port_model.Labels.{Label, Wired}
use Rattle.port_session.specs.Session.{AreTied}
use Rattle.port_session.proofs.Changed.{tied_changed}
use Rattle.port_session.proofs.session.Session.quit.Goals as goal

pub invariant_of-self : goal.invariant_of-self
invariant_of-self c =
    let by : (b : Bool) → AreTied c.self.inside.pool (cond b (in_state c.self.inside.book c.args.label Wired) c.self.inside.book) = λ b. elim b as (λ v. AreTied c.self.inside.pool (cond v (in_state c.self.inside.book c.args.label Wired) c.self.inside.book)) [
      | true ↦ tied_changed c.self.inside.pool c.self.inside.book c.args.label (λ (label : Label). record label { state = Wired }) c.self.invariant.tied
      | false ↦ c.self.invariant.tied
    ] in
    record {
      number = c.self.invariant.number;
      tied = rw c.quit.ensures.book (by c.quit.result);
    }
