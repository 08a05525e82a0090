use Rattle.std.proofs.Common.{ℕ, List, ap, ◌∙◌}
use Rattle.std.specs.Prelude.{slice_get}
use Rattle.std.proofs.lemmas.Option.{slice_get-map}
use Rattle.branch_desk.specs.port_model.Labels.{label_number}
use Rattle.port_labels.proofs.Steps.{number_finds}
use Rattle.port_labels.proofs.book.LabelBook.number_at.Goals as goal

pub returns-clause-number : goal.returns-clause-number
returns-clause-number c =
    rw (← c.self.view_is) (
    c.number_at.ensures
    ∙ (ap (λ (ns : List ℕ). slice_get ns c.args.place) (c.deref.ensures.value ∙ c.self.invariant.numbered)
    ∙ slice_get-map label_number c.self.inside.places.labels c.args.place))

pub returns-clause-label : goal.returns-clause-label
returns-clause-label c =
    rw (← c.self.view_is)
    (number_finds c.self.inside.places c.deref.result.now c.args.place c.number_at.result c.are_in_order.ensures.rises c.number_at.ensures (c.deref.ensures.value ∙ c.self.invariant.numbered))
