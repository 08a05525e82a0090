use Rattle.std.proofs.Common.{◌≡◌, ◌∙◌, ℕ, None, refl, ap, subst}
use Rattle.std.specs.Prelude.{nat_le}
use Rattle.keyed_lists.specs.Keyed.{entered}
use Rattle.branch_desk.specs.port_model.Labels.{label_for}
use Rattle.port_labels.specs.Book.{wiring, with_new_label}
use Rattle.port_labels.specs.Index.{IsEntered}
use Rattle.port_labels.proofs.Numbered.{ascending}
use Rattle.port_labels.proofs.Steps.{entered_found}
use Rattle.port_labels.proofs.book.LabelBook.enter.Goals as goal

pub enter-entered-requires : goal.enter-entered-requires
enter-entered-requires c = rw c.self.invariant.numbered (ascending c.self.inside.places.labels c.are_in_order.ensures.rises)

pub invariant_of-self : goal.invariant_of-self
invariant_of-self c =
    let unserved : label_for c.self.inside.places.labels c.args.flow ≡ None = rw (← c.self.view_is) at c.requires.unserved in
    let flows : IsEntered c.self.inside.flows.entries c.enter-entered.new.flows.entries c.args.flow c.args.label.number =
    subst (λ (n : ℕ). IsEntered c.self.inside.flows.entries c.enter-entered.new.flows.entries c.args.flow n) c.number.ensures.number c.in-Ok.ensures.flows in
    entered_found c.self.inside.numbers.items c.enter-entered.new.numbers.items c.self.inside.flows.entries c.enter-entered.new.flows.entries c.self.inside.places c.put.new.self
    (wiring c.args.label.number c.args.flow) (c.put.ensures ∙ ap (with_new_label c.self.inside.places) c.new.ensures.label) refl unserved
    (c.in-Ok.ensures.numbers ∙ ap (λ (n : ℕ). entered nat_le n c.self.inside.numbers.items) c.number.ensures.number) flows c.self.invariant
