use Rattle.std.proofs.Common.{◌∙◌, sym, ap}
use Rattle.branch_desk.specs.port_model.Labels.{Label, Offered, Wiring, serves}
use Rattle.port_labels.specs.Held.{shown}
use Rattle.port_labels.proofs.Steps.{changed_is, kept, state_is, state_some}
use Rattle.port_labels.proofs.book.LabelBook.offer.Goals as goal

pub take-held-requires : goal.take-held-requires
take-held-requires c = rw c.self.view_is (state_some c.args.self.now c.args.label Wiring c.requires.state)

pub offer-requires : goal.offer-requires
offer-requires c = record {
  state = state_is c.self.inside.places c.args.label (shown c.take-held.result) Wiring c.take-held.ensures.label (rw (← c.self.view_is) at c.requires.state);
  wires = rw c.take-held.ensures.number c.requires.wires;
}

pub put-requires : goal.put-requires
put-requires c = rw (c.offer.ensures.number, c.take-held.ensures.number, c.offer.ensures.instance) c.take-held.ensures.place

pub invariant_of-self : goal.invariant_of-self
invariant_of-self c =
    kept c.self.inside.numbers.items c.self.inside.flows.entries c.self.inside.places c.take-held.new.self c.put.new.self c.args.label
    (shown c.take-held.result) (shown c.offer.result) c.take-held.ensures.label (c.offer.ensures.number ∙ c.take-held.ensures.number) c.take-held.ensures.back c.put.ensures (ap (λ (label : Label). serves label.state) c.offer.ensures.label ∙ sym (ap serves (state_is c.self.inside.places c.args.label (shown c.take-held.result) Wiring c.take-held.ensures.label (rw (← c.self.view_is) at c.requires.state)))) (ap (λ (label : Label). label.flow) c.offer.ensures.label) c.self.invariant

pub returns : goal.returns
returns c =
    rw (← c.self.view_is)
    (changed_is c.self.inside.places c.take-held.new.self c.put.new.self c.args.label (shown c.take-held.result) (shown c.offer.result) (λ label. record label { state = Offered }) c.take-held.ensures.label (c.offer.ensures.number ∙ c.take-held.ensures.number) c.take-held.ensures.back c.put.ensures (c.offer.ensures.label))
