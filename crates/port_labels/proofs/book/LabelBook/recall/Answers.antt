use Rattle.std.proofs.Common.{◌∙◌, false, sym, ap}
use Rattle.branch_desk.specs.port_model.Labels.{Label, Offered, Recalled, serves}
use Rattle.port_labels.specs.Held.{shown}
use Rattle.port_labels.proofs.Steps.{changed_is, kept, state_is, state_some}
use Rattle.port_labels.proofs.book.LabelBook.recall.Goals as goal

pub take-held-requires : goal.take-held-requires
take-held-requires c = rw c.self.view_is (state_some c.args.self.now c.args.label Offered c.requires)

pub recall-requires : goal.recall-requires
recall-requires c = state_is c.self.inside.places c.args.label (shown c.take-held.result) Offered c.take-held.ensures.label (rw (← c.self.view_is) at c.requires)

pub put-requires : goal.put-requires
put-requires c = rw (c.recall.ensures.number, c.take-held.ensures.number, c.recall.ensures.instance) c.take-held.ensures.place

pub invariant_of-self : goal.invariant_of-self
invariant_of-self c =
    kept c.self.inside.numbers.items c.self.inside.flows.entries c.self.inside.places c.take-held.new.self c.put.new.self c.args.label
    (shown c.take-held.result) (shown c.recall.result) c.take-held.ensures.label (c.recall.ensures.number ∙ c.take-held.ensures.number) c.take-held.ensures.back c.put.ensures (ap (λ (label : Label). serves label.state) c.recall.ensures.label ∙ sym (ap serves (state_is c.self.inside.places c.args.label (shown c.take-held.result) Offered c.take-held.ensures.label (rw (← c.self.view_is) at c.requires)))) (ap (λ (label : Label). label.flow) c.recall.ensures.label) c.self.invariant

pub returns : goal.returns
returns c =
    rw (← c.self.view_is)
    (changed_is c.self.inside.places c.take-held.new.self c.put.new.self c.args.label (shown c.take-held.result) (shown c.recall.result) (λ label. record label { state = Recalled c.args.reclaim false }) c.take-held.ensures.label (c.recall.ensures.number ∙ c.take-held.ensures.number) c.take-held.ensures.back c.put.ensures (c.recall.ensures.label))
