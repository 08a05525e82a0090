use Rattle.std.proofs.Common.{◌∙◌, ap}
use Rattle.branch_desk.specs.port_model.Labels.{Label, serves}
use Rattle.port_labels.specs.Book.{acknowledged}
use Rattle.port_labels.specs.Held.{shown}
use Rattle.port_labels.proofs.Steps.{changed_is, kept, recalled_some, serves_acknowledged}
use Rattle.port_labels.proofs.book.LabelBook.acknowledge.Goals as goal

pub take-held-requires : goal.take-held-requires
take-held-requires c = rw c.self.view_is (recalled_some c.args.self.now c.args.label c.requires)

pub put-requires : goal.put-requires
put-requires c = rw (c.acknowledge.ensures.number, c.take-held.ensures.number, c.acknowledge.ensures.instance) c.take-held.ensures.place

pub invariant_of-self : goal.invariant_of-self
invariant_of-self c =
    kept c.self.inside.numbers.items c.self.inside.flows.entries c.self.inside.places c.take-held.new.self c.put.new.self c.args.label
    (shown c.take-held.result) (shown c.acknowledge.new.self) c.take-held.ensures.label (c.acknowledge.ensures.number ∙ c.take-held.ensures.number) c.take-held.ensures.back c.put.ensures (ap (λ (label : Label). serves label.state) c.acknowledge.ensures.label ∙ serves_acknowledged (shown c.take-held.result).state) (ap (λ (label : Label). label.flow) c.acknowledge.ensures.label) c.self.invariant

pub returns : goal.returns
returns c =
    rw (← c.self.view_is)
    (changed_is c.self.inside.places c.take-held.new.self c.put.new.self c.args.label (shown c.take-held.result) (shown c.acknowledge.new.self) (λ label. record label { state = acknowledged label.state }) c.take-held.ensures.label (c.acknowledge.ensures.number ∙ c.take-held.ensures.number) c.take-held.ensures.back c.put.ensures (c.acknowledge.ensures.label))
