use Rattle.std.proofs.Common.{◌∙◌, ap}
use Rattle.branch_desk.specs.port_model.Labels.{Label, serves}
use Rattle.port_labels.specs.Book.{reclaimed}
use Rattle.port_labels.specs.Held.{shown}
use Rattle.port_labels.proofs.Steps.{changed_is, kept, recalled_some, serves_reclaimed}
use Rattle.port_labels.proofs.book.LabelBook.reclaim_again.Goals as goal

pub take-held-requires : goal.take-held-requires
take-held-requires c = rw c.self.view_is (recalled_some c.args.self.now c.args.label c.requires)

pub put-requires : goal.put-requires
put-requires c = rw (c.reclaim_again.ensures.number, c.take-held.ensures.number, c.reclaim_again.ensures.instance) c.take-held.ensures.place

pub invariant_of-self : goal.invariant_of-self
invariant_of-self c =
    kept c.self.inside.numbers.items c.self.inside.flows.entries c.self.inside.places c.take-held.new.self c.put.new.self c.args.label
    (shown c.take-held.result) (shown c.reclaim_again.new.self) c.take-held.ensures.label (c.reclaim_again.ensures.number ∙ c.take-held.ensures.number) c.take-held.ensures.back c.put.ensures (ap (λ (label : Label). serves label.state) c.reclaim_again.ensures.label ∙ serves_reclaimed c.args.reclaim (shown c.take-held.result).state) (ap (λ (label : Label). label.flow) c.reclaim_again.ensures.label) c.self.invariant

pub returns : goal.returns
returns c =
    rw (← c.self.view_is)
    (changed_is c.self.inside.places c.take-held.new.self c.put.new.self c.args.label (shown c.take-held.result) (shown c.reclaim_again.new.self) (λ label. record label { state = reclaimed c.args.reclaim label.state }) c.take-held.ensures.label (c.reclaim_again.ensures.number ∙ c.take-held.ensures.number) c.take-held.ensures.back c.put.ensures (c.reclaim_again.ensures.label))
