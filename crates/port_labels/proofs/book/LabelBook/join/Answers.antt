use Rattle.std.proofs.Common.{Some, refl}
use Rattle.port_labels.specs.Held.{shown}
use Rattle.port_labels.proofs.Steps.{changed_is, kept}
use Rattle.port_labels.proofs.book.LabelBook.join.Goals as goal

pub take-held-requires : goal.take-held-requires
take-held-requires c = rw c.self.view_is c.requires

pub put-requires : goal.put-requires
put-requires c = rw c.take-held.ensures.number c.take-held.ensures.place

pub invariant_of-self : goal.invariant_of-self
invariant_of-self c =
    kept c.self.inside.numbers.items c.self.inside.flows.entries c.self.inside.places c.take-held.new.self c.put.new.self c.args.label
    (shown c.take-held.result) (record (shown c.take-held.result) { join = Some c.args.output }) c.take-held.ensures.label (c.take-held.ensures.number) c.take-held.ensures.back c.put.ensures (refl) (refl) c.self.invariant

pub returns : goal.returns
returns c =
    rw (← c.self.view_is)
    (changed_is c.self.inside.places c.take-held.new.self c.put.new.self c.args.label (shown c.take-held.result) (record (shown c.take-held.result) { join = Some c.args.output }) (λ label. record label { join = Some c.args.output }) c.take-held.ensures.label (c.take-held.ensures.number) c.take-held.ensures.back c.put.ensures (refl))
