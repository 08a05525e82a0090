use Rattle.std.proofs.Common.{ap}
use Rattle.branch_desk.specs.port_model.Labels.{Wired, serves}
use Rattle.port_labels.specs.Held.{shown}
use Rattle.port_labels.proofs.Numbered.{ascending}
use Rattle.port_labels.proofs.Steps.{freed, state_is, state_some}
use Rattle.port_labels.proofs.book.LabelBook.free.Goals as goal

pub remove_number-requires : goal.remove_number-requires
remove_number-requires c = rw c.self.invariant.numbered (ascending _ c.are_in_order.ensures.rises)

pub take-requires : goal.take-requires
take-requires c = rw c.self.view_is (state_some c.args.self.now c.args.label Wired c.requires.state)

pub free-requires : goal.free-requires
free-requires c = record {
  state = state_is c.self.inside.places c.args.label (shown c.take.result) Wired c.take.ensures.label (rw (← c.self.view_is) at c.requires.state);
  unwires = rw c.take.ensures.number c.requires.unwires;
}

pub invariant_of-self : goal.invariant_of-self
invariant_of-self c =
    freed c.self.inside.numbers.items c.remove_number.new.numbers.items c.self.inside.flows.entries c.self.inside.places c.take.new.self c.args.label
    (shown c.take.result) c.take.ensures.rest c.take.ensures.label
    (ap serves (state_is c.self.inside.places c.args.label (shown c.take.result) Wired c.take.ensures.label (rw (← c.self.view_is) at c.requires.state)))
    c.are_in_order.ensures.rises c.remove_number.ensures c.self.invariant
