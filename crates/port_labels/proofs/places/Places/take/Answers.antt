use Rattle.std.proofs.Common.{◌≡◌, ◌∙◌, ◌-◌, None, refl, ap, arith}
use Rattle.std.specs.Prelude.{option_map, IsSome}
use Rattle.std.proofs.lemmas.List.{length-set}
use Rattle.keyed_lists.specs.Keyed.{at, without}
use Rattle.branch_desk.specs.port_model.Labels.{label_number}
use Rattle.port_labels.specs.Held.{labels_in, shown}
use Rattle.port_labels.proofs.Numbered.{absent_without, entered_back}
use Rattle.port_labels.proofs.InPlace.{IsTaken, emptied, emptied_in_place, found_in, range_of, rises, some_is, taken}
use Rattle.port_labels.proofs.places.Places.take.Goals as goal

pub overflow_sub-place : goal.overflow_sub-place
overflow_sub-place c =
    let some : IsSome (at label_number c.args.label (labels_in c.self.inside.held.items)) = rw (← c.self.view_is) at c.requires in
    (range_of c.self.inside.instance c.self.inside.least c.args.label c.self.inside.held.items c.self.invariant.placed (some_is _ some)).0

pub take_at-requires : goal.take_at-requires
take_at-requires c =
    let some : IsSome (at label_number c.args.label (labels_in c.self.inside.held.items)) = rw (← c.self.view_is) at c.requires in
    let inner = range_of c.self.inside.instance c.self.inside.least c.args.label c.self.inside.held.items c.self.invariant.placed (some_is _ some) in
    omega (arith, inner.0, inner.1)

pub unreachable-requires : goal.unreachable-requires
unreachable-requires c =
    let some : IsSome (at label_number c.args.label (labels_in c.self.inside.held.items)) = rw (← c.self.view_is) at c.requires in
    let inner = range_of c.self.inside.instance c.self.inside.least c.args.label c.self.inside.held.items c.self.invariant.placed (some_is _ some) in
    let found = found_in c.self.inside.instance c.self.inside.least c.args.label (c.args.label - c.self.inside.least) c.self.inside.held.items c.take_at.result c.self.invariant.placed (omega (arith, inner.0)) c.take_at.ensures.taken in
    some_is _ some (found ∙ ap (option_map shown) c.in_default.is)

pub invariant_of-self : goal.invariant_of-self
invariant_of-self c = rw c.take_at.ensures.left (record {
  sized = omega (arith, length-set c.self.inside.held.items (c.args.label - c.self.inside.least) None, c.self.invariant.sized);
  placed = emptied_in_place c.self.inside.instance c.self.inside.least (c.args.label - c.self.inside.least) c.self.inside.held.items c.self.invariant.placed;
})

abbrev IsIt : goal.In-Some → Type 0
IsIt c = IsTaken c.self.inside.instance c.self.inside.least c.args.label c.self.inside.held.items c.in-Some.held

it_is : (c : goal.In-Some) → IsIt c
it_is c =
    let some : IsSome (at label_number c.args.label (labels_in c.self.inside.held.items)) = rw (← c.self.view_is) at c.requires in
    taken c.self.inside.instance c.self.inside.least c.args.label c.self.inside.held.items c.take_at.result c.in-Some.held c.self.invariant.placed some c.take_at.ensures.taken c.in-Some.is

left_is : (c : goal.In-Some) → labels_in c.take_at.new.places.items ≡ without label_number c.args.label (labels_in c.self.inside.held.items)
left_is c =
    rw c.take_at.ensures.left
    (emptied c.self.inside.instance c.self.inside.least c.args.label (c.args.label - c.self.inside.least) c.self.inside.held.items c.self.invariant.placed (omega (arith, (it_is c).low)))

pub returns-clause-label : goal.returns-clause-label
returns-clause-label c = rw (← c.self.view_is) (it_is c).found

pub returns-clause-number : goal.returns-clause-number
returns-clause-number c = (it_is c).number

pub returns-clause-instance : goal.returns-clause-instance
returns-clause-instance c = rw (← c.self.view_is) (it_is c).instance

pub returns-clause-range : goal.returns-clause-range
returns-clause-range c =
    let it = it_is c in
    rw (← c.self.view_is) (omega (arith, it.number, it.low), omega (arith, it.number, it.high, c.self.invariant.sized), it.label)

pub returns-clause-rest : goal.returns-clause-rest
returns-clause-rest c = rw (← c.self.view_is, left_is c) refl

pub returns-clause-place : goal.returns-clause-place
returns-clause-place c =
    let it = it_is c in
    record {
      instance = it.instance;
      least = it.low;
      greatest = omega (arith, it.high, c.self.invariant.sized);
      absent = rw (left_is c) (absent_without c.args.label (labels_in c.self.inside.held.items));
    }

pub returns-clause-back : goal.returns-clause-back
returns-clause-back c = λ label same.
    let some : IsSome (at label_number c.args.label (labels_in c.self.inside.held.items)) = rw (← c.self.view_is) at c.requires in
    rw (
      ← c.self.view_is,
      left_is c,
      entered_back c.args.label label (labels_in c.self.inside.held.items) (rises c.self.inside.instance c.self.inside.least c.self.inside.held.items c.self.invariant.placed) (some_is _ some) same,
    ) refl
