use Rattle.std.proofs.Common.{◌≡◌, ◌-◌, ◌+◌, ◌≤◌, None, Some, refl, arith}
use Rattle.std.specs.Prelude.{slice_get}
use Rattle.std.proofs.lemmas.List.{length-set}
use Rattle.keyed_lists.specs.Keyed.{at}
use Rattle.branch_desk.specs.port_model.Labels.{label_number}
use Rattle.port_labels.specs.Held.{labels_in, number_in, instance_in}
use Rattle.port_labels.proofs.InPlace.{filled, filled_in_place, is_empty}
use Rattle.port_labels.proofs.places.Places.put.Goals as goal

pub put_at-requires : goal.put_at-requires
put_at-requires c =
    let low : c.self.inside.least ≤ number_in c.args.label.stage = rw (← c.self.view_is) at c.requires.least in
    let high : number_in c.args.label.stage ≤ c.self.inside.greatest = rw (← c.self.view_is) at c.requires.greatest in
    let absent : at label_number (number_in c.args.label.stage) (labels_in c.self.inside.held.items) ≡ None = rw (← c.self.view_is) at c.requires.absent in
    rw c.number.ensures.number
    (is_empty c.self.inside.instance c.self.inside.least (number_in c.args.label.stage) c.self.inside.held.items c.self.invariant.placed low (omega (arith, high, c.self.invariant.sized)) absent)

-- the place is empty, and is that of the number
empty : (c : goal.After-put_at) → (number_in c.args.label.stage ≡ c.self.inside.least + (c.number.result - c.self.inside.least))
    × (slice_get c.self.inside.held.items (c.number.result - c.self.inside.least) ≡ Some None)
empty c =
    let low : c.self.inside.least ≤ number_in c.args.label.stage = rw (← c.self.view_is) at c.requires.least in
    let high : number_in c.args.label.stage ≤ c.self.inside.greatest = rw (← c.self.view_is) at c.requires.greatest in
    let absent : at label_number (number_in c.args.label.stage) (labels_in c.self.inside.held.items) ≡ None = rw (← c.self.view_is) at c.requires.absent in (
      omega (arith, low, c.number.ensures.number),
      rw c.number.ensures.number
          (is_empty c.self.inside.instance c.self.inside.least (number_in c.args.label.stage) c.self.inside.held.items c.self.invariant.placed low (omega (arith, high, c.self.invariant.sized)) absent),
    )

pub invariant_of-self : goal.invariant_of-self
invariant_of-self c =
    let of : instance_in c.args.label.stage ≡ c.self.inside.instance = rw (← c.self.view_is) at c.requires.instance in
    rw c.put_at.ensures (record {
      sized = omega (arith, length-set c.self.inside.held.items (c.number.result - c.self.inside.least) (Some c.args.label), c.self.invariant.sized);
      placed = filled_in_place c.self.inside.instance c.self.inside.least (c.number.result - c.self.inside.least) c.args.label c.self.inside.held.items c.self.invariant.placed
          (empty c).0 of (rw c.number.ensures.number at c.number.ensures.label) (empty c).1;
    })

pub returns : goal.returns
returns c =
    rw (
      ← c.self.view_is,
      c.put_at.ensures,
      filled c.self.inside.instance c.self.inside.least (c.number.result - c.self.inside.least) c.args.label c.self.inside.held.items c.self.invariant.placed (empty c).0 (empty c).1,
    ) refl
