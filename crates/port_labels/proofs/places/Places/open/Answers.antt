use Rattle.std.proofs.Common.{◌+◌, ◌-◌, Option, None, refl, arith}
use Rattle.std.proofs.lemmas.List.{length-replicate}
use Rattle.port_labels.specs.declared.held.Held.{Held}
use Rattle.port_labels.proofs.InPlace.{none_held}
use Rattle.port_labels.proofs.places.Places.open.Goals as goal

pub invariant_of-result : goal.invariant_of-result
invariant_of-result c =
    let count = c.args.greatest - c.args.least + 1 in
    rw c.in_ok-empty_places.ensures (record {
      sized = omega (arith, length-replicate {A = Option Held} count None, c.requires);
      placed = (none_held c.args.instance c.args.least count).1;
    })

pub returns : goal.returns
returns c =
    rw (c.in_ok-empty_places.ensures, (none_held c.args.instance c.args.least (c.args.greatest - c.args.least + 1)).0) refl
