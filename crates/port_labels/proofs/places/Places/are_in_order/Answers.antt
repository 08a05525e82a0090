use Rattle.std.proofs.Common.{arith}
use Rattle.port_labels.specs.Held.{labels_in}
use Rattle.port_labels.proofs.InPlace.{rises, inside, fewer}
use Rattle.port_labels.proofs.places.Places.are_in_order.Goals as goal

pub returns-clause-rises : goal.returns-clause-rises
returns-clause-rises c = rw (← c.self.view_is) (rises c.self.inside.instance c.self.inside.least c.self.inside.held.items c.self.invariant.placed)

pub returns-clause-inside : goal.returns-clause-inside
returns-clause-inside c =
    rw (← c.self.view_is)
    (inside c.self.inside.instance c.self.inside.least c.self.inside.greatest c.self.inside.least (labels_in c.self.inside.held.items) c.self.inside.held.items c.self.invariant.placed (omega arith) (omega (arith, c.self.invariant.sized)))

pub returns-clause-few : goal.returns-clause-few
returns-clause-few c = rw (← c.self.view_is) (omega (arith, fewer c.self.inside.held.items, c.self.invariant.sized))
