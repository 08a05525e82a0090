use Rattle.std.proofs.Common.{◌≡◌, length, map, take}
use Rattle.controller_router.specs.Node.{ArePlaces, ports_of}
use Rattle.controller_router.proofs.opening.places_of.Given as goal

abbrev pub invariant-loop-place : goal.invariant-loop-place
invariant-loop-place g l = record {
  nine : length l.places ≡ 9;
  kept : ArePlaces (take l.place (ports_of (map g.E.PortEngine.seen l.links))) l.places;
}
