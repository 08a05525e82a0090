use Rattle.world.specs.Waiting.{IsEmptyIn}
use Rattle.world.proofs.world.World.first_holding.Given as goal

abbrev pub invariant-loop-place : goal.invariant-loop-place
invariant-loop-place g l = IsEmptyIn g.C.NodeController.seen l.self l.from l.place
