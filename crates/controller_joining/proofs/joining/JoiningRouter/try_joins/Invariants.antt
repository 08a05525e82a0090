use Rattle.std.proofs.Common.{◌≡◌, drop, length}
use Rattle.std.specs.Prelude.{flat_map}
use Rattle.controller_joins.specs.world_model.Joins.{tries_joins}
use Rattle.law_join_facts.specs.Joins.{inputs_on}
use Rattle.controller_router.specs.Node.{ports_in}
use Rattle.controller_joining.specs.Joining.{AreJoined, acted, controller_of}
use Rattle.controller_joining.proofs.Tries.{Trying}
use Rattle.controller_joining.proofs.joining.JoiningRouter.try_joins.Given as goal

abbrev pub invariant-loop-place : goal.invariant-loop-place
invariant-loop-place g l = record {
  end : l.place-end ≡ length (ports_in g.E.PortEngine.seen l.fn.self.router);
  joined : AreJoined g.E.PortEngine.seen l.self;
  ports : ports_in g.E.PortEngine.seen l.self.router ≡ ports_in g.E.PortEngine.seen l.fn.self.router;
  trying : Trying (acted g.E.PortEngine.seen l.fn.self l.fn.notes l.fn.numbers) (acted g.E.PortEngine.seen l.self l.notes l.numbers) (flat_map (inputs_on (controller_of g.E.PortEngine.seen l.fn.self)) (drop l.place (ports_in g.E.PortEngine.seen l.fn.self.router))) (tries_joins (acted g.E.PortEngine.seen l.fn.self l.fn.notes l.fn.numbers));
}
