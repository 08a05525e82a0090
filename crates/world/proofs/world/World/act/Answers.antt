use Rattle.std.proofs.Common.{arith, subst}
use Rattle.world_model.specs.Conditions.{IsEvent}
use Rattle.world.specs.Network.{world_of}
use Rattle.world.proofs.Conditions.{can_change, has_queue, left, queue_low, steady}
use Rattle.world.proofs.world.World.act.Goals as goal

pub inject-requires-clause-steady : goal.inject-requires-clause-steady
inject-requires-clause-steady g c = steady g.C.NodeController.seen g.topology c.args.self.now c.requires.1.1.0 (omega (arith, c.requires.1.1.1.few))

pub lose-requires-clause-steady : goal.lose-requires-clause-steady
lose-requires-clause-steady g c = steady g.C.NodeController.seen g.topology c.args.self.now c.requires.1.1.0 (omega (arith, c.requires.1.1.1.few))

pub give-requires-clause-steady : goal.give-requires-clause-steady
give-requires-clause-steady g c = steady g.C.NodeController.seen g.topology c.args.self.now c.requires.1.1.0 (omega (arith, c.requires.1.1.1.few))

pub give-requires-in-TickSwitch-clause-steady : goal.give-requires-in-TickSwitch-clause-steady
give-requires-in-TickSwitch-clause-steady g c = steady g.C.NodeController.seen g.topology c.args.self.now c.requires.1.1.0 (omega (arith, c.requires.1.1.1.few))

pub give-requires-in-Restart-clause-steady : goal.give-requires-in-Restart-clause-steady
give-requires-in-Restart-clause-steady g c = steady g.C.NodeController.seen g.topology c.args.self.now c.requires.1.1.0 (omega (arith, c.requires.1.1.1.few))

pub give-requires-in-RestartSwitch-clause-steady : goal.give-requires-in-RestartSwitch-clause-steady
give-requires-in-RestartSwitch-clause-steady g c = steady g.C.NodeController.seen g.topology c.args.self.now c.requires.1.1.0 (omega (arith, c.requires.1.1.1.few))

pub forge-requires-clause-steady : goal.forge-requires-clause-steady
forge-requires-clause-steady g c = steady g.C.NodeController.seen g.topology c.args.self.now c.requires.1.1.0 (omega (arith, c.requires.1.1.1.few))

pub give-requires-in-Route-clause-steady : goal.give-requires-in-Route-clause-steady
give-requires-in-Route-clause-steady g c = steady g.C.NodeController.seen g.topology c.args.self.now c.requires.1.1.0 (omega (arith, c.requires.1.1.1.few))

pub lose-requires-clause-port : goal.lose-requires-clause-port
lose-requires-clause-port g c = queue_low g.C.NodeController.seen g.topology c.args.self.now c.requires.1.1.0 c.in-Lose.place (subst (IsEvent g.topology (world_of g.C.NodeController.seen c.args.self.now c.args.notes.now)) c.in-Lose.is c.requires.1.1.1.meant)

pub forge-requires-clause-port : goal.forge-requires-clause-port
forge-requires-clause-port g c = has_queue g.C.NodeController.seen g.topology c.args.self.now c.requires.1.1.0 c.in-Forge.place (subst (IsEvent g.topology (world_of g.C.NodeController.seen c.args.self.now c.args.notes.now)) c.in-Forge.is c.requires.1.1.1.meant).queue

pub give-requires-in-Route-clause-reach : goal.give-requires-in-Route-clause-reach
give-requires-in-Route-clause-reach g c = λ d. (
  can_change g.C.NodeController.seen g.topology c.args.self.now c.requires.1.1.0 c.args.notes.now c.in-Route.node c.in-Route.change c.requires.1.1.1.few
      (subst (IsEvent g.topology (world_of g.C.NodeController.seen c.args.self.now c.args.notes.now)) c.in-Route.is c.requires.1.1.1.meant) d,
  left g.C.NodeController.seen g.topology c.args.self.now c.requires.1.1.0 c.requires.1.1.1.few,
)
