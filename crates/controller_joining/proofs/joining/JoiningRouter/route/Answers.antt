use Rattle.std.proofs.Common.{subst, sym}
use Rattle.controller_joins.specs.world_model.Packets.{forwards_packet}
use Rattle.controller_router.specs.Node as node
use Rattle.controller_joining.specs.Joining.{AreJoined}
use Rattle.controller_joining.proofs.Kept.{ok_joined, stayed}
use Rattle.controller_joining.proofs.Passed.{routes_stays}
use Rattle.controller_joining.proofs.joining.JoiningRouter.route.Goals as goal

pub returns-clause-joined : goal.returns-clause-joined
returns-clause-joined g c =
    let seen = g.E.PortEngine.seen in
    let a = node.acted seen c.self.inside.router c.args.notes.now c.args.numbers.now in
    let before = subst (AreJoined seen) (sym c.self.view_is) c.requires.joined in
    let after = forwards_packet a c.args.came c.args.packet.now in
    ok_joined c.route.result _ after c.self.inside.joins (stayed a after c.self.inside.joins (routes_stays a c.args.came c.args.packet.now) before) c.route.ensures.acted
