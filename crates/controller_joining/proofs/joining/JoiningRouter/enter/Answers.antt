use Rattle.std.proofs.Common.{subst, sym}
use Rattle.net_types.specs.Number.{GivenOut}
use Rattle.controller_joins.specs.world_model.Packets.{injected}
use Rattle.controller_router.specs.Node as node
use Rattle.controller_joining.specs.Joining.{AreJoined}
use Rattle.controller_joining.proofs.Kept.{ok_joined, stayed}
use Rattle.controller_joining.proofs.Passed.{routes_stays}
use Rattle.controller_joining.proofs.joining.JoiningRouter.enter.Goals as goal

pub returns-clause-joined : goal.returns-clause-joined
returns-clause-joined g c =
    let seen = g.E.PortEngine.seen in
    let numbers : GivenOut = record { instances = 0; controls = 0 } in
    let a = node.acted seen c.self.inside.router c.args.notes.now numbers in
    let before = subst (AreJoined seen) (sym c.self.view_is) c.requires.joined in
    let after = injected a c.args.number c.args.packet.now in
    ok_joined c.enter.result _ after c.self.inside.joins (stayed a after c.self.inside.joins (routes_stays a (record { packet = c.args.number; frame = 0 }) c.args.packet.now) before) (c.enter.ensures.acted numbers)

pub returns-clause-acted : goal.returns-clause-acted
returns-clause-acted g c = rw (← c.self.view_is) c.enter.ensures.acted
