use Rattle.std.proofs.Common.{subst, sym}
use Rattle.net_types.specs.Number.{GivenOut}
use Rattle.controller_joins.specs.world_model.Sending.{sends}
use Rattle.law_join_facts.proofs.Lasts.{stays_sent}
use Rattle.controller_router.specs.Node as node
use Rattle.controller_joining.specs.Joining.{AreJoined}
use Rattle.controller_joining.proofs.Kept.{ok_joined, stayed}
use Rattle.controller_joining.proofs.joining.JoiningRouter.send.Goals as goal

pub returns-clause-joined : goal.returns-clause-joined
returns-clause-joined g c =
    let seen = g.E.PortEngine.seen in
    let numbers : GivenOut = record { instances = 0; controls = 0 } in
    let a = node.acted seen c.self.inside.router c.args.notes.now numbers in
    let before = subst (AreJoined seen) (sym c.self.view_is) c.requires.joined in
    let after = sends a c.args.channel c.args.mark c.args.payload.now in
    ok_joined c.send.result _ after c.self.inside.joins (stayed a after c.self.inside.joins (stays_sent a c.args.channel c.args.mark c.args.payload.now) before) (c.send.ensures.acted numbers)
