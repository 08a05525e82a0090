use Rattle.std.proofs.Common.{subst, sym}
use Rattle.net_types.specs.Number.{GivenOut}
use Rattle.controller_router.specs.Cells.{IsFound, gathered, receipt}
use Rattle.controller_router.specs.Node as node
use Rattle.controller_joining.specs.Joining.{AreJoined, Joining, controller_of}
use Rattle.controller_joining.proofs.Kept.{ok_joined, stayed}
use Rattle.controller_joining.proofs.Passed.{gathered_stays}
use Rattle.controller_joining.proofs.joining.JoiningRouter.receive.Goals as goal

pub returns-clause-joined : goal.returns-clause-joined
returns-clause-joined g c = λ t is found.
    let seen = g.E.PortEngine.seen in
    let numbers : GivenOut = record { instances = 0; controls = 0 } in
    let a = node.acted seen c.self.inside.router c.args.notes.now numbers in
    let before = subst (AreJoined seen) (sym c.self.view_is) c.requires.joined in
    let there = subst (λ (j : Joining _). IsFound (controller_of seen j) t) (sym c.self.view_is) found in
    let after = gathered a t (receipt a t c.args.cell.now) in
    ok_joined c.receive.result _ after c.self.inside.joins (stayed a after c.self.inside.joins (gathered_stays a t (receipt a t c.args.cell.now) there) before) (c.receive.ensures.acted t numbers is there)

pub returns-clause-acted : goal.returns-clause-acted
returns-clause-acted g c = rw (← c.self.view_is) c.receive.ensures.acted

pub returns-clause-payload : goal.returns-clause-payload
returns-clause-payload g c = rw (← c.self.view_is) c.receive.ensures.payload
