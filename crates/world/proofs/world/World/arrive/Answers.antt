use Rattle.std.proofs.Common.{◌∙◌, sym, subst, ap, refl, None, Some}
use Rattle.std.proofs.lemmas.Result.{on_ok_weaker}
use Rattle.net_types.specs.declared.node.Place.{Place}
use Rattle.world_model.specs.Step.{arrives, arrives_at}
use Rattle.world.specs.Coming.{HasWay}
use Rattle.world.specs.Network.{world_of}
use Rattle.world.proofs.Acting.{come_as, nothing_came}
use Rattle.law_world_pace.proofs.Ports.{linked_port}
use Rattle.world.proofs.Conditions.{far_in, peer_is}
use Rattle.world.proofs.world.World.arrive.Goals as goal

pub peer-requires-clause-port : goal.peer-requires-clause-port
peer-requires-clause-port g c =
    let way = subst (λ (p : Place). HasWay g.topology c.args.self.now p) c.in-Out.is c.requires.1.1.1.0 in
    (linked_port g.topology c.in-Out.node c.in-Out.port way.topology_is way.place_is.1).1

pub give-requires-in-Some-clause-node : goal.give-requires-in-Some-clause-node
give-requires-in-Some-clause-node g c =
    let way = subst (λ (p : Place). HasWay g.topology c.args.self.now p) c.in-Out.is c.requires.1.1.1.0 in
    far_in g.topology c.args.self.now c.in-Out.node c.in-Out.port c.in-Some.far way c.in-Some.ensures

pub returns-in-Some : goal.returns-in-Some
returns-in-Some g c =
    let way = subst (λ (p : Place). HasWay g.topology c.args.self.now p) c.in-Out.is c.requires.1.1.1.0 in
    let w = world_of g.C.NodeController.seen c.args.self.now c.args.notes.now in
    on_ok_weaker c.give-in-Some.result
    (λ h. come_as g.C.NodeController.seen c.args.self.now c.give-in-Some.new.self c.give-in-Some.new.notes _ _
    (ap (arrives_at w c.args.cell.now) (sym (peer_is g.topology c.args.self.now c.in-Out.node c.in-Out.port (Some c.in-Some.far) way c.in-Some.ensures))
    ∙ ap (λ (p : Place). arrives g.topology w p c.args.cell.now) (sym c.in-Out.is)) h)
    c.give-in-Some.ensures

pub returns-in-None : goal.returns-in-None
returns-in-None g c =
    let way = subst (λ (p : Place). HasWay g.topology c.args.self.now p) c.in-Out.is c.requires.1.1.1.0 in
    let w = world_of g.C.NodeController.seen c.args.self.now c.args.notes.now in
    come_as g.C.NodeController.seen c.args.self.now c.args.self.now c.args.notes.now w _
    (ap (arrives_at w c.args.cell.now) (sym (peer_is g.topology c.args.self.now c.in-Out.node c.in-Out.port None way c.in-None.ensures))
    ∙ ap (λ (p : Place). arrives g.topology w p c.args.cell.now) (sym c.in-Out.is))
    (nothing_came g.C.NodeController.seen c.args.self.now c.args.self.now c.args.notes.now c.args.notes.now c.requires.1.1.0 refl refl refl refl refl refl refl refl refl refl refl)
