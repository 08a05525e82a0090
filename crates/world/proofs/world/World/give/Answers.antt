use Rattle.std.proofs.Common.{arith, refl, sym, subst, ap}
use Rattle.world_model.specs.World.{World}
use Rattle.world.specs.declared.site.Site.{Site as Node}
use Rattle.world.specs.Inputs.{CanReach, CanReachController, CanReachSwitch, controller_given, switch_given, world_given}
use Rattle.world.specs.Network.{world_of}
use Rattle.world.proofs.Acting.{come_as, controller_came, summand_redirects, summand_switched, switch_came}
use Rattle.world.proofs.NodeStays.{node_stays}
use Rattle.world.proofs.world.World.give.Goals as goal

pub give_to-requires : goal.give_to-requires
give_to-requires g c =
    subst (λ (x : Node _). CanReachController (g.C.NodeController.seen x.controller) c.args.self.now.numbers c.in-Controller.input) (sym c.index_mut-site.ensures.value)
    (subst (CanReach g.C.NodeController.seen c.args.self.now c.args.node) c.in-Controller.is c.requires.reach c.index_mut-site.result.now)

pub replace-requires-clause-summand : goal.replace-requires-clause-summand
replace-requires-clause-summand g c =
    omega (arith, c.redirects-before.ensures, summand_redirects g.C.NodeController.seen c.args.self.now c.args.node c.index_mut-site.result.now c.requires.steady c.requires.node c.index_mut-site.ensures.value)

pub give_to-requires-in-Switch : goal.give_to-requires-in-Switch
give_to-requires-in-Switch g c =
    subst (λ (x : Node _). CanReachSwitch x.switch c.args.self.now.numbers c.in-Switch.input) (sym c.index_mut-site.ensures.value)
    (subst (CanReach g.C.NodeController.seen c.args.self.now c.args.node) c.in-Switch.is c.requires.reach c.index_mut-site.result.now)

pub replace-requires-in-Switch-clause-summand : goal.replace-requires-in-Switch-clause-summand
replace-requires-in-Switch-clause-summand g c =
    omega (arith, c.switched-before.ensures, summand_switched g.C.NodeController.seen c.args.self.now c.args.node c.index_mut-site.result.now c.requires.steady c.requires.node c.index_mut-site.ensures.value)

pub returns-in_ok-give_to-in-Controller : goal.returns-in_ok-give_to-in-Controller
returns-in_ok-give_to-in-Controller g c =
    let w : World = world_of g.C.NodeController.seen c.args.self.now c.args.notes.now in
    come_as g.C.NodeController.seen c.args.self.now _ c.give_to.new.notes _ _ (ap (world_given w c.args.node) (sym c.in-Controller.is))
    (controller_came g.C.NodeController.seen (controller_given c.in-Controller.input) c.args.self.now _ c.args.notes.now c.give_to.new.notes c.args.node c.index_mut-site.result.now
    (record { controller = c.give_to.new.controller; switch = c.index_mut-site.result.now.switch; peers = c.index_mut-site.result.now.peers }) c.redirects-before.result c.redirects.result (node_stays c.in-Controller.input)
    c.requires.steady c.requires.node c.index_mut-site.ensures.value refl refl refl c.in_ok-give_to-in-Controller.ensures.acted c.in_ok-give_to-in-Controller.ensures.drawn c.redirects-before.ensures c.redirects.ensures c.replace.ensures refl refl refl refl refl refl c.insert.ensures)

pub returns-in_ok-give_to-in-Switch : goal.returns-in_ok-give_to-in-Switch
returns-in_ok-give_to-in-Switch g c =
    let w : World = world_of g.C.NodeController.seen c.args.self.now c.args.notes.now in
    come_as g.C.NodeController.seen c.args.self.now _ c.give_to-in-Switch.new.notes _ _ (ap (world_given w c.args.node) (sym c.in-Switch.is))
    (switch_came g.C.NodeController.seen (switch_given c.in-Switch.input) c.args.self.now _ c.args.notes.now c.give_to-in-Switch.new.notes c.args.node c.index_mut-site.result.now
    (record { controller = c.index_mut-site.result.now.controller; switch = c.give_to-in-Switch.new.switch; peers = c.index_mut-site.result.now.peers }) c.switched-before.result c.switched.result
    c.requires.steady c.requires.node c.index_mut-site.ensures.value refl refl refl c.in_ok-give_to-in-Switch.ensures.acted c.in_ok-give_to-in-Switch.ensures.drawn c.switched-before.ensures c.switched.ensures c.replace-in-Switch.ensures (omega arith) refl refl refl refl refl refl c.insert.ensures)
