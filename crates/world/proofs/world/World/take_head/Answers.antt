use Rattle.std.proofs.Common.{refl}
use Rattle.net_types.specs.declared.node.Place.TheVariants.{Down, Up, Out}
use Rattle.world.proofs.Acting.{taken_at}
use Rattle.world.proofs.world.World.take_head.Goals as goal

pub returns-in-Down : goal.returns-in-Down
returns-in-Down g c = taken_at g.C.NodeController.seen c.args.self.now _ c.args.place (Down c.in-Down.node) c.index_mut.result.now (record { controller = c.pop.new.self; switch = c.index_mut.result.now.switch; peers = c.index_mut.result.now.peers }) c.pop.result c.in-Down.is
    c.requires.steady c.requires.node c.index_mut.ensures.value refl refl (λ i. record { controller = c.pop.ensures.popped i; switch = c.index_mut.result.now.switch }) (λ y cells. (refl, (refl, refl))) c.pop.ensures.first refl refl refl refl refl refl refl refl refl

pub returns-in-Up : goal.returns-in-Up
returns-in-Up g c = taken_at g.C.NodeController.seen c.args.self.now _ c.args.place (Up c.in-Up.node) c.index_mut-in-Up.result.now (record { controller = c.index_mut-in-Up.result.now.controller; switch = c.pop-in-Up.new.self; peers = c.index_mut-in-Up.result.now.peers }) c.pop-in-Up.result c.in-Up.is
    c.requires.steady c.requires.node c.index_mut-in-Up.ensures.value refl refl (λ i. record { controller = g.C.NodeController.seen c.index_mut-in-Up.result.now.controller; switch = c.pop-in-Up.ensures.popped i }) (λ y cells. (refl, (refl, refl))) c.pop-in-Up.ensures.first refl refl refl refl refl refl refl refl refl

pub returns-in-Out : goal.returns-in-Out
returns-in-Out g c = taken_at g.C.NodeController.seen c.args.self.now _ c.args.place (Out c.in-Out.node c.in-Out.port) c.index_mut-in-Out.result.now (record { controller = c.index_mut-in-Out.result.now.controller; switch = c.pop-in-Out.new.self; peers = c.index_mut-in-Out.result.now.peers }) c.pop-in-Out.result c.in-Out.is
    c.requires.steady c.requires.node c.index_mut-in-Out.ensures.value refl refl (λ i. record { controller = g.C.NodeController.seen c.index_mut-in-Out.result.now.controller; switch = c.pop-in-Out.ensures.popped i }) (λ y cells. (refl, (refl, refl))) c.pop-in-Out.ensures.first refl refl refl refl refl refl refl refl refl
