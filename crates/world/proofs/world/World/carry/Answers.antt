use Rattle.std.proofs.Common.{rules, ◌<◌, ◌^◌, arith, sym, subst}
use Rattle.world.specs.Coming.{HasWay}
use Rattle.std.proofs.lemmas.Result.{on_ok_weaker}
use Rattle.net_types.specs.Number.{HasNumbersLeft}
use Rattle.world_model.specs.Places.{queue_at}
use Rattle.world.specs.Network.{world_of}
use Rattle.world.proofs.Acting.{carried_came, empty_came, is_there}
use Rattle.world.proofs.Conditions.{head_low, left, queue_low, steady, way_behind}
use Rattle.world.proofs.world.World.carry.Goals as goal

pub take_head-requires-clause-steady : goal.take_head-requires-clause-steady
take_head-requires-clause-steady g c = steady g.C.NodeController.seen g.topology c.args.self.now c.requires.1.1.0 (omega (arith, c.requires.1.1.1.0))

pub take_head-requires-clause-port : goal.take_head-requires-clause-port
take_head-requires-clause-port g c = queue_low g.C.NodeController.seen g.topology c.args.self.now c.requires.1.1.0 c.args.place c.requires.1.1.1.1

pub arrive-requires : goal.arrive-requires
arrive-requires g c =
    let way : HasWay g.topology c.take_head.new.self c.args.place = way_behind g.C.NodeController.seen g.topology c.args.self.now c.requires.1.1.0 c.take_head.new.self c.args.place c.take_head.ensures.size c.take_head.ensures.peers c.requires.1.1.1.1 in
    let numbers : HasNumbersLeft c.take_head.new.self.numbers = subst HasNumbersLeft (sym c.take_head.ensures.numbers) (left g.C.NodeController.seen g.topology c.args.self.now c.requires.1.1.0 c.requires.1.1.1.0) in
    let low : c.in-Some.cell.mark.frame < 2 ^ 63 = head_low g.C.NodeController.seen g.topology c.args.self.now c.requires.1.1.0 c.args.place c.in-Some.cell c.requires.1.1.1.0 (sym c.in-Some.ensures.first) in
    search rules

pub returns-in-None-clause-come : goal.returns-in-None-clause-come
returns-in-None-clause-come g c = empty_came g.C.NodeController.seen g.topology c.args.self.now c.take_head.new.self c.args.place c.args.notes.now c.in-None.ensures

pub returns-in-Some-clause-come : goal.returns-in-Some-clause-come
returns-in-Some-clause-come g c = on_ok_weaker c.arrive.result
    (λ h. carried_came g.C.NodeController.seen g.topology c.args.self.now c.take_head.new.self c.arrive.new.self c.args.place c.args.notes.now c.arrive.new.notes c.in-Some.cell c.in-Some.ensures h)
    c.arrive.ensures

pub returns-in-Some-clause-memory : goal.returns-in-Some-clause-memory
returns-in-Some-clause-memory g c = λ empty. absurd (is_there g.C.NodeController.seen (queue_at (world_of g.C.NodeController.seen c.args.self.now c.args.notes.now) c.args.place) c.in-Some.cell (sym c.in-Some.ensures.first) empty)
