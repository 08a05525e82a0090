use Rattle.std.proofs.Common.{sym, subst}
use Rattle.std.proofs.lemmas.Result.{on_ok_weaker}
use Rattle.link_model.specs.Notes.{Journal}
use Rattle.world_model.specs.Places.{queue_at}
use Rattle.world_model.specs.Step.{loses_head}
use Rattle.world.specs.Coming.{HasCome}
use Rattle.world.specs.Network.{world_of}
use Rattle.world.proofs.Acting.{empty_lost, is_there, lost_came}
use Rattle.world.proofs.world.World.lose.Goals as goal

pub returns-in-None-clause-come : goal.returns-in-None-clause-come
returns-in-None-clause-come g c = empty_lost g.C.NodeController.seen c.args.self.now c.take_head.new.self c.args.place c.args.notes.now c.in-None.ensures

pub returns-in-Some-clause-come : goal.returns-in-Some-clause-come
returns-in-Some-clause-come g c =
    let w = world_of g.C.NodeController.seen c.args.self.now c.args.notes.now in
    on_ok_weaker c.push.result
    (λ e. subst (λ (after : Journal). HasCome g.C.NodeController.seen c.args.self.now c.take_head.new.self after (loses_head w c.args.place (queue_at w c.args.place))) (sym e)
    (lost_came g.C.NodeController.seen c.args.self.now c.take_head.new.self c.args.place c.args.notes.now c.in-Some.cell c.in-Some.ensures))
    c.push.ensures.ok

pub returns-in-Some-clause-memory : goal.returns-in-Some-clause-memory
returns-in-Some-clause-memory g c = λ empty. absurd (is_there g.C.NodeController.seen (queue_at (world_of g.C.NodeController.seen c.args.self.now c.args.notes.now) c.args.place) c.in-Some.cell (sym c.in-Some.ensures.first) empty)
