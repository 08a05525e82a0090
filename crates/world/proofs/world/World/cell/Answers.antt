use Rattle.std.proofs.Common.{◌∙◌, ap, slice_get, sym}
use Rattle.world.specs.Network.{no_notes, world_of}
use Rattle.world.proofs.Waiting.{queue_down, queue_out, queue_up}
use Rattle.world.proofs.world.World.cell.Goals as goal

pub returns-in-Down : goal.returns-in-Down
returns-in-Down g c topology runs =
    let is = queue_down (world_of g.C.NodeController.seen c.args.self.now no_notes) c.args.place c.in-Down.node (g.C.NodeController.seen c.controller.result.now) c.in-Down.is (c.controller.ensures topology runs) in
    c.cell.ensures ∙ ap (λ cells. slice_get cells c.args.index) (sym is)

pub returns-in-Up : goal.returns-in-Up
returns-in-Up g c topology runs =
    let is = queue_up (world_of g.C.NodeController.seen c.args.self.now no_notes) c.args.place c.in-Up.node c.switch.result.now c.in-Up.is (c.switch.ensures topology runs) in
    c.cell-in-Up.ensures ∙ ap (λ cells. slice_get cells c.args.index) (sym is)

pub returns-in-Out : goal.returns-in-Out
returns-in-Out g c topology runs =
    let is = queue_out (world_of g.C.NodeController.seen c.args.self.now no_notes) c.args.place c.in-Out.node c.switch-in-Out.result.now c.in-Out.port c.in-Out.is (c.switch-in-Out.ensures topology runs) in
    c.cell-in-Out.ensures ∙ ap (λ cells. slice_get cells c.args.index) (sym is)
