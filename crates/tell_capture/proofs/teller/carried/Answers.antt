use Rattle.std.proofs.Common.{◌∙◌, ap, sym}
use Rattle.world.specs.Network.{world_of}
use Rattle.tell_capture.specs.Capture.{carried}
use Rattle.tell_capture.proofs.Carried.{port_is}
use Rattle.tell_capture.proofs.teller.carried.Goals as goal

pub first-requires-clause-port : goal.first-requires-clause-port
first-requires-clause-port g c =
    port_is g.C.NodeController.seen c.args.world.now c.args.notes.now c.args.event.now c.in-Carry.place c.in-Carry.is c.requires.coming

pub returns-in-Carry : goal.returns-in-Carry
returns-in-Carry g c =
    c.first.ensures c.requires.coming.topology c.requires.coming.runs
    ∙ ap (carried (world_of g.C.NodeController.seen c.args.world.now c.args.notes.now)) (sym c.in-Carry.is)
