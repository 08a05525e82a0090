use Rattle.lab_io.proofs.Stops.{nothing_put, puts_then, stays_then, stops_at}
use Rattle.script_model.specs.Reports.{last_line_by}
use Rattle.world_model.specs.World.{World}
use Rattle.world.specs.Network.{no_notes, world_of}
use Rattle.show_text.specs.Shown.{end_line, totals_of, world_lines}
use Rattle.tell_show.proofs.teller.LastStateEndTeller.tell_end.Goals as goal

pub returns-in_err-tell_nodes-clause-put : goal.returns-in_err-tell_nodes-clause-put
returns-in_err-tell_nodes-clause-put g c =
    let t = c.args.names.now in
    let w : World = world_of g.C.NodeController.seen c.args.world.now no_notes in
    stops_at c.from_residual.result _ c.args.writer.now c.args.writer.now c.tell_nodes.new.writer (g.K.Sink.written c.args.sink.now) (g.K.Sink.written c.args.sink.now) (g.K.Sink.written c.tell_nodes.new.sink)
    _ (world_lines t w) (last_line_by (end_line (totals_of w)) c.args.ended.refused) c.from_residual.ensures.1 (nothing_put _ _) c.in_err-tell_nodes.ensures.put

pub returns-clause-put : goal.returns-clause-put
returns-clause-put g c =
    let t = c.args.names.now in
    let w : World = world_of g.C.NodeController.seen c.args.world.now no_notes in
    puts_then c.tell_last.result c.args.writer.now c.tell_nodes.new.writer c.tell_last.new.writer (g.K.Sink.written c.args.sink.now) (g.K.Sink.written c.tell_nodes.new.sink) (g.K.Sink.written c.tell_last.new.sink)
    (world_lines t w) (last_line_by (end_line (totals_of w)) c.args.ended.refused) c.in_ok-tell_nodes.ensures.put c.tell_last.ensures.put

pub returns-clause-room : goal.returns-clause-room
returns-clause-room g c = stays_then _ _ _ c.in_ok-tell_nodes.ensures.room c.tell_last.ensures.room
