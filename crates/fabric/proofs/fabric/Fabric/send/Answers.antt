use Rattle.std.proofs.Common.{◌<◌, length, ◌∙◌, arith}
use Rattle.std.proofs.lemmas.List.{length-map}
use Rattle.cell_pool.specs.Region.{cells_of}
use Rattle.cell_pool.proofs.Lines.{LinesChange-trans}
use Rattle.fabric.specs.Fabric.{crossbar}
use Rattle.fabric.proofs.Queues.{sent_more}
use Rattle.fabric.proofs.fabric.Fabric.send.Goals as goal

pub loop-cell-preserved : goal.loop-cell-preserved
loop-cell-preserved c =
    let within : c.args.port.0 < length (crossbar c.args.self.now).queues =
    rw (← c.self.view_is) (omega (arith, length-map c.self.inside.queues.items (cells_of c.self.inside.pool), c.self.invariant.nine, c.requires)) in
    record {
      room = omega (arith, c.push.ensures.free, c.loop-cell.invariant.room);
      sent = sent_more (crossbar c.args.self.now) (crossbar c.loop-cell.self) (crossbar c.push.new.self) c.args.port c.args.cells.now c.loop-cell.cell-index _ within c.loop-cell-test.true c.loop-cell.invariant.sent c.push.ensures.sent;
      queues = record {
        same_ports = c.push.ensures.queues.same_ports ∙ c.loop-cell.invariant.queues.same_ports;
        same_vpis = c.push.ensures.queues.same_vpis ∙ c.loop-cell.invariant.queues.same_vpis;
        lines = LinesChange-trans c.args.self.now.region c.loop-cell.self.region c.push.new.self.region c.args.self.now.lines c.loop-cell.self.lines c.push.new.self.lines
            c.loop-cell.invariant.queues.lines c.push.ensures.queues.lines;
      };
    }
