-- the queue of a port

use Rattle.std.specs.Prelude.{List}
use Rattle.trace_model.specs.declared.cell.TraceCell.{TraceCell}
use Rattle.trace_model.specs.declared.end.TraceEnd.{TraceEnd}
use Rattle.trace_audit.specs.Counted.{cells_in}
use Rattle.trace_audit.specs.declared.queues.Queues.{Queues}

abbrev pub queue_in : Queues → TraceEnd → List TraceCell
queue_in queues at = cells_in queues.cells at
