use Rattle.std.proofs.Common.{List, subst}
use Rattle.net_types.specs.declared.node.Place.{Place}
use Rattle.lab_io.specs.Puts.{Puts}
use Rattle.lab_io.proofs.Stops.{none_of, passes_on}
use Rattle.pcapng_blocks.specs.Blocks.{file_octets}
use Rattle.tell_capture.specs.Capture.{opening_blocks}
use Rattle.tell_capture.proofs.teller.CaptureTellerTeller.open.Goals as goal

pub returns-in_err-self-clause-put : goal.returns-in_err-self-clause-put
returns-in_err-self-clause-put g c = passes_on c.from_residual.result _ _ _ _ _ _ c.from_residual.ensures.1 (none_of _ _ _)

pub returns-clause-put : goal.returns-clause-put
returns-clause-put g c =
    subst (λ (queues : List Place). Puts c.put_opening.result c.args.writer.now c.put_opening.new.writer (g.K.Sink.written c.args.sink.now) (g.K.Sink.written c.put_opening.new.sink) (file_octets (opening_blocks c.args.names.now queues))) c.requires.runs.round
    c.put_opening.ensures.put
