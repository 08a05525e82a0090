use Rattle.std.proofs.Common.{◌≡◌, ◌++◌, [], ap, subst}
use Rattle.std.specs.List.{flat_map}
use Rattle.link_model.specs.Ledger.{Books}
use Rattle.lab_io.specs.Puts.{Puts}
use Rattle.lab_io.proofs.Stops.{nothing_put, puts_then, stays_then, stops_at}
use Rattle.tell_trace.specs.Passages.{passage_lines}
use Rattle.tell_trace.specs.Trace.{bind_told, cells_told, taken_told}
use Rattle.tell_trace.proofs.Told.{whole_event}
use Rattle.tell_trace.proofs.tell.tell_event.Goals as goal

pub returns-in_err-tell_taken-clause-put : goal.returns-in_err-tell_taken-clause-put
returns-in_err-tell_taken-clause-put g c =
    let t = c.args.names.now in
    let passed = c.args.passed.now in
    let before = taken_told passed.event.now passed.taken in
    let frames : c.ledger-ledger.result.now.frames ≡ passed.notes.now.frames = ap (λ (b : Books). b.frames) c.ledger-ledger.ensures in
    subst (Puts c.from_residual.result c.args.writer.now c.tell_taken.new.writer (g.K.Sink.written c.args.sink.now) (g.K.Sink.written c.tell_taken.new.sink))
    (whole_event t before c.args.told.now passed.cells.now passed.notes.now.frames c.ledger-ledger.result.now.frames frames passed.notes.now.records c.records-records.result.now c.records-records.ensures)
    (stops_at c.from_residual.result _ c.args.writer.now c.args.writer.now c.tell_taken.new.writer (g.K.Sink.written c.args.sink.now) (g.K.Sink.written c.args.sink.now) (g.K.Sink.written c.tell_taken.new.sink)
    [] (passage_lines t before) (passage_lines t (cells_told c.ledger-ledger.result.now.frames c.args.told.now passed.cells.now).passages ++ passage_lines t (flat_map bind_told c.records-records.result.now))
    c.from_residual.ensures.1 (nothing_put _ _) c.in_err-tell_taken.ensures.put)

pub returns-in_err-tell_cells-clause-put : goal.returns-in_err-tell_cells-clause-put
returns-in_err-tell_cells-clause-put g c =
    let t = c.args.names.now in
    let passed = c.args.passed.now in
    let before = taken_told passed.event.now passed.taken in
    let frames : c.ledger-ledger.result.now.frames ≡ passed.notes.now.frames = ap (λ (b : Books). b.frames) c.ledger-ledger.ensures in
    subst (Puts c.from_residual-in_err-tell_cells.result c.args.writer.now c.tell_cells.new.writer (g.K.Sink.written c.args.sink.now) (g.K.Sink.written c.tell_cells.new.sink))
    (whole_event t before c.args.told.now passed.cells.now passed.notes.now.frames c.ledger-ledger.result.now.frames frames passed.notes.now.records c.records-records.result.now c.records-records.ensures)
    (stops_at c.from_residual-in_err-tell_cells.result _ c.args.writer.now c.tell_taken.new.writer c.tell_cells.new.writer (g.K.Sink.written c.args.sink.now) (g.K.Sink.written c.tell_taken.new.sink) (g.K.Sink.written c.tell_cells.new.sink)
    (passage_lines t before) (passage_lines t (cells_told c.ledger-ledger.result.now.frames c.args.told.now passed.cells.now).passages) (passage_lines t (flat_map bind_told c.records-records.result.now))
    c.from_residual-in_err-tell_cells.ensures.1 c.in_ok-tell_taken.ensures.put c.in_err-tell_cells.ensures.put)

pub returns-in_err-tell_cells-clause-room : goal.returns-in_err-tell_cells-clause-room
returns-in_err-tell_cells-clause-room g c = stays_then _ _ _ c.in_ok-tell_taken.ensures.room c.in_err-tell_cells.ensures.room

pub returns-clause-put : goal.returns-clause-put
returns-clause-put g c =
    let t = c.args.names.now in
    let passed = c.args.passed.now in
    let before = taken_told passed.event.now passed.taken in
    let frames : c.ledger-ledger.result.now.frames ≡ passed.notes.now.frames = ap (λ (b : Books). b.frames) c.ledger-ledger.ensures in
    subst (Puts c.tell_bindings.result c.args.writer.now c.tell_bindings.new.writer (g.K.Sink.written c.args.sink.now) (g.K.Sink.written c.tell_bindings.new.sink))
    (whole_event t before c.args.told.now passed.cells.now passed.notes.now.frames c.ledger-ledger.result.now.frames frames passed.notes.now.records c.records-records.result.now c.records-records.ensures)
    (puts_then c.tell_bindings.result c.args.writer.now c.tell_taken.new.writer c.tell_bindings.new.writer (g.K.Sink.written c.args.sink.now) (g.K.Sink.written c.tell_taken.new.sink) (g.K.Sink.written c.tell_bindings.new.sink)
    (passage_lines t before) (passage_lines t (cells_told c.ledger-ledger.result.now.frames c.args.told.now passed.cells.now).passages ++ passage_lines t (flat_map bind_told c.records-records.result.now)) c.in_ok-tell_taken.ensures.put
    (puts_then c.tell_bindings.result c.tell_taken.new.writer c.tell_cells.new.writer c.tell_bindings.new.writer (g.K.Sink.written c.tell_taken.new.sink) (g.K.Sink.written c.tell_cells.new.sink) (g.K.Sink.written c.tell_bindings.new.sink)
    (passage_lines t (cells_told c.ledger-ledger.result.now.frames c.args.told.now passed.cells.now).passages) (passage_lines t (flat_map bind_told c.records-records.result.now)) c.in_ok-tell_cells.ensures.put c.tell_bindings.ensures.put))

pub returns-clause-room : goal.returns-clause-room
returns-clause-room g c =
    stays_then _ _ _ (stays_then _ _ _ c.in_ok-tell_taken.ensures.room c.in_ok-tell_cells.ensures.room) c.tell_bindings.ensures.room
