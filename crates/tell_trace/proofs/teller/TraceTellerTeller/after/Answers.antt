use Rattle.std.proofs.Common.{◌≡◌, ◌∙◌, OnOk, ap, subst}
use Rattle.tell_passing.specs.Look.{IsBefore}
use Rattle.telling_model.specs.Passing.{cells_put, cell_taken}
use Rattle.world_model.specs.Run.{next}
use Rattle.world_model.specs.World.{World}
use Rattle.lab_io.specs.Puts.{Puts}
use Rattle.lab_io.proofs.Stops.{none_of, passes_on}
use Rattle.tell_trace.specs.Passages.{passage_lines}
use Rattle.tell_trace.specs.Trace.{Told, event_told, passed}
use Rattle.tell_trace.proofs.teller.TraceTellerTeller.after.Goals as goal

pub returns-in_err-put_cells-clause-put : goal.returns-in_err-put_cells-clause-put
returns-in_err-put_cells-clause-put g c known then waits came =
    passes_on c.from_residual.result _ _ _ _ _ _ c.from_residual.ensures.1 (none_of _ _ _)

pub returns-clause-put : goal.returns-clause-put
returns-clause-put g c known then waits came =
    let t = c.args.context.now.names.now in
    let event = c.args.event.now in
    let seen : IsBefore t then event c.args.self.now.before = waits.seen in
    let took : c.taken.result ≡ cell_taken then event = c.taken.ensures ∙ seen.taken in
    let cells : c.as_slice.result.now ≡ cells_put t then event = c.as_slice.ensures.value ∙ c.in_ok-put_cells.ensures t then event c.args.notes.now c.requires.runs seen came in
    let notes : c.args.notes.now ≡ (next t then event).notes = ap (λ (w : World). w.notes) came in
    let all : passed c.args.self.now.told event c.taken.result c.as_slice.result.now c.args.notes.now ≡ event_told known t then event =
    λ i. passed (waits.knows i) event (took i) (cells i) (notes i) in
    subst (λ (told : Told). Puts c.tell_event.result c.args.writer.now c.tell_event.new.writer (g.K.Sink.written c.args.sink.now) (g.K.Sink.written c.tell_event.new.sink) (passage_lines t told.passages)) all
    c.tell_event.ensures.put

pub returns-clause-state : goal.returns-clause-state
returns-clause-state g c known then waits came =
    let t = c.args.context.now.names.now in
    let event = c.args.event.now in
    let seen : IsBefore t then event c.args.self.now.before = waits.seen in
    let took : c.taken.result ≡ cell_taken then event = c.taken.ensures ∙ seen.taken in
    let cells : c.as_slice.result.now ≡ cells_put t then event = c.as_slice.ensures.value ∙ c.in_ok-put_cells.ensures t then event c.args.notes.now c.requires.runs seen came in
    let notes : c.args.notes.now ≡ (next t then event).notes = ap (λ (w : World). w.notes) came in
    let all : passed c.args.self.now.told event c.taken.result c.as_slice.result.now c.args.notes.now ≡ event_told known t then event =
    λ i. passed (waits.knows i) event (took i) (cells i) (notes i) in
    subst (λ (told : Told). OnOk c.tell_event.result (c.tell_event.new.told ≡ told.marks)) all c.tell_event.ensures.marks
