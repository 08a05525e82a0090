use Rattle.std.proofs.Common.{◌∙◌, List, [], ap, false, get_or, refl, subst}
use Rattle.std.proofs.lemmas.Option.{slice_get-get_or}
use Rattle.net_types.specs.declared.node.Place.TheVariants.{Down}
use Rattle.lab_io.specs.Report.{IsPut}
use Rattle.net_types.specs.declared.number.Mark.{Mark}
use Rattle.lab_io.specs.Puts.{Puts}
use Rattle.lab_io.proofs.Stops.{nothing_put, put_then, stays, stays_then, stops_at}
use Rattle.tell_trace.specs.Passages.{passage_lines}
use Rattle.tell_trace.specs.Trace.{cell_told}
use Rattle.telling_model.specs.declared.standing.Standing.{Standing}
use Rattle.tell_trace.proofs.Told.{so_far, later, next_cell, next_marks, rest_by}
use Rattle.tell_trace.proofs.tell.tell_cells.Goals as goal

-- what stands for a cell past the end
abbrev blank : Standing
blank = record {
  place = Down (record { 0 = 0 });
  cell = record { header = record { channel = record { vpi = 0; vci = 0 }; last = false }; payload = []; mark = record { packet = 0; frame = 0 } };
}

pub returns-in_err-tell_cell-clause-put : goal.returns-in_err-tell_cell-clause-put
returns-in_err-tell_cell-clause-put g c =
    let t = c.args.names.now in
    let frames = c.args.ledger.now.frames in
    let marks = c.args.told.now in
    let cells = c.args.cells.now in
    let i = c.loop-standing.standing-index in
    let cell = get_or cells i blank in
    let e = slice_get-get_or cells i blank c.loop-standing-test.true in
    subst (Puts c.from_residual.result c.args.writer.now c.tell_cell.new.writer (g.K.Sink.written c.args.sink.now) (g.K.Sink.written c.tell_cell.new.sink))
    (rest_by frames marks cells i cell e t c.loop-standing.told c.loop-standing.invariant.marks)
    (stops_at c.from_residual.result _ c.args.writer.now c.loop-standing.writer c.tell_cell.new.writer (g.K.Sink.written c.args.sink.now) (g.K.Sink.written c.loop-standing.sink) (g.K.Sink.written c.tell_cell.new.sink)
    (passage_lines t (so_far frames marks cells i cell e).passages) (passage_lines t (cell_told frames c.loop-standing.told cell.place cell.cell).passages)
    (passage_lines t (later frames marks cells i cell e).passages) c.from_residual.ensures.1 c.loop-standing.invariant.put c.in_err-tell_cell.ensures.put)

pub returns-in_err-tell_cell-clause-room : goal.returns-in_err-tell_cell-clause-room
returns-in_err-tell_cell-clause-room g c = stays_then _ _ _ c.loop-standing.invariant.room c.in_err-tell_cell.ensures.room

pub loop-standing-init : goal.loop-standing-init
loop-standing-init g c = record { put = nothing_put _ _; marks = refl; room = stays _; faults = refl }

pub loop-standing-preserved : goal.loop-standing-preserved
loop-standing-preserved g c =
    let t = c.args.names.now in
    let frames = c.args.ledger.now.frames in
    let marks = c.args.told.now in
    let cells = c.args.cells.now in
    let i = c.loop-standing.standing-index in
    let cell = get_or cells i blank in
    let e = slice_get-get_or cells i blank c.loop-standing-test.true in
    record {
      put = subst (IsPut c.args.writer.now c.tell_cell.new.writer (g.K.Sink.written c.args.sink.now) (g.K.Sink.written c.tell_cell.new.sink))
          (next_cell frames marks cells i cell e t)
          (put_then c.args.writer.now c.loop-standing.writer c.tell_cell.new.writer (g.K.Sink.written c.args.sink.now) (g.K.Sink.written c.loop-standing.sink) (g.K.Sink.written c.tell_cell.new.sink)
          _ _ c.loop-standing.invariant.put
          (subst (λ (m : List Mark). IsPut c.loop-standing.writer c.tell_cell.new.writer (g.K.Sink.written c.loop-standing.sink) (g.K.Sink.written c.tell_cell.new.sink) (passage_lines t (cell_told frames m cell.place cell.cell).passages))
          c.loop-standing.invariant.marks c.in_ok-tell_cell.ensures.put));
      marks = c.in_ok-tell_cell.ensures.marks ∙ ap (λ (m : List Mark). (cell_told frames m cell.place cell.cell).marks) c.loop-standing.invariant.marks ∙ next_marks frames marks cells i cell e;
      room = stays_then _ _ _ c.loop-standing.invariant.room c.in_ok-tell_cell.ensures.room;
      faults = c.in_ok-tell_cell.ensures.faults ∙ c.loop-standing.invariant.faults;
    }
