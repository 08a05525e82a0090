use Rattle.std.proofs.Common.{◌≡◌, ◌∙◌, ◌+◌, ap, subst, sym}
use Rattle.world_model.specs.World.{World}
use Rattle.world.specs.Network.{world_of}
use Rattle.lab_io.specs.Report.{IsPut}
use Rattle.lab_io.specs.Puts.{Puts}
use Rattle.lab_io.proofs.Stops.{none_of, nothing_put, passes_on}
use Rattle.tell_journal.specs.Journal.{deeds_of}
use Rattle.tell_journal.specs.Seen.{deeds_in}
use Rattle.tell_journal.proofs.Deeds.{line_told, none_told, same_deeds}
use Rattle.tell_journal.proofs.teller.JournalTellerTeller.after.Goals as goal

pub returns-in_err-put_cells-clause-put : goal.returns-in_err-put_cells-clause-put
returns-in_err-put_cells-clause-put g c known then looked came =
    passes_on c.from_residual.result _ _ _ _ _ _ c.from_residual.ensures.1 (none_of _ _ _)

pub returns-then-not-is_told-clause-put : goal.returns-then-not-is_told-clause-put
returns-then-not-is_told-clause-put g c known then looked came =
    let t = c.args.context.now.names.now in
    let event = c.args.event.now in
    let now : World = world_of g.C.NodeController.seen c.args.world.now c.args.notes.now in
    let cells = c.put_cells.new.out.items in
    let before = c.args.self.now.before in
    let same : deeds_in before cells c.args.notes.now ≡ deeds_of t then event =
    same_deeds t then now event before cells looked (c.in_ok-put_cells.ensures t then event c.args.notes.now c.requires.runs looked came) came in
    subst (IsPut c.args.writer.now c.args.writer.now (g.K.Sink.written c.args.sink.now) (g.K.Sink.written c.args.sink.now))
    (sym (none_told t (then.events + 1) c.args.context.now.line event (deeds_in before cells c.args.notes.now) (deeds_of t then event) same (sym c.is_told.ensures ∙ c.if-not-is_told.true)))
    (nothing_put c.args.writer.now (g.K.Sink.written c.args.sink.now))

pub returns-clause-put : goal.returns-clause-put
returns-clause-put g c known then looked came =
    let t = c.args.context.now.names.now in
    let event = c.args.event.now in
    let now : World = world_of g.C.NodeController.seen c.args.world.now c.args.notes.now in
    let cells = c.put_cells.new.out.items in
    let before = c.args.self.now.before in
    let same : deeds_in before cells c.args.notes.now ≡ deeds_of t then event =
    same_deeds t then now event before cells looked (c.in_ok-put_cells.ensures t then event c.args.notes.now c.requires.runs looked came) came in
    let numbered : c.events.result ≡ then.events + 1 = c.events.ensures ∙ ap (λ (v : World). v.events) came in
    subst (Puts c.put_line.result c.args.writer.now c.put_line.new.writer (g.K.Sink.written c.args.sink.now) (g.K.Sink.written c.put_line.new.sink))
    (line_told t c.events.result c.args.context.now.line event then (deeds_in before cells c.args.notes.now) (deeds_of t then event) same numbered (sym c.is_told.ensures ∙ c.if-not-is_told.false))
    (c.put_line.ensures.put _ c.line.ensures)
