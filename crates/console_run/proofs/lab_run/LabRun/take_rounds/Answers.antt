use Rattle.std.proofs.Common.{◌≡◌, ◌∙◌, ℕ, refl, subst, arith}
use Rattle.console_run.specs.Task.{lab_of}
use Rattle.console_run.proofs.Rounds.{IsAmid, all_after, all_lines, amid_more, amid_none, amid_stops}
use Rattle.lab_io.proofs.Stops.{stays, stays_then}
use Rattle.console_run.proofs.lab_run.LabRun.take_rounds.Goals as goal

pub returns-in_err-take_round-clause-put : goal.returns-in_err-take_round-clause-put
returns-in_err-take_round-clause-put g c =
    amid_stops (lab_of c.args.self.now) (lab_of c.loop-turn.self) c.loop-turn._turn c.args.count c.loop-turn-test.true c.args.writer.now c.loop-turn.writer c.take_round.new.writer
    (g.K.Sink.written c.args.sink.now) (g.K.Sink.written c.loop-turn.sink) (g.K.Sink.written c.take_round.new.sink) c.loop-turn.invariant.amid c.from_residual.result _ c.from_residual.ensures.1 c.in_err-take_round.ensures.put

pub returns-in_err-take_round-clause-room : goal.returns-in_err-take_round-clause-room
returns-in_err-take_round-clause-room g c = stays_then _ _ _ c.loop-turn.invariant.room c.in_err-take_round.ensures.room

pub loop-turn-init : goal.loop-turn-init
loop-turn-init g c = record { amid = amid_none _ _ _ _; room = stays _; faults = refl; few = omega (arith, c.requires) }

pub loop-turn-preserved : goal.loop-turn-preserved
loop-turn-preserved g c = record {
  amid = amid_more (lab_of c.args.self.now) (lab_of c.loop-turn.self) c.loop-turn._turn c.args.count c.loop-turn-test.true c.args.writer.now c.loop-turn.writer c.take_round.new.writer
      (g.K.Sink.written c.args.sink.now) (g.K.Sink.written c.loop-turn.sink) (g.K.Sink.written c.take_round.new.sink) c.loop-turn.invariant.amid (lab_of c.take_round.new.self) c.in_ok-take_round.ensures.after c.in_ok-take_round.ensures.put;
  room = stays_then _ _ _ c.loop-turn.invariant.room c.in_ok-take_round.ensures.room;
  faults = c.in_ok-take_round.ensures.faults ∙ c.loop-turn.invariant.faults;
  few = omega (arith, c.in_ok-take_round.ensures.count, c.loop-turn.invariant.few, c.loop-turn-test.true);
}

pub returns-clause-put : goal.returns-clause-put
returns-clause-put g c =
    let end : c.loop-turn._turn ≡ c.args.count = omega (arith, c.loop-turn-test.false, c.loop-turn.auto._turn-end) in
    all_lines (lab_of c.args.self.now) (lab_of c.loop-turn.self) c.args.count c.args.writer.now c.loop-turn.writer (g.K.Sink.written c.args.sink.now) (g.K.Sink.written c.loop-turn.sink)
    (subst (λ (k : ℕ). IsAmid (lab_of c.args.self.now) (lab_of c.loop-turn.self) k c.args.count c.args.writer.now c.loop-turn.writer (g.K.Sink.written c.args.sink.now) (g.K.Sink.written c.loop-turn.sink)) end c.loop-turn.invariant.amid)

pub returns-clause-after : goal.returns-clause-after
returns-clause-after g c =
    let end : c.loop-turn._turn ≡ c.args.count = omega (arith, c.loop-turn-test.false, c.loop-turn.auto._turn-end) in
    all_after (lab_of c.args.self.now) (lab_of c.loop-turn.self) c.args.count c.args.writer.now c.loop-turn.writer (g.K.Sink.written c.args.sink.now) (g.K.Sink.written c.loop-turn.sink)
    (subst (λ (k : ℕ). IsAmid (lab_of c.args.self.now) (lab_of c.loop-turn.self) k c.args.count c.args.writer.now c.loop-turn.writer (g.K.Sink.written c.args.sink.now) (g.K.Sink.written c.loop-turn.sink)) end c.loop-turn.invariant.amid)
