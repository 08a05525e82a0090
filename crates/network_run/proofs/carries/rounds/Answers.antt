use Rattle.std.proofs.Common.{rules, ◌≡◌, ◌∙◌, ◌+◌, ◌-◌, ◌≤◌, ◌++◌, ℕ, List, ap, length, length-append, refl, subst, sym, arith}
use Rattle.std.specs.Prelude.{◌*◌}
use Rattle.std.specs.List.{repeat}
use Rattle.link_model.specs.declared.record.Record.{Record}
use Rattle.lab_io.specs.Report.{IsPut}
use Rattle.world_model.specs.Limits.{event_limit}
use Rattle.world_model.specs.Run.{put_away, round, world_after}
use Rattle.world_model.specs.World.{World}
use Rattle.world.specs.Network.{world_of}
use Rattle.telling_model.specs.Placed.{placed_events}
use Rattle.telling_model.specs.Tale.{told}
use Rattle.network_run.specs.Telling.{meter_behind}
use Rattle.network_run.proofs.AllTicks.{at_notes}
use Rattle.lab_io.proofs.Stops.{nothing_put, stays, stays_then}
use Rattle.network_run.proofs.Telling.{none_ok, on_err}
use Rattle.world_model.specs.Places.{places}
use Rattle.world.proofs.Places.{same_places}
use Rattle.network_run.proofs.Empty.{AreEmptyCarries, empty_repeated}
use Rattle.network_run.proofs.Passed.{empty_round, passed_meter, passed_put, passed_state, passed_world}
use Rattle.network_run.proofs.Turns.{round_length}
use Rattle.network_run.proofs.Repeated.{events_after, repeat_both, repeat_length, rounds_few, rounds_in, rounds_know, rounds_meter, rounds_put, rounds_stop, rounds_world, same_round}
use Rattle.network_run.proofs.carries.rounds.Goals as goal

pub overflow_mul-left : goal.overflow_mul-left
overflow_mul-left g c =
    let first : World = world_of g.C.NodeController.seen c.args.world.now c.args.notes.now in
    let w : World = world_of g.C.NodeController.seen c.loop-turn.world c.loop-turn.notes in
    let runs = c.requires.1.1.1.1.1.0.runs in
    let there = c.next_waiting.new.self in
    let after = c.next_waiting.ensures in
    let turn : ℕ = c.loop-turn.turn in
    let rest : ℕ = c.args.count - turn in
    let queues : there.round.items ≡ places first = after.runs.round ∙ same_places g.topology _ _ 1 _ _ after.runs.world.sites runs.world.sites (after.runs.world.nodes ∙ sym runs.world.nodes) in
    let size : length (round first) ≡ length there.round.items = round_length first ∙ ap length (sym queues) in
    let all : repeat turn (round first) ++ repeat rest (round first) ≡ repeat c.args.count (round first) = repeat_both turn rest c.args.count (round first) (omega (arith, c.loop-turn-test.true)) in
    let long : length (repeat rest (round first)) ≡ rest * c.places.result = repeat_length rest (round first) ∙ ap (λ (k : ℕ). rest * k) (size ∙ sym c.places.ensures) in
    let sum : length (repeat c.args.count (round first)) ≡ length (repeat turn (round first)) + length (repeat rest (round first)) = ap length (sym all) ∙ length-append (repeat turn (round first)) (repeat rest (round first)) in
    let now : w.events ≡ first.events + length (repeat turn (round first)) = ap (λ (u : World). u.events) c.loop-turn.invariant.world ∙ events_after g.topology first (repeat turn (round first)) in
    let kept : there.events ≡ w.events = ap (λ (u : World). u.events) (after.same c.loop-turn.notes) in
    omega (arith, long, sum, now, c.requires.1.1.1.1.1.1)

pub pass_over-requires : goal.pass_over-requires
pass_over-requires g c =
    let first : World = world_of g.C.NodeController.seen c.args.world.now c.args.notes.now in
    let w : World = world_of g.C.NodeController.seen c.loop-turn.world c.loop-turn.notes in
    let runs = c.requires.1.1.1.1.1.0.runs in
    let there = c.next_waiting.new.self in
    let after = c.next_waiting.ensures in
    let turn : ℕ = c.loop-turn.turn in
    let rest : ℕ = c.args.count - turn in
    let queues : there.round.items ≡ places first = after.runs.round ∙ same_places g.topology _ _ 1 _ _ after.runs.world.sites runs.world.sites (after.runs.world.nodes ∙ sym runs.world.nodes) in
    let size : length (round first) ≡ length there.round.items = round_length first ∙ ap length (sym queues) in
    let all : repeat turn (round first) ++ repeat rest (round first) ≡ repeat c.args.count (round first) = repeat_both turn rest c.args.count (round first) (omega (arith, c.loop-turn-test.true)) in
    let long : length (repeat rest (round first)) ≡ rest * c.places.result = repeat_length rest (round first) ∙ ap (λ (k : ℕ). rest * k) (size ∙ sym c.places.ensures) in
    let sum : length (repeat c.args.count (round first)) ≡ length (repeat turn (round first)) + length (repeat rest (round first)) = ap length (sym all) ∙ length-append (repeat turn (round first)) (repeat rest (round first)) in
    let now : w.events ≡ first.events + length (repeat turn (round first)) = ap (λ (u : World). u.events) c.loop-turn.invariant.world ∙ events_after g.topology first (repeat turn (round first)) in
    let kept : there.events ≡ w.events = ap (λ (u : World). u.events) (after.same c.loop-turn.notes) in
    let few : there.events + rest * c.places.result ≤ event_limit = omega (arith, long, sum, now, kept, c.requires.1.1.1.1.1.1) in
    search rules

pub returns-in-None-clause-stepped : goal.returns-in-None-clause-stepped
returns-in-None-clause-stepped g c =
    let first : World = world_of g.C.NodeController.seen c.args.world.now c.args.notes.now in
    let w : World = world_of g.C.NodeController.seen c.loop-turn.world c.loop-turn.notes in
    let runs = c.requires.1.1.1.1.1.0.runs in
    let there = c.next_waiting.new.self in
    let after = c.next_waiting.ensures in
    let turn : ℕ = c.loop-turn.turn in
    let rest : ℕ = c.args.count - turn in
    let queues : there.round.items ≡ places first = after.runs.round ∙ same_places g.topology _ _ 1 _ _ after.runs.world.sites runs.world.sites (after.runs.world.nodes ∙ sym runs.world.nodes) in
    let size : length (round first) ≡ length there.round.items = round_length first ∙ ap length (sym queues) in
    let all : repeat turn (round first) ++ repeat rest (round first) ≡ repeat c.args.count (round first) = repeat_both turn rest c.args.count (round first) (omega (arith, c.loop-turn-test.true)) in
    let long : length (repeat rest (round first)) ≡ rest * c.places.result = repeat_length rest (round first) ∙ ap (λ (k : ℕ). rest * k) (size ∙ sym c.places.ensures) in
    let sum : length (repeat c.args.count (round first)) ≡ length (repeat turn (round first)) + length (repeat rest (round first)) = ap length (sym all) ∙ length-append (repeat turn (round first)) (repeat rest (round first)) in
    let now : w.events ≡ first.events + length (repeat turn (round first)) = ap (λ (u : World). u.events) c.loop-turn.invariant.world ∙ events_after g.topology first (repeat turn (round first)) in
    let kept : there.events ≡ w.events = ap (λ (u : World). u.events) (after.same c.loop-turn.notes) in
    let sites : (world_of g.C.NodeController.seen there c.loop-turn.notes).sites ≡ w.sites = ap (λ (u : World). u.sites) (after.same c.loop-turn.notes) in
    let v : World = world_of g.C.NodeController.seen c.pass_over.new.self c.loop-turn.notes in
    let empty : AreEmptyCarries w.sites (repeat rest (round first)) = empty_repeated w.sites rest (round first) (empty_round g.C.NodeController.seen there first w.sites queues sites c.in-None.ensures.next size) in
    let over : v ≡ record w { events = w.events + rest * c.places.result } = c.pass_over.ensures.world c.loop-turn.notes ∙ ap (λ (u : World). record u { events = u.events + rest * c.places.result }) (after.same c.loop-turn.notes) in
    record {
      world = passed_world g.topology first w v (repeat turn (round first)) (repeat rest (round first)) (repeat c.args.count (round first)) (rest * c.places.result) all long c.loop-turn.invariant.world empty over;
      ready = record { empty = c.loop-turn.invariant.ready.empty; runs = c.pass_over.ensures.runs };
      meter_is = passed_meter g.topology first w v (repeat turn (round first)) (repeat rest (round first)) (repeat c.args.count (round first)) (rest * c.places.result) all long c.loop-turn.invariant.world empty over c.args.meter.now c.loop-turn.meter c.pass_over.new.meter c.loop-turn.invariant.meter c.pass_over.ensures.meter c.pass_over.ensures.kept;
      kept = tt;
    }

pub returns-in-None-clause-told : goal.returns-in-None-clause-told
returns-in-None-clause-told g c =
    let first : World = world_of g.C.NodeController.seen c.args.world.now c.args.notes.now in
    let w : World = world_of g.C.NodeController.seen c.loop-turn.world c.loop-turn.notes in
    let runs = c.requires.1.1.1.1.1.0.runs in
    let there = c.next_waiting.new.self in
    let after = c.next_waiting.ensures in
    let turn : ℕ = c.loop-turn.turn in
    let rest : ℕ = c.args.count - turn in
    let queues : there.round.items ≡ places first = after.runs.round ∙ same_places g.topology _ _ 1 _ _ after.runs.world.sites runs.world.sites (after.runs.world.nodes ∙ sym runs.world.nodes) in
    let size : length (round first) ≡ length there.round.items = round_length first ∙ ap length (sym queues) in
    let all : repeat turn (round first) ++ repeat rest (round first) ≡ repeat c.args.count (round first) = repeat_both turn rest c.args.count (round first) (omega (arith, c.loop-turn-test.true)) in
    let long : length (repeat rest (round first)) ≡ rest * c.places.result = repeat_length rest (round first) ∙ ap (λ (k : ℕ). rest * k) (size ∙ sym c.places.ensures) in
    let sum : length (repeat c.args.count (round first)) ≡ length (repeat turn (round first)) + length (repeat rest (round first)) = ap length (sym all) ∙ length-append (repeat turn (round first)) (repeat rest (round first)) in
    let now : w.events ≡ first.events + length (repeat turn (round first)) = ap (λ (u : World). u.events) c.loop-turn.invariant.world ∙ events_after g.topology first (repeat turn (round first)) in
    let kept : there.events ≡ w.events = ap (λ (u : World). u.events) (after.same c.loop-turn.notes) in
    let sites : (world_of g.C.NodeController.seen there c.loop-turn.notes).sites ≡ w.sites = ap (λ (u : World). u.sites) (after.same c.loop-turn.notes) in
    let v : World = world_of g.C.NodeController.seen c.pass_over.new.self c.loop-turn.notes in
    let empty : AreEmptyCarries w.sites (repeat rest (round first)) = empty_repeated w.sites rest (round first) (empty_round g.C.NodeController.seen there first w.sites queues sites c.in-None.ensures.next size) in
    let over : v ≡ record w { events = w.events + rest * c.places.result } = c.pass_over.ensures.world c.loop-turn.notes ∙ ap (λ (u : World). record u { events = u.events + rest * c.places.result }) (after.same c.loop-turn.notes) in
    record {
      put = passed_put g.topology first w v (repeat turn (round first)) (repeat rest (round first)) (repeat c.args.count (round first)) (rest * c.places.result) all long c.loop-turn.invariant.world empty over g.T.Teller.tale c.passes_over_empty_queues.ensures (g.T.Teller.state c.args.told.now.teller) c.args.context.now.line c.args.told.now.writer c.loop-turn.told.writer (g.K.Sink.written c.args.sink.now) (g.K.Sink.written c.loop-turn.sink) c.loop-turn.invariant.put;
      knows = passed_state g.topology first w v (repeat turn (round first)) (repeat rest (round first)) (repeat c.args.count (round first)) (rest * c.places.result) all long c.loop-turn.invariant.world empty over g.T.Teller.tale c.passes_over_empty_queues.ensures (g.T.Teller.state c.args.told.now.teller) c.args.context.now.line (g.T.Teller.state c.loop-turn.told.teller) c.loop-turn.invariant.knows;
      room = c.loop-turn.invariant.room;
    }

pub round-requires : goal.round-requires
round-requires g c =
    let first : World = world_of g.C.NodeController.seen c.args.world.now c.args.notes.now in
    let after = c.next_waiting.ensures in
    let w : World = world_of g.C.NodeController.seen c.next_waiting.new.self c.loop-turn.notes in
    let same : w ≡ put_away (world_after g.topology first (repeat c.loop-turn.turn (round first))) = after.same c.loop-turn.notes ∙ c.loop-turn.invariant.world in
    let turns : round w ≡ round first = same_round g.topology first w (at_notes g.topology _ c.args.notes.now c.requires.1.1.1.1.1.0.runs.world) (at_notes g.topology _ c.loop-turn.notes after.runs.world) in
    let few = rounds_few g.topology first w c.loop-turn.turn same turns c.args.count c.loop-turn-test.true c.requires.1.1.1.1.1.1 in
    λ κs fits. (fits.0, (fits.1.0, (fits.1.1.0, (fits.1.1.1, (c.requires.1.1.1.1.0, (record { empty = c.loop-turn.invariant.ready.empty; runs = after.runs }, few))))))

pub returns-in_err-round-in-Some-clause-stepped : goal.returns-in_err-round-in-Some-clause-stepped
returns-in_err-round-in-Some-clause-stepped g c =
    let first : World = world_of g.C.NodeController.seen c.args.world.now c.args.notes.now in
    let after = c.next_waiting.ensures in
    let w : World = world_of g.C.NodeController.seen c.next_waiting.new.self c.loop-turn.notes in
    let same : w ≡ put_away (world_after g.topology first (repeat c.loop-turn.turn (round first))) = after.same c.loop-turn.notes ∙ c.loop-turn.invariant.world in
    let turns : round w ≡ round first = same_round g.topology first w (at_notes g.topology _ c.args.notes.now c.requires.1.1.1.1.1.0.runs.world) (at_notes g.topology _ c.loop-turn.notes after.runs.world) in
    record {
      world = none_ok c.from_residual.result _ _ c.from_residual.ensures.1;
      ready = none_ok c.from_residual.result _ _ c.from_residual.ensures.1;
      meter_is = none_ok c.from_residual.result _ _ c.from_residual.ensures.1;
      kept = on_err c.from_residual.result
          (rounds_in g.topology first w c.loop-turn.turn same turns c.args.count c.args.meter.now c.loop-turn.meter c.round.new.meter c.loop-turn-test.true c.loop-turn.invariant.meter c.in_err-round-in-Some.ensures.stepped.kept);
    }

pub returns-in_err-round-in-Some-clause-told : goal.returns-in_err-round-in-Some-clause-told
returns-in_err-round-in-Some-clause-told g c =
    let first : World = world_of g.C.NodeController.seen c.args.world.now c.args.notes.now in
    let after = c.next_waiting.ensures in
    let w : World = world_of g.C.NodeController.seen c.next_waiting.new.self c.loop-turn.notes in
    let same : w ≡ put_away (world_after g.topology first (repeat c.loop-turn.turn (round first))) = after.same c.loop-turn.notes ∙ c.loop-turn.invariant.world in
    let turns : round w ≡ round first = same_round g.topology first w (at_notes g.topology _ c.args.notes.now c.requires.1.1.1.1.1.0.runs.world) (at_notes g.topology _ c.loop-turn.notes after.runs.world) in
    record {
      put = rounds_stop g.topology first w c.loop-turn.turn same turns g.T.Teller.tale (g.T.Teller.state c.args.told.now.teller) c.args.context.now.line (g.T.Teller.state c.loop-turn.told.teller) c.from_residual.result _ c.args.count c.args.told.now.writer c.loop-turn.told.writer c.round.new.told.writer
          (g.K.Sink.written c.args.sink.now) (g.K.Sink.written c.loop-turn.sink) (g.K.Sink.written c.round.new.sink) c.loop-turn-test.true c.from_residual.ensures.1 c.loop-turn.invariant.knows c.loop-turn.invariant.put c.in_err-round-in-Some.ensures.told.put;
      knows = none_ok c.from_residual.result _ _ c.from_residual.ensures.1;
      room = stays_then _ _ _ c.loop-turn.invariant.room c.in_err-round-in-Some.ensures.told.room;
    }

pub loop-turn-preserved : goal.loop-turn-preserved
loop-turn-preserved g c =
    let first : World = world_of g.C.NodeController.seen c.args.world.now c.args.notes.now in
    let after = c.next_waiting.ensures in
    let w : World = world_of g.C.NodeController.seen c.next_waiting.new.self c.loop-turn.notes in
    let same : w ≡ put_away (world_after g.topology first (repeat c.loop-turn.turn (round first))) = after.same c.loop-turn.notes ∙ c.loop-turn.invariant.world in
    let turns : round w ≡ round first = same_round g.topology first w (at_notes g.topology _ c.args.notes.now c.requires.1.1.1.1.1.0.runs.world) (at_notes g.topology _ c.loop-turn.notes after.runs.world) in
    record {
      world = rounds_world g.topology first w c.loop-turn.turn same turns _ c.in_ok-round-in-Some.ensures.stepped.world;
      ready = c.in_ok-round-in-Some.ensures.stepped.ready;
      put = rounds_put g.topology first w c.loop-turn.turn same turns g.T.Teller.tale (g.T.Teller.state c.args.told.now.teller) c.args.context.now.line (g.T.Teller.state c.loop-turn.told.teller) c.args.told.now.writer c.loop-turn.told.writer c.round.new.told.writer
          (g.K.Sink.written c.args.sink.now) (g.K.Sink.written c.loop-turn.sink) (g.K.Sink.written c.round.new.sink) c.loop-turn.invariant.knows c.loop-turn.invariant.put c.in_ok-round-in-Some.ensures.told.put;
      knows = rounds_know g.topology first w c.loop-turn.turn same turns g.T.Teller.tale (g.T.Teller.state c.args.told.now.teller) c.args.context.now.line (g.T.Teller.state c.loop-turn.told.teller) (g.T.Teller.state c.round.new.told.teller) c.loop-turn.invariant.knows c.in_ok-round-in-Some.ensures.told.knows;
      room = stays_then _ _ _ c.loop-turn.invariant.room c.in_ok-round-in-Some.ensures.told.room;
      faults = c.in_ok-round-in-Some.ensures.faults ∙ c.loop-turn.invariant.faults;
      meter = rounds_meter g.topology first w c.loop-turn.turn same turns c.args.meter.now c.loop-turn.meter c.round.new.meter c.loop-turn.invariant.meter c.in_ok-round-in-Some.ensures.stepped.meter_is;
    }

pub loop-turn-init : goal.loop-turn-init
loop-turn-init g c =
    let first : World = world_of g.C.NodeController.seen c.args.world.now c.args.notes.now in
    record {
      world = ap (λ (records : List Record). record first { notes = record first.notes { records = records } }) c.requires.1.1.1.1.1.0.empty;
      ready = c.requires.1.1.1.1.1.0;
      put = nothing_put _ _;
      knows = refl;
      room = stays _;
      faults = refl;
      meter = refl;
    }

pub returns-clause-stepped : goal.returns-clause-stepped
returns-clause-stepped g c =
    let first : World = world_of g.C.NodeController.seen c.args.world.now c.args.notes.now in
    let end : c.loop-turn.turn ≡ c.args.count = omega (arith, c.loop-turn-test.false, c.loop-turn.auto.turn-end) in
    record {
      world = c.loop-turn.invariant.world ∙ ap (λ (k : ℕ). put_away (world_after g.topology first (repeat k (round first)))) end;
      ready = c.loop-turn.invariant.ready;
      meter_is = c.loop-turn.invariant.meter ∙ ap (λ (k : ℕ). meter_behind c.args.meter.now g.topology first (repeat k (round first))) end;
      kept = tt;
    }

pub returns-clause-told : goal.returns-clause-told
returns-clause-told g c =
    let first : World = world_of g.C.NodeController.seen c.args.world.now c.args.notes.now in
    let end : c.loop-turn.turn ≡ c.args.count = omega (arith, c.loop-turn-test.false, c.loop-turn.auto.turn-end) in
    record {
      put = subst (λ (k : ℕ). IsPut c.args.told.now.writer c.loop-turn.told.writer (g.K.Sink.written c.args.sink.now) (g.K.Sink.written c.loop-turn.sink) (told g.T.Teller.tale (g.T.Teller.state c.args.told.now.teller) g.topology first (placed_events c.args.context.now.line (repeat k (round first)))).octets) end c.loop-turn.invariant.put;
      knows = c.loop-turn.invariant.knows ∙ ap (λ (k : ℕ). (told g.T.Teller.tale (g.T.Teller.state c.args.told.now.teller) g.topology first (placed_events c.args.context.now.line (repeat k (round first)))).state) end;
      room = c.loop-turn.invariant.room;
    }
