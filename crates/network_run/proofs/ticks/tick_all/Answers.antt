use Rattle.std.proofs.Common.{◌≡◌, ◌∙◌, ◌+◌, ℕ, List, ap, refl, slice_get, Some, subst, sym, take, arith}
use Rattle.link_model.specs.declared.record.Record.{Record}
use Rattle.lab_io.specs.Report.{IsPut}
use Rattle.world_model.specs.network_model.declared.event.Event.{Event}
use Rattle.world_model.specs.Run.{next, put_away, tick_of_all, world_after}
use Rattle.world_model.specs.World.{World}
use Rattle.world.specs.Network.{world_of}
use Rattle.telling_model.specs.Placed.{placed_events}
use Rattle.telling_model.specs.Tale.{told}
use Rattle.network_run.specs.Telling.{meter_behind}
use Rattle.lab_io.proofs.Stops.{nothing_put, stays, stays_then}
use Rattle.network_run.proofs.Telling.{none_ok, on_err}
use Rattle.network_run.proofs.Turns.{after_next, all_at, can_come_in, meter_in, meter_next, turn_knows, turn_puts, turn_stops}
use Rattle.network_run.proofs.AllTicks.{at_notes, tick_is, tick_meant, ticks_length}
use Rattle.network_run.proofs.ticks.tick_all.Goals as goal

pub step-requires : goal.step-requires
step-requires g c =
    let first : World = world_of g.C.NodeController.seen c.args.world.now c.args.notes.now in
    let w : World = world_of g.C.NodeController.seen c.loop-index.world c.loop-index.notes in
    let i : ℕ = c.loop-index.index in
    let event : Event = c.tick_at-event.result in
    let turn : slice_get (tick_of_all first) i ≡ Some event = tick_is c.args.context.now.names.now first i c.nodes-nodes.result event (at_notes c.args.context.now.names.now _ c.args.notes.now c.requires.ready.runs.world) c.nodes-nodes.ensures.len c.loop-index-test.true c.tick_at-event.ensures.controllers c.tick_at-event.ensures.switches in
    let come = can_come_in c.args.context.now.names.now first w (tick_of_all first) i event turn c.loop-index.invariant.events c.requires.few (tick_meant c.args.context.now.names.now first w i event (at_notes c.args.context.now.names.now _ c.args.notes.now c.requires.ready.runs.world) turn) in
    λ κs fits. (fits.0, (fits.1.0, (fits.1.1.0, (fits.1.1.1, (refl, (c.loop-index.invariant.ready, come))))))

pub returns-in_err-step-clause-stepped : goal.returns-in_err-step-clause-stepped
returns-in_err-step-clause-stepped g c =
    let first : World = world_of g.C.NodeController.seen c.args.world.now c.args.notes.now in
    let w : World = world_of g.C.NodeController.seen c.loop-index.world c.loop-index.notes in
    let i : ℕ = c.loop-index.index in
    let event : Event = c.tick_at-event.result in
    let turn : slice_get (tick_of_all first) i ≡ Some event = tick_is c.args.context.now.names.now first i c.nodes-nodes.result event (at_notes c.args.context.now.names.now _ c.args.notes.now c.requires.ready.runs.world) c.nodes-nodes.ensures.len c.loop-index-test.true c.tick_at-event.ensures.controllers c.tick_at-event.ensures.switches in
    record {
      world = none_ok c.from_residual.result _ _ c.from_residual.ensures.1;
      ready = none_ok c.from_residual.result _ _ c.from_residual.ensures.1;
      meter_is = none_ok c.from_residual.result _ _ c.from_residual.ensures.1;
      kept = on_err c.from_residual.result
          (meter_in c.args.meter.now c.args.context.now.names.now first w (tick_of_all first) i event c.step.new.meter c.loop-index.meter turn c.loop-index.invariant.world c.loop-index.invariant.meter c.in_err-step.ensures.kept);
    }

pub returns-in_err-step-clause-told : goal.returns-in_err-step-clause-told
returns-in_err-step-clause-told g c =
    let first : World = world_of g.C.NodeController.seen c.args.world.now c.args.notes.now in
    let w : World = world_of g.C.NodeController.seen c.loop-index.world c.loop-index.notes in
    let i : ℕ = c.loop-index.index in
    let event : Event = c.tick_at-event.result in
    let turn : slice_get (tick_of_all first) i ≡ Some event = tick_is c.args.context.now.names.now first i c.nodes-nodes.result event (at_notes c.args.context.now.names.now _ c.args.notes.now c.requires.ready.runs.world) c.nodes-nodes.ensures.len c.loop-index-test.true c.tick_at-event.ensures.controllers c.tick_at-event.ensures.switches in
    record {
      put = turn_stops g.T.Teller.tale (g.T.Teller.state c.args.told.now.teller) c.args.context.now.line c.args.context.now.names.now first w (tick_of_all first) i event (g.T.Teller.state c.loop-index.told.teller) c.from_residual.result _ c.args.told.now.writer c.loop-index.told.writer c.step.new.told.writer (g.K.Sink.written c.args.sink.now) (g.K.Sink.written c.loop-index.sink) (g.K.Sink.written c.step.new.sink)
          c.from_residual.ensures.1 turn c.loop-index.invariant.world c.loop-index.invariant.knows c.loop-index.invariant.put c.in_err-step.ensures.told.put;
      knows = none_ok c.from_residual.result _ _ c.from_residual.ensures.1;
      room = stays_then _ _ _ c.loop-index.invariant.room c.in_err-step.ensures.told.room;
    }

pub loop-index-preserved : goal.loop-index-preserved
loop-index-preserved g c =
    let first : World = world_of g.C.NodeController.seen c.args.world.now c.args.notes.now in
    let w : World = world_of g.C.NodeController.seen c.loop-index.world c.loop-index.notes in
    let i : ℕ = c.loop-index.index in
    let event : Event = c.tick_at-event.result in
    let runs = c.requires.ready.runs in
    let turn : slice_get (tick_of_all first) i ≡ Some event = tick_is c.args.context.now.names.now first i c.nodes-nodes.result event (at_notes c.args.context.now.names.now _ c.args.notes.now c.requires.ready.runs.world) c.nodes-nodes.ensures.len c.loop-index-test.true c.tick_at-event.ensures.controllers c.tick_at-event.ensures.switches in
    let more : c.step.new.world.events ≡ c.loop-index.world.events + 1 = ap (λ (v : World). v.events) c.in_ok-step.ensures.world in
    record {
      world = c.in_ok-step.ensures.world ∙ ap (λ (v : World). put_away (next c.args.context.now.names.now v event)) c.loop-index.invariant.world ∙ ap put_away (after_next c.args.context.now.names.now first (tick_of_all first) i event turn);
      ready = c.in_ok-step.ensures.ready;
      events = omega (arith, more, c.loop-index.invariant.events);
      put = turn_puts g.T.Teller.tale (g.T.Teller.state c.args.told.now.teller) c.args.context.now.line c.args.context.now.names.now first w (tick_of_all first) i event (g.T.Teller.state c.loop-index.told.teller) c.args.told.now.writer c.loop-index.told.writer c.step.new.told.writer (g.K.Sink.written c.args.sink.now) (g.K.Sink.written c.loop-index.sink) (g.K.Sink.written c.step.new.sink)
          turn c.loop-index.invariant.world c.loop-index.invariant.knows c.loop-index.invariant.put c.in_ok-step.ensures.told.put;
      knows = turn_knows g.T.Teller.tale (g.T.Teller.state c.args.told.now.teller) c.args.context.now.line c.args.context.now.names.now first w (tick_of_all first) i event (g.T.Teller.state c.loop-index.told.teller) (g.T.Teller.state c.step.new.told.teller) turn c.loop-index.invariant.world c.loop-index.invariant.knows c.in_ok-step.ensures.told.knows;
      room = stays_then _ _ _ c.loop-index.invariant.room c.in_ok-step.ensures.told.room;
      faults = c.in_ok-step.ensures.faults ∙ c.loop-index.invariant.faults;
      meter = meter_next c.args.meter.now c.args.context.now.names.now first w (tick_of_all first) i event c.step.new.meter turn c.loop-index.invariant.world c.in_ok-step.ensures.meter;
    }

pub loop-index-init : goal.loop-index-init
loop-index-init g c =
    let first : World = world_of g.C.NodeController.seen c.args.world.now c.args.notes.now in
    record {
      world = ap (λ (records : List Record). record first { notes = record first.notes { records = records } }) c.requires.ready.empty;
      ready = c.requires.ready;
      events = omega arith;
      put = nothing_put _ _;
      knows = refl;
      room = stays _;
      faults = refl;
      meter = refl;
    }

pub returns-clause-stepped : goal.returns-clause-stepped
returns-clause-stepped g c =
    let first : World = world_of g.C.NodeController.seen c.args.world.now c.args.notes.now in
    let end : c.loop-index.index ≡ c.nodes-nodes.result + c.nodes-nodes.result = omega (arith, c.loop-index-test.false, c.loop-index.auto.index-end) in
    let all : take c.loop-index.index (tick_of_all first) ≡ tick_of_all first = all_at (tick_of_all first) c.loop-index.index (end ∙ sym (ticks_length c.args.context.now.names.now first c.nodes-nodes.result (at_notes c.args.context.now.names.now _ c.args.notes.now c.requires.ready.runs.world) c.nodes-nodes.ensures.len)) in
    record {
      world = c.loop-index.invariant.world ∙ ap (λ (events : List Event). put_away (world_after c.args.context.now.names.now first events)) all;
      ready = c.loop-index.invariant.ready;
      meter_is = c.loop-index.invariant.meter ∙ ap (meter_behind c.args.meter.now c.args.context.now.names.now first) all;
      kept = tt;
    }

pub returns-clause-told : goal.returns-clause-told
returns-clause-told g c =
    let first : World = world_of g.C.NodeController.seen c.args.world.now c.args.notes.now in
    let end : c.loop-index.index ≡ c.nodes-nodes.result + c.nodes-nodes.result = omega (arith, c.loop-index-test.false, c.loop-index.auto.index-end) in
    let all : take c.loop-index.index (tick_of_all first) ≡ tick_of_all first = all_at (tick_of_all first) c.loop-index.index (end ∙ sym (ticks_length c.args.context.now.names.now first c.nodes-nodes.result (at_notes c.args.context.now.names.now _ c.args.notes.now c.requires.ready.runs.world) c.nodes-nodes.ensures.len)) in
    record {
      put = subst (λ (events : List Event). IsPut c.args.told.now.writer c.loop-index.told.writer (g.K.Sink.written c.args.sink.now) (g.K.Sink.written c.loop-index.sink) (told g.T.Teller.tale (g.T.Teller.state c.args.told.now.teller) c.args.context.now.names.now first (placed_events c.args.context.now.line events)).octets) all c.loop-index.invariant.put;
      knows = c.loop-index.invariant.knows ∙ ap (λ (events : List Event). (told g.T.Teller.tale (g.T.Teller.state c.args.told.now.teller) c.args.context.now.names.now first (placed_events c.args.context.now.line events)).state) all;
      room = c.loop-index.invariant.room;
    }
