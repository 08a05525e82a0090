use Rattle.std.proofs.Common.{rules, ◌≡◌, ◌∙◌, ◌<◌, ◌≤◌, ◌+◌, ◌-◌, ℕ, List, ap, length, refl, slice_get, Some, subst, sym, take, arith}
use Rattle.net_types.specs.declared.node.Place.{Place}
use Rattle.link_model.specs.declared.record.Record.{Record}
use Rattle.lab_io.specs.Report.{IsPut}
use Rattle.world_model.specs.network_model.declared.event.Event.{Event}
use Rattle.world_model.specs.network_model.declared.event.Event.TheVariants.{Carry}
use Rattle.world_model.specs.Limits.{event_limit}
use Rattle.world_model.specs.Places.{places}
use Rattle.world_model.specs.Run.{next, put_away, round, world_after}
use Rattle.world_model.specs.World.{World}
use Rattle.world.specs.Network.{world_of}
use Rattle.world.specs.Waiting.{IsEmptyIn}
use Rattle.world.proofs.Places.{place_is, same_places}
use Rattle.telling_model.specs.Placed.{placed_events}
use Rattle.telling_model.specs.Tale.{told}
use Rattle.network_run.specs.Telling.{meter_behind}
use Rattle.network_run.proofs.Passed.{at_later, none_holding}
use Rattle.lab_io.proofs.Stops.{nothing_put, stays, stays_then}
use Rattle.network_run.proofs.Telling.{none_ok, on_err}
use Rattle.network_run.proofs.Turns.{after_next, all_at, can_come, meter_in, meter_next, round_length, turn_is, turn_knows, turn_puts, turn_stops}
use Rattle.network_run.proofs.carries.round.Goals as goal

pub pass_over-requires : goal.pass_over-requires
pass_over-requires g c =
    let first : World = world_of g.C.NodeController.seen c.args.world.now c.args.notes.now in
    let w : World = world_of g.C.NodeController.seen c.loop-found.world c.loop-found.notes in
    let runs = c.requires.1.1.1.1.1.0.runs in
    let there = c.next_waiting.new.self in
    let after = c.next_waiting.ensures in
    let queues : there.round.items ≡ places first = after.runs.round ∙ same_places g.topology _ _ 1 _ _ after.runs.world.sites runs.world.sites (after.runs.world.nodes ∙ sym runs.world.nodes) in
    let size : length (round first) ≡ length there.round.items = round_length first ∙ ap length (sym queues) in
    let few : there.events + (c.in-Some.found - c.loop-found.from) ≤ event_limit = omega (arith, ap (λ (u : World). u.events) (after.same c.loop-found.notes), c.loop-found.invariant.events, size, c.in-Some.ensures.next.0, c.in-Some.ensures.next.1, c.requires.1.1.1.1.1.1) in
    search rules

pub place-requires : goal.place-requires
place-requires g c =
    let first : World = world_of g.C.NodeController.seen c.args.world.now c.args.notes.now in
    let w : World = world_of g.C.NodeController.seen c.loop-found.world c.loop-found.notes in
    let runs = c.requires.1.1.1.1.1.0.runs in
    let there = c.next_waiting.new.self in
    let after = c.next_waiting.ensures in
    let queues : there.round.items ≡ places first = after.runs.round ∙ same_places g.topology _ _ 1 _ _ after.runs.world.sites runs.world.sites (after.runs.world.nodes ∙ sym runs.world.nodes) in
    let size : length (round first) ≡ length there.round.items = round_length first ∙ ap length (sym queues) in
    let late : c.pass_over.new.self.round.items ≡ places first = c.pass_over.ensures.runs.round ∙ same_places g.topology _ _ 1 _ _ c.pass_over.ensures.runs.world.sites runs.world.sites (c.pass_over.ensures.runs.world.nodes ∙ sym runs.world.nodes) in
    omega (arith, c.in-Some.ensures.next.1, ap length queues, ap length late)

pub step-requires : goal.step-requires
step-requires g c =
    let first : World = world_of g.C.NodeController.seen c.args.world.now c.args.notes.now in
    let w : World = world_of g.C.NodeController.seen c.loop-found.world c.loop-found.notes in
    let runs = c.requires.1.1.1.1.1.0.runs in
    let there = c.next_waiting.new.self in
    let after = c.next_waiting.ensures in
    let queues : there.round.items ≡ places first = after.runs.round ∙ same_places g.topology _ _ 1 _ _ after.runs.world.sites runs.world.sites (after.runs.world.nodes ∙ sym runs.world.nodes) in
    let size : length (round first) ≡ length there.round.items = round_length first ∙ ap length (sym queues) in
    let found : ℕ = c.in-Some.found in
    let v : World = world_of g.C.NodeController.seen c.pass_over.new.self c.loop-found.notes in
    let over : v ≡ record w { events = w.events + (found - c.loop-found.from) } = c.pass_over.ensures.world c.loop-found.notes ∙ ap (λ (u : World). record u { events = u.events + (found - c.loop-found.from) }) (after.same c.loop-found.notes) in
    let p = at_later g.C.NodeController.seen g.T.Teller.tale c.passes_over_empty_queues.ensures (g.T.Teller.state c.args.told.now.teller) c.args.context.now.line g.topology first c.args.meter.now c.args.told.now.writer (g.K.Sink.written c.args.sink.now)
    there c.loop-found.from found w v (g.T.Teller.state c.loop-found.told.teller) c.loop-found.meter c.pass_over.new.meter c.loop-found.told.writer (g.K.Sink.written c.loop-found.sink) c.loop-found.invariant.at
    queues (ap (λ (u : World). u.sites) (after.same c.loop-found.notes)) c.in-Some.ensures.next.0 (omega (arith, size, c.in-Some.ensures.next.1)) c.in-Some.ensures.next.3 over c.pass_over.ensures.meter c.pass_over.ensures.kept in
    let late : c.pass_over.new.self.round.items ≡ places first = c.pass_over.ensures.runs.round ∙ same_places g.topology _ _ 1 _ _ c.pass_over.ensures.runs.world.sites runs.world.sites (c.pass_over.ensures.runs.world.nodes ∙ sym runs.world.nodes) in
    let event : Event = Carry c.place.result in
    let turn : slice_get (round first) found ≡ Some event = turn_is first found c.place.result (ap (λ (ps : List Place). slice_get ps found) (sym late) ∙ c.place.ensures) in
    let low : found < length (round first) = omega (arith, size, c.in-Some.ensures.next.1) in
    let events : v.events ≡ first.events + found = omega (arith, ap (λ (u : World). u.events) over, c.loop-found.invariant.events, c.in-Some.ensures.next.0) in
    let here : slice_get (places first) found ≡ Some c.place.result = ap (λ (ps : List Place). slice_get ps found) (sym late) ∙ c.place.ensures in
    let come = can_come g.topology first v found c.place.result events low c.requires.1.1.1.1.1.1
    (place_is g.topology _ 1 _ runs.world.sites (omega arith) (omega (arith, runs.world.nodes)) found c.place.result here) in
    λ κs fits. (fits.0, (fits.1.0, (fits.1.1.0, (fits.1.1.1, (c.requires.1.1.1.1.0, (record { empty = c.loop-found.invariant.ready.empty; runs = c.pass_over.ensures.runs }, come))))))

pub returns-in_err-step-clause-stepped : goal.returns-in_err-step-clause-stepped
returns-in_err-step-clause-stepped g c =
    let first : World = world_of g.C.NodeController.seen c.args.world.now c.args.notes.now in
    let w : World = world_of g.C.NodeController.seen c.loop-found.world c.loop-found.notes in
    let runs = c.requires.1.1.1.1.1.0.runs in
    let there = c.next_waiting.new.self in
    let after = c.next_waiting.ensures in
    let queues : there.round.items ≡ places first = after.runs.round ∙ same_places g.topology _ _ 1 _ _ after.runs.world.sites runs.world.sites (after.runs.world.nodes ∙ sym runs.world.nodes) in
    let size : length (round first) ≡ length there.round.items = round_length first ∙ ap length (sym queues) in
    let found : ℕ = c.in-Some.found in
    let v : World = world_of g.C.NodeController.seen c.pass_over.new.self c.loop-found.notes in
    let over : v ≡ record w { events = w.events + (found - c.loop-found.from) } = c.pass_over.ensures.world c.loop-found.notes ∙ ap (λ (u : World). record u { events = u.events + (found - c.loop-found.from) }) (after.same c.loop-found.notes) in
    let p = at_later g.C.NodeController.seen g.T.Teller.tale c.passes_over_empty_queues.ensures (g.T.Teller.state c.args.told.now.teller) c.args.context.now.line g.topology first c.args.meter.now c.args.told.now.writer (g.K.Sink.written c.args.sink.now)
    there c.loop-found.from found w v (g.T.Teller.state c.loop-found.told.teller) c.loop-found.meter c.pass_over.new.meter c.loop-found.told.writer (g.K.Sink.written c.loop-found.sink) c.loop-found.invariant.at
    queues (ap (λ (u : World). u.sites) (after.same c.loop-found.notes)) c.in-Some.ensures.next.0 (omega (arith, size, c.in-Some.ensures.next.1)) c.in-Some.ensures.next.3 over c.pass_over.ensures.meter c.pass_over.ensures.kept in
    let late : c.pass_over.new.self.round.items ≡ places first = c.pass_over.ensures.runs.round ∙ same_places g.topology _ _ 1 _ _ c.pass_over.ensures.runs.world.sites runs.world.sites (c.pass_over.ensures.runs.world.nodes ∙ sym runs.world.nodes) in
    let event : Event = Carry c.place.result in
    let turn : slice_get (round first) found ≡ Some event = turn_is first found c.place.result (ap (λ (ps : List Place). slice_get ps found) (sym late) ∙ c.place.ensures) in
    record {
      world = none_ok c.from_residual.result _ _ c.from_residual.ensures.1;
      ready = none_ok c.from_residual.result _ _ c.from_residual.ensures.1;
      meter_is = none_ok c.from_residual.result _ _ c.from_residual.ensures.1;
      kept = on_err c.from_residual.result
          (meter_in c.args.meter.now g.topology first v (round first) found event c.step.new.meter c.pass_over.new.meter turn p.world p.meter_is c.in_err-step.ensures.kept);
    }

pub returns-in_err-step-clause-told : goal.returns-in_err-step-clause-told
returns-in_err-step-clause-told g c =
    let first : World = world_of g.C.NodeController.seen c.args.world.now c.args.notes.now in
    let w : World = world_of g.C.NodeController.seen c.loop-found.world c.loop-found.notes in
    let runs = c.requires.1.1.1.1.1.0.runs in
    let there = c.next_waiting.new.self in
    let after = c.next_waiting.ensures in
    let queues : there.round.items ≡ places first = after.runs.round ∙ same_places g.topology _ _ 1 _ _ after.runs.world.sites runs.world.sites (after.runs.world.nodes ∙ sym runs.world.nodes) in
    let size : length (round first) ≡ length there.round.items = round_length first ∙ ap length (sym queues) in
    let found : ℕ = c.in-Some.found in
    let v : World = world_of g.C.NodeController.seen c.pass_over.new.self c.loop-found.notes in
    let over : v ≡ record w { events = w.events + (found - c.loop-found.from) } = c.pass_over.ensures.world c.loop-found.notes ∙ ap (λ (u : World). record u { events = u.events + (found - c.loop-found.from) }) (after.same c.loop-found.notes) in
    let p = at_later g.C.NodeController.seen g.T.Teller.tale c.passes_over_empty_queues.ensures (g.T.Teller.state c.args.told.now.teller) c.args.context.now.line g.topology first c.args.meter.now c.args.told.now.writer (g.K.Sink.written c.args.sink.now)
    there c.loop-found.from found w v (g.T.Teller.state c.loop-found.told.teller) c.loop-found.meter c.pass_over.new.meter c.loop-found.told.writer (g.K.Sink.written c.loop-found.sink) c.loop-found.invariant.at
    queues (ap (λ (u : World). u.sites) (after.same c.loop-found.notes)) c.in-Some.ensures.next.0 (omega (arith, size, c.in-Some.ensures.next.1)) c.in-Some.ensures.next.3 over c.pass_over.ensures.meter c.pass_over.ensures.kept in
    let late : c.pass_over.new.self.round.items ≡ places first = c.pass_over.ensures.runs.round ∙ same_places g.topology _ _ 1 _ _ c.pass_over.ensures.runs.world.sites runs.world.sites (c.pass_over.ensures.runs.world.nodes ∙ sym runs.world.nodes) in
    let event : Event = Carry c.place.result in
    let turn : slice_get (round first) found ≡ Some event = turn_is first found c.place.result (ap (λ (ps : List Place). slice_get ps found) (sym late) ∙ c.place.ensures) in
    record {
      put = turn_stops g.T.Teller.tale (g.T.Teller.state c.args.told.now.teller) c.args.context.now.line g.topology first v (round first) found event (g.T.Teller.state c.loop-found.told.teller) c.from_residual.result _ c.args.told.now.writer c.loop-found.told.writer c.step.new.told.writer (g.K.Sink.written c.args.sink.now) (g.K.Sink.written c.loop-found.sink) (g.K.Sink.written c.step.new.sink)
          c.from_residual.ensures.1 turn p.world p.knows p.put c.in_err-step.ensures.told.put;
      knows = none_ok c.from_residual.result _ _ c.from_residual.ensures.1;
      room = stays_then _ _ _ c.loop-found.invariant.room c.in_err-step.ensures.told.room;
    }

pub loop-found-preserved : goal.loop-found-preserved
loop-found-preserved g c =
    let first : World = world_of g.C.NodeController.seen c.args.world.now c.args.notes.now in
    let w : World = world_of g.C.NodeController.seen c.loop-found.world c.loop-found.notes in
    let runs = c.requires.1.1.1.1.1.0.runs in
    let there = c.next_waiting.new.self in
    let after = c.next_waiting.ensures in
    let queues : there.round.items ≡ places first = after.runs.round ∙ same_places g.topology _ _ 1 _ _ after.runs.world.sites runs.world.sites (after.runs.world.nodes ∙ sym runs.world.nodes) in
    let size : length (round first) ≡ length there.round.items = round_length first ∙ ap length (sym queues) in
    let found : ℕ = c.in-Some.found in
    let v : World = world_of g.C.NodeController.seen c.pass_over.new.self c.loop-found.notes in
    let over : v ≡ record w { events = w.events + (found - c.loop-found.from) } = c.pass_over.ensures.world c.loop-found.notes ∙ ap (λ (u : World). record u { events = u.events + (found - c.loop-found.from) }) (after.same c.loop-found.notes) in
    let p = at_later g.C.NodeController.seen g.T.Teller.tale c.passes_over_empty_queues.ensures (g.T.Teller.state c.args.told.now.teller) c.args.context.now.line g.topology first c.args.meter.now c.args.told.now.writer (g.K.Sink.written c.args.sink.now)
    there c.loop-found.from found w v (g.T.Teller.state c.loop-found.told.teller) c.loop-found.meter c.pass_over.new.meter c.loop-found.told.writer (g.K.Sink.written c.loop-found.sink) c.loop-found.invariant.at
    queues (ap (λ (u : World). u.sites) (after.same c.loop-found.notes)) c.in-Some.ensures.next.0 (omega (arith, size, c.in-Some.ensures.next.1)) c.in-Some.ensures.next.3 over c.pass_over.ensures.meter c.pass_over.ensures.kept in
    let late : c.pass_over.new.self.round.items ≡ places first = c.pass_over.ensures.runs.round ∙ same_places g.topology _ _ 1 _ _ c.pass_over.ensures.runs.world.sites runs.world.sites (c.pass_over.ensures.runs.world.nodes ∙ sym runs.world.nodes) in
    let event : Event = Carry c.place.result in
    let turn : slice_get (round first) found ≡ Some event = turn_is first found c.place.result (ap (λ (ps : List Place). slice_get ps found) (sym late) ∙ c.place.ensures) in
    let more : c.step.new.world.events ≡ v.events + 1 = ap (λ (u : World). u.events) c.in_ok-step.ensures.world in
    record {
      at = record {
        world = c.in_ok-step.ensures.world ∙ ap (λ (u : World). put_away (next g.topology u event)) p.world ∙ ap put_away (after_next g.topology first (round first) found event turn);
        put = turn_puts g.T.Teller.tale (g.T.Teller.state c.args.told.now.teller) c.args.context.now.line g.topology first v (round first) found event (g.T.Teller.state c.loop-found.told.teller) c.args.told.now.writer c.loop-found.told.writer c.step.new.told.writer (g.K.Sink.written c.args.sink.now) (g.K.Sink.written c.loop-found.sink) (g.K.Sink.written c.step.new.sink)
            turn p.world p.knows p.put c.in_ok-step.ensures.told.put;
        knows = turn_knows g.T.Teller.tale (g.T.Teller.state c.args.told.now.teller) c.args.context.now.line g.topology first v (round first) found event (g.T.Teller.state c.loop-found.told.teller) (g.T.Teller.state c.step.new.told.teller) turn p.world p.knows c.in_ok-step.ensures.told.knows;
        meter_is = meter_next c.args.meter.now g.topology first v (round first) found event c.step.new.meter turn p.world c.in_ok-step.ensures.meter;
      };
      ready = c.in_ok-step.ensures.ready;
      events = omega (arith, more, ap (λ (u : World). u.events) over, c.loop-found.invariant.events, c.in-Some.ensures.next.0);
      within = omega (arith, size, c.in-Some.ensures.next.1);
      room = stays_then _ _ _ c.loop-found.invariant.room c.in_ok-step.ensures.told.room;
      faults = c.in_ok-step.ensures.faults ∙ c.loop-found.invariant.faults;
    }

pub loop-found-init : goal.loop-found-init
loop-found-init g c =
    let first : World = world_of g.C.NodeController.seen c.args.world.now c.args.notes.now in
    record {
      at = record {
        world = ap (λ (records : List Record). record first { notes = record first.notes { records = records } }) c.requires.1.1.1.1.1.0.empty;
        put = nothing_put _ _;
        knows = refl;
        meter_is = refl;
      };
      ready = c.requires.1.1.1.1.1.0;
      events = omega arith;
      within = omega arith;
      room = stays _;
      faults = refl;
    }

pub loop-found-smaller : goal.loop-found-smaller
loop-found-smaller g c =
    let first : World = world_of g.C.NodeController.seen c.args.world.now c.args.notes.now in
    let w : World = world_of g.C.NodeController.seen c.loop-found.world c.loop-found.notes in
    let runs = c.requires.1.1.1.1.1.0.runs in
    let there = c.next_waiting.new.self in
    let after = c.next_waiting.ensures in
    let queues : there.round.items ≡ places first = after.runs.round ∙ same_places g.topology _ _ 1 _ _ after.runs.world.sites runs.world.sites (after.runs.world.nodes ∙ sym runs.world.nodes) in
    let size : length (round first) ≡ length there.round.items = round_length first ∙ ap length (sym queues) in
    let end : c.places-places.result ≡ length (round first) = c.places-places.ensures ∙ ap length c.requires.1.1.1.1.1.0.runs.round ∙ sym (round_length first) in
    omega (arith, end, size, c.in-Some.ensures.next.0, c.in-Some.ensures.next.1)

pub pass_over-requires-2 : goal.pass_over-requires-2
pass_over-requires-2 g c =
    let first : World = world_of g.C.NodeController.seen c.args.world.now c.args.notes.now in
    let w : World = world_of g.C.NodeController.seen c.loop-found.world c.loop-found.notes in
    let runs = c.requires.1.1.1.1.1.0.runs in
    let there = c.next_waiting.new.self in
    let after = c.next_waiting.ensures in
    let queues : there.round.items ≡ places first = after.runs.round ∙ same_places g.topology _ _ 1 _ _ after.runs.world.sites runs.world.sites (after.runs.world.nodes ∙ sym runs.world.nodes) in
    let size : length (round first) ≡ length there.round.items = round_length first ∙ ap length (sym queues) in
    let end : c.places-places.result ≡ length (round first) = c.places-places.ensures ∙ ap length c.requires.1.1.1.1.1.0.runs.round ∙ sym (round_length first) in
    let few : there.events + (c.places-places.result - c.loop-found.from) ≤ event_limit = omega (arith, ap (λ (u : World). u.events) (after.same c.loop-found.notes), c.loop-found.invariant.events, c.loop-found.invariant.within, end, c.requires.1.1.1.1.1.1) in
    search rules

pub returns-clause-stepped : goal.returns-clause-stepped
returns-clause-stepped g c =
    let first : World = world_of g.C.NodeController.seen c.args.world.now c.args.notes.now in
    let w : World = world_of g.C.NodeController.seen c.loop-found.world c.loop-found.notes in
    let runs = c.requires.1.1.1.1.1.0.runs in
    let there = c.next_waiting.new.self in
    let after = c.next_waiting.ensures in
    let queues : there.round.items ≡ places first = after.runs.round ∙ same_places g.topology _ _ 1 _ _ after.runs.world.sites runs.world.sites (after.runs.world.nodes ∙ sym runs.world.nodes) in
    let size : length (round first) ≡ length there.round.items = round_length first ∙ ap length (sym queues) in
    let end : ℕ = c.places-places.result in
    let last : end ≡ length (round first) = c.places-places.ensures ∙ ap length c.requires.1.1.1.1.1.0.runs.round ∙ sym (round_length first) in
    let v : World = world_of g.C.NodeController.seen c.pass_over-2.new.self c.loop-found.notes in
    let over : v ≡ record w { events = w.events + (end - c.loop-found.from) } = c.pass_over-2.ensures.world c.loop-found.notes ∙ ap (λ (u : World). record u { events = u.events + (end - c.loop-found.from) }) (after.same c.loop-found.notes) in
    let p = at_later g.C.NodeController.seen g.T.Teller.tale c.passes_over_empty_queues.ensures (g.T.Teller.state c.args.told.now.teller) c.args.context.now.line g.topology first c.args.meter.now c.args.told.now.writer (g.K.Sink.written c.args.sink.now)
    there c.loop-found.from end w v (g.T.Teller.state c.loop-found.told.teller) c.loop-found.meter c.pass_over-2.new.meter c.loop-found.told.writer (g.K.Sink.written c.loop-found.sink) c.loop-found.invariant.at
    queues (ap (λ (u : World). u.sites) (after.same c.loop-found.notes)) (omega (arith, last, c.loop-found.invariant.within)) (omega (arith, last)) (subst (IsEmptyIn g.C.NodeController.seen there c.loop-found.from) (omega (arith, last, size)) (none_holding g.C.NodeController.seen there c.loop-found.from (length there.round.items) c.next_waiting.result after.next c.in_default.not-Some)) over c.pass_over-2.ensures.meter c.pass_over-2.ensures.kept in
    let all : take end (round first) ≡ round first = all_at (round first) end last in
    record {
      world = p.world ∙ ap (λ (events : List Event). put_away (world_after g.topology first events)) all;
      ready = record { empty = c.loop-found.invariant.ready.empty; runs = c.pass_over-2.ensures.runs };
      meter_is = p.meter_is ∙ ap (meter_behind c.args.meter.now g.topology first) all;
      kept = tt;
    }

pub returns-clause-told : goal.returns-clause-told
returns-clause-told g c =
    let first : World = world_of g.C.NodeController.seen c.args.world.now c.args.notes.now in
    let w : World = world_of g.C.NodeController.seen c.loop-found.world c.loop-found.notes in
    let runs = c.requires.1.1.1.1.1.0.runs in
    let there = c.next_waiting.new.self in
    let after = c.next_waiting.ensures in
    let queues : there.round.items ≡ places first = after.runs.round ∙ same_places g.topology _ _ 1 _ _ after.runs.world.sites runs.world.sites (after.runs.world.nodes ∙ sym runs.world.nodes) in
    let size : length (round first) ≡ length there.round.items = round_length first ∙ ap length (sym queues) in
    let end : ℕ = c.places-places.result in
    let last : end ≡ length (round first) = c.places-places.ensures ∙ ap length c.requires.1.1.1.1.1.0.runs.round ∙ sym (round_length first) in
    let v : World = world_of g.C.NodeController.seen c.pass_over-2.new.self c.loop-found.notes in
    let over : v ≡ record w { events = w.events + (end - c.loop-found.from) } = c.pass_over-2.ensures.world c.loop-found.notes ∙ ap (λ (u : World). record u { events = u.events + (end - c.loop-found.from) }) (after.same c.loop-found.notes) in
    let p = at_later g.C.NodeController.seen g.T.Teller.tale c.passes_over_empty_queues.ensures (g.T.Teller.state c.args.told.now.teller) c.args.context.now.line g.topology first c.args.meter.now c.args.told.now.writer (g.K.Sink.written c.args.sink.now)
    there c.loop-found.from end w v (g.T.Teller.state c.loop-found.told.teller) c.loop-found.meter c.pass_over-2.new.meter c.loop-found.told.writer (g.K.Sink.written c.loop-found.sink) c.loop-found.invariant.at
    queues (ap (λ (u : World). u.sites) (after.same c.loop-found.notes)) (omega (arith, last, c.loop-found.invariant.within)) (omega (arith, last)) (subst (IsEmptyIn g.C.NodeController.seen there c.loop-found.from) (omega (arith, last, size)) (none_holding g.C.NodeController.seen there c.loop-found.from (length there.round.items) c.next_waiting.result after.next c.in_default.not-Some)) over c.pass_over-2.ensures.meter c.pass_over-2.ensures.kept in
    let all : take end (round first) ≡ round first = all_at (round first) end last in
    record {
      put = subst (λ (events : List Event). IsPut c.args.told.now.writer c.loop-found.told.writer (g.K.Sink.written c.args.sink.now) (g.K.Sink.written c.loop-found.sink) (told g.T.Teller.tale (g.T.Teller.state c.args.told.now.teller) g.topology first (placed_events c.args.context.now.line events)).octets) all p.put;
      knows = p.knows ∙ ap (λ (events : List Event). (told g.T.Teller.tale (g.T.Teller.state c.args.told.now.teller) g.topology first (placed_events c.args.context.now.line events)).state) all;
      room = c.loop-found.invariant.room;
    }
