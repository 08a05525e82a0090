-- the lines of the trace of a run have the forms that an audit reads

use Rattle.std.proofs.Common.{◌≡◌, ◌≢◌, inl, ℕ, ◌+◌, ◌*◌, ◌^◌, ◌<◌, ◌≤◌, ◌||◌, Bool, true, false, List, [], ◌∷◌, ◌++◌, length, map, flat_map, append_assoc, None, Some, refl, sym, ◌∙◌, ap, subst, arith, is_some}
use Rattle.std.specs.Prelude.{Contains, nat_lt}
use Rattle.std.specs.List.{list_any}
use Rattle.std.proofs.lemmas.Bool.Decides.{nat_tests}
use Rattle.world_model.specs.Words.{NodeId, PortNo, Place, Down, Up, Out, Mark, is_label_channel, Cell, Record, payload_of, Policy, same_channel, default_channel, IsTopology, IsWithin, AreOctets, is_wild, IsRun, IsTame, Past, past_of, queue_at, places, next, Topology, World}
use Rattle.world_model.specs.link_model.declared.record.Record.TheVariants as kinds
use Rattle.law_passing.specs.ordered_lists.Ordered.{Every}
use Rattle.law_passing.proofs.ordered_lists.Every.{every_join, every_right}
use Rattle.law_packet_worlds.proofs.Nets.{world_net}
use Rattle.law_packet_worlds.proofs.Opening.{no_cells}
use Rattle.law_packet_worlds.proofs.Worlds.{IsNet}
use Rattle.law_label_worlds.proofs.law_quiet_controllers.Beginning.{every_contained, contained}
use Rattle.law_run_facts.specs.Nodes.{RunsHaveRoom}
use Rattle.law_trace_truth.specs.trace_model.Forms.{greatest_payload, is_cell_channel}
use Rattle.law_trace_truth.specs.trace_model.Trace.{Trace, first_put}
use Rattle.law_trace_truth.proofs.law_true_runs.Fronts.{front_run}
use Rattle.law_trace_truth.proofs.law_true_runs.Walk.{holds_at, comes_at}
use Rattle.law_trace_truth.specs.law_true_runs.Runs.{IsWhole}
use Rattle.world_model.specs.network_model.declared.event.Event.{Event}
use Rattle.world_model.specs.World.{opened}
use Rattle.law_run_facts.specs.law_world_views.Kept.{Comes, behind}
use Rattle.law_run_facts.specs.law_world_views.Fronts.{HasAddresses}
use Rattle.law_run_facts.specs.law_world_views.Marks.{Means, heading_at, early, control, local, plain, labelled}
use Rattle.law_passing.specs.telling_model.declared.standing.Standing.{Standing}
use Rattle.law_passing.specs.telling_model.Passing.{standing, left, cells_put, cells_put_at, cell_taken}
use Rattle.tell_trace.specs.Reading.{FitsMark, IsSayable}
use Rattle.tell_trace.specs.Trace.{Told, port_end, taken_told, cells_told, bind_told, event_told, links_told}
use Rattle.law_trace_truth.specs.Told.{events_told, run_told}
use Rattle.law_trace_truth.specs.Law.{HasNames}
use Rattle.law_trace_truth.proofs.Knows.{IsPortEnd, after_told}
use Rattle.law_trace_truth.proofs.Crossing.{puts_on}
use Rattle.law_trace_truth.proofs.Fitting.{IsOutPlace, all_places, every_flat, every_to, not_default, good_binds}
use Rattle.law_trace_truth.proofs.Binds.{IsGoodBind}
use Rattle.law_trace_truth.proofs.Event.{IsStepOf}
use Rattle.law_trace_truth.proofs.Grown.{Grows, grows}
use Rattle.law_trace_truth.proofs.Firsts.{HasFirsts, firsts_kept}
use Rattle.law_trace_truth.proofs.Run.{StandsOn}
use Rattle.law_trace_truth.proofs.Sending.{IsMade}
use Rattle.law_trace_truth.proofs.Taking.{queues_of}
use Rattle.law_trace_reading.proofs.Sayable.{payload_fits, end_is, links_sayable, taken_sayable, IsSaidCell, cells_sayable}

none_behind : {X : Type 0} (test : X → Bool) (xs ys : List X) → list_any test (xs ++ ys) ≡ false → list_any test ys ≡ false
none_behind test [] ys h = h
none_behind test (x ∷ xs) ys h = none_behind test xs ys (by (test x) h)
  where
    by : (b : Bool) → (b || list_any test (xs ++ ys)) ≡ false → list_any test (xs ++ ys) ≡ false
    by true e = absurd (cc e)
    by false e = e

module _ (on : StandsOn) (room : RunsHaveRoom) (policy : Policy) (topology : Topology) (is : IsTopology topology) (addresses : HasAddresses topology) (names : HasNames topology) where
  abbrev past : List Event → Past
  past events = past_of policy topology events

  net : (events : List Event) → IsRun policy topology events → IsNet topology (past events).now
  net events run = world_net policy topology events (on.nodes policy topology events addresses run) (on.there policy topology events run)

  -- *An event of a run*
  module _ (before : List Event) (event : Event) (comes : Comes policy topology before event) (w : IsWhole (past before)) (v : IsWhole (behind policy topology before event)) (run : IsRun policy topology before) where
    abbrev later : Past
    later = behind policy topology before event

    records_are : later.records ≡ (past before).records ++ (next topology (past before).now event).notes.records
    records_are = (on.steps policy topology before event).records ∙ ap (λ (u : World). (past before).records ++ u.notes.records) (on.steps policy topology before event).now

    calm : IsTame (next topology (past before).now event).notes.records
    calm = none_behind is_wild (past before).records (next topology (past before).now event).notes.records (subst IsTame records_are comes.tame)

    step : IsStepOf policy topology (past before) later event
    step =
        let meant = (comes.run.each before [] event refl).meant in
        record {
          same_topology = refl;
          of_topology = refl;
          now = (on.steps policy topology before event).now;
          records = records_are;
          net = net before run;
          nodes = on.nodes policy topology before addresses run;
          meant = meant;
          on = puts_on topology is on.actors (past before).now (net before run) event meant calm;
          frames = on.frames policy topology before event comes w.world;
          meanings = v.world.meanings;
          unused = on.unused policy topology before event comes w;
          wired = on.wired policy topology before event comes w.world;
        }

    growing : Grows topology (past before).now event
    growing = grows topology is on.actors (past before) refl (net before run) w.world.numbers w.world.meanings w.world.packets event step.meant calm

    firsts_now : (marks : List Mark) (trace : Trace) → HasFirsts topology (past before).now trace
        → HasFirsts topology later.now (after_told topology trace (event_told marks topology (past before).now event).passages)
    firsts_now marks trace h = subst (λ (u : World). HasFirsts topology u (after_told topology trace (event_told marks topology (past before).now event).passages)) (sym (on.steps policy topology before event).now)
        (firsts_kept topology is names on.change policy (past before) later event step growing w.world.shapes w.world.meanings v.channels trace h marks)

    -- *A cell on a link* then
    few_events : later.now.events ≤ 100000000
    few_events = subst (λ (u : World). u.events ≤ 100000000) (sym (on.steps policy topology before event).now) (one_more (past before).now.events (comes.run.each before [] event refl).few)
      where
        one_more : (n : ℕ) → n < 100000000 → n + 1 ≤ 100000000
        one_more n less = omega (arith, less)

    module _ (trace : Trace) (firsts : HasFirsts topology later.now trace) where
      mark_fits : (node : NodeId) (port : PortNo) → IsPortEnd topology (port_end node port) → (c : Cell) → Contains (queue_at later.now (Out node port)) c → FitsMark c.mark
      mark_fits node port there c has =
          let r = room policy topology (before ++ event ∷ []) comes.run in
          let made : IsMade later.now.notes.frames c.mark =
          (contained (λ (x : Cell). (first_put trace x.mark ≢ None) × IsMade later.now.notes.frames x.mark) (queues_of later.now (port_end node port)) c (firsts.links (port_end node port) there) has).1 in (
            small c.mark.packet later.now.sent later.now.events (not_later (nat_lt later.now.sent c.mark.packet) refl made) r.sent few_events,
            short c.mark.frame later.now.events (r.frames (Out node port) c has) few_events,
          )
        where
          small : (p s e : ℕ) → p ≤ s → s ≤ e → e ≤ 100000000 → p < 2 ^ 32
          small p s e a b c = omega (arith, a, b, c)

          short : (f e : ℕ) → f ≤ 1000000 * e → e ≤ 100000000 → f < 2 ^ 64
          short f e a b = omega (arith, a, b)

          at_most : (s p : ℕ) → nat_lt s p ≡ false → p ≤ s
          at_most s p e = grind (arith, nat_tests, e)

          above : (s p : ℕ) → nat_lt s p ≡ true → s < p
          above s p e = grind (arith, nat_tests, e)

          not_later : (b : Bool) → nat_lt later.now.sent c.mark.packet ≡ b → IsMade later.now.notes.frames c.mark → c.mark.packet ≤ later.now.sent
          not_later false e made = at_most later.now.sent c.mark.packet e
          not_later true e made = absurd (cc (sym made ∙ ap is_some (v.world.packets.unsent c.mark.packet c.mark.frame (above later.now.sent c.mark.packet e))))

      channel_fits : (node : NodeId) (port : PortNo) → IsPortEnd topology (port_end node port) → (c : Cell) → Contains (queue_at later.now (Out node port)) c → is_cell_channel c.header.channel ≡ true
      channel_fits node port there c has = by (same_channel c.header.channel default_channel) refl
        where
          either : (a b : Bool) → a ≡ true → a || b ≡ true
          either true b e = refl
          either false b e = absurd (cc e)

          other : (a b : Bool) → b ≡ true → a || b ≡ true
          other true b e = refl
          other false b e = e

          by : (b : Bool) → same_channel c.header.channel default_channel ≡ b → is_cell_channel c.header.channel ≡ true
          by true e = either _ (is_label_channel c.header.channel) e
          by false e = other _ (is_label_channel c.header.channel) (v.channels (Out node port) c there has e).0

      frame_fits : (node : NodeId) (port : PortNo) → IsPortEnd topology (port_end node port) → (c : Cell) → Contains (queue_at later.now (Out node port)) c
          → (payload : List ℕ) → is_label_channel c.header.channel ≡ true → payload_of later.now.notes.frames c.mark ≡ Some payload → IsWithin 1 greatest_payload (length payload) × AreOctets payload
      frame_fits node port there c has payload label made = by c.header.last (v.world.meanings (Out node port) c there has)
        where
          by : (last : Bool) → Means later (heading_at topology (Out node port) c.header.channel) last c.mark → IsWithin 1 greatest_payload (length payload) × AreOctets payload
          by last (early default no_last some) = absurd (not_default c.header.channel label default)
          by last (control default none source message is_made) = absurd (not_default c.header.channel label default)
          by last (local default nowhere none) = absurd (not_default c.header.channel label default)
          by last (plain default is_last far to packet is_made come newest) = absurd (not_default c.header.channel label default)
          by last (labelled other far to flow bound own packet is_made carries come newest) =
              let same : own ≡ payload = payload_is (sym is_made ∙ made) in
              subst (λ (p : List ℕ). IsWithin 1 greatest_payload (length p) × AreOctets p) same (payload_fits flow packet own carries)
            where
              payload_is : {a b : List ℕ} → Some a ≡ Some b → a ≡ b
              payload_is e = cc e

      cells_said : (place : Place) → IsOutPlace topology place → Every (IsSaidCell topology is names (next topology (past before).now event).notes.frames place) (cells_put_at topology (past before).now event place)
      cells_said (Down node) there = all_fine (cells_put_at topology (past before).now event (Down node))
        where
          all_fine : (cells : List Cell) → Every (IsSaidCell topology is names (next topology (past before).now event).notes.frames (Down node)) cells
          all_fine [] = tt
          all_fine (cell ∷ cells) = (tt, all_fine cells)
      cells_said (Up node) there = all_fine (cells_put_at topology (past before).now event (Up node))
        where
          all_fine : (cells : List Cell) → Every (IsSaidCell topology is names (next topology (past before).now event).notes.frames (Up node)) cells
          all_fine [] = tt
          all_fine (cell ∷ cells) = (tt, all_fine cells)
      cells_said (Out node port) there =
          every_right (IsSaidCell topology is names (next topology (past before).now event).notes.frames (Out node port)) (left (past before).now event (Out node port)) (cells_put_at topology (past before).now event (Out node port))
          (subst (Every (IsSaidCell topology is names (next topology (past before).now event).notes.frames (Out node port))) (on.change topology (past before).now event (Out node port))
          (subst (λ (u : World). Every (IsSaidCell topology is names u.notes.frames (Out node port)) (queue_at u (Out node port))) (on.steps policy topology before event).now
          (every_contained (IsSaidCell topology is names later.now.notes.frames (Out node port)) (queue_at later.now (Out node port))
          (λ c has. (end_is topology is names (port_end node port) there, channel_fits node port there c has, mark_fits node port there c has, frame_fits node port there c has)))))

      all_said : Every (λ (s : Standing). IsSaidCell topology is names (next topology (past before).now event).notes.frames s.place s.cell) (cells_put topology (past before).now event)
      all_said = every_flat (λ (s : Standing). IsSaidCell topology is names (next topology (past before).now event).notes.frames s.place s.cell) (λ place. map (standing place) (cells_put_at topology (past before).now event place)) (places (past before).now)
          (each (places (past before).now) (all_places policy topology is (past before) refl step.net step.nodes))
        where
          each : (ps : List Place) → Every (IsOutPlace topology) ps
              → Every (λ (place : Place). Every (λ (s : Standing). IsSaidCell topology is names (next topology (past before).now event).notes.frames s.place s.cell) (map (standing place) (cells_put_at topology (past before).now event place))) ps
          each [] all = tt
          each (place ∷ ps) all = (
            every_to (IsSaidCell topology is names (next topology (past before).now event).notes.frames place) (λ (s : Standing). IsSaidCell topology is names (next topology (past before).now event).notes.frames s.place s.cell) (standing place)
                (cells_put_at topology (past before).now event place) (λ cell h. h) (cells_said place all.0),
            each ps all.1,
          )

    -- *A binding*
    G : Record → Type 0
    G = IsGoodBind topology is names (queues_of (next topology (past before).now event)) (next topology (past before).now event).notes.frames []

    one_bind : (item : Record) → Contains (next topology (past before).now event).notes.records item → G item → Every (IsSayable topology) (bind_told item)
    unfolding G
    one_bind (kinds.Bind node port label flow) has g =
        let wiring = step.wired node port label flow (subst (λ (u : World). Contains u.notes.records (kinds.Bind node port label flow)) (sym (on.steps policy topology before event).now) has) in
        ((end_is topology is names (port_end node port) g.0, wiring.bindable.number_is, wiring.bindable.fits, wiring.bindable.is_flow), tt)
    one_bind (kinds.Delivered node packet octets) has g = tt
    one_bind (kinds.Dropped node packet cause) has g = tt
    one_bind (kinds.Refused node packet name) has g = tt
    one_bind (kinds.Loss mark cause) has g = tt
    one_bind (kinds.Chance mark) has g = tt
    one_bind (kinds.Bad node layer name) has g = tt
    one_bind (kinds.Opened node port) has g = tt
    one_bind (kinds.Closed node port) has g = tt
    one_bind (kinds.Free node port vci) has g = tt
    one_bind (kinds.Join node port vci to_port to_vci) has g = tt
    one_bind (kinds.Part node port vci) has g = tt
    one_bind (kinds.Routes node changes) has g = tt
    one_bind (kinds.Forged place) has g = tt

    binds_said : Every (IsSayable topology) (flat_map bind_told (next topology (past before).now event).notes.records)
    unfolding G
    binds_said = every_flat (IsSayable topology) bind_told (next topology (past before).now event).notes.records
        (every_contained (λ (item : Record). Every (IsSayable topology) (bind_told item)) (next topology (past before).now event).notes.records
        (λ item has. one_bind item has (contained G (next topology (past before).now event).notes.records item
        (good_binds topology is names on.change (past before) later event refl step.now step.records step.on policy step.nodes refl step.unused step.wired (next topology (past before).now event).notes.frames []) has)))

    event_said : (marks : List Mark) (trace : Trace) → HasFirsts topology (past before).now trace → Every (IsSayable topology) (event_told marks topology (past before).now event).passages
    event_said marks trace h =
        every_join (IsSayable topology) (taken_told event (cell_taken (past before).now event)) _ (taken_sayable topology is names (past before).now event step.meant (cell_taken (past before).now event))
        (every_join (IsSayable topology) (cells_told (next topology (past before).now event).notes.frames marks (cells_put topology (past before).now event)).passages (flat_map bind_told (next topology (past before).now event).notes.records)
        (cells_sayable topology is names (next topology (past before).now event).notes.frames marks (cells_put topology (past before).now event)
        (all_said (after_told topology trace (event_told marks topology (past before).now event).passages) (firsts_now marks trace h)))
        binds_said)

  -- *All events*
  walk : (before after : List Event) → IsRun policy topology (before ++ after) → IsTame (past (before ++ after)).records → (marks : List Mark) (trace : Trace) → HasFirsts topology (past before).now trace
      → Every (IsSayable topology) (events_told topology marks (past before).now after)
  walk before [] run tame marks trace h = tt
  walk before (event ∷ after) run tame marks trace h =
      let comes : Comes policy topology before event = comes_at policy topology addresses (before ++ event ∷ after) before after event run tame refl in
      let w : IsWhole (past before) = holds_at policy topology addresses IsWhole on.whole (before ++ event ∷ after) before (event ∷ after) run tame refl in
      let v : IsWhole (behind policy topology before event) = on.whole policy topology (before ++ event ∷ []) comes.run addresses comes.tame in
      let joined : (before ++ event ∷ []) ++ after ≡ before ++ event ∷ after = append_assoc before (event ∷ []) after in
      let front : IsRun policy topology before = front_run policy topology before (event ∷ after) run in
      let told : Told = event_told marks topology (past before).now event in
      every_join (IsSayable topology) told.passages (events_told topology told.marks (next topology (past before).now event) after)
      (event_said before event comes w v front marks trace h)
      (subst (λ (u : World). Every (IsSayable topology) (events_told topology told.marks u after)) (on.steps policy topology before event).now
      (walk (before ++ event ∷ []) after (subst (IsRun policy topology) (sym joined) run) (subst (λ (es : List Event). IsTame (past es).records) (sym joined) tame) told.marks
      (after_told topology trace told.passages) (firsts_now before event comes w v front marks trace h)))

  begins : HasFirsts topology (opened policy topology) []
  begins = record {
    made = λ mark. inl refl;
    links = λ end there. subst (Every (λ (c : Cell). (first_put [] c.mark ≢ None) × IsMade (opened policy topology).notes.frames c.mark)) (sym (no_cells policy topology (Out end.node end.port))) tt;
    homes = λ node there. subst (Every (λ (c : Cell). IsMade (opened policy topology).notes.frames c.mark)) (sym (no_cells policy topology (Down node))) tt;
    from = λ node there c has home. absurd (nothing node c has);
    alike = λ one other here there c d has_c has_d home marks. absurd (nothing one c has_c);
  }
    where
      nothing : (node : NodeId) (c : Cell) → Contains (queue_at (opened policy topology) (Down node)) c → ⊥
      nothing node c has = none c (subst (λ (q : List Cell). Contains q c) (no_cells policy topology (Down node)) has)
        where
          none : (c : Cell) → Contains [] c → ⊥
          none c has = absurd (omega (arith, has.1))

  pub run_sayable : (events : List Event) → IsRun policy topology events → IsTame (past events).records → Every (IsSayable topology) (run_told policy topology events)
  run_sayable events run tame = every_join (IsSayable topology) (links_told topology) (events_told topology [] (opened policy topology) events) (links_sayable topology is names) (walk [] events run tame [] [] begins)
