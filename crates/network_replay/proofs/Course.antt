-- what the network of a replay has come to, line by line

use Rattle.std.proofs.Common.{◌≡◌, ℕ, ◌+◌, ◌-◌, ◌*◌, ◌≤◌, true, false, List, [], ◌∷◌, ◌++◌, append-nil, length, slice_set, Option, None, Some, Result, Ok, Err, IfOk, OnOk, refl, sym, ◌∙◌, ap, subst, arith}
use Rattle.std.specs.List.{repeat}
use Rattle.std.specs.Prelude.{IsSomeAnd, is_some}
use Rattle.net_types.specs.declared.node.NodeId.{NodeId}
use Rattle.ipv4_forward.specs.Change.{changed}
use Rattle.ipv4_forward.specs.declared.change.RouteChange.{RouteChange}
use Rattle.link_model.specs.Notes.{Journal}
use Rattle.port_model.specs.Setup.{Policy}
use Rattle.script_model.specs.world_model.Controller.{Controller}
use Rattle.script_model.specs.world_model.network_model.declared.event.Event.{Event}
use Rattle.script_model.specs.world_model.network_model.declared.event.Event.TheVariants.{Inject, Carry, Lose, Tick, TickSwitch, Restart, RestartSwitch, Forge, Route as RouteComes}
use Rattle.script_model.specs.world_model.Conditions.{IsNode, IsTopology}
use Rattle.script_model.specs.world_model.Run.{put_away, round, tick_of_all, world_after}
use Rattle.script_model.specs.world_model.Topology.{Topology, policy_of}
use Rattle.script_model.specs.world_model.World.{World, opened}
use Rattle.script_model.specs.declared.line.Line.{Line}
use Rattle.script_model.specs.declared.line.Line.TheVariants.{Blank, Topology as TopologyIs, Event as EventComes, TickAll, Run}
use Rattle.script_model.specs.declared.refusal.LineRefusal.{LineRefusal}
use Rattle.script_model.specs.Reading.{state_after}
use Rattle.script_model.specs.Sayable.{IsSayable}
use Rattle.script_model.specs.Script.{events_of, opened_of}
use Rattle.script_model.specs.State.{ScriptState, opening_tables, table_among, tables_after, ticks_of_event}
use Rattle.world.specs.declared.world.World.{World as Network}
use Rattle.world.specs.law_world_pace.Running.{AreNumbered}
use Rattle.world.specs.Network.{no_notes, sites_of, world_of}
use Rattle.world.specs.Running.{Runs}
use Rattle.world.proofs.law_world_pace.Running.{are_numbered}
use Rattle.lab_io.specs.declared.stop.Stop.{Stop}
use Rattle.lab_io.specs.Puts.{is_failed}
use Rattle.network_run.proofs.Repeated.{events_after, world_then}
use Rattle.network_replay.specs.declared.replay.Replay.{Replay}
use Rattle.script_text.specs.Counts.{counted_up_to}
use Rattle.script_text.specs.Taking.{IsAfter, Takes}
use Rattle.network_run.proofs.telling_model.Told.{opened_notes}
use Rattle.network_replay.specs.Along.{CanTake, HasBegun, HasNetwork, IsGoing, IsOpen, IsReady, IsUnopened}
use Rattle.script_text.specs.declared.fault.ReadFault.{ReadFault}
use Rattle.script_text.specs.declared.fault.ReadFault.TheVariants as read
use Rattle.network_replay.specs.Lines.{has_events, unsaid}
use Rattle.network_replay.proofs.Events.{node_at, table_is}
use Rattle.network_replay.proofs.Opening.{all_ticks, few_carries, few_repeated, opened_events, opened_runs, opened_size}
use Rattle.network_replay.proofs.Tables.{AreNoChanges, after_stays, next_changes, next_stays, opened_tables, rounds_change_nothing, site_table, tables_of, ticks_change_nothing}
use Rattle.network_replay.proofs.Taking.{begins, begun_stays, never_late}

-- *What is there* is so
pub found : {A : Type 0} (P : A → Type 0) (o : Option A) (x : A) → IsSomeAnd o P → o ≡ Some x → P x
found P o x h is = subst (λ o. IsSomeAnd o P) is h

pub missed : {A : Type 0} (P : A → Type 0) (o : Option A) → IsSomeAnd o P → o ≡ None → ⊥
missed P o h is = subst (λ o. IsSomeAnd o P) is h

-- *How many events* a line stands for
pub few_next : (state : ScriptState) (line : List ℕ) (said : Line) (n : ℕ) → length state.topology.nodes ≤ 64 → has_events said ≡ true → n ≤ state.event_lines + (640 * state.rounds + state.ticks)
    → n + length (events_of state.topology said) ≤ (state_after state line (Ok said)).event_lines + (640 * (state_after state line (Ok said)).rounds + (state_after state line (Ok said)).ticks)
few_next state line Blank n nodes is few = absurd (cc is)
few_next state line (TopologyIs topology) n nodes is few = absurd (cc is)
few_next state line (EventComes event) n nodes is few = (let some : 0 ≤ ticks_of_event event = omega arith in omega (arith, few, some))
few_next state line TickAll n nodes is few =
    let t : Topology = state.topology in
    let all : length (tick_of_all (opened_of t)) ≡ 2 * length (opened_of t).sites = all_ticks (opened_of t) in
    let size : length (opened_of t).sites ≡ length t.nodes = opened_size (policy_of t) t in
    omega (arith, few, all, size)
few_next state line (Run rounds) n nodes is few =
    let t : Topology = state.topology in
    let size : length (opened_of t).sites ≡ length t.nodes = opened_size (policy_of t) t in
    let one : length (round (opened_of t)) ≤ 640 = few_carries t (opened_of t) 0 (opened_runs (policy_of t) t) (omega (arith, size, nodes)) in
    let all : length (repeat rounds (round (opened_of t))) ≤ 640 * rounds = few_repeated rounds (round (opened_of t)) one in
    omega (arith, few, all)

-- *The tables* behind the events of a line are the script's
module _ (state : ScriptState) (w : World) (numbered : AreNumbered 1 w.sites) (same : tables_of w ≡ state.tables) (size : length w.sites ≡ length state.topology.nodes) where
  route_next : (node : NodeId) (change : RouteChange) → IsNode state.topology node
      → tables_of (world_after state.topology w (RouteComes node change ∷ [])) ≡ tables_after state.tables (RouteComes node change)
  route_next node change is =
      let found = node_at state w numbered same size node is in
      (next_changes state.topology w node change numbered).tables found.site found.found
      ∙ (let table : site_table found.site ≡ table_among state.tables node = sym (table_is state w numbered same size node is) in
      λ i. slice_set (same i) (node.0 - 1) (changed (table i) change))

  one_stays : (event : Event) → Rattle.network_replay.proofs.Tables.IsNoChange event → tables_of (world_after state.topology w (event ∷ [])) ≡ state.tables
  one_stays event is = (next_stays state.topology w event numbered is).tables ∙ same

  event_next : (event : Event) → Rattle.script_model.specs.world_model.Conditions.IsEvent state.topology w event → tables_of (world_after state.topology w (event ∷ [])) ≡ tables_after state.tables event
  event_next (Inject node packet) is = one_stays (Inject node packet) tt
  event_next (Carry place) is = one_stays (Carry place) tt
  event_next (Lose place) is = one_stays (Lose place) tt
  event_next (Tick node) is = one_stays (Tick node) tt
  event_next (TickSwitch node) is = one_stays (TickSwitch node) tt
  event_next (Restart node) is = one_stays (Restart node) tt
  event_next (RestartSwitch node) is = one_stays (RestartSwitch node) tt
  event_next (Forge place channel payload) is = one_stays (Forge place channel payload) tt
  event_next (RouteComes node change) is = route_next node change is.there

  pub tables_next : (line : List ℕ) (said : Line) → has_events said ≡ true → Rattle.network_replay.specs.Lines.IsMeant state.topology w said
      → tables_of (world_after state.topology w (events_of state.topology said)) ≡ (state_after state line (Ok said)).tables
  tables_next line Blank is meant = absurd (cc is)
  tables_next line (TopologyIs topology) is meant = absurd (cc is)
  tables_next line (EventComes event) is meant = event_next event meant
  tables_next line TickAll is meant = (after_stays state.topology w (tick_of_all (opened_of state.topology)) numbered (ticks_change_nothing (opened_of state.topology))).tables ∙ same
  tables_next line (Run rounds) is meant = (after_stays state.topology w (repeat rounds (round (opened_of state.topology))) numbered (rounds_change_nothing rounds (opened_of state.topology))).tables ∙ same

module _ {C : Type 0} (seen : C → Controller) (choice : Topology → Policy) where
  abbrev opening : Topology → World
  opening topology = opened (choice topology) topology

  -- *The network is opened*
  notes_away : (t : Topology) → put_away (opening t) ≡ opening t
  notes_away t =
      let bare : opening t ≡ record (opening t) { notes = no_notes } = λ i. record (opening t) { notes = opened_notes (choice t) t i } in
      ap put_away bare ∙ sym bare

  pub opens : (state : ScriptState) (notes : Journal) (events : List Event) (n : Network C) → IsUnopened state notes events → world_of seen n no_notes ≡ opening state.topology → Runs seen state.topology n
      → IsOpen seen (choice state.topology) state notes n events
  opens state notes events n h is runs =
      let t : Topology = state.topology in
      let none : n.events ≡ 0 = ap (λ (w : World). w.events) is ∙ opened_events (choice t) t in
      record {
        runs = runs;
        world = ap (world_of seen n) h.notes_are ∙ is ∙ sym (notes_away t) ∙ sym (ap (λ (es : List Event). put_away (world_after t (opening t) es)) h.events_are);
        tables = ap tables_of is ∙ opened_tables (choice t) t ∙ sym h.tables;
        few = omega (arith, none);
      }

  pub opens_first : (n : Network C) (state : ScriptState) (notes : Journal) (world : Option (Network C)) (events : List Event) (t : Topology) → is_some world ≡ false → HasNetwork seen choice state notes world events → t ≡ state.topology
      → world_of seen n no_notes ≡ opening t → Runs seen t n → IsOpen seen (choice state.topology) state notes n events
  opens_first n state notes (Some other) events t none h same is runs = absurd (cc none)
  opens_first n state notes None events t none h same is runs = opens state notes events n h (is ∙ ap opening same) (subst (λ (u : Topology). Runs seen u n) same runs)

  -- *It was open*
  pub is_open : (state : ScriptState) (notes : Journal) (world : Option (Network C)) (events : List Event) → is_some world ≡ true → HasNetwork seen choice state notes world events
      → IsSomeAnd world (λ n. IsOpen seen (choice state.topology) state notes n events)
  is_open state notes None events is h = absurd (cc is)
  is_open state notes (Some n) events is h = h.1

  -- *A line without events*
  quiet : (state now : ScriptState) (notes : Journal) (n : Network C) (events : List Event) → IsOpen seen (choice state.topology) state notes n events → now.topology ≡ state.topology → now.tables ≡ state.tables
      → now.event_lines ≡ state.event_lines → now.rounds ≡ state.rounds → now.ticks ≡ state.ticks → IsOpen seen (choice now.topology) now notes n (events ++ [])
  quiet state now notes n events h topology tables lines rounds ticks = record {
    runs = subst (λ (t : Topology). Runs seen t n) (sym topology) h.runs;
    world = h.world ∙ (let back : state.topology ≡ now.topology = sym topology in
        let all : events ≡ events ++ [] = sym (append-nil events) in
        λ i. put_away (world_after (back i) (opening (back i)) (all i)));
    tables = h.tables ∙ sym tables;
    few = omega (arith, h.few, lines, rounds, ticks);
  }

  pub quiet_network : (state : ScriptState) (line : List ℕ) (said : Line) (notes : Journal) (world : Option (Network C)) (events : List Event) → has_events said ≡ false → IsSayable state said
      → HasNetwork seen choice state notes world events → HasNetwork seen choice (state_after state line (Ok said)) notes world (events ++ events_of state.topology said)
  quiet_network state line Blank notes None events is can h = record { events_are = append-nil events ∙ h.events_are; event_lines = h.event_lines; tables = h.tables; notes_are = h.notes_are }
  quiet_network state line Blank notes (Some n) events is can h =
      ((begun_stays state line Blank h.0 can).0, quiet state (state_after state line (Ok Blank)) notes n events h.1 refl refl refl refl refl)
  quiet_network state line (TopologyIs topology) notes None events is can h = record { events_are = append-nil events ∙ h.events_are; event_lines = h.event_lines; tables = refl; notes_are = h.notes_are }
  quiet_network state line (TopologyIs topology) notes (Some n) events is can h =
      absurd (never_late state topology h.0 can)
  quiet_network state line (EventComes event) notes world events is can h = absurd (cc is)
  quiet_network state line TickAll notes world events is can h = absurd (cc is)
  quiet_network state line (Run rounds) notes world events is can h = absurd (cc is)

  -- *A line of events*
  module _ (state : ScriptState) (line : List ℕ) (said : Line) (n : Network C) (notes : Journal) (events : List Event) (h : IsOpen seen (choice state.topology) state notes n events) (is : has_events said ≡ true) where
    pub numbered : AreNumbered 1 (sites_of seen n.sites.items)
    numbered = are_numbered state.topology n.events 1 (sites_of seen n.sites.items) h.runs.world.sites

    pub run_few : n.events + length (events_of state.topology said)
        ≤ (state_after state line (Ok said)).event_lines + (640 * (state_after state line (Ok said)).rounds + (state_after state line (Ok said)).ticks)
    run_few = few_next state line said n.events h.runs.world.topology_is.few_nodes is h.few

    pub run_meant : IsSayable state said → Rattle.network_replay.specs.Lines.IsMeant state.topology (world_of seen n notes) said
    run_meant = by said
      where
        by : (said : Line) → IsSayable state said → Rattle.network_replay.specs.Lines.IsMeant state.topology (world_of seen n notes) said
        by Blank can = tt
        by (TopologyIs topology) can = tt
        by (EventComes event) can = Rattle.network_replay.proofs.Events.event_meant state (world_of seen n notes) numbered h.tables h.runs.world.nodes event can
        by TickAll can = tt
        by (Run rounds) can = tt

    pub run_empty : notes.records ≡ []
    run_empty = ap (λ (w : World). w.notes.records) h.world

    pub run_open : (now : Network C) (later : Journal) → IsSayable state said → world_of seen now later ≡ put_away (world_after state.topology (world_of seen n notes) (events_of state.topology said)) → Runs seen state.topology now
        → HasBegun (state_after state line (Ok said)) × IsOpen seen (choice (state_after state line (Ok said)).topology) (state_after state line (Ok said)) later now (events ++ events_of state.topology said)
    run_open now later can made runs =
        let t : Topology = state.topology in
        let evs : List Event = events_of t said in
        let begun = begins state line said is in
        let counted : now.events ≡ n.events + length evs = ap (λ (w : World). w.events) made ∙ events_after t (world_of seen n notes) evs in (
          begun.0,
          record {
            runs = subst (λ (u : Topology). Runs seen u now) (sym begun.1) runs;
            world = world_then t (opening t) (world_of seen n notes) (world_of seen now later) events evs h.world made
                ∙ ap (λ (u : Topology). put_away (world_after u (opening u) (events ++ evs))) (sym begun.1);
            tables = ap tables_of made ∙ tables_next state (world_of seen n notes) numbered h.tables h.runs.world.nodes line said is (run_meant can);
            few = omega (arith, counted, run_few);
          },
        )

  -- *What a line without events makes*
  pub quiet_events : (t : Topology) (said : Line) → has_events said ≡ false → events_of t said ≡ []
  quiet_events t Blank is = refl
  quiet_events t (TopologyIs topology) is = refl
  quiet_events t (EventComes event) is = absurd (cc is)
  quiet_events t TickAll is = absurd (cc is)
  quiet_events t (Run rounds) is = absurd (cc is)

  -- what the events need
  pub record CanRun (r : Replay C) (said : Line) (n : Network C) : Type 0 where
    pub runs : Runs seen r.state.topology n
    pub empty : r.notes.records ≡ []
    pub few : n.events + length (events_of r.state.topology said) ≤ 100000000
    pub meant : Rattle.network_replay.specs.Lines.IsMeant r.state.topology (world_of seen n r.notes) said

  pub can_run : (r x : Replay C) (o : Option (Network C)) (said : Line) (n : Network C) (ready : IsReady seen choice r said) → x ≡ record r { world = o } → has_events said ≡ true
      → IsOpen seen (choice ready.state.topology) ready.state r.notes n ready.events → r.state.event_lines ≤ 200000 → r.state.rounds ≤ 100000 → r.state.ticks ≤ 2000000 → CanRun x said n
  can_run r x o said n ready rest is h lines rounds ticks =
      let state : ScriptState = ready.state in
      let same : r.state.topology ≡ state.topology = ap (λ (s : ScriptState). s.topology) ready.after ∙ (begins state ready.line said is).1 in
      let few = run_few state ready.line said n r.notes ready.events h is in
      let a = ap (λ (s : ScriptState). s.event_lines) ready.after in
      let b = ap (λ (s : ScriptState). s.rounds) ready.after in
      let c = ap (λ (s : ScriptState). s.ticks) ready.after in
      let size : length (events_of r.state.topology said) ≡ length (events_of state.topology said) = ap (λ (t : Topology). length (events_of t said)) same in
      subst (λ (y : Replay C). CanRun y said n) (sym rest) (record {
        runs = subst (λ (t : Topology). Runs seen t n) (sym same) h.runs;
        empty = run_empty state ready.line said n r.notes ready.events h is;
        few = omega (arith, few, a, b, c, size, lines, rounds, ticks);
        meant = subst (λ (t : Topology). Rattle.network_replay.specs.Lines.IsMeant t (world_of seen n r.notes) said) (sym same) (run_meant state ready.line said n r.notes ready.events h is ready.sayable);
      })

  -- *The events of a line were stepped* in the network
  pub network_of : (state : ScriptState) (line : List ℕ) (said : Line) (events : List Event) (q : Result (Unit {0}) Stop) (r x new : Replay C) (o : Option (Network C)) (n now : Network C) (t : Topology) (notes : Journal)
      → has_events said ≡ true → r.state ≡ state_after state line (Ok said) → IsSayable state said → IsOpen seen (choice state.topology) state r.notes n events
      → x ≡ record r { world = o } → t ≡ x.state.topology → new ≡ record x { notes = notes; world = Some now }
      → OnOk q (world_of seen now notes ≡ put_away (world_after t (world_of seen n x.notes) (events_of t said))) → OnOk q (Runs seen t now)
      → OnOk q (HasNetwork seen choice r.state new.notes new.world (events ++ events_of state.topology said))
  network_of state line said events (Err stop) r x new o n now t notes is was can h rest named kept made runs = tt
  network_of state line said events (Ok v) r x new o n now t notes is was can h rest named kept made runs =
      let a : notes ≡ new.notes = sym (ap (λ (q : Replay C). q.notes) kept) in
      let b : x.notes ≡ r.notes = ap (λ (q : Replay C). q.notes) rest in
      let same : t ≡ state.topology = named ∙ ap (λ (q : Replay C). q.state.topology) rest ∙ ap (λ (s : ScriptState). s.topology) was ∙ (begins state line said is).1 in
      subst (λ (w : Option (Network C)). HasNetwork seen choice r.state new.notes w (events ++ events_of state.topology said)) (sym (ap (λ (q : Replay C). q.world) kept))
      (subst (λ (s : ScriptState). HasNetwork seen choice s new.notes (Some now) (events ++ events_of state.topology said)) (sym was)
      (subst (λ (z : Journal). HasNetwork seen choice (state_after state line (Ok said)) z (Some now) (events ++ events_of state.topology said)) a
      (run_open state line said n r.notes events h is now notes can
      (made ∙ (λ i. put_away (world_after (same i) (world_of seen n (b i)) (events_of (same i) said)))) (subst (λ (u : Topology). Runs seen u now) same runs))))

  pub counted_network : (state now : ScriptState) (notes : Journal) (world : Option (Network C)) (events : List Event) → now.topology ≡ state.topology → now.tables ≡ state.tables → now.event_lines ≡ state.event_lines → now.rounds ≡ state.rounds → now.ticks ≡ state.ticks
      → now.has_line ≡ state.has_line → HasNetwork seen choice state notes world events → HasNetwork seen choice now notes world (events ++ [])
  counted_network state now notes None events topology tables lines rounds ticks some h = record {
    events_are = append-nil events ∙ h.events_are;
    event_lines = lines ∙ h.event_lines;
    tables = tables ∙ h.tables ∙ ap opening_tables (sym topology);
    notes_are = h.notes_are;
  }
  counted_network state now notes (Some n) events topology tables lines rounds ticks some h =
      (record { event_lines = omega (arith, lines, h.0.event_lines); has_line = some ∙ h.0.has_line }, quiet state now notes n events h.1 topology tables lines rounds ticks)

  -- *A line that is refused* changes nothing
  pub refused_network : (state : ScriptState) (line : List ℕ) (name : LineRefusal) (notes : Journal) (world : Option (Network C)) (events : List Event) → HasNetwork seen choice state notes world events
      → HasNetwork seen choice (state_after state line (Err name)) notes world (events ++ [])
  refused_network state line name notes world events h = counted_network state (state_after state line (Err name)) notes world events refl refl refl refl refl refl h

  -- *What can be taken*
  pub can_take : (old : Replay C) (now : ScriptState) (line : List ℕ) (said : Result Line LineRefusal) (result : Result Line ReadFault) → IsGoing seen choice old → Takes (counted_up_to old.state line) said now result
      → IsAfter old.state line now result → IfOk result (IsSayable old.state) → CanTake seen choice (record old { state = now }) result
  can_take old now line said (Ok says) going taken after can =
      record { state = old.state; line = line; events = going.events; network = going.network; after = after; sayable = can }
  can_take old now line said (Err (read.Refused name)) going taken after can =
      record {
        events = going.events ++ [];
        network = subst (λ (s : ScriptState). HasNetwork seen choice s old.notes old.world (going.events ++ [])) (sym after) (refused_network old.state line name old.notes old.world going.events going.network);
      }
  can_take old now line said (Err (read.OutOfMemory error)) going taken after can = tt

  -- there is a network for what follows
  pub going_of : (q : Result (Unit {0}) Stop) (r new : Replay C) (events : List Event) → new.state ≡ r.state → OnOk q (HasNetwork seen choice r.state new.notes new.world events) → OnOk q (IsGoing seen choice new)
  going_of (Err stop) r new events same h = tt
  going_of (Ok v) r new events same h = record { events = events; network = subst (λ (s : ScriptState). HasNetwork seen choice s new.notes new.world events) (sym same) h }

  pub going_unsaid : (lines : ℕ) (fault : ReadFault) (r : Replay C) → CanTake seen choice r (Err fault) → OnOk (unsaid lines fault) (IsGoing seen choice r)
  going_unsaid lines (read.Refused name) r can = can
  going_unsaid lines (read.OutOfMemory error) r can = tt

pub unsaid_ends : (lines : ℕ) (fault : ReadFault) → unsaid lines fault ≡ Ok None → ⊥
unsaid_ends lines (read.Refused name) e = cc e
unsaid_ends lines (read.OutOfMemory error) e = cc e

pub unsaid_writes : (lines : ℕ) (fault : ReadFault) → is_failed (unsaid lines fault) ≡ false
unsaid_writes lines (read.Refused name) = refl
unsaid_writes lines (read.OutOfMemory error) = refl
