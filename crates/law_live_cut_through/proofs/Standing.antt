-- a way that stands in a network at ease does so behind each calm beat, and along what is sent in it

use Rattle.std.proofs.Common.{◌≡◌, ◌∙◌, ℕ, ◌<◌, true, List, [], ◌∷◌, ◌++◌, append-nil, append_assoc, map, Option, None, Some, refl, sym, ap, subst}
use Rattle.std.specs.List.{list_all}
use Rattle.world_model.specs.Words.{NodeId, Policy, Place, End, label_end, ByController, ByInput, FlowId, flow_ttl, flow_destination, table_in, best, is_empty, tick_of, switch_tick_of, tick_of_all, Topology, World, Site, world_after, past_of, IsRun, IsTame}
use Rattle.world_model.specs.World.{opened}
use Rattle.world_model.specs.ipv4_forward.declared.table.Route as routes
use Rattle.world_model.specs.network_model.declared.link.LinkEnd.{LinkEnd}
use Rattle.world_model.specs.network_model.declared.event.Event.{Event}
use Rattle.world_model.specs.network_model.declared.event.Event.TheVariants.{Carry, Route}
use Rattle.live_model.specs.Beats.{Beat, is_sending, settling, settled, events_in, behind}
use Rattle.calm_model.specs.Ways.{one_hop}
use Rattle.calm_model.specs.CutThrough.{BeginsAt}
use Rattle.law_live_ease.proofs.law_true_runs.Fronts.{front_run, front_tame}
use Rattle.law_live_ease.specs.law_told_tables.Tables.{ChangesNoRoute}
use Rattle.law_live_ease.specs.law_live_hearing.Law.{world_at}
use Rattle.law_live_ease.proofs.law_live_hearing.Going.{after_all}
use Rattle.law_live_ease.specs.law_live_journeys.Journeys.{KeepsRoutes}
use Rattle.law_live_ease.proofs.law_live_journeys.Tables.{tables_stay}
use Rattle.law_live_ease.specs.Law.{IsAtEase, Binds, IsCalmEvent}
use Rattle.law_live_ease.specs.Beats.{AreCalmEvents, IsCalmBeat}
use Rattle.law_live_ease.specs.Binding.{IsCalmStretch, BeatsBindOn}
use Rattle.law_live_ease.specs.Ticks.{TicksBind}
use Rattle.law_live_ease.specs.AtEase.{BeatsKeepEase}
use Rattle.law_live_cut_through.specs.Law.{HoldsLabel, IsLast, AreJoinedOn, WayStands}
use Rattle.law_live_cut_through.specs.Stretches.{StretchesKeepLabels, StretchesKeepGrants, StretchesServeAlone}
use Rattle.law_live_cut_through.specs.Ticks.{ticked, TicksKeepJoined, TicksKeepLast, TicksKeepLent, TicksKeepFirst, TicksServeAlone}
use Rattle.law_live_cut_through.specs.First.{SettledAreAtEase}
use Rattle.law_live_cut_through.specs.Later.{WaysStandInStretches, WaysStandInBeats, WaysStandBehindBeats}
use Rattle.law_live_cut_through.proofs.StretchesSent.{sent_none, waits_none}

-- *A calm beat without what is sent in it* is one
module _ (policy : Policy) (topology : Topology) (before : List Event) (beat : Beat) (b : IsCalmBeat policy topology before beat) where
  abbrev w : World
  w = world_at policy topology before

  abbrev pub silent : Beat
  silent = record { carries = beat.carries; sending = [] }

  all_are : before ++ events_in w silent ≡ before ++ settling w beat
  all_are = ap (λ (es : List Event). before ++ es) (append-nil (settling w beat))

  split : before ++ events_in w beat ≡ (before ++ settling w beat) ++ beat.sending
  split = sym (append_assoc before (settling w beat) beat.sending)

  pub silent_is : behind topology w silent ≡ settled topology w beat
  silent_is = ap (world_after topology w) (append-nil (settling w beat))

  each_calm : AreCalmEvents topology w (events_in w silent)
  each_calm front rest event e = b.calm front (rest ++ beat.sending) event
      (ap (λ (es : List Event). es ++ beat.sending) (sym (append-nil (settling w beat)) ∙ e) ∙ append_assoc front (event ∷ rest) beat.sending)

  pub silent_beat : IsCalmBeat policy topology before silent
  silent_beat = record {
    run = subst (IsRun policy topology) (sym all_are) (front_run policy topology (before ++ settling w beat) beat.sending (subst (IsRun policy topology) split b.run));
    addresses = b.addresses;
    tame = subst (λ (es : List Event). IsTame (past_of policy topology es).records) (sym all_are)
        (front_tame policy topology (before ++ settling w beat) beat.sending (subst (λ (es : List Event). IsTame (past_of policy topology es).records) split b.tame));
    is_beat = record { sends = refl; settles = b.is_beat.settles; empties = ap is_empty silent_is ∙ b.is_beat.settles };
    room = b.room;
    calm = each_calm;
  }

pub settled_are_at_ease : BeatsKeepEase → SettledAreAtEase
settled_are_at_ease keep policy topology before beat ease b =
    subst (IsAtEase topology) (after_all topology (opened policy topology) before (events_in (world_at policy topology before) (silent policy topology before beat b)) ∙ silent_is policy topology before beat b)
    (keep policy topology before (silent policy topology before beat b) ease (silent_beat policy topology before beat b))

-- *Routes stay* where none of these events changes one
switches_none : (sites : List Site) → ChangesNoRoute (map switch_tick_of sites)
switches_none [] = refl
switches_none (site ∷ sites) = switches_none sites

ticks_none : (sites others : List Site) → ChangesNoRoute (map tick_of sites ++ map switch_tick_of others)
ticks_none [] others = switches_none others
ticks_none (site ∷ sites) others = ticks_none sites others

-- *Along a calm stretch* of a network that binds
module _ (labels : StretchesKeepLabels) (grants : StretchesKeepGrants) (serve : StretchesServeAlone) (policy : Policy) (topology : Topology) (before events : List Event)
    (stretch : IsCalmStretch policy topology before events) (binds : Binds topology (world_at policy topology before)) (front rest : List Event) (split_so : events ≡ front ++ rest) where
  abbrev now : World
  now = world_at policy topology before

  abbrev then : World
  then = world_after topology now front

  keeps_routes : KeepsRoutes policy topology before events
  keeps_routes = record { none_comes = sent_none events stretch.sends; none_waits = waits_none now (λ node site found. (binds.steady node site found).none_waits) }

  table_stays : (node : NodeId) → table_in node then ≡ table_in node now
  table_stays node = ap (table_in node) (sym (after_all topology (opened policy topology) before front)) ∙ tables_stay policy topology before events keeps_routes front rest split_so node

  last_stays : (at : LinkEnd) (number : ℕ) (flow : FlowId) → IsLast now at number flow → IsLast then at number flow
  last_stays at number flow l = record {
    label = labels policy topology before events stretch binds front rest split_so at number flow None l.label;
    route = ap (λ (table : List routes.Route). best table (flow_destination flow)) (table_stays at.node) ∙ l.route;
  }

  joined_stay : (at : LinkEnd) (number : ℕ) (flow : FlowId) (ends : List LinkEnd) → AreJoinedOn topology now at number flow ends → AreJoinedOn topology then at number flow ends
  joined_stay at number flow [] l = last_stays at number flow l
  joined_stay at number flow (far ∷ ends) j = (
    record {
      port = j.0.port;
      linked = j.0.linked;
      next = j.0.next;
      label = labels policy topology before events stretch binds front rest split_so at number flow (Some (label_end j.0.port j.0.next)) j.0.label;
      grant = grants policy topology before events stretch binds front rest split_so (record { node = at.node; port = j.0.port }) j.0.next (one_hop flow) (ByInput (label_end at.port number)) j.0.grant;
    },
    joined_stay far j.0.next (one_hop flow) ends j.1,
  )

  -- the first label of a way, joined on or not
  record First (at : LinkEnd) (number : ℕ) (flow : FlowId) : Type 0 where
    join : Option End
    held : HoldsLabel now at number flow join

  first_of : (at : LinkEnd) (number : ℕ) (flow : FlowId) (ends : List LinkEnd) → AreJoinedOn topology now at number flow ends → First at number flow
  first_of at number flow [] l = record { join = None; held = l.label }
  first_of at number flow (far ∷ ends) j = record { join = Some (label_end j.0.port j.0.next); held = j.0.label }

  stands : (node : NodeId) (flow : FlowId) (far : LinkEnd) (ends : List LinkEnd) → WayStands topology now node flow far ends → WayStands topology then node flow far ends
  stands node flow far ends s =
      let f : First far s.number (one_hop flow) = first_of far s.number (one_hop flow) ends s.joined in
      record {
        port = s.port;
        linked = s.linked;
        route = ap (λ (table : List routes.Route). best table (flow_destination flow)) (table_stays node) ∙ s.route;
        number = s.number;
        grant = grants policy topology before events stretch binds front rest split_so (record { node = node; port = s.port }) s.number (one_hop flow) ByController s.grant;
        alone = serve policy topology before events stretch binds front rest split_so far s.number (one_hop flow) f.join f.held s.alone;
        joined = joined_stay far s.number (one_hop flow) ends s.joined;
      }

pub ways_stand_in_stretches : StretchesKeepLabels → StretchesKeepGrants → StretchesServeAlone → WaysStandInStretches
ways_stand_in_stretches labels grants serve policy topology before events node flow far ends stretch binds s front rest e =
    stands labels grants serve policy topology before events stretch binds front rest e node flow far ends s

-- *A calm beat*
module _ (policy : Policy) (topology : Topology) (before : List Event) (beat : Beat) (b : IsCalmBeat policy topology before beat) where
  abbrev begun : World
  begun = world_at policy topology before

  abbrev ticks_so : List Event
  ticks_so = tick_of_all begun

  abbrev carries_so : List Event
  carries_so = map Carry beat.carries

  -- the carries behind the ticks
  all_carried : (places : List Place) → list_all is_sending (map Carry places) ≡ true
  all_carried [] = refl
  all_carried (place ∷ places) = all_carried places

  in_parts : before ++ events_in begun beat ≡ (before ++ ticks_so) ++ (carries_so ++ beat.sending)
  in_parts = ap (λ (es : List Event). before ++ es) (append_assoc ticks_so carries_so beat.sending) ∙ sym (append_assoc before ticks_so (carries_so ++ beat.sending))

  carried : ((before ++ ticks_so) ++ carries_so) ++ beat.sending ≡ before ++ events_in begun beat
  carried = append_assoc (before ++ ticks_so) carries_so beat.sending ∙ sym in_parts

  ticked_is : world_at policy topology (before ++ ticks_so) ≡ ticked policy topology before
  ticked_is = after_all topology (opened policy topology) before ticks_so

  carrying_calm : AreCalmEvents topology (ticked policy topology before) carries_so
  carrying_calm front rest event e = subst (λ (x : World). IsCalmEvent topology x event) (after_all topology begun ticks_so front)
      (b.calm (ticks_so ++ front) (rest ++ beat.sending) event
      (append_assoc ticks_so carries_so beat.sending
      ∙ (ap (λ (es : List Event). ticks_so ++ (es ++ beat.sending)) e
      ∙ (ap (λ (es : List Event). ticks_so ++ es) (append_assoc front (event ∷ rest) beat.sending)
      ∙ sym (append_assoc ticks_so front (event ∷ (rest ++ beat.sending)))))))

  pub carrying : IsCalmStretch policy topology (before ++ ticks_so) carries_so
  carrying = record {
    run = front_run policy topology ((before ++ ticks_so) ++ carries_so) beat.sending (subst (IsRun policy topology) (sym carried) b.run);
    addresses = b.addresses;
    tame = front_tame policy topology ((before ++ ticks_so) ++ carries_so) beat.sending (subst (λ (es : List Event). IsTame (past_of policy topology es).records) (sym carried) b.tame);
    sends = all_carried beat.carries;
    calm = subst (λ (x : World). AreCalmEvents topology x carries_so) (sym ticked_is) carrying_calm;
  }

  pub settled_by : world_after topology (ticked policy topology before) carries_so ≡ settled topology begun beat
  settled_by = sym (after_all topology begun ticks_so carries_so)

  -- what is sent behind them
  abbrev past : List Event
  past = before ++ settling begun beat

  settled_is : world_at policy topology past ≡ settled topology begun beat
  settled_is = after_all topology (opened policy topology) before (settling begun beat)

  sent_parts : past ++ beat.sending ≡ before ++ events_in begun beat
  sent_parts = append_assoc before (settling begun beat) beat.sending

  sending_calm : AreCalmEvents topology (settled topology begun beat) beat.sending
  sending_calm front rest event e = subst (λ (x : World). IsCalmEvent topology x event) (after_all topology begun (settling begun beat) front)
      (b.calm (settling begun beat ++ front) rest event (ap (λ (es : List Event). settling begun beat ++ es) e ∙ sym (append_assoc (settling begun beat) front (event ∷ rest))))

  pub sending : IsCalmStretch policy topology past beat.sending
  sending = record {
    run = subst (IsRun policy topology) (sym sent_parts) b.run;
    addresses = b.addresses;
    tame = subst (λ (es : List Event). IsTame (past_of policy topology es).records) (sym sent_parts) b.tame;
    sends = b.is_beat.sends;
    calm = subst (λ (x : World). AreCalmEvents topology x beat.sending) (sym settled_is) sending_calm;
  }

  pub sent_by : world_after topology (settled topology begun beat) beat.sending ≡ behind topology begun beat
  sent_by = sym (after_all topology begun (settling begun beat) beat.sending)

  pub settled_binds : BeatsBindOn → Binds topology (ticked policy topology before) → Binds topology (settled topology begun beat)
  settled_binds binds_on from = subst (Binds topology) settled_by (binds_on policy topology before beat b from carries_so beat.sending refl)

-- *Behind its ticks*
pub record KeepTicks : Type 0 where
  pub joined : TicksKeepJoined
  pub last : TicksKeepLast
  pub lent : TicksKeepLent
  pub first : TicksKeepFirst
  pub alone : TicksServeAlone

module _ (keep : KeepTicks) (policy : Policy) (topology : Topology) (before : List Event) (beat : Beat) (ease : IsAtEase topology (world_at policy topology before))
    (b : IsCalmBeat policy topology before beat) where
  abbrev start : World
  start = world_at policy topology before

  abbrev behind_ticks : World
  behind_ticks = ticked policy topology before

  ticks_keep_routes : KeepsRoutes policy topology before (tick_of_all start)
  ticks_keep_routes = record { none_comes = ticks_none start.sites start.sites; none_waits = waits_none start (λ node site found. (ease.steady node site found).none_waits) }

  pub table_ticks : (node : NodeId) → table_in node behind_ticks ≡ table_in node start
  table_ticks node = ap (table_in node) (sym (ticked_is policy topology before beat b))
      ∙ tables_stay policy topology before (tick_of_all start) ticks_keep_routes (tick_of_all start) [] (sym (append-nil (tick_of_all start))) node

  joined_tick : (at : LinkEnd) (number : ℕ) (flow : FlowId) (ends : List LinkEnd) → AreJoinedOn topology start at number flow ends → AreJoinedOn topology behind_ticks at number flow ends
  joined_tick at number flow [] l = record {
    label = keep.last policy topology before beat ease b at number flow l.route l.label;
    route = ap (λ (table : List routes.Route). best table (flow_destination flow)) (table_ticks at.node) ∙ l.route;
  }
  joined_tick at number flow (far ∷ ends) j = (
    record {
      port = j.0.port;
      linked = j.0.linked;
      next = j.0.next;
      label = keep.joined policy topology before beat ease b at number flow (label_end j.0.port j.0.next) j.0.label;
      grant = keep.lent policy topology before beat ease b (record { node = at.node; port = j.0.port }) j.0.next (one_hop flow) (label_end at.port number) j.0.grant;
    },
    joined_tick far j.0.next (one_hop flow) ends j.1,
  )

  stands_ticked : (node : NodeId) (flow : FlowId) (far : LinkEnd) (ends : List LinkEnd) → BeginsAt start node flow → 1 < flow_ttl flow
      → WayStands topology start node flow far ends → WayStands topology behind_ticks node flow far ends
  stands_ticked node flow far ends begins lives s = record {
    port = s.port;
    linked = s.linked;
    route = ap (λ (table : List routes.Route). best table (flow_destination flow)) (table_ticks node) ∙ s.route;
    number = s.number;
    grant = keep.first policy topology before beat ease b (record { node = node; port = s.port }) s.number flow begins lives s.grant;
    alone = keep.alone policy topology before beat ease b far s.number (one_hop flow) s.alone;
    joined = joined_tick far s.number (one_hop flow) ends s.joined;
  }

-- *Behind the carries*, where it stands behind the ticks
pub settled_behind : TicksBind → WaysStandInStretches → (policy : Policy) (topology : Topology) (before : List Event) (beat : Beat) (node : NodeId) (flow : FlowId) (far : LinkEnd) (ends : List LinkEnd)
    → IsAtEase topology (world_at policy topology before) → IsCalmBeat policy topology before beat → WayStands topology (ticked policy topology before) node flow far ends
    → WayStands topology (settled topology (world_at policy topology before) beat) node flow far ends
settled_behind ticks in_stretches policy topology before beat node flow far ends ease b from =
    let is : world_at policy topology (before ++ tick_of_all (world_at policy topology before)) ≡ ticked policy topology before = ticked_is policy topology before beat b in
    let there : WayStands topology (world_after topology (world_at policy topology (before ++ tick_of_all (world_at policy topology before))) (map Carry beat.carries)) node flow far ends =
    in_stretches policy topology (before ++ tick_of_all (world_at policy topology before)) (map Carry beat.carries) node flow far ends (carrying policy topology before beat b)
    (subst (Binds topology) (sym is) (ticks policy topology before beat ease b)) (subst (λ (x : World). WayStands topology x node flow far ends) (sym is) from)
    (map Carry beat.carries) [] (sym (append-nil (map Carry beat.carries))) in
    subst (λ (x : World). WayStands topology x node flow far ends) (ap (λ (x : World). world_after topology x (map Carry beat.carries)) is ∙ settled_by policy topology before beat b) there

pub ways_stand_in_beats : KeepTicks → TicksBind → WaysStandInStretches → WaysStandInBeats
ways_stand_in_beats keep ticks in_stretches policy topology before beat node flow far ends ease b begins lives s =
    settled_behind ticks in_stretches policy topology before beat node flow far ends ease b (stands_ticked keep policy topology before beat ease b node flow far ends begins lives s)

pub ways_stand_behind_beats : TicksBind → BeatsBindOn → WaysStandInStretches → WaysStandBehindBeats
ways_stand_behind_beats ticks binds_on in_stretches policy topology before beat node flow far ends ease b s =
    let is : world_at policy topology (before ++ settling (world_at policy topology before) beat) ≡ settled topology (world_at policy topology before) beat = settled_is policy topology before beat b in
    let there : WayStands topology (world_after topology (world_at policy topology (before ++ settling (world_at policy topology before) beat)) beat.sending) node flow far ends =
    in_stretches policy topology (before ++ settling (world_at policy topology before) beat) beat.sending node flow far ends (sending policy topology before beat b)
    (subst (Binds topology) (sym is) (settled_binds policy topology before beat b binds_on (ticks policy topology before beat ease b)))
    (subst (λ (x : World). WayStands topology x node flow far ends) (sym is) s) beat.sending [] (sym (append-nil beat.sending)) in
    subst (λ (x : World). WayStands topology x node flow far ends) (ap (λ (x : World). world_after topology x beat.sending) is ∙ sent_by policy topology before beat b) there
