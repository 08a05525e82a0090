-- what an event adds to a past, and what of it stays

use Rattle.std.proofs.Common.{◌≡◌, ℕ, suc, ◌<◌, ◌+◌, List, [], ◌∷◌, ◌++◌, length, length-append, slice_get, Option, None, Some, refl, sym, ◌∙◌, ap, subst, arith, append_assoc}
use Rattle.std.specs.Option.{option_map_or}
use Rattle.law_world_pace.specs.world_model.Words.{NodeId, Place, Down, Up, Out, Cell, best, destination_of, Refusal, Policy, Fate, inject_refusal, tick_comes, restarted, forged, node_restarts, Forged, next_control, with_control, control_port, change_comes, Topology, Node, World, Site, site_at, controller_acts, switch_acts, with_opened, opens_each, empty_world, place_node, queue_at, with_queue_of, with_queue, injects_by, arrives_at, arrives, carries_head, loses_head, forges, put_away, next, worlds_from, world_after, records_of, sent_by, table_in, Reaches, hops, HasReached, IsFateAt, delivered, without_route, expired, Past, past_of, IsRun, IsTame, is_wild, WasAccepted, IsTopology}
use Rattle.law_world_pace.specs.world_model.Switch as switches
use Rattle.law_world_pace.specs.world_model.Controller as controllers
use Rattle.law_world_pace.specs.world_model.Ticks.{ticks}
use Rattle.law_world_pace.specs.world_model.Sending.{sends}
use Rattle.law_world_pace.specs.world_model.network_model.declared.event.Event.{Event}
use Rattle.law_world_pace.specs.world_model.network_model.declared.event.Event.TheVariants.{Inject, Carry, Lose, Tick, TickSwitch, Restart, RestartSwitch, Forge, Route}
use Rattle.law_world_pace.specs.world_model.network_model.declared.link.LinkEnd.{LinkEnd}
use Rattle.law_world_pace.specs.world_model.Topology.{peer_of}
use Rattle.law_world_pace.specs.world_model.World.{opened}
use Rattle.law_world_pace.specs.world_model.Step.{note, acts}
use Rattle.law_world_pace.specs.world_model.Reached.{Sent, sent_here}
use Rattle.law_world_views.specs.Kept.{behind}
use Rattle.law_run_facts.specs.Steps.{PastsAreWhole, IsStep, EventsAreSteps, Stays, PastsStay, RunsHaveFronts}
use Rattle.law_run_facts.proofs.Lists.{front_get, front_same, any_none, flat_one}

-- *A run with one event more*
module _ (t : Topology) where
  pub after_one : (w : World) (before : List Event) (event : Event) → world_after t w (before ++ event ∷ []) ≡ next t (world_after t w before) event
  after_one w [] event = refl
  after_one w (first ∷ before) event = after_one (next t w first) before event

  pub worlds_one : (w : World) (before : List Event) (event : Event) → worlds_from t w (before ++ event ∷ []) ≡ worlds_from t w before ++ next t (world_after t w before) event ∷ []
  worlds_one w [] event = refl
  worlds_one w (first ∷ before) event = ap (λ ws. w ∷ ws) (worlds_one (next t w first) before event)

  pub worlds_many : (w : World) (events : List Event) → length (worlds_from t w events) ≡ suc (length events)
  worlds_many w [] = refl
  worlds_many w (event ∷ events) = ap suc (worlds_many (next t w event) events)

  pub worlds_last : (w : World) (events : List Event) → slice_get (worlds_from t w events) (length events) ≡ Some (world_after t w events)
  worlds_last w [] = refl
  worlds_last w (event ∷ events) = worlds_last (next t w event) events

  -- *How many events and packets* there were
  controller_counts : (w : World) (act : controllers.Acted → controllers.Acted) (o : Option Site) → ((controller_acts w o act).sent ≡ w.sent) × ((controller_acts w o act).events ≡ w.events)
  controller_counts w act None = (refl, refl)
  controller_counts w act (Some site) = (refl, refl)

  switch_counts : (w : World) (act : switches.ActedSwitch → switches.ActedSwitch) (o : Option Site) → ((switch_acts w o act).sent ≡ w.sent) × ((switch_acts w o act).events ≡ w.events)
  switch_counts w act None = (refl, refl)
  switch_counts w act (Some site) = (refl, refl)

  queue_counts : (w : World) (place : Place) (cells : List Cell) (o : Option Site) → ((with_queue_of w place cells o).sent ≡ w.sent) × ((with_queue_of w place cells o).events ≡ w.events)
  queue_counts w place cells None = (refl, refl)
  queue_counts w place cells (Some site) = (refl, refl)

  carry_sent : (w : World) (place : Place) (queue : List Cell) → (carries_head t w place queue).sent ≡ w.sent
  carry_sent w place [] = refl
  carry_sent w place (cell ∷ cells) = by place
    where
      u : World
      u = with_queue w place cells

      same : u.sent ≡ w.sent
      same = (queue_counts w place cells (site_at w (place_node place))).0

      far : (o : Option LinkEnd) → (arrives_at u cell o).sent ≡ w.sent
      far None = same
      far (Some end) = (switch_counts u _ (site_at u end.node)).0 ∙ same

      by : (at : Place) → (arrives t u at cell).sent ≡ w.sent
      by (Down node) = (switch_counts u _ (site_at u node)).0 ∙ same
      by (Up node) = (controller_counts u _ (site_at u node)).0 ∙ same
      by (Out node port) = far (peer_of t node port)

  lose_sent : (w : World) (place : Place) (queue : List Cell) → (loses_head w place queue).sent ≡ w.sent
  lose_sent w place [] = refl
  lose_sent w place (cell ∷ cells) = (queue_counts w place cells (site_at w (place_node place))).0

  event_sent : (w : World) (time : ℕ) (event : Event) → (acts t w event).sent ≡ w.sent + length (sent_by time (event ∷ []))
  event_sent w time (Inject node octets) = by (inject_refusal octets)
    where
      by : (o : Option Refusal) → (injects_by (record w { sent = w.sent + 1 }) node octets o).sent ≡ w.sent + 1
      by None = (controller_counts (record w { sent = w.sent + 1 }) _ (site_at w node)).0
      by (Some name) = refl
  event_sent w time (Carry place) = omega (arith, carry_sent w place (queue_at w place))
  event_sent w time (Lose place) = omega (arith, lose_sent w place (queue_at w place))
  event_sent w time (Tick node) = omega (arith, (controller_counts w ticks (site_at w node)).0)
  event_sent w time (TickSwitch node) = omega (arith, (switch_counts w tick_comes (site_at w node)).0)
  event_sent w time (Restart node) = omega (arith, (controller_counts w node_restarts (site_at w node)).0)
  event_sent w time (RestartSwitch node) = omega (arith, (switch_counts w restarted (site_at w node)).0)
  event_sent w time (Forge place channel payload) = by place
    where
      by : (at : Place) → (forges w at channel payload).sent ≡ w.sent + 0
      by (Down node) = omega (
        arith,
        (controller_counts (record (note w (Forged (Down node))) { numbers = with_control w.numbers })
            (λ a. sends a channel (next_control w.numbers) payload) (site_at w node)).0,
      )
      by (Up node) = omega (
        arith,
        (switch_counts (record (note w (Forged (Up node))) { numbers = with_control w.numbers })
            (λ a. forged a control_port channel (next_control w.numbers) payload) (site_at w node)).0,
      )
      by (Out node port) = omega (
        arith,
        (switch_counts (record (note w (Forged (Out node port))) { numbers = with_control w.numbers })
            (λ a. forged a port channel (next_control w.numbers) payload) (site_at w node)).0,
      )
  event_sent w time (Route node change) = omega (arith, (controller_counts w (λ a. change_comes a change) (site_at w node)).0)

pub sent_one : (time : ℕ) (before : List Event) (event : Event) → sent_by time (before ++ event ∷ []) ≡ sent_by time before ++ sent_by (time + length before) (event ∷ [])
sent_one time [] event = ap (λ n. sent_by n (event ∷ [])) (sym (plain time))
  where
    plain : (n : ℕ) → n + 0 ≡ n
    plain n = omega arith
sent_one time (first ∷ before) event = by (sent_one (suc time) before event ∙ ap (λ n. sent_by (suc time) before ++ sent_by n (event ∷ [])) (omega arith)) first
  where
    by : sent_by (suc time) (before ++ event ∷ []) ≡ sent_by (suc time) before ++ sent_by (time + suc (length before)) (event ∷ []) → (e : Event) → sent_by time (e ∷ (before ++ event ∷ [])) ≡ sent_by time (e ∷ before) ++ sent_by (time + suc (length before)) (event ∷ [])
    by more (Inject node octets) = ap (λ xs. record { node = node; packet = octets; time = time } ∷ xs) more
    by more (Carry place) = more
    by more (Lose place) = more
    by more (Tick node) = more
    by more (TickSwitch node) = more
    by more (Restart node) = more
    by more (RestartSwitch node) = more
    by more (Forge place channel payload) = more
    by more (Route node change) = more

opens_counts : (policy : Policy) (t : Topology) (nodes : List Node) (w : World) (place : ℕ) → ((opens_each policy t w place nodes).events ≡ w.events) × ((opens_each policy t w place nodes).sent ≡ w.sent)
opens_counts policy t [] w place = (refl, refl)
opens_counts policy t (node ∷ nodes) w place = opens_counts policy t nodes (with_opened policy t w place node) (suc place)

events_count : (t : Topology) (events : List Event) (w : World) → (world_after t w events).events ≡ w.events + length events
events_count t [] w = omega arith
events_count t (event ∷ events) w = omega (arith, events_count t events (next t w event))

packets_count : (t : Topology) (events : List Event) (w : World) (time : ℕ) → (world_after t w events).sent ≡ w.sent + length (sent_by time events)
packets_count t [] w time = omega arith
packets_count t (event ∷ events) w time =
    omega (arith, packets_count t events (next t w event) (suc time), event_sent t (put_away w) time event, split event)
  where
    split : (e : Event) → length (sent_by time (e ∷ events)) ≡ length (sent_by time (e ∷ [])) + length (sent_by (suc time) events)
    split (Inject node octets) = omega arith
    split (Carry place) = omega arith
    split (Lose place) = omega arith
    split (Tick node) = omega arith
    split (TickSwitch node) = omega arith
    split (Restart node) = omega arith
    split (RestartSwitch node) = omega arith
    split (Forge place channel payload) = omega arith
    split (Route node change) = omega arith

pub pasts_are_whole : PastsAreWhole
pasts_are_whole policy topology events = record {
  worlds = worlds_many topology (opened policy topology) events;
  last = worlds_last topology (opened policy topology) events;
  events = omega (arith, events_count topology events (opened policy topology), (opens_counts policy topology topology.nodes empty_world 1).0);
  sent = omega (arith, packets_count topology events (opened policy topology) 0, (opens_counts policy topology topology.nodes empty_world 1).1);
  held = λ node. ap (λ o. option_map_or (table_in node) o []) (worlds_last topology (opened policy topology) events);
}

pub events_are_steps : EventsAreSteps
events_are_steps policy topology before event =
    let w : World = opened policy topology in
    let now = after_one topology w before event in
    let worlds = worlds_one topology w before event in
    record {
      topology = refl;
      events = refl;
      now = now;
      worlds = worlds ∙ ap (λ v. worlds_from topology w before ++ v ∷ []) (sym now);
      records = ap records_of worlds ∙ flat_one (λ (v : World). v.notes.records) (worlds_from topology w before) (next topology (world_after topology w before) event)
          ∙ ap (λ (v : World). records_of (worlds_from topology w before) ++ v.notes.records) (sym now);
      sent = sent_one 0 before event ∙ ap (λ n. sent_by 0 before ++ sent_by n (event ∷ [])) (omega arith);
      held = λ node time low. ap (λ o. option_map_or (table_in node) o []) (ap (λ ws. slice_get ws time) worlds ∙ front_same (worlds_from topology w before) (next topology (world_after topology w before) event ∷ []) time low);
    }

-- *What stays*
module _ (policy : Policy) (topology : Topology) (before : List Event) (event : Event) where
  abbrev old : Past
  old = past_of policy topology before

  abbrev new : Past
  new = behind policy topology before event

  step : IsStep (past_of policy topology before) (behind policy topology before event) event
  step = events_are_steps policy topology before event

  still_held : (node : NodeId) (time : ℕ) → time < length (past_of policy topology before).worlds → (past_of policy topology before).history.held node time ≡ (behind policy topology before event).history.held node time
  still_held node time low = sym (step.held node time low)

  still_sent : (k : ℕ) (s : Sent) → slice_get (past_of policy topology before).history.sent k ≡ Some s → slice_get (behind policy topology before event).history.sent k ≡ Some s
  still_sent k s e = subst (λ xs. slice_get xs k ≡ Some s) (sym step.sent) (front_get (sent_by 0 before) (sent_by (length before) (event ∷ [])) k s e)

  still_world : (place : ℕ) (w : World) → slice_get (past_of policy topology before).worlds place ≡ Some w → slice_get (behind policy topology before event).worlds place ≡ Some w
  still_world place w e = subst (λ xs. slice_get xs place ≡ Some w) (sym step.worlds) (front_get (past_of policy topology before).worlds ((behind policy topology before event).now ∷ []) place w e)

  reaches_stay : (k : ℕ) (node : NodeId) (packet : List ℕ) (time : ℕ) → time < length (past_of policy topology before).worlds
      → Reaches topology (past_of policy topology before).history k node packet time → Reaches topology (behind policy topology before event).history k node packet time
  reaches_stay k node packet time low (sent_here j s is accepted) = sent_here j s (still_sent j s is) accepted
  reaches_stay k node packet time low (hops j from octets earlier late port far reached less lives route peer) =
      hops j from octets earlier late port far (reaches_stay j from octets earlier (omega (arith, low, less)) reached) less lives
      (ap (λ table. best table (destination_of octets)) (sym (still_held from late low)) ∙ route) peer

  reached_stays : (k : ℕ) (node : NodeId) (packet : List ℕ) (by : ℕ) → by < length (past_of policy topology before).worlds
      → HasReached topology (past_of policy topology before).history k node packet by → HasReached topology (behind policy topology before event).history k node packet by
  reached_stays k node packet by low r = record { time = r.time; in_time = r.in_time; reaches = reaches_stay k node packet r.time (omega (arith, low, r.in_time)) r.reaches }

  fate_stays : (time k : ℕ) (fate : Fate) → time < length (past_of policy topology before).worlds → IsFateAt topology (past_of policy topology before).history time k fate → IsFateAt topology (behind policy topology before event).history time k fate
  fate_stays time k fate low (delivered node packet reached route) = delivered node packet (reached_stays k node packet time low reached) (ap (λ table. best table (destination_of packet)) (sym (still_held node time low)) ∙ route)
  fate_stays time k fate low (without_route node packet reached route) = without_route node packet (reached_stays k node packet time low reached) (ap (λ table. best table (destination_of packet)) (sym (still_held node time low)) ∙ route)
  fate_stays time k fate low (expired node packet port reached route short) = expired node packet port (reached_stays k node packet time low reached) (ap (λ table. best table (destination_of packet)) (sym (still_held node time low)) ∙ route) short

  accepted_stays : (number : ℕ) → WasAccepted (past_of policy topology before) number → WasAccepted (behind policy topology before event) number
  accepted_stays number a = record { place = a.place; numbered = a.numbered; sent = a.sent; is_sent = still_sent a.place a.sent a.is_sent; accepted = a.accepted }

  pub one_stays : Stays (past_of policy topology before) (behind policy topology before event)
  one_stays = record {
    reaches = reaches_stay;
    has_reached = reached_stays;
    has_come = λ k node packet c. record {
      counted = c.counted;
      fit = c.fit;
      time = c.time;
      so_far = omega (arith, c.so_far, length-append before (event ∷ []));
      reached = reaches_stay k node packet c.time (omega (arith, c.so_far, worlds_many topology (opened policy topology) before)) c.reached;
    };
    accepted = accepted_stays;
    fates = λ time number fate low f. record { was_accepted = accepted_stays number f.was_accepted; is_fate = fate_stays time number fate low f.is_fate };
    cleared = λ end instance c. record {
      place = c.place;
      before = c.before;
      is_before = still_world c.place c.before c.is_before;
      after = c.after;
      is_after = still_world (suc c.place) c.after c.is_after;
      waits = c.waits;
      cleared = c.cleared;
    };
  }

pub pasts_stay : PastsStay
pasts_stay policy topology before event = one_stays policy topology before event

-- *What came before*
pub front_run : (policy : Policy) (topology : Topology) (before after : List Event) → IsRun policy topology (before ++ after) → IsRun policy topology before
front_run policy topology before after r = record {
  topology_is = r.topology_is;
  each = λ front rest event is. r.each front (rest ++ after) event (ap (λ es. es ++ after) is ∙ append_assoc front (event ∷ rest) after);
}

pub run_of_none : (policy : Policy) (topology : Topology) → IsTopology topology → IsRun policy topology []
run_of_none policy topology is = record { topology_is = is; each = λ front rest event e. absurd (never front rest event e) }
  where
    never : (front rest : List Event) (event : Event) → [] ≡ front ++ event ∷ rest → ⊥
    never [] rest event e = cc e
    never (x ∷ front) rest event e = cc e

pub runs_have_fronts : RunsHaveFronts
runs_have_fronts policy topology before event c =
    let records = (events_are_steps policy topology before event).records in
    let split = any_none is_wild (past_of policy topology before).records (behind policy topology before event).now.notes.records (subst IsTame records c.tame) in
    record {
      run = front_run policy topology before (event ∷ []) c.run;
      can = c.run.each before [] event refl;
      tame = split.0;
      new_tame = split.1;
    }
