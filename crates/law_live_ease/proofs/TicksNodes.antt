-- each tick that begins a calm beat is one at peace, so nodes stay mirrored through the ticks, and what stands at their desks is on its way

use Rattle.std.proofs.Common.{◌≡◌, true, List, [], ◌∷◌, ◌++◌, append_assoc, Some, sym, ◌∙◌, ap, subst}
use Rattle.world_model.specs.Words.{NodeId, Policy, State, is_estab, PortRow, Topology, World, Site, site_at, next, tick_of_all, world_after, IsNode}
use Rattle.world_model.specs.network_model.declared.event.Event.{Event}
use Rattle.world_model.specs.network_model.declared.event.Event.TheVariants.{Tick, TickSwitch}
use Rattle.live_model.specs.Beats.{Beat}
use Rattle.law_live_journeys.specs.law_run_facts.ordered_lists.Ordered.{Every}
use Rattle.law_live_journeys.specs.law_true_runs.Runs.{HoldsInRuns, IsWhole}
use Rattle.law_live_journeys.specs.law_live_hearing.Law.{world_at}
use Rattle.law_live_journeys.specs.law_live_control_links.Law.{IsCalmLink}
use Rattle.law_live_journeys.specs.law_live_desks.Law.{AreOnTheirWay, RequestsAreRead}
use Rattle.law_live_journeys.proofs.law_live_desks.Events.{ticks_keep_desks, switch_ticks_keep_desks, resting_desks_are_empty}
use Rattle.law_live_journeys.proofs.law_live_desks.Runs.{runs_are_read}
use Rattle.law_live_journeys.proofs.law_live_calm_nodes.Parts.{along}
use Rattle.law_live_journeys.proofs.law_live_calm_nodes.Events.{Facts}
use Rattle.law_live_journeys.proofs.law_live_calm_nodes.Ticks.{IsTick, of_controller, of_switch, all_ticks}
use Rattle.law_live_journeys.specs.law_live_mirrored_worlds.Law.{GoesOn, IsCalmEvent, CarriesOut}
use Rattle.law_live_journeys.specs.law_live_mirrored_worlds.Ticks.{IsWritten, IsPeacefulTick}
use Rattle.law_live_journeys.proofs.law_live_mirrored_worlds.Events.{same_node}
use Rattle.law_live_journeys.proofs.law_live_mirrored_worlds.Ticks.{ticks_ask}
use Rattle.law_live_journeys.proofs.law_live_mirrored_worlds.Stretches.{stretches_carry_out}
use Rattle.law_live_journeys.specs.law_live_carried_out.Law.{IsMirroredPeace}
use Rattle.law_live_journeys.proofs.law_live_carried_out.Joins.{joins_are_written}
use Rattle.law_live_ease.specs.Law.{IsAtEase}
use Rattle.law_live_ease.specs.Beats.{IsCalmBeat}
use Rattle.law_live_ease.proofs.Ticks.{facts_in, calm_event, behind, run_then, now_then, world_then, controller_listens, switch_listens, ticks_met}
use Rattle.law_live_ease.proofs.TicksSteady.{AsksForJoins, inside, may, ticked, there, moves, all_ask}

one_site : (a b : Site) → Some a ≡ Some b → a ≡ b
one_site a b e = cc

module _ (whole : HoldsInRuns IsWhole) (policy : Policy) (topology : Topology) (before : List Event) (beat : Beat)
    (ease : IsAtEase topology (world_at policy topology before)) (b : IsCalmBeat policy topology before beat) where
  abbrev w : World
  w = world_at policy topology before

  abbrev m : IsMirroredPeace topology w
  m = ease.peace

  -- *Each tick of a controller* is one at peace
  module _ (front rest : List Event) (here : NodeId) (e : tick_of_all w ≡ front ++ Tick here ∷ rest) (site : Site)
      (found : site_at (world_after topology w front) here ≡ Some site) where
    abbrev v : World
    v = world_after topology w front

    abbrev now : Site
    now = ticked whole policy topology before beat m b front rest here e site found

    there_now : site_at (next topology v (Tick here)) here ≡ Some now
    there_now = there whole policy topology before beat m b front rest here e site found

    met : IsCalmLink (next topology v (Tick here)) here
    met = subst (λ (x : World). IsCalmLink x here) (behind whole policy topology before beat m b front rest (Tick here) e)
        (ticks_met whole policy topology before beat m b (front ++ Tick here ∷ []) rest (e ∙ sym (append_assoc front (Tick here ∷ []) rest)) here
        (inside whole policy topology before beat m b front rest here e site found))

    up : is_estab now.controller.adjacency.state ≡ true
    up = ap (λ (s : Site). is_estab s.controller.adjacency.state) (one_site now met.site (sym there_now ∙ met.found)) ∙ ap (λ (s : State). is_estab s) met.calm.met.one_is_up

    asks : AsksForJoins now
    asks = all_ask whole policy topology before beat m b ease (front ++ Tick here ∷ []) rest (e ∙ sym (append_assoc front (Tick here ∷ []) rest)) here now
        (ap (λ (x : World). site_at x here) (behind whole policy topology before beat m b front rest (Tick here) e) ∙ there_now)

    written : Every (IsWritten site.switch site.controller.desk.rows) now.controller.desk.standing
    written = subst (λ (r : List PortRow). Every (IsWritten site.switch r) now.controller.desk.standing) (moves whole policy topology before beat m b front rest here e site found).rows
        (joins_are_written policy topology (before ++ (front ++ Tick here ∷ [])) b.addresses (run_then whole policy topology before beat m b front rest (Tick here) e)
        (world_then whole policy topology before beat m b front rest (Tick here) e) here now
        (ap (λ (x : World). site_at x here) (now_then whole policy topology before beat m b front rest (Tick here) e) ∙ there_now) asks.known asks.joins)

    peaceful : IsPeacefulTick topology v here site
    peaceful = record {
      may = may whole policy topology before beat m b front rest here e site found;
      up = up;
      unlost = (calm_event whole policy topology before beat m b front rest (Tick here) e).entries;
      written = written;
    }

  module _ (node : NodeId) (within : IsNode topology node) where
    -- *So the node stays mirrored*
    tick_event : (front rest : List Event) (event : Event) → tick_of_all w ≡ front ++ event ∷ rest → IsCalmEvent topology (world_after topology w front) node event
    tick_event front rest event e =
        let f : Facts topology (world_after topology w front) event = facts_in whole policy topology before beat m b front rest event e in
        record {
          steady = (f.steady node).0;
          true_event = (f.steady node).1;
          unspent = (calm_event whole policy topology before beat m b front rest event e).unspent node;
          goes_on = by event (all_ticks w front rest event e) e;
        }
      where
        v : World
        v = world_after topology w front

        by : (x : Event) → IsTick x → tick_of_all w ≡ front ++ x ∷ rest → GoesOn topology v node x
        by x (of_controller here) g = (
          controller_listens whole policy topology before beat m b front rest here g,
          λ same. (let link : IsCalmLink v node = ticks_met whole policy topology before beat m b front (Tick here ∷ rest) g node within in
              let found : site_at v here ≡ Some link.site = ap (λ (k : NodeId). site_at v k) (sym (same_node node here same)) ∙ link.found in
              ticks_ask topology v here link.site found (peaceful front rest here g link.site found)),
        )
        by x (of_switch here) g = switch_listens whole policy topology before beat m b front rest here g

    pub mirrored : (front rest : List Event) → tick_of_all w ≡ front ++ rest → CarriesOut (world_after topology w front) node
    mirrored = stretches_carry_out topology w node (tick_of_all w) (record { calm = m.lasting.peace.met node within; mirrored = m.mirrored node within }) tick_event

    -- *What stands at its desk* is on its way
    requests_read : (front rest : List Event) (event : Event) → tick_of_all w ≡ front ++ event ∷ rest → RequestsAreRead (next topology (world_after topology w front) event) node
    requests_read front rest event e = subst (λ (x : World). RequestsAreRead x node) (now_then whole policy topology before beat m b front rest event e)
        (runs_are_read policy topology (before ++ (front ++ event ∷ [])) b.addresses (run_then whole policy topology before beat m b front rest event e)
        (world_then whole policy topology before beat m b front rest event e) node).0

    desk_on : (front rest : List Event) (event : Event) → tick_of_all w ≡ front ++ event ∷ rest → AreOnTheirWay (world_after topology w front) node
        → AreOnTheirWay (next topology (world_after topology w front) event) node
    desk_on front rest event e h = by event (all_ticks w front rest event e) e
      where
        v : World
        v = world_after topology w front

        by : (x : Event) → IsTick x → tick_of_all w ≡ front ++ x ∷ rest → AreOnTheirWay (next topology v x) node
        by x (of_controller here) g = ticks_keep_desks topology v node here ((facts_in whole policy topology before beat m b front rest (Tick here) g).steady node).1
            (calm_event whole policy topology before beat m b front rest (Tick here) g).entries (requests_read front rest (Tick here) g) h
        by x (of_switch here) g = switch_ticks_keep_desks topology v node here ((facts_in whole policy topology before beat m b front rest (TickSwitch here) g).steady node).1 h

    pub desks : (front rest : List Event) → tick_of_all w ≡ front ++ rest → AreOnTheirWay (world_after topology w front) node
    desks = along topology (λ (v : World). AreOnTheirWay v node) (tick_of_all w) w (resting_desks_are_empty.begins w node (m.lasting.nothing_stands node within)) desk_on
