-- through the ticks that begin a calm beat: nodes have met their switches, and no Delete All comes

use Rattle.std.proofs.Common.{◌≡◌, ◌<◌, List, [], ◌∷◌, ◌++◌, append_assoc, map, Option, None, Some, refl, sym, ◌∙◌, ap, subst}
use Rattle.std.specs.Prelude.{is_some}
use Rattle.std.specs.Option.{option_map}
use Rattle.world_model.specs.Words.{NodeId, Policy, Switch, Linked, port_key, Topology, World, Site, site_at, next, tick_of_all, world_after, IsNode, IsTopology, IsRun, past_of}
use Rattle.world_model.specs.adjacency_table.Table.{silence_limit}
use Rattle.world_model.specs.Topology.{peer_of}
use Rattle.world_model.specs.network_model.declared.link.LinkEnd.{LinkEnd}
use Rattle.world_model.specs.network_model.declared.event.Event.{Event}
use Rattle.world_model.specs.network_model.declared.event.Event.TheVariants.{Carry, Tick, TickSwitch}
use Rattle.live_model.specs.Beats.{Beat, events_in}
use Rattle.law_live_journeys.proofs.law_causes.Shown.{peer_back}
use Rattle.law_live_journeys.specs.law_run_facts.ordered_lists.Ordered.{Every}
use Rattle.law_live_journeys.specs.law_run_facts.Nodes.{IsNodeOfRun}
use Rattle.law_live_journeys.specs.law_run_facts.law_world_views.Between.{IsWorld}
use Rattle.law_live_journeys.proofs.law_run_facts.Nodes.{runs_have_nodes}
use Rattle.law_live_journeys.proofs.law_run_facts.law_port_facts.Keyed.{at_every}
use Rattle.law_live_journeys.proofs.law_run_facts.Steps.{front_run}
use Rattle.law_live_journeys.specs.law_true_runs.Runs.{HoldsInRuns, IsWhole}
use Rattle.law_live_journeys.proofs.law_true_runs.Walk.{holds_at}
use Rattle.law_live_journeys.specs.law_live_nodes.Law.{messages_of}
use Rattle.law_live_journeys.specs.law_live_links.Law.{MayTick}
use Rattle.law_live_journeys.specs.law_live_worlds.Law.{Shows, end_of, AgreeIn, IsCalm}
use Rattle.law_live_journeys.specs.law_live_hearing.Law.{world_at}
use Rattle.law_live_journeys.proofs.law_live_hearing.Going.{after_all}
use Rattle.law_live_journeys.proofs.law_live_hearing.Places.{down_empty}
use Rattle.law_live_journeys.specs.law_live_going.Law.{IsWritten}
use Rattle.law_live_journeys.specs.law_live_control_links.Law.{IsCalmLink, IsUnspentAt, ControllerListens, SwitchListens}
use Rattle.law_live_journeys.proofs.law_live_control_links.Events.{ticks_keep_calm, switch_ticks_keep_calm}
use Rattle.law_live_journeys.specs.law_live_ways.Links.{ComesNone, StandsNoneAt}
use Rattle.law_live_journeys.proofs.law_live_ways.Links.{none_comes_still}
use Rattle.law_live_journeys.proofs.law_live_desks.Sites.{stands_in}
use Rattle.law_live_journeys.specs.law_live_calm_nodes.Ports.{IsPortUp}
use Rattle.law_live_journeys.specs.law_live_calm_nodes.Nodes.{IsNodeAtRest}
use Rattle.law_live_journeys.specs.law_live_calm_nodes.Networks.{IsNetworkInPeace}
use Rattle.law_live_journeys.proofs.law_live_calm_nodes.Parts.{along}
use Rattle.law_live_journeys.proofs.law_live_calm_nodes.Events.{Facts, now_is, run_behind, done, behind_is, facts}
use Rattle.law_live_journeys.proofs.law_live_calm_nodes.Ticks.{IsTick, of_controller, of_switch, all_ticks, site_waits, switch_waits}
use Rattle.law_live_journeys.proofs.law_live_calm_nodes.Ports.{ticks_keep_up, up_nodes_stand_none}
use Rattle.law_live_journeys.proofs.law_live_calm_nodes.Resting.{nodes_at_rest_are_calm}
use Rattle.law_live_journeys.proofs.law_live_calm_nodes.Control.{HasPeer, has_peer}
use Rattle.law_live_journeys.specs.law_live_carried_out.Law.{IsMirroredPeace}
use Rattle.law_live_ease.specs.Law.{IsCalmEvent}
use Rattle.law_live_ease.specs.Beats.{IsCalmBeat}

one_switch : (a b : Switch) → Some a ≡ Some b → a ≡ b
one_switch a b e = cc

module _ (whole : HoldsInRuns IsWhole) (policy : Policy) (topology : Topology) (before : List Event) (beat : Beat)
    (m : IsMirroredPeace topology (world_at policy topology before)) (b : IsCalmBeat policy topology before beat) where
  abbrev w : World
  w = world_at policy topology before

  abbrev all : List Event
  all = events_in w beat

  -- what comes behind the ticks
  abbrev pub later : List Event
  later = map Carry beat.carries ++ beat.sending

  abbrev p : IsNetworkInPeace topology w
  p = m.lasting.peace

  is : IsTopology topology
  is = b.run.topology_is

  pub is_now : (front : List Event) → world_at policy topology (before ++ front) ≡ world_after topology w front
  is_now = now_is whole policy topology before all b.run b.addresses b.tame

  pub begun : IsRun policy topology before
  begun = front_run policy topology before all b.run

  -- a node as the beat begins
  pub of_run : (node : NodeId) (site : Site) → site_at w node ≡ Some site → IsNodeOfRun policy (past_of policy topology before) node site
  of_run node site found = runs_have_nodes policy topology before b.addresses begun node site found

  pub within : (one far : LinkEnd) → peer_of topology one.node one.port ≡ Some far → IsNode topology one.node
  within one far linked = (peer_back topology is far one (peer_back topology is one far linked).back).node

  -- *Each tick* is a calm event
  module _ (front rest : List Event) (event : Event) (e : tick_of_all w ≡ front ++ event ∷ rest) where
    abbrev v : World
    v = world_after topology w front

    abbrev last : List Event
    last = rest ++ later

    in_beat : all ≡ front ++ event ∷ last
    in_beat = append_assoc (tick_of_all w) (map Carry beat.carries) beat.sending
        ∙ (ap (λ (es : List Event). es ++ later) e ∙ append_assoc front (event ∷ rest) later)

    pub facts_in : Facts topology v event
    facts_in = facts whole policy topology before all b.run b.addresses b.tame front last event in_beat

    pub calm_event : IsCalmEvent topology v event
    calm_event = b.calm front last event in_beat

    -- and behind it
    pub behind : world_after topology w (front ++ event ∷ []) ≡ next topology v event
    behind = behind_is whole policy topology before all b.run b.addresses b.tame front last event in_beat

    pub run_then : IsRun policy topology (before ++ (front ++ event ∷ []))
    run_then = run_behind whole policy topology before all b.run b.addresses b.tame front last event in_beat

    pub now_then : world_at policy topology (before ++ (front ++ event ∷ [])) ≡ next topology v event
    now_then = is_now (front ++ event ∷ []) ∙ behind

    pub world_then : IsWorld (past_of policy topology (before ++ (front ++ event ∷ [])))
    world_then = (holds_at policy topology b.addresses IsWhole whole (before ++ all) (before ++ (front ++ event ∷ [])) last b.run b.tame
        (ap (λ (es : List Event). before ++ es) (done whole policy topology before all b.run b.addresses b.tame front last event in_beat)
        ∙ sym (append_assoc before (front ++ event ∷ []) last))).world

    -- a node behind it
    pub node_then : (node : NodeId) (site : Site) → site_at (next topology v event) node ≡ Some site
        → IsNodeOfRun policy (past_of policy topology (before ++ (front ++ event ∷ []))) node site
    node_then node site found = runs_have_nodes policy topology (before ++ (front ++ event ∷ [])) b.addresses run_then node site
        (ap (λ (x : World). site_at x node) now_then ∙ found)

    -- *no Delete All stands then*, where all ports are up
    stands_none : ((one far : LinkEnd) → peer_of topology one.node one.port ≡ Some far → IsPortUp (next topology v event) one)
        → (one far : LinkEnd) → peer_of topology one.node one.port ≡ Some far → StandsNoneAt (next topology v event) one.node
    stands_none up one far linked = subst (λ (x : World). StandsNoneAt x one.node) now_then
        (up_nodes_stand_none policy topology (before ++ (front ++ event ∷ [])) one b.addresses run_then (ap (λ (o : Option LinkEnd). is_some o) linked)
        (λ port there. (let peer : HasPeer (peer_of topology one.node port) = has_peer (peer_of topology one.node port) there in
        let end : LinkEnd = record { node = one.node; port = port } in subst (λ (x : World). IsPortUp x end) (sym now_then) (up end peer.far peer.is)))
        (subst (λ (x : World). IsUnspentAt x one.node) (sym now_then) (calm_event.unspent one.node)))

  -- *Who ticks* has heard its peer lately
  pub controller_listens : (front rest : List Event) (here : NodeId) → tick_of_all w ≡ front ++ Tick here ∷ rest → ControllerListens (world_after topology w front) here
  controller_listens front rest here e site found = p.heard here site (sym (site_waits topology w front rest here p.shaped e) ∙ found)

  pub switch_listens : (front rest : List Event) (here : NodeId) → tick_of_all w ≡ front ++ TickSwitch here ∷ rest → SwitchListens (world_after topology w front) here
  switch_listens front rest here e site found = by (site_at w here) refl (sym (switch_waits topology w front rest here p.shaped e) ∙ ap (option_map (λ (s : Site). s.switch)) found)
    where
      by : (o : Option Site) → site_at w here ≡ o → option_map (λ (s : Site). s.switch) o ≡ Some site.switch → site.switch.adjacency.silence < silence_limit
      by None there same = absurd (cc same)
      by (Some old) there same = subst (λ (s : Switch). s.adjacency.silence < silence_limit) (one_switch old.switch site.switch same)
          (m.lasting.heard here (of_run here old there).is_node.number old there)

  -- *Each node and its switch have met*
  abbrev Met : World → Type 0
  Met v = (node : NodeId) → IsNode topology node → IsCalmLink v node

  tick_met : (front rest : List Event) (event : Event) → tick_of_all w ≡ front ++ event ∷ rest → Met (world_after topology w front) → Met (next topology (world_after topology w front) event)
  tick_met front rest event e met node inside = by event (all_ticks w front rest event e) e
    where
      v : World
      v = world_after topology w front

      by : (x : Event) → IsTick x → tick_of_all w ≡ front ++ x ∷ rest → IsCalmLink (next topology v x) node
      by x (of_controller here) f = (let g : Facts topology v (Tick here) = facts_in front rest (Tick here) f in
          ticks_keep_calm topology v node here (met node inside) (g.steady node).0 (g.steady node).1 (controller_listens front rest here f) ((calm_event front rest (Tick here) f).unspent node))
      by x (of_switch here) f = switch_ticks_keep_calm topology v node here (met node inside) ((facts_in front rest (TickSwitch here) f).steady node).1 (switch_listens front rest here f)

  pub ticks_met : (front rest : List Event) → tick_of_all w ≡ front ++ rest → Met (world_after topology w front)
  ticks_met = along topology Met (tick_of_all w) w p.met tick_met

  -- *Each node is at peace* as the beat begins
  pub port_may : (one : LinkEnd) (linked : Linked) → Shows w one linked → MayTick (end_of linked []) × Every IsWritten (messages_of linked)
  port_may one linked shows = at_every port_key (λ (x : Linked). MayTick (end_of x []) × Every IsWritten (messages_of x)) one.port.0 shows.site.controller.ports linked
      (b.room one.node shows.site shows.there).ports shows.of_port

  at_rest : (node : NodeId) → IsNode topology node → IsNodeAtRest topology w node
  at_rest node inside = record {
    link = link;
    nothing_asked = sym (ap stands_in link.found) ∙ m.lasting.nothing_stands node inside;
    ports = λ port there. (let one : LinkEnd = record { node = node; port = port } in
        let peer : HasPeer (peer_of topology node port) = has_peer (peer_of topology node port) there in
        let agree : AgreeIn w one peer.far [] [] = (p.links one peer.far peer.is).agree in
        record { far = peer.far; agree = agree; may_tick = (port_may one agree.linked agree.shows).0 });
    may_join = (b.room node link.site link.found).may_join;
  }
    where
      link : IsCalmLink w node
      link = p.met node inside

  pub calm : (node : NodeId) → IsNode topology node → IsCalm w node
  calm node inside = nodes_at_rest_are_calm policy topology before node b.addresses begun (at_rest node inside) (p.heard node)

  -- *No Delete All comes*, since ports are up
  ticks_up : (front rest : List Event) → tick_of_all w ≡ front ++ rest → (one far : LinkEnd) → peer_of topology one.node one.port ≡ Some far → IsPortUp (world_after topology w front) one
  ticks_up front rest e one far linked = ticks_keep_up topology w one far front rest p.shaped (calm one.node (within one far linked)) (p.links one far linked).agree e

  abbrev NoneComes : World → Type 0
  NoneComes v = (one far : LinkEnd) → peer_of topology one.node one.port ≡ Some far → ComesNone v one.node

  none_yet : NoneComes w
  none_yet one far linked = subst (Every _) (sym (down_empty policy topology is before one.node (within one far linked) p.empty)) tt

  tick_none : (front rest : List Event) (event : Event) → tick_of_all w ≡ front ++ event ∷ rest → NoneComes (world_after topology w front) → NoneComes (next topology (world_after topology w front) event)
  tick_none front rest event e none one far linked = by event (all_ticks w front rest event e) e
      (stands_none front rest event e
      (λ x y between. subst (λ (v : World). IsPortUp v x) (after_all topology w front (event ∷ [])) (ticks_up (front ++ event ∷ []) rest (e ∙ sym (append_assoc front (event ∷ []) rest)) x y between)) one far linked)
    where
      v : World
      v = world_after topology w front

      by : (x : Event) → IsTick x → tick_of_all w ≡ front ++ x ∷ rest → StandsNoneAt (next topology v x) one.node → ComesNone (next topology v x) one.node
      by x (of_controller here) f stands = (let g : Facts topology v (Tick here) = facts_in front rest (Tick here) f in
          none_comes_still.ticks topology v one.node here (ticks_met front (Tick here ∷ rest) f one.node (within one far linked)) (g.steady one.node).0 (g.steady one.node).1
          (controller_listens front rest here f) stands (none one far linked))
      by x (of_switch here) f stands = none_comes_still.switch_ticks topology v one.node here ((facts_in front rest (TickSwitch here) f).steady one.node).1 (none one far linked)

  pub ticks_none : (front rest : List Event) → tick_of_all w ≡ front ++ rest → NoneComes (world_after topology w front)
  ticks_none = along topology NoneComes (tick_of_all w) w none_yet tick_none
