-- nodes go steadily through the ticks that begin a calm beat: switches are as their controllers know them, no change of routes waits, and
-- joins alone are asked

use Rattle.std.proofs.Common.{◌≡◌, ◌≢◌, ℕ, ◌≤◌, Bool, true, false, List, [], ◌∷◌, ◌++◌, map, Option, None, Some, refl, sym, ◌∙◌, ap, subst, arith}
use Rattle.std.specs.Prelude.{◌&&◌, Contains}
use Rattle.std.specs.Option.{option_map_or}
use Rattle.world_model.specs.Words.{NodeId, Policy, is_label_number, PortRow, Request, Desk, Standing, Setup, Label, labels_of, Grant, Idle, Controller, Linked, linked_at, port_key, setup_of, Topology, Node, ranges_of, timers_of, World, Site, site_at, put_away, next, tick_comes, tick_of_all, world_after, IsNode, past_of}
use Rattle.world_model.specs.Ticks.{ticks}
use Rattle.world_model.specs.Switch.{ActedSwitch}
use Rattle.world_model.specs.network_model.declared.event.Event.{Event}
use Rattle.world_model.specs.network_model.declared.event.Event.TheVariants.{Tick, TickSwitch}
use Rattle.world_model.proofs.Lists.{by_eq}
use Rattle.live_model.specs.Beats.{Beat}
use Rattle.law_live_journeys.specs.law_run_facts.ordered_lists.Ordered.{Every}
use Rattle.law_live_journeys.proofs.law_run_facts.ordered_lists.Every.{every_map}
use Rattle.law_live_journeys.specs.law_run_facts.law_port_facts.Port.{IsLabel, IsPort}
use Rattle.law_live_journeys.proofs.law_run_facts.law_port_facts.Keyed.{at_every}
use Rattle.law_live_journeys.proofs.law_run_facts.law_actor_pace.Controllers.{ticks_paces}
use Rattle.law_live_journeys.specs.law_run_facts.Nodes.{IsNodeOf, IsNodeOfRun}
use Rattle.law_live_journeys.specs.law_run_facts.law_world_views.Between.{setups_of}
use Rattle.law_live_journeys.specs.law_true_runs.Runs.{HoldsInRuns, IsWhole}
use Rattle.law_live_journeys.specs.law_live_nodes.Law.{IsNodeAtPeace}
use Rattle.law_live_journeys.specs.law_live_hearing.Law.{world_at, acting}
use Rattle.law_live_journeys.specs.law_live_answers.Law.{IsJoin}
use Rattle.law_live_journeys.specs.law_live_control_links.Law.{IsCalmLink}
use Rattle.law_live_journeys.proofs.law_live_control_links.Sites.{controller_here, controller_elsewhere, switch_here, switch_elsewhere}
use Rattle.law_live_journeys.proofs.law_live_desks.Sites.{stands_in}
use Rattle.law_live_journeys.proofs.law_live_calm_nodes.Networks.{peace_of}
use Rattle.law_live_journeys.proofs.law_live_calm_nodes.Parts.{along}
use Rattle.law_live_journeys.proofs.law_live_calm_nodes.Ticks.{IsTick, of_controller, of_switch, all_ticks, site_waits}
use Rattle.law_live_journeys.specs.law_live_bindings.Law.{grant_branch}
use Rattle.law_live_journeys.specs.law_live_mirrors.Fit.{IsKnown}
use Rattle.law_live_journeys.specs.law_live_mirrored_ticks.Law.{MayTick}
use Rattle.law_live_journeys.proofs.law_live_mirrored_worlds.Events.{same_node}
use Rattle.law_live_journeys.specs.law_live_carried_out.Law.{IsMirroredPeace}
use Rattle.law_live_ease.specs.Law.{IsAsked, AreTied, IsSteadyNode, IsAtEase}
use Rattle.law_live_ease.specs.Beats.{IsCalmBeat}
use Rattle.law_live_ease.proofs.TicksJoins.{IsUsed, AreUsed, AsksMoves, AreMoves, tick_moves, moves_are_joins}
use Rattle.law_live_ease.proofs.TicksSwitches.{ticks_known}
use Rattle.law_live_ease.proofs.Ticks.{of_run, facts_in, node_then, ticks_met, calm}

one_site : (x y : Site) → Some x ≡ Some y → x ≡ y
one_site x y e = cc

-- *A node asks for joins alone*: its switch is as it knows it, no change of routes waits, and each grant is used
pub record AsksForJoins (site : Site) : Type 0 where
  pub known : IsKnown (setups_of site.controller) site.controller.desk.rows site.switch
  pub none_waits : site.controller.waiting ≡ []
  pub joins : Every (λ (s : Standing). IsJoin s.request) site.controller.desk.standing
  pub used : AreUsed site.controller

-- *A node's ports* stay those of its links
same_setups : (policy : Policy) (topology : Topology) (node : NodeId) (site now : Site) → IsNodeOf policy topology node site → IsNodeOf policy topology node now
    → setups_of now.controller ≡ setups_of site.controller
same_setups policy topology node site now a b = b.setups ∙ (ap (λ (d : Node). map (setup_of node d.address (timers_of topology) policy) (ranges_of topology node d))
    (one_node b.there a.there (sym b.is ∙ a.is)) ∙ sym a.setups)
  where
    one_node : (x y : Node) → Some x ≡ Some y → x ≡ y
    one_node x y e = cc

-- *Where nothing stands* each grant is used, since desk and ports are tied
asked_none : (desk : Desk) (request : Request) → desk.standing ≡ [] → IsAsked desk request → ⊥
asked_none desk request empty asked = none (subst (λ (standing : List Standing). Contains standing asked.standing) empty asked.stands)
  where
    none : Contains [] asked.standing → ⊥
    none among = absurd (omega (arith, among.1))

all_used : (c : Controller) → c.desk.standing ≡ [] → AreTied c → AreUsed c
all_used c empty ties port = by (linked_at c port) refl
  where
    by : (o : Option Linked) → linked_at c port ≡ o → Every IsUsed (option_map_or (λ (l : Linked). l.port.grants) o [])
    by None there = tt
    by (Some linked) there = every_map (λ (grant : Grant). grant.state ≡ Idle → IsAsked c.desk (grant_branch linked.setup grant.label)) IsUsed linked.port.grants
        (λ grant asked idle. asked_none c.desk (grant_branch linked.setup grant.label) empty (asked idle))
        (at_every port_key (λ (l : Linked). Every (λ (grant : Grant). grant.state ≡ Idle → IsAsked c.desk (grant_branch l.setup grant.label)) l.port.grants) port.0 c.ports linked ties.idle there)

-- the first of two tests
first_of : (p q : Bool) → (p && q) ≡ true → p ≡ true
first_of true q e = refl
first_of false q e = absurd (cc e)

module _ (whole : HoldsInRuns IsWhole) (policy : Policy) (topology : Topology) (before : List Event) (beat : Beat)
    (m : IsMirroredPeace topology (world_at policy topology before)) (b : IsCalmBeat policy topology before beat) where
  abbrev w : World
  w = world_at policy topology before

  -- *A controller whose turn it is* is as it was when the beat began, at peace
  module _ (front rest : List Event) (here : NodeId) (e : tick_of_all w ≡ front ++ Tick here ∷ rest) (site : Site)
      (found : site_at (world_after topology w front) here ≡ Some site) where
    abbrev v : World
    v = world_after topology w front

    found_before : site_at w here ≡ Some site
    found_before = sym (site_waits topology w front rest here m.lasting.peace.shaped e) ∙ found

    n : IsNodeOfRun policy (past_of policy topology before) here site
    n = of_run whole policy topology before beat m b here site found_before

    pub inside : IsNode topology here
    inside = n.is_node.number

    peace : IsNodeAtPeace (acting w site)
    peace = peace_of w here site found_before (calm whole policy topology before beat m b here inside)

    numbers_of : (linked : Linked) → IsPort (setups_of site.controller) linked.setup linked.port → Every (λ (label : Label). is_label_number label.number ≡ true) (labels_of linked.port)
    numbers_of linked port = every_map (IsLabel (setups_of site.controller) linked.setup) (λ (label : Label). is_label_number label.number ≡ true) (labels_of linked.port)
        (λ label is. first_of (is_label_number label.number) _ is.in_range) port.labels

    not_zero : (k : ℕ) → 1 ≤ k → k ≢ 0
    not_zero k some zero = omega (arith, some, zero)

    pub may : MayTick (acting v site)
    may = record {
      peace = record { up = peace.up; heard = peace.heard; nothing_asked = peace.nothing_asked; ports = peace.ports; ports_apart = peace.ports_apart };
      links = every_map (λ (linked : Linked). 1 ≤ linked.setup.port.0) (λ (linked : Linked). linked.setup.port.0 ≢ 0) site.controller.ports (λ linked some. not_zero linked.setup.port.0 some)
          (((facts_in whole policy topology before beat m b front rest (Tick here) e).steady here).0.links site found).ports;
      labels = every_map (λ (linked : Linked). IsPort (setups_of site.controller) linked.setup linked.port)
          (λ (linked : Linked). Every (λ (label : Label). is_label_number label.number ≡ true) (labels_of linked.port)) site.controller.ports numbers_of n.conduct.sound.ports.each;
      joins = (b.room here site found_before).may_join;
    }

    -- behind its tick
    abbrev pub ticked : Site
    ticked = record site { controller = (ticks (acting v site)).controller }

    pub there : site_at (next topology v (Tick here)) here ≡ Some ticked
    there = controller_here (put_away v) here site found ticks (λ a. (ticks_paces 0 a).node)

    n_then : IsNodeOfRun policy (past_of policy topology (before ++ (front ++ Tick here ∷ []))) here ticked
    n_then = node_then whole policy topology before beat m b front rest (Tick here) e here ticked there

    pub moves : AsksMoves site.controller ticked.controller
    moves = tick_moves (acting v site) may

    ticked_asks : AsksForJoins site → AsksForJoins ticked
    ticked_asks h = record {
      known = subst (λ (setups : List Setup). IsKnown setups ticked.controller.desk.rows site.switch) (sym (same_setups policy topology here site ticked n.is_node n_then.is_node))
          (subst (λ (rows : List PortRow). IsKnown (setups_of site.controller) rows site.switch) (sym moves.rows) h.known);
      none_waits = moves.waiting ∙ h.none_waits;
      joins = moves_are_joins (setups_of ticked.controller) n_then.ports.links ticked.controller.desk.standing n_then.conduct.sound.requests
          (moves.moves (subst AreMoves (sym may.peace.nothing_asked) tt));
      used = moves.used h.used;
    }

  -- *All nodes go so* through the ticks
  abbrev All : World → Type 0
  All v = (node : NodeId) (site : Site) → site_at v node ≡ Some site → AsksForJoins site

  module _ (front rest : List Event) (h : All (world_after topology w front)) where
    abbrev u : World
    u = world_after topology w front

    controller_own : (here : NodeId) → tick_of_all w ≡ front ++ Tick here ∷ rest → (now : Site) → site_at (next topology u (Tick here)) here ≡ Some now → AsksForJoins now
    controller_own here e now found =
        let link : IsCalmLink u here = ticks_met whole policy topology before beat m b front (Tick here ∷ rest) e here
        (node_then whole policy topology before beat m b front rest (Tick here) e here now found).is_node.number in
        subst AsksForJoins (one_site (ticked front rest here e link.site link.found) now (sym (there front rest here e link.site link.found) ∙ found))
        (ticked_asks front rest here e link.site link.found (h here link.site link.found))

    switch_own : (here : NodeId) → tick_of_all w ≡ front ++ TickSwitch here ∷ rest → (now : Site) → site_at (next topology u (TickSwitch here)) here ≡ Some now → AsksForJoins now
    switch_own here e now found = by (ticks_met whole policy topology before beat m b front (TickSwitch here ∷ rest) e here
        (node_then whole policy topology before beat m b front rest (TickSwitch here) e here now found).is_node.number)
      where
        by : IsCalmLink (world_after topology (world_at policy topology before) front) here → AsksForJoins now
        by link =
            let a : ActedSwitch = record { switch = link.site.switch; notes = (put_away u).notes; numbers = u.numbers } in
            let s : AsksForJoins link.site = h here link.site link.found in
            let stepped : Site = record link.site { switch = (tick_comes a).switch } in
            subst AsksForJoins (one_site stepped now (sym (switch_here (put_away u) here link.site link.found tick_comes) ∙ found)) (record {
              known = ticks_known (setups_of link.site.controller) link.site.controller.desk.rows a s.known;
              none_waits = s.none_waits;
              joins = s.joins;
              used = s.used;
            })

    tick_all : (event : Event) → tick_of_all w ≡ front ++ event ∷ rest → All (next topology u event)
    tick_all event e node now = by event (all_ticks w front rest event e) e
      where
        by : (x : Event) → IsTick x → tick_of_all w ≡ front ++ x ∷ rest → site_at (next topology u x) node ≡ Some now → AsksForJoins now
        by x (of_controller here) f = by_eq here.0 node.0
            (λ same d. subst (λ (k : NodeId). site_at (next topology u (Tick here)) k ≡ Some now → AsksForJoins now) (sym (same_node node here same)) (controller_own here f now))
            (λ apart d found. h node now (sym (controller_elsewhere (put_away u) node here ticks (λ a. (ticks_paces 0 a).node) apart) ∙ found))
        by x (of_switch here) f = by_eq here.0 node.0
            (λ same d. subst (λ (k : NodeId). site_at (next topology u (TickSwitch here)) k ≡ Some now → AsksForJoins now) (sym (same_node node here same)) (switch_own here f now))
            (λ apart d found. h node now (sym (switch_elsewhere (put_away u) node here tick_comes apart) ∙ found))

  module _ (ease : IsAtEase topology (world_at policy topology before)) where
    at_first : All w
    at_first node site found = record {
      known = steady.known;
      none_waits = steady.none_waits;
      joins = subst (Every (λ (s : Standing). IsJoin s.request)) (sym empty) tt;
      used = all_used site.controller empty steady.ties;
    }
      where
        steady : IsSteadyNode site
        steady = ease.steady node site found

        empty : site.controller.desk.standing ≡ []
        empty = sym (ap stands_in found) ∙ m.lasting.nothing_stands node (of_run whole policy topology before beat m b node site found).is_node.number

    pub all_ask : (front rest : List Event) → tick_of_all w ≡ front ++ rest → All (world_after topology w front)
    all_ask = along topology All (tick_of_all w) w at_first (λ front rest event e h. tick_all front rest h event e)
