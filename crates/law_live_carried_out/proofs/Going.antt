-- behind the ticks that begin a mirrored beat the network goes on: each tick is one at peace, so nodes stay mirrored

use Rattle.std.proofs.Common.{◌≡◌, ◌≢◌, ℕ, ◌≤◌, ◌<◌, ◌^◌, Bool, true, false, List, [], ◌∷◌, ◌++◌, append_assoc, append-nil, fold, map, Some, refl, sym, ◌∙◌, ap, subst, arith}
use Rattle.std.specs.Prelude.{◌&&◌}
use Rattle.world_model.specs.Words.{NodeId, Policy, Addr, State, is_estab, is_label_number, Request, PortRow, Desk, Label, labels_of, Linked, Topology, World, Site, site_at, put_away, next, tick_of_all, world_after, IsNode, past_of}
use Rattle.world_model.specs.Ticks.{ticks}
use Rattle.world_model.specs.port_model.Desk.{asked}
use Rattle.world_model.specs.network_model.declared.link.LinkEnd.{LinkEnd}
use Rattle.world_model.specs.network_model.declared.event.Event.{Event}
use Rattle.world_model.specs.network_model.declared.event.Event.TheVariants.{Carry, Tick}
use Rattle.live_model.specs.Beats.{Beat}
use Rattle.law_live_joining_beats.specs.law_port_facts.ordered_lists.Ordered.{Every}
use Rattle.law_live_joining_beats.proofs.law_port_facts.ordered_lists.Every.{every_map}
use Rattle.law_live_joining_beats.specs.law_port_facts.Port.{IsLabel, IsPort}
use Rattle.law_live_joining_beats.proofs.law_passing.Controllers.{ticks_adds}
use Rattle.law_live_joining_beats.specs.law_run_facts.Nodes.{IsNodeOfRun}
use Rattle.law_live_joining_beats.specs.law_run_facts.law_world_views.Between.{setups_of, IsWorld}
use Rattle.law_live_joining_beats.proofs.law_run_facts.Nodes.{runs_have_nodes}
use Rattle.law_live_joining_beats.specs.law_true_runs.Runs.{HoldsInRuns, IsWhole}
use Rattle.law_live_joining_beats.proofs.law_true_runs.Walk.{holds_at}
use Rattle.law_live_joining_beats.specs.law_live_nodes.Law.{IsNodeAtPeace}
use Rattle.law_live_joining_beats.specs.law_live_saying.Law.{ticking}
use Rattle.law_live_joining_beats.specs.law_live_hearing.Law.{world_at}
use Rattle.law_live_joining_beats.specs.law_live_orders.Messages.{AreComing}
use Rattle.law_live_joining_beats.specs.law_live_control_links.Law.{IsCalmLink}
use Rattle.law_live_joining_beats.proofs.law_live_control_links.Sites.{controller_here}
use Rattle.law_live_joining_beats.proofs.law_live_calm_nodes.Events.{Facts, run_behind, done, behind_is}
use Rattle.law_live_joining_beats.proofs.law_live_calm_nodes.Links.{LinkGoes}
use Rattle.law_live_joining_beats.proofs.law_live_calm_nodes.Ticks.{IsTick, of_controller, of_switch, all_ticks, site_waits}
use Rattle.law_live_joining_beats.specs.law_live_mirrors.Asking.{KeepsMirrors}
use Rattle.law_live_mirrored_ticks.specs.Law.{MayTick}
use Rattle.law_live_mirrored_ticks.proofs.Ticking.{ticks_keep}
use Rattle.law_live_joining_beats.specs.law_live_mirrored_worlds.Law.{GoesOn, IsCalmEvent, CarriesOut}
use Rattle.law_live_joining_beats.specs.law_live_mirrored_worlds.Ticks.{IsWritten, IsPeacefulTick}
use Rattle.law_live_joining_beats.proofs.law_live_mirrored_worlds.Events.{same_node}
use Rattle.law_live_joining_beats.proofs.law_live_mirrored_worlds.Ticks.{ticks_ask}
use Rattle.law_live_joining_beats.proofs.law_live_mirrored_worlds.Stretches.{stretches_carry_out}
use Rattle.law_live_joining_beats.specs.law_live_asking.Going.{IsLinkGoing, IsGoing}
use Rattle.law_live_carried_out.specs.Law.{IsSteadyNode, IsMirroredPeace, IsMirroredBeat, TicksGoOn}
use Rattle.law_live_carried_out.proofs.Joins.{joins_are_written}
use Rattle.law_live_carried_out.proofs.Ticks.{peace_of, is_now, begun, inside_run, facts_in, unspent, in_ticks, tick_unlost, controller_listens, switch_listens, ticks_met, calm, ticks_none, link_goes}

one_site : (a b : Site) → Some a ≡ Some b → a ≡ b
one_site a b e = cc

-- the rows that a controller has of its switch stay as it asks
rows_stay : (requests : List Request) (desk : Desk) → (fold asked desk requests).rows ≡ desk.rows
rows_stay [] desk = refl
rows_stay (request ∷ requests) desk = rows_stay requests (asked desk request)

-- the first of two tests
first_of : (p q : Bool) → (p && q) ≡ true → p ≡ true
first_of true q e = refl
first_of false q e = absurd (cc e)

-- *A link that goes on*, in the words of the network
from_goes : (topology : Topology) (w : World) (one far : LinkEnd) → LinkGoes topology w one far → IsLinkGoing topology w one far
from_goes topology w one far l = record {
  said = l.stands.said;
  far_said = l.stands.far_said;
  agree = l.stands.agree;
  coming_there = subst (λ (address : Addr). AreComing address w one far l.stands.said) (sym l.stands.own) l.stands.there;
  coming_back = subst (λ (address : Addr). AreComing address w far one l.stands.far_said) (sym l.stands.far_own) l.stands.back;
  written = l.stands.written;
  far_written = l.stands.far_written;
  low = subst (λ (address : Addr). address.0 < 2 ^ 32) (sym l.stands.own) l.low;
  far_low = subst (λ (address : Addr). address.0 < 2 ^ 32) (sym l.stands.far_own) l.far_low;
  there = l.there;
  back = l.back;
}

module _ (whole : HoldsInRuns IsWhole) (policy : Policy) (topology : Topology) (before : List Event) (beat : Beat)
    (m : IsMirroredPeace topology (world_at policy topology before)) (b : IsMirroredBeat policy topology before beat) where
  abbrev w : World
  w = world_at policy topology before

  abbrev all : List Event
  all = tick_of_all w ++ map Carry beat.carries

  -- *Each tick of a controller* is one at peace
  module _ (front rest : List Event) (here : NodeId) (e : tick_of_all w ≡ front ++ Tick here ∷ rest) (site : Site)
      (found : site_at (world_after topology w front) here ≡ Some site) where
    abbrev v : World
    v = world_after topology w front

    abbrev later : List Event
    later = rest ++ map Carry beat.carries

    at : all ≡ front ++ Tick here ∷ later
    at = in_ticks whole policy topology before beat m b front rest (Tick here) e

    found_before : site_at w here ≡ Some site
    found_before = sym (site_waits topology w front rest here m.lasting.peace.shaped e) ∙ found

    inside : IsNode topology here
    inside = inside_run whole policy topology before beat m b here site found_before

    n : IsNodeOfRun policy (past_of policy topology before) here site
    n = runs_have_nodes policy topology before b.addresses (begun whole policy topology before beat m b) here site found_before

    peace : IsNodeAtPeace (ticking w site)
    peace = peace_of w here site found_before (calm whole policy topology before beat m b here inside)

    numbers_of : (linked : Linked) → IsPort (setups_of site.controller) linked.setup linked.port → Every (λ (label : Label). is_label_number label.number ≡ true) (labels_of linked.port)
    numbers_of linked port = every_map (IsLabel (setups_of site.controller) linked.setup) (λ (label : Label). is_label_number label.number ≡ true) (labels_of linked.port)
        (λ label is. first_of (is_label_number label.number) _ is.in_range) port.labels

    not_zero : (k : ℕ) → 1 ≤ k → k ≢ 0
    not_zero k some zero = omega (arith, some, zero)

    may : MayTick (ticking v site)
    may = record {
      peace = record { up = peace.up; heard = peace.heard; nothing_asked = peace.nothing_asked; ports = peace.ports; ports_apart = peace.ports_apart };
      links = every_map (λ (linked : Linked). 1 ≤ linked.setup.port.0) (λ (linked : Linked). linked.setup.port.0 ≢ 0) site.controller.ports (λ linked some. not_zero linked.setup.port.0 some)
          (((facts_in whole policy topology before beat m b front later (Tick here) at).steady here).0.links site found).ports;
      labels = every_map (λ (linked : Linked). IsPort (setups_of site.controller) linked.setup linked.port)
          (λ (linked : Linked). Every (λ (label : Label). is_label_number label.number ≡ true) (labels_of linked.port)) site.controller.ports numbers_of n.conduct.sound.ports.each;
      joins = (b.room here site found_before).may_join;
    }

    -- behind it
    abbrev ticked : Site
    ticked = record site { controller = (ticks (ticking v site)).controller }

    there : site_at (next topology v (Tick here)) here ≡ Some ticked
    there = controller_here (put_away v) here site found ticks (λ a. (ticks_adds a).node)

    behind : world_after topology w (front ++ Tick here ∷ []) ≡ next topology v (Tick here)
    behind = behind_is whole policy topology before all b.run b.addresses b.tame front later (Tick here) at

    done_is : all ≡ (front ++ Tick here ∷ []) ++ later
    done_is = done whole policy topology before all b.run b.addresses b.tame front later (Tick here) at

    met : IsCalmLink (next topology v (Tick here)) here
    met = subst (λ (x : World). IsCalmLink x here) behind
        (ticks_met whole policy topology before beat m b (front ++ Tick here ∷ []) rest (e ∙ sym (append_assoc front (Tick here ∷ []) rest)) here inside)

    up : is_estab ticked.controller.adjacency.state ≡ true
    up = ap (λ (s : Site). is_estab s.controller.adjacency.state) (one_site ticked met.site (sym there ∙ met.found)) ∙ ap (λ (s : State). is_estab s) met.calm.met.one_is_up

    there_then : site_at (world_at policy topology (before ++ (front ++ Tick here ∷ []))) here ≡ Some ticked
    there_then = ap (λ (x : World). site_at x here) (is_now whole policy topology before beat m b (front ++ Tick here ∷ []) ∙ behind) ∙ there

    world : IsWorld (past_of policy topology (before ++ (front ++ Tick here ∷ [])))
    world = (holds_at policy topology b.addresses IsWhole whole (before ++ all) (before ++ (front ++ Tick here ∷ [])) later b.run b.tame
        (ap (λ (es : List Event). before ++ es) done_is ∙ sym (append_assoc before (front ++ Tick here ∷ []) later))).world

    steady : IsSteadyNode (next topology v (Tick here)) ticked
    steady = subst (λ (x : World). (node : NodeId) (s : Site) → site_at x node ≡ Some s → IsSteadyNode x s) behind (b.steady (front ++ Tick here ∷ []) later done_is) here ticked there

    rows : ticked.controller.desk.rows ≡ site.controller.desk.rows
    rows = by (ticks_keep (ticking v site) may)
      where
        by : KeepsMirrors (ticking (world_after topology (world_at policy topology before) front) site) (ticks (ticking (world_after topology (world_at policy topology before) front) site))
            → (ticks (ticking (world_after topology (world_at policy topology before) front) site)).controller.desk.rows ≡ site.controller.desk.rows
        by k = ap (λ (desk : Desk). desk.rows) k.asks.desk ∙ rows_stay k.requests site.controller.desk

    written : Every (IsWritten site.switch site.controller.desk.rows) ticked.controller.desk.standing
    written = subst (λ (r : List PortRow). Every (IsWritten site.switch r) ticked.controller.desk.standing) rows
        (joins_are_written policy topology (before ++ (front ++ Tick here ∷ [])) b.addresses
        (run_behind whole policy topology before all b.run b.addresses b.tame front later (Tick here) at) world here ticked there_then steady.known steady.joins.joins)

    peaceful : IsPeacefulTick topology v here site
    peaceful = record { may = may; up = up; unlost = tick_unlost whole policy topology before beat m b front rest (Tick here) e; written = written }

  -- *So nodes stay mirrored* through the ticks
  module _ (node : NodeId) (inside : IsNode topology node) where
    tick_event : (front rest : List Event) (event : Event) → tick_of_all w ≡ front ++ event ∷ rest → IsCalmEvent topology (world_after topology w front) node event
    tick_event front rest event e =
        let at : all ≡ front ++ event ∷ (rest ++ map Carry beat.carries) = in_ticks whole policy topology before beat m b front rest event e in
        let f : Facts topology (world_after topology w front) event = facts_in whole policy topology before beat m b front (rest ++ map Carry beat.carries) event at in
        record {
          steady = (f.steady node).0;
          true_event = (f.steady node).1;
          unspent = unspent whole policy topology before beat m b front (rest ++ map Carry beat.carries) event at node;
          goes_on = by event (all_ticks w front rest event e) e;
        }
      where
        v : World
        v = world_after topology w front

        by : (x : Event) → IsTick x → tick_of_all w ≡ front ++ x ∷ rest → GoesOn topology v node x
        by x (of_controller here) g = (
          controller_listens whole policy topology before beat m b front rest here g,
          λ same. (let met : IsCalmLink v node = ticks_met whole policy topology before beat m b front (Tick here ∷ rest) g node inside in
              let found : site_at v here ≡ Some met.site = ap (λ (k : NodeId). site_at v k) (sym (same_node node here same)) ∙ met.found in
              ticks_ask topology v here met.site found (peaceful front rest here g met.site found)),
        )
        by x (of_switch here) g = switch_listens whole policy topology before beat m b front rest here g

    pub mirrored_in_ticks : (front rest : List Event) → tick_of_all w ≡ front ++ rest → CarriesOut (world_after topology w front) node
    mirrored_in_ticks = stretches_carry_out topology w node (tick_of_all w) (record { calm = m.lasting.peace.met node inside; mirrored = m.mirrored node inside }) tick_event

  pub going : IsGoing topology (world_after topology w (tick_of_all w))
  going = record {
    nodes = λ node inside. (mirrored_in_ticks node inside (tick_of_all w) [] (sym (append-nil (tick_of_all w)))).stays;
    links = λ one far linked. from_goes topology (world_after topology w (tick_of_all w)) one far (link_goes whole policy topology before beat m b one far linked);
    none = ticks_none whole policy topology before beat m b (tick_of_all w) [] (sym (append-nil (tick_of_all w)));
  }

pub ticks_go_on : HoldsInRuns IsWhole → TicksGoOn
ticks_go_on whole policy topology before beat m b = going whole policy topology before beat m b
