-- through the carries of a beat of peace each link goes on: its ends agree, with what is on its way between them

use Rattle.std.proofs.Common.{◌≡◌, ◌<◌, ◌^◌, List, [], ◌∷◌, ◌++◌, append_assoc, append-nil, map, Some, sym, ◌∙◌, ap, subst}
use Rattle.world_model.specs.Words.{NodeId, Policy, Place, Topology, World, Site, site_at, next, tick_of_all, world_after, IsNode, IsTopology, IsRun}
use Rattle.world_model.specs.Topology.{peer_of}
use Rattle.world_model.specs.network_model.declared.link.LinkEnd.{LinkEnd}
use Rattle.world_model.specs.network_model.declared.event.Event.{Event}
use Rattle.world_model.specs.network_model.declared.event.Event.TheVariants.{Carry}
use Rattle.live_model.specs.Beats.{Beat, settling}
use Rattle.law_live_brought.proofs.law_causes.Shown.{IsPeer, peer_back}
use Rattle.law_live_brought.proofs.law_run_facts.Steps.{front_run}
use Rattle.law_live_brought.specs.law_true_runs.Runs.{HoldsInRuns, IsWhole}
use Rattle.law_live_brought.specs.law_live_nodes.Law.{IsNodeAtPeace, messages_of}
use Rattle.law_live_brought.specs.law_live_saying.Law.{ticking}
use Rattle.law_live_brought.specs.law_live_rests.Law.{address_at}
use Rattle.law_live_brought.specs.law_live_worlds.Law.{AgreeIn, IsCalm}
use Rattle.law_live_brought.proofs.law_live_worlds.Ticking.{ticks_of_all_keep_agreement}
use Rattle.law_live_brought.specs.law_live_hearing.Law.{world_at}
use Rattle.law_live_brought.specs.law_live_orders.Law.{coming, IsOpenWay}
use Rattle.law_live_brought.specs.law_live_orders.Slots.{IsUnlost}
use Rattle.law_live_brought.specs.law_live_going.Beats.{AreCalmTicks}
use Rattle.law_live_brought.proofs.law_live_going.Ticks.{ticks_say_all}
use Rattle.law_live_brought.specs.law_live_ways.Links.{ComesNone}
use Rattle.law_live_brought.proofs.law_live_ways.Ways.{ticks_keep_ways}
use Rattle.law_live_brought.proofs.law_live_peace.Carries.{all_stay}
use Rattle.law_live_brought.proofs.law_live_peace.Runs.{low, keeps_address, none_coming}
use Rattle.law_live_brought.specs.law_live_calm_nodes.Nodes.{LosesNothing}
use Rattle.law_live_brought.specs.law_live_calm_nodes.Networks.{IsCarryOfPeace, IsNetworkInPeace, IsLinkInPeace, IsBeatOfPeace}
use Rattle.law_live_brought.proofs.law_live_calm_nodes.Events.{Facts}
use Rattle.law_live_brought.proofs.law_live_calm_nodes.Parts.{along}
use Rattle.law_live_brought.proofs.law_live_calm_nodes.Ticks.{IsTick, of_controller, of_switch, all_ticks}
use Rattle.law_live_brought.proofs.law_live_calm_nodes.Links.{LinkGoes, address_is, goes_on}
use Rattle.law_live_brought.proofs.law_live_calm_nodes.Control.{IsCarry, carries, is_carry, is, is_now, begun, within, comes_in, world_in, facts_in, in_ticks, in_carries, carried_is, CarryFacts, carry_facts, port_may, calm}
use Rattle.law_live_brought.proofs.law_live_calm_nodes.Networks.{stays_up}

one_site : (a b : Site) → Some a ≡ Some b → a ≡ b
one_site a b e = cc

-- a node that is calm is at peace as it ticks
pub peace_of : (v : World) (node : NodeId) (site : Site) → site_at v node ≡ Some site → IsCalm v node → IsNodeAtPeace (ticking v site)
peace_of v node site found is = subst (λ (s : Site). IsNodeAtPeace (ticking v s)) (one_site is.site site (sym is.there ∙ found))
    (record { up = is.peace.up; heard = is.peace.heard; nothing_asked = is.peace.nothing_asked; ports = is.peace.ports; ports_apart = is.peace.ports_apart })

module _ (whole : HoldsInRuns IsWhole) (policy : Policy) (topology : Topology) (before : List Event) (beat : Beat)
    (p : IsNetworkInPeace topology (world_at policy topology before)) (b : IsBeatOfPeace policy topology before beat) where
  abbrev w : World
  w = world_at policy topology before

  abbrev u : World
  u = world_after topology w (tick_of_all w)

  topology_is : IsTopology topology
  topology_is = is whole policy topology before beat p b

  -- *Behind the ticks* what both ports said is on its way
  module _ (one far : LinkEnd) (linked : peer_of topology one.node one.port ≡ Some far) where
    peer : IsPeer topology one far
    peer = peer_back topology topology_is one far linked

    abbrev here : IsLinkInPeace topology w one far
    here = p.links one far linked

    abbrev agree : AgreeIn w one far [] []
    agree = here.agree

    tick_unlost : (front rest : List Event) (event : Event) → tick_of_all w ≡ front ++ event ∷ rest
        → (next topology (world_after topology w front) event).notes.entries ≡ (world_after topology w front).notes.entries
    tick_unlost front rest event e = by event (all_ticks w front rest event e) (b.unlost front (rest ++ map Carry beat.carries) event (in_ticks whole policy topology before beat p b front rest event e))
      where
        by : (x : Event) → IsTick x → LosesNothing topology (world_after topology w front) x → (next topology (world_after topology w front) x).notes.entries ≡ (world_after topology w front).notes.entries
        by x (of_controller node) same = same
        by x (of_switch node) same = same

    ticks_calm : (x y : LinkEnd) → IsOpenWay topology w x y → AreCalmTicks topology w x y (tick_of_all w)
    ticks_calm x y way front rest event e =
        let v : World = world_after topology w front in
        let f : Facts topology v event = facts_in whole policy topology before beat p b front (rest ++ map Carry beat.carries) event (in_ticks whole policy topology before beat p b front rest event e) in
        record {
          is_open = ticks_keep_ways topology w x y front (event ∷ rest) topology_is way e;
          unlost = tick_unlost front rest event e;
          stays = all_stay v.notes.frames (next topology v event).notes.frames (coming v x y) (f.steady x.node).1.stays;
        }

    open_behind : (x y : LinkEnd) → IsOpenWay topology w x y → IsOpenWay topology u x y
    open_behind x y way = ticks_keep_ways topology w x y (tick_of_all w) [] topology_is way (sym (append-nil (tick_of_all w)))

    ticked_run : IsRun policy topology (before ++ tick_of_all w)
    ticked_run = front_run policy topology (before ++ tick_of_all w) (map Carry beat.carries)
        (subst (IsRun policy topology) (sym (append_assoc before (tick_of_all w) (map Carry beat.carries))) b.run)

    goes_at : (node : NodeId) → IsNode topology node → (site : Site) → site_at w node ≡ Some site → (now : Site) → site_at u node ≡ Some now → now.controller.address ≡ site.controller.address
    goes_at node inside site found now there = sym (address_is u node now there)
        ∙ (ap (λ (v : World). address_at v node) (sym (is_now whole policy topology before beat p b (tick_of_all w)))
        ∙ keeps_address policy topology b.addresses before (before ++ tick_of_all w) (begun whole policy topology before beat p b) ticked_run node inside site found)

    address_low : (node : NodeId) (site : Site) → site_at w node ≡ Some site → site.controller.address.0 < 2 ^ 32
    address_low node site found = low policy topology b.addresses before (begun whole policy topology before beat p b) node site found

    near : IsNode topology one.node
    near = within whole policy topology before beat p b one far linked

    start : LinkGoes topology u one far
    start =
        let calm_near : IsCalm w one.node = calm whole policy topology before beat p b one.node near in
        let calm_far : IsCalm w far.node = calm whole policy topology before beat p b far.node peer.node in
        let way_back : IsOpenWay topology w far one = (p.links far one peer.back).is_open in
        let now : AgreeIn u one far (messages_of agree.linked) (messages_of agree.far_linked) = ticks_of_all_keep_agreement topology w one far p.shaped calm_near calm_far agree in
        record {
          address = agree.shows.site.controller.address;
          far_address = agree.far_shows.site.controller.address;
          low = address_low one.node agree.shows.site agree.shows.there;
          far_low = address_low far.node agree.far_shows.site agree.far_shows.there;
          stands = record {
            said = messages_of agree.linked;
            far_said = messages_of agree.far_linked;
            agree = now;
            there = ticks_say_all topology w one far agree.shows.site agree.linked topology_is p.shaped agree.shows.there (peace_of w one.node agree.shows.site agree.shows.there calm_near) agree.shows.of_port
                (none_coming policy topology before topology_is one far linked p.empty) (ticks_calm one far here.is_open);
            back = ticks_say_all topology w far one agree.far_shows.site agree.far_linked topology_is p.shaped agree.far_shows.there (peace_of w far.node agree.far_shows.site agree.far_shows.there calm_far) agree.far_shows.of_port
                (none_coming policy topology before topology_is far one peer.back p.empty) (ticks_calm far one way_back);
            written = (port_may whole policy topology before beat p b one agree.linked agree.shows).1;
            far_written = (port_may whole policy topology before beat p b far agree.far_linked agree.far_shows).1;
            own = goes_at one.node near agree.shows.site agree.shows.there now.shows.site now.shows.there;
            far_own = goes_at far.node peer.node agree.far_shows.site agree.far_shows.there now.far_shows.site now.far_shows.there;
          };
          there = open_behind one far here.is_open;
          back = open_behind far one way_back;
        }

  -- *From carry to carry*
  abbrev pub AllGo : World → Type 0
  AllGo v = (one far : LinkEnd) → peer_of topology one.node one.port ≡ Some far → LinkGoes topology v one far

  module _ (front rest : List Event) (place : Place) (e : map Carry beat.carries ≡ front ++ Carry place ∷ rest) where
    abbrev v : World
    v = world_after topology u front

    abbrev done : List Event
    done = tick_of_all w ++ front

    at : settling w beat ≡ done ++ Carry place ∷ rest
    at = in_carries whole policy topology before beat p b front rest (Carry place) e

    v_is : world_at policy topology (before ++ done) ≡ v
    v_is = is_now whole policy topology before beat p b done ∙ carried_is whole policy topology before beat p b front

    none_at : (one far : LinkEnd) → peer_of topology one.node one.port ≡ Some far → ComesNone v one.node
    none_at one far linked = subst (λ (x : World). ComesNone x one.node) (carried_is whole policy topology before beat p b front)
        ((stays_up whole policy topology before beat p b done (Carry place ∷ rest) at).none one far linked)

    links_on : AllGo v → AllGo (next topology v (Carry place))
    links_on g one far linked = subst (λ (y : World). LinkGoes topology y one far → IsUnlost topology y place → IsCarryOfPeace topology y place → ComesNone y one.node → ComesNone y far.node
        → LinkGoes topology (next topology y (Carry place)) one far) v_is
        (goes_on policy topology (before ++ done) place (comes_in whole policy topology before beat p b done rest (Carry place) at) (world_in whole policy topology before beat p b done rest (Carry place) at) one far linked)
        (g one far linked) its.unlost its.comes (none_at one far linked) (none_at far one (peer_back topology topology_is one far linked).back)
      where
        its : CarryFacts whole policy topology before beat p b v (Carry place)
        its = carry_facts whole policy topology before beat p b front rest (Carry place) e

  step : (front rest : List Event) (event : Event) → map Carry beat.carries ≡ front ++ event ∷ rest → AllGo (world_after topology u front) → AllGo (next topology (world_after topology u front) event)
  step front rest event e = by event (is_carry beat.carries front rest event e) e
    where
      by : (x : Event) → IsCarry x → map Carry beat.carries ≡ front ++ x ∷ rest → AllGo (world_after topology u front) → AllGo (next topology (world_after topology u front) x)
      by x (carries place) f = links_on front rest place f

  pub links_go : (front rest : List Event) → map Carry beat.carries ≡ front ++ rest → AllGo (world_after topology u front)
  links_go = along topology AllGo (map Carry beat.carries) u start step
