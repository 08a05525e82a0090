-- a network in peace through a beat, and through beats one behind another

use Rattle.std.proofs.Common.{◌≡◌, ℕ, ◌<◌, ◌^◌, List, [], ◌∷◌, ◌++◌, append_assoc, append-nil, map, Some, sym, ◌∙◌, ap, subst, arith}
use Rattle.std.proofs.lemmas.List.{map-append}
use Rattle.world_model.specs.Words.{NodeId, Policy, Place, Topology, World, Site, site_at, next, tick_of_all, world_after, is_empty, IsNode, IsTopology, IsRun}
use Rattle.world_model.specs.adjacency_table.Table.{silence_limit}
use Rattle.world_model.specs.Topology.{peer_of}
use Rattle.world_model.specs.ifmp_wire.declared.message.Message.{Message}
use Rattle.world_model.specs.network_model.declared.link.LinkEnd.{LinkEnd}
use Rattle.world_model.specs.network_model.declared.event.Event.{Event}
use Rattle.world_model.specs.network_model.declared.event.Event.TheVariants.{Carry}
use Rattle.live_model.specs.Beats.{Beat, settling, settled}
use Rattle.law_live_peace.proofs.law_causes.Shown.{IsPeer, peer_back}
use Rattle.law_live_peace.proofs.law_run_facts.Nodes.{runs_have_nodes}
use Rattle.law_live_peace.proofs.law_run_facts.Steps.{front_run}
use Rattle.law_live_peace.specs.law_true_runs.Runs.{HoldsInRuns, IsWhole}
use Rattle.law_live_peace.specs.law_live_nodes.Law.{IsNodeAtPeace, messages_of}
use Rattle.law_live_peace.specs.law_live_saying.Law.{ticking}
use Rattle.law_live_peace.specs.law_live_rests.Law.{address_at}
use Rattle.law_live_peace.specs.law_live_worlds.Law.{AgreeIn, IsCalm}
use Rattle.law_live_peace.proofs.law_live_worlds.Ticking.{ticks_of_all_keep_agreement}
use Rattle.law_live_peace.specs.law_live_hearing.Law.{world_at}
use Rattle.law_live_peace.specs.law_live_orders.Law.{coming, IsOpenWay}
use Rattle.law_live_peace.specs.law_live_orders.Slots.{IsUnlost}
use Rattle.law_live_peace.specs.law_live_going.Beats.{AreCalmTicks}
use Rattle.law_live_peace.proofs.law_live_going.Ticks.{ticks_say_all}
use Rattle.law_live_peace.specs.law_live_control_links.Law.{IsCalmLink, ControllerListens}
use Rattle.law_live_peace.specs.law_live_ways.Links.{ComesNone, StandsNoneAt}
use Rattle.law_live_peace.proofs.law_live_ways.Ways.{ticks_keep_ways}
use Rattle.law_live_peace.proofs.law_live_ways.Links.{none_comes_still}
use Rattle.law_live_peace.specs.Beats.{IsPeacefulCarry, carried, IsBeatInPeace}
use Rattle.law_live_peace.proofs.Carries.{all_stay}
use Rattle.law_live_peace.proofs.Runs.{low, keeps_address, none_coming}
use Rattle.law_live_peace.proofs.Going.{Stands}
use Rattle.law_live_calm_nodes.specs.Ports.{IsPortUp}
use Rattle.law_live_calm_nodes.specs.Nodes.{Throughout, LosesNothing, IsNodeInBeat}
use Rattle.law_live_calm_nodes.specs.Networks.{IsCarryOfPeace, IsNetworkInPeace, IsLinkInPeace, IsBeatOfPeace, StaysUp, NetworksStayUp, NetworksRestInPeace, BeatsOfPeaceAreInPeace, PeaceLasts}
use Rattle.law_live_calm_nodes.proofs.Events.{Facts}
use Rattle.law_live_calm_nodes.proofs.Parts.{along}
use Rattle.law_live_calm_nodes.proofs.Ports.{agreed_ports_are_up}
use Rattle.law_live_calm_nodes.proofs.Nodes.{nodes_hear_their_switches}
use Rattle.law_live_calm_nodes.proofs.Ticks.{IsTick, of_controller, of_switch, all_ticks}
use Rattle.law_live_calm_nodes.proofs.Links.{LinkGoes, address_is, none_said, goes_on}
use Rattle.law_live_calm_nodes.proofs.Control.{IsCarry, carries, is_carry, is, is_now, begun, within, comes_in, world_in, facts_in, stands_none, in_ticks, in_carries, carried_is, CarryFacts, carry_facts, throughout, ticks_met, carries_met, shaped, port_may, calm, ticks_up, ticks_none}

one_site : (a b : Site) → Some a ≡ Some b → a ≡ b
one_site a b e = cc

-- a node that is calm is at peace as it ticks
pub peace_of : (v : World) (node : NodeId) (site : Site) → site_at v node ≡ Some site → IsCalm v node → IsNodeAtPeace (ticking v site)
peace_of v node site found is = subst (λ (s : Site). IsNodeAtPeace (ticking v s)) (one_site is.site site (sym is.there ∙ found))
    (record { up = is.peace.up; heard = is.peace.heard; nothing_asked = is.peace.nothing_asked; ports = is.peace.ports; ports_apart = is.peace.ports_apart })

module _ (whole : HoldsInRuns IsWhole) (policy : Policy) (topology : Topology) (before : List Event) (beat : Beat)
    (p : IsNetworkInPeace topology (world_at policy topology before)) (b : IsBeatOfPeace policy topology before beat) where
  abbrev w : World
  w = world_at policy topology before

  abbrev u : World
  u = world_after topology w (tick_of_all w)

  topology_is : IsTopology topology
  topology_is = is whole policy topology before beat p b

  -- *Behind the ticks* each link goes on: what both ports said is on its way
  module _ (one far : LinkEnd) (linked : peer_of topology one.node one.port ≡ Some far) where
    peer : IsPeer topology one far
    peer = peer_back topology topology_is one far linked

    abbrev here : IsLinkInPeace topology w one far
    here = p.links one far linked

    abbrev agree : AgreeIn w one far [] []
    agree = here.agree

    -- one way
    tick_unlost : (front rest : List Event) (event : Event) → tick_of_all w ≡ front ++ event ∷ rest
        → (next topology (world_after topology w front) event).notes.entries ≡ (world_after topology w front).notes.entries
    tick_unlost front rest event e = by event (all_ticks w front rest event e) (b.unlost front (rest ++ map Carry beat.carries) event (in_ticks whole policy topology before beat p b front rest event e))
      where
        by : (x : Event) → IsTick x → LosesNothing topology (world_after topology w front) x → (next topology (world_after topology w front) x).notes.entries ≡ (world_after topology w front).notes.entries
        by x (of_controller node) same = same
        by x (of_switch node) same = same

    ticks_calm : (x y : LinkEnd) → IsOpenWay topology w x y → AreCalmTicks topology w x y (tick_of_all w)
    ticks_calm x y way front rest event e =
        let v : World = world_after topology w front in
        let f : Facts topology v event = facts_in whole policy topology before beat p b front (rest ++ map Carry beat.carries) event (in_ticks whole policy topology before beat p b front rest event e) in
        record {
          is_open = ticks_keep_ways topology w x y front (event ∷ rest) topology_is way e;
          unlost = tick_unlost front rest event e;
          stays = all_stay v.notes.frames (next topology v event).notes.frames (coming v x y) (f.steady x.node).1.stays;
        }

    open_behind : (x y : LinkEnd) → IsOpenWay topology w x y → IsOpenWay topology u x y
    open_behind x y way = ticks_keep_ways topology w x y (tick_of_all w) [] topology_is way (sym (append-nil (tick_of_all w)))

    -- each node goes by its address
    ticked_run : IsRun policy topology (before ++ tick_of_all w)
    ticked_run = front_run policy topology (before ++ tick_of_all w) (map Carry beat.carries)
        (subst (IsRun policy topology) (sym (append_assoc before (tick_of_all w) (map Carry beat.carries))) b.run)

    goes_at : (node : NodeId) → IsNode topology node → (site : Site) → site_at w node ≡ Some site → (now : Site) → site_at u node ≡ Some now → now.controller.address ≡ site.controller.address
    goes_at node inside site found now there = sym (address_is u node now there)
        ∙ (ap (λ (v : World). address_at v node) (sym (is_now whole policy topology before beat p b (tick_of_all w)))
        ∙ keeps_address policy topology b.addresses before (before ++ tick_of_all w) (begun whole policy topology before beat p b) ticked_run node inside site found)

    address_low : (node : NodeId) (site : Site) → site_at w node ≡ Some site → site.controller.address.0 < 2 ^ 32
    address_low node site found = low policy topology b.addresses before (begun whole policy topology before beat p b) node site found

    near : IsNode topology one.node
    near = within whole policy topology before beat p b one far linked

    start : LinkGoes topology u one far
    start =
        let calm_near : IsCalm w one.node = calm whole policy topology before beat p b one.node near in
        let calm_far : IsCalm w far.node = calm whole policy topology before beat p b far.node peer.node in
        let way_back : IsOpenWay topology w far one = (p.links far one peer.back).is_open in
        let now : AgreeIn u one far (messages_of agree.linked) (messages_of agree.far_linked) = ticks_of_all_keep_agreement topology w one far p.shaped calm_near calm_far agree in
        record {
          address = agree.shows.site.controller.address;
          far_address = agree.far_shows.site.controller.address;
          low = address_low one.node agree.shows.site agree.shows.there;
          far_low = address_low far.node agree.far_shows.site agree.far_shows.there;
          stands = record {
            said = messages_of agree.linked;
            far_said = messages_of agree.far_linked;
            agree = now;
            there = ticks_say_all topology w one far agree.shows.site agree.linked topology_is p.shaped agree.shows.there (peace_of w one.node agree.shows.site agree.shows.there calm_near) agree.shows.of_port
                (none_coming policy topology before topology_is one far linked p.empty) (ticks_calm one far here.is_open);
            back = ticks_say_all topology w far one agree.far_shows.site agree.far_linked topology_is p.shaped agree.far_shows.there (peace_of w far.node agree.far_shows.site agree.far_shows.there calm_far) agree.far_shows.of_port
                (none_coming policy topology before topology_is far one peer.back p.empty) (ticks_calm far one way_back);
            written = (port_may whole policy topology before beat p b one agree.linked agree.shows).1;
            far_written = (port_may whole policy topology before beat p b far agree.far_linked agree.far_shows).1;
            own = goes_at one.node near agree.shows.site agree.shows.there now.shows.site now.shows.there;
            far_own = goes_at far.node peer.node agree.far_shows.site agree.far_shows.there now.far_shows.site now.far_shows.there;
          };
          there = open_behind one far here.is_open;
          back = open_behind far one way_back;
        }

  -- *From carry to carry*
  record Goes (v : World) : Type 0 where
    links : (one far : LinkEnd) → peer_of topology one.node one.port ≡ Some far → LinkGoes topology v one far
    none : (one far : LinkEnd) → peer_of topology one.node one.port ≡ Some far → ComesNone v one.node

  ups : (v : World) → ((one far : LinkEnd) → peer_of topology one.node one.port ≡ Some far → LinkGoes topology v one far) → (one far : LinkEnd) → peer_of topology one.node one.port ≡ Some far → IsPortUp v one
  ups v links one far linked = (let s : Stands (links one far linked).address (links one far linked).far_address v one far = (links one far linked).stands in agreed_ports_are_up v one far s.said s.far_said s.agree)

  starts : Goes u
  starts = record { links = start; none = ticks_none whole policy topology before beat p b (tick_of_all w) [] (sym (append-nil (tick_of_all w))) }

  module _ (front rest : List Event) (place : Place) (e : map Carry beat.carries ≡ front ++ Carry place ∷ rest) where
    abbrev v : World
    v = world_after topology u front

    abbrev done : List Event
    done = tick_of_all w ++ front

    at : settling w beat ≡ done ++ Carry place ∷ rest
    at = in_carries whole policy topology before beat p b front rest (Carry place) e

    v_is : world_at policy topology (before ++ done) ≡ v
    v_is = is_now whole policy topology before beat p b done ∙ carried_is whole policy topology before beat p b front

    its : CarryFacts whole policy topology before beat p b v (Carry place)
    its = carry_facts whole policy topology before beat p b front rest (Carry place) e

    links_on : Goes v → (one far : LinkEnd) → peer_of topology one.node one.port ≡ Some far → LinkGoes topology (next topology v (Carry place)) one far
    links_on g one far linked = subst (λ (y : World). LinkGoes topology y one far → IsUnlost topology y place → IsCarryOfPeace topology y place → ComesNone y one.node → ComesNone y far.node
        → LinkGoes topology (next topology y (Carry place)) one far) v_is
        (goes_on policy topology (before ++ done) place (comes_in whole policy topology before beat p b done rest (Carry place) at) (world_in whole policy topology before beat p b done rest (Carry place) at) one far linked)
        (g.links one far linked) its.unlost its.comes (g.none one far linked) (g.none far one (peer_back topology topology_is one far linked).back)

    none_on : Goes v → (one far : LinkEnd) → peer_of topology one.node one.port ≡ Some far → ComesNone (next topology v (Carry place)) one.node
    none_on g one far linked = none_comes_still.carries topology v one.node place
        (carries_met whole policy topology before beat p b front (Carry place ∷ rest) e one.node (within whole policy topology before beat p b one far linked))
        (its.steady one.node).0 (its.steady one.node).1
        (subst (λ (y : World). ((x z : LinkEnd) → peer_of topology x.node x.port ≡ Some z → IsPortUp (next topology y (Carry place)) x) → StandsNoneAt (next topology y (Carry place)) one.node)
        (carried_is whole policy topology before beat p b front) (λ up. stands_none whole policy topology before beat p b done rest (Carry place) at up one far linked)
        (ups (next topology v (Carry place)) (links_on g)))
        (g.none one far linked)

    goes_behind : Goes v → Goes (next topology v (Carry place))
    goes_behind g = record { links = links_on g; none = none_on g }

  step : (front rest : List Event) (event : Event) → map Carry beat.carries ≡ front ++ event ∷ rest → Goes (world_after topology u front) → Goes (next topology (world_after topology u front) event)
  step front rest event e = by event (is_carry beat.carries front rest event e) e
    where
      by : (x : Event) → IsCarry x → map Carry beat.carries ≡ front ++ x ∷ rest → Goes (world_after topology u front) → Goes (next topology (world_after topology u front) x)
      by x (carries place) f = goes_behind front rest place f

  carries_go : (front rest : List Event) → map Carry beat.carries ≡ front ++ rest → Goes (world_after topology u front)
  carries_go = along topology Goes (map Carry beat.carries) u starts step

  -- *Throughout*
  met : Throughout topology w beat (λ v. (node : NodeId) → IsNode topology node → IsCalmLink v node)
  met = throughout whole policy topology before beat p b (λ v. (node : NodeId) → IsNode topology node → IsCalmLink v node)
      (ticks_met whole policy topology before beat p b) (carries_met whole policy topology before beat p b)

  pub stays_up : Throughout topology w beat (StaysUp topology)
  stays_up = throughout whole policy topology before beat p b (StaysUp topology)
      (λ front rest e. record { met = ticks_met whole policy topology before beat p b front rest e; up = ticks_up whole policy topology before beat p b front rest e; none = ticks_none whole policy topology before beat p b front rest e })
      (λ front rest e. (let g : Goes (world_after topology u front) = carries_go front rest e in
      record { met = carries_met whole policy topology before beat p b front rest e; up = ups (world_after topology u front) g.links; none = g.none }))

  -- *For each link* it is a beat in peace
  module _ (one far : LinkEnd) (linked : peer_of topology one.node one.port ≡ Some far) where
    peace_at : (front rest : List Place) (place : Place) → beat.carries ≡ front ++ place ∷ rest → IsPeacefulCarry topology (carried topology w front) one far place
    peace_at front rest place e =
        let at_it : map Carry beat.carries ≡ map Carry front ++ Carry place ∷ map Carry rest = ap (map Carry) e ∙ map-append Carry front (place ∷ rest) in
        let back : peer_of topology far.node far.port ≡ Some one = (peer_back topology topology_is one far linked).back in
        let comes_so : IsCarryOfPeace topology (carried topology w front) place = (its (map Carry front) (map Carry rest) place at_it).comes in
        let g : Goes (carried topology w front) = carries_go (map Carry front) (Carry place ∷ map Carry rest) at_it in
        record {
          unlost = (its (map Carry front) (map Carry rest) place at_it).unlost;
          others = comes_so.others one far linked;
          far_others = comes_so.others far one back;
          none = g.none one far linked;
          far_none = g.none far one back;
        }

    pub beat_in_peace : IsBeatInPeace policy topology before one far (p.links one far linked).agree beat
    beat_in_peace = record {
      run = b.run;
      addresses = b.addresses;
      tame = b.tame;
      rests = record {
        empty = p.empty;
        there = (here one far linked).is_open;
        back = (p.links far one (peer one far linked).back).is_open;
        near = calm whole policy topology before beat p b one.node (near one far linked);
        far_end = calm whole policy topology before beat p b far.node (peer one far linked).node;
        written = (port_may whole policy topology before beat p b one (agree one far linked).linked (agree one far linked).shows).1;
        far_written = (port_may whole policy topology before beat p b far (agree one far linked).far_linked (agree one far linked).far_shows).1;
      };
      ticks = tick_unlost one far linked;
      carries = peace_at;
      settles = b.settles;
    }

  -- *In the end*
  node_in_beat : (node : NodeId) → IsNode topology node → IsNodeInBeat policy topology before node beat
  node_in_beat node inside = record {
    run = b.run;
    addresses = b.addresses;
    tame = b.tame;
    shaped = p.shaped;
    within = inside;
    unlost = b.unlost;
    link = λ front rest e. met front rest e node inside;
    unspent = λ front rest e. b.unspent front rest e node;
    listens = λ site found. (b.may node site found).heard;
    settles = b.settles;
  }

  heard_behind : (node : NodeId) → ControllerListens (settled topology w beat) node
  heard_behind node site found =
      let inside : IsNode topology node =
      (runs_have_nodes policy topology (before ++ settling w beat) b.addresses b.run node site (ap (λ (v : World). site_at v node) (is_now whole policy topology before beat p b (settling w beat)) ∙ found)).is_node.number in
      subst (λ (n : ℕ). n < silence_limit) (sym (nodes_hear_their_switches whole policy topology before node beat site (node_in_beat node inside) found)) (omega arith)

  goes_in_the_end : Goes (settled topology w beat)
  goes_in_the_end = subst Goes (sym (carried_is whole policy topology before beat p b (map Carry beat.carries))) (carries_go (map Carry beat.carries) [] (sym (append-nil (map Carry beat.carries))))

  none_on_its_way : (one far : LinkEnd) → peer_of topology one.node one.port ≡ Some far → coming (settled topology w beat) one far ≡ []
  none_on_its_way one far linked = ap (λ (v : World). coming v one far) (sym (is_now whole policy topology before beat p b (settling w beat)))
      ∙ none_coming policy topology (before ++ settling w beat) topology_is one far linked (ap is_empty (is_now whole policy topology before beat p b (settling w beat)) ∙ b.settles)

  links_behind : (one far : LinkEnd) → peer_of topology one.node one.port ≡ Some far → IsLinkInPeace topology (settled topology w beat) one far
  links_behind one far linked =
      let v : World = settled topology w beat in
      let l : LinkGoes topology v one far = goes_in_the_end.links one far linked in
      let s : Stands l.address l.far_address v one far = l.stands in
      let none : s.said ≡ [] = none_said l.address v.notes.frames (coming v one far) s.said s.there (none_on_its_way one far linked) in
      let far_none : s.far_said ≡ [] = none_said l.far_address v.notes.frames (coming v far one) s.far_said s.back (none_on_its_way far one (peer_back topology topology_is one far linked).back) in
      record {
        agree = subst (λ (said : List Message). AgreeIn v one far said []) none (subst (λ (said : List Message). AgreeIn v one far s.said said) far_none s.agree);
        is_open = l.there;
      }

  pub rests_in_peace : IsNetworkInPeace topology (settled topology w beat)
  rests_in_peace = record {
    empty = b.settles;
    shaped = shaped whole policy topology before beat p b (settling w beat) [] (sym (append-nil (settling w beat)));
    met = met (settling w beat) [] (sym (append-nil (settling w beat)));
    heard = heard_behind;
    links = links_behind;
  }

pub networks_stay_up : HoldsInRuns IsWhole → NetworksStayUp
networks_stay_up whole policy topology before beat p b = stays_up whole policy topology before beat p b

pub networks_rest_in_peace : HoldsInRuns IsWhole → NetworksRestInPeace
networks_rest_in_peace whole policy topology before beat p b = rests_in_peace whole policy topology before beat p b

pub beats_of_peace_are_in_peace : HoldsInRuns IsWhole → BeatsOfPeaceAreInPeace
beats_of_peace_are_in_peace whole policy topology before beat p b one far linked = beat_in_peace whole policy topology before beat p b one far linked

-- *Beat by beat*
pub peace_lasts : HoldsInRuns IsWhole → PeaceLasts
peace_lasts whole policy topology before [] p are = p
peace_lasts whole policy topology before (beat ∷ beats) p are =
    let w : World = world_at policy topology before in
    peace_lasts whole policy topology (before ++ settling w beat) beats
    (subst (IsNetworkInPeace topology) (sym (is_now whole policy topology before beat p are.0 (settling w beat))) (rests_in_peace whole policy topology before beat p are.0)) are.1
