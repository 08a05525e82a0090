-- through the ticks that begin a mirrored beat: nodes have met their switches, no Delete All comes, and behind them each link goes on

use Rattle.std.proofs.Common.{◌≡◌, ◌<◌, ◌^◌, List, [], ◌∷◌, ◌++◌, append_assoc, append-nil, map, Option, None, Some, refl, sym, ◌∙◌, ap, subst}
use Rattle.std.specs.Prelude.{is_some}
use Rattle.std.specs.Option.{option_map}
use Rattle.world_model.specs.Words.{NodeId, Policy, Switch, Linked, port_key, Topology, World, Site, site_at, next, tick_of_all, world_after, IsNode, IsTopology, IsRun}
use Rattle.world_model.specs.adjacency_table.Table.{silence_limit}
use Rattle.world_model.specs.Topology.{peer_of}
use Rattle.world_model.specs.network_model.declared.link.LinkEnd.{LinkEnd}
use Rattle.world_model.specs.network_model.declared.event.Event.{Event}
use Rattle.world_model.specs.network_model.declared.event.Event.TheVariants.{Carry, Tick, TickSwitch}
use Rattle.live_model.specs.Beats.{Beat, settling}
use Rattle.law_live_joining_beats.proofs.law_causes.Shown.{IsPeer, peer_back}
use Rattle.law_live_joining_beats.specs.law_run_facts.ordered_lists.Ordered.{Every}
use Rattle.law_live_joining_beats.proofs.law_run_facts.Nodes.{runs_have_nodes}
use Rattle.law_live_joining_beats.proofs.law_run_facts.law_port_facts.Keyed.{at_every}
use Rattle.law_live_joining_beats.proofs.law_run_facts.Steps.{front_run}
use Rattle.law_live_joining_beats.specs.law_true_runs.Runs.{HoldsInRuns, IsWhole}
use Rattle.law_live_joining_beats.specs.law_live_nodes.Law.{IsNodeAtPeace, messages_of}
use Rattle.law_live_joining_beats.specs.law_live_saying.Law.{ticking}
use Rattle.law_live_joining_beats.specs.law_live_links.Law.{MayTick}
use Rattle.law_live_joining_beats.specs.law_live_rests.Law.{address_at}
use Rattle.law_live_joining_beats.specs.law_live_worlds.Law.{Shows, end_of, AgreeIn, IsCalm}
use Rattle.law_live_joining_beats.proofs.law_live_worlds.Ticking.{ticks_of_all_keep_agreement}
use Rattle.law_live_joining_beats.specs.law_live_hearing.Law.{world_at}
use Rattle.law_live_joining_beats.proofs.law_live_hearing.Going.{after_all}
use Rattle.law_live_joining_beats.proofs.law_live_hearing.Places.{down_empty}
use Rattle.law_live_joining_beats.specs.law_live_orders.Law.{coming, IsOpenWay}
use Rattle.law_live_joining_beats.specs.law_live_going.Law.{IsWritten}
use Rattle.law_live_joining_beats.specs.law_live_going.Beats.{AreCalmTicks}
use Rattle.law_live_joining_beats.proofs.law_live_going.Ticks.{ticks_say_all}
use Rattle.law_live_joining_beats.specs.law_live_control_links.Law.{IsCalmLink, IsUnspentAt, ControllerListens, SwitchListens}
use Rattle.law_live_joining_beats.proofs.law_live_control_links.Events.{ticks_keep_calm, switch_ticks_keep_calm}
use Rattle.law_live_joining_beats.specs.law_live_ways.Links.{ComesNone, StandsNoneAt}
use Rattle.law_live_joining_beats.proofs.law_live_ways.Ways.{ticks_keep_ways}
use Rattle.law_live_joining_beats.proofs.law_live_ways.Links.{none_comes_still}
use Rattle.law_live_joining_beats.proofs.law_live_desks.Sites.{stands_in}
use Rattle.law_live_joining_beats.proofs.law_live_peace.Carries.{all_stay}
use Rattle.law_live_joining_beats.proofs.law_live_peace.Runs.{low, keeps_address, none_coming}
use Rattle.law_live_joining_beats.specs.law_live_calm_nodes.Ports.{IsPortUp}
use Rattle.law_live_joining_beats.specs.law_live_calm_nodes.Nodes.{IsNodeAtRest}
use Rattle.law_live_joining_beats.specs.law_live_calm_nodes.Networks.{IsNetworkInPeace, IsLinkInPeace}
use Rattle.law_live_joining_beats.proofs.law_live_calm_nodes.Parts.{along}
use Rattle.law_live_joining_beats.proofs.law_live_calm_nodes.Events.{Facts, now_is, run_behind, done, behind_is, facts}
use Rattle.law_live_joining_beats.proofs.law_live_calm_nodes.Ticks.{IsTick, of_controller, of_switch, all_ticks, site_waits, switch_waits}
use Rattle.law_live_joining_beats.proofs.law_live_calm_nodes.Ports.{ticks_keep_up, up_nodes_stand_none}
use Rattle.law_live_joining_beats.proofs.law_live_calm_nodes.Resting.{nodes_at_rest_are_calm}
use Rattle.law_live_joining_beats.proofs.law_live_calm_nodes.Links.{LinkGoes, address_is}
use Rattle.law_live_joining_beats.proofs.law_live_calm_nodes.Control.{HasPeer, has_peer}
use Rattle.law_live_joining_beats.specs.law_live_lasting.Law.{LosesNothing}
use Rattle.law_live_carried_out.specs.Law.{IsMirroredPeace, IsMirroredBeat}

one_site : (a b : Site) → Some a ≡ Some b → a ≡ b
one_site a b e = cc

one_switch : (a b : Switch) → Some a ≡ Some b → a ≡ b
one_switch a b e = cc

-- a node that is calm is at peace as it ticks
pub peace_of : (v : World) (node : NodeId) (site : Site) → site_at v node ≡ Some site → IsCalm v node → IsNodeAtPeace (ticking v site)
peace_of v node site found is = subst (λ (s : Site). IsNodeAtPeace (ticking v s)) (one_site is.site site (sym is.there ∙ found))
    (record { up = is.peace.up; heard = is.peace.heard; nothing_asked = is.peace.nothing_asked; ports = is.peace.ports; ports_apart = is.peace.ports_apart })

module _ (whole : HoldsInRuns IsWhole) (policy : Policy) (topology : Topology) (before : List Event) (beat : Beat)
    (m : IsMirroredPeace topology (world_at policy topology before)) (b : IsMirroredBeat policy topology before beat) where
  abbrev pub w : World
  w = world_at policy topology before

  abbrev pub all : List Event
  all = settling w beat

  abbrev p : IsNetworkInPeace topology w
  p = m.lasting.peace

  pub is : IsTopology topology
  is = b.run.topology_is

  pub is_now : (front : List Event) → world_at policy topology (before ++ front) ≡ world_after topology w front
  is_now = now_is whole policy topology before all b.run b.addresses b.tame

  pub begun : IsRun policy topology before
  begun = front_run policy topology before all b.run

  pub inside_run : (node : NodeId) (site : Site) → site_at w node ≡ Some site → IsNode topology node
  inside_run node site found = (runs_have_nodes policy topology before b.addresses begun node site found).is_node.number

  pub within : (one far : LinkEnd) → peer_of topology one.node one.port ≡ Some far → IsNode topology one.node
  within one far linked = (peer_back topology is far one (peer_back topology is one far linked).back).node

  -- *Each event*
  module _ (front rest : List Event) (event : Event) (e : all ≡ front ++ event ∷ rest) where
    abbrev v : World
    v = world_after topology w front

    pub facts_in : Facts topology v event
    facts_in = facts whole policy topology before all b.run b.addresses b.tame front rest event e

    pub unspent : (node : NodeId) → IsUnspentAt (next topology v event) node
    unspent = subst (λ (x : World). (node : NodeId) → IsUnspentAt x node) (behind_is whole policy topology before all b.run b.addresses b.tame front rest event e)
        (b.unspent (front ++ event ∷ []) rest (done whole policy topology before all b.run b.addresses b.tame front rest event e))

    -- *no Delete All stands behind it*, where all ports are up there
    stands_none : ((one far : LinkEnd) → peer_of topology one.node one.port ≡ Some far → IsPortUp (next topology v event) one)
        → (one far : LinkEnd) → peer_of topology one.node one.port ≡ Some far → StandsNoneAt (next topology v event) one.node
    stands_none up one far linked = subst (λ (x : World). ((a z : LinkEnd) → peer_of topology a.node a.port ≡ Some z → IsPortUp x a) → IsUnspentAt x one.node → StandsNoneAt x one.node)
        (is_now (front ++ event ∷ []) ∙ behind_is whole policy topology before all b.run b.addresses b.tame front rest event e)
        (λ ups. up_nodes_stand_none policy topology (before ++ (front ++ event ∷ [])) one b.addresses (run_behind whole policy topology before all b.run b.addresses b.tame front rest event e)
        (ap (λ (o : Option LinkEnd). is_some o) linked)
        (λ port there. (let peer : HasPeer (peer_of topology one.node port) = has_peer (peer_of topology one.node port) there in ups (record { node = one.node; port = port }) peer.far peer.is)))
        up (unspent one.node)

  -- an event among the ticks
  pub in_ticks : (front rest : List Event) (event : Event) → tick_of_all w ≡ front ++ event ∷ rest → all ≡ front ++ event ∷ (rest ++ map Carry beat.carries)
  in_ticks front rest event e = ap (λ (es : List Event). es ++ map Carry beat.carries) e ∙ append_assoc front (event ∷ rest) (map Carry beat.carries)

  abbrev pub u : World
  u = world_after topology w (tick_of_all w)

  pub tick_unlost : (front rest : List Event) (event : Event) → tick_of_all w ≡ front ++ event ∷ rest
      → (next topology (world_after topology w front) event).notes.entries ≡ (world_after topology w front).notes.entries
  tick_unlost front rest event e = by event (all_ticks w front rest event e) (b.unlost front (rest ++ map Carry beat.carries) event (in_ticks front rest event e))
    where
      by : (x : Event) → IsTick x → LosesNothing topology (world_after topology w front) x → (next topology (world_after topology w front) x).notes.entries ≡ (world_after topology w front).notes.entries
      by x (of_controller node) same = same
      by x (of_switch node) same = same

  -- *Who ticks* has heard its peer lately
  pub controller_listens : (front rest : List Event) (here : NodeId) → tick_of_all w ≡ front ++ Tick here ∷ rest → ControllerListens (world_after topology w front) here
  controller_listens front rest here e site found = p.heard here site (sym (site_waits topology w front rest here p.shaped e) ∙ found)

  pub switch_listens : (front rest : List Event) (here : NodeId) → tick_of_all w ≡ front ++ TickSwitch here ∷ rest → SwitchListens (world_after topology w front) here
  switch_listens front rest here e site found = by (site_at w here) refl (sym (switch_waits topology w front rest here p.shaped e) ∙ ap (option_map (λ (s : Site). s.switch)) found)
    where
      by : (o : Option Site) → site_at w here ≡ o → option_map (λ (s : Site). s.switch) o ≡ Some site.switch → site.switch.adjacency.silence < silence_limit
      by None there same = absurd (cc same)
      by (Some old) there same = subst (λ (s : Switch). s.adjacency.silence < silence_limit) (one_switch old.switch site.switch same) (m.lasting.heard here (inside_run here old there) old there)

  -- *Each node and its switch have met*
  abbrev Met : World → Type 0
  Met v = (node : NodeId) → IsNode topology node → IsCalmLink v node

  tick_met : (front rest : List Event) (event : Event) → tick_of_all w ≡ front ++ event ∷ rest → Met (world_after topology w front) → Met (next topology (world_after topology w front) event)
  tick_met front rest event e met node inside = by event (all_ticks w front rest event e) e (facts_in front (rest ++ map Carry beat.carries) event (in_ticks front rest event e))
      (unspent front (rest ++ map Carry beat.carries) event (in_ticks front rest event e))
    where
      v : World
      v = world_after topology w front

      by : (x : Event) → IsTick x → tick_of_all w ≡ front ++ x ∷ rest → Facts topology v x → ((n : NodeId) → IsUnspentAt (next topology v x) n) → IsCalmLink (next topology v x) node
      by x (of_controller here) f g left = ticks_keep_calm topology v node here (met node inside) (g.steady node).0 (g.steady node).1 (controller_listens front rest here f) (left node)
      by x (of_switch here) f g left = switch_ticks_keep_calm topology v node here (met node inside) (g.steady node).1 (switch_listens front rest here f)

  pub ticks_met : (front rest : List Event) → tick_of_all w ≡ front ++ rest → Met (world_after topology w front)
  ticks_met = along topology Met (tick_of_all w) w p.met tick_met

  -- *Each node is at peace* as the beat begins
  port_may : (one : LinkEnd) (linked : Linked) → Shows w one linked → MayTick (end_of linked []) × Every IsWritten (messages_of linked)
  port_may one linked shows = at_every port_key (λ (x : Linked). MayTick (end_of x []) × Every IsWritten (messages_of x)) one.port.0 shows.site.controller.ports linked
      (b.room one.node shows.site shows.there).ports shows.of_port

  pub calm : (node : NodeId) → IsNode topology node → IsCalm w node
  calm node inside = nodes_at_rest_are_calm policy topology before node b.addresses begun rest (p.heard node)
    where
      link : IsCalmLink w node
      link = p.met node inside

      rest : IsNodeAtRest topology w node
      rest = record {
        link = link;
        nothing_asked = sym (ap stands_in link.found) ∙ m.lasting.nothing_stands node inside;
        ports = λ port there. (let peer : HasPeer (peer_of topology node port) = has_peer (peer_of topology node port) there in
            let agree : AgreeIn w (record { node = node; port = port }) peer.far [] [] = (p.links (record { node = node; port = port }) peer.far peer.is).agree in
            record { far = peer.far; agree = agree; may_tick = (port_may (record { node = node; port = port }) agree.linked agree.shows).0 });
        may_join = (b.room node link.site link.found).may_join;
      }

  -- *No Delete All comes* through the ticks
  ticks_up : (front rest : List Event) → tick_of_all w ≡ front ++ rest → (one far : LinkEnd) → peer_of topology one.node one.port ≡ Some far → IsPortUp (world_after topology w front) one
  ticks_up front rest e one far linked = ticks_keep_up topology w one far front rest p.shaped (calm one.node (within one far linked)) (p.links one far linked).agree e

  abbrev NoneComes : World → Type 0
  NoneComes v = (one far : LinkEnd) → peer_of topology one.node one.port ≡ Some far → ComesNone v one.node

  none_yet : NoneComes w
  none_yet one far linked = subst (Every _) (sym (down_empty policy topology is before one.node (within one far linked) p.empty)) tt

  tick_none : (front rest : List Event) (event : Event) → tick_of_all w ≡ front ++ event ∷ rest → NoneComes (world_after topology w front) → NoneComes (next topology (world_after topology w front) event)
  tick_none front rest event e none one far linked = by event (all_ticks w front rest event e) e (facts_in front (rest ++ map Carry beat.carries) event (in_ticks front rest event e))
      (stands_none front (rest ++ map Carry beat.carries) event (in_ticks front rest event e)
      (λ x y between. subst (λ (v : World). IsPortUp v x) (after_all topology w front (event ∷ [])) (ticks_up (front ++ event ∷ []) rest (e ∙ sym (append_assoc front (event ∷ []) rest)) x y between)) one far linked)
    where
      v : World
      v = world_after topology w front

      by : (x : Event) → IsTick x → tick_of_all w ≡ front ++ x ∷ rest → Facts topology v x → StandsNoneAt (next topology v x) one.node → ComesNone (next topology v x) one.node
      by x (of_controller here) f g stands = none_comes_still.ticks topology v one.node here (ticks_met front (Tick here ∷ rest) f one.node (within one far linked))
          (g.steady one.node).0 (g.steady one.node).1 (controller_listens front rest here f) stands (none one far linked)
      by x (of_switch here) f g stands = none_comes_still.switch_ticks topology v one.node here (g.steady one.node).1 (none one far linked)

  pub ticks_none : (front rest : List Event) → tick_of_all w ≡ front ++ rest → NoneComes (world_after topology w front)
  ticks_none = along topology NoneComes (tick_of_all w) w none_yet tick_none

  -- *Behind the ticks* each link goes on: what both ports said is on its way
  module _ (one far : LinkEnd) (linked : peer_of topology one.node one.port ≡ Some far) where
    peer : IsPeer topology one far
    peer = peer_back topology is one far linked

    abbrev here : IsLinkInPeace topology w one far
    here = p.links one far linked

    abbrev agree : AgreeIn w one far [] []
    agree = here.agree

    -- one way
    ticks_calm : (x y : LinkEnd) → IsOpenWay topology w x y → AreCalmTicks topology w x y (tick_of_all w)
    ticks_calm x y way front rest event e =
        let v : World = world_after topology w front in
        let f : Facts topology v event = facts_in front (rest ++ map Carry beat.carries) event (in_ticks front rest event e) in
        record {
          is_open = ticks_keep_ways topology w x y front (event ∷ rest) is way e;
          unlost = tick_unlost front rest event e;
          stays = all_stay v.notes.frames (next topology v event).notes.frames (coming v x y) (f.steady x.node).1.stays;
        }

    open_behind : (x y : LinkEnd) → IsOpenWay topology w x y → IsOpenWay topology u x y
    open_behind x y way = ticks_keep_ways topology w x y (tick_of_all w) [] is way (sym (append-nil (tick_of_all w)))

    -- each node goes by its address
    ticked_run : IsRun policy topology (before ++ tick_of_all w)
    ticked_run = front_run policy topology (before ++ tick_of_all w) (map Carry beat.carries)
        (subst (IsRun policy topology) (sym (append_assoc before (tick_of_all w) (map Carry beat.carries))) b.run)

    goes_at : (node : NodeId) → IsNode topology node → (site : Site) → site_at w node ≡ Some site → (now : Site) → site_at u node ≡ Some now → now.controller.address ≡ site.controller.address
    goes_at node inside site found now there = sym (address_is u node now there)
        ∙ (ap (λ (v : World). address_at v node) (sym (is_now (tick_of_all w)))
        ∙ keeps_address policy topology b.addresses before (before ++ tick_of_all w) begun ticked_run node inside site found)

    address_low : (node : NodeId) (site : Site) → site_at w node ≡ Some site → site.controller.address.0 < 2 ^ 32
    address_low node site found = low policy topology b.addresses before begun node site found

    near : IsNode topology one.node
    near = within one far linked

    pub link_goes : LinkGoes topology u one far
    link_goes =
        let calm_near : IsCalm w one.node = calm one.node near in
        let calm_far : IsCalm w far.node = calm far.node peer.node in
        let way_back : IsOpenWay topology w far one = (p.links far one peer.back).is_open in
        let now : AgreeIn u one far (messages_of agree.linked) (messages_of agree.far_linked) = ticks_of_all_keep_agreement topology w one far p.shaped calm_near calm_far agree in
        record {
          address = agree.shows.site.controller.address;
          far_address = agree.far_shows.site.controller.address;
          low = address_low one.node agree.shows.site agree.shows.there;
          far_low = address_low far.node agree.far_shows.site agree.far_shows.there;
          stands = record {
            said = messages_of agree.linked;
            far_said = messages_of agree.far_linked;
            agree = now;
            there = ticks_say_all topology w one far agree.shows.site agree.linked is p.shaped agree.shows.there (peace_of w one.node agree.shows.site agree.shows.there calm_near) agree.shows.of_port
                (none_coming policy topology before is one far linked p.empty) (ticks_calm one far here.is_open);
            back = ticks_say_all topology w far one agree.far_shows.site agree.far_linked is p.shaped agree.far_shows.there (peace_of w far.node agree.far_shows.site agree.far_shows.there calm_far) agree.far_shows.of_port
                (none_coming policy topology before is far one peer.back p.empty) (ticks_calm far one way_back);
            written = (port_may one agree.linked agree.shows).1;
            far_written = (port_may far agree.far_linked agree.far_shows).1;
            own = goes_at one.node near agree.shows.site agree.shows.there now.shows.site now.shows.there;
            far_own = goes_at far.node peer.node agree.far_shows.site agree.far_shows.there now.far_shows.site now.far_shows.there;
          };
          there = open_behind one far here.is_open;
          back = open_behind far one way_back;
        }
