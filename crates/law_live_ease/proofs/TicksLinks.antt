-- behind the ticks that begin a calm beat each link binds: what both ports said in them is on its way, in order and nothing else

use Rattle.std.proofs.Common.{◌≡◌, ◌<◌, ◌^◌, List, [], ◌∷◌, ◌++◌, append_assoc, append-nil, map, Some, sym, ◌∙◌, ap, subst}
use Rattle.world_model.specs.Words.{NodeId, Policy, Addr, Topology, World, Site, site_at, next, tick_of_all, world_after, IsNode, IsRun}
use Rattle.world_model.specs.Topology.{peer_of}
use Rattle.world_model.specs.network_model.declared.link.LinkEnd.{LinkEnd}
use Rattle.world_model.specs.network_model.declared.event.Event.{Event}
use Rattle.world_model.specs.network_model.declared.event.Event.TheVariants.{Carry}
use Rattle.live_model.specs.Beats.{Beat}
use Rattle.law_live_journeys.proofs.law_causes.Shown.{IsPeer, peer_back}
use Rattle.law_live_journeys.proofs.law_run_facts.Steps.{front_run}
use Rattle.law_live_journeys.specs.law_true_runs.Runs.{HoldsInRuns, IsWhole}
use Rattle.law_live_journeys.specs.law_live_nodes.Law.{messages_of}
use Rattle.law_live_journeys.specs.law_live_worlds.Law.{AgreeIn}
use Rattle.law_live_journeys.proofs.law_live_worlds.Ticking.{ticks_of_all_keep_agreement}
use Rattle.law_live_journeys.specs.law_live_hearing.Law.{world_at}
use Rattle.law_live_journeys.specs.law_live_orders.Law.{coming, IsOpenWay}
use Rattle.law_live_journeys.specs.law_live_orders.Messages.{AreComing}
use Rattle.law_live_journeys.specs.law_live_going.Beats.{AreCalmTicks}
use Rattle.law_live_journeys.proofs.law_live_going.Ticks.{ticks_say_all}
use Rattle.law_live_journeys.proofs.law_live_ways.Ways.{ticks_keep_ways}
use Rattle.law_live_journeys.proofs.law_live_peace.Carries.{all_stay}
use Rattle.law_live_journeys.proofs.law_live_peace.Runs.{low, keeps_address, none_coming}
use Rattle.law_live_journeys.specs.law_live_bound.Worlds.{BindIn}
use Rattle.law_live_journeys.proofs.law_live_bound.Worlds.{agreeing_worlds_bind}
use Rattle.law_live_journeys.specs.law_live_calm_nodes.Networks.{IsNetworkInPeace}
use Rattle.law_live_journeys.proofs.law_live_calm_nodes.Events.{Facts}
use Rattle.law_live_journeys.proofs.law_live_calm_nodes.Links.{address_is}
use Rattle.law_live_journeys.proofs.law_live_calm_nodes.Networks.{peace_of}
use Rattle.law_live_journeys.specs.law_live_carried_out.Law.{IsMirroredPeace}
use Rattle.law_live_ease.specs.Law.{IsBindingLink}
use Rattle.law_live_ease.specs.Beats.{IsCalmBeat}
use Rattle.law_live_ease.proofs.Ticks.{later, is_now, begun, within, facts_in, calm_event, port_may, calm}

module _ (whole : HoldsInRuns IsWhole) (policy : Policy) (topology : Topology) (before : List Event) (beat : Beat)
    (m : IsMirroredPeace topology (world_at policy topology before)) (b : IsCalmBeat policy topology before beat) where
  abbrev w : World
  w = world_at policy topology before

  abbrev u : World
  u = world_after topology w (tick_of_all w)

  abbrev p : IsNetworkInPeace topology w
  p = m.lasting.peace

  -- *Each way* stays open, and what comes on it is calm
  ticks_calm : (x y : LinkEnd) → IsOpenWay topology w x y → AreCalmTicks topology w x y (tick_of_all w)
  ticks_calm x y way front rest event e =
      let v : World = world_after topology w front in
      let f : Facts topology v event = facts_in whole policy topology before beat m b front rest event e in
      record {
        is_open = ticks_keep_ways topology w x y front (event ∷ rest) b.run.topology_is way e;
        unlost = (calm_event whole policy topology before beat m b front rest event e).entries;
        stays = all_stay v.notes.frames (next topology v event).notes.frames (coming v x y) (f.steady x.node).1.stays;
      }

  open_behind : (x y : LinkEnd) → IsOpenWay topology w x y → IsOpenWay topology u x y
  open_behind x y way = ticks_keep_ways topology w x y (tick_of_all w) [] b.run.topology_is way (sym (append-nil (tick_of_all w)))

  -- *Each node* goes by its address
  pub ticked_run : IsRun policy topology (before ++ tick_of_all w)
  ticked_run = front_run policy topology (before ++ tick_of_all w) (later whole policy topology before beat m b)
      (subst (IsRun policy topology) (ap (λ (es : List Event). before ++ es) (append_assoc (tick_of_all w) (map Carry beat.carries) beat.sending) ∙ sym (append_assoc before (tick_of_all w) (later whole policy topology before beat m b))) b.run)

  goes_at : (node : NodeId) → IsNode topology node → (site : Site) → site_at w node ≡ Some site → (now : Site) → site_at u node ≡ Some now → now.controller.address ≡ site.controller.address
  goes_at node inside site found now there = sym (address_is (world_at policy topology (before ++ tick_of_all w)) node now
      (ap (λ (v : World). site_at v node) (is_now whole policy topology before beat m b (tick_of_all w)) ∙ there))
      ∙ keeps_address policy topology b.addresses before (before ++ tick_of_all w) (begun whole policy topology before beat m b) ticked_run node inside site found

  address_low : (node : NodeId) (site : Site) → site_at w node ≡ Some site → site.controller.address.0 < 2 ^ 32
  address_low node site found = low policy topology b.addresses before (begun whole policy topology before beat m b) node site found

  -- *Each link*
  module _ (one far : LinkEnd) (linked : peer_of topology one.node one.port ≡ Some far) where
    peer : IsPeer topology one far
    peer = peer_back topology b.run.topology_is one far linked

    near : IsNode topology one.node
    near = within whole policy topology before beat m b one far linked

    abbrev agree : AgreeIn w one far [] []
    agree = (p.links one far linked).agree

    -- its ends agree behind the ticks, with what they said
    pub agreed : AgreeIn u one far (messages_of agree.linked) (messages_of agree.far_linked)
    agreed = ticks_of_all_keep_agreement topology w one far p.shaped (calm whole policy topology before beat m b one.node near) (calm whole policy topology before beat m b far.node peer.node) agree

    bind : BindIn u one far (messages_of agree.linked) (messages_of agree.far_linked)
    bind = agreeing_worlds_bind u one far (messages_of agree.linked) (messages_of agree.far_linked) agreed

    own : bind.shows.site.controller.address ≡ agree.shows.site.controller.address
    own = goes_at one.node near agree.shows.site agree.shows.there bind.shows.site bind.shows.there

    far_own : bind.far_shows.site.controller.address ≡ agree.far_shows.site.controller.address
    far_own = goes_at far.node peer.node agree.far_shows.site agree.far_shows.there bind.far_shows.site bind.far_shows.there

    there : AreComing agree.shows.site.controller.address u one far (messages_of agree.linked)
    there = ticks_say_all topology w one far agree.shows.site agree.linked b.run.topology_is p.shaped agree.shows.there
        (peace_of w one.node agree.shows.site agree.shows.there (calm whole policy topology before beat m b one.node near)) agree.shows.of_port
        (none_coming policy topology before b.run.topology_is one far linked p.empty) (ticks_calm one far (p.links one far linked).is_open)

    back : AreComing agree.far_shows.site.controller.address u far one (messages_of agree.far_linked)
    back = ticks_say_all topology w far one agree.far_shows.site agree.far_linked b.run.topology_is p.shaped agree.far_shows.there
        (peace_of w far.node agree.far_shows.site agree.far_shows.there (calm whole policy topology before beat m b far.node peer.node)) agree.far_shows.of_port
        (none_coming policy topology before b.run.topology_is far one peer.back p.empty) (ticks_calm far one (p.links far one peer.back).is_open)

    pub link_binds : IsBindingLink topology u one far
    link_binds = record {
      ends = record {
        said = messages_of agree.linked;
        far_said = messages_of agree.far_linked;
        bind = bind;
        there = subst (λ (from : Addr). AreComing from u one far (messages_of agree.linked)) (sym own) there;
        back = subst (λ (from : Addr). AreComing from u far one (messages_of agree.far_linked)) (sym far_own) back;
        written = (port_may whole policy topology before beat m b one agree.linked agree.shows).1;
        far_written = (port_may whole policy topology before beat m b far agree.far_linked agree.far_shows).1;
        low = subst (λ (from : Addr). from.0 < 2 ^ 32) (sym own) (address_low one.node agree.shows.site agree.shows.there);
        far_low = subst (λ (from : Addr). from.0 < 2 ^ 32) (sym far_own) (address_low far.node agree.far_shows.site agree.far_shows.there);
      };
      there = open_behind one far (p.links one far linked).is_open;
      back = open_behind far one (p.links far one peer.back).is_open;
    }
