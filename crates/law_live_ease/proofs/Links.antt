-- behind a carry each link binds on, and no Delete All comes to a switch

use Rattle.std.proofs.Common.{◌≡◌, List, [], ◌∷◌, ◌++◌, Option, Some, ap, subst}
use Rattle.std.specs.Prelude.{is_some}
use Rattle.world_model.specs.Words.{NodeId, Policy, Place, Topology, World, next, IsNode, IsTopology, past_of}
use Rattle.world_model.specs.World.{opened}
use Rattle.world_model.specs.Topology.{peer_of}
use Rattle.world_model.specs.network_model.declared.link.LinkEnd.{LinkEnd}
use Rattle.world_model.specs.network_model.declared.event.Event.{Event}
use Rattle.world_model.specs.network_model.declared.event.Event.TheVariants.{Carry}
use Rattle.law_live_journeys.proofs.law_causes.Shown.{IsPeer, peer_back}
use Rattle.law_live_journeys.specs.law_run_facts.law_world_views.Between.{IsWorld}
use Rattle.law_live_journeys.specs.law_run_facts.law_world_views.Kept.{Comes}
use Rattle.law_live_journeys.specs.law_run_facts.Nodes.{HasSite}
use Rattle.law_live_journeys.proofs.law_run_facts.Rooms.{runs_keep_nodes}
use Rattle.law_live_journeys.proofs.law_run_facts.Steps.{after_one, runs_have_fronts}
use Rattle.law_live_journeys.specs.law_live_hearing.Law.{world_at}
use Rattle.law_live_journeys.specs.law_live_control_links.Law.{IsUnspentAt, CarriesOutNext}
use Rattle.law_live_journeys.proofs.law_live_control_links.Runs.{runs_are_steady}
use Rattle.law_live_journeys.specs.law_live_ways.Links.{ComesNone, StandsNoneAt, IsPeaceful}
use Rattle.law_live_journeys.proofs.law_live_ways.Links.{none_comes_still, carries_keep_ways}
use Rattle.law_live_journeys.specs.law_live_calm_nodes.Ports.{IsPortUp}
use Rattle.law_live_journeys.proofs.law_live_calm_nodes.Ports.{up_nodes_stand_none}
use Rattle.law_live_journeys.proofs.law_live_calm_nodes.Control.{HasPeer, has_peer}
use Rattle.law_live_journeys.specs.law_live_binding_beats.Law.{BindByQueues, IsBindingCarry}
use Rattle.law_live_journeys.proofs.law_live_binding_beats.Steps.{carry_binds}
use Rattle.law_live_journeys.proofs.law_live_brought.Carries.{carries_bind}
use Rattle.law_live_ease.specs.Law.{IsBindingLink, Binds, IsCalmEvent}
use Rattle.law_live_ease.specs.Links.{LinksBindOn}
use Rattle.law_live_ease.proofs.LinksMoments.{moment}

-- *A port that binds is up*, since both have met
up_where_bound : (v : World) (one far : LinkEnd) → BindByQueues v one far → IsPortUp v one
up_where_bound v one far ends = record {
  site = ends.bind.shows.site;
  there = ends.bind.shows.there;
  linked = ends.bind.linked;
  of_port = ends.bind.shows.of_port;
  up = ends.bind.binding.met.one_is_up;
  in_session = ends.bind.binding.one_end.in_session;
}

module _ (policy : Policy) (topology : Topology) (before : List Event) (place : Place) (comes : Comes policy topology before (Carry place)) (world : IsWorld (past_of policy topology before))
    (b : Binds topology (world_at policy topology before)) (c : IsCalmEvent topology (world_at policy topology before) (Carry place))
    (carried_out : (node : NodeId) → IsNode topology node → CarriesOutNext (world_at policy topology before) node) where
  abbrev w : World
  w = world_at policy topology before

  abbrev v : World
  v = next topology w (Carry place)

  is : IsTopology topology
  is = comes.run.topology_is

  peaceful : (node : NodeId) → IsNode topology node → ComesNone w node → IsPeaceful w node
  peaceful node inside none = (let there : HasSite w node = runs_keep_nodes policy topology before (runs_have_fronts policy topology before (Carry place) comes).run node inside in
      record { site = there.site; found = there.is; shapes = world.shapes node there.site there.is; none = none })

  -- *Each link*
  module _ (one far : LinkEnd) (linked : peer_of topology one.node one.port ≡ Some far) where
    peer : IsPeer topology one far
    peer = peer_back topology is one far linked

    near : IsNode topology one.node
    near = (peer_back topology is far one peer.back).node

    binding : IsBindingCarry topology (b.links one far linked).ends place
    binding = carries_bind policy topology before one far place comes world (b.links one far linked).ends (moment topology w place b c one far linked peer.back near peer.node carried_out)

    near_peaceful : IsPeaceful w one.node
    near_peaceful = peaceful one.node near (b.none one far linked)

    far_peaceful : IsPeaceful w far.node
    far_peaceful = peaceful far.node peer.node (b.none far one peer.back)

    binds_behind : IsBindingLink topology v one far
    binds_behind = record {
      ends = carry_binds topology is w one far (b.links one far linked).ends place binding;
      there = carries_keep_ways topology w one far place is (b.links one far linked).there near_peaceful far_peaceful binding.counts;
      back = carries_keep_ways topology w far one place is (b.links one far linked).back far_peaceful near_peaceful binding.counts;
    }

  -- *At each node* no Delete All stands, since its ports are up
  up_behind : (one far : LinkEnd) → peer_of topology one.node one.port ≡ Some far → IsPortUp v one
  up_behind one far linked = up_where_bound v one far (binds_behind one far linked).ends

  stands_none : (one far : LinkEnd) → peer_of topology one.node one.port ≡ Some far → StandsNoneAt v one.node
  stands_none one far linked = subst (λ (x : World). ((a z : LinkEnd) → peer_of topology a.node a.port ≡ Some z → IsPortUp x a) → IsUnspentAt x one.node → StandsNoneAt x one.node)
      (after_one topology (opened policy topology) before (Carry place))
      (λ ups. up_nodes_stand_none policy topology (before ++ Carry place ∷ []) one comes.addresses comes.run (ap (λ (o : Option LinkEnd). is_some o) linked)
      (λ port there. (let other : HasPeer (peer_of topology one.node port) = has_peer (peer_of topology one.node port) there in ups (record { node = one.node; port = port }) other.far other.is)))
      up_behind (c.unspent one.node)

  none_behind : (one far : LinkEnd) → peer_of topology one.node one.port ≡ Some far → ComesNone v one.node
  none_behind one far linked = none_comes_still.carries topology w one.node place (b.nodes one.node (near one far linked)).calm
      (runs_are_steady policy topology before (Carry place) comes world one.node).0 (runs_are_steady policy topology before (Carry place) comes world one.node).1
      (stands_none one far linked) (b.none one far linked)

pub links_bind_on : LinksBindOn
links_bind_on policy topology before place comes world b c carried_out = record {
  links = binds_behind policy topology before place comes world b c carried_out;
  none = none_behind policy topology before place comes world b c carried_out;
}
