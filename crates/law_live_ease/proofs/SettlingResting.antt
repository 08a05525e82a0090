-- a network that binds is at ease where no queue has a cell: nothing stands at its desks, so no label is being wired, and the ends of each
-- link agree

use Rattle.std.proofs.Common.{◌≡◌, true, List, [], Some, sym, ◌∙◌, ap, subst, arith}
use Rattle.std.specs.Prelude.{Contains}
use Rattle.world_model.specs.Words.{NodeId, Policy, Request, Desk, Standing, Label, Wiring, labels_of, Linked, port_key, standing_at, Topology, World, Site, site_at, is_empty, IsNode, IsTopology, IsShaped, IsRun}
use Rattle.world_model.specs.Topology.{peer_of}
use Rattle.world_model.specs.network_model.declared.link.LinkEnd.{LinkEnd}
use Rattle.world_model.specs.network_model.declared.event.Event.{Event}
use Rattle.law_live_journeys.proofs.law_causes.Shown.{peer_back}
use Rattle.law_live_journeys.proofs.law_packet_worlds.Nets.{world_net}
use Rattle.law_live_journeys.specs.law_run_facts.ordered_lists.Ordered.{Every}
use Rattle.law_live_journeys.specs.law_run_facts.law_world_views.Fronts.{HasAddresses}
use Rattle.law_live_journeys.proofs.law_run_facts.ordered_lists.Every.{every_map}
use Rattle.law_live_journeys.proofs.law_run_facts.law_port_facts.Keyed.{at_every}
use Rattle.law_live_journeys.proofs.law_run_facts.Nodes.{runs_have_nodes}
use Rattle.law_live_journeys.proofs.law_run_facts.Rooms.{runs_keep_nodes}
use Rattle.law_live_journeys.specs.law_live_hearing.Law.{world_at}
use Rattle.law_live_journeys.proofs.law_live_hearing.Places.{down_empty, up_empty}
use Rattle.law_live_journeys.specs.law_live_bindings.Law.{label_branch}
use Rattle.law_live_journeys.specs.law_live_binding_beats.Law.{NoneWires, AreStill}
use Rattle.law_live_journeys.proofs.law_live_binding_beats.Going.{still_ends_agree}
use Rattle.law_live_journeys.proofs.law_live_desks.Sites.{stands_in}
use Rattle.law_live_journeys.proofs.law_live_desks.Events.{resting_desks_are_empty}
use Rattle.law_live_journeys.proofs.law_live_peace.Runs.{none_coming}
use Rattle.law_live_journeys.specs.law_live_calm_nodes.Networks.{IsLinkInPeace, IsNetworkInPeace}
use Rattle.law_live_ease.specs.Law.{IsAsked, IsAtEase, Binds}
use Rattle.law_live_ease.specs.Settling.{HasHeard, BindingNetworksRest}

-- *Where nothing stands* nothing is asked
nothing_in : (s : Standing) → Contains [] s → ⊥
nothing_in s c = omega (arith, c.1)

none_asked : (desk : Desk) (request : Request) → desk.standing ≡ [] → IsAsked desk request → ⊥
none_asked desk request empty is = nothing_in is.standing (subst (λ (xs : List Standing). Contains xs is.standing) empty is.stands)

module _ (policy : Policy) (topology : Topology) (events : List Event) (run : IsRun policy topology events) (addresses : HasAddresses topology)
    (b : Binds topology (world_at policy topology events)) (empty : is_empty (world_at policy topology events) ≡ true) where
  abbrev w : World
  w = world_at policy topology events

  is : IsTopology topology
  is = run.topology_is

  shaped : IsShaped w
  shaped = (world_net policy topology events (runs_have_nodes policy topology events addresses run) (runs_keep_nodes policy topology events run)).shaped

  none_stands : (node : NodeId) → IsNode topology node → standing_at w node ≡ []
  none_stands node inside = resting_desks_are_empty.empty w node (down_empty policy topology is events node inside empty) (up_empty policy topology is events node inside empty)
      (b.desks node inside)

  empty_desk : (node : NodeId) (site : Site) → site_at w node ≡ Some site → site.controller.desk.standing ≡ []
  empty_desk node site found = sym (ap stands_in found) ∙ none_stands node (runs_have_nodes policy topology events addresses run node site found).is_node.number

  -- *No label is being wired*, since its branch would stand
  none_wires : (one : LinkEnd) → NoneWires w one
  none_wires one linked shows =
      let desk : Desk = shows.site.controller.desk in
      every_map (λ (label : Label). label.state ≡ Wiring → IsAsked desk (label_branch linked.setup label.number)) (λ (label : Label). label.state ≡ Wiring → ⊥) (labels_of linked.port)
      (λ label asks wiring. none_asked desk (label_branch linked.setup label.number) (empty_desk one.node shows.site shows.there) (asks wiring))
      (at_every port_key (λ (x : Linked). Every (λ (label : Label). label.state ≡ Wiring → IsAsked desk (label_branch x.setup label.number)) (labels_of x.port)) one.port.0 shows.site.controller.ports linked
      (b.steady one.node shows.site shows.there).ties.wiring shows.of_port)

  -- *So the ends of each link agree*
  still : (one far : LinkEnd) → peer_of topology one.node one.port ≡ Some far → AreStill w one far
  still one far linked = record {
    empty = none_coming policy topology events is one far linked empty;
    far_empty = none_coming policy topology events is far one (peer_back topology is one far linked).back empty;
    none_wires = none_wires one;
    far_none_wires = none_wires far;
  }

  link : (one far : LinkEnd) → peer_of topology one.node one.port ≡ Some far → IsLinkInPeace topology w one far
  link one far linked = record {
    agree = still_ends_agree w one far (b.links one far linked).ends (still one far linked);
    is_open = (b.links one far linked).there;
  }

  module _ (heard : (node : NodeId) → HasHeard (world_at policy topology events) node) where
    in_peace : IsNetworkInPeace topology w
    in_peace = record {
      empty = empty;
      shaped = shaped;
      met = λ node inside. (b.nodes node inside).calm;
      heard = λ node. (heard node).controller;
      links = link;
    }

    pub at_ease : IsAtEase topology w
    at_ease = record {
      peace = record {
        lasting = record { peace = in_peace; nothing_stands = none_stands; heard = λ node inside. (heard node).switch };
        mirrored = λ node inside. (b.nodes node inside).mirrored;
      };
      steady = b.steady;
    }

pub binding_networks_rest : BindingNetworksRest
binding_networks_rest policy topology events run addresses tame b empty heard = at_ease policy topology events run addresses b empty heard
