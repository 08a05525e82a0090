-- a flow is cut through where its way stands

use Rattle.std.proofs.Common.{◌≡◌, ℕ, true, List, [], ◌∷◌, None, Some, sym, subst}
use Rattle.world_model.specs.Words.{NodeId, Policy, ByController, label_end, control_end, FlowId, grant_label, output_at, is_empty, Topology, World}
use Rattle.world_model.specs.Topology.{peer_of}
use Rattle.world_model.specs.network_model.declared.link.LinkEnd.{LinkEnd}
use Rattle.world_model.specs.network_model.declared.event.Event.{Event}
use Rattle.world_model.proofs.Lists.{at_key}
use Rattle.calm_model.specs.Ways.{one_hop}
use Rattle.calm_model.specs.CutThrough.{IsOffered, IsLedAlong, IsCutThrough}
use Rattle.law_live_ease.specs.law_live_hearing.Law.{world_at}
use Rattle.law_live_ease.specs.law_live_journeys.Hops.{IsStretch}
use Rattle.law_live_cut_through.specs.Law.{HoldsLabel, HoldsGrant, AreJoinedOn, BindsAlone, WayStands}
use Rattle.law_live_cut_through.specs.Later.{StandingWaysCutThrough}
use Rattle.law_live_cut_through.proofs.SwitchedGiven.{Given}

-- a grant has the number under which it is found
pub own_label : (w : World) (one : LinkEnd) (number : ℕ) (flow : FlowId) (h : HoldsGrant w one number flow ByController) → h.grant.label ≡ number
own_label w one number flow h = at_key grant_label number h.linked.port.grants h.grant h.held

module _ (given : Given) (policy : Policy) (topology : Topology) (events rest : List Event) (stretch : IsStretch policy topology events rest)
    (alone : BindsAlone topology (world_at policy topology events)) (empty : is_empty (world_at policy topology events) ≡ true) where
  abbrev w : World
  w = world_at policy topology events

  offered : (far : LinkEnd) (number : ℕ) (flow : FlowId) {join : _} → HoldsLabel w far number flow join → IsOffered w far number flow
  offered far number flow h = record { linked = h.linked; shown = h.shown; label = h.label; held = h.held; offered = h.offered; of_flow = h.of_flow }

  -- *From an end on*
  led_along : (one far : LinkEnd) (number : ℕ) (flow : FlowId) (ends : List LinkEnd) → peer_of topology one.node one.port ≡ Some far
      → AreJoinedOn topology w far number flow ends → IsLedAlong topology w far number flow ends
  led_along one far number flow [] linked l = record {
    offered = offered far number flow l.label;
    leads = given.labels_lead policy topology events rest stretch alone one far linked number flow None l.label empty;
  }
  led_along one far number flow (further ∷ ends) linked j = (
    record {
      offered = offered far number flow j.0.label;
      port = j.0.port;
      linked = j.0.linked;
      label = j.0.next;
      leads = given.labels_lead policy topology events rest stretch alone one far linked number flow (Some (label_end j.0.port j.0.next)) j.0.label empty;
    },
    led_along (record { node = far.node; port = j.0.port }) further j.0.next (one_hop flow) ends j.0.linked j.1,
  )

  cut_through : (node : NodeId) (flow : FlowId) (far : LinkEnd) (ends : List LinkEnd) → WayStands topology w node flow far ends → IsCutThrough topology w node flow far ends
  cut_through node flow far ends s =
      let one : LinkEnd = record { node = node; port = s.port } in
      let same : s.number ≡ s.grant.grant.label = sym (own_label w one s.number (one_hop flow) s.grant) in
      record {
        first = record {
          port = s.port;
          linked = s.linked;
          route = s.route;
          grant = s.grant.grant;
          sends = given.grants_found policy topology events rest stretch alone one far s.linked s.number (one_hop flow) s.alone s.grant;
          leads = subst (λ (n : ℕ). output_at w node (control_end s.port n) ≡ Some (label_end s.port n)) same
              (given.grants_lead policy topology events rest stretch alone one far s.linked s.number (one_hop flow) ByController s.grant empty);
        };
        on = subst (λ (n : ℕ). IsLedAlong topology w far n (one_hop flow) ends) same (led_along one far s.number (one_hop flow) ends s.linked s.joined);
      }

pub ways_cut_through : Given → StandingWaysCutThrough
ways_cut_through given policy topology events rest node flow far ends stretch alone empty s = cut_through given policy topology events rest stretch alone empty node flow far ends s
