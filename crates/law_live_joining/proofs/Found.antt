-- where a join comes from: the first grant of the port to which its flow's route leads

use Rattle.std.proofs.Common.{◌≡◌, Bool, true, false, Option, None, Some, refl, sym, subst}
use Rattle.std.specs.Prelude.{◌&&◌}
use Rattle.std.specs.Option.{option_map}
use Rattle.world_model.specs.Words.{PortNo, End, FlowId, same_flow, best, flow_destination, next_hop_of, at, Grant, grant_label, grant_for, is_by_controller, Controller, Linked, linked_at, port_key, join_by, join_for, join_through, port_by}
use Rattle.world_model.specs.Joins.{Join}
use Rattle.law_port_facts.specs.ordered_lists.Ordered.{Every}
use Rattle.law_port_facts.proofs.Keyed.{at_key, at_every, apart_at}
use Rattle.law_port_facts.proofs.Found.{find_passes}
use Rattle.law_live_ports.proofs.Keeping.{HasApart}

-- *Where a join comes from*: it is to the first grant of its port for the next hop's flow
pub record Found (c : Controller) (input : End) (flow : FlowId) (join : Join) : Type 0 where
  pub g : Linked
  pub there : at port_key (port_key g) c.ports ≡ Some g
  pub grant : Grant
  pub is : join ≡ record { input = input; port = g.setup.port; grant = grant }
  pub granted : at grant_label grant.label g.port.grants ≡ Some grant
  pub own : is_by_controller grant.state ≡ true
  pub port : PortNo
  pub route : port_by (best c.table (flow_destination flow)) ≡ Some port
  pub by_port : port.0 ≡ port_key g
  pub next : FlowId
  pub hop : next_hop_of flow ≡ Some next
  pub as_flow : same_flow grant.flow next ≡ true

pub both : (x y : Bool) → (x && y) ≡ true → (x ≡ true) × (y ≡ true)
both true y e = (refl, e)
both false y e = absurd (cc e)

module _ (c : Controller) (apart : Every HasApart c.ports) (input : End) (flow : FlowId) (join : Join) where
  module _ (port : PortNo) (route : port_by (best c.table (flow_destination flow)) ≡ Some port) (next : FlowId) (hop : next_hop_of flow ≡ Some next) where
    by_grant : (g : Linked) → linked_at c port ≡ Some g → (o : Option Grant) → grant_for g.port.grants next ≡ o
        → option_map (λ (grant : Grant). let j : Join = record { input = input; port = g.setup.port; grant = grant } in j) o ≡ Some join → Found c input flow join
    by_grant g found None first e = absurd (cc e)
    by_grant g found (Some grant) first e = record {
      g = g;
      there = there;
      grant = grant;
      is = sym (one (record { input = input; port = g.setup.port; grant = grant }) join e);
      granted = apart_at grant_label (λ (x : Grant). is_by_controller x.state && same_flow x.flow next) g.port.grants grant (at_every port_key HasApart (port_key g) c.ports g apart there) first;
      own = passes.0;
      port = port;
      route = route;
      by_port = sym (at_key port_key port.0 c.ports g found);
      next = next;
      hop = hop;
      as_flow = passes.1;
    }
      where
        one : (x y : Join) → Some x ≡ Some y → x ≡ y
        one x y e = cc

        there : at port_key (port_key g) c.ports ≡ Some g
        there = subst (λ n. at port_key n c.ports ≡ Some g) (sym (at_key port_key port.0 c.ports g found)) found

        passes : (is_by_controller grant.state ≡ true) × (same_flow grant.flow next ≡ true)
        passes = both (is_by_controller grant.state) (same_flow grant.flow next) (find_passes (λ (x : Grant). is_by_controller x.state && same_flow x.flow next) g.port.grants grant first)

    by_linked : (o : Option Linked) → linked_at c port ≡ o → join_through input next o ≡ Some join → Found c input flow join
    by_linked None found e = absurd (cc e)
    by_linked (Some g) found e = by_grant g found (grant_for g.port.grants next) refl e

  by_hop : (port : PortNo) → port_by (best c.table (flow_destination flow)) ≡ Some port → (n : Option FlowId) → next_hop_of flow ≡ n → join_by c input (Some port) n ≡ Some join → Found c input flow join
  by_hop port route None hop e = absurd (cc e)
  by_hop port route (Some next) hop e = by_linked port route next hop (linked_at c port) refl e

  by_route : (o : Option PortNo) → port_by (best c.table (flow_destination flow)) ≡ o → join_by c input o (next_hop_of flow) ≡ Some join → Found c input flow join
  by_route None route e = absurd (cc e)
  by_route (Some port) route e = by_hop port route (next_hop_of flow) refl e

  pub found : join_for c input flow ≡ Some join → Found c input flow join
  found e = by_route (port_by (best c.table (flow_destination flow))) refl e
