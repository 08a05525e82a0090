-- the flow of a packet, and the grant under which it is sent

use Rattle.std.proofs.Common.{◌≡◌, ◌≢◌, ℕ, ◌==◌, ◌&&◌, Bool, true, false, List, Option, None, Some, refl, sym, ◌∙◌, ap, subst, if◌then◌else◌}
use Rattle.std.specs.Prelude.{not}
use Rattle.std.specs.Option.{option_or, option_and_then, option_map_or}
use Rattle.world_model.specs.Words.{Addr, FlowId, FlowKind, kind_of, flow_of, flow_ttl, flow_destination, packet_flow, ttl_of, destination_of, tos_of, protocol_of, source_of, shows_ports, same_flow, Grant, GrantState, Idle, ByController, ByInput, Leaving, grant_label, is_by_controller, grant_for, grant_matching, at}
use Rattle.world_model.specs.ipv4_packet.declared.flow.FlowId.TheVariants.{One, Two}
use Rattle.world_model.specs.ipv4_packet.declared.flow.FlowKind.TheVariants.{One as ConnectionKind, Two as HostsKind}
use Rattle.calm_model.specs.Served.{hosts_of}
use Rattle.law_live_ease.proofs.law_packet_worlds.Hops.{flow_tells}
use Rattle.law_live_ease.specs.law_port_facts.ordered_lists.Ordered.{InOrder}
use Rattle.law_live_ease.proofs.law_port_facts.Found.{find_passes, find_every}
use Rattle.law_live_ease.proofs.law_port_facts.Keyed.{each_found}
use Rattle.law_live_ease.proofs.law_run_facts.law_controller_bindings.Flows.{one_flow}

flow_is : (f g : FlowId) → Some f ≡ Some g → f ≡ g
flow_is f g e = cc

-- *A flow of type 1*: its kind, and the flow of type 2 of the same packet
of_ports : (x s : Bool) (tos ttl protocol : ℕ) (source destination : Addr) (here there : ℕ) (flow : FlowId)
    → (if x && s then Some (One tos ttl protocol source destination here there) else None) ≡ Some flow
    → (kind_of flow ≡ ConnectionKind) × ((if x then Some (Two ttl source destination) else None) ≡ hosts_of flow)
of_ports true true tos ttl protocol source destination here there flow e =
    let is : One tos ttl protocol source destination here there ≡ flow = flow_is (One tos ttl protocol source destination here there) flow e in
    (sym (ap kind_of is), ap hosts_of is)
of_ports true false tos ttl protocol source destination here there flow e = absurd (cc e)
of_ports false s tos ttl protocol source destination here there flow e = absurd (cc e)

of_hosts : (x : Bool) (ttl : ℕ) (source destination : Addr) (flow : FlowId) → (if x then Some (Two ttl source destination) else None) ≡ Some flow → kind_of flow ≡ HostsKind
of_hosts true ttl source destination flow e = sym (ap kind_of (flow_is (Two ttl source destination) flow e))
of_hosts false ttl source destination flow e = absurd (cc e)

module _ (packet : List ℕ) (flow : FlowId) where
  first_kind : flow_of ConnectionKind packet ≡ Some flow → (kind_of flow ≡ ConnectionKind) × (flow_of HostsKind packet ≡ hosts_of flow)
  first_kind e = of_ports (not (ttl_of packet == 0)) (shows_ports packet) (tos_of packet) (ttl_of packet) (protocol_of packet) (source_of packet) (destination_of packet) _ _ flow e

  second_kind : flow_of HostsKind packet ≡ Some flow → kind_of flow ≡ HostsKind
  second_kind e = of_hosts (not (ttl_of packet == 0)) (ttl_of packet) (source_of packet) (destination_of packet) flow e

  -- *Its kind* is that of the flow
  pub of_kind : packet_flow packet ≡ Some flow → flow_of (kind_of flow) packet ≡ Some flow
  of_kind e = by (flow_of ConnectionKind packet) refl e
    where
      by : (o : Option FlowId) → flow_of ConnectionKind packet ≡ o → option_or o (flow_of HostsKind packet) ≡ Some flow → flow_of (kind_of flow) packet ≡ Some flow
      by (Some f) t e =
          let is : flow_of ConnectionKind packet ≡ Some flow = t ∙ e in
          subst (λ (kind : FlowKind). flow_of kind packet ≡ Some flow) (sym (first_kind is).0) is
      by None t e = subst (λ (kind : FlowKind). flow_of kind packet ≡ Some flow) (sym (second_kind e)) e

  pub lives_so : packet_flow packet ≡ Some flow → flow_ttl flow ≡ ttl_of packet
  lives_so e = (flow_tells (kind_of flow) flow packet (of_kind e)).0

  pub goes_there : packet_flow packet ≡ Some flow → flow_destination flow ≡ destination_of packet
  goes_there e = (flow_tells (kind_of flow) flow packet (of_kind e)).1

  -- *The grant for it* is one of its flow, where there is none of its hosts alone
  pub matching_is : (grants : List Grant) → packet_flow packet ≡ Some flow → option_and_then (grant_for grants) (hosts_of flow) ≡ None
      → grant_matching grants packet ≡ grant_for grants flow
  matching_is grants e none = by (flow_of ConnectionKind packet) refl e
    where
      as_found : (o : Option FlowId) → option_map_or (grant_for grants) o None ≡ option_and_then (grant_for grants) o
      as_found None = refl
      as_found (Some f) = refl

      or_none : (o : Option Grant) → option_or o None ≡ o
      or_none None = refl
      or_none (Some g) = refl

      by : (o : Option FlowId) → flow_of ConnectionKind packet ≡ o → option_or o (flow_of HostsKind packet) ≡ Some flow
          → grant_matching grants packet ≡ grant_for grants flow
      by (Some f) t e =
          let is : flow_of ConnectionKind packet ≡ Some flow = t ∙ e in
          ap (λ (o : Option FlowId). option_or (option_map_or (grant_for grants) o None) (option_map_or (grant_for grants) (flow_of HostsKind packet) None)) is
          ∙ (ap (λ (o : Option Grant). option_or (grant_for grants flow) o)
          (ap (λ (o : Option FlowId). option_map_or (grant_for grants) o None) (first_kind is).1 ∙ (as_found (hosts_of flow) ∙ none))
          ∙ or_none (grant_for grants flow))
      by None t e =
          ap (λ (o : Option FlowId). option_or (option_map_or (grant_for grants) o None) (option_map_or (grant_for grants) (flow_of HostsKind packet) None)) t
          ∙ ap (λ (o : Option FlowId). option_map_or (grant_for grants) o None) e

-- *A grant that is found* for a flow is of it, and the controller sends under it
first_so : (a b : Bool) → (a && b) ≡ true → a ≡ true
first_so true b e = refl
first_so false b e = absurd (cc e)

second_so : (a b : Bool) → (a && b) ≡ true → b ≡ true
second_so true b e = e
second_so false b e = absurd (cc e)

by_controller : (state : GrantState) → is_by_controller state ≡ true → state ≡ ByController
by_controller ByController e = refl
by_controller Idle e = absurd (cc e)
by_controller (ByInput input) e = absurd (cc e)
by_controller (Leaving input owed) e = absurd (cc e)

pub record IsFoundGrant (grants : List Grant) (flow : FlowId) (grant : Grant) : Type 0 where
  pub held : at grant_label grant.label grants ≡ Some grant
  pub of_flow : grant.flow ≡ flow
  pub state : grant.state ≡ ByController

pub found_grant : (grants : List Grant) (flow : FlowId) (grant : Grant) → InOrder (λ (a b : Grant). grant_label a ≢ grant_label b) grants
    → grant_for grants flow ≡ Some grant → IsFoundGrant grants flow grant
found_grant grants flow grant apart e =
    let passes : (is_by_controller grant.state && same_flow grant.flow flow) ≡ true =
    find_passes (λ (g : Grant). is_by_controller g.state && same_flow g.flow flow) grants grant e in
    record {
      held = find_every (λ (g : Grant). at grant_label (grant_label g) grants ≡ Some g) (λ (g : Grant). is_by_controller g.state && same_flow g.flow flow) grants grant
          (each_found grant_label grants apart) e;
      of_flow = one_flow grant.flow flow (second_so (is_by_controller grant.state) (same_flow grant.flow flow) passes);
      state = by_controller grant.state (first_so (is_by_controller grant.state) (same_flow grant.flow flow) passes);
    }
