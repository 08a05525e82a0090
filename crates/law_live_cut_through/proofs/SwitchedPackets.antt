-- a packet and its flow: how long it lives, where it goes, and the grant that is found for it

use Rattle.std.proofs.Common.{◌≡◌, ℕ, ◌-◌, List, Option, None, Some, refl, sym, ◌∙◌, ap, subst}
use Rattle.std.specs.Option.{option_or, option_map_or}
use Rattle.world_model.specs.Words.{FlowId, FlowKind, kind_of, flow_of, flow_ttl, flow_destination, packet_flow, ttl_of, destination_of, Grant, grant_for, grant_matching}
use Rattle.world_model.specs.port_model.Grants.{grant_of_kind}
use Rattle.world_model.specs.ipv4_packet.declared.flow.FlowId.TheVariants.{One, Two}
use Rattle.world_model.specs.ipv4_packet.declared.flow.FlowKind.TheVariants.{One as ConnectionKind, Two as HostsKind}
use Rattle.calm_model.specs.Ways.{one_hop}
use Rattle.law_live_ease.proofs.law_packet_worlds.Hops.{some_flow, flow_tells}

kind_is : (kind : FlowKind) (packet : List ℕ) (flow : FlowId) → flow_of kind packet ≡ Some flow → kind_of flow ≡ kind
kind_is ConnectionKind packet flow e = let same = some_flow _ _ flow e in ap kind_of (sym same)
kind_is HostsKind packet flow e = let same = some_flow _ _ flow e in ap kind_of (sym same)

-- *What its flow tells*, of whichever kind
pub record TellsOf (packet : List ℕ) (flow : FlowId) : Type 0 where
  pub ttl : flow_ttl flow ≡ ttl_of packet
  pub destination : flow_destination flow ≡ destination_of packet
  pub own : flow_of (kind_of flow) packet ≡ Some flow

tells_by : (kind : FlowKind) (packet : List ℕ) (flow : FlowId) → flow_of kind packet ≡ Some flow → TellsOf packet flow
tells_by kind packet flow e =
    let t = flow_tells kind flow packet e in
    record { ttl = t.0; destination = t.1; own = subst (λ (k : FlowKind). flow_of k packet ≡ Some flow) (sym (kind_is kind packet flow e)) e }

pub tells : (packet : List ℕ) (flow : FlowId) → packet_flow packet ≡ Some flow → TellsOf packet flow
tells packet flow = by (flow_of ConnectionKind packet) refl
  where
    by : (o : Option FlowId) → flow_of ConnectionKind packet ≡ o → option_or o (flow_of HostsKind packet) ≡ Some flow → TellsOf packet flow
    by (Some f) is e = tells_by ConnectionKind packet flow (is ∙ e)
    by None is e = tells_by HostsKind packet flow e

abbrev through : List Grant → Option FlowId → Option Grant
through grants o = option_map_or (grant_for grants) o None

-- *Its grant*: by its flow of the first kind, and else by that of the second
pub grant_found : (grants : List Grant) (packet : List ℕ) (flow : FlowId) (grant : Grant) → packet_flow packet ≡ Some flow → grant_for grants flow ≡ Some grant
    → grant_matching grants packet ≡ Some grant
grant_found grants packet flow grant of found = by (flow_of ConnectionKind packet) refl of
  where
    by : (o : Option FlowId) → flow_of ConnectionKind packet ≡ o → option_or o (flow_of HostsKind packet) ≡ Some flow → grant_matching grants packet ≡ Some grant
    by (Some f) is e = ap (λ (o : Option FlowId). option_or (through grants o) (grant_of_kind grants HostsKind packet)) (is ∙ e)
        ∙ ap (λ (o : Option Grant). option_or o (grant_of_kind grants HostsKind packet)) found
    by None is e = ap (λ (o : Option FlowId). option_or (through grants o) (grant_of_kind grants HostsKind packet)) is ∙ (ap (through grants) e ∙ found)

-- *One hop further*
pub less_ttl : (flow : FlowId) → flow_ttl (one_hop flow) ≡ flow_ttl flow - 1
less_ttl (One tos ttl protocol source destination source_port destination_port) = refl
less_ttl (Two ttl source destination) = refl
