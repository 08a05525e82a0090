-- what of packets, flows and routes the law of packets uses

use Rattle.std.proofs.Common.{◌≡◌, ℕ, ◌-◌, ◌<◌, ◌≤◌, ◌==◌, Bool, true, false, nat_lt, nat_le, List, length, Option, None, Some, Ok, refl, sym, ◌∙◌, ap, ap₂, subst, arith, if◌then◌else◌}
use Rattle.std.proofs.lemmas.Bool.Decides.{nat_tests}
use Rattle.std.proofs.lemmas.List.{length-set}
use Rattle.law_arrival_views.specs.world_model.Words.{ttl_of, destination_of, protocol_of, with_ttl, canonical, IsPacket, PacketFault, Refusal, ControlProtocol, control_protocol, refused_by, inject_refusal, best, hop_by, hop_of, onward, Next, Local, Via, Hop, Here, On, PortNo, FlowKind, FlowId, flow_destination, kind_of, flow_ttl, at_ttl, flow_of, next_hop_of, default_payload, default_unwrapped, unwrapped, unwrapped_by, labelled_payload, Carries}
use Rattle.law_arrival_views.specs.world_model.ipv4_packet.Packet.{first_fault}
use Rattle.law_arrival_views.proofs.octet_fields.FieldLemmas.{AreOctets}
use Rattle.law_arrival_views.proofs.world_model.ipv4_packet.HeaderLemmas.{IsPacket-with_ttl}
use Rattle.law_arrival_views.proofs.world_model.ipv4_packet.RouteLemmas.{canonical-canonical, protocol_of-rerouted}
use Rattle.law_packet_worlds.proofs.Onward.{fault_onward}
use Rattle.law_arrival_views.proofs.law_controller_facts.Onward.{packet_of}
use Rattle.law_arrival_views.specs.world_model.ipv4_forward.declared.table.Route.{Route}
use Rattle.law_arrival_views.specs.world_model.ipv4_forward.declared.outcome.Hop.TheVariants.{NoRoute, Expired}
use Rattle.law_arrival_views.specs.world_model.ipv4_packet.declared.flow.FlowKind.TheVariants.{One as ConnectionKind, Two as HostsKind}
use Rattle.law_arrival_views.proofs.world_model.flow_encaps.CarryLemmas.{packet-carried, unwrap_fault-carried, Carries-next_hop}

-- where packets of a flow go
abbrev pub flow_hop : List Route → FlowId → Hop
flow_hop routes flow = hop_by (flow_ttl flow) (best routes (flow_destination flow))

-- a packet's flow has its time to live and its destination
pub some_flow : (test : Bool) (flow other : FlowId) → (if test then Some flow else None) ≡ Some other → flow ≡ other
some_flow true flow other e = cc
some_flow false flow other e = absurd (cc e)

pub flow_tells : (kind : FlowKind) (flow : FlowId) (packet : List ℕ) → flow_of kind packet ≡ Some flow → (flow_ttl flow ≡ ttl_of packet) × (flow_destination flow ≡ destination_of packet)
flow_tells ConnectionKind flow packet e =
    let same = some_flow _ _ flow e in (ap flow_ttl (sym same), ap flow_destination (sym same))
flow_tells HostsKind flow packet e =
    let same = some_flow _ _ flow e in (ap flow_ttl (sym same), ap flow_destination (sym same))

-- (1) the flow tells the packet's route
pub route_is : (routes : List Route) (flow : FlowId) (packet payload : List ℕ) → Carries flow packet payload → hop_of routes packet ≡ flow_hop routes flow
route_is routes flow packet payload c =
    let t = flow_tells (kind_of flow) flow packet c.of_flow in
    ap₂ (λ ttl destination. hop_by ttl (best routes destination)) (sym t.0) (sym t.1)

-- a hop needs a time to live above 1
alive_by : (ttl : ℕ) (next : Option Next) (port : PortNo) → hop_by ttl next ≡ On port → 1 < ttl
alive_by ttl None port e = absurd (cc e)
alive_by ttl (Some Local) port e = absurd (cc e)
alive_by ttl (Some (Via q)) port e =
    let by : (b : Bool) → nat_le ttl 1 ≡ b → (if b then Expired else On q) ≡ On port → 1 < ttl = λ b.
    elim b as (λ v. nat_le ttl 1 ≡ v → (if v then Expired else On q) ≡ On port → 1 < ttl) [ true ↦ λ t f. absurd (cc f) | false ↦ λ t f. grind (arith, nat_tests) ] in
    by (nat_le ttl 1) refl e

pub alive : (routes : List Route) (packet : List ℕ) (port : PortNo) → hop_of routes packet ≡ On port → 1 < ttl_of packet
alive routes packet port e = alive_by (ttl_of packet) (best routes (destination_of packet)) port e

next_is : (flow : FlowId) → 1 < flow_ttl flow → next_hop_of flow ≡ Some (at_ttl flow (flow_ttl flow - 1))
next_is flow more = let test : nat_le (flow_ttl flow) 1 ≡ false = grind (arith, nat_tests) in rw test refl

-- (2) a joined cell: the same payload is the next packet's, under the next flow's label
pub hop_carries : (routes : List Route) (flow : FlowId) (packet payload : List ℕ) (port : PortNo) → Carries flow packet payload → flow_hop routes flow ≡ On port
    → (next : FlowId) × (next_hop_of flow ≡ Some next) × Carries next (onward packet) payload
hop_carries routes flow packet payload port c on =
    let t = flow_tells (kind_of flow) flow packet c.of_flow in
    let more : 1 < flow_ttl flow = alive_by (flow_ttl flow) (best routes (flow_destination flow)) port on in
    let next : next_hop_of flow ≡ Some (at_ttl flow (flow_ttl flow - 1)) = next_is flow more in (
      at_ttl flow (flow_ttl flow - 1),
      next,
      subst (λ ttl. Carries (at_ttl flow (flow_ttl flow - 1)) (canonical (with_ttl packet (ttl - 1))) payload) t.0 (Carries-next_hop flow (at_ttl flow (flow_ttl flow - 1)) packet payload c next),
    )

-- (3) what is sent on is canonical, so a grant's label carries it
pub wraps : (flow : FlowId) (packet : List ℕ) → IsPacket packet → AreOctets (onward packet) → flow_of (kind_of flow) (onward packet) ≡ Some flow
    → Carries flow (onward packet) (labelled_payload (kind_of flow) (onward packet))
wraps flow packet p octets is = record {
  octets = λ i. omega (arith, octets i);
  is_packet = IsPacket-with_ttl packet (ttl_of packet - 1) p;
  is_canonical = canonical-canonical (with_ttl packet (ttl_of packet - 1)) (long (with_ttl packet (ttl_of packet - 1)) packet p);
  of_flow = is;
  filled = refl;
}
  where
    long : (other packet : List ℕ) → IsPacket packet → 20 ≤ length (with_ttl packet (ttl_of packet - 1))
    long other packet p = rw (length-set packet 8 (ttl_of packet - 1)) p.has_header

-- (4) and the receiver finds it
pub opens : (flow : FlowId) (packet payload : List ℕ) → Carries flow packet payload → unwrapped flow payload ≡ Ok packet
unfolding unwrapped
opens flow packet payload carried =
    ap (unwrapped_by flow payload) (unwrap_fault-carried flow packet payload carried) ∙ ap (λ (octets : List ℕ). Ok octets) (packet-carried flow packet payload carried)

-- *What may be sent*
-- what may be sent may be sent on
protocol_test : (b : Bool) → ◌≡◌ {A = Option Refusal} (if b then Some ControlProtocol else None) None → b ≡ false
protocol_test true e = absurd (cc e)
protocol_test false e = refl

parts_by : (octets : List ℕ) (fault : Option PacketFault) → refused_by octets fault ≡ None → (fault ≡ None) × ((protocol_of octets == control_protocol) ≡ false)
parts_by octets None e = (refl, protocol_test (protocol_of octets == control_protocol) e)
parts_by octets (Some fault) e = absurd (cc e)

pub accepted_parts : (octets : List ℕ) → inject_refusal octets ≡ None → (first_fault octets ≡ None) × ((protocol_of octets == control_protocol) ≡ false)
accepted_parts octets e = parts_by octets (first_fault octets) e

pub accepted_onward : (packet : List ℕ) → inject_refusal packet ≡ None → inject_refusal (onward packet) ≡ None
accepted_onward packet e =
    let parts = accepted_parts packet e in
    let protocol : protocol_of (onward packet) ≡ protocol_of packet = protocol_of-rerouted packet (ttl_of packet - 1) (packet_of packet parts.0).has_header in
    let other : (protocol_of (onward packet) == control_protocol) ≡ false = ap (λ n. n == control_protocol) protocol ∙ parts.1 in
    rw (fault_onward packet parts.0, other) refl

-- *What a hop is*, by the route
pub record IsHop (routes : List Route) (packet : List ℕ) (port : PortNo) : Type 0 where
  pub lives : 2 ≤ ttl_of packet
  pub routed : best routes (destination_of packet) ≡ Some (Via port)

on_by : (ttl : ℕ) (next : Option Next) (port : PortNo) → hop_by ttl next ≡ On port → next ≡ Some (Via port)
on_by ttl None port e = absurd (cc e)
on_by ttl (Some Local) port e = absurd (cc e)
on_by ttl (Some (Via q)) port e =
    let by : (b : Bool) → (if b then Expired else On q) ≡ On port → Some (Via q) ≡ Some (Via port) = λ b.
    elim b as (λ v. (if v then Expired else On q) ≡ On port → Some (Via q) ≡ Some (Via port)) [ true ↦ λ f. absurd (cc f) | false ↦ λ f. (let same : q ≡ port = cc in ap (λ (p : PortNo). Some (Via p)) same) ] in
    by (nat_le ttl 1) e

pub goes_on : (routes : List Route) (packet : List ℕ) (port : PortNo) → hop_of routes packet ≡ On port → IsHop routes packet port
goes_on routes packet port e = record { lives = omega (arith, alive routes packet port e); routed = on_by (ttl_of packet) (best routes (destination_of packet)) port e }

here_by : (ttl : ℕ) (next : Option Next) → hop_by ttl next ≡ Here → next ≡ Some Local
here_by ttl None e = absurd (cc e)
here_by ttl (Some Local) e = refl
here_by ttl (Some (Via q)) e =
    let by : (b : Bool) → (if b then Expired else On q) ≡ Here → Some (Via q) ≡ Some Local = λ b.
    elim b as (λ v. (if v then Expired else On q) ≡ Here → Some (Via q) ≡ Some Local) [ true ↦ λ f. absurd (cc f) | false ↦ λ f. absurd (cc f) ] in
    by (nat_le ttl 1) e

pub stays_here : (routes : List Route) (packet : List ℕ) → hop_of routes packet ≡ Here → best routes (destination_of packet) ≡ Some Local
stays_here routes packet e = here_by (ttl_of packet) (best routes (destination_of packet)) e

nowhere_by : (ttl : ℕ) (next : Option Next) → hop_by ttl next ≡ NoRoute → next ≡ None
nowhere_by ttl None e = refl
nowhere_by ttl (Some Local) e = absurd (cc e)
nowhere_by ttl (Some (Via q)) e =
    let by : (b : Bool) → (if b then Expired else On q) ≡ NoRoute → Some (Via q) ≡ None = λ b.
    elim b as (λ v. (if v then Expired else On q) ≡ NoRoute → Some (Via q) ≡ None) [ true ↦ λ f. absurd (cc f) | false ↦ λ f. absurd (cc f) ] in
    by (nat_le ttl 1) e

pub goes_nowhere : (routes : List Route) (packet : List ℕ) → hop_of routes packet ≡ NoRoute → best routes (destination_of packet) ≡ None
goes_nowhere routes packet e = nowhere_by (ttl_of packet) (best routes (destination_of packet)) e

pub record Expires (routes : List Route) (packet : List ℕ) : Type 0 where
  pub port : PortNo
  pub routed : best routes (destination_of packet) ≡ Some (Via port)
  pub ended : ttl_of packet ≤ 1

expired_by : (ttl : ℕ) (next : Option Next) → hop_by ttl next ≡ Expired → (port : PortNo) × (next ≡ Some (Via port)) × (ttl ≤ 1)
expired_by ttl None e = absurd (cc e)
expired_by ttl (Some Local) e = absurd (cc e)
expired_by ttl (Some (Via q)) e =
    let by : (b : Bool) → nat_le ttl 1 ≡ b → (if b then Expired else On q) ≡ Expired → (port : PortNo) × (Some (Via q) ≡ Some (Via port)) × (ttl ≤ 1) = λ b.
    elim b as (λ v. nat_le ttl 1 ≡ v → (if v then Expired else On q) ≡ Expired → (port : PortNo) × (Some (Via q) ≡ Some (Via port)) × (ttl ≤ 1)) [
      | true ↦ λ t f. (q, refl, grind (arith, nat_tests, t))
      | false ↦ λ t f. absurd (cc f)
    ] in
    by (nat_le ttl 1) refl e

pub expires : (routes : List Route) (packet : List ℕ) → hop_of routes packet ≡ Expired → Expires routes packet
expires routes packet e = (let x = expired_by (ttl_of packet) (best routes (destination_of packet)) e in record { port = x.0; routed = x.1; ended = x.2 })

-- *Under a label*: what a flow's label carries goes by the flow's route, and is carried on under the flow one hop further
pub record GoesOn (routes : List Route) (next : FlowId) (packet payload : List ℕ) (port : PortNo) : Type 0 where
  pub hop : IsHop routes packet port
  pub carried : Carries next (onward packet) payload

next_lives : (flow next : FlowId) → next_hop_of flow ≡ Some next → 1 < flow_ttl flow
next_lives flow next e =
    let by : (b : Bool) → nat_le (flow_ttl flow) 1 ≡ b → (if b then None else Some (at_ttl flow (flow_ttl flow - 1))) ≡ Some next → 1 < flow_ttl flow = λ b.
    elim b as (λ v. nat_le (flow_ttl flow) 1 ≡ v → (if v then None else Some (at_ttl flow (flow_ttl flow - 1))) ≡ Some next → 1 < flow_ttl flow) [
      | true ↦ λ t f. absurd (cc f)
      | false ↦ λ t f. grind (arith, nat_tests, t)
    ] in
    by (nat_le (flow_ttl flow) 1) refl e

pub carried_on : (routes : List Route) (flow next : FlowId) (packet payload : List ℕ) (port : PortNo) → Carries flow packet payload → best routes (flow_destination flow) ≡ Some (Via port)
    → next_hop_of flow ≡ Some next → GoesOn routes next packet payload port
carried_on routes flow next packet payload port c routed further =
    let t = flow_tells (kind_of flow) flow packet c.of_flow in
    record {
      hop = record {
        lives = omega (arith, next_lives flow next further, t.0);
        routed = ap (best routes) (sym t.1) ∙ routed;
      };
      carried = subst (λ ttl. Carries next (canonical (with_ttl packet (ttl - 1))) payload) t.0 (Carries-next_hop flow next packet payload c further);
    }

-- *Frames of default channels*
pub unwrapped_plain : (packet : List ℕ) → default_unwrapped (default_payload packet) ≡ Ok packet
unwrapped_plain packet =
    let long : nat_lt (length (default_payload packet)) 8 ≡ false = grind (arith, nat_tests) in
    rw long refl
