-- flows that are one, and the flow one hop further

use Rattle.std.proofs.Common.{◌≡◌, ℕ, ◌≤◌, Bool, true, false, Option, None, Some, refl, sym, ◌∙◌, ap, arith, if◌then◌else◌}
use Rattle.std.specs.Prelude.{◌==◌, ◌&&◌, ◌-◌, nat_le}
use Rattle.std.proofs.lemmas.Bool.Decides.{nat_tests}
use Rattle.law_controller.specs.world_model.Words.{Addr, PortNo, FlowId, flow_ttl, at_ttl, next_hop_of, flow_destination, same_flow, Next, Local, Via, same_next}
use Rattle.law_controller.specs.world_model.ipv4_packet.declared.flow.FlowId.TheVariants.{One, Two}
use Rattle.law_controller.proofs.law_port_facts.Rules.{and_first, and_second}

number_same : (m n : ℕ) → (m == n) ≡ true → m ≡ n
number_same m n e = grind (arith, nat_tests)

address_same : (a b : Addr) → (a.0 == b.0) ≡ true → a ≡ b
address_same a b e = ap (λ (n : ℕ). record { 0 = n }) (number_same a.0 b.0 e)

-- *Flows that are the same* are one
pub one_flow : (f g : FlowId) → same_flow f g ≡ true → f ≡ g
one_flow (One tos ttl protocol source destination from to) (One tos2 ttl2 protocol2 source2 destination2 from2 to2) e =
    let head = and_first (tos == tos2 && (ttl == ttl2 && protocol == protocol2)) _ e in
    let tail = and_second (tos == tos2 && (ttl == ttl2 && protocol == protocol2)) _ e in
    let hops = and_second (tos == tos2) _ head in
    let hosts = and_first (source.0 == source2.0 && destination.0 == destination2.0) _ tail in
    let ports = and_second (source.0 == source2.0 && destination.0 == destination2.0) _ tail in
    let a : tos ≡ tos2 = number_same tos tos2 (and_first (tos == tos2) _ head) in
    let b : ttl ≡ ttl2 = number_same ttl ttl2 (and_first (ttl == ttl2) _ hops) in
    let c : protocol ≡ protocol2 = number_same protocol protocol2 (and_second (ttl == ttl2) _ hops) in
    let d : source ≡ source2 = address_same source source2 (and_first (source.0 == source2.0) _ hosts) in
    let h : destination ≡ destination2 = address_same destination destination2 (and_second (source.0 == source2.0) _ hosts) in
    let i : from ≡ from2 = number_same from from2 (and_first (from == from2) _ ports) in
    let j : to ≡ to2 = number_same to to2 (and_second (from == from2) _ ports) in
    cc
one_flow (Two ttl source destination) (Two ttl2 source2 destination2) e =
    let hosts = and_second (ttl == ttl2) _ e in
    let b : ttl ≡ ttl2 = number_same ttl ttl2 (and_first (ttl == ttl2) _ e) in
    let d : source ≡ source2 = address_same source source2 (and_first (source.0 == source2.0) _ hosts) in
    let h : destination ≡ destination2 = address_same destination destination2 (and_second (source.0 == source2.0) _ hosts) in
    cc
one_flow (One tos ttl protocol source destination from to) (Two ttl2 source2 destination2) e = absurd (cc e)
one_flow (Two ttl source destination) (One tos2 ttl2 protocol2 source2 destination2 from2 to2) e = absurd (cc e)

-- *One hop further* a flow goes to the same destination
further_destination : (flow : FlowId) (ttl : ℕ) → flow_destination (at_ttl flow ttl) ≡ flow_destination flow
further_destination (One tos ttl protocol source destination from to) n = refl
further_destination (Two ttl source destination) n = refl

pub next_destination : (flow next : FlowId) → next_hop_of flow ≡ Some next → flow_destination next ≡ flow_destination flow
next_destination flow next e = by_test (nat_le (flow_ttl flow) 1) e
  where
    by_test : (b : Bool) → (if b then None else Some (at_ttl flow (flow_ttl flow - 1))) ≡ Some next → flow_destination next ≡ flow_destination flow
    by_test true e = absurd (cc e)
    by_test false e = (let same : at_ttl flow (flow_ttl flow - 1) ≡ next = cc in ap flow_destination (sym same) ∙ further_destination flow (flow_ttl flow - 1))

-- and it lived
pub next_lives : (flow next : FlowId) → next_hop_of flow ≡ Some next → 2 ≤ flow_ttl flow
next_lives flow next e = by_test (nat_le (flow_ttl flow) 1) refl e
  where
    by_test : (b : Bool) → nat_le (flow_ttl flow) 1 ≡ b → (if b then None else Some (at_ttl flow (flow_ttl flow - 1))) ≡ Some next → 2 ≤ flow_ttl flow
    by_test true t e = absurd (cc e)
    by_test false t e = grind (arith, nat_tests)

-- *Routes that are the same* go by one port
pub same_via : (port : PortNo) (o : Option Next) → same_next (Some (Via port)) o ≡ true → o ≡ Some (Via port)
same_via port None e = absurd (cc e)
same_via port (Some Local) e = absurd (cc e)
same_via port (Some (Via other)) e = (let same : port ≡ other = ap (λ (n : ℕ). record { 0 = n }) (number_same port.0 other.0 e) in ap (λ (p : PortNo). Some (Via p)) (sym same))
