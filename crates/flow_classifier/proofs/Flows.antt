-- Flows: two are the same exactly where they are one.

use Rattle.std.proofs.Common.{◌≡◌, ℕ, ◌&&◌, nat_eq, Bool, true, false, refl, sym, ap, ◌∙◌}
use Rattle.std.proofs.lemmas.Bool.{eqb-true, eq-eqb}
use Rattle.net_types.specs.declared.prefix.Addr.{Addr}
use Rattle.ipv4_packet.specs.declared.flow.FlowId.{FlowId}
use Rattle.ipv4_packet.specs.declared.flow.FlowId.TheVariants.{One, Two}
use Rattle.ipv4_packet.specs.Parts.{same_flow}

left : (a b : Bool) → (a && b) ≡ true → a ≡ true
left true b h = refl
left false b h = h

right : (a b : Bool) → (a && b) ≡ true → b ≡ true
right true b h = h
right false b h = absurd (cc h)

pub not_true : (b : Bool) → (b ≡ true → ⊥) → b ≡ false
not_true true h = absurd (h refl)
not_true false h = refl

address : (a b : Addr) → nat_eq a.0 b.0 ≡ true → a ≡ b
address a b h = let e = eqb-true a.0 b.0 h in λ i. record { 0 = e i }

pub flow_from_same : (f g : FlowId) → same_flow f g ≡ true → f ≡ g
flow_from_same (One tos ttl protocol source destination from to) (One tos2 ttl2 protocol2 source2 destination2 from2 to2) h =
    let head = left (nat_eq tos tos2 && (nat_eq ttl ttl2 && nat_eq protocol protocol2)) _ h in
    let tail = right (nat_eq tos tos2 && (nat_eq ttl ttl2 && nat_eq protocol protocol2)) _ h in
    let hops = right (nat_eq tos tos2) _ head in
    let hosts = left (nat_eq source.0 source2.0 && nat_eq destination.0 destination2.0) _ tail in
    let ports = right (nat_eq source.0 source2.0 && nat_eq destination.0 destination2.0) _ tail in
    let e1 = eqb-true tos tos2 (left (nat_eq tos tos2) _ head) in
    let e2 = eqb-true ttl ttl2 (left (nat_eq ttl ttl2) _ hops) in
    let e3 = eqb-true protocol protocol2 (right (nat_eq ttl ttl2) _ hops) in
    let e4 = address source source2 (left (nat_eq source.0 source2.0) _ hosts) in
    let e5 = address destination destination2 (right (nat_eq source.0 source2.0) _ hosts) in
    let e6 = eqb-true from from2 (left (nat_eq from from2) _ ports) in
    let e7 = eqb-true to to2 (right (nat_eq from from2) _ ports) in
    λ i. One (e1 i) (e2 i) (e3 i) (e4 i) (e5 i) (e6 i) (e7 i)
flow_from_same (Two ttl source destination) (Two ttl2 source2 destination2) h =
    let hosts = right (nat_eq ttl ttl2) _ h in
    let e1 = eqb-true ttl ttl2 (left (nat_eq ttl ttl2) _ h) in
    let e2 = address source source2 (left (nat_eq source.0 source2.0) _ hosts) in
    let e3 = address destination destination2 (right (nat_eq source.0 source2.0) _ hosts) in
    λ i. Two (e1 i) (e2 i) (e3 i)
flow_from_same (One tos ttl protocol source destination from to) (Two ttl2 source2 destination2) h = absurd (cc h)
flow_from_same (Two ttl source destination) (One tos2 ttl2 protocol2 source2 destination2 from2 to2) h = absurd (cc h)

same : (n : ℕ) → nat_eq n n ≡ true
same n = eq-eqb n n refl

pub same_itself : (f : FlowId) → same_flow f f ≡ true
same_itself (One tos ttl protocol source destination from to) =
    rw (same tos, same ttl, same protocol, same source.0, same destination.0, same from, same to) refl
same_itself (Two ttl source destination) = rw (same ttl, same source.0, same destination.0) refl

pub same_turned : (f g : FlowId) → same_flow f g ≡ false → same_flow g f ≡ false
same_turned f g h =
    not_true (same_flow g f) (λ e. cc (sym h ∙ ap (λ x. same_flow x g) (sym (flow_from_same g f e)) ∙ same_itself g))
