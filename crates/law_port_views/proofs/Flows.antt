-- flows are the same exactly where their numbers are

use Rattle.std.proofs.Common.{◌≡◌, ◌≢◌, ℕ, ◌+◌, ◌-◌, ◌<◌, ◌≤◌, Bool, true, false, refl, sym, ◌∙◌, ap, ap₂, arith}
use Rattle.std.specs.Prelude.{◌*◌, ◌==◌, ◌&&◌, nat_eq}
use Rattle.std.proofs.lemmas.Bool.Decides.{nat_tests}
use Rattle.law_port_facts.specs.port_model.Words.{Addr, FlowId, same_flow}
use Rattle.law_port_facts.specs.port_model.ipv4_packet.declared.flow.FlowId.TheVariants.{One, Two}
use Rattle.law_port_views.specs.Flows.{paired, flow_number}

-- *Two numbers* are told by the number of both
square_more : (m n k : ℕ) → n ≡ m + 1 + k → (m + 1) * (m + 1) ≤ n * n
square_more m n k e = omega (arith, ap (λ (z : ℕ). z * z) e)

apart_sum : (a b c d : ℕ) → a + b < c + d → (a + b) * (a + b) + a < (c + d) * (c + d) + c
apart_sum a b c d less =
    let more : (a + b + 1) * (a + b + 1) ≤ (c + d) * (c + d) = square_more (a + b) (c + d) (c + d - (a + b + 1)) (omega (arith, less)) in
    omega (arith, more)

same_square : (m n : ℕ) → m ≡ n → m * m ≡ n * n
same_square m n e = ap (λ (z : ℕ). z * z) e

same_sum : (a b c d : ℕ) → (a + b) * (a + b) + a ≡ (c + d) * (c + d) + c → a + b ≡ c + d
same_sum a b c d e = by (nat_eq (a + b) (c + d)) refl
  where
    by : (t : Bool) → nat_eq (a + b) (c + d) ≡ t → a + b ≡ c + d
    by true t = grind (arith, nat_tests)
    by false t = by_less (grind (arith, nat_tests))
      where
        by_less : a + b ≢ c + d → a + b ≡ c + d
        by_less apart = grind (arith, apart, e, apart_sum a b c d, apart_sum c d a b)

paired_told : (a b c d : ℕ) → paired a b ≡ paired c d → (a ≡ c) × (b ≡ d)
unfolding paired
paired_told a b c d e =
    let sum : a + b ≡ c + d = same_sum a b c d e in
    let square : (a + b) * (a + b) ≡ (c + d) * (c + d) = same_square (a + b) (c + d) sum in
    (omega (arith, e, square), omega (arith, e, square, sum))

-- *Two flows*
number_is : (m n : ℕ) → m ≡ n → (m == n) ≡ true
number_is m n e = grind (arith, nat_tests)

and_true : (a b : Bool) → a ≡ true → b ≡ true → (a && b) ≡ true
and_true a b e f = ap₂ (λ x y. x && y) e f

same_told : (a b : FlowId) → flow_number a ≡ flow_number b → same_flow a b ≡ true
unfolding flow_number
same_told (One tos ttl protocol source destination port other) (One tos2 ttl2 protocol2 source2 destination2 port2 other2) e =
    let a = paired_told tos _ tos2 _ (omega (arith, e)) in
    let b = paired_told ttl _ ttl2 _ a.1 in
    let c = paired_told protocol _ protocol2 _ b.1 in
    let d = paired_told source.0 _ source2.0 _ c.1 in
    let f = paired_told destination.0 _ destination2.0 _ d.1 in
    let g = paired_told port other port2 other2 f.1 in
    and_true _ _ (and_true _ _ (number_is tos tos2 a.0) (and_true _ _ (number_is ttl ttl2 b.0) (number_is protocol protocol2 c.0)))
    (and_true _ _ (and_true _ _ (number_is source.0 source2.0 d.0) (number_is destination.0 destination2.0 f.0))
    (and_true _ _ (number_is port port2 g.0) (number_is other other2 g.1)))
same_told (One tos ttl protocol source destination port other) (Two ttl2 source2 destination2) e = absurd (omega (arith, e))
same_told (Two ttl source destination) (One tos2 ttl2 protocol2 source2 destination2 port2 other2) e = absurd (omega (arith, e))
same_told (Two ttl source destination) (Two ttl2 source2 destination2) e =
    let a = paired_told ttl _ ttl2 _ (omega (arith, e)) in
    let b = paired_told source.0 destination.0 source2.0 destination2.0 a.1 in
    and_true _ _ (number_is ttl ttl2 a.0) (and_true _ _ (number_is source.0 source2.0 b.0) (number_is destination.0 destination2.0 b.1))

number_from : (m n : ℕ) → (m == n) ≡ true → m ≡ n
number_from m n e = grind (arith, nat_tests)

and_left : (a b : Bool) → (a && b) ≡ true → a ≡ true
and_left true b e = refl
and_left false b e = absurd (cc e)

and_right : (a b : Bool) → (a && b) ≡ true → b ≡ true
and_right true b e = e
and_right false b e = absurd (cc e)

address_from : (a b : Addr) → (a.0 == b.0) ≡ true → a ≡ b
address_from a b e = ap (λ (n : ℕ). record { 0 = n }) (number_from a.0 b.0 e)

pub flow_is : (a b : FlowId) → same_flow a b ≡ true → a ≡ b
flow_is (One tos ttl protocol source destination port other) (One tos2 ttl2 protocol2 source2 destination2 port2 other2) e =
    let head = and_left (tos == tos2 && (ttl == ttl2 && protocol == protocol2)) _ e in
    let tail = and_right (tos == tos2 && (ttl == ttl2 && protocol == protocol2)) ((source.0 == source2.0 && destination.0 == destination2.0) && (port == port2 && other == other2)) e in
    let ends = and_left (source.0 == source2.0 && destination.0 == destination2.0) (port == port2 && other == other2) tail in
    let ports = and_right (source.0 == source2.0 && destination.0 == destination2.0) (port == port2 && other == other2) tail in
    let more = and_right (tos == tos2) (ttl == ttl2 && protocol == protocol2) head in
    λ i. One (number_from tos tos2 (and_left (tos == tos2) _ head) i) (number_from ttl ttl2 (and_left (ttl == ttl2) _ more) i)
    (number_from protocol protocol2 (and_right (ttl == ttl2) _ more) i)
    (address_from source source2 (and_left (source.0 == source2.0) _ ends) i)
    (address_from destination destination2 (and_right (source.0 == source2.0) _ ends) i)
    (number_from port port2 (and_left (port == port2) _ ports) i) (number_from other other2 (and_right (port == port2) _ ports) i)
flow_is (One tos ttl protocol source destination port other) (Two ttl2 source2 destination2) e = absurd (cc e)
flow_is (Two ttl source destination) (One tos2 ttl2 protocol2 source2 destination2 port2 other2) e = absurd (cc e)
flow_is (Two ttl source destination) (Two ttl2 source2 destination2) e =
    let more = and_right (ttl == ttl2) (source.0 == source2.0 && destination.0 == destination2.0) e in
    λ i. Two (number_from ttl ttl2 (and_left (ttl == ttl2) _ e) i) (address_from source source2 (and_left (source.0 == source2.0) _ more) i)
    (address_from destination destination2 (and_right (source.0 == source2.0) _ more) i)

pub same_numbers : (a b : FlowId) → nat_eq (flow_number a) (flow_number b) ≡ same_flow a b
same_numbers a b = by (nat_eq (flow_number a) (flow_number b)) (same_flow a b) refl refl
  where
    by : (s t : Bool) → nat_eq (flow_number a) (flow_number b) ≡ s → same_flow a b ≡ t → s ≡ t
    by true true e f = refl
    by true false e f = sym (same_told a b (grind (arith, nat_tests))) ∙ f
    by false true e f = sym e ∙ grind (arith, nat_tests, ap flow_number (flow_is a b f))
    by false false e f = refl
