-- The equality that flows derive is that of the definitions.

use Rattle.std.proofs.Common.{◌≡◌, ℕ, ◌&&◌, nat_eq, Bool, true, false, ◌∙◌, refl, sym}
use Rattle.std.proofs.lemmas.Bool.{eqb-true, eq-eqb}
use Rattle.ipv4_packet.specs.declared.flow.FlowId.{FlowId}
use Rattle.ipv4_packet.specs.declared.flow.FlowId.TheVariants.{One, Two}
use Rattle.ipv4_packet.specs.contracts.flow.FlowIdPartialEq.TheImpl.{eq-value}
use Rattle.ipv4_packet.specs.Parts.{same_flow}
use Rattle.flow_classifier.proofs.Flows.{not_true}

turned : (a b : ℕ) → nat_eq a b ≡ nat_eq b a
turned a b = by (nat_eq a b) refl where
  by : (v : Bool) → nat_eq a b ≡ v → v ≡ nat_eq b a
  by true e = sym (eq-eqb b a (sym (eqb-true a b e)))
  by false e = sym (not_true (nat_eq b a) (λ h. cc (sym e ∙ eq-eqb a b (sym (eqb-true b a h)))))

grouped : (a b c d e f g : Bool) → (a && (b && (c && (d && (e && (f && g)))))) ≡ ((a && (b && c)) && ((d && e) && (f && g)))
grouped false b c d e f g = refl
grouped true false c d e f g = refl
grouped true true false d e f g = refl
grouped true true true false e f g = refl
grouped true true true true e f g = refl

pub eq_is : (a b : FlowId) → eq-value.it a b ≡ same_flow b a
eq_is (One tos ttl protocol source destination from to) (One tos2 ttl2 protocol2 source2 destination2 from2 to2) =
    rw (turned tos tos2, turned ttl ttl2, turned protocol protocol2, turned source.0 source2.0, turned destination.0 destination2.0, turned from from2, turned to to2)
    (grouped (nat_eq tos2 tos) (nat_eq ttl2 ttl) (nat_eq protocol2 protocol) (nat_eq source2.0 source.0) (nat_eq destination2.0 destination.0) (nat_eq from2 from) (nat_eq to2 to))
eq_is (Two ttl source destination) (Two ttl2 source2 destination2) =
    rw (turned ttl ttl2, turned source.0 source2.0, turned destination.0 destination2.0) refl
eq_is (One tos ttl protocol source destination from to) (Two ttl2 source2 destination2) = refl
eq_is (Two ttl source destination) (One tos2 ttl2 protocol2 source2 destination2 from2 to2) = refl
