-- a flow one hop further: it is known by that

use Rattle.std.proofs.Common.{◌≡◌, ℕ, suc, ◌-◌, ◌<◌, Bool, true, false, None, Some, refl, ap, arith, if◌then◌else◌}
use Rattle.std.specs.Prelude.{nat_le}
use Rattle.std.proofs.lemmas.Bool.Decides.{nat_tests}
use Rattle.world_model.specs.Words.{FlowId, flow_ttl, flow_destination, at_ttl, next_hop_of}
use Rattle.world_model.specs.ipv4_packet.declared.flow.FlowId.TheVariants.{One, Two}
use Rattle.calm_model.specs.Ways.{one_hop}

one_less : (m n : ℕ) → 1 < m → 1 < n → m - 1 ≡ n - 1 → m ≡ n
one_less m n p q e = omega (arith, p, q, e)

-- *Flows that are one* one hop further are one
same_further : (f g : FlowId) → 1 < flow_ttl f → 1 < flow_ttl g → at_ttl f (flow_ttl f - 1) ≡ at_ttl g (flow_ttl g - 1) → f ≡ g
same_further (One tos ttl protocol source destination from to) (One tos2 ttl2 protocol2 source2 destination2 from2 to2) p q e =
    let hops : ttl - 1 ≡ ttl2 - 1 = cc in
    let same : ttl ≡ ttl2 = one_less ttl ttl2 p q hops in
    cc
same_further (Two ttl source destination) (Two ttl2 source2 destination2) p q e =
    let hops : ttl - 1 ≡ ttl2 - 1 = cc in
    let same : ttl ≡ ttl2 = one_less ttl ttl2 p q hops in
    cc
same_further (One tos ttl protocol source destination from to) (Two ttl2 source2 destination2) p q e = absurd (cc e)
same_further (Two ttl source destination) (One tos2 ttl2 protocol2 source2 destination2 from2 to2) p q e = absurd (cc e)

-- *The flow whose next one* is one hop further
pub next_was : (f flow : FlowId) → 1 < flow_ttl flow → next_hop_of f ≡ Some (one_hop flow) → f ≡ flow
next_was f flow more e = by (nat_le (flow_ttl f) 1) refl e
  where
    lives : nat_le (flow_ttl f) 1 ≡ false → 1 < flow_ttl f
    lives t = grind (arith, nat_tests, t)

    one_flow : (x y : FlowId) → Some x ≡ Some y → x ≡ y
    one_flow x y t = cc

    by : (t : Bool) → nat_le (flow_ttl f) 1 ≡ t → (if t then None else Some (at_ttl f (flow_ttl f - 1))) ≡ Some (one_hop flow) → f ≡ flow
    by true t h = absurd (cc h)
    by false t h = same_further f flow (lives t) more (one_flow (at_ttl f (flow_ttl f - 1)) (one_hop flow) h)

-- *One hop further* is where the next one is
pub next_is : (flow : FlowId) → 1 < flow_ttl flow → next_hop_of flow ≡ Some (one_hop flow)
next_is flow more = ap (λ (b : Bool). if b then None else Some (one_hop flow)) (above (flow_ttl flow) more)
  where
    above : (n : ℕ) → 1 < n → nat_le n 1 ≡ false
    above n h = grind (arith, nat_tests, h)

-- its destination is the same there, and it has hops left
pub same_destination : (flow : FlowId) → flow_destination (one_hop flow) ≡ flow_destination flow
same_destination (One tos ttl protocol source destination from to) = refl
same_destination (Two ttl source destination) = refl

pub hop_lives : (flow : FlowId) (n : ℕ) → suc n < flow_ttl flow → n < flow_ttl (one_hop flow)
hop_lives (One tos ttl protocol source destination from to) n h = omega (arith, h)
hop_lives (Two ttl source destination) n h = omega (arith, h)
