-- The packets of one flow, tick by tick, and their sum.

use Rattle.std.proofs.Common.{◌≡◌, ℕ, zero, suc, ◌+◌, ◌≤◌, ◌==◌, Bool, true, false, cond, if◌then◌else◌, List, [], ◌∷◌, length, take, min, refl, sym, ap, ◌∙◌, arith}
use Rattle.std.specs.List.{sum_by}
use Rattle.std.proofs.Math.Seq.{take-nil}
use Rattle.std.proofs.lemmas.Bool.{eqb-true, eq-eqb}
use Rattle.std.proofs.lemmas.List.{take_all}
use Rattle.std.proofs.lemmas.List.Sums.{sum_by-cons}
use Rattle.ipv4_packet.specs.declared.flow.FlowId.{FlowId}
use Rattle.ipv4_packet.specs.Parts.{same_flow}
use Rattle.port_model.specs.Counts.{one_more_packet, packet_total, greatest_count}
use Rattle.flow_classifier.specs.History.{Call, is_remembered, packets_since}
use Rattle.flow_classifier.specs.History.Call.{Count, Tick, Clear}
use Rattle.flow_classifier.proofs.Flows.{not_true}

-- the packets of a flow, tick by tick, since it was last forgotten before a packet of its own
abbrev pub row : (window : ℕ) → FlowId → List Call → List ℕ
row window flow [] = []
row window flow (Count other ∷ before) =
    if same_flow other flow
    then one_more_packet (if is_remembered flow before then row window flow before else [])
    else row window flow before
row window flow (Tick ∷ before) = take window (0 ∷ row window flow before)
row window flow (Clear ∷ before) = []

abbrev sum_of : List ℕ → ℕ
sum_of = sum_by (λ n. n)

sum-cons : (n : ℕ) (ns : List ℕ) → sum_of (n ∷ ns) ≡ n + sum_of ns
sum-cons = sum_by-cons (λ n. n)

min_inner : (g a b : ℕ) → min g (min g a + b) ≡ min g (a + b)
min_inner g a b = grind (arith)

min_more : (g a b : ℕ) → min g a ≡ min g b → min g (1 + a) ≡ min g (1 + b)
min_more g a b e = grind (arith, e)

shifted : (n rest all : ℕ) → all ≡ n + rest → n + 1 + rest ≡ 1 + all
shifted n rest all e = omega (arith, e)

-- one packet more is one more of the first ticks
first_more : (g m : ℕ) (ns : List ℕ) → g ≡ greatest_count → min g (sum_of (take (suc m) (one_more_packet ns))) ≡ min g (1 + sum_of (take (suc m) ns))
first_more g m [] e = ap (λ (ns : List ℕ). min g (sum_of (1 ∷ ns))) (take-nil m) ∙ ap (min g) (sum-cons 1 [])
first_more g m (n ∷ ns) e =
    let rest : ℕ = sum_of (take m ns) in
    ap (min g) (sum-cons (min greatest_count (n + 1)) (take m ns))
    ∙ ap (λ k. min g (min k (n + 1) + rest)) (sym e)
    ∙ min_inner g (n + 1) rest
    ∙ ap (min g) (shifted n rest (sum_of (n ∷ take m ns)) (sum-cons n (take m ns)))

take-less : (m n : ℕ) (ns : List ℕ) → m ≤ n → take m (take n ns) ≡ take m ns
take-less zero n ns h = refl
take-less (suc m) zero ns h = absurd (omega (arith, h))
take-less (suc m) (suc n) [] h = refl
take-less (suc m) (suc n) (k ∷ ns) h = ap (λ t. k ∷ t) (take-less m n ns (omega (arith, h)))

-- of a row, the ticks of the window that are left
module _ (g window : ℕ) (greatest : g ≡ greatest_count) (flow : FlowId) where
  pub sum_left : (calls : List Call) (ticks left : ℕ) → ticks + suc left ≡ window → min g (sum_of (take (suc left) (row window flow calls))) ≡ min g (packets_since window flow ticks calls)
  sum_left [] ticks left e = refl
  sum_left (Clear ∷ before) ticks left e = refl
  sum_left (Tick ∷ before) ticks left e = by left e (λ m. sum_left before (ticks + 1) m) where
    rest : (m : ℕ) → ticks + suc m ≡ window → take (suc m) (take window (0 ∷ row window flow before)) ≡ 0 ∷ take m (row window flow before)
    rest m e = take-less (suc m) window (0 ∷ row window flow before) (omega (arith, e))

    by : (m : ℕ) → ticks + suc m ≡ window → ((k : ℕ) → ticks + 1 + suc k ≡ window → min g (sum_of (take (suc k) (row window flow before))) ≡ min g (packets_since window flow (ticks + 1) before)) → min g (sum_of (take (suc m) (take window (0 ∷ row window flow before)))) ≡ min g (cond (ticks + 1 == window) 0 (packets_since window flow (ticks + 1) before))
    by zero e on = rw (rest zero e, eq-eqb (ticks + 1) window (omega (arith, e))) (ap (min g) (sum-cons 0 []))
    by (suc k) e on =
        let apart : (ticks + 1 == window) ≡ false = not_true (ticks + 1 == window) (λ h. absurd (omega (arith, e, eqb-true (ticks + 1) window h))) in
        rw (rest (suc k) e, apart) (ap (min g) (omega (arith, sum-cons 0 (take (suc k) (row window flow before)))) ∙ on k (omega (arith, e)))
  sum_left (Count other ∷ before) ticks left e = by (sum_left before ticks left e) (same_flow other flow) (is_remembered flow before) where
    by : min g (sum_of (take (suc left) (row window flow before))) ≡ min g (packets_since window flow ticks before) → (same remembered : Bool)
        → min g (sum_of (take (suc left) (cond same (one_more_packet (cond remembered (row window flow before) [])) (row window flow before))))
        ≡ min g (cond same (1 + cond remembered (packets_since window flow ticks before) 0) (packets_since window flow ticks before))
    by on false remembered = on
    by on true true = first_more g left (row window flow before) greatest ∙ min_more g _ _ on
    by on true false = first_more g left [] greatest ∙ refl

one_more-le : (window : ℕ) (ns : List ℕ) → 1 ≤ window → length ns ≤ window → length (one_more_packet ns) ≤ window
one_more-le window [] some h = some
one_more-le window (n ∷ ns) some h = h

take-le : (n : ℕ) (ns : List ℕ) → length (take n ns) ≤ n
take-le zero ns = omega arith
take-le (suc n) [] = omega arith
take-le (suc n) (k ∷ ns) = omega (arith, take-le n ns)

row-le : (window : ℕ) (flow : FlowId) (calls : List Call) → 1 ≤ window → length (row window flow calls) ≤ window
row-le window flow [] some = omega arith
row-le window flow (Clear ∷ before) some = omega arith
row-le window flow (Tick ∷ before) some = take-le window (0 ∷ row window flow before)
row-le window flow (Count other ∷ before) some = by (row-le window flow before some) (same_flow other flow) (is_remembered flow before) where
  by : length (row window flow before) ≤ window → (same remembered : Bool) → length (cond same (one_more_packet (cond remembered (row window flow before) [])) (row window flow before)) ≤ window
  by on false remembered = on
  by on true true = one_more-le window (row window flow before) some on
  by on true false = some

-- all of a row are the packets of the window
pub total-row : (window : ℕ) (flow : FlowId) (calls : List Call) → 1 ≤ window → packet_total (row window flow calls) ≡ min greatest_count (packets_since window flow 0 calls)
total-row zero flow calls some = absurd (omega (arith, some))
total-row (suc left) flow calls some =
    ap (λ ns. min greatest_count (sum_of ns)) (sym (take_all (suc left) (row (suc left) flow calls) (row-le (suc left) flow calls some)))
    ∙ sum_left greatest_count (suc left) refl flow calls 0 left (omega arith)
