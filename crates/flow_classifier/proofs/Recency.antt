-- The flows that were counted: each stands once.

use Rattle.std.proofs.Common.{◌≡◌, ℕ, zero, suc, ◌||◌, Bool, true, false, not, cond, List, [], ◌∷◌, take, filter, refl, sym, ap, ◌∙◌}
use Rattle.std.specs.List.{list_any}
use Rattle.ipv4_packet.specs.declared.flow.FlowId.{FlowId}
use Rattle.ipv4_packet.specs.Parts.{same_flow}
use Rattle.flow_classifier.specs.History.{Call, recency}
use Rattle.flow_classifier.specs.History.Call.{Count, Tick, Clear}
use Rattle.flow_classifier.proofs.Flows.{flow_from_same}

pub or_left : (a b : Bool) → (a || b) ≡ false → a ≡ false
or_left true b h = h
or_left false b h = refl

pub or_right : (a b : Bool) → (a || b) ≡ false → b ≡ false
or_right true b h = absurd (cc h)
or_right false b h = h

abbrev pub is : FlowId → FlowId → Bool
is flow other = same_flow other flow

abbrev pub others : FlowId → List FlowId → List FlowId
others flow flows = filter (λ other. not (same_flow other flow)) flows

abbrev pub AreOnce : List FlowId → Type 0
AreOnce [] = Unit {0}
AreOnce (flow ∷ flows) = (list_any (is flow) flows ≡ false) × AreOnce flows

none-filter : (p q : FlowId → Bool) (xs : List FlowId) → list_any p xs ≡ false → list_any p (filter q xs) ≡ false
none-filter p q [] h = refl
none-filter p q (x ∷ xs) h = by (none-filter p q xs (or_right (p x) _ h)) (q x) where
  by : list_any p (filter q xs) ≡ false → (b : Bool) → list_any p (cond b (x ∷ filter q xs) (filter q xs)) ≡ false
  by rest true = rw (or_left (p x) _ h) rest
  by rest false = rest

once-filter : (q : FlowId → Bool) (xs : List FlowId) → AreOnce xs → AreOnce (filter q xs)
once-filter q [] once = tt
once-filter q (x ∷ xs) once = by (once-filter q xs once.1) (q x) where
  by : AreOnce (filter q xs) → (b : Bool) → AreOnce (cond b (x ∷ filter q xs) (filter q xs))
  by rest true = (none-filter (is x) q xs once.0, rest)
  by rest false = rest

pub none-others : (flow : FlowId) (xs : List FlowId) → list_any (is flow) (others flow xs) ≡ false
none-others flow [] = refl
none-others flow (x ∷ xs) = by (none-others flow xs) (is flow x) refl where
  by : list_any (is flow) (others flow xs) ≡ false → (b : Bool) → is flow x ≡ b → list_any (is flow) (cond (not b) (x ∷ others flow xs) (others flow xs)) ≡ false
  by rest true e = rest
  by rest false e = rw e rest

pub once-recency : (calls : List Call) → AreOnce (recency calls)
once-recency [] = tt
once-recency (Count flow ∷ before) = (none-others flow (recency before), once-filter _ (recency before) (once-recency before))
once-recency (Tick ∷ before) = once-recency before
once-recency (Clear ∷ before) = tt

all_others : (flow : FlowId) (xs : List FlowId) → list_any (is flow) xs ≡ false → others flow xs ≡ xs
all_others flow [] h = refl
all_others flow (x ∷ xs) h = rw (or_left (is flow x) _ h) (ap (λ t. x ∷ t) (all_others flow xs (or_right (is flow x) _ h)))

none-take : (p : FlowId → Bool) (n : ℕ) (xs : List FlowId) → list_any p xs ≡ false → list_any p (take n xs) ≡ false
none-take p zero xs h = refl
none-take p (suc n) [] h = refl
none-take p (suc n) (x ∷ xs) h = rw (or_left (p x) _ h) (none-take p n xs (or_right (p x) _ h))

take-take : {A : Type 0} (n : ℕ) (xs : List A) → take n (take n xs) ≡ take n xs
take-take zero xs = refl
take-take (suc n) [] = refl
take-take (suc n) (x ∷ xs) = ap (λ t. x ∷ t) (take-take n xs)

-- one more than so many are enough to find so many others
pub take-others : (flow : FlowId) (n : ℕ) (xs : List FlowId) → AreOnce xs → take n (others flow (take (suc n) xs)) ≡ take n (others flow xs)
take-others flow zero xs once = refl
take-others flow (suc n) [] once = refl
take-others flow (suc n) (x ∷ xs) once = by (take-others flow n xs once.1) (is flow x) refl where
  by : take n (others flow (take (suc n) xs)) ≡ take n (others flow xs) → (b : Bool) → is flow x ≡ b → take (suc n) (cond (not b) (x ∷ others flow (take (suc n) xs)) (others flow (take (suc n) xs))) ≡ take (suc n) (cond (not b) (x ∷ others flow xs) (others flow xs))
  by rest false e = ap (λ t. x ∷ t) rest
  by rest true e =
      let gone : list_any (is flow) xs ≡ false = rw (flow_from_same x flow e) at once.0 in
      ap (take (suc n)) (all_others flow (take (suc n) xs) (none-take (is flow) (suc n) xs gone))
      ∙ take-take (suc n) xs
      ∙ ap (take (suc n)) (sym (all_others flow xs gone))
