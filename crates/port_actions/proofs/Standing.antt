-- What is left of requests that stand apart, where those with a key are withdrawn.

use Rattle.std.proofs.Common.{◌≡◌, ℕ, suc, zero, ◌+◌, ◌<◌, ◌||◌, Bool, true, false, not, cond, List, [], ◌∷◌, length, get_or, filter, refl, sym, ◌∙◌, arith, Option}
use Rattle.std.specs.List.{list_any}
use Rattle.std.proofs.lemmas.List.Folds.{list_any_none}
use Rattle.net_types.specs.declared.channel.End.{End}
use Rattle.gsmp_wire.specs.declared.request.Request.{Request}
use Rattle.port_model.specs.Desk.{Standing}
use Rattle.branch_desk.proofs.Apart.{IsApartBy, has_key}
use Rattle.branch_desk.proofs.Numbers.{none_left, not_true, or_left, or_right}

rest_apart : (key : Request → Option End) (x : Standing) (xs : List Standing) → IsApartBy key (x ∷ xs) → IsApartBy key xs
rest_apart key x xs apart = record { pairs = λ i j d end lt w. apart.pairs (suc i) (suc j) d end (omega (arith, lt)) (omega (arith, w)) }

-- those without the key are left; one at most is gone
pub left_many : (key : Request → Option End) (end : End) (xs : List Standing) → IsApartBy key xs → length (filter (λ s. not (has_key key end s.request)) xs) + cond (list_any (λ s. has_key key end s.request) xs) 1 0 ≡ length xs
left_many key end [] apart = refl
left_many key end (x ∷ xs) apart = by (has_key key end x.request) refl (left_many key end xs (rest_apart key x xs apart)) where
  others : has_key key end x.request ≡ true → list_any (λ (s : Standing). has_key key end s.request) xs ≡ false
  others here = list_any_none (λ (s : Standing). has_key key end s.request) xs (λ k d w.
      not_true (has_key key end (get_or xs k d).request) (λ h. apart.pairs zero (suc k) d end (omega arith) (omega (arith, w)) here h))

  by : (b : Bool) → has_key key end x.request ≡ b → length (filter (λ (s : Standing). not (has_key key end s.request)) xs) + cond (list_any (λ (s : Standing). has_key key end s.request) xs) 1 0 ≡ length xs → length (cond (not b) (x ∷ filter (λ s. not (has_key key end s.request)) xs) (filter (λ s. not (has_key key end s.request)) xs)) + cond (b || list_any (λ s. has_key key end s.request) xs) 1 0 ≡ suc (length xs)
  by true e rest = rw (none_left (λ (s : Standing). has_key key end s.request) xs (others e)) (omega arith)
  by false e rest = omega (arith, rest)

-- a test that holds of none of those that are gone isn't changed; one that holds of them alone is false then
pub any_left : {X : Type 0} (gone test : X → Bool) → ((x : X) → test x ≡ true → gone x ≡ false) → (xs : List X) → list_any test (filter (λ x. not (gone x)) xs) ≡ list_any test xs
any_left gone test differ [] = refl
any_left gone test differ (x ∷ xs) = by (gone x) (test x) refl refl (any_left gone test differ xs) where
  by : (g t : Bool) → gone x ≡ g → test x ≡ t → list_any test (filter (λ x. not (gone x)) xs) ≡ list_any test xs → list_any test (cond (not g) (x ∷ filter (λ x. not (gone x)) xs) (filter (λ x. not (gone x)) xs)) ≡ (t || list_any test xs)
  by true true eg et rest = absurd (cc (sym eg ∙ differ x et))
  by true false eg et rest = rest
  by false true eg et rest = rw et refl
  by false false eg et rest = rw et rest

pub none_gone : {X : Type 0} (gone test : X → Bool) → ((x : X) → test x ≡ true → gone x ≡ true) → (xs : List X) → list_any test (filter (λ x. not (gone x)) xs) ≡ false
none_gone gone test same [] = refl
none_gone gone test same (x ∷ xs) = by (gone x) refl (none_gone gone test same xs) where
  by : (g : Bool) → gone x ≡ g → list_any test (filter (λ x. not (gone x)) xs) ≡ false → list_any test (cond (not g) (x ∷ filter (λ x. not (gone x)) xs) (filter (λ x. not (gone x)) xs)) ≡ false
  by true eg rest = rest
  by false eg rest = rw (not_true (test x) (λ h. cc (sym eg ∙ same x h))) rest

-- no element passes a test that none passes
pub none_passes : {X : Type 0} (p : X → Bool) (xs : List X) (k : ℕ) (d : X) → list_any p xs ≡ false → k < length xs → p (get_or xs k d) ≡ false
none_passes p [] k d none w = absurd (omega (arith, w))
none_passes p (x ∷ xs) zero d none w = or_left (p x) (list_any p xs) none
none_passes p (x ∷ xs) (suc k) d none w = none_passes p xs k d (or_right (p x) (list_any p xs) none) (omega (arith, w))
