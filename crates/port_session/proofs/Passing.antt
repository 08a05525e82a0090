-- Whether one of a list passes a test, found one by one.

use Rattle.std.proofs.Common.{◌≡◌, ℕ, suc, zero, ◌+◌, ◌<◌, ◌||◌, Bool, true, false, List, [], ◌∷◌, length, take, refl, sym, ◌∙◌, arith, IfSome, slice_get}
use Rattle.std.specs.List.{list_any}

pub any_there : {A : Type 0} (p : A → Bool) (xs : List A) (k : ℕ) (b : Bool) → IfSome (slice_get xs k) (λ x. b ≡ p x) → k < length xs → b ≡ true → true ≡ list_any p xs
any_there p [] k b there w e = absurd (omega (arith, w))
any_there p (x ∷ xs) zero b there w e = let here : p x ≡ true = sym there ∙ e in rw here refl
any_there p (x ∷ xs) (suc k) b there w e = by (p x) (any_there p xs k b there (omega (arith, w)) e) where
  by : (c : Bool) → true ≡ list_any p xs → true ≡ (c || list_any p xs)
  by true rest = refl
  by false rest = rest

pub none_more : {A : Type 0} (p : A → Bool) (xs : List A) (k : ℕ) (b : Bool) → list_any p (take k xs) ≡ false → IfSome (slice_get xs k) (λ x. b ≡ p x) → k < length xs → b ≡ false → list_any p (take (k + 1) xs) ≡ false
none_more p [] k b none there w e = absurd (omega (arith, w))
none_more p (x ∷ xs) zero b none there w e = let here : p x ≡ false = sym there ∙ e in rw here refl
none_more p (x ∷ xs) (suc k) b none there w e =
    let next : suc k + 1 ≡ suc (k + 1) = omega arith in
    rw next (by (p x) none (λ rest. none_more p xs k b rest there (omega (arith, w)) e))
  where
    by : (c : Bool) → (c || list_any p (take k xs)) ≡ false → (list_any p (take k xs) ≡ false → list_any p (take (k + 1) xs) ≡ false) → (c || list_any p (take (k + 1) xs)) ≡ false
    by true h rest = absurd (cc h)
    by false h rest = rest h
