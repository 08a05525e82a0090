-- A list from its end to its front.

use Rattle.std.proofs.Common.{◌≡◌, ℕ, zero, suc, ◌-◌, ◌≤◌, ◌||◌, Bool, true, false, cond, List, [], ◌∷◌, ◌++◌, length, take, drop, filter, refl, ap, ◌∙◌, arith}
use Rattle.std.specs.List.{list_any}
use Rattle.std.proofs.lemmas.List.Elements.{filter-append}
use Rattle.std.proofs.lemmas.List.Folds.{list_any-append}
use Rattle.std.proofs.lemmas.List.{length-append}

abbrev pub back : {A : Type 0} → List A → List A
back [] = []
back (x ∷ xs) = back xs ++ x ∷ []

append_none : {A : Type 0} (xs : List A) → xs ++ [] ≡ xs
append_none [] = refl
append_none (x ∷ xs) = ap (λ ys. x ∷ ys) (append_none xs)

swapped : (a b : Bool) → (a || (b || false)) ≡ (b || a)
swapped true true = refl
swapped true false = refl
swapped false true = refl
swapped false false = refl

pub back-filter : {A : Type 0} (p : A → Bool) (xs : List A) → filter p (back xs) ≡ back (filter p xs)
back-filter p [] = refl
back-filter p (x ∷ xs) =
    filter-append p (back xs) (x ∷ [])
    ∙ ap (λ ys. ys ++ filter p (x ∷ [])) (back-filter p xs)
    ∙ by (p x) where
      by : (b : Bool) → back (filter p xs) ++ cond b (x ∷ []) [] ≡ back (cond b (x ∷ filter p xs) (filter p xs))
      by true = refl
      by false = append_none (back (filter p xs))

pub any-back : {A : Type 0} (p : A → Bool) (xs : List A) → list_any p (back xs) ≡ list_any p xs
any-back p [] = refl
any-back p (x ∷ xs) =
    list_any-append p (back xs) (x ∷ [])
    ∙ ap (λ b. b || (p x || false)) (any-back p xs)
    ∙ swapped (list_any p xs) (p x)

drop-append : {A : Type 0} (n : ℕ) (xs ys : List A) → n ≤ length xs → drop n (xs ++ ys) ≡ drop n xs ++ ys
drop-append zero xs ys h = refl
drop-append (suc n) [] ys h = absurd (omega (arith, h))
drop-append (suc n) (x ∷ xs) ys h = drop-append n xs ys (omega (arith, h))

pub length-back : {A : Type 0} (xs : List A) → length (back xs) ≡ length xs
length-back [] = refl
length-back (x ∷ xs) = length-append (back xs) (x ∷ []) ∙ omega (arith, length-back xs)

drop-whole : {A : Type 0} (n : ℕ) (xs : List A) → length xs ≤ n → drop n xs ≡ []
drop-whole zero [] h = refl
drop-whole zero (x ∷ xs) h = absurd (omega (arith, h))
drop-whole (suc n) [] h = refl
drop-whole (suc n) (x ∷ xs) h = drop-whole n xs (omega (arith, h))

-- the last ones from the end on are the first ones
pub last-back : {A : Type 0} (n k : ℕ) (xs : List A) → k ≡ length xs - n → drop k (back xs) ≡ back (take n xs)
last-back zero k xs e = drop-whole k (back xs) (omega (arith, e, length-back xs))
last-back (suc n) k [] e = drop-whole k [] (omega arith)
last-back (suc n) k (x ∷ xs) e =
    let less : k ≡ length xs - n = omega (arith, e) in
    drop-append k (back xs) (x ∷ []) (omega (arith, less, length-back xs))
    ∙ ap (λ ys. ys ++ x ∷ []) (last-back n k xs less)
