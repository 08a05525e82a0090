-- what holds of the elements of lists, and of how many pass a test

use Rattle.std.proofs.Common.{◌≡◌, ℕ, zero, suc, ◌+◌, Bool, true, false, ◌||◌, cond, List, [], ◌∷◌, ◌++◌, refl, arith, slice_index_or, replicate}
use Rattle.std.specs.List.{list_any, count_by}
use Rattle.std.proofs.lemmas.List.Sums.{sum_by-cons, sum_by-append}
use Rattle.law_arrival_views.specs.ordered_lists.Ordered.{Every}

-- the parts of a disjunction of tests that fails
pub or_left : (a b : Bool) → a || b ≡ false → a ≡ false
or_left true b e = absurd (cc e)
or_left false b e = refl

pub or_right : (a b : Bool) → a || b ≡ false → b ≡ false
or_right true b e = absurd (cc e)
or_right false b e = e

-- the same element in each place
pub each_replicate : {X : Type 0} (F : X → Type 0) (n : ℕ) (x d : X) → F x → F d → (a : ℕ) → F (slice_index_or (replicate n x) a d)
each_replicate F zero x d one none a = none
each_replicate F (suc n) x d one none zero = one
each_replicate F (suc n) x d one none (suc a) = each_replicate F n x d one none a

-- how many of two lists pass, and of an element and a list
pub count_by-append : {X : Type 0} (p : X → Bool) (xs ys : List X) → count_by p (xs ++ ys) ≡ count_by p xs + count_by p ys
count_by-append p xs ys = sum_by-append (λ x. cond (p x) 1 0) xs ys

pub count_by-cons : {X : Type 0} (p : X → Bool) (x : X) (xs : List X) → count_by p (x ∷ xs) ≡ cond (p x) 1 0 + count_by p xs
count_by-cons p x xs = sum_by-cons (λ y. cond (p y) 1 0) x xs

pub count_by-skip : {X : Type 0} (p : X → Bool) (x : X) (xs : List X) → p x ≡ false → count_by p (x ∷ xs) ≡ count_by p xs
count_by-skip p x xs e = let none : ◌≡◌ {A = ℕ} (cond (p x) 1 0) 0 = rw e refl in omega (arith, count_by-cons p x xs, none)

-- where none passes, no element does
zero_test : (b : Bool) → ◌≡◌ {A = ℕ} (cond b 1 0) 0 → b ≡ false
zero_test true e = absurd (omega (arith, e))
zero_test false e = refl

pub none_passes : {X : Type 0} (p : X → Bool) (xs : List X) → count_by p xs ≡ 0 → Every (λ x. p x ≡ false) xs
none_passes p [] none = tt
none_passes p (x ∷ xs) none =
    (zero_test (p x) (omega (arith, count_by-cons p x xs, none)), none_passes p xs (omega (arith, count_by-cons p x xs, none)))

pub any_back : {X : Type 0} (p : X → Bool) (xs ys : List X) → list_any p ys ≡ true → list_any p (xs ++ ys) ≡ true
any_back p [] ys e = e
any_back p (x ∷ xs) ys e =
    let by : (b : Bool) → b || list_any p (xs ++ ys) ≡ true = λ b.
    elim b as (λ v. v || list_any p (xs ++ ys) ≡ true) [ true ↦ refl | false ↦ any_back p xs ys e ] in
    by (p x)

pub none_front : {X : Type 0} (p : X → Bool) (xs ys : List X) → list_any p (xs ++ ys) ≡ false → list_any p xs ≡ false
none_front p [] ys e = refl
none_front p (x ∷ xs) ys e =
    let rest : list_any p xs ≡ false = none_front p xs ys (or_right (p x) _ e) in
    let first : p x ≡ false = or_left (p x) _ e in
    rw (first, rest) refl

pub none_join : {X : Type 0} (p : X → Bool) (xs ys : List X) → list_any p xs ≡ false → list_any p ys ≡ false → list_any p (xs ++ ys) ≡ false
none_join p [] ys e f = f
none_join p (x ∷ xs) ys e f =
    let rest : list_any p (xs ++ ys) ≡ false = none_join p xs ys (or_right (p x) _ e) f in
    let first : p x ≡ false = or_left (p x) _ e in
    rw (first, rest) refl
