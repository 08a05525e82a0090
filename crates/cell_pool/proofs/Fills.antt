-- Lemmas on lists that are written from the front on, and on the places that were never taken.

use Rattle.std.proofs.Common.{◌≡◌, ◌≢◌, ℕ, zero, suc, ◌+◌, ◌-◌, ◌<◌, ◌≤◌, inl, inr, List, [], ◌∷◌, ◌++◌, length, get_or, set, replicate, refl, sym, ap, ◌∙◌, arith, length-append, length-set}
use Rattle.std.specs.List.{range_with_len}
use Rattle.std.proofs.lemmas.Bool.{cases_lt}
use Rattle.std.proofs.lemmas.List.{length-replicate, set-get_or}
use Rattle.cell_pool.specs.Places.{NotIn, Distinct, Below}
use Rattle.cell_pool.specs.Region.{walk}
use Rattle.cell_pool.specs.Room.{filled, never_taken}

pub length-filled : {A : Type 0} (n : ℕ) (x : A) (xs : List A) → length xs ≤ n → length (filled n x xs) ≡ n
length-filled n x xs few = omega (arith, length-append xs (replicate (n - length xs) x), length-replicate (n - length xs) x)

get_or-replicate_same : {A : Type 0} (n i : ℕ) (x : A) → get_or (replicate n x) i x ≡ x
get_or-replicate_same zero i x = refl
get_or-replicate_same (suc n) zero x = refl
get_or-replicate_same (suc n) (suc i) x = get_or-replicate_same n i x

get_or-more : {A : Type 0} (xs : List A) (n i : ℕ) (x : A) → get_or (xs ++ replicate n x) i x ≡ get_or xs i x
get_or-more [] n i x = get_or-replicate_same n i x
get_or-more (y ∷ ys) n zero x = refl
get_or-more (y ∷ ys) n (suc i) x = get_or-more ys n i x

pub get_or-filled : {A : Type 0} (n : ℕ) (x : A) (xs : List A) (i : ℕ) → get_or (filled n x xs) i x ≡ get_or xs i x
get_or-filled n x xs i = get_or-more xs (n - length xs) i x

set-more : {A : Type 0} (xs ys : List A) (i : ℕ) (y : A) → i < length xs → set (xs ++ ys) i y ≡ set xs i y ++ ys
set-more [] ys i y low = absurd (omega (arith, low))
set-more (x ∷ xs) ys zero y low = refl
set-more (x ∷ xs) ys (suc i) y low = ap (λ t. x ∷ t) (set-more xs ys i y (omega (arith, low)))

-- a write to a place that was written
pub set-filled : {A : Type 0} (n : ℕ) (x : A) (xs : List A) (i : ℕ) (y : A) → i < length xs → set (filled n x xs) i y ≡ filled n x (set xs i y)
set-filled n x xs i y low = set-more xs (replicate (n - length xs) x) i y low ∙ rw (length-set xs i y) refl

-- the first write to a place
push-more : {A : Type 0} (xs : List A) (n : ℕ) (x y : A) → set (xs ++ replicate (suc n) x) (length xs) y ≡ (xs ++ y ∷ []) ++ replicate n x
push-more [] n x y = refl
push-more (z ∷ zs) n x y = ap (λ t. z ∷ t) (push-more zs n x y)

pub push-filled : {A : Type 0} (n : ℕ) (x : A) (xs : List A) (y : A) → length xs < n → set (filled n x xs) (length xs) y ≡ filled n x (xs ++ y ∷ [])
push-filled n x xs y low =
    let left : n - length xs ≡ suc (n - length (xs ++ y ∷ [])) = omega (arith, low, length-append xs (y ∷ [])) in
    rw left (push-more xs (n - length (xs ++ y ∷ [])) x y)

same-more : {A : Type 0} (xs : List A) (n : ℕ) (x : A) → (xs ++ x ∷ []) ++ replicate n x ≡ xs ++ replicate (suc n) x
same-more [] n x = refl
same-more (z ∷ zs) n x = ap (λ t. z ∷ t) (same-more zs n x)

-- a place that is written with what it would have been seen as
pub same-filled : {A : Type 0} (n : ℕ) (x : A) (xs : List A) → length xs < n → filled n x (xs ++ x ∷ []) ≡ filled n x xs
same-filled n x xs low =
    let left : n - length xs ≡ suc (n - length (xs ++ x ∷ [])) = omega (arith, low, length-append xs (x ∷ [])) in
    rw left (same-more xs (n - length (xs ++ x ∷ [])) x)

-- no way leads to a place that wasn't written
pub walk-filled : (places : ℕ) (next : List ℕ) (h n : ℕ) → walk (filled places 0 next) h n ≡ walk next h n
walk-filled places next h zero = refl
walk-filled places next h (suc n) =
    rw (get_or-filled places 0 next h) (ap (λ t. h ∷ t) (walk-filled places next (get_or next h 0) n))

-- *Places that were never taken*

NotIn-range : (p a n : ℕ) → p < a → NotIn p (range_with_len a n)
NotIn-range p a zero low = tt
NotIn-range p a (suc n) low = (λ e. absurd (omega (arith, e, low)), NotIn-range p (a + 1) n (omega (arith, low)))

Distinct-range : (a n : ℕ) → Distinct (range_with_len a n)
Distinct-range a zero = tt
Distinct-range a (suc n) = (NotIn-range a (a + 1) n (omega arith), Distinct-range (a + 1) n)

Below-range : (m a n : ℕ) → a + n ≤ m → Below m (range_with_len a n)
Below-range m a zero within = tt
Below-range m a (suc n) within = (omega (arith, within), Below-range m (a + 1) n (omega (arith, within)))

NotIn-append : (p : ℕ) (xs ys : List ℕ) → NotIn p xs → NotIn p ys → NotIn p (xs ++ ys)
NotIn-append p [] ys a b = b
NotIn-append p (x ∷ xs) ys a b = (a.0, NotIn-append p xs ys a.1 b)

-- what isn't in a list isn't in its front
pub NotIn-front : (p : ℕ) (xs ys : List ℕ) → NotIn p (xs ++ ys) → NotIn p xs
NotIn-front p [] ys n = tt
NotIn-front p (x ∷ xs) ys n = (n.0, NotIn-front p xs ys n.1)

NotIn-rest : (p : ℕ) (xs ys : List ℕ) → NotIn p (xs ++ ys) → NotIn p ys
NotIn-rest p [] ys n = n
NotIn-rest p (x ∷ xs) ys n = NotIn-rest p xs ys n.1

behind-range : (p a n : ℕ) → a ≤ p → NotIn p (range_with_len a n) → a + n ≤ p
behind-range p a zero low out = omega (arith, low)
behind-range p a (suc n) low out =
    let other : p ≢ a = out.0 in
    omega (arith, other, behind-range p (a + 1) n (omega (arith, low, other)) out.1)

-- a place that isn't free was taken
pub was_taken : (places taken p : ℕ) (xs : List ℕ) → p < places → NotIn p (xs ++ never_taken places taken) → p < taken
was_taken places taken p xs within out =
    elim (cases_lt p taken) [
      | inl low ↦ low
      | inr high ↦ absurd (omega (arith, within, high, behind-range p taken (places - taken) high (NotIn-rest p xs (never_taken places taken) out)))
    ]

Distinct-append : (k n : ℕ) (xs : List ℕ) → Distinct xs → Below k xs → Distinct (xs ++ range_with_len k n)
Distinct-append k n [] d b = Distinct-range k n
Distinct-append k n (x ∷ xs) d b =
    (NotIn-append x xs (range_with_len k n) d.0 (NotIn-range x k n b.0), Distinct-append k n xs d.1 b.1)

Below-append : (m k n : ℕ) (xs : List ℕ) → k + n ≤ m → Below k xs → Below m (xs ++ range_with_len k n)
Below-append m k n [] within b = Below-range m k n within
Below-append m k n (x ∷ xs) within b = (omega (arith, b.0, within), Below-append m k n xs within b.1)

module _ (places taken : ℕ) (xs : List ℕ) (within : taken ≤ places) (below : Below taken xs) where
  pub free_distinct : Distinct xs → Distinct (xs ++ never_taken places taken)
  free_distinct distinct = Distinct-append taken (places - taken) xs distinct below

  pub free_below : Below places (xs ++ never_taken places taken)
  free_below = Below-append places taken (places - taken) xs (omega (arith, within)) below

-- the first place that was never taken
pub first_never_taken : (places taken : ℕ) → taken < places → never_taken places taken ≡ taken ∷ never_taken places (taken + 1)
first_never_taken places taken low =
    let left : places - taken ≡ suc (places - (taken + 1)) = omega (arith, low) in
    rw left refl

pub none_never_taken : (places : ℕ) → never_taken places places ≡ []
none_never_taken places =
    let none : places - places ≡ 0 = omega arith in
    rw none refl

-- what is below a number is below a greater one
pub Below-more : (m n : ℕ) (xs : List ℕ) → m ≤ n → Below m xs → Below n xs
Below-more m n [] le b = tt
Below-more m n (x ∷ xs) le b = (omega (arith, b.0, le), Below-more m n xs le b.1)

-- *Values that weren't written, written as they are seen*

beyond : {A : Type 0} (xs : List A) (i : ℕ) (x : A) → length xs ≤ i → get_or xs i x ≡ x
beyond [] i x high = refl
beyond (y ∷ ys) zero x high = absurd (omega (arith, high))
beyond (y ∷ ys) (suc i) x high = beyond ys i x (omega (arith, high))

pub get_or-unwritten : {A : Type 0} (n : ℕ) (x : A) (xs : List A) (i : ℕ) → length xs ≤ i → get_or (filled n x xs) i x ≡ x
get_or-unwritten n x xs i high = get_or-filled n x xs i ∙ beyond xs i x high

pub set-unwritten : {A : Type 0} (n : ℕ) (x : A) (xs : List A) (i : ℕ) → length xs ≤ i → set (filled n x xs) i x ≡ filled n x xs
set-unwritten n x xs i high =
    ap (λ y. set (filled n x xs) i y) (sym (get_or-unwritten n x xs i high)) ∙ set-get_or (filled n x xs) i x
