-- What is done for each element of a list, one after another, and what is left to do from a place on

use Rattle.std.proofs.Common.{◌≡◌, ℕ, zero, suc, ◌+◌, ◌≤◌, List, [], ◌∷◌, ◌++◌, length, drop, map, refl, sym, ap, ◌∙◌, None, Some, slice_get, add-one, append_assoc, arith}
use Rattle.std.specs.Prelude.{fold, flat_map}

rest_behind : {A : Type 0} (xs : List A) (i : ℕ) (x : A) → slice_get xs i ≡ Some x → drop i xs ≡ x ∷ drop (suc i) xs
rest_behind [] i x is = absurd (cc is)
rest_behind (y ∷ ys) zero x is = let it : y ≡ x = cc is in ap (λ z. z ∷ ys) it
rest_behind (y ∷ ys) (suc i) x is = rest_behind ys i x is

-- at a place
pub rest_at : {A : Type 0} (xs : List A) (i : ℕ) (x : A) → slice_get xs i ≡ Some x → drop i xs ≡ x ∷ drop (i + 1) xs
rest_at xs i x is = rw (add-one i) (rest_behind xs i x is)

-- behind the last one
pub rest_past : {A : Type 0} (xs : List A) (i : ℕ) → length xs ≤ i → drop i xs ≡ []
rest_past [] zero past = refl
rest_past [] (suc i) past = refl
rest_past (x ∷ xs) zero past = absurd (omega arith)
rest_past (x ∷ xs) (suc i) past = rest_past xs i (omega arith)

pub rest_none : {A : Type 0} (xs : List A) (i : ℕ) → slice_get xs i ≡ None → drop i xs ≡ []
rest_none [] zero none = refl
rest_none [] (suc i) none = refl
rest_none (x ∷ xs) zero none = absurd (cc none)
rest_none (x ∷ xs) (suc i) none = rest_none xs i none

-- *A round*: the one at the place is done; none is left; where nothing changes any more
pub round_next : {A B : Type 0} (f : B → A → B) (w next : B) (xs : List A) (i : ℕ) (x : A) → slice_get xs i ≡ Some x → f w x ≡ next
    → fold f w (drop i xs) ≡ fold f next (drop (i + 1) xs)
round_next f w next xs i x is done = ap (fold f w) (rest_at xs i x is) ∙ ap (λ v. fold f v (drop (i + 1) xs)) done

pub round_over : {A B : Type 0} (f : B → A → B) (w : B) (xs : List A) (i : ℕ) → length xs ≤ i → fold f w (drop i xs) ≡ w
round_over f w xs i past = ap (fold f w) (rest_past xs i past)

pub round_still : {A B : Type 0} (f : B → A → B) (w : B) → ((x : A) → f w x ≡ w) → (xs : List A) → fold f w xs ≡ w
round_still f w still [] = refl
round_still f w still (x ∷ xs) = ap (λ v. fold f v xs) (still x) ∙ round_still f w still xs

pub round_stop : {A B : Type 0} (f : B → A → B) (w last : B) (xs : List A) (i : ℕ) (x : A) → slice_get xs i ≡ Some x → f w x ≡ last → ((y : A) → f last y ≡ last)
    → fold f w (drop i xs) ≡ last
round_stop f w last xs i x is done still = round_next f w last xs i x is done ∙ round_still f last still (drop (i + 1) xs)

-- *A list that grows*
pub mapped_next : {A B : Type 0} (f : A → B) (done more : List B) (xs : List A) (i : ℕ) (x : A) → slice_get xs i ≡ Some x → more ≡ done ++ f x ∷ []
    → done ++ map f (drop i xs) ≡ more ++ map f (drop (i + 1) xs)
mapped_next f done more xs i x is e = rw (rest_at xs i x is, e) (sym (append_assoc done (f x ∷ []) (map f (drop (i + 1) xs))))

pub joined_next : {A B : Type 0} (f : A → List B) (done more : List B) (xs : List A) (i : ℕ) (x : A) → slice_get xs i ≡ Some x → more ≡ done ++ f x
    → done ++ flat_map f (drop i xs) ≡ more ++ flat_map f (drop (i + 1) xs)
joined_next f done more xs i x is e = rw (rest_at xs i x is, e) (sym (append_assoc done (f x) (flat_map f (drop (i + 1) xs))))
