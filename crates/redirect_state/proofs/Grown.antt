-- A list that grows by what is made of each element of another, from a place on

use Rattle.std.proofs.Common.{◌≡◌, ℕ, zero, suc, ◌+◌, ◌≤◌, List, [], ◌∷◌, ◌++◌, length, drop, map, refl, sym, ap, ◌∙◌, None, Some, slice_get, take, add-one, append_assoc}
use Rattle.std.specs.Prelude.{flat_map, fold}
use Rattle.port_model.specs.Grants.{Grant, grant_label}
use Rattle.port_model.specs.Port.{Work}
use Rattle.port_model.specs.Resets.{left_of}
use Rattle.std.proofs.lemmas.List.{append-nil}
use Rattle.port_saying.proofs.Rounds.{joined_next, rest_at, rest_none, rest_past}

none_behind : {A : Type 0} (xs : List A) (i : ℕ) → slice_get xs i ≡ None → drop (suc i) xs ≡ []
none_behind [] i e = refl
none_behind (x ∷ xs) zero e = absurd (cc e)
none_behind (x ∷ xs) (suc i) e = none_behind xs i e

same_rest : {A : Type 0} (xs : List A) (i : ℕ) → slice_get xs i ≡ None → drop i xs ≡ drop (i + 1) xs
same_rest xs i e = rest_none xs i e ∙ sym (rw (add-one i) (none_behind xs i e))

pub mapped_skip : {A B : Type 0} (f : A → B) (done : List B) (xs : List A) (i : ℕ) → slice_get xs i ≡ None → done ++ map f (drop i xs) ≡ done ++ map f (drop (i + 1) xs)
mapped_skip f done xs i e = ap (λ t. done ++ map f t) (same_rest xs i e)

pub mapped_over : {A B : Type 0} (f : A → B) (done : List B) (xs : List A) (i : ℕ) → length xs ≤ i → done ++ map f (drop i xs) ≡ done
mapped_over f done xs i past = ap (λ t. done ++ map f t) (rest_past xs i past) ∙ append-nil done

pub joined_skip : {A B : Type 0} (f : A → List B) (done : List B) (xs : List A) (i : ℕ) → slice_get xs i ≡ None → done ++ flat_map f (drop i xs) ≡ done ++ flat_map f (drop (i + 1) xs)
joined_skip f done xs i e = ap (λ t. done ++ flat_map f t) (same_rest xs i e)

-- *Steps over grants*, where what is behind one stands from the next place on
pub left_next : (xs ys : List Grant) (i j : ℕ) (g : Grant) → slice_get xs i ≡ Some g → take j ys ≡ take i xs ++ left_of g → drop j ys ≡ drop (i + 1) xs
    → take j ys ++ flat_map left_of (drop j ys) ≡ take i xs ++ flat_map left_of (drop i xs)
left_next xs ys i j g is front rest =
    ap (λ (t : List Grant). t ++ flat_map left_of (drop j ys)) front
    ∙ ap (λ (t : List Grant). (take i xs ++ left_of g) ++ flat_map left_of t) rest
    ∙ append_assoc (take i xs) (left_of g) (flat_map left_of (drop (i + 1) xs))
    ∙ ap (λ (t : List Grant). take i xs ++ flat_map left_of t) (sym (rest_at xs i g is))

pub asked_next : {B : Type 0} (f : Grant → List B) (done more : List B) (xs ys : List Grant) (i j : ℕ) (g : Grant) → slice_get xs i ≡ Some g → more ≡ done ++ f g → drop j ys ≡ drop (i + 1) xs
    → more ++ flat_map f (drop j ys) ≡ done ++ flat_map f (drop i xs)
asked_next f done more xs ys i j g is asked rest = ap (λ t. more ++ flat_map f t) rest ∙ sym (joined_next f done more xs i g is asked)

pub aged_next : (f : Work → ℕ → Work) (w next : Work) (xs ys : List Grant) (i j : ℕ) (g : Grant) → slice_get xs i ≡ Some g → f w g.label ≡ next → drop j ys ≡ drop (i + 1) xs
    → fold f w (map grant_label (drop i xs)) ≡ fold f next (map grant_label (drop j ys))
aged_next f w next xs ys i j g is done rest =
    ap (λ (t : List Grant). fold f w (map grant_label t)) (rest_at xs i g is)
    ∙ ap (λ (v : Work). fold f v (map grant_label (drop (i + 1) xs))) done
    ∙ ap (λ (t : List Grant). fold f next (map grant_label t)) (sym rest)
