-- along a list: what is told of its first elements, of one more, and of those behind

use Rattle.std.proofs.Common.{◌≡◌, ℕ, zero, suc, ◌+◌, ◌<◌, List, [], ◌∷◌, ◌++◌, drop, length, slice_get, slice_index_or, take, Some, refl, sym, ◌∙◌, ap, arith}
use Rattle.std.proofs.lemmas.Option.{slice_get-get_or}

pub append_none : {A : Type 0} (xs : List A) → xs ++ [] ≡ xs
append_none [] = refl
append_none (x ∷ xs) = ap (λ ys. x ∷ ys) (append_none xs)

pub found : {A : Type 0} (xs : List A) (i : ℕ) (x : A) → i < length xs → x ≡ slice_index_or xs i x → slice_get xs i ≡ Some x
found xs i x low is = slice_get-get_or xs i x low ∙ ap Some (sym is)

pub take_push : {A : Type 0} (xs : List A) (i : ℕ) (x : A) → slice_get xs i ≡ Some x → take (i + 1) xs ≡ take i xs ++ x ∷ []
take_push {A} xs i x e = (let up : i + 1 ≡ suc i = omega arith in ap (λ k. take k xs) up ∙ by xs i e)
  where
    by : (xs : List A) (i : ℕ) → slice_get xs i ≡ Some x → take (suc i) xs ≡ take i xs ++ x ∷ []
    by [] i e = absurd (cc e)
    by (y ∷ ys) zero e = (let same : y ≡ x = cc in ap (λ z. z ∷ []) same)
    by (y ∷ ys) (suc i) e = ap (λ zs. y ∷ zs) (by ys i e)

pub drop_pull : {A : Type 0} (xs : List A) (i : ℕ) (x : A) → slice_get xs i ≡ Some x → xs ≡ take i xs ++ (x ∷ drop (suc i) xs)
drop_pull [] i x e = absurd (cc e)
drop_pull (y ∷ ys) zero x e = (let same : y ≡ x = cc in ap (λ z. z ∷ ys) same)
drop_pull (y ∷ ys) (suc i) x e = ap (λ zs. y ∷ zs) (drop_pull ys i x e)

-- what is told of a list is told of its parts, one after the other
module _ {A : Type 0} (whole : List A → List ℕ) (tells : A → List ℕ) (joins : (xs ys : List A) → whole (xs ++ ys) ≡ whole xs ++ whole ys)
    (one : (x : A) → whole (x ∷ []) ≡ tells x) where
  pub next_told : (xs : List A) (i : ℕ) (x : A) → slice_get xs i ≡ Some x → whole (take i xs) ++ tells x ≡ whole (take (i + 1) xs)
  next_told xs i x e =
      ap (λ ys. whole (take i xs) ++ ys) (sym (one x)) ∙ sym (joins (take i xs) (x ∷ [])) ∙ ap whole (sym (take_push xs i x e))

  pub rest_told : (xs : List A) (i : ℕ) (x : A) → slice_get xs i ≡ Some x → whole (take i xs) ++ (tells x ++ whole (drop (suc i) xs)) ≡ whole xs
  rest_told xs i x e =
      ap (λ ys. whole (take i xs) ++ (ys ++ whole (drop (suc i) xs))) (sym (one x))
      ∙ ap (λ ys. whole (take i xs) ++ ys) (sym (joins (x ∷ []) (drop (suc i) xs)))
      ∙ sym (joins (take i xs) (x ∷ drop (suc i) xs)) ∙ ap whole (sym (drop_pull xs i x e))
