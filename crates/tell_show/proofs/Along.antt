-- Lines of a list, one after the other

use Rattle.std.proofs.Common.{◌≡◌, ℕ, zero, suc, ◌+◌, ◌<◌, List, [], ◌∷◌, ◌++◌, append_assoc, append-nil, drop, length, slice_get, take, Some, refl, sym, ◌∙◌, ap, arith, flat_map}
use Rattle.std.proofs.lemmas.Grind.{flat_map-append}
use Rattle.std.proofs.lemmas.List.Concat.{flat_map-cons}

pub take_push : {A : Type 0} (xs : List A) (i : ℕ) (x : A) → slice_get xs i ≡ Some x → take (i + 1) xs ≡ take i xs ++ x ∷ []
take_push {A} xs i x e = (let up : i + 1 ≡ suc i = omega arith in ap (λ k. take k xs) up ∙ by xs i e)
  where
    by : (xs : List A) (i : ℕ) → slice_get xs i ≡ Some x → take (suc i) xs ≡ take i xs ++ x ∷ []
    by [] i e = absurd (cc e)
    by (y ∷ ys) zero e = (let same : y ≡ x = cc in ap (λ z. z ∷ []) same)
    by (y ∷ ys) (suc i) e = ap (λ zs. y ∷ zs) (by ys i e)

pub drop_pull : {A : Type 0} (xs : List A) (i : ℕ) (x : A) → slice_get xs i ≡ Some x → xs ≡ take i xs ++ (x ∷ drop (suc i) xs)
drop_pull [] i x e = absurd (cc e)
drop_pull (y ∷ ys) zero x e = (let same : y ≡ x = cc in ap (λ z. z ∷ ys) same)
drop_pull (y ∷ ys) (suc i) x e = ap (λ zs. y ∷ zs) (drop_pull ys i x e)

one_line : {A : Type 0} (f : A → List ℕ) (x : A) → flat_map f (x ∷ []) ≡ f x
one_line f x = flat_map-cons f x [] ∙ append-nil (f x)

pub next_line : {A : Type 0} (f : A → List ℕ) (xs : List A) (i : ℕ) (x : A) → slice_get xs i ≡ Some x
    → flat_map f (take i xs) ++ f x ≡ flat_map f (take (i + 1) xs)
next_line f xs i x e =
    ap (λ ys. flat_map f (take i xs) ++ ys) (sym (one_line f x)) ∙ sym (flat_map-append f (take i xs) (x ∷ [])) ∙ ap (flat_map f) (sym (take_push xs i x e))

pub rest_lines : {A : Type 0} (f : A → List ℕ) (xs : List A) (i : ℕ) (x : A) → slice_get xs i ≡ Some x
    → flat_map f (take i xs) ++ (f x ++ flat_map f (drop (suc i) xs)) ≡ flat_map f xs
rest_lines f xs i x e =
    ap (λ ys. flat_map f (take i xs) ++ ys) (sym (flat_map-cons f x (drop (suc i) xs)))
    ∙ sym (flat_map-append f (take i xs) (x ∷ drop (suc i) xs)) ∙ ap (flat_map f) (sym (drop_pull xs i x e))

-- *In a text*: one line more, and all of them
pub line_put : {A : Type 0} (f : A → List ℕ) (xs : List A) (i : ℕ) (x : A) (old before new : List ℕ) → slice_get xs i ≡ Some x
    → before ≡ old ++ flat_map f (take i xs) → new ≡ before ++ f x → new ≡ old ++ flat_map f (take (i + 1) xs)
line_put f xs i x old before new e were puts =
    puts ∙ ap (λ ys. ys ++ f x) were ∙ append_assoc old (flat_map f (take i xs)) (f x) ∙ ap (λ ys. old ++ ys) (next_line f xs i x e)

pub take_whole : {A : Type 0} (items : List A) (place : ℕ) → place ≡ length items → take place items ≡ items
take_whole [] zero e = refl
take_whole [] (suc place) e = absurd (omega (arith, e))
take_whole (item ∷ items) zero e = absurd (omega (arith, e))
take_whole (item ∷ items) (suc place) e = ap (λ (xs : List _). item ∷ xs) (take_whole items place (omega (arith, e)))

pub lines_put : {A : Type 0} (f : A → List ℕ) (xs : List A) (i : ℕ) (old now : List ℕ) → i ≡ length xs
    → now ≡ old ++ flat_map f (take i xs) → now ≡ old ++ flat_map f xs
lines_put f xs i old now all were = were ∙ ap (λ ys. old ++ flat_map f ys) (take_whole xs i all)

-- an item that is there
pub record Item {A : Type 0} (items : List A) (place : ℕ) : Type 0 where
  pub item : A
  pub is : slice_get items place ≡ Some item

pub item_at : {A : Type 0} (items : List A) (place : ℕ) → place < length items → Item items place
item_at [] place low = absurd (omega (arith, low))
item_at (item ∷ items) zero low = record { item = item; is = refl }
item_at (item ∷ items) (suc place) low = (let rest : Item items place = item_at items place (omega (arith, low)) in record { item = rest.item; is = rest.is })
