-- lists that are cut in two at an element, and what filters keep of them

use Rattle.std.proofs.Common.{◌≡◌, ℕ, Bool, true, false, ◌||◌, List, [], ◌∷◌, ◌++◌, refl, ◌∙◌, ap, filter, map, replicate, zero, suc, if◌then◌else◌}
use Rattle.std.specs.List.{list_any}
use Rattle.law_input_views.specs.ordered_lists.Ordered.{Every}
use Rattle.law_input_views.proofs.ordered_lists.Parts.{IsPart, none, kept, left}

module _ {A : Type 0} (first second : A → Bool) where
  -- a filter that keeps all that another one keeps makes no difference to it
  pub filter_within : (xs : List A) → ((x : A) → first x ≡ true → second x ≡ true) → filter first (filter second xs) ≡ filter first xs
  filter_within [] f = refl
  filter_within (x ∷ xs) f = elim (first x) as (λ t. first x ≡ t → filter first (filter second (x ∷ xs)) ≡ (if t then x ∷ filter first xs else filter first xs)) [
    | true ↦ λ t. ap (λ (b : Bool). filter first (if b then x ∷ filter second xs else filter second xs)) (f x t)
        ∙ ap (λ (b : Bool). if b then x ∷ filter first (filter second xs) else filter first (filter second xs)) t ∙ ap (λ (l : List A). x ∷ l) (filter_within xs f)
    | false ↦ λ t. elim (second x) as (λ s. filter first (if s then x ∷ filter second xs else filter second xs) ≡ filter first xs) [
      | true ↦ ap (λ (b : Bool). if b then x ∷ filter first (filter second xs) else filter first (filter second xs)) t ∙ filter_within xs f
      | false ↦ filter_within xs f
    ]
  ] refl

  pub filter_part : (xs : List A) → IsPart (filter first (filter second xs)) (filter first xs)
  filter_part [] = none
  filter_part (x ∷ xs) = elim (second x) as (λ s. IsPart (filter first (if s then x ∷ filter second xs else filter second xs)) (filter first (x ∷ xs))) [
    | true ↦ elim (first x) as (λ t. IsPart (if t then x ∷ filter first (filter second xs) else filter first (filter second xs)) (if t then x ∷ filter first xs else filter first xs)) [
      | true ↦ kept (filter_part xs)
      | false ↦ filter_part xs
    ]
    | false ↦ elim (first x) as (λ t. IsPart (filter first (filter second xs)) (if t then x ∷ filter first xs else filter first xs)) [
      | true ↦ left (filter_part xs)
      | false ↦ filter_part xs
    ]
  ]

  -- nothing is kept that both keep
  pub filter_none : (xs : List A) → Every (λ x. first x ≡ true → second x ≡ false) xs → filter first (filter second xs) ≡ []
  filter_none [] h = refl
  filter_none (x ∷ xs) h = elim (first x) as (λ t. first x ≡ t → filter first (filter second (x ∷ xs)) ≡ []) [
    | true ↦ λ t. ap (λ (b : Bool). filter first (if b then x ∷ filter second xs else filter second xs)) (h.0 t) ∙ filter_none xs h.1
    | false ↦ λ t. elim (second x) as (λ s. filter first (if s then x ∷ filter second xs else filter second xs) ≡ []) [
      | true ↦ ap (λ (b : Bool). if b then x ∷ filter first (filter second xs) else filter first (filter second xs)) t ∙ filter_none xs h.1
      | false ↦ filter_none xs h.1
    ]
  ] refl

module _ {A : Type 0} (test : A → Bool) where
  pub filter_all : (xs : List A) → Every (λ x. test x ≡ true) xs → filter test xs ≡ xs
  filter_all [] h = refl
  filter_all (x ∷ xs) h = ap (λ (b : Bool). if b then x ∷ filter test xs else filter test xs) h.0 ∙ ap (λ (z : List A). x ∷ z) (filter_all xs h.1)

  pub filter_front : (x : A) (xs : List A) → test x ≡ true → filter test (x ∷ xs) ≡ x ∷ filter test xs
  filter_front x xs h = ap (λ (b : Bool). if b then x ∷ filter test xs else filter test xs) h

  pub filter_skips : (x : A) (xs : List A) → test x ≡ false → filter test (x ∷ xs) ≡ filter test xs
  filter_skips x xs h = ap (λ (b : Bool). if b then x ∷ filter test xs else filter test xs) h

  pub filter_cut : (xs ys : List A) → filter test (xs ++ ys) ≡ filter test xs ++ filter test ys
  filter_cut [] ys = refl
  filter_cut (x ∷ xs) ys = elim (test x) as (λ t. (if t then x ∷ filter test (xs ++ ys) else filter test (xs ++ ys)) ≡ (if t then x ∷ filter test xs else filter test xs) ++ filter test ys) [
    | true ↦ ap (λ (z : List A). x ∷ z) (filter_cut xs ys)
    | false ↦ filter_cut xs ys
  ]

  pub every_filter : (P : A → Type 0) (xs : List A) → Every P xs → Every P (filter test xs)
  every_filter P [] h = tt
  every_filter P (x ∷ xs) h = elim (test x) as (λ t. Every P (if t then x ∷ filter test xs else filter test xs)) [
    | true ↦ (h.0, every_filter P xs h.1)
    | false ↦ every_filter P xs h.1
  ]

  pub any_at : (xs : List A) (x : A) (ys : List A) → test x ≡ true → list_any test (xs ++ x ∷ ys) ≡ true
  any_at [] x ys h = ap (λ (b : Bool). b || list_any test ys) h
  any_at (z ∷ zs) x ys h = elim (test z) as (λ t. (t || list_any test (zs ++ x ∷ ys)) ≡ true) [
    | true ↦ refl
    | false ↦ any_at zs x ys h
  ]

pub map_cut : {A B : Type 0} (f : A → B) (xs ys : List A) → map f (xs ++ ys) ≡ map f xs ++ map f ys
map_cut f [] ys = refl
map_cut f (x ∷ xs) ys = ap (λ (z : List _). f x ∷ z) (map_cut f xs ys)

-- two lists round an element are one element
pub record IsAlone {A : Type 0} (xs : List A) (x : A) (ys : List A) (z : A) : Type 0 where
  pub before : xs ≡ []
  pub is : x ≡ z
  pub after : ys ≡ []

none_round : {A : Type 0} (xs : List A) (x : A) (ys : List A) → xs ++ x ∷ ys ≡ [] → ⊥
none_round [] x ys h = absurd (cc h)
none_round (v ∷ vs) x ys h = absurd (cc h)

pub tail_is : {A : Type 0} (x y : A) (xs ys : List A) → x ∷ xs ≡ y ∷ ys → xs ≡ ys
tail_is x y xs ys h = cc h

pub head_is : {A : Type 0} (x y : A) (xs ys : List A) → x ∷ xs ≡ y ∷ ys → x ≡ y
head_is x y xs ys h = cc h

pub one_alone : {A : Type 0} (xs : List A) (x : A) (ys : List A) (z : A) → xs ++ x ∷ ys ≡ z ∷ [] → IsAlone xs x ys z
one_alone [] x ys z h = record { before = refl; is = head_is x z ys [] h; after = tail_is x z ys [] h }
one_alone (v ∷ vs) x ys z h = absurd (none_round vs x ys (tail_is v z (vs ++ x ∷ ys) [] h))

pub not_none : {A : Type 0} (xs : List A) (x : A) (ys : List A) → xs ++ x ∷ ys ≡ [] → ⊥
not_none xs x ys h = none_round xs x ys h

-- the last of many alike is the first
pub alike_turned : {A : Type 0} (x : A) (n : ℕ) → replicate n x ++ x ∷ [] ≡ x ∷ replicate n x
alike_turned x zero = refl
alike_turned x (suc n) = ap (λ (z : List _). x ∷ z) (alike_turned x n)
