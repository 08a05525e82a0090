-- Elements in order: of a list of which some are left out, and with one more.

use Rattle.std.proofs.Common.{◌≡◌, Bool, true, false, List, [], ◌∷◌, ◌++◌, map, filter, refl, sym, ap, ◌∙◌, ◌⊎◌, inl, inr, if◌then◌else◌}
use Rattle.ordered_lists.specs.Ordered.{Every, InOrder}
use Rattle.keyed_lists.specs.Keyed.{entered, in_order}

pub on_both : {A : Type 0} (P : A → Type 0) (b : Bool) (x y : A) → P x → P y → P (if b then x else y)
on_both P true x y p q = p
on_both P false x y p q = q

pub on_each : {A : Type 0} (P : A → Type 0) (b : Bool) (x y : A) → (b ≡ true → P x) → (b ≡ false → P y) → P (if b then x else y)
on_each P true x y p q = p refl
on_each P false x y p q = q refl

pub filter_first : {A : Type 0} (p : A → Bool) (x : A) (xs : List A) → p x ≡ true → filter p (x ∷ xs) ≡ x ∷ filter p xs
filter_first p x xs is = ap (λ (b : Bool). if b then x ∷ filter p xs else filter p xs) is

pub filter_not : {A : Type 0} (p : A → Bool) (x : A) (xs : List A) → p x ≡ false → filter p (x ∷ xs) ≡ filter p xs
filter_not p x xs is = ap (λ (b : Bool). if b then x ∷ filter p xs else filter p xs) is

pub every_filter : {A : Type 0} (P : A → Type 0) (p : A → Bool) (xs : List A) → Every P xs → Every P (filter p xs)
every_filter P p [] h = tt
every_filter P p (x ∷ xs) h = on_both (Every P) (p x) (x ∷ filter p xs) (filter p xs) (h.0, every_filter P p xs h.1) (every_filter P p xs h.1)

module _ {A : Type 0} (le : A → A → Bool) where
  pub in_front : (y x : A) (xs : List A) → le y x ≡ true → entered le y (x ∷ xs) ≡ y ∷ x ∷ xs
  in_front y x xs is = ap (λ (b : Bool). if b then y ∷ x ∷ xs else x ∷ entered le y xs) is

  pub behind_first : (y x : A) (xs : List A) → le y x ≡ false → entered le y (x ∷ xs) ≡ x ∷ entered le y xs
  behind_first y x xs is = ap (λ (b : Bool). if b then y ∷ x ∷ xs else x ∷ entered le y xs) is

  -- *Each element*
  pub each_entered : (P : A → Type 0) (y : A) (xs : List A) → P y → Every P xs → Every P (entered le y xs)
  each_entered P y [] p h = (p, tt)
  each_entered P y (x ∷ xs) p h = on_both (Every P) (le y x) (y ∷ x ∷ xs) (x ∷ entered le y xs) (p, h) (h.0, each_entered P y xs p h.1)

  each_apart : (P : A → Type 0) (y : A) (xs : List A) → Every P (entered le y xs) → P y × Every P xs
  each_apart P y [] h = h
  each_apart P y (x ∷ xs) h = by (le y x) (each_apart P y xs) h where
    by : (b : Bool) → (Every P (entered le y xs) → P y × Every P xs) → Every P (if b then y ∷ x ∷ xs else x ∷ entered le y xs) → P y × (P x × Every P xs)
    by true others h = h
    by false others h = (let rest = others h.1 in (rest.0, (h.0, rest.1)))

  pub each_ordered : (P : A → Type 0) (xs : List A) → Every P xs → Every P (in_order le xs)
  each_ordered P [] h = tt
  each_ordered P (x ∷ xs) h = each_entered P x (in_order le xs) h.0 (each_ordered P xs h.1)

  pub each_unordered : (P : A → Type 0) (xs : List A) → Every P (in_order le xs) → Every P xs
  each_unordered P [] h = tt
  each_unordered P (x ∷ xs) h = (let both = each_apart P x (in_order le xs) h in (both.0, each_unordered P xs both.1))

  -- *Every two*, where their relation goes both ways
  two_apart : (R : A → A → Type 0) → ((x y : A) → R x y → R y x) → (y : A) (xs : List A) → InOrder R (entered le y xs) → Every (R y) xs × InOrder R xs
  two_apart R turned y [] h = (tt, tt)
  two_apart R turned y (x ∷ xs) h = by (le y x) (two_apart R turned y xs) h where
    by : (b : Bool) → (InOrder R (entered le y xs) → Every (R y) xs × InOrder R xs) → InOrder R (if b then y ∷ x ∷ xs else x ∷ entered le y xs) → (R y x × Every (R y) xs) × (Every (R x) xs × InOrder R xs)
    by true others h = (h.0, h.1)
    by false others h =
        (let rest = others h.1 in
        let first = each_apart (R x) y xs h.0 in
        ((turned x y first.0, rest.0), (first.1, rest.1)))

  pub two_unordered : (R : A → A → Type 0) → ((x y : A) → R x y → R y x) → (xs : List A) → InOrder R (in_order le xs) → InOrder R xs
  two_unordered R turned [] h = tt
  two_unordered R turned (x ∷ xs) h =
      (let both = two_apart R turned x (in_order le xs) h in
      (each_unordered (R x) xs both.0, two_unordered R turned xs both.1))

-- *A total order*
module _ {A : Type 0} (le : A → A → Bool) (total : (a b : A) → le a b ≡ false → le b a ≡ true) (further : (a b c : A) → le a b ≡ true → le b c ≡ true → le a c ≡ true) where
  abbrev pub Sorted : List A → Type 0
  Sorted xs = InOrder (λ x y. le x y ≡ true) xs

  above : (y z : A) (xs : List A) → le y z ≡ true → Every (λ x. le z x ≡ true) xs → Every (λ x. le y x ≡ true) xs
  above y z [] first h = tt
  above y z (x ∷ xs) first h = (further y z x first h.0, above y z xs first h.1)

  entered_sorted : (y : A) (xs : List A) → Sorted xs → Sorted (entered le y xs)
  entered_sorted y [] h = (tt, tt)
  entered_sorted y (x ∷ xs) h = on_each Sorted (le y x) (y ∷ x ∷ xs) (x ∷ entered le y xs)
      (λ t. ((t, above y x xs t h.0), h))
      (λ f. (each_entered le (λ z. le x z ≡ true) y xs (total y x f) h.0, entered_sorted y xs h.1))

  pub in_order_sorted : (xs : List A) → Sorted (in_order le xs)
  in_order_sorted [] = tt
  in_order_sorted (x ∷ xs) = entered_sorted x (in_order le xs) (in_order_sorted xs)

  -- *Some are left out*
  left_out : (p : A → Bool) (y : A) (xs : List A) → p y ≡ false → filter p (entered le y xs) ≡ filter p xs
  left_out p y [] out = filter_not p y [] out
  left_out p y (x ∷ xs) out = on_both (λ (zs : List A). filter p zs ≡ filter p (x ∷ xs)) (le y x) (y ∷ x ∷ xs) (x ∷ entered le y xs)
      (filter_not p y (x ∷ xs) out) (ap (λ (zs : List A). if p x then x ∷ zs else zs) (left_out p y xs out))

  first_in : (y : A) (xs : List A) → Every (λ x. le y x ≡ true) xs → entered le y xs ≡ y ∷ xs
  first_in y [] h = refl
  first_in y (x ∷ xs) h = in_front le y x xs h.0

  kept_in : (p : A → Bool) (y : A) (xs : List A) → p y ≡ true → Sorted xs → filter p (entered le y xs) ≡ entered le y (filter p xs)
  kept_in p y [] is h = filter_first p y [] is
  kept_in p y (x ∷ xs) is h = on_each (λ (zs : List A). filter p zs ≡ entered le y (filter p (x ∷ xs))) (le y x) (y ∷ x ∷ xs) (x ∷ entered le y xs)
      (λ t. filter_first p y (x ∷ xs) is ∙ sym (first_in y (filter p (x ∷ xs)) (every_filter (λ z. le y z ≡ true) p (x ∷ xs) (t, above y x xs t h.0))))
      (λ f. by f (kept_in p y xs is h.1) (p x))
    where
      by : le y x ≡ false → filter p (entered le y xs) ≡ entered le y (filter p xs) → (q : Bool)
          → (if q then x ∷ filter p (entered le y xs) else filter p (entered le y xs)) ≡ entered le y (if q then x ∷ filter p xs else filter p xs)
      by f rest true = ap (λ (zs : List A). x ∷ zs) rest ∙ sym (behind_first le y x (filter p xs) f)
      by f rest false = rest

  pub filter_in_order : (p : A → Bool) (xs : List A) → filter p (in_order le xs) ≡ in_order le (filter p xs)
  filter_in_order p [] = refl
  filter_in_order p (x ∷ xs) = by (p x) refl (filter_in_order p xs) where
    by : (q : Bool) → p x ≡ q → filter p (in_order le xs) ≡ in_order le (filter p xs) → filter p (entered le x (in_order le xs)) ≡ in_order le (if q then x ∷ filter p xs else filter p xs)
    by true is others = kept_in p x (in_order le xs) is (in_order_sorted xs) ∙ ap (entered le x) others
    by false is others = left_out p x (in_order le xs) is ∙ others

  -- *One more*, wherever it stands
  exchanged : (y z : A) (xs : List A) → le y z ≡ true → le z y ≡ false → entered le y (entered le z xs) ≡ entered le z (entered le y xs)
  exchanged y z [] yz zy = in_front le y z [] yz ∙ sym (behind_first le z y [] zy)
  exchanged y z (x ∷ xs) yz zy = by (exchanged y z xs yz zy) (le z x) (le y x) refl refl where
    by : entered le y (entered le z xs) ≡ entered le z (entered le y xs) → (b q : Bool) → le z x ≡ b → le y x ≡ q → entered le y (entered le z (x ∷ xs)) ≡ entered le z (entered le y (x ∷ xs))
    by others true true zx yx =
        ap (entered le y) (in_front le z x xs zx) ∙ in_front le y z (x ∷ xs) yz
        ∙ sym (ap (entered le z) (in_front le y x xs yx) ∙ behind_first le z y (x ∷ xs) zy ∙ ap (λ (zs : List A). y ∷ zs) (in_front le z x xs zx))
    by others true false zx yx = absurd (cc (sym yx ∙ further y z x yz zx))
    by others false true zx yx =
        ap (entered le y) (behind_first le z x xs zx) ∙ in_front le y x (entered le z xs) yx
        ∙ sym (ap (entered le z) (in_front le y x xs yx) ∙ behind_first le z y (x ∷ xs) zy ∙ ap (λ (zs : List A). y ∷ zs) (behind_first le z x xs zx))
    by others false false zx yx =
        ap (entered le y) (behind_first le z x xs zx) ∙ behind_first le y x (entered le z xs) yx ∙ ap (λ (zs : List A). x ∷ zs) others
        ∙ sym (ap (entered le z) (behind_first le y x xs yx) ∙ behind_first le z x (entered le y xs) zx)

  abbrev pub Differ : A → A → Type 0
  Differ y z = (le y z ≡ false) ⊎ (le z y ≡ false)

  swapped : (y z : A) (xs : List A) → Differ y z → entered le y (entered le z xs) ≡ entered le z (entered le y xs)
  swapped y z xs (inl f) = sym (exchanged z y xs (total y z f) f)
  swapped y z xs (inr f) = exchanged y z xs (total z y f) f

  pub more_in_order : (front : List A) (y : A) (back : List A) → Every (λ x. Differ x y) front → in_order le (front ++ y ∷ back) ≡ entered le y (in_order le (front ++ back))
  more_in_order [] y back d = refl
  more_in_order (x ∷ front) y back d = ap (entered le x) (more_in_order front y back d.1) ∙ swapped x y (in_order le (front ++ back)) d.0

-- *What is made of each* keeps their order
module _ {A B : Type 0} (f : A → B) (le : A → A → Bool) (other : B → B → Bool) (same : (x y : A) → le x y ≡ other (f x) (f y)) where
  map_entered : (y : A) (xs : List A) → map f (entered le y xs) ≡ entered other (f y) (map f xs)
  map_entered y [] = refl
  map_entered y (x ∷ xs) = ap (λ (b : Bool). map f (if b then y ∷ x ∷ xs else x ∷ entered le y xs)) (same y x) ∙ by (other (f y) (f x)) (map_entered y xs) where
    by : (b : Bool) → map f (entered le y xs) ≡ entered other (f y) (map f xs) → map f (if b then y ∷ x ∷ xs else x ∷ entered le y xs) ≡ (if b then f y ∷ f x ∷ map f xs else f x ∷ entered other (f y) (map f xs))
    by true others = refl
    by false others = ap (λ (zs : List B). f x ∷ zs) others

  pub map_in_order : (xs : List A) → map f (in_order le xs) ≡ in_order other (map f xs)
  map_in_order [] = refl
  map_in_order (x ∷ xs) = map_entered x (in_order le xs) ∙ ap (entered other (f x)) (map_in_order xs)
