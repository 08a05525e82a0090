-- lists by keys: what is found, and what a change keeps

use Rattle.std.proofs.Common.{◌≡◌, ◌≢◌, ℕ, ◌≤◌, ◌<◌, Bool, true, false, List, [], ◌∷◌, ◌++◌, length, Option, None, Some, refl, sym, ◌∙◌, ap, subst, arith, if◌then◌else◌}
use Rattle.std.specs.Prelude.{nat_eq, nat_le, find, map, is_some}
use Rattle.std.specs.Option.{option_map}
use Rattle.std.proofs.lemmas.Bool.Decides.{nat_tests}
use Rattle.ordered_lists.specs.Ordered.{Every, InOrder}
use Rattle.port_model.specs.Words.{at, put, without, entered, key_le}

-- either way of a test
pub on_both : {A : Type 0} (P : A → Type 0) (b : Bool) (x y : A) → P x → P y → P (if b then x else y)
on_both P true x y p q = p
on_both P false x y p q = q

-- and with the test's outcome
pub on_each : {A : Type 0} (P : A → Type 0) (b : Bool) (x y : A) → (b ≡ true → P x) → (b ≡ false → P y) → P (if b then x else y)
on_each P true x y p q = p refl
on_each P false x y p q = q refl

-- a test of two numbers is the one or the other, with the fact
pub by_eq : {P : Type 0} (a b : ℕ) → (a ≡ b → nat_eq a b ≡ true → P) → (a ≢ b → nat_eq a b ≡ false → P) → P
by_eq {P} a b same other = elim (nat_eq a b) as (λ t. nat_eq a b ≡ t → P) [
  | true ↦ λ e. same (grind (arith, nat_tests)) e
  | false ↦ λ e. other (grind (arith, nat_tests)) e
] refl

module _ {A : Type 0} (key : A → ℕ) where
  pub at_key : (k : ℕ) (xs : List A) (x : A) → at key k xs ≡ Some x → key x ≡ k
  at_key k [] x e = absurd (cc e)
  at_key k (z ∷ xs) x e = elim (nat_eq (key z) k) as (λ t. nat_eq (key z) k ≡ t → (if t then Some z else at key k xs) ≡ Some x → key x ≡ k) [
    | true ↦ λ t h. grind (arith, nat_tests)
    | false ↦ λ t h. at_key k xs x h
  ] refl e

  -- what is found is in the list
  pub at_every : (P : A → Type 0) (k : ℕ) (xs : List A) (x : A) → Every P xs → at key k xs ≡ Some x → P x
  at_every P k [] x h e = absurd (cc e)
  at_every P k (z ∷ xs) x h e = elim (nat_eq (key z) k) as (λ t. (if t then Some z else at key k xs) ≡ Some x → P x) [
    | true ↦ λ e. (let same : z ≡ x = cc in subst P same h.0)
    | false ↦ λ e. at_every P k xs x h.1 e
  ] e

  pub at_put_same : (y : A) (xs : List A) (x : A) → at key (key y) xs ≡ Some x → at key (key y) (put key y xs) ≡ Some y
  at_put_same y [] x e = absurd (cc e)
  at_put_same y (z ∷ xs) x e = elim (nat_eq (key z) (key y)) as (λ t. nat_eq (key z) (key y) ≡ t
      → (if t then Some z else at key (key y) xs) ≡ Some x → at key (key y) (if t then y ∷ xs else z ∷ put key y xs) ≡ Some y) [
        | true ↦ λ t h. grind (arith, nat_tests)
        | false ↦ λ t h. grind (arith, nat_tests, at_put_same y xs x h)
      ] refl e

  pub at_put_other : (y : A) (k : ℕ) (xs : List A) → key y ≢ k → at key k (put key y xs) ≡ at key k xs
  at_put_other y k [] n = refl
  at_put_other y k (z ∷ xs) n = elim (nat_eq (key z) (key y)) as (λ t. nat_eq (key z) (key y) ≡ t
      → at key k (if t then y ∷ xs else z ∷ put key y xs) ≡ at key k (z ∷ xs)) [
        | true ↦ λ t. grind (arith, nat_tests)
        | false ↦ λ t. ap (λ (o : Option A). if nat_eq (key z) k then Some z else o) (at_put_other y k xs n)
      ] refl

  -- *Every element*
  pub put_every : (P : A → Type 0) (y : A) (xs : List A) → P y → Every P xs → Every P (put key y xs)
  put_every P y [] p h = tt
  put_every P y (z ∷ xs) p h = on_both (Every P) (nat_eq (key z) (key y)) (y ∷ xs) (z ∷ put key y xs) (p, h.1) (h.0, put_every P y xs p h.1)

  pub without_every : (P : A → Type 0) (k : ℕ) (xs : List A) → Every P xs → Every P (without key k xs)
  without_every P k [] h = tt
  without_every P k (z ∷ xs) h = on_both (Every P) (nat_eq (key z) k) (without key k xs) (z ∷ without key k xs) (without_every P k xs h.1) (h.0, without_every P k xs h.1)

  pub entered_every : (P : A → Type 0) (le : A → A → Bool) (y : A) (xs : List A) → P y → Every P xs → Every P (entered le y xs)
  entered_every P le y [] p h = (p, tt)
  entered_every P le y (z ∷ xs) p h = on_both (Every P) (le y z) (y ∷ z ∷ xs) (z ∷ entered le y xs) (p, h) (h.0, entered_every P le y xs p h.1)

  -- *Every two elements*, where their relation is one of their keys
  module _ (R : ℕ → ℕ → Type 0) where
    abbrev pub ByKey : A → A → Type 0
    ByKey x y = R (key x) (key y)

    pub put_order : (y : A) (xs : List A) → InOrder ByKey xs → InOrder ByKey (put key y xs)
    put_order y [] h = tt
    put_order y (z ∷ xs) h = on_each (InOrder ByKey) (nat_eq (key z) (key y)) (y ∷ xs) (z ∷ put key y xs)
        (λ t. (let same : key z ≡ key y = grind (arith, nat_tests) in (subst (λ k. Every (λ x. R k (key x)) xs) same h.0, h.1)))
        (λ t. (put_keeps z y xs h.0, put_order y xs h.1))
      where
        put_keeps : (z y : A) (xs : List A) → Every (ByKey z) xs → Every (ByKey z) (put key y xs)
        put_keeps z y [] h = tt
        put_keeps z y (x ∷ xs) h = on_each (Every (ByKey z)) (nat_eq (key x) (key y)) (y ∷ xs) (x ∷ put key y xs)
            (λ t. (let same : key x ≡ key y = grind (arith, nat_tests) in (subst (R (key z)) same h.0, h.1)))
            (λ t. (h.0, put_keeps z y xs h.1))

    pub without_order : (k : ℕ) (xs : List A) → InOrder ByKey xs → InOrder ByKey (without key k xs)
    without_order k [] h = tt
    without_order k (z ∷ xs) h = on_both (InOrder ByKey) (nat_eq (key z) k) (without key k xs) (z ∷ without key k xs)
        (without_order k xs h.1) (without_every (ByKey z) k xs h.0, without_order k xs h.1)

  -- a new key is entered in its place
  pub entered_order : (y : A) (xs : List A) → at key (key y) xs ≡ None → InOrder (λ a b. key a < key b) xs
      → InOrder (λ a b. key a < key b) (entered (key_le key) y xs)
  entered_order y [] n h = (tt, tt)
  entered_order y (z ∷ xs) n h = on_each (InOrder (λ a b. key a < key b)) (nat_le (key y) (key z)) (y ∷ z ∷ xs) (z ∷ entered (key_le key) y xs)
      (λ t. (let below : key y < key z = before t (apart (at key (key y) xs) n) in ((below, further below xs h.0), h)))
      (λ t. (entered_every (λ x. key z < key x) (key_le key) y xs (grind (arith, nat_tests)) h.0, entered_order y xs (behind (at key (key y) xs) n) h.1))
    where
      apart : (o : Option A) → (if nat_eq (key z) (key y) then Some z else o) ≡ None → key z ≢ key y
      apart o n = by_eq (key z) (key y) (λ same t. absurd (cc (sym (ap (λ (b : Bool). if b then Some z else o) t) ∙ n))) (λ other t. other)

      behind : (o : Option A) → (if nat_eq (key z) (key y) then Some z else o) ≡ None → o ≡ None
      behind o n = by_eq (key z) (key y) (λ same t. absurd (cc (sym (ap (λ (b : Bool). if b then Some z else o) t) ∙ n)))
          (λ other t. sym (ap (λ (b : Bool). if b then Some z else o) t) ∙ n)

      before : nat_le (key y) (key z) ≡ true → key z ≢ key y → key y < key z
      before t a = grind (arith, nat_tests)

      further : key y < key z → (xs : List A) → Every (λ x. key z < key x) xs → Every (λ x. key y < key x) xs
      further below [] h = tt
      further below (x ∷ xs) h = (omega (arith, below, h.0), further below xs h.1)

  pub put_length : (y : A) (xs : List A) → length (put key y xs) ≡ length xs
  put_length y [] = refl
  put_length y (z ∷ xs) = on_both (λ ys. length ys ≡ length (z ∷ xs)) (nat_eq (key z) (key y)) (y ∷ xs) (z ∷ put key y xs) refl (omega (arith, put_length y xs))

  pub without_length : (k : ℕ) (xs : List A) → length (without key k xs) ≤ length xs
  without_length k [] = omega arith
  without_length k (z ∷ xs) = on_both (λ ys. length ys ≤ length (z ∷ xs)) (nat_eq (key z) k) (without key k xs) (z ∷ without key k xs)
      (omega (arith, without_length k xs)) (omega (arith, without_length k xs))

-- an element more at the end
pub every_more : {A : Type 0} (P : A → Type 0) (xs : List A) (y : A) → Every P xs → P y → Every P (xs ++ y ∷ [])
every_more P [] y h p = (p, tt)
every_more P (x ∷ xs) y h p = (h.0, every_more P xs y h.1 p)

-- whose key is none of theirs
pub apart_more : {A : Type 0} (key : A → ℕ) (xs : List A) (y : A) → at key (key y) xs ≡ None → InOrder (λ a b. key a ≢ key b) xs
    → InOrder (λ a b. key a ≢ key b) (xs ++ y ∷ [])
apart_more key [] y n h = (tt, tt)
apart_more key (x ∷ xs) y n h = by_eq (key x) (key y)
    (λ same t. absurd (cc (sym (ap (λ (b : Bool). if b then Some x else at key (key y) xs) t) ∙ n)))
    (λ other t. (every_more (λ z. key x ≢ key z) xs y h.0 other, apart_more key xs y (sym (ap (λ (b : Bool). if b then Some x else at key (key y) xs) t) ∙ n) h.1))

-- what passes a test in an ascending list is found by its key
pub find_at : {A : Type 0} (key : A → ℕ) (test : A → Bool) (xs : List A) (x : A) → InOrder (λ a b. key a < key b) xs → find test xs ≡ Some x
    → at key (key x) xs ≡ Some x
find_at {A} key test [] x h e = absurd (cc e)
find_at {A} key test (z ∷ xs) x h e = elim (test z) as (λ t. (if t then Some z else find test xs) ≡ Some x → at key (key x) (z ∷ xs) ≡ Some x) [
  | true ↦ λ e. (let same : z ≡ x = cc in subst (λ y. (if nat_eq (key z) (key y) then Some z else at key (key y) xs) ≡ Some y) same (first z))
  | false ↦ λ e. (let behind : key z < key x = found_behind xs h.0 e in passed (key z) (key x) behind ∙ find_at key test xs x h.1 e)
] e
  where
    first : (z : A) → (if nat_eq (key z) (key z) then Some z else at key (key z) xs) ≡ Some z
    first z = (let same : nat_eq (key z) (key z) ≡ true = grind (arith, nat_tests) in ap (λ (b : Bool). if b then Some z else at key (key z) xs) same)

    passed : (a b : ℕ) → a < b → (if nat_eq a b then Some z else at key b xs) ≡ at key b xs
    passed a b below = (let other : nat_eq a b ≡ false = grind (arith, nat_tests) in ap (λ (t : Bool). if t then Some z else at key b xs) other)

    found_behind : (xs : List A) → Every (λ b. key z < key b) xs → find test xs ≡ Some x → key z < key x
    found_behind [] h e = absurd (cc e)
    found_behind (y ∷ ys) h e = elim (test y) as (λ t. (if t then Some y else find test ys) ≡ Some x → key z < key x) [
      | true ↦ λ e. (let same : y ≡ x = cc in subst (λ v. key z < key v) same h.0)
      | false ↦ λ e. found_behind ys h.1 e
    ] e

-- what passes a test in a list of different keys is found by its key, and so is each element
pub apart_at : {A : Type 0} (key : A → ℕ) (test : A → Bool) (xs : List A) (x : A) → InOrder (λ a b. key a ≢ key b) xs → find test xs ≡ Some x
    → at key (key x) xs ≡ Some x
apart_at {A} key test [] x h e = absurd (cc e)
apart_at {A} key test (z ∷ xs) x h e = elim (test z) as (λ t. (if t then Some z else find test xs) ≡ Some x → at key (key x) (z ∷ xs) ≡ Some x) [
  | true ↦ λ e. (let same : z ≡ x = cc in subst (λ y. (if nat_eq (key z) (key y) then Some z else at key (key y) xs) ≡ Some y) same (first z))
  | false ↦ λ e. passed (key z) (key x) (found_apart xs h.0 e) ∙ apart_at key test xs x h.1 e
] e
  where
    first : (z : A) → (if nat_eq (key z) (key z) then Some z else at key (key z) xs) ≡ Some z
    first z = (let same : nat_eq (key z) (key z) ≡ true = grind (arith, nat_tests) in ap (λ (b : Bool). if b then Some z else at key (key z) xs) same)

    passed : (a b : ℕ) → a ≢ b → (if nat_eq a b then Some z else at key b xs) ≡ at key b xs
    passed a b differ = (let other : nat_eq a b ≡ false = grind (arith, nat_tests) in ap (λ (t : Bool). if t then Some z else at key b xs) other)

    found_apart : (xs : List A) → Every (λ b. key z ≢ key b) xs → find test xs ≡ Some x → key z ≢ key x
    found_apart [] h e = absurd (cc e)
    found_apart (y ∷ ys) h e = elim (test y) as (λ t. (if t then Some y else find test ys) ≡ Some x → key z ≢ key x) [
      | true ↦ λ e. (let same : y ≡ x = cc in subst (λ v. key z ≢ key v) same h.0)
      | false ↦ λ e. found_apart ys h.1 e
    ] e

-- each element of a list of different keys is found
pub each_found : {A : Type 0} (key : A → ℕ) (xs : List A) → InOrder (λ a b. key a ≢ key b) xs → Every (λ x. at key (key x) xs ≡ Some x) xs
each_found {A} key [] h = tt
each_found {A} key (z ∷ xs) h = (first z, later xs h.0 (each_found key xs h.1))
  where
    first : (z : A) → (if nat_eq (key z) (key z) then Some z else at key (key z) xs) ≡ Some z
    first z = (let same : nat_eq (key z) (key z) ≡ true = grind (arith, nat_tests) in ap (λ (b : Bool). if b then Some z else at key (key z) xs) same)

    later : (ys : List A) → Every (λ y. key z ≢ key y) ys → Every (λ y. at key (key y) xs ≡ Some y) ys → Every (λ y. at key (key y) (z ∷ xs) ≡ Some y) ys
    later [] a f = tt
    later (y ∷ ys) a f = ((let other : nat_eq (key z) (key y) ≡ false = grind (arith, nat_tests, a.0) in ap (λ (t : Bool). if t then Some z else at key (key y) xs) other ∙ f.0), later ys a.1 f.1)

-- each key of a list is found in it
pub each_key_found : {A : Type 0} (key : A → ℕ) (xs : List A) → Every (λ x. is_some (at key (key x) xs) ≡ true) xs
each_key_found {A} key [] = tt
each_key_found {A} key (z ∷ xs) = (here z, later xs (each_key_found key xs))
  where
    here : (z : A) → is_some (if nat_eq (key z) (key z) then Some z else at key (key z) xs) ≡ true
    here z = (let same : nat_eq (key z) (key z) ≡ true = grind (arith, nat_tests) in ap (λ (b : Bool). is_some (if b then Some z else at key (key z) xs)) same)

    further : (y : A) (b : Bool) → is_some (at key (key y) xs) ≡ true → is_some (if b then Some z else at key (key y) xs) ≡ true
    further y true f = refl
    further y false f = f

    later : (ys : List A) → Every (λ y. is_some (at key (key y) xs) ≡ true) ys → Every (λ y. is_some (at key (key y) (z ∷ xs)) ≡ true) ys
    later [] f = tt
    later (y ∷ ys) f = (further y (nat_eq (key z) (key y)) f.0, later ys f.1)

-- what is found of a list that is mapped by something with the same keys
pub at_map : {A B : Type 0} (key : A → ℕ) (other : B → ℕ) (f : A → B) → ((x : A) → other (f x) ≡ key x) → (k : ℕ) (xs : List A)
    → at other k (map f xs) ≡ option_map f (at key k xs)
at_map key other f same k [] = refl
at_map key other f same k (x ∷ xs) = ap (λ n. if nat_eq n k then Some (f x) else at other k (map f xs)) (same x) ∙ mapped (nat_eq (key x) k) (at_map key other f same k xs)
  where
    mapped : (b : Bool) → at other k (map f xs) ≡ option_map f (at key k xs) → (if b then Some (f x) else at other k (map f xs)) ≡ option_map f (if b then Some x else at key k xs)
    mapped true e = refl
    mapped false e = e

-- an element that is put in the place of one with its image
pub map_put : {A B : Type 0} (key : A → ℕ) (f : A → B) (y : A) (xs : List A) (x : A) → at key (key y) xs ≡ Some x → f y ≡ f x → map f (put key y xs) ≡ map f xs
map_put key f y [] x e same = refl
map_put key f y (z ∷ xs) x e same = elim (nat_eq (key z) (key y)) as (λ t. (if t then Some z else at key (key y) xs) ≡ Some x → map f (if t then y ∷ xs else z ∷ put key y xs) ≡ map f (z ∷ xs)) [
  | true ↦ λ e. (let is : z ≡ x = cc in ap (λ v. v ∷ map f xs) (same ∙ ap f (sym is)))
  | false ↦ λ e. ap (λ vs. f z ∷ vs) (map_put key f y xs x e same)
] e
