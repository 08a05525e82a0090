-- A list at the place of an element that is found by its key.

use Rattle.std.proofs.Common.{◌≡◌, ◌≢◌, inl, inr, ℕ, nat_eq, Bool, true, false, List, [], ◌∷◌, ◌++◌, map, Option, Some, None, refl, sym, ap, subst, ◌∙◌, arith, if◌then◌else◌}
use Rattle.std.proofs.lemmas.Bool.{cases_eq}
use Rattle.std.proofs.lemmas.Bool.Decides.{nat_tests}
use Rattle.std.proofs.lemmas.List.{map-append}
use Rattle.ordered_lists.specs.Ordered.{Every, InOrder}
use Rattle.keyed_lists.specs.Keyed.{at, put, without}

module _ {A : Type 0} (key : A → ℕ) where
  -- no two have one key
  abbrev pub AreApart : List A → Type 0
  AreApart [] = Unit {0}
  AreApart (x ∷ xs) = (at key (key x) xs ≡ None) × AreApart xs

  pub record Split (k : ℕ) (xs : List A) (x : A) : Type 0 where
    pub front : List A
    pub back : List A
    pub whole : xs ≡ front ++ x ∷ back
    pub own : key x ≡ k
    pub placed : (y : A) → key y ≡ k → put key y xs ≡ front ++ y ∷ back
    pub gone : AreApart xs → without key k xs ≡ front ++ back

  -- what isn't there is left out already
  pub none_without : (k : ℕ) (xs : List A) → at key k xs ≡ None → without key k xs ≡ xs
  none_without k [] none = refl
  none_without k (x ∷ xs) none = by (nat_eq (key x) k) none (none_without k xs) where
    by : (b : Bool) → (if b then Some x else at key k xs) ≡ None → (at key k xs ≡ None → without key k xs ≡ xs) → (if b then without key k xs else x ∷ without key k xs) ≡ x ∷ xs
    by true is others = absurd (cc is)
    by false is others = ap (λ ys. x ∷ ys) (others is)

  number_is : (m k : ℕ) → nat_eq m k ≡ true → m ≡ k
  number_is m k e = grind (arith, nat_tests)

  pub split : (k : ℕ) (xs : List A) (x : A) → at key k xs ≡ Some x → Split k xs x
  split k [] x found = absurd (cc found)
  split k (z ∷ xs) x found = by (nat_eq (key z) k) refl found (split k xs x) where
    here : nat_eq (key z) k ≡ true → z ≡ x → Split k (z ∷ xs) x
    here t same = record {
      front = [];
      back = xs;
      whole = ap (λ y. y ∷ xs) same;
      own = subst (λ (y : A). key y ≡ k) same (number_is (key z) k t);
      placed = λ y is. ap (λ (n : ℕ). if nat_eq (key z) n then y ∷ xs else z ∷ put key y xs) is ∙ ap (λ (b : Bool). if b then y ∷ xs else z ∷ put key y xs) t;
      gone = λ apart. ap (λ (b : Bool). if b then without key k xs else z ∷ without key k xs) t ∙ none_without k xs (subst (λ (n : ℕ). at key n xs ≡ None) (number_is (key z) k t) apart.0);
    }

    there : nat_eq (key z) k ≡ false → Split k xs x → Split k (z ∷ xs) x
    there f s = record {
      front = z ∷ s.front;
      back = s.back;
      whole = ap (λ ys. z ∷ ys) s.whole;
      own = s.own;
      placed = λ y is. ap (λ (n : ℕ). if nat_eq (key z) n then y ∷ xs else z ∷ put key y xs) is ∙ ap (λ (b : Bool). if b then y ∷ xs else z ∷ put key y xs) f ∙ ap (λ ys. z ∷ ys) (s.placed y is);
      gone = λ apart. ap (λ (b : Bool). if b then without key k xs else z ∷ without key k xs) f ∙ ap (λ ys. z ∷ ys) (s.gone apart.1);
    }

    by : (b : Bool) → nat_eq (key z) k ≡ b → (if b then Some z else at key k xs) ≡ Some x → (at key k xs ≡ Some x → Split k xs x) → Split k (z ∷ xs) x
    by true t e others = (let same : z ≡ x = cc e in here t same)
    by false f e others = there f (others e)

  pub key_of : (k : ℕ) (xs : List A) (x : A) → at key k xs ≡ Some x → key x ≡ k
  key_of k xs x found = (let s = split k xs x found in s.own)

  pub found_own : (k : ℕ) (xs : List A) (x : A) → at key k xs ≡ Some x → at key (key x) xs ≡ Some x
  found_own k xs x found = subst (λ (n : ℕ). at key n xs ≡ Some x) (sym (key_of k xs x found)) found

  -- what is made of each stays where it is the same of what is put
  pub map_put : {B : Type 0} (f : A → B) (y : A) (xs : List A) (x : A) → at key (key y) xs ≡ Some x → f y ≡ f x → map f (put key y xs) ≡ map f xs
  map_put f y xs x found same =
      let s = split (key y) xs x found in
      ap (map f) (s.placed y refl) ∙ map-append f s.front (y ∷ s.back) ∙ ap (λ v. map f s.front ++ v ∷ map f s.back) same ∙ sym (map-append f s.front (x ∷ s.back)) ∙ ap (map f) (sym s.whole)

  -- *What is found after*
  at_first : (k : ℕ) (z : A) (xs : List A) (b : Bool) → nat_eq (key z) k ≡ b → at key k (z ∷ xs) ≡ (if b then Some z else at key k xs)
  at_first k z xs b e = ap (λ (t : Bool). if t then Some z else at key k xs) e

  number_not : (m k : ℕ) → nat_eq m k ≡ false → m ≢ k
  number_not m k e = grind (arith, nat_tests)

  same_number : (m k : ℕ) → m ≡ k → nat_eq m k ≡ true
  same_number m k e = grind (arith, nat_tests)

  other_number : (m k : ℕ) → m ≢ k → nat_eq m k ≡ false
  other_number m k e = grind (arith, nat_tests)

  pub at_put : (y : A) (xs : List A) (x : A) → at key (key y) xs ≡ Some x → at key (key y) (put key y xs) ≡ Some y
  at_put y [] x found = absurd (cc found)
  at_put y (z ∷ xs) x found = by (nat_eq (key z) (key y)) refl found (at_put y xs x) where
    by : (b : Bool) → nat_eq (key z) (key y) ≡ b → (if b then Some z else at key (key y) xs) ≡ Some x → (at key (key y) xs ≡ Some x → at key (key y) (put key y xs) ≡ Some y) → at key (key y) (if b then y ∷ xs else z ∷ put key y xs) ≡ Some y
    by true t e others = at_first (key y) y xs true (same_number (key y) (key y) refl)
    by false f e others = at_first (key y) z (put key y xs) false f ∙ others e

  pub at_put_other : (y : A) (k : ℕ) (xs : List A) → key y ≢ k → at key k (put key y xs) ≡ at key k xs
  at_put_other y k [] other = refl
  at_put_other y k (z ∷ xs) other = by (nat_eq (key z) (key y)) refl (at_put_other y k xs other) where
    by : (b : Bool) → nat_eq (key z) (key y) ≡ b → at key k (put key y xs) ≡ at key k xs → at key k (if b then y ∷ xs else z ∷ put key y xs) ≡ at key k (z ∷ xs)
    by true t others =
        (let away : key z ≢ k = λ e. other (sym (number_is (key z) (key y) t) ∙ e) in
        at_first k y xs false (other_number (key y) k other) ∙ sym (at_first k z xs false (other_number (key z) k away)))
    by false f others = ap (λ (o : Option A). if nat_eq (key z) k then Some z else o) others

  -- what is made of it is the same under every key, where it is the same of what is put
  pub each_put : {B : Type 0} (f : Option A → B) (y : A) (k : ℕ) (xs : List A) (x : A) → at key (key y) xs ≡ Some x → f (Some y) ≡ f (Some x) → f (at key k (put key y xs)) ≡ f (at key k xs)
  each_put f y k xs x found same = elim (cases_eq (key y) k) [
    | inl e ↦ subst (λ (n : ℕ). f (at key n (put key y xs)) ≡ f (at key n xs)) e (ap f (at_put y xs x found) ∙ same ∙ ap f (sym found))
    | inr other ↦ ap f (at_put_other y k xs other)
  ]

  -- each element of a list of different keys is found
  pub each_found : (xs : List A) → InOrder (λ x y. key x ≢ key y) xs → Every (λ x. at key (key x) xs ≡ Some x) xs
  each_found [] h = tt
  each_found (z ∷ xs) h = (at_first (key z) z xs true (same_number (key z) (key z) refl), later xs h.0 (each_found xs h.1)) where
    later : (ys : List A) → Every (λ y. key z ≢ key y) ys → Every (λ y. at key (key y) xs ≡ Some y) ys → Every (λ y. at key (key y) (z ∷ xs) ≡ Some y) ys
    later [] a f = tt
    later (y ∷ ys) a f = (at_first (key y) z xs false (other_number (key z) (key y) a.0) ∙ f.0, later ys a.1 f.1)
