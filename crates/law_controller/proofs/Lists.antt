-- how many of a list pass a test, and whether one does

use Rattle.std.proofs.Common.{◌≡◌, ◌≢◌, ℕ, ◌≤◌, Bool, true, false, List, [], ◌∷◌, ◌++◌, length, Some, refl, sym, ◌∙◌, ap, subst, arith, if◌then◌else◌}
use Rattle.std.specs.Prelude.{◌+◌, not, ◌||◌, filter, find}
use Rattle.std.specs.List.{list_any}
use Rattle.law_controller_facts.specs.ordered_lists.Ordered.{Every, InOrder}
use Rattle.law_controller_facts.specs.world_model.Words.{at, put, without}
use Rattle.law_controller_facts.proofs.law_port_facts.Keyed.{on_both, by_eq}
use Rattle.law_controller.specs.Order.{one_if, count_of}

-- *Tests*
pub one_most : (b : Bool) → one_if b ≤ 1
one_most true = omega arith
one_most false = omega arith

pub one_or : (a b : Bool) → one_if (a || b) ≤ one_if a + one_if b
one_or true b = omega arith
one_or false b = omega arith

pub one_none : (b : Bool) → b ≡ false → one_if b ≤ 0
one_none true e = absurd (cc e)
one_none false e = omega arith

pub one_leads : (a b : Bool) → (a ≡ true → b ≡ true) → one_if a ≤ one_if b
one_leads true b leads = (let is : b ≡ true = leads refl in subst (λ t. 1 ≤ one_if t) (sym is) (omega arith))
one_leads false b leads = omega arith

-- *How many*
module _ {A : Type 0} where
  pub count_most : (f : A → Bool) (xs : List A) → count_of f xs ≤ length xs
  count_most f [] = omega arith
  count_most f (x ∷ xs) = omega (arith, one_most (f x), count_most f xs)

  pub count_filter : (f g : A → Bool) (xs : List A) → count_of f (filter g xs) ≤ count_of f xs
  count_filter f g [] = omega arith
  count_filter f g (x ∷ xs) = on_both (λ ys. count_of f ys ≤ one_if (f x) + count_of f xs) (g x) (x ∷ filter g xs) (filter g xs)
      (omega (arith, count_filter f g xs)) (omega (arith, count_filter f g xs))

  pub length_filter : (g : A → Bool) (xs : List A) → length (filter g xs) ≤ length xs
  length_filter g [] = omega arith
  length_filter g (x ∷ xs) = on_both (λ ys. length ys ≤ length (x ∷ xs)) (g x) (x ∷ filter g xs) (filter g xs)
      (omega (arith, length_filter g xs)) (omega (arith, length_filter g xs))

  pub count_more : (f : A → Bool) (xs : List A) (y : A) → count_of f (xs ++ y ∷ []) ≡ count_of f xs + one_if (f y)
  count_more f [] y = omega arith
  count_more f (x ∷ xs) y = omega (arith, count_more f xs y)

  pub count_less : (f g : A → Bool) → ((x : A) → one_if (f x) ≤ one_if (g x)) → (xs : List A) → count_of f xs ≤ count_of g xs
  count_less f g each [] = omega arith
  count_less f g each (x ∷ xs) = omega (arith, each x, count_less f g each xs)

  -- of those that have P
  pub count_within : (P : A → Type 0) (f g : A → Bool) → ((x : A) → P x → one_if (f x) ≤ one_if (g x)) → (xs : List A) → Every P xs → count_of f xs ≤ count_of g xs
  count_within P f g each [] h = omega arith
  count_within P f g each (x ∷ xs) h = omega (arith, each x h.0, count_within P f g each xs h.1)

  pub count_or : (f g h : A → Bool) → ((x : A) → one_if (f x) ≤ one_if (g x) + one_if (h x)) → (xs : List A) → count_of f xs ≤ count_of g xs + count_of h xs
  count_or f g h each [] = omega arith
  count_or f g h each (x ∷ xs) = omega (arith, each x, count_or f g h each xs)

  pub count_none : (f : A → Bool) (xs : List A) → Every (λ x. f x ≡ false) xs → count_of f xs ≤ 0
  count_none f [] h = omega arith
  count_none f (x ∷ xs) h = omega (arith, one_none (f x) h.0, count_none f xs h.1)

  -- what passes g passes f or doesn't, as b says: where one passes g, it makes room
  pub count_replaced : (f g : A → Bool) (b : Bool) → ((x : A) → g x ≡ true → f x ≡ b) → (xs : List A) → list_any g xs ≡ true
      → count_of f (filter (λ x. not (g x)) xs) + one_if b ≤ count_of f xs
  count_replaced f g b each [] some = absurd (cc some)
  count_replaced f g b each (x ∷ xs) some = by_test (λ e. count_replaced f g b each xs e) (g x) refl some
    where
      by_test : (list_any g xs ≡ true → count_of f (filter (λ x. not (g x)) xs) + one_if b ≤ count_of f xs) → (t : Bool) → g x ≡ t → (t || list_any g xs) ≡ true → count_of f (if not t then x ∷ filter (λ x. not (g x)) xs else filter (λ x. not (g x)) xs) + one_if b ≤ one_if (f x) + count_of f xs
      by_test rest true is e = (let same : f x ≡ b = each x is in omega (arith, count_filter f (λ x. not (g x)) xs, ap one_if same))
      by_test rest false is e = omega (arith, rest e)

  -- at most one of those that stand in R to each other
  pub count_one : (R : A → A → Type 0) (f : A → Bool) → ((x y : A) → R x y → f x ≡ true → f y ≡ true → ⊥) → (xs : List A) → InOrder R xs → count_of f xs ≤ 1
  count_one R f never [] h = omega arith
  count_one R f never (x ∷ xs) h = by_test (count_one R f never xs h.1) (f x) refl
    where
      others : f x ≡ true → (ys : List A) → Every (R x) ys → Every (λ y. f y ≡ false) ys
      others is [] all = tt
      others is (y ∷ ys) all = (by_other (f y) refl, others is ys all.1)
        where
          by_other : (t : Bool) → f y ≡ t → f y ≡ false
          by_other true e = absurd (never x y all.0 is e)
          by_other false e = e

      by_test : count_of f xs ≤ 1 → (t : Bool) → f x ≡ t → one_if t + count_of f xs ≤ 1
      by_test rest true is = omega (arith, count_none f xs (others is xs h.0))
      by_test rest false is = omega (arith, rest)

count_never : {A : Type 0} (xs : List A) → count_of (λ (x : A). false) xs ≤ 0
count_never [] = omega arith
count_never (x ∷ xs) = omega (arith, count_never xs)

-- at most as many as there are of those of which each is met once
pub count_pigeon : {A B : Type 0} (same : B → A → Bool) (ys : List B) (xs : List A) → ((y : B) → count_of (same y) xs ≤ 1)
    → count_of (λ x. list_any (λ y. same y x) ys) xs ≤ length ys
count_pigeon same [] xs once = count_never xs
count_pigeon same (y ∷ ys) xs once = omega (
  arith,
  count_or (λ x. same y x || list_any (λ z. same z x) ys) (same y) (λ x. list_any (λ z. same z x) ys)
      (λ x. one_or (same y x) (list_any (λ z. same z x) ys)) xs,
  once y,
  count_pigeon same ys xs once,
)

pub either : (a b c d : Bool) → (a ≡ true → b ≡ true) → (c ≡ true → d ≡ true) → (a || c) ≡ true → (b || d) ≡ true
either true b c d first second e = ap (λ t. t || d) (first refl)
either false true c d first second e = refl
either false false c d first second e = second e

-- *Whether one does*
module _ {A : Type 0} (f : A → Bool) where
  pub any_more : (xs : List A) (y : A) → f y ≡ false → list_any f (xs ++ y ∷ []) ≡ list_any f xs
  any_more [] y e = ap (λ t. t || false) e
  any_more (x ∷ xs) y e = ap (λ t. f x || t) (any_more xs y e)

  pub any_put : (key : A → ℕ) (y : A) (xs : List A) (x : A) → at key (key y) xs ≡ Some x → f y ≡ f x → list_any f (put key y xs) ≡ list_any f xs
  any_put key y [] x e same = refl
  any_put key y (z ∷ xs) x e same = by_eq (key z) (key y)
      (λ k t. (let first : Some z ≡ Some x = sym (ap (λ (b : Bool). if b then Some z else at key (key y) xs) t) ∙ e in let is : z ≡ x = cc in
      ap (λ (b : Bool). list_any f (if b then y ∷ xs else z ∷ put key y xs)) t ∙ ap (λ t. t || list_any f xs) (same ∙ ap f (sym is))))
      (λ k t. ap (λ (b : Bool). list_any f (if b then y ∷ xs else z ∷ put key y xs)) t
      ∙ ap (λ t. f z || t) (any_put key y xs x (sym (ap (λ (b : Bool). if b then Some z else at key (key y) xs) t) ∙ e) same))

  pub any_put_leads : (key : A → ℕ) (y : A) (xs : List A) (x : A) → at key (key y) xs ≡ Some x → (f x ≡ true → f y ≡ true) → list_any f xs ≡ true → list_any f (put key y xs) ≡ true
  any_put_leads key y [] x e leads h = h
  any_put_leads key y (z ∷ xs) x e leads h = by_eq (key z) (key y)
      (λ k t. (let first : Some z ≡ Some x = sym (ap (λ (b : Bool). if b then Some z else at key (key y) xs) t) ∙ e in let is : z ≡ x = cc in
      ap (λ (b : Bool). list_any f (if b then y ∷ xs else z ∷ put key y xs)) t ∙ either (f z) (f y) (list_any f xs) (list_any f xs) (λ p. leads (sym (ap f is) ∙ p)) (λ p. p) h))
      (λ k t. ap (λ (b : Bool). list_any f (if b then y ∷ xs else z ∷ put key y xs)) t
      ∙ either (f z) (f z) (list_any f xs) (list_any f (put key y xs)) (λ p. p) (λ p. any_put_leads key y xs x (sym (ap (λ (b : Bool). if b then Some z else at key (key y) xs) t) ∙ e) leads p) h)

  pub any_gone : (key : A → ℕ) (k : ℕ) (xs : List A) → Every (λ x. key x ≢ k) xs → list_any f (without key k xs) ≡ list_any f xs
  any_gone key k [] h = refl
  any_gone key k (x ∷ xs) h = by_eq (key x) k (λ same t. absurd (h.0 same))
      (λ other t. ap (λ (b : Bool). list_any f (if b then without key k xs else x ∷ without key k xs)) t ∙ ap (λ t. f x || t) (any_gone key k xs h.1))

  apart_from : (key : A → ℕ) (x : A) (k : ℕ) (ys : List A) → key x ≡ k → Every (λ y. key x ≢ key y) ys → Every (λ y. key y ≢ k) ys
  apart_from key x k [] same h = tt
  apart_from key x k (y ∷ ys) same h = ((λ e. h.0 (same ∙ sym e)), apart_from key x k ys same h.1)

  pub any_without : (key : A → ℕ) (k : ℕ) (xs : List A) (x : A) → InOrder (λ a b. key a ≢ key b) xs → at key k xs ≡ Some x → f x ≡ false → list_any f (without key k xs) ≡ list_any f xs
  any_without key k [] x order e none = refl
  any_without key k (z ∷ xs) x order e none = by_eq (key z) k
      (λ same t. (let first : Some z ≡ Some x = sym (ap (λ (b : Bool). if b then Some z else at key k xs) t) ∙ e in let is : z ≡ x = cc in
      ap (λ (b : Bool). list_any f (if b then without key k xs else z ∷ without key k xs)) t ∙ any_gone key k xs (apart_from key z k xs same order.0)
      ∙ ap (λ t. t || list_any f xs) (sym (ap f is ∙ none))))
      (λ other t. ap (λ (b : Bool). list_any f (if b then without key k xs else z ∷ without key k xs)) t
      ∙ ap (λ t. f z || t) (any_without key k xs x order.1 (sym (ap (λ (b : Bool). if b then Some z else at key k xs) t) ∙ e) none))

  -- what one is found to do
  pub any_at : (key : A → ℕ) (k : ℕ) (xs : List A) (x : A) → at key k xs ≡ Some x → f x ≡ true → list_any f xs ≡ true
  any_at key k [] x e t = absurd (cc e)
  any_at key k (z ∷ xs) x e t = by_eq (key z) k
      (λ same s. (let first : Some z ≡ Some x = sym (ap (λ (b : Bool). if b then Some z else at key k xs) s) ∙ e in let is : z ≡ x = cc in
      ap (λ b. b || list_any f xs) (ap f is ∙ t)))
      (λ other s. behind (f z) (any_at key k xs x (sym (ap (λ (b : Bool). if b then Some z else at key k xs) s) ∙ e) t))
    where
      behind : (b : Bool) {c : Bool} → c ≡ true → (b || c) ≡ true
      behind true e = refl
      behind false e = e

  pub found_any : (test : A → Bool) (x : A) → f x ≡ true → (xs : List A) → find test xs ≡ Some x → list_any f xs ≡ true
  found_any test x is [] e = absurd (cc e)
  found_any test x is (z ∷ xs) e = by_test (λ later. found_any test x is xs later) (test z) e
    where
      second : (b : Bool) {c : Bool} → c ≡ true → (b || c) ≡ true
      second true e = refl
      second false e = e

      by_test : (find test xs ≡ Some x → list_any f xs ≡ true) → (b : Bool) → (if b then Some z else find test xs) ≡ Some x → (f z || list_any f xs) ≡ true
      by_test rest true e = (let same : z ≡ x = cc in ap (λ b. b || list_any f xs) (ap f same ∙ is))
      by_test rest false e = second (f z) (rest e)

  pub any_filter : (g : A → Bool) (xs : List A) → list_any f xs ≡ false → list_any f (filter g xs) ≡ false
  any_filter g [] e = e
  any_filter g (x ∷ xs) e = by_first (λ e. any_filter g xs e) (f x) refl e
    where
      by_first : (list_any f xs ≡ false → list_any f (filter g xs) ≡ false) → (b : Bool) → f x ≡ b → (b || list_any f xs) ≡ false → list_any f (if g x then x ∷ filter g xs else filter g xs) ≡ false
      by_first rest true is e = absurd (cc e)
      by_first rest false is e = on_both (λ ys. list_any f ys ≡ false) (g x) (x ∷ filter g xs) (filter g xs) (ap (λ b. b || list_any f (filter g xs)) is ∙ rest e) (rest e)

  pub any_each : (xs : List A) → list_any f xs ≡ false → Every (λ x. f x ≡ false) xs
  any_each [] e = tt
  any_each (x ∷ xs) e = by_first (λ e. any_each xs e) (f x) refl e
    where
      by_first : (list_any f xs ≡ false → Every (λ x. f x ≡ false) xs) → (b : Bool) → f x ≡ b → (b || list_any f xs) ≡ false → (f x ≡ false) × Every (λ x. f x ≡ false) xs
      by_first rest true is e = absurd (cc e)
      by_first rest false is e = (is, rest e)

  pub each_any : (xs : List A) → Every (λ x. f x ≡ false) xs → list_any f xs ≡ false
  each_any [] h = refl
  each_any (x ∷ xs) h = ap (λ b. b || list_any f xs) h.0 ∙ each_any xs h.1

-- one test leads to another
pub any_leads : {A : Type 0} (f g : A → Bool) → ((x : A) → f x ≡ true → g x ≡ true) → (xs : List A) → list_any f xs ≡ true → list_any g xs ≡ true
any_leads f g leads [] e = e
any_leads {A} f g leads (x ∷ xs) e = by_first (λ e. any_leads f g leads xs e) (f x) refl e
  where
    behind : (b : Bool) {c : Bool} → c ≡ true → (b || c) ≡ true
    behind true e = refl
    behind false e = e

    by_first : (list_any f xs ≡ true → list_any g xs ≡ true) → (b : Bool) → f x ≡ b → (b || list_any f xs) ≡ true → (g x || list_any g xs) ≡ true
    by_first rest true is e = ap (λ b. b || list_any g xs) (leads x is)
    by_first rest false is e = behind (g x) (rest e)
