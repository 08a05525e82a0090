-- The spare labels of a range, where a label is held and where one isn't any more.

use Rattle.std.proofs.Common.{◌≡◌, ℕ, suc, zero, ◌+◌, ◌-◌, ◌<◌, ◌≤◌, ◌&&◌, ◌||◌, Bool, true, false, not, cond, nat_eq, nat_le, List, [], ◌∷◌, filter, find, refl, sym, ap, ◌∙◌, arith, Option, None, Some, is_some, option_map, IsTrue}
use Rattle.std.specs.List.{list_any, range_with_len}
use Rattle.std.proofs.lemmas.Bool.{eqb-true, eq-eqb, le-leb}
use Rattle.branch_desk.proofs.Numbers.{not_true}
use Rattle.net_types.specs.declared.number.Instance.{Instance}
use Rattle.net_types.specs.Label.{is_label_number}
use Rattle.keyed_lists.specs.Keyed.{at, entered, key_le, without}
use Rattle.port_labels.specs.Book.{Book, with_new_label, without_label}
use Rattle.label_pool.specs.Pool.{Pool, given_back, is_label_between, is_offered_by, labels_between, lowest, opened, taken}
use Rattle.branch_desk.specs.port_model.Labels.{Label, LabelState, is_spare, label_number}
use Rattle.port_session.specs.Session.{AreTied}

pub filter_filter : {X : Type 0} (p r : X → Bool) (xs : List X) → filter p (filter r xs) ≡ filter (λ x. r x && p x) xs
filter_filter p r [] = refl
filter_filter p r (x ∷ xs) = by (r x) (filter_filter p r xs) where
  by : (b : Bool) → filter p (filter r xs) ≡ filter (λ y. r y && p y) xs → filter p (cond b (x ∷ filter r xs) (filter r xs)) ≡ cond (b && p x) (x ∷ filter (λ y. r y && p y) xs) (filter (λ y. r y && p y) xs)
  by true rest = rw rest refl
  by false rest = rest

pub filter_all : {X : Type 0} (p : X → Bool) → ((x : X) → p x ≡ true) → (xs : List X) → filter p xs ≡ xs
filter_all p all [] = refl
filter_all p all (x ∷ xs) = rw (all x, filter_all p all xs) refl

pub filter_same : {X : Type 0} (p q : X → Bool) → ((x : X) → p x ≡ q x) → (xs : List X) → filter p xs ≡ filter q xs
filter_same p q same [] = refl
filter_same p q same (x ∷ xs) = rw (same x, filter_same p q same xs) refl

-- *Held and spare again*

pub held_entered : {A : Type 0} (key : A → ℕ) (le : A → A → Bool) (y : A) (xs : List A) (k : ℕ) → is_some (at key k (entered le y xs)) ≡ (nat_eq (key y) k || is_some (at key k xs))
held_entered key le y [] k = by (nat_eq (key y) k) where
  by : (a : Bool) → is_some (cond a (Some y) None) ≡ (a || false)
  by true = refl
  by false = refl
held_entered key le y (x ∷ xs) k = by (le y x) (held_entered key le y xs k) where
  some : (a : Bool) (o : Option _) → is_some (cond a (Some y) o) ≡ (a || is_some o)
  some true o = refl
  some false o = refl

  later : (d e : Bool) → is_some (at key k (entered le y xs)) ≡ (e || is_some (at key k xs)) → is_some (cond d (Some x) (at key k (entered le y xs))) ≡ (e || is_some (cond d (Some x) (at key k xs)))
  later true true h = refl
  later true false h = refl
  later false e h = h

  by : (b : Bool) → is_some (at key k (entered le y xs)) ≡ (nat_eq (key y) k || is_some (at key k xs)) → is_some (at key k (cond b (y ∷ x ∷ xs) (x ∷ entered le y xs))) ≡ (nat_eq (key y) k || is_some (at key k (x ∷ xs)))
  by true rest = some (nat_eq (key y) k) (at key k (x ∷ xs))
  by false rest = later (nat_eq (key x) k) (nat_eq (key y) k) rest

pub held_without : {A : Type 0} (key : A → ℕ) (n : ℕ) (xs : List A) (k : ℕ) → is_some (at key k (without key n xs)) ≡ (not (nat_eq k n) && is_some (at key k xs))
held_without key n [] k = sym (none (not (nat_eq k n))) where
  none : (b : Bool) → (b && false) ≡ false
  none true = refl
  none false = refl
held_without key n (x ∷ xs) k = by (nat_eq (key x) n) (nat_eq (key x) k) refl refl (held_without key n xs k) where
  by : (a b : Bool) → nat_eq (key x) n ≡ a → nat_eq (key x) k ≡ b → is_some (at key k (without key n xs)) ≡ (not (nat_eq k n) && is_some (at key k xs)) → is_some (at key k (cond a (without key n xs) (x ∷ without key n xs))) ≡ (not (nat_eq k n) && is_some (cond b (Some x) (at key k xs)))
  by true true ea eb rest =
      let one : key x ≡ n = eqb-true (key x) n ea in
      let other : key x ≡ k = eqb-true (key x) k eb in
      let same : nat_eq k n ≡ true = eq-eqb k n (sym other ∙ one) in
      rw (rest, same) refl
  by true false ea eb rest = rest
  by false true ea eb rest =
      let other : key x ≡ k = eqb-true (key x) k eb in
      let differ : nat_eq k n ≡ false = rw (← other) ea in
      rw (eb, differ) refl
  by false false ea eb rest = rw eb rest

-- *A list without a number*
pub without_spare : (k : ℕ) (p q : ℕ → Bool) → ((m : ℕ) → q m ≡ (not (nat_eq m k) && p m)) → (ns : List ℕ) → without (λ (n : ℕ). n) k (filter p ns) ≡ filter q ns
without_spare k p q is [] = refl
without_spare k p q is (n ∷ ns) = rw (is n) (by (p n) (nat_eq n k) refl (without_spare k p q is ns)) where
  by : (a b : Bool) → nat_eq n k ≡ b → without (λ (m : ℕ). m) k (filter p ns) ≡ filter q ns → without (λ (m : ℕ). m) k (cond a (n ∷ filter p ns) (filter p ns)) ≡ cond (not b && a) (n ∷ filter q ns) (filter q ns)
  by true true e rest = rw e rest
  by true false e rest = rw e (ap (λ ms. n ∷ ms) rest)
  by false true e rest = rest
  by false false e rest = rest

-- *A range with a number entered*
above : (k : ℕ) (p : ℕ → Bool) (f n : ℕ) → k < f → entered nat_le k (filter p (range_with_len f n)) ≡ k ∷ filter p (range_with_len f n)
above k p f zero lt = refl
above k p f (suc n) lt = by (p f) (above k p (f + 1) n (omega (arith, lt))) where
  before : nat_le k f ≡ true
  before = grind (arith, lt)

  by : (b : Bool) → entered nat_le k (filter p (range_with_len (f + 1) n)) ≡ k ∷ filter p (range_with_len (f + 1) n) → entered nat_le k (cond b (f ∷ filter p (range_with_len (f + 1) n)) (filter p (range_with_len (f + 1) n))) ≡ k ∷ cond b (f ∷ filter p (range_with_len (f + 1) n)) (filter p (range_with_len (f + 1) n))
  by true rest = rw before refl
  by false rest = rest

same_above : (k : ℕ) (p q : ℕ → Bool) → ((m : ℕ) → (m ≡ k → ⊥) → q m ≡ p m) → (f n : ℕ) → k < f → filter q (range_with_len f n) ≡ filter p (range_with_len f n)
same_above k p q same f zero lt = refl
same_above k p q same f (suc n) lt = rw (same f (λ e. absurd (omega (arith, lt, e))), same_above k p q same (f + 1) n (omega (arith, lt))) refl

pub entered_spare : (k : ℕ) (p q : ℕ → Bool) → p k ≡ false → q k ≡ true → ((m : ℕ) → (m ≡ k → ⊥) → q m ≡ p m) → (f n : ℕ) → f ≤ k → k < f + n → entered nat_le k (filter p (range_with_len f n)) ≡ filter q (range_with_len f n)
entered_spare k p q off on same f zero low high = absurd (omega (arith, low, high))
entered_spare k p q off on same f (suc n) low high = by (nat_eq f k) refl (λ lt. entered_spare k p q off on same (f + 1) n (omega (arith, lt)) (omega (arith, high))) where
  here : f ≡ k → entered nat_le k (cond (p f) (f ∷ filter p (range_with_len (f + 1) n)) (filter p (range_with_len (f + 1) n))) ≡ cond (q f) (f ∷ filter q (range_with_len (f + 1) n)) (filter q (range_with_len (f + 1) n))
  here e =
      let off_here : p f ≡ false = rw e off in
      let on_here : q f ≡ true = rw e on in
      let later : k < f + 1 = omega (arith, e) in
      rw (off_here, on_here, above k p (f + 1) n later, same_above k p q same (f + 1) n later, e) refl

  there : (f ≡ k → ⊥) → f < k → entered nat_le k (filter p (range_with_len (f + 1) n)) ≡ filter q (range_with_len (f + 1) n) → (b : Bool) → entered nat_le k (cond b (f ∷ filter p (range_with_len (f + 1) n)) (filter p (range_with_len (f + 1) n))) ≡ cond b (f ∷ filter q (range_with_len (f + 1) n)) (filter q (range_with_len (f + 1) n))
  there differ lt rest true =
      let behind : nat_le k f ≡ false = grind (arith, lt) in
      rw behind (ap (λ ms. f ∷ ms) rest)
  there differ lt rest false = rest

  by : (b : Bool) → nat_eq f k ≡ b → (f < k → entered nat_le k (filter p (range_with_len (f + 1) n)) ≡ filter q (range_with_len (f + 1) n)) → entered nat_le k (cond (p f) (f ∷ filter p (range_with_len (f + 1) n)) (filter p (range_with_len (f + 1) n))) ≡ cond (q f) (f ∷ filter q (range_with_len (f + 1) n)) (filter q (range_with_len (f + 1) n))
  by true e rest = here (eqb-true f k e)
  by false e rest =
      let differ : f ≡ k → ⊥ = λ h. cc (sym e ∙ eq-eqb f k h) in
      let lt : f < k = omega (arith, low, differ) in
      rw (same f differ) (there differ lt (rest lt) (p f))

-- *What is found was among those that are looked through*
pub found_in : (p q : ℕ → Bool) (ns : List ℕ) (n : ℕ) → find p (filter q ns) ≡ Some n → q n ≡ true
found_in p q [] n h = absurd (cc h)
found_in p q (m ∷ ns) n h = by (q m) refl (λ g. found_in p q ns n g) h where
  at : q m ≡ true → (find p (filter q ns) ≡ Some n → q n ≡ true) → (c : Bool) → cond c (Some m) (find p (filter q ns)) ≡ Some n → q n ≡ true
  at e rest true k = let same : m ≡ n = cc k in rw (← same) e
  at e rest false k = rest k

  by : (b : Bool) → q m ≡ b → (find p (filter q ns) ≡ Some n → q n ≡ true) → find p (cond b (m ∷ filter q ns) (filter q ns)) ≡ Some n → q n ≡ true
  by true e rest g = at e rest (p m) g
  by false e rest g = rest g

pub absent_in : (q : ℕ → Bool) (ns : List ℕ) (n : ℕ) → q n ≡ false → list_any (nat_eq n) (filter q ns) ≡ false
absent_in q [] n h = refl
absent_in q (m ∷ ns) n h = by (q m) refl (absent_in q ns n h) where
  by : (b : Bool) → q m ≡ b → list_any (nat_eq n) (filter q ns) ≡ false → list_any (nat_eq n) (cond b (m ∷ filter q ns) (filter q ns)) ≡ false
  by true e rest =
      let differ : nat_eq n m ≡ false = not_true (nat_eq n m) (λ w. let same : n ≡ m = eqb-true n m w in let there : q n ≡ true = rw same e in cc (sym h ∙ there)) in
      rw (differ, rest) refl
  by false e rest = rest

-- *A label is taken from the pool into the book, and given back*

is_between : (pool : Pool) → ℕ → Bool
is_between pool = is_label_between pool.least pool.greatest

pub tied_taken : (pool : Pool) (book : Book) (label : Label) → AreTied pool book → AreTied (taken pool label.number) (with_new_label book label)
tied_taken pool book label tied = record {
  instance = tied.instance;
  least = tied.least;
  greatest = tied.greatest;
  spare =
      ap (λ ns. without (λ (n : ℕ). n) label.number ns) tied.spare
      ∙ without_spare label.number (is_spare book.labels) (is_spare (with_new_label book label).labels)
      (λ m. ap not (held_entered label_number (key_le label_number) label book.labels m) ∙ turned (nat_eq label.number m) (nat_eq m label.number) (is_some (at label_number m book.labels)) (swapped label.number m)) (labels_between pool.least pool.greatest);
}
  where
    turned : (a b c : Bool) → a ≡ b → not (a || c) ≡ (not b && not c)
    turned true b c e = rw (← e) refl
    turned false b c e = rw (← e) refl

    swapped : (a b : ℕ) → nat_eq a b ≡ nat_eq b a
    swapped a b = grind arith

pub tied_given_back : (pool : Pool) (book : Book) (number : ℕ) → AreTied pool book → is_some (at label_number number book.labels) ≡ true → is_label_between pool.least pool.greatest number ≡ true → pool.least ≤ number → number ≤ pool.greatest → AreTied (given_back pool number) (without_label book number)
tied_given_back pool book number tied held inside low high = record {
  instance = tied.instance;
  least = tied.least;
  greatest = tied.greatest;
  spare =
      ap (λ ns. entered nat_le number ns) (tied.spare ∙ filter_filter (is_spare book.labels) (is_label_between pool.least pool.greatest) (range_with_len pool.least (pool.greatest + 1 - pool.least)))
      ∙ entered_spare number was is off on same pool.least (pool.greatest + 1 - pool.least) low (omega (arith, low, high))
      ∙ sym (filter_filter (is_spare (without_label book number).labels) (is_label_between pool.least pool.greatest) (range_with_len pool.least (pool.greatest + 1 - pool.least)));
}
  where
    was : ℕ → Bool
    was m = is_label_between pool.least pool.greatest m && is_spare book.labels m

    is : ℕ → Bool
    is m = is_label_between pool.least pool.greatest m && is_spare (without_label book number).labels m

    off : was number ≡ false
    off = rw (inside, held) refl

    itself : nat_eq number number ≡ true
    itself = eq-eqb number number refl

    on : is number ≡ true
    on = rw (inside, held_without label_number number book.labels number, itself) refl

    same : (m : ℕ) → (m ≡ number → ⊥) → is m ≡ was m
    same m differ =
        let apart : nat_eq m number ≡ false = not_true (nat_eq m number) (λ h. differ (eqb-true m number h)) in
        rw (held_without label_number number book.labels m, apart) refl

-- *What is held, and what isn't*

pub held_in_state : (labels : List Label) (number : ℕ) (state : LabelState) → option_map (λ (label : Label). label.state) (at label_number number labels) ≡ Some state → is_some (at label_number number labels) ≡ true
held_in_state labels number state h = by (at label_number number labels) h where
  by : (o : Option Label) → option_map (λ (label : Label). label.state) o ≡ Some state → is_some o ≡ true
  by None g = absurd (cc g)
  by (Some label) g = refl

pub not_spare : (labels : List Label) (number : ℕ) → is_some (at label_number number labels) ≡ true → is_spare labels number ≡ false
not_spare labels number h = rw h refl

pub spare_absent : (labels : List Label) (number : ℕ) → is_spare labels number ≡ true → at label_number number labels ≡ None
spare_absent labels number h = by (at label_number number labels) h where
  by : (o : Option Label) → not (is_some o) ≡ true → o ≡ None
  by None g = refl
  by (Some label) g = absurd (cc g)

-- what the pool hands out isn't held
pub lowest_absent : (pool : Pool) (book : Book) (number : ℕ) → AreTied pool book → lowest pool ≡ Some number → at label_number number book.labels ≡ None
lowest_absent pool book number tied h =
    let from : find (is_offered_by pool) (filter (is_spare book.labels) (labels_between pool.least pool.greatest)) ≡ Some number = rw (← tied.spare) h in
    spare_absent book.labels number (found_in (is_offered_by pool) (is_spare book.labels) (labels_between pool.least pool.greatest) number from)

pub held_absent : (pool : Pool) (book : Book) (number : ℕ) → AreTied pool book → is_some (at label_number number book.labels) ≡ true → list_any (nat_eq number) pool.spare ≡ false
held_absent pool book number tied held =
    rw tied.spare (absent_in (is_spare book.labels) (labels_between pool.least pool.greatest) number (not_spare book.labels number held))

pub between : (pool : Pool) (number : ℕ) → IsTrue (is_label_number number) → pool.least ≤ number → number ≤ pool.greatest → is_label_between pool.least pool.greatest number ≡ true
between pool number label low high = rw (label, le-leb pool.least number low, le-leb number pool.greatest high) refl

-- a new pool and a new book
pub tied_opened : (instance : Instance) (least greatest : ℕ) → AreTied (opened instance least greatest) (record { instance = instance; least = least; greatest = greatest; labels = [] })
tied_opened instance least greatest = record {
  instance = refl;
  least = refl;
  greatest = refl;
  spare = sym (filter_all (is_spare []) (λ n. refl) (labels_between least greatest));
}
