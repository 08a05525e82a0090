-- labels by their numbers: how one is found, and what a change makes of their numbers

use Rattle.std.proofs.Common.{◌≡◌, ◌≢◌, ℕ, zero, suc, ◌<◌, ◌≤◌, List, [], ◌∷◌, map, None, Some, refl, sym, ap, ◌∙◌, arith, inl, inr}
use Rattle.std.specs.Prelude.{slice_get, nat_le}
use Rattle.std.specs.List.{AllByRecursion}
use Rattle.std.proofs.lemmas.Bool.{cases_lt, cases_eq, eq-eqb, ne_eqb, le-leb, lt-leb}
use Rattle.keyed_lists.specs.Keyed.{at, put, without, entered, key_le}
use Rattle.branch_desk.specs.port_model.Labels.{Label, label_number}
use Rattle.port_labels.specs.Book.{Rises}
use Rattle.port_labels.specs.Index.{AreAscending}
use Rattle.port_labels.proofs.Numbers.{itself}

pub at_here : (n : ℕ) (x : Label) (xs : List Label) → x.number ≡ n → at label_number n (x ∷ xs) ≡ Some x
at_here n x xs e = rw (eq-eqb x.number n e) refl

pub at_there : (n : ℕ) (x : Label) (xs : List Label) → x.number ≢ n → at label_number n (x ∷ xs) ≡ at label_number n xs
at_there n x xs e = rw (ne_eqb x.number n e) refl

-- the one that is found has the number
pub at_number : (n : ℕ) (xs : List Label) (l : Label) → at label_number n xs ≡ Some l → l.number ≡ n
at_number n [] l e = absurd (cc e)
at_number n (x ∷ xs) l e = elim (cases_eq x.number n) [
  | inl same ↦ (let is : Some x ≡ Some l = sym (at_here n x xs same) ∙ e in let it : x ≡ l = cc in ap label_number (sym it) ∙ same)
  | inr other ↦ at_number n xs l (sym (at_there n x xs other) ∙ e)
]

-- labels with higher numbers
pub absent_above : (n : ℕ) (xs : List Label) → AllByRecursion (λ x. n < x.number) xs → at label_number n xs ≡ None
absent_above n [] all = refl
absent_above n (x ∷ xs) all = at_there n x xs (λ e. absurd (omega (arith, all.0, e))) ∙ absent_above n xs all.1

pub without_above : (n : ℕ) (xs : List Label) → AllByRecursion (λ x. n < x.number) xs → without label_number n xs ≡ xs
without_above n [] all = refl
without_above n (x ∷ xs) all =
    rw (ne_eqb x.number n (λ e. absurd (omega (arith, all.0, e)))) (ap (λ (t : List Label). x ∷ t) (without_above n xs all.1))

pub entered_above : (l : Label) (xs : List Label) → AllByRecursion (λ x. l.number < x.number) xs → entered (key_le label_number) l xs ≡ l ∷ xs
entered_above l [] all = refl
entered_above l (x ∷ xs) all = rw (le-leb l.number x.number (omega (arith, all.0))) refl

pub above_more : (m n : ℕ) (xs : List Label) → m ≤ n → AllByRecursion (λ x. n < x.number) xs → AllByRecursion (λ x. m < x.number) xs
above_more m n [] le all = tt
above_more m n (x ∷ xs) le all = (omega (arith, all.0), above_more m n xs le all.1)

-- a label is taken out and put back
pub entered_back : (n : ℕ) (l : Label) (xs : List Label) → Rises xs → at label_number n xs ≢ None → l.number ≡ n
    → entered (key_le label_number) l (without label_number n xs) ≡ put label_number l xs
entered_back n l [] up there e = absurd (there refl)
entered_back n l (x ∷ xs) up there e = elim (cases_eq x.number n) [
  | inl same ↦ (
      let above : AllByRecursion (λ (y : Label). l.number < y.number) xs = above_more l.number x.number xs (omega (arith, same, e)) up.0 in
      rw (eq-eqb x.number n same, eq-eqb x.number l.number (same ∙ sym e), without_above n xs (above_more n x.number xs (omega (arith, same)) up.0))
      (entered_above l xs above))
  | inr other ↦ (
      let later : at label_number n xs ≢ None = λ none. there (at_there n x xs other ∙ none) in
      elim (cases_lt x.number n) [
        | inl below ↦ rw (ne_eqb x.number n other, ne_eqb x.number l.number (λ s. other (s ∙ e)), lt-leb l.number x.number (omega (arith, below, e)))
            (ap (λ (t : List Label). x ∷ t) (entered_back n l xs up.1 later e))
        | inr above ↦ absurd (later (absent_above n xs (above_more n x.number xs (omega (arith, above)) up.0)))
      ])
]

pub absent_without : (n : ℕ) (xs : List Label) → at label_number n (without label_number n xs) ≡ None
absent_without n [] = refl
absent_without n (x ∷ xs) = elim (cases_eq x.number n) [
  | inl same ↦ rw (eq-eqb x.number n same) (absent_without n xs)
  | inr other ↦ rw (ne_eqb x.number n other) (at_there n x (without label_number n xs) other ∙ absent_without n xs)
]

-- the label at a place has its number
above_get : (n : ℕ) (xs : List Label) (k : ℕ) (x : Label) → AllByRecursion (λ y. n < y.number) xs → slice_get xs k ≡ Some x → n < x.number
above_get n [] k x all is = absurd (cc is)
above_get n (y ∷ ys) zero x all is = let it : y ≡ x = cc in rw it at all.0
above_get n (y ∷ ys) (suc k) x all is = above_get n ys k x all.1 is

pub found_at : (xs : List Label) (k : ℕ) (x : Label) → Rises xs → slice_get xs k ≡ Some x → at label_number x.number xs ≡ Some x
found_at [] k x up is = absurd (cc is)
found_at (y ∷ ys) zero x up is = let it : y ≡ x = cc in at_here x.number y ys (ap label_number it) ∙ is
found_at (y ∷ ys) (suc k) x up is =
    at_there x.number y ys (λ e. absurd (omega (arith, e, above_get y.number ys k x up.0 is))) ∙ found_at ys k x up.1 is

-- *The numbers*
ascending_above : (n : ℕ) (xs : List Label) → AllByRecursion (λ x. n < x.number) xs → AllByRecursion (λ m. n < m) (map label_number xs)
ascending_above n [] all = tt
ascending_above n (x ∷ xs) all = (all.0, ascending_above n xs all.1)

pub ascending : (xs : List Label) → Rises xs → AreAscending (map label_number xs)
ascending [] up = tt
ascending (x ∷ xs) up = (ascending_above x.number xs up.0, ascending xs up.1)

pub numbers_put : (l : Label) (xs : List Label) → map label_number (put label_number l xs) ≡ map label_number xs
numbers_put l [] = refl
numbers_put l (x ∷ xs) = elim (cases_eq x.number l.number) [
  | inl same ↦ rw (eq-eqb x.number l.number same) (ap (λ (n : ℕ). n ∷ map label_number xs) (sym same))
  | inr other ↦ rw (ne_eqb x.number l.number other) (ap (λ (t : List ℕ). x.number ∷ t) (numbers_put l xs))
]

pub numbers_entered : (l : Label) (xs : List Label) → map label_number (entered (key_le label_number) l xs) ≡ entered nat_le l.number (map label_number xs)
numbers_entered l [] = refl
numbers_entered l (x ∷ xs) = elim (cases_lt x.number l.number) [
  | inl below ↦ rw (lt-leb l.number x.number below) (ap (λ (t : List ℕ). x.number ∷ t) (numbers_entered l xs))
  | inr above ↦ rw (le-leb l.number x.number above) refl
]

pub numbers_without : (n : ℕ) (xs : List Label) → map label_number (without label_number n xs) ≡ without itself n (map label_number xs)
numbers_without n [] = refl
numbers_without n (x ∷ xs) = elim (cases_eq x.number n) [
  | inl same ↦ rw (eq-eqb x.number n same) (numbers_without n xs)
  | inr other ↦ rw (ne_eqb x.number n other) (ap (λ (t : List ℕ). x.number ∷ t) (numbers_without n xs))
]

-- the label at a place of the numbers
no_number : (n : ℕ) (xs : List Label) (place m : ℕ) → AllByRecursion (λ x. n < x.number) xs → slice_get (map label_number xs) place ≡ Some m → n ≢ m
no_number n [] place m all is = absurd (cc is)
no_number n (x ∷ xs) zero m all is = let it : x.number ≡ m = cc in λ same. absurd (omega (arith, it, same, all.0))
no_number n (x ∷ xs) (suc place) m all is = no_number n xs place m all.1 is

pub number_found : (xs : List Label) (place n : ℕ) → Rises xs → slice_get (map label_number xs) place ≡ Some n → at label_number n xs ≡ slice_get xs place
number_found [] place n up is = absurd (cc is)
number_found (x ∷ xs) zero n up is = let it : x.number ≡ n = cc in at_here n x xs it
number_found (x ∷ xs) (suc place) n up is =
    let later = number_found xs place n up.1 is in
    elim (cases_eq x.number n) [
      | inl same ↦ absurd (no_number x.number xs place n up.0 is same)
      | inr other ↦ at_there n x xs other ∙ later
    ]

pub all_at : (P : Label → Type 0) (n : ℕ) (xs : List Label) (x : Label) → AllByRecursion P xs → at label_number n xs ≡ Some x → P x
all_at P n [] x all there = absurd (cc there)
all_at P n (y ∷ ys) x all there = elim (cases_eq y.number n) [
  | inl same ↦ (
      let is : Some y ≡ Some x = sym (at_here n y ys same) ∙ there in
      let it : y ≡ x = cc in
      rw it at all.0)
  | inr other ↦ all_at P n ys x all.1 (sym (at_there n y ys other) ∙ there)
]

-- a label is put where it stands
pub put_same : (x : Label) (xs : List Label) → at label_number x.number xs ≡ Some x → put label_number x xs ≡ xs
put_same x [] there = refl
put_same x (y ∷ ys) there = elim (cases_eq y.number x.number) [
  | inl same ↦ (
      let is : Some y ≡ Some x = sym (at_here x.number y ys same) ∙ there in
      let it : x ≡ y = cc in
      rw (eq-eqb y.number x.number same) (ap (λ (l : Label). l ∷ ys) it))
  | inr other ↦ rw (ne_eqb y.number x.number other) (ap (λ (t : List Label). y ∷ t) (put_same x ys (sym (at_there x.number y ys other) ∙ there)))
]
