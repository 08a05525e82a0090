-- grants of different labels: how one is found, and what a change leaves of them

use Rattle.std.proofs.Common.{◌≡◌, ◌≢◌, ℕ, zero, suc, List, [], ◌∷◌, ◌++◌, None, Some, refl, sym, ap, ◌∙◌, inl, inr}
use Rattle.std.specs.Prelude.{slice_get, slice_set, IfSome, false}
use Rattle.std.specs.List.{insert}
use Rattle.std.proofs.lemmas.Bool.{cases_eq, eq-eqb, ne_eqb}
use Rattle.keyed_lists.specs.Keyed.{at, put, without}
use Rattle.branch_desk.specs.port_model.Grants.{Grant, grant_label}
use Rattle.grant_table.specs.Table.{AreApart, ages, aged, with_grant}

-- the first grant is of the label, or isn't
pub at_here : (k : ℕ) (x : Grant) (xs : List Grant) → x.label ≡ k → at grant_label k (x ∷ xs) ≡ Some x
at_here k x xs e = rw (eq-eqb x.label k e) refl

pub at_there : (k : ℕ) (x : Grant) (xs : List Grant) → x.label ≢ k → at grant_label k (x ∷ xs) ≡ at grant_label k xs
at_there k x xs n = rw (ne_eqb x.label k n) refl

pub put_here : (y x : Grant) (xs : List Grant) → x.label ≡ y.label → put grant_label y (x ∷ xs) ≡ y ∷ xs
put_here y x xs e = rw (eq-eqb x.label y.label e) refl

pub put_there : (y x : Grant) (xs : List Grant) → x.label ≢ y.label → put grant_label y (x ∷ xs) ≡ x ∷ put grant_label y xs
put_there y x xs n = rw (ne_eqb x.label y.label n) refl

pub without_here : (k : ℕ) (x : Grant) (xs : List Grant) → x.label ≡ k → without grant_label k (x ∷ xs) ≡ without grant_label k xs
without_here k x xs e = rw (eq-eqb x.label k e) refl

pub without_there : (k : ℕ) (x : Grant) (xs : List Grant) → x.label ≢ k → without grant_label k (x ∷ xs) ≡ x ∷ without grant_label k xs
without_there k x xs n = rw (ne_eqb x.label k n) refl

-- the one that is found is of the label
pub at-label : (k : ℕ) (xs : List Grant) (g : Grant) → at grant_label k xs ≡ Some g → g.label ≡ k
at-label k [] g e = absurd (cc e)
at-label k (x ∷ xs) g e = elim (cases_eq x.label k) [
  | inl same ↦ (let is : Some x ≡ Some g = sym (at_here k x xs same) ∙ e in let it : x ≡ g = cc in ap grant_label (sym it) ∙ same)
  | inr other ↦ at-label k xs g (sym (at_there k x xs other) ∙ e)
]

-- no grant is of a label
pub absent_first : (k : ℕ) (x : Grant) (xs : List Grant) → at grant_label k (x ∷ xs) ≡ None → x.label ≢ k
absent_first k x xs none same = let clash : Some x ≡ None = sym (at_here k x xs same) ∙ none in absurd (cc clash)

pub absent_rest : (k : ℕ) (x : Grant) (xs : List Grant) → at grant_label k (x ∷ xs) ≡ None → at grant_label k xs ≡ None
absent_rest k x xs none = sym (at_there k x xs (absent_first k x xs none)) ∙ none

pub absent_cons : (k : ℕ) (x : Grant) (xs : List Grant) → x.label ≢ k → at grant_label k xs ≡ None → at grant_label k (x ∷ xs) ≡ None
absent_cons k x xs other none = at_there k x xs other ∙ none

pub absent_put : (k : ℕ) (y : Grant) (xs : List Grant) → at grant_label k xs ≡ None → at grant_label k (put grant_label y xs) ≡ None
absent_put k y [] none = none
absent_put k y (x ∷ xs) none = elim (cases_eq x.label y.label) [
  | inl same ↦ rw (put_here y x xs same) (absent_cons k y xs (λ e. absent_first k x xs none (same ∙ e)) (absent_rest k x xs none))
  | inr other ↦ rw (put_there y x xs other) (absent_cons k x (put grant_label y xs) (absent_first k x xs none) (absent_put k y xs (absent_rest k x xs none)))
]

pub absent_without : (k j : ℕ) (xs : List Grant) → at grant_label k xs ≡ None → at grant_label k (without grant_label j xs) ≡ None
absent_without k j [] none = none
absent_without k j (x ∷ xs) none = elim (cases_eq x.label j) [
  | inl same ↦ rw (without_here j x xs same) (absent_without k j xs (absent_rest k x xs none))
  | inr other ↦ rw (without_there j x xs other) (absent_cons k x (without grant_label j xs) (absent_first k x xs none) (absent_without k j xs (absent_rest k x xs none)))
]

pub absent_insert : (k : ℕ) (y : Grant) (i : ℕ) (xs : List Grant) → y.label ≢ k → at grant_label k xs ≡ None → at grant_label k (insert xs i y) ≡ None
absent_insert k y zero xs other none = absent_cons k y xs other none
absent_insert k y (suc i) [] other none = absent_cons k y [] other none
absent_insert k y (suc i) (x ∷ xs) other none =
    absent_cons k x (insert xs i y) (absent_first k x xs none) (absent_insert k y i xs other (absent_rest k x xs none))

pub absent_ended : (k : ℕ) (xs : List Grant) → at grant_label k (without grant_label k xs) ≡ None
absent_ended k [] = refl
absent_ended k (x ∷ xs) = elim (cases_eq x.label k) [
  | inl same ↦ rw (without_here k x xs same) (absent_ended k xs)
  | inr other ↦ rw (without_there k x xs other) (absent_cons k x (without grant_label k xs) other (absent_ended k xs))
]

pub without_absent : (k : ℕ) (xs : List Grant) → at grant_label k xs ≡ None → without grant_label k xs ≡ xs
without_absent k [] none = refl
without_absent k (x ∷ xs) none =
    without_there k x xs (absent_first k x xs none) ∙ ap (λ (t : List Grant). x ∷ t) (without_absent k xs (absent_rest k x xs none))

-- changes leave the labels apart
pub apart_put : (y : Grant) (xs : List Grant) → AreApart xs → AreApart (put grant_label y xs)
apart_put y [] apart = apart
apart_put y (x ∷ xs) apart = elim (cases_eq x.label y.label) [
  | inl same ↦ rw (put_here y x xs same) (rw same at apart.0, apart.1)
  | inr other ↦ rw (put_there y x xs other) (absent_put x.label y xs apart.0, apart_put y xs apart.1)
]

pub apart_without : (k : ℕ) (xs : List Grant) → AreApart xs → AreApart (without grant_label k xs)
apart_without k [] apart = apart
apart_without k (x ∷ xs) apart = elim (cases_eq x.label k) [
  | inl same ↦ rw (without_here k x xs same) (apart_without k xs apart.1)
  | inr other ↦ rw (without_there k x xs other) (absent_without x.label k xs apart.0, apart_without k xs apart.1)
]

pub apart_insert : (y : Grant) (i : ℕ) (xs : List Grant) → AreApart xs → at grant_label y.label xs ≡ None → AreApart (insert xs i y)
apart_insert y zero xs apart none = (none, apart)
apart_insert y (suc i) [] apart none = (none, apart)
apart_insert y (suc i) (x ∷ xs) apart none =
    (absent_insert x.label y i xs (λ e. absent_first y.label x xs none (sym e)) apart.0, apart_insert y i xs apart.1 (absent_rest y.label x xs none))

absent_push : (k : ℕ) (y : Grant) (xs : List Grant) → y.label ≢ k → at grant_label k xs ≡ None → at grant_label k (xs ++ y ∷ []) ≡ None
absent_push k y [] other none = absent_cons k y [] other none
absent_push k y (x ∷ xs) other none =
    absent_cons k x (xs ++ y ∷ []) (absent_first k x xs none) (absent_push k y xs other (absent_rest k x xs none))

pub apart_push : (y : Grant) (xs : List Grant) → AreApart xs → at grant_label y.label xs ≡ None → AreApart (xs ++ y ∷ [])
apart_push y [] apart none = (refl, tt)
apart_push y (x ∷ xs) apart none =
    (absent_push x.label y xs (λ e. absent_first y.label x xs none (sym e)) apart.0, apart_push y xs apart.1 (absent_rest y.label x xs none))

-- the grant at a place is the one of its label
pub label_apart : (x : Grant) (xs : List Grant) (i : ℕ) (g : Grant) → at grant_label x.label xs ≡ None → slice_get xs i ≡ Some g → x.label ≢ g.label
label_apart x [] i g none is = absurd (cc is)
label_apart x (z ∷ zs) zero g none is =
    let it : z ≡ g = cc in λ e. absent_first x.label z zs none (ap grant_label it ∙ sym e)
label_apart x (z ∷ zs) (suc i) g none is = label_apart x zs i g (absent_rest x.label z zs none) is

pub found_at : (xs : List Grant) (i : ℕ) (g : Grant) → AreApart xs → slice_get xs i ≡ Some g → at grant_label g.label xs ≡ Some g
found_at [] i g apart is = absurd (cc is)
found_at (x ∷ xs) zero g apart is = let it : x ≡ g = cc in at_here g.label x xs (ap grant_label it) ∙ is
found_at (x ∷ xs) (suc i) g apart is =
    at_there g.label x xs (label_apart x xs i g apart.0 is) ∙ found_at xs i g apart.1 is

pub set_at : (xs : List Grant) (i : ℕ) (g y : Grant) → AreApart xs → slice_get xs i ≡ Some g → y.label ≡ g.label → slice_set xs i y ≡ put grant_label y xs
set_at [] i g y apart is same = absurd (cc is)
set_at (x ∷ xs) zero g y apart is same =
    let it : x ≡ g = cc in sym (put_here y x xs (ap grant_label it ∙ sym same))
set_at (x ∷ xs) (suc i) g y apart is same =
    ap (λ (t : List Grant). x ∷ t) (set_at xs i g y apart.1 is same)
    ∙ sym (put_there y x xs (λ e. label_apart x xs i g apart.0 is (e ∙ same)))

pub put_same : (xs : List Grant) (i : ℕ) (g : Grant) → AreApart xs → slice_get xs i ≡ Some g → put grant_label g xs ≡ xs
put_same [] i g apart is = refl
put_same (x ∷ xs) zero g apart is = let it : x ≡ g = cc in rw it (put_here g g xs refl)
put_same (x ∷ xs) (suc i) g apart is =
    put_there g x xs (label_apart x xs i g apart.0 is) ∙ ap (λ (t : List Grant). x ∷ t) (put_same xs i g apart.1 is)

-- a grant that a tick takes nothing from
pub kept : (least greatest i : ℕ) (xs : List Grant) (g : Grant) → AreApart xs → slice_get xs i ≡ Some g → ages g ≡ false
    → IfSome (slice_get xs i) (λ grant. record { least = least; greatest = greatest; grants = xs }
    ≡ with_grant (record { least = least; greatest = greatest; grants = xs }) (aged grant))
kept least greatest i xs g apart is off = rw (is, off, put_same xs i g apart is) refl
