-- The grant at a place of a list: what its change and its end leave

use Rattle.std.proofs.Common.{◌≡◌, ℕ, zero, suc, ◌+◌, List, [], ◌∷◌, ◌++◌, length, take, drop, refl, sym, ap, ◌∙◌, None, Some, slice_get, add-one, arith}
use Rattle.keyed_lists.specs.Keyed.{put, without}
use Rattle.port_model.specs.Grants.{Grant, grant_label}
use Rattle.grant_table.specs.Table.{AreApart}
use Rattle.redirect_state.specs.Rules.{IsOver}
use Rattle.port_saying.proofs.Keys.{length_put, put_twice, without_put}
use Rattle.grant_table.proofs.Apart.{label_apart, put_here, put_there, without_here, without_there, without_absent}

-- it is another now
put_rest : (xs : List Grant) (i : ℕ) (g y : Grant) → AreApart xs → slice_get xs i ≡ Some g → y.label ≡ g.label → drop (suc i) (put grant_label y xs) ≡ drop (suc i) xs
put_rest [] i g y apart is same = absurd (cc is)
put_rest (x ∷ xs) zero g y apart is same = let it : x ≡ g = cc is in ap (drop (suc zero)) (put_here y x xs (ap grant_label it ∙ sym same))
put_rest (x ∷ xs) (suc i) g y apart is same =
    ap (drop (suc (suc i))) (put_there y x xs (λ e. label_apart x xs i g apart.0 is (e ∙ same))) ∙ put_rest xs i g y apart.1 is same

put_front : (xs : List Grant) (i : ℕ) (g y : Grant) → AreApart xs → slice_get xs i ≡ Some g → y.label ≡ g.label → take (suc i) (put grant_label y xs) ≡ take i xs ++ y ∷ []
put_front [] i g y apart is same = absurd (cc is)
put_front (x ∷ xs) zero g y apart is same = let it : x ≡ g = cc is in ap (take (suc zero)) (put_here y x xs (ap grant_label it ∙ sym same))
put_front (x ∷ xs) (suc i) g y apart is same =
    ap (take (suc (suc i))) (put_there y x xs (λ e. label_apart x xs i g apart.0 is (e ∙ same))) ∙ ap (λ (t : List Grant). x ∷ t) (put_front xs i g y apart.1 is same)

pub stays_rest : (xs : List Grant) (i : ℕ) (g y : Grant) → AreApart xs → slice_get xs i ≡ Some g → y.label ≡ g.label → drop (i + 1) (put grant_label y xs) ≡ drop (i + 1) xs
stays_rest xs i g y apart is same = rw (add-one i) (put_rest xs i g y apart is same)

pub stays_front : (xs : List Grant) (i : ℕ) (g y : Grant) → AreApart xs → slice_get xs i ≡ Some g → y.label ≡ g.label → take (i + 1) (put grant_label y xs) ≡ take i xs ++ y ∷ []
stays_front xs i g y apart is same = rw (add-one i) (put_front xs i g y apart is same)

-- it has ended
without_rest : (xs : List Grant) (i : ℕ) (g : Grant) → AreApart xs → slice_get xs i ≡ Some g → drop i (without grant_label g.label xs) ≡ drop (suc i) xs
without_rest [] i g apart is = absurd (cc is)
without_rest (x ∷ xs) zero g apart is = let it : x ≡ g = cc is in without_here g.label x xs (ap grant_label it) ∙ without_absent g.label xs (rw it at apart.0)
without_rest (x ∷ xs) (suc i) g apart is =
    ap (drop (suc i)) (without_there g.label x xs (label_apart x xs i g apart.0 is)) ∙ without_rest xs i g apart.1 is

without_length : (xs : List Grant) (i : ℕ) (g : Grant) → AreApart xs → slice_get xs i ≡ Some g → suc (length (without grant_label g.label xs)) ≡ length xs
without_length [] i g apart is = absurd (cc is)
without_length (x ∷ xs) zero g apart is = let it : x ≡ g = cc is in ap (λ (t : List Grant). suc (length t)) (without_here g.label x xs (ap grant_label it) ∙ without_absent g.label xs (rw it at apart.0))
without_length (x ∷ xs) (suc i) g apart is =
    ap (λ (t : List Grant). suc (length t)) (without_there g.label x xs (label_apart x xs i g apart.0 is)) ∙ ap (λ (n : ℕ). suc n) (without_length xs i g apart.1 is)

pub ends_rest : (xs : List Grant) (i : ℕ) (g : Grant) → AreApart xs → slice_get xs i ≡ Some g → drop i (without grant_label g.label xs) ≡ drop (i + 1) xs
ends_rest xs i g apart is = rw (add-one i) (without_rest xs i g apart is)

pub ends_front : (xs : List Grant) (i : ℕ) (g : Grant) → AreApart xs → slice_get xs i ≡ Some g → take i (without grant_label g.label xs) ≡ take i xs
ends_front [] i g apart is = absurd (cc is)
ends_front (x ∷ xs) zero g apart is = refl
ends_front (x ∷ xs) (suc i) g apart is =
    ap (take (suc i)) (without_there g.label x xs (label_apart x xs i g apart.0 is)) ∙ ap (λ (t : List Grant). x ∷ t) (ends_front xs i g apart.1 is)

pub ends_length : (xs : List Grant) (i : ℕ) (g : Grant) → AreApart xs → slice_get xs i ≡ Some g → length (without grant_label g.label xs) + 1 ≡ length xs
ends_length xs i g apart is = rw (add-one (length (without grant_label g.label xs))) (without_length xs i g apart is)

-- all of a list is its front and what is behind
pub front_past : (xs : List Grant) (i : ℕ) → slice_get xs i ≡ None → take i xs ≡ xs
front_past [] zero none = refl
front_past [] (suc i) none = refl
front_past (x ∷ xs) zero none = absurd (cc none)
front_past (x ∷ xs) (suc i) none = ap (λ (t : List Grant). x ∷ t) (front_past xs i none)

-- *A step over it*: it stays in its place, or has left it
pub over_put : (xs : List Grant) (i : ℕ) (g y : Grant) → AreApart xs → slice_get xs i ≡ Some g → y.label ≡ g.label → IsOver xs (put grant_label y xs) i (i + 1)
over_put xs i g y apart is same = record {
  rest = stays_rest xs i g y apart is same;
  fewer = omega (arith, length_put grant_label y xs);
}

pub over_without : (xs : List Grant) (i : ℕ) (g : Grant) → AreApart xs → slice_get xs i ≡ Some g → IsOver xs (without grant_label g.label xs) i i
over_without xs i g apart is = record {
  rest = ends_rest xs i g apart is;
  fewer = omega (arith, ends_length xs i g apart is);
}

-- two changes in one place, and a change before the end
pub over_twice : (xs : List Grant) (i : ℕ) (g x y : Grant) → AreApart xs → slice_get xs i ≡ Some g → x.label ≡ g.label → y.label ≡ g.label
    → IsOver xs (put grant_label y (put grant_label x xs)) i (i + 1)
over_twice xs i g x y apart is same also =
    rw (put_twice grant_label x y xs (same ∙ sym also)) (over_put xs i g y apart is also)

pub over_ended : (xs : List Grant) (i : ℕ) (g x : Grant) → AreApart xs → slice_get xs i ≡ Some g → x.label ≡ g.label
    → IsOver xs (without grant_label g.label (put grant_label x xs)) i i
over_ended xs i g x apart is same = rw (without_put grant_label x g.label xs same) (over_without xs i g apart is)
