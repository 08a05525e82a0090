-- an element between others, by its key

use Rattle.std.proofs.Common.{◌≡◌, ◌≢◌, ℕ, Bool, false, true, List, [], ◌∷◌, ◌++◌, Some, sym, ◌∙◌, ap, arith, if◌then◌else◌}
use Rattle.std.specs.Prelude.{nat_eq}
use Rattle.std.proofs.lemmas.Bool.Decides.{nat_tests}
use Rattle.port_model.specs.Words.{at, put}
use Rattle.law_port_facts.specs.ordered_lists.Ordered.{Every}

module _ {A : Type 0} (key : A → ℕ) where
  itself : (n : ℕ) → nat_eq n n ≡ true
  itself n = grind (arith, nat_tests)

  differs : (m n : ℕ) → m ≢ n → nat_eq m n ≡ false
  differs m n other = grind (arith, nat_tests)

  pub at_place : (before : List A) (x : A) (after : List A) → Every (λ b. key b ≢ key x) before → at key (key x) (before ++ x ∷ after) ≡ Some x
  at_place [] x after apart = ap (λ (b : Bool). if b then Some x else at key (key x) after) (itself (key x))
  at_place (z ∷ before) x after apart =
      ap (λ (b : Bool). if b then Some z else at key (key x) (before ++ x ∷ after)) (differs (key z) (key x) apart.0) ∙ at_place before x after apart.1

  pub put_place : (before : List A) (x y : A) (after : List A) → key x ≡ key y → Every (λ b. key b ≢ key y) before → put key y (before ++ x ∷ after) ≡ before ++ y ∷ after
  put_place [] x y after same apart = ap (λ (b : Bool). if b then y ∷ after else x ∷ put key y after) (equal (key x) (key y) same)
    where
      equal : (m n : ℕ) → m ≡ n → nat_eq m n ≡ true
      equal m n e = grind (arith, nat_tests)
  put_place (z ∷ before) x y after same apart =
      ap (λ (b : Bool). if b then y ∷ (before ++ x ∷ after) else z ∷ put key y (before ++ x ∷ after)) (differs (key z) (key y) apart.0)
      ∙ ap (λ (xs : List A). z ∷ xs) (put_place before x y after same apart.1)

  -- those before an element are before the next one too
  pub one_before : (before : List A) (x y : A) (k : ℕ) → key x ≢ k → Every (λ b. key b ≢ k) before → key y ≡ key x → Every (λ b. key b ≢ k) (before ++ y ∷ [])
  one_before [] x y k other apart same = ((λ e. other (sym same ∙ e)), tt)
  one_before (z ∷ before) x y k other apart same = (apart.0, one_before before x y k other apart.1 same)
