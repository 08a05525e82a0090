-- tests over lists, and what a search by them finds

use Rattle.std.proofs.Common.{◌≡◌, Bool, true, false, List, [], ◌∷◌, None, Some, refl}
use Rattle.std.specs.List.{list_all, list_any, find}

-- what all pass, one that was found passes
pub passes_found : {X : Type 0} (p q : X → Bool) (xs : List X) (x : X) → list_all p xs ≡ true → find q xs ≡ Some x → p x ≡ true
passes_found p q [] x all found = absurd (cc found)
passes_found {X} p q (y ∷ ys) x all found =
    let by : (a b : Bool) → p y ≡ a → q y ≡ b → p x ≡ true = λ a b ea eb.
    elim a as (λ v. p y ≡ v → p x ≡ true) [
      | true ↦ λ e. elim b as (λ w. q y ≡ w → p x ≡ true) [
        | true ↦ λ f. (let same : Some y ≡ Some x = rw f at found in let at : y ≡ x = cc in rw (← at) e)
        | false ↦ λ f. passes_found p q ys x (rw e at all) (rw f at found)
      ] eb
      | false ↦ λ e. absurd (let none : false ≡ true = rw e at all in cc)
    ] ea in
    by (p y) (q y) refl refl

pub all_pass : {X : Type 0} (p q : X → Bool) (xs : List X) → ((x : X) → p x ≡ true → q x ≡ true) → list_all p xs ≡ true → list_all q xs ≡ true
all_pass p q [] implied all = refl
all_pass {X} p q (y ∷ ys) implied all =
    let by : (a : Bool) → p y ≡ a → list_all q (y ∷ ys) ≡ true = λ a ea.
    elim a as (λ v. p y ≡ v → list_all q (y ∷ ys) ≡ true) [
      | true ↦ λ e. rw (implied y e) (all_pass p q ys implied (rw e at all))
      | false ↦ λ e. absurd (let none : false ≡ true = rw e at all in cc)
    ] ea in
    by (p y) refl

-- two tests that agree on each element find the same
pub find_agreed : {X : Type 0} (t p q : X → Bool) (xs : List X) → ((x : X) → t x ≡ true → p x ≡ q x) → list_all t xs ≡ true → find p xs ≡ find q xs
find_agreed t p q [] agreed all = refl
find_agreed {X} t p q (y ∷ ys) agreed all =
    let by : (a : Bool) → t y ≡ a → find p (y ∷ ys) ≡ find q (y ∷ ys) = λ a ea.
    elim a as (λ v. t y ≡ v → find p (y ∷ ys) ≡ find q (y ∷ ys)) [
      | true ↦ λ e. rw (agreed y e) (rw (find_agreed t p q ys agreed (rw e at all)) refl)
      | false ↦ λ e. absurd (let none : false ≡ true = rw e at all in cc)
    ] ea in
    by (t y) refl

pub find_nothing : {X : Type 0} (t p : X → Bool) (xs : List X) → ((x : X) → t x ≡ true → p x ≡ false) → list_all t xs ≡ true → find p xs ≡ None
find_nothing t p [] never all = refl
find_nothing {X} t p (y ∷ ys) never all =
    let by : (a : Bool) → t y ≡ a → find p (y ∷ ys) ≡ None = λ a ea.
    elim a as (λ v. t y ≡ v → find p (y ∷ ys) ≡ None) [
      | true ↦ λ e. rw (never y e) (find_nothing t p ys never (rw e at all))
      | false ↦ λ e. absurd (let none : false ≡ true = rw e at all in cc)
    ] ea in
    by (t y) refl

pub find_absent : {X : Type 0} (p : X → Bool) (xs : List X) → list_any p xs ≡ false → find p xs ≡ None
find_absent p [] absent = refl
find_absent {X} p (y ∷ ys) absent =
    let by : (a : Bool) → p y ≡ a → find p (y ∷ ys) ≡ None = λ a ea.
    elim a as (λ v. p y ≡ v → find p (y ∷ ys) ≡ None) [
      | true ↦ λ e. absurd (let some : true ≡ false = rw e at absent in cc)
      | false ↦ λ e. rw e (find_absent p ys (rw e at absent))
    ] ea in
    by (p y) refl
