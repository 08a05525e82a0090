-- look-ups behind a change, and what a port has asked once it asks more

use Rattle.std.proofs.Common.{◌≡◌, ◌≢◌, ℕ, Bool, true, false, List, [], ◌∷◌, ◌++◌, Option, None, Some, refl, sym, ◌∙◌, ap, append_assoc, append-nil, arith, if◌then◌else◌}
use Rattle.std.specs.Prelude.{nat_eq}
use Rattle.std.proofs.lemmas.Bool.Decides.{nat_tests}
use Rattle.law_port_facts.specs.port_model.Words.{at, without, entered}
use Rattle.law_label_line.specs.Cells.{Role, Cell}
use Rattle.law_label_line.specs.Cells as lines
use Rattle.law_port_facts.specs.port_model.declared.action.Action.{Action}
use Rattle.law_port_facts.specs.port_model.declared.action.Action.TheVariants.{Say}
use Rattle.law_port_views.specs.Heard.{heard_by, framed, asked, asked_all}

module _ {A : Type 0} (key : A → ℕ) where
  pub at_without_same : (k : ℕ) (xs : List A) → at key k (without key k xs) ≡ None
  at_without_same k [] = refl
  at_without_same k (z ∷ xs) = elim (nat_eq (key z) k) as (λ t. nat_eq (key z) k ≡ t
      → at key k (if t then without key k xs else z ∷ without key k xs) ≡ None) [
        | true ↦ λ t. at_without_same k xs
        | false ↦ λ t. grind (arith, nat_tests, at_without_same k xs)
      ] refl

  pub at_without_other : (j k : ℕ) (xs : List A) → j ≢ k → at key k (without key j xs) ≡ at key k xs
  at_without_other j k [] n = refl
  at_without_other j k (z ∷ xs) n = elim (nat_eq (key z) j) as (λ t. nat_eq (key z) j ≡ t
      → at key k (if t then without key j xs else z ∷ without key j xs) ≡ at key k (z ∷ xs)) [
        | true ↦ λ t. grind (arith, nat_tests, at_without_other j k xs n)
        | false ↦ λ t. ap (λ (o : Option A). if nat_eq (key z) k then Some z else o) (at_without_other j k xs n)
      ] refl

  pub at_more_same : (xs : List A) (y : A) → at key (key y) xs ≡ None → at key (key y) (xs ++ y ∷ []) ≡ Some y
  at_more_same [] y e = grind (arith, nat_tests)
  at_more_same (z ∷ xs) y e = elim (nat_eq (key z) (key y)) as (λ t. (if t then Some z else at key (key y) xs) ≡ None
      → (if t then Some z else at key (key y) (xs ++ y ∷ [])) ≡ Some y) [
        | true ↦ λ h. absurd (cc h)
        | false ↦ λ h. at_more_same xs y h
      ] e

  pub at_more_other : (k : ℕ) (xs : List A) (y : A) → key y ≢ k → at key k (xs ++ y ∷ []) ≡ at key k xs
  at_more_other k [] y n = grind (arith, nat_tests)
  at_more_other k (z ∷ xs) y n = ap (λ (o : Option A). if nat_eq (key z) k then Some z else o) (at_more_other k xs y n)

  -- an element that is entered in its place
  pub at_entered_same : (le : A → A → Bool) (y : A) (xs : List A) → at key (key y) xs ≡ None → at key (key y) (entered le y xs) ≡ Some y
  at_entered_same le y [] e = grind (arith, nat_tests)
  at_entered_same le y (z ∷ xs) e = elim (le y z) as (λ t. at key (key y) (if t then y ∷ z ∷ xs else z ∷ entered le y xs) ≡ Some y) [
    | true ↦ grind (arith, nat_tests)
    | false ↦ elim (nat_eq (key z) (key y)) as (λ t. (if t then Some z else at key (key y) xs) ≡ None
        → (if t then Some z else at key (key y) (entered le y xs)) ≡ Some y) [
          | true ↦ λ h. absurd (cc h)
          | false ↦ λ h. at_entered_same le y xs h
        ] e
  ]

  pub at_entered_other : (le : A → A → Bool) (y : A) (k : ℕ) (xs : List A) → key y ≢ k → at key k (entered le y xs) ≡ at key k xs
  at_entered_other le y k [] n = grind (arith, nat_tests)
  at_entered_other le y k (z ∷ xs) n = elim (le y z) as (λ t. at key k (if t then y ∷ z ∷ xs else z ∷ entered le y xs) ≡ at key k (z ∷ xs)) [
    | true ↦ grind (arith, nat_tests)
    | false ↦ ap (λ (o : Option A). if nat_eq (key z) k then Some z else o) (at_entered_other le y k xs n)
  ]

-- *What a port has asked*, once it asks one thing more
module _ (role : Role) (label : ℕ) where
  pub asked_more : (actions : List Action) (action : Action) → asked_all role label (actions ++ action ∷ []) ≡ asked_all role label actions ++ asked role label action
  asked_more [] action = append-nil (asked role label action)
  asked_more (a ∷ actions) action = ap (λ (z : List Cell). asked role label a ++ z) (asked_more actions action)
      ∙ sym (append_assoc (asked role label a) (asked_all role label actions) (asked role label action))

  -- a message that bears on the label, and what doesn't
  pub sent_more : (queued sent : List Cell) (actions : List Action) (action : Action) → sent ≡ queued ++ asked_all role label actions
      → sent ++ asked role label action ≡ queued ++ asked_all role label (actions ++ action ∷ [])
  sent_more queued sent actions action s =
      ap (λ (z : List Cell). z ++ asked role label action) s
      ∙ (append_assoc queued (asked_all role label actions) (asked role label action)
      ∙ ap (λ (z : List Cell). queued ++ z) (sym (asked_more actions action)))

  pub sent_none : (queued sent : List Cell) (actions : List Action) (action : Action) → asked role label action ≡ []
      → sent ≡ queued ++ asked_all role label actions → sent ≡ queued ++ asked_all role label (actions ++ action ∷ [])
  sent_none queued sent actions action none s =
      sym (append-nil sent) ∙ (ap (λ (z : List Cell). sent ++ z) (sym none) ∙ sent_more queued sent actions action s)

  pub sent_said : (queued sent : List Cell) (actions : List Action) (message : _) (said : lines.Message) → heard_by role label message ≡ Some said
      → sent ≡ queued ++ asked_all role label actions
      → sent ++ lines.frame said ≡ queued ++ asked_all role label (actions ++ Say message ∷ [])
  sent_said queued sent actions message said e s =
      ap (λ (o : Option lines.Message). sent ++ framed o) (sym e) ∙ sent_more queued sent actions (Say message) s
