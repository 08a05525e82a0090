-- the plain machine along the commands: its maps, its answers, and one command more

use Rattle.std.proofs.Common.{◌≡◌, ℕ, zero, suc, ◌+◌, ◌<◌, ◌≤◌, List, [], ◌∷◌, ◌++◌, length, take, slice_get, fold, Some, refl, sym, ◌∙◌, ap, subst, arith, add-one}
use Rattle.std.specs.FinMap.{empty, get-empty}
use Rattle.world_model.specs.Words.{end_cmp, Request}
use Rattle.ordered_lists.specs.Ordered.{Every}
use Rattle.console_model.specs.declared.reply.Reply.{Reply}
use Rattle.console_model.specs.Plain.{Links, answer, after, map_after, answers_on, answers_of}
use Rattle.law_console.specs.Words.{IsCommand}
use Rattle.law_console.specs.Handled.{LeadToEnds}
use Rattle.law_console.proofs.Handling.{after_ends}

-- *Places of a list*
pub at_front : {A : Type 0} (xs more : List A) (place : ℕ) (x : A) → slice_get xs place ≡ Some x → slice_get (xs ++ more) place ≡ Some x
at_front [] more place x e = absurd (cc e)
at_front (y ∷ xs) more zero x e = e
at_front (y ∷ xs) more (suc place) x e = at_front xs more place x e

pub front_kept : {A : Type 0} (xs more : List A) (count : ℕ) → count ≤ length xs → take count (xs ++ more) ≡ take count xs
front_kept xs more zero few = refl
front_kept [] more (suc count) few = absurd (omega (arith, few))
front_kept (y ∷ xs) more (suc count) few = ap (λ (l : List _). y ∷ l) (front_kept xs more count (omega (arith, few)))

pub place_below : {A : Type 0} (xs : List A) (place : ℕ) (x : A) → slice_get xs place ≡ Some x → place < length xs
place_below [] place x e = absurd (cc e)
place_below (y ∷ xs) zero x e = omega arith
place_below (y ∷ xs) (suc place) x e = (let rest = place_below xs place x e in omega (arith, rest))

pub every_at : {A : Type 0} (P : A → Type 0) (xs : List A) (place : ℕ) (x : A) → Every P xs → slice_get xs place ≡ Some x → P x
every_at P [] place x each e = absurd (cc e)
every_at P (y ∷ xs) zero x each e = (let same : y ≡ x = cc e in subst P same each.0)
every_at P (y ∷ xs) (suc place) x each e = every_at P xs place x each.1 e

front_more : {A : Type 0} (xs : List A) (place : ℕ) (x : A) → slice_get xs place ≡ Some x → take (suc place) xs ≡ take place xs ++ x ∷ []
front_more [] place x e = absurd (cc e)
front_more (y ∷ xs) zero x e = (let same : y ≡ x = cc e in ap (λ (z : _). z ∷ []) same)
front_more (y ∷ xs) (suc place) x e = ap (λ (l : List _). y ∷ l) (front_more xs place x e)

pub one_further : {A : Type 0} (xs : List A) (place : ℕ) (x : A) → slice_get xs place ≡ Some x → take (place + 1) xs ≡ take place xs ++ x ∷ []
one_further xs place x e = ap (λ (n : ℕ). take n xs) (add-one place) ∙ front_more xs place x e

fold_more : {A B : Type 0} (f : B → A → B) (b : B) (xs : List A) (x : A) → fold f b (xs ++ x ∷ []) ≡ f (fold f b xs) x
fold_more f b [] x = refl
fold_more f b (y ∷ xs) x = fold_more f (f b y) xs x

module _ (ports : ℕ) where
  -- *Maps*
  pub map_further : (commands : List Request) (place : ℕ) (q : Request) → slice_get commands place ≡ Some q
      → map_after ports (take (place + 1) commands) ≡ after ports (map_after ports (take place commands)) q
  map_further commands place q e = ap (map_after ports) (one_further commands place q e) ∙ fold_more (after ports) empty (take place commands) q

  none_lead : LeadToEnds (empty {R = end_cmp})
  none_lead input output e = absurd (cc (sym (get-empty end_cmp input) ∙ e))

  folded_ends : (commands : List Request) → Every IsCommand commands → (m : Links) → LeadToEnds m → LeadToEnds (fold (after ports) m commands)
  folded_ends [] each m h = h
  folded_ends (q ∷ commands) each m h = folded_ends commands each.1 (after ports m q) (after_ends ports m q each.0 h)

  every_front : (count : ℕ) (commands : List Request) → Every IsCommand commands → Every IsCommand (take count commands)
  every_front zero commands each = tt
  every_front (suc count) [] each = tt
  every_front (suc count) (q ∷ commands) each = (each.0, every_front count commands each.1)

  pub lead_to_ends : (commands : List Request) (count : ℕ) → Every IsCommand commands → LeadToEnds (map_after ports (take count commands))
  lead_to_ends commands count each = folded_ends (take count commands) (every_front count commands each) empty none_lead

  -- *Answers*
  answers_more : (m : Links) (xs : List Request) (q : Request) → answers_on ports m (xs ++ q ∷ []) ≡ answers_on ports m xs ++ answer ports (fold (after ports) m xs) q ∷ []
  answers_more m [] q = refl
  answers_more m (x ∷ xs) q = ap (λ (l : List Reply). answer ports m x ∷ l) (answers_more (after ports m x) xs q)

  pub answers_further : (commands : List Request) (place : ℕ) (q : Request) → slice_get commands place ≡ Some q
      → answers_of ports (take (place + 1) commands) ≡ answers_of ports (take place commands) ++ answer ports (map_after ports (take place commands)) q ∷ []
  answers_further commands place q e = ap (answers_of ports) (one_further commands place q e) ∙ answers_more empty (take place commands) q

  answers_front : (count : ℕ) (m : Links) (commands : List Request) → answers_on ports m (take count commands) ≡ take count (answers_on ports m commands)
  answers_front zero m commands = refl
  answers_front (suc count) m [] = refl
  answers_front (suc count) m (q ∷ commands) = ap (λ (l : List Reply). answer ports m q ∷ l) (answers_front count (after ports m q) commands)

  pub first_answers : (count : ℕ) (commands : List Request) → answers_of ports (take count commands) ≡ take count (answers_of ports commands)
  first_answers count commands = answers_front count empty commands
