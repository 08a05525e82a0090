-- a controller is quiet at first, and what a quiet one asks may be

use Rattle.std.proofs.Common.{◌≡◌, ◌≢◌, ℕ, zero, suc, ◌<◌, ◌≤◌, List, [], ◌∷◌, length, refl, sym, ◌∙◌, subst, arith, Contains, slice_index_or, ◌⊎◌, inl, inr}
use Rattle.law_controller_facts.specs.world_model.Words.{End, Standing, Setup}
use Rattle.law_controller_facts.specs.ordered_lists.Ordered.{Every}
use Rattle.law_controller_facts.specs.world_model.Controller.{Acted}
use Rattle.law_quiet_controllers.specs.Quiet.{IsFine, IsMeant, waited, fresh, carries, elsewhere, IsQuiet}
use Rattle.law_quiet_controllers.specs.Law.{IsAtWork, Asks, by_desk, by_cell, PacketsAskNothing}

-- *Each of a list*
pub in_tail : {A : Type 0} (x y : A) (xs : List A) → Contains xs y → Contains (x ∷ xs) y
in_tail x y xs h = (suc h.0, omega (arith, h.1), h.2)

pub every_contained : {A : Type 0} (P : A → Type 0) (xs : List A) → ((x : A) → Contains xs x → P x) → Every P xs
every_contained P [] each = tt
every_contained P (x ∷ xs) each = (each x (0, omega arith, refl), every_contained P xs (λ y h. each y (in_tail x y xs h)))

pub contained : {A : Type 0} (P : A → Type 0) (xs : List A) (x : A) → Every P xs → Contains xs x → P x
contained P xs x all h = at_place xs all h.0 h.1 h.2
  where
    at_place : (xs : List _) → Every P xs → (k : ℕ) → k < length xs → slice_index_or xs k x ≡ x → P x
    at_place [] all k low e = absurd (omega (arith, low))
    at_place (y ∷ ys) all zero low e = subst P e all.0
    at_place (y ∷ ys) all (suc k) low e = at_place ys all.1 k (omega (arith, low)) e

every_two : {A : Type 0} (P Q R : A → Type 0) → ((x : A) → P x → Q x → R x) → (xs : List A) → Every P xs → Every Q xs → Every R xs
every_two P Q R each [] p q = tt
every_two P Q R each (x ∷ xs) p q = (each x p.0 q.0, every_two P Q R each xs p.1 q.1)

self_le : (n : ℕ) → n ≤ n
self_le n = omega arith

module _ (setups : List Setup) (a : Acted) (h : IsAtWork setups a) (Allowed : End → End → Type 0) (asks : (input output : End) → 0 < input.port.0 → 0 < output.port.0 → Asks a input output → Allowed input output) where
  pub begins_quiet : IsQuiet setups Allowed a.numbers.controls a.notes.frames a.controller.queue a
  begins_quiet = record {
    ports = h.ports;
    shaped = h.shaped;
    reads = h.reads;
    room = h.room;
    fine = every_two (λ (s : Standing). s.number < a.controller.desk.next) (Contains a.controller.desk.standing) (IsFine Allowed a.controller.desk.next)
        (λ s below stands. record { below = below; may = λ i o above on e. asks i o above on (by_desk s stands e) }) a.controller.desk.standing h.below
        (every_contained (Contains a.controller.desk.standing) a.controller.desk.standing (λ s k. k));
    given = self_le a.numbers.controls;
    copies = λ mark s control le e. e;
    waits = every_contained (IsMeant Allowed a.numbers.controls a.controller.queue a.notes.frames a.numbers.controls) a.controller.queue (λ cell k. waited k);
  }

  is_zero : (n : ℕ) → (n ≡ 0) ⊎ (n ≢ 0)
  is_zero zero = inl refl
  is_zero (suc n) = inr (λ e. absurd (omega (arith, e)))

  -- what is asked under a control mark that was given out at first
  module _ (b : Acted) (k : IsQuiet setups Allowed a.numbers.controls a.notes.frames a.controller.queue b) (nothing : PacketsAskNothing b) where
    pub asked_may : (input output : End) → 0 < input.port.0 → 0 < output.port.0 → Asks b input output → Allowed input output
    asked_may input output above on (by_desk s stands e) = (contained (IsFine Allowed b.controller.desk.next) b.controller.desk.standing s k.fine stands).may input output above on e
    asked_may input output above on (by_cell s cell waits here copy e) = by (contained (IsMeant Allowed a.numbers.controls a.controller.queue b.notes.frames b.numbers.controls) b.controller.queue cell k.waits waits) (is_zero cell.mark.packet)
      where
        by : IsMeant Allowed a.numbers.controls a.controller.queue b.notes.frames b.numbers.controls cell → (cell.mark.packet ≡ 0) ⊎ (cell.mark.packet ≢ 0) → Allowed input output
        by m (inr other) = absurd (cc (sym (nothing cell.mark other) ∙ copy))
        by (fresh control later le may) (inl zero_packet) = may s copy input output above on e
        by (carries other) (inl zero_packet) = absurd (other zero_packet)
        by (elsewhere away) (inl zero_packet) = absurd (cc (sym here ∙ away))
        by (waited there) (inl zero_packet) = asks input output above on (by_cell s cell there here (k.copies cell.mark s zero_packet (h.marks cell there zero_packet) copy) e)
