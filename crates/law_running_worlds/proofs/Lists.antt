-- lists of cells and of ports

use Rattle.std.proofs.Common.{◌≡◌, ℕ, ◌<◌, zero, suc, Bool, true, false, List, [], ◌∷◌, ◌++◌, map, filter, length, refl, sym, subst, arith, slice_index_or, if◌then◌else◌}
use Rattle.std.specs.Prelude.{All, Contains}
use Rattle.law_branch_shapes.specs.world_model.Words.{PortNo}
use Rattle.law_frame_readings.specs.ordered_lists.Ordered.{Every, InOrder}
use Rattle.law_input_events.specs.Coming.{IsBelow}

module _ {A : Type 0} where
  pub all_every : (P : A → Type 0) (xs : List A) → All P xs → Every P xs
  all_every P [] all = tt
  all_every P (x ∷ xs) all = (all 0 x (omega arith), all_every P xs (λ k d low. all (suc k) d (omega (arith, low))))

  pub every_among : (P : A → Type 0) (xs : List A) (x : A) → Every P xs → Contains xs x → P x
  every_among P xs x all among = at_place xs all among.0 among.1 among.2
    where
      at_place : (ys : List A) → Every P ys → (k : ℕ) → k < length ys → slice_index_or ys k x ≡ x → P x
      at_place [] each k low e = absurd (omega (arith, low))
      at_place (y ∷ ys) each zero low e = subst P e each.0
      at_place (y ∷ ys) each (suc k) low e = at_place ys each.1 k (omega (arith, low)) e

  pub among_head : (x : A) (xs : List A) → Contains (x ∷ xs) x
  among_head x xs = (0, omega arith, refl)

  pub among_tail : (y : A) (xs : List A) (x : A) → Contains xs x → Contains (y ∷ xs) x
  among_tail y xs x c = (suc c.0, omega (arith, c.1), c.2)

  pub among_right : (xs ys : List A) (y : A) → Contains ys y → Contains (xs ++ ys) y
  among_right [] ys y c = c
  among_right (x ∷ xs) ys y c = among_tail x (xs ++ ys) y (among_right xs ys y c)

  pub among_filter : (test : A → Bool) (xs : List A) (x : A) → test x ≡ true → Contains xs x → Contains (filter test xs) x
  among_filter test xs x passes c = at_place xs c.0 c.1 c.2
    where
      first : (y : A) (ys : List A) → y ≡ x → Contains (filter test (y ∷ ys)) x
      first y ys e = subst (λ (z : A). Contains (filter test (z ∷ ys)) x) (sym e) here
        where
          here : Contains (filter test (x ∷ ys)) x
          here = subst (λ (b : Bool). Contains (if b then x ∷ filter test ys else filter test ys) x) (sym passes) (among_head x (filter test ys))

      later : (y : A) (ys : List A) → Contains (filter test ys) x → Contains (filter test (y ∷ ys)) x
      later y ys k = by (test y)
        where
          by : (b : Bool) → Contains (if b then y ∷ filter test ys else filter test ys) x
          by true = among_tail y (filter test ys) x k
          by false = k

      at_place : (ys : List A) (k : ℕ) → k < length ys → slice_index_or ys k x ≡ x → Contains (filter test ys) x
      at_place [] k low e = absurd (omega (arith, low))
      at_place (y ∷ ys) zero low e = first y ys e
      at_place (y ∷ ys) (suc k) low e = later y ys (at_place ys k (omega (arith, low)) e)

-- *Ports that ascend*
all_above : (n : ℕ) (ports : List PortNo) → ((k : ℕ) → k < length ports → n < slice_index_or (map (λ (p : PortNo). p.0) ports) k 0) → Every (λ (p : PortNo). n < p.0) ports
all_above n [] less = tt
all_above n (p ∷ ports) less = (less 0 (omega arith), all_above n ports (λ k low. less (suc k) (omega (arith, low))))

pub ascending : (ports : List PortNo) → ((i j : ℕ) → i < j → j < length ports → slice_index_or (map (λ (p : PortNo). p.0) ports) i 0 < slice_index_or (map (λ (p : PortNo). p.0) ports) j 0) → InOrder IsBelow ports
ascending [] less = tt
ascending (p ∷ ports) less = (
  all_above p.0 ports (λ k low. less 0 (suc k) (omega arith) (omega (arith, low))),
  ascending ports (λ i j before low. less (suc i) (suc j) (omega (arith, before)) (omega (arith, low))),
)
