-- Lemmas on lists of places that are threaded through a region.

use Rattle.std.proofs.Common.{◌≡◌, ◌≢◌, ℕ, zero, suc, ◌+◌, ◌<◌, ◌≤◌, List, [], ◌∷◌, ◌++◌, length, get_or, set, refl, sym, ap, ◌∙◌, arith, add-one, get_or-set_other, get_or-set_same}
use Rattle.cell_pool.specs.Places.{NotIn, Distinct, Below}
use Rattle.cell_pool.specs.Region.{EndsAt, walk}
use Rattle.cell_pool.proofs.Lists.{NotIn-end}

pub length-walk : (next : List ℕ) (h n : ℕ) → length (walk next h n) ≡ n
length-walk next h zero = refl
length-walk next h (suc n) = omega (arith, length-walk next (get_or next h 0) n)

-- a write at a place that isn't on the way leaves the way
pub walk-set : (next : List ℕ) (i v h n : ℕ) → NotIn i (walk next h n) → walk (set next i v) h n ≡ walk next h n
walk-set next i v h zero f = refl
walk-set next i v h (suc n) f =
    rw (get_or-set_other next i h v 0 (λ e. f.0 (sym e))) (ap (λ t. h ∷ t) (walk-set next i v (get_or next h 0) n f.1))

pub walk_first : (next : List ℕ) (h m n : ℕ) → n ≡ m + 1 → walk next h n ≡ h ∷ walk next (get_or next h 0) m
walk_first next h m n e = rw (e, add-one) refl

-- a place put before a way that it isn't on
pub walk-put : (next : List ℕ) (place head free : ℕ) → place < length next → NotIn place (walk next head free) → walk (set next place head) place (free + 1) ≡ place ∷ walk next head free
walk-put next place head free within fresh =
    walk_first (set next place head) place free (free + 1) refl
    ∙ rw (get_or-set_same next place head 0 within) (ap (λ t. place ∷ t) (walk-set next place head head free fresh))

-- the last place of a way leads on to one more
pub walk-link : (next : List ℕ) (h k t s : ℕ) → t < length next → Distinct (walk next h (suc k)) → EndsAt (walk next h (suc k)) t → walk (set next t s) h (suc (suc k)) ≡ walk next h (suc k) ++ s ∷ []
walk-link next h zero t s within d ends =
    rw (ends, get_or-set_same next t s 0 within) refl
walk-link next h (suc k) t s within d ends =
    let other : h ≢ t = NotIn-end h (get_or next h 0) (walk next (get_or next (get_or next h 0) 0) k) t d.0 ends in
    rw (get_or-set_other next t h s 0 other) (ap (λ r. h ∷ r) (walk-link next (get_or next h 0) k t s within d.1 ends))

module _ (next : List ℕ) (n : ℕ) (rising : (i : ℕ) → i < n → get_or next i 0 ≡ i + 1) where
  -- each place leads to the next number: the way never comes back
  pub NotIn-rising : (j h k : ℕ) → j < h → h + k ≤ n → NotIn j (walk next h k)
  NotIn-rising j h zero lt within = tt
  NotIn-rising j h (suc k) lt within =
      (λ e. absurd (omega arith), rw (rising h (omega arith)) (NotIn-rising j (h + 1) k (omega arith) (omega arith)))

  pub Distinct-rising : (h k : ℕ) → h + k ≤ n → Distinct (walk next h k)
  Distinct-rising h zero within = tt
  Distinct-rising h (suc k) within =
      rw (rising h (omega arith)) (NotIn-rising h (h + 1) k (omega arith) (omega arith), Distinct-rising (h + 1) k (omega arith))

  pub Below-rising : (h k : ℕ) → h + k ≤ n → Below n (walk next h k)
  Below-rising h zero within = tt
  Below-rising h (suc k) within =
      (omega arith, rw (rising h (omega arith)) (Below-rising (h + 1) k (omega arith)))
