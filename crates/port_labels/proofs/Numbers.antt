-- numbers that rise: where one is entered, and what is left where one is removed

use Rattle.std.proofs.Common.{◌≡◌, ◌≢◌, ℕ, zero, suc, ◌<◌, ◌≤◌, List, [], ◌∷◌, length, get_or, refl, sym, ap, arith, inl, inr}
use Rattle.std.specs.Prelude.{nat_le, Result, Ok, Err}
use Rattle.std.specs.Ordering.{nat_cmp}
use Rattle.std.specs.List.{AllByRecursion, insert, remove}
use Rattle.std.specs.List.Sorted.{IsBinarySearchResult}
use Rattle.std.proofs.lemmas.Bool.{cases_lt, eq-eqb, ne_eqb, le-leb, lt-leb}
use Rattle.std.proofs.lemmas.List.Sorted.{searched}
use Rattle.keyed_lists.specs.Keyed.{entered, without}
use Rattle.port_labels.specs.Index.{AreAscending}

abbrev pub itself : ℕ → ℕ
itself n = n

above_at : (n : ℕ) (ns : List ℕ) (k : ℕ) → AllByRecursion (λ m. n < m) ns → k < length ns → n < get_or ns k 0
above_at n [] k all within = absurd (omega arith)
above_at n (m ∷ ns) zero all within = all.0
above_at n (m ∷ ns) (suc k) all within = above_at n ns k all.1 (omega arith)

pub rising : (ns : List ℕ) → AreAscending ns → (i j : ℕ) → i ≤ j → j < length ns → get_or ns i 0 ≤ get_or ns j 0
rising [] up i j le within = absurd (omega arith)
rising (n ∷ ns) up zero zero le within = omega arith
rising (n ∷ ns) up zero (suc j) le within = omega (arith, above_at n ns j up.0 (omega arith))
rising (n ∷ ns) up (suc i) zero le within = absurd (omega arith)
rising (n ∷ ns) up (suc i) (suc j) le within = rising ns up.1 i j (omega arith) (omega arith)

pub strictly : (ns : List ℕ) → AreAscending ns → (i j : ℕ) → i < j → j < length ns → get_or ns i 0 < get_or ns j 0
strictly [] up i j lt within = absurd (omega arith)
strictly (n ∷ ns) up zero zero lt within = absurd (omega arith)
strictly (n ∷ ns) up zero (suc j) lt within = above_at n ns j up.0 (omega arith)
strictly (n ∷ ns) up (suc i) zero lt within = absurd (omega arith)
strictly (n ∷ ns) up (suc i) (suc j) lt within = strictly ns up.1 i j (omega arith) (omega arith)

-- a number goes behind the lower ones, and in front of the others
pub inserted : (n : ℕ) (ns : List ℕ) (i : ℕ) → i ≤ length ns → ((k : ℕ) → k < i → get_or ns k 0 < n) → (i < length ns → n ≤ get_or ns i 0)
    → insert ns i n ≡ entered nat_le n ns
inserted n [] zero within below above = refl
inserted n [] (suc i) within below above = absurd (omega arith)
inserted n (m ∷ ns) zero within below above = rw (le-leb n m (above (omega arith))) refl
inserted n (m ∷ ns) (suc i) within below above =
    rw (lt-leb n m (below 0 (omega arith)))
    (ap (λ (t : List ℕ). m ∷ t) (inserted n ns i (omega arith) (λ k lt. below (suc k) (omega arith)) (λ lt. above (omega arith))))

-- a number that isn't there is left out of nothing
pub nowhere : (n : ℕ) (ns : List ℕ) → ((k : ℕ) → k < length ns → get_or ns k 0 ≢ n) → without itself n ns ≡ ns
nowhere n [] other = refl
nowhere n (m ∷ ns) other =
    rw (ne_eqb m n (other 0 (omega arith))) (ap (λ (t : List ℕ). m ∷ t) (nowhere n ns (λ k lt. other (suc k) (omega arith))))

pub removed : (n : ℕ) (ns : List ℕ) (i : ℕ) → AreAscending ns → i < length ns → get_or ns i 0 ≡ n → remove ns i ≡ without itself n ns
removed n [] i up within here = absurd (omega arith)
removed n (m ∷ ns) zero up within here =
    rw (eq-eqb m n here) (sym (nowhere n ns (λ k lt same. absurd (omega (arith, above_at m ns k up.0 lt, here, same)))))
removed n (m ∷ ns) (suc i) up within here =
    rw (ne_eqb m n (λ same. absurd (omega (arith, above_at m ns i up.0 (omega arith), here, same))))
    (ap (λ (t : List ℕ). m ∷ t) (removed n ns i up.1 (omega arith) here))

-- what a search of numbers that rise tells
abbrev Searched : ℕ → List ℕ → Result ℕ ℕ → Type 0
Searched n ns r = IsBinarySearchResult (λ y. nat_cmp y n) ns r

found_place : (n : ℕ) (ns : List ℕ) (i : ℕ) → AreAscending ns → Searched n ns (Ok i) → (i < length ns) × (get_or ns i 0 ≡ n)
found_place n ns i up h = searched ns n (Ok i) h (rising ns up)

gap : (n : ℕ) (ns : List ℕ) (i : ℕ) → AreAscending ns → Searched n ns (Err i)
    → (i ≤ length ns) × ((k : ℕ) → k < i → get_or ns k 0 < n) × ((k : ℕ) → i ≤ k → k < length ns → n < get_or ns k 0)
gap n ns i up h = searched ns n (Err i) h (rising ns up)

pub entered_found : (n : ℕ) (ns seen : List ℕ) (i : ℕ) → seen ≡ ns → AreAscending ns → Searched n seen (Ok i) → insert ns i n ≡ entered nat_le n ns
entered_found n ns seen i same up h =
    let at = found_place n ns i up (rw same at h) in
    inserted n ns i (omega (arith, at.0)) (λ k lt. omega (arith, strictly ns up k i lt at.0, at.1)) (λ lt. omega (arith, at.1))

pub entered_gap : (n : ℕ) (ns seen : List ℕ) (i : ℕ) → seen ≡ ns → AreAscending ns → Searched n seen (Err i) → insert ns i n ≡ entered nat_le n ns
entered_gap n ns seen i same up h =
    let at = gap n ns i up (rw same at h) in
    inserted n ns i at.0 at.1 (λ lt. omega (arith, at.2 i (omega arith) lt))

pub removed_found : (n : ℕ) (ns seen : List ℕ) (i : ℕ) → seen ≡ ns → AreAscending ns → Searched n seen (Ok i) → remove ns i ≡ without itself n ns
removed_found n ns seen i same up h =
    let at = found_place n ns i up (rw same at h) in
    removed n ns i up at.0 at.1

pub removed_nowhere : (n : ℕ) (ns seen : List ℕ) (i : ℕ) → seen ≡ ns → AreAscending ns → Searched n seen (Err i) → ns ≡ without itself n ns
removed_nowhere n ns seen i same up h =
    let at = gap n ns i up (rw same at h) in
    sym (nowhere n ns (λ k lt e. elim (cases_lt k i) [
      | inl below ↦ absurd (omega (arith, at.1 k below, e))
      | inr above ↦ absurd (omega (arith, at.2 k above lt, e))
    ]))
