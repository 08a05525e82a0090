-- Sorted lists under a total order: what a search in them tells, and what an insert and a removal
-- leave.

use Rattle.std.proofs.Common.{◌≡◌, ℕ, ◌+◌, ◌<◌, ◌≤◌, false, List, length, get_or, refl, sym, ap, ◌∙◌, arith, inl, inr}
use Rattle.std.specs.declared.cmp.Ordering.{Ordering}
use Rattle.std.specs.declared.cmp.Ordering.TheVariants.{Less, Equal, Greater}
use Rattle.std.specs.Ordering.{ordering_reverse, ordering_index, is_lt}
use Rattle.std.specs.Cmp.{IsTotalOrder, alike_right, tied_itself}
use Rattle.std.specs.List.{insert, remove}
use Rattle.std.specs.List.Sorted.{IsNonDecreasingBy, IsSorted}
use Rattle.std.proofs.lemmas.Bool.{cases_lt}
use Rattle.std.proofs.lemmas.List.Quantifiers.{all_pairs_remove}
use Rattle.std.proofs.lemmas.List.Sorted.{IsNonDecreasingBy-insert, searchable_from_sorted}

index-le : (r : Ordering) → ordering_index r ≤ 2
index-le Less = omega arith
index-le Equal = omega arith
index-le Greater = omega arith

not_less : (r : Ordering) → 1 ≤ ordering_index r → is_lt r ≡ false
not_less Less h = absurd (omega (arith, h))
not_less Equal h = refl
not_less Greater h = refl

module _ {K : Type 0} {R : K → K → Ordering} (o : IsTotalOrder R) where
  index-rises : (x y k : K) (r : Ordering) → R y k ≡ r → R x y ≡ Less → ordering_index (R x k) ≤ ordering_index r
  index-rises x y k Less e less = rw (o.trans x y k less e) (omega arith)
  index-rises x y k Equal e less = rw (sym (alike_right o y k x e) ∙ less) (omega arith)
  index-rises x y k Greater e less = index-le (R x k)

  less_from : (x y : K) → R y x ≡ Greater → R x y ≡ Less
  less_from x y greater = o.antisymm x y ∙ ap ordering_reverse greater

  -- seen from any key, first come those below it, then those level with it, then those above it
  abbrev Seen : List K → Type 0
  Seen xs = (k : K) → IsNonDecreasingBy (λ e. ordering_index (R e k)) xs

  pub seen : (xs : List K) → IsSorted R xs → Seen xs
  seen xs sorted k = searchable_from_sorted o (λ e. e) xs k sorted

  sorted_from_seen : (xs : List K) → Seen xs → IsSorted R xs
  sorted_from_seen xs h k d low high =
      let level : ordering_index (R (get_or xs k d) (get_or xs k d)) ≡ 1 = ap ordering_index (tied_itself o (get_or xs k d)) in
      not_less _ (omega (arith, level, h (get_or xs k d) k (k + 1) d (omega arith) high))

  pub sorted-remove : (xs : List K) (i : ℕ) → i < length xs → IsSorted R xs → IsSorted R (remove xs i)
  sorted-remove xs i within sorted =
      sorted_from_seen (remove xs i) (λ k.
      let n = λ (e : K). ordering_index (R e k) in
      let pairs = all_pairs_remove (λ a b. n a ≤ n b) xs i within (λ a b d lt w. seen xs sorted k a b d (omega (arith, lt)) w) in
      λ a b d le w. elim (cases_lt a b) [
        | inl lt ↦ pairs a b d lt w
        | inr ge ↦ let same : a ≡ b = omega (arith, le, ge) in rw same (omega arith)
      ])

  -- y goes to a place where one that ties with it stands, or where it would stand
  pub sorted-insert_tied : (xs : List K) (i : ℕ) (y : K) → i < length xs → ((d k : K) → R (get_or xs i d) k ≡ R y k) → IsSorted R xs → IsSorted R (insert xs i y)
  sorted-insert_tied xs i y within here sorted =
      sorted_from_seen (insert xs i y) (λ k.
      let n = λ (e : K). ordering_index (R e k) in
      IsNonDecreasingBy-insert n xs i y (seen xs sorted k) (omega (arith, within))
      (λ j d lt. rw (← here d k) (seen xs sorted k j i d (omega (arith, lt)) within))
      (λ j d le w. rw (← here d k) (seen xs sorted k i j d le w)))

  pub sorted-insert_gap : (xs : List K) (i : ℕ) (y : K) → i ≤ length xs → ((j : ℕ) (d : K) → j < i → R (get_or xs j d) y ≡ Less) → ((j : ℕ) (d : K) → i ≤ j → j < length xs → R (get_or xs j d) y ≡ Greater) → IsSorted R xs → IsSorted R (insert xs i y)
  sorted-insert_gap xs i y within before after sorted =
      sorted_from_seen (insert xs i y) (λ k.
      IsNonDecreasingBy-insert (λ e. ordering_index (R e k)) xs i y (seen xs sorted k) within
      (λ j d lt. index-rises (get_or xs j d) y k (R y k) refl (before j d lt))
      (λ j d le w. index-rises y (get_or xs j d) k (R (get_or xs j d) k) refl (less_from y (get_or xs j d) (after j d le w))))
