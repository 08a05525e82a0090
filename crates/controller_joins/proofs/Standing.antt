-- What an input's place among joins in order tells of them.

use Rattle.std.proofs.Common.{◌≡◌, ℕ, ◌+◌, ◌<◌, Bool, true, false, not, List, length, get_or, Some, None, find, filter, ap, ◌∙◌, arith, inl, inr}
use Rattle.std.proofs.lemmas.Bool.{cases_lt}
use Rattle.std.specs.declared.cmp.Ordering.TheVariants.{Less}
use Rattle.std.specs.Ordering.{ordering_reverse, is_lt}
use Rattle.std.specs.List.{list_any, insert, remove}
use Rattle.std.specs.List.Sorted.{IsSorted}
use Rattle.std.proofs.lemmas.List.Kept.{AllPairs-filter}
use Rattle.std.proofs.lemmas.List.Quantifiers.{all_pairs_remove}
use Rattle.keyed_lists.specs.Keyed.{entered}
use Rattle.net_types.specs.declared.channel.End.{End}
use Rattle.crossbar_model.specs.Channels.{end_cmp}
use Rattle.crossbar_model.specs.Crossbar.{same_end}
use Rattle.world_model.specs.Joins.{end_le}
use Rattle.branch_desk.proofs.Ends.{end_cmp_total, same_itself}
use Rattle.controller_joins.specs.declared.places.Joined.{Joined}
use Rattle.controller_joins.specs.Joined.{AreInOrder, IsPlaceOf, IsGapFor}
use Rattle.controller_joins.proofs.Found.{find_at, find_none, any_at, entered_at, filter_all, filter_but, pairs_insert}
use Rattle.controller_joins.proofs.Ends.{apart_below, apart_above, not_le_below, le_above}

pub sorted_from_order : (joins : List Joined) → AreInOrder joins → IsSorted (λ (a b : Joined). end_cmp a.input b.input) joins
sorted_from_order joins order k d low high =
    ap is_lt (end_cmp_total.antisymm (get_or joins (k + 1) d).input (get_or joins k d).input ∙ ap ordering_reverse (order.ascending k (k + 1) d (omega arith) high))

-- *The join of the input is at place i*
at_place : (joins : List Joined) (input : End) (i : ℕ) (d : Joined) → IsPlaceOf joins input i → same_end (get_or joins i d).input input ≡ true
at_place joins input i d at = rw (at.here d) (same_itself input)

before_place : (joins : List Joined) (input : End) (i j : ℕ) (d : Joined) → AreInOrder joins → IsPlaceOf joins input i → j < i → same_end (get_or joins j d).input input ≡ false
before_place joins input i j d order at lt = apart_below _ input (rw (at.here d) at (order.ascending j i d lt at.within))

behind_place : (joins : List Joined) (input : End) (i j : ℕ) (d : Joined) → AreInOrder joins → IsPlaceOf joins input i → i < j → j < length joins → same_end (get_or joins j d).input input ≡ false
behind_place joins input i j d order at lt within =
    let less : end_cmp input (get_or joins j d).input ≡ Less = rw (at.here d) at (order.ascending i j d lt within) in
    apart_above _ input (end_cmp_total.antisymm (get_or joins j d).input input ∙ ap ordering_reverse less)

pub found_at_place : (joins : List Joined) (input : End) (i : ℕ) (d : Joined) → AreInOrder joins → IsPlaceOf joins input i → find (λ j. same_end j.input input) joins ≡ Some (get_or joins i d)
found_at_place joins input i d order at =
    find_at (λ j. same_end j.input input) joins i d at.within (at_place joins input i d at) (λ j lt. before_place joins input i j d order at lt)

pub any_at_place : (joins : List Joined) (input : End) (i : ℕ) (d : Joined) → IsPlaceOf joins input i → list_any (λ j. same_end j.input input) joins ≡ true
any_at_place joins input i d at = any_at (λ j. same_end j.input input) joins i d at.within (at_place joins input i d at)

pub removed_at_place : (joins : List Joined) (input : End) (i : ℕ) → AreInOrder joins → IsPlaceOf joins input i → remove joins i ≡ filter (λ j. not (same_end j.input input)) joins
removed_at_place joins input i order at =
    filter_but (λ j. not (same_end j.input input)) joins i at.within (λ d. ap not (at_place joins input i d at))
    (λ j d within ne. elim (cases_lt j i) [
      | inl lt ↦ ap not (before_place joins input i j d order at lt)
      | inr ge ↦ (let lt : i < j = omega (arith, ge, ne) in ap not (behind_place joins input i j d order at lt within))
    ])

-- *The input isn't joined; its join would stand at place i*
at_gap : (joins : List Joined) (input : End) (i j : ℕ) (d : Joined) → IsGapFor joins input i → j < length joins → same_end (get_or joins j d).input input ≡ false
at_gap joins input i j d gap within = elim (cases_lt j i) [
  | inl lt ↦ apart_below _ input (gap.before j d lt)
  | inr ge ↦ apart_above _ input (gap.after j d ge within)
]

pub none_at_gap : (joins : List Joined) (input : End) (i : ℕ) → IsGapFor joins input i → find (λ j. same_end j.input input) joins ≡ None
none_at_gap joins input i gap = find_none (λ j. same_end j.input input) joins (λ j d within. at_gap joins input i j d gap within)

pub all_at_gap : (joins : List Joined) (input : End) (i : ℕ) → IsGapFor joins input i → filter (λ j. not (same_end j.input input)) joins ≡ joins
all_at_gap joins input i gap = filter_all (λ j. not (same_end j.input input)) joins (λ j d within. ap not (at_gap joins input i j d gap within))

pub entered_at_gap : (joins : List Joined) (join : Joined) (i : ℕ) → IsGapFor joins join.input i → insert joins i join ≡ entered (λ a b. end_le a.input b.input) join joins
entered_at_gap joins join i gap =
    entered_at (λ a b. end_le a.input b.input) join joins i gap.within (λ j d lt. not_le_below _ join.input (gap.before j d lt))
    (λ d within. le_above _ join.input (gap.after i d (omega arith) within))

pub order_entered : (joins : List Joined) (join : Joined) (i : ℕ) → IsGapFor joins join.input i → AreInOrder joins → AreInOrder (insert joins i join)
order_entered joins join i gap order = record {
  ascending = pairs_insert (λ a b. end_cmp a.input b.input ≡ Less) joins i join gap.within gap.before
      (λ j d le within. end_cmp_total.antisymm join.input (get_or joins j d).input ∙ ap ordering_reverse (gap.after j d le within)) order.ascending;
}

pub order_kept : (test : Joined → Bool) (joins : List Joined) → AreInOrder joins → AreInOrder (filter test joins)
order_kept test joins order = record { ascending = AllPairs-filter (λ a b. end_cmp a.input b.input ≡ Less) test joins order.ascending }

pub order_removed : (joins : List Joined) (i : ℕ) → i < length joins → AreInOrder joins → AreInOrder (remove joins i)
order_removed joins i within order = record { ascending = all_pairs_remove (λ a b. end_cmp a.input b.input ≡ Less) joins i within order.ascending }
