use Rattle.std.proofs.Common.{◌≡◌, rules, Result, Ok, Err, IfOk, IfErr, length, List, ℕ, arith}
use Rattle.std.proofs.lemmas.Fn.{always_returns_same}
use Rattle.std.specs.List.Sorted.{IsSorted, IsSearchInRange, IsBinarySearchResult}
use Rattle.std.proofs.lemmas.List.Sorted.{searchable_from_sorted}
use Rattle.net_types.specs.declared.channel.End.{End}
use Rattle.crossbar_model.specs.Channels.{end_cmp}
use Rattle.branch_desk.proofs.Ends.{end_cmp_total, end_from_tie}
use Rattle.controller_joins.specs.declared.places.Joined.{Joined}
use Rattle.controller_joins.specs.Joined.{IsPlaceOf, IsGapFor}
use Rattle.controller_joins.proofs.Standing.{sorted_from_order}
use Rattle.controller_joins.proofs.places.place_of.Goals as goal

searched : (joins : List Joined) (input : End) (r : Result ℕ ℕ) → IsSorted (λ (a b : Joined). end_cmp a.input b.input) joins → IsSearchInRange r (length joins) → IsBinarySearchResult (λ j. end_cmp j.input input) joins r → IfOk r (IsPlaceOf joins input) × IfErr r (IsGapFor joins input)
searched joins input (Ok i) sorted within result =
    (record { within = within; here = λ d. end_from_tie _ _ (result d) }, tt)
searched joins input (Err i) sorted within result =
    let point = result (searchable_from_sorted end_cmp_total (λ (j : Joined). j.input) joins input sorted) in
    (tt, record { within = within; before = λ j d h. point.0 j d (omega arith) h; after = λ j d h w. point.1 j d h w })

pub returns : goal.returns
returns c =
    let facts = c.binary_search_by.ensures in
    let by_order = facts.position (λ j. end_cmp j.input c.args.input) (always_returns_same _ (λ a r. r ≡ end_cmp a.0.now.input c.args.input) _ (λ a r f called. search rules)) in
    let both = searched c.args.joins.now c.args.input c.binary_search_by.result (sorted_from_order _ c.requires) facts.bound by_order in
    record { found = both.0; absent = both.1 }
