use Rattle.std.proofs.Common.{◌≡◌, rules, Result, Ok, Err, IfOk, IfErr, length, List, ℕ, arith}
use Rattle.std.proofs.lemmas.Fn.{always_returns_same}
use Rattle.std.specs.List.Sorted.{IsSorted, IsSearchInRange, IsBinarySearchResult}
use Rattle.std.proofs.lemmas.List.Sorted.{searchable_from_sorted}
use Rattle.net_types.specs.declared.channel.End.{End}
use Rattle.port_model.specs.crossbar_model.Channels.{end_cmp}
use Rattle.branch_desk.specs.declared.by_end.Numbered.{Numbered}
use Rattle.branch_desk.specs.ByEnd.{IsPlaceOf, IsGapFor}
use Rattle.branch_desk.proofs.Ends.{end_cmp_total, end_from_tie}
use Rattle.branch_desk.proofs.by_end.place_of.Goals as goal

searched : (numbers : List Numbered) (end : End) (r : Result ℕ ℕ) → IsSorted (λ (a b : Numbered). end_cmp a.end b.end) numbers → IsSearchInRange r (length numbers) → IsBinarySearchResult (λ e. end_cmp e.end end) numbers r → IfOk r (IsPlaceOf numbers end) × IfErr r (IsGapFor numbers end)
searched numbers end (Ok i) sorted within result =
    (record { within = within; here = λ d. end_from_tie _ _ (result d) }, tt)
searched numbers end (Err i) sorted within result =
    let point = result (searchable_from_sorted end_cmp_total (λ (e : Numbered). e.end) numbers end sorted) in
    (tt, record { within = within; before = λ j d h. point.0 j d (omega arith) h; after = λ j d h w. point.1 j d h w })

pub returns : goal.returns
returns c =
    let facts = c.binary_search_by.ensures in
    let by_order = facts.position (λ e. end_cmp e.end c.args.end) (always_returns_same _ (λ a r. r ≡ end_cmp a.0.now.end c.args.end) _ (λ a r f called. search rules)) in
    let both = searched c.args.numbers.now c.args.end c.binary_search_by.result c.requires.sorted facts.bound by_order in
    record { found = both.0; absent = both.1 }
