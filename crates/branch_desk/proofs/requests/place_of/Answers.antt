use Rattle.std.proofs.Common.{◌≡◌, rules}
use Rattle.std.specs.Ordering.{nat_cmp}
use Rattle.std.proofs.lemmas.Fn.{always_returns_same}
use Rattle.branch_desk.proofs.Numbers.{searched}
use Rattle.branch_desk.proofs.requests.place_of.Goals as goal

pub returns : goal.returns
returns c =
    let facts = c.binary_search_by.ensures in
    let by_number = facts.position (λ s. nat_cmp s.number c.args.number) (always_returns_same _ (λ a r. r ≡ nat_cmp a.0.now.number c.args.number) _ (λ a r f called. search rules)) in
    let both = searched c.args.entries.now c.args.number c.binary_search_by.result c.requires facts.bound by_number in
    record { found = rw c.ok.ensures.value both.0; absent = rw c.ok.ensures.value both.1 }
