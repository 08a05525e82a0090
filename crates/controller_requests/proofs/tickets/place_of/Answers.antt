use Rattle.std.proofs.Common.{◌≡◌, ◌==◌, ◌∙◌, false, rules, sym}
use Rattle.std.specs.Ordering.{nat_cmp}
use Rattle.std.specs.List.{list_any}
use Rattle.std.proofs.lemmas.Fn.{always_returns_same}
use Rattle.branch_desk.specs.port_model.Desk.{Standing}
use Rattle.branch_desk.proofs.Numbers.{searched}
use Rattle.controller_requests.proofs.tickets.place_of.Goals as goal

pub unreachable-requires : goal.unreachable-requires
unreachable-requires c =
    let facts = c.binary_search_by-found.ensures in
    let by_number = facts.position (λ s. nat_cmp s.number c.args.number) (always_returns_same _ (λ a r. r ≡ nat_cmp a.0.now.number c.args.number) _ (λ a r f called. search rules)) in
    let both = searched c.args.tickets.now c.args.number c.binary_search_by-found.result c.requires.rising facts.bound by_number in
    let none : list_any (λ (s : Standing). s.number == c.args.number) c.args.tickets.now ≡ false = rw c.in_default.is at both.1 in
    cc (sym c.requires.there ∙ none)

pub returns : goal.returns
returns c =
    let facts = c.binary_search_by-found.ensures in
    let by_number = facts.position (λ s. nat_cmp s.number c.args.number) (always_returns_same _ (λ a r. r ≡ nat_cmp a.0.now.number c.args.number) _ (λ a r f called. search rules)) in
    let both = searched c.args.tickets.now c.args.number c.binary_search_by-found.result c.requires.rising facts.bound by_number in
    rw c.in-Ok.is at both.0
