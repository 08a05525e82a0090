use Rattle.std.proofs.Common.{rules, ℕ, ◌≡◌, ◌∙◌, ◌+◌, ◌++◌, [], ◌∷◌, ap, refl, length, slice_set, subst}
use Rattle.world.specs.NodeSet.{IsInserted}
use Rattle.world.specs.Opening.{places_of}
use Rattle.law_world_pace.specs.Running.{numbered}
use Rattle.world.proofs.Opens.{opened_next}
use Rattle.world.proofs.world.World.open_node.Goals as goal

pub returns : goal.returns
returns g c =
    let size : c.len-place.result ≡ length c.args.self.now.sites.items = search rules in
    let all : c.len.result ≡ length c.push_places.new.round.items = search rules in
    opened_next g.C.NodeController.seen (g.C.NodeController.meaning c.args.policy) c.args.topology.now c.args.self.now _ (numbered (c.len-place.result + 1)) c.in_ok-site.site c.in_ok-ranges.ranges.items
    c.requires.opening (ap (λ n. numbered (n + 1)) size) c.requires.node c.in_ok-ranges.ensures c.in_ok-site.ensures.site c.in_ok-site.ensures.peers c.in_ok-site.ensures.numbers
    (c.push_reserved.ensures.items ∙ ap (λ xs. xs ++ c.in_ok-site.site ∷ []) c.in_ok-reserve.ensures.items)
    (c.in_ok-push_places.ensures ∙ ap (λ rs. c.args.self.now.round.items ++ places_of (numbered (c.len-place.result + 1)) rs) c.as_slice-2.ensures.value) refl refl refl refl refl
    (λ i. slice_set c.args.self.now.starts (size i + 1) (all i))
    (subst (λ (k : ℕ). IsInserted c.args.self.now.waiting c.insert.new.self k) size c.insert.ensures)
