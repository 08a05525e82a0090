-- as a run opens no pair of labels is joined

use Rattle.std.proofs.Common.{◌≡◌, ℕ, suc, List, [], ◌∷◌, None, refl, sym, ◌∙◌, ap, subst, arith, Contains}
use Rattle.std.specs.FinMap.{get-empty}
use Rattle.std.specs.Option.{option_map}
use Rattle.law_causes.specs.world_model.Words.{End, NodeId, end_cmp, Frame, Policy, Topology, Node, World, Site, site_key, opened_site, with_opened, opens_each, empty_world}
use Rattle.law_world_views.specs.ordered_lists.Ordered.{Every}
use Rattle.law_causes.specs.world_model.crossbar_model.declared.branch.Branch.{Branch}
use Rattle.law_causes.specs.world_model.crossbar_model.Crossbar.{output_of}
use Rattle.law_causes.specs.world_model.World.{opened}
use Rattle.law_pairs.proofs.SitePairs.{SitePairs, branch, desk, chain, queue, of_pairs}
use Rattle.law_world_views.proofs.law_port_facts.Keyed.{at_every, every_more}
use Rattle.law_world_views.specs.Pairs.{Pairs}

-- *A site* that leads nothing
record IsBare (site : Site) : Type 0 where
  branches : (input : End) → output_of site.switch.crossbar.branches input ≡ None
  standing : site.controller.desk.standing ≡ []
  chain : site.switch.reassembly.chain ≡ []
  queue : site.controller.queue ≡ []

pub none_in : {A : Type 0} (xs : List A) (x : A) → xs ≡ [] → Contains xs x → ⊥
none_in {A} xs x is h = absurd (omega (arith, (let k : Contains {X = A} [] x = subst (λ (zs : List A). Contains zs x) is h in k.1)))

bare_pairs : (frames : List Frame) (site : Site) (input output : End) → IsBare site → SitePairs frames site input output → ⊥
bare_pairs frames site input output b (branch e) = cc (sym (b.branches input) ∙ e)
bare_pairs frames site input output b (desk s there e) = none_in site.controller.desk.standing s b.standing there
bare_pairs frames site input output b (chain s cell there copy e) = none_in site.switch.reassembly.chain cell b.chain there
bare_pairs frames site input output b (queue s cell there here copy e) = none_in site.controller.queue cell b.queue there

each_bare : (policy : Policy) (topology : Topology) (nodes : List Node) (w : World) (place : ℕ) → Every IsBare w.sites → Every IsBare (opens_each policy topology w place nodes).sites
each_bare policy topology [] w place h = h
each_bare policy topology (node ∷ nodes) w place h = each_bare policy topology nodes (with_opened policy topology w place node) (suc place)
    (every_more IsBare w.sites (opened_site policy topology (record { 0 = place }) node w.numbers) h (record { branches = λ input. ap (option_map (λ (b : Branch). b.output)) (get-empty end_cmp input); standing = refl; chain = refl; queue = refl }))

pub none_joined : (policy : Policy) (topology : Topology) (node : NodeId) (input output : End) → Pairs (opened policy topology) node input output → ⊥
none_joined policy topology node input output pair =
    let f = of_pairs (opened policy topology) node input output pair in
    bare_pairs (opened policy topology).notes.frames f.0 input output
    (at_every site_key IsBare node.0 (opened policy topology).sites f.0 (each_bare policy topology topology.nodes empty_world 1 tt) f.1.0) f.1.1
