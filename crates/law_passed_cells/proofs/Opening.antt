-- at the opening nothing is joined and nothing waits

use Rattle.std.proofs.Common.{◌≡◌, ℕ, suc, List, [], ◌∷◌, Some, refl, sym, ◌∙◌, ap, subst, arith, Contains}
use Rattle.std.specs.Option.{option_map}
use Rattle.std.specs.FinMap.{empty, get-empty}
use Rattle.world_model.specs.Words.{End, Cell, at, Frame, end_cmp, Branches, Policy, Topology, Node, World, Site, site_key, opened_site, opens_each, with_opened, empty_world}
use Rattle.law_fed_worlds.specs.ordered_lists.Ordered.{Every}
use Rattle.world_model.specs.crossbar_model.declared.branch.Branch.{Branch}
use Rattle.world_model.specs.crossbar_model.Crossbar.{output_of}
use Rattle.law_fed_worlds.proofs.law_port_facts.Keyed.{at_every, every_more}
use Rattle.world_model.specs.World.{opened}
use Rattle.law_fed_worlds.specs.law_world_views.Between.{HasAllPassed}
use Rattle.law_fed_worlds.specs.law_world_views.Kept.{Begins}
use Rattle.law_passed_cells.specs.Passed.{HasRequests}
use Rattle.law_passed_cells.proofs.Sites.{SitePassed}
use Rattle.law_passed_cells.proofs.Runs.{to_passed, to_requests, split}

record IsBlank (site : Site) : Type 0 where
  branches : site.switch.crossbar.branches ≡ empty
  chain : site.switch.reassembly.chain ≡ []
  queue : site.controller.queue ≡ []

all_blank : (policy : Policy) (topology : Topology) (nodes : List Node) (place : ℕ) (w : World) → Every IsBlank w.sites → Every IsBlank (opens_each policy topology w place nodes).sites
all_blank policy topology [] place w h = h
all_blank policy topology (node ∷ nodes) place w h = all_blank policy topology nodes (suc place) (with_opened policy topology w place node)
    (every_more IsBlank w.sites (opened_site policy topology (record { 0 = place }) node w.numbers) h (record { branches = refl; chain = refl; queue = refl }))

none : {A : Type 0} {P : Type 0} (x : A) → Contains [] x → P
none x h = absurd (omega (arith, h.1))

blank_passed : (frames : List Frame) (site : Site) → IsBlank site → SitePassed frames site
blank_passed frames site h = record {
  on_branch = λ input output above on e. absurd (nothing input output (sym (ap (λ (m : Branches). output_of m input) h.branches) ∙ e));
  in_chain = λ input output s cell above on k copy e. none cell (subst (λ (xs : List Cell). Contains xs cell) h.chain k);
  behind = λ input output s before after cell above on is copy e. absurd (split before after cell (sym h.queue ∙ is));
  asked = λ cell s k copy. none cell (subst (λ (xs : List Cell). Contains xs cell) h.queue k);
}
  where
    nothing : (input output : End) → output_of empty input ≡ Some output → ⊥
    nothing input output e = cc (sym (ap (option_map (λ (b : Branch). b.output)) (get-empty end_cmp input)) ∙ e)

module _ (policy : Policy) (topology : Topology) where
  begun : (k : ℕ) (site : Site) → at site_key k (opened policy topology).sites ≡ Some site → SitePassed (opened policy topology).notes.frames site
  begun k site found = blank_passed (opened policy topology).notes.frames site (at_every site_key IsBlank k (opened policy topology).sites site (all_blank policy topology topology.nodes 1 empty_world tt) found)

pub passed_begins : Begins HasAllPassed
passed_begins policy topology is addresses = to_passed (opened policy topology) (begun policy topology)

pub requests_begin : Begins HasRequests
requests_begin policy topology is addresses = to_requests (opened policy topology) (begun policy topology)
