-- at the opening each node of the topology is there, with its routes, and no other

use Rattle.std.proofs.Common.{◌≡◌, ◌≢◌, ℕ, zero, suc, ◌<◌, ◌≤◌, ◌+◌, Bool, List, [], ◌∷◌, ◌++◌, Option, None, Some, slice_get, refl, sym, ◌∙◌, ap, subst, arith, if◌then◌else◌}
use Rattle.std.specs.Prelude.{nat_eq}
use Rattle.std.specs.Option.{option_map_or}
use Rattle.world_model.specs.Words.{at, Policy, Topology, Node, node_at, World, Site, site_key, empty_world, opened_site, with_opened, opens_each}
use Rattle.world_model.specs.World.{opened}
use Rattle.world_model.proofs.Lists.{by_eq}
use Rattle.law_told_tables.proofs.Worlds.{IsSo, AreSo}

-- *One node more*
at_more : (number : ℕ) (sites : List Site) (site : Site) → site_key site ≢ number → at site_key number (sites ++ site ∷ []) ≡ at site_key number sites
at_more number [] site away = by_eq (site_key site) number
    (λ same is. absurd (away same))
    (λ other is. ap (λ (b : Bool). if b then Some site else None) is)
at_more number (x ∷ sites) site away = ap (λ (o : Option Site). if nat_eq (site_key x) number then Some x else o) (at_more number sites site away)

at_last : (sites : List Site) (site : Site) → at site_key (site_key site) sites ≡ None → at site_key (site_key site) (sites ++ site ∷ []) ≡ Some site
at_last [] site none = by_eq (site_key site) (site_key site)
    (λ same is. ap (λ (b : Bool). if b then Some site else None) is)
    (λ other is. absurd (other refl))
at_last (x ∷ sites) site none = by_eq (site_key x) (site_key site)
    (λ same is. (let found : Some x ≡ None = subst (λ (b : Bool). (if b then Some x else at site_key (site_key site) sites) ≡ None) is none in absurd (cc found)))
    (λ other is. ap (λ (b : Bool). if b then Some x else at site_key (site_key site) (sites ++ site ∷ [])) is
    ∙ at_last sites site (subst (λ (b : Bool). (if b then Some x else at site_key (site_key site) sites) ≡ None) is none))

module _ (policy : Policy) (t : Topology) where
  before_all : (w : World) (place : ℕ) (nodes : List Node) (number : ℕ) → number < place
      → at site_key number (opens_each policy t w place nodes).sites ≡ at site_key number w.sites
  before_all w place [] number low = refl
  before_all w place (node ∷ nodes) number low =
      before_all (with_opened policy t w place node) (suc place) nodes number (omega (arith, low))
      ∙ at_more number w.sites (opened_site policy t (record { 0 = place }) node w.numbers) (λ same. omega (arith, low, same))

  no_records : (w : World) (place : ℕ) (nodes : List Node) → (opens_each policy t w place nodes).notes ≡ w.notes
  no_records w place [] = refl
  no_records w place (node ∷ nodes) = no_records (with_opened policy t w place node) (suc place) nodes

  -- each is told nothing yet
  abbrev Opens : Option Node → Option Site → Type 0
  Opens own found = IsSo (option_map_or (λ (node : Node). node.routes) own []) [] 0 own found []

  opens_so : (w : World) (place : ℕ) (nodes : List Node) → ((number : ℕ) → place ≤ number → at site_key number w.sites ≡ None) → (k : ℕ)
      → Opens (slice_get nodes k) (at site_key (place + k) (opens_each policy t w place nodes).sites)
  opens_so w place [] free k = subst (Opens None) (sym (free (place + k) (omega arith))) (refl, refl)
  opens_so w place (node ∷ nodes) free zero =
      let site : Site = opened_site policy t (record { 0 = place }) node w.numbers in
      let there : at site_key place (opens_each policy t (with_opened policy t w place node) (suc place) nodes).sites ≡ Some site =
      before_all (with_opened policy t w place node) (suc place) nodes place (omega arith) ∙ at_last w.sites site (free place (omega arith)) in
      subst (λ (n : ℕ). Opens (Some node) (at site_key n (opens_each policy t w place (node ∷ nodes)).sites)) (omega arith)
      (subst (Opens (Some node)) (sym there) (record { front = []; splits = refl; table = refl; changes = refl; since = 0; count = refl; recorded = refl }))
  opens_so w place (node ∷ nodes) free (suc k) =
      subst (λ (n : ℕ). Opens (slice_get nodes k) (at site_key n (opens_each policy t w place (node ∷ nodes)).sites)) (omega arith)
      (opens_so (with_opened policy t w place node) (suc place) nodes
      (λ number low. at_more number w.sites (opened_site policy t (record { 0 = place }) node w.numbers) (λ same. omega (arith, low, same)) ∙ free number (omega (arith, low))) k)

  by_number : (number : ℕ) → Opens (node_at t (record { 0 = number })) (at site_key number (opened policy t).sites)
  by_number zero = subst (Opens None) (sym (before_all empty_world 1 t.nodes zero (omega arith))) (refl, refl)
  by_number (suc k) = subst (λ (n : ℕ). Opens (slice_get t.nodes k) (at site_key n (opened policy t).sites)) (omega arith)
      (opens_so empty_world 1 t.nodes (λ number low. refl) k)

  pub opening_so : AreSo t (λ node. 0) (λ node. []) (record (opened policy t) { notes = record (opened policy t).notes { records = [] } })
  opening_so node = by_number node.0
