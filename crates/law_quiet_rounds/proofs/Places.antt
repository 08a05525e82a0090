-- the queues of a network are the same in each world of a run

use Rattle.std.proofs.Common.{◌≡◌, ℕ, zero, suc, ◌≤◌, ◌<◌, ◌+◌, Bool, true, false, List, [], ◌∷◌, ◌++◌, length, Some, refl, sym, ◌∙◌, ap, arith, if◌then◌else◌, map}
use Rattle.std.specs.Prelude.{nat_eq, flat_map}
use Rattle.std.proofs.lemmas.Bool.Decides.{nat_tests}
use Rattle.world_model.specs.Words.{NodeId, PortNo, Place, Down, Up, Out, at, Policy, Topology, IsNode, World, Site, site_key, places_of, places, AreShaped, past_of, IsRun}
use Rattle.law_packet_worlds.specs.ordered_lists.Ordered.{Every}
use Rattle.world_model.specs.network_model.declared.event.Event.{Event}
use Rattle.world_model.specs.Controller.{ports_of}
use Rattle.world_model.specs.Topology as topologies
use Rattle.world_model.specs.World.{opened}
use Rattle.law_packet_worlds.specs.law_world_views.Between.{EachSite}
use Rattle.law_packet_worlds.specs.law_world_views.Fronts.{HasAddresses}
use Rattle.law_packet_worlds.proofs.Nets.{world_net}
use Rattle.law_packet_worlds.specs.law_run_facts.Nodes.{IsNodeOfRun, HasSite}
use Rattle.law_packet_worlds.proofs.law_run_facts.Nodes.{runs_have_nodes}
use Rattle.law_packet_worlds.proofs.law_run_facts.Rooms.{runs_keep_nodes}
use Rattle.law_quiet_rounds.proofs.Sites.{all_found}

module _ (topology : Topology) where
  node_places : (node : NodeId) → List Place
  node_places node = Down node ∷ Up node ∷ map (λ (port : PortNo). Out node port) (topologies.linked_ports topology node)

  expected : (first count : ℕ) → List Place
  expected first zero = []
  expected first (suc count) = node_places (record { 0 = first }) ++ expected (suc first) count

  abbrev HasOwnPorts : Site → Type 0
  HasOwnPorts site = (ports_of site.controller ≡ topologies.linked_ports topology site.controller.node) × (site.controller.node.0 ≤ length topology.nodes)

  places_are : (first : ℕ) (sites : List Site) → AreShaped first sites → Every HasOwnPorts sites → flat_map places_of sites ≡ expected first (length sites)
  unfolding expected node_places
  places_are first [] shaped each = refl
  places_are first (site ∷ sites) shaped each =
      let node : site.controller.node ≡ record { 0 = first } = ap (λ (n : ℕ). let m : NodeId = record { 0 = n } in m) shaped.0.node in
      let own : places_of site ≡ node_places site.controller.node = ap (λ (ps : List PortNo). Down site.controller.node ∷ Up site.controller.node ∷ map (λ (port : PortNo). Out site.controller.node port) ps) each.0.0 in
      ap (λ (ps : List Place). ps ++ flat_map places_of sites) (own ∙ ap node_places node) ∙ ap (λ (ps : List Place). node_places (record { 0 = first }) ++ ps) (places_are (suc first) sites shaped.1 each.1)

  -- as many nodes as the topology has
  not_more : (first : ℕ) (sites : List Site) → AreShaped first sites → Every HasOwnPorts sites → first ≤ length topology.nodes + 1 → first + length sites ≤ length topology.nodes + 1
  not_more first [] shaped each le = omega (arith, le)
  not_more first (site ∷ sites) shaped each le = (let h = not_more (suc first) sites shaped.1 each.1 (omega (arith, shaped.0.node, each.0.1)) in omega (arith, h))

  found_below : (first n : ℕ) (sites : List Site) (site : Site) → AreShaped first sites → at site_key n sites ≡ Some site → n < first + length sites
  found_below first n [] site shaped e = absurd (cc e)
  found_below first n (z ∷ sites) site shaped e = by (nat_eq (site_key z) n) refl e (λ f. found_below (suc first) n sites site shaped.1 f)
    where
      by : (b : Bool) → nat_eq (site_key z) n ≡ b → (if b then Some z else at site_key n sites) ≡ Some site → (at site_key n sites ≡ Some site → n < suc first + length sites) → n < first + length (z ∷ sites)
      by true t e later = (let same : site_key z ≡ n = number (site_key z) n t in omega (arith, same, shaped.0.node))
        where
          number : (a b : ℕ) → nat_eq a b ≡ true → a ≡ b
          number a b t = grind (arith, nat_tests)
      by false t e later = (let h = later e in omega (arith, h))

  whole : (w : World) → AreShaped 1 w.sites → Every HasOwnPorts w.sites → ((node : NodeId) → IsNode topology node → HasSite w node) → length w.sites ≡ length topology.nodes
  whole w shaped each there = (let up = not_more 1 w.sites shaped each (omega arith) in let low = below (length topology.nodes) refl in omega (arith, up, low))
    where
      below : (n : ℕ) → n ≡ length topology.nodes → n ≤ length w.sites
      below zero e = omega arith
      below (suc n) e = (let s = there (record { 0 = suc n }) (omega arith, omega (arith, e)) in let h = found_below 1 (suc n) w.sites s.site shaped s.is in omega (arith, h))

every_known : (P Q : Site → Type 0) → ((s : Site) → P s → Q s) → (sites : List Site) → Every P sites → Every Q sites
every_known P Q to [] all = tt
every_known P Q to (s ∷ sites) all = (to s all.0, every_known P Q to sites all.1)

places_of_run : (policy : Policy) (topology : Topology) (events : List Event) → IsRun policy topology events → HasAddresses topology
    → places (past_of policy topology events).now ≡ expected topology 1 (length topology.nodes)
places_of_run policy topology events run addresses =
    let w : World = (past_of policy topology events).now in
    let nodes : EachSite w (IsNodeOfRun policy (past_of policy topology events)) = runs_have_nodes policy topology events addresses run in
    let there : (node : NodeId) → IsNode topology node → HasSite w node = runs_keep_nodes policy topology events run in
    let shaped : AreShaped 1 w.sites = (world_net policy topology events nodes there).shaped in
    let each : Every (HasOwnPorts topology) w.sites = every_known (λ (s : Site). at site_key (site_key s) w.sites ≡ Some s) (HasOwnPorts topology)
    (λ s found. (let n = (nodes s.controller.node s found).is_node in (n.ports, n.number.1))) w.sites (all_found w shaped) in
    places_are topology 1 w.sites shaped each ∙ ap (expected topology 1) (whole topology w shaped each there)

-- those of the opening
pub places_stay : (policy : Policy) (topology : Topology) (events : List Event) → IsRun policy topology events → HasAddresses topology
    → places (past_of policy topology events).now ≡ places (opened policy topology)
places_stay policy topology events run addresses =
    places_of_run policy topology events run addresses ∙ sym (places_of_run policy topology [] (record { topology_is = run.topology_is; each = λ before after event e. absurd (none before event after e) }) addresses)
  where
    none : (before : List Event) (event : Event) (after : List Event) → [] ≡ before ++ event ∷ after → ⊥
    none [] event after e = absurd (cc e)
    none (x ∷ before) event after e = absurd (cc e)
