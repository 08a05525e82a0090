-- as a network is opened, no queue has a cell

use Rattle.std.proofs.Common.{◌≡◌, ℕ, zero, suc, ◌==◌, ◌&&◌, true, List, [], ◌∷◌, length, replicate, Option, None, Some, refl, ap, ◌∙◌}
use Rattle.std.specs.Prelude.{slice_index_or}
use Rattle.std.specs.Option.{option_map_or}
use Rattle.std.specs.List.{list_all}
use Rattle.world_model.specs.Words.{Place, Down, Up, Out, Cell, Policy, Topology, World, Site, site_at, site_key, queue_at, queue_in, places, is_empty, with_opened, opens_each, empty_world}
use Rattle.world_model.specs.World.{opened, opened_site}
use Rattle.world_model.specs.Places.{place_node}
use Rattle.world_model.specs.Topology.{Node}
use Rattle.law_link_parties.specs.law_run_facts.ordered_lists.Ordered.{Every}
use Rattle.law_link_parties.proofs.law_run_facts.ordered_lists.Every.{every_join}
use Rattle.law_link_parties.proofs.law_run_facts.law_port_facts.Keyed.{at_every}

record HasEmptyQueues (site : Site) : Type 0 where
  down : site.controller.queue ≡ []
  out : site.switch.crossbar.queues ≡ replicate 9 []

abbrev no_cells : List Cell
no_cells = []

nothing_there : (n k : ℕ) → slice_index_or (replicate n no_cells) k [] ≡ []
nothing_there zero k = refl
nothing_there (suc n) zero = refl
nothing_there (suc n) (suc k) = nothing_there n k

each_empty : (policy : Policy) (topology : Topology) (nodes : List Node) (w : World) (place : ℕ) → Every HasEmptyQueues w.sites → Every HasEmptyQueues (opens_each policy topology w place nodes).sites
each_empty policy topology [] w place empty = empty
each_empty policy topology (node ∷ nodes) w place empty = each_empty policy topology nodes (with_opened policy topology w place node) (suc place)
    (every_join HasEmptyQueues w.sites (opened_site policy topology (record { 0 = place }) node w.numbers ∷ []) empty (record { down = refl; out = refl }, tt))

in_site : (site : Site) (place : Place) → HasEmptyQueues site → queue_in site place ≡ []
in_site site (Down node) empty = empty.down
in_site site (Up node) empty = ap (λ (queues : List (List Cell)). slice_index_or queues 0 []) empty.out
in_site site (Out node port) empty = ap (λ (queues : List (List Cell)). slice_index_or queues port.0 []) empty.out ∙ nothing_there 9 port.0

module _ (policy : Policy) (topology : Topology) where
  queue_empty : (place : Place) → queue_at (opened policy topology) place ≡ []
  queue_empty place = by (site_at (opened policy topology) (place_node place)) refl
    where
      by : (o : Option Site) → site_at (opened policy topology) (place_node place) ≡ o → option_map_or (λ (site : Site). queue_in site place) o [] ≡ []
      by None e = refl
      by (Some site) e = in_site site place (at_every site_key HasEmptyQueues (place_node place).0 (opened policy topology).sites site (each_empty policy topology topology.nodes empty_world 1 tt) e)

  all_empty : (ps : List Place) → list_all (λ place. length (queue_at (opened policy topology) place) == 0) ps ≡ true
  all_empty [] = refl
  all_empty (place ∷ ps) = ap (λ (q : List Cell). (length q == 0) && list_all (λ p. length (queue_at (opened policy topology) p) == 0) ps) (queue_empty place) ∙ all_empty ps

  pub opened_empty : is_empty (opened policy topology) ≡ true
  opened_empty = all_empty (places (opened policy topology))
