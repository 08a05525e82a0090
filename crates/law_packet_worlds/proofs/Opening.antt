-- at the opening there is no cell, no frame and no record

use Rattle.std.proofs.Common.{◌≡◌, ℕ, suc, List, [], ◌∷◌, ◌++◌, length, Option, None, Some, refl, ◌∙◌, ap, arith, replicate, slice_index_or, sum_by, count_by}
use Rattle.std.specs.Prelude.{Contains}
use Rattle.std.specs.Option.{option_map_or}
use Rattle.std.proofs.lemmas.List.Sums.{sum_by-cons}
use Rattle.std.proofs.lemmas.List.Concat.{flat_map-cons}
use Rattle.law_arrival_views.specs.world_model.Words.{Place, Down, Up, Out, Cell, Journal, payload_of, Policy, is_fate_of, Topology, Node, World, Site, site_key, site_at, opened_site, opens_each, with_opened, empty_world, place_node, queue_in, queue_at, places, past_of, fates_of}
use Rattle.law_arrival_views.specs.ordered_lists.Ordered.{Every}
use Rattle.law_arrival_views.proofs.ordered_lists.Every.{every_join}
use Rattle.law_packet_worlds.proofs.Lists.{each_replicate}
use Rattle.law_arrival_views.proofs.law_port_facts.Keyed.{at_every}
use Rattle.law_arrival_views.specs.world_model.World.{opened}
use Rattle.law_run_facts.specs.law_world_views.Marks.{ends_in, last_cells}
use Rattle.law_packet_worlds.specs.Law.{PacketsBegin}
use Rattle.law_packet_worlds.proofs.Bound.{got_within}
use Rattle.law_packet_worlds.proofs.Fated.{opened_notes}

-- a site where no cell waits
pub record IsIdle (site : Site) : Type 0 where
  pub queue : site.controller.queue ≡ []
  pub queues : site.switch.crossbar.queues ≡ replicate 9 []

idle_each : (policy : Policy) (topology : Topology) (w : World) (place : ℕ) (nodes : List Node) → Every IsIdle w.sites → Every IsIdle (opens_each policy topology w place nodes).sites
idle_each policy topology w place [] all = all
idle_each policy topology w place (node ∷ nodes) all =
    let site : Site = opened_site policy topology (record { 0 = place }) node w.numbers in
    idle_each policy topology (with_opened policy topology w place node) (suc place) nodes
    (every_join IsIdle w.sites (site ∷ []) all (record { queue = refl; queues = refl }, tt))

sent_each : (policy : Policy) (topology : Topology) (w : World) (place : ℕ) (nodes : List Node) → (opens_each policy topology w place nodes).sent ≡ w.sent
sent_each policy topology w place [] = refl
sent_each policy topology w place (node ∷ nodes) = sent_each policy topology (with_opened policy topology w place node) (suc place) nodes

none_at : (port : ℕ) → ◌≡◌ {A = List Cell} (slice_index_or (replicate 9 []) port []) []
none_at port = each_replicate (λ (cells : List Cell). cells ≡ []) 9 [] [] refl refl port

idle_queue : (site : Site) (place : Place) → IsIdle site → queue_in site place ≡ []
idle_queue site (Down n) idle = idle.queue
idle_queue site (Up n) idle = ap (λ (qs : List (List Cell)). slice_index_or qs 0 []) idle.queues
idle_queue site (Out n p) idle = ap (λ (qs : List (List Cell)). slice_index_or qs p.0 []) idle.queues ∙ none_at p.0

pub no_cells : (policy : Policy) (topology : Topology) (place : Place) → queue_at (opened policy topology) place ≡ []
no_cells policy topology place = by (site_at (opened policy topology) (place_node place)) refl
  where
    by : (o : Option Site) → site_at (opened policy topology) (place_node place) ≡ o → option_map_or (λ site. queue_in site place) o [] ≡ []
    by None e = refl
    by (Some site) e = idle_queue site place (at_every site_key IsIdle (place_node place).0 (opened policy topology).sites site (idle_each policy topology empty_world 1 topology.nodes tt) e)

none_sum : (w : World) (k : ℕ) (ps : List Place) → ((place : Place) → queue_at w place ≡ []) → sum_by (λ place. ends_in k (queue_at w place)) ps ≡ 0
none_sum w k [] none = refl
none_sum w k (p ∷ ps) none =
    let here : ends_in k (queue_at w p) ≡ 0 = ap (ends_in k) (none p) in
    omega (arith, sum_by-cons (λ place. ends_in k (queue_at w place)) p ps, here, none_sum w k ps none)

not_there : {A : Type 0} (xs : List A) (x : A) → xs ≡ [] → Contains xs x → ⊥
not_there xs x e c = omega (arith, c.1, ap (λ ys. length ys) e)

no_last : (policy : Policy) (topology : Topology) (k : ℕ) → last_cells (opened policy topology) k ≡ 0
no_last policy topology k = none_sum (opened policy topology) k (places (opened policy topology)) (no_cells policy topology)

no_fates : (policy : Policy) (topology : Topology) (k : ℕ) → fates_of (past_of policy topology []) k ≡ 0
no_fates policy topology k =
    ap (count_by (is_fate_of k)) (flat_map-cons (λ (w : World). w.notes.records) (opened policy topology) [])
    ∙ ap (λ (n : Journal). count_by (is_fate_of k) (n.records ++ [])) (opened_notes policy topology)

pub packets_begin : PacketsBegin
packets_begin policy topology is addresses = record {
  meanings = λ place cell there c. absurd (not_there (queue_at (opened policy topology) place) cell (no_cells policy topology place) c);
  packets = record {
    once = λ k some. omega (arith, no_last policy topology k, no_fates policy topology k);
    kept = λ k was free. absurd (omega (arith, got_within [] was.place was.sent was.is_sent));
    unsent = λ k i above. ap (λ (n : Journal). payload_of n.frames (record { packet = k; frame = i })) (opened_notes policy topology);
    later = λ k above. no_last policy topology k;
    true_fates = record {
      delivered = λ at x node number packet got c. absurd (cc got);
      dropped = λ at x node number cause got c. absurd (cc got);
    };
  };
  channels = λ place cell there c. absurd (not_there (queue_at (opened policy topology) place) cell (no_cells policy topology place) c);
}
