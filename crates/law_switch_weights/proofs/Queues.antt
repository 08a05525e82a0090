-- what the queues of a switch weigh where cells join one, or its first cell leaves

use Rattle.std.proofs.Common.{◌≡◌, ℕ, zero, suc, ◌≤◌, ◌+◌, List, [], ◌∷◌, ◌++◌, ap, arith}
use Rattle.std.specs.Prelude.{slice_set, slice_index_or}
use Rattle.world_model.specs.Words.{NodeId, Place, Cell}
use Rattle.law_frame_weights.specs.claims_model.Costs.{total_weight}
use Rattle.law_frame_weights.specs.claims_model.Weights.{port_place, queues_weight}
use Rattle.law_frame_weights.proofs.law_port_weights.Sums.{total_join}

module _ (weigh : Place → Cell → ℕ) (node : NodeId) where
  pub joins_queue : (queues : List (List Cell)) (first port : ℕ) (cells : List Cell)
      → queues_weight weigh node first (slice_set queues port (slice_index_or queues port [] ++ cells)) ≤ queues_weight weigh node first queues + total_weight (weigh (port_place node (first + port))) cells
  joins_queue [] first port cells = omega arith
  joins_queue (q ∷ queues) first zero cells = (let place = ap (λ n. total_weight (weigh (port_place node n)) cells) (next first) in omega (arith, total_join (weigh (port_place node first)) q cells, place))
    where
      next : (n : ℕ) → n + 0 ≡ n
      next n = omega arith
  joins_queue (q ∷ queues) first (suc port) cells = (let place = ap (λ n. total_weight (weigh (port_place node n)) cells) (next first port) in omega (arith, joins_queue queues (suc first) port cells, place))
    where
      next : (n p : ℕ) → suc n + p ≡ n + suc p
      next n p = omega arith

  pub leaves_queue : (queues : List (List Cell)) (first port : ℕ) (cell : Cell) (cells : List Cell) → slice_index_or queues port [] ≡ cell ∷ cells
      → queues_weight weigh node first (slice_set queues port cells) + weigh (port_place node (first + port)) cell ≤ queues_weight weigh node first queues
  leaves_queue [] first port cell cells e = absurd (cc e)
  leaves_queue (q ∷ queues) first zero cell cells e = (let place = ap (λ n. weigh (port_place node n) cell) (next first) in let sum = ap (total_weight (weigh (port_place node first))) e in omega (arith, place, sum))
    where
      next : (n : ℕ) → n + 0 ≡ n
      next n = omega arith
  leaves_queue (q ∷ queues) first (suc port) cell cells e = (let place = ap (λ n. weigh (port_place node n) cell) (next first port) in omega (arith, leaves_queue queues (suc first) port cell cells e, place))
    where
      next : (n p : ℕ) → suc n + p ≡ n + suc p
      next n p = omega arith
