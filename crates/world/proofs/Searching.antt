-- a network is searched, node by node, for a queue that holds a cell

use Rattle.std.proofs.Common.{◌≡◌, ℕ, ◌+◌, ◌≤◌, length, max, slice_index_or, refl}
use Rattle.std.specs.Prelude.{◌<◌}
use Rattle.link_model.specs.Notes.{Journal}
use Rattle.world_model.specs.Controller.{Controller}
use Rattle.world_model.specs.Topology.{Topology}
use Rattle.world.specs.declared.node_set.NodeSet.{NodeSet}
use Rattle.world.specs.declared.world.World.{World as Network}
use Rattle.world.specs.Network.{world_of}
use Rattle.world.specs.NodeSet.{HasNoneIn, IsRemoved}
use Rattle.world.specs.Running.{Runs}
use Rattle.world.specs.Waiting.{AreMarked, IsEmptyIn}
use Rattle.world.proofs.Starts.{ArePassed, mark_taken, passed_next}

pub record IsSearching {C : Type 0} (seen : C → Controller) (t : Topology) (old n : Network C) (from node : ℕ) : Type 0 where
  pub same : (notes : Journal) → world_of seen n notes ≡ world_of seen old notes
  pub runs : Runs seen t n
  pub passed : ArePassed seen n from node

module _ {C : Type 0} (seen : C → Controller) (t : Topology) (old n : Network C) (from node next : ℕ) (h : IsSearching seen t old n from node) (none : HasNoneIn n.waiting node next)
    (within : next < length n.sites.items) (empty : IsEmptyIn seen n (max from (slice_index_or n.starts next 0)) (slice_index_or n.starts (next + 1) 0)) where
  -- the queues of the next node that is marked are empty
  pub searched : IsSearching seen t old n from (next + 1)
  searched = record { same = h.same; runs = h.runs; passed = passed_next seen n h.runs.starts h.runs.marked from node next h.passed none within empty }

  -- and it isn't marked any more
  pub unmarked : (set : NodeSet) → IsRemoved n.waiting set next → from ≤ slice_index_or n.starts next 0 → IsSearching seen t old (record n { waiting = set }) from (next + 1)
  unmarked set gone low =
      let marked : AreMarked seen (record n { waiting = set }) = mark_taken seen n h.runs.starts h.runs.marked from node next h.passed none within (record n { waiting = set }) refl refl gone low empty in
      record {
        same = h.same;
        runs = record {
          world = h.runs.world;
          peers = h.runs.peers;
          round = h.runs.round;
          starts = h.runs.starts;
          marked = marked;
          redirects = h.runs.redirects;
          switched = h.runs.switched;
          few_redirects = h.runs.few_redirects;
          few_switched = h.runs.few_switched;
        };
        passed = searched.passed;
      }
