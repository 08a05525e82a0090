-- What is so of a network in a run of a topology

use Rattle.std.specs.Prelude.{◌≡◌, ◌*◌, ◌^◌, ◌≤◌, length, map}
use Rattle.std.specs.List.{sum_by}
use Rattle.world_model.specs.Controller.{Controller}
use Rattle.world_model.specs.Places.{places}
use Rattle.world_model.specs.Topology.{Topology}
use Rattle.world_model.specs.World.{redirects_at, switched_count}
use Rattle.law_world_pace.specs.Running.{HavePeers, IsRunning}
use Rattle.world.specs.declared.world.World.{World as Network}
use Rattle.world.specs.Network.{no_notes, peers_in, sites_of, world_of}
use Rattle.world.specs.Waiting.{AreMarked, HaveStarts}

-- *A network*: its opening says so, and each event that it stepped
pub record Runs {C : Type 0} (seen : C → Controller) (topology : Topology) (n : Network C) : Type 0 where
  pub world : IsRunning topology (world_of seen n no_notes)
  pub peers : HavePeers topology 1 (map peers_in n.sites.items)
  pub round : n.round.items ≡ places (world_of seen n no_notes)
  pub starts : HaveStarts n.round.items n.starts (length n.sites.items)
  pub marked : AreMarked seen n
  pub redirects : n.redirects ≡ sum_by redirects_at (sites_of seen n.sites.items)
  pub switched : n.switched ≡ sum_by switched_count (sites_of seen n.sites.items)
  pub few_redirects : n.redirects ≤ 2 ^ 64 * n.events
  pub few_switched : n.switched ≤ 2 ^ 64 * n.events
