-- Quiet calm beats that begin a run: they are in peace at each node; behind five of them nothing stands, and no port waits to be cleared; and
-- then they are in peace at each link

use Rattle.std.specs.Prelude.{◌≡◌, ◌≤◌, ◌<◌, List, [], ◌∷◌, ◌++◌, fold, length, Some}
use Rattle.world_model.specs.Words.{NodeId, Party, Policy, Topology, World, Site, site_at, IsNode}
use Rattle.world_model.specs.World.{opened}
use Rattle.world_model.specs.Topology.{peer_of}
use Rattle.world_model.specs.adjacency_table.Table.{silence_limit}
use Rattle.world_model.specs.network_model.declared.link.LinkEnd.{LinkEnd}
use Rattle.live_model.specs.Beats.{Beat, events_in, behind}
use Rattle.live_model.specs.Met.{HaveMet}
use Rattle.live_model.specs.Waking.{AreBeatsInPeace, events_of}
use Rattle.live_model.specs.Links.{AreLinkBeatsInPeace}
use Rattle.calm_model.specs.Calm.{AreCalmBeats}
use Rattle.law_live_begun.specs.Begun.{IsQuiet}
use Rattle.law_link_parties.specs.law_run_facts.ordered_lists.Ordered.{Every}
use Rattle.law_link_parties.specs.law_link_met.law_link_woken.law_link_nodes.Law.{StaysMet}
use Rattle.law_live_begun.specs.Worlds.{IsQuietRun}
use Rattle.law_live_begun.specs.Controllers.{IsClearedController}

-- *The beats that begin a run*
pub record BeginsSo (policy : Policy) (topology : Topology) (beats : List Beat) : Type 0 where
  pub run : IsQuietRun policy topology (events_of topology (opened policy topology) beats)
  pub calm : AreCalmBeats topology (opened policy topology) beats
  pub quiet : Every IsQuiet beats

abbrev pub world_behind : Policy → Topology → List Beat → World
world_behind policy topology beats = fold (behind topology) (opened policy topology) beats

-- *In peace* at each node
abbrev pub NodesBeginInPeace : Type 0
NodesBeginInPeace = (policy : Policy) (topology : Topology) (beats : List Beat) → BeginsSo policy topology beats → (node : NodeId) → IsNode topology node
    → AreBeatsInPeace topology (opened policy topology) node beats

-- *A node that is cleared*: its controller and its switch have met, and heard each other lately; nothing stands, and no port waits to be cleared
pub record IsClearedSite (site : Site) : Type 0 where
  pub met : HaveMet site.controller.adjacency site.switch.adjacency
  pub heard : site.controller.adjacency.silence < silence_limit
  pub switch_heard : site.switch.adjacency.silence < silence_limit
  pub nothing_stands : site.controller.desk.standing ≡ []
  pub cleared : IsClearedController site.controller

abbrev pub NodesAreCleared : Type 0
NodesAreCleared = (policy : Policy) (topology : Topology) (beats : List Beat) → BeginsSo policy topology beats → 5 ≤ length beats
    → (node : NodeId) (site : Site) → site_at (world_behind policy topology beats) node ≡ Some site → IsClearedSite site

-- *And they stay met* all along one beat more, as the same parties
pub record StaysUp (topology : Topology) (w : World) (node : NodeId) (beat : Beat) : Type 0 where
  pub one : Party
  pub other : Party
  pub stays : StaysMet topology w node one other (events_in w beat)

abbrev pub NodesStayUp : Type 0
NodesStayUp = (policy : Policy) (topology : Topology) (beats : List Beat) (beat : Beat) → BeginsSo policy topology (beats ++ beat ∷ []) → 4 ≤ length beats
    → (node : NodeId) → IsNode topology node → StaysUp topology (world_behind policy topology beats) node beat

-- *In peace at each link*, behind the first five
abbrev pub LinksGoOnInPeace : Type 0
LinksGoOnInPeace = (policy : Policy) (topology : Topology) (beats more : List Beat) → BeginsSo policy topology (beats ++ more) → 5 ≤ length beats
    → (one far : LinkEnd) → peer_of topology one.node one.port ≡ Some far → AreLinkBeatsInPeace topology (world_behind policy topology beats) one far more
