-- What an event of a network keeps of the shapes of branches and requests

use Rattle.std.specs.Prelude.{◌≡◌, List, ◌∷◌, ◌++◌, Contains, Some}
use Rattle.law_causes.specs.world_model.Words.{Cell, Standing, Policy, Topology, IsTopology, World, Site, next, world_after, gsmp_to_switch, copy_under, IsTame}
use Rattle.law_world_views.specs.ordered_lists.Ordered.{Every}
use Rattle.law_world_views.specs.law_port_facts.Port.{IsShaped}
use Rattle.law_causes.specs.world_model.network_model.declared.event.Event.{Event}
use Rattle.law_causes.specs.world_model.World.{opened}
use Rattle.law_world_views.specs.Between as worlds
use Rattle.law_world_views.specs.Between.{EachSite, setups_of}
use Rattle.law_branch_shapes.specs.Shapes.{HasShapes}

-- *The shapes of a site*: of its branches, its ports and what stands at its desk
pub record HasOwnShapes (site : Site) : Type 0 where
  pub switch : HasShapes (setups_of site.controller) site.switch
  pub standing : Every (λ (s : Standing). IsShaped (setups_of site.controller) s.request) site.controller.desk.standing

-- from worlds of a run of which the shapes are so, requests on their way among them, each event leads to such in which no
-- frame passes by chance
abbrev pub EventsKeepShapes : Type 0
EventsKeepShapes = (policy : Policy) (topology : Topology) (events : List Event) (event : Event) → IsTopology topology
    → EachSite (world_after topology (opened policy topology) events) (worlds.HasShapes (world_after topology (opened policy topology) events))
    → IsTame (next topology (world_after topology (opened policy topology) events) event).notes.records
    → EachSite (next topology (world_after topology (opened policy topology) events) event) (λ node site. HasOwnShapes site)

-- *So all shapes are kept in every run* without chances, where those of requests on their way are so in each of its worlds
abbrev pub CopiesAreShaped : World → Type 0
CopiesAreShaped w = EachSite w (λ node site. (s : Standing) (cell : Cell) → Contains (gsmp_to_switch w node) cell
    → copy_under w.notes.frames cell.mark ≡ Some s → IsShaped (setups_of site.controller) s.request)

abbrev pub RunsKeepShapes : Type 0
RunsKeepShapes = (policy : Policy) (topology : Topology) (events : List Event) → IsTopology topology
    → ((before after : List Event) (event : Event) → events ≡ before ++ event ∷ after → IsTame (next topology (world_after topology (opened policy topology) before) event).notes.records)
    → ((before after : List Event) → events ≡ before ++ after → CopiesAreShaped (world_after topology (opened policy topology) before))
    → EachSite (world_after topology (opened policy topology) events) (worlds.HasShapes (world_after topology (opened policy topology) events))
