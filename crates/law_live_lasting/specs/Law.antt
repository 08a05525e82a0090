-- A network in peace at whose desks nothing stands stays so, beat by beat

use Rattle.std.specs.Prelude.{◌≡◌, true, List, [], ◌∷◌, ◌++◌, Some}
use Rattle.world_model.specs.Words.{NodeId, Policy, Linked, standing_at, Topology, World, Site, site_at, is_empty, next, IsNode, IsRun, past_of, IsTame}
use Rattle.world_model.specs.network_model.declared.event.Event.{Event}
use Rattle.world_model.specs.network_model.declared.event.Event.TheVariants.{Carry}
use Rattle.live_model.specs.Beats.{Beat, settling, settled}
use Rattle.law_live_calm_nodes.specs.law_run_facts.ordered_lists.Ordered.{Every}
use Rattle.law_live_calm_nodes.specs.law_run_facts.law_world_views.Fronts.{HasAddresses}
use Rattle.law_live_calm_nodes.specs.law_live_nodes.Law.{messages_of}
use Rattle.law_live_calm_nodes.specs.law_live_links.Law.{MayTick}
use Rattle.law_live_calm_nodes.specs.law_live_ports.Law.{MayJoinAll}
use Rattle.law_live_calm_nodes.specs.law_live_worlds.Law.{end_of}
use Rattle.law_live_calm_nodes.specs.law_live_hearing.Law.{world_at, acting}
use Rattle.law_live_calm_nodes.specs.law_live_orders.Slots.{IsUnlost}
use Rattle.law_live_calm_nodes.specs.law_live_control_links.Law.{IsUnspentAt, SwitchListens}
use Rattle.law_live_calm_nodes.specs.law_live_going.Law.{IsWritten}
use Rattle.law_live_calm_nodes.specs.Nodes.{AtEach, Throughout}
use Rattle.law_live_calm_nodes.specs.Networks.{IsNetworkInPeace, ComesInPeace, IsBeatOfPeace, behind_all}

-- *A lasting peace*: the network is in peace, nothing that a controller asked stands at its desk, and each switch has heard its
-- controller lately
pub record IsLastingPeace (topology : Topology) (w : World) : Type 0 where
  pub peace : IsNetworkInPeace topology w
  pub nothing_stands : (node : NodeId) → IsNode topology node → standing_at w node ≡ []
  pub heard : (node : NodeId) → IsNode topology node → SwitchListens w node

-- *A node has room* for the next beat: transaction numbers are left for joins; and of each port the labels are joined or in use, numbers
-- are left, and what it says can be written
pub record HasRoom (w : World) (site : Site) : Type 0 where
  pub may_join : MayJoinAll (acting w site)
  pub ports : Every (λ (linked : Linked). MayTick (end_of linked []) × Every IsWritten (messages_of linked)) site.controller.ports

-- *Nothing is lost* in an event: the ledger has no more entries behind it, and none of the cell that is carried
abbrev pub LosesNothing : Topology → World → Event → Type 0
LosesNothing topology w (Carry place) = ((next topology w (Carry place)).notes.entries ≡ w.notes.entries) × IsUnlost topology w place
LosesNothing topology w event = (next topology w event).notes.entries ≡ w.notes.entries

-- *A lasting beat*, in a run before the first frame that was forged or passes by chance: each node has room as it begins; nothing is
-- lost, each carry is in peace, and no transaction numbers are spent; in the end no queue has a cell
pub record IsLastingBeat (policy : Policy) (topology : Topology) (before : List Event) (beat : Beat) : Type 0 where
  pub run : IsRun policy topology (before ++ settling (world_at policy topology before) beat)
  pub addresses : HasAddresses topology
  pub tame : IsTame (past_of policy topology (before ++ settling (world_at policy topology before) beat)).records
  pub room : (node : NodeId) (site : Site) → site_at (world_at policy topology before) node ≡ Some site → HasRoom (world_at policy topology before) site
  pub unlost : AtEach topology (world_at policy topology before) beat (LosesNothing topology)
  pub carries : AtEach topology (world_at policy topology before) beat (ComesInPeace topology)
  pub unspent : Throughout topology (world_at policy topology before) beat (λ v. (node : NodeId) → IsUnspentAt v node)
  pub settles : is_empty (settled topology (world_at policy topology before) beat) ≡ true

-- *Such a beat is one of peace*
abbrev pub LastingBeatsAreOfPeace : Type 0
LastingBeatsAreOfPeace = (policy : Policy) (topology : Topology) (before : List Event) (beat : Beat) → IsLastingPeace topology (world_at policy topology before)
    → IsLastingBeat policy topology before beat → IsBeatOfPeace policy topology before beat

-- *and what was asked in it* is answered in its end
abbrev pub DesksAreEmptied : Type 0
DesksAreEmptied = (policy : Policy) (topology : Topology) (before : List Event) (beat : Beat) → IsLastingPeace topology (world_at policy topology before)
    → IsLastingBeat policy topology before beat → (node : NodeId) → IsNode topology node → standing_at (settled topology (world_at policy topology before) beat) node ≡ []

-- *So it goes on*, beat by beat
abbrev pub AreLastingBeats : Policy → Topology → (before : List Event) → List Beat → Type 0
AreLastingBeats policy topology before [] = Unit {0}
AreLastingBeats policy topology before (beat ∷ beats) =
    IsLastingBeat policy topology before beat × AreLastingBeats policy topology (before ++ settling (world_at policy topology before) beat) beats

abbrev pub LastingPeaceLasts : Type 0
LastingPeaceLasts = (policy : Policy) (topology : Topology) (before : List Event) (beats : List Beat) → IsLastingPeace topology (world_at policy topology before)
    → AreLastingBeats policy topology before beats → IsLastingPeace topology (world_at policy topology (behind_all policy topology before beats))
