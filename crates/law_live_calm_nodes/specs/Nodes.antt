-- A node that is at peace as a beat begins is at peace again behind it

use Rattle.std.specs.Prelude.{◌≡◌, true, List, [], ◌∷◌, ◌++◌, Some}
use Rattle.world_model.specs.Words.{NodeId, PortNo, Policy, is_linked, Topology, World, Site, site_at, is_empty, IsShaped, next, world_after, IsNode, IsRun, past_of, IsTame}
use Rattle.world_model.specs.network_model.declared.link.LinkEnd.{LinkEnd}
use Rattle.world_model.specs.network_model.declared.event.Event.{Event}
use Rattle.world_model.specs.network_model.declared.event.Event.TheVariants.{Carry}
use Rattle.live_model.specs.Beats.{Beat, settling, settled}
use Rattle.law_live_peace.specs.law_run_facts.law_world_views.Fronts.{HasAddresses}
use Rattle.law_live_peace.specs.law_live_links.Law.{MayTick}
use Rattle.law_live_ports.specs.Law.{MayJoinAll}
use Rattle.law_live_peace.specs.law_live_worlds.Law.{end_of, AgreeIn, IsCalm}
use Rattle.law_live_peace.specs.law_live_hearing.Law.{world_at, acting}
use Rattle.law_live_peace.specs.law_live_orders.Slots.{IsUnlost}
use Rattle.law_live_peace.specs.law_live_control_links.Law.{IsCalmLink, IsUnspentAt, ControllerListens, SwitchListens}

-- *A port at rest* agrees with the other end of its link; each label that it gives is joined or in use, and numbers are left for
-- its REDIRECTs
pub record IsPortAtRest (w : World) (one : LinkEnd) : Type 0 where
  pub far : LinkEnd
  pub agree : AgreeIn w one far [] []
  pub may_tick : MayTick (end_of agree.linked [])

-- *A node at rest* has met its switch, and nothing that it asked stands; its ports are at rest, those of the links that it has, and
-- transaction numbers are left for joins
pub record IsNodeAtRest (topology : Topology) (w : World) (node : NodeId) : Type 0 where
  pub link : IsCalmLink w node
  pub nothing_asked : link.site.controller.desk.standing ≡ []
  pub ports : (port : PortNo) → is_linked topology node port ≡ true → IsPortAtRest w (record { node = node; port = port })
  pub may_join : MayJoinAll (acting w link.site)

-- so it is at peace, in a run, where it has heard its switch lately
abbrev pub NodesAtRestAreCalm : Type 0
NodesAtRestAreCalm = (policy : Policy) (topology : Topology) (events : List Event) (node : NodeId) → HasAddresses topology → IsRun policy topology events
    → IsNodeAtRest topology (world_at policy topology events) node → ControllerListens (world_at policy topology events) node
    → IsCalm (world_at policy topology events) node

-- *Nothing is lost* in an event: the ledger has no entry of the cell that is carried, or else no more entries, behind it
abbrev pub LosesNothing : Topology → World → Event → Type 0
LosesNothing topology w (Carry place) = IsUnlost topology w place
LosesNothing topology w event = (next topology w event).notes.entries ≡ w.notes.entries

-- *Throughout* the ticks and carries of a beat: in the world as each comes, or behind each front of them
abbrev pub AtEach : Topology → World → Beat → (World → Event → Type 0) → Type 0
AtEach topology w beat P = (front rest : List Event) (event : Event) → settling w beat ≡ front ++ event ∷ rest → P (world_after topology w front) event

abbrev pub Throughout : Topology → World → Beat → (World → Type 0) → Type 0
Throughout topology w beat P = (front rest : List Event) → settling w beat ≡ front ++ rest → P (world_after topology w front)

-- *A node in a beat* of a run before the first frame that was forged or passes by chance: nothing is lost; the node and its switch
-- have met throughout, its transaction numbers aren't spent, and its switch has heard it lately as the beat begins; in the end no
-- queue has a cell
pub record IsNodeInBeat (policy : Policy) (topology : Topology) (before : List Event) (node : NodeId) (beat : Beat) : Type 0 where
  pub run : IsRun policy topology (before ++ settling (world_at policy topology before) beat)
  pub addresses : HasAddresses topology
  pub tame : IsTame (past_of policy topology (before ++ settling (world_at policy topology before) beat)).records
  pub shaped : IsShaped (world_at policy topology before)
  pub within : IsNode topology node
  pub unlost : AtEach topology (world_at policy topology before) beat (LosesNothing topology)
  pub link : Throughout topology (world_at policy topology before) beat (λ v. IsCalmLink v node)
  pub unspent : Throughout topology (world_at policy topology before) beat (λ v. IsUnspentAt v node)
  pub listens : SwitchListens (world_at policy topology before) node
  pub settles : is_empty (settled topology (world_at policy topology before) beat) ≡ true

-- *It hears its switch* in the beat: the ACK that the switch says in its tick
abbrev pub NodesHearTheirSwitches : Type 0
NodesHearTheirSwitches = (policy : Policy) (topology : Topology) (before : List Event) (node : NodeId) (beat : Beat) (site : Site)
    → IsNodeInBeat policy topology before node beat → site_at (settled topology (world_at policy topology before) beat) node ≡ Some site
    → site.controller.adjacency.silence ≡ 0

-- *So it is at peace* behind it, where it is at rest then
abbrev pub NodesRestInPeace : Type 0
NodesRestInPeace = (policy : Policy) (topology : Topology) (before : List Event) (node : NodeId) (beat : Beat)
    → IsNodeInBeat policy topology before node beat → IsNodeAtRest topology (settled topology (world_at policy topology before) beat) node
    → IsCalm (settled topology (world_at policy topology before) beat) node
