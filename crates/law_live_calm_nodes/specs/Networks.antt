-- A network in peace stays so, beat by beat

use Rattle.std.specs.Prelude.{◌≡◌, ◌<◌, true, List, [], ◌∷◌, ◌++◌, Some}
use Rattle.world_model.specs.Words.{NodeId, Place, Policy, Linked, Topology, World, Site, site_at, is_empty, IsShaped, IsNode, IsRun, past_of, IsTame}
use Rattle.world_model.specs.adjacency_table.Table.{silence_limit}
use Rattle.world_model.specs.Topology.{peer_of}
use Rattle.world_model.specs.network_model.declared.link.LinkEnd.{LinkEnd}
use Rattle.world_model.specs.network_model.declared.event.Event.{Event}
use Rattle.world_model.specs.network_model.declared.event.Event.TheVariants.{Carry}
use Rattle.live_model.specs.Beats.{Beat, settling, settled}
use Rattle.law_live_peace.specs.law_run_facts.ordered_lists.Ordered.{Every}
use Rattle.law_live_peace.specs.law_run_facts.law_world_views.Fronts.{HasAddresses}
use Rattle.law_live_peace.specs.law_live_nodes.Law.{messages_of}
use Rattle.law_live_peace.specs.law_live_links.Law.{MayTick}
use Rattle.law_live_ports.specs.Law.{MayJoinAll}
use Rattle.law_live_peace.specs.law_live_worlds.Law.{end_of, AgreeIn}
use Rattle.law_live_peace.specs.law_live_hearing.Law.{world_at, acting}
use Rattle.law_live_peace.specs.law_live_orders.Law.{IsOpenWay}
use Rattle.law_live_peace.specs.law_live_control_links.Law.{IsCalmLink, IsUnspentAt, CarriesOutNext, ControllerListens}
use Rattle.law_live_peace.specs.law_live_passed_by.Law.{BringsNone, IsForOthersAt}
use Rattle.law_live_peace.specs.law_live_going.Law.{IsWritten}
use Rattle.law_live_peace.specs.law_live_ways.Links.{ComesNone}
use Rattle.law_live_peace.specs.Beats.{IsBeatInPeace}
use Rattle.law_live_calm_nodes.specs.Ports.{IsPortUp}
use Rattle.law_live_calm_nodes.specs.Nodes.{AtEach, Throughout, LosesNothing}

-- *A node may go on* to the next beat: nothing that it asked stands, and transaction numbers are left for joins; its switch has heard
-- it lately; and of each port the labels are joined or in use, numbers are left, and what it says can be written
pub record MayGoOn (w : World) (site : Site) : Type 0 where
  pub nothing_asked : site.controller.desk.standing ≡ []
  pub may_join : MayJoinAll (acting w site)
  pub heard : site.switch.adjacency.silence < silence_limit
  pub ports : Every (λ (linked : Linked). MayTick (end_of linked []) × Every IsWritten (messages_of linked)) site.controller.ports

abbrev pub AllMayGoOn : World → Type 0
AllMayGoOn w = (node : NodeId) (site : Site) → site_at w node ≡ Some site → MayGoOn w site

-- *A link in peace*: its ends agree at rest, and the way from the one to the other is open
pub record IsLinkInPeace (topology : Topology) (w : World) (one far : LinkEnd) : Type 0 where
  pub agree : AgreeIn w one far [] []
  pub is_open : IsOpenWay topology w one far

-- *A network in peace*: no queue has a cell; each node has met its switch, and has heard it lately; and each link is in peace
pub record IsNetworkInPeace (topology : Topology) (w : World) : Type 0 where
  pub empty : is_empty w ≡ true
  pub shaped : IsShaped w
  pub met : (node : NodeId) → IsNode topology node → IsCalmLink w node
  pub heard : (node : NodeId) → ControllerListens w node
  pub links : (one far : LinkEnd) → peer_of topology one.node one.port ≡ Some far → IsLinkInPeace topology w one far

-- *A carry in peace* brings the controller at each end of a link, but for messages on the default channel of its port, what is for
-- others; and each switch carries out what it is asked, where that comes next
pub record IsCarryOfPeace (topology : Topology) (w : World) (place : Place) : Type 0 where
  pub others : (one far : LinkEnd) → peer_of topology one.node one.port ≡ Some far → BringsNone w one place → IsForOthersAt w one place
  pub carried_out : (node : NodeId) → CarriesOutNext w node

abbrev pub ComesInPeace : Topology → World → Event → Type 0
ComesInPeace topology w (Carry place) = IsCarryOfPeace topology w place
ComesInPeace topology w event = Unit {0}

-- *A beat of peace*, in a run before the first frame that was forged or passes by chance: all nodes may go on as it begins; nothing is
-- lost, each carry is in peace, and no transaction numbers are spent; in the end no queue has a cell
pub record IsBeatOfPeace (policy : Policy) (topology : Topology) (before : List Event) (beat : Beat) : Type 0 where
  pub run : IsRun policy topology (before ++ settling (world_at policy topology before) beat)
  pub addresses : HasAddresses topology
  pub tame : IsTame (past_of policy topology (before ++ settling (world_at policy topology before) beat)).records
  pub may : AllMayGoOn (world_at policy topology before)
  pub unlost : AtEach topology (world_at policy topology before) beat (LosesNothing topology)
  pub carries : AtEach topology (world_at policy topology before) beat (ComesInPeace topology)
  pub unspent : Throughout topology (world_at policy topology before) beat (λ v. (node : NodeId) → IsUnspentAt v node)
  pub settles : is_empty (settled topology (world_at policy topology before) beat) ≡ true

-- *Throughout it* each node and its switch have met, each port of a link is up, and no Delete All is on its way
pub record StaysUp (topology : Topology) (v : World) : Type 0 where
  pub met : (node : NodeId) → IsNode topology node → IsCalmLink v node
  pub up : (one far : LinkEnd) → peer_of topology one.node one.port ≡ Some far → IsPortUp v one
  pub none : (one far : LinkEnd) → peer_of topology one.node one.port ≡ Some far → ComesNone v one.node

abbrev pub NetworksStayUp : Type 0
NetworksStayUp = (policy : Policy) (topology : Topology) (before : List Event) (beat : Beat) → IsNetworkInPeace topology (world_at policy topology before)
    → IsBeatOfPeace policy topology before beat → Throughout topology (world_at policy topology before) beat (StaysUp topology)

-- *and the network is in peace* behind it
abbrev pub NetworksRestInPeace : Type 0
NetworksRestInPeace = (policy : Policy) (topology : Topology) (before : List Event) (beat : Beat) → IsNetworkInPeace topology (world_at policy topology before)
    → IsBeatOfPeace policy topology before beat → IsNetworkInPeace topology (settled topology (world_at policy topology before) beat)

-- *Such a beat is in peace for each link*: both nodes are at peace as it begins, and no Delete All comes to either switch
abbrev pub BeatsOfPeaceAreInPeace : Type 0
BeatsOfPeaceAreInPeace = (policy : Policy) (topology : Topology) (before : List Event) (beat : Beat) (p : IsNetworkInPeace topology (world_at policy topology before))
    → IsBeatOfPeace policy topology before beat → (one far : LinkEnd) (linked : peer_of topology one.node one.port ≡ Some far)
    → IsBeatInPeace policy topology before one far (p.links one far linked).agree beat

-- *So it goes on*, beat by beat
abbrev pub AreBeatsOfPeace : Policy → Topology → (before : List Event) → List Beat → Type 0
AreBeatsOfPeace policy topology before [] = Unit {0}
AreBeatsOfPeace policy topology before (beat ∷ beats) =
    IsBeatOfPeace policy topology before beat × AreBeatsOfPeace policy topology (before ++ settling (world_at policy topology before) beat) beats

abbrev pub behind_all : Policy → Topology → (before : List Event) → List Beat → List Event
behind_all policy topology before [] = before
behind_all policy topology before (beat ∷ beats) = behind_all policy topology (before ++ settling (world_at policy topology before) beat) beats

abbrev pub PeaceLasts : Type 0
PeaceLasts = (policy : Policy) (topology : Topology) (before : List Event) (beats : List Beat) → IsNetworkInPeace topology (world_at policy topology before)
    → AreBeatsOfPeace policy topology before beats → IsNetworkInPeace topology (world_at policy topology (behind_all policy topology before beats))
