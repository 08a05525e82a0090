-- A network in lasting peace whose nodes are mirrored: in each beat switches carry out what they are asked, so it stays so

use Rattle.std.specs.Prelude.{◌≡◌, true, List, [], ◌∷◌, ◌++◌, Some}
use Rattle.world_model.specs.Words.{NodeId, Policy, Topology, World, Site, site_at, is_empty, tick_of_all, world_after, IsNode, IsRun, past_of, IsTame}
use Rattle.world_model.specs.Topology.{peer_of}
use Rattle.world_model.specs.network_model.declared.link.LinkEnd.{LinkEnd}
use Rattle.world_model.specs.network_model.declared.event.Event.{Event}
use Rattle.world_model.specs.network_model.declared.event.Event.TheVariants.{Carry}
use Rattle.live_model.specs.Beats.{Beat, settling, settled}
use Rattle.law_live_joining_beats.specs.law_run_facts.law_world_views.Between.{setups_of}
use Rattle.law_live_joining_beats.specs.law_run_facts.law_world_views.Fronts.{HasAddresses}
use Rattle.law_live_joining_beats.specs.law_live_hearing.Law.{world_at, acting}
use Rattle.law_live_joining_beats.specs.law_live_control_links.Law.{IsUnspentAt, CarriesOutNext}
use Rattle.law_live_joining_beats.specs.law_live_passed_by.Law.{BringsNone, IsForOthersAt}
use Rattle.law_live_joining_beats.specs.law_live_answers.Law.{AsksJoinsAlone}
use Rattle.law_live_joining_beats.specs.law_live_calm_nodes.Nodes.{AtEach, Throughout}
use Rattle.law_live_joining_beats.specs.law_live_calm_nodes.Networks.{behind_all}
use Rattle.law_live_joining_beats.specs.law_live_mirrors.Fit.{IsKnown}
use Rattle.law_live_joining_beats.specs.law_live_mirrored_worlds.Way.{IsMirroredIn}
use Rattle.law_live_joining_beats.specs.law_live_lasting.Law.{IsLastingPeace, HasRoom, LosesNothing, IsLastingBeat}
use Rattle.law_live_joining_beats.specs.law_live_asking.Going.{IsGoing}

-- *A mirrored peace*: the network is in lasting peace, and each node is mirrored
pub record IsMirroredPeace (topology : Topology) (w : World) : Type 0 where
  pub lasting : IsLastingPeace topology w
  pub mirrored : (node : NodeId) → IsNode topology node → IsMirroredIn w node

-- *A node goes steadily*: its switch is as it knows it, and it asks for joins alone
pub record IsSteadyNode (w : World) (site : Site) : Type 0 where
  pub known : IsKnown (setups_of site.controller) site.controller.desk.rows site.switch
  pub joins : AsksJoinsAlone (acting w site)

-- *What a carry brings* the controller at an end of a link, but for messages on the default channel of its port, is for others
abbrev pub BringsForOthers : Topology → World → Event → Type 0
BringsForOthers topology w (Carry place) = (one far : LinkEnd) → peer_of topology one.node one.port ≡ Some far → BringsNone w one place → IsForOthersAt w one place
BringsForOthers topology w event = Unit {0}

-- *A mirrored beat*, in a run before the first frame that was forged or passes by chance: each node has room as it begins; nothing is
-- lost, what carries bring is for others, nodes go steadily, and no transaction numbers are spent; in the end no queue has a cell. That
-- switches carry out what they are asked isn't asked of it
pub record IsMirroredBeat (policy : Policy) (topology : Topology) (before : List Event) (beat : Beat) : Type 0 where
  pub run : IsRun policy topology (before ++ settling (world_at policy topology before) beat)
  pub addresses : HasAddresses topology
  pub tame : IsTame (past_of policy topology (before ++ settling (world_at policy topology before) beat)).records
  pub room : (node : NodeId) (site : Site) → site_at (world_at policy topology before) node ≡ Some site → HasRoom (world_at policy topology before) site
  pub unlost : AtEach topology (world_at policy topology before) beat (LosesNothing topology)
  pub others : AtEach topology (world_at policy topology before) beat (BringsForOthers topology)
  pub steady : Throughout topology (world_at policy topology before) beat (λ v. (node : NodeId) (site : Site) → site_at v node ≡ Some site → IsSteadyNode v site)
  pub unspent : Throughout topology (world_at policy topology before) beat (λ v. (node : NodeId) → IsUnspentAt v node)
  pub settles : is_empty (settled topology (world_at policy topology before) beat) ≡ true

-- *Behind the ticks* that begin it the network goes on, as a network in peace does from carry to carry
abbrev pub TicksGoOn : Type 0
TicksGoOn = (policy : Policy) (topology : Topology) (before : List Event) (beat : Beat) → IsMirroredPeace topology (world_at policy topology before)
    → IsMirroredBeat policy topology before beat → IsGoing topology (world_after topology (world_at policy topology before) (tick_of_all (world_at policy topology before)))

-- *So throughout it* each request that comes to a switch next is carried out
abbrev pub BeatsCarryOut : Type 0
BeatsCarryOut = (policy : Policy) (topology : Topology) (before : List Event) (beat : Beat) → IsMirroredPeace topology (world_at policy topology before)
    → IsMirroredBeat policy topology before beat
    → Throughout topology (world_at policy topology before) beat (λ v. (node : NodeId) → CarriesOutNext v node)

-- so it is a lasting beat
abbrev pub MirroredBeatsAreLasting : Type 0
MirroredBeatsAreLasting = (policy : Policy) (topology : Topology) (before : List Event) (beat : Beat) → IsMirroredPeace topology (world_at policy topology before)
    → IsMirroredBeat policy topology before beat → IsLastingBeat policy topology before beat

-- *So it goes on*, beat by beat
abbrev pub AreMirroredBeats : Policy → Topology → (before : List Event) → List Beat → Type 0
AreMirroredBeats policy topology before [] = Unit {0}
AreMirroredBeats policy topology before (beat ∷ beats) =
    IsMirroredBeat policy topology before beat × AreMirroredBeats policy topology (before ++ settling (world_at policy topology before) beat) beats

abbrev pub MirroredPeaceLasts : Type 0
MirroredPeaceLasts = (policy : Policy) (topology : Topology) (before : List Event) (beats : List Beat) → IsMirroredPeace topology (world_at policy topology before)
    → AreMirroredBeats policy topology before beats → IsMirroredPeace topology (world_at policy topology (behind_all policy topology before beats))
