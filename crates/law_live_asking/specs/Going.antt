-- A network in peace goes on so from carry to carry, and each request that comes next is carried out

use Rattle.std.specs.Prelude.{◌≡◌, ◌<◌, ◌^◌, List, ◌∷◌, ◌++◌, map, Some}
use Rattle.world_model.specs.Words.{Policy, NodeId, Place, last_transaction, Topology, World, Site, site_at, next, world_after, IsNode, IsRun, IsTame, past_of}
use Rattle.world_model.specs.ifmp_wire.declared.message.Message.{Message as IfmpMessage}
use Rattle.world_model.specs.Topology.{peer_of}
use Rattle.world_model.specs.network_model.declared.link.LinkEnd.{LinkEnd}
use Rattle.world_model.specs.network_model.declared.event.Event.{Event}
use Rattle.world_model.specs.network_model.declared.event.Event.TheVariants.{Carry}
use Rattle.law_live_lasting.specs.law_port_facts.ordered_lists.Ordered.{Every}
use Rattle.law_live_lasting.specs.law_run_facts.law_world_views.Between.{setups_of, IsWorld}
use Rattle.law_live_lasting.specs.law_run_facts.law_world_views.Fronts.{HasAddresses}
use Rattle.law_live_lasting.specs.law_run_facts.law_world_views.Kept.{Comes}
use Rattle.law_live_lasting.specs.law_live_worlds.Law.{AgreeIn}
use Rattle.law_live_lasting.specs.law_live_hearing.Law.{world_at, acting}
use Rattle.law_live_lasting.specs.law_live_orders.Law.{IsOpenWay}
use Rattle.law_live_lasting.specs.law_live_orders.Messages.{AreComing}
use Rattle.law_live_lasting.specs.law_live_orders.Slots.{IsUnlost}
use Rattle.law_live_lasting.specs.law_live_control_links.Law.{IsUnspentAt, CarriesOutNext}
use Rattle.law_live_lasting.specs.law_live_passed_by.Law.{BringsNone, IsForOthersAt}
use Rattle.law_live_answers.specs.Law.{AsksJoinsAlone}
use Rattle.law_live_lasting.specs.law_live_going.Law.{IsWritten}
use Rattle.law_live_lasting.specs.law_live_ways.Links.{ComesNone}
use Rattle.law_live_mirrors.specs.Fit.{IsKnown}
use Rattle.law_live_lasting.specs.law_live_mirrored_worlds.Law.{IsCalmlyMirrored}
use Rattle.law_live_asking.specs.Peace.{NoneIsClearing}

-- *A link goes on*: its ends agree, what each has said that the other has yet to hear is on its way in the queues, in order and nothing
-- else, and can be written; and both ways are open
pub record IsLinkGoing (topology : Topology) (w : World) (one far : LinkEnd) : Type 0 where
  pub said : List IfmpMessage
  pub far_said : List IfmpMessage
  pub agree : AgreeIn w one far said far_said
  pub coming_there : AreComing agree.shows.site.controller.address w one far said
  pub coming_back : AreComing agree.far_shows.site.controller.address w far one far_said
  pub written : Every IsWritten said
  pub far_written : Every IsWritten far_said
  pub low : agree.shows.site.controller.address.0 < 2 ^ 32
  pub far_low : agree.far_shows.site.controller.address.0 < 2 ^ 32
  pub there : IsOpenWay topology w one far
  pub back : IsOpenWay topology w far one

-- *A network goes on*: each node is mirrored, and its control link calm; each link goes on; and no Delete All is on its way to a switch
pub record IsGoing (topology : Topology) (w : World) : Type 0 where
  pub nodes : (node : NodeId) → IsNode topology node → IsCalmlyMirrored w node
  pub links : (one far : LinkEnd) → peer_of topology one.node one.port ≡ Some far → IsLinkGoing topology w one far
  pub none : (one far : LinkEnd) → peer_of topology one.node one.port ≡ Some far → ComesNone w one.node

-- *A node is ready* for a carry: its switch is as it knows it, a transaction number is left, it asks for joins alone, and no port of it is
-- in Clearing
pub record IsReadyNode (w : World) (site : Site) : Type 0 where
  pub known : IsKnown (setups_of site.controller) site.controller.desk.rows site.switch
  pub number_left : site.controller.desk.next < last_transaction
  pub joins : AsksJoinsAlone (acting w site)
  pub clear : NoneIsClearing site

-- *A carry in peace* enters no loss, and the ledger has no entry of its cell behind it; what it brings a controller, but for messages on the
-- default channel of the port, is for others; nodes are ready; and no transaction numbers are spent behind it
pub record IsCarryInPeace (topology : Topology) (w : World) (place : Place) : Type 0 where
  pub entries : (next topology w (Carry place)).notes.entries ≡ w.notes.entries
  pub unlost : IsUnlost topology w place
  pub others : (one far : LinkEnd) → peer_of topology one.node one.port ≡ Some far → BringsNone w one place → IsForOthersAt w one place
  pub ready : (node : NodeId) (site : Site) → site_at w node ≡ Some site → IsReadyNode w site
  pub unspent : (node : NodeId) → IsUnspentAt (next topology w (Carry place)) node

-- *So it goes on* behind the carry, in a run before the first frame that was forged or passes by chance, and at it each switch carries out
-- the request that comes next
pub record GoesOnBehind (topology : Topology) (w : World) (place : Place) : Type 0 where
  pub carried_out : (node : NodeId) → CarriesOutNext w node
  pub goes_on : IsGoing topology (next topology w (Carry place))

abbrev pub CarriesInPeaceGoOn : Type 0
CarriesInPeaceGoOn = (policy : Policy) (topology : Topology) (before : List Event) (place : Place) → Comes policy topology before (Carry place)
    → IsWorld (past_of policy topology before) → IsGoing topology (world_at policy topology before) → IsCarryInPeace topology (world_at policy topology before) place
    → GoesOnBehind topology (world_at policy topology before) place

-- *So through all carries* of a stretch of such a run, each of which is in peace as it comes
pub record AreCarriesInPeace (policy : Policy) (topology : Topology) (before : List Event) (places : List Place) : Type 0 where
  pub run : IsRun policy topology (before ++ map Carry places)
  pub addresses : HasAddresses topology
  pub tame : IsTame (past_of policy topology (before ++ map Carry places)).records
  pub each : (front rest : List Event) (place : Place) → map Carry places ≡ front ++ Carry place ∷ rest
      → IsCarryInPeace topology (world_after topology (world_at policy topology before) front) place

pub record GoesThrough (topology : Topology) (w : World) (places : List Place) : Type 0 where
  pub going : (front rest : List Event) → map Carry places ≡ front ++ rest → IsGoing topology (world_after topology w front)
  pub carried_out : (front rest : List Event) (place : Place) → map Carry places ≡ front ++ Carry place ∷ rest
      → (node : NodeId) → CarriesOutNext (world_after topology w front) node

abbrev pub CarriesInPeaceCarryOut : Type 0
CarriesInPeaceCarryOut = (policy : Policy) (topology : Topology) (before : List Event) (places : List Place) → IsGoing topology (world_at policy topology before)
    → AreCarriesInPeace policy topology before places → GoesThrough topology (world_at policy topology before) places
