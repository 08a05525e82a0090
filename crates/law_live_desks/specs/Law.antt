-- What stands at a controller's desk is on its way behind calm events, and so at rest none stands

use Rattle.std.specs.Prelude.{◌≡◌, ℕ, true, List, [], ◌∷◌, Contains, Some}
use Rattle.world_model.specs.Words.{Policy, NodeId, Place, Down, Up, Cell, Frame, Journal, Head, head_of, is_of_type, is_request, handled, Standing, sent_again, standing_at, default_channel, same_channel, gsmp_under, copy_under, Topology, World, Site, site_at, queue_at, next, past_of, IsRun, IsPlace, IsShaped, CountsAsItsFrame}
use Rattle.world_model.specs.gsmp_wire.declared.message.Message.{Message}
use Rattle.world_model.specs.port_model.Desk.{message_at}
use Rattle.world_model.specs.network_model.declared.event.Event.{Event}
use Rattle.world_model.specs.network_model.declared.event.Event.TheVariants.{Inject, Carry, Tick, TickSwitch}
use Rattle.law_port_facts.specs.ordered_lists.Ordered.{Every}
use Rattle.law_running_worlds.specs.law_input_steps.Asking.{IsReadable}
use Rattle.law_running_worlds.specs.law_world_views.Fronts.{HasAddresses}
use Rattle.law_running_worlds.specs.law_world_views.Between.{IsWorld}
use Rattle.law_live_orders.specs.Slots.{IsUnlost}
use Rattle.law_live_control_links.specs.Law.{IsCalmLink, IsSteady, IsTrueEvent, CarriesOutNext, ControllerListens}

-- *A copy of a request* (RFC 1987): the last cell of a frame on the GSMP channel that asks it, under its number
pub record IsCopy (frames : List Frame) (s : Standing) (cell : Cell) : Type 0 where
  pub last : cell.header.last ≡ true
  pub on : same_channel cell.header.channel default_channel ≡ true
  pub asks : copy_under frames cell.mark ≡ Some s

-- *A success answers a request* under its number, and is of its type
pub record Answers (s : Standing) (message : Message) : Type 0 where
  pub head : Head
  pub of_message : head_of message ≡ Some head
  pub succeeds : head.result ≡ 3
  pub number : head.number ≡ s.number
  pub of_type : is_of_type message s.request ≡ true

-- the last cell of a frame on the GSMP channel that says such a success
pub record IsAnswer (frames : List Frame) (s : Standing) (cell : Cell) : Type 0 where
  pub last : cell.header.last ≡ true
  pub on : same_channel cell.header.channel default_channel ≡ true
  pub message : Message
  pub says : gsmp_under frames cell.mark ≡ Some message
  pub answers : Answers s message

-- *A request is on its way*: a copy of it waits for the switch, or a success that answers it for the controller
pub data IsOnItsWay (frames : List Frame) (down up : List Cell) (s : Standing) : Type 0 where
  asked : (cell : Cell) → Contains down cell → IsCopy frames s cell → IsOnItsWay frames down up s
  answered : (cell : Cell) → Contains up cell → IsAnswer frames s cell → IsOnItsWay frames down up s

-- so is each that stands at the desk of a node
abbrev pub AreOnTheirWay : World → NodeId → Type 0
AreOnTheirWay w node = Every (IsOnItsWay w.notes.frames (queue_at w (Down node)) (queue_at w (Up node))) (standing_at w node)

-- *What is asked of an event*: it enters no loss into the ledger
abbrev pub LosesNothing : Topology → World → Event → Type 0
LosesNothing topology w event = (next topology w event).notes.entries ≡ w.notes.entries

-- and each request that stands behind it is read as it was written; so is what the switch answers to the request in the frame of the
-- cell that comes to it
abbrev pub RequestsAreRead : World → NodeId → Type 0
RequestsAreRead w node = (site : Site) → site_at w node ≡ Some site
    → Every (λ (s : Standing). IsReadable (message_at site.controller.desk s)) site.controller.desk.standing

abbrev pub AnswerIsRead : World → NodeId → Type 0
AnswerIsRead w node = (site : Site) (cell : Cell) (cells : List Cell) (message : Message) (notes : Journal) → site_at w node ≡ Some site
    → queue_at w (Down node) ≡ cell ∷ cells → same_channel cell.header.channel default_channel ≡ true
    → gsmp_under w.notes.frames cell.mark ≡ Some message → is_request message ≡ true → IsReadable (handled site.switch notes message).answer

-- both are so in a run before the first frame that was forged or passed its test by chance
abbrev pub RunsAreRead : Type 0
RunsAreRead = (policy : Policy) (topology : Topology) (before : List Event) → HasAddresses topology → IsRun policy topology before
    → IsWorld (past_of policy topology before) → (node : NodeId)
    → RequestsAreRead (past_of policy topology before).now node × AnswerIsRead (past_of policy topology before).now node

-- *A carry is calm* for a node: of a queue of the network, whose switches have their queues, it loses nothing, its cell has no entry
-- in the ledger, no frame passes by chance, and the request that comes to the node's switch is carried out
pub record IsCalmCarry (topology : Topology) (w : World) (node : NodeId) (place : Place) : Type 0 where
  pub of_network : IsPlace topology place
  pub shaped : IsShaped w
  pub true_event : IsTrueEvent topology w (Carry place)
  pub counts : CountsAsItsFrame w (Carry place)
  pub loses_nothing : LosesNothing topology w (Carry place)
  pub unlost : IsUnlost topology w place
  pub carries_out : CarriesOutNext w node
  pub answer_is_read : AnswerIsRead w node
  pub requests_are_read : RequestsAreRead (next topology w (Carry place)) node

-- *Each stays on its way* behind a calm carry, wherever it is, where the control link is calm
abbrev pub CarriesKeepDesks : Type 0
CarriesKeepDesks = (topology : Topology) (w : World) (node : NodeId) (place : Place) → IsCalmLink w node → IsSteady topology w node
    → IsCalmCarry topology w node place → AreOnTheirWay w node → AreOnTheirWay (next topology w (Carry place)) node

-- behind a tick of a controller that loses nothing, and of a switch
abbrev pub TicksKeepDesks : Type 0
TicksKeepDesks = (topology : Topology) (w : World) (node here : NodeId) → IsTrueEvent topology w (Tick here) → LosesNothing topology w (Tick here)
    → RequestsAreRead (next topology w (Tick here)) node → AreOnTheirWay w node → AreOnTheirWay (next topology w (Tick here)) node

abbrev pub SwitchTicksKeepDesks : Type 0
SwitchTicksKeepDesks = (topology : Topology) (w : World) (node here : NodeId) → IsTrueEvent topology w (TickSwitch here)
    → AreOnTheirWay w node → AreOnTheirWay (next topology w (TickSwitch here)) node

-- and where a packet enters
abbrev pub InjectsKeepDesks : Type 0
InjectsKeepDesks = (topology : Topology) (w : World) (node here : NodeId) (octets : List ℕ) → IsTrueEvent topology w (Inject here octets)
    → AreOnTheirWay w node → AreOnTheirWay (next topology w (Inject here octets)) node

-- *A tick sends them again*: behind one of a controller that has met its switch, at whose desk no more stand than it sends again, each
-- is on its way, whatever was lost before
abbrev pub TicksSendAgain : Type 0
TicksSendAgain = (topology : Topology) (w : World) (node : NodeId) (link : IsCalmLink w node) → ControllerListens w node
    → sent_again link.site.controller.desk ≡ link.site.controller.desk.standing → LosesNothing topology w (Tick node)
    → RequestsAreRead (next topology w (Tick node)) node → AreOnTheirWay (next topology w (Tick node)) node

-- *So at rest none stands*; and where none stands, each is on its way
pub record RestingDesksAreEmpty : Type 0 where
  pub empty : (w : World) (node : NodeId) → queue_at w (Down node) ≡ [] → queue_at w (Up node) ≡ [] → AreOnTheirWay w node
      → standing_at w node ≡ []
  pub begins : (w : World) (node : NodeId) → standing_at w node ≡ [] → AreOnTheirWay w node
