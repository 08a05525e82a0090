-- The control link of a node stays calm: both sides have met, and what is on its way between them is of calm messages

use Rattle.std.specs.Prelude.{◌≡◌, ℕ, ◌<◌, true, false, List, [], ◌∷◌, Contains, Some, Ok}
use Rattle.world_model.specs.Words.{Policy, past_of, NodeId, Place, Down, Up, End, FitsParty, Mark, Cell, Frame, CountsAsItsFrame, payload_of, queue_of, control_port, default_channel, same_channel, is_request, Topology, World, Site, site_at, queue_at, IsTopology, next}
use Rattle.world_model.specs.adjacency_table.Table.{silence_limit}
use Rattle.world_model.specs.crossbar_model.Crossbar.{output_of}
use Rattle.world_model.specs.gsmp_wire.declared.message.Message.{Message}
use Rattle.world_model.specs.gsmp_wire.Fields.{decoded}
use Rattle.world_model.specs.network_model.declared.event.Event.{Event}
use Rattle.world_model.specs.network_model.declared.event.Event.TheVariants.{Carry, Tick, TickSwitch}
pub use Rattle.live_model.specs.Peace.{IsUnspentAt}
use Rattle.law_running_worlds.specs.Running.{ChainsAreTrue}
use Rattle.law_running_worlds.specs.law_shown_cells.Seen.{Extends}
use Rattle.law_running_worlds.specs.ordered_lists.Ordered.{Every}
use Rattle.law_running_worlds.specs.law_world_views.Between.{IsWorld}
use Rattle.law_running_worlds.specs.law_world_views.Kept.{Comes}
use Rattle.live_model.specs.Met.{HaveMet}
use Rattle.law_live_hearing.specs.Law.{Hears, SwitchHears}
use Rattle.law_live_control.specs.Calm.{IsCalmDown, IsCalmUp, IsCarriedOut, IsCalmCell, HasLinks}

-- *Both sides of a node have met*, as parties that can be written, and each cell that waits between them on the GSMP channel
-- is of a calm message: that was made under its mark
pub record IsCalmSite (frames : List Frame) (site : Site) : Type 0 where
  pub met : HaveMet site.controller.adjacency site.switch.adjacency
  pub controller_fits : FitsParty site.controller.adjacency.own
  pub switch_fits : FitsParty site.switch.adjacency.own
  pub down : Every (IsCalmCell (IsCalmDown site.controller.adjacency.own site.switch.adjacency.own) frames) site.controller.queue
  pub up : Every (IsCalmCell (IsCalmUp site.controller.adjacency.own site.switch.adjacency.own) frames) (queue_of site.switch.crossbar control_port)

pub record IsCalmLink (w : World) (node : NodeId) : Type 0 where
  pub site : Site
  pub found : site_at w node ≡ Some site
  pub calm : IsCalmSite w.notes.frames site

-- *So it is at rest* where both have met
pub record IsMetAtRest (w : World) (node : NodeId) : Type 0 where
  pub site : Site
  pub found : site_at w node ≡ Some site
  pub met : HaveMet site.controller.adjacency site.switch.adjacency
  pub controller_fits : FitsParty site.controller.adjacency.own
  pub switch_fits : FitsParty site.switch.adjacency.own
  pub down : queue_at w (Down node) ≡ []
  pub up : queue_at w (Up node) ≡ []

abbrev pub LinksRestCalm : Type 0
LinksRestCalm = (w : World) (node : NodeId) → IsMetAtRest w node → IsCalmLink w node

-- *What holds of a node in a run*: its ports are of links, its switch leads nothing to its controller on the GSMP channel, and
-- what waits for its controller is under the mark of a packet or a control mark
pub record IsSteady (topology : Topology) (w : World) (node : NodeId) : Type 0 where
  pub topology_is : IsTopology topology
  pub links : (site : Site) → site_at w node ≡ Some site → HasLinks site.controller
  pub apart : (site : Site) (input output : End) → site_at w node ≡ Some site → output_of site.switch.crossbar.branches input ≡ Some output
      → output.port.0 ≡ 0 → same_channel output.channel default_channel ≡ false
  pub marks : (cell : Cell) → Contains (queue_at w (Up node)) cell → cell.mark.packet ≡ 0 → 0 < cell.mark.frame

-- and of an event there: what was made stays, and a chain that passes is the frame of its last cell
pub record IsTrueEvent (topology : Topology) (w : World) (event : Event) : Type 0 where
  pub stays : Extends w.notes.frames (next topology w event).notes.frames
  pub chains : ChainsAreTrue w event

-- each event that comes in a run before the first frame that was forged or passed its test by chance is such a one, at each node
abbrev pub RunsAreSteady : Type 0
RunsAreSteady = (policy : Policy) (topology : Topology) (before : List Event) (event : Event) → Comes policy topology before event
    → IsWorld (past_of policy topology before) → (node : NodeId)
    → IsSteady topology (past_of policy topology before).now node × IsTrueEvent topology (past_of policy topology before).now event

-- *What is asked besides*: no transaction number of the controller is spent behind it; the switch carries out what is asked
-- in the frame that the cell which comes to it ends; who ticks has heard its peer lately
abbrev pub CarriesOutNext : World → NodeId → Type 0
CarriesOutNext w node = (site : Site) (cell : Cell) (cells : List Cell) (payload : List ℕ) (message : Message) → site_at w node ≡ Some site
    → queue_at w (Down node) ≡ cell ∷ cells → cell.header.last ≡ true → same_channel cell.header.channel default_channel ≡ true
    → payload_of w.notes.frames cell.mark ≡ Some payload → decoded payload ≡ Ok message → is_request message ≡ true
    → IsCarriedOut site.switch message

abbrev pub ControllerListens : World → NodeId → Type 0
ControllerListens w node = (site : Site) → site_at w node ≡ Some site → site.controller.adjacency.silence < silence_limit

abbrev pub SwitchListens : World → NodeId → Type 0
SwitchListens w node = (site : Site) → site_at w node ≡ Some site → site.switch.adjacency.silence < silence_limit

-- *Nothing else is heard* between the two than what is calm
pub record NothingElseIsHeard : Type 0 where
  pub down : (topology : Topology) (w : World) (node : NodeId) (mark : Mark) (payload : List ℕ) (message : Message) (link : IsCalmLink w node)
      → CountsAsItsFrame w (Carry (Down node)) → SwitchHears topology w node mark payload → decoded payload ≡ Ok message
      → IsCalmDown link.site.controller.adjacency.own link.site.switch.adjacency.own message
  pub up : (topology : Topology) (w : World) (node : NodeId) (mark : Mark) (payload : List ℕ) (message : Message) (link : IsCalmLink w node)
      → CountsAsItsFrame w (Carry (Up node)) → Hears topology w node default_channel mark payload → decoded payload ≡ Ok message
      → IsCalmUp link.site.controller.adjacency.own link.site.switch.adjacency.own message

-- *It stays calm* behind a carry, wherever it is, and behind each tick
abbrev pub CarriesKeepCalm : Type 0
CarriesKeepCalm = (topology : Topology) (w : World) (node : NodeId) (place : Place) → IsCalmLink w node → IsSteady topology w node
    → IsTrueEvent topology w (Carry place) → IsUnspentAt (next topology w (Carry place)) node → CarriesOutNext w node
    → IsCalmLink (next topology w (Carry place)) node

abbrev pub TicksKeepCalm : Type 0
TicksKeepCalm = (topology : Topology) (w : World) (node here : NodeId) → IsCalmLink w node → IsSteady topology w node
    → IsTrueEvent topology w (Tick here) → ControllerListens w here → IsUnspentAt (next topology w (Tick here)) node
    → IsCalmLink (next topology w (Tick here)) node

abbrev pub SwitchTicksKeepCalm : Type 0
SwitchTicksKeepCalm = (topology : Topology) (w : World) (node here : NodeId) → IsCalmLink w node → IsTrueEvent topology w (TickSwitch here)
    → SwitchListens w here → IsCalmLink (next topology w (TickSwitch here)) node
