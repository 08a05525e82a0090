-- Which labels are joined, or may be, behind an event: those that were before it, and at a tick those of the joins that it enters

use Rattle.std.specs.Prelude.{◌≡◌, ◌≢◌, ℕ, ◌<◌, ◌≤◌, ◌⊎◌, true, nat_lt, List, [], ◌∷◌, None, Some}
use Rattle.law_causes.specs.world_model.Words.{End, NodeId, Place, Down, Up, Out, Mark, Cell, payload_of, payload_in, Standing, last_transaction, control_port, is_gsmp, Topology, World, Site, site_at, queue_at, put_away, next, copy_under}
use Rattle.law_causes.specs.world_model.frame_model.Frame.{octets_of}
use Rattle.law_causes.specs.world_model.frame_model.Reassembly.{taken}
use Rattle.law_world_views.specs.ordered_lists.Ordered.{Every}
use Rattle.law_causes.specs.world_model.Switch.{free_slots}
use Rattle.law_world_views.specs.law_controller_facts.Sound.{ArePorts, AreShaped}
use Rattle.law_quiet_controllers.specs.Quiet.{AreRead}
use Rattle.law_quiet_controllers.specs.Heard.{LeadsToLinks, CanCome}
use Rattle.law_quiet_controllers.specs.Law.{TickEnters}
use Rattle.law_causes.specs.world_model.network_model.declared.event.Event.{Event}
use Rattle.law_causes.specs.world_model.network_model.declared.event.Event.TheVariants.{Carry, Tick, Forge}
use Rattle.law_causes.specs.world_model.network_model.declared.link.LinkEnd.{LinkEnd}
use Rattle.law_causes.specs.world_model.Topology.{peer_of}
use Rattle.law_world_views.specs.Shown.{acting}
use Rattle.law_world_views.specs.Pairs.{Pairs}
use Rattle.law_world_views.specs.Between.{EachSite, HasNumbers, setups_of}

-- *A tick enters* a join of the input to the output
pub record IsEntered (w : World) (node : NodeId) (input output : End) : Type 0 where
  pub site : Site
  pub found : site_at w node ≡ Some site
  pub enters : TickEnters (acting w site) input output

-- by an event: a tick of the node
abbrev pub EntersAt : World → Event → NodeId → (input output : End) → Type 0
EntersAt w (Tick ticked) node input output = (ticked.0 ≡ node.0) × IsEntered w ticked input output
EntersAt w event node input output = ⊥

-- *Each pair* above port 0 was one before, or was entered
abbrev pub HasOldPairs : World → Event → World → Type 0
HasOldPairs w event v = (node : NodeId) (input output : End) → 0 < input.port.0 → 0 < output.port.0
    → Pairs v node input output → Pairs w node input output ⊎ EntersAt (put_away w) event node input output

-- *Before the event*: what is so of a node and of its controller alone
pub record IsAtDesk (node : NodeId) (site : Site) : Type 0 where
  pub numbered : site.controller.node ≡ node
  pub ports : ArePorts (setups_of site.controller) site.controller.ports
  pub shaped : AreShaped (setups_of site.controller) site.controller.desk.standing
  pub below : Every (λ (s : Standing). s.number < site.controller.desk.next) site.controller.desk.standing
  pub room : site.controller.desk.next ≤ last_transaction
  pub reads : AreRead (setups_of site.controller) site.controller.desk.rows
  pub reads_none : AreRead (setups_of site.controller) []
  pub by_links : LeadsToLinks site.controller

-- *An honest event* forges nothing, and lets no chain pass by chance that comes to a switch from its controller; what comes
-- to a controller may come, and a link leads to a port of a link
abbrev pub CarriesHonestly : Topology → World → Place → Type 0
CarriesHonestly topology w (Down node) = (site : Site) (cell : Cell) (cells : List Cell) → site_at w node ≡ Some site → queue_at w (Down node) ≡ cell ∷ cells
    → is_gsmp control_port cell.header.channel ≡ true → (first : Cell) (rest : List Cell) (payload : List ℕ)
    → (taken w.notes (nat_lt 0 (free_slots site.switch)) site.switch.reassembly cell).ended ≡ first ∷ rest → payload_in (octets_of (first ∷ rest)) ≡ Some payload
    → payload_of w.notes.frames cell.mark ≡ Some payload
CarriesHonestly topology w (Up node) = (site : Site) (cell : Cell) (cells : List Cell) → site_at w node ≡ Some site → queue_at w (Up node) ≡ cell ∷ cells
    → CanCome (setups_of site.controller) (acting w site) cell
CarriesHonestly topology w (Out node port) = (far : LinkEnd) → peer_of topology node port ≡ Some far → 1 ≤ far.port.0

abbrev pub IsHonest : Topology → World → Event → Type 0
IsHonest topology w (Carry place) = CarriesHonestly topology w place
IsHonest topology w (Forge place channel payload) = ⊥
IsHonest topology w event = Unit {0}

-- and no frame of a packet is a request
abbrev pub PacketsAskNothing : World → Type 0
PacketsAskNothing w = (mark : Mark) → mark.packet ≢ 0 → copy_under w.notes.frames mark ≡ None

-- *The law*
abbrev pub EventsMakeNoPairs : Type 0
EventsMakeNoPairs = (topology : Topology) (w : World) (event : Event) → EachSite w IsAtDesk → HasNumbers w → IsHonest topology (put_away w) event
    → PacketsAskNothing (next topology w event) → HasOldPairs w event (next topology w event)
