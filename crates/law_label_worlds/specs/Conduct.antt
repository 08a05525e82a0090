-- What controllers do at the ends of a link, where a cell comes to one or one ticks, so that the line of each label follows,
-- and what may be joined behind an event

use Rattle.std.specs.Prelude.{◌≡◌, ◌<◌, List, ◌∷◌, Some}
use Rattle.world_model.specs.Words.{End, NodeId, Up, Cell, queue_of, control_port, Policy, Topology, World, Site, site_at, put_away, past_of}
use Rattle.law_label_events.specs.law_label_line.Line.{Line}
use Rattle.world_model.specs.network_model.declared.event.Event.{Event}
use Rattle.world_model.specs.network_model.declared.event.Event.TheVariants.{Carry, Tick}
use Rattle.law_label_events.specs.law_port_views.Link.{LinkLabel}
use Rattle.law_label_events.specs.law_world_views.Pairs.{Pairs, IsLike}
use Rattle.law_label_events.specs.law_world_views.Shown.{WorldShows, WorldGoes}
use Rattle.law_label_events.specs.law_world_views.Between.{IsWorld, IsLinkLabel}
use Rattle.law_label_events.specs.law_world_views.Kept.{Comes, behind}
use Rattle.law_label_events.specs.Acts.{Arrives}

-- the past before an event, and the network behind it
abbrev pub now_of : Policy → Topology → List Event → World
now_of policy topology events = (past_of policy topology events).now

abbrev pub then_of : Policy → Topology → List Event → Event → World
then_of policy topology before event = (behind policy topology before event).now

-- *A cell that comes to a controller* can arrive there, with what may be joined behind the event
abbrev pub CellsArrive : Type 0
CellsArrive = (policy : Policy) (topology : Topology) (before : List Event) (node : NodeId)
    → Comes policy topology before (Carry (Up node)) → IsWorld (past_of policy topology before) → (link : LinkLabel) → IsLinkLabel topology link
    → (site : Site) (cell : Cell) (cells : List Cell) → site_at (now_of policy topology before) node ≡ Some site
    → queue_of site.switch.crossbar control_port ≡ cell ∷ cells
    → Arrives link (IsLike (then_of policy topology before (Carry (Up node))) link) (put_away (now_of policy topology before)) node site cell

-- *A tick* leads each label's line, from what may be joined before it to what may be behind it
abbrev pub TicksLead : Type 0
TicksLead = (policy : Policy) (topology : Topology) (before : List Event) (node : NodeId)
    → Comes policy topology before (Tick node) → IsWorld (past_of policy topology before) → (link : LinkLabel) → IsLinkLabel topology link
    → (line : Line) → WorldShows link (IsLike (now_of policy topology before) link) (now_of policy topology before) line
    → WorldGoes link (IsLike (then_of policy topology before (Tick node)) link) (then_of policy topology before (Tick node)) line

-- *Pairs* behind an event are pairs before it, but at a tick
abbrev pub IsNoTick : Event → Type 0
IsNoTick (Tick node) = ⊥
IsNoTick event = Unit {0}

abbrev pub PairsAreOld : Type 0
PairsAreOld = (policy : Policy) (topology : Topology) (before : List Event) (event : Event)
    → Comes policy topology before event → IsWorld (past_of policy topology before) → IsNoTick event
    → (node : NodeId) (input output : End) → 0 < input.port.0 → 0 < output.port.0
    → Pairs (then_of policy topology before event) node input output → Pairs (now_of policy topology before) node input output
