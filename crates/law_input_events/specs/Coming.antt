-- What is asked of a network and of an event, so that the event is moves of the line of each input

use Rattle.std.specs.Prelude.{◌≡◌, ◌≢◌, ℕ, ◌≤◌, ◌<◌, true, false, nat_lt, List, [], ◌∷◌, ◌++◌, length, map, Contains, Option, None, Some}
use Rattle.std.specs.FinMap.{get}
use Rattle.law_input_premises.specs.world_model.Words.{End, NodeId, PortNo, Mark, HasNumbersLeft, Cell, hop_of, On, Fits, FitsRows, queue_of, control_port, numbers_of, Standing, Setup, Frame, payload_of, next_mark, Controller, default_channel, same_channel, is_control, Place, Down, Up, Out, Topology, Site, World, site_at, queue_at, gsmp_under, copy_of}
use Rattle.law_input_premises.specs.world_model.gsmp_wire.declared.message.Message.{Message}
use Rattle.law_input_premises.specs.world_model.gsmp_wire.declared.message.Message.TheVariants.{AllPorts}
use Rattle.law_input_premises.specs.ordered_lists.Ordered.{Every, InOrder}
use Rattle.law_input_premises.specs.law_gsmp_reading.Said.{IsSaid}
use Rattle.law_input_premises.specs.world_model.port_model.Messages.{is_up}
use Rattle.law_input_premises.specs.law_port_facts.Port.{IsShaped}
use Rattle.law_input_premises.specs.world_model.switch_model.declared.port.PortState.{PortState}
use Rattle.law_input_premises.specs.world_model.Answers.{port_row}
use Rattle.law_input_premises.specs.world_model.Controller.{ports_of}
use Rattle.law_input_premises.specs.world_model.network_model.declared.event.Event.{Event}
use Rattle.law_input_premises.specs.world_model.network_model.declared.event.Event.TheVariants.{Carry, Lose, Forge}
use Rattle.law_input_premises.specs.world_model.network_model.declared.link.LinkEnd.{LinkEnd}
use Rattle.law_input_premises.specs.world_model.Topology.{peer_of}
use Rattle.law_input_premises.specs.law_shown_cells.Seen.{IsUnmade}
use Rattle.law_input_premises.specs.law_input_steps.Hearing.{IsEnded, LeadsAway, PassesTrue}
use Rattle.law_input_premises.specs.world_model.Switch as switches
use Rattle.law_input_premises.specs.world_model.Controller as controllers
use Rattle.law_input_premises.specs.Steady.{IsSteady}
use Rattle.law_world_views.specs.Between.{EachSite, setups_of, IsInput, HasInputLine}

-- a packet's next frame is the first under its mark
abbrev pub IsNext : List Frame → (came : Mark) → Type 0
IsNext frames came = is_control came ≡ false → ((next_mark came).packet ≢ 0) × (payload_of frames (next_mark came) ≡ None)

-- routes lead to ports of links
abbrev pub GoesByLinks : Controller → Type 0
GoesByLinks c = (packet : List ℕ) (port : PortNo) → hop_of c.table packet ≡ On port → 1 ≤ port.0

-- *What a switch tells of its ports* when it is asked for all, in the order of their numbers
abbrev pub IsBelow : PortNo → PortNo → Type 0
IsBelow p q = p.0 < q.0

pub record TellsPorts (ports : List PortState) : Type 0 where
  pub ascending : InOrder IsBelow (numbers_of ports)
  pub some : 1 ≤ length ports
  pub few : length (map port_row ports) ≤ 9
  pub fits : FitsRows (map port_row ports)

-- *What a controller says* to its switch
pub record IsToSwitch (setups : List Setup) (m : Message) : Type 0 where
  pub fits : Fits m
  pub said : IsSaid m
  pub shaped : (s : Standing) → copy_of m ≡ Some s → IsShaped setups s.request

abbrev pub HasSaid : List Frame → NodeId → Site → Type 0
HasSaid frames node site = (cell : Cell) (m : Message) → Contains site.controller.queue cell → same_channel cell.header.channel default_channel ≡ true
    → gsmp_under frames cell.mark ≡ Some m → IsToSwitch (setups_of site.controller) m

-- *What a switch says* to its controller: all its ports, in numbers that fit, are up
abbrev pub IsFromSwitch : Controller → Message → Type 0
IsFromSwitch c (AllPorts result code number rows) = result ≡ 3 → FitsRows rows × Every (λ (port : PortNo). is_up rows port ≡ true) (ports_of c)
IsFromSwitch c message = Unit {0}

abbrev pub HasAnswered : List Frame → NodeId → Site → Type 0
HasAnswered frames node site = (cell : Cell) (m : Message) → Contains (queue_of site.switch.crossbar control_port) cell → same_channel cell.header.channel default_channel ≡ true
    → gsmp_under frames cell.mark ≡ Some m → IsFromSwitch site.controller m

-- *A site* between events: what is so of its controller alone; its switch has a queue at each port, tells its ports, and
-- leads no cell of another channel to GSMP's
pub record IsSteadySite (node : NodeId) (site : Site) : Type 0 where
  pub steady : IsSteady site.controller
  pub numbered : site.controller.node ≡ node
  pub small : node.0 < 256
  pub by_links : GoesByLinks site.controller
  pub queues : length site.switch.crossbar.queues ≡ 9
  pub ports : TellsPorts site.switch.ports
  pub same_ports : numbers_of site.switch.ports ≡ control_port ∷ ports_of site.controller
  pub away : (input : End) → LeadsAway (get site.switch.crossbar.branches input)

-- *A network* between events, with numbers left; of packets that weren't sent yet nothing is made
pub record IsRunning (w : World) : Type 0 where
  pub sites : EachSite w IsSteadySite
  pub said : EachSite w (HasSaid w.notes.frames)
  pub answered : EachSite w (HasAnswered w.notes.frames)
  pub unmade : IsUnmade w.numbers.controls w.notes.frames
  pub left : HasNumbersLeft w.numbers
  pub unsent : (k frame : ℕ) → w.sent < k → payload_of w.notes.frames (record { packet = k; frame = frame }) ≡ None

-- *The lines of its inputs*: for each label of a linked port of each node, moves lead to a line that the node shows
abbrev pub HasLines : World → Type 0
HasLines w = EachSite w (λ node site. (input : End) → IsInput site.controller input → HasInputLine w node site input)

-- *An event* that forges no frame, and lets none pass by chance on the GSMP channel; what it carries to a controller on
-- another channel can be sent on where a frame ends, and what it carries on a link goes from a link's port to another
abbrev pub IsFar : Option LinkEnd → Type 0
IsFar None = Unit {0}
IsFar (Some far) = 1 ≤ far.port.0

abbrev pub CanCarry : Topology → World → Place → Type 0
CanCarry topology w (Down node) = (cell : Cell) (cells : List Cell) (site : Site) → queue_at w (Down node) ≡ cell ∷ cells → site_at w node ≡ Some site
    → same_channel cell.header.channel default_channel ≡ true → IsEnded (nat_lt 0 (switches.free_slots site.switch)) site.switch.reassembly cell
    → PassesTrue w.notes.frames (site.switch.reassembly.chain ++ cell ∷ [])
CanCarry topology w (Up node) = (cell : Cell) (cells : List Cell) (site : Site) → queue_at w (Up node) ≡ cell ∷ cells → site_at w node ≡ Some site
    → (same_channel cell.header.channel default_channel ≡ false → cell.header.last ≡ true → IsNext w.notes.frames cell.mark)
    × (same_channel cell.header.channel default_channel ≡ true → IsEnded (nat_lt 0 (controllers.free_slots site.controller)) site.controller.reassembly cell
    → PassesTrue w.notes.frames (site.controller.reassembly.chain ++ cell ∷ []))
CanCarry topology w (Out node port) = (1 ≤ port.0) × IsFar (peer_of topology node port)

abbrev pub CanLose : Place → Type 0
CanLose (Down node) = Unit {0}
CanLose (Up node) = Unit {0}
CanLose (Out node port) = 1 ≤ port.0

abbrev pub IsOrdinary : Topology → World → Event → Type 0
IsOrdinary topology w (Carry place) = CanCarry topology w place
IsOrdinary topology w (Lose place) = CanLose place
IsOrdinary topology w (Forge place channel payload) = ⊥
IsOrdinary topology w event = Unit {0}
