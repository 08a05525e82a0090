-- What is asked of what comes to a controller or its switch: frames pass their test by no chance, and what is said is read as
-- it is written

use Rattle.std.specs.Prelude.{◌≡◌, ◌≢◌, ◌==◌, ℕ, ◌≤◌, Bool, true, false, not, nat_le, nat_lt, List, [], ◌∷◌, ◌++◌, length, None, Some, Ok, Option}
use Rattle.law_input_views.specs.world_model.Words.{Greeting, Party, Answer, Quiet, Send, Open, gsmp_answer, gsmp_received, Cell, Frame, is_frame, last_mark, payload_in, Standing, Controller, default_channel, same_channel, Reassembly, most_cells, Switch, is_request, handled, copy_of, End, NodeId, queue_of, popped, gsmp_holds, answer_comes, is_estab, PortRow, message_of, answered, Done, Ports, control_port, gsmp_of}
use Rattle.law_input_views.specs.world_model.adjacency_table.declared.message.Answer.TheVariants.{Reset}
use Rattle.law_input_views.specs.world_model.gsmp_wire.declared.message.Message.{Message}
use Rattle.law_input_views.specs.world_model.gsmp_wire.declared.message.Message.TheVariants.{Adjacency}
use Rattle.law_input_views.specs.world_model.gsmp_wire.Fields.{decoded}
use Rattle.law_input_views.specs.world_model.frame_model.Frame.{octets_of as cell_octets}
use Rattle.law_input_views.specs.world_model.Switch.{ActedSwitch, free_slots}
use Rattle.law_input_views.specs.world_model.crossbar_model.declared.branch.Branch.{Branch}
use Rattle.law_input_views.specs.law_branch_line.Words.{ToController}
use Rattle.law_input_views.specs.law_branch_line.Line.{Line}
use Rattle.law_input_views.specs.world_model.Controller as controllers
use Rattle.law_input_views.specs.world_model.gsmp_wire.declared.request.Request.TheVariants.{AllPorts}
use Rattle.law_input_views.specs.law_shown_cells.Seen.{Nothing, Word}
use Rattle.law_input_views.specs.Words.{erased_back, seen_answer}
use Rattle.law_input_views.specs.Shown.{controller_of, switch_of}
use Rattle.law_input_steps.specs.Part.{part_at, Stands, Reaches, AnyLine}
use Rattle.law_input_steps.specs.Asking.{IsReadable, IsAsked}

-- port 0 of the switch has a queue
abbrev pub HasQueue : Switch → Type 0
HasQueue s = 1 ≤ length s.crossbar.queues

-- *What is answered* is read as it was said
abbrev pub Reads : Answer Greeting Party → Type 0
Reads Quiet = Unit {0}
Reads (Send g) = IsReadable (Adjacency g)
Reads (Open None own) = Unit {0}
Reads (Open (Some g) own) = IsReadable (Adjacency g)
Reads Reset = Unit {0}

-- what the switch answers is read as it was said
pub record ReadsAnswers (a : ActedSwitch) (m : Message) : Type 0 where
  pub greets : (g : Greeting) → m ≡ Adjacency g → Reads (gsmp_answer (gsmp_received a.switch.adjacency g).answer)
  pub answers : is_request m ≡ true → IsReadable (handled a.switch a.notes m).answer

-- none of the requests on the way manages a port or verifies a tree
abbrev pub AsksWell : Message → Type 0
AsksWell m = (s : Standing) → copy_of m ≡ Some s → IsAsked s.request

-- *A chain that passes* is the frame of its last cell: no other passes by chance
abbrev pub PassesTrue : List Frame → List Cell → Type 0
PassesTrue frames cells = (payload : List ℕ) → payload_in (cell_octets cells) ≡ Some payload → is_frame frames (last_mark cells) payload ≡ true

-- *A cell ends its chain* where the channel doesn't skip, has a slot for it and room in the chain, and it is a last one
pub record IsEnded (slot : Bool) (r : Reassembly) (cell : Cell) : Type 0 where
  pub listens : r.is_skipping ≡ false
  pub slot_is : not slot ≡ false
  pub short : nat_le most_cells (length r.chain) ≡ false
  pub last : cell.header.last ≡ true

-- *What is in hand*, once the chain is empty
pub record IsInHand (c : Controller) (a : ActedSwitch) (payload : List ℕ) : Type 0 where
  pub some : HasQueue a.switch
  pub well : (m : Message) → decoded payload ≡ Ok m → AsksWell m
  pub reads : (m : Message) → decoded payload ≡ Ok m → ReadsAnswers a m

-- *The tests* of a cell that comes
pub record Comes (c : Controller) (a : ActedSwitch) (cell : Cell) (cells : List Cell) : Type 0 where
  pub front : c.queue ≡ cell ∷ cells
  pub here : same_channel cell.header.channel default_channel ≡ true
  pub passes : IsEnded (nat_lt 0 (free_slots a.switch)) a.switch.reassembly cell → PassesTrue a.notes.frames (a.switch.reassembly.chain ++ cell ∷ [])
  pub hand : (payload : List ℕ) → IsEnded (nat_lt 0 (free_slots a.switch)) a.switch.reassembly cell → payload_in (cell_octets (a.switch.reassembly.chain ++ cell ∷ [])) ≡ Some payload
      → IsInHand (record c { queue = cells }) (record a { switch = record a.switch { reassembly = record a.switch.reassembly { chain = [] } } }) payload

-- *What the controller has in hand*: what it does at a message that shows a word, and at one that shows nothing, is moves
-- of the line
pub record IsHeld (node : NodeId) (input : End) (switch : Switch) (a : controllers.Acted) (payload : List ℕ) : Type 0 where
  pub told : (line : Line) (w : ToController) → seen_answer (switch_of node) (controller_of node) input true (gsmp_of payload) ≡ Word (erased_back w)
      → Stands node input (part_at input switch a) (record line { at_controller = [] })
      → Reaches node input (part_at input switch (gsmp_holds a (decoded payload))) AnyLine (record line { at_controller = w ∷ [] })
  pub quiet : (line : Line) → seen_answer (switch_of node) (controller_of node) input true (gsmp_of payload) ≡ Nothing
      → Stands node input (part_at input switch a) line → Reaches node input (part_at input switch (gsmp_holds a (decoded payload))) AnyLine line

-- *A cell of the GSMP channel* comes to the controller from port 0 of the switch
pub record ComesBack (node : NodeId) (input : End) (switch : Switch) (a : controllers.Acted) (cell : Cell) (cells : List Cell) : Type 0 where
  pub front : queue_of switch.crossbar control_port ≡ cell ∷ cells
  pub here : same_channel cell.header.channel default_channel ≡ true
  pub passes : IsEnded (nat_lt 0 (controllers.free_slots a.controller)) a.controller.reassembly cell → PassesTrue a.notes.frames (a.controller.reassembly.chain ++ cell ∷ [])
  pub holds : (payload : List ℕ) → IsEnded (nat_lt 0 (controllers.free_slots a.controller)) a.controller.reassembly cell → payload_in (cell_octets (a.controller.reassembly.chain ++ cell ∷ [])) ≡ Some payload
      → IsHeld node input (record switch { crossbar = popped switch.crossbar control_port })
      (record a { controller = record a.controller { reassembly = record a.controller.reassembly { chain = [] } } }) payload

-- what is done at a success is moves of the line; a greeting is answered as it is read, and before Estab the switch isn't met
pub record MayHold (node : NodeId) (input : End) (switch : Switch) (a : controllers.Acted) (payload : List ℕ) : Type 0 where
  pub all : IsReadable (message_of [] 1 AllPorts)
  pub unmet : is_estab a.controller.adjacency.state ≡ false → a.controller.has_met ≡ false
  pub greets : (g : Greeting) → decoded payload ≡ Ok (Adjacency g) → Reads (gsmp_answer (gsmp_received a.controller.adjacency g).answer)
  pub done : (m : Message) (s : Standing) (line : Line) (w : ToController) → decoded payload ≡ Ok m → answered a.controller.desk m ≡ Done s
      → seen_answer (switch_of node) (controller_of node) input true (Some m) ≡ Word (erased_back w)
      → Stands node input (part_at input switch a) (record line { at_controller = [] })
      → Reaches node input (part_at input switch (answer_comes a m)) AnyLine (record line { at_controller = w ∷ [] })
  pub ports : (m : Message) (s : Standing) (rows : List PortRow) (line : Line) (w : ToController) → decoded payload ≡ Ok m → answered a.controller.desk m ≡ Ports s rows
      → seen_answer (switch_of node) (controller_of node) input true (Some m) ≡ Word (erased_back w)
      → Stands node input (part_at input switch a) (record line { at_controller = [] })
      → Reaches node input (part_at input switch (answer_comes a m)) AnyLine (record line { at_controller = w ∷ [] })

-- *A branch* leads no other cell to the GSMP channel of the control link
abbrev pub LeadsAway : Option Branch → Type 0
LeadsAway None = Unit {0}
LeadsAway (Some b) = (b.output.port.0 == 0) ≡ true → b.output.channel ≢ default_channel
