-- A frame on the channel of a label goes where switches lead it, and comes to the controller at the end of the way

use Rattle.std.specs.Prelude.{◌≡◌, ℕ, ◌<◌, true, false, List, [], ◌∷◌, ◌++◌, Contains, None, Some}
use Rattle.world_model.specs.Words.{NodeId, PortNo, Place, Down, Up, Delivered, Policy, End, Mark, Cell, has_entry, next_mark, onward, labelled_payload, kind_of, payload_of, Grant, label_end, control_end, output_at, queue_at, is_empty, IsPlace, IsNode, Topology, next}
use Rattle.world_model.specs.Topology.{peer_of}
use Rattle.world_model.specs.network_model.declared.link.LinkEnd.{LinkEnd}
use Rattle.world_model.specs.network_model.declared.event.Event.{Event}
use Rattle.world_model.specs.network_model.declared.event.Event.TheVariants.{Carry}
use Rattle.law_live_ease.specs.law_live_hearing.Law.{world_at, IsOnItsWay, Waits}
use Rattle.law_live_ease.specs.law_live_journeys.Hops.{IsStretch}
use Rattle.law_live_ease.specs.Binding.{IsCalmStretch}
use Rattle.law_live_cut_through.specs.Under.{GoesUnder}

-- *An input leads so* in each world of a stretch, if it leads anywhere
abbrev pub Leads : Policy → Topology → (past events : List Event) → NodeId → (input output : End) → Type 0
Leads policy topology past events node input output = (front rest : List Event) → events ≡ front ++ rest
    → (other : End) → output_at (world_at policy topology (past ++ front)) node input ≡ Some other → other ≡ output

-- *From an end on*, where a label's channel comes in: from link to link, and at the last end to the controller
pub record LeadsToLink (policy : Policy) (topology : Topology) (past events : List Event) (at : LinkEnd) (number : ℕ) (far : LinkEnd) : Type 0 where
  pub port : PortNo
  pub linked : peer_of topology at.node port ≡ Some far
  pub label : ℕ
  pub leads : Leads policy topology past events at.node (label_end at.port number) (label_end port label)

abbrev pub LeadsAlong : Policy → Topology → (past events : List Event) → (at : LinkEnd) → (number : ℕ) → List LinkEnd → Type 0
LeadsAlong policy topology past events at number [] = Leads policy topology past events at.node (label_end at.port number) (control_end at.port number)
LeadsAlong policy topology past events at number (far ∷ ends) =
    (on : LeadsToLink policy topology past events at number far) × LeadsAlong policy topology past events far on.label ends

-- the last end of it, and the label on whose channel it comes in there
abbrev pub last_end : LinkEnd → List LinkEnd → LinkEnd
last_end at [] = at
last_end at (far ∷ ends) = last_end far ends

abbrev pub last_label : (policy : Policy) (topology : Topology) (past events : List Event) (at : LinkEnd) (number : ℕ) (ends : List LinkEnd)
    → LeadsAlong policy topology past events at number ends → ℕ
last_label policy topology past events at number [] along = number
last_label policy topology past events at number (far ∷ ends) along = last_label policy topology past events far along.0.label ends along.1

-- *The frame comes* to a controller in the stretch, on the channel of a label: its last cell is the first that waits there
pub record ComesUnder (policy : Policy) (topology : Topology) (past events : List Event) (at : LinkEnd) (number : ℕ) (mark : Mark) : Type 0 where
  pub front : List Event
  pub rest : List Event
  pub are : events ≡ front ++ Carry (Up at.node) ∷ rest
  pub cell : Cell
  pub cells : List Cell
  pub queue : queue_at (world_at policy topology (past ++ front)) (Up at.node) ≡ cell ∷ cells
  pub last : cell.header.last ≡ true
  pub own : cell.mark ≡ mark
  pub on : cell.header.channel ≡ (control_end at.port number).channel
  pub unlost : has_entry (next topology (world_at policy topology (past ++ front)) (Carry (Up at.node))).notes.entries mark ≡ false

-- *What the first controller sends under a label* comes to the last one
abbrev pub FramesAreLed : Type 0
FramesAreLed = (policy : Policy) (topology : Topology) (past events : List Event) (mark : Mark) (payload : List ℕ) (one far : LinkEnd) (number : ℕ) (ends : List LinkEnd)
    → IsOnItsWay policy topology past events mark payload → IsNode topology one.node → peer_of topology one.node one.port ≡ Some far
    → Waits (world_at policy topology past) (Down one.node) (control_end one.port number).channel mark
    → Leads policy topology past events one.node (control_end one.port number) (label_end one.port number)
    → (along : LeadsAlong policy topology past events far number ends)
    → ComesUnder policy topology past events (last_end far ends) (last_label policy topology past events far number ends along) mark

-- so in a stretch of a run, from the event in which it is sent, where in the end the ledger has no entry of it
abbrev pub SentFramesAreLed : Type 0
SentFramesAreLed = (policy : Policy) (topology : Topology) (past events : List Event) (event : Event) (one far : LinkEnd) (came : Mark) (grant : Grant) (packet : List ℕ)
    (ends : List LinkEnd) → IsStretch policy topology past (event ∷ events) → IsNode topology one.node → peer_of topology one.node one.port ≡ Some far
    → GoesUnder topology (world_at policy topology past) event one came grant packet
    → has_entry (world_at policy topology (past ++ event ∷ events)).notes.entries (next_mark came) ≡ false
    → Leads policy topology (past ++ event ∷ []) events one.node (control_end one.port grant.label) (label_end one.port grant.label)
    → (along : LeadsAlong policy topology (past ++ event ∷ []) events far grant.label ends)
    → ComesUnder policy topology (past ++ event ∷ []) events (last_end far ends) (last_label policy topology (past ++ event ∷ []) events far grant.label ends along) (next_mark came)
    × ((front rest : List Event) → events ≡ front ++ rest → payload_of (world_at policy topology ((past ++ event ∷ []) ++ front)).notes.frames (next_mark came)
    ≡ Some (labelled_payload (kind_of grant.flow) (onward packet)))

-- *No cell is lost* in a calm stretch of a run in whose end all links are empty: of each that waits in a queue behind a front of it, the ledger has no
-- entry in any world of it
abbrev pub CellsAreUnlost : Type 0
CellsAreUnlost = (policy : Policy) (topology : Topology) (past events : List Event) → IsCalmStretch policy topology past events
    → is_empty (world_at policy topology (past ++ events)) ≡ true → (front rest first later : List Event) → events ≡ front ++ rest → events ≡ first ++ later
    → (place : Place) (cell : Cell) → IsPlace topology place → Contains (queue_at (world_at policy topology (past ++ front)) place) cell
    → has_entry (world_at policy topology (past ++ first)).notes.entries cell.mark ≡ false

-- *No other frame is made* of a packet in a stretch of a run in whose end all links are empty, where a controller delivers it out of the frame
-- that was the last one made of it
abbrev pub DeliveredAreAlone : Type 0
DeliveredAreAlone = (policy : Policy) (topology : Topology) (past events front rest : List Event) (node : NodeId) (cell : Cell) (cells : List Cell) (packet : List ℕ)
    → IsStretch policy topology past events → events ≡ front ++ Carry (Up node) ∷ rest
    → queue_at (world_at policy topology (past ++ front)) (Up node) ≡ cell ∷ cells → cell.header.last ≡ true → 0 < cell.mark.packet
    → Contains (next topology (world_at policy topology (past ++ front)) (Carry (Up node))).notes.records (Delivered node cell.mark.packet packet)
    → payload_of (world_at policy topology (past ++ events)).notes.frames (next_mark cell.mark) ≡ None
