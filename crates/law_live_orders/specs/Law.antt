-- Frames come in the order in which they were sent, between the two controllers of a link

use Rattle.std.specs.Prelude.{◌≡◌, ◌≢◌, ◌⊎◌, true, false, List, [], ◌∷◌, ◌++◌, filter, map, Some}
use Rattle.world_model.specs.Words.{NodeId, Place, Down, Up, Out, Channel, End, Mark, Cell, default_channel, default_end, default_home, Topology, World, IsTopology, IsPlace, IsShaped, queue_at, output_at, next, world_after, OfSwitch, has_slot}
use Rattle.world_model.specs.Topology.{peer_of}
use Rattle.world_model.specs.network_model.declared.link.LinkEnd.{LinkEnd}
use Rattle.world_model.specs.network_model.declared.event.Event.{Event}
use Rattle.world_model.specs.network_model.declared.event.Event.TheVariants.{Carry, Lose, Tick, TickSwitch, Forge}
use Rattle.law_passing.specs.telling_model.Passing.{cells_put_at}
pub use Rattle.live_model.specs.Peace.{is_last_on}
use Rattle.law_live_carries.specs.Law.{taken_at, taken_in, put_in}

-- *The last cells* of frames on a channel, by their marks, in order
abbrev pub last_marks : Channel → List Cell → List Mark
last_marks channel cells = map (λ cell. cell.mark) (filter (is_last_on channel) cells)

abbrev pub marks_at : World → Place → Channel → List Mark
marks_at w place channel = last_marks channel (queue_at w place)

-- *On their way* on the default channel, from the controller at one end of a link to that at the other, the first to come
-- first: those that wait for the far controller, for the far switch, and for the near one
abbrev pub coming : World → (one far : LinkEnd) → List Mark
coming w one far =
    marks_at w (Up far.node) (default_home far.port).channel
    ++ (marks_at w (Out one.node one.port) default_channel ++ marks_at w (Down one.node) (default_home one.port).channel)

-- *The way is open*: the ports are two ends of a link, their default channels lead there, and nothing else does
pub record LeadsAlone (w : World) (node : NodeId) (input output : End) : Type 0 where
  pub leads : output_at w node input ≡ Some output
  pub alone : (other : End) → output_at w node other ≡ Some output → other ≡ input

pub record IsOpenWay (topology : Topology) (w : World) (one far : LinkEnd) : Type 0 where
  pub linked : peer_of topology one.node one.port ≡ Some far
  pub shaped : IsShaped w
  pub out : LeadsAlone w one.node (default_home one.port) (default_end one.port)
  pub home : LeadsAlone w far.node (default_end far.port) (default_home far.port)

-- *An event loses none of them*: it is no loss and no forgery; and where a carry takes the last cell of one to a switch, a slot
-- is free there
abbrev pub HasSlotFor : World → NodeId → Channel → List Cell → Type 0
HasSlotFor w node channel [] = Unit {0}
HasSlotFor w node channel (cell ∷ cells) = is_last_on channel cell ≡ true → has_slot w (OfSwitch node) ≡ true

abbrev pub FindsSlot : World → (one far : LinkEnd) → Place → Type 0
FindsSlot w one far (Down node) = node.0 ≡ one.node.0 → HasSlotFor w one.node (default_home one.port).channel (queue_at w (Down one.node))
FindsSlot w one far (Up node) = Unit {0}
FindsSlot w one far (Out node port) =
    node.0 ≡ one.node.0 → port.0 ≡ one.port.0 → HasSlotFor w far.node default_channel (queue_at w (Out one.node one.port))

abbrev pub LosesNone : Topology → World → (one far : LinkEnd) → Event → Type 0
LosesNone topology w one far (Carry place) = IsPlace topology place × FindsSlot w one far place
LosesNone topology w one far (Lose place) = ⊥
LosesNone topology w one far (Forge place channel payload) = ⊥
LosesNone topology w one far event = Unit {0}

-- *What is heard* as an event takes a cell to the far controller, and *what is sent* as it puts cells into the near one's queue
abbrev pub heard_at : World → Event → (far : LinkEnd) → List Mark
heard_at w event far = last_marks (default_home far.port).channel (taken_at w event (Up far.node))

abbrev pub sent_at : Topology → World → Event → (one : LinkEnd) → List Mark
sent_at topology w event one = last_marks (default_home one.port).channel (cells_put_at topology w event (Down one.node))

-- *First in, first out*: what is heard, and then what is still to come, is what was to come, and then what was sent
abbrev pub FramesComeInOrder : Type 0
FramesComeInOrder = (topology : Topology) (w : World) (one far : LinkEnd) (event : Event) → IsTopology topology
    → IsOpenWay topology w one far → LosesNone topology w one far event
    → heard_at w event far ++ coming (next topology w event) one far ≡ coming w one far ++ sent_at topology w event one

-- so along a stretch of events, where it is so of each
abbrev pub StretchesComeInOrder : Type 0
StretchesComeInOrder = (topology : Topology) (w : World) (one far : LinkEnd) (events : List Event) → IsTopology topology
    → ((front rest : List Event) (event : Event) → events ≡ front ++ event ∷ rest
    → IsOpenWay topology (world_after topology w front) one far × LosesNone topology (world_after topology w front) one far event)
    → last_marks (default_home far.port).channel (taken_in topology w events (Up far.node)) ++ coming (world_after topology w events) one far
    ≡ coming w one far ++ last_marks (default_home one.port).channel (put_in topology w events (Down one.node))

-- *The first one is heard*, where the far controller is brought the last cell of a frame of its port's default channel
abbrev pub FirstFramesAreHeard : Type 0
FirstFramesAreHeard = (topology : Topology) (w : World) (one far : LinkEnd) (cell : Cell) (cells : List Cell) → IsTopology topology
    → IsOpenWay topology w one far → queue_at w (Up far.node) ≡ cell ∷ cells → is_last_on (default_home far.port).channel cell ≡ true
    → coming w one far ≡ cell.mark ∷ coming (next topology w (Carry (Up far.node))) one far

-- *What the near controller sends comes last*, in its tick, or as it is brought a cell
abbrev pub FramesSentComeLast : Type 0
FramesSentComeLast = (topology : Topology) (w : World) (one far : LinkEnd) (event : Event) → IsTopology topology
    → IsOpenWay topology w one far → (event ≡ Tick one.node) ⊎ (event ≡ Carry (Up one.node))
    → coming (next topology w event) one far ≡ coming w one far ++ sent_at topology w event one

-- *All else leaves them*: other ticks, carries to a switch, and to another controller; and to the far one, where that ends no
-- frame of this channel
abbrev pub EndsNoneOn : Channel → List Cell → Type 0
EndsNoneOn channel [] = Unit {0}
EndsNoneOn channel (cell ∷ cells) = is_last_on channel cell ≡ false

abbrev pub IsBeside : World → (one far : LinkEnd) → Event → Type 0
IsBeside w one far (Carry (Up node)) =
    (node.0 ≢ one.node.0) × (node.0 ≡ far.node.0 → EndsNoneOn (default_home far.port).channel (queue_at w (Up far.node)))
IsBeside w one far (Carry place) = Unit {0}
IsBeside w one far (Tick node) = node.0 ≢ one.node.0
IsBeside w one far (TickSwitch node) = Unit {0}
IsBeside w one far event = ⊥

abbrev pub AllElseLeavesThem : Type 0
AllElseLeavesThem = (topology : Topology) (w : World) (one far : LinkEnd) (event : Event) → IsTopology topology
    → IsOpenWay topology w one far → LosesNone topology w one far event → IsBeside w one far event
    → coming (next topology w event) one far ≡ coming w one far
