-- A node stays mirrored in a network, so each request that a carry brings its switch is carried out

use Rattle.std.specs.Prelude.{◌≡◌, ◌≢◌, true, List, [], ◌∷◌, ◌++◌, Some}
use Rattle.world_model.specs.Words.{NodeId, Down, Up, Out, End, Cell, Frame, Branches, Request, default_channel, Standing, is_estab, Controller, Topology, World, Site, site_at, queue_at, IsTopology, next, world_after, CountsAsItsFrame}
use Rattle.world_model.specs.Controller.{Acted}
use Rattle.world_model.specs.network_model.declared.event.Event.{Event}
use Rattle.world_model.specs.network_model.declared.event.Event.TheVariants.{Inject, Carry, Tick, TickSwitch}
use Rattle.world_model.specs.switch_model.declared.request.Asked.{Asked}
use Rattle.law_port_facts.specs.ordered_lists.Ordered.{Every}
use Rattle.law_passing.specs.telling_model.Passing.{cells_put_at}
use Rattle.law_running_worlds.specs.law_shown_cells.Seen.{Extends}
use Rattle.law_live_control_links.specs.Law.{IsCalmLink, IsSteady, IsTrueEvent, IsUnspentAt, CarriesOutNext, ControllerListens, SwitchListens}
use Rattle.law_live_orders.specs.Law.{is_last_on, last_marks}
use Rattle.law_live_orders.specs.Slots.{IsUnlost}
use Rattle.law_live_mirrors.specs.Mirrors.{Mirrors}
use Rattle.law_live_mirrors.specs.Fit.{IsFit}
use Rattle.law_live_mirrors.specs.Asking.{AsksMirrored}
use Rattle.law_live_mirrors.specs.Answers.{HearsMirrored}
use Rattle.law_live_mirrored_worlds.specs.Way.{Asks, AsksNothing, AreAsked, requests_of, IsMirroredBy, IsMirroredIn}

-- *What was made stays* behind an event, and the switch of a node is in Estab
abbrev pub FramesStay : Topology → World → Event → Type 0
FramesStay topology w event = Extends w.notes.frames (next topology w event).notes.frames

abbrev pub SwitchIsUp : World → NodeId → Type 0
SwitchIsUp w node = (site : Site) → site_at w node ≡ Some site → is_estab site.switch.adjacency.state ≡ true

-- *At rest* nothing is on the way
abbrev pub RestsMirror : Type 0
RestsMirror = (w : World) (node : NodeId) (site : Site) → site_at w node ≡ Some site → queue_at w (Down node) ≡ []
    → ((input : End) → Mirrors site.controller.ports site.controller.desk site.switch.crossbar.branches [] input) → IsMirroredBy w node []

-- *The request that a carry would bring next* is carried out
abbrev pub MirrorsCarryOut : Type 0
MirrorsCarryOut = (w : World) (node : NodeId) → SwitchIsUp w node → IsMirroredIn w node → CarriesOutNext w node

-- *What a carry takes off the way*: the first request, where the cell ends the frame that asks it; and else nothing
pub data TakesOff (frames : List Frame) (cell : Cell) : (way left : List Asked) → Type 0 where
  first : (asked : Asked) (left : List Asked) → is_last_on default_channel cell ≡ true → Asks frames cell.mark asked
      → TakesOff frames cell (asked ∷ left) left
  nothing : (way : List Asked) → (is_last_on default_channel cell ≡ true → AsksNothing frames cell.mark) → TakesOff frames cell way way

abbrev pub Leaves : List Frame → (queue : List Cell) → (way left : List Asked) → Type 0
Leaves frames [] way left = left ≡ way
Leaves frames (cell ∷ cells) way left = TakesOff frames cell way left

-- *So the node is mirrored behind it*, with what it leaves, where no frame passes by chance and the ledger has no entry of its cell
pub record IsMirroredBehind (topology : Topology) (w : World) (node : NodeId) (way : List Asked) : Type 0 where
  pub left : List Asked
  pub leaves : Leaves w.notes.frames (queue_at w (Down node)) way left
  pub mirrored : IsMirroredBy (next topology w (Carry (Down node))) node left

abbrev pub CarriesDownMirror : Type 0
CarriesDownMirror = (topology : Topology) (w : World) (node : NodeId) (way : List Asked) → SwitchIsUp w node
    → CountsAsItsFrame w (Carry (Down node)) → IsUnlost topology w (Down node) → FramesStay topology w (Carry (Down node))
    → IsMirroredBy w node way → IsMirroredBehind topology w node way

-- *All else* leaves it so: packets that enter elsewhere, carries from other controllers and to them, cells that come over links, ticks of
-- other controllers and of switches
abbrev pub IsBeside : NodeId → Event → Type 0
IsBeside node (Inject here octets) = here.0 ≢ node.0
IsBeside node (Carry (Down here)) = here.0 ≢ node.0
IsBeside node (Carry (Up here)) = here.0 ≢ node.0
IsBeside node (Carry (Out here port)) = Unit {0}
IsBeside node (Tick here) = here.0 ≢ node.0
IsBeside node (TickSwitch here) = Unit {0}
IsBeside node event = ⊥

abbrev pub AllElseMirrors : Type 0
AllElseMirrors = (topology : Topology) (w : World) (node : NodeId) (event : Event) (way : List Asked) → IsTopology topology
    → IsBeside node event → FramesStay topology w event → IsMirroredBy w node way → IsMirroredBy (next topology w event) node way

-- *A controller keeps its inputs mirrored* with these last on the way, as `law_live_mirrors` has it of what it asks and hears
abbrev pub Keeps : (before after : Controller) → List Request → Type 0
Keeps before after requests = (branches : Branches) (way : List Request) (input : End)
    → Mirrors before.ports before.desk branches way input → Mirrors after.ports after.desk branches (way ++ requests) input

pub record StepsKeep : Type 0 where
  pub asks : (a after : Acted) (requests : List Request) → AsksMirrored a after requests → Keeps a.controller after.controller requests
  pub hears : (a after : Acted) (s : Standing) → HearsMirrored a after s → Keeps a.controller after.controller []
  pub both : (a b c : Controller) (first later : List Request) → Keeps a b first → Keeps b c later → Keeps a c (first ++ later)

-- *It asks these in an event*: the frames that it puts into its queue ask them, each of them fit, and its inputs are kept mirrored
pub record AsksIn (topology : Topology) (w : World) (node : NodeId) (event : Event) (asked : List Asked) : Type 0 where
  pub puts : AreAsked (next topology w event).notes.frames (last_marks default_channel (cells_put_at topology w event (Down node))) asked
  pub fit : (site : Site) → site_at w node ≡ Some site → Every (IsFit site.switch) asked
  pub keeps : (site now : Site) → site_at w node ≡ Some site → site_at (next topology w event) node ≡ Some now
      → Keeps site.controller now.controller (requests_of asked)

-- so they come last on the way, as a packet enters there, as it is brought a cell, and in its tick
abbrev pub ActsAt : NodeId → Event → Type 0
ActsAt node (Inject here octets) = here ≡ node
ActsAt node (Carry (Up here)) = here ≡ node
ActsAt node (Tick here) = here ≡ node
ActsAt node event = ⊥

abbrev pub ControllersMirror : Type 0
ControllersMirror = (topology : Topology) (w : World) (node : NodeId) (event : Event) (way asked : List Asked)
    → ActsAt node event → FramesStay topology w event → AsksIn topology w node event asked → IsMirroredBy w node way
    → IsMirroredBy (next topology w event) node (way ++ asked)

-- *An event goes on so* for a node: what it hears of its own controller is whole, what its controller does keeps its inputs mirrored
pub record AsksSome (topology : Topology) (w : World) (node : NodeId) (event : Event) : Type 0 where
  pub asked : List Asked
  pub asks : AsksIn topology w node event asked

pub record HearsWhole (topology : Topology) (w : World) (node : NodeId) : Type 0 where
  pub counts : CountsAsItsFrame w (Carry (Down node))
  pub unlost : IsUnlost topology w (Down node)

abbrev pub GoesOn : Topology → World → NodeId → Event → Type 0
GoesOn topology w node (Carry (Down here)) = here.0 ≡ node.0 → HearsWhole topology w here
GoesOn topology w node (Carry (Up here)) = here.0 ≡ node.0 → AsksSome topology w here (Carry (Up here))
GoesOn topology w node (Carry (Out here port)) = Unit {0}
GoesOn topology w node (Tick here) = ControllerListens w here × (here.0 ≡ node.0 → AsksSome topology w here (Tick here))
GoesOn topology w node (TickSwitch here) = SwitchListens w here
GoesOn topology w node event = ⊥

pub record IsCalmEvent (topology : Topology) (w : World) (node : NodeId) (event : Event) : Type 0 where
  pub steady : IsSteady topology w node
  pub true_event : IsTrueEvent topology w event
  pub unspent : IsUnspentAt (next topology w event) node
  pub goes_on : GoesOn topology w node event

-- *Along a stretch* of such events the control link stays calm, the node mirrored, and each request that comes next is carried out
pub record IsCalmlyMirrored (w : World) (node : NodeId) : Type 0 where
  pub calm : IsCalmLink w node
  pub mirrored : IsMirroredIn w node

pub record CarriesOut (w : World) (node : NodeId) : Type 0 where
  pub stays : IsCalmlyMirrored w node
  pub next_one : CarriesOutNext w node

abbrev pub StretchesCarryOut : Type 0
StretchesCarryOut = (topology : Topology) (w : World) (node : NodeId) (events : List Event) → IsCalmlyMirrored w node
    → ((front rest : List Event) (event : Event) → events ≡ front ++ event ∷ rest → IsCalmEvent topology (world_after topology w front) node event)
    → (front rest : List Event) → events ≡ front ++ rest → CarriesOut (world_after topology w front) node
