-- Lifetimes in a run: of any topology, policy and list of events, forged frames among them

use Rattle.std.specs.Prelude.{◌≡◌, ℕ, ◌≤◌, ◌+◌, ◌==◌, ◌&&◌, Bool, true, false, List, [], ◌∷◌, Option, None, Some, if◌then◌else◌, ◌++◌}
use Rattle.std.specs.Option.{option_map_or, option_and_then}
use Rattle.world_model.specs.Words.{NodeId, PortNo, Place, Down, Up, Out, End, next_control, Cell, is_led_home, Policy, home_of, control_end, Grant, ByInput, Controller, Topology, World, controller_at, queue_at, put_away, next, world_after}
use Rattle.world_model.specs.Controller.{Acted}
use Rattle.claims_model.specs.Inputs.{Input, CellComes, PacketEnters, Ticks, Restarts, ChangeComes, FrameIsForged, CellLeaves}
use Rattle.world_model.specs.network_model.declared.event.Event.{Event}
use Rattle.world_model.specs.network_model.declared.event.Event.TheVariants.{Inject, Carry, Lose, Tick, Restart, Forge, Route}
use Rattle.world_model.specs.World.{opened}
use Rattle.claims_model.specs.Expiry.{Sets, reaches_at, has_switch, grant_at, HasEnded, HasLeft, stays_queued, SendsNone, IsConduct, EndsByReset}
use Rattle.claims_model.specs.Fronts.{world_at}

-- a controller of a world, with the notes and the numbers that it has in an event
abbrev pub acted_in : World → Controller → Acted
acted_in w c = record { controller = c; notes = (put_away w).notes; numbers = w.numbers }

-- *What comes to the controller of a node* in an event, if anything does
abbrev pub if_at : (at node : NodeId) → Option Input → Option Input
if_at at node input = if at.0 == node.0 then input else None

abbrev pub head_comes : List Cell → Option Input
head_comes [] = None
head_comes (cell ∷ cells) = Some (CellComes cell)

abbrev pub head_leaves : List Cell → Option Input
head_leaves [] = None
head_leaves (cell ∷ cells) = Some CellLeaves

abbrev pub carry_comes : World → NodeId → Place → Option Input
carry_comes w node (Down at) = if_at at node (head_leaves (queue_at w (Down at)))
carry_comes w node (Up at) = if_at at node (head_comes (queue_at w (Up at)))
carry_comes w node (Out at port) = None

abbrev pub loss_comes : World → NodeId → Place → Option Input
loss_comes w node (Down at) = if_at at node (head_leaves (queue_at w (Down at)))
loss_comes w node place = None

abbrev pub comes_to : World → NodeId → Event → Option Input
comes_to w node (Inject at octets) = if_at at node (Some (PacketEnters (w.sent + 1) octets))
comes_to w node (Carry place) = carry_comes w node place
comes_to w node (Lose place) = loss_comes w node place
comes_to w node (Tick at) = if_at at node (Some Ticks)
comes_to w node (Restart at) = if_at at node (Some Restarts)
comes_to w node (Forge (Down at) channel payload) = if_at at node (Some (FrameIsForged channel (next_control w.numbers) payload))
comes_to w node (Route at change) = if_at at node (Some (ChangeComes change))
comes_to w node event = None

-- *An event sets the lifetime* of the grant of a label at a port of a node
pub record SetsIn (w : World) (event : Event) (node : NodeId) (port : PortNo) (label lifetime : ℕ) : Type 0 where
  pub controller : Controller
  pub there : controller_at w node ≡ Some controller
  pub input : Input
  pub comes : comes_to w node event ≡ Some input
  pub sets : Sets (acted_in w controller) input port label lifetime

abbrev pub NotSetIn : World → Event → NodeId → PortNo → (label : ℕ) → Type 0
NotSetIn w event node port label = (lifetime : ℕ) → SetsIn w event node port label lifetime → ⊥

abbrev pub NoneSetsIn : Topology → World → NodeId → PortNo → (label : ℕ) → List Event → Type 0
NoneSetsIn topology w node port label [] = Unit {0}
NoneSetsIn topology w node port label (event ∷ events) = NotSetIn w event node port label × NoneSetsIn topology (next topology w event) node port label events

-- *Ticks that reach the lifetimes* of a port of a node
abbrev pub is_tick_of : NodeId → Event → Bool
is_tick_of node (Tick at) = at.0 == node.0
is_tick_of node event = false

abbrev pub reaches_in : World → NodeId → PortNo → Bool
reaches_in w node port = option_map_or (λ c. reaches_at c port) (controller_at w node) false

abbrev pub ticks_reaching : Topology → World → NodeId → PortNo → List Event → ℕ
ticks_reaching topology w node port [] = 0
ticks_reaching topology w node port (event ∷ events) =
    (if is_tick_of node event && reaches_in w node port then 1 else 0) + ticks_reaching topology (next topology w event) node port events

-- *A lifetime is counted* from its setting in a run
pub record IsCountedIn (policy : Policy) (topology : Topology) (node : NodeId) (port : PortNo) (label lifetime : ℕ) (w : World) (ticks : ℕ) : Type 0 where
  pub before : List Event
  pub setting : Event
  pub sets : SetsIn (world_after topology (opened policy topology) before) setting node port label lifetime
  pub after : List Event
  pub unset : NoneSetsIn topology (next topology (world_after topology (opened policy topology) before) setting) node port label after
  pub counted : ticks_reaching topology (next topology (world_after topology (opened policy topology) before) setting) node port after ≡ ticks
  pub now : world_after topology (next topology (world_after topology (opened policy topology) before) setting) after ≡ w

abbrev pub grant_in : World → NodeId → PortNo → (label : ℕ) → Option Grant
grant_in w node port label = option_and_then (λ c. grant_at c port label) (controller_at w node)

-- *It is set*, where the node isn't reset in the event
pub record IsSetIn (w : World) (node : NodeId) (port : PortNo) (label lifetime : ℕ) : Type 0 where
  pub controller : Controller
  pub there : controller_at w node ≡ Some controller
  pub set : has_switch controller ≡ true → HasLeft (grant_at controller port label) lifetime

-- *No frame is sent by it* in any event, until the lifetime of a grant of the label is set
abbrev pub stays_queued_in : Option Input → List Cell → List Cell
stays_queued_in None queue = queue
stays_queued_in (Some input) queue = stays_queued input queue

abbrev pub IsConductIn : Option Input → Type 0
IsConductIn None = Unit {0}
IsConductIn (Some input) = IsConduct input

-- *Its input is led back* at the end of the last tick, where it is lent before and the node isn't reset in it
pub record IsLedIn (w : World) (node : NodeId) (input : End) : Type 0 where
  pub controller : Controller
  pub there : controller_at w node ≡ Some controller
  pub led : has_switch controller ≡ true → is_led_home controller.desk input (home_of input) ≡ true

-- *All of it*, in each world of a run, also behind forged frames: an event that sets a lifetime leaves a grant with that lifetime;
-- one whose lifetime was set and has passed has ended or is leaving, no frame is sent by it, and where it is lent its input is
-- led back, unless the node is reset: nothing else ends the session with the switch there
pub record LifetimesEnd (policy : Policy) (topology : Topology) (events : List Event) : Type 0 where
  pub set : (before after : List Event) (event : Event) → events ≡ before ++ event ∷ after → (node : NodeId) (port : PortNo) (label lifetime : ℕ)
      → SetsIn (world_at policy topology before) event node port label lifetime
      → IsSetIn (next topology (world_at policy topology before) event) node port label lifetime
  pub ends : (before after : List Event) → events ≡ before ++ after → (node : NodeId) (port : PortNo) (label lifetime ticks : ℕ)
      → IsCountedIn policy topology node port label lifetime (world_at policy topology before) ticks → lifetime ≤ ticks
      → HasEnded (grant_in (world_at policy topology before) node port label)
  pub silent : (before after : List Event) (event : Event) → events ≡ before ++ event ∷ after → (node : NodeId) (port : PortNo) (label lifetime ticks : ℕ)
      → IsCountedIn policy topology node port label lifetime (world_at policy topology before) ticks → lifetime ≤ ticks
      → IsConductIn (comes_to (world_at policy topology before) node event) → NotSetIn (world_at policy topology before) event node port label
      → SendsNone (control_end port label).channel
      (stays_queued_in (comes_to (world_at policy topology before) node event) (queue_at (world_at policy topology before) (Down node)))
      (queue_at (next topology (world_at policy topology before) event) (Down node))
  pub led_back : (before after : List Event) (node : NodeId) → events ≡ before ++ Tick node ∷ after → (port : PortNo) (label lifetime ticks : ℕ)
      → IsCountedIn policy topology node port label lifetime (world_at policy topology before) ticks → lifetime ≤ ticks + 1
      → reaches_in (world_at policy topology before) node port ≡ true
      → (grant : Grant) (input : End) → grant_in (world_at policy topology before) node port label ≡ Some grant → grant.state ≡ ByInput input
      → IsLedIn (next topology (world_at policy topology before) (Tick node)) node input
  pub by_reset : (before after : List Event) → events ≡ before ++ after → (node : NodeId) (port : PortNo) (controller : Controller)
      → controller_at (world_at policy topology before) node ≡ Some controller
      → EndsByReset (acted_in (world_at policy topology before) controller) port
