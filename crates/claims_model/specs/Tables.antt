-- The table of each node: the routes of the topology, changed by a front of the changes that events told it; and the journeys of
-- packets where no route changes

use Rattle.std.specs.Prelude.{◌≡◌, ℕ, ◌+◌, ◌-◌, ◌==◌, ◌≤◌, Bool, true, false, List, [], ◌∷◌, ◌++◌, length, take, drop, fold, filter_map, Option, None, Some, if◌then◌else◌, Contains}
use Rattle.std.specs.List.{list_any, range_with_len}
use Rattle.std.specs.Option.{option_map_or}
use Rattle.world_model.specs.Words.{NodeId, changed, RouteChange, Record, Routes, Policy, is_changed, table_to_be, Controller, changes_of, table_after, joins_of, routes_of, Topology, Node, node_at, World, controller_at, next, past_of, Fate, fate_record, journey, Past, WasAccepted}
use Rattle.world_model.specs.network_model.declared.event.Event.{Event}
use Rattle.world_model.specs.network_model.declared.event.Event.TheVariants.{Route}
use Rattle.claims_model.specs.Fronts.{world_at}

-- *A node after some events*: of the changes that they told it, in their order, it has taken so many, and the others wait.
-- Its table is that of the topology, changed by those that it took; with the others it will be that of all events
pub record HoldsTold (topology : Topology) (before : List Event) (node : NodeId) (c : Controller) : Type 0 where
  pub taken : c.changes ≤ length (changes_of node before)
  pub table : c.table ≡ fold changed (routes_of topology node) (take c.changes (changes_of node before))
  pub waiting : c.waiting ≡ drop c.changes (changes_of node before)
  pub to_be : table_to_be c ≡ table_after topology before node

-- each node of the topology has its controller, and there is no other
abbrev pub IsToldNode : Topology → (before : List Event) → NodeId → Option Node → Option Controller → Type 0
IsToldNode topology before node None None = Unit {0}
IsToldNode topology before node (Some own) (Some c) = HoldsTold topology before node c
IsToldNode topology before node own found = ⊥

-- how many changes a node has taken
abbrev pub changes_taken : World → NodeId → ℕ
changes_taken w node = option_map_or (λ c. c.changes) (controller_at w node) 0

-- *Records*: the numbers of those that say that a node took a change
abbrev pub number_told : NodeId → Record → Option ℕ
number_told node (Routes at number) = if at.0 == node.0 then Some number else None
number_told node item = None

abbrev pub numbers_told : NodeId → List Record → List ℕ
numbers_told node records = filter_map (number_told node) records

-- those of an event are the numbers of the changes that were taken in it, each once and in order
pub record TellsTaken (node : NodeId) (before after : World) : Type 0 where
  pub rises : changes_taken before node ≤ changes_taken after node
  pub numbers : numbers_told node after.notes.records
      ≡ range_with_len (changes_taken before node + 1) (changes_taken after node - changes_taken before node)

-- *When a change is taken*: a join stands against it whose flow it gives another best route
abbrev pub stands_against : Controller → RouteChange → Bool
stands_against c change = list_any (is_changed c.table change) (joins_of c)

-- one that is taken in the event that brings it changes nothing else of the controller
abbrev pub taken_at_once : Controller → RouteChange → Controller
taken_at_once c change = record c {
  table = changed c.table change;
  waiting = [];
  is_begun = false;
  changes = c.changes + 1;
}

-- where one waits and the switch is met, a join stands against the first of those that wait
abbrev pub IsHeldUp : Controller → (waiting : List RouteChange) → Type 0
IsHeldUp c [] = Unit {0}
IsHeldUp c (change ∷ later) = c.has_met ≡ true → stands_against c change ≡ true

-- a controller before and after the event that brings a change
pub record IsBrought (change : RouteChange) (before after : Controller) : Type 0 where
  pub at_once : before.has_met ≡ true → before.waiting ≡ [] → stands_against before change ≡ false
      → after ≡ taken_at_once before change
  pub held_up : IsHeldUp after after.waiting

pub record AreToldTables (policy : Policy) (topology : Topology) (events : List Event) : Type 0 where
  pub tables : (before after : List Event) → events ≡ before ++ after → (node : NodeId)
      → IsToldNode topology before node (node_at topology node) (controller_at (world_at policy topology before) node)
  pub held : (before after : List Event) → events ≡ before ++ after → (node : NodeId)
      → (past_of policy topology events).history.held node (length before)
      ≡ fold changed (routes_of topology node)
      (take (changes_taken (world_at policy topology before) node) (changes_of node before))
  pub records : (before after : List Event) (event : Event) → events ≡ before ++ event ∷ after → (node : NodeId)
      → TellsTaken node (world_at policy topology before)
      (next topology (world_at policy topology before) event)
  pub brought : (before after : List Event) (node : NodeId) (change : RouteChange) → events ≡ before ++ Route node change ∷ after
      → (c d : Controller) → controller_at (world_at policy topology before) node ≡ Some c
      → controller_at (next topology (world_at policy topology before) (Route node change)) node ≡ Some d
      → IsBrought change c d

-- an event that brings a change of a route
abbrev pub changes_route : Event → Bool
changes_route (Route node change) = true
changes_route event = false

abbrev pub ChangesNoRoute : List Event → Type 0
ChangesNoRoute events = list_any changes_route events ≡ false

-- *The journey* of the packet that was accepted under this number, over the routes that the topology gives its nodes
pub record IsJourneyOf (past : Past) (number : ℕ) (fate : Fate) : Type 0 where
  pub accepted : WasAccepted past number
  pub is : fate ≡ journey past.topology (routes_of past.topology) accepted.sent.node accepted.sent.packet

-- *All fates* that were recorded so far are journeys
abbrev pub AreJourneys : Past → Type 0
AreJourneys past = (number : ℕ) (fate : Fate) → Contains past.records (fate_record number fate) → IsJourneyOf past number fate
