-- What holds of one controller, whatever cells come

use Rattle.std.specs.Prelude.{◌≡◌, ◌≢◌, ℕ, ◌≤◌, ◌<◌, ◌+◌, true, false, List, [], length, map, Some}
use Rattle.claims_model.specs.world_model.Words.{End, NodeId, PortNo, Addr, GivenOut, Journal, IsSide, is_estab, is_delete_all, Standing, last_transaction, Timers, Setup, Policy, Controller, Linked, setup_of, after_opening}
use Rattle.claims_model.specs.world_model.ipv4_forward.declared.table.Route.{Route}
use Rattle.law_port_facts.specs.ordered_lists.Ordered.{Every, InOrder}
use Rattle.claims_model.specs.world_model.port_model.Requests.{request_input}
use Rattle.law_port_facts.specs.Port.{setup_port, IsPort, IsShut, IsShaped}
use Rattle.claims_model.specs.world_model.controller_model.declared.range.PortRange.{PortRange}
use Rattle.claims_model.specs.world_model.Controller.{Acted}
use Rattle.claims_model.specs.world_model.Opening.{opened}
use Rattle.claims_model.specs.Inputs.{Input, Meanwhile, takes_input, takes_inputs}

abbrev pub linked_setup : Linked → Setup
linked_setup linked = linked.setup

abbrev pub IsLinkedPort : List Setup → Linked → Type 0
IsLinkedPort setups linked = IsPort setups linked.setup linked.port

abbrev pub AreApart : Setup → Setup → Type 0
AreApart x y = setup_port x ≢ setup_port y

-- *The ports*: what stays the same of them does, no two have one number, and each is a port as law_port_facts says
pub record ArePorts (setups : List Setup) (ports : List Linked) : Type 0 where
  pub same : map linked_setup ports ≡ setups
  pub apart : InOrder AreApart setups
  pub each : Every (IsLinkedPort setups) ports

-- *Before the switch is met* every port is shut
abbrev pub IsShutLinked : Linked → Type 0
IsShutLinked linked = IsShut linked.port

-- *The desk*: nothing stands but in Estab with the switch, and the switch is met in Estab alone; what stands has
-- numbers that rise in the order of asking, below the next one; no two requests stand on one input, and no
-- two Delete All of one port
abbrev pub IsEarlier : Standing → Standing → Type 0
IsEarlier x y = x.number < y.number

abbrev pub HaveOwnInputs : Standing → Standing → Type 0
HaveOwnInputs x y = (input : End) → request_input x.request ≡ Some input → request_input y.request ≢ Some input

abbrev pub HaveOwnPorts : Standing → Standing → Type 0
HaveOwnPorts x y = (port : PortNo) → is_delete_all port x.request ≡ true → is_delete_all port y.request ≡ false

pub record IsDesk (c : Controller) : Type 0 where
  pub waits : is_estab c.adjacency.state ≡ false → c.desk.standing ≡ []
  pub met : c.has_met ≡ true → is_estab c.adjacency.state ≡ true
  pub below : Every (λ (s : Standing). s.number < c.desk.next) c.desk.standing
  pub earlier : InOrder IsEarlier c.desk.standing
  pub own_inputs : InOrder HaveOwnInputs c.desk.standing
  pub own_ports : InOrder HaveOwnPorts c.desk.standing
  pub room : c.desk.next ≤ last_transaction

-- *Requests*: each that stands has one of the shapes that a controller asks
abbrev pub AreShaped : List Setup → List Standing → Type 0
AreShaped setups standing = Every (λ (s : Standing). IsShaped setups s.request) standing

-- all of it
pub record IsSound (setups : List Setup) (c : Controller) : Type 0 where
  pub side : IsSide c.adjacency
  pub ports : ArePorts setups c.ports
  pub requests : AreShaped setups c.desk.standing
  pub desk : IsDesk c
  pub unmet : c.has_met ≡ false → Every IsShutLinked c.ports

-- the ports with which a controller is opened have different numbers
abbrev pub DifferInPort : PortRange → PortRange → Type 0
DifferInPort x y = x.port.0 ≢ y.port.0

abbrev pub setups_of : NodeId → Addr → Timers → Policy → List PortRange → List Setup
setups_of node address timers policy ranges = map (setup_of node address timers policy) ranges

-- *An opening*: how a controller is opened in a run
pub record Opening : Type 0 where
  pub node : NodeId
  pub address : Addr
  pub table : List Route
  pub ranges : List PortRange
  pub cells : ℕ
  pub timers : Timers
  pub policy : Policy
  pub notes : Journal
  pub numbers : GivenOut

abbrev pub opened_by : Opening → Acted
opened_by o = record {
  controller = opened o.node o.address o.table o.ranges o.cells o.timers o.policy o.numbers;
  notes = o.notes;
  numbers = after_opening o.ranges o.numbers;
}

abbrev pub setups_by : Opening → List Setup
setups_by o = setups_of o.node o.address o.timers o.policy o.ranges

-- what holds of a controller after every list of inputs
abbrev pub Always : (List Setup → Controller → Type 0) → Type 0
Always P = (o : Opening) (inputs : List Input) → InOrder DifferInPort o.ranges → P (setups_by o) (takes_inputs (opened_by o) inputs).controller

-- its parts
abbrev pub HasSoundSide : List Setup → Controller → Type 0
HasSoundSide setups c = IsSide c.adjacency

abbrev pub HasSoundPorts : List Setup → Controller → Type 0
HasSoundPorts setups c = ArePorts setups c.ports

abbrev pub HasShapedRequests : List Setup → Controller → Type 0
HasShapedRequests setups c = AreShaped setups c.desk.standing

abbrev pub HasSoundDesk : List Setup → Controller → Type 0
HasSoundDesk setups c = IsDesk c

abbrev pub HasShutPorts : List Setup → Controller → Type 0
HasShutPorts setups c = c.has_met ≡ false → Every IsShutLinked c.ports

-- what an input draws: numbers never fall, but as others are given them
abbrev pub IsOwn : Input → Type 0
IsOwn (Meanwhile notes numbers) = ⊥
IsOwn input = Unit {0}

pub record NeverFall (before after : GivenOut) : Type 0 where
  pub instances : before.instances ≤ after.instances
  pub controls : before.controls ≤ after.controls

abbrev pub NumbersNeverFall : Type 0
NumbersNeverFall = (o : Opening) (inputs : List Input) (input : Input) → InOrder DifferInPort o.ranges → IsOwn input
    → NeverFall (takes_inputs (opened_by o) inputs).numbers (takes_input (takes_inputs (opened_by o) inputs) input).numbers

-- with at most 8 ports one input draws at most 20 instances
abbrev pub DrawsFewInstances : Type 0
DrawsFewInstances = (o : Opening) (inputs : List Input) (input : Input) → InOrder DifferInPort o.ranges → length o.ranges ≤ 8 → IsOwn input
    → (takes_input (takes_inputs (opened_by o) inputs) input).numbers.instances ≤ (takes_inputs (opened_by o) inputs).numbers.instances + 20

-- and at most 1,000,000 control marks
abbrev pub DrawsFewMarks : Type 0
DrawsFewMarks = (o : Opening) (inputs : List Input) (input : Input) → InOrder DifferInPort o.ranges → length o.ranges ≤ 8 → IsOwn input
    → (takes_input (takes_inputs (opened_by o) inputs) input).numbers.controls ≤ (takes_inputs (opened_by o) inputs).numbers.controls + 1000000
