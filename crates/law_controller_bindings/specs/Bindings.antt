-- What the labels, the joins and the chains of a controller stand for

use Rattle.std.specs.Prelude.{◌≡◌, ◌≢◌, ◌≤◌, true, List, [], ◌∷◌, ◌++◌, length, drop, Some}
use Rattle.law_controller.specs.world_model.Words.{NodeId, PortNo, number_of_channel, FlowId, flow_ttl, next_hop_of, flow_destination, best, Via, Record, Label, Wiring, is_bound, label_at, labels_of, Linked, LabelChain, joins_of, label_on, last_bound}
use Rattle.law_controller.specs.world_model.link_model.declared.record.Record.TheVariants as kinds
use Rattle.law_controller.specs.ordered_lists.Ordered.{Every}
use Rattle.law_controller.specs.world_model.Controller.{Acted}
use Rattle.law_controller.specs.world_model.Joins.{Join}
use Rattle.law_controller.specs.world_model.network_model.declared.link.LinkEnd.{LinkEnd}
use Rattle.law_controller.specs.law_controller_facts.Inputs.{Input, Meanwhile, takes_input, takes_inputs}
use Rattle.law_controller.specs.law_controller_facts.Sound.{Opening, IsOwn, opened_by}
use Rattle.law_controller.specs.Law.{IsOpening}

-- a port of a node, as the end of a link
abbrev pub site : NodeId → PortNo → LinkEnd
site node port = record { node = node; port = port }

-- *A label that is held*, and isn't being wired, has the flow that it was bound to last
abbrev pub IsBoundLast : NodeId → List Record → PortNo → Label → Type 0
IsBoundLast node records port label = label.state ≢ Wiring → last_bound records (site node port) label.number ≡ Some label.flow

abbrev pub HasBoundLabels : NodeId → List Record → Acted → Type 0
HasBoundLabels node records a = Every (λ (linked : Linked). Every (IsBoundLast node records linked.setup.port) (labels_of linked.port)) a.controller.ports

-- *A join* leads the flow that its input's label was bound to last one hop further, by the table held; where the
-- label is held, that is its flow
pub record IsLed (node : NodeId) (records : List Record) (a : Acted) (join : Join) : Type 0 where
  pub flow : FlowId
  pub bound : last_bound records (site node join.input.port) (number_of_channel join.input.channel) ≡ Some flow
  pub held : (label : Label) → label_on a.controller join.input ≡ Some label → label.flow ≡ flow
  pub lives : 2 ≤ flow_ttl flow
  pub route : best a.controller.table (flow_destination flow) ≡ Some (Via join.port)
  pub next : next_hop_of flow ≡ Some join.grant.flow

abbrev pub HasLedJoins : NodeId → List Record → Acted → Type 0
HasLedJoins node records a = Every (IsLed node records a) (joins_of a.controller)

-- *A channel of a label* that has cells, or skips, is that of a label that is bound
pub record IsOfBound (linked : Linked) (chain : LabelChain) : Type 0 where
  pub label : Label
  pub found : label_at linked.port chain.label ≡ Some label
  pub bound : is_bound label.state ≡ true

abbrev pub GathersForBound : NodeId → List Record → Acted → Type 0
GathersForBound node records a = Every (λ (linked : Linked). Every (IsOfBound linked) linked.chains) a.controller.ports

-- *What a controller noted* in its inputs, in order: in each, the records behind those before it; what others note in
-- between, or put away, isn't of them
abbrev pub noted_by : Acted → Input → List Record
noted_by a (Meanwhile notes numbers) = []
noted_by a input = drop (length a.notes.records) (takes_input a input).notes.records

abbrev pub noted_by_all : Acted → List Input → List Record
noted_by_all a [] = []
noted_by_all a (input ∷ inputs) = noted_by a input ++ noted_by_all (takes_input a input) inputs

-- in an input of its own the journal only grows, by what it noted
abbrev pub JournalsGrow : Type 0
JournalsGrow = (o : Opening) (inputs : List Input) (input : Input) → IsOpening o → IsOwn input
    → (takes_input (takes_inputs (opened_by o) inputs) input).notes.records ≡ (takes_inputs (opened_by o) inputs).notes.records ++ noted_by (takes_inputs (opened_by o) inputs) input

-- *A record that names a node* names this one; a controller notes no frame as forged
abbrev pub IsOfNode : NodeId → Record → Type 0
IsOfNode node (kinds.Delivered named packet octets) = named ≡ node
IsOfNode node (kinds.Dropped named packet cause) = named ≡ node
IsOfNode node (kinds.Refused named packet name) = named ≡ node
IsOfNode node (kinds.Bad named layer name) = named ≡ node
IsOfNode node (kinds.Opened named port) = named ≡ node
IsOfNode node (kinds.Closed named port) = named ≡ node
IsOfNode node (kinds.Bind named port label flow) = named ≡ node
IsOfNode node (kinds.Free named port label) = named ≡ node
IsOfNode node (kinds.Join named port label to_port to_label) = named ≡ node
IsOfNode node (kinds.Part named port label) = named ≡ node
IsOfNode node (kinds.Routes named number) = named ≡ node
IsOfNode node (kinds.Forged place) = ⊥
IsOfNode node item = Unit {0}

-- in every input it notes records of its own node alone
abbrev pub NotesOwn : Type 0
NotesOwn = (o : Opening) (inputs : List Input) (input : Input) → IsOpening o → Every (IsOfNode o.node) (noted_by (takes_inputs (opened_by o) inputs) input)

-- *The statement*: after every list of inputs from an opening, by what the controller noted in them
abbrev pub Always : (NodeId → List Record → Acted → Type 0) → Type 0
Always P = (o : Opening) (inputs : List Input) → IsOpening o → P o.node (noted_by_all (opened_by o) inputs) (takes_inputs (opened_by o) inputs)
