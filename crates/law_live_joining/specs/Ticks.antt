-- A label that can be joined is joined in the tick of its controller, at peace, and all joins are kept in it

use Rattle.std.specs.Prelude.{◌≡◌, ℕ, ◌≤◌, true, List, ◌∷◌, ◌++◌, length, flat_map, Contains, None, Some, false, []}
use Rattle.world_model.specs.Words.{PortNo, End, FlowId, same_flow, flow_destination, next_hop_of, best, most_asked, Standing, Label, label_on, inputs_at, join_for, may_join, port_by, Controller, Offered, Linked, label_at, label_end, linked_at}
use Rattle.world_model.specs.Controller.{Acted}
use Rattle.world_model.specs.Joins.{Join}
use Rattle.world_model.specs.Ticks.{ticks}
use Rattle.law_port_facts.specs.ordered_lists.Ordered.{Every}
use Rattle.law_live_joins.specs.Law.{move_of}
use Rattle.law_live_nodes.specs.Law.{IsNodeAtPeace}
use Rattle.law_live_ports.specs.Law.{MayJoinAll}
use Rattle.law_live_joining.specs.Joins.{IsJoinHeld, KeepsJoins}

-- *A flow leads to the grant of a join*, as far as routes and flows go: by the port of the grant, and as the grant's flow
pub record LeadsTo (c : Controller) (flow : FlowId) (join : Join) : Type 0 where
  pub port : PortNo
  pub route : port_by (best c.table (flow_destination flow)) ≡ Some port
  pub by_port : port.0 ≡ join.port.0
  pub next : FlowId
  pub hop : next_hop_of flow ≡ Some next
  pub as_flow : same_flow join.grant.flow next ≡ true

-- *A join is for one label alone*: none of these inputs but its own has a label that isn't joined and whose flow leads there
abbrev pub IsForOne : Controller → Join → (inputs : List End) → Type 0
IsForOne c join inputs =
    Every (λ (other : End). (label : Label) → label_on c other ≡ Some label → label.join ≡ None → LeadsTo c label.flow join → other ≡ join.input) inputs

-- *A label can be joined*, before the tick: its input has its turn; it may be joined, its flow leads on to a grant that the controller
-- sends under, and to this grant that of no other label leads; and the node has no more labels than requests may stand
pub record CanBeJoined (c : Controller) (label : Label) (join : Join) : Type 0 where
  pub front : List End
  pub rest : List End
  pub turn : flat_map inputs_at c.ports ≡ front ++ join.input ∷ rest
  pub there : label_on c join.input ≡ Some label
  pub may : may_join c join.input label ≡ true
  pub leads_on : join_for c join.input label.flow ≡ Some join
  pub alone : IsForOne c join (flat_map inputs_at c.ports)
  pub few : length (flat_map inputs_at c.ports) ≤ most_asked

-- *Ready at rest* is a label of a port, offered and not joined, where nothing stands at the desk and no change of routes is begun; its
-- flow leads on to a grant that the controller sends under, and to this grant that of no other label leads
pub record IsReady (c : Controller) (linked : Linked) (label : Label) (join : Join) : Type 0 where
  pub found : linked_at c linked.setup.port ≡ Some linked
  pub held : label_at linked.port label.number ≡ Some label
  pub offered : label.state ≡ Offered
  pub unjoined : label.join ≡ None
  pub nothing_asked : c.desk.standing ≡ []
  pub steady : c.is_begun ≡ false
  pub own : join.input ≡ label_end linked.setup.port label.number
  pub leads_on : join_for c join.input label.flow ≡ Some join
  pub alone : IsForOne c join (flat_map inputs_at c.ports)
  pub few : length (flat_map inputs_at c.ports) ≤ most_asked

-- so it can be joined
abbrev pub ReadyLabelsCanBeJoined : Type 0
ReadyLabelsCanBeJoined = (c : Controller) (linked : Linked) (label : Label) (join : Join) → IsReady c linked label join → CanBeJoined c label join

-- *It is joined*: the join holds, and the Move Branch of it stands at the desk
pub record IsJoinedBehind (c : Controller) (label : Label) (join : Join) : Type 0 where
  pub held : IsJoinHeld c label.flow join
  pub number : ℕ
  pub stands : Contains c.desk.standing (let s : Standing = record { number = number; request = move_of join.input join } in s)

abbrev pub TicksJoin : Type 0
TicksJoin = (a : Acted) (label : Label) (join : Join) → IsNodeAtPeace a → MayJoinAll a → CanBeJoined a.controller label join
    → IsJoinedBehind (ticks a).controller label join

-- *and all joins are kept* in the tick of a controller at peace
abbrev pub TicksKeepJoins : Type 0
TicksKeepJoins = (a : Acted) → IsNodeAtPeace a → MayJoinAll a → KeepsJoins a.controller (ticks a).controller
