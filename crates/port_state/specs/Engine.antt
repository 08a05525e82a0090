-- What a port's engine is seen as, and what its calls make of it

use Rattle.std.specs.Prelude.{◌≡◌, ℕ, ◌≤◌, Option, None, Some, filter, if◌then◌else◌}
use Rattle.std.specs.Option.{option_and_then}
use Rattle.net_types.specs.declared.prefix.Addr.{Addr}
use Rattle.net_types.specs.declared.node.NodeId.{NodeId}
use Rattle.net_types.specs.declared.node.PortNo.{PortNo}
use Rattle.ipv4_packet.specs.declared.flow.FlowId.{FlowId}
use Rattle.label_pool.specs.Pool.{Pool}
use Rattle.port_labels.specs.Book.{Book}
use Rattle.grant_table.specs.Table.{Table}
use Rattle.port_state.specs.declared.setup.PortSetup.{PortSetup}
use Rattle.port_model.specs.declared.timers.Timers.{Timers}
use Rattle.port_model.specs.Setup.{Policy, Setup, label_numbers}
use Rattle.port_model.specs.Labels.{Label, is_bound, is_spare}
use Rattle.port_model.specs.Port.{Port, Session, label_at}

-- what stays the same of a port, with its policy as the value that the port was given
abbrev pub Fixed : (P : Type 0) → Type 0
Fixed P = PortSetup P

pub record Engine (P : Type 0) : Type 0 where
  pub fixed : Fixed P
  pub port : Port

-- as the definitions of a port have it, where a policy is a pair of functions
abbrev pub setup_of : {P : Type 0} → (P → Policy) → Fixed P → Setup
setup_of meaning fixed = record {
  node = fixed.node;
  port = fixed.port;
  address = fixed.address;
  least = fixed.least;
  greatest = fixed.greatest;
  timers = fixed.timers;
  policy = meaning fixed.policy;
}

-- the times are within their limits
pub record AreTimes (timers : Timers) : Type 0 where
  pub lifetime : 1 ≤ timers.lifetime
  pub refresh : 1 ≤ timers.refresh
  pub window_least : 1 ≤ timers.window
  pub window_most : timers.window ≤ 64

-- *What is lent*: the book of the labels that are held; the pool with all others
abbrev pub IsBookOf : {P : Type 0} → Engine P → Session → Book → Type 0
IsBookOf engine s book = book.labels ≡ s.labels

pub record IsPoolOf {P : Type 0} (engine : Engine P) (s : Session) (pool : Pool) : Type 0 where
  pub instance : pool.instance ≡ engine.port.adjacency.own.instance
  pub least : pool.least ≡ engine.fixed.least
  pub greatest : pool.greatest ≡ engine.fixed.greatest
  pub from : pool.from ≡ s.least
  pub to : pool.to ≡ s.greatest
  pub spare : (meaning : P → Policy) → pool.spare ≡ filter (is_spare s.labels) (label_numbers (setup_of meaning engine.fixed))

pub record IsTableOf {P : Type 0} (engine : Engine P) (table : Table) : Type 0 where
  pub least : table.least ≡ engine.fixed.least
  pub greatest : table.greatest ≡ engine.fixed.greatest
  pub grants : table.grants ≡ engine.port.grants

-- the flow that a label is bound to
abbrev pub bound_flow : Label → Option FlowId
bound_flow label = if is_bound label.state then Some label.flow else None

abbrev pub flow_at : Port → (number : ℕ) → Option FlowId
flow_at port number = option_and_then bound_flow (label_at port number)
