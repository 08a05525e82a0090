-- A controller before its first input

use Rattle.std.specs.Prelude.{ℕ, false, ◌+◌, List, [], ◌∷◌, length, None}
use Rattle.net_types.specs.declared.prefix.Addr.{Addr}
use Rattle.net_types.specs.declared.node.NodeId.{NodeId}
use Rattle.net_types.specs.declared.number.Instance.{Instance}
use Rattle.net_types.specs.declared.adjacency.Party.{Party}
use Rattle.net_types.specs.Number.{GivenOut, next_instance}
use Rattle.ipv4_forward.specs.declared.table.Route.{Route}
use Rattle.port_model.specs.adjacency_table.declared.State.TheVariants.{SynSent}
use Rattle.port_model.specs.adjacency_table.Side.{fresh}
use Rattle.frame_model.specs.Reassembly.{nothing_taken}
use Rattle.port_model.specs.Desk.{empty_desk}
use Rattle.port_model.specs.declared.timers.Timers.{Timers}
use Rattle.port_model.specs.Setup.{Policy, Setup}
use Rattle.port_model.specs.Resets.{next_side}
use Rattle.controller_model.specs.declared.range.PortRange.{PortRange}
use Rattle.controller_model.specs.Controller.{Controller, Linked}

-- *Opening*: the party of the i-th node's controller has the name 02 00 00 00 00 i and port 0
abbrev pub controller_party : NodeId → Instance → Party
controller_party node own = record { name = 2 ∷ 0 ∷ 0 ∷ 0 ∷ 0 ∷ node.0 ∷ []; port = 0; instance = own }

-- what stays the same of its ports
abbrev pub setup_of : NodeId → Addr → Timers → Policy → PortRange → Setup
setup_of node address timers policy range = record {
  node = node;
  port = range.port;
  address = address;
  least = range.lo;
  greatest = range.hi;
  timers = timers;
  policy = policy;
}

-- a port begins in Clearing; each draws its instance after that of the node's own adjacency, ascending
abbrev pub opens_port : Setup → (instances : ℕ) → Linked
opens_port setup instances = record {
  setup = setup;
  port = record { adjacency = next_side setup instances; session = None; grants = []; redirects = 0 };
  reassembly = nothing_taken;
  chains = [];
}

abbrev pub opens_ports : (PortRange → Setup) → (instances : ℕ) → List PortRange → List Linked
opens_ports setup instances [] = []
opens_ports setup instances (range ∷ ranges) =
    opens_port (setup range) instances ∷ opens_ports setup (instances + 1) ranges

abbrev pub opened : NodeId → Addr → List Route → List PortRange → (cells : ℕ) → Timers → Policy → GivenOut → Controller
opened node address table ranges cells timers policy numbers = record {
  node = node;
  address = address;
  cells = cells;
  table = table;
  waiting = [];
  is_begun = false;
  changes = 0;
  adjacency = fresh SynSent (controller_party node (next_instance numbers));
  desk = empty_desk;
  has_met = false;
  reassembly = nothing_taken;
  ports = opens_ports (setup_of node address timers policy) (numbers.instances + 1) ranges;
  queue = [];
}

abbrev pub after_opening : List PortRange → GivenOut → GivenOut
after_opening ranges numbers = record numbers { instances = numbers.instances + (1 + length ranges) }
