-- a port of a router, its peer and a flow, for worked lives

use Rattle.std.proofs.Common.{ℕ, false, List, [], Option, None, Some}
use Rattle.std.specs.Prelude.{nat_le}
use Rattle.net_types.specs.declared.prefix.Addr.{Addr}
use Rattle.net_types.specs.declared.number.Instance.{Instance}
use Rattle.net_types.specs.declared.adjacency.HelloKind.TheVariants.{Ack}
use Rattle.net_types.specs.Label.{label_channel_of}
use Rattle.link_model.specs.ipv4_packet.declared.flow.FlowId.{FlowId}
use Rattle.link_model.specs.ipv4_packet.declared.flow.FlowId.TheVariants.{Two}
use Rattle.adjacency_table.specs.declared.State.TheVariants.{Estab}
use Rattle.ifmp_wire.specs.declared.message.Message.{Message}
use Rattle.ifmp_wire.specs.declared.message.Message.TheVariants.{Adjacency}
use Rattle.port_model.specs.Setup.{Setup}
use Rattle.port_model.specs.Labels.{Label, LabelState}
use Rattle.port_model.specs.Grants.{Grant}
use Rattle.port_model.specs.Port.{Port, Session, Work}

abbrev pub address : ℕ → Addr
address n = record { 0 = n }

abbrev pub own : Instance
own = record { 0 = 7 }

abbrev pub far : Instance
far = record { 0 = 9 }

-- labels 32 and 33; a flow is offered a label at its second packet, and kept while it is idle one tick
abbrev pub setup : Setup
setup = record {
  node = record { 0 = 1 };
  port = record { 0 = 2 };
  address = address 1;
  least = 32;
  greatest = 33;
  timers = record { lifetime = 60; refresh = 20; window = 2 };
  policy = record { offers = λ flow packets. nat_le 2 packets; keeps = λ flow idle. nat_le idle 1 };
}

abbrev pub flow : FlowId
flow = Two 4 (address 1) (address 3)

abbrev pub session : (number known : ℕ) → List Label → Session
session number known labels = record {
  number = number;
  expected = 1;
  known = known;
  least = label_channel_of 32;
  greatest = label_channel_of 33;
  labels = labels;
  counted = [];
}

abbrev pub label : (number : ℕ) → LabelState → Label
label number state = record { number = number; state = state; flow = flow; idle = 0; ticks = 0; join = None }

-- a port in Estab
abbrev pub port_with : Option Session → List Grant → Port
port_with s grants = record {
  adjacency = record {
    state = Estab;
    own = record { instance = own; address = address 1 };
    stored = Some (record { instance = far; address = address 2 });
    silence = 0;
  };
  session = s;
  grants = grants;
  redirects = 0;
}

abbrev pub at_work : Port → Work
at_work port = record { port = port; actions = []; halted = false; instances = 20 }

-- an ACK of the peer that tells which number it expects
abbrev pub ack : (next : ℕ) → Message
ack next = Adjacency (record { kind = Ack; sender = far; peer = own; identity = address 1; next = next })
