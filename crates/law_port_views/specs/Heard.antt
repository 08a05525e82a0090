-- What a message of IFMP (RFC 1953) is to the line of one label, and what a port that is to send it has still
-- to say

use Rattle.std.specs.Prelude.{◌≡◌, ℕ, Bool, true, false, ◌&&◌, ◌==◌, nat_eq, nat_lt, List, [], flat_map, Option, None, Some, if◌then◌else◌}
use Rattle.std.specs.Option.{option_map_or}
use Rattle.law_port_facts.specs.port_model.Words.{Addr, Channel, Hello, HelloKind, Syn, Synack, Rstack, Ack, label_number_of, next_in, Redirect, Reclaim, ReclaimAck, LabelRange, Error, Instance, Unnumbered, last_number}
use Rattle.law_port_facts.specs.port_model.ifmp_wire.declared.message.Message.{Message}
use Rattle.law_port_facts.specs.port_model.ifmp_wire.declared.message.Message.TheVariants.{Adjacency}
use Rattle.law_label_line.specs.Cells as lines
use Rattle.law_label_line.specs.Cells.{Role, Downstream, Upstream}
use Rattle.law_port_facts.specs.port_model.declared.action.Action.{Action}
use Rattle.law_port_facts.specs.port_model.declared.action.Action.TheVariants.{Say}
use Rattle.law_port_views.specs.Flows.{flow_number}

-- *Messages*. A channel names the label
abbrev pub names : (label : ℕ) → Channel → Bool
names label channel = option_map_or (λ number. nat_eq number label) (label_number_of channel) false

-- from the end that hands the label out. The number that it expects of its peer isn't followed
abbrev pub heard_down : (label : ℕ) → Message → Option lines.Message
heard_down label (Adjacency hello) =
    Some (lines.Hello Downstream hello.kind hello.sender.0 hello.peer.0 (next_in hello.kind 1))
heard_down label (Redirect sender peer number lifetime channel flow) =
    Some (if names label channel then lines.Redirect sender.0 peer.0 number (flow_number flow) else lines.Other sender.0 peer.0 number)
heard_down label (Reclaim sender peer number channel flow) =
    Some (if names label channel then lines.Reclaim sender.0 peer.0 number (flow_number flow) else lines.Other sender.0 peer.0 number)
heard_down label (ReclaimAck sender peer number channel flow) = Some (lines.Other sender.0 peer.0 number)
heard_down label (LabelRange sender peer number least greatest) = Some (lines.Other sender.0 peer.0 number)
heard_down label (Error sender peer number code channel) = Some (lines.Other sender.0 peer.0 number)

-- from the end that may send under it: an acknowledgement of the label, and no other redirection message
abbrev pub heard_up : (label : ℕ) → Message → Option lines.Message
heard_up label (Adjacency hello) = Some (lines.Hello Upstream hello.kind hello.sender.0 hello.peer.0 hello.next)
heard_up label (ReclaimAck sender peer number channel flow) =
    if names label channel then Some (lines.ReclaimAck sender.0 peer.0 (flow_number flow)) else None
heard_up label message = None

abbrev pub heard_by : Role → (label : ℕ) → Message → Option lines.Message
heard_by Downstream label message = heard_down label message
heard_by Upstream label message = heard_up label message

-- *Addresses*: an adjacency message of an end names the other end's address, and a SYN nobody
abbrev pub is_own_hello : (far : Addr) → Hello → HelloKind → Bool
is_own_hello far hello Syn = hello.peer.0 == 0 && (hello.identity.0 == 0 && hello.next == 0)
is_own_hello far hello Synack = hello.identity.0 == far.0
is_own_hello far hello Rstack = hello.identity.0 == far.0 && hello.next == 0
is_own_hello far hello Ack = hello.identity.0 == far.0

-- a message of an end to the other end of this address, and under a number that may be used
abbrev pub is_own : (far : Addr) → Message → Bool
is_own far (Adjacency hello) = is_own_hello far hello hello.kind
is_own far (Redirect sender peer number lifetime channel flow) = nat_lt number last_number
is_own far (Reclaim sender peer number channel flow) = nat_lt number last_number
is_own far (ReclaimAck sender peer number channel flow) = nat_lt number last_number
is_own far (LabelRange sender peer number least greatest) = nat_lt number last_number
is_own far (Error sender peer number code channel) = nat_lt number last_number

abbrev pub IsOwn : (far : Addr) → Action → Type 0
IsOwn far (Say message) = is_own far message ≡ true
IsOwn far action = Unit {0}

-- one that a port may say, whatever its number
abbrev pub IsSaid : (far : Addr) → Unnumbered → Type 0
IsSaid far message = (own peer : Instance) (n : ℕ) → nat_lt n last_number ≡ true → is_own far (message own peer n) ≡ true

-- *What a port has asked and its controller hasn't done yet*, as cells of the line
abbrev pub framed : Option lines.Message → List lines.Cell
framed None = []
framed (Some message) = lines.frame message

abbrev pub asked : Role → (label : ℕ) → Action → List lines.Cell
asked by label (Say message) = framed (heard_by by label message)
asked by label action = []

abbrev pub asked_all : Role → (label : ℕ) → List Action → List lines.Cell
asked_all by label actions = flat_map (asked by label) actions
