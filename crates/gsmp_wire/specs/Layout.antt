-- GSMP messages as octets (RFC 1987). Numbers are big-endian; octets are counted from 0 behind the
-- LLC/SNAP header. The layouts are this project's own, after that document's.

use Rattle.std.specs.Prelude.{ℕ, Bool, true, false, List, [], ◌∷◌, ◌++◌, length, Option, Some, None}
use Rattle.std.specs.Int.{w16, w32, to_be_bytes}
use Rattle.net_types.specs.declared.adjacency.Greeting.{Greeting}
use Rattle.net_types.specs.declared.adjacency.HelloKind.{HelloKind}
use Rattle.net_types.specs.declared.adjacency.HelloKind.TheVariants.{Syn, Synack, Rstack, Ack}
use Rattle.net_types.specs.declared.channel.Channel.{Channel}
use Rattle.gsmp_wire.specs.declared.message.BranchKind.TheVariants.{Add, Delete, Verify, DeleteAll}
use Rattle.gsmp_wire.specs.declared.message.Connection.{Connection}
use Rattle.gsmp_wire.specs.declared.message.MessageType.{MessageType}
use Rattle.gsmp_wire.specs.declared.message.MessageType.TheVariants as kinds
use Rattle.gsmp_wire.specs.declared.message.Message.{Message}
use Rattle.gsmp_wire.specs.declared.message.Message.TheVariants.{Adjacency, Branch, Move, Port, AllPorts}
use Rattle.gsmp_wire.specs.declared.rows.PortRow.{PortRow}

-- LLC AA AA 03, OUI 00 00 00, protocol 88 0C (RFC 1483 4.1, RFC 1987)
abbrev pub snap_header : List ℕ
snap_header = 170 ∷ 170 ∷ 3 ∷ 0 ∷ 0 ∷ 0 ∷ 136 ∷ 12 ∷ []

-- the Message Type
abbrev pub type_number : MessageType → ℕ
type_number kinds.Adjacency = 10
type_number (kinds.Branch Add) = 16
type_number (kinds.Branch Delete) = 18
type_number (kinds.Branch Verify) = 19
type_number (kinds.Branch DeleteAll) = 20
type_number kinds.Move = 22
type_number kinds.Port = 32
type_number kinds.AllPorts = 66

-- the Code of an adjacency message
abbrev pub hello_code : HelloKind → ℕ
hello_code Syn = 1
hello_code Synack = 2
hello_code Ack = 3
hello_code Rstack = 4

-- octets 0 to 3: Version 1, Message Type, Result, Code
abbrev pub header : MessageType → (result code : ℕ) → List ℕ
header kind result code = 1 ∷ type_number kind ∷ result ∷ code ∷ []

-- octets 4 to 31 of an adjacency message: Sender Name, Receiver Name, Sender Port, Receiver Port,
-- Sender Instance, Receiver Instance
abbrev pub greeting_octets : Greeting → List ℕ
greeting_octets g =
    g.sender.name ++ (g.receiver.name ++ (
    to_be_bytes w32 g.sender.port
    ++ to_be_bytes w32 g.receiver.port
    ++ to_be_bytes w32 g.sender.instance.0
    ++ to_be_bytes w32 g.receiver.instance.0))

-- one end of a connection: Port, VPI, VCI
abbrev pub end_octets : (port : ℕ) → Channel → List ℕ
end_octets port channel = to_be_bytes w32 port ++ to_be_bytes w16 channel.vpi ++ to_be_bytes w16 channel.vci

-- octets 4 to 31 of a connection message: Transaction, Port Session Number, input end, output end,
-- Branches, 0, Priority
abbrev pub connection_octets : Connection → List ℕ
connection_octets c =
    to_be_bytes w32 c.transaction
    ++ to_be_bytes w32 c.session
    ++ end_octets c.input_port c.input
    ++ end_octets c.output_port c.output
    ++ to_be_bytes w16 c.branches
    ++ (0 ∷ c.priority ∷ [])

-- the record of a port: Port, Port Session Number, state (1 up, 2 down), 0, least VCI, greatest
-- VCI, 0 0
abbrev pub state_octet : (up : Bool) → ℕ
state_octet true = 1
state_octet false = 2

abbrev pub row_octets : PortRow → List ℕ
row_octets r =
    to_be_bytes w32 r.port
    ++ to_be_bytes w32 r.session
    ++ (state_octet r.up ∷ 0 ∷ [])
    ++ to_be_bytes w16 r.least
    ++ to_be_bytes w16 r.greatest
    ++ (0 ∷ 0 ∷ [])

abbrev pub rows_octets : List PortRow → List ℕ
rows_octets [] = []
rows_octets (r ∷ rows) = row_octets r ++ rows_octets rows

-- a connection by its fields, in their order
abbrev pub connection : (transaction session input_port : ℕ) → Channel → (output_port : ℕ) → Channel → (branches priority : ℕ) → Connection
connection transaction session input_port input output_port output branches priority = record {
  transaction = transaction;
  session = session;
  input_port = input_port;
  input = input;
  output_port = output_port;
  output = output;
  branches = branches;
  priority = priority;
}

-- the connection that a message is about, where it is about one
abbrev pub connection_of : Message → Option Connection
connection_of (Branch _ _ _ transaction session input_port input output_port output branches priority) =
    Some (connection transaction session input_port input output_port output branches priority)
connection_of (Move _ _ transaction session input_port input output_port output _ _ branches priority) =
    Some (connection transaction session input_port input output_port output branches priority)
connection_of message = None

-- octets 4 on
--   Adjacency: the names, ports and instances of the two parties
--   Add Branch, Delete Tree, Verify Tree, Delete All: the fields of the connection
--   Move Branch: the fields of the connection, New Output Port, VPI, VCI
--   Port Management: Transaction, Port, Port Session Number, Function, 0 0 0
--   All Ports: Transaction, number of records, 0 0, the records
abbrev pub message_octets : Message → List ℕ
message_octets (Adjacency g) =
    header kinds.Adjacency 0 (hello_code g.kind) ++ greeting_octets g
message_octets (Branch kind result code transaction session input_port input output_port output
    branches priority) =
    header (kinds.Branch kind) result code
    ++ connection_octets (connection transaction session input_port input output_port output branches priority)
message_octets (Move result code transaction session input_port input output_port output
    target_port target branches priority) =
    header kinds.Move result code
    ++ connection_octets (connection transaction session input_port input output_port output branches priority)
    ++ end_octets target_port target
message_octets (Port result code transaction port session function) =
    header kinds.Port result code
    ++ to_be_bytes w32 transaction
    ++ to_be_bytes w32 port
    ++ to_be_bytes w32 session
    ++ (function ∷ 0 ∷ 0 ∷ 0 ∷ [])
message_octets (AllPorts result code transaction rows) =
    header kinds.AllPorts result code
    ++ to_be_bytes w32 transaction
    ++ to_be_bytes w16 (length rows)
    ++ (0 ∷ 0 ∷ rows_octets rows)

-- the one list of octets of a message
abbrev pub octets_of : Message → List ℕ
octets_of m = snap_header ++ message_octets m
