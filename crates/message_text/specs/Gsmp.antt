-- GSMP messages as text (the messages are after RFC 1987; the words are this project's own)

use Rattle.std.specs.Prelude.{ℕ, ◌==◌, Bool, true, false, List, [], ◌++◌, codes, Option, None, Some, if◌then◌else◌}
use Rattle.std.specs.List.{flat_map}
use Rattle.net_types.specs.declared.adjacency.HelloKind.{HelloKind}
use Rattle.net_types.specs.declared.adjacency.HelloKind.TheVariants.{Syn, Synack, Rstack, Ack}
use Rattle.net_types.specs.declared.adjacency.Party.{Party}
use Rattle.net_types.specs.declared.channel.Channel.{Channel}
use Rattle.gsmp_wire.specs.declared.message.BranchKind.{BranchKind}
use Rattle.gsmp_wire.specs.declared.message.BranchKind.TheVariants.{Add, Delete, Verify, DeleteAll}
use Rattle.gsmp_wire.specs.declared.message.Head.{Head}
use Rattle.gsmp_wire.specs.declared.message.Message.{Message}
use Rattle.gsmp_wire.specs.declared.message.Message.TheVariants.{Adjacency, Branch, Move, Port, AllPorts}
use Rattle.gsmp_wire.specs.declared.rows.PortRow.{PortRow}
use Rattle.gsmp_wire.specs.Parts.{head_of}
use Rattle.message_text.specs.Fields.{named_number, named_octets, named_channel}

abbrev pub greeting_word : HelloKind → List ℕ
greeting_word Syn = codes "adjacency syn"
greeting_word Synack = codes "adjacency synack"
greeting_word Rstack = codes "adjacency rstack"
greeting_word Ack = codes "adjacency ack"

abbrev pub branch_word : BranchKind → List ℕ
branch_word Add = codes "addbranch"
branch_word Delete = codes "deletetree"
branch_word Verify = codes "verifytree"
branch_word DeleteAll = codes "deleteall"

-- a name, a port and an instance behind what the party is
unfoldable pub party_text : (name : List ℕ) → Party → List ℕ
party_text name party =
    named_octets name party.name ++ (named_number (codes " ") party.port ++ named_number (codes " ") party.instance.0)

-- a Result: 2 in a request, 3 in a success answer, 4 in a failure answer
unfoldable pub result_word : ℕ → List ℕ
result_word result =
    if result == 2 then codes " request" else (if result == 3 then codes " success" else codes " failure")

-- its Result, Code and Transaction
unfoldable pub head_text : Head → List ℕ
head_text head =
    result_word head.result
    ++ (named_number (codes " ") head.code ++ named_number (codes " transaction ") head.number)

abbrev pub head_text_or_none : Option Head → List ℕ
head_text_or_none None = []
head_text_or_none (Some head) = head_text head

-- a port and a channel of it behind what they are
unfoldable pub end_text : (name : List ℕ) → (port : ℕ) → Channel → List ℕ
end_text name port channel = named_number name port ++ named_channel (codes " ") channel

-- the session of a connection's input, and both ends
unfoldable pub ends_text : (session input_port : ℕ) → Channel → (output_port : ℕ) → Channel → List ℕ
ends_text session input_port input output_port output =
    named_number (codes " session ") session
    ++ (end_text (codes " input ") input_port input ++ end_text (codes " output ") output_port output)

abbrev pub tail_text : (branches priority : ℕ) → List ℕ
tail_text branches priority = named_number (codes " branches ") branches ++ named_number (codes " priority ") priority

abbrev pub state_word : Bool → List ℕ
state_word true = codes " state up"
state_word false = codes " state down"

-- the record of a port
unfoldable pub row_text : PortRow → List ℕ
row_text row =
    named_number (codes " port ") row.port
    ++ (named_number (codes " session ") row.session
    ++ (state_word row.up ++ (named_number (codes " least ") row.least ++ named_number (codes " greatest ") row.greatest)))

abbrev pub rows_text : List PortRow → List ℕ
rows_text rows = flat_map row_text rows

-- which message it is
abbrev pub word_of : Message → List ℕ
word_of (Adjacency greeting) = greeting_word greeting.kind
word_of (Branch kind result code transaction session input_port input output_port output branches priority) =
    branch_word kind
word_of (Move result code transaction session input_port input output_port output target_port target branches priority) =
    codes "movebranch"
word_of (Port result code transaction port session function) = codes "port"
word_of (AllPorts result code transaction rows) = codes "allports"

-- what stands behind the head
abbrev pub fields_text : Message → List ℕ
fields_text (Adjacency greeting) =
    party_text (codes " sender ") greeting.sender ++ party_text (codes " receiver ") greeting.receiver
fields_text (Branch kind result code transaction session input_port input output_port output branches priority) =
    ends_text session input_port input output_port output ++ tail_text branches priority
fields_text (Move result code transaction session input_port input output_port output target_port target branches priority) =
    ends_text session input_port input output_port output
    ++ (end_text (codes " new ") target_port target ++ tail_text branches priority)
fields_text (Port result code transaction port session function) =
    named_number (codes " port ") port
    ++ (named_number (codes " session ") session ++ named_number (codes " function ") function)
fields_text (AllPorts result code transaction rows) = rows_text rows

unfoldable pub gsmp_text : Message → List ℕ
gsmp_text message = word_of message ++ (head_text_or_none (head_of message) ++ fields_text message)
