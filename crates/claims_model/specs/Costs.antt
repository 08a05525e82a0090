-- What a frame may cause where it comes, in carries of cells: each message weighs more than all that answers it. The numbers
-- are upper bounds, and this project's own.

use Rattle.std.specs.Prelude.{ℕ, zero, suc, ◌+◌, ◌*◌, ◌==◌, List, [], ◌∷◌, drop, Option, None, Some, Result, Ok, Err, if◌then◌else◌}
use Rattle.world_model.specs.Words.{HelloKind, Syn, Synack, Ack, Rstack, protocol_of, ttl_of, PacketFault, default_unwrapped, EncapsFault, LabelState, Wiring, Offered, Recalled, Wired, control_protocol}
use Rattle.world_model.specs.ipv4_packet.Packet.{first_fault}
use Rattle.world_model.specs.ifmp_wire.declared.message.Message as ifmp
use Rattle.world_model.specs.ifmp_wire.declared.message.Message.TheVariants as told
use Rattle.world_model.specs.ifmp_wire.declared.reader.Fault as ifmp_faults
use Rattle.world_model.specs.ifmp_wire.Fields.{decoded as ifmp_decoded}
use Rattle.world_model.specs.gsmp_wire.declared.message.Message as gsmp
use Rattle.world_model.specs.gsmp_wire.declared.message.Message.TheVariants as said
use Rattle.world_model.specs.gsmp_wire.declared.fault.Fault as gsmp_faults
use Rattle.world_model.specs.gsmp_wire.Fields.{decoded as gsmp_decoded}

-- the sum over a list
abbrev pub total_weight : {A : Type 0} → (A → ℕ) → List A → ℕ
total_weight weigh [] = 0
total_weight weigh (x ∷ xs) = weigh x + total_weight weigh xs

-- *Frames* have at most 32 cells, each of which is carried three times at most off labels: from the controller, over the
-- link, to the controller. A switch's own are carried once
abbrev pub frame_weight : ℕ
frame_weight = 96

abbrev pub answer_weight : ℕ
answer_weight = 32

-- a request, and its answer
abbrev pub request_weight : ℕ
request_weight = frame_weight + answer_weight

-- *Meeting the switch*: the answer to Delete All may have the default branches of 8 ports asked; a reset asks Delete All of
-- its port; the answer to All Ports may have Delete All of 8 ports and of port 0 asked
abbrev pub deleting_weight : ℕ
deleting_weight = 16 * request_weight

abbrev pub reset_weight : ℕ
reset_weight = request_weight + deleting_weight

abbrev pub listing_weight : ℕ
listing_weight = 9 * reset_weight

abbrev pub meeting_weight : ℕ
meeting_weight = request_weight + listing_weight

-- *Adjacencies*: a message is answered by one of a kind below its own, or begins a meeting, or resets
abbrev pub rank : HelloKind → ℕ
rank Syn = 3
rank Synack = 2
rank Ack = 1
rank Rstack = 0

abbrev pub greeting_weight : HelloKind → ℕ
greeting_weight kind = rank kind * (frame_weight + meeting_weight)

abbrev pub hello_weight : HelloKind → ℕ
hello_weight kind = reset_weight + rank kind * frame_weight

-- *GSMP*: what comes to a switch, and to a controller, whose desk pays for what an answer causes
abbrev pub asking_cost : gsmp.Message → ℕ
asking_cost (said.Adjacency greeting) = greeting_weight greeting.kind
asking_cost message = answer_weight

abbrev pub answering_cost : gsmp.Message → ℕ
answering_cost (said.Adjacency greeting) = greeting_weight greeting.kind
answering_cost message = 0

abbrev pub if_said : (gsmp.Message → ℕ) → Result gsmp.Message gsmp_faults.Fault → ℕ
if_said cost (Err fault) = 0
if_said cost (Ok message) = cost message

abbrev pub switch_cost : (payload : List ℕ) → ℕ
switch_cost payload = if_said asking_cost (gsmp_decoded payload)

abbrev pub controller_cost : (payload : List ℕ) → ℕ
controller_cost payload = if_said answering_cost (gsmp_decoded payload)

-- *IFMP*: words that nothing answers; where they spend the port's numbers it is to be reset, and is. A REDIRECT or a RECLAIM
-- may have a request asked, and is answered by such words
abbrev pub spending_weight : ℕ
spending_weight = 2 * reset_weight

abbrev pub words_weight : ℕ
words_weight = frame_weight + spending_weight

abbrev pub redirection_weight : ℕ
redirection_weight = request_weight + words_weight

abbrev pub message_cost : ifmp.Message → ℕ
message_cost (told.Adjacency hello) = hello_weight hello.kind
message_cost (told.Redirect sender peer number lifetime label flow) = redirection_weight
message_cost (told.Reclaim sender peer number label flow) = redirection_weight
message_cost message = 0

-- *Labels*: one that is being wired is to be offered, then recalled, then freed
abbrev pub naming_weight : ℕ
naming_weight = words_weight + redirection_weight

abbrev pub label_cost : LabelState → ℕ
label_cost Wiring = 2 * naming_weight + 2 * request_weight
label_cost Offered = naming_weight + 2 * request_weight
label_cost (Recalled last acknowledged) = request_weight
label_cost Wired = 0

-- *Packets*: one on a default channel may have a label wired, and each goes on with a Time To Live that is one less: in a frame
-- on a default channel, or under a label, whose cells weigh their packet's Time To Live more
abbrev pub offer_weight : ℕ
offer_weight = request_weight + label_cost Wiring

abbrev pub forwarding : (ttl : ℕ) → ℕ
forwarding zero = 0
forwarding (suc left) = (frame_weight + 32 * left) + (offer_weight + forwarding left)

abbrev pub if_told : Result ifmp.Message ifmp_faults.Fault → ℕ
if_told (Err fault) = 0
if_told (Ok message) = message_cost message

abbrev pub packet_cost : (packet : List ℕ) → Option PacketFault → ℕ
packet_cost packet (Some fault) = 0
packet_cost packet None =
    if protocol_of packet == control_protocol then if_told (ifmp_decoded (drop 20 packet))
    else offer_weight + forwarding (ttl_of packet)

abbrev pub if_unwrapped : Result (List ℕ) EncapsFault → ℕ
if_unwrapped (Err fault) = 0
if_unwrapped (Ok packet) = packet_cost packet (first_fault packet)

abbrev pub default_cost : (payload : List ℕ) → ℕ
default_cost payload = if_unwrapped (default_unwrapped payload)
