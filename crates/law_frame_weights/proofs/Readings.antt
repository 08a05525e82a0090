-- what is read in a frame costs no more than what was said in it

use Rattle.std.proofs.Common.{◌≡◌, ℕ, ◌≤◌, ◌+◌, ◌*◌, Bool, true, false, List, ◌∷◌, drop, Option, None, Some, Result, Ok, Err, refl, ◌∙◌, ap, arith, if◌then◌else◌}
use Rattle.std.specs.Prelude.{◌==◌, slice_index}
use Rattle.law_port_weights.specs.world_model.Words.{Addr, HelloKind, Syn, Synack, Ack, Rstack, protocol_of, ttl_of, ifmp_packet_of, PacketFault, default_payload, refusal, type_of, control_protocol}
use Rattle.law_port_weights.specs.world_model.ipv4_packet.Packet.{first_fault}
use Rattle.law_port_weights.specs.world_model.gsmp_wire.declared.message.BranchKind.TheVariants as kinds
use Rattle.law_port_weights.specs.world_model.gsmp_wire.declared.message.Message as gsmp
use Rattle.law_port_weights.specs.world_model.gsmp_wire.declared.message.Message.TheVariants as said
use Rattle.law_port_weights.specs.world_model.gsmp_wire.declared.fault.Fault as gsmp_faults
use Rattle.law_port_weights.specs.world_model.gsmp_wire.Fields as gsmp_fields
use Rattle.law_port_weights.specs.world_model.gsmp_wire.Layout as gsmp_layout
use Rattle.law_port_weights.specs.world_model.gsmp_wire.Layout.{octets_of as gsmp_octets}
use Rattle.law_port_weights.specs.world_model.ifmp_wire.declared.message.Message as ifmp
use Rattle.law_port_weights.specs.world_model.ifmp_wire.declared.message.Message.TheVariants as told
use Rattle.law_port_weights.specs.world_model.ifmp_wire.declared.reader.Fault as ifmp_faults
use Rattle.law_port_weights.specs.world_model.ifmp_wire.Fields as ifmp_fields
use Rattle.law_port_weights.specs.world_model.ifmp_wire.Message as ifmp_layout
use Rattle.law_port_weights.specs.world_model.ifmp_wire.Message.{octets_of as ifmp_octets}
use Rattle.law_port_weights.specs.world_model.ifmp_wire.Tests as tests
use Rattle.law_wire.proofs.Packets.{protocol_is, message_is, unwrapped_again}
use Rattle.law_port_weights.specs.claims_model.Costs.{rank, answer_weight, frame_weight, meeting_weight, greeting_weight, hello_weight, asking_cost, answering_cost, if_said, switch_cost, controller_cost, message_cost, if_told, offer_weight, forwarding, packet_cost, if_unwrapped, default_cost}

-- *GSMP*
greeting_again : (kind : HelloKind) → rank (gsmp_fields.hello_kind (gsmp_layout.hello_code kind)) ≡ rank kind
greeting_again Syn = refl
greeting_again Synack = refl
greeting_again Ack = refl
greeting_again Rstack = refl

weight_again : (a b : ℕ) → a ≡ b → a * (frame_weight + meeting_weight) ≤ b * (frame_weight + meeting_weight)
weight_again a b e = omega (arith, e)

module _ (cost : gsmp.Message → ℕ) (message : gsmp.Message) (bound : ℕ) where
  abbrev Reads : Option gsmp_faults.Fault → Type 0
  Reads o = if_said cost (gsmp_fields.decoded_by o (type_of (slice_index (gsmp_octets message) 9)) (drop 8 (gsmp_octets message))) ≤ bound

  by_refusal : Reads None → if_said cost (gsmp_fields.decoded (gsmp_octets message)) ≤ bound
  unfolding gsmp_fields.decoded
  by_refusal none = by (refusal (gsmp_octets message))
    where
      by : (o : Option gsmp_faults.Fault) → Reads o
      by None = none
      by (Some fault) = omega arith

pub switch_reads : (message : gsmp.Message) → switch_cost (gsmp_octets message) ≤ asking_cost message
switch_reads (said.Adjacency g) = by_refusal asking_cost (said.Adjacency g) (greeting_weight g.kind) (weight_again (rank (gsmp_fields.hello_kind (gsmp_layout.hello_code g.kind))) (rank g.kind) (greeting_again g.kind))
switch_reads (said.Branch kinds.Add result code transaction session input_port input output_port output branches priority) =
    by_refusal asking_cost (said.Branch kinds.Add result code transaction session input_port input output_port output branches priority) answer_weight (omega arith)
switch_reads (said.Branch kinds.Delete result code transaction session input_port input output_port output branches priority) =
    by_refusal asking_cost (said.Branch kinds.Delete result code transaction session input_port input output_port output branches priority) answer_weight (omega arith)
switch_reads (said.Branch kinds.Verify result code transaction session input_port input output_port output branches priority) =
    by_refusal asking_cost (said.Branch kinds.Verify result code transaction session input_port input output_port output branches priority) answer_weight (omega arith)
switch_reads (said.Branch kinds.DeleteAll result code transaction session input_port input output_port output branches priority) =
    by_refusal asking_cost (said.Branch kinds.DeleteAll result code transaction session input_port input output_port output branches priority) answer_weight (omega arith)
switch_reads (said.Move result code transaction session input_port input output_port output target_port target branches priority) =
    by_refusal asking_cost (said.Move result code transaction session input_port input output_port output target_port target branches priority) answer_weight (omega arith)
switch_reads (said.Port result code transaction port session function) =
    by_refusal asking_cost (said.Port result code transaction port session function) answer_weight (omega arith)
switch_reads (said.AllPorts result code transaction rows) =
    by_refusal asking_cost (said.AllPorts result code transaction rows) answer_weight (omega arith)

pub controller_reads : (message : gsmp.Message) → controller_cost (gsmp_octets message) ≤ answering_cost message
controller_reads (said.Adjacency g) = by_refusal answering_cost (said.Adjacency g) (greeting_weight g.kind) (weight_again (rank (gsmp_fields.hello_kind (gsmp_layout.hello_code g.kind))) (rank g.kind) (greeting_again g.kind))
controller_reads (said.Branch kinds.Add result code transaction session input_port input output_port output branches priority) =
    by_refusal answering_cost (said.Branch kinds.Add result code transaction session input_port input output_port output branches priority) 0 (omega arith)
controller_reads (said.Branch kinds.Delete result code transaction session input_port input output_port output branches priority) =
    by_refusal answering_cost (said.Branch kinds.Delete result code transaction session input_port input output_port output branches priority) 0 (omega arith)
controller_reads (said.Branch kinds.Verify result code transaction session input_port input output_port output branches priority) =
    by_refusal answering_cost (said.Branch kinds.Verify result code transaction session input_port input output_port output branches priority) 0 (omega arith)
controller_reads (said.Branch kinds.DeleteAll result code transaction session input_port input output_port output branches priority) =
    by_refusal answering_cost (said.Branch kinds.DeleteAll result code transaction session input_port input output_port output branches priority) 0 (omega arith)
controller_reads (said.Move result code transaction session input_port input output_port output target_port target branches priority) =
    by_refusal answering_cost (said.Move result code transaction session input_port input output_port output target_port target branches priority) 0 (omega arith)
controller_reads (said.Port result code transaction port session function) =
    by_refusal answering_cost (said.Port result code transaction port session function) 0 (omega arith)
controller_reads (said.AllPorts result code transaction rows) =
    by_refusal answering_cost (said.AllPorts result code transaction rows) 0 (omega arith)

-- *IFMP*
by_fault : (bound : ℕ) (octets : List ℕ) (read : ifmp.Message) → ifmp_fields.message_at octets ≡ read → message_cost read ≤ bound → (o : Option ifmp_faults.Fault) → if_told (ifmp_fields.decoded_by o octets) ≤ bound
by_fault bound octets read e le (Some fault) = omega arith
by_fault bound octets read e le None = omega (arith, ap message_cost e, le)

adjacency_reads : (kind : HelloKind) (rest : List ℕ) → if_told (ifmp_fields.decoded (1 ∷ ifmp_layout.hello_code kind ∷ rest)) ≤ hello_weight kind
unfolding ifmp_fields.decoded
adjacency_reads Syn rest = by_fault (hello_weight Syn) (1 ∷ 0 ∷ rest) (told.Adjacency (ifmp_fields.hello_at (1 ∷ 0 ∷ rest))) refl (omega arith) (tests.first_fault (1 ∷ 0 ∷ rest))
adjacency_reads Synack rest = by_fault (hello_weight Synack) (1 ∷ 1 ∷ rest) (told.Adjacency (ifmp_fields.hello_at (1 ∷ 1 ∷ rest))) refl (omega arith) (tests.first_fault (1 ∷ 1 ∷ rest))
adjacency_reads Rstack rest = by_fault (hello_weight Rstack) (1 ∷ 2 ∷ rest) (told.Adjacency (ifmp_fields.hello_at (1 ∷ 2 ∷ rest))) refl (omega arith) (tests.first_fault (1 ∷ 2 ∷ rest))
adjacency_reads Ack rest = by_fault (hello_weight Ack) (1 ∷ 3 ∷ rest) (told.Adjacency (ifmp_fields.hello_at (1 ∷ 3 ∷ rest))) refl (omega arith) (tests.first_fault (1 ∷ 3 ∷ rest))

other_reads : (bound : ℕ) (octets : List ℕ) → message_cost (ifmp_fields.message_at octets) ≤ bound → if_told (ifmp_fields.decoded octets) ≤ bound
unfolding ifmp_fields.decoded
other_reads bound octets le = by_fault bound octets (ifmp_fields.message_at octets) refl le (tests.first_fault octets)

message_reads : (message : ifmp.Message) → if_told (ifmp_fields.decoded (ifmp_octets message)) ≤ message_cost message
message_reads (told.Adjacency hello) = adjacency_reads hello.kind _
message_reads (told.Redirect sender peer number lifetime label flow) = other_reads (message_cost (told.Redirect sender peer number lifetime label flow)) (ifmp_octets (told.Redirect sender peer number lifetime label flow)) (omega arith)
message_reads (told.Reclaim sender peer number label flow) = other_reads (message_cost (told.Reclaim sender peer number label flow)) (ifmp_octets (told.Reclaim sender peer number label flow)) (omega arith)
message_reads (told.ReclaimAck sender peer number label flow) = other_reads 0 (ifmp_octets (told.ReclaimAck sender peer number label flow)) (omega arith)
message_reads (told.LabelRange sender peer number least greatest) = other_reads 0 (ifmp_octets (told.LabelRange sender peer number least greatest)) (omega arith)
message_reads (told.Error sender peer number code label) = other_reads 0 (ifmp_octets (told.Error sender peer number code label)) (omega arith)

-- *On a default channel*
unwrapped_cost : (packet : List ℕ) → default_cost (default_payload packet) ≡ packet_cost packet (first_fault packet)
unwrapped_cost packet = ap if_unwrapped (unwrapped_again packet)

pub ifmp_reads : (source : Addr) (message : ifmp.Message) → default_cost (default_payload (ifmp_packet_of source (ifmp_octets message))) ≤ message_cost message
ifmp_reads source message = (let packet : List ℕ = ifmp_packet_of source (ifmp_octets message) in omega (arith, unwrapped_cost packet, by (first_fault packet)))
  where
    packet_of : List ℕ
    packet_of = ifmp_packet_of source (ifmp_octets message)

    control : (protocol_of packet_of == control_protocol) ≡ true
    control = ap (λ (n : ℕ). n == control_protocol) (protocol_is source (ifmp_octets message))

    by : (o : Option PacketFault) → packet_cost packet_of o ≤ message_cost message
    by (Some fault) = omega arith
    by None = (let is : packet_cost packet_of None ≡ if_told (ifmp_fields.decoded (ifmp_octets message)) =
        ap (λ (b : Bool). if b then if_told (ifmp_fields.decoded (drop 20 packet_of)) else offer_weight + forwarding (ttl_of packet_of)) control
        ∙ ap (λ (octets : List ℕ). if_told (ifmp_fields.decoded octets)) (message_is source (ifmp_octets message)) in omega (arith, is, message_reads message))

-- a packet costs no more than if it goes on, even where it is a message
message_bound : (r : Result ifmp.Message ifmp_faults.Fault) → if_told r ≤ offer_weight
message_bound (Err fault) = omega arith
message_bound (Ok (told.Adjacency hello)) = by hello.kind
  where
    by : (kind : HelloKind) → hello_weight kind ≤ offer_weight
    by Syn = omega arith
    by Synack = omega arith
    by Ack = omega arith
    by Rstack = omega arith
message_bound (Ok (told.Redirect sender peer number lifetime label flow)) = omega arith
message_bound (Ok (told.Reclaim sender peer number label flow)) = omega arith
message_bound (Ok (told.ReclaimAck sender peer number label flow)) = omega arith
message_bound (Ok (told.LabelRange sender peer number least greatest)) = omega arith
message_bound (Ok (told.Error sender peer number code label)) = omega arith

pub packet_reads : (packet : List ℕ) → default_cost (default_payload packet) ≤ offer_weight + forwarding (ttl_of packet)
packet_reads packet = omega (arith, unwrapped_cost packet, by (first_fault packet))
  where
    either : (b : Bool) → (if b then if_told (ifmp_fields.decoded (drop 20 packet)) else offer_weight + forwarding (ttl_of packet)) ≤ offer_weight + forwarding (ttl_of packet)
    either true = omega (arith, message_bound (ifmp_fields.decoded (drop 20 packet)))
    either false = omega arith

    by : (o : Option PacketFault) → packet_cost packet o ≤ offer_weight + forwarding (ttl_of packet)
    by (Some fault) = omega arith
    by None = either (protocol_of packet == control_protocol)
