-- a message of IFMP is read back from its octets

use Rattle.std.proofs.Common.{◌≡◌, true, Option, Result, Ok, refl, ◌∙◌, ap}
use Rattle.std.specs.Prelude.{nat_le, ◌==◌, if◌then◌else◌}
use Rattle.std.proofs.lemmas.Nat.{from_be_bytes-to_be_bytes_2, from_be_bytes-to_be_bytes_4}
use Rattle.net_types.specs.declared.adjacency.HelloKind.{HelloKind}
use Rattle.net_types.specs.declared.adjacency.HelloKind.TheVariants.{Syn, Synack, Rstack, Ack}
use Rattle.ipv4_packet.specs.declared.flow.FlowKind.TheVariants as kinds
use Rattle.ipv4_packet.specs.declared.flow.FlowId.{FlowId}
use Rattle.ipv4_packet.specs.declared.flow.FlowId.TheVariants.{One, Two}
use Rattle.ipv4_packet.specs.Flow.{kind_of}
use Rattle.ipv4_packet.specs.Identifier.{identifier, FitsFields}
use Rattle.ipv4_packet.proofs.IdentifierLemmas.{flow_at-identifier}
use Rattle.ifmp_wire.specs.declared.message.Message.{Message}
use Rattle.ifmp_wire.specs.declared.message.Message.TheVariants.{Adjacency, Redirect, Reclaim, ReclaimAck, LabelRange, Error}
use Rattle.ifmp_wire.specs.declared.reader.Fault.{Fault}
use Rattle.ifmp_wire.specs.Message.{hello_code, flow_type, octets_of, InRange, FitsMessage}
use Rattle.ifmp_wire.specs.Fields.{flow_in, hello_kind, hello_at, message_at, decoded_by, decoded}
use Rattle.ifmp_wire.proofs.AcceptLemmas.{first_fault-octets_of}

hello_again : (kind : HelloKind) → hello_kind (hello_code kind) ≡ kind
hello_again Syn = refl
hello_again Synack = refl
hello_again Rstack = refl
hello_again Ack = refl

hello_small : (kind : HelloKind) → nat_le (hello_code kind) 3 ≡ true
hello_small Syn = refl
hello_small Synack = refl
hello_small Rstack = refl
hello_small Ack = refl

flow_again : (flow : FlowId) → FitsFields flow → flow_in (if flow_type (kind_of flow) == flow_type kinds.One then kinds.One else kinds.Two) (identifier flow) ≡ flow
flow_again (One tos ttl protocol source destination source_port destination_port) fits = flow_at-identifier (One tos ttl protocol source destination source_port destination_port) fits
flow_again (Two ttl source destination) fits = flow_at-identifier (Two ttl source destination) fits

pub message_again : (message : Message) → FitsMessage message → message_at (octets_of message) ≡ message
message_again (Adjacency hello) fits =
    let k = hello_again hello.kind in
    let a = from_be_bytes-to_be_bytes_4 hello.sender.0 fits.0.0 in
    let b = from_be_bytes-to_be_bytes_4 hello.peer.0 fits.0.1 in
    let c = from_be_bytes-to_be_bytes_4 hello.identity.0 fits.0.2 in
    let d = from_be_bytes-to_be_bytes_4 hello.next fits.1 in
    let read : Adjacency (hello_at (octets_of (Adjacency hello))) ≡ Adjacency hello =
    λ i. Adjacency (record { kind = k i; sender = record { 0 = a i }; peer = record { 0 = b i }; identity = record { 0 = c i }; next = d i }) in
    rw (hello_small hello.kind) read
message_again (Redirect sender peer number lifetime label flow) fits =
    let a = from_be_bytes-to_be_bytes_4 sender.0 fits.0.0 in
    let b = from_be_bytes-to_be_bytes_4 peer.0 fits.0.1 in
    let c = from_be_bytes-to_be_bytes_4 number fits.0.2 in
    let d = from_be_bytes-to_be_bytes_2 lifetime fits.1 in
    let e = from_be_bytes-to_be_bytes_2 label.vci fits.2 in
    let f = flow_again flow fits.3 in
    λ i. Redirect (record { 0 = a i }) (record { 0 = b i }) (c i) (d i) (record { vpi = label.vpi; vci = e i }) (f i)
message_again (Reclaim sender peer number label flow) fits =
    let a = from_be_bytes-to_be_bytes_4 sender.0 fits.0.0 in
    let b = from_be_bytes-to_be_bytes_4 peer.0 fits.0.1 in
    let c = from_be_bytes-to_be_bytes_4 number fits.0.2 in
    let e = from_be_bytes-to_be_bytes_2 label.vci fits.1 in
    let f = flow_again flow fits.2 in
    λ i. Reclaim (record { 0 = a i }) (record { 0 = b i }) (c i) (record { vpi = label.vpi; vci = e i }) (f i)
message_again (ReclaimAck sender peer number label flow) fits =
    let a = from_be_bytes-to_be_bytes_4 sender.0 fits.0.0 in
    let b = from_be_bytes-to_be_bytes_4 peer.0 fits.0.1 in
    let c = from_be_bytes-to_be_bytes_4 number fits.0.2 in
    let e = from_be_bytes-to_be_bytes_2 label.vci fits.1 in
    let f = flow_again flow fits.2 in
    λ i. ReclaimAck (record { 0 = a i }) (record { 0 = b i }) (c i) (record { vpi = label.vpi; vci = e i }) (f i)
message_again (LabelRange sender peer number least greatest) fits =
    let a = from_be_bytes-to_be_bytes_4 sender.0 fits.0.0 in
    let b = from_be_bytes-to_be_bytes_4 peer.0 fits.0.1 in
    let c = from_be_bytes-to_be_bytes_4 number fits.0.2 in
    let d = from_be_bytes-to_be_bytes_2 least.vci fits.1 in
    let e = from_be_bytes-to_be_bytes_2 greatest.vci fits.2 in
    λ i. LabelRange (record { 0 = a i }) (record { 0 = b i }) (c i) (record { vpi = least.vpi; vci = d i }) (record { vpi = greatest.vpi; vci = e i })
message_again (Error sender peer number code label) fits =
    let a = from_be_bytes-to_be_bytes_4 sender.0 fits.0.0 in
    let b = from_be_bytes-to_be_bytes_4 peer.0 fits.0.1 in
    let c = from_be_bytes-to_be_bytes_4 number fits.0.2 in
    let e = from_be_bytes-to_be_bytes_2 label.vci fits.2 in
    λ i. Error (record { 0 = a i }) (record { 0 = b i }) (c i) code (record { vpi = label.vpi; vci = e i })

-- the octets pass every test, and are the message
found : Message → Result Message Fault
found message = Ok message

pub read_back : (message : Message) → InRange message → FitsMessage message → decoded (octets_of message) ≡ Ok message
unfolding decoded found
read_back message range fits =
    ap (λ (fault : Option Fault). decoded_by fault (octets_of message)) (first_fault-octets_of message range fits) ∙ ap found (message_again message fits)
