-- the octets of a message pass each test, and read back as that message

use Rattle.std.proofs.Common.{◌≡◌, ℕ, ◌-◌, ◌≤◌, true, false, cond, eqb, leb, ltb, List, length, drop, get_or, Option, None, Result, Ok, Err, refl, ap, sym, ◌∙◌, subst, arith, lit≤}
use Rattle.std.specs.Prelude.{◌↔◌, IfOk}
use Rattle.std.specs.Result.{result_err}
use Rattle.std.specs.Option.{option_or}
use Rattle.std.proofs.lemmas.Bool.Decides.{nat_tests}
use Rattle.std.proofs.lemmas.Nat.{from_be_bytes-to_be_bytes_2, from_be_bytes-to_be_bytes_4}
use Rattle.net_types.specs.declared.adjacency.HelloKind.{HelloKind}
use Rattle.net_types.specs.declared.adjacency.HelloKind.TheVariants.{Syn, Synack, Rstack, Ack}
use Rattle.octet_fields.specs.Fields.{u16_at, u32_at}
use Rattle.ipv4_packet.specs.Packet.{internet_sum_of}
use Rattle.ipv4_packet.specs.declared.flow.FlowKind.TheVariants.{One as ConnectionKind, Two as HostsKind}
use Rattle.ipv4_packet.specs.declared.flow.FlowId.{FlowId}
use Rattle.ipv4_packet.specs.declared.flow.FlowId.TheVariants.{One, Two}
use Rattle.ipv4_packet.specs.Flow.{kind_of, IsFlow}
use Rattle.ipv4_packet.specs.Identifier.{identifier, FitsFields, has_fields}
use Rattle.ipv4_packet.proofs.IdentifierLemmas.{flow_at, flow_at-identifier}
use Rattle.ifmp_wire.specs.declared.message.Message.{Message}
use Rattle.ifmp_wire.specs.declared.message.Message.TheVariants.{Adjacency, Redirect, Reclaim, ReclaimAck, LabelRange, Error}
use Rattle.ifmp_wire.specs.declared.reader.Fault.{Fault}
use Rattle.ifmp_wire.specs.Message.{hello_code, flow_type, with_checksum, without_checksum, octets_of, body, op_code, InRange, FitsMessage, Tells}
use Rattle.ifmp_wire.specs.Tests.{op_at, checksum_of, has_size, head_fault, kind_at, body_fault, first_fault}
use Rattle.ifmp_wire.proofs.ReadLemmas.{sender_at, peer_at, label_at}

-- the message whose fields stand in these octets
kind_of_code : ℕ → HelloKind
kind_of_code code = cond (eqb code 0) Syn (cond (eqb code 1) Synack (cond (eqb code 2) Rstack Ack))

abbrev message_at : List ℕ → Message
message_at octets =
    cond (leb (op_at octets) 3) (Adjacency (record { kind = kind_of_code (op_at octets); sender = sender_at octets; peer = peer_at octets; identity = record { 0 = u32_at octets 12 }; next = u32_at octets 16 }))
    (cond (eqb (op_at octets) 4) (Redirect (sender_at octets) (peer_at octets) (u32_at octets 12) (u16_at octets 18) (label_at octets 20) (flow_at (kind_at octets) (drop 24 octets)))
    (cond (eqb (op_at octets) 5) (Reclaim (sender_at octets) (peer_at octets) (u32_at octets 12) (label_at octets 20) (flow_at (kind_at octets) (drop 24 octets)))
    (cond (eqb (op_at octets) 6) (ReclaimAck (sender_at octets) (peer_at octets) (u32_at octets 12) (label_at octets 20) (flow_at (kind_at octets) (drop 24 octets)))
    (cond (eqb (op_at octets) 7) (LabelRange (sender_at octets) (peer_at octets) (u32_at octets 12) (label_at octets 16) (label_at octets 20))
    (Error (sender_at octets) (peer_at octets) (u32_at octets 12) (get_or octets 16 0) (label_at octets 20))))))

kind_of_code-hello_code : (kind : HelloKind) → kind_of_code (hello_code kind) ≡ kind
unfolding kind_of_code
kind_of_code-hello_code Syn = refl
kind_of_code-hello_code Synack = refl
kind_of_code-hello_code Rstack = refl
kind_of_code-hello_code Ack = refl

hello_code-small : (kind : HelloKind) → leb (hello_code kind) 3 ≡ true
hello_code-small Syn = refl
hello_code-small Synack = refl
hello_code-small Rstack = refl
hello_code-small Ack = refl

flow_again : (flow : FlowId) → FitsFields flow → flow_at (cond (eqb (flow_type (kind_of flow)) 1) ConnectionKind HostsKind) (identifier flow) ≡ flow
flow_again (One tos ttl protocol source destination source_port destination_port) fits = flow_at-identifier (One tos ttl protocol source destination source_port destination_port) fits
flow_again (Two ttl source destination) fits = flow_at-identifier (Two ttl source destination) fits

message_at-octets_of : (message : Message) → FitsMessage message → message_at (octets_of message) ≡ message
message_at-octets_of (Adjacency hello) fits =
    let small = hello_code-small hello.kind in
    let k = kind_of_code-hello_code hello.kind in
    let a = from_be_bytes-to_be_bytes_4 hello.sender.0 fits.0.0 in
    let b = from_be_bytes-to_be_bytes_4 hello.peer.0 fits.0.1 in
    let c = from_be_bytes-to_be_bytes_4 hello.identity.0 fits.0.2 in
    let d = from_be_bytes-to_be_bytes_4 hello.next fits.1 in
    let read : Adjacency (record { kind = kind_of_code (hello_code hello.kind); sender = sender_at (octets_of (Adjacency hello)); peer = peer_at (octets_of (Adjacency hello)); identity = record { 0 = u32_at (octets_of (Adjacency hello)) 12 }; next = u32_at (octets_of (Adjacency hello)) 16 }) ≡ Adjacency hello =
    λ i. Adjacency (record { kind = k i; sender = record { 0 = a i }; peer = record { 0 = b i }; identity = record { 0 = c i }; next = d i }) in
    rw small read
message_at-octets_of (Redirect sender peer number lifetime label flow) fits =
    let a = from_be_bytes-to_be_bytes_4 sender.0 fits.0.0 in
    let b = from_be_bytes-to_be_bytes_4 peer.0 fits.0.1 in
    let c = from_be_bytes-to_be_bytes_4 number fits.0.2 in
    let d = from_be_bytes-to_be_bytes_2 lifetime fits.1 in
    let e = from_be_bytes-to_be_bytes_2 label.vci fits.2 in
    let f = flow_again flow fits.3 in
    λ i. Redirect (record { 0 = a i }) (record { 0 = b i }) (c i) (d i) (record { vpi = label.vpi; vci = e i }) (f i)
message_at-octets_of (Reclaim sender peer number label flow) fits =
    let a = from_be_bytes-to_be_bytes_4 sender.0 fits.0.0 in
    let b = from_be_bytes-to_be_bytes_4 peer.0 fits.0.1 in
    let c = from_be_bytes-to_be_bytes_4 number fits.0.2 in
    let e = from_be_bytes-to_be_bytes_2 label.vci fits.1 in
    let f = flow_again flow fits.2 in
    λ i. Reclaim (record { 0 = a i }) (record { 0 = b i }) (c i) (record { vpi = label.vpi; vci = e i }) (f i)
message_at-octets_of (ReclaimAck sender peer number label flow) fits =
    let a = from_be_bytes-to_be_bytes_4 sender.0 fits.0.0 in
    let b = from_be_bytes-to_be_bytes_4 peer.0 fits.0.1 in
    let c = from_be_bytes-to_be_bytes_4 number fits.0.2 in
    let e = from_be_bytes-to_be_bytes_2 label.vci fits.1 in
    let f = flow_again flow fits.2 in
    λ i. ReclaimAck (record { 0 = a i }) (record { 0 = b i }) (c i) (record { vpi = label.vpi; vci = e i }) (f i)
message_at-octets_of (LabelRange sender peer number least greatest) fits =
    let a = from_be_bytes-to_be_bytes_4 sender.0 fits.0.0 in
    let b = from_be_bytes-to_be_bytes_4 peer.0 fits.0.1 in
    let c = from_be_bytes-to_be_bytes_4 number fits.0.2 in
    let d = from_be_bytes-to_be_bytes_2 least.vci fits.1 in
    let e = from_be_bytes-to_be_bytes_2 greatest.vci fits.2 in
    λ i. LabelRange (record { 0 = a i }) (record { 0 = b i }) (c i) (record { vpi = least.vpi; vci = d i }) (record { vpi = greatest.vpi; vci = e i })
message_at-octets_of (Error sender peer number code label) fits =
    let a = from_be_bytes-to_be_bytes_4 sender.0 fits.0.0 in
    let b = from_be_bytes-to_be_bytes_4 peer.0 fits.0.1 in
    let c = from_be_bytes-to_be_bytes_4 number fits.0.2 in
    let e = from_be_bytes-to_be_bytes_2 label.vci fits.2 in
    λ i. Error (record { 0 = a i }) (record { 0 = b i }) (c i) code (record { vpi = label.vpi; vci = e i })

pub Tells-injective : (octets : List ℕ) (first second : Message) → Tells octets first → Tells octets second → first ≡ second
Tells-injective octets first second one other =
    sym (message_at-octets_of first one.fits)
    ∙ ap (λ (o : List ℕ). message_at o) (sym one.spelled ∙ other.spelled)
    ∙ message_at-octets_of second other.fits

-- the tests of the head
head_fault-with_checksum : (op : ℕ) (rest : List ℕ) → op ≤ 8 → has_size (with_checksum op rest) ≡ true → head_fault (with_checksum op rest) ≡ None
head_fault-with_checksum op rest known size =
    let long : ltb (length (with_checksum op rest)) 4 ≡ false = grind (arith, nat_tests) in
    let low : ltb 8 op ≡ false = grind (arith, nat_tests) in
    let checksum = 65535 - internet_sum_of (without_checksum op rest) in
    let read : u16_at (with_checksum op rest) 2 ≡ checksum = from_be_bytes-to_be_bytes_2 checksum (omega arith) in
    let sum : eqb (u16_at (with_checksum op rest) 2) (checksum_of (with_checksum op rest)) ≡ true = rw read (grind (arith, nat_tests)) in
    rw (long, low, size, sum) refl

first_fault-with_checksum : (op : ℕ) (rest : List ℕ) → op ≤ 8 → has_size (with_checksum op rest) ≡ true → body_fault (with_checksum op rest) ≡ None → first_fault (with_checksum op rest) ≡ None
first_fault-with_checksum op rest known size told = ap (λ (fault : Option Fault). option_or fault (body_fault (with_checksum op rest))) (head_fault-with_checksum op rest known size) ∙ told

first_fault-of : (message : Message) → op_code message ≤ 8 → has_size (octets_of message) ≡ true → body_fault (octets_of message) ≡ None → first_fault (octets_of message) ≡ None
first_fault-of message known size told = first_fault-with_checksum (op_code message) (body message) known size told

ltb-false-of : (m n : ℕ) → n ≤ m → ltb m n ≡ false
ltb-false-of m n order = grind (arith, nat_tests)

hello_code-below : (kind : HelloKind) → hello_code kind ≤ 8
hello_code-below Syn = lit≤ tt
hello_code-below Synack = lit≤ tt
hello_code-below Rstack = lit≤ tt
hello_code-below Ack = lit≤ tt

-- the tests of a flow
has_fields-identifier : (flow : FlowId) → IsFlow flow → has_fields (kind_of flow) (identifier flow) ≡ true
has_fields-identifier (One tos ttl protocol source destination source_port destination_port) alive = grind (arith, nat_tests)
has_fields-identifier (Two ttl source destination) alive = grind (arith, nat_tests)

pub first_fault-octets_of : (message : Message) → InRange message → FitsMessage message → first_fault (octets_of message) ≡ None
first_fault-octets_of (Adjacency hello) range fits =
    let small = hello_code-small hello.kind in
    let size : has_size (octets_of (Adjacency hello)) ≡ true = rw small refl in
    let told : body_fault (octets_of (Adjacency hello)) ≡ None = rw small refl in
    first_fault-of (Adjacency hello) (hello_code-below hello.kind) size told
first_fault-octets_of (Redirect sender peer number lifetime label (One tos ttl protocol source destination source_port destination_port)) range fits =
    let read = from_be_bytes-to_be_bytes_2 lifetime fits.1 in
    let alive : eqb lifetime 0 ≡ false = grind (arith, nat_tests) in
    let fields = has_fields-identifier (One tos ttl protocol source destination source_port destination_port) range.2 in
    first_fault-of (Redirect sender peer number lifetime label (One tos ttl protocol source destination source_port destination_port)) (lit≤ tt) refl (rw (read, alive, fields) refl)
first_fault-octets_of (Redirect sender peer number lifetime label (Two ttl source destination)) range fits =
    let read = from_be_bytes-to_be_bytes_2 lifetime fits.1 in
    let alive : eqb lifetime 0 ≡ false = grind (arith, nat_tests) in
    let fields = has_fields-identifier (Two ttl source destination) range.2 in
    first_fault-of (Redirect sender peer number lifetime label (Two ttl source destination)) (lit≤ tt) refl (rw (read, alive, fields) refl)
first_fault-octets_of (Reclaim sender peer number label (One tos ttl protocol source destination source_port destination_port)) range fits =
    first_fault-of (Reclaim sender peer number label (One tos ttl protocol source destination source_port destination_port)) (lit≤ tt) refl (rw (has_fields-identifier (One tos ttl protocol source destination source_port destination_port) range.1) refl)
first_fault-octets_of (Reclaim sender peer number label (Two ttl source destination)) range fits =
    first_fault-of (Reclaim sender peer number label (Two ttl source destination)) (lit≤ tt) refl (rw (has_fields-identifier (Two ttl source destination) range.1) refl)
first_fault-octets_of (ReclaimAck sender peer number label (One tos ttl protocol source destination source_port destination_port)) range fits =
    first_fault-of (ReclaimAck sender peer number label (One tos ttl protocol source destination source_port destination_port)) (lit≤ tt) refl (rw (has_fields-identifier (One tos ttl protocol source destination source_port destination_port) range.1) refl)
first_fault-octets_of (ReclaimAck sender peer number label (Two ttl source destination)) range fits =
    first_fault-of (ReclaimAck sender peer number label (Two ttl source destination)) (lit≤ tt) refl (rw (has_fields-identifier (Two ttl source destination) range.1) refl)
first_fault-octets_of (LabelRange sender peer number least greatest) range fits =
    let low = from_be_bytes-to_be_bytes_2 least.vci fits.1 in
    let high = from_be_bytes-to_be_bytes_2 greatest.vci fits.2 in
    let octets = octets_of (LabelRange sender peer number least greatest) in
    let order : u32_at octets 16 ≤ u32_at octets 20 = omega (arith, low, high, range.2) in
    let in_order : ltb (u32_at octets 20) (u32_at octets 16) ≡ false = ltb-false-of (u32_at octets 20) (u32_at octets 16) order in
    first_fault-of (LabelRange sender peer number least greatest) (lit≤ tt) refl (rw in_order refl)
first_fault-octets_of (Error sender peer number code label) range fits =
    let low : leb 1 code ≡ true = grind (arith, nat_tests) in
    let high : leb code 4 ≡ true = grind (arith, nat_tests) in
    first_fault-of (Error sender peer number code label) (lit≤ tt) refl (rw (low, high) refl)

-- a reader that finds a message or tells the first fault, finds each message that the octets tell
pub found_or_fault : (octets : List ℕ) (answer : Result Message Fault) → IfOk answer (λ message. Tells octets message) → result_err answer ≡ first_fault octets → (message : Message) → (answer ≡ Ok message) ↔ Tells octets message
found_or_fault octets (Ok found) known fault message = (
  (λ (same : ◌≡◌ {A = Result Message Fault} (Ok found) (Ok message)). let inside : found ≡ message = cc in subst (λ (m : Message). Tells octets m) inside known),
  (λ (told : Tells octets message). let answered : Message → Result Message Fault = λ m. Ok m in ap answered (Tells-injective octets found message known told)),
)
found_or_fault octets (Err refused) known fault message = (
  (λ (same : ◌≡◌ {A = Result Message Fault} (Err refused) (Ok message)). let never : ⊥ = cc in absurd never),
  (λ (told : Tells octets message).
      let accepted : first_fault octets ≡ None = rw told.spelled (first_fault-octets_of message told.in_range told.fits) in
      let never : ⊥ = cc (fault ∙ accepted) in absurd never),
)
