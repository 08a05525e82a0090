-- each payload that is sent has 1 to 1,528 octets

use Rattle.std.proofs.Common.{◌≡◌, ℕ, zero, suc, ◌≤◌, ◌+◌, ◌*◌, Bool, true, false, List, [], ◌∷◌, ◌++◌, length, take, drop, Option, None, Some, Ok, refl, ◌∙◌, ap, subst, arith, length-append, length-drop, if◌then◌else◌}
use Rattle.std.specs.Prelude.{nat_lt, nat_le, not, ◌==◌, ◌&&◌, ◌/◌, ◌%◌, ◌-◌, slice_index}
use Rattle.std.specs.Option.{option_or}
use Rattle.std.specs.Int.{w32, to_be_bytes}
use Rattle.std.proofs.Math.ListN.{length-set}
use Rattle.std.proofs.lemmas.Bool.Decides.{nat_tests}
use Rattle.law_cell_lists.specs.world_model.Words.{Addr, Greeting, Party, HelloKind, canonical, with_ttl, ttl_of, total_length_of, header_sum, ifmp_packet_of, ifmp_header, PacketFault, Version, Options, TooLong, onward, FlowId, FlowKind, kind_of, identifier, default_payload, labelled_payload, rebuilt, unwrap_fault, layout_fault, checksum_fault, head_size, left_out, said_length, unwrapped, unwrapped_by, EncapsFault, Request, AddBranch, MoveBranch, DeleteTree, VerifyTree, PortManagement, PortRow, refusal, type_of, hello_kind, party_in, rows_octets, Desk, Standing, message_of}
use Rattle.law_controller_bindings.proofs.law_port_facts.Keyed.{on_both}
use Rattle.law_cell_lists.specs.world_model.ipv4_packet.Packet.{first_fault}
use Rattle.law_cell_lists.specs.world_model.ipv4_packet.declared.validate.PacketFault.TheVariants as faults
use Rattle.law_cell_lists.specs.world_model.ipv4_packet.declared.validate.PacketFault.TheVariants.{Short}
use Rattle.law_controller_bindings.proofs.law_controller.world_model.ipv4_packet.HeaderLemmas.{on_header, length-canonical}
use Rattle.law_cell_lists.specs.world_model.ipv4_packet.declared.flow.FlowId.TheVariants.{One, Two}
use Rattle.law_cell_lists.specs.world_model.ipv4_packet.declared.flow.FlowKind.TheVariants.{One as ConnectionKind, Two as HostsKind}
use Rattle.law_cell_lists.specs.world_model.flow_encaps.Labelled.{has_zeros}
use Rattle.law_cell_lists.specs.world_model.flow_encaps.declared.default.EncapsFault.TheVariants.{Reserved, Short as EncapsShort, Length as EncapsLength}
use Rattle.law_controller_bindings.proofs.law_controller.world_model.flow_encaps.RebuiltLemmas.{length-rebuilt, long-rebuilt}
use Rattle.law_cell_lists.specs.world_model.ifmp_wire.declared.message.Message.{Message as IfmpMessage}
use Rattle.law_cell_lists.specs.world_model.ifmp_wire.declared.message.Message.TheVariants as said
use Rattle.law_cell_lists.specs.world_model.ifmp_wire.Message.{octets_of as ifmp_octets}
use Rattle.law_cell_lists.specs.world_model.gsmp_wire.declared.message.Message.{Message as GsmpMessage}
use Rattle.law_cell_lists.specs.world_model.gsmp_wire.declared.message.Message.TheVariants as messages
use Rattle.law_cell_lists.specs.world_model.gsmp_wire.declared.request.Request.TheVariants.{DeleteAll, AllPorts}
use Rattle.law_cell_lists.specs.world_model.gsmp_wire.declared.fault.Fault.{Fault as GsmpFault}
use Rattle.law_cell_lists.specs.world_model.gsmp_wire.Fields.{decoded_by, decoded as gsmp_decoded}
use Rattle.law_cell_lists.specs.world_model.gsmp_wire.Layout.{octets_of as gsmp_octets}
use Rattle.law_cell_lists.specs.world_model.port_model.Desk.{message_at}

abbrev pub HasLength : List ℕ → Type 0
HasLength payload = (1 ≤ length payload) × (length payload ≤ 1528)

-- *Packets*
abbrev pub IsShort : List ℕ → Type 0
IsShort packet = (20 ≤ length packet) × (length packet ≤ 1500)

pub default_length : (packet : List ℕ) → IsShort packet → HasLength (default_payload packet)
default_length packet short = (omega arith, omega (arith, short.1))

pub labelled_length : (kind : FlowKind) (packet : List ℕ) → IsShort packet → HasLength (labelled_payload kind packet)
labelled_length ConnectionKind packet short = on_header (λ p. length p ≤ 1500 → HasLength (labelled_payload ConnectionKind p))
    (λ a b c d e f g h i j k l m n o p q r s t rest low. (omega arith, omega (arith, length-drop 4 rest, low))) packet short.0 short.1
labelled_length HostsKind packet short = on_header (λ p. length p ≤ 1500 → HasLength (labelled_payload HostsKind p))
    (λ a b c d e f g h i j k l m n o p q r s t rest low. (omega arith, omega (arith, low))) packet short.0 short.1

pub onward_short : (packet : List ℕ) → IsShort packet → IsShort (onward packet)
onward_short packet short =
    let same : length (with_ttl packet (ttl_of packet - 1)) ≡ length packet = length-set packet 8 (ttl_of packet - 1) in
    let all : length (onward packet) ≡ length (with_ttl packet (ttl_of packet - 1)) = length-canonical (with_ttl packet (ttl_of packet - 1)) (omega (arith, same, short.0)) in
    (omega (arith, all, same, short.0), omega (arith, all, same, short.1))

-- a packet that no receiver refuses
module _ (octets : List ℕ) where
  abbrev behind_length : Option PacketFault
  behind_length = if nat_lt 1500 (length octets) then Some TooLong else if not (header_sum octets == 65535) then Some faults.Checksum else None

  abbrev behind_options : Option PacketFault
  behind_options = if not (total_length_of octets == length octets) then Some faults.Length else behind_length

  abbrev behind_version : Option PacketFault
  behind_version = if not (slice_index octets 0 % 16 == 5) then Some Options else behind_options

  abbrev behind_short : Option PacketFault
  behind_short = if not (slice_index octets 0 / 16 == 4) then Some Version else behind_version

  passes : (b : Bool) (f : PacketFault) (rest : Option PacketFault) → (if b then Some f else rest) ≡ None → (b ≡ false) × (rest ≡ None)
  passes true f rest e = absurd (cc e)
  passes false f rest e = (refl, e)

  pub fault_short : first_fault octets ≡ None → IsShort octets
  fault_short e =
      let a = passes (nat_lt (length octets) 20) Short behind_short e in
      let b = passes (not (slice_index octets 0 / 16 == 4)) Version behind_version a.1 in
      let c = passes (not (slice_index octets 0 % 16 == 5)) Options behind_options b.1 in
      let d = passes (not (total_length_of octets == length octets)) faults.Length behind_length c.1 in
      let f = passes (nat_lt 1500 (length octets)) TooLong (if not (header_sum octets == 65535) then Some faults.Checksum else None) d.1 in
      (at_least (length octets) a.0, at_most (length octets) f.0)
    where
      at_least : (n : ℕ) → nat_lt n 20 ≡ false → 20 ≤ n
      at_least n t = grind (arith, nat_tests)

      at_most : (n : ℕ) → nat_lt 1500 n ≡ false → n ≤ 1500
      at_most n t = grind (arith, nat_tests)

-- the packet of a labelled frame
layout_parts : (flow : FlowId) (payload : List ℕ) → unwrap_fault flow payload ≡ None → (head_size (kind_of flow) ≤ length payload) × (length payload + left_out (kind_of flow) ≤ 1500)
layout_parts flow payload e = by_head (nat_lt (length payload) (head_size (kind_of flow))) refl (first (layout_fault (kind_of flow) payload) e)
  where
    first : (o : Option EncapsFault) → option_or o (checksum_fault flow payload) ≡ None → o ≡ None
    first None e = refl
    first (Some f) e = absurd (cc e)

    by_size : (b : Bool) → (said_length (kind_of flow) payload == length payload + left_out (kind_of flow) && nat_le (said_length (kind_of flow) payload) 1500) ≡ b
        → (if not b then Some EncapsLength else None) ≡ None → length payload + left_out (kind_of flow) ≤ 1500
    by_size true t e = both (said_length (kind_of flow) payload) (length payload + left_out (kind_of flow)) t
      where
        both : (n m : ℕ) → (n == m && nat_le n 1500) ≡ true → m ≤ 1500
        both n m t = grind (arith, nat_tests)
    by_size false t e = absurd (cc e)

    by_zeros : (b : Bool) → (if not b then Some Reserved else
        if not (said_length (kind_of flow) payload == length payload + left_out (kind_of flow) && nat_le (said_length (kind_of flow) payload) 1500) then Some EncapsLength else None) ≡ None
        → length payload + left_out (kind_of flow) ≤ 1500
    by_zeros true e = by_size (said_length (kind_of flow) payload == length payload + left_out (kind_of flow) && nat_le (said_length (kind_of flow) payload) 1500) refl e
    by_zeros false e = absurd (cc e)

    by_head : (b : Bool) → nat_lt (length payload) (head_size (kind_of flow)) ≡ b → (if b then Some EncapsShort else
        if not (has_zeros (kind_of flow) payload) then Some Reserved else
        if not (said_length (kind_of flow) payload == length payload + left_out (kind_of flow) && nat_le (said_length (kind_of flow) payload) 1500) then Some EncapsLength else None) ≡ None
        → (head_size (kind_of flow) ≤ length payload) × (length payload + left_out (kind_of flow) ≤ 1500)
    by_head true t e = absurd (cc e)
    by_head false t e = (grind (arith, nat_tests), by_zeros (has_zeros (kind_of flow) payload) e)

pub unwrapped_short : (flow : FlowId) (payload packet : List ℕ) → unwrapped flow payload ≡ Ok packet → IsShort packet
unfolding unwrapped
unwrapped_short flow payload packet e = by_fault (unwrap_fault flow payload) refl e
  where
    by_fault : (o : Option EncapsFault) → unwrap_fault flow payload ≡ o → unwrapped_by flow payload o ≡ Ok packet → IsShort packet
    by_fault (Some fault) t e = absurd (cc e)
    by_fault None t e =
        let parts = layout_parts flow payload t in
        let same : canonical (rebuilt flow payload) ≡ packet = cc in
        let long : 20 ≤ length (rebuilt flow payload) = long-rebuilt flow payload parts.0 in
        let size : length (canonical (rebuilt flow payload)) ≡ length payload + left_out (kind_of flow) =
        length-canonical (rebuilt flow payload) long ∙ length-rebuilt flow payload parts.0 in
        subst IsShort same (omega (arith, length-canonical (rebuilt flow payload) long, long), omega (arith, size, parts.1))

-- *IFMP*: each message stands in a packet of its own
flow_size : (flow : FlowId) → length (identifier flow) ≤ 16
flow_size (One tos ttl protocol source destination source_port destination_port) = omega arith
flow_size (Two ttl source destination) = omega arith

ifmp_size : (message : IfmpMessage) → length (ifmp_octets message) ≤ 100
ifmp_size (said.Adjacency hello) = omega arith
ifmp_size (said.Redirect sender peer number lifetime label flow) = omega (arith, flow_size flow)
ifmp_size (said.Reclaim sender peer number label flow) = omega (arith, flow_size flow)
ifmp_size (said.ReclaimAck sender peer number label flow) = omega (arith, flow_size flow)
ifmp_size (said.LabelRange sender peer number least greatest) = omega arith
ifmp_size (said.Error sender peer number code label) = omega arith

pub ifmp_length : (address : Addr) (message : IfmpMessage) → HasLength (default_payload (ifmp_packet_of address (ifmp_octets message)))
ifmp_length address message =
    let octets : List ℕ = ifmp_octets message in
    let size : length (ifmp_header address (length octets) ++ octets) ≡ 20 + length octets = omega arith in
    let whole : length (ifmp_packet_of address octets) ≡ length (ifmp_header address (length octets) ++ octets) = length-canonical (ifmp_header address (length octets) ++ octets) (omega (arith, size)) in
    (omega arith, omega (arith, size, whole, ifmp_size message))

-- *GSMP*
pub request_length : (desk : Desk) (s : Standing) → HasLength (gsmp_octets (message_at desk s))
request_length desk s = by_request s.request
  where
    by_request : (request : Request) → HasLength (gsmp_octets (message_of desk.rows s.number request))
    by_request (AddBranch input output) = (omega arith, omega arith)
    by_request (MoveBranch input from to) = (omega arith, omega arith)
    by_request (DeleteTree input) = (omega arith, omega arith)
    by_request (VerifyTree input) = (omega arith, omega arith)
    by_request (DeleteAll port) = (omega arith, omega arith)
    by_request (PortManagement port function) = (omega arith, omega arith)
    by_request AllPorts = (omega arith, omega arith)

abbrev pub HasName : Party → Type 0
HasName party = length party.name ≤ 6

pub greeting_length : (g : Greeting) → length g.sender.name ≤ 6 → length g.receiver.name ≤ 6 → HasLength (gsmp_octets (messages.Adjacency g))
greeting_length g sender receiver =
    let rest : List ℕ = to_be_bytes w32 g.sender.port ++ to_be_bytes w32 g.receiver.port ++ to_be_bytes w32 g.sender.instance.0 ++ to_be_bytes w32 g.receiver.instance.0 in
    let size : length (g.sender.name ++ (g.receiver.name ++ rest)) ≡ length g.sender.name + (length g.receiver.name + 16) =
    length-append g.sender.name (g.receiver.name ++ rest) ∙ ap (λ (n : ℕ). length g.sender.name + n) (length-append g.receiver.name rest) in
    (omega arith, omega (arith, size, sender, receiver))

pub rows_length : (result code transaction : ℕ) (rows : List PortRow) → length rows ≤ 9 → HasLength (gsmp_octets (messages.AllPorts result code transaction rows))
rows_length result code transaction rows few = (omega arith, omega (arith, size rows, few))
  where
    size : (rows : List PortRow) → length (rows_octets rows) ≡ 16 * length rows
    size [] = omega arith
    size (r ∷ rows) = omega (arith, size rows)

-- a greeting that was read names parties of 6 octets
taken_size : (n : ℕ) (xs : List ℕ) → length (take n xs) ≤ n
taken_size zero xs = omega arith
taken_size (suc n) [] = omega arith
taken_size (suc n) (x ∷ xs) = omega (arith, taken_size n xs)

abbrev Names : GsmpMessage → Type 0
Names m = (greeting : Greeting) → m ≡ messages.Adjacency greeting → HasName greeting.sender × HasName greeting.receiver

by_eight : {T : Type 0} (Q : Option T → Type 0) (a b c d e f g h : Bool) (s t u v w x y z : T) → Q (Some s) → Q (Some t) → Q (Some u) → Q (Some v) → Q (Some w) → Q (Some x) → Q (Some y) → Q (Some z) → Q None
    → Q (if a then Some s else if b then Some t else if c then Some u else if d then Some v else if e then Some w else if f then Some x else if g then Some y else if h then Some z else None)
by_eight Q a b c d e f g h s t u v w x y z p q r i j k l m n =
    on_both Q a _ _ p (on_both Q b _ _ q (on_both Q c _ _ r (on_both Q d _ _ i (on_both Q e _ _ j (on_both Q f _ _ k (on_both Q g _ _ l (on_both Q h _ _ m n)))))))

adjacency_names : (m : List ℕ) (message : GsmpMessage) (kind : HelloKind) → messages.Adjacency (record { kind = kind; sender = party_in 4 16 24 m; receiver = party_in 10 20 28 m }) ≡ message → Names message
adjacency_names m message kind e greeting is =
    let both : messages.Adjacency (record { kind = kind; sender = party_in 4 16 24 m; receiver = party_in 10 20 28 m }) ≡ messages.Adjacency greeting = e ∙ is in
    let same : record { kind = kind; sender = party_in 4 16 24 m; receiver = party_in 10 20 28 m } ≡ greeting = cc in
    subst (λ (g : Greeting). HasName g.sender × HasName g.receiver) same (taken_size 6 (drop 4 m), taken_size 6 (drop 10 m))

pub decoded_names : (octets : List ℕ) (message : GsmpMessage) → gsmp_decoded octets ≡ Ok message → (greeting : Greeting) → message ≡ messages.Adjacency greeting → HasName greeting.sender × HasName greeting.receiver
unfolding gsmp_decoded
decoded_names octets message = by_fault (refusal octets)
  where
    by_fault : (fault : Option GsmpFault) → decoded_by fault (type_of (slice_index octets 9)) (drop 8 octets) ≡ Ok message → Names message
    by_fault (Some fault) = λ e. absurd (cc e)
    by_fault None = by_eight (λ o. decoded_by None o (drop 8 octets) ≡ Ok message → Names message)
        (10 == slice_index octets 9) (16 == slice_index octets 9) (18 == slice_index octets 9) (19 == slice_index octets 9) (20 == slice_index octets 9) (22 == slice_index octets 9) (32 == slice_index octets 9) (66 == slice_index octets 9) _ _ _ _ _ _ _ _
        (λ e. adjacency_names (drop 8 octets) message (hello_kind (slice_index (drop 8 octets) 3)) (let same : messages.Adjacency (record { kind = hello_kind (slice_index (drop 8 octets) 3); sender = party_in 4 16 24 (drop 8 octets); receiver = party_in 10 20 28 (drop 8 octets) }) ≡ message = cc in same))
        (λ e greeting is. absurd (cc (e, is))) (λ e greeting is. absurd (cc (e, is))) (λ e greeting is. absurd (cc (e, is))) (λ e greeting is. absurd (cc (e, is))) (λ e greeting is. absurd (cc (e, is))) (λ e greeting is. absurd (cc (e, is))) (λ e greeting is. absurd (cc (e, is)))
        (λ e greeting is. absurd (cc e))
