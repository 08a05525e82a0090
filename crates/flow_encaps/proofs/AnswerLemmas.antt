-- what an unwrapped packet is

use Rattle.std.proofs.Common.{◌≡◌, ℕ, ◌+◌, ◌-◌, ◌≤◌, Bool, true, false, cond, eqb, List, ◌++◌, length, take, drop, Option, Some, None, Result, Ok, Err, refl, ap, sym, ◌∙◌, subst, arith}
use Rattle.std.specs.Prelude.{IfOk, OnOk}
use Rattle.std.proofs.Math.ListN.{set}
use Rattle.std.specs.Result.{result_err}
use Rattle.std.proofs.lemmas.List.{length-take-le, length-drop, take_all}
use Rattle.ipv4_packet.specs.declared.flow.FlowId.TheVariants.{One, Two}
use Rattle.std.proofs.lemmas.Bool.Decides.{nat_tests}
use Rattle.ipv4_packet.specs.Packet.{canonical, internet_sum_of}
use Rattle.octet_fields.specs.Fields.{written}
use Rattle.std.specs.Int.{w16, to_be_bytes}
use Rattle.octet_fields.proofs.FieldLemmas.{AreOctets, AreOctets-take}
use Rattle.ipv4_packet.proofs.HeaderLemmas.{on_header, length-canonical}
use Rattle.ipv4_packet.proofs.MessageLemmas.{take-front}
use Rattle.ipv4_packet.specs.declared.flow.FlowId.{FlowId}
use Rattle.ipv4_packet.specs.Flow.{kind_of, IsFlow}
use Rattle.ipv4_packet.specs.Identifier.{FitsFields}
use Rattle.flow_encaps.specs.declared.default.EncapsFault.{EncapsFault}
use Rattle.flow_encaps.specs.declared.default.EncapsFault.TheVariants.{Checksum}
use Rattle.flow_encaps.specs.Labelled.{Carries, rebuilt, head_size, left_out, said_checksum, checksum_at_ttl_zero, unwrap_fault, HasLayout}
use Rattle.flow_encaps.proofs.RebuiltLemmas.{length-rebuilt, long-rebuilt, drop-rebuilt, canonical-front, layout_fault-passed, Carries-rebuilt}
use Rattle.flow_encaps.proofs.CarryLemmas.{packet-carried, unwrap_fault-carried}

front-long : (flow : FlowId) (front : ℕ) → front ≡ head_size (kind_of flow) + left_out (kind_of flow) → 20 ≤ front
front-long (One tos ttl protocol source destination source_port destination_port) front is = omega (arith, is)
front-long (Two ttl source destination) front is = omega (arith, is)

-- a payload without fault says its checksum
checksum_said : (said still : ℕ) → cond (eqb said still) None (Some Checksum) ≡ None → said ≡ still
checksum_said said still is = by (eqb said still) refl is
  where
    by : (test : Bool) → eqb said still ≡ test → ◌≡◌ {A = Option EncapsFault} (cond test None (Some Checksum)) None → said ≡ still
    by true same is = grind (arith, nat_tests)
    by false differs is = let never : ⊥ = cc in absurd never

length-packet : (flow : FlowId) (payload : List ℕ) → HasLayout (kind_of flow) payload → length (canonical (rebuilt flow payload)) ≡ length payload + left_out (kind_of flow)
length-packet flow payload layout = length-canonical (rebuilt flow payload) (long-rebuilt flow payload layout.head) ∙ length-rebuilt flow payload layout.head

taken : (flow : FlowId) (payload out old : List ℕ) (size : ℕ) → HasLayout (kind_of flow) payload → out ≡ canonical (rebuilt flow payload) ++ drop size old → size ≡ length payload + left_out (kind_of flow) → take size out ≡ canonical (rebuilt flow payload)
taken flow payload out old size layout written size_is =
    rw written (take-front (canonical (rebuilt flow payload)) (drop size old) size (length-packet flow payload layout ∙ sym size_is))

pub Carries-answer : (flow : FlowId) (payload out old : List ℕ) (answer : Result ℕ EncapsFault) → IsFlow flow → AreOctets payload → AreOctets out → OnOk answer (FitsFields flow) → OnOk answer (HasLayout (kind_of flow) payload)
    → IfOk answer (λ size. out ≡ canonical (rebuilt flow payload) ++ drop size old) → IfOk answer (λ size. size ≡ length payload + left_out (kind_of flow)) → result_err answer ≡ unwrap_fault flow payload
    → IfOk answer (λ size. Carries flow (take size out) payload)
Carries-answer flow payload out old (Ok size) alive small octets fits layout written size_is fault =
    let front = taken flow payload out old size layout written size_is in
    let passed = layout_fault-passed (kind_of flow) payload layout in
    let told : cond (eqb (said_checksum (kind_of flow) payload) (checksum_at_ttl_zero (rebuilt flow payload))) None (Some Checksum) ≡ None = rw passed at (sym fault) in
    let checksum = checksum_said (said_checksum (kind_of flow) payload) (checksum_at_ttl_zero (rebuilt flow payload)) told in
    subst (λ (packet : List ℕ). Carries flow packet payload) (sym front)
    (Carries-rebuilt flow payload fits alive small layout checksum (subst (λ (packet : List ℕ). AreOctets packet) front (AreOctets-take out size octets)))
Carries-answer flow payload out old (Err refused) alive small octets fits layout written size_is fault = tt

pub answer-carried : (flow : FlowId) (payload out old : List ℕ) (answer : Result ℕ EncapsFault) → OnOk answer (HasLayout (kind_of flow) payload)
    → IfOk answer (λ size. out ≡ canonical (rebuilt flow payload) ++ drop size old) → IfOk answer (λ size. size ≡ length payload + left_out (kind_of flow)) → result_err answer ≡ unwrap_fault flow payload
    → (packet : List ℕ) → Carries flow packet payload → (answer ≡ Ok (length packet)) × (take (length packet) out ≡ packet)
answer-carried flow payload out old (Ok size) layout written size_is fault packet carried =
    let same = packet-carried flow packet payload carried in
    let long : size ≡ length packet = size_is ∙ sym (length-packet flow payload layout) ∙ ap length same in
    let answered : ℕ → Result ℕ EncapsFault = λ n. Ok n in
    (ap answered long, ap (λ (n : ℕ). take n out) (sym long) ∙ taken flow payload out old size layout written size_is ∙ same)
answer-carried flow payload out old (Err refused) layout written size_is fault packet carried =
    let none = unwrap_fault-carried flow packet payload carried in
    let never : ⊥ = cc (fault ∙ none) in absurd never

-- the header of a packet, for its checksum at Time To Live zero
pub checksum_at_ttl_zero-taken : (packet : List ℕ) → 20 ≤ length packet → 65535 - internet_sum_of (written (set (take 20 packet) 8 0) 10 (to_be_bytes w16 0)) ≡ checksum_at_ttl_zero packet
checksum_at_ttl_zero-taken = on_header (λ p. 65535 - internet_sum_of (written (set (take 20 p) 8 0) 10 (to_be_bytes w16 0)) ≡ checksum_at_ttl_zero p) (λ a b c d e f g h i j k l m n o p q r s t rest. refl)

-- the packet as it is written: the head with its checksum, then the payload's own octets
pub packet-joined : (flow : FlowId) (payload head checked old out : List ℕ) (front place size : ℕ) → head_size (kind_of flow) ≤ length payload
    → front ≡ head_size (kind_of flow) + left_out (kind_of flow) → place ≡ head_size (kind_of flow) → take front head ≡ take front (rebuilt flow payload) → checked ≡ canonical (take front head)
    → out ≡ (take front (checked ++ drop front head) ++ take (length payload - place) (drop place payload)) ++ drop size old
    → out ≡ canonical (rebuilt flow payload) ++ drop size old
packet-joined flow payload head checked old out front place size long front_is place_is head_is checked_is out_is =
    let packet = rebuilt flow payload in
    let whole = long-rebuilt flow payload long in
    let enough : 20 ≤ front = front-long flow front front_is in
    let room : front ≤ length packet = omega (arith, length-rebuilt flow payload long) in
    let checked_made : checked ≡ canonical (take front packet) = checked_is ∙ ap canonical head_is in
    let checked_size : length checked ≡ front = ap length checked_made ∙ length-canonical (take front packet) (rw (length-take-le front packet room) enough) ∙ length-take-le front packet room in
    let start : take front (checked ++ drop front head) ≡ canonical (take front packet) = take-front checked (drop front head) front checked_size ∙ checked_made in
    let all_rest : take (length payload - place) (drop place payload) ≡ drop place payload = take_all (length payload - place) (drop place payload) (rw length-drop (omega arith)) in
    let rest : take (length payload - place) (drop place payload) ≡ drop front packet =
    all_rest ∙ ap (λ (n : ℕ). drop n payload) place_is ∙ sym (drop-rebuilt flow payload long) ∙ ap (λ (n : ℕ). drop n packet) (sym front_is) in
    let joined : canonical (take front packet) ++ drop front packet ≡ canonical packet =
    subst (λ (n : ℕ). canonical (take n packet) ++ drop n packet ≡ canonical packet) (sym front_is) (canonical-front (kind_of flow) packet whole) in
    out_is
    ∙ ap (λ (part : List ℕ). (part ++ take (length payload - place) (drop place payload)) ++ drop size old) start
    ∙ ap (λ (part : List ℕ). (canonical (take front packet) ++ part) ++ drop size old) rest
    ∙ ap (λ (part : List ℕ). part ++ drop size old) joined
