-- what octets tell, field by field

use Rattle.std.proofs.Common.{◌≡◌, ℕ, ◌+◌, ◌-◌, ◌≤◌, ◌<◌, List, [], ◌∷◌, ◌++◌, length, take, drop, get_or, refl, ap, sym, ◌∙◌, arith, lit<}
use Rattle.std.specs.Int.{w16, to_be_bytes}
use Rattle.std.proofs.lemmas.List.{get_or-take, get_or-drop}
use Rattle.std.proofs.lemmas.Bool.Decides.{nat_tests}
use Rattle.net_types.specs.declared.adjacency.HelloKind.{HelloKind}
use Rattle.net_types.specs.declared.channel.Channel.{Channel}
use Rattle.net_types.specs.declared.number.Instance.{Instance}
use Rattle.octet_fields.specs.Fields.{u16_at, u32_at}
use Rattle.ipv4_packet.specs.Packet.{internet_sum_of}
use Rattle.octet_fields.proofs.FieldLemmas.{AreOctets, octet-then, u16-then, u32-then, nothing-then, u16_at-fits, u32_at-fits}
use Rattle.ipv4_packet.specs.declared.flow.FlowId.{FlowId}
use Rattle.ipv4_packet.specs.Flow.{kind_of}
use Rattle.ipv4_packet.specs.Identifier.{identifier, Identifies}
use Rattle.ifmp_wire.specs.declared.message.Names.{Names}
use Rattle.ifmp_wire.specs.declared.message.Message.TheVariants.{Adjacency, Redirect, Reclaim, ReclaimAck, LabelRange, Error}
use Rattle.ifmp_wire.specs.Message.{label_octets, label_number, hello_code, with_names, flow_octets, with_checksum, without_checksum, Tells}
use Rattle.ifmp_wire.specs.Tests.{op_at, checksum_of, HasHead, HasKind}

octet-is : (octets : List ℕ) (place value : ℕ) (rest : List ℕ) → get_or octets place 0 ≡ value → place + 1 ≤ length octets → drop (place + 1) octets ≡ rest → drop place octets ≡ value ∷ rest
octet-is octets place value rest is room behind = octet-then octets place rest room behind ∙ ap (λ (octet : ℕ). octet ∷ rest) is

-- the fields of a message by their places
abbrev pub sender_at : List ℕ → Instance
sender_at octets = record { 0 = u32_at octets 4 }

abbrev pub peer_at : List ℕ → Instance
peer_at octets = record { 0 = u32_at octets 8 }

abbrev pub names_at : List ℕ → Names
names_at octets = record { sender = sender_at octets; peer = peer_at octets; number = u32_at octets 12 }

abbrev pub label_at : List ℕ → ℕ → Channel
label_at octets place = record { vpi = get_or octets (place + 1) 0; vci = u16_at octets (place + 2) }

-- a message by its head and what stands behind
pub checksum-told : (octets : List ℕ) (op : ℕ) (rest : List ℕ) → AreOctets octets → 4 ≤ length octets → HasHead octets → op_at octets ≡ op → drop 4 octets ≡ rest → octets ≡ with_checksum op rest
checksum-told octets op rest small long head op_is behind =
    let told : octets ≡ 1 ∷ op ∷ (to_be_bytes w16 (u16_at octets 2) ++ rest) =
    octet-is octets 0 1 _ head.version (omega arith) (octet-is octets 1 op _ op_is (omega arith) (u16-then octets 2 rest small (omega arith) behind)) in
    let checked : u16_at octets 2 ≡ 65535 - internet_sum_of (without_checksum op rest) = head.sum ∙ ap checksum_of told in
    told ∙ ap (λ (checksum : ℕ). 1 ∷ op ∷ (to_be_bytes w16 checksum ++ rest)) checked

pub names-told : (octets rest : List ℕ) → AreOctets octets → 16 ≤ length octets → drop 16 octets ≡ rest → drop 4 octets ≡ with_names (names_at octets) rest
names-told octets rest small long behind =
    u32-then octets 4 _ small (omega arith) (u32-then octets 8 _ small (omega arith) (u32-then octets 12 rest small (omega arith) behind))

label-told_16 : (octets rest : List ℕ) → AreOctets octets → 20 ≤ length octets → get_or octets 16 0 ≡ 0 → drop 20 octets ≡ rest → drop 16 octets ≡ label_octets (label_at octets 16) ++ rest
label-told_16 octets rest small long zero_first behind =
    octet-is octets 16 0 _ zero_first (omega arith) (octet-then octets 17 _ (omega arith) (u16-then octets 18 rest small (omega arith) behind))

label-told_20 : (octets rest : List ℕ) → AreOctets octets → 24 ≤ length octets → get_or octets 20 0 ≡ 0 → drop 24 octets ≡ rest → drop 20 octets ≡ label_octets (label_at octets 20) ++ rest
label-told_20 octets rest small long zero_first behind =
    octet-is octets 20 0 _ zero_first (omega arith) (octet-then octets 21 _ (omega arith) (u16-then octets 22 rest small (omega arith) behind))

-- the lengths by op code
pub length-hello : (octets : List ℕ) → HasHead octets → op_at octets ≤ 3 → length octets ≡ 20
length-hello octets head op = let size = head.size in grind (arith, nat_tests)

pub length-flow : (octets : List ℕ) → HasHead octets → 4 ≤ op_at octets → op_at octets ≤ 6 → 36 ≤ length octets
length-flow octets head above below = let size = head.size in grind (arith, nat_tests)

pub length-rest : (octets : List ℕ) → HasHead octets → 7 ≤ op_at octets → length octets ≡ 24
length-rest octets head above = let size = head.size in grind (arith, nat_tests)

pub tells-hello : (octets : List ℕ) (kind : HelloKind) → AreOctets octets → HasHead octets → op_at octets ≤ 3 → hello_code kind ≡ op_at octets
    → Tells octets (Adjacency (record { kind = kind; sender = sender_at octets; peer = peer_at octets; identity = record { 0 = u32_at octets 12 }; next = u32_at octets 16 }))
tells-hello octets kind small head op code =
    let size : length octets ≡ 20 = length-hello octets head op in
    record {
      spelled = checksum-told octets (hello_code kind) _ small (omega arith) head (sym code)
          (names-told octets _ small (omega arith) (u32-then octets 16 [] small (omega arith) (nothing-then octets 20 size)));
      in_range = tt;
      fits = ((u32_at-fits octets 4 small, u32_at-fits octets 8 small, u32_at-fits octets 12 small), u32_at-fits octets 16 small);
    }

-- what stands behind the head of a message of a flow
flow-told : (octets : List ℕ) (lifetime : ℕ) (flow : FlowId) → AreOctets octets → HasKind octets (kind_of flow) → Identifies (kind_of flow) (drop 24 octets) flow → get_or octets 20 0 ≡ 0 → u16_at octets 18 ≡ lifetime
    → drop 4 octets ≡ with_names (names_at octets) (flow_octets lifetime (label_at octets 20) flow)
flow-told octets lifetime flow small kind named label_zero lifetime_is =
    let long : 24 ≤ length octets = omega (arith, kind.size) in
    names-told octets _ small (omega arith)
    (octet-is octets 16 _ _ kind.named (omega arith) (octet-is octets 17 _ _ kind.words (omega arith)
    (u16-then octets 18 _ small (omega arith) (label-told_20 octets (identifier flow) small long label_zero named.spelled))))
    ∙ ap (λ (life : ℕ). with_names (names_at octets) (flow_octets life (label_at octets 20) flow)) lifetime_is

pub tells-redirect : (octets : List ℕ) (flow : FlowId) → AreOctets octets → HasHead octets → op_at octets ≡ 4 → HasKind octets (kind_of flow) → Identifies (kind_of flow) (drop 24 octets) flow → get_or octets 20 0 ≡ 0 → 0 < u16_at octets 18
    → Tells octets (Redirect (sender_at octets) (peer_at octets) (u32_at octets 12) (u16_at octets 18) (label_at octets 20) flow)
tells-redirect octets flow small head op kind named label_zero alive =
    let long : 24 ≤ length octets = omega (arith, kind.size) in
    record {
      spelled = checksum-told octets 4 _ small (omega arith) head op (flow-told octets (u16_at octets 18) flow small kind named label_zero refl);
      in_range = (alive, small 21, named.in_range);
      fits = ((u32_at-fits octets 4 small, u32_at-fits octets 8 small, u32_at-fits octets 12 small), u16_at-fits octets 18 small, u16_at-fits octets 22 small, named.fits);
    }

pub tells-reclaim : (octets : List ℕ) (flow : FlowId) → AreOctets octets → HasHead octets → op_at octets ≡ 5 → HasKind octets (kind_of flow) → Identifies (kind_of flow) (drop 24 octets) flow → get_or octets 20 0 ≡ 0 → u16_at octets 18 ≡ 0
    → Tells octets (Reclaim (sender_at octets) (peer_at octets) (u32_at octets 12) (label_at octets 20) flow)
tells-reclaim octets flow small head op kind named label_zero none =
    let long : 24 ≤ length octets = omega (arith, kind.size) in
    record {
      spelled = checksum-told octets 5 _ small (omega arith) head op (flow-told octets 0 flow small kind named label_zero none);
      in_range = (small 21, named.in_range);
      fits = ((u32_at-fits octets 4 small, u32_at-fits octets 8 small, u32_at-fits octets 12 small), u16_at-fits octets 22 small, named.fits);
    }

pub tells-reclaim_ack : (octets : List ℕ) (flow : FlowId) → AreOctets octets → HasHead octets → op_at octets ≡ 6 → HasKind octets (kind_of flow) → Identifies (kind_of flow) (drop 24 octets) flow → get_or octets 20 0 ≡ 0 → u16_at octets 18 ≡ 0
    → Tells octets (ReclaimAck (sender_at octets) (peer_at octets) (u32_at octets 12) (label_at octets 20) flow)
tells-reclaim_ack octets flow small head op kind named label_zero none =
    let long : 24 ≤ length octets = omega (arith, kind.size) in
    record {
      spelled = checksum-told octets 6 _ small (omega arith) head op (flow-told octets 0 flow small kind named label_zero none);
      in_range = (small 21, named.in_range);
      fits = ((u32_at-fits octets 4 small, u32_at-fits octets 8 small, u32_at-fits octets 12 small), u16_at-fits octets 22 small, named.fits);
    }

part : (octets : List ℕ) (place size i : ℕ) → i < size → get_or (take size (drop place octets)) i 0 ≡ get_or octets (place + i) 0
part octets place size i inside = get_or-take size (drop place octets) i 0 inside ∙ get_or-drop place octets i 0

-- a label without its zero octet is the number that its four octets make
label_number-at_16 : (octets : List ℕ) → get_or octets 16 0 ≡ 0 → u32_at octets 16 ≡ label_number (label_at octets 16)
label_number-at_16 octets zero_first =
    omega (arith, part octets 16 4 0 (lit< tt), part octets 16 4 1 (lit< tt), part octets 16 4 2 (lit< tt), part octets 16 4 3 (lit< tt), part octets 18 2 0 (lit< tt), part octets 18 2 1 (lit< tt))

label_number-at_20 : (octets : List ℕ) → get_or octets 20 0 ≡ 0 → u32_at octets 20 ≡ label_number (label_at octets 20)
label_number-at_20 octets zero_first =
    omega (arith, part octets 20 4 0 (lit< tt), part octets 20 4 1 (lit< tt), part octets 20 4 2 (lit< tt), part octets 20 4 3 (lit< tt), part octets 22 2 0 (lit< tt), part octets 22 2 1 (lit< tt))

pub tells-label_range : (octets : List ℕ) → AreOctets octets → HasHead octets → op_at octets ≡ 7 → get_or octets 16 0 ≡ 0 → get_or octets 20 0 ≡ 0 → u32_at octets 16 ≤ u32_at octets 20
    → Tells octets (LabelRange (sender_at octets) (peer_at octets) (u32_at octets 12) (label_at octets 16) (label_at octets 20))
tells-label_range octets small head op least_zero greatest_zero order =
    let size : length octets ≡ 24 = length-rest octets head (omega arith) in
    record {
      spelled = checksum-told octets 7 _ small (omega arith) head op (names-told octets _ small (omega arith)
          (label-told_16 octets _ small (omega arith) least_zero (label-told_20 octets [] small (omega arith) greatest_zero (nothing-then octets 24 size))));
      in_range = (small 17, small 21, rw (← label_number-at_16 octets least_zero, ← label_number-at_20 octets greatest_zero) order);
      fits = ((u32_at-fits octets 4 small, u32_at-fits octets 8 small, u32_at-fits octets 12 small), u16_at-fits octets 18 small, u16_at-fits octets 22 small);
    }

pub tells-error : (octets : List ℕ) → AreOctets octets → HasHead octets → op_at octets ≡ 8 → get_or octets 20 0 ≡ 0 → 1 ≤ get_or octets 16 0 → get_or octets 16 0 ≤ 4 → get_or octets 17 0 ≡ 0 → get_or octets 18 0 ≡ 0 → get_or octets 19 0 ≡ 0
    → Tells octets (Error (sender_at octets) (peer_at octets) (u32_at octets 12) (get_or octets 16 0) (label_at octets 20))
tells-error octets small head op label_zero above below first second third =
    let size : length octets ≡ 24 = length-rest octets head (omega arith) in
    record {
      spelled = checksum-told octets 8 _ small (omega arith) head op (names-told octets _ small (omega arith)
          (octet-then octets 16 _ (omega arith) (octet-is octets 17 0 _ first (omega arith) (octet-is octets 18 0 _ second (omega arith) (octet-is octets 19 0 _ third (omega arith)
          (label-told_20 octets [] small (omega arith) label_zero (nothing-then octets 24 size)))))));
      in_range = (above, below, small 21);
      fits = ((u32_at-fits octets 4 small, u32_at-fits octets 8 small, u32_at-fits octets 12 small), small 16, u16_at-fits octets 22 small);
    }
