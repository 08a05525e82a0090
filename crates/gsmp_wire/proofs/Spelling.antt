-- The message that octets are read as is spelled by these octets

use Rattle.std.proofs.Common.{◌≡◌, ℕ, ◌+◌, ◌*◌, ◌≤◌, ◌&&◌, ◌==◌, Bool, true, false, List, [], ◌∷◌, ◌++◌, length, take, drop, zero, suc, refl, sym, ◌∙◌, ap, arith, inl, inr}
use Rattle.std.specs.Prelude.{nat_le, slice_index, if◌then◌else◌}
use Rattle.std.specs.Int.{w16, w32, to_be_bytes}
use Rattle.std.proofs.lemmas.Bool.{eqb-true, leb-true}
use Rattle.std.proofs.lemmas.Bool.Decides.{eqb_tells}
use Rattle.std.proofs.lemmas.List.{drop_all, length-drop}
use Rattle.net_types.specs.declared.adjacency.HelloKind.{HelloKind}
use Rattle.net_types.specs.declared.adjacency.HelloKind.TheVariants.{Syn, Synack, Rstack, Ack}
use Rattle.gsmp_wire.specs.declared.message.BranchKind.{BranchKind}
use Rattle.gsmp_wire.specs.declared.message.BranchKind.TheVariants.{Add, Delete, Verify, DeleteAll}
use Rattle.gsmp_wire.specs.declared.message.MessageType.{MessageType}
use Rattle.gsmp_wire.specs.declared.message.MessageType.TheVariants as kinds
use Rattle.gsmp_wire.specs.Fields.{channel_in, hello_kind, message_in, row_in, rows_in}
use Rattle.gsmp_wire.specs.Layout.{end_octets, hello_code, message_octets, row_octets, rows_octets, state_octet, type_number}
use Rattle.gsmp_wire.specs.Refusal.{are_rows, are_zero, between, has_fields, has_size, is_code, is_connection, is_result, is_row, is_success}
use Rattle.octet_fields.specs.Fields.{u16_at, u32_at}
use Rattle.gsmp_wire.proofs.Places.{AreOctets, behind, both, number16_at, number32_at, octet_at, part_at, zeros_at}

-- the octets of a message of this type
pub record IsMessage (kind : MessageType) (m : List ℕ) : Type 0 where
  pub octets : AreOctets m
  pub version : slice_index m 0 ≡ 1
  pub has_type : slice_index m 1 ≡ type_number kind
  pub has_result : is_result kind (slice_index m 2) ≡ true
  pub has_code : is_code kind (slice_index m 2) (slice_index m 3) ≡ true
  pub has_its_size : has_size kind m ≡ true
  pub has_its_fields : has_fields kind m ≡ true

-- octets 0 to 3 and the rest
header_at : (m rest : List ℕ) (number : ℕ) → slice_index m 0 ≡ 1 → slice_index m 1 ≡ number → 4 ≤ length m → rest ≡ drop 4 m → 1 ∷ number ∷ slice_index m 2 ∷ slice_index m 3 ∷ rest ≡ m
header_at m rest number version kind room is =
    (λ i. sym version i ∷ sym kind i ∷ slice_index m 2 ∷ slice_index m 3 ∷ rest) ∙
    octet_at 0 m _ (omega arith) (octet_at 1 m _ (omega arith) (octet_at 2 m _ (omega arith) (octet_at 3 m _ (omega arith) is)))

-- octets 4 to 31 of a connection message and the rest
connection_at : (m rest : List ℕ) → AreOctets m → 32 ≤ length m → are_zero 30 1 m ≡ true → rest ≡ drop 32 m →
    to_be_bytes w32 (u32_at m 4) ++ (to_be_bytes w32 (u32_at m 8) ++ (end_octets (u32_at m 12) (channel_in 16 m) ++ (end_octets (u32_at m 20) (channel_in 24 m) ++ (to_be_bytes w16 (u16_at m 28) ++ (0 ∷ slice_index m 31 ∷ rest))))) ≡ drop 4 m
connection_at m rest o room clear is =
    number32_at 4 m _ o (omega arith) (number32_at 8 m _ o (omega arith)
    (number32_at 12 m _ o (omega arith) (number16_at 16 m _ o (omega arith) (number16_at 18 m _ o (omega arith)
    (number32_at 20 m _ o (omega arith) (number16_at 24 m _ o (omega arith) (number16_at 26 m _ o (omega arith)
    (number16_at 28 m _ o (omega arith) (zeros_at 30 1 m _ clear (omega arith) (octet_at 31 m rest (omega arith) is))))))))))

connection_of : (kind : BranchKind) (m : List ℕ) → has_fields (kinds.Branch kind) m ≡ true → is_connection m ≡ true
connection_of Add m h = h
connection_of Delete m h = (both (is_connection m) _ h).0
connection_of Verify m h = (both (is_connection m) _ h).0
connection_of DeleteAll m h = (both (is_connection m) _ h).0

at_end : (n : ℕ) (m : List ℕ) → length m ≡ n → [] ≡ drop n m
at_end n m size = sym (drop_all n m (omega arith))

branch_spelled : (kind : BranchKind) (m : List ℕ) → IsMessage (kinds.Branch kind) m → message_octets (message_in (kinds.Branch kind) m) ≡ m
branch_spelled kind m is =
    let size : length m ≡ 32 = eqb-true (length m) 32 is.has_its_size in
    let clear : are_zero 30 1 m ≡ true = (both (are_zero 30 1 m) _ (connection_of kind m is.has_its_fields)).0 in
    header_at m _ (type_number (kinds.Branch kind)) is.version is.has_type (omega arith) (connection_at m [] is.octets (omega arith) clear (at_end 32 m size))

move_spelled : (m : List ℕ) → IsMessage kinds.Move m → message_octets (message_in kinds.Move m) ≡ m
move_spelled m is =
    let size : length m ≡ 40 = eqb-true (length m) 40 is.has_its_size in
    let clear : are_zero 30 1 m ≡ true = (both (are_zero 30 1 m) _ is.has_its_fields).0 in
    let o = is.octets in
    header_at m _ 22 is.version is.has_type (omega arith) (connection_at m _ o (omega arith) clear
    (number32_at 32 m _ o (omega arith) (number16_at 36 m _ o (omega arith) (number16_at 38 m [] o (omega arith) (at_end 40 m size)))))

port_spelled : (m : List ℕ) → IsMessage kinds.Port m → message_octets (message_in kinds.Port m) ≡ m
port_spelled m is =
    let size : length m ≡ 20 = eqb-true (length m) 20 is.has_its_size in
    let clear : are_zero 17 3 m ≡ true = (both (between 1 2 (slice_index m 16)) (are_zero 17 3 m) is.has_its_fields).1 in
    let o = is.octets in
    header_at m _ 32 is.version is.has_type (omega arith)
    (number32_at 4 m _ o (omega arith) (number32_at 8 m _ o (omega arith) (number32_at 12 m _ o (omega arith)
    (octet_at 16 m _ (omega arith) (zeros_at 17 3 m [] clear (omega arith) (at_end 20 m size))))))

-- a choice by a test of equality
chosen : (code k : ℕ) (kind other : HelloKind) → hello_code kind ≡ k → ((code ≡ k → ⊥) → hello_code other ≡ code) → hello_code (if code == k then kind else other) ≡ code
chosen code k kind other here there =
    elim (eqb_tells code k) [
      | inl (equal, same) ↦ rw equal (here ∙ sym same)
      | inr (unequal, different) ↦ rw unequal (there different)
    ]

hello_code_again : (code : ℕ) → between 1 4 code ≡ true → hello_code (hello_kind code) ≡ code
hello_code_again code h =
    let bounds = both (nat_le 1 code) (nat_le code 4) h in
    let least : 1 ≤ code = leb-true 1 code bounds.0 in
    let most : code ≤ 4 = leb-true code 4 bounds.1 in
    chosen code 1 Syn _ refl (λ a. chosen code 2 Synack _ refl (λ b. chosen code 3 Ack Rstack refl (λ d. omega arith)))

adjacency_spelled : (m : List ℕ) → IsMessage kinds.Adjacency m → message_octets (message_in kinds.Adjacency m) ≡ m
adjacency_spelled m is =
    let size : length m ≡ 32 = eqb-true (length m) 32 is.has_its_size in
    let none : slice_index m 2 ≡ 0 = eqb-true (slice_index m 2) 0 is.has_result in
    let code = hello_code_again (slice_index m 3) is.has_code in
    let o = is.octets in
    (λ i. 1 ∷ 10 ∷ sym none i ∷ code i ∷ (take 6 (drop 4 m) ++ (take 6 (drop 10 m) ++ (to_be_bytes w32 (u32_at m 16) ++ (to_be_bytes w32 (u32_at m 20) ++ (to_be_bytes w32 (u32_at m 24) ++ to_be_bytes w32 (u32_at m 28))))))) ∙
    header_at m _ 10 is.version is.has_type (omega arith)
    (part_at 4 6 m _ _ refl (part_at 10 6 m _ _ refl (number32_at 16 m _ o (omega arith) (number32_at 20 m _ o (omega arith)
    (number32_at 24 m _ o (omega arith) (number32_at 28 m [] o (omega arith) (at_end 32 m size)))))))

state_again : (octet : ℕ) → between 1 2 octet ≡ true → state_octet (octet == 1) ≡ octet
state_again octet h =
    let bounds = both (nat_le 1 octet) (nat_le octet 2) h in
    let least : 1 ≤ octet = leb-true 1 octet bounds.0 in
    let most : octet ≤ 2 = leb-true octet 2 bounds.1 in
    elim (eqb_tells octet 1) [
      | inl (equal, same) ↦ rw equal (sym same)
      | inr (unequal, different) ↦ rw unequal (omega arith)
    ]

row_at : (r rest : List ℕ) → AreOctets r → is_row r ≡ true → 16 ≤ length r → rest ≡ drop 16 r → row_octets (row_in r) ++ rest ≡ r
row_at r rest o h room is =
    let tests = both (between 1 2 (slice_index r 8)) _ h in
    let clear = both (are_zero 9 1 r) (are_zero 14 2 r) tests.1 in
    (λ i. to_be_bytes w32 (u32_at r 0) ++ (to_be_bytes w32 (u32_at r 4) ++ (state_again (slice_index r 8) tests.0 i ∷ 0 ∷ (to_be_bytes w16 (u16_at r 10) ++ (to_be_bytes w16 (u16_at r 12) ++ (0 ∷ 0 ∷ rest)))))) ∙
    number32_at 0 r _ o (omega arith) (number32_at 4 r _ o (omega arith) (octet_at 8 r _ (omega arith) (zeros_at 9 1 r _ clear.0 (omega arith)
    (number16_at 10 r _ o (omega arith) (number16_at 12 r _ o (omega arith) (zeros_at 14 2 r rest clear.1 (omega arith) is))))))

rows_spelled : (n : ℕ) (r : List ℕ) → AreOctets r → are_rows n r ≡ true → length r ≡ 16 * n → rows_octets (rows_in n r) ≡ r
rows_spelled zero r o h size = at_end 0 r (omega arith)
rows_spelled (suc n) r o h size =
    let tests = both (is_row r) (are_rows n (drop 16 r)) h in
    row_at r _ o tests.0 (omega arith) (rows_spelled n (drop 16 r) (behind 16 r o) tests.1 (omega (arith, length-drop 16 r)))

pub length-rows_in : (n : ℕ) (r : List ℕ) → length (rows_in n r) ≡ n
length-rows_in zero r = refl
length-rows_in (suc n) r = ap suc (length-rows_in n (drop 16 r))

-- how many records there are, with and without
rows_by : (success : Bool) (n : ℕ) (m : List ℕ)
    → (if success then between 1 9 n && length m == 12 + 16 * n else length m == 12) ≡ true
    → (if success then are_rows n (drop 12 m) else n == 0) ≡ true
    → (n ≤ 9) × (length m ≡ 12 + 16 * n) × (are_rows n (drop 12 m) ≡ true)
rows_by true n m size fields =
    let tests = both (between 1 9 n) (length m == 12 + 16 * n) size in
    (leb-true n 9 (both (nat_le 1 n) (nat_le n 9) tests.0).1, eqb-true (length m) (12 + 16 * n) tests.1, fields)
rows_by false n m size fields =
    let none : n ≡ 0 = eqb-true n 0 fields in
    let twelve : length m ≡ 12 = eqb-true (length m) 12 size in
    (omega arith, omega arith, rw none refl)

pub rows_in_message : (m : List ℕ) → IsMessage kinds.AllPorts m
    → (u16_at m 8 ≤ 9) × (length m ≡ 12 + 16 * u16_at m 8) × (are_rows (u16_at m 8) (drop 12 m) ≡ true)
rows_in_message m is =
    rows_by (is_success (slice_index m 2)) (u16_at m 8) m is.has_its_size (both (are_zero 10 2 m) _ is.has_its_fields).1

all_ports_spelled : (m : List ℕ) → IsMessage kinds.AllPorts m → message_octets (message_in kinds.AllPorts m) ≡ m
all_ports_spelled m is =
    let clear : are_zero 10 2 m ≡ true = (both (are_zero 10 2 m) _ is.has_its_fields).0 in
    let facts = rows_in_message m is in
    let size : length m ≡ 12 + 16 * u16_at m 8 = facts.1 in
    let o = is.octets in
    (λ i. 1 ∷ 66 ∷ slice_index m 2 ∷ slice_index m 3 ∷ (to_be_bytes w32 (u32_at m 4) ++ (to_be_bytes w16 (length-rows_in (u16_at m 8) (drop 12 m) i) ++ (0 ∷ 0 ∷ rows_octets (rows_in (u16_at m 8) (drop 12 m)))))) ∙
    header_at m _ 66 is.version is.has_type (omega arith) (number32_at 4 m _ o (omega arith) (number16_at 8 m _ o (omega arith)
    (zeros_at 10 2 m _ clear (omega arith) (rows_spelled (u16_at m 8) (drop 12 m) (behind 12 m o) facts.2 (omega (arith, length-drop 12 m))))))

-- the message that octets are read as is spelled by these octets
pub spelled : (kind : MessageType) (m : List ℕ) → IsMessage kind m → message_octets (message_in kind m) ≡ m
spelled kinds.Adjacency m is = adjacency_spelled m is
spelled (kinds.Branch kind) m is = branch_spelled kind m is
spelled kinds.Move m is = move_spelled m is
spelled kinds.Port m is = port_spelled m is
spelled kinds.AllPorts m is = all_ports_spelled m is
