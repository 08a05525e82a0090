-- When octets are no GSMP message (RFC 1987): the tests in their order. Octets are counted from 0
-- behind the LLC/SNAP header.

use Rattle.std.specs.Prelude.{ℕ, Bool, true, not, ◌&&◌, ◌||◌, ◌==◌, ◌+◌, ◌*◌, List, [], ◌∷◌, length, take, drop, Option, Some, None, zero, suc, nat_le, nat_lt, slice_index, if◌then◌else◌}
use Rattle.std.specs.List.{find, list_all}
use Rattle.std.specs.Str.{bytes_eq}
use Rattle.gsmp_wire.specs.declared.fault.Fault.{Fault}
use Rattle.gsmp_wire.specs.declared.fault.Fault.TheVariants as faults
use Rattle.gsmp_wire.specs.declared.message.BranchKind.TheVariants.{Add, Delete, Verify, DeleteAll}
use Rattle.gsmp_wire.specs.declared.message.MessageType.{MessageType}
use Rattle.gsmp_wire.specs.declared.message.MessageType.TheVariants.{Adjacency, Branch, Move, Port, AllPorts}
use Rattle.octet_fields.specs.Fields.{u16_at}
use Rattle.gsmp_wire.specs.Layout.{snap_header, type_number}

-- these octets are 0
abbrev pub are_zero : (place count : ℕ) → List ℕ → Bool
are_zero place count m = list_all (λ octet. octet == 0) (take count (drop place m))

-- the Result of a request, of a success and of a failure
abbrev pub is_success : (result : ℕ) → Bool
is_success result = result == 3

abbrev pub is_failure : (result : ℕ) → Bool
is_failure result = result == 4

abbrev pub between : (least greatest number : ℕ) → Bool
between least greatest number = nat_le least number && nat_le number greatest

-- the message of this Message Type
abbrev pub type_of : ℕ → Option MessageType
type_of number =
    find (λ kind. type_number kind == number)
    (Adjacency ∷ Branch Add ∷ Branch Delete ∷ Branch Verify ∷ Branch DeleteAll ∷ Move ∷ Port
    ∷ AllPorts ∷ [])

abbrev pub is_result : MessageType → ℕ → Bool
is_result Adjacency result = result == 0
is_result _ result = between 2 4 result

abbrev pub is_code : MessageType → (result code : ℕ) → Bool
is_code Adjacency _ code = between 1 4 code
is_code _ result code = if is_failure result then between 1 7 code else code == 0

-- All Ports has its records in a success answer alone, 1 to 9 of them
abbrev pub has_size : MessageType → List ℕ → Bool
has_size Adjacency m = length m == 32
has_size (Branch _) m = length m == 32
has_size Move m = length m == 40
has_size Port m = length m == 20
has_size AllPorts m =
    if is_success (slice_index m 2)
    then between 1 9 (u16_at m 8) && length m == 12 + 16 * u16_at m 8
    else length m == 12

-- the fields of a connection message that are to be 0, and Branches: 0, in a success answer 0 or 1
abbrev pub is_connection : List ℕ → Bool
is_connection m =
    are_zero 30 1 m && nat_le (u16_at m 28) (if is_success (slice_index m 2) then 1 else 0)

abbrev pub is_row : List ℕ → Bool
is_row r = between 1 2 (slice_index r 8) && (are_zero 9 1 r && are_zero 14 2 r)

abbrev pub are_rows : (count : ℕ) → List ℕ → Bool
are_rows zero rows = true
are_rows (suc count) rows = is_row rows && are_rows count (drop 16 rows)

-- the fields that are to be 0 are, and the others have one of their values: the outputs of Delete
-- Tree, Delete All and, but in a success answer, Verify Tree are 0, and so is the input channel of
-- Delete All
abbrev pub has_fields : MessageType → List ℕ → Bool
has_fields Adjacency m = true
has_fields (Branch Add) m = is_connection m
has_fields (Branch Delete) m = is_connection m && are_zero 20 8 m
has_fields (Branch Verify) m = is_connection m && (is_success (slice_index m 2) || are_zero 20 8 m)
has_fields (Branch DeleteAll) m = is_connection m && (are_zero 20 8 m && are_zero 16 4 m)
has_fields Move m = is_connection m
has_fields Port m = between 1 2 (slice_index m 16) && are_zero 17 3 m
has_fields AllPorts m =
    are_zero 10 2 m && (
    if is_success (slice_index m 2)
    then are_rows (u16_at m 8) (drop 12 m)
    else u16_at m 8 == 0)

-- the tests of a message of this type
abbrev pub refusal_at : MessageType → List ℕ → Option Fault
refusal_at kind m =
    if not (is_result kind (slice_index m 2)) then Some faults.Result
    else (if not (is_code kind (slice_index m 2) (slice_index m 3)) then Some faults.Code
    else (if not (has_size kind m) then Some faults.Size
    else (if not (has_fields kind m) then Some faults.Reserved
    else None)))

abbrev pub refusal_by : Option MessageType → List ℕ → Option Fault
refusal_by None m = Some faults.MessageType
refusal_by (Some kind) m = refusal_at kind m

-- the first test that octets fail, if they fail one
abbrev pub refusal : List ℕ → Option Fault
refusal octets =
    if nat_lt (length octets) 12 then Some faults.Short
    else (if not (bytes_eq (take 8 octets) snap_header) then Some faults.Snap
    else (if not (slice_index octets 8 == 1) then Some faults.Version
    else refusal_by (type_of (slice_index octets 9)) (drop 8 octets)))
