-- The cell at the user-network interface (I.361 2.2) and its header error control (I.432.1 4.3.2)

use Rattle.std.specs.Prelude.{ℕ, List, ◌∷◌, ◌++◌, Bool, false, not, replicate, take, drop, slice_index, Option, Some, None, if◌then◌else◌, ◌==◌, nat_lt}
use Rattle.std.specs.Int.{w32, to_be_bytes}
use Rattle.atm_cells.specs.declared.cell.Header.{Header}
use Rattle.atm_cells.specs.declared.fault.CellFault.{CellFault}
use Rattle.atm_cells.specs.declared.fault.CellFault.TheVariants.{Hec, Gfc, Pt, Clp}
use Rattle.atm_cells.specs.Polynomial.{plus, remainder, bits, octet_bits, number}

-- x^8 + x^2 + x + 1 without its leading term
abbrev pub hec_generator : List Bool
hec_generator = bits 8 0b0000_0111

-- what is added to the remainder: x^6 + x^4 + x^2 + 1
abbrev pub coset : List Bool
coset = bits 8 0b0101_0101

-- the HEC octet of a header's first four octets: the remainder of the polynomial of their 32 bits,
-- times x^8, plus the coset (I.432.1 4.3.2)
unfoldable pub hec_of : (front : List ℕ) → ℕ
hec_of front = number (plus (remainder hec_generator (octet_bits front ++ replicate 8 false)) coset)

-- the payload type of user data without congestion: 1 in the last cell of an AAL5 frame, else 0
-- (I.361 2.2)
abbrev pub pt_of : (last : Bool) → ℕ
pt_of last = if last then 1 else 0

-- the fields of a header in their order (I.361 2.2): GFC, VPI, VCI, PT, CLP
abbrev pub header_bits : Header → List Bool
header_bits h =
    bits 4 0 ++ (bits 8 h.channel.vpi ++ (bits 16 h.channel.vci ++ (bits 3 (pt_of h.last) ++ bits 1 0)))

-- the four octets of these bits, each octet's highest bit first
abbrev pub header_front : Header → List ℕ
header_front h = to_be_bytes w32 (number (header_bits h))

-- the octets of a cell: the header's four, their HEC, the payload
abbrev pub cell_octets : Header → (payload : List ℕ) → List ℕ
cell_octets h payload = header_front h ++ hec_of (header_front h) ∷ payload

-- the fields of any header, by their places among its bits
abbrev pub front_bits : (octets : List ℕ) → List Bool
front_bits octets = octet_bits (take 4 octets)

abbrev pub gfc : (octets : List ℕ) → ℕ
gfc octets = number (take 4 (front_bits octets))

abbrev pub pt : (octets : List ℕ) → ℕ
pt octets = number (take 3 (drop 28 (front_bits octets)))

abbrev pub clp : (octets : List ℕ) → ℕ
clp octets = number (drop 31 (front_bits octets))

-- the first test that 53 octets fail
abbrev pub cell_fault : (octets : List ℕ) → Option CellFault
cell_fault octets =
    if not (slice_index octets 4 == hec_of (take 4 octets)) then Some Hec
    else (if not (gfc octets == 0) then Some Gfc
    else (if nat_lt 1 (pt octets) then Some Pt
    else (if not (clp octets == 0) then Some Clp
    else None)))
