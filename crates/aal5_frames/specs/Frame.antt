-- The CPCS-PDU of AAL type 5 (I.363.5 9.2.1) and the cells that carry it (9.1)

use Rattle.std.specs.Prelude.{◌≡◌, ℕ, ◌+◌, ◌-◌, ◌*◌, ◌/◌, ◌%◌, ◌≤◌, Bool, not, ◌||◌, List, [], ◌∷◌, ◌++◌, length, take, drop, map, replicate, slice_index, Option, Some, None, if◌then◌else◌, ◌==◌, nat_lt}
use Rattle.std.specs.Int.{w16, w32, to_be_bytes, from_be_bytes}
use Rattle.std.specs.List.{range_with_len}
use Rattle.net_types.specs.declared.channel.Channel.{Channel}
use Rattle.net_types.specs.declared.number.Mark.{Mark}
use Rattle.atm_cells.specs.declared.cell.Cell.{Cell}
use Rattle.aal5_frames.specs.declared.check.FrameFault.{FrameFault}
use Rattle.aal5_frames.specs.declared.check.FrameFault.TheVariants.{Empty, Size, Cpi, Length, Crc}
use Rattle.aal5_frames.specs.Crc.{crc_of}

-- the most octets of a payload: what 32 cells hold beside the trailer. This project's own limit
abbrev pub greatest_payload : ℕ
greatest_payload = 1528

-- all octets of a PDU before its CRC: the payload, a pad, UU, CPI 0 and the payload's length
abbrev pub pdu_front : (payload pad : List ℕ) → (uu : ℕ) → List ℕ
pdu_front payload pad uu = payload ++ pad ++ uu ∷ 0 ∷ to_be_bytes w16 (length payload)

-- the whole PDU
abbrev pub pdu_with : (payload pad : List ℕ) → (uu : ℕ) → List ℕ
pdu_with payload pad uu = pdu_front payload pad uu ++ to_be_bytes w32 (crc_of (pdu_front payload pad uu))

-- these octets are a PDU of this payload: its pad of 0 to 47 octets fills whole cells
pub record IsPdu (payload octets : List ℕ) : Type 0 where
  pub pad : List ℕ
  pub uu : ℕ
  pub is : octets ≡ pdu_with payload pad uu
  pub pad_within : length pad ≤ 47
  pub whole_cells : length octets % 48 ≡ 0
  pub not_empty : 1 ≤ length payload
  pub at_most : length payload ≤ greatest_payload

-- how many cells carry a payload of this length, with the 8 octets of the trailer
abbrev pub cells_for : (payload_length : ℕ) → ℕ
cells_for payload_length = (payload_length + 55) / 48

-- the PDU with zero pad and UU
unfoldable pub pdu_of : (payload : List ℕ) → List ℕ
pdu_of payload = pdu_with payload (replicate (48 * cells_for (length payload) - 8 - length payload) 0) 0

-- the k-th cell, from 0, of those that carry these octets: the last alone is marked as last
abbrev pub cell_of : Channel → Mark → (octets : List ℕ) → (k : ℕ) → Cell
cell_of channel mark octets k =
    record { header = record { channel = channel; last = 48 * (k + 1) == length octets }; payload = take 48 (drop (48 * k) octets); mark = mark }

unfoldable pub cells_with : Channel → Mark → (octets : List ℕ) → List Cell
cells_with channel mark octets = map (cell_of channel mark octets) (range_with_len 0 (length octets / 48))

-- the fields of the 8 octets at the end of any frame
abbrev pub from_end : List ℕ → ℕ → ℕ
from_end octets k = slice_index octets (length octets - k)

abbrev pub length_field : (octets : List ℕ) → ℕ
length_field octets = from_be_bytes w16 (from_end octets 6 ∷ from_end octets 5 ∷ [])

abbrev pub crc_field : (octets : List ℕ) → ℕ
crc_field octets = from_be_bytes w32 (from_end octets 4 ∷ from_end octets 3 ∷ from_end octets 2 ∷ from_end octets 1 ∷ [])

-- a payload of this length leaves no pad of 0 to 47 octets before the trailer
abbrev pub has_wrong_length : (size payload_length : ℕ) → Bool
has_wrong_length size payload_length =
    payload_length == 0 || nat_lt size (payload_length + 8) || nat_lt (payload_length + 55) size

-- the first test that octets fail
abbrev pub pdu_fault : (octets : List ℕ) → Option FrameFault
pdu_fault octets =
    if length octets == 0 then Some Empty
    else (if not (length octets % 48 == 0) || nat_lt 1536 (length octets) then Some Size
    else (if not (from_end octets 7 == 0) then Some Cpi
    else (if has_wrong_length (length octets) (length_field octets) then Some Length
    else (if not (crc_field octets == crc_of (take (length octets - 4) octets)) then Some Crc
    else None))))
