-- Frames: what is cut into cells, and what a chain is tested for when a last cell ends it
-- (I.363.5 9.2)

use Rattle.std.specs.Prelude.{ℕ, ◌+◌, List, [], ◌∷◌, ◌++◌, take, flat_map, Option, None, Some, if◌then◌else◌}
use Rattle.net_types.specs.declared.channel.Channel.{Channel}
use Rattle.net_types.specs.declared.number.Mark.{Mark}
use Rattle.atm_cells.specs.declared.cell.Cell.{Cell}
use Rattle.aal5_frames.specs.Frame.{cells_with, pdu_of, pdu_fault, length_field}
use Rattle.aal5_frames.specs.declared.check.FrameFault.{FrameFault}
use Rattle.link_model.specs.declared.record.Record.TheVariants.{Chance}
use Rattle.link_model.specs.Ledger.{is_frame}
use Rattle.link_model.specs.Notes.{Journal, noted}
use Rattle.frame_model.specs.Reassembly.{marks_of, broken}

-- the cells of a payload's frame
abbrev pub frame_cells : Channel → Mark → (payload : List ℕ) → List Cell
frame_cells channel mark payload = cells_with channel mark (pdu_of payload)

-- the notes keep the payload that was cut into cells under a mark
abbrev pub made : Journal → Mark → (payload : List ℕ) → Journal
made notes mark payload = record notes { frames = notes.frames ++ record { mark = mark; payload = payload } ∷ [] }

-- the mark of the next frame of the same packet: the first has number 1
abbrev pub next_mark : Mark → Mark
next_mark mark = record mark { frame = mark.frame + 1 }

abbrev pub octets_of : List Cell → List ℕ
octets_of cells = flat_map (λ cell. cell.payload) cells

-- the mark of the last of some cells
abbrev pub last_mark : List Cell → Mark
last_mark [] = record { packet = 0; frame = 0 }
last_mark (cell ∷ []) = cell.mark
last_mark (cell ∷ next ∷ cells) = last_mark (next ∷ cells)

abbrev pub payload_by : (octets : List ℕ) → Option FrameFault → Option (List ℕ)
payload_by octets None = Some (take (length_field octets) octets)
payload_by octets (Some fault) = None

-- the payload of octets that are a PDU
unfoldable pub payload_in : (octets : List ℕ) → Option (List ℕ)
payload_in octets = payload_by octets (pdu_fault octets)

-- the notes after a test, and the payload of a frame that passed it
pub record Tested : Type 0 where
  pub notes : Journal
  pub payload : Option (List ℕ)

-- a chain that passes counts as the frame of its last cell's mark: another payload than was made
-- under that mark has passed by chance
abbrev pub passed_test : Journal → Mark → (payload : List ℕ) → Journal
passed_test notes mark payload = if is_frame notes.frames mark payload then notes else noted notes (Chance mark)

abbrev pub tested_by : Journal → List Cell → Option (List ℕ) → Tested
tested_by notes cells None = record { notes = broken notes (marks_of cells); payload = None }
tested_by notes cells (Some payload) = record { notes = passed_test notes (last_mark cells) payload; payload = Some payload }

-- a chain that a last cell ended is tested
abbrev pub tested : Journal → List Cell → Tested
tested notes cells = tested_by notes cells (payload_in (octets_of cells))
