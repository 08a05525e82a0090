-- A frame on a link as a packet of a SunATM interface

use Rattle.std.specs.Prelude.{ℕ, ◌%◌, ◌^◌, ◌==◌, ◌&&◌, ◌||◌, nat_le, Bool, true, false, List, [], ◌∷◌, ◌++◌, flat_map, codes, Option, None, Some, if◌then◌else◌}
use Rattle.std.specs.Int.{w16, to_be_bytes}
use Rattle.net_types.specs.declared.channel.Channel.{Channel}
use Rattle.net_types.specs.declared.node.Place.{Place}
use Rattle.net_types.specs.declared.node.Place.TheVariants.{Down, Up, Out}
use Rattle.net_types.specs.declared.number.Mark.{Mark}
use Rattle.atm_cells.specs.declared.cell.Cell.{Cell}
use Rattle.frame_model.specs.Frame.{octets_of, payload_in}
use Rattle.frame_model.specs.Reassembly.{distinct, marks_of}
use Rattle.script_model.specs.Texts.{mark_text}
use Rattle.frame_words.specs.Frame.{frame_text}
use Rattle.pcapng_blocks.specs.Blocks.{Block, Packet, opt_comment}
use Rattle.telling_model.specs.declared.standing.Standing.{Standing}
use Rattle.frame_packets.specs.Taps.{Tap}

-- *The payload of a whole packet*: its cells, at most 32, are a CPCS-PDU; of a broken one there is none
abbrev pub payload_of : Tap → Option (List ℕ)
payload_of tap = if tap.has_more then None else payload_in (octets_of tap.kept)

-- *The default channels*: 0/15, and on the links between a controller and its switch 16 times a port's number, and 15
abbrev pub is_control : Place → Bool
is_control (Down node) = true
is_control (Up node) = true
is_control (Out node port) = false

abbrev pub is_default : Place → Channel → Bool
is_default place channel =
    (channel.vci == 15)
    && ((channel.vpi == 0) || (is_control place && ((channel.vpi % 16 == 0) && nat_le channel.vpi 128)))

-- *The head* of a packet: what its octets are (2 says in the LLC encapsulation, and 4 isn't told), the VPI and the VCI
abbrev pub kind_of : Place → Channel → ℕ
kind_of place channel = if is_default place channel then 2 else 4

abbrev pub head_of : (kind : ℕ) → Channel → List ℕ
head_of kind channel = kind ∷ channel.vpi % 2 ^ 8 ∷ to_be_bytes w16 channel.vci

-- *The data*: behind the head the payload, or the payloads of the cells that were kept
abbrev pub data_of : Place → Channel → List Cell → Option (List ℕ) → List ℕ
data_of place channel cells None = head_of 4 channel ++ octets_of cells
data_of place channel cells (Some payload) = head_of (kind_of place channel) channel ++ payload

-- *The comment*: the last cell's mark and the text of the frame, or the marks of the cells that were kept
abbrev pub marks_text : List Mark → List ℕ
marks_text marks = flat_map (λ mark. codes " " ++ mark_text mark) marks

abbrev pub comment_of : (last : Mark) → List Cell → Option (List ℕ) → List ℕ
comment_of last cells None = codes "broken" ++ marks_text (distinct (marks_of cells))
comment_of last cells (Some payload) = mark_text last ++ (codes " " ++ frame_text payload)

-- *The packet* that a last cell ends, of the cells of its tap
abbrev pub packet_of : (interface number : ℕ) → Standing → Tap → Block
packet_of interface number standing tap =
    Packet interface number
    (data_of standing.place standing.cell.header.channel tap.kept (payload_of tap))
    (opt_comment (comment_of standing.cell.mark tap.kept (payload_of tap)) ∷ [])
