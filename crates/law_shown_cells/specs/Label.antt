-- What a cell of a link is to the line of a label of the link

use Rattle.std.specs.Prelude.{ℕ, Bool, ◌&&◌, ◌==◌, List, Option, None, Some, if◌then◌else◌}
use Rattle.std.specs.Option.{option_map, option_and_then}
use Rattle.world_model.specs.Words.{Addr, PortNo, Channel, label_channel_of, channel_on_control, source_of, Cell, default_unwrapped, Frame, payload_of, default_channel, same_channel, ifmp_in}
use Rattle.world_model.specs.ifmp_wire.declared.message.Message.{Message}
use Rattle.law_port_views.specs.law_label_line.Cells as lines
use Rattle.law_port_views.specs.law_label_line.Cells.{Role, Downstream, Upstream}
use Rattle.world_model.specs.Ways.{ok_of}
use Rattle.law_port_views.specs.Link.{LinkLabel, other}
use Rattle.law_port_views.specs.Heard.{heard_by, is_own}
use Rattle.law_shown_cells.specs.Seen.{Seen, Nothing, Word, Unknown, Shows}

-- *Messages of IFMP* as they come: with the source address of their packet
pub record Told : Type 0 where
  pub source : Addr
  pub message : Message

abbrev pub told_in : (packet : List ℕ) → Option Told
told_in packet = option_map (λ message. record { source = source_of packet; message = message }) (ifmp_in packet)

abbrev pub told_of : (payload : List ℕ) → Option Told
told_of payload = option_and_then told_in (ok_of (default_unwrapped payload))

-- one that bears on the label is a word, with each of its cells
abbrev pub seen_message : (last : Bool) → Option lines.Message → Seen lines.Cell
seen_message last None = Nothing
seen_message last (Some message) = Word (lines.Default last message)

-- it is in its sender's own words: from its address, and to that of the other end
abbrev pub seen_told : (by : Role) → LinkLabel → (last : Bool) → Told → Seen lines.Cell
seen_told by link last item =
    if (item.source.0 == (link.address by).0) && is_own (link.address (other by)) item.message
    then seen_message last (heard_by by link.label item.message)
    else Unknown

-- a packet that is no message of IFMP shows nothing
abbrev pub seen_packet : (by : Role) → LinkLabel → (last : Bool) → Option Told → Seen lines.Cell
seen_packet by link last None = Nothing
seen_packet by link last (Some item) = seen_told by link last item

abbrev pub seen_payload : (by : Role) → LinkLabel → (last : Bool) → Option (List ℕ) → Seen lines.Cell
seen_payload by link last None = Unknown
seen_payload by link last (Some payload) = seen_packet by link last (told_of payload)

-- *Cells under the label* come from its upstream end alone: what the other end sends on this channel is of the label with
-- the same number that the upstream end hands out. For which flow such a cell stands is left open
abbrev pub on_label : (by : Role) → Seen lines.Cell
on_label Upstream = Word (lines.Labelled 0)
on_label Downstream = Nothing

abbrev pub erased : lines.Cell → lines.Cell
erased (lines.Labelled flow) = lines.Labelled 0
erased (lines.Default last message) = lines.Default last message

-- *Where cells stand*: on the link, or on the control link of the port at one end of it
pub data Where : Type 0 where
  OnLink : Where
  OnControl : PortNo → Where

abbrev pub channel_at : Where → Channel → Channel
channel_at OnLink channel = channel
channel_at (OnControl port) channel = channel_on_control port channel

-- a cell from an end to the other one
abbrev pub seen : Where → (by : Role) → LinkLabel → List Frame → Cell → Seen lines.Cell
seen place by link frames cell =
    if same_channel cell.header.channel (channel_at place default_channel)
    then seen_payload by link cell.header.last (payload_of frames cell.mark)
    else (if same_channel cell.header.channel (channel_at place (label_channel_of link.label)) then on_label by else Nothing)

abbrev pub ShowsCells : Where → (by : Role) → LinkLabel → List Frame → List Cell → List lines.Cell → Type 0
ShowsCells place by link frames cells words = Shows erased (seen place by link frames) cells words
