-- The journal of a script: a line where its network opens, one of each event that does something, and one at last

use Rattle.std.specs.Prelude.{ℕ, ◌+◌, Bool, true, false, not, ◌||◌, nat_lt, is_some, List, [], ◌∷◌, ◌++◌, length, map, codes, decimal, Option, None, Some, if◌then◌else◌}
use Rattle.link_model.specs.declared.frames.Frame.{Frame}
use Rattle.link_model.specs.declared.record.Record.{Record}
use Rattle.world_model.specs.network_model.declared.event.Event.{Event}
use Rattle.world_model.specs.network_model.declared.event.Event.TheVariants.{Carry, Lose}
use Rattle.world_model.specs.network_model.declared.link.LinkEnd.{LinkEnd}
use Rattle.world_model.specs.Run.{next}
use Rattle.world_model.specs.Topology.{Topology, Node, Link}
use Rattle.world_model.specs.World.{World, Counts, counts_of}
use Rattle.script_model.specs.declared.refusal.Refused.{Refused}
use Rattle.script_model.specs.Texts.{address_text, channel_text, name_of, end_text, place_text, mark_text}
use Rattle.script_model.specs.Records.{record_words}
use Rattle.script_model.specs.Reports.{end_words, refused_words}
use Rattle.script_model.specs.Writing.{event_words}
use Rattle.telling_model.specs.declared.standing.Standing.{Standing}
use Rattle.telling_model.specs.Passing.{cell_taken, frames_made, cells_put}
use Rattle.telling_model.specs.Placed.{Placed}
use Rattle.telling_model.specs.Tale.{Tale}
use Rattle.frame_words.specs.Frame.{frame_text}
use Rattle.tell_journal.specs.Json.{string, truth, null, array, member, object, json_line}

-- *A line without its end*: its words, with a space between each two
abbrev pub spaced : List (List ℕ) → List ℕ
spaced [] = []
spaced (word ∷ []) = word
spaced (word ∷ next ∷ words) = word ++ (codes " " ++ spaced (next ∷ words))

-- *The network*: its version, and its nodes and links in the order of their lines
abbrev pub node_value : Node → List ℕ
node_value node =
    object (member (codes "name") (string node.name) ∷ member (codes "address") (string (address_text node.address)) ∷ [])

abbrev pub end_value : Topology → LinkEnd → List ℕ
end_value topology end = string (end_text (name_of topology end.node) end.port)

abbrev pub link_value : Topology → Link → List ℕ
link_value topology link = array (end_value topology link.first ∷ end_value topology link.second ∷ [])

abbrev pub network_value : Topology → List ℕ
network_value topology = object (
    member (codes "version") (decimal topology.version)
    ∷ member (codes "nodes") (array (map node_value topology.nodes))
    ∷ member (codes "links") (array (map (link_value topology) topology.links)) ∷ [])

-- *A cell*: its queue, and its channel as it stands there, the mark of its frame, and whether it is the frame's last
abbrev pub cell_value : Topology → Standing → List ℕ
cell_value topology standing = object (
    member (codes "queue") (string (place_text topology standing.place))
    ∷ member (codes "channel") (string (channel_text standing.cell.header.channel))
    ∷ member (codes "mark") (string (mark_text standing.cell.mark))
    ∷ member (codes "last") (truth standing.cell.header.last) ∷ [])

abbrev pub taken_value : Topology → Option Standing → List ℕ
taken_value topology None = null
taken_value topology (Some standing) = cell_value topology standing

-- *A frame*
abbrev pub frame_value : Frame → List ℕ
frame_value frame = object (
    member (codes "mark") (string (mark_text frame.mark)) ∷ member (codes "text") (string (frame_text frame.payload)) ∷ [])

-- *What an event does*: the cell that it takes, the frames that it makes, the cells that it puts, and its records
pub record Deeds : Type 0 where
  pub taken : Option Standing
  pub frames : List Frame
  pub put : List Standing
  pub records : List Record

abbrev pub deeds_of : Topology → World → Event → Deeds
deeds_of topology w event = record {
  taken = cell_taken w event;
  frames = frames_made topology w event;
  put = cells_put topology w event;
  records = (next topology w event).notes.records;
}

-- *It does something* where one of these is there, and whatever else it is than a carry or a loss
abbrev pub is_carry_or_loss : Event → Bool
is_carry_or_loss (Carry place) = true
is_carry_or_loss (Lose place) = true
is_carry_or_loss event = false

abbrev pub has_some : {A : Type 0} → List A → Bool
has_some items = nat_lt 0 (length items)

abbrev pub is_told : Event → Deeds → Bool
is_told event deeds =
    not (is_carry_or_loss event)
    || (is_some deeds.taken || (has_some deeds.frames || (has_some deeds.put || has_some deeds.records)))

-- *An event*: its number, counted from 1; the number of the line that it comes of; its line without its end; what it
-- does
abbrev pub record_value : Topology → Record → List ℕ
record_value topology item = string (spaced (record_words topology item))

abbrev pub event_value : Topology → (number : ℕ) → Placed → Deeds → List ℕ
event_value topology number placed deeds = object (
    member (codes "event") (decimal number)
    ∷ member (codes "line") (decimal placed.line)
    ∷ member (codes "do") (string (spaced (event_words topology placed.event)))
    ∷ member (codes "took") (taken_value topology deeds.taken)
    ∷ member (codes "frames") (array (map frame_value deeds.frames))
    ∷ member (codes "put") (array (map (cell_value topology) deeds.put))
    ∷ member (codes "says") (array (map (record_value topology) deeds.records)) ∷ [])

abbrev pub event_line : Topology → (number : ℕ) → Placed → Deeds → List ℕ
event_line topology number placed deeds =
    if is_told placed.event deeds then json_line (event_value topology number placed deeds) else []

-- *The last line*: the last line of the script's report
abbrev pub last_name : Option Refused → List ℕ
last_name None = codes "end"
last_name (Some refused) = codes "refused"

abbrev pub last_words : (event_lines : ℕ) → Counts → Option Refused → List (List ℕ)
last_words event_lines counts None = end_words event_lines counts
last_words event_lines counts (Some refused) = refused_words refused

abbrev pub last_value : (event_lines : ℕ) → Counts → Option Refused → List ℕ
last_value event_lines counts refused =
    object (member (last_name refused) (string (spaced (last_words event_lines counts refused))) ∷ [])

-- *The journal*
abbrev pub journal_tale : Tale (Unit {0})
journal_tale = record {
  opens = λ topology w. record { octets = json_line (network_value topology); state = tt };
  tells = λ known topology w placed.
      record { octets = event_line topology (w.events + 1) placed (deeds_of topology w placed.event); state = tt };
  ends = λ topology w ended. json_line (last_value ended.event_lines (counts_of w) ended.refused);
}
