-- The trace of a run: what passes on the links of a network, event by event

use Rattle.std.specs.Prelude.{ℕ, not, Bool, ◌&&◌, List, [], ◌∷◌, ◌++◌, map, codes, Option, None, Some, if◌then◌else◌}
use Rattle.std.specs.List.{flat_map, list_any}
use Rattle.net_types.specs.declared.channel.Channel.{Channel}
use Rattle.net_types.specs.declared.node.NodeId.{NodeId}
use Rattle.net_types.specs.declared.node.PortNo.{PortNo}
use Rattle.net_types.specs.declared.node.Place.{Place}
use Rattle.net_types.specs.declared.node.Place.TheVariants.{Out}
use Rattle.net_types.specs.declared.number.Mark.{Mark}
use Rattle.net_types.specs.Label.{is_label_channel, label_channel_of}
use Rattle.atm_cells.specs.declared.cell.Cell.{Cell}
use Rattle.lab_text.specs.Text.{line_of}
use Rattle.link_model.specs.declared.frames.Frame.{Frame}
use Rattle.link_model.specs.declared.record.Record.{Record}
use Rattle.link_model.specs.declared.record.Record.TheVariants.{Bind}
use Rattle.link_model.specs.Ledger.{payload_of, same_mark}
use Rattle.link_model.specs.Notes.{Journal}
use Rattle.world_model.specs.network_model.declared.event.Event.{Event}
use Rattle.world_model.specs.network_model.declared.event.Event.TheVariants.{Carry, Lose}
use Rattle.world_model.specs.network_model.declared.link.LinkEnd.{LinkEnd}
use Rattle.world_model.specs.Run.{next}
use Rattle.world_model.specs.Topology.{Topology, Link}
use Rattle.world_model.specs.World.{World}
use Rattle.script_model.specs.Reports.{last_line_by}
use Rattle.telling_model.specs.declared.standing.Standing.{Standing}
use Rattle.telling_model.specs.Passing.{cells_put, cell_taken}
use Rattle.telling_model.specs.Tale.{Tale, Telling}
use Rattle.tell_trace.specs.Passages.{Passage, Linked, Taken, Lost, Framed, Put, Bound, passage_lines}

-- what is told, and the marks whose frames were told by then, the earlier told first
pub record Told : Type 0 where
  pub passages : List Passage
  pub marks : List Mark

abbrev pub port_end : NodeId → PortNo → LinkEnd
port_end node port = record { node = node; port = port }

-- *The links*, in the order of their lines
abbrev pub links_told : Topology → List Passage
links_told topology = map (λ (link : Link). Linked link.first link.second) topology.links

-- *The cell that was taken*, where the queue is a port's and held one
abbrev pub taken_told : Event → Option Standing → List Passage
taken_told (Carry (Out node port)) (Some standing) = Taken (port_end node port) ∷ []
taken_told (Lose (Out node port)) (Some standing) = Lost (port_end node port) ∷ []
taken_told event standing = []

-- *A frame* is told once, before its first cell on a label's channel
abbrev pub is_due : (marks : List Mark) → Channel → Mark → Bool
is_due marks channel mark = is_label_channel channel && not (list_any (same_mark mark) marks)

abbrev pub framed_by : (marks : List Mark) → Mark → (payload : Option (List ℕ)) → Told
framed_by marks mark None = record { passages = []; marks = marks }
framed_by marks mark (Some payload) = record { passages = Framed mark payload ∷ []; marks = marks ++ mark ∷ [] }

abbrev pub frame_told : List Frame → (marks : List Mark) → Channel → Mark → Told
frame_told frames marks channel mark =
    if is_due marks channel mark then framed_by marks mark (payload_of frames mark)
    else record { passages = []; marks = marks }

-- *A cell that was put*, where the queue is a port's
abbrev pub with_put : LinkEnd → Cell → Told → Told
with_put end cell told = record told { passages = told.passages ++ Put end cell.header.channel cell.mark ∷ [] }

abbrev pub cell_told : List Frame → (marks : List Mark) → Place → Cell → Told
cell_told frames marks (Out node port) cell =
    with_put (port_end node port) cell (frame_told frames marks cell.header.channel cell.mark)
cell_told frames marks place cell = record { passages = []; marks = marks }

abbrev pub behind : (first rest : Told) → Told
behind first rest = record { passages = first.passages ++ rest.passages; marks = rest.marks }

abbrev pub cells_told : List Frame → (marks : List Mark) → List Standing → Told
cells_told frames marks [] = record { passages = []; marks = marks }
cells_told frames marks (standing ∷ others) =
    let first = cell_told frames marks standing.place standing.cell in
    behind first (cells_told frames first.marks others)

-- *A binding*
abbrev pub bind_told : Record → List Passage
bind_told (Bind node port label flow) = Bound (port_end node port) (label_channel_of label) flow ∷ []
bind_told item = []

-- *An event*: the cell that it took, those that it put, and what it bound
abbrev pub around : List Passage → List Passage → Told → Told
around before after told = record told { passages = before ++ (told.passages ++ after) }

abbrev pub passed : (marks : List Mark) → Event → (taken : Option Standing) → (cells : List Standing) → (after : Journal) → Told
passed marks event taken cells after =
    around (taken_told event taken) (flat_map bind_told after.records) (cells_told after.frames marks cells)

abbrev pub event_told : (marks : List Mark) → Topology → World → Event → Told
event_told marks topology w event =
    passed marks event (cell_taken w event) (cells_put topology w event) (next topology w event).notes

-- *The tale*: the links, what passes on them, and then that the trace is whole, or what was refused
abbrev pub in_lines : Topology → Told → Telling (List Mark)
in_lines topology told = record { octets = passage_lines topology told.passages; state = told.marks }

abbrev pub trace_tale : Tale (List Mark)
trace_tale = record {
  opens = λ topology w. in_lines topology (record { passages = links_told topology; marks = [] });
  tells = λ marks topology w placed. in_lines topology (event_told marks topology w placed.event);
  ends = λ topology w ended. last_line_by (line_of (codes "end" ∷ [])) ended.refused;
}
