-- What is told of the links of a network, by its nodes: what each line of a trace says, and its text

use Rattle.std.specs.Prelude.{ℕ, List, [], ◌∷◌, codes}
use Rattle.std.specs.List.{flat_map}
use Rattle.net_types.specs.declared.channel.Channel.{Channel}
use Rattle.net_types.specs.declared.node.Place.TheVariants.{Out}
use Rattle.net_types.specs.declared.number.Mark.{Mark}
use Rattle.ipv4_packet.specs.declared.flow.FlowId.{FlowId}
use Rattle.ipv4_packet.specs.Identifier.{identifier}
use Rattle.lab_text.specs.Text.{hex_digits, line_of}
use Rattle.trace_model.specs.declared.end.TraceEnd.{TraceEnd}
use Rattle.trace_model.specs.declared.line.TraceLine.{TraceLine}
use Rattle.trace_model.specs.declared.line.TraceLine.TheVariants as said
use Rattle.trace_model.specs.Forms.{padded_name as padded}
use Rattle.world_model.specs.network_model.declared.link.LinkEnd.{LinkEnd}
use Rattle.world_model.specs.Topology.{Topology}
use Rattle.script_model.specs.Texts.{channel_text, mark_text, name_of, place_text, port_text}

-- two ports are linked; a cell is carried from the head of a port's queue, or lost there; a frame has this payload; a
-- cell of a frame comes to the end of a port's queue; cells that come to a port on a channel are of a flow from now on
pub data Passage : Type 0 where
  Linked : (first second : LinkEnd) → Passage
  Taken : LinkEnd → Passage
  Lost : LinkEnd → Passage
  Framed : Mark → (payload : List ℕ) → Passage
  Put : LinkEnd → Channel → Mark → Passage
  Bound : LinkEnd → Channel → FlowId → Passage

-- *The line that says it*, of a trace
abbrev pub end_said : Topology → LinkEnd → TraceEnd
end_said topology end = record { node = padded (name_of topology end.node); port = end.port }

abbrev pub line_said : Topology → Passage → TraceLine
line_said topology (Linked first second) = said.Link (end_said topology first) (end_said topology second)
line_said topology (Taken end) = said.Take (end_said topology end)
line_said topology (Lost end) = said.Lost (end_said topology end)
line_said topology (Framed mark payload) = said.Frame mark payload
line_said topology (Put end channel mark) = said.Put (record { end = end_said topology end; channel = channel }) mark
line_said topology (Bound end channel flow) = said.Bind (record { end = end_said topology end; channel = channel }) flow

-- *Its words*
abbrev pub end_word : Topology → LinkEnd → List ℕ
end_word topology end = place_text topology (Out end.node end.port)

abbrev pub passage_words : Topology → Passage → List (List ℕ)
passage_words topology (Linked first second) = codes "link" ∷ end_word topology first ∷ end_word topology second ∷ []
passage_words topology (Taken end) = codes "take" ∷ end_word topology end ∷ []
passage_words topology (Lost end) = codes "lost" ∷ end_word topology end ∷ []
passage_words topology (Framed mark payload) = codes "frame" ∷ mark_text mark ∷ hex_digits payload ∷ []
passage_words topology (Put end channel mark) =
    codes "put" ∷ end_word topology end ∷ channel_text channel ∷ mark_text mark ∷ []
passage_words topology (Bound end channel flow) =
    codes "bind" ∷ name_of topology end.node ∷ port_text end.port ∷ channel_text channel ∷ hex_digits (identifier flow) ∷ []

-- with its end
abbrev pub passage_line : Topology → Passage → List ℕ
passage_line topology passage = line_of (passage_words topology passage)

abbrev pub passage_lines : Topology → List Passage → List ℕ
passage_lines topology passages = flat_map (passage_line topology) passages
