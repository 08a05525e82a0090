-- Which lines of a trace an auditor can read, and what it reads

use Rattle.std.specs.Prelude.{◌≡◌, ℕ, ◌+◌, ◌^◌, ◌<◌, true, length, Some, Ok}
use Rattle.net_types.specs.declared.number.Mark.{Mark}
use Rattle.net_types.specs.Label.{is_label_channel}
use Rattle.ipv4_packet.specs.Flow.{IsFlow}
use Rattle.ipv4_packet.specs.Identifier.{FitsFields}
use Rattle.lab_text.specs.Forms.{is_name}
use Rattle.lab_text.specs.Line.{input_limit}
use Rattle.trace_model.specs.Forms.{greatest_payload, is_cell_channel}
use Rattle.trace_model.specs.Lines.{line_says}
use Rattle.world_model.specs.network_model.declared.link.LinkEnd.{LinkEnd}
use Rattle.world_model.specs.Conditions.{AreOctets, IsPort, IsWithin}
use Rattle.world_model.specs.Topology.{Topology}
use Rattle.script_model.specs.Texts.{name_of}
use Rattle.tell_trace.specs.Passages.{Passage, Linked, Taken, Lost, Framed, Put, Bound, line_said, passage_line}

-- its words have their forms: nodes have names, ports are those of links, marks have 32 and 64 bits, a frame has
-- octets and not too many, a channel is the default one or a label's, and a bound one a label's
abbrev pub IsEnd : Topology → LinkEnd → Type 0
IsEnd topology end = (is_name (name_of topology end.node) ≡ true) × IsPort end.port

abbrev pub FitsMark : Mark → Type 0
FitsMark mark = (mark.packet < 2 ^ 32) × (mark.frame < 2 ^ 64)

abbrev pub IsSayable : Topology → Passage → Type 0
IsSayable topology (Linked first second) = IsEnd topology first × IsEnd topology second
IsSayable topology (Taken end) = IsEnd topology end
IsSayable topology (Lost end) = IsEnd topology end
IsSayable topology (Framed mark payload) = FitsMark mark × IsWithin 1 greatest_payload (length payload) × AreOctets payload
IsSayable topology (Put end channel mark) = IsEnd topology end × (is_cell_channel channel ≡ true) × FitsMark mark
IsSayable topology (Bound end channel flow) =
    IsEnd topology end × (is_label_channel channel ≡ true) × FitsFields flow × IsFlow flow

-- *Its line is read back*, behind so many octets, where no octet of it is the one that no input may hold
abbrev pub PassagesAreRead : Type 0
PassagesAreRead = (before : ℕ) (topology : Topology) (passage : Passage) → IsSayable topology passage
    → before + length (passage_line topology passage) < input_limit
    → line_says before (passage_line topology passage) ≡ Ok (Some (line_said topology passage))
