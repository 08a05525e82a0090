-- What a trace tells, as far as it goes. A trace is the list of its lines that aren't blank, *the latest first*.

use Rattle.std.specs.Prelude.{ℕ, Bool, true, false, not, ◌||◌, List, [], ◌∷◌, ◌++◌, length, filter, drop, slice_get, Option, None, Some, if◌then◌else◌}
use Rattle.std.specs.List.{list_any}
use Rattle.std.specs.Option.{option_map, option_or}
use Rattle.net_types.specs.declared.number.Mark.{Mark}
use Rattle.ipv4_packet.specs.declared.flow.FlowId.{FlowId}
use Rattle.link_model.specs.Ledger.{same_mark}
use Rattle.trace_model.specs.declared.cell.Taken.{Taken}
use Rattle.trace_model.specs.declared.cell.TraceCell.{TraceCell}
use Rattle.trace_model.specs.declared.end.TraceEnd.{TraceEnd}
use Rattle.trace_model.specs.declared.end.TraceLabel.{TraceLabel}
use Rattle.trace_model.specs.declared.line.TraceLine.{TraceLine}
use Rattle.trace_model.specs.declared.line.TraceLine.TheVariants.{Link, Take, Lost, Frame, Put, Bind, End}
use Rattle.trace_model.specs.Ends.{same_end, same_label}

abbrev pub Trace : Type 0
Trace = List TraceLine

-- what the latest line tells that tells something, and what the earliest tells
abbrev pub latest : {A : Type 0} → (TraceLine → Option A) → Trace → Option A
latest tells [] = None
latest tells (line ∷ before) = option_or (tells line) (latest tells before)

abbrev pub earliest : {A : Type 0} → (TraceLine → Option A) → Trace → Option A
earliest tells [] = None
earliest tells (line ∷ before) = option_or (earliest tells before) (tells line)

-- how many lines are such
abbrev pub how_many : (TraceLine → Bool) → Trace → ℕ
how_many test trace = length (filter test trace)

-- *The other end* of the link at a port
abbrev pub other_end : TraceEnd → TraceLine → Option TraceEnd
other_end at (Link first second) = if same_end second at then Some first else if same_end first at then Some second else None
other_end at line = None

abbrev pub peer_of : Trace → TraceEnd → Option TraceEnd
peer_of trace at = latest (other_end at) trace

-- *The queue* of a port: the cells that were put there, less as many heads as there were takes and losses
abbrev pub put_at : TraceEnd → TraceLine → List TraceCell
put_at at (Put place mark) = if same_end place.end at then record { channel = place.channel; mark = mark } ∷ [] else []
put_at at line = []

abbrev pub puts_at : Trace → TraceEnd → List TraceCell
puts_at [] at = []
puts_at (line ∷ before) at = puts_at before at ++ put_at at line

abbrev pub leaves : TraceEnd → TraceLine → Bool
leaves at (Take end) = same_end end at
leaves at (Lost end) = same_end end at
leaves at line = false

abbrev pub gone_from : Trace → TraceEnd → ℕ
gone_from trace at = how_many (leaves at) trace

abbrev pub queue_of : Trace → TraceEnd → List TraceCell
queue_of trace at = drop (gone_from trace at) (puts_at trace at)

-- *The flow* of a channel at the port that its cells come to: that of its last `bind`
abbrev pub bound_to : TraceLabel → TraceLine → Option FlowId
bound_to at (Bind label flow) = if same_label label at then Some flow else None
bound_to at line = None

abbrev pub flow_at : Trace → TraceLabel → Option FlowId
flow_at trace at = latest (bound_to at) trace

-- *The payload* of a mark's frame
abbrev pub framed : Mark → TraceLine → Option (List ℕ)
framed of (Frame mark payload) = if same_mark mark of then Some payload else None
framed of line = None

abbrev pub payload_at : Trace → Mark → Option (List ℕ)
payload_at trace mark = latest (framed mark) trace

-- *The first put* of a mark: where, and on which channel
abbrev pub put_place : Mark → TraceLine → Option TraceLabel
put_place of (Put place mark) = if same_mark mark of then Some place else None
put_place of line = None

abbrev pub first_put : Trace → Mark → Option TraceLabel
first_put trace mark = earliest (put_place mark) trace

-- *The cell that the line before took*, and from where
abbrev pub taken_last : Trace → Option Taken
taken_last (Take end ∷ before) = option_map (λ cell. record { end = end; cell = cell }) (slice_get (queue_of before end) 0)
taken_last trace = None

-- *How far* the trace is, and what is counted
abbrev pub is_link : TraceLine → Bool
is_link (Link first second) = true
is_link line = false

abbrev pub is_put : TraceLine → Bool
is_put (Put place mark) = true
is_put line = false

abbrev pub is_bind : TraceLine → Bool
is_bind (Bind label flow) = true
is_bind line = false

abbrev pub is_end : TraceLine → Bool
is_end End = true
is_end line = false

abbrev pub has_begun : Trace → Bool
has_begun trace = list_any (λ line. not (is_link line)) trace

abbrev pub has_ended : Trace → Bool
has_ended trace = list_any is_end trace
