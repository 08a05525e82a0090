-- What it means that a trace is good, in words of the trace alone

use Rattle.std.specs.Prelude.{◌≡◌, ◌≢◌, ℕ, true, List, [], ◌∷◌, take, Option, Some, Ok, All}
use Rattle.std.specs.Option.{option_and_then}
use Rattle.lab_text.specs.Line.{input_limit}
use Rattle.lab_text.specs.Lines.{lines_of}
use Rattle.net_types.specs.declared.number.Mark.{Mark}
use Rattle.net_types.specs.Label.{is_label_channel}
use Rattle.ipv4_packet.specs.declared.flow.FlowId.{FlowId}
use Rattle.ipv4_packet.specs.Flow.{next_hop_of}
use Rattle.flow_encaps.specs.Unwrapped.{unwrapped}
use Rattle.trace_model.specs.declared.cell.Taken.{Taken}
use Rattle.trace_model.specs.declared.end.TraceEnd.{TraceEnd}
use Rattle.trace_model.specs.declared.end.TraceLabel.{TraceLabel}
use Rattle.trace_model.specs.declared.line.TraceLine.{TraceLine}
use Rattle.trace_model.specs.declared.line.TraceLine.TheVariants.{Put, Bind}
use Rattle.trace_model.specs.Trace.{Trace, peer_of, queue_of, flow_at, payload_at, first_put, taken_last}
use Rattle.trace_model.specs.Audit.{ReadSoFar, nothing_read, past_after}

-- the lines of an input that aren't blank, the latest first
abbrev pub past_behind : ReadSoFar → (lines : List (List ℕ)) → ReadSoFar
past_behind past [] = past
past_behind past (line ∷ lines) = past_behind (past_after past line) lines

abbrev pub trace_of : List ℕ → Trace
trace_of octets = (past_behind nothing_read (lines_of (take input_limit octets))).trace

-- this holds of each line and those before it
abbrev pub AtEach : (Trace → TraceLine → Type 0) → Trace → Type 0
AtEach holds [] = Unit {0}
AtEach holds (line ∷ before) = holds before line × AtEach holds before

-- *No cell of a label* stands in the queue towards it
abbrev pub HasNoCells : Trace → TraceLabel → Type 0
HasNoCells before label =
    (from : TraceEnd) → peer_of before label.end ≡ Some from → All (λ cell. cell.channel ≢ label.channel) (queue_of before from)

-- the flow of a cell in a port's queue: that of its channel at the other end
abbrev pub flow_of_cell : Trace → TraceLabel → Option FlowId
flow_of_cell before place =
    option_and_then (λ peer. flow_at before (record { end = peer; channel = place.channel })) (peer_of before place.end)

-- *A cell is of a labelled frame of its label's flow*: under that flow the payload is a packet
pub record IsLabelled (before : Trace) (place : TraceLabel) (mark : Mark) : Type 0 where
  pub payload : List ℕ
  pub flow : FlowId
  pub packet : List ℕ
  pub is_framed : payload_at before mark ≡ Some payload
  pub is_bound : flow_of_cell before place ≡ Some flow
  pub is_packet : unwrapped flow payload ≡ Ok packet

-- *A switch passes a cell on*: the line before took a cell of the mark on a label's channel, whose link leads to the
-- node of this put, and the mark's first cell was put at another port or on another channel
pub record IsSwitched (before : Trace) (place : TraceLabel) (mark : Mark) (taken : Taken) : Type 0 where
  pub is_taken : taken_last before ≡ Some taken
  pub same_mark : taken.cell.mark ≡ mark
  pub on_label : is_label_channel taken.cell.channel ≡ true
  pub peer : TraceEnd
  pub is_peer : peer_of before taken.end ≡ Some peer
  pub same_node : peer.node ≡ place.end.node
  pub first : TraceLabel
  pub is_first : first_put before mark ≡ Some first
  pub elsewhere : first ≢ place

-- and it goes to the flow one hop further: with the Time To Live one less
pub record IsNextHop (before : Trace) (place : TraceLabel) (taken : Taken) : Type 0 where
  pub came : FlowId
  pub flow : FlowId
  pub is_came : flow_of_cell before (record { end = taken.end; channel = taken.cell.channel }) ≡ Some came
  pub is_flow : flow_of_cell before place ≡ Some flow
  pub is_next : next_hop_of came ≡ Some flow

pub record IsCleanPut (before : Trace) (place : TraceLabel) (mark : Mark) : Type 0 where
  pub labelled : IsLabelled before place mark
  pub switched : (taken : Taken) → IsSwitched before place mark taken → IsNextHop before place taken

-- *A line of a clean trace*
abbrev pub IsClean : Trace → TraceLine → Type 0
IsClean before (Put place mark) = is_label_channel place.channel ≡ true → IsCleanPut before place mark
IsClean before (Bind label flow) = HasNoCells before label
IsClean before line = Unit {0}
