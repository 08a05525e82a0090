-- The judgement of a line by what is known of the lines before it

use Rattle.std.specs.Prelude.{ℕ, Bool, true, false, not, ◌&&◌, ◌||◌, is_some, is_none, List, [], ◌∷◌, Option, None, Some, Result, Ok, Err, if◌then◌else◌}
use Rattle.std.specs.List.{list_any}
use Rattle.std.specs.Option.{option_map, option_map_or, option_and_then}
use Rattle.net_types.specs.declared.channel.Channel.{Channel}
use Rattle.net_types.specs.declared.number.Mark.{Mark}
use Rattle.net_types.specs.Label.{is_label_channel}
use Rattle.ipv4_packet.specs.declared.flow.FlowId.{FlowId}
use Rattle.ipv4_packet.specs.Flow.{next_hop_of}
use Rattle.ipv4_packet.specs.Parts.{same_flow}
use Rattle.flow_encaps.specs.Labelled.{unwrap_fault}
use Rattle.link_model.specs.Ledger.{same_mark}
use Rattle.trace_model.specs.declared.cell.Taken.{Taken}
use Rattle.trace_model.specs.declared.cell.TraceCell.{TraceCell}
use Rattle.trace_model.specs.declared.end.TraceEnd.{TraceEnd}
use Rattle.trace_model.specs.declared.end.TraceLabel.{TraceLabel}
use Rattle.trace_model.specs.declared.line.TraceLine.{TraceLine}
use Rattle.trace_model.specs.declared.line.TraceLine.TheVariants.{Link, Take, Lost, Frame, Put, Bind, End}
use Rattle.trace_model.specs.declared.refusal.TraceRefusal.{TraceRefusal}
use Rattle.trace_model.specs.declared.refusal.TraceRefusal.TheVariants.{Late, PortTaken, SelfLink, NoLink}
use Rattle.trace_model.specs.declared.verdict.Breach.{Breach}
use Rattle.trace_model.specs.declared.verdict.Breach.TheVariants as breach
use Rattle.trace_model.specs.declared.verdict.Step.{Step}
use Rattle.trace_model.specs.declared.verdict.Step.TheVariants.{Good, No}
use Rattle.trace_model.specs.Ends.{same_node, same_end, same_channel, same_label}
use Rattle.trace_model.specs.Trace.{is_link}
use Rattle.trace_model.specs.Known.{Known}

-- *Refusals* by what the lines before say: a link behind another line, any line behind `end`
abbrev pub is_late : Known → TraceLine → Bool
is_late known line = known.ended || (is_link line && known.begun)

-- a link joins two ports that aren't linked, and each other port that a line names is linked
abbrev pub unless_linked : Known → TraceEnd → Option TraceRefusal
unless_linked known end = if is_some (known.peer end) then None else Some NoLink

abbrev pub misplaced : Known → TraceLine → Option TraceRefusal
misplaced known (Link first second) =
    if is_some (known.peer first) || is_some (known.peer second) then Some PortTaken
    else if same_end first second then Some SelfLink
    else None
misplaced known (Take end) = unless_linked known end
misplaced known (Lost end) = unless_linked known end
misplaced known (Frame mark payload) = None
misplaced known (Put place mark) = unless_linked known place.end
misplaced known (Bind label flow) = unless_linked known label.end
misplaced known End = None

abbrev pub refusal_of : Known → TraceLine → Option TraceRefusal
refusal_of known line = if is_late known line then Some Late else misplaced known line

-- *The queue towards* a port, and *the flow* of a cell in a queue: its channel's at the other end
abbrev pub queue_towards : Known → TraceEnd → List TraceCell
queue_towards known end = option_map_or known.queue (known.peer end) []

abbrev pub flow_from : Known → TraceEnd → Channel → Option FlowId
flow_from known end channel =
    option_and_then (λ peer. known.flow (record { end = peer; channel = channel })) (known.peer end)

abbrev pub stands_on : Channel → TraceCell → Bool
stands_on channel cell = same_channel cell.channel channel

-- *A switched cell*: the line before took a cell of its mark on a label's channel, its node is at the other end of the
-- port of that take, and the first cell of the mark was put elsewhere or on another channel
abbrev pub is_at_node : TraceEnd → Option TraceEnd → Bool
is_at_node end None = false
is_at_node end (Some peer) = same_node peer.node end.node

abbrev pub is_elsewhere : TraceLabel → Option TraceLabel → Bool
is_elsewhere place None = false
is_elsewhere place (Some first) = not (same_label first place)

abbrev pub is_switched_from : Known → TraceLabel → Mark → Taken → Bool
is_switched_from known place mark taken =
    (same_mark taken.cell.mark mark && is_label_channel taken.cell.channel)
    && (is_at_node place.end (known.peer taken.end) && is_elsewhere place (known.first mark))

-- it goes to the flow one hop further than the one it came by
abbrev pub is_flow : FlowId → Option FlowId → Bool
is_flow flow None = false
is_flow flow (Some other) = same_flow other flow

abbrev pub is_next_hop : Option FlowId → FlowId → Bool
is_next_hop came flow = is_flow flow (option_and_then next_hop_of came)

abbrev pub misses_hop_from : Known → TraceLabel → Mark → FlowId → Taken → Bool
misses_hop_from known place mark flow taken =
    is_switched_from known place mark taken && not (is_next_hop (flow_from known taken.end taken.cell.channel) flow)

abbrev pub misses_hop : Known → TraceLabel → Mark → FlowId → Bool
misses_hop known place mark flow = option_map_or (misses_hop_from known place mark flow) known.taken false

-- *A cell on a label's channel*, by its frame and its channel's flow
abbrev pub labelled_breach : Known → TraceLabel → Mark → Option (List ℕ) → Option FlowId → Option Breach
labelled_breach known place mark None flow = Some breach.Frame
labelled_breach known place mark (Some payload) None = Some breach.NoFlow
labelled_breach known place mark (Some payload) (Some flow) =
    if is_some (unwrap_fault flow payload) then Some breach.Flow
    else if misses_hop known place mark flow then Some breach.Hop
    else None

-- *What is wrong with a line* that isn't refused
abbrev pub served_breach : List TraceCell → Option Breach
served_breach [] = Some breach.Empty
served_breach (cell ∷ cells) = None

abbrev pub breach_of : Known → TraceLine → Option Breach
breach_of known (Link first second) = None
breach_of known (Take end) = served_breach (known.queue end)
breach_of known (Lost end) = served_breach (known.queue end)
breach_of known (Frame mark payload) = if is_some (known.payload mark) then Some breach.Frame else None
breach_of known (Put place mark) =
    if is_label_channel place.channel
    then labelled_breach known place mark (known.payload mark) (flow_from known place.end place.channel)
    else None
breach_of known (Bind label flow) =
    if list_any (stands_on label.channel) (queue_towards known label.end) then Some breach.Reuse else None
breach_of known End = None

-- *The judgement*
abbrev pub step_of : Option Breach → Step
step_of None = Good
step_of (Some breach) = No breach

abbrev pub judged_by : Option TraceRefusal → Option Breach → Result Step TraceRefusal
judged_by None breach = Ok (step_of breach)
judged_by (Some refusal) breach = Err refusal

abbrev pub judged : Known → TraceLine → Result Step TraceRefusal
judged known line = judged_by (refusal_of known line) (breach_of known line)
