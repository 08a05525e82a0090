-- *Counting*: the packets of the default channel are counted by flows, and a long flow is offered a label
-- (RFC 1953; the policy of Newman, Minshall and Lyon). The limit of standing requests is this project's
-- own.

use Rattle.std.specs.Prelude.{ℕ, false, ◌&&◌, List, Option, None, Some, if◌then◌else◌}
use Rattle.std.specs.Option.{option_or}
use Rattle.gsmp_wire.specs.declared.request.Request.TheVariants.{AddBranch}
use Rattle.link_model.specs.ipv4_packet.declared.flow.FlowKind.TheVariants.{One, Two}
use Rattle.link_model.specs.ipv4_packet.declared.flow.FlowId.{FlowId}
use Rattle.link_model.specs.ipv4_packet.Flow.{flow_of}
use Rattle.port_model.specs.Desk.{Desk}
use Rattle.port_model.specs.declared.action.Action.TheVariants.{Ask}
use Rattle.port_model.specs.Setup.{Setup, label_end, control_end}
use Rattle.port_model.specs.Labels.{Label, Wiring, label_for, lowest_spare}
use Rattle.port_model.specs.Counts.{counted_once, packets_in}
use Rattle.port_model.specs.Port.{Session, Work, with_action, with_session, with_label, with_new_label, label_at, has_room}

-- a packet's flow is of type 1 where it can be, else of type 2; at Time To Live 0 it has none
abbrev pub packet_flow : (packet : List ℕ) → Option FlowId
packet_flow packet = option_or (flow_of One packet) (flow_of Two packet)

-- a label is taken for a flow, and its branch to the controller is asked
abbrev pub wires : Setup → Work → FlowId → Option ℕ → Work
wires setup w flow None = w
wires setup w flow (Some number) =
    with_action (with_new_label w (record { number = number; state = Wiring; flow = flow; idle = 0; ticks = 0; join = None }))
    (Ask (AddBranch (label_end setup.port number) (control_end setup.port number)) false)

-- where the policy offers and fewer than 1,024 requests stand, the lowest spare label is taken
abbrev pub offers : Setup → Desk → Work → Session → FlowId → Work
offers setup desk w s flow =
    if setup.policy.offers flow (packets_in s.counted flow) && has_room desk w
    then wires setup w flow (lowest_spare setup s.least s.greatest s.labels)
    else w

abbrev pub counts_in : Setup → Desk → Work → FlowId → Session → Work
counts_in setup desk w flow s = offers setup desk (with_session w (λ old. s)) s flow

-- a label that is in use
abbrev pub used_label : Work → Option Label → Work
used_label w None = w
used_label w (Some label) = with_label w (record label { idle = 0 })

-- a flow that a label serves isn't counted: the label is in use
abbrev pub counts_flow : Setup → Desk → Work → Session → FlowId → Option Label → Work
counts_flow setup desk w s flow (Some label) = used_label w (Some label)
counts_flow setup desk w s flow None =
    counts_in setup desk w flow (record s { counted = counted_once s.counted flow })

abbrev pub counts_by : Setup → Desk → Work → Option Session → Option FlowId → Work
counts_by setup desk w None flow = w
counts_by setup desk w (Some s) None = w
counts_by setup desk w (Some s) (Some flow) = counts_flow setup desk w s flow (label_for s.labels flow)

-- a packet has come on the default channel
abbrev pub counts : Setup → Desk → Work → (packet : List ℕ) → Work
counts setup desk w packet = counts_by setup desk w w.port.session (packet_flow packet)

-- a packet has come on a label's channel
abbrev pub used : Work → (number : ℕ) → Work
used w number = used_label w (label_at w.port number)
