-- *Reclaim*, *Reclaim Ack*, *Label Range* and *Error* (RFC 1953). That a join is taken back first, and
-- which errors recall a label, are this project's own.

use Rattle.std.specs.Prelude.{ℕ, Bool, true, false, not, ◌==◌, min, map, fold, Option, None, Some, if◌then◌else◌}
use Rattle.net_types.specs.declared.channel.Channel.{Channel}
use Rattle.net_types.specs.declared.channel.End.{End}
use Rattle.net_types.specs.Label.{label_channel_of}
use Rattle.port_model.specs.Desk.{Desk}
use Rattle.link_model.specs.ipv4_packet.declared.flow.FlowId.{FlowId}
use Rattle.link_model.specs.ipv4_packet.Parts.{same_flow}
use Rattle.port_model.specs.declared.action.Action.TheVariants.{TakeBack}
use Rattle.port_model.specs.Setup.{Setup, label_end, channel_le, is_between}
use Rattle.port_model.specs.Labels.{Label, LabelState, Offered, Recalled, label_number}
use Rattle.port_model.specs.Grants.{Grant, GrantState, Idle, ByController, ByInput, Leaving}
use Rattle.port_model.specs.Port.{Session, Work, with_action, with_session, with_label, with_grant, without_grant, label_at, labels_of}
use Rattle.port_model.specs.Saying.{last_number, says, reclaim, reclaim_ack, error}
use Rattle.port_model.specs.Adjacency.{quits}

-- *The downstream end recalls a label*: it says RECLAIM, keeps its number, and takes the label's join
-- back. Where the numbers are spent it says nothing more and is reset; the last number stands for its own

abbrev pub reclaims_in : Work → Label → Option Session → Work
reclaims_in w label None = w
reclaims_in w label (Some s) =
    says (with_label w (record label { state = Recalled (min last_number s.number) false })) (reclaim label)

abbrev pub reclaims : Work → Label → Work
reclaims w label = reclaims_in w label w.port.session

abbrev pub unjoins : Setup → Work → (number : ℕ) → Option End → Work
unjoins setup w number None = w
unjoins setup w number (Some output) = with_action w (TakeBack (label_end setup.port number) output)

abbrev pub recalls : Setup → Work → Label → Work
recalls setup w label = unjoins setup (reclaims w label) label.number label.join

abbrev pub recalls_in : Setup → Work → Label → LabelState → Work
recalls_in setup w label Offered = recalls setup w label
recalls_in setup w label state = w

-- where it is offered
abbrev pub recalls_offered : Setup → Work → Option Label → Work
recalls_offered setup w None = w
recalls_offered setup w (Some label) = recalls_in setup w label label.state

-- *Reclaim* comes to the upstream end: a grant that is lent is leaving until its input is released; any other
-- ends, and RECLAIM ACK is said, as it is for a label that isn't granted
abbrev pub reclaimed_in : Setup → Work → Channel → Grant → GrantState → Work
reclaimed_in setup w channel grant Idle =
    says (without_grant w grant.label) (reclaim_ack channel grant.flow)
reclaimed_in setup w channel grant ByController =
    says (without_grant w grant.label) (reclaim_ack channel grant.flow)
reclaimed_in setup w channel grant (ByInput input) =
    with_action (with_grant w (record grant { state = Leaving input true })) (TakeBack input (label_end setup.port grant.label))
reclaimed_in setup w channel grant (Leaving input owed) =
    with_grant w (record grant { state = Leaving input true })

abbrev pub reclaimed : Setup → Work → Channel → FlowId → Option Grant → Work
reclaimed setup w channel flow None = says w (reclaim_ack channel flow)
reclaimed setup w channel flow (Some grant) =
    if same_flow grant.flow flow then reclaimed_in setup w channel grant grant.state else says w (error 4 channel)

-- *Reclaim Ack* comes: a recalled label that is bound to its flow is acknowledged, and quit where the peer
-- expects a number above that of its last RECLAIM
abbrev pub acknowledged_in : Setup → Desk → Work → Label → LabelState → Work
acknowledged_in setup desk w label (Recalled last acknowledged) =
    quits setup desk (with_label w (record label { state = Recalled last true })) label.number
acknowledged_in setup desk w label state = w

abbrev pub acknowledged : Setup → Desk → Work → FlowId → Option Label → Work
acknowledged setup desk w flow None = w
acknowledged setup desk w flow (Some label) =
    if same_flow label.flow flow then acknowledged_in setup desk w label label.state else w

-- *Label Range* comes: the session's range is narrowed to the common part, and the labels that are offered
-- outside it are recalled, the lowest first
abbrev pub greater_of : Channel → Channel → Channel
greater_of a b = if channel_le a b then b else a

abbrev pub lesser_of : Channel → Channel → Channel
lesser_of a b = if channel_le a b then a else b

abbrev pub narrowed : (least greatest : Channel) → Session → Session
narrowed least greatest s = record s {
  least = greater_of s.least least;
  greatest = lesser_of s.greatest greatest;
}

abbrev pub is_outside : Option Session → (number : ℕ) → Bool
is_outside None number = false
is_outside (Some s) number = not (is_between s.least s.greatest (label_channel_of number))

abbrev pub recalls_outside : Setup → Work → (number : ℕ) → Work
recalls_outside setup w number =
    if is_outside w.port.session number then recalls_offered setup w (label_at w.port number) else w

abbrev pub ranged : Setup → Work → (least greatest : Channel) → Work
ranged setup w least greatest =
    let next = with_session w (narrowed least greatest) in
    fold (recalls_outside setup) next (map label_number (labels_of next.port))

-- *Error* comes: but for code 2, its label is recalled where it is offered
abbrev pub error_comes : Setup → Work → (code : ℕ) → Option Label → Work
error_comes setup w code label = if code == 2 then w else recalls_offered setup w label
