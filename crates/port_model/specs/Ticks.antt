-- *Tick*: what a tick makes of a port. The order, the counts and the refresh are this project's own;
-- redirections are soft state (RFC 1953).

use Rattle.std.specs.Prelude.{ℕ, Bool, true, false, ◌+◌, ◌-◌, ◌==◌, nat_le, is_none, min, map, fold, Option, None, Some, if◌then◌else◌}
use Rattle.std.specs.List.{list_any}
use Rattle.adjacency_table.specs.Side.{ticked}
use Rattle.port_model.specs.Desk.{Desk, on_input}
use Rattle.port_model.specs.declared.action.Action.TheVariants.{TakeBack}
use Rattle.port_model.specs.Setup.{Setup, label_end}
use Rattle.port_model.specs.Labels.{Label, LabelState, Offered, Recalled, Wired, label_number}
use Rattle.port_model.specs.Grants.{Grant, GrantState, ByInput, Leaving, grant_label}
use Rattle.port_model.specs.Counts.{greatest_count, window_moved}
use Rattle.port_model.specs.Port.{Session, Work, with_action, with_session, with_label, with_grant, without_grant, label_at, labels_of, desk_after}
use Rattle.port_model.specs.Saying.{says, redirect, label_range}
use Rattle.port_model.specs.Adjacency.{steps, unwires}
use Rattle.port_model.specs.Reclaiming.{reclaims, recalls}
use Rattle.keyed_lists.specs.Keyed.{at}

-- *Lifetimes*: a grant that isn't leaving loses one tick; at 0 it ends, or where it is lent its join is taken
-- back
abbrev pub expires : Setup → Work → Grant → GrantState → Work
expires setup w grant (ByInput input) =
    with_action (with_grant w (record grant { lifetime = 0; state = Leaving input false }))
    (TakeBack input (label_end setup.port grant.label))
expires setup w grant state = without_grant w grant.label

abbrev pub ages_in : Setup → Work → Grant → GrantState → Work
ages_in setup w grant (Leaving input owed) = w
ages_in setup w grant state =
    if grant.lifetime == 1
    then expires setup w grant state
    else with_grant w (record grant { lifetime = grant.lifetime - 1 })

abbrev pub ages_found : Setup → Work → Option Grant → Work
ages_found setup w None = w
ages_found setup w (Some grant) = ages_in setup w grant grant.state

abbrev pub ages : Setup → Work → (label : ℕ) → Work
ages setup w label = ages_found setup w (at grant_label label w.port.grants)

-- *Labels*: one that is offered is refreshed when so many ticks went by since its last REDIRECT
abbrev pub refreshes : Setup → Work → Label → Work
refreshes setup w label =
    if nat_le setup.timers.refresh label.ticks
    then says (with_label w (record label { ticks = 0 })) (redirect setup label)
    else with_label w label

abbrev pub one_older : Label → Label
one_older label = record label { ticks = min greatest_count (label.ticks + 1) }

-- one that isn't joined is idle one tick more, and is recalled where the policy doesn't keep it
abbrev pub one_idler : Label → Label
one_idler label = record label { idle = min greatest_count (label.idle + 1) }

abbrev pub idles : Setup → Work → Label → Work
idles setup w label =
    if setup.policy.keeps label.flow label.idle
    then refreshes setup w (one_older label)
    else recalls setup w label

-- one that was quit is asked to be unwired, where nothing stands on its channel; one that was recalled and
-- isn't acknowledged is reclaimed again
abbrev pub ticks_in : Setup → Desk → Work → Label → LabelState → Work
ticks_in setup desk w label Wired =
    if on_input (desk_after desk w) (label_end setup.port label.number)
    then w
    else unwires setup desk w label.number
ticks_in setup desk w label (Recalled last false) = reclaims w label
ticks_in setup desk w label Offered =
    if is_none label.join then idles setup w (one_idler label) else refreshes setup w (one_older label)
ticks_in setup desk w label state = w

abbrev pub ticks_found : Setup → Desk → Work → Option Label → Work
ticks_found setup desk w None = w
ticks_found setup desk w (Some label) = ticks_in setup desk w label label.state

abbrev pub ticks_label : Setup → Desk → Work → (number : ℕ) → Work
ticks_label setup desk w number = ticks_found setup desk w (label_at w.port number)

-- *Label Range* is said where a label is acknowledged and its last RECLAIM isn't known to be passed
abbrev pub is_unpassed : (known : ℕ) → LabelState → Bool
is_unpassed known (Recalled last true) = nat_le known last
is_unpassed known state = false

abbrev pub asks_for_ack : Option Session → Bool
asks_for_ack None = false
asks_for_ack (Some s) = list_any (λ label. is_unpassed s.known label.state) s.labels

abbrev pub nudges : Setup → Work → Work
nudges setup w = if asks_for_ack w.port.session then says w (label_range setup) else w

-- *The windows* of the flows that are counted move
abbrev pub moves_windows : Setup → Work → Work
moves_windows setup w = with_session w (λ s. record s { counted = window_moved setup.timers.window s.counted })

-- the rest of a tick, in Estab alone: lifetimes in the order of acceptance, labels from the lowest on
abbrev pub ticks_session : Setup → Desk → Work → Option Session → Work
ticks_session setup desk w None = w
ticks_session setup desk w (Some s) =
    let aged = fold (ages setup) w (map grant_label w.port.grants) in
    let labelled = fold (ticks_label setup desk) aged (map label_number (labels_of aged.port)) in
    moves_windows setup (nudges setup labelled)

abbrev pub ticks_next : Setup → Desk → Work → Work
ticks_next setup desk w = ticks_session setup desk w w.port.session

-- the adjacency's tick comes first; a port that it resets does nothing more
abbrev pub ticks : Setup → Desk → Work → Work
ticks setup desk w = ticks_next setup desk (steps setup w (ticked w.port.adjacency))
