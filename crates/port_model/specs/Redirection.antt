-- *Numbers* and *Redirect* (RFC 1953). The refusals and the limits are this project's own.

use Rattle.std.specs.Prelude.{ℕ, Bool, false, ◌+◌, ◌==◌, ◌&&◌, nat_le, nat_lt, min, [], ◌∷◌, ◌++◌, Option, if◌then◌else◌}
use Rattle.std.specs.Option.{option_map_or}
use Rattle.net_types.specs.declared.prefix.Addr.{Addr}
use Rattle.net_types.specs.declared.number.Instance.{Instance}
use Rattle.net_types.specs.declared.channel.Channel.{Channel}
use Rattle.adjacency_table.specs.Side.{Side}
use Rattle.gsmp_wire.specs.declared.request.Request.TheVariants.{AddBranch}
use Rattle.link_model.specs.ipv4_packet.declared.flow.FlowId.{FlowId}
use Rattle.net_types.specs.declared.adjacency.Peer.{Peer}
use Rattle.adjacency_table.specs.Hello.{same_peer}
use Rattle.port_model.specs.Desk.{Desk}
use Rattle.port_model.specs.declared.action.Action.TheVariants.{Ask}
use Rattle.port_model.specs.Setup.{Setup, label_end, control_end}
use Rattle.port_model.specs.Grants.{Idle, Acceptance, New, Refreshed, OutOfRange, Taken, IsLeaving, GrantsFull}
use Rattle.port_model.specs.Port.{Port, Session, Work, with_action, with_session, with_grants, with_grant, has_room}
use Rattle.port_model.specs.Saying.{last_number, says, label_range, error}

-- *Numbers*: a redirection message is taken in Estab alone, from the stored peer and for the own instance,
-- and under a number that isn't below the expected one and isn't the last
abbrev pub is_from_peer : Side Peer → Addr → (sender peer : Instance) → Bool
is_from_peer side source sender peer =
    option_map_or (same_peer (record { instance = sender; address = source })) side.stored false
    && (peer.0 == side.own.instance.0)

abbrev pub is_due : Option Session → (number : ℕ) → Bool
is_due session number = option_map_or (λ s. nat_le s.expected number && nat_lt number last_number) session false

abbrev pub takes : Port → Addr → (sender peer : Instance) → (number : ℕ) → Bool
takes port source sender peer number = is_from_peer port.adjacency source sender peer && is_due port.session number

-- the peer was heard, and the next number is expected
abbrev pub expects : Work → (number : ℕ) → Work
expects w number =
    let next = with_session w (λ s. record s { expected = number + 1 }) in
    record next { port = record next.port { adjacency = record next.port.adjacency { silence = 0 } } }

-- *Redirect*: one more is accepted
abbrev pub greatest_tally : ℕ
greatest_tally = 18446744073709551615

abbrev pub accepts : Work → Work
accepts w = record w { port = record w.port { redirects = min greatest_tally (w.port.redirects + 1) } }

-- a new grant: its branch from the controller is asked
abbrev pub grants_label : Setup → Work → (label : ℕ) → FlowId → (lifetime : ℕ) → Work
grants_label setup w label flow lifetime =
    with_action (with_grants (accepts w)
    (w.port.grants ++ record { label = label; flow = flow; lifetime = lifetime; state = Idle } ∷ []))
    (Ask (AddBranch (control_end setup.port label) (label_end setup.port label)) false)

-- where at least 1,024 requests stand a new grant isn't made, and nothing is said
abbrev pub redirected : Setup → Desk → Work → Channel → FlowId → (lifetime : ℕ) → Acceptance → Work
redirected setup desk w channel flow lifetime (New label) =
    if has_room desk w then grants_label setup w label flow lifetime else w
redirected setup desk w channel flow lifetime (Refreshed grant) =
    with_grant (accepts w) (record grant { lifetime = lifetime })
redirected setup desk w channel flow lifetime OutOfRange = says w (label_range setup)
redirected setup desk w channel flow lifetime Taken = says w (error 1 channel)
redirected setup desk w channel flow lifetime IsLeaving = says w (error 2 channel)
redirected setup desk w channel flow lifetime GrantsFull = says w (error 3 channel)
