-- What a port says to the other end of its link (RFC 1953): adjacency messages, and redirection messages
-- under its own numbers

use Rattle.std.specs.Prelude.{ℕ, Bool, false, ◌+◌, nat_lt, Option, None, Some, if◌then◌else◌}
use Rattle.std.specs.Option.{option_map_or}
use Rattle.net_types.specs.declared.number.Instance.{Instance}
use Rattle.net_types.specs.declared.channel.Channel.{Channel}
use Rattle.net_types.specs.declared.adjacency.Hello.{Hello}
use Rattle.net_types.specs.Label.{label_channel_of}
use Rattle.adjacency_table.specs.Side.{Side}
use Rattle.link_model.specs.ipv4_packet.declared.flow.FlowId.{FlowId}
use Rattle.ifmp_wire.specs.declared.message.Message.{Message}
use Rattle.ifmp_wire.specs.declared.message.Message.TheVariants.{Adjacency, Redirect, Reclaim, ReclaimAck, LabelRange, Error}
use Rattle.net_types.specs.declared.adjacency.Peer.{Peer}
use Rattle.port_model.specs.declared.action.Action.TheVariants.{Say}
use Rattle.port_model.specs.Setup.{Setup}
use Rattle.port_model.specs.Labels.{Label}
use Rattle.port_model.specs.Port.{Session, Work, with_action, halts, with_session}

abbrev pub greets : Work → Hello → Work
greets w hello = with_action w (Say (Adjacency hello))

-- the greatest number, under which nothing is said
abbrev pub last_number : ℕ
last_number = 4294967295

abbrev pub own_instance : Side Peer → Instance
own_instance side = side.own.instance

abbrev pub peer_instance : Side Peer → Instance
peer_instance side = option_map_or (λ peer. peer.instance) side.stored (record { 0 = 0 })

-- a redirection message of the session, but for the instances of both ends and its number
abbrev pub Unnumbered : Type 0
Unnumbered = Instance → Instance → ℕ → Message

-- where the numbers are spent, the next one is this
abbrev pub spent_number : ℕ
spent_number = 4294967296

abbrev pub with_number : (number : ℕ) → Work → Work
with_number number w = with_session w (λ session. record session { number = number })

-- it has the next number; where that is the last one, it isn't said, and the numbers are spent
abbrev pub tells_in : Work → Unnumbered → Option Session → Work
tells_in w message None = w
tells_in w message (Some s) =
    if nat_lt s.number last_number
    then with_action (with_number (s.number + 1) w) (Say (message (own_instance w.port.adjacency) (peer_instance w.port.adjacency) s.number))
    else with_number spent_number w

abbrev pub tells : Work → Unnumbered → Work
tells w message = tells_in w message w.port.session

abbrev pub is_spent : Option Session → Bool
is_spent session = option_map_or (λ s. nat_lt last_number s.number) session false

-- a port whose numbers are spent asks to be reset. It does so at once, but where joins are released: there all
-- of an answer are released first
abbrev pub halts_if_spent : Work → Work
halts_if_spent w = if is_spent w.port.session then halts w else w

abbrev pub says : Work → Unnumbered → Work
says w message = halts_if_spent (tells w message)

-- *The messages*

abbrev pub redirect : Setup → Label → Unnumbered
redirect setup label own peer number =
    Redirect own peer number setup.timers.lifetime (label_channel_of label.number) label.flow

abbrev pub reclaim : Label → Unnumbered
reclaim label own peer number = Reclaim own peer number (label_channel_of label.number) label.flow

abbrev pub reclaim_ack : Channel → FlowId → Unnumbered
reclaim_ack channel flow own peer number = ReclaimAck own peer number channel flow

abbrev pub label_range : Setup → Unnumbered
label_range setup own peer number =
    LabelRange own peer number (label_channel_of setup.least) (label_channel_of setup.greatest)

-- code 1 Taken, 2 Leaving, 3 Full, 4 Mismatch
abbrev pub error : (code : ℕ) → Channel → Unnumbered
error code channel own peer number = Error own peer number code channel
