-- *IFMP adjacency* (RFC 1953): a session begins on entering Estab; an ACK tells which number the peer
-- expects, and the labels that it gave back are quit whose last RECLAIM it is known to have passed. The
-- second is this project's own.

use Rattle.std.specs.Prelude.{ℕ, Bool, true, false, ◌&&◌, ◌||◌, nat_lt, max, [], map, fold, Option, None, Some, if◌then◌else◌}
use Rattle.std.specs.Option.{option_map_or}
use Rattle.net_types.specs.declared.prefix.Addr.{Addr}
use Rattle.net_types.specs.declared.number.Instance.{Instance}
use Rattle.net_types.specs.declared.adjacency.Hello.{Hello}
use Rattle.net_types.specs.declared.adjacency.HelloKind.{HelloKind}
use Rattle.net_types.specs.declared.adjacency.HelloKind.TheVariants.{Ack}
use Rattle.net_types.specs.Label.{label_channel_of}
use Rattle.adjacency_table.specs.declared.message.Heard.{Heard}
use Rattle.adjacency_table.specs.declared.message.Answer.{Answer}
use Rattle.adjacency_table.specs.declared.message.Answer.TheVariants.{Quiet, Send, Open, Reset}
use Rattle.adjacency_table.specs.Side.{Side, Step, is_estab}
use Rattle.gsmp_wire.specs.declared.request.Request.TheVariants.{DeleteTree}
use Rattle.link_model.specs.declared.record.Record.TheVariants.{Opened}
use Rattle.net_types.specs.declared.adjacency.Peer.{Peer}
use Rattle.adjacency_table.specs.Hello.{same_peer, heard_from, ifmp_answer, ifmp_received}
use Rattle.port_model.specs.Desk.{Desk, on_input}
use Rattle.port_model.specs.declared.action.Action.TheVariants.{Ask, Note, CutChain}
use Rattle.port_model.specs.Setup.{Setup, label_end}
use Rattle.port_model.specs.Labels.{Label, LabelState, Recalled, Wired, label_number}
use Rattle.port_model.specs.Port.{Session, Work, with_action, halts, with_session, with_label, label_at, labels_of, known_of, desk_after, has_room}
use Rattle.port_model.specs.Saying.{greets}

-- *A session begins*: all labels of the port's range are spare
abbrev pub first_session : Setup → Session
first_session setup = record {
  number = 1;
  expected = 1;
  known = 1;
  least = label_channel_of setup.least;
  greatest = label_channel_of setup.greatest;
  labels = [];
  counted = [];
}

abbrev pub opens : Setup → Work → Work
opens setup w =
    with_action (record w { port = record w.port { session = Some (first_session setup) } }) (Note (Opened setup.node setup.port))

-- *What the table answers* is done; a message of a side in Estab says the number that it expects, and 1
-- before
abbrev pub answers : Setup → Work → Answer Hello Instance → Work
answers setup w Quiet = w
answers setup w (Send hello) = greets w hello
answers setup w (Open None own) = opens setup w
answers setup w (Open (Some hello) own) = opens setup (greets w hello)
answers setup w Reset = halts w

abbrev pub steps : Setup → Work → Step Peer → Work
steps setup w step =
    answers setup (record w { port = record w.port { adjacency = step.side } })
    (ifmp_answer (option_map_or (λ s. s.expected) w.port.session 1) step.answer)

-- *A label is quit*: its chain is cut, and its branch is to be deleted. Delete Tree is asked where fewer
-- than 1,024 requests stand, or in the place of one that stands on its input
abbrev pub unwires : Setup → Desk → Work → (number : ℕ) → Work
unwires setup desk w number =
    let input = label_end setup.port number in
    let takes_place = on_input (desk_after desk w) input in
    if takes_place || has_room desk w then with_action w (Ask (DeleteTree input) takes_place) else w

abbrev pub quits_label : Setup → Desk → Work → Label → Work
quits_label setup desk w label =
    unwires setup desk (with_action (with_label w (record label { state = Wired })) (CutChain label.number)) label.number

-- where it is acknowledged, and the peer expects a number above that of its last RECLAIM
abbrev pub quits_in : Setup → Desk → Work → Label → LabelState → Work
quits_in setup desk w label (Recalled last true) =
    if nat_lt last (known_of w.port) then quits_label setup desk w label else w
quits_in setup desk w label state = w

abbrev pub quits_found : Setup → Desk → Work → Option Label → Work
quits_found setup desk w None = w
quits_found setup desk w (Some label) = quits_in setup desk w label label.state

abbrev pub quits : Setup → Desk → Work → (number : ℕ) → Work
quits setup desk w number = quits_found setup desk w (label_at w.port number)

-- *A good ACK*: both ends are right, and the side is in Estab after it
abbrev pub is_ack : HelloKind → Bool
is_ack Ack = true
is_ack kind = false

abbrev pub is_good : (before after : Side Peer) → Heard Peer → Bool
is_good before after heard =
    (is_ack heard.kind && is_estab after.state)
    && (same_peer heard.receiver before.own && option_map_or (same_peer heard.sender) before.stored false)

-- the peer is known to expect the greatest number that it named, and labels are quit, the lowest first
abbrev pub learns : Setup → Desk → Work → (next : ℕ) → Work
learns setup desk w next =
    let told = with_session w (λ s. record s { known = max s.known next }) in
    fold (quits setup desk) told (map label_number (labels_of told.port))

abbrev pub greeted : Setup → Desk → Work → Addr → Hello → Work
greeted setup desk w source hello =
    let step = ifmp_received w.port.adjacency source hello in
    let next = steps setup w step in
    if is_good w.port.adjacency step.side (heard_from source hello)
    then learns setup desk next hello.next
    else next
