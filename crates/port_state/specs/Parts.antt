-- What the steps of the code make of the parts of a port. No claim needs this file.

use Rattle.std.specs.Prelude.{◌≡◌, ℕ, ◌+◌, min, Bool, true, false, List, [], ◌∷◌, ◌++◌, map, Option, None, Some, option_map}
use Rattle.net_types.specs.declared.number.Instance.{Instance}
use Rattle.net_types.specs.declared.adjacency.Hello.{Hello}
use Rattle.net_types.specs.declared.adjacency.Peer.{Peer}
use Rattle.adjacency_table.specs.declared.message.Answer.{Answer}
use Rattle.adjacency_table.specs.declared.message.Answer.TheVariants.{Open}
use Rattle.adjacency_table.specs.Side.{Side}
use Rattle.ipv4_packet.specs.declared.flow.FlowId.{FlowId}
use Rattle.keyed_lists.specs.Keyed.{put, without, entered, key_le}
use Rattle.port_labels.specs.Book.{wiring}
use Rattle.port_session.specs.Session.{next_number}
use Rattle.port_model.specs.Labels.{Label, label_number}
use Rattle.port_model.specs.Grants.{Acceptance, New, Refreshed, Grant, Idle, grant_label}
use Rattle.port_model.specs.Redirection.{greatest_tally}
use Rattle.port_model.specs.Port.{Port, Session, labels_of}

abbrev pub with_side : Port → Side Peer → Port
with_side port side = record port { adjacency = side }

abbrev pub with_grants : Port → List Grant → Port
with_grants port grants = record port { grants = grants }

abbrev pub with_grant : Port → Grant → Port
with_grant port grant = with_grants port (put grant_label grant port.grants)

abbrev pub without_grant : Port → (label : ℕ) → Port
without_grant port label = with_grants port (without grant_label label port.grants)

-- a REDIRECT makes a new grant, or a new lifetime of one that is there; and one more is accepted
abbrev pub with_tally : Port → Port
with_tally port = record port { redirects = min greatest_tally (port.redirects + 1) }

abbrev pub accepted : Port → FlowId → (lifetime : ℕ) → Acceptance → Port
accepted port flow lifetime (New label) =
    with_tally (with_grants port (port.grants ++ record { label = label; flow = flow; lifetime = lifetime; state = Idle } ∷ []))
accepted port flow lifetime (Refreshed grant) = with_tally (with_grant port (record grant { lifetime = lifetime }))
accepted port flow lifetime refusal = port

-- the session, where there is one, is changed
abbrev pub changed_session : Port → (Session → Session) → Port
changed_session port change = record port { session = option_map change port.session }

abbrev pub with_labels : Port → (List Label → List Label) → Port
with_labels port change = changed_session port (λ s. record s { labels = change s.labels })

-- the number that a message of the session would have, none where there is no other
abbrev pub taken_number : Option Session → Option ℕ
taken_number None = None
taken_number (Some s) = next_number s

-- a label that is held is another now; a spare one is taken for a flow
abbrev pub with_label : Port → Label → Port
with_label port label = with_labels port (put label_number label)

abbrev pub with_taken : Port → FlowId → Option ℕ → Port
with_taken port flow None = port
with_taken port flow (Some number) = with_labels port (entered (key_le label_number) (wiring number flow))

-- what an answer of the adjacency hands out stands for the port's own instance
abbrev pub IsOwn : Port → Answer Hello Instance → Type 0
IsOwn port (Open hello own) = own ≡ port.adjacency.own.instance
IsOwn port answer = Unit {0}

-- a REDIRECT makes a new grant
abbrev pub is_new : Acceptance → Bool
is_new (New label) = true
is_new acceptance = false

abbrev pub numbers_of : Port → List ℕ
numbers_of port = map label_number (labels_of port)
