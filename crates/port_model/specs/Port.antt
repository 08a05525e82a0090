-- A port of a controller, and a port at work

use Rattle.std.specs.Prelude.{ℕ, Bool, true, List, [], ◌∷◌, ◌++◌, length, fold, nat_lt, Option, if◌then◌else◌}
use Rattle.std.specs.Option.{option_map, option_map_or}
use Rattle.net_types.specs.declared.channel.Channel.{Channel}
use Rattle.adjacency_table.specs.Side.{Side}
use Rattle.net_types.specs.declared.adjacency.Peer.{Peer}
use Rattle.keyed_lists.specs.Keyed.{at, put, without, entered, key_le}
use Rattle.port_model.specs.Desk.{Desk, asked, taken_back, withdrawn, most_asked}
use Rattle.port_model.specs.declared.action.Action.{Action}
use Rattle.port_model.specs.declared.action.Action.TheVariants.{Ask, TakeBack, Withdraw, Reset}
use Rattle.port_model.specs.Setup.{home_of}
use Rattle.port_model.specs.Labels.{Label, label_number}
use Rattle.port_model.specs.Grants.{Grant, grant_label}
use Rattle.port_model.specs.Counts.{Counted}

-- What a port has exactly in Estab: the next number of its redirection messages, the number that it
-- expects next of its peer, the number that its peer is known to expect next, the range between two
-- channels to which its labels were narrowed, the labels held in the order of their numbers, the flows
-- counted.
pub record Session : Type 0 where
  pub number : ℕ
  pub expected : ℕ
  pub known : ℕ
  pub least : Channel
  pub greatest : Channel
  pub labels : List Label
  pub counted : List Counted

-- the side of its adjacency, its session, its grants in the order of acceptance, and how many REDIRECTs
-- were accepted since the opening
pub record Port : Type 0 where
  pub adjacency : Side Peer
  pub session : Option Session
  pub grants : List Grant
  pub redirects : ℕ

-- a port at work: what it has asked of its controller so far, whether it has asked to be reset, after which
-- it does nothing more, and how many instances the run has given out
pub record Work : Type 0 where
  pub port : Port
  pub actions : List Action
  pub halted : Bool
  pub instances : ℕ

-- *Changes*

abbrev pub with_action : Work → Action → Work
with_action w action = if w.halted then w else record w { actions = w.actions ++ action ∷ [] }

abbrev pub halts : Work → Work
halts w = record (with_action w Reset) { halted = true }

abbrev pub with_session : Work → (Session → Session) → Work
with_session w change =
    if w.halted then w else record w { port = record w.port { session = option_map change w.port.session } }

-- a label that is held is another now; a label is held that was spare; a label is spare again
abbrev pub with_label : Work → Label → Work
with_label w label = with_session w (λ s. record s { labels = put label_number label s.labels })

abbrev pub with_new_label : Work → Label → Work
with_new_label w label = with_session w (λ s. record s { labels = entered (key_le label_number) label s.labels })

abbrev pub without_label : Work → (number : ℕ) → Work
without_label w number = with_session w (λ s. record s { labels = without label_number number s.labels })

abbrev pub with_grants : Work → List Grant → Work
with_grants w grants = if w.halted then w else record w { port = record w.port { grants = grants } }

abbrev pub with_grant : Work → Grant → Work
with_grant w grant = with_grants w (put grant_label grant w.port.grants)

abbrev pub without_grant : Work → (label : ℕ) → Work
without_grant w label = with_grants w (without grant_label label w.port.grants)

-- *Look-ups*

abbrev pub labels_of : Port → List Label
labels_of port = option_map_or (λ s. s.labels) port.session []

abbrev pub label_at : Port → (number : ℕ) → Option Label
label_at port number = at label_number number (labels_of port)

abbrev pub known_of : Port → ℕ
known_of port = option_map_or (λ s. s.known) port.session 0

-- *The desk* as it will be once the actions so far are done
abbrev pub desk_with : Desk → Action → Desk
desk_with desk (Ask request needed) = asked desk request
desk_with desk (TakeBack input output) = taken_back desk input output (home_of input)
desk_with desk (Withdraw input) = withdrawn desk input
desk_with desk action = desk

abbrev pub desk_after : Desk → Work → Desk
desk_after desk w = fold desk_with desk w.actions

-- fewer than 1,024 requests will stand
abbrev pub has_room : Desk → Work → Bool
has_room desk w = nat_lt (length (desk_after desk w).standing) most_asked
