-- an ACK of a met peer, at one side and at a port

use Rattle.std.proofs.Common.{◌≡◌, ℕ, ◌&&◌, Bool, true, false, List, [], ◌∷◌, Option, None, Some, refl, sym, ◌∙◌, ap, if◌then◌else◌, map, fold}
use Rattle.std.specs.Prelude.{bytes_eq, nat_eq, max, ◌==◌}
use Rattle.std.specs.Option.{option_map_or}
use Rattle.std.proofs.lemmas.Bool.{eq-eqb}
use Rattle.std.proofs.lemmas.Slice.Eq.{bytes_eq-Decides}
use Rattle.live_model.specs.world_model.Words.{Ack, HelloKind, Peer, Party, Estab, State, Quiet, Heard, Side, Step, enters_by_ack, followed, gsmp_received, greeting_of, heard_from, heard_in, hello_of, ifmp_received, is_entry, is_estab, is_good, received, row, said, same_party, same_peer, stays, Says, Rstack, Desk, Setup, Label, LabelState, Wiring, Offered, Recalled, Wired, label_number, Session, Work, hears, label_at, learns, quits, quits_found, quits_in}
use Rattle.live_model.specs.world_model.adjacency_table.Side.{answer_opened}
use Rattle.live_model.specs.world_model.ifmp_wire.declared.message.Message.TheVariants.{Adjacency}
use Rattle.live_model.specs.world_model.port_model.Adjacency.{steps}
use Rattle.live_model.specs.Met.{HaveMet}
use Rattle.law_port_facts.specs.ordered_lists.Ordered.{Every}
use Rattle.law_port_facts.proofs.Keyed.{at_every}
use Rattle.law_live_greetings.specs.Law.{heard_again, NeighboursAreHeard, SwitchesAreHeard, WaitsForNone, PortsHearAcks}

-- *One side*: an ACK whose receiver is its own party, and whose sender it has stored
module _ {P : Type 0} (same : P → P → Bool) (a : Side P) (m : Heard P) where
  -- what follows, by the outcome of whether it enters Estab
  abbrev step_by : State → Bool → Step P
  step_by state enters = record {
    side = record { state = state; own = a.own; stored = a.stored; silence = 0 };
    answer = if enters then answer_opened a.own Quiet else Quiet;
  }

  ack_heard : a.state ≡ Estab → m.kind ≡ Ack → same m.receiver a.own ≡ true → option_map_or (same m.sender) a.stored false ≡ true
      → received same a m ≡ heard_again a
  ack_heard up kind meant known =
      ap (λ (k : HelloKind). followed a m (row a.state k (same m.receiver a.own) (option_map_or (same m.sender) a.stored false))) kind
      ∙ (ap (λ (st : State). followed a m (row st Ack (same m.receiver a.own) (option_map_or (same m.sender) a.stored false))) up
      ∙ (ap (λ (b : Bool). followed a m (if b && option_map_or (same m.sender) a.stored false then enters_by_ack else stays Estab (Says Rstack))) meant
      ∙ (ap (λ (b : Bool). followed a m (if b then enters_by_ack else stays Estab (Says Rstack))) known
      ∙ (ap (λ (b : Bool). step_by Estab b) no_entry
      ∙ ap (λ (st : State). step_by st false) (sym up)))))
    where
      no_entry : is_entry a.state Estab ≡ false
      no_entry = ap (λ (st : State). is_entry st Estab) up

-- *Parties* are the same as themselves
number : (n : ℕ) → nat_eq n n ≡ true
number n = eq-eqb n n refl

both : (x y : Bool) → x ≡ true → y ≡ true → (x && y) ≡ true
both true y p q = q
both false y p q = absurd (cc p)

bytes : (xs : List ℕ) → bytes_eq xs xs ≡ true
bytes xs = (bytes_eq-Decides xs xs).1 refl

peer_itself : (x : Peer) → same_peer x x ≡ true
peer_itself x = both (x.instance.0 == x.instance.0) (x.address.0 == x.address.0) (number x.instance.0) (number x.address.0)

party_itself : (x : Party) → same_party x x ≡ true
party_itself x = both (bytes_eq x.name x.name) ((x.port == x.port) && (x.instance.0 == x.instance.0)) (bytes x.name)
    (both (x.port == x.port) (x.instance.0 == x.instance.0) (number x.port) (number x.instance.0))

module _ (a b : Side Peer) (next : ℕ) (met : HaveMet a b) where
  -- the message, by whom its sender has stored
  abbrev heard_by : Option Peer → Heard Peer
  heard_by stored = heard_from b.own.address (hello_of next (record { kind = Ack; sender = b.own; receiver = stored }))

  neighbour_heard : ifmp_received a b.own.address (hello_of next (said b Ack)) ≡ heard_again a
  neighbour_heard = ap (λ stored. received same_peer a (heard_by stored)) met.other_knows
      ∙ ack_heard same_peer a (heard_by (Some a.own)) met.one_is_up refl (peer_itself a.own)
      (ap (λ stored. option_map_or (same_peer b.own) stored false) met.one_knows ∙ peer_itself b.own)

pub neighbours_are_heard : NeighboursAreHeard
neighbours_are_heard one other next met = neighbour_heard one other next met

module _ (a b : Side Party) (met : HaveMet a b) where
  abbrev greeted_by : Option Party → Heard Party
  greeted_by stored = heard_in (greeting_of (record { kind = Ack; sender = b.own; receiver = stored }))

  switch_heard : gsmp_received a (greeting_of (said b Ack)) ≡ heard_again a
  switch_heard = ap (λ stored. received same_party a (greeted_by stored)) met.other_knows
      ∙ ack_heard same_party a (greeted_by (Some a.own)) met.one_is_up refl (party_itself a.own)
      (ap (λ stored. option_map_or (same_party b.own) stored false) met.one_knows ∙ party_itself b.own)

pub switches_are_heard : SwitchesAreHeard
switches_are_heard one other met = switch_heard one other met

-- *A port*: no label is quit
module _ (setup : Setup) (desk : Desk) where
  none_quits : (v : Work) (label : Label) (state : LabelState) → WaitsForNone state → quits_in setup desk v label state ≡ v
  none_quits v label Wiring waits = refl
  none_quits v label Offered waits = refl
  none_quits v label Wired waits = refl
  none_quits v label (Recalled last false) waits = refl
  none_quits v label (Recalled last true) waits = absurd (cc waits)

  module _ (v : Work) (waits : (n : ℕ) (label : Label) → label_at v.port n ≡ Some label → WaitsForNone label.state) where
    one_quits : (n : ℕ) → quits setup desk v n ≡ v
    one_quits n = by (label_at v.port n) refl
      where
        by : (o : Option Label) → label_at v.port n ≡ o → quits_found setup desk v o ≡ v
        by None found = refl
        by (Some label) found = none_quits v label label.state (waits n label found)

    each_quits : (numbers : List ℕ) → fold (quits setup desk) v numbers ≡ v
    each_quits [] = refl
    each_quits (n ∷ numbers) = ap (λ (u : Work). fold (quits setup desk) u numbers) (one_quits n) ∙ each_quits numbers

module _ (setup : Setup) (desk : Desk) (w : Work) (s : Session) (other : Side Peer) (next : ℕ) (going : w.halted ≡ false) (open_now : w.port.session ≡ Some s)
    (met : HaveMet w.port.adjacency other) (waits : Every (λ (label : Label). WaitsForNone label.state) s.labels) where
  abbrev working : Side Peer → Session → Work
  working side session = record {
    port = record { adjacency = side; session = Some session; grants = w.port.grants; redirects = w.port.redirects };
    actions = w.actions;
    halted = false;
    instances = w.instances;
  }

  abbrev own_side : Side Peer
  own_side = w.port.adjacency

  abbrev calm_side : Side Peer
  calm_side = record own_side { silence = 0 }

  abbrev told : Session
  told = record s { known = max s.known next }

  parts : w ≡ working own_side s
  parts = λ i. record {
    port = record { adjacency = own_side; session = open_now i; grants = w.port.grants; redirects = w.port.redirects };
    actions = w.actions;
    halted = going i;
    instances = w.instances;
  }

  whole : working calm_side told ≡ record w { port = record w.port { adjacency = calm_side; session = Some told } }
  whole = λ i. record {
    port = record w.port { adjacency = calm_side; session = Some told };
    actions = w.actions;
    halted = sym going i;
    instances = w.instances;
  }

  -- the ACK is a good one
  good : is_good own_side calm_side (heard_from other.own.address (hello_of next (said other Ack))) ≡ true
  good = ap (λ stored. is_good own_side calm_side (heard_by own_side other next met stored)) met.other_knows
      ∙ both (is_estab own_side.state) (same_peer own_side.own own_side.own && option_map_or (same_peer other.own) own_side.stored false)
      (ap is_estab met.one_is_up)
      (both (same_peer own_side.own own_side.own) (option_map_or (same_peer other.own) own_side.stored false) (peer_itself own_side.own)
      (ap (λ stored. option_map_or (same_peer other.own) stored false) met.one_knows ∙ peer_itself other.own))

  port_hears : hears setup desk w other.own.address (Adjacency (hello_of next (said other Ack)))
      ≡ record w { port = record w.port { adjacency = calm_side; session = Some told } }
  port_hears = ap (λ (v : Work). hears setup desk v other.own.address (Adjacency (hello_of next (said other Ack)))) parts
      ∙ (ap (λ (step : Step Peer). if is_good own_side step.side (heard_from other.own.address (hello_of next (said other Ack)))
      then learns setup desk (steps setup (working own_side s) step) next else steps setup (working own_side s) step) (neighbour_heard own_side other next met)
      ∙ (ap (λ (b : Bool). if b then learns setup desk (working calm_side s) next else working calm_side s) good
      ∙ (each_quits setup desk (working calm_side told) (λ n label found. at_every label_number (λ (l : Label). WaitsForNone l.state) n s.labels label waits found) (map label_number s.labels)
      ∙ whole)))

pub ports_hear_acks : PortsHearAcks
ports_hear_acks setup desk w s other next going open_now met waits = port_hears setup desk w s other next going open_now met waits
