-- a cell comes to a controller, and may end a frame in peace

use Rattle.std.proofs.Common.{◌≡◌, ℕ, ◌<◌, Bool, true, false, List, [], ◌∷◌, drop, Option, None, Some, Result, Ok, Err, refl, sym, ◌∙◌, ap, subst}
use Rattle.std.specs.Prelude.{◌==◌, nat_lt}
use Rattle.std.specs.Option.{option_map_or, option_and_then}
use Rattle.world_model.specs.Words.{PortNo, Addr, End, FlowId, Cell, Journal, Reassembly, Loss, Unbound, PacketFault, EncapsFault, protocol_of, source_of, control_protocol, default_unwrapped, number_of_channel, payload_in, last_mark, tested_by, at, Answered, Unknown, Done, Ports, Failed, answered, Label, label_number, label_at, labels_of, grant_label, Work, counts, Controller, Linked, linked_at, begins, taker_of, reassembly_of, with_reassembly, takes_cell, ForGsmp, ForDefault, ForLabel, label_on}
use Rattle.world_model.specs.ipv4_packet.Packet.{first_fault}
use Rattle.world_model.specs.ifmp_wire.Fields.{decoded as ifmp_decoded}
use Rattle.world_model.specs.ifmp_wire.declared.message.Message.{Message as IfmpMessage}
use Rattle.world_model.specs.ifmp_wire.declared.reader.Fault.{Fault as IfmpFault}
use Rattle.world_model.specs.gsmp_wire.Fields.{decoded as gsmp_decoded}
use Rattle.world_model.specs.gsmp_wire.declared.fault.Fault.{Fault}
use Rattle.world_model.specs.gsmp_wire.declared.message.Message.{Message}
use Rattle.world_model.specs.gsmp_wire.declared.message.Message.TheVariants as messages
use Rattle.world_model.specs.frame_model.Frame.{octets_of}
use Rattle.world_model.specs.frame_model.Reassembly.{Taken, taken}
use Rattle.world_model.specs.port_model.Port.{Port}
use Rattle.world_model.specs.Controller.{Acted, free_slots, note}
use Rattle.world_model.specs.Cells.{Taker, after_test, ends_frame, cell_comes}
use Rattle.law_live_brought.specs.law_port_facts.ordered_lists.Ordered.{InOrder}
use Rattle.law_live_brought.specs.law_live_links.Law.{EndOfLink, AreAgreed}
use Rattle.law_live_brought.specs.law_live_others.Law.{IsUp, IsOnlyCounted}
use Rattle.law_live_brought.specs.law_live_numbers.Law.{IsHarmlessAnswer, IsHarmlessMessage, IsHarmless}
use Rattle.law_live_brought.proofs.law_live_elsewhere.Kept.{KeptAt, KeepsController}
use Rattle.law_live_brought.proofs.law_live_elsewhere.Elsewhere.{IsOf, taker_is_of}
use Rattle.law_live_brought.proofs.law_live_passed_by.Frames.{gathered, keeps}
use Rattle.law_live_joins.specs.Law.{granted_at}
use Rattle.law_live_joining.specs.Joins.{joined_label, lent_grant, KeepsJoins}
use Rattle.law_live_joining.specs.Frames.{IsPeersIf, IsPeacefulAs, IsPeacefulPacket, IsPeacefulIn, IsFrameInPeace}
use Rattle.law_live_joining.proofs.Keeping.{keeps_same, keeps_then}
use Rattle.law_live_joining.proofs.Frames.{frames_keep_joins}

one_linked : (x y : Linked) → Some x ≡ Some y → x ≡ y
one_linked x y e = cc

-- *Ports that are kept* keep their joins
pub kept_keeps : (a b : Controller) → KeepsController a b → KeepsJoins a b
kept_keeps a b kept = record {
  joined = λ input what is. on_label input what (linked_at a input.port) refl is;
  lent = λ port label what is. on_grants port label what (linked_at a port) refl is;
}
  where
    on_label : (input : End) (what : FlowId × End) (o : Option Linked) → linked_at a input.port ≡ o
        → option_and_then joined_label (option_and_then (λ (l : Linked). label_at l.port (number_of_channel input.channel)) o) ≡ Some what → option_and_then joined_label (label_on b input) ≡ Some what
    on_label input what None found is = absurd (cc is)
    on_label input what (Some linked) found is = (let k : KeptAt linked (linked_at b input.port) = kept.ports input.port linked found in
        ap (λ (o : Option Linked). option_and_then joined_label (option_and_then (λ (l : Linked). label_at l.port (number_of_channel input.channel)) o)) k.there
        ∙ (ap (λ (p : Port). option_and_then joined_label (label_at p (number_of_channel input.channel))) k.port ∙ is))

    on_grants : (port : PortNo) (label : ℕ) (what : FlowId × End) (o : Option Linked) → linked_at a port ≡ o
        → option_and_then lent_grant (at grant_label label (option_map_or (λ (l : Linked). l.port.grants) o [])) ≡ Some what
        → option_and_then lent_grant (at grant_label label (granted_at b port)) ≡ Some what
    on_grants port label what None found is = absurd (cc is)
    on_grants port label what (Some linked) found is = (let k : KeptAt linked (linked_at b port) = kept.ports port linked found in
        ap (λ (o : Option Linked). option_and_then lent_grant (at grant_label label (option_map_or (λ (l : Linked). l.port.grants) o []))) k.there
        ∙ (ap (λ (p : Port). option_and_then lent_grant (at grant_label label p.grants)) k.port ∙ is))

-- *What the switch says* is harmless still where a chain is another
module _ (a : Acted) (early late : Journal) (r : Reassembly) where
  abbrev told : Acted
  told = gathered a early late ForGsmp r

  answer_still : (answer : Answered) → IsHarmlessAnswer a answer → IsHarmlessAnswer told answer
  answer_still Unknown harmless = tt
  answer_still (Done s) made =
      record { input = made.input; from = made.from; to = made.to; is = made.is; to_link = made.to_link; none_waits = made.none_waits; unspent = made.unspent }
  answer_still (Ports s rows) harmless = harmless
  answer_still (Failed s code) harmless = harmless

  message_still : (message : Message) → IsHarmlessMessage a message → IsHarmlessMessage told message
  message_still (messages.Adjacency greeting) harmless = harmless
  message_still (messages.Branch kind result code number session input_port input output_port output branches priority) harmless =
      answer_still (answered a.controller.desk (messages.Branch kind result code number session input_port input output_port output branches priority)) harmless
  message_still (messages.Move result code number session input_port input output_port output target_port target branches priority) harmless =
      answer_still (answered a.controller.desk (messages.Move result code number session input_port input output_port output target_port target branches priority)) harmless
  message_still (messages.Port result code number port_named session function) harmless =
      answer_still (answered a.controller.desk (messages.Port result code number port_named session function)) harmless
  message_still (messages.AllPorts result code number rows) harmless = answer_still (answered a.controller.desk (messages.AllPorts result code number rows)) harmless

  harmless_still : (read : Result Message Fault) → IsHarmless a read → IsHarmless told read
  harmless_still (Ok message) harmless = message_still message harmless
  harmless_still (Err fault) harmless = tt

-- *A port that takes* hears the same still
module _ (a : Acted) (early late : Journal) (q : Linked) (r : Reassembly) (own : linked_at a.controller q.setup.port ≡ Some q) where
  abbrev b : Acted
  b = gathered a early late (ForDefault q) r

  module _ (linked : Linked) (found : linked_at b.controller q.setup.port ≡ Some linked) where
    now : KeptAt q (linked_at b.controller q.setup.port)
    now = (keeps a early late (ForDefault q) r own).ports q.setup.port q own

    is : now.after ≡ linked
    is = one_linked now.after linked (sym now.there ∙ found)

    setup : linked.setup ≡ q.setup
    setup = ap (λ (l : Linked). l.setup) (sym is) ∙ now.setup

    port : linked.port ≡ q.port
    port = ap (λ (l : Linked). l.port) (sym is) ∙ now.port

    counted : (packet : List ℕ) → counts linked.setup b.controller.desk (begins b linked) packet ≡ counts q.setup a.controller.desk (begins a q) packet
    counted packet = λ i. counts (setup i) a.controller.desk (record { port = port i; actions = []; halted = false; instances = a.numbers.instances }) packet

    counted_still : (packet : List ℕ) → IsOnlyCounted a packet q → IsOnlyCounted b packet linked
    counted_still packet only = record {
      asks_nothing = ap (λ (w : Work). w.actions) (counted packet) ∙ only.asks_nothing;
      labels_in_order = subst (λ (p : Port). InOrder (λ (x y : Label). label_number x < label_number y) (labels_of p)) (sym port) only.labels_in_order;
    }

    peers_still : (source : Addr) (read : Result IfmpMessage IfmpFault) → IsPeersIf q source read → IsPeersIf linked source read
    peers_still source (Err fault) peers = tt
    peers_still source (Ok message) peers = record {
      said = peers.said;
      other = peers.other;
      rest = peers.rest;
      agreed = subst (λ (x : EndOfLink). AreAgreed x peers.other) (λ i. record { setup = sym setup i; port = sym port i; said = peers.said }) peers.agreed;
      first = peers.first;
      from = peers.from;
    }

    as_still : (packet : List ℕ) (is_message : Bool) → IsPeacefulAs a q packet is_message → IsPeacefulAs b linked packet is_message
    as_still packet true peace = peers_still (source_of packet) (ifmp_decoded (drop 20 packet)) peace
    as_still packet false peace = counted_still packet peace

    packet_still : (packet : List ℕ) (o : Option PacketFault) → IsPeacefulPacket a q packet o → IsPeacefulPacket b linked packet o
    packet_still packet (Some fault) peace = tt
    packet_still packet None peace = as_still packet (protocol_of packet == control_protocol) peace

    in_still : (read : Result (List ℕ) EncapsFault) → IsPeacefulIn a q read → IsPeacefulIn b linked read
    in_still (Err fault) peace = tt
    in_still (Ok packet) peace = packet_still packet (first_fault packet) peace

frame_still : (a : Acted) (early late : Journal) (r : Reassembly) (payload : List ℕ) (taker : Taker) → IsOf a.controller taker → IsFrameInPeace a taker payload → IsFrameInPeace (gathered a early late taker r) taker payload
frame_still a early late r payload ForGsmp of_it peace = harmless_still a early late r (gsmp_decoded payload) peace
frame_still a early late r payload (ForDefault q) of_it peace = λ linked found. in_still a early late q r of_it linked found (default_unwrapped payload) (peace q of_it)
frame_still a early late r payload (ForLabel q label) of_it peace = tt

module _ (a : Acted) (cell : Cell) where
  -- *What the cell leaves* of the channel of who takes it
  abbrev pub taken_by : Taker → Taken
  taken_by taker = taken a.notes (nat_lt 0 (free_slots a.controller)) (reassembly_of a.controller taker) cell

  -- the payload of a chain that the cell ends, and that passes its test, is a frame in peace
  abbrev pub EndsInPeace : Taker → Type 0
  EndsInPeace taker = (first : Cell) (rest : List Cell) (payload : List ℕ) → (taken_by taker).ended ≡ first ∷ rest → payload_in (octets_of (first ∷ rest)) ≡ Some payload
      → IsFrameInPeace a taker payload

  module _ (up : IsUp a) (taker : Taker) (is : IsOf a.controller taker) (ends : EndsInPeace taker) where
    abbrev t : Taken
    t = taken_by taker

    abbrev c : Acted
    c = with_reassembly (record a { notes = t.notes }) taker t.reassembly

    c_keeps : KeepsJoins a.controller c.controller
    c_keeps = kept_keeps a.controller c.controller (keeps a t.notes t.notes taker t.reassembly is)

    up_still : (late : Journal) (k : Taker) → IsUp (gathered a t.notes late k t.reassembly)
    up_still late ForGsmp = up
    up_still late (ForDefault q) = up
    up_still late (ForLabel q label) = up

    tests : (first : Cell) (rest : List Cell) → t.ended ≡ first ∷ rest → (o : Option (List ℕ)) → payload_in (octets_of (first ∷ rest)) ≡ o
        → KeepsJoins a.controller (after_test c taker (last_mark (first ∷ rest)) (tested_by c.notes (first ∷ rest) o)).controller
    tests first rest e None fails = c_keeps
    tests first rest e (Some payload) passes =
        let late : Journal = (tested_by c.notes (first ∷ rest) (Some payload)).notes in
        let d : Acted = gathered a t.notes late taker t.reassembly in
        keeps_then a.controller d.controller (after_test c taker (last_mark (first ∷ rest)) (tested_by c.notes (first ∷ rest) (Some payload))).controller
        (kept_keeps a.controller d.controller (keeps a t.notes late taker t.reassembly is))
        (frames_keep_joins d taker (last_mark (first ∷ rest)) payload (up_still late taker) (frame_still a t.notes late t.reassembly payload taker is (ends first rest payload e passes)))

    ended : (cells : List Cell) → t.ended ≡ cells → KeepsJoins a.controller (ends_frame c taker cells).controller
    ended [] e = c_keeps
    ended (first ∷ rest) e = tests first rest e (payload_in (octets_of (first ∷ rest))) refl

  -- *A cell*, whoever takes it, or nobody
  pub cell_keeps : IsUp a → ((taker : Taker) → taker_of a.controller cell.header.channel ≡ Some taker → EndsInPeace taker) → KeepsJoins a.controller (cell_comes a cell).controller
  cell_keeps up ends = by (taker_of a.controller cell.header.channel) refl
    where
      by : (o : Option Taker) → taker_of a.controller cell.header.channel ≡ o → KeepsJoins a.controller (takes_cell a cell o).controller
      by None takes = keeps_same a.controller (note a (Loss cell.mark Unbound)).controller refl
      by (Some taker) takes = ended up taker (taker_is_of a.controller cell.header.channel taker takes) (ends taker takes) (taken_by taker).ended refl
