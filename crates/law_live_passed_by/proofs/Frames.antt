-- a frame that passes a port by acts on a controller one of whose chains is another

use Rattle.std.proofs.Common.{◌≡◌, ℕ, ◌+◌, ◌≤◌, Bool, true, false, List, [], drop, Option, None, Some, Result, refl, sym, ◌∙◌, ap, subst, inl, inr, if◌then◌else◌}
use Rattle.std.specs.Prelude.{◌==◌, ◌<◌, Ok, Err}
use Rattle.std.specs.Option.{option_and_then}
use Rattle.world_model.specs.Words.{PortNo, Mark, Journal, Reassembly, PacketFault, EncapsFault, protocol_of, source_of, control_protocol, default_unwrapped, last_transaction, Answered, Unknown, Done, Ports, Failed, answered, Label, label_number, labels_of, Work, counts, hears, Linked, linked_at, begins, forwards_packet, with_reassembly, counted_at, ifmp_holds, packet_holds, default_holds, frame_holds, ForGsmp, ForDefault, ForLabel, ifmp_of}
use Rattle.world_model.specs.Ways.{ifmp_in, ok_of}
use Rattle.world_model.specs.Controller.{Acted}
use Rattle.world_model.specs.Cells.{Taker}
use Rattle.world_model.specs.ipv4_packet.Packet.{first_fault}
use Rattle.world_model.specs.ifmp_wire.Fields.{decoded as ifmp_decoded}
use Rattle.world_model.specs.ifmp_wire.declared.message.Message.{Message as IfmpMessage}
use Rattle.world_model.specs.ifmp_wire.declared.reader.Fault.{Fault as IfmpFault}
use Rattle.world_model.specs.gsmp_wire.Fields.{decoded as gsmp_decoded}
use Rattle.world_model.specs.gsmp_wire.declared.fault.Fault.{Fault}
use Rattle.world_model.specs.gsmp_wire.declared.message.Message.{Message}
use Rattle.world_model.specs.gsmp_wire.declared.message.Message.TheVariants as messages
use Rattle.world_model.specs.port_model.Port.{Port}
use Rattle.world_model.proofs.Lists.{by_eq}
use Rattle.law_port_facts.specs.ordered_lists.Ordered.{InOrder}
use Rattle.law_live_unseen.specs.Law.{AreAlike}
use Rattle.law_live_elsewhere.proofs.Kept.{KeptAt, KeepsController, one_linked}
use Rattle.law_live_elsewhere.proofs.Elsewhere.{IsOf}
use Rattle.law_live_elsewhere.proofs.Elsewhere as elsewhere
use Rattle.law_live_others.specs.Law.{IsAlikeAt, LeavesAlike, IsUp, IsOnlyCounted, IsRefused, IsUnheardAs, IsUnheardPacket, IsUnheard, IsForOthers}
use Rattle.law_live_others.proofs.Holding.{SameWork, forwards_same}
use Rattle.law_live_others.proofs.Framing.{frames_for_others}
use Rattle.law_live_numbers.specs.Law.{numbers_for, work_told, work_as, work_by, work_at, IsHarmlessAnswer, IsHarmlessMessage, IsHarmless, HasNumbersFor}
use Rattle.law_live_numbers.proofs.Taking.{same_up}
use Rattle.law_live_numbers.proofs.Standing.{quiet_up, nodes_stay_up}
use Rattle.law_live_passed_by.specs.Law.{OnlyCounts, PassesBy}

-- *A chain in the place of another*, and other notes before and behind that
abbrev pub gathered : Acted → (early late : Journal) → Taker → Reassembly → Acted
gathered a early late taker r = record (with_reassembly (record a { notes = early }) taker r) { notes = late }

pub keeps : (a : Acted) (early late : Journal) (taker : Taker) (r : Reassembly) → IsOf a.controller taker
    → KeepsController a.controller (gathered a early late taker r).controller
keeps a early late taker r is = elsewhere.gathered (record a { notes = early }) taker r is

-- a port that is kept, and then left alike
pub then_alike : (port : PortNo) (a b c : Acted) → KeepsController a.controller b.controller → LeavesAlike port b c → LeavesAlike port a c
then_alike port a b c kept left = record { left = each; address = left.address ∙ kept.address }
  where
    each : (linked : Linked) → linked_at a.controller port ≡ Some linked → IsAlikeAt linked (linked_at c.controller port)
    each linked found = (let k : KeptAt linked (linked_at b.controller port) = kept.ports port linked found in
        let now : IsAlikeAt k.after (linked_at c.controller port) = left.left k.after k.there in
        record { after = now.after; there = now.there; setup = now.setup ∙ k.setup; alike = subst (λ (p : Port). AreAlike p now.after.port) k.port now.alike })

-- *What the switch says* is harmless still
module _ (a : Acted) (early late : Journal) (r : Reassembly) where
  abbrev told : Acted
  told = gathered a early late ForGsmp r

  answer_still : (answer : Answered) → IsHarmlessAnswer a answer → IsHarmlessAnswer told answer
  answer_still Unknown harmless = tt
  answer_still (Done s) made =
      record { input = made.input; from = made.from; to = made.to; is = made.is; to_link = made.to_link; none_waits = made.none_waits; unspent = made.unspent }
  answer_still (Ports s rows) harmless = harmless
  answer_still (Failed s code) harmless = harmless

  message_still : (message : Message) → IsHarmlessMessage a message → IsHarmlessMessage told message
  message_still (messages.Adjacency greeting) harmless = harmless
  message_still (messages.Branch kind result code number session input_port input output_port output branches priority) harmless =
      answer_still (answered a.controller.desk (messages.Branch kind result code number session input_port input output_port output branches priority)) harmless
  message_still (messages.Move result code number session input_port input output_port output target_port target branches priority) harmless =
      answer_still (answered a.controller.desk (messages.Move result code number session input_port input output_port output target_port target branches priority)) harmless
  message_still (messages.Port result code number port_named session function) harmless =
      answer_still (answered a.controller.desk (messages.Port result code number port_named session function)) harmless
  message_still (messages.AllPorts result code number rows) harmless = answer_still (answered a.controller.desk (messages.AllPorts result code number rows)) harmless

  harmless_still : (read : Result Message Fault) → IsHarmless a read → IsHarmless told read
  harmless_still (Ok message) harmless = message_still message harmless
  harmless_still (Err fault) harmless = tt

-- *A port that takes* does the same still at what comes on its default channel
module _ (a : Acted) (early late : Journal) (q : Linked) (r : Reassembly) (own : linked_at a.controller q.setup.port ≡ Some q) where
  abbrev b : Acted
  b = gathered a early late (ForDefault q) r

  module _ (linked : Linked) (found : linked_at b.controller q.setup.port ≡ Some linked) where
    now : KeptAt q (linked_at b.controller q.setup.port)
    now = (keeps a early late (ForDefault q) r own).ports q.setup.port q own

    is : now.after ≡ linked
    is = one_linked now.after linked (sym now.there ∙ found)

    setup : linked.setup ≡ q.setup
    setup = ap (λ (l : Linked). l.setup) (sym is) ∙ now.setup

    port : linked.port ≡ q.port
    port = ap (λ (l : Linked). l.port) (sym is) ∙ now.port

    begun : begins b linked ≡ begins a q
    begun = λ i. record { port = port i; actions = []; halted = false; instances = a.numbers.instances }

    counted : (packet : List ℕ) → counts linked.setup b.controller.desk (begins b linked) packet ≡ counts q.setup a.controller.desk (begins a q) packet
    counted packet = λ i. counts (setup i) a.controller.desk (begun i) packet

    same_told : (packet : List ℕ) (read : Result IfmpMessage IfmpFault) → work_told b linked packet read ≡ work_told a q packet read
    same_told packet (Err fault) = begun
    same_told packet (Ok message) = λ i. hears (setup i) a.controller.desk (begun i) (source_of packet) message

    same_as : (packet : List ℕ) (is_message : Bool) → work_as b linked packet is_message ≡ work_as a q packet is_message
    same_as packet true = same_told packet (ifmp_decoded (drop 20 packet))
    same_as packet false = counted packet

    same_by : (packet : List ℕ) (fault : Option PacketFault) → work_by b linked packet fault ≡ work_by a q packet fault
    same_by packet (Some fault) = begun
    same_by packet None = same_as packet (protocol_of packet == control_protocol)

    same_work : (read : Result (List ℕ) EncapsFault) → work_at b linked read ≡ work_at a q read
    same_work (Err fault) = begun
    same_work (Ok packet) = same_by packet (first_fault packet)

    counted_still : (packet : List ℕ) → IsOnlyCounted a packet q → IsOnlyCounted b packet linked
    counted_still packet only = record {
      asks_nothing = ap (λ (w : Work). w.actions) (counted packet) ∙ only.asks_nothing;
      labels_in_order = subst (λ (p : Port). InOrder (λ (x y : Label). label_number x < label_number y) (labels_of p)) (sym port) only.labels_in_order;
    }

  numbers_still : (payload : List ℕ) → HasNumbersFor a (ForDefault q) payload → HasNumbersFor b (ForDefault q) payload
  numbers_still payload low linked found = subst (λ (w : Work). a.controller.desk.next + numbers_for w ≤ last_transaction) (sym (same_work linked found (default_unwrapped payload))) (low q own)

  -- *A packet that is only counted* isn't heard
  module _ (payload : List ℕ) (none : ifmp_of payload ≡ None) (only : OnlyCounts a q payload) where
    is_refused : (read : Result IfmpMessage IfmpFault) → ok_of read ≡ None → IsRefused read
    is_refused (Err fault) e = tt
    is_refused (Ok message) e = absurd (cc e)

    unheard_as : (packet : List ℕ) → default_unwrapped payload ≡ Ok packet → first_fault packet ≡ None → IsUnheardAs b q.setup.port packet (protocol_of packet == control_protocol)
    unheard_as packet e whole = by_eq (protocol_of packet) control_protocol
        (λ same t. subst (IsUnheardAs b q.setup.port packet) (sym t) (is_refused (ifmp_decoded (drop 20 packet))
        (ap (λ (message : Bool). if message then ok_of (ifmp_decoded (drop 20 packet)) else None) (sym t)
        ∙ (ap (λ (read : Result (List ℕ) EncapsFault). option_and_then ifmp_in (ok_of read)) (sym e) ∙ none))))
        (λ differs t. subst (IsUnheardAs b q.setup.port packet) (sym t) (λ linked found. counted_still linked found packet (only packet e whole differs)))

    unheard_packet : (packet : List ℕ) → default_unwrapped payload ≡ Ok packet → (fault : Option PacketFault) → first_fault packet ≡ fault → IsUnheardPacket b q.setup.port packet fault
    unheard_packet packet e (Some fault) is = tt
    unheard_packet packet e None is = unheard_as packet e is

    unheard : (read : Result (List ℕ) EncapsFault) → default_unwrapped payload ≡ read → IsUnheard b q.setup.port read
    unheard (Err fault) e = tt
    unheard (Ok packet) e = unheard_packet packet e (first_fault packet) refl

-- and leaves the node up
module _ (a : Acted) (q : PortNo) (mark : Mark) (up : IsUp a) where
  counted_up : (packet : List ℕ) → ((linked : Linked) → linked_at a.controller q ≡ Some linked → IsOnlyCounted a packet linked) → IsUp (counted_at (forwards_packet a mark packet) q packet)
  counted_up packet only = quiet_up sent q (λ setup desk w. counts setup desk w packet) (same_up a sent same.adjacency up) quiet
    where
      sent : Acted
      sent = forwards_packet a mark packet

      same : SameWork a sent
      same = forwards_same a mark packet

      quiet : (linked : Linked) → linked_at sent.controller q ≡ Some linked → (counts linked.setup sent.controller.desk (begins sent linked) packet).actions ≡ []
      quiet linked found = ap (λ (w : Work). w.actions) moved ∙ (only linked (sym (ap (λ ports. linked_at (record a.controller { ports = ports }) q) same.ports) ∙ found)).asks_nothing
        where
          moved : counts linked.setup sent.controller.desk (begins sent linked) packet ≡ counts linked.setup a.controller.desk (begins a linked) packet
          moved = λ i. counts linked.setup (same.desk i) (record { port = linked.port; actions = []; halted = false; instances = same.instances i }) packet

  as_up : (packet : List ℕ) (is_message : Bool) → IsUnheardAs a q packet is_message
      → IsUp (if is_message then ifmp_holds a q packet (ifmp_decoded (drop 20 packet)) else counted_at (forwards_packet a mark packet) q packet)
  as_up packet true refused = by (ifmp_decoded (drop 20 packet)) refused
    where
      by : (read : Result IfmpMessage IfmpFault) → IsRefused read → IsUp (ifmp_holds a q packet read)
      by (Err fault) refused = up
      by (Ok message) refused = absurd refused
  as_up packet false only = counted_up packet only

  packet_up : (packet : List ℕ) (fault : Option PacketFault) → IsUnheardPacket a q packet fault → IsUp (packet_holds a q mark packet fault)
  packet_up packet (Some fault) unheard = up
  packet_up packet None unheard = as_up packet (protocol_of packet == control_protocol) unheard

  unheard_up : (read : Result (List ℕ) EncapsFault) → IsUnheard a q read → IsUp (default_holds a q mark read)
  unheard_up (Err fault) unheard = up
  unheard_up (Ok packet) unheard = packet_up packet (first_fault packet) unheard

-- *The frame acts*, and leaves the port alike
abbrev pub IsNoMessage : PortNo → Taker → (payload : List ℕ) → Type 0
IsNoMessage port (ForDefault q) payload = q.setup.port.0 ≡ port.0 → ifmp_of payload ≡ None
IsNoMessage port taker payload = Unit {0}

module _ (port : PortNo) (a : Acted) (early late : Journal) (r : Reassembly) (mark : Mark) (payload : List ℕ) (up : IsUp a) where
  abbrev Leaves : Taker → Type 0
  Leaves taker = LeavesAlike port a (frame_holds (gathered a early late taker r) taker mark payload)

  for_others : (taker : Taker) → IsOf a.controller taker → IsForOthers port (gathered a early late taker r) taker payload
      → IsUp (frame_holds (gathered a early late taker r) taker mark payload) → Leaves taker
  for_others taker is others up_then =
      let b : Acted = gathered a early late taker r in
      then_alike port a b (frame_holds b taker mark payload) (keeps a early late taker r is) (frames_for_others port b taker mark payload others up_then)

  pub frame_alike : (taker : Taker) → IsOf a.controller taker → PassesBy port a taker payload → IsNoMessage port taker payload → Leaves taker
  frame_alike ForGsmp is passes none =
      for_others ForGsmp is passes.0
      (nodes_stay_up (gathered a early late ForGsmp r) ForGsmp mark payload up (harmless_still a early late r (gsmp_decoded payload) passes.1))
  frame_alike (ForLabel q label) is passes none =
      for_others (ForLabel q label) is tt (nodes_stay_up (gathered a early late (ForLabel q label) r) (ForLabel q label) mark payload up tt)
  frame_alike (ForDefault q) is passes none = by_eq q.setup.port.0 port.0
      (λ same t. (let not_heard : IsUnheard b q.setup.port (default_unwrapped payload) = unheard a early late q r is payload (none same) (passes.1 same) (default_unwrapped payload) refl in
      for_others (ForDefault q) is (inr not_heard) (unheard_up b q.setup.port mark up (default_unwrapped payload) not_heard)))
      (λ differs t. for_others (ForDefault q) is (inl differs) (nodes_stay_up b (ForDefault q) mark payload up (numbers_still a early late q r is payload (passes.0 differs))))
    where
      b : Acted
      b = gathered a early late (ForDefault q) r
