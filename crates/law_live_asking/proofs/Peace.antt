-- a message that one of two ends in agreement hears of the other makes its port work plainly

use Rattle.std.proofs.Common.{◌≡◌, ◌⊎◌, inl, inr, ℕ, ◌<◌, ◌+◌, ◌^◌, Bool, true, false, List, [], ◌∷◌, Option, None, Some, Result, refl, sym, ◌∙◌, ap, subst, arith}
use Rattle.std.specs.Prelude.{◌&&◌, ◌==◌, nat_le, nat_lt, is_some}
use Rattle.std.specs.Option.{option_map_or}
use Rattle.std.proofs.lemmas.Bool.{eq-eqb}
use Rattle.std.proofs.lemmas.Bool.Decides.{nat_tests}
use Rattle.world_model.specs.Words.{Addr, Ack, Peer, hello_of, same_peer, InRange, FitsMessage, PacketFault, EncapsFault, default_payload, default_unwrapped, ifmp_packet_of, Redirect, label_channel_of, at, is_in_range, Label, label_number, labels_of, Grant, grant_label, Session, last_number, hears, Linked, linked_at, begins}
use Rattle.world_model.specs.Controller.{Acted}
use Rattle.world_model.specs.ifmp_wire.Message.{octets_of as ifmp_octets}
use Rattle.world_model.specs.ifmp_wire.declared.message.Message.{Message}
use Rattle.world_model.specs.ifmp_wire.declared.message.Message.TheVariants.{Adjacency}
use Rattle.world_model.specs.ifmp_wire.declared.reader.Fault.{Fault}
use Rattle.live_model.specs.Met.{HaveMet}
use Rattle.law_live_lasting.specs.law_port_facts.ordered_lists.Ordered.{Every}
use Rattle.law_live_lasting.proofs.law_port_facts.ordered_lists.Every.{every_map}
use Rattle.law_live_lasting.proofs.law_port_facts.Keyed.{at_key, at_every}
use Rattle.law_live_lasting.specs.law_frame_readings.law_shown_cells.Label.{Told}
use Rattle.law_live_lasting.specs.law_frame_readings.Reading.{IsToldAs, IsHeardAs}
use Rattle.law_live_lasting.proofs.law_frame_readings.Packets.{is_heard}
use Rattle.law_live_lasting.proofs.law_frame_readings.law_wire.Packets.{unwrapped_again}
use Rattle.law_live_labels.specs.Law.{IsTaken}
use Rattle.law_live_greetings.specs.Law.{WaitsForNone}
use Rattle.law_live_lasting.specs.law_live_links.Law.{EndOfLink, number_of, expected_of, IsGreeting, IsRefresh, LeadOn, IsHeld, AreAgreed}
use Rattle.law_live_lasting.specs.law_live_worlds.Law.{end_of}
use Rattle.law_live_numbers.specs.Law.{work_told, work_as, work_by, work_at}
use Rattle.law_live_mirrors.specs.Asking.{WorksPlainly}
use Rattle.law_live_asking.specs.Frames.{plainly, MessagesInPeaceMayCome}
use Rattle.law_live_asking.proofs.Frames.{acks_work_plainly, refreshes_work_plainly}

number : (n : ℕ) → (n == n) ≡ true
number n = eq-eqb n n refl

both : (x y : Bool) → x ≡ true → y ≡ true → (x && y) ≡ true
both true y p q = q
both false y p q = absurd (cc p)

peer_itself : (x : Peer) → same_peer x x ≡ true
peer_itself x = both (x.instance.0 == x.instance.0) (x.address.0 == x.address.0) (number x.instance.0) (number x.address.0)

at_most : (n : ℕ) → nat_le n n ≡ true
at_most n = grind (arith, nat_tests)

below : (m n : ℕ) → m < n → nat_lt m n ≡ true
below m n h = grind (arith, nat_tests)

-- *What its frame is to the port*
module _ (a : Acted) (linked : Linked) (source : Addr) (message : Message) (low : source.0 < 2 ^ 32) (range : InRange message) (fits : FitsMessage message) where
  abbrev packet : List ℕ
  packet = ifmp_packet_of source (ifmp_octets message)

  abbrev item : Told
  item = record { source = source; message = message }

  told : IsToldAs (record { packet = 0; frame = 0 }) (default_payload packet) item
  told = record { control = refl; source = low; in_range = range; fits = fits; filled = refl }

  heard : IsHeardAs packet item
  heard = is_heard (record { packet = 0; frame = 0 }) (default_payload packet) item told

  work_is : work_at a linked (default_unwrapped (default_payload packet)) ≡ hears linked.setup a.controller.desk (begins a linked) source message
  work_is = ap (λ (r : Result (List ℕ) EncapsFault). work_at a linked r) (unwrapped_again packet)
      ∙ (ap (λ (o : Option PacketFault). work_by a linked packet o) heard.whole
      ∙ (ap (λ (b : Bool). work_as a linked packet b) heard.control
      ∙ (ap (λ (r : Result Message Fault). work_told a linked packet r) heard.message
      ∙ ap (λ (from : Addr). hears linked.setup a.controller.desk (begins a linked) from message) heard.source)))

-- *It is an ACK, or a REDIRECT* of a label that is held
module _ (a : Acted) (linked : Linked) (said_here rest : List Message) (other : EndOfLink) (message : Message) (there : linked_at a.controller linked.setup.port ≡ Some linked)
    (agreed : AreAgreed (end_of linked said_here) other) (first : other.said ≡ message ∷ rest) (s : Session) (is_open : linked.port.session ≡ Some s) where
  abbrev own : Peer
  own = linked.port.adjacency.own

  abbrev far : Peer
  far = other.port.adjacency.own

  abbrev met : HaveMet linked.port.adjacency other.port.adjacency
  met = agreed.met

  abbrev Plainly : Message → Type 0
  Plainly m = WorksPlainly a linked (hears linked.setup a.controller.desk (begins a linked) far.address m)

  same_labels : labels_of linked.port ≡ s.labels
  same_labels = ap (λ (o : Option Session). option_map_or (λ (x : Session). x.labels) o []) is_open

  waits : Every (λ (label : Label). WaitsForNone label.state) s.labels
  waits = every_map (IsHeld linked.setup.timers other.setup other.port.grants said_here) (λ (label : Label). WaitsForNone label.state) s.labels
      (λ label held. subst WaitsForNone (sym held.offered) tt) (subst (Every (IsHeld linked.setup.timers other.setup other.port.grants said_here)) same_labels agreed.there.labels)

  greets : IsGreeting far own message → Plainly message
  greets g = subst Plainly
      (sym (g.is ∙ ap (λ (stored : Option Peer). Adjacency (hello_of g.expected (record { kind = Ack; sender = far; receiver = stored }))) (sym met.other_knows)))
      (acks_work_plainly a linked s other.port.adjacency g.expected there is_open met waits)

  tells : IsRefresh far own other.setup.timers (labels_of other.port) (expected_of linked.port) message → Plainly message
  tells r = subst Plainly
      (sym (r.is ∙ (ap (λ n. Redirect far.instance own.instance (expected_of linked.port) other.setup.timers.lifetime (label_channel_of n) r.label.flow) (sym same_label)
      ∙ ap (λ f. Redirect far.instance own.instance (expected_of linked.port) other.setup.timers.lifetime (label_channel_of grant.label) f) (sym held.same_flow))))
      (refreshes_work_plainly a linked s far.address far.instance own.instance (expected_of linked.port) other.setup.timers.lifetime grant there is_taken granted held.stays)
    where
      held : IsHeld other.setup.timers linked.setup linked.port.grants other.said r.label
      held = at_every label_number (IsHeld other.setup.timers linked.setup linked.port.grants other.said) r.label.number (labels_of other.port) r.label agreed.back.labels r.held

      grant : Grant
      grant = held.grant

      same_label : grant.label ≡ r.label.number
      same_label = at_key grant_label r.label.number linked.port.grants grant held.granted

      granted : at grant_label grant.label linked.port.grants ≡ Some grant
      granted = ap (λ k. at grant_label k linked.port.grants) same_label ∙ held.granted

      expected : expected_of linked.port ≡ s.expected
      expected = ap (λ (o : Option Session). option_map_or (λ (x : Session). x.expected) o 0) is_open

      due : option_map_or (λ (x : Session). nat_le x.expected (expected_of linked.port) && nat_lt (expected_of linked.port) last_number) linked.port.session false ≡ true
      due = ap (λ (o : Option Session). option_map_or (λ (x : Session). nat_le x.expected (expected_of linked.port) && nat_lt (expected_of linked.port) last_number) o false) is_open
          ∙ both (nat_le s.expected (expected_of linked.port)) (nat_lt (expected_of linked.port) last_number)
          (ap (nat_le s.expected) expected ∙ at_most s.expected) (below (expected_of linked.port) last_number r.number_left)

      is_taken : IsTaken linked.setup (begins a linked) s far.address far.instance own.instance (expected_of linked.port) grant.label
      is_taken = record {
        working = record { of_link = agreed.one_end.of_link; going = refl; is_open = is_open };
        taken = both (option_map_or (same_peer far) linked.port.adjacency.stored false && (own.instance.0 == own.instance.0)) _
            (both (option_map_or (same_peer far) linked.port.adjacency.stored false) (own.instance.0 == own.instance.0)
            (ap (λ (stored : Option Peer). option_map_or (same_peer far) stored false) met.one_knows ∙ peer_itself far) (number own.instance.0)) due;
        in_range = ap (is_in_range linked.setup) same_label ∙ held.in_range;
      }

  works : Plainly message
  works = by (subst (LeadOn far own other.setup.timers (labels_of other.port) (expected_of linked.port) (number_of other.port)) first agreed.back.numbers)
    where
      by : (IsGreeting far own message × LeadOn far own other.setup.timers (labels_of other.port) (expected_of linked.port) (number_of other.port) rest)
          ⊎ (IsRefresh far own other.setup.timers (labels_of other.port) (expected_of linked.port) message
          × LeadOn far own other.setup.timers (labels_of other.port) (expected_of linked.port + 1) (number_of other.port) rest) → Plainly message
      by (inl g) = greets g.0
      by (inr r) = tells r.0

pub messages_in_peace_may_come : MessagesInPeaceMayCome
messages_in_peace_may_come a linked said_here rest other message there agreed first low range fits = plainly
    (subst (WorksPlainly a linked) (sym (work_is a linked other.port.adjacency.own.address message low range fits)) (by linked.port.session refl))
  where
    by : (o : Option Session) → linked.port.session ≡ o → WorksPlainly a linked (hears linked.setup a.controller.desk (begins a linked) other.port.adjacency.own.address message)
    by None is = absurd (cc (sym agreed.one_end.in_session ∙ ap (λ (o : Option Session). is_some o) is))
    by (Some s) is = works a linked said_here rest other message there agreed first s is
