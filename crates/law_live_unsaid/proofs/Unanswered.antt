-- what a port doesn't answer makes its controller say none, and what it doesn't answer

use Rattle.std.proofs.Common.{◌≡◌, ◌≢◌, ℕ, ◌<◌, ◌≤◌, ◌++◌, Bool, true, false, List, [], drop, Option, None, Some, Result, refl, sym, ◌∙◌, ap, subst, arith, inl, inr, fold}
use Rattle.std.specs.Prelude.{◌==◌, ◌&&◌, nat_le, Ok, Err}
use Rattle.world_model.specs.Words.{Addr, PortNo, Cell, PacketFault, EncapsFault, at, protocol_of, control_protocol, default_payload, default_unwrapped, ifmp_packet_of, unwrapped, forwards_packet, is_label_number, Grant, Work, hears, Linked, linked_at, port_key, begins, with_work, works, performs_in_estab, at_port, gsmp_holds, ForGsmp, ForDefault, ForLabel, frame_holds}
use Rattle.world_model.specs.ipv4_packet.Packet.{first_fault}
use Rattle.world_model.specs.ifmp_wire.Message.{octets_of as ifmp_octets}
use Rattle.world_model.specs.ifmp_wire.Fields.{decoded as ifmp_decoded}
use Rattle.world_model.specs.ifmp_wire.declared.message.Message.{Message}
use Rattle.world_model.specs.ifmp_wire.declared.reader.Fault.{Fault}
use Rattle.world_model.specs.gsmp_wire.Fields.{decoded as gsmp_decoded}
use Rattle.world_model.specs.Controller.{Acted}
use Rattle.world_model.specs.port_model.Port.{Port}
use Rattle.law_port_facts.specs.ordered_lists.Ordered.{Every, InOrder}
use Rattle.law_port_facts.specs.Port.{IsGrant, IsPort}
use Rattle.law_port_facts.proofs.ordered_lists.Every.{every_all, every_map}
use Rattle.law_port_facts.proofs.ordered_lists.InOrder.{order_map}
use Rattle.law_port_facts.proofs.Keyed.{each_found}
use Rattle.law_controller_facts.specs.Sound.{IsLinkedPort}
use Rattle.law_frame_readings.specs.law_shown_cells.Label.{Told}
use Rattle.law_frame_readings.specs.Reading.{IsToldAs, IsHeardAs, IsForwarded}
use Rattle.law_frame_readings.proofs.Packets.{is_forwarded, is_heard}
use Rattle.law_frame_readings.proofs.Reading.{read_label}
use Rattle.law_frame_readings.proofs.law_wire.Packets.{unwrapped_again}
use Rattle.law_live_others.specs.Law.{IsRefused, IsUnheardAs, IsUnheardPacket, IsUnheard}
use Rattle.law_live_others.specs.Law as others
use Rattle.law_live_numbers.specs.Law.{work_told, work_as, work_by, work_at}
use Rattle.law_live_orders.proofs.Switches.{first}
use Rattle.law_live_unsaid.specs.Law.{SaysNone, IsHushed, UnansweredFramesSayNone, ForwardedPacketsSayNone, FramesForOthersAreUnanswered, CarriedPacketsAreHeld, MessagesInPeaceAreUnanswered, QuietMessagesSendNothing, SoundControllersSendByLabels}
use Rattle.law_live_unsaid.proofs.Since.{since_begins, since_ends}
use Rattle.law_live_unsaid.proofs.Walks.{Terms, home, IsStill, Kept}
use Rattle.law_live_unsaid.proofs.Answers.{IsSilent, silent, gsmp_kept}
use Rattle.law_live_unsaid.proofs.Packets.{anyhow, forwards_kept, label_frame, default_frame}

-- *As it went on* since it began, it says none
says_none : (t : Terms) (a b : Acted) → t.began ≡ a.controller.queue → Kept t b → SaysNone t.port a b
says_none t a b began h = record {
  later = h.since.later;
  queue = h.since.grown ∙ ap (λ (q : List Cell). q ++ h.since.later) began;
  none = since_ends (home t) t.began b.controller.queue b.notes.frames b.numbers.controls h.since;
}

-- *A settled port* of ports in order is silent
module _ (port : PortNo) (link : 1 ≤ port.0) (a : Acted) (placed : InOrder (λ (x y : Linked). port_key x < port_key y) a.controller.ports)
    (is : (linked : Linked) → linked_at a.controller port ≡ Some linked → others.IsSettled linked.port) where
  abbrev t : Terms
  t = silent port link a.controller.queue

  differ : (m n : ℕ) → m < n → m ≢ n
  differ m n less same = omega (arith, less, same)

  is_silent : (p : Port) → others.IsSettled p → IsSilent p
  is_silent p settled = record { unspent = settled.unspent; labels = settled.labels; grants = settled.grants }

  still : Every (IsStill t) a.controller.ports
  still = every_map (λ (x : Linked). at port_key (port_key x) a.controller.ports ≡ Some x) (IsStill t) a.controller.ports
      (λ x there own. is_silent x.port (is x (ap (λ k. at port_key k a.controller.ports) (sym own) ∙ there)))
      (each_found port_key a.controller.ports (order_map (λ (x y : Linked). port_key x < port_key y) (λ (x y : Linked). port_key x ≢ port_key y) (λ (x : Linked). Unit {0}) a.controller.ports
      (λ x y here there less. differ (port_key x) (port_key y) less) (every_all (λ (x : Linked). Unit {0}) a.controller.ports (λ x. tt)) placed))

  gsmp_none : (payload : List ℕ) → SaysNone port a (gsmp_holds a (gsmp_decoded payload))
  gsmp_none payload = says_none t a (gsmp_holds a (gsmp_decoded payload)) refl
      (gsmp_kept port link a.controller.queue a (gsmp_decoded payload) (record { still = still; since = since_begins (home t) a.controller.queue a.notes.frames a.numbers.controls }))

pub frames_say_none : UnansweredFramesSayNone
frames_say_none port a ForGsmp mark payload link labels marked is = gsmp_none port link.0 a is.0 is.1 payload
frames_say_none port a (ForDefault q) mark payload link labels marked is =
    says_none (anyhow port link.0 a.controller.queue) a (frame_holds a (ForDefault q) mark payload) refl
    (default_frame port link.0 a mark marked labels q.setup.port (default_unwrapped payload) is)
frames_say_none port a (ForLabel q label) mark payload link labels marked is =
    says_none (anyhow port link.0 a.controller.queue) a (frame_holds a (ForLabel q label) mark payload) refl
    (label_frame port link.0 a mark marked labels q label (unwrapped label.flow payload) is)

-- *A packet that is sent on*
pub forwarded_say_none : ForwardedPacketsSayNone
forwarded_say_none port a came packet link labels marked is =
    says_none (anyhow port link.0 a.controller.queue) a (forwards_packet a came packet) refl (forwards_kept port link.0 a came marked labels packet is)

-- *Frames for others*
module _ (a : Acted) (q : PortNo) (linked : Linked) (found : linked_at a.controller q ≡ Some linked) where
  unheard_as : (packet : List ℕ) (b : Bool) → IsUnheardAs a q packet b → (work_as a linked packet b).actions ≡ []
  unheard_as packet true refused = by (ifmp_decoded (drop 20 packet)) refused
    where
      by : (r : Result Message Fault) → IsRefused r → (work_told a linked packet r).actions ≡ []
      by (Err fault) refused = refl
      by (Ok message) refused = absurd refused
  unheard_as packet false only = (only linked found).asks_nothing

  unheard_by : (packet : List ℕ) (o : Option PacketFault) → IsUnheardPacket a q packet o → (work_by a linked packet o).actions ≡ []
  unheard_by packet (Some fault) unheard = refl
  unheard_by packet None unheard = unheard_as packet (protocol_of packet == control_protocol) unheard

  unheard_at : (r : Result (List ℕ) EncapsFault) → IsUnheard a q r → (work_at a linked r).actions ≡ []
  unheard_at (Err fault) unheard = refl
  unheard_at (Ok packet) unheard = unheard_by packet (first_fault packet) unheard

pub others_are_unanswered : FramesForOthersAreUnanswered
others_are_unanswered port a ForGsmp payload is held = is
others_are_unanswered port a (ForDefault q) payload (inl differs) held = λ same linked found. absurd (differs same)
others_are_unanswered port a (ForDefault q) payload (inr unheard) held = λ same linked found. subst (Every IsHushed) (sym (unheard_at a q.setup.port linked found (default_unwrapped payload) unheard)) tt
others_are_unanswered port a (ForLabel q label) payload is held = held q label refl

-- *Packets that are carried*
pub packets_are_held : CarriedPacketsAreHeld
packets_are_held label packet payload fit carries other e = subst IsForwarded (one packet other (sym (read_label label.flow payload packet carries) ∙ e)) (is_forwarded packet fit)
  where
    one : (x y : List ℕ) → ◌≡◌ {A = Result (List ℕ) EncapsFault} (Ok x) (Ok y) → x ≡ y
    one x y e = cc

-- *Messages in peace*
pub peace_is_unanswered : MessagesInPeaceAreUnanswered
peace_is_unanswered a q linked one other source message rest is goes_by low range fits on same found_linked found = subst (Every IsHushed) (sym
    (ap (λ r. (work_at a found_linked r).actions) (unwrapped_again packet)
    ∙ (ap (λ o. (work_by a found_linked packet o).actions) heard.whole
    ∙ (ap (λ (b : Bool). (work_as a found_linked packet b).actions) heard.control
    ∙ (ap (λ r. (work_told a found_linked packet r).actions) heard.message
    ∙ (ap (λ (from : Addr). (hears found_linked.setup a.controller.desk (begins a found_linked) from message).actions) (heard.source ∙ sym goes_by)
    ∙ (ap (λ (l : Linked). (hears l.setup a.controller.desk (begins a l) other.port.adjacency.own.address message).actions) it
    ∙ ((λ i. (hears (is.setup i) a.controller.desk (record { port = is.port i; actions = []; halted = false; instances = a.numbers.instances }) other.port.adjacency.own.address message).actions)
    ∙ on.quiet)))))))) tt
  where
    packet : List ℕ
    packet = ifmp_packet_of source (ifmp_octets message)

    item : Told
    item = record { source = source; message = message }

    told : IsToldAs (record { packet = 0; frame = 0 }) (default_payload packet) item
    told = record { control = refl; source = low; in_range = range; fits = fits; filled = refl }

    heard : IsHeardAs packet item
    heard = is_heard (record { packet = 0; frame = 0 }) (default_payload packet) item told

    one_linked : (x y : Linked) → Some x ≡ Some y → x ≡ y
    one_linked x y e = cc

    it : found_linked ≡ linked
    it = one_linked found_linked linked (sym found ∙ (ap (λ k. at port_key k a.controller.ports) same ∙ is.there))

pub quiet_sends_nothing : QuietMessagesSendNothing
quiet_sends_nothing a port linked source message found quiet = record { queue = ap (λ (b : Acted). b.controller.queue) acted; notes = ap (λ (b : Acted). b.notes) acted }
  where
    w : Work
    w = hears linked.setup a.controller.desk (begins a linked) source message

    acted : at_port a port (λ setup desk v. hears setup desk v source message) ≡ with_work a linked w
    acted = ap (works a (λ setup desk v. hears setup desk v source message)) found
        ∙ ap (λ asked. fold (performs_in_estab linked.setup.port) (with_work a linked w) asked) quiet

-- *Grants of a sound controller*
pub sound_sends_by_labels : SoundControllersSendByLabels
sound_sends_by_labels setups c sound = every_map (IsLinkedPort setups) (λ (linked : Linked). Every IsOfLabel linked.port.grants) c.ports
    (λ linked is. (let p : IsPort setups linked.setup linked.port = is in every_map (IsGrant setups linked.setup) IsOfLabel linked.port.grants
    (λ grant g. first (is_label_number grant.label) (nat_le linked.setup.least grant.label && nat_le grant.label linked.setup.greatest) g.in_range) p.grants)) sound.ports.each
  where
    IsOfLabel : Grant → Type 0
    IsOfLabel grant = is_label_number grant.label ≡ true
