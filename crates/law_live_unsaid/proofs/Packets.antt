-- a packet that is sent on is no message, and what a frame holds makes a port say none that asks nothing then

use Rattle.std.proofs.Common.{◌≡◌, ◌≢◌, ℕ, ◌-◌, ◌+◌, ◌<◌, ◌≤◌, Bool, true, false, true≢false, List, [], drop, Option, None, Some, Result, refl, sym, ◌∙◌, ap, subst, arith, if◌then◌else◌}
use Rattle.std.specs.Prelude.{◌==◌, ◌&&◌, nat_lt, nat_le, Ok, Err}
use Rattle.std.specs.Option.{option_and_then, option_map_or, option_or}
use Rattle.std.proofs.lemmas.Bool.Decides.{nat_tests}
use Rattle.world_model.specs.Words.{PortNo, Channel, Cell, Mark, Frame, PacketFault, EncapsFault, next_control, next_mark, with_control, protocol_of, source_of, ttl_of, hop_of, onward, Hop, Here, On, kind_of, flow_of, FlowId, FlowKind, same_flow, default_payload, labelled_payload, ifmp_of, ifmp_in, same_channel, is_label_number, label_channel_of, control_protocol, Label, Grant, is_by_controller, grant_for, grant_of_kind, grant_matching, Work, counts, used, used_label, hears, label_at, control_end, Controller, Linked, linked_at, port_key, begins, default_home, sends_control, is_control, sends_next, goes_by, grant_by, forwards_packet, label_holds, ifmp_holds, counted_at, packet_holds, default_holds}
use Rattle.world_model.specs.ipv4_packet.Packet.{first_fault}
use Rattle.world_model.specs.ipv4_packet.declared.flow.FlowKind.TheVariants.{One, Two}
use Rattle.world_model.specs.ipv4_forward.declared.outcome.Hop.TheVariants.{NoRoute, Expired}
use Rattle.world_model.specs.ifmp_wire.declared.message.Message.{Message}
use Rattle.world_model.specs.ifmp_wire.declared.reader.Fault.{Fault}
use Rattle.world_model.specs.ifmp_wire.Fields.{decoded as ifmp_decoded}
use Rattle.world_model.specs.Ways.{ok_of}
use Rattle.world_model.specs.Controller.{Acted}
use Rattle.world_model.specs.Packets.{forwarded}
use Rattle.world_model.specs.Sending.{sends}
use Rattle.world_model.proofs.ipv4_packet.RouteLemmas.{protocol_of-rerouted}
use Rattle.law_port_facts.specs.ordered_lists.Ordered.{Every}
use Rattle.law_port_facts.proofs.ordered_lists.Every.{every_all}
use Rattle.law_port_facts.proofs.Keyed.{on_both, on_each, at_key, at_every}
use Rattle.law_port_facts.proofs.Found.{find_every}
use Rattle.law_shown_cells.proofs.Frames.{differ}
use Rattle.law_controller_facts.proofs.Onward.{packet_of}
use Rattle.law_frame_readings.specs.Reading.{IsForwarded}
use Rattle.law_frame_readings.proofs.law_wire.Packets.{unwrapped_again}
use Rattle.law_live_others.proofs.Holding.{SameWork, forwards_same}
use Rattle.law_live_numbers.specs.Law.{work_told, work_as, work_by, work_at}
use Rattle.law_live_orders.proofs.Switches.{first, second}
use Rattle.law_live_unsaid.specs.Law.{SendsByLabels, IsHushed}
use Rattle.law_live_unsaid.proofs.Since.{with_frame, Since, since_begins, since_elsewhere, since_first}
use Rattle.law_live_unsaid.proofs.Walks.{Terms, home, IsStill, Kept, sent_kept, rule_kept}

-- *No message* is in a packet of another protocol
other_none : (packet : List ℕ) → (protocol_of packet == control_protocol) ≡ false → ifmp_of (default_payload packet) ≡ None
other_none packet other = ap (λ (r : Result (List ℕ) EncapsFault). option_and_then ifmp_in (ok_of r)) (unwrapped_again packet)
    ∙ ap (λ (b : Bool). if b then ok_of (ifmp_decoded (drop 20 packet)) else None) other

onward_none : (packet : List ℕ) → IsForwarded packet → ifmp_of (default_payload (onward packet)) ≡ None
onward_none packet is = other_none (onward packet)
    (ap (λ (n : ℕ). n == control_protocol) (protocol_of-rerouted packet (ttl_of packet - 1) (packet_of packet is.whole).has_header) ∙ is.other)

-- *A mark* that isn't a control mark is a packet's
not_control : (came : Mark) → (came.packet ≡ 0 → 0 < came.frame) → is_control came ≡ false → came.packet ≢ 0
not_control came marked other e = true≢false (sym (both (came.packet == 0) (nat_lt 0 came.frame) (zero_is came.packet e) (above came.frame (marked e))) ∙ other)
  where
    both : (x y : Bool) → x ≡ true → y ≡ true → (x && y) ≡ true
    both true y p q = q
    both false y p q = absurd (cc p)

    zero_is : (n : ℕ) → n ≡ 0 → (n == 0) ≡ true
    zero_is n is = grind (arith, nat_tests)

    above : (n : ℕ) → 0 < n → nat_lt 0 n ≡ true
    above n is = grind (arith, nat_tests)

-- *A grant that is found* is of a label, whose channel isn't a default channel
abbrev IsOfLabel : Grant → Type 0
IsOfLabel grant = is_label_number grant.label ≡ true

matching_label : (grants : List Grant) (packet : List ℕ) (grant : Grant) → Every IsOfLabel grants → grant_matching grants packet ≡ Some grant → IsOfLabel grant
matching_label grants packet grant each e = either (grant_of_kind grants One packet) (of_kind One) e
  where
    for_flow : (o : Option FlowId) → option_map_or (grant_for grants) o None ≡ Some grant → IsOfLabel grant
    for_flow None e = absurd (cc e)
    for_flow (Some flow) e = find_every IsOfLabel (λ (g : Grant). is_by_controller g.state && same_flow g.flow flow) grants grant each e

    of_kind : (kind : FlowKind) → grant_of_kind grants kind packet ≡ Some grant → IsOfLabel grant
    of_kind kind e = for_flow (flow_of kind packet) e

    either : (o : Option Grant) → (o ≡ Some grant → IsOfLabel grant) → option_or o (grant_of_kind grants Two packet) ≡ Some grant → IsOfLabel grant
    either None is e = of_kind Two e
    either (Some g) is e = is e

granted_label : (c : Controller) (q : PortNo) (packet : List ℕ) (grant : Grant) → SendsByLabels c → grant_by c q packet ≡ Some grant → IsOfLabel grant
granted_label c q packet grant each e = by (linked_at c q) refl e
  where
    by : (o : Option Linked) → linked_at c q ≡ o → option_and_then (λ (linked : Linked). grant_matching linked.port.grants packet) o ≡ Some grant → IsOfLabel grant
    by None found e = absurd (cc e)
    by (Some linked) found e = matching_label linked.port.grants packet grant (at_every port_key (λ (l : Linked). Every IsOfLabel l.port.grants) q.0 c.ports linked each found) e

label_apart : (port q : PortNo) (label : ℕ) → is_label_number label ≡ true → same_channel (control_end q label).channel (default_home port).channel ≡ false
label_apart port q label is = differ (control_end q label).channel (default_home port).channel
    (λ e. (let vci : (label_channel_of label).vci ≡ 15 = ap (λ (c : Channel). c.vci) e in absurd (low (label_channel_of label).vci vci
    (first (nat_le 32 (label_channel_of label).vci) (nat_lt (label_channel_of label).vci 1024) (second (nat_lt (label_channel_of label).vpi 16) (nat_le 32 (label_channel_of label).vci && nat_lt (label_channel_of label).vci 1024) is)))))
  where
    low : (vci : ℕ) → vci ≡ 15 → nat_le 32 vci ≡ true → ⊥
    low vci e is = true≢false (sym is ∙ below vci e)
      where
        below : (vci : ℕ) → vci ≡ 15 → nat_le 32 vci ≡ false
        below vci e = grind (arith, nat_tests)

-- *Of a port* nothing is known
abbrev pub anyhow : (port : PortNo) → 1 ≤ port.0 → (began : List Cell) → Terms
anyhow port link began = record { port = port; link = link; is = λ p. Unit {0}; anew = λ p session grants. tt; began = began }

module _ (port : PortNo) (link : 1 ≤ port.0) (a : Acted) where
  abbrev t : Terms
  t = anyhow port link a.controller.queue

  abbrev pub Goes : Acted → Type 0
  Goes b = Kept t b

  still : Every (IsStill t) a.controller.ports
  still = every_all (IsStill t) a.controller.ports (λ l same. tt)

  begun : (frames : List Frame) (controls : ℕ) → Since (home t) a.controller.queue a.controller.queue frames controls
  begun frames controls = since_begins (home t) a.controller.queue frames controls

  begins_so : Goes a
  begins_so = record { still = still; since = begun a.notes.frames a.numbers.controls }

  -- *A packet goes on*, in a frame under the next mark
  module _ (came : Mark) (marked : came.packet ≡ 0 → 0 < came.frame) (labels : SendsByLabels a.controller) where
    plain_kept : (channel : Channel) (payload : List ℕ) → ifmp_of payload ≡ None → Goes (sends_next a came channel payload)
    plain_kept channel payload none = on_each Goes (is_control came) (sends_control a channel payload) (sends a channel (next_mark came) payload)
        (λ control. sent_kept t (record a { numbers = with_control a.numbers }) channel (next_control a.numbers) payload still
        (begun (with_frame a.notes.frames (next_control a.numbers) payload) (a.numbers.controls + 1))
        (since_first (home t) a.controller.queue channel (next_control a.numbers) payload a.notes.frames (a.numbers.controls + 1) (λ e. omega arith) none))
        (λ other. sent_kept t a channel (next_mark came) payload still (begun (with_frame a.notes.frames (next_mark came) payload) a.numbers.controls)
        (since_first (home t) a.controller.queue channel (next_mark came) payload a.notes.frames a.numbers.controls (λ e. absurd (not_control came marked other e)) none))

    labelled_kept : (channel : Channel) (payload : List ℕ) → same_channel channel (home t) ≡ false → Goes (sends_next a came channel payload)
    labelled_kept channel payload apart = on_both Goes (is_control came) (sends_control a channel payload) (sends a channel (next_mark came) payload)
        (sent_kept t (record a { numbers = with_control a.numbers }) channel (next_control a.numbers) payload still
        (begun (with_frame a.notes.frames (next_control a.numbers) payload) (a.numbers.controls + 1))
        (since_elsewhere (home t) a.controller.queue a.controller.queue channel (next_control a.numbers) payload (with_frame a.notes.frames (next_control a.numbers) payload) (a.numbers.controls + 1) apart
        (begun (with_frame a.notes.frames (next_control a.numbers) payload) (a.numbers.controls + 1))))
        (sent_kept t a channel (next_mark came) payload still (begun (with_frame a.notes.frames (next_mark came) payload) a.numbers.controls)
        (since_elsewhere (home t) a.controller.queue a.controller.queue channel (next_mark came) payload (with_frame a.notes.frames (next_mark came) payload) a.numbers.controls apart
        (begun (with_frame a.notes.frames (next_mark came) payload) a.numbers.controls)))

    goes_by_kept : (q : PortNo) (packet : List ℕ) (o : Option Grant) → ((grant : Grant) → o ≡ Some grant → IsOfLabel grant) → ifmp_of (default_payload packet) ≡ None → Goes (goes_by a came q packet o)
    goes_by_kept q packet None labelled none = plain_kept (default_home q).channel (default_payload packet) none
    goes_by_kept q packet (Some grant) labelled none = labelled_kept (control_end q grant.label).channel (labelled_payload (kind_of grant.flow) packet) (label_apart port q grant.label (labelled grant refl))

    hop_kept : (packet : List ℕ) → IsForwarded packet → (hop : Hop) → Goes (forwarded a came packet hop)
    hop_kept packet is Here = record { still = still; since = begun a.notes.frames a.numbers.controls }
    hop_kept packet is NoRoute = record { still = still; since = begun a.notes.frames a.numbers.controls }
    hop_kept packet is Expired = record { still = still; since = begun a.notes.frames a.numbers.controls }
    hop_kept packet is (On q) = goes_by_kept q (onward packet) (grant_by a.controller q (onward packet)) (λ grant e. granted_label a.controller q (onward packet) grant labels e) (onward_none packet is)

    pub forwards_kept : (packet : List ℕ) → IsForwarded packet → Goes (forwards_packet a came packet)
    forwards_kept packet is = hop_kept packet is (hop_of a.controller.table packet)

    -- *On the channel of a label*
    pub label_frame : (linked : Linked) (label : Label) (r : Result (List ℕ) EncapsFault) → ((packet : List ℕ) → r ≡ Ok packet → IsForwarded packet) → Goes (label_holds a linked label came r)
    label_frame linked label (Err fault) is = record { still = still; since = begun a.notes.frames a.numbers.controls }
    label_frame linked label (Ok packet) is =
        rule_kept t (forwards_packet a came packet) linked.setup.port (λ setup desk w. used w label.number)
        (λ l found own any. record { still = tt; hushed = unused l (label_at l.port label.number) }) (forwards_kept packet (is packet refl))
      where
        unused : (l : Linked) (o : Option Label) → Every IsHushed (used_label (begins (forwards_packet a came packet) l) o).actions
        unused l None = tt
        unused l (Some label) = tt

    -- *On a default channel*, where the port asks neither to say a message nor to be reset
    module _ (q : PortNo) where
      abbrev AsksHushed : (Linked → Work) → Type 0
      AsksHushed work = q.0 ≡ port.0 → (linked : Linked) → linked_at a.controller q ≡ Some linked → Every IsHushed (work linked).actions

      ifmp_frame : (packet : List ℕ) (r : Result Message Fault) → AsksHushed (λ linked. work_told a linked packet r) → Goes (ifmp_holds a q packet r)
      ifmp_frame packet (Err fault) asks = record { still = still; since = begun a.notes.frames a.numbers.controls }
      ifmp_frame packet (Ok message) asks = rule_kept t a q (λ setup desk w. hears setup desk w (source_of packet) message)
          (λ l found own any. record { still = tt; hushed = asks (sym (at_key port_key q.0 a.controller.ports l found) ∙ own) l found }) begins_so

      counted_frame : (packet : List ℕ) → IsForwarded packet → AsksHushed (λ linked. counts linked.setup a.controller.desk (begins a linked) packet)
          → Goes (counted_at (forwards_packet a came packet) q packet)
      counted_frame packet is asks = rule_kept t b q (λ setup desk w. counts setup desk w packet)
          (λ l found own any. record { still = tt; hushed = nothing l found (sym (at_key port_key q.0 b.controller.ports l found) ∙ own) }) (forwards_kept packet is)
        where
          b : Acted
          b = forwards_packet a came packet

          same : SameWork a b
          same = forwards_same a came packet

          nothing : (l : Linked) → linked_at b.controller q ≡ Some l → q.0 ≡ port.0 → Every IsHushed (counts l.setup b.controller.desk (begins b l) packet).actions
          nothing l found own = subst (λ (w : Work). Every IsHushed w.actions) (sym moved) (asks own l (sym (ap (λ ports. linked_at (record a.controller { ports = ports }) q) same.ports) ∙ found))
            where
              moved : counts l.setup b.controller.desk (begins b l) packet ≡ counts l.setup a.controller.desk (begins a l) packet
              moved = λ i. counts l.setup (same.desk i) (record { port = l.port; actions = []; halted = false; instances = same.instances i }) packet

      packet_frame : (packet : List ℕ) (o : Option PacketFault) → first_fault packet ≡ o → AsksHushed (λ linked. work_by a linked packet o) → Goes (packet_holds a q came packet o)
      packet_frame packet (Some fault) is asks = record { still = still; since = begun a.notes.frames a.numbers.controls }
      packet_frame packet None is asks = by (protocol_of packet == control_protocol) refl asks
        where
          by : (b : Bool) → (protocol_of packet == control_protocol) ≡ b → AsksHushed (λ linked. work_as a linked packet b)
              → Goes (if b then ifmp_holds a q packet (ifmp_decoded (drop 20 packet)) else counted_at (forwards_packet a came packet) q packet)
          by true e asks = ifmp_frame packet (ifmp_decoded (drop 20 packet)) asks
          by false e asks = counted_frame packet (record { whole = is; other = e }) asks

      pub default_frame : (r : Result (List ℕ) EncapsFault) → AsksHushed (λ linked. work_at a linked r) → Goes (default_holds a q came r)
      default_frame (Err fault) asks = record { still = still; since = begun a.notes.frames a.numbers.controls }
      default_frame (Ok packet) asks = packet_frame packet (first_fault packet) refl asks
