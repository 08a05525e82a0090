-- what comes to a controller for others than a port, a packet on the port's own default channel, and one that enters leave the port

use Rattle.std.proofs.Common.{◌≡◌, ◌≢◌, ℕ, ◌≤◌, ◌<◌, ◌==◌, ◌&&◌, Bool, true, false, List, [], ◌∷◌, append-nil, drop, Option, None, Some, Result, Ok, Err, refl, sym, ◌∙◌, ap, subst, arith, if◌then◌else◌}
use Rattle.std.proofs.lemmas.List.{append_cancel_left}
use Rattle.std.specs.Option.{option_and_then}
use Rattle.world_model.specs.Words.{PortNo, Addr, Mark, Frame, Hello, Peer, Side, FlowId, Label, Session, Work, Redirect, Reclaim, ReclaimAck, LabelRange, Error, PacketFault, EncapsFault, packet_flow, protocol_of, source_of, control_protocol, default_unwrapped, unwrapped, ifmp_of, ifmp_in, at, counts, counts_by, counts_flow, label_for, lowest_spare, counted_once, packets_in, has_room, with_session, wires, used, hears, Linked, linked_at, port_key, begins, at_port, gsmp_holds, forwards_packet, IsLinkPort, ifmp_holds, counted_at, packet_holds, default_holds, label_holds, ForGsmp, ForDefault, ForLabel, default_home}
use Rattle.world_model.specs.ipv4_packet.Packet.{first_fault}
use Rattle.world_model.specs.ifmp_wire.Fields.{decoded as ifmp_decoded}
use Rattle.world_model.specs.ifmp_wire.declared.message.Message.{Message}
use Rattle.world_model.specs.ifmp_wire.declared.message.Message.TheVariants.{Adjacency}
use Rattle.world_model.specs.ifmp_wire.declared.reader.Fault.{Fault}
use Rattle.world_model.specs.gsmp_wire.Fields.{decoded as gsmp_decoded}
use Rattle.world_model.specs.gsmp_wire.declared.message.Message.{Message as GsmpMessage}
use Rattle.world_model.specs.gsmp_wire.declared.fault.Fault.{Fault as GsmpFault}
use Rattle.world_model.specs.Ways.{ok_of}
use Rattle.world_model.specs.Controller.{Acted}
use Rattle.world_model.specs.Gsmp.{message_comes}
use Rattle.world_model.proofs.Lists.{by_eq}
use Rattle.law_live_woken_links.specs.law_port_facts.ordered_lists.Ordered.{Every}
use Rattle.law_live_woken_links.proofs.law_port_facts.Keyed.{on_both, at_key}
use Rattle.law_live_woken_links.specs.law_frame_readings.Reading.{IsForwarded}
use Rattle.law_live_woken_links.specs.law_live_orders.Law.{last_marks}
use Rattle.law_live_woken_links.specs.law_live_orders.Messages.{HoldsNone}
use Rattle.law_live_others.proofs.Holding.{SameWork, forwards_same}
use Rattle.law_live_numbers.specs.Law.{work_as, work_by, work_at}
use Rattle.law_live_woken_links.proofs.law_live_sending.Going.{Goes, Sends}
use Rattle.law_live_unsaid.specs.Law.{SaysNone, IsHushed, SendsByLabels, HoldsPacket}
use Rattle.law_live_unsaid.proofs.Unanswered.{frames_say_none, forwarded_say_none}
use Rattle.law_live_woken_links.specs.law_live_waking_links.Hellos.{Greet, none, passed}
use Rattle.law_live_woken_links.specs.law_live_tables.Switches.{SwitchLeaves, HearsSwitch}
use Rattle.law_live_woken_links.specs.law_live_tables.Switches as switches
use Rattle.law_live_woken_links.proofs.law_live_tables.Plain.{IsOther, counting, using}
use Rattle.law_live_woken_links.proofs.law_live_tables.Plain as plain
use Rattle.law_live_woken_links.proofs.law_live_tables.Leaving.{Change, same, anew, LeftBy, IsUp, Leaves}
use Rattle.law_live_woken_links.proofs.law_live_tables.Working.{note_leaves, plain_at, rule_leaves}
use Rattle.law_live_woken_links.proofs.law_live_tables.Ticking.{hellos_none}
use Rattle.law_live_woken_links.proofs.law_live_tables.Greeting.{said_greets}
use Rattle.law_live_woken_links.proofs.law_live_tables.Heard.{switches_are_heard}
use Rattle.law_link_tables.specs.Law.{IsLeft, stays, is_cleared, began, LeavesPort, IsKept, OtherFramesLeavePorts, EntriesLeavePorts}
use Rattle.law_link_tables.proofs.Greeted.{takes_other, hears_instances}

-- *A frame without a message* greets nobody
none_greet : (address : Addr) (frames : List Frame) (marks : List Mark) → Every (HoldsNone frames) marks → Greet address frames marks []
none_greet address frames [] each = none
none_greet address frames (mark ∷ marks) each =
    passed mark (record { payload = each.0.payload; made = each.0.made; unread = λ hello e. absurd (cc (sym each.0.no_message ∙ e)) }) (none_greet address frames marks each.1)

-- *A packet that is counted* asks for a label at most
counts_hushed : (a : Acted) (linked : Linked) (packet : List ℕ) → Every IsHushed (counts linked.setup a.controller.desk (begins a linked) packet).actions
counts_hushed a linked packet = by linked.port.session (packet_flow packet)
  where
    Hushed : Work → Type 0
    Hushed w = Every IsHushed w.actions

    by_label : (s : Session) (flow : FlowId) (o : Option Label) → Hushed (counts_flow linked.setup a.controller.desk (begins a linked) s flow o)
    by_label s flow (Some label) = tt
    by_label s flow None =
        let next : Session = record s { counted = counted_once s.counted flow } in
        let held : Work = with_session (begins a linked) (λ old. next) in
        on_both Hushed (linked.setup.policy.offers flow (packets_in next.counted flow) && has_room a.controller.desk held) (wires linked.setup held flow (lowest_spare linked.setup next.least next.greatest next.labels)) held
        (wired next (lowest_spare linked.setup next.least next.greatest next.labels)) tt
      where
        wired : (next : Session) (o : Option ℕ) → Hushed (wires linked.setup (with_session (begins a linked) (λ old. next)) flow o)
        wired next None = tt
        wired next (Some number) = (tt, tt)

    by : (o : Option Session) (flow : Option FlowId) → Hushed (counts_by linked.setup a.controller.desk (begins a linked) o flow)
    by None flow = tt
    by (Some s) None = tt
    by (Some s) (Some flow) = by_label s flow (label_for s.labels flow)

-- *The side alone*
record LeavesSide (port : PortNo) (given : ℕ) (linked : Linked) (b : Acted) : Type 0 where
  now : Linked
  is : linked_at b.controller port ≡ Some now
  side : IsLeft given linked.port.adjacency now.port.adjacency

changed : (given : ℕ) (side now : Side Peer) → Change given side now → IsLeft given side now
changed given side _ same = stays
changed given side _ (anew own more) = began _ more

switched : (given : ℕ) (side now : Side Peer) → SwitchLeaves given side now → IsLeft given side now
switched given side _ switches.stays = stays
switched given side _ switches.is_cleared = is_cleared
switched given side _ (switches.began now more) = began now more

module _ (port : PortNo) (link_is : IsLinkPort port) (a : Acted) (linked : Linked) (found : linked_at a.controller port ≡ Some linked) where
  abbrev Left : Acted → Type 0
  Left b = LeavesPort port a b (IsLeft a.numbers.instances linked.port.adjacency) []

  from_leaves : (b : Acted) → Leaves port link_is.0 a b → IsKept a b → Left b
  from_leaves b l kept =
      let x : LeftBy (Change a.numbers.instances) linked (linked_at b.controller port) = l.does.left kept.up_then linked found in
      let g : Goes (default_home port).channel a b l.messages = l.does.goes kept.up_then in
      let none_lost : g.entries ≡ [] = append_cancel_left a.notes.entries g.entries [] (sym g.grown ∙ (kept.unlost ∙ sym (append-nil a.notes.entries))) in
      let s : Sends (default_home port).channel a b l.messages = g.sends none_lost in
      record {
        now = x.now;
        is = x.is;
        side = changed a.numbers.instances linked.port.adjacency x.now.port.adjacency x.side;
        later = s.more;
        queue = s.queue;
        greets = said_greets a.controller.address b.notes.frames (last_marks (default_home port).channel s.more) l.messages [] s.said (hellos_none l.messages l.others) tt;
      }

  -- what begins with the same ports
  side_of : (b0 b : Acted) → b0.controller.ports ≡ a.controller.ports → b0.numbers.instances ≡ a.numbers.instances → Leaves port link_is.0 b0 b → IsUp b → LeavesSide port a.numbers.instances linked b
  side_of b0 b ports instances l up =
      let x : LeftBy (Change b0.numbers.instances) linked (linked_at b.controller port) = l.does.left up linked (ap (at port_key port.0) ports ∙ found) in
      record {
        now = x.now;
        is = x.is;
        side = subst (λ (n : ℕ). IsLeft n linked.port.adjacency x.now.port.adjacency) instances (changed b0.numbers.instances linked.port.adjacency x.now.port.adjacency x.side);
      }

  with_none : (b : Acted) → LeavesSide port a.numbers.instances linked b → SaysNone port a b → Left b
  with_none b side s = record {
    now = side.now;
    is = side.is;
    side = side.side;
    later = s.later;
    queue = s.queue;
    greets = none_greet a.controller.address b.notes.frames (last_marks (default_home port).channel s.later) s.none;
  }

  -- *Of the switch*
  gsmp_left : (r : Result GsmpMessage GsmpFault) → IsKept a (gsmp_holds a r) → Left (gsmp_holds a r)
  gsmp_left (Err fault) kept = from_leaves (gsmp_holds a (Err fault)) (note_leaves port link_is.0 a _) kept
  gsmp_left (Ok message) kept =
      let h : HearsSwitch port a (message_comes a message) linked = switches_are_heard port a message linked link_is found kept.up kept.up_then kept.unlost in
      record {
        now = h.now;
        is = h.is;
        side = switched a.numbers.instances linked.port.adjacency h.now.port.adjacency h.side;
        later = h.later;
        queue = h.queue;
        greets = h.greets_nobody;
      }

  low : (m n : ℕ) → n ≡ m → m ≤ n
  low m n e = omega (arith, e)

  -- *On a default channel*
  module _ (labels : SendsByLabels a.controller) (mark : Mark) (marked : mark.packet ≡ 0 → 0 < mark.frame) where
    module _ (owner : Linked) (payload : List ℕ) (unread : owner.setup.port.0 ≡ port.0 → (hello : Hello) → ifmp_of payload ≢ Some (Adjacency hello)) where
      abbrev q : PortNo
      q = owner.setup.port

      -- a message
      module _ (packet : List ℕ) (e : default_unwrapped payload ≡ Ok packet) where
        other_is : (control : (protocol_of packet == control_protocol) ≡ true) (message : Message) → ifmp_decoded (drop 20 packet) ≡ Ok message → q.0 ≡ port.0 → IsOther message
        other_is control (Adjacency hello) m own = unread own hello
            (ap (λ (r : Result (List ℕ) EncapsFault). option_and_then ifmp_in (ok_of r)) e
            ∙ (ap (λ (b : Bool). if b then ok_of (ifmp_decoded (drop 20 packet)) else None) control
            ∙ ap (λ (r : Result Message Fault). ok_of r) m))
        other_is control (Redirect sender peer number lifetime channel flow) m own = tt
        other_is control (Reclaim sender peer number channel flow) m own = tt
        other_is control (ReclaimAck sender peer number channel flow) m own = tt
        other_is control (LabelRange sender peer number least greatest) m own = tt
        other_is control (Error sender peer number code channel) m own = tt

        message_left : (r : Result Message Fault) → ((message : Message) → r ≡ Ok message → q.0 ≡ port.0 → IsOther message) → IsKept a (ifmp_holds a q packet r) → Left (ifmp_holds a q packet r)
        message_left (Err fault) other kept = from_leaves (ifmp_holds a q packet (Err fault)) (note_leaves port link_is.0 a _) kept
        message_left (Ok message) other kept = by_eq q.0 port.0
            (λ own t. subst (λ (p : PortNo). IsKept a (heard_at_port p) → Left (heard_at_port p)) (sym (own_port own)) (λ k. takes_other port link_is.0 a linked found (source_of packet) message (other message refl own) k) kept)
            (λ apart t. from_leaves (heard_at_port q) (rule_leaves port link_is.0 a q (λ setup desk w. hears setup desk w (source_of packet) message)
            (λ l is. record {
              given = low a.numbers.instances (hears l.setup a.controller.desk (begins a l) (source_of packet) message).instances (hears_instances a l (source_of packet) message);
              own = λ k. absurd (apart (sym (at_key port_key q.0 a.controller.ports l is) ∙ k));
            })) kept)
          where
            heard_at_port : PortNo → Acted
            heard_at_port p = at_port a p (λ setup desk w. hears setup desk w (source_of packet) message)

            own_port : q.0 ≡ port.0 → q ≡ port
            own_port own = λ i. record { 0 = own i }

      frame_left : (r : Result (List ℕ) EncapsFault) → default_unwrapped payload ≡ r → IsKept a (default_holds a q mark r) → Left (default_holds a q mark r)
      frame_left (Err fault) e kept = from_leaves (default_holds a q mark (Err fault)) (note_leaves port link_is.0 a _) kept
      frame_left (Ok packet) e kept = by_fault (first_fault packet) refl kept
        where
          by_tests : Bool → Acted
          by_tests b = if b then ifmp_holds a q packet (ifmp_decoded (drop 20 packet)) else counted_at (forwards_packet a mark packet) q packet

          by_protocol : first_fault packet ≡ None → (b : Bool) → (protocol_of packet == control_protocol) ≡ b → IsKept a (by_tests b) → Left (by_tests b)
          by_protocol whole true p kept = message_left packet e (ifmp_decoded (drop 20 packet)) (λ message m own. other_is packet e p message m own) kept
          by_protocol whole false p kept =
              let same_work : SameWork a (forwards_packet a mark packet) = forwards_same a mark packet in
              let is : default_holds a q mark (default_unwrapped payload) ≡ counted_at (forwards_packet a mark packet) q packet =
              ap (λ (r : Result (List ℕ) EncapsFault). default_holds a q mark r) e
              ∙ (ap (λ (o : Option PacketFault). packet_holds a q mark packet o) whole ∙ ap by_tests p) in
              with_none (counted_at (forwards_packet a mark packet) q packet)
              (side_of (forwards_packet a mark packet) (counted_at (forwards_packet a mark packet) q packet) same_work.ports same_work.instances
              (rule_leaves port link_is.0 (forwards_packet a mark packet) q (λ setup desk w. counts setup desk w packet)
              (λ l found_l. plain_at port link_is.0 l (forwards_packet a mark packet) (counts l.setup (forwards_packet a mark packet).controller.desk (begins (forwards_packet a mark packet) l) packet)
              (counting ⊥ (begins (forwards_packet a mark packet) l) l.setup (forwards_packet a mark packet).controller.desk (begins (forwards_packet a mark packet) l) packet
              (plain.begins ⊥ (begins (forwards_packet a mark packet) l)))))
              kept.up_then)
              (subst (SaysNone port a) is
              (frames_say_none port a (ForDefault owner) mark payload link_is labels marked
              (λ own l found_l. subst (λ (r : Result (List ℕ) EncapsFault). Every IsHushed (work_at a l r).actions) (sym e)
              (subst (λ (o : Option PacketFault). Every IsHushed (work_by a l packet o).actions) (sym whole)
              (subst (λ (b : Bool). Every IsHushed (work_as a l packet b).actions) (sym p) (counts_hushed a l packet))))))

          by_fault : (o : Option PacketFault) → first_fault packet ≡ o → IsKept a (packet_holds a q mark packet o) → Left (packet_holds a q mark packet o)
          by_fault (Some fault) whole kept = from_leaves (packet_holds a q mark packet (Some fault)) (note_leaves port link_is.0 a _) kept
          by_fault None whole kept = by_protocol whole (protocol_of packet == control_protocol) refl kept

    -- *On the channel of a label*
    label_left : (owner : Linked) (label : Label) (payload : List ℕ) → HoldsPacket label payload → (r : Result (List ℕ) EncapsFault) → unwrapped label.flow payload ≡ r
        → IsKept a (label_holds a owner label mark r) → Left (label_holds a owner label mark r)
    label_left owner label payload holds (Err fault) e kept = from_leaves (label_holds a owner label mark (Err fault)) (note_leaves port link_is.0 a _) kept
    label_left owner label payload holds (Ok packet) e kept =
        let same_work : SameWork a (forwards_packet a mark packet) = forwards_same a mark packet in
        let b : Acted = label_holds a owner label mark (Ok packet) in
        with_none b
        (side_of (forwards_packet a mark packet) b same_work.ports same_work.instances
        (rule_leaves port link_is.0 (forwards_packet a mark packet) owner.setup.port (λ setup desk w. used w label.number)
        (λ l found_l. plain_at port link_is.0 l (forwards_packet a mark packet) (used (begins (forwards_packet a mark packet) l) label.number)
        (using ⊥ (begins (forwards_packet a mark packet) l) (begins (forwards_packet a mark packet) l) label.number (plain.begins ⊥ (begins (forwards_packet a mark packet) l)))))
        kept.up_then)
        (subst (SaysNone port a) (ap (λ (r : Result (List ℕ) EncapsFault). label_holds a owner label mark r) e)
        (frames_say_none port a (ForLabel owner label) mark payload link_is labels marked holds))

    -- *A packet that is sent on*, as one that enters
    entry_left : (packet : List ℕ) → IsForwarded packet → Left (forwards_packet a mark packet)
    entry_left packet is =
        let same_work : SameWork a (forwards_packet a mark packet) = forwards_same a mark packet in
        with_none (forwards_packet a mark packet) (record { now = linked; is = ap (at port_key port.0) same_work.ports ∙ found; side = stays })
        (forwarded_say_none port a mark packet link_is labels marked is)

pub others_leave : OtherFramesLeavePorts
others_leave port a ForGsmp mark payload linked link labels marked found greets kept = gsmp_left port link a linked found (gsmp_decoded payload) kept
others_leave port a (ForDefault q) mark payload linked link labels marked found greets kept =
    frame_left port link a linked found labels mark marked q payload greets (default_unwrapped payload) refl kept
others_leave port a (ForLabel q label) mark payload linked link labels marked found greets kept =
    label_left port link a linked found labels mark marked q label payload greets (unwrapped label.flow payload) refl kept

pub entries_leave : EntriesLeavePorts
entries_leave port a number packet linked link labels some found is = entry_left port link a linked found labels (record { packet = number; frame = 0 }) (λ e. absurd (not_none number e some)) packet is
  where
    not_none : (n : ℕ) → n ≡ 0 → 0 < n → ⊥
    not_none n e less = absurd (omega (arith, e, less))
