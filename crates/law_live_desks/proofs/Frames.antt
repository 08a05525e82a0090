-- a controller hears what the switch says, takes frames and cells, and ticks: what stands at its desk then was there before, or its
-- frame stands in its queue

use Rattle.std.proofs.Common.{◌≡◌, ◌≢◌, ℕ, ◌<◌, Bool, false, List, [], ◌∷◌, drop, Option, None, Some, Result, Ok, Err, refl, sym, subst, arith}
use Rattle.std.specs.Prelude.{◌==◌, nat_lt, not}
use Rattle.std.proofs.lemmas.Bool.Decides.{nat_tests}
use Rattle.world_model.specs.Words.{PortNo, Channel, Mark, Cell, Standing, Answered, Unknown, Done, Ports, Failed, answered, after_answer, gsmp_received, protocol_of, source_of, PacketFault, EncapsFault, hop_of, onward, Hop, Here, On, kind_of, default_payload, default_unwrapped, labelled_payload, unwrapped, next_mark, last_mark, payload_in, tested_by, hears, counts, used, Label, Grant, control_end, Desk, Linked, default_home, with_desk, sends_control, is_control, sends_next, goes_by, grant_by, forwards_packet, control_protocol, gsmp_holds, ForGsmp, ForDefault, ForLabel, taker_of, reassembly_of, with_reassembly, takes_cell, label_holds, ifmp_holds, counted_at, packet_holds, default_holds, frame_holds, Journal, Reassembly}
use Rattle.world_model.specs.Cells.{Taker, after_test, ends_frame, cell_comes}
use Rattle.world_model.specs.ipv4_packet.Packet.{first_fault}
use Rattle.world_model.specs.ipv4_forward.declared.outcome.Hop.TheVariants.{NoRoute, Expired}
use Rattle.world_model.specs.ifmp_wire.declared.message.Message.{Message as IfmpMessage}
use Rattle.world_model.specs.ifmp_wire.declared.reader.Fault.{Fault as IfmpFault}
use Rattle.world_model.specs.ifmp_wire.Fields.{decoded as ifmp_decoded}
use Rattle.world_model.specs.gsmp_wire.declared.fault.Fault.{Fault}
use Rattle.world_model.specs.gsmp_wire.declared.message.Message.{Message}
use Rattle.world_model.specs.gsmp_wire.declared.message.Message.TheVariants.{Adjacency, Branch, Move, Port, AllPorts}
use Rattle.world_model.specs.gsmp_wire.Fields.{decoded}
use Rattle.world_model.specs.frame_model.Frame.{octets_of}
use Rattle.world_model.specs.frame_model.Reassembly.{Taken, taken}
use Rattle.world_model.specs.Controller.{Acted, free_slots}
use Rattle.world_model.specs.Sending.{sends}
use Rattle.world_model.specs.Packets.{forwarded}
use Rattle.world_model.specs.Gsmp.{message_comes}
use Rattle.law_port_facts.specs.ordered_lists.Ordered.{Every}
use Rattle.law_port_facts.proofs.ordered_lists.Parts.{part_filtered, every_part}
use Rattle.law_port_facts.proofs.Keyed.{on_both, on_each}
use Rattle.law_actor_pace.proofs.Cells.{ended_last}
use Rattle.law_live_desks.proofs.Standing.{same_packet, each_begins}
use Rattle.law_live_desks.proofs.Ledger.{AtLeast, tested_more, taken_more}
use Rattle.law_live_desks.proofs.Walks.{Goes, noted_kept, sent_kept, control_kept, rule_kept, answer_kept, steps_kept}

-- *A mark* that isn't a control mark is a packet's
abbrev pub IsMarked : Mark → Type 0
IsMarked mark = mark.packet ≡ 0 → 0 < mark.frame

not_control : (came : Mark) → IsMarked came → is_control came ≡ false → came.packet ≢ 0
not_control came marked other none = absurd (above (marked none))
  where
    above : 0 < came.frame → ⊥
    above some = grind (arith, nat_tests, none, some, other)

-- *Fewer stand* when the desk has taken an answer
pub answered_part : (P : Standing → Type 0) (desk : Desk) (answer : Answered) → Every P desk.standing → Every P (after_answer desk answer).standing
answered_part P desk Unknown h = h
answered_part P desk (Done s) h = every_part P (part_filtered (λ (other : Standing). not (other.number == s.number)) desk.standing) h
answered_part P desk (Ports s rows) h = every_part P (part_filtered (λ (other : Standing). not (other.number == s.number)) desk.standing) h
answered_part P desk (Failed s code) h = every_part P (part_filtered (λ (other : Standing). not (other.number == s.number)) desk.standing) h

module _ (Old : Standing → Type 0) (entries : ℕ) where
  abbrev Now : Acted → Type 0
  Now a = Goes Old entries a

  -- *An event begins*
  pub begins_so : (a : Acted) → Every Old a.controller.desk.standing → AtLeast entries a.notes → Now a
  begins_so a old more = record { grown = more; each = λ e. each_begins Old a.controller.desk a.controller.queue a.notes.frames a.numbers.controls old }

  -- *The switch says* something, where what the desk leaves standing was there before
  pub told_kept : (a : Acted) (message : Message) → Now (with_desk a (after_answer a.controller.desk (answered a.controller.desk message))) → Now (message_comes a message)
  told_kept a (Adjacency greeting) h = steps_kept Old entries a (gsmp_received a.controller.adjacency greeting) (record { grown = h.grown; each = h.each })
  told_kept a (Branch kind result code number session input_port input output_port output count priority) h = answer_kept Old entries _ _ h
  told_kept a (Move result code number session input_port input output_port output target_port target count priority) h = answer_kept Old entries _ _ h
  told_kept a (Port result code number port session function) h = answer_kept Old entries _ _ h
  told_kept a (AllPorts result code number rows) h = answer_kept Old entries _ _ h

  -- *A packet goes on*
  module _ (came : Mark) (marked : IsMarked came) where
    next_kept : (a : Acted) (channel : Channel) (payload : List ℕ) → Now a → Now (sends_next a came channel payload)
    next_kept a channel payload h = on_each Now (is_control came) (sends_control a channel payload) (sends a channel (next_mark came) payload)
        (λ control. control_kept Old entries a channel payload h)
        (λ other. sent_kept Old entries a a.numbers channel (next_mark came) payload (omega arith) (same_packet a.notes.frames a.numbers.controls (next_mark came) payload (not_control came marked other)) h)

    goes_by_kept : (a : Acted) (port : PortNo) (packet : List ℕ) (o : Option Grant) → Now a → Now (goes_by a came port packet o)
    goes_by_kept a port packet None h = next_kept a (default_home port).channel (default_payload packet) h
    goes_by_kept a port packet (Some grant) h = next_kept a (control_end port grant.label).channel (labelled_payload (kind_of grant.flow) packet) h

    hop_kept : (a : Acted) (packet : List ℕ) (hop : Hop) → Now a → Now (forwarded a came packet hop)
    hop_kept a packet Here h = noted_kept Old entries a _ h
    hop_kept a packet NoRoute h = noted_kept Old entries a _ h
    hop_kept a packet Expired h = noted_kept Old entries a _ h
    hop_kept a packet (On port) h = goes_by_kept a port (onward packet) (grant_by a.controller port (onward packet)) h

    forwards_kept : (a : Acted) (packet : List ℕ) → Now a → Now (forwards_packet a came packet)
    forwards_kept a packet h = hop_kept a packet (hop_of a.controller.table packet) h

    -- *A frame of a port*
    ifmp_frame : (a : Acted) (port : PortNo) (packet : List ℕ) (r : Result IfmpMessage IfmpFault) → Now a → Now (ifmp_holds a port packet r)
    ifmp_frame a port packet (Err fault) h = noted_kept Old entries a _ h
    ifmp_frame a port packet (Ok message) h = rule_kept Old entries a port (λ setup desk w. hears setup desk w (source_of packet) message) h

    packet_frame : (a : Acted) (port : PortNo) (packet : List ℕ) (o : Option PacketFault) → Now a → Now (packet_holds a port came packet o)
    packet_frame a port packet (Some fault) h = noted_kept Old entries a _ h
    packet_frame a port packet None h = on_both Now (protocol_of packet == control_protocol) (ifmp_holds a port packet (ifmp_decoded (drop 20 packet))) (counted_at (forwards_packet a came packet) port packet)
        (ifmp_frame a port packet (ifmp_decoded (drop 20 packet)) h)
        (rule_kept Old entries (forwards_packet a came packet) port (λ setup desk w. counts setup desk w packet) (forwards_kept a packet h))

    default_frame : (a : Acted) (port : PortNo) (r : Result (List ℕ) EncapsFault) → Now a → Now (default_holds a port came r)
    default_frame a port (Err fault) h = noted_kept Old entries a _ h
    default_frame a port (Ok packet) h = packet_frame a port packet (first_fault packet) h

    label_frame : (a : Acted) (linked : Linked) (label : Label) (r : Result (List ℕ) EncapsFault) → Now a → Now (label_holds a linked label came r)
    label_frame a linked label (Err fault) h = noted_kept Old entries a _ h
    label_frame a linked label (Ok packet) h = rule_kept Old entries (forwards_packet a came packet) linked.setup.port (λ setup desk w. used w label.number) (forwards_kept a packet h)

    gsmp_frame : (a : Acted) (r : Result Message Fault) → Every Old a.controller.desk.standing → AtLeast entries a.notes → Now (gsmp_holds a r)
    gsmp_frame a (Err fault) old more = noted_kept Old entries a _ (begins_so a old more)
    gsmp_frame a (Ok message) old more = told_kept a message (begins_so (with_desk a (after_answer a.controller.desk (answered a.controller.desk message))) (answered_part Old a.controller.desk (answered a.controller.desk message) old) more)

    frame_kept : (a : Acted) (taker : Taker) (payload : List ℕ) → Every Old a.controller.desk.standing → AtLeast entries a.notes → Now (frame_holds a taker came payload)
    frame_kept a ForGsmp payload old more = gsmp_frame a (decoded payload) old more
    frame_kept a (ForDefault linked) payload old more = default_frame a linked.setup.port (default_unwrapped payload) (begins_so a old more)
    frame_kept a (ForLabel linked label) payload old more = label_frame a linked label (unwrapped label.flow payload) (begins_so a old more)

  -- *A cell* is gathered, and ends a frame
  gathered_so : (a : Acted) (notes : Journal) (taker : Taker) (r : Reassembly) → let b : Acted = with_reassembly (record a { notes = notes }) taker r in
      (b.controller.desk ≡ a.controller.desk) × (b.notes ≡ notes)
  gathered_so a notes ForGsmp r = (refl, refl)
  gathered_so a notes (ForDefault linked) r = (refl, refl)
  gathered_so a notes (ForLabel linked label) r = (refl, refl)

  module _ (taker : Taker) (b : Acted) (old : Every Old b.controller.desk.standing) (more : AtLeast entries b.notes) where
    tests : (mark : Mark) → IsMarked mark → (cells : List Cell) (o : Option (List ℕ)) → Now (after_test b taker mark (tested_by b.notes cells o))
    tests mark marked cells None = begins_so (record b { notes = (tested_by b.notes cells None).notes }) old (tested_more entries b.notes cells None more)
    tests mark marked cells (Some payload) = frame_kept mark marked (record b { notes = (tested_by b.notes cells (Some payload)).notes }) taker payload old (tested_more entries b.notes cells (Some payload) more)

    ends : (cells : List Cell) → ((first : Cell) (rest : List Cell) → cells ≡ first ∷ rest → IsMarked (last_mark (first ∷ rest))) → Now (ends_frame b taker cells)
    ends [] marked = begins_so b old more
    ends (first ∷ rest) marked = tests (last_mark (first ∷ rest)) (marked first rest refl) (first ∷ rest) (payload_in (octets_of (first ∷ rest)))

  pub cell_kept : (a : Acted) (cell : Cell) → IsMarked cell.mark → Every Old a.controller.desk.standing → AtLeast entries a.notes → Now (cell_comes a cell)
  cell_kept a cell marked old more = by (taker_of a.controller cell.header.channel)
    where
      by : (o : Option Taker) → Now (takes_cell a cell o)
      by None = noted_kept Old entries a _ (begins_so a old more)
      by (Some taker) =
          let slot : Bool = nat_lt 0 (free_slots a.controller) in
          let r : Reassembly = reassembly_of a.controller taker in
          let t : Taken = taken a.notes slot r cell in
          let so = gathered_so a t.notes taker t.reassembly in
          ends taker (with_reassembly (record a { notes = t.notes }) taker t.reassembly)
          (subst (λ (d : Desk). Every Old d.standing) (sym so.0) old) (subst (AtLeast entries) (sym so.1) (taken_more entries a.notes slot r cell more)) t.ended
          (λ first rest e. subst IsMarked (sym (ended_last a.notes slot r cell first rest e)) marked)
