-- a cell of another channel than GSMP's comes to the controller: nothing to the line of an input, but what the port asks

use Rattle.std.proofs.Common.{◌≡◌, ℕ, Bool, true, false, not, List, [], ◌∷◌, ◌++◌, length, drop, Option, None, Some, Result, Ok, Err, refl, sym, subst, arith, if◌then◌else◌}
use Rattle.std.specs.Prelude.{◌==◌, nat_le, nat_lt}
use Rattle.std.specs.Option.{option_and_then}
use Rattle.law_input_premises.specs.world_model.Words.{PortNo, Mark, label_number_of, protocol_of, source_of, PacketFault, Cell, IsLinkPort, EncapsFault, default_unwrapped, unwrapped, Unbound, Bad, Loss, Journal, encaps_refusal, packet_refusal, ifmp_refusal, last_mark, payload_in, Tested, tested, Reassembly, most_cells, passed_over, without_slot, too_long, Setup, Label, is_bound, label_at, counts, used, hears, Linked, linked_at, chains_with, default_channel, begins, forwards_packet, control_protocol, Rule, at_port, ForGsmp, ForDefault, ForLabel, port_on, on_link, same_channel, label_taker, taker_at, reassembly_of, with_reassembly, label_holds, ifmp_holds, counted_at, packet_holds, default_holds, frame_holds, takes_cell}
use Rattle.law_input_premises.specs.world_model.ipv4_packet.Packet.{first_fault}
use Rattle.law_input_premises.specs.world_model.ifmp_wire.declared.message.Message.{Message}
use Rattle.law_input_premises.specs.world_model.ifmp_wire.declared.reader.Fault.{Fault}
use Rattle.law_input_premises.specs.world_model.ifmp_wire.Fields.{decoded as ifmp_decoded}
use Rattle.law_input_premises.specs.world_model.link_model.declared.record.Layer.TheVariants as layers
use Rattle.law_input_premises.specs.world_model.frame_model.Frame.{octets_of}
use Rattle.law_input_premises.specs.world_model.frame_model.Reassembly.{Taken, taken, cell_joined}
use Rattle.law_input_premises.specs.ordered_lists.Ordered.{Every}
use Rattle.law_input_premises.specs.law_port_facts.Port.{Lives}
use Rattle.law_input_premises.proofs.law_port_facts.Hearings.{hears_goes}
use Rattle.law_input_premises.proofs.law_port_facts.Keyed.{on_both, on_each}
use Rattle.law_input_premises.proofs.law_port_facts.Steps.{Goes}
use Rattle.law_input_premises.proofs.law_port_facts.Rules.{counts_goes, used_goes}
use Rattle.law_input_premises.specs.world_model.Controller.{Acted, free_slots}
use Rattle.law_input_premises.specs.world_model.Cells.{Taker, opened_frame, ends_frame, cell_comes}
use Rattle.law_input_premises.proofs.law_controller_facts.Lifetimes.{decoded_lives}
use Rattle.law_input_premises.proofs.law_controller_facts.Moves.{Found, found_at_own, found_port}
use Rattle.law_input_premises.proofs.law_controller_facts.Laws.{has_ports}
use Rattle.law_input_premises.proofs.law_controller.Whole.{Whole, numbered_whole, chained_whole}
use Rattle.law_input_premises.proofs.law_controller.Events.{routes_holds}
use Rattle.law_input_premises.proofs.law_shown_cells.Tested.{last_is, taken_frames, tested_frames}
use Rattle.law_input_premises.proofs.law_input_steps.Resets.{IsStill, note_still}
use Rattle.law_input_premises.specs.Read.{AreRead}
use Rattle.law_input_premises.proofs.Releasing.{read_on}
use Rattle.law_input_events.specs.Coming.{IsNext, GoesByLinks}
use Rattle.law_input_events.proofs.Packets.{routes_rows}

-- a judgement of what a controller leaves, that goes on, and is so of what is nothing to it, of each rule of a port, and of
-- a packet that is sent on
pub record IsKept (setups : List Setup) (From : Acted → Acted → Type 0) : Type 0 where
  pub self : (a : Acted) → From a a
  pub on : (a b c : Acted) → From a b → From b c → From a c
  pub still : (a b : Acted) → IsStill a b → From a b
  pub ruled : (a : Acted) (port : PortNo) (rule : Rule)
      → ((linked : Linked) → linked_at a.controller port ≡ Some linked → Goes linked.setup a.controller.desk (begins a linked) (rule linked.setup a.controller.desk (begins a linked)))
      → AreRead setups a.controller.desk.rows → Whole setups a → From a (at_port a port rule)
  pub routed : (a : Acted) (mark : Mark) (packet : List ℕ) → GoesByLinks a.controller → IsNext a.notes.frames mark → From a (forwards_packet a mark packet)

module _ (setups : List Setup) (links : Every (λ (setup : Setup). IsLinkPort setup.port) setups) (From : Acted → Acted → Type 0) (j : IsKept setups From) where
  -- what is so of the controller when a frame acts
  record Acts (a : Acted) (mark : Mark) : Type 0 where
    whole : Whole setups a
    reads : AreRead setups a.controller.desk.rows
    next : IsNext a.notes.frames mark
    by_links : GoesByLinks a.controller

  by_still : (a b : Acted) → IsStill a b → From a b
  by_still a b s = j.still a b s

  -- *Frames*
  routed : (a : Acted) (mark : Mark) (packet : List ℕ) → Acts a mark → From a (forwards_packet a mark packet)
  routed a mark packet h = j.routed a mark packet h.by_links h.next

  counted : (a : Acted) (port : PortNo) (mark : Mark) (packet : List ℕ) → Acts a mark → From a (counted_at (forwards_packet a mark packet) port packet)
  counted a port mark packet h =
      let b : Acted = forwards_packet a mark packet in
      let w : Whole setups b = routes_holds setups links a mark packet h.whole in
      j.on a b (counted_at b port packet) (routed a mark packet h)
      (j.ruled b port (λ setup desk v. counts setup desk v packet)
      (λ linked found. counts_goes linked.setup b.controller.desk (begins b linked) packet (found_port setups b linked port (has_ports setups b w.sound) found).ascend)
      (read_on setups a b (routes_rows a mark packet) h.reads) w)

  heard : (a : Acted) (port : PortNo) (mark : Mark) (packet : List ℕ) (r : Result Message Fault) → ((message : Message) → r ≡ Ok message → Lives message) → Acts a mark → From a (ifmp_holds a port packet r)
  heard a port mark packet (Err fault) lives h = by_still a (ifmp_holds a port packet (Err fault)) (note_still a (Bad a.controller.node layers.Ifmp (ifmp_refusal fault)))
  heard a port mark packet (Ok message) lives h = j.ruled a port (λ setup desk w. hears setup desk w (source_of packet) message)
      (λ linked found. hears_goes linked.setup a.controller.desk (begins a linked) (source_of packet) message refl (lives message refl)) h.reads h.whole

  packet_leads : (a : Acted) (port : PortNo) (mark : Mark) (packet : List ℕ) (o : Option PacketFault) → Acts a mark → From a (packet_holds a port mark packet o)
  packet_leads a port mark packet (Some fault) h = by_still a (packet_holds a port mark packet (Some fault)) (note_still a (Bad a.controller.node layers.Packet (packet_refusal fault)))
  packet_leads a port mark packet None h = on_both (From a) (protocol_of packet == control_protocol) (ifmp_holds a port packet (ifmp_decoded (drop 20 packet))) (counted_at (forwards_packet a mark packet) port packet)
      (heard a port mark packet (ifmp_decoded (drop 20 packet)) (decoded_lives (drop 20 packet)) h) (counted a port mark packet h)

  default_leads : (a : Acted) (port : PortNo) (mark : Mark) (r : Result (List ℕ) EncapsFault) → Acts a mark → From a (default_holds a port mark r)
  default_leads a port mark (Err fault) h = by_still a (default_holds a port mark (Err fault)) (note_still a (Bad a.controller.node layers.Encaps (encaps_refusal fault)))
  default_leads a port mark (Ok packet) h = packet_leads a port mark packet (first_fault packet) h

  label_leads : (a : Acted) (linked : Linked) (label : Label) (mark : Mark) (r : Result (List ℕ) EncapsFault) → Acts a mark → From a (label_holds a linked label mark r)
  label_leads a linked label mark (Err fault) h = by_still a (label_holds a linked label mark (Err fault)) (note_still a (Bad a.controller.node layers.Encaps (encaps_refusal fault)))
  label_leads a linked label mark (Ok packet) h =
      let b : Acted = forwards_packet a mark packet in
      let w : Whole setups b = routes_holds setups links a mark packet h.whole in
      j.on a b (label_holds a linked label mark (Ok packet)) (routed a mark packet h)
      (j.ruled b linked.setup.port (λ setup desk v. used v label.number)
      (λ other found. used_goes other.setup b.controller.desk (begins b other) label.number)
      (read_on setups a b (routes_rows a mark packet) h.reads) w)

  -- a taker that isn't GSMP's
  data IsOther (a : Acted) : Taker → Type 0 where
    default : (linked : Linked) → Found setups a linked → IsOther a (ForDefault linked)
    label : (linked : Linked) (held : Label) → Found setups a linked → IsOther a (ForLabel linked held)

  holds_leads : (a b : Acted) (taker : Taker) (mark : Mark) (payload : List ℕ) → IsOther a taker → Acts b mark → From b (frame_holds b taker mark payload)
  holds_leads a b taker mark payload (default linked found) h = default_leads b linked.setup.port mark (default_unwrapped payload) h
  holds_leads a b taker mark payload (label linked held found) h = label_leads b linked held mark (unwrapped held.flow payload) h

  -- *The tests* of a frame
  opened_leads : (a b : Acted) (taker : Taker) (mark : Mark) (o : Option (List ℕ)) → IsOther a taker → Acts b mark → From b (opened_frame b taker mark o)
  opened_leads a b taker mark None other h = j.self b
  opened_leads a b taker mark (Some payload) other h = holds_leads a b taker mark payload other h

  frames_still : (a : Acted) (notes : Journal) → notes.frames ≡ a.notes.frames → IsStill a (record a { notes = notes })
  frames_still a notes same = record { adjacency = refl; desk = refl; met = refl; gathered = refl; queue = refl; frames = same; controls = refl; instances = omega arith }

  tested_leads : (a b : Acted) (taker : Taker) (cell : Cell) (cells : List Cell) → IsOther a taker → Acts b (last_mark (cell ∷ cells)) → From b (ends_frame b taker (cell ∷ cells))
  tested_leads a b taker cell cells other h =
      let test : Tested = tested b.notes (cell ∷ cells) in
      let c : Acted = record b { notes = test.notes } in
      let same : test.notes.frames ≡ b.notes.frames = tested_frames b.notes (cell ∷ cells) (payload_in (octets_of (cell ∷ cells))) in
      j.on b c (ends_frame b taker (cell ∷ cells))
      (by_still b c (frames_still b test.notes same))
      (opened_leads a c taker (last_mark (cell ∷ cells)) test.payload other (record {
        whole = numbered_whole setups b test.notes h.whole;
        reads = h.reads;
        next = subst (λ (frames : List _). IsNext frames (last_mark (cell ∷ cells))) (sym same) h.next;
        by_links = h.by_links;
      }))

  -- *A chain* that ended is of the cell that came, which is a last one
  abbrev EndsIn : Cell → List Cell → Type 0
  EndsIn cell [] = Unit {0}
  EndsIn cell (x ∷ xs) = (last_mark (x ∷ xs) ≡ cell.mark) × (cell.header.last ≡ true)

  behind_ends : (cell : Cell) (chain : List Cell) → cell.header.last ≡ true → EndsIn cell (chain ++ cell ∷ [])
  behind_ends cell [] last = (last_is [] cell, last)
  behind_ends cell (x ∷ xs) last = (last_is (x ∷ xs) cell, last)

  taken_ends : (notes : Journal) (slot : Bool) (r : Reassembly) (cell : Cell) → EndsIn cell (taken notes slot r cell).ended
  taken_ends notes slot r cell = on_both Ends r.is_skipping (passed_over notes r cell) _ tt
      (on_both Ends (not slot) (without_slot notes r cell) _ tt
      (on_both Ends (nat_le most_cells (length r.chain)) (too_long notes r cell) (cell_joined notes r cell) tt
      (on_each Ends cell.header.last (record { reassembly = record r { chain = [] }; notes = notes; ended = r.chain ++ cell ∷ [] }) (record { reassembly = record r { chain = r.chain ++ cell ∷ [] }; notes = notes; ended = [] }) (behind_ends cell r.chain) (λ early. tt))))
    where
      Ends : Taken → Type 0
      Ends t = EndsIn cell t.ended

  ended_leads : (a b : Acted) (taker : Taker) (cell : Cell) (ended : List Cell) → EndsIn cell ended → IsOther a taker → (cell.header.last ≡ true → Acts b cell.mark) → From b (ends_frame b taker ended)
  ended_leads a b taker cell [] ends other h = j.self b
  ended_leads a b taker cell (x ∷ xs) ends other h = tested_leads a b taker x xs other (subst (Acts b) (sym ends.0) (h ends.1))

  -- *What its channel makes of it*
  gathered_still : (a b : Acted) (taker : Taker) (r : Reassembly) → IsOther a taker → IsStill b (with_reassembly b taker r)
  gathered_still a b taker r (default linked found) = record { adjacency = refl; desk = refl; met = refl; gathered = refl; queue = refl; frames = refl; controls = refl; instances = omega arith }
  gathered_still a b taker r (label linked held found) = record { adjacency = refl; desk = refl; met = refl; gathered = refl; queue = refl; frames = refl; controls = refl; instances = omega arith }

  gathered_acts : (a : Acted) (notes : Journal) (taker : Taker) (r : Reassembly) (mark : Mark) → notes.frames ≡ a.notes.frames → IsOther a taker → Acts a mark → Acts (with_reassembly (record a { notes = notes }) taker r) mark
  gathered_acts a notes taker r mark same (default linked found) h = record {
    whole = chained_whole setups (record a { notes = notes }) linked (record linked { reassembly = r }) found refl refl (numbered_whole setups a notes h.whole);
    reads = h.reads;
    next = subst (λ (frames : List _). IsNext frames mark) (sym same) h.next;
    by_links = h.by_links;
  }
  gathered_acts a notes taker r mark same (label linked held found) h = record {
    whole = chained_whole setups (record a { notes = notes }) linked (record linked { chains = chains_with linked.chains held.number r }) found refl refl (numbered_whole setups a notes h.whole);
    reads = h.reads;
    next = subst (λ (frames : List _). IsNext frames mark) (sym same) h.next;
    by_links = h.by_links;
  }

  after_leads : (a : Acted) (cell : Cell) (taker : Taker) → IsOther a taker → (cell.header.last ≡ true → Acts a cell.mark) → From a (takes_cell a cell (Some taker))
  after_leads a cell taker other h =
      let slot : Bool = nat_lt 0 (free_slots a.controller) in
      let t : Taken = taken a.notes slot (reassembly_of a.controller taker) cell in
      let b : Acted = record a { notes = t.notes } in
      let c : Acted = with_reassembly b taker t.reassembly in
      let same : t.notes.frames ≡ a.notes.frames = taken_frames a.notes slot (reassembly_of a.controller taker) cell in
      j.on a b (takes_cell a cell (Some taker)) (by_still a b (frames_still a t.notes same))
      (j.on b c (takes_cell a cell (Some taker)) (by_still b c (gathered_still a b taker t.reassembly other))
      (ended_leads a c taker cell t.ended (taken_ends a.notes slot (reassembly_of a.controller taker) cell) other (λ last. gathered_acts a t.notes taker t.reassembly cell.mark same other (h last))))

  -- *A cell* of another channel
  unbound : (a : Acted) (cell : Cell) → From a (takes_cell a cell None)
  unbound a cell = by_still a (takes_cell a cell None) (note_still a (Loss cell.mark Unbound))

  labelled : (a : Acted) (cell : Cell) (linked : Linked) (o : Option Label) → Found setups a linked → (cell.header.last ≡ true → Acts a cell.mark) → From a (takes_cell a cell (label_taker linked o))
  labelled a cell linked None found h = unbound a cell
  labelled a cell linked (Some held) found h = on_both (λ (o : Option Taker). From a (takes_cell a cell o)) (is_bound held.state) (Some (ForLabel linked held)) None (after_leads a cell (ForLabel linked held) (label linked held found) h) (unbound a cell)

  at_link : (a : Acted) (cell : Cell) (port : PortNo) (o : Option Linked) → linked_at a.controller port ≡ o → (cell.header.last ≡ true → Acts a cell.mark) → From a (takes_cell a cell (taker_at o (on_link cell.header.channel)))
  at_link a cell port None found h = unbound a cell
  at_link a cell port (Some linked) found h =
      let own : Found setups a linked = found_at_own setups a linked port found in
      on_both (λ (o : Option Taker). From a (takes_cell a cell o)) (same_channel (on_link cell.header.channel) default_channel) (Some (ForDefault linked)) (label_taker linked (option_and_then (label_at linked.port) (label_number_of (on_link cell.header.channel))))
      (after_leads a cell (ForDefault linked) (default linked own) h) (labelled a cell linked (option_and_then (label_at linked.port) (label_number_of (on_link cell.header.channel))) own h)

  pub other_cell_leads : (a : Acted) (cell : Cell) → same_channel cell.header.channel default_channel ≡ false → Whole setups a → AreRead setups a.controller.desk.rows → (cell.header.last ≡ true → IsNext a.notes.frames cell.mark) → GoesByLinks a.controller
      → From a (cell_comes a cell)
  other_cell_leads a cell other h reads next by_links = subst (λ (t : Bool). From a (takes_cell a cell (if t then Some ForGsmp else taker_at (linked_at a.controller (port_on cell.header.channel)) (on_link cell.header.channel)))) (sym other)
      (at_link a cell (port_on cell.header.channel) (linked_at a.controller (port_on cell.header.channel)) refl (λ last. record { whole = h; reads = reads; next = next last; by_links = by_links }))
