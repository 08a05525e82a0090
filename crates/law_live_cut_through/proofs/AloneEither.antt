-- a cell that comes to a controller makes the next frame of its packet, or gives a packet its fate, and not both

use Rattle.std.proofs.Common.{◌≡◌, ◌≢◌, ◌⊎◌, inl, inr, ℕ, ◌==◌, ◌||◌, Bool, false, List, [], ◌∷◌, ◌++◌, drop, Option, None, Some, Result, Ok, Err, refl, sym, ap, subst}
use Rattle.std.specs.Prelude.{nat_lt}
use Rattle.std.specs.List.{list_any}
use Rattle.world_model.specs.Words.{NodeId, PortNo, Up, Channel, Mark, next_control, with_control, next_mark, Cell, Record, Loss, Broken, PoolFull, Chance, has_entry, is_frame, Journal, noted, broken, marks_of, tested, tested_by, last_mark, payload_in, Reassembly, Hop, Here, On, hop_of, onward, PacketFault, EncapsFault, protocol_of, control_protocol, kind_of, default_payload, labelled_payload, default_unwrapped, unwrapped, control_end, default_home, default_channel, Label, Linked, Grant, grant_by, goes_by, sends_next, is_control, sends_control, forwards_packet, label_holds, ifmp_holds, counted_at, packet_holds, default_holds, frame_holds, ForGsmp, ForDefault, ForLabel, taker_of, takes_cell, with_reassembly, reassembly_of, Topology, World, Site, site_at, controller_acts, queue_at, with_queue, carries_head, put_away, next}
use Rattle.world_model.specs.Controller.{Acted, free_slots}
use Rattle.world_model.specs.Cells.{Taker, cell_comes, opened_frame, ends_frame, after_test, after_cell}
use Rattle.world_model.specs.Packets.{forwarded}
use Rattle.world_model.specs.Sending.{sends}
use Rattle.world_model.specs.frame_model.Frame.{octets_of as cell_octets}
use Rattle.world_model.specs.frame_model.Reassembly.{Taken, taken}
use Rattle.world_model.specs.gsmp_wire.Fields.{decoded as gsmp_decoded}
use Rattle.world_model.specs.gsmp_wire.Layout.{octets_of as gsmp_octets}
use Rattle.world_model.specs.ifmp_wire.Fields.{decoded as ifmp_decoded}
use Rattle.world_model.specs.ipv4_forward.declared.outcome.Hop.TheVariants.{NoRoute, Expired}
use Rattle.world_model.specs.ipv4_packet.Packet.{first_fault}
use Rattle.world_model.specs.network_model.declared.event.Event.TheVariants.{Carry}
use Rattle.law_live_ease.proofs.law_port_facts.Keyed.{on_both}
use Rattle.law_live_ease.proofs.law_packet_worlds.Lists.{none_join}
use Rattle.law_live_ease.proofs.law_packet_worlds.Quiet.{is_fate}
use Rattle.law_live_ease.proofs.law_packet_worlds.Quietly.{IsQuiet, may_quiet, bind_quiet}
use Rattle.law_live_ease.proofs.law_packet_worlds.Records.{records_kept, sends_has}
use Rattle.law_live_ease.proofs.law_packet_worlds.Takes.{chain_ended}
use Rattle.law_live_ease.proofs.law_packet_worlds.Walk.{Kept, used_kept, counted_kept, ifmp_holds_kept, gsmp_holds_kept}
use Rattle.law_live_ease.proofs.law_packet_worlds.law_way_words.Switching.{taken_cases}
use Rattle.law_live_cut_through.proofs.AloneClear.{Clear, control_clear, notes_stay}

-- *No packet has its fate* by these records
abbrev pub AreFateless : List Record → Type 0
AreFateless items = list_any is_fate items ≡ false

push_fateless : (items : List Record) (item : Record) → IsQuiet item → AreFateless items → AreFateless (items ++ item ∷ [])
push_fateless items item quiet h = none_join is_fate items (item ∷ []) h (ap (λ (b : Bool). b || false) quiet)

-- what a controller puts back when a channel has taken a cell leaves the notes
same_notes : (a : Acted) (taker : Taker) (r : Reassembly) → (with_reassembly a taker r).notes ≡ a.notes
same_notes a ForGsmp r = refl
same_notes a (ForDefault linked) r = refl
same_notes a (ForLabel linked label) r = refl

module _ (came : Mark) (some : came.packet ≢ 0) where
  abbrev IsClear : Acted → Type 0
  IsClear a = Clear (next_mark came) some a.notes.frames

  abbrev IsFateless : Acted → Type 0
  IsFateless a = AreFateless a.notes.records

  abbrev Either : Acted → Type 0
  Either a = IsClear a ⊎ IsFateless a

  -- as the cell comes, both
  abbrev Both : Journal → Type 0
  Both notes = Clear (next_mark came) some notes.frames × AreFateless notes.records

  -- *What a controller does besides* keeps each of them
  clear_kept : Kept IsQuiet IsClear
  clear_kept = record {
    alike = λ a b same h. subst (λ (n : Journal). Clear (next_mark came) some n.frames) (sym same.notes) h;
    noted = λ a item q h. h;
    told = λ a message h. control_clear (next_mark came) some a default_channel (gsmp_octets message) h;
    said = λ port a message h. control_clear (next_mark came) some a (default_home port).channel _ h;
  }

  fateless_kept : Kept IsQuiet IsFateless
  fateless_kept = records_kept AreFateless IsQuiet may_quiet push_fateless

  either_kept : Kept IsQuiet Either
  either_kept = record {
    alike = λ a b same h. elim h [ inl c ↦ inl (clear_kept.alike a b same c) | inr f ↦ inr (fateless_kept.alike a b same f) ];
    noted = λ a item q h. elim h [ inl c ↦ inl (clear_kept.noted a item q c) | inr f ↦ inr (fateless_kept.noted a item q f) ];
    told = λ a message h. elim h [ inl c ↦ inl (clear_kept.told a message c) | inr f ↦ inr (fateless_kept.told a message f) ];
    said = λ port a message h. elim h [ inl c ↦ inl (clear_kept.said port a message c) | inr f ↦ inr (fateless_kept.said port a message f) ];
  }

  -- *A packet is forwarded*: it is delivered or dropped, or its frame is made
  sends_fateless : (a : Acted) (channel : Channel) (mark : Mark) (payload : List ℕ) → IsFateless a → IsFateless (sends a channel mark payload)
  sends_fateless a channel mark payload h = sends_has AreFateless IsQuiet may_quiet push_fateless a channel mark payload h

  next_fateless : (a : Acted) (channel : Channel) (payload : List ℕ) → IsFateless a → IsFateless (sends_next a came channel payload)
  next_fateless a channel payload h = on_both IsFateless (is_control came) (sends_control a channel payload) (sends a channel (next_mark came) payload)
      (sends_fateless (record a { numbers = with_control a.numbers }) channel (next_control a.numbers) payload h) (sends_fateless a channel (next_mark came) payload h)

  goes_fateless : (a : Acted) (port : PortNo) (packet : List ℕ) (o : Option Grant) → IsFateless a → IsFateless (goes_by a came port packet o)
  goes_fateless a port packet None h = next_fateless a (default_home port).channel (default_payload packet) h
  goes_fateless a port packet (Some grant) h = next_fateless a (control_end port grant.label).channel (labelled_payload (kind_of grant.flow) packet) h

  hop_either : (a : Acted) (packet : List ℕ) (hop : Hop) → Both a.notes → Either (forwarded a came packet hop)
  hop_either a packet Here h = inl h.0
  hop_either a packet NoRoute h = inl h.0
  hop_either a packet Expired h = inl h.0
  hop_either a packet (On port) h = inr (goes_fateless a port (onward packet) (grant_by a.controller port (onward packet)) h.1)

  forwards_either : (a : Acted) (packet : List ℕ) → Both a.notes → Either (forwards_packet a came packet)
  forwards_either a packet h = hop_either a packet (hop_of a.controller.table packet) h

  -- *What a frame holds*
  label_either : (a : Acted) (linked : Linked) (label : Label) (r : Result (List ℕ) EncapsFault) → Both a.notes → Either (label_holds a linked label came r)
  label_either a linked label (Err fault) h = inl h.0
  label_either a linked label (Ok packet) h = used_kept IsQuiet may_quiet Either either_kept (forwards_packet a came packet) linked.setup.port label.number (forwards_either a packet h)

  packet_either : (a : Acted) (port : PortNo) (packet : List ℕ) (o : Option PacketFault) → Both a.notes → Either (packet_holds a port came packet o)
  packet_either a port packet (Some fault) h = inl h.0
  packet_either a port packet None h = on_both Either (protocol_of packet == control_protocol) (ifmp_holds a port packet (ifmp_decoded (drop 20 packet))) (counted_at (forwards_packet a came packet) port packet)
      (ifmp_holds_kept IsQuiet may_quiet Either either_kept bind_quiet a port packet (drop 20 packet) (ifmp_decoded (drop 20 packet)) refl (inl h.0))
      (counted_kept IsQuiet may_quiet Either either_kept (forwards_packet a came packet) port packet (forwards_either a packet h))

  default_either : (a : Acted) (port : PortNo) (r : Result (List ℕ) EncapsFault) → Both a.notes → Either (default_holds a port came r)
  default_either a port (Err fault) h = inl h.0
  default_either a port (Ok packet) h = packet_either a port packet (first_fault packet) h

  frame_either : (a : Acted) (taker : Taker) (payload : List ℕ) → Both a.notes → Either (frame_holds a taker came payload)
  frame_either a ForGsmp payload h = gsmp_holds_kept IsQuiet may_quiet Either either_kept bind_quiet a (gsmp_decoded payload) (inl h.0)
  frame_either a (ForDefault linked) payload h = default_either a linked.setup.port (default_unwrapped payload) h
  frame_either a (ForLabel linked label) payload h = label_either a linked label (unwrapped label.flow payload) h

  opened_either : (a : Acted) (taker : Taker) (o : Option (List ℕ)) → Both a.notes → Either (opened_frame a taker came o)
  opened_either a taker None h = inl h.0
  opened_either a taker (Some payload) h = frame_either a taker payload h

  -- *A test of a chain*, and what a channel makes of a cell
  noted_both : (notes : Journal) (item : Record) → IsQuiet item → Both notes → Both (noted notes item)
  noted_both notes item quiet h = (h.0, push_fateless notes.records item quiet h.1)

  broken_both : (notes : Journal) (marks : List Mark) → Both notes → Both (broken notes marks)
  broken_both notes [] h = h
  broken_both notes (mark ∷ marks) h = on_both (λ (first : Journal). Both (broken first marks)) (has_entry notes.entries mark) notes (noted notes (Loss mark Broken))
      (broken_both notes marks h) (broken_both (noted notes (Loss mark Broken)) marks (noted_both notes (Loss mark Broken) refl h))

  tested_both : (notes : Journal) (cells : List Cell) (o : Option (List ℕ)) → Both notes → Both (tested_by notes cells o).notes
  tested_both notes cells None h = broken_both notes (marks_of cells) h
  tested_both notes cells (Some payload) h = on_both Both (is_frame notes.frames (last_mark cells) payload) notes (noted notes (Chance (last_mark cells))) h
      (noted_both notes (Chance (last_mark cells)) refl h)

  module _ (cell : Cell) (own : cell.mark ≡ came) where
    -- a chain that the cell ends
    ends_either : (a : Acted) (taker : Taker) (chain : List Cell) → Both a.notes → Either (ends_frame a taker (chain ++ cell ∷ []))
    ends_either a taker chain h = subst Either (sym (chain_ended a taker chain cell))
        (subst (λ (m : Mark). Either (after_test a taker m (tested a.notes (chain ++ cell ∷ [])))) (sym own)
        (opened_either (record a { notes = (tested a.notes (chain ++ cell ∷ [])).notes }) taker (tested a.notes (chain ++ cell ∷ [])).payload
        (tested_both a.notes (chain ++ cell ∷ []) (payload_in (cell_octets (chain ++ cell ∷ []))) h)))

    rests : (a : Acted) (taker : Taker) (r : Reassembly) → Both a.notes → Both (with_reassembly a taker r).notes
    rests a taker r h = subst Both (sym (same_notes a taker r)) h

    takes_either : (a : Acted) (taker : Taker) → Both a.notes
        → Either (after_cell a taker (taken a.notes (nat_lt 0 (free_slots a.controller)) (reassembly_of a.controller taker) cell))
    takes_either a taker h =
        let r : Reassembly = reassembly_of a.controller taker in
        taken_cases (λ (t : Taken). Either (after_cell a taker t)) a.notes (nat_lt 0 (free_slots a.controller)) r cell
        (inl (rests (record a { notes = broken a.notes (cell.mark ∷ []) }) taker _ (broken_both a.notes (cell.mark ∷ []) h)).0)
        (inl (rests (record a { notes = broken (noted a.notes (Loss cell.mark PoolFull)) (marks_of r.chain) }) taker _
        (broken_both (noted a.notes (Loss cell.mark PoolFull)) (marks_of r.chain) (noted_both a.notes (Loss cell.mark PoolFull) refl h))).0)
        (inl (rests (record a { notes = broken a.notes (marks_of (r.chain ++ cell ∷ [])) }) taker _ (broken_both a.notes (marks_of (r.chain ++ cell ∷ [])) h)).0)
        (λ last. ends_either (with_reassembly a taker (record r { chain = [] })) taker r.chain (rests a taker (record r { chain = [] }) h))
        (λ more. inl (rests a taker (record r { chain = r.chain ++ cell ∷ [] }) h).0)

    pub cell_either : (a : Acted) → Both a.notes → Either (cell_comes a cell)
    cell_either a h = by (taker_of a.controller cell.header.channel)
      where
        by : (o : Option Taker) → Either (takes_cell a cell o)
        by None = inl h.0
        by (Some taker) = takes_either a taker h

    -- *The carry* that brings it
    pub carry_either : (topology : Topology) (w : World) (node : NodeId) (cells : List Cell) → queue_at w (Up node) ≡ cell ∷ cells → Clear (next_mark came) some w.notes.frames
        → Clear (next_mark came) some (next topology w (Carry (Up node))).notes.frames ⊎ AreFateless (next topology w (Carry (Up node))).notes.records
    carry_either topology w node cells is none =
        subst (λ (q : List Cell). Clear (next_mark came) some (carries_head topology (put_away w) (Up node) q).notes.frames ⊎ AreFateless (carries_head topology (put_away w) (Up node) q).notes.records) (sym is) (by (site_at v node))
      where
        v : World
        v = with_queue (put_away w) (Up node) cells

        start : Both v.notes
        start = subst Both (sym (notes_stay (put_away w) (Up node) cells)) (none, refl)

        by : (o : Option Site) → Clear (next_mark came) some (controller_acts v o (λ a. cell_comes a cell)).notes.frames ⊎ AreFateless (controller_acts v o (λ a. cell_comes a cell)).notes.records
        by None = inl start.0
        by (Some site) = cell_either (record { controller = site.controller; notes = v.notes; numbers = v.numbers }) start
