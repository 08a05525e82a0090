-- what a controller sends in an event: control messages, and the cells of one frame, whose mark is new

use Rattle.std.proofs.Common.{◌≡◌, ◌⊎◌, inl, inr, ℕ, ◌+◌, ◌<◌, ◌≤◌, Bool, true, false, cond, List, [], ◌∷◌, ◌++◌, length, map, Option, None, Some, Result, Ok, Err, refl, sym, ◌∙◌, ap, subst, arith, is_some, append_assoc, append-nil, if◌then◌else◌}
use Rattle.std.specs.Prelude.{◌==◌, nat_le, nat_lt, drop}
use Rattle.world_model.specs.Words.{PortNo, Channel, Mark, GivenOut, next_control, with_control, protocol_of, ifmp_packet_of, PacketFault, kind_of, hop_of, onward, Hop, Here, On, Cell, default_payload, labelled_payload, default_unwrapped, unwrapped, EncapsFault, Frame, Loss, PoolFull, Broken, payload_of, same_mark, has_entry, Journal, noted, frame_cells, made, next_mark, last_mark, payload_in, tested_by, broken, marks_of, control_end, Grant, Label, Controller, Linked, default_channel, default_home, sends_control, is_control, sends_next, goes_by, grant_by, forwards_packet, control_protocol, ForGsmp, ForDefault, ForLabel, taker_of, reassembly_of, with_reassembly, label_holds, ifmp_holds, counted_at, packet_holds, default_holds, frame_holds, takes_cell}
use Rattle.world_model.specs.ipv4_packet.Packet.{first_fault}
use Rattle.world_model.specs.ipv4_forward.declared.outcome.Hop.TheVariants.{NoRoute, Expired}
use Rattle.law_passing.specs.aal5_frames.Frame.{cells_with, cell_of, pdu_of}
use Rattle.world_model.specs.ifmp_wire.Fields.{decoded as ifmp_decoded}
use Rattle.world_model.specs.ifmp_wire.Message.{octets_of as ifmp_octets}
use Rattle.world_model.specs.gsmp_wire.Layout.{octets_of as gsmp_octets}
use Rattle.world_model.specs.gsmp_wire.Fields.{decoded as gsmp_decoded}
use Rattle.world_model.proofs.link_model.Latest.{payload_of_push}
use Rattle.world_model.proofs.link_model.Marks.{same_mark-Decides}
use Rattle.world_model.specs.frame_model.Frame.{octets_of, passed_test}
use Rattle.world_model.specs.frame_model.Sending.{Sender}
use Rattle.world_model.specs.frame_model.Reassembly.{Taken, taken}
use Rattle.law_passing.specs.ordered_lists.Ordered.{Every}
use Rattle.law_passing.proofs.ordered_lists.Every.{every_join, every_map}
use Rattle.law_run_facts.proofs.law_port_facts.Keyed.{on_both, on_each}
use Rattle.world_model.specs.Controller.{Acted, free_slots, note}
use Rattle.world_model.specs.Sending.{with_cells, sends}
use Rattle.world_model.specs.Packets.{forwarded}
use Rattle.world_model.specs.Cells.{Taker, opened_frame, ends_frame, cell_comes}
use Rattle.law_packet_worlds.proofs.Walk.{Kept, used_kept, counted_kept, ifmp_holds_kept, gsmp_holds_kept}
use Rattle.law_passed_cells.proofs.Sending.{Any}
use Rattle.law_label_worlds.proofs.law_quiet_controllers.Events.{taken_frames, passed_frames}

-- *A cell that is new*: of a control message, or of the one frame
pub record IsOf (kept : Option (Channel × Mark)) (frames : List Frame) (cell : Cell) : Type 0 where
  pub frame : kept ≡ Some (cell.header.channel, cell.mark)
  pub new : payload_of frames cell.mark ≡ None

abbrev pub IsNew : Option (Channel × Mark) → List Frame → Cell → Type 0
IsNew kept frames cell = ((cell.header.channel.vci ≡ 15) × (cell.mark.packet ≡ 0)) ⊎ IsOf kept frames cell

abbrev pub IsMade : List Frame → Mark → Type 0
IsMade frames mark = is_some (payload_of frames mark) ≡ true

-- *What was sent since*
pub record IsSent (frames : List Frame) (controls : ℕ) (queue : List Cell) (kept : Option (Channel × Mark)) (a : Acted) : Type 0 where
  pub given : controls ≤ a.numbers.controls
  pub new : List Cell
  pub is : a.controller.queue ≡ queue ++ new
  pub each : Every (IsNew kept frames) new
  pub made : Every (λ (cell : Cell). IsMade a.notes.frames cell.mark) new

every_value : {A B : Type 0} (P : B → Type 0) (f : A → B) (xs : List A) → ((x : A) → P (f x)) → Every P (map f xs)
every_value P f [] each = tt
every_value P f (x ∷ xs) each = (each x, every_value P f xs each)

frame_each : (P : Cell → Type 0) (channel : Channel) (mark : Mark) (payload : List ℕ) → ((cell : Cell) → cell.header.channel ≡ channel → cell.mark ≡ mark → P cell) → Every P (frame_cells channel mark payload)
unfolding cells_with
frame_each P channel mark payload f = every_value P (cell_of channel mark (pdu_of payload)) _ (λ k. f (cell_of channel mark (pdu_of payload) k) refl refl)

-- what was made stays made, and a frame that is made is
made_more : (frames : List Frame) (frame : Frame) (mark : Mark) → IsMade frames mark → IsMade (frames ++ frame ∷ []) mark
made_more frames frame mark is = subst (λ (o : Option (List ℕ)). is_some o ≡ true) (sym (payload_of_push frames frame mark)) (by (same_mark frame.mark mark))
  where
    by : (b : Bool) → is_some (cond b (Some frame.payload) (payload_of frames mark)) ≡ true
    by true = refl
    by false = is

made_here : (frames : List Frame) (mark : Mark) (payload : List ℕ) → IsMade (frames ++ record { mark = mark; payload = payload } ∷ []) mark
made_here frames mark payload = ap is_some (payload_of_push frames (record { mark = mark; payload = payload }) mark ∙ ap (λ (b : Bool). cond b (Some payload) (payload_of frames mark)) ((same_mark-Decides mark mark).1 refl))

module _ (frames : List Frame) (controls : ℕ) (queue : List Cell) where
  abbrev pub P : Option (Channel × Mark) → Acted → Type 0
  P kept a = IsSent frames controls queue kept a

  pub begins : (a : Acted) → a.controller.queue ≡ queue → controls ≤ a.numbers.controls → P None a
  begins a same given = record { given = given; new = []; is = same ∙ sym (append-nil queue); each = tt; made = tt }

  -- with no frame yet any may come
  pub weaker : (kept : Option (Channel × Mark)) (a : Acted) → P None a → P kept a
  weaker kept a h = record { given = h.given; new = h.new; is = h.is; each = every_map (IsNew None frames) (IsNew kept frames) h.new old h.each; made = h.made }
    where
      old : (cell : Cell) → IsNew None frames cell → IsNew kept frames cell
      old cell (inl control) = inl control
      old cell (inr one) = absurd (cc one.frame)

  like : (kept : Option (Channel × Mark)) (a b : Acted) → b.controller.queue ≡ a.controller.queue → b.notes.frames ≡ a.notes.frames → b.numbers.controls ≡ a.numbers.controls → P kept a → P kept b
  like kept a b q f c h = record {
    given = subst (λ (n : ℕ). controls ≤ n) (sym c) h.given;
    new = h.new;
    is = q ∙ h.is;
    each = h.each;
    made = subst (λ (fs : List Frame). Every (λ (cell : Cell). IsMade fs cell.mark) h.new) (sym f) h.made;
  }

  -- a frame is sent
  put_sent : (kept : Option (Channel × Mark)) (a : Acted) (numbers : GivenOut) (channel : Channel) (mark : Mark) (payload : List ℕ) → a.numbers.controls ≤ numbers.controls
      → ((cell : Cell) → cell.header.channel ≡ channel → cell.mark ≡ mark → IsNew kept frames cell) → P kept a → P kept (sends (record a { numbers = numbers }) channel mark payload)
  put_sent kept a numbers channel mark payload more new h =
      let cells : List Cell = frame_cells channel mark payload in
      let frame : Frame = record { mark = mark; payload = payload } in
      let others : Every (λ (cell : Cell). IsMade (made a.notes mark payload).frames cell.mark) h.new =
      every_map (λ (cell : Cell). IsMade a.notes.frames cell.mark) (λ (cell : Cell). IsMade (made a.notes mark payload).frames cell.mark) h.new (λ cell m. made_more a.notes.frames frame cell.mark m) h.made in
      on_both (λ (s : Sender Controller). P kept (record a { controller = s.queues; notes = s.notes; numbers = numbers })) (nat_le (length cells) (free_slots a.controller))
      (record { queues = with_cells a.controller cells; notes = made a.notes mark payload })
      (record { queues = a.controller; notes = noted (made a.notes mark payload) (Loss mark PoolFull) })
      (record {
        given = up controls a.numbers.controls numbers.controls h.given more;
        new = h.new ++ cells;
        is = ap (λ (xs : List Cell). xs ++ cells) h.is ∙ append_assoc queue h.new cells;
        each = every_join (IsNew kept frames) h.new cells h.each (frame_each (IsNew kept frames) channel mark payload new);
        made = every_join (λ (cell : Cell). IsMade (made a.notes mark payload).frames cell.mark) h.new cells others
            (frame_each (λ (cell : Cell). IsMade (made a.notes mark payload).frames cell.mark) channel mark payload
            (λ cell c m. subst (IsMade (made a.notes mark payload).frames) (sym m) (made_here a.notes.frames mark payload)));
      })
      (record { given = up controls a.numbers.controls numbers.controls h.given more; new = h.new; is = h.is; each = h.each; made = others })
    where
      up : (x y z : ℕ) → x ≤ y → y ≤ z → x ≤ z
      up x y z le more = omega (arith, le, more)

  control_sent : (kept : Option (Channel × Mark)) (a : Acted) (channel : Channel) (payload : List ℕ) → channel.vci ≡ 15 → P kept a → P kept (sends_control a channel payload)
  control_sent kept a channel payload vci h = put_sent kept a (with_control a.numbers) channel (next_control a.numbers) payload (one_more a.numbers.controls)
      (λ cell c m. inl (ap (λ (x : Channel). x.vci) c ∙ vci, ap (λ (x : Mark). x.packet) m)) h
    where
      one_more : (n : ℕ) → n ≤ n + 1
      one_more n = omega arith

  pub kept_all : (kept : Option (Channel × Mark)) → Kept Any (P kept)
  kept_all kept = record {
    alike = λ a b same h. like kept a b same.queue (ap (λ (n : Journal). n.frames) same.notes) same.controls h;
    noted = λ a item ok h. like kept a (note a item) refl refl refl h;
    told = λ a message h. control_sent kept a default_channel (gsmp_octets message) refl h;
    said = λ port a message h. control_sent kept a (default_home port).channel (default_payload (ifmp_packet_of a.controller.address (ifmp_octets message))) refl h;
  }

  -- *A packet's frame* is the one
  pub record Sends (a : Acted) : Type 0 where
    pub kept : Option (Channel × Mark)
    pub sent : P kept a

  abbrev pub IsNext : Mark → Type 0
  IsNext came = (is_control came ≡ false → payload_of frames (next_mark came) ≡ None) × ((k : ℕ) → controls < k → payload_of frames (record { packet = 0; frame = k }) ≡ None)

  next_sent : (a : Acted) (came : Mark) (channel : Channel) (payload : List ℕ) → IsNext came → P None a → Sends (sends_next a came channel payload)
  next_sent a came channel payload next h = on_each Sends (is_control came) (sends_control a channel payload) (sends a channel (next_mark came) payload)
      (λ is. record {
        kept = Some (channel, next_control a.numbers);
        sent = put_sent (Some (channel, next_control a.numbers)) a (with_control a.numbers) channel (next_control a.numbers) payload (one_more a.numbers.controls)
            (λ cell c m. inr (record { frame = λ i. Some (sym c i, sym m i); new = ap (payload_of frames) m ∙ next.1 (a.numbers.controls + 1) (later controls a.numbers.controls h.given) }))
            (weaker (Some (channel, next_control a.numbers)) a h);
      })
      (λ off. record {
        kept = Some (channel, next_mark came);
        sent = put_sent (Some (channel, next_mark came)) a a.numbers channel (next_mark came) payload (self_le a.numbers.controls)
            (λ cell c m. inr (record { frame = λ i. Some (sym c i, sym m i); new = ap (payload_of frames) m ∙ next.0 off }))
            (weaker (Some (channel, next_mark came)) a h);
      })
    where
      self_le : (n : ℕ) → n ≤ n
      self_le n = omega arith

      one_more : (n : ℕ) → n ≤ n + 1
      one_more n = omega arith

      later : (c n : ℕ) → c ≤ n → c < n + 1
      later c n le = omega (arith, le)

  goes_sent : (a : Acted) (came : Mark) (port : PortNo) (packet : List ℕ) (o : Option Grant) → IsNext came → P None a → Sends (goes_by a came port packet o)
  goes_sent a came port packet None next h = next_sent a came (default_home port).channel (default_payload packet) next h
  goes_sent a came port packet (Some grant) next h = next_sent a came (control_end port grant.label).channel (labelled_payload (kind_of grant.flow) packet) next h

  forwarded_sent : (a : Acted) (came : Mark) (packet : List ℕ) (hop : Hop) → IsNext came → P None a → Sends (forwarded a came packet hop)
  forwarded_sent a came packet Here next h = record { kept = None; sent = like None a (forwarded a came packet Here) refl refl refl h }
  forwarded_sent a came packet NoRoute next h = record { kept = None; sent = like None a (forwarded a came packet NoRoute) refl refl refl h }
  forwarded_sent a came packet Expired next h = record { kept = None; sent = like None a (forwarded a came packet Expired) refl refl refl h }
  forwarded_sent a came packet (On port) next h = goes_sent a came port (onward packet) (grant_by a.controller port (onward packet)) next h

  pub routes_sent : (a : Acted) (came : Mark) (packet : List ℕ) → IsNext came → P None a → Sends (forwards_packet a came packet)
  routes_sent a came packet next h = forwarded_sent a came packet (hop_of a.controller.table packet) next h

  -- *A frame* that passed its test
  label_sent : (a : Acted) (linked : Linked) (label : Label) (mark : Mark) (r : Result (List ℕ) EncapsFault) → IsNext mark → P None a → Sends (label_holds a linked label mark r)
  label_sent a linked label mark (Err fault) next h = record { kept = None; sent = like None a (label_holds a linked label mark (Err fault)) refl refl refl h }
  label_sent a linked label mark (Ok packet) next h =
      let r = routes_sent a mark packet next h in
      record { kept = r.kept; sent = used_kept Any (λ item f b. tt) (P r.kept) (kept_all r.kept) (forwards_packet a mark packet) linked.setup.port label.number r.sent }

  packet_sent : (a : Acted) (port : PortNo) (mark : Mark) (packet : List ℕ) (o : Option PacketFault) → IsNext mark → P None a → Sends (packet_holds a port mark packet o)
  packet_sent a port mark packet (Some fault) next h = record { kept = None; sent = like None a (packet_holds a port mark packet (Some fault)) refl refl refl h }
  packet_sent a port mark packet None next h = on_both Sends (protocol_of packet == control_protocol) (ifmp_holds a port packet (ifmp_decoded (drop 20 packet))) (counted_at (forwards_packet a mark packet) port packet)
      (record { kept = None; sent = ifmp_holds_kept Any (λ item f b. tt) (P None) (kept_all None) (λ node p l flow. tt) a port packet (drop 20 packet) (ifmp_decoded (drop 20 packet)) refl h })
      (let r = routes_sent a mark packet next h in record { kept = r.kept; sent = counted_kept Any (λ item f b. tt) (P r.kept) (kept_all r.kept) (forwards_packet a mark packet) port packet r.sent })

  default_sent : (a : Acted) (port : PortNo) (mark : Mark) (r : Result (List ℕ) EncapsFault) → IsNext mark → P None a → Sends (default_holds a port mark r)
  default_sent a port mark (Err fault) next h = record { kept = None; sent = like None a (default_holds a port mark (Err fault)) refl refl refl h }
  default_sent a port mark (Ok packet) next h = packet_sent a port mark packet (first_fault packet) next h

  frame_sent : (a : Acted) (taker : Taker) (mark : Mark) (payload : List ℕ) → IsNext mark → P None a → Sends (frame_holds a taker mark payload)
  frame_sent a ForGsmp mark payload next h = record { kept = None; sent = gsmp_holds_kept Any (λ item f b. tt) (P None) (kept_all None) (λ node p l flow. tt) a (gsmp_decoded payload) h }
  frame_sent a (ForDefault linked) mark payload next h = default_sent a linked.setup.port mark (default_unwrapped payload) next h
  frame_sent a (ForLabel linked label) mark payload next h = label_sent a linked label mark (unwrapped label.flow payload) next h

  broken_same : (marks : List Mark) (notes : Journal) → (broken notes marks).frames ≡ notes.frames
  broken_same [] notes = refl
  broken_same (mark ∷ marks) notes = broken_same marks (if has_entry notes.entries mark then notes else noted notes (Loss mark Broken))
      ∙ on_both (λ (n : Journal). n.frames ≡ notes.frames) (has_entry notes.entries mark) notes (noted notes (Loss mark Broken)) refl refl

  -- *A cell comes*, which is the last of a mark where it ends a frame
  module _ (a : Acted) (cell : Cell) (next : cell.header.last ≡ true → IsNext cell.mark) where
    abbrev EndsWith : Taken → Type 0
    EndsWith t = (first : Cell) (cells : List Cell) → t.ended ≡ first ∷ cells → IsNext (last_mark (first ∷ cells))

    taken_sent : (taker : Taker) → EndsWith (taken a.notes (nat_lt 0 (free_slots a.controller)) (reassembly_of a.controller taker) cell) → P None a → Sends (takes_cell a cell (Some taker))
    taken_sent taker ends h = by t.ended refl
      where
        t : Taken
        t = taken a.notes (nat_lt 0 (free_slots a.controller)) (reassembly_of a.controller taker) cell

        b : Acted
        b = with_reassembly (record a { notes = t.notes }) taker t.reassembly

        same : t.notes.frames ≡ a.notes.frames
        same = taken_frames a.notes (nat_lt 0 (free_slots a.controller)) (reassembly_of a.controller taker) cell

        put_taker : (taker : Taker) → P None (with_reassembly (record a { notes = t.notes }) taker t.reassembly)
        put_taker ForGsmp = like None a (with_reassembly (record a { notes = t.notes }) ForGsmp t.reassembly) refl same refl h
        put_taker (ForDefault linked) = like None a (with_reassembly (record a { notes = t.notes }) (ForDefault linked) t.reassembly) refl same refl h
        put_taker (ForLabel linked label) = like None a (with_reassembly (record a { notes = t.notes }) (ForLabel linked label) t.reassembly) refl same refl h

        by_payload : (first : Cell) (cells : List Cell) → IsNext (last_mark (first ∷ cells)) → (o : Option (List ℕ))
            → Sends (opened_frame (record b { notes = (tested_by b.notes (first ∷ cells) o).notes }) taker (last_mark (first ∷ cells)) (tested_by b.notes (first ∷ cells) o).payload)
        by_payload first cells n None = record { kept = None; sent = like None b (record b { notes = broken b.notes (marks_of (first ∷ cells)) }) refl (broken_same (marks_of (first ∷ cells)) b.notes) refl (put_taker taker) }
        by_payload first cells n (Some payload) = frame_sent (record b { notes = passed_test b.notes (last_mark (first ∷ cells)) payload }) taker (last_mark (first ∷ cells)) payload n
            (like None b (record b { notes = passed_test b.notes (last_mark (first ∷ cells)) payload }) refl (passed_frames b.notes (last_mark (first ∷ cells)) payload) refl (put_taker taker))

        by : (cells : List Cell) → t.ended ≡ cells → Sends (ends_frame b taker cells)
        by [] e = record { kept = None; sent = put_taker taker }
        by (first ∷ cells) e = by_payload first cells (ends first cells e) (payload_in (octets_of (first ∷ cells)))

    pub cell_sent : ((taker : Taker) → taker_of a.controller cell.header.channel ≡ Some taker → EndsWith (taken a.notes (nat_lt 0 (free_slots a.controller)) (reassembly_of a.controller taker) cell)) → P None a → Sends (cell_comes a cell)
    cell_sent ends h = by (taker_of a.controller cell.header.channel) refl
      where
        by : (o : Option Taker) → taker_of a.controller cell.header.channel ≡ o → Sends (takes_cell a cell o)
        by None is = record { kept = None; sent = like None a (takes_cell a cell None) refl refl refl h }
        by (Some taker) is = taken_sent taker (ends taker is) h
