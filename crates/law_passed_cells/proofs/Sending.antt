-- what a controller sends: control messages on channels with VCI 15, and packets where its grants lead

use Rattle.std.proofs.Common.{◌≡◌, ◌≢◌, ℕ, ◌+◌, ◌<◌, ◌≤◌, Bool, true, false, cond, List, [], ◌∷◌, ◌++◌, length, map, Option, None, Some, Result, Ok, Err, refl, sym, ◌∙◌, ap, subst, arith, inl, inr, if◌then◌else◌}
use Rattle.std.specs.Prelude.{◌==◌, ◌&&◌, nat_le, nat_lt, drop}
use Rattle.std.proofs.lemmas.Bool.Decides.{nat_tests}
use Rattle.world_model.specs.Words.{PortNo, Channel, Mark, GivenOut, next_control, with_control, protocol_of, ifmp_packet_of, PacketFault, hop_of, onward, Hop, Here, On, Cell, kind_of, default_payload, labelled_payload, default_unwrapped, unwrapped, EncapsFault, Frame, Record, Loss, PoolFull, Broken, has_entry, payload_of, Journal, noted, frame_cells, made, next_mark, last_mark, payload_in, tested_by, broken, marks_of, control_end, Grant, Label, Standing, Controller, Linked, default_channel, default_home, sends_control, is_control, sends_next, goes_by, grant_by, forwards_packet, control_protocol, ForGsmp, ForDefault, ForLabel, same_channel, taker_of, reassembly_of, with_reassembly, label_holds, ifmp_holds, counted_at, packet_holds, default_holds, frame_holds, takes_cell, gsmp_of, copy_of, copy_under}
use Rattle.world_model.specs.ipv4_packet.Packet.{first_fault}
use Rattle.world_model.specs.ipv4_forward.declared.outcome.Hop.TheVariants.{NoRoute, Expired}
use Rattle.law_fed_worlds.specs.aal5_frames.Frame.{cells_with, cell_of, pdu_of}
use Rattle.world_model.specs.ifmp_wire.Fields.{decoded as ifmp_decoded}
use Rattle.world_model.specs.ifmp_wire.Message.{octets_of as ifmp_octets}
use Rattle.std.specs.Option.{option_and_then}
use Rattle.world_model.specs.gsmp_wire.declared.fault.Fault.{Fault as GsmpFault}
use Rattle.world_model.specs.gsmp_wire.declared.message.Message.{Message}
use Rattle.world_model.specs.gsmp_wire.Layout.{octets_of as gsmp_octets}
use Rattle.world_model.specs.gsmp_wire.Fields.{decoded as gsmp_decoded}
use Rattle.world_model.proofs.link_model.Latest.{payload_of_push}
use Rattle.world_model.proofs.link_model.Marks.{same_mark-Decides}
use Rattle.world_model.specs.frame_model.Frame.{octets_of, passed_test}
use Rattle.world_model.specs.frame_model.Sending.{Sender}
use Rattle.world_model.specs.frame_model.Reassembly.{Taken, taken}
use Rattle.law_fed_worlds.specs.ordered_lists.Ordered.{Every}
use Rattle.law_fed_worlds.proofs.ordered_lists.Every.{every_join}
use Rattle.law_fed_worlds.proofs.law_port_facts.Keyed.{on_both, on_each}
use Rattle.world_model.specs.Controller.{Acted, free_slots, note}
use Rattle.world_model.specs.Sending.{with_cells, sends}
use Rattle.world_model.specs.Packets.{forwarded}
use Rattle.world_model.specs.Cells.{Taker, opened_frame, ends_frame, cell_comes}
use Rattle.law_packet_worlds.proofs.Walk.{Kept, used_kept, counted_kept, ifmp_holds_kept, gsmp_holds_kept}
use Rattle.world_model.specs.Ways.{ok_of}
use Rattle.law_pairs.specs.law_quiet_controllers.Quiet.{AskTheSame, asked_by}
use Rattle.law_pairs.proofs.law_quiet_controllers.Sending.{made_asks}
use Rattle.law_pairs.proofs.law_quiet_controllers.Events.{taken_frames, passed_frames}
use Rattle.law_running_worlds.proofs.law_frame_readings.Apart.{gsmp_head, snaps_apart}

-- any record may be noted
abbrev pub Any : Record → Type 0
Any item = Unit {0}

pub any_may : (item : Record) → Any item
any_may item = tt

-- a cell of a control frame asks what was made, on GSMP's channel
abbrev pub IsAsked : (now : ℕ) → List Frame → Cell → Type 0
IsAsked now frames cell = cell.mark.packet ≡ 0 → (cell.mark.frame ≤ now) × ((s : Standing) → copy_under frames cell.mark ≡ Some s → same_channel cell.header.channel default_channel ≡ true)

-- *What was sent since*: cells on good channels, in frames under new control marks or those of packets
pub record IsSent (Good : Channel → Type 0) (controls : ℕ) (frames : List Frame) (queue : List Cell) (a : Acted) : Type 0 where
  pub given : controls ≤ a.numbers.controls
  pub asks : AskTheSame controls frames a.notes.frames
  pub new : List Cell
  pub is : a.controller.queue ≡ queue ++ new
  pub good : Every (λ (cell : Cell). Good cell.header.channel) new
  pub asked : Every (IsAsked a.numbers.controls a.notes.frames) new

every_value : {A B : Type 0} (P : B → Type 0) (f : A → B) (xs : List A) → ((x : A) → P (f x)) → Every P (map f xs)
every_value P f [] each = tt
every_value P f (x ∷ xs) each = (each x, every_value P f xs each)

frame_good : (Good : Channel → Type 0) (channel : Channel) (mark : Mark) (payload : List ℕ) → Good channel → Every (λ (cell : Cell). Good cell.header.channel) (frame_cells channel mark payload)
unfolding cells_with
frame_good Good channel mark payload good = every_value (λ (cell : Cell). Good cell.header.channel) (cell_of channel mark (pdu_of payload)) _ (λ k. good)

-- each cell of a frame has its mark and its channel
abbrev IsOfFrame : Channel → Mark → Cell → Type 0
IsOfFrame channel mark cell = (cell.header.channel ≡ channel) × (cell.mark ≡ mark)

frame_is : (channel : Channel) (mark : Mark) (payload : List ℕ) → Every (IsOfFrame channel mark) (frame_cells channel mark payload)
unfolding cells_with
frame_is channel mark payload = every_value (IsOfFrame channel mark) (cell_of channel mark (pdu_of payload)) _ (λ k. (refl, refl))

every_also : {A : Type 0} (P Q : A → Type 0) (xs : List A) → ((x : A) → P x → Q x) → Every P xs → Every Q xs
every_also P Q [] f all = tt
every_also P Q (x ∷ xs) f all = (f x all.0, every_also P Q xs f all.1)

-- what was made is found
made_here : (frames : List Frame) (mark : Mark) (payload : List ℕ) → copy_under (frames ++ record { mark = mark; payload = payload } ∷ []) mark ≡ asked_by payload
made_here frames mark payload = ap (λ (o : Option (List ℕ)). option_and_then copy_of (option_and_then gsmp_of o))
    (payload_of_push frames (record { mark = mark; payload = payload }) mark ∙ ap (λ (b : Bool). cond b (Some payload) (payload_of frames mark)) ((same_mark-Decides mark mark).1 refl))

-- what stands in the default encapsulation asks nothing
default_asks : (packet : List ℕ) (s : Standing) → asked_by (default_payload packet) ≡ Some s → ⊥
default_asks packet s e = by (gsmp_decoded (default_payload packet)) refl e
  where
    by : (r : Result Message GsmpFault) → gsmp_decoded (default_payload packet) ≡ r → option_and_then copy_of (ok_of r) ≡ Some s → ⊥
    by (Err fault) is f = cc f
    by (Ok message) is f = snaps_apart (gsmp_head (default_payload packet) message is)

append_assoc : {A : Type 0} (xs ys zs : List A) → (xs ++ ys) ++ zs ≡ xs ++ (ys ++ zs)
append_assoc [] ys zs = refl
append_assoc (x ∷ xs) ys zs = ap (λ l. x ∷ l) (append_assoc xs ys zs)

append_none : {A : Type 0} (xs : List A) → xs ≡ xs ++ []
append_none [] = refl
append_none (x ∷ xs) = ap (λ l. x ∷ l) (append_none xs)

broken_same : (marks : List Mark) (notes : Journal) → (broken notes marks).frames ≡ notes.frames
broken_same [] notes = refl
broken_same (mark ∷ marks) notes = broken_same marks (if has_entry notes.entries mark then notes else noted notes (Loss mark Broken))
    ∙ on_both (λ (n : Journal). n.frames ≡ notes.frames) (has_entry notes.entries mark) notes (noted notes (Loss mark Broken)) refl refl

-- *What is sent on* came in a packet's frame
abbrev pub IsCounted : Mark → Type 0
IsCounted came = came.packet ≢ 0

abbrev pub IsReadAs : Taker → (mark : Mark) → (payload : List ℕ) → Type 0
IsReadAs ForGsmp mark payload = Unit {0}
IsReadAs (ForDefault linked) mark payload = (packet : List ℕ) → default_unwrapped payload ≡ Ok packet → (protocol_of packet == control_protocol) ≡ false → IsCounted mark
IsReadAs (ForLabel linked label) mark payload = (packet : List ℕ) → unwrapped label.flow payload ≡ Ok packet → IsCounted mark

abbrev pub Reads : Taker → List Cell → Type 0
Reads taker [] = Unit {0}
Reads taker (first ∷ cells) = (payload : List ℕ) → payload_in (octets_of (first ∷ cells)) ≡ Some payload → IsReadAs taker (last_mark (first ∷ cells)) payload

module _ (Good : Channel → Type 0) (control : (channel : Channel) → channel.vci ≡ 15 → Good channel) (controls : ℕ) (frames : List Frame) (queue : List Cell) where
  abbrev pub P : Acted → Type 0
  P a = IsSent Good controls frames queue a

  pub begins_sent : (a : Acted) → a.numbers.controls ≡ controls → a.notes.frames ≡ frames → a.controller.queue ≡ queue → P a
  begins_sent a numbers notes queued = record {
    given = subst (λ (n : ℕ). controls ≤ n) (sym numbers) (self_le controls);
    asks = λ mark s none low e. subst (λ (fs : List Frame). copy_under fs mark ≡ Some s) notes e;
    new = [];
    is = queued ∙ append_none queue;
    good = tt;
    asked = tt;
  }
    where
      self_le : (n : ℕ) → n ≤ n
      self_le n = omega arith

  like : (a b : Acted) → b.controller.queue ≡ a.controller.queue → b.notes.frames ≡ a.notes.frames → b.numbers.controls ≡ a.numbers.controls → P a → P b
  like a b queued same numbers h = record {
    given = subst (λ (n : ℕ). controls ≤ n) (sym numbers) h.given;
    asks = subst (AskTheSame controls frames) (sym same) h.asks;
    new = h.new;
    is = queued ∙ h.is;
    good = h.good;
    asked = subst (λ (n : ℕ). Every (IsAsked n b.notes.frames) h.new) (sym numbers) (subst (λ (fs : List Frame). Every (IsAsked a.numbers.controls fs) h.new) (sym same) h.asked);
  }

  -- *A frame* under a mark that is no old control mark, and asks on GSMP's channel alone
  abbrev IsNewMark : (old now : ℕ) → Channel → Mark → List ℕ → Type 0
  IsNewMark old now channel mark payload = mark.packet ≡ 0 → (old < mark.frame) × (mark.frame ≤ now) × ((s : Standing) → asked_by payload ≡ Some s → same_channel channel default_channel ≡ true)

  made_sent : (a : Acted) (now : ℕ) (channel : Channel) (mark : Mark) (payload : List ℕ) → IsNewMark a.numbers.controls now channel mark payload → controls ≤ a.numbers.controls
      → AskTheSame controls frames a.notes.frames → AskTheSame controls frames (made a.notes mark payload).frames
  made_sent a now channel mark payload new given h other s none low e = elim (made_asks a.notes.frames mark other payload s e) [
    | inl before ↦ h other s none low before
    | inr here ↦ absurd (later a.numbers.controls mark.frame other.frame (ap (λ (m : Mark). m.frame) here.0) (new (ap (λ (m : Mark). m.packet) here.0 ∙ none)).0 given low)
  ]
    where
      later : (o m n : ℕ) → m ≡ n → o < m → controls ≤ o → n ≤ controls → ⊥
      later o m n e more given less = absurd (omega (arith, e, more, given, less))

  -- cells that were sent before it
  old_asked : (a : Acted) (now : ℕ) (channel : Channel) (mark : Mark) (payload : List ℕ) → IsNewMark a.numbers.controls now channel mark payload → a.numbers.controls ≤ now
      → (cell : Cell) → IsAsked a.numbers.controls a.notes.frames cell → IsAsked now (made a.notes mark payload).frames cell
  old_asked a now channel mark payload new more cell h none = (let old = h none in (
    low cell.mark.frame a.numbers.controls old.0 more,
    λ s e. elim (made_asks a.notes.frames mark cell.mark payload s e) [
      | inl before ↦ old.1 s before
      | inr here ↦ absurd (later a.numbers.controls mark.frame cell.mark.frame (ap (λ (m : Mark). m.frame) here.0) (new (ap (λ (m : Mark). m.packet) here.0 ∙ none)).0 old.0)
    ],
  ))
    where
      low : (f o : ℕ) → f ≤ o → o ≤ now → f ≤ now
      low f o le more = omega (arith, le, more)

      later : (o m n : ℕ) → m ≡ n → o < m → n ≤ o → ⊥
      later o m n e more less = absurd (omega (arith, e, more, less))

  -- and its own
  new_asked : (a : Acted) (now : ℕ) (channel : Channel) (mark : Mark) (payload : List ℕ) → IsNewMark a.numbers.controls now channel mark payload
      → (cell : Cell) → IsOfFrame channel mark cell → IsAsked now (made a.notes mark payload).frames cell
  new_asked a now channel mark payload new cell of none = (let it = new (sym (ap (λ (m : Mark). m.packet) of.1) ∙ none) in (
    subst (λ (m : Mark). m.frame ≤ now) (sym of.1) it.1,
    λ s e. subst (λ (c : Channel). same_channel c default_channel ≡ true) (sym of.0)
        (it.2 s (sym (made_here a.notes.frames mark payload) ∙ (sym (ap (λ (m : Mark). copy_under (made a.notes mark payload).frames m) of.1) ∙ e))),
  ))

  put_sent : (a : Acted) (numbers : GivenOut) (channel : Channel) (mark : Mark) (payload : List ℕ) → a.numbers.controls ≤ numbers.controls → Good channel
      → IsNewMark a.numbers.controls numbers.controls channel mark payload → P a → P (sends (record a { numbers = numbers }) channel mark payload)
  put_sent a numbers channel mark payload more good new h =
      let cells : List Cell = frame_cells channel mark payload in
      let others : Every (IsAsked numbers.controls (made a.notes mark payload).frames) h.new =
      every_also (IsAsked a.numbers.controls a.notes.frames) (IsAsked numbers.controls (made a.notes mark payload).frames) h.new (old_asked a numbers.controls channel mark payload new more) h.asked in
      on_both (λ (s : Sender Controller). P (record a { controller = s.queues; notes = s.notes; numbers = numbers })) (nat_le (length cells) (free_slots a.controller))
      (record { queues = with_cells a.controller cells; notes = made a.notes mark payload })
      (record { queues = a.controller; notes = noted (made a.notes mark payload) (Loss mark PoolFull) })
      (record {
        given = up controls a.numbers.controls numbers.controls h.given more;
        asks = made_sent a numbers.controls channel mark payload new h.given h.asks;
        new = h.new ++ cells;
        is = ap (λ (xs : List Cell). xs ++ cells) h.is ∙ append_assoc queue h.new cells;
        good = every_join (λ (cell : Cell). Good cell.header.channel) h.new cells h.good (frame_good Good channel mark payload good);
        asked = every_join (IsAsked numbers.controls (made a.notes mark payload).frames) h.new cells others
            (every_also (IsOfFrame channel mark) (IsAsked numbers.controls (made a.notes mark payload).frames) cells (new_asked a numbers.controls channel mark payload new) (frame_is channel mark payload));
      })
      (record { given = up controls a.numbers.controls numbers.controls h.given more; asks = made_sent a numbers.controls channel mark payload new h.given h.asks; new = h.new; is = h.is; good = h.good; asked = others })
    where
      up : (x y z : ℕ) → x ≤ y → y ≤ z → x ≤ z
      up x y z le more = omega (arith, le, more)

  sends_sent : (a : Acted) (channel : Channel) (mark : Mark) (payload : List ℕ) → Good channel → mark.packet ≢ 0 → P a → P (sends a channel mark payload)
  sends_sent a channel mark payload good counted h = put_sent a a.numbers channel mark payload (self_le a.numbers.controls) good (λ none. absurd (counted none)) h
    where
      self_le : (n : ℕ) → n ≤ n
      self_le n = omega arith

  control_sent : (a : Acted) (channel : Channel) (payload : List ℕ) → Good channel → ((s : Standing) → asked_by payload ≡ Some s → same_channel channel default_channel ≡ true) → P a → P (sends_control a channel payload)
  control_sent a channel payload good asked h = put_sent a (with_control a.numbers) channel (next_control a.numbers) payload (one_more a.numbers.controls) good (λ none. (next_one a.numbers.controls, self_le (a.numbers.controls + 1), asked)) h
    where
      self_le : (n : ℕ) → n ≤ n
      self_le n = omega arith

      one_more : (n : ℕ) → n ≤ n + 1
      one_more n = omega arith

      next_one : (n : ℕ) → n < n + 1
      next_one n = omega arith

  pub kept : Kept Any P
  kept = record {
    alike = λ a b same h. like a b same.queue (ap (λ (n : Journal). n.frames) same.notes) same.controls h;
    noted = λ a item ok h. like a (note a item) refl refl refl h;
    told = λ a message h. control_sent a default_channel (gsmp_octets message) (control default_channel refl) (λ s e. refl) h;
    said = λ port a message h. control_sent a (default_home port).channel (default_payload (ifmp_packet_of a.controller.address (ifmp_octets message))) (control (default_home port).channel refl)
        (λ s e. absurd (default_asks (ifmp_packet_of a.controller.address (ifmp_octets message)) s e)) h;
  }

  abbrev pub LeadsWell : Acted → Type 0
  LeadsWell a = (port : PortNo) (packet : List ℕ) (grant : Grant) → grant_by a.controller port packet ≡ Some grant → Good (control_end port grant.label).channel

  next_sent : (a : Acted) (came : Mark) (channel : Channel) (payload : List ℕ) → IsCounted came → Good channel → P a → P (sends_next a came channel payload)
  next_sent a came channel payload counted good h = by (is_control came) refl
    where
      never : (p f : ℕ) → p ≢ 0 → (p == 0 && nat_lt 0 f) ≡ false
      never p f some = first (p == 0) (nat_lt 0 f) (grind (arith, nat_tests, some))
        where
          first : (a b : Bool) → a ≡ false → (a && b) ≡ false
          first true b e = absurd (cc e)
          first false b e = refl

      by : (t : Bool) → is_control came ≡ t → P (if t then sends_control a channel payload else sends a channel (next_mark came) payload)
      by true is = absurd (cc (sym is ∙ never came.packet came.frame counted))
      by false off = sends_sent a channel (next_mark came) payload good counted h

  goes_sent : (a : Acted) (came : Mark) (port : PortNo) (packet : List ℕ) (o : Option Grant) → ((grant : Grant) → o ≡ Some grant → Good (control_end port grant.label).channel) → IsCounted came → P a → P (goes_by a came port packet o)
  goes_sent a came port packet None leads counted h = next_sent a came (default_home port).channel (default_payload packet) counted (control (default_home port).channel refl) h
  goes_sent a came port packet (Some grant) leads counted h = next_sent a came (control_end port grant.label).channel (labelled_payload (kind_of grant.flow) packet) counted (leads grant refl) h

  forwarded_sent : (a : Acted) (came : Mark) (packet : List ℕ) (hop : Hop) → LeadsWell a → IsCounted came → P a → P (forwarded a came packet hop)
  forwarded_sent a came packet Here leads counted h = like a (forwarded a came packet Here) refl refl refl h
  forwarded_sent a came packet NoRoute leads counted h = like a (forwarded a came packet NoRoute) refl refl refl h
  forwarded_sent a came packet Expired leads counted h = like a (forwarded a came packet Expired) refl refl refl h
  forwarded_sent a came packet (On port) leads counted h = goes_sent a came port (onward packet) (grant_by a.controller port (onward packet)) (λ grant e. leads port (onward packet) grant e) counted h

  pub routes_sent : (a : Acted) (came : Mark) (packet : List ℕ) → LeadsWell a → IsCounted came → P a → P (forwards_packet a came packet)
  routes_sent a came packet leads counted h = forwarded_sent a came packet (hop_of a.controller.table packet) leads counted h

  -- *A frame* that passed its test
  label_sent : (a : Acted) (linked : Linked) (label : Label) (mark : Mark) (r : Result (List ℕ) EncapsFault) → LeadsWell a → ((packet : List ℕ) → r ≡ Ok packet → IsCounted mark) → P a → P (label_holds a linked label mark r)
  label_sent a linked label mark (Err fault) leads counted h = like a (label_holds a linked label mark (Err fault)) refl refl refl h
  label_sent a linked label mark (Ok packet) leads counted h = used_kept Any (λ item f b. tt) P kept (forwards_packet a mark packet) linked.setup.port label.number (routes_sent a mark packet leads (counted packet refl) h)

  packet_sent : (a : Acted) (port : PortNo) (mark : Mark) (packet : List ℕ) (o : Option PacketFault) → LeadsWell a → ((protocol_of packet == control_protocol) ≡ false → IsCounted mark) → P a → P (packet_holds a port mark packet o)
  packet_sent a port mark packet (Some fault) leads counted h = like a (packet_holds a port mark packet (Some fault)) refl refl refl h
  packet_sent a port mark packet None leads counted h = on_each P (protocol_of packet == control_protocol) (ifmp_holds a port packet (ifmp_decoded (drop 20 packet))) (counted_at (forwards_packet a mark packet) port packet)
      (λ is. ifmp_holds_kept Any (λ item f b. tt) P kept (λ node p l flow. tt) a port packet (drop 20 packet) (ifmp_decoded (drop 20 packet)) refl h)
      (λ other. counted_kept Any (λ item f b. tt) P kept (forwards_packet a mark packet) port packet (routes_sent a mark packet leads (counted other) h))

  default_sent : (a : Acted) (port : PortNo) (mark : Mark) (r : Result (List ℕ) EncapsFault) → LeadsWell a → ((packet : List ℕ) → r ≡ Ok packet → (protocol_of packet == control_protocol) ≡ false → IsCounted mark) → P a
      → P (default_holds a port mark r)
  default_sent a port mark (Err fault) leads counted h = like a (default_holds a port mark (Err fault)) refl refl refl h
  default_sent a port mark (Ok packet) leads counted h = packet_sent a port mark packet (first_fault packet) leads (counted packet refl) h

  frame_sent : (a : Acted) (taker : Taker) (mark : Mark) (payload : List ℕ) → LeadsWell a → IsReadAs taker mark payload → P a → P (frame_holds a taker mark payload)
  frame_sent a ForGsmp mark payload leads read h = gsmp_holds_kept Any (λ item f b. tt) P kept (λ node p l flow. tt) a (gsmp_decoded payload) h
  frame_sent a (ForDefault linked) mark payload leads read h = default_sent a linked.setup.port mark (default_unwrapped payload) leads read h
  frame_sent a (ForLabel linked label) mark payload leads read h = label_sent a linked label mark (unwrapped label.flow payload) leads read h

  -- *A cell comes*
  module _ (a : Acted) (cell : Cell)
      (reads : (taker : Taker) → taker_of a.controller cell.header.channel ≡ Some taker → Reads taker (taken a.notes (nat_lt 0 (free_slots a.controller)) (reassembly_of a.controller taker) cell).ended)
      (leads : (taker : Taker) (t : Taken) → taker_of a.controller cell.header.channel ≡ Some taker → LeadsWell (with_reassembly (record a { notes = t.notes }) taker t.reassembly)) where
    taken_sent : (taker : Taker) → taker_of a.controller cell.header.channel ≡ Some taker → P a → P (takes_cell a cell (Some taker))
    taken_sent taker is h = by t.ended (reads taker is)
      where
        t : Taken
        t = taken a.notes (nat_lt 0 (free_slots a.controller)) (reassembly_of a.controller taker) cell

        b : Acted
        b = with_reassembly (record a { notes = t.notes }) taker t.reassembly

        same : t.notes.frames ≡ a.notes.frames
        same = taken_frames a.notes (nat_lt 0 (free_slots a.controller)) (reassembly_of a.controller taker) cell

        put_taker : (taker : Taker) → P (with_reassembly (record a { notes = t.notes }) taker t.reassembly)
        put_taker ForGsmp = like a (with_reassembly (record a { notes = t.notes }) ForGsmp t.reassembly) refl same refl h
        put_taker (ForDefault linked) = like a (with_reassembly (record a { notes = t.notes }) (ForDefault linked) t.reassembly) refl same refl h
        put_taker (ForLabel linked label) = like a (with_reassembly (record a { notes = t.notes }) (ForLabel linked label) t.reassembly) refl same refl h

        by_payload : (first : Cell) (cells : List Cell) → Reads taker (first ∷ cells) → (o : Option (List ℕ)) → payload_in (octets_of (first ∷ cells)) ≡ o
            → P (opened_frame (record b { notes = (tested_by b.notes (first ∷ cells) o).notes }) taker (last_mark (first ∷ cells)) (tested_by b.notes (first ∷ cells) o).payload)
        by_payload first cells read None e = like b (record b { notes = broken b.notes (marks_of (first ∷ cells)) }) refl (broken_same (marks_of (first ∷ cells)) b.notes) refl (put_taker taker)
        by_payload first cells read (Some payload) e = frame_sent (record b { notes = passed_test b.notes (last_mark (first ∷ cells)) payload }) taker (last_mark (first ∷ cells)) payload (leads taker t is)
            (read payload e)
            (like b (record b { notes = passed_test b.notes (last_mark (first ∷ cells)) payload }) refl (passed_frames b.notes (last_mark (first ∷ cells)) payload) refl (put_taker taker))

        by : (cells : List Cell) → Reads taker cells → P (ends_frame b taker cells)
        by [] read = put_taker taker
        by (first ∷ cells) read = by_payload first cells read (payload_in (octets_of (first ∷ cells))) refl

    pub cell_sent : P a → P (cell_comes a cell)
    cell_sent h = by (taker_of a.controller cell.header.channel) refl
      where
        by : (o : Option Taker) → taker_of a.controller cell.header.channel ≡ o → P (takes_cell a cell o)
        by None is = like a (takes_cell a cell None) refl refl refl h
        by (Some taker) is = taken_sent taker is h
