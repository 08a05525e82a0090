-- packets that are sent on, and what the cells that come to a controller make it do: the widths are kept, and what is made is
-- a packet's or a message's

use Rattle.std.proofs.Common.{◌≡◌, ◌≢◌, ℕ, Bool, true, false, List, [], ◌∷◌, drop, Option, None, Some, Result, Ok, Err, refl, sym, subst, arith, if◌then◌else◌}
use Rattle.std.specs.Prelude.{◌==◌, ◌^◌, ◌<◌, nat_lt}
use Rattle.std.specs.Option.{option_and_then}
use Rattle.std.proofs.lemmas.Bool.Decides.{nat_tests}
use Rattle.law_branch_shapes.specs.world_model.Words.{Channel, PortNo, Mark, Addr, label_number_of, protocol_of, source_of, ifmp_packet_of, PacketFault, hop_of, onward, Hop, Here, On, Cell, kind_of, EncapsFault, default_payload, labelled_payload, default_unwrapped, unwrapped, Unbound, Bad, Loss, Delivered, Dropped, Journal, encaps_refusal, gsmp_refusal, tested_by, payload_in, last_mark, next_mark, Reassembly, cut, nothing_taken, Setup, control_end, Label, is_bound, label_at, Grant, Linked, port_key, linked_at, with_linked, chains_with, default_channel, default_home, sends_control, is_control, sends_next, goes_by, grant_by, forwards_packet, injected, control_protocol, gsmp_holds, cuts_default_of, cuts_default, cuts_gsmp, node_resets, node_restarts, port_on, on_link, same_channel, label_taker, taker_at, taker_of, ForGsmp, ForDefault, ForLabel, reassembly_of, with_reassembly, label_holds, ifmp_holds, counted_at, packet_holds, default_holds, frame_holds, takes_cell}
use Rattle.law_branch_shapes.specs.world_model.ipv4_packet.Packet.{first_fault}
use Rattle.law_branch_shapes.specs.world_model.ipv4_forward.declared.outcome.Hop.TheVariants.{NoRoute, Expired}
use Rattle.law_branch_shapes.specs.world_model.ifmp_wire.declared.message.Message.{Message as IfmpMessage}
use Rattle.law_branch_shapes.specs.world_model.ifmp_wire.declared.reader.Fault.{Fault as IfmpFault}
use Rattle.law_branch_shapes.specs.world_model.ifmp_wire.Message.{octets_of as ifmp_octets}
use Rattle.law_branch_shapes.specs.world_model.ifmp_wire.Fields.{decoded as ifmp_decoded}
use Rattle.law_branch_shapes.specs.world_model.gsmp_wire.declared.fault.Fault.{Fault}
use Rattle.law_branch_shapes.specs.world_model.gsmp_wire.declared.message.Message.{Message}
use Rattle.law_branch_shapes.specs.world_model.gsmp_wire.Fields.{decoded as gsmp_decoded}
use Rattle.law_branch_shapes.specs.world_model.link_model.declared.record.Layer.TheVariants as layers
use Rattle.law_branch_shapes.specs.world_model.link_model.declared.record.DropCause.TheVariants as causes_of
use Rattle.law_branch_shapes.specs.world_model.frame_model.Frame.{octets_of}
use Rattle.law_branch_shapes.specs.world_model.frame_model.Reassembly.{Taken, taken}
use Rattle.law_branch_shapes.specs.world_model.port_model.Port.{Port}
use Rattle.law_frame_readings.proofs.law_port_facts.Keyed.{on_each, at_every, put_every}
use Rattle.law_frame_readings.proofs.law_port_facts.Rules.{and_first}
use Rattle.law_branch_shapes.specs.world_model.Controller.{Acted, free_slots, ports_of}
use Rattle.law_branch_shapes.specs.world_model.Sending.{sends}
use Rattle.law_branch_shapes.specs.world_model.Packets.{forwarded}
use Rattle.law_frame_readings.proofs.law_controller_facts.Performing.{Any, any_ports}
use Rattle.law_branch_shapes.specs.world_model.Cells.{after_test, Taker, ends_frame, after_cell, cell_comes}
use Rattle.law_frame_readings.proofs.law_controller_facts.Moves.{Found, taking_notes, gathering, chaining, moves_to, HasPorts, found_at_own}
use Rattle.law_frame_readings.proofs.law_controller_facts.Events.{IsTaker}
use Rattle.law_frame_readings.proofs.law_controller_lifts.Kept.{Of}
use Rattle.law_frame_readings.proofs.law_controller_lifts.Ready.{Fits as FitsIn}
use Rattle.law_frame_readings.proofs.law_controller_lifts.Unspent.{Unspent}
use Rattle.law_frame_readings.specs.law_world_views.Made.{IsFit, IsMadeAs, plain, labelled}
use Rattle.law_frame_readings.specs.Reading.{Holds, sent, told as holds_told}
use Rattle.law_frame_readings.proofs.Packets.{is_forwarded, is_heard}
use Rattle.law_frame_readings.proofs.Reading.{read_default, read_said}
use Rattle.law_frame_readings.proofs.law_shown_cells.Tested.{cut_frames, taken_frames, tested_frames}
use Rattle.law_running_worlds.proofs.Making.{fit_onward, grant_by_is, carries_onward}
use Rattle.law_running_worlds.proofs.Walk.{To, stays, goes_on, to_fold, alike_to, note_to, node_to, sends_to}
use Rattle.law_running_worlds.proofs.Rules.{hears_to, counts_to, used_to}
use Rattle.law_running_worlds.proofs.Meeting.{told_to}

module _ (setups : List Setup) where
  -- *Packets*: one goes on in its next frame
  sends_next_to : (a : Acted) (came : Mark) (channel : Channel) (payload : List ℕ) → came.packet ≢ 0 → IsMadeAs (next_mark came) payload → To setups a (sends_next a came channel payload)
  sends_next_to a came channel payload counted it = on_each (To setups a) (is_control came) (sends_control a channel payload) (sends a channel (next_mark came) payload)
      (λ t. absurd (counted (zero_is came.packet (and_first (came.packet == 0) (nat_lt 0 came.frame) t)))) (λ f. sends_to setups a channel (next_mark came) payload (λ base c. it))
    where
      zero_is : (n : ℕ) → (n == 0) ≡ true → n ≡ 0
      zero_is n e = grind (arith, nat_tests)

  goes_by_to : (a : Acted) (came : Mark) (port : PortNo) (packet : List ℕ) (o : Option Grant) → came.packet ≢ 0 → IsFit packet → grant_by a.controller port (onward packet) ≡ o → To setups a (goes_by a came port (onward packet) o)
  goes_by_to a came port packet None counted fit is = sends_next_to a came (default_home port).channel (default_payload (onward packet)) counted (plain counted (onward packet) (fit_onward packet fit) refl)
  goes_by_to a came port packet (Some grant) counted fit is = sends_next_to a came (control_end port grant.label).channel (labelled_payload (kind_of grant.flow) (onward packet)) counted
      (labelled counted grant.flow (onward packet) (fit_onward packet fit) (carries_onward grant.flow packet fit (grant_by_is a.controller port (onward packet) grant is)))

  forwarded_to : (a : Acted) (came : Mark) (packet : List ℕ) (hop : Hop) → came.packet ≢ 0 → IsFit packet → To setups a (forwarded a came packet hop)
  forwarded_to a came packet Here counted fit = note_to setups a (Delivered a.controller.node came.packet packet)
  forwarded_to a came packet NoRoute counted fit = note_to setups a (Dropped a.controller.node came.packet causes_of.NoRoute)
  forwarded_to a came packet Expired counted fit = note_to setups a (Dropped a.controller.node came.packet causes_of.Expired)
  forwarded_to a came packet (On port) counted fit = goes_by_to a came port packet (grant_by a.controller port (onward packet)) counted fit refl

  pub routes_to : (a : Acted) (came : Mark) (packet : List ℕ) → came.packet ≢ 0 → IsFit packet → To setups a (forwards_packet a came packet)
  routes_to a came packet counted fit = forwarded_to a came packet (hop_of a.controller.table packet) counted fit

  -- *A packet of a label's channel*
  label_holds_to : (a : Acted) (linked : Linked) (label : Label) (mark : Mark) (r : Result (List ℕ) EncapsFault) → ((packet : List ℕ) → r ≡ Ok packet → (mark.packet ≢ 0) × IsFit packet) → HasPorts setups a
      → To setups a (label_holds a linked label mark r)
  label_holds_to a linked label mark (Err fault) is h = note_to setups a (Bad a.controller.node layers.Encaps (encaps_refusal fault))
  label_holds_to a linked label mark (Ok packet) is h = goes_on setups h (routes_to a mark packet (is packet refl).0 (is packet refl).1) (λ k. used_to setups (forwards_packet a mark packet) linked.setup.port label.number k)

  -- *Of a default channel*: a packet that may be in the network, or a message
  sent_to : (a : Acted) (port : PortNo) (mark : Mark) (packet : List ℕ) → HasPorts setups a → mark.packet ≢ 0 → IsFit packet → To setups a (packet_holds a port mark packet (first_fault packet))
  sent_to a port mark packet h counted fit =
      let whole : first_fault packet ≡ None = (is_forwarded packet fit).whole in
      let other : (protocol_of packet == control_protocol) ≡ false = (is_forwarded packet fit).other in
      subst (λ (o : Option PacketFault). To setups a (packet_holds a port mark packet o)) (sym whole)
      (subst (λ (b : Bool). To setups a (if b then ifmp_holds a port packet (ifmp_decoded (drop 20 packet)) else counted_at (forwards_packet a mark packet) port packet)) (sym other)
      (goes_on setups h (routes_to a mark packet counted fit) (λ k. counts_to setups (forwards_packet a mark packet) port packet k fit)))

  packet_to : (a : Acted) (port : PortNo) (mark : Mark) (payload packet : List ℕ) → HasPorts setups a → Holds mark payload packet → To setups a (packet_holds a port mark packet (first_fault packet))
  packet_to a port mark payload packet h (sent counted fit filled) = sent_to a port mark packet h counted fit
  packet_to a port mark payload packet h (holds_told item t same) =
      subst (λ (p : List ℕ). To setups a (packet_holds a port mark p (first_fault p))) (sym same)
      (subst (λ (o : Option PacketFault). To setups a (packet_holds a port mark ip o)) (sym (is_heard mark payload item t).whole)
      (subst (λ (b : Bool). To setups a (if b then ifmp_holds a port ip (ifmp_decoded (drop 20 ip)) else counted_at (forwards_packet a mark ip) port ip)) (sym (is_heard mark payload item t).control)
      (subst (λ (r : Result IfmpMessage IfmpFault). To setups a (ifmp_holds a port ip r)) (sym (is_heard mark payload item t).message)
      (hears_to setups a port (source_of ip) item.message h (subst (λ (s : Addr). s.0 < 2 ^ 32) (sym (is_heard mark payload item t).source) t.source) t.in_range t.fits))))
    where
      ip : List ℕ
      ip = ifmp_packet_of item.source (ifmp_octets item.message)

  default_holds_to : (a : Acted) (port : PortNo) (mark : Mark) (payload : List ℕ) → HasPorts setups a → IsMadeAs mark payload → To setups a (default_holds a port mark (default_unwrapped payload))
  default_holds_to a port mark payload h made = by (default_unwrapped payload) refl
    where
      by : (r : Result (List ℕ) EncapsFault) → default_unwrapped payload ≡ r → To setups a (default_holds a port mark r)
      by (Err fault) is = note_to setups a (Bad a.controller.node layers.Encaps (encaps_refusal fault))
      by (Ok packet) is = packet_to a port mark payload packet h (read_default mark payload packet made is)

  -- *Of the GSMP channel*
  gsmp_holds_to : (a : Acted) (mark : Mark) (payload : List ℕ) → HasPorts setups a → IsMadeAs mark payload → To setups a (gsmp_holds a (gsmp_decoded payload))
  gsmp_holds_to a mark payload h made = by (gsmp_decoded payload) refl
    where
      by : (r : Result Message Fault) → gsmp_decoded payload ≡ r → To setups a (gsmp_holds a r)
      by (Err fault) is = note_to setups a (Bad a.controller.node layers.Gsmp (gsmp_refusal fault))
      by (Ok message) is = told_to setups a message h (read_said mark payload message made is).fits

  -- *A frame* that was made, where a label's packets may be in the network
  abbrev pub IsRead : Taker → Mark → (payload : List ℕ) → Type 0
  IsRead ForGsmp mark payload = Unit {0}
  IsRead (ForDefault linked) mark payload = Unit {0}
  IsRead (ForLabel linked label) mark payload = (packet : List ℕ) → unwrapped label.flow payload ≡ Ok packet → (mark.packet ≢ 0) × IsFit packet

  frame_holds_to : (a : Acted) (taker : Taker) (mark : Mark) (payload : List ℕ) → HasPorts setups a → IsMadeAs mark payload → IsRead taker mark payload → To setups a (frame_holds a taker mark payload)
  frame_holds_to a ForGsmp mark payload h made read = gsmp_holds_to a mark payload h made
  frame_holds_to a (ForDefault linked) mark payload h made read = default_holds_to a linked.setup.port mark payload h made
  frame_holds_to a (ForLabel linked label) mark payload h made read = label_holds_to a linked label mark (unwrapped label.flow payload) read h

  -- *What a cell ends*: a chain that passes is such a frame
  abbrev pub Ends : Taker → List Cell → Type 0
  Ends taker [] = Unit {0}
  Ends taker (first ∷ cells) = (payload : List ℕ) → payload_in (octets_of (first ∷ cells)) ≡ Some payload
      → IsMadeAs (last_mark (first ∷ cells)) payload × IsRead taker (last_mark (first ∷ cells)) payload

  notes_to : (a : Acted) (notes : Journal) → notes.frames ≡ a.notes.frames → To setups a (record a { notes = notes })
  notes_to a notes frames = alike_to setups a (record a { notes = notes }) (moves_to (taking_notes a notes)) refl refl refl frames

  tested_to : (a : Acted) (taker : Taker) (first : Cell) (cells : List Cell) (o : Option (List ℕ)) → payload_in (octets_of (first ∷ cells)) ≡ o → HasPorts setups a → Ends taker (first ∷ cells)
      → To setups a (after_test a taker (last_mark (first ∷ cells)) (tested_by a.notes (first ∷ cells) o))
  tested_to a taker first cells None is h ends = notes_to a (tested_by a.notes (first ∷ cells) None).notes (tested_frames a.notes (first ∷ cells) None)
  tested_to a taker first cells (Some payload) is h ends =
      let notes : Journal = (tested_by a.notes (first ∷ cells) (Some payload)).notes in
      goes_on setups h (notes_to a notes (tested_frames a.notes (first ∷ cells) (Some payload)))
      (λ k. frame_holds_to (record a { notes = notes }) taker (last_mark (first ∷ cells)) payload k (ends payload is).0 (ends payload is).1)

  ended_to : (a : Acted) (taker : Taker) (cells : List Cell) → HasPorts setups a → Ends taker cells → To setups a (ends_frame a taker cells)
  ended_to a taker [] h ends = stays setups a
  ended_to a taker (first ∷ cells) h ends = tested_to a taker first cells (payload_in (octets_of (first ∷ cells))) refl h ends

  -- *What a channel makes of its cells*
  chained_to : (a : Acted) (linked after : Linked) → Found setups a linked → after.setup ≡ linked.setup → after.port ≡ linked.port → To setups a (with_linked a after)
  chained_to a linked after found setup port = record {
    moves = moves_to (chaining a linked after found setup port);
    carried = λ small base c. record { wide = put_every port_key (Of FitsIn) after a.controller.ports (of FitsIn (at_every port_key (Of FitsIn) linked.setup.port.0 a.controller.ports linked c.wide found)) c.wide; rows = c.rows; side = c.side; made = c.made };
    unspent = λ small sound u. put_every port_key (Of Unspent) after a.controller.ports (of Unspent (at_every port_key (Of Unspent) linked.setup.port.0 a.controller.ports linked u found)) u;
  }
    where
      of : (P : Setup → Port → Type 0) → P linked.setup linked.port → P after.setup after.port
      of P h = subst (λ (s : Setup). P s after.port) (sym setup) (subst (λ (p : Port). P linked.setup p) (sym port) h)

  with_reassembly_to : (a : Acted) (taker : Taker) (r : Reassembly) → IsTaker setups a taker → To setups a (with_reassembly a taker r)
  with_reassembly_to a ForGsmp r is = alike_to setups a (with_reassembly a ForGsmp r) (moves_to (gathering a r)) refl refl refl refl
  with_reassembly_to a (ForDefault linked) r is = chained_to a linked (record linked { reassembly = r }) is refl refl
  with_reassembly_to a (ForLabel linked label) r is = chained_to a linked (record linked { chains = chains_with linked.chains label.number r }) is refl refl

  noted_taker : (a : Acted) (taker : Taker) (notes : Journal) → IsTaker setups a taker → IsTaker setups (record a { notes = notes }) taker
  noted_taker a ForGsmp notes is = tt
  noted_taker a (ForDefault linked) notes is = is
  noted_taker a (ForLabel linked label) notes is = is

  abbrev pub taken_by : Acted → Taker → Cell → Taken
  taken_by a taker cell = taken a.notes (nat_lt 0 (free_slots a.controller)) (reassembly_of a.controller taker) cell

  after_cell_to : (a : Acted) (taker : Taker) (cell : Cell) → IsTaker setups a taker → HasPorts setups a → Ends taker (taken_by a taker cell).ended → To setups a (after_cell a taker (taken_by a taker cell))
  after_cell_to a taker cell is h ends =
      let t : Taken = taken_by a taker cell in
      let noted : Acted = record a { notes = t.notes } in
      goes_on setups h (notes_to a t.notes (taken_frames a.notes (nat_lt 0 (free_slots a.controller)) (reassembly_of a.controller taker) cell))
      (λ k. goes_on setups k (with_reassembly_to noted taker t.reassembly (noted_taker a taker t.notes is))
      (λ l. ended_to (with_reassembly noted taker t.reassembly) taker t.ended l ends))

  -- *A cell* comes to the taker of its channel
  pub taker_found : (a : Acted) (channel : Channel) (taker : Taker) → taker_of a.controller channel ≡ Some taker → IsTaker setups a taker
  taker_found a channel taker e = by_gsmp (same_channel channel default_channel) e
    where
      by_bound : (linked : Linked) (label : Label) (b : Bool) → Found setups a linked → ◌≡◌ {A = Option Taker} (if b then Some (ForLabel linked label) else None) (Some taker) → IsTaker setups a taker
      by_bound linked label true found e = (let same : ForLabel linked label ≡ taker = cc in subst (IsTaker setups a) same found)
      by_bound linked label false found e = absurd (cc e)

      by_label : (linked : Linked) (o : Option Label) → Found setups a linked → label_taker linked o ≡ Some taker → IsTaker setups a taker
      by_label linked None found e = absurd (cc e)
      by_label linked (Some label) found e = by_bound linked label (is_bound label.state) found e

      by_default : (linked : Linked) (b : Bool) → Found setups a linked
          → ◌≡◌ {A = Option Taker} (if b then Some (ForDefault linked) else label_taker linked (option_and_then (label_at linked.port) (label_number_of (on_link channel)))) (Some taker) → IsTaker setups a taker
      by_default linked true found e = (let same : ForDefault linked ≡ taker = cc in subst (IsTaker setups a) same found)
      by_default linked false found e = by_label linked (option_and_then (label_at linked.port) (label_number_of (on_link channel))) found e

      by_found : (o : Option Linked) → linked_at a.controller (port_on channel) ≡ o → taker_at o (on_link channel) ≡ Some taker → IsTaker setups a taker
      by_found None found e = absurd (cc e)
      by_found (Some linked) found e = by_default linked (same_channel (on_link channel) default_channel) (found_at_own setups a linked (port_on channel) found) e

      by_gsmp : (b : Bool) → ◌≡◌ {A = Option Taker} (if b then Some ForGsmp else taker_at (linked_at a.controller (port_on channel)) (on_link channel)) (Some taker) → IsTaker setups a taker
      by_gsmp true e = (let same : ForGsmp ≡ taker = cc in subst (IsTaker setups a) same tt)
      by_gsmp false e = by_found (linked_at a.controller (port_on channel)) refl e

  pub cell_comes_to : (a : Acted) (cell : Cell) → HasPorts setups a
      → ((taker : Taker) → taker_of a.controller cell.header.channel ≡ Some taker → Ends taker (taken_by a taker cell).ended) → To setups a (cell_comes a cell)
  cell_comes_to a cell h ends = by (taker_of a.controller cell.header.channel) refl
    where
      by : (o : Option Taker) → taker_of a.controller cell.header.channel ≡ o → To setups a (takes_cell a cell o)
      by None is = note_to setups a (Loss cell.mark Unbound)
      by (Some taker) is = after_cell_to a taker cell (taker_found a cell.header.channel taker is) h (ends taker is)

  -- *A packet enters*
  pub injected_to : (a : Acted) (number : ℕ) (packet : List ℕ) → number ≢ 0 → IsFit packet → To setups a (injected a number packet)
  injected_to a number packet counted fit = routes_to a (record { packet = number; frame = 0 }) packet counted fit

  -- *A restart* makes nothing
  gsmp_cut_to : (a : Acted) → HasPorts setups a → To setups a (cuts_gsmp a)
  gsmp_cut_to a h =
      let notes : Journal = cut a.notes a.controller.reassembly in
      goes_on setups h (notes_to a notes (cut_frames a.notes a.controller.reassembly)) (λ k. with_reassembly_to (record a { notes = notes }) ForGsmp nothing_taken tt)

  default_cut_to : (a : Acted) (port : PortNo) (o : Option Linked) → HasPorts setups a → linked_at a.controller port ≡ o → To setups a (cuts_default_of a o)
  default_cut_to a port None h found = stays setups a
  default_cut_to a port (Some linked) h found =
      let notes : Journal = cut a.notes linked.reassembly in
      goes_on setups h (notes_to a notes (cut_frames a.notes linked.reassembly))
      (λ k. chained_to (record a { notes = notes }) linked (record linked { reassembly = nothing_taken }) (found_at_own setups a linked port found) refl refl)

  pub node_restarts_to : (a : Acted) → HasPorts setups a → To setups a (node_restarts a)
  node_restarts_to a h =
      let fresh : Acted = node_resets a in
      goes_on setups h (node_to setups a h) (λ k. goes_on setups k (gsmp_cut_to fresh k)
      (λ l. to_fold setups (Any setups) cuts_default (λ b port kb any. default_cut_to b port (linked_at b.controller port) kb refl) (ports_of a.controller) (any_ports setups (ports_of a.controller)) (cuts_gsmp fresh) l))
