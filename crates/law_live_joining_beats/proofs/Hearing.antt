-- what a carry brings a controller in peace is a frame in peace

use Rattle.std.proofs.Common.{◌≡◌, ◌⊎◌, inl, inr, ℕ, ◌<◌, ◌≤◌, ◌+◌, ◌*◌, ◌^◌, Bool, true, false, List, [], ◌∷◌, drop, Option, None, Some, Result, Ok, Err, refl, sym, ◌∙◌, ap, subst, arith, if◌then◌else◌}
use Rattle.std.specs.Prelude.{◌==◌, ◌&&◌, nat_lt}
use Rattle.std.specs.Option.{option_map, option_map_or, option_and_then}
use Rattle.world_model.specs.Words.{Addr, NodeId, PortNo, Up, Channel, Cell, payload_of, payload_in, last_mark, Reassembly, PacketFault, EncapsFault, protocol_of, source_of, control_protocol, default_payload, default_unwrapped, default_channel, default_home, ifmp_packet_of, ifmp_of, Controller, Linked, linked_at, taker_of, reassembly_of, same_channel, ForGsmp, ForDefault, ForLabel, is_linked, Topology, World, Site, site_at, queue_at, next, IsTopology, CountsAsItsFrame, OfController, arrival, cell_for, has_slot, reassembly_at, taken_at}
use Rattle.world_model.specs.Ways.{ifmp_in, ok_of}
use Rattle.world_model.specs.ipv4_packet.Packet.{first_fault}
use Rattle.world_model.specs.ifmp_wire.Message.{octets_of as ifmp_octets}
use Rattle.world_model.specs.ifmp_wire.Fields.{decoded as ifmp_decoded}
use Rattle.world_model.specs.ifmp_wire.declared.message.Message.{Message}
use Rattle.world_model.specs.ifmp_wire.declared.reader.Fault.{Fault}
use Rattle.world_model.specs.frame_model.Frame.{octets_of}
use Rattle.world_model.specs.frame_model.Reassembly.{Taken, taken}
use Rattle.world_model.specs.Controller.{Acted, free_slots}
use Rattle.world_model.specs.Cells.{Taker}
use Rattle.world_model.specs.Stretches.{Reassembler, ended_at, controller_arrival}
use Rattle.world_model.specs.Topology.{peer_of}
use Rattle.world_model.specs.network_model.declared.link.LinkEnd.{LinkEnd}
use Rattle.world_model.specs.network_model.declared.event.Event.TheVariants.{Carry}
use Rattle.world_model.proofs.Lists.{by_eq}
use Rattle.law_live_brought.specs.law_port_facts.ordered_lists.Ordered.{Every}
use Rattle.law_actor_pace.proofs.Cells.{ended_last}
use Rattle.law_live_brought.proofs.law_causes.Shown.{peer_back}
use Rattle.law_live_brought.proofs.law_causes.Turning.{same_left}
use Rattle.law_live_brought.proofs.law_run_facts.Takers.{default_of}
use Rattle.law_live_brought.specs.law_run_facts.law_world_views.law_shown_cells.Seen.{Extends}
use Rattle.law_live_brought.specs.law_frame_readings.law_shown_cells.Label.{Told}
use Rattle.law_live_brought.specs.law_frame_readings.Reading.{IsToldAs, IsHeardAs}
use Rattle.law_live_brought.proofs.law_frame_readings.Packets.{is_heard}
use Rattle.law_live_brought.proofs.law_frame_readings.law_wire.Packets.{unwrapped_again}
use Rattle.law_live_brought.proofs.law_live_frames.Coming.{same_itself}
use Rattle.law_live_brought.specs.law_live_links.Law.{AreAgreed}
use Rattle.law_live_brought.specs.law_live_worlds.Law.{end_of}
use Rattle.law_live_brought.proofs.law_live_elsewhere.Elsewhere.{taker_is_of}
use Rattle.law_live_brought.specs.law_live_hearing.Law.{acting}
use Rattle.law_live_brought.specs.law_live_orders.Law.{is_last_on, coming}
use Rattle.law_live_brought.specs.law_live_orders.Messages.{HoldsNone, IsFirst, IsPassed}
use Rattle.law_live_brought.proofs.law_live_orders.Coming.{first_messages_are_heard}
use Rattle.law_live_brought.proofs.law_live_orders.Marks.{channel_is}
use Rattle.law_live_brought.proofs.law_live_control_links.Reading.{gsmp_alone}
use Rattle.law_live_brought.specs.law_live_passed_by.Law.{HoldNone, BringsNone, OnlyCounts, IsCellForOthers, AreForOthers, IsForOthersAt}
use Rattle.law_live_brought.specs.law_live_going.Law.{IsWritten}
use Rattle.law_live_brought.proofs.law_live_peace.Carries.{all_stay}
use Rattle.law_live_brought.proofs.law_live_peace.Going.{Stands}
use Rattle.law_live_brought.proofs.law_live_calm_nodes.Links.{LinkGoes}
use Rattle.law_live_brought.proofs.law_live_calm_nodes.Control.{HasPeer, has_peer}
use Rattle.law_live_joining.specs.Frames.{IsPeers, IsPeersIf, IsPeacefulAs, IsPeacefulPacket, IsPeacefulIn, IsFrameInPeace}
use Rattle.law_live_joining_beats.proofs.Cells.{taken_by, EndsInPeace}

one_payload : (x y : List ℕ) → Some x ≡ Some y → x ≡ y
one_payload x y e = cc

one_linked : (x y : Linked) → Some x ≡ Some y → x ≡ y
one_linked x y e = cc

one_site : (x y : Site) → Some x ≡ Some y → x ≡ y
one_site x y e = cc

both_true : (a b : Bool) → a ≡ true → b ≡ true → (a && b) ≡ true
both_true true true e f = refl
both_true true false e f = absurd (cc f)
both_true false b e f = absurd (cc e)

second : (a b : Bool) → (a && b) ≡ true → b ≡ true
second true b e = e
second false b e = absurd (cc e)

-- *A packet that is only counted*, at the port that takes it
module _ (a : Acted) (q : Linked) (payload : List ℕ) (holds_none : ifmp_of payload ≡ None) (only : OnlyCounts a q payload) where
  not_heard : (source : Addr) (read : Result Message Fault) → ok_of read ≡ None → IsPeersIf q source read
  not_heard source (Err fault) e = tt
  not_heard source (Ok message) e = absurd (cc e)

  counted_as : (packet : List ℕ) → default_unwrapped payload ≡ Ok packet → first_fault packet ≡ None → IsPeacefulAs a q packet (protocol_of packet == control_protocol)
  counted_as packet e whole = by_eq (protocol_of packet) control_protocol
      (λ same t. subst (IsPeacefulAs a q packet) (sym t) (not_heard (source_of packet) (ifmp_decoded (drop 20 packet))
      (ap (λ (message : Bool). if message then ok_of (ifmp_decoded (drop 20 packet)) else None) (sym t)
      ∙ (ap (λ (read : Result (List ℕ) EncapsFault). option_and_then ifmp_in (ok_of read)) (sym e) ∙ holds_none))))
      (λ differs t. subst (IsPeacefulAs a q packet) (sym t) (only packet e whole differs))

  counted_packet : (packet : List ℕ) → default_unwrapped payload ≡ Ok packet → (fault : Option PacketFault) → first_fault packet ≡ fault → IsPeacefulPacket a q packet fault
  counted_packet packet e (Some fault) is = tt
  counted_packet packet e None is = counted_as packet e is

  pub counted_in : (read : Result (List ℕ) EncapsFault) → default_unwrapped payload ≡ read → IsPeacefulIn a q read
  counted_in (Err fault) e = tt
  counted_in (Ok packet) e = counted_packet packet e (first_fault packet) refl

-- *A message of the peer*, in its packet
module _ (a : Acted) (linked : Linked) (address : Addr) (message : Message) (low : address.0 < 2 ^ 32) (can : IsWritten message) where
  abbrev packet : List ℕ
  packet = ifmp_packet_of address (ifmp_octets message)

  abbrev item : Told
  item = record { source = address; message = message }

  told : IsToldAs (record { packet = 0; frame = 0 }) (default_payload packet) item
  told = record { control = refl; source = low; in_range = can.range; fits = can.fits; filled = refl }

  pub read_again : IsHeardAs packet item
  read_again = is_heard (record { packet = 0; frame = 0 }) (default_payload packet) item told

  pub heard_in : IsPeers linked (source_of packet) message → IsPeacefulIn a linked (default_unwrapped (default_payload packet))
  heard_in peers = subst (IsPeacefulIn a linked) (sym (unwrapped_again packet))
      (subst (IsPeacefulPacket a linked packet) (sym read_again.whole)
      (subst (IsPeacefulAs a linked packet) (sym read_again.control)
      (subst (IsPeersIf linked (source_of packet)) (sym read_again.message) peers)))

module _ (topology : Topology) (is : IsTopology topology) (v : World) (node : NodeId) (site : Site) (found : site_at v node ≡ Some site)
    (cell : Cell) (cells : List Cell) (queue : queue_at v (Up node) ≡ cell ∷ cells) (last : cell.header.last ≡ true) (counts : CountsAsItsFrame v (Carry (Up node)))
    (stays : Extends v.notes.frames (next topology v (Carry (Up node))).notes.frames)
    (links : (one far : LinkEnd) → peer_of topology one.node one.port ≡ Some far → LinkGoes topology v one far)
    (others : (one far : LinkEnd) → peer_of topology one.node one.port ≡ Some far → BringsNone v one (Up node) → IsForOthersAt v one (Up node))
    (linked_ports : (port : PortNo) (linked : Linked) → linked_at site.controller port ≡ Some linked → is_linked topology node port ≡ true)
    (own_port : PortNo) (own_far : LinkEnd) (own_link : peer_of topology node own_port ≡ Some own_far) where
  abbrev a : Acted
  a = acting v site

  abbrev channel : Channel
  channel = cell.header.channel

  abbrev of_channel : Reassembler
  of_channel = OfController node channel

  -- *A chain that passes its test* has what was made under the cell's mark
  module _ (taker : Taker) (takes : taker_of site.controller channel ≡ Some taker) where
    abbrev r : Reassembly
    r = reassembly_of site.controller taker

    abbrev slot : Bool
    slot = nat_lt 0 (free_slots site.controller)

    comes : cell_for of_channel (arrival v (Carry (Up node))) ≡ Some cell
    comes = ap (λ (q : List Cell). cell_for of_channel (controller_arrival node q)) queue ∙ ap (λ (b : Bool). if b then Some cell else None) (same_itself of_channel)

    gathered : reassembly_at v of_channel ≡ Some r
    gathered = ap (λ (o : Option Site). option_and_then (λ (c : Controller). option_map (reassembly_of c) (taker_of c channel)) (option_map (λ (s : Site). s.controller) o)) found
        ∙ ap (option_map (reassembly_of site.controller)) takes

    has_room : has_slot v of_channel ≡ slot
    has_room = ap (λ (o : Option Site). option_map_or (λ (c : Controller). nat_lt 0 (free_slots c)) (option_map (λ (s : Site). s.controller) o) false) found

    ended : ended_at v (Carry (Up node)) of_channel ≡ (taken_by a cell taker).ended
    ended = ap (λ o. option_map_or (λ (u : Taken). u.ended) (taken_at v of_channel o (cell_for of_channel (arrival v (Carry (Up node))))) []) gathered
        ∙ (ap (λ o. option_map_or (λ (u : Taken). u.ended) (taken_at v of_channel (Some r) o) []) comes
        ∙ (ap (λ (b : Bool). (taken v.notes b r cell).ended) has_room ∙ (same_left v.notes a.notes slot r cell).1))

    made : (first : Cell) (rest : List Cell) (payload : List ℕ) → (taken_by a cell taker).ended ≡ first ∷ rest → payload_in (octets_of (first ∷ rest)) ≡ Some payload
        → payload_of v.notes.frames cell.mark ≡ Some payload
    made first rest payload e passes =
        let chain : ended_at v (Carry (Up node)) of_channel ≡ first ∷ rest = ended ∙ e in
        ap (payload_of v.notes.frames) (sym (ap last_mark chain ∙ ended_last a.notes slot r cell first rest e))
        ∙ counts of_channel payload (ap (λ (cs : List Cell). payload_in (octets_of cs)) chain ∙ passes)

  -- *What is for others* than the port of a link of the node
  for_others : (port : PortNo) (far : LinkEnd) → peer_of topology node port ≡ Some far → (is_last_on (default_home port).channel cell ≡ true → HoldsNone v.notes.frames cell.mark) → IsCellForOthers v port site cell
  for_others port far linked none =
      subst (λ (q : List Cell). AreFor q → IsCellForOthers v port site cell) (sym queue) (λ are. are last site found)
      (others one far linked (λ same. subst (HoldNone v one) (sym queue) none) refl)
    where
      one : LinkEnd
      one = record { node = node; port = port }

      AreFor : List Cell → Type 0
      AreFor q = AreForOthers v one q

  -- *The switch's*
  by_gsmp : taker_of site.controller channel ≡ Some ForGsmp → (payload : List ℕ) → payload_of v.notes.frames cell.mark ≡ Some payload → IsFrameInPeace a ForGsmp payload
  by_gsmp takes payload made_it = ((for_others own_port own_far own_link (λ last_on. absurd (apart last_on))).passes ForGsmp payload takes made_it).1
    where
      some : 1 ≤ own_port.0
      some = (peer_back topology is (record { node = node; port = own_port }) own_far own_link).own.0

      apart : is_last_on (default_home own_port).channel cell ≡ true → ⊥
      apart last_on = zero_apart own_port.0 some
          (ap (λ (c : Channel). c.vpi) (sym (channel_is channel default_channel (gsmp_alone site.controller channel takes))
          ∙ channel_is channel (default_home own_port).channel (second cell.header.last (same_channel channel (default_home own_port).channel) last_on)))
        where
          zero_apart : (n : ℕ) → 1 ≤ n → 0 ≡ 16 * n + 0 → ⊥
          zero_apart n low e = omega (arith, low, e)

  -- *On a default channel*
  module _ (q : Linked) (takes : taker_of site.controller channel ≡ Some (ForDefault q)) (payload : List ℕ) (made_it : payload_of v.notes.frames cell.mark ≡ Some payload)
      (far : LinkEnd) (linked : peer_of topology node q.setup.port ≡ Some far) where
    abbrev one : LinkEnd
    one = record { node = node; port = q.setup.port }

    own : linked_at site.controller q.setup.port ≡ Some q
    own = taker_is_of site.controller channel (ForDefault q) takes

    last_on : is_last_on (default_home q.setup.port).channel cell ≡ true
    last_on = both_true cell.header.last (same_channel channel (default_home q.setup.port).channel) last (default_of site.controller channel q takes)

    abbrev g : LinkGoes topology v one far
    g = links one far linked

    abbrev s : Stands g.address g.far_address v one far
    s = g.stands

    abbrev InPeace : Type 0
    InPeace = (l : Linked) → linked_at site.controller q.setup.port ≡ Some l → IsPeacefulIn a l (default_unwrapped payload)

    by_passed : IsPassed g.far_address v (next topology v (Carry (Up node))) far one cell.mark s.far_said → InPeace
    by_passed passed l at_l = subst (λ (x : Linked). IsPeacefulIn a x (default_unwrapped payload)) (one_linked q l (sym own ∙ at_l))
        (counted_in a q payload none (((for_others q.setup.port far linked (λ again. passed.holds_none)).passes (ForDefault q) payload takes made_it).1 refl) (default_unwrapped payload) refl)
      where
        none : ifmp_of payload ≡ None
        none = ap ifmp_of (one_payload payload passed.holds_none.payload (sym made_it ∙ passed.holds_none.made)) ∙ passed.holds_none.no_message

    by_first : IsFirst g.far_address v (next topology v (Carry (Up node))) far one cell.mark s.far_said → InPeace
    by_first first l at_l = subst (λ (x : List ℕ). IsPeacefulIn a l (default_unwrapped x)) (sym payload_is) (heard_in a l g.far_address first.message g.far_low can peers)
      where
        can : IsWritten first.message
        can = (subst (Every IsWritten) first.are s.far_written).0

        payload_is : payload ≡ default_payload (ifmp_packet_of g.far_address (ifmp_octets first.message))
        payload_is = one_payload payload (default_payload (ifmp_packet_of g.far_address (ifmp_octets first.message))) (sym made_it ∙ first.says)

        same_linked : s.agree.linked ≡ l
        same_linked = one_linked s.agree.linked l (sym s.agree.shows.of_port
            ∙ (ap (λ (x : Site). linked_at x.controller q.setup.port) (one_site s.agree.shows.site site (sym s.agree.shows.there ∙ found)) ∙ at_l))

        peers : IsPeers l (source_of (ifmp_packet_of g.far_address (ifmp_octets first.message))) first.message
        peers = record {
          said = s.said;
          other = end_of s.agree.far_linked s.far_said;
          rest = first.rest;
          agreed = subst (λ (x : Linked). AreAgreed (end_of x s.said) (end_of s.agree.far_linked s.far_said)) same_linked s.agree.agreed;
          first = first.are;
          from = (read_again a l g.far_address first.message g.far_low can).source ∙ sym (s.agree.far_shows.address ∙ s.far_own);
        }

    by_either : IsFirst g.far_address v (next topology v (Carry (Up node))) far one cell.mark s.far_said
        ⊎ IsPassed g.far_address v (next topology v (Carry (Up node))) far one cell.mark s.far_said → InPeace
    by_either (inl first) = by_first first
    by_either (inr passed) = by_passed passed

    by_default : InPeace
    by_default = by_either (first_messages_are_heard topology v far one cell cells g.far_address s.far_said is g.back queue last_on s.back
        (all_stay v.notes.frames (next topology v (Carry (Up node))).notes.frames (coming v far one) stays))

  in_peace : (taker : Taker) → taker_of site.controller channel ≡ Some taker → (payload : List ℕ) → payload_of v.notes.frames cell.mark ≡ Some payload → IsFrameInPeace a taker payload
  in_peace ForGsmp takes payload made_it = by_gsmp takes payload made_it
  in_peace (ForLabel q label) takes payload made_it = tt
  in_peace (ForDefault q) takes payload made_it =
      let peer : HasPeer (peer_of topology node q.setup.port) = has_peer (peer_of topology node q.setup.port) (linked_ports q.setup.port q (taker_is_of site.controller channel (ForDefault q) takes)) in
      by_default q takes payload made_it peer.far peer.is

  pub ends_in_peace : (taker : Taker) → taker_of site.controller channel ≡ Some taker → EndsInPeace a cell taker
  ends_in_peace taker takes first rest payload e passes = in_peace taker takes payload (made taker takes first rest payload e passes)
