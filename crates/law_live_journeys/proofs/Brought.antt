-- a packet that is brought to a controller is heard, is sent on or delivered, and is counted

use Rattle.std.proofs.Common.{◌≡◌, ℕ, ◌≤◌, ◌<◌, ◌==◌, ◌&&◌, Bool, true, false, List, [], ◌∷◌, ◌++◌, Option, None, Some, Result, refl, sym, ◌∙◌, ap, subst, arith, drop, if◌then◌else◌}
use Rattle.std.specs.Prelude.{Contains}
use Rattle.std.specs.Option.{option_and_then}
use Rattle.std.proofs.lemmas.Bool.Decides.{nat_tests}
use Rattle.std.proofs.lemmas.List.{append_cancel_left}
use Rattle.std.proofs.lemmas.List.Elements.{Contains-append_right}
use Rattle.world_model.specs.Words.{NodeId, PortNo, Up, Down, Delivered, Channel, Mark, Cell, Record, Journal, EncapsFault, PacketFault, Here, has_entry, payload_of, next_mark, default_payload, onward, hop_of, at, put, nothing_taken, default_channel, default_home, same_channel, port_on, on_link, Controller, Linked, port_key, linked_at, grant_matching, grant_by, inject_refusal, taker_of, ForGsmp, ForDefault, with_reassembly, forwards_packet, counts, counted_at, packet_holds, default_holds, ifmp_holds, frame_holds, Topology, World, site_key, queue_at, next}
use Rattle.world_model.specs.ifmp_wire.Fields.{decoded as ifmp_decoded}
use Rattle.world_model.specs.Controller.{Acted, note}
use Rattle.world_model.specs.Cells.{taker_at, cell_comes}
use Rattle.world_model.specs.network_model.declared.link.LinkEnd.{LinkEnd}
use Rattle.world_model.specs.network_model.declared.event.Event.TheVariants.{Carry}
use Rattle.world_model.proofs.Lists.{by_eq, at_key, at_put_same, at_put_other}
use Rattle.law_live_carried_out.proofs.law_causes.Ends.{parts_of_control}
use Rattle.law_live_carried_out.specs.law_passing.telling_model.Passing.{cells_put_at, left}
use Rattle.law_live_carried_out.proofs.law_passing.Rules.{Adds, at_port_adds}
use Rattle.law_live_carried_out.proofs.law_passing.Worlds.{change_by_passing}
use Rattle.law_live_carried_out.proofs.law_frame_readings.law_wire.Packets.{unwrapped_again}
use Rattle.law_packet_worlds.proofs.Hops.{accepted_parts}
use Rattle.law_live_carried_out.specs.law_live_hearing.Law.{acting, Hears}
use Rattle.law_live_carried_out.proofs.law_live_hearing.Sites.{up_now, up_notes, up_site, queue_of_site}
use Rattle.law_live_carried_out.proofs.law_live_hearing.Hearing.{controller_hears}
use Rattle.law_live_carried_out.proofs.law_live_orders.Hops.{numbers_apart}
use Rattle.law_live_carried_out.proofs.law_live_orders.Marks.{channel_is}
use Rattle.law_live_carried_out.proofs.law_live_orders.Switches.{first, second}
use Rattle.law_live_carried_out.specs.law_live_bound.Law.{HoldsPacket}
use Rattle.law_live_journeys.specs.Law.{frame_on, GoesOn, IsRouted, IsBrought, BroughtPacketsAreHeard, BroughtPacketsForward, BroughtPacketsAreDelivered}
use Rattle.law_live_journeys.proofs.Later.{Later, later_counted}
use Rattle.law_live_journeys.proofs.Sending.{delivers, IsSent, unlost_is_sent}
use Rattle.law_live_journeys.proofs.Acting.{is_taken, acts}

-- *Who takes the cells* of a default channel
not_zero : (n : ℕ) → 1 ≤ n → (n == 0) ≡ false
not_zero n some = grind (arith, nat_tests, some)

pub default_taker : (c : Controller) (port : PortNo) (o : Option Linked) → 1 ≤ port.0 → linked_at c port ≡ o → taker_of c (default_home port).channel ≡ taker_at o default_channel
default_taker c port o some found =
    let home : Channel = (default_home port).channel in
    let parts : ((port_on home).0 ≡ port.0) × (on_link home ≡ default_channel) = parts_of_control port default_channel (omega arith) in
    ap (λ (b : Bool). if (b && true) then Some ForGsmp else taker_at (linked_at c (port_on home)) (on_link home)) (not_zero home.vpi (omega (arith, some)))
    ∙ (ap (λ (k : ℕ). taker_at (at port_key k c.ports) (on_link home)) parts.0
    ∙ (ap (λ (p : Option Linked). taker_at p (on_link home)) found
    ∙ ap (λ (link : Channel). taker_at o link) parts.1))

-- *A packet in a frame* of a default channel, that is no message
pub held : (packet : List ℕ) → inject_refusal packet ≡ None → HoldsPacket (default_payload packet) packet
held packet accepted = (let parts = accepted_parts packet accepted in record { is = unwrapped_again packet; whole = parts.0; no_message = parts.1 })

pub counted_then : (a : Acted) (linked : Linked) (mark : Mark) (packet : List ℕ) → inject_refusal packet ≡ None
    → frame_holds a (ForDefault linked) mark (default_payload packet) ≡ counted_at (forwards_packet a mark packet) linked.setup.port packet
counted_then a linked mark packet accepted =
    let h : HoldsPacket (default_payload packet) packet = held packet accepted in
    ap (λ (r : Result (List ℕ) EncapsFault). default_holds a linked.setup.port mark r) h.is
    ∙ (ap (λ (o : Option PacketFault). packet_holds a linked.setup.port mark packet o) h.whole
    ∙ ap (λ (b : Bool). if b then ifmp_holds a linked.setup.port packet (ifmp_decoded (drop 20 packet)) else counted_at (forwards_packet a mark packet) linked.setup.port packet) h.no_message)

-- *Grants* stay as a chain of cells goes
abbrev emptied : Linked → Linked
emptied linked = record linked { reassembly = nothing_taken }

ungranted_still : (a : Acted) (linked : Linked) (port : PortNo) (packet : List ℕ) → linked_at a.controller linked.setup.port ≡ Some linked
    → grant_by (with_reassembly a (ForDefault linked) nothing_taken).controller port packet ≡ grant_by a.controller port packet
ungranted_still a linked port packet found = by_eq (port_key linked) port.0
    (λ same t. ap (option_and_then (λ (l : Linked). grant_matching l.port.grants packet)) (there same)
    ∙ sym (ap (option_and_then (λ (l : Linked). grant_matching l.port.grants packet)) (subst (λ (n : ℕ). at port_key n a.controller.ports ≡ Some linked) same found)))
    (λ apart t. ap (option_and_then (λ (l : Linked). grant_matching l.port.grants packet)) (at_put_other port_key (emptied linked) port.0 a.controller.ports apart))
  where
    there : port_key linked ≡ port.0 → at port_key port.0 (put port_key (emptied linked) a.controller.ports) ≡ Some (emptied linked)
    there same = subst (λ (n : ℕ). at port_key n (put port_key (emptied linked) a.controller.ports) ≡ Some (emptied linked)) same
        (at_put_same port_key (emptied linked) a.controller.ports linked found)

module _ (topology : Topology) (w : World) (far : LinkEnd) (came : Mark) (packet : List ℕ) (b : IsBrought topology w far came packet) where
  abbrev node : NodeId
  node = far.node

  abbrev cell : Cell
  cell = b.cell

  abbrev home : Channel
  home = (default_home far.port).channel

  abbrev c : Controller
  c = b.site.controller

  abbrev a : Acted
  a = acting w b.site

  on : cell.header.channel ≡ home
  on = channel_is cell.header.channel home (second cell.header.last (same_channel cell.header.channel home) b.last)

  is_last : cell.header.last ≡ true
  is_last = first cell.header.last (same_channel cell.header.channel home) b.last

  made_so : payload_of w.notes.frames cell.mark ≡ Some (default_payload packet)
  made_so = ap (payload_of w.notes.frames) b.own ∙ b.made

  none_entered : has_entry (next topology w (Carry (Up node))).notes.entries cell.mark ≡ false
  none_entered = ap (has_entry (next topology w (Carry (Up node))).notes.entries) b.own ∙ b.unlost

  pub hears : Hears topology w node home came (default_payload packet)
  hears = subst (λ (m : Mark). Hears topology w node home m (default_payload packet)) b.own
      (subst (λ (ch : Channel). Hears topology w node ch cell.mark (default_payload packet)) on
      (controller_hears topology w node b.site b.there cell b.cells b.queue is_last (default_payload packet) made_so b.counts none_entered))

  -- *Its port* is there, and takes it
  pub record AtPort : Type 0 where
    pub linked : Linked
    pub is : linked_at c far.port ≡ Some linked

  at_port_is : AtPort
  at_port_is = by (linked_at c far.port) refl
    where
      by : (o : Option Linked) → linked_at c far.port ≡ o → AtPort
      by (Some linked) found = record { linked = linked; is = found }
      by None found = absurd (is_taken topology w node b.site b.there cell b.cells b.queue is_last (default_payload packet) made_so b.counts none_entered
          (ap (taker_of c) on ∙ default_taker c far.port None b.link.0 found))

  abbrev q : Linked
  q = at_port_is.linked

  abbrev heard : Acted
  heard = with_reassembly a (ForDefault q) nothing_taken

  acted : cell_comes a cell ≡ counted_at (forwards_packet heard came packet) q.setup.port packet
  acted = acts topology w node b.site b.there cell b.cells b.queue is_last (default_payload packet) made_so b.counts none_entered (ForDefault q)
      (ap (taker_of c) on ∙ default_taker c far.port (Some q) b.link.0 at_port_is.is)
      ∙ (ap (λ (m : Mark). frame_holds heard (ForDefault q) m (default_payload packet)) b.own ∙ counted_then heard q came packet b.accepted)

  abbrev counted : Acted
  counted = counted_at (forwards_packet heard came packet) q.setup.port packet

  notes_are : (next topology w (Carry (Up node))).notes ≡ counted.notes
  notes_are = up_notes topology w node b.site b.there cell b.cells b.queue ∙ ap (λ (x : Acted). x.notes) acted

  queue_is : queue_at (next topology w (Carry (Up node))) (Down node) ≡ counted.controller.queue
  queue_is = queue_of_site (next topology w (Carry (Up node))) node (up_now topology w node b.site b.there cell b.cells) (Down node) (up_site topology w node b.site b.there cell b.cells b.queue)
      ∙ ap (λ (x : Acted). x.controller.queue) acted

  -- what is put are the cells that the controller sends
  stays : left w (Carry (Up node)) (Down node) ≡ c.queue
  stays = ap (λ (s : Bool). if s then drop 1 (queue_at w (Down node)) else queue_at w (Down node)) (numbers_apart (Up node) (Down node) (λ e. absurd (omega (arith, e))))
      ∙ queue_of_site w node b.site (Down node) b.there

  key_is : port_key q ≡ far.port.0
  key_is = at_key port_key far.port.0 c.ports q at_port_is.is

  found_by_key : linked_at c q.setup.port ≡ Some q
  found_by_key = subst (λ (n : ℕ). at port_key n c.ports ≡ Some q) (sym key_is) at_port_is.is

  adds : Adds (forwards_packet heard came packet) counted
  adds = at_port_adds (forwards_packet heard came packet) q.setup.port (λ setup desk work. counts setup desk work packet)

  later : Later (forwards_packet heard came packet).notes counted.notes
  later = later_counted (forwards_packet heard came packet) q.setup.port packet

  module _ (port : PortNo) (some : 0 < came.packet) (routed : IsRouted c port packet) (unlost : has_entry (next topology w (Carry (Up node))).notes.entries (next_mark came) ≡ false) where
    routed_there : IsRouted heard.controller port packet
    routed_there = record { route = routed.route; ungranted = ungranted_still a q port (onward packet) found_by_key ∙ routed.ungranted }

    s : IsSent heard came packet port some routed_there counted
    s = unlost_is_sent heard came packet port some routed_there counted adds later (ap (λ (n : Journal). has_entry n.entries (next_mark came)) (sym notes_are) ∙ unlost)

    abbrev put_there : List Cell
    put_there = frame_on port came packet ++ s.after

    put_is : cells_put_at topology w (Carry (Up node)) (Down node) ≡ put_there
    put_is = append_cancel_left (left w (Carry (Up node)) (Down node)) (cells_put_at topology w (Carry (Up node)) (Down node)) put_there
        (sym (change_by_passing topology w (Carry (Up node)) (Down node)) ∙ (queue_is ∙ (s.queue ∙ ap (λ (cs : List Cell). cs ++ put_there) (sym stays))))

    pub goes_on : GoesOn topology w (Carry (Up node)) (record { node = node; port = port }) came packet
    goes_on = record {
      put = record { front = []; after = s.after; is = put_is };
      made = ap (λ (n : Journal). payload_of n.frames (next_mark came)) notes_are ∙ s.made_so;
    }

  pub delivered : hop_of c.table packet ≡ Here → Contains (next topology w (Carry (Up node))).notes.records (Delivered node came.packet packet)
  delivered here = subst (λ (n : Journal). Contains n.records (Delivered node came.packet packet)) (sym notes_are)
      (later.records (Delivered node came.packet packet)
      (subst (λ (x : Acted). Contains x.notes.records (Delivered node came.packet packet)) (sym (delivers heard came packet here))
      (subst (λ (n : NodeId). Contains (note heard (Delivered n came.packet packet)).notes.records (Delivered node came.packet packet)) (sym own_node)
      (Contains-append_right heard.notes.records (Delivered node came.packet packet ∷ []) (Delivered node came.packet packet) (there (Delivered node came.packet packet))))))
    where
      own_node : c.node ≡ node
      own_node = λ i. record { 0 = at_key site_key node.0 w.sites b.site b.there i }

      there : (item : Record) → Contains (item ∷ []) item
      there item = (0, omega arith, refl)

pub brought_are_heard : BroughtPacketsAreHeard
brought_are_heard topology w far mark packet b = (hears topology w far mark packet b, held packet b.accepted)

pub brought_forward : BroughtPacketsForward
brought_forward topology w far port came packet b some routed unlost = goes_on topology w far came packet b port some routed unlost

pub brought_are_delivered : BroughtPacketsAreDelivered
brought_are_delivered topology w far came packet b here = delivered topology w far came packet b here
