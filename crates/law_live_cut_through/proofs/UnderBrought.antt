-- a packet that is brought to a controller on a default channel is sent on, where nothing is entered by that

use Rattle.std.proofs.Common.{◌≡◌, ℕ, true, false, List, Option, None, Some, refl, sym, ◌∙◌, ap, subst}
use Rattle.world_model.specs.Words.{Up, Channel, Mark, has_entry, payload_of, default_payload, at, nothing_taken, default_home, same_channel, Controller, Linked, port_key, linked_at, taker_of, ForDefault, with_reassembly, forwards_packet, counted_at, frame_holds, Topology, World, next}
use Rattle.world_model.specs.Controller.{Acted}
use Rattle.world_model.specs.Cells.{cell_comes}
use Rattle.world_model.specs.network_model.declared.link.LinkEnd.{LinkEnd}
use Rattle.world_model.specs.network_model.declared.event.Event.TheVariants.{Carry}
use Rattle.world_model.proofs.Lists.{at_key}
use Rattle.law_live_ease.specs.law_live_hearing.Law.{acting}
use Rattle.law_live_ease.proofs.law_live_orders.Marks.{channel_is}
use Rattle.law_live_ease.proofs.law_live_orders.Switches.{first, second}
use Rattle.law_live_ease.specs.law_live_journeys.Law.{IsBrought}
use Rattle.law_live_ease.proofs.law_live_journeys.Acting.{is_taken, acts}
use Rattle.law_live_ease.proofs.law_live_journeys.Brought.{default_taker, counted_then}
use Rattle.law_live_cut_through.specs.Under.{BroughtPacketsGoOn, BroughtPacketsGoUnder}
use Rattle.law_live_cut_through.proofs.UnderGrowing.{Follows, follows_counted}
use Rattle.law_live_cut_through.proofs.UnderCarrying.{routed, granted}

module _ (topology : Topology) (w : World) (far : LinkEnd) (came : Mark) (packet : List ℕ) (b : IsBrought topology w far came packet) where
  abbrev home : Channel
  home = (default_home far.port).channel

  abbrev c : Controller
  c = b.site.controller

  on : b.cell.header.channel ≡ home
  on = channel_is b.cell.header.channel home (second b.cell.header.last (same_channel b.cell.header.channel home) b.last)

  is_last : b.cell.header.last ≡ true
  is_last = first b.cell.header.last (same_channel b.cell.header.channel home) b.last

  made_so : payload_of w.notes.frames b.cell.mark ≡ Some (default_payload packet)
  made_so = ap (payload_of w.notes.frames) b.own ∙ b.made

  unlost : has_entry (next topology w (Carry (Up far.node))).notes.entries b.cell.mark ≡ false
  unlost = ap (has_entry (next topology w (Carry (Up far.node))).notes.entries) b.own ∙ b.unlost

  -- *Its port* is there, and takes it
  pub record AtPort : Type 0 where
    pub linked : Linked
    pub is : linked_at c far.port ≡ Some linked

  pub at_port_is : AtPort
  at_port_is = by (linked_at c far.port) refl
    where
      by : (o : Option Linked) → linked_at c far.port ≡ o → AtPort
      by (Some linked) found = record { linked = linked; is = found }
      by None found = absurd (is_taken topology w far.node b.site b.there b.cell b.cells b.queue is_last (default_payload packet) made_so b.counts unlost
          (ap (taker_of c) on ∙ default_taker c far.port None b.link.0 found))

  abbrev pub q : Linked
  q = at_port_is.linked

  abbrev pub emptied : Linked
  emptied = record q { reassembly = nothing_taken }

  abbrev heard : Acted
  heard = with_reassembly (acting w b.site) (ForDefault q) nothing_taken

  abbrev pub counted : Acted
  counted = counted_at (forwards_packet heard came packet) q.setup.port packet

  pub acted : cell_comes (acting w b.site) b.cell ≡ counted
  acted = acts topology w far.node b.site b.there b.cell b.cells b.queue is_last (default_payload packet) made_so b.counts unlost (ForDefault q)
      (ap (taker_of c) on ∙ default_taker c far.port (Some q) b.link.0 at_port_is.is)
      ∙ (ap (λ (m : Mark). frame_holds heard (ForDefault q) m (default_payload packet)) b.own ∙ counted_then heard q came packet b.accepted)

  pub found_by_key : at port_key (port_key emptied) c.ports ≡ Some q
  found_by_key = subst (λ (n : ℕ). at port_key n c.ports ≡ Some q) (sym (at_key port_key far.port.0 c.ports q at_port_is.is)) at_port_is.is

  pub follows : Follows (forwards_packet heard came packet) counted
  follows = follows_counted (forwards_packet heard came packet) q.setup.port packet

pub brought_go_on : BroughtPacketsGoOn
brought_go_on topology w far port came packet b some route none =
    let g = routed topology w far.node b.site b.there b.cell b.cells b.queue (emptied topology w far came packet b) (q topology w far came packet b) (found_by_key topology w far came packet b) refl
    came packet (counted topology w far came packet b) (acted topology w far came packet b) (follows topology w far came packet b) some none port route in
    record { put = g.put; made = g.made }

pub brought_go_under : BroughtPacketsGoUnder
brought_go_under topology w far port came packet grant b some is none =
    let g = granted topology w far.node b.site b.there b.cell b.cells b.queue (emptied topology w far came packet b) (q topology w far came packet b) (found_by_key topology w far came packet b) refl
    came packet (counted topology w far came packet b) (acted topology w far came packet b) (follows topology w far came packet b) some none port grant is in
    record { put = g.put; made = g.made }
