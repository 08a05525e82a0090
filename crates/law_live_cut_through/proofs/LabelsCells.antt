-- a carry brings the controller of a node of a network that binds a last cell, and what it holds stays

use Rattle.std.proofs.Common.{◌≡◌, true, List, ◌∷◌, Option, None, Some, refl, sym, subst}
use Rattle.world_model.specs.Words.{Policy, NodeId, Up, Cell, Loss, Unbound, nothing_taken, unwrapped, ForGsmp, ForDefault, ForLabel, taker_of, with_reassembly, frame_holds, takes_cell, Linked, Topology, Site, queue_at}
use Rattle.world_model.specs.Cells.{Taker, cell_comes}
use Rattle.world_model.specs.Controller.{Acted, note}
use Rattle.world_model.specs.gsmp_wire.Fields.{decoded}
use Rattle.world_model.specs.network_model.declared.event.Event.{Event}
use Rattle.law_live_ease.specs.law_live_hearing.Law.{acting}
use Rattle.law_live_ease.specs.law_live_unsaid.Carries.{EndsFrame}
use Rattle.law_live_ease.proofs.law_live_elsewhere.Elsewhere.{taker_is_of, gathered}
use Rattle.law_live_ease.proofs.law_live_brought.Whole.{acted, whole_is}
use Rattle.law_live_ease.proofs.law_live_brought.Made.{WasMade, last_made}
use Rattle.law_live_ease.proofs.ComingNode.{Brought, IsThere, w, link, counted}
use Rattle.law_live_ease.proofs.ComingTold.{gsmp_may_come}
use Rattle.law_live_ease.proofs.ComingHears.{b, q_now, found_now}
use Rattle.law_live_ease.proofs.ComingMayCome.{own, hears_so}
use Rattle.law_live_cut_through.proofs.LabelsKeeping.{HeldStays, held_same, held_then, held_kept}
use Rattle.law_live_cut_through.proofs.LabelsFrames.{label_keeps, default_keeps}
use Rattle.law_live_cut_through.proofs.LabelsAnswers.{told_keeps}

module _ {policy : Policy} {topology : Topology} {before : List Event} {node : NodeId} {site : Site} (m : Brought policy topology before node site)
    (cell : Cell) (cells : List Cell) (queue : queue_at (w m) (Up node) ≡ cell ∷ cells) (last : cell.header.last ≡ true) where
  abbrev a : Acted
  a = acting (w m) site

  was : WasMade (w m) cell
  was = last_made policy topology before m.world node m.within (link m) cell cells queue last

  -- *The frame that it ends*
  module _ (taker : Taker) (takes : taker_of site.controller cell.header.channel ≡ Some taker) where
    ends : EndsFrame (w m) node site cell taker was.payload
    ends = record {
      takes = takes;
      whole = whole_is topology (w m) node site m.found cell cells queue last was.payload was.is (counted m) (m.calm.unlost cell cells queue) taker takes;
    }

    gathers : HeldStays site.controller (with_reassembly a taker nothing_taken).controller
    gathers = held_kept site.controller (with_reassembly a taker nothing_taken).controller (gathered a taker nothing_taken (taker_is_of site.controller cell.header.channel taker takes))

  its_port : (q : Linked) (takes : taker_of site.controller cell.header.channel ≡ Some (ForDefault q)) → IsThere m q
  its_port q takes = own m cell cells queue q was.payload (ends (ForDefault q) takes)

  frame_keeps : (taker : Taker) → taker_of site.controller cell.header.channel ≡ Some taker
      → HeldStays (with_reassembly a taker nothing_taken).controller (frame_holds (with_reassembly a taker nothing_taken) taker cell.mark was.payload).controller
  frame_keeps ForGsmp takes = told_keeps (with_reassembly a ForGsmp nothing_taken) (decoded was.payload) (gsmp_may_come m cell cells was.payload queue (ends ForGsmp takes))
  frame_keeps (ForDefault q) takes = default_keeps (b m q (its_port q takes)) (q_now m q (its_port q takes)) (found_now m q (its_port q takes)) cell.mark was.payload
      (hears_so m cell cells queue q was.payload (ends (ForDefault q) takes))
  frame_keeps (ForLabel q label) takes = label_keeps (with_reassembly a (ForLabel q label) nothing_taken) q label cell.mark (unwrapped label.flow was.payload)

  pub last_keeps : HeldStays site.controller (cell_comes a cell).controller
  last_keeps = by (taker_of site.controller cell.header.channel) refl
    where
      by : (o : Option Taker) → taker_of site.controller cell.header.channel ≡ o → HeldStays site.controller (cell_comes a cell).controller
      by None takes = subst (λ (o : Option Taker). HeldStays site.controller (takes_cell a cell o).controller) (sym takes) (held_same site.controller (note a (Loss cell.mark Unbound)).controller refl)
      by (Some taker) takes = subst (λ (x : Acted). HeldStays site.controller x.controller)
          (sym (acted topology (w m) node site m.found cell cells queue last was.payload was.is (counted m) (m.calm.unlost cell cells queue) taker takes))
          (held_then site.controller (with_reassembly a taker nothing_taken).controller (frame_holds (with_reassembly a taker nothing_taken) taker cell.mark was.payload).controller
          (gathers taker takes) (frame_keeps taker takes))
