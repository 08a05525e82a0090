-- and so at a cell that comes to it, in a run of a network that binds

use Rattle.std.proofs.Common.{◌≡◌, inl, inr, ℕ, Bool, true, false, true≢false, List, [], ◌∷◌, Option, None, Some, refl, sym, ◌∙◌, ap, subst}
use Rattle.std.specs.Prelude.{nat_lt}
use Rattle.world_model.specs.Words.{Policy, NodeId, Up, Cell, unwrapped, Reassembly, nothing_taken, chains_with, ForGsmp, ForDefault, ForLabel, taker_of, reassembly_of, with_reassembly, frame_holds, takes_cell, put_away, carries_head, Desk, Linked, Topology, Site, site_at, queue_at, next}
use Rattle.world_model.specs.Cells.{Taker, cell_comes}
use Rattle.world_model.specs.Controller.{Acted, free_slots}
use Rattle.world_model.specs.gsmp_wire.Fields.{decoded}
use Rattle.world_model.specs.network_model.declared.event.Event.{Event}
use Rattle.world_model.specs.network_model.declared.event.Event.TheVariants.{Carry}
use Rattle.law_live_ease.proofs.law_causes.Turning.{taken_ends}
use Rattle.law_live_ease.specs.law_live_hearing.Law.{acting}
use Rattle.law_live_ease.proofs.law_live_hearing.Sites.{up_now, up_site}
use Rattle.law_live_ease.specs.law_live_unsaid.Carries.{EndsFrame}
use Rattle.law_live_ease.proofs.law_live_asking.Still.{IsThere, taker_there}
use Rattle.law_live_ease.proofs.law_live_asking.Cells.{Ends, cell_by}
use Rattle.law_live_ease.proofs.law_live_brought.Whole.{acted, whole_is}
use Rattle.law_live_ease.proofs.law_live_brought.Made.{WasMade, last_made}
use Rattle.law_live_ease.proofs.law_live_brought.Moment.{one_site}
use Rattle.law_live_ease.proofs.ComingNode.{Brought, w, link, counted}
use Rattle.law_live_ease.proofs.ComingTold.{gsmp_may_come}
use Rattle.law_live_ease.proofs.ComingHears.{b, q_now, found_now}
use Rattle.law_live_ease.proofs.ComingMayCome.{own, hears_so}
use Rattle.law_live_cut_through.proofs.RequestsKeeping.{stay, Keeps, Of}
use Rattle.law_live_cut_through.proofs.RequestsFrames.{label_on, default_on}
use Rattle.law_live_cut_through.proofs.RequestsAnswers.{told_on}

module _ (T : List Linked → Desk → Type 0) (k : Keeps T) where
  -- *Its chain* is another
  gathered_on : (a : Acted) (taker : Taker) (r : Reassembly) → IsThere a.controller taker → Of T a → Of T (with_reassembly a taker r)
  gathered_on a ForGsmp r there t = t
  gathered_on a (ForDefault q) r there t = k.labels a.controller.ports a.controller.desk q (record q { reassembly = r }) there refl (stay refl) t
  gathered_on a (ForLabel q label) r there t = k.labels a.controller.ports a.controller.desk q (record q { chains = chains_with q.chains label.number r }) there refl (stay refl) t

  module _ {policy : Policy} {topology : Topology} {before : List Event} {node : NodeId} {site : Site} (m : Brought policy topology before node site) (t : T site.controller.ports site.controller.desk) where
    module _ (cell : Cell) (cells : List Cell) (queue : queue_at (w m) (Up node) ≡ cell ∷ cells) where
      abbrev a : Acted
      a = acting (w m) site

      -- *A last cell* ends a frame, which acts
      module _ (last : cell.header.last ≡ true) where
        was : WasMade (w m) cell
        was = last_made policy topology before m.world node m.within (link m) cell cells queue last

        ends : (taker : Taker) → taker_of site.controller cell.header.channel ≡ Some taker → EndsFrame (w m) node site cell taker was.payload
        ends taker takes = record {
          takes = takes;
          whole = whole_is topology (w m) node site m.found cell cells queue last was.payload was.is (counted m) (m.calm.unlost cell cells queue) taker takes;
        }

        frame_on : (taker : Taker) → taker_of site.controller cell.header.channel ≡ Some taker → Of T (frame_holds (with_reassembly a taker nothing_taken) taker cell.mark was.payload)
        frame_on ForGsmp takes = told_on T k (with_reassembly a ForGsmp nothing_taken) (decoded was.payload) (gsmp_may_come m cell cells was.payload queue (ends ForGsmp takes)) t
        frame_on (ForDefault q) takes = default_on T k (b m q (own m cell cells queue q was.payload (ends (ForDefault q) takes))) (q_now m q (own m cell cells queue q was.payload (ends (ForDefault q) takes)))
            (found_now m q (own m cell cells queue q was.payload (ends (ForDefault q) takes)))
            (gathered_on a (ForDefault q) nothing_taken (taker_there site.controller cell.header.channel (ForDefault q) takes) t) cell.mark was.payload
            (hears_so m cell cells queue q was.payload (ends (ForDefault q) takes))
        frame_on (ForLabel q label) takes = label_on T k (with_reassembly a (ForLabel q label) nothing_taken) q label cell.mark (unwrapped label.flow was.payload)
            (gathered_on a (ForLabel q label) nothing_taken (taker_there site.controller cell.header.channel (ForLabel q label) takes) t)

        last_on : Of T (cell_comes a cell)
        last_on = by (taker_of site.controller cell.header.channel) refl
          where
            by : (o : Option Taker) → taker_of site.controller cell.header.channel ≡ o → Of T (cell_comes a cell)
            by None takes = subst (λ (o : Option Taker). Of T (takes_cell a cell o)) (sym takes) t
            by (Some taker) takes = subst (Of T)
                (sym (acted topology (w m) node site m.found cell cells queue last was.payload was.is (counted m) (m.calm.unlost cell cells queue) taker takes)) (frame_on taker takes)

      -- *Any other* ends none
      part_on : cell.header.last ≡ false → Of T (cell_comes a cell)
      part_on part = cell_by a cell (Of T) t (λ notes taker r there. gathered_on (record a { notes = notes }) taker r there t) (λ notes taker payload entries it. absurd (ends_none taker payload it))
        where
          ends_none : (taker : Taker) (payload : List ℕ) → Ends a cell taker payload → ⊥
          ends_none taker payload it = elim (taken_ends a.notes (nat_lt 0 (free_slots a.controller)) (reassembly_of a.controller taker) cell) [
            | inl none ↦ absurd (cc (sym none ∙ it.ended))
            | inr ended ↦ true≢false (sym ended.1.1.0 ∙ part)
          ]

      cell_on : Of T (cell_comes a cell)
      cell_on = by cell.header.last refl
        where
          by : (is_last : Bool) → cell.header.last ≡ is_last → Of T (cell_comes a cell)
          by true last = last_on last
          by false part = part_on part

    pub brought_on : (now : Site) → site_at (next topology (w m) (Carry (Up node))) node ≡ Some now → T now.controller.ports now.controller.desk
    brought_on now there = by (queue_at (w m) (Up node)) refl
      where
        by : (q : List Cell) → queue_at (w m) (Up node) ≡ q → T now.controller.ports now.controller.desk
        by [] queue = subst (λ (s : Site). T s.controller.ports s.controller.desk)
            (one_site site now (sym m.found ∙ (sym (ap (λ (q : List Cell). site_at (carries_head topology (put_away (w m)) (Up node) q) node) queue) ∙ there))) t
        by (cell ∷ cells) queue = subst (λ (s : Site). T s.controller.ports s.controller.desk)
            (one_site (up_now topology (w m) node site m.found cell cells) now (sym (up_site topology (w m) node site m.found cell cells queue) ∙ there)) (cell_on cell cells queue)
