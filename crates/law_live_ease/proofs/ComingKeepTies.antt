-- so a carry to its controller keeps desk and ports of such a node tied

use Rattle.std.proofs.Common.{◌≡◌, inl, inr, ℕ, Bool, true, false, true≢false, List, [], ◌∷◌, ◌++◌, Option, None, Some, refl, sym, ◌∙◌, ap, subst}
use Rattle.std.specs.Prelude.{nat_lt}
use Rattle.world_model.specs.Words.{Policy, NodeId, Up, Cell, unwrapped, Reassembly, nothing_taken, chains_with, ForGsmp, ForDefault, ForLabel, taker_of, reassembly_of, with_reassembly, frame_holds, takes_cell, put_away, carries_head, Topology, World, Site, site_at, queue_at, next, past_of}
use Rattle.world_model.specs.World.{opened}
use Rattle.world_model.specs.Cells.{Taker, cell_comes}
use Rattle.world_model.specs.Controller.{Acted, free_slots}
use Rattle.world_model.specs.gsmp_wire.Fields.{decoded}
use Rattle.world_model.specs.network_model.declared.event.Event.{Event}
use Rattle.world_model.specs.network_model.declared.event.Event.TheVariants.{Carry}
use Rattle.law_live_journeys.proofs.law_causes.Turning.{taken_ends}
use Rattle.law_live_journeys.specs.law_run_facts.Nodes.{IsNodeOfRun}
use Rattle.law_live_journeys.proofs.law_run_facts.Nodes.{runs_have_nodes}
use Rattle.law_live_journeys.proofs.law_run_facts.Steps.{after_one}
use Rattle.law_live_journeys.specs.law_live_hearing.Law.{world_at, acting}
use Rattle.law_live_journeys.proofs.law_live_hearing.Sites.{up_now, up_site}
use Rattle.law_live_journeys.specs.law_live_unsaid.Carries.{EndsFrame}
use Rattle.law_live_journeys.proofs.law_live_asking.Still.{IsThere, taker_there}
use Rattle.law_live_journeys.proofs.law_live_asking.Cells.{Ends, cell_by}
use Rattle.law_live_journeys.proofs.law_live_brought.Whole.{acted, whole_is}
use Rattle.law_live_journeys.proofs.law_live_brought.Made.{WasMade, last_made}
use Rattle.law_live_journeys.proofs.law_live_brought.Moment.{one_site}
use Rattle.law_live_ease.specs.Coming.{CarriesKeepTies}
use Rattle.law_live_ease.proofs.ComingOwed.{Tie, ties_of}
use Rattle.law_live_ease.proofs.ComingSteps.{tied_alike}
use Rattle.law_live_ease.proofs.ComingNode.{Brought, w, link, counted, tie}
use Rattle.law_live_ease.proofs.ComingTold.{gsmp_may_come}
use Rattle.law_live_ease.proofs.ComingHears.{b, q_now, found_now}
use Rattle.law_live_ease.proofs.ComingMayCome.{own, hears_so}
use Rattle.law_live_ease.proofs.ComingPorts.{TieOf}
use Rattle.law_live_ease.proofs.ComingFrames.{label_ties, default_ties}
use Rattle.law_live_ease.proofs.ComingAnswers.{told_ties}

-- *Its chain* is another
gathered_ties : (a : Acted) (taker : Taker) (r : Reassembly) → IsThere a.controller taker → TieOf a → TieOf (with_reassembly a taker r)
gathered_ties a ForGsmp r there tied = tied
gathered_ties a (ForDefault q) r there tied = tied_alike a.controller.ports a.controller.desk q (record q { reassembly = r }) there refl ((λ request is. is), (λ request is. is)) tied
gathered_ties a (ForLabel q label) r there tied =
    tied_alike a.controller.ports a.controller.desk q (record q { chains = chains_with q.chains label.number r }) there refl ((λ request is. is), (λ request is. is)) tied

module _ {policy : Policy} {topology : Topology} {before : List Event} {node : NodeId} {site : Site} (m : Brought policy topology before node site)
    (cell : Cell) (cells : List Cell) (queue : queue_at (w m) (Up node) ≡ cell ∷ cells) where
  abbrev a : Acted
  a = acting (w m) site

  -- *A last cell* ends a frame, which acts
  module _ (last : cell.header.last ≡ true) where
    was : WasMade (w m) cell
    was = last_made policy topology before m.world node m.within (link m) cell cells queue last

    ends : (taker : Taker) → taker_of site.controller cell.header.channel ≡ Some taker → EndsFrame (w m) node site cell taker was.payload
    ends taker takes = record {
      takes = takes;
      whole = whole_is topology (w m) node site m.found cell cells queue last was.payload was.is (counted m) (m.calm.unlost cell cells queue) taker takes;
    }

    frame_ties : (taker : Taker) → taker_of site.controller cell.header.channel ≡ Some taker → TieOf (frame_holds (with_reassembly a taker nothing_taken) taker cell.mark was.payload)
    frame_ties ForGsmp takes = told_ties (with_reassembly a ForGsmp nothing_taken) (decoded was.payload) (gsmp_may_come m cell cells was.payload queue (ends ForGsmp takes)) (tie m)
    frame_ties (ForDefault q) takes = default_ties (b m q (own m cell cells queue q was.payload (ends (ForDefault q) takes))) (q_now m q (own m cell cells queue q was.payload (ends (ForDefault q) takes)))
        (found_now m q (own m cell cells queue q was.payload (ends (ForDefault q) takes)))
        (gathered_ties a (ForDefault q) nothing_taken (taker_there site.controller cell.header.channel (ForDefault q) takes) (tie m)) cell.mark was.payload
        (hears_so m cell cells queue q was.payload (ends (ForDefault q) takes))
    frame_ties (ForLabel q label) takes = label_ties (with_reassembly a (ForLabel q label) nothing_taken) q label cell.mark (unwrapped label.flow was.payload)
        (gathered_ties a (ForLabel q label) nothing_taken (taker_there site.controller cell.header.channel (ForLabel q label) takes) (tie m))

    last_ties : TieOf (cell_comes a cell)
    last_ties = by (taker_of site.controller cell.header.channel) refl
      where
        by : (o : Option Taker) → taker_of site.controller cell.header.channel ≡ o → TieOf (cell_comes a cell)
        by None takes = subst (λ (o : Option Taker). TieOf (takes_cell a cell o)) (sym takes) (tie m)
        by (Some taker) takes = subst TieOf
            (sym (acted topology (w m) node site m.found cell cells queue last was.payload was.is (counted m) (m.calm.unlost cell cells queue) taker takes)) (frame_ties taker takes)

  -- *Any other* ends none
  part_ties : cell.header.last ≡ false → TieOf (cell_comes a cell)
  part_ties part = cell_by a cell TieOf (tie m) (λ notes taker r there. gathered_ties (record a { notes = notes }) taker r there (tie m)) (λ notes taker payload entries it. absurd (ends_none taker payload it))
    where
      ends_none : (taker : Taker) (payload : List ℕ) → Ends a cell taker payload → ⊥
      ends_none taker payload it = elim (taken_ends a.notes (nat_lt 0 (free_slots a.controller)) (reassembly_of a.controller taker) cell) [
        | inl none ↦ absurd (cc (sym none ∙ it.ended))
        | inr ended ↦ true≢false (sym ended.1.1.0 ∙ part)
      ]

  pub cell_ties : TieOf (cell_comes a cell)
  cell_ties = by cell.header.last refl
    where
      by : (is_last : Bool) → cell.header.last ≡ is_last → TieOf (cell_comes a cell)
      by true last = last_ties last
      by false part = part_ties part

module _ {policy : Policy} {topology : Topology} {before : List Event} {node : NodeId} {site : Site} (m : Brought policy topology before node site)
    (now : Site) (there : site_at (next topology (w m) (Carry (Up node))) node ≡ Some now) where
  tied_behind : (q : List Cell) → queue_at (w m) (Up node) ≡ q → Tie now.controller.ports now.controller.desk
  tied_behind [] queue = subst (λ (s : Site). Tie s.controller.ports s.controller.desk)
      (one_site site now (sym m.found ∙ (sym (ap (λ (q : List Cell). site_at (carries_head topology (put_away (w m)) (Up node) q) node) queue) ∙ there))) (tie m)
  tied_behind (cell ∷ cells) queue = subst (λ (s : Site). Tie s.controller.ports s.controller.desk)
      (one_site (up_now topology (w m) node site m.found cell cells) now (sym (up_site topology (w m) node site m.found cell cells queue) ∙ there)) (cell_ties m cell cells queue)

pub carries_keep_ties : CarriesKeepTies
carries_keep_ties policy topology before node site now comes world binds calm within found there =
    ties_of of_run_now (tied_behind m now there (queue_at (world_at policy topology before) (Up node)) refl)
  where
    m : Brought policy topology before node site
    m = record { comes = comes; world = world; binds = binds; calm = calm; within = within; found = found }

    of_run_now : IsNodeOfRun policy (past_of policy topology (before ++ Carry (Up node) ∷ [])) node now
    of_run_now = runs_have_nodes policy topology (before ++ Carry (Up node) ∷ []) comes.addresses comes.run node now
        (subst (λ (x : World). site_at x node ≡ Some now) (sym (after_one topology (opened policy topology) before (Carry (Up node)))) there)
