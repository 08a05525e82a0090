-- a cell that comes to a controller is entered as unbound exactly where nobody takes its channel, and as finding no slot where
-- its chain needs one and none is free

use Rattle.std.proofs.Common.{◌≡◌, ◌∙◌, ap, subst, append-nil, sym, List, [], ◌∷◌, Option, None, Some, refl}
use Rattle.std.specs.Prelude.{◌+◌, nat_lt, option_map, if◌then◌else◌}
use Rattle.world_model.specs.Words.{Cell, RouteChange, Loss, Unbound, tested, Reassembly, takes_change, takes_changes, ForGsmp, ForDefault, ForLabel, taker_of, reassembly_of, with_reassembly, takes_cell, Entry, Routes, Journal, noted}
use Rattle.world_model.specs.frame_model.Reassembly.{Taken, taken}
use Rattle.law_causes.proofs.law_controller_facts.Lifetimes.{decoded_lives}
use Rattle.world_model.specs.Controller.{Acted, free_slots, note}
use Rattle.world_model.specs.Cells.{Taker, ends_frame, cell_comes}
use Rattle.law_rule_walks.proofs.Changes as route_changes
use Rattle.law_rule_walks.proofs.Cells as frames
use Rattle.law_true_losses.specs.Way.{lost_at_taker}
use Rattle.law_true_losses.proofs.Notes.{Counts, noted_more, taken_told, taken_frames, tested_kept, tested_frames}
use Rattle.law_true_losses.specs.Cut.{Holder, same_holder, holder_of}
use Rattle.law_true_losses.proofs.Sent.{Sends, sends_none, sends_still}
use Rattle.law_true_losses.proofs.Cutting.{CutsOf, cuts_in, cuts_other, cuts_none, cuts_as, cuts_of, ended_cuts, kept_cuts, taken_cuts, tested_cuts}
use Rattle.law_true_losses.proofs.Chains.{chains, OwnTaker, own_taker, taker_set, EndsOr, goes_on, has_ended, ends_or}
use Rattle.law_true_losses.proofs.Steps.{Base, base_of, Holds, Sent, noted_kept}
use Rattle.law_true_losses.proofs.Walk.{keeps, forwards}

module _ (e x : List Entry) (base : Base) where
  abbrev P : Acted → Type 0
  P a = Sent e x base a

  takes : (a : Acted) (change : RouteChange) (later : List RouteChange) → P a → P (takes_change a change later)
  takes a change later h = noted_kept e x base a (Routes a.controller.node (a.controller.changes + 1)) refl h

  pub changes_kept : (a : Acted) → P a → P (takes_changes a)
  changes_kept a h = route_changes.takes_changes_kept (keeps e x base) (λ b change later waits. takes b change later) a h

  ends_kept : (a : Acted) (taker : Taker) (cells : List Cell) → P a → P (ends_frame a taker cells)
  ends_kept a taker cells h = frames.ends_kept (forwards e x base) (keeps e x base) tt decoded_lives
      (λ b message k. route_changes.told_kept (keeps e x base) (λ c change later waits. takes c change later) tt (λ c answer kept. kept) b message (λ greeting is. k) k)
      (λ b ended k. record {
        sends = sends_still e x base.frames b.notes (tested b.notes ended).notes (Holds base b.controller.queue) (λ told. tested_kept e told b.notes ended) (tested_frames b.notes ended) k.sends;
        cuts = cuts_as (chains base.reassembly base.ports) (chains b.controller.reassembly b.controller.ports) (chains b.controller.reassembly b.controller.ports) b.notes (tested b.notes ended).notes (tested_cuts b.notes ended) (λ holder. refl) k.cuts;
      }) a taker cells h

-- *What was sent and cut* since a rule began
abbrev pub all_chains : Acted → Holder → List Cell
all_chains a = chains a.controller.reassembly a.controller.ports

pub record Ends (e x : List Entry) (fed : Option Holder) (a b : Acted) : Type 0 where
  pub sends : Sends e x a.notes.frames b.notes (Holds (base_of a) b.controller.queue)
  pub cuts : CutsOf fed (all_chains a) (all_chains b) b.notes

pub ends_with : (e : List Entry) (a b : Acted) → Sent e [] (base_of a) b → Ends e [] None a b
ends_with e a b h = record { sends = h.sends; cuts = cuts_of (all_chains a) (all_chains b) b.notes h.cuts }

-- *A cell comes*
module _ (e : List Entry) (a : Acted) (cell : Cell) (h : Counts e [] a.notes) (none : cuts_in a.notes ≡ []) where
  unbound : Ends e (record { mark = cell.mark; cause = Unbound } ∷ []) None a (note a (Loss cell.mark Unbound))
  unbound = record {
    sends = sends_none e (record { mark = cell.mark; cause = Unbound } ∷ []) a.notes.frames (noted a.notes (Loss cell.mark Unbound)) (Holds (base_of a) a.controller.queue)
        (noted_more e [] a.notes (Loss cell.mark Unbound) (record { mark = cell.mark; cause = Unbound } ∷ []) refl refl h) refl (sym (append-nil a.controller.queue));
    cuts = cuts_of (all_chains a) (all_chains a) (noted a.notes (Loss cell.mark Unbound)) (cuts_none (all_chains a) (noted a.notes (Loss cell.mark Unbound)) (cuts_other a.notes (Loss cell.mark Unbound) refl ∙ none));
  }

  module _ (taker : Taker) (own : OwnTaker a.controller.ports taker) where
    abbrev lost : List Entry
    lost = lost_at_taker a.controller (Some taker) cell.mark

    abbrev t : Taken
    t = taken a.notes (nat_lt 0 (free_slots a.controller)) (reassembly_of a.controller taker) cell

    abbrev gathered : Acted
    gathered = with_reassembly (record a { notes = t.notes }) taker t.reassembly

    uncut : cuts_in t.notes ≡ []
    uncut = taken_cuts a.notes (nat_lt 0 (free_slots a.controller)) (reassembly_of a.controller taker) cell ∙ none

    abbrev begun : Base
    begun = record { frames = a.notes.frames; queue = a.controller.queue; reassembly = gathered.controller.reassembly; ports = gathered.controller.ports }

    queue_is : (taker : Taker) (x : Reassembly) → (with_reassembly (record a { notes = t.notes }) taker x).controller.queue ≡ a.controller.queue
    queue_is ForGsmp x = refl
    queue_is (ForDefault linked) x = refl
    queue_is (ForLabel linked label) x = refl

    notes_are : (taker : Taker) (x : Reassembly) → (with_reassembly (record a { notes = t.notes }) taker x).notes ≡ t.notes
    notes_are ForGsmp x = refl
    notes_are (ForDefault linked) x = refl
    notes_are (ForLabel linked label) x = refl

    sent_none : Sends e lost a.notes.frames gathered.notes (Holds begun gathered.controller.queue)
    sent_none = subst (λ (notes : Journal). Sends e lost a.notes.frames notes (Holds begun gathered.controller.queue)) (sym (notes_are taker t.reassembly))
        (sends_none e lost a.notes.frames t.notes (Holds begun gathered.controller.queue) (taken_told e a.notes (nat_lt 0 (free_slots a.controller)) (reassembly_of a.controller taker) cell h)
        (taken_frames a.notes (nat_lt 0 (free_slots a.controller)) (reassembly_of a.controller taker) cell) (queue_is taker t.reassembly ∙ sym (append-nil a.controller.queue)))

    cut_none : cuts_in gathered.notes ≡ []
    cut_none = ap (λ (notes : Journal). cuts_in notes) (notes_are taker t.reassembly) ∙ uncut

    goes : (k : Holder) → all_chains gathered k ≡ (if same_holder k (holder_of taker) then t.reassembly.chain else all_chains a k)
    goes = taker_set (record a { notes = t.notes }) taker t.reassembly own

    stays_open : Ends e lost (Some (holder_of taker)) a gathered
    stays_open = record { sends = sent_none; cuts = kept_cuts (holder_of taker) (all_chains a) (all_chains gathered) gathered.notes t.reassembly.chain cut_none goes }

    has_closed : (cells : List Cell) → t.reassembly.chain ≡ [] → Ends e lost (Some (holder_of taker)) a (ends_frame gathered taker cells)
    has_closed cells empty =
        let done : Sent e lost begun (ends_frame gathered taker cells) = ends_kept e lost begun gathered taker cells (record { sends = sent_none; cuts = cuts_none (all_chains gathered) gathered.notes cut_none }) in
        record {
          sends = done.sends;
          cuts = ended_cuts (holder_of taker) (all_chains a) (all_chains gathered) (all_chains (ends_frame gathered taker cells)) (ends_frame gathered taker cells).notes
              (λ k. goes k ∙ ap (λ (chain : List Cell). if same_holder k (holder_of taker) then chain else all_chains a k) empty) done.cuts;
        }

    taken_told_by : EndsOr t → Ends e lost (Some (holder_of taker)) a (ends_frame gathered taker t.ended)
    taken_told_by (goes_on is) = subst (λ (cells : List Cell). Ends e lost (Some (holder_of taker)) a (ends_frame gathered taker cells)) (sym is) stays_open
    taken_told_by (has_ended empty) = has_closed t.ended empty

  taker_told : (o : Option Taker) → taker_of a.controller cell.header.channel ≡ o → Ends e (lost_at_taker a.controller o cell.mark) (option_map holder_of o) a (takes_cell a cell o)
  taker_told None found = unbound
  taker_told (Some taker) found = taken_told_by taker (own_taker a.controller cell.header.channel taker found) (ends_or a.notes (nat_lt 0 (free_slots a.controller)) (reassembly_of a.controller taker) cell)

  pub cell_told : Ends e (lost_at_taker a.controller (taker_of a.controller cell.header.channel) cell.mark) (option_map holder_of (taker_of a.controller cell.header.channel)) a (cell_comes a cell)
  cell_told = taker_told (taker_of a.controller cell.header.channel) refl
