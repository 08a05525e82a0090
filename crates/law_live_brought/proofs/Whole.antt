-- a last cell of which the ledger has no entry, at a controller: its frame acts, and what is put into the queue then is what the
-- controller sends

use Rattle.std.proofs.Common.{◌≡◌, ℕ, Bool, true, false, List, [], ◌∷◌, ◌++◌, length, drop, Option, None, Some, refl, sym, ◌∙◌, ap, subst, arith, if◌then◌else◌}
use Rattle.std.specs.Prelude.{bytes_eq, nat_lt, nat_le, not}
use Rattle.std.specs.Option.{option_map, option_map_or, option_and_then}
use Rattle.std.proofs.lemmas.Slice.Eq.{bytes_eq-Decides}
use Rattle.std.proofs.lemmas.List.{append_cancel_left}
use Rattle.world_model.specs.Words.{NodeId, Down, Up, Mark, Cell, Chance, Journal, noted, has_entry, is_frame, payload_of, last_mark, payload_in, tested_by, Reassembly, nothing_taken, Controller, taker_of, reassembly_of, with_reassembly, takes_cell, Topology, World, Site, site_at, queue_at, next, CountsAsItsFrame, OfController, arrival, cell_for, has_slot, reassembly_at, taken_at}
use Rattle.world_model.specs.frame_model.Frame.{octets_of, tested, passed_test}
use Rattle.world_model.specs.frame_model.Reassembly.{Taken, taken, most_cells, passed_over, without_slot, too_long, cell_joined}
use Rattle.world_model.specs.Controller.{Acted, free_slots}
use Rattle.world_model.specs.Cells as controller
use Rattle.world_model.specs.Cells.{Taker, frame_holds}
use Rattle.world_model.specs.Stretches.{Reassembler, ended_at, controller_arrival}
use Rattle.world_model.specs.network_model.declared.event.Event.TheVariants.{Carry}
use Rattle.law_live_binding_beats.specs.law_passing.telling_model.Passing.{cells_put_at, left}
use Rattle.law_live_binding_beats.proofs.law_passing.Worlds.{change_by_passing}
use Rattle.law_live_binding_beats.proofs.law_live_frames.Breaking.{ended_whole}
use Rattle.law_live_binding_beats.proofs.law_live_frames.Coming.{last_is, same_itself, finish, quiet, fails, rest_notes}
use Rattle.law_live_binding_beats.specs.law_live_hearing.Law.{acting}
use Rattle.law_live_binding_beats.proofs.law_live_hearing.Sites.{up_now, up_notes, up_site, queue_of_site}
use Rattle.law_live_binding_beats.proofs.law_live_hearing.Taking.{Passes, passes}
use Rattle.law_live_binding_beats.proofs.law_live_orders.Hops.{numbers_apart}

same_bytes : (xs : List ℕ) → bytes_eq xs xs ≡ true
same_bytes xs = (bytes_eq-Decides xs xs).1 refl

pub one_payload : (x y : List ℕ) → Some x ≡ Some y → x ≡ y
one_payload x y e = cc

-- a payload that was made under its mark last
is_made : (notes : Journal) (mark : Mark) (payload : List ℕ) → payload_of notes.frames mark ≡ Some payload → is_frame notes.frames mark payload ≡ true
is_made notes mark payload made = ap (λ o. option_map_or (λ kept. bytes_eq kept payload) o false) made ∙ same_bytes payload

controller_ends : (b : Acted) (t : Taker) (chain : List Cell) (cell : Cell)
    → controller.ends_frame b t (chain ++ cell ∷ []) ≡ controller.after_test b t (last_mark (chain ++ cell ∷ [])) (tested b.notes (chain ++ cell ∷ []))
controller_ends b t [] cell = refl
controller_ends b t (x ∷ chain) cell = refl

-- no cells pass a test, and a cell that ends no frame leaves its chain open
none_passes : (payload : List ℕ) → payload_in [] ≡ Some payload → ⊥
unfolding payload_in
none_passes payload e = absurd (cc e)

ends_none : (notes : Journal) (slot : Bool) (r : Reassembly) (cell : Cell) → cell.header.last ≡ false → (taken notes slot r cell).ended ≡ []
ends_none notes slot r cell part = by r.is_skipping slot (nat_le most_cells (length r.chain))
  where
    by : (skips room long : Bool) → (if skips then passed_over notes r cell else (if not room then without_slot notes r cell else (if long then too_long notes r cell else cell_joined notes r cell))).ended ≡ []
    by true room long = refl
    by false false long = refl
    by false true true = refl
    by false true false = ap (λ (b : Bool). (if b then joined_last else joined_more).ended) part
      where
        joined_last : Taken
        joined_last = record { reassembly = record r { chain = [] }; notes = notes; ended = r.chain ++ cell ∷ [] }

        joined_more : Taken
        joined_more = record { reassembly = record r { chain = r.chain ++ cell ∷ [] }; notes = notes; ended = [] }

module _ (topology : Topology) (v : World) (node : NodeId) (site : Site) (found : site_at v node ≡ Some site) (cell : Cell) (cells : List Cell)
    (queue : queue_at v (Up node) ≡ cell ∷ cells) where
  abbrev pub a : Acted
  a = acting v site

  abbrev of_channel : Reassembler
  of_channel = OfController node cell.header.channel

  comes : cell_for of_channel (arrival v (Carry (Up node))) ≡ Some cell
  comes = ap (λ q. cell_for of_channel (controller_arrival node q)) queue ∙ ap (λ (b : Bool). if b then Some cell else None) (same_itself of_channel)

  none_ends : cell.header.last ≡ false → (o : Option Reassembly) → option_map_or (λ (t : Taken). t.ended) (taken_at v of_channel o (Some cell)) [] ≡ []
  none_ends part None = refl
  none_ends part (Some r) = ends_none v.notes (has_slot v of_channel) r cell part

  -- *What ends a frame* is its last cell
  pub is_last : (payload : List ℕ) → payload_in (octets_of (ended_at v (Carry (Up node)) of_channel)) ≡ Some payload → cell.header.last ≡ true
  is_last payload whole = by cell.header.last refl
    where
      by : (b : Bool) → cell.header.last ≡ b → cell.header.last ≡ true
      by true e = e
      by false part = absurd (none_passes payload (subst (λ (cs : List Cell). payload_in (octets_of cs) ≡ Some payload)
          (ap (λ (o : Option Cell). option_map_or (λ (t : Taken). t.ended) (taken_at v of_channel (reassembly_at v of_channel) o) []) comes ∙ none_ends part (reassembly_at v of_channel)) whole))

  -- *It acts*
  module _ (last : cell.header.last ≡ true) (payload : List ℕ) (made : payload_of v.notes.frames cell.mark ≡ Some payload)
      (counts : CountsAsItsFrame v (Carry (Up node))) (unlost : has_entry (next topology v (Carry (Up node))).notes.entries cell.mark ≡ false)
      (t : Taker) (taker : taker_of site.controller cell.header.channel ≡ Some t) where
    unlost_here : has_entry (controller.cell_comes a cell).notes.entries cell.mark ≡ false
    unlost_here = ap (λ (n : Journal). has_entry n.entries cell.mark) (sym (up_notes topology v node site found cell cells queue)) ∙ unlost

    abbrev r : Reassembly
    r = reassembly_of site.controller t

    abbrev slot : Bool
    slot = nat_lt 0 (free_slots site.controller)

    unlost_taken : has_entry (finish a t (taken a.notes slot r cell)).entries cell.mark ≡ false
    unlost_taken = ap (λ o. has_entry (takes_cell a cell o).notes.entries cell.mark) (sym taker) ∙ unlost_here

    p : Passes a.notes r cell slot last (finish a t) (quiet a t) (fails a t cell) unlost_taken
    p = passes a.notes r cell slot last (finish a t) (quiet a t) (fails a t cell) unlost_taken

    gathered : reassembly_at v of_channel ≡ Some r
    gathered = ap (λ (o : Option Site). option_and_then (λ (c : Controller). option_map (reassembly_of c) (taker_of c cell.header.channel)) (option_map (λ (s : Site). s.controller) o)) found
        ∙ ap (option_map (reassembly_of site.controller)) taker

    has_room : has_slot v of_channel ≡ true
    has_room = ap (λ (o : Option Site). option_map_or (λ (c : Controller). nat_lt 0 (free_slots c)) (option_map (λ (s : Site). s.controller) o) false) found ∙ p.slot_is

    ended : ended_at v (Carry (Up node)) of_channel ≡ r.chain ++ cell ∷ []
    ended = ap (λ o. option_map_or (λ (u : Taken). u.ended) (taken_at v of_channel o (cell_for of_channel (arrival v (Carry (Up node))))) []) gathered
        ∙ (ap (λ o. option_map_or (λ (u : Taken). u.ended) (taken_at v of_channel (Some r) o) []) comes
        ∙ (ap (λ (b : Bool). (taken v.notes b r cell).ended) has_room ∙ ended_whole v.notes r cell last p.going p.short))

    whole : payload_in (octets_of (ended_at v (Carry (Up node)) of_channel)) ≡ Some p.payload
    whole = ap (λ (cs : List Cell). payload_in (octets_of cs)) ended ∙ p.test

    own : last_mark (ended_at v (Carry (Up node)) of_channel) ≡ cell.mark
    own = ap last_mark ended ∙ last_is r.chain cell

    same : p.payload ≡ payload
    same = one_payload p.payload payload (sym (counts of_channel p.payload whole) ∙ (ap (payload_of v.notes.frames) own ∙ made))

    abbrev emptied : Acted
    emptied = with_reassembly a t (record r { chain = [] })

    made_there : is_frame emptied.notes.frames cell.mark payload ≡ true
    made_there = ap (λ (n : Journal). is_frame n.frames cell.mark payload) (rest_notes a t a (record r { chain = [] }) t) ∙ is_made a.notes cell.mark payload made

    pub acted : controller.cell_comes a cell ≡ frame_holds (with_reassembly a t nothing_taken) t cell.mark payload
    acted = ap (λ o. takes_cell a cell o) taker
        ∙ (ap (λ (u : Taken). controller.after_cell a t u) p.left
        ∙ (controller_ends emptied t r.chain cell
        ∙ (ap (λ o. controller.after_test emptied t (last_mark (r.chain ++ cell ∷ [])) (tested_by emptied.notes (r.chain ++ cell ∷ []) o)) p.test
        ∙ (ap (λ (m : Mark). frame_holds (record emptied { notes = passed_test emptied.notes m p.payload }) t m p.payload) (last_is r.chain cell)
        ∙ (ap (λ (x : List ℕ). frame_holds (record emptied { notes = passed_test emptied.notes cell.mark x }) t cell.mark x) same
        ∙ (ap (λ (b : Bool). frame_holds (record emptied { notes = if b then emptied.notes else noted emptied.notes (Chance cell.mark) }) t cell.mark payload) made_there
        ∙ ap (λ (x : Reassembly). frame_holds (with_reassembly a t x) t cell.mark payload) no_more))))))
      where
        no_more : record r { chain = [] } ≡ nothing_taken
        no_more = λ i. record { chain = []; is_skipping = p.going i }

    pub whole_is : payload_in (octets_of (ended_at v (Carry (Up node)) of_channel)) ≡ Some payload
    whole_is = whole ∙ ap (λ (x : List ℕ). Some x) same

  -- *What is put* are the cells that the controller sends
  stays : left v (Carry (Up node)) (Down node) ≡ site.controller.queue
  stays = ap (λ (b : Bool). if b then drop 1 (queue_at v (Down node)) else queue_at v (Down node)) (numbers_apart (Up node) (Down node) (λ e. absurd (omega (arith, e))))
      ∙ queue_of_site v node site (Down node) found

  then_is : queue_at (next topology v (Carry (Up node))) (Down node) ≡ (controller.cell_comes a cell).controller.queue
  then_is = queue_of_site (next topology v (Carry (Up node))) node (up_now topology v node site found cell cells) (Down node) (up_site topology v node site found cell cells queue)

  pub put_is : (later : List Cell) → (controller.cell_comes a cell).controller.queue ≡ site.controller.queue ++ later → cells_put_at topology v (Carry (Up node)) (Down node) ≡ later
  put_is later is = append_cancel_left (left v (Carry (Up node)) (Down node)) (cells_put_at topology v (Carry (Up node)) (Down node)) later
      (sym (change_by_passing topology v (Carry (Up node)) (Down node)) ∙ (then_is ∙ (is ∙ ap (λ (q : List Cell). q ++ later) (sym stays))))
