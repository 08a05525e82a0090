-- a last cell that comes to a controller makes its frame act, with all that is noted, unless its mark is entered

use Rattle.std.proofs.Common.{◌≡◌, ℕ, Bool, true, false, true≢false, List, [], ◌∷◌, ◌++◌, Option, None, Some, refl, sym, ◌∙◌, ap, if◌then◌else◌}
use Rattle.std.specs.Prelude.{bytes_eq, nat_lt}
use Rattle.std.specs.Option.{option_map, option_map_or, option_and_then}
use Rattle.std.proofs.lemmas.Slice.Eq.{bytes_eq-Decides}
use Rattle.world_model.specs.Words.{NodeId, Up, Mark, Cell, Chance, Unbound, Journal, noted, has_entry, is_frame, payload_of, last_mark, payload_in, tested_by, Reassembly, nothing_taken, Controller, taker_of, reassembly_of, with_reassembly, takes_cell, frame_holds, Topology, World, Site, site_at, queue_at, next, CountsAsItsFrame, OfController, arrival, cell_for, has_slot, reassembly_at, taken_at}
use Rattle.world_model.specs.frame_model.Frame.{octets_of, tested, passed_test}
use Rattle.world_model.specs.frame_model.Reassembly.{Taken, taken}
use Rattle.world_model.specs.Controller.{Acted, free_slots}
use Rattle.world_model.specs.Cells.{Taker, after_cell, after_test, ends_frame, cell_comes}
use Rattle.world_model.specs.Stretches.{Reassembler, ended_at, controller_arrival}
use Rattle.world_model.specs.network_model.declared.event.Event.TheVariants.{Carry}
use Rattle.law_live_carried_out.proofs.law_live_frames.Breaking.{ended_whole}
use Rattle.law_live_carried_out.proofs.law_live_frames.Coming.{last_is, same_itself, finish, quiet, fails, rest_notes}
use Rattle.law_live_carried_out.specs.law_live_hearing.Law.{acting}
use Rattle.law_live_carried_out.proofs.law_live_hearing.Sites.{up_notes}
use Rattle.law_live_carried_out.proofs.law_live_hearing.Switching.{last_entry}
use Rattle.law_live_carried_out.proofs.law_live_hearing.Taking.{Passes, passes}

one_payload : (x y : List ℕ) → Some x ≡ Some y → x ≡ y
one_payload x y e = cc

-- a payload that was made under its mark last
is_made : (notes : Journal) (mark : Mark) (payload : List ℕ) → payload_of notes.frames mark ≡ Some payload → is_frame notes.frames mark payload ≡ true
is_made notes mark payload made = ap (λ o. option_map_or (λ kept. bytes_eq kept payload) o false) made ∙ (bytes_eq-Decides payload payload).1 refl

ends_so : (b : Acted) (t : Taker) (chain : List Cell) (cell : Cell)
    → ends_frame b t (chain ++ cell ∷ []) ≡ after_test b t (last_mark (chain ++ cell ∷ [])) (tested b.notes (chain ++ cell ∷ []))
ends_so b t [] cell = refl
ends_so b t (x ∷ chain) cell = refl

module _ (topology : Topology) (v : World) (node : NodeId) (site : Site) (found : site_at v node ≡ Some site) (cell : Cell) (cells : List Cell)
    (queue : queue_at v (Up node) ≡ cell ∷ cells) (last : cell.header.last ≡ true) (payload : List ℕ) (made : payload_of v.notes.frames cell.mark ≡ Some payload)
    (counts : CountsAsItsFrame v (Carry (Up node))) (unlost : has_entry (next topology v (Carry (Up node))).notes.entries cell.mark ≡ false) where
  abbrev a : Acted
  a = acting v site

  abbrev of_channel : Reassembler
  of_channel = OfController node cell.header.channel

  unlost_here : has_entry (cell_comes a cell).notes.entries cell.mark ≡ false
  unlost_here = ap (λ (n : Journal). has_entry n.entries cell.mark) (sym (up_notes topology v node site found cell cells queue)) ∙ unlost

  -- somebody takes it
  pub is_taken : taker_of site.controller cell.header.channel ≡ None → ⊥
  is_taken none = absurd (true≢false (sym (ap (λ o. has_entry (takes_cell a cell o).notes.entries cell.mark) none
      ∙ last_entry a.notes.entries (record { mark = cell.mark; cause = Unbound })) ∙ unlost_here))

  module _ (t : Taker) (taker : taker_of site.controller cell.header.channel ≡ Some t) where
    abbrev r : Reassembly
    r = reassembly_of site.controller t

    abbrev slot : Bool
    slot = nat_lt 0 (free_slots site.controller)

    unlost_taken : has_entry (finish a t (taken a.notes slot r cell)).entries cell.mark ≡ false
    unlost_taken = ap (λ o. has_entry (takes_cell a cell o).notes.entries cell.mark) (sym taker) ∙ unlost_here

    p : Passes a.notes r cell slot last (finish a t) (quiet a t) (fails a t cell) unlost_taken
    p = passes a.notes r cell slot last (finish a t) (quiet a t) (fails a t cell) unlost_taken

    comes : cell_for of_channel (arrival v (Carry (Up node))) ≡ Some cell
    comes = ap (λ q. cell_for of_channel (controller_arrival node q)) queue ∙ ap (λ (b : Bool). if b then Some cell else None) (same_itself of_channel)

    gathered : reassembly_at v of_channel ≡ Some r
    gathered = ap (λ (o : Option Site). option_and_then (λ (c : Controller). option_map (reassembly_of c) (taker_of c cell.header.channel)) (option_map (λ (s : Site). s.controller) o)) found
        ∙ ap (option_map (reassembly_of site.controller)) taker

    has_room : has_slot v of_channel ≡ true
    has_room = ap (λ (o : Option Site). option_map_or (λ (c : Controller). nat_lt 0 (free_slots c)) (option_map (λ (s : Site). s.controller) o) false) found ∙ p.slot_is

    ended : ended_at v (Carry (Up node)) of_channel ≡ r.chain ++ cell ∷ []
    ended = ap (λ o. option_map_or (λ (u : Taken). u.ended) (taken_at v of_channel o (cell_for of_channel (arrival v (Carry (Up node))))) []) gathered
        ∙ (ap (λ o. option_map_or (λ (u : Taken). u.ended) (taken_at v of_channel (Some r) o) []) comes
        ∙ (ap (λ (b : Bool). (taken v.notes b r cell).ended) has_room ∙ ended_whole v.notes r cell last p.going p.short))

    whole : payload_in (octets_of (ended_at v (Carry (Up node)) of_channel)) ≡ Some p.payload
    whole = ap (λ (cs : List Cell). payload_in (octets_of cs)) ended ∙ p.test

    own : last_mark (ended_at v (Carry (Up node)) of_channel) ≡ cell.mark
    own = ap last_mark ended ∙ last_is r.chain cell

    same : p.payload ≡ payload
    same = one_payload p.payload payload (sym (counts of_channel p.payload whole) ∙ (ap (payload_of v.notes.frames) own ∙ made))

    abbrev emptied : Acted
    emptied = with_reassembly a t (record r { chain = [] })

    made_there : is_frame emptied.notes.frames cell.mark payload ≡ true
    made_there = ap (λ (n : Journal). is_frame n.frames cell.mark payload) (rest_notes a t a (record r { chain = [] }) t) ∙ is_made a.notes cell.mark payload made

    pub acts : cell_comes a cell ≡ frame_holds (with_reassembly a t nothing_taken) t cell.mark payload
    acts = ap (λ o. takes_cell a cell o) taker
        ∙ (ap (λ (u : Taken). after_cell a t u) p.left
        ∙ (ends_so emptied t r.chain cell
        ∙ (ap (λ o. after_test emptied t (last_mark (r.chain ++ cell ∷ [])) (tested_by emptied.notes (r.chain ++ cell ∷ []) o)) p.test
        ∙ (ap (λ (m : Mark). frame_holds (record emptied { notes = passed_test emptied.notes m p.payload }) t m p.payload) (last_is r.chain cell)
        ∙ (ap (λ (x : List ℕ). frame_holds (record emptied { notes = passed_test emptied.notes cell.mark x }) t cell.mark x) same
        ∙ (ap (λ (b : Bool). frame_holds (record emptied { notes = if b then emptied.notes else noted emptied.notes (Chance cell.mark) }) t cell.mark payload) made_there
        ∙ ap (λ (x : Reassembly). frame_holds (with_reassembly a t x) t cell.mark payload) no_more))))))
      where
        no_more : record r { chain = [] } ≡ nothing_taken
        no_more = λ i. record { chain = []; is_skipping = p.going i }
