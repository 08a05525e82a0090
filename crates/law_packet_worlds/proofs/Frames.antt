-- a frame is made and joins the queue, or there is no room for it

use Rattle.std.proofs.Common.{◌≡◌, ℕ, ◌<◌, ◌≤◌, ◌+◌, ◌==◌, ◌&&◌, Bool, true, false, cond, List, ◌++◌, None, Some, refl, ap, arith, inl, inr}
use Rattle.std.proofs.lemmas.Bool.{cases_lt}
use Rattle.std.proofs.lemmas.Bool.Decides.{nat_tests}
use Rattle.law_arrival_views.specs.world_model.Words.{Place, Channel, Mark, Cell, Frame, Loss, PoolFull, payload_of, same_mark, noted, made, next_mark, frame_cells}
use Rattle.law_arrival_views.specs.ordered_lists.Ordered.{Every}
use Rattle.law_arrival_views.proofs.ordered_lists.Every.{every_join}
use Rattle.law_packet_worlds.proofs.Lists.{count_by-append}
use Rattle.law_run_facts.specs.law_world_views.Marks.{heading_at, IsNewest, Means, ends, ends_in}
use Rattle.law_packet_worlds.proofs.Ledger.{payload_new, none_stays, other_packet, other_frame, own_entry, entered}
use Rattle.law_packet_worlds.proofs.Cut.{one, IsCut, frame_is_cut, count_frame}
use Rattle.law_packet_worlds.proofs.Meant.{in_frames, IsProper, IsApart, apart_cells, apart_control, MeansAt, frame_means}
use Rattle.law_packet_worlds.proofs.Good.{Turn, Now, IsAway, IsTurn, IsGood, good_set, good_loss, good_less, good_made}

-- the packet of a cell, if it is a last one
abbrev pub in_hand : Cell → ℕ → ℕ
in_hand cell k = cond (ends k cell) 1 0

pub few_in_hand : (cell : Cell) (k : ℕ) → in_hand cell k ≤ one cell.mark.packet k
few_in_hand cell k =
    elim cell.header.last as (λ (v : Bool). cond (v && (cell.mark.packet == k)) 1 0 ≤ one cell.mark.packet k) [ true ↦ omega arith | false ↦ omega arith ]

pub one_none : (k : ℕ) → 0 < k → one 0 k ≡ 0
one_none k some = grind (arith, nat_tests)

pub own_hand : (mark : Mark) → ◌≡◌ {A = ℕ} (one mark.packet mark.packet) 1
own_hand mark = rw (own_entry mark) refl

-- what a frame has to be that is made now
pub record IsNewFrame (t : Turn) (n : Now) (channel : Channel) (mark : Mark) (payload : List ℕ) : Type 0 where
  pub unmade : payload_of n.notes.frames mark ≡ None
  pub here : Every (IsApart mark.packet) n.cells
  pub away : (place : Place) → IsAway t place → Every (IsApart mark.packet) (t.others place)
  pub ahead : (k i : ℕ) → t.sent < k → same_mark mark (record { packet = k; frame = i }) ≡ false
  pub controls : (i : ℕ) → n.controls < i → same_mark mark (record { packet = 0; frame = i }) ≡ false
  pub means : Means (in_frames t.base (made n.notes mark payload).frames) (heading_at t.base.topology t.place channel) true mark
  pub proper : IsProper t.base.topology (heading_at t.base.topology t.place channel)

module _ (t : Turn) where
  made_one : (hand : ℕ → ℕ) (n : Now) (channel : Channel) (mark : Mark) (payload : List ℕ) → IsNewFrame t n channel mark payload → IsGood t hand n → IsGood t hand (record n { notes = made n.notes mark payload })
  made_one hand n channel mark payload new good = good_made t hand n mark payload new.unmade new.here new.away new.ahead new.controls good

  pub good_put : (hand other : ℕ → ℕ) (n : Now) (channel : Channel) (mark : Mark) (payload : List ℕ) → IsNewFrame t n channel mark payload
      → ((k : ℕ) → 0 < k → hand k ≡ one mark.packet k + other k) → IsGood t hand n
      → IsGood t other (record n { cells = n.cells ++ frame_cells channel mark payload; notes = made n.notes mark payload })
  good_put hand other n channel mark payload new own good =
      let cells : List Cell = frame_cells channel mark payload in
      let cut : IsCut channel mark payload cells = frame_is_cut channel mark payload in
      let later : Now = record n { notes = made n.notes mark payload } in
      let first : IsGood t hand later = made_one hand n channel mark payload new good in
      good_set t hand other later (n.cells ++ cells)
      (every_join (MeansAt t.base later.notes.frames t.place) n.cells cells first.meant.here (frame_means t.base later.notes.frames t.place channel mark payload cells cut new.means new.proper))
      (λ k some. omega (arith, count_by-append (ends k) n.cells cells, count_frame k channel mark payload cells cut, own k some)) first

  pub good_full : (hand other : ℕ → ℕ) (n : Now) (channel : Channel) (mark : Mark) (payload : List ℕ) → IsNewFrame t n channel mark payload
      → ((k : ℕ) → 0 < k → hand k ≡ one mark.packet k + other k) → IsGood t hand n
      → IsGood t other (record n { notes = noted (made n.notes mark payload) (Loss mark PoolFull) })
  good_full hand other n channel mark payload new own good =
      let later : Now = record n { notes = made n.notes mark payload } in
      good_less t mark.packet hand other (record n { notes = noted (made n.notes mark payload) (Loss mark PoolFull) }) (λ k some. omega (arith, own k some)) (λ k some. omega (arith, own k some))
      (entered later.notes.entries mark PoolFull) (good_loss t hand later mark PoolFull (made_one hand n channel mark payload new good))

  -- *Control marks* that are given out
  pub good_controls : (hand : ℕ → ℕ) (n : Now) → IsGood t hand n → IsGood t hand (record n { controls = n.controls + 1 })
  good_controls hand n good = record {
    meant = record { here = good.meant.here; away = good.meant.away; unmade = good.meant.unmade; unused = λ i above. good.meant.unused i (omega (arith, above)) };
    counted = record { once = good.counted.once; later = good.counted.later; kept = good.counted.kept };
    truths = good.truths;
  }

  pub new_control : (hand : ℕ → ℕ) (n : Now) (channel : Channel) (payload : List ℕ) → IsGood t hand n
      → Means (in_frames t.base (made n.notes (record { packet = 0; frame = n.controls + 1 }) payload).frames) (heading_at t.base.topology t.place channel) true (record { packet = 0; frame = n.controls + 1 })
      → IsProper t.base.topology (heading_at t.base.topology t.place channel)
      → IsNewFrame t (record n { controls = n.controls + 1 }) channel (record { packet = 0; frame = n.controls + 1 }) payload
  new_control hand n channel payload good m proper =
      let mark : Mark = record { packet = 0; frame = n.controls + 1 } in
      record {
        unmade = good.meant.unused (n.controls + 1) (omega arith);
        here = apart_control n.cells;
        away = λ place is. apart_control (t.others place);
        ahead = λ k i above. other_packet mark (record { packet = k; frame = i }) (λ e. absurd (omega (arith, e, above)));
        controls = λ i above. other_frame mark (record { packet = 0; frame = i }) (λ e. absurd (omega (arith, e, above)));
        means = m;
        proper = proper;
      }

  pub own_control : (mark : Mark) (hand : ℕ → ℕ) → mark.packet ≡ 0 → (k : ℕ) → 0 < k → hand k ≡ one mark.packet k + hand k
  own_control mark hand zero k some = omega (arith, one_none k some, ap (λ p. one p k) zero)

  -- *The next frame of the packet in hand*
  low_hand : (n : Now) (mark : Mark) → IsGood t (one mark.packet) n → mark.packet ≤ t.sent
  low_hand n mark good = elim (cases_lt t.sent mark.packet) [
    | inl above ↦ absurd (omega (arith, good.counted.later mark.packet above, own_hand mark))
    | inr low ↦ omega (arith, low)
  ]

  pub new_next : IsTurn t → (n : Now) (channel : Channel) (mark : Mark) (payload : List ℕ) → 0 < mark.packet → IsNewest n.notes.frames mark → IsGood t (one mark.packet) n
      → (IsNewest (made n.notes (next_mark mark) payload).frames (next_mark mark) → payload_of (made n.notes (next_mark mark) payload).frames (next_mark mark) ≡ Some payload
      → Means (in_frames t.base (made n.notes (next_mark mark) payload).frames) (heading_at t.base.topology t.place channel) true (next_mark mark))
      → IsProper t.base.topology (heading_at t.base.topology t.place channel)
      → IsNewFrame t n channel (next_mark mark) payload
  new_next turn n channel mark payload some newest good m proper =
      let next : Mark = next_mark mark in
      let frame : Frame = record { mark = next; payload = payload } in
      let low : mark.packet ≤ t.sent = low_hand n mark good in
      let none : t.rest mark.packet + ends_in mark.packet n.cells ≡ 0 = omega (arith, good.counted.once mark.packet some, own_hand mark) in
      record {
        unmade = newest (mark.frame + 1) (omega arith);
        here = apart_cells mark.packet n.cells (omega (arith, none));
        away = λ place is. apart_cells mark.packet (t.others place) (omega (arith, none, turn.below mark.packet place is));
        ahead = λ k i above. other_packet next (record { packet = k; frame = i }) (λ e. absurd (omega (arith, e, above, low)));
        controls = λ i above. other_packet next (record { packet = 0; frame = i }) (λ e. absurd (omega (arith, e, some)));
        means = m (λ i above. none_stays n.notes.frames frame (record { packet = mark.packet; frame = i }) (other_frame next (record { packet = mark.packet; frame = i }) (λ e. absurd (omega (arith, e, above))))
            (newest i (omega (arith, above)))) (payload_new n.notes.frames frame);
        proper = proper;
      }
