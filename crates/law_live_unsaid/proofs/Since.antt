-- frames are sent since an event began: those of one channel hold no message of IFMP, and others are none of it

use Rattle.std.proofs.Common.{◌≡◌, ℕ, ◌+◌, ◌≤◌, Bool, true, false, List, [], ◌∷◌, ◌++◌, None, refl, sym, ◌∙◌, ap, subst, arith, append-nil, append_assoc}
use Rattle.world_model.specs.Words.{Channel, Mark, Cell, Frame, ifmp_of, frame_cells, same_channel}
use Rattle.law_port_facts.specs.ordered_lists.Ordered.{Every}
use Rattle.law_port_facts.proofs.ordered_lists.Every.{every_join, every_map}
use Rattle.law_shown_cells.proofs.Made.{made_is, made_elsewhere}
use Rattle.law_shown_cells.proofs.Frames.{IsOf, IsCut, frame_is_cut}
use Rattle.law_live_orders.specs.Law.{is_last_on, last_marks}
use Rattle.law_live_orders.specs.Messages.{HoldsNone}
use Rattle.law_live_orders.proofs.Marks.{marks_join, marks_here, marks_there, frame_has_none}

-- *The mark* of a packet, or a control mark that was given out
abbrev pub IsGiven : (controls : ℕ) → Mark → Type 0
IsGiven controls mark = mark.packet ≡ 0 → mark.frame ≤ controls

abbrev pub control_mark : (number : ℕ) → Mark
control_mark number = record { packet = 0; frame = number }

abbrev pub with_frame : List Frame → Mark → List ℕ → List Frame
with_frame frames mark payload = frames ++ record { mark = mark; payload = payload } ∷ []

-- *The cells of a frame* have its mark, and so have those that are last ones on a channel
one_mark : (channel : Channel) (mark : Mark) (cells : List Cell) → Every (λ (cell : Cell). cell.mark ≡ mark) cells → Every (λ (m : Mark). m ≡ mark) (last_marks channel cells)
one_mark channel mark [] each = tt
one_mark channel mark (cell ∷ cells) each = by (is_last_on channel cell) refl (one_mark channel mark cells each.1)
  where
    by : (b : Bool) → is_last_on channel cell ≡ b → Every (λ (m : Mark). m ≡ mark) (last_marks channel cells) → Every (λ (m : Mark). m ≡ mark) (last_marks channel (cell ∷ cells))
    by true last rest = subst (Every (λ (m : Mark). m ≡ mark)) (sym (marks_here channel cell cells last)) (each.0, rest)
    by false last rest = subst (Every (λ (m : Mark). m ≡ mark)) (sym (marks_there channel cell cells last)) rest

frame_mark : (channel other : Channel) (mark : Mark) (payload : List ℕ) → Every (λ (m : Mark). m ≡ mark) (last_marks channel (frame_cells other mark payload))
frame_mark channel other mark payload =
    let cut : IsCut other mark (frame_cells other mark payload) = frame_is_cut other mark payload in
    one_mark channel mark (frame_cells other mark payload)
    (subst (Every (λ (cell : Cell). cell.mark ≡ mark)) (sym cut.whole) (every_join (λ (cell : Cell). cell.mark ≡ mark) cut.front (cut.final ∷ [])
    (every_map (IsOf other mark false) (λ (cell : Cell). cell.mark ≡ mark) cut.front (λ cell is. is.2) cut.early) (cut.last.2, tt)))

module _ (home : Channel) (began : List Cell) where
  -- *A new frame* on the channel
  pub record IsNew (frames : List Frame) (controls : ℕ) (mark : Mark) : Type 0 where
    pub given : IsGiven controls mark
    pub holds : HoldsNone frames mark

  pub record Since (queue : List Cell) (frames : List Frame) (controls : ℕ) : Type 0 where
    pub later : List Cell
    pub grown : queue ≡ began ++ later
    pub none : Every (IsNew frames controls) (last_marks home later)

  pub since_begins : (frames : List Frame) (controls : ℕ) → Since began frames controls
  since_begins frames controls = record { later = []; grown = sym (append-nil began); none = tt }

  -- what was made holds none
  pub since_ends : (queue : List Cell) (frames : List Frame) (controls : ℕ) → (s : Since queue frames controls) → Every (HoldsNone frames) (last_marks home s.later)
  since_ends queue frames controls s = every_map (IsNew frames controls) (HoldsNone frames) (last_marks home s.later) (λ mark is. is.holds) s.none

  behind : (queue cells : List Cell) (frames : List Frame) (controls : ℕ) → Every (IsNew frames controls) (last_marks home cells) → Since queue frames controls → Since (queue ++ cells) frames controls
  behind queue cells frames controls each s = record {
    later = s.later ++ cells;
    grown = ap (λ (q : List Cell). q ++ cells) s.grown ∙ append_assoc began s.later cells;
    none = subst (Every (IsNew frames controls)) (sym (marks_join home s.later cells)) (every_join (IsNew frames controls) (last_marks home s.later) (last_marks home cells) s.none each);
  }

  -- *A control frame* is made, under the next control mark
  new_made : (frames : List Frame) (controls : ℕ) (payload : List ℕ) (mark : Mark) → IsNew frames controls mark → IsNew (with_frame frames (control_mark (controls + 1)) payload) (controls + 1) mark
  new_made frames controls payload mark is = record {
    given = λ control. more mark.frame controls (is.given control);
    holds = record {
      payload = is.holds.payload;
      made = made_elsewhere frames (control_mark (controls + 1)) mark payload
          (λ same. later mark.frame controls (is.given (ap (λ (m : Mark). m.packet) (sym same))) (ap (λ (m : Mark). m.frame) same))
          ∙ is.holds.made;
      no_message = is.holds.no_message;
    };
  }
    where
      more : (k n : ℕ) → k ≤ n → k ≤ n + 1
      more k n low = omega (arith, low)

      later : (k n : ℕ) → k ≤ n → n + 1 ≡ k → ⊥
      later k n low same = absurd (omega (arith, low, same))

  pub since_made : (queue : List Cell) (frames : List Frame) (controls : ℕ) (payload : List ℕ) → Since queue frames controls
      → Since queue (with_frame frames (control_mark (controls + 1)) payload) (controls + 1)
  since_made queue frames controls payload s = record {
    later = s.later;
    grown = s.grown;
    none = every_map (IsNew frames controls) (IsNew (with_frame frames (control_mark (controls + 1)) payload) (controls + 1)) (last_marks home s.later) (new_made frames controls payload) s.none;
  }

  -- its cells are none of the channel
  pub since_elsewhere : (queue : List Cell) (channel : Channel) (mark : Mark) (payload : List ℕ) (frames : List Frame) (controls : ℕ) → same_channel channel home ≡ false → Since queue frames controls
      → Since (queue ++ frame_cells channel mark payload) frames controls
  since_elsewhere queue channel mark payload frames controls apart s = behind queue (frame_cells channel mark payload) frames controls
      (subst (Every (IsNew frames controls)) (sym (frame_has_none home channel mark payload apart)) tt) s

  -- *A first frame*, on any channel, holds none
  pub since_first : (channel : Channel) (mark : Mark) (payload : List ℕ) (frames : List Frame) (controls : ℕ) → IsGiven controls mark → ifmp_of payload ≡ None
      → Since (began ++ frame_cells channel mark payload) (with_frame frames mark payload) controls
  since_first channel mark payload frames controls given no_message = record {
    later = frame_cells channel mark payload;
    grown = refl;
    none = every_map (λ (m : Mark). m ≡ mark) (IsNew (with_frame frames mark payload) controls) (last_marks home (frame_cells channel mark payload))
        (λ m same. subst (IsNew (with_frame frames mark payload) controls) (sym same) here) (frame_mark home channel mark payload);
  }
    where
      here : IsNew (with_frame frames mark payload) controls mark
      here = record { given = given; holds = record { payload = payload; made = made_is frames mark payload; no_message = no_message } }
