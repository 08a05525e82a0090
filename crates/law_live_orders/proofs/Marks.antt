-- the last cells of a channel in a list of cells

use Rattle.std.proofs.Common.{◌≡◌, ℕ, ◌/◌, ◌&&◌, Bool, true, false, cond, List, [], ◌∷◌, ◌++◌, append-nil, length, map, filter, refl, sym, ◌∙◌, ap, arith}
use Rattle.std.specs.List.{range_with_len}
use Rattle.std.proofs.lemmas.Bool.Decides.{nat_tests}
use Rattle.std.proofs.lemmas.List.{map-append, append_cancel_left}
use Rattle.std.proofs.lemmas.List.Elements.{filter-append}
use Rattle.world_model.specs.Words.{Channel, Mark, Cell, frame_cells, same_channel}
use Rattle.world_model.specs.aal5_frames.Frame.{cell_of, cells_with, pdu_of}
use Rattle.law_live_orders.specs.Law.{is_last_on, last_marks}

-- *Channels*
pub channel_is : (c d : Channel) → same_channel c d ≡ true → c ≡ d
channel_is c d e = λ i. record { vpi = vpi i; vci = vci i }
  where
    vpi : c.vpi ≡ d.vpi
    vpi = grind (arith, nat_tests)

    vci : c.vci ≡ d.vci
    vci = grind (arith, nat_tests)

pub channel_self : (c : Channel) → same_channel c c ≡ true
channel_self c = grind (arith, nat_tests)

module _ (channel : Channel) where
  pub marks_join : (xs ys : List Cell) → last_marks channel (xs ++ ys) ≡ last_marks channel xs ++ last_marks channel ys
  marks_join xs ys = ap (map (λ (cell : Cell). cell.mark)) (filter-append (is_last_on channel) xs ys)
      ∙ map-append (λ (cell : Cell). cell.mark) (filter (is_last_on channel) xs) (filter (is_last_on channel) ys)

  pub marks_here : (cell : Cell) (cells : List Cell) → is_last_on channel cell ≡ true → last_marks channel (cell ∷ cells) ≡ cell.mark ∷ last_marks channel cells
  marks_here cell cells e =
      ap (λ (b : Bool). map (λ (c : Cell). c.mark) (cond b (cell ∷ filter (is_last_on channel) cells) (filter (is_last_on channel) cells))) e

  pub marks_there : (cell : Cell) (cells : List Cell) → is_last_on channel cell ≡ false → last_marks channel (cell ∷ cells) ≡ last_marks channel cells
  marks_there cell cells e =
      ap (λ (b : Bool). map (λ (c : Cell). c.mark) (cond b (cell ∷ filter (is_last_on channel) cells) (filter (is_last_on channel) cells))) e

  -- more that has none leaves them
  pub marks_same : (xs more : List Cell) → last_marks channel more ≡ [] → last_marks channel (xs ++ more) ≡ last_marks channel xs
  marks_same xs more none = marks_join xs more ∙ (ap (λ (ms : List Mark). last_marks channel xs ++ ms) none ∙ append-nil (last_marks channel xs))

  -- and where they are left, more had none
  pub none_more : (xs more : List Cell) → last_marks channel (xs ++ more) ≡ last_marks channel xs → last_marks channel more ≡ []
  none_more xs more same =
      append_cancel_left (last_marks channel xs) (last_marks channel more) [] (sym (marks_join xs more) ∙ (same ∙ sym (append-nil (last_marks channel xs))))

  -- *A frame* on another channel has none
  none_mapped : (f : ℕ → Cell) (ns : List ℕ) → ((k : ℕ) → is_last_on channel (f k) ≡ false) → last_marks channel (map f ns) ≡ []
  none_mapped f [] each = refl
  none_mapped f (n ∷ ns) each = marks_there (f n) (map f ns) (each n) ∙ none_mapped f ns each

  none_and : (x y : Bool) → y ≡ false → (x && y) ≡ false
  none_and true y e = e
  none_and false y e = refl

  pub frame_has_none : (other : Channel) (mark : Mark) (payload : List ℕ) → same_channel other channel ≡ false → last_marks channel (frame_cells other mark payload) ≡ []
  unfolding cells_with
  frame_has_none other mark payload apart =
      none_mapped (cell_of other mark (pdu_of payload)) (range_with_len 0 (length (pdu_of payload) / 48))
      (λ k. none_and (cell_of other mark (pdu_of payload) k).header.last (same_channel other channel) apart)
