-- cells of the control link, as an input's line sees them

use Rattle.std.proofs.Common.{◌≡◌, ◌≢◌, ℕ, Bool, true, false, List, [], ◌∷◌, ◌++◌, Option, None, Some, refl, sym, ◌∙◌, ap, subst, length, replicate, if◌then◌else◌}
use Rattle.law_shown_cells.specs.world_model.Words.{Channel, End, NodeId, Mark, Cell, Frame, payload_of, frame_cells, default_channel, same_channel}
use Rattle.law_shown_cells.specs.world_model.gsmp_wire.declared.message.Message.{Message}
use Rattle.law_shown_cells.specs.ordered_lists.Ordered.{Every}
use Rattle.law_branch_line.specs.Words as lines
use Rattle.law_shown_cells.specs.Seen.{Seen, Nothing, Word, Unknown, Shows, nothing, hidden, word, Extends}
use Rattle.law_shown_cells.proofs.Shows.{shows_map, shows_join, shows_hidden}
use Rattle.law_shown_cells.proofs.Frames.{IsOf, IsCut, frame_is_cut, same_self, differ}
use Rattle.law_input_views.specs.Words.{seen_on_gsmp, seen_cell, seen_request, seen_answer, erased, erased_back}
use Rattle.law_input_views.specs.Shown.{controller_of, switch_of, ShowsRequests, ShowsAnswers}

module _ {W : Type 0} (seen : (last : Bool) → Option Message → Seen W) where
  -- what is known stays, while frames are made
  gsmp_kept : (last : Bool) (old new : Option (List ℕ)) → ((payload : List ℕ) → old ≡ Some payload → new ≡ Some payload)
      → seen_on_gsmp seen last old ≢ Unknown → seen_on_gsmp seen last new ≡ seen_on_gsmp seen last old
  gsmp_kept last None new h n = absurd (n refl)
  gsmp_kept last (Some payload) new h n = ap (seen_on_gsmp seen last) (h payload refl)

  tested_kept : (here : Bool) (old new : Seen W) → (old ≢ Unknown → new ≡ old) → (if here then old else Nothing) ≢ Unknown
      → (if here then new else Nothing) ≡ (if here then old else Nothing)
  tested_kept true old new h n = h n
  tested_kept false old new h n = refl

  pub cell_kept : (old new : List Frame) → Extends old new → (c : Cell) → seen_cell seen old c ≢ Unknown → seen_cell seen new c ≡ seen_cell seen old c
  cell_kept old new h c = tested_kept (same_channel c.header.channel default_channel) (seen_on_gsmp seen c.header.last (payload_of old c.mark))
      (seen_on_gsmp seen c.header.last (payload_of new c.mark)) (gsmp_kept c.header.last (payload_of old c.mark) (payload_of new c.mark) (h.kept c.mark))

  -- a cell of another channel, and one of the GSMP channel
  pub cell_elsewhere : (frames : List Frame) (c : Cell) (channel : Channel) (mark : Mark) (last : Bool) → channel ≢ default_channel → IsOf channel mark last c
      → seen_cell seen frames c ≡ Nothing
  cell_elsewhere frames c channel mark last n is =
      ap (λ (b : Bool). if b then seen_on_gsmp seen c.header.last (payload_of frames c.mark) else Nothing)
      (ap (λ (z : Channel). same_channel z default_channel) is.0 ∙ differ channel default_channel n)

  pub cell_here : (frames : List Frame) (c : Cell) (mark : Mark) (last : Bool) → IsOf default_channel mark last c
      → seen_cell seen frames c ≡ seen_on_gsmp seen last (payload_of frames mark)
  cell_here frames c mark last is =
      ap (λ (b : Bool). if b then seen_on_gsmp seen c.header.last (payload_of frames c.mark) else Nothing)
      (ap (λ (z : Channel). same_channel z default_channel) is.0 ∙ same_self default_channel)
      ∙ (ap (λ (b : Bool). seen_on_gsmp seen b (payload_of frames c.mark)) is.1 ∙ ap (λ (m : Mark). seen_on_gsmp seen last (payload_of frames m)) is.2)

  module _ (drop : W → W) where
    pub shows_more : {old new : List Frame} {cs : List Cell} {ws : List W} → Extends old new → Shows drop (seen_cell seen old) cs ws → Shows drop (seen_cell seen new) cs ws
    shows_more {old} {new} h s = shows_map (cell_kept old new h) s

    -- *A whole frame*: of another channel; of a message whose every cell is a word; of one whose last cell alone is
    pub frame_elsewhere : (frames : List Frame) (channel : Channel) (mark : Mark) (payload : List ℕ) → channel ≢ default_channel
        → Shows drop (seen_cell seen frames) (frame_cells channel mark payload) []
    frame_elsewhere frames channel mark payload n =
        let cut : IsCut channel mark (frame_cells channel mark payload) = frame_is_cut channel mark payload in
        subst (λ (z : List Cell). Shows drop (seen_cell seen frames) z []) (sym cut.whole)
        (shows_join (shows_hidden (IsOf channel mark false) cut.front (λ c is. cell_elsewhere frames c channel mark false n is) cut.early)
        (hidden (cell_elsewhere frames cut.final channel mark true n cut.last) nothing))

    words : (frames : List Frame) (mark : Mark) (w : W) (cs : List Cell) → seen_on_gsmp seen false (payload_of frames mark) ≡ Word (drop w)
        → Every (IsOf default_channel mark false) cs → Shows drop (seen_cell seen frames) cs (replicate (length cs) w)
    words frames mark w [] e each = nothing
    words frames mark w (c ∷ cs) e each = word (cell_here frames c mark false each.0 ∙ e) (words frames mark w cs e each.1)

    pub frame_of_copies : (frames : List Frame) (mark : Mark) (payload : List ℕ) (w : W)
        → ((last : Bool) → seen_on_gsmp seen last (payload_of frames mark) ≡ Word (drop w))
        → (n : ℕ) × Shows drop (seen_cell seen frames) (frame_cells default_channel mark payload) (replicate n w ++ w ∷ [])
    frame_of_copies frames mark payload w e =
        let cut : IsCut default_channel mark (frame_cells default_channel mark payload) = frame_is_cut default_channel mark payload in (
          length cut.front,
          subst (λ (z : List Cell). Shows drop (seen_cell seen frames) z (replicate (length cut.front) w ++ w ∷ [])) (sym cut.whole)
              (shows_join (words frames mark w cut.front (e false) cut.early) (word (cell_here frames cut.final mark true cut.last ∙ e true) nothing)),
        )

    pub frame_of_answer : (frames : List Frame) (mark : Mark) (payload : List ℕ) (w : W) → seen_on_gsmp seen false (payload_of frames mark) ≡ Nothing
        → seen_on_gsmp seen true (payload_of frames mark) ≡ Word (drop w)
        → Shows drop (seen_cell seen frames) (frame_cells default_channel mark payload) (w ∷ [])
    frame_of_answer frames mark payload w early e =
        let cut : IsCut default_channel mark (frame_cells default_channel mark payload) = frame_is_cut default_channel mark payload in
        subst (λ (z : List Cell). Shows drop (seen_cell seen frames) z (w ∷ [])) (sym cut.whole)
        (shows_join (shows_hidden (IsOf default_channel mark false) cut.front (λ c is. cell_here frames c mark false is ∙ early) cut.early)
        (word (cell_here frames cut.final mark true cut.last ∙ e) nothing))

-- *To the switch and to the controller*
pub requests_more : (node : NodeId) (input : End) (old new : List Frame) (cs : List Cell) (ws : List lines.ToSwitch) → Extends old new
    → ShowsRequests node input old cs ws → ShowsRequests node input new cs ws
requests_more node input old new cs ws h s = shows_more (seen_request (controller_of node) (switch_of node) input) erased h s

pub answers_more : (node : NodeId) (input : End) (old new : List Frame) (cs : List Cell) (ws : List lines.ToController) → Extends old new
    → ShowsAnswers node input old cs ws → ShowsAnswers node input new cs ws
answers_more node input old new cs ws h s = shows_more (seen_answer (switch_of node) (controller_of node) input) erased_back h s
