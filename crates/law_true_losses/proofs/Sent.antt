-- frames are sent, one after the other: those that are put make the queue longer, the others make entries

use Rattle.std.proofs.Common.{◌≡◌, ℕ, Bool, true, false, List, [], ◌∷◌, ◌++◌, map, flat_map, append-nil, append_assoc, refl, sym, ◌∙◌, ap, subst}
use Rattle.std.proofs.lemmas.Grind.{flat_map-append}
use Rattle.std.proofs.lemmas.List.{map-append}
use Rattle.world_model.specs.Words.{Channel, Mark, Cell, Entry, Frame, Record, Loss, PoolFull, Journal, noted, made, frame_cells}
use Rattle.law_true_losses.specs.Sent.{Sending, frame_of, cells_of, entry_of}
use Rattle.law_true_losses.proofs.Notes.{IsElsewhere, Counts, noted_more, noted_other, made_kept}

-- *Frames were sent*, and this was put. Before them these were told on the way, and these frames made
pub record Sends (e x : List Entry) (f : List Frame) (notes : Journal) (HasPut : List Cell → Type 0) : Type 0 where
  pub sendings : List Sending
  pub counts : Counts e (x ++ flat_map entry_of sendings) notes
  pub frames : notes.frames ≡ f ++ map frame_of sendings
  pub cells : HasPut (flat_map cells_of sendings)

module _ (e x : List Entry) (f : List Frame) (notes : Journal) where
  -- none yet
  pub sends_none : (HasPut : List Cell → Type 0) → Counts e x notes → notes.frames ≡ f → HasPut [] → Sends e x f notes HasPut
  sends_none HasPut counts frames put = record {
    sendings = [];
    counts = subst (λ (told : List Entry). Counts e told notes) (sym (append-nil x)) counts;
    frames = frames ∙ sym (append-nil f);
    cells = put;
  }

  -- what the queues hold is said otherwise
  pub sends_as : (HasPut Other : List Cell → Type 0) → ((cells : List Cell) → HasPut cells → Other cells) → Sends e x f notes HasPut → Sends e x f notes Other
  sends_as HasPut Other so h = record { sendings = h.sendings; counts = h.counts; frames = h.frames; cells = so (flat_map cells_of h.sendings) h.cells }

  -- the notes grow by nothing of frames, and of no loss on the way
  pub sends_still : (more : Journal) (HasPut : List Cell → Type 0) → ((told : List Entry) → Counts e told notes → Counts e told more) → more.frames ≡ notes.frames
      → Sends e x f notes HasPut → Sends e x f more HasPut
  sends_still more HasPut keeps frames h = record {
    sendings = h.sendings;
    counts = keeps (x ++ flat_map entry_of h.sendings) h.counts;
    frames = frames ∙ h.frames;
    cells = h.cells;
  }

  pub sends_noted : (item : Record) (HasPut : List Cell → Type 0) → IsElsewhere item → Sends e x f notes HasPut → Sends e x f (noted notes item) HasPut
  sends_noted item HasPut other = sends_still (noted notes item) HasPut (λ told. noted_other e told notes item other) refl

  -- *One more frame*
  module _ (HasPut Other : List Cell → Type 0) (channel : Channel) (mark : Mark) (payload : List ℕ) (h : Sends e x f notes HasPut) where
    abbrev sending : Bool → Sending
    sending is_put = record { frame = record { mark = mark; payload = payload }; channel = channel; is_put = is_put }

    more_told : (s : Sending) → x ++ flat_map entry_of (h.sendings ++ s ∷ []) ≡ (x ++ flat_map entry_of h.sendings) ++ (entry_of s ++ [])
    more_told s = ap (λ (more : List Entry). x ++ more) (flat_map-append entry_of h.sendings (s ∷ [])) ∙ sym (append_assoc x (flat_map entry_of h.sendings) (entry_of s ++ []))

    more_frames : (s : Sending) → notes.frames ++ frame_of s ∷ [] ≡ f ++ map frame_of (h.sendings ++ s ∷ [])
    more_frames s = ap (λ (frames : List Frame). frames ++ frame_of s ∷ []) h.frames ∙ append_assoc f (map frame_of h.sendings) (frame_of s ∷ [])
        ∙ ap (λ (frames : List Frame). f ++ frames) (sym (map-append frame_of h.sendings (s ∷ [])))

    -- it is put
    pub sends_put : ((cells : List Cell) → HasPut cells → Other (cells ++ frame_cells channel mark payload)) → Sends e x f (made notes mark payload) Other
    sends_put puts = record {
      sendings = h.sendings ++ sending true ∷ [];
      counts = subst (λ (told : List Entry). Counts e told (made notes mark payload)) (sym (append-nil (x ++ flat_map entry_of h.sendings)) ∙ sym (more_told (sending true)))
          (made_kept e (x ++ flat_map entry_of h.sendings) notes mark payload h.counts);
      frames = more_frames (sending true);
      cells = subst Other (ap (λ (cells : List Cell). flat_map cells_of h.sendings ++ cells) (sym (append-nil (frame_cells channel mark payload))) ∙ sym (flat_map-append cells_of h.sendings (sending true ∷ [])))
          (puts (flat_map cells_of h.sendings) h.cells);
    }

    -- it finds no slots
    pub sends_full : ((cells : List Cell) → HasPut cells → Other cells) → Sends e x f (noted (made notes mark payload) (Loss mark PoolFull)) Other
    sends_full stays = record {
      sendings = h.sendings ++ sending false ∷ [];
      counts = subst (λ (told : List Entry). Counts e told (noted (made notes mark payload) (Loss mark PoolFull))) (sym (more_told (sending false)))
          (noted_more e (x ++ flat_map entry_of h.sendings) (made notes mark payload) (Loss mark PoolFull) (record { mark = mark; cause = PoolFull } ∷ []) refl refl
          (made_kept e (x ++ flat_map entry_of h.sendings) notes mark payload h.counts));
      frames = more_frames (sending false);
      cells = subst Other (sym (append-nil (flat_map cells_of h.sendings)) ∙ sym (flat_map-append cells_of h.sendings (sending false ∷ [])))
          (stays (flat_map cells_of h.sendings) h.cells);
    }
