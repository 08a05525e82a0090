-- frames are sent: those of the GSMP channel are new, and others are none of it

use Rattle.std.proofs.Common.{◌≡◌, ◌≢◌, ℕ, ◌+◌, ◌≤◌, true, false, true≢false, List, [], ◌∷◌, ◌++◌, ◌⊎◌, inl, inr, sym, ◌∙◌, ap, subst, arith}
use Rattle.law_branch_shapes.specs.world_model.Words.{Channel, Mark, Cell, Frame, payload_of, frame_cells, default_channel, same_channel}
use Rattle.law_frame_readings.specs.ordered_lists.Ordered.{Every}
use Rattle.law_frame_readings.proofs.ordered_lists.Every.{every_join, every_map}
use Rattle.law_frame_readings.proofs.law_shown_cells.Made.{made_is, made_elsewhere}
use Rattle.law_frame_readings.proofs.law_shown_cells.Frames.{IsOf, IsCut, frame_is_cut, differ}
use Rattle.law_running_worlds.specs.New.{is_on_gsmp, control_mark, IsNew, SinceThen}

-- *The cells of a frame* have its channel and its mark
abbrev pub IsFrom : Channel → Mark → Cell → Type 0
IsFrom channel mark cell = (cell.header.channel ≡ channel) × (cell.mark ≡ mark)

pub frame_from : (channel : Channel) (mark : Mark) (payload : List ℕ) → Every (IsFrom channel mark) (frame_cells channel mark payload)
frame_from channel mark payload =
    let cut : IsCut channel mark (frame_cells channel mark payload) = frame_is_cut channel mark payload in
    subst (Every (IsFrom channel mark)) (sym cut.whole) (every_join (IsFrom channel mark) cut.front (cut.final ∷ [])
    (every_map (IsOf channel mark false) (IsFrom channel mark) cut.front (λ c is. (is.0, is.2)) cut.early) ((cut.last.0, cut.last.2), tt))

marks_apart : (m n : ℕ) → (n ≡ m → ⊥) → control_mark n ≢ control_mark m
marks_apart m n apart e = apart (ap (λ (mark : Mark). mark.frame) e)

module _ (Old : Cell → Type 0) (Good : List ℕ → Type 0) (began : List Frame) (marks : ℕ) where
  abbrev Since : List Cell → List Frame → ℕ → Type 0
  Since = SinceThen Old Good began marks

  abbrev pub IsEither : List Frame → ℕ → Cell → Type 0
  IsEither frames controls cell = is_on_gsmp cell ≡ true → Old cell ⊎ IsNew Good frames controls cell

  -- *More frames*, none of them under a mark that was given out
  new_kept : (old new : List Frame) (m n : ℕ) → m ≤ n → ((k : ℕ) → k ≤ m → payload_of new (control_mark k) ≡ payload_of old (control_mark k)) → (cell : Cell) → IsEither old m cell → IsEither new n cell
  new_kept old new m n le same cell h on = elim (h on) as (λ z. Old cell ⊎ IsNew Good new n cell) [
    | inl o ↦ inl o
    | inr k ↦ inr (record { number = k.number; is = k.is; given = omega (arith, k.given, le); payload = k.payload; made = same k.number k.given ∙ k.made; good = k.good })
  ]

  pub since_more : (queue : List Cell) (old new : List Frame) (m n : ℕ) → m ≤ n → ((k : ℕ) → k ≤ m → payload_of new (control_mark k) ≡ payload_of old (control_mark k)) → Since queue old m → Since queue new n
  since_more queue old new m n le same h = record {
    given = omega (arith, h.given, le);
    same = λ k low. same k (omega (arith, h.given, low)) ∙ h.same k low;
    cells = every_map (IsEither old m) (IsEither new n) queue (new_kept old new m n le same) h.cells;
  }

  -- cells of another channel
  elsewhere : (channel : Channel) (mark : Mark) (frames : List Frame) (controls : ℕ) → channel ≢ default_channel → (cell : Cell) → IsFrom channel mark cell → IsEither frames controls cell
  elsewhere channel mark frames controls apart cell is on = absurd (true≢false (sym on ∙ (ap (λ (c : Channel). same_channel c default_channel) is.0 ∙ differ channel default_channel apart)))

  behind : (queue cells : List Cell) (frames : List Frame) (controls : ℕ) → Every (IsEither frames controls) cells → Since queue frames controls → Since (queue ++ cells) frames controls
  behind queue cells frames controls each h = record { given = h.given; same = h.same; cells = every_join (IsEither frames controls) queue cells h.cells each }

  pub since_elsewhere : (queue : List Cell) (channel : Channel) (mark : Mark) (payload : List ℕ) (frames : List Frame) (controls : ℕ) → channel ≢ default_channel → Since queue frames controls
      → Since (queue ++ frame_cells channel mark payload) frames controls
  since_elsewhere queue channel mark payload frames controls apart h = behind queue (frame_cells channel mark payload) frames controls
      (every_map (IsFrom channel mark) (IsEither frames controls) (frame_cells channel mark payload) (elsewhere channel mark frames controls apart) (frame_from channel mark payload)) h

  -- *A control frame* is made
  abbrev with_frame : List Frame → Mark → List ℕ → List Frame
  with_frame frames mark payload = frames ++ record { mark = mark; payload = payload } ∷ []

  later : (m k : ℕ) → k ≤ m → m + 1 ≡ k → ⊥
  later m k le e = absurd (omega (arith, le, e))

  pub since_made : (queue : List Cell) (frames : List Frame) (controls : ℕ) (payload : List ℕ) → Since queue frames controls
      → Since queue (with_frame frames (control_mark (controls + 1)) payload) (controls + 1)
  since_made queue frames controls payload h = since_more queue frames (with_frame frames (control_mark (controls + 1)) payload) controls (controls + 1) (omega arith)
      (λ k low. made_elsewhere frames (control_mark (controls + 1)) (control_mark k) payload (marks_apart k (controls + 1) (later controls k low))) h

  pub since_said : (queue : List Cell) (frames : List Frame) (controls : ℕ) (payload : List ℕ) → Good payload → Since queue frames controls
      → Since (queue ++ frame_cells default_channel (control_mark (controls + 1)) payload) (with_frame frames (control_mark (controls + 1)) payload) (controls + 1)
  since_said queue frames controls payload good h =
      let mark : Mark = control_mark (controls + 1) in
      let now : List Frame = with_frame frames mark payload in
      behind queue (frame_cells default_channel mark payload) now (controls + 1)
      (every_map (IsFrom default_channel mark) (IsEither now (controls + 1)) (frame_cells default_channel mark payload)
      (λ cell is on. inr (record { number = controls + 1; is = is.1; given = omega arith; payload = payload; made = made_is frames mark payload; good = good })) (frame_from default_channel mark payload))
      (since_made queue frames controls payload h)

  -- *A packet's frame* is
  pub since_packet : (queue : List Cell) (frames : List Frame) (controls : ℕ) (mark : Mark) (payload : List ℕ) → mark.packet ≢ 0 → Since queue frames controls
      → Since queue (with_frame frames mark payload) controls
  since_packet queue frames controls mark payload packet h = since_more queue frames (with_frame frames mark payload) controls controls (omega arith)
      (λ k low. made_elsewhere frames mark (control_mark k) payload (λ e. packet (ap (λ (m : Mark). m.packet) e))) h
