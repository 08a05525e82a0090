-- a whole frame: its cells, and what they show on a link

use Rattle.std.proofs.Common.{◌≡◌, ◌≢◌, ℕ, zero, suc, ◌+◌, ◌-◌, ◌<◌, Bool, true, false, List, [], ◌∷◌, ◌++◌, add-one, zero-add, refl, sym, ◌∙◌, ap, subst, arith, map, replicate, length, if◌then◌else◌}
use Rattle.std.specs.Prelude.{◌*◌, ◌==◌}
use Rattle.std.specs.List.{range_with_len}
use Rattle.std.proofs.lemmas.Bool.Decides.{nat_tests}
use Rattle.std.proofs.lemmas.List.FromFn.{map-range_with_len_more}
use Rattle.world_model.specs.Words.{Mark, Channel, label_channel_of, Cell, Frame, payload_of, frame_cells, default_channel, same_channel}
use Rattle.world_model.specs.aal5_frames.Frame.{cell_of, cells_for, pdu_of}
use Rattle.world_model.proofs.aal5_frames.Cells.{cells_all, length-pdu_of}
use Rattle.law_port_views.specs.ordered_lists.Ordered.{Every}
use Rattle.law_port_views.proofs.ordered_lists.Every.{every_join}
use Rattle.law_port_views.specs.law_label_line.Cells as lines
use Rattle.law_port_views.specs.law_label_line.Cells.{Role}
use Rattle.law_port_views.specs.Link.{LinkLabel}
use Rattle.law_shown_cells.specs.Seen.{Nothing, Word, nothing, hidden, word}
use Rattle.law_shown_cells.specs.Label.{Where, seen_payload, on_label, seen, ShowsCells, channel_at}
use Rattle.law_shown_cells.proofs.Shows.{shows_join, shows_hidden}

abbrev pub IsOf : Channel → Mark → Bool → Cell → Type 0
IsOf channel mark last cell = (cell.header.channel ≡ channel) × (cell.header.last ≡ last) × (cell.mark ≡ mark)

-- all cells but one aren't last ones, and that one stands at the end
pub record IsCut (channel : Channel) (mark : Mark) (cells : List Cell) : Type 0 where
  pub front : List Cell
  pub final : Cell
  pub whole : cells ≡ front ++ final ∷ []
  pub early : Every (IsOf channel mark false) front
  pub last : IsOf channel mark true final

every_value : (P : Cell → Type 0) (f : ℕ → Cell) (n : ℕ) → ((k : ℕ) → k < n → P (f k)) → Every P (map f (range_with_len 0 n))
every_value P f zero each = tt
every_value P f (suc n) each =
    let more : map f (range_with_len 0 (suc n)) ≡ map f (range_with_len 0 n) ++ f n ∷ [] =
    ap (λ m. map f (range_with_len 0 m)) (sym (add-one n)) ∙ map-range_with_len_more f 0 n n (zero-add n) in
    subst (Every P) (sym more) (every_join P (map f (range_with_len 0 n)) (f n ∷ []) (every_value P f n (λ k low. each k (omega (arith, low)))) (each n (omega arith), tt))

not_last : (k n size : ℕ) → k < n → size ≡ 48 * (n + 1) → (48 * (k + 1) == size) ≡ false
not_last k n size low is = grind (arith, nat_tests)

is_last : (n size : ℕ) → size ≡ 48 * (n + 1) → (48 * (n + 1) == size) ≡ true
is_last n size is = grind (arith, nat_tests)

pub frame_is_cut : (channel : Channel) (mark : Mark) (payload : List ℕ) → IsCut channel mark (frame_cells channel mark payload)
frame_is_cut channel mark payload =
    let n : ℕ = cells_for (length payload) - 1 in
    let f : ℕ → Cell = cell_of channel mark (pdu_of payload) in
    let size : length (pdu_of payload) ≡ 48 * (n + 1) = omega (arith, length-pdu_of payload) in
    record {
      front = map f (range_with_len 0 n);
      final = f n;
      whole = cells_all channel mark (pdu_of payload) (n + 1) size ∙ map-range_with_len_more f 0 n n (zero-add n);
      early = every_value (IsOf channel mark false) f n (λ k low. (refl, not_last k n (length (pdu_of payload)) low size, refl));
      last = (refl, is_last n (length (pdu_of payload)) size, refl);
    }

-- *Channels*
pub same_self : (c : Channel) → same_channel c c ≡ true
same_self c = grind (arith, nat_tests)

pub same_is : (c d : Channel) → same_channel c d ≡ true → c ≡ d
same_is c d e = λ i. record { vpi = vpi i; vci = vci i }
  where
    vpi : c.vpi ≡ d.vpi
    vpi = grind (arith, nat_tests)

    vci : c.vci ≡ d.vci
    vci = grind (arith, nat_tests)

pub differ : (c d : Channel) → c ≢ d → same_channel c d ≡ false
differ c d n = by (same_channel c d) refl
  where
    by : (b : Bool) → same_channel c d ≡ b → b ≡ false
    by true e = absurd (n (same_is c d e))
    by false e = refl

module _ (place : Where) (by : Role) (link : LinkLabel) (frames : List Frame) where
  -- a cell of another channel shows nothing
  pub seen_elsewhere : (c : Cell) (channel : Channel) (mark : Mark) (last : Bool) → channel ≢ channel_at place default_channel
      → channel ≢ channel_at place (label_channel_of link.label) → IsOf channel mark last c → seen place by link frames c ≡ Nothing
  seen_elsewhere c channel mark last n m is =
      ap (λ (b : Bool). if b then seen_payload by link c.header.last (payload_of frames c.mark) else (if same_channel c.header.channel (channel_at place (label_channel_of link.label)) then on_label by else Nothing))
      (ap (λ (z : Channel). same_channel z (channel_at place default_channel)) is.0 ∙ differ channel (channel_at place default_channel) n)
      ∙ ap (λ (b : Bool). if b then on_label by else Nothing)
      (ap (λ (z : Channel). same_channel z (channel_at place (label_channel_of link.label))) is.0 ∙ differ channel (channel_at place (label_channel_of link.label)) m)

  -- one of the default channel shows what its frame says
  pub seen_default : (c : Cell) (mark : Mark) (last : Bool) → IsOf (channel_at place default_channel) mark last c
      → seen place by link frames c ≡ seen_payload by link last (payload_of frames mark)
  seen_default c mark last is =
      ap (λ (b : Bool). if b then seen_payload by link c.header.last (payload_of frames c.mark) else (if same_channel c.header.channel (channel_at place (label_channel_of link.label)) then on_label by else Nothing))
      (ap (λ (z : Channel). same_channel z (channel_at place default_channel)) is.0 ∙ same_self (channel_at place default_channel))
      ∙ (ap (λ (b : Bool). seen_payload by link b (payload_of frames c.mark)) is.1 ∙ ap (λ (m : Mark). seen_payload by link last (payload_of frames m)) is.2)

  early_words : (message : lines.Message) (cs : List Cell) (mark : Mark) → seen_payload by link false (payload_of frames mark) ≡ Word (lines.Default false message)
      → Every (IsOf (channel_at place default_channel) mark false) cs
      → ShowsCells place by link frames cs (replicate (length cs) (lines.Default false message))
  early_words message [] mark e each = nothing
  early_words message (c ∷ cs) mark e each = word (seen_default c mark false each.0 ∙ e) (early_words message cs mark e each.1)

  -- the frame of a message that bears on the label: as many cells that aren't last as it has, and a last one
  pub frame_says : (mark : Mark) (payload : List ℕ) (message : lines.Message)
      → ((last : Bool) → seen_payload by link last (payload_of frames mark) ≡ Word (lines.Default last message))
      → (n : ℕ) × ShowsCells place by link frames (frame_cells (channel_at place default_channel) mark payload)
      (replicate n (lines.Default false message) ++ lines.Default true message ∷ [])
  frame_says mark payload message e =
      let cut : IsCut (channel_at place default_channel) mark (frame_cells (channel_at place default_channel) mark payload) = frame_is_cut (channel_at place default_channel) mark payload in (
        length cut.front,
        subst (λ (z : List Cell). ShowsCells place by link frames z (replicate (length cut.front) (lines.Default false message) ++ lines.Default true message ∷ []))
            (sym cut.whole)
            (shows_join (early_words message cut.front mark (e false) cut.early) (word (seen_default cut.final mark true cut.last ∙ e true) nothing)),
      )

  -- the frame of what says nothing to the line
  pub frame_quiet : (mark : Mark) (payload : List ℕ) → ((last : Bool) → seen_payload by link last (payload_of frames mark) ≡ Nothing)
      → ShowsCells place by link frames (frame_cells (channel_at place default_channel) mark payload) []
  frame_quiet mark payload e =
      let cut : IsCut (channel_at place default_channel) mark (frame_cells (channel_at place default_channel) mark payload) = frame_is_cut (channel_at place default_channel) mark payload in
      subst (λ (z : List Cell). ShowsCells place by link frames z []) (sym cut.whole)
      (shows_join (shows_hidden (IsOf (channel_at place default_channel) mark false) cut.front (λ c is. seen_default c mark false is ∙ e false) cut.early)
      (hidden (seen_default cut.final mark true cut.last ∙ e true) nothing))

  -- the frame of another channel
  pub frame_elsewhere : (channel : Channel) (mark : Mark) (payload : List ℕ) → channel ≢ channel_at place default_channel
      → channel ≢ channel_at place (label_channel_of link.label) → ShowsCells place by link frames (frame_cells channel mark payload) []
  frame_elsewhere channel mark payload n m =
      let cut : IsCut channel mark (frame_cells channel mark payload) = frame_is_cut channel mark payload in
      subst (λ (z : List Cell). ShowsCells place by link frames z []) (sym cut.whole)
      (shows_join (shows_hidden (IsOf channel mark false) cut.front (λ c is. seen_elsewhere c channel mark false n m is) cut.early)
      (hidden (seen_elsewhere cut.final channel mark true n m cut.last) nothing))
