-- of what waits for an end of a link each cell is known: its line shows it

use Rattle.std.proofs.Common.{◌≡◌, ◌≢◌, ℕ, ◌==◌, ◌&&◌, Bool, true, false, List, [], ◌∷◌, take, Option, None, Some, refl, sym, ◌∙◌, ap, if◌then◌else◌}
use Rattle.world_model.specs.Words.{Place, Cell, Frame, payload_of, default_channel, same_channel, World, queue_at, same_queue, label_channel_of}
use Rattle.law_link_tables.specs.law_passing.ordered_lists.Ordered.{Every}
use Rattle.law_link_tables.specs.law_port_views.law_label_line.Cells as lines
use Rattle.law_link_tables.specs.law_port_views.law_label_line.Cells.{Role}
use Rattle.law_link_tables.specs.law_port_views.Link.{LinkLabel, other}
use Rattle.law_link_tables.specs.law_port_views.Heard.{heard_by, is_own}
use Rattle.law_link_tables.specs.law_shown_cells.Seen.{Seen, Nothing, Unknown, hidden, word}
use Rattle.law_link_tables.specs.law_shown_cells.Label.{Told, told_of, seen_message, seen_packet, seen_payload, Where, channel_at, on_label, seen, ShowsCells}
use Rattle.law_link_tables.specs.law_live_carries.Law.{taken_by}

module _ (place : Where) (by : Role) (link : LinkLabel) (frames : List Frame) where
  abbrev pub IsKnown : Cell → Type 0
  IsKnown cell = seen place by link frames cell ≢ Unknown

  pub all_known : (cells : List Cell) (words : List lines.Cell) → ShowsCells place by link frames cells words → Every IsKnown cells
  all_known [] words shown = tt
  all_known (cell ∷ cells) words (hidden is rest) = (λ e. absurd (cc (sym is ∙ e)), all_known cells words rest)
  all_known (cell ∷ cells) (w ∷ words) (word is rest) = (λ e. absurd (cc (sym is ∙ e)), all_known cells words rest)

  -- *Of a greeting* that is known the end of its frame is to the other end
  abbrev by_test : Cell → Told → Bool → Seen lines.Cell
  by_test cell item b = if b then seen_message cell.header.last (heard_by by link.label item.message) else Unknown

  both_false : (b : Bool) → (b && false) ≡ false
  both_false true = refl
  both_false false = refl

  pub known_is_own : (cell : Cell) (payload : List ℕ) (item : Told) → IsKnown cell → same_channel cell.header.channel (channel_at place default_channel) ≡ true
      → payload_of frames cell.mark ≡ Some payload → told_of payload ≡ Some item → is_own (link.address (other by)) item.message ≡ true
  known_is_own cell payload item known on made told =
      by_own (is_own (link.address (other by)) item.message) refl
    where
      seen_is : seen place by link frames cell ≡ by_test cell item ((item.source.0 == (link.address by).0) && is_own (link.address (other by)) item.message)
      seen_is =
          ap (λ (b : Bool). if b then seen_payload by link cell.header.last (payload_of frames cell.mark)
          else (if same_channel cell.header.channel (channel_at place (label_channel_of link.label)) then on_label by else Nothing)) on
          ∙ (ap (seen_payload by link cell.header.last) made ∙ ap (seen_packet by link cell.header.last) told)

      by_own : (b : Bool) → is_own (link.address (other by)) item.message ≡ b → b ≡ true
      by_own true e = refl
      by_own false e =
          let not_own : ((item.source.0 == (link.address by).0) && is_own (link.address (other by)) item.message) ≡ false =
          ap (λ (b : Bool). (item.source.0 == (link.address by).0) && b) e ∙ both_false (item.source.0 == (link.address by).0) in
          absurd (known (seen_is ∙ ap (by_test cell item) not_own))

-- *What an event takes* is of what waits
pub taken_known : (P : Cell → Type 0) (w : World) (own : Option Place) (place : Place) → Every P (queue_at w place) → Every P (taken_by w own place)
taken_known P w None place each = tt
taken_known P w (Some own) place each = by (same_queue own place)
  where
    first : (cells : List Cell) → Every P cells → Every P (take 1 cells)
    first [] all = tt
    first (cell ∷ cells) all = (all.0, tt)

    by : (b : Bool) → Every P (if b then take 1 (queue_at w place) else [])
    by true = first (queue_at w place) each
    by false = tt
