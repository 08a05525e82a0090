-- frames are made: what was made before stays, so what was shown stays

use Rattle.std.proofs.Common.{◌≡◌, ◌≢◌, ℕ, ◌+◌, Bool, true, false, cond, List, [], ◌∷◌, ◌++◌, Option, None, Some, refl, ◌∙◌, ap, arith, if◌then◌else◌}
use Rattle.world_model.specs.Words.{Mark, Cell, Frame, payload_of, same_mark, label_channel_of, default_channel, same_channel}
use Rattle.world_model.proofs.link_model.Latest.{payload_of_push}
use Rattle.world_model.proofs.link_model.Marks.{same_mark-Decides}
use Rattle.law_port_views.specs.law_label_line.Cells as lines
use Rattle.law_port_views.specs.law_label_line.Cells.{Role}
use Rattle.law_port_views.specs.Link.{LinkLabel}
use Rattle.law_shown_cells.specs.Seen.{Seen, Nothing, Unknown, Extends, IsUnmade}
use Rattle.law_shown_cells.specs.Label.{Where, seen_payload, on_label, seen, ShowsCells, channel_at}
use Rattle.law_shown_cells.proofs.Shows.{shows_map}

pub extends_self : (frames : List Frame) → Extends frames frames
extends_self frames = record { kept = λ mark payload e. e }

pub extends_on : {a b c : List Frame} → Extends a b → Extends b c → Extends a c
extends_on h k = record { kept = λ mark payload e. k.kept mark payload (h.kept mark payload e) }

pub extends_made : (frames : List Frame) (mark : Mark) (payload : List ℕ) → payload_of frames mark ≡ None
    → Extends frames (frames ++ record { mark = mark; payload = payload } ∷ [])
extends_made frames mark payload free = record {
  kept = λ m old e.
      payload_of_push frames (record { mark = mark; payload = payload }) m
      ∙ elim (same_mark mark m) as (λ b. same_mark mark m ≡ b → cond b (Some payload) (payload_of frames m) ≡ Some old) [
        | true ↦ λ t. absurd (cc (e, free, (same_mark-Decides mark m).0 t))
        | false ↦ λ t. e
      ] refl;
}

pub made_is : (frames : List Frame) (mark : Mark) (payload : List ℕ)
    → payload_of (frames ++ record { mark = mark; payload = payload } ∷ []) mark ≡ Some payload
made_is frames mark payload = payload_of_push frames (record { mark = mark; payload = payload }) mark
    ∙ ap (λ b. cond b (Some payload) (payload_of frames mark)) ((same_mark-Decides mark mark).1 refl)

-- and another mark's stays
pub made_elsewhere : (frames : List Frame) (mark other : Mark) (payload : List ℕ) → mark ≢ other
    → payload_of (frames ++ record { mark = mark; payload = payload } ∷ []) other ≡ payload_of frames other
made_elsewhere frames mark other payload n = payload_of_push frames (record { mark = mark; payload = payload }) other
    ∙ elim (same_mark mark other) as (λ b. same_mark mark other ≡ b → cond b (Some payload) (payload_of frames other) ≡ payload_of frames other) [
      | true ↦ λ t. absurd (n ((same_mark-Decides mark other).0 t))
      | false ↦ λ t. refl
    ] refl

-- the next control mark is one under which nothing is made, and so is each one behind it then
pub unmade_next : (controls : ℕ) (frames : List Frame) (payload : List ℕ) → IsUnmade controls frames
    → IsUnmade (controls + 1) (frames ++ record { mark = record { packet = 0; frame = controls + 1 }; payload = payload } ∷ [])
unmade_next controls frames payload h k less =
    made_elsewhere frames (record { packet = 0; frame = controls + 1 }) (record { packet = 0; frame = k }) payload (λ e. differs (ap (λ (m : Mark). m.frame) e)) ∙ h k (omega (arith, less))
  where
    differs : controls + 1 ≡ k → ⊥
    differs e = absurd (omega (arith, less, e))

-- a frame of a packet is no control frame
pub unmade_packet : (controls packet frame : ℕ) (frames : List Frame) (payload : List ℕ) → packet ≢ 0 → IsUnmade controls frames
    → IsUnmade controls (frames ++ record { mark = record { packet = packet; frame = frame }; payload = payload } ∷ [])
unmade_packet controls packet frame frames payload n h k less =
    made_elsewhere frames (record { packet = packet; frame = frame }) (record { packet = 0; frame = k }) payload (λ e. n (ap (λ (m : Mark). m.packet) e)) ∙ h k less

-- *Cells of a link* that are known stay what they are
module _ (place : Where) (by : Role) (link : LinkLabel) where
  payload_kept : (last : Bool) (old new : Option (List ℕ)) → ((payload : List ℕ) → old ≡ Some payload → new ≡ Some payload)
      → seen_payload by link last old ≢ Unknown → seen_payload by link last new ≡ seen_payload by link last old
  payload_kept last None new h n = absurd (n refl)
  payload_kept last (Some payload) new h n = ap (seen_payload by link last) (h payload refl)

  abbrev tested : (default label : Bool) → (seen : Seen lines.Cell) → Seen lines.Cell
  tested default label seen = if default then seen else (if label then on_label by else Nothing)

  tested_kept : (default label : Bool) (old new : Seen lines.Cell) → (old ≢ Unknown → new ≡ old) → tested default label old ≢ Unknown
      → tested default label new ≡ tested default label old
  tested_kept true label old new h n = h n
  tested_kept false label old new h n = refl

  pub seen_kept : (old new : List Frame) → Extends old new → (c : Cell) → seen place by link old c ≢ Unknown
      → seen place by link new c ≡ seen place by link old c
  seen_kept old new h c = tested_kept (same_channel c.header.channel (channel_at place default_channel)) (same_channel c.header.channel (channel_at place (label_channel_of link.label)))
      (seen_payload by link c.header.last (payload_of old c.mark)) (seen_payload by link c.header.last (payload_of new c.mark))
      (payload_kept c.header.last (payload_of old c.mark) (payload_of new c.mark) (h.kept c.mark))

  pub shows_more : {old new : List Frame} {cs : List Cell} {ts : List lines.Cell} → Extends old new → ShowsCells place by link old cs ts → ShowsCells place by link new cs ts
  shows_more {old} {new} h s = shows_map (seen_kept old new h) s
