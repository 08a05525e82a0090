-- requests that are on their way stay so while what waits is there, and what was made stays

use Rattle.std.proofs.Common.{◌≡◌, ◌⊎◌, ℕ, zero, suc, Bool, true, false, List, ◌∷◌, ◌++◌, Option, None, Some, Result, Ok, Err, refl, sym, ◌∙◌, ap, subst, inl, inr, arith}
use Rattle.std.specs.Prelude.{Contains}
use Rattle.std.specs.Option.{option_and_then}
use Rattle.std.proofs.lemmas.List.Elements.{Contains-append_left}
use Rattle.world_model.specs.Words.{Mark, Cell, Frame, payload_of, default_channel, same_channel, Standing, copy_of, copy_under, gsmp_of, gsmp_under}
use Rattle.world_model.specs.Ways.{ok_of}
use Rattle.world_model.specs.gsmp_wire.declared.fault.Fault.{Fault}
use Rattle.world_model.specs.gsmp_wire.declared.message.Message.{Message}
use Rattle.world_model.specs.gsmp_wire.Fields.{decoded}
use Rattle.law_shown_cells.specs.Seen.{Extends}
use Rattle.law_live_desks.specs.Law.{IsCopy, IsAnswer, IsOnItsWay, asked, answered}

-- *What was made stays*
made_later : {A : Type 0} (f : Option (List ℕ) → Option A) (old new : List Frame) (mark : Mark) (x : A) → (f None ≡ Some x → ⊥) → Extends old new → f (payload_of old mark) ≡ Some x → f (payload_of new mark) ≡ Some x
made_later {A} f old new mark x none stays e = by (payload_of old mark) refl e
  where
    by : (o : Option (List ℕ)) → payload_of old mark ≡ o → f o ≡ Some x → f (payload_of new mark) ≡ Some x
    by None is e = absurd (none e)
    by (Some payload) is e = ap f (stays.kept mark payload is) ∙ e

pub way_later : (old new : List Frame) (down up : List Cell) → Extends old new → (s : Standing) → IsOnItsWay old down up s → IsOnItsWay new down up s
way_later old new down up stays s (asked cell among c) = asked cell among (record {
  last = c.last;
  on = c.on;
  asks = made_later (λ (o : Option (List ℕ)). option_and_then copy_of (option_and_then gsmp_of o)) old new cell.mark s (λ e. cc e) stays c.asks;
})
way_later old new down up stays s (answered cell among a) = answered cell among (record {
  last = a.last;
  on = a.on;
  message = a.message;
  says = made_later (λ (o : Option (List ℕ)). option_and_then gsmp_of o) old new cell.mark a.message (λ e. cc e) stays a.says;
  answers = a.answers;
})

-- *More waits* behind it
pub way_grows : (frames : List Frame) (down up more_down more_up : List Cell) (s : Standing) → IsOnItsWay frames down up s → IsOnItsWay frames (down ++ more_down) (up ++ more_up) s
way_grows frames down up more_down more_up s (asked cell among c) = asked cell (Contains-append_left down more_down cell among) c
way_grows frames down up more_down more_up s (answered cell among a) = answered cell (Contains-append_left up more_up cell among) a

-- *The first cell is taken*
taken_first : (cell x : Cell) (cells : List Cell) → Contains (cell ∷ cells) x → (cell ≡ x) ⊎ Contains cells x
taken_first cell x cells (zero, less, is) = inl (cc is)
taken_first cell x cells (suc place, less, is) = inr (place, omega (arith, less), is)

pub down_taken : (frames : List Frame) (cell : Cell) (cells up : List Cell) (s : Standing) → IsOnItsWay frames (cell ∷ cells) up s → IsOnItsWay frames cells up s ⊎ IsCopy frames s cell
down_taken frames cell cells up s (asked x among c) = elim (taken_first cell x cells among) [
  | inl first ↦ inr (subst (IsCopy frames s) (sym first) c)
  | inr later ↦ inl (asked x later c)
]
down_taken frames cell cells up s (answered x among a) = inl (answered x among a)

pub up_taken : (frames : List Frame) (down : List Cell) (cell : Cell) (cells : List Cell) (s : Standing) → IsOnItsWay frames down (cell ∷ cells) s → IsOnItsWay frames down cells s ⊎ IsAnswer frames s cell
up_taken frames down cell cells s (asked x among c) = inl (asked x among c)
up_taken frames down cell cells s (answered x among a) = elim (taken_first cell x cells among) [
  | inl first ↦ inr (subst (IsAnswer frames s) (sym first) a)
  | inr later ↦ inl (answered x later a)
]

-- *A cell that ends a frame* on the GSMP channel, of what is read under its mark
pub record EndsFrame {A : Type 0} (read : List Frame → Mark → Option A) (frames : List Frame) (cell : Cell) (x : A) : Type 0 where
  pub last : cell.header.last ≡ true
  pub on : same_channel cell.header.channel default_channel ≡ true
  pub is : read frames cell.mark ≡ Some x

pub data DoesEnd {A : Type 0} (read : List Frame → Mark → Option A) (frames : List Frame) (cell : Cell) : Type 0 where
  ends : (x : A) → EndsFrame read frames cell x → DoesEnd read frames cell
  ends_none : ((x : A) → EndsFrame read frames cell x → ⊥) → DoesEnd read frames cell

pub does_end : {A : Type 0} (read : List Frame → Mark → Option A) (frames : List Frame) (cell : Cell) → DoesEnd read frames cell
does_end {A} read frames cell = by (cell.header.last) refl (same_channel cell.header.channel default_channel) refl (read frames cell.mark) refl
  where
    by : (b : Bool) → cell.header.last ≡ b → (c : Bool) → same_channel cell.header.channel default_channel ≡ c → (o : Option A) → read frames cell.mark ≡ o → DoesEnd read frames cell
    by true last true on (Some x) is = ends x (record { last = last; on = on; is = is })
    by true last true on None is = ends_none (λ x e. cc (sym e.is ∙ is))
    by true last false on o is = ends_none (λ x e. cc (sym e.on ∙ on))
    by false last c on o is = ends_none (λ x e. cc (sym e.last ∙ last))

-- *What is read under a mark* was made there
pub record IsMade (frames : List Frame) (mark : Mark) (message : Message) : Type 0 where
  pub payload : List ℕ
  pub made : payload_of frames mark ≡ Some payload
  pub read : decoded payload ≡ Ok message

pub message_made : (frames : List Frame) (mark : Mark) (message : Message) → gsmp_under frames mark ≡ Some message → IsMade frames mark message
message_made frames mark message e = by (payload_of frames mark) refl e
  where
    by_read : (payload : List ℕ) → payload_of frames mark ≡ Some payload → (r : Result Message Fault) → decoded payload ≡ r → ok_of r ≡ Some message → IsMade frames mark message
    by_read payload is (Ok other) read e = (let same : other ≡ message = cc in record { payload = payload; made = is; read = read ∙ ap (λ (m : Message). Ok m) same })
    by_read payload is (Err fault) read e = absurd (cc e)

    by : (o : Option (List ℕ)) → payload_of frames mark ≡ o → option_and_then gsmp_of o ≡ Some message → IsMade frames mark message
    by None is e = absurd (cc e)
    by (Some payload) is e = by_read payload is (decoded payload) refl e

pub record IsAsked (frames : List Frame) (mark : Mark) (s : Standing) : Type 0 where
  pub message : Message
  pub made : IsMade frames mark message
  pub copy : copy_of message ≡ Some s

pub copy_made : (frames : List Frame) (mark : Mark) (s : Standing) → copy_under frames mark ≡ Some s → IsAsked frames mark s
copy_made frames mark s e = by (gsmp_under frames mark) refl e
  where
    by : (o : Option Message) → gsmp_under frames mark ≡ o → option_and_then copy_of o ≡ Some s → IsAsked frames mark s
    by None is e = absurd (cc e)
    by (Some message) is e = record { message = message; made = message_made frames mark message is; copy = e }
