-- the notes: marks and payloads, and the entries of broken frames

use Rattle.std.proofs.Common.{◌≡◌, ◌≢◌, ℕ, ◌==◌, ◌&&◌, Bool, true, false, cond, if◌then◌else◌, List, [], ◌∷◌, ◌++◌, Option, None, Some, refl, sym, ◌∙◌, ap, ap₂, arith}
use Rattle.std.specs.Option.{option_map_or}
use Rattle.std.specs.Str.{bytes_eq}
use Rattle.std.proofs.lemmas.Bool.Decides.{nat_tests}
use Rattle.std.proofs.lemmas.Slice.Eq.{bytes_eq-Decides}
use Rattle.law_arrival_views.specs.world_model.Words.{Mark, Cell, Entry, Frame, Cause, Broken, Loss, payload_of, same_mark, has_entry, is_frame, Journal, noted, broken, marks_of, has_loss_of}
use Rattle.law_arrival_views.proofs.world_model.link_model.Latest.{payload_of_push}
use Rattle.law_packet_worlds.proofs.Lists.{any_back}
use Rattle.law_arrival_views.proofs.law_port_views.Hellos.{number_is}
use Rattle.law_unused_labels.proofs.law_cell_lists.Taking.{marks_of-push, own_mark}

-- the parts of a conjunction of tests
pub and_left : (a b : Bool) → a && b ≡ true → a ≡ true
and_left true b e = refl
and_left false b e = absurd (cc e)

pub and_right : (a b : Bool) → a && b ≡ true → b ≡ true
and_right true b e = e
and_right false b e = absurd (cc e)

-- *Marks and payloads*

other_numbers : (a b : ℕ) → a ≢ b → (a == b) ≡ false
other_numbers a b n = elim (a == b) as (λ v. (a == b) ≡ v → v ≡ false) [ true ↦ λ e. absurd (n (number_is a b e)) | false ↦ λ e. refl ] refl

pub same_payload : (frames : List Frame) (a b : Mark) → same_mark a b ≡ true → payload_of frames a ≡ payload_of frames b
same_payload frames a b e =
    ap₂ (λ p f. payload_of frames (record { packet = p; frame = f }))
    (number_is a.packet b.packet (and_left (a.packet == b.packet) (a.frame == b.frame) e))
    (number_is a.frame b.frame (and_right (a.packet == b.packet) (a.frame == b.frame) e))

pub other_packet : (a b : Mark) → a.packet ≢ b.packet → same_mark a b ≡ false
other_packet a b n = rw (other_numbers a.packet b.packet n) refl

pub other_frame : (a b : Mark) → a.frame ≢ b.frame → same_mark a b ≡ false
other_frame a b n = elim (a.packet == b.packet) as (λ v. v && (a.frame == b.frame) ≡ false) [ true ↦ other_numbers a.frame b.frame n | false ↦ refl ]

-- a frame is made under a mark under which none was: the payloads of all other marks stay
pub payload_stays : (frames : List Frame) (frame : Frame) (mark : Mark) (payload : List ℕ) → payload_of frames frame.mark ≡ None
    → payload_of frames mark ≡ Some payload → payload_of (frames ++ frame ∷ []) mark ≡ Some payload
payload_stays frames frame mark payload none is =
    let by : (b : Bool) → same_mark frame.mark mark ≡ b → cond b (Some frame.payload) (payload_of frames mark) ≡ Some payload = λ b eb.
    elim b as (λ v. same_mark frame.mark mark ≡ v → cond v (Some frame.payload) (payload_of frames mark) ≡ Some payload) [
      | true ↦ λ e. (let clash : None ≡ Some payload = sym none ∙ same_payload frames frame.mark mark e ∙ is in absurd (cc clash))
      | false ↦ λ e. is
    ] eb in
    payload_of_push frames frame mark ∙ by (same_mark frame.mark mark) refl

pub none_stays : (frames : List Frame) (frame : Frame) (mark : Mark) → same_mark frame.mark mark ≡ false → payload_of frames mark ≡ None → payload_of (frames ++ frame ∷ []) mark ≡ None
none_stays frames frame mark other none = payload_of_push frames frame mark ∙ ap (λ b. cond b (Some frame.payload) (payload_of frames mark)) other ∙ none

pub payload_new : (frames : List Frame) (frame : Frame) → payload_of (frames ++ frame ∷ []) frame.mark ≡ Some frame.payload
payload_new frames frame = payload_of_push frames frame frame.mark ∙ ap (λ b. cond b (Some frame.payload) (payload_of frames frame.mark)) (own_mark frame.mark)

-- the kept payload is the one that passed
made_by : (kept : Option (List ℕ)) (payload : List ℕ) → option_map_or (λ k. bytes_eq k payload) kept false ≡ true → kept ≡ Some payload
made_by None payload e = absurd (cc e)
made_by (Some k) payload e = ap Some ((bytes_eq-Decides k payload).0 e)

pub is_made : (frames : List Frame) (mark : Mark) (payload : List ℕ) → is_frame frames mark payload ≡ true → payload_of frames mark ≡ Some payload
is_made frames mark payload e = made_by (payload_of frames mark) payload e

-- *Entries*

entry_of_mark : (entries : List Entry) (mark : Mark) → has_entry entries mark ≡ true → has_loss_of mark.packet entries ≡ true
entry_of_mark [] mark e = absurd (cc e)
entry_of_mark (entry ∷ entries) mark e =
    let by : (b : Bool) → same_mark entry.mark mark ≡ b → has_entry (entry ∷ entries) mark ≡ true → has_loss_of mark.packet (entry ∷ entries) ≡ true = λ b eb.
    elim b as (λ v. same_mark entry.mark mark ≡ v → has_entry (entry ∷ entries) mark ≡ true → has_loss_of mark.packet (entry ∷ entries) ≡ true) [
      | true ↦ λ t h. (let same : (entry.mark.packet == mark.packet) ≡ true = and_left (entry.mark.packet == mark.packet) (entry.mark.frame == mark.frame) t in rw same refl)
      | false ↦ λ f h. (let rest : has_entry entries mark ≡ true = rw f at h in any_back (λ (other : Entry). other.mark.packet == mark.packet) (entry ∷ []) entries (entry_of_mark entries mark rest))
    ] eb in
    by (same_mark entry.mark mark) refl e

pub own_entry : (mark : Mark) → (mark.packet == mark.packet) ≡ true
own_entry mark = grind (arith, nat_tests)

pub entered : (entries : List Entry) (mark : Mark) (cause : Cause) → has_loss_of mark.packet (entries ++ record { mark = mark; cause = cause } ∷ []) ≡ true
entered entries mark cause = any_back (λ (other : Entry). other.mark.packet == mark.packet) entries (record { mark = mark; cause = cause } ∷ []) (rw (own_entry mark) refl)

broken_last : (marks : List Mark) (notes : Journal) (mark : Mark) → has_loss_of mark.packet (broken notes (marks ++ mark ∷ [])).entries ≡ true
broken_last [] notes mark =
    let by : (b : Bool) → has_entry notes.entries mark ≡ b → has_loss_of mark.packet (broken notes (mark ∷ [])).entries ≡ true = λ b eb.
    elim b as (λ v. has_entry notes.entries mark ≡ v → has_loss_of mark.packet (broken notes (mark ∷ [])).entries ≡ true) [
      | true ↦ λ e. rw e (entry_of_mark notes.entries mark e)
      | false ↦ λ e. rw e (any_back (λ (other : Entry). other.mark.packet == mark.packet) notes.entries (record { mark = mark; cause = Broken } ∷ []) (rw (own_entry mark) refl))
    ] eb in
    by (has_entry notes.entries mark) refl
broken_last (first ∷ marks) notes mark = broken_last marks (if has_entry notes.entries first then notes else noted notes (Loss first Broken)) mark

pub broken_cells : (notes : Journal) (cells : List Cell) (cell : Cell) → has_loss_of cell.mark.packet (broken notes (marks_of (cells ++ cell ∷ []))).entries ≡ true
broken_cells notes cells cell = rw (marks_of-push cells cell) (broken_last (marks_of cells) notes cell.mark)
