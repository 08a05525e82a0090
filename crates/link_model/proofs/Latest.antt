-- the payload of the last frame of a mark, as the list of frames grows

use Rattle.std.proofs.Common.{◌≡◌, ℕ, ◌<◌, Bool, true, false, cond, List, [], ◌∷◌, ◌++◌, length, reverse, Option, None, Some, slice_get, refl, suc, zero, sym, ap, subst, ◌∙◌, get_or, arith}
use Rattle.std.proofs.lemmas.List.{reverse-append, length_push}
use Rattle.std.proofs.lemmas.Option.{slice_get_read}
use Rattle.std.specs.List.{find}
use Rattle.std.specs.Option.{option_map, option_and_then, IfSome}
use Rattle.std.specs.HashMap.{get}
use Rattle.net_types.specs.declared.number.Mark.{Mark}
use Rattle.link_model.specs.declared.frames.Frame.{Frame}
use Rattle.link_model.specs.Ledger.{same_mark, payload_of}
use Rattle.link_model.specs.Indexes.{Places, LeadsToLatest, payload_at}

-- a payload of a choice of frames
payload-cond : (b : Bool) (frame : Frame) (rest : Option Frame) → option_map (λ f. f.payload) (cond b (Some frame) rest) ≡ cond b (Some frame.payload) (option_map (λ f. f.payload) rest)
payload-cond true frame rest = refl
payload-cond false frame rest = refl

-- one more frame counts for its own mark, and for no other
pub payload_of_push : (frames : List Frame) (frame : Frame) (mark : Mark) → payload_of (frames ++ frame ∷ []) mark ≡ cond (same_mark frame.mark mark) (Some frame.payload) (payload_of frames mark)
payload_of_push frames frame mark =
    rw (reverse-append frames (frame ∷ [])) (payload-cond (same_mark frame.mark mark) frame (find (λ f. same_mark f.mark mark) (reverse frames)))

-- the element after the others
slice_get_push : (frames : List Frame) (frame : Frame) → slice_get (frames ++ frame ∷ []) (length frames) ≡ Some frame
slice_get_push [] frame = refl
slice_get_push (_ ∷ frames) frame = slice_get_push frames frame

-- an element that stood there before
slice_get_front : (frames more : List Frame) (place : ℕ) → place < length frames → slice_get (frames ++ more) place ≡ slice_get frames place
slice_get_front [] more place h = absurd (omega arith)
slice_get_front (_ ∷ frames) more zero h = refl
slice_get_front (_ ∷ frames) more (suc place) h = slice_get_front frames more place (omega arith)

-- a longer list has the places of the shorter one, and one more
within-push : (frames : List Frame) (frame : Frame) (b : Bool) (place : Option ℕ) → IfSome place (λ k. k < length frames)
    → IfSome (cond b (Some (length frames)) place) (λ k. k < length (frames ++ frame ∷ []))
within-push frames frame true place h = omega (arith, length_push frames frame)
within-push frames frame false None h = h
within-push frames frame false (Some k) h = omega (arith, length_push frames frame)

-- and the places lead to the payloads
payload-push : (frames : List Frame) (frame : Frame) (b : Bool) (kept : Option (List ℕ)) (place : Option ℕ) → IfSome place (λ k. k < length frames)
    → kept ≡ option_and_then (payload_at frames) place
    → cond b (Some frame.payload) kept ≡ option_and_then (payload_at (frames ++ frame ∷ [])) (cond b (Some (length frames)) place)
payload-push frames frame true kept place h e = ap (option_map (λ (f : Frame). f.payload)) (sym (slice_get_push frames frame))
payload-push frames frame false kept None h e = e
payload-push frames frame false kept (Some k) h e = e ∙ ap (option_map (λ (f : Frame). f.payload)) (sym (slice_get_front frames (frame ∷ []) k h))

-- the map stays in step where the new frame's mark gets the new place
pub LeadsToLatest-push : (old new : Places) (frames : List Frame) (frame : Frame) → LeadsToLatest old frames
    → ((mark : Mark) → get same_mark new mark ≡ cond (same_mark frame.mark mark) (Some (length frames)) (get same_mark old mark))
    → LeadsToLatest new (frames ++ frame ∷ [])
LeadsToLatest-push old new frames frame leads updates = record {
  within = λ mark. rw (updates mark) (within-push frames frame (same_mark frame.mark mark) (get same_mark old mark) (leads.within mark));
  payload = λ mark. payload_of_push frames frame mark
      ∙ payload-push frames frame (same_mark frame.mark mark) (payload_of frames mark) (get same_mark old mark) (leads.within mark) (leads.payload mark)
      ∙ ap (option_and_then (payload_at (frames ++ frame ∷ []))) (sym (updates mark));
}

-- a mark's place is within the list
pub within_at : (latest : Places) (frames : List Frame) (mark : Mark) (place : ℕ) → LeadsToLatest latest frames → Some place ≡ get same_mark latest mark
    → place < length frames
within_at latest frames mark place leads found = subst (λ (p : Option ℕ). IfSome p (λ k. k < length frames)) (sym found) (leads.within mark)

-- and the frame there has the payload
pub payload_of_read : (latest : Places) (frames : List Frame) (mark : Mark) (place : ℕ) (frame : Frame) → LeadsToLatest latest frames
    → Some place ≡ get same_mark latest mark → frame ≡ get_or frames place frame → Some frame.payload ≡ payload_of frames mark
payload_of_read latest frames mark place frame leads found read = sym (leads.payload mark ∙ ap (option_and_then (payload_at frames)) (sym found)
    ∙ ap (option_map (λ (f : Frame). f.payload)) (slice_get_read frames (length frames) place frame refl (within_at latest frames mark place leads found) read))
