-- what a trace tells behind one more line

use Rattle.std.proofs.Common.{◌≡◌, ℕ, suc, ◌&&◌, Bool, true, false, List, [], ◌∷◌, ◌++◌, length, drop, Option, None, Some, Ok, is_some, ◌||◌, refl, sym, ◌∙◌, ap, ap₂, append_assoc, append-nil, if◌then◌else◌}
use Rattle.trace_model.specs.declared.cell.TraceCell.{TraceCell}
use Rattle.trace_model.specs.declared.end.TraceEnd.{TraceEnd}
use Rattle.trace_model.specs.declared.line.TraceLine.{TraceLine}
use Rattle.trace_model.specs.declared.refusal.TraceRefusal.TheVariants.{Late, NoLink}
use Rattle.trace_model.specs.declared.verdict.Step.TheVariants.{Good}
use Rattle.trace_model.specs.Judgement.{judged, judged_by, refusal_of, breach_of, misplaced, unless_linked}
use Rattle.trace_model.specs.Known.{known}
use Rattle.trace_model.specs.Trace.{Trace, queue_of, puts_at, put_at, gone_from, leaves, how_many, is_link, peer_of, has_ended, has_begun}
use Rattle.std.specs.Prelude.{filter}

-- *A queue*: behind the cells that are gone stand these
pub record Holds (trace : Trace) (at : TraceEnd) (cells : List TraceCell) : Type 0 where
  pub gone : List TraceCell
  pub counted : gone_from trace at ≡ length gone
  pub puts : puts_at trace at ≡ gone ++ cells

drop_all : {A : Type 0} (xs ys : List A) → drop (length xs) (xs ++ ys) ≡ ys
drop_all [] ys = refl
drop_all (x ∷ xs) ys = drop_all xs ys

-- so they are the queue
pub queue_is : (trace : Trace) (at : TraceEnd) (cells : List TraceCell) → Holds trace at cells → queue_of trace at ≡ cells
queue_is trace at cells h = ap (λ (n : ℕ). drop n (puts_at trace at)) h.counted ∙ ap (drop (length h.gone)) h.puts ∙ drop_all h.gone cells

-- nothing stands in a queue at first
pub holds_none : (at : TraceEnd) → Holds [] at []
holds_none at = record { gone = []; counted = refl; puts = refl }

-- *How many lines* are such behind one more
more : (test : TraceLine → Bool) (line : TraceLine) (trace : Trace) → test line ≡ true → how_many test (line ∷ trace) ≡ suc (how_many test trace)
more test line trace e = ap (λ (b : Bool). length (if b then line ∷ filter test trace else filter test trace)) e

fewer : (test : TraceLine → Bool) (line : TraceLine) (trace : Trace) → test line ≡ false → how_many test (line ∷ trace) ≡ how_many test trace
fewer test line trace e = ap (λ (b : Bool). length (if b then line ∷ filter test trace else filter test trace)) e

-- a line that takes nothing from there, and puts these cells there
pub holds_put : (trace : Trace) (line : TraceLine) (at : TraceEnd) (cells new : List TraceCell) → leaves at line ≡ false → put_at at line ≡ new
    → Holds trace at cells → Holds (line ∷ trace) at (cells ++ new)
holds_put trace line at cells new stays puts h = record {
  gone = h.gone;
  counted = fewer (leaves at) line trace stays ∙ h.counted;
  puts = ap (λ (xs : List TraceCell). puts_at trace at ++ xs) puts ∙ ap (λ (xs : List TraceCell). xs ++ new) h.puts ∙ append_assoc h.gone cells new;
}

pub holds_beside : (trace : Trace) (line : TraceLine) (at : TraceEnd) (cells : List TraceCell) → leaves at line ≡ false → put_at at line ≡ []
    → Holds trace at cells → Holds (line ∷ trace) at cells
holds_beside trace line at cells stays none h = record {
  gone = h.gone;
  counted = fewer (leaves at) line trace stays ∙ h.counted;
  puts = ap (λ (xs : List TraceCell). puts_at trace at ++ xs) none ∙ append-nil (puts_at trace at) ∙ h.puts;
}

-- a line that takes the head
length_push : {A : Type 0} (xs : List A) (x : A) → suc (length xs) ≡ length (xs ++ x ∷ [])
length_push [] x = refl
length_push (y ∷ xs) x = ap suc (length_push xs x)

pub holds_taken : (trace : Trace) (line : TraceLine) (at : TraceEnd) (cell : TraceCell) (cells : List TraceCell) → leaves at line ≡ true → put_at at line ≡ []
    → Holds trace at (cell ∷ cells) → Holds (line ∷ trace) at cells
holds_taken trace line at cell cells goes none h = record {
  gone = h.gone ++ cell ∷ [];
  counted = more (leaves at) line trace goes ∙ ap suc h.counted ∙ length_push h.gone cell;
  puts = ap (λ (xs : List TraceCell). puts_at trace at ++ xs) none ∙ append-nil (puts_at trace at) ∙ h.puts ∙ sym (append_assoc h.gone (cell ∷ []) cells);
}

-- *A line is good*: it is not refused, and breaks nothing
pub is_good : (trace : Trace) (line : TraceLine) → refusal_of (known trace) line ≡ None → breach_of (known trace) line ≡ None → judged (known trace) line ≡ Ok Good
is_good trace line allowed whole = ap₂ judged_by allowed whole

-- of such a line
pub unrefused : (trace : Trace) (line : TraceLine) → is_link line ≡ false → has_ended trace ≡ false → refusal_of (known trace) line ≡ misplaced (known trace) line
unrefused trace line no_link unended =
    ap₂ (λ (ended link : Bool). if ended || (link && has_begun trace) then Some Late else misplaced (known trace) line) unended no_link

-- it names a linked port
pub allowed : (trace : Trace) (line : TraceLine) (end far : TraceEnd) → is_link line ≡ false → misplaced (known trace) line ≡ unless_linked (known trace) end
    → has_ended trace ≡ false → peer_of trace end ≡ Some far → refusal_of (known trace) line ≡ None
allowed trace line end far no_link places unended linked =
    unrefused trace line no_link unended ∙ places ∙ ap (λ (o : Option TraceEnd). if is_some o then None else Some NoLink) linked
