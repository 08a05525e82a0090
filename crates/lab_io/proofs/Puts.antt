-- Octets put in several pieces

use Rattle.std.proofs.Common.{◌≡◌, ◌∙◌, ℕ, ◌+◌, List, [], ◌++◌, take, drop, Option, sym, ap, append-nil}
use Rattle.std.proofs.KnownBytes.{Appends-trans}
use Rattle.std.proofs.Math.Seq.{take-add}
use Rattle.std.proofs.lemmas.List.{append_assoc, take-append-drop}
use Rattle.lab_io.specs.Report.{IsPut, IsStuck, Writer}
use Rattle.lab_io.specs.Transfer.{AppendsFront}

-- a write that failed behind some that didn't
pub put_failed : (old middle new : Writer) (first second third : Option (List ℕ)) (done : ℕ) (octets : List ℕ)
    → IsPut old middle first second (take done octets) → new ≡ middle → AppendsFront second third middle.held → IsStuck old new first third octets
put_failed old middle new first second third done octets put same front =
    rw same
    (record {
      written = put.written;
      count = front.count;
      rest = drop done octets;
      within = front.within;
      appended = Appends-trans _ _ _ _ _ put.appended front.appended;
      all = ap (λ xs. xs ++ drop done octets) put.all
          ∙ append_assoc old.held (take done octets) (drop done octets)
          ∙ ap (λ xs. old.held ++ xs) (take-append-drop done octets);
    })

-- written, held, and what stands behind
regroup : (written more held piece : List ℕ) → (written ++ more) ++ (held ++ piece) ≡ written ++ ((more ++ held) ++ piece)
regroup written more held piece = simp append_assoc

pub put_more : (old middle emptied new : Writer) (first second third : Option (List ℕ)) (done count : ℕ) (octets : List ℕ)
    → IsPut old middle first second (take done octets) → IsPut middle emptied second third []
    → new.held ≡ emptied.held ++ take count (drop done octets) → IsPut old new first third (take (done + count) octets)
put_more old middle emptied new first second third done count octets put flushed held =
    record {
      written = put.written ++ flushed.written;
      appended = Appends-trans _ _ _ _ _ put.appended flushed.appended;
      all = ap (λ xs. (put.written ++ flushed.written) ++ xs) held
          ∙ regroup put.written flushed.written emptied.held (take count (drop done octets))
          ∙ ap (λ xs. put.written ++ (xs ++ take count (drop done octets))) (flushed.all ∙ append-nil middle.held)
          ∙ sym (append_assoc put.written middle.held (take count (drop done octets)))
          ∙ ap (λ xs. xs ++ take count (drop done octets)) put.all
          ∙ append_assoc old.held (take done octets) (take count (drop done octets))
          ∙ ap (λ xs. old.held ++ xs) (sym (take-add done count octets));
    }
