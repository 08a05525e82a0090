-- what was put and what is held are the report, or a front of it

use Rattle.std.proofs.Common.{◌≡◌, ◌∙◌, ℕ, ◌+◌, ◌≤◌, List, [], ◌++◌, length, length-append, take, Option, Result, Ok, Err, sym, ap, subst, arith, append-nil}
use Rattle.std.proofs.KnownBytes.{Appends-trans}
use Rattle.std.proofs.lemmas.List.{append_assoc, take_all, take-append-le}
use Rattle.std.proofs.Math.Seq.{take-append-add}
use Rattle.std.specs.Io.KnownBytes.{Appends}
use Rattle.std.specs.Result.{IsErrAnd}
use Rattle.lab_io.specs.Report.{IsPut, IsStuck, Writer}
use Rattle.lab_io.specs.Transfer.{AppendsFront}
use Rattle.lab_io.specs.declared.stop.Stop.{Stop}
use Rattle.lab_io.specs.Puts.{HasFrontPut}
use Rattle.network_replay.specs.Ending.{EndsAs}

-- octets that were written, and a front of those held behind them
front_of : (start now : Option (List ℕ)) (written held rest report : List ℕ) (count : ℕ) → (written ++ held) ++ rest ≡ report → count ≤ length held
    → Appends start now (written ++ take count held) → AppendsFront start now report
front_of start now written held rest report count all within appended =
    let front : take (length written + count) report ≡ written ++ take count held =
    ap (take (length written + count)) (sym all ∙ append_assoc written held rest)
    ∙ (take-append-add written (held ++ rest) count ∙ ap (λ xs. written ++ xs) (take-append-le count held rest within)) in
    let size : length report ≡ length written + length held + length rest =
    ap length (sym all) ∙ omega (arith, length-append (written ++ held) rest, length-append written held) in
    record { count = length written + count; within = omega (arith, size, within); appended = subst (Appends start now) (sym front) appended }

-- a writer that held nothing at first
module _ (first writer : Writer) (start old new : Option (List ℕ)) (report : List ℕ) (empty : first.held ≡ []) where
  from_empty : (octets : List ℕ) → first.held ++ octets ≡ octets
  from_empty octets = ap (λ held. held ++ octets) empty

  pub whole_written : IsPut first writer start old report → Appends old new writer.held → Appends start new report
  whole_written put flushed = subst (Appends start new) (put.all ∙ from_empty report) (Appends-trans _ _ _ _ _ put.appended flushed)

  pub whole_cut : IsPut first writer start old report → AppendsFront old new writer.held → AppendsFront start new report
  whole_cut put flushed =
      front_of start new put.written writer.held [] report flushed.count (append-nil (put.written ++ writer.held) ∙ (put.all ∙ from_empty report)) flushed.within
      (Appends-trans _ _ _ _ _ put.appended flushed.appended)

  pub front_written : HasFrontPut first writer start old report → Appends old new writer.held → AppendsFront start new report
  front_written h flushed =
      front_of start new h.put.written writer.held h.rest report (length writer.held) (ap (λ xs. xs ++ h.rest) (h.put.all ∙ from_empty h.front) ∙ h.all) (omega arith)
      (subst (λ xs. Appends start new (h.put.written ++ xs)) (sym (take_all (length writer.held) writer.held (omega arith))) (Appends-trans _ _ _ _ _ h.put.appended flushed))

  pub front_cut : HasFrontPut first writer start old report → AppendsFront old new writer.held → AppendsFront start new report
  front_cut h flushed =
      front_of start new h.put.written writer.held h.rest report flushed.count (ap (λ xs. xs ++ h.rest) (h.put.all ∙ from_empty h.front) ∙ h.all) flushed.within
      (Appends-trans _ _ _ _ _ h.put.appended flushed.appended)

  pub stuck_front : IsStuck first writer start old report → AppendsFront start old report
  stuck_front s = front_of start old s.written writer.held s.rest report s.count (s.all ∙ from_empty report) s.within s.appended

-- an early end leaves a front
pub ends_cut : {A : Type 0} (result : Result A Stop) (test : Stop → Type 0) → IsErrAnd result test → (old new : Option (List ℕ)) (report : List ℕ)
    → AppendsFront old new report → EndsAs result old new report
ends_cut (Ok value) test is old new report front = absurd is
ends_cut (Err stop) test is old new report front = front
