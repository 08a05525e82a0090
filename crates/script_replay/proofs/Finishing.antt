-- what is held of a report is written at last

use Rattle.std.proofs.Common.{◌≡◌, ℕ, ◌+◌, ◌≤◌, false, List, [], ◌++◌, append_assoc, append-nil, length, length-append, take, Option, None, Some, is_some, refl, sym, ◌∙◌, ap, subst, arith}
use Rattle.std.specs.Io.KnownBytes.{Appends}
use Rattle.std.proofs.KnownBytes.{Appends-trans}
use Rattle.std.proofs.Math.Seq.{take-append-add}
use Rattle.std.proofs.lemmas.List.{take-append-le}
use Rattle.lab_io.specs.Report.{IsPut, IsStuck, Writer}
use Rattle.lab_io.specs.Transfer.{AppendsFront}
use Rattle.net_types.specs.declared.memory.OutOfMemory.{OutOfMemory as Wanting}
use Rattle.port_model.specs.Setup.{Policy}
use Rattle.world_model.specs.Topology.{Topology}
use Rattle.script_model.specs.declared.refusal.Refused.{Refused}
use Rattle.script_model.specs.Script.{Script, script_of}
use Rattle.network_run.specs.telling_model.Placed.{Placed, placed_of}
use Rattle.world.specs.declared.counts.Meter.{Meter}
use Rattle.lab_io.specs.declared.stop.Stop.TheVariants as stop
use Rattle.script_replay.specs.Report as report
use Rattle.script_replay.specs.Report.{IsCutOff, IsDone, IsFront}
use Rattle.script_replay.specs.Reading.{IsInMidst, IsTold, Stops, in_lines, at_last}

-- some octets, and some of those behind them
front_of : (all one other : List ℕ) (count : ℕ) → one ++ other ≡ all → take (length one + count) all ≡ one ++ take count other
front_of all one other count e = ap (take (length one + count)) (sym e) ∙ take-append-add one other count

part_within : (all one other : List ℕ) (count : ℕ) → one ++ other ≡ all → count ≤ length other → length one + count ≤ length all
part_within all one other count e low = omega (arith, ap length (sym e), length-append one other, low)

module _ (first : Writer) (bare : first.held ≡ []) (start : Option (List ℕ)) where
  -- all was put, and what was held is written
  all_written : (writer : Writer) (written later : Option (List ℕ)) (octets : List ℕ) → IsPut first writer start written octets → Appends written later writer.held → Appends start later octets
  all_written writer written later octets p a =
      subst (Appends start later) (p.all ∙ ap (λ xs. xs ++ octets) bare) (Appends-trans start written later p.written writer.held p.appended a)

  -- or a front of it
  front_written : (writer : Writer) (written later : Option (List ℕ)) (octets : List ℕ) → IsPut first writer start written octets → AppendsFront written later writer.held → AppendsFront start later octets
  front_written writer written later octets p a =
      let all : p.written ++ writer.held ≡ octets = p.all ∙ ap (λ xs. xs ++ octets) bare in
      record {
        count = length p.written + a.count;
        within = part_within octets p.written writer.held a.count all a.within;
        appended = subst (Appends start later) (sym (front_of octets p.written writer.held a.count all)) (Appends-trans start written later p.written (take a.count writer.held) p.appended a.appended);
      }

  front_all : (later : Option (List ℕ)) (octets front rest : List ℕ) → front ++ rest ≡ octets → Appends start later front → AppendsFront start later octets
  front_all later octets front rest e a =
      let none : take 0 rest ≡ [] = refl in
      let whole : take (length front + 0) octets ≡ front = front_of octets front rest 0 e ∙ ap (λ xs. front ++ xs) none ∙ append-nil front in
      record { count = length front + 0; within = part_within octets front rest 0 e (omega arith); appended = subst (Appends start later) (sym whole) a }

  front_more : (later : Option (List ℕ)) (octets front rest : List ℕ) → front ++ rest ≡ octets → AppendsFront start later front → AppendsFront start later octets
  front_more later octets front rest e a = record {
    count = a.count;
    within = omega (arith, a.within, ap length (sym e), length-append front rest);
    appended = subst (Appends start later) (sym (take-append-le a.count front rest a.within) ∙ ap (take a.count) e) a.appended;
  }

  -- a write failed in its midst
  stuck_front : (writer : Writer) (written : Option (List ℕ)) (octets : List ℕ) → IsStuck first writer start written octets → AppendsFront start written octets
  stuck_front writer written octets s =
      let all : s.written ++ (writer.held ++ s.rest) ≡ octets = sym (append_assoc s.written writer.held s.rest) ∙ s.all ∙ ap (λ xs. xs ++ octets) bare in
      let low : s.count ≤ length (writer.held ++ s.rest) = omega (arith, s.within, length-append writer.held s.rest) in
      record {
        count = length s.written + s.count;
        within = part_within octets s.written (writer.held ++ s.rest) s.count all low;
        appended = subst (Appends start written) (sym (front_of octets s.written (writer.held ++ s.rest) s.count all ∙ ap (λ xs. s.written ++ xs) (take-append-le s.count writer.held s.rest s.within))) s.appended;
      }

  module _ (choice : Topology → Policy) (account body : Script → List Placed → List ℕ) (before : Meter) (from left : Option (List ℕ)) (meter : Meter) where
    pub done : (refused : Option Refused) (writer : Writer) (written later : Option (List ℕ)) → IsTold choice account first start before from refused writer left written meter → Appends written later writer.held
        → IsDone choice account from left start later before meter (is_some refused)
    done refused writer written later t a = record {
      input = t.input;
      is_read = t.is_read;
      at_end = λ none. t.at_end (absent refused none);
      written = all_written writer written later (account (script_of t.input) (placed_of t.input)) t.put a;
      outcome = ap is_some (sym t.outcome);
      meter_is = t.meter_is;
    }
      where
        absent : (o : Option Refused) → is_some o ≡ false → o ≡ None
        absent None e = refl
        absent (Some x) e = absurd (cc e)

    pub told_unwritten : (refused : Option Refused) (writer : Writer) (written later : Option (List ℕ)) → IsTold choice account first start before from refused writer left written meter → AppendsFront written later writer.held
        → IsFront account body from left start later
    told_unwritten refused writer written later t a = report.at_last t.input t.is_read (front_written writer written later (account (script_of t.input) (placed_of t.input)) t.put a)

    pub cut_off : (writer : Writer) (written : Option (List ℕ)) → length writer.held ≤ 65536 → IsInMidst body first start from writer left written → IsCutOff body from left start written
    cut_off writer written few m = record {
      whole = m.whole;
      rest = m.rest;
      lines = m.lines;
      no_line = m.no_line;
      accepted = m.accepted;
      told = m.put.written;
      lacking = writer.held;
      written = m.put.appended;
      all = m.put.all ∙ ap (λ xs. xs ++ body (script_of m.whole) (placed_of m.whole)) bare;
      few = few;
    }

    pub stopped_write : (writer : Writer) (written : Option (List ℕ)) → Stops account body first start from stop.Failed writer left written → IsFront account body from left start written
    stopped_write writer written (in_lines s) = report.in_lines s.whole s.rest s.lines (stuck_front writer written (body (script_of s.whole) (placed_of s.whole)) s.put)
    stopped_write writer written (at_last input is_read s) = report.at_last input is_read (stuck_front writer written (account (script_of input) (placed_of input)) s)

    pub stopped_memory : (error : Wanting) (writer : Writer) (written later : Option (List ℕ)) → Stops account body first start from (stop.OutOfMemory error) writer left written → Appends written later writer.held → IsFront account body from left start later
    stopped_memory error writer written later (in_lines s) a =
        report.in_lines s.whole s.rest s.lines (front_all later (body (script_of s.whole) (placed_of s.whole)) s.put.front s.put.rest s.put.all (all_written writer written later s.put.front s.put.put a))
    stopped_memory error writer written later (at_last input is_read s) a =
        report.at_last input is_read (front_all later (account (script_of input) (placed_of input)) s.front s.rest s.all (all_written writer written later s.front s.put a))

    pub stopped_unwritten : (error : Wanting) (writer : Writer) (written later : Option (List ℕ)) → Stops account body first start from (stop.OutOfMemory error) writer left written → AppendsFront written later writer.held → IsFront account body from left start later
    stopped_unwritten error writer written later (in_lines s) a =
        report.in_lines s.whole s.rest s.lines (front_more later (body (script_of s.whole) (placed_of s.whole)) s.put.front s.put.rest s.put.all (front_written writer written later s.put.front s.put.put a))
    stopped_unwritten error writer written later (at_last input is_read s) a =
        report.at_last input is_read (front_more later (account (script_of input) (placed_of input)) s.front s.rest s.all (front_written writer written later s.front s.put a))
