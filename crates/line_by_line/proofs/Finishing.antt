-- what is held of a report is written at last

use Rattle.std.proofs.Common.{◌≡◌, ℕ, ◌+◌, ◌≤◌, List, [], ◌++◌, append_assoc, append-nil, length, length-append, take, Option, None, Some, Result, Ok, Err, IfOk, IfErr, refl, sym, ◌∙◌, ap, subst, arith}
use Rattle.std.specs.Io.KnownBytes.{Appends, Consumes}
use Rattle.std.proofs.KnownBytes.{Appends-trans}
use Rattle.std.proofs.Math.Seq.{take-append-add}
use Rattle.std.proofs.lemmas.List.{take-append-le}
use Rattle.lab_io.specs.Report.{IsPut, IsStuck, Writer}
use Rattle.lab_io.specs.Transfer.{AppendsFront}
use Rattle.net_types.specs.declared.memory.OutOfMemory.{OutOfMemory as Wanting}
use Rattle.line_by_line.specs.declared.fault.LineFault.{LineFault}
use Rattle.lab_io.specs.declared.stop.Stop.TheVariants as stop
use Rattle.line_by_line.specs.Account.{Account, caused, report}
use Rattle.line_by_line.specs.Report as reports
use Rattle.line_by_line.specs.Report.{IsAccountOf, IsCutOff, IsDone, IsFront, IsLeft, account_of}
use Rattle.line_by_line.specs.Reading.{Finished, IsInMidst, IsSettled, Stops, in_lines, at_last}

-- some octets, and some of those behind them
front_of : (all one other : List ℕ) (count : ℕ) → one ++ other ≡ all → take (length one + count) all ≡ one ++ take count other
front_of all one other count e = ap (take (length one + count)) (sym e) ∙ take-append-add one other count

part_within : (all one other : List ℕ) (count : ℕ) → one ++ other ≡ all → count ≤ length other → length one + count ≤ length all
part_within all one other count e low = omega (arith, ap length (sym e), length-append one other, low)

module _ (first : Writer) (bare : first.held ≡ []) (start : Option (List ℕ)) where
  -- all was put, and what was held is written
  all_written : (writer : Writer) (written later : Option (List ℕ)) (octets : List ℕ) → IsPut first writer start written octets → Appends written later writer.held → Appends start later octets
  all_written writer written later octets p a =
      subst (Appends start later) (p.all ∙ ap (λ xs. xs ++ octets) bare) (Appends-trans start written later p.written writer.held p.appended a)

  -- or a front of it
  front_written : (writer : Writer) (written later : Option (List ℕ)) (octets : List ℕ) → IsPut first writer start written octets → AppendsFront written later writer.held → AppendsFront start later octets
  front_written writer written later octets p a =
      let all : p.written ++ writer.held ≡ octets = p.all ∙ ap (λ xs. xs ++ octets) bare in
      record {
        count = length p.written + a.count;
        within = part_within octets p.written writer.held a.count all a.within;
        appended = subst (Appends start later) (sym (front_of octets p.written writer.held a.count all)) (Appends-trans start written later p.written (take a.count writer.held) p.appended a.appended);
      }

  front_all : (later : Option (List ℕ)) (octets front rest : List ℕ) → front ++ rest ≡ octets → Appends start later front → AppendsFront start later octets
  front_all later octets front rest e a =
      let none : take 0 rest ≡ [] = refl in
      let whole : take (length front + 0) octets ≡ front = front_of octets front rest 0 e ∙ ap (λ xs. front ++ xs) none ∙ append-nil front in
      record { count = length front + 0; within = part_within octets front rest 0 e (omega arith); appended = subst (Appends start later) (sym whole) a }

  front_more : (later : Option (List ℕ)) (octets front rest : List ℕ) → front ++ rest ≡ octets → AppendsFront start later front → AppendsFront start later octets
  front_more later octets front rest e a = record {
    count = a.count;
    within = omega (arith, a.within, ap length (sym e), length-append front rest);
    appended = subst (Appends start later) (sym (take-append-le a.count front rest a.within) ∙ ap (take a.count) e) a.appended;
  }

  -- a write failed in its midst
  stuck_front : (writer : Writer) (written : Option (List ℕ)) (octets : List ℕ) → IsStuck first writer start written octets → AppendsFront start written octets
  stuck_front writer written octets s =
      let all : s.written ++ (writer.held ++ s.rest) ≡ octets = sym (append_assoc s.written writer.held s.rest) ∙ s.all ∙ ap (λ xs. xs ++ octets) bare in
      let low : s.count ≤ length (writer.held ++ s.rest) = omega (arith, s.within, length-append writer.held s.rest) in
      record {
        count = length s.written + s.count;
        within = part_within octets s.written (writer.held ++ s.rest) s.count all low;
        appended = subst (Appends start written) (sym (front_of octets s.written (writer.held ++ s.rest) s.count all ∙ ap (λ xs. s.written ++ xs) (take-append-le s.count writer.held s.rest s.within))) s.appended;
      }

  module _ {O : Type 0} (account : List (List ℕ) → Account O) (from left : Option (List ℕ)) where
    pub done : (outcome : O) (writer : Writer) (written later : Option (List ℕ)) → IsSettled account first start from outcome writer left written → Appends written later writer.held → IsDone account from left start later outcome
    done outcome writer written later s a = record {
      input = s.input;
      is_read = s.is_read;
      at_end = s.at_end;
      written = all_written writer written later (report (account_of account s.input)) s.put a;
      outcome_is = s.outcome_is;
    }

    pub unwritten : (outcome : O) (writer : Writer) (written later : Option (List ℕ)) → IsSettled account first start from outcome writer left written → AppendsFront written later writer.held → IsFront account from left start later
    unwritten outcome writer written later s a = reports.at_last s.input s.is_read (front_written writer written later (report (account_of account s.input)) s.put a)

    pub cut_off : (writer : Writer) (written : Option (List ℕ)) → length writer.held ≤ 65536 → IsInMidst account first start from writer left written → IsCutOff account from left start written
    cut_off writer written few m = record {
      whole = m.whole;
      rest = m.rest;
      lines = m.lines;
      no_line = m.no_line;
      unended = m.unended;
      told = m.put.written;
      lacking = writer.held;
      written = m.put.appended;
      all = m.put.all ∙ ap (λ xs. xs ++ (account_of account m.whole).body) bare;
      few = few;
    }

    pub stopped_write : (writer : Writer) (written : Option (List ℕ)) → Stops account first start from stop.Failed writer left written → IsFront account from left start written
    stopped_write writer written (in_lines whole rest lines s) = reports.in_lines whole rest lines (stuck_front writer written (caused (account_of account whole)) s)
    stopped_write writer written (at_last input is_read s) = reports.at_last input is_read (stuck_front writer written (report (account_of account input)) s)

    pub stopped_memory : (error : Wanting) (writer : Writer) (written later : Option (List ℕ)) → Stops account first start from (stop.OutOfMemory error) writer left written → Appends written later writer.held → IsFront account from left start later
    stopped_memory error writer written later (in_lines whole rest lines s) a =
        reports.in_lines whole rest lines (front_all later (caused (account_of account whole)) s.front s.rest s.all (all_written writer written later s.front s.put a))
    stopped_memory error writer written later (at_last input is_read s) a =
        reports.at_last input is_read (front_all later (report (account_of account input)) s.front s.rest s.all (all_written writer written later s.front s.put a))

    pub stopped_unwritten : (error : Wanting) (writer : Writer) (written later : Option (List ℕ)) → Stops account first start from (stop.OutOfMemory error) writer left written → AppendsFront written later writer.held → IsFront account from left start later
    stopped_unwritten error writer written later (in_lines whole rest lines s) a =
        reports.in_lines whole rest lines (front_more later (caused (account_of account whole)) s.front s.rest s.all (front_written writer written later s.front s.put a))
    stopped_unwritten error writer written later (at_last input is_read s) a =
        reports.at_last input is_read (front_more later (report (account_of account input)) s.front s.rest s.all (front_written writer written later s.front s.put a))

-- *A task that was finished*
module _ {O : Type 0} (account : List (List ℕ) → Account O) (start from left written : Option (List ℕ)) where
  pub done_of : (result : Result O LineFault) → Finished account start from result left written → IfOk result (IsDone account from left start written)
  done_of (Ok outcome) f = f
  done_of (Err fault) f = tt

  pub left_of : (result : Result O LineFault) → Finished account start from result left written → IfErr result (λ fault. IsLeft fault account from left start written)
  left_of (Ok outcome) f = tt
  left_of (Err fault) f = f

  made_of : (outcome : O) → IsDone account from left start written outcome → (input : List ℕ) → from ≡ Some input → IsAccountOf account input outcome start written
  made_of outcome d input is = by left refl (subst (λ (o : Option (List ℕ)). Consumes o left d.input) is d.is_read.read)
    where
      by : (o : Option (List ℕ)) → left ≡ o → Consumes (Some input) o d.input → IsAccountOf account input outcome start written
      by None e h = absurd h
      by (Some others) e h =
          let same : account_of account d.input ≡ account_of account input = sym (d.is_read.settled others e) ∙ ap (account_of account) (sym h) in
          record { written = subst (λ (a : Account O). Appends start written (report a)) same d.written; outcome_is = d.outcome_is ∙ ap (λ (a : Account O). a.outcome) same }

  pub complete_of : (result : Result O LineFault) → Finished account start from result left written → IfOk result (λ outcome. (input : List ℕ) → from ≡ Some input → IsAccountOf account input outcome start written)
  complete_of (Ok outcome) f = made_of outcome f
  complete_of (Err fault) f = tt
