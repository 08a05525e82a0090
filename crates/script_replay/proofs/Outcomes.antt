-- what a replay comes to, by its ending

use Rattle.std.proofs.Common.{◌≡◌, ◌∙◌, Bool, true, false, ℕ, List, Option, None, Some, Result, Ok, Err, IfOk, IfErr, ap, is_some, refl, subst, sym}
use Rattle.std.specs.Io.KnownBytes.{Consumes}
use Rattle.lab_io.specs.Fault.{count_after}
use Rattle.lab_io.specs.Report.{Writer}
use Rattle.port_model.specs.Setup.{Policy}
use Rattle.world_model.specs.Topology.{Topology}
use Rattle.script_model.specs.Script.{Script, script_of}
use Rattle.network_run.specs.telling_model.Placed.{Placed}
use Rattle.world.specs.declared.counts.Meter.{Meter}
use Rattle.lab_io.specs.declared.stop.Stop.{Stop}
use Rattle.lab_io.specs.declared.stop.Stop.TheVariants as stop
use Rattle.lab_io.specs.Puts.{is_failed}
use Rattle.line_by_line.specs.declared.fault.LineFault.{LineFault}
use Rattle.line_by_line.specs.declared.fault.LineFault.TheVariants.{Read, Write, OutOfMemory}
use Rattle.script_replay.specs.declared.script_run.Step.{Step}
use Rattle.line_by_line.specs.Faults.{fault_of, is_read_fault, is_write_fault}
use Rattle.script_replay.specs.Report.{Finished, IsDone, IsLeft}
use Rattle.script_replay.specs.Reading.{Halts, Stops, Tells, in_lines}

-- *Faults*
pub stop_reads : (stop : Stop) → is_read_fault {A = Step} (Err (fault_of stop)) ≡ false
stop_reads stop.Failed = refl
stop_reads (stop.OutOfMemory error) = refl

pub stop_writes : (stop : Stop) → is_write_fault {A = Step} (Err (fault_of stop)) ≡ is_failed {A = Step} (Err stop)
stop_writes stop.Failed = refl
stop_writes (stop.OutOfMemory error) = refl

-- the last write may fail where none had
pub faults_of : (was is : Bool) (old mid new : ℕ) → mid ≡ count_after was old → (was ≡ false → new ≡ count_after is mid) → (was ≡ true → (is ≡ true) × (new ≡ mid)) → new ≡ count_after is old
faults_of false is old mid new e f g = f refl ∙ ap (count_after is) e
faults_of true is old mid new e f g = (g refl).1 ∙ e ∙ ap (λ (b : Bool). count_after b old) (sym (g refl).0)

module _ (choice : Topology → Policy) (account body : Script → List Placed → List ℕ) (first : Writer) (start : Option (List ℕ)) (before : Meter) (from : Option (List ℕ)) (writer : Writer) (left written : Option (List ℕ)) (meter : Meter) where
  pub halts_tells : (fault : LineFault) → Halts body first start from fault writer left written → Tells choice account body first start before from (Err fault) writer left written meter
  halts_tells Read h = h
  halts_tells Write h = in_lines h
  halts_tells (OutOfMemory error) h = in_lines h

  pub stops_tells : (stop : Stop) → Stops account body first start from stop writer left written → Tells choice account body first start before from (Err (fault_of stop)) writer left written meter
  stops_tells stop.Failed s = s
  stops_tells (stop.OutOfMemory error) s = s

-- *A replay that was finished*
module _ (choice : Topology → Policy) (account body : Script → List Placed → List ℕ) (start : Option (List ℕ)) (before : Meter) (from left written : Option (List ℕ)) (meter : Meter) where
  pub done_of : (result : Result Bool LineFault) → Finished choice account body start before from result left written meter → IfOk result (IsDone choice account from left start written before meter)
  done_of (Ok refused) f = f
  done_of (Err fault) f = tt

  pub left_of : (result : Result Bool LineFault) → Finished choice account body start before from result left written meter → IfErr result (λ fault. IsLeft fault account body from left start written)
  left_of (Ok refused) f = tt
  left_of (Err fault) f = f

  outcome_of : (refused : Bool) → IsDone choice account from left start written before meter refused → (input : List ℕ) → from ≡ Some input → refused ≡ is_some (script_of input).refused
  outcome_of refused d input is = by left refl (subst (λ (o : Option (List ℕ)). Consumes o left d.input) is d.is_read.read)
    where
      by : (o : Option (List ℕ)) → left ≡ o → Consumes (Some input) o d.input → refused ≡ is_some (script_of input).refused
      by None e h = absurd h
      by (Some others) e h = d.outcome ∙ ap (λ (s : Script). is_some s.refused) (sym (d.is_read.settled others e) ∙ ap script_of (sym h))

  pub complete_of : (result : Result Bool LineFault) → Finished choice account body start before from result left written meter → IfOk result (λ refused. (input : List ℕ) → from ≡ Some input → refused ≡ is_some (script_of input).refused)
  complete_of (Ok refused) f = outcome_of refused f
  complete_of (Err fault) f = tt
