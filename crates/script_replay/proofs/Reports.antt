-- the report of a script is what the tale of reports tells of it

use Rattle.std.proofs.Common.{◌≡◌, ◌∙◌, ℕ, Bool, List, Option, Result, Ok, Err, IfOk, IfErr, subst}
use Rattle.std.specs.Io.KnownBytes.{Appends}
use Rattle.lab_io.specs.Transfer.{AppendsFront}
use Rattle.port_model.specs.Setup.{Policy}
use Rattle.world_model.specs.Topology.{Topology}
use Rattle.script_model.specs.Script.{script_of}
use Rattle.network_run.specs.telling_model.Placed.{placed_of}
use Rattle.world.specs.declared.counts.Meter.{Meter}
use Rattle.network_run.proofs.telling_model.Scripts.{events_of_script}
use Rattle.tell_report.specs.Report.{report_tale}
use Rattle.law_told_scripts.proofs.Eventless.{none_in_octets}
use Rattle.law_told_scripts.proofs.Reports.{account_is_report, body_is_report}
use Rattle.line_by_line.specs.declared.fault.LineFault.{LineFault}
use Rattle.line_by_line.specs.declared.fault.LineFault.TheVariants.{Read, Write, OutOfMemory}
use Rattle.script_replay.specs.Report.{IsCutOff, IsDone, IsFront, IsLeft, account_by, at_last, body_by, in_lines, report_by, telling_by}

module _ (choice : Topology → Policy) where
  account_of : (octets : List ℕ) → account_by report_tale choice (script_of octets) (placed_of octets) ≡ report_by choice (script_of octets) (placed_of octets)
  account_of octets = account_is_report (choice (script_of octets).topology) (script_of octets) (placed_of octets) (events_of_script octets)

  telling_of : (octets : List ℕ) → telling_by report_tale choice (script_of octets) (placed_of octets) ≡ body_by choice (script_of octets) (placed_of octets)
  telling_of octets = body_is_report (choice (script_of octets).topology) (script_of octets) (placed_of octets) (events_of_script octets) (none_in_octets octets)

  module _ (left_old left_new written_old written_new : Option (List ℕ)) where
    -- *All of it* is written, or a front of it
    pub done_reported : (result : Result Bool LineFault) (before meter : Meter) → IfOk result (IsDone choice (account_by report_tale choice) left_old left_new written_old written_new before meter)
        → IfOk result (IsDone choice (report_by choice) left_old left_new written_old written_new before meter)
    done_reported (Err fault) before meter d = tt
    done_reported (Ok refused) before meter d = record {
      input = d.input;
      is_read = d.is_read;
      at_end = d.at_end;
      written = subst (Appends written_old written_new) (account_of d.input) d.written;
      outcome = d.outcome;
      meter_is = d.meter_is;
    }

    cut_off : IsCutOff (telling_by report_tale choice) left_old left_new written_old written_new → IsCutOff (body_by choice) left_old left_new written_old written_new
    cut_off c = record {
      whole = c.whole;
      rest = c.rest;
      lines = c.lines;
      no_line = c.no_line;
      accepted = c.accepted;
      told = c.told;
      lacking = c.lacking;
      written = c.written;
      all = c.all ∙ telling_of c.whole;
      few = c.few;
    }

    front : IsFront (account_by report_tale choice) (telling_by report_tale choice) left_old left_new written_old written_new → IsFront (report_by choice) (body_by choice) left_old left_new written_old written_new
    front (in_lines whole rest lines written) = in_lines whole rest lines (subst (AppendsFront written_old written_new) (telling_of whole) written)
    front (at_last input is_read written) = at_last input is_read (subst (AppendsFront written_old written_new) (account_of input) written)

    pub left_reported : (result : Result Bool LineFault) → IfErr result (λ fault. IsLeft fault (account_by report_tale choice) (telling_by report_tale choice) left_old left_new written_old written_new)
        → IfErr result (λ fault. IsLeft fault (report_by choice) (body_by choice) left_old left_new written_old written_new)
    left_reported (Ok refused) l = tt
    left_reported (Err Read) l = cut_off l
    left_reported (Err Write) l = front l
    left_reported (Err (OutOfMemory error)) l = front l
