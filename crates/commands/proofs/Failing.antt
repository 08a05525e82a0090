-- A fault in what is told of a script leaves what its task says

use Rattle.std.proofs.Common.{◌≡◌, ℕ, List, Option, Result, Ok, Err, sym, subst}
use Rattle.std.specs.Result.{IsErrAnd}
use Rattle.line_by_line.specs.declared.fault.LineFault.{LineFault}
use Rattle.line_by_line.specs.declared.fault.LineFault.TheVariants as line
use Rattle.line_by_line.specs.declared.task.Ending.{Ending}
use Rattle.world.specs.declared.counts.Meter.{Meter}
use Rattle.script_replay.specs.Report.{IsLeft}
use Rattle.commands.specs.declared.fault.RunFault.{RunFault}
use Rattle.commands.specs.declared.task.Task.TheVariants as tasks
use Rattle.commands.specs.declared.task.View.{View}
use Rattle.commands.specs.Fault.{fault_of_line}
use Rattle.commands.specs.Run.{HasRun, Leaves}
use Rattle.commands.specs.View.{view_account, view_telling}

leaves : (view : View) (fault : LineFault) (left_old left_new written_old written_new : Option (List ℕ))
    → IsLeft fault (view_account view) (view_telling view) left_old left_new written_old written_new
    → Leaves (fault_of_line fault) (tasks.View view) left_old left_new written_old written_new
leaves view line.Read left_old left_new written_old written_new left = left
leaves view line.Write left_old left_new written_old written_new left = left
leaves view (line.OutOfMemory error) left_old left_new written_old written_new left = left

pub view_fails : (view : View) (fault : LineFault) (result : Result Ending RunFault) (left_old left_new written_old written_new : Option (List ℕ)) (before meter : Meter)
    → IsErrAnd result (λ given. given ≡ fault_of_line fault)
    → IsLeft fault (view_account view) (view_telling view) left_old left_new written_old written_new
    → HasRun (tasks.View view) left_old left_new written_old written_new before meter result
view_fails view fault (Ok ending) left_old left_new written_old written_new before meter is left = absurd is
view_fails view fault (Err given) left_old left_new written_old written_new before meter is left = record {
  done = tt;
  left = subst (λ f. Leaves f (tasks.View view) left_old left_new written_old written_new) (sym is) (leaves view fault left_old left_new written_old written_new left);
}
