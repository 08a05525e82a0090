-- *Want of memory* ends a controller, and nothing else does.

use Rattle.std.proofs.Common.{◌≡◌, Bool, true, false, Option, None, Some, Result, Ok, Err, refl, ap, sym, ◌∙◌}
use Rattle.std.specs.Prelude.{is_err, is_some}
use Rattle.std.specs.Result.{result_err}
use Rattle.net_types.specs.declared.memory.OutOfMemory.{OutOfMemory}
use Rattle.node_controller.specs.Nodes.{Ends}

-- a call finds that the controller was ended
pub was_ended : {V F : Type 0} (answer : Result V F) (error : OutOfMemory) (failure : Option OutOfMemory) (failed : Bool) → is_err answer ≡ true → failure ≡ Some error → is_some failure ≡ failed → Ends failed failed answer
was_ended answer error failure failed err is was = record { told = sym was ∙ ap is_some is ∙ sym err; lasts = λ e. e }

error_told : {V F : Type 0} (r : Result V F) → is_some (result_err r) ≡ is_err r
error_told (Ok v) = refl
error_told (Err e) = refl

-- a call that its answer ends, or not
pub ends_by : {V F : Type 0} (r : Result V F) (failure : Option F) (before : Option OutOfMemory) (failed : Bool) → failure ≡ result_err r → before ≡ None → is_some before ≡ failed → Ends failed (is_some failure) r
ends_by r failure before failed is none was = record { told = ap is_some is ∙ error_told r; lasts = λ e. absurd (cc (sym (ap is_some none) ∙ was ∙ e)) }

-- its answer is handed on
pub ends_as : {V W F G : Type 0} (r : Result V F) (answer : Result W G) (before after : Bool) → is_err answer ≡ is_err r → Ends before after r → Ends before after answer
ends_as r answer before after same ends = record { told = ends.told ∙ sym same; lasts = ends.lasts }
