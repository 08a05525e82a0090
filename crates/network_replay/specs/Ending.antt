-- What a report that has ended leaves at its sink

use Rattle.std.specs.Prelude.{◌≡◌, ℕ, List, is_some, Bool, Option, Result, Ok, Err}
use Rattle.std.specs.Io.KnownBytes.{Appends}
use Rattle.lab_io.specs.Transfer.{AppendsFront}
use Rattle.lab_io.specs.declared.stop.Stop.{Stop}
use Rattle.script_model.specs.declared.refusal.Refused.{Refused}

-- the whole report, or a front of it
abbrev pub EndsAs : {A : Type 0} → Result A Stop → (written_old written_new : Option (List ℕ)) → (report : List ℕ) → Type 0
EndsAs (Ok value) written_old written_new report = Appends written_old written_new report
EndsAs (Err stop) written_old written_new report = AppendsFront written_old written_new report

-- whether something was refused is told of an outcome that tells what
abbrev pub Tells : Result (Option Refused) Stop → Result Bool Stop → Type 0
Tells (Ok found) (Ok refused) = refused ≡ is_some found
Tells (Err stop) (Ok refused) = ⊥
Tells outcome (Err stop) = Unit {0}
