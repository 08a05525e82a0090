-- how the answer of a reader is told: its value as the definitions see it, or the refusal

use Rattle.std.specs.Prelude.{Result, Ok, Err}
use Rattle.script_model.specs.declared.refusal.LineRefusal.{LineRefusal}

abbrev pub ok_as : {A B : Type 0} → (A → B) → Result A LineRefusal → Result B LineRefusal
ok_as view (Ok value) = Ok (view value)
ok_as view (Err refusal) = Err refusal
