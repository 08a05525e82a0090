-- how answers are told: what a document holds, or its refusal; want of memory is free where `toml` may say it

use Rattle.std.specs.Prelude.{◌≡◌, ℕ, List, Option, Some, None, IsSome, Result, Ok, Err, if◌then◌else◌}
use Rattle.std.specs.Str.{is_utf8}
use Rattle.toml.specs.Data.{Members}
use Rattle.toml.specs.Parse.{parse_document}
use Rattle.script_model.specs.declared.refusal.DocumentRefusal.{DocumentRefusal}
use Rattle.script_model.specs.declared.refusal.DocumentRefusal.TheVariants.{Toml}
use Rattle.document_text.specs.declared.fault.DocumentFault.{DocumentFault}
use Rattle.document_text.specs.declared.fault.DocumentFault.TheVariants.{Refused, OutOfMemory}

-- the table of octets that are a document of TOML
abbrev pub members_of : List ℕ → Option Members
members_of octets = if is_utf8 octets then parse_document octets else None

-- why there is no table: the octets are none, or memory was wanting, which `toml` may say of any octets
abbrev pub IsTold : (memory : Type 0) → DocumentFault → Type 0
IsTold memory (Refused name) = (name ≡ Toml) × (¬ memory)
IsTold memory (OutOfMemory error) = memory

-- the table that is found, seen so, or there is none and the document is refused, or `toml` found no memory
abbrev pub ReadsAs : {A B : Type 0} → (view : A → B) → (found : Option B) → Result A DocumentFault → Type 0
ReadsAs view found (Ok value) = found ≡ Some (view value)
ReadsAs view found (Err (Refused name)) = (name ≡ Toml) × (found ≡ None)
ReadsAs view found (Err (OutOfMemory error)) = Unit {0}

-- the lines that are found in a table, or there are none and the document is refused; where memory is wanting there
-- are some
abbrev pub Reads : {A : Type 0} → (found : Option A) → Result A DocumentFault → Type 0
Reads found (Ok value) = found ≡ Some value
Reads found (Err (Refused name)) = (name ≡ Toml) × (found ≡ None)
Reads found (Err (OutOfMemory error)) = IsSome found

-- what is read of a document is what it is, or it is refused by the same name
abbrev pub IsRead : {A : Type 0} → (found : Result A DocumentRefusal) → Result A DocumentFault → Type 0
IsRead found (Ok value) = found ≡ Ok value
IsRead found (Err (Refused name)) = found ≡ Err name
IsRead found (Err (OutOfMemory error)) = Unit {0}
