-- documents from their tables, and the answers of readers

use Rattle.std.proofs.Common.{◌≡◌, ℕ, Bool, true, false, List, Option, Some, None, Result, Ok, Err, ◌<◌, ◌≤◌, length, le-leb, refl, sym, ap, ◌∙◌}
use Rattle.std.proofs.lemmas.Bool.{lt-leb}
use Rattle.std.specs.Prelude.{IsUtf8}
use Rattle.std.specs.Option.{option_and_then, ok_or}
use Rattle.std.specs.Str.{is_utf8}
use Rattle.std.proofs.lemmas.Str.{IsUtf8-from_is_utf8}
use Rattle.toml.specs.Data.{Members}
use Rattle.toml.specs.Parse.{parse_document}
use Rattle.script_model.specs.declared.refusal.DocumentRefusal.TheVariants.{Toml, ScriptTooLong}
use Rattle.script_model.specs.Limits.{input_limit}
use Rattle.script_model.specs.Documents.{Lines, lines_in, document_lines, document_of}
use Rattle.document_text.specs.declared.fault.DocumentFault.{DocumentFault}
use Rattle.document_text.specs.declared.fault.DocumentFault.TheVariants.{Refused, OutOfMemory}
use Rattle.document_text.specs.Reading.{IsTold, ReadsAs, Reads, IsRead, members_of}

-- octets that aren't UTF-8, or aren't a document, have no table
members_of-none : (octets : List ℕ) → (IsUtf8 octets → parse_document octets ≡ None) → members_of octets ≡ None
members_of-none octets refused = by (is_utf8 octets) refl
  where
    by : (b : Bool) → is_utf8 octets ≡ b → members_of octets ≡ None
    by true utf8 = rw utf8 (refused (IsUtf8-from_is_utf8 octets utf8))
    by false otherwise = rw otherwise

-- a fault that is a refusal only where it isn't for memory
pub refused_table : {A : Type 0} (view : A → Members) (memory : Type 0) (octets : List ℕ) (fault : DocumentFault)
    → IsTold memory fault → (¬ memory → IsUtf8 octets → parse_document octets ≡ None)
    → ReadsAs view (members_of octets) (Err fault)
refused_table view memory octets (Refused name) told refused = (told.0, members_of-none octets (refused told.1))
refused_table view memory octets (OutOfMemory error) told refused = tt

-- the lines of a document are those of its table
pub document_lines-table : (octets : List ℕ) → document_lines octets ≡ option_and_then lines_in (members_of octets)
document_lines-table octets = by (is_utf8 octets) refl
  where
    by : (b : Bool) → is_utf8 octets ≡ b → document_lines octets ≡ option_and_then lines_in (members_of octets)
    by true utf8 = rw utf8
    by false otherwise = rw otherwise

pub refused_lines : {A : Type 0} (view : A → Members) (octets : List ℕ) (fault : DocumentFault) → ReadsAs view (members_of octets) (Err fault)
    → ReadsAs {A = Lines} (λ lines. lines) (document_lines octets) (Err fault)
refused_lines view octets (Refused name) told = (told.0, rw (document_lines-table octets, told.1))
refused_lines view octets (OutOfMemory error) told = tt

-- the lines of its table are the document's
pub table_lines : (octets : List ℕ) (found : Members) (result : Result Lines DocumentFault) → members_of octets ≡ Some found → Reads (lines_in found) result
    → ReadsAs (λ lines. lines) (document_lines octets) result
table_lines octets found (Ok lines) is told = rw (document_lines-table octets, is) told
table_lines octets found (Err (Refused name)) is told = (told.0, rw (document_lines-table octets, is) told.1)
table_lines octets found (Err (OutOfMemory error)) is told = tt

-- *Documents* that are too long, and others
pub long_is : (octets : List ℕ) → input_limit ≤ length octets → document_of octets ≡ Err ScriptTooLong
unfolding document_of
long_is octets long = rw (le-leb input_limit (length octets) long)

short_is : (octets : List ℕ) → length octets < input_limit → document_of octets ≡ ok_or (document_lines octets) Toml
unfolding document_of
short_is octets short = rw (lt-leb input_limit (length octets) short)

pub read_is : (octets : List ℕ) (result : Result Lines DocumentFault) → length octets < input_limit → ReadsAs (λ lines. lines) (document_lines octets) result
    → IsRead (document_of octets) result
read_is octets (Ok lines) short told = short_is octets short ∙ ap (λ (found : Option Lines). ok_or found Toml) told
read_is octets (Err (Refused name)) short told =
    short_is octets short ∙ (ap (λ (found : Option Lines). ok_or found Toml) told.1 ∙ ap Err (sym told.0))
read_is octets (Err (OutOfMemory error)) short told = tt
