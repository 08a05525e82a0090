-- One line of a script: which of its tests fails first, and what it says

use Rattle.std.specs.Prelude.{ℕ, List, [], ◌∷◌, Option, None, Some, Result, Ok, Err, if◌then◌else◌}
use Rattle.std.specs.Option.{option_and_then}
use Rattle.rule_model.specs.lab_text.declared.line.LineFault.{LineFault}
use Rattle.rule_model.specs.lab_text.declared.line.LineFault.TheVariants as fault
use Rattle.rule_model.specs.lab_text.Line.{text_fault, line_fault}
use Rattle.rule_model.specs.lab_text.Words.{line_text, words, is_blank_text}
use Rattle.script_model.specs.declared.line.Line.{Line}
use Rattle.script_model.specs.declared.line.Line.TheVariants.{Blank}
use Rattle.script_model.specs.declared.refusal.LineRefusal.{LineRefusal}
use Rattle.script_model.specs.declared.refusal.LineRefusal.TheVariants.{ScriptTooLong, LineTooLong, BadByte, Arity, BadHex}
use Rattle.script_model.specs.Forms.{after}
use Rattle.script_model.specs.Grammar.{said_of}
use Rattle.script_model.specs.State.{ScriptState, with_said, with_counted}
use Rattle.script_model.specs.Meaning.{meant}

-- the name of a fault; want of memory refuses no line
abbrev pub fault_name : LineFault → Option LineRefusal
fault_name fault.ScriptTooLong = Some ScriptTooLong
fault_name fault.LineTooLong = Some LineTooLong
fault_name fault.BadByte = Some BadByte
fault_name fault.Arity = Some Arity
fault_name fault.BadHex = Some BadHex
fault_name (fault.OutOfMemory error) = None

-- what the words of a line say, and what they mean
abbrev pub words_say : ScriptState → List (List ℕ) → Result Line LineRefusal
words_say state [] = Ok Blank
words_say state (first ∷ others) = after (meant state) (said_of state.topology.version first others)

abbrev pub text_says : ScriptState → (text : List ℕ) → Result Line LineRefusal
text_says state text = if is_blank_text (words text) then Ok Blank else words_say state (words text)

abbrev pub says_by : Option LineRefusal → Result Line LineRefusal → Result Line LineRefusal
says_by None said = said
says_by (Some refusal) said = Err refusal

-- a line of an input, with its end
abbrev pub line_says : ScriptState → (line : List ℕ) → Result Line LineRefusal
line_says state line =
    says_by (option_and_then fault_name (line_fault state.octets line)) (text_says state (line_text line))

-- a line of a document, which has no end: one in it is an octet like others
abbrev pub string_says : ScriptState → (text : List ℕ) → Result Line LineRefusal
string_says state text = says_by (option_and_then fault_name (text_fault text)) (text_says state text)

-- the state behind a line; a refused one counts alone
abbrev pub state_by : ScriptState → Result Line LineRefusal → ScriptState
state_by state (Ok said) = with_said state said
state_by state (Err refusal) = state

abbrev pub state_after : ScriptState → (line : List ℕ) → Result Line LineRefusal → ScriptState
state_after state line said = state_by (with_counted state line) said
