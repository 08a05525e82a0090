-- which lines are refused, and what a line of hexadecimal says

use Rattle.std.specs.Prelude.{ℕ, ◌+◌, ◌&&◌, nat_lt, nat_le, Bool, true, false, not, List, [], ◌∷◌, length, Option, Some, None, Result, Ok, Err, if◌then◌else◌}
use Rattle.std.specs.List.{list_all}
use Rattle.lab_text.specs.declared.line.LineFault.{LineFault}
use Rattle.lab_text.specs.declared.line.LineFault.TheVariants.{ScriptTooLong, LineTooLong, BadByte, Arity, BadHex, OutOfMemory}
use Rattle.lab_text.specs.Words.{is_script_octet, line_text, words, is_blank_line}
use Rattle.lab_text.specs.Numeral.{hex_octets}

-- the number of the octet that no input may hold: the greatest has 2 to the power of 24. Nothing is
-- read past this one
abbrev pub input_limit : ℕ
input_limit = 16777217

-- the most octets of a line, its end not counted
abbrev pub line_limit : ℕ
line_limit = 4096

-- the octet of the input with this number, counted from 1, is one of these octets, which so many
-- others stand before
abbrev pub holds_octet : (before : ℕ) → List ℕ → (place : ℕ) → Bool
holds_octet before octets place = nat_lt before place && nat_le place (before + length octets)

-- the refusal is for want of memory, and not for what the line says
abbrev pub is_want_of_memory : LineFault → Bool
is_want_of_memory (OutOfMemory error) = true
is_want_of_memory fault = false

-- the tests that the octets of each line meet, its end not among them, in their order: which fails first
abbrev pub text_fault : List ℕ → Option LineFault
text_fault text =
    if nat_lt line_limit (length text) then Some LineTooLong
    else if not (list_all is_script_octet text) then Some BadByte
    else None

-- the tests of a line of an input
abbrev pub line_fault : (before : ℕ) → List ℕ → Option LineFault
line_fault before line = if holds_octet before line input_limit then Some ScriptTooLong else text_fault (line_text line)

-- the octets of a line's one word, where it spells some
abbrev pub hex_word : Option (List ℕ) → Result (Option (List ℕ)) LineFault
hex_word None = Err BadHex
hex_word (Some octets) = Ok (Some octets)

abbrev pub hex_words : List (List ℕ) → Result (Option (List ℕ)) LineFault
hex_words [] = Ok None
hex_words (word ∷ []) = hex_word (hex_octets word)
hex_words (word ∷ next ∷ others) = Err Arity

-- a line of hexadecimal: the octets of its one word, or none where it is blank
abbrev pub hex_text : List ℕ → Result (Option (List ℕ)) LineFault
hex_text text = if is_blank_line text then Ok None else hex_words (words text)

abbrev pub unless_refused : Option LineFault → Result (Option (List ℕ)) LineFault → Result (Option (List ℕ)) LineFault
unless_refused None answer = answer
unless_refused (Some fault) _ = Err fault

abbrev pub hex_line : (before : ℕ) → List ℕ → Result (Option (List ℕ)) LineFault
hex_line before line = unless_refused (line_fault before line) (hex_text (line_text line))
