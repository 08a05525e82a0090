-- A line of a trace: which of its tests fails first, and what it says

use Rattle.std.specs.Prelude.{ℕ, List, [], ◌∷◌, codes, bytes_eq, Option, None, Some, Result, Ok, Err, if◌then◌else◌}
use Rattle.std.specs.Option.{option_and_then}
use Rattle.lab_text.specs.declared.line.LineFault.{LineFault}
use Rattle.lab_text.specs.declared.line.LineFault.TheVariants as fault
use Rattle.lab_text.specs.Line.{line_fault}
use Rattle.lab_text.specs.Words.{line_text, words, is_blank_text}
use Rattle.trace_model.specs.declared.line.TraceLine.{TraceLine}
use Rattle.trace_model.specs.declared.line.TraceLine.TheVariants.{Link, Take, Lost, Frame, Put, Bind, End}
use Rattle.trace_model.specs.declared.refusal.TraceRefusal.{TraceRefusal}
use Rattle.trace_model.specs.declared.refusal.TraceRefusal.TheVariants.{ScriptTooLong, LineTooLong, BadByte, UnknownWord, Arity}
use Rattle.trace_model.specs.Forms.{read_name, read_port, read_end, read_channel, read_label, read_mark, read_payload, read_flow}

-- one thing after another, up to the first refusal
abbrev pub after : {A B : Type 0} → (A → Result B TraceRefusal) → Result A TraceRefusal → Result B TraceRefusal
after next (Ok value) = next value
after next (Err refusal) = Err refusal

-- *What the words behind each first word say*: how many there are, then their forms from left to right
abbrev pub said_link : (words : List (List ℕ)) → Result TraceLine TraceRefusal
said_link (first ∷ second ∷ []) = after (λ a. after (λ b. Ok (Link a b)) (read_end second)) (read_end first)
said_link words = Err Arity

abbrev pub said_take : (words : List (List ℕ)) → Result TraceLine TraceRefusal
said_take (end ∷ []) = after (λ at. Ok (Take at)) (read_end end)
said_take words = Err Arity

abbrev pub said_lost : (words : List (List ℕ)) → Result TraceLine TraceRefusal
said_lost (end ∷ []) = after (λ at. Ok (Lost at)) (read_end end)
said_lost words = Err Arity

abbrev pub said_frame : (words : List (List ℕ)) → Result TraceLine TraceRefusal
said_frame (mark ∷ hex ∷ []) = after (λ m. after (λ payload. Ok (Frame m payload)) (read_payload hex)) (read_mark mark)
said_frame words = Err Arity

abbrev pub said_put : (words : List (List ℕ)) → Result TraceLine TraceRefusal
said_put (end ∷ channel ∷ mark ∷ []) =
    after (λ at. after (λ c. after (λ m. Ok (Put (record { end = at; channel = c }) m)) (read_mark mark)) (read_channel channel)) (read_end end)
said_put words = Err Arity

abbrev pub said_bind : (words : List (List ℕ)) → Result TraceLine TraceRefusal
said_bind (name ∷ port ∷ channel ∷ hex ∷ []) =
    after (λ node. after (λ p. after (λ c. after (λ flow. Ok (Bind (record { end = record { node = node; port = p }; channel = c }) flow))
    (read_flow hex)) (read_label channel)) (read_port port)) (read_name name)
said_bind words = Err Arity

abbrev pub said_end : (words : List (List ℕ)) → Result TraceLine TraceRefusal
said_end [] = Ok End
said_end words = Err Arity

-- *What a line says*, by its first word and the others
abbrev pub said : (first : List ℕ) → (words : List (List ℕ)) → Result TraceLine TraceRefusal
said first words =
    if bytes_eq first (codes "link") then said_link words
    else if bytes_eq first (codes "take") then said_take words
    else if bytes_eq first (codes "lost") then said_lost words
    else if bytes_eq first (codes "frame") then said_frame words
    else if bytes_eq first (codes "put") then said_put words
    else if bytes_eq first (codes "bind") then said_bind words
    else if bytes_eq first (codes "end") then said_end words
    else Err UnknownWord

abbrev pub words_say : List (List ℕ) → Result (Option TraceLine) TraceRefusal
words_say [] = Ok None
words_say (first ∷ others) = after (λ line. Ok (Some line)) (said first others)

-- none where the text is blank
abbrev pub text_says : (text : List ℕ) → Result (Option TraceLine) TraceRefusal
text_says text = if is_blank_text (words text) then Ok None else words_say (words text)

-- the name of a fault that each line of an input can have; the others are no faults of such a line
abbrev pub fault_name : LineFault → Option TraceRefusal
fault_name fault.ScriptTooLong = Some ScriptTooLong
fault_name fault.LineTooLong = Some LineTooLong
fault_name fault.BadByte = Some BadByte
fault_name fault = None

abbrev pub says_by : Option TraceRefusal → Result (Option TraceLine) TraceRefusal → Result (Option TraceLine) TraceRefusal
says_by None said = said
says_by (Some refusal) said = Err refusal

-- a line of an input, with its end, behind so many octets
abbrev pub line_says : (before : ℕ) → (line : List ℕ) → Result (Option TraceLine) TraceRefusal
line_says before line = says_by (option_and_then fault_name (line_fault before line)) (text_says (line_text line))
