-- The lines of the console's language: which of its tests a line fails first, and what it says. The
-- language is this project's own.

use Rattle.std.specs.Prelude.{ℕ, ◌+◌, Bool, true, false, ◌||◌, nat_lt, List, [], ◌∷◌, length, codes, bytes_eq, find, Option, None, Some, Result, Ok, Err, if◌then◌else◌}
use Rattle.std.specs.Option.{option_map, option_and_then, ok_or}
use Rattle.net_types.specs.declared.node.PortNo.{PortNo}
use Rattle.net_types.specs.declared.channel.End.{End}
use Rattle.lab_text.specs.declared.line.LineFault.{LineFault}
use Rattle.lab_text.specs.declared.line.LineFault.TheVariants as fault
use Rattle.lab_text.specs.Line.{line_fault}
use Rattle.lab_text.specs.Forms.{number_in}
use Rattle.lab_text.specs.Words.{line_text, words, is_blank_text}
use Rattle.console_model.specs.declared.event.Side.{Side}
use Rattle.console_model.specs.declared.event.Side.TheVariants as side
use Rattle.console_model.specs.declared.event.ConsoleEvent.{ConsoleEvent}
use Rattle.console_model.specs.declared.event.ConsoleEvent.TheVariants as event
use Rattle.console_model.specs.declared.fault.ConsoleFault.{ConsoleFault}
use Rattle.console_model.specs.declared.fault.ConsoleFault.TheVariants.{ScriptTooLong, LineTooLong, BadByte, UnknownWord, Arity, BadNumber, BadPlace, NoPorts, Late, TooMany}
use Rattle.console_model.specs.declared.keyword.Keyword.{Keyword}
use Rattle.console_model.specs.declared.keyword.Keyword.TheVariants as word
use Rattle.console_model.specs.declared.keyword.TheConstants.{FIRST_WORDS}
use Rattle.console_model.specs.declared.line.ConsoleLine.{ConsoleLine}
use Rattle.console_model.specs.declared.line.ConsoleLine.TheVariants.{Blank, Ports, Event, Run}

-- *First words*
abbrev pub keyword_of : List ℕ → Option Keyword
keyword_of text = option_map (λ entry. entry.1) (find (λ entry. bytes_eq text entry.0.now) FIRST_WORDS)

-- *Forms*: one after another, from left to right, up to the first refusal
abbrev pub after : {A B : Type 0} → Result A ConsoleFault → (A → Result B ConsoleFault) → Result B ConsoleFault
after (Ok value) onward = onward value
after (Err fault) onward = Err fault

abbrev pub number : (least greatest : ℕ) → (word : List ℕ) → Result ℕ ConsoleFault
number least greatest word = ok_or (number_in least greatest word) BadNumber

-- a port, 1 to 8
abbrev pub port : (word : List ℕ) → Result PortNo ConsoleFault
port word = after (number 1 8 word) (λ n. Ok (record { 0 = n }))

-- a port and a VCI of it, whose VPI is 0
abbrev pub end_of : (port vci : List ℕ) → Result End ConsoleFault
end_of p v = after (port p) (λ found. after (number 0 65535 v) (λ n. Ok (record { port = found; channel = record { vpi = 0; vci = n } })))

-- `c` is the console, and `s` the switch
abbrev pub side_of : (word : List ℕ) → Result Side ConsoleFault
side_of word =
    if bytes_eq word (codes "c") then Ok side.Console
    else (if bytes_eq word (codes "s") then Ok side.Switch else Err BadPlace)

-- *What the words say* behind each first word
abbrev pub Says : Type 0
Says = List (List ℕ) → Result ConsoleLine ConsoleFault

abbrev pub ports_says : Says
ports_says (n ∷ []) = after (number 1 8 n) (λ ports. Ok (Ports ports))
ports_says words = Err Arity

abbrev pub add_says : Says
add_says (p ∷ v ∷ q ∷ w ∷ []) =
    after (end_of p v) (λ input. after (end_of q w) (λ output. Ok (Event (event.Add input output))))
add_says words = Err Arity

abbrev pub move_says : Says
move_says (p ∷ v ∷ q ∷ w ∷ r ∷ x ∷ []) =
    after (end_of p v) (λ input. after (end_of q w) (λ from. after (end_of r x) (λ to. Ok (Event (event.Move input from to)))))
move_says words = Err Arity

abbrev pub input_says : (End → ConsoleEvent) → Says
input_says told (p ∷ v ∷ []) = after (end_of p v) (λ input. Ok (Event (told input)))
input_says told words = Err Arity

abbrev pub clear_says : Says
clear_says (p ∷ []) = after (port p) (λ found. Ok (Event (event.Clear found)))
clear_says words = Err Arity

abbrev pub side_says : (Side → ConsoleEvent) → Says
side_says told (d ∷ []) = after (side_of d) (λ found. Ok (Event (told found)))
side_says told words = Err Arity

abbrev pub restart_says : Says
restart_says [] = Ok (Event event.Restart)
restart_says words = Err Arity

abbrev pub run_says : Says
run_says (n ∷ []) = after (number 1 100000 n) (λ rounds. Ok (Run rounds))
run_says words = Err Arity

abbrev pub said : Keyword → Says
said word.Ports words = ports_says words
said word.Add words = add_says words
said word.Move words = move_says words
said word.Delete words = input_says event.Delete words
said word.Clear words = clear_says words
said word.Verify words = input_says event.Verify words
said word.Carry words = side_says event.Carry words
said word.Lose words = side_says event.Lose words
said word.Tick words = side_says event.Tick words
said word.Restart words = restart_says words
said word.Run words = run_says words

abbrev pub said_behind : Option Keyword → Says
said_behind None words = Err UnknownWord
said_behind (Some keyword) words = said keyword words

-- *The lines so far*: how many octets and lines there were, whether one was `ports`, how many lines were
-- events, and their rounds
pub record ConsoleState : Type 0 where
  pub octets : ℕ
  pub lines : ℕ
  pub has_ports : Bool
  pub event_lines : ℕ
  pub rounds : ℕ

abbrev pub nothing_read : ConsoleState
nothing_read = record { octets = 0; lines = 0; has_ports = false; event_lines = 0; rounds = 0 }

-- *Limits*. A line ticks one side once, so that ticks need none
abbrev pub greatest_event_lines : ℕ
greatest_event_lines = 200000

abbrev pub greatest_rounds : ℕ
greatest_rounds = 100000

abbrev pub rounds_of : ConsoleLine → ℕ
rounds_of (Run rounds) = rounds
rounds_of line = 0

abbrev pub is_too_many : ConsoleState → ConsoleLine → Bool
is_too_many state line =
    nat_lt greatest_event_lines (state.event_lines + 1) || nat_lt greatest_rounds (state.rounds + rounds_of line)

-- *What a line means* behind those before it: `ports` comes once, and before all others
abbrev pub event_meant : ConsoleState → ConsoleLine → Result ConsoleLine ConsoleFault
event_meant state line =
    if state.has_ports then (if is_too_many state line then Err TooMany else Ok line) else Err NoPorts

abbrev pub meant : ConsoleState → ConsoleLine → Result ConsoleLine ConsoleFault
meant state Blank = Ok Blank
meant state (Ports n) = if state.has_ports then Err Late else Ok (Ports n)
meant state (Event event) = event_meant state (Event event)
meant state (Run rounds) = event_meant state (Run rounds)

-- *A line*, with its end: its octets are tested before its words
abbrev pub words_say : ConsoleState → Says
words_say state [] = Ok Blank
words_say state (first ∷ others) = after (said_behind (keyword_of first) others) (meant state)

abbrev pub text_says : ConsoleState → (text : List ℕ) → Result ConsoleLine ConsoleFault
text_says state text = if is_blank_text (words text) then Ok Blank else words_say state (words text)

abbrev pub fault_name : LineFault → Option ConsoleFault
fault_name fault.ScriptTooLong = Some ScriptTooLong
fault_name fault.LineTooLong = Some LineTooLong
fault_name fault.BadByte = Some BadByte
fault_name other = None

abbrev pub says_by : Option ConsoleFault → Result ConsoleLine ConsoleFault → Result ConsoleLine ConsoleFault
says_by None said = said
says_by (Some fault) said = Err fault

abbrev pub line_says : ConsoleState → (line : List ℕ) → Result ConsoleLine ConsoleFault
line_says state line =
    says_by (option_and_then fault_name (line_fault state.octets line)) (text_says state (line_text line))

-- *What a line leaves*
abbrev pub with_counted : ConsoleState → (line : List ℕ) → ConsoleState
with_counted state line = record state { octets = state.octets + length line; lines = state.lines + 1 }

abbrev pub with_event_line : ConsoleState → ConsoleLine → ConsoleState
with_event_line state line =
    record state { event_lines = state.event_lines + 1; rounds = state.rounds + rounds_of line }

abbrev pub with_said : ConsoleState → ConsoleLine → ConsoleState
with_said state Blank = state
with_said state (Ports n) = record state { has_ports = true }
with_said state (Event event) = with_event_line state (Event event)
with_said state (Run rounds) = with_event_line state (Run rounds)
