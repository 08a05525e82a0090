-- what a line that isn't refused says, and that it is within the limits

use Rattle.std.proofs.Common.{◌≡◌, ℕ, ◌+◌, ◌≤◌, Bool, true, false, ◌&&◌, nat_le, List, [], ◌∷◌, Option, None, Some, ok_or, Result, Ok, Err, IfOk, refl, arith}
use Rattle.std.specs.Prelude.{if◌then◌else◌}
use Rattle.std.specs.Option.{option_and_then}
use Rattle.std.proofs.lemmas.Bool.Decides.{nat_tests}
use Rattle.lab_text.specs.Forms.{within}
use Rattle.lab_text.specs.Line.{line_fault}
use Rattle.lab_text.specs.Numeral as numeral
use Rattle.lab_text.specs.Words.{is_blank_text, line_text, words}
use Rattle.console_model.specs.declared.event.Side.{Side}
use Rattle.console_model.specs.declared.event.ConsoleEvent.{ConsoleEvent}
use Rattle.console_model.specs.declared.event.ConsoleEvent.TheVariants as event
use Rattle.console_model.specs.declared.fault.ConsoleFault.{ConsoleFault}
use Rattle.console_model.specs.declared.fault.ConsoleFault.TheVariants.{BadNumber, NoPorts, TooMany}
use Rattle.console_model.specs.declared.keyword.Keyword.{Keyword}
use Rattle.console_model.specs.declared.keyword.Keyword.TheVariants as word
use Rattle.console_model.specs.declared.line.ConsoleLine.{ConsoleLine}
use Rattle.console_model.specs.declared.line.ConsoleLine.TheVariants.{Blank, Ports, Event, Run}
use Rattle.console_model.specs.Law.{CanCome, IsEnd, IsPort}
use Rattle.console_model.specs.Lines.{ConsoleState, add_says, after, clear_says, end_of, fault_name, greatest_event_lines, greatest_rounds, input_says, is_too_many, keyword_of, line_says, meant, move_says, number, port, ports_says, restart_says, rounds_of, run_says, said, said_behind, says_by, side_of, side_says, text_says, words_say}
use Rattle.gsmp_console.specs.Script.{IsSayable}

-- *One after another*
after_holds : {A B : Type 0} (P : A → Type 0) (Q : B → Type 0) (r : Result A ConsoleFault) (onward : A → Result B ConsoleFault)
    → IfOk r P → ((a : A) → P a → IfOk (onward a) Q) → IfOk (after r onward) Q
after_holds P Q (Ok a) onward h next = next a h
after_holds P Q (Err fault) onward h next = tt

-- *Forms*
abbrev IsBetween : (least greatest n : ℕ) → Type 0
IsBetween least greatest n = (least ≤ n) × (n ≤ greatest)

between_by : (least greatest n : ℕ) (test : Bool) → (nat_le least n && nat_le n greatest) ≡ test
    → IfOk (ok_or (if test then Some n else None) BadNumber) (IsBetween least greatest)
between_by least greatest n false is = tt
between_by least greatest n true is = grind (arith, nat_tests, is)

between_at : (least greatest : ℕ) (read : Option ℕ) → IfOk (ok_or (within least greatest read) BadNumber) (IsBetween least greatest)
between_at least greatest None = tt
between_at least greatest (Some n) = between_by least greatest n (nat_le least n && nat_le n greatest) refl

number_between : (least greatest : ℕ) (text : List ℕ) → IfOk (number least greatest text) (IsBetween least greatest)
number_between least greatest text = between_at least greatest (numeral.number text)

port_is : (text : List ℕ) → IfOk (port text) IsPort
port_is text = after_holds (IsBetween 1 8) IsPort (number 1 8 text) (λ n. Ok (record { 0 = n })) (number_between 1 8 text) (λ n h. h)

end_is : (p v : List ℕ) → IfOk (end_of p v) IsEnd
end_is p v =
    after_holds IsPort IsEnd (port p) (λ found. after (number 0 65535 v) (λ n. Ok (record { port = found; channel = record { vpi = 0; vci = n } }))) (port_is p)
    (λ found is. after_holds (IsBetween 0 65535) IsEnd (number 0 65535 v) (λ n. Ok (record { port = found; channel = record { vpi = 0; vci = n } })) (number_between 0 65535 v)
    (λ n h. record { port = is; vpi = refl; vci = omega (arith, h.1) }))

-- *What the words say* behind each first word
ports_sayable : (texts : List (List ℕ)) → IfOk (ports_says texts) IsSayable
ports_sayable (n ∷ []) = after_holds (IsBetween 1 8) IsSayable (number 1 8 n) (λ ports. Ok (Ports ports)) (number_between 1 8 n) (λ ports h. h)
ports_sayable texts = tt

add_sayable : (texts : List (List ℕ)) → IfOk (add_says texts) IsSayable
add_sayable (p ∷ v ∷ q ∷ w ∷ []) =
    after_holds IsEnd IsSayable (end_of p v) (λ input. after (end_of q w) (λ output. Ok (Event (event.Add input output)))) (end_is p v)
    (λ input one. after_holds IsEnd IsSayable (end_of q w) (λ output. Ok (Event (event.Add input output))) (end_is q w) (λ output other. (one, other)))
add_sayable texts = tt

move_sayable : (texts : List (List ℕ)) → IfOk (move_says texts) IsSayable
move_sayable (p ∷ v ∷ q ∷ w ∷ r ∷ x ∷ []) =
    after_holds IsEnd IsSayable (end_of p v) (λ input. after (end_of q w) (λ from. after (end_of r x) (λ to. Ok (Event (event.Move input from to))))) (end_is p v)
    (λ input one. after_holds IsEnd IsSayable (end_of q w) (λ from. after (end_of r x) (λ to. Ok (Event (event.Move input from to)))) (end_is q w)
    (λ from two. after_holds IsEnd IsSayable (end_of r x) (λ to. Ok (Event (event.Move input from to))) (end_is r x) (λ to three. (one, two, three))))
move_sayable texts = tt

delete_sayable : (texts : List (List ℕ)) → IfOk (input_says event.Delete texts) IsSayable
delete_sayable (p ∷ v ∷ []) = after_holds IsEnd IsSayable (end_of p v) (λ input. Ok (Event (event.Delete input))) (end_is p v) (λ input h. h)
delete_sayable texts = tt

verify_sayable : (texts : List (List ℕ)) → IfOk (input_says event.Verify texts) IsSayable
verify_sayable (p ∷ v ∷ []) = after_holds IsEnd IsSayable (end_of p v) (λ input. Ok (Event (event.Verify input))) (end_is p v) (λ input h. h)
verify_sayable texts = tt

clear_sayable : (texts : List (List ℕ)) → IfOk (clear_says texts) IsSayable
clear_sayable (p ∷ []) = after_holds IsPort IsSayable (port p) (λ found. Ok (Event (event.Clear found))) (port_is p) (λ found h. h)
clear_sayable texts = tt

-- any side will do
abbrev IsAny : Side → Type 0
IsAny found = Unit {0}

any_side : (r : Result Side ConsoleFault) → IfOk r IsAny
any_side (Ok found) = tt
any_side (Err fault) = tt

side_sayable : (told : Side → ConsoleEvent) → ((found : Side) → CanCome (told found)) → (texts : List (List ℕ)) → IfOk (side_says told texts) IsSayable
side_sayable told can (d ∷ []) = after_holds IsAny IsSayable (side_of d) (λ found. Ok (Event (told found))) (any_side (side_of d)) (λ found h. can found)
side_sayable told can texts = tt

restart_sayable : (texts : List (List ℕ)) → IfOk (restart_says texts) IsSayable
restart_sayable [] = tt
restart_sayable (text ∷ texts) = tt

run_sayable : (texts : List (List ℕ)) → IfOk (run_says texts) IsSayable
run_sayable (n ∷ []) = after_holds (IsBetween 1 100000) IsSayable (number 1 100000 n) (λ rounds. Ok (Run rounds)) (number_between 1 100000 n) (λ rounds h. h)
run_sayable texts = tt

said_sayable : (keyword : Keyword) (texts : List (List ℕ)) → IfOk (said keyword texts) IsSayable
said_sayable word.Ports texts = ports_sayable texts
said_sayable word.Add texts = add_sayable texts
said_sayable word.Move texts = move_sayable texts
said_sayable word.Delete texts = delete_sayable texts
said_sayable word.Clear texts = clear_sayable texts
said_sayable word.Verify texts = verify_sayable texts
said_sayable word.Carry texts = side_sayable event.Carry (λ found. tt) texts
said_sayable word.Lose texts = side_sayable event.Lose (λ found. tt) texts
said_sayable word.Tick texts = side_sayable event.Tick (λ found. tt) texts
said_sayable word.Restart texts = restart_sayable texts
said_sayable word.Run texts = run_sayable texts

behind_sayable : (keyword : Option Keyword) (texts : List (List ℕ)) → IfOk (said_behind keyword texts) IsSayable
behind_sayable None texts = tt
behind_sayable (Some keyword) texts = said_sayable keyword texts

-- *Within the limits*
pub record IsWithin (state : ConsoleState) (line : ConsoleLine) : Type 0 where
  pub has_ports : state.has_ports ≡ true
  pub event_lines : state.event_lines + 1 ≤ greatest_event_lines
  pub rounds : state.rounds + rounds_of line ≤ greatest_rounds

abbrev pub IsMeant : ConsoleState → ConsoleLine → Type 0
IsMeant state Blank = Unit {0}
IsMeant state (Ports n) = (state.has_ports ≡ false) × (1 ≤ n) × (n ≤ 8)
IsMeant state (Event event) = IsWithin state (Event event) × CanCome event
IsMeant state (Run rounds) = IsWithin state (Run rounds)

few_by : (state : ConsoleState) (line : ConsoleLine) (many : Bool) → is_too_many state line ≡ many → state.has_ports ≡ true → (P : ConsoleLine → Type 0) → (IsWithin state line → P line)
    → IfOk (if many then Err TooMany else Ok line) P
few_by state line true is has P holds = tt
few_by state line false is has P holds =
    holds (record { has_ports = has; event_lines = grind (arith, nat_tests, is); rounds = grind (arith, nat_tests, is) })

within_by : (state : ConsoleState) (line : ConsoleLine) (has : Bool) → state.has_ports ≡ has → (P : ConsoleLine → Type 0) → (IsWithin state line → P line)
    → IfOk (if has then (if is_too_many state line then Err TooMany else Ok line) else Err NoPorts) P
within_by state line false is P holds = tt
within_by state line true is P holds = few_by state line (is_too_many state line) refl is P holds

ports_by : (state : ConsoleState) (n : ℕ) (has : Bool) → state.has_ports ≡ has → (1 ≤ n) × (n ≤ 8) → IfOk (meant (record state { has_ports = has }) (Ports n)) (IsMeant state)
ports_by state n true is range = tt
ports_by state n false is range = (is, range.0, range.1)

meant_is : (state : ConsoleState) (line : ConsoleLine) → IsSayable line → IfOk (meant state line) (IsMeant state)
meant_is state Blank can = tt
meant_is state (Ports n) can = ports_by state n state.has_ports refl can
meant_is state (Event event) can = within_by state (Event event) state.has_ports refl (IsMeant state) (λ w. (w, can))
meant_is state (Run rounds) can = within_by state (Run rounds) state.has_ports refl (IsMeant state) (λ w. w)

-- *A line*
words_meant : (state : ConsoleState) (texts : List (List ℕ)) → IfOk (words_say state texts) (IsMeant state)
words_meant state [] = tt
words_meant state (first ∷ others) =
    after_holds IsSayable (IsMeant state) (said_behind (keyword_of first) others) (meant state) (behind_sayable (keyword_of first) others) (meant_is state)

text_by : (state : ConsoleState) (texts : List (List ℕ)) (blank : Bool) → IfOk (if blank then Ok Blank else words_say state texts) (IsMeant state)
text_by state texts true = tt
text_by state texts false = words_meant state texts

text_meant : (state : ConsoleState) (text : List ℕ) → IfOk (text_says state text) (IsMeant state)
text_meant state text = text_by state (words text) (is_blank_text (words text))

unless_refused : (state : ConsoleState) (fault : Option ConsoleFault) (r : Result ConsoleLine ConsoleFault) → IfOk r (IsMeant state) → IfOk (says_by fault r) (IsMeant state)
unless_refused state None r h = h
unless_refused state (Some fault) r h = tt

pub line_meant : (state : ConsoleState) (line : List ℕ) → IfOk (line_says state line) (IsMeant state)
line_meant state line = unless_refused state (option_and_then fault_name (line_fault state.octets line)) (text_says state (line_text line)) (text_meant state (line_text line))
