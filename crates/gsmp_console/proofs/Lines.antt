-- What a line says rests on no count of octets or lines but where its octets are tested

use Rattle.std.proofs.Common.{◌≡◌, ℕ, List, [], ◌∷◌, None, refl, ap, ◌∙◌}
use Rattle.std.specs.Prelude.{Result, Ok, Err, if◌then◌else◌}
use Rattle.std.specs.Option.{option_and_then}
use Rattle.lab_text.specs.Line.{line_fault}
use Rattle.lab_text.specs.Words.{line_text, words, is_blank_text}
use Rattle.console_model.specs.declared.fault.ConsoleFault.{ConsoleFault}
use Rattle.console_model.specs.declared.line.ConsoleLine.{ConsoleLine}
use Rattle.console_model.specs.declared.line.ConsoleLine.TheVariants.{Blank, Ports, Event, Run}
use Rattle.console_model.specs.Lines.{ConsoleState, after, fault_name, keyword_of, line_says, meant, said_behind, says_by, text_says, words_say}
use Rattle.gsmp_console.specs.Script.{counted_up_to}

meant_alike : (state : ConsoleState) (octets lines : ℕ) (line : ConsoleLine) → meant (record state { octets = octets; lines = lines }) line ≡ meant state line
meant_alike state octets lines Blank = refl
meant_alike state octets lines (Ports n) = refl
meant_alike state octets lines (Event event) = refl
meant_alike state octets lines (Run rounds) = refl

after_alike : (state : ConsoleState) (octets lines : ℕ) (said : Result ConsoleLine ConsoleFault)
    → after said (meant (record state { octets = octets; lines = lines })) ≡ after said (meant state)
after_alike state octets lines (Ok line) = meant_alike state octets lines line
after_alike state octets lines (Err fault) = refl

words_alike : (state : ConsoleState) (octets lines : ℕ) (text : List (List ℕ)) → words_say (record state { octets = octets; lines = lines }) text ≡ words_say state text
words_alike state octets lines [] = refl
words_alike state octets lines (first ∷ others) = after_alike state octets lines (said_behind (keyword_of first) others)

text_alike : (state : ConsoleState) (octets lines : ℕ) (text : List ℕ) → text_says (record state { octets = octets; lines = lines }) text ≡ text_says state text
text_alike state octets lines text =
    ap (λ said. if is_blank_text (words text) then Ok Blank else said) (words_alike state octets lines (words text))

-- a line whose octets pass their tests
pub line_read : (state counted : ConsoleState) (line text : List ℕ) (result : Result ConsoleLine ConsoleFault)
    → None ≡ line_fault state.octets line → text ≡ line_text line → counted ≡ counted_up_to state line → result ≡ text_says counted text → result ≡ line_says state line
line_read state counted line text result none is counts said =
    said ∙ (λ i. text_says (counts i) (is i)) ∙ text_alike state (counted_up_to state line).octets (counted_up_to state line).lines (line_text line)
    ∙ ap (λ fault. says_by (option_and_then fault_name fault) (text_says state (line_text line))) none
