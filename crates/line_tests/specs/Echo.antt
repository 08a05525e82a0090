-- What is made of lines that are written again

use Rattle.std.specs.Prelude.{ℕ, ◌+◌, nat_eq, nat_le, nat_lt, Bool, true, false, List, [], ◌∷◌, codes, length, if◌then◌else◌}
use Rattle.std.specs.List.{starts_with}
use Rattle.lab_text.specs.Line.{input_limit, line_limit}
use Rattle.lab_text.specs.Words.{line_text}
use Rattle.line_by_line.specs.declared.task.Ending.{Ending}
use Rattle.line_by_line.specs.declared.task.Ending.TheVariants.{Done, Refused, Denied}
use Rattle.line_by_line.specs.Account.{Account, led_by}

abbrev pub closed : (text : List ℕ) → Ending → (is_ended : Bool) → Account Ending
closed text ending is_ended = record { body = []; last = text; outcome = ending; is_ended = is_ended }

-- behind so many octets of the input
abbrev pub echoed : (octets : ℕ) → List (List ℕ) → Account Ending
echoed octets [] = closed (codes "end\n") Done false
echoed octets (line ∷ lines) =
    if nat_le input_limit (octets + length line) then closed (codes "past\n") Refused true
    else if nat_lt line_limit (length (line_text line)) then closed (codes "long\n") Refused true
    else if starts_with nat_eq line (codes "stop") then closed (codes "stopped\n") Denied true
    else led_by line (echoed (octets + length line) lines)
