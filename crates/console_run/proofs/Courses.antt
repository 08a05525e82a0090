-- the events of a session can come, and are few

use Rattle.std.proofs.Common.{◌≡◌, ℕ, zero, suc, ◌+◌, ◌*◌, ◌≤◌, false, List, [], ◌∷◌, ◌++◌, All, length, length-append, take, Option, None, Some, Result, Ok, Err, IfOk, IfSome, refl, subst, arith}
use Rattle.std.specs.List.{repeat}
use Rattle.std.proofs.lemmas.List.Elements.{All-append, All-cons, All-nil}
use Rattle.lab_text.specs.Line.{input_limit}
use Rattle.lab_text.specs.Lines.{lines_of}
use Rattle.console_model.specs.declared.event.Side.TheVariants.{Console, Switch}
use Rattle.console_model.specs.declared.event.ConsoleEvent.TheVariants.{Carry}
use Rattle.console_model.specs.declared.fault.ConsoleFault.{ConsoleFault}
use Rattle.console_model.specs.declared.line.ConsoleLine.{ConsoleLine}
use Rattle.console_model.specs.declared.line.ConsoleLine.TheVariants.{Blank, Ports, Event, Run}
use Rattle.console_model.specs.Law.{CanCome}
use Rattle.console_model.specs.Lines.{ConsoleState, greatest_event_lines, greatest_rounds, line_says, nothing_read}
use Rattle.console_run.specs.Course.{IsCourse}
use Rattle.console_run.specs.Session.{Session, begun_by, refused_at, round, session_by, session_from, session_of, state_behind}
use Rattle.console_run.proofs.Says.{IsMeant, line_meant}

-- *Rounds*
round_can : All CanCome round
round_can = All-cons CanCome (Carry Console) (Carry Switch ∷ []) tt (All-cons CanCome (Carry Switch) [] tt (All-nil CanCome))

rounds_can : (n : ℕ) → All CanCome (repeat n round)
rounds_can zero = All-nil CanCome
rounds_can (suc n) = All-append CanCome round (repeat n round) round_can (rounds_can n)

pub rounds_length : (n : ℕ) → length (repeat n round) ≡ 2 * n
rounds_length zero = refl
rounds_length (suc n) = (let rest : length (repeat n round) ≡ 2 * n = rounds_length n in omega (arith, rest))

-- *What lines say* behind others
record IsAllowed (state : ConsoleState) (s : Session) : Type 0 where
  ports : IfSome s.ports (λ n. (1 ≤ n) × (n ≤ 8))
  can_come : All CanCome s.events
  few : length s.events + (state.event_lines + 2 * state.rounds) ≤ greatest_event_lines + 2 * greatest_rounds
  silent : state.has_ports ≡ false → s.ports ≡ None → s.events ≡ []

abbrev IsLow : ConsoleState → Type 0
IsLow state = (state.event_lines ≤ greatest_event_lines) × (state.rounds ≤ greatest_rounds)

line_allowed : (state : ConsoleState) (line : List ℕ) (said : ConsoleLine) (onward : Session) → IsMeant state said → IsAllowed (state_behind state line said) onward
    → IsAllowed state (begun_by said onward)
line_allowed state line Blank onward meant rest = record { ports = rest.ports; can_come = rest.can_come; few = rest.few; silent = rest.silent }
line_allowed state line (Ports n) onward meant rest = record {
  ports = (meant.1, meant.2);
  can_come = rest.can_come;
  few = rest.few;
  silent = λ none is. absurd (cc is);
}
line_allowed state line (Event event) onward meant rest = record {
  ports = rest.ports;
  can_come = All-cons CanCome event onward.events meant.1 rest.can_come;
  few = omega (arith, rest.few);
  silent = λ none is. absurd (cc (none, meant.0.has_ports));
}
line_allowed state line (Run n) onward meant rest =
    let size : length (repeat n round ++ onward.events) ≡ length (repeat n round) + length onward.events = length-append (repeat n round) onward.events in
    let long : length (repeat n round) ≡ 2 * n = rounds_length n in
    record {
      ports = rest.ports;
      can_come = All-append CanCome (repeat n round) onward.events (rounds_can n) rest.can_come;
      few = omega (arith, rest.few, size, long);
      silent = λ none is. absurd (cc (none, meant.has_ports));
    }

refused_allowed : (state : ConsoleState) (fault : ConsoleFault) → IsLow state → IsAllowed state (refused_at state fault)
refused_allowed state fault low = record { ports = tt; can_come = All-nil CanCome; few = omega (arith, low.0, low.1); silent = λ none is. refl }

-- the counts stay low
still_low : (state : ConsoleState) (line : List ℕ) (said : ConsoleLine) → IsLow state → IsMeant state said → IsLow (state_behind state line said)
still_low state line Blank low meant = low
still_low state line (Ports n) low meant = low
still_low state line (Event event) low meant = (meant.0.event_lines, meant.0.rounds)
still_low state line (Run n) low meant = (meant.event_lines, meant.rounds)

by_answer : (state : ConsoleState) (line : List ℕ) (answer : Result ConsoleLine ConsoleFault) (onward : ConsoleLine → Session) → IsLow state → IfOk answer (IsMeant state)
    → ((said : ConsoleLine) → IsLow (state_behind state line said) → IsAllowed (state_behind state line said) (onward said))
    → IsAllowed state (session_by state onward answer)
by_answer state line (Ok said) onward low meant rest = line_allowed state line said (onward said) meant (rest said (still_low state line said low meant))
by_answer state line (Err fault) onward low meant rest = refused_allowed state fault low

lines_allowed : (lines : List (List ℕ)) (state : ConsoleState) → IsLow state → IsAllowed state (session_from state lines)
lines_allowed [] state low = record { ports = tt; can_come = All-nil CanCome; few = omega (arith, low.0, low.1); silent = λ none is. refl }
lines_allowed (line ∷ lines) state low =
    by_answer state line (line_says state line) (λ said. session_from (state_behind state line said) lines) low (line_meant state line)
    (λ said next. lines_allowed lines (state_behind state line said) next)

-- *Of an input*
input_allowed : (input : List ℕ) → IsAllowed nothing_read (session_of input)
unfolding session_of
input_allowed input = lines_allowed (lines_of (take input_limit input)) nothing_read (omega arith, omega arith)

ports_range : (found : Option ℕ) (ports : ℕ) → found ≡ Some ports → IfSome found (λ n. (1 ≤ n) × (n ≤ 8)) → (1 ≤ ports) × (ports ≤ 8)
ports_range found ports is range = subst (λ (o : Option ℕ). IfSome o (λ n. (1 ≤ n) × (n ≤ 8))) is range

pub course_is : (input : List ℕ) (ports : ℕ) → (session_of input).ports ≡ Some ports → IsCourse ports (session_of input).events
course_is input ports is = record {
  port_range = ports_range (session_of input).ports ports is (input_allowed input).ports;
  can_come = (input_allowed input).can_come;
  few = omega (arith, (input_allowed input).few);
}

pub nothing_said : (input : List ℕ) → (session_of input).ports ≡ None → (session_of input).events ≡ []
nothing_said input is = (input_allowed input).silent refl is
