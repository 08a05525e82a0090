-- what a task makes of the lines to come is what their session comes to

use Rattle.std.proofs.Common.{◌≡◌, ℕ, ◌+◌, ◌*◌, ◌<◌, Bool, true, false, cond, nat_lt, List, [], ◌∷◌, ◌++◌, append-nil, length, Option, None, Some, Result, Ok, Err, IfOk, is_some, refl, sym, ◌∙◌, ap, subst, arith}
use Rattle.std.specs.List.{repeat}
use Rattle.std.specs.Option.{option_and_then}
use Rattle.std.proofs.lemmas.Bool.Decides.{nat_tests}
use Rattle.lab_io.specs.Report.{IsPut, Writer}
use Rattle.lab_text.specs.declared.line.LineFault.{LineFault}
use Rattle.lab_text.specs.declared.line.LineFault.TheVariants as fault
use Rattle.lab_text.specs.Line.{holds_octet, input_limit, line_limit, text_fault}
use Rattle.lab_text.specs.Words.{line_text}
use Rattle.lab_io.specs.declared.stop.Stop.{Stop}
use Rattle.line_by_line.specs.declared.task.Ending.{Ending}
use Rattle.line_by_line.specs.Account.{Account, caused, led_by, report}
use Rattle.line_by_line.specs.Report.{account_of}
use Rattle.lab_io.specs.Puts.{StopsIn}
use Rattle.line_by_line.specs.Steps.{Concludes, GoesOn, IsPast, IsTooLong, Settles}
use Rattle.console_model.specs.declared.event.ConsoleEvent.{ConsoleEvent}
use Rattle.console_model.specs.declared.fault.ConsoleFault.{ConsoleFault}
use Rattle.console_model.specs.declared.fault.ConsoleFault.TheVariants.{LineTooLong, ScriptTooLong}
use Rattle.console_model.specs.declared.line.ConsoleLine.{ConsoleLine}
use Rattle.console_model.specs.declared.line.ConsoleLine.TheVariants.{Blank, Ports, Event, Run}
use Rattle.console_model.specs.Lab.{Lab}
use Rattle.console_model.specs.Lines.{ConsoleState, fault_name, line_says, says_by, text_says}
use Rattle.console_model.specs.Steps.{lab_after, next}
use Rattle.console_run.specs.Report.{body_on, console_account, console_report, event_lines, events_lines, last_on, told, told_on}
use Rattle.console_run.specs.Session.{Refusal, Session, begun_by, refused_at, round, session_by, session_from, session_of, state_behind}
use Rattle.console_run.specs.Task.{CanGo, CanTake, account_by, account_from, after_event, behind_line, line_lines, refused_account}
use Rattle.console_run.proofs.Courses.{rounds_length}
use Rattle.console_run.proofs.Rounds.{after_append, events_after, lines_append}
use Rattle.console_run.proofs.Says.{IsMeant, line_meant}

-- *From a lab on*: a line's events, and those behind them
record AreLed (lab behind : Option Lab) (octets : List ℕ) (all rest : List ConsoleEvent) : Type 0 where
  body : body_on lab all ≡ octets ++ body_on behind rest
  last : (refused : Option Refusal) → last_on lab all refused ≡ last_on behind rest refused

-- the last line is that of the same lab
last_alike : (lab behind : Lab) (all rest : List ConsoleEvent) → lab_after lab all ≡ lab_after behind rest → (refused : Option Refusal)
    → last_on (Some lab) all refused ≡ last_on (Some behind) rest refused
last_alike lab behind all rest is None = ap (λ (l : Lab). last_on (Some l) [] None) is
last_alike lab behind all rest is (Some refusal) = refl

event_led : (lab : Lab) (event : ConsoleEvent) (rest : List ConsoleEvent) → AreLed (Some lab) (Some (after_event lab event)) (event_lines lab event) (event ∷ rest) rest
unfolding after_event
event_led lab event rest = record { body = refl; last = last_alike lab (next lab event) (event ∷ rest) rest refl }

rounds_led : (lab : Lab) (n : ℕ) (rest : List ConsoleEvent)
    → AreLed (Some lab) (Some (lab_after lab (repeat n round))) (events_lines lab (repeat n round)) (repeat n round ++ rest) rest
rounds_led lab n rest = record {
  body = lines_append (repeat n round) lab rest;
  last = last_alike lab (lab_after lab (repeat n round)) (repeat n round ++ rest) rest (after_append (repeat n round) lab rest);
}

told_led : (lab behind : Option Lab) (octets : List ℕ) (ports : Option ℕ) (all : List ConsoleEvent) (s : Session) → AreLed lab behind octets all s.events
    → told_on lab (record s { ports = ports; events = all }) ≡ led_by octets (told_on behind s)
told_led lab behind octets ports all s led i = record {
  body = led.body i;
  last = led.last s.refused i;
  outcome = (told_on behind s).outcome;
  is_ended = (told_on behind s).is_ended;
}

-- *A line that is taken*: the lab is opened where a line was `ports`
abbrev Follows : Option Lab → ConsoleState → Type 0
Follows lab state = is_some lab ≡ state.has_ports

line_led : (state : ConsoleState) (lab : Option Lab) (said : ConsoleLine) (s : Session) → Follows lab state → IsMeant state said
    → account_by lab (begun_by said s) ≡ led_by (line_lines lab said) (account_by (behind_line lab said) s)
line_led state lab Blank s follows meant = refl
line_led state None (Ports n) s follows meant = refl
line_led state (Some lab) (Ports n) s follows meant = absurd (cc (follows, meant.0))
line_led state None (Event event) s follows meant = absurd (cc (follows, meant.0.has_ports))
line_led state (Some lab) (Event event) s follows meant =
    told_led (Some lab) (Some (after_event lab event)) (event_lines lab event) s.ports (event ∷ s.events) s (event_led lab event s.events)
line_led state None (Run n) s follows meant = absurd (cc (follows, meant.has_ports))
line_led state (Some lab) (Run n) s follows meant =
    told_led (Some lab) (Some (lab_after lab (repeat n round))) (events_lines lab (repeat n round)) s.ports (repeat n round ++ s.events) s (rounds_led lab n s.events)

-- *A line that is refused*
refused_is : (state : ConsoleState) (lab : Option Lab) (fault : ConsoleFault) → account_by lab (refused_at state fault) ≡ refused_account (state.lines + 1) fault
refused_is state None fault = refl
refused_is state (Some lab) fault = refl

module _ (state : ConsoleState) (lab : Option Lab) (line : List ℕ) where
  abbrev behind_it : (others : List (List ℕ)) → ConsoleLine → Session
  behind_it others said = session_from (state_behind state line said) others

  by_answer : (answer : Result ConsoleLine ConsoleFault) (others : List (List ℕ)) → line_says state line ≡ answer
      → account_from state lab (line ∷ others) ≡ account_by lab (session_by state (behind_it others) answer)
  by_answer answer others is = ap (λ (a : Result ConsoleLine ConsoleFault). account_by lab (session_by state (behind_it others) a)) is

  -- it was meant
  pub meant_so : (said : ConsoleLine) → line_says state line ≡ Ok said → IsMeant state said
  meant_so said is = subst (λ (a : Result ConsoleLine ConsoleFault). IfOk a (IsMeant state)) is (line_meant state line)

  -- another may follow
  pub line_goes : (said : ConsoleLine) (then : ConsoleState) (behind : Option Lab) (old new : Writer) (written_old written_new : Option (List ℕ)) → Follows lab state
      → line_says state line ≡ Ok said → then ≡ state_behind state line said → behind ≡ behind_line lab said → IsPut old new written_old written_new (line_lines lab said)
      → GoesOn (account_from state lab) (account_from then behind) line old new written_old written_new
  line_goes said then behind old new written_old written_new follows is state_is lab_is put = record {
    octets = line_lines lab said;
    same = λ others.
        by_answer (Ok said) others is ∙ line_led state lab said (behind_it others said) follows (meant_so said is)
        ∙ (λ i. led_by (line_lines lab said) (account_by ((sym lab_is) i) (session_from ((sym state_is) i) others)));
    put = put;
  }

  -- an early end in it
  nothing_behind : (said : ConsoleLine) → Follows lab state → IsMeant state said → caused (account_by lab (begun_by said (session_from (state_behind state line said) []))) ≡ line_lines lab said
  nothing_behind said follows meant = ap caused (line_led state lab said (session_from (state_behind state line said) []) follows meant) ∙ body_alone said (behind_line lab said)
    where
      body_alone : (said : ConsoleLine) (behind : Option Lab) → caused (led_by (line_lines lab said) (account_by behind (session_from (state_behind state line said) []))) ≡ line_lines lab said
      body_alone said None = append-nil (line_lines lab said)
      body_alone said (Some l) = append-nil (line_lines lab said)

  pub line_stops : (said : ConsoleLine) (stop : Stop) (old new : Writer) (written_old written_new : Option (List ℕ)) → Follows lab state → line_says state line ≡ Ok said
      → StopsIn stop old new written_old written_new (line_lines lab said) → StopsIn stop old new written_old written_new (caused (account_from state lab (line ∷ [])))
  line_stops said stop old new written_old written_new follows is stops =
      subst (StopsIn stop old new written_old written_new)
      (sym (ap caused (by_answer (Ok said) [] is) ∙ nothing_behind said follows (meant_so said is))) stops

  -- it is the last
  pub line_ends : (fault : ConsoleFault) (result : Result Ending Stop) (old new : Writer) (written_old written_new : Option (List ℕ)) → line_says state line ≡ Err fault
      → Concludes (refused_account (state.lines + 1) fault) result old new written_old written_new → Settles (account_from state lab) line result old new written_old written_new
  line_ends fault result old new written_old written_new is concluded = record {
    account = refused_account (state.lines + 1) fault;
    same = λ others. by_answer (Err fault) others is ∙ refused_is state lab fault;
    is_ended = refl;
    concluded = concluded;
  }

  pub end_stops : (fault : ConsoleFault) (stop : Stop) (old new : Writer) (written_old written_new : Option (List ℕ)) → line_says state line ≡ Err fault
      → StopsIn stop old new written_old written_new (report (refused_account (state.lines + 1) fault)) → StopsIn stop old new written_old written_new (caused (account_from state lab (line ∷ [])))
  end_stops fault stop old new written_old written_new is stops =
      subst (λ (a : Account Ending). StopsIn stop old new written_old written_new (caused a)) (sym (by_answer (Err fault) [] is ∙ refused_is state lab fault)) stops

  -- lines whose octets aren't kept
  pub long_is : IsTooLong state.octets line → line_says state line ≡ Err LineTooLong
  long_is is =
      let low : holds_octet state.octets line input_limit ≡ false = grind (arith, nat_tests, is.within) in
      let long : nat_lt line_limit (length (line_text line)) ≡ true = grind (arith, nat_tests, is.long) in
      ap (λ (f : Option LineFault). says_by (option_and_then fault_name f) (text_says state (line_text line)))
      (ap (λ (b : Bool). cond b (Some fault.ScriptTooLong) (text_fault (line_text line))) low
      ∙ text_long long)
    where
      text_long : nat_lt line_limit (length (line_text line)) ≡ true → text_fault (line_text line) ≡ Some fault.LineTooLong
      text_long long = rw long refl

  pub past_is : IsPast state.octets line → line_says state line ≡ Err ScriptTooLong
  past_is is =
      let held : holds_octet state.octets line input_limit ≡ true = grind (arith, nat_tests, is.within, is.past) in
      ap (λ (f : Option LineFault). says_by (option_and_then fault_name f) (text_says state (line_text line)))
      (ap (λ (b : Bool). cond b (Some fault.ScriptTooLong) (text_fault (line_text line))) held)

-- *It can be taken*
pub can_take : (state : ConsoleState) (lab : Option Lab) (said : ConsoleLine) → CanGo state lab → IsMeant state said → CanTake lab said
can_take state lab Blank go meant = tt
can_take state lab (Ports n) go meant = (meant.1, meant.2)
can_take state lab (Event event) go meant = (go.is_open ∙ meant.0.has_ports, omega (arith, go.events, meant.0.event_lines, meant.0.rounds))
can_take state lab (Run n) go meant = (go.is_open ∙ meant.has_ports, omega (arith, go.events, meant.event_lines, meant.rounds))

-- *It can go on*
event_count : (lab : Lab) (event : ConsoleEvent) → (after_event lab event).events ≡ lab.events + 1
unfolding after_event
event_count lab event = refl

still_goes : (state : ConsoleState) (lab : Option Lab) (line : List ℕ) (said : ConsoleLine) → 0 < length line → CanGo state lab → IsMeant state said
    → CanGo (state_behind state line said) (behind_line lab said)
still_goes state lab line Blank some go meant = record { lines = omega (arith, go.lines); is_open = go.is_open; events = go.events }
still_goes state lab line (Ports n) some go meant = record { lines = omega (arith, go.lines); is_open = refl; events = omega arith }
still_goes state None line (Event event) some go meant = absurd (cc (go.is_open, meant.0.has_ports))
still_goes state (Some lab) line (Event event) some go meant = record {
  lines = omega (arith, go.lines);
  is_open = go.is_open;
  events = (let one : (after_event lab event).events ≡ lab.events + 1 = event_count lab event in omega (arith, one, go.events));
}
still_goes state None line (Run n) some go meant = absurd (cc (go.is_open, meant.has_ports))
still_goes state (Some lab) line (Run n) some go meant = record {
  lines = omega (arith, go.lines);
  is_open = go.is_open;
  events =
      (let all : (lab_after lab (repeat n round)).events ≡ lab.events + length (repeat n round) = events_after (repeat n round) lab in
      let long : length (repeat n round) ≡ 2 * n = rounds_length n in
      omega (arith, all, long, go.events));
}

pub goes_on : (state : ConsoleState) (lab : Option Lab) (line : List ℕ) (said : ConsoleLine) (then : ConsoleState) (behind : Option Lab) → 0 < length line → CanGo state lab
    → line_says state line ≡ Ok said → then ≡ state_behind state line said → behind ≡ behind_line lab said → CanGo then behind
goes_on state lab line said then behind some go is state_is lab_is =
    subst (CanGo then) (sym lab_is) (subst (λ (s : ConsoleState). CanGo s (behind_line lab said)) (sym state_is) (still_goes state lab line said some go (meant_so state lab line said is)))

-- *Of an input*
pub account_is : (input : List ℕ) → account_of console_account input ≡ told (session_of input)
unfolding session_of
account_is input = refl

pub report_is : (input : List ℕ) → report (account_of console_account input) ≡ console_report input
report_is input = ap report (account_is input)
