-- what an event and a round write

use Rattle.std.proofs.Common.{◌≡◌, ℕ, ◌+◌, List, [], ◌++◌, append_assoc, drop, length, ◌∙◌, ap}
use Rattle.link_model.specs.declared.record.Record.{Record}
use Rattle.link_model.specs.Notes.{Journal}
use Rattle.console_model.specs.declared.event.Side.TheVariants.{Console, Switch}
use Rattle.console_model.specs.declared.event.ConsoleEvent.{ConsoleEvent}
use Rattle.console_model.specs.declared.event.ConsoleEvent.TheVariants.{Carry}
use Rattle.console_model.specs.Lab.{Lab}
use Rattle.console_model.specs.Steps.{next, step}
use Rattle.gsmp_console.specs.Bench.{Held, lab_in}
use Rattle.console_run.specs.Report.{chance_lines, event_lines, reply_lines}
use Rattle.console_run.specs.Task.{after_event, after_round, round_lines}
use Rattle.console_run.proofs.Rounds.{after_round_is, round_lines_are}

-- *An event*: the records of earlier ones are put away, and it is stepped
module _ (held then : Held) (notes cleared noted : Journal) (event : ConsoleEvent) (none : cleared ≡ record notes { records = [] }) (is : lab_in then noted ≡ step (lab_in held cleared) event) where
  stepped : lab_in then noted ≡ next (lab_in held notes) event
  stepped = is ∙ ap (λ (n : Journal). step (lab_in held n) event) none

  pub event_after : lab_in then noted ≡ after_event (lab_in held notes) event
  unfolding after_event
  event_after = stepped

  pub event_told : (told : ℕ) (records : List Record) (before mid out : List ℕ) → told ≡ length held.answers → records ≡ noted.records → mid ≡ before ++ chance_lines records
      → out ≡ mid ++ reply_lines (told + 1) (drop told then.answers) → out ≡ before ++ event_lines (lab_in held notes) event
  unfolding event_lines
  event_told told records before mid out told_is records_are chances replies =
      replies ∙ ap (λ xs. xs ++ reply_lines (told + 1) (drop told then.answers)) chances
      ∙ append_assoc before (chance_lines records) (reply_lines (told + 1) (drop told then.answers))
      ∙ ap (λ (rs : List Record). before ++ (chance_lines rs ++ reply_lines (told + 1) (drop told then.answers))) records_are
      ∙ (λ i. before ++ (chance_lines (stepped i).notes.records ++ reply_lines (told_is i + 1) (drop (told_is i) (stepped i).answers)))

-- *A round*
pub round_told : (lab mid : Lab) (before one out : List ℕ) → mid ≡ after_event lab (Carry Console) → one ≡ before ++ event_lines lab (Carry Console) → out ≡ one ++ event_lines mid (Carry Switch)
    → out ≡ before ++ round_lines lab
round_told lab mid before one out mid_is first second =
    second ∙ (λ i. first i ++ event_lines (mid_is i) (Carry Switch))
    ∙ append_assoc before (event_lines lab (Carry Console)) (event_lines (after_event lab (Carry Console)) (Carry Switch))
    ∙ ap (λ xs. before ++ xs) (round_lines_are lab)

pub round_after : (lab mid then : Lab) → mid ≡ after_event lab (Carry Console) → then ≡ after_event mid (Carry Switch) → then ≡ after_round lab
round_after lab mid then mid_is is = is ∙ ap (λ (l : Lab). after_event l (Carry Switch)) mid_is ∙ after_round_is lab
