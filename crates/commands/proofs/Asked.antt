-- What the words ask for is what is read of them

use Rattle.std.proofs.Common.{◌≡◌, ◌∙◌, ℕ, List, Option, None, Some, refl, sym, ap, option_map}
use Rattle.command_line.specs.declared.command.Command.{Command}
use Rattle.command_line.specs.Commands.{IsReading}
use Rattle.commands.specs.declared.task.Task.{Task}
use Rattle.commands.specs.Task.{task_of, AskForTask, AskForNone, IsTaskOf}

-- *Read as a task*
pub some_read : (words : List (List ℕ)) (command : Command) (found : Option Task) → IsReading words (Some command)
    → found ≡ Some (task_of command) → IsTaskOf words found
some_read words command found reading is = record {
  asked = λ task e. record {
    command = command;
    asked = reading.asked command refl;
    does = let same : Some (task_of command) ≡ Some task = sym is ∙ e in cc;
  };
  all = λ task asks.
      let same : Some command ≡ Some asks.command = reading.all asks.command asks.asked in
      is ∙ (ap (λ (o : Option Command). option_map task_of o) same ∙ ap (λ (t : Task). Some t) asks.does);
}

pub none_read : (words : List (List ℕ)) → IsReading words None → IsTaskOf words None
none_read words reading = record {
  asked = λ task e. absurd (cc);
  all = λ task asks.
      let bad : None ≡ Some asks.command = reading.all asks.command asks.asked in
      absurd (cc);
}

-- *What is found* is what they ask for
pub asks_for : (words : List (List ℕ)) (task : Task) → IsTaskOf words (Some task) → AskForTask words task
asks_for words task is = is.asked task refl

pub asks_for_none : (words : List (List ℕ)) → IsTaskOf words None → AskForNone words
asks_for_none words is = λ task asks. let bad : None ≡ Some task = is.all task asks in absurd (cc)

pub asks_for_some : (words : List (List ℕ)) (task : Task) → IsTaskOf words (Some task) → AskForNone words → ⊥
asks_for_some words task is none = none task (asks_for words task is)

pub asks_for_one : (words : List (List ℕ)) (task other : Task) → IsTaskOf words (Some task) → AskForTask words other → task ≡ other
asks_for_one words task other is asks = let same : Some task ≡ Some other = is.all other asks in cc
