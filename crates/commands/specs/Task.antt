-- What the words of the command line ask for

use Rattle.std.specs.Prelude.{◌≡◌, ℕ, List, codes, Option, Some}
use Rattle.message_text.specs.declared.protocol.Protocol.TheVariants.{Ifmp, Gsmp}
use Rattle.command_line.specs.declared.command.Command.{Command}
use Rattle.command_line.specs.declared.command.Command.TheVariants as command
use Rattle.command_line.specs.Commands.{AskFor}
use Rattle.commands.specs.declared.task.Task.{Task}
use Rattle.commands.specs.declared.task.Task.TheVariants.{Replay, View, Document, Drill, Whole, Lined}
use Rattle.commands.specs.declared.task.Lined.TheVariants.{Audit, Console}
use Rattle.commands.specs.declared.task.View.TheVariants.{Trace, Show, Journal, Capture}
use Rattle.commands.specs.declared.task.Whole.TheVariants.{Ideal, Decode, Rules}

-- what a command does
abbrev pub task_of : Command → Task
task_of command.Replay = Replay
task_of command.ReplayToml = Document
task_of command.Ideal = Whole Ideal
task_of command.Rules = Whole Rules
task_of command.DecodeIfmp = Whole (Decode Ifmp)
task_of command.DecodeGsmp = Whole (Decode Gsmp)
task_of (command.Drill number) = Drill number
task_of command.Audit = Lined Audit
task_of command.Console = Lined Console
task_of command.Trace = View Trace
task_of command.Show = View Show
task_of command.Journal = View Journal
task_of command.Capture = View Capture

-- the words are those of a command that does this
pub record AskForTask (words : List (List ℕ)) (task : Task) : Type 0 where
  pub command : Command
  pub asked : AskFor words command
  pub does : task_of command ≡ task

-- they are no command's
abbrev pub AskForNone : (words : List (List ℕ)) → Type 0
AskForNone words = (task : Task) → AskForTask words task → ⊥

-- what is written then
abbrev pub usage_line : List ℕ
usage_line = codes "usage: ipswitch replay|replay toml|ideal|decode ifmp|decode gsmp|drill N|rules|trace|audit|console|show|journal|capture\n"

-- *What is read of words*: the task that they ask for, and none exactly where they ask for none
pub record IsTaskOf (words : List (List ℕ)) (found : Option Task) : Type 0 where
  pub asked : (task : Task) → found ≡ Some task → AskForTask words task
  pub all : (task : Task) → AskForTask words task → found ≡ Some task
