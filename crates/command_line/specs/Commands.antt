-- The words of each command

use Rattle.std.specs.Prelude.{◌≡◌, ℕ, ◌≤◌, List, [], ◌∷◌, codes, decimal, Option, Some}
use Rattle.command_line.specs.declared.command.Command.{Command}
use Rattle.command_line.specs.declared.command.Command.TheVariants.{Replay, ReplayToml, Ideal, Rules, DecodeIfmp, DecodeGsmp, Drill, Audit, Console, Trace, Show, Journal, Capture}

abbrev pub words_of : Command → List (List ℕ)
words_of Replay = codes "replay" ∷ []
words_of ReplayToml = codes "replay" ∷ codes "toml" ∷ []
words_of Ideal = codes "ideal" ∷ []
words_of Rules = codes "rules" ∷ []
words_of DecodeIfmp = codes "decode" ∷ codes "ifmp" ∷ []
words_of DecodeGsmp = codes "decode" ∷ codes "gsmp" ∷ []
words_of (Drill number) = codes "drill" ∷ decimal number ∷ []
words_of Audit = codes "audit" ∷ []
words_of Console = codes "console" ∷ []
words_of Trace = codes "trace" ∷ []
words_of Show = codes "show" ∷ []
words_of Journal = codes "journal" ∷ []
words_of Capture = codes "capture" ∷ []

-- the numbers of drills
abbrev pub HasItsNumber : Command → Type 0
HasItsNumber (Drill number) = (1 ≤ number) × (number ≤ 9999)
HasItsNumber command = Unit {0}

-- the words ask for this command
pub record AskFor (words : List (List ℕ)) (command : Command) : Type 0 where
  pub words_are : words ≡ words_of command
  pub number : HasItsNumber command

-- *What is read of words*: the command that they ask for, and none exactly where they ask for none
pub record IsReading (words : List (List ℕ)) (found : Option Command) : Type 0 where
  pub asked : (command : Command) → found ≡ Some command → AskFor words command
  pub all : (command : Command) → AskFor words command → found ≡ Some command
