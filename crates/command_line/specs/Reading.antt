-- How the words are read; no claim rests on these words

use Rattle.std.specs.Prelude.{◌≡◌, ℕ, nat_eq, Bool, ◌||◌, List, [], ◌∷◌, codes, bytes_eq, Option, None, Some, Result, Ok, Err, if◌then◌else◌}
use Rattle.std.specs.List.{starts_with}
use Rattle.std.specs.Option.{option_map, option_and_then}
use Rattle.net_types.specs.declared.memory.OutOfMemory.{OutOfMemory as NoMemory}
use Rattle.clap.specs.Walk.{Row, first_of}
use Rattle.clap.specs.declared.error.kind.ErrorKind.{ErrorKind}
use Rattle.clap.specs.declared.error.kind.ErrorKind.TheVariants.{OutOfMemory}
use Rattle.lab_text.specs.Forms.{number_in}
use Rattle.command_line.specs.declared.command.Command.{Command}
use Rattle.command_line.specs.declared.command.Command.TheVariants.{Replay, ReplayToml, Ideal, Rules, DecodeIfmp, DecodeGsmp, Drill, Audit, Console, Trace, Show, Journal, Capture}

-- *Barred words*: they begin with a hyphen, or are `help`
abbrev pub is_barred : List ℕ → Bool
is_barred word = starts_with nat_eq word (codes "-") || bytes_eq word (codes "help")

-- *A name and the word behind it*
abbrev pub drill : (word : List ℕ) → Option Command
drill word = option_map (λ number. Drill number) (number_in 1 9999 word)

abbrev pub behind_replay : (word : List ℕ) → Option Command
behind_replay word = if bytes_eq word (codes "toml") then Some ReplayToml else None

abbrev pub behind_decode : (word : List ℕ) → Option Command
behind_decode word =
    if bytes_eq word (codes "ifmp") then Some DecodeIfmp
    else (if bytes_eq word (codes "gsmp") then Some DecodeGsmp else None)

abbrev pub worded : (name word : List ℕ) → Option Command
worded name word =
    if bytes_eq name (codes "replay") then behind_replay word
    else (if bytes_eq name (codes "decode") then behind_decode word
    else (if bytes_eq name (codes "drill") then drill word else None))

abbrev pub alone : (name : List ℕ) → Option Command
alone name =
    if bytes_eq name (codes "replay") then Some Replay
    else (if bytes_eq name (codes "ideal") then Some Ideal
    else (if bytes_eq name (codes "rules") then Some Rules
    else (if bytes_eq name (codes "audit") then Some Audit
    else (if bytes_eq name (codes "console") then Some Console
    else (if bytes_eq name (codes "trace") then Some Trace
    else (if bytes_eq name (codes "show") then Some Show
    else (if bytes_eq name (codes "journal") then Some Journal
    else (if bytes_eq name (codes "capture") then Some Capture else None))))))))

abbrev pub asked : (name : List ℕ) → (word : Option (List ℕ)) → Option Command
asked name (Some word) = worded name word
asked name None = alone name

-- *What words ask for*: a name, and at most one word behind it
abbrev pub said : List (List ℕ) → Option Command
said [] = None
said (name ∷ []) = asked name None
said (name ∷ word ∷ []) = asked name (Some word)
said (name ∷ word ∷ next ∷ others) = None

-- *What `clap` found*: a subcommand with what its grammar calls its word
abbrev pub command_in : Option (List ℕ × List Row) → Option Command
command_in found = option_and_then (λ sub. asked sub.0 (first_of (codes "word") sub.1)) found

-- a refusal is want of memory, or no command
abbrev pub RefusedBy : ErrorKind → Result (Option Command) NoMemory → Type 0
RefusedBy kind (Ok found) = (found ≡ None) × (kind ≡ OutOfMemory → ⊥)
RefusedBy kind (Err error) = kind ≡ OutOfMemory
