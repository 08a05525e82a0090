-- The grammar by which `clap` parts the words; no claim rests on it

use Rattle.std.specs.Prelude.{ℕ, Bool, true, false, List, codes}
use Rattle.clap.specs.Walk.{Rule}
use Rattle.clap.specs.Simple.{App, Shape, new_rule, new_app, on_top, with_rule, with_subcommand}

abbrev pub word_rule : (required : Bool) → Rule
word_rule required = record (new_rule (codes "word")) { required = required }

-- a command with no word behind its name, and one with a word
abbrev pub bare : (name : List ℕ) → Shape
bare name = (new_app name).top

abbrev pub worded : (name : List ℕ) → (required : Bool) → Shape
worded name required = (with_rule (new_app name) (word_rule required)).top

abbrev pub top_app : App
top_app =
    on_top
    (λ s. record s { no_binary_name = true; disable_help_flag = true; disable_help_subcommand = true; subcommand_required = true })
    (new_app (codes "ipswitch"))

abbrev pub grammar_app : App
grammar_app =
    with_subcommand
    (with_subcommand
    (with_subcommand
    (with_subcommand
    (with_subcommand
    (with_subcommand
    (with_subcommand
    (with_subcommand
    (with_subcommand
    (with_subcommand
    (with_subcommand top_app (worded (codes "replay") false))
    (bare (codes "ideal")))
    (worded (codes "decode") true))
    (worded (codes "drill") true))
    (bare (codes "rules")))
    (bare (codes "audit")))
    (bare (codes "console")))
    (bare (codes "trace")))
    (bare (codes "show")))
    (bare (codes "journal")))
    (bare (codes "capture"))
