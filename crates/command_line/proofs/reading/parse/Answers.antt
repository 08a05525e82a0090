-- what `clap` makes of the words by the grammar is what it makes of them by the grammar's definition

use Rattle.std.proofs.Common.{◌≡◌, ◌∙◌, ap, ap₂, subst}
use Rattle.std.proofs.lemmas.List.{map-id}
use Rattle.std.proofs.lemmas.Result.{IfOk-weaker}
use Rattle.clap.specs.Faults.{fault_of, is_simple_and_free}
use Rattle.clap.specs.Kinds.{FailsBy, Kinds}
use Rattle.clap.specs.Simple.{app_of, is_simple, subcommand_of}
use Rattle.command_line.specs.Grammar.{grammar_app}
use Rattle.command_line.proofs.Simple.{grammar_is_free, grammar_is_simple}
use Rattle.command_line.proofs.reading.parse.Goals as goal

pub returns-clause-subcommand : goal.returns-clause-subcommand
returns-clause-subcommand c =
    let app_is : app_of c.in_ok-grammar.field-0 ≡ grammar_app = c.in_ok-grammar.ensures in
    IfOk-weaker c.try_get_matches_from.result _ _
    (λ m h. (h (ap is_simple app_is ∙ grammar_is_simple)).1 ∙ ap₂ subcommand_of app_is (map-id c.args.words.now))
    c.try_get_matches_from.ensures.matches

pub returns-clause-faults : goal.returns-clause-faults
returns-clause-faults c =
    let app_is : app_of c.in_ok-grammar.field-0 ≡ grammar_app = c.in_ok-grammar.ensures in
    subst (λ (kinds : Kinds). FailsBy kinds c.try_get_matches_from.result) (ap₂ fault_of app_is (map-id c.args.words.now))
    (c.try_get_matches_from.ensures.kinds (ap is_simple_and_free app_is ∙ grammar_is_free))
