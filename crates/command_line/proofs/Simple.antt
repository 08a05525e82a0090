-- `clap` promises all of what it makes of words by a grammar such as this one

use Rattle.std.proofs.Common.{◌≡◌, true, refl}
use Rattle.clap.proofs.OnLiterals.{clap_on_literals}
use Rattle.clap.specs.Faults.{is_simple_and_free}
use Rattle.clap.specs.Simple.{is_simple}
use Rattle.command_line.specs.Grammar.{grammar_app}

pub grammar_is_simple : is_simple grammar_app ≡ true
unfolding clap_on_literals
grammar_is_simple = refl

pub grammar_is_free : is_simple_and_free grammar_app ≡ true
unfolding clap_on_literals
grammar_is_free = refl
