-- first words by their length

use Rattle.std.specs.Prelude.{ℕ, List, ◌==◌, length, filter}
use Rattle.script_model.specs.declared.keyword.Keyword.{Keyword}
use Rattle.script_model.specs.Names.{keyword_text, keywords}

abbrev pub of_length : ℕ → List Keyword
of_length n = filter (λ keyword. n == length (keyword_text keyword)) keywords
