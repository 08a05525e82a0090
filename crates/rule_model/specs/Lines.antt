-- Rules, line by line

use Rattle.std.specs.Prelude.{ℕ, ◌+◌, List, [], ◌∷◌, ◌++◌, Option, None, Some, Result, Ok, Err}
use Rattle.rule_model.specs.declared.refusal.RuleRefusal.{RuleRefusal}
use Rattle.rule_model.specs.declared.rule.Rule.{Rule}
use Rattle.rule_model.specs.Reading.{rule_says}

-- the rules, the number of the line of each, and the first line that is refused
pub record RuleLines : Type 0 where
  pub rules : List Rule
  pub numbers : List ℕ
  pub refused : Option (ℕ × RuleRefusal)

abbrev pub no_rules : RuleLines
no_rules = record { rules = []; numbers = []; refused = None }

abbrev pub with_rule : RuleLines → (number : ℕ) → Rule → RuleLines
with_rule before number rule =
    record before { rules = before.rules ++ rule ∷ []; numbers = before.numbers ++ number ∷ [] }

-- *The first refused line ends them*; blank lines are counted
abbrev pub rules_by : RuleLines → (number : ℕ) → (onward : RuleLines → RuleLines) → Result (Option Rule) RuleRefusal → RuleLines
rules_by before number onward (Ok None) = onward before
rules_by before number onward (Ok (Some rule)) = onward (with_rule before number rule)
rules_by before number onward (Err name) = record before { refused = Some (number, name) }

abbrev pub rules_from : RuleLines → (number : ℕ) → List (List ℕ) → RuleLines
rules_from before number [] = before
rules_from before number (text ∷ texts) =
    rules_by before number (λ next. rules_from next (number + 1) texts) (rule_says before.rules text)

-- lines are numbered from 1
unfoldable pub rules_of : List (List ℕ) → RuleLines
rules_of texts = rules_from no_rules 1 texts
