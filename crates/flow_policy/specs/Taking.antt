-- What a line makes of rules

use Rattle.std.specs.Prelude.{◌≡◌, true, false, Bool, List, [], ◌∷◌, ◌++◌, Option, None, Some, Result, Ok, Err}
use Rattle.rule_model.specs.declared.refusal.RuleRefusal.{RuleRefusal}
use Rattle.rule_model.specs.declared.rule.Rule.{Rule}

-- the rules behind a line that says this
abbrev pub rules_behind : List Rule → Option Rule → List Rule
rules_behind rules None = rules
rules_behind rules (Some rule) = rules ++ rule ∷ []

abbrev pub tells_rule : Option Rule → Bool
tells_rule None = false
tells_rule (Some rule) = true

-- the line is taken and told, or it is refused by the same name and nothing changes
abbrev pub Takes : (old : List Rule) → (said : Result (Option Rule) RuleRefusal) → Result Bool RuleRefusal → (now : List Rule) → Type 0
Takes old (Ok rule) result now = (result ≡ Ok (tells_rule rule)) × (now ≡ rules_behind old rule)
Takes old (Err refusal) result now = (result ≡ Err refusal) × (now ≡ old)
