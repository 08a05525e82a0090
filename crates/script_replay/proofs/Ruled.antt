-- a document is replayed under its rules, where it has some, and else under the policy that its script names

use Rattle.std.proofs.Common.{◌≡◌, ℕ, List, Option, None, Some, Result, Ok, option_map, sym, subst}
use Rattle.rule_model.specs.declared.rule.Rule.{Rule}
use Rattle.rule_model.specs.Matching.{rules_policy}
use Rattle.world_model.specs.port_model.Setup.{Policy}
use Rattle.world_model.specs.Topology.{Topology, policy_of}
use Rattle.script_model.specs.declared.refusal.DocumentRefusal.{DocumentRefusal}
use Rattle.script_model.specs.declared.refusal.Refused.{Refused}
use Rattle.script_model.specs.Documents.{Lines, policy_with, rules_in, rules_read, rule_refused, script_of_lines, script_in}
use Rattle.script_model.specs.Script.{Script}
use Rattle.script_replay.specs.DocumentLines.{script_behind_rules}

-- what is so of the choice of a policy and a script
module _ (Holds : (Topology → Policy) → Script → Type 0) where
  -- the rules, where there are so many lines of them
  abbrev rules_at : Lines → Option ℕ → Option (List Rule)
  rules_at lines count = option_map (λ (n : ℕ). (rules_read lines).rules) count

  abbrev HoldsAt : Lines → Option (List Rule) → Option Refused → Type 0
  HoldsAt lines rules refused = Holds (policy_with rules) (script_of_lines lines refused)

  -- no rule is refused
  accepted_at : (lines : Lines) (count : Option ℕ) → rule_refused (rules_read lines) ≡ None → lines.rules ≡ count → HoldsAt lines (rules_at lines count) None
      → Holds (policy_with (rules_in (Ok lines))) (script_in (Ok lines))
  accepted_at lines count accepted counted holds =
      subst (HoldsAt lines (rules_at lines lines.rules)) (sym accepted)
      (subst (λ (n : Option ℕ). HoldsAt lines (rules_at lines n) None) (sym counted) holds)

  pub by_name : (lines : Lines) → rule_refused (rules_read lines) ≡ None → lines.rules ≡ None → Holds policy_of (script_behind_rules lines)
      → Holds (policy_with (rules_in (Ok lines))) (script_in (Ok lines))
  by_name lines accepted counted holds = accepted_at lines None accepted counted holds

  pub by_rules : (lines : Lines) (count : ℕ) (rules : List Rule) → rule_refused (rules_read lines) ≡ None → lines.rules ≡ Some count → rules ≡ (rules_read lines).rules
      → Holds (λ topology. rules_policy rules) (script_behind_rules lines)
      → Holds (policy_with (rules_in (Ok lines))) (script_in (Ok lines))
  by_rules lines count rules accepted counted same holds =
      accepted_at lines (Some count) accepted counted (subst (λ (rs : List Rule). Holds (λ topology. rules_policy rs) (script_behind_rules lines)) same holds)

  -- of a document that is read
  pub of_read : (found : Result Lines DocumentRefusal) (lines : Lines) → found ≡ Ok lines → Holds (policy_with (rules_in (Ok lines))) (script_in (Ok lines))
      → Holds (policy_with (rules_in found)) (script_in found)
  of_read found lines read holds = subst (λ (r : Result Lines DocumentRefusal). Holds (policy_with (rules_in r)) (script_in r)) (sym read) holds
