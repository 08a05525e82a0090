-- What is told of a document's rules alone: a line for each, and the last line

use Rattle.std.specs.Prelude.{ℕ, List, [], ◌∷◌, ◌++◌, length, slice_index, codes, decimal, is_some, Option, None, Some, Result, Ok, Err}
use Rattle.std.specs.List.{count_by, flat_map, range_with_len}
use Rattle.rule_model.specs.lab_text.Text.{line_of}
use Rattle.rule_model.specs.Covering.{covered}
use Rattle.rule_model.specs.Lines.{RuleLines}
use Rattle.script_model.specs.declared.refusal.DocumentRefusal.{DocumentRefusal}
use Rattle.script_model.specs.declared.refusal.Refused.{Refused}
use Rattle.script_model.specs.declared.refusal.Refused.TheVariants.{Document}
use Rattle.script_model.specs.Documents.{Lines, document_of, rules_read, rule_refused}
use Rattle.script_model.specs.Reports.{last_line_by, refused_line}

-- the number of a rule's line, and of the line of the rule that covers it
abbrev pub covered_words : (numbers : List ℕ) → Option ℕ → List (List ℕ)
covered_words numbers None = []
covered_words numbers (Some place) = codes "covered" ∷ decimal (slice_index numbers place) ∷ []

abbrev pub rule_words : RuleLines → (place : ℕ) → List (List ℕ)
rule_words read place =
    codes "rule" ∷ decimal (slice_index read.numbers place) ∷ covered_words read.numbers (covered read.rules place)

abbrev pub rule_line : RuleLines → (place : ℕ) → List ℕ
rule_line read place = line_of (rule_words read place)

abbrev pub rule_places : RuleLines → List ℕ
rule_places read = range_with_len 0 (length read.rules)

-- *The last line*: how many rules there are, and how many of them are covered; or what is refused
abbrev pub covered_count : RuleLines → ℕ
covered_count read = count_by (λ place. is_some (covered read.rules place)) (rule_places read)

abbrev pub judgement_end : RuleLines → List ℕ
judgement_end read =
    line_of
    (codes "end" ∷ codes "rules" ∷ decimal (length read.rules) ∷ codes "covered" ∷ decimal (covered_count read) ∷ [])

abbrev pub judgement : RuleLines → List ℕ
judgement read = flat_map (rule_line read) (rule_places read) ++ last_line_by (judgement_end read) (rule_refused read)

-- *Of a document*
abbrev pub document_judged : Result Lines DocumentRefusal → List ℕ
document_judged (Ok lines) = judgement (rules_read lines)
document_judged (Err name) = refused_line (Document name)

abbrev pub rules_report : List ℕ → List ℕ
rules_report octets = document_judged (document_of octets)

-- and what is refused in it
abbrev pub judged_refused : Result Lines DocumentRefusal → Option Refused
judged_refused (Ok lines) = rule_refused (rules_read lines)
judged_refused (Err name) = Some (Document name)

abbrev pub rules_refused : List ℕ → Option Refused
rules_refused octets = judged_refused (document_of octets)
