-- The names of refusals. They are this project's own

use Rattle.std.specs.Prelude.{ℕ, List, codes}
use Rattle.rule_model.specs.declared.refusal.RuleRefusal.{RuleRefusal}
use Rattle.rule_model.specs.declared.refusal.RuleRefusal.TheVariants.{LineTooLong, BadByte, UnknownWord, Arity, BadPrefix, BadPorts, BadNumber, TooManyRules}

abbrev pub rule_refusal_name : RuleRefusal → List ℕ
rule_refusal_name LineTooLong = codes "LineTooLong"
rule_refusal_name BadByte = codes "BadByte"
rule_refusal_name UnknownWord = codes "UnknownWord"
rule_refusal_name Arity = codes "Arity"
rule_refusal_name BadPrefix = codes "BadPrefix"
rule_refusal_name BadPorts = codes "BadPorts"
rule_refusal_name BadNumber = codes "BadNumber"
rule_refusal_name TooManyRules = codes "TooManyRules"
