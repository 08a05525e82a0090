-- A script as a TOML document: what a document is, is the promise of the crate `toml`

use Rattle.std.specs.Prelude.{ℕ, ◌+◌, Bool, true, ◌&&◌, nat_le, List, [], ◌∷◌, ◌++◌, length, take, drop, codes, bytes_eq, Option, None, Some, Result, Ok, Err, if◌then◌else◌}
use Rattle.std.specs.List.{list_any}
use Rattle.std.specs.Option.{option_map, option_and_then, option_map_or, ok_or}
use Rattle.std.specs.Str.{is_utf8}
use Rattle.toml.specs.Data.{Items, no_items, item, Members, no_members, member, get_member, as_str, as_array}
use Rattle.toml.specs.Parse.{parse_document}
use Rattle.world_model.specs.port_model.Setup.{Policy}
use Rattle.world_model.specs.Topology.{Topology, empty_topology, policy_of}
use Rattle.rule_model.specs.declared.rule.Rule.{Rule}
use Rattle.rule_model.specs.declared.refusal.RuleRefusal.{RuleRefusal}
use Rattle.rule_model.specs.Matching.{rules_policy}
use Rattle.rule_model.specs.Lines.{RuleLines, rules_of}
use Rattle.script_model.specs.declared.refusal.DocumentRefusal.{DocumentRefusal}
use Rattle.script_model.specs.declared.refusal.DocumentRefusal.TheVariants.{ScriptTooLong, Toml}
use Rattle.script_model.specs.declared.refusal.Refused.{Refused}
use Rattle.script_model.specs.declared.refusal.Refused.TheVariants.{Line, Rule as RuleIs, Document}
use Rattle.script_model.specs.Limits.{input_limit}
use Rattle.script_model.specs.State.{nothing_read}
use Rattle.script_model.specs.Reading.{string_says}
use Rattle.script_model.specs.Script.{Script, script_from}

-- *The keys* of a document, in the order in which their lines are numbered
abbrev pub keys : List (List ℕ)
keys = codes "rules" ∷ codes "topology" ∷ codes "events" ∷ []

-- the texts of an array of strings
abbrev pub strings : Items → Option (List (List ℕ))
strings no_items = Some []
strings (item value others) =
    option_and_then (λ text. option_map (λ texts. text ∷ texts) (strings others)) (as_str value)

-- a key that is missing stands for an empty array
abbrev pub texts_at : (key : List ℕ) → Members → Option (List (List ℕ))
texts_at key found =
    option_map_or (λ value. option_and_then strings (as_array value)) (get_member key found) (Some [])

-- the texts of these keys, one key after another
abbrev pub texts_of : (keys : List (List ℕ)) → Members → Option (List (List ℕ))
texts_of [] found = Some []
texts_of (key ∷ others) found =
    option_and_then (λ texts. option_map (λ more. texts ++ more) (texts_of others found)) (texts_at key found)

-- there is no other key
abbrev pub is_key : List ℕ → Bool
is_key key = list_any (bytes_eq key) keys

abbrev pub has_keys_alone : Members → Bool
has_keys_alone no_members = true
has_keys_alone (member key value others) = is_key key && has_keys_alone others

-- *The lines of a document*, those of all keys; and how many are rules, where it has that key: these come first
pub record Lines : Type 0 where
  pub rules : Option ℕ
  pub texts : List (List ℕ)

abbrev pub count_at : (key : List ℕ) → Members → Option ℕ
count_at key found =
    option_map (λ value. option_map_or length (option_and_then strings (as_array value)) 0) (get_member key found)

abbrev pub lines_in : Members → Option Lines
lines_in found =
    if has_keys_alone found
    then option_map (λ texts. record { rules = count_at (codes "rules") found; texts = texts }) (texts_of keys found)
    else None

-- of octets that are a document of this shape
abbrev pub document_lines : List ℕ → Option Lines
document_lines octets = if is_utf8 octets then option_and_then lines_in (parse_document octets) else None

-- or why they are refused as a whole
unfoldable pub document_of : List ℕ → Result Lines DocumentRefusal
document_of octets =
    if nat_le input_limit (length octets) then Err ScriptTooLong else ok_or (document_lines octets) Toml

-- *Its rules*, and the lines of a script behind them
abbrev pub rule_count : Lines → ℕ
rule_count lines = option_map_or (λ (count : ℕ). count) lines.rules 0

abbrev pub rules_read : Lines → RuleLines
rules_read lines = rules_of (take (rule_count lines) lines.texts)

abbrev pub rule_refused : RuleLines → Option Refused
rule_refused read = option_map (λ (line : ℕ × RuleRefusal). RuleIs line.0 line.1) read.refused

abbrev pub script_texts : Lines → List (List ℕ)
script_texts lines = drop (rule_count lines) lines.texts

-- *The script of a document*. What is refused as a whole, or for a rule, has no lines
abbrev pub refused_script : Refused → Script
refused_script refused = record { topology = empty_topology; events = []; event_lines = 0; refused = Some refused }

-- its lines are numbered behind its rules
abbrev pub numbered_behind : (count : ℕ) → Refused → Refused
numbered_behind count (Line number name) = Line (count + number) name
numbered_behind count (RuleIs number name) = RuleIs number name
numbered_behind count (Document name) = Document name

abbrev pub behind_rules : (count : ℕ) → Script → Script
behind_rules count script = record script { refused = option_map (numbered_behind count) script.refused }

abbrev pub script_of_lines : Lines → Option Refused → Script
script_of_lines lines None = behind_rules (rule_count lines) (script_from string_says nothing_read (script_texts lines))
script_of_lines lines (Some refused) = refused_script refused

abbrev pub script_in : Result Lines DocumentRefusal → Script
script_in (Ok lines) = script_of_lines lines (rule_refused (rules_read lines))
script_in (Err name) = refused_script (Document name)

abbrev pub document_script : List ℕ → Script
document_script octets = script_in (document_of octets)

-- *The policy of a document*: its rules, where it has that key, and else the policy that its topology names
abbrev pub policy_with : Option (List Rule) → Topology → Policy
policy_with None topology = policy_of topology
policy_with (Some rules) topology = rules_policy rules

abbrev pub rules_in : Result Lines DocumentRefusal → Option (List Rule)
rules_in (Ok lines) = option_map (λ (count : ℕ). (rules_read lines).rules) lines.rules
rules_in (Err name) = None

abbrev pub document_rules : List ℕ → Option (List Rule)
document_rules octets = rules_in (document_of octets)

abbrev pub document_policy : List ℕ → Policy
document_policy octets = policy_with (document_rules octets) (document_script octets).topology
