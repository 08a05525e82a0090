-- rules are read line by line

use Rattle.std.proofs.Common.{◌≡◌, ◌∙◌, ℕ, zero, suc, ◌+◌, ◌<◌, ◌≤◌, Bool, true, false, List, [], ◌∷◌, ◌++◌, length, take, drop, slice_get, Option, None, Some, Result, Ok, Err, refl, sym, ap, subst, arith, length-append, if◌then◌else◌}
use Rattle.rule_model.specs.declared.refusal.RuleRefusal.{RuleRefusal}
use Rattle.rule_model.specs.declared.rule.Rule.{Rule}
use Rattle.rule_model.specs.Lines.{RuleLines, no_rules, with_rule, rules_by, rules_from, rules_of}
use Rattle.rule_model.specs.Reading.{rule_says}
use Rattle.flow_policy.specs.Taking.{Takes}
use Rattle.script_model.specs.Documents.{Lines, rule_count, rules_read}

-- *A line* that is a rule, one that is blank, and one that is refused
module _ (old : RuleLines) (number : ℕ) (rest : List (List ℕ)) (now : List Rule) where
  abbrev onward : RuleLines → RuleLines
  onward next = rules_from next (number + 1) rest

  rule_by : (said : Result (Option Rule) RuleRefusal) → Takes old.rules said (Ok true) now
      → rules_by old number onward said ≡ onward (record { rules = now; numbers = old.numbers ++ number ∷ []; refused = old.refused })
  rule_by (Ok None) told = absurd (cc told.0)
  rule_by (Ok (Some rule)) told = ap (λ (rules : List Rule). onward (record { rules = rules; numbers = old.numbers ++ number ∷ []; refused = old.refused })) (sym told.1)
  rule_by (Err refusal) told = absurd (cc told.0)

  blank_by : (said : Result (Option Rule) RuleRefusal) → Takes old.rules said (Ok false) now
      → rules_by old number onward said ≡ onward (record { rules = now; numbers = old.numbers; refused = old.refused })
  blank_by (Ok None) told = ap (λ (rules : List Rule). onward (record { rules = rules; numbers = old.numbers; refused = old.refused })) (sym told.1)
  blank_by (Ok (Some rule)) told = absurd (cc told.0)
  blank_by (Err refusal) told = absurd (cc told.0)

  refused_by : (name : RuleRefusal) (said : Result (Option Rule) RuleRefusal) → Takes old.rules said (Err name) now
      → rules_by old number onward said ≡ record { rules = now; numbers = old.numbers; refused = Some (number, name) }
  refused_by name (Ok None) told = absurd (cc told.0)
  refused_by name (Ok (Some rule)) told = absurd (cc told.0)
  refused_by name (Err refusal) told =
      let same : refusal ≡ name = cc told.0 in
      ap (λ (why : RuleRefusal). record { rules = old.rules; numbers = old.numbers; refused = Some (number, why) }) same
      ∙ ap (λ (rules : List Rule). record { rules = rules; numbers = old.numbers; refused = Some (number, name) }) (sym told.1)

pub rule_taken : (old : RuleLines) (number : ℕ) (text : List ℕ) (now : List Rule) → Takes old.rules (rule_says old.rules text) (Ok true) now → (rest : List (List ℕ))
    → rules_from old number (text ∷ rest) ≡ rules_from (record { rules = now; numbers = old.numbers ++ number ∷ []; refused = old.refused }) (number + 1) rest
rule_taken old number text now told rest = rule_by old number rest now (rule_says old.rules text) told

pub blank_taken : (old : RuleLines) (number : ℕ) (text : List ℕ) (now : List Rule) → Takes old.rules (rule_says old.rules text) (Ok false) now → (rest : List (List ℕ))
    → rules_from old number (text ∷ rest) ≡ rules_from (record { rules = now; numbers = old.numbers; refused = old.refused }) (number + 1) rest
blank_taken old number text now told rest = blank_by old number rest now (rule_says old.rules text) told

pub line_refused : (old : RuleLines) (number : ℕ) (text : List ℕ) (now : List Rule) (name : RuleRefusal) → Takes old.rules (rule_says old.rules text) (Err name) now → (rest : List (List ℕ))
    → rules_from old number (text ∷ rest) ≡ record { rules = now; numbers = old.numbers; refused = Some (number, name) }
line_refused old number text now name told rest = refused_by old number rest now name (rule_says old.rules text) told

-- as the answer was told
pub told_as : (old : List Rule) (said : Result (Option Rule) RuleRefusal) (now : List Rule) (result : Result Bool RuleRefusal) (told test : Bool) → result ≡ Ok told → told ≡ test → Takes old said result now → Takes old said (Ok test) now
told_as old said now result told test is same takes = subst (λ (r : Result Bool RuleRefusal). Takes old said r now) (is ∙ ap Ok same) takes

pub told_err : (old : List Rule) (said : Result (Option Rule) RuleRefusal) (now : List Rule) (result : Result Bool RuleRefusal) (name : RuleRefusal) → result ≡ Err name → Takes old said result now → Takes old said (Err name) now
told_err old said now result name is takes = subst (λ (r : Result Bool RuleRefusal). Takes old said r now) is takes

-- *The sizes*: there are as many numbers as rules
size_more : (old : List Rule) (said : Result (Option Rule) RuleRefusal) (now : List Rule) → Takes old said (Ok true) now → length now ≡ length old + 1
size_more old (Ok None) now told = absurd (cc told.0)
size_more old (Ok (Some rule)) now told = ap length told.1 ∙ length-append old (rule ∷ [])
size_more old (Err refusal) now told = absurd (cc told.0)

pub size_blank : (old : List Rule) (said : Result (Option Rule) RuleRefusal) (now : List Rule) → Takes old said (Ok false) now → length now ≡ length old
size_blank old (Ok None) now told = ap length told.1
size_blank old (Ok (Some rule)) now told = absurd (cc told.0)
size_blank old (Err refusal) now told = absurd (cc told.0)

pub size_refused : (old : List Rule) (said : Result (Option Rule) RuleRefusal) (now : List Rule) (name : RuleRefusal) → Takes old said (Err name) now → length now ≡ length old
size_refused old (Ok None) now name told = absurd (cc told.0)
size_refused old (Ok (Some rule)) now name told = absurd (cc told.0)
size_refused old (Err refusal) now name told = ap length told.1

pub numbered_more : (old : List Rule) (said : Result (Option Rule) RuleRefusal) (now : List Rule) (numbers reserved later : List ℕ) (number : ℕ) → Takes old said (Ok true) now → length numbers ≡ length old
    → reserved ≡ numbers → later ≡ reserved ++ number ∷ [] → length later ≡ length now
numbered_more old said now numbers reserved later number told sized same pushed =
    ap length pushed ∙ (length-append reserved (number ∷ []) ∙ (ap (λ (xs : List ℕ). length xs + 1) same ∙ (ap (λ (n : ℕ). n + 1) sized ∙ sym (size_more old said now told))))

pub numbered_same : (old now : List Rule) (numbers reserved : List ℕ) → length now ≡ length old → length numbers ≡ length old → reserved ≡ numbers → length reserved ≡ length now
numbered_same old now numbers reserved kept sized same = ap length same ∙ (sized ∙ sym kept)

-- *Lines in their places*
abbrev pub rule_texts : Lines → List (List ℕ)
rule_texts lines = take (rule_count lines) lines.texts

-- what is read so far, and what is still to be read
abbrev pub IsAlong : Lines → (place : ℕ) → RuleLines → Type 0
IsAlong lines place read = rules_from read (place + 1) (drop place (rule_texts lines)) ≡ rules_read lines

pub begins : (lines : Lines) (read : RuleLines) → read ≡ no_rules → IsAlong lines 0 read
unfolding rules_of
begins lines read none = ap (λ (r : RuleLines). rules_from r 1 (rule_texts lines)) none

drop_at : (count place : ℕ) (texts : List (List ℕ)) (text : List ℕ) → place < count → slice_get texts place ≡ Some text
    → drop place (take count texts) ≡ text ∷ drop (suc place) (take count texts)
drop_at count place [] text low e = absurd (cc e)
drop_at zero place (first ∷ texts) text low e = absurd (omega (arith, low))
drop_at (suc count) zero (first ∷ texts) text low e = (let same : first ≡ text = cc e in ap (λ (x : List ℕ). x ∷ take count texts) same)
drop_at (suc count) (suc place) (first ∷ texts) text low e = drop_at count place texts text (omega (arith, low)) e

drop_past : (count place : ℕ) (texts : List (List ℕ)) → slice_get texts place ≡ None → drop place (take count texts) ≡ []
drop_past zero zero texts e = refl
drop_past zero (suc place) texts e = refl
drop_past (suc count) zero [] e = refl
drop_past (suc count) (suc place) [] e = refl
drop_past (suc count) zero (first ∷ texts) e = absurd (cc e)
drop_past (suc count) (suc place) (first ∷ texts) e = drop_past count place texts e

drop_all : (count place : ℕ) (texts : List (List ℕ)) → count ≤ place → drop place (take count texts) ≡ []
drop_all zero zero texts high = refl
drop_all zero (suc place) texts high = refl
drop_all (suc count) zero texts high = absurd (omega (arith, high))
drop_all (suc count) (suc place) [] high = refl
drop_all (suc count) (suc place) (first ∷ texts) high = drop_all count place texts (omega (arith, high))

pub at_line : (lines : Lines) (place : ℕ) (text : List ℕ) (read : RuleLines) → place < rule_count lines → slice_get lines.texts place ≡ Some text → IsAlong lines place read
    → rules_from read (place + 1) (text ∷ drop (suc place) (rule_texts lines)) ≡ rules_read lines
at_line lines place text read low e along = ap (rules_from read (place + 1)) (sym (drop_at (rule_count lines) place lines.texts text low e)) ∙ along

pub next_line : (lines : Lines) (place : ℕ) (read : RuleLines) → rules_from read ((place + 1) + 1) (drop (suc place) (rule_texts lines)) ≡ rules_read lines → IsAlong lines (place + 1) read
next_line lines place read e = subst (λ (p : ℕ). rules_from read ((place + 1) + 1) (drop p (rule_texts lines)) ≡ rules_read lines) (let next : suc place ≡ place + 1 = omega arith in next) e

pub no_line : (lines : Lines) (place : ℕ) (read : RuleLines) → slice_get lines.texts place ≡ None → IsAlong lines place read → read ≡ rules_read lines
no_line lines place read e along = ap (rules_from read (place + 1)) (sym (drop_past (rule_count lines) place lines.texts e)) ∙ along

pub ends : (lines : Lines) (place : ℕ) (read : RuleLines) → rule_count lines ≤ place → IsAlong lines place read → read ≡ rules_read lines
ends lines place read high along = ap (rules_from read (place + 1)) (sym (drop_all (rule_count lines) place lines.texts high)) ∙ along

-- *What a line leaves*: it is the last, or others may follow
pub stops : (lines : Lines) (place number : ℕ) (text : List ℕ) (read new : RuleLines) (goes_on : Bool) → place < rule_count lines → slice_get lines.texts place ≡ Some text → IsAlong lines place read → number ≡ place + 1
    → ((rest : List (List ℕ)) → rules_from read number (text ∷ rest) ≡ (if goes_on then rules_from new (number + 1) rest else new)) → goes_on ≡ false → new ≡ rules_read lines
stops lines place number text read new goes_on low e along numbered step ended =
    let rest = drop (suc place) (rule_texts lines) in
    let last : rules_from read number (text ∷ rest) ≡ new = step rest ∙ ap (λ (b : Bool). if b then rules_from new (number + 1) rest else new) ended in
    sym last ∙ (ap (λ (n : ℕ). rules_from read n (text ∷ rest)) numbered ∙ at_line lines place text read low e along)

pub goes_on : (lines : Lines) (place number : ℕ) (text : List ℕ) (read new : RuleLines) (on : Bool) → place < rule_count lines → slice_get lines.texts place ≡ Some text → IsAlong lines place read → number ≡ place + 1
    → ((rest : List (List ℕ)) → rules_from read number (text ∷ rest) ≡ (if on then rules_from new (number + 1) rest else new)) → on ≡ true → IsAlong lines (place + 1) new
goes_on lines place number text read new on low e along numbered step going =
    let rest = drop (suc place) (rule_texts lines) in
    let next : rules_from read number (text ∷ rest) ≡ rules_from new (number + 1) rest = step rest ∙ ap (λ (b : Bool). if b then rules_from new (number + 1) rest else new) going in
    next_line lines place new
    (ap (λ (n : ℕ). rules_from new (n + 1) rest) (sym numbered) ∙ (sym next ∙ (ap (λ (n : ℕ). rules_from read n (text ∷ rest)) numbered ∙ at_line lines place text read low e along)))
