-- the lines of rules, and how many are covered, place by place

use Rattle.std.proofs.Common.{◌≡◌, ◌∙◌, ℕ, zero, suc, ◌+◌, ◌≤◌, Bool, true, false, cond, List, [], ◌∷◌, ◌++◌, length, flat_map, refl, sym, ap, arith, append_assoc, append-nil}
use Rattle.std.specs.Prelude.{is_some}
use Rattle.std.specs.List.{count_by, range_with_len}
use Rattle.std.proofs.lemmas.Grind.{flat_map-append}
use Rattle.std.proofs.lemmas.List.Sums.{sum_by_push}
use Rattle.rule_model.specs.Covering.{covered}
use Rattle.rule_model.specs.Lines.{RuleLines}
use Rattle.script_model.specs.Judgement.{rule_line}

-- what is told of the rules before a place
abbrev pub lines_to : RuleLines → (place : ℕ) → List ℕ
lines_to read place = flat_map (rule_line read) (range_with_len 0 place)

abbrev pub count_to : RuleLines → (place : ℕ) → ℕ
count_to read place = count_by (λ (n : ℕ). is_some (covered read.rules n)) (range_with_len 0 place)

range_last : (a n : ℕ) → range_with_len a (suc n) ≡ range_with_len a n ++ (a + n) ∷ []
range_last a zero = (let same : a ≡ a + 0 = omega arith in ap (λ (k : ℕ). k ∷ []) same)
range_last a (suc n) =
    let same : (a + 1) + n ≡ a + suc n = omega arith in
    ap (λ (ks : List ℕ). a ∷ ks) (range_last (a + 1) n ∙ ap (λ (k : ℕ). range_with_len (a + 1) n ++ k ∷ []) same)

range_more : (n : ℕ) → range_with_len 0 (n + 1) ≡ range_with_len 0 n ++ n ∷ []
range_more n =
    let next : n + 1 ≡ suc n = omega arith in
    let same : 0 + n ≡ n = omega arith in
    ap (range_with_len 0) next ∙ (range_last 0 n ∙ ap (λ (k : ℕ). range_with_len 0 n ++ k ∷ []) same)

pub one_line_more : (read : RuleLines) (place : ℕ) (before : List ℕ) → (before ++ lines_to read place) ++ rule_line read place ≡ before ++ lines_to read (place + 1)
one_line_more read place before =
    append_assoc before (lines_to read place) (rule_line read place)
    ∙ ap (λ (xs : List ℕ). before ++ xs)
    (ap (λ (xs : List ℕ). lines_to read place ++ xs) (sym (append-nil (rule_line read place)))
    ∙ (sym (flat_map-append (rule_line read) (range_with_len 0 place) (place ∷ [])) ∙ ap (flat_map (rule_line read)) (sym (range_more place))))

count_more : (read : RuleLines) (place : ℕ) → count_to read (place + 1) ≡ count_to read place + cond (is_some (covered read.rules place)) 1 0
count_more read place =
    ap (count_by (λ (n : ℕ). is_some (covered read.rules n))) (range_more place)
    ∙ sum_by_push (λ (n : ℕ). cond (is_some (covered read.rules n)) 1 0) (range_with_len 0 place) place

pub one_covered_more : (read : RuleLines) (place : ℕ) → is_some (covered read.rules place) ≡ true → count_to read place + 1 ≡ count_to read (place + 1)
one_covered_more read place is_covered = ap (λ (b : Bool). count_to read place + cond b 1 0) (sym is_covered) ∙ sym (count_more read place)

pub none_covered_more : (read : RuleLines) (place : ℕ) → is_some (covered read.rules place) ≡ false → count_to read place ≡ count_to read (place + 1)
none_covered_more read place uncovered =
    let same : count_to read place ≡ count_to read place + 0 = omega arith in
    same ∙ (ap (λ (b : Bool). count_to read place + cond b 1 0) (sym uncovered) ∙ sym (count_more read place))
