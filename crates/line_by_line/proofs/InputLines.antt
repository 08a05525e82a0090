-- the lines of an input that is read on

use Rattle.std.proofs.Common.{◌≡◌, ℕ, suc, ◌+◌, ◌-◌, ◌<◌, ◌≤◌, ◌==◌, ◌||◌, Bool, true, false, List, [], ◌∷◌, ◌++◌, length, take, drop, slice_get, Option, None, Some, refl, sym, ◌∙◌, ap, subst, arith, if◌then◌else◌}
use Rattle.std.specs.Prelude.{nat_lt, nat_le}
use Rattle.std.specs.Option.{option_map, option_map_or}
use Rattle.std.proofs.lemmas.Bool.Decides.{nat_tests}
use Rattle.std.proofs.lemmas.List.{take-append-drop, take_all}
use Rattle.lab_io.specs.Lines.{Answer, Given, Long, Past, Over, answer_in, answer_to, feed, first_line, is_all}
use Rattle.lab_text.specs.Line.{input_limit, line_limit}
use Rattle.lab_text.specs.Lines.{begun_with, lines_of}
use Rattle.lab_text.specs.Words.{line_text}
use Rattle.line_by_line.specs.Reading.{ends_line}

pub feed_at : (octet : ℕ) (octets : List ℕ) → octet == 10 ≡ true → feed (octet ∷ octets) ≡ 0
feed_at octet octets e = rw e refl

pub feed_later : (octet : ℕ) (octets : List ℕ) → octet == 10 ≡ false → feed (octet ∷ octets) ≡ suc (feed octets)
feed_later octet octets e = rw e (omega arith)

pub lines_at : (octet : ℕ) (octets : List ℕ) → octet == 10 ≡ true → lines_of (octet ∷ octets) ≡ (octet ∷ []) ∷ lines_of octets
lines_at octet octets e = rw e refl

pub lines_later : (octet : ℕ) (octets : List ℕ) → octet == 10 ≡ false → lines_of (octet ∷ octets) ≡ begun_with octet (lines_of octets)
lines_later octet octets e = rw e refl

-- a test is the one or the other
pub by_test : {P : Type 0} (b : Bool) → (b ≡ true → P) → (b ≡ false → P) → P
by_test true one other = one refl
by_test false one other = other refl

pub feed_low : (octets : List ℕ) → feed octets ≤ length octets
feed_low [] = omega arith
feed_low (octet ∷ octets) = by_test (octet == 10)
    (λ e. omega (arith, feed_at octet octets e))
    (λ e. (let low : feed octets ≤ length octets = feed_low octets in omega (arith, feed_later octet octets e, low)))

-- *A line with its end*: whatever octets follow, it is the first line
pub front_line : (line others : List ℕ) → suc (feed line) ≡ length line → lines_of (line ++ others) ≡ line ∷ lines_of others
front_line [] others e = absurd (omega (arith, e))
front_line (octet ∷ []) others e = by_test (octet == 10)
    (λ is. lines_at octet others is)
    (λ is. absurd (omega (arith, e, feed_later octet [] is)))
front_line (octet ∷ next ∷ line) others e = by_test (octet == 10)
    (λ is. absurd (omega (arith, e, feed_at octet (next ∷ line) is)))
    (λ is. (let rest : suc (feed (next ∷ line)) ≡ length (next ∷ line) = omega (arith, e, feed_later octet (next ∷ line) is) in
    lines_later octet ((next ∷ line) ++ others) is ∙ ap (begun_with octet) (front_line (next ∷ line) others rest)))

pub has_end : (line : List ℕ) → suc (feed line) ≡ length line → ends_line line ≡ true
has_end [] e = absurd (omega (arith, e))
has_end (octet ∷ []) e = by_test (octet == 10)
    (λ is. is)
    (λ is. absurd (omega (arith, e, feed_later octet [] is)))
has_end (octet ∷ next ∷ line) e = by_test (octet == 10)
    (λ is. absurd (omega (arith, e, feed_at octet (next ∷ line) is)))
    (λ is. (let rest : suc (feed (next ∷ line)) ≡ length (next ∷ line) = omega (arith, e, feed_later octet (next ∷ line) is) in
    let at : length (octet ∷ next ∷ line) - 1 ≡ suc (length (next ∷ line) - 1) = omega arith in
    ap (λ k. option_map_or (λ octet. octet == 10) (slice_get (octet ∷ next ∷ line) k) false) at ∙ has_end (next ∷ line) rest))

pub has_no_end : (line : List ℕ) → feed line ≡ length line → ends_line line ≡ false
has_no_end [] e = refl
has_no_end (octet ∷ []) e = by_test (octet == 10)
    (λ is. absurd (omega (arith, e, feed_at octet [] is)))
    (λ is. is)
has_no_end (octet ∷ next ∷ line) e = by_test (octet == 10)
    (λ is. absurd (omega (arith, e, feed_at octet (next ∷ line) is)))
    (λ is. (let rest : feed (next ∷ line) ≡ length (next ∷ line) = omega (arith, e, feed_later octet (next ∷ line) is) in
    let at : length (octet ∷ next ∷ line) - 1 ≡ suc (length (next ∷ line) - 1) = omega arith in
    ap (λ k. option_map_or (λ octet. octet == 10) (slice_get (octet ∷ next ∷ line) k) false) at ∙ has_no_end (next ∷ line) rest))

-- *The first line of what was seen* has its end, and others may follow; or it is all, where no others may come
pub data IsFirst (whole : Bool) (seen line : List ℕ) : Type 0 where
  with_end : (others : List ℕ) → seen ≡ line ++ others → suc (feed line) ≡ length line → IsFirst whole seen line
  all_of_it : whole ≡ true → line ≡ seen → feed seen ≡ length seen → IsFirst whole seen line

taken_feed : (seen : List ℕ) → feed seen < length seen → suc (feed (take (suc (feed seen)) seen)) ≡ length (take (suc (feed seen)) seen)
taken_feed [] low = absurd (omega (arith, low))
taken_feed (octet ∷ seen) low = by_test (octet == 10)
    (λ is. (let none : feed (octet ∷ seen) ≡ 0 = feed_at octet seen is in
    subst (λ k. suc (feed (take (suc k) (octet ∷ seen))) ≡ length (take (suc k) (octet ∷ seen))) (sym none) (ap suc (feed_at octet [] is))))
    (λ is. (let later : feed (octet ∷ seen) ≡ suc (feed seen) = feed_later octet seen is in
    let rest : suc (feed (take (suc (feed seen)) seen)) ≡ length (take (suc (feed seen)) seen) = taken_feed seen (omega (arith, low, later)) in
    subst (λ k. suc (feed (take (suc k) (octet ∷ seen))) ≡ length (take (suc k) (octet ∷ seen))) (sym later)
    (ap suc (feed_later octet (take (suc (feed seen)) seen) is ∙ rest))))

pub first_is : (whole : Bool) (seen line : List ℕ) → first_line whole seen ≡ Some line → IsFirst whole seen line
first_is whole seen line e = by_test (nat_lt (feed seen) (length seen))
    (λ is. (let low : feed seen < length seen = grind (arith, nat_tests, is) in
    let up : suc (feed seen) ≡ feed seen + 1 = omega arith in
    let got : Some (take (feed seen + 1) seen) ≡ Some line = subst (λ (b : Bool). (if b || whole then Some (take (feed seen + 1) seen) else None) ≡ Some line) is e in
    let same : take (suc (feed seen)) seen ≡ line = ap (λ k. take k seen) up ∙ cc in
    with_end (drop (suc (feed seen)) seen) (sym (take-append-drop (suc (feed seen)) seen) ∙ ap (λ xs. xs ++ drop (suc (feed seen)) seen) same)
    (subst (λ xs. suc (feed xs) ≡ length xs) same (taken_feed seen low))))
    (λ is. (let high : feed seen ≡ length seen = (let low = feed_low seen in grind (arith, nat_tests, is, low)) in
    by_whole whole refl (subst (λ (b : Bool). (if b || whole then Some (take (feed seen + 1) seen) else None) ≡ Some line) is e) high))
  where
    by_whole : (b : Bool) → whole ≡ b → (if b then Some (take (feed seen + 1) seen) else None) ≡ Some line → feed seen ≡ length seen → IsFirst whole seen line
    by_whole true w h high = (let same : take (feed seen + 1) seen ≡ line = cc in
        all_of_it w (sym same ∙ take_all (feed seen + 1) seen (omega (arith, high))) high)
    by_whole false w h high = absurd (cc h)

-- none is there
pub no_first : (whole : Bool) (seen : List ℕ) → first_line whole seen ≡ None → feed seen ≡ length seen
no_first whole seen e = by_test (nat_lt (feed seen) (length seen))
    (λ is. (let got : Some (take (feed seen + 1) seen) ≡ None = subst (λ (b : Bool). (if b || whole then Some (take (feed seen + 1) seen) else None) ≡ None) is e in absurd (cc got)))
    (λ is. (let low = feed_low seen in grind (arith, nat_tests, is, low)))

-- *The answer* to a first line
pub record Answers (given : ℕ) (whole : Bool) (seen : List ℕ) (answer : Answer) : Type 0 where
  pub line : List ℕ
  pub first : IsFirst whole seen line
  pub answered : answer_to given line ≡ answer

pub answer_is : (given : ℕ) (is_ended : Bool) (seen : List ℕ) (answer : Answer) → answer_in given is_ended seen ≡ Some answer → Answers given (is_all given is_ended seen) seen answer
answer_is given is_ended seen answer e = by (first_line (is_all given is_ended seen) seen) refl e
  where
    by : (o : Option (List ℕ)) → first_line (is_all given is_ended seen) seen ≡ o → option_map (answer_to given) o ≡ Some answer → Answers given (is_all given is_ended seen) seen answer
    by None at h = absurd (cc h)
    by (Some line) at h = (let same : answer_to given line ≡ answer = cc in record { line = line; first = first_is (is_all given is_ended seen) seen line at; answered = same })

-- where no octet may come, there is an answer
pub answer_at_end : (given : ℕ) (is_ended : Bool) (seen : List ℕ) → is_ended ≡ true → (answer : Answer) × (answer_in given is_ended seen ≡ Some answer)
answer_at_end given false seen e = absurd (cc e)
answer_at_end given true seen e = (
  answer_to given (take (feed seen + 1) seen),
  by_test (nat_lt (feed seen) (length seen))
      (λ is. ap (λ (b : Bool). option_map (answer_to given) (if b || true then Some (take (feed seen + 1) seen) else None)) is)
      (λ is. ap (λ (b : Bool). option_map (answer_to given) (if b || true then Some (take (feed seen + 1) seen) else None)) is),
)

pub no_answer : (given : ℕ) (is_ended : Bool) (seen : List ℕ) → answer_in given is_ended seen ≡ None → feed seen ≡ length seen
no_answer given is_ended seen e = by (first_line (is_all given is_ended seen) seen) refl e
  where
    by : (o : Option (List ℕ)) → first_line (is_all given is_ended seen) seen ≡ o → option_map (answer_to given) o ≡ None → feed seen ≡ length seen
    by None at h = no_first (is_all given is_ended seen) seen at
    by (Some line) at h = absurd (cc h)

-- what each answer says of the line
pub record IsGiven (given : ℕ) (line : List ℕ) : Type 0 where
  pub some : 0 < length line
  pub short : length (line_text line) ≤ line_limit
  pub low : given + length line < input_limit

abbrev pub given_line : (given : ℕ) (line : List ℕ) → Answer → Type 0
given_line given line (Given other) = (line ≡ other) × IsGiven given line
given_line given line Long = (given + length line < input_limit) × (line_limit < length (line_text line))
given_line given line Past = input_limit ≤ given + length line
given_line given line Over = length line ≡ 0

pub answer_says : (given : ℕ) (line : List ℕ) (answer : Answer) → answer_to given line ≡ answer → given_line given line answer
answer_says given line answer e = subst (given_line given line) e says
  where
    says : given_line given line (answer_to given line)
    says = by_test (length line == 0)
        (λ is. subst (λ (b : Bool). given_line given line (if b then Over else if nat_le input_limit (given + length line) then Past else if nat_lt line_limit (length (line_text line)) then Long else Given line)) (sym is) (grind (arith, nat_tests, is)))
        (λ is. subst (λ (b : Bool). given_line given line (if b then Over else if nat_le input_limit (given + length line) then Past else if nat_lt line_limit (length (line_text line)) then Long else Given line)) (sym is)
        (by_test (nat_le input_limit (given + length line))
        (λ past. subst (λ (b : Bool). given_line given line (if b then Past else if nat_lt line_limit (length (line_text line)) then Long else Given line)) (sym past) (grind (arith, nat_tests, past)))
        (λ past. subst (λ (b : Bool). given_line given line (if b then Past else if nat_lt line_limit (length (line_text line)) then Long else Given line)) (sym past)
        (by_test (nat_lt line_limit (length (line_text line)))
        (λ long. subst (λ (b : Bool). given_line given line (if b then Long else Given line)) (sym long) (grind (arith, nat_tests, past), grind (arith, nat_tests, long)))
        (λ long. subst (λ (b : Bool). given_line given line (if b then Long else Given line)) (sym long) (refl, record { some = grind (arith, nat_tests, is); short = grind (arith, nat_tests, long); low = grind (arith, nat_tests, past) }))))))
