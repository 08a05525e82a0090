-- The first LF of some octets, and the line that it ends

use Rattle.std.proofs.Common.{◌≡◌, ◌∙◌, ℕ, ◌+◌, ◌-◌, ◌<◌, ◌≤◌, ◌==◌, List, ◌++◌, Bool, true, false, not, length, take, drop, None, Some, refl, sym, ap, arith, nat_lt, nat_le, eq-eqb, length-take, length-take-le, length-drop}
use Rattle.std.specs.Prelude.{if◌then◌else◌, position, ◌||◌}
use Rattle.std.specs.Option.{option_map}
use Rattle.std.proofs.lemmas.Bool.Decides.{nat_tests}
use Rattle.std.proofs.lemmas.List.{take_all, take_rest, take-append-drop}
use Rattle.std.proofs.lemmas.List.Folds.{prefix_len-append}
use Rattle.std.proofs.lemmas.List.Sums.{prefix_len-le-length}
use Rattle.lab_text.specs.Words.{line_text}
use Rattle.lab_io.specs.Lines.{Reader, Answer, Long, Past, answer_in, answer_to, feed, first_line, is_all}

pub feed-le : (octets : List ℕ) → feed octets ≤ length octets
feed-le octets = prefix_len-le-length (λ octet. not (octet == 10)) octets

-- behind octets without an LF
pub feed-append : (octets others : List ℕ) → feed octets ≡ length octets → feed (octets ++ others) ≡ length octets + feed others
feed-append octets others none =
    rw (prefix_len-append (λ octet. not (octet == 10)) octets others, eq-eqb (feed octets) (length octets) none) refl

pub feed_from : (octets : List ℕ) (searched : ℕ) → searched ≤ length octets → feed (take searched octets) ≡ searched
    → feed octets ≡ searched + feed (drop searched octets)
feed_from octets searched within none =
    let counted : length (take searched octets) ≡ searched = length-take-le searched octets within in
    ap feed (sym (take-append-drop searched octets))
    ∙ feed-append (take searched octets) (drop searched octets) (none ∙ sym counted)
    ∙ ap (λ n. n + feed (drop searched octets)) counted

pub feed_found : (octets : List ℕ) (place : ℕ) → Some place ≡ position (λ octet. octet == 10) octets → place ≡ feed octets
feed_found octets place found = grind (arith, nat_tests)

pub feed_missing : (octets : List ℕ) → None ≡ position (λ octet. octet == 10) octets → feed octets ≡ length octets
feed_missing octets missing =
    let past : length octets ≤ feed octets = grind (arith, nat_tests) in
    omega (arith, feed-le octets)

pub line-found : (all : Bool) (seen : List ℕ) → feed seen < length seen → first_line all seen ≡ Some (take (feed seen + 1) seen)
line-found all seen found =
    let passes : nat_lt (feed seen) (length seen) ≡ true = grind (arith, nat_tests) in
    rw passes refl

pub line-all : (seen : List ℕ) → feed seen ≡ length seen → first_line true seen ≡ Some seen
line-all seen missing =
    let fails : nat_lt (feed seen) (length seen) ≡ false = grind (arith, nat_tests) in
    rw (fails, take_all (feed seen + 1) seen (omega arith)) refl

pub line-none : (seen : List ℕ) → feed seen ≡ length seen → first_line false seen ≡ None
line-none seen missing =
    let fails : nat_lt (feed seen) (length seen) ≡ false = grind (arith, nat_tests) in
    rw fails refl

-- an LF behind the octets that were searched ends the first line
pub line-found_behind : (held : List ℕ) (searched place : ℕ) (all : Bool) → searched ≤ length held → feed (take searched held) ≡ searched
    → Some place ≡ position (λ octet. octet == 10) (take (length held - searched) (drop searched held))
    → place < length (take (length held - searched) (drop searched held)) → Some (take (searched + place + 1) held) ≡ first_line all held
line-found_behind held searched place all within none found before =
    let here : place ≡ feed (drop searched held) = feed_found (drop searched held) place (rw take_rest at found) in
    let inside : place < length (drop searched held) = rw take_rest at before in
    let from : feed held ≡ searched + place = feed_from held searched within none ∙ ap (λ n. searched + n) (sym here) in
    let early : feed held < length held = omega (arith, length-drop {A = ℕ}) in
    sym (line-found all held early ∙ ap (λ n. Some (take (n + 1) held)) from)

-- no LF behind the octets that were searched
pub feed-missing_behind : (held : List ℕ) (searched : ℕ) → searched ≤ length held → feed (take searched held) ≡ searched
    → None ≡ position (λ octet. octet == 10) (take (length held - searched) (drop searched held)) → feed held ≡ length held
feed-missing_behind held searched within none missing =
    let behind : feed (drop searched held) ≡ length (drop searched held) = feed_missing (drop searched held) (rw take_rest at missing) in
    omega (arith, feed_from held searched within none, length-drop {A = ℕ})

pub line-whole : (held : List ℕ) (all : Bool) → feed held ≡ length held → all ≡ true → Some (take (length held) held) ≡ first_line all held
line-whole held all missing is = rw (is, take_all (length held) held (omega arith)) (sym (line-all held missing))

pub line-open : (held : List ℕ) (all : Bool) → feed held ≡ length held → all ≡ false → None ≡ first_line all held
line-open held all missing is = rw is (sym (line-none held missing))

-- a line's end has two octets at most
end_of_two : (crlf lf : Bool) (line : List ℕ)
    → length line ≤ length (if crlf then take (length line - 2) line else if lf then take (length line - 1) line else line) + 2
end_of_two true lf line = omega (arith, length-take {A = ℕ})
end_of_two false true line = omega (arith, length-take {A = ℕ})
end_of_two false false line = omega arith

line_text-length : (line : List ℕ) → length line ≤ length (line_text line) + 2
line_text-length line = end_of_two _ _ line

-- a line of more than 4,098 octets is too long, and any line may reach past the greatest input
pub answer-long : (given : ℕ) (line : List ℕ) → 4098 < length line → given + length line < 16777217 → answer_to given line ≡ Long
answer-long given line long early =
    let some : length line == 0 ≡ false = grind (arith, nat_tests) in
    let before : nat_le 16777217 (given + length line) ≡ false = grind (arith, nat_tests) in
    let over : 4096 < length (line_text line) = omega (arith, line_text-length line) in
    let is_long : nat_lt 4096 (length (line_text line)) ≡ true = grind (arith, nat_tests) in
    rw (some, before, is_long) refl

pub answer-past : (given : ℕ) (line : List ℕ) → 0 < length line → 16777217 ≤ given + length line → answer_to given line ≡ Past
answer-past given line some late =
    let is_some : length line == 0 ≡ false = grind (arith, nat_tests) in
    let past : nat_le 16777217 (given + length line) ≡ true = grind (arith, nat_tests) in
    rw (is_some, past) refl

-- a reader that has no answer: no LF was seen, and more octets may come
pub record IsOpen (reader : Reader) : Type 0 where
  pub no_feed : feed reader.held ≡ length reader.held
  pub unended : reader.is_ended ≡ false
  pub unanswered : answer_in reader.given reader.is_ended reader.held ≡ None

no_line : (all : Bool) (seen : List ℕ) → None ≡ first_line all seen → (feed seen ≡ length seen) × (all ≡ false)
no_line all seen none = by (nat_lt (feed seen) (length seen)) refl all none
  where
    by : (found : Bool) → nat_lt (feed seen) (length seen) ≡ found → (rest : Bool)
        → None ≡ (if found || rest then Some (take (feed seen + 1) seen) else None) → (feed seen ≡ length seen) × (rest ≡ false)
    by true e rest n = cc
    by false e true n = cc
    by false e false n =
        let past : length seen ≤ feed seen = grind (arith, nat_tests) in
        (omega (arith, feed-le seen), refl)

ended-open : (given : ℕ) (is_ended : Bool) (seen : List ℕ) → is_all given is_ended seen ≡ false → is_ended ≡ false
ended-open given true seen all = cc
ended-open given false seen all = refl

pub open_reader : (reader : Reader) → None ≡ first_line (is_all reader.given reader.is_ended reader.held) reader.held → IsOpen reader
open_reader reader none =
    let found = no_line (is_all reader.given reader.is_ended reader.held) reader.held none in
    record {
      no_feed = found.0;
      unended = ended-open reader.given reader.is_ended reader.held found.1;
      unanswered = ap (option_map (answer_to reader.given)) (sym none);
    }

pub still_open : (reader : Reader) (given : ℕ) (is_ended : Bool) (held : List ℕ) → IsOpen reader → reader.given ≡ given → is_ended ≡ false → held ≡ reader.held
    → answer_in given is_ended held ≡ None
still_open reader given is_ended held now given_is unended held_is =
    rw (held_is, unended, ← given_is) (rw now.unended at now.unanswered)

pub is_all-past : (given : ℕ) (is_ended : Bool) (seen : List ℕ) → 16777217 ≤ given + length seen → is_all given is_ended seen ≡ true
is_all-past given true seen late = refl
is_all-past given false seen late = grind (arith, nat_tests)

pub is_all-open : (given : ℕ) (is_ended : Bool) (seen : List ℕ) → is_ended ≡ false → given + length seen < 16777217 → is_all given is_ended seen ≡ false
is_all-open given is_ended seen is early =
    let before : nat_le 16777217 (given + length seen) ≡ false = grind (arith, nat_tests) in
    rw (is, before) refl

-- what a call answers, from the first line
pub answered-none : (given : ℕ) (is_ended : Bool) (seen : List ℕ) → None ≡ first_line (is_all given is_ended seen) seen → answer_in given is_ended seen ≡ None
answered-none given is_ended seen none = ap (option_map (answer_to given)) (sym none)

pub answered-whole : (given : ℕ) (is_ended : Bool) (seen : List ℕ) (answer : Answer) → feed seen ≡ length seen → is_all given is_ended seen ≡ true
    → answer_to given seen ≡ answer → answer_in given is_ended seen ≡ Some answer
answered-whole given is_ended seen answer none all is =
    ap (λ (b : Bool). option_map (answer_to given) (first_line b seen)) all
    ∙ ap (option_map (answer_to given)) (line-all seen none)
    ∙ ap (λ (a : Answer). Some a) is

pub answered-found : (given : ℕ) (is_ended : Bool) (seen : List ℕ) (answer : Answer) → feed seen < length seen
    → answer_to given (take (feed seen + 1) seen) ≡ answer → answer_in given is_ended seen ≡ Some answer
answered-found given is_ended seen answer found is =
    ap (option_map (answer_to given)) (line-found (is_all given is_ended seen) seen found) ∙ ap (λ (a : Answer). Some a) is
