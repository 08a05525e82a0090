-- the script of an input whose first lines were taken

use Rattle.std.proofs.Common.{◌≡◌, ◌⊎◌, inl, inr, ℕ, zero, suc, ◌+◌, ◌-◌, ◌<◌, ◌≤◌, ◌==◌, Bool, true, false, List, [], ◌∷◌, ◌++◌, append_assoc, append-nil, length, take, Option, None, Some, Err, refl, sym, ◌∙◌, ap, subst, arith, if◌then◌else◌}
use Rattle.std.specs.Prelude.{nat_lt, nat_le}
use Rattle.std.specs.Option.{option_and_then}
use Rattle.std.proofs.lemmas.Bool.Decides.{nat_tests}
use Rattle.std.proofs.Math.Seq.{take-append-add}
use Rattle.std.proofs.lemmas.List.{length-take-le, take-append-le, take_all}
use Rattle.lab_io.specs.Lines.{feed}
use Rattle.lab_text.specs.declared.line.LineFault.{LineFault}
use Rattle.lab_text.specs.declared.line.LineFault.TheVariants as fault
use Rattle.lab_text.specs.Line.{holds_octet, input_limit, line_fault, line_limit, text_fault}
use Rattle.lab_text.specs.Lines.{begun_with, lines_of}
use Rattle.lab_text.specs.Words.{is_script_octet, line_text}
use Rattle.lab_text.proofs.LineLemmas.{only_line}
use Rattle.script_model.specs.declared.refusal.LineRefusal.{LineRefusal}
use Rattle.script_model.specs.declared.refusal.LineRefusal.TheVariants.{LineTooLong, ScriptTooLong}
use Rattle.script_model.specs.Reading.{fault_name, line_says, says_by, text_says}
use Rattle.script_model.specs.Script.{Script, script_from, script_of}
use Rattle.script_model.specs.State.{ScriptState, nothing_read}
use Rattle.network_run.specs.telling_model.Placed.{Placed, placed_from, placed_of}
use Rattle.script_replay.proofs.InputLines.{IsFirst, all_of_it, by_test, feed_at, feed_later, front_line, lines_at, lines_later, with_end}

-- *A script, and the events of its lines*: of some lines, and of the octets of an input
abbrev pub Read : Type 0
Read = Script × List Placed

abbrev pub read_in : List (List ℕ) → Read
read_in lines = (script_from line_says nothing_read lines, placed_from line_says nothing_read lines)

abbrev pub read_of : List ℕ → Read
read_of octets = (script_of octets, placed_of octets)

read_is : (octets : List ℕ) → read_of octets ≡ read_in (lines_of (take input_limit octets))
unfolding script_of placed_of
read_is octets = refl

take_front : (given rest : List ℕ) (n : ℕ) → length given ≤ n → take n (given ++ rest) ≡ given ++ take (n - length given) rest
take_front given rest n low =
    let all : n ≡ length given + (n - length given) = omega (arith, low) in
    ap (λ k. take k (given ++ rest)) all ∙ take-append-add given rest (n - length given)

-- a line that is cut short, before its end or with it
cut_line : (line : List ℕ) (n : ℕ) → length line ≤ suc (feed line) → 0 < n → n ≤ length line → lines_of (take n line) ≡ take n line ∷ []
cut_line [] n ahead some low = absurd (omega (arith, some, low))
cut_line line zero ahead some low = absurd (omega (arith, some))
cut_line (octet ∷ line) (suc zero) ahead some low = by_test (octet == 10)
    (λ is. lines_at octet [] is)
    (λ is. lines_later octet [] is)
cut_line (octet ∷ []) (suc (suc n)) ahead some low = absurd (omega (arith, low))
cut_line (octet ∷ next ∷ line) (suc (suc n)) ahead some low = by_test (octet == 10)
    (λ is. absurd (omega (arith, ahead, feed_at octet (next ∷ line) is)))
    (λ is. (let rest : length (next ∷ line) ≤ suc (feed (next ∷ line)) = omega (arith, ahead, feed_later octet (next ∷ line) is) in
    lines_later octet (take (suc n) (next ∷ line)) is ∙ ap (begun_with octet) (cut_line (next ∷ line) (suc n) rest (omega arith) (omega (arith, low)))))

module _ (given : List ℕ) (lines : List (List ℕ)) (low : length given < input_limit) (split : (others : List ℕ) → lines_of (given ++ others) ≡ lines ++ lines_of others) where
  pub room : ℕ
  room = input_limit - length given

  pub read_at : (rest : List ℕ) → read_of (given ++ rest) ≡ read_in (lines ++ lines_of (take (input_limit - length given) rest))
  read_at rest =
      read_is (given ++ rest)
      ∙ ap (λ xs. read_in (lines_of xs)) (take_front given rest input_limit (omega (arith, low))) ∙ ap read_in (split (take (input_limit - length given) rest))

  -- no line follows
  pub read_end : read_of given ≡ read_in lines
  read_end = ap read_of (sym (append-nil given)) ∙ read_at [] ∙ ap read_in (ap (λ xs. lines ++ lines_of xs) (none (input_limit - length given)) ∙ append-nil lines)
    where
      none : (n : ℕ) → take {A = ℕ} n [] ≡ []
      none zero = refl
      none (suc n) = refl

  -- one follows, with its end, and octets behind it
  pub read_next : (line others : List ℕ) → length given + length line < input_limit → ((more : List ℕ) → lines_of (line ++ more) ≡ line ∷ lines_of more)
      → read_of (given ++ (line ++ others)) ≡ read_in (lines ++ line ∷ lines_of (take (input_limit - length given - length line) others))
  read_next line others few shape =
      read_at (line ++ others)
      ∙ ap (λ xs. read_in (lines ++ lines_of xs)) (take_front line others (input_limit - length given) (omega (arith, few)))
      ∙ ap (λ ls. read_in (lines ++ ls)) (shape (take (input_limit - length given - length line) others))

  -- one without its end, and nothing behind it
  pub read_last : (line : List ℕ) → length given + length line < input_limit → lines_of line ≡ line ∷ [] → read_of (given ++ line) ≡ read_in (lines ++ line ∷ [])
  read_last line few shape =
      read_at line ∙ ap (λ xs. read_in (lines ++ lines_of xs)) (take_all (input_limit - length given) line (omega (arith, few))) ∙ ap (λ ls. read_in (lines ++ ls)) shape

-- *Lines that are refused for their length*
module _ (state : ScriptState) (line : List ℕ) where
  fault_says : (fault : LineFault) (name : LineRefusal) → line_fault state.octets line ≡ Some fault → fault_name fault ≡ Some name → line_says state line ≡ Err name
  fault_says fault name e named = ap (λ (o : Option LineFault). says_by (option_and_then fault_name o) (text_says state (line_text line))) e ∙ ap (λ (o : Option LineRefusal). says_by o (text_says state (line_text line))) named

  pub says_past : state.octets < input_limit → input_limit ≤ state.octets + length line → line_says state line ≡ Err ScriptTooLong
  says_past below past = fault_says fault.ScriptTooLong ScriptTooLong
      (ap (λ (b : Bool). if b then Some fault.ScriptTooLong else text_fault (line_text line)) held) refl
    where
      held : holds_octet state.octets line input_limit ≡ true
      held = grind (arith, nat_tests, below, past)

  pub says_long : state.octets + length line < input_limit → line_limit < length (line_text line) → line_says state line ≡ Err LineTooLong
  says_long few long = fault_says fault.LineTooLong LineTooLong
      (ap (λ (b : Bool). if b then Some fault.ScriptTooLong else text_fault (line_text line)) not_held
      ∙ ap (λ (b : Bool). if b then Some fault.LineTooLong else (if Rattle.std.specs.Prelude.not (Rattle.std.specs.List.list_all is_script_octet (line_text line)) then Some fault.BadByte else None)) too_long) refl
    where
      not_held : holds_octet state.octets line input_limit ≡ false
      not_held = grind (arith, nat_tests, few)

      too_long : nat_lt line_limit (length (line_text line)) ≡ true
      too_long = grind (arith, nat_tests, long)

-- what octets may be left where all was seen
abbrev pub Fits : (given : ℕ) → (whole : Bool) → (seen others : List ℕ) → Type 0
Fits given whole seen others = whole ≡ true → (input_limit ≤ given + length seen) ⊎ (others ≡ [])

pub record Refuses (state : ScriptState) (room : ℕ) (whole : Bool) (seen : List ℕ) (name : LineRefusal) : Type 0 where
  pub line : List ℕ
  pub says : line_says state line ≡ Err name
  pub at : (others : List ℕ) → Fits state.octets whole seen others → (rest : List (List ℕ)) × (lines_of (take room (seen ++ others)) ≡ line ∷ rest)

no_text : line_limit < length (line_text []) → ⊥
no_text h = omega (arith, h)

pub long_refused : (state : ScriptState) (whole : Bool) (seen line : List ℕ) → IsFirst whole seen line → state.octets + length line < input_limit → line_limit < length (line_text line)
    → Refuses state (input_limit - state.octets) whole seen LineTooLong
long_refused state whole seen line (with_end tail e f) few long = record {
  line = line;
  says = says_long state line few long;
  at = λ others fits. (
    lines_of (take (input_limit - state.octets - length line) (tail ++ others)),
    ap (λ xs. lines_of (take (input_limit - state.octets) (xs ++ others))) e
        ∙ ap (λ xs. lines_of (take (input_limit - state.octets) xs)) (append_assoc line tail others)
        ∙ ap lines_of (take_front line (tail ++ others) (input_limit - state.octets) (omega (arith, few)))
        ∙ front_line line (take (input_limit - state.octets - length line) (tail ++ others)) f,
  );
}
long_refused state whole seen line (all_of_it w same f) few long = record {
  line = line;
  says = says_long state line few long;
  at = λ others fits. ([], only others (fits w));
}
  where
    some : (xs : List ℕ) → line_limit < length (line_text xs) → 0 < length xs
    some [] h = absurd (no_text h)
    some (x ∷ xs) h = omega arith

    only : (others : List ℕ) → (input_limit ≤ state.octets + length seen) ⊎ (others ≡ []) → lines_of (take (input_limit - state.octets) (seen ++ others)) ≡ line ∷ []
    only others (inl past) = (let size : length line ≡ length seen = ap length same in absurd (omega (arith, past, few, size)))
    only others (inr none) =
        let size : length line ≡ length seen = ap length same in
        ap (λ xs. lines_of (take (input_limit - state.octets) (seen ++ xs))) none
        ∙ ap (λ xs. lines_of (take (input_limit - state.octets) xs)) (append-nil seen ∙ sym same)
        ∙ ap lines_of (take_all (input_limit - state.octets) line (omega (arith, few)))
        ∙ only_line line (some line long) (let high : feed line ≡ length line = subst (λ xs. feed xs ≡ length xs) (sym same) f in omega (arith, high))

pub past_refused : (state : ScriptState) (whole : Bool) (seen line : List ℕ) → IsFirst whole seen line → state.octets < input_limit → input_limit ≤ state.octets + length line
    → Refuses state (input_limit - state.octets) whole seen ScriptTooLong
past_refused state whole seen line first below past = record {
  line = take (input_limit - state.octets) line;
  says = says_past state (take (input_limit - state.octets) line) below (omega (arith, length-take-le (input_limit - state.octets) line (omega (arith, past)), below));
  at = λ others fits. ([], at first others);
}
  where
    within : input_limit - state.octets ≤ length line
    within = omega (arith, past)

    at : IsFirst whole seen line → (others : List ℕ) → lines_of (take (input_limit - state.octets) (seen ++ others)) ≡ take (input_limit - state.octets) line ∷ []
    at (with_end tail e f) others =
        ap (λ xs. lines_of (take (input_limit - state.octets) (xs ++ others))) e
        ∙ ap (λ xs. lines_of (take (input_limit - state.octets) xs)) (append_assoc line tail others)
        ∙ ap lines_of (take-append-le (input_limit - state.octets) line (tail ++ others) within)
        ∙ cut_line line (input_limit - state.octets) (omega (arith, f)) (omega (arith, below)) within
    at (all_of_it w same f) others =
        ap (λ xs. lines_of (take (input_limit - state.octets) (xs ++ others))) (sym same)
        ∙ ap lines_of (take-append-le (input_limit - state.octets) line others within)
        ∙ cut_line line (input_limit - state.octets) (let high : feed line ≡ length line = subst (λ xs. feed xs ≡ length xs) (sym same) f in omega (arith, high)) (omega (arith, below)) within
