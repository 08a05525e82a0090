-- The lines of an input, as a reader gives them one by one

use Rattle.std.specs.Prelude.{ℕ, ◌+◌, ◌≤◌, ◌==◌, ◌||◌, nat_lt, nat_le, Bool, List, length, take, drop, Option, None, Some, if◌then◌else◌}
use Rattle.std.specs.List.{position_or_len}
use Rattle.std.specs.Option.{option_map}
use Rattle.lab_text.specs.Words.{line_text}
use Rattle.lab_text.specs.Line.{input_limit, line_limit}
use Rattle.lab_io.specs.declared.line_reader.NextLine.{NextLine}
use Rattle.lab_io.specs.declared.line_reader.NextLine.TheVariants.{Line, LongLine, PastEnd, End}

-- what a reader is seen as: its buffer, the octets that it read and hasn't given, how many octets of
-- the input it has given, and whether the source came to its end
pub record Reader : Type 0 where
  pub buffer : List ℕ
  pub held : List ℕ
  pub given : ℕ
  pub is_ended : Bool

-- what becomes of a line: it is given, or it is too long, or it reaches past the greatest input; or
-- there is none
pub data Answer : Type 0 where
  Given : (line : List ℕ) → Answer
  Long : Answer
  Past : Answer
  Over : Answer

-- the place of the first LF, or the length
abbrev pub feed : List ℕ → ℕ
feed octets = position_or_len (λ octet. octet == 10) octets

-- the first line of an input of which these octets were seen: up to the first LF, or all of them
-- where no others may come
abbrev pub first_line : (whole : Bool) → (seen : List ℕ) → Option (List ℕ)
first_line whole seen =
    if nat_lt (feed seen) (length seen) || whole then Some (take (feed seen + 1) seen) else None

-- what becomes of a line that so many octets of the input stand before; its end isn't counted in its
-- length
abbrev pub answer_to : (given : ℕ) → (line : List ℕ) → Answer
answer_to given line =
    if length line == 0 then Over
    else if nat_le input_limit (given + length line) then Past
    else if nat_lt line_limit (length (line_text line)) then Long
    else Given line

-- no other octet may come behind those that were seen
abbrev pub is_all : (given : ℕ) → (is_ended : Bool) → (seen : List ℕ) → Bool
is_all given is_ended seen = is_ended || nat_le input_limit (given + length seen)

-- the answer of a call that has seen these octets; none where more have to be read
abbrev pub answer_in : (given : ℕ) → (is_ended : Bool) → (seen : List ℕ) → Option Answer
answer_in given is_ended seen = option_map (answer_to given) (first_line (is_all given is_ended seen) seen)

-- what an answer says of the buffer
abbrev pub told : (buffer : List ℕ) → NextLine → Answer
told buffer (Line place len) = Given (take len (drop place buffer))
told buffer LongLine = Long
told buffer PastEnd = Past
told buffer End = Over

-- a line that is given stands in the buffer
abbrev pub IsWithin : (buffer : List ℕ) → NextLine → Type 0
IsWithin buffer (Line place len) = place + len ≤ length buffer
IsWithin buffer LongLine = Unit {0}
IsWithin buffer PastEnd = Unit {0}
IsWithin buffer End = Unit {0}

-- a line that was given is held no longer
abbrev pub after_answer : Reader → Answer → Reader
after_answer reader (Given line) =
    record reader { held = drop (length line) reader.held; given = reader.given + length line }
after_answer reader _ = reader
