-- A line that is too long, read on to its end

use Rattle.std.proofs.Common.{◌≡◌, ℕ, ◌+◌, ◌<◌, ◌≤◌, List, [], ◌++◌, true, false, length, take, Option, refl, arith, length-append, length-take-le, append-nil}
use Rattle.std.specs.Io.KnownBytes.{Consumes, Keeps}
use Rattle.lab_io.specs.Lines.{Reader, Answer, Long, Past, answer_to, feed}
use Rattle.lab_io.specs.Reading.{IsCutOff, IsKept, IsNext, Saw}
use Rattle.lab_io.proofs.Feeds.{answer-long, answer-past, answered-found, answered-none, answered-whole, feed-append, is_all-open, is_all-past, line-open}
use Rattle.lab_io.proofs.Sights.{saw_after, saw_more, saw_none}

-- the octets of a line that were seen so far: they have no LF, and are too many
pub record Skipped (held : List ℕ) (given : ℕ) (left_old left_new : Option (List ℕ)) (read : ℕ) : Type 0 where
  pub seen : List ℕ
  pub saw : Saw held left_old left_new seen
  pub no_feed : feed seen ≡ length seen
  pub long : 4098 < length seen
  pub counted : given + length seen ≡ read

pub skipped_more : (held : List ℕ) (given : ℕ) (first second third : Option (List ℕ)) (read : ℕ) (octets : List ℕ)
    → Skipped held given first second read → Consumes second third octets → feed octets ≡ length octets
    → Skipped held given first third (read + length octets)
skipped_more held given first second third read octets skipped more none =
    record {
      seen = skipped.seen ++ octets;
      saw = saw_more held first second third skipped.seen octets skipped.saw more;
      no_feed = omega (arith, feed-append skipped.seen octets skipped.no_feed, length-append {A = ℕ});
      long = omega (arith, skipped.long, length-append {A = ℕ});
      counted = omega (arith, skipped.counted, length-append {A = ℕ});
    }

-- the source came to its end
pub skip_ended : (old new : Reader) (first second third : Option (List ℕ)) (read : ℕ) (octets : List ℕ)
    → Skipped old.held old.given first second read → read < 16777217 → Consumes second third octets → octets ≡ [] → new.is_ended ≡ true
    → IsNext old new first third Long
skip_ended old new first second third read octets skipped early more none ended =
    record {
      seen = skipped.seen;
      saw = rw (none, append-nil) at (saw_more old.held first second third skipped.seen octets skipped.saw more);
      answered = answered-whole old.given new.is_ended skipped.seen Long skipped.no_feed (rw ended refl)
          (answer-long old.given skipped.seen skipped.long (omega (arith, skipped.counted)));
      kept = tt;
    }

-- an LF was read, whether the line reaches past the greatest input or not
found_in : (old new : Reader) (first second third : Option (List ℕ)) (read place : ℕ) (octets : List ℕ) (answer : Answer)
    → Skipped old.held old.given first second read → Consumes second third octets → place ≡ feed octets → place < length octets
    → ((line : List ℕ) → 4098 < length line → old.given + length line ≡ read + place + 1 → answer_to old.given line ≡ answer)
    → ((seen : List ℕ) → IsKept old.given new seen answer) → IsNext old new first third answer
found_in old new first second third read place octets answer skipped more at within is kept =
    let behind : feed (skipped.seen ++ octets) ≡ length skipped.seen + feed octets = feed-append skipped.seen octets skipped.no_feed in
    let found : feed (skipped.seen ++ octets) < length (skipped.seen ++ octets) = omega (arith, length-append {A = ℕ}) in
    let size : length (take (feed (skipped.seen ++ octets) + 1) (skipped.seen ++ octets)) ≡ feed (skipped.seen ++ octets) + 1 =
    length-take-le (feed (skipped.seen ++ octets) + 1) (skipped.seen ++ octets) (omega arith) in
    record {
      seen = skipped.seen ++ octets;
      saw = saw_more old.held first second third skipped.seen octets skipped.saw more;
      answered = answered-found old.given new.is_ended (skipped.seen ++ octets) answer found
          (is (take (feed (skipped.seen ++ octets) + 1) (skipped.seen ++ octets)) (omega (arith, skipped.long)) (omega (arith, skipped.counted)));
      kept = kept (skipped.seen ++ octets);
    }

pub skip_found : (old new : Reader) (first second third : Option (List ℕ)) (read place : ℕ) (octets : List ℕ)
    → Skipped old.held old.given first second read → Consumes second third octets → place ≡ feed octets → place < length octets
    → read + place + 1 < 16777217 → IsNext old new first third Long
skip_found old new first second third read place octets skipped more at within early =
    found_in old new first second third read place octets Long skipped more at within
    (λ line long counted. answer-long old.given line long (omega arith)) (λ seen. tt)

pub skip_found_past : (old new : Reader) (first second third : Option (List ℕ)) (read place : ℕ) (octets : List ℕ)
    → Skipped old.held old.given first second read → Consumes second third octets → place ≡ feed octets → place < length octets
    → 16777217 ≤ read + place + 1 → IsNext old new first third Past
skip_found_past old new first second third read place octets skipped more at within late =
    found_in old new first second third read place octets Past skipped more at within
    (λ line long counted. answer-past old.given line (omega arith) (omega arith)) (λ seen. tt)

-- all that may be read was read
pub skip_past : (old new : Reader) (first second : Option (List ℕ)) (read : ℕ)
    → Skipped old.held old.given first second read → 16777217 ≤ read → IsNext old new first second Past
skip_past old new first second read skipped late =
    record {
      seen = skipped.seen;
      saw = skipped.saw;
      answered = answered-whole old.given new.is_ended skipped.seen Past skipped.no_feed
          (is_all-past old.given new.is_ended skipped.seen (omega (arith, skipped.counted)))
          (answer-past old.given skipped.seen (omega (arith, skipped.long)) (omega (arith, skipped.counted)));
      kept = tt;
    }

pub skip_failed : (old : Reader) (first second third : Option (List ℕ)) (read : ℕ) → Skipped old.held old.given first second read
    → read < 16777217 → old.is_ended ≡ false → Keeps second third → IsCutOff old first third
skip_failed old first second third read skipped early ended kept =
    record {
      seen = skipped.seen;
      saw = saw_after old.held skipped.seen first second third skipped.seen skipped.saw (saw_none skipped.seen second third skipped.seen refl kept);
      unanswered = answered-none old.given old.is_ended skipped.seen
          (line-open skipped.seen _ skipped.no_feed (is_all-open old.given old.is_ended skipped.seen ended (omega (arith, skipped.counted))));
    }
