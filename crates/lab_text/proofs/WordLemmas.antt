-- the first word of a text and the words behind it
use Rattle.std.proofs.Common.{◌≡◌, ℕ, suc, ◌+◌, ◌<◌, ◌∙◌, Bool, true, false, List, [], ◌∷◌, length, take, drop, refl, sym, ap, arith, filter, nat_lt, length-take}
use Rattle.std.proofs.lemmas.Bool.Decides.{nat_tests}
use Rattle.std.proofs.lemmas.List.{nil_from_length}
use Rattle.std.specs.List.{slice_split, onto_first, prefix_len, position_or_len}
use Rattle.lab_text.specs.Words.{is_blank, words}

-- blanks in front of a text are no part of its words
pub words-blanks : (xs : List ℕ) → words (drop (prefix_len is_blank xs) xs) ≡ words xs
words-blanks [] = refl
words-blanks (c ∷ cs) = by (is_blank c) refl (words-blanks cs)
  where
    by : (blank : Bool) → is_blank c ≡ blank → words (drop (prefix_len is_blank cs) cs) ≡ words cs
        → words (drop (prefix_len is_blank (c ∷ cs)) (c ∷ cs)) ≡ words (c ∷ cs)
    by true e rest =
        let one : 1 + prefix_len is_blank cs ≡ suc (prefix_len is_blank cs) = omega arith in
        rw (e, one) rest
    by false e rest = rw (e, e) refl

-- past those blanks no blank comes first
pub blanks-blanks : (xs : List ℕ) → prefix_len is_blank (drop (prefix_len is_blank xs) xs) ≡ 0
blanks-blanks [] = refl
blanks-blanks (c ∷ cs) = by (is_blank c) refl (blanks-blanks cs)
  where
    by : (blank : Bool) → is_blank c ≡ blank → prefix_len is_blank (drop (prefix_len is_blank cs) cs) ≡ 0
        → prefix_len is_blank (drop (prefix_len is_blank (c ∷ cs)) (c ∷ cs)) ≡ 0
    by true e rest =
        let one : 1 + prefix_len is_blank cs ≡ suc (prefix_len is_blank cs) = omega arith in
        rw (e, one) rest
    by false e rest = rw (e, e) refl

-- the parts of a text: what stands before its first blank, and others, of which those that aren't
-- empty are the words from that blank on
record SplitsAtBlank (xs : List ℕ) : Type 0 where
  others : List (List ℕ)
  parts : slice_split is_blank xs ≡ take (position_or_len is_blank xs) xs ∷ others
  words_behind : words (drop (position_or_len is_blank xs) xs) ≡ filter (λ part. nat_lt 0 (length part)) others

splits_at_blank : (xs : List ℕ) → SplitsAtBlank xs
splits_at_blank [] = record { others = []; parts = refl; words_behind = refl }
splits_at_blank (c ∷ cs) = by (is_blank c) refl (splits_at_blank cs)
  where
    by : (blank : Bool) → is_blank c ≡ blank → SplitsAtBlank cs → SplitsAtBlank (c ∷ cs)
    by true e behind =
        record { others = slice_split is_blank cs; parts = rw e refl; words_behind = rw (e, e) refl }
    by false e behind =
        let one : 1 + position_or_len is_blank cs ≡ suc (position_or_len is_blank cs) = omega arith in
        record {
          others = behind.others;
          parts = rw (e, one) (ap (onto_first c) behind.parts);
          words_behind = rw (e, one) behind.words_behind;
        }

-- a part that isn't empty is a word
word-kept : (part : List ℕ) (others : List (List ℕ)) → 0 < length part
    → filter (λ p. nat_lt 0 (length p)) (part ∷ others) ≡ part ∷ filter (λ p. nat_lt 0 (length p)) others
word-kept part others some =
    let passes : nat_lt 0 (length part) ≡ true = grind (arith, nat_tests) in
    rw passes refl

-- a text that begins with a word: that word, and the words behind it
words-first : (xs : List ℕ) → 0 < length xs → prefix_len is_blank xs ≡ 0
    → words xs ≡ take (position_or_len is_blank xs) xs ∷ words (drop (position_or_len is_blank xs) xs)
words-first [] some none = absurd (omega arith)
words-first (c ∷ cs) some none = by (is_blank c) refl none (splits_at_blank (c ∷ cs))
  where
    by : (blank : Bool) → is_blank c ≡ blank → prefix_len is_blank (c ∷ cs) ≡ 0 → SplitsAtBlank (c ∷ cs)
        → words (c ∷ cs) ≡ take (position_or_len is_blank (c ∷ cs)) (c ∷ cs) ∷ words (drop (position_or_len is_blank (c ∷ cs)) (c ∷ cs))
    by true e blanks split =
        let some_blank : 1 + prefix_len is_blank cs ≡ 0 = rw e at blanks in
        absurd (omega arith)
    by false e blanks split =
        let word : 0 < length (take (position_or_len is_blank (c ∷ cs)) (c ∷ cs)) = rw (e, length-take) (omega arith) in
        ap (filter (λ part. nat_lt 0 (length part))) split.parts
        ∙ word-kept (take (position_or_len is_blank (c ∷ cs)) (c ∷ cs)) split.others word
        ∙ ap (λ ws. take (position_or_len is_blank (c ∷ cs)) (c ∷ cs) ∷ ws) (sym split.words_behind)

-- a text of blanks has no word
pub no_words : (xs text : List ℕ) (n : ℕ) → n ≡ prefix_len is_blank xs → text ≡ drop n xs → length text ≡ 0 → words xs ≡ []
no_words xs text n blanks behind none =
    let empty : drop (prefix_len is_blank xs) xs ≡ [] = nil_from_length _ (rw (← blanks, ← behind) none) in
    sym (words-blanks xs) ∙ ap words empty

-- the first word of a text whose blanks in front were cut off
pub first_word : (xs text : List ℕ) (n k : ℕ) → n ≡ prefix_len is_blank xs → text ≡ drop n xs
    → k ≡ position_or_len is_blank text → 0 < length text → words xs ≡ take k text ∷ words (drop k text)
first_word xs text n k blanks behind counted some =
    let cut : text ≡ drop (prefix_len is_blank xs) xs = behind ∙ ap (λ m. drop m xs) blanks in
    let none : prefix_len is_blank text ≡ 0 = rw cut (blanks-blanks xs) in
    sym (words-blanks xs) ∙ ap words (sym cut) ∙ rw counted (words-first text some none)
