-- a word is found in a table of the keywords of its length as it is among all keywords

use Rattle.std.proofs.Common.{◌≡◌, ◌∙◌, ℕ, ◌==◌, Bool, true, false, List, [], ◌∷◌, Bor, length, map, filter, find, bytes_eq, Option, Some, option_map, refl, sym, ap}
use Rattle.std.specs.Prelude.{if◌then◌else◌}
use Rattle.std.proofs.lemmas.Bool.Decides.{Decides-eqb}
use Rattle.std.proofs.lemmas.Slice.Eq.{bytes_eq-Decides}
use Rattle.script_model.specs.declared.keyword.Keyword.{Keyword}
use Rattle.script_model.specs.Names.{keyword_text, keywords, keyword_of}
use Rattle.script_words.specs.Keywords.{of_length}

-- the first keyword that the word is
abbrev found_among : (word : List ℕ) → List Keyword → Option Keyword
found_among word among = find (λ keyword. bytes_eq word (keyword_text keyword)) among

-- the keywords that are as long as the word
abbrev alike_among : (word : List ℕ) → List Keyword → List Keyword
alike_among word among = filter (λ keyword. length word == length (keyword_text keyword)) among

-- a text of another length is another text
other_length : (word text : List ℕ) → (length word == length text) ≡ false → bytes_eq word text ≡ false
other_length word text differ = by (bytes_eq word text) refl
  where
    by : (same : Bool) → bytes_eq word text ≡ same → same ≡ false
    by true same =
        let long = (Decides-eqb (length word) (length text)).1 (ap length ((bytes_eq-Decides word text).0 same)) in
        absurd (cc)
    by false same = refl

-- keywords of another length can be left out
of_its_length : (word : List ℕ) (among : List Keyword) → found_among word (alike_among word among) ≡ found_among word among
of_its_length word [] = refl
of_its_length word (keyword ∷ among) = by (length word == length (keyword_text keyword)) refl (of_its_length word among)
  where
    by : (alike : Bool) → (length word == length (keyword_text keyword)) ≡ alike
        → found_among word (alike_among word among) ≡ found_among word among
        → found_among word (alike_among word (keyword ∷ among)) ≡ found_among word (keyword ∷ among)
    by true alike others = rw alike (ap (λ found. if bytes_eq word (keyword_text keyword) then Some keyword else found) others)
    by false alike others = rw (alike, other_length word (keyword_text keyword) alike) others

-- an entry is found by its text as its keyword is by the keyword's
found_entry : (word : List ℕ) (table : List (Bor (List ℕ) × Keyword)) → map (λ entry. entry.0.now) table ≡ map (λ entry. keyword_text entry.1) table
    → option_map (λ entry. entry.1) (find (λ entry. bytes_eq word entry.0.now) table) ≡ found_among word (map (λ entry. entry.1) table)
found_entry word [] texts = refl
found_entry word (entry ∷ table) texts = by (bytes_eq word entry.0.now) refl (cc) (found_entry word table (cc))
  where
    by : (same : Bool) → bytes_eq word entry.0.now ≡ same → bytes_eq word entry.0.now ≡ bytes_eq word (keyword_text entry.1)
        → option_map (λ entry. entry.1) (find (λ entry. bytes_eq word entry.0.now) table) ≡ found_among word (map (λ entry. entry.1) table)
        → option_map (λ entry. entry.1) (find (λ entry. bytes_eq word entry.0.now) (entry ∷ table)) ≡ found_among word (map (λ entry. entry.1) (entry ∷ table))
    by true same alike others = rw (same, sym alike ∙ same) refl
    by false same alike others = rw (same, sym alike ∙ same) others

-- a table of all keywords of the word's length says of the word what `keyword_of` does
pub found_in_table : (word : List ℕ) (table : List (Bor (List ℕ) × Keyword)) → map (λ entry. entry.0.now) table ≡ map (λ entry. keyword_text entry.1) table
    → map (λ entry. entry.1) table ≡ of_length (length word)
    → option_map (λ entry. entry.1) (find (λ entry. bytes_eq word entry.0.now) table) ≡ keyword_of word
found_in_table word table texts whole = found_entry word table texts ∙ ap (found_among word) whole ∙ of_its_length word keywords
