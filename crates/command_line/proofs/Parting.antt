-- the words that `clap` takes: a name, and at most one word behind it

use Rattle.std.proofs.Common.{◌≡◌, ◌∙◌, ◌||◌, Bool, true, false, List, [], ◌∷◌, Option, Some, None, codes, refl, sym, ap, ap₂, subst}
use Rattle.std.specs.Prelude.{bytes_eq}
use Rattle.std.specs.List.{list_any}
use Rattle.std.proofs.lemmas.Slice.Eq.{bytes_eq-Decides}
use Rattle.clap.specs.Kinds.{Kinds, or_else}
use Rattle.clap.specs.Walk.{Text, idle, first_of, nothing_held, subcommand_met}
use Rattle.clap.specs.Simple.{Shape, rows_at, subcommand_of}
use Rattle.clap.specs.Faults.{fault_of, level_fault}
use Rattle.clap.proofs.OnLiterals.{clap_on_literals}
use Rattle.command_line.specs.Grammar.{grammar_app}
use Rattle.command_line.specs.Reading.{asked, command_in, is_barred}
use Rattle.command_line.specs.declared.command.Command.{Command}
use Rattle.command_line.proofs.Plain.{is_dash, IsName, names, fault_of_named, subcommand_of_named, stray_fault_of}
use Rattle.command_line.proofs.Leaves.{bare_leaf, worded_leaf, bare_passes, bare_alone, bare_rows, worded_passes, worded_alone, worded_full, worded_rows, alone_rows}

-- a name, with the word behind it where it has one
abbrev pub spelled : (name : Text) → (word : Option Text) → List Text
spelled name None = name ∷ []
spelled name (Some word) = name ∷ word ∷ []

-- *The names of the grammar*
is_replay : IsName (codes "replay") (worded_leaf (codes "replay") false)
unfolding clap_on_literals
is_replay = record { met = refl; passes = refl; found = refl }

is_ideal : IsName (codes "ideal") (bare_leaf (codes "ideal"))
unfolding clap_on_literals
is_ideal = record { met = refl; passes = refl; found = refl }

is_rules : IsName (codes "rules") (bare_leaf (codes "rules"))
unfolding clap_on_literals
is_rules = record { met = refl; passes = refl; found = refl }

is_audit : IsName (codes "audit") (bare_leaf (codes "audit"))
unfolding clap_on_literals
is_audit = record { met = refl; passes = refl; found = refl }

is_console : IsName (codes "console") (bare_leaf (codes "console"))
unfolding clap_on_literals
is_console = record { met = refl; passes = refl; found = refl }

is_trace : IsName (codes "trace") (bare_leaf (codes "trace"))
unfolding clap_on_literals
is_trace = record { met = refl; passes = refl; found = refl }

is_show : IsName (codes "show") (bare_leaf (codes "show"))
unfolding clap_on_literals
is_show = record { met = refl; passes = refl; found = refl }

is_journal : IsName (codes "journal") (bare_leaf (codes "journal"))
unfolding clap_on_literals
is_journal = record { met = refl; passes = refl; found = refl }

is_capture : IsName (codes "capture") (bare_leaf (codes "capture"))
unfolding clap_on_literals
is_capture = record { met = refl; passes = refl; found = refl }

is_decode : IsName (codes "decode") (worded_leaf (codes "decode") true)
unfolding clap_on_literals
is_decode = record { met = refl; passes = refl; found = refl }

is_drill : IsName (codes "drill") (worded_leaf (codes "drill") true)
unfolding clap_on_literals
is_drill = record { met = refl; passes = refl; found = refl }

-- *What is taken* of words, and how it is read
pub record IsTaken (words : List Text) : Type 0 where
  pub name : Text
  pub word : Option Text
  pub words_are : words ≡ spelled name word
  pub read_as : command_in (subcommand_of grammar_app words) ≡ asked name word

or_false : (a b : Bool) → (a || b) ≡ false → (a ≡ false) × (b ≡ false)
or_false false b e = (refl, e)
or_false true b e = absurd (cc)

or_else-nil : (a b : Kinds) → or_else a b ≡ [] → a ≡ []
or_else-nil [] b e = refl
or_else-nil (k ∷ ks) b e = cc

level_is_free : (name : Text) (leaf : Shape) → IsName name leaf → (rest : List Text) → fault_of grammar_app (name ∷ rest) ≡ []
    → level_fault leaf [] nothing_held rest false [] ≡ []
level_is_free name leaf is rest free =
    or_else-nil (level_fault leaf [] nothing_held rest false []) [] (sym (fault_of_named name leaf is rest) ∙ free)

is_free_of : (name : Text) (leaf : Shape) → IsName name leaf → (rest : List Text)
    → level_fault leaf [] nothing_held rest false [] ≡ [] → fault_of grammar_app (name ∷ rest) ≡ []
is_free_of name leaf is rest free = fault_of_named name leaf is rest ∙ ap (λ (k : Kinds). or_else k []) free

is_read_as : (name : Text) (leaf : Shape) → IsName name leaf → leaf.name ≡ name → (rest : List Text) (word : Option Text)
    → first_of (codes "word") (rows_at leaf rest).1 ≡ word → command_in (subcommand_of grammar_app (name ∷ rest)) ≡ asked name word
is_read_as name leaf is same rest word rows =
    ap command_in (subcommand_of_named name leaf is rest) ∙ ap₂ asked same rows

-- *One name*
abbrev are_plain : List Text → Bool
are_plain words = list_any is_dash words

take_bare : (name : Text) → IsName name (bare_leaf name) → (rest : List Text) → are_plain rest ≡ false
    → fault_of grammar_app (name ∷ rest) ≡ [] → IsTaken (name ∷ rest)
take_bare name is [] plain free = record {
  name = name;
  word = None;
  words_are = refl;
  read_as = is_read_as name (bare_leaf name) is refl [] None (bare_rows name);
}
take_bare name is (word ∷ rest) plain free =
    absurd (bare_alone name word rest (or_false _ _ plain).0 (level_is_free name (bare_leaf name) is (word ∷ rest) free))

take_worded : (name : Text) (required : Bool) → IsName name (worded_leaf name required) → (rest : List Text)
    → are_plain rest ≡ false → fault_of grammar_app (name ∷ rest) ≡ [] → IsTaken (name ∷ rest)
take_worded name required is [] plain free = record {
  name = name;
  word = None;
  words_are = refl;
  read_as = is_read_as name (worded_leaf name required) is refl [] None (alone_rows name required);
}
take_worded name required is (word ∷ []) plain free = record {
  name = name;
  word = Some word;
  words_are = refl;
  read_as = is_read_as name (worded_leaf name required) is refl (word ∷ []) (Some word) (worded_rows name required word (or_false _ _ plain).0);
}
take_worded name required is (word ∷ next ∷ rest) plain free =
    let first = or_false (is_dash word) (are_plain (next ∷ rest)) plain in
    let second = or_false (is_dash next) (are_plain rest) first.1 in
    absurd (worded_full name required word next rest first.0 second.0 (level_is_free name (worded_leaf name required) is (word ∷ next ∷ rest) free))

-- *All words*
module _ (word : Text) (rest : List Text) (plain : are_plain (word ∷ rest) ≡ false) (free : fault_of grammar_app (word ∷ rest) ≡ []) where
  behind : are_plain rest ≡ false
  behind = (or_false (is_dash word) (are_plain rest) plain).1

  named : (name : Text) → bytes_eq name word ≡ true → (are_plain rest ≡ false → fault_of grammar_app (name ∷ rest) ≡ [] → IsTaken (name ∷ rest))
      → IsTaken (word ∷ rest)
  named name test take =
      let same : name ≡ word = (bytes_eq-Decides name word).0 test in
      subst (λ v. IsTaken (v ∷ rest)) same (take behind (ap (λ v. fault_of grammar_app (v ∷ rest)) same ∙ free))

  taken_by : (a b c d e f g h i j k : Bool) → bytes_eq (codes "replay") word ≡ a → bytes_eq (codes "ideal") word ≡ b
      → bytes_eq (codes "decode") word ≡ c → bytes_eq (codes "drill") word ≡ d → bytes_eq (codes "rules") word ≡ e
      → bytes_eq (codes "audit") word ≡ f → bytes_eq (codes "console") word ≡ g → bytes_eq (codes "trace") word ≡ h
      → bytes_eq (codes "show") word ≡ i → bytes_eq (codes "journal") word ≡ j → bytes_eq (codes "capture") word ≡ k → IsTaken (word ∷ rest)
  taken_by true b c d e f g h i j k replay ideal decode drill rules audit console trace show journal capture = named (codes "replay") replay (take_worded (codes "replay") false is_replay rest)
  taken_by false true c d e f g h i j k replay ideal decode drill rules audit console trace show journal capture = named (codes "ideal") ideal (take_bare (codes "ideal") is_ideal rest)
  taken_by false false true d e f g h i j k replay ideal decode drill rules audit console trace show journal capture = named (codes "decode") decode (take_worded (codes "decode") true is_decode rest)
  taken_by false false false true e f g h i j k replay ideal decode drill rules audit console trace show journal capture = named (codes "drill") drill (take_worded (codes "drill") true is_drill rest)
  taken_by false false false false true f g h i j k replay ideal decode drill rules audit console trace show journal capture = named (codes "rules") rules (take_bare (codes "rules") is_rules rest)
  taken_by false false false false false true g h i j k replay ideal decode drill rules audit console trace show journal capture = named (codes "audit") audit (take_bare (codes "audit") is_audit rest)
  taken_by false false false false false false true h i j k replay ideal decode drill rules audit console trace show journal capture = named (codes "console") console (take_bare (codes "console") is_console rest)
  taken_by false false false false false false false true i j k replay ideal decode drill rules audit console trace show journal capture = named (codes "trace") trace (take_bare (codes "trace") is_trace rest)
  taken_by false false false false false false false false true j k replay ideal decode drill rules audit console trace show journal capture = named (codes "show") show (take_bare (codes "show") is_show rest)
  taken_by false false false false false false false false false true k replay ideal decode drill rules audit console trace show journal capture = named (codes "journal") journal (take_bare (codes "journal") is_journal rest)
  taken_by false false false false false false false false false false true replay ideal decode drill rules audit console trace show journal capture = named (codes "capture") capture (take_bare (codes "capture") is_capture rest)
  taken_by false false false false false false false false false false false replay ideal decode drill rules audit console trace show journal capture =
      let none : subcommand_met names idle word ≡ None = rw (replay, ideal, decode, drill, rules, audit, console, trace, show, journal, capture) refl in
      absurd (stray_fault_of word rest (or_false (is_dash word) (are_plain rest) plain).0 none free)

nothing_fails : fault_of grammar_app [] ≡ [] → ⊥
unfolding clap_on_literals
nothing_fails e = cc

taken : (words : List Text) → are_plain words ≡ false → fault_of grammar_app words ≡ [] → IsTaken words
taken [] plain free = absurd (nothing_fails free)
taken (word ∷ rest) plain free = taken_by word rest plain free _ _ _ _ _ _ _ _ _ _ _ refl refl refl refl refl refl refl refl refl refl refl

are_plain_of : (words : List Text) → list_any is_barred words ≡ false → are_plain words ≡ false
are_plain_of [] none = refl
are_plain_of (word ∷ words) none =
    let parts = or_false (is_barred word) (list_any is_barred words) none in
    let plain : is_dash word ≡ false = (or_false (is_dash word) (bytes_eq word (codes "help")) parts.0).0 in
    rw plain (are_plain_of words parts.1)

-- words that aren't barred and that `clap` takes
pub taken_of : (words : List Text) → list_any is_barred words ≡ false → fault_of grammar_app words ≡ [] → IsTaken words
taken_of words none free = taken words (are_plain_of words none) free

-- *The words of commands* are taken
pub record IsGiven (words : List Text) (found : Option Command) : Type 0 where
  pub none : list_any is_barred words ≡ false
  pub free : fault_of grammar_app words ≡ []
  pub read_as : command_in (subcommand_of grammar_app words) ≡ found

pub replay_given : IsGiven (spelled (codes "replay") None) (asked (codes "replay") None)
replay_given = record {
  none = refl;
  free = is_free_of (codes "replay") (worded_leaf (codes "replay") false) is_replay [] (worded_alone (codes "replay"));
  read_as = is_read_as (codes "replay") (worded_leaf (codes "replay") false) is_replay refl [] None (alone_rows (codes "replay") false);
}

bare_given : (name : Text) → IsName name (bare_leaf name) → is_barred name ≡ false → IsGiven (spelled name None) (asked name None)
bare_given name is plain = record {
  none = rw plain refl;
  free = is_free_of name (bare_leaf name) is [] (bare_passes name);
  read_as = is_read_as name (bare_leaf name) is refl [] None (bare_rows name);
}

pub ideal_given : IsGiven (spelled (codes "ideal") None) (asked (codes "ideal") None)
ideal_given = bare_given (codes "ideal") is_ideal refl

pub rules_given : IsGiven (spelled (codes "rules") None) (asked (codes "rules") None)
rules_given = bare_given (codes "rules") is_rules refl

pub audit_given : IsGiven (spelled (codes "audit") None) (asked (codes "audit") None)
audit_given = bare_given (codes "audit") is_audit refl

pub console_given : IsGiven (spelled (codes "console") None) (asked (codes "console") None)
console_given = bare_given (codes "console") is_console refl

pub trace_given : IsGiven (spelled (codes "trace") None) (asked (codes "trace") None)
trace_given = bare_given (codes "trace") is_trace refl

pub show_given : IsGiven (spelled (codes "show") None) (asked (codes "show") None)
show_given = bare_given (codes "show") is_show refl

pub journal_given : IsGiven (spelled (codes "journal") None) (asked (codes "journal") None)
journal_given = bare_given (codes "journal") is_journal refl

pub capture_given : IsGiven (spelled (codes "capture") None) (asked (codes "capture") None)
capture_given = bare_given (codes "capture") is_capture refl

worded_given : (name : Text) (required : Bool) → IsName name (worded_leaf name required) → is_barred name ≡ false → (word : Text)
    → is_barred word ≡ false → IsGiven (spelled name (Some word)) (asked name (Some word))
worded_given name required is good word plain =
    let front : is_dash word ≡ false = (or_false (is_dash word) (bytes_eq word (codes "help")) plain).0 in
    record {
      none = rw (good, plain) refl;
      free = is_free_of name (worded_leaf name required) is (word ∷ []) (worded_passes name required word front);
      read_as = is_read_as name (worded_leaf name required) is refl (word ∷ []) (Some word) (worded_rows name required word front);
    }

pub replay_word_given : (word : Text) → is_barred word ≡ false → IsGiven (spelled (codes "replay") (Some word)) (asked (codes "replay") (Some word))
replay_word_given word plain = worded_given (codes "replay") false is_replay refl word plain

pub decode_given : (word : Text) → is_barred word ≡ false → IsGiven (spelled (codes "decode") (Some word)) (asked (codes "decode") (Some word))
decode_given word plain = worded_given (codes "decode") true is_decode refl word plain

pub drill_given : (word : Text) → is_barred word ≡ false → IsGiven (spelled (codes "drill") (Some word)) (asked (codes "drill") (Some word))
drill_given word plain = worded_given (codes "drill") true is_drill refl word plain
