-- what is read of words is the command that they ask for

use Rattle.std.proofs.Common.{◌≡◌, ◌∙◌, ℕ, Bool, true, false, List, [], ◌∷◌, IfOk, Result, Ok, Err, Option, Some, None, OnErr, codes, decimal, inl, inr, refl, sym, ap, subst}
use Rattle.std.specs.Prelude.{bytes_eq, if◌then◌else◌}
use Rattle.std.specs.List.{list_any}
use Rattle.std.specs.Option.{option_map}
use Rattle.std.proofs.lemmas.Slice.Eq.{bytes_eq-Decides}
use Rattle.net_types.specs.declared.memory.OutOfMemory.{OutOfMemory as NoMemory}
use Rattle.clap.specs.Walk.{Text}
use Rattle.clap.specs.Simple.{subcommand_of}
use Rattle.clap.specs.Faults.{fault_of}
use Rattle.clap.specs.Kinds.{HasKind}
use Rattle.clap.specs.Values.{kind_of}
use Rattle.clap.specs.declared.error.Error.{Error}
use Rattle.lab_text.specs.Forms.{number_in}
use Rattle.command_line.specs.declared.command.Command.{Command}
use Rattle.command_line.specs.declared.command.Command.TheVariants.{Replay, ReplayToml, Ideal, Rules, DecodeIfmp, DecodeGsmp, Drill, Audit, Console, Trace, Show, Journal, Capture}
use Rattle.command_line.specs.Commands.{words_of, HasItsNumber, AskFor, IsReading}
use Rattle.command_line.specs.Grammar.{grammar_app}
use Rattle.command_line.specs.Reading.{drill, behind_replay, behind_decode, worded, alone, asked, said, command_in, is_barred, RefusedBy}
use Rattle.command_line.proofs.Numbers.{drill_told, drill_read, drill_passes}
use Rattle.command_line.proofs.Parting.{spelled, taken_of, IsGiven, replay_given, ideal_given, rules_given, audit_given, console_given, trace_given, show_given, journal_given, capture_given, replay_word_given, decode_given, drill_given}

is_text : (xs ys : Text) → bytes_eq xs ys ≡ true → xs ≡ ys
is_text xs ys test = (bytes_eq-Decides xs ys).0 test

-- *A name alone*
alone_asked : (name : Text) (command : Command) → alone name ≡ Some command → AskFor (name ∷ []) command
alone_asked name command e =
    is_named (codes "replay") Replay _ refl tt
    (is_named (codes "ideal") Ideal _ refl tt
    (is_named (codes "rules") Rules _ refl tt
    (is_named (codes "audit") Audit _ refl tt
    (is_named (codes "console") Console _ refl tt
    (is_named (codes "trace") Trace _ refl tt
    (is_named (codes "show") Show _ refl tt
    (is_named (codes "journal") Journal _ refl tt
    (is_named (codes "capture") Capture _ refl tt (λ none. absurd (cc)))))))))) e
  where
    -- the name is this command's, or what comes else is asked
    is_named : (known : Text) (asks : Command) (other : Option Command) → words_of asks ≡ known ∷ [] → HasItsNumber asks
        → (other ≡ Some command → AskFor (name ∷ []) command)
        → (if bytes_eq name known then Some asks else other) ≡ Some command → AskFor (name ∷ []) command
    is_named known asks other words number else_asked = by (bytes_eq name known) refl
      where
        by : (a : Bool) → bytes_eq name known ≡ a → (if a then Some asks else other) ≡ Some command → AskFor (name ∷ []) command
        by true ea e =
            let same : asks ≡ command = cc in
            subst (AskFor (name ∷ [])) same (record { words_are = ap (λ x. x ∷ []) (is_text name known ea) ∙ sym words; number = number })
        by false ea e = else_asked e

-- *A word behind a name*
record IsWordOf (name word : Text) (command : Command) : Type 0 where
  words_are : name ∷ word ∷ [] ≡ words_of command
  number : HasItsNumber command

replay_asked : (word : Text) (command : Command) → behind_replay word ≡ Some command → IsWordOf (codes "replay") word command
replay_asked word command e = by (bytes_eq word (codes "toml")) refl e
  where
    by : (a : Bool) → bytes_eq word (codes "toml") ≡ a → (if a then Some ReplayToml else None) ≡ Some command
        → IsWordOf (codes "replay") word command
    by true ea e =
        let same : ReplayToml ≡ command = cc in
        subst (IsWordOf (codes "replay") word) same
        (record { words_are = ap (λ x. codes "replay" ∷ x ∷ []) (is_text word (codes "toml") ea); number = tt })
    by false ea e = absurd (cc)

decode_asked : (word : Text) (command : Command) → behind_decode word ≡ Some command → IsWordOf (codes "decode") word command
decode_asked word command e = by (bytes_eq word (codes "ifmp")) refl (bytes_eq word (codes "gsmp")) refl e
  where
    by : (a : Bool) → bytes_eq word (codes "ifmp") ≡ a → (b : Bool) → bytes_eq word (codes "gsmp") ≡ b
        → (if a then Some DecodeIfmp else (if b then Some DecodeGsmp else None)) ≡ Some command → IsWordOf (codes "decode") word command
    by true ea b eb e =
        let same : DecodeIfmp ≡ command = cc in
        subst (IsWordOf (codes "decode") word) same
        (record { words_are = ap (λ x. codes "decode" ∷ x ∷ []) (is_text word (codes "ifmp") ea); number = tt })
    by false ea true eb e =
        let same : DecodeGsmp ≡ command = cc in
        subst (IsWordOf (codes "decode") word) same
        (record { words_are = ap (λ x. codes "decode" ∷ x ∷ []) (is_text word (codes "gsmp") eb); number = tt })
    by false ea false eb e = absurd (cc)

drill_asked : (word : Text) (command : Command) → drill word ≡ Some command → IsWordOf (codes "drill") word command
drill_asked word command e = by (number_in 1 9999 word) refl e
  where
    by : (found : Option ℕ) → number_in 1 9999 word ≡ found → option_map (λ number. Drill number) found ≡ Some command
        → IsWordOf (codes "drill") word command
    by None is e = absurd (cc)
    by (Some n) is e =
        let same : Drill n ≡ command = cc in
        let told = drill_told word n is in
        subst (IsWordOf (codes "drill") word) same
        (record { words_are = ap (λ x. codes "drill" ∷ x ∷ []) told.text; number = (told.above, told.below) })

named : (name known word : Text) (command : Command) → bytes_eq name known ≡ true → IsWordOf known word command
    → AskFor (name ∷ word ∷ []) command
named name known word command test is =
    record { words_are = ap (λ x. x ∷ word ∷ []) (is_text name known test) ∙ is.words_are; number = is.number }

worded_asked : (name word : Text) (command : Command) → worded name word ≡ Some command → AskFor (name ∷ word ∷ []) command
worded_asked name word command e =
    by (bytes_eq name (codes "replay")) refl (bytes_eq name (codes "decode")) refl (bytes_eq name (codes "drill")) refl e
  where
    by : (a : Bool) → bytes_eq name (codes "replay") ≡ a → (b : Bool) → bytes_eq name (codes "decode") ≡ b
        → (c : Bool) → bytes_eq name (codes "drill") ≡ c
        → (if a then behind_replay word else (if b then behind_decode word else (if c then drill word else None))) ≡ Some command
        → AskFor (name ∷ word ∷ []) command
    by true ea b eb c ec e = named name (codes "replay") word command ea (replay_asked word command e)
    by false ea true eb c ec e = named name (codes "decode") word command eb (decode_asked word command e)
    by false ea false eb true ec e = named name (codes "drill") word command ec (drill_asked word command e)
    by false ea false eb false ec e = absurd (cc)

asked_for : (name : Text) (word : Option Text) (command : Command) → asked name word ≡ Some command → AskFor (spelled name word) command
asked_for name None command e = alone_asked name command e
asked_for name (Some word) command e = worded_asked name word command e

-- *The words of a command* are taken, and read as it
given_words : (command : Command) → HasItsNumber command → IsGiven (words_of command) (Some command)
given_words Replay has = replay_given
given_words ReplayToml has = replay_word_given (codes "toml") refl
given_words Ideal has = ideal_given
given_words Rules has = rules_given
given_words DecodeIfmp has = decode_given (codes "ifmp") refl
given_words DecodeGsmp has = decode_given (codes "gsmp") refl
given_words Audit has = audit_given
given_words Console has = console_given
given_words Trace has = trace_given
given_words Show has = show_given
given_words Journal has = journal_given
given_words Capture has = capture_given
given_words (Drill number) has =
    let given = drill_given (decimal number) (drill_passes number has.1) in
    record { none = given.none; free = given.free; read_as = given.read_as ∙ ap (option_map (λ n. Drill n)) (drill_read number has.0 has.1) }

given : (words : List Text) (command : Command) → AskFor words command → IsGiven words (Some command)
given words command asks =
    subst (λ (ws : List Text). IsGiven ws (Some command)) (sym asks.words_are) (given_words command asks.number)

-- *The three answers*
pub barred_read : (words : List Text) → list_any is_barred words ≡ true → IsReading words None
barred_read words barred = record {
  asked = λ command e. absurd (cc);
  all = λ command asks. let passes : list_any is_barred words ≡ false = (given words command asks).none in absurd (cc);
}

pub found_read : (words : List Text) (found : Option Command) → list_any is_barred words ≡ false → fault_of grammar_app words ≡ []
    → found ≡ command_in (subcommand_of grammar_app words) → IsReading words found
found_read words found none free is =
    let taken = taken_of words none free in
    record {
      asked = λ command e.
          subst (λ (ws : List Text). AskFor ws command) (sym taken.words_are)
          (asked_for taken.name taken.word command (sym taken.read_as ∙ (sym is ∙ e)));
      all = λ command asks. is ∙ (given words command asks).read_as;
    }

pub refused_read : (words : List Text) (error : Error) (result : Result (Option Command) NoMemory) → HasKind (fault_of grammar_app words) error
    → RefusedBy (kind_of error) result → IfOk result (IsReading words)
refused_read words error (Err memory) has refused = tt
refused_read words error (Ok found) has refused = record {
  asked = λ command e. let none : found ≡ None = refused.0 in absurd (cc);
  all = λ command asks. absurd (only (subst (λ kinds. HasKind kinds error) (given words command asks).free has));
}
  where
    only : HasKind [] error → ⊥
    only (inl memory) = refused.1 memory
    only (inr none) = none

-- *Words that ask for nothing*, and those that ask for something
said_is : (command : Command) → HasItsNumber command → said (words_of command) ≡ Some command
said_is Replay has = refl
said_is ReplayToml has = refl
said_is Ideal has = refl
said_is Rules has = refl
said_is DecodeIfmp has = refl
said_is DecodeGsmp has = refl
said_is (Drill number) has = ap (option_map (λ n. Drill n)) (drill_read number has.0 has.1)
said_is Audit has = refl
said_is Console has = refl
said_is Trace has = refl
said_is Show has = refl
said_is Journal has = refl
said_is Capture has = refl

pub none_read : (words : List Text) → said words ≡ None → IsReading words None
none_read words none = record {
  asked = λ command e. absurd (cc);
  all = λ command asks. (let some : said words ≡ Some command = ap said asks.words_are ∙ said_is command asks.number in absurd (cc));
}

pub said_for : (words : List Text) (command : Command) → said words ≡ Some command → AskFor words command
said_for [] command e = absurd (cc)
said_for (name ∷ []) command e = asked_for name None command e
said_for (name ∷ word ∷ []) command e = asked_for name (Some word) command e
said_for (name ∷ word ∷ next ∷ others) command e = absurd (cc)

pub some_asked : (words : List Text) (found : Option Command) (command : Command) (result : Result (Option Command) NoMemory) → found ≡ said words → found ≡ Some command
    → OnErr result ((command : Command) × AskFor words command)
some_asked words found command (Ok answer) is some = tt
some_asked words found command (Err error) is some = (command, said_for words command (sym is ∙ some))
