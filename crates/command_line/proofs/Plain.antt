-- what the walk of `clap` makes of a word without a hyphen in front, and of the words behind a subcommand

use Rattle.std.proofs.Common.{◌≡◌, ◌∙◌, ℕ, ◌==◌, Bool, true, false, List, [], ◌∷◌, nat_eq, true≢false, arith, fold, find, is_some, Option, Some, None, codes, refl, sym, ap, ap₂}
use Rattle.std.specs.List.{starts_with}
use Rattle.std.specs.Option.{option_map, option_map_or}
use Rattle.std.proofs.lemmas.Bool.Decides.{nat_tests}
use Rattle.clap.specs.Kinds.{Kinds, or_else}
use Rattle.clap.specs.Walk.{Held, Names, Rule, Step, Text, Walk, idle, value, answers_to, nothing_held, settled, finished, subcommand_met, subcommand_or_other, walk, walk_from, walked}
use Rattle.clap.specs.Simple.{App, Shape, built, entered, label_of, names_of, rows_at, subcommand_of}
use Rattle.clap.specs.Faults.{check_fault, defaults_fault, entered_fault, fault_of, level_fault, other_fault, settle_fault, step_fault, turn_fault, walk_fault}
use Rattle.clap.specs.declared.error.kind.ErrorKind.TheVariants.{UnknownArgument, InvalidSubcommand}
use Rattle.clap.proofs.WalkLemmas.{walk_stopped}
use Rattle.clap.proofs.FaultLemmas.{stopped_fault}
use Rattle.command_line.specs.Grammar.{grammar_app}

abbrev pub is_dash : Text → Bool
is_dash word = starts_with nat_eq word (codes "-")

-- *A plain word* that names no subcommand is a value, and no fault
no_dash : (d : ℕ) (ds : List ℕ) → is_dash (d ∷ ds) ≡ false → d == 45 ≡ false
no_dash d ds plain = by (d == 45) refl
  where
    by : (dash : Bool) → d == 45 ≡ dash → d == 45 ≡ false
    by false is = is
    by true is =
        let same : 45 ≡ d = grind (arith, nat_tests) in
        let bad : true ≡ false = ap (λ x. is_dash (x ∷ ds)) same ∙ plain in
        absurd (true≢false bad)

pub plain_met : (c : List Rule) (position : ℕ) (word : Text) (h : Held) → is_dash word ≡ false
    → subcommand_or_other c None idle position word h ≡ (h, value)
plain_met c position [] h plain = refl
plain_met c position (d ∷ ds) h plain =
    let other : d == 45 ≡ false = no_dash d ds plain in
    rw (other, other) refl

pub plain_fault : (s : Shape) (word : Text) (h : Held) → is_dash word ≡ false → other_fault s None word h ≡ []
plain_fault s [] h plain = refl
plain_fault s (d ∷ ds) h plain =
    let other : d == 45 ≡ false = no_dash d ds plain in
    rw (other, other) refl

-- *The top level*
abbrev pub whole : App
whole = built grammar_app

abbrev pub names : Names
names = names_of whole

abbrev pub start : Walk
start = walk_from nothing_held

abbrev pub stopped_at : Text → (rest : List Text) → Walk
stopped_at name rest = record start { stopped = Some (name, rest) }

-- a name that the grammar has, with its level
pub record IsName (name : Text) (leaf : Shape) : Type 0 where
  pub met : walked [] names start name ≡ stopped_at name []
  pub passes : turn_fault whole.top names start name ≡ []
  pub found : find (λ s. answers_to name (label_of s)) whole.subs ≡ Some leaf

walk_named : (name : Text) (leaf : Shape) → IsName name leaf → (rest : List Text)
    → walk [] names nothing_held (name ∷ rest) ≡ stopped_at name rest
walk_named name leaf is rest =
    ap (λ (w : Walk). fold (walked [] names) w rest) is.met ∙ sym (walk_stopped [] names start name [] rest)

fault_named : (name : Text) (leaf : Shape) → IsName name leaf → (rest : List Text)
    → walk_fault whole.top names start (name ∷ rest) ≡ []
unfolding walk_fault
fault_named name leaf is rest =
    ap₂ (λ (f : Kinds) (w : Walk). or_else f (walk_fault whole.top names w rest)) is.passes is.met
    ∙ stopped_fault whole.top names start (name, []) rest

abbrev fault_by : Walk → Kinds → Kinds
fault_by w f =
    or_else f
    (or_else (entered_fault whole w.stopped)
    (or_else (settle_fault [] whole.top.args_override_self w.held)
    (or_else (defaults_fault (settled [] w.held).rows [])
    (check_fault whole.top (finished [] w.held) (is_some (entered whole w.stopped))))))

abbrev fault_in : (rest : List Text) → Option Shape → Kinds
fault_in rest leaf =
    or_else (option_map_or (λ s. level_fault s [] nothing_held rest false []) leaf [])
    (check_fault whole.top [] (is_some (option_map (λ s. rows_at s rest) leaf)))

-- behind a name, all is its level's
pub fault_of_named : (name : Text) (leaf : Shape) → IsName name leaf → (rest : List Text)
    → fault_of grammar_app (name ∷ rest) ≡ or_else (level_fault leaf [] nothing_held rest false []) []
unfolding defaults_fault
fault_of_named name leaf is rest =
    ap₂ fault_by (walk_named name leaf is rest) (fault_named name leaf is rest) ∙ ap (fault_in rest) is.found

pub subcommand_of_named : (name : Text) (leaf : Shape) → IsName name leaf → (rest : List Text)
    → subcommand_of grammar_app (name ∷ rest) ≡ Some (rows_at leaf rest)
subcommand_of_named name leaf is rest =
    ap (λ (w : Walk). entered whole w.stopped) (walk_named name leaf is rest)
    ∙ ap (option_map (λ s. rows_at s rest)) is.found

-- a plain word that is no name
pub stray_fault_of : (word : Text) (rest : List Text) → is_dash word ≡ false → subcommand_met names idle word ≡ None
    → fault_of grammar_app (word ∷ rest) ≡ [] → ⊥
unfolding walk_fault
stray_fault_of word rest plain none e =
    let turn : turn_fault whole.top names start word ≡ UnknownArgument ∷ InvalidSubcommand ∷ [] =
    ap₂ (λ (f : Kinds) (m : Held × Step). or_else f (step_fault whole.top 1 m.0 m.1))
    (ap (λ o. other_fault whole.top o word nothing_held) none ∙ plain_fault whole.top word nothing_held plain)
    (ap (λ o. subcommand_or_other [] o idle 1 word nothing_held) none ∙ plain_met [] 1 word nothing_held plain) in
    let first : walk_fault whole.top names start (word ∷ rest) ≡ UnknownArgument ∷ InvalidSubcommand ∷ [] =
    ap (λ (f : Kinds). or_else f (walk_fault whole.top names (walked [] names start word) rest)) turn in
    let all : fault_of grammar_app (word ∷ rest) ≡ UnknownArgument ∷ InvalidSubcommand ∷ [] =
    ap (λ (f : Kinds). fault_by (walk [] names nothing_held (word ∷ rest)) f) first in
    cc
