-- the levels of the commands: one without a word behind its name, and one with a word

use Rattle.std.proofs.Common.{◌≡◌, ◌∙◌, Bool, true, false, List, [], ◌∷◌, Some, None, codes, refl, sym, ap, ap₂}
use Rattle.clap.specs.Kinds.{Kinds, or_else}
use Rattle.clap.specs.Walk.{Held, Step, Text, Walk, idle, value, after_step, first_of, nothing_held, settled, finished, walk, walked}
use Rattle.clap.specs.Simple.{Shape, built_leaf, inherited, marked_built, with_leaf_noted, rows_at}
use Rattle.clap.specs.Faults.{check_fault, defaults_fault, level_fault, settle_fault, step_fault, turn_fault, walk_fault}
use Rattle.clap.specs.declared.error.kind.ErrorKind.{ErrorKind}
use Rattle.clap.specs.declared.error.kind.ErrorKind.TheVariants.{UnknownArgument}
use Rattle.command_line.specs.Grammar.{bare, worded, grammar_app}
use Rattle.command_line.proofs.Plain.{is_dash, plain_met, plain_fault, start}

-- *What building makes of them*
abbrev above : Shape
above = with_leaf_noted (marked_built grammar_app.top)

abbrev pub bare_leaf : Text → Shape
bare_leaf name = built_leaf (inherited above (bare name))

abbrev pub worded_leaf : Text → Bool → Shape
worded_leaf name required = built_leaf (inherited above (worded name required))

-- *A turn of a level*, whose subcommands have none of their own
turn_at : (s : Shape) (w : Walk) (word : Text) → w.is_trailing ≡ false → w.stopped ≡ None → w.waiting ≡ idle
    → is_dash word ≡ false → turn_fault s [] w word ≡ step_fault s w.position w.held value
turn_at s w word trails stops waits plain =
    let v : Walk = record w { is_trailing = false; stopped = None; waiting = idle } in
    let same : ◌≡◌ {A = Walk} w v = λ i. record w { is_trailing = trails i; stopped = stops i; waiting = waits i } in
    ap (λ (x : Walk). turn_fault s [] x word) same
    ∙ ap₂ (λ (f : Kinds) (m : Held × Step). or_else f (step_fault s w.position m.0 m.1))
    (plain_fault s word w.held plain) (plain_met s.rules w.position word w.held plain)

walked_at : (s : Shape) (word : Text) → is_dash word ≡ false
    → walked s.rules [] start word ≡ after_step s.rules word start nothing_held value
unfolding walked
walked_at s word plain =
    ap (λ (m : Held × Step). after_step s.rules word start m.0 m.1) (plain_met s.rules 1 word nothing_held plain)

-- how a level fails by its walk
abbrev level_by : Shape → Walk → Kinds → Kinds
level_by s end walks =
    or_else walks
    (or_else (settle_fault s.rules s.args_override_self end.held)
    (or_else (defaults_fault (settled s.rules end.held).rows s.rules)
    (check_fault s (finished s.rules end.held) false)))

full : {k : ErrorKind} {ks : Kinds} → k ∷ ks ≡ [] → ⊥
full e = cc

-- *A level without a word*
pub bare_passes : (name : Text) → level_fault (bare_leaf name) [] nothing_held [] false [] ≡ []
unfolding walk_fault defaults_fault
bare_passes name = refl

pub bare_alone : (name word : Text) (rest : List Text) → is_dash word ≡ false
    → level_fault (bare_leaf name) [] nothing_held (word ∷ rest) false [] ≡ [] → ⊥
unfolding walk_fault
bare_alone name word rest plain e =
    let s = bare_leaf name in
    let turn : turn_fault s [] start word ≡ UnknownArgument ∷ [] = turn_at s start word refl refl refl plain in
    let all : level_fault s [] nothing_held (word ∷ rest) false [] ≡ UnknownArgument ∷ [] =
    ap (λ (f : Kinds). level_by s (walk s.rules [] nothing_held (word ∷ rest)) (or_else f (walk_fault s [] (walked s.rules [] start word) rest))) turn in
    full (sym all ∙ e)

-- *A level with a word*
abbrev first_walk : Text → Bool → (word : Text) → Walk
first_walk name required word = after_step (worded_leaf name required).rules word start nothing_held value

first_turn : (name : Text) (required : Bool) (word : Text) → is_dash word ≡ false
    → turn_fault (worded_leaf name required) [] start word ≡ []
first_turn name required word plain = turn_at (worded_leaf name required) start word refl refl refl plain

second_turn : (name : Text) (required : Bool) (word next : Text) → is_dash next ≡ false
    → turn_fault (worded_leaf name required) [] (first_walk name required word) next ≡ UnknownArgument ∷ []
second_turn name required word next plain =
    turn_at (worded_leaf name required) (first_walk name required word) next refl refl refl plain

pub worded_passes : (name : Text) (required : Bool) (word : Text) → is_dash word ≡ false
    → level_fault (worded_leaf name required) [] nothing_held (word ∷ []) false [] ≡ []
unfolding walk_fault defaults_fault
worded_passes name true word plain =
    ap₂ (λ (v : Walk) (f : Kinds). level_by (worded_leaf name true) v (or_else f []))
    (walked_at (worded_leaf name true) word plain) (first_turn name true word plain)
worded_passes name false word plain =
    ap₂ (λ (v : Walk) (f : Kinds). level_by (worded_leaf name false) v (or_else f []))
    (walked_at (worded_leaf name false) word plain) (first_turn name false word plain)

pub worded_alone : (name : Text) → level_fault (worded_leaf name false) [] nothing_held [] false [] ≡ []
unfolding walk_fault defaults_fault
worded_alone name = refl

pub worded_wants : (name : Text) → level_fault (worded_leaf name true) [] nothing_held [] false [] ≡ [] → ⊥
unfolding walk_fault defaults_fault
worded_wants name e = full e

pub worded_full : (name : Text) (required : Bool) (word next : Text) (rest : List Text) → is_dash word ≡ false
    → is_dash next ≡ false → level_fault (worded_leaf name required) [] nothing_held (word ∷ next ∷ rest) false [] ≡ [] → ⊥
unfolding walk_fault
worded_full name required word next rest plain other e =
    let s = worded_leaf name required in
    let walk_is : walked s.rules [] start word ≡ first_walk name required word = walked_at s word plain in
    let second : turn_fault s [] (walked s.rules [] start word) next ≡ UnknownArgument ∷ [] =
    ap (λ (w : Walk). turn_fault s [] w next) walk_is ∙ second_turn name required word next other in
    let all : level_fault s [] nothing_held (word ∷ next ∷ rest) false [] ≡ UnknownArgument ∷ [] =
    ap₂
    (λ (f g : Kinds). level_by s (walk s.rules [] nothing_held (word ∷ next ∷ rest))
    (or_else f (or_else g (walk_fault s [] (walked s.rules [] (walked s.rules [] start word) next) rest))))
    (first_turn name required word plain) second in
    full (sym all ∙ e)

-- *The rows* of a level
pub bare_rows : (name : Text) → first_of (codes "word") (rows_at (bare_leaf name) []).1 ≡ None
bare_rows name = refl

pub alone_rows : (name : Text) (required : Bool) → first_of (codes "word") (rows_at (worded_leaf name required) []).1 ≡ None
alone_rows name required = refl

pub worded_rows : (name : Text) (required : Bool) (word : Text) → is_dash word ≡ false
    → first_of (codes "word") (rows_at (worded_leaf name required) (word ∷ [])).1 ≡ Some word
worded_rows name required word plain =
    ap (λ (v : Walk). first_of (codes "word") (finished (worded_leaf name required).rules v.held))
    (walked_at (worded_leaf name required) word plain)
