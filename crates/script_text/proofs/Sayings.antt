-- what a text says, by what its words say; the counts of octets and lines have no part in it

use Rattle.std.proofs.Common.{◌≡◌, ℕ, List, [], ◌∷◌, Bool, true, false, Option, None, Some, Result, Ok, Err, refl, sym, ap, ◌∙◌, subst, if◌then◌else◌}
use Rattle.std.specs.Option.{option_and_then}
use Rattle.std.specs.Result.{IfOk}
use Rattle.lab_text.specs.declared.line.LineFault.{LineFault}
use Rattle.lab_text.specs.Line.{line_fault, text_fault}
use Rattle.lab_text.specs.Words.{line_text, words, is_blank_text}
use Rattle.script_model.specs.declared.line.Line.{Line}
use Rattle.script_model.specs.declared.line.Line.TheVariants.{Blank}
use Rattle.script_model.specs.declared.refusal.LineRefusal.{LineRefusal}
use Rattle.script_model.specs.Forms.{after}
use Rattle.script_model.specs.Grammar.{Said, Describes, Sends, Carries, Loses, Ticks, TicksAll, TicksSwitch, Restarts, RestartsSwitch, Runs, Forges, Routes, said_of}
use Rattle.script_model.specs.State.{ScriptState}
use Rattle.script_model.specs.Meaning.{meant}
use Rattle.script_model.specs.Sayable.{IsSayable}
use Rattle.script_model.proofs.ReadLines.{text_is}
use Rattle.script_model.specs.Reading.{fault_name, words_say, text_says, says_by, line_says, string_says}
use Rattle.script_text.specs.declared.fault.ReadFault.{ReadFault}
use Rattle.script_text.specs.declared.fault.ReadFault.TheVariants.{Refused, OutOfMemory}
use Rattle.script_words.specs.Told.{words_said, text_said}
use Rattle.script_text.specs.Counts.{counted_up_to}
use Rattle.script_text.specs.Taking.{Takes}

-- what is said means something, and a blank line nothing
abbrev meant_by : ScriptState → Option Said → Result Line LineRefusal
meant_by state None = Ok Blank
meant_by state (Some said) = meant state said

by_said : (state : ScriptState) (said : Result Said LineRefusal) → after (meant state) said ≡ after (meant_by state) (after (λ s. Ok (Some s)) said)
by_said state (Ok said) = refl
by_said state (Err refusal) = refl

by_words : (state : ScriptState) (ws : List (List ℕ)) → words_say state ws ≡ after (meant_by state) (words_said state.topology.version ws)
by_words state [] = refl
by_words state (first ∷ others) = by_said state (said_of state.topology.version first others)

by_text : (state : ScriptState) (text : List ℕ) → text_says state text ≡ after (meant_by state) (text_said state.topology.version text)
by_text state text = by (is_blank_text (words text))
  where
    by : (blank : Bool) → (if blank then Ok Blank else words_say state (words text))
        ≡ after (meant_by state) (if blank then Ok None else words_said state.topology.version (words text))
    by true = refl
    by false = by_words state (words text)

pub text_means : (state : ScriptState) (text : List ℕ) (version : ℕ) (said : Said) → version ≡ state.topology.version
    → text_said version text ≡ Ok (Some said) → text_says state text ≡ meant state said
text_means state text version said same e =
    by_text state text ∙ ap (after (meant_by state)) (ap (λ v. text_said v text) (sym same) ∙ e)

pub text_refused : (state : ScriptState) (text : List ℕ) (version : ℕ) (refusal : LineRefusal) → version ≡ state.topology.version
    → text_said version text ≡ Err refusal → text_says state text ≡ Err refusal
text_refused state text version refusal same e =
    by_text state text ∙ ap (after (meant_by state)) (ap (λ v. text_said v text) (sym same) ∙ e)

-- *Counts*
meant_counted : (state : ScriptState) (octets lines : ℕ) (said : Said) → meant (record state { octets = octets; lines = lines }) said ≡ meant state said
meant_counted state octets lines (Describes line) = refl
meant_counted state octets lines (Sends name packet) = refl
meant_counted state octets lines (Carries name side) = refl
meant_counted state octets lines (Loses name side) = refl
meant_counted state octets lines (Ticks name) = refl
meant_counted state octets lines TicksAll = refl
meant_counted state octets lines (TicksSwitch name) = refl
meant_counted state octets lines (Restarts name) = refl
meant_counted state octets lines (RestartsSwitch name) = refl
meant_counted state octets lines (Runs rounds) = refl
meant_counted state octets lines (Forges name side channel payload) = refl
meant_counted state octets lines (Routes name prefix next) = refl

said_counted : (state : ScriptState) (octets lines : ℕ) (said : Result Said LineRefusal)
    → after (meant (record state { octets = octets; lines = lines })) said ≡ after (meant state) said
said_counted state octets lines (Ok said) = meant_counted state octets lines said
said_counted state octets lines (Err refusal) = refl

words_counted : (state : ScriptState) (octets lines : ℕ) (ws : List (List ℕ))
    → words_say (record state { octets = octets; lines = lines }) ws ≡ words_say state ws
words_counted state octets lines [] = refl
words_counted state octets lines (first ∷ others) = said_counted state octets lines (said_of state.topology.version first others)

text_counted : (state : ScriptState) (octets lines : ℕ) (text : List ℕ)
    → text_says (record state { octets = octets; lines = lines }) text ≡ text_says state text
text_counted state octets lines text = by (is_blank_text (words text))
  where
    by : (blank : Bool) → (if blank then Ok Blank else words_say (record state { octets = octets; lines = lines }) (words text))
        ≡ (if blank then Ok Blank else words_say state (words text))
    by true = refl
    by false = words_counted state octets lines (words text)

text_taken : (state counted now : ScriptState) (line text : List ℕ) (said : Result Line LineRefusal) (result : Result Line ReadFault)
    → counted ≡ counted_up_to state line → said ≡ text_says state text → Takes counted (text_says counted text) now result
    → Takes (counted_up_to state line) said now result
text_taken state counted now line text said result counts is taken =
    let same = text_counted state (counted_up_to state line).octets (counted_up_to state line).lines text in
    let moved : Takes (counted_up_to state line) (text_says (counted_up_to state line) text) now result =
    subst (λ (s : ScriptState). Takes s (text_says s text) now result) counts taken in
    subst (λ (s : Result Line LineRefusal). Takes (counted_up_to state line) s now result) (same ∙ sym is) moved

-- a line whose octets aren't refused
pub line_taken : (state counted now : ScriptState) (line text : List ℕ) (before : ℕ) (result : Result Line ReadFault) → counted ≡ counted_up_to state line
    → before ≡ state.octets → None ≡ line_fault before line → text ≡ line_text line → Takes counted (text_says counted text) now result
    → Takes (counted_up_to state line) (line_says state line) now result
line_taken state counted now line text before result counts at fine is taken =
    let none : line_fault state.octets line ≡ None = subst (λ n. line_fault n line ≡ None) at (sym fine) in
    let says : line_says state line ≡ text_says state text =
    ap (λ (fault : Option LineFault). says_by (option_and_then fault_name fault) (text_says state (line_text line))) none
    ∙ ap (text_says state) (sym is) in
    text_taken state counted now line text (line_says state line) result counts says taken

-- one that is refused for its octets
pub line_unread : (state : ScriptState) (line : List ℕ) (before : ℕ) (fault : LineFault) (refusal : LineRefusal) → before ≡ state.octets
    → Some fault ≡ line_fault before line → fault_name fault ≡ Some refusal → line_says state line ≡ Err refusal
line_unread state line before fault refusal at is named =
    let found : line_fault state.octets line ≡ Some fault = subst (λ n. line_fault n line ≡ Some fault) at (sym is) in
    ap (λ (fault : Option LineFault). says_by (option_and_then fault_name fault) (text_says state (line_text line))) found
    ∙ ap (λ (refusal : Option LineRefusal). says_by refusal (text_says state (line_text line))) named

pub string_taken : (state counted now : ScriptState) (text : List ℕ) (result : Result Line ReadFault) → counted ≡ counted_up_to state text
    → None ≡ option_and_then fault_name (text_fault text) → Takes counted (text_says counted text) now result
    → Takes (counted_up_to state text) (string_says state text) now result
string_taken state counted now text result counts fine taken =
    text_taken state counted now text text (string_says state text) result counts
    (ap (λ (refusal : Option LineRefusal). says_by refusal (text_says state text)) (sym fine)) taken

-- *What is read can be said*
unless_refused : (refusal : Option LineRefusal) (said : Result Line LineRefusal) (line : Line) → says_by refusal said ≡ Ok line → said ≡ Ok line
unless_refused None said line e = e
unless_refused (Some name) said line e = absurd (cc)

taken_is : (state old now : ScriptState) (text : List ℕ) (refusal : Option LineRefusal) (result : Result Line ReadFault)
    → Takes old (says_by refusal (text_says state text)) now result → IfOk result (IsSayable state)
taken_is state old now text refusal (Ok line) taken = text_is state text line (unless_refused refusal (text_says state text) line taken.0)
taken_is state old now text refusal (Err fault) taken = tt

pub line_is_sayable : (state now : ScriptState) (line : List ℕ) (result : Result Line ReadFault) → Takes (counted_up_to state line) (line_says state line) now result
    → IfOk result (IsSayable state)
line_is_sayable state now line result taken =
    taken_is state (counted_up_to state line) now (line_text line) (option_and_then fault_name (line_fault state.octets line)) result taken

pub string_is_sayable : (state now : ScriptState) (text : List ℕ) (result : Result Line ReadFault) → Takes (counted_up_to state text) (string_says state text) now result
    → IfOk result (IsSayable state)
string_is_sayable state now text result taken =
    taken_is state (counted_up_to state text) now text (option_and_then fault_name (text_fault text)) result taken
