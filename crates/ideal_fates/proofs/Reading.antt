-- the lines are read and told one after another

use Rattle.std.proofs.Common.{◌≡◌, ◌∙◌, ℕ, ◌+◌, ◌<◌, ◌≤◌, ◌++◌, true, false, List, [], ◌∷◌, length, count_by, Result, Ok, Err, append_assoc, refl, sym, subst, ap, ap₂, arith}
use Rattle.std.proofs.lemmas.Bool.Decides.{nat_tests}
use Rattle.std.proofs.lemmas.List.{take_all}
use Rattle.lab_text.specs.Lines.{lines_of}
use Rattle.world_model.specs.network_model.declared.line.TopologyLine.{TopologyLine}
use Rattle.world_model.specs.network_model.declared.line.TopologyLine.TheVariants as lines
use Rattle.script_model.specs.declared.line.Line.{Line}
use Rattle.script_model.specs.declared.line.Line.TheVariants.{Blank, Topology as TopologyIs, Event as EventComes, TickAll, Run}
use Rattle.script_model.specs.declared.refusal.LineRefusal.{LineRefusal}
use Rattle.script_model.specs.Ideal.{ideal, ideal_report, ideal_records, is_delivered, is_dropped, is_refused}
use Rattle.script_model.specs.Meaning.{is_late}
use Rattle.script_model.specs.Reading.{line_says, state_after}
use Rattle.script_model.specs.Reports.{record_lines, last_line_by}
use Rattle.script_model.specs.Sayable.{IsSayable}
use Rattle.script_model.specs.Script.{Script, script_from, script_by, script_of, events_of, preceded_by}
use Rattle.script_model.specs.State.{ScriptState, nothing_read}
use Rattle.ideal_fates.specs.Told.{Told, nothing_told, after_line, records_of, end_of, rest_of, Follows}
use Rattle.ideal_fates.proofs.Steps.{line_told, IsEvent}
use Rattle.ideal_fates.proofs.Following.{line_is, follows_next}

abbrev pub said_of : ScriptState → List (List ℕ) → Script
said_of state lines = script_from line_says state lines

-- *Behind the first event* the topology stays
record HasBegun (state : ScriptState) : Type 0 where
  events : 0 < state.event_lines
  line : state.has_line ≡ true

late : (state : ScriptState) (line : TopologyLine) → HasBegun state → is_late state line ≡ true
late state (lines.Version version) begun = begun.line
late state line begun = let above = begun.events in grind (arith, nat_tests)

begun_stays : (state : ScriptState) (line : List ℕ) (said : Line) → HasBegun state → IsSayable state said
    → HasBegun (state_after state line (Ok said)) × ((state_after state line (Ok said)).topology ≡ state.topology)
begun_stays state line Blank begun can = (record { events = begun.events; line = begun.line }, refl)
begun_stays state line (TopologyIs topology) begun can =
    let bad : true ≡ false = sym (late state topology begun) ∙ can.1 in
    absurd (cc)
begun_stays state line (EventComes event) begun can = (record { events = omega (arith, begun.events); line = refl }, refl)
begun_stays state line TickAll begun can = (record { events = omega (arith, begun.events); line = refl }, refl)
begun_stays state line (Run rounds) begun can = (record { events = omega (arith, begun.events); line = refl }, refl)

stays : (state : ScriptState) (lines : List (List ℕ)) → HasBegun state → (said_of state lines).topology ≡ state.topology
stays state [] begun = refl
stays state (line ∷ lines) begun = by (line_says state line) refl (λ next begun. stays next lines begun)
  where
    by : (said : Result Line LineRefusal) → line_says state line ≡ said
        → ((next : ScriptState) → HasBegun next → (said_of next lines).topology ≡ next.topology)
        → (script_by state line (λ next. said_of next lines) said).topology ≡ state.topology
    by (Err name) e onward = refl
    by (Ok said) e onward =
        let kept = begun_stays state line said begun (line_is state line said e) in
        onward (state_after state line (Ok said)) kept.0 ∙ kept.1

stays_behind : (state : ScriptState) (line : List ℕ) (said : Line) (lines : List (List ℕ)) → IsEvent said
    → (said_of (state_after state line (Ok said)) lines).topology ≡ (state_after state line (Ok said)).topology
stays_behind state line Blank lines is = absurd is
stays_behind state line (TopologyIs topology) lines is = absurd is
stays_behind state line (EventComes event) lines is =
    stays (state_after state line (Ok (EventComes event))) lines (record { events = omega arith; line = refl })
stays_behind state line TickAll lines is = absurd is
stays_behind state line (Run rounds) lines is = absurd is

-- *One line more*
said_is : (state : ScriptState) (line : List ℕ) (said : Line) (lines : List (List ℕ)) → line_says state line ≡ Ok said
    → said_of state (line ∷ lines) ≡ preceded_by (events_of state.topology said) (said_of (state_after state line (Ok said)) lines)
said_is state line said lines e = ap (script_by state line (λ next. said_of next lines)) e

pub line_more : (state now : ScriptState) (told then : Told) (line : List ℕ) (said : Line) (rest others out written : List ℕ)
    → lines_of rest ≡ line ∷ lines_of others → line_says state line ≡ Ok said → now ≡ state_after state line (Ok said)
    → then ≡ after_line now.topology told said → written ≡ out ++ record_lines now.topology (records_of now.topology told said)
    → written ++ rest_of then (said_of now (lines_of others)) ≡ out ++ rest_of told (said_of state (lines_of rest))
line_more state now told then line said rest others out written split says is told_is written_is =
    let after = state_after state line (Ok said) in
    let lines = lines_of others in
    let tells : rest_of told (said_of state (lines_of rest))
    ≡ record_lines after.topology (records_of after.topology told said) ++ rest_of (after_line after.topology told said) (said_of after lines) =
    ap (λ ls. rest_of told (said_of state ls)) split
    ∙ (ap (rest_of told) (said_is state line said lines says)
    ∙ line_told state.topology after.topology told said (said_of after lines) (stays_behind state line said lines)) in
    let at : (now : ScriptState) → now ≡ after → then ≡ after_line now.topology told said
    → written ≡ out ++ record_lines now.topology (records_of now.topology told said)
    → written ++ rest_of then (said_of now lines)
    ≡ (out ++ record_lines after.topology (records_of after.topology told said)) ++ rest_of (after_line after.topology told said) (said_of after lines) =
    λ now is told_is written_is.
    ap₂ (λ (w : List ℕ) (t : Told). w ++ rest_of t (said_of now lines)) written_is told_is
    ∙ ap (λ (s : ScriptState). (out ++ record_lines s.topology (records_of s.topology told said)) ++ rest_of (after_line s.topology told said) (said_of s lines)) is in
    at now is told_is written_is
    ∙ (append_assoc out (record_lines after.topology (records_of after.topology told said)) (rest_of (after_line after.topology told said) (said_of after lines))
    ∙ ap (λ r. out ++ r) (sym tells))

pub refused_more : (state now : ScriptState) (line : List ℕ) (said : Line) (rest others : List ℕ)
    → lines_of rest ≡ line ∷ lines_of others → line_says state line ≡ Ok said → now ≡ state_after state line (Ok said)
    → (said_of now (lines_of others)).refused ≡ (said_of state (lines_of rest)).refused
refused_more state now line said rest others split says is =
    ap (λ (s : ScriptState). (said_of s (lines_of others)).refused) is
    ∙ (sym (ap (λ (s : Script). s.refused) (said_is state line said (lines_of others) says))
    ∙ ap (λ ls. (said_of state ls).refused) (sym split))

pub follows_more : (state now : ScriptState) (told then : Told) (line : List ℕ) (said : Line) → Follows state told
    → line_says state line ≡ Ok said → now ≡ state_after state line (Ok said) → then ≡ after_line now.topology told said → Follows now then
follows_more state now told then line said follows says is told_is =
    let next = follows_next state told line said follows (line_is state line said says) in
    moved is (told_is ∙ ap (λ (s : ScriptState). after_line s.topology told said) is) next
  where
    moved : {a b : ScriptState} {x y : Told} → b ≡ a → y ≡ x → Follows a x → Follows b y
    moved {a = a} {b = b} {x = x} {y = y} p q h =
        subst (λ (s : ScriptState). Follows s y) (sym p) (subst (λ (t : Told). Follows a t) (sym q) h)

-- a line counts
pub octets_more : (state : ScriptState) (line : List ℕ) (said : Line) → (state_after state line (Ok said)).octets ≡ state.octets + length line
octets_more state line Blank = refl
octets_more state line (TopologyIs topology) = refl
octets_more state line (EventComes event) = refl
octets_more state line TickAll = refl
octets_more state line (Run rounds) = refl

pub lines_more : (state : ScriptState) (line : List ℕ) (said : Line) → (state_after state line (Ok said)).lines ≡ state.lines + 1
lines_more state line Blank = refl
lines_more state line (TopologyIs topology) = refl
lines_more state line (EventComes event) = refl
lines_more state line TickAll = refl
lines_more state line (Run rounds) = refl

-- *The whole script*
pub whole_said : (octets : List ℕ) → length octets ≤ 16777217 → said_of nothing_read (lines_of octets) ≡ script_of octets
unfolding script_of
whole_said octets within = ap (λ xs. said_of nothing_read (lines_of xs)) (sym (take_all 16777217 octets within))

zero_plus : (a : ℕ) → 0 + a ≡ a
zero_plus a = omega arith

pub whole_told : (octets : List ℕ) → length octets ≤ 16777217 → rest_of nothing_told (said_of nothing_read (lines_of octets)) ≡ ideal_report octets
unfolding ideal_report
whole_told octets within =
    ap (rest_of nothing_told) (whole_said octets within) ∙ by_counts (script_of octets)
  where
    by_counts : (script : Script) → rest_of nothing_told script ≡ ideal script
    by_counts script =
        let records = ideal_records script in
        (λ i. record_lines script.topology records
        ++ last_line_by
        (end_of (zero_plus (length records) i) (zero_plus (count_by is_delivered records) i) (zero_plus (count_by is_dropped records) i)
        (zero_plus (count_by is_refused records) i))
        script.refused)
