-- lines are taken one after another

use Rattle.std.proofs.Common.{◌≡◌, ℕ, ◌+◌, true, false, List, [], ◌∷◌, ◌++◌, append_assoc, append-nil, length, length-append, None, Some, Result, Ok, Err, refl, sym, ◌∙◌, ap, subst, arith}
use Rattle.std.specs.Prelude.{◌<◌, is_ok}
use Rattle.std.proofs.lemmas.Bool.Decides.{nat_tests}
use Rattle.std.proofs.lemmas.List.Sums.{sum_by-append, sum_by-cons}
use Rattle.script_model.specs.world_model.network_model.declared.event.Event.{Event}
use Rattle.script_model.specs.world_model.network_model.declared.line.TopologyLine.{TopologyLine}
use Rattle.script_model.specs.world_model.network_model.declared.line.TopologyLine.TheVariants as lines
use Rattle.script_model.specs.declared.line.Line.{Line}
use Rattle.script_model.specs.declared.line.Line.TheVariants.{Blank, Topology as TopologyIs, Event as EventComes, TickAll, Run}
use Rattle.script_model.specs.declared.refusal.LineRefusal.{LineRefusal}
use Rattle.script_model.specs.declared.refusal.Refused.TheVariants.{Line as LineIs}
use Rattle.script_model.specs.Meaning.{is_late}
use Rattle.script_model.specs.Reading.{line_says, state_after, string_says}
use Rattle.script_model.specs.Sayable.{IsSayable}
use Rattle.script_model.specs.Script.{Script, script_ended, events_of, preceded_by, number_of, script_by, script_from}
use Rattle.script_model.specs.State.{ScriptState, nothing_read}
use Rattle.script_text.proofs.Sayings.{line_is_sayable, string_is_sayable}
use Rattle.script_text.specs.Counts.{counted_up_to}
use Rattle.network_run.specs.telling_model.Placed.{Placed, events_in, placed_by, placed_events, placed_from}
use Rattle.network_run.proofs.telling_model.Told.{events_append, events_placed}
use Rattle.script_text.specs.Taking.{IsAfter, Takes}
use Rattle.script_text.specs.declared.fault.ReadFault.{ReadFault}
use Rattle.script_text.specs.declared.fault.ReadFault.TheVariants as read
use Rattle.network_replay.specs.Along.{AreTaken, HasBegun, IsRead, IsReading}
use Rattle.network_replay.specs.Lines.{HasCounted, has_events, says_by}
use Rattle.network_replay.specs.declared.form.LineForm.{LineForm}
use Rattle.network_replay.specs.declared.form.LineForm.TheVariants as forms

-- *What is read can be said*
pub lines_are_read : IsReading line_says
lines_are_read = record { sayable = λ state line said e. line_is_sayable state _ line (Ok said) (e, refl) }

pub strings_are_read : IsReading string_says
strings_are_read = record { sayable = λ state text said e. string_is_sayable state _ text (Ok said) (e, refl) }

pub forms_are_read : (form : LineForm) → IsReading (says_by form)
forms_are_read forms.Script = lines_are_read
forms_are_read forms.Document = strings_are_read

-- *Behind the first line of events* the topology stays
late : (state : ScriptState) (line : TopologyLine) → HasBegun state → is_late state line ≡ true
late state (lines.Version version) begun = begun.has_line
late state line begun = let above = begun.event_lines in grind (arith, nat_tests)

pub begun_stays : (state : ScriptState) (line : List ℕ) (said : Line) → HasBegun state → IsSayable state said
    → HasBegun (state_after state line (Ok said)) × ((state_after state line (Ok said)).topology ≡ state.topology)
begun_stays state line Blank begun can = (record { event_lines = begun.event_lines; has_line = begun.has_line }, refl)
begun_stays state line (TopologyIs topology) begun can =
    let bad : true ≡ false = sym (late state topology begun) ∙ can.1 in
    absurd (cc)
begun_stays state line (EventComes event) begun can = (record { event_lines = omega (arith, begun.event_lines); has_line = refl }, refl)
begun_stays state line TickAll begun can = (record { event_lines = omega (arith, begun.event_lines); has_line = refl }, refl)
begun_stays state line (Run rounds) begun can = (record { event_lines = omega (arith, begun.event_lines); has_line = refl }, refl)

pub begins : (state : ScriptState) (line : List ℕ) (said : Line) → has_events said ≡ true
    → HasBegun (state_after state line (Ok said)) × ((state_after state line (Ok said)).topology ≡ state.topology)
begins state line Blank is = absurd (cc is)
begins state line (TopologyIs topology) is = absurd (cc is)
begins state line (EventComes event) is = (record { event_lines = omega arith; has_line = refl }, refl)
begins state line TickAll is = (record { event_lines = omega arith; has_line = refl }, refl)
begins state line (Run rounds) is = (record { event_lines = omega arith; has_line = refl }, refl)

pub never_late : (state : ScriptState) (line : TopologyLine) → HasBegun state → IsSayable state (TopologyIs line) → ⊥
never_late state line begun can = (let bad : true ≡ false = sym (late state line begun) ∙ can.1 in cc bad)

-- *Counts*
octets_more : (state : ScriptState) (line : List ℕ) (said : Line) → (state_after state line (Ok said)).octets ≡ state.octets + length line
octets_more state line Blank = refl
octets_more state line (TopologyIs topology) = refl
octets_more state line (EventComes event) = refl
octets_more state line TickAll = refl
octets_more state line (Run rounds) = refl

pub lines_more : (state : ScriptState) (line : List ℕ) (said : Line) → (state_after state line (Ok said)).lines ≡ state.lines + 1
lines_more state line Blank = refl
lines_more state line (TopologyIs topology) = refl
lines_more state line (EventComes event) = refl
lines_more state line TickAll = refl
lines_more state line (Run rounds) = refl

pub has_counted : (old new later : ScriptState) (line : List ℕ) (read : Result Line ReadFault) → IsAfter old line new read → later ≡ new → is_ok read ≡ true → HasCounted old line later
has_counted old new later line (Ok said) after same is = subst (λ (s : ScriptState). HasCounted old line s) (sym (same ∙ after)) (octets_more old line said, lines_more old line said)
has_counted old new later line (Err fault) after same is = absurd (cc is)

pub events_more : (placed : List Placed) (number : ℕ) (events : List Event) → events_in (placed ++ placed_events number events) ≡ events_in placed ++ events
events_more placed number events = events_append placed (placed_events number events) ∙ ap (λ es. events_in placed ++ es) (events_placed number events)

led_twice : (some others : List Event) (script : Script) → preceded_by some (preceded_by others script) ≡ preceded_by (some ++ others) script
led_twice some others script = ap (λ (events : List Event). record script { events = events }) (sym (append_assoc some others script.events))

module _ (says : ScriptState → List ℕ → Result Line LineRefusal) where
  pub taken_first : AreTaken says [] nothing_read []
  taken_first = record { onward = λ others. refl; placed_onward = λ others. refl; octets = refl; count = refl }

  -- a line that is said
  pub onward_said : (lines : List (List ℕ)) (state : ScriptState) (placed : List Placed) (line : List ℕ) (said : Line) (others : List (List ℕ)) → AreTaken says lines state placed → says state line ≡ Ok said
      → script_from says nothing_read (lines ++ line ∷ others)
      ≡ preceded_by (events_in (placed ++ placed_events (number_of state) (events_of state.topology said))) (script_from says (state_after state line (Ok said)) others)
  onward_said lines state placed line said others a e =
      let next : Script = script_from says (state_after state line (Ok said)) others in
      a.onward (line ∷ others)
      ∙ ap (λ (r : Result Line LineRefusal). preceded_by (events_in placed) (script_by state line (λ next. script_from says next others) r)) e
      ∙ led_twice (events_in placed) (events_of state.topology said) next
      ∙ ap (λ (es : List Event). preceded_by es next) (sym (events_more placed (number_of state) (events_of state.topology said)))

  pub placed_said : (lines : List (List ℕ)) (state : ScriptState) (placed : List Placed) (line : List ℕ) (said : Line) (others : List (List ℕ)) → AreTaken says lines state placed → says state line ≡ Ok said
      → placed_from says nothing_read (lines ++ line ∷ others)
      ≡ (placed ++ placed_events (number_of state) (events_of state.topology said)) ++ placed_from says (state_after state line (Ok said)) others
  placed_said lines state placed line said others a e =
      a.placed_onward (line ∷ others)
      ∙ ap (λ (r : Result Line LineRefusal). placed ++ placed_by state line (λ next. placed_from says next others) r) e
      ∙ sym (append_assoc placed (placed_events (number_of state) (events_of state.topology said)) (placed_from says (state_after state line (Ok said)) others))

  pub taken_next : (lines : List (List ℕ)) (state now : ScriptState) (placed : List Placed) (line : List ℕ) (said : Line) → AreTaken says lines state placed → says state line ≡ Ok said
      → now ≡ state_after state line (Ok said) → AreTaken says (lines ++ line ∷ []) now (placed ++ placed_events (number_of state) (events_of state.topology said))
  taken_next lines state now placed line said a e is =
      let more : List Placed = placed_events (number_of state) (events_of state.topology said) in
      subst (λ (s : ScriptState). AreTaken says (lines ++ line ∷ []) s (placed ++ more)) (sym is) (record {
        onward = λ others. ap (script_from says nothing_read) (append_assoc lines (line ∷ []) others) ∙ onward_said lines state placed line said others a e;
        placed_onward = λ others. ap (placed_from says nothing_read) (append_assoc lines (line ∷ []) others) ∙ placed_said lines state placed line said others a e;
        octets = octets_more state line said ∙ omega (arith, a.octets, sum_by-append length lines (line ∷ []), sum_by-cons length line []);
        count = lines_more state line said ∙ omega (arith, a.count, length-append lines (line ∷ []));
      })

  -- a line that is refused, and the end
  pub onward_refused : (lines : List (List ℕ)) (state : ScriptState) (placed : List Placed) (line : List ℕ) (name : LineRefusal) (others : List (List ℕ)) → AreTaken says lines state placed → says state line ≡ Err name
      → script_from says nothing_read (lines ++ line ∷ others) ≡ preceded_by (events_in placed) (script_ended state (Some (LineIs (number_of state) name)))
  onward_refused lines state placed line name others a e =
      a.onward (line ∷ others) ∙ ap (λ (r : Result Line LineRefusal). preceded_by (events_in placed) (script_by state line (λ next. script_from says next others) r)) e

  pub placed_refused : (lines : List (List ℕ)) (state : ScriptState) (placed : List Placed) (line : List ℕ) (name : LineRefusal) (others : List (List ℕ)) → AreTaken says lines state placed → says state line ≡ Err name
      → placed_from says nothing_read (lines ++ line ∷ others) ≡ placed
  placed_refused lines state placed line name others a e =
      a.placed_onward (line ∷ others) ∙ ap (λ (r : Result Line LineRefusal). placed ++ placed_by state line (λ next. placed_from says next others) r) e ∙ append-nil placed

  pub onward_end : (lines : List (List ℕ)) (state : ScriptState) (placed : List Placed) → AreTaken says lines state placed → script_from says nothing_read lines ≡ preceded_by (events_in placed) (script_ended state None)
  onward_end lines state placed a = ap (script_from says nothing_read) (sym (append-nil lines)) ∙ a.onward []

  pub placed_end : (lines : List (List ℕ)) (state : ScriptState) (placed : List Placed) → AreTaken says lines state placed → placed_from says nothing_read lines ≡ placed
  placed_end lines state placed a = ap (placed_from says nothing_read) (sym (append-nil lines)) ∙ a.placed_onward [] ∙ append-nil placed

  -- behind the first line of events the topology stays, and there are lines of events
  abbrev Stays : ScriptState → Script → Type 0
  Stays state script = (script.topology ≡ state.topology) × (0 < script.event_lines)

  pub stays : IsReading says → (state : ScriptState) (others : List (List ℕ)) → HasBegun state → Stays state (script_from says state others)
  stays reading state [] begun = (refl, begun.event_lines)
  stays reading state (line ∷ others) begun = by (says state line) refl (λ next begun. stays reading next others begun)
    where
      by : (said : Result Line LineRefusal) → says state line ≡ said
          → ((next : ScriptState) → HasBegun next → Stays next (script_from says next others))
          → Stays state (script_by state line (λ next. script_from says next others) said)
      by (Err name) e onward = (refl, begun.event_lines)
      by (Ok said) e onward =
          let kept = begun_stays state line said begun (reading.sayable state line said e) in
          let behind = onward (state_after state line (Ok said)) kept.0 in
          (behind.0 ∙ kept.1, behind.1)

-- *A line that is read* is what the definition says
pub is_read : (says : ScriptState → List ℕ → Result Line LineRefusal) (old now : ScriptState) (line : List ℕ) (result : Result Line ReadFault) → Takes (counted_up_to old line) (says old line) now result → IsAfter old line now result
    → IsRead says old line result now
is_read says old now line (Ok said) taken after = (taken.0, after)
is_read says old now line (Err (read.Refused name)) taken after = (taken.0, after, ap (λ (s : ScriptState). s.lines) after)
is_read says old now line (Err (read.OutOfMemory error)) taken after = tt
