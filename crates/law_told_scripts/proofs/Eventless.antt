-- a script without lines of events

use Rattle.std.proofs.Common.{◌≡◌, ℕ, ◌+◌, ◌≤◌, List, [], ◌∷◌, Result, Ok, Err, arith, refl, take}
use Rattle.lab_text.specs.Lines.{lines_of}
use Rattle.tell_report.specs.script_model.declared.line.Line.{Line}
use Rattle.tell_report.specs.script_model.declared.line.Line.TheVariants.{Blank, Topology as TopologyIs, Event as EventComes, TickAll, Run}
use Rattle.tell_report.specs.script_model.declared.refusal.LineRefusal.{LineRefusal}
use Rattle.tell_report.specs.script_model.Limits.{input_limit}
use Rattle.tell_report.specs.script_model.Reading.{line_says, state_after}
use Rattle.tell_report.specs.script_model.Script.{script_by, script_from, script_of}
use Rattle.tell_report.specs.script_model.State.{ScriptState, nothing_read}

-- a line that is said leaves no fewer lines of events
no_fewer : (state : ScriptState) (line : List ℕ) (said : Line) → state.event_lines ≤ (state_after state line (Ok said)).event_lines
no_fewer state line Blank = omega arith
no_fewer state line (TopologyIs topology) = omega arith
no_fewer state line (EventComes event) = omega arith
no_fewer state line TickAll = omega arith
no_fewer state line (Run rounds) = omega arith

module _ (says : ScriptState → List ℕ → Result Line LineRefusal) where
  event_lines_grow : (state : ScriptState) (lines : List (List ℕ)) → state.event_lines ≤ (script_from says state lines).event_lines
  event_lines_grow state [] = omega arith
  event_lines_grow state (line ∷ lines) = by (says state line) (λ next. event_lines_grow next lines)
    where
      by : (said : Result Line LineRefusal) → ((next : ScriptState) → next.event_lines ≤ (script_from says next lines).event_lines)
          → state.event_lines ≤ (script_by state line (λ next. script_from says next lines) said).event_lines
      by (Err name) onward = omega arith
      by (Ok said) onward = omega (arith, no_fewer state line said, onward (state_after state line (Ok said)))

  -- *Without lines of events* there are none
  pub none_without_lines : (state : ScriptState) (lines : List (List ℕ)) → (script_from says state lines).event_lines ≡ 0 → (script_from says state lines).events ≡ []
  none_without_lines state [] none = refl
  none_without_lines state (line ∷ lines) none = by (says state line) (λ next. none_without_lines next lines) none
    where
      one : (said : Line) → (state_after state line (Ok said)).event_lines ≡ state.event_lines + 1 → (script_from says (state_after state line (Ok said)) lines).event_lines ≡ 0 → ⊥
      one said more none = omega (arith, more, none, event_lines_grow (state_after state line (Ok said)) lines)

      by : (said : Result Line LineRefusal) → ((next : ScriptState) → (script_from says next lines).event_lines ≡ 0 → (script_from says next lines).events ≡ [])
          → (script_by state line (λ next. script_from says next lines) said).event_lines ≡ 0 → (script_by state line (λ next. script_from says next lines) said).events ≡ []
      by (Err name) onward none = refl
      by (Ok Blank) onward none = onward (state_after state line (Ok Blank)) none
      by (Ok (TopologyIs topology)) onward none = onward (state_after state line (Ok (TopologyIs topology))) none
      by (Ok (EventComes event)) onward none = absurd (one (EventComes event) refl none)
      by (Ok TickAll) onward none = absurd (one TickAll refl none)
      by (Ok (Run rounds)) onward none = absurd (one (Run rounds) refl none)

-- of the octets of a script
pub none_in_octets : (octets : List ℕ) → (script_of octets).event_lines ≡ 0 → (script_of octets).events ≡ []
unfolding script_of
none_in_octets octets none = none_without_lines line_says nothing_read (lines_of (take input_limit octets)) none
