-- the events of a script, with the numbers of their lines and without

use Rattle.std.proofs.Common.{◌≡◌, ℕ, List, [], ◌∷◌, ◌++◌, Result, Ok, Err, refl, ◌∙◌, ap}
use Rattle.script_model.specs.lab_text.Lines.{lines_of}
use Rattle.std.specs.Prelude.{take}
use Rattle.script_model.specs.world_model.network_model.declared.event.Event.{Event}
use Rattle.script_model.specs.declared.line.Line.{Line}
use Rattle.script_model.specs.declared.refusal.LineRefusal.{LineRefusal}
use Rattle.script_model.specs.Limits.{input_limit}
use Rattle.script_model.specs.Reading.{line_says, state_after}
use Rattle.script_model.specs.Script.{events_of, number_of, script_by, script_from, script_of}
use Rattle.script_model.specs.State.{ScriptState, nothing_read}
use Rattle.telling_model.specs.Placed.{Placed, events_in, placed_by, placed_events, placed_from, placed_of}
use Rattle.telling_model.proofs.Told.{events_append, events_placed}

module _ (says : ScriptState → List ℕ → Result Line LineRefusal) where
  line_events : (state : ScriptState) (line : List ℕ) (lines : List (List ℕ)) (said : Result Line LineRefusal)
      → ((next : ScriptState) → events_in (placed_from says next lines) ≡ (script_from says next lines).events)
      → events_in (placed_by state line (λ next. placed_from says next lines) said) ≡ (script_by state line (λ next. script_from says next lines) said).events
  line_events state line lines (Err name) onward = refl
  line_events state line lines (Ok said) onward =
      let events : List Event = events_of state.topology said in
      let others : List Placed = placed_from says (state_after state line (Ok said)) lines in
      events_append (placed_events (number_of state) events) others
      ∙ ap (λ es. es ++ events_in others) (events_placed (number_of state) events)
      ∙ ap (λ es. events ++ es) (onward (state_after state line (Ok said)))

  pub script_events : (state : ScriptState) (lines : List (List ℕ)) → events_in (placed_from says state lines) ≡ (script_from says state lines).events
  script_events state [] = refl
  script_events state (line ∷ lines) = line_events state line lines (says state line) (λ next. script_events next lines)

pub events_of_script : (octets : List ℕ) → events_in (placed_of octets) ≡ (script_of octets).events
unfolding placed_of script_of
events_of_script octets = script_events line_says nothing_read (lines_of (take input_limit octets))
