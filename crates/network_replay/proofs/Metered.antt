-- the meter where a line ends early

use Rattle.std.proofs.Common.{◌≡◌, ◌⊎◌, inl, inr, ℕ, List, [], ◌∷◌, ◌++◌, append_assoc, length, take, Option, None, Some, Result, Ok, Err, OnErr, refl, sym, ◌∙◌, ap, subst, arith}
use Rattle.link_model.specs.Notes.{Journal}
use Rattle.port_model.specs.Setup.{Policy}
use Rattle.script_model.specs.world_model.Controller.{Controller}
use Rattle.script_model.specs.world_model.network_model.declared.event.Event.{Event}
use Rattle.script_model.specs.world_model.Run.{next}
use Rattle.script_model.specs.world_model.Topology.{Topology}
use Rattle.script_model.specs.world_model.World.{World, opened}
use Rattle.script_model.specs.declared.line.Line.{Line}
use Rattle.script_model.specs.declared.line.Line.TheVariants.{Blank, Topology as TopologyIs, Event as EventComes, TickAll, Run}
use Rattle.script_model.specs.declared.refusal.LineRefusal.{LineRefusal}
use Rattle.script_model.specs.declared.refusal.Refused.{Refused}
use Rattle.script_model.specs.Reading.{state_after}
use Rattle.script_model.specs.Script.{Script, events_of, preceded_by, number_of, script_from}
use Rattle.script_model.specs.State.{ScriptState, nothing_read}
use Rattle.script_text.specs.declared.fault.ReadFault.{ReadFault}
use Rattle.script_text.specs.declared.fault.ReadFault.TheVariants as read
use Rattle.network_run.specs.telling_model.Placed.{Placed, events_in, placed_events}
use Rattle.world.specs.declared.counts.Meter.{Meter}
use Rattle.world.specs.declared.world.World.{World as Network}
use Rattle.world.specs.Counted.{reading_of}
use Rattle.lab_io.specs.declared.stop.Stop.{Stop}
use Rattle.network_run.specs.Telling.{IsMeterIn, meter_behind}
use Rattle.network_run.proofs.Repeated.{meter_among}
use Rattle.network_run.proofs.Turns.{all_taken}
use Rattle.network_replay.specs.Along.{AreTaken, HasBegun, HasNetwork, IsKept, IsMetered, IsReading, world_behind}
use Rattle.network_replay.specs.Lines.{unsaid}
use Rattle.network_replay.proofs.Taking.{begins, begun_stays, events_more, onward_said, stays}

-- *One event*: the meter is before it or behind it
pub one_in : (q : Result (Unit {0}) Stop) (before meter : Meter) (t : Topology) (w : World) (event : Event) → OnErr q ((meter ≡ before) ⊎ (meter ≡ reading_of (next t w event))) → OnErr q (IsMeterIn before t w (event ∷ []) meter)
one_in (Ok v) before meter t w event k = tt
one_in (Err stop) before meter t w event (inl is) = record { count = 0; within = omega arith; reading = is }
one_in (Err stop) before meter t w event (inr is) = record { count = 1; within = omega arith; reading = is }

-- *It stays* where the topology does, and before the first event
pub meter_stays : {C : Type 0} (seen : C → Controller) (choice : Topology → Policy) (before : Meter) (state : ScriptState) (topology : Topology) (notes : Journal) (world : Option (Network C)) (events : List Event)
    → HasNetwork seen choice state notes world events → (HasBegun state → topology ≡ state.topology)
    → meter_behind before state.topology (opened (choice state.topology) state.topology) events ≡ meter_behind before topology (opened (choice topology) topology) events
meter_stays seen choice before state topology notes None events h stay =
    ap (meter_behind before state.topology (opened (choice state.topology) state.topology)) h.events_are ∙ sym (ap (meter_behind before topology (opened (choice topology) topology)) h.events_are)
meter_stays seen choice before state topology notes (Some n) events h stay = ap (λ (t : Topology). meter_behind before t (opened (choice t) t) events) (sym (stay h.0))

-- *As it was*
pub as_before : (choice : Topology → Policy) (before meter : Meter) (script : Script) → meter ≡ before → IsMetered choice before script meter
as_before choice before meter script is = record { count = 0; within = omega arith; reading = is }

-- *Behind all*
pub all_metered : (choice : Topology → Policy) (before meter : Meter) (script : Script) → meter ≡ meter_behind before script.topology (opened (choice script.topology) script.topology) script.events → IsMetered choice before script meter
all_metered choice before meter script is = record {
  count = length script.events;
  within = omega arith;
  reading = is ∙ ap (meter_behind before script.topology (opened (choice script.topology) script.topology)) (sym (all_taken script.events));
}

-- *Among a script's events*: behind some of those that follow others
among : (choice : Topology → Policy) (before meter after : Meter) (script : Script) (t : Topology) (some others rest : List Event) → script.topology ≡ t → script.events ≡ some ++ (others ++ rest)
    → meter ≡ meter_behind before t (opened (choice t) t) some → IsMeterIn meter t (world_behind choice t some) others after → IsMetered choice before script after
among choice before meter after script t some others rest topology events was k =
    subst (λ (u : Topology). IsMeterIn before u (opened (choice u) u) script.events after) (sym topology)
    (subst (λ (es : List Event). IsMeterIn before t (opened (choice t) t) es after) (sym events)
    (meter_among before t (opened (choice t) t) some others rest after (subst (λ (m : Meter). IsMeterIn m t (world_behind choice t some) others after) was k)))

module _ {C : Type 0} (seen : C → Controller) (choice : Topology → Policy) (says : ScriptState → List ℕ → Result Line LineRefusal) (reading : IsReading says) (lines : List (List ℕ)) (line : List ℕ) (before : Meter) (state : ScriptState)
    (notes : Journal) (world : Option (Network C)) (placed : List Placed) (a : AreTaken says lines state placed) (h : HasNetwork seen choice state notes world (events_in placed)) (meter : Meter)
    (was : meter ≡ meter_behind before state.topology (opened (choice state.topology) state.topology) (events_in placed)) where
  abbrev script_with : List (List ℕ) → Script
  script_with others = script_from says nothing_read (lines ++ line ∷ others)

  abbrev Said : (now : ScriptState) → (after : Meter) → (others : List (List ℕ)) → Line → Type 0
  Said now after others said = says state line ≡ Ok said → now ≡ state_after state line (Ok said)
      → IsMeterIn meter now.topology (world_behind choice now.topology (events_in placed)) (events_of state.topology said) after
      → IsMetered choice before (script_with others) after

  -- *A line that is said* ended early
  pub said_metered : (now : ScriptState) (said : Line) (after : Meter) → says state line ≡ Ok said → now ≡ state_after state line (Ok said)
      → IsMeterIn meter now.topology (world_behind choice now.topology (events_in placed)) (events_of state.topology said) after
      → (others : List (List ℕ)) → IsMetered choice before (script_with others) after
  said_metered now said after e is k others = by world said h e is k
    where
      begun : (said : Line) → HasBegun (state_after state line (Ok said)) → (HasBegun state → (state_after state line (Ok said)).topology ≡ state.topology) → Said now after others said
      begun said has stay e is k =
          let t : Topology = now.topology in
          let next : Script = script_from says (state_after state line (Ok said)) others in
          let named : t ≡ (state_after state line (Ok said)).topology = ap (λ (s : ScriptState). s.topology) is in
          let script : script_with others ≡ preceded_by (events_in (placed ++ placed_events (number_of state) (events_of state.topology said))) next = onward_said says lines state placed line said others a e in
          let behind = stays says reading (state_after state line (Ok said)) others has in
          among choice before meter after (script_with others) t (events_in placed) (events_of state.topology said) next.events
          (ap (λ (s : Script). s.topology) script ∙ behind.0 ∙ sym named)
          (ap (λ (s : Script). s.events) script ∙ ap (λ (es : List Event). es ++ next.events) (events_more placed (number_of state) (events_of state.topology said))
          ∙ append_assoc (events_in placed) (events_of state.topology said) next.events)
          (was ∙ meter_stays seen choice before state t notes world (events_in placed) h (λ b. named ∙ stay b)) k

      quiet : (said : Line) → events_in placed ≡ [] → events_of state.topology said ≡ [] → Said now after others said
      quiet said none nothing e is k =
          let same : IsMeterIn meter now.topology (world_behind choice now.topology (events_in placed)) [] after =
          subst (λ (es : List Event). IsMeterIn meter now.topology (world_behind choice now.topology (events_in placed)) es after) nothing k in
          let zero : same.count ≡ 0 = omega (arith, same.within) in
          as_before choice before after (script_with others)
          (same.reading ∙ ap (λ (n : ℕ). meter_behind meter now.topology (world_behind choice now.topology (events_in placed)) (take n [])) zero
          ∙ was ∙ ap (meter_behind before state.topology (opened (choice state.topology) state.topology)) none)

      by : (world : Option (Network C)) (said : Line) → HasNetwork seen choice state notes world (events_in placed) → Said now after others said
      by (Some n) said h e is k =
          let kept = begun_stays state line said h.0 (reading.sayable state line said e) in
          begun said kept.0 (λ b. kept.1) e is k
      by None Blank h e is k = quiet Blank h.events_are refl e is k
      by None (TopologyIs topology) h e is k = quiet (TopologyIs topology) h.events_are refl e is k
      by None (EventComes event) h e is k = begun (EventComes event) (begins state line (EventComes event) refl).0 (λ b. refl) e is k
      by None TickAll h e is k = begun TickAll (begins state line TickAll refl).0 (λ b. refl) e is k
      by None (Run rounds) h e is k = begun (Run rounds) (begins state line (Run rounds) refl).0 (λ b. refl) e is k

  -- *No line* was read
  pub unread_metered : (others : List (List ℕ)) → IsMetered choice before (script_with others) meter
  unread_metered others = by world h
    where
      by : (world : Option (Network C)) → HasNetwork seen choice state notes world (events_in placed) → IsMetered choice before (script_with others) meter
      by None h = as_before choice before meter (script_with others) (was ∙ ap (meter_behind before state.topology (opened (choice state.topology) state.topology)) h.events_are)
      by (Some n) h =
          let next : Script = script_from says state (line ∷ others) in
          let script : script_with others ≡ preceded_by (events_in placed) next = a.onward (line ∷ others) in
          let behind = stays says reading state (line ∷ others) h.0 in
          among choice before meter meter (script_with others) state.topology (events_in placed) [] next.events
          (ap (λ (s : Script). s.topology) script ∙ behind.0) (ap (λ (s : Script). s.events) script) was
          (record { count = 0; within = omega arith; reading = refl })

  pub unsaid_metered : (number : ℕ) (fault : ReadFault) → IsKept choice says before lines line (unsaid number fault) meter
  unsaid_metered number (read.Refused name) = tt
  unsaid_metered number (read.OutOfMemory error) = unread_metered

-- *As it is passed on*
pub err_metered : (choice : Topology → Policy) (says : ScriptState → List ℕ → Result Line LineRefusal) (before : Meter) (lines : List (List ℕ)) (line : List ℕ) (result : Result (Option Refused) Stop) (meter : Meter)
    → ((others : List (List ℕ)) → IsMetered choice before (script_from says nothing_read (lines ++ line ∷ others)) meter) → IsKept choice says before lines line result meter
err_metered choice says before lines line (Ok found) meter h = tt
err_metered choice says before lines line (Err stop) meter h = h
