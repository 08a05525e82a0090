-- the octets of the trace of a script are those of its lines

use Rattle.std.proofs.Common.{◌≡◌, ℕ, List, [], ◌∷◌, ◌++◌, codes, None, refl, sym, ◌∙◌, ap, ap₂}
use Rattle.std.proofs.lemmas.Grind.{flat_map-append}
use Rattle.law_trace_truth.specs.lab_text.Text.{line_of}
use Rattle.world_model.specs.Words.{Mark, Policy, next, Topology, World}
use Rattle.law_trace_truth.specs.script_model.Reports.{last_line_by}
use Rattle.law_trace_truth.specs.script_model.Script.{script_of}
use Rattle.law_passing.specs.telling_model.Placed.{Placed, events_in, placed_of}
use Rattle.law_passing.specs.telling_model.Tale.{told}
use Rattle.law_passing.proofs.telling_model.Scripts.{events_of_script}
use Rattle.world_model.specs.World.{opened}
use Rattle.tell_trace.specs.Passages.{passage_line, passage_lines}
use Rattle.tell_trace.specs.Trace.{links_told, event_told, trace_tale}
use Rattle.law_trace_truth.specs.Told.{events_told, run_told}
use Rattle.law_trace_reading.specs.Law.{trace_of_script}

events_are : (topology : Topology) (marks : List Mark) (w : World) (placed : List Placed) → (told trace_tale marks topology w placed).octets ≡ passage_lines topology (events_told topology marks w (events_in placed))
events_are topology marks w [] = refl
events_are topology marks w (placed ∷ others) =
    ap (λ (xs : List ℕ). passage_lines topology (event_told marks topology w placed.event).passages ++ xs) (events_are topology (event_told marks topology w placed.event).marks (next topology w placed.event) others)
    ∙ sym (flat_map-append (passage_line topology) (event_told marks topology w placed.event).passages (events_told topology (event_told marks topology w placed.event).marks (next topology w placed.event) (events_in others)))

pub octets_are : (policy : Policy) (octets : List ℕ) → (script_of octets).refused ≡ None
    → trace_of_script policy octets ≡ passage_lines (script_of octets).topology (run_told policy (script_of octets).topology (script_of octets).events) ++ line_of (codes "end" ∷ [])
octets_are policy octets accepted =
    let topology : Topology = (script_of octets).topology in
    let w : World = opened policy topology in
    ap₂ (λ (xs ys : List ℕ). xs ++ ys)
    (ap (λ (xs : List ℕ). passage_lines topology (links_told topology) ++ xs) (events_are topology [] w (placed_of octets) ∙ ap (λ es. passage_lines topology (events_told topology [] w es)) (events_of_script octets))
    ∙ sym (flat_map-append (passage_line topology) (links_told topology) (events_told topology [] w (script_of octets).events)))
    (ap (last_line_by (line_of (codes "end" ∷ []))) accepted)
