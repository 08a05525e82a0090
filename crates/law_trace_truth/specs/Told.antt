-- The trace of a run, line by line

use Rattle.std.specs.Prelude.{List, [], ◌∷◌, ◌++◌, map}
use Rattle.world_model.specs.Words.{Mark, Policy, next, Topology, World}
use Rattle.trace_model.specs.declared.line.TraceLine.{TraceLine}
use Rattle.trace_model.specs.declared.line.TraceLine.TheVariants as said
use Rattle.world_model.specs.network_model.declared.event.Event.{Event}
use Rattle.world_model.specs.World.{opened}
use Rattle.tell_trace.specs.Passages.{Passage, line_said}
use Rattle.tell_trace.specs.Trace.{links_told, event_told}

-- *What is told of events*, from a world on, where the frames of these marks were told
abbrev pub events_told : Topology → (marks : List Mark) → World → List Event → List Passage
events_told topology marks w [] = []
events_told topology marks w (event ∷ events) =
    let told = event_told marks topology w event in
    told.passages ++ events_told topology told.marks (next topology w event) events

-- *Of a run*: the links, and then event by event what passes on them
abbrev pub run_told : Policy → Topology → List Event → List Passage
run_told policy topology events = links_told topology ++ events_told topology [] (opened policy topology) events

-- *Its trace*, in the order of its lines, with the last one
abbrev pub lines_said : Topology → List Passage → List TraceLine
lines_said topology passages = map (line_said topology) passages ++ said.End ∷ []

abbrev pub trace_told : Policy → Topology → List Event → List TraceLine
trace_told policy topology events = lines_said topology (run_told policy topology events)
