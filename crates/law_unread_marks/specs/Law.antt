-- Marks and notes are for the ledger: nothing that acts reads them

use Rattle.std.specs.Prelude.{◌≡◌, List}
use Rattle.world_model.specs.network_model.declared.event.Event.{Event}
use Rattle.world_model.specs.Words.{Topology, World, next, world_after}
use Rattle.law_unmarked_controllers.specs.Unmarked.{unmarked, unmarked_records}

-- *Alike*: two worlds that differ in marks and notes alone
abbrev pub AreAlike : World → World → Type 0
AreAlike w v = unmarked w ≡ unmarked v

-- *An event*, also a frame that is forged, whose payload is the script's, makes such worlds of such worlds
abbrev pub EventsReadNoMark : Type 0
EventsReadNoMark = (topology : Topology) (w v : World) (event : Event) → AreAlike w v → AreAlike (next topology w event) (next topology v event)

-- and the actors record the same in it, but for the numbers of packets: what is delivered has the same octets
abbrev pub EventsTellNoMark : Type 0
EventsTellNoMark = (topology : Topology) (w v : World) (event : Event) → AreAlike w v
    → unmarked_records (next topology w event).notes.records ≡ unmarked_records (next topology v event).notes.records

-- *Events in a row* make such worlds of such worlds
abbrev pub RunsReadNoMark : Type 0
RunsReadNoMark = (topology : Topology) (w v : World) (events : List Event) → AreAlike w v
    → AreAlike (world_after topology w events) (world_after topology v events)

-- so the marks and notes may be taken away before an event: what becomes of all else is the same
abbrev pub MarksMayBeTaken : Type 0
MarksMayBeTaken = (topology : Topology) (w : World) (event : Event) → AreAlike (next topology w event) (next topology (unmarked w) event)
