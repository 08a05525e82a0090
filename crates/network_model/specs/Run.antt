-- A run: the worlds from the opening on, each with the records of its event

use Rattle.std.specs.Prelude.{List, [], ◌∷◌, ◌++◌, flat_map, map}
use Rattle.switch_model.specs.link_model.declared.record.Record.{Record}
use Rattle.controller_model.specs.port_model.Setup.{Policy}
use Rattle.network_model.specs.declared.event.Event.{Event}
use Rattle.network_model.specs.declared.event.Event.TheVariants.{Carry, Tick, TickSwitch}
use Rattle.network_model.specs.Topology.{Topology}
use Rattle.network_model.specs.World.{World, Site, opened}
use Rattle.network_model.specs.Places.{places}
use Rattle.network_model.specs.Step.{step}

-- the records of earlier events are put away; the ledger and what was made stay
abbrev pub put_away : World → World
put_away w = record w { notes = record w.notes { records = [] } }

abbrev pub next : Topology → World → Event → World
next topology w event = step topology (put_away w) event

abbrev pub worlds_from : Topology → World → List Event → List World
worlds_from topology w [] = w ∷ []
worlds_from topology w (event ∷ events) = w ∷ worlds_from topology (next topology w event) events

abbrev pub run : Policy → Topology → List Event → List World
run policy topology events = worlds_from topology (opened policy topology) events

-- the last world of a run
abbrev pub world_after : Topology → World → List Event → World
world_after topology w [] = w
world_after topology w (event ∷ events) = world_after topology (next topology w event) events

-- all records of a run, in order
abbrev pub records_of : List World → List Record
records_of worlds = flat_map (λ (w : World). w.notes.records) worlds

-- *A tick of all*: of each controller in order, and then of each switch
abbrev pub tick_of : Site → Event
tick_of site = Tick site.controller.node

abbrev pub switch_tick_of : Site → Event
switch_tick_of site = TickSwitch site.controller.node

abbrev pub tick_of_all : World → List Event
tick_of_all w = map tick_of w.sites ++ map switch_tick_of w.sites

-- *A round*: one carry of each queue
abbrev pub round : World → List Event
round w = map Carry (places w)
