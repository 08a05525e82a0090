-- What waits in a queue is carried, in its order

use Rattle.std.specs.Prelude.{◌≡◌, true, false, List, [], ◌∷◌, ◌++◌, take, Option, None, Some, if◌then◌else◌}
use Rattle.law_world_pace.specs.world_model.Words.{Place, Mark, Cell, Policy, has_entry, Topology, World, IsTopology, IsPlace, IsPlaceIn, IsRun, queue_at, same_queue, next, world_after, is_empty}
use Rattle.law_world_pace.specs.world_model.World.{opened}
use Rattle.law_world_pace.specs.world_model.network_model.declared.event.Event.{Event}
use Rattle.law_world_pace.specs.world_model.network_model.declared.event.Event.TheVariants.{Carry, Lose}
use Rattle.law_passing.specs.telling_model.Passing.{cells_put_at, left, source_of}

-- *What an event takes* from a queue, by a carry or a loss: the cell at its head, or none; and what it loses there
abbrev pub taken_by : World → Option Place → Place → List Cell
taken_by w None place = []
taken_by w (Some own) place = if same_queue own place then take 1 (queue_at w place) else []

abbrev pub taken_at : World → Event → Place → List Cell
taken_at w event place = taken_by w (source_of event) place

abbrev pub lost_at : World → Event → Place → List Cell
lost_at w (Lose own) place = taken_by w (Some own) place
lost_at w event place = []

-- *In a stretch of events*: what is taken from a queue, what is lost there and what is put there, in order
abbrev pub along : (Topology → World → Event → Place → List Cell) → Topology → World → List Event → Place → List Cell
along what topology w [] place = []
along what topology w (event ∷ events) place =
    what topology w event place ++ along what topology (next topology w event) events place

abbrev pub taken_in : Topology → World → List Event → Place → List Cell
taken_in topology w events place = along (λ t v event p. taken_at v event p) topology w events place

abbrev pub lost_in : Topology → World → List Event → Place → List Cell
lost_in topology w events place = along (λ t v event p. lost_at v event p) topology w events place

abbrev pub put_in : Topology → World → List Event → Place → List Cell
put_in topology w events place = along (λ t v event p. cells_put_at t v event p) topology w events place

-- *First in, first out*: what waits in a queue, and then what is put there, is what is taken from it, and then what waits
-- there in the end
abbrev pub CellsComeInOrder : Type 0
CellsComeInOrder = (topology : Topology) (w : World) (events : List Event) (place : Place)
    → queue_at w place ++ put_in topology w events place ≡ taken_in topology w events place ++ queue_at (world_after topology w events) place

-- *This very cell is carried*: a front of the events takes what stood before it, and nothing else of this queue, and behind
-- the front the cell stands at the head, before what stood behind it and what the front put there. The next event carries it
pub record IsCarried (topology : Topology) (w : World) (events : List Event) (place : Place) (before : List Cell) (cell : Cell) (after : List Cell) : Type 0 where
  pub front : List Event
  pub own : Place
  pub rest : List Event
  pub are : events ≡ front ++ Carry own ∷ rest
  pub one_queue : same_queue own place ≡ true
  pub taken_before : taken_in topology w front place ≡ before
  pub waits : queue_at (world_after topology w front) place ≡ cell ∷ after ++ put_in topology w front place

-- so it is with each cell of a queue that is empty in the end, where nothing is lost on it
abbrev pub CellsAreCarried : Type 0
CellsAreCarried = (topology : Topology) (w : World) (events : List Event) (place : Place) (before : List Cell) (cell : Cell) (after : List Cell)
    → queue_at w place ≡ before ++ cell ∷ after → queue_at (world_after topology w events) place ≡ []
    → lost_in topology w events place ≡ [] → IsCarried topology w events place before cell after

-- or where the ledger never has an entry of the cell's frame, whatever else is lost
abbrev pub IsUnlost : Topology → World → List Event → Mark → Type 0
IsUnlost topology w events mark = (front rest : List Event) → events ≡ front ++ rest
    → has_entry (world_after topology w front).notes.entries mark ≡ false

abbrev pub UnlostAreCarried : Type 0
UnlostAreCarried = (topology : Topology) (w : World) (events : List Event) (place : Place) (before : List Cell) (cell : Cell) (after : List Cell)
    → queue_at w place ≡ before ++ cell ∷ after → queue_at (world_after topology w events) place ≡ []
    → IsUnlost topology w events cell.mark → IsCarried topology w events place before cell after

-- *So it is with each that an event puts there*, behind what it leaves of the queue
abbrev pub WhatIsPutIsCarried : Type 0
WhatIsPutIsCarried = (topology : Topology) (w : World) (event : Event) (events : List Event) (place : Place) (before : List Cell) (cell : Cell) (after : List Cell)
    → cells_put_at topology w event place ≡ before ++ cell ∷ after → queue_at (world_after topology (next topology w event) events) place ≡ []
    → IsUnlost topology (next topology w event) events cell.mark
    → IsCarried topology (next topology w event) events place (left w event place ++ before) cell after

-- *In a run* a queue is carried from under one name alone
abbrev pub QueuesHaveOneName : Type 0
QueuesHaveOneName = (topology : Topology) (one other : Place) → IsTopology topology → IsPlace topology one → IsPlace topology other
    → same_queue one other ≡ true → one ≡ other

abbrev pub RunsCarryByName : Type 0
RunsCarryByName = (policy : Policy) (topology : Topology) (past events : List Event) (place : Place) (before : List Cell) (cell : Cell) (after : List Cell)
    → IsRun policy topology (past ++ events) → IsPlace topology place
    → (is : IsCarried topology (world_after topology (opened policy topology) past) events place before cell after) → is.own ≡ place

-- *Empty links* have no queue with a cell
abbrev pub EmptyQueuesAreEmpty : Type 0
EmptyQueuesAreEmpty = (w : World) (place : Place) → is_empty w ≡ true → IsPlaceIn w place → queue_at w place ≡ []
