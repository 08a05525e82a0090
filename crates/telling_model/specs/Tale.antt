-- The account of a script: what is told where its network opens, of each event, and at last

use Rattle.std.specs.Prelude.{ℕ, ◌==◌, List, [], ◌∷◌, ◌++◌, if◌then◌else◌}
use Rattle.script_model.specs.port_model.Setup.{Policy}
use Rattle.script_model.specs.world_model.Run.{next, put_away, world_after}
use Rattle.script_model.specs.world_model.Topology.{Topology}
use Rattle.script_model.specs.world_model.World.{World, opened}
use Rattle.script_model.specs.Script.{Script}
use Rattle.telling_model.specs.declared.ended.Ended.{Ended}
use Rattle.telling_model.specs.Placed.{Placed}

-- some octets, and what one who tells them knows then
pub record Telling (S : Type 0) : Type 0 where
  pub octets : List ℕ
  pub state : S

-- how the reading of a script ended: how many lines were events, and what was refused
abbrev pub ended_as : Script → Ended
ended_as script = record { event_lines = script.event_lines; refused = script.refused }

-- *A tale*: what is told of a network as it opens; of an event, by what is known from those before it, and by the world
-- that it comes to; and at last, of the last world
pub record Tale (S : Type 0) : Type 0 where
  pub opens : Topology → World → Telling S
  pub tells : S → Topology → World → Placed → Telling S
  pub ends : Topology → World → Ended → List ℕ

-- *Events*, one after the other; the records of earlier events are put away
abbrev pub after : {S : Type 0} → (first rest : Telling S) → Telling S
after first rest = record { octets = first.octets ++ rest.octets; state = rest.state }

abbrev pub told : {S : Type 0} → Tale S → S → Topology → World → List Placed → Telling S
told tale state topology w [] = record { octets = []; state = state }
told tale state topology w (placed ∷ others) =
    let first = tale.tells state topology (put_away w) placed in
    after first (told tale first.state topology (next topology w placed.event) others)

-- *From the opening on*
abbrev pub told_of : {S : Type 0} → Tale S → Policy → Topology → List Placed → Telling S
told_of tale policy topology events =
    let w = opened policy topology in
    let first = tale.opens topology w in
    after first (told tale first.state topology w events)

-- the network opens at the first line of events
abbrev pub body : {S : Type 0} → Tale S → Policy → Script → List Placed → List ℕ
body tale policy script events =
    if script.event_lines == 0 then [] else (told_of tale policy script.topology events).octets

-- a world without its notes
abbrev pub unnoted : World → World
unnoted w = record w { notes = record { records = []; entries = []; frames = [] } }

-- *At last*, of the last world
abbrev pub told_at_last : {S : Type 0} → Tale S → Policy → Script → List ℕ
told_at_last tale policy script =
    tale.ends script.topology (unnoted (world_after script.topology (opened policy script.topology) script.events)) (ended_as script)

-- *The account of a script*, whose network opens at last where there was no event
abbrev pub account : {S : Type 0} → Tale S → Policy → Script → List Placed → List ℕ
account tale policy script events =
    (told_of tale policy script.topology events).octets ++ told_at_last tale policy script
