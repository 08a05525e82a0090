-- What is to be so of every run: the answers are those of the plain machine, and the switch never holds
-- anything else than its map

use Rattle.std.specs.Prelude.{◌≡◌, ℕ, ◌+◌, ◌^◌, ◌<◌, ◌≤◌, ◌⊎◌, Bool, true, false, List, [], ◌∷◌, ◌++◌, All, length, take}
use Rattle.std.specs.FinMap.{get}
use Rattle.std.specs.List.{list_any}
use Rattle.net_types.specs.declared.node.PortNo.{PortNo}
use Rattle.net_types.specs.declared.channel.End.{End}
use Rattle.link_model.specs.declared.record.Record.{Record}
use Rattle.link_model.specs.declared.record.Record.TheVariants.{Chance}
use Rattle.crossbar_model.specs.Crossbar.{output_of}
use Rattle.world_model.specs.Switch.{Switch}
use Rattle.world_model.specs.Limits.{event_limit}
use Rattle.console_model.specs.declared.event.ConsoleEvent.{ConsoleEvent}
use Rattle.console_model.specs.declared.event.ConsoleEvent.TheVariants.{Add, Move, Delete, Clear, Verify}
use Rattle.console_model.specs.Plain.{Links, map_after, answers_of}
use Rattle.console_model.specs.Lab.{Lab, opened}
use Rattle.console_model.specs.Steps.{next, lab_after}

-- *Events that lines can say*: an end has VPI 0 and a port 1 to 8
abbrev pub IsPort : PortNo → Type 0
IsPort port = (1 ≤ port.0) × (port.0 ≤ 8)

pub record IsEnd (end : End) : Type 0 where
  pub port : IsPort end.port
  pub vpi : end.channel.vpi ≡ 0
  pub vci : end.channel.vci < 2 ^ 16

abbrev pub CanCome : ConsoleEvent → Type 0
CanCome (Add input output) = IsEnd input × IsEnd output
CanCome (Move input from to) = IsEnd input × IsEnd from × IsEnd to
CanCome (Delete input) = IsEnd input
CanCome (Clear port) = IsPort port
CanCome (Verify input) = IsEnd input
CanCome event = Unit {0}

-- *Chances*: all records of a run, in order, and whether one is a chance
abbrev pub records_along : Lab → List ConsoleEvent → List Record
records_along lab [] = []
records_along lab (event ∷ events) = (next lab event).notes.records ++ records_along (next lab event) events

abbrev pub is_chance : Record → Bool
is_chance (Chance mark) = true
is_chance item = false

abbrev pub HasNoChance : Lab → List ConsoleEvent → Type 0
HasNoChance lab events = list_any is_chance (records_along lab events) ≡ false

-- *The answers* are those of the plain machine to the first commands
abbrev pub AnswersAreRight : (ports : ℕ) → Lab → Type 0
AnswersAreRight ports lab = lab.answers ≡ take (length lab.answers) (answers_of ports lab.commands)

-- *The map* is the plain machine's: each input leads where it does there
abbrev pub IsMap : Switch → Links → Type 0
IsMap s m = (input : End) → output_of s.crossbar.branches input ≡ get m input

-- after the commands that are answered, or, where a command is left, after that one too
abbrev pub MapIsRight : (ports : ℕ) → Lab → Type 0
MapIsRight ports lab =
    let answered = length lab.answers in
    IsMap lab.switch (map_after ports (take answered lab.commands))
    ⊎ ((answered < length lab.commands) × IsMap lab.switch (map_after ports (take (answered + 1) lab.commands)))

pub record IsRight (ports : ℕ) (lab : Lab) : Type 0 where
  pub answers : AnswersAreRight ports lab
  pub map : MapIsRight ports lab

-- *The law*: behind any events without a chance. The events before a moment of a run are events too, so
-- it holds at each moment
pub record IsRun (ports : ℕ) (events : List ConsoleEvent) : Type 0 where
  pub port_range : (1 ≤ ports) × (ports ≤ 8)
  pub can_come : All CanCome events
  pub few : length events < event_limit
  pub no_chance : HasNoChance (opened ports) events

abbrev pub EveryRunIsRight : Type 0
EveryRunIsRight = (ports : ℕ) (events : List ConsoleEvent) → IsRun ports events → IsRight ports (lab_after (opened ports) events)
