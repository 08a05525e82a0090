-- What is so of a controller while it acts: all that it newly asks has a shape, and once all ports are told to be up they stay so

use Rattle.std.specs.Prelude.{ℕ, ◌≤◌, List, Contains}
use Rattle.law_branch_shapes.specs.world_model.Words.{Cell, IsLinkPort, Request, Frame, last_transaction, Setup, asks, node_resets}
use Rattle.law_frame_readings.specs.ordered_lists.Ordered.{Every}
use Rattle.law_frame_readings.specs.law_port_facts.Port.{IsShaped}
use Rattle.law_branch_shapes.specs.world_model.Controller.{Acted}
use Rattle.law_input_events.specs.law_input_premises.Read.{AreRead}
use Rattle.law_running_worlds.specs.Mode.{Mode, Told, Untold, IsMild, Knows}
use Rattle.law_running_worlds.specs.New.{AsksShaped, SinceThen}

-- what may be asked before that: no Delete All
abbrev pub Allows : Mode → Request → Type 0
Allows Told request = Unit {0}
Allows Untold request = IsMild request

-- since an event began, with these frames and so many control marks given out; its cells are such and so are those that it
-- has gathered
pub record IsFine (setups : List Setup) (Old : Cell → Type 0) (Gathered : Cell → Type 0) (began : List Frame) (marks : ℕ) (m : Mode) (a : Acted) : Type 0 where
  pub queue : SinceThen Old (AsksShaped setups) began marks a.controller.queue a.notes.frames a.numbers.controls
  pub gathered : Every Gathered a.controller.reassembly.chain
  pub reads : AreRead setups a.controller.desk.rows
  pub room : a.controller.desk.next ≤ last_transaction
  pub knows : Knows setups m a.controller

-- *A request that has a shape* is asked, or the node is reset: it stays so, where the old cells are those of two lists
abbrev pub RequestsKeepFine : Type 0
RequestsKeepFine = (setups : List Setup) (old gathered : List Cell) (began : List Frame) (marks : ℕ) (m : Mode) (a : Acted) (request : Request)
    → Every (λ (setup : Setup). IsLinkPort setup.port) setups → IsShaped setups request → Allows m request → IsFine setups (Contains old) (Contains gathered) began marks m a → IsFine setups (Contains old) (Contains gathered) began marks m (asks a request)

abbrev pub ResetsKeepFine : Type 0
ResetsKeepFine = (setups : List Setup) (old gathered : List Cell) (began : List Frame) (marks : ℕ) (m : Mode) (a : Acted)
    → Every (λ (setup : Setup). IsLinkPort setup.port) setups → IsFine setups (Contains old) (Contains gathered) began marks m a → IsFine setups (Contains old) (Contains gathered) began marks m (node_resets a)
