-- What is so of a switch while it acts: all that it newly tells of its ports is that they are up, and they are

use Rattle.std.specs.Prelude.{◌≡◌, ℕ, ◌≤◌, true, List, ◌∷◌, length, map, Contains}
use Rattle.law_branch_shapes.specs.world_model.Words.{Cell, queue_of, Frame, Setup, control_port, numbers_of, tick_comes, restarted}
use Rattle.law_frame_readings.specs.ordered_lists.Ordered.{Every}
use Rattle.law_branch_shapes.specs.world_model.switch_model.declared.port.PortState.{PortState}
use Rattle.law_branch_shapes.specs.world_model.Switch.{ActedSwitch}
use Rattle.law_branch_shapes.specs.world_model.Controller as controllers
use Rattle.law_branch_shapes.specs.world_model.Ticks.{ticks}
use Rattle.law_input_events.specs.law_input_premises.Steady.{IsSteady}
use Rattle.law_running_worlds.specs.Mode.{Mode}
use Rattle.law_running_worlds.specs.New.{TellsUp, SinceThen}
use Rattle.law_running_worlds.specs.Fine.{IsFine}

-- since an event began, with these frames and so many control marks given out; the cells of its chain are such
pub record IsTelling (setups : List Setup) (Old : Cell → Type 0) (OldChain : Cell → Type 0) (began : List Frame) (marks : ℕ) (a : ActedSwitch) : Type 0 where
  pub queue : SinceThen Old (TellsUp (map (λ (setup : Setup). setup.port) setups)) began marks (queue_of a.switch.crossbar control_port) a.notes.frames a.numbers.controls
  pub chain : Every OldChain a.switch.reassembly.chain
  pub up : Every (λ (state : PortState). state.is_up ≡ true) a.switch.ports
  pub same : numbers_of a.switch.ports ≡ control_port ∷ map (λ (setup : Setup). setup.port) setups
  pub some : 1 ≤ length a.switch.crossbar.queues

-- *A switch* that ticks or restarts, where the old cells are those of two lists
abbrev pub TicksTellUp : Type 0
TicksTellUp = (setups : List Setup) (old chain : List Cell) (began : List Frame) (marks : ℕ) (a : ActedSwitch)
    → IsTelling setups (Contains old) (Contains chain) began marks a → IsTelling setups (Contains old) (Contains chain) began marks (tick_comes a)

abbrev pub RestartsTellUp : Type 0
RestartsTellUp = (setups : List Setup) (old chain : List Cell) (began : List Frame) (marks : ℕ) (a : ActedSwitch)
    → IsTelling setups (Contains old) (Contains chain) began marks a → IsTelling setups (Contains old) (Contains chain) began marks (restarted a)

-- *A controller*, in either mode
pub data IsFineStill (setups : List Setup) (Old : Cell → Type 0) (Gathered : Cell → Type 0) (began : List Frame) (marks : ℕ) (a : controllers.Acted) : Type 0 where
  in_mode : (m : Mode) → IsFine setups Old Gathered began marks m a → IsFineStill setups Old Gathered began marks a

-- and one that ticks
abbrev pub TicksAskShaped : Type 0
TicksAskShaped = (old gathered : List Cell) (began : List Frame) (marks : ℕ) (m : Mode) (a : controllers.Acted) (c : IsSteady a.controller)
    → IsFine c.setups (Contains old) (Contains gathered) began marks m a → IsFineStill c.setups (Contains old) (Contains gathered) began marks (ticks a)
