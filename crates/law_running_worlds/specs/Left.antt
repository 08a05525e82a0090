-- What an event leaves of what is said between a controller and its switch: nothing but what may be said

use Rattle.std.specs.Prelude.{◌≡◌, ℕ, ◌≤◌, true, List, map, Some}
use Rattle.law_branch_shapes.specs.world_model.Words.{PortNo, Cell, PortRow, Frame, queue_of, Standing, control_port, Setup, Controller, Site, gsmp_under, copy_under}
use Rattle.law_branch_shapes.specs.world_model.gsmp_wire.declared.message.Message.TheVariants.{AllPorts}
use Rattle.law_frame_readings.specs.ordered_lists.Ordered.{Every}
use Rattle.law_branch_shapes.specs.world_model.switch_model.declared.port.PortState.{PortState}
use Rattle.law_frame_readings.specs.law_port_facts.Port.{IsShaped}
use Rattle.law_frame_readings.specs.law_world_views.Between.{AreUp, setups_of}
use Rattle.law_running_worlds.specs.New.{AsksShaped, TellsUp, SinceThen}
use Rattle.law_running_worlds.specs.Mode.{Mode, Knows}

abbrev pub port_list : List Setup → List PortNo
port_list setups = map (λ (setup : Setup). setup.port) setups

-- *An old cell*: its mark was given out, and what was made under it is what may be said
pub record OldAsks (setups : List Setup) (began : List Frame) (marks : ℕ) (cell : Cell) : Type 0 where
  pub low : cell.mark.packet ≡ 0 → cell.mark.frame ≤ marks
  pub asks : (s : Standing) → copy_under began cell.mark ≡ Some s → IsShaped setups s.request

pub record OldTells (ports : List PortNo) (began : List Frame) (marks : ℕ) (cell : Cell) : Type 0 where
  pub low : cell.mark.packet ≡ 0 → cell.mark.frame ≤ marks
  pub tells : (code number : ℕ) (rows : List PortRow) → gsmp_under began cell.mark ≡ Some (AllPorts 3 code number rows) → AreUp rows ports

-- in either mode
pub data IsKnown (setups : List Setup) (c : Controller) : Type 0 where
  known : (m : Mode) → Knows setups m c → IsKnown setups c

-- *A site* since an event began
pub record Left (began : List Frame) (marks : ℕ) (frames : List Frame) (controls : ℕ) (setups : List Setup) (site : Site) : Type 0 where
  pub to_switch : SinceThen (OldAsks setups began marks) (AsksShaped setups) began marks site.controller.queue frames controls
  pub chain : Every (OldAsks setups began marks) site.switch.reassembly.chain
  pub to_controller : SinceThen (OldTells (port_list setups) began marks) (TellsUp (port_list setups)) began marks (queue_of site.switch.crossbar control_port) frames controls
  pub gathered : Every (OldTells (port_list setups) began marks) site.controller.reassembly.chain
  pub up : Every (λ (state : PortState). state.is_up ≡ true) site.switch.ports
  pub knows : IsKnown setups site.controller

abbrev pub IsLeft : (began : List Frame) → (marks : ℕ) → (frames : List Frame) → (controls : ℕ) → Site → Type 0
IsLeft began marks frames controls site = Left began marks frames controls (setups_of site.controller) site
