-- What may come to a controller, forged frames among it, and what it makes of a list of that

use Rattle.std.specs.Prelude.{ℕ, List, drop, fold, Option, None, Some}
use Rattle.world_model.specs.Words.{Channel, Mark, GivenOut, Cell, RouteChange, Refusal, Journal, inject_refusal, injected, node_restarts, change_comes}
use Rattle.world_model.specs.Controller.{Acted}
use Rattle.world_model.specs.Cells.{cell_comes}
use Rattle.world_model.specs.Ticks.{ticks}
use Rattle.world_model.specs.Sending.{sends}

-- any cell comes, a packet is to enter, a tick, a restart, a change of routes, a forged frame, a cell leaves for
-- the switch; and meanwhile others take notes and are given numbers
pub data Input : Type 0 where
  CellComes : Cell → Input
  PacketEnters : (number : ℕ) → (octets : List ℕ) → Input
  Ticks : Input
  Restarts : Input
  ChangeComes : RouteChange → Input
  FrameIsForged : Channel → Mark → (payload : List ℕ) → Input
  CellLeaves : Input
  Meanwhile : Journal → GivenOut → Input

abbrev pub enters_unless : Acted → (number : ℕ) → (octets : List ℕ) → Option Refusal → Acted
enters_unless a number octets (Some refusal) = a
enters_unless a number octets None = injected a number octets

abbrev pub takes_input : Acted → Input → Acted
takes_input a (CellComes cell) = cell_comes a cell
takes_input a (PacketEnters number octets) = enters_unless a number octets (inject_refusal octets)
takes_input a Ticks = ticks a
takes_input a Restarts = node_restarts a
takes_input a (ChangeComes change) = change_comes a change
takes_input a (FrameIsForged channel mark payload) = sends a channel mark payload
takes_input a CellLeaves = record a { controller = record a.controller { queue = drop 1 a.controller.queue } }
takes_input a (Meanwhile notes numbers) = record a { notes = notes; numbers = numbers }

abbrev pub takes_inputs : Acted → List Input → Acted
takes_inputs a inputs = fold takes_input a inputs
