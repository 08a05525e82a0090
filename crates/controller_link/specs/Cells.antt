-- What a controller keeps in its region of slots, as plain data

use Rattle.std.specs.Prelude.{ℕ, Bool, true, false, ◌+◌, ◌-◌, ◌≤◌, ◌&&◌, nat_le, List, [], length, map, Option, is_some}
use Rattle.std.specs.Option.{option_map_or}
use Rattle.std.specs.List.{sum_by}
use Rattle.net_types.specs.declared.node.PortNo.{PortNo}
use Rattle.atm_cells.specs.declared.cell.Cell.{Cell}
use Rattle.frame_model.specs.Reassembly.{Reassembly, nothing_taken}
use Rattle.keyed_lists.specs.Keyed.{at, put}
use Rattle.world_model.specs.controller_model.declared.range.PortRange.{PortRange}
use Rattle.world_model.specs.Controller.{LabelChain, chain_of, chain_slots, chains_with}
use Rattle.controller_link.specs.declared.taker.Taker.{Taker}
use Rattle.controller_link.specs.declared.taker.Taker.TheVariants.{Gsmp, Default, Label}

-- a linked port: the range of its labels, what its default channel makes of its cells, and the channels of
-- its labels that have cells or skip, in the order of the labels
pub record PortCells : Type 0 where
  pub range : PortRange
  pub reassembly : Reassembly
  pub chains : List LabelChain

-- how many slots there are; the cells that wait for the switch; what the GSMP channel makes of its cells;
-- the linked ports, ascending
pub record ControlCells : Type 0 where
  pub cells : ℕ
  pub queue : List Cell
  pub reassembly : Reassembly
  pub ports : List PortCells

-- the least label isn't above the greatest
abbrev pub IsRange : PortRange → Type 0
IsRange range = range.lo ≤ range.hi

-- before the first cell
abbrev pub opened : List PortRange → (cells : ℕ) → ControlCells
opened ranges cells = record {
  cells = cells;
  queue = [];
  reassembly = nothing_taken;
  ports = map (λ range. record { range = range; reassembly = nothing_taken; chains = [] }) ranges;
}

-- *Look-ups*
abbrev pub range_key : PortRange → ℕ
range_key range = range.port.0

abbrev pub range_at : List PortRange → PortNo → Option PortRange
range_at ranges port = at range_key port.0 ranges

abbrev pub port_key : PortCells → ℕ
port_key port = range_key port.range

abbrev pub port_at : ControlCells → PortNo → Option PortCells
port_at x port = at port_key port.0 x.ports

abbrev pub ranges_of : ControlCells → List PortRange
ranges_of x = map (λ port. port.range) x.ports

-- a channel: that of a port that is linked, and of a label in its range
abbrev pub is_label_of : PortRange → (number : ℕ) → Bool
is_label_of range number = nat_le range.lo number && nat_le number range.hi

abbrev pub is_channel : List PortRange → Taker → Bool
is_channel ranges Gsmp = true
is_channel ranges (Default port) = is_some (range_at ranges port)
is_channel ranges (Label port number) = option_map_or (λ range. is_label_of range number) (range_at ranges port) false

-- *The reassembly of a channel*, and after it changed
abbrev pub reassembly_of : ControlCells → Taker → Reassembly
reassembly_of x Gsmp = x.reassembly
reassembly_of x (Default port) = option_map_or (λ p. p.reassembly) (port_at x port) nothing_taken
reassembly_of x (Label port number) = option_map_or (λ p. chain_of p.chains number) (port_at x port) nothing_taken

abbrev pub with_port : ControlCells → PortCells → ControlCells
with_port x port = record x { ports = put port_key port x.ports }

abbrev pub with_reassembly : ControlCells → Taker → Reassembly → ControlCells
with_reassembly x Gsmp r = record x { reassembly = r }
with_reassembly x (Default port) r = option_map_or (λ p. with_port x (record p { reassembly = r })) (port_at x port) x
with_reassembly x (Label port number) r =
    option_map_or (λ p. with_port x (record p { chains = chains_with p.chains number r })) (port_at x port) x

-- *Slots*: each that isn't free holds a cell of the queue or of a chain
abbrev pub port_slots : PortCells → ℕ
port_slots port = chain_slots port.reassembly + sum_by (λ c. chain_slots c.reassembly) port.chains

abbrev pub used_slots : ControlCells → ℕ
used_slots x = length x.queue + (chain_slots x.reassembly + sum_by port_slots x.ports)

abbrev pub free_slots : ControlCells → ℕ
free_slots x = x.cells - used_slots x
