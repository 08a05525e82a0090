-- A switch as plain data. Its ports and their sessions are RFC 1987's; the limit of slots, the names
-- of the parties and the count of cells are this project's own.

use Rattle.std.specs.Prelude.{ℕ, Bool, true, false, ◌+◌, ◌-◌, ◌==◌, List, [], ◌∷◌, length, map, replicate, find, Option, is_some, if◌then◌else◌}
use Rattle.std.specs.List.{sum_by}
use Rattle.std.specs.Option.{option_map_or}
use Rattle.std.specs.FinMap.{empty}
use Rattle.net_types.specs.declared.node.NodeId.{NodeId}
use Rattle.net_types.specs.declared.node.PortNo.{PortNo}
use Rattle.net_types.specs.declared.number.Instance.{Instance}
use Rattle.net_types.specs.declared.channel.Channel.{Channel}
use Rattle.net_types.specs.declared.adjacency.Party.{Party}
use Rattle.net_types.specs.Number.{GivenOut}
use Rattle.adjacency_table.specs.declared.State.TheVariants.{SynSent}
use Rattle.adjacency_table.specs.Side.{Side, fresh}
use Rattle.frame_model.specs.link_model.Notes.{Journal}
use Rattle.frame_model.specs.Reassembly.{Reassembly, nothing_taken}
use Rattle.crossbar_model.specs.Crossbar.{Branches, Crossbar}
use Rattle.switch_model.specs.declared.port.PortState.{PortState}

-- its ports, the control port 0 first and then those of links, ascending; its branches and the cells
-- that wait at its ports; what it makes of the cells of the GSMP channel; its side of the adjacency
-- with its controller; how many cells it switched from a port of a link to a port of a link; how many
-- slots it has; and how many VPIs labels may have on a link, from 0 on: 1 or 16
pub record Switch : Type 0 where
  pub node : NodeId
  pub ports : List PortState
  pub crossbar : Crossbar
  pub reassembly : Reassembly
  pub adjacency : Side Party
  pub switched : ℕ
  pub cells : ℕ
  pub vpis : ℕ

-- a switch in a run: with the notes of the run, and the numbers that the run has given out
pub record ActedSwitch : Type 0 where
  pub switch : Switch
  pub notes : Journal
  pub numbers : GivenOut

-- the control port, and the channel of GSMP there: VPI 0, VCI 15 (RFC 1987)
abbrev pub control_port : PortNo
control_port = record { 0 = 0 }

abbrev pub gsmp_channel : Channel
gsmp_channel = record { vpi = 0; vci = 15 }

-- a slot holds one cell of a queue or of the chain
abbrev pub used_slots : Switch → ℕ
used_slots s = sum_by length s.crossbar.queues + length s.reassembly.chain

abbrev pub free_slots : Switch → ℕ
free_slots s = s.cells - used_slots s

abbrev pub numbers_of : List PortState → List PortNo
numbers_of ports = map (λ state. state.number) ports

-- what is known of a port, if the switch has it
abbrev pub state_of_port : List PortState → PortNo → Option PortState
state_of_port ports port = find (λ state. state.number.0 == port.0) ports

abbrev pub has_port : List PortState → PortNo → Bool
has_port ports port = is_some (state_of_port ports port)

abbrev pub is_up : List PortState → PortNo → Bool
is_up ports port = option_map_or (λ state. state.is_up) (state_of_port ports port) false

abbrev pub has_session : List PortState → PortNo → (session : ℕ) → Bool
has_session ports port session = option_map_or (λ state. state.session == session) (state_of_port ports port) false

-- a port is changed, and the others stay
abbrev pub with_port : PortNo → (PortState → PortState) → List PortState → List PortState
with_port port change [] = []
with_port port change (state ∷ states) =
    if state.number.0 == port.0 then change state ∷ states else state ∷ with_port port change states

-- the branches are changed
abbrev pub with_branches : Switch → Branches → Switch
with_branches s branches = record s { crossbar = record s.crossbar { branches = branches } }

-- the two parties of the i-th node have the names 02 00 00 00 00 i and 02 00 00 00 01 i, and port 0
abbrev pub controller_party : NodeId → Instance → Party
controller_party node own = record { name = 2 ∷ 0 ∷ 0 ∷ 0 ∷ 0 ∷ node.0 ∷ []; port = 0; instance = own }

abbrev pub switch_party : NodeId → Instance → Party
switch_party node own = record { name = 2 ∷ 0 ∷ 0 ∷ 0 ∷ 1 ∷ node.0 ∷ []; port = 0; instance = own }

-- a port that begins anew: it is up, and its session is the switch's instance
abbrev pub begun : Instance → PortNo → PortState
begun own port = record { number = port; is_up = true; session = own.0 }

-- a new switch: no branch, no cell, and an adjacency that has heard nobody
abbrev pub opened : NodeId → List PortNo → (cells vpis : ℕ) → Instance → Switch
opened node ports cells vpis own = record {
  node = node;
  ports = map (begun own) (control_port ∷ ports);
  crossbar = record { branches = empty; queues = replicate 9 [] };
  reassembly = nothing_taken;
  adjacency = fresh SynSent (switch_party node own);
  switched = 0;
  cells = cells;
  vpis = vpis;
}
