-- The lab: a console and its switch, with the two queues between them. The console is a client of GSMP
-- (RFC 1987); its limits are this project's own.

use Rattle.std.specs.Prelude.{ℕ, Bool, ◌+◌, ◌-◌, List, [], length, map, flat_map, count_by, is_some}
use Rattle.std.specs.List.{range_with_len}
use Rattle.net_types.specs.declared.node.NodeId.{NodeId}
use Rattle.net_types.specs.declared.node.PortNo.{PortNo}
use Rattle.net_types.specs.declared.channel.End.{End}
use Rattle.net_types.specs.declared.adjacency.Party.{Party}
use Rattle.net_types.specs.Number.{GivenOut, next_instance, with_instance}
use Rattle.atm_cells.specs.declared.cell.Cell.{Cell}
use Rattle.adjacency_table.specs.declared.State.TheVariants.{SynSent}
use Rattle.adjacency_table.specs.Side.{Side, fresh}
use Rattle.link_model.specs.declared.record.Record.{Record}
use Rattle.link_model.specs.Notes.{Journal, noted}
use Rattle.frame_model.specs.Reassembly.{Reassembly, nothing_taken}
use Rattle.crossbar_model.specs.Crossbar.{output_of}
use Rattle.gsmp_wire.specs.declared.request.Request.{Request}
use Rattle.port_model.specs.Desk.{Desk, empty_desk}
use Rattle.world_model.specs.Opening.{controller_party}
use Rattle.world_model.specs.Switch as switch
use Rattle.world_model.specs.Switch.{Switch}
use Rattle.console_model.specs.declared.reply.Reply.{Reply}

-- its side of the adjacency with the switch; the request that stands, the next transaction number and the
-- sessions of the last answer to All Ports; what it makes of the cells that come; the cells that wait for
-- the switch; and how many slots it has
pub record Console : Type 0 where
  pub adjacency : Side Party
  pub desk : Desk
  pub reassembly : Reassembly
  pub queue : List Cell
  pub cells : ℕ

-- the commands in the order of their lines, and the answers of the first of them; the console and its
-- switch; the numbers that were given out, and the notes of the run; how many events there were
pub record Lab : Type 0 where
  pub commands : List Request
  pub answers : List Reply
  pub console : Console
  pub switch : Switch
  pub numbers : GivenOut
  pub notes : Journal
  pub events : ℕ

-- *Slots*: one holds one cell of the chain or of the queue
abbrev pub free_slots : Console → ℕ
free_slots c = c.cells - (length c.queue + length c.reassembly.chain)

-- *Changes*
abbrev pub with_desk : Lab → Desk → Lab
with_desk lab desk = record lab { console = record lab.console { desk = desk } }

abbrev pub with_side : Lab → Side Party → Lab
with_side lab side = record lab { console = record lab.console { adjacency = side } }

abbrev pub note : Lab → Record → Lab
note lab item = record lab { notes = noted lab.notes item }

-- the switch acts, and is put back
abbrev pub at_switch : Lab → (switch.ActedSwitch → switch.ActedSwitch) → Lab
at_switch lab act =
    let a = act (record { switch = lab.switch; notes = lab.notes; numbers = lab.numbers }) in
    record lab { switch = a.switch; notes = a.notes; numbers = a.numbers }

-- *Branches* of the switch: a command can make one for an input of VPI 0 at a port 1 to 8, and no switch
-- connects a VCI above 1023
abbrev pub input_at : (port vci : ℕ) → End
input_at port vci = record { port = record { 0 = port }; channel = record { vpi = 0; vci = vci } }

unfoldable pub inputs_on : (vcis port : ℕ) → List End
inputs_on vcis port = map (input_at port) (range_with_len 0 vcis)

unfoldable pub inputs_to : (ports vcis : ℕ) → List End
inputs_to ports vcis = flat_map (inputs_on vcis) (range_with_len 1 ports)

abbrev pub has_branch : Switch → End → Bool
has_branch s input = is_some (output_of s.crossbar.branches input)

abbrev pub branch_count : Switch → ℕ
branch_count s = count_by (has_branch s) (inputs_to 8 1024)

-- *Opening*: the two have the names of a first node's controller and switch. The console draws its
-- instance first. The switch has port 0 and these ports, on each of which it connects VPI 0 alone
abbrev pub the_node : NodeId
the_node = record { 0 = 1 }

abbrev pub ports_to : ℕ → List PortNo
ports_to n = map (λ port. record { 0 = port }) (range_with_len 1 n)

-- each of the two has so many slots
abbrev pub region_cells : ℕ
region_cells = 1024

abbrev pub nothing_given : GivenOut
nothing_given = record { instances = 0; controls = 0 }

abbrev pub nothing_noted : Journal
nothing_noted = record { records = []; entries = []; frames = [] }

abbrev pub opened_console : Console
opened_console = record {
  adjacency = fresh SynSent (controller_party the_node (next_instance nothing_given));
  desk = empty_desk;
  reassembly = nothing_taken;
  queue = [];
  cells = region_cells;
}

abbrev pub opened : (ports : ℕ) → Lab
opened ports =
    let numbers = with_instance nothing_given in
    record {
      commands = [];
      answers = [];
      console = opened_console;
      switch = switch.opened the_node (ports_to ports) region_cells 1 (next_instance numbers);
      numbers = with_instance numbers;
      notes = nothing_noted;
      events = 0;
    }
