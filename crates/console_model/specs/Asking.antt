-- What a console sends, and when it asks (RFC 1987). That a command is asked once the one before it is
-- answered is this project's own.

use Rattle.std.specs.Prelude.{ℕ, Bool, ◌&&◌, ◌==◌, List, ◌++◌, length, slice_get, Option, None, Some, if◌then◌else◌}
use Rattle.net_types.specs.declared.number.Mark.{Mark}
use Rattle.net_types.specs.Number.{next_control, with_control, next_instance, with_instance}
use Rattle.atm_cells.specs.declared.cell.Cell.{Cell}
use Rattle.adjacency_table.specs.declared.State.TheVariants.{SynSent}
use Rattle.adjacency_table.specs.Side.{fresh, is_estab}
use Rattle.gsmp_wire.specs.declared.message.Message.{Message}
use Rattle.gsmp_wire.specs.Layout.{octets_of}
use Rattle.gsmp_wire.specs.declared.request.Request.{Request}
use Rattle.gsmp_wire.specs.declared.request.Request.TheVariants.{AllPorts}
use Rattle.frame_model.specs.Sending.{Sender, sent_frame}
use Rattle.port_model.specs.Desk.{Standing, asked, emptied, message_at}
use Rattle.world_model.specs.Switch.{gsmp_channel}
use Rattle.console_model.specs.Lab.{Console, Lab, free_slots, with_desk, with_side}

-- *Sending*: the cells of a message's frame join the queue to the switch, all of them or none
abbrev pub with_cells : Console → List Cell → Console
with_cells c cells = record c { queue = c.queue ++ cells }

abbrev pub sends : Lab → Mark → (payload : List ℕ) → Lab
sends lab mark payload =
    let before : Sender Console = record { queues = lab.console; notes = lab.notes } in
    let after = sent_frame (free_slots lab.console) (with_cells lab.console) before gsmp_channel mark payload in
    record lab { console = after.queues; notes = after.notes }

-- its frame has the next control mark
abbrev pub says : Lab → Message → Lab
says lab message =
    sends (record lab { numbers = with_control lab.numbers }) (next_control lab.numbers) (octets_of message)

-- *Asking*: a request is asked under the next transaction number, and sent
abbrev pub sends_request : Lab → Standing → Lab
sends_request lab s = says lab (message_at lab.console.desk s)

abbrev pub asks : Lab → Request → Lab
asks lab request =
    sends_request (with_desk lab (asked lab.console.desk request))
    (record { number = lab.console.desk.next; request = request })

-- *On entering Estab* what stands is withdrawn, and all ports are asked for; transaction numbers go on
abbrev pub meets : Lab → Lab
meets lab = asks (with_desk lab (emptied lab.console.desk)) AllPorts

-- *The first command that isn't answered* is asked where the two know each other and nothing stands: so
-- neither All Ports nor the command before it
abbrev pub next_command : Lab → Option Request
next_command lab = slice_get lab.commands (length lab.answers)

abbrev pub may_ask : Console → Bool
may_ask c = is_estab c.adjacency.state && length c.desk.standing == 0

abbrev pub asks_by : Lab → Option Request → Lab
asks_by lab None = lab
asks_by lab (Some command) = asks lab command

abbrev pub asks_next : Lab → Lab
asks_next lab = if may_ask lab.console then asks_by lab (next_command lab) else lab

-- *Reset*: the adjacency begins anew with a new instance, and nothing is sent. All else stays: the request
-- that stands, the numbers, the sessions, the chain
abbrev pub resets : Lab → Lab
resets lab =
    with_side (record lab { numbers = with_instance lab.numbers })
    (fresh SynSent (record lab.console.adjacency.own { instance = next_instance lab.numbers }))
