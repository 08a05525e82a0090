-- What each event makes of the lab

use Rattle.std.specs.Prelude.{◌+◌, List, [], ◌∷◌, ◌++◌, slice_get, Option, None, Some, if◌then◌else◌}
use Rattle.net_types.specs.declared.adjacency.Party.{Party}
use Rattle.atm_cells.specs.declared.cell.Cell.{Cell}
use Rattle.adjacency_table.specs.declared.message.Answer.{Answer}
use Rattle.adjacency_table.specs.declared.message.Answer.TheVariants.{Reset}
use Rattle.adjacency_table.specs.declared.message.Said.{Said}
use Rattle.adjacency_table.specs.Side.{Step, is_estab, ticked}
use Rattle.link_model.specs.declared.record.Record.TheVariants.{Loss}
use Rattle.link_model.specs.declared.record.Cause.TheVariants.{Lost}
use Rattle.frame_model.specs.Reassembly.{cut, nothing_taken}
use Rattle.crossbar_model.specs.Crossbar.{popped, queue_of}
use Rattle.gsmp_wire.specs.declared.request.Request.{Request}
use Rattle.gsmp_wire.specs.declared.request.Request.TheVariants.{AddBranch, MoveBranch, DeleteTree, VerifyTree, DeleteAll}
use Rattle.port_model.specs.Desk.{Standing}
use Rattle.world_model.specs.Switch.{control_port}
use Rattle.world_model.specs.Conduct as switch
use Rattle.console_model.specs.declared.event.Side.{Side}
use Rattle.console_model.specs.declared.event.Side.TheVariants as side
use Rattle.console_model.specs.declared.event.ConsoleEvent.{ConsoleEvent}
use Rattle.console_model.specs.declared.event.ConsoleEvent.TheVariants.{Add, Move, Delete, Clear, Verify, Carry, Lose, Tick, Restart}
use Rattle.console_model.specs.Lab.{Lab, at_switch, note}
use Rattle.console_model.specs.Asking.{asks_next, resets, sends_request}
use Rattle.console_model.specs.Hearing.{cell_comes, steps}

-- *A command* joins those that wait, and is asked at once where nothing is in its way
abbrev pub commands : Lab → Request → Lab
commands lab command = asks_next (record lab { commands = lab.commands ++ command ∷ [] })

-- *A cell is carried* to the other side, or lost
abbrev pub with_queue : Lab → List Cell → Lab
with_queue lab cells = record lab { console = record lab.console { queue = cells } }

abbrev pub without_head : Lab → Lab
without_head lab = record lab { switch = record lab.switch { crossbar = popped lab.switch.crossbar control_port } }

abbrev pub carries_down : Lab → List Cell → Lab
carries_down lab [] = lab
carries_down lab (cell ∷ cells) = at_switch (with_queue lab cells) (λ a. switch.cell_comes a control_port cell)

abbrev pub carries_up : Lab → List Cell → Lab
carries_up lab [] = lab
carries_up lab (cell ∷ cells) = cell_comes (without_head lab) cell

abbrev pub carries : Lab → Side → Lab
carries lab side.Console = carries_down lab lab.console.queue
carries lab side.Switch = carries_up lab (queue_of lab.switch.crossbar control_port)

abbrev pub loses_down : Lab → List Cell → Lab
loses_down lab [] = lab
loses_down lab (cell ∷ cells) = note (with_queue lab cells) (Loss cell.mark Lost)

abbrev pub loses_up : Lab → List Cell → Lab
loses_up lab [] = lab
loses_up lab (cell ∷ cells) = note (without_head lab) (Loss cell.mark Lost)

abbrev pub loses : Lab → Side → Lab
loses lab side.Console = loses_down lab lab.console.queue
loses lab side.Switch = loses_up lab (queue_of lab.switch.crossbar control_port)

-- *A tick*: the adjacency's message first; then in Estab the request that stands is sent again
abbrev pub sends_first : Lab → Option Standing → Lab
sends_first lab None = lab
sends_first lab (Some s) = sends_request lab s

abbrev pub sends_again : Lab → Lab
sends_again lab =
    if is_estab lab.console.adjacency.state then sends_first lab (slice_get lab.console.desk.standing 0) else lab

-- a reset ends the tick
abbrev pub ticks_by : Lab → Step Party → Answer (Said Party) Party → Lab
ticks_by lab step Reset = resets lab
ticks_by lab step answer = sends_again (steps lab step)

abbrev pub ticks_with : Lab → Step Party → Lab
ticks_with lab step = ticks_by lab step step.answer

abbrev pub ticks : Lab → Side → Lab
ticks lab side.Console = ticks_with lab (ticked lab.console.adjacency)
ticks lab side.Switch = at_switch lab switch.tick_comes

-- *The console starts again*: it is reset, its chain is cut, and a skipping ends. It keeps its commands and
-- their answers
abbrev pub restarts : Lab → Lab
restarts lab =
    let after = resets lab in
    record after {
      console = record after.console { reassembly = nothing_taken };
      notes = cut lab.notes lab.console.reassembly;
    }

-- *One event*
abbrev pub acts : Lab → ConsoleEvent → Lab
acts lab (Add input output) = commands lab (AddBranch input output)
acts lab (Move input from to) = commands lab (MoveBranch input from to)
acts lab (Delete input) = commands lab (DeleteTree input)
acts lab (Clear port) = commands lab (DeleteAll port)
acts lab (Verify input) = commands lab (VerifyTree input)
acts lab (Carry from) = carries lab from
acts lab (Lose from) = loses lab from
acts lab (Tick of) = ticks lab of
acts lab Restart = restarts lab

abbrev pub step : Lab → ConsoleEvent → Lab
step lab event =
    let after = acts lab event in
    record after { events = lab.events + 1 }

-- *A run*: the records of earlier events are put away; the ledger and what was made stay
abbrev pub put_away : Lab → Lab
put_away lab = record lab { notes = record lab.notes { records = [] } }

abbrev pub next : Lab → ConsoleEvent → Lab
next lab event = step (put_away lab) event

abbrev pub lab_after : Lab → List ConsoleEvent → Lab
lab_after lab [] = lab
lab_after lab (event ∷ events) = lab_after (next lab event) events
