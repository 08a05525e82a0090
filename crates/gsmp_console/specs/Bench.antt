-- A lab as its code holds it, without the notes of the run

use Rattle.std.specs.Prelude.{◌≡◌, ℕ, ◌+◌, ◌*◌, ◌≤◌, ◌<◌, ◌^◌, List}
use Rattle.net_types.specs.Number.{GivenOut, next_instance, with_instance}
use Rattle.adjacency_table.specs.declared.State.TheVariants.{SynSent}
use Rattle.adjacency_table.specs.Side.{fresh}
use Rattle.gsmp_wire.specs.declared.message.Message.{Message}
use Rattle.gsmp_wire.specs.declared.message.Message.TheVariants.{AllPorts}
use Rattle.link_model.specs.Notes.{Journal}
use Rattle.gsmp_wire.specs.declared.request.Request.{Request}
use Rattle.atm_cells.specs.declared.cell.Cell.{Cell}
use Rattle.world_model.specs.Conduct.{cell_comes}
use Rattle.world_model.specs.Switch.{Switch, control_port}
use Rattle.console_model.specs.declared.reply.Reply.{Reply}
use Rattle.console_model.specs.declared.reply.Reply.TheVariants.{Failed}
use Rattle.console_model.specs.Asking.{resets}
use Rattle.console_model.specs.Hearing.{answers}
use Rattle.console_model.specs.declared.event.Side.TheVariants.{Console}
use Rattle.console_model.specs.Lab as lab
use Rattle.console_model.specs.Lab.{Lab, at_switch}
use Rattle.console_model.specs.Steps.{carries}

pub record Held : Type 0 where
  pub commands : List Request
  pub answers : List Reply
  pub console : lab.Console
  pub switch : Switch
  pub numbers : GivenOut
  pub events : ℕ

-- with its notes it is the lab
abbrev pub lab_in : Held → Journal → Lab
lab_in h notes = record {
  commands = h.commands;
  answers = h.answers;
  console = h.console;
  switch = h.switch;
  numbers = h.numbers;
  notes = notes;
  events = h.events;
}

-- *A reset* of the console
abbrev pub reset_in : Held → Held
reset_in h = record h {
  console = record h.console { adjacency = fresh SynSent (record h.console.adjacency.own { instance = next_instance h.numbers }) };
  numbers = with_instance h.numbers;
}

-- *A failure*, by the message that tells it
abbrev pub fails_at : Lab → Message → (code : ℕ) → Lab
fails_at lab (AllPorts result cause number rows) code = resets lab
fails_at lab message code = answers lab (Failed code)

-- *A cell* comes to port 0 of the switch
unfoldable pub reached : Lab → Cell → Lab
reached lab cell = at_switch lab (λ a. cell_comes a control_port cell)

-- *The first cell* of the console's queue is carried
unfoldable pub carried_first : Lab → Lab
carried_first lab = carries lab Console

-- *The pace*: at most so many instances, control marks and transaction numbers are given out, and no event is counted
pub record Draws (more_instances more_controls more_requests : ℕ) (old new : Held) : Type 0 where
  pub instances : new.numbers.instances ≤ old.numbers.instances + more_instances
  pub controls : new.numbers.controls ≤ old.numbers.controls + more_controls
  pub next : new.console.desk.next ≤ old.console.desk.next + more_requests
  pub events : new.events ≡ old.events

-- numbers are left for one event
pub record HasLeft (h : Held) : Type 0 where
  pub instances : h.numbers.instances + 20 < 2 ^ 32
  pub controls : h.numbers.controls + 1000000 < 2 ^ 64
  pub next : h.console.desk.next + 1 < 4294967295

-- what so many events have drawn at most
pub record IsPaced (h : Held) : Type 0 where
  pub instances : h.numbers.instances ≤ 20 * h.events + 2
  pub controls : h.numbers.controls ≤ 1000000 * h.events
  pub next : h.console.desk.next ≤ h.events + 1
