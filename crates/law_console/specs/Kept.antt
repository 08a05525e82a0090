-- What is so at each moment of a run without a chance

use Rattle.std.specs.Prelude.{◌≡◌, ℕ, ◌+◌, ◌<◌, ◌≤◌, Bool, true, List, [], ◌∷◌, length, take, slice_get, slice_index_or, Some}
use Rattle.std.specs.FinMap.{get}
use Rattle.world_model.specs.Words.{End, Cell, is_estab, Branches, Request, Frame, Desk}
use Rattle.world_model.specs.crossbar_model.Crossbar.{output_of}
use Rattle.world_model.specs.gsmp_wire.declared.request.Request.TheVariants.{AllPorts}
use Rattle.ordered_lists.specs.Ordered.{Every}
use Rattle.world_model.specs.switch_model.declared.port.PortState.{PortState}
use Rattle.console_model.specs.declared.reply.Reply.{Reply}
use Rattle.console_model.specs.Lab.{Lab}
use Rattle.console_model.specs.Plain.{Links, map_after, answers_of}
use Rattle.law_console.specs.Words.{Stood, Nothing, Lists, Commands, Course, Made, IsCommand, first_ports, first_rows, AreAsked, Answers}

-- *What matters of a lab*: the commands and answers, the console's desk and whether it is in Estab, the switch's ports, branches
-- and queues, the cells that wait for it, and what was made
pub record View : Type 0 where
  pub commands : List Request
  pub answers : List Reply
  pub desk : Desk
  pub is_estab : Bool
  pub ports : List PortState
  pub vpis : ℕ
  pub branches : Branches
  pub queues : List (List Cell)
  pub waiting : List Cell
  pub frames : List Frame
  pub controls : ℕ

abbrev pub view : Lab → View
view lab = record {
  commands = lab.commands;
  answers = lab.answers;
  desk = lab.console.desk;
  is_estab = is_estab lab.console.adjacency.state;
  ports = lab.switch.ports;
  vpis = lab.switch.vpis;
  branches = lab.switch.crossbar.branches;
  queues = lab.switch.crossbar.queues;
  waiting = lab.console.queue;
  frames = lab.notes.frames;
  controls = lab.numbers.controls;
}

abbrev pub made_in : View → Made
made_in v = record { frames = v.frames; controls = v.controls }

abbrev pub course : (carried : ℕ) → Stood → View → Course
course carried stood v = record {
  commands = v.commands;
  answered = length v.answers;
  carried = carried;
  stood = stood;
  next = v.desk.next;
}

-- *The desk*: one request at most stands, and a command only where the sessions are known
pub record StandsAs (desk : Desk) (number : ℕ) (request : Request) : Type 0 where
  pub standing : desk.standing ≡ record { number = number; request = request } ∷ []
  pub early : number < desk.next

pub record IsFirst (ports : ℕ) (commands : List Request) (answered : ℕ) (desk : Desk) (number : ℕ) : Type 0 where
  pub command : Request
  pub stands : StandsAs desk number command
  pub first : slice_get commands answered ≡ Some command
  pub known : desk.rows ≡ first_rows ports

abbrev pub Stands : (ports : ℕ) → List Request → (answered : ℕ) → Desk → Stood → Type 0
Stands ports commands answered desk Nothing = desk.standing ≡ []
Stands ports commands answered desk (Lists number) = StandsAs desk number AllPorts
Stands ports commands answered desk (Commands number) = IsFirst ports commands answered desk number

-- in Estab, where nothing stands, All Ports was answered
abbrev pub IsKnown : (ports : ℕ) → (is_estab : Bool) → Desk → Stood → Type 0
IsKnown ports is_estab desk Nothing = is_estab ≡ true → desk.rows ≡ first_rows ports
IsKnown ports is_estab desk (Lists number) = Unit {0}
IsKnown ports is_estab desk (Commands number) = Unit {0}

abbrev pub Leads : Branches → Links → Type 0
Leads branches m = (input : End) → output_of branches input ≡ get m input

-- *At each moment*, where the switch has carried out so many commands, this stands, and fewer requests than this were asked
pub record IsKept (ports most carried : ℕ) (stood : Stood) (v : View) : Type 0 where
  pub requests : Every IsCommand v.commands
  pub answers : v.answers ≡ answers_of ports (take (length v.answers) v.commands)
  pub answered : length v.answers ≤ carried
  pub next : carried ≤ length v.answers + 1
  pub within : carried ≤ length v.commands
  pub has_ports : v.ports ≡ first_ports ports
  pub paths : v.vpis ≡ 1
  pub map : Leads v.branches (map_after ports (take carried v.commands))
  pub has_queue : 0 < length v.queues
  pub stands : Stands ports v.commands (length v.answers) v.desk stood
  pub known : IsKnown ports v.is_estab v.desk stood
  pub few : v.desk.next ≤ most
  pub waits : AreAsked ports (course carried stood v) (made_in v) carried v.waiting
  pub comes : Every (Answers ports (course carried stood v) (made_in v)) (slice_index_or v.queues 0 [])

-- with the count and what stands left open
pub record Holds (ports most : ℕ) (v : View) : Type 0 where
  pub carried : ℕ
  pub stood : Stood
  pub kept : IsKept ports most carried stood v
