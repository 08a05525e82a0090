-- What the pieces of a network that bear on one link show of the line of a label of it: the controllers of both ends,
-- and the queues between them

use Rattle.std.specs.Prelude.{◌≡◌, ℕ, ◌≤◌, false, List, [], Some}
use Rattle.law_controller_facts.specs.world_model.Words.{GivenOut, Cell, Frame, Action, Work, Controller, Linked, linked_at}
use Rattle.law_shown_cells.specs.law_label_line.Cells as lines
use Rattle.law_shown_cells.specs.law_label_line.Cells.{Role, Downstream, Upstream, Way}
use Rattle.law_shown_cells.specs.law_label_line.Line.{Line}
use Rattle.law_shown_cells.specs.law_label_line.Moves.{Move, run}
use Rattle.law_controller_facts.specs.world_model.Controller.{Acted}
use Rattle.law_shown_cells.specs.law_port_views.Link.{LinkLabel, other}
use Rattle.law_shown_cells.specs.law_port_views.Shown.{Part, part_of, ShownAt, rest_of}
use Rattle.law_shown_cells.specs.Seen.{IsUnmade, Extends}
use Rattle.law_shown_cells.specs.Label.{OnLink, OnControl, ShowsCells}

-- the way to an end
abbrev pub way_to : Role → Line → Way
way_to Downstream line = line.to_downstream
way_to Upstream line = line.to_upstream

abbrev pub with_way : Role → Line → Way → Line
with_way Downstream line way = record line { to_downstream = way }
with_way Upstream line way = record line { to_upstream = way }

-- a port at work that has asked this so far
abbrev pub working : Linked → List Action → (instances : ℕ) → Work
working linked actions instances = record { port = linked.port; actions = actions; halted = false; instances = instances }

-- *A controller* at an end of the link: its port shows its part of the line, with what it asked and the controller
-- hasn't done yet; its queue shows what is to go out; the chain of the port's default channel shows what came
pub record EndAt (link : LinkLabel) (like : Type 0) (role : Role) (frames : List Frame) (instances : ℕ) (c : Controller) (asked : List Action)
    (part : Part) (came : List lines.Cell) : Type 0 where
  pub linked : Linked
  pub found : linked_at c (link.port role) ≡ Some linked
  pub port : linked.setup.port ≡ link.port role
  pub address : c.address ≡ link.address role
  pub port_address : linked.setup.address ≡ link.address role
  pub queued : List lines.Cell
  pub queue : ShowsCells (OnControl (link.port role)) role link frames c.queue queued
  pub shown : ShownAt role link like queued (working linked asked instances) part
  pub taken : ShowsCells (OnControl (link.port role)) (other role) link frames linked.reassembly.chain came

abbrev pub End : LinkLabel → (like : Type 0) → Role → List Frame → (instances : ℕ) → Controller → (asked : List Action) → Line → Type 0
End link like role frames instances c asked line =
    EndAt link like role frames instances c asked (part_of role line) (way_to role line).chain

-- *The pieces*: the controllers, what waits in front of each, what the switch of each put out to the link, the frames that
-- were made, the numbers that were given out
pub record Pieces : Type 0 where
  pub controller : Role → Controller
  pub waiting : Role → List Cell
  pub output : Role → List Cell
  pub frames : List Frame
  pub numbers : GivenOut

pub record Net (link : LinkLabel) (like : Type 0) (pieces : Pieces) (asked : Role → List Action) (line : Line) : Type 0 where
  pub end : (role : Role) → End link like role pieces.frames pieces.numbers.instances (pieces.controller role) (asked role) line
  pub waiting : (role : Role) → ShowsCells (OnControl (link.port role)) (other role) link pieces.frames (pieces.waiting role) (way_to role line).to_controller
  pub output : (role : Role) → ShowsCells OnLink role link pieces.frames (pieces.output role) (way_to (other role) line).output
  pub unmade : IsUnmade pieces.numbers.controls pieces.frames

-- *Frames are made* and numbers given out, as anywhere in a network
pub record Grows (a b : Acted) : Type 0 where
  pub extends : Extends a.notes.frames b.notes.frames
  pub instances : a.numbers.instances ≤ b.numbers.instances
  pub unmade : IsUnmade a.numbers.controls a.notes.frames → IsUnmade b.numbers.controls b.notes.frames

-- some moves lead to a line that the controller of an end shows, and change the line at that end alone; and frames are made
pub record EndGoes (link : LinkLabel) (like : Type 0) (role : Role) (a b : Acted) (asked : List Action) (line : Line) : Type 0 where
  pub moves : List Move
  pub after : Line
  pub is : run line moves ≡ after
  pub end : End link like role b.notes.frames b.numbers.instances b.controller asked after
  pub rest : rest_of role after ≡ rest_of role line
  pub grows : Grows a b

-- so from every line that it shows
abbrev pub EndLeads : LinkLabel → (like : Type 0) → Role → (a : Acted) → (before : List Action) → (b : Acted) → (after : List Action) → Type 0
EndLeads link like role a before b after =
    IsUnmade a.numbers.controls a.notes.frames → (line : Line)
    → End link like role a.notes.frames a.numbers.instances a.controller before line → EndGoes link like role a b after line

-- some moves lead to a line that the pieces show
pub record Goes (link : LinkLabel) (like : Type 0) (pieces : Pieces) (asked : Role → List Action) (line : Line) : Type 0 where
  pub moves : List Move
  pub after : Line
  pub is : run line moves ≡ after
  pub net : Net link like pieces asked after

-- nothing is asked; one end asks this
abbrev pub idle : Role → List Action
idle role = []

abbrev pub put_at : {A : Type 0} → Role → A → (Role → A) → Role → A
put_at Downstream x f Downstream = x
put_at Downstream x f Upstream = f Upstream
put_at Upstream x f Upstream = x
put_at Upstream x f Downstream = f Downstream

abbrev pub asking : Role → List Action → Role → List Action
asking role actions = put_at role actions idle

-- the pieces with a controller of one end as it acted
abbrev pub placed : Role → Pieces → Acted → Pieces
placed role pieces a = record {
  controller = put_at role a.controller pieces.controller;
  waiting = pieces.waiting;
  output = pieces.output;
  frames = a.notes.frames;
  numbers = a.numbers;
}

-- *Quietly*: the controller of an end does what doesn't bear on the link: its port, its address and what its queue shows
-- stay
pub record Quietly (link : LinkLabel) (role : Role) (a b : Acted) : Type 0 where
  pub grows : IsUnmade a.numbers.controls a.notes.frames → Grows a b
  pub found : linked_at b.controller (link.port role) ≡ linked_at a.controller (link.port role)
  pub address : b.controller.address ≡ a.controller.address
  pub queue : IsUnmade a.numbers.controls a.notes.frames → (words : List lines.Cell)
      → ShowsCells (OnControl (link.port role)) role link a.notes.frames a.controller.queue words
      → ShowsCells (OnControl (link.port role)) role link b.notes.frames b.controller.queue words
