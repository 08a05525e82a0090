-- What a site shows of the line of one input, part by part, and that moves lead from one site to the next

use Rattle.std.specs.Prelude.{◌≡◌, ◌+◌, ◌<◌, ◌≤◌, Bool, true, List, [], Option}
use Rattle.law_input_views.specs.world_model.Words.{End, NodeId, PortNo, Party, GivenOut, Side, is_estab, side_of, Cell, Frame, queue_of, Desk, Standing, control_port, numbers_of, Switch, Controller, Site}
use Rattle.law_input_views.specs.ordered_lists.Ordered.{Every, InOrder}
use Rattle.law_input_views.specs.world_model.crossbar_model.Crossbar.{output_of}
use Rattle.law_input_views.specs.law_branch_line.Line as lines
use Rattle.law_input_views.specs.law_branch_line.Line.{Line}
use Rattle.law_input_views.specs.law_branch_line.Asking.{has_met}
use Rattle.law_input_views.specs.law_branch_line.Moves.{Move, run}
use Rattle.law_input_views.specs.world_model.Switch as switches
use Rattle.law_input_views.specs.world_model.Controller as controllers
use Rattle.law_input_views.specs.law_shown_cells.Seen.{IsUnmade}
use Rattle.law_input_views.specs.Words.{own_of, others_of}
use Rattle.law_input_views.specs.Shown.{controller_of, switch_of, AskedShows, PhaseShows, before_of, behind_of, ShowsRequests, ShowsAnswers}

-- what of a site and of the run bears on the line of an input: the controller's side of the adjacency, its desk, whether
-- it has met the switch, the GSMP chain and the queue; the switch's side, where the input leads, its chain, what waits at
-- port 0, its ports; the frames that were made and the numbers that were given out
pub record Part : Type 0 where
  pub adjacency : Side Party
  pub desk : Desk
  pub met : Bool
  pub gathered : List Cell
  pub queue : List Cell
  pub far : Side Party
  pub branch : Option End
  pub chain : List Cell
  pub back : List Cell
  pub ports : List PortNo
  pub frames : List Frame
  pub numbers : GivenOut

abbrev pub part_of : (input : End) → Site → List Frame → GivenOut → Part
part_of input site frames numbers = record {
  adjacency = site.controller.adjacency;
  desk = site.controller.desk;
  met = site.controller.has_met;
  gathered = site.controller.reassembly.chain;
  queue = site.controller.queue;
  far = site.switch.adjacency;
  branch = output_of site.switch.crossbar.branches input;
  chain = site.switch.reassembly.chain;
  back = queue_of site.switch.crossbar control_port;
  ports = numbers_of site.switch.ports;
  frames = frames;
  numbers = numbers;
}

-- while the controller acts, and while the switch does
abbrev pub part_at : (input : End) → Switch → controllers.Acted → Part
part_at input switch a = part_of input (record { controller = a.controller; switch = switch }) a.notes.frames a.numbers

abbrev pub part_beside : (input : End) → Controller → switches.ActedSwitch → Part
part_beside input controller a = part_of input (record { controller = controller; switch = a.switch }) a.notes.frames a.numbers

-- *What stands* has numbers that rise, below the next one
abbrev pub IsEarlier : Standing → Standing → Type 0
IsEarlier x y = x.number < y.number

pub record IsNumbered (desk : Desk) : Type 0 where
  pub below : Every (λ (s : Standing). s.number < desk.next) desk.standing
  pub earlier : InOrder IsEarlier desk.standing

-- *The controller* by itself, and the switch
pub record OwnShows (node : NodeId) (input : End) (adjacency : Side Party) (desk : Desk) (has : Bool) (c : lines.Controller) : Type 0 where
  pub side : adjacency ≡ side_of (controller_of node) (switch_of node) c.adjacency adjacency.silence
  pub next : is_estab c.adjacency.state ≡ true → c.next ≡ desk.next
  pub asked : AskedShows input (is_estab c.adjacency.state) (own_of input desk.standing) c.asked
  pub others : c.others ≡ others_of input desk.standing
  pub met : has_met c.meeting ≡ has
  pub phase : PhaseShows c.meeting desk.standing

pub record FarShows (node : NodeId) (far : Side Party) (leads : Option End) (s : lines.Switch) : Type 0 where
  pub side : far ≡ side_of (switch_of node) (controller_of node) s.adjacency far.silence
  pub branch : s.branch ≡ leads

-- *All of it*
pub record Stands (node : NodeId) (input : End) (p : Part) (line : Line) : Type 0 where
  pub own : OwnShows node input p.adjacency p.desk p.met line.controller
  pub far : FarShows node p.far p.branch line.switch
  pub to_switch : ShowsRequests node input p.frames p.queue line.to_switch
  pub at_switch : ShowsRequests node input p.frames p.chain line.at_switch
  pub to_controller : ShowsAnswers node input p.frames p.back line.to_controller
  pub gathered : ShowsAnswers node input p.frames p.gathered []
  pub at_controller : line.at_controller ≡ []
  pub drawn : line.fresh ≤ p.numbers.instances + 1
  pub before : line.ports_before ≡ before_of p.ports input.port
  pub behind : line.ports_behind ≡ behind_of p.ports input.port
  pub unmade : IsUnmade p.numbers.controls p.frames
  pub numbered : IsNumbered p.desk

-- *Moves lead on*: to a line that the part shows next, and of which P is so
pub record Reaches (node : NodeId) (input : End) (p : Part) (P : Line → Type 0) (line : Line) : Type 0 where
  pub moves : List Move
  pub after : Line
  pub is : run line moves ≡ after
  pub stands : Stands node input p after
  pub also : P after

abbrev pub AnyLine : Line → Type 0
AnyLine line = Unit {0}

-- so from each line that shows
abbrev pub Leads : NodeId → (input : End) → (before after : Part) → Type 0
Leads node input before after = (line : Line) → Stands node input before line → Reaches node input after AnyLine line
