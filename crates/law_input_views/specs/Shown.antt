-- What a controller, its switch and the control link show of the line of one input, as a relation: the line keeps
-- more than they do

use Rattle.std.specs.Prelude.{◌≡◌, ℕ, ◌+◌, ◌≤◌, Bool, true, false, nat_lt, List, [], ◌∷◌, filter, length, Some}
use Rattle.law_shown_cells.specs.world_model.Words.{End, NodeId, PortNo, Party, is_estab, side_of, Cell, Request, Frame, queue_of, Standing, control_port, numbers_of, controller_party, switch_party, Site}
use Rattle.law_shown_cells.specs.world_model.gsmp_wire.declared.request.Request.TheVariants.{AllPorts, DeleteAll}
use Rattle.law_shown_cells.specs.ordered_lists.Ordered.{Every}
use Rattle.law_shown_cells.specs.world_model.crossbar_model.Crossbar.{output_of}
use Rattle.law_branch_line.specs.Words as lines
use Rattle.law_branch_line.specs.Line.{Asked, Apart, Unasked, Stands, Answered, Meeting, Listing, Emptying, Met, MetAndAsked, Line}
use Rattle.law_branch_line.specs.Asking.{has_met}
use Rattle.law_shown_cells.specs.Seen.{Shows}
use Rattle.law_input_views.specs.Words.{own_request, own_of, others_of, seen_request, seen_answer, seen_cell, erased, erased_back}

-- the two parties of a node, under each of their instances
abbrev pub controller_of : NodeId → (instance : ℕ) → Party
controller_of node instance = controller_party node (record { 0 = instance })

abbrev pub switch_of : NodeId → (instance : ℕ) → Party
switch_of node instance = switch_party node (record { 0 = instance })

-- *What stands on the input*, in Estab; else the line has nothing
pub record StandsAs (input : End) (own : List Standing) (number : ℕ) (request : lines.InputRequest) : Type 0 where
  pub standing : Standing
  pub alone : own ≡ standing ∷ []
  pub numbered : standing.number ≡ number
  pub is : own_request input standing.request ≡ Some request

abbrev pub AskedShows : (input : End) → (estab : Bool) → (own : List Standing) → Asked → Type 0
AskedShows input true own Apart = ⊥
AskedShows input true own Unasked = own ≡ []
AskedShows input true own (Stands number request) = StandsAs input own number request
AskedShows input true own (Answered number request) = own ≡ []
AskedShows input false own asked = (asked ≡ Apart) × (own ≡ [])

-- *Meeting the switch*: All Ports stands alone, or Delete Alls alone
abbrev pub IsAllPorts : Request → Type 0
IsAllPorts AllPorts = Unit {0}
IsAllPorts request = ⊥

abbrev pub IsDeleteAll : Request → Type 0
IsDeleteAll (DeleteAll port) = Unit {0}
IsDeleteAll request = ⊥

abbrev pub PhaseShows : Meeting → List Standing → Type 0
PhaseShows Listing standing = Every (λ (s : Standing). IsAllPorts s.request) standing
PhaseShows Emptying standing = Every (λ (s : Standing). IsDeleteAll s.request) standing
PhaseShows Met standing = Unit {0}
PhaseShows MetAndAsked standing = Unit {0}

-- *Ports* of the switch below a port, and above it
abbrev pub before_of : List PortNo → PortNo → ℕ
before_of ports port = length (filter (λ other. nat_lt other.0 port.0) ports)

abbrev pub behind_of : List PortNo → PortNo → ℕ
behind_of ports port = length (filter (λ other. nat_lt port.0 other.0) ports)

-- *Cells* to the switch and to the controller
abbrev pub ShowsRequests : NodeId → (input : End) → List Frame → List Cell → List lines.ToSwitch → Type 0
ShowsRequests node input frames cells words =
    Shows erased (seen_cell (seen_request (controller_of node) (switch_of node) input) frames) cells words

abbrev pub ShowsAnswers : NodeId → (input : End) → List Frame → List Cell → List lines.ToController → Type 0
ShowsAnswers node input frames cells words =
    Shows erased_back (seen_cell (seen_answer (switch_of node) (controller_of node) input) frames) cells words

-- *The relation*
pub record InputShows (node : NodeId) (input : End) (site : Site) (frames : List Frame) (instances : ℕ) (line : Line) : Type 0 where
  -- both sides of the adjacency, seen by instances: all names are right
  pub controller : site.controller.adjacency
      ≡ side_of (controller_of node) (switch_of node) line.controller.adjacency site.controller.adjacency.silence
  pub switch : site.switch.adjacency ≡ side_of (switch_of node) (controller_of node) line.switch.adjacency site.switch.adjacency.silence
  pub next : is_estab line.controller.adjacency.state ≡ true → line.controller.next ≡ site.controller.desk.next
  pub asked : AskedShows input (is_estab line.controller.adjacency.state) (own_of input site.controller.desk.standing) line.controller.asked
  pub others : line.controller.others ≡ others_of input site.controller.desk.standing
  pub met : has_met line.controller.meeting ≡ site.controller.has_met
  pub phase : PhaseShows line.controller.meeting site.controller.desk.standing
  pub branch : line.switch.branch ≡ output_of site.switch.crossbar.branches input
  pub at_switch : ShowsRequests node input frames site.switch.reassembly.chain line.at_switch
  pub to_switch : ShowsRequests node input frames site.controller.queue line.to_switch
  pub at_controller : line.at_controller ≡ []
  pub gathered : ShowsAnswers node input frames site.controller.reassembly.chain []
  pub to_controller : ShowsAnswers node input frames (queue_of site.switch.crossbar control_port) line.to_controller
  pub drawn : line.fresh ≤ instances + 1
  pub before : line.ports_before ≡ before_of (numbers_of site.switch.ports) input.port
  pub behind : line.ports_behind ≡ behind_of (numbers_of site.switch.ports) input.port
