-- What is nothing to the line of an input: what a site does elsewhere

use Rattle.std.specs.Prelude.{◌≡◌, ℕ, ◌≤◌, List}
use Rattle.law_shown_cells.specs.world_model.Words.{End, NodeId, Frame, queue_of, control_port, Site}
use Rattle.law_shown_cells.specs.world_model.crossbar_model.Crossbar.{output_of}
use Rattle.law_branch_line.specs.Words as lines
use Rattle.law_shown_cells.specs.Seen.{Extends}
use Rattle.law_input_views.specs.Shown.{ShowsRequests, ShowsAnswers}

-- frames are made and instances drawn; both sides of the adjacency, the desk, the GSMP chains, the input's branch and the
-- ports stay, and so does what both queues of the control link show
pub record IsQuietAt (node : NodeId) (input : End) (before after : Site) (old new : List Frame) (m n : ℕ) : Type 0 where
  pub extends : Extends old new
  pub drawn : m ≤ n
  pub controller : after.controller.adjacency ≡ before.controller.adjacency
  pub desk : after.controller.desk ≡ before.controller.desk
  pub met : after.controller.has_met ≡ before.controller.has_met
  pub gathered : after.controller.reassembly ≡ before.controller.reassembly
  pub switch : after.switch.adjacency ≡ before.switch.adjacency
  pub branch : output_of after.switch.crossbar.branches input ≡ output_of before.switch.crossbar.branches input
  pub chain : after.switch.reassembly ≡ before.switch.reassembly
  pub ports : after.switch.ports ≡ before.switch.ports
  pub requests : (words : List lines.ToSwitch) → ShowsRequests node input old before.controller.queue words
      → ShowsRequests node input new after.controller.queue words
  pub answers : (words : List lines.ToController) → ShowsAnswers node input old (queue_of before.switch.crossbar control_port) words
      → ShowsAnswers node input new (queue_of after.switch.crossbar control_port) words
