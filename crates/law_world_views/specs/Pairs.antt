-- The joins of a switch: two labels of its ports that are joined, or that a request may join

use Rattle.std.specs.Prelude.{◌≡◌, ◌<◌, Contains, Some}
use Rattle.law_controller_views.specs.world_model.Words.{End, NodeId, number_of_channel, Cell, at, Standing, label_end, Grant, grant_label, Controller, Linked, linked_at, World, standing_at, output_at, gsmp_to_switch, copy_under, leads}
use Rattle.law_controller_views.specs.world_model.port_model.Grants.{lent_input}
use Rattle.law_controller_views.specs.law_label_line.Cells.{Upstream}
use Rattle.law_controller_views.specs.law_port_views.Link.{LinkLabel}

-- a branch of the switch leads from the input to the output, or a request that stands or has a cell on the way makes one
pub data Pairs (w : World) (node : NodeId) (input output : End) : Type 0 where
  by_branch : output_at w node input ≡ Some output → Pairs w node input output
  by_desk : (s : Standing) → Contains (standing_at w node) s → leads s.request ≡ Some (input, output) → Pairs w node input output
  by_copy : (s : Standing) (cell : Cell) → Contains (gsmp_to_switch w node) cell → copy_under w.notes.frames cell.mark ≡ Some s
      → leads s.request ≡ Some (input, output) → Pairs w node input output

-- an input of a port of a link is joined, or may be, to the label at its upstream end
pub record IsLike (w : World) (link : LinkLabel) : Type 0 where
  pub input : End
  pub above : 0 < input.port.0
  pub pair : Pairs w (link.node Upstream) input (label_end (link.port Upstream) link.label)

-- a controller has a grant of the output that is lent to the input
pub record IsJoin (c : Controller) (input output : End) : Type 0 where
  pub linked : Linked
  pub found : linked_at c output.port ≡ Some linked
  pub grant : Grant
  pub granted : at grant_label (number_of_channel output.channel) linked.port.grants ≡ Some grant
  pub lent : lent_input grant.state ≡ Some input
