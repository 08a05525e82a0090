-- That each answer of a switch settles what may be joined

use Rattle.std.specs.Prelude.{◌≡◌, List, ◌∷◌, Some}
use Rattle.law_causes.specs.world_model.Words.{NodeId, Up, Cell, queue_of, control_port, Policy, Topology, Site, site_at, past_of}
use Rattle.law_world_views.specs.law_label_line.Cells.{Upstream}
use Rattle.law_world_views.specs.law_port_views.Link.{LinkLabel}
use Rattle.law_causes.specs.world_model.network_model.declared.event.Event.{Event}
use Rattle.law_causes.specs.world_model.network_model.declared.event.Event.TheVariants.{Carry}
use Rattle.law_world_views.specs.Pairs.{IsLike}
use Rattle.law_world_views.specs.Between.{IsWorld, IsLinkLabel}
use Rattle.law_world_views.specs.Kept.{Comes, behind}
use Rattle.law_pairs.specs.Settles.{SettlesAt}

-- *Each answer* that comes to the controller at the end of a link that may send under a label, with what may be joined to
-- the label behind the event
abbrev pub AnswersSettle : Type 0
AnswersSettle = (policy : Policy) (topology : Topology) (before : List Event) (node : NodeId)
    → Comes policy topology before (Carry (Up node)) → IsWorld (past_of policy topology before) → (link : LinkLabel) → IsLinkLabel topology link
    → node.0 ≡ (link.node Upstream).0 → (site : Site) (cell : Cell) (cells : List Cell) → site_at (past_of policy topology before).now node ≡ Some site
    → queue_of site.switch.crossbar control_port ≡ cell ∷ cells
    → SettlesAt link (IsLike (behind policy topology before (Carry (Up node))).now link) (past_of policy topology before).now.notes.frames site.controller cell
