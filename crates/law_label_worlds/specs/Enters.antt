-- The joins that a tick enters

use Rattle.std.specs.Prelude.{◌≡◌, List, flat_map, Some}
use Rattle.world_model.specs.Words.{End, NodeId, label_end, inputs_at, World, Site, site_at}
use Rattle.world_model.specs.Controller.{Acted}
use Rattle.law_label_events.specs.law_label_line.Cells.{Upstream}
use Rattle.law_label_events.specs.law_port_views.Link.{LinkLabel}
use Rattle.law_label_events.specs.law_world_views.Shown.{acting}
use Rattle.law_lasting_joins.specs.law_quiet_controllers.Quiet.{Enters}
use Rattle.law_lasting_joins.specs.law_quiet_controllers.Law.{before_joins}

-- one of these inputs, each tried in turn, is joined to the output
pub record EntersTo (output : End) (a : Acted) (inputs : List End) : Type 0 where
  pub input : End
  pub enters : Enters input output a inputs

-- *A tick* enters a join to the output
abbrev pub TickEntersTo : (output : End) → Acted → Type 0
TickEntersTo output a = EntersTo output (before_joins a) (flat_map inputs_at (before_joins a).controller.ports)

-- at the node of the link's end that may send under the label
pub record IsTickJoin (link : LinkLabel) (w : World) (node : NodeId) : Type 0 where
  pub here : node.0 ≡ (link.node Upstream).0
  pub site : Site
  pub found : site_at w node ≡ Some site
  pub enters : TickEntersTo (label_end (link.port Upstream) link.label) (acting w site)
