-- Default channels lead to their port and home, and nothing else does, in a run

use Rattle.std.specs.Prelude.{◌≡◌, Some}
use Rattle.world_model.specs.Words.{NodeId, PortNo, IsLinkPort, Setup, default_end, default_home, World, Site, site_at, output_at}
use Rattle.law_run_facts.specs.ordered_lists.Ordered.{Every}
use Rattle.law_run_facts.specs.law_world_views.Between.{HasShapes, setups_of}
use Rattle.law_live_orders.specs.Law.{LeadsAlone}

-- *Where they lead at all*, by branches of the shapes that all have in a run before the first frame that is forged or passes by
-- chance
pub record LeadAlone (w : World) (node : NodeId) (port : PortNo) : Type 0 where
  pub out : output_at w node (default_home port) ≡ Some (default_end port) → LeadsAlone w node (default_home port) (default_end port)
  pub home : output_at w node (default_end port) ≡ Some (default_home port) → LeadsAlone w node (default_end port) (default_home port)

abbrev pub ShapesLeadAlone : Type 0
ShapesLeadAlone = (w : World) (node : NodeId) (site : Site) (port : PortNo) → site_at w node ≡ Some site
    → Every (λ (setup : Setup). IsLinkPort setup.port) (setups_of site.controller) → IsLinkPort port → HasShapes w node site
    → LeadAlone w node port
