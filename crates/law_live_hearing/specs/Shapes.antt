-- Default channels lead to their port and home in a run

use Rattle.std.specs.Prelude.{◌≡◌, Some}
use Rattle.world_model.specs.Words.{NodeId, PortNo, IsLinkPort, Setup, World, Site, site_at}
use Rattle.law_run_facts.specs.ordered_lists.Ordered.{Every}
use Rattle.law_run_facts.specs.law_world_views.Between.{HasShapes, setups_of}
use Rattle.law_live_hearing.specs.Law.{LeadsByDefault}

-- where branches have the shapes that all have in a run before the first frame that is forged or passes by chance
abbrev pub ShapesLeadByDefault : Type 0
ShapesLeadByDefault = (w : World) (node : NodeId) (site : Site) (port : PortNo) → site_at w node ≡ Some site
    → Every (λ (setup : Setup). IsLinkPort setup.port) (setups_of site.controller) → IsLinkPort port → HasShapes w node site
    → LeadsByDefault w node port
