-- nodes and links put together

use Rattle.world_model.specs.Words.{World}
use Rattle.law_live_journeys.specs.law_live_hearing.Law.{world_at}
use Rattle.law_live_ease.specs.Nodes.{NodesGoOn, NodesBindOn}
use Rattle.law_live_ease.specs.Links.{LinksGoOn}
use Rattle.law_live_ease.proofs.Links.{links_bind_on}
use Rattle.law_live_ease.specs.Binding.{NetworksBindOn}

pub networks_bind_on : NodesBindOn → NetworksBindOn
networks_bind_on nodes_bind_on policy topology before place comes world b c =
    let w : World = world_at policy topology before in
    let nodes : NodesGoOn topology w place = nodes_bind_on policy topology before place comes world b c in
    let links : LinksGoOn topology w place = links_bind_on policy topology before place comes world b c nodes.carried_out in
    record { nodes = nodes.nodes; desks = nodes.desks; steady = nodes.steady; links = links.links; none = links.none }
