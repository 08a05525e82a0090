-- what waits in a queue stands at the actor that it leads away from

use Rattle.std.proofs.Common.{◌≡◌, [], Option, None, Some, ◌∙◌, ap, option_map}
use Rattle.std.specs.Option.{option_map_or}
use Rattle.net_types.specs.declared.node.NodeId.{NodeId}
use Rattle.net_types.specs.declared.node.PortNo.{PortNo}
use Rattle.net_types.specs.declared.node.Place.{Place}
use Rattle.net_types.specs.declared.node.Place.TheVariants.{Down, Up, Out}
use Rattle.crossbar_model.specs.Crossbar.{queue_of}
use Rattle.world_model.specs.Controller.{Controller}
use Rattle.world_model.specs.Places.{queue_at}
use Rattle.world_model.specs.Switch.{Switch, control_port}
use Rattle.world_model.specs.World.{World, Site, controller_at, site_at}

of_controller : (o : Option Site) (c : Controller) → option_map (λ site. site.controller) o ≡ Some c → option_map_or (λ site. site.controller.queue) o [] ≡ c.queue
of_controller None c e = absurd (cc e)
of_controller (Some site) c e = (let same : site.controller ≡ c = cc in ap (λ (x : Controller). x.queue) same)

of_switch : (o : Option Site) (s : Switch) (port : PortNo) → option_map (λ site. site.switch) o ≡ Some s → option_map_or (λ site. queue_of site.switch.crossbar port) o [] ≡ queue_of s.crossbar port
of_switch None s port e = absurd (cc e)
of_switch (Some site) s port e = (let same : site.switch ≡ s = cc in ap (λ (x : Switch). queue_of x.crossbar port) same)

module _ (w : World) (place : Place) (node : NodeId) where
  pub queue_down : (c : Controller) → place ≡ Down node → controller_at w node ≡ Some c → queue_at w place ≡ c.queue
  queue_down c is here = ap (queue_at w) is ∙ of_controller (site_at w node) c here

  pub queue_up : (s : Switch) → place ≡ Up node → option_map (λ site. site.switch) (site_at w node) ≡ Some s → queue_at w place ≡ queue_of s.crossbar control_port
  queue_up s is here = ap (queue_at w) is ∙ of_switch (site_at w node) s control_port here

  pub queue_out : (s : Switch) (port : PortNo) → place ≡ Out node port → option_map (λ site. site.switch) (site_at w node) ≡ Some s → queue_at w place ≡ queue_of s.crossbar port
  queue_out s port is here = ap (queue_at w) is ∙ of_switch (site_at w node) s port here
