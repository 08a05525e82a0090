-- *What becomes of soft state* in every run of a network, whatever its policy

use Rattle.std.specs.Prelude.{List}
use Rattle.world_model.specs.Words.{Policy, Topology}
use Rattle.world_model.specs.network_model.declared.event.Event.{Event}
use Rattle.live_model.specs.Waking.{NodesWake}
use Rattle.live_model.specs.Links.{LinksWake}

pub record IsLiveRun (policy : Policy) (topology : Topology) (events : List Event) : Type 0 where
  -- each node wakes: behind four beats in peace its controller and its switch have met
  pub nodes_wake : NodesWake policy topology events
  -- and so does each link: behind four more, which are in peace at the link besides, its two ports have met
  pub links_wake : LinksWake policy topology events
