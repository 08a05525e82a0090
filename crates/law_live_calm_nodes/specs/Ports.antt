-- Ports that are up with their peers don't wait to be cleared, so no Delete All stands at their node

use Rattle.std.specs.Prelude.{◌≡◌, true, List, [], ◌++◌, Some, is_some}
use Rattle.world_model.specs.Words.{NodeId, PortNo, Policy, Estab, is_linked, Linked, linked_at, Topology, World, Site, site_at, IsShaped, tick_of_all, world_after, IsRun}
use Rattle.world_model.specs.ifmp_wire.declared.message.Message.{Message}
use Rattle.world_model.specs.network_model.declared.link.LinkEnd.{LinkEnd}
use Rattle.world_model.specs.network_model.declared.event.Event.{Event}
use Rattle.law_live_peace.specs.law_run_facts.law_world_views.Fronts.{HasAddresses}
use Rattle.law_live_peace.specs.law_live_worlds.Law.{AgreeIn, IsCalm}
use Rattle.law_live_peace.specs.law_live_hearing.Law.{world_at}
use Rattle.law_live_peace.specs.law_live_control_links.Law.{IsUnspentAt}
use Rattle.law_live_peace.specs.law_live_ways.Links.{StandsNoneAt}

-- *A port is up*, at an end of a link: it is its node's, in session, and with its peer in Estab
pub record IsPortUp (w : World) (one : LinkEnd) : Type 0 where
  pub site : Site
  pub there : site_at w one.node ≡ Some site
  pub linked : Linked
  pub of_port : linked_at site.controller one.port ≡ Some linked
  pub up : linked.port.adjacency.state ≡ Estab
  pub in_session : is_some linked.port.session ≡ true

-- so is each of two ends that agree, since they have met
abbrev pub AgreedPortsAreUp : Type 0
AgreedPortsAreUp = (w : World) (one far : LinkEnd) (said far_said : List Message) → AgreeIn w one far said far_said → IsPortUp w one

-- and behind each of the ticks that begin a beat, where both agree as it begins and the node is at peace
abbrev pub TicksKeepUp : Type 0
TicksKeepUp = (topology : Topology) (w : World) (one far : LinkEnd) (front rest : List Event) → IsShaped w → IsCalm w one.node → AgreeIn w one far [] []
    → tick_of_all w ≡ front ++ rest → IsPortUp (world_after topology w front) one

-- *All ports of a node are up*, those of the links that it has
abbrev pub ArePortsUp : Topology → World → NodeId → Type 0
ArePortsUp topology w node = (port : PortNo) → is_linked topology node port ≡ true → IsPortUp w (record { node = node; port = port })

-- *Then no Delete All stands* there, in a run, where the node has a link, and its transaction numbers aren't spent
abbrev pub UpNodesStandNone : Type 0
UpNodesStandNone = (policy : Policy) (topology : Topology) (events : List Event) (one : LinkEnd) → HasAddresses topology → IsRun policy topology events
    → is_linked topology one.node one.port ≡ true → ArePortsUp topology (world_at policy topology events) one.node
    → IsUnspentAt (world_at policy topology events) one.node → StandsNoneAt (world_at policy topology events) one.node
