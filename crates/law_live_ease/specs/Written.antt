-- What the port of an end that agrees at rest says in its tick can be written, in a run

use Rattle.std.specs.Prelude.{List, []}
use Rattle.world_model.specs.Words.{Policy, Topology, IsRun, past_of}
use Rattle.world_model.specs.network_model.declared.link.LinkEnd.{LinkEnd}
use Rattle.world_model.specs.network_model.declared.event.Event.{Event}
use Rattle.law_live_journeys.specs.law_port_facts.ordered_lists.Ordered.{Every}
use Rattle.law_live_journeys.specs.law_run_facts.law_world_views.Between.{IsWorld}
use Rattle.law_live_journeys.specs.law_run_facts.law_world_views.Fronts.{HasAddresses}
use Rattle.law_live_journeys.specs.law_live_hearing.Law.{world_at}
use Rattle.law_live_journeys.specs.law_live_nodes.Law.{messages_of}
use Rattle.law_live_journeys.specs.law_live_links.Law.{MayTick}
use Rattle.law_live_journeys.specs.law_live_worlds.Law.{end_of, AgreeIn}
use Rattle.law_live_journeys.specs.law_live_going.Law.{IsWritten}

-- *What a port says in its tick can be written*, where it is of an end that agrees at rest and may tick
abbrev pub MessagesAreWritten : Type 0
MessagesAreWritten = (policy : Policy) (topology : Topology) (events : List Event) (one far : LinkEnd) → IsRun policy topology events → HasAddresses topology
    → IsWorld (past_of policy topology events) → (agree : AgreeIn (world_at policy topology events) one far [] []) → MayTick (end_of agree.linked [])
    → Every IsWritten (messages_of agree.linked)
