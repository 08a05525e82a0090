-- What greets a port of a link names it

use Rattle.std.specs.Prelude.{◌≡◌, List, Some}
use Rattle.world_model.specs.Words.{Policy, Topology, past_of}
use Rattle.world_model.specs.Topology.{peer_of}
use Rattle.world_model.specs.network_model.declared.link.LinkEnd.{LinkEnd}
use Rattle.world_model.specs.network_model.declared.event.Event.{Event}
use Rattle.law_link_tables.specs.law_run_facts.law_world_views.Between.{IsWorld}
use Rattle.law_link_tables.specs.law_run_facts.law_world_views.Kept.{Comes}
use Rattle.law_link_tables.specs.law_live_hearing.Law.{world_at}
use Rattle.law_link_tables.specs.law_live_waking_links.Law.{AreNamed}

-- *An event comes* in a run in which no frame was forged nor passed by chance, at an end of a link
pub record ComesAtEnd (policy : Policy) (topology : Topology) (before : List Event) (event : Event) (end peer : LinkEnd) : Type 0 where
  pub comes : Comes policy topology before event
  pub world : IsWorld (past_of policy topology before)
  pub peers : peer_of topology end.node end.port ≡ Some peer

-- *What greets a port names it*
abbrev pub GreetingsAreNamed : Type 0
GreetingsAreNamed = (policy : Policy) (topology : Topology) (before : List Event) (event : Event) (end peer : LinkEnd) → ComesAtEnd policy topology before event end peer
    → AreNamed (world_at policy topology before) event end peer
