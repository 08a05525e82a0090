-- A port goes by the table of its adjacency at its node's tick, whatever state it is in, as `law_live_waking_links` asks of it

use Rattle.std.specs.Prelude.{◌≡◌, ◌≢◌, ◌≤◌, true, List, Some}
use Rattle.world_model.specs.Words.{Peer, Answer, Said, is_estab, ticked, IsLinkPort, IsRun, Linked, linked_at, port_key, Policy, Topology, World, Site, site_at, next, past_of}
use Rattle.world_model.specs.adjacency_table.declared.message.Answer.TheVariants.{Reset}
use Rattle.world_model.specs.network_model.declared.link.LinkEnd.{LinkEnd}
use Rattle.world_model.specs.network_model.declared.event.Event.{Event}
use Rattle.world_model.specs.network_model.declared.event.Event.TheVariants.{Tick}
use Rattle.law_live_waking_links.specs.law_port_facts.ordered_lists.Ordered.{InOrder}
use Rattle.law_live_waking_links.specs.law_run_facts.law_world_views.Between.{IsWorld}
use Rattle.law_live_waking_links.specs.law_run_facts.law_world_views.Fronts.{HasAddresses}
use Rattle.law_live_waking_links.specs.law_live_worlds.Law.{Shows}
use Rattle.law_live_waking_links.specs.Law.{TicksByTable}

-- *What holds of a node in a run*: no two of its ports have one number, and the instance of the port at the end was given out
pub record IsOrderly (w : World) (end : LinkEnd) : Type 0 where
  pub apart : (site : Site) → site_at w end.node ≡ Some site → InOrder (λ (x y : Linked). port_key x ≢ port_key y) site.controller.ports
  pub drawn : (linked : Linked) → Shows w end linked → linked.port.adjacency.own.instance.0 ≤ w.numbers.instances

abbrev pub RunsAreOrderly : Type 0
RunsAreOrderly = (policy : Policy) (topology : Topology) (events : List Event) → HasAddresses topology → IsRun policy topology events
    → IsWorld (past_of policy topology events) → (end : LinkEnd) → IsOrderly (past_of policy topology events).now end

-- *The node is up* with its switch
abbrev pub IsNodeUp : World → LinkEnd → Type 0
IsNodeUp w end = (site : Site) → site_at w end.node ≡ Some site → is_estab site.controller.adjacency.state ≡ true

-- its port *goes by the node's address*
abbrev pub GoesByAddress : World → LinkEnd → Type 0
GoesByAddress w end = (site : Site) (linked : Linked) → site_at w end.node ≡ Some site → linked_at site.controller end.port ≡ Some linked
    → linked.port.adjacency.own.address ≡ site.controller.address

-- *Nothing but its table resets it*: where this answer doesn't, the port has the party then that it had
abbrev pub KeepsItsParty : (w v : World) → LinkEnd → (Linked → Answer (Said Peer) Peer) → Type 0
KeepsItsParty w v end answer = (linked now : Linked) (site : Site) → Shows w end linked → answer linked ≢ Reset
    → site_at v end.node ≡ Some site → linked_at site.controller end.port ≡ Some now → now.port.adjacency.own ≡ linked.port.adjacency.own

-- *A tick in peace* of the node at an end: it is up behind it, the ledger is as it was, and nothing but the table resets the port
abbrev pub tick_answer : Linked → Answer (Said Peer) Peer
tick_answer linked = (ticked linked.port.adjacency).answer

pub record TicksInPeace (topology : Topology) (w : World) (end : LinkEnd) : Type 0 where
  pub up : IsNodeUp (next topology w (Tick end.node)) end
  pub unlost : (next topology w (Tick end.node)).notes.entries ≡ w.notes.entries
  pub address : GoesByAddress (next topology w (Tick end.node)) end
  pub keeps : KeepsItsParty w (next topology w (Tick end.node)) end tick_answer

-- *So it goes by its table* in it: its side is the table's, also where the port waits to be cleared, and of greetings it sends what the
-- table answers, and nothing else
abbrev pub TicksGoByTable : Type 0
TicksGoByTable = (topology : Topology) (w : World) (end : LinkEnd) → IsLinkPort end.port → IsOrderly w end → TicksInPeace topology w end
    → TicksByTable topology w (Tick end.node) end
