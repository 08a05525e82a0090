-- A port goes by its table at what a carry brings its controller, in a network

use Rattle.std.specs.Prelude.{◌≡◌, ℕ, ◌<◌, List, [], ◌∷◌, Some}
use Rattle.world_model.specs.Words.{Up, Cell, Peer, Said, Answer, Quiet, payload_of, IsLinkPort, Label, Linked, taker_of, ForLabel, Topology, World, Site, site_at, queue_at, next, CountsAsItsFrame}
use Rattle.world_model.specs.network_model.declared.link.LinkEnd.{LinkEnd}
use Rattle.world_model.specs.network_model.declared.event.Event.TheVariants.{Carry}
use Rattle.law_live_woken_links.specs.law_port_facts.ordered_lists.Ordered.{Every}
use Rattle.law_live_woken_links.specs.law_live_worlds.Law.{Shows}
use Rattle.law_live_woken_links.specs.law_live_orders.Law.{heard_at}
use Rattle.law_live_woken_links.specs.law_live_orders.Slots.{IsUnlost}
use Rattle.law_live_unsaid.specs.Law.{SendsByLabels, HoldsPacket}
use Rattle.law_live_woken_links.specs.law_live_waking_links.Hellos.{Greet, IsWritten}
use Rattle.law_live_woken_links.specs.law_live_waking_links.Law.{NamesIt, Takes}
use Rattle.law_live_woken_links.specs.law_live_tables.Law.{IsOrderly, IsNodeUp, GoesByAddress, KeepsItsParty}
use Rattle.law_link_tables.specs.Law.{step_at}

-- *What waits first* for a controller is under the mark of a packet or a control mark; and a frame that it ends on a label's channel holds
-- a packet that may be sent on
pub record IsFitCell (w : World) (site : Site) (cell : Cell) : Type 0 where
  pub marked : cell.mark.packet ≡ 0 → 0 < cell.mark.frame
  pub packets : (q : Linked) (label : Label) (payload : List ℕ) → taker_of site.controller cell.header.channel ≡ Some (ForLabel q label)
      → payload_of w.notes.frames cell.mark ≡ Some payload → HoldsPacket label payload

-- *A carry in peace* to the controller at an end: it is up before and behind it, nothing is lost, no frame passes by chance, and the port
-- goes by the node's address behind it
pub record ComesInPeace (topology : Topology) (w : World) (end : LinkEnd) : Type 0 where
  pub up : IsNodeUp w end
  pub up_then : IsNodeUp (next topology w (Carry (Up end.node))) end
  pub unlost : (next topology w (Carry (Up end.node))).notes.entries ≡ w.notes.entries
  pub cell_unlost : IsUnlost topology w (Up end.node)
  pub counts : CountsAsItsFrame w (Carry (Up end.node))
  pub address : GoesByAddress (next topology w (Carry (Up end.node))) end
  pub labels : (site : Site) → site_at w end.node ≡ Some site → SendsByLabels site.controller
  pub fits : (site : Site) (cell : Cell) (cells : List Cell) → site_at w end.node ≡ Some site → queue_at w (Up end.node) ≡ cell ∷ cells → IsFitCell w site cell

-- *What it answers* to what it hears
abbrev pub heard_answer : List (Said Peer) → Linked → Answer (Said Peer) Peer
heard_answer [] linked = Quiet
heard_answer (message ∷ more) linked = (step_at linked message).answer

-- *So it goes by its table*, where what greets it can be written and names it, and nothing but the table resets it
abbrev pub CarriesGoByTable : Type 0
CarriesGoByTable = (topology : Topology) (w : World) (end peer : LinkEnd) (linked peer_linked : Linked) (shows : Shows w end linked) (peer_shows : Shows w peer peer_linked) (hears : List (Said Peer))
    → IsLinkPort end.port → IsOrderly w end → ComesInPeace topology w end
    → Greet peer_shows.site.controller.address w.notes.frames (heard_at w (Carry (Up end.node)) end) hears → Every IsWritten hears → Every (NamesIt linked) hears
    → KeepsItsParty w (next topology w (Carry (Up end.node))) end (heard_answer hears)
    → Takes topology w (Carry (Up end.node)) end shows.site.controller.address linked.port.adjacency hears
