-- What a controller at peace sends in its tick on the default channel of a port is what the port says

use Rattle.std.specs.Prelude.{◌≡◌, Some}
use Rattle.world_model.specs.Words.{IsLinkPort, Linked, linked_at, Topology, World, Site, site_at, next}
use Rattle.world_model.specs.network_model.declared.link.LinkEnd.{LinkEnd}
use Rattle.world_model.specs.network_model.declared.event.Event.TheVariants.{Tick}
use Rattle.law_live_nodes.specs.Law.{IsNodeAtPeace, messages_of}
use Rattle.law_live_saying.specs.Law.{ticking}
use Rattle.law_live_orders.specs.Law.{sent_at}
use Rattle.law_live_orders.specs.Messages.{AreSaid}

-- *In order*, and nothing else, where the ledger is as it was: each frame finds its slots
abbrev pub TicksSendWhatPortsSay : Type 0
TicksSendWhatPortsSay = (topology : Topology) (w : World) (one : LinkEnd) (site : Site) (linked : Linked) → IsLinkPort one.port
    → site_at w one.node ≡ Some site → IsNodeAtPeace (ticking w site) → linked_at site.controller one.port ≡ Some linked
    → (next topology w (Tick one.node)).notes.entries ≡ w.notes.entries
    → AreSaid site.controller.address (next topology w (Tick one.node)).notes.frames (sent_at topology w (Tick one.node) one) (messages_of linked)
