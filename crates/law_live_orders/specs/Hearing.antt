-- A message that comes is heard by the port at the far end

use Rattle.std.specs.Prelude.{◌≡◌, ◌<◌, ◌^◌, true, false, List, ◌∷◌, Some}
use Rattle.world_model.specs.Words.{Addr, Up, Cell, InRange, FitsMessage, IsLinkPort, has_entry, default_home, Linked, linked_at, Topology, World, Site, site_at, queue_at, next, CountsAsItsFrame}
use Rattle.world_model.specs.ifmp_wire.declared.message.Message.{Message}
use Rattle.world_model.specs.network_model.declared.link.LinkEnd.{LinkEnd}
use Rattle.world_model.specs.network_model.declared.event.Event.TheVariants.{Carry}
use Rattle.law_live_messages.specs.Heard.{PortHears}
use Rattle.law_live_orders.specs.Law.{is_last_on}
use Rattle.law_live_orders.specs.Messages.{Says}

-- *The last cell of its frame* is brought to the controller, on the default channel of the port: the port hears the message, where
-- the frame doesn't pass by chance, and the ledger has no entry of it behind that
abbrev pub PortsHearMessages : Type 0
PortsHearMessages = (topology : Topology) (w : World) (far : LinkEnd) (site : Site) (linked : Linked) (cell : Cell) (cells : List Cell) (address : Addr) (message : Message)
    → IsLinkPort far.port → site_at w far.node ≡ Some site → linked_at site.controller far.port ≡ Some linked
    → queue_at w (Up far.node) ≡ cell ∷ cells → is_last_on (default_home far.port).channel cell ≡ true
    → Says address w.notes.frames cell.mark message → address.0 < 2 ^ 32 → InRange message → FitsMessage message
    → CountsAsItsFrame w (Carry (Up far.node)) → has_entry (next topology w (Carry (Up far.node))).notes.entries cell.mark ≡ false
    → PortHears topology w far address message
