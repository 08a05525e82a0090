-- A packet that comes to a node goes on to the next one, whole, on the default channel of the port to which its route leads

use Rattle.std.specs.Prelude.{◌≡◌, ℕ, ◌+◌, ◌<◌, true, false, nat_le, List, ◌∷◌, length, Contains, None, Some}
use Rattle.world_model.specs.Words.{NodeId, PortNo, Down, Up, Delivered, Mark, Cell, has_entry, payload_of, frame_cells, next_mark, default_payload, hop_of, onward, Here, On, IsLinkPort, Controller, default_home, grant_by, inject_refusal, Topology, World, Site, site_at, queue_at, next, CountsAsItsFrame}
use Rattle.world_model.specs.Controller.{free_slots}
use Rattle.world_model.specs.network_model.declared.link.LinkEnd.{LinkEnd}
use Rattle.world_model.specs.network_model.declared.event.Event.{Event}
use Rattle.world_model.specs.network_model.declared.event.Event.TheVariants.{Inject, Carry}
use Rattle.law_live_carried_out.specs.law_live_saying.Law.{Puts}
use Rattle.law_live_carried_out.specs.law_live_hearing.Law.{Hears}
use Rattle.law_live_carried_out.specs.law_live_orders.Law.{is_last_on}
use Rattle.law_live_carried_out.specs.law_live_bound.Law.{HoldsPacket}

-- *The frame by which it goes on*: under its next mark, with one less to live (RFC 1812 5.3.1)
abbrev pub frame_on : PortNo → (came : Mark) → (packet : List ℕ) → List Cell
frame_on port came packet = frame_cells (default_home port).channel (next_mark came) (default_payload (onward packet))

-- *It goes on* in an event from an end of a link: all of the frame is put into the queue from the controller to its switch, and the
-- payload that was made under its mark is that packet
pub record GoesOn (topology : Topology) (w : World) (event : Event) (one : LinkEnd) (came : Mark) (packet : List ℕ) : Type 0 where
  pub put : Puts topology w event (Down one.node) (frame_on one.port came packet)
  pub made : payload_of (next topology w event).notes.frames (next_mark came) ≡ Some (default_payload (onward packet))

-- *Its route* leads to a port, and the packet lives on; no grant is held there under which it would be sent
pub record IsRouted (c : Controller) (port : PortNo) (packet : List ℕ) : Type 0 where
  pub route : hop_of c.table packet ≡ On port
  pub ungranted : grant_by c port (onward packet) ≡ None

-- *A packet that enters* has the next number, and no frame yet
abbrev pub entering : World → Mark
entering w = record { packet = w.sent + 1; frame = 0 }

-- It goes on by its route, where the ledger has no entry of its frame behind that
abbrev pub EntriesForward : Type 0
EntriesForward = (topology : Topology) (w : World) (one : LinkEnd) (site : Site) (packet : List ℕ) → site_at w one.node ≡ Some site
    → inject_refusal packet ≡ None → IsRouted site.controller one.port packet
    → has_entry (next topology w (Inject one.node packet)).notes.entries (next_mark (entering w)) ≡ false
    → GoesOn topology w (Inject one.node packet) one (entering w) packet

-- or where slots are free for all of the frame; and nothing is entered then
abbrev pub EntriesFindSlots : Type 0
EntriesFindSlots = (topology : Topology) (w : World) (one : LinkEnd) (site : Site) (packet : List ℕ) → site_at w one.node ≡ Some site
    → inject_refusal packet ≡ None → IsRouted site.controller one.port packet
    → nat_le (length (frame_on one.port (entering w) packet)) (free_slots site.controller) ≡ true
    → GoesOn topology w (Inject one.node packet) one (entering w) packet
    × ((next topology w (Inject one.node packet)).notes.entries ≡ w.notes.entries)

-- one for the node itself is delivered
abbrev pub EntriesAreDelivered : Type 0
EntriesAreDelivered = (topology : Topology) (w : World) (node : NodeId) (site : Site) (packet : List ℕ) → site_at w node ≡ Some site
    → inject_refusal packet ≡ None → hop_of site.controller.table packet ≡ Here
    → Contains (next topology w (Inject node packet)).notes.records (Delivered node (w.sent + 1) packet)

-- *A controller is brought a packet* at an end of a link: the first cell that waits for it is the last one of the packet's frame, on
-- the default channel of the port; the frame doesn't pass by chance, and the ledger has no entry of it behind the carry
pub record IsBrought (topology : Topology) (w : World) (far : LinkEnd) (mark : Mark) (packet : List ℕ) : Type 0 where
  pub link : IsLinkPort far.port
  pub site : Site
  pub there : site_at w far.node ≡ Some site
  pub cell : Cell
  pub cells : List Cell
  pub queue : queue_at w (Up far.node) ≡ cell ∷ cells
  pub last : is_last_on (default_home far.port).channel cell ≡ true
  pub own : cell.mark ≡ mark
  pub made : payload_of w.notes.frames mark ≡ Some (default_payload packet)
  pub accepted : inject_refusal packet ≡ None
  pub counts : CountsAsItsFrame w (Carry (Up far.node))
  pub unlost : has_entry (next topology w (Carry (Up far.node))).notes.entries mark ≡ false

-- It hears it then
abbrev pub BroughtPacketsAreHeard : Type 0
BroughtPacketsAreHeard = (topology : Topology) (w : World) (far : LinkEnd) (mark : Mark) (packet : List ℕ) → IsBrought topology w far mark packet
    → Hears topology w far.node (default_home far.port).channel mark (default_payload packet) × HoldsPacket (default_payload packet) packet

-- and the packet goes on by its route, where the ledger has no entry of its next frame behind that
abbrev pub BroughtPacketsForward : Type 0
BroughtPacketsForward = (topology : Topology) (w : World) (far : LinkEnd) (port : PortNo) (came : Mark) (packet : List ℕ)
    (b : IsBrought topology w far came packet) → 0 < came.packet → IsRouted b.site.controller port packet
    → has_entry (next topology w (Carry (Up far.node))).notes.entries (next_mark came) ≡ false
    → GoesOn topology w (Carry (Up far.node)) (record { node = far.node; port = port }) came packet

-- or it is delivered there
abbrev pub BroughtPacketsAreDelivered : Type 0
BroughtPacketsAreDelivered = (topology : Topology) (w : World) (far : LinkEnd) (came : Mark) (packet : List ℕ)
    (b : IsBrought topology w far came packet) → hop_of b.site.controller.table packet ≡ Here
    → Contains (next topology w (Carry (Up far.node))).notes.records (Delivered far.node came.packet packet)
