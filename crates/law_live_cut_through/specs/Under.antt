-- Controllers and labels: a packet goes on under a grant, and what comes on the channel of a label is forwarded

use Rattle.std.specs.Prelude.{◌≡◌, ℕ, ◌<◌, true, false, List, ◌∷◌, Contains, None, Some}
use Rattle.world_model.specs.Words.{AreOctets, PortNo, Down, Up, Delivered, Mark, Cell, FlowId, kind_of, flow_of, flow_ttl, has_entry, payload_of, frame_cells, next_mark, labelled_payload, Carries, hop_of, onward, Here, On, IsLinkPort, is_label_number, Label, is_bound, label_at, Grant, control_end, Controller, Linked, linked_at, grant_by, inject_refusal, Topology, World, Site, site_at, queue_at, next, CountsAsItsFrame}
use Rattle.world_model.specs.network_model.declared.link.LinkEnd.{LinkEnd}
use Rattle.world_model.specs.network_model.declared.event.Event.{Event}
use Rattle.world_model.specs.network_model.declared.event.Event.TheVariants.{Inject, Carry}
use Rattle.calm_model.specs.Ways.{one_hop}
use Rattle.law_live_ease.specs.law_live_saying.Law.{Puts}
use Rattle.law_live_ease.specs.law_live_orders.Law.{is_last_on}
use Rattle.law_live_ease.specs.law_live_journeys.Law.{GoesOn, IsRouted, IsBrought, entering}

-- *The frame by which a packet goes under a grant*: under its next mark, with one less to live (RFC 1954)
abbrev pub frame_under : PortNo → Grant → (came : Mark) → (packet : List ℕ) → List Cell
frame_under port grant came packet = frame_cells (control_end port grant.label).channel (next_mark came) (labelled_payload (kind_of grant.flow) (onward packet))

-- *It goes under the grant* in an event: all of the frame is put into the queue from the controller to its switch, and the payload that was
-- made under its mark is that packet
pub record GoesUnder (topology : Topology) (w : World) (event : Event) (one : LinkEnd) (came : Mark) (grant : Grant) (packet : List ℕ) : Type 0 where
  pub put : Puts topology w event (Down one.node) (frame_under one.port grant came packet)
  pub made : payload_of (next topology w event).notes.frames (next_mark came) ≡ Some (labelled_payload (kind_of grant.flow) (onward packet))

-- *Its route* leads to a port, where this grant is held for it
pub record IsGranted (c : Controller) (port : PortNo) (packet : List ℕ) (grant : Grant) : Type 0 where
  pub route : hop_of c.table packet ≡ On port
  pub granted : grant_by c port (onward packet) ≡ Some grant

-- *Nothing is entered* in the ledger by an event
abbrev pub EntersNothing : Topology → World → Event → Type 0
EntersNothing topology w event = (next topology w event).notes.entries ≡ w.notes.entries

-- A packet that enters goes on by its route, where nothing is entered by that: on the default channel, or under its grant
abbrev pub EntriesGoOn : Type 0
EntriesGoOn = (topology : Topology) (w : World) (one : LinkEnd) (site : Site) (packet : List ℕ) → site_at w one.node ≡ Some site
    → inject_refusal packet ≡ None → IsRouted site.controller one.port packet
    → EntersNothing topology w (Inject one.node packet) → GoesOn topology w (Inject one.node packet) one (entering w) packet

abbrev pub EntriesGoUnder : Type 0
EntriesGoUnder = (topology : Topology) (w : World) (one : LinkEnd) (site : Site) (packet : List ℕ) (grant : Grant) → site_at w one.node ≡ Some site
    → inject_refusal packet ≡ None → IsGranted site.controller one.port packet grant
    → EntersNothing topology w (Inject one.node packet)
    → GoesUnder topology w (Inject one.node packet) one (entering w) grant packet

-- and so does one that is brought on a default channel
abbrev pub BroughtPacketsGoOn : Type 0
BroughtPacketsGoOn = (topology : Topology) (w : World) (far : LinkEnd) (port : PortNo) (came : Mark) (packet : List ℕ)
    (b : IsBrought topology w far came packet) → 0 < came.packet → IsRouted b.site.controller port packet → EntersNothing topology w (Carry (Up far.node))
    → GoesOn topology w (Carry (Up far.node)) (record { node = far.node; port = port }) came packet

abbrev pub BroughtPacketsGoUnder : Type 0
BroughtPacketsGoUnder = (topology : Topology) (w : World) (far : LinkEnd) (port : PortNo) (came : Mark) (packet : List ℕ) (grant : Grant)
    (b : IsBrought topology w far came packet) → 0 < came.packet → IsGranted b.site.controller port packet grant
    → EntersNothing topology w (Carry (Up far.node))
    → GoesUnder topology w (Carry (Up far.node)) (record { node = far.node; port = port }) came grant packet

-- *A controller is brought a packet under a label*: the first cell that waits for it is the last one of a frame on the label's channel, under which
-- the packet is carried as one of the label's flow; the label is bound, the frame doesn't pass by chance, and the ledger has no entry of it behind
-- the carry
pub record IsBroughtUnder (topology : Topology) (w : World) (far : LinkEnd) (number : ℕ) (mark : Mark) (flow : FlowId) (packet : List ℕ) : Type 0 where
  pub link : IsLinkPort far.port
  pub numbered : is_label_number number ≡ true
  pub site : Site
  pub there : site_at w far.node ≡ Some site
  pub linked : Linked
  pub of_port : linked_at site.controller far.port ≡ Some linked
  pub label : Label
  pub held : label_at linked.port number ≡ Some label
  pub bound : is_bound label.state ≡ true
  pub of_flow : label.flow ≡ flow
  pub cell : Cell
  pub cells : List Cell
  pub queue : queue_at w (Up far.node) ≡ cell ∷ cells
  pub last : is_last_on (control_end far.port number).channel cell ≡ true
  pub own : cell.mark ≡ mark
  pub payload : List ℕ
  pub made : payload_of w.notes.frames mark ≡ Some payload
  pub carries : Carries flow packet payload
  pub counts : CountsAsItsFrame w (Carry (Up far.node))
  pub unlost : has_entry (next topology w (Carry (Up far.node))).notes.entries mark ≡ false

-- It is delivered where its route is local
abbrev pub LabelledAreDelivered : Type 0
LabelledAreDelivered = (topology : Topology) (w : World) (far : LinkEnd) (number : ℕ) (mark : Mark) (flow : FlowId) (packet : List ℕ)
    (b : IsBroughtUnder topology w far number mark flow packet) → hop_of b.site.controller.table packet ≡ Here
    → Contains (next topology w (Carry (Up far.node))).notes.records (Delivered far.node mark.packet packet)

-- and else it goes on, on a default channel or under a grant, where nothing is entered by that
abbrev pub LabelledForward : Type 0
LabelledForward = (topology : Topology) (w : World) (far : LinkEnd) (number : ℕ) (port : PortNo) (mark : Mark) (flow : FlowId) (packet : List ℕ)
    (b : IsBroughtUnder topology w far number mark flow packet) → 0 < mark.packet → IsRouted b.site.controller port packet
    → EntersNothing topology w (Carry (Up far.node))
    → GoesOn topology w (Carry (Up far.node)) (record { node = far.node; port = port }) mark packet

abbrev pub LabelledGoUnder : Type 0
LabelledGoUnder = (topology : Topology) (w : World) (far : LinkEnd) (number : ℕ) (port : PortNo) (mark : Mark) (flow : FlowId) (packet : List ℕ) (grant : Grant)
    (b : IsBroughtUnder topology w far number mark flow packet) → 0 < mark.packet → IsGranted b.site.controller port packet grant
    → EntersNothing topology w (Carry (Up far.node))
    → GoesUnder topology w (Carry (Up far.node)) (record { node = far.node; port = port }) mark grant packet

-- *A packet that goes on is carried* under a label of its flow; and so it is hop by hop, under the label of its flow one hop further
abbrev pub LabelledFramesCarry : Type 0
LabelledFramesCarry = (packet : List ℕ) (flow : FlowId) → inject_refusal packet ≡ None → AreOctets packet → flow_of (kind_of flow) (onward packet) ≡ Some flow
    → Carries flow (onward packet) (labelled_payload (kind_of flow) (onward packet))

abbrev pub CarriesGoOn : Type 0
CarriesGoOn = (flow : FlowId) (packet payload : List ℕ) → 1 < flow_ttl flow → Carries flow packet payload → Carries (one_hop flow) (onward packet) payload
