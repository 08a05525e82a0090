-- What a controller at peace says in its tick is put into its queue

use Rattle.std.specs.Prelude.{◌≡◌, true, nat_le, List, ◌∷◌, ◌++◌, length, fold, Some}
use Rattle.world_model.specs.Words.{NodeId, PortNo, Place, Down, Ack, said, greeting_of, Cell, ifmp_packet_of, default_payload, frame_cells, next_control, default_channel, default_home, Linked, with_linked, says_ifmp, Topology, World, Site, site_at, put_away}
use Rattle.world_model.specs.gsmp_wire.Layout.{octets_of as gsmp_octets}
use Rattle.world_model.specs.gsmp_wire.declared.message.Message.TheVariants.{Adjacency}
use Rattle.world_model.specs.ifmp_wire.Message.{octets_of as ifmp_octets}
use Rattle.world_model.specs.ifmp_wire.declared.message.Message.{Message}
use Rattle.world_model.specs.Controller.{Acted, free_slots}
use Rattle.world_model.specs.network_model.declared.event.Event.{Event}
use Rattle.world_model.specs.network_model.declared.event.Event.TheVariants.{Tick}
use Rattle.law_passing.specs.telling_model.Passing.{cells_put_at}
use Rattle.law_live_nodes.specs.Law.{IsNodeAtPeace, ticked_port, messages_of, port_ticks, greeted}

-- *Cells are put* into a queue by an event, one behind another
pub record Puts (topology : Topology) (w : World) (event : Event) (place : Place) (cells : List Cell) : Type 0 where
  pub front : List Cell
  pub after : List Cell
  pub is : cells_put_at topology w event place ≡ front ++ (cells ++ after)

-- the controller of a node as its tick comes
abbrev pub ticking : World → Site → Acted
ticking w site = record { controller = site.controller; notes = (put_away w).notes; numbers = w.numbers }

-- *A message among those of a tick*: the ports before its port, and the messages before it
pub record IsToSay (a : Acted) (linked : Linked) (message : Message) : Type 0 where
  pub before : List Linked
  pub after : List Linked
  pub ports : a.controller.ports ≡ before ++ linked ∷ after
  pub first : List Message
  pub rest : List Message
  pub messages : messages_of linked ≡ first ++ message ∷ rest

-- the controller as it says it, and the cells of its frame
abbrev pub saying : (a : Acted) (linked : Linked) (before : List Linked) (first : List Message) → Acted
saying a linked before first =
    fold (says_ifmp linked.setup.port) (with_linked (fold port_ticks (greeted a) before) (ticked_port linked)) first

abbrev pub frame_said : Acted → PortNo → Message → List Cell
frame_said a port message = frame_cells (default_home port).channel (next_control a.numbers)
    (default_payload (ifmp_packet_of a.controller.address (ifmp_octets message)))

-- so it is put, if there are slots for it then
abbrev pub MessagesArePut : Type 0
MessagesArePut = (topology : Topology) (w : World) (node : NodeId) (site : Site) (linked : Linked) (message : Message)
    → site_at w node ≡ Some site → IsNodeAtPeace (ticking w site) → (is : IsToSay (ticking w site) linked message)
    → nat_le (length (frame_said (saying (ticking w site) linked is.before is.first) linked.setup.port message))
    (free_slots (saying (ticking w site) linked is.before is.first).controller) ≡ true
    → Puts topology w (Tick node) (Down node) (frame_said (saying (ticking w site) linked is.before is.first) linked.setup.port message)

-- *The switch is greeted* first
abbrev pub greeting_said : Acted → List Cell
greeting_said a = frame_cells default_channel (next_control a.numbers) (gsmp_octets (Adjacency (greeting_of (said a.controller.adjacency Ack))))

abbrev pub GreetingsArePut : Type 0
GreetingsArePut = (topology : Topology) (w : World) (node : NodeId) (site : Site)
    → site_at w node ≡ Some site → IsNodeAtPeace (ticking w site)
    → nat_le (length (greeting_said (ticking w site))) (free_slots site.controller) ≡ true
    → Puts topology w (Tick node) (Down node) (greeting_said (ticking w site))
