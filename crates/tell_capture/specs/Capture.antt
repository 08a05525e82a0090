-- The frames on the links of a network, as a file in the format pcapng

use Rattle.std.specs.Prelude.{◌≡◌, ℕ, ◌+◌, ◌%◌, ◌^◌, Bool, true, false, List, [], ◌∷◌, ◌++◌, map, codes, Option, None, Some}
use Rattle.std.specs.List.{position}
use Rattle.net_types.specs.declared.node.Place.{Place}
use Rattle.net_types.specs.declared.node.Place.TheVariants.{Down, Up, Out}
use Rattle.world_model.specs.network_model.declared.event.Event.{Event}
use Rattle.world_model.specs.network_model.declared.event.Event.TheVariants.{Carry}
use Rattle.world_model.specs.network_model.declared.link.LinkEnd.{LinkEnd}
use Rattle.world_model.specs.Places.{places}
use Rattle.world_model.specs.Topology.{Topology, peer_of}
use Rattle.world_model.specs.World.{World}
use Rattle.script_model.specs.Texts.{name_of, place_text}
use Rattle.telling_model.specs.declared.standing.Standing.{Standing}
use Rattle.telling_model.specs.Passing.{cell_taken}
use Rattle.telling_model.specs.Tale.{Tale, Telling}
use Rattle.pcapng_blocks.specs.Blocks.{Block, Interface, Section, block_octets, file_octets, if_description, if_name, if_tsresol, shb_userappl}
use Rattle.frame_packets.specs.declared.queue.Queue.{Queue}
use Rattle.frame_packets.specs.Packet.{packet_of}
use Rattle.frame_packets.specs.Taps.{Tap, tap_cleared, cell_tapped, key_of, queue_of, same_queue, tap_at}

-- *The two ends of a queue's link*
abbrev pub far_text : Topology → Option LinkEnd → List ℕ
far_text topology None = []
far_text topology (Some far) = place_text topology (Out far.node far.port)

abbrev pub ends_text : Topology → Place → List ℕ
ends_text topology (Down node) =
    name_of topology node ++ (codes " controller to " ++ (name_of topology node ++ codes " switch"))
ends_text topology (Up node) =
    name_of topology node ++ (codes " switch to " ++ (name_of topology node ++ codes " controller"))
ends_text topology (Out node port) =
    place_text topology (Out node port) ++ (codes " to " ++ far_text topology (peer_of topology node port))

-- *An interface* is a queue; its link type is that of SunATM, and its times are in units of a second
abbrev pub sunatm : ℕ
sunatm = 123

abbrev pub interface_of : Topology → Place → Block
interface_of topology place =
    Interface sunatm (if_name (place_text topology place) ∷ if_description (ends_text topology place) ∷ if_tsresol 0 ∷ [])

-- *Where the network opens*
abbrev pub opening_blocks : Topology → List Place → List Block
opening_blocks topology queues = Section (shb_userappl (codes "ipswitch") ∷ []) ∷ map (interface_of topology) queues

-- *What is known*: the queues in the order of their interfaces, and the taps
pub record Tapped : Type 0 where
  pub queues : List Queue
  pub taps : List Tap

-- the number of a queue's interface, counted from 0, which has 32 bits
abbrev pub number_at : Option ℕ → ℕ
number_at None = 0
number_at (Some place) = place % 2 ^ 32

unfoldable pub interface_number : List Queue → Place → ℕ
interface_number queues place = number_at (position (λ other. same_queue (queue_of place) other) queues)

-- *A carried cell* joins its tap; where it is a last one, the packet of the tap's cells is told, and the tap has no cells
abbrev pub cell_told : (is_last : Bool) → Tapped → (number : ℕ) → Standing → List Tap → Telling Tapped
cell_told false known number standing taps = record { octets = []; state = record known { taps = taps } }
cell_told true known number standing taps = record {
  octets = block_octets (packet_of (interface_number known.queues standing.place) number standing (tap_at taps (key_of standing)));
  state = record known { taps = tap_cleared taps (key_of standing) };
}

abbrev pub carried_told : Tapped → (number : ℕ) → Option Standing → Telling Tapped
carried_told known number None = record { octets = []; state = known }
carried_told known number (Some standing) =
    cell_told standing.cell.header.last known number standing (cell_tapped known.taps (key_of standing) standing.cell)

-- *The cell that an event carries*
abbrev pub carried : World → Event → Option Standing
carried w (Carry place) = cell_taken w (Carry place)
carried w event = None

-- *The tale*: a section and its interfaces; a packet for each last cell that is carried, whose time is the number of the
-- event; and nothing at last
abbrev pub capture_tale : Tale Tapped
capture_tale = record {
  opens = λ topology w. record {
    octets = file_octets (opening_blocks topology (places w));
    state = record { queues = map queue_of (places w); taps = [] };
  };
  tells = λ known topology w placed. carried_told known (w.events + 1) (carried w placed.event);
  ends = λ topology w ended. [];
}
