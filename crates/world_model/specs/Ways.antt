-- The ways between two actors: which cells stand on them, the earlier place first, and what their frames say

use Rattle.std.specs.Prelude.{ℕ, ◌==◌, List, [], ◌++◌, filter, drop, Option, None, Some, Result, Ok, Err, option_map, if◌then◌else◌}
use Rattle.std.specs.Option.{option_map_or, option_and_then}
use Rattle.network_model.specs.net_types.declared.node.NodeId.{NodeId}
use Rattle.network_model.specs.net_types.declared.node.Place.TheVariants.{Down, Up, Out}
use Rattle.network_model.specs.net_types.declared.channel.Channel.{Channel}
use Rattle.network_model.specs.net_types.declared.channel.End.{End}
use Rattle.network_model.specs.net_types.declared.number.Mark.{Mark}
use Rattle.network_model.specs.net_types.declared.adjacency.Peer.{Peer}
use Rattle.network_model.specs.adjacency_table.Side.{Side}
use Rattle.network_model.specs.ipv4_packet.Packet.{protocol_of}
use Rattle.network_model.specs.atm_cells.declared.cell.Cell.{Cell}
use Rattle.network_model.specs.flow_encaps.Unwrapped.{default_unwrapped}
use Rattle.network_model.specs.ifmp_wire.declared.message.Message.{Message as IfmpMessage}
use Rattle.network_model.specs.ifmp_wire.Fields.{decoded as ifmp_decoded}
use Rattle.network_model.specs.gsmp_wire.declared.message.Message.{Message as GsmpMessage}
use Rattle.network_model.specs.gsmp_wire.Fields.{decoded as gsmp_decoded}
use Rattle.network_model.specs.link_model.declared.frames.Frame.{Frame}
use Rattle.network_model.specs.link_model.Ledger.{payload_of}
use Rattle.network_model.specs.crossbar_model.Crossbar.{output_of}
use Rattle.network_model.specs.port_model.Desk.{Standing}
use Rattle.network_model.specs.port_model.DeskAnswers.{Head, head_of}
use Rattle.network_model.specs.switch_model.Requests.{asked_in, is_request}
use Rattle.network_model.specs.switch_model.declared.request.Asked.{Asked}
use Rattle.network_model.specs.port_model.Grants.{Grant}
use Rattle.network_model.specs.port_model.Port.{Session}
use Rattle.network_model.specs.controller_model.Controller.{Linked, linked_at, default_channel, default_home}
use Rattle.network_model.specs.controller_model.Cells.{same_channel}
use Rattle.network_model.specs.controller_model.Packets.{control_protocol}
use Rattle.network_model.specs.declared.link.LinkEnd.{LinkEnd}
use Rattle.network_model.specs.World.{World, site_at, controller_at}
use Rattle.network_model.specs.Places.{queue_at}

-- *What stands at the end of a link*: the port with its session, its grants and its side of the adjacency
abbrev pub linked_end : World → LinkEnd → Option Linked
linked_end w end = option_and_then (λ c. linked_at c end.port) (controller_at w end.node)

abbrev pub session_at : World → LinkEnd → Option Session
session_at w end = option_and_then (λ linked. linked.port.session) (linked_end w end)

abbrev pub grants_at : World → LinkEnd → List Grant
grants_at w end = option_map_or (λ linked. linked.port.grants) (linked_end w end) []

abbrev pub side_at : World → LinkEnd → Option (Side Peer)
side_at w end = option_map (λ linked. linked.port.adjacency) (linked_end w end)

-- *What stands at a node*: the requests in the desk, the side of GSMP's adjacency, where an input leads
abbrev pub standing_at : World → NodeId → List Standing
standing_at w node = option_map_or (λ c. c.desk.standing) (controller_at w node) []

abbrev pub output_at : World → NodeId → (input : End) → Option End
output_at w node input = option_and_then (λ site. output_of site.switch.crossbar.branches input) (site_at w node)

-- *The chains* of a port's default channel, of a controller's GSMP channel and of a switch's
abbrev pub chain_at : World → LinkEnd → List Cell
chain_at w end = option_map_or (λ linked. linked.reassembly.chain) (linked_end w end) []

abbrev pub answers_chain_at : World → NodeId → List Cell
answers_chain_at w node = option_map_or (λ c. c.reassembly.chain) (controller_at w node) []

abbrev pub requests_chain_at : World → NodeId → List Cell
requests_chain_at w node = option_map_or (λ site. site.switch.reassembly.chain) (site_at w node) []

-- *On the way* from one end of a link to the other; from a controller to its switch, and back
abbrev pub on_the_way : World → (from to : LinkEnd) → List Cell
on_the_way w from to =
    chain_at w to
    ++ (queue_at w (Up to.node) ++ (queue_at w (Out from.node from.port) ++ queue_at w (Down from.node)))

abbrev pub to_switch : World → NodeId → List Cell
to_switch w node = requests_chain_at w node ++ queue_at w (Down node)

abbrev pub to_controller : World → NodeId → List Cell
to_controller w node = answers_chain_at w node ++ queue_at w (Up node)

-- those of them on a channel
abbrev pub on_channel : Channel → List Cell → List Cell
on_channel channel cells = filter (λ cell. same_channel cell.header.channel channel) cells

abbrev pub on_default_channel : World → (from to : LinkEnd) → List Cell
on_default_channel w from to =
    chain_at w to
    ++ (on_channel (default_home to.port).channel (queue_at w (Up to.node))
    ++ (on_channel default_channel (queue_at w (Out from.node from.port))
    ++ on_channel (default_home from.port).channel (queue_at w (Down from.node))))

abbrev pub gsmp_to_switch : World → NodeId → List Cell
gsmp_to_switch w node = requests_chain_at w node ++ on_channel default_channel (queue_at w (Down node))

abbrev pub gsmp_to_controller : World → NodeId → List Cell
gsmp_to_controller w node = answers_chain_at w node ++ on_channel default_channel (queue_at w (Up node))

-- *What the frame of a mark says*: a message of IFMP, which comes in a packet of its own; a message of GSMP; a
-- request under its number
abbrev pub ok_of : {A F : Type 0} → Result A F → Option A
ok_of (Ok message) = Some message
ok_of (Err fault) = None

abbrev pub ifmp_in : (packet : List ℕ) → Option IfmpMessage
ifmp_in packet = if protocol_of packet == control_protocol then ok_of (ifmp_decoded (drop 20 packet)) else None

abbrev pub ifmp_of : (payload : List ℕ) → Option IfmpMessage
ifmp_of payload = option_and_then ifmp_in (ok_of (default_unwrapped payload))

abbrev pub gsmp_of : (payload : List ℕ) → Option GsmpMessage
gsmp_of payload = ok_of (gsmp_decoded payload)

abbrev pub ifmp_under : List Frame → Mark → Option IfmpMessage
ifmp_under frames mark = option_and_then ifmp_of (payload_of frames mark)

abbrev pub gsmp_under : List Frame → Mark → Option GsmpMessage
gsmp_under frames mark = option_and_then gsmp_of (payload_of frames mark)

abbrev pub copy_by : Option Head → Option Asked → Option Standing
copy_by None asked = None
copy_by (Some head) None = None
copy_by (Some head) (Some asked) = Some (record { number = head.number; request = asked.request })

abbrev pub copy_of : GsmpMessage → Option Standing
copy_of message = if is_request message then copy_by (head_of message) (asked_in message) else None

abbrev pub copy_under : List Frame → Mark → Option Standing
copy_under frames mark = option_and_then copy_of (gsmp_under frames mark)
