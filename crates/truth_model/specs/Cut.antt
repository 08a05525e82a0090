-- Which frames an event cuts: those that are open on a branch which ends or is moved, or in a chain which is given up

use Rattle.std.specs.Prelude.{◌≡◌, ℕ, ◌==◌, ◌&&◌, Bool, true, false, not, List, [], ◌∷◌, count_by, filter, map, Option, None, Some, option_map, if◌then◌else◌}
use Rattle.std.specs.Option.{option_map_or}
use Rattle.claims_model.specs.world_model.Words.{End, NodeId, PortNo, Place, Down, Up, Out, Mark, Cell, same_end, unfinished_on, same_mark, Entry, Cause, Cut, control_port, is_gsmp, linked_at, chain_of, ForGsmp, ForDefault, ForLabel, taker_of, Topology, World, Site, site_at, queue_at, with_queue, next}
use Rattle.claims_model.specs.world_model.crossbar_model.Crossbar.{output_of}
use Rattle.claims_model.specs.world_model.Cells.{Taker}
use Rattle.claims_model.specs.world_model.network_model.declared.event.Event.{Event}
use Rattle.claims_model.specs.world_model.network_model.declared.event.Event.TheVariants.{Carry}
use Rattle.claims_model.specs.world_model.network_model.declared.link.LinkEnd.{LinkEnd}
use Rattle.claims_model.specs.world_model.Topology.{peer_of}

-- *What holds open frames* at a node: the branch of an input of its switch, the chain of the switch's GSMP channel, and those
-- of its controller's GSMP channel, of the default channel of a port, and of a label's channel
pub data Holder : Type 0 where
  OfBranch : End → Holder
  OfSwitch : Holder
  OfGsmp : Holder
  OfDefault : PortNo → Holder
  OfLabel : PortNo → (label : ℕ) → Holder

abbrev pub same_holder : Holder → Holder → Bool
same_holder (OfBranch input) (OfBranch other) = same_end input other
same_holder OfSwitch OfSwitch = true
same_holder OfGsmp OfGsmp = true
same_holder (OfDefault port) (OfDefault other) = port.0 == other.0
same_holder (OfLabel port label) (OfLabel other number) = (port.0 == other.0) && (label == number)
same_holder holder other = false

abbrev pub chain_in : Site → Holder → List Cell
chain_in site (OfBranch input) = []
chain_in site OfSwitch = site.switch.reassembly.chain
chain_in site OfGsmp = site.controller.reassembly.chain
chain_in site (OfDefault port) = option_map_or (λ linked. linked.reassembly.chain) (linked_at site.controller port) []
chain_in site (OfLabel port label) = option_map_or (λ linked. (chain_of linked.chains label).chain) (linked_at site.controller port) []

-- *The marks of the frames* that are open there, each once. On a branch it is that of the last cell which went over it, where
-- that wasn't the frame's last (`open_behind`)
abbrev pub each_once : List Mark → List Mark
each_once [] = []
each_once (mark ∷ marks) = mark ∷ filter (λ other. not (same_mark mark other)) (each_once marks)

abbrev pub marks_in : List Cell → List Mark
marks_in cells = map (λ cell. cell.mark) cells

abbrev pub open_on : Option Mark → List Mark
open_on None = []
open_on (Some mark) = mark ∷ []

abbrev pub held_in : Site → Holder → List Mark
held_in site (OfBranch input) = open_on (unfinished_on site.switch.crossbar.branches input)
held_in site holder = each_once (marks_in (chain_in site holder))

-- *It is over* with a branch that is there no more or leads elsewhere, and with a chain that has no cell
abbrev pub leads_on : (before after : Option End) → Bool
leads_on (Some output) (Some other) = same_end output other
leads_on before after = false

abbrev pub is_empty_list : {A : Type 0} → List A → Bool
is_empty_list [] = true
is_empty_list (x ∷ xs) = false

abbrev pub is_over : (before after : Site) → Holder → Bool
is_over before after (OfBranch input) = not (leads_on (output_of before.switch.crossbar.branches input) (output_of after.switch.crossbar.branches input))
is_over before after holder = is_empty_list (chain_in after holder)

abbrev pub is_given_up : (before after : Option Site) → Holder → Bool
is_given_up (Some before) (Some after) holder = not (is_empty_list (held_in before holder)) && is_over before after holder
is_given_up before after holder = false

-- *The chain that the event brings a cell* is ended by that cell, where it ends
pub record Held : Type 0 where
  pub node : NodeId
  pub holder : Holder

abbrev pub same_held : Held → Held → Bool
same_held one other = (one.node.0 == other.node.0) && same_holder one.holder other.holder

abbrev pub holder_of : Taker → Holder
holder_of ForGsmp = OfGsmp
holder_of (ForDefault linked) = OfDefault linked.setup.port
holder_of (ForLabel linked label) = OfLabel linked.setup.port label.number

abbrev pub fed_switch : PortNo → Cell → Option Holder
fed_switch port cell = if is_gsmp port cell.header.channel then Some OfSwitch else None

abbrev pub fed_controller : Option Site → Cell → Option Holder
fed_controller None cell = None
fed_controller (Some site) cell = option_map holder_of (taker_of site.controller cell.header.channel)

abbrev pub at_node : NodeId → Option Holder → Option Held
at_node node holder = option_map (λ found. record { node = node; holder = found }) holder

abbrev pub fed_far : Cell → Option LinkEnd → Option Held
fed_far cell None = None
fed_far cell (Some far) = at_node far.node (fed_switch far.port cell)

abbrev pub fed_to : Topology → World → Place → Cell → Option Held
fed_to topology w (Down node) cell = at_node node (fed_switch control_port cell)
fed_to topology w (Up node) cell = at_node node (fed_controller (site_at w node) cell)
fed_to topology w (Out node port) cell = fed_far cell (peer_of topology node port)

abbrev pub fed_at : Topology → World → Place → List Cell → Option Held
fed_at topology w place [] = None
fed_at topology w place (cell ∷ cells) = fed_to topology (with_queue w place cells) place cell

abbrev pub fed : Topology → World → Event → Option Held
fed topology w (Carry place) = fed_at topology w place (queue_at w place)
fed topology w event = None

-- *It is cut* where it held an open frame, and is over behind the event, which brought it no cell
abbrev pub is_cut : Topology → World → Event → Held → Bool
is_cut topology w event held =
    not (option_map_or (same_held held) (fed topology w event) false)
    && is_given_up (site_at w held.node) (site_at (next topology w event) held.node) held.holder

abbrev pub is_cut_cause : Cause → Bool
is_cut_cause Cut = true
is_cut_cause cause = false

abbrev pub is_of_cut : Entry → Bool
is_of_cut entry = is_cut_cause entry.cause

abbrev pub cut_entry : Mark → Entry
cut_entry mark = record { mark = mark; cause = Cut }

abbrev pub cut_entries : World → Held → List Entry
cut_entries w held = option_map_or (λ site. map cut_entry (held_in site held.holder)) (site_at w held.node) []

-- *An event cuts* what stands in this list, each once, and nothing else
abbrev pub AreCut : Topology → World → Event → List Held → Type 0
AreCut topology w event cuts = (held : Held) → count_by (same_held held) cuts ≡ (if is_cut topology w event held then 1 else 0)
