-- a topology that is made of its lines, and a refusal of each name

use Rattle.std.proofs.Common.{◌≡◌, ℕ, List, [], ◌∷◌, None, Some, Result, Ok, Err, refl}
use Rattle.network_model.specs.net_types.declared.node.PortNo.{PortNo}
use Rattle.network_model.specs.net_types.declared.node.Place.TheVariants.{Out}
use Rattle.network_model.specs.net_types.Prefix.{Network}
use Rattle.network_model.specs.ipv4_forward.declared.change.RouteChange.{RouteChange}
use Rattle.network_model.specs.ipv4_forward.declared.table.Next.TheVariants.{Via}
use Rattle.world_model.specs.network_model.declared.event.Event.TheVariants.{Carry, Route}
use Rattle.world_model.specs.network_model.declared.line.TopologyLine.{TopologyLine}
use Rattle.world_model.specs.network_model.declared.line.TopologyLine.TheVariants as lines
use Rattle.world_model.specs.network_model.declared.refusal.EventRefusal.TheVariants as events
use Rattle.world_model.specs.network_model.declared.refusal.TopologyRefusal.{TopologyRefusal}
use Rattle.world_model.specs.network_model.declared.refusal.TopologyRefusal.TheVariants.{DuplicateName, UnknownName, SelfLink, PortTaken, NoLink, Duplicate}
use Rattle.world_model.specs.Topology.{Topology, empty_topology}
use Rattle.world_model.specs.Lines.{line_refusal, after_line}
use Rattle.world_model.specs.Events.{event_refusal, named_refusal, table_after}
use Rattle.world_model.proofs.Lives.{two}

abbrev port : ℕ → PortNo
port n = record { 0 = n }

abbrev name : (letter : ℕ) → List ℕ
name letter = letter ∷ []

abbrev ten : Network
ten = record { addr = record { 0 = 167772160 }; len = 8 }

abbrev behind : Result Topology TopologyRefusal → TopologyLine → Result Topology TopologyRefusal
behind (Ok topology) line = after_line topology line
behind (Err refusal) line = Err refusal

abbrev read : Result Topology TopologyRefusal → List TopologyLine → Result Topology TopologyRefusal
read so_far [] = so_far
read so_far (line ∷ lines) = read (behind so_far line) lines

-- *Two nodes and the link between them*
two_is_read : read (Ok empty_topology)
    (lines.Node (name 97) (record { 0 = 167772417 }) ∷ lines.Node (name 98) (record { 0 = 167772929 })
    ∷ lines.Link (name 97, port 1) (name 98, port 1)
    ∷ lines.RouteVia (name 97) ten (port 1) ∷ lines.RouteLocal (name 98) ten ∷ []) ≡ Ok two
two_is_read = refl

-- *Refusals*: the first that applies
refused_nodes : (line_refusal two (lines.Node (name 97) (record { 0 = 1 })) ≡ Some DuplicateName)
    × (line_refusal two (lines.Cells (name 99) 16) ≡ Some UnknownName)
    × (line_refusal two (lines.Labels (name 99) (port 1) 32 95) ≡ Some UnknownName)
refused_nodes = (refl, refl, refl)

refused_links : (line_refusal two (lines.Link (name 97, port 2) (name 99, port 1)) ≡ Some UnknownName)
    × (line_refusal two (lines.Link (name 97, port 1) (name 97, port 2)) ≡ Some SelfLink)
    × (line_refusal two (lines.Link (name 97, port 2) (name 98, port 1)) ≡ Some PortTaken)
    × (line_refusal two (lines.Link (name 97, port 2) (name 98, port 2)) ≡ None)
refused_links = (refl, refl, refl, refl)

refused_routes : (line_refusal two (lines.RouteVia (name 99) ten (port 1)) ≡ Some UnknownName)
    × (line_refusal two (lines.RouteVia (name 97) ten (port 2)) ≡ Some NoLink)
    × (line_refusal two (lines.RouteVia (name 97) ten (port 1)) ≡ Some Duplicate)
    × (line_refusal two (lines.RouteLocal (name 98) ten) ≡ Some Duplicate)
refused_routes = (refl, refl, refl, refl)

-- labels of a port that isn't linked are none to refuse, nor are lines about the whole network
accepted_lines : (line_refusal two (lines.Labels (name 97) (port 8) 32 95) ≡ None)
    × (line_refusal two lines.PolicyNever ≡ None) × (line_refusal two (lines.Version 2) ≡ None)
accepted_lines = (refl, refl, refl)

-- *Events*: of a port that isn't linked, and a route that isn't there
abbrev dropped : RouteChange
dropped = record { prefix = record { addr = record { 0 = 167772160 }; len = 9 }; next = None }

refused_events : (event_refusal two (table_after two []) (Carry (Out (record { 0 = 1 }) (port 2))) ≡ Some events.NoLink)
    × (event_refusal two (table_after two []) (Route (record { 0 = 1 }) dropped) ≡ Some events.NoPrefix)
    × (event_refusal two (table_after two []) (Route (record { 0 = 1 }) (record { prefix = ten; next = Some (Via (port 2)) })) ≡ Some events.NoLink)
    × (event_refusal two (table_after two []) (Route (record { 0 = 1 }) (record { prefix = ten; next = None })) ≡ None)
refused_events = (refl, refl, refl, refl)

-- a route that was taken away by an earlier line isn't there
taken_away : event_refusal two (table_after two (Route (record { 0 = 1 }) (record { prefix = ten; next = None }) ∷ [])) (Route (record { 0 = 1 }) (record { prefix = ten; next = None }))
    ≡ Some events.NoPrefix
taken_away = refl

unknown_node : named_refusal two (name 99) (λ node. None) ≡ Some events.UnknownName
unknown_node = refl
