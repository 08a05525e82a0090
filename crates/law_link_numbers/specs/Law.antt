-- Where numbers are left for what a port may say in an event, nothing but its adjacency's table resets it, while its node is up

use Rattle.std.specs.Prelude.{◌≡◌, ◌≢◌, ℕ, ◌+◌, ◌≤◌, ◌<◌, List, length, Some}
use Rattle.world_model.specs.Words.{PortNo, Hello, Mark, last_number, labels_of, ticked, ifmp_received, ifmp_of, source_of, default_unwrapped, Linked, linked_at, port_key, injected, joins_of, ForGsmp, ForDefault, ForLabel, frame_holds}
use Rattle.std.specs.Prelude.{Ok}
use Rattle.world_model.specs.adjacency_table.declared.message.Answer.TheVariants.{Reset}
use Rattle.world_model.specs.ifmp_wire.declared.message.Message.TheVariants.{Adjacency}
use Rattle.world_model.specs.Controller.{Acted}
use Rattle.world_model.specs.Cells.{Taker}
use Rattle.world_model.specs.Ticks.{ticks}
use Rattle.law_port_facts.specs.ordered_lists.Ordered.{InOrder}
use Rattle.law_live_links.specs.Law.{number_of}
use Rattle.law_live_others.specs.Law.{IsUp}

-- *Numbers are left* to a port: one for each label that it has and for each join of its node, and two more
abbrev pub HasNumbers : PortNo → Acted → Type 0
HasNumbers port a = (linked : Linked) → linked_at a.controller port ≡ Some linked
    → number_of linked.port + (length (labels_of linked.port) + length (joins_of a.controller)) + 2 ≤ last_number

-- *It keeps its party*
abbrev pub KeepsParty : PortNo → Linked → Acted → Type 0
KeepsParty port linked b = (now : Linked) → linked_at b.controller port ≡ Some now → now.port.adjacency.own ≡ linked.port.adjacency.own

-- *At a tick* of its node, unless its table resets it
abbrev pub TicksKeepParties : Type 0
TicksKeepParties = (port : PortNo) (a : Acted) (linked : Linked) → InOrder (λ (x y : Linked). port_key x < port_key y) a.controller.ports
    → linked_at a.controller port ≡ Some linked → HasNumbers port a → (ticked linked.port.adjacency).answer ≢ Reset → IsUp (ticks a) → KeepsParty port linked (ticks a)

-- *As a frame comes*, unless it is a greeting of its peer at which its table resets it
abbrev pub SparesIt : PortNo → Linked → Taker → (payload : List ℕ) → Type 0
SparesIt port linked ForGsmp payload = Unit {0}
SparesIt port linked (ForDefault q) payload = q.setup.port.0 ≡ port.0 → (packet : List ℕ) (hello : Hello) → default_unwrapped payload ≡ Ok packet
    → ifmp_of payload ≡ Some (Adjacency hello) → (ifmp_received linked.port.adjacency (source_of packet) hello).answer ≢ Reset
SparesIt port linked (ForLabel q label) payload = Unit {0}

abbrev pub FramesKeepParties : Type 0
FramesKeepParties = (port : PortNo) (a : Acted) (taker : Taker) (mark : Mark) (payload : List ℕ) (linked : Linked) → linked_at a.controller port ≡ Some linked
    → HasNumbers port a → SparesIt port linked taker payload → IsUp a → IsUp (frame_holds a taker mark payload) → KeepsParty port linked (frame_holds a taker mark payload)

-- *As a packet enters*
abbrev pub EntriesKeepParties : Type 0
EntriesKeepParties = (port : PortNo) (a : Acted) (number : ℕ) (packet : List ℕ) (linked : Linked) → linked_at a.controller port ≡ Some linked
    → KeepsParty port linked (injected a number packet)
