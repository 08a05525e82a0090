-- Frames come in the order in which they were sent, between the two controllers of a link, whether or not its ways are open

use Rattle.std.specs.Prelude.{◌≡◌, List, ◌∷◌, ◌++◌, Some}
use Rattle.world_model.specs.Words.{Down, Up, Out, End, default_end, default_home, Policy, Topology, World, IsTopology, IsShaped, IsRun, output_at, next, world_after, past_of}
use Rattle.world_model.specs.Topology.{peer_of}
use Rattle.world_model.specs.network_model.declared.link.LinkEnd.{LinkEnd}
use Rattle.world_model.specs.network_model.declared.event.Event.{Event}
use Rattle.world_model.specs.network_model.declared.event.Event.TheVariants.{Carry, Lose, Forge}
use Rattle.law_run_facts.specs.law_world_views.Between.{IsWorld}
use Rattle.law_run_facts.specs.law_world_views.Fronts.{HasAddresses}
use Rattle.law_run_facts.specs.Nodes.{HasSite}
use Rattle.law_live_hearing.specs.Law.{LeadsByDefault}
use Rattle.law_live_carries.specs.Law.{taken_in, put_in}
use Rattle.law_live_orders.specs.Law.{last_marks, coming, heard_at, sent_at}
use Rattle.law_live_orders.specs.Slots.{IsUnlost}

-- *The default channels may lead* from one end of a link to the other: where they lead anywhere, they lead out to the port and
-- home from there, and nothing else leads there
pub record MayLead (topology : Topology) (w : World) (one far : LinkEnd) : Type 0 where
  pub linked : peer_of topology one.node one.port ≡ Some far
  pub shaped : IsShaped w
  pub within : HasSite w one.node × HasSite w far.node
  pub out : (other : End) → output_at w one.node other ≡ Some (default_end one.port) → other ≡ default_home one.port
  pub home : (other : End) → output_at w far.node other ≡ Some (default_home far.port) → other ≡ default_end far.port
  pub leads : LeadsByDefault w one.node one.port × LeadsByDefault w far.node far.port

-- *An event loses none of them*: it is no loss and no forgery; and where it carries a cell from the near controller, or over the
-- link from the near port, the ledger has no entry of that cell behind it
abbrev pub LeavesUnlost : Topology → World → (one : LinkEnd) → Event → Type 0
LeavesUnlost topology w one (Carry (Down node)) = node.0 ≡ one.node.0 → IsUnlost topology w (Down node)
LeavesUnlost topology w one (Carry (Up node)) = Unit {0}
LeavesUnlost topology w one (Carry (Out node port)) = node.0 ≡ one.node.0 → port.0 ≡ one.port.0 → IsUnlost topology w (Out node port)
LeavesUnlost topology w one (Lose place) = ⊥
LeavesUnlost topology w one (Forge place channel payload) = ⊥
LeavesUnlost topology w one event = Unit {0}

-- *First in, first out*: what is heard, and then what is still to come, is what was to come, and then what was sent
abbrev pub UnlostFramesComeInOrder : Type 0
UnlostFramesComeInOrder = (topology : Topology) (w : World) (one far : LinkEnd) (event : Event) → IsTopology topology
    → MayLead topology w one far → LeavesUnlost topology w one event
    → heard_at w event far ++ coming (next topology w event) one far ≡ coming w one far ++ sent_at topology w event one

-- so along a stretch of events, where it is so of each
abbrev pub UnlostStretchesComeInOrder : Type 0
UnlostStretchesComeInOrder = (topology : Topology) (w : World) (one far : LinkEnd) (events : List Event) → IsTopology topology
    → ((front rest : List Event) (event : Event) → events ≡ front ++ event ∷ rest
    → MayLead topology (world_after topology w front) one far × LeavesUnlost topology (world_after topology w front) one event)
    → last_marks (default_home far.port).channel (taken_in topology w events (Up far.node)) ++ coming (world_after topology w events) one far
    ≡ coming w one far ++ last_marks (default_home one.port).channel (put_in topology w events (Down one.node))

-- *In a run* they may lead, between the two ends of each link, before the first frame that is forged or passes by chance
abbrev pub RunsMayLead : Type 0
RunsMayLead = (policy : Policy) (topology : Topology) (events : List Event) (one far : LinkEnd) → HasAddresses topology
    → IsRun policy topology events → IsWorld (past_of policy topology events) → peer_of topology one.node one.port ≡ Some far
    → MayLead topology (past_of policy topology events).now one far
