-- What a carry brings a node in peace may come

use Rattle.std.specs.Prelude.{◌≡◌, ◌≢◌, ℕ, ◌<◌, ◌^◌, false, List, ◌∷◌, Some}
use Rattle.world_model.specs.Words.{Policy, NodeId, PortNo, Up, IsTopology, next, CountsAsItsFrame, End, Cell, MoveBranch, Standing, Done, answered, is_clearing, nothing_taken, with_reassembly, Linked, ForGsmp, ForDefault, Topology, World, Site, site_at, queue_at, past_of}
use Rattle.world_model.specs.gsmp_wire.declared.message.Message.{Message}
use Rattle.world_model.specs.ifmp_wire.declared.message.Message.{Message as IfmpMessage}
use Rattle.world_model.specs.Topology.{peer_of}
use Rattle.world_model.specs.network_model.declared.link.LinkEnd.{LinkEnd}
use Rattle.world_model.specs.network_model.declared.event.Event.{Event}
use Rattle.world_model.specs.network_model.declared.event.Event.TheVariants.{Carry}
use Rattle.law_live_lasting.specs.law_port_facts.ordered_lists.Ordered.{Every}
use Rattle.law_live_lasting.specs.law_run_facts.law_world_views.Between.{IsWorld}
use Rattle.law_live_lasting.specs.law_run_facts.law_world_views.Kept.{Comes}
use Rattle.law_live_lasting.specs.law_live_worlds.Law.{AgreeIn}
use Rattle.law_live_lasting.specs.law_live_hearing.Law.{world_at, acting}
use Rattle.law_live_lasting.specs.law_live_orders.Law.{coming, IsOpenWay}
use Rattle.law_live_lasting.specs.law_live_orders.Messages.{AreComing, StayMade}
use Rattle.law_live_lasting.specs.law_live_passed_by.Law.{BringsNone, IsForOthersAt}
use Rattle.law_live_lasting.specs.law_live_going.Law.{IsWritten}
use Rattle.law_live_lasting.specs.law_live_control_links.Law.{IsCalmLink}
use Rattle.law_live_bound.specs.Law.{IsQuiet}
use Rattle.law_live_answers.specs.Law.{AsksJoinsAlone}
use Rattle.law_live_lasting.specs.law_live_unsaid.Carries.{EndsFrame}
use Rattle.law_live_asking.specs.Frames.{IsPlainMessage, MayCome}
use Rattle.law_live_asking.specs.Carries.{EndsWhatMayCome}

-- *No port of a node is in Clearing*
abbrev pub NoneIsClearing : Site → Type 0
NoneIsClearing site = Every (λ (linked : Linked). is_clearing linked.port.adjacency.state ≡ false) site.controller.ports

-- *In a run* the success of a join asks nothing there: the label is joined where the branch leads
abbrev pub JoinsArePlain : Type 0
JoinsArePlain = (policy : Policy) (topology : Topology) (before : List Event) (event : Event) (node : NodeId) (site : Site) (message : Message) (s : Standing) (input from to : End)
    → Comes policy topology before event → IsWorld (past_of policy topology before) → site_at (world_at policy topology before) node ≡ Some site
    → IsQuiet (acting (world_at policy topology before) site) → NoneIsClearing site
    → answered site.controller.desk message ≡ Done s → s.request ≡ MoveBranch input from to → to.port.0 ≢ 0
    → IsPlainMessage (with_reassembly (acting (world_at policy topology before) site) ForGsmp nothing_taken) message

-- *So of what a carry brings it* frames of default channels alone need be looked at, where the control link is calm, and it asks for joins
-- alone
abbrev pub CalmNodesMayHear : Type 0
CalmNodesMayHear = (policy : Policy) (topology : Topology) (before : List Event) (node : NodeId) → Comes policy topology before (Carry (Up node))
    → IsWorld (past_of policy topology before) → (link : IsCalmLink (world_at policy topology before) node)
    → AsksJoinsAlone (acting (world_at policy topology before) link.site) → NoneIsClearing link.site
    → ((cell : Cell) (cells : List Cell) (q : Linked) (payload : List ℕ) → queue_at (world_at policy topology before) (Up node) ≡ cell ∷ cells
    → EndsFrame (world_at policy topology before) node link.site cell (ForDefault q) payload
    → MayCome (with_reassembly (acting (world_at policy topology before) link.site) (ForDefault q) nothing_taken) (ForDefault q) payload)
    → EndsWhatMayCome (world_at policy topology before) node link.site (queue_at (world_at policy topology before) (Up node))

-- *The end of a link in peace*: both ends agree; what the other has said that this one has yet to hear is on its way in the queues, in order
-- and nothing else, and can be written; the way is open; and what is no message on the port's default channel is for others
pub record IsPeacefulEnd (topology : Topology) (w : World) (one far : LinkEnd) : Type 0 where
  pub said : List IfmpMessage
  pub far_said : List IfmpMessage
  pub agree : AgreeIn w one far said far_said
  pub there : AreComing agree.shows.site.controller.address w one far said
  pub written : Every IsWritten said
  pub low : agree.shows.site.controller.address.0 < 2 ^ 32
  pub is_open : IsOpenWay topology w one far
  pub others : BringsNone w far (Up far.node) → IsForOthersAt w far (Up far.node)

-- *What a carry brings it* there may come, where what was made stays and no frame passes by chance
abbrev pub PeacefulEndsMayHear : Type 0
PeacefulEndsMayHear = (topology : Topology) (w : World) (one far : LinkEnd) → IsTopology topology → IsPeacefulEnd topology w one far → CountsAsItsFrame w (Carry (Up far.node))
    → StayMade w.notes.frames (next topology w (Carry (Up far.node))).notes.frames (coming w one far)
    → (site : Site) (cell : Cell) (cells : List Cell) (q : Linked) (payload : List ℕ) → site_at w far.node ≡ Some site → queue_at w (Up far.node) ≡ cell ∷ cells
    → EndsFrame w far.node site cell (ForDefault q) payload → q.setup.port.0 ≡ far.port.0
    → MayCome (with_reassembly (acting w site) (ForDefault q) nothing_taken) (ForDefault q) payload

-- *So all that a carry brings a node* of a run may come, each of whose ports is such an end, whose control link is calm, and which asks for
-- joins alone
abbrev pub PeacefulNodesMayHear : Type 0
PeacefulNodesMayHear = (policy : Policy) (topology : Topology) (before : List Event) (node : NodeId) → Comes policy topology before (Carry (Up node))
    → IsWorld (past_of policy topology before) → (link : IsCalmLink (world_at policy topology before) node)
    → AsksJoinsAlone (acting (world_at policy topology before) link.site) → NoneIsClearing link.site
    → ((port : PortNo) (one : LinkEnd) → peer_of topology node port ≡ Some one
    → IsPeacefulEnd topology (world_at policy topology before) one (record { node = node; port = port }))
    → EndsWhatMayCome (world_at policy topology before) node link.site (queue_at (world_at policy topology before) (Up node))
