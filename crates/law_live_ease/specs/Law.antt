-- A network at ease, and one that binds

use Rattle.std.specs.Prelude.{◌≡◌, ◌≢◌, ℕ, ◌<◌, true, [], length, Contains, Some}
use Rattle.world_model.specs.Words.{NodeId, End, Request, MoveBranch, at, Desk, Standing, Label, Wiring, label_at, labels_of, Grant, Idle, grant_label, Controller, Linked, linked_at, last_number, last_transaction, is_in_range, most_grants, has_room, Topology, World, Site, site_at, next, IsNode}
use Rattle.world_model.specs.Topology.{peer_of}
use Rattle.world_model.specs.network_model.declared.link.LinkEnd.{LinkEnd}
use Rattle.world_model.specs.network_model.declared.event.Event.{Event}
pub use Rattle.live_model.specs.Links.{CarriesUnlost}
use Rattle.law_live_journeys.specs.law_port_facts.ordered_lists.Ordered.{Every}
use Rattle.law_live_journeys.specs.law_run_facts.law_world_views.Between.{setups_of}
use Rattle.law_live_journeys.specs.law_live_nodes.Law.{idle_work}
use Rattle.law_live_journeys.specs.law_live_links.Law.{number_of}
use Rattle.law_live_journeys.specs.law_live_worlds.Law.{Shows}
use Rattle.law_live_journeys.specs.law_live_orders.Law.{IsOpenWay}
use Rattle.law_live_journeys.specs.law_live_control_links.Law.{IsUnspentAt}
use Rattle.law_live_journeys.specs.law_live_ways.Links.{ComesNone}
use Rattle.law_live_journeys.specs.law_live_desks.Law.{AreOnTheirWay}
use Rattle.law_live_journeys.specs.law_live_bindings.Law.{label_branch, grant_branch}
use Rattle.law_live_journeys.specs.law_live_binding_beats.Law.{BindByQueues}
use Rattle.law_live_journeys.specs.law_live_mirrors.Fit.{IsKnown}
use Rattle.law_live_journeys.specs.law_live_mirrored_worlds.Law.{IsCalmlyMirrored}
use Rattle.law_live_journeys.specs.law_live_carried_out.Law.{IsMirroredPeace}

-- *A request is tied* to what it is of: the branch of a label that is being wired, that of a grant that isn't used yet, or a join
pub data IsTied (c : Controller) : Request → Type 0 where
  wires : (linked : Linked) (label : Label) → linked_at c linked.setup.port ≡ Some linked → label_at linked.port label.number ≡ Some label
      → label.state ≡ Wiring → IsTied c (label_branch linked.setup label.number)
  starts : (linked : Linked) (grant : Grant) → linked_at c linked.setup.port ≡ Some linked → at grant_label grant.label linked.port.grants ≡ Some grant
      → grant.state ≡ Idle → IsTied c (grant_branch linked.setup grant.label)
  joins : (input from to : End) → to.port.0 ≢ 0 → IsTied c (MoveBranch input from to)

-- *A request is asked*: it stands at the desk
pub record IsAsked (desk : Desk) (request : Request) : Type 0 where
  pub standing : Standing
  pub stands : Contains desk.standing standing
  pub of_request : standing.request ≡ request

-- *Desk and ports are tied*: each request that stands is; and the branch of each label that is being wired stands, and of each grant that
-- isn't used yet
pub record AreTied (c : Controller) : Type 0 where
  pub standing : Every (λ (s : Standing). IsTied c s.request) c.desk.standing
  pub wiring : Every (λ (linked : Linked). Every (λ (label : Label). label.state ≡ Wiring → IsAsked c.desk (label_branch linked.setup label.number))
      (labels_of linked.port)) c.ports
  pub idle : Every (λ (linked : Linked). Every (λ (grant : Grant). grant.state ≡ Idle → IsAsked c.desk (grant_branch linked.setup grant.label))
      linked.port.grants) c.ports

-- *A node goes steadily*: its switch is as it knows it, no change of routes waits, and its desk and its ports are tied
pub record IsSteadyNode (site : Site) : Type 0 where
  pub known : IsKnown (setups_of site.controller) site.controller.desk.rows site.switch
  pub none_waits : site.controller.waiting ≡ []
  pub ties : AreTied site.controller

-- *A network at ease*: no queue has a cell, each node and its switch have met, nothing that a controller asked stands, each switch
-- mirrors its controller, the two ends of each link agree, and both its ways are open; and each node goes steadily
pub record IsAtEase (topology : Topology) (w : World) : Type 0 where
  pub peace : IsMirroredPeace topology w
  pub steady : (node : NodeId) (site : Site) → site_at w node ≡ Some site → IsSteadyNode site

-- *A link binds*: its two ends bind, with what each has said that the other has yet to hear on its way in the queues, and both ways are
-- open
pub record IsBindingLink (topology : Topology) (w : World) (one far : LinkEnd) : Type 0 where
  pub ends : BindByQueues w one far
  pub there : IsOpenWay topology w one far
  pub back : IsOpenWay topology w far one

-- *A network binds*, from event to event of a beat: each node is mirrored, its control link calm, and what stands at its desk on its way;
-- each node goes steadily; each link binds; and no Delete All is on its way to a switch
pub record Binds (topology : Topology) (w : World) : Type 0 where
  pub nodes : (node : NodeId) → IsNode topology node → IsCalmlyMirrored w node
  pub desks : (node : NodeId) → IsNode topology node → AreOnTheirWay w node
  pub steady : (node : NodeId) (site : Site) → site_at w node ≡ Some site → IsSteadyNode site
  pub links : (one far : LinkEnd) → peer_of topology one.node one.port ≡ Some far → IsBindingLink topology w one far
  pub none : (one far : LinkEnd) → peer_of topology one.node one.port ≡ Some far → ComesNone w one.node

-- *A port has room*: a number for what it says next, and for one grant and one request more
pub record PortHasRoom (site : Site) (linked : Linked) : Type 0 where
  pub number_left : number_of linked.port < last_number
  pub grants : length linked.port.grants < most_grants
  pub requests : has_room site.controller.desk (idle_work linked) ≡ true

-- *All have room*: each controller has a transaction number left, and each of its ports has room; and a label that one end of a link may
-- give the other takes
pub record HaveRoom (topology : Topology) (w : World) : Type 0 where
  pub numbers : (node : NodeId) (site : Site) → site_at w node ≡ Some site → site.controller.desk.next < last_transaction
  pub ports : (node : NodeId) (site : Site) → site_at w node ≡ Some site → Every (PortHasRoom site) site.controller.ports
  pub ranges : (one far : LinkEnd) (linked far_linked : Linked) → peer_of topology one.node one.port ≡ Some far → Shows w one linked → Shows w far far_linked
      → (number : ℕ) → is_in_range linked.setup number ≡ true → is_in_range far_linked.setup number ≡ true

-- *A calm event*: no loss is entered by it, and of a cell that is carried the ledger has no entry behind it; all have room; and no
-- transaction numbers are spent behind it
pub record IsCalmEvent (topology : Topology) (w : World) (event : Event) : Type 0 where
  pub entries : (next topology w event).notes.entries ≡ w.notes.entries
  pub unlost : CarriesUnlost topology w event
  pub room : HaveRoom topology w
  pub unspent : (node : NodeId) → IsUnspentAt (next topology w event) node
