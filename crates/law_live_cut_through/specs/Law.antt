-- What stands at the nodes and the links of a flow's way, from its first label until it is cut through

use Rattle.std.specs.Prelude.{◌≡◌, ℕ, true, List, [], ◌∷◌, Option, None, Some}
use Rattle.world_model.specs.Words.{NodeId, PortNo, End, Request, AddBranch, at, Standing, best, Local, Via, FlowId, flow_destination, Label, Offered, serves, label_at, labels_of, label_end, Grant, GrantState, ByController, ByInput, grant_label, Linked, linked_end, table_in, Topology, World, Site, site_at}
use Rattle.world_model.specs.Topology.{peer_of}
use Rattle.world_model.specs.network_model.declared.link.LinkEnd.{LinkEnd}
use Rattle.calm_model.specs.Ways.{one_hop}
use Rattle.law_live_ease.specs.Law.{Binds}
use Rattle.law_live_ease.specs.law_port_facts.ordered_lists.Ordered.{Every}

-- *A label is held* at an end: offered for the flow, and joined so
pub record HoldsLabel (w : World) (end : LinkEnd) (number : ℕ) (flow : FlowId) (join : Option End) : Type 0 where
  pub linked : Linked
  pub shown : linked_end w end ≡ Some linked
  pub label : Label
  pub held : label_at linked.port number ≡ Some label
  pub offered : label.state ≡ Offered
  pub of_flow : label.flow ≡ flow
  pub joined : label.join ≡ join

-- *A grant is held* at an end: the controller sends the flow under it, or it is lent to an input
abbrev pub IsUsed : GrantState → Type 0
IsUsed ByController = Unit {0}
IsUsed (ByInput input) = Unit {0}
IsUsed state = ⊥

pub record HoldsGrant (w : World) (end : LinkEnd) (number : ℕ) (flow : FlowId) (state : GrantState) : Type 0 where
  pub linked : Linked
  pub shown : linked_end w end ≡ Some linked
  pub grant : Grant
  pub held : at grant_label number linked.port.grants ≡ Some grant
  pub of_flow : grant.flow ≡ flow
  pub is : grant.state ≡ state
  pub used : IsUsed state

-- *No other label* of the port serves the flow
abbrev pub ServesAlone : World → (end : LinkEnd) → (number : ℕ) → FlowId → Type 0
ServesAlone w end number flow = (linked : Linked) → linked_end w end ≡ Some linked
    → Every (λ (label : Label). serves label.state ≡ true → label.flow ≡ flow → label.number ≡ number) (labels_of linked.port)

-- *Only branches are asked*: each request that stands at a node adds one
abbrev pub AddsBranch : Request → Type 0
AddsBranch (AddBranch input output) = Unit {0}
AddsBranch request = ⊥

abbrev pub AddBranchesAlone : World → Type 0
AddBranchesAlone w = (node : NodeId) (site : Site) → site_at w node ≡ Some site → Every (λ (s : Standing). AddsBranch s.request) site.controller.desk.standing

-- *A network goes on so*: it binds, and only branches are asked
pub record BindsAlone (topology : Topology) (w : World) : Type 0 where
  pub binds : Binds topology w
  pub alone : AddBranchesAlone w

-- *A link is labelled* for a flow that comes over it: the port at which it comes in holds a label for it that is not joined, and no other; and the
-- other end sends under it
pub record IsLabelled (topology : Topology) (w : World) (node : NodeId) (far : LinkEnd) (flow : FlowId) : Type 0 where
  pub port : PortNo
  pub linked : peer_of topology node port ≡ Some far
  pub number : ℕ
  pub label : HoldsLabel w far number flow None
  pub grant : HoldsGrant w (record { node = node; port = port }) number flow ByController
  pub alone : ServesAlone w far number flow

abbrev pub AreLabelled : Topology → World → NodeId → FlowId → List LinkEnd → Type 0
AreLabelled topology w node flow [] = Unit {0}
AreLabelled topology w node flow (far ∷ ends) = IsLabelled topology w node far (one_hop flow) × AreLabelled topology w far.node (one_hop flow) ends

-- *A label is joined on*, to the label of the next link; at the last node it isn't joined, where the flow's route is local
pub record IsJoinedOn (topology : Topology) (w : World) (at : LinkEnd) (number : ℕ) (flow : FlowId) (far : LinkEnd) : Type 0 where
  pub port : PortNo
  pub linked : peer_of topology at.node port ≡ Some far
  pub next : ℕ
  pub label : HoldsLabel w at number flow (Some (label_end port next))
  pub grant : HoldsGrant w (record { node = at.node; port = port }) next (one_hop flow) (ByInput (label_end at.port number))

pub record IsLast (w : World) (at : LinkEnd) (number : ℕ) (flow : FlowId) : Type 0 where
  pub label : HoldsLabel w at number flow None
  pub route : best (table_in at.node w) (flow_destination flow) ≡ Some Local

abbrev pub AreJoinedOn : Topology → World → (at : LinkEnd) → (number : ℕ) → FlowId → List LinkEnd → Type 0
AreJoinedOn topology w at number flow [] = IsLast w at number flow
AreJoinedOn topology w at number flow (far ∷ ends) = (on : IsJoinedOn topology w at number flow far) × AreJoinedOn topology w far on.next (one_hop flow) ends

-- *A way stands*: the first node's route leads to the link, its controller sends under a grant for the flow there, of which the next end holds the
-- only label; and the labels are joined on, link by link
pub record WayStands (topology : Topology) (w : World) (node : NodeId) (flow : FlowId) (far : LinkEnd) (ends : List LinkEnd) : Type 0 where
  pub port : PortNo
  pub linked : peer_of topology node port ≡ Some far
  pub route : best (table_in node w) (flow_destination flow) ≡ Some (Via port)
  pub number : ℕ
  pub grant : HoldsGrant w (record { node = node; port = port }) number (one_hop flow) ByController
  pub alone : ServesAlone w far number (one_hop flow)
  pub joined : AreJoinedOn topology w far number (one_hop flow) ends
