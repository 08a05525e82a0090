-- each node of a network that opens: its queues are empty, no request stands, and its ports wait until they are cleared

use Rattle.std.proofs.Common.{◌≡◌, ℕ, zero, suc, ◌+◌, List, [], ◌∷◌, None, Some, refl, ◌∙◌, ap}
use Rattle.std.specs.Prelude.{replicate, slice_index_or}
use Rattle.std.specs.FinMap.{empty}
use Rattle.world_model.specs.Words.{NodeId, PortNo, GivenOut, Clearing, fresh, router, Cell, Crossbar, queue_of, Policy, Setup, Linked, port_key, linked_at, setup_of, opens_ports, Topology, Node, ranges_of, timers_of, World, Site, site_key, site_at, empty_world, opened_site, with_opened, opens_each}
use Rattle.law_label_events.specs.ordered_lists.Ordered.{Every}
use Rattle.law_label_events.proofs.law_port_facts.Keyed.{at_every, every_more}
use Rattle.world_model.specs.controller_model.declared.range.PortRange.{PortRange}
use Rattle.world_model.specs.World.{opened}

-- *A port* in its opening state
pub record IsNewPort (linked : Linked) : Type 0 where
  pub instance : ℕ
  pub side : linked.port.adjacency ≡ fresh Clearing (router linked.setup.address instance)
  pub session : linked.port.session ≡ None
  pub grants : linked.port.grants ≡ []
  pub chain : linked.reassembly.chain ≡ []

pub record IsNew (site : Site) : Type 0 where
  pub queue : site.controller.queue ≡ []
  pub queues : site.switch.crossbar.queues ≡ replicate 9 []
  pub branches : site.switch.crossbar.branches ≡ empty
  pub chain : site.switch.reassembly.chain ≡ []
  pub standing : site.controller.desk.standing ≡ []
  pub ports : Every IsNewPort site.controller.ports

new_ports : (setup : PortRange → Setup) (instances : ℕ) (ranges : List PortRange) → Every IsNewPort (opens_ports setup instances ranges)
new_ports setup instances [] = tt
new_ports setup instances (range ∷ ranges) = (record { instance = instances + 1; side = refl; session = refl; grants = refl; chain = refl }, new_ports setup (instances + 1) ranges)

new_site : (policy : Policy) (topology : Topology) (number : NodeId) (node : Node) (numbers : GivenOut) → IsNew (opened_site policy topology number node numbers)
new_site policy topology number node numbers = record {
  queue = refl;
  queues = refl;
  branches = refl;
  chain = refl;
  standing = refl;
  ports = new_ports (setup_of number node.address (timers_of topology) policy) (numbers.instances + 1) (ranges_of topology number node);
}

new_each : (policy : Policy) (topology : Topology) (w : World) (place : ℕ) (nodes : List Node) → Every IsNew w.sites → Every IsNew (opens_each policy topology w place nodes).sites
new_each policy topology w place [] all = all
new_each policy topology w place (node ∷ nodes) all = new_each policy topology (with_opened policy topology w place node) (suc place) nodes
    (every_more IsNew w.sites (opened_site policy topology (record { 0 = place }) node w.numbers) all (new_site policy topology (record { 0 = place }) node w.numbers))

no_frames : (policy : Policy) (topology : Topology) (w : World) (place : ℕ) (nodes : List Node) → (opens_each policy topology w place nodes).notes.frames ≡ w.notes.frames
no_frames policy topology w place [] = refl
no_frames policy topology w place (node ∷ nodes) = no_frames policy topology (with_opened policy topology w place node) (suc place) nodes

module _ (policy : Policy) (topology : Topology) where
  -- no frame was made
  pub none_made : (opened policy topology).notes.frames ≡ []
  none_made = no_frames policy topology empty_world 1 topology.nodes

  pub new_at : (node : NodeId) (site : Site) → site_at (opened policy topology) node ≡ Some site → IsNew site
  new_at node site found = at_every site_key IsNew node.0 (opened policy topology).sites site (new_each policy topology empty_world 1 topology.nodes tt) found

pub new_port : (site : Site) (port : PortNo) (linked : Linked) → IsNew site → linked_at site.controller port ≡ Some linked → IsNewPort linked
new_port site port linked new found = at_every port_key IsNewPort port.0 site.controller.ports linked new.ports found

-- its queues
none_in : (k p : ℕ) → slice_index_or {A = List Cell} (replicate k []) p [] ≡ []
none_in zero p = refl
none_in (suc k) zero = refl
none_in (suc k) (suc p) = none_in k p

pub no_cells : (x : Crossbar) (port : PortNo) → x.queues ≡ replicate 9 [] → queue_of x port ≡ []
no_cells x port e = ap (λ (q : List (List Cell)). slice_index_or q port.0 []) e ∙ none_in 9 port.0
