-- the line of each label of each link, from what is so of every run

use Rattle.std.proofs.Common.{◌≡◌, ℕ, ◌≤◌, List, [], ◌∷◌, map, Option, Some, refl, sym, ◌∙◌, ap, subst, arith}
use Rattle.std.specs.Prelude.{is_some}
use Rattle.world_model.specs.Words.{NodeId, Addr, Policy, Setup, Linked, port_key, setup_of, Topology, Node, ranges_of, timers_of, IsTopology, IsNode, past_of}
use Rattle.law_label_events.specs.ordered_lists.Ordered.{Every}
use Rattle.law_label_events.proofs.ordered_lists.Every.{every_unmapped}
use Rattle.law_label_events.proofs.law_port_facts.Keyed.{at_every}
use Rattle.world_model.specs.controller_model.declared.range.PortRange.{PortRange}
use Rattle.law_label_events.specs.law_label_line.Cells.{Role, Downstream, Upstream}
use Rattle.world_model.specs.network_model.declared.link.LinkEnd.{LinkEnd}
use Rattle.world_model.specs.World.{opened}
use Rattle.law_label_events.specs.law_port_views.Link.{LinkLabel}
use Rattle.law_label_events.specs.law_world_views.Between.{HasAddress, IsLinkLabel, HasAllLabels}
use Rattle.law_label_events.specs.law_world_views.Kept.{Keeps, Begins}
use Rattle.law_label_events.specs.law_world_views.Fronts.{HasAddresses}
use Rattle.law_run_facts.specs.Drawn.{ByPort, own_at}
use Rattle.law_run_facts.proofs.Runs.{runs_draw_once}
use Rattle.law_run_facts.specs.Nodes.{IsNodeOfRun, HasSite, HasPort}
use Rattle.law_run_facts.proofs.Steps.{front_run, run_of_none, runs_have_fronts}
use Rattle.law_run_facts.proofs.Rooms.{runs_keep_nodes}
use Rattle.law_run_facts.proofs.Nodes.{runs_have_nodes}
use Rattle.law_label_worlds.specs.Conduct.{CellsArrive, TicksLead, PairsAreOld}
use Rattle.law_label_worlds.proofs.Ends.{leads, peer}
use Rattle.law_label_worlds.proofs.Opening.{HasEnd, line_opens}
use Rattle.law_label_worlds.proofs.Kept.{SitesArePlain, EventsAreTame, labels_kept}

-- *Before each event*
plain : SitesArePlain
plain policy topology before event comes node site found =
    let n : IsNodeOfRun policy (past_of policy topology before) node site = runs_have_nodes policy topology before comes.addresses (front_run policy topology before (event ∷ []) comes.run) node site found in
    record { nine = n.is_node.queues; links = n.ports.links }

tame : EventsAreTame
tame policy topology before event comes = (runs_have_fronts policy topology before event comes).new_tame

pub labels_are_kept : PairsAreOld → CellsArrive → TicksLead → Keeps HasAllLabels
labels_are_kept old arrive ticks = labels_kept plain tame old arrive ticks

-- *At the opening* the address of a port's setup is its node's
setup_address : (node : NodeId) (address : Addr) (timers : _) (policy : Policy) (ranges : List PortRange) → Every (λ (s : Setup). s.address ≡ address) (map (setup_of node address timers policy) ranges)
setup_address node address timers policy [] = tt
setup_address node address timers policy (range ∷ ranges) = (refl, setup_address node address timers policy ranges)

module _ (policy : Policy) (topology : Topology) (is : IsTopology topology) (all : HasAddresses topology) where
  module _ (link : LinkLabel) (of : IsLinkLabel topology link) where
    node_is : (role : Role) → IsNode topology (link.node role)
    node_is Downstream = (peer topology is link of Upstream).node
    node_is Upstream = (peer topology is link of Downstream).node

    end_opens : (role : Role) → HasEnd (opened policy topology) (link.node role) (link.port role) (link.address role)
    end_opens role =
        let there : HasSite (opened policy topology) (link.node role) = runs_keep_nodes policy topology [] (run_of_none policy topology is) (link.node role) (node_is role) in
        let n : IsNodeOfRun policy (past_of policy topology []) (link.node role) there.site = runs_have_nodes policy topology [] all (run_of_none policy topology is) (link.node role) there.site there.is in
        let p : HasPort there.site.controller (link.port role) = n.ports.found (link.port role) (ap is_some (leads topology is link of role)) in
        let own : n.is_node.there.address ≡ link.address role = subst (λ (o : Option Node). HasAddress o (link.address role)) n.is_node.is (of.address role) in
        record {
          site = there.site;
          found = there.is;
          linked = p.linked;
          linked_is = p.is;
          address = n.is_node.address ∙ own;
          port_address = at_every port_key (λ (linked : Linked). linked.setup.address ≡ n.is_node.there.address) (link.port role).0 there.site.controller.ports p.linked
              (every_unmapped (λ (linked : Linked). linked.setup) (λ (s : Setup). s.address ≡ n.is_node.there.address) there.site.controller.ports
              (subst (Every (λ (s : Setup). s.address ≡ n.is_node.there.address)) (sym n.is_node.setups)
              (setup_address (link.node role) n.is_node.there.address (timers_of topology) policy (ranges_of topology (link.node role) n.is_node.there)))) p.is ∙ own;
        }

  drawn : (end : LinkEnd) (instance : ℕ) → own_at (opened policy topology) (ByPort end) ≡ Some instance → instance ≤ (opened policy topology).numbers.instances
  drawn end instance e = (runs_draw_once policy topology []).given (opened policy topology) (ByPort end) instance (0, omega arith, refl) e

pub labels_begin : Begins HasAllLabels
labels_begin policy topology is all link of = line_opens policy topology (drawn policy topology is all) link (end_opens policy topology is all link of)
