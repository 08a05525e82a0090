-- the two ends of a link of an unlabelled network agree at rest, and its ways are open

use Rattle.std.proofs.Common.{◌≡◌, ℕ, ◌≤◌, ◌<◌, true, false, List, [], map, Option, Some, is_some, refl, sym, ◌∙◌, ap, subst, inl, arith}
use Rattle.std.specs.Prelude.{◌==◌}
use Rattle.std.specs.Option.{option_map, option_and_then}
use Rattle.std.proofs.lemmas.Bool.Decides.{nat_tests}
use Rattle.world_model.specs.Words.{NodeId, PortNo, Addr, End, Policy, IsLinkPort, Peer, Side, Estab, is_estab, Timers, Setup, at, Label, label_number, labels_of, Grant, grant_label, default_end, default_home, Controller, Linked, linked_at, linked_end, port_key, setup_of, timers_of, ranges_of, World, Site, site_at, output_at, IsTopology, IsShaped, Way, IsWay, Past}
use Rattle.world_model.specs.port_model.Counts.{greatest_count}
use Rattle.world_model.specs.Topology.{peer_of}
use Rattle.world_model.specs.crossbar_model.Crossbar.{output_of}
use Rattle.world_model.specs.controller_model.declared.range.PortRange.{PortRange}
use Rattle.world_model.specs.network_model.declared.link.LinkEnd.{LinkEnd}
use Rattle.law_live_journeys.proofs.law_causes.Shown.{peer_back}
use Rattle.law_unused_labels.proofs.Links.{link_of, link_is}
use Rattle.law_live_journeys.specs.law_run_facts.ordered_lists.Ordered.{Every, InOrder}
use Rattle.law_live_journeys.specs.law_run_facts.law_controller_facts.Sound.{IsLinkedPort}
use Rattle.law_live_journeys.specs.law_run_facts.law_label_line.Cells.{Downstream}
use Rattle.law_live_journeys.specs.law_run_facts.law_world_views.Between.{IsWorld, HasLabelLine, setups_of}
use Rattle.law_live_journeys.specs.law_run_facts.Nodes.{IsNodeOfRun}
use Rattle.law_live_journeys.proofs.law_run_facts.ordered_lists.Every.{every_all, every_mapped, every_unmapped}
use Rattle.law_live_journeys.proofs.law_run_facts.law_port_facts.Keyed.{at_every, at_key}
use Rattle.law_live_journeys.specs.law_live_links.Law.{number_of, expected_of, IsHeld, Agree, IsEnd}
use Rattle.law_live_journeys.specs.law_live_worlds.Law.{Shows, end_of}
use Rattle.law_live_journeys.specs.law_live_orders.Law.{LeadsAlone}
use Rattle.law_live_journeys.specs.law_live_orders.Shapes.{LeadAlone}
use Rattle.law_live_journeys.proofs.law_live_orders.Shapes.{shapes_lead_alone}
use Rattle.law_live_journeys.specs.law_live_calm_nodes.Networks.{IsLinkInPeace}
use Rattle.calm_model.specs.Unlabelled.{IsUnlabelledPort, AreUnlabelledEnds, IsUnlabelled}

-- *In each world of a run* the port at an end of a link shows, with the address of its node
record ShowsOne (w : World) (one : LinkEnd) : Type 0 where
  linked : Linked
  shows : Shows w one linked

abbrev way_of : (one far : LinkEnd) → Way
way_of one far = record { down = one; up = far }

ends_show : (past : Past) → IsTopology past.topology → IsWorld past → (one far : LinkEnd) → peer_of past.topology one.node one.port ≡ Some far → ShowsOne past.now one
ends_show past is world one far linked =
    let end = line.shows.net.end Downstream in
    record {
      linked = end.linked;
      shows = record { site = line.shows.end Downstream; there = line.shows.found Downstream; of_port = end.found; address = ap (λ (side : Side Peer). side.own.address) end.shown.side ∙ sym end.address };
    }
  where
    on : IsWay past.topology (way_of one far)
    on = record { downstream = (peer_back past.topology is one far linked).back; upstream = linked }

    -- any label of the link will do
    line : HasLabelLine past (link_of past.topology (way_of one far) 32)
    line = world.labels (link_of past.topology (way_of one far) 32) (link_is past.topology is (way_of one far) on 32 refl)

end_there : (w : World) (one : LinkEnd) (linked : Linked) → Shows w one linked → linked_end w one ≡ Some linked
end_there w one linked shows = ap (λ (o : Option Site). option_and_then (λ (c : Controller). linked_at c one.port) (option_map (λ (s : Site). s.controller) o)) shows.there ∙ shows.of_port

-- *What stays the same* of each port: its timers are those of the topology
timers_are : (node : NodeId) (address : Addr) (timers : Timers) (policy : Policy) (ranges : List PortRange) (ports : List Linked)
    → map (λ (l : Linked). l.setup) ports ≡ map (setup_of node address timers policy) ranges → Every (λ (l : Linked). l.setup.timers ≡ timers) ports
timers_are node address timers policy ranges ports same = every_unmapped (λ (l : Linked). l.setup) (λ (setup : Setup). setup.timers ≡ timers) ports
    (subst (Every (λ (setup : Setup). setup.timers ≡ timers)) (sym same)
    (every_mapped (setup_of node address timers policy) (λ (setup : Setup). setup.timers ≡ timers) ranges (every_all (λ (r : PortRange). timers ≡ timers) ranges (λ r. refl))))

not_zero : (n : ℕ) → 1 ≤ n → (n == 0) ≡ false
not_zero n some = grind (arith, nat_tests)

-- *Two ends agree* on no labels where the one expects what the other says next, and has heard it
agree : (giver taker : Linked) → labels_of giver.port ≡ [] → taker.port.grants ≡ [] → expected_of taker.port ≡ number_of giver.port → taker.port.adjacency.silence ≡ 0
    → Agree (end_of giver []) (end_of taker [])
agree giver taker no_label no_grant numbers heard = record {
  numbers = numbers;
  labels = subst (Every (IsHeld giver.setup.timers taker.setup taker.port.grants [])) (sym no_label) tt;
  grants = subst (Every (λ (grant : Grant). is_some (at label_number grant.label (labels_of giver.port)) ≡ true)) (sym no_grant) tt;
  heard = inl heard;
}

-- *An unlabelled network* of a run
module _ (policy : Policy) (past : Past) (topology_is : IsTopology past.topology) (nodes : (node : NodeId) (site : Site) → site_at past.now node ≡ Some site → IsNodeOfRun policy past node site)
    (world : IsWorld past) (fresh : IsUnlabelled past.topology past.now) where
  -- a port at an end of a link
  module _ (end : LinkEnd) (x : ShowsOne past.now end) where
    abbrev site : Site
    site = x.shows.site

    is : IsNodeOfRun policy past end.node site
    is = nodes end.node site x.shows.there

    fresh_port : IsUnlabelledPort site.switch x.linked
    fresh_port = at_every port_key (IsUnlabelledPort site.switch) end.port.0 site.controller.ports x.linked (fresh.nodes end.node site x.shows.there).ports x.shows.of_port

    link_port : IsLinkPort x.linked.setup.port
    link_port = at_every port_key (λ (l : Linked). IsLinkPort l.setup.port) end.port.0 site.controller.ports x.linked
        (every_unmapped (λ (l : Linked). l.setup) (λ (setup : Setup). IsLinkPort setup.port) site.controller.ports is.ports.links) x.shows.of_port

    timers : x.linked.setup.timers ≡ timers_of past.topology
    timers = at_every port_key (λ (l : Linked). l.setup.timers ≡ timers_of past.topology) end.port.0 site.controller.ports x.linked
        (timers_are end.node is.is_node.there.address (timers_of past.topology) policy (ranges_of past.topology end.node is.is_node.there) site.controller.ports is.is_node.setups) x.shows.of_port

    is_end : x.linked.port.adjacency.state ≡ Estab → IsEnd (end_of x.linked [])
    is_end up = record {
      of_link = not_zero x.linked.setup.port.0 link_port.0;
      in_session = (at_every port_key (IsLinkedPort (setups_of site.controller)) end.port.0 site.controller.ports x.linked is.conduct.sound.ports.each x.shows.of_port).session ∙ ap is_estab up;
      labels_apart = subst (InOrder (λ (a b : Label). label_number a < label_number b)) (sym fresh_port.no_label) tt;
      grants_apart = subst (InOrder (λ (a b : Grant). grant_label a ≡ grant_label b → ⊥)) (sym fresh_port.no_grant) tt;
      refreshes = subst (λ (t : Timers). 1 ≤ t.refresh) (sym timers) topology_is.times.1.0;
      in_time = subst (λ (t : Timers). t.refresh < t.lifetime) (sym timers) fresh.in_time;
      counted = subst (λ (t : Timers). t.refresh ≤ greatest_count) (sym timers) (omega (arith, topology_is.times.1.1));
    }

    -- its default channels lead there, and nothing else does
    same_port : x.linked.setup.port ≡ end.port
    same_port = λ i. record { 0 = at_key port_key end.port.0 site.controller.ports x.linked x.shows.of_port i }

    leads : (input output : PortNo → End) → output_of site.switch.crossbar.branches (input x.linked.setup.port) ≡ Some (output x.linked.setup.port)
        → output_at past.now end.node (input end.port) ≡ Some (output end.port)
    leads input output e = ap (λ (o : Option Site). option_and_then (λ (s : Site). output_of s.switch.crossbar.branches (input end.port)) o) x.shows.there
        ∙ subst (λ (p : PortNo). output_of site.switch.crossbar.branches (input p) ≡ Some (output p)) same_port e

    alone : LeadAlone past.now end.node end.port
    alone = shapes_lead_alone past.now end.node site end.port x.shows.there is.ports.links (subst IsLinkPort same_port link_port) (world.shapes end.node site x.shows.there)

    leads_out : LeadsAlone past.now end.node (default_home end.port) (default_end end.port)
    leads_out = alone.out (leads default_home default_end fresh_port.out)

    leads_home : LeadsAlone past.now end.node (default_end end.port) (default_home end.port)
    leads_home = alone.home (leads default_end default_home fresh_port.home)

  -- *Each link is in peace*: its two ends agree at rest, and its way is open
  module _ (shaped : IsShaped past.now) (one far : LinkEnd) (linked : peer_of past.topology one.node one.port ≡ Some far) where
    near : ShowsOne past.now one
    near = ends_show past topology_is world one far linked

    there : ShowsOne past.now far
    there = ends_show past topology_is world far one (peer_back past.topology topology_is one far linked).back

    ends : AreUnlabelledEnds near.linked there.linked
    ends = fresh.links one far near.linked there.linked linked (end_there past.now one near.linked near.shows) (end_there past.now far there.linked there.shows)

    pub in_peace : IsLinkInPeace past.topology past.now one far
    in_peace = record {
      agree = record {
        linked = near.linked;
        far_linked = there.linked;
        shows = near.shows;
        far_shows = there.shows;
        agreed = record {
          met = ends.met;
          one_end = is_end one near ends.met.one_is_up;
          other_end = is_end far there ends.met.other_is_up;
          there = agree near.linked there.linked (fresh_port one near).no_label (fresh_port far there).no_grant ends.there ends.far_heard;
          back = agree there.linked near.linked (fresh_port far there).no_label (fresh_port one near).no_grant ends.back ends.heard;
        };
      };
      is_open = record { linked = linked; shaped = shaped; out = leads_out one near; home = leads_home far there };
    }
