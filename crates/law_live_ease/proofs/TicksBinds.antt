-- so the network binds behind the ticks: desks and ports are tied, since joins alone stand, each label is offered, and each grant is used

use Rattle.std.proofs.Common.{◌≡◌, List, [], ◌++◌, append-nil, Option, Some, refl, sym, ◌∙◌, ap, subst}
use Rattle.std.specs.Option.{option_map_or}
use Rattle.world_model.specs.Words.{NodeId, Policy, at, Standing, Label, Offered, Wiring, labels_of, Grant, Idle, Controller, Linked, linked_at, port_key, Topology, World, Site, site_at, tick_of_all, world_after, past_of}
use Rattle.world_model.specs.ifmp_wire.declared.message.Message.{Message}
use Rattle.world_model.specs.Topology.{peer_of}
use Rattle.world_model.specs.network_model.declared.link.LinkEnd.{LinkEnd}
use Rattle.world_model.specs.network_model.declared.event.Event.{Event}
use Rattle.live_model.specs.Beats.{Beat}
use Rattle.law_live_journeys.specs.law_run_facts.ordered_lists.Ordered.{Every}
use Rattle.law_live_journeys.proofs.law_run_facts.ordered_lists.Every.{every_map}
use Rattle.law_live_journeys.specs.law_run_facts.Nodes.{IsNodeOfRun}
use Rattle.law_live_journeys.specs.law_run_facts.law_world_views.Between.{setups_of}
use Rattle.law_live_journeys.proofs.law_run_facts.Nodes.{runs_have_nodes}
use Rattle.law_live_journeys.specs.law_true_runs.Runs.{HoldsInRuns, IsWhole}
use Rattle.law_live_journeys.specs.law_live_links.Law.{IsHeld}
use Rattle.law_live_journeys.specs.law_live_worlds.Law.{AgreeIn}
use Rattle.law_live_journeys.specs.law_live_hearing.Law.{world_at}
use Rattle.law_live_journeys.specs.law_live_answers.Law.{IsJoin}
use Rattle.law_live_journeys.specs.law_live_bindings.Law.{label_branch, grant_branch}
use Rattle.law_live_journeys.proofs.law_live_calm_nodes.Ports.{ports_found}
use Rattle.law_live_journeys.proofs.law_live_calm_nodes.Control.{HasPeer, has_peer}
use Rattle.law_live_ease.specs.Law.{IsTied, joins, IsAsked, AreTied, IsSteadyNode, IsAtEase, Binds}
use Rattle.law_live_ease.specs.Beats.{IsCalmBeat}
use Rattle.law_live_ease.specs.Ticks.{TicksBind}
use Rattle.law_live_ease.proofs.TicksJoins.{IsUsed}
use Rattle.law_live_ease.proofs.Ticks.{is_now, ticks_none}
use Rattle.law_live_ease.proofs.TicksSteady.{AsksForJoins, all_ask}
use Rattle.law_live_ease.proofs.TicksNodes.{mirrored, desks}
use Rattle.law_live_ease.proofs.TicksLinks.{ticked_run, agreed, link_binds}

one_site : (a b : Site) → Some a ≡ Some b → a ≡ b
one_site a b e = cc

one_linked : (a b : Linked) → Some a ≡ Some b → a ≡ b
one_linked a b e = cc

-- *Where joins alone stand*, each port's labels are offered and its grants used, desk and ports are tied
abbrev AreOffered : Linked → Type 0
AreOffered linked = Every (λ (label : Label). label.state ≡ Offered) (labels_of linked.port)

tied : (c : Controller) → Every (λ (s : Standing). IsJoin s.request) c.desk.standing → Every AreOffered c.ports → Every (λ (linked : Linked). Every IsUsed linked.port.grants) c.ports → AreTied c
tied c alone offered used = record {
  standing = every_map (λ (s : Standing). IsJoin s.request) (λ (s : Standing). IsTied c s.request) c.desk.standing
      (λ s j. subst (IsTied c) (sym j.is) (joins j.input j.from j.to j.to_link)) alone;
  wiring = every_map AreOffered (λ (linked : Linked). Every (λ (label : Label). label.state ≡ Wiring → IsAsked c.desk (label_branch linked.setup label.number)) (labels_of linked.port)) c.ports
      (λ linked h. every_map (λ (label : Label). label.state ≡ Offered) (λ (label : Label). label.state ≡ Wiring → IsAsked c.desk (label_branch linked.setup label.number)) (labels_of linked.port)
      (λ label is wiring. absurd (cc (sym is ∙ wiring))) h) offered;
  idle = every_map (λ (linked : Linked). Every IsUsed linked.port.grants) (λ (linked : Linked). Every (λ (grant : Grant). grant.state ≡ Idle → IsAsked c.desk (grant_branch linked.setup grant.label)) linked.port.grants) c.ports
      (λ linked h. every_map IsUsed (λ (grant : Grant). grant.state ≡ Idle → IsAsked c.desk (grant_branch linked.setup grant.label)) linked.port.grants
      (λ grant is idle. absurd (is idle)) h) used;
}

module _ (whole : HoldsInRuns IsWhole) (policy : Policy) (topology : Topology) (before : List Event) (beat : Beat)
    (ease : IsAtEase topology (world_at policy topology before)) (b : IsCalmBeat policy topology before beat) where
  abbrev w : World
  w = world_at policy topology before

  abbrev u : World
  u = world_after topology w (tick_of_all w)

  ends_here : tick_of_all w ≡ tick_of_all w ++ []
  ends_here = sym (append-nil (tick_of_all w))

  -- *Each node* goes steadily
  module _ (node : NodeId) (site : Site) (found : site_at u node ≡ Some site) where
    n : IsNodeOfRun policy (past_of policy topology (before ++ tick_of_all w)) node site
    n = runs_have_nodes policy topology (before ++ tick_of_all w) b.addresses (ticked_run whole policy topology before beat ease.peace b) node site
        (ap (λ (v : World). site_at v node) (is_now whole policy topology before beat ease.peace b (tick_of_all w)) ∙ found)

    asks : AsksForJoins site
    asks = all_ask whole policy topology before beat ease.peace b ease (tick_of_all w) [] ends_here node site found

    -- each of its ports is an end of a link, whose labels are offered
    offered : (linked : Linked) → linked_at site.controller linked.setup.port ≡ Some linked → AreOffered linked
    offered linked there =
        let one : LinkEnd = record { node = node; port = linked.setup.port } in
        let peer : HasPeer (peer_of topology node linked.setup.port) = has_peer (peer_of topology node linked.setup.port) (n.ports.linked linked.setup.port linked there) in
        of_link one peer.far _ _ (agreed whole policy topology before beat ease.peace b one peer.far peer.is) refl
      where
        of_link : (one far : LinkEnd) (said far_said : List Message) (a : AgreeIn (world_after topology (world_at policy topology before) (tick_of_all (world_at policy topology before))) one far said far_said)
            → one ≡ record { node = node; port = linked.setup.port } → AreOffered linked
        of_link one far said far_said a e = subst AreOffered it (every_map (IsHeld a.linked.setup.timers a.far_linked.setup a.far_linked.port.grants said) (λ (label : Label). label.state ≡ Offered) (labels_of a.linked.port) (λ label held. held.offered) a.agreed.there.labels)
          where
            same : a.shows.site ≡ site
            same = one_site a.shows.site site (sym a.shows.there ∙ (ap (λ (x : LinkEnd). site_at u x.node) e ∙ found))

            it : a.linked ≡ linked
            it = one_linked a.linked linked (sym a.shows.of_port ∙ (λ i. at port_key (e i).port.0 (same i).controller.ports) ∙ there)

    used : (linked : Linked) → linked_at site.controller linked.setup.port ≡ Some linked → Every IsUsed linked.port.grants
    used linked there = subst (λ (o : Option Linked). Every IsUsed (option_map_or (λ (l : Linked). l.port.grants) o [])) there (asks.used linked.setup.port)

    steady : IsSteadyNode site
    steady = record {
      known = asks.known;
      none_waits = asks.none_waits;
      ties = tied site.controller asks.joins
          (every_map (λ (x : Linked). at port_key (port_key x) site.controller.ports ≡ Some x) AreOffered site.controller.ports offered found_ports)
          (every_map (λ (x : Linked). at port_key (port_key x) site.controller.ports ≡ Some x) (λ (x : Linked). Every IsUsed x.port.grants) site.controller.ports used found_ports);
    }
      where
        found_ports : Every (λ (x : Linked). at port_key (port_key x) site.controller.ports ≡ Some x) site.controller.ports
        found_ports = ports_found (setups_of site.controller) site.controller n.conduct.sound.ports

  binds : Binds topology u
  binds = record {
    nodes = λ node inside. (mirrored whole policy topology before beat ease b node inside (tick_of_all w) [] ends_here).stays;
    desks = λ node inside. desks whole policy topology before beat ease b node inside (tick_of_all w) [] ends_here;
    steady = steady;
    links = λ one far linked. link_binds whole policy topology before beat ease.peace b one far linked;
    none = ticks_none whole policy topology before beat ease.peace b (tick_of_all w) [] ends_here;
  }

pub ticks_bind : HoldsInRuns IsWhole → TicksBind
ticks_bind whole policy topology before beat ease b = binds whole policy topology before beat ease b
