-- what is so of each node of a run

use Rattle.std.proofs.Common.{◌≡◌, ℕ, zero, suc, ◌<◌, ◌≤◌, ◌+◌, ◌-◌, ◌^◌, ◌==◌, Bool, true, false, List, [], ◌∷◌, ◌++◌, length, slice_get, slice_index_or, cond, Option, None, Some, refl, sym, ◌∙◌, ap, subst, arith}
use Rattle.std.specs.Prelude.{All, find, reverse}
use Rattle.std.specs.List.{list_any}
use Rattle.std.specs.Option.{option_map_or}
use Rattle.std.proofs.lemmas.List.{length-map, reverse-append}
use Rattle.law_world_pace.specs.world_model.Words.{NodeId, PortNo, is_label_number, number_of_channel, RouteChange, Next, Record, control_port, IsLinkPort, ArePorts, Policy, Setup, labels_of, Controller, Linked, linked_at, joins_of, setup_of, Topology, Node, default_range, range_among, ranges_of, timers_of, is_linked, World, Site, site_key, site_at, IsEvent, IsNode, IsNodeOf as IsTopologyNode, IsRange, IsLinkedNext, IsLinkedChange, world_after, Past, past_of, last_bound, IsRun}
use Rattle.law_world_pace.specs.world_model.ipv4_forward.declared.table.Route.{Route}
use Rattle.law_controller_bindings.specs.ordered_lists.Ordered.{Every}
use Rattle.law_controller_bindings.proofs.ordered_lists.Every.{every_join, every_map, every_mapped}
use Rattle.law_controller_bindings.proofs.law_port_facts.Keyed.{at_every}
use Rattle.law_controller_bindings.specs.law_port_facts.Port.{IsRanged}
use Rattle.law_world_views.specs.law_port_widths.Widths.{FitsSetup}
use Rattle.law_world_pace.specs.world_model.controller_model.declared.range.PortRange.{PortRange}
use Rattle.law_world_pace.specs.world_model.Controller.{Acted}
use Rattle.law_controller_bindings.specs.law_controller_facts.Inputs.{takes_inputs}
use Rattle.law_controller_bindings.specs.law_controller_facts.Sound.{IsSound, Opening, opened_by, setups_by}
use Rattle.law_controller_bindings.specs.law_controller_facts.Said.{HasFlowingPorts}
use Rattle.law_controller_bindings.specs.law_controller_facts.Conditions.{HasGrantedJoins, HasMovingRequests}
use Rattle.law_controller_bindings.proofs.law_controller_facts.Laws.{always_sound}
use Rattle.law_controller_bindings.proofs.law_controller_facts.Conditions.{always_moves, always_granted}
use Rattle.law_controller_bindings.proofs.law_controller_facts.Flows.{always_flowing}
use Rattle.law_controller_bindings.specs.law_controller.Law.{IsOpening}
use Rattle.law_controller_bindings.specs.law_controller.Order.{IsOrderly}
use Rattle.law_controller_bindings.specs.law_controller.Match.{IsMatched}
use Rattle.law_controller_bindings.proofs.law_controller.Laws.{always_holds, always_matched}
use Rattle.law_controller_bindings.specs.Bindings as bindings
use Rattle.law_controller_bindings.specs.Bindings.{IsBoundLast, HasBoundLabels, IsLed, HasLedJoins, GathersForBound, noted_by_all}
use Rattle.law_controller_bindings.proofs.Laws.{always_bound, always_led, always_gathers}
use Rattle.law_world_pace.specs.world_model.network_model.declared.event.Event.{Event}
use Rattle.law_world_pace.specs.world_model.network_model.declared.event.Event.TheVariants.{Route as RouteEvent}
use Rattle.law_world_pace.specs.world_model.Topology as topologies
use Rattle.law_world_pace.specs.world_model.World.{opened}
use Rattle.law_world_pace.proofs.world_model.Opening.{ports_are}
use Rattle.law_world_pace.specs.Running.{IsRunningSite}
use Rattle.law_world_pace.proofs.Running.{site_runs}
use Rattle.law_world_pace.proofs.Ports.{is_port_of}
use Rattle.law_world_views.specs.Shown.{acting}
use Rattle.law_world_views.specs.Between.{setups_of}
use Rattle.law_world_views.specs.Fronts.{HasAddresses}
use Rattle.law_run_facts.proofs.Controllers.{May}
use Rattle.law_lifetimes.proofs.Opened.{opening_of, is_opening, opening_fed}
use Rattle.law_run_facts.proofs.Marked.{SiteMarked, WorldMarked}
use Rattle.law_run_facts.proofs.Opening.{opened_marked}
use Rattle.law_run_facts.proofs.Runs.{run_marked}
use Rattle.law_run_facts.specs.Nodes.{IsNodeOf, HasPort, HasLinkPorts, IsConducted, RunsHaveNodes}
use Rattle.law_run_facts.proofs.Rooms.{IsGoing, run_goes, found_within}
use Rattle.law_run_facts.proofs.Opened.{always_named}
use Rattle.law_run_facts.proofs.Ports.{found_linked, linked_found}
use Rattle.law_run_facts.proofs.Bound.{FedBy, run_fed_by}

-- *Lists*
every_of : {A : Type 0} (P : A → Type 0) (xs : List A) → ((k : ℕ) (d : A) → k < length xs → P (slice_index_or xs k d)) → Every P xs
every_of P [] all = tt
every_of P (x ∷ xs) all = (all zero x (omega arith), every_of P xs (λ k d low. all (suc k) d (omega (arith, low))))

got_is : {A : Type 0} (xs : List A) (k : ℕ) (x : A) → slice_get xs k ≡ Some x → (k < length xs) × (slice_index_or xs k x ≡ x)
got_is [] k x e = absurd (cc e)
got_is (y ∷ xs) zero x e = (let same : y ≡ x = cc e in (omega arith, same))
got_is (y ∷ xs) (suc k) x e = (let r = got_is xs k x e in (omega (arith, r.0), r.1))

-- *Routes lead to linked ports*
may_of : (t : Topology) (node : NodeId) (o : Option Next) → IsLinkedChange t node o → May (IsLinkedNext t node) o
may_of t node None h = tt
may_of t node (Some next) h = h

of_may : (t : Topology) (node : NodeId) (o : Option Next) → May (IsLinkedNext t node) o → IsLinkedChange t node o
of_may t node None h = tt
of_may t node (Some next) h = h

linked_marked : (policy : Policy) (t : Topology) (events : List Event) → IsRun policy t events → WorldMarked (IsLinkedNext t) (world_after t (opened policy t) events)
linked_marked policy t events r = run_marked (IsLinkedNext t) t events (opened policy t)
    (λ before after event is node change e. may_of t node change.next (came before after event is node change e))
    (opened_marked (IsLinkedNext t) policy t (λ k node e. every_of (λ (route : Route). IsLinkedNext t (record { 0 = 1 + k }) route.next) node.routes
    (λ j d low. subst (λ n. IsLinkedNext t (record { 0 = n }) (slice_index_or node.routes j d).next) (omega arith) ((r.topology_is.nodes k node e).linked j d low))))
    (opening_fed policy t)
  where
    came : (before after : List Event) (event : Event) → events ≡ before ++ event ∷ after → (node : NodeId) (change : RouteChange) → event ≡ RouteEvent node change → IsLinkedChange t node change.next
    came before after event is node change e =
        (subst (λ (x : Event). IsEvent t (world_after t (opened policy t) before) x) e (r.each before after event is).meant).linked

-- *The ranges of a node*
ranges_each : (P : PortRange → Type 0) (ranges : List PortRange) → Every P ranges → ((port : PortNo) → IsLinkPort port → P (default_range port)) → (port : PortNo) → IsLinkPort port
    → P (option_map_or (λ (range : PortRange). range) (find (λ (range : PortRange). range.port.0 == port.0) ranges) (default_range port))
ranges_each P [] all own port is = own port is
ranges_each P (range ∷ ranges) all own port is = by (range.port.0 == port.0) (ranges_each P ranges all.1 own port is)
  where
    by : (b : Bool) → P (option_map_or (λ (range : PortRange). range) (find (λ (range : PortRange). range.port.0 == port.0) ranges) (default_range port))
        → P (option_map_or (λ (range : PortRange). range) (cond b (Some range) (find (λ (range : PortRange). range.port.0 == port.0) ranges)) (default_range port))
    by true rest = all.0
    by false rest = rest

every_reverse : {A : Type 0} (P : A → Type 0) (xs : List A) → Every P xs → Every P (reverse xs)
every_reverse P [] h = tt
every_reverse P (x ∷ xs) h = subst (Every P) (sym (reverse-append (x ∷ []) xs)) (every_join P (reverse xs) (x ∷ []) (every_reverse P xs h.1) (h.0, tt))

-- least and greatest labels
pub record IsLabels (range : PortRange) : Type 0 where
  pub least : is_label_number range.lo ≡ true
  pub greatest : is_label_number range.hi ≡ true
  pub ascends : range.lo ≤ range.hi

all_ranges : (t : Topology) (number : NodeId) (node : Node) → All IsRange node.ranges → Every IsLabels (ranges_of t number node)
all_ranges t number node is = every_mapped (range_among node.ranges) IsLabels (topologies.linked_ports t number)
    (every_map IsLinkPort (λ (port : PortNo). IsLabels (range_among node.ranges port)) (topologies.linked_ports t number)
    (λ port link. ranges_each IsLabels (reverse node.ranges) given (λ p l. record { least = refl; greatest = refl; ascends = omega arith }) port link)
    (every_of IsLinkPort (topologies.linked_ports t number) (ports_are t number).of_links))
  where
    given : Every IsLabels (reverse node.ranges)
    given = every_reverse IsLabels node.ranges (every_of IsLabels node.ranges (λ k d low. (let r = is k d low in record { least = r.least; greatest = r.greatest; ascends = r.ascends })))

-- *A site of a run*
module _ (policy : Policy) (topology : Topology) (events : List Event) (addresses : HasAddresses topology) (r : IsRun policy topology events)
    (node : NodeId) (site : Site) (found : site_at (world_after topology (opened policy topology) events) node ≡ Some site) where
  abbrev past : Past
  past = past_of policy topology events

  abbrev w : World
  w = world_after topology (opened policy topology) events

  goes : IsGoing topology (world_after topology (opened policy topology) events)
  goes = run_goes policy topology r.topology_is events

  runs : IsRunningSite topology (world_after topology (opened policy topology) events).events node.0 site
  runs = site_runs topology (world_after topology (opened policy topology) events).events 1 node.0 (world_after topology (opened policy topology) events).sites site goes.sites found

  f : FedBy policy topology (past_of policy topology events).records node site
  f = run_fed_by policy topology events r.topology_is node site found

  o : Opening
  o = opening_of policy topology node f.there f.numbers f.notes

  opening : IsOpening (opening_of policy topology node f.there f.numbers f.notes)
  opening = is_opening policy topology node f.there f.numbers f.notes

  within : IsNode topology node
  within = (let h = found_within topology w.events 1 node.0 w.sites site goes.sites found in (h.0, omega (arith, h.1, goes.size)))

  number_is : (m n : ℕ) → m ≡ n → suc (n - 1) ≡ n → suc (m - 1) ≡ n
  number_is m n e k = omega (arith, e, k)

  -- the node of the topology
  got : slice_get topology.nodes (node.0 - 1) ≡ Some f.there
  got = subst (λ k. topologies.node_in topology.nodes k ≡ Some f.there) back f.is_there
    where
      back : node.0 ≡ suc (node.0 - 1)
      back = omega (arith, within.0)

  a_node : IsTopologyNode topology (record { 0 = (node.0 - 1) + 1 }) f.there
  a_node = r.topology_is.nodes (node.0 - 1) f.there got

  address_low : f.there.address.0 < 2 ^ 32
  address_low = (let g = got_is topology.nodes (node.0 - 1) f.there got in subst (λ (n : Node). n.address.0 < 2 ^ 32) g.1 (addresses (node.0 - 1) f.there g.0))

  -- what was always so of its controller is so now
  now_at : (P : Controller → Type 0) → P (takes_inputs (opened_by (opening_of policy topology node f.there f.numbers f.notes)) f.inputs).controller → P site.controller
  now_at P h = subst P f.now h

  sound_then : IsSound (setups_by (opening_of policy topology node f.there f.numbers f.notes)) site.controller
  sound_then = now_at (IsSound (setups_by (opening_of policy topology node f.there f.numbers f.notes))) (always_sound (opening_of policy topology node f.there f.numbers f.notes) f.inputs opening.differ)

  setups_are : setups_of site.controller ≡ setups_by (opening_of policy topology node f.there f.numbers f.notes)
  setups_are = sound_then.ports.same

  with_setups : (P : List Setup → Type 0) → P (setups_by (opening_of policy topology node f.there f.numbers f.notes)) → P (setups_of site.controller)
  with_setups P h = subst P (sym setups_are) h

  is_node : IsNodeOf policy topology node site
  is_node = record {
    number = within;
    few = omega (arith, within.1, r.topology_is.few_nodes);
    own = λ i. record { 0 = runs.node i };
    there = f.there;
    is = f.is_there;
    address = now_at (λ c. c.address ≡ f.there.address) (always_named (opening_of policy topology node f.there f.numbers f.notes) f.inputs opening).is_address;
    setups = setups_are;
    ports = runs.ports;
    switch_ports = runs.switch_ports ∙ ap (λ ps. control_port ∷ ps) (sym runs.ports);
    queues = runs.size;
  }

  -- *Its ports*
  linked_of : (port : PortNo) (linked : Linked) → linked_at site.controller port ≡ Some linked → is_linked topology node port ≡ true
  linked_of port linked e = found_linked topology node site.controller.ports port linked runs.ports e

  found_of : (port : PortNo) → is_linked topology node port ≡ true → HasPort site.controller port
  found_of port e = linked_found site.controller port (ap (list_any (λ (p : PortNo). p.0 == port.0)) runs.ports ∙ is_port_of topology node port r.topology_is e)

  ranged : Every IsRanged (setups_by (opening_of policy topology node f.there f.numbers f.notes))
  ranged = every_mapped (setup_of node f.there.address (timers_of topology) policy) IsRanged (ranges_of topology node f.there)
      (every_map IsLabels (λ (range : PortRange). IsRanged (setup_of node f.there.address (timers_of topology) policy range)) (ranges_of topology node f.there)
      (λ range l. record { lifetime = r.topology_is.times.0.0; least = l.least; greatest = l.greatest; order = l.ascends }) (all_ranges topology node f.there a_node.ranges))

  fits : Every FitsSetup (setups_by (opening_of policy topology node f.there f.numbers f.notes))
  fits = every_mapped (setup_of node f.there.address (timers_of topology) policy) FitsSetup (ranges_of topology node f.there)
      (every_map IsLabels (λ (range : PortRange). FitsSetup (setup_of node f.there.address (timers_of topology) policy range)) (ranges_of topology node f.there)
      (λ range l. record { address = address_low; lifetime = omega (arith, r.topology_is.times.0.1) }) (all_ranges topology node f.there a_node.ranges))

  link_ports : HasLinkPorts topology node site.controller
  link_ports = record {
    few = with_setups (λ s. length s ≤ 8) (omega (arith, length-map (ranges_of topology node f.there) (setup_of node f.there.address (timers_of topology) policy), opening.few));
    links = with_setups (Every (λ (setup : Setup). IsLinkPort setup.port))
        (every_mapped (setup_of node f.there.address (timers_of topology) policy) (λ (setup : Setup). IsLinkPort setup.port) (ranges_of topology node f.there) opening.links);
    ascending = subst ArePorts (sym runs.ports) (ports_are topology node);
    ranged = with_setups (Every IsRanged) ranged;
    fits = with_setups (Every FitsSetup) fits;
    linked = linked_of;
    found = found_of;
  }

  -- *Its controller*
  by_records : (noted : List Record) → ((port : PortNo) (label : ℕ) → last_bound noted (bindings.site node port) label ≡ last_bound (past_of policy topology events).records (bindings.site node port) label)
      → (a : Acted) → HasBoundLabels node noted a → HasBoundLabels node (past_of policy topology events).records a
  by_records noted same a h = every_map (λ (linked : Linked). Every (IsBoundLast node noted linked.setup.port) (labels_of linked.port)) (λ (linked : Linked). Every (IsBoundLast node (past_of policy topology events).records linked.setup.port) (labels_of linked.port)) a.controller.ports
      (λ linked all. every_map (IsBoundLast node noted linked.setup.port) (IsBoundLast node (past_of policy topology events).records linked.setup.port) (labels_of linked.port)
      (λ label b wiring. sym (same linked.setup.port label.number) ∙ b wiring) all) h

  led_by : (noted : List Record) → ((port : PortNo) (label : ℕ) → last_bound noted (bindings.site node port) label ≡ last_bound (past_of policy topology events).records (bindings.site node port) label)
      → (a b : Acted) → a.controller ≡ b.controller → HasLedJoins node noted a → HasLedJoins node (past_of policy topology events).records b
  led_by noted same a b is h = subst (λ (c : Controller). HasLedJoins node (past_of policy topology events).records (record b { controller = c })) is
      (every_map (IsLed node noted a) (IsLed node (past_of policy topology events).records (record b { controller = a.controller })) (joins_of a.controller)
      (λ join l. record { flow = l.flow; bound = sym (same join.input.port (number_of_channel join.input.channel)) ∙ l.bound; held = l.held; lives = l.lives; route = l.route; next = l.next }) h)

  conducted : IsConducted (past_of policy topology events) node site
  conducted = record {
    sound = with_setups (λ s. IsSound s site.controller) sound_then;
    flows = with_setups (λ s. HasFlowingPorts s site.controller) (now_at (HasFlowingPorts (setups_by (opening_of policy topology node f.there f.numbers f.notes))) (always_flowing (opening_of policy topology node f.there f.numbers f.notes) f.inputs opening.differ));
    granted = with_setups (λ s. HasGrantedJoins s site.controller) (now_at (HasGrantedJoins (setups_by (opening_of policy topology node f.there f.numbers f.notes))) (always_granted (opening_of policy topology node f.there f.numbers f.notes) f.inputs opening.differ));
    moving = with_setups (λ s. HasMovingRequests s site.controller) (now_at (HasMovingRequests (setups_by (opening_of policy topology node f.there f.numbers f.notes))) (always_moves (opening_of policy topology node f.there f.numbers f.notes) f.inputs opening.differ));
    order = now_at IsOrderly (always_holds (opening_of policy topology node f.there f.numbers f.notes) f.inputs opening).order;
    matched = now_at (λ c. IsMatched c.ports c.desk) (always_matched (opening_of policy topology node f.there f.numbers f.notes) f.inputs opening);
    bound = now_at (λ c. HasBoundLabels node (past_of policy topology events).records (record { controller = c; notes = w.notes; numbers = w.numbers }))
        (by_records (noted_by_all (opened_by (opening_of policy topology node f.there f.numbers f.notes)) f.inputs) f.bound (takes_inputs (opened_by (opening_of policy topology node f.there f.numbers f.notes)) f.inputs) (always_bound (opening_of policy topology node f.there f.numbers f.notes) f.inputs opening));
    led = led_by (noted_by_all (opened_by (opening_of policy topology node f.there f.numbers f.notes)) f.inputs) f.bound (takes_inputs (opened_by (opening_of policy topology node f.there f.numbers f.notes)) f.inputs) (acting w site) f.now (always_led (opening_of policy topology node f.there f.numbers f.notes) f.inputs opening);
    gathers = now_at (λ c. GathersForBound node (past_of policy topology events).records (record { controller = c; notes = w.notes; numbers = w.numbers })) (always_gathers (opening_of policy topology node f.there f.numbers f.notes) f.inputs opening);
    routes = subst (λ n. Every (λ (route : Route). IsLinkedNext topology n route.next) site.controller.table) is_node.own marked.table;
    waiting = every_map (λ (change : RouteChange). May (IsLinkedNext topology node) change.next) (λ (change : RouteChange). IsLinkedChange topology node change.next) site.controller.waiting
        (λ change m. of_may topology node change.next m)
        (subst (λ n. Every (λ (change : RouteChange). May (IsLinkedNext topology n) change.next) site.controller.waiting) is_node.own marked.waiting);
  }
    where
      marked : SiteMarked (IsLinkedNext topology) w.numbers site
      marked = at_every site_key (SiteMarked (IsLinkedNext topology) w.numbers) node.0 w.sites site (linked_marked policy topology events r).sites found

pub runs_have_nodes : RunsHaveNodes
runs_have_nodes policy topology events addresses r node site found = record {
  is_node = is_node policy topology events addresses r node site found;
  ports = link_ports policy topology events addresses r node site found;
  conduct = conducted policy topology events addresses r node site found;
}
