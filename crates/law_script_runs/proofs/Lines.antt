-- topology lines leave addresses of 32 bits; ticks of all and rounds are of nodes and of queues of the topology

use Rattle.std.proofs.Common.{◌≡◌, ℕ, zero, suc, ◌+◌, ◌≤◌, ◌<◌, ◌^◌, Bool, true, false, List, [], ◌∷◌, ◌++◌, length, map, flat_map, filter, Option, None, Some, refl, sym, ap, subst, arith, slice_get, slice_set, cond, All}
use Rattle.std.specs.Prelude.{is_some}
use Rattle.std.specs.List.{repeat, range_with_len}
use Rattle.std.proofs.lemmas.List.Concat.{flat_map-cons}
use Rattle.world_model.specs.Words.{NodeId, PortNo, Place, Out, Local, Via, Topology, Node, new_node, node_named, is_linked, changed_at, with_changed, changes_named, with_link, with_route, with_line, IsNode, IsPlace, IsEvent, World, Site, places_of, tick_of, switch_tick_of, tick_of_all, round}
use Rattle.law_run_facts.specs.ordered_lists.Ordered.{Every}
use Rattle.law_run_facts.proofs.ordered_lists.Every.{every_join, every_mapped, every_map}
use Rattle.law_run_facts.proofs.law_port_facts.Keyed.{every_more}
use Rattle.world_model.specs.Controller.{ports_of}
use Rattle.world_model.specs.network_model.declared.event.Event.{Event}
use Rattle.world_model.specs.network_model.declared.event.Event.TheVariants.{Carry, Tick, TickSwitch}
use Rattle.world_model.specs.network_model.declared.line.TopologyLine.{TopologyLine}
use Rattle.world_model.specs.network_model.declared.line.TopologyLine.TheVariants as lines
use Rattle.world_model.specs.Topology.{peer_of}
use Rattle.law_run_facts.specs.law_world_pace.Running.{AreRunning, IsRunningSite, numbered}
use Rattle.script_model.specs.Sayable.{HasTexts}

-- *Addresses*
abbrev pub IsLow : Node → Type 0
IsLow node = node.address.0 < 2 ^ 32

some_same : {A : Type 0} (x y : A) → Some x ≡ Some y → x ≡ y
some_same x y e = cc

every_get : {A : Type 0} (P : A → Type 0) (xs : List A) (k : ℕ) (x : A) → Every P xs → slice_get xs k ≡ Some x → P x
every_get P [] k x h e = absurd (cc e)
every_get P (y ∷ xs) zero x h e = subst P (some_same y x e) h.0
every_get P (y ∷ xs) (suc k) x h e = every_get P xs k x h.1 e

every_put : {A : Type 0} (P : A → Type 0) (xs : List A) (k : ℕ) (y : A) → P y → Every P xs → Every P (slice_set xs k y)
every_put P [] k y p h = tt
every_put P (x ∷ xs) zero y p h = (p, h.1)
every_put P (x ∷ xs) (suc k) y p h = (h.0, every_put P xs k y p h.1)

pub all_of : {A : Type 0} (P : A → Type 0) (xs : List A) → Every P xs → All P xs
all_of P [] h k d low = absurd (omega (arith, low))
all_of P (x ∷ xs) h zero d low = h.0
all_of P (x ∷ xs) h (suc k) d low = all_of P xs h.1 k d (omega (arith, low))

changed_low : (topology : Topology) (name : List ℕ) (change : Node → Node) → ((node : Node) → IsLow node → IsLow (change node)) → Every IsLow topology.nodes → Every IsLow (changes_named topology name change).nodes
changed_low topology name change keeps h = by (node_named topology name)
  where
    at : (place : ℕ) (o : Option Node) → slice_get topology.nodes place ≡ o → Every IsLow (changed_at change topology.nodes place o)
    at place None e = h
    at place (Some node) e = every_put IsLow topology.nodes place (change node) (keeps node (every_get IsLow topology.nodes place node h e)) h

    by : (o : Option NodeId) → Every IsLow (with_changed topology change o).nodes
    by None = h
    by (Some node) = at _ (slice_get topology.nodes _) refl

linked_low : (topology : Topology) (first second : PortNo) (one other : Option NodeId) → Every IsLow topology.nodes → Every IsLow (with_link topology first second one other).nodes
linked_low topology first second None other h = h
linked_low topology first second (Some one) None h = h
linked_low topology first second (Some one) (Some other) h = h

pub line_low : (topology : Topology) (line : TopologyLine) → HasTexts topology line → Every IsLow topology.nodes → Every IsLow (with_line topology line).nodes
line_low topology (lines.Node name address) texts h = every_more IsLow topology.nodes (new_node name address) h texts.1
line_low topology (lines.Cells name cells) texts h = changed_low topology name (λ node. record node { cells = cells }) (λ node low. low) h
line_low topology (lines.Labels name port lo hi) texts h =
    changed_low topology name (λ node. record node { ranges = node.ranges ++ record { port = port; lo = lo; hi = hi } ∷ [] }) (λ node low. low) h
line_low topology (lines.Link first second) texts h = linked_low topology first.1 second.1 (node_named topology first.0) (node_named topology second.0) h
line_low topology (lines.RouteVia name prefix port) texts h = changed_low topology name (with_route prefix (Via port)) (λ node low. low) h
line_low topology (lines.RouteLocal name prefix) texts h = changed_low topology name (with_route prefix Local) (λ node low. low) h
line_low topology (lines.PolicyXy x y) texts h = h
line_low topology lines.PolicyNever texts h = h
line_low topology (lines.Timers lifetime refresh idle) texts h = h
line_low topology (lines.Version version) texts h = h

-- *Events that are of the topology*, whatever the network
abbrev pub IsMeant : Topology → Event → Type 0
IsMeant topology event = (w : World) → IsEvent topology w event

module _ (t : Topology) where
  every_passes : (node : NodeId) (ports : List PortNo) → Every (λ (p : PortNo). is_linked t node p ≡ true) (filter (λ (p : PortNo). is_some (peer_of t node p)) ports)
  every_passes node [] = tt
  every_passes node (p ∷ ports) = by (is_some (peer_of t node p)) refl (every_passes node ports)
    where
      by : (b : Bool) → is_some (peer_of t node p) ≡ b → Every (λ (q : PortNo). is_linked t node q ≡ true) (filter (λ (q : PortNo). is_some (peer_of t node q)) ports)
          → Every (λ (q : PortNo). is_linked t node q ≡ true) (cond b (p ∷ filter (λ (q : PortNo). is_some (peer_of t node q)) ports) (filter (λ (q : PortNo). is_some (peer_of t node q)) ports))
      by true e rest = (e, rest)
      by false e rest = rest

  node_in : (number : ℕ) (site : Site) → IsRunningSite t 0 number site → 1 ≤ number → number ≤ length t.nodes → IsNode t site.controller.node
  node_in number site h low high = (omega (arith, h.node, low), omega (arith, h.node, high))

  each_node : (f : NodeId → Event) → ((node : NodeId) → IsNode t node → IsMeant t (f node)) → (number : ℕ) (sites : List Site) → AreRunning t 0 number sites → 1 ≤ number → number + length sites ≤ length t.nodes + 1
      → Every (IsMeant t) (map (λ (site : Site). f site.controller.node) sites)
  each_node f is number [] h low high = tt
  each_node f is number (site ∷ sites) h low high =
      (is site.controller.node (node_in number site h.0 low (omega (arith, high))), each_node f is (suc number) sites h.1 (omega (arith, low)) (omega (arith, high)))

  pub ticks_meant : (w : World) → AreRunning t 0 1 w.sites → length w.sites ≡ length t.nodes → Every (IsMeant t) (tick_of_all w)
  ticks_meant w h size = every_join (IsMeant t) (map tick_of w.sites) (map switch_tick_of w.sites)
      (each_node Tick (λ node is v. is) 1 w.sites h (omega arith) (omega (arith, size)))
      (each_node TickSwitch (λ node is v. is) 1 w.sites h (omega arith) (omega (arith, size)))

  site_places : (number : ℕ) (site : Site) → IsRunningSite t 0 number site → 1 ≤ number → number ≤ length t.nodes → Every (IsPlace t) (places_of site)
  site_places number site h low high =
      let is : IsNode t site.controller.node = node_in number site h low high in
      let own : numbered number ≡ site.controller.node = ap numbered (sym h.node) in
      let linked : Every (λ (p : PortNo). is_linked t site.controller.node p ≡ true) (ports_of site.controller) =
      subst (λ (n : NodeId). Every (λ (p : PortNo). is_linked t n p ≡ true) (ports_of site.controller)) own
      (subst (Every (λ (p : PortNo). is_linked t (numbered number) p ≡ true)) (sym h.ports) (every_passes (numbered number) (map (λ (n : ℕ). record { 0 = n }) (range_with_len 1 8)))) in (
        is,
        (
          is,
          every_mapped (λ (port : PortNo). Out site.controller.node port) (IsPlace t) (ports_of site.controller)
              (every_map (λ (p : PortNo). is_linked t site.controller.node p ≡ true) (λ (p : PortNo). IsPlace t (Out site.controller.node p)) (ports_of site.controller) (λ p l. (is, l)) linked),
        ),
      )

  each_place : (number : ℕ) (sites : List Site) → AreRunning t 0 number sites → 1 ≤ number → number + length sites ≤ length t.nodes + 1 → Every (IsPlace t) (flat_map places_of sites)
  each_place number [] h low high = tt
  each_place number (site ∷ sites) h low high = subst (Every (IsPlace t)) (sym (flat_map-cons places_of site sites))
      (every_join (IsPlace t) (places_of site) (flat_map places_of sites) (site_places number site h.0 low (omega (arith, high))) (each_place (suc number) sites h.1 (omega (arith, low)) (omega (arith, high))))

  round_meant : (w : World) → AreRunning t 0 1 w.sites → length w.sites ≡ length t.nodes → Every (IsMeant t) (round w)
  round_meant w h size = every_mapped Carry (IsMeant t) (flat_map places_of w.sites)
      (every_map (IsPlace t) (λ (p : Place). IsMeant t (Carry p)) (flat_map places_of w.sites) (λ p is v. is) (each_place 1 w.sites h (omega arith) (omega (arith, size))))

  pub rounds_meant : (n : ℕ) (w : World) → AreRunning t 0 1 w.sites → length w.sites ≡ length t.nodes → Every (IsMeant t) (repeat n (round w))
  rounds_meant zero w h size = tt
  rounds_meant (suc n) w h size = every_join (IsMeant t) (round w) (repeat n (round w)) (round_meant w h size) (rounds_meant n w h size)
