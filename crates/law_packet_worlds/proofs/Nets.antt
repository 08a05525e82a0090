-- every world of a run is the network of its topology

use Rattle.std.proofs.Common.{◌≡◌, ℕ, suc, ◌+◌, true, false, List, [], ◌∷◌, length, map, Option, None, Some, refl, sym, ◌∙◌, ap, subst, arith, if◌then◌else◌}
use Rattle.std.specs.Prelude.{nat_eq, nat_le, ◌==◌}
use Rattle.std.specs.List.{list_any}
use Rattle.std.proofs.lemmas.Bool.Decides.{nat_tests}
use Rattle.law_arrival_views.specs.world_model.Words.{NodeId, PortNo, Place, Down, Up, Out, Channel, Mark, next_control, Cell, at, put, ArePorts, Loss, PoolFull, noted, made, frame_cells, Policy, control_port, Controller, Linked, port_key, inject_refusal, injected, change_comes, node_restarts, Refusal, Topology, IsNode, IsPlace, World, Site, site_key, site_at, controller_acts, switch_acts, place_node, queue_at, with_queue, with_queue_of, with_queue_in, queue_number, same_queue, places_of, IsShapedSite, AreShaped, IsShaped, IsPlaceOf, IsPlaceIn, injects_by, arrives_at, arrives, carries_head, loses_head, forges, put_away, next, world_after, past_of}
use Rattle.law_arrival_views.proofs.law_port_facts.Keyed.{at_key, on_both}
use Rattle.law_packet_worlds.proofs.Lists.{any_back}
use Rattle.law_arrival_views.specs.world_model.frame_model.Sending.{Sender}
use Rattle.law_arrival_views.specs.world_model.Switch as switches
use Rattle.law_arrival_views.specs.world_model.Conduct as switch
use Rattle.law_arrival_views.specs.world_model.Controller.{Acted, ports_of, free_slots}
use Rattle.law_arrival_views.specs.world_model.Sending.{with_cells, sends}
use Rattle.law_arrival_views.specs.world_model.Cells as takes
use Rattle.law_arrival_views.specs.world_model.Ticks.{ticks}
use Rattle.law_arrival_views.specs.world_model.network_model.declared.event.Event.{Event}
use Rattle.law_arrival_views.specs.world_model.network_model.declared.event.Event.TheVariants.{Inject, Carry, Lose, Tick, TickSwitch, Restart, RestartSwitch, Forge, Route}
use Rattle.law_arrival_views.specs.world_model.network_model.declared.link.LinkEnd.{LinkEnd}
use Rattle.law_arrival_views.specs.world_model.Topology.{peer_of}
use Rattle.law_arrival_views.specs.world_model.World.{opened, at_controller, at_switch}
use Rattle.law_arrival_views.specs.world_model.Step.{acts}
use Rattle.law_arrival_views.proofs.world_model.Lists.{length_set}
use Rattle.law_arrival_views.proofs.world_model.Opening.{opened_is_shaped}
use Rattle.law_run_facts.specs.law_world_views.Between.{EachSite}
use Rattle.law_run_facts.specs.Nodes.{HasPort, IsNodeOfRun, HasSite}
use Rattle.law_run_facts.proofs.law_actor_pace.Controllers.{cell_follows, injected_paces, ticks_paces, restarts_paces, change_changes}
use Rattle.law_run_facts.proofs.law_actor_pace.Switches.{cell_paces, tick_paces, restart_paces, sends_paces}
use Rattle.law_packet_worlds.proofs.Worlds.{IsNet}

-- *A site is put in the place of another*
shaped_put : (new old : Site) (number : ℕ) (sites : List Site) → at site_key (site_key new) sites ≡ Some old
    → ((number : ℕ) → IsShapedSite number old → IsShapedSite number new) → AreShaped number sites → AreShaped number (put site_key new sites)
shaped_put new old number [] found keeps s = tt
shaped_put new old number (site ∷ sites) found keeps s = elim (nat_eq (site_key site) (site_key new)) as (λ t. (if t then Some site else at site_key (site_key new) sites) ≡ Some old
    → AreShaped number (if t then new ∷ sites else site ∷ put site_key new sites)) [
      | true ↦ λ h. (let it : old ≡ site = cc in (keeps number (subst (IsShapedSite number) (sym it) s.0), s.1))
      | false ↦ λ h. (s.0, shaped_put new old (suc number) sites h keeps s.1)
    ] found

own_found : (w : World) (node : NodeId) (site new : Site) → site_at w node ≡ Some site → new.controller.node ≡ site.controller.node → at site_key (site_key new) w.sites ≡ Some site
own_found w node site new found same =
    subst (λ k. at site_key k w.sites ≡ Some site) (sym (ap (λ (n : NodeId). n.0) same ∙ at_key site_key node.0 w.sites site found)) found

-- *An actor acts*
controller_shaped : (w : World) (node : NodeId) (act : Acted → Acted) → ((a : Acted) → ((act a).controller.node ≡ a.controller.node) × (ports_of (act a).controller ≡ ports_of a.controller)) → IsShaped w → IsShaped (at_controller w node act)
controller_shaped w node act same s = by (site_at w node) refl
  where
    by : (o : Option Site) → site_at w node ≡ o → IsShaped (controller_acts w o act)
    by None e = s
    by (Some site) e =
        let a : Acted = record { controller = site.controller; notes = w.notes; numbers = w.numbers } in
        let new : Site = record site { controller = (act a).controller } in
        let k = same a in
        shaped_put new site 1 w.sites (own_found w node site new e k.0)
        (λ number h. record { node = ap (λ (n : NodeId). n.0) k.0 ∙ h.node; queues = h.queues; ports = subst ArePorts (sym k.1) h.ports }) s

switch_shaped : (w : World) (node : NodeId) (act : switches.ActedSwitch → switches.ActedSwitch) → ((a : switches.ActedSwitch) → length (act a).switch.crossbar.queues ≡ length a.switch.crossbar.queues) → IsShaped w → IsShaped (at_switch w node act)
switch_shaped w node act same s = by (site_at w node) refl
  where
    by : (o : Option Site) → site_at w node ≡ o → IsShaped (switch_acts w o act)
    by None e = s
    by (Some site) e =
        let a : switches.ActedSwitch = record { switch = site.switch; notes = w.notes; numbers = w.numbers } in
        let new : Site = record site { switch = (act a).switch } in
        shaped_put new site 1 w.sites (own_found w node site new e refl) (λ number h. record { node = h.node; queues = same a ∙ h.queues; ports = h.ports }) s

queue_shaped : (w : World) (place : Place) (cells : List Cell) → IsShaped w → IsShaped (with_queue w place cells)
queue_shaped w place cells s = by (site_at w (place_node place)) refl
  where
    kept : (place : Place) (site : Site) (number : ℕ) → IsShapedSite number site → IsShapedSite number (with_queue_in site place cells)
    kept (Down n) site number h = record { node = h.node; queues = h.queues; ports = h.ports }
    kept (Up n) site number h = record { node = h.node; queues = length_set site.switch.crossbar.queues 0 cells ∙ h.queues; ports = h.ports }
    kept (Out n p) site number h = record { node = h.node; queues = length_set site.switch.crossbar.queues p.0 cells ∙ h.queues; ports = h.ports }

    own : (place : Place) (site : Site) → (with_queue_in site place cells).controller.node ≡ site.controller.node
    own (Down n) site = refl
    own (Up n) site = refl
    own (Out n p) site = refl

    by : (o : Option Site) → site_at w (place_node place) ≡ o → IsShaped (with_queue_of w place cells o)
    by None e = s
    by (Some site) e = shaped_put (with_queue_in site place cells) site 1 w.sites (own_found w (place_node place) site (with_queue_in site place cells) e (own place site)) (kept place site) s

cell_size : (port : PortNo) (cell : Cell) (a : switches.ActedSwitch) → length (switch.cell_comes a port cell).switch.crossbar.queues ≡ length a.switch.crossbar.queues
cell_size port cell a = (cell_paces cell.mark.frame a port cell (omega arith)).size

forged_size : (port : PortNo) (channel : Channel) (mark : Mark) (payload : List ℕ) (a : switches.ActedSwitch) → length (switch.forged a port channel mark payload).switch.crossbar.queues ≡ length a.switch.crossbar.queues
forged_size port channel mark payload a = (sends_paces mark.frame a port channel mark payload (λ most from le. from)).size

sent_same : (channel : Channel) (mark : Mark) (payload : List ℕ) (a : Acted) → ((sends a channel mark payload).controller.node ≡ a.controller.node) × (ports_of (sends a channel mark payload).controller ≡ ports_of a.controller)
sent_same channel mark payload a = on_both (λ (s : Sender Controller). (s.queues.node ≡ a.controller.node) × (ports_of s.queues ≡ ports_of a.controller)) (nat_le (length (frame_cells channel mark payload)) (free_slots a.controller))
    (record { queues = with_cells a.controller (frame_cells channel mark payload); notes = made a.notes mark payload })
    (record { queues = a.controller; notes = noted (made a.notes mark payload) (Loss mark PoolFull) }) (refl, refl) (refl, refl)

cell_same : (cell : Cell) (a : Acted) → ((takes.cell_comes a cell).controller.node ≡ a.controller.node) × (ports_of (takes.cell_comes a cell).controller ≡ ports_of a.controller)
cell_same cell a = (let f = cell_follows (cell.mark.frame + 1) a cell (omega arith) in (f.node, f.ports))

-- *Each event*
acts_shaped : (topology : Topology) (w : World) (event : Event) → IsShaped w → IsShaped (acts topology w event)
acts_shaped topology w (Inject node octets) s = by (inject_refusal octets)
  where
    by : (o : Option Refusal) → IsShaped (injects_by (record w { sent = w.sent + 1 }) node octets o)
    by (Some name) = s
    by None = controller_shaped (record w { sent = w.sent + 1 }) node (λ a. injected a (w.sent + 1) octets) (λ a. (let p = injected_paces 1 a (w.sent + 1) octets (omega arith) in (p.node, p.ports))) s
acts_shaped topology w (Carry place) s = by (queue_at w place)
  where
    far : (v : World) (cell : Cell) (o : Option LinkEnd) → IsShaped v → IsShaped (arrives_at v cell o)
    far v cell None h = h
    far v cell (Some end) h = switch_shaped v end.node (λ a. switch.cell_comes a end.port cell) (cell_size end.port cell) h

    comes : (v : World) (place : Place) (cell : Cell) → IsShaped v → IsShaped (arrives topology v place cell)
    comes v (Down n) cell h = switch_shaped v n (λ a. switch.cell_comes a control_port cell) (cell_size control_port cell) h
    comes v (Up n) cell h = controller_shaped v n (λ a. takes.cell_comes a cell) (cell_same cell) h
    comes v (Out n p) cell h = far v cell (peer_of topology n p) h

    by : (q : List Cell) → IsShaped (carries_head topology w place q)
    by [] = s
    by (cell ∷ cells) = comes (with_queue w place cells) place cell (queue_shaped w place cells s)
acts_shaped topology w (Lose place) s = by (queue_at w place)
  where
    by : (q : List Cell) → IsShaped (loses_head w place q)
    by [] = s
    by (cell ∷ cells) = queue_shaped w place cells s
acts_shaped topology w (Tick node) s = controller_shaped w node ticks (λ a. (let p = ticks_paces 0 a in (p.node, p.ports))) s
acts_shaped topology w (TickSwitch node) s = switch_shaped w node switch.tick_comes (λ a. (tick_paces 0 a).size) s
acts_shaped topology w (Restart node) s = controller_shaped w node node_restarts (λ a. (let p = restarts_paces 0 a in (p.node, p.ports))) s
acts_shaped topology w (RestartSwitch node) s = switch_shaped w node switch.restarted (λ a. (restart_paces 0 a).size) s
acts_shaped topology w (Forge place channel payload) s = by place
  where
    by : (place : Place) → IsShaped (forges w place channel payload)
    by (Down n) = controller_shaped _ n (λ a. sends a channel (next_control w.numbers) payload) (sent_same channel (next_control w.numbers) payload) s
    by (Up n) = switch_shaped _ n (λ a. switch.forged a control_port channel (next_control w.numbers) payload) (forged_size control_port channel (next_control w.numbers) payload) s
    by (Out n p) = switch_shaped _ n (λ a. switch.forged a p channel (next_control w.numbers) payload) (forged_size p channel (next_control w.numbers) payload) s
acts_shaped topology w (Route node change) s = controller_shaped w node (λ a. change_comes a change) (λ a. (let c = change_changes 0 a change in (c.node, c.ports))) s

run_shaped : (topology : Topology) (w : World) (events : List Event) → IsShaped w → IsShaped (world_after topology w events)
run_shaped topology w [] s = s
run_shaped topology w (event ∷ events) s = run_shaped topology (next topology w event) events (acts_shaped topology (put_away w) event s)

-- *Its places*
same_place : (place other : Place) → (place_node place).0 ≡ (place_node other).0 → queue_number place ≡ queue_number other → same_queue place other ≡ true
same_place place other node number =
    let first : ((place_node place).0 == (place_node other).0) ≡ true = grind (arith, nat_tests, node) in
    let second : (queue_number place == queue_number other) ≡ true = grind (arith, nat_tests, number) in
    rw (first, second) refl

among_ports : (node : NodeId) (port : PortNo) (own : NodeId) (ports : List Linked) (linked : Linked) → own ≡ node → at port_key port.0 ports ≡ Some linked
    → list_any (same_queue (Out node port)) (map (λ p. Out own p) (map (λ (l : Linked). l.setup.port) ports)) ≡ true
among_ports node port own [] linked same e = absurd (cc e)
among_ports node port own (x ∷ xs) linked same e = elim (nat_eq (port_key x) port.0) as (λ t. nat_eq (port_key x) port.0 ≡ t → (if t then Some x else at port_key port.0 xs) ≡ Some linked
    → list_any (same_queue (Out node port)) (map (λ p. Out own p) (map (λ (l : Linked). l.setup.port) (x ∷ xs))) ≡ true) [
      | true ↦ λ t h. (
          let key : x.setup.port.0 ≡ port.0 = grind (arith, nat_tests, t) in
          let one : same_queue (Out node port) (Out own x.setup.port) ≡ true = same_place (Out node port) (Out own x.setup.port) (ap (λ (n : NodeId). n.0) (sym same)) (ap suc (sym key)) in
          rw one refl)
      | false ↦ λ t h. any_back (same_queue (Out node port)) (Out own x.setup.port ∷ []) (map (λ p. Out own p) (map (λ (l : Linked). l.setup.port) xs)) (among_ports node port own xs linked same h)
    ] refl e

pub world_net : (policy : Policy) (topology : Topology) (events : List Event) → EachSite (past_of policy topology events).now (IsNodeOfRun policy (past_of policy topology events))
    → ((node : NodeId) → IsNode topology node → HasSite (past_of policy topology events).now node) → IsNet topology (past_of policy topology events).now
world_net policy topology events nodes there = record {
  shaped = run_shaped topology (opened policy topology) events (opened_is_shaped policy topology);
  within = within;
}
  where
    within : (place : Place) → IsPlace topology place → IsPlaceIn (past_of policy topology events).now place
    within (Down n) is = (let s = there n is in subst (IsPlaceOf (Down n)) (sym s.is) (first s.site (nodes n s.site s.is).is_node.own))
      where
        first : (site : Site) → site.controller.node ≡ n → list_any (same_queue (Down n)) (places_of site) ≡ true
        first site own = (let one : same_queue (Down n) (Down site.controller.node) ≡ true = same_place (Down n) (Down site.controller.node) (ap (λ (m : NodeId). m.0) (sym own)) refl in rw one refl)
    within (Up n) is = (let s = there n is in subst (IsPlaceOf (Up n)) (sym s.is) (second s.site (nodes n s.site s.is).is_node.own))
      where
        second : (site : Site) → site.controller.node ≡ n → list_any (same_queue (Up n)) (places_of site) ≡ true
        second site own = any_back (same_queue (Up n)) (Down site.controller.node ∷ []) (Up site.controller.node ∷ map (λ port. Out site.controller.node port) (ports_of site.controller))
            (let one : same_queue (Up n) (Up site.controller.node) ≡ true = same_place (Up n) (Up site.controller.node) (ap (λ (m : NodeId). m.0) (sym own)) refl in rw one refl)
    within (Out n p) is = (let s = there n is.0 in subst (IsPlaceOf (Out n p)) (sym s.is)
        (third s.site (nodes n s.site s.is).is_node.own ((nodes n s.site s.is).ports.found p is.1)))
      where
        third : (site : Site) → site.controller.node ≡ n → HasPort site.controller p → list_any (same_queue (Out n p)) (places_of site) ≡ true
        third site own port = any_back (same_queue (Out n p)) (Down site.controller.node ∷ Up site.controller.node ∷ []) (map (λ q. Out site.controller.node q) (ports_of site.controller))
            (among_ports n p site.controller.node site.controller.ports port.linked own port.is)
