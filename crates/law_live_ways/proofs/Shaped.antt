-- every event keeps the shape of a network

use Rattle.std.proofs.Common.{◌≡◌, ℕ, suc, ◌+◌, true, false, List, [], ◌∷◌, length, Option, None, Some, refl, sym, ◌∙◌, ap, subst, arith, if◌then◌else◌}
use Rattle.std.specs.Prelude.{nat_eq, nat_le}
use Rattle.world_model.specs.Words.{NodeId, PortNo, Place, Down, Up, Out, Channel, Mark, next_control, Cell, at, put, ArePorts, Loss, PoolFull, noted, made, frame_cells, control_port, Controller, inject_refusal, injected, change_comes, node_restarts, Refusal, Topology, World, Site, site_key, site_at, controller_acts, switch_acts, place_node, queue_at, with_queue, with_queue_of, with_queue_in, IsShapedSite, AreShaped, IsShaped, injects_by, arrives_at, arrives, carries_head, loses_head, forges}
use Rattle.world_model.specs.frame_model.Sending.{Sender}
use Rattle.world_model.specs.Switch as switches
use Rattle.world_model.specs.Conduct as switch
use Rattle.world_model.specs.Controller.{Acted, ports_of, free_slots}
use Rattle.world_model.specs.Sending.{with_cells, sends}
use Rattle.world_model.specs.Cells as takes
use Rattle.world_model.specs.Ticks.{ticks}
use Rattle.world_model.specs.network_model.declared.event.Event.{Event}
use Rattle.world_model.specs.network_model.declared.event.Event.TheVariants.{Inject, Carry, Lose, Tick, TickSwitch, Restart, RestartSwitch, Forge, Route}
use Rattle.world_model.specs.network_model.declared.link.LinkEnd.{LinkEnd}
use Rattle.world_model.specs.Topology.{peer_of}
use Rattle.world_model.specs.World.{at_controller, at_switch}
use Rattle.world_model.specs.Step.{acts}
use Rattle.world_model.proofs.Lists.{at_key, length_set}
use Rattle.law_run_facts.proofs.law_port_facts.Keyed.{on_both}
use Rattle.law_run_facts.proofs.law_actor_pace.Controllers.{cell_follows, injected_paces, ticks_paces, restarts_paces, change_changes}
use Rattle.law_run_facts.proofs.law_actor_pace.Switches.{cell_paces, tick_paces, restart_paces, sends_paces}

-- *A site is put in the place of another*
shaped_put : (new old : Site) (number : ℕ) (sites : List Site) → at site_key (site_key new) sites ≡ Some old
    → ((number : ℕ) → IsShapedSite number old → IsShapedSite number new) → AreShaped number sites → AreShaped number (put site_key new sites)
shaped_put new old number [] found keeps s = tt
shaped_put new old number (site ∷ sites) found keeps s = elim (nat_eq (site_key site) (site_key new)) as (λ t. (if t then Some site else at site_key (site_key new) sites) ≡ Some old
    → AreShaped number (if t then new ∷ sites else site ∷ put site_key new sites)) [
      | true ↦ λ h. (let it : old ≡ site = cc in (keeps number (subst (IsShapedSite number) (sym it) s.0), s.1))
      | false ↦ λ h. (s.0, shaped_put new old (suc number) sites h keeps s.1)
    ] found

own_found : (w : World) (node : NodeId) (site new : Site) → site_at w node ≡ Some site → new.controller.node ≡ site.controller.node → at site_key (site_key new) w.sites ≡ Some site
own_found w node site new found same =
    subst (λ k. at site_key k w.sites ≡ Some site) (sym (ap (λ (n : NodeId). n.0) same ∙ at_key site_key node.0 w.sites site found)) found

-- *An actor acts*
controller_shaped : (w : World) (node : NodeId) (act : Acted → Acted) → ((a : Acted) → ((act a).controller.node ≡ a.controller.node) × (ports_of (act a).controller ≡ ports_of a.controller)) → IsShaped w → IsShaped (at_controller w node act)
controller_shaped w node act same s = by (site_at w node) refl
  where
    by : (o : Option Site) → site_at w node ≡ o → IsShaped (controller_acts w o act)
    by None e = s
    by (Some site) e =
        let a : Acted = record { controller = site.controller; notes = w.notes; numbers = w.numbers } in
        let new : Site = record site { controller = (act a).controller } in
        let k = same a in
        shaped_put new site 1 w.sites (own_found w node site new e k.0)
        (λ number h. record { node = ap (λ (n : NodeId). n.0) k.0 ∙ h.node; queues = h.queues; ports = subst ArePorts (sym k.1) h.ports }) s

switch_shaped : (w : World) (node : NodeId) (act : switches.ActedSwitch → switches.ActedSwitch) → ((a : switches.ActedSwitch) → length (act a).switch.crossbar.queues ≡ length a.switch.crossbar.queues) → IsShaped w → IsShaped (at_switch w node act)
switch_shaped w node act same s = by (site_at w node) refl
  where
    by : (o : Option Site) → site_at w node ≡ o → IsShaped (switch_acts w o act)
    by None e = s
    by (Some site) e =
        let a : switches.ActedSwitch = record { switch = site.switch; notes = w.notes; numbers = w.numbers } in
        let new : Site = record site { switch = (act a).switch } in
        shaped_put new site 1 w.sites (own_found w node site new e refl) (λ number h. record { node = h.node; queues = same a ∙ h.queues; ports = h.ports }) s

queue_shaped : (w : World) (place : Place) (cells : List Cell) → IsShaped w → IsShaped (with_queue w place cells)
queue_shaped w place cells s = by (site_at w (place_node place)) refl
  where
    kept : (place : Place) (site : Site) (number : ℕ) → IsShapedSite number site → IsShapedSite number (with_queue_in site place cells)
    kept (Down n) site number h = record { node = h.node; queues = h.queues; ports = h.ports }
    kept (Up n) site number h = record { node = h.node; queues = length_set site.switch.crossbar.queues 0 cells ∙ h.queues; ports = h.ports }
    kept (Out n p) site number h = record { node = h.node; queues = length_set site.switch.crossbar.queues p.0 cells ∙ h.queues; ports = h.ports }

    own : (place : Place) (site : Site) → (with_queue_in site place cells).controller.node ≡ site.controller.node
    own (Down n) site = refl
    own (Up n) site = refl
    own (Out n p) site = refl

    by : (o : Option Site) → site_at w (place_node place) ≡ o → IsShaped (with_queue_of w place cells o)
    by None e = s
    by (Some site) e = shaped_put (with_queue_in site place cells) site 1 w.sites (own_found w (place_node place) site (with_queue_in site place cells) e (own place site)) (kept place site) s

cell_size : (port : PortNo) (cell : Cell) (a : switches.ActedSwitch) → length (switch.cell_comes a port cell).switch.crossbar.queues ≡ length a.switch.crossbar.queues
cell_size port cell a = (cell_paces cell.mark.frame a port cell (omega arith)).size

forged_size : (port : PortNo) (channel : Channel) (mark : Mark) (payload : List ℕ) (a : switches.ActedSwitch) → length (switch.forged a port channel mark payload).switch.crossbar.queues ≡ length a.switch.crossbar.queues
forged_size port channel mark payload a = (sends_paces mark.frame a port channel mark payload (λ most from le. from)).size

pub sent_same : (channel : Channel) (mark : Mark) (payload : List ℕ) (a : Acted) → ((sends a channel mark payload).controller.node ≡ a.controller.node) × (ports_of (sends a channel mark payload).controller ≡ ports_of a.controller)
sent_same channel mark payload a = on_both (λ (s : Sender Controller). (s.queues.node ≡ a.controller.node) × (ports_of s.queues ≡ ports_of a.controller)) (nat_le (length (frame_cells channel mark payload)) (free_slots a.controller))
    (record { queues = with_cells a.controller (frame_cells channel mark payload); notes = made a.notes mark payload })
    (record { queues = a.controller; notes = noted (made a.notes mark payload) (Loss mark PoolFull) }) (refl, refl) (refl, refl)

pub cell_same : (cell : Cell) (a : Acted) → ((takes.cell_comes a cell).controller.node ≡ a.controller.node) × (ports_of (takes.cell_comes a cell).controller ≡ ports_of a.controller)
cell_same cell a = (let f = cell_follows (cell.mark.frame + 1) a cell (omega arith) in (f.node, f.ports))

-- *Each event*
pub acts_shaped : (topology : Topology) (w : World) (event : Event) → IsShaped w → IsShaped (acts topology w event)
acts_shaped topology w (Inject node octets) s = by (inject_refusal octets)
  where
    by : (o : Option Refusal) → IsShaped (injects_by (record w { sent = w.sent + 1 }) node octets o)
    by (Some name) = s
    by None = controller_shaped (record w { sent = w.sent + 1 }) node (λ a. injected a (w.sent + 1) octets) (λ a. (let p = injected_paces 1 a (w.sent + 1) octets (omega arith) in (p.node, p.ports))) s
acts_shaped topology w (Carry place) s = by (queue_at w place)
  where
    far : (v : World) (cell : Cell) (o : Option LinkEnd) → IsShaped v → IsShaped (arrives_at v cell o)
    far v cell None h = h
    far v cell (Some end) h = switch_shaped v end.node (λ a. switch.cell_comes a end.port cell) (cell_size end.port cell) h

    comes : (v : World) (place : Place) (cell : Cell) → IsShaped v → IsShaped (arrives topology v place cell)
    comes v (Down n) cell h = switch_shaped v n (λ a. switch.cell_comes a control_port cell) (cell_size control_port cell) h
    comes v (Up n) cell h = controller_shaped v n (λ a. takes.cell_comes a cell) (cell_same cell) h
    comes v (Out n p) cell h = far v cell (peer_of topology n p) h

    by : (q : List Cell) → IsShaped (carries_head topology w place q)
    by [] = s
    by (cell ∷ cells) = comes (with_queue w place cells) place cell (queue_shaped w place cells s)
acts_shaped topology w (Lose place) s = by (queue_at w place)
  where
    by : (q : List Cell) → IsShaped (loses_head w place q)
    by [] = s
    by (cell ∷ cells) = queue_shaped w place cells s
acts_shaped topology w (Tick node) s = controller_shaped w node ticks (λ a. (let p = ticks_paces 0 a in (p.node, p.ports))) s
acts_shaped topology w (TickSwitch node) s = switch_shaped w node switch.tick_comes (λ a. (tick_paces 0 a).size) s
acts_shaped topology w (Restart node) s = controller_shaped w node node_restarts (λ a. (let p = restarts_paces 0 a in (p.node, p.ports))) s
acts_shaped topology w (RestartSwitch node) s = switch_shaped w node switch.restarted (λ a. (restart_paces 0 a).size) s
acts_shaped topology w (Forge place channel payload) s = by place
  where
    by : (place : Place) → IsShaped (forges w place channel payload)
    by (Down n) = controller_shaped _ n (λ a. sends a channel (next_control w.numbers) payload) (sent_same channel (next_control w.numbers) payload) s
    by (Up n) = switch_shaped _ n (λ a. switch.forged a control_port channel (next_control w.numbers) payload) (forged_size control_port channel (next_control w.numbers) payload) s
    by (Out n p) = switch_shaped _ n (λ a. switch.forged a p channel (next_control w.numbers) payload) (forged_size p channel (next_control w.numbers) payload) s
acts_shaped topology w (Route node change) s = controller_shaped w node (λ a. change_comes a change) (λ a. (let c = change_changes 0 a change in (c.node, c.ports))) s
