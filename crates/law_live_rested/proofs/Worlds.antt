-- behind any events each node's controller and switch have such sides

use Rattle.std.proofs.Common.{◌≡◌, ℕ, suc, ◌+◌, List, [], ◌∷◌, Option, None, Some, refl}
use Rattle.world_model.specs.Words.{NodeId, Place, Down, Up, Out, Channel, Mark, next_control, with_control, Cell, Forged, Refusal, control_port, inject_refusal, injected, node_restarts, change_comes, Policy, Topology, Node, World, Site, site_key, site_at, empty_world, opened_site, opens_each, with_opened, controller_acts, switch_acts, place_node, queue_at, with_queue, with_queue_in, with_queue_of, injects_by, carries_head, loses_head, arrives, arrives_at, forges_at, put_away, next, world_after, tick_comes, restarted}
use Rattle.world_model.specs.Switch as switches
use Rattle.world_model.specs.Conduct as switch
use Rattle.world_model.specs.Controller.{Acted}
use Rattle.world_model.specs.Sending.{sends}
use Rattle.world_model.specs.Cells as controller
use Rattle.world_model.specs.Ticks.{ticks}
use Rattle.world_model.specs.network_model.declared.event.Event.{Event}
use Rattle.world_model.specs.network_model.declared.event.Event.TheVariants.{Inject, Carry, Lose, Tick, TickSwitch, Restart, RestartSwitch, Forge, Route}
use Rattle.world_model.specs.network_model.declared.link.LinkEnd.{LinkEnd}
use Rattle.world_model.specs.Topology.{peer_of}
use Rattle.world_model.specs.World.{opened, at_controller, at_switch}
use Rattle.world_model.specs.Step.{note, acts}
use Rattle.law_live_woken.specs.law_controller_facts.ordered_lists.Ordered.{Every}
use Rattle.law_live_woken.proofs.law_controller_facts.law_port_facts.Keyed.{at_every, put_every, every_more}
use Rattle.law_live_rested.specs.Law.{HasSuchSides, RunsHaveSuchSides}
use Rattle.law_live_rested.proofs.Sides.{begun_such}
use Rattle.law_live_rested.proofs.Controllers as by_controller
use Rattle.law_live_rested.proofs.Switches as by_switch

abbrev AllHave : World → Type 0
AllHave w = Every HasSuchSides w.sites

-- *An actor acts*
controller_has : (w : World) (o : Option Site) (act : Acted → Acted) → ((a : Acted) → by_controller.HasSide a → by_controller.HasSide (act a))
    → ((site : Site) → o ≡ Some site → HasSuchSides site) → AllHave w → AllHave (controller_acts w o act)
controller_has w None act keeps is h = h
controller_has w (Some site) act keeps is h =
    let a : Acted = record { controller = site.controller; notes = w.notes; numbers = w.numbers } in
    put_every site_key HasSuchSides (record site { controller = (act a).controller }) w.sites
    (record { controller = keeps a (is site refl).controller; switch = (is site refl).switch }) h

switch_has : (w : World) (o : Option Site) (act : switches.ActedSwitch → switches.ActedSwitch) → ((a : switches.ActedSwitch) → by_switch.HasSide a → by_switch.HasSide (act a))
    → ((site : Site) → o ≡ Some site → HasSuchSides site) → AllHave w → AllHave (switch_acts w o act)
switch_has w None act keeps is h = h
switch_has w (Some site) act keeps is h =
    let a : switches.ActedSwitch = record { switch = site.switch; notes = w.notes; numbers = w.numbers } in
    put_every site_key HasSuchSides (record site { switch = (act a).switch }) w.sites
    (record { controller = (is site refl).controller; switch = keeps a (is site refl).switch }) h

queue_has : (w : World) (place : Place) (cells : List Cell) (o : Option Site) → ((site : Site) → o ≡ Some site → HasSuchSides site) → AllHave w → AllHave (with_queue_of w place cells o)
queue_has w place cells None is h = h
queue_has w place cells (Some site) is h = put_every site_key HasSuchSides (with_queue_in site place cells) w.sites (kept place (is site refl)) h
  where
    kept : (p : Place) → HasSuchSides site → HasSuchSides (with_queue_in site p cells)
    kept (Down node) s = record { controller = s.controller; switch = s.switch }
    kept (Up node) s = record { controller = s.controller; switch = s.switch }
    kept (Out node port) s = record { controller = s.controller; switch = s.switch }

module _ (t : Topology) where
  module _ (w : World) (h : AllHave w) where
    found : (node : NodeId) (site : Site) → site_at w node ≡ Some site → HasSuchSides site
    found node site e = at_every site_key HasSuchSides node.0 w.sites site h e

    by_rule : (node : NodeId) (act : Acted → Acted) → ((a : Acted) → by_controller.HasSide a → by_controller.HasSide (act a)) → AllHave (at_controller w node act)
    by_rule node act keeps = controller_has w (site_at w node) act keeps (found node) h

    by_conduct : (node : NodeId) (act : switches.ActedSwitch → switches.ActedSwitch) → ((a : switches.ActedSwitch) → by_switch.HasSide a → by_switch.HasSide (act a)) → AllHave (at_switch w node act)
    by_conduct node act keeps = switch_has w (site_at w node) act keeps (found node) h

    queued : (place : Place) (cells : List Cell) → AllHave (with_queue w place cells)
    queued place cells = queue_has w place cells (site_at w (place_node place)) (found (place_node place)) h

    arrive : (place : Place) (cell : Cell) → AllHave (arrives t w place cell)
    arrive (Down node) cell = by_conduct node (λ a. switch.cell_comes a control_port cell) (λ a s. by_switch.cell_has a control_port cell s)
    arrive (Up node) cell = by_rule node (λ a. controller.cell_comes a cell) (λ a s. by_controller.cell_has a cell s)
    arrive (Out node port) cell = by (peer_of t node port)
      where
        by : (o : Option LinkEnd) → AllHave (arrives_at w cell o)
        by None = h
        by (Some far) = by_conduct far.node (λ a. switch.cell_comes a far.port cell) (λ a s. by_switch.cell_has a far.port cell s)

    forge : (place : Place) (channel : Channel) (mark : Mark) (payload : List ℕ) → AllHave (forges_at w place channel mark payload)
    forge (Down node) channel mark payload = by_rule node (λ a. sends a channel mark payload) (λ a s. by_controller.sends_has a channel mark payload s)
    forge (Up node) channel mark payload = by_conduct node (λ a. switch.forged a control_port channel mark payload) (λ a s. by_switch.sends_has a control_port channel mark payload s)
    forge (Out node port) channel mark payload = by_conduct node (λ a. switch.forged a port channel mark payload) (λ a s. by_switch.sends_has a port channel mark payload s)

  -- *Each event*
  module _ (w : World) (h : AllHave w) where
    injected_so : (node : NodeId) (octets : List ℕ) (o : Option Refusal) → AllHave (injects_by (record w { sent = w.sent + 1 }) node octets o)
    injected_so node octets (Some name) = h
    injected_so node octets None = by_rule (record w { sent = w.sent + 1 }) h node (λ a. injected a (w.sent + 1) octets) (λ a s. by_controller.injected_has a (w.sent + 1) octets s)

    carried_so : (place : Place) (cells : List Cell) → AllHave (carries_head t w place cells)
    carried_so place [] = h
    carried_so place (cell ∷ cells) = arrive (with_queue w place cells) (queued w h place cells) place cell

    lost_so : (place : Place) (cells : List Cell) → AllHave (loses_head w place cells)
    lost_so place [] = h
    lost_so place (cell ∷ cells) = queued w h place cells

    pub event_so : (event : Event) → AllHave (acts t w event)
    event_so (Inject node octets) = injected_so node octets (inject_refusal octets)
    event_so (Carry place) = carried_so place (queue_at w place)
    event_so (Lose place) = lost_so place (queue_at w place)
    event_so (Tick node) = by_rule w h node ticks by_controller.ticks_has
    event_so (TickSwitch node) = by_conduct w h node tick_comes by_switch.tick_has
    event_so (Restart node) = by_rule w h node node_restarts by_controller.restarts_has
    event_so (RestartSwitch node) = by_conduct w h node restarted (λ a s. by_switch.restarted_has a)
    event_so (Forge place channel payload) = forge (record (note w (Forged place)) { numbers = with_control w.numbers }) h place channel (next_control w.numbers) payload
    event_so (Route node change) = by_rule w h node (λ a. change_comes a change) (λ a s. by_controller.change_has a change s)

  events_so : (events : List Event) (w : World) → AllHave w → AllHave (world_after t w events)
  events_so [] w h = h
  events_so (event ∷ events) w h = events_so events (next t w event) (event_so (put_away w) h event)

-- *At the opening* each begins anew
opened_so : (policy : Policy) (t : Topology) (nodes : List Node) (w : World) (place : ℕ) → AllHave w → AllHave (opens_each policy t w place nodes)
opened_so policy t [] w place h = h
opened_so policy t (node ∷ nodes) w place h = opened_so policy t nodes (with_opened policy t w place node) (suc place)
    (every_more HasSuchSides w.sites (opened_site policy t (record { 0 = place }) node w.numbers) h (record { controller = begun_such _; switch = begun_such _ }))

pub runs_have_such_sides : RunsHaveSuchSides
runs_have_such_sides policy topology events node site found =
    at_every site_key HasSuchSides node.0 (world_after topology (opened policy topology) events).sites site
    (events_so topology events (opened policy topology) (opened_so policy topology topology.nodes empty_world 1 tt)) found
