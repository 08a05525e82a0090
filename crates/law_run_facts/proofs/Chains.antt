-- so it is in every world of every run

use Rattle.std.proofs.Common.{◌≡◌, ℕ, suc, ◌+◌, List, [], ◌∷◌, ◌++◌, Option, None, Some, refl, sym, ap, subst}
use Rattle.std.specs.Option.{option_map, option_map_or}
use Rattle.law_world_pace.specs.world_model.Words.{NodeId, PortNo, Place, Down, Up, Out, Channel, next_control, with_control, Cell, Refusal, Forged, Policy, control_port, Controller, inject_refusal, injected, node_restarts, change_comes, Topology, Node, World, Site, site_key, site_at, controller_acts, switch_acts, opened_site, with_opened, opens_each, empty_world, place_node, queue_at, with_queue_in, with_queue_of, with_queue, injects_by, arrives_at, arrives, carries_head, loses_head, forges_at, forges, put_away, next, world_after, answers_chain_at, requests_chain_at}
use Rattle.law_controller_bindings.specs.ordered_lists.Ordered.{Every}
use Rattle.law_controller_bindings.proofs.ordered_lists.Every.{every_join}
use Rattle.law_controller_bindings.proofs.law_port_facts.Keyed.{at_every, put_every, every_more}
use Rattle.law_world_pace.specs.world_model.Switch as switches
use Rattle.law_world_pace.specs.world_model.Conduct as switch
use Rattle.law_world_pace.specs.world_model.Controller.{Acted}
use Rattle.law_world_pace.specs.world_model.Sending.{sends}
use Rattle.law_world_pace.specs.world_model.Cells as controller
use Rattle.law_world_pace.specs.world_model.Ticks as controller_ticks
use Rattle.law_controller_bindings.specs.law_controller_facts.Inputs.{Input, CellComes, PacketEnters, Ticks, Restarts, ChangeComes, FrameIsForged, enters_unless, takes_input}
use Rattle.law_run_facts.specs.Inputs as turns
use Rattle.law_world_pace.specs.world_model.network_model.declared.event.Event.{Event}
use Rattle.law_world_pace.specs.world_model.network_model.declared.event.Event.TheVariants.{Inject, Carry, Lose, Tick, TickSwitch, Restart, RestartSwitch, Forge, Route}
use Rattle.law_world_pace.specs.world_model.network_model.declared.link.LinkEnd.{LinkEnd}
use Rattle.law_world_pace.specs.world_model.Topology.{peer_of}
use Rattle.law_world_pace.specs.world_model.World.{at_controller, at_switch, opened}
use Rattle.law_world_pace.specs.world_model.Step.{note, acts}
use Rattle.law_run_facts.specs.Chains.{HasOwnChains, RunsHaveOwnChains}
use Rattle.law_run_facts.proofs.Gathering.{IsOwn, input_chain, sends_same, switch_chain}
use Rattle.law_run_facts.proofs.Numbers.{some_of}

-- *A site*
pub record IsOwnSite (site : Site) : Type 0 where
  pub answers : Every IsOwn site.controller.reassembly.chain
  pub requests : Every IsOwn site.switch.reassembly.chain

abbrev AreOwn : World → Type 0
AreOwn w = Every IsOwnSite w.sites

controller_own : (u : World) (here : NodeId) (act : Acted → Acted) (input : Input) → ((a : Acted) → act a ≡ takes_input a input) → AreOwn u → AreOwn (at_controller u here act)
controller_own u here act input is h = by (site_at u here) refl
  where
    by : (o : Option Site) → site_at u here ≡ o → AreOwn (controller_acts u o act)
    by None found = h
    by (Some x) found =
        let a : Acted = record { controller = x.controller; notes = u.notes; numbers = u.numbers } in
        let s : IsOwnSite x = at_every site_key IsOwnSite here.0 u.sites x h found in
        put_every site_key IsOwnSite (record x { controller = (act a).controller }) u.sites
        (record { answers = subst (λ (b : Acted). Every IsOwn b.controller.reassembly.chain) (sym (is a)) (input_chain a input s.answers); requests = s.requests }) h

switch_own : (u : World) (here : NodeId) (act : switches.ActedSwitch → switches.ActedSwitch) → ((a : switches.ActedSwitch) → Every IsOwn a.switch.reassembly.chain → Every IsOwn (act a).switch.reassembly.chain) → AreOwn u → AreOwn (at_switch u here act)
switch_own u here act keeps h = by (site_at u here) refl
  where
    by : (o : Option Site) → site_at u here ≡ o → AreOwn (switch_acts u o act)
    by None found = h
    by (Some x) found =
        let a : switches.ActedSwitch = record { switch = x.switch; notes = u.notes; numbers = u.numbers } in
        let s : IsOwnSite x = at_every site_key IsOwnSite here.0 u.sites x h found in
        put_every site_key IsOwnSite (record x { switch = (act a).switch }) u.sites (record { answers = s.answers; requests = keeps a s.requests }) h

queue_own : (u : World) (place : Place) (cells : List Cell) → AreOwn u → AreOwn (with_queue u place cells)
queue_own u place cells h = by (site_at u (place_node place)) refl
  where
    kept : (x : Site) (p : Place) → IsOwnSite x → IsOwnSite (with_queue_in x p cells)
    kept x (Down node) s = record { answers = s.answers; requests = s.requests }
    kept x (Up node) s = record { answers = s.answers; requests = s.requests }
    kept x (Out node port) s = record { answers = s.answers; requests = s.requests }

    by : (o : Option Site) → site_at u (place_node place) ≡ o → AreOwn (with_queue_of u place cells o)
    by None found = h
    by (Some x) found = put_every site_key IsOwnSite (with_queue_in x place cells) u.sites (kept x place (at_every site_key IsOwnSite (place_node place).0 u.sites x h found)) h

-- *An event*
module _ (t : Topology) (w : World) (h : AreOwn w) where
  cell_to : (u : World) (here : NodeId) (port : PortNo) (cell : Cell) → AreOwn u → AreOwn (at_switch u here (λ a. switch.cell_comes a port cell))
  cell_to u here port cell k = switch_own u here (λ a. switch.cell_comes a port cell) (λ a. switch_chain a (turns.CellComes port cell)) k

  carries_own : (place : Place) (queue : List Cell) → AreOwn (carries_head t w place queue)
  carries_own place [] = h
  carries_own place (cell ∷ cells) = by place
    where
      u : World
      u = with_queue w place cells

      k : AreOwn u
      k = queue_own w place cells h

      far : (o : Option LinkEnd) → AreOwn (arrives_at u cell o)
      far None = k
      far (Some end) = cell_to u end.node end.port cell k

      by : (p : Place) → AreOwn (arrives t u p cell)
      by (Down node) = cell_to u node control_port cell k
      by (Up node) = controller_own u node (λ a. controller.cell_comes a cell) (CellComes cell) (λ a. refl) k
      by (Out node port) = far (peer_of t node port)

  loses_own : (place : Place) (queue : List Cell) → AreOwn (loses_head w place queue)
  loses_own place [] = h
  loses_own place (cell ∷ cells) = queue_own w place cells h

  injects_own : (node : NodeId) (octets : List ℕ) (o : Option Refusal) → inject_refusal octets ≡ o → AreOwn (injects_by (record w { sent = w.sent + 1 }) node octets o)
  injects_own node octets (Some name) e = h
  injects_own node octets None e = controller_own (record w { sent = w.sent + 1 }) node (λ a. injected a (w.sent + 1) octets) (PacketEnters (w.sent + 1) octets) (λ a. ap (enters_unless a (w.sent + 1) octets) (sym e)) h

  forges_own : (place : Place) (channel : Channel) (payload : List ℕ) → AreOwn (forges w place channel payload)
  forges_own place channel payload = by place
    where
      given : World
      given = record (note w (Forged place)) { numbers = with_control w.numbers }

      at_port : (node : NodeId) (port : PortNo) → AreOwn (at_switch given node (λ a. switch.forged a port channel (next_control w.numbers) payload))
      at_port node port = switch_own given node (λ a. switch.forged a port channel (next_control w.numbers) payload)
          (λ a k. subst (λ r. Every IsOwn r.chain) (sym (sends_same a port channel (next_control w.numbers) payload)) k) h

      by : (p : Place) → AreOwn (forges_at given p channel (next_control w.numbers) payload)
      by (Down node) = controller_own given node (λ a. sends a channel (next_control w.numbers) payload) (FrameIsForged channel (next_control w.numbers) payload) (λ a. refl) h
      by (Up node) = at_port node control_port
      by (Out node port) = at_port node port

  acts_own : (event : Event) → AreOwn (acts t w event)
  acts_own (Inject node octets) = injects_own node octets (inject_refusal octets) refl
  acts_own (Carry place) = carries_own place (queue_at w place)
  acts_own (Lose place) = loses_own place (queue_at w place)
  acts_own (Tick node) = controller_own w node controller_ticks.ticks Ticks (λ a. refl) h
  acts_own (TickSwitch node) = switch_own w node switch.tick_comes (λ a. switch_chain a turns.Ticks) h
  acts_own (Restart node) = controller_own w node node_restarts Restarts (λ a. refl) h
  acts_own (RestartSwitch node) = switch_own w node switch.restarted (λ a. switch_chain a turns.Restarts) h
  acts_own (Forge place channel payload) = forges_own place channel payload
  acts_own (Route node change) = controller_own w node (λ a. change_comes a change) (ChangeComes change) (λ a. refl) h

run_own : (t : Topology) (events : List Event) (w : World) → AreOwn w → AreOwn (world_after t w events)
run_own t [] w h = h
run_own t (event ∷ events) w h = run_own t events (next t w event) (acts_own t (put_away w) h event)

opens_own : (policy : Policy) (t : Topology) (nodes : List Node) (w : World) (place : ℕ) → AreOwn w → AreOwn (opens_each policy t w place nodes)
opens_own policy t [] w place h = h
opens_own policy t (node ∷ nodes) w place h = opens_own policy t nodes (with_opened policy t w place node) (suc place)
    (every_more IsOwnSite w.sites (opened_site policy t (record { 0 = place }) node w.numbers) h (record { answers = tt; requests = tt }))

pub own_chains : (w : World) → AreOwn w → HasOwnChains w
own_chains w h node cell c = some_of IsOwn (requests_chain_at w node ++ answers_chain_at w node) cell (every_join IsOwn (requests_chain_at w node) (answers_chain_at w node) (requests (site_at w node) refl) (answers (site_at w node) refl)) c
  where
    requests : (o : Option Site) → site_at w node ≡ o → Every IsOwn (option_map_or (λ (site : Site). site.switch.reassembly.chain) o [])
    requests None e = tt
    requests (Some x) e = (at_every site_key IsOwnSite node.0 w.sites x h e).requests

    answers : (o : Option Site) → site_at w node ≡ o → Every IsOwn (option_map_or (λ (c : Controller). c.reassembly.chain) (option_map (λ (site : Site). site.controller) o) [])
    answers None e = tt
    answers (Some x) e = (at_every site_key IsOwnSite node.0 w.sites x h e).answers

pub runs_have_own_chains : RunsHaveOwnChains
runs_have_own_chains policy topology events = own_chains (world_after topology (opened policy topology) events)
    (run_own topology events (opened policy topology) (opens_own policy topology topology.nodes empty_world 1 tt))
