-- each event makes no frame that disowns a label, and at the opening there is none

use Rattle.std.proofs.Common.{◌≡◌, ℕ, suc, List, [], ◌∷◌, ◌++◌, length, Option, None, Some, refl, sym, subst, arith}
use Rattle.std.specs.Prelude.{Contains, ◌+◌, nat_le}
use Rattle.std.specs.Option.{option_map_or}
use Rattle.world_model.specs.Words.{NodeId, PortNo, Place, Down, Up, Out, next_control, Cell, Routed, routed, Frame, Loss, PoolFull, Refusal, Journal, noted, made, frame_cells, Policy, node_restarts, change_comes, injected, inject_refusal, Switch, control_port, gsmp_channel, Topology, Node, IsTopology, World, Site, site_at, with_site, controller_acts, switch_acts, empty_world, with_opened, opens_each, queue_at, queue_in, place_node, with_queue, with_queue_of, with_queue_in, arrives_at, carries_head, loses_head, injects_by, next, put_away, Past, past_of, IsTame}
use Rattle.world_model.specs.gsmp_wire.declared.message.Message.{Message}
use Rattle.world_model.specs.gsmp_wire.Layout.{octets_of}
use Rattle.world_model.specs.crossbar_model.declared.routed.Routed.TheVariants as routes
use Rattle.world_model.specs.frame_model.Sending.{Sender}
use Rattle.law_frame_readings.specs.ordered_lists.Ordered.{Every}
use Rattle.law_frame_readings.proofs.ordered_lists.Every.{every_map}
use Rattle.law_frame_readings.proofs.law_port_facts.Keyed.{on_both, every_more}
use Rattle.world_model.specs.Controller.{Acted}
use Rattle.world_model.specs.Cells.{cell_comes}
use Rattle.world_model.specs.Ticks.{ticks}
use Rattle.world_model.specs.Switch.{free_slots}
use Rattle.world_model.specs.Switch as switches
use Rattle.world_model.specs.Conduct as switch
use Rattle.world_model.specs.network_model.declared.link.LinkEnd.{LinkEnd}
use Rattle.world_model.specs.network_model.declared.event.Event.{Event}
use Rattle.world_model.specs.network_model.declared.event.Event.TheVariants.{Inject, Carry, Lose, Tick, TickSwitch, Restart, RestartSwitch, Forge, Route}
use Rattle.world_model.specs.Topology.{peer_of}
use Rattle.world_model.specs.World.{at_controller}
use Rattle.world_model.specs.Step.{acts}
use Rattle.law_frame_readings.specs.law_world_views.Between.{IsWorld}
use Rattle.law_frame_readings.specs.law_world_views.Kept.{Comes, behind}
use Rattle.law_frame_readings.specs.law_world_views.Shown.{acting}
use Rattle.law_frame_readings.specs.Reading.{FramesAreRead}
use Rattle.law_running_worlds.proofs.law_input_events.Sites.{put_at}
use Rattle.law_run_facts.proofs.Forged.{none_forged}
use Rattle.law_run_facts.specs.Nodes.{RunsHaveNodes, IsNodeOfRun}
use Rattle.law_run_facts.specs.Steps.{EventsAreSteps, RunsHaveFronts}
use Rattle.law_running_worlds.specs.Running.{TameEventsAreTrue, ChainsAreTrue}
use Rattle.law_packet_worlds.proofs.law_way_words.Switching.{Kept, gsmp_kept, tick_kept, restarted_kept}
use Rattle.law_unused_labels.proofs.Seen.{every_contained}
use Rattle.law_port_words.specs.Words.{IsMade, IsSteadily}
use Rattle.law_told_worlds.specs.Before.{quiet_terms}
use Rattle.law_told_worlds.proofs.Wired.{then_is, tame, node_of, fit}
use Rattle.law_told_worlds.proofs.Bound.{ticks_so, restarts_so, changes_so, injects_so, CellSo, on_gsmp, elsewhere, cell_so}
use Rattle.law_told_worlds.specs.Disowned.{EventsDisownNothing, OpeningsDisownNothing}
use Rattle.law_told_worlds.proofs.Saying.{IsFair, made_fair, says_fair, none_any, all_fair}

-- *A switch* says messages of GSMP alone
abbrev AreFair : switches.ActedSwitch → Type 0
AreFair a = Every IsFair a.notes.frames

fair_kept : Kept AreFair
fair_kept = record {
  alike = λ a b queues notes controls h. subst (λ (n : Journal). Every IsFair n.frames) (sym notes) h;
  noted = λ a item none h. h;
  said = said_fair;
}
  where
    said_fair : (a : switches.ActedSwitch) (message : Message) → AreFair a → AreFair (switch.says a message)
    said_fair a message h = on_both (λ (s : Sender Switch). Every IsFair s.notes.frames) (nat_le (length cells) (free_slots a.switch))
        (record { queues = switch.with_cells a.switch control_port cells; notes = made a.notes (next_control a.numbers) (octets_of message) })
        (record { queues = a.switch; notes = noted (made a.notes (next_control a.numbers) (octets_of message)) (Loss (next_control a.numbers) PoolFull) }) more more
      where
        cells : List Cell
        cells = frame_cells gsmp_channel (next_control a.numbers) (octets_of message)

        frame : Frame
        frame = record { mark = next_control a.numbers; payload = octets_of message }

        more : Every IsFair (a.notes.frames ++ frame ∷ [])
        more = every_more IsFair a.notes.frames frame h (says_fair frame message refl)

comes_fair : (a : switches.ActedSwitch) (port : PortNo) (cell : Cell) → AreFair a → AreFair (switch.cell_comes a port cell)
comes_fair a port cell h = on_both AreFair (switch.is_gsmp port cell.header.channel) (switch.gsmp_cell a cell) (switch.switched_cell a port cell) (gsmp_kept AreFair fair_kept a cell h)
    (passed_fair (routed a.switch.crossbar (free_slots a.switch) port cell))
  where
    passed_fair : (r : Routed) → AreFair (switch.cell_routed a port cell r)
    passed_fair (routes.Out output) = h
    passed_fair routes.Unconnected = h
    passed_fair routes.PoolFull = h

switch_fair : (act : switches.ActedSwitch → switches.ActedSwitch) → ((a : switches.ActedSwitch) → AreFair a → AreFair (act a)) → (u : World) (o : Option Site) → Every IsFair u.notes.frames → Every IsFair (switch_acts u o act).notes.frames
switch_fair act keeps u None h = h
switch_fair act keeps u (Some site) h = keeps (record { switch = site.switch; notes = u.notes; numbers = u.numbers }) h

queue_fair : (u : World) (place : Place) (cells : List Cell) (o : Option Site) → Every IsFair u.notes.frames → Every IsFair (with_queue_of u place cells o).notes.frames
queue_fair u place cells None h = h
queue_fair u place cells (Some site) h = h

module _ (nodes : RunsHaveNodes) (fronts : RunsHaveFronts) (steps : EventsAreSteps) (read : FramesAreRead) (chains : TameEventsAreTrue)
    (policy : Policy) (topology : Topology) (before : List Event) (event : Event) (coming : Comes policy topology before event) (world : IsWorld (past_of policy topology before))
    (old : Every IsFair (past_of policy topology before).now.notes.frames) where
  abbrev past : Past
  past = past_of policy topology before

  abbrev w : World
  w = past.now

  abbrev v : World
  v = put_away w

  is_topology : IsTopology topology
  is_topology = coming.run.topology_is

  is_tame : IsTame (next topology w event).notes.records
  is_tame = tame nodes fronts steps read chains policy topology before event coming world

  at_node : (node : NodeId) (site : Site) → site_at w node ≡ Some site → IsNodeOfRun policy past node site
  at_node = node_of nodes fronts steps read chains policy topology before event coming world

  chains_up : (node : NodeId) → event ≡ Carry (Up node) → ChainsAreTrue w (Carry (Up node))
  chains_up node is = chains policy topology before (Carry (Up node)) (subst (λ (x : Event). IsTame (next topology w x).notes.records) is is_tame)

  -- *A controller* makes what it may
  all_made : (node : NodeId) (site : Site) (frames : List Frame) → Every (IsMade (λ (frame : Frame). Contains w.notes.frames frame) (λ (code : ℕ). ⊥) site.controller.address) frames → Every IsFair frames
  all_made node site frames all = every_map (IsMade (λ (frame : Frame). Contains w.notes.frames frame) (λ (code : ℕ). ⊥) site.controller.address) IsFair frames
      (made_fair (λ (frame : Frame). Contains w.notes.frames frame) site.controller.address (λ frame has. every_contained IsFair w.notes.frames frame old has)) all

  quiet_fair : (node : NodeId) (site : Site) (a : Acted) → IsSteadily (quiet_terms past node site.controller.address) a → Every IsFair a.notes.frames
  quiet_fair node site a h = all_made node site a.notes.frames h.frames

  controller_fair : (act : Acted → Acted) (node : NodeId) → ((site : Site) → site_at w node ≡ Some site → Every IsFair (act (acting v site)).notes.frames) → (sent : ℕ) (o : Option Site) → site_at w node ≡ o
      → Every IsFair (controller_acts (record v { sent = sent }) o act).notes.frames
  controller_fair act node all sent None e = old
  controller_fair act node all sent (Some site) e = all site e

  -- *A cell is carried*
  to_switch : (place : Place) (cell : Cell) (cells : List Cell) (node : NodeId) (port : PortNo)
      → Every IsFair (switch_acts (with_queue v place cells) (site_at (with_queue v place cells) node) (λ a. switch.cell_comes a port cell)).notes.frames
  to_switch place cell cells node port = switch_fair (λ a. switch.cell_comes a port cell) (λ a h. comes_fair a port cell h) (with_queue v place cells) (site_at (with_queue v place cells) node)
      (queue_fair v place cells (site_at v (place_node place)) old)

  to_controller : (node : NodeId) (cell : Cell) (cells : List Cell) → event ≡ Carry (Up node) → queue_at w (Up node) ≡ cell ∷ cells → (o : Option Site) → site_at w node ≡ o
      → Every IsFair (at_controller (with_queue_of v (Up node) cells o) node (λ a. cell_comes a cell)).notes.frames
  to_controller node cell cells is queue None e = absurd (empty (subst (λ (o : Option Site). option_map_or (λ site. queue_in site (Up node)) o [] ≡ cell ∷ cells) e queue))
    where
      empty : [] ≡ cell ∷ cells → ⊥
      empty f = cc f
  to_controller node cell cells is queue (Some site) e = subst (λ (o : Option Site). Every IsFair (controller_acts (with_site v (with_queue_in site (Up node) cells)) o (λ a. cell_comes a cell)).notes.frames)
      (sym (put_at v node site (with_queue_in site (Up node) cells) e refl).0) (by (cell_so policy topology before is_topology world node site e (at_node node site e) read (chains_up node is) cell cells queue))
    where
      by : CellSo policy topology before is_topology world node site e (at_node node site e) read (chains_up node is) cell cells queue → Every IsFair (cell_comes (acting v site) cell).notes.frames
      by (on_gsmp h) = all_made node site (cell_comes (acting v site) cell).notes.frames h.frames
      by (elsewhere h) = quiet_fair node site (cell_comes (acting v site) cell) h

  carried : (place : Place) → event ≡ Carry place → (cells : List Cell) → queue_at w place ≡ cells → Every IsFair (carries_head topology v place cells).notes.frames
  carried place is [] queue = old
  carried (Down node) is (cell ∷ cells) queue = to_switch (Down node) cell cells node control_port
  carried (Up node) is (cell ∷ cells) queue = to_controller node cell cells is queue (site_at w node) refl
  carried (Out node port) is (cell ∷ cells) queue = by (peer_of topology node port)
    where
      by : (o : Option LinkEnd) → Every IsFair (arrives_at (with_queue v (Out node port) cells) cell o).notes.frames
      by None = queue_fair v (Out node port) cells (site_at v node) old
      by (Some far) = to_switch (Out node port) cell cells far.node far.port

  lost : (place : Place) (cells : List Cell) → Every IsFair (loses_head v place cells).notes.frames
  lost place [] = old
  lost place (cell ∷ cells) = queue_fair v place cells (site_at v (place_node place)) old

  entered : (node : NodeId) (octets : List ℕ) → event ≡ Inject node octets → (o : Option Refusal) → inject_refusal octets ≡ o → Every IsFair (injects_by (record v { sent = w.sent + 1 }) node octets o).notes.frames
  entered node octets is (Some name) refused = old
  entered node octets is None accepted = controller_fair (λ a. injected a (w.sent + 1) octets) node
      (λ site found. quiet_fair node site (injected (acting v site) (w.sent + 1) octets) (injects_so policy topology before is_topology world node site found (at_node node site found) (w.sent + 1) octets (λ e. omega (arith, e))
      (fit nodes fronts steps read chains policy topology before event coming world node octets is accepted))) (w.sent + 1) (site_at w node) refl

  -- *Each event*
  fair_in : (e : Event) → event ≡ e → Every IsFair (acts topology v e).notes.frames
  fair_in (Inject node octets) is = entered node octets is (inject_refusal octets) refl
  fair_in (Carry place) is = carried place is (queue_at w place) refl
  fair_in (Lose place) is = lost place (queue_at w place)
  fair_in (Tick node) is = controller_fair ticks node (λ site found. quiet_fair node site (ticks (acting v site)) (ticks_so policy topology before is_topology world node site found (at_node node site found))) w.sent (site_at w node) refl
  fair_in (TickSwitch node) is = switch_fair switch.tick_comes (tick_kept AreFair fair_kept) v (site_at v node) old
  fair_in (Restart node) is = controller_fair node_restarts node (λ site found. quiet_fair node site (node_restarts (acting v site)) (restarts_so policy topology before is_topology world node site found (at_node node site found))) w.sent (site_at w node) refl
  fair_in (RestartSwitch node) is = switch_fair switch.restarted (restarted_kept AreFair fair_kept) v (site_at v node) old
  fair_in (Forge place channel payload) is = absurd (none_forged topology w place channel payload (subst (λ (x : Event). IsTame (next topology w x).notes.records) is is_tame))
  fair_in (Route node change) is = controller_fair (λ a. change_comes a change) node (λ site found. quiet_fair node site (change_comes (acting v site) change) (changes_so policy topology before is_topology world node site found (at_node node site found) change)) w.sent (site_at w node) refl

  fair_then : Every IsFair (behind policy topology before event).now.notes.frames
  fair_then = subst (λ (x : World). Every IsFair x.notes.frames) (sym (then_is nodes fronts steps read chains policy topology before event coming world)) (fair_in event refl)

pub events_disown_nothing : RunsHaveNodes → RunsHaveFronts → EventsAreSteps → FramesAreRead → TameEventsAreTrue → EventsDisownNothing
events_disown_nothing nodes fronts steps read chains policy topology before event coming world none = none_any (behind policy topology before event).now.notes.frames
    (fair_then nodes fronts steps read chains policy topology before event coming world (all_fair (past_of policy topology before).now.notes.frames none))

-- *At the opening* no frame was made
no_frames : (policy : Policy) (topology : Topology) (u : World) (place : ℕ) (nodes : List Node) → Every IsFair u.notes.frames → Every IsFair (opens_each policy topology u place nodes).notes.frames
no_frames policy topology u place [] h = h
no_frames policy topology u place (node ∷ nodes) h = no_frames policy topology (with_opened policy topology u place node) (suc place) nodes h

pub openings_disown_nothing : OpeningsDisownNothing
openings_disown_nothing policy topology is addresses = none_any (past_of policy topology []).now.notes.frames (no_frames policy topology empty_world 1 topology.nodes tt)
