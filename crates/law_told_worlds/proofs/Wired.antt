-- each binding that an event notes is of a label that was being wired

use Rattle.std.proofs.Common.{◌≡◌, ℕ, Bool, true, false, List, [], ◌∷◌, Option, None, Some, refl, sym, subst, arith, inl}
use Rattle.std.specs.Prelude.{Contains, ◌+◌, ◌&&◌}
use Rattle.std.specs.Option.{option_map, option_map_or, option_and_then}
use Rattle.world_model.specs.Words.{NodeId, PortNo, Place, Down, Up, Out, is_label_number, Cell, FlowId, Record, Bind, Loss, Lost, Refusal, Policy, label_number, Session, Controller, Linked, linked_at, node_restarts, change_comes, injected, inject_refusal, control_port, Topology, IsTopology, IsEvent, World, Site, site_at, with_site, controller_acts, switch_acts, queue_at, queue_in, place_node, with_queue, with_queue_of, with_queue_in, arrives_at, carries_head, loses_head, injects_by, next, put_away, past_of, IsSpareOrWired, IsWired as IsWiredLabel, Way, IsWay, IsUnused, IsTame}
use Rattle.law_frame_readings.specs.ordered_lists.Ordered.{Every}
use Rattle.law_frame_readings.proofs.ordered_lists.Every.{every_map}
use Rattle.law_frame_readings.proofs.law_port_facts.Keyed.{every_more, at_every, at_key}
use Rattle.law_frame_readings.specs.law_port_facts.Port.{IsPort, IsLabel}
use Rattle.world_model.specs.Controller.{Acted}
use Rattle.world_model.specs.Cells.{cell_comes}
use Rattle.world_model.specs.Ticks.{ticks}
use Rattle.law_frame_readings.proofs.law_controller_facts.Moves.{found_port}
use Rattle.world_model.specs.Switch as switches
use Rattle.world_model.specs.Conduct as switch
use Rattle.world_model.specs.network_model.declared.link.LinkEnd.{LinkEnd}
use Rattle.world_model.specs.network_model.declared.event.Event.{Event}
use Rattle.world_model.specs.network_model.declared.event.Event.TheVariants.{Inject, Carry, Lose, Tick, TickSwitch, Restart, RestartSwitch, Forge, Route}
use Rattle.world_model.specs.Topology.{peer_of}
use Rattle.world_model.specs.World.{at_controller}
use Rattle.world_model.specs.Step.{acts}
use Rattle.law_frame_readings.specs.law_world_views.Made.{IsFit}
use Rattle.law_frame_readings.specs.law_world_views.Between.{IsWorld}
use Rattle.law_frame_readings.specs.law_world_views.Kept.{Comes, behind}
use Rattle.law_frame_readings.specs.law_world_views.Ready.{setups_of}
use Rattle.law_frame_readings.specs.law_world_views.Shown.{acting}
use Rattle.law_frame_readings.specs.Reading.{FramesAreRead}
use Rattle.law_running_worlds.proofs.law_input_events.Sites.{put_at}
use Rattle.law_run_facts.proofs.Forged.{none_forged}
use Rattle.law_run_facts.specs.Nodes.{RunsHaveNodes, IsNodeOfRun}
use Rattle.law_run_facts.specs.Steps.{EventsAreSteps, RunsHaveFronts}
use Rattle.law_running_worlds.specs.Running.{TameEventsAreTrue}
use Rattle.law_packet_worlds.proofs.law_way_words.Switching.{BindsNone, Waits, waits_kept, comes, tick_kept, restarted_kept}
use Rattle.law_port_words.specs.Words.{IsNoted, IsSteadily}
use Rattle.law_unused_labels.specs.Unused.{HasOwnChannels, SpareLabelsAreUnused}
use Rattle.law_unused_labels.proofs.Seen.{every_contained}
use Rattle.law_told_worlds.specs.Before.{end_at, IsWiringAt, quiet_terms}
use Rattle.law_told_worlds.specs.Bound.{BindsAreWired, BoundLabelsAreUnused}
use Rattle.law_told_worlds.proofs.Bound.{IsWired, cleared, binds_none, noted_wired, ticks_so, restarts_so, changes_so, injects_so, CellSo, on_gsmp, elsewhere, cell_so}

-- *A switch* binds nothing
module _ (a : switches.ActedSwitch) (none : Every BindsNone a.notes.records) where
  waiting : Waits a a
  waiting = record { queues = λ q c has. inl has; records = none }

  tick_none : Every BindsNone (switch.tick_comes a).notes.records
  tick_none = (tick_kept (Waits a) (waits_kept a) a waiting).records

  restart_none : Every BindsNone (switch.restarted a).notes.records
  restart_none = (restarted_kept (Waits a) (waits_kept a) a waiting).records

switch_none : (act : switches.ActedSwitch → switches.ActedSwitch) → ((a : switches.ActedSwitch) → Every BindsNone a.notes.records → Every BindsNone (act a).notes.records) → (u : World) (o : Option Site)
    → Every BindsNone u.notes.records → Every BindsNone (switch_acts u o act).notes.records
switch_none act keeps u None none = none
switch_none act keeps u (Some site) none = keeps (record { switch = site.switch; notes = u.notes; numbers = u.numbers }) none

queue_none : (u : World) (place : Place) (cells : List Cell) (o : Option Site) → Every BindsNone u.notes.records → Every BindsNone (with_queue_of u place cells o).notes.records
queue_none u place cells None none = none
queue_none u place cells (Some site) none = none

all_wired : (w : World) (records : List Record) → Every BindsNone records → Every (IsWired w) records
all_wired w records none = every_map BindsNone (IsWired w) records (binds_none w) none

module _ (nodes : RunsHaveNodes) (fronts : RunsHaveFronts) (steps : EventsAreSteps) (read : FramesAreRead) (chains : TameEventsAreTrue)
    (policy : Policy) (topology : Topology) (before : List Event) (event : Event) (coming : Comes policy topology before event) (world : IsWorld (past_of policy topology before)) where
  abbrev w : World
  w = (past_of policy topology before).now

  abbrev v : World
  v = put_away w

  is_topology : IsTopology topology
  is_topology = coming.run.topology_is

  pub then_is : (behind policy topology before event).now ≡ next topology w event
  then_is = (steps policy topology before event).now

  pub tame : IsTame (next topology w event).notes.records
  tame = subst (λ (x : World). IsTame x.notes.records) then_is (fronts policy topology before event coming).new_tame

  pub node_of : (node : NodeId) (site : Site) → site_at w node ≡ Some site → IsNodeOfRun policy (past_of policy topology before) node site
  node_of node site found = nodes policy topology before coming.addresses (fronts policy topology before event coming).run node site found

  quiet_all : (node : NodeId) (site : Site) (a : Acted) → IsSteadily (quiet_terms (past_of policy topology before) node site.controller.address) a → Every (IsWired w) a.notes.records
  quiet_all node site a h = every_map (IsNoted (quiet_terms (past_of policy topology before) node site.controller.address)) (IsWired w) a.notes.records
      (noted_wired (quiet_terms (past_of policy topology before) node site.controller.address) w (λ port label flow none. absurd none)) h.records

  controller_all : (act : Acted → Acted) (node : NodeId) → ((site : Site) → site_at w node ≡ Some site → Every (IsWired w) (act (acting v site)).notes.records) → (sent : ℕ) (o : Option Site) → site_at w node ≡ o
      → Every (IsWired w) (controller_acts (record v { sent = sent }) o act).notes.records
  controller_all act node all sent None e = tt
  controller_all act node all sent (Some site) e = all site e

  carried : (place : Place) → event ≡ Carry place → (cells : List Cell) → queue_at w place ≡ cells → Every (IsWired w) (carries_head topology v place cells).notes.records
  carried place is [] queue = tt
  carried (Down node) is (cell ∷ cells) queue = all_wired w _ (switch_none (λ a. switch.cell_comes a control_port cell) (λ a none. (comes a control_port cell none).records) (with_queue v (Down node) cells) (site_at (with_queue v (Down node) cells) node)
      (queue_none v (Down node) cells (site_at v node) tt))
  carried (Out node port) is (cell ∷ cells) queue = by (peer_of topology node port)
    where
      by : (o : Option LinkEnd) → Every (IsWired w) (arrives_at (with_queue v (Out node port) cells) cell o).notes.records
      by None = all_wired w _ (queue_none v (Out node port) cells (site_at v node) tt)
      by (Some far) = all_wired w _ (switch_none (λ a. switch.cell_comes a far.port cell) (λ a none. (comes a far.port cell none).records) (with_queue v (Out node port) cells) (site_at (with_queue v (Out node port) cells) far.node)
          (queue_none v (Out node port) cells (site_at v node) tt))
  carried (Up node) is (cell ∷ cells) queue = by (site_at w node) refl
    where
      so : (site : Site) → site_at w node ≡ Some site → Every (IsWired w) (cell_comes (acting v site) cell).notes.records
      so site found = by_cell (cell_so policy topology before is_topology world node site found (node_of node site found) read
          (chains policy topology before (Carry (Up node)) (subst (λ (x : Event). IsTame (next topology w x).notes.records) is tame)) cell cells queue)
        where
          by_cell : CellSo policy topology before is_topology world node site found (node_of node site found) read
              (chains policy topology before (Carry (Up node)) (subst (λ (x : Event). IsTame (next topology w x).notes.records) is tame)) cell cells queue → Every (IsWired w) (cell_comes (acting v site) cell).notes.records
          by_cell (on_gsmp h) = every_map (IsNoted (cleared policy topology before is_topology world node site found (node_of node site found))) (IsWired w) (cell_comes (acting v site) cell).notes.records
              (noted_wired (cleared policy topology before is_topology world node site found (node_of node site found)) w (λ port label flow wiring. wiring)) h.records
          by_cell (elsewhere h) = quiet_all node site (cell_comes (acting v site) cell) h

      by : (o : Option Site) → site_at w node ≡ o → Every (IsWired w) (at_controller (with_queue_of v (Up node) cells o) node (λ a. cell_comes a cell)).notes.records
      by None e = absurd (empty (subst (λ (o : Option Site). option_map_or (λ site. queue_in site (Up node)) o [] ≡ cell ∷ cells) e queue))
        where
          empty : [] ≡ cell ∷ cells → ⊥
          empty f = cc f
      by (Some site) e = subst (λ (o : Option Site). Every (IsWired w) (controller_acts (with_site v (with_queue_in site (Up node) cells)) o (λ a. cell_comes a cell)).notes.records)
          (sym (put_at v node site (with_queue_in site (Up node) cells) e refl).0) (so site e)

  lost : (place : Place) (cells : List Cell) → Every (IsWired w) (loses_head v place cells).notes.records
  lost place [] = tt
  lost place (cell ∷ cells) = every_more (IsWired w) (with_queue v place cells).notes.records (Loss cell.mark Lost) (all_wired w _ (queue_none v place cells (site_at v (place_node place)) tt)) tt

  -- a packet that is accepted may be in the network
  pub fit : (node : NodeId) (octets : List ℕ) → event ≡ Inject node octets → inject_refusal octets ≡ None → IsFit octets
  fit node octets is accepted = record { accepted = accepted; octets = (subst (IsEvent topology w) is (fronts policy topology before event coming).can.meant).1 }

  injected_so : (node : NodeId) (octets : List ℕ) → event ≡ Inject node octets → (o : Option Refusal) → inject_refusal octets ≡ o → Every (IsWired w) (injects_by (record v { sent = w.sent + 1 }) node octets o).notes.records
  injected_so node octets is (Some name) refused = (tt, tt)
  injected_so node octets is None accepted = controller_all (λ a. injected a (w.sent + 1) octets) node
      (λ site found. quiet_all node site (injected (acting v site) (w.sent + 1) octets) (injects_so policy topology before is_topology world node site found (node_of node site found) (w.sent + 1) octets (λ e. omega (arith, e)) (fit node octets is accepted))) (w.sent + 1) (site_at w node) refl

  wired_in : (e : Event) → event ≡ e → Every (IsWired w) (acts topology v e).notes.records
  wired_in (Inject node octets) is = injected_so node octets is (inject_refusal octets) refl
  wired_in (Carry place) is = carried place is (queue_at w place) refl
  wired_in (Lose place) is = lost place (queue_at w place)
  wired_in (Tick node) is = controller_all ticks node (λ site found. quiet_all node site (ticks (acting v site)) (ticks_so policy topology before is_topology world node site found (node_of node site found))) w.sent (site_at w node) refl
  wired_in (TickSwitch node) is = all_wired w _ (switch_none switch.tick_comes tick_none v (site_at v node) tt)
  wired_in (Restart node) is = controller_all node_restarts node (λ site found. quiet_all node site (node_restarts (acting v site)) (restarts_so policy topology before is_topology world node site found (node_of node site found))) w.sent (site_at w node) refl
  wired_in (RestartSwitch node) is = all_wired w _ (switch_none switch.restarted restart_none v (site_at v node) tt)
  wired_in (Forge place channel payload) is = absurd (none_forged topology w place channel payload (subst (λ (x : Event). IsTame (next topology w x).notes.records) is tame))
  wired_in (Route node change) is = controller_all (λ a. change_comes a change) node (λ site found. quiet_all node site (change_comes (acting v site) change) (changes_so policy topology before is_topology world node site found (node_of node site found) change)) w.sent (site_at w node) refl

  pub binds_wired : (node : NodeId) (port : PortNo) (label : ℕ) (flow : FlowId) → Contains (behind policy topology before event).now.notes.records (Bind node port label flow) → IsWiringAt w (end_at node port) label flow
  binds_wired node port label flow has = every_contained (IsWired w) (next topology w event).notes.records (Bind node port label flow) (wired_in event refl)
      (subst (λ (x : World). Contains x.notes.records (Bind node port label flow)) then_is has)

  -- *A label that is held* has a number of a label
  label_number_is : (end : LinkEnd) (number : ℕ) (flow : FlowId) → IsWiringAt w end number flow → is_label_number number ≡ true
  label_number_is end number flow wiring = by_site (site_at w end.node) refl wiring.is_open
    where
      first : (a b : Bool) → (a && b) ≡ true → a ≡ true
      first true b e = refl
      first false b e = absurd (cc e)

      by_session : (site : Site) → site_at w end.node ≡ Some site → (linked : Linked) → linked_at site.controller end.port ≡ Some linked → linked.port.session ≡ Some wiring.session → is_label_number number ≡ true
      by_session site found linked at_port session =
          let run = node_of end.node site found in
          let port_is : IsPort (setups_of site.controller) linked.setup linked.port = found_port (setups_of site.controller) (acting w site) linked end.port (record { ports = run.conduct.sound.ports; shaped = run.conduct.sound.requests }) at_port in
          let labels : Every (IsLabel (setups_of site.controller) linked.setup) wiring.session.labels =
          subst (λ (o : Option Session). Every (IsLabel (setups_of site.controller) linked.setup) (option_map_or (λ (s : Session). s.labels) o [])) session port_is.labels in
          subst (λ (n : ℕ). is_label_number n ≡ true) (at_key label_number number wiring.session.labels wiring.label wiring.is_held)
          (first (is_label_number wiring.label.number) _ (at_every label_number (IsLabel (setups_of site.controller) linked.setup) number wiring.session.labels wiring.label labels wiring.is_held).in_range)

      by_linked : (site : Site) → site_at w end.node ≡ Some site → (o : Option Linked) → linked_at site.controller end.port ≡ o → option_and_then (λ (x : Linked). x.port.session) o ≡ Some wiring.session → is_label_number number ≡ true
      by_linked site found None e f = absurd (cc f)
      by_linked site found (Some linked) e f = by_session site found linked e f

      by_site : (o : Option Site) → site_at w end.node ≡ o → option_and_then (λ (x : Linked). x.port.session) (option_and_then (λ (c : Controller). linked_at c end.port) (option_map (λ (x : Site). x.controller) o)) ≡ Some wiring.session
          → is_label_number number ≡ true
      by_site None e f = absurd (cc f)
      by_site (Some site) e f = by_linked site e (linked_at site.controller end.port) refl f

  -- *So nobody uses it*
  pub bound_unused : SpareLabelsAreUnused → ((way : Way) (label : ℕ) → IsWay topology way → HasOwnChannels w way label) → (way : Way) (label : ℕ) (flow : FlowId)
      → Contains (behind policy topology before event).now.notes.records (Bind way.down.node way.down.port label flow) → IsWay topology way → IsUnused w way label
  bound_unused spare own way label flow has on =
      let wiring : IsWiringAt w way.down label flow = binds_wired way.down.node way.down.port label flow has in
      spare (past_of policy topology before) is_topology world way on label (label_number_is way.down label flow wiring) (own way label on) wiring.session wiring.is_open
      (subst IsSpareOrWired (sym wiring.is_held) (subst IsWiredLabel (sym wiring.wiring) tt))

pub binds_are_wired : RunsHaveNodes → RunsHaveFronts → EventsAreSteps → FramesAreRead → TameEventsAreTrue → BindsAreWired
binds_are_wired nodes fronts steps read chains policy topology before event coming world node port label flow has = binds_wired nodes fronts steps read chains policy topology before event coming world node port label flow has

pub bound_are_unused : RunsHaveNodes → RunsHaveFronts → EventsAreSteps → FramesAreRead → TameEventsAreTrue → SpareLabelsAreUnused → BoundLabelsAreUnused
bound_are_unused nodes fronts steps read chains spare policy topology before event coming world own way label flow has on = bound_unused nodes fronts steps read chains policy topology before event coming world spare own way label flow has on
