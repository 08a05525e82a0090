-- a network behind each event

use Rattle.std.proofs.Common.{◌≡◌, ℕ, zero, true, false, List, [], ◌∷◌, Option, None, Some, refl, sym, ◌∙◌, ap, subst, arith, inl}
use Rattle.std.specs.Prelude.{Contains, ◌+◌}
use Rattle.std.specs.Option.{option_map_or}
use Rattle.world_model.specs.Words.{NodeId, PortNo, Place, Down, Up, Out, Channel, Cell, queue_of, Refusal, Policy, default_channel, default_home, same_channel, node_restarts, change_comes, injected, inject_refusal, control_port, Topology, IsTopology, World, Tally, Site, site_at, with_site, controller_acts, switch_acts, queue_at, queue_in, place_node, with_queue, with_queue_of, with_queue_in, arrives_at, carries_head, loses_head, injects_by, next, put_away, Past, past_of, IsTame, Linked}
use Rattle.world_model.specs.crossbar_model.Crossbar.{output_of, input_of}
use Rattle.law_frame_readings.specs.ordered_lists.Ordered.{Every}
use Rattle.world_model.specs.Controller.{Acted}
use Rattle.world_model.specs.Cells.{cell_comes}
use Rattle.world_model.specs.Ticks.{ticks}
use Rattle.law_frame_readings.proofs.law_shown_cells.Frames.{same_self}
use Rattle.world_model.specs.Switch as switches
use Rattle.world_model.specs.Conduct as switch
use Rattle.world_model.specs.network_model.declared.link.LinkEnd.{LinkEnd}
use Rattle.world_model.specs.network_model.declared.event.Event.{Event}
use Rattle.world_model.specs.network_model.declared.event.Event.TheVariants.{Inject, Carry, Lose, Tick, TickSwitch, Restart, RestartSwitch, Forge, Route}
use Rattle.world_model.specs.Topology.{peer_of}
use Rattle.world_model.specs.World.{at_controller, at_switch}
use Rattle.world_model.specs.Step.{acts}
use Rattle.law_frame_readings.specs.law_world_views.Between.{IsWorld}
use Rattle.law_frame_readings.specs.law_world_views.Kept.{Comes, behind}
use Rattle.law_frame_readings.specs.law_world_views.Ready.{setups_of}
use Rattle.law_frame_readings.specs.law_world_views.Shown.{acting}
use Rattle.law_running_worlds.proofs.law_causes.Shown.{IsPeer, peer_back}
use Rattle.law_frame_readings.specs.Reading.{FramesAreRead}
use Rattle.law_run_facts.proofs.Forged.{none_forged}
use Rattle.law_run_facts.specs.Nodes.{RunsHaveNodes, IsNodeOfRun}
use Rattle.law_run_facts.specs.Steps.{EventsAreSteps, RunsHaveFronts}
use Rattle.law_running_worlds.specs.Running.{TameEventsAreTrue}
use Rattle.law_packet_worlds.proofs.law_way_words.Switching.{BindsNone, IsPassed, of_gsmp, crossed, Waits, waits_kept, comes, tick_kept, restarted_kept}
use Rattle.law_packet_worlds.proofs.law_way_words.Switching as switching
use Rattle.law_running_worlds.proofs.law_input_events.Sites.{put_at}
use Rattle.law_port_words.specs.Words.{IsSteadily}
use Rattle.law_told_worlds.proofs.Wired.{then_is, tame, node_of, fit}
use Rattle.law_told_worlds.proofs.Bound.{ticks_so, restarts_so, changes_so, injects_so, CellSo, on_gsmp, elsewhere, cell_so}
use Rattle.law_told_worlds.proofs.Ways.{OnWay, in_chain, in_up, in_out, in_down, Less, popped_less}
use Rattle.law_told_worlds.proofs.Behind.{event_terms, EndSo, still, acted, CellSo as CellBehind, was, sent, IsBehind, less_behind, controller_behind}
use Rattle.law_told_worlds.proofs.Switched.{waiting_behind, passed_behind}
use Rattle.law_run_facts.proofs.law_controller_bindings.Lasts.{some_same}

-- the count of events and the tally are no part of it
counted : (past : Past) (x : World) (events : ℕ) (tally : Tally) → IsBehind past x → IsBehind past (record x { events = events; tally = tally })
counted past x events tally h = record { ends = λ end linked e. ends end linked (h.ends end linked e); cells = λ from to peer on c way. cells from to c (h.cells from to peer on c (back from to c way)) }
  where
    ends : (end : LinkEnd) (linked : Linked) → EndSo past x end linked → EndSo past (record x { events = events; tally = tally }) end linked
    ends end linked (still e) = still e
    ends end linked (acted gsmp k steady port) = acted gsmp (record { site = k.site; found = k.found; noted = k.noted }) steady port

    back : (from to : LinkEnd) (c : Cell) → OnWay (record x { events = events; tally = tally }) from to c → OnWay x from to c
    back from to c (in_chain has) = in_chain has
    back from to c (in_up has e) = in_up has e
    back from to c (in_out has e) = in_out has e
    back from to c (in_down has e) = in_down has e

    cells : (from to : LinkEnd) (c : Cell) → CellBehind past x from to c → CellBehind past (record x { events = events; tally = tally }) from to c
    cells from to c (was d way mark) = was d way mark
    cells from to c (sent gsmp k s on) = sent gsmp (record { site = k.site; found = k.found; noted = k.noted }) s on

module _ (nodes : RunsHaveNodes) (fronts : RunsHaveFronts) (steps : EventsAreSteps) (read : FramesAreRead) (chains : TameEventsAreTrue)
    (policy : Policy) (topology : Topology) (before : List Event) (event : Event) (coming : Comes policy topology before event) (world : IsWorld (past_of policy topology before)) where
  abbrev past : Past
  past = past_of policy topology before

  abbrev w : World
  w = past.now

  abbrev v : World
  v = put_away w

  is_topology : IsTopology topology
  is_topology = coming.run.topology_is

  is_tame : IsTame (next topology w event).notes.records
  is_tame = tame nodes fronts steps read chains policy topology before event coming world

  at_node : (node : NodeId) (site : Site) → site_at w node ≡ Some site → IsNodeOfRun policy past node site
  at_node = node_of nodes fronts steps read chains policy topology before event coming world

  still_less : (number : ℕ) → Less w (record v { sent = number })
  still_less number = record { queues = λ place c has. has; ends = λ end. refl }

  controlled : (act : Acted → Acted) (node : NodeId) (number : ℕ) → ((site : Site) (found : site_at w node ≡ Some site) → IsBehind past (controller_acts (record v { sent = number }) (Some site) act))
      → (o : Option Site) → site_at w node ≡ o → IsBehind past (controller_acts (record v { sent = number }) o act)
  controlled act node number so None e = less_behind past (record v { sent = number }) (still_less number)
  controlled act node number so (Some site) e = so site e

  -- *A switch ticks or restarts*
  waited : (act : switches.ActedSwitch → switches.ActedSwitch) → ((a : switches.ActedSwitch) → Every BindsNone a.notes.records → Waits a (act a)) → (node : NodeId) (o : Option Site) → site_at w node ≡ o → IsBehind past (switch_acts v o act)
  waited act waits node None e = less_behind past v (still_less w.sent)
  waited act waits node (Some site) e = waiting_behind past v (still_less w.sent) node site e (act (record { switch = site.switch; notes = v.notes; numbers = v.numbers }))
      (waits (record { switch = site.switch; notes = v.notes; numbers = v.numbers }) tt).queues

  -- *A cell is carried*
  queue_site : (place : Place) (cell : Cell) (cells : List Cell) → queue_at w place ≡ cell ∷ cells → (P : Type 0) → ((site : Site) → site_at w (place_node place) ≡ Some site → P) → P
  queue_site place cell cells queue P so = by (site_at w (place_node place)) refl
    where
      empty : [] ≡ cell ∷ cells → ⊥
      empty f = cc f

      by : (o : Option Site) → site_at w (place_node place) ≡ o → P
      by None e = absurd (empty (subst (λ (o : Option Site). option_map_or (λ site. queue_in site place) o [] ≡ cell ∷ cells) e queue))
      by (Some site) e = so site e

  -- its queue is put without it
  with_queue_is : (place : Place) (cells : List Cell) (site : Site) → site_at w (place_node place) ≡ Some site → with_queue v place cells ≡ with_site v (with_queue_in site place cells)
  with_queue_is place cells site found = ap (λ (o : Option Site). with_queue_of v place cells o) found

  from_up : (node : NodeId) (cell : Cell) (cells : List Cell) → event ≡ Carry (Up node) → queue_at w (Up node) ≡ cell ∷ cells → (site : Site) → site_at w node ≡ Some site
      → IsBehind past (at_controller (with_queue v (Up node) cells) node (λ a. cell_comes a cell))
  from_up node cell cells is queue site found =
      subst (λ (x : World). IsBehind past (at_controller x node (λ a. cell_comes a cell))) (sym (with_queue_is (Up node) cells site found))
      (there_is ((put_at v node site (with_queue_in site (Up node) cells) found refl).0))
    where
      as_acted : CellSo policy topology before is_topology world node site found (at_node node site found) read
          (chains policy topology before (Carry (Up node)) (subst (λ (x : Event). IsTame (next topology w x).notes.records) is is_tame)) cell cells queue
          → site_at (with_site v (with_queue_in site (Up node) cells)) node ≡ Some (with_queue_in site (Up node) cells)
          → IsBehind past (controller_acts (with_site v (with_queue_in site (Up node) cells)) (Some (with_queue_in site (Up node) cells)) (λ a. cell_comes a cell))
      as_acted (on_gsmp h) put = controller_behind past (with_site v (with_queue_in site (Up node) cells)) (popped_less w (Up node) cell cells site found queue) node site (with_queue_in site (Up node) cells) found put true (cell_comes (acting v site) cell) h
      as_acted (elsewhere h) put = controller_behind past (with_site v (with_queue_in site (Up node) cells)) (popped_less w (Up node) cell cells site found queue) node site (with_queue_in site (Up node) cells) found put false (cell_comes (acting v site) cell) h

      there_is : site_at (with_site v (with_queue_in site (Up node) cells)) node ≡ Some (with_queue_in site (Up node) cells) → IsBehind past (at_controller (with_site v (with_queue_in site (Up node) cells)) node (λ a. cell_comes a cell))
      there_is e = subst (λ (o : Option Site). IsBehind past (controller_acts (with_site v (with_queue_in site (Up node) cells)) o (λ a. cell_comes a cell))) (sym e)
          (as_acted (cell_so policy topology before is_topology world node site found (at_node node site found) read
          (chains policy topology before (Carry (Up node)) (subst (λ (x : Event). IsTame (next topology w x).notes.records) is is_tame)) cell cells queue) e)

  -- what a switch's branches lead to, by their shapes
  passed : (u : World) (less : Less w u) (node : NodeId) (old site : Site) → site_at w node ≡ Some old → site_at u node ≡ Some site → setups_of site.controller ≡ setups_of old.controller → site.switch.crossbar.branches ≡ old.switch.crossbar.branches
      → (port : PortNo) (cell : Cell) → Every BindsNone u.notes.records
      → ((from to : LinkEnd) → IsPeer topology from to → peer_of topology from.node from.port ≡ Some to → to.node ≡ node → port.0 ≡ to.port.0 → cell.header.channel ≡ default_channel → OnWay w from to cell)
      → ((from to : LinkEnd) → IsPeer topology from to → peer_of topology from.node from.port ≡ Some to → from.node ≡ node → port.0 ≡ 0 → cell.header.channel ≡ (default_home from.port).channel → OnWay w from to cell)
      → IsBehind past (switch_acts u (Some site) (λ a. switch.cell_comes a port cell))
  passed u less node old site old_found found setups branches port cell none comes_in goes_out =
      passed_behind past u less node site found (switch.cell_comes a port cell) port cell (setups_of old.controller) (at_node node old old_found).ports.links
      (λ input output leads. (world.shapes node old old_found).branches input output (sym (ap (λ b. output_of b input) branches) ∙ leads))
      (λ x is q c has. moved x is q c ((comes a port cell none).queues q c has)) a comes_in goes_out
    where
      a : switches.ActedSwitch
      a = record { switch = site.switch; notes = u.notes; numbers = u.numbers }

      moved : (x : switches.ActedSwitch) → x.switch ≡ site.switch → (q : PortNo) (c : Cell) → IsPassed (record { switch = site.switch; notes = u.notes; numbers = u.numbers }) port cell q c → IsPassed x port cell q c
      moved x is q c (switching.was h) = switching.was (subst (λ (s : switches.Switch). Contains (queue_of s.crossbar q) c) (sym is) h)
      moved x is q c (of_gsmp z h) = of_gsmp z h
      moved x is q c (crossed output leads z mark channel) = crossed output (subst (λ (s : switches.Switch). output_of s.crossbar.branches (input_of port cell) ≡ Some output) (sym is) leads) z mark channel

  from_down : (node : NodeId) (cell : Cell) (cells : List Cell) → queue_at w (Down node) ≡ cell ∷ cells → (site : Site) → site_at w node ≡ Some site → IsBehind past (at_switch (with_queue v (Down node) cells) node (λ a. switch.cell_comes a control_port cell))
  from_down node cell cells queue site found =
      let after : Site = with_queue_in site (Down node) cells in
      let there_is : site_at (with_site v after) node ≡ Some after = (put_at v node site after found refl).0 in
      subst (λ (x : World). IsBehind past (at_switch x node (λ a. switch.cell_comes a control_port cell))) (sym (with_queue_is (Down node) cells site found))
      (subst (λ (o : Option Site). IsBehind past (switch_acts (with_site v after) o (λ a. switch.cell_comes a control_port cell))) (sym there_is)
      (passed (with_site v after) (popped_less w (Down node) cell cells site found queue) node site after found there_is refl refl control_port cell tt
      (λ from to peer on n port channel. absurd (omega (arith, port, peer.port.0)))
      (λ from to peer on n port channel. in_down (subst (λ (m : NodeId). Contains (queue_at w (Down m)) cell) (sym n) (subst (λ (q : List Cell). Contains q cell) (sym queue) (zero, omega arith, refl)))
      (ap (λ (x : Channel). same_channel x (default_home from.port).channel) channel ∙ same_self (default_home from.port).channel))))

  from_out : (node : NodeId) (port : PortNo) (cell : Cell) (cells : List Cell) → queue_at w (Out node port) ≡ cell ∷ cells → (site : Site) → site_at w node ≡ Some site → (o : Option LinkEnd) → peer_of topology node port ≡ o
      → IsBehind past (arrives_at (with_queue v (Out node port) cells) cell o)
  from_out node port cell cells queue site found None e = subst (λ (x : World). IsBehind past x) (sym (with_queue_is (Out node port) cells site found))
      (less_behind past (with_site v (with_queue_in site (Out node port) cells)) (popped_less w (Out node port) cell cells site found queue))
  from_out node port cell cells queue site found (Some far) e = subst (λ (x : World). IsBehind past (at_switch x far.node (λ a. switch.cell_comes a far.port cell))) (sym (with_queue_is (Out node port) cells site found))
      (by (site_at w far.node) refl)
    where
      after : Site
      after = with_queue_in site (Out node port) cells

      peer : IsPeer topology (record { node = node; port = port }) far
      peer = peer_back topology is_topology (record { node = node; port = port }) far e

      apart : site_at (with_site v (with_queue_in site (Out node port) cells)) far.node ≡ site_at w far.node
      apart = (put_at v node site (with_queue_in site (Out node port) cells) found refl).1 far.node peer.apart

      way : (from to : LinkEnd) → peer_of topology to.node to.port ≡ Some from → to.node ≡ far.node → far.port.0 ≡ to.port.0 → from ≡ record { node = node; port = port }
      way from to back n p = some_same from (record { node = node; port = port }) (sym back ∙ (ap (λ (x : LinkEnd). peer_of topology x.node x.port)
          (ap (λ (m : NodeId). record { node = m; port = to.port }) n ∙ ap (λ (k : ℕ). record { node = far.node; port = record { 0 = k } }) (sym p)) ∙ peer.back))

      by : (o : Option Site) → site_at w far.node ≡ o → IsBehind past (at_switch (with_site v (with_queue_in site (Out node port) cells)) far.node (λ a. switch.cell_comes a far.port cell))
      by None n = subst (λ (o : Option Site). IsBehind past (switch_acts (with_site v (with_queue_in site (Out node port) cells)) o (λ a. switch.cell_comes a far.port cell))) (sym (apart ∙ n))
          (less_behind past (with_site v (with_queue_in site (Out node port) cells)) (popped_less w (Out node port) cell cells site found queue))
      by (Some other) n = subst (λ (o : Option Site). IsBehind past (switch_acts (with_site v (with_queue_in site (Out node port) cells)) o (λ a. switch.cell_comes a far.port cell))) (sym (apart ∙ n))
          (passed (with_site v (with_queue_in site (Out node port) cells)) (popped_less w (Out node port) cell cells site found queue) far.node other other n (apart ∙ n) refl refl far.port cell tt
          (λ from to between on m p channel. subst (λ (x : LinkEnd). OnWay w x to cell) (sym (way from to between.back m p))
          (in_out (subst (λ (q : List Cell). Contains q cell) (sym queue) (zero, omega arith, refl)) (ap (λ (x : Channel). same_channel x default_channel) channel ∙ same_self default_channel)))
          (λ from to between on m p channel. absurd (omega (arith, p, peer.port.0))))

  carried : (place : Place) → event ≡ Carry place → (cells : List Cell) → queue_at w place ≡ cells → IsBehind past (carries_head topology v place cells)
  carried place is [] queue = less_behind past v (still_less w.sent)
  carried (Down node) is (cell ∷ cells) queue = queue_site (Down node) cell cells queue (IsBehind past (carries_head topology v (Down node) (cell ∷ cells))) (from_down node cell cells queue)
  carried (Up node) is (cell ∷ cells) queue = queue_site (Up node) cell cells queue (IsBehind past (carries_head topology v (Up node) (cell ∷ cells))) (from_up node cell cells is queue)
  carried (Out node port) is (cell ∷ cells) queue = queue_site (Out node port) cell cells queue (IsBehind past (carries_head topology v (Out node port) (cell ∷ cells)))
      (λ site found. from_out node port cell cells queue site found (peer_of topology node port) refl)

  lost : (place : Place) (cells : List Cell) → queue_at w place ≡ cells → IsBehind past (loses_head v place cells)
  lost place [] queue = less_behind past v (still_less w.sent)
  lost place (cell ∷ cells) queue = queue_site place cell cells queue (IsBehind past (loses_head v place (cell ∷ cells)))
      (λ site found. less_behind past (loses_head v place (cell ∷ cells)) (lost_less site found (popped_less w place cell cells site found queue)))
    where
      lost_less : (site : Site) → site_at w (place_node place) ≡ Some site → Less w (with_site v (with_queue_in site place cells)) → Less w (loses_head v place (cell ∷ cells))
      lost_less site found less = (let l : Less w (with_queue v place cells) = subst (λ (x : World). Less w x) (sym (with_queue_is place cells site found)) less in record { queues = l.queues; ends = l.ends })

  controller_so : (node : NodeId) (number : ℕ) (act : Acted → Acted) → ((site : Site) (found : site_at w node ≡ Some site) → IsSteadily (event_terms false past node site) (act (acting v site))) → IsBehind past (at_controller (record v { sent = number }) node act)
  controller_so node number act so = controlled act node number (λ site found. controller_behind past (record v { sent = number }) (still_less number) node site site found found false (act (acting v site)) (so site found)) (site_at w node) refl

  injected_so : (node : NodeId) (octets : List ℕ) → event ≡ Inject node octets → (o : Option Refusal) → inject_refusal octets ≡ o → IsBehind past (injects_by (record v { sent = w.sent + 1 }) node octets o)
  injected_so node octets is (Some name) refused = less_behind past (injects_by (record v { sent = w.sent + 1 }) node octets (Some name)) (record { queues = λ place c has. has; ends = λ end. refl })
  injected_so node octets is None accepted = controller_so node (w.sent + 1) (λ a. injected a (w.sent + 1) octets)
      (λ site found. injects_so policy topology before is_topology world node site found (at_node node site found) (w.sent + 1) octets (λ e. omega (arith, e))
      (fit nodes fronts steps read chains policy topology before event coming world node octets is accepted))

  acts_so : (e : Event) → event ≡ e → IsBehind past (acts topology v e)
  acts_so (Inject node octets) is = injected_so node octets is (inject_refusal octets) refl
  acts_so (Carry place) is = carried place is (queue_at w place) refl
  acts_so (Lose place) is = lost place (queue_at w place) refl
  acts_so (Tick node) is = controller_so node w.sent ticks (λ site found. ticks_so policy topology before is_topology world node site found (at_node node site found))
  acts_so (TickSwitch node) is = waited switch.tick_comes (λ a none. tick_kept (Waits a) (waits_kept a) a (record { queues = λ q c has. inl has; records = none })) node (site_at w node) refl
  acts_so (Restart node) is = controller_so node w.sent node_restarts (λ site found. restarts_so policy topology before is_topology world node site found (at_node node site found))
  acts_so (RestartSwitch node) is = waited switch.restarted (λ a none. restarted_kept (Waits a) (waits_kept a) a (record { queues = λ q c has. inl has; records = none })) node (site_at w node) refl
  acts_so (Forge place channel payload) is = absurd (none_forged topology w place channel payload (subst (λ (x : Event). IsTame (next topology w x).notes.records) is is_tame))
  acts_so (Route node change) is = controller_so node w.sent (λ a. change_comes a change) (λ site found. changes_so policy topology before is_topology world node site found (at_node node site found) change)

  pub then_behind : IsBehind past (behind policy topology before event).now
  then_behind = subst (λ (x : World). IsBehind past x) (sym (then_is nodes fronts steps read chains policy topology before event coming world)) (counted past (acts topology v event) _ _ (acts_so event refl))
