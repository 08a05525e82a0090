-- which events make no frame under a mark of a packet: all but those that bring a controller the last cell of the frame before it, and
-- the packet as it enters

use Rattle.std.proofs.Common.{◌≡◌, ◌≢◌, ℕ, ◌+◌, true, false, List, [], ◌∷◌, ◌++◌, length, Option, None, Some, refl, sym, subst}
use Rattle.std.specs.Prelude.{nat_le}
use Rattle.world_model.specs.Words.{NodeId, PortNo, Place, Down, Up, Out, Channel, Mark, next_control, with_control, next_mark, Cell, Loss, PoolFull, Forged, Refusal, Frame, payload_of, same_mark, Journal, noted, frame_cells, made, RouteChange, Routed, routed, Controller, Switch, control_port, gsmp_channel, sends_control, node_restarts, change_comes, injected, inject_refusal, is_gsmp, gsmp_cell, switched_cell, tick_comes, restarted, Topology, World, Site, site_at, place_node, queue_at, with_queue, with_queue_of, controller_acts, switch_acts, injects_by, arrives, arrives_at, carries_head, loses_head, forges, put_away, next}
use Rattle.world_model.specs.Conduct as switch
use Rattle.world_model.specs.Controller.{Acted, free_slots}
use Rattle.world_model.specs.Cells.{cell_comes}
use Rattle.world_model.specs.Sending.{with_cells, sends}
use Rattle.world_model.specs.Step.{note}
use Rattle.world_model.specs.Switch as switches
use Rattle.world_model.specs.Switch.{ActedSwitch}
use Rattle.world_model.specs.Ticks.{ticks}
use Rattle.world_model.specs.Topology.{peer_of}
use Rattle.world_model.specs.World.{at_controller, at_switch}
use Rattle.world_model.specs.crossbar_model.declared.routed.Routed.TheVariants as routes
use Rattle.world_model.specs.frame_model.Sending.{Sender}
use Rattle.world_model.specs.gsmp_wire.Layout.{octets_of}
use Rattle.world_model.specs.ipv4_forward.declared.table.Route.{Route}
use Rattle.world_model.specs.network_model.declared.event.Event.{Event}
use Rattle.world_model.specs.network_model.declared.event.Event.TheVariants.{Inject, Carry, Lose, Tick, TickSwitch, Restart, RestartSwitch, Forge, Route as RouteEvent}
use Rattle.world_model.specs.network_model.declared.link.LinkEnd.{LinkEnd}
use Rattle.law_live_ease.proofs.law_port_facts.ordered_lists.Every.{every_all}
use Rattle.law_live_ease.proofs.law_port_facts.Keyed.{on_both}
use Rattle.law_live_ease.proofs.law_run_facts.Walks.{Has}
use Rattle.law_live_ease.proofs.law_run_facts.Coming.{routed_walk, cell_walk}
use Rattle.law_live_ease.proofs.law_run_facts.Sending.{tick_walk, restart_walk, change_walk}
use Rattle.law_live_ease.proofs.law_packet_worlds.Ledger.{none_stays, other_packet}
use Rattle.law_live_ease.proofs.law_packet_worlds.law_way_words.Switching.{Kept, gsmp_kept, tick_kept, restarted_kept}

abbrev AnyTable : List Route → Type 0
AnyTable table = Unit {0}

abbrev AnyChange : RouteChange → Type 0
AnyChange change = Unit {0}

abbrev AnyChain : (controls : ℕ) → PortNo → (chain : List Cell) → Type 0
AnyChain controls port chain = Unit {0}

-- a cell that leaves a queue leaves the notes
pub notes_stay : (w : World) (place : Place) (cells : List Cell) → (with_queue w place cells).notes ≡ w.notes
notes_stay w place cells = by (site_at w (place_node place))
  where
    by : (o : Option Site) → (with_queue_of w place cells o).notes ≡ w.notes
    by None = refl
    by (Some site) = refl

module _ (mark : Mark) (some : mark.packet ≢ 0) where
  abbrev pub Clear : List Frame → Type 0
  Clear frames = payload_of frames mark ≡ None

  made_clear : (frames : List Frame) (other : Mark) (payload : List ℕ) → same_mark other mark ≡ false → Clear frames → Clear (frames ++ record { mark = other; payload = payload } ∷ [])
  made_clear frames other payload apart none = none_stays frames (record { mark = other; payload = payload }) mark apart none

  -- a control mark is another one
  control_apart : (n : ℕ) → same_mark (record { packet = 0; frame = n }) mark ≡ false
  control_apart n = other_packet (record { packet = 0; frame = n }) mark (λ e. some (sym e))

  -- *A controller*
  sends_clear : (a : Acted) (channel : Channel) (other : Mark) (payload : List ℕ) → same_mark other mark ≡ false → Clear a.notes.frames → Clear (sends a channel other payload).notes.frames
  sends_clear a channel other payload apart none = on_both (λ (s : Sender Controller). Clear s.notes.frames) (nat_le (length (frame_cells channel other payload)) (free_slots a.controller))
      (record { queues = with_cells a.controller (frame_cells channel other payload); notes = made a.notes other payload })
      (record { queues = a.controller; notes = noted (made a.notes other payload) (Loss other PoolFull) })
      (made_clear a.notes.frames other payload apart none) (made_clear a.notes.frames other payload apart none)

  pub control_clear : (a : Acted) (channel : Channel) (payload : List ℕ) → Clear a.notes.frames → Clear (sends_control a channel payload).notes.frames
  control_clear a channel payload none = sends_clear (record a { numbers = with_control a.numbers }) channel (next_control a.numbers) payload (control_apart (a.numbers.controls + 1)) none

  abbrev Seen : (queue chain : List Cell) → List Frame → (controls : ℕ) → Type 0
  Seen queue chain frames controls = Clear frames

  begin : (a : Acted) → Clear a.notes.frames → Has Seen AnyTable AnyChange AnyChain a
  begin a none = (none, tt, every_all AnyChange a.controller.waiting (λ change. tt), every_all (λ linked. Unit {0}) a.controller.ports (λ linked. tt))

  enters_clear : (a : Acted) (number : ℕ) (octets : List ℕ) → same_mark (record { packet = number; frame = 0 + 1 }) mark ≡ false → Clear a.notes.frames → Clear (injected a number octets).notes.frames
  enters_clear a number octets apart none = (routed_walk Seen AnyTable AnyChange AnyChain control_clear (λ queue chain frames n k. k) (λ n port chain k. tt) (λ n port. tt) (λ table change k l. tt)
      (record { packet = number; frame = 0 }) (Unit {0}) (λ queue chain frames n c e own k. k) (λ b linked c e found k d. tt)
      (λ last b channel payload off k. sends_clear b channel (record { packet = number; frame = 0 + 1 }) payload apart k) tt a octets (begin a none)).0

  cell_clear : (a : Acted) (cell : Cell) → (cell.header.last ≡ true → same_mark (next_mark cell.mark) mark ≡ false) → Clear a.notes.frames → Clear (cell_comes a cell).notes.frames
  cell_clear a cell apart none = (cell_walk Seen AnyTable AnyChange AnyChain control_clear (λ queue chain frames n k. k) (λ n port chain k. tt) (λ n port. tt) (λ table change k l. tt)
      cell.mark (cell.header.last ≡ true) (λ queue chain frames n c e own k. k) (λ b linked c e found k d. tt)
      (λ last b channel payload off k. sends_clear b channel (next_mark cell.mark) payload (apart last) k) a cell refl (λ e. e) (begin a none)).0

  tick_clear : (a : Acted) → Clear a.notes.frames → Clear (ticks a).notes.frames
  tick_clear a none = (tick_walk Seen AnyTable AnyChange AnyChain control_clear (λ queue chain frames n k. k) (λ n port chain k. tt) (λ n port. tt) (λ table change k l. tt) a (begin a none)).0

  restart_clear : (a : Acted) → Clear a.notes.frames → Clear (node_restarts a).notes.frames
  restart_clear a none = (restart_walk Seen AnyTable AnyChange AnyChain control_clear (λ queue chain frames n k. k) (λ n port chain k. tt) (λ n port. tt) (λ table change k l. tt) a (begin a none)).0

  change_clear : (a : Acted) (change : RouteChange) → Clear a.notes.frames → Clear (change_comes a change).notes.frames
  change_clear a change none = (change_walk Seen AnyTable AnyChange AnyChain control_clear (λ queue chain frames n k. k) (λ n port chain k. tt) (λ n port. tt) (λ table change k l. tt) a change tt
      (begin (record a { controller = record a.controller { waiting = a.controller.waiting ++ change ∷ [] } }) none)).0

  -- *A switch* makes control frames alone, and so does whoever forges one
  forged_clear : (a : ActedSwitch) (port : PortNo) (channel : Channel) (other : Mark) (payload : List ℕ) → same_mark other mark ≡ false → Clear a.notes.frames → Clear (switch.sends a port channel other payload).notes.frames
  forged_clear a port channel other payload apart none = on_both (λ (s : Sender Switch). Clear s.notes.frames) (nat_le (length (frame_cells channel other payload)) (switches.free_slots a.switch))
      (record { queues = switch.with_cells a.switch port (frame_cells channel other payload); notes = made a.notes other payload })
      (record { queues = a.switch; notes = noted (made a.notes other payload) (Loss other PoolFull) })
      (made_clear a.notes.frames other payload apart none) (made_clear a.notes.frames other payload apart none)

  abbrev AtSwitch : ActedSwitch → Type 0
  AtSwitch a = Clear a.notes.frames

  switch_kept : Kept AtSwitch
  switch_kept = record {
    alike = λ a b queues notes controls h. subst (λ (n : Journal). Clear n.frames) (sym notes) h;
    noted = λ a item is h. h;
    said = λ a message h. forged_clear (record a { numbers = with_control a.numbers }) control_port gsmp_channel (next_control a.numbers) (octets_of message) (control_apart (a.numbers.controls + 1)) h;
  }

  switched_clear : (a : ActedSwitch) (port : PortNo) (cell : Cell) (r : Routed) → Clear a.notes.frames → Clear (switch.cell_routed a port cell r).notes.frames
  switched_clear a port cell (routes.Out output) none = none
  switched_clear a port cell routes.Unconnected none = none
  switched_clear a port cell routes.PoolFull none = none

  comes_clear : (a : ActedSwitch) (port : PortNo) (cell : Cell) → Clear a.notes.frames → Clear (switch.cell_comes a port cell).notes.frames
  comes_clear a port cell none = on_both AtSwitch (is_gsmp port cell.header.channel) (gsmp_cell a cell) (switched_cell a port cell)
      (gsmp_kept AtSwitch switch_kept a cell none) (switched_clear a port cell (routed a.switch.crossbar (switches.free_slots a.switch) port cell) none)

  -- *An event*
  at_node : (w : World) (node : NodeId) (act : Acted → Acted) → ((a : Acted) → Clear a.notes.frames → Clear (act a).notes.frames) → Clear w.notes.frames → Clear (at_controller w node act).notes.frames
  at_node w node act keeps none = by (site_at w node)
    where
      by : (o : Option Site) → Clear (controller_acts w o act).notes.frames
      by None = none
      by (Some site) = keeps (record { controller = site.controller; notes = w.notes; numbers = w.numbers }) none

  at_its_switch : (w : World) (node : NodeId) (act : ActedSwitch → ActedSwitch) → ((a : ActedSwitch) → Clear a.notes.frames → Clear (act a).notes.frames) → Clear w.notes.frames → Clear (at_switch w node act).notes.frames
  at_its_switch w node act keeps none = by (site_at w node)
    where
      by : (o : Option Site) → Clear (switch_acts w o act).notes.frames
      by None = none
      by (Some site) = keeps (record { switch = site.switch; notes = w.notes; numbers = w.numbers }) none

  module _ (topology : Topology) (w : World) (none : Clear w.notes.frames) where
    -- a cell that leaves its queue
    popped_clear : (place : Place) (cells : List Cell) → Clear (with_queue (put_away w) place cells).notes.frames
    popped_clear place cells = subst (λ (n : Journal). Clear n.frames) (sym (notes_stay (put_away w) place cells)) none

    carry_clear : (place : Place) (queue : List Cell) → queue_at w place ≡ queue
        → ((node : NodeId) (cell : Cell) (cells : List Cell) → queue_at w (Up node) ≡ cell ∷ cells → cell.header.last ≡ true → same_mark (next_mark cell.mark) mark ≡ false)
        → Clear (carries_head topology (put_away w) place queue).notes.frames
    carry_clear place [] is apart = none
    carry_clear place (cell ∷ cells) is apart = by place is
      where
        far : (place : Place) (o : Option LinkEnd) → Clear (arrives_at (with_queue (put_away w) place cells) cell o).notes.frames
        far place None = popped_clear place cells
        far place (Some end) = at_its_switch (with_queue (put_away w) place cells) end.node (λ a. switch.cell_comes a end.port cell) (λ a h. comes_clear a end.port cell h) (popped_clear place cells)

        by : (p : Place) → queue_at w p ≡ cell ∷ cells → Clear (arrives topology (with_queue (put_away w) p cells) p cell).notes.frames
        by (Down node) e = at_its_switch (with_queue (put_away w) (Down node) cells) node (λ a. switch.cell_comes a control_port cell) (λ a h. comes_clear a control_port cell h) (popped_clear (Down node) cells)
        by (Up node) e = at_node (with_queue (put_away w) (Up node) cells) node (λ a. cell_comes a cell) (λ a h. cell_clear a cell (apart node cell cells e) h) (popped_clear (Up node) cells)
        by (Out node port) e = far (Out node port) (peer_of topology node port)

    lose_clear : (place : Place) (queue : List Cell) → Clear (loses_head (put_away w) place queue).notes.frames
    lose_clear place [] = none
    lose_clear place (cell ∷ cells) = popped_clear place cells

    abbrev given : Place → World
    given place = record (note (put_away w) (Forged place)) { numbers = with_control w.numbers }

    forge_clear : (place : Place) (channel : Channel) (payload : List ℕ) → Clear (forges (put_away w) place channel payload).notes.frames
    forge_clear (Down node) channel payload = at_node (given (Down node)) node (λ a. sends a channel (next_control w.numbers) payload)
        (λ a h. sends_clear a channel (next_control w.numbers) payload (control_apart (w.numbers.controls + 1)) h) none
    forge_clear (Up node) channel payload = at_its_switch (given (Up node)) node (λ a. switch.forged a control_port channel (next_control w.numbers) payload)
        (λ a h. forged_clear a control_port channel (next_control w.numbers) payload (control_apart (w.numbers.controls + 1)) h) none
    forge_clear (Out node port) channel payload = at_its_switch (given (Out node port)) node (λ a. switch.forged a port channel (next_control w.numbers) payload)
        (λ a h. forged_clear a port channel (next_control w.numbers) payload (control_apart (w.numbers.controls + 1)) h) none

    inject_clear : (node : NodeId) (octets : List ℕ) (o : Option Refusal) → same_mark (record { packet = w.sent + 1; frame = 0 + 1 }) mark ≡ false
        → Clear (injects_by (record (put_away w) { sent = w.sent + 1 }) node octets o).notes.frames
    inject_clear node octets (Some name) apart = none
    inject_clear node octets None apart = at_node (record (put_away w) { sent = w.sent + 1 }) node (λ a. injected a (w.sent + 1) octets) (λ a h. enters_clear a (w.sent + 1) octets apart h) none

    -- where no last cell of the frame before waits for a controller, and the packet doesn't enter now
    pub event_clear : (event : Event) → ((node : NodeId) (cell : Cell) (cells : List Cell) → queue_at w (Up node) ≡ cell ∷ cells → cell.header.last ≡ true → same_mark (next_mark cell.mark) mark ≡ false)
        → same_mark (record { packet = w.sent + 1; frame = 0 + 1 }) mark ≡ false → Clear (next topology w event).notes.frames
    event_clear (Inject node octets) heads enters = inject_clear node octets (inject_refusal octets) enters
    event_clear (Carry place) heads enters = carry_clear place (queue_at w place) refl heads
    event_clear (Lose place) heads enters = lose_clear place (queue_at w place)
    event_clear (Tick node) heads enters = at_node (put_away w) node ticks tick_clear none
    event_clear (TickSwitch node) heads enters = at_its_switch (put_away w) node tick_comes (λ a h. tick_kept AtSwitch switch_kept a h) none
    event_clear (Restart node) heads enters = at_node (put_away w) node node_restarts restart_clear none
    event_clear (RestartSwitch node) heads enters = at_its_switch (put_away w) node restarted (λ a h. restarted_kept AtSwitch switch_kept a h) none
    event_clear (Forge place channel payload) heads enters = forge_clear place channel payload
    event_clear (RouteEvent node change) heads enters = at_node (put_away w) node (λ a. change_comes a change) (λ a h. change_clear a change h) none
