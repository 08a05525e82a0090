-- no event makes another frame under the mark of one

use Rattle.std.proofs.Common.{◌≡◌, ℕ, ◌<◌, ◌+◌, Bool, true, false, List, [], ◌∷◌, Option, None, Some, refl, sym, ◌∙◌, ap, subst, arith}
use Rattle.std.specs.Prelude.{◌==◌, ◌&&◌, nat_lt, Contains}
use Rattle.std.specs.Option.{option_map_or}
use Rattle.std.proofs.lemmas.Bool.Decides.{nat_tests}
use Rattle.law_world_pace.specs.world_model.Words.{NodeId, PortNo, Place, Down, Up, Out, Mark, Channel, GivenOut, next_control, with_control, Cell, Frame, Refusal, Forged, payload_of, Journal, next_mark, Policy, control_port, is_control, inject_refusal, injected, node_restarts, change_comes, Topology, IsNode, World, Site, site_at, controller_acts, switch_acts, queue_in, queue_at, with_queue, injects_by, arrives_at, arrives, carries_head, loses_head, forges_at, forges, put_away, next, world_after, Past, past_of, frames_of}
use Rattle.law_world_pace.specs.world_model.Switch as switches
use Rattle.law_world_pace.specs.world_model.Conduct as switch
use Rattle.law_world_pace.specs.world_model.Controller.{Acted}
use Rattle.law_world_pace.specs.world_model.Sending.{sends}
use Rattle.law_world_pace.specs.world_model.Cells as controller
use Rattle.law_world_pace.specs.world_model.Ticks as controller_ticks
use Rattle.law_controller_bindings.specs.law_controller_facts.Inputs.{Input, CellComes, PacketEnters, Ticks, Restarts, ChangeComes, enters_unless, takes_input}
use Rattle.law_run_facts.specs.Inputs as turns
use Rattle.law_run_facts.specs.Inputs.{SwitchInput, switch_takes}
use Rattle.law_run_facts.specs.Frames.{IsFree, Stay}
use Rattle.law_run_facts.proofs.Switches as switching
use Rattle.law_run_facts.proofs.Switches.{switch_leaves, sends_leave}
use Rattle.law_run_facts.proofs.Controllers.{IsNewest, input_stays, control_stays}
use Rattle.law_world_pace.specs.world_model.network_model.declared.event.Event.{Event}
use Rattle.law_world_pace.specs.world_model.network_model.declared.event.Event.TheVariants.{Inject, Carry, Lose, Tick, TickSwitch, Restart, RestartSwitch, Forge, Route}
use Rattle.law_world_pace.specs.world_model.network_model.declared.link.LinkEnd.{LinkEnd}
use Rattle.law_world_pace.specs.world_model.Topology.{peer_of}
use Rattle.law_world_pace.specs.world_model.World.{at_controller, at_switch, opened}
use Rattle.law_world_pace.specs.world_model.Step.{note}
use Rattle.law_world_views.specs.Marks.{Heading, Means, early, control, local, plain, labelled, heading_at}
use Rattle.law_world_views.specs.Between.{IsWorld}
use Rattle.law_world_views.specs.Kept.{Comes}
use Rattle.law_run_facts.proofs.Marked.{WorldMarked, queue_marked, queue_popped}
use Rattle.law_run_facts.proofs.Runs.{Any, any_marked}
use Rattle.law_run_facts.specs.Steps.{FramesStay}
use Rattle.law_run_facts.proofs.Rooms.{IsGoing, run_goes, found_within}
use Rattle.law_run_facts.proofs.Steps.{after_one}

-- *What may come* to a world, so that no frame is made twice
module _ (t : Topology) (w : World) (h : WorldMarked Any w) where
  abbrev first : List Frame
  first = w.notes.frames

  away : WorldMarked Any (put_away w)
  away = record { sites = h.sites; free = h.free }

  abbrev IsNext : Mark → Type 0
  IsNext came = is_control came ≡ false → payload_of w.notes.frames (next_mark came) ≡ None

  controller_stays : (u : World) (here : NodeId) (act : Acted → Acted) (input : Input) → ((a : Acted) → act a ≡ takes_input a input) → u.numbers ≡ w.numbers → u.notes ≡ (put_away w).notes
      → IsNewest w.numbers.controls w.notes.frames h.free input → Stay w.notes.frames (at_controller u here act).notes.frames
  controller_stays u here act input is numbers notes newest = by (site_at u here)
    where
      by : (o : Option Site) → Stay w.notes.frames (controller_acts u o act).notes.frames
      by None = subst (λ (n : Journal). Stay w.notes.frames n.frames) (sym notes) (λ mark payload e. e)
      by (Some x) =
          let a : Acted = record { controller = x.controller; notes = u.notes; numbers = u.numbers } in
          subst (λ (b : Acted). Stay w.notes.frames b.notes.frames) (sym (is a))
          (input_stays w.numbers.controls w.notes.frames h.free a (ap (λ (g : GivenOut). g.controls) (sym numbers)) (ap (λ (n : Journal). n.frames) (sym notes)) input newest)

  switch_stays : (u : World) (here : NodeId) (input : SwitchInput) → u.numbers ≡ w.numbers → u.notes ≡ (put_away w).notes → switching.IsFair u.numbers.controls input
      → Stay w.notes.frames (at_switch u here (λ a. switch_takes a input)).notes.frames
  switch_stays u here input numbers notes fair = by (site_at u here)
    where
      by : (o : Option Site) → Stay w.notes.frames (switch_acts u o (λ a. switch_takes a input)).notes.frames
      by None = subst (λ (n : Journal). Stay w.notes.frames n.frames) (sym notes) (λ mark payload e. e)
      by (Some x) =
          let a : switches.ActedSwitch = record { switch = x.switch; notes = u.notes; numbers = u.numbers } in
          let frames : u.notes.frames ≡ w.notes.frames = ap (λ (n : Journal). n.frames) notes in
          subst (λ (fs : List Frame). Stay fs (switch_takes a input).notes.frames) frames
          ((switch_leaves a input fair).stay (subst (λ (g : GivenOut). IsFree g.controls u.notes.frames) (sym numbers) (subst (IsFree w.numbers.controls) (sym frames) h.free)))

  to_switch : (place : Place) (cell : Cell) (cells : List Cell) → queue_at (put_away w) place ≡ cell ∷ cells → (here : NodeId) (at_port : PortNo)
      → Stay w.notes.frames (at_switch (with_queue (put_away w) place cells) here (λ a. switch.cell_comes a at_port cell)).notes.frames
  to_switch place cell cells is here at_port =
      let p = queue_popped Any (put_away w) place cell cells is away in
      switch_stays (with_queue (put_away w) place cells) here (turns.CellComes at_port cell) p.numbers p.notes
      (subst (λ (g : GivenOut). turns.IsMarked g.controls cell) (sym p.numbers) (subst (switching.AreMarked w.numbers.controls) is (queue_marked Any (put_away w) place away)).0)

  -- the last cell of a packet's frame, in front of a controller, is of its newest frame
  module _ (heads : (node : NodeId) (cell : Cell) (cells : List Cell) → queue_at (put_away w) (Up node) ≡ cell ∷ cells → cell.header.last ≡ true → IsNext cell.mark) where
    carry_stays : (place : Place) (queue : List Cell) → queue_at (put_away w) place ≡ queue → ((node : NodeId) (cell : Cell) (cells : List Cell) → place ≡ Up node → queue ≡ cell ∷ cells → cell.header.last ≡ true → IsNext cell.mark)
        → Stay w.notes.frames (carries_head t (put_away w) place queue).notes.frames
    carry_stays place [] is next_one = λ mark payload e. e
    carry_stays place (cell ∷ cells) is next_one = by place refl
      where
        by : (p : Place) → place ≡ p → Stay w.notes.frames (arrives t (with_queue (put_away w) place cells) p cell).notes.frames
        by (Down node) e = to_switch place cell cells is node control_port
        by (Up node) e = (let p = queue_popped Any (put_away w) place cell cells is away in
            controller_stays (with_queue (put_away w) place cells) node (λ a. controller.cell_comes a cell) (CellComes cell) (λ a. refl) p.numbers p.notes (λ last. next_one node cell cells e refl last))
        by (Out node port) e = far (peer_of t node port)
          where
            far : (o : Option LinkEnd) → Stay w.notes.frames (arrives_at (with_queue (put_away w) place cells) cell o).notes.frames
            far None = subst (λ (n : Journal). Stay w.notes.frames n.frames) (sym (queue_popped Any (put_away w) place cell cells is away).notes) (λ mark payload k. k)
            far (Some end) = to_switch place cell cells is end.node end.port

    lose_stays : (place : Place) (queue : List Cell) → queue_at (put_away w) place ≡ queue → Stay w.notes.frames (loses_head (put_away w) place queue).notes.frames
    lose_stays place [] is = λ mark payload e. e
    lose_stays place (cell ∷ cells) is = subst (λ (n : Journal). Stay w.notes.frames n.frames) (sym (queue_popped Any (put_away w) place cell cells is away).notes) (λ mark payload e. e)

    forge_stays : (place : Place) (channel : Channel) (payload : List ℕ) → Stay w.notes.frames (forges (put_away w) place channel payload).notes.frames
    forge_stays place channel payload = by place
      where
        given : World
        given = record (note (put_away w) (Forged place)) { numbers = with_control w.numbers }

        at_port : (node : NodeId) (port : PortNo) (o : Option Site) → Stay w.notes.frames (switch_acts given o (λ a. switch.forged a port channel (next_control w.numbers) payload)).notes.frames
        at_port node port None = λ mark octets e. e
        at_port node port (Some x) = (sends_leave (record { switch = x.switch; notes = given.notes; numbers = w.numbers }) port channel payload).stay h.free

        at_node : (o : Option Site) → Stay w.notes.frames (controller_acts given o (λ a. sends a channel (next_control w.numbers) payload)).notes.frames
        at_node None = λ mark octets e. e
        at_node (Some x) = control_stays w.numbers.controls w.notes.frames h.free (record { controller = x.controller; notes = given.notes; numbers = w.numbers }) refl refl channel payload

        by : (p : Place) → Stay w.notes.frames (forges_at given p channel (next_control w.numbers) payload).notes.frames
        by (Down node) = at_node (site_at w node)
        by (Up node) = at_port node control_port (site_at w node)
        by (Out node port) = at_port node port (site_at w node)

    inject_stays : (unsent : (frame : ℕ) → payload_of w.notes.frames (record { packet = w.sent + 1; frame = frame }) ≡ None) (node : NodeId) (octets : List ℕ) (o : Option Refusal) → inject_refusal octets ≡ o
        → Stay w.notes.frames (injects_by (record (put_away w) { sent = w.sent + 1 }) node octets o).notes.frames
    inject_stays unsent node octets (Some name) e = λ mark payload k. k
    inject_stays unsent node octets None e =
        controller_stays (record (put_away w) { sent = w.sent + 1 }) node (λ a. injected a (w.sent + 1) octets) (PacketEnters (w.sent + 1) octets) (λ a. ap (enters_unless a (w.sent + 1) octets) (sym e)) refl refl (λ off. unsent (0 + 1))

    event_stays : (unsent : (frame : ℕ) → payload_of w.notes.frames (record { packet = w.sent + 1; frame = frame }) ≡ None) (event : Event) → Stay w.notes.frames (next t w event).notes.frames
    event_stays unsent (Inject node octets) = inject_stays unsent node octets (inject_refusal octets) refl
    event_stays unsent (Carry place) = carry_stays place (queue_at (put_away w) place) refl
        (λ node cell cells e is. heads node cell cells (subst (λ (p : Place). queue_at (put_away w) p ≡ cell ∷ cells) e is))
    event_stays unsent (Lose place) = lose_stays place (queue_at (put_away w) place) refl
    event_stays unsent (Tick node) = controller_stays (put_away w) node controller_ticks.ticks Ticks (λ a. refl) refl refl tt
    event_stays unsent (TickSwitch node) = switch_stays (put_away w) node turns.Ticks refl refl tt
    event_stays unsent (Restart node) = controller_stays (put_away w) node node_restarts Restarts (λ a. refl) refl refl tt
    event_stays unsent (RestartSwitch node) = switch_stays (put_away w) node turns.Restarts refl refl tt
    event_stays unsent (Forge place channel payload) = forge_stays place channel payload
    event_stays unsent (Route node change) = controller_stays (put_away w) node (λ a. change_comes a change) (ChangeComes change) (λ a. refl) refl refl tt

-- *A last cell* that means something, and is no control frame's, is of the newest frame of its packet
head_next : (past : Past) (to : Heading) (last : Bool) (mark : Mark) → last ≡ true → (mark.packet ≡ 0 → 0 < mark.frame) → Means past to last mark → is_control mark ≡ false → payload_of (frames_of past) (next_mark mark) ≡ None
head_next past to last mark ends some (early default not_last any) off = absurd (cc (sym ends ∙ not_last))
head_next past to last mark ends some (control default none source message is) off = absurd (clash (some none) none off)
  where
    clash : 0 < mark.frame → mark.packet ≡ 0 → ((mark.packet == 0) && nat_lt 0 mark.frame) ≡ false → ⊥
    clash low none off = grind (arith, nat_tests, low, none, off)
head_next past to last mark ends some (local default own none) off = absurd (clash (some none) none off)
  where
    clash : 0 < mark.frame → mark.packet ≡ 0 → ((mark.packet == 0) && nat_lt 0 mark.frame) ≡ false → ⊥
    clash low none off = grind (arith, nat_tests, low, none, off)
head_next past to last mark ends some (plain default is_last far at packet is come newest) off = newest (mark.frame + 1) (omega arith)
head_next past to last mark ends some (labelled label far at flow bound payload packet is carries come newest) off = newest ends (mark.frame + 1) (omega arith)

first_cell : (cells rest : List Cell) (cell : Cell) → cells ≡ cell ∷ rest → Contains cells cell
first_cell cells rest cell e = subst (λ (xs : List Cell). Contains xs cell) (sym e) (0, omega arith, refl)

-- whoever has a queue is a node
queue_node : (topology : Topology) (w : World) → IsGoing topology w → (node : NodeId) (cell : Cell) (cells : List Cell) → queue_at w (Up node) ≡ cell ∷ cells → IsNode topology node
queue_node topology w g node cell cells is = by (site_at w node) refl is
  where
    by : (o : Option Site) → site_at w node ≡ o → option_map_or (λ (site : Site). queue_in site (Up node)) o [] ≡ cell ∷ cells → IsNode topology node
    by None found e = absurd (cc e)
    by (Some site) found e = (let r = found_within topology w.events 1 node.0 w.sites site g.sites found in (r.0, omega (arith, r.1, g.size)))

module _ (policy : Policy) (topology : Topology) (before : List Event) (event : Event) (c : Comes policy topology before event) (world : IsWorld (past_of policy topology before)) where
  heads_next : (node : NodeId) (cell : Cell) (cells : List Cell) → queue_at (put_away (world_after topology (opened policy topology) before)) (Up node) ≡ cell ∷ cells → cell.header.last ≡ true
      → is_control cell.mark ≡ false → payload_of (world_after topology (opened policy topology) before).notes.frames (next_mark cell.mark) ≡ None
  heads_next node cell cells is last off =
      let past : Past = past_of policy topology before in
      let w : World = world_after topology (opened policy topology) before in
      let there : Contains (queue_at w (Up node)) cell = first_cell (queue_at w (Up node)) cells cell is in
      head_next past (heading_at topology (Up node) cell.header.channel) cell.header.last cell.mark last (λ none. world.numbers.counted (Up node) cell there none)
      (world.meanings (Up node) cell (queue_node topology w (run_goes policy topology c.run.topology_is before) node cell cells is) there) off

  all_stay : Stay (world_after topology (opened policy topology) before).notes.frames (next topology (world_after topology (opened policy topology) before) event).notes.frames
  all_stay = (let w : World = world_after topology (opened policy topology) before in
      event_stays topology w (any_marked policy topology before) heads_next (λ frame. world.packets.unsent (w.sent + 1) frame (omega arith)) event)

pub frames_stay : FramesStay
frames_stay policy topology before event c world = record {
  kept = λ mark payload e. subst (λ (v : World). payload_of v.notes.frames mark ≡ Some payload) (sym (after_one topology (opened policy topology) before event))
      (all_stay policy topology before event c world mark payload e);
}
