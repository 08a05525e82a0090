-- no event notes a `Bad`, where each frame that a cell ends can be read

use Rattle.std.proofs.Common.{◌≡◌, ℕ, ◌+◌, ◌≤◌, Bool, true, List, [], ◌∷◌, Option, None, Some, refl, subst, arith, inl, inr}
use Rattle.std.specs.Prelude.{◌==◌, ◌&&◌}
use Rattle.std.proofs.lemmas.Bool.Decides.{nat_tests}
use Rattle.world_model.specs.Words.{NodeId, PortNo, Place, Down, Up, Out, Cell, Loss, Refused, Lost, Refusal, control_port, inject_refusal, injected, taker_of, node_restarts, change_comes, Topology, World, Site, site_at, controller_acts, switch_acts, place_node, queue_at, with_queue_in, with_queue_of, with_queue, injects_by, arrives_at, carries_head, loses_head}
use Rattle.law_frame_readings.proofs.law_port_facts.Rules.{and_first}
use Rattle.world_model.specs.Switch as switches
use Rattle.world_model.specs.Conduct as conduct
use Rattle.world_model.specs.Controller.{Acted}
use Rattle.world_model.specs.Cells as controller
use Rattle.world_model.specs.Cells.{Taker}
use Rattle.world_model.specs.Ticks.{ticks}
use Rattle.world_model.specs.network_model.declared.event.Event.{Event}
use Rattle.world_model.specs.network_model.declared.event.Event.TheVariants.{Inject, Carry, Lose, Tick, TickSwitch, Restart, RestartSwitch, Forge, Route}
use Rattle.world_model.specs.network_model.declared.link.LinkEnd.{LinkEnd}
use Rattle.world_model.specs.Topology.{peer_of}
use Rattle.world_model.specs.World.{at_controller, at_switch}
use Rattle.world_model.specs.Step.{acts}
use Rattle.law_frame_readings.specs.law_world_views.Shown.{acting}
use Rattle.law_running_worlds.proofs.MadeSites.{put_found}
use Rattle.law_control_places.proofs.Notes.{AreFair, note_fair}
use Rattle.law_rule_walks.proofs.Controllers.{ticks_kept, node_restarts_kept}
use Rattle.law_rule_walks.proofs.Changes.{change_comes_kept}
use Rattle.law_control_places.proofs.RefusedWalks.{fair, takes_fair}
use Rattle.law_control_places.proofs.Frames.{EndsRight, taken_by, injected_fair, cell_fair}
use Rattle.law_control_places.proofs.RefusedSwitches as switch
use Rattle.law_running_worlds.proofs.law_input_events.Acting.{beside}

-- *What is asked of an event*: each frame that a cell ends can be read, and no cell comes over a link to port 0
abbrev pub UpRight : World → NodeId → Cell → Type 0
UpRight v node cell = (site : Site) → site_at v node ≡ Some site → (taker : Taker) → taker_of site.controller cell.header.channel ≡ Some taker → EndsRight taker (taken_by (acting v site) taker cell).ended

abbrev pub DownRight : World → NodeId → Cell → Type 0
DownRight v node cell = (site : Site) → site_at v node ≡ Some site → conduct.is_gsmp control_port cell.header.channel ≡ true → switch.EndsRight (switch.taken_by (beside v site) cell).ended

abbrev pub IsRight : Topology → World → Event → Type 0
IsRight topology v (Carry (Down node)) = (cell : Cell) (cells : List Cell) → queue_at v (Down node) ≡ cell ∷ cells → DownRight v node cell
IsRight topology v (Carry (Up node)) = (cell : Cell) (cells : List Cell) → queue_at v (Up node) ≡ cell ∷ cells → UpRight v node cell
IsRight topology v (Carry (Out node port)) = (far : LinkEnd) → peer_of topology node port ≡ Some far → 1 ≤ far.port.0
IsRight topology v (Forge place channel payload) = ⊥
IsRight topology v event = Unit {0}

-- *A controller or a switch acts*
controller_fair : (u : World) (node : NodeId) (act : Acted → Acted) → AreFair u.notes → ((site : Site) → site_at u node ≡ Some site → AreFair (act (acting u site)).notes) → AreFair (at_controller u node act).notes
controller_fair u node act h each = by (site_at u node) refl
  where
    by : (o : Option Site) → site_at u node ≡ o → AreFair (controller_acts u o act).notes
    by None found = h
    by (Some site) found = each site found

switch_fair : (u : World) (node : NodeId) (act : switches.ActedSwitch → switches.ActedSwitch) → AreFair u.notes → ((site : Site) → site_at u node ≡ Some site → AreFair (act (beside u site)).notes) → AreFair (at_switch u node act).notes
switch_fair u node act h each = by (site_at u node) refl
  where
    by : (o : Option Site) → site_at u node ≡ o → AreFair (switch_acts u o act).notes
    by None found = h
    by (Some site) found = each site found

module _ (topology : Topology) (v : World) (h : AreFair v.notes) where
  -- *A queue loses its head*
  popped : (place : Place) (cells : List Cell) → AreFair (with_queue v place cells).notes
  popped place cells = by (site_at v (place_node place))
    where
      by : (o : Option Site) → AreFair (with_queue_of v place cells o).notes
      by None = h
      by (Some site) = h

  -- *A packet enters*, or is refused
  enters : (node : NodeId) (octets : List ℕ) (o : Option Refusal) → AreFair (injects_by (record v { sent = v.sent + 1 }) node octets o).notes
  enters node octets (Some name) = note_fair v.notes (Refused node (v.sent + 1) name) refl h
  enters node octets None = controller_fair (record v { sent = v.sent + 1 }) node (λ a. injected a (v.sent + 1) octets) h (λ site found. injected_fair (acting v site) (v.sent + 1) octets h)

  -- *A cell is carried* to the controller
  comes_up : (node : NodeId) (cell : Cell) (cells : List Cell) → UpRight v node cell → (o : Option Site) → site_at v node ≡ o → AreFair (at_controller (with_queue_of v (Up node) cells o) node (λ a. controller.cell_comes a cell)).notes
  comes_up node cell cells right None found = controller_fair v node (λ a. controller.cell_comes a cell) h (λ site there. cell_fair (acting v site) cell (right site there) h)
  comes_up node cell cells right (Some old) found = controller_fair (with_queue_of v (Up node) cells (Some old)) node (λ a. controller.cell_comes a cell) h
      (λ site there. elim (put_found (with_queue_in old (Up node) cells) v.sites node.0 site there) [
        | inl same ↦ subst Comes same (comes old found)
        | inr was ↦ comes site was
      ])
    where
      Comes : Site → Type 0
      Comes site = AreFair (controller.cell_comes (acting v site) cell).notes

      comes : (site : Site) → site_at v node ≡ Some site → AreFair (controller.cell_comes (acting v site) cell).notes
      comes site was = cell_fair (acting v site) cell (right site was) h

  -- to the switch
  comes_down : (node : NodeId) (cell : Cell) (cells : List Cell) → DownRight v node cell → (o : Option Site) → site_at v node ≡ o → AreFair (at_switch (with_queue_of v (Down node) cells o) node (λ a. conduct.cell_comes a control_port cell)).notes
  comes_down node cell cells right None found = switch_fair v node (λ a. conduct.cell_comes a control_port cell) h (λ site there. switch.cell_fair (beside v site) control_port cell (right site there) h)
  comes_down node cell cells right (Some old) found = switch_fair (with_queue_of v (Down node) cells (Some old)) node (λ a. conduct.cell_comes a control_port cell) h
      (λ site there. elim (put_found (with_queue_in old (Down node) cells) v.sites node.0 site there) [
        | inl same ↦ subst Comes same (comes old found)
        | inr was ↦ comes site was
      ])
    where
      Comes : Site → Type 0
      Comes site = AreFair (conduct.cell_comes (beside v site) control_port cell).notes

      comes : (site : Site) → site_at v node ≡ Some site → AreFair (conduct.cell_comes (beside v site) control_port cell).notes
      comes site was = switch.cell_fair (beside v site) control_port cell (right site was) h

  -- over a link: it isn't of GSMP's channel
  away : (port : PortNo) (rest : Bool) → 1 ≤ port.0 → ((port.0 == 0) && rest) ≡ true → ⊥
  away port rest some e = never port.0 (and_first (port.0 == 0) rest e) some
    where
      never : (n : ℕ) → (n == 0) ≡ true → 1 ≤ n → ⊥
      never n zero some = (let is : n ≡ 0 = grind (arith, nat_tests, zero) in absurd (omega (arith, is, some)))

  comes_over : (place : Place) (cell : Cell) (cells : List Cell) (o : Option LinkEnd) → ((far : LinkEnd) → o ≡ Some far → 1 ≤ far.port.0) → AreFair (arrives_at (with_queue v place cells) cell o).notes
  comes_over place cell cells None above = popped place cells
  comes_over place cell cells (Some far) above = switch_fair (with_queue v place cells) far.node (λ a. conduct.cell_comes a far.port cell) (popped place cells)
      (λ site found. switch.cell_fair (beside (with_queue v place cells) site) far.port cell (λ g. absurd (away far.port _ (above far refl) g)) (popped place cells))

  carries_down : (node : NodeId) (queue : List Cell) → queue_at v (Down node) ≡ queue → IsRight topology v (Carry (Down node)) → AreFair (carries_head topology v (Down node) queue).notes
  carries_down node [] is right = h
  carries_down node (cell ∷ cells) is right = comes_down node cell cells (right cell cells is) (site_at v node) refl

  carries_up : (node : NodeId) (queue : List Cell) → queue_at v (Up node) ≡ queue → IsRight topology v (Carry (Up node)) → AreFair (carries_head topology v (Up node) queue).notes
  carries_up node [] is right = h
  carries_up node (cell ∷ cells) is right = comes_up node cell cells (right cell cells is) (site_at v node) refl

  carries_out : (node : NodeId) (port : PortNo) (queue : List Cell) → IsRight topology v (Carry (Out node port)) → AreFair (carries_head topology v (Out node port) queue).notes
  carries_out node port [] right = h
  carries_out node port (cell ∷ cells) right = comes_over (Out node port) cell cells (peer_of topology node port) right

  carries : (place : Place) → IsRight topology v (Carry place) → AreFair (acts topology v (Carry place)).notes
  carries (Down node) right = carries_down node (queue_at v (Down node)) refl right
  carries (Up node) right = carries_up node (queue_at v (Up node)) refl right
  carries (Out node port) right = carries_out node port (queue_at v (Out node port)) right

  -- *A cell is lost*
  loses : (place : Place) (queue : List Cell) → AreFair (loses_head v place queue).notes
  loses place [] = h
  loses place (cell ∷ cells) = note_fair (with_queue v place cells).notes (Loss cell.mark Lost) refl (popped place cells)

  -- *Each event*
  pub event_fair : (event : Event) → IsRight topology v event → AreFair (acts topology v event).notes
  event_fair (Inject node octets) right = enters node octets (inject_refusal octets)
  event_fair (Carry place) right = carries place right
  event_fair (Lose place) right = loses place (queue_at v place)
  event_fair (Tick node) right = controller_fair v node ticks h (λ site found. ticks_kept fair tt (acting v site) h h)
  event_fair (TickSwitch node) right = switch_fair v node conduct.tick_comes h (λ site found. switch.ticks_fair (beside v site) h)
  event_fair (Restart node) right = controller_fair v node node_restarts h (λ site found. node_restarts_kept fair (acting v site) h)
  event_fair (RestartSwitch node) right = switch_fair v node conduct.restarted h (λ site found. switch.restarts_fair (beside v site) h)
  event_fair (Forge place channel payload) right = absurd right
  event_fair (Route node change) right = controller_fair v node (λ a. change_comes a change) h (λ site found. change_comes_kept fair takes_fair (acting v site) change h)
