-- each event keeps the widths of all numbers, and each frame that it makes is a packet's or a message's

use Rattle.std.proofs.Common.{◌≡◌, ◌≢◌, ℕ, ◌+◌, ◌≤◌, ◌<◌, Bool, true, false, List, [], ◌∷◌, Option, None, Some, refl, subst, arith, inl, inr}
use Rattle.std.specs.Prelude.{◌^◌, ◌==◌, ◌&&◌}
use Rattle.std.proofs.lemmas.Bool.Decides.{nat_tests}
use Rattle.law_branch_shapes.specs.world_model.Words.{NodeId, PortNo, Place, Down, Up, Out, Cell, Refusal, control_port, inject_refusal, injected, taker_of, node_restarts, change_comes, AreOctets, Topology, World, Site, site_at, queue_at, with_queue_in, with_queue_of, with_queue, injects_by, arrives_at, carries_head, loses_head}
use Rattle.law_branch_shapes.specs.world_model.Conduct as switch_conduct
use Rattle.law_branch_shapes.specs.world_model.Cells as controller_cells
use Rattle.law_branch_shapes.specs.world_model.Cells.{Taker}
use Rattle.law_branch_shapes.specs.world_model.Ticks.{ticks}
use Rattle.law_frame_readings.proofs.law_controller_facts.Moves.{HasPorts}
use Rattle.law_frame_readings.proofs.law_controller_facts.Laws.{has_ports}
use Rattle.law_branch_shapes.specs.world_model.network_model.declared.event.Event.{Event}
use Rattle.law_branch_shapes.specs.world_model.network_model.declared.event.Event.TheVariants.{Inject, Carry, Lose, Tick, TickSwitch, Restart, RestartSwitch, Forge, Route}
use Rattle.law_branch_shapes.specs.world_model.network_model.declared.link.LinkEnd.{LinkEnd}
use Rattle.law_branch_shapes.specs.world_model.Topology.{peer_of}
use Rattle.law_branch_shapes.specs.world_model.World.{at_controller, at_switch}
use Rattle.law_branch_shapes.specs.world_model.Step.{acts}
use Rattle.law_frame_readings.specs.law_world_views.Ready.{setups_of}
use Rattle.law_frame_readings.specs.law_world_views.Shown.{acting}
use Rattle.law_running_worlds.proofs.Walk.{To}
use Rattle.law_running_worlds.proofs.MadeJoining.{change_comes_to}
use Rattle.law_running_worlds.proofs.Meeting.{controller_ticks_to}
use Rattle.law_running_worlds.proofs.MadeCells.{Ends, taken_by, cell_comes_to, injected_to, node_restarts_to}
use Rattle.law_running_worlds.proofs.Switch as switch
use Rattle.law_running_worlds.proofs.Switch.{IsSized}
use Rattle.law_running_worlds.proofs.MadeSites.{Before, Behind, unchanged, put_found, controller_behind, switch_behind, pop_before}
use Rattle.law_input_events.proofs.Acting.{beside}

-- *What is asked of an event*: a packet is octets; a chain that ends is of a frame that was made; nothing is forged
abbrev pub UpTrue : World → NodeId → Cell → Type 0
UpTrue v node cell = (site : Site) → site_at v node ≡ Some site → (taker : Taker) → taker_of site.controller cell.header.channel ≡ Some taker
    → Ends (setups_of site.controller) taker (taken_by (setups_of site.controller) (acting v site) taker cell).ended

abbrev pub DownTrue : World → NodeId → Cell → Type 0
DownTrue v node cell = (site : Site) → site_at v node ≡ Some site → switch_conduct.is_gsmp control_port cell.header.channel ≡ true → switch.Ends (switch.taken_by (beside v site) cell).ended

abbrev pub IsGiven : Topology → World → Event → Type 0
IsGiven topology v (Inject node octets) = AreOctets octets
IsGiven topology v (Carry (Down node)) = (cell : Cell) (cells : List Cell) → queue_at v (Down node) ≡ cell ∷ cells → DownTrue v node cell
IsGiven topology v (Carry (Up node)) = (cell : Cell) (cells : List Cell) → queue_at v (Up node) ≡ cell ∷ cells → UpTrue v node cell
IsGiven topology v (Carry (Out node port)) = (far : LinkEnd) → peer_of topology node port ≡ Some far → 1 ≤ far.port.0
IsGiven topology v (Forge place channel payload) = ⊥
IsGiven topology v event = Unit {0}

abbrev IsSmall : World → Type 0
IsSmall v = v.numbers.instances < 2 ^ 32

module _ (topology : Topology) (v : World) (before : IsSmall v) (h : Before v) where
  ports_of_site : (node : NodeId) (site : Site) → site_at v node ≡ Some site → HasPorts (setups_of site.controller) (acting v site)
  ports_of_site node site found = has_ports (setups_of site.controller) (acting v site) (h.sites node site found).ready.controller.sound

  -- *A packet enters*, or is refused
  enters : (node : NodeId) (octets : List ℕ) → AreOctets octets → (o : Option Refusal) → inject_refusal octets ≡ o → IsSmall (injects_by (record v { sent = v.sent + 1 }) node octets o)
      → Behind (injects_by (record v { sent = v.sent + 1 }) node octets o)
  enters node octets small (Some name) is behind = (let b = unchanged v h in record { made = b.made; sites = b.sites })
  enters node octets small None is behind = controller_behind (record v { sent = v.sent + 1 }) node (λ a. injected a (v.sent + 1) octets) (record { made = h.made; sites = h.sites })
      (λ site found. injected_to (setups_of site.controller) (acting v site) (v.sent + 1) octets counted (record { accepted = is; octets = small })) behind
    where
      counted : v.sent + 1 ≢ 0
      counted e = absurd (omega (arith, e))

  -- *A cell is carried* to the controller
  comes_up : (node : NodeId) (cell : Cell) (cells : List Cell) → UpTrue v node cell → (o : Option Site) → site_at v node ≡ o → IsSmall (at_controller (with_queue_of v (Up node) cells o) node (λ a. controller_cells.cell_comes a cell))
      → Before (with_queue_of v (Up node) cells o) → Behind (at_controller (with_queue_of v (Up node) cells o) node (λ a. controller_cells.cell_comes a cell))
  comes_up node cell cells true_up None found behind popped = controller_behind v node (λ a. controller_cells.cell_comes a cell) h
      (λ site there. cell_comes_to (setups_of site.controller) (acting v site) cell (ports_of_site node site there) (true_up site there)) behind
  comes_up node cell cells true_up (Some old) found behind popped = controller_behind (with_queue_of v (Up node) cells (Some old)) node (λ a. controller_cells.cell_comes a cell) popped
      (λ site there. elim (put_found (with_queue_in old (Up node) cells) v.sites node.0 site there) [
        | inl same ↦ subst Leads same (comes old found)
        | inr was ↦ comes site was
      ]) behind
    where
      Leads : Site → Type 0
      Leads site = To (setups_of site.controller) (acting v site) (controller_cells.cell_comes (acting v site) cell)

      comes : (site : Site) → site_at v node ≡ Some site → To (setups_of site.controller) (acting v site) (controller_cells.cell_comes (acting v site) cell)
      comes site was = cell_comes_to (setups_of site.controller) (acting v site) cell (ports_of_site node site was) (true_up site was)

  carries_up : (node : NodeId) (queue : List Cell) → queue_at v (Up node) ≡ queue → IsGiven topology v (Carry (Up node)) → IsSmall (carries_head topology v (Up node) queue) → Behind (carries_head topology v (Up node) queue)
  carries_up node [] first given behind = unchanged v h
  carries_up node (cell ∷ cells) first given behind = comes_up node cell cells (given cell cells first) (site_at v node) refl behind (pop_before v (Up node) cells before h)

  -- to the switch
  comes_down : (node : NodeId) (cell : Cell) (cells : List Cell) → DownTrue v node cell → (o : Option Site) → site_at v node ≡ o → IsSmall (at_switch (with_queue_of v (Down node) cells o) node (λ a. switch_conduct.cell_comes a control_port cell))
      → Before (with_queue_of v (Down node) cells o) → Behind (at_switch (with_queue_of v (Down node) cells o) node (λ a. switch_conduct.cell_comes a control_port cell))
  comes_down node cell cells true_down None found behind popped = switch_behind v node (λ a. switch_conduct.cell_comes a control_port cell) h
      (λ site there sized. switch.cell_comes_to (beside v site) control_port cell sized (true_down site there)) behind
  comes_down node cell cells true_down (Some old) found behind popped = switch_behind (with_queue_of v (Down node) cells (Some old)) node (λ a. switch_conduct.cell_comes a control_port cell) popped
      (λ site there. elim (put_found (with_queue_in old (Down node) cells) v.sites node.0 site there) [
        | inl same ↦ subst Leads same (comes old found)
        | inr was ↦ comes site was
      ]) behind
    where
      Leads : Site → Type 0
      Leads site = IsSized site.switch.ports → switch.To (beside v site) (switch_conduct.cell_comes (beside v site) control_port cell)

      comes : (site : Site) → site_at v node ≡ Some site → IsSized site.switch.ports → switch.To (beside v site) (switch_conduct.cell_comes (beside v site) control_port cell)
      comes site was sized = switch.cell_comes_to (beside v site) control_port cell sized (true_down site was)

  carries_down : (node : NodeId) (queue : List Cell) → queue_at v (Down node) ≡ queue → IsGiven topology v (Carry (Down node)) → IsSmall (carries_head topology v (Down node) queue) → Behind (carries_head topology v (Down node) queue)
  carries_down node [] first given behind = unchanged v h
  carries_down node (cell ∷ cells) first given behind = comes_down node cell cells (given cell cells first) (site_at v node) refl behind (pop_before v (Down node) cells before h)

  -- over a link: it isn't of the GSMP channel
  away : (n : ℕ) (b : Bool) → 1 ≤ n → ((n == 0) && b) ≡ true → ⊥
  away n b some e = never (n == 0) b (not_zero n some) e
    where
      not_zero : (n : ℕ) → 1 ≤ n → (n == 0) ≡ false
      not_zero n some = grind (arith, nat_tests)

      never : (a b : Bool) → a ≡ false → (a && b) ≡ true → ⊥
      never true b f e = cc f
      never false b f e = cc e

  carries_out : (node : NodeId) (port : PortNo) (queue : List Cell) → IsGiven topology v (Carry (Out node port)) → IsSmall (carries_head topology v (Out node port) queue) → Behind (carries_head topology v (Out node port) queue)
  carries_out node port [] given behind = unchanged v h
  carries_out node port (cell ∷ cells) given behind = by (peer_of topology node port) refl behind
    where
      by : (o : Option LinkEnd) → peer_of topology node port ≡ o → IsSmall (arrives_at (with_queue v (Out node port) cells) cell o) → Behind (arrives_at (with_queue v (Out node port) cells) cell o)
      by None peer behind = unchanged (with_queue v (Out node port) cells) (pop_before v (Out node port) cells before h)
      by (Some far) peer behind = switch_behind (with_queue v (Out node port) cells) far.node (λ a. switch_conduct.cell_comes a far.port cell) (pop_before v (Out node port) cells before h)
          (λ site there sized. switch.cell_comes_to (beside (with_queue v (Out node port) cells) site) far.port cell sized (λ g. absurd (away far.port.0 _ (given far peer) g))) behind

  carries : (place : Place) → IsGiven topology v (Carry place) → IsSmall (acts topology v (Carry place)) → Behind (acts topology v (Carry place))
  carries (Down node) given behind = carries_down node (queue_at v (Down node)) refl given behind
  carries (Up node) given behind = carries_up node (queue_at v (Up node)) refl given behind
  carries (Out node port) given behind = carries_out node port (queue_at v (Out node port)) given behind

  -- *A cell is lost*
  loses : (place : Place) (queue : List Cell) → Behind (loses_head v place queue)
  loses place [] = unchanged v h
  loses place (cell ∷ cells) = (let b = unchanged (with_queue v place cells) (pop_before v place cells before h) in record { made = b.made; sites = b.sites })

  pub event_behind : (event : Event) → IsGiven topology v event → IsSmall (acts topology v event) → Behind (acts topology v event)
  event_behind (Inject node octets) given behind = enters node octets given (inject_refusal octets) refl behind
  event_behind (Carry place) given behind = carries place given behind
  event_behind (Lose place) given behind = loses place (queue_at v place)
  event_behind (Tick node) given behind = controller_behind v node ticks h (λ site found. controller_ticks_to (setups_of site.controller) (acting v site) (ports_of_site node site found)) behind
  event_behind (TickSwitch node) given behind = switch_behind v node switch_conduct.tick_comes h (λ site found sized. switch.ticks_to (beside v site)) behind
  event_behind (Restart node) given behind = controller_behind v node node_restarts h (λ site found. node_restarts_to (setups_of site.controller) (acting v site) (ports_of_site node site found)) behind
  event_behind (RestartSwitch node) given behind = switch_behind v node switch_conduct.restarted h (λ site found sized. switch.restarts_to (beside v site)) behind
  event_behind (Forge place channel payload) given behind = absurd given
  event_behind (Route node change) given behind = controller_behind v node (λ a. change_comes a change) h (λ site found. change_comes_to (setups_of site.controller) (acting v site) change (ports_of_site node site found)) behind
