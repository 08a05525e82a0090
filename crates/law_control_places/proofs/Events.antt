-- each event leaves the control frames between a controller and its switch where they are to be

use Rattle.std.proofs.Common.{◌≡◌, ℕ, ◌+◌, List, [], ◌∷◌, Option, None, Some, refl, sym, ap, subst, arith, inl, inr}
use Rattle.world_model.specs.Words.{NodeId, PortNo, Place, Down, Up, Out, GivenOut, Cell, Frame, Refusal, Journal, control_port, inject_refusal, injected, node_restarts, change_comes, Topology, World, Site, site_at, queue_at, with_queue_in, with_queue_of, with_queue, injects_by, arrives_at, carries_head, loses_head}
use Rattle.world_model.specs.Controller.{Acted}
use Rattle.world_model.specs.Cells as controller
use Rattle.world_model.specs.Ticks.{ticks}
use Rattle.law_frame_readings.specs.law_controller_facts.Inputs.{Input, CellComes, PacketEnters, Ticks, Restarts, ChangeComes, enters_unless, takes_input}
use Rattle.law_frame_readings.specs.law_controller_facts.Sound.{IsOwn}
use Rattle.world_model.specs.network_model.declared.event.Event.{Event}
use Rattle.world_model.specs.network_model.declared.event.Event.TheVariants.{Inject, Carry, Lose, Tick, TickSwitch, Restart, RestartSwitch, Forge, Route}
use Rattle.world_model.specs.network_model.declared.link.LinkEnd.{LinkEnd}
use Rattle.world_model.specs.Topology.{peer_of}
use Rattle.world_model.specs.World.{at_controller, at_switch}
use Rattle.world_model.specs.Step.{acts}
use Rattle.law_frame_readings.specs.law_world_views.Ready.{setups_of}
use Rattle.law_frame_readings.specs.law_world_views.Shown.{acting}
use Rattle.law_run_facts.specs.Inputs as turns
use Rattle.law_run_facts.specs.Inputs.{SwitchInput, switch_takes}
use Rattle.law_run_facts.specs.Frames.{IsFree, Stay}
use Rattle.law_running_worlds.proofs.MadeEvents as made
use Rattle.law_running_worlds.proofs.MadeEvents.{UpTrue}
use Rattle.law_running_worlds.proofs.MadeSites.{put_found}
use Rattle.law_control_places.proofs.Sites.{Before, Behind, unchanged, Goes, controller_behind, switch_behind, pop_before, pop_notes}

module _ (t : Topology) (v : World) (free : IsFree v.numbers.controls v.notes.frames) (h : Before t v.notes.frames v)
    (named : (node : NodeId) (site : Site) → site_at v node ≡ Some site → (input : Input) → IsOwn input → (takes_input (acting v site) input).controller.node ≡ site.controller.node) where
  abbrev Right : World → Type 0
  Right u = Stay v.notes.frames u.notes.frames → Behind t u

  -- *A packet enters*, or is refused
  enters : (node : NodeId) (octets : List ℕ) (o : Option Refusal) → inject_refusal octets ≡ o → Right (injects_by (record v { sent = v.sent + 1 }) node octets o)
  enters node octets (Some name) e stay = unchanged t v h
  enters node octets None e stay = controller_behind t (record v { sent = v.sent + 1 }) node (λ a. injected a (v.sent + 1) octets) (PacketEnters (v.sent + 1) octets) (λ a. ap (enters_unless a (v.sent + 1) octets) (sym e)) free h
      (λ site found. record { given = omega arith; node = named node site found (PacketEnters (v.sent + 1) octets) tt }) stay

  -- *A cell is carried*
  to_switch : (place : Place) (cell : Cell) (cells : List Cell) → queue_at v place ≡ cell ∷ cells → (here : NodeId) (at_port : PortNo)
      → Right (at_switch (with_queue v place cells) here (λ a. switch_takes a (turns.CellComes at_port cell)))
  to_switch place cell cells is here at_port stay =
      let n = pop_notes t v place cells in
      let frames : (with_queue v place cells).notes.frames ≡ v.notes.frames = ap (λ (j : Journal). j.frames) n.0 in
      switch_behind t (with_queue v place cells) here (turns.CellComes at_port cell)
      (subst (λ (g : GivenOut). IsFree g.controls (with_queue v place cells).notes.frames) (sym n.1) (subst (IsFree v.numbers.controls) (sym frames) free))
      (subst (λ (f : List Frame). Before t f (with_queue v place cells)) (sym frames) (pop_before t v.notes.frames v place cell cells is h))
      (subst (λ (f : List Frame). Stay f (at_switch (with_queue v place cells) here (λ a. switch_takes a (turns.CellComes at_port cell))).notes.frames) (sym frames) stay)

  comes_up : (node : NodeId) (cell : Cell) (cells : List Cell) → UpTrue v node cell → (o : Option Site) → site_at v node ≡ o → Before t v.notes.frames (with_queue_of v (Up node) cells o)
      → Right (at_controller (with_queue_of v (Up node) cells o) node (λ a. controller.cell_comes a cell))
  comes_up node cell cells true_up None found popped = controller_behind t v node (λ a. controller.cell_comes a cell) (CellComes cell) (λ a. refl) free h
      (λ site there. record { given = (setups_of site.controller, true_up site there); node = named node site there (CellComes cell) tt })
  comes_up node cell cells true_up (Some old) found popped = controller_behind t (with_queue_of v (Up node) cells (Some old)) node (λ a. controller.cell_comes a cell) (CellComes cell) (λ a. refl) free popped
      (λ site there. elim (put_found (with_queue_in old (Up node) cells) v.sites node.0 site there) [
        | inl same ↦ subst Leads same (comes old found)
        | inr was ↦ comes site was
      ])
    where
      Leads : Site → Type 0
      Leads site = Goes t (acting v site) (CellComes cell)

      comes : (site : Site) → site_at v node ≡ Some site → Goes t (acting v site) (CellComes cell)
      comes site was = record { given = (setups_of site.controller, true_up site was); node = named node site was (CellComes cell) tt }

  carries_down : (node : NodeId) (queue : List Cell) → queue_at v (Down node) ≡ queue → Right (carries_head t v (Down node) queue)
  carries_down node [] is stay = unchanged t v h
  carries_down node (cell ∷ cells) is stay = to_switch (Down node) cell cells is node control_port stay

  carries_up : (node : NodeId) (queue : List Cell) → queue_at v (Up node) ≡ queue → ((cell : Cell) (cells : List Cell) → queue_at v (Up node) ≡ cell ∷ cells → UpTrue v node cell) → Right (carries_head t v (Up node) queue)
  carries_up node [] is given stay = unchanged t v h
  carries_up node (cell ∷ cells) is given stay = comes_up node cell cells (given cell cells is) (site_at v node) refl (pop_before t v.notes.frames v (Up node) cell cells is h) stay

  popped : (place : Place) (cell : Cell) (cells : List Cell) → queue_at v place ≡ cell ∷ cells → Behind t (with_queue v place cells)
  popped place cell cells is = unchanged t (with_queue v place cells)
      (subst (λ (f : List Frame). Before t f (with_queue v place cells)) (sym (ap (λ (j : Journal). j.frames) (pop_notes t v place cells).0)) (pop_before t v.notes.frames v place cell cells is h))

  carries_out : (node : NodeId) (port : PortNo) (queue : List Cell) → queue_at v (Out node port) ≡ queue → Right (carries_head t v (Out node port) queue)
  carries_out node port [] is stay = unchanged t v h
  carries_out node port (cell ∷ cells) is stay = far (peer_of t node port) stay
    where
      far : (o : Option LinkEnd) → Right (arrives_at (with_queue v (Out node port) cells) cell o)
      far None k = popped (Out node port) cell cells is
      far (Some end) k = to_switch (Out node port) cell cells is end.node end.port k

  carries : (place : Place) → made.IsGiven t v (Carry place) → Right (acts t v (Carry place))
  carries (Down node) given stay = carries_down node (queue_at v (Down node)) refl stay
  carries (Up node) given stay = carries_up node (queue_at v (Up node)) refl given stay
  carries (Out node port) given stay = carries_out node port (queue_at v (Out node port)) refl stay

  loses : (place : Place) (queue : List Cell) → queue_at v place ≡ queue → Right (loses_head v place queue)
  loses place [] is stay = unchanged t v h
  loses place (cell ∷ cells) is stay = popped place cell cells is

  acts_by : (node : NodeId) (act : Acted → Acted) (input : Input) → ((a : Acted) → act a ≡ takes_input a input) → ((site : Site) → site_at v node ≡ Some site → Goes t (acting v site) input) → Right (at_controller v node act)
  acts_by node act input is goes stay = controller_behind t v node act input is free h goes stay

  -- *Each event*
  pub event_behind : (event : Event) → made.IsGiven t v event → Right (acts t v event)
  event_behind (Inject node octets) given stay = enters node octets (inject_refusal octets) refl stay
  event_behind (Carry place) given stay = carries place given stay
  event_behind (Lose place) given stay = loses place (queue_at v place) refl stay
  event_behind (Tick node) given stay = acts_by node ticks Ticks (λ a. refl) (λ site found. record { given = tt; node = named node site found Ticks tt }) stay
  event_behind (TickSwitch node) given stay = switch_behind t v node turns.Ticks free h stay
  event_behind (Restart node) given stay = acts_by node node_restarts Restarts (λ a. refl) (λ site found. record { given = tt; node = named node site found Restarts tt }) stay
  event_behind (RestartSwitch node) given stay = switch_behind t v node turns.Restarts free h stay
  event_behind (Forge place channel payload) given stay = absurd given
  event_behind (Route node change) given stay = acts_by node (λ a. change_comes a change) (ChangeComes change) (λ a. refl) (λ site found. record { given = tt; node = named node site found (ChangeComes change) tt }) stay
