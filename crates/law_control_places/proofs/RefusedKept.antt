-- in each event that comes, what ends a frame can be read, and so its records have no `Bad`

use Rattle.std.proofs.Common.{◌≡◌, ℕ, true, false, List, [], ◌∷◌, None, Some, refl, sym, subst, arith, inl, inr}
use Rattle.std.specs.Prelude.{nat_lt, Contains}
use Rattle.std.specs.List.{list_any}
use Rattle.world_model.specs.Words.{NodeId, Down, Up, Out, Mark, Cell, payload_of, Policy, default_channel, ForGsmp, ForDefault, ForLabel, same_channel, port_on, taker_of, reassembly_of, Topology, World, Site, site_at, queue_at, put_away, Past, past_of, frames_of, is_bad}
use Rattle.world_model.specs.Switch as switches
use Rattle.world_model.specs.Controller.{free_slots}
use Rattle.world_model.specs.Cells.{Taker}
use Rattle.world_model.specs.network_model.declared.event.Event.{Event}
use Rattle.world_model.specs.network_model.declared.event.Event.TheVariants.{Inject, Carry, Lose, Tick, TickSwitch, Restart, RestartSwitch, Forge, Route}
use Rattle.world_model.specs.Topology.{peer_of}
use Rattle.world_model.specs.Step.{acts}
use Rattle.law_frame_readings.specs.law_world_views.Marks.{Means, heading_at}
use Rattle.law_frame_readings.specs.law_world_views.Shown.{acting}
use Rattle.law_frame_readings.specs.law_world_views.Between.{IsWorld}
use Rattle.law_frame_readings.specs.law_world_views.Kept.{Comes}
use Rattle.law_ownership.specs.Places.{HasPlaces}
use Rattle.law_run_facts.specs.Steps.{HasFront}
use Rattle.law_run_facts.proofs.Nodes.{runs_have_nodes}
use Rattle.law_run_facts.proofs.Steps.{runs_have_fronts, events_are_steps}
use Rattle.law_run_facts.proofs.Takers.{gsmp_of}
use Rattle.law_run_facts.proofs.law_actor_pace.Cells.{ended_last}
use Rattle.law_running_worlds.proofs.Labels.{of_label}
use Rattle.law_running_worlds.proofs.Made.{up, down}
use Rattle.law_running_worlds.proofs.Kept.{given}
use Rattle.law_control_places.specs.Refused.{NothingIsRefused}
use Rattle.law_control_places.proofs.Notes.{none_bad, ended_by_last}
use Rattle.law_control_places.proofs.Frames.{IsOfGsmp, EndsRight, CanBeRead, taken_by}
use Rattle.law_control_places.proofs.RefusedSwitches as switch
use Rattle.law_control_places.proofs.Readings.{no_peer, no_end, gsmp_can, IsOfDefault, of_default, some_end, default_can, label_can}
use Rattle.law_control_places.proofs.RefusedEvents.{IsRight, event_fair}
use Rattle.law_running_worlds.proofs.law_input_events.Acting.{beside}

module _ (policy : Policy) (topology : Topology) (before : List Event) (world : IsWorld (past_of policy topology before)) (places : HasPlaces (past_of policy topology before)) where
  abbrev past : Past
  past = past_of policy topology before

  abbrev v : World
  v = put_away past.now

  head_in : (cells rest : List Cell) (cell : Cell) → cells ≡ cell ∷ rest → Contains cells cell
  head_in cells rest cell is = subst (λ (xs : List Cell). Contains xs cell) (sym is) (0, omega arith, refl)

  -- *What comes to a controller*, by its taker
  read_up : (node : NodeId) → Comes policy topology before (Carry (Up node)) → (site : Site) (cell : Cell) (cells : List Cell) (payload : List ℕ) → site_at past.now node ≡ Some site → queue_at past.now (Up node) ≡ cell ∷ cells
      → cell.header.last ≡ true → payload_of (frames_of past) cell.mark ≡ Some payload → (taker : Taker) → taker_of site.controller cell.header.channel ≡ Some taker → CanBeRead taker payload
  read_up node c site cell cells payload found queue last made = by
    where
      front : HasFront policy topology before (Carry (Up node))
      front = runs_have_fronts policy topology before (Carry (Up node)) c

      there : Contains (queue_at past.now (Up node)) cell
      there = head_in (queue_at past.now (Up node)) cells cell queue

      means : Means past (heading_at topology (Up node) cell.header.channel) cell.header.last cell.mark
      means = world.meanings (Up node) cell front.can.meant there

      by : (taker : Taker) → taker_of site.controller cell.header.channel ≡ Some taker → CanBeRead taker payload
      by ForGsmp is =
          let gsmp : same_channel cell.header.channel default_channel ≡ true = gsmp_of site.controller cell.header.channel is in
          gsmp_can past (heading_at topology (Up node) cell.header.channel) node cell payload (no_end node cell.header.channel gsmp) (no_peer topology c.run.topology_is node cell.header.channel gsmp) last means
          (places node front.can.meant cell (inr there)) made
      by (ForDefault linked) is =
          let default : IsOfDefault cell.header.channel = of_default site.controller cell.header.channel linked is in
          default_can past (heading_at topology (Up node) cell.header.channel) cell.header.last cell.mark payload (some_end node cell.header.channel default) default.default last means (world.made cell.mark payload made) made
      by (ForLabel linked label) is = label_can past node (acting past.now site) cell.header.channel cell.header.last cell.mark linked label payload
          (runs_have_nodes policy topology before c.addresses front.run node site found).conduct.bound (of_label site.controller cell.header.channel linked label is) means made

  up_right : (node : NodeId) → Comes policy topology before (Carry (Up node)) → IsRight topology v (Carry (Up node))
  up_right node c cell cells queue site found taker is = by (taken_by (acting v site) taker cell).ended refl
    where
      by : (ended : List Cell) → (taken_by (acting v site) taker cell).ended ≡ ended → EndsRight taker ended
      by [] e = tt
      by (first ∷ chain) e = λ payload ok. read_up node c site cell cells payload found queue
          (ended_by_last v.notes (nat_lt 0 (free_slots site.controller)) (reassembly_of site.controller taker) cell first chain e)
          (subst (λ (m : Mark). payload_of (frames_of past) m ≡ Some payload) (ended_last v.notes (nat_lt 0 (free_slots site.controller)) (reassembly_of site.controller taker) cell first chain e)
          (up policy topology before node c site cell first cells chain taker found queue is e payload ok)) taker is

  -- *and to its switch*
  read_down : (node : NodeId) → Comes policy topology before (Carry (Down node)) → (cell : Cell) (cells : List Cell) (payload : List ℕ) → queue_at past.now (Down node) ≡ cell ∷ cells → same_channel cell.header.channel default_channel ≡ true
      → cell.header.last ≡ true → payload_of (frames_of past) cell.mark ≡ Some payload → IsOfGsmp payload
  read_down node c cell cells payload queue gsmp last made =
      let front : HasFront policy topology before (Carry (Down node)) = runs_have_fronts policy topology before (Carry (Down node)) c in
      let there : Contains (queue_at past.now (Down node)) cell = head_in (queue_at past.now (Down node)) cells cell queue in
      let away : peer_of topology node (port_on cell.header.channel) ≡ None = no_peer topology c.run.topology_is node cell.header.channel gsmp in
      gsmp_can past (heading_at topology (Down node) cell.header.channel) node cell payload away away last (world.meanings (Down node) cell front.can.meant there) (places node front.can.meant cell (inl there)) made

  down_right : (node : NodeId) → Comes policy topology before (Carry (Down node)) → IsRight topology v (Carry (Down node))
  down_right node c cell cells queue site found gsmp = by (switch.taken_by (beside v site) cell).ended refl
    where
      by : (ended : List Cell) → (switch.taken_by (beside v site) cell).ended ≡ ended → switch.EndsRight ended
      by [] e = tt
      by (first ∷ chain) e = λ payload ok. read_down node c cell cells payload queue gsmp
          (ended_by_last v.notes (nat_lt 0 (switches.free_slots site.switch)) site.switch.reassembly cell first chain e)
          (subst (λ (m : Mark). payload_of (frames_of past) m ≡ Some payload) (ended_last v.notes (nat_lt 0 (switches.free_slots site.switch)) site.switch.reassembly cell first chain e)
          (down policy topology before node c site cell first cells chain found queue gsmp e payload ok))

  -- *Each event*
  right : (event : Event) → Comes policy topology before event → IsRight topology v event
  right (Carry (Up node)) c = up_right node c
  right (Carry (Down node)) c = down_right node c
  right (Carry (Out node port)) c = given runs_have_nodes runs_have_fronts events_are_steps up down policy topology before (Carry (Out node port)) c world
  right (Forge place channel payload) c = given runs_have_nodes runs_have_fronts events_are_steps up down policy topology before (Forge place channel payload) c world
  right (Inject node octets) c = tt
  right (Lose place) c = tt
  right (Tick node) c = tt
  right (TickSwitch node) c = tt
  right (Restart node) c = tt
  right (RestartSwitch node) c = tt
  right (Route node change) c = tt

  fair : (event : Event) → Comes policy topology before event → list_any is_bad (acts topology v event).notes.records ≡ false
  fair event c = none_bad (acts topology v event).notes.records (event_fair topology v tt event (right event c))

pub nothing_refused : NothingIsRefused
nothing_refused policy topology before event c world places =
    subst (λ (u : World). list_any is_bad u.notes.records ≡ false) (sym (events_are_steps policy topology before event).now) (fair policy topology before world places event c)
