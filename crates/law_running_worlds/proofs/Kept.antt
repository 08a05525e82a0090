-- each event of a run without chances keeps what was made, and the widths of all numbers

use Rattle.std.proofs.Common.{◌≡◌, ◌≢◌, ℕ, zero, suc, ◌+◌, ◌≤◌, ◌<◌, Bool, true, List, [], ◌∷◌, ◌++◌, length, Option, Some, Result, Ok, refl, sym, ◌∙◌, ap, subst, arith, if◌then◌else◌}
use Rattle.std.specs.Prelude.{◌^◌, nat_lt, All, Contains}
use Rattle.std.specs.Option.{option_and_then}
use Rattle.std.proofs.lemmas.Option.{get_or_from_slice_get, slice_get_within}
use Rattle.std.proofs.lemmas.List.{length-map}
use Rattle.law_branch_shapes.specs.world_model.Words.{NodeId, PortNo, Down, Up, Out, Mark, Addr, Cell, Frame, payload_of, last_mark, payload_in, Standing, control_port, numbers_of, is_gsmp, Policy, Linked, default_channel, ForGsmp, ForDefault, ForLabel, same_channel, taker_of, reassembly_of, Topology, Node, node_in, IsPlace, IsEvent, World, Site, site_at, queue_at, put_away, gsmp_of, gsmp_under, copy_of, on_channel, requests_chain_at, past_of, frames_of, IsTame}
use Rattle.law_branch_shapes.specs.world_model.gsmp_wire.declared.message.Message.{Message}
use Rattle.law_branch_shapes.specs.world_model.gsmp_wire.declared.fault.Fault.{Fault}
use Rattle.law_branch_shapes.specs.world_model.gsmp_wire.Fields.{decoded}
use Rattle.law_branch_shapes.specs.world_model.frame_model.Frame.{octets_of}
use Rattle.law_branch_shapes.specs.world_model.Switch as switches
use Rattle.law_branch_shapes.specs.world_model.switch_model.declared.port.PortState.{PortState}
use Rattle.law_branch_shapes.specs.world_model.Answers.{port_row}
use Rattle.law_branch_shapes.specs.world_model.Controller.{free_slots, ports_of}
use Rattle.law_branch_shapes.specs.world_model.Cells.{Taker}
use Rattle.law_branch_shapes.proofs.law_causes.Shown.{peer_back}
use Rattle.law_branch_shapes.specs.world_model.network_model.declared.event.Event.{Event}
use Rattle.law_branch_shapes.specs.world_model.network_model.declared.event.Event.TheVariants.{Inject, Carry, Lose, Tick, TickSwitch, Restart, RestartSwitch, Forge, Route}
use Rattle.law_branch_shapes.specs.world_model.Step.{acts}
use Rattle.law_branch_shapes.specs.world_model.Ways.{ok_of}
use Rattle.law_frame_readings.specs.law_world_views.Made.{IsFit, AreMade}
use Rattle.law_frame_readings.specs.law_world_views.Marks.{heading_at, Means}
use Rattle.law_frame_readings.specs.law_world_views.Ready.{setups_of, IsReadySite}
use Rattle.law_frame_readings.specs.law_world_views.Shown.{acting}
use Rattle.law_frame_readings.specs.law_world_views.Between.{HasAllMade, HasAllReady, IsWorld}
use Rattle.law_frame_readings.specs.law_world_views.Kept.{Comes, Keeps}
use Rattle.law_run_facts.specs.Nodes.{IsNodeOfRun, RunsHaveNodes, RunsHaveRoom}
use Rattle.law_run_facts.specs.Steps.{EventsAreSteps, HasFront, RunsHaveFronts}
use Rattle.law_frame_readings.proofs.Reading.{read_said}
use Rattle.law_running_worlds.proofs.MadeCells.{Ends, IsRead, taken_by}
use Rattle.law_running_worlds.proofs.Switch as switch
use Rattle.law_running_worlds.proofs.Switch.{IsSized}
use Rattle.law_input_events.specs.law_input_steps.Asking.{IsAsked}
use Rattle.law_input_events.proofs.law_input_premises.Asking.{shaped_asked}
use Rattle.law_running_worlds.proofs.Labels.{of_label, label_read}
use Rattle.law_running_worlds.proofs.MadeSites.{IsKnown, Before, Behind}
use Rattle.law_running_worlds.proofs.MadeEvents.{IsGiven, event_behind}
use Rattle.law_running_worlds.proofs.Forged.{never_forged}
use Rattle.law_running_worlds.proofs.Taken.{ended_mark}
use Rattle.law_input_events.proofs.Acting.{beside}

-- *A chain that passes* is the frame of its last cell
abbrev pub IsTrue : List Frame → List Cell → Type 0
IsTrue frames cells = (payload : List ℕ) → payload_in (octets_of cells) ≡ Some payload → payload_of frames (last_mark cells) ≡ Some payload

-- *What tame_chains is to give*: a cell that comes to a controller or to its switch ends only such chains
abbrev pub ControllersPass : Type 0
ControllersPass = (policy : Policy) (topology : Topology) (before : List Event) (node : NodeId) → Comes policy topology before (Carry (Up node))
    → (site : Site) (cell first : Cell) (cells chain : List Cell) (taker : Taker) → site_at (past_of policy topology before).now node ≡ Some site
    → queue_at (past_of policy topology before).now (Up node) ≡ cell ∷ cells → taker_of site.controller cell.header.channel ≡ Some taker
    → (taken_by (setups_of site.controller) (acting (put_away (past_of policy topology before).now) site) taker cell).ended ≡ first ∷ chain
    → IsTrue (frames_of (past_of policy topology before)) (first ∷ chain)

abbrev pub SwitchesPass : Type 0
SwitchesPass = (policy : Policy) (topology : Topology) (before : List Event) (node : NodeId) → Comes policy topology before (Carry (Down node))
    → (site : Site) (cell first : Cell) (cells chain : List Cell) → site_at (past_of policy topology before).now node ≡ Some site
    → queue_at (past_of policy topology before).now (Down node) ≡ cell ∷ cells → is_gsmp control_port cell.header.channel ≡ true
    → (switch.taken_by (beside (put_away (past_of policy topology before).now) site) cell).ended ≡ first ∷ chain
    → IsTrue (frames_of (past_of policy topology before)) (first ∷ chain)

module _ (nodes : RunsHaveNodes) (fronts : RunsHaveFronts) (policy : Policy) (topology : Topology) (before : List Event) (event : Event) (c : Comes policy topology before event) (w : IsWorld (past_of policy topology before)) where
  front : HasFront policy topology before event
  front = fronts policy topology before event c

  -- *Each node*
  few_rows : (ports : List PortState) (others : List PortNo) → numbers_of ports ≡ control_port ∷ others → length others ≤ 8 → IsSized ports
  few_rows ports others is few =
      let size : length ports ≡ suc (length others) = sym (length-map ports (λ (state : PortState). state.number)) ∙ ap (λ (xs : List PortNo). length xs) is in
      record { some = omega (arith, size); few = omega (arith, length-map ports port_row, size, few) }

  address_small : (nodes : List Node) → All (λ (node : Node). node.address.0 < 2 ^ 32) nodes → (number : ℕ) (there : Node) → node_in nodes number ≡ Some there → there.address.0 < 2 ^ 32
  address_small nodes all zero there is = absurd (cc is)
  address_small nodes all (suc place) there is = subst (λ (node : Node). node.address.0 < 2 ^ 32) (get_or_from_slice_get nodes place there there is) (all place there (slice_get_within nodes place there is))

  known : (node : NodeId) (site : Site) → site_at (past_of policy topology before).now node ≡ Some site → IsKnown site
  known node site found =
      let is : IsNodeOfRun policy (past_of policy topology before) node site = nodes policy topology before c.addresses front.run node site found in
      record {
        ready = w.ready node site found;
        links = is.ports.links;
        address = subst (λ (a : Addr). a.0 < 2 ^ 32) (sym is.is_node.address) (address_small topology.nodes c.addresses node.0 is.is_node.there is.is_node.is);
        sized = few_rows site.switch.ports (ports_of site.controller) is.is_node.switch_ports
            (omega (arith, is.ports.few, length-map site.controller.ports (λ (linked : Linked). linked.setup), length-map site.controller.ports (λ (linked : Linked). linked.setup.port)));
      }

  all_known : Before (put_away (past_of policy topology before).now)
  all_known = record { made = w.made; sites = known }

  -- *What a chain ends*, at a controller
  queued : (cells rest : List Cell) (cell : Cell) → cells ≡ cell ∷ rest → Contains cells cell
  queued cells rest cell is = subst (λ (xs : List Cell). Contains xs cell) (sym is) (0, omega arith, refl)

  read_by : (node : NodeId) (site : Site) (cell : Cell) (mark : Mark) (payload : List ℕ) → site_at (past_of policy topology before).now node ≡ Some site → mark ≡ cell.mark
      → Means (past_of policy topology before) (heading_at topology (Up node) cell.header.channel) cell.header.last cell.mark → payload_of (frames_of (past_of policy topology before)) mark ≡ Some payload
      → (taker : Taker) → taker_of site.controller cell.header.channel ≡ Some taker → IsRead (setups_of site.controller) taker mark payload
  read_by node site cell mark payload found same means made ForGsmp is = tt
  read_by node site cell mark payload found same means made (ForDefault linked) is = tt
  read_by node site cell mark payload found same means made (ForLabel linked label) is = λ packet ok.
      subst (λ (m : Mark). (m.packet ≢ 0) × IsFit packet) (sym same)
      (label_read (past_of policy topology before) node (acting (past_of policy topology before).now site) cell.header.channel cell.header.last cell.mark linked label payload
      (nodes policy topology before c.addresses front.run node site found).conduct.bound (of_label site.controller cell.header.channel linked label is) means
      (subst (λ (m : Mark). payload_of (frames_of (past_of policy topology before)) m ≡ Some payload) same made) packet ok)

  abbrev here : World
  here = put_away (past_of policy topology before).now

  ends_up : (node : NodeId) (site : Site) (cell : Cell) (cells : List Cell) → IsPlace topology (Up node) → site_at (past_of policy topology before).now node ≡ Some site → queue_at (past_of policy topology before).now (Up node) ≡ cell ∷ cells
      → (taker : Taker) → taker_of site.controller cell.header.channel ≡ Some taker → (ended : List Cell) → (taken_by (setups_of site.controller) (acting here site) taker cell).ended ≡ ended
      → ((first : Cell) (chain : List Cell) → (taken_by (setups_of site.controller) (acting here site) taker cell).ended ≡ first ∷ chain → IsTrue (frames_of (past_of policy topology before)) (first ∷ chain))
      → Ends (setups_of site.controller) taker ended
  ends_up node site cell cells place found queue taker is [] e passes = tt
  ends_up node site cell cells place found queue taker is (first ∷ chain) e passes = λ payload ok.
      let made : payload_of (frames_of (past_of policy topology before)) (last_mark (first ∷ chain)) ≡ Some payload = passes first chain e payload ok in (
        w.made (last_mark (first ∷ chain)) payload made,
        read_by node site cell (last_mark (first ∷ chain)) payload found
            (ended_mark here.notes (nat_lt 0 (free_slots site.controller)) (reassembly_of site.controller taker) cell first chain e)
            (w.meanings (Up node) cell place (queued (queue_at (past_of policy topology before).now (Up node)) cells cell queue)) made taker is,
      )

  -- *at a switch*
  asks_well : (node : NodeId) (site : Site) (cell : Cell) (cells : List Cell) (mark : Mark) (payload : List ℕ) (m : Message) → site_at (past_of policy topology before).now node ≡ Some site
      → queue_at (past_of policy topology before).now (Down node) ≡ cell ∷ cells → same_channel cell.header.channel default_channel ≡ true → mark ≡ cell.mark
      → payload_of (frames_of (past_of policy topology before)) mark ≡ Some payload → decoded payload ≡ Ok m → (s : Standing) → copy_of m ≡ Some s → IsAsked s.request
  asks_well node site cell cells mark payload m found queue gsmp same made ok s copy =
      shaped_asked (setups_of site.controller) s.request ((w.shapes node site found).copies s cell
      (within (requests_chain_at (past_of policy topology before).now node) (on_channel default_channel (queue_at (past_of policy topology before).now (Down node))) cell
      (subst (λ (xs : List Cell). Contains (on_channel default_channel xs) cell) (sym queue) (subst (λ (b : Bool). Contains (if b then cell ∷ on_channel default_channel cells else on_channel default_channel cells) cell) (sym gsmp) (0, omega arith, refl))))
      (ap (λ (k : Mark). option_and_then copy_of (gsmp_under (frames_of (past_of policy topology before)) k)) (sym same)
      ∙ (ap (λ (o : Option (List ℕ)). option_and_then copy_of (option_and_then gsmp_of o)) made ∙ (ap (λ (r : Result Message Fault). option_and_then copy_of (ok_of r)) ok ∙ copy))))
    where
      within : (front back : List Cell) (x : Cell) → Contains back x → Contains (front ++ back) x
      within [] back x h = h
      within (y ∷ front) back x h = (let rest = within front back x h in (suc rest.0, omega (arith, rest.1), rest.2))

  ends_down : (node : NodeId) (site : Site) (cell : Cell) (cells : List Cell) → site_at (past_of policy topology before).now node ≡ Some site → queue_at (past_of policy topology before).now (Down node) ≡ cell ∷ cells
      → is_gsmp control_port cell.header.channel ≡ true → (ended : List Cell) → (switch.taken_by (beside here site) cell).ended ≡ ended
      → ((first : Cell) (chain : List Cell) → (switch.taken_by (beside here site) cell).ended ≡ first ∷ chain → IsTrue (frames_of (past_of policy topology before)) (first ∷ chain))
      → switch.Ends ended
  ends_down node site cell cells found queue gsmp [] e passes = tt
  ends_down node site cell cells found queue gsmp (first ∷ chain) e passes = λ payload ok m read.
      let made : payload_of (frames_of (past_of policy topology before)) (last_mark (first ∷ chain)) ≡ Some payload = passes first chain e payload ok in
      let said = read_said (last_mark (first ∷ chain)) payload m (w.made (last_mark (first ∷ chain)) payload made) read in (
        said.fits,
        said.said,
        asks_well node site cell cells (last_mark (first ∷ chain)) payload m found queue gsmp
            (ended_mark here.notes (nat_lt 0 (switches.free_slots site.switch)) site.switch.reassembly cell first chain e) made read,
      )

-- *Each event* is as is asked of it
module _ (nodes : RunsHaveNodes) (fronts : RunsHaveFronts) (steps : EventsAreSteps) (up : ControllersPass) (down : SwitchesPass) (policy : Policy) (topology : Topology) (before : List Event) where
  abbrev Given : Event → Type 0
  Given event = Comes policy topology before event → IsWorld (past_of policy topology before) → IsGiven topology (put_away (past_of policy topology before).now) event

  abbrev meant : (event : Event) → Comes policy topology before event → IsEvent topology (past_of policy topology before).now event
  meant event c = (fronts policy topology before event c).can.meant

  up_given : (node : NodeId) → Given (Carry (Up node))
  up_given node c w cell cells queue site found taker is = ends_up nodes fronts policy topology before (Carry (Up node)) c w node site cell cells (meant (Carry (Up node)) c) found queue taker is
      (taken_by (setups_of site.controller) (acting (put_away (past_of policy topology before).now) site) taker cell).ended refl (λ first chain e. up policy topology before node c site cell first cells chain taker found queue is e)

  down_given : (node : NodeId) → Given (Carry (Down node))
  down_given node c w cell cells queue site found gsmp = ends_down nodes fronts policy topology before (Carry (Down node)) c w node site cell cells found queue gsmp
      (switch.taken_by (beside (put_away (past_of policy topology before).now) site) cell).ended refl (λ first chain e. down policy topology before node c site cell first cells chain found queue gsmp e)

  out_given : (node : NodeId) (port : PortNo) → Given (Carry (Out node port))
  out_given node port c w far peer = (peer_back topology c.run.topology_is (record { node = node; port = port }) far peer).port.0

  pub given : (event : Event) → Given event
  given (Inject node octets) c w = (meant (Inject node octets) c).1
  given (Carry (Up node)) c w = up_given node c w
  given (Carry (Down node)) c w = down_given node c w
  given (Carry (Out node port)) c w = out_given node port c w
  given (Lose place) c w = tt
  given (Tick node) c w = tt
  given (TickSwitch node) c w = tt
  given (Restart node) c w = tt
  given (RestartSwitch node) c w = tt
  given (Forge place channel payload) c w = never_forged place (put_away (past_of policy topology before).now) channel payload refl
      (subst (λ (u : World). IsTame u.notes.records) (steps policy topology before (Forge place channel payload)).now (fronts policy topology before (Forge place channel payload) c).new_tame)
  given (Route node change) c w = tt

module _ (nodes : RunsHaveNodes) (room : RunsHaveRoom) (fronts : RunsHaveFronts) (steps : EventsAreSteps) (up : ControllersPass) (down : SwitchesPass) where
  each_behind : (policy : Policy) (topology : Topology) (before : List Event) (event : Event) → Comes policy topology before event → IsWorld (past_of policy topology before)
      → Behind (acts topology (put_away (past_of policy topology before).now) event)
  each_behind policy topology before event c w = event_behind topology (put_away (past_of policy topology before).now)
      (small (past_of policy topology before).now.numbers.instances (room policy topology before (fronts policy topology before event c).run).left.instances) (all_known nodes fronts policy topology before event c w) event
      (given nodes fronts steps up down policy topology before event c w)
      (small (acts topology (put_away (past_of policy topology before).now) event).numbers.instances
      (subst (λ (u : World). u.numbers.instances + 20 < 2 ^ 32) (steps policy topology before event).now (room policy topology (before ++ event ∷ []) c.run).left.instances))
    where
      small : (n : ℕ) → n + 20 < 2 ^ 32 → n < 2 ^ 32
      small n less = omega (arith, less)

  pub made_kept : Keeps HasAllMade
  made_kept policy topology before event c w = subst (λ (u : World). AreMade u.notes.frames) (sym (steps policy topology before event).now) (each_behind policy topology before event c w).made

  pub ready_kept : Keeps HasAllReady
  ready_kept policy topology before event c w = subst (λ (u : World). (node : NodeId) (site : Site) → site_at u node ≡ Some site → IsReadySite site) (sym (steps policy topology before event).now) (each_behind policy topology before event c w).sites
