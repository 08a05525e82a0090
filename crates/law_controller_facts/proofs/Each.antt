-- each rule of a controller keeps it sound, also in the midst of an event, and gives no number back

use Rattle.std.proofs.Common.{◌≡◌, ℕ, List, Some}
use Rattle.std.specs.Prelude.{Result}
use Rattle.claims_model.specs.world_model.Words.{PortNo, Channel, End, Mark, Party, RouteChange, Cell, is_estab, Request, MoveBranch, Action, Setup, home_of, Work, Linked, linked_at, sends_control, asks, takes_back, withdraws_input, begins, node_resets, node_restarts, Rule, resets_port, performs_in_estab, works_as, at_port, forwards_packet, releases_input, resets_spent, releases, tries_join, tries_joins, begins_change, takes_changes, change_comes, meets, causes, clears, gsmp_holds, sends_again, ticks_port, ticks_ports}
use Rattle.claims_model.specs.world_model.adjacency_table.Side as sides
use Rattle.claims_model.specs.world_model.gsmp_wire.declared.fault.Fault.{Fault}
use Rattle.claims_model.specs.world_model.gsmp_wire.declared.message.Message.{Message}
use Rattle.law_port_facts.specs.Port.{IsLabelEnd, IsShaped, IsAction}
use Rattle.claims_model.specs.world_model.Controller.{Acted}
use Rattle.claims_model.specs.world_model.Sending.{sends}
use Rattle.claims_model.specs.world_model.Meeting.{takes_success}
use Rattle.claims_model.specs.world_model.Gsmp.{steps}
use Rattle.claims_model.specs.world_model.Cells.{cell_comes}
use Rattle.claims_model.specs.world_model.Ticks.{ticks}
use Rattle.law_controller_facts.specs.Sound.{IsSound, NeverFall}
use Rattle.law_controller_facts.proofs.Moves.{IsGsmpTurn, Worked, Found, sending, sending_control, withdrawing, Moves, moves_to}
use Rattle.law_controller_facts.proofs.Performing.{node_resets_goes, node_restarts_goes, asks_goes, takes_back_goes, resets_port_goes, performs_in_estab_goes, works_as_goes, at_port_goes}
use Rattle.law_controller_facts.proofs.Joining.{begins_change_goes, takes_changes_goes, change_comes_goes, releases_input_goes, resets_spent_goes, releases_goes}
use Rattle.law_controller_facts.proofs.Entering.{tries_join_goes, tries_joins_goes}
use Rattle.law_controller_facts.proofs.Events.{routes_goes, meets_goes, causes_goes, clears_goes, done_request_goes, steps_goes, gsmp_holds_goes, cell_comes_goes, sends_again_goes, ticks_port_goes, ticks_ports_goes, controller_ticks_goes}
use Rattle.law_controller_facts.proofs.Numbers.{moves_never_fall}
use Rattle.law_controller_facts.proofs.Laws.{has_ports, moves_sound}

-- what a rule leaves is sound, and no number is given back
pub record Keeps (setups : List Setup) (a b : Acted) : Type 0 where
  pub sound : IsSound setups b.controller
  pub numbers : NeverFall a.numbers b.numbers

module _ (setups : List Setup) (a : Acted) (s : IsSound setups a.controller) where
  pub keeps : (b : Acted) → Moves setups a b → Keeps setups a b
  keeps b moves = record { sound = moves_sound setups a b moves s; numbers = moves_never_fall setups a b moves }

  -- *Sending* and *asking*
  pub sends_keeps : (channel : Channel) (mark : Mark) (payload : List ℕ) → Keeps setups a (sends a channel mark payload)
  sends_keeps channel mark payload = keeps (sends a channel mark payload) (moves_to (sending a channel mark payload))

  pub sends_control_keeps : (channel : Channel) (payload : List ℕ) → Keeps setups a (sends_control a channel payload)
  sends_control_keeps channel payload = keeps (sends_control a channel payload) (moves_to (sending_control a channel payload))

  pub asks_keeps : (request : Request) → IsShaped setups request → Keeps setups a (asks a request)
  asks_keeps request shaped = keeps (asks a request) (asks_goes setups a request (has_ports setups a s) shaped)

  pub takes_back_keeps : (input output : End) → IsShaped setups (MoveBranch input output (home_of input)) → Keeps setups a (takes_back a input output)
  takes_back_keeps input output shaped = keeps (takes_back a input output) (takes_back_goes setups a input output (has_ports setups a s) shaped)

  pub withdraws_keeps : (input : End) → Keeps setups a (withdraws_input a input)
  withdraws_keeps input = keeps (withdraws_input a input) (moves_to (withdrawing a input))

  -- *Resets*
  pub node_resets_keeps : Keeps setups a (node_resets a)
  node_resets_keeps = keeps (node_resets a) (node_resets_goes setups a (has_ports setups a s))

  pub node_restarts_keeps : Keeps setups a (node_restarts a)
  node_restarts_keeps = keeps (node_restarts a) (node_restarts_goes setups a (has_ports setups a s))

  pub resets_port_keeps : (port : PortNo) → Keeps setups a (resets_port a port)
  resets_port_keeps port = keeps (resets_port a port) (resets_port_goes setups a port (has_ports setups a s))

  -- *A port at work*, and each thing that it asked
  pub performs_keeps : (port : PortNo) (action : Action) → IsAction setups action → Keeps setups a (performs_in_estab port a action)
  performs_keeps port action fits = keeps (performs_in_estab port a action) (performs_in_estab_goes setups port a action (has_ports setups a s) fits)

  pub works_as_keeps : (linked : Linked) (w : Work) → Found setups a linked → Worked setups linked.setup a.controller.desk (begins a linked) w → Keeps setups a (works_as a linked w)
  works_as_keeps linked w found worked = keeps (works_as a linked w) (works_as_goes setups a linked w (has_ports setups a s) found worked)

  pub at_port_keeps : (port : PortNo) (rule : Rule)
      → ((linked : Linked) → linked_at a.controller port ≡ Some linked → Worked setups linked.setup a.controller.desk (begins a linked) (rule linked.setup a.controller.desk (begins a linked)))
      → Keeps setups a (at_port a port rule)
  at_port_keeps port rule worked = keeps (at_port a port rule) (at_port_goes setups a port rule (has_ports setups a s) worked)

  -- *Joins* and *changes of routes*
  pub releases_input_keeps : (input : End) → Keeps setups a (releases_input a input)
  releases_input_keeps input = keeps (releases_input a input) (releases_input_goes setups a input (has_ports setups a s))

  pub resets_spent_keeps : (port : PortNo) → Keeps setups a (resets_spent a port)
  resets_spent_keeps port = keeps (resets_spent a port) (resets_spent_goes setups a port (has_ports setups a s))

  pub releases_keeps : (request : Request) → Keeps setups a (releases a request)
  releases_keeps request = keeps (releases a request) (releases_goes setups a request (has_ports setups a s))

  pub tries_join_keeps : (input : End) → IsLabelEnd setups input → Keeps setups a (tries_join a input)
  tries_join_keeps input end = keeps (tries_join a input) (tries_join_goes setups a input (has_ports setups a s) end)

  pub tries_joins_keeps : Keeps setups a (tries_joins a)
  tries_joins_keeps = keeps (tries_joins a) (tries_joins_goes setups a (has_ports setups a s))

  pub begins_change_keeps : (change : RouteChange) → Keeps setups a (begins_change a change)
  begins_change_keeps change = keeps (begins_change a change) (begins_change_goes setups a change (has_ports setups a s))

  pub takes_changes_keeps : Keeps setups a (takes_changes a)
  takes_changes_keeps = keeps (takes_changes a) (takes_changes_goes setups a (has_ports setups a s))

  pub change_comes_keeps : (change : RouteChange) → Keeps setups a (change_comes a change)
  change_comes_keeps change = keeps (change_comes a change) (change_comes_goes setups a change (has_ports setups a s))

  -- *Meeting the switch*, and its answers
  pub meets_keeps : Keeps setups a (meets a)
  meets_keeps = keeps (meets a) (meets_goes setups a (has_ports setups a s))

  pub causes_keeps : (request : Request) → IsShaped setups request → Keeps setups a (causes a request)
  causes_keeps request shaped = keeps (causes a request) (causes_goes setups a request (has_ports setups a s) shaped)

  pub clears_keeps : Keeps setups a (clears a)
  clears_keeps = keeps (clears a) (clears_goes setups a (has_ports setups a s))

  pub done_keeps : (request : Request) → IsShaped setups request → Keeps setups a (takes_success a request)
  done_keeps request shaped = keeps (takes_success a request) (done_request_goes setups a request (has_ports setups a s) shaped)

  pub steps_keeps : (step : sides.Step Party) → IsGsmpTurn a.controller.adjacency step → Keeps setups a (steps a step)
  steps_keeps step turn = keeps (steps a step) (steps_goes setups a step turn (has_ports setups a s))

  pub gsmp_holds_keeps : (r : Result Message Fault) → Keeps setups a (gsmp_holds a r)
  gsmp_holds_keeps r = keeps (gsmp_holds a r) (gsmp_holds_goes setups a r (has_ports setups a s))

  -- *Packets*, *cells* and *ticks*
  pub routes_keeps : (came : Mark) (packet : List ℕ) → Keeps setups a (forwards_packet a came packet)
  routes_keeps came packet = keeps (forwards_packet a came packet) (routes_goes setups a came packet)

  pub cell_comes_keeps : (cell : Cell) → Keeps setups a (cell_comes a cell)
  cell_comes_keeps cell = keeps (cell_comes a cell) (cell_comes_goes setups a cell (has_ports setups a s))

  pub sends_again_keeps : Keeps setups a (sends_again a)
  sends_again_keeps = keeps (sends_again a) (sends_again_goes setups a (has_ports setups a s))

  pub ticks_port_keeps : (port : PortNo) → Keeps setups a (ticks_port a port)
  ticks_port_keeps port = keeps (ticks_port a port) (ticks_port_goes setups a port (has_ports setups a s))

  pub ticks_ports_keeps : Keeps setups a (ticks_ports a)
  ticks_ports_keeps = keeps (ticks_ports a) (ticks_ports_goes setups a (has_ports setups a s))

  pub ticks_keeps : Keeps setups a (ticks a)
  ticks_keeps = keeps (ticks a) (controller_ticks_goes setups a (has_ports setups a s))
