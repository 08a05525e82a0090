-- whatever comes to a controller or to a switch, but for its tick, its side was silent no longer than before

use Rattle.std.proofs.Common.{◌≡◌, ℕ, ◌≤◌, List, [], ◌∷◌, length, Option, None, Some, Result, Ok, Err, refl, sym, subst, arith}
use Rattle.std.specs.Prelude.{nat_le, nat_lt, ◌&&◌}
use Rattle.world_model.specs.Words.{PortNo, Channel, Mark, Cell, RouteChange, Action, Setup, Desk, Work, Loss, PoolFull, noted, frame_cells, made, next_control, with_control, Controller, Journal, Reassembly, sends_control, takes_change, ForGsmp, ForDefault, ForLabel, with_reassembly, Party, Step, Send, Open, Quiet, Answer, Greeting, payload_in, tested_by, gsmp_received, gsmp_answer, ticked, is_estab, asked_in, is_request, failure_of, Handled, handled, handled_asked, handled_by, Switch, control_port, gsmp_channel, is_gsmp, gsmp_cell, requested, replied, frame_read, switched_cell, Routed, routed, tick_comes}
use Rattle.world_model.specs.adjacency_table.declared.message.Answer.TheVariants.{Reset}
use Rattle.world_model.specs.gsmp_wire.declared.failure.Failure.{Failure}
use Rattle.world_model.specs.gsmp_wire.declared.fault.Fault.{Fault}
use Rattle.world_model.specs.gsmp_wire.declared.message.Message.{Message}
use Rattle.world_model.specs.gsmp_wire.declared.message.Message.TheVariants.{Adjacency, Branch, Move, Port, AllPorts}
use Rattle.world_model.specs.gsmp_wire.Layout.{octets_of as message_octets}
use Rattle.world_model.specs.gsmp_wire.Fields.{decoded}
use Rattle.world_model.specs.frame_model.Frame.{octets_of}
use Rattle.world_model.specs.frame_model.Reassembly.{Taken, taken}
use Rattle.world_model.specs.frame_model.Sending.{Sender}
use Rattle.world_model.specs.crossbar_model.declared.routed.Routed.TheVariants as routes
use Rattle.world_model.specs.switch_model.declared.request.Asked.{Asked}
use Rattle.world_model.specs.Controller.{Acted, free_slots}
use Rattle.world_model.specs.Switch as switches
use Rattle.world_model.specs.Switch.{ActedSwitch}
use Rattle.world_model.specs.Sending as controllers
use Rattle.world_model.specs.Conduct as conduct
use Rattle.world_model.specs.Conduct.{says, answers, steps, message_heard, after_test, ends_frame, cell_routed}
use Rattle.world_model.specs.Gsmp.{message_comes}
use Rattle.world_model.specs.Cells.{Taker, cell_comes}
use Rattle.world_model.specs.Ticks.{ticks}
use Rattle.law_link_parties.proofs.law_run_facts.law_controller_facts.law_port_facts.Keyed.{on_both}
use Rattle.law_link_parties.proofs.law_run_facts.law_controller_facts.Lifetimes.{decoded_lives}
use Rattle.law_link_parties.proofs.law_run_facts.ordered_lists.Every.{every_all}
use Rattle.law_link_parties.proofs.law_link_met.law_live_tables.law_rule_walks.Controllers.{Keeps, ticks_kept}
use Rattle.law_link_parties.proofs.law_link_met.law_live_tables.law_rule_walks.Changes as route_changes
use Rattle.law_link_parties.proofs.law_link_met.law_live_tables.law_rule_walks.Cells.{Forwards}
use Rattle.law_link_parties.proofs.law_link_met.law_live_tables.law_rule_walks.Cells as cells
use Rattle.law_live_begun.proofs.PeaceSides.{heard_lately}

module _ (n : ℕ) where
  -- *A controller*
  abbrev IsLate : Acted → Type 0
  IsLate a = a.controller.adjacency.silence ≤ n

  abbrev AnyWork : Setup → Desk → Work → Type 0
  AnyWork setup desk w = Unit {0}

  abbrev AnyAction : Setup → Action → Type 0
  AnyAction setup action = Unit {0}

  sends_late : (a : Acted) (channel : Channel) (mark : Mark) (payload : List ℕ) → IsLate a → IsLate (controllers.sends a channel mark payload)
  sends_late a channel mark payload h = on_both (λ (s : Sender Controller). s.queues.adjacency.silence ≤ n) (nat_le (length (frame_cells channel mark payload)) (free_slots a.controller))
      (record { queues = controllers.with_cells a.controller (frame_cells channel mark payload); notes = made a.notes mark payload })
      (record { queues = a.controller; notes = noted (made a.notes mark payload) (Loss mark PoolFull) }) h h

  control_late : (a : Acted) (channel : Channel) (payload : List ℕ) → IsLate a → IsLate (sends_control a channel payload)
  control_late a channel payload h = sends_late (record a { numbers = with_control a.numbers }) channel (next_control a.numbers) payload h

  keeps : Keeps (Unit {0}) IsLate AnyWork AnyAction
  keeps = record {
    beginning = λ a linked found h. tt;
    working = λ setup desk w v worked h. tt;
    asking = λ setup desk w h. every_all (AnyAction setup) w.actions (λ action. tt);
    placing = λ a linked w found works h. h;
    clearing = λ a linked found may h. h;
    saying = λ setup a message is h. control_late a _ _ h;
    noting = λ setup a item is h. h;
    withdrawing = λ setup a input is h. h;
    parting = λ a input h. h;
    telling = λ a message h. control_late a _ _ h;
    requesting = λ a request estab room h. h;
    resetting = λ a h. omega arith;
    emptying = λ a h. h;
    meeting = λ a h. h;
    cutting_label = λ a linked label found h. h;
    cutting_default = λ a linked found h. h;
    cutting_gsmp = λ a h. h;
    changing = λ a h. h;
  }

  forwards : Forwards IsLate
  forwards = record {
    sending = sends_late;
    sending_control = control_late;
    ending = λ a item is h. h;
  }

  takes_late : (a : Acted) (change : RouteChange) (later : List RouteChange) → a.controller.waiting ≡ change ∷ later → IsLate a → IsLate (takes_change a change later)
  takes_late a change later waits h = h

  told_late : (a : Acted) (message : Message) → IsLate a → IsLate (message_comes a message)
  told_late a message h = route_changes.told_kept keeps takes_late tt (λ b answer k. k) a message (λ greeting is. heard_lately n a.controller.adjacency greeting h) h

  gathered_late : (a : Acted) (taker : Taker) (notes : Journal) (r : Reassembly) → IsLate a → IsLate (with_reassembly (record a { notes = notes }) taker r)
  gathered_late a ForGsmp notes r h = h
  gathered_late a (ForDefault linked) notes r h = h
  gathered_late a (ForLabel linked label) notes r h = h

  -- a cell comes to it, and its tick
  pub cell_late : (a : Acted) (cell : Cell) → IsLate a → IsLate (cell_comes a cell)
  cell_late a cell h = cells.cell_kept forwards keeps tt decoded_lives told_late (λ b ended k. k) (λ b mark k. k) (λ b taker one found k. gathered_late b taker _ _ k) a cell h

  pub ticks_late : (a : Acted) → (ticked a.controller.adjacency).side.silence ≤ n → IsLate a → IsLate (ticks a)
  ticks_late a turned h = ticks_kept keeps tt a turned h

  -- *A switch*
  abbrev IsSwitchLate : ActedSwitch → Type 0
  IsSwitchLate a = a.switch.adjacency.silence ≤ n

  switch_sends_late : (a : ActedSwitch) (port : PortNo) (channel : Channel) (mark : Mark) (payload : List ℕ) → IsSwitchLate a → IsSwitchLate (conduct.sends a port channel mark payload)
  switch_sends_late a port channel mark payload h = on_both (λ (s : Sender Switch). s.queues.adjacency.silence ≤ n) (nat_le (length (frame_cells channel mark payload)) (switches.free_slots a.switch))
      (record { queues = conduct.with_cells a.switch port (frame_cells channel mark payload); notes = made a.notes mark payload })
      (record { queues = a.switch; notes = noted (made a.notes mark payload) (Loss mark PoolFull) }) h h

  says_late : (a : ActedSwitch) (message : Message) → IsSwitchLate a → IsSwitchLate (says a message)
  says_late a message h = switch_sends_late (record a { numbers = with_control a.numbers }) control_port gsmp_channel (next_control a.numbers) (message_octets message) h

  answers_late : (a : ActedSwitch) (answer : Answer Greeting Party) → IsSwitchLate a → IsSwitchLate (answers a answer)
  answers_late a Quiet h = h
  answers_late a (Send greeting) h = says_late a (Adjacency greeting) h
  answers_late a (Open None own) h = h
  answers_late a (Open (Some greeting) own) h = says_late a (Adjacency greeting) h
  answers_late a Reset h = omega arith

  steps_late : (a : ActedSwitch) (step : Step Party) → step.side.silence ≤ n → IsSwitchLate (steps a step)
  steps_late a step h = answers_late (record a { switch = record a.switch { adjacency = step.side } }) (gsmp_answer step.answer) h

  handled_side : (s : Switch) (notes : Journal) (message : Message) (o : Option Asked) → (handled_asked s notes message o).switch.adjacency ≡ s.adjacency
  handled_side s notes message None = refl
  handled_side s notes message (Some asked) = by (failure_of s.ports s.vpis s.crossbar.branches asked)
    where
      by : (o : Option Failure) → (handled_by s notes message asked.request o).switch.adjacency ≡ s.adjacency
      by (Some failure) = refl
      by None = refl

  requested_late : (a : ActedSwitch) (message : Message) → IsSwitchLate a → IsSwitchLate (requested a message)
  requested_late a message h =
      let x : Handled = handled a.switch a.notes message in
      on_both IsSwitchLate (is_request message && is_estab a.switch.adjacency.state) (replied a x) a
      (says_late (record a { switch = x.switch; notes = x.notes }) x.answer (subst (λ side. side.silence ≤ n) (sym (handled_side a.switch a.notes message (asked_in message))) h)) h

  heard_late : (a : ActedSwitch) (message : Message) → IsSwitchLate a → IsSwitchLate (message_heard a message)
  heard_late a (Adjacency greeting) h = steps_late a (gsmp_received a.switch.adjacency greeting) (heard_lately n a.switch.adjacency greeting h)
  heard_late a (Branch kind result code number session input_port input output_port output branches priority) h =
      requested_late a (Branch kind result code number session input_port input output_port output branches priority) h
  heard_late a (Move result code number session input_port input output_port output target_port target branches priority) h =
      requested_late a (Move result code number session input_port input output_port output target_port target branches priority) h
  heard_late a (Port result code number port session function) h = requested_late a (Port result code number port session function) h
  heard_late a (AllPorts result code number rows) h = requested_late a (AllPorts result code number rows) h

  read_late : (a : ActedSwitch) (r : Result Message Fault) → IsSwitchLate a → IsSwitchLate (frame_read a r)
  read_late a (Err fault) h = h
  read_late a (Ok message) h = heard_late a message h

  tests_late : (a : ActedSwitch) (chain : List Cell) (o : Option (List ℕ)) → IsSwitchLate a → IsSwitchLate (after_test a (tested_by a.notes chain o))
  tests_late a chain None h = h
  tests_late a chain (Some payload) h = read_late (record a { notes = (tested_by a.notes chain (Some payload)).notes }) (decoded payload) h

  ends_late : (a : ActedSwitch) (chain : List Cell) → IsSwitchLate a → IsSwitchLate (ends_frame a chain)
  ends_late a [] h = h
  ends_late a (cell ∷ chain) h = tests_late a (cell ∷ chain) (payload_in (octets_of (cell ∷ chain))) h

  gsmp_late : (a : ActedSwitch) (cell : Cell) → IsSwitchLate a → IsSwitchLate (gsmp_cell a cell)
  gsmp_late a cell h =
      let t : Taken = taken a.notes (nat_lt 0 (switches.free_slots a.switch)) a.switch.reassembly cell in
      ends_late (record a { switch = record a.switch { reassembly = t.reassembly }; notes = t.notes }) t.ended h

  routed_late : (a : ActedSwitch) (port : PortNo) (cell : Cell) (r : Routed) → IsSwitchLate a → IsSwitchLate (cell_routed a port cell r)
  routed_late a port cell (routes.Out output) h = h
  routed_late a port cell routes.Unconnected h = h
  routed_late a port cell routes.PoolFull h = h

  -- a cell comes to it, and its tick
  pub switch_cell_late : (a : ActedSwitch) (port : PortNo) (cell : Cell) → IsSwitchLate a → IsSwitchLate (conduct.cell_comes a port cell)
  switch_cell_late a port cell h = on_both IsSwitchLate (is_gsmp port cell.header.channel) (gsmp_cell a cell) (switched_cell a port cell)
      (gsmp_late a cell h) (routed_late a port cell (routed a.switch.crossbar (switches.free_slots a.switch) port cell) h)

  pub switch_tick_late : (a : ActedSwitch) → (ticked a.switch.adjacency).side.silence ≤ n → IsSwitchLate (tick_comes a)
  switch_tick_late a turned = steps_late a (ticked a.switch.adjacency) turned
