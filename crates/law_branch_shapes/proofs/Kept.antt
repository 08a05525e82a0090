-- each input of a switch keeps the shapes of its branches

use Rattle.std.proofs.Common.{◌≡◌, ℕ, suc, zero, Bool, true, false, List, [], ◌∷◌, map, length, Option, None, Some, Result, Ok, Err, refl, ◌∙◌, ap, ap₂, if◌then◌else◌}
use Rattle.std.specs.Prelude.{nat_le, nat_lt, ◌&&◌}
use Rattle.std.specs.Option.{option_map, option_and_then}
use Rattle.std.specs.FinMap.{get, keys}
use Rattle.law_causes.specs.world_model.Words.{End, PortNo, Instance, Mark, Channel, next_control, with_control, Greeting, Party, Answer, Quiet, Send, Open, Step, is_estab, ticked, gsmp_answer, gsmp_received, Cell, Move, Request, Loss, PoolFull, Journal, noted, made, last_mark, payload_in, tested_by, frame_cells, Routed, Crossbar, unfinished_after, routed, switched_on, Standing, Switch, control_port, gsmp_channel, numbers_of, asked_in, is_request, ports_after, failure_of, handled_by, handled_asked, handled, replied, requested, frame_read, gsmp_cell, switched_cell, is_gsmp, Setup, gsmp_of, copy_by, copy_of}
use Rattle.law_causes.specs.world_model.adjacency_table.declared.message.Answer.TheVariants.{Reset}
use Rattle.law_causes.specs.world_model.gsmp_wire.declared.fault.Fault.{Fault}
use Rattle.law_causes.specs.world_model.gsmp_wire.declared.message.Message.{Message}
use Rattle.law_causes.specs.world_model.gsmp_wire.declared.message.Message.TheVariants.{Adjacency, Branch as BranchMessage, Port, AllPorts as AllPortsMessage}
use Rattle.law_causes.specs.world_model.gsmp_wire.Layout.{octets_of as message_octets}
use Rattle.law_causes.specs.world_model.gsmp_wire.Fields.{decoded}
use Rattle.law_causes.specs.world_model.frame_model.Frame.{octets_of, passed_test}
use Rattle.law_causes.specs.world_model.frame_model.Sending.{Sender}
use Rattle.law_causes.specs.world_model.frame_model.Reassembly.{Taken, taken}
use Rattle.law_causes.specs.world_model.crossbar_model.declared.branch.Branch.{Branch}
use Rattle.law_causes.specs.world_model.crossbar_model.declared.routed.Routed.TheVariants as routes
use Rattle.law_causes.specs.world_model.crossbar_model.Crossbar.{input_of}
use Rattle.law_causes.specs.world_model.switch_model.declared.port.PortState.{PortState}
use Rattle.law_causes.specs.world_model.switch_model.declared.request.Asked.{Asked}
use Rattle.law_causes.specs.world_model.gsmp_wire.declared.failure.Failure.{Failure}
use Rattle.law_causes.specs.world_model.Switch.{ActedSwitch, free_slots, begun}
use Rattle.law_causes.specs.world_model.Conduct.{sends, with_cells, says, answers, steps, message_heard, after_test, ends_frame, cell_routed as passed_cell}
use Rattle.law_world_views.specs.law_port_facts.Port.{IsShaped, asks_ports, empties_control, empties_port, opens_input, opens_output, leads_label, leads_grant, joins_label, parts_label, frees_label}
use Rattle.law_world_views.proofs.law_port_facts.Keyed.{on_both}
use Rattle.law_causes.specs.world_model.Ways.{ok_of as heard}
use Rattle.law_branch_shapes.specs.Shapes.{AreShaped, HasShapes, Brings, CellsKeepShapes, TicksKeepShapes, RestartsKeepShapes}
use Rattle.law_branch_shapes.proofs.Asked.{shaped_put, ended_all, asked_shaped}

-- *What a request says of itself*: under its number it is a copy
pub copy_as : (result code number : ℕ) {t : Bool} {found : Option Asked} (asked : Asked) → t ≡ true → found ≡ Some asked
    → (if t then copy_by (Some (record { result = result; code = code; number = number })) found else None) ≡ Some (record { number = number; request = asked.request })
copy_as result code number asked is e = ap₂ (λ (b : Bool) (o : Option Asked). if b then copy_by (Some (record { result = result; code = code; number = number })) o else None) is e

pub copy_is : (m : Message) (asked : Asked) → is_request m ≡ true → asked_in m ≡ Some asked → (number : ℕ) × (copy_of m ≡ Some (record { number = number; request = asked.request }))
copy_is (Adjacency greeting) asked r e = absurd (cc e)
copy_is (BranchMessage kind result code number session input_port input output_port output branches priority) asked r e = (number, copy_as result code number asked r e)
copy_is (Move result code number session input_port input output_port output target_port target branches priority) asked r e = (number, copy_as result code number asked r e)
copy_is (Port result code number port session function) asked r e = (number, copy_as result code number asked r e)
copy_is (AllPortsMessage result code number rows) asked r e = (number, copy_as result code number asked r e)

module _ (setups : List Setup) where
  abbrev Fits : ActedSwitch → Type 0
  Fits a = HasShapes setups a.switch

  -- *What touches no branch*
  pub sends_keeps : (a : ActedSwitch) (port : PortNo) (channel : Channel) (mark : Mark) (payload : List ℕ) → Fits a → Fits (sends a port channel mark payload)
  sends_keeps a port channel mark payload h = on_both (λ (s : Sender Switch). HasShapes setups s.queues) (nat_le (length (frame_cells channel mark payload)) (free_slots a.switch))
      (record { queues = with_cells a.switch port (frame_cells channel mark payload); notes = made a.notes mark payload })
      (record { queues = a.switch; notes = noted (made a.notes mark payload) (Loss mark PoolFull) })
      (record { branches = h.branches; ports = h.ports }) h

  says_keeps : (a : ActedSwitch) (m : Message) → Fits a → Fits (says a m)
  says_keeps a m h = sends_keeps (record a { numbers = with_control a.numbers }) control_port gsmp_channel (next_control a.numbers) (message_octets m) h

  answers_keep : (a : ActedSwitch) (answer : Answer Greeting Party) → Fits a → Fits (answers a answer)
  answers_keep a Quiet h = h
  answers_keep a (Send greeting) h = says_keeps a (Adjacency greeting) h
  answers_keep a (Open None key) h = h
  answers_keep a (Open (Some greeting) key) h = says_keeps a (Adjacency greeting) h
  answers_keep a Reset h = record { branches = h.branches; ports = h.ports }

  steps_keep : (a : ActedSwitch) (step : Step Party) → Fits a → Fits (steps a step)
  steps_keep a step h = answers_keep (record a { switch = record a.switch { adjacency = step.side } }) (gsmp_answer step.answer) (record { branches = h.branches; ports = h.ports })

  -- *A request*: none that has a shape manages a port
  same_ports : (request : Request) → IsShaped setups request → (ports : List PortState) → ports_after ports request ≡ ports
  same_ports _ asks_ports ports = refl
  same_ports _ (empties_control port none) ports = refl
  same_ports _ (empties_port port linked) ports = refl
  same_ports _ (opens_input end e) ports = refl
  same_ports _ (opens_output end e) ports = refl
  same_ports _ (leads_label end e) ports = refl
  same_ports _ (leads_grant end e) ports = refl
  same_ports _ (joins_label input output i o) ports = refl
  same_ports _ (parts_label input output i o) ports = refl
  same_ports _ (frees_label end e) ports = refl

  handled_keeps : (s : Switch) (notes : Journal) (m : Message) → is_request m ≡ true → ((copy : Standing) → copy_of m ≡ Some copy → IsShaped setups copy.request) → HasShapes setups s → HasShapes setups (handled s notes m).switch
  handled_keeps s notes m r shaped h = by (asked_in m) refl
    where
      by_failure : (asked : Asked) → IsShaped setups asked.request → (o : Option Failure) → failure_of s.ports s.vpis s.crossbar.branches asked ≡ o → HasShapes setups (handled_by s notes m asked.request o).switch
      by_failure asked shape (Some failure) is = h
      by_failure asked shape None is = record {
        branches = asked_shaped setups s.ports s.vpis s.crossbar.branches asked is shape (record { branches = s.crossbar.branches; notes = notes }) h.branches;
        ports = ap numbers_of (same_ports asked.request shape s.ports) ∙ h.ports;
      }

      by : (o : Option Asked) → asked_in m ≡ o → HasShapes setups (handled_asked s notes m o).switch
      by None is = h
      by (Some asked) is = (let copy = copy_is m asked r is in by_failure asked (shaped (record { number = copy.0; request = asked.request }) copy.1) (failure_of s.ports s.vpis s.crossbar.branches asked) refl)

  requested_keeps : (a : ActedSwitch) (m : Message) → ((copy : Standing) → copy_of m ≡ Some copy → IsShaped setups copy.request) → Fits a → Fits (requested a m)
  requested_keeps a m shaped h = by (is_request m) refl (is_estab a.switch.adjacency.state)
    where
      by : (t : Bool) → is_request m ≡ t → (estab : Bool) → Fits (if t && estab then replied a (handled a.switch a.notes m) else a)
      by true r true = says_keeps (record a { switch = (handled a.switch a.notes m).switch; notes = (handled a.switch a.notes m).notes }) (handled a.switch a.notes m).answer (handled_keeps a.switch a.notes m r shaped h)
      by true r false = h
      by false r estab = h

  told_keeps : (a : ActedSwitch) (m : Message) → ((copy : Standing) → copy_of m ≡ Some copy → IsShaped setups copy.request) → Fits a → Fits (message_heard a m)
  told_keeps a (Adjacency greeting) shaped h = steps_keep a (gsmp_received a.switch.adjacency greeting) h
  told_keeps a (BranchMessage kind result code number session input_port input output_port output branches priority) shaped h =
      requested_keeps a (BranchMessage kind result code number session input_port input output_port output branches priority) shaped h
  told_keeps a (Move result code number session input_port input output_port output target_port target branches priority) shaped h =
      requested_keeps a (Move result code number session input_port input output_port output target_port target branches priority) shaped h
  told_keeps a (Port result code number port session function) shaped h = requested_keeps a (Port result code number port session function) shaped h
  told_keeps a (AllPortsMessage result code number rows) shaped h = requested_keeps a (AllPortsMessage result code number rows) shaped h

  -- *A frame* of the GSMP channel
  read_keeps : (a : ActedSwitch) (payload : List ℕ) (r : Result Message Fault) → decoded payload ≡ r → ((copy : Standing) → option_and_then copy_of (gsmp_of payload) ≡ Some copy → IsShaped setups copy.request) → Fits a → Fits (frame_read a r)
  read_keeps a payload (Err fault) is shaped h = record { branches = h.branches; ports = h.ports }
  read_keeps a payload (Ok m) is shaped h = told_keeps a m (λ copy e. shaped copy (ap (λ (r : Result Message Fault). option_and_then copy_of (heard r)) is ∙ e)) h

  gsmp_keeps : (a : ActedSwitch) (cell : Cell) → Brings setups a cell → Fits a → Fits (gsmp_cell a cell)
  gsmp_keeps a cell brings h = by t.ended refl
    where
      t : Taken
      t = taken a.notes (nat_lt 0 (free_slots a.switch)) a.switch.reassembly cell

      b : ActedSwitch
      b = record a { switch = record a.switch { reassembly = t.reassembly }; notes = t.notes }

      by_payload : (first : Cell) (cells : List Cell) → t.ended ≡ first ∷ cells → (o : Option (List ℕ)) → payload_in (octets_of (first ∷ cells)) ≡ o → Fits (after_test b (tested_by t.notes (first ∷ cells) o))
      by_payload first cells e None is = record { branches = h.branches; ports = h.ports }
      by_payload first cells e (Some payload) is =
          read_keeps (record b { notes = passed_test t.notes (last_mark (first ∷ cells)) payload }) payload (decoded payload) refl
          (λ copy asked. brings.asks copy (ap (λ o. option_and_then copy_of (option_and_then gsmp_of o)) (brings.passes first cells payload e is) ∙ asked)) (record { branches = h.branches; ports = h.ports })

      by : (cells : List Cell) → t.ended ≡ cells → Fits (ends_frame b cells)
      by [] e = record { branches = h.branches; ports = h.ports }
      by (first ∷ cells) e = by_payload first cells e (payload_in (octets_of (first ∷ cells))) refl

  -- *A cell of another channel* leaves a branch that leads where it led
  switched_on_keeps : (x : Crossbar) (input : End) (cell : Cell) (o : Option Branch) → get x.branches input ≡ o → (free : ℕ) → AreShaped setups x.branches → AreShaped setups (switched_on x input o free cell).branches
  switched_on_keeps x input cell None is free h = h
  switched_on_keeps x input cell (Some b) is zero h = h
  switched_on_keeps x input cell (Some b) is (suc free) h = shaped_put setups x.branches input (record b { unfinished = unfinished_after cell }) (h input b.output (ap (option_map (λ (y : Branch). y.output)) is)) h

  switched_keeps : (a : ActedSwitch) (port : PortNo) (cell : Cell) → Fits a → Fits (switched_cell a port cell)
  switched_keeps a port cell h = by (routed a.switch.crossbar (free_slots a.switch) port cell)
    where
      by : (r : Routed) → Fits (passed_cell a port cell r)
      by (routes.Out output) = record {
        branches = switched_on_keeps a.switch.crossbar (input_of port cell) cell (get a.switch.crossbar.branches (input_of port cell)) refl (free_slots a.switch) h.branches;
        ports = h.ports;
      }
      by routes.Unconnected = (record { branches = h.branches; ports = h.ports })
      by routes.PoolFull = (record { branches = h.branches; ports = h.ports })

  -- *A tick and a restart*
  begun_numbers : (own : Instance) (states : List PortState) → numbers_of (map (λ (state : PortState). begun own state.number) states) ≡ numbers_of states
  begun_numbers own [] = refl
  begun_numbers own (state ∷ states) = ap (λ (rest : List PortNo). state.number ∷ rest) (begun_numbers own states)

pub cells_keep : CellsKeepShapes
cells_keep setups a port cell brings h = by (is_gsmp port cell.header.channel) refl
  where
    by : (t : Bool) → is_gsmp port cell.header.channel ≡ t → HasShapes setups (if t then gsmp_cell a cell else switched_cell a port cell).switch
    by true is = gsmp_keeps setups a cell (brings is) h
    by false is = switched_keeps setups a port cell h

pub ticks_keep : TicksKeepShapes
ticks_keep setups a h = steps_keep setups a (ticked a.switch.adjacency) h

pub restarts_keep : RestartsKeepShapes
restarts_keep setups a h = record {
  branches = ended_all setups (keys a.switch.crossbar.branches) (record { branches = a.switch.crossbar.branches; notes = a.notes }) h.branches;
  ports = begun_numbers setups _ a.switch.ports ∙ h.ports;
}
