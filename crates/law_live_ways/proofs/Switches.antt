-- what a switch does keeps what a request keeps of its branches

use Rattle.std.proofs.Common.{◌≡◌, ℕ, zero, suc, Bool, true, false, List, [], ◌∷◌, length, Option, None, Some, Result, Ok, Err, refl, ◌∙◌, ap, if◌then◌else◌}
use Rattle.std.specs.Prelude.{nat_le, nat_lt, ◌&&◌}
use Rattle.std.specs.FinMap.{get, insert}
use Rattle.world_model.specs.Words.{PortNo, End, Channel, Mark, Party, next_control, with_control, Answer, Quiet, Send, Open, Said, Step, is_estab, ticked, greeting_of, gsmp_answer, gsmp_received, Cell, Loss, PoolFull, Journal, noted, made, last_mark, payload_in, tested_by, frame_cells, Branches, Routed, Crossbar, unfinished_after, routed, switched_on, Switch, control_port, gsmp_channel, Request, Changed, branches_after, asked_in, is_request, failure_of, handled_by, handled_asked, handled, replied, requested, frame_read, gsmp_cell, switched_cell, is_gsmp, tick_comes}
use Rattle.world_model.specs.adjacency_table.declared.message.Answer.TheVariants.{Reset}
use Rattle.world_model.specs.gsmp_wire.declared.fault.Fault.{Fault}
use Rattle.world_model.specs.gsmp_wire.declared.message.Message.{Message}
use Rattle.world_model.specs.gsmp_wire.declared.message.Message.TheVariants as messages
use Rattle.world_model.specs.gsmp_wire.Layout.{octets_of as message_octets}
use Rattle.world_model.specs.gsmp_wire.Fields.{decoded}
use Rattle.world_model.specs.frame_model.Frame.{octets_of, passed_test}
use Rattle.world_model.specs.frame_model.Sending.{Sender}
use Rattle.world_model.specs.frame_model.Reassembly.{Taken, taken}
use Rattle.world_model.specs.crossbar_model.declared.branch.Branch.{Branch}
use Rattle.world_model.specs.crossbar_model.declared.routed.Routed.TheVariants as routes
use Rattle.world_model.specs.crossbar_model.Crossbar.{input_of}
use Rattle.world_model.specs.switch_model.declared.request.Asked.{Asked}
use Rattle.world_model.specs.gsmp_wire.declared.failure.Failure.{Failure}
use Rattle.world_model.specs.Switch.{ActedSwitch, free_slots}
use Rattle.world_model.specs.Conduct.{sends, with_cells, says, answers, steps, message_heard, after_test, ends_frame, cell_routed, cell_comes}
use Rattle.law_run_facts.proofs.law_port_facts.Keyed.{on_both, on_each}
use Rattle.law_live_ways.specs.Requests.{AsksKeeping, KeepsWays, SwitchesKeepWays}
use Rattle.law_live_ways.proofs.Branches.{out_kept, home_kept}

-- *What is read* in the chain that a cell ends keeps ways open
abbrev ended_by : ActedSwitch → Cell → List Cell
ended_by a cell = (taken a.notes (nat_lt 0 (free_slots a.switch)) a.switch.reassembly cell).ended

abbrev pub ReadsKeeping : ActedSwitch → Cell → Type 0
ReadsKeeping a cell = (payload : List ℕ) (message : Message) → payload_in (octets_of (ended_by a cell)) ≡ Some payload → decoded payload ≡ Ok message → AsksKeeping message

module _ (P : Branches → Type 0) where
  abbrev pub Fits : ActedSwitch → Type 0
  Fits a = P a.switch.crossbar.branches

  -- *What touches no branch*
  pub sends_keeps : (a : ActedSwitch) (port : PortNo) (channel : Channel) (mark : Mark) (payload : List ℕ) → Fits a → Fits (sends a port channel mark payload)
  sends_keeps a port channel mark payload h = on_both (λ (s : Sender Switch). P s.queues.crossbar.branches) (nat_le (length (frame_cells channel mark payload)) (free_slots a.switch))
      (record { queues = with_cells a.switch port (frame_cells channel mark payload); notes = made a.notes mark payload })
      (record { queues = a.switch; notes = noted (made a.notes mark payload) (Loss mark PoolFull) }) h h

  says_keeps : (a : ActedSwitch) (message : Message) → Fits a → Fits (says a message)
  says_keeps a message h = sends_keeps (record a { numbers = with_control a.numbers }) control_port gsmp_channel (next_control a.numbers) (message_octets message) h

  answers_keep : (a : ActedSwitch) (answer : Answer (Said Party) Party) → Fits a → Fits (answers a (gsmp_answer answer))
  answers_keep a Quiet h = h
  answers_keep a (Send said) h = says_keeps a (messages.Adjacency (greeting_of said)) h
  answers_keep a (Open None key) h = h
  answers_keep a (Open (Some said) key) h = says_keeps a (messages.Adjacency (greeting_of said)) h
  answers_keep a Reset h = h

  steps_keep : (a : ActedSwitch) (step : Step Party) → Fits a → Fits (steps a step)
  steps_keep a step h = answers_keep (record a { switch = record a.switch { adjacency = step.side } }) step.answer h

  pub tick_keeps : (a : ActedSwitch) → Fits a → Fits (tick_comes a)
  tick_keeps a h = steps_keep a (ticked a.switch.adjacency) h

  -- *A request* that keeps it
  module _ (keeps : (request : Request) → KeepsWays request → (c : Changed) → P c.branches → P (branches_after c request).branches) where
    handled_keeps : (s : Switch) (notes : Journal) (message : Message) → is_request message ≡ true → AsksKeeping message → P s.crossbar.branches → P (handled s notes message).switch.crossbar.branches
    handled_keeps s notes message request asks h = by (asked_in message) refl
      where
        by_failure : (asked : Asked) → KeepsWays asked.request → (o : Option Failure) → P (handled_by s notes message asked.request o).switch.crossbar.branches
        by_failure asked kept (Some failure) = h
        by_failure asked kept None = keeps asked.request kept (record { branches = s.crossbar.branches; notes = notes }) h

        by : (o : Option Asked) → asked_in message ≡ o → P (handled_asked s notes message o).switch.crossbar.branches
        by None is = h
        by (Some asked) is = by_failure asked (asks asked request is) (failure_of s.ports s.vpis s.crossbar.branches asked)

    requested_keeps : (a : ActedSwitch) (message : Message) → AsksKeeping message → Fits a → Fits (requested a message)
    requested_keeps a message asks h = by (is_request message) refl (is_estab a.switch.adjacency.state)
      where
        by : (t : Bool) → is_request message ≡ t → (estab : Bool) → Fits (if t && estab then replied a (handled a.switch a.notes message) else a)
        by true request true = says_keeps (record a { switch = (handled a.switch a.notes message).switch; notes = (handled a.switch a.notes message).notes }) (handled a.switch a.notes message).answer
            (handled_keeps a.switch a.notes message request asks h)
        by true request false = h
        by false request estab = h

    pub heard_keeps : (a : ActedSwitch) (message : Message) → AsksKeeping message → Fits a → Fits (message_heard a message)
    heard_keeps a (messages.Adjacency greeting) asks h = steps_keep a (gsmp_received a.switch.adjacency greeting) h
    heard_keeps a (messages.Branch kind result code number session input_port input output_port output branches priority) asks h =
        requested_keeps a (messages.Branch kind result code number session input_port input output_port output branches priority) asks h
    heard_keeps a (messages.Move result code number session input_port input output_port output target_port target branches priority) asks h =
        requested_keeps a (messages.Move result code number session input_port input output_port output target_port target branches priority) asks h
    heard_keeps a (messages.Port result code number port session function) asks h = requested_keeps a (messages.Port result code number port session function) asks h
    heard_keeps a (messages.AllPorts result code number rows) asks h = requested_keeps a (messages.AllPorts result code number rows) asks h

    -- *A frame* of the GSMP channel, in which nothing else is read
    read_keeps : (a : ActedSwitch) (r : Result Message Fault) → ((message : Message) → r ≡ Ok message → AsksKeeping message) → Fits a → Fits (frame_read a r)
    read_keeps a (Err fault) asks h = h
    read_keeps a (Ok message) asks h = heard_keeps a message (asks message refl) h

    gsmp_keeps : (a : ActedSwitch) (cell : Cell) → ReadsKeeping a cell → Fits a → Fits (gsmp_cell a cell)
    gsmp_keeps a cell reads h = by t.ended refl
      where
        t : Taken
        t = taken a.notes (nat_lt 0 (free_slots a.switch)) a.switch.reassembly cell

        b : ActedSwitch
        b = record a { switch = record a.switch { reassembly = t.reassembly }; notes = t.notes }

        by_payload : (first : Cell) (cells : List Cell) → t.ended ≡ first ∷ cells → (o : Option (List ℕ)) → payload_in (octets_of (first ∷ cells)) ≡ o → Fits (after_test b (tested_by t.notes (first ∷ cells) o))
        by_payload first cells e None is = h
        by_payload first cells e (Some payload) is =
            read_keeps (record b { notes = passed_test t.notes (last_mark (first ∷ cells)) payload }) (decoded payload)
            (λ message read. reads payload message (ap (λ (ended : List Cell). payload_in (octets_of ended)) e ∙ is) read) h

        by : (cells : List Cell) → t.ended ≡ cells → Fits (ends_frame b cells)
        by [] e = h
        by (first ∷ cells) e = by_payload first cells e (payload_in (octets_of (first ∷ cells))) refl

    -- *A cell* of another channel leaves a branch that leads where it led
    module _ (again : (m : Branches) (k : End) (was b : Branch) → get m k ≡ Some was → b.output ≡ was.output → P m → P (insert m k b)) where
      switched_on_keeps : (x : Crossbar) (input : End) (cell : Cell) (o : Option Branch) → get x.branches input ≡ o → (free : ℕ) → P x.branches → P (switched_on x input o free cell).branches
      switched_on_keeps x input cell None is free h = h
      switched_on_keeps x input cell (Some b) is zero h = h
      switched_on_keeps x input cell (Some b) is (suc free) h = again x.branches input b (record b { unfinished = unfinished_after cell }) is refl h

      switched_keeps : (a : ActedSwitch) (port : PortNo) (cell : Cell) → Fits a → Fits (switched_cell a port cell)
      switched_keeps a port cell h = by (routed a.switch.crossbar (free_slots a.switch) port cell)
        where
          by : (r : Routed) → Fits (cell_routed a port cell r)
          by (routes.Out output) = switched_on_keeps a.switch.crossbar (input_of port cell) cell (get a.switch.crossbar.branches (input_of port cell)) refl (free_slots a.switch) h
          by routes.Unconnected = h
          by routes.PoolFull = h

      pub cell_keeps : (a : ActedSwitch) (port : PortNo) (cell : Cell) → (is_gsmp port cell.header.channel ≡ true → ReadsKeeping a cell) → Fits a → Fits (cell_comes a port cell)
      cell_keeps a port cell reads h = on_each Fits (is_gsmp port cell.header.channel) (gsmp_cell a cell) (switched_cell a port cell)
          (λ on. gsmp_keeps a cell (reads on) h) (λ off. switched_keeps a port cell h)

pub switches_keep_ways : SwitchesKeepWays
switches_keep_ways = record {
  hear = λ port a message some asks. record {
    out = heard_keeps _ (out_kept port some) a message asks;
    home = heard_keeps _ (home_kept port some) a message asks;
  };
  tick = λ a. tick_keeps (λ (m : Branches). m ≡ a.switch.crossbar.branches) a refl;
}
