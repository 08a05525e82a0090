-- a switch keeps pace with each input: the frame numbers of what waits at its ports, and its ports

use Rattle.std.proofs.Common.{◌≡◌, ℕ, zero, suc, ◌≤◌, ◌==◌, List, [], ◌∷◌, ◌++◌, length, Option, None, Some, refl, sym, ◌∙◌, ap, subst, arith, map, slice_set}
use Rattle.std.specs.Prelude.{nat_le, nat_lt, ◌&&◌, Result, Ok, Err}
use Rattle.std.specs.FinMap.{get}
use Rattle.world_model.specs.Words.{PortNo, Channel, End, Mark, Instance, Party, with_control, next_control, Cell, Said, Answer, Quiet, Send, Open, Step, is_estab, ticked, greeting_of, gsmp_answer, gsmp_received, Request, AddBranch, MoveBranch, DeleteTree, VerifyTree, PortManagement, Journal, noted, Loss, PoolFull, frame_cells, made, Tested, tested, Routed, Crossbar, queue_of, sent, switched, switched_on, on_channel_of, routed, Switch, control_port, gsmp_channel, numbers_of, with_port, asked_in, is_request, managed, ports_after, failure_of, Handled, handled, handled_asked, handled_by, reset, replied, requested, frame_read, gsmp_cell, switched_cell, is_gsmp, tick_comes, restarted}
use Rattle.world_model.specs.adjacency_table.declared.message.Answer.TheVariants.{Reset}
use Rattle.world_model.specs.gsmp_wire.declared.fault.Fault.{Fault}
use Rattle.world_model.specs.gsmp_wire.declared.message.Message.{Message}
use Rattle.world_model.specs.gsmp_wire.declared.message.Message.TheVariants as messages
use Rattle.world_model.specs.gsmp_wire.declared.request.Request.TheVariants.{DeleteAll, AllPorts}
use Rattle.world_model.specs.gsmp_wire.Layout.{octets_of}
use Rattle.world_model.specs.gsmp_wire.Fields.{decoded}
use Rattle.world_model.specs.frame_model.Sending.{Sender}
use Rattle.world_model.specs.frame_model.Reassembly.{Taken, taken}
use Rattle.ordered_lists.proofs.Every.{every_join}
use Rattle.world_model.specs.crossbar_model.declared.branch.Branch.{Branch}
use Rattle.world_model.specs.crossbar_model.declared.routed.Routed.TheVariants as routes
use Rattle.world_model.specs.crossbar_model.Crossbar.{input_of}
use Rattle.world_model.specs.switch_model.declared.port.PortState.{PortState}
use Rattle.world_model.specs.switch_model.declared.request.Asked.{Asked}
use Rattle.world_model.specs.gsmp_wire.declared.failure.Failure.{Failure}
use Rattle.world_model.specs.Switch.{ActedSwitch, free_slots, begun}
use Rattle.world_model.specs.Conduct.{with_cells, sends, says, answers, steps, message_heard, opened_frame, ends_frame, cell_routed, cell_comes}
use Rattle.law_actor_pace.specs.Pace.{IsUpTo, AreUpTo, AreAllUpTo}
use Rattle.law_actor_pace.proofs.Cells.{frame_up_to, every_set, every_at, on_both}

module _ (floor : ℕ) where
  pub record Paces (a b : ActedSwitch) : Type 0 where
    pub controls : a.numbers.controls ≤ b.numbers.controls
    pub queues : (most : ℕ) → floor ≤ most → b.numbers.controls ≤ most → AreAllUpTo most a.switch.crossbar.queues → AreAllUpTo most b.switch.crossbar.queues
    pub size : length b.switch.crossbar.queues ≡ length a.switch.crossbar.queues
    pub ports : numbers_of b.switch.ports ≡ numbers_of a.switch.ports

  itself : (a : ActedSwitch) → Paces a a
  itself a = record { controls = omega arith; queues = λ most from le h. h; size = refl; ports = refl }

  paces_then : (a b c : ActedSwitch) → Paces a b → Paces b c → Paces a c
  paces_then a b c p q = record {
    controls = omega (arith, p.controls, q.controls);
    queues = λ most from le h. q.queues most from le (p.queues most from (omega (arith, le, q.controls)) h);
    size = q.size ∙ p.size;
    ports = q.ports ∙ p.ports;
  }

  same : (a b : ActedSwitch) → b.numbers.controls ≡ a.numbers.controls → b.switch.crossbar.queues ≡ a.switch.crossbar.queues → numbers_of b.switch.ports ≡ numbers_of a.switch.ports → Paces a b
  same a b controls queues ports = record {
    controls = omega (arith, controls);
    queues = λ most from le h. subst (AreAllUpTo most) (sym queues) h;
    size = ap length queues;
    ports = ports;
  }

  length_set : {A : Type 0} (xs : List A) (i : ℕ) (y : A) → length (slice_set xs i y) ≡ length xs
  length_set [] i y = refl
  length_set (x ∷ xs) zero y = refl
  length_set (x ∷ xs) (suc i) y = ap suc (length_set xs i y)

  -- *Sending*
  put_up_to : (most : ℕ) (x : Crossbar) (port : PortNo) (cells : List Cell) → AreUpTo most cells → AreAllUpTo most x.queues → AreAllUpTo most (sent x port cells).queues
  put_up_to most x port cells low h = every_set (AreUpTo most) x.queues port.0 (queue_of x port ++ cells) h
      (every_join (IsUpTo most) (queue_of x port) cells (every_at (AreUpTo most) x.queues port.0 [] h tt) low)

  pub sends_paces : (a : ActedSwitch) (port : PortNo) (channel : Channel) (mark : Mark) (payload : List ℕ)
      → ((most : ℕ) → floor ≤ most → a.numbers.controls ≤ most → mark.frame ≤ most) → Paces a (sends a port channel mark payload)
  sends_paces a port channel mark payload low = on_both (λ (s : Sender Switch). Paces a (record a { switch = s.queues; notes = s.notes })) (nat_le (length (frame_cells channel mark payload)) (free_slots a.switch))
      (record { queues = with_cells a.switch port (frame_cells channel mark payload); notes = made a.notes mark payload })
      (record { queues = a.switch; notes = noted (made a.notes mark payload) (Loss mark PoolFull) })
      (record {
        controls = omega arith;
        queues = λ most from le h. put_up_to most a.switch.crossbar port (frame_cells channel mark payload) (frame_up_to most channel mark payload (low most from le)) h;
        size = length_set a.switch.crossbar.queues port.0 (queue_of a.switch.crossbar port ++ frame_cells channel mark payload);
        ports = refl;
      })
      (record { controls = omega arith; queues = λ most from le h. h; size = refl; ports = refl })

  says_paces : (a : ActedSwitch) (message : Message) → Paces a (says a message)
  says_paces a message =
      let given : ActedSwitch = record a { numbers = with_control a.numbers } in
      paces_then a given (says a message) (record { controls = omega arith; queues = λ most from le h. h; size = refl; ports = refl })
      (sends_paces given control_port gsmp_channel (next_control a.numbers) (octets_of message) (λ most from le. le))

  -- *Adjacency*
  answers_paces : (a : ActedSwitch) (answer : Answer (Said Party) Party) → Paces a (answers a (gsmp_answer answer))
  answers_paces a Quiet = itself a
  answers_paces a (Send message) = says_paces a (messages.Adjacency (greeting_of message))
  answers_paces a (Open None own) = itself a
  answers_paces a (Open (Some message) own) = says_paces a (messages.Adjacency (greeting_of message))
  answers_paces a Reset = same a (reset a) refl refl refl

  steps_paces : (a : ActedSwitch) (step : Step Party) → Paces a (steps a step)
  steps_paces a step =
      let turned : ActedSwitch = record a { switch = record a.switch { adjacency = step.side } } in
      paces_then a turned (steps a step) (same a turned refl refl refl) (answers_paces turned step.answer)

  -- *Requests*
  numbers_kept : (port : PortNo) (function : ℕ) (states : List PortState) → numbers_of (with_port port (managed function) states) ≡ numbers_of states
  numbers_kept port function [] = refl
  numbers_kept port function (state ∷ states) = on_both (λ (ports : List PortState). numbers_of ports ≡ numbers_of (state ∷ states)) (state.number.0 == port.0)
      (managed function state ∷ states) (state ∷ with_port port (managed function) states) refl (ap (λ ps. state.number ∷ ps) (numbers_kept port function states))

  after_kept : (states : List PortState) (request : Request) → numbers_of (ports_after states request) ≡ numbers_of states
  after_kept states (AddBranch input output) = refl
  after_kept states (MoveBranch input from to) = refl
  after_kept states (DeleteTree input) = refl
  after_kept states (VerifyTree input) = refl
  after_kept states (DeleteAll port) = refl
  after_kept states (PortManagement port function) = numbers_kept port function states
  after_kept states AllPorts = refl

  record IsKept (s : Switch) (h : Handled) : Type 0 where
    queues : h.switch.crossbar.queues ≡ s.crossbar.queues
    ports : numbers_of h.switch.ports ≡ numbers_of s.ports

  handled_by_kept : (s : Switch) (notes : Journal) (m : Message) (request : Request) (failure : Option Failure) → IsKept s (handled_by s notes m request failure)
  handled_by_kept s notes m request (Some failure) = record { queues = refl; ports = refl }
  handled_by_kept s notes m request None = record { queues = refl; ports = after_kept s.ports request }

  handled_kept : (s : Switch) (notes : Journal) (m : Message) (asked : Option Asked) → IsKept s (handled_asked s notes m asked)
  handled_kept s notes m None = record { queues = refl; ports = refl }
  handled_kept s notes m (Some asked) = handled_by_kept s notes m asked.request (failure_of s.ports s.vpis s.crossbar.branches asked)

  requested_paces : (a : ActedSwitch) (m : Message) → Paces a (requested a m)
  requested_paces a m = on_both (Paces a) (is_request m && is_estab a.switch.adjacency.state) (replied a (handled a.switch a.notes m)) a replies (itself a)
    where
      replies : Paces a (replied a (handled a.switch a.notes m))
      replies =
          let h : Handled = handled a.switch a.notes m in
          let k : IsKept a.switch h = handled_kept a.switch a.notes m (asked_in m) in
          let b : ActedSwitch = record a { switch = h.switch; notes = h.notes } in
          paces_then a b (replied a h) (same a b refl k.queues k.ports) (says_paces b h.answer)

  told_paces : (a : ActedSwitch) (m : Message) → Paces a (message_heard a m)
  told_paces a (messages.Adjacency greeting) = steps_paces a (gsmp_received a.switch.adjacency greeting)
  told_paces a (messages.Branch kind result code number session input_port input output_port output branches priority) =
      requested_paces a (messages.Branch kind result code number session input_port input output_port output branches priority)
  told_paces a (messages.Move result code number session input_port input output_port output target_port target branches priority) =
      requested_paces a (messages.Move result code number session input_port input output_port output target_port target branches priority)
  told_paces a (messages.Port result code number port session function) = requested_paces a (messages.Port result code number port session function)
  told_paces a (messages.AllPorts result code number rows) = requested_paces a (messages.AllPorts result code number rows)

  -- *Frames*
  read_paces : (a : ActedSwitch) (r : Result Message Fault) → Paces a (frame_read a r)
  read_paces a (Ok m) = told_paces a m
  read_paces a (Err fault) = same a (frame_read a (Err fault)) refl refl refl

  opened_paces : (a : ActedSwitch) (o : Option (List ℕ)) → Paces a (opened_frame a o)
  opened_paces a None = itself a
  opened_paces a (Some payload) = read_paces a (decoded payload)

  ends_paces : (a : ActedSwitch) (cells : List Cell) → Paces a (ends_frame a cells)
  ends_paces a [] = itself a
  ends_paces a (cell ∷ cells) =
      let test : Tested = tested a.notes (cell ∷ cells) in
      let b : ActedSwitch = record a { notes = test.notes } in
      paces_then a b (ends_frame a (cell ∷ cells)) (same a b refl refl refl) (opened_paces b test.payload)

  gsmp_paces : (a : ActedSwitch) (cell : Cell) → Paces a (gsmp_cell a cell)
  gsmp_paces a cell =
      let t : Taken = taken a.notes (nat_lt 0 (free_slots a.switch)) a.switch.reassembly cell in
      let b : ActedSwitch = record a { switch = record a.switch { reassembly = t.reassembly }; notes = t.notes } in
      paces_then a b (gsmp_cell a cell) (same a b refl refl refl) (ends_paces b t.ended)

  -- *Cells*: one that goes on keeps its mark
  record Goes (x y : Crossbar) : Type 0 where
    queues : (most : ℕ) → floor ≤ most → AreAllUpTo most x.queues → AreAllUpTo most y.queues
    size : length y.queues ≡ length x.queues

  switched_goes : (x : Crossbar) (input : End) (o : Option Branch) (free : ℕ) (cell : Cell) → cell.mark.frame ≤ floor → Goes x (switched_on x input o free cell)
  switched_goes x input None free cell low = record { queues = λ most from h. h; size = refl }
  switched_goes x input (Some b) zero cell low = record { queues = λ most from h. h; size = refl }
  switched_goes x input (Some b) (suc n) cell low = record {
    queues = λ most from h. put_up_to most x b.output.port (on_channel_of cell b.output ∷ []) (omega (arith, low, from), tt) h;
    size = length_set x.queues b.output.port.0 (queue_of x b.output.port ++ on_channel_of cell b.output ∷ []);
  }

  passed_paces : (a : ActedSwitch) (port : PortNo) (cell : Cell) (r : Routed) → cell.mark.frame ≤ floor → Paces a (cell_routed a port cell r)
  passed_paces a port cell (routes.Out output) low =
      let x = a.switch.crossbar in
      let g : Goes x (switched x (free_slots a.switch) port cell) = switched_goes x (input_of port cell) (get x.branches (input_of port cell)) (free_slots a.switch) cell low in
      record { controls = omega arith; queues = λ most from le h. g.queues most from h; size = g.size; ports = refl }
  passed_paces a port cell routes.Unconnected low = same a (cell_routed a port cell routes.Unconnected) refl refl refl
  passed_paces a port cell routes.PoolFull low = same a (cell_routed a port cell routes.PoolFull) refl refl refl

  pub cell_paces : (a : ActedSwitch) (port : PortNo) (cell : Cell) → cell.mark.frame ≤ floor → Paces a (cell_comes a port cell)
  cell_paces a port cell low = on_both (Paces a) (is_gsmp port cell.header.channel) (gsmp_cell a cell) (switched_cell a port cell) (gsmp_paces a cell)
      (passed_paces a port cell (routed a.switch.crossbar (free_slots a.switch) port cell) low)

  -- *Ticks and restarts*
  pub tick_paces : (a : ActedSwitch) → Paces a (tick_comes a)
  tick_paces a = steps_paces a (ticked a.switch.adjacency)

  begun_kept : (own : Instance) (states : List PortState) → numbers_of (map (λ state. begun own state.number) states) ≡ numbers_of states
  begun_kept own [] = refl
  begun_kept own (state ∷ states) = ap (λ ps. state.number ∷ ps) (begun_kept own states)

  pub restart_paces : (a : ActedSwitch) → Paces a (restarted a)
  restart_paces a = same a (restarted a) refl refl (begun_kept _ a.switch.ports)
