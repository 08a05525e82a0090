-- what a switch puts on its queue to the controller: messages of GSMP on their channel, and what comes by a port of a link

use Rattle.std.proofs.Common.{◌≡◌, ℕ, zero, suc, ◌+◌, Bool, List, [], ◌∷◌, ◌++◌, length, Option, None, Some, Result, Ok, Err, refl, sym, ◌∙◌, ap, subst}
use Rattle.std.specs.Prelude.{◌==◌, ◌&&◌, nat_le, nat_lt, slice_set, slice_index_or}
use Rattle.std.specs.Option.{option_map}
use Rattle.std.specs.FinMap.{get, keys}
use Rattle.world_model.specs.Words.{PortNo, End, Mark, Party, Cell, Said, Answer, Quiet, Send, Open, Step, is_estab, ticked, greeting_of, gsmp_answer, gsmp_received, Request, AddBranch, MoveBranch, DeleteTree, VerifyTree, PortManagement, Frame, Loss, PoolFull, Journal, noted, frame_cells, made, Tested, tested, Routed, Crossbar, queue_of, switched_on, on_channel_of, routed, cut_by_move, Switch, control_port, gsmp_channel, Changed, asked_in, is_request, noted_cut, moved_by, ended_by, all_ended, inputs_on, branches_after, failure_of, Handled, handled, handled_asked, handled_by, replied, requested, frame_read, gsmp_cell, switched_cell, is_gsmp, restarted, port_on}
use Rattle.world_model.specs.adjacency_table.declared.message.Answer.TheVariants.{Reset}
use Rattle.world_model.specs.gsmp_wire.declared.fault.Fault.{Fault}
use Rattle.world_model.specs.gsmp_wire.declared.message.Message.{Message}
use Rattle.world_model.specs.gsmp_wire.declared.message.Message.TheVariants as messages
use Rattle.world_model.specs.gsmp_wire.declared.request.Request.TheVariants.{DeleteAll, AllPorts}
use Rattle.world_model.specs.gsmp_wire.Layout.{octets_of}
use Rattle.world_model.specs.gsmp_wire.Fields.{decoded}
use Rattle.world_model.specs.frame_model.Sending.{Sender}
use Rattle.world_model.specs.frame_model.Reassembly.{Taken, taken}
use Rattle.law_frame_readings.proofs.ordered_lists.Every.{every_join}
use Rattle.law_frame_readings.proofs.law_port_facts.Keyed.{on_both}
use Rattle.world_model.specs.crossbar_model.declared.branch.Branch.{Branch}
use Rattle.world_model.specs.crossbar_model.declared.routed.Routed.TheVariants as routes
use Rattle.world_model.specs.crossbar_model.Crossbar.{input_of, output_of}
use Rattle.world_model.specs.switch_model.declared.request.Asked.{Asked}
use Rattle.world_model.specs.gsmp_wire.declared.failure.Failure.{Failure}
use Rattle.world_model.specs.Switch.{ActedSwitch, free_slots}
use Rattle.world_model.specs.Requests.{branch_ended}
use Rattle.world_model.specs.Conduct.{with_cells, says, answers, steps, message_heard, opened_frame, ends_frame, cell_routed, cell_comes}
use Rattle.law_run_facts.specs.Inputs.{SwitchInput, CellComes, Ticks, Restarts, switch_takes}
use Rattle.law_run_facts.specs.Frames.{IsFree}
use Rattle.law_run_facts.proofs.Taking.{cut_frames, taken_frames, tested_frames}
use Rattle.law_run_facts.proofs.Frames.{free_next}
use Rattle.law_control_places.proofs.Controllers.{link, IsRight, AreRight, rights_later, next_stays, gsmp_cells}

-- *Requests* make no frame
cut_quiet : (c d : Changed) (o : Option Mark) → d.notes ≡ noted_cut c.notes o → d.notes.frames ≡ c.notes.frames
cut_quiet c d None is = ap (λ (n : Journal). n.frames) is
cut_quiet c d (Some mark) is = ap (λ (n : Journal). n.frames) is

ended_quiet : (c : Changed) (input : End) (o : Option Branch) → (ended_by c input o).notes.frames ≡ c.notes.frames
ended_quiet c input None = refl
ended_quiet c input (Some b) = cut_quiet c (ended_by c input (Some b)) b.unfinished refl

all_quiet : (inputs : List End) (c : Changed) → (all_ended c inputs).notes.frames ≡ c.notes.frames
all_quiet [] c = refl
all_quiet (input ∷ inputs) c = all_quiet inputs (branch_ended c input) ∙ ended_quiet c input (get c.branches input)

moved_quiet : (c : Changed) (input to : End) (o : Option Branch) → (moved_by c input to o).notes.frames ≡ c.notes.frames
moved_quiet c input to None = refl
moved_quiet c input to (Some b) = cut_quiet c (moved_by c input to (Some b)) (cut_by_move b to) refl

after_quiet : (c : Changed) (request : Request) → (branches_after c request).notes.frames ≡ c.notes.frames
after_quiet c (AddBranch input output) = refl
after_quiet c (MoveBranch input from to) = moved_quiet c input to (get c.branches input)
after_quiet c (DeleteTree input) = ended_quiet c input (get c.branches input)
after_quiet c (VerifyTree input) = refl
after_quiet c (DeleteAll port) = all_quiet (inputs_on c.branches port) c
after_quiet c (PortManagement port function) = on_both (λ (d : Changed). d.notes.frames ≡ c.notes.frames) (function == 2) (all_ended c (inputs_on c.branches port)) c (all_quiet (inputs_on c.branches port) c) refl
after_quiet c AllPorts = refl

-- the queue to the controller, where one queue is set
pub queue_set : {A : Type 0} (P : List A → Type 0) (queues : List (List A)) (port : ℕ) (cells : List A) → P [] → P (slice_index_or queues 0 []) → (port ≡ 0 → P cells) → P (slice_index_or (slice_set queues port cells) 0 [])
queue_set P [] port cells none old new = none
queue_set P (queue ∷ queues) zero cells none old new = new refl
queue_set P (queue ∷ queues) (suc port) cells none old new = old

module _ (L : PortNo → Type 0) where
  -- *A switch*
  abbrev pub IsGood : ActedSwitch → Type 0
  IsGood a = IsFree a.numbers.controls a.notes.frames × AreRight L a.notes.frames (queue_of a.switch.crossbar control_port)

  same : (a b : ActedSwitch) → b.switch.crossbar.queues ≡ a.switch.crossbar.queues → b.notes.frames ≡ a.notes.frames → b.numbers.controls ≡ a.numbers.controls → IsGood a → IsGood b
  same a b queues frames numbers h = (
    subst (λ (n : ℕ). IsFree n b.notes.frames) (sym numbers) (subst (IsFree a.numbers.controls) (sym frames) h.0),
    subst (λ (f : List Frame). AreRight L f (slice_index_or b.switch.crossbar.queues 0 [])) (sym frames) (subst (λ (qs : List (List Cell)). AreRight L a.notes.frames (slice_index_or qs 0 [])) (sym queues) h.1),
  )

  says_good : (a : ActedSwitch) (message : Message) → IsGood a → IsGood (says a message)
  says_good a message h =
      let mark : Mark = record { packet = 0; frame = a.numbers.controls + 1 } in
      let payload : List ℕ = octets_of message in
      let new : List Frame = a.notes.frames ++ record { mark = mark; payload = payload } ∷ [] in
      let old : AreRight L new (queue_of a.switch.crossbar control_port) = rights_later L a.notes.frames new (next_stays L a.numbers.controls a.notes.frames payload h.0) (queue_of a.switch.crossbar control_port) h.1 in
      let free : IsFree (a.numbers.controls + 1) new = free_next a.numbers.controls a.notes.frames payload h.0 in
      on_both (λ (s : Sender Switch). IsFree (a.numbers.controls + 1) s.notes.frames × AreRight L s.notes.frames (queue_of s.queues.crossbar control_port)) (nat_le (length (frame_cells gsmp_channel mark payload)) (free_slots a.switch))
      (record { queues = with_cells a.switch control_port (frame_cells gsmp_channel mark payload); notes = made a.notes mark payload })
      (record { queues = a.switch; notes = noted (made a.notes mark payload) (Loss mark PoolFull) }) (
        free,
        queue_set (AreRight L new) a.switch.crossbar.queues 0 (queue_of a.switch.crossbar control_port ++ frame_cells gsmp_channel mark payload) tt old
            (λ e. every_join (IsRight L new) (queue_of a.switch.crossbar control_port) (frame_cells gsmp_channel mark payload) old (gsmp_cells L a.notes.frames mark message)),
      ) (free, old)

  answers_good : (a : ActedSwitch) (answer : Answer (Said Party) Party) → IsGood a → IsGood (answers a (gsmp_answer answer))
  answers_good a Quiet h = h
  answers_good a (Send message) h = says_good a (messages.Adjacency (greeting_of message)) h
  answers_good a (Open None own) h = h
  answers_good a (Open (Some message) own) h = says_good a (messages.Adjacency (greeting_of message)) h
  answers_good a Reset h = h

  steps_good : (a : ActedSwitch) (step : Step Party) → IsGood a → IsGood (steps a step)
  steps_good a step h = answers_good (record a { switch = record a.switch { adjacency = step.side } }) step.answer h

  abbrev handled_as : ActedSwitch → Handled → ActedSwitch
  handled_as a h = record a { switch = h.switch; notes = h.notes }

  handled_good : (a : ActedSwitch) (m : Message) (o : Option Asked) → IsGood a → IsGood (handled_as a (handled_asked a.switch a.notes m o))
  handled_good a m None h = h
  handled_good a m (Some asked) h = by (failure_of a.switch.ports a.switch.vpis a.switch.crossbar.branches asked)
    where
      by : (o : Option Failure) → IsGood (handled_as a (handled_by a.switch a.notes m asked.request o))
      by (Some failure) = h
      by None = same a (handled_as a (handled_by a.switch a.notes m asked.request None)) refl (after_quiet (record { branches = a.switch.crossbar.branches; notes = a.notes }) asked.request) refl h

  requested_good : (a : ActedSwitch) (m : Message) → IsGood a → IsGood (requested a m)
  requested_good a m h = on_both IsGood (is_request m && is_estab a.switch.adjacency.state) (replied a (handled a.switch a.notes m)) a
      (says_good (handled_as a (handled a.switch a.notes m)) (handled a.switch a.notes m).answer (handled_good a m (asked_in m) h)) h

  told_good : (a : ActedSwitch) (m : Message) → IsGood a → IsGood (message_heard a m)
  told_good a (messages.Adjacency greeting) h = steps_good a (gsmp_received a.switch.adjacency greeting) h
  told_good a (messages.Branch kind result code number session input_port input output_port output branches priority) h =
      requested_good a (messages.Branch kind result code number session input_port input output_port output branches priority) h
  told_good a (messages.Move result code number session input_port input output_port output target_port target branches priority) h =
      requested_good a (messages.Move result code number session input_port input output_port output target_port target branches priority) h
  told_good a (messages.Port result code number port session function) h = requested_good a (messages.Port result code number port session function) h
  told_good a (messages.AllPorts result code number rows) h = requested_good a (messages.AllPorts result code number rows) h

  -- *Frames*
  read_good : (a : ActedSwitch) (r : Result Message Fault) → IsGood a → IsGood (frame_read a r)
  read_good a (Ok m) h = told_good a m h
  read_good a (Err fault) h = h

  opened_good : (a : ActedSwitch) (o : Option (List ℕ)) → IsGood a → IsGood (opened_frame a o)
  opened_good a None h = h
  opened_good a (Some payload) h = read_good a (decoded payload) h

  ends_good : (a : ActedSwitch) (cells : List Cell) → IsGood a → IsGood (ends_frame a cells)
  ends_good a [] h = h
  ends_good a (cell ∷ cells) h =
      let test : Tested = tested a.notes (cell ∷ cells) in
      opened_good (record a { notes = test.notes }) test.payload (same a (record a { notes = test.notes }) refl (tested_frames a.notes (cell ∷ cells)) refl h)

  gsmp_good : (a : ActedSwitch) (cell : Cell) → IsGood a → IsGood (gsmp_cell a cell)
  gsmp_good a cell h =
      let slot : Bool = nat_lt 0 (free_slots a.switch) in
      let t : Taken = taken a.notes slot a.switch.reassembly cell in
      let b : ActedSwitch = record a { switch = record a.switch { reassembly = t.reassembly }; notes = t.notes } in
      ends_good b t.ended (same a b refl (taken_frames a.notes slot a.switch.reassembly cell) refl h)

  -- *Cells* that go on, where branches to the controller are of ports of links
  abbrev pub LeadsHome : Crossbar → Type 0
  LeadsHome x = (input output : End) → output_of x.branches input ≡ Some output → output.port.0 ≡ 0 → L (port_on output.channel)

  switched_good : (frames : List Frame) (x : Crossbar) (input : End) (o : Option Branch) (free : ℕ) (cell : Cell) → LeadsHome x → get x.branches input ≡ o → AreRight L frames (queue_of x control_port)
      → AreRight L frames (queue_of (switched_on x input o free cell) control_port)
  switched_good frames x input None free cell leads is h = h
  switched_good frames x input (Some b) zero cell leads is h = h
  switched_good frames x input (Some b) (suc n) cell leads is h = queue_set (AreRight L frames) x.queues b.output.port.0 (queue_of x b.output.port ++ on_channel_of cell b.output ∷ []) tt h
      (λ e. every_join (IsRight L frames) (queue_of x b.output.port) (on_channel_of cell b.output ∷ []) (subst (λ (p : ℕ). AreRight L frames (slice_index_or x.queues p [])) (sym e) h)
      (λ none. link (leads input b.output (ap (λ (o : Option Branch). option_map (λ (b : Branch). b.output) o) is) e), tt))

  passed_good : (a : ActedSwitch) (port : PortNo) (cell : Cell) (r : Routed) → LeadsHome a.switch.crossbar → IsGood a → IsGood (cell_routed a port cell r)
  passed_good a port cell (routes.Out output) leads h =
      (h.0, switched_good a.notes.frames a.switch.crossbar (input_of port cell) (get a.switch.crossbar.branches (input_of port cell)) (free_slots a.switch) cell leads refl h.1)
  passed_good a port cell routes.Unconnected leads h = h
  passed_good a port cell routes.PoolFull leads h = h

  cell_good : (a : ActedSwitch) (port : PortNo) (cell : Cell) → LeadsHome a.switch.crossbar → IsGood a → IsGood (cell_comes a port cell)
  cell_good a port cell leads h = on_both IsGood (is_gsmp port cell.header.channel) (gsmp_cell a cell) (switched_cell a port cell) (gsmp_good a cell h)
      (passed_good a port cell (routed a.switch.crossbar (free_slots a.switch) port cell) leads h)

  restart_good : (a : ActedSwitch) → IsGood a → IsGood (restarted a)
  restart_good a h =
      let d : Changed = all_ended (record { branches = a.switch.crossbar.branches; notes = a.notes }) (keys a.switch.crossbar.branches) in
      same a (restarted a) refl (cut_frames d.notes a.switch.reassembly ∙ all_quiet (keys a.switch.crossbar.branches) (record { branches = a.switch.crossbar.branches; notes = a.notes })) refl h

  -- *Each input*
  pub switch_good : (a : ActedSwitch) (input : SwitchInput) → LeadsHome a.switch.crossbar → IsFree a.numbers.controls a.notes.frames × AreRight L a.notes.frames (queue_of a.switch.crossbar control_port)
      → AreRight L (switch_takes a input).notes.frames (queue_of (switch_takes a input).switch.crossbar control_port)
  switch_good a (CellComes port cell) leads h = (cell_good a port cell leads h).1
  switch_good a Ticks leads h = (steps_good a (ticked a.switch.adjacency) h).1
  switch_good a Restarts leads h = (restart_good a h).1
