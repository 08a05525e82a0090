-- what a switch does on the channel of GSMP is nothing to the lines of labels: its answers wait for its controller, and
-- frames are made

use Rattle.std.proofs.Common.{◌≡◌, ℕ, ◌≤◌, ◌<◌, ◌+◌, List, [], ◌∷◌, ◌++◌, length, Option, None, Some, Result, Ok, Err, refl, sym, ◌∙◌, ap, subst, arith}
use Rattle.std.specs.Prelude.{◌==◌, ◌&&◌, nat_le, nat_lt}
use Rattle.world_model.specs.Words.{End, Mark, Greeting, Party, next_control, with_control, Answer, Quiet, Send, Open, Step, is_estab, ticked, gsmp_answer, gsmp_received, Cell, Request, AddBranch, MoveBranch, DeleteTree, VerifyTree, PortManagement, Frame, Loss, PoolFull, Journal, noted, Tested, frame_cells, made, payload_in, tested, queue_of, cut_by_move, Switch, control_port, gsmp_channel, Changed, asked_in, is_request, noted_cut, moved_by, ended_by, all_ended, inputs_on, branches_after, failure_of, Handled, handled_by, handled_asked, handled, reset, replied, requested, frame_read, gsmp_cell, tick_comes}
use Rattle.world_model.specs.adjacency_table.declared.message.Answer.TheVariants.{Reset}
use Rattle.world_model.specs.gsmp_wire.declared.fault.Fault.{Fault}
use Rattle.world_model.specs.gsmp_wire.declared.message.Message.{Message}
use Rattle.world_model.specs.gsmp_wire.declared.message.Message.TheVariants as messages
use Rattle.world_model.specs.gsmp_wire.declared.request.Request.TheVariants.{DeleteAll, AllPorts}
use Rattle.world_model.specs.gsmp_wire.Layout.{octets_of}
use Rattle.world_model.specs.gsmp_wire.Fields.{decoded}
use Rattle.world_model.specs.frame_model.Reassembly.{Taken, taken}
use Rattle.world_model.specs.frame_model.Frame.{octets_of as cell_octets}
use Rattle.world_model.specs.frame_model.Sending.{Sender}
use Rattle.world_model.specs.crossbar_model.declared.branch.Branch.{Branch}
use Rattle.law_controller_lifts.proofs.law_port_facts.Keyed.{on_both}
use Rattle.law_controller_lifts.specs.law_label_line.Cells as lines
use Rattle.law_controller_lifts.specs.law_label_line.Cells.{Role}
use Rattle.world_model.specs.switch_model.declared.request.Asked.{Asked}
use Rattle.world_model.specs.gsmp_wire.declared.failure.Failure.{Failure}
use Rattle.world_model.specs.Switch.{ActedSwitch, free_slots}
use Rattle.world_model.specs.Requests.{branch_ended, deleted_all}
use Rattle.world_model.specs.Conduct.{with_cells, says, answers, steps, message_heard, opened_frame, ends_frame}
use Rattle.law_controller_lifts.specs.law_port_views.Link.{LinkLabel, other}
use Rattle.law_controller_lifts.specs.law_shown_cells.Seen.{IsUnmade, Extends}
use Rattle.law_controller_lifts.specs.law_shown_cells.Label.{OnControl}
use Rattle.law_controller_lifts.proofs.law_shown_cells.Shows.{shows_behind}
use Rattle.law_controller_lifts.proofs.law_shown_cells.Made.{extends_self, extends_on, extends_made, unmade_next, shows_more}
use Rattle.law_controller_lifts.proofs.law_shown_cells.Frames.{frame_elsewhere}
use Rattle.law_controller_lifts.proofs.law_shown_cells.Tested.{taken_frames, tested_frames}
use Rattle.law_controller_lifts.specs.law_controller_views.Lifted.{IsProper}
use Rattle.law_controller_lifts.proofs.law_controller_views.Sends.{gsmp_default, gsmp_label}
use Rattle.law_controller_lifts.proofs.law_controller_views.Works.{same_extends, same_unmade}
use Rattle.law_controller_lifts.proofs.law_arrival_views.Chains.{Came}
use Rattle.world_model.proofs.Lists.{index_set, index_here, length_set}

-- *The notes* keep the frames that were made
ended_frames : (c : Changed) (input : End) (o : Option Branch) → (ended_by c input o).notes.frames ≡ c.notes.frames
ended_frames c input None = refl
ended_frames c input (Some b) = noted_frames c.notes b.unfinished
  where
    noted_frames : (notes : Journal) (o : Option Mark) → (noted_cut notes o).frames ≡ notes.frames
    noted_frames notes None = refl
    noted_frames notes (Some mark) = refl

pub all_frames : (inputs : List End) (c : Changed) → (all_ended c inputs).notes.frames ≡ c.notes.frames
all_frames [] c = refl
all_frames (input ∷ inputs) c = all_frames inputs (branch_ended c input) ∙ ended_frames c input _

moved_frames : (c : Changed) (input to : End) (o : Option Branch) → (moved_by c input to o).notes.frames ≡ c.notes.frames
moved_frames c input to None = refl
moved_frames c input to (Some b) = cuts c.notes (cut_by_move b to)
  where
    cuts : (notes : Journal) (o : Option Mark) → (noted_cut notes o).frames ≡ notes.frames
    cuts notes None = refl
    cuts notes (Some mark) = refl

branches_frames : (c : Changed) (request : Request) → (branches_after c request).notes.frames ≡ c.notes.frames
branches_frames c (AddBranch input output) = refl
branches_frames c (MoveBranch input from to) = moved_frames c input to _
branches_frames c (DeleteTree input) = ended_frames c input _
branches_frames c (VerifyTree input) = refl
branches_frames c (DeleteAll port) = all_frames (inputs_on c.branches port) c
branches_frames c (PortManagement port function) = on_both (λ (d : Changed). d.notes.frames ≡ c.notes.frames) (function == 2) (deleted_all c port) c (all_frames (inputs_on c.branches port) c) refl
branches_frames c AllPorts = refl

-- *Quietly*: the switch at an end of the link makes frames and draws numbers, and what waits at the port of the link and
-- for its controller shows what it did
pub record IsQuiet (link : LinkLabel) (role : Role) (a b : ActedSwitch) : Type 0 where
  pub size : length b.switch.crossbar.queues ≡ length a.switch.crossbar.queues
  pub extends : IsUnmade a.numbers.controls a.notes.frames → Extends a.notes.frames b.notes.frames
  pub instances : a.numbers.instances ≤ b.numbers.instances
  pub unmade : IsUnmade a.numbers.controls a.notes.frames → IsUnmade b.numbers.controls b.notes.frames
  pub output : 0 < length a.switch.crossbar.queues → queue_of b.switch.crossbar (link.port role) ≡ queue_of a.switch.crossbar (link.port role)
  pub waiting : 0 < length a.switch.crossbar.queues → IsUnmade a.numbers.controls a.notes.frames → (words : List lines.Cell)
      → Came link role a.notes.frames (queue_of a.switch.crossbar control_port) words → Came link role b.notes.frames (queue_of b.switch.crossbar control_port) words

-- elsewhere that it makes frames and draws numbers is all
pub record IsMore (a b : ActedSwitch) : Type 0 where
  pub extends : IsUnmade a.numbers.controls a.notes.frames → Extends a.notes.frames b.notes.frames
  pub instances : a.numbers.instances ≤ b.numbers.instances
  pub unmade : IsUnmade a.numbers.controls a.notes.frames → IsUnmade b.numbers.controls b.notes.frames

pub quiet_more : (link : LinkLabel) (role : Role) (a b : ActedSwitch) → IsQuiet link role a b → IsMore a b
quiet_more link role a b q = record { extends = q.extends; instances = q.instances; unmade = q.unmade }

module _ (link : LinkLabel) (proper : IsProper link) (role : Role) where
  abbrev pub To : ActedSwitch → ActedSwitch → Type 0
  To a b = IsQuiet link role a b

  pub itself : (a : ActedSwitch) → To a a
  itself a = record { size = refl; extends = λ u. extends_self a.notes.frames; instances = omega arith; unmade = λ u. u; output = λ low. refl; waiting = λ low u words s. s }

  pub quiet_then : (a b c : ActedSwitch) → To a b → To b c → To a c
  quiet_then a b c p q = record {
    size = q.size ∙ p.size;
    extends = λ u. extends_on (p.extends u) (q.extends (p.unmade u));
    instances = omega (arith, p.instances, q.instances);
    unmade = λ u. q.unmade (p.unmade u);
    output = λ low. q.output (omega (arith, low, p.size)) ∙ p.output low;
    waiting = λ low u words s. q.waiting (omega (arith, low, p.size)) (p.unmade u) words (p.waiting low u words s);
  }

  pub same : (a b : ActedSwitch) → b.switch.crossbar.queues ≡ a.switch.crossbar.queues → b.notes.frames ≡ a.notes.frames → a.numbers.instances ≤ b.numbers.instances → b.numbers.controls ≡ a.numbers.controls → To a b
  same a b queues frames drawn controls = record {
    size = ap length queues;
    extends = λ u. same_extends a.notes.frames b.notes.frames frames;
    instances = drawn;
    unmade = λ u. subst (λ (n : ℕ). IsUnmade n b.notes.frames) (sym controls) (same_unmade a.numbers.controls a.notes.frames b.notes.frames frames u);
    output = λ low. ap (λ (qs : List (List Cell)). queue_of (record { branches = b.switch.crossbar.branches; queues = qs }) (link.port role)) queues;
    waiting = λ low u words s. subst (λ (z : List Frame). Came link role z (queue_of b.switch.crossbar control_port) words) (sym frames)
        (subst (λ (qs : List (List Cell)). Came link role a.notes.frames (queue_of (record { branches = b.switch.crossbar.branches; queues = qs }) control_port) words) (sym queues) s);
  }

  -- *A message* to the controller
  pub says_quiet : (a : ActedSwitch) (message : Message) → To a (says a message)
  says_quiet a message = on_both (λ (s : Sender Switch). To a (record { switch = s.queues; notes = s.notes; numbers = with_control a.numbers }))
      (nat_le (length cells) (free_slots a.switch))
      (record { queues = with_cells a.switch control_port cells; notes = made a.notes mark payload })
      (record { queues = a.switch; notes = noted (made a.notes mark payload) (Loss mark PoolFull) })
      (record {
        size = length_set a.switch.crossbar.queues 0 (queue_of a.switch.crossbar control_port ++ cells);
        extends = extended;
        instances = omega arith;
        unmade = λ u. unmade_next a.numbers.controls a.notes.frames payload u;
        output = λ low. index_set a.switch.crossbar.queues 0 (link.port role).0 (queue_of a.switch.crossbar control_port ++ cells) [] (λ e. absurd (omega (arith, e, proper.above role)));
        waiting = λ low u words s. subst (λ (z : List Cell). Came link role frames z words)
            (sym (index_here a.switch.crossbar.queues 0 (queue_of a.switch.crossbar control_port ++ cells) [] low))
            (shows_behind (shows_more (OnControl (link.port role)) (other role) link (extended u) s)
            (frame_elsewhere (OnControl (link.port role)) (other role) link frames gsmp_channel mark payload (gsmp_default link proper role) (gsmp_label link proper role)));
      })
      (record {
        size = refl;
        extends = extended;
        instances = omega arith;
        unmade = λ u. unmade_next a.numbers.controls a.notes.frames payload u;
        output = λ low. refl;
        waiting = λ low u words s. shows_more (OnControl (link.port role)) (other role) link (extended u) s;
      })
    where
      mark : Mark
      mark = next_control a.numbers

      payload : List ℕ
      payload = octets_of message

      cells : List Cell
      cells = frame_cells gsmp_channel mark payload

      frames : List Frame
      frames = a.notes.frames ++ record { mark = mark; payload = payload } ∷ []

      extended : IsUnmade a.numbers.controls a.notes.frames → Extends a.notes.frames frames
      extended u = extends_made a.notes.frames mark payload (u (a.numbers.controls + 1) (omega arith))

  -- *The adjacency*
  answers_quiet : (a : ActedSwitch) (answer : Answer Greeting Party) → To a (answers a answer)
  answers_quiet a Quiet = itself a
  answers_quiet a (Send greeting) = says_quiet a (messages.Adjacency greeting)
  answers_quiet a (Open None key) = itself a
  answers_quiet a (Open (Some greeting) key) = says_quiet a (messages.Adjacency greeting)
  answers_quiet a Reset = same a (reset a) refl refl (omega arith) refl

  steps_quiet : (a : ActedSwitch) (step : Step Party) → To a (steps a step)
  steps_quiet a step =
      let turned : ActedSwitch = record a { switch = record a.switch { adjacency = step.side } } in
      quiet_then a turned (steps a step) (same a turned refl refl (omega arith) refl) (answers_quiet turned (gsmp_answer step.answer))

  pub tick_quiet : (a : ActedSwitch) → To a (tick_comes a)
  tick_quiet a = steps_quiet a (ticked a.switch.adjacency)

  -- *Requests*
  record IsKept (s : Switch) (notes : Journal) (h : Handled) : Type 0 where
    queues : h.switch.crossbar.queues ≡ s.crossbar.queues
    frames : h.notes.frames ≡ notes.frames

  handled_by_kept : (s : Switch) (notes : Journal) (m : Message) (request : Request) (failure : Option Failure) → IsKept s notes (handled_by s notes m request failure)
  handled_by_kept s notes m request (Some failure) = record { queues = refl; frames = refl }
  handled_by_kept s notes m request None = record { queues = refl; frames = branches_frames (record { branches = s.crossbar.branches; notes = notes }) request }

  handled_kept : (s : Switch) (notes : Journal) (m : Message) (asked : Option Asked) → IsKept s notes (handled_asked s notes m asked)
  handled_kept s notes m None = record { queues = refl; frames = refl }
  handled_kept s notes m (Some asked) = handled_by_kept s notes m asked.request (failure_of s.ports s.vpis s.crossbar.branches asked)

  requested_quiet : (a : ActedSwitch) (m : Message) → To a (requested a m)
  requested_quiet a m = on_both (To a) (is_request m && is_estab a.switch.adjacency.state) (replied a (handled a.switch a.notes m)) a replies (itself a)
    where
      replies : To a (replied a (handled a.switch a.notes m))
      replies =
          let h : Handled = handled a.switch a.notes m in
          let k : IsKept a.switch a.notes h = handled_kept a.switch a.notes m (asked_in m) in
          let b : ActedSwitch = record a { switch = h.switch; notes = h.notes } in
          quiet_then a b (replied a h) (same a b k.queues k.frames (omega arith) refl) (says_quiet b h.answer)

  told_quiet : (a : ActedSwitch) (m : Message) → To a (message_heard a m)
  told_quiet a (messages.Adjacency greeting) = steps_quiet a (gsmp_received a.switch.adjacency greeting)
  told_quiet a (messages.Branch kind result code number session input_port input output_port output branches priority) =
      requested_quiet a (messages.Branch kind result code number session input_port input output_port output branches priority)
  told_quiet a (messages.Move result code number session input_port input output_port output target_port target branches priority) =
      requested_quiet a (messages.Move result code number session input_port input output_port output target_port target branches priority)
  told_quiet a (messages.Port result code number port session function) = requested_quiet a (messages.Port result code number port session function)
  told_quiet a (messages.AllPorts result code number rows) = requested_quiet a (messages.AllPorts result code number rows)

  -- *Frames and cells of the channel*
  read_quiet : (a : ActedSwitch) (r : Result Message Fault) → To a (frame_read a r)
  read_quiet a (Ok m) = told_quiet a m
  read_quiet a (Err fault) = same a (frame_read a (Err fault)) refl refl (omega arith) refl

  opened_quiet : (a : ActedSwitch) (o : Option (List ℕ)) → To a (opened_frame a o)
  opened_quiet a None = itself a
  opened_quiet a (Some payload) = read_quiet a (decoded payload)

  ends_quiet : (a : ActedSwitch) (cells : List Cell) → To a (ends_frame a cells)
  ends_quiet a [] = itself a
  ends_quiet a (cell ∷ cells) =
      let test : Tested = tested a.notes (cell ∷ cells) in
      let b : ActedSwitch = record a { notes = test.notes } in
      quiet_then a b (ends_frame a (cell ∷ cells)) (same a b refl (tested_frames a.notes (cell ∷ cells) (payload_in (cell_octets (cell ∷ cells)))) (omega arith) refl) (opened_quiet b test.payload)

  pub gsmp_quiet : (a : ActedSwitch) (cell : Cell) → To a (gsmp_cell a cell)
  gsmp_quiet a cell =
      let t : Taken = taken a.notes (nat_lt 0 (free_slots a.switch)) a.switch.reassembly cell in
      let b : ActedSwitch = record a { switch = record a.switch { reassembly = t.reassembly }; notes = t.notes } in
      quiet_then a b (gsmp_cell a cell) (same a b refl (taken_frames a.notes (nat_lt 0 (free_slots a.switch)) a.switch.reassembly cell) (omega arith) refl) (ends_quiet b t.ended)
