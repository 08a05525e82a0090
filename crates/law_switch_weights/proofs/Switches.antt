-- what a cell that comes to a switch costs: what it weighs where it goes on, or what the frame that it ends may cause

use Rattle.std.proofs.Common.{◌≡◌, ℕ, ◌≤◌, ◌+◌, Bool, true, false, List, [], ◌∷◌, length, Option, None, Some, Result, Ok, Err, refl, sym, ◌∙◌, ap, subst, arith, if◌then◌else◌}
use Rattle.std.specs.Prelude.{◌==◌, ◌&&◌, nat_lt, nat_le, zero, suc}
use Rattle.std.specs.Option.{option_map}
use Rattle.world_model.specs.Words.{NodeId, PortNo, Place, Up, Mark, End, HelloKind, Party, next_control, with_control, Cell, Answer, Said, same_party, heard_in, greeting_of, gsmp_answer, gsmp_received, Step, is_estab, Request, AddBranch, MoveBranch, DeleteTree, VerifyTree, PortManagement, Crossbar, on_channel_of, queue_of, cut_by_move, Frame, Loss, PoolFull, payload_of, Journal, noted, tested_by, frame_cells, made, payload_in, failure_of, Changed, noted_cut, ended_by, all_ended, moved_by, branches_after, inputs_on, is_request, asked_in, Handled, handled, handled_asked, handled_by, Switch, control_port, gsmp_channel, reset, replied, requested, frame_read, gsmp_cell, switched_cell, is_gsmp, Topology}
use Rattle.world_model.specs.adjacency_table.declared.message.Answer.TheVariants as answers_of
use Rattle.world_model.specs.gsmp_wire.declared.message.Message.{Message}
use Rattle.world_model.specs.gsmp_wire.declared.message.Message.TheVariants as messages
use Rattle.world_model.specs.gsmp_wire.declared.request.Request.TheVariants.{DeleteAll, AllPorts}
use Rattle.world_model.specs.gsmp_wire.declared.fault.Fault.{Fault}
use Rattle.world_model.specs.gsmp_wire.Layout.{octets_of as message_octets}
use Rattle.world_model.specs.gsmp_wire.Fields.{decoded}
use Rattle.world_model.specs.crossbar_model.declared.branch.Branch.{Branch}
use Rattle.world_model.specs.crossbar_model.Crossbar as crossbars
use Rattle.world_model.specs.crossbar_model.Crossbar.{output_of, input_of}
use Rattle.world_model.specs.frame_model.Frame.{octets_of}
use Rattle.world_model.specs.frame_model.Reassembly.{Taken, taken}
use Rattle.world_model.specs.frame_model.Sending.{Sender}
use Rattle.std.specs.FinMap.{get}
use Rattle.world_model.specs.switch_model.declared.request.Asked.{Asked}
use Rattle.world_model.specs.gsmp_wire.declared.failure.Failure.{Failure}
use Rattle.world_model.specs.Requests.{branch_ended}
use Rattle.world_model.specs.Switch.{ActedSwitch, free_slots}
use Rattle.world_model.specs.Conduct.{with_cells, says, answers, steps, message_heard, after_test, ends_frame, cell_routed, cell_comes}
use Rattle.law_run_facts.proofs.Taking.{taken_frames, ended_by_last}
use Rattle.law_run_facts.specs.law_shown_cells.Seen.{Extends, IsUnmade}
use Rattle.law_run_facts.proofs.law_shown_cells.Made.{extends_self, extends_on, extends_made, made_is, unmade_next}
use Rattle.law_run_facts.proofs.law_shown_cells.Tested.{tested_frames}
use Rattle.law_frame_weights.specs.claims_model.Costs.{total_weight, answer_weight, greeting_weight, asking_cost, answering_cost, if_said, switch_cost, controller_cost}
use Rattle.law_frame_weights.specs.claims_model.Weights.{Bound, ToController, ToSwitch, cost_of, hops_of, bearing_of, cell_weight, port_place, queues_weight}
use Rattle.law_run_facts.proofs.law_port_facts.Keyed.{on_both}
use Rattle.law_frame_weights.proofs.law_port_weights.Below.{IsBelow, received_below}
use Rattle.law_frame_weights.proofs.Frames.{frame_total}
use Rattle.law_frame_weights.proofs.Readings.{controller_reads}
use Rattle.law_switch_weights.specs.Coming.{Passes, asking_weight, LeadsTo}
use Rattle.law_switch_weights.proofs.Queues.{joins_queue}

-- *Requests* make no frame
cut_frames : (notes : Journal) (o : Option Mark) → (noted_cut notes o).frames ≡ notes.frames
cut_frames notes None = refl
cut_frames notes (Some mark) = refl

ended_frames : (c : Changed) (input : End) (o : Option Branch) → (ended_by c input o).notes.frames ≡ c.notes.frames
ended_frames c input None = refl
ended_frames c input (Some b) = cut_frames c.notes b.unfinished

all_frames : (inputs : List End) (c : Changed) → (all_ended c inputs).notes.frames ≡ c.notes.frames
all_frames [] c = refl
all_frames (input ∷ inputs) c = all_frames inputs (branch_ended c input) ∙ ended_frames c input (get c.branches input)

moved_frames : (c : Changed) (input to : End) (o : Option Branch) → (moved_by c input to o).notes.frames ≡ c.notes.frames
moved_frames c input to None = refl
moved_frames c input to (Some b) = cut_frames c.notes (cut_by_move b to)

after_frames : (c : Changed) (request : Request) → (branches_after c request).notes.frames ≡ c.notes.frames
after_frames c (AddBranch input output) = refl
after_frames c (MoveBranch input from to) = moved_frames c input to (get c.branches input)
after_frames c (DeleteTree input) = ended_frames c input (get c.branches input)
after_frames c (VerifyTree input) = refl
after_frames c (DeleteAll port) = all_frames (inputs_on c.branches port) c
after_frames c (PortManagement port function) = on_both (λ (d : Changed). d.notes.frames ≡ c.notes.frames) (function == 2) (all_ended c (inputs_on c.branches port)) c (all_frames (inputs_on c.branches port) c) refl
after_frames c AllPorts = refl

-- and their answers cost nothing where they come
record IsHandled (s : Switch) (notes : Journal) (h : Handled) : Type 0 where
  queues : h.switch.crossbar.queues ≡ s.crossbar.queues
  frames : h.notes.frames ≡ notes.frames
  free : answering_cost h.answer ≡ 0

abbrev IsOther : Message → Type 0
IsOther (messages.Adjacency greeting) = ⊥
IsOther message = Unit {0}

by_failure : (s : Switch) (notes : Journal) (m : Message) (request : Request) → IsOther m → (o : Option Failure) → IsHandled s notes (handled_by s notes m request o)
by_failure s notes (messages.Adjacency greeting) request other o = absurd other
by_failure s notes (messages.Branch kind result code transaction session input_port input output_port output branches priority) request other (Some failure) = record { queues = refl; frames = refl; free = refl }
by_failure s notes (messages.Move result code transaction session input_port input output_port output target_port target branches priority) request other (Some failure) = record { queues = refl; frames = refl; free = refl }
by_failure s notes (messages.Port result code transaction port session function) request other (Some failure) = record { queues = refl; frames = refl; free = refl }
by_failure s notes (messages.AllPorts result code transaction rows) request other (Some failure) = record { queues = refl; frames = refl; free = refl }
by_failure s notes (messages.Branch kind result code transaction session input_port input output_port output branches priority) request other None =
    record { queues = refl; frames = after_frames (record { branches = s.crossbar.branches; notes = notes }) request; free = refl }
by_failure s notes (messages.Move result code transaction session input_port input output_port output target_port target branches priority) request other None =
    record { queues = refl; frames = after_frames (record { branches = s.crossbar.branches; notes = notes }) request; free = refl }
by_failure s notes (messages.Port result code transaction port session function) request other None = record { queues = refl; frames = after_frames (record { branches = s.crossbar.branches; notes = notes }) request; free = refl }
by_failure s notes (messages.AllPorts result code transaction rows) request other None = record { queues = refl; frames = after_frames (record { branches = s.crossbar.branches; notes = notes }) request; free = refl }

other_free : (m : Message) → IsOther m → answering_cost m ≡ 0
other_free (messages.Adjacency greeting) other = absurd other
other_free (messages.Branch kind result code transaction session input_port input output_port output branches priority) other = refl
other_free (messages.Move result code transaction session input_port input output_port output target_port target branches priority) other = refl
other_free (messages.Port result code transaction port session function) other = refl
other_free (messages.AllPorts result code transaction rows) other = refl

handled_well : (s : Switch) (notes : Journal) (m : Message) → IsOther m → IsHandled s notes (handled s notes m)
handled_well s notes m other = by (asked_in m)
  where
    by : (o : Option Asked) → IsHandled s notes (handled_asked s notes m o)
    by None = record { queues = refl; frames = refl; free = other_free m other }
    by (Some asked) = by_failure s notes m asked.request other (failure_of s.ports s.vpis s.crossbar.branches asked)

module _ (topology : Topology) (node : NodeId) (bound : Bound) (final : List Frame) (short : (mark : Mark) (payload : List ℕ) → payload_of final mark ≡ Some payload → length payload ≤ 1528) where
  abbrev pub V : ActedSwitch → ℕ
  V a = queues_weight (cell_weight topology final bound) node 0 a.switch.crossbar.queues

  pub record Grows (count : ℕ) (a b : ActedSwitch) : Type 0 where
    pub unmade : IsUnmade a.numbers.controls a.notes.frames → IsUnmade b.numbers.controls b.notes.frames
    pub extends : IsUnmade a.numbers.controls a.notes.frames → Extends a.notes.frames b.notes.frames
    pub cost : IsUnmade a.numbers.controls a.notes.frames → Extends b.notes.frames final → V b ≤ V a + count

  more : (j k : ℕ) (a b : ActedSwitch) → j ≤ k → Grows j a b → Grows k a b
  more j k a b le p = record { unmade = p.unmade; extends = p.extends; cost = λ u e. (let one = p.cost u e in omega (arith, one, le)) }

  none_then : (k : ℕ) (a b c : ActedSwitch) → Grows 0 a b → Grows k b c → Grows k a c
  none_then k a b c p q = record {
    unmade = λ u. q.unmade (p.unmade u);
    extends = λ u. extends_on (p.extends u) (q.extends (p.unmade u));
    cost = λ u e. (let one = p.cost u (extends_on (q.extends (p.unmade u)) e) in let two = q.cost (p.unmade u) e in omega (arith, one, two));
  }

  still : (count : ℕ) (a b : ActedSwitch) → b.notes.frames ≡ a.notes.frames → b.numbers.controls ≡ a.numbers.controls → b.switch.crossbar.queues ≡ a.switch.crossbar.queues → Grows count a b
  still count a b frames controls queues = record {
    unmade = λ u. subst (λ n. IsUnmade n b.notes.frames) (sym controls) (subst (IsUnmade a.numbers.controls) (sym frames) u);
    extends = λ u. subst (Extends a.notes.frames) (sym frames) (extends_self a.notes.frames);
    cost = λ u e. (let same = ap (queues_weight (cell_weight topology final bound) node 0) queues in omega (arith, same));
  }

  rests : (count : ℕ) (a : ActedSwitch) → Grows count a a
  rests count a = still count a a refl refl refl

  -- *A message to the controller*
  weigh_up : (cell : Cell) → cell.header.channel ≡ gsmp_channel → cell_weight topology final bound (port_place node 0) cell ≡ 1 + (if cell.header.last then cost_of bound (payload_of final cell.mark) ToController else 0)
  weigh_up cell e = ap (λ (c : _). (1 + hops_of bound (bearing_of topology (Up node) c)) + (if cell.header.last then cost_of bound (payload_of final cell.mark) (bearing_of topology (Up node) c) else 0)) e

  abbrev sent_cells : ActedSwitch → Message → List Cell
  sent_cells a message = frame_cells gsmp_channel (next_control a.numbers) (message_octets message)

  says_cost : (a : ActedSwitch) (message : Message) → Grows (answer_weight + answering_cost message) a (says a message)
  says_cost a message = on_both (λ (s : Sender Switch). Grows (answer_weight + answering_cost message) a (record { switch = s.queues; notes = s.notes; numbers = with_control a.numbers })) (nat_le (length (sent_cells a message)) (free_slots a.switch))
      (record { queues = with_cells a.switch control_port (sent_cells a message); notes = made a.notes (next_control a.numbers) (message_octets message) })
      (record { queues = a.switch; notes = noted (made a.notes (next_control a.numbers) (message_octets message)) (Loss (next_control a.numbers) PoolFull) })
      (record {
        unmade = λ u. unmade_next a.numbers.controls a.notes.frames (message_octets message) u;
        extends = λ u. extends_made a.notes.frames (next_control a.numbers) (message_octets message) (u (a.numbers.controls + 1) (omega arith));
        cost = λ u e. (let joined = joins_queue (cell_weight topology final bound) node a.switch.crossbar.queues 0 0 (sent_cells a message) in
            let all = frame (e.kept (next_control a.numbers) (message_octets message) (made_is a.notes.frames (next_control a.numbers) (message_octets message))) in omega (arith, joined, all));
      })
      (record {
        unmade = λ u. unmade_next a.numbers.controls a.notes.frames (message_octets message) u;
        extends = λ u. extends_made a.notes.frames (next_control a.numbers) (message_octets message) (u (a.numbers.controls + 1) (omega arith));
        cost = λ u e. omega arith;
      })
    where
      early : (b : Bool) (n : ℕ) → b ≡ false → (if b then n else 0) ≡ 0
      early true n e = absurd (cc e)
      early false n e = refl

      some : (b : Bool) (n : ℕ) → (if b then n else 0) ≤ n
      some true n = omega arith
      some false n = omega arith

      frame : payload_of final (next_control a.numbers) ≡ Some (message_octets message)
          → total_weight (cell_weight topology final bound (port_place node 0)) (frame_cells gsmp_channel (next_control a.numbers) (message_octets message)) ≤ answer_weight + answering_cost message
      frame is = (let all = frame_total (cell_weight topology final bound (port_place node 0)) 1 (controller_cost (message_octets message)) gsmp_channel (next_control a.numbers) (message_octets message) (short (next_control a.numbers) (message_octets message) is)
          (λ cell on not_last. (let w = weigh_up cell on in let n = early cell.header.last (cost_of bound (payload_of final cell.mark) ToController) not_last in omega (arith, w, n)))
          (λ cell on marked. (let w = weigh_up cell on in let n = some cell.header.last (cost_of bound (payload_of final cell.mark) ToController) in
          let p : payload_of final cell.mark ≡ Some (message_octets message) = ap (payload_of final) marked ∙ is in
          let c = ap (λ (o : Option (List ℕ)). cost_of bound o ToController) p in omega (arith, w, n, c))) in
          omega (arith, all, controller_reads message))

  -- *The adjacency*
  answers_cost : (kind : HelloKind) (a : ActedSwitch) (answer : Answer (Said Party) Party) → IsBelow kind answer → Grows (greeting_weight kind) a (answers a (gsmp_answer answer))
  answers_cost kind a answers_of.Quiet below = rests (greeting_weight kind) a
  answers_cost kind a (answers_of.Send message) below = more (answer_weight + greeting_weight message.kind) (greeting_weight kind) a (says a (messages.Adjacency (greeting_of message))) (omega (arith, below)) (says_cost a (messages.Adjacency (greeting_of message)))
  answers_cost kind a (answers_of.Open None own) below = rests (greeting_weight kind) a
  answers_cost kind a (answers_of.Open (Some message) own) below = more (answer_weight + greeting_weight message.kind) (greeting_weight kind) a (says a (messages.Adjacency (greeting_of message))) (omega (arith, below)) (says_cost a (messages.Adjacency (greeting_of message)))
  answers_cost kind a answers_of.Reset below = still (greeting_weight kind) a (reset a) refl refl refl

  -- *Messages*
  requested_cost : (a : ActedSwitch) (m : Message) → IsOther m → Grows answer_weight a (requested a m)
  requested_cost a m other =
      let h : Handled = handled a.switch a.notes m in
      let w : IsHandled a.switch a.notes h = handled_well a.switch a.notes m other in
      let b : ActedSwitch = record a { switch = h.switch; notes = h.notes } in
      on_both (Grows answer_weight a) (is_request m && is_estab a.switch.adjacency.state) (replied a h) a
      (none_then answer_weight a b (says b h.answer) (still 0 a b w.frames refl w.queues) (more (answer_weight + answering_cost h.answer) answer_weight b (says b h.answer) (omega (arith, w.free)) (says_cost b h.answer))) (rests answer_weight a)

  told_cost : (a : ActedSwitch) (m : Message) → Grows (asking_cost m) a (message_heard a m)
  told_cost a (messages.Adjacency greeting) =
      let step : Step Party = gsmp_received a.switch.adjacency greeting in
      let turned : ActedSwitch = record a { switch = record a.switch { adjacency = step.side } } in
      none_then (greeting_weight greeting.kind) a turned (steps a step) (still 0 a turned refl refl refl) (answers_cost greeting.kind turned step.answer (received_below same_party a.switch.adjacency (heard_in greeting)))
  told_cost a (messages.Branch kind result code transaction session input_port input output_port output branches priority) =
      requested_cost a (messages.Branch kind result code transaction session input_port input output_port output branches priority) tt
  told_cost a (messages.Move result code transaction session input_port input output_port output target_port target branches priority) =
      requested_cost a (messages.Move result code transaction session input_port input output_port output target_port target branches priority) tt
  told_cost a (messages.Port result code transaction port session function) = requested_cost a (messages.Port result code transaction port session function) tt
  told_cost a (messages.AllPorts result code transaction rows) = requested_cost a (messages.AllPorts result code transaction rows) tt

  read_cost : (a : ActedSwitch) (r : Result Message Fault) → Grows (if_said asking_cost r) a (frame_read a r)
  read_cost a (Ok message) = told_cost a message
  read_cost a (Err fault) = still 0 a (frame_read a (Err fault)) refl refl refl

  -- *A cell of GSMP's channel*
  abbrev taken_by : ActedSwitch → Cell → Taken
  taken_by a cell = taken a.notes (nat_lt 0 (free_slots a.switch)) a.switch.reassembly cell

  abbrev kept_by : ActedSwitch → Cell → ActedSwitch
  kept_by a cell = record a { switch = record a.switch { reassembly = (taken_by a cell).reassembly }; notes = (taken_by a cell).notes }

  gsmp_cost : (a : ActedSwitch) (cell : Cell) → Passes a cell → Grows (asking_weight final bound cell) a (gsmp_cell a cell)
  gsmp_cost a cell passes = none_then (asking_weight final bound cell) a (kept_by a cell) (gsmp_cell a cell) (still 0 a (kept_by a cell) (taken_frames a.notes (nat_lt 0 (free_slots a.switch)) a.switch.reassembly cell) refl refl) (ends (taken_by a cell).ended refl)
    where
      ends : (cells : List Cell) → (taken_by a cell).ended ≡ cells → Grows (asking_weight final bound cell) (kept_by a cell) (ends_frame (kept_by a cell) cells)
      ends [] e = rests (asking_weight final bound cell) (kept_by a cell)
      ends (first ∷ rest) e = by (payload_in (octets_of (first ∷ rest))) refl
        where
          by : (o : Option (List ℕ)) → payload_in (octets_of (first ∷ rest)) ≡ o → Grows (asking_weight final bound cell) (kept_by a cell) (after_test (kept_by a cell) (tested_by (kept_by a cell).notes (first ∷ rest) o))
          by None p = still (asking_weight final bound cell) (kept_by a cell) (record (kept_by a cell) { notes = (tested_by (kept_by a cell).notes (first ∷ rest) None).notes }) (tested_frames (kept_by a cell).notes (first ∷ rest) None) refl refl
          by (Some payload) p =
              let c : ActedSwitch = record (kept_by a cell) { notes = (tested_by (kept_by a cell).notes (first ∷ rest) (Some payload)).notes } in
              let frames : c.notes.frames ≡ a.notes.frames = tested_frames (kept_by a cell).notes (first ∷ rest) (Some payload) ∙ taken_frames a.notes (nat_lt 0 (free_slots a.switch)) a.switch.reassembly cell in
              let made_so : payload_of c.notes.frames cell.mark ≡ Some payload = ap (λ (f : List Frame). payload_of f cell.mark) frames ∙ passes first rest payload e p in
              let last : cell.header.last ≡ true = ended_by_last a.notes (nat_lt 0 (free_slots a.switch)) a.switch.reassembly cell first rest e in
              let q : Grows (switch_cost payload) c (frame_read c (decoded payload)) = read_cost c (decoded payload) in
              none_then (asking_weight final bound cell) (kept_by a cell) c (frame_read c (decoded payload)) (still 0 (kept_by a cell) c (tested_frames (kept_by a cell).notes (first ∷ rest) (Some payload)) refl refl)
              (record {
                unmade = q.unmade;
                extends = q.extends;
                cost = λ u e. (let one = q.cost u e in let there = extends_on (q.extends u) e in
                    let whole : asking_weight final bound cell ≡ switch_cost payload = ap (λ (b : Bool). if b then cost_of bound (payload_of final cell.mark) ToSwitch else 0) last
                    ∙ ap (λ (o : Option (List ℕ)). cost_of bound o ToSwitch) (there.kept cell.mark payload made_so) in omega (arith, one, whole));
              })

  -- *A cell that goes through*
  switched_cost : (a : ActedSwitch) (port : PortNo) (cell : Cell) (count : ℕ) → LeadsTo topology node final bound a port cell count → Grows count a (switched_cell a port cell)
  switched_cost a port cell count leads = by (get a.switch.crossbar.branches (input_of port cell)) refl (free_slots a.switch) refl
    where
      by : (o : Option Branch) → get a.switch.crossbar.branches (input_of port cell) ≡ o → (free : ℕ) → free_slots a.switch ≡ free → Grows count a (cell_routed a port cell (crossbars.route_on o free))
      by None e free f = still count a (cell_routed a port cell (crossbars.route_on None free)) refl refl refl
      by (Some b) e zero f = still count a (cell_routed a port cell (crossbars.route_on (Some b) zero)) refl refl refl
      by (Some b) e (suc n) f =
          let on : Cell = on_channel_of cell b.output in
          let x : Crossbar = a.switch.crossbar in
          let queues : (crossbars.switched x (free_slots a.switch) port cell).queues ≡ (crossbars.sent x b.output.port (on ∷ [])).queues =
          ap (λ (o : Option Branch). (crossbars.switched_on x (input_of port cell) o (free_slots a.switch) cell).queues) e
          ∙ ap (λ (k : ℕ). (crossbars.switched_on x (input_of port cell) (Some b) k cell).queues) f in
          let joined = joins_queue (cell_weight topology final bound) node x.queues 0 b.output.port.0 (on ∷ []) in
          let there : port_place node (0 + b.output.port.0) ≡ port_place node b.output.port.0 = ap (port_place node) (nothing_more b.output.port.0) in
          let place = ap (λ (p : Place). cell_weight topology final bound p on) there in
          let all = ap (queues_weight (cell_weight topology final bound) node 0) queues in
          let low = leads b.output (ap (option_map (λ (c : Branch). c.output)) e) in
          record {
            unmade = λ u. u;
            extends = λ u. extends_self a.notes.frames;
            cost = λ u k. omega (arith, joined, place, all, low);
          }
        where
          nothing_more : (k : ℕ) → 0 + k ≡ k
          nothing_more k = omega arith

  pub cell_cost : (a : ActedSwitch) (port : PortNo) (cell : Cell) (count : ℕ) → (is_gsmp port cell.header.channel ≡ true → Passes a cell × (asking_weight final bound cell ≤ count))
      → (is_gsmp port cell.header.channel ≡ false → LeadsTo topology node final bound a port cell count) → Grows count a (cell_comes a port cell)
  cell_cost a port cell count gsmp leads = by (is_gsmp port cell.header.channel) refl
    where
      by : (b : Bool) → is_gsmp port cell.header.channel ≡ b → Grows count a (if b then gsmp_cell a cell else switched_cell a port cell)
      by true e = (let g = gsmp e in more (asking_weight final bound cell) count a (gsmp_cell a cell) g.1 (gsmp_cost a cell g.0))
      by false e = switched_cost a port cell count (leads e)
