-- each rule of a switch leaves without marks what it leaves with them

use Rattle.std.proofs.Common.{◌≡◌, ℕ, zero, suc, ◌+◌, ◌-◌, ◌&&◌, Bool, true, false, List, [], ◌∷◌, ◌++◌, length, map, slice_set, Option, None, Some, refl, sym, ◌∙◌, ap, subst, if◌then◌else◌}
use Rattle.std.specs.Prelude.{nat_le, nat_lt, Result, Ok, Err}
use Rattle.std.specs.Option.{option_map}
use Rattle.std.specs.FinMap.{get, insert, keys}
use Rattle.world_model.specs.Words.{PortNo, Channel, End, Mark, Instance, Party, Greeting, next_control, with_control, next_instance, with_instance, Cell, SynSent, Answer, Quiet, Send, Open, Step, fresh, is_estab, ticked, gsmp_answer, gsmp_received, Request, Journal, noted, Record, Loss, Bad, PoolFull, Unconnected, Gsmp, gsmp_refusal, Tested, tested, frame_cells, made, nothing_taken, cut, Routed, Branches, Crossbar, queue_of, sent, on_channel_of, unfinished_after, route_on, routed, switched_on, switched, Changed, is_request, asked_in, all_ended, branches_after, ports_after, failure_of, Handled, success_answer, handled_by, handled_asked, handled, Switch, control_port, gsmp_channel, reset, replied, requested, frame_read, gsmp_cell, switched_cell, is_gsmp, tick_comes, restarted}
use Rattle.world_model.specs.adjacency_table.declared.message.Answer.TheVariants.{Reset}
use Rattle.world_model.specs.gsmp_wire.declared.fault.Fault.{Fault}
use Rattle.world_model.specs.gsmp_wire.declared.message.Message.{Message}
use Rattle.world_model.specs.gsmp_wire.declared.message.Message.TheVariants as messages
use Rattle.world_model.specs.gsmp_wire.Layout.{octets_of}
use Rattle.world_model.specs.gsmp_wire.Fields.{decoded}
use Rattle.world_model.specs.frame_model.Reassembly.{Taken, taken}
use Rattle.world_model.specs.frame_model.Sending.{Sender}
use Rattle.world_model.specs.crossbar_model.declared.branch.Branch.{Branch}
use Rattle.world_model.specs.crossbar_model.declared.routed.Routed.TheVariants as routes
use Rattle.world_model.specs.crossbar_model.Crossbar.{input_of}
use Rattle.world_model.specs.switch_model.declared.request.Asked.{Asked}
use Rattle.world_model.specs.gsmp_wire.declared.failure.Failure.{Failure}
use Rattle.world_model.specs.Switch.{ActedSwitch, free_slots, begun}
use Rattle.world_model.specs.Conduct.{with_cells, sends, says, answers, steps, message_heard, opened_frame, ends_frame, after_cell, counted, cell_routed, cell_comes}
use Rattle.law_unmarked_controllers.specs.Unmarked.{no_mark, unmarked_record, unmarked_cell, unmarked_cells, unmarked_numbers, unmarked_reassembly, unmarked_branch, unmarked_branches, unmarked_crossbar, unmarked_switch, shown}
use Rattle.law_unmarked_controllers.proofs.Lists.{length_same, map_join, sum_same, index_same, set_same}
use Rattle.law_unmarked_controllers.proofs.Notes.{shown_twice, noted_same, entered_shown, cut_shown, tested_shown, taken_shown}
use Rattle.law_unmarked_controllers.proofs.Cells.{gathered_twice, queues_twice, frame_same, frame_length, tested_same, AreTakenAlike, taken_same}
use Rattle.law_unread_marks.proofs.Branches.{branches_twice, keys_same, get_same, insert_same, AreSame, all_same, after_same, failure_same, answer_same, all_shown, after_shown}

-- *A switch in a run* without marks and notes
abbrev pub bare : ActedSwitch → ActedSwitch
bare a = record { switch = unmarked_switch a.switch; notes = shown a.notes; numbers = unmarked_numbers a.numbers }

crossbar_twice : (x : Crossbar) → unmarked_crossbar (unmarked_crossbar x) ≡ unmarked_crossbar x
crossbar_twice x = λ i. record { branches = branches_twice x.branches i; queues = queues_twice x.queues i }

pub switch_twice : (s : Switch) → unmarked_switch (unmarked_switch s) ≡ unmarked_switch s
switch_twice s = λ i. record s { crossbar = crossbar_twice s.crossbar i; reassembly = gathered_twice s.reassembly i }

once : (a : ActedSwitch) → bare a ≡ bare (bare a)
once a = λ i. record { switch = sym (switch_twice a.switch) i; notes = sym (shown_twice a.notes) i; numbers = unmarked_numbers a.numbers }

-- *A record*, as each makes it
noted_alike : (a b : ActedSwitch) → bare a ≡ bare b → (item other : Record) → unmarked_record item ≡ unmarked_record other
    → bare (record a { notes = noted a.notes item }) ≡ bare (record b { notes = noted b.notes other })
noted_alike a b e item other same = λ i. record (e i) { notes = noted_same a.notes b.notes (λ j. (e j).notes) item other same i }

-- *Blind to marks*, as for controllers
abbrev pub Blind : (ActedSwitch → ActedSwitch) → Type 0
Blind f = (a : ActedSwitch) → bare (f a) ≡ bare (f (bare a))

pub behind : (f : ActedSwitch → ActedSwitch) → Blind f → (a b : ActedSwitch) → bare a ≡ bare b → bare (f a) ≡ bare (f b)
behind f blind a b e = blind a ∙ ap (λ (x : ActedSwitch). bare (f x)) e ∙ sym (blind b)

chosen : (t : Bool) (x y u v : ActedSwitch) → bare x ≡ bare u → bare y ≡ bare v → bare (if t then x else y) ≡ bare (if t then u else v)
chosen true x y u v p q = p
chosen false x y u v p q = q

free_same : (s : Switch) → free_slots (unmarked_switch s) ≡ free_slots s
free_same s = λ i. s.cells - (sum_same unmarked_cells length (λ cells. length_same unmarked_cell cells) s.crossbar.queues i + length_same unmarked_cell s.reassembly.chain i)

-- *Queues*
pub queue_same : (x : Crossbar) (port : PortNo) → queue_of (unmarked_crossbar x) port ≡ unmarked_cells (queue_of x port)
queue_same x port = index_same unmarked_cells x.queues port.0 []

sent_same : (x : Crossbar) (port : PortNo) (cells : List Cell) → unmarked_crossbar (sent x port cells) ≡ sent (unmarked_crossbar x) port (unmarked_cells cells)
sent_same x port cells = λ i. record {
  branches = unmarked_branches x.branches;
  queues = (sym (set_same unmarked_cells x.queues port.0 (queue_of x port ++ cells))
      ∙ ap (slice_set (map unmarked_cells x.queues) port.0) (map_join unmarked_cell (queue_of x port) cells ∙ ap (λ (queue : List Cell). queue ++ unmarked_cells cells) (sym (queue_same x port)))) i;
}

-- cells that differ in marks alone
put_same : (x : Crossbar) (port : PortNo) (cells others : List Cell) → unmarked_cells cells ≡ unmarked_cells others → unmarked_crossbar (sent x port cells) ≡ unmarked_crossbar (sent (unmarked_crossbar x) port others)
put_same x port cells others same = sent_same x port cells ∙ (λ i. sent (sym (crossbar_twice x) i) port (same i)) ∙ sym (sent_same (unmarked_crossbar x) port others)

-- *A frame is sent*
abbrev pub sent_bare : ActedSwitch → PortNo → Channel → (payload : List ℕ) → ActedSwitch
sent_bare a port channel payload = record a {
  switch =
      if nat_le (length (frame_cells channel no_mark payload)) (free_slots a.switch)
      then with_cells a.switch port (frame_cells channel no_mark payload) else a.switch;
}

sends_bare : (a : ActedSwitch) (port : PortNo) (channel : Channel) (mark : Mark) (payload : List ℕ) → bare (sends a port channel mark payload) ≡ sent_bare (bare a) port channel payload
sends_bare a port channel mark payload =
    by (nat_le (length cells) (free_slots a.switch))
    ∙ (λ i. record (bare a) { switch = if nat_le (frame_length channel mark payload i) (sym (free_same a.switch) i) then with_cells (unmarked_switch a.switch) port (frame_cells channel no_mark payload) else unmarked_switch a.switch })
  where
    cells : List Cell
    cells = frame_cells channel mark payload

    full : Sender Switch
    full = record { queues = a.switch; notes = noted (made a.notes mark payload) (Loss mark PoolFull) }

    fits : Sender Switch
    fits = record { queues = with_cells a.switch port cells; notes = made a.notes mark payload }

    by : (t : Bool) → bare (record a { switch = (if t then fits else full).queues; notes = (if t then fits else full).notes })
        ≡ record (bare a) { switch = if t then with_cells (unmarked_switch a.switch) port (frame_cells channel no_mark payload) else unmarked_switch a.switch }
    by true = λ i. record (bare a) { switch = record (unmarked_switch a.switch) { crossbar = (sent_same a.switch.crossbar port cells ∙ ap (sent (unmarked_crossbar a.switch.crossbar) port) (frame_same channel mark payload)) i } }
    by false = λ i. record (bare a) { notes = entered_shown a.notes (Loss mark PoolFull) refl i }

pub sends_same : (a b : ActedSwitch) → bare a ≡ bare b → (port : PortNo) (channel : Channel) (mark other : Mark) (payload : List ℕ) → bare (sends a port channel mark payload) ≡ bare (sends b port channel other payload)
sends_same a b e port channel mark other payload = sends_bare a port channel mark payload ∙ ap (λ (x : ActedSwitch). sent_bare x port channel payload) e ∙ sym (sends_bare b port channel other payload)

says_blind : (message : Message) → Blind (λ a. says a message)
says_blind message a = sends_same (record a { numbers = with_control a.numbers }) (record (bare a) { numbers = with_control (bare a).numbers }) (once a) control_port gsmp_channel
    (next_control a.numbers) (next_control (bare a).numbers) (octets_of message)

-- *The adjacency*
answers_blind : (answer : Answer Greeting Party) → Blind (λ a. answers a answer)
answers_blind Quiet a = once a
answers_blind (Send greeting) a = says_blind (messages.Adjacency greeting) a
answers_blind (Open None key) a = once a
answers_blind (Open (Some greeting) key) a = says_blind (messages.Adjacency greeting) a
answers_blind Reset a = λ i. reset (once a i)

steps_blind : (step : Step Party) → Blind (λ a. steps a step)
steps_blind step a =
    behind (λ b. answers b (gsmp_answer step.answer)) (answers_blind (gsmp_answer step.answer)) (record a { switch = record a.switch { adjacency = step.side } })
    (record (bare a) { switch = record (bare a).switch { adjacency = step.side } }) (λ i. record (once a i) { switch = record (once a i).switch { adjacency = step.side } })

-- *Requests*
record AreHandledAlike (one other : Handled) : Type 0 where
  switch : unmarked_switch one.switch ≡ unmarked_switch other.switch
  notes : shown one.notes ≡ shown other.notes
  answer : other.answer ≡ one.answer

module _ (s : Switch) (notes : Journal) (message : Message) where
  by_failure : (request : Request) (o : Option Failure) → AreHandledAlike (handled_by s notes message request o) (handled_by (unmarked_switch s) (shown notes) message request o)
  by_failure request (Some failure) = record { switch = sym (switch_twice s); notes = sym (shown_twice notes); answer = refl }
  by_failure request None = record {
    switch = λ i. record s {
      crossbar = record { branches = branches_same i; queues = sym (queues_twice s.crossbar.queues) i };
      reassembly = sym (gathered_twice s.reassembly) i;
      ports = ports_after s.ports request;
    };
    notes = after_shown request (record { branches = s.crossbar.branches; notes = notes }) ∙ sym (shown_twice notes)
        ∙ sym (after_shown request (record { branches = unmarked_branches s.crossbar.branches; notes = shown notes }));
    answer = ap (λ (m : Branches). success_answer (ports_after s.ports request) m request message) same ∙ answer_same (ports_after s.ports request) one.branches request message;
  }
    where
      one : Changed
      one = branches_after (record { branches = s.crossbar.branches; notes = notes }) request

      other : Changed
      other = branches_after (record { branches = unmarked_branches s.crossbar.branches; notes = shown notes }) request

      same : AreSame one other
      same = after_same request (record { branches = s.crossbar.branches; notes = notes }) (record { branches = unmarked_branches s.crossbar.branches; notes = shown notes }) refl

      branches_same : unmarked_branches one.branches ≡ unmarked_branches other.branches
      branches_same = sym (branches_twice one.branches) ∙ ap unmarked_branches (sym same)

  by_asked : (o : Option Asked) → AreHandledAlike (handled_asked s notes message o) (handled_asked (unmarked_switch s) (shown notes) message o)
  by_asked None = record { switch = sym (switch_twice s); notes = sym (shown_twice notes); answer = refl }
  by_asked (Some asked) = subst (λ (o : Option Failure). AreHandledAlike (handled_by s notes message asked.request (failure_of s.ports s.vpis s.crossbar.branches asked)) (handled_by (unmarked_switch s) (shown notes) message asked.request o))
      (sym (failure_same s.ports s.vpis s.crossbar.branches asked)) (by_failure asked.request (failure_of s.ports s.vpis s.crossbar.branches asked))

replied_same : (a : ActedSwitch) (one other : Handled) → AreHandledAlike one other → bare (replied a one) ≡ bare (replied (bare a) other)
replied_same a one other alike =
    behind (λ b. says b one.answer) (says_blind one.answer) (record a { switch = one.switch; notes = one.notes }) (record (bare a) { switch = other.switch; notes = other.notes })
    (λ i. record (bare a) { switch = alike.switch i; notes = alike.notes i })
    ∙ ap (λ (m : Message). bare (says (record (bare a) { switch = other.switch; notes = other.notes }) m)) (sym alike.answer)

requested_blind : (message : Message) → Blind (λ a. requested a message)
requested_blind message a =
    let one : Handled = handled a.switch a.notes message in
    let other : Handled = handled (bare a).switch (shown a.notes) message in
    chosen (is_request message && is_estab a.switch.adjacency.state) (replied a one) a (replied (bare a) other) (bare a)
    (replied_same a one other (by_asked a.switch a.notes message (asked_in message))) (once a)

told_blind : (message : Message) → Blind (λ a. message_heard a message)
told_blind (messages.Adjacency greeting) a = steps_blind (gsmp_received a.switch.adjacency greeting) a
told_blind (messages.Branch kind result code number session input_port input output_port output branches priority) a =
    requested_blind (messages.Branch kind result code number session input_port input output_port output branches priority) a
told_blind (messages.Move result code number session input_port input output_port output target_port target branches priority) a =
    requested_blind (messages.Move result code number session input_port input output_port output target_port target branches priority) a
told_blind (messages.Port result code number port session function) a = requested_blind (messages.Port result code number port session function) a
told_blind (messages.AllPorts result code number rows) a = requested_blind (messages.AllPorts result code number rows) a

-- *Frames*
read_blind : (r : Result Message Fault) → Blind (λ a. frame_read a r)
read_blind (Ok message) a = told_blind message a
read_blind (Err fault) a = noted_alike a (bare a) (once a) (Bad a.switch.node Gsmp (gsmp_refusal fault)) (Bad a.switch.node Gsmp (gsmp_refusal fault)) refl

opened_blind : (o : Option (List ℕ)) → Blind (λ a. opened_frame a o)
opened_blind None a = once a
opened_blind (Some payload) a = read_blind (decoded payload) a

ends_same : (a b : ActedSwitch) → bare a ≡ bare b → (cells : List Cell) → bare (ends_frame a cells) ≡ bare (ends_frame b (unmarked_cells cells))
ends_same a b e [] = e
ends_same a b e (cell ∷ cells) =
    let one : Tested = tested a.notes (cell ∷ cells) in
    let other : Tested = tested b.notes (unmarked_cells (cell ∷ cells)) in
    behind (λ c. opened_frame c one.payload) (opened_blind one.payload) (record a { notes = one.notes }) (record b { notes = other.notes })
    (λ i. record (e i) { notes = (tested_shown a.notes (cell ∷ cells) ∙ (λ j. (e j).notes) ∙ sym (tested_shown b.notes (unmarked_cells (cell ∷ cells)))) i })
    ∙ ap (λ (o : Option (List ℕ)). bare (opened_frame (record b { notes = other.notes }) o)) (sym (tested_same a.notes b.notes (cell ∷ cells)))

-- *A cell of the GSMP channel*
gsmp_same : (cell : Cell) (a : ActedSwitch) → bare (gsmp_cell a cell) ≡ bare (gsmp_cell (bare a) (unmarked_cell cell))
gsmp_same cell a =
    ends_same (record a { switch = record a.switch { reassembly = t.reassembly }; notes = t.notes }) (record (bare a) { switch = record (bare a).switch { reassembly = u.reassembly }; notes = u.notes })
    (λ i. record (once a i) { switch = record (once a i).switch { reassembly = (sym (gathered_twice t.reassembly) ∙ ap unmarked_reassembly (sym alike.kept)) i }; notes = notes_same i }) t.ended
    ∙ ap (λ (cells : List Cell). bare (ends_frame (record (bare a) { switch = record (bare a).switch { reassembly = u.reassembly }; notes = u.notes }) cells)) (sym alike.ended)
    ∙ (λ i. bare (after_cell (bare a) (taken (shown a.notes) (nat_lt 0 (sym (free_same a.switch) i)) (unmarked_reassembly a.switch.reassembly) (unmarked_cell cell))))
  where
    t : Taken
    t = taken a.notes (nat_lt 0 (free_slots a.switch)) a.switch.reassembly cell

    u : Taken
    u = taken (shown a.notes) (nat_lt 0 (free_slots a.switch)) (unmarked_reassembly a.switch.reassembly) (unmarked_cell cell)

    notes_same : shown t.notes ≡ shown u.notes
    notes_same = taken_shown a.notes (nat_lt 0 (free_slots a.switch)) a.switch.reassembly cell ∙ sym (shown_twice a.notes)
        ∙ sym (taken_shown (shown a.notes) (nat_lt 0 (free_slots a.switch)) (unmarked_reassembly a.switch.reassembly) (unmarked_cell cell))

    alike : AreTakenAlike t u
    alike = taken_same a.notes (shown a.notes) (nat_lt 0 (free_slots a.switch)) a.switch.reassembly cell

-- *A cell that is switched*
on_branch : (x : Crossbar) (input : End) (o : Option Branch) (free : ℕ) (cell : Cell)
    → unmarked_crossbar (switched_on x input o free cell) ≡ unmarked_crossbar (switched_on (unmarked_crossbar x) input (option_map unmarked_branch o) free (unmarked_cell cell))
on_branch x input None free cell = sym (crossbar_twice x)
on_branch x input (Some b) zero cell = sym (crossbar_twice x)
on_branch x input (Some b) (suc n) cell = λ i. record {
  branches = (insert_same x.branches input (record b { unfinished = unfinished_after cell })
      ∙ ap (λ (m : Branches). insert m input (unmarked_branch b)) (sym (branches_twice x.branches))
      ∙ sym (insert_same (unmarked_branches x.branches) input (record (unmarked_branch b) { unfinished = unfinished_after (unmarked_cell cell) }))) i;
  queues = (put_same x b.output.port (on_channel_of cell b.output ∷ []) (on_channel_of (unmarked_cell cell) b.output ∷ []) refl i).queues;
}

switched_same : (x : Crossbar) (free : ℕ) (port : PortNo) (cell : Cell) → unmarked_crossbar (switched x free port cell) ≡ unmarked_crossbar (switched (unmarked_crossbar x) free port (unmarked_cell cell))
switched_same x free port cell = on_branch x (input_of port cell) (get x.branches (input_of port cell)) free cell
    ∙ ap (λ (o : Option Branch). unmarked_crossbar (switched_on (unmarked_crossbar x) (input_of port cell) o free (unmarked_cell cell))) (sym (get_same x.branches (input_of port cell)))

route_same : (o : Option Branch) (free : ℕ) → route_on (option_map unmarked_branch o) free ≡ route_on o free
route_same None free = refl
route_same (Some b) zero = refl
route_same (Some b) (suc n) = refl

passed_same : (port : PortNo) (cell : Cell) (r : Routed) (a : ActedSwitch) → bare (cell_routed a port cell r) ≡ bare (cell_routed (bare a) port (unmarked_cell cell) r)
passed_same port cell (routes.Out output) a = λ i. record (once a i) {
  switch = record (once a i).switch {
    crossbar = (switched_same a.switch.crossbar (free_slots a.switch) port cell
        ∙ ap (λ (free : ℕ). unmarked_crossbar (switched (unmarked_crossbar a.switch.crossbar) free port (unmarked_cell cell))) (sym (free_same a.switch))) i;
    switched = counted port output.port a.switch.switched;
  };
}
passed_same port cell routes.Unconnected a = noted_alike a (bare a) (once a) (Loss cell.mark Unconnected) (Loss (unmarked_cell cell).mark Unconnected) refl
passed_same port cell routes.PoolFull a = noted_alike a (bare a) (once a) (Loss cell.mark PoolFull) (Loss (unmarked_cell cell).mark PoolFull) refl

switched_cell_same : (port : PortNo) (cell : Cell) (a : ActedSwitch) → bare (switched_cell a port cell) ≡ bare (switched_cell (bare a) port (unmarked_cell cell))
switched_cell_same port cell a = passed_same port cell (routed a.switch.crossbar (free_slots a.switch) port cell) a
    ∙ ap (λ (r : Routed). bare (cell_routed (bare a) port (unmarked_cell cell) r)) (sym same)
  where
    same : routed (unmarked_crossbar a.switch.crossbar) (free_slots (unmarked_switch a.switch)) port (unmarked_cell cell) ≡ routed a.switch.crossbar (free_slots a.switch) port cell
    same = (λ i. route_on (get_same a.switch.crossbar.branches (input_of port cell) i) (free_same a.switch i)) ∙ route_same (get a.switch.crossbar.branches (input_of port cell)) (free_slots a.switch)

cell_blind : (port : PortNo) (cell : Cell) (a : ActedSwitch) → bare (cell_comes a port cell) ≡ bare (cell_comes (bare a) port (unmarked_cell cell))
cell_blind port cell a = chosen (is_gsmp port cell.header.channel) (gsmp_cell a cell) (switched_cell a port cell) (gsmp_cell (bare a) (unmarked_cell cell)) (switched_cell (bare a) port (unmarked_cell cell))
    (gsmp_same cell a) (switched_cell_same port cell a)

pub cell_same : (a b : ActedSwitch) → bare a ≡ bare b → (port : PortNo) (cell other : Cell) → unmarked_cell cell ≡ unmarked_cell other → bare (cell_comes a port cell) ≡ bare (cell_comes b port other)
cell_same a b e port cell other same = cell_blind port cell a ∙ (λ i. bare (cell_comes (e i) port (same i))) ∙ sym (cell_blind port other b)

-- *Ticks and restarts*
pub tick_blind : Blind tick_comes
tick_blind a = steps_blind (ticked a.switch.adjacency) a

pub restart_blind : Blind restarted
restart_blind a = λ i. record {
  switch = record (once a i).switch {
    crossbar = record { branches = branches_same i; queues = sym (queues_twice a.switch.crossbar.queues) i };
    ports = map (λ state. begun own state.number) a.switch.ports;
    reassembly = nothing_taken;
    adjacency = fresh SynSent (record a.switch.adjacency.own { instance = own });
  };
  notes = notes_same i;
  numbers = unmarked_numbers (with_instance a.numbers);
}
  where
    own : Instance
    own = next_instance a.numbers

    one : Changed
    one = record { branches = a.switch.crossbar.branches; notes = a.notes }

    other : Changed
    other = record { branches = unmarked_branches a.switch.crossbar.branches; notes = shown a.notes }

    notes_same : shown (cut (all_ended one (keys one.branches)).notes a.switch.reassembly) ≡ shown (cut (all_ended other (keys other.branches)).notes (unmarked_reassembly a.switch.reassembly))
    notes_same = cut_shown (all_ended one (keys one.branches)).notes a.switch.reassembly ∙ all_shown (keys one.branches) one ∙ sym (shown_twice a.notes)
        ∙ sym (all_shown (keys other.branches) other) ∙ sym (cut_shown (all_ended other (keys other.branches)).notes (unmarked_reassembly a.switch.reassembly))

    same : AreSame (all_ended one (keys one.branches)) (all_ended other (keys other.branches))
    same = ap (λ (inputs : List End). (all_ended other inputs).branches) (keys_same one.branches) ∙ all_same (keys one.branches) one other refl

    branches_same : unmarked_branches (all_ended one (keys one.branches)).branches ≡ unmarked_branches (all_ended other (keys other.branches)).branches
    branches_same = sym (branches_twice (all_ended one (keys one.branches)).branches) ∙ ap unmarked_branches (sym same)
