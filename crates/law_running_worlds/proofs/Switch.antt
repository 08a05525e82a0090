-- what a switch does keeps the widths of its numbers, and each frame that it makes is a message's

use Rattle.std.proofs.Common.{◌≡◌, ℕ, ◌≤◌, ◌<◌, Bool, true, List, [], ◌∷◌, length, Option, None, Some, Result, Ok, Err, refl, sym, ◌∙◌, ap, subst, map, arith, if◌then◌else◌}
use Rattle.std.specs.FinMap.{get, keys}
use Rattle.std.specs.Prelude.{◌^◌, ◌==◌, ◌&&◌, nat_le, nat_lt}
use Rattle.law_branch_shapes.specs.world_model.Words.{Greeting, Party, Mark, PortNo, Instance, End, GivenOut, next_control, with_control, next_instance, Answer, Quiet, Send, Open, Step, is_estab, ticked, gsmp_answer, gsmp_received, Cell, Move, Request, FitsRows, Fits, Frame, Loss, PoolFull, noted, made, frame_cells, payload_in, tested_by, Routed, routed, cut_by_move, Standing, Head, head_of, Switch, control_port, gsmp_channel, Changed, moved_by, moved_to, ended_by, all_ended, inputs_on, branches_after, asked_in, is_request, ports_after, failure_of, Handled, handled_by, handled_asked, handled, replied, requested, frame_read, gsmp_cell, switched_cell, is_gsmp, tick_comes, restarted, copy_by, copy_of}
use Rattle.law_branch_shapes.specs.world_model.adjacency_table.declared.message.Answer.TheVariants.{Reset}
use Rattle.law_branch_shapes.specs.world_model.gsmp_wire.declared.fault.Fault.{Fault}
use Rattle.law_branch_shapes.specs.world_model.gsmp_wire.declared.message.Message.{Message}
use Rattle.law_branch_shapes.specs.world_model.gsmp_wire.declared.message.Message.TheVariants.{Adjacency, Branch, Port, AllPorts}
use Rattle.law_branch_shapes.specs.world_model.gsmp_wire.declared.request.Request.TheVariants as requests
use Rattle.law_branch_shapes.specs.world_model.gsmp_wire.Layout.{octets_of}
use Rattle.law_branch_shapes.specs.world_model.gsmp_wire.Fields.{decoded}
use Rattle.law_frame_readings.specs.law_gsmp_reading.Said.{IsSaid}
use Rattle.law_branch_shapes.specs.world_model.frame_model.Frame.{octets_of as cell_octets}
use Rattle.law_branch_shapes.specs.world_model.frame_model.Reassembly.{Taken, taken}
use Rattle.law_branch_shapes.specs.world_model.frame_model.Sending.{Sender}
use Rattle.law_branch_shapes.specs.world_model.crossbar_model.declared.routed.Routed.TheVariants as routes
use Rattle.law_branch_shapes.specs.world_model.crossbar_model.declared.branch.Branch.{Branch as BranchOf}
use Rattle.law_frame_readings.proofs.law_port_facts.Keyed.{on_both, on_each}
use Rattle.law_frame_readings.proofs.law_port_facts.Rules.{and_first}
use Rattle.law_branch_shapes.specs.world_model.switch_model.declared.port.PortState.{PortState}
use Rattle.law_branch_shapes.specs.world_model.switch_model.declared.request.Asked.{Asked}
use Rattle.law_branch_shapes.specs.world_model.gsmp_wire.declared.failure.Failure.{Failure}
use Rattle.law_branch_shapes.specs.world_model.Switch.{ActedSwitch, free_slots, begun}
use Rattle.law_branch_shapes.specs.world_model.Requests.{branch_ended, deleted_all}
use Rattle.law_branch_shapes.specs.world_model.Answers.{port_row}
use Rattle.law_branch_shapes.specs.world_model.Conduct.{with_cells, says, answers, steps, message_heard, after_test, ends_frame, cell_routed, cell_comes}
use Rattle.law_frame_readings.specs.law_world_views.Made.{said, AreMade}
use Rattle.law_frame_readings.specs.law_world_views.Ready.{FitsSide}
use Rattle.law_frame_readings.proofs.law_shown_cells.Tested.{cut_frames, taken_frames, tested_frames}
use Rattle.law_running_worlds.proofs.Making.{made_more}
use Rattle.law_input_events.proofs.law_input_premises.Written.{IsWritten}
use Rattle.law_running_worlds.proofs.Greeted.{AnswersWell, received_side, received_answers, ticked_side, ticked_answers}
use Rattle.law_input_events.specs.law_input_steps.Asking.{IsAsked}
use Rattle.law_input_events.proofs.law_input_steps.Handled.{noted_frames}
use Rattle.law_input_events.proofs.Answering.{TellsRows, answer_written}
use Rattle.law_run_facts.proofs.Switches.{handled_as}

-- *A switch in a run*: its parties fit, it can tell its ports, and each frame is a packet's or a message's
pub record IsGood (a : ActedSwitch) : Type 0 where
  pub side : FitsSide a.switch.adjacency
  pub ports : FitsRows (map port_row a.switch.ports)
  pub made : AreMade a.notes.frames

-- one leads to another, where the instances given out fit
pub record To (a b : ActedSwitch) : Type 0 where
  pub rises : a.numbers.instances ≤ b.numbers.instances
  pub good : b.numbers.instances < 2 ^ 32 → IsGood a → IsGood b

stays : (a : ActedSwitch) → To a a
stays a = record { rises = omega arith; good = λ small g. g }

goes_on : (a b c : ActedSwitch) → To a b → To b c → To a c
goes_on a b c f g = record { rises = omega (arith, f.rises, g.rises); good = λ small h. g.good small (f.good (omega (arith, small, g.rises)) h) }

alike : (a b : ActedSwitch) → b.numbers ≡ a.numbers → b.switch.adjacency ≡ a.switch.adjacency → b.switch.ports ≡ a.switch.ports → b.notes.frames ≡ a.notes.frames → To a b
alike a b numbers side ports frames = record {
  rises = omega (arith, ap (λ (n : GivenOut). n.instances) numbers);
  good = λ small g. record {
    side = subst FitsSide (sym side) g.side;
    ports = subst (λ (xs : List PortState). FitsRows (map port_row xs)) (sym ports) g.ports;
    made = subst (λ (fs : List Frame). AreMade fs) (sym frames) g.made;
  };
}

-- *A message is said*
says_to : (a : ActedSwitch) (m : Message) → (IsGood a → IsWritten m) → To a (says a m)
says_to a m it = record {
  rises = on_both (λ (s : Sender Switch). a.numbers.instances ≤ (with_control a.numbers).instances) (nat_le (length cells) (free_slots a.switch)) full none (omega arith) (omega arith);
  good = λ small g. (let all : AreMade (made a.notes mark (octets_of m)).frames = made_more a.notes.frames mark (octets_of m) g.made (said refl m (it g).0 (it g).1 refl) in
      on_both (λ (s : Sender Switch). IsGood (record a { switch = s.queues; notes = s.notes; numbers = with_control a.numbers })) (nat_le (length cells) (free_slots a.switch)) full none
      (record { side = g.side; ports = g.ports; made = all }) (record { side = g.side; ports = g.ports; made = all }));
}
  where
    mark : Mark
    mark = next_control a.numbers

    cells : List Cell
    cells = frame_cells gsmp_channel mark (octets_of m)

    full : Sender Switch
    full = record { queues = with_cells a.switch control_port cells; notes = made a.notes mark (octets_of m) }

    none : Sender Switch
    none = record { queues = a.switch; notes = noted (made a.notes mark (octets_of m)) (Loss mark PoolFull) }

-- *Greetings* and ticks
answers_to : (a : ActedSwitch) (answer : Answer Greeting Party) → (FitsSide a.switch.adjacency → AnswersWell answer) → To a (answers a answer)
answers_to a Quiet well = stays a
answers_to a (Send greeting) well = says_to a (Adjacency greeting) (λ g. well g.side)
answers_to a (Open None key) well = stays a
answers_to a (Open (Some greeting) key) well = says_to a (Adjacency greeting) (λ g. well g.side)
answers_to a Reset well = record {
  rises = omega arith;
  good = λ small g. record {
    side = record { own = record { name = λ i z less. g.side.own.name i z less; name_length = g.side.own.name_length; port = g.side.own.port; instance = small }; stored = tt };
    ports = g.ports;
    made = g.made;
  };
}

steps_to : (a : ActedSwitch) (step : Step Party) → (FitsSide a.switch.adjacency → FitsSide step.side) → (FitsSide step.side → AnswersWell (gsmp_answer step.answer)) → To a (steps a step)
steps_to a step keeps well =
    let b : ActedSwitch = record a { switch = record a.switch { adjacency = step.side } } in
    goes_on a b (steps a step) (record { rises = omega arith; good = λ small g. record { side = keeps g.side; ports = g.ports; made = g.made } }) (answers_to b (gsmp_answer step.answer) well)

pub ticks_to : (a : ActedSwitch) → To a (tick_comes a)
ticks_to a = steps_to a (ticked a.switch.adjacency) (ticked_side a.switch.adjacency) (ticked_answers a.switch.adjacency)

-- *Branches* change, and no frame is made
ended_frames : (c : Changed) (input : End) → (branch_ended c input).notes.frames ≡ c.notes.frames
ended_frames c input = by (get c.branches input)
  where
    by : (o : Option BranchOf) → (ended_by c input o).notes.frames ≡ c.notes.frames
    by None = refl
    by (Some b) = noted_frames c.notes b.unfinished

all_ended_frames : (inputs : List End) (c : Changed) → (all_ended c inputs).notes.frames ≡ c.notes.frames
all_ended_frames [] c = refl
all_ended_frames (input ∷ inputs) c = all_ended_frames inputs (branch_ended c input) ∙ ended_frames c input

moved_frames : (c : Changed) (input to : End) → (moved_to c input to).notes.frames ≡ c.notes.frames
moved_frames c input to = by (get c.branches input)
  where
    by : (o : Option BranchOf) → (moved_by c input to o).notes.frames ≡ c.notes.frames
    by None = refl
    by (Some b) = noted_frames c.notes (cut_by_move b to)

branches_frames : (c : Changed) (request : Request) → (branches_after c request).notes.frames ≡ c.notes.frames
branches_frames c (requests.AddBranch input output) = refl
branches_frames c (requests.MoveBranch input from to) = moved_frames c input to
branches_frames c (requests.DeleteTree input) = ended_frames c input
branches_frames c (requests.DeleteAll port) = all_ended_frames (inputs_on c.branches port) c
branches_frames c (requests.PortManagement port function) = on_both (λ (d : Changed). d.notes.frames ≡ c.notes.frames) (function == 2) (deleted_all c port) c (all_ended_frames (inputs_on c.branches port) c) refl
branches_frames c (requests.VerifyTree input) = refl
branches_frames c requests.AllPorts = refl

-- *Requests*: what is asked manages no port
same_ports : (ports : List PortState) (request : Request) → IsAsked request → ports_after ports request ≡ ports
same_ports ports (requests.AddBranch input output) asked = refl
same_ports ports (requests.MoveBranch input from to) asked = refl
same_ports ports (requests.DeleteTree input) asked = refl
same_ports ports (requests.VerifyTree input) asked = refl
same_ports ports (requests.DeleteAll port) asked = refl
same_ports ports (requests.PortManagement port function) asked = absurd asked
same_ports ports requests.AllPorts asked = refl

handled_to : (a : ActedSwitch) (m : Message) (o : Option Asked) → ((asked : Asked) → o ≡ Some asked → IsAsked asked.request) → To a (handled_as a (handled_asked a.switch a.notes m o))
handled_to a m None is = alike a (handled_as a (handled_asked a.switch a.notes m None)) refl refl refl refl
handled_to a m (Some asked) is = by (failure_of a.switch.ports a.switch.vpis a.switch.crossbar.branches asked)
  where
    by : (o : Option Failure) → To a (handled_as a (handled_by a.switch a.notes m asked.request o))
    by (Some failure) = alike a (handled_as a (handled_by a.switch a.notes m asked.request (Some failure))) refl refl refl refl
    by None = alike a (handled_as a (handled_by a.switch a.notes m asked.request None)) refl refl (same_ports a.switch.ports asked.request (is asked refl))
        (branches_frames (record { branches = a.switch.crossbar.branches; notes = a.notes }) asked.request)

-- a copy of what is asked says so
abbrev AsksWell : Message → Type 0
AsksWell m = (s : Standing) → copy_of m ≡ Some s → IsAsked s.request

well_copied : (m : Message) (head : Head) (found asked : Asked) → is_request m ≡ true → head_of m ≡ Some head → asked_in m ≡ Some found → found ≡ asked → AsksWell m → IsAsked asked.request
well_copied m head found asked is heads asks same well = subst (λ (x : Asked). IsAsked x.request) same
    (well (record { number = head.number; request = found.request }) (ap (λ (b : Bool). if b then copy_by (head_of m) (asked_in m) else None) is ∙ (λ i. copy_by (heads i) (asks i))))

asked_well : (m : Message) → is_request m ≡ true → AsksWell m → (asked : Asked) → asked_in m ≡ Some asked → IsAsked asked.request
asked_well m is well asked e = by (head_of m) refl
  where
    headless : (m : Message) → head_of m ≡ None → asked_in m ≡ Some asked → ⊥
    headless (Adjacency greeting) none e = cc e
    headless (Branch kind result code number session input_port input output_port output branches priority) none e = cc none
    headless (Move result code number session input_port input output_port output target_port target branches priority) none e = cc none
    headless (Port result code number port session function) none e = cc none
    headless (AllPorts result code number rows) none e = cc none

    by : (o : Option Head) → head_of m ≡ o → IsAsked asked.request
    by (Some head) heads = well_copied m head asked asked is heads e refl well
    by None none = absurd (headless m none e)

-- how many ports a switch tells
pub record IsSized (ports : List PortState) : Type 0 where
  pub some : 1 ≤ length ports
  pub few : length (map port_row ports) ≤ 9

tells : (ports : List PortState) → IsSized ports → FitsRows (map port_row ports) → TellsRows ports
tells ports sized fits = record { some = sized.some; few = sized.few; fits = fits }

requested_to : (a : ActedSwitch) (m : Message) → IsSized a.switch.ports → Fits m → IsSaid m → AsksWell m → To a (requested a m)
requested_to a m sized fits was_said well = on_each (To a) (is_request m && is_estab a.switch.adjacency.state) (replied a (handled a.switch a.notes m)) a
    (λ t. by (and_first (is_request m) (is_estab a.switch.adjacency.state) t)) (λ f. stays a)
  where
    by : is_request m ≡ true → To a (replied a (handled a.switch a.notes m))
    by is =
        let h : Handled = handled a.switch a.notes m in
        let first : To a (handled_as a h) = handled_to a m (asked_in m) (asked_well m is well) in
        let last : IsGood a → To (handled_as a h) (says (handled_as a h) h.answer) = λ g. says_to (handled_as a h) h.answer (λ k. answer_written a.switch a.notes (tells a.switch.ports sized g.ports) m fits was_said well is) in
        record { rises = rising h; good = λ small g. (last g).good small (first.good (omega (arith, small, (last g).rises)) g) }
      where
        rising : (h : Handled) → a.numbers.instances ≤ (says (handled_as a h) h.answer).numbers.instances
        rising h = omega arith

told_to : (a : ActedSwitch) (m : Message) → IsSized a.switch.ports → Fits m → IsSaid m → AsksWell m → To a (message_heard a m)
told_to a (Adjacency greeting) sized fits was_said well = steps_to a (gsmp_received a.switch.adjacency greeting) (received_side a.switch.adjacency greeting fits) (received_answers a.switch.adjacency greeting fits)
told_to a (Branch kind result code number session input_port input output_port output branches priority) sized fits was_said well =
    requested_to a (Branch kind result code number session input_port input output_port output branches priority) sized fits was_said well
told_to a (Move result code number session input_port input output_port output target_port target branches priority) sized fits was_said well =
    requested_to a (Move result code number session input_port input output_port output target_port target branches priority) sized fits was_said well
told_to a (Port result code number port session function) sized fits was_said well = requested_to a (Port result code number port session function) sized fits was_said well
told_to a (AllPorts result code number rows) sized fits was_said well = requested_to a (AllPorts result code number rows) sized fits was_said well

-- *Frames* of the GSMP channel: what is read was written, and asks well
abbrev pub IsReadWell : (payload : List ℕ) → Type 0
IsReadWell payload = (m : Message) → decoded payload ≡ Ok m → Fits m × IsSaid m × AsksWell m

read_to : (a : ActedSwitch) (payload : List ℕ) → IsSized a.switch.ports → IsReadWell payload → To a (frame_read a (decoded payload))
read_to a payload sized well = by (decoded payload) refl
  where
    by : (r : Result Message Fault) → decoded payload ≡ r → To a (frame_read a r)
    by (Ok m) is = told_to a m sized (well m is).0 (well m is).1 (well m is).2
    by (Err fault) is = alike a (frame_read a (Err fault)) refl refl refl refl

abbrev pub Ends : List Cell → Type 0
Ends [] = Unit {0}
Ends (first ∷ cells) = (payload : List ℕ) → payload_in (cell_octets (first ∷ cells)) ≡ Some payload → IsReadWell payload

tested_to : (a : ActedSwitch) (first : Cell) (cells : List Cell) (o : Option (List ℕ)) → payload_in (cell_octets (first ∷ cells)) ≡ o → IsSized a.switch.ports → Ends (first ∷ cells) → To a (after_test a (tested_by a.notes (first ∷ cells) o))
tested_to a first cells None is sized ends = alike a (after_test a (tested_by a.notes (first ∷ cells) None)) refl refl refl (tested_frames a.notes (first ∷ cells) None)
tested_to a first cells (Some payload) is sized ends =
    let b : ActedSwitch = record a { notes = (tested_by a.notes (first ∷ cells) (Some payload)).notes } in
    goes_on a b (frame_read b (decoded payload)) (alike a b refl refl refl (tested_frames a.notes (first ∷ cells) (Some payload))) (read_to b payload sized (ends payload is))

ended_to : (a : ActedSwitch) (cells : List Cell) → IsSized a.switch.ports → Ends cells → To a (ends_frame a cells)
ended_to a [] sized ends = stays a
ended_to a (first ∷ cells) sized ends = tested_to a first cells (payload_in (cell_octets (first ∷ cells))) refl sized ends

-- *Cells*
abbrev pub taken_by : ActedSwitch → Cell → Taken
taken_by a cell = taken a.notes (nat_lt 0 (free_slots a.switch)) a.switch.reassembly cell

gsmp_to : (a : ActedSwitch) (cell : Cell) → IsSized a.switch.ports → Ends (taken_by a cell).ended → To a (gsmp_cell a cell)
gsmp_to a cell sized ends =
    let t : Taken = taken_by a cell in
    let b : ActedSwitch = record a { switch = record a.switch { reassembly = t.reassembly }; notes = t.notes } in
    goes_on a b (ends_frame b t.ended) (alike a b refl refl refl (taken_frames a.notes (nat_lt 0 (free_slots a.switch)) a.switch.reassembly cell)) (ended_to b t.ended sized ends)

switched_to : (a : ActedSwitch) (port : PortNo) (cell : Cell) → To a (switched_cell a port cell)
switched_to a port cell = by (routed a.switch.crossbar (free_slots a.switch) port cell)
  where
    by : (r : Routed) → To a (cell_routed a port cell r)
    by (routes.Out output) = alike a (cell_routed a port cell (routes.Out output)) refl refl refl refl
    by routes.Unconnected = alike a (cell_routed a port cell routes.Unconnected) refl refl refl refl
    by routes.PoolFull = alike a (cell_routed a port cell routes.PoolFull) refl refl refl refl

pub cell_comes_to : (a : ActedSwitch) (port : PortNo) (cell : Cell) → IsSized a.switch.ports → (is_gsmp port cell.header.channel ≡ true → Ends (taken_by a cell).ended) → To a (cell_comes a port cell)
cell_comes_to a port cell sized ends = on_each (To a) (is_gsmp port cell.header.channel) (gsmp_cell a cell) (switched_cell a port cell) (λ t. gsmp_to a cell sized (ends t)) (λ f. switched_to a port cell)

-- *A restart*: its ports begin anew under its own instance
begun_fit : (own : Instance) (ports : List PortState) → own.0 < 2 ^ 32 → FitsRows (map port_row ports) → FitsRows (map port_row (map (λ (state : PortState). begun own state.number) ports))
begun_fit own [] less fits = tt
begun_fit own (state ∷ ports) less fits = (record { port = fits.0.port; session = less; least = omega arith; greatest = omega arith }, begun_fit own ports less fits.1)

pub restarts_to : (a : ActedSwitch) → To a (restarted a)
restarts_to a = record {
  rises = omega arith;
  good = λ small g. record {
    side = record { own = record { name = λ i z less. g.side.own.name i z less; name_length = g.side.own.name_length; port = g.side.own.port; instance = small }; stored = tt };
    ports = begun_fit (next_instance a.numbers) a.switch.ports small g.ports;
    made = subst (λ (fs : List Frame). AreMade fs) (sym frames) g.made;
  };
}
  where
    frames : (restarted a).notes.frames ≡ a.notes.frames
    frames = cut_frames (all_ended (record { branches = a.switch.crossbar.branches; notes = a.notes }) (keys a.switch.crossbar.branches)).notes a.switch.reassembly
        ∙ all_ended_frames (keys a.switch.crossbar.branches) (record { branches = a.switch.crossbar.branches; notes = a.notes })
