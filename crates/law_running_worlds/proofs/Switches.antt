-- what a switch tells its controller of its ports: all are up

use Rattle.std.proofs.Common.{◌≡◌, ℕ, ◌+◌, ◌≤◌, zero, suc, Bool, true, false, true≢false, not, List, [], ◌∷◌, ◌++◌, map, length, find, Option, None, Some, Result, Ok, Err, refl, sym, ◌∙◌, ap, subst, arith, slice_set, slice_index_or, if◌then◌else◌}
use Rattle.std.specs.Prelude.{◌==◌, ◌&&◌, ◌||◌, nat_le, nat_lt}
use Rattle.std.specs.List.{list_any}
use Rattle.std.specs.Option.{option_and_then, option_map_or}
use Rattle.std.specs.FinMap as finite
use Rattle.std.specs.FinMap.{get}
use Rattle.std.proofs.lemmas.Bool.Decides.{nat_tests}
use Rattle.law_branch_shapes.specs.world_model.Words.{Greeting, Party, End, PortNo, Instance, Mark, next_control, next_instance, with_control, Answer, Quiet, Send, Open, Step, is_estab, ticked, gsmp_answer, gsmp_received, Cell, Routed, Crossbar, queue_of, on_channel_of, routed, switched_on, Move, Request, PortRow, Frame, PoolFull, Loss, payload_of, Journal, noted, frame_cells, made, last_mark, payload_in, tested_by, Reassembly, marks_of, most_cells, passed_over, without_slot, too_long, Setup, Switch, control_port, gsmp_channel, numbers_of, Changed, end_at, branch_request, branches_after, ports_after, inputs_on, asked_in, is_request, failure_of, handled, handled_asked, handled_by, replied, requested, frame_read, gsmp_cell, switched_cell, tick_comes, restarted, default_channel, gsmp_of, gsmp_under}
use Rattle.law_branch_shapes.specs.world_model.adjacency_table.declared.message.Answer.TheVariants.{Reset}
use Rattle.law_branch_shapes.specs.world_model.crossbar_model.declared.branch.Branch.{Branch as Led}
use Rattle.law_branch_shapes.specs.world_model.crossbar_model.declared.routed.Routed.TheVariants as routes
use Rattle.law_branch_shapes.specs.world_model.crossbar_model.Crossbar.{input_of}
use Rattle.law_branch_shapes.specs.world_model.gsmp_wire.declared.fault.Fault.{Fault}
use Rattle.law_branch_shapes.specs.world_model.gsmp_wire.declared.message.Message.{Message}
use Rattle.law_branch_shapes.specs.world_model.gsmp_wire.declared.message.Message.TheVariants.{Adjacency, Branch, Port, AllPorts}
use Rattle.law_branch_shapes.specs.world_model.gsmp_wire.declared.request.Request.TheVariants as requests
use Rattle.law_branch_shapes.specs.world_model.gsmp_wire.Fields.{decoded}
use Rattle.law_branch_shapes.specs.world_model.gsmp_wire.Layout.{octets_of as message_octets}
use Rattle.law_branch_shapes.specs.world_model.frame_model.Frame.{octets_of}
use Rattle.law_branch_shapes.specs.world_model.frame_model.Reassembly.{Taken, cell_joined}
use Rattle.law_branch_shapes.specs.world_model.frame_model.Sending.{Sender}
use Rattle.law_frame_readings.specs.ordered_lists.Ordered.{Every}
use Rattle.law_frame_readings.proofs.ordered_lists.Every.{every_join, every_map, every_mapped}
use Rattle.law_branch_shapes.specs.world_model.port_model.Messages.{is_up}
use Rattle.law_frame_readings.specs.law_port_facts.Port.{IsShaped, asks_ports, empties_control, empties_port, opens_input, opens_output, leads_label, leads_grant, joins_label, parts_label, frees_label}
use Rattle.law_frame_readings.proofs.law_port_facts.Keyed.{on_both, on_each}
use Rattle.law_branch_shapes.specs.world_model.switch_model.declared.port.PortState.{PortState}
use Rattle.law_branch_shapes.specs.world_model.switch_model.declared.request.Asked.{Asked}
use Rattle.law_branch_shapes.specs.world_model.gsmp_wire.declared.failure.Failure.{Failure}
use Rattle.law_branch_shapes.specs.world_model.Switch.{ActedSwitch, free_slots, begun}
use Rattle.law_branch_shapes.specs.world_model.Requests.{deleted_all}
use Rattle.law_branch_shapes.specs.world_model.Answers.{port_row}
use Rattle.law_branch_shapes.specs.world_model.Conduct.{with_cells, says, answers, steps, message_heard, after_test, ends_frame, after_cell, cell_routed as passed_cell}
use Rattle.law_branch_shapes.specs.world_model.Ways.{ok_of as heard}
use Rattle.law_input_events.specs.law_input_steps.Asking.{IsReadable}
use Rattle.law_input_events.specs.law_input_steps.Hearing.{IsEnded, LeadsAway, PassesTrue}
use Rattle.law_input_events.proofs.law_input_steps.Handled.{all_ended_frames, moved_frames, ended_frames}
use Rattle.law_input_events.proofs.law_input_premises.Asking.{shaped_asked}
use Rattle.law_input_events.specs.Coming.{TellsPorts, IsToSwitch}
use Rattle.law_input_events.proofs.Answering.{answer_reads}
use Rattle.law_frame_readings.proofs.law_shown_cells.Frames.{differ}
use Rattle.law_frame_readings.proofs.law_shown_cells.Tested.{broken_frames, cut_frames, frame_is, last_is, passed_frames}
use Rattle.law_running_worlds.specs.Mode.{AreUp}
use Rattle.law_running_worlds.specs.New.{is_on_gsmp, TellsUp, SinceThen}
use Rattle.law_running_worlds.specs.Calls.{IsTelling}
use Rattle.law_running_worlds.proofs.Cells.{IsEither, since_made, since_said}
use Rattle.law_running_worlds.proofs.Greetings.{greeting_tells}
use Rattle.law_branch_shapes.proofs.Kept.{copy_is}

-- *Rows of ports that are up*
abbrev has_number : List PortState → PortNo → Bool
has_number states port = list_any (λ (state : PortState). state.number.0 == port.0) states

abbrev IsUpState : PortState → Type 0
IsUpState state = state.is_up ≡ true

number_self : (n : ℕ) → (n == n) ≡ true
number_self n = grind (arith, nat_tests)

or_second : (b t : Bool) → t ≡ true → (b || t) ≡ true
or_second true t e = refl
or_second false t e = e

each_there : (states : List PortState) → Every (λ (state : PortState). has_number states state.number ≡ true) states
each_there [] = tt
each_there (x ∷ states) = (
  ap (λ (b : Bool). b || has_number states x.number) (number_self x.number.0),
  every_map (λ (state : PortState). has_number states state.number ≡ true) (λ (state : PortState). has_number (x ∷ states) state.number ≡ true) states
      (λ state e. or_second (x.number.0 == state.number.0) (has_number states state.number) e) (each_there states),
)

up_row : (states : List PortState) (port : PortNo) → Every IsUpState states → has_number states port ≡ true → is_up (map port_row states) port ≡ true
up_row [] port all e = absurd (cc e)
up_row (x ∷ states) port all e = by (x.number.0 == port.0) e (up_row states port all.1)
  where
    by : (b : Bool) → (b || has_number states port) ≡ true → (has_number states port ≡ true → is_up (map port_row states) port ≡ true)
        → option_map_or (λ (row : PortRow). row.up) (if b then Some (port_row x) else find (λ (row : PortRow). row.port == port.0) (map port_row states)) false ≡ true
    by true e rest = all.0
    by false e rest = rest e

pub rows_up : (states : List PortState) (ports : List PortNo) → Every IsUpState states → numbers_of states ≡ control_port ∷ ports → AreUp (map port_row states) ports
rows_up states ports all same =
    let each : Every (λ (port : PortNo). is_up (map port_row states) port ≡ true) (numbers_of states) =
    every_mapped (λ (state : PortState). state.number) (λ (port : PortNo). is_up (map port_row states) port ≡ true) states
    (every_map (λ (state : PortState). has_number states state.number ≡ true) (λ (state : PortState). is_up (map port_row states) state.number ≡ true) states (λ state e. up_row states state.number all e) (each_there states)) in
    (subst (Every (λ (port : PortNo). is_up (map port_row states) port ≡ true)) same each).1

-- *A request makes no frame*
after_frames : (c : Changed) (r : Request) → (branches_after c r).notes.frames ≡ c.notes.frames
after_frames c (requests.AddBranch i o) = refl
after_frames c (requests.MoveBranch i from to) = moved_frames c i to (get c.branches i)
after_frames c (requests.DeleteTree i) = ended_frames c i (get c.branches i)
after_frames c (requests.VerifyTree i) = refl
after_frames c (requests.DeleteAll port) = all_ended_frames c (inputs_on c.branches port)
after_frames c (requests.PortManagement port function) = on_both (λ (z : Changed). z.notes.frames ≡ c.notes.frames) (function == 2) (deleted_all c port) c (all_ended_frames c (inputs_on c.branches port)) refl
after_frames c requests.AllPorts = refl

-- *A request that has a shape* changes no port
same_ports : (setups : List Setup) (request : Request) → IsShaped setups request → (ports : List PortState) → ports_after ports request ≡ ports
same_ports setups _ asks_ports ports = refl
same_ports setups _ (empties_control port none) ports = refl
same_ports setups _ (empties_port port linked) ports = refl
same_ports setups _ (opens_input end e) ports = refl
same_ports setups _ (opens_output end e) ports = refl
same_ports setups _ (leads_label end e) ports = refl
same_ports setups _ (leads_grant end e) ports = refl
same_ports setups _ (joins_label input output i o) ports = refl
same_ports setups _ (parts_label input output i o) ports = refl
same_ports setups _ (frees_label end e) ports = refl

-- *What it answers*
four_three : (m n : ℕ) → m ≡ 4 → n ≡ 3 → m ≡ n → ⊥
four_three m n a b e = absurd (omega (arith, a, b, e))

module _ (ports : List PortNo) (s : Switch) (notes : Journal) (all : Every IsUpState s.ports) (same : numbers_of s.ports ≡ control_port ∷ ports) where
  told_all : (code number : ℕ) (rows : List PortRow) (other : ℕ) → ◌≡◌ {A = Message} (AllPorts 3 0 other (map port_row s.ports)) (AllPorts 3 code number rows) → AreUp rows ports
  told_all code number rows other e = (let is : map port_row s.ports ≡ rows = cc e in subst (λ (r : List PortRow). AreUp r ports) is (rows_up s.ports ports all same))

  answer_up : (m : Message) (code number : ℕ) (rows : List PortRow) → is_request m ≡ true → (handled s notes m).answer ≡ AllPorts 3 code number rows → AreUp rows ports
  answer_up (Adjacency greeting) code number rows r e = absurd (cc r)
  answer_up (Branch kind result c n session ip i op o branches priority) code number rows r e = by (failure_of s.ports s.vpis s.crossbar.branches (record { session = session; request = branch_request kind (end_at ip i) (end_at op o) })) e
    where
      by : (f : Option Failure) → (handled_by s notes (Branch kind result c n session ip i op o branches priority) (branch_request kind (end_at ip i) (end_at op o)) f).answer ≡ AllPorts 3 code number rows → AreUp rows ports
      by (Some f) e = absurd (cc e)
      by None e = absurd (cc e)
  answer_up (Move result c n session ip i op o tp t branches priority) code number rows r e = by (failure_of s.ports s.vpis s.crossbar.branches (record { session = session; request = requests.MoveBranch (end_at ip i) (end_at op o) (end_at tp t) })) e
    where
      by : (f : Option Failure) → (handled_by s notes (Move result c n session ip i op o tp t branches priority) (requests.MoveBranch (end_at ip i) (end_at op o) (end_at tp t)) f).answer ≡ AllPorts 3 code number rows → AreUp rows ports
      by (Some f) e = absurd (cc e)
      by None e = absurd (cc e)
  answer_up (Port result c n port session function) code number rows r e = by (failure_of s.ports s.vpis s.crossbar.branches (record { session = session; request = requests.PortManagement (record { 0 = port }) function })) e
    where
      by : (f : Option Failure) → (handled_by s notes (Port result c n port session function) (requests.PortManagement (record { 0 = port }) function) f).answer ≡ AllPorts 3 code number rows → AreUp rows ports
      by (Some f) e = absurd (cc e)
      by None e = absurd (cc e)
  answer_up (AllPorts result c n old) code number rows r e = by (failure_of s.ports s.vpis s.crossbar.branches (record { session = 0; request = requests.AllPorts })) e
    where
      by : (f : Option Failure) → (handled_by s notes (AllPorts result c n old) requests.AllPorts f).answer ≡ AllPorts 3 code number rows → AreUp rows ports
      by (Some f) e = (let four : 4 ≡ 3 = cc e in absurd (four_three 4 3 refl refl four))
      by None e = told_all code number rows n e

module _ (setups : List Setup) (Old : Cell → Type 0) (OldChain : Cell → Type 0) (began : List Frame) (marks : ℕ) where
  abbrev ports : List PortNo
  ports = map (λ (setup : Setup). setup.port) setups

  abbrev Waiting : ActedSwitch → Type 0
  Waiting a = SinceThen Old (TellsUp ports) began marks (queue_of a.switch.crossbar control_port) a.notes.frames a.numbers.controls

  -- *What is so of it while it acts*
  abbrev pub Fine : ActedSwitch → Type 0
  Fine = IsTelling setups Old OldChain began marks

  set_first : (queues : List (List Cell)) (cells : List Cell) → 1 ≤ length queues → slice_index_or (slice_set queues 0 cells) 0 [] ≡ cells
  set_first [] cells some = absurd (omega (arith, some))
  set_first (q ∷ queues) cells some = refl

  set_some : (queues : List (List Cell)) (k : ℕ) (cells : List Cell) → 1 ≤ length queues → 1 ≤ length (slice_set queues k cells)
  set_some [] k cells some = absurd (omega (arith, some))
  set_some (q ∷ queues) zero cells some = omega arith
  set_some (q ∷ queues) (suc k) cells some = omega arith

  set_behind : (queues : List (List Cell)) (k : ℕ) (cells : List Cell) → slice_index_or (slice_set queues (suc k) cells) 0 [] ≡ slice_index_or queues 0 []
  set_behind [] k cells = refl
  set_behind (q ∷ queues) k cells = refl

  -- *A message is said*
  says_fine : (a : ActedSwitch) (m : Message) → TellsUp ports (message_octets m) → Fine a → Fine (says a m)
  says_fine a m good h =
      let b : ActedSwitch = record a { numbers = with_control a.numbers } in
      let mark : Mark = next_control a.numbers in
      let payload : List ℕ = message_octets m in
      let cells : List Cell = frame_cells gsmp_channel mark payload in
      let queue : List Cell = queue_of a.switch.crossbar control_port in
      on_both (λ (s : Sender Switch). Fine (record b { switch = s.queues; notes = s.notes })) (nat_le (length cells) (free_slots b.switch))
      (record { queues = with_cells b.switch control_port cells; notes = made b.notes mark payload })
      (record { queues = b.switch; notes = noted (made b.notes mark payload) (Loss mark PoolFull) })
      (record {
        queue = subst (λ (q : List Cell). SinceThen Old (TellsUp ports) began marks q (made b.notes mark payload).frames (a.numbers.controls + 1)) (sym (set_first a.switch.crossbar.queues (queue ++ cells) h.some))
            (since_said Old (TellsUp ports) began marks queue a.notes.frames a.numbers.controls payload good h.queue);
        chain = h.chain;
        up = h.up;
        same = h.same;
        some = set_some a.switch.crossbar.queues 0 (queue ++ cells) h.some;
      })
      (record { queue = since_made Old (TellsUp ports) began marks queue a.notes.frames a.numbers.controls payload h.queue; chain = h.chain; up = h.up; same = h.same; some = h.some })

  -- *The adjacency*
  answers_fine : (a : ActedSwitch) (answer : Answer Greeting Party) → Fine a → Fine (answers a answer)
  answers_fine a Quiet h = h
  answers_fine a (Send greeting) h = says_fine a (Adjacency greeting) (greeting_tells ports greeting) h
  answers_fine a (Open None key) h = h
  answers_fine a (Open (Some greeting) key) h = says_fine a (Adjacency greeting) (greeting_tells ports greeting) h
  answers_fine a Reset h = record { queue = h.queue; chain = h.chain; up = h.up; same = h.same; some = h.some }

  steps_fine : (a : ActedSwitch) (step : Step Party) → Fine a → Fine (steps a step)
  steps_fine a step h = answers_fine (record a { switch = record a.switch { adjacency = step.side } }) (gsmp_answer step.answer) (record { queue = h.queue; chain = h.chain; up = h.up; same = h.same; some = h.some })

  pub tick_fine : (a : ActedSwitch) → Fine a → Fine (tick_comes a)
  tick_fine a h = steps_fine a (ticked a.switch.adjacency) h

  -- *A request*
  on_frames : (a : ActedSwitch) (switch : Switch) (notes : Journal) → notes.frames ≡ a.notes.frames → Fine (record a { switch = switch }) → Fine (record a { switch = switch; notes = notes })
  on_frames a switch notes frames h = record {
    queue = subst (λ (f : List Frame). SinceThen Old (TellsUp ports) began marks (queue_of switch.crossbar control_port) f a.numbers.controls) (sym frames) h.queue;
    chain = h.chain;
    up = h.up;
    same = h.same;
    some = h.some;
  }

  handled_fine : (a : ActedSwitch) (m : Message) → is_request m ≡ true → IsToSwitch setups m → Fine a → Fine (record a { switch = (handled a.switch a.notes m).switch; notes = (handled a.switch a.notes m).notes })
  handled_fine a m r to h = by (asked_in m) refl
    where
      by_failure : (asked : Asked) → IsShaped setups asked.request → (o : Option Failure) → Fine (record a { switch = (handled_by a.switch a.notes m asked.request o).switch; notes = (handled_by a.switch a.notes m asked.request o).notes })
      by_failure asked shape (Some failure) = h
      by_failure asked shape None =
          let c : Changed = branches_after (record { branches = a.switch.crossbar.branches; notes = a.notes }) asked.request in
          let same : ports_after a.switch.ports asked.request ≡ a.switch.ports = same_ports setups asked.request shape a.switch.ports in
          on_frames a (handled_by a.switch a.notes m asked.request None).switch c.notes (after_frames (record { branches = a.switch.crossbar.branches; notes = a.notes }) asked.request)
          (record { queue = h.queue; chain = h.chain; up = subst (Every IsUpState) (sym same) h.up; same = ap numbers_of same ∙ h.same; some = h.some })

      by : (o : Option Asked) → asked_in m ≡ o → Fine (record a { switch = (handled_asked a.switch a.notes m o).switch; notes = (handled_asked a.switch a.notes m o).notes })
      by None is = h
      by (Some asked) is = (let copy = copy_is m asked r is in by_failure asked (to.shaped (record { number = copy.0; request = asked.request }) copy.1) (failure_of a.switch.ports a.switch.vpis a.switch.crossbar.branches asked))

  answer_good : (a : ActedSwitch) (m : Message) → TellsPorts a.switch.ports → is_request m ≡ true → IsToSwitch setups m → Fine a → TellsUp ports (message_octets (handled a.switch a.notes m).answer)
  answer_good a m tells r to h code number rows e =
      let reads : IsReadable (handled a.switch a.notes m).answer = answer_reads a.switch a.notes tells m to.fits to.said (λ s copy. shaped_asked setups s.request (to.shaped s copy)) r in
      let both : Some (handled a.switch a.notes m).answer ≡ Some (AllPorts 3 code number rows) = sym reads ∙ e in
      answer_up ports a.switch a.notes h.up h.same m code number rows r (let is : (handled a.switch a.notes m).answer ≡ AllPorts 3 code number rows = cc both in is)

  requested_fine : (a : ActedSwitch) (m : Message) → TellsPorts a.switch.ports → IsToSwitch setups m → Fine a → Fine (requested a m)
  requested_fine a m tells to h = by (is_request m) refl (is_estab a.switch.adjacency.state)
    where
      by : (t : Bool) → is_request m ≡ t → (estab : Bool) → Fine (if t && estab then replied a (handled a.switch a.notes m) else a)
      by true r true = says_fine (record a { switch = (handled a.switch a.notes m).switch; notes = (handled a.switch a.notes m).notes }) (handled a.switch a.notes m).answer (answer_good a m tells r to h) (handled_fine a m r to h)
      by true r false = h
      by false r estab = h

  told_fine : (a : ActedSwitch) (m : Message) → TellsPorts a.switch.ports → IsToSwitch setups m → Fine a → Fine (message_heard a m)
  told_fine a (Adjacency greeting) tells to h = steps_fine a (gsmp_received a.switch.adjacency greeting) h
  told_fine a (Branch kind result code n session ip i op o br pr) tells to h = requested_fine a (Branch kind result code n session ip i op o br pr) tells to h
  told_fine a (Move result code n session ip i op o tp t br pr) tells to h = requested_fine a (Move result code n session ip i op o tp t br pr) tells to h
  told_fine a (Port result code n port session function) tells to h = requested_fine a (Port result code n port session function) tells to h
  told_fine a (AllPorts result code n rows) tells to h = requested_fine a (AllPorts result code n rows) tells to h

  read_fine : (a : ActedSwitch) (r : Result Message Fault) → TellsPorts a.switch.ports → ((m : Message) → r ≡ Ok m → IsToSwitch setups m) → Fine a → Fine (frame_read a r)
  read_fine a (Ok m) tells to h = told_fine a m tells (to m refl) h
  read_fine a (Err fault) tells to h = record { queue = h.queue; chain = h.chain; up = h.up; same = h.same; some = h.some }

  -- *A cell of the GSMP channel*
  with_taken : (a : ActedSwitch) (notes : Journal) (r : Reassembly) → notes.frames ≡ a.notes.frames → Every OldChain r.chain → Fine a → Fine (record a { switch = record a.switch { reassembly = r }; notes = notes })
  with_taken a notes r frames chain h = on_frames a (record a.switch { reassembly = r }) notes frames (record { queue = h.queue; chain = chain; up = h.up; same = h.same; some = h.some })

  module _ (a : ActedSwitch) (cell : Cell) (tells : TellsPorts a.switch.ports) (joins : OldChain cell) (to : (m : Message) → gsmp_under a.notes.frames cell.mark ≡ Some m → IsToSwitch setups m)
      (passes : IsEnded (nat_lt 0 (free_slots a.switch)) a.switch.reassembly cell → PassesTrue a.notes.frames (a.switch.reassembly.chain ++ cell ∷ [])) (h : Fine a) where
    abbrev r : Reassembly
    r = a.switch.reassembly

    read_under : (payload : List ℕ) (m : Message) → payload_of a.notes.frames cell.mark ≡ Some payload → decoded payload ≡ Ok m → gsmp_under a.notes.frames cell.mark ≡ Some m
    read_under payload m under ok = ap (λ (o : Option (List ℕ)). option_and_then gsmp_of o) under ∙ ap (λ (z : Result Message Fault). heard z) ok

    tested_fine : IsEnded (nat_lt 0 (free_slots a.switch)) r cell → (o : Option (List ℕ)) → payload_in (octets_of (r.chain ++ cell ∷ [])) ≡ o
        → Fine (after_test (record a { switch = record a.switch { reassembly = record r { chain = [] } } }) (tested_by a.notes (r.chain ++ cell ∷ []) o))
    tested_fine ended None is = with_taken a (tested_by a.notes (r.chain ++ cell ∷ []) None).notes (record r { chain = [] }) (broken_frames (marks_of (r.chain ++ cell ∷ [])) a.notes) tt h
    tested_fine ended (Some payload) is =
        let notes : Journal = (tested_by a.notes (r.chain ++ cell ∷ []) (Some payload)).notes in
        let under : payload_of a.notes.frames cell.mark ≡ Some payload = ap (payload_of a.notes.frames) (sym (last_is r.chain cell)) ∙ frame_is a.notes.frames (last_mark (r.chain ++ cell ∷ [])) payload (passes ended payload is) in
        read_fine (record a { switch = record a.switch { reassembly = record r { chain = [] } }; notes = notes }) (decoded payload) tells (λ m ok. to m (read_under payload m under ok))
        (with_taken a notes (record r { chain = [] }) (passed_frames a.notes (last_mark (r.chain ++ cell ∷ [])) payload) tt h)

    ends_as : (b : ActedSwitch) (chain : List Cell) → ends_frame b (chain ++ cell ∷ []) ≡ after_test b (tested_by b.notes (chain ++ cell ∷ []) (payload_in (octets_of (chain ++ cell ∷ []))))
    ends_as b [] = refl
    ends_as b (x ∷ xs) = refl

    abbrev joined_as : Bool → Taken
    joined_as last =
        if last
        then record { reassembly = record r { chain = [] }; notes = a.notes; ended = r.chain ++ cell ∷ [] }
        else record { reassembly = record r { chain = r.chain ++ cell ∷ [] }; notes = a.notes; ended = [] }

    joined_fine : (last : Bool) → (last ≡ true → IsEnded (nat_lt 0 (free_slots a.switch)) r cell) → Fine (after_cell a (joined_as last))
    joined_fine false ended = with_taken a a.notes (record r { chain = r.chain ++ cell ∷ [] }) refl (every_join OldChain r.chain (cell ∷ []) h.chain (joins, tt)) h
    joined_fine true ended = subst Fine (sym (ends_as (record a { switch = record a.switch { reassembly = record r { chain = [] } } }) r.chain)) (tested_fine (ended refl) (payload_in (octets_of (r.chain ++ cell ∷ []))) refl)

    pub gsmp_cell_fine : Fine (gsmp_cell a cell)
    gsmp_cell_fine =
        let slot : Bool = nat_lt 0 (free_slots a.switch) in
        let out : Taken → Type 0 = λ t. Fine (after_cell a t) in
        on_each out r.is_skipping (passed_over a.notes r cell) (if not slot then without_slot a.notes r cell else (if nat_le most_cells (length r.chain) then too_long a.notes r cell else cell_joined a.notes r cell))
        (λ skips. with_taken a (passed_over a.notes r cell).notes (passed_over a.notes r cell).reassembly (broken_frames (cell.mark ∷ []) a.notes) h.chain h)
        (λ listens. on_each out (not slot) (without_slot a.notes r cell) (if nat_le most_cells (length r.chain) then too_long a.notes r cell else cell_joined a.notes r cell)
        (λ none. with_taken a (without_slot a.notes r cell).notes (without_slot a.notes r cell).reassembly (broken_frames (marks_of r.chain) (noted a.notes (Loss cell.mark PoolFull))) tt h)
        (λ found. on_each out (nat_le most_cells (length r.chain)) (too_long a.notes r cell) (cell_joined a.notes r cell)
        (λ long. with_taken a (too_long a.notes r cell).notes (too_long a.notes r cell).reassembly (broken_frames (marks_of (r.chain ++ cell ∷ [])) a.notes) tt h)
        (λ room. joined_fine cell.header.last (λ last. record { listens = listens; slot_is = found; short = room; last = last }))))

  -- *A cell of another channel* goes out on its branch, which leads none to the GSMP channel
  put_fine : (a : ActedSwitch) (x : Crossbar) (input : End) (cell : Cell) (o : Option Led) (free : ℕ) → LeadsAway o → Waiting (record a { switch = record a.switch { crossbar = x } }) → 1 ≤ length x.queues
      → (1 ≤ length (switched_on x input o free cell).queues) × Waiting (record a { switch = record a.switch { crossbar = switched_on x input o free cell } })
  put_fine a x input cell None free away h some = (some, h)
  put_fine a x input cell (Some b) zero away h some = (some, h)
  put_fine a x input cell (Some b) (suc free) away h some = (set_some x.queues b.output.port.0 (queue_of x b.output.port ++ on_channel_of cell b.output ∷ []) some, by b.output.port.0 refl)
    where
      Since : List Cell → Type 0
      Since q = SinceThen Old (TellsUp ports) began marks q a.notes.frames a.numbers.controls

      new : List Cell
      new = on_channel_of cell b.output ∷ []

      is_zero : (n : ℕ) → n ≡ 0 → (n == 0) ≡ true
      is_zero n e = grind (arith, nat_tests)

      off : b.output.port.0 ≡ 0 → is_on_gsmp (on_channel_of cell b.output) ≡ false
      off e = differ b.output.channel default_channel (away (is_zero b.output.port.0 e))

      more : (queue : List Cell) → (b.output.port.0 ≡ 0) → Since queue → Since (queue ++ new)
      more queue e k = record { given = k.given; same = k.same; cells = every_join (IsEither Old (TellsUp ports) began marks a.notes.frames a.numbers.controls) queue new k.cells ((λ on. absurd (true≢false (sym on ∙ off e))), tt) }

      by : (n : ℕ) → b.output.port.0 ≡ n → Since (slice_index_or (slice_set x.queues b.output.port.0 (queue_of x b.output.port ++ new)) 0 [])
      by zero e = subst (λ (k : ℕ). Since (slice_index_or (slice_set x.queues k (slice_index_or x.queues k [] ++ new)) 0 [])) (sym e)
          (subst Since (sym (set_first x.queues (slice_index_or x.queues 0 [] ++ new) some)) (more (slice_index_or x.queues 0 []) e h))
      by (suc k) e = subst (λ (n : ℕ). Since (slice_index_or (slice_set x.queues n (slice_index_or x.queues n [] ++ new)) 0 [])) (sym e)
          (subst Since (sym (set_behind x.queues k (slice_index_or x.queues (suc k) [] ++ new))) h)

  pub switched_fine : (a : ActedSwitch) (port : PortNo) (cell : Cell) → LeadsAway (get a.switch.crossbar.branches (input_of port cell)) → Fine a → Fine (switched_cell a port cell)
  switched_fine a port cell away h = by (routed a.switch.crossbar (free_slots a.switch) port cell)
    where
      by : (o : Routed) → Fine (passed_cell a port cell o)
      by (routes.Out output) =
          let out = put_fine a a.switch.crossbar (input_of port cell) cell (get a.switch.crossbar.branches (input_of port cell)) (free_slots a.switch) away h.queue h.some in
          record { queue = out.1; chain = h.chain; up = h.up; same = h.same; some = out.0 }
      by routes.Unconnected = record { queue = h.queue; chain = h.chain; up = h.up; same = h.same; some = h.some }
      by routes.PoolFull = record { queue = h.queue; chain = h.chain; up = h.up; same = h.same; some = h.some }

  -- *A restart*
  begun_numbers : (own : Instance) (states : List PortState) → numbers_of (map (λ (state : PortState). begun own state.number) states) ≡ numbers_of states
  begun_numbers own [] = refl
  begun_numbers own (state ∷ states) = ap (λ (rest : List PortNo). state.number ∷ rest) (begun_numbers own states)

  begun_up : (own : Instance) (states : List PortState) → Every IsUpState (map (λ (state : PortState). begun own state.number) states)
  begun_up own [] = tt
  begun_up own (state ∷ states) = (refl, begun_up own states)

  pub restarted_fine : (a : ActedSwitch) → Fine a → Fine (restarted a)
  restarted_fine a h =
      let c : Changed = record { branches = a.switch.crossbar.branches; notes = a.notes } in
      let frames : (restarted a).notes.frames ≡ a.notes.frames = cut_frames _ a.switch.reassembly ∙ all_ended_frames c (finite.keys a.switch.crossbar.branches) in
      record {
        queue = subst (λ (f : List Frame). SinceThen Old (TellsUp ports) began marks (queue_of a.switch.crossbar control_port) f a.numbers.controls) (sym frames) h.queue;
        chain = tt;
        up = begun_up (next_instance a.numbers) a.switch.ports;
        same = begun_numbers (next_instance a.numbers) a.switch.ports ∙ h.same;
        some = h.some;
      }
