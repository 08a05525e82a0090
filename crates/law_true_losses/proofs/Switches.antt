-- the rules of a switch send frames, and enter no loss of a cell on its way, but that by which a cell comes

use Rattle.std.proofs.Common.{◌≡◌, ◌<◌, ◌++◌, ◌∙◌, ap, sym, subst, append-nil, append_assoc, filter, slice_set, slice_index_or, ℕ, suc, ◌==◌, ◌&&◌, Bool, true, false, List, [], ◌∷◌, length, Option, None, Some, refl}
use Rattle.std.specs.Prelude.{nat_lt, nat_le, Result, Ok, Err}
use Rattle.std.specs.FinMap.{get, keys}
use Rattle.world_model.specs.Words.{PortNo, End, Mark, Party, next_control, with_control, Cell, Answer, Quiet, Send, Open, Said, Step, is_estab, ticked, greeting_of, gsmp_answer, gsmp_received, Request, AddBranch, MoveBranch, DeleteTree, VerifyTree, PortManagement, cut_by_move, Bad, Loss, Gsmp, PoolFull, Cut, Journal, losses_of, noted, gsmp_refusal, made, frame_cells, Changed, noted_cut, moved_by, ended_by, all_ended, inputs_on, branches_after, asked_in, is_request, failure_of, Handled, handled_by, handled_asked, handled, Switch, control_port, gsmp_channel, replied, requested, frame_read, gsmp_cell, tick_comes, restarted, Channel, route_on, Entry, Unconnected, Tested, tested, is_gsmp, Frame, Record, Cause, cut, on_channel_of, switched_on, switched, switched_cell}
use Rattle.world_model.specs.adjacency_table.declared.message.Answer.TheVariants.{Reset}
use Rattle.world_model.specs.gsmp_wire.declared.message.Message.{Message}
use Rattle.world_model.specs.gsmp_wire.declared.message.Message.TheVariants as messages
use Rattle.world_model.specs.gsmp_wire.declared.fault.Fault.{Fault}
use Rattle.world_model.specs.gsmp_wire.declared.request.Request.TheVariants.{DeleteAll, AllPorts}
use Rattle.world_model.specs.gsmp_wire.Layout.{octets_of}
use Rattle.world_model.specs.gsmp_wire.Fields.{decoded}
use Rattle.world_model.specs.crossbar_model.declared.branch.Branch.{Branch}
use Rattle.world_model.specs.frame_model.Reassembly.{Taken, taken}
use Rattle.world_model.specs.frame_model.Sending as frames
use Rattle.law_causes.proofs.law_port_facts.Keyed.{on_both}
use Rattle.world_model.specs.switch_model.declared.request.Asked.{Asked}
use Rattle.world_model.specs.gsmp_wire.declared.failure.Failure.{Failure}
use Rattle.world_model.specs.Requests.{branch_ended, deleted_all}
use Rattle.world_model.specs.Switch.{ActedSwitch, free_slots}
use Rattle.world_model.specs.Conduct.{with_cells, says, answers, steps, message_heard, after_test, ends_frame}
use Rattle.std.specs.Prelude.{zero, if◌then◌else◌}
use Rattle.world_model.specs.crossbar_model.Crossbar.{input_of}
use Rattle.world_model.specs.Conduct.{sends, opened_frame, cell_routed, cell_comes}
use Rattle.law_true_losses.specs.Way.{is_on_way, lost_at_chain, lost_at_branch}
use Rattle.law_true_losses.proofs.Notes.{IsUnbroken, IsElsewhere, Counts, noted_more, cut_kept, cut_frames, taken_told, taken_frames, tested_kept, tested_frames}
use Rattle.law_true_losses.proofs.Sent.{Sends, sends_none, sends_still, sends_noted, sends_put, sends_full}
use Rattle.world_model.proofs.Lists.{by_eq, index_set, index_here, length_set}
use Rattle.world_model.specs.crossbar_model.Crossbar.{relayed}

-- what the queue of a port gets
abbrev pub put_on : PortNo → (i : ℕ) → List Cell → List Cell
put_on port i cells = if port.0 == i then cells else []

put_none : (port : PortNo) (i : ℕ) → put_on port i [] ≡ []
put_none port i = on_both (λ (cells : List Cell). cells ≡ []) (port.0 == i) [] [] refl refl

put_both : (port : PortNo) (i : ℕ) (cells more : List Cell) → put_on port i cells ++ put_on port i more ≡ put_on port i (cells ++ more)
put_both port i cells more = by (port.0 == i)
  where
    by : (b : Bool) → (if b then cells else []) ++ (if b then more else []) ≡ (if b then cells ++ more else [])
    by true = refl
    by false = refl

-- *Frames were sent* to a port, and the queues have grown by those that were put, behind a cell that went through
pub record Grown (q : List (List Cell)) (through : ℕ → List Cell) (port : PortNo) (queues : List (List Cell)) (cells : List Cell) : Type 0 where
  pub rooms : length queues ≡ length q
  pub each : (i : ℕ) → i < length q → slice_index_or queues i [] ≡ slice_index_or q i [] ++ (through i ++ put_on port i cells)

abbrev pub nothing : ℕ → List Cell
nothing i = []

abbrev pub Holds : (q : List (List Cell)) → PortNo → ActedSwitch → (cells : List Cell) → Type 0
Holds q port a cells = Grown q nothing port a.switch.crossbar.queues cells

abbrev pub Sent : (e x : List Entry) → (f : List Frame) → (q : List (List Cell)) → PortNo → ActedSwitch → Type 0
Sent e x f q port a = Sends e x f a.notes (Holds q port a)

as_they_were : (q : List (List Cell)) (port : PortNo) → Grown q nothing port q []
as_they_were q port = record {
  rooms = refl;
  each = λ i low. sym (append-nil (slice_index_or q i [])) ∙ ap (λ (cells : List Cell). slice_index_or q i [] ++ cells) (sym (put_none port i));
}

-- cells are set behind those of a queue
set_each : (queues : List (List Cell)) (port : PortNo) (more : List Cell) (i : ℕ) → i < length queues
    → slice_index_or (slice_set queues port.0 (slice_index_or queues port.0 [] ++ more)) i [] ≡ slice_index_or queues i [] ++ put_on port i more
set_each queues port more i low = by_eq port.0 i
    (λ same t. subst (λ (k : ℕ). slice_index_or (slice_set queues port.0 (slice_index_or queues port.0 [] ++ more)) k [] ≡ slice_index_or queues k [] ++ put_on port k more) same
    (index_here queues port.0 (slice_index_or queues port.0 [] ++ more) [] (subst (λ (k : ℕ). k < length queues) (sym same) low)
    ∙ ap (λ (b : Bool). slice_index_or queues port.0 [] ++ (if b then more else [])) (sym (subst (λ (k : ℕ). (port.0 == k) ≡ true) (sym same) t))))
    (λ away t. index_set queues port.0 i (slice_index_or queues port.0 [] ++ more) [] away
    ∙ sym (append-nil (slice_index_or queues i [])) ∙ ap (λ (b : Bool). slice_index_or queues i [] ++ (if b then more else [])) (sym t))

grown_more : (q queues : List (List Cell)) (port : PortNo) (cells more : List Cell) → Grown q nothing port queues cells
    → Grown q nothing port (slice_set queues port.0 (slice_index_or queues port.0 [] ++ more)) (cells ++ more)
grown_more q queues port cells more h = record {
  rooms = length_set queues port.0 (slice_index_or queues port.0 [] ++ more) ∙ h.rooms;
  each = λ i low. set_each queues port more i (subst (λ (n : ℕ). i < n) (sym h.rooms) low)
      ∙ ap (λ (waiting : List Cell). waiting ++ put_on port i more) (h.each i low)
      ∙ append_assoc (slice_index_or q i []) (put_on port i cells) (put_on port i more)
      ∙ ap (λ (put : List Cell). slice_index_or q i [] ++ put) (put_both port i cells more);
}

-- *Sending*
pub sends_kept : (e x : List Entry) (f : List Frame) (q : List (List Cell)) (port : PortNo) (a : ActedSwitch) (channel : Channel) (mark : Mark) (payload : List ℕ)
    → Sent e x f q port a → Sent e x f q port (sends a port channel mark payload)
sends_kept e x f q port a channel mark payload h = on_both (λ (s : frames.Sender Switch). Sends e x f s.notes (Grown q nothing port s.queues.crossbar.queues)) (nat_le (length cells) (free_slots a.switch))
    (record { queues = with_cells a.switch port cells; notes = made a.notes mark payload })
    (record { queues = a.switch; notes = noted (made a.notes mark payload) (Loss mark PoolFull) })
    (sends_put e x f a.notes (Holds q port a) (Grown q nothing port (with_cells a.switch port cells).crossbar.queues) channel mark payload h
    (λ more. grown_more q a.switch.crossbar.queues port more cells))
    (sends_full e x f a.notes (Holds q port a) (Holds q port a) channel mark payload h (λ more is. is))
  where
    cells : List Cell
    cells = frame_cells channel mark payload

module _ (e x : List Entry) (f : List Frame) (q : List (List Cell)) where
  abbrev P : ActedSwitch → Type 0
  P a = Sent e x f q control_port a

  noted_kept : (a : ActedSwitch) (item : Record) → IsElsewhere item → P a → P (record a { notes = noted a.notes item })
  noted_kept a item other h = sends_noted e x f a.notes item (Holds q control_port a) other h

  says_kept : (a : ActedSwitch) (message : Message) → P a → P (says a message)
  says_kept a message h =
      let given : ActedSwitch = record a { numbers = with_control a.numbers } in
      sends_kept e x f q control_port given gsmp_channel (next_control a.numbers) (octets_of message) h

  -- *Branches end, or are moved*
  mark_kept : (a : ActedSwitch) (notes : Journal) (o : Option Mark) → P (record a { notes = notes }) → P (record a { notes = noted_cut notes o })
  mark_kept a notes None h = h
  mark_kept a notes (Some mark) h = noted_kept (record a { notes = notes }) (Loss mark Cut) (refl, refl) h

  ended_kept : (a : ActedSwitch) (c : Changed) (input : End) (o : Option Branch) → P (record a { notes = c.notes }) → P (record a { notes = (ended_by c input o).notes })
  ended_kept a c input None h = h
  ended_kept a c input (Some b) h = mark_kept a c.notes b.unfinished h

  all_kept : (a : ActedSwitch) (c : Changed) (inputs : List End) → P (record a { notes = c.notes }) → P (record a { notes = (all_ended c inputs).notes })
  all_kept a c [] h = h
  all_kept a c (input ∷ inputs) h = all_kept a (branch_ended c input) inputs (ended_kept a c input (get c.branches input) h)

  moved_kept : (a : ActedSwitch) (c : Changed) (input to : End) (o : Option Branch) → P (record a { notes = c.notes }) → P (record a { notes = (moved_by c input to o).notes })
  moved_kept a c input to None h = h
  moved_kept a c input to (Some b) h = mark_kept a c.notes (cut_by_move b to) h

  after_kept : (a : ActedSwitch) (c : Changed) (request : Request) → P (record a { notes = c.notes }) → P (record a { notes = (branches_after c request).notes })
  after_kept a c (AddBranch input output) h = h
  after_kept a c (MoveBranch input from to) h = moved_kept a c input to (get c.branches input) h
  after_kept a c (DeleteTree input) h = ended_kept a c input (get c.branches input) h
  after_kept a c (VerifyTree input) h = h
  after_kept a c (DeleteAll port) h = all_kept a c (inputs_on c.branches port) h
  after_kept a c (PortManagement port function) h = on_both (λ (x : Changed). P (record a { notes = x.notes })) (function == 2) (deleted_all c port) c (all_kept a c (inputs_on c.branches port) h) h
  after_kept a c AllPorts h = h

  -- *Requests*
  handled_kept : (a : ActedSwitch) (m : Message) (request : Request) (o : Option Failure) → P a → P (replied a (handled_by a.switch a.notes m request o))
  handled_kept a m request (Some failure) h = says_kept a _ h
  handled_kept a m request None h =
      let c : Changed = record { branches = a.switch.crossbar.branches; notes = a.notes } in
      let x : Handled = handled_by a.switch a.notes m request None in
      says_kept (record a { switch = x.switch; notes = x.notes }) x.answer
      (after_kept a c request h)

  asked_kept : (a : ActedSwitch) (m : Message) (o : Option Asked) → P a → P (replied a (handled_asked a.switch a.notes m o))
  asked_kept a m None h = says_kept a m h
  asked_kept a m (Some asked) h = handled_kept a m asked.request (failure_of a.switch.ports a.switch.vpis a.switch.crossbar.branches asked) h

  requested_kept : (a : ActedSwitch) (m : Message) → P a → P (requested a m)
  requested_kept a m h = on_both P (is_request m && is_estab a.switch.adjacency.state) (replied a (handled a.switch a.notes m)) a (asked_kept a m (asked_in m) h) h

  -- *The adjacency*
  answers_kept : (a : ActedSwitch) (answer : Answer (Said Party) Party) → P a → P (answers a (gsmp_answer answer))
  answers_kept a Quiet h = h
  answers_kept a (Send m) h = says_kept a (messages.Adjacency (greeting_of m)) h
  answers_kept a (Open None own) h = h
  answers_kept a (Open (Some m) own) h = says_kept a (messages.Adjacency (greeting_of m)) h
  answers_kept a Reset h = h

  steps_kept : (a : ActedSwitch) (step : Step Party) → P a → P (steps a step)
  steps_kept a step h =
      let turned : ActedSwitch = record a { switch = record a.switch { adjacency = step.side } } in
      answers_kept turned step.answer h

  told_kept : (a : ActedSwitch) (m : Message) → P a → P (message_heard a m)
  told_kept a (messages.Adjacency greeting) h = steps_kept a (gsmp_received a.switch.adjacency greeting) h
  told_kept a (messages.Branch kind result code number session input_port input output_port output branches priority) h =
      requested_kept a (messages.Branch kind result code number session input_port input output_port output branches priority) h
  told_kept a (messages.Move result code number session input_port input output_port output target_port target branches priority) h =
      requested_kept a (messages.Move result code number session input_port input output_port output target_port target branches priority) h
  told_kept a (messages.Port result code number port session function) h = requested_kept a (messages.Port result code number port session function) h
  told_kept a (messages.AllPorts result code number rows) h = requested_kept a (messages.AllPorts result code number rows) h

  -- *Frames and cells*
  read_kept : (a : ActedSwitch) (r : Result Message Fault) → P a → P (frame_read a r)
  read_kept a (Ok m) h = told_kept a m h
  read_kept a (Err fault) h = noted_kept a (Bad a.switch.node Gsmp (gsmp_refusal fault)) (refl, refl) h

  test_kept : (a : ActedSwitch) (test : Tested) → P (record a { notes = test.notes }) → P (after_test a test)
  test_kept a test h = by_payload test.payload
    where
      by_payload : (o : Option (List ℕ)) → P (opened_frame (record a { notes = test.notes }) o)
      by_payload None = h
      by_payload (Some payload) = read_kept (record a { notes = test.notes }) (decoded payload) h

  ends_kept : (a : ActedSwitch) (cells : List Cell) → P a → P (ends_frame a cells)
  ends_kept a [] h = h
  ends_kept a (cell ∷ cells) h =
      let test : Tested = tested a.notes (cell ∷ cells) in
      test_kept a test (sends_still e x f a.notes test.notes (Holds q control_port a) (λ told. tested_kept e told a.notes (cell ∷ cells)) (tested_frames a.notes (cell ∷ cells)) h)

  -- *Ticks and restarts*
  pub tick_kept : (a : ActedSwitch) → P a → P (tick_comes a)
  tick_kept a h = steps_kept a (ticked a.switch.adjacency) h

  pub restarted_kept : (a : ActedSwitch) → P a → P (restarted a)
  restarted_kept a h =
      let c : Changed = record { branches = a.switch.crossbar.branches; notes = a.notes } in
      let ended : Changed = all_ended c (keys a.switch.crossbar.branches) in
      sends_still e x f ended.notes (cut ended.notes a.switch.reassembly) (Holds q control_port a) (λ told. cut_kept e told ended.notes a.switch.reassembly)
      (cut_frames ended.notes a.switch.reassembly) (all_kept a c (keys a.switch.crossbar.branches) h)

-- *A rule begins* with nothing sent
pub begins_with : (e : List Entry) (a : ActedSwitch) (port : PortNo) → Counts e [] a.notes → Sent e [] a.notes.frames a.switch.crossbar.queues port a
begins_with e a port h = sends_none e [] a.notes.frames a.notes (Holds a.switch.crossbar.queues port a) h refl (as_they_were a.switch.crossbar.queues port)

-- *A cell that comes*: one of GSMP, and one whose input has a branch, which goes through where a slot is free
abbrev pub through : Option Branch → (free : ℕ) → Cell → ℕ → List Cell
through None free cell i = []
through (Some branch) zero cell i = []
through (Some branch) (suc free) cell i = put_on branch.output.port i (on_channel_of cell branch.output ∷ [])

abbrev pub through_at : ActedSwitch → PortNo → Cell → ℕ → List Cell
through_at a port cell i = if is_gsmp port cell.header.channel then [] else through (get a.switch.crossbar.branches (input_of port cell)) (free_slots a.switch) cell i

abbrev pub entry_at : ActedSwitch → PortNo → Cell → List Entry
entry_at a port cell =
    if is_gsmp port cell.header.channel then lost_at_chain a.switch.reassembly (free_slots a.switch) cell.mark
    else lost_at_branch (get a.switch.crossbar.branches (input_of port cell)) (free_slots a.switch) cell.mark

module _ (e : List Entry) (a : ActedSwitch) (port : PortNo) (cell : Cell) (h : Counts e [] a.notes) where
  abbrev Came : (x : List Entry) → (went : ℕ → List Cell) → ActedSwitch → Type 0
  Came x went b = Sends e x a.notes.frames b.notes (Grown a.switch.crossbar.queues went control_port b.switch.crossbar.queues)

  abbrev q : List (List Cell)
  q = a.switch.crossbar.queues

  gsmp_told : Came (lost_at_chain a.switch.reassembly (free_slots a.switch) cell.mark) nothing (gsmp_cell a cell)
  gsmp_told =
      let has_slot : Bool = nat_lt 0 (free_slots a.switch) in
      let told : List Entry = lost_at_chain a.switch.reassembly (free_slots a.switch) cell.mark in
      let t : Taken = taken a.notes has_slot a.switch.reassembly cell in
      let b : ActedSwitch = record a { switch = record a.switch { reassembly = t.reassembly }; notes = t.notes } in
      ends_kept e told a.notes.frames q b t.ended
      (sends_none e told a.notes.frames t.notes (Holds q control_port a) (taken_told e a.notes has_slot a.switch.reassembly cell h) (taken_frames a.notes has_slot a.switch.reassembly cell) (as_they_were q control_port))

  noted_told : (cause : Cause) → filter is_on_way (losses_of (Loss cell.mark cause ∷ [])) ≡ record { mark = cell.mark; cause = cause } ∷ [] → IsUnbroken (Loss cell.mark cause)
      → Came (record { mark = cell.mark; cause = cause } ∷ []) nothing (record a { notes = noted a.notes (Loss cell.mark cause) })
  noted_told cause is unbroken = sends_none e (record { mark = cell.mark; cause = cause } ∷ []) a.notes.frames (noted a.notes (Loss cell.mark cause)) (Holds q control_port a)
      (noted_more e [] a.notes (Loss cell.mark cause) (record { mark = cell.mark; cause = cause } ∷ []) is unbroken h) refl (as_they_were q control_port)

  goes_through : (b : Branch) (free : ℕ) → Grown q (through (Some b) (suc free) cell) control_port (relayed a.switch.crossbar (input_of port cell) b cell).queues []
  goes_through b free = record {
    rooms = length_set q b.output.port.0 (slice_index_or q b.output.port.0 [] ++ on_channel_of cell b.output ∷ []);
    each = λ i low. set_each q b.output.port (on_channel_of cell b.output ∷ []) i low
        ∙ ap (λ (cells : List Cell). slice_index_or q i [] ++ cells) (sym (append-nil (put_on b.output.port i (on_channel_of cell b.output ∷ [])))
        ∙ ap (λ (cells : List Cell). put_on b.output.port i (on_channel_of cell b.output ∷ []) ++ cells) (sym (put_none control_port i)));
  }

  branch_told : (o : Option Branch) (free : ℕ) → get a.switch.crossbar.branches (input_of port cell) ≡ o → free_slots a.switch ≡ free
      → Came (lost_at_branch o free cell.mark) (through o free cell) (cell_routed a port cell (route_on o free))
  branch_told None free found is = noted_told Unconnected refl refl
  branch_told (Some b) zero found is = noted_told PoolFull refl refl
  branch_told (Some b) (suc free) found is = sends_none e [] a.notes.frames a.notes (Grown q (through (Some b) (suc free) cell) control_port (switched a.switch.crossbar (free_slots a.switch) port cell).queues)
      h refl (subst (λ (o : Option Branch). Grown q (through (Some b) (suc free) cell) control_port (switched_on a.switch.crossbar (input_of port cell) o (free_slots a.switch) cell).queues []) (sym found)
      (subst (λ (n : ℕ). Grown q (through (Some b) (suc free) cell) control_port (switched_on a.switch.crossbar (input_of port cell) (Some b) n cell).queues []) (sym is) (goes_through b free)))

  channel_told : (b : Bool) → Came (if b then lost_at_chain a.switch.reassembly (free_slots a.switch) cell.mark else lost_at_branch (get a.switch.crossbar.branches (input_of port cell)) (free_slots a.switch) cell.mark)
      (λ i. if b then [] else through (get a.switch.crossbar.branches (input_of port cell)) (free_slots a.switch) cell i)
      (if b then gsmp_cell a cell else switched_cell a port cell)
  channel_told true = gsmp_told
  channel_told false = branch_told (get a.switch.crossbar.branches (input_of port cell)) (free_slots a.switch) refl refl

  pub cell_told : Came (entry_at a port cell) (through_at a port cell) (cell_comes a port cell)
  cell_told = channel_told (is_gsmp port cell.header.channel)
