-- what a controller makes of a message of its switch, and of the cells that come to it

use Rattle.std.proofs.Common.{◌≡◌, ℕ, Bool, true, false, not, List, [], ◌∷◌, map, filter, find, length, Option, None, Some, Result, Ok, Err, refl, sym, ◌∙◌, ap, subst, arith, if◌then◌else◌}
use Rattle.std.specs.Prelude.{◌==◌, ◌&&◌, nat_le}
use Rattle.std.proofs.lemmas.Bool.Decides.{nat_tests}
use Rattle.law_branch_shapes.specs.world_model.Words.{Party, PortNo, Mark, Answer, Quiet, Send, Open, Said, Side, is_estab, is_open, greeting_of, gsmp_answer, gsmp_received, heard_in, same_party, Cell, IsLinkPort, BranchKind, Request, AddBranch, MoveBranch, DeleteTree, VerifyTree, PortManagement, PortRow, Frame, Gsmp, Bad, Loss, PoolFull, noted, frame_cells, made, next_control, with_control, gsmp_refusal, Standing, Head, head_of, is_branch_of, is_of_type, succeeded, outcome, answered_with, after_answer, Answered, Unknown, Done, Ports, Failed, Setup, Controller, Linked, with_desk, default_channel, says_gsmp, takes_answer, gsmp_holds}
use Rattle.law_branch_shapes.specs.world_model.adjacency_table.declared.message.Answer.TheVariants.{Reset}
use Rattle.law_branch_shapes.specs.world_model.adjacency_table.Side as sides
use Rattle.law_branch_shapes.specs.world_model.gsmp_wire.declared.fault.Fault.{Fault}
use Rattle.law_branch_shapes.specs.world_model.gsmp_wire.declared.message.BranchKind.TheVariants as kinds
use Rattle.law_branch_shapes.specs.world_model.gsmp_wire.declared.message.Message.{Message}
use Rattle.law_branch_shapes.specs.world_model.gsmp_wire.declared.message.Message.TheVariants as messages
use Rattle.law_branch_shapes.specs.world_model.gsmp_wire.declared.request.Request.TheVariants.{DeleteAll, AllPorts}
use Rattle.law_branch_shapes.specs.world_model.frame_model.Sending.{Sender}
use Rattle.law_branch_shapes.specs.world_model.gsmp_wire.Layout.{octets_of as gsmp_octets}
use Rattle.law_frame_readings.specs.ordered_lists.Ordered.{Every}
use Rattle.law_frame_readings.proofs.ordered_lists.Parts.{part_filtered, every_part}
use Rattle.law_frame_readings.specs.law_port_facts.Port.{IsShaped}
use Rattle.law_frame_readings.proofs.law_port_facts.Keyed.{on_both}
use Rattle.law_frame_readings.proofs.law_port_facts.Found.{find_every, find_passes}
use Rattle.law_frame_readings.proofs.law_port_facts.Turns.{IsTurned, received_turns}
use Rattle.law_frame_readings.proofs.law_port_facts.Rules.{and_second}
use Rattle.law_branch_shapes.specs.world_model.Controller.{Acted, free_slots, ports_of}
use Rattle.law_branch_shapes.specs.world_model.Sending.{with_cells}
use Rattle.law_branch_shapes.specs.world_model.Gsmp.{answers, steps, message_comes}
use Rattle.law_frame_readings.specs.law_controller_facts.Sound.{linked_setup}
use Rattle.law_frame_readings.proofs.law_controller_facts.Moves.{answering, moves_to, moves_ports}
use Rattle.law_frame_readings.proofs.law_controller_facts.Laws.{has_ports}
use Rattle.law_input_events.specs.law_controller.Order.{IsMeeting, IsDeleting, IsOther, listing, emptying}
use Rattle.law_input_events.proofs.law_controller.Entering.{both_not}
use Rattle.law_input_events.proofs.law_controller.Whole.{Whole}
use Rattle.law_input_events.proofs.law_input_steps.Resets.{note_still}
use Rattle.law_input_events.specs.law_input_premises.Read.{AreRead}
use Rattle.law_input_events.proofs.law_input_premises.Reading.{are_read}
use Rattle.law_input_events.specs.Coming.{IsFromSwitch}
use Rattle.law_running_worlds.specs.Mode.{AreUp}
use Rattle.law_running_worlds.specs.Calls.{IsFineStill, in_mode}
use Rattle.law_running_worlds.proofs.Greetings.{greeting_asks}
use Rattle.law_running_worlds.specs.Mode.{Mode, Told, Untold, IsMild, IsMildStanding}
use Rattle.law_running_worlds.proofs.Asking.{still_fine, node_fine, says_fine}
use Rattle.law_running_worlds.proofs.Joining.{Well, meets_well, empties_well, done_well}

-- *What an answer is to*: what stood, of its type; and where all ports are told, the message tells them
other_branch : (kind : BranchKind) (r : Request) → is_branch_of kind r ≡ true → IsOther r
other_branch kind (AddBranch input output) e = tt
other_branch kind (MoveBranch input from to) e = tt
other_branch kind (DeleteTree input) e = tt
other_branch kind (VerifyTree input) e = tt
other_branch kind (DeleteAll port) e = tt
other_branch kind (PortManagement port function) e = tt
other_branch kinds.Add AllPorts e = absurd (cc e)
other_branch kinds.Delete AllPorts e = absurd (cc e)
other_branch kinds.Verify AllPorts e = absurd (cc e)
other_branch kinds.DeleteAll AllPorts e = absurd (cc e)

three_is : (n : ℕ) → (n == 3) ≡ true → n ≡ 3
three_is n e = grind (arith, nat_tests)

module _ (standing : List Standing) where
  -- what is so of all that stands is so of it
  abbrev pub Stood : Standing → Type 1
  Stood s = (Q : Standing → Type 0) → Every Q standing → Q s

  stood_by : (test : Standing → Bool) (s : Standing) → find test standing ≡ Some s → Stood s
  stood_by test s found Q all = find_every Q test standing s all found

  pub data IsAnswer (m : Message) : Answered → Type 1 where
    nothing : IsAnswer m Unknown
    of_other : (s : Standing) → Stood s → IsOther s.request → IsAnswer m (Done s)
    of_ports : (s : Standing) (rows : List PortRow) (code number : ℕ) → m ≡ messages.AllPorts 3 code number rows → IsAnswer m (Ports s rows)
    of_failure : (s : Standing) (code : ℕ) → IsAnswer m (Failed s code)

  failing : (m : Message) (s : Standing) (code : ℕ) (t : Bool) → IsAnswer m (if t then Failed s code else Unknown)
  failing m s code true = of_failure s code
  failing m s code false = nothing

  module _ (m : Message) (head : Head) (done : (s : Standing) → succeeded m s ≡ Done s) (other : (r : Request) → is_of_type m r ≡ true → IsOther r) where
    abbrev test : Standing → Bool
    test s = s.number == head.number && is_of_type m s.request

    done_answer : (o : Option Standing) → find test standing ≡ o → IsAnswer m (outcome m head o)
    done_answer None found = nothing
    done_answer (Some s) found = by (head.result == 3)
      where
        by : (t : Bool) → IsAnswer m (if t then succeeded m s else (if head.result == 4 then Failed s head.code else Unknown))
        by true = subst (IsAnswer m) (sym (done s)) (of_other s (stood_by test s found) (other s.request (and_second (s.number == head.number) (is_of_type m s.request) (find_passes test standing s found))))
        by false = failing m s head.code (head.result == 4)

  ports_answer : (result code number : ℕ) (rows : List PortRow) (o : Option Standing) → IsAnswer (messages.AllPorts result code number rows) (outcome (messages.AllPorts result code number rows) (record { result = result; code = code; number = number }) o)
  ports_answer result code number rows None = nothing
  ports_answer result code number rows (Some s) = by (result == 3) refl
    where
      m : Message
      m = messages.AllPorts result code number rows

      by : (t : Bool) → (result == 3) ≡ t → IsAnswer m (if t then Ports s rows else (if result == 4 then Failed s code else Unknown))
      by true e = of_ports s rows code number (ap (λ (n : ℕ). messages.AllPorts n code number rows) (three_is result e))
      by false e = failing m s code (result == 4)

  pub answer_is : (m : Message) → IsAnswer m (answered_with standing m (head_of m))
  answer_is (messages.Adjacency greeting) = nothing
  answer_is (messages.Branch kind result code number session input_port input output_port output branches priority) =
      done_answer (messages.Branch kind result code number session input_port input output_port output branches priority) (record { result = result; code = code; number = number }) (λ s. refl) (other_branch kind) _ refl
  answer_is (messages.Move result code number session input_port input output_port output target_port target branches priority) =
      done_answer (messages.Move result code number session input_port input output_port output target_port target branches priority) (record { result = result; code = code; number = number }) (λ s. refl) other _ refl
    where
      other : (r : Request) → is_of_type (messages.Move result code number session input_port input output_port output target_port target branches priority) r ≡ true → IsOther r
      other (AddBranch i o) e = tt
      other (MoveBranch i from to) e = tt
      other (DeleteTree i) e = tt
      other (VerifyTree i) e = tt
      other (DeleteAll port) e = tt
      other (PortManagement port f) e = tt
      other AllPorts e = absurd (cc e)
  answer_is (messages.Port result code number port session function) =
      done_answer (messages.Port result code number port session function) (record { result = result; code = code; number = number }) (λ s. refl) other _ refl
    where
      other : (r : Request) → is_of_type (messages.Port result code number port session function) r ≡ true → IsOther r
      other (AddBranch i o) e = tt
      other (MoveBranch i from to) e = tt
      other (DeleteTree i) e = tt
      other (VerifyTree i) e = tt
      other (DeleteAll p) e = tt
      other (PortManagement p f) e = tt
      other AllPorts e = absurd (cc e)
  answer_is (messages.AllPorts result code number rows) = ports_answer result code number rows _

-- while no Delete All stands, none but All Ports does
no_other : (standing : List Standing) (s : Standing) → Stood standing s → IsOther s.request → Every IsMildStanding standing → IsMeeting standing → ⊥
no_other _ s stood other mild (listing x is) = same s.request (stood (λ (z : Standing). z.request ≡ AllPorts) (is, tt)) other
  where
    same : (r : Request) → r ≡ AllPorts → IsOther r → ⊥
    same r e o = subst IsOther e o
no_other standing s stood other mild (emptying _ all) = both s.request (stood (λ (z : Standing). IsDeleting z.request) all) (stood IsMildStanding mild)
  where
    both : (r : Request) → IsDeleting r → IsMild r → ⊥
    both (AddBranch i o) d n = d
    both (MoveBranch i from to) d n = d
    both (DeleteTree i) d n = d
    both (VerifyTree i) d n = d
    both (DeleteAll port) d n = n
    both (PortManagement port f) d n = d
    both AllPorts d n = d

-- the ports of a controller are those of its setups
mapped : (ports : List Linked) → map (λ (linked : Linked). linked.setup.port) ports ≡ map (λ (setup : Setup). setup.port) (map linked_setup ports)
mapped [] = refl
mapped (x ∷ ports) = ap (λ (l : List PortNo). x.setup.port ∷ l) (mapped ports)

pub ports_are : (setups : List Setup) (a : Acted) → Whole setups a → ports_of a.controller ≡ map (λ (setup : Setup). setup.port) setups
ports_are setups a whole = mapped a.controller.ports ∙ ap (map (λ (setup : Setup). setup.port)) whole.sound.ports.same

module _ (setups : List Setup) (links : Every (λ (setup : Setup). IsLinkPort setup.port) setups) (Old : Cell → Type 0) (Gathered : Cell → Type 0) (began : List Frame) (marks : ℕ) where
  abbrev In : Mode → Acted → Type 0
  In = Well setups links Old Gathered began marks

  -- in either mode
  abbrev pub Goes : Acted → Type 0
  Goes = IsFineStill setups Old Gathered began marks

  none_read : AreRead setups []
  none_read = are_read setups links [] tt

  -- *The adjacency with the switch*
  turned : (m : Mode) (a : Acted) (side : Side Party) → In m a → In m (record a { controller = record a.controller { adjacency = side } })
  turned Told a side h = record { queue = h.queue; gathered = h.gathered; reads = h.reads; room = h.room; knows = h.knows }
  turned Untold a side h = record { queue = h.queue; gathered = h.gathered; reads = h.reads; room = h.room; knows = h.knows }

  greets : (m : Mode) (a : Acted) (message : Said Party) → In m a → In m (says_gsmp a (messages.Adjacency (greeting_of message)))
  greets m a message h = says_fine setups links Old Gathered began marks m a (messages.Adjacency (greeting_of message)) (greeting_asks setups (greeting_of message)) h

  says_met : (a : Acted) (message : Said Party) → a.controller.has_met ≡ false → (says_gsmp a (messages.Adjacency (greeting_of message))).controller.has_met ≡ false
  says_met a message unmet =
      let b : Acted = record a { numbers = with_control a.numbers } in
      let payload : List ℕ = gsmp_octets (messages.Adjacency (greeting_of message)) in
      let mark : Mark = next_control a.numbers in
      on_both (λ (s : Sender Controller). s.queues.has_met ≡ false) (nat_le (length (frame_cells default_channel mark payload)) (free_slots b.controller))
      (record { queues = with_cells b.controller (frame_cells default_channel mark payload); notes = made b.notes mark payload })
      (record { queues = b.controller; notes = noted (made b.notes mark payload) (Loss mark PoolFull) }) unmet unmet

  answers_go : (m : Mode) (a : Acted) (answer : Answer (Said Party) Party) → (is_open answer ≡ true → a.controller.has_met ≡ false) → In m a → Goes (answers a (gsmp_answer answer))
  answers_go m a Quiet unmet h = in_mode m h
  answers_go m a (Send message) unmet h = in_mode m (greets m a message h)
  answers_go m a (Open None own) unmet h = in_mode Untold (meets_well setups links Old Gathered began marks m a none_read (unmet refl) h)
  answers_go m a (Open (Some message) own) unmet h = in_mode Untold (meets_well setups links Old Gathered began marks m (says_gsmp a (messages.Adjacency (greeting_of message))) none_read (says_met a message (unmet refl)) (greets m a message h))
  answers_go m a Reset unmet h = in_mode m (node_fine setups links Old Gathered began marks m a h)

  pub steps_go : (m : Mode) (a : Acted) (step : sides.Step Party) → IsTurned a.controller.adjacency step → Whole setups a → In m a → Goes (steps a step)
  steps_go m a step turn whole h = answers_go m (record a { controller = record a.controller { adjacency = step.side } }) step.answer (λ o. unmet o a.controller.has_met refl) (turned m a step.side h)
    where
      unmet : is_open step.answer ≡ true → (b : Bool) → a.controller.has_met ≡ b → a.controller.has_met ≡ false
      unmet o true e = absurd (both_not (is_estab a.controller.adjacency.state) (whole.sound.desk.met e) (turn.before_entry o))
      unmet o false e = e

  -- *Answers*
  fewer : (m : Mode) (a : Acted) (test : Standing → Bool) → In m a → In m (with_desk a (record a.controller.desk { standing = filter test a.controller.desk.standing }))
  fewer Told a test h = record { queue = h.queue; gathered = h.gathered; reads = h.reads; room = h.room; knows = h.knows }
  fewer Untold a test h = record { queue = h.queue; gathered = h.gathered; reads = h.reads; room = h.room; knows = (h.knows.0, every_part IsMildStanding (part_filtered test a.controller.desk.standing) h.knows.1) }

  abbrev rest_of : Standing → Standing → Bool
  rest_of s other = not (other.number == s.number)

  told_ports : (m : Mode) (a : Acted) (s : Standing) (rows : List PortRow) → Whole setups a → AreRead setups rows → AreUp rows (ports_of a.controller) → In m a → In Told (with_desk a (after_answer a.controller.desk (Ports s rows)))
  told_ports m a s rows whole reads up h = record { queue = h.queue; gathered = h.gathered; reads = reads; room = h.room; knows = subst (AreUp rows) (ports_are setups a whole) up }

  done_go : (m : Mode) (a : Acted) (s : Standing) → Stood a.controller.desk.standing s → IsOther s.request → Whole setups a → In m a → Goes (takes_answer a (Done s))
  done_go Told a s stood other whole h =
      let now : Acted = with_desk a (after_answer a.controller.desk (Done s)) in
      in_mode Told (done_well setups links Old Gathered began marks now s.request (moves_ports setups (moves_to (answering a (Done s))) (has_ports setups a whole.sound)) (stood (λ (x : Standing). IsShaped setups x.request) whole.sound.requests)
      (fewer Told a (rest_of s) h))
  done_go Untold a s stood other whole h = absurd (no_other a.controller.desk.standing s stood other h.knows.1 (whole.order.meeting h.knows.0))

  takes_go : (m : Mode) (a : Acted) (message : Message) (answer : Answered) → IsAnswer a.controller.desk.standing message answer → IsFromSwitch a.controller message → Whole setups a → In m a → Goes (takes_answer a answer)
  takes_go m a message _ nothing from whole h = in_mode m h
  takes_go m a message _ (of_other s stood other) from whole h = done_go m a s stood other whole h
  takes_go m a message _ (of_ports s rows code number is) from whole h =
      let up = subst (IsFromSwitch a.controller) is from refl in
      let now : Acted = with_desk a (after_answer a.controller.desk (Ports s rows)) in
      in_mode Told (empties_well setups links Old Gathered began marks now (moves_ports setups (moves_to (answering a (Ports s rows))) (has_ports setups a whole.sound))
      (told_ports m a s rows whole (are_read setups links rows up.0) up.1 h))
  takes_go m a message _ (of_failure s code) from whole h = in_mode m (node_fine setups links Old Gathered began marks m (with_desk a (after_answer a.controller.desk (Failed s code))) (fewer m a (rest_of s) h))

  told_go : (m : Mode) (a : Acted) (message : Message) → IsFromSwitch a.controller message → Whole setups a → In m a → Goes (message_comes a message)
  told_go m a (messages.Adjacency greeting) from whole h = steps_go m a (gsmp_received a.controller.adjacency greeting) (received_turns a.controller.adjacency (heard_in greeting) same_party whole.sound.side) whole h
  told_go m a (messages.Branch kind result code number session input_port input output_port output branches priority) from whole h =
      takes_go m a (messages.Branch kind result code number session input_port input output_port output branches priority) _ (answer_is a.controller.desk.standing (messages.Branch kind result code number session input_port input output_port output branches priority)) from whole h
  told_go m a (messages.Move result code number session input_port input output_port output target_port target branches priority) from whole h =
      takes_go m a (messages.Move result code number session input_port input output_port output target_port target branches priority) _ (answer_is a.controller.desk.standing (messages.Move result code number session input_port input output_port output target_port target branches priority)) from whole h
  told_go m a (messages.Port result code number port session function) from whole h =
      takes_go m a (messages.Port result code number port session function) _ (answer_is a.controller.desk.standing (messages.Port result code number port session function)) from whole h
  told_go m a (messages.AllPorts result code number rows) from whole h =
      takes_go m a (messages.AllPorts result code number rows) _ (answer_is a.controller.desk.standing (messages.AllPorts result code number rows)) from whole h

  pub holds_go : (m : Mode) (a : Acted) (r : Result Message Fault) → ((message : Message) → r ≡ Ok message → IsFromSwitch a.controller message) → Whole setups a → In m a → Goes (gsmp_holds a r)
  holds_go m a (Ok message) from whole h = told_go m a message (from message refl) whole h
  holds_go m a (Err fault) from whole h = in_mode m (still_fine setups links Old Gathered began marks m a (gsmp_holds a (Err fault)) (note_still a (Bad a.controller.node Gsmp (gsmp_refusal fault))) h)
