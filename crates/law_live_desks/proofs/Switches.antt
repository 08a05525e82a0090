-- a switch that hears a request answers it: a success stands in the queue to its controller, or a loss is entered into the ledger

use Rattle.std.proofs.Common.{◌≡◌, ℕ, ◌<◌, Bool, true, false, List, [], ◌∷◌, ◌++◌, zero, length, slice_set, slice_index_or, Option, None, Some, refl, sym, ◌∙◌, ap, subst, arith, if◌then◌else◌}
use Rattle.std.specs.Prelude.{Contains, ◌==◌, ◌&&◌, nat_le}
use Rattle.std.specs.FinMap.{get}
use Rattle.std.specs.Option.{option_and_then}
use Rattle.std.proofs.lemmas.List.Elements.{Contains-append_right}
use Rattle.world_model.specs.Words.{End, Mark, Channel, Cell, Loss, PoolFull, Cut, Journal, noted, frame_cells, made, next_control, with_control, payload_of, Standing, Request, Changed, ended_by, moved_by, moved_to, cut_by_move, all_ended, inputs_on, noted_cut, branches_after, asked_in, is_request, is_estab, head_of, is_branch_of, is_of_type, failure_of, handled, handled_asked, handled_by, replied, requested, Handled, Reassembly, BranchKind, queue_of, control_port, gsmp_channel, default_channel, same_channel, Switch, copy_of, copy_by, gsmp_of}
use Rattle.world_model.specs.gsmp_wire.declared.message.Message.{Message}
use Rattle.world_model.specs.gsmp_wire.declared.message.Message.TheVariants.{Adjacency, Branch, Move, Port, AllPorts}
use Rattle.world_model.specs.gsmp_wire.declared.message.BranchKind.TheVariants as kinds
use Rattle.world_model.specs.gsmp_wire.declared.request.Request.TheVariants as requests
use Rattle.world_model.specs.gsmp_wire.declared.failure.Failure.{Failure}
use Rattle.world_model.specs.gsmp_wire.Layout.{octets_of}
use Rattle.world_model.specs.crossbar_model.declared.branch.Branch.{Branch as BranchOf}
use Rattle.world_model.specs.switch_model.declared.request.Asked.{Asked}
use Rattle.world_model.specs.switch_model.Requests.{branch_ended, branch_request, deleted_all}
use Rattle.world_model.specs.switch_model.Answers.{carried_out}
use Rattle.world_model.specs.frame_model.Sending.{Sender}
use Rattle.world_model.specs.Switch.{ActedSwitch, free_slots}
use Rattle.world_model.specs.Conduct.{with_cells, says, message_heard}
use Rattle.world_model.proofs.Lists.{index_here}
use Rattle.law_port_facts.proofs.Keyed.{on_both}
use Rattle.law_shown_cells.proofs.Made.{made_is}
use Rattle.law_shown_cells.proofs.Frames.{IsCut, frame_is_cut}
use Rattle.law_live_control.specs.Calm.{IsCarriedOut}
use Rattle.law_running_worlds.specs.law_input_steps.Asking.{IsReadable}
use Rattle.law_live_desks.specs.Law.{Answers, IsAnswer}
use Rattle.law_live_desks.proofs.Ledger.{AtLeast, noted_more, one_longer}

-- *The success of a request* answers it
one_copy : (b : Bool) (copy s : Standing) → (if b then Some copy else None) ≡ Some s → copy ≡ s
one_copy true copy s e = cc
one_copy false copy s e = absurd (cc e)

own_kind : (kind : BranchKind) (input output : End) → is_branch_of kind (branch_request kind input output) ≡ true
own_kind kinds.Add input output = refl
own_kind kinds.Delete input output = refl
own_kind kinds.Verify input output = refl
own_kind kinds.DeleteAll input output = refl

module _ (switch : Switch) (notes : Journal) (s : Standing) where
  -- where none of the failures applies
  by_failure : (message : Message) (asked : Asked) → failure_of switch.ports switch.vpis switch.crossbar.branches asked ≡ None
      → Answers s (carried_out switch notes message asked.request).answer → Answers s (handled_by switch notes message asked.request (failure_of switch.ports switch.vpis switch.crossbar.branches asked)).answer
  by_failure message asked none h = subst (λ (o : Option Failure). Answers s (handled_by switch notes message asked.request o).answer) (sym none) h

  of_request : (request : Request) (number : ℕ) (message : Message) → record { number = number; request = request } ≡ s → is_of_type message request ≡ true → is_of_type message s.request ≡ true
  of_request request number message same is = subst (λ (x : Standing). is_of_type message x.request ≡ true) same is

  pub answers_it : (message : Message) → copy_of message ≡ Some s → IsCarriedOut switch message → Answers s (handled switch notes message).answer
  answers_it (Adjacency greeting) e carried = absurd (cc e)
  answers_it (Branch kind result code number session input_port input output_port output count priority) e carried =
      let message : Message = Branch kind result code number session input_port input output_port output count priority in
      let input_end : End = record { port = record { 0 = input_port }; channel = input } in
      let output_end : End = record { port = record { 0 = output_port }; channel = output } in
      let asked : Asked = record { session = session; request = branch_request kind input_end output_end } in
      let same = one_copy (result == 2) (record { number = number; request = asked.request }) s e in
      by_failure message asked (carried asked refl) (record {
        head = record { result = 3; code = 0; number = number };
        of_message = refl;
        succeeds = refl;
        number = ap (λ (x : Standing). x.number) same;
        of_type = of_request asked.request number (carried_out switch notes message asked.request).answer same (own_kind kind input_end output_end);
      })
  answers_it (Move result code number session input_port input output_port output target_port target count priority) e carried =
      let message : Message = Move result code number session input_port input output_port output target_port target count priority in
      let asked : Asked = record { session = session; request = requests.MoveBranch (record { port = record { 0 = input_port }; channel = input }) (record { port = record { 0 = output_port }; channel = output }) (record { port = record { 0 = target_port }; channel = target }) } in
      let same = one_copy (result == 2) (record { number = number; request = asked.request }) s e in
      by_failure message asked (carried asked refl) (record {
        head = record { result = 3; code = 0; number = number };
        of_message = refl;
        succeeds = refl;
        number = ap (λ (x : Standing). x.number) same;
        of_type = of_request asked.request number (carried_out switch notes message asked.request).answer same refl;
      })
  answers_it (Port result code number port session function) e carried =
      let message : Message = Port result code number port session function in
      let asked : Asked = record { session = session; request = requests.PortManagement (record { 0 = port }) function } in
      let same = one_copy (result == 2) (record { number = number; request = asked.request }) s e in
      by_failure message asked (carried asked refl) (record {
        head = record { result = 3; code = 0; number = number };
        of_message = refl;
        succeeds = refl;
        number = ap (λ (x : Standing). x.number) same;
        of_type = of_request asked.request number (carried_out switch notes message asked.request).answer same refl;
      })
  answers_it (AllPorts result code number rows) e carried =
      let message : Message = AllPorts result code number rows in
      let asked : Asked = record { session = 0; request = requests.AllPorts } in
      let same = one_copy (result == 2) (record { number = number; request = asked.request }) s e in
      by_failure message asked (carried asked refl) (record {
        head = record { result = 3; code = 0; number = number };
        of_message = refl;
        succeeds = refl;
        number = ap (λ (x : Standing). x.number) same;
        of_type = of_request asked.request number (carried_out switch notes message asked.request).answer same refl;
      })

-- *The ledger only grows* as it is carried out
module _ (n : ℕ) where
  abbrev More : Changed → Type 0
  More c = AtLeast n c.notes

  cut_more : (notes : Journal) (o : Option Mark) → AtLeast n notes → AtLeast n (noted_cut notes o)
  cut_more notes None h = h
  cut_more notes (Some mark) h = noted_more n notes (Loss mark Cut) h

  ended_more : (c : Changed) (input : End) → More c → More (branch_ended c input)
  ended_more c input h = by (get c.branches input)
    where
      by : (o : Option BranchOf) → More (ended_by c input o)
      by None = h
      by (Some b) = cut_more c.notes b.unfinished h

  all_more : (inputs : List End) (c : Changed) → More c → More (all_ended c inputs)
  all_more [] c h = h
  all_more (input ∷ inputs) c h = all_more inputs (branch_ended c input) (ended_more c input h)

  moved_more : (c : Changed) (input to : End) → More c → More (moved_to c input to)
  moved_more c input to h = by (get c.branches input)
    where
      by : (o : Option BranchOf) → More (moved_by c input to o)
      by None = h
      by (Some b) = cut_more c.notes (cut_by_move b to) h

  changed_more : (c : Changed) (request : Request) → More c → More (branches_after c request)
  changed_more c (requests.AddBranch input output) h = h
  changed_more c (requests.MoveBranch input from to) h = moved_more c input to h
  changed_more c (requests.DeleteTree input) h = ended_more c input h
  changed_more c (requests.DeleteAll port) h = all_more (inputs_on c.branches port) c h
  changed_more c (requests.PortManagement port function) h = on_both More (function == 2) (deleted_all c port) c (all_more (inputs_on c.branches port) c h) h
  changed_more c (requests.VerifyTree input) h = h
  changed_more c requests.AllPorts h = h

  failed_more : (switch : Switch) (notes : Journal) (message : Message) (request : Request) (o : Option Failure) → AtLeast n notes → AtLeast n (handled_by switch notes message request o).notes
  failed_more switch notes message request (Some failure) h = h
  failed_more switch notes message request None h = changed_more (record { branches = switch.crossbar.branches; notes = notes }) request h

  asked_more : (switch : Switch) (notes : Journal) (message : Message) (o : Option Asked) → AtLeast n notes → AtLeast n (handled_asked switch notes message o).notes
  asked_more switch notes message None h = h
  asked_more switch notes message (Some asked) h = failed_more switch notes message asked.request (failure_of switch.ports switch.vpis switch.crossbar.branches asked) h

-- *The queues* are as they were
by_same : (switch : Switch) (notes : Journal) (message : Message) (request : Request) (o : Option Failure) → (handled_by switch notes message request o).switch.crossbar.queues ≡ switch.crossbar.queues
by_same switch notes message request (Some failure) = refl
by_same switch notes message request None = refl

asked_same : (switch : Switch) (notes : Journal) (message : Message) (o : Option Asked) → (handled_asked switch notes message o).switch.crossbar.queues ≡ switch.crossbar.queues
asked_same switch notes message None = refl
asked_same switch notes message (Some asked) = by_same switch notes message asked.request (failure_of switch.ports switch.vpis switch.crossbar.branches asked)

-- *What is answered* doesn't go by the cells that were taken
failed_answer : (switch : Switch) (r : Reassembly) (notes : Journal) (message : Message) (request : Request) (o : Option Failure)
    → (handled_by (record switch { reassembly = r }) notes message request o).answer ≡ (handled_by switch notes message request o).answer
failed_answer switch r notes message request (Some failure) = refl
failed_answer switch r notes message request None = refl

pub same_answer : (switch : Switch) (r : Reassembly) (notes : Journal) (message : Message) → (handled (record switch { reassembly = r }) notes message).answer ≡ (handled switch notes message).answer
same_answer switch r notes message = by (asked_in message)
  where
    by : (o : Option Asked) → (handled_asked (record switch { reassembly = r }) notes message o).answer ≡ (handled_asked switch notes message o).answer
    by None = refl
    by (Some asked) = failed_answer switch r notes message asked.request (failure_of switch.ports switch.vpis switch.crossbar.branches asked)

-- *A success waits* for the controller
pub record IsAnswered (s : Standing) (after : ActedSwitch) : Type 0 where
  pub cell : Cell
  pub among : Contains (queue_of after.switch.crossbar control_port) cell
  pub is : IsAnswer after.notes.frames s cell

module _ (n : ℕ) (s : Standing) where
  -- *It is said*
  abbrev Said : ActedSwitch → Type 0
  Said after = length after.notes.entries ≡ n → IsAnswered s after

  said : (a : ActedSwitch) (answer : Message) → 0 < length a.switch.crossbar.queues → AtLeast n a.notes → Answers s answer → IsReadable answer → Said (says a answer)
  said a answer there more answers read = on_both (λ (x : Sender Switch). Said (record { switch = x.queues; notes = x.notes; numbers = with_control a.numbers })) (nat_le (length cells) (free_slots a.switch))
      (record { queues = with_cells a.switch control_port cells; notes = now })
      (record { queues = a.switch; notes = noted now (Loss mark PoolFull) })
      (λ e. record { cell = cut.final; among = among; is = is })
      (λ e. absurd (omega (arith, e, more, one_longer a.notes.entries (record { mark = mark; cause = PoolFull }))))
    where
      mark : Mark
      mark = next_control a.numbers

      cells : List Cell
      cells = frame_cells gsmp_channel mark (octets_of answer)

      now : Journal
      now = made a.notes mark (octets_of answer)

      cut : IsCut gsmp_channel mark cells
      cut = frame_is_cut gsmp_channel mark (octets_of answer)

      waits : List Cell
      waits = queue_of a.switch.crossbar control_port

      among : Contains (slice_index_or (slice_set a.switch.crossbar.queues 0 (waits ++ cells)) 0 []) cut.final
      among = subst (λ (q : List Cell). Contains q cut.final) (sym (index_here a.switch.crossbar.queues 0 (waits ++ cells) [] there))
          (Contains-append_right waits cells cut.final (subst (λ (cs : List Cell). Contains cs cut.final) (sym cut.whole) (Contains-append_right cut.front (cut.final ∷ []) cut.final (zero, omega arith, refl))))

      is : IsAnswer now.frames s cut.final
      is = record {
        last = cut.last.1;
        on = ap (λ (c : Channel). same_channel c default_channel) cut.last.0;
        message = answer;
        says = ap (λ (m : Mark). option_and_then gsmp_of (payload_of now.frames m)) cut.last.2
            ∙ (ap (option_and_then gsmp_of) (made_is a.notes.frames mark (octets_of answer)) ∙ read);
        answers = answers;
      }

  -- *A request is heard*, in Estab
  module _ (a : ActedSwitch) (up : is_estab a.switch.adjacency.state ≡ true) (there : 0 < length a.switch.crossbar.queues) (more : AtLeast n a.notes) where
    abbrev h : Message → Handled
    h message = handled a.switch a.notes message

    replied_so : (message : Message) → Answers s (h message).answer → IsReadable (h message).answer → Said (replied a (h message))
    replied_so message answers read = said (record a { switch = (h message).switch; notes = (h message).notes }) (h message).answer
        (subst (λ (qs : List (List Cell)). 0 < length qs) (sym (asked_same a.switch a.notes message (asked_in message))) there)
        (asked_more n a.switch a.notes message (asked_in message) more) answers read

    requested_so : (message : Message) → copy_of message ≡ Some s → Answers s (h message).answer → IsReadable (h message).answer → Said (requested a message)
    requested_so message copy answers read = subst (λ (b : Bool). Said (if b then replied a (h message) else a)) (sym (both (is_request message) copy))
        (replied_so message answers read)
      where
        both : (b : Bool) → (if b then copy_by (head_of message) (asked_in message) else None) ≡ Some s → (b && is_estab a.switch.adjacency.state) ≡ true
        both true e = up
        both false e = absurd (cc e)

    pub request_heard : (message : Message) → copy_of message ≡ Some s → IsCarriedOut a.switch message → IsReadable (h message).answer → Said (message_heard a message)
    request_heard (Adjacency greeting) copy carried read = absurd (cc copy)
    request_heard (Branch kind result code number session input_port input output_port output count priority) copy carried read =
        let message : Message = Branch kind result code number session input_port input output_port output count priority in
        requested_so message copy (answers_it a.switch a.notes s message copy carried) read
    request_heard (Move result code number session input_port input output_port output target_port target count priority) copy carried read =
        let message : Message = Move result code number session input_port input output_port output target_port target count priority in
        requested_so message copy (answers_it a.switch a.notes s message copy carried) read
    request_heard (Port result code number port session function) copy carried read =
        let message : Message = Port result code number port session function in
        requested_so message copy (answers_it a.switch a.notes s message copy carried) read
    request_heard (AllPorts result code number rows) copy carried read =
        let message : Message = AllPorts result code number rows in
        requested_so message copy (answers_it a.switch a.notes s message copy carried) read
