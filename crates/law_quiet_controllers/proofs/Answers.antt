-- what comes on the GSMP channel leaves a controller quiet

use Rattle.std.proofs.Common.{◌≡◌, ℕ, true, List, [], ◌∷◌, Option, None, Some, Result, Ok, Err, refl, sym, ◌∙◌, ap, arith, fold, map, inl, inr, if◌then◌else◌}
use Rattle.std.specs.Prelude.{◌==◌, ◌&&◌, not, flat_map, find, drop, slice_index}
use Rattle.std.specs.Option.{option_and_then}
use Rattle.law_controller_facts.specs.world_model.Words.{End, PortNo, Greeting, Party, Cell, Answer, Quiet, Send, Open, Step, is_estab, gsmp_answer, gsmp_received, Request, AddBranch, MoveBranch, DeleteTree, VerifyTree, PortManagement, PortRow, refusal, type_of, Frame, Bad, gsmp_refusal, Standing, empty_desk, Head, head_of, is_of_type, Answered, Unknown, Ports, Failed, succeeded, outcome, answered_with, after_answer, without_request, Setup, Linked, linked_at, with_linked, with_desk, default_end, default_home, says_gsmp, asks, releases, meets, up_ports, empties, default_branches, ends_meeting, has_emptied, port_of_input, tells_port, behind_delete_all, causes_in_estab, causes, may_clear, clears_of, clears_port, clears, takes_answer, answer_comes, gsmp_holds, copy_of}
use Rattle.law_controller_facts.specs.world_model.adjacency_table.declared.message.Answer.TheVariants.{Reset}
use Rattle.law_controller_facts.specs.world_model.gsmp_wire.declared.fault.Fault.{Fault}
use Rattle.law_controller_facts.specs.world_model.gsmp_wire.declared.message.Message.{Message}
use Rattle.law_controller_facts.specs.world_model.gsmp_wire.declared.message.Message.TheVariants as messages
use Rattle.law_controller_facts.specs.world_model.gsmp_wire.declared.request.Request.TheVariants.{DeleteAll, AllPorts}
use Rattle.law_controller_facts.specs.world_model.gsmp_wire.Fields.{decoded, decoded_by}
use Rattle.law_controller_facts.specs.world_model.gsmp_wire.Layout.{octets_of as gsmp_octets}
use Rattle.law_controller_facts.specs.world_model.link_model.declared.record.Layer.TheVariants as layers
use Rattle.law_controller_facts.specs.ordered_lists.Ordered.{Every}
use Rattle.law_controller_facts.specs.world_model.port_model.Messages.{is_up}
use Rattle.law_controller_facts.specs.world_model.port_model.Answers as port_answers
use Rattle.law_controller_facts.specs.world_model.port_model.Resets.{cleared}
use Rattle.law_controller_facts.specs.law_port_facts.Port.{IsShaped, IsLinked, IsDefaultEnd, MovesNone, asks_ports, empties_control, empties_port, opens_input, opens_output}
use Rattle.law_controller_facts.proofs.law_port_facts.Keyed.{on_both, on_each}
use Rattle.law_controller_facts.proofs.law_port_facts.Found.{find_every}
use Rattle.law_controller_facts.proofs.law_port_facts.Rules.{done_goes}
use Rattle.law_controller_facts.specs.world_model.Controller.{Acted, ports_of, note}
use Rattle.law_controller_facts.specs.world_model.Meeting.{takes_success}
use Rattle.law_controller_facts.specs.world_model.Gsmp.{answers, steps, message_comes}
use Rattle.law_controller_facts.proofs.Moves.{HasPorts, by_rule, moves_ports}
use Rattle.law_controller_facts.proofs.Performing.{ports_linked}
use Rattle.law_controller_facts.proofs.Joining.{every_filter}
use Rattle.law_controller_facts.proofs.Events.{clears_goes}
use Rattle.law_controller_facts.specs.world_model.Ways.{ok_of as heard}
use Rattle.law_quiet_controllers.specs.Quiet.{asked_by, AreRead, IsFine}
use Rattle.law_quiet_controllers.specs.Heard.{RowsAreRead}
use Rattle.law_quiet_controllers.proofs.Sending.{Holds, On, ports_of_quiet, same_on, control_on, stays_home}
use Rattle.law_quiet_controllers.proofs.Asking.{IsSilent, silent_self, silent_fold, silent_still, quiet_fold, node_resets_on, asks_on, at_port_on}
use Rattle.law_quiet_controllers.proofs.Joining.{changes_on, releases_on}

-- *A greeting* asks nothing
greeting_asks : (greeting : Greeting) → asked_by (gsmp_octets (messages.Adjacency greeting)) ≡ None
unfolding decoded
greeting_asks greeting = by (refusal (gsmp_octets (messages.Adjacency greeting)))
  where
    by : (o : Option Fault) → option_and_then copy_of (heard (decoded_by o (type_of (slice_index (gsmp_octets (messages.Adjacency greeting)) 9)) (drop 8 (gsmp_octets (messages.Adjacency greeting))))) ≡ None
    by None = refl
    by (Some fault) = refl

clears_silent : (a : Acted) → IsSilent a (clears a)
clears_silent a = silent_fold clears_port (λ b port. by b (linked_at b.controller port)) (ports_of a.controller) a
  where
    by : (b : Acted) (o : Option Linked) → IsSilent b (clears_of b o)
    by b None = silent_self b
    by b (Some linked) = on_both (IsSilent b) (may_clear b.controller linked) (with_linked b (record linked { port = cleared linked.port })) b
        (record { desk = refl; queue = refl; frames = refl; controls = refl }) (silent_self b)

module _ (setups : List Setup) (Allowed : End → End → Type 0) (controls : ℕ) (frames : List Frame) (queue : List Cell) (blank : AreRead setups []) where
  abbrev Still : Acted → Type 0
  Still a = Holds setups Allowed controls frames queue a

  abbrev Goes : Acted → Acted → Type 0
  Goes a b = On setups Allowed controls frames queue a b

  ports_in : (a : Acted) → Still a → HasPorts setups a
  ports_in = ports_of_quiet setups Allowed controls frames queue

  asks_home : (a : Acted) (request : Request) → IsShaped setups request → MovesNone request → Goes a (asks a request)
  asks_home a request shaped none h = asks_on setups Allowed controls frames queue a request shaped (stays_home setups Allowed controls frames queue request shaped none) h

  abbrev IsHome : Request → Type 0
  IsHome request = IsShaped setups request × MovesNone request

  asks_each : (requests : List Request) → Every IsHome requests → (a : Acted) → Goes a (fold asks a requests)
  asks_each requests all a h = quiet_fold setups Allowed controls frames queue IsHome asks (λ b request fits. asks_home b request fits.0 fits.1) requests all a h

  -- *Meeting the switch*
  meets_on : (a : Acted) → Goes a (meets a)
  meets_on a h = asks_home (with_desk a empty_desk) AllPorts asks_ports tt
      (record { ports = h.ports; shaped = tt; reads = blank; room = omega arith; fine = tt; given = h.given; copies = h.copies; waits = h.waits })

  ups : (a : Acted) → Still a → Every (IsLinked setups) (up_ports a.controller)
  ups a h = every_filter (IsLinked setups) (is_up a.controller.desk.rows) (ports_of a.controller) (ports_linked setups a (ports_in a h))

  empties_on : (a : Acted) → Goes a (empties a)
  empties_on a h = asks_each (map DeleteAll (record { 0 = 0 } ∷ up_ports a.controller)) ((empties_control (record { 0 = 0 }) refl, tt), shapes (up_ports a.controller) (ups a h)) a h
    where
      shapes : (ports : List PortNo) → Every (IsLinked setups) ports → Every IsHome (map DeleteAll ports)
      shapes [] e = tt
      shapes (port ∷ ports) e = ((empties_port port e.0, tt), shapes ports e.1)

  default_of : (port : PortNo) → IsLinked setups port → IsDefaultEnd setups (default_end port)
  default_of port linked = record { port = inr linked; vpi = refl; vci = refl }

  ends_meeting_on : (a : Acted) → Goes a (ends_meeting a)
  ends_meeting_on a h = asks_each (flat_map default_branches (up_ports a.controller)) (shapes (up_ports a.controller) (ups a h)) (record a { controller = record a.controller { has_met = true } })
      (record { ports = h.ports; shaped = h.shaped; reads = h.reads; room = h.room; fine = h.fine; given = h.given; copies = h.copies; waits = h.waits })
    where
      shapes : (ports : List PortNo) → Every (IsLinked setups) ports → Every IsHome (flat_map default_branches ports)
      shapes [] e = tt
      shapes (port ∷ ports) e = ((opens_input (default_end port) (default_of port e.0), tt), ((opens_output (default_end port) (default_of port e.0), tt), shapes ports e.1))

  -- *What an answer causes*
  tells_on : (a : Acted) (request : Request) (port : PortNo) → Goes a (tells_port a request (Some port))
  tells_on a request port h = at_port_on setups Allowed controls frames queue a port (λ setup desk w. port_answers.done setup w request)
      (λ k linked found. by_rule _ (done_goes linked.setup a.controller.desk _ request (λ t. tt))) h

  emptied_port : (port : PortNo) → IsShaped setups (DeleteAll port) → IsDefaultEnd setups (default_end port)
  emptied_port port (empties_control other none) = record { port = inl none; vpi = refl; vci = refl }
  emptied_port port (empties_port other linked) = record { port = inr linked; vpi = refl; vci = refl }

  behind_on : (a : Acted) (port : PortNo) → IsShaped setups (DeleteAll port) → Goes a (behind_delete_all a port)
  behind_on a port shaped h = on_both Still a.controller.has_met (asks a (AddBranch (default_end port) (default_home port))) (if has_emptied a.controller then ends_meeting a else a)
      (asks_home a (AddBranch (default_end port) (default_home port)) (opens_input (default_end port) (emptied_port port shaped)) tt h)
      (on_both Still (has_emptied a.controller) (ends_meeting a) a (ends_meeting_on a h) h)

  causes_in_on : (a : Acted) (request : Request) → IsShaped setups request → Goes a (causes_in_estab a request)
  causes_in_on a (AddBranch input output) shaped h = tells_on a (AddBranch input output) (port_of_input input output) h
  causes_in_on a (MoveBranch input from to) shaped h = tells_on a (MoveBranch input from to) (port_of_input input to) h
  causes_in_on a (DeleteTree input) shaped h = tells_on a (DeleteTree input) input.port h
  causes_in_on a (VerifyTree input) shaped h = tells_on a (VerifyTree input) input.port h
  causes_in_on a (DeleteAll port) shaped h = behind_on a port shaped h
  causes_in_on a (PortManagement port function) shaped h = tells_on a (PortManagement port function) port h
  causes_in_on a AllPorts shaped h = h

  clears_on : (a : Acted) → Goes a (clears a)
  clears_on a h = silent_still setups Allowed controls frames queue a (clears a) (clears_silent a) (moves_ports setups (clears_goes setups a (ports_in a h)) (ports_in a h)) h

  done_on : (a : Acted) (request : Request) → IsShaped setups request → Goes a (takes_success a request)
  done_on a request shaped h =
      let released : Acted = releases a request in
      let caused : Acted = causes released request in
      let k : Still released = releases_on setups Allowed controls frames queue a request h in
      changes_on setups Allowed controls frames queue (clears caused) (clears_on caused
      (on_both Still (is_estab released.controller.adjacency.state) (causes_in_estab released request) released (causes_in_on released request shaped k) k))

  -- *An answer*
  left_on : (a : Acted) (s : Standing) → Goes a (with_desk a (without_request a.controller.desk s))
  left_on a s h = record {
    ports = h.ports;
    shaped = every_filter (λ (other : Standing). IsShaped setups other.request) (λ (other : Standing). not (other.number == s.number)) a.controller.desk.standing h.shaped;
    reads = h.reads;
    room = h.room;
    fine = every_filter (IsFine Allowed a.controller.desk.next) (λ (other : Standing). not (other.number == s.number)) a.controller.desk.standing h.fine;
    given = h.given;
    copies = h.copies;
    waits = h.waits;
  }

  listed_on : (a : Acted) (s : Standing) (rows : List PortRow) → AreRead setups rows → Goes a (takes_answer a (Ports s rows))
  listed_on a s rows reads h =
      let k : Still (with_desk a (without_request a.controller.desk s)) = left_on a s h in
      empties_on (with_desk a (after_answer a.controller.desk (Ports s rows)))
      (record { ports = k.ports; shaped = k.shaped; reads = reads; room = k.room; fine = k.fine; given = k.given; copies = k.copies; waits = k.waits })

  succeeds_on : (a : Acted) (message : Message) (s : Standing) (head : Head) → head_of message ≡ Some head → (head.result == 3) ≡ true → RowsAreRead setups message → IsShaped setups s.request → Goes a (takes_answer a (succeeded message s))
  succeeds_on a (messages.Adjacency greeting) s head e three reads shaped h = done_on (with_desk a (without_request a.controller.desk s)) s.request shaped (left_on a s h)
  succeeds_on a (messages.Branch kind result code number session input_port input output_port output branches priority) s head e three reads shaped h = done_on (with_desk a (without_request a.controller.desk s)) s.request shaped (left_on a s h)
  succeeds_on a (messages.Move result code number session input_port input output_port output target_port target branches priority) s head e three reads shaped h = done_on (with_desk a (without_request a.controller.desk s)) s.request shaped (left_on a s h)
  succeeds_on a (messages.Port result code number port session function) s head e three reads shaped h = done_on (with_desk a (without_request a.controller.desk s)) s.request shaped (left_on a s h)
  succeeds_on a (messages.AllPorts result code number rows) s head e three reads shaped h =
      let both : ◌≡◌ {A = Head} (record { result = result; code = code; number = number }) head = cc e in
      listed_on a s rows (reads (ap (λ (x : Head). x.result == 3) both ∙ three)) h

  found_on : (a : Acted) (message : Message) (head : Head) → head_of message ≡ Some head → RowsAreRead setups message → (o : Option Standing) → ((s : Standing) → o ≡ Some s → IsShaped setups s.request) → Goes a (takes_answer a (outcome message head o))
  found_on a message head e reads None shaped h = h
  found_on a message head e reads (Some s) shaped h = on_each (λ (answer : Answered). Still (takes_answer a answer)) (head.result == 3) (succeeded message s) (if head.result == 4 then Failed s head.code else Unknown)
      (λ three. succeeds_on a message s head e three reads (shaped s refl) h)
      (λ other. on_both (λ (answer : Answered). Still (takes_answer a answer)) (head.result == 4) (Failed s head.code) Unknown
      (node_resets_on setups Allowed controls frames queue (with_desk a (without_request a.controller.desk s)) (left_on a s h)) h)

  answer_on : (a : Acted) (message : Message) → RowsAreRead setups message → Goes a (answer_comes a message)
  answer_on a message reads h = by (head_of message) refl
    where
      by : (o : Option Head) → head_of message ≡ o → Still (takes_answer a (answered_with a.controller.desk.standing message o))
      by None e = h
      by (Some head) e = found_on a message head e reads (find (λ (s : Standing). s.number == head.number && is_of_type message s.request) a.controller.desk.standing)
          (λ s k. find_every (λ (x : Standing). IsShaped setups x.request) (λ (x : Standing). x.number == head.number && is_of_type message x.request) a.controller.desk.standing s h.shaped k) h

  -- *The adjacency with the switch*
  greets_on : (a : Acted) (greeting : Greeting) → Goes a (says_gsmp a (messages.Adjacency greeting))
  greets_on a greeting h = control_on setups Allowed controls frames queue a _ (gsmp_octets (messages.Adjacency greeting)) (λ s e. absurd (cc (sym (greeting_asks greeting) ∙ e))) h

  answers_on : (a : Acted) (answer : Answer Greeting Party) → Goes a (answers a answer)
  answers_on a Quiet h = h
  answers_on a (Send greeting) h = greets_on a greeting h
  answers_on a (Open None own) h = meets_on a h
  answers_on a (Open (Some greeting) own) h = meets_on (says_gsmp a (messages.Adjacency greeting)) (greets_on a greeting h)
  answers_on a Reset h = node_resets_on setups Allowed controls frames queue a h

  pub steps_on : (a : Acted) (step : Step Party) → Goes a (steps a step)
  steps_on a step h = (let b : Acted = record a { controller = record a.controller { adjacency = step.side } } in
      answers_on b (gsmp_answer step.answer) (same_on setups Allowed controls frames queue a b refl refl refl refl (record { ports = h.ports; shaped = h.shaped }) h))

  told_on : (a : Acted) (message : Message) → RowsAreRead setups message → Goes a (message_comes a message)
  told_on a (messages.Adjacency greeting) reads h = steps_on a (gsmp_received a.controller.adjacency greeting) h
  told_on a (messages.Branch kind result code number session input_port input output_port output branches priority) reads h =
      answer_on a (messages.Branch kind result code number session input_port input output_port output branches priority) reads h
  told_on a (messages.Move result code number session input_port input output_port output target_port target branches priority) reads h =
      answer_on a (messages.Move result code number session input_port input output_port output target_port target branches priority) reads h
  told_on a (messages.Port result code number port session function) reads h = answer_on a (messages.Port result code number port session function) reads h
  told_on a (messages.AllPorts result code number rows) reads h = answer_on a (messages.AllPorts result code number rows) reads h

  pub gsmp_holds_on : (a : Acted) (r : Result Message Fault) → ((message : Message) → r ≡ Ok message → RowsAreRead setups message) → Goes a (gsmp_holds a r)
  gsmp_holds_on a (Ok message) reads h = told_on a message (reads message refl) h
  gsmp_holds_on a (Err fault) reads h = same_on setups Allowed controls frames queue a (note a (Bad a.controller.node layers.Gsmp (gsmp_refusal fault))) refl refl refl refl (record { ports = h.ports; shaped = h.shaped }) h
