-- the adjacency with the switch, meeting it, its answers and ticks keep the widths, and what is made is a message's

use Rattle.std.proofs.Common.{◌≡◌, ℕ, zero, suc, ◌<◌, ◌≤◌, true, List, [], ◌∷◌, Option, None, Some, refl, arith, map, fold, if◌then◌else◌}
use Rattle.std.specs.Prelude.{◌^◌, ◌==◌, ◌&&◌, find, take, flat_map}
use Rattle.law_branch_shapes.specs.world_model.Words.{PortNo, Party, Said, Answer, Quiet, Send, Open, is_estab, ticked, greeting_of, gsmp_answer, gsmp_received, FitsRows, Fits, PortRow, Request, AddBranch, MoveBranch, DeleteTree, VerifyTree, PortManagement, Standing, empty_desk, sent_again, last_transaction, Head, head_of, is_of_type, Answered, Unknown, Done, Ports, Failed, succeeded, outcome, answered_with, after_answer, Setup, Linked, port_key, linked_at, with_linked, with_desk, default_end, default_home, says_gsmp, asks, sends_request, releases, tries_joins, meets, up_ports, empties, default_branches, ends_meeting, has_emptied, port_of_input, tells_port, behind_delete_all, causes_in_estab, causes, may_clear, clears_of, clears_port, clears, takes_answer, answer_comes, sends_again, ticks_port, ticks_ports, ticks_by}
use Rattle.law_branch_shapes.specs.world_model.adjacency_table.declared.message.Answer.TheVariants.{Reset}
use Rattle.law_branch_shapes.specs.world_model.adjacency_table.Side as sides
use Rattle.law_branch_shapes.specs.world_model.gsmp_wire.declared.message.Message.{Message}
use Rattle.law_branch_shapes.specs.world_model.gsmp_wire.declared.message.Message.TheVariants as messages
use Rattle.law_branch_shapes.specs.world_model.gsmp_wire.declared.request.Request.TheVariants.{DeleteAll, AllPorts}
use Rattle.law_frame_readings.specs.ordered_lists.Ordered.{Every}
use Rattle.law_branch_shapes.specs.world_model.port_model.Resets.{cleared}
use Rattle.law_frame_readings.specs.law_port_facts.Port.{IsLinked, IsShaped, asks_ports, empties_control, empties_port, opens_input, opens_output}
use Rattle.law_frame_readings.proofs.law_port_facts.Keyed.{on_both, on_each, at_every, put_every}
use Rattle.law_frame_readings.proofs.law_port_facts.Found.{find_every}
use Rattle.law_frame_readings.proofs.law_port_widths.Rules.{cleared_fit}
use Rattle.law_branch_shapes.specs.world_model.Controller.{Acted, ports_of}
use Rattle.law_branch_shapes.specs.world_model.Meeting.{takes_success}
use Rattle.law_branch_shapes.specs.world_model.Gsmp.{answers, steps, message_comes}
use Rattle.law_branch_shapes.specs.world_model.Ticks.{ticks}
use Rattle.law_frame_readings.proofs.law_controller_facts.Moves.{IsGsmpTurn, hears as hears_greeting, ages, answering, meeting, ending_meeting, turning, clearing, moves_to, HasPorts, IsShapedStanding, found_at_own}
use Rattle.law_frame_readings.proofs.law_controller_facts.Performing.{Any, any_ports}
use Rattle.law_frame_readings.specs.law_controller_facts.Sound.{IsSound}
use Rattle.law_frame_readings.proofs.law_controller_facts.Events.{ups_linked, default_of, emptied_port, sends_again_goes}
use Rattle.law_frame_readings.proofs.law_controller_lifts.Kept.{Of}
use Rattle.law_frame_readings.proofs.law_controller_lifts.Ready.{Fits as FitsIn}
use Rattle.law_frame_readings.proofs.law_controller_lifts.Unspent.{Unspent}
use Rattle.law_frame_readings.specs.law_world_views.Ready.{FitsSide}
use Rattle.law_running_worlds.proofs.Greeted.{AnswersWell, received_side, received_answers, ticked_side, ticked_answers}
use Rattle.law_running_worlds.proofs.Walk.{To, stays, goes_on, to_fold, alike_to, node_to, says_gsmp_to, fits_at}
use Rattle.law_running_worlds.proofs.Performed.{asks_to, asks_each_to, sent_again_to}
use Rattle.law_running_worlds.proofs.Rules.{done_to, ticks_to}
use Rattle.law_running_worlds.proofs.MadeJoining.{takes_changes_to, releases_to, tries_joins_to}

module _ (setups : List Setup) where
  -- *Meeting the switch*
  meets_to : (a : Acted) → HasPorts setups a → To setups a (meets a)
  meets_to a h = goes_on setups h emptied (λ k. asks_to setups (with_desk a empty_desk) AllPorts k asks_ports)
    where
      emptied : To setups a (with_desk a empty_desk)
      emptied = record {
        moves = moves_to (meeting a);
        carried = λ small base c. record { wide = c.wide; rows = tt; side = c.side; made = c.made };
        unspent = λ small sound u. u;
      }

  empties_to : (a : Acted) → HasPorts setups a → To setups a (empties a)
  empties_to a h = asks_each_to setups (map DeleteAll (record { 0 = 0 } ∷ up_ports a.controller)) (empties_control (record { 0 = 0 }) refl, shapes (up_ports a.controller) (ups_linked setups a h)) a h
    where
      shapes : (ports : List PortNo) → Every (IsLinked setups) ports → Every (IsShaped setups) (map DeleteAll ports)
      shapes [] e = tt
      shapes (port ∷ ports) e = (empties_port port e.0, shapes ports e.1)

  ends_meeting_to : (a : Acted) → HasPorts setups a → is_estab a.controller.adjacency.state ≡ true → To setups a (ends_meeting a)
  ends_meeting_to a h estab =
      let met : Acted = record a { controller = record a.controller { has_met = true } } in
      goes_on setups h (alike_to setups a met (moves_to (ending_meeting a estab)) refl refl refl refl)
      (λ k. asks_each_to setups (flat_map default_branches (up_ports a.controller)) (shapes (up_ports a.controller) (ups_linked setups a h)) met k)
    where
      shapes : (ports : List PortNo) → Every (IsLinked setups) ports → Every (IsShaped setups) (flat_map default_branches ports)
      shapes [] e = tt
      shapes (port ∷ ports) e = (opens_input (default_end port) (default_of setups port e.0), (opens_output (default_end port) (default_of setups port e.0), shapes ports e.1))

  -- *What an answer causes*
  tells_to : (a : Acted) (request : Request) (port : PortNo) → HasPorts setups a → To setups a (tells_port a request (Some port))
  tells_to a request port h = done_to setups a port request h

  behind_to : (a : Acted) (port : PortNo) → HasPorts setups a → IsShaped setups (DeleteAll port) → is_estab a.controller.adjacency.state ≡ true → To setups a (behind_delete_all a port)
  behind_to a port h shaped estab = on_both (To setups a) a.controller.has_met (asks a (AddBranch (default_end port) (default_home port))) (if has_emptied a.controller then ends_meeting a else a)
      (asks_to setups a (AddBranch (default_end port) (default_home port)) h (opens_input (default_end port) (emptied_port setups port shaped)))
      (on_both (To setups a) (has_emptied a.controller) (ends_meeting a) a (ends_meeting_to a h estab) (stays setups a))

  causes_in_to : (a : Acted) (request : Request) → HasPorts setups a → IsShaped setups request → is_estab a.controller.adjacency.state ≡ true → To setups a (causes_in_estab a request)
  causes_in_to a (AddBranch input output) h shaped estab = tells_to a (AddBranch input output) (port_of_input input output) h
  causes_in_to a (MoveBranch input from to) h shaped estab = tells_to a (MoveBranch input from to) (port_of_input input to) h
  causes_in_to a (DeleteTree input) h shaped estab = tells_to a (DeleteTree input) input.port h
  causes_in_to a (VerifyTree input) h shaped estab = tells_to a (VerifyTree input) input.port h
  causes_in_to a (DeleteAll port) h shaped estab = behind_to a port h shaped estab
  causes_in_to a (PortManagement port function) h shaped estab = tells_to a (PortManagement port function) port h
  causes_in_to a AllPorts h shaped estab = stays setups a

  causes_to : (a : Acted) (request : Request) → HasPorts setups a → IsShaped setups request → To setups a (causes a request)
  causes_to a request h shaped = on_each (To setups a) (is_estab a.controller.adjacency.state) (causes_in_estab a request) a (λ estab. causes_in_to a request h shaped estab) (λ t. stays setups a)

  -- *Clearing*
  clears_of_to : (a : Acted) (port : PortNo) (o : Option Linked) → linked_at a.controller port ≡ o → To setups a (clears_of a o)
  clears_of_to a port None found = stays setups a
  clears_of_to a port (Some linked) found = on_each (To setups a) (may_clear a.controller linked) (with_linked a (record linked { port = cleared linked.port })) a
      (λ may. record {
        moves = moves_to (clearing a linked (found_at_own setups a linked port found) may);
        carried = λ small base c. record {
          wide = put_every port_key (Of FitsIn) (record linked { port = cleared linked.port }) a.controller.ports
              ((fits_at setups a port linked c found).0, cleared_fit linked.port (fits_at setups a port linked c found).1) c.wide;
          rows = c.rows;
          side = c.side;
          made = c.made;
        };
        unspent = λ small sound u. put_every port_key (Of Unspent) (record linked { port = cleared linked.port }) a.controller.ports (at_every port_key (Of Unspent) port.0 a.controller.ports linked u found) u;
      }) (λ t. stays setups a)

  clears_to : (a : Acted) → HasPorts setups a → To setups a (clears a)
  clears_to a h = to_fold setups (Any setups) clears_port (λ b port k any. clears_of_to b port (linked_at b.controller port) refl) (ports_of a.controller) (any_ports setups (ports_of a.controller)) a h

  done_request_to : (a : Acted) (request : Request) → HasPorts setups a → IsShaped setups request → To setups a (takes_success a request)
  done_request_to a request h shaped =
      let released : Acted = releases a request in
      let caused : Acted = causes released request in
      goes_on setups h (releases_to setups a request h) (λ k. goes_on setups k (causes_to released request k shaped)
      (λ l. goes_on setups l (clears_to caused l) (λ m. takes_changes_to setups (clears caused) m)))

  -- *Answers of the switch*
  answers_row : (a : Acted) (s : Standing) (rows : List PortRow) → FitsRows rows → To setups a (with_desk a (after_answer a.controller.desk (Ports s rows)))
  answers_row a s rows fits = record {
    moves = moves_to (answering a (Ports s rows));
    carried = λ small base c. record { wide = c.wide; rows = fits; side = c.side; made = c.made };
    unspent = λ small sound u. u;
  }

  done_answer : (a : Acted) (s : Standing) → HasPorts setups a → IsShaped setups s.request → To setups a (takes_answer a (Done s))
  done_answer a s h shaped = goes_on setups h (alike_to setups a (with_desk a (after_answer a.controller.desk (Done s))) (moves_to (answering a (Done s))) refl refl refl refl)
      (λ k. done_request_to (with_desk a (after_answer a.controller.desk (Done s))) s.request k shaped)

  succeeds_to : (a : Acted) (message : Message) (s : Standing) → HasPorts setups a → Fits message → IsShaped setups s.request → To setups a (takes_answer a (succeeded message s))
  succeeds_to a (messages.Adjacency greeting) s h fits shaped = done_answer a s h shaped
  succeeds_to a (messages.Branch kind result code number session input_port input output_port output branches priority) s h fits shaped = done_answer a s h shaped
  succeeds_to a (messages.Move result code number session input_port input output_port output target_port target branches priority) s h fits shaped = done_answer a s h shaped
  succeeds_to a (messages.Port result code number port session function) s h fits shaped = done_answer a s h shaped
  succeeds_to a (messages.AllPorts result code number rows) s h fits shaped = goes_on setups h (answers_row a s rows fits.4) (λ k. empties_to (with_desk a (after_answer a.controller.desk (Ports s rows))) k)

  fails_to : (a : Acted) (s : Standing) (code : ℕ) → HasPorts setups a → To setups a (takes_answer a (Failed s code))
  fails_to a s code h = goes_on setups h (alike_to setups a (with_desk a (after_answer a.controller.desk (Failed s code))) (moves_to (answering a (Failed s code))) refl refl refl refl)
      (λ k. node_to setups (with_desk a (after_answer a.controller.desk (Failed s code))) k)

  answer_comes_to : (a : Acted) (message : Message) → HasPorts setups a → Fits message → To setups a (answer_comes a message)
  answer_comes_to a message h fits = by_head (head_of message)
    where
      unknown : To setups a (takes_answer a Unknown)
      unknown = alike_to setups a (takes_answer a Unknown) (moves_to (answering a Unknown)) refl refl refl refl

      by_found : (head : Head) (o : Option Standing) → ((s : Standing) → o ≡ Some s → IsShapedStanding setups s) → To setups a (takes_answer a (outcome message head o))
      by_found head None shaped = unknown
      by_found head (Some s) shaped = on_both (λ (answer : Answered). To setups a (takes_answer a answer)) (head.result == 3) (succeeded message s) (if head.result == 4 then Failed s head.code else Unknown)
          (succeeds_to a message s h fits (shaped s refl))
          (on_both (λ (answer : Answered). To setups a (takes_answer a answer)) (head.result == 4) (Failed s head.code) Unknown (fails_to a s head.code h) unknown)

      by_head : (o : Option Head) → To setups a (takes_answer a (answered_with a.controller.desk.standing message o))
      by_head None = unknown
      by_head (Some head) = by_found head (find (λ (s : Standing). s.number == head.number && is_of_type message s.request) a.controller.desk.standing)
          (λ s e. find_every (IsShapedStanding setups) (λ (s : Standing). s.number == head.number && is_of_type message s.request) a.controller.desk.standing s h.shaped e)

  -- *The adjacency with the switch*
  answers_to : (a : Acted) (answer : Answer (Said Party) Party) → HasPorts setups a → (FitsSide a.controller.adjacency → AnswersWell (gsmp_answer answer)) → To setups a (answers a (gsmp_answer answer))
  answers_to a Quiet h well = stays setups a
  answers_to a (Send message) h well = says_gsmp_to setups a (messages.Adjacency (greeting_of message)) (λ base c. well c.side)
  answers_to a (Open None own) h well = meets_to a h
  answers_to a (Open (Some message) own) h well = goes_on setups h (says_gsmp_to setups a (messages.Adjacency (greeting_of message)) (λ base c. well c.side))
      (λ k. meets_to (says_gsmp a (messages.Adjacency (greeting_of message))) k)
  answers_to a Reset h well = node_to setups a h

  steps_to : (a : Acted) (step : sides.Step Party) → IsGsmpTurn a.controller.adjacency step → HasPorts setups a → (FitsSide a.controller.adjacency → FitsSide step.side)
      → (FitsSide step.side → AnswersWell (gsmp_answer step.answer)) → To setups a (steps a step)
  steps_to a step turn h keeps well = goes_on setups h turned (λ k. answers_to (record a { controller = record a.controller { adjacency = step.side } }) step.answer k well)
    where
      turned : To setups a (record a { controller = record a.controller { adjacency = step.side } })
      turned = record {
        moves = moves_to (turning a step turn);
        carried = λ small base c. record { wide = c.wide; rows = c.rows; side = keeps c.side; made = c.made };
        unspent = λ small sound u. u;
      }

  -- *A message* whose numbers fit
  pub told_to : (a : Acted) (message : Message) → HasPorts setups a → Fits message → To setups a (message_comes a message)
  told_to a (messages.Adjacency greeting) h fits = steps_to a (gsmp_received a.controller.adjacency greeting) (hears_greeting greeting) h
      (received_side a.controller.adjacency greeting fits) (received_answers a.controller.adjacency greeting fits)
  told_to a (messages.Branch kind result code number session input_port input output_port output branches priority) h fits =
      answer_comes_to a (messages.Branch kind result code number session input_port input output_port output branches priority) h fits
  told_to a (messages.Move result code number session input_port input output_port output target_port target branches priority) h fits =
      answer_comes_to a (messages.Move result code number session input_port input output_port output target_port target branches priority) h fits
  told_to a (messages.Port result code number port session function) h fits = answer_comes_to a (messages.Port result code number port session function) h fits
  told_to a (messages.AllPorts result code number rows) h fits = answer_comes_to a (messages.AllPorts result code number rows) h fits

  -- *Ticks*
  abbrev IsAgain : Standing → Type 0
  IsAgain s = (s.number < 2 ^ 32) × IsShaped setups s.request

  taken_every : (n : ℕ) (xs : List Standing) → Every IsAgain xs → Every IsAgain (take n xs)
  taken_every zero xs h = tt
  taken_every (suc n) [] h = tt
  taken_every (suc n) (x ∷ xs) h = (h.0, taken_every n xs h.1)

  all_again : (next : ℕ) (xs : List Standing) → next ≤ last_transaction → Every (λ (s : Standing). s.number < next) xs → Every (IsShapedStanding setups) xs → Every IsAgain xs
  all_again next [] room less shaped = tt
  all_again next (x ∷ xs) room less shaped = ((omega (arith, less.0, room), shaped.0), all_again next xs room less.1 shaped.1)

  again_by : (a : Acted) → HasPorts setups a → IsSound setups a.controller → To setups a (sends_again a)
  again_by a h sound = on_both (To setups a) (is_estab a.controller.adjacency.state) (fold sends_request a (sent_again a.controller.desk)) a
      (to_fold setups IsAgain sends_request (λ b s k is. sent_again_to setups b s is.0 is.1) (sent_again a.controller.desk)
      (taken_every 32 a.controller.desk.standing (all_again a.controller.desk.next a.controller.desk.standing sound.desk.room sound.desk.below h.shaped)) a h)
      (stays setups a)

  sends_again_to : (a : Acted) → HasPorts setups a → To setups a (sends_again a)
  sends_again_to a h = record {
    moves = sends_again_goes setups a h;
    carried = λ small base c. (again_by a h base.sound).carried small base c;
    unspent = λ small sound u. (again_by a h sound).unspent small sound u;
  }

  ticks_ports_to : (a : Acted) → HasPorts setups a → To setups a (ticks_ports a)
  ticks_ports_to a h = to_fold setups (Any setups) ticks_port (λ b port k any. ticks_to setups b port k) (ports_of a.controller) (any_ports setups (ports_of a.controller)) a h

  ticks_on : (a : Acted) (step : sides.Step Party) → IsGsmpTurn a.controller.adjacency step → HasPorts setups a → (FitsSide a.controller.adjacency → FitsSide step.side)
      → (FitsSide step.side → AnswersWell (gsmp_answer step.answer)) → To setups a (tries_joins (ticks_ports (sends_again (steps a step))))
  ticks_on a step turn h keeps well =
      let stepped : Acted = steps a step in
      let again : Acted = sends_again stepped in
      goes_on setups h (steps_to a step turn h keeps well) (λ k. goes_on setups k (sends_again_to stepped k)
      (λ l. goes_on setups l (ticks_ports_to again l) (λ m. tries_joins_to setups (ticks_ports again) m)))

  ticks_by_to : (a : Acted) (step : sides.Step Party) (answer : Answer (Said Party) Party) → IsGsmpTurn a.controller.adjacency step → HasPorts setups a → (FitsSide a.controller.adjacency → FitsSide step.side)
      → (FitsSide step.side → AnswersWell (gsmp_answer step.answer)) → To setups a (ticks_by a step answer)
  ticks_by_to a step Quiet turn h keeps well = ticks_on a step turn h keeps well
  ticks_by_to a step (Send message) turn h keeps well = ticks_on a step turn h keeps well
  ticks_by_to a step (Open message own) turn h keeps well = ticks_on a step turn h keeps well
  ticks_by_to a step Reset turn h keeps well = node_to setups a h

  pub controller_ticks_to : (a : Acted) → HasPorts setups a → To setups a (ticks a)
  controller_ticks_to a h = ticks_by_to a (ticked a.controller.adjacency) (ticked a.controller.adjacency).answer ages h (ticked_side a.controller.adjacency) (ticked_answers a.controller.adjacency)
