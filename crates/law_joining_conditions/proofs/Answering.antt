-- an answer of the switch can be taken: what it frees is released, then what it causes is asked, and then changes of
-- routes are taken

use Rattle.std.proofs.Common.{◌≡◌, ℕ, Bool, true, false, List, Option, None, Some, refl, sym, ◌∙◌, ap, subst, if◌then◌else◌, arith}
use Rattle.std.specs.Prelude.{◌==◌, ◌&&◌, not, filter, find}
use Rattle.std.specs.Option.{option_map_or}
use Rattle.std.proofs.lemmas.Bool.Decides.{nat_tests}
use Rattle.controller_joining.specs.world_model.Words.{PortNo, gsmp_received, is_estab, Request, AddBranch, MoveBranch, DeleteTree, VerifyTree, PortManagement, PortRow, is_delete_all, Desk, Standing, Head, head_of, is_of_type, Answered, Unknown, Done, Ports, Failed, succeeded, outcome, answered_with, answered, after_answer, Setup, Linked, with_desk, begins, releases, is_clearing, causes, causes_in_estab, clears, takes_answer, answer_comes}
use Rattle.controller_joining.specs.world_model.gsmp_wire.declared.message.Message.{Message}
use Rattle.controller_joining.specs.world_model.gsmp_wire.declared.message.Message.TheVariants as messages
use Rattle.controller_joining.specs.world_model.gsmp_wire.declared.request.Request.TheVariants.{DeleteAll, AllPorts}
use Rattle.law_controller_conditions.specs.ordered_lists.Ordered.{Every}
use Rattle.controller_joining.specs.world_model.port_model.Answers as port_answers
use Rattle.law_controller_conditions.specs.law_port_facts.Port.{IsShaped}
use Rattle.law_controller_conditions.proofs.law_port_facts.Found.{find_every, find_passes}
use Rattle.law_controller_conditions.proofs.law_port_facts.Keyed.{on_both}
use Rattle.law_controller_conditions.proofs.law_port_facts.Rules.{and_second, done_goes}
use Rattle.controller_joining.specs.world_model.Controller.{Acted}
use Rattle.controller_joining.specs.world_model.Meeting.{takes_success}
use Rattle.controller_joining.specs.world_model.Gsmp.{message_comes}
use Rattle.law_controller_conditions.specs.law_controller_facts.Conditions.{MovesLabels}
use Rattle.law_controller_conditions.specs.law_controller_facts.Said.{HasFlowsAt}
use Rattle.law_controller_conditions.proofs.law_controller_facts.Conditions.{shaped_moves}
use Rattle.law_controller_conditions.proofs.law_controller_facts.Moves.{IsShapedStanding, answering, hears, moves_to, further, found_setup}
use Rattle.law_controller_conditions.proofs.law_controller_facts.Events.{causes_goes, clears_goes}
use Rattle.law_controller_conditions.proofs.law_controller_facts.Joining.{releases_goes, takes_changes_goes}
use Rattle.law_controller_conditions.specs.law_controller.Order.{IsDeleting, IsOther, IsClearingAt, IsOfClearing}
use Rattle.law_controller_conditions.proofs.law_controller.Holding.{Holds, answered_holds}
use Rattle.law_controller_conditions.proofs.law_controller.Meeting.{answered_none, left_deleting, freed_by, releases_unmoved}
use Rattle.law_controller_conditions.proofs.law_controller.Releasing.{IsFree, spent_holds, releases_holds}
use Rattle.law_controller_conditions.proofs.law_controller.Clearing.{IsEmptied}
use Rattle.law_controller_conditions.proofs.law_controller.Settling.{answered_fits, IsSettled, releases_fits}
use Rattle.law_controller_conditions.proofs.law_controller.Steady.{Steady, releases_steady}
use Rattle.law_controller_conditions.proofs.law_controller.Whole.{Whole, holds_of}
use Rattle.law_controller_conditions.specs.controller_router.Engine.{CanBeDone}
use Rattle.controller_joining.specs.Answers.{CanFinish, CanTakeAnswer, CanBeTold}
use Rattle.law_controller_conditions.specs.Kept.{AreLinks, AreIn}
use Rattle.law_controller_conditions.proofs.Ready.{in_before, Ready, ready_by, ready_ports}
use Rattle.law_controller_conditions.proofs.Restarting.{can_reset_node}
use Rattle.law_controller_conditions.proofs.Doing.{link_port}
use Rattle.law_controller_conditions.proofs.Meeting.{IsEmptying, IsOfLink, IsAlone, can_empty, can_follow, can_cause, ready_causes, ready_clears}
use Rattle.law_joining_conditions.proofs.Keeping.{keeps_joins}
use Rattle.law_joining_conditions.proofs.Releasing.{can_release}
use Rattle.law_joining_conditions.proofs.Changing.{can_take_changes}

-- *A request* that is answered moves labels alone
can_be_done : (request : Request) → MovesLabels request → CanBeDone request
can_be_done (AddBranch input output) m = tt
can_be_done (MoveBranch input from to) m = m
can_be_done (DeleteTree input) m = tt
can_be_done (VerifyTree input) m = tt
can_be_done (DeleteAll port) m = tt
can_be_done (PortManagement port function) m = tt
can_be_done AllPorts m = tt

same_port : (port : PortNo) → is_delete_all port (DeleteAll port) ≡ true
same_port port = itself port.0
  where
    itself : (n : ℕ) → (n == n) ≡ true
    itself n = grind (arith, nat_tests)

listing_type : (request : Request) (result code number : ℕ) (rows : List PortRow) → is_of_type (messages.AllPorts result code number rows) request ≡ true → request ≡ AllPorts
listing_type AllPorts result code number rows e = refl
listing_type (AddBranch input output) result code number rows e = absurd (cc e)
listing_type (MoveBranch input from to) result code number rows e = absurd (cc e)
listing_type (DeleteTree input) result code number rows e = absurd (cc e)
listing_type (VerifyTree input) result code number rows e = absurd (cc e)
listing_type (DeleteAll port) result code number rows e = absurd (cc e)
listing_type (PortManagement port function) result code number rows e = absurd (cc e)

module _ (setups : List Setup) (links : AreLinks setups) where
  ready_answered : (a : Acted) (answer : Answered) → Ready setups a → Ready setups (with_desk a (after_answer a.controller.desk answer))
  ready_answered a answer r = ready_by setups a (with_desk a (after_answer a.controller.desk answer)) (moves_to (answering a answer)) (answered_holds setups a answer r.holds) r

  -- *A success*: s stands and is answered
  module _ (a : Acted) (h : Whole setups a) (flows : Every HasFlowsAt a.controller.ports) (s : Standing) (test : Standing → Bool) (found : find test a.controller.desk.standing ≡ Some s) where
    abbrev now : Acted
    now = with_desk a (after_answer a.controller.desk (Done s))

    abbrev released : Acted
    released = releases now s.request

    held : Holds setups a
    held = holds_of setups a h

    shaped : IsShaped setups s.request
    shaped = find_every (IsShapedStanding setups) test a.controller.desk.standing s h.sound.requests found

    free : IsFree setups now s.request
    free = freed_by setups links.links a s test found held

    ready_now : Ready setups now
    ready_now = ready_answered a (Done s) (record { holds = held; flows = flows })

    ready_released : Ready setups released
    ready_released = ready_by setups now released (releases_goes setups now s.request (ready_ports setups now ready_now)) (releases_holds setups now s.request free ready_now.holds) ready_now

    steady : Steady setups now released
    steady = releases_steady setups now s.request

    -- while the switch is being met, Delete Alls alone stand
    deleting : IsEmptying setups links now → is_estab released.controller.adjacency.state ≡ true → IsEmptying setups links released
    deleting left estab unmet =
        let was : a.controller.has_met ≡ false = sym (steady.met estab) ∙ unmet in
        subst (λ (d : Desk). Every (λ (x : Standing). IsDeleting x.request) d.standing) (sym (releases_unmoved setups links.links now s.request was ready_now.holds (spent_holds setups))) (left was)

    -- once it is met, a Delete All was of a port in Clearing, and none of it is left
    of_clearing : (port : PortNo) → s.request ≡ DeleteAll port → a.controller.has_met ≡ true → IsClearingAt a.controller.ports port
    of_clearing port is met = find_every (IsOfClearing a.controller.ports) test a.controller.desk.standing s (h.order.clearing met) found port (ap (is_delete_all port) is ∙ same_port port)

    of_link : is_estab released.controller.adjacency.state ≡ true → IsOfLink setups links released s.request
    of_link estab port is met = (let there : IsClearingAt a.controller.ports port = of_clearing port is (sym (steady.met estab) ∙ met) in
        link_port setups links port there.linked.setup (found_setup setups a there.linked port (ready_ports setups a (record { holds = held; flows = flows })) there.found))

    settled : IsSettled setups now released s.request
    settled = releases_fits setups now s.request free ready_now.holds (answered_fits setups a s test found h.sound h.fits)

    emptied : (port : PortNo) → s.request ≡ DeleteAll port → a.controller.has_met ≡ true → IsEmptied setups port now.controller
    emptied port is met = (let there : IsClearingAt a.controller.ports port = of_clearing port is met in record {
      clearing = ap (λ (o : Option Linked). option_map_or (λ (x : Linked). is_clearing x.port.adjacency.state) o false) there.found ∙ ap is_clearing there.clearing;
      none = answered_none s test port (ap (is_delete_all port) is ∙ same_port port) a.controller.desk h.sound.desk.own_ports found;
    })

    alone : is_estab released.controller.adjacency.state ≡ true → IsAlone setups links released s.request
    alone estab port is met = (settled.emptied port (emptied port is (sym (steady.met estab) ∙ met)) estab).none

    module _ (left : IsEmptying setups links now) (n : AreIn (takes_success now s.request).numbers) where
      abbrev caused : Acted
      caused = causes released s.request

      ready_then : Ready setups caused
      ready_then = ready_causes setups links released s.request shaped (deleting left) alone ready_released

      ready_last : Ready setups (clears caused)
      ready_last = ready_clears setups links caused ready_then

      caused_in : AreIn caused.numbers
      caused_in = in_before setups caused (takes_success now s.request) (further (clears_goes setups caused (ready_ports setups caused ready_then)) (takes_changes_goes setups (clears caused) (ready_ports setups (clears caused) ready_last))) n

      pub can_finish : CanFinish now s.request
      can_finish = record {
        done = can_be_done s.request (shaped_moves setups s.request shaped);
        release = can_release setups links now s.request free ready_now (in_before setups released caused (causes_goes setups released s.request (ready_ports setups released ready_released) shaped) caused_in);
        cause = λ estab. can_cause setups links released s.request shaped estab (deleting left estab) (of_link estab) ready_released
            (subst (λ (b : Bool). AreIn (if b then causes_in_estab released s.request else released).numbers) estab caused_in);
        keeps = λ port is. keeps_joins setups released port (λ setup desk w. port_answers.done setup w s.request)
            (λ linked there. done_goes linked.setup released.controller.desk (begins released linked) s.request (λ t. tt)) ready_released;
        changes = can_take_changes setups links (clears caused) ready_last n;
      }

  -- *An answer*
  module _ (a : Acted) (h : Whole setups a) (flows : Every HasFlowsAt a.controller.ports) (message : Message) (number : ℕ) where
    abbrev test : Standing → Bool
    test s = s.number == number && is_of_type message s.request

    left_by : (s : Standing) → find test a.controller.desk.standing ≡ Some s → (answer : Answered) → (after_answer a.controller.desk answer).standing ≡ filter (λ (t : Standing). not (t.number == s.number)) a.controller.desk.standing
        → IsEmptying setups links (with_desk a (after_answer a.controller.desk answer))
    left_by s found answer is unmet = subst (Every (λ (t : Standing). IsDeleting t.request)) (sym is) (left_deleting s test a.controller.desk.standing (h.order.meeting unmet) found)

    is_done : (s : Standing) → find test a.controller.desk.standing ≡ Some s → AreIn (takes_answer a (Done s)).numbers → CanTakeAnswer a (Done s)
    is_done s found n = can_finish a h flows s test found (left_by s found (Done s) refl) n

    are_listed : (s : Standing) (rows : List PortRow) → s.request ≡ AllPorts → find test a.controller.desk.standing ≡ Some s → AreIn (takes_answer a (Ports s rows)).numbers → CanTakeAnswer a (Ports s rows)
    are_listed s rows is found n = can_empty setups links (with_desk a (after_answer a.controller.desk (Ports s rows))) (unmet a.controller.has_met refl) (left_by s found (Ports s rows) refl (unmet a.controller.has_met refl))
        (ready_answered a (Ports s rows) (record { holds = holds_of setups a h; flows = flows })) n
      where
        unmet : (b : Bool) → a.controller.has_met ≡ b → a.controller.has_met ≡ false
        unmet true e = absurd (subst IsOther is (find_every (λ (x : Standing). IsOther x.request) test a.controller.desk.standing s (h.order.met e) found))
        unmet false e = e

  succeeds : (a : Acted) → Whole setups a → Every HasFlowsAt a.controller.ports → (message : Message) (number : ℕ) (s : Standing) → find (λ (x : Standing). x.number == number && is_of_type message x.request) a.controller.desk.standing ≡ Some s
      → AreIn (takes_answer a (succeeded message s)).numbers → CanTakeAnswer a (succeeded message s)
  succeeds a h flows (messages.Adjacency greeting) number s found n = is_done a h flows (messages.Adjacency greeting) number s found n
  succeeds a h flows (messages.Branch kind result code m session input_port input output_port output branches priority) number s found n =
      is_done a h flows (messages.Branch kind result code m session input_port input output_port output branches priority) number s found n
  succeeds a h flows (messages.Move result code m session input_port input output_port output target_port target branches priority) number s found n =
      is_done a h flows (messages.Move result code m session input_port input output_port output target_port target branches priority) number s found n
  succeeds a h flows (messages.Port result code m port session function) number s found n = is_done a h flows (messages.Port result code m port session function) number s found n
  succeeds a h flows (messages.AllPorts result code m rows) number s found n = are_listed a h flows (messages.AllPorts result code m rows) number s rows
      (listing_type s.request result code m rows (and_second (s.number == number) (is_of_type (messages.AllPorts result code m rows) s.request)
      (find_passes (λ (x : Standing). x.number == number && is_of_type (messages.AllPorts result code m rows) x.request) a.controller.desk.standing s found))) found n

  -- what each answer asks, where the numbers that it leaves can be given out
  abbrev Takes : Acted → Answered → Type 0
  Takes a answer = AreIn (takes_answer a answer).numbers → CanTakeAnswer a answer

  pub can_take_answer : (a : Acted) → Whole setups a → Every HasFlowsAt a.controller.ports → (message : Message) → AreIn (answer_comes a message).numbers → CanTakeAnswer a (answered a.controller.desk message)
  can_take_answer a h flows message n = by_head (head_of message) n
    where
      failed : (s : Standing) (code : ℕ) → Takes a (Failed s code)
      failed s code m = can_reset_node setups links (with_desk a (after_answer a.controller.desk (Failed s code))) (ready_answered a (Failed s code) (record { holds = holds_of setups a h; flows = flows })) m

      by_found : (head : Head) (o : Option Standing) → find (λ (x : Standing). x.number == head.number && is_of_type message x.request) a.controller.desk.standing ≡ o → Takes a (outcome message head o)
      by_found head None found = λ m. tt
      by_found head (Some s) found = on_both (Takes a) (head.result == 3) (succeeded message s) (if head.result == 4 then Failed s head.code else Unknown)
          (succeeds a h flows message head.number s found) (on_both (Takes a) (head.result == 4) (Failed s head.code) Unknown (failed s head.code) (λ m. tt))

      by_head : (o : Option Head) → Takes a (answered_with a.controller.desk.standing message o)
      by_head None = λ m. tt
      by_head (Some head) = by_found head (find (λ (x : Standing). x.number == head.number && is_of_type message x.request) a.controller.desk.standing) refl

  -- *A message* of the switch
  pub can_be_told : (a : Acted) (message : Message) → Whole setups a → Every HasFlowsAt a.controller.ports → AreIn (message_comes a message).numbers → CanBeTold a message
  can_be_told a (messages.Adjacency greeting) h flows n = can_follow setups links a (gsmp_received a.controller.adjacency greeting) (hears greeting) (record { holds = holds_of setups a h; flows = flows }) n
  can_be_told a (messages.Branch kind result code number session input_port input output_port output branches priority) h flows n =
      can_take_answer a h flows (messages.Branch kind result code number session input_port input output_port output branches priority) n
  can_be_told a (messages.Move result code number session input_port input output_port output target_port target branches priority) h flows n =
      can_take_answer a h flows (messages.Move result code number session input_port input output_port output target_port target branches priority) n
  can_be_told a (messages.Port result code number port session function) h flows n = can_take_answer a h flows (messages.Port result code number port session function) n
  can_be_told a (messages.AllPorts result code number rows) h flows n = can_take_answer a h flows (messages.AllPorts result code number rows) n
