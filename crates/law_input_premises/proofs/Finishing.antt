-- what a controller does at a success may be done, once its switch is met

use Rattle.std.proofs.Common.{◌≡◌, ◌≤◌, ℕ, Bool, true, false, List, [], ◌∷◌, Option, None, Some, refl, sym, ◌∙◌, ap, subst, if◌then◌else◌, inl, inr, fold, arith}
use Rattle.std.specs.Prelude.{◌==◌, find}
use Rattle.std.specs.Option.{option_map_or}
use Rattle.std.proofs.lemmas.Bool.Decides.{nat_tests}
use Rattle.law_controller.specs.world_model.Words.{PortNo, End, is_estab, IsLinkPort, Request, AddBranch, MoveBranch, DeleteTree, VerifyTree, PortManagement, is_delete_all, Standing, all_on, Done, after_answer, Setup, Linked, linked_at, with_linked, with_desk, default_end, default_home, asks, begins, releases, ends_meeting, has_emptied, is_clearing, tells_port, causes_in_estab, causes, may_clear, clears_of, clears_port, clears}
use Rattle.law_controller.specs.world_model.gsmp_wire.declared.request.Request.TheVariants.{DeleteAll, AllPorts}
use Rattle.law_controller.specs.ordered_lists.Ordered.{Every}
use Rattle.law_controller.specs.world_model.port_model.Answers as port_answers
use Rattle.law_controller.specs.world_model.port_model.Resets.{cleared}
use Rattle.law_controller.specs.law_port_facts.Port.{IsDefaultEnd, IsShaped, empties_control, empties_port, opens_input}
use Rattle.law_controller.proofs.law_port_facts.Found.{find_every}
use Rattle.law_controller.proofs.law_port_facts.Keyed.{on_each}
use Rattle.law_controller.proofs.law_port_facts.Rules.{done_goes}
use Rattle.law_controller.specs.world_model.Controller.{Acted, ports_of}
use Rattle.law_controller.specs.world_model.Meeting.{request_port}
use Rattle.law_controller.proofs.law_controller_facts.Moves.{IsShapedStanding, found_at_own}
use Rattle.law_controller.specs.Order.{IsClearingAt, IsOfClearing}
use Rattle.law_controller.proofs.Ordering.{of_input, for_default}
use Rattle.law_controller.proofs.Holding.{Holds, answered_holds, cleared_holds}
use Rattle.law_controller.proofs.Performing.{asks_holds, at_port_holds}
use Rattle.law_controller.proofs.Meeting.{answered_none, freed_by}
use Rattle.law_controller.proofs.Releasing.{IsFree, releases_holds}
use Rattle.law_controller.proofs.Clearing.{IsEmptied}
use Rattle.law_controller.proofs.Settling.{answered_fits, IsSettled, releases_fits}
use Rattle.law_controller.proofs.Steady.{Steady, releases_steady}
use Rattle.law_controller.proofs.Whole.{Whole, holds_of}
use Rattle.law_input_steps.specs.Done.{CanTell, CanCause, CanFinish}
use Rattle.law_input_premises.specs.Read.{AreRead}
use Rattle.law_input_premises.proofs.Rows.{releases_rows, causes_rows, clears_rows}
use Rattle.law_input_premises.proofs.Asking.{asks_can}
use Rattle.law_input_premises.proofs.Working.{can_work}
use Rattle.law_input_premises.proofs.Releasing.{read_on, can_release, can_spend_each}
use Rattle.law_input_premises.proofs.Changing.{can_take_each}

same_port : (port : PortNo) → is_delete_all port (DeleteAll port) ≡ true
same_port port = itself port.0
  where
    itself : (n : ℕ) → (n == n) ≡ true
    itself n = grind (arith, nat_tests)

-- *Clearing*
clears_one : (setups : List Setup) (a : Acted) (port : PortNo) (o : Option Linked) → linked_at a.controller port ≡ o → Holds setups a → Holds setups (clears_of a o)
clears_one setups a port None found h = h
clears_one setups a port (Some linked) found h = on_each (Holds setups) (may_clear a.controller linked) (with_linked a (record linked { port = cleared linked.port })) a
    (λ may. cleared_holds setups a linked (found_at_own setups a linked port found) may h) (λ t. h)

clears_each : (setups : List Setup) (ports : List PortNo) (a : Acted) → Holds setups a → Holds setups (fold clears_port a ports)
clears_each setups [] a h = h
clears_each setups (port ∷ ports) a h = clears_each setups ports (clears_port a port) (clears_one setups a port (linked_at a.controller port) refl h)

pub clears_hold : (setups : List Setup) (a : Acted) → Holds setups a → Holds setups (clears a)
clears_hold setups a h = clears_each setups (ports_of a.controller) a h

pub emptied_end : (setups : List Setup) (port : PortNo) → IsShaped setups (DeleteAll port) → IsDefaultEnd setups (default_end port)
emptied_end setups port (empties_control other none) = record { port = inl none; vpi = refl; vci = refl }
emptied_end setups port (empties_port other linked) = record { port = inr linked; vpi = refl; vci = refl }

module _ (setups : List Setup) (links : Every (λ (setup : Setup). IsLinkPort setup.port) setups) (input : End) (above : 1 ≤ input.port.0) where
  -- *What the answer causes*
  tells_can : (a : Acted) (request : Request) (o : Option PortNo) → Holds setups a → AreRead setups a.controller.desk.rows → CanTell input a request o
  tells_can a request None h reads = tt
  tells_can a request (Some port) h reads = can_work setups links input above a port (λ setup desk w. port_answers.done setup w request) (λ linked found. done_goes linked.setup a.controller.desk (begins a linked) request (λ t. tt)) reads h

  tells_hold : (a : Acted) (request : Request) (o : Option PortNo) → Holds setups a → Holds setups (tells_port a request o)
  tells_hold a request None h = h
  tells_hold a request (Some port) h = at_port_holds setups a port (λ setup desk w. port_answers.done setup w request) (λ linked found. done_goes linked.setup a.controller.desk (begins a linked) request (λ t. tt)) h

  -- behind Delete All of a port of which no other stands
  module _ (a : Acted) (met : a.controller.has_met ≡ true) (h : Holds setups a) where
    abbrev IsAlone : Request → Type 0
    IsAlone request = (port : PortNo) → request ≡ DeleteAll port → all_on a.controller.desk port ≡ false

    given : (port : PortNo) → IsShaped setups (DeleteAll port) → IsAlone (DeleteAll port) → Holds setups (asks a (AddBranch (default_end port) (default_home port)))
    given port shaped alone = asks_holds setups a (AddBranch (default_end port) (default_home port)) (opens_input (default_end port) (emptied_end setups port shaped))
        (λ e. of_input (AddBranch (default_end port) (default_home port)) (default_end port) refl met (λ link. alone port refl) (for_default refl) tt) h

    caused_hold : (request : Request) → IsShaped setups request → IsAlone request → Holds setups (causes_in_estab a request)
    caused_hold (DeleteAll port) shaped alone = subst (λ (t : Bool). Holds setups (if t then asks a (AddBranch (default_end port) (default_home port)) else (if has_emptied a.controller then ends_meeting a else a))) (sym met) (given port shaped alone)
    caused_hold (AddBranch i o) shaped alone = tells_hold a (AddBranch i o) (request_port (AddBranch i o)) h
    caused_hold (MoveBranch i from to) shaped alone = tells_hold a (MoveBranch i from to) (request_port (MoveBranch i from to)) h
    caused_hold (DeleteTree i) shaped alone = tells_hold a (DeleteTree i) (request_port (DeleteTree i)) h
    caused_hold (VerifyTree i) shaped alone = tells_hold a (VerifyTree i) (request_port (VerifyTree i)) h
    caused_hold (PortManagement port function) shaped alone = tells_hold a (PortManagement port function) (request_port (PortManagement port function)) h
    caused_hold AllPorts shaped alone = h

    can_cause : (request : Request) → IsShaped setups request → IsAlone request → AreRead setups a.controller.desk.rows → CanCause input a request
    can_cause (DeleteAll port) shaped alone reads = record {
      met = met;
      asks = asks_can setups input above a (AddBranch (default_end port) (default_home port)) (default_end port) refl (opens_input (default_end port) (emptied_end setups port shaped)) reads (λ e. met) h (given port shaped alone);
    }
    can_cause (AddBranch i o) shaped alone reads = tells_can a (AddBranch i o) (request_port (AddBranch i o)) h reads
    can_cause (MoveBranch i from to) shaped alone reads = tells_can a (MoveBranch i from to) (request_port (MoveBranch i from to)) h reads
    can_cause (DeleteTree i) shaped alone reads = tells_can a (DeleteTree i) (request_port (DeleteTree i)) h reads
    can_cause (VerifyTree i) shaped alone reads = tells_can a (VerifyTree i) (request_port (VerifyTree i)) h reads
    can_cause (PortManagement port function) shaped alone reads = tells_can a (PortManagement port function) (request_port (PortManagement port function)) h reads
    can_cause AllPorts shaped alone reads = tt

  -- *A success*: s stands and is answered
  module _ (a : Acted) (h : Whole setups a) (reads : AreRead setups a.controller.desk.rows) (s : Standing) (test : Standing → Bool) (found : find test a.controller.desk.standing ≡ Some s)
      (met : a.controller.has_met ≡ true) where
    abbrev now : Acted
    now = with_desk a (after_answer a.controller.desk (Done s))

    abbrev released : Acted
    released = releases now s.request

    shaped : IsShaped setups s.request
    shaped = find_every (IsShapedStanding setups) test a.controller.desk.standing s h.sound.requests found

    free : IsFree setups now s.request
    free = freed_by setups links a s test found (holds_of setups a h)

    now_holds : Holds setups now
    now_holds = answered_holds setups a (Done s) (holds_of setups a h)

    released_holds : Holds setups released
    released_holds = releases_holds setups now s.request free now_holds

    steady : Steady setups now released
    steady = releases_steady setups now s.request

    still_met : is_estab released.controller.adjacency.state ≡ true → released.controller.has_met ≡ true
    still_met estab = steady.met estab ∙ met

    emptied : (port : PortNo) → s.request ≡ DeleteAll port → IsEmptied setups port now.controller
    emptied port is =
        let there : IsClearingAt a.controller.ports port = find_every (IsOfClearing a.controller.ports) test a.controller.desk.standing s (h.order.clearing met) found port (ap (is_delete_all port) is ∙ same_port port) in
        record {
          clearing = ap (λ (o : Option Linked). option_map_or (λ (x : Linked). is_clearing x.port.adjacency.state) o false) there.found ∙ ap is_clearing there.clearing;
          none = answered_none s test port (ap (is_delete_all port) is ∙ same_port port) a.controller.desk h.sound.desk.own_ports found;
        }

    settled : IsSettled setups now released s.request
    settled = releases_fits setups now s.request free now_holds (answered_fits setups a s test found h.sound h.fits)

    alone : is_estab released.controller.adjacency.state ≡ true → (port : PortNo) → s.request ≡ DeleteAll port → all_on released.controller.desk port ≡ false
    alone estab port is = (settled.emptied port (emptied port is) estab).none

    released_reads : AreRead setups released.controller.desk.rows
    released_reads = read_on setups now released (releases_rows now s.request) reads

    caused_holds : Holds setups (causes released s.request)
    caused_holds = on_each (Holds setups) (is_estab released.controller.adjacency.state) (causes_in_estab released s.request) released
        (λ estab. caused_hold released (still_met estab) released_holds s.request shaped (alone estab)) (λ closed. released_holds)

    pub can_finish : CanFinish input now s.request
    can_finish = record {
      releases_each = can_release setups links input above now s.request free now_holds;
      spent = can_spend_each setups links input above now s.request free now_holds reads;
      causes_it = λ estab. can_cause released (still_met estab) released_holds s.request shaped (alone estab) released_reads;
      changes = λ m. can_take_each setups input above _ (clears (causes released s.request)) (clears_hold setups (causes released s.request) caused_holds)
          (read_on setups (causes released s.request) (clears (causes released s.request)) (clears_rows (causes released s.request))
          (read_on setups released (causes released s.request) (causes_rows released s.request) released_reads));
    }
