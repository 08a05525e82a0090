-- a tick can go by: what the adjacency with the switch asks, what is sent again, each port, and joins

use Rattle.std.proofs.Common.{ℕ, ◌≤◌, ◌<◌, List, [], ◌∷◌, None, Some, refl, arith, fold}
use Rattle.std.specs.Prelude.{◌+◌}
use Rattle.controller_joining.specs.world_model.Words.{PortNo, Party, HasNumbersLeft, Answer, Quiet, Send, Open, Said, greeting_of, gsmp_answer, ticked, empty_desk, Setup, with_desk, says_gsmp, begins, node_resets, meets, tries_joins, sends_again, ticks_port, ticks_ports, ticks_by}
use Rattle.controller_joining.specs.world_model.adjacency_table.declared.message.Answer.TheVariants.{Reset}
use Rattle.controller_joining.specs.world_model.adjacency_table.Side as sides
use Rattle.controller_joining.specs.world_model.gsmp_wire.declared.message.Message.{Message}
use Rattle.controller_joining.specs.world_model.gsmp_wire.declared.message.Message.TheVariants as messages
use Rattle.controller_joining.specs.world_model.gsmp_wire.declared.request.Request.TheVariants.{AllPorts}
use Rattle.law_controller_conditions.specs.ordered_lists.Ordered.{Every}
use Rattle.controller_joining.specs.world_model.port_model.Ticks as port_ticks
use Rattle.law_controller_conditions.proofs.law_port_facts.Hearings.{ticks_goes}
use Rattle.controller_joining.specs.world_model.Controller.{Acted, ports_of}
use Rattle.controller_joining.specs.world_model.Gsmp.{answers, steps}
use Rattle.controller_joining.specs.world_model.Ticks.{ticks}
use Rattle.law_controller_conditions.specs.law_controller_facts.Said.{HasFlowsAt}
use Rattle.law_controller_conditions.proofs.law_controller_facts.Moves.{IsGsmpTurn, ages, Moves, further}
use Rattle.law_controller_conditions.proofs.law_controller_facts.Entering.{tries_joins_goes}
use Rattle.law_controller_conditions.proofs.law_controller_facts.Events.{steps_goes, sends_again_goes, ticks_ports_goes}
use Rattle.law_controller_conditions.proofs.law_controller_facts.Flows.{moves_flow}
use Rattle.law_controller_conditions.proofs.law_controller_facts.Laws.{has_ports}
use Rattle.law_controller_conditions.proofs.law_controller_facts.Marks.{Marks, no_marks, mark_more, marks_then, node_resets_marks, asks_marks}
use Rattle.law_controller_conditions.proofs.law_controller.Whole.{Whole, holds_of}
use Rattle.law_controller_conditions.proofs.law_controller.Events.{steps_holds, sends_again_holds, ticks_port_holds}
use Rattle.law_controller_conditions.specs.controller_router.Conditions.{turned_to}
use Rattle.controller_joining.specs.Conditions.{EachCanTickOn, CanSendAgain, CanTickOn, CanTickWith, CanTick}
use Rattle.law_controller_conditions.specs.Kept.{AreLinks, AreIn}
use Rattle.law_controller_conditions.proofs.Ready.{in_before, Ready, ready_ports}
use Rattle.law_controller_conditions.proofs.Restarting.{can_reset_node}
use Rattle.law_controller_conditions.proofs.Rules.{can_tick, ready_tick, ticks_move}
use Rattle.law_controller_conditions.proofs.Meeting.{can_follow}
use Rattle.law_joining_conditions.proofs.Keeping.{keeps_joins}
use Rattle.law_joining_conditions.proofs.Trying.{can_try_joins}

module _ (setups : List Setup) (links : AreLinks setups) where
  -- *The adjacency with the switch* says two things at most
  meets_marks : (a : Acted) → Marks 1 a (meets a)
  meets_marks a = (let m : Marks 1 (with_desk a empty_desk) (meets a) = asks_marks setups (with_desk a empty_desk) AllPorts in record { few = m.few })

  says_marks : (a : Acted) (message : Message) → Marks 1 a (says_gsmp a message)
  says_marks a message = record { few = omega arith }

  answers_marks : (a : Acted) (answer : Answer (Said Party) Party) → Marks 2 a (answers a (gsmp_answer answer))
  answers_marks a Quiet = no_marks 2 a a refl
  answers_marks a (Send message) = mark_more 1 2 a (answers a (gsmp_answer (Send message))) (omega arith) (says_marks a (messages.Adjacency (greeting_of message)))
  answers_marks a (Open None own) = mark_more 1 2 a (meets a) (omega arith) (meets_marks a)
  answers_marks a (Open (Some message) own) = (let said : Acted = says_gsmp a (messages.Adjacency (greeting_of message)) in
      mark_more (1 + 1) 2 a (meets said) (omega arith) (marks_then 1 1 a said (meets said) (says_marks a (messages.Adjacency (greeting_of message))) (meets_marks said)))
  answers_marks a Reset = no_marks 2 a (node_resets a) (node_resets_marks setups a)

  steps_marks : (a : Acted) (step : sides.Step Party) → Marks 2 a (steps a step)
  steps_marks a step = (let m : Marks 2 (turned_to a step) (steps a step) = answers_marks (turned_to a step) step.answer in record { few = m.few })

  enough : (before after k : ℕ) → after ≤ before + 2 → before + 1000000 < k → after + 32 < k
  enough before after k few left = omega (arith, few, left)

  can_send_again : (a : Acted) (step : sides.Step Party) → HasNumbersLeft a.numbers → CanSendAgain (steps a step)
  can_send_again a step left estab = enough a.numbers.controls (steps a step).numbers.controls _ (steps_marks a step).few left.controls

  -- *Each port*
  each_port : (ports : List PortNo) (a : Acted) → Ready setups a → AreIn (fold ticks_port a ports).numbers → EachCanTickOn a ports
  each_port [] a r n = tt
  each_port (port ∷ ports) a r n =
      let next : Acted = ticks_port a port in
      let k : Ready setups next = ready_tick setups links a port r in (
        record {
          can = can_tick setups links a port r (in_before setups next (fold ticks_port next ports) (ticks_move setups links ports next (ready_ports setups next k)) n);
          keeps = keeps_joins setups a port port_ticks.ticks (λ linked found. ticks_goes linked.setup a.controller.desk (begins a linked) refl) r;
        },
        each_port ports next k n,
      )

  ports_whole : (ports : List PortNo) (a : Acted) → Whole setups a → Whole setups (fold ticks_port a ports)
  ports_whole [] a h = h
  ports_whole (port ∷ ports) a h = ports_whole ports (ticks_port a port) (ticks_port_holds setups links.links a port h)

  -- *All of it*
  tick_on : (a : Acted) (step : sides.Step Party) → IsGsmpTurn a.controller.adjacency step → Whole setups a → Every HasFlowsAt a.controller.ports → HasNumbersLeft a.numbers
      → AreIn (tries_joins (ticks_ports (sends_again (steps a step)))).numbers → CanTickOn (turned_to a step) (gsmp_answer step.answer)
  tick_on a step turn h flows left n =
      let stepped : Acted = steps a step in
      let again : Acted = sends_again stepped in
      let last : Acted = ticks_ports again in
      let w : Whole setups stepped = steps_holds setups links.links a step turn h in
      let v : Whole setups again = sends_again_holds setups links.links stepped w in
      let u : Whole setups last = ports_whole (ports_of again.controller) again v in
      let m : Moves setups a stepped = steps_goes setups a step turn (has_ports setups a h.sound) in
      let p : Moves setups stepped again = sends_again_goes setups stepped (has_ports setups stepped w.sound) in
      let q : Moves setups again last = ticks_ports_goes setups again (has_ports setups again v.sound) in
      let o : Moves setups last (tries_joins last) = tries_joins_goes setups last (has_ports setups last u.sound) in
      record {
        follow = can_follow setups links a step turn (record { holds = holds_of setups a h; flows = flows }) (in_before setups stepped (tries_joins last) (further p (further q o)) n);
        again = can_send_again a step left;
        ports = each_port (ports_of again.controller) again (record { holds = holds_of setups again v; flows = moves_flow setups a again (further m p) flows }) (in_before setups last (tries_joins last) o n);
        joins = can_try_joins setups links last u (moves_flow setups a last (further m (further p q)) flows) n;
      }

  tick_with : (a : Acted) (step : sides.Step Party) (answer : Answer (Said Party) Party) → IsGsmpTurn a.controller.adjacency step → Whole setups a → Every HasFlowsAt a.controller.ports → HasNumbersLeft a.numbers
      → AreIn (ticks_by a step answer).numbers → CanTickWith a step answer
  tick_with a step Quiet turn h flows left n = tick_on a step turn h flows left n
  tick_with a step (Send message) turn h flows left n = tick_on a step turn h flows left n
  tick_with a step (Open message own) turn h flows left n = tick_on a step turn h flows left n
  tick_with a step Reset turn h flows left n = can_reset_node setups links a (record { holds = holds_of setups a h; flows = flows }) n

  pub can_tick_all : (a : Acted) → Whole setups a → Every HasFlowsAt a.controller.ports → HasNumbersLeft a.numbers → AreIn (ticks a).numbers → CanTick a
  can_tick_all a h flows left n = tick_with a (ticked a.controller.adjacency) (ticked a.controller.adjacency).answer ages h flows left n
