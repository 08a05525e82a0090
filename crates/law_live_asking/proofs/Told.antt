-- what the switch says: its ACK, an answer to nothing that stands, and the success of a branch

use Rattle.std.proofs.Common.{◌≡◌, ◌≢◌, ℕ, ◌≤◌, Bool, true, false, List, [], ◌∷◌, fold, Option, None, Some, Result, Ok, Err, refl, sym, ◌∙◌, ap, subst, arith, if◌then◌else◌}
use Rattle.std.specs.Prelude.{◌&&◌, ◌==◌, nat_eq}
use Rattle.std.proofs.lemmas.Bool.Decides.{nat_tests}
use Rattle.world_model.specs.Words.{PortNo, End, Party, Side, Step, RouteChange, number_of_channel, same_end, Request, AddBranch, MoveBranch, Standing, Answered, Unknown, Done, answered, Head, head_of, leads_home, label_end, control_end, home_of, at, put, is_in_range, Label, Grant, Idle, ByController, grant_label, Session, Note, Work, gsmp_answer, Controller, Linked, port_key, linked_at, with_linked, begins, works, works_as, at_port, causes, causes_in_estab, port_of_input, may_clear, clears, clears_of, clears_port, takes_changes, takes_each, takes_answer, gsmp_holds}
use Rattle.world_model.specs.gsmp_wire.declared.fault.Fault.{Fault}
use Rattle.world_model.specs.gsmp_wire.declared.message.Message.{Message}
use Rattle.world_model.specs.gsmp_wire.declared.message.Message.TheVariants.{Adjacency, Branch, Move, Port, AllPorts}
use Rattle.world_model.specs.link_model.declared.record.Record.TheVariants.{Join}
use Rattle.world_model.specs.port_model.Answers.{done}
use Rattle.world_model.specs.port_model.Resets.{cleared}
use Rattle.world_model.specs.Controller.{Acted, ports_of}
use Rattle.world_model.specs.Gsmp.{answers, message_comes}
use Rattle.world_model.specs.Meeting.{takes_success}
use Rattle.live_model.specs.Met.{HaveMet}
use Rattle.law_live_lasting.specs.law_port_facts.ordered_lists.Ordered.{Every}
use Rattle.law_live_lasting.proofs.law_port_facts.Keyed.{on_both, at_every}
use Rattle.law_live_labels.specs.Law.{IsWorking, IsWired, offers_label, left}
use Rattle.law_live_labels.proofs.Agreed.{labels_are_offered, grants_are_started}
use Rattle.law_live_lasting.specs.law_live_control.Calm.{ack, HasLinks}
use Rattle.law_live_lasting.proofs.law_live_control.Sides.{ack_heard}
use Rattle.law_live_mirrors.specs.Asking.{IsPlain}
use Rattle.law_live_mirrors.specs.Answers.{IsDone, HearsMirrored}
use Rattle.law_live_mirrors.proofs.Nodes.{Worked, works_plain, at_port_is}
use Rattle.law_live_mirrors.proofs.Answered.{relieved, released_none}
use Rattle.law_live_mirrors.proofs.Successes.{offers_keep_mirrors, starts_keep_mirrors, joins_keep_mirrors}
use Rattle.law_live_lasting.proofs.law_live_mirrored_worlds.Events.{steps_keep}
use Rattle.law_live_asking.specs.Law.{PutsNone, AsksNone}
use Rattle.law_live_asking.specs.Frames.{IsPlainMessage, greets, answers_none, offers, starts, joins, IsPlainTold, PlainMessagesAskNone}
use Rattle.law_live_asking.proofs.Puts.{puts_same, puts_then}
use Rattle.law_live_asking.proofs.Still.{Still, still_same, still_asks, works_puts}

-- *Its ACK*
abbrev stepped : Acted → Step Party → Acted
stepped a step = answers (record a { controller = record a.controller { adjacency = step.side } }) (gsmp_answer step.answer)

ack_still : (a : Acted) (switch : Side Party) → HaveMet a.controller.adjacency switch → Still a.controller (message_comes a (ack switch.own a.controller.adjacency.own)).controller
ack_still a switch met = subst (λ (step : Step Party). Still a.controller (stepped a step).controller) (sym (ack_heard a.controller.adjacency switch.own met.one_is_up met.one_knows))
    (still_same a.controller (record a.controller { adjacency = record a.controller.adjacency { silence = 0 } }) refl refl refl)

-- *An answer to nothing*
answer_still : (a : Acted) (answer : Answered) → answer ≡ Unknown → Still a.controller (takes_answer a answer).controller
answer_still a answer is = subst (λ (x : Answered). Still a.controller (takes_answer a x).controller) (sym is) (still_same a.controller (takes_answer a Unknown).controller refl refl refl)

unknown_still : (a : Acted) (message : Message) (head : Head) → head_of message ≡ Some head → answered a.controller.desk message ≡ Unknown → Still a.controller (message_comes a message).controller
unknown_still a (Adjacency greeting) head is_answer is = absurd (cc is_answer)
unknown_still a (Branch kind result code transaction session input_port input output_port output branches priority) head is_answer is =
    answer_still a (answered a.controller.desk (Branch kind result code transaction session input_port input output_port output branches priority)) is
unknown_still a (Move result code transaction session input_port input output_port output target_port target branches priority) head is_answer is =
    answer_still a (answered a.controller.desk (Move result code transaction session input_port input output_port output target_port target branches priority)) is
unknown_still a (Port result code transaction port session function) head is_answer is = answer_still a (answered a.controller.desk (Port result code transaction port session function)) is
unknown_still a (AllPorts result code transaction rows) head is_answer is = answer_still a (answered a.controller.desk (AllPorts result code transaction rows)) is

-- *Ports are cleared*, and no change of routes waits
record Waits (a b : Controller) : Type 0 where
  queue : b.queue ≡ a.queue
  waiting : b.waiting ≡ a.waiting

clear_waits : (a : Acted) (q : PortNo) → Waits a.controller (clears_port a q).controller
clear_waits a q = by (linked_at a.controller q)
  where
    by : (o : Option Linked) → Waits a.controller (clears_of a o).controller
    by None = record { queue = refl; waiting = refl }
    by (Some l) = on_both (λ (b : Acted). Waits a.controller b.controller) (may_clear a.controller l) (with_linked a (record l { port = cleared l.port })) a
        (record { queue = refl; waiting = refl }) (record { queue = refl; waiting = refl })

all_wait : (qs : List PortNo) (a : Acted) → Waits a.controller (fold clears_port a qs).controller
all_wait [] a = record { queue = refl; waiting = refl }
all_wait (q ∷ qs) a = by (clear_waits a q) (all_wait qs (clears_port a q))
  where
    by : Waits a.controller (clears_port a q).controller → Waits (clears_port a q).controller (fold clears_port (clears_port a q) qs).controller → Waits a.controller (fold clears_port (clears_port a q) qs).controller
    by one rest = record { queue = rest.queue ∙ one.queue; waiting = rest.waiting ∙ one.waiting }

changes_none : (x : Acted) → x.controller.waiting ≡ [] → takes_changes x ≡ x
changes_none x none = by x.controller.has_met
  where
    by : (t : Bool) → (if t then takes_each x x.controller.waiting else x) ≡ x
    by true = ap (λ (changes : List RouteChange). takes_each x changes) none
    by false = refl

is_zero : (n : ℕ) → n ≢ 0 → (n == 0) ≡ false
is_zero n e = grind (arith, nat_tests)

-- *A success* puts what it causes
module _ (a : Acted) (message : Message) (s : Standing) (h : IsDone a message s) where
  abbrev r : Acted
  r = relieved a message s h

  comes_is : (m : Message) → answered a.controller.desk m ≡ Done s → message_comes a m ≡ takes_success r s.request
  comes_is (Adjacency greeting) is = absurd (cc is)
  comes_is (Branch kind result code transaction session input_port input output_port output branches priority) is = ap (takes_answer a) is
  comes_is (Move result code transaction session input_port input output_port output target_port target branches priority) is = ap (takes_answer a) is
  comes_is (Port result code transaction port session function) is = ap (takes_answer a) is
  comes_is (AllPorts result code transaction rows) is = ap (takes_answer a) is

  record Causes (caused : Acted) : Type 0 where
    puts : PutsNone r.controller caused.controller
    waiting : caused.controller.waiting ≡ a.controller.waiting

  success_puts : (request : Request) → s.request ≡ request → ((input : End) → leads_home input (home_of input) request ≡ false) → (caused : Acted) → causes r request ≡ caused → Causes caused
      → PutsNone a.controller (message_comes a message).controller
  success_puts request asks never caused is_caused c = subst (λ (x : Acted). PutsNone a.controller x.controller) (sym whole)
      (puts_then a.controller r.controller (clears caused).controller (puts_same a.controller r.controller refl)
      (puts_then r.controller caused.controller (clears caused).controller c.puts (puts_same caused.controller (clears caused).controller clear.queue)))
    where
      clear : Waits caused.controller (clears caused).controller
      clear = all_wait (ports_of caused.controller) caused

      whole : message_comes a message ≡ clears caused
      whole = comes_is message h.answers
          ∙ (ap (takes_success r) asks
          ∙ (ap (λ (x : Acted). takes_changes (clears (causes x request))) (released_none r h.unspent request never)
          ∙ (ap (λ (x : Acted). takes_changes (clears x)) is_caused
          ∙ changes_none (clears caused) (clear.waiting ∙ (c.waiting ∙ h.none_waits)))))

  -- at a port that works plainly then
  worked : (linked : Linked) (w : Work) → 1 ≤ linked.setup.port.0 → Every IsPlain w.actions → Causes (works_as r linked w)
  worked linked w link plain = by (works_plain r linked w plain)
    where
      by : Worked r (works_as r linked w) linked w.port [] → Causes (works_as r linked w)
      by done_so = record { puts = works_puts r linked w link plain; waiting = done_so.waiting }

  module _ (links : HasLinks a.controller) where
    link_of : (port : PortNo) (linked : Linked) → linked_at a.controller port ≡ Some linked → 1 ≤ linked.setup.port.0
    link_of port linked found = at_every port_key (λ (l : Linked). 1 ≤ l.setup.port.0) port.0 a.controller.ports linked links.ports found

    -- *A label is offered*
    offer_puts : (linked : Linked) (session : Session) (label : Label) → linked_at a.controller linked.setup.port ≡ Some linked → IsWired linked.setup (begins a linked) session label
        → s.request ≡ AddBranch (label_end linked.setup.port label.number) (control_end linked.setup.port label.number) → PutsNone a.controller (message_comes a message).controller
    offer_puts linked session label found wired asks = success_puts request asks (λ input. refl) (works_as r linked offering) caused (worked linked offering (link_of linked.setup.port linked found) (tt, (tt, tt)))
      where
        offering : Work
        offering = offers_label linked.setup (begins a linked) session label

        request : Request
        request = AddBranch (label_end linked.setup.port label.number) (control_end linked.setup.port label.number)

        caused : causes r request ≡ works_as r linked offering
        caused = ap (λ (t : Bool). if t then causes_in_estab r request else r) h.up
            ∙ (ap (λ (t : Bool). at_port r (if t then (control_end linked.setup.port label.number).port else linked.setup.port) (λ setup desk w. done setup w request)) wired.working.of_link
            ∙ (at_port_is r linked.setup.port (λ setup desk w. done setup w request) linked found
            ∙ ap (works_as r linked) (labels_are_offered linked.setup (begins a linked) session label wired)))

    -- *A grant is started*
    start_puts : (linked : Linked) (session : Session) (grant : Grant) → linked_at a.controller linked.setup.port ≡ Some linked → IsWorking linked.setup (begins a linked) session
        → is_in_range linked.setup grant.label ≡ true → at grant_label grant.label linked.port.grants ≡ Some grant → grant.state ≡ Idle
        → s.request ≡ AddBranch (control_end linked.setup.port grant.label) (label_end linked.setup.port grant.label) → PutsNone a.controller (message_comes a message).controller
    start_puts linked session grant found working in_range held idle asks = success_puts request asks (λ input. refl) (works_as r linked starting) caused (worked linked starting (link_of linked.setup.port linked found) tt)
      where
        starting : Work
        starting = left (begins a linked) (record linked.port { grants = put grant_label (record grant { state = ByController }) linked.port.grants }) []

        request : Request
        request = AddBranch (control_end linked.setup.port grant.label) (label_end linked.setup.port grant.label)

        caused : causes r request ≡ works_as r linked starting
        caused = ap (λ (t : Bool). if t then causes_in_estab r request else r) h.up
            ∙ (at_port_is r linked.setup.port (λ setup desk w. done setup w request) linked found
            ∙ ap (works_as r linked) (grants_are_started linked.setup (begins a linked) session grant working in_range held idle))

    -- *A join is made*
    join_puts : (input from output : End) → output.port.0 ≢ 0 → s.request ≡ MoveBranch input from output → PutsNone a.controller (message_comes a message).controller
    join_puts input from output link asks = success_puts request asks never (at_port r (port_of_input input output) (λ setup desk w. done setup w request))
        (ap (λ (t : Bool). if t then causes_in_estab r request else r) h.up) (by (linked_at a.controller (port_of_input input output)) refl)
      where
        request : Request
        request = MoveBranch input from output

        never : (e : End) → leads_home e (home_of e) request ≡ false
        never e = apart (same_end input e) (output.port.0 == 0) (is_zero output.port.0 link)
          where
            apart : (x y : Bool) → y ≡ false → (x && (y && (nat_eq output.channel.vpi (home_of e).channel.vpi && nat_eq output.channel.vci (home_of e).channel.vci))) ≡ false
            apart true true is = absurd (cc is)
            apart true false is = refl
            apart false y is = refl

        plain : (l : Linked) (t : Bool) → (let w : Work = if t then begins a l else record (begins a l) { actions = Note (Join l.setup.node l.setup.port (number_of_channel input.channel) output.port (number_of_channel output.channel)) ∷ [] } in
            Every IsPlain w.actions)
        plain l true = tt
        plain l false = (tt, tt)

        by : (o : Option Linked) → linked_at a.controller (port_of_input input output) ≡ o → Causes (works r (λ setup desk w. done setup w request) o)
        by None found = record { puts = puts_same r.controller r.controller refl; waiting = refl }
        by (Some l) found = worked l (done l.setup (begins a l) request) (link_of (port_of_input input output) l found) (plain l (output.port.0 == 0))

-- *The whole*
hears_none : (a : Acted) (message : Message) (s : Standing) → HearsMirrored a (message_comes a message) s → PutsNone a.controller (message_comes a message).controller
    → AsksNone a.controller (message_comes a message).controller
hears_none a message s hears puts = record { keeps = steps_keep.hears a (message_comes a message) s hears; puts = puts }

message_none : (a : Acted) → HasLinks a.controller → (message : Message) → IsPlainMessage a message → AsksNone a.controller (message_comes a message).controller
message_none a links message (greets switch met) = still_asks a (message_comes a (ack switch.own a.controller.adjacency.own)) (ack_still a switch met)
message_none a links message (answers_none own head is_answer is) = still_asks a (message_comes a own) (unknown_still a own head is_answer is)
message_none a links message (offers own s linked session label h found wired unjoined asks) =
    hears_none a own s (offers_keep_mirrors a own s linked session label h found wired unjoined asks) (offer_puts a own s h links linked session label found wired asks)
message_none a links message (starts own s linked session grant h found working in_range held idle asks) =
    hears_none a own s (starts_keep_mirrors a own s linked session grant h found working in_range held idle asks) (start_puts a own s h links linked session grant found working in_range held idle asks)
message_none a links message (joins own s input from output h labels leads link asks) =
    hears_none a own s (joins_keep_mirrors a own s input from output h labels leads link asks) (join_puts a own s h links input from output link asks)

told_none : (a : Acted) → HasLinks a.controller → (r : Result Message Fault) → IsPlainTold a r → AsksNone a.controller (gsmp_holds a r).controller
told_none a links (Err fault) is = still_asks a (gsmp_holds a (Err fault)) (still_same a.controller (gsmp_holds a (Err fault)).controller refl refl refl)
told_none a links (Ok message) is = message_none a links message is

pub plain_messages_ask_none : PlainMessagesAskNone
plain_messages_ask_none a r mark payload links read is = subst (λ (x : Result Message Fault). AsksNone a.controller (gsmp_holds a x).controller) (sym read) (told_none a links r is)
