-- what the switch says: a greeting that isn't RSTACK, an answer to nothing, and the success of a join

use Rattle.std.proofs.Common.{◌≡◌, ◌≢◌, Bool, true, false, not, List, [], ◌∷◌, fold, Option, None, Some, Result, Ok, Err, refl, sym, ◌∙◌, ap, subst, arith, if◌then◌else◌}
use Rattle.std.specs.Prelude.{◌&&◌, ◌==◌, nat_eq}
use Rattle.std.specs.Option.{option_map_or}
use Rattle.std.proofs.lemmas.Bool.Decides.{nat_tests}
use Rattle.world_model.specs.Words.{PortNo, End, Party, Side, State, Clearing, SynSent, SynRcvd, Estab, HelloKind, Syn, Synack, Ack, Rstack, Reply, Silent, Says, Resets, Row, stays, enters_by_ack, row, Answer, Quiet, Send, Open, Said, Heard, Greeting, is_estab, answer_to, answer_of, followed, heard_in, same_party, greeting_of, gsmp_answer, gsmp_received, same_end, home_of, number_of_channel, RouteChange, Request, MoveBranch, at, Answered, Unknown, Done, Ports, Failed, answered, after_answer, Note, Work, is_spent, Linked, linked_at, port_key, with_linked, with_desk, begins, works, causes_in_estab, causes, port_of_input, may_clear, clears_of, clears_port, clears, takes_changes, takes_each, takes_answer, leads_home, gsmp_holds, says_gsmp, default_channel, next_control, with_control}
use Rattle.world_model.specs.adjacency_table.Side as sides
use Rattle.world_model.specs.adjacency_table.Side.{answer_opened}
use Rattle.world_model.specs.adjacency_table.declared.message.Answer.TheVariants.{Reset}
use Rattle.world_model.specs.gsmp_wire.Layout.{octets_of as gsmp_octets}
use Rattle.world_model.specs.gsmp_wire.declared.fault.Fault.{Fault}
use Rattle.world_model.specs.gsmp_wire.declared.message.Message.{Message}
use Rattle.world_model.specs.gsmp_wire.declared.message.Message.TheVariants as messages
use Rattle.world_model.specs.link_model.declared.record.Record.TheVariants.{Join}
use Rattle.world_model.specs.port_model.Answers as port_answers
use Rattle.world_model.specs.port_model.Resets.{cleared}
use Rattle.world_model.specs.Controller.{Acted, ports_of}
use Rattle.world_model.specs.Gsmp.{answers, steps, message_comes}
use Rattle.world_model.specs.Meeting.{takes_success}
use Rattle.law_port_facts.specs.ordered_lists.Ordered.{Every}
use Rattle.law_port_facts.proofs.Keyed.{on_both, at_key}
use Rattle.law_live_others.specs.Law.{IsUp}
use Rattle.law_live_numbers.specs.Law.{IsHarmlessAnswer, IsHarmlessMessage, IsHarmless}
use Rattle.law_live_mirrors.proofs.Nodes.{Worked, works_plain}
use Rattle.law_live_mirrors.proofs.Answered.{released_none}
use Rattle.law_live_joining.specs.Joins.{KeepsJoins}
use Rattle.law_live_joining.proofs.Keeping.{keeps_same, keeps_then, port_itself, put_keeps}
use Rattle.law_live_joining.proofs.Entering.{SameRest, sent_rest}
use Rattle.law_live_joining.proofs.Ports.{IsKind}

-- *A greeting* in Estab, that isn't RSTACK, is answered at most
abbrev IsSaid : Answer (Said Party) Party → Type 0
IsSaid Quiet = Unit {0}
IsSaid (Send m) = Unit {0}
IsSaid answer = ⊥

abbrev IsReplied : Reply → Type 0
IsReplied Resets = ⊥
IsReplied reply = Unit {0}

record IsMild (r : Row) : Type 0 where
  up : is_estab r.next ≡ true
  replied : IsReplied r.reply

mild_row : (state : State) (kind : HelloKind) (meant known : Bool) → is_estab state ≡ true → kind ≢ Rstack → IsMild (row state kind meant known)
mild_row Clearing kind meant known e other = absurd (cc e)
mild_row SynSent kind meant known e other = absurd (cc e)
mild_row SynRcvd kind meant known e other = absurd (cc e)
mild_row Estab Syn meant known e other = record { up = refl; replied = tt }
mild_row Estab Synack meant known e other = record { up = refl; replied = tt }
mild_row Estab Ack meant known e other = on_both IsMild (meant && known) enters_by_ack (stays Estab (Says Rstack)) (record { up = refl; replied = tt }) (record { up = refl; replied = tt })
mild_row Estab Rstack meant known e other = absurd (other refl)

followed_mildly : (s : Side Party) (m : Heard Party) (r : Row) → is_estab s.state ≡ true → IsMild r → IsSaid (followed s m r).answer
followed_mildly s m r estab mild = subst (λ (b : Bool). IsSaid (if not b && is_estab r.next then answer_opened s.own (said_by r.reply) else said_by r.reply)) (sym estab) (by r.reply mild.replied)
  where
    next : Side Party
    next = record { state = r.next; own = s.own; stored = if r.stores then Some m.sender else s.stored; silence = if r.clears_silence then 0 else s.silence }

    said_by : Reply → Answer (Said Party) Party
    said_by reply = answer_of (answer_to next m) reply

    by : (reply : Reply) → IsReplied reply → IsSaid (said_by reply)
    by Silent replied = tt
    by (Says kind) replied = tt
    by Resets replied = absurd replied

module _ (a : Acted) (up : IsUp a) where
  steps_keep : (step : sides.Step Party) → IsSaid step.answer → KeepsJoins a.controller (steps a step).controller
  steps_keep step said_so = by step.answer said_so
    where
      turned : Acted
      turned = record a { controller = record a.controller { adjacency = step.side } }

      by : (answer : Answer (Said Party) Party) → IsSaid answer → KeepsJoins a.controller (answers turned (gsmp_answer answer)).controller
      by Quiet is = keeps_same a.controller turned.controller refl
      by (Send m) is = keeps_same a.controller (says_gsmp turned (messages.Adjacency (greeting_of m))).controller rest.ports
        where
          rest : SameRest turned.controller (says_gsmp turned (messages.Adjacency (greeting_of m))).controller
          rest = sent_rest (record turned { numbers = with_control turned.numbers }) default_channel (next_control turned.numbers) (gsmp_octets (messages.Adjacency (greeting_of m)))
      by (Open m own) is = absurd is
      by Reset is = absurd is

  greeting_keeps : (greeting : Greeting) → greeting.kind ≢ Rstack → KeepsJoins a.controller (steps a (gsmp_received a.controller.adjacency greeting)).controller
  greeting_keeps greeting other = steps_keep (gsmp_received a.controller.adjacency greeting) (followed_mildly a.controller.adjacency (heard_in greeting) (row a.controller.adjacency.state greeting.kind meant known) up
      (mild_row a.controller.adjacency.state greeting.kind meant known up other))
    where
      meant : Bool
      meant = same_party (heard_in greeting).receiver a.controller.adjacency.own

      known : Bool
      known = option_map_or (same_party (heard_in greeting).sender) a.controller.adjacency.stored false

-- *What goes on*, with the changes of routes that wait as they were
record KeepsOn (a b : Acted) : Type 0 where
  keeps : KeepsJoins a.controller b.controller
  waiting : b.controller.waiting ≡ a.controller.waiting

on_itself : (a : Acted) → KeepsOn a a
on_itself a = record { keeps = keeps_same a.controller a.controller refl; waiting = refl }

on_then : (a b c : Acted) → KeepsOn a b → KeepsOn b c → KeepsOn a c
on_then a b c p q = record { keeps = keeps_then a.controller b.controller c.controller p.keeps q.keeps; waiting = q.waiting ∙ p.waiting }

-- a port is cleared
clear_on : (a : Acted) (q : PortNo) → KeepsOn a (clears_port a q)
clear_on a q = by (linked_at a.controller q) refl
  where
    by : (o : Option Linked) → linked_at a.controller q ≡ o → KeepsOn a (clears_of a o)
    by None found = on_itself a
    by (Some l) found = on_both (KeepsOn a) (may_clear a.controller l) (with_linked a (record l { port = cleared l.port })) a
        (record {
          keeps = put_keeps a.controller (with_linked a (record l { port = cleared l.port })).controller l (record l { port = cleared l.port })
              (subst (λ n. at port_key n a.controller.ports ≡ Some l) (sym (at_key port_key q.0 a.controller.ports l found)) found) refl refl
              (record { joined = λ number what h. h; lent = λ label what h. h });
          waiting = refl;
        }) (on_itself a)

all_clear : (qs : List PortNo) (a : Acted) → KeepsOn a (fold clears_port a qs)
all_clear [] a = on_itself a
all_clear (q ∷ qs) a = on_then a (clears_port a q) (fold clears_port (clears_port a q) qs) (clear_on a q) (all_clear qs (clears_port a q))

changes_none : (x : Acted) → x.controller.waiting ≡ [] → takes_changes x ≡ x
changes_none x none = by x.controller.has_met
  where
    by : (t : Bool) → (if t then takes_each x x.controller.waiting else x) ≡ x
    by true = ap (λ (changes : List RouteChange). takes_each x changes) none
    by false = refl

-- *A join was made*
module _ (b : Acted) (input from to : End) (to_link : to.port.0 ≢ 0) (none_waits : b.controller.waiting ≡ []) (unspent : Every (λ (linked : Linked). is_spent linked.port.session ≡ false) b.controller.ports) where
  abbrev request : Request
  request = MoveBranch input from to

  never_home : (e : End) → leads_home e (home_of e) request ≡ false
  never_home e = by (same_end input e) (to.port.0 == 0) apart
    where
      apart : (to.port.0 == 0) ≡ false
      apart = grind (arith, nat_tests, to_link)

      by : (x y : Bool) → y ≡ false → (x && (y && (nat_eq to.channel.vpi (home_of e).channel.vpi && nat_eq to.channel.vci (home_of e).channel.vci))) ≡ false
      by true true is = absurd (cc is)
      by true false is = refl
      by false y is = refl

  noted : (o : Option Linked) → linked_at b.controller (port_of_input input to) ≡ o → KeepsOn b (works b (λ setup desk w. port_answers.done setup w request) o)
  noted None found = on_itself b
  noted (Some l) found = by (works_plain b l w kind.plain)
    where
      w : Work
      w = port_answers.done l.setup (begins b l) request

      plain : (t : Bool) → IsKind l.port (if t then begins b l else record (begins b l) { actions = Note (Join l.setup.node l.setup.port (number_of_channel input.channel) to.port (number_of_channel to.channel)) ∷ [] })
      plain true = record { plain = tt; keeps = port_itself l.port }
      plain false = record { plain = (tt, tt); keeps = port_itself l.port }

      kind : IsKind l.port w
      kind = plain (to.port.0 == 0)

      by : Worked b (works b (λ setup desk v. port_answers.done setup v request) (Some l)) l w.port [] → KeepsOn b (works b (λ setup desk v. port_answers.done setup v request) (Some l))
      by done = record {
        keeps = put_keeps b.controller (works b (λ setup desk v. port_answers.done setup v request) (Some l)).controller l (record l { port = w.port })
            (subst (λ n. at port_key n b.controller.ports ≡ Some l) (sym (at_key port_key (port_of_input input to).0 b.controller.ports l found)) found) refl done.ports kind.keeps;
        waiting = done.waiting;
      }

  caused : KeepsOn b (causes b request)
  caused = on_both (KeepsOn b) (is_estab b.controller.adjacency.state) (causes_in_estab b request) b (noted (linked_at b.controller (port_of_input input to)) refl) (on_itself b)

  cleared_on : KeepsOn b (clears (causes b request))
  cleared_on = on_then b (causes b request) (clears (causes b request)) caused (all_clear (ports_of (causes b request).controller) (causes b request))

  made_keeps : KeepsJoins b.controller (takes_success b request).controller
  made_keeps = subst (λ (x : Acted). KeepsJoins b.controller x.controller)
      (sym (ap (λ (x : Acted). takes_changes (clears (causes x request))) (released_none b unspent request never_home)
      ∙ changes_none (clears (causes b request)) (cleared_on.waiting ∙ none_waits))) cleared_on.keeps

module _ (a : Acted) (up : IsUp a) where
  answered_keeps : (answer : Answered) → IsHarmlessAnswer a answer → KeepsJoins a.controller (takes_answer a answer).controller
  answered_keeps Unknown harmless = keeps_same a.controller a.controller refl
  answered_keeps (Done s) made = by made_it
    where
      b : Acted
      b = with_desk a (after_answer a.controller.desk (Done s))

      made_it : KeepsJoins b.controller (takes_success b s.request).controller
      made_it = subst (λ (request : Request). KeepsJoins b.controller (takes_success b request).controller) (sym made.is) (made_keeps b made.input made.from made.to made.to_link made.none_waits made.unspent)

      by : KeepsJoins b.controller (takes_success b s.request).controller → KeepsJoins a.controller (takes_success b s.request).controller
      by k = record { joined = k.joined; lent = k.lent }
  answered_keeps (Ports s rows) harmless = absurd harmless
  answered_keeps (Failed s code) harmless = absurd harmless

  message_keeps : (message : Message) → IsHarmlessMessage a message → KeepsJoins a.controller (message_comes a message).controller
  message_keeps (messages.Adjacency greeting) harmless = greeting_keeps a up greeting harmless
  message_keeps (messages.Branch kind result code number session input_port input output_port output branches priority) harmless =
      answered_keeps (answered a.controller.desk (messages.Branch kind result code number session input_port input output_port output branches priority)) harmless
  message_keeps (messages.Move result code number session input_port input output_port output target_port target branches priority) harmless =
      answered_keeps (answered a.controller.desk (messages.Move result code number session input_port input output_port output target_port target branches priority)) harmless
  message_keeps (messages.Port result code number port_named session function) harmless = answered_keeps (answered a.controller.desk (messages.Port result code number port_named session function)) harmless
  message_keeps (messages.AllPorts result code number rows) harmless = answered_keeps (answered a.controller.desk (messages.AllPorts result code number rows)) harmless

  pub gsmp_keeps : (r : Result Message Fault) → IsHarmless a r → KeepsJoins a.controller (gsmp_holds a r).controller
  gsmp_keeps (Ok message) harmless = message_keeps message harmless
  gsmp_keeps (Err fault) harmless = keeps_same a.controller a.controller refl
