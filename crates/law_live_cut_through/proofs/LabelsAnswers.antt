-- what is held stays at what the switch says of success, or greets with: a label comes to be offered, or a grant to be used

use Rattle.std.proofs.Common.{◌≡◌, ◌≢◌, Bool, true, false, List, [], ◌∷◌, fold, Option, None, Some, Result, Ok, Err, refl, sym, ◌∙◌, ap, subst, if◌then◌else◌}
use Rattle.std.specs.Prelude.{◌==◌}
use Rattle.std.specs.Option.{option_map}
use Rattle.world_model.specs.Words.{PortNo, End, Request, MoveBranch, Standing, Unknown, leads_home, home_of, number_of_channel, at, put, is_estab, is_in_range, is_offered, LabelState, Label, Offered, label_number, labels_of, Grant, GrantState, Idle, ByController, grant_label, Note, Session, Work, Linked, port_key, linked_at, with_linked, begins, works, works_as, causes, causes_in_estab, port_of_input, may_clear, clears, clears_of, clears_port, takes_answer, gsmp_holds}
use Rattle.world_model.specs.gsmp_wire.declared.fault.Fault.{Fault}
use Rattle.world_model.specs.gsmp_wire.declared.message.Message.{Message}
use Rattle.world_model.specs.link_model.declared.record.Record.TheVariants.{Join}
use Rattle.world_model.specs.port_model.Answers.{done}
use Rattle.world_model.specs.port_model.Resets.{cleared}
use Rattle.world_model.specs.Controller.{Acted, ports_of}
use Rattle.world_model.specs.Gsmp.{message_comes}
use Rattle.law_live_ease.proofs.law_port_facts.Keyed.{on_both, at_key}
use Rattle.law_live_ease.specs.law_live_labels.Law.{IsWorking, IsWired, offers_label, left}
use Rattle.law_live_ease.specs.law_live_mirrors.Answers.{IsDone}
use Rattle.law_live_ease.proofs.law_live_mirrors.Nodes.{works_plain}
use Rattle.law_live_ease.proofs.law_live_mirrors.Answered.{relieved}
use Rattle.law_live_ease.specs.law_live_bindings.Law.{label_branch, grant_branch}
use Rattle.law_live_ease.specs.law_live_asking.Frames.{IsPlainMessage, greets, answers_none, offers, starts, joins, IsPlainTold}
use Rattle.law_live_ease.proofs.law_live_brought.Telling.{hears_again, acked}
use Rattle.law_live_ease.specs.law_live_joining.Joins.{joined_label, lent_grant}
use Rattle.law_live_ease.proofs.ComingAnswers.{unknown_is, never_home, success_is, offer_caused, start_caused}
use Rattle.law_live_ease.proofs.ComingPorts.{own_labels}
use Rattle.law_live_cut_through.proofs.LabelsTold.{goes_fresh, all_put, all_then}
use Rattle.law_live_cut_through.proofs.LabelsKeeping.{held_label, used_as, held_grant, LabelsGo, labels_same, grants_same, port_itself, HeldStays, held_same, held_then, put_held, plain_keeps}

-- *A controller goes on*, and no change of routes comes to wait
record GoesOn (a b : Acted) : Type 0 where
  keeps : HeldStays a.controller b.controller
  waiting : b.controller.waiting ≡ a.controller.waiting

on_itself : (a : Acted) → GoesOn a a
on_itself a = record { keeps = held_same a.controller a.controller refl; waiting = refl }

on_then : (a b c : Acted) → GoesOn a b → GoesOn b c → GoesOn a c
on_then a b c p q = record { keeps = held_then a.controller b.controller c.controller p.keeps q.keeps; waiting = q.waiting ∙ p.waiting }

own_port : (a : Acted) (q : PortNo) (l : Linked) → linked_at a.controller q ≡ Some l → linked_at a.controller l.setup.port ≡ Some l
own_port a q l found = subst (λ n. at port_key n a.controller.ports ≡ Some l) (sym (at_key port_key q.0 a.controller.ports l found)) found

clears_one : (a : Acted) (q : PortNo) → GoesOn a (clears_port a q)
clears_one a q = by (linked_at a.controller q) refl
  where
    by : (o : Option Linked) → linked_at a.controller q ≡ o → GoesOn a (clears_of a o)
    by None found = on_itself a
    by (Some l) found = on_both (GoesOn a) (may_clear a.controller l) (with_linked a (record l { port = cleared l.port })) a
        (record {
          keeps = put_held a.controller (with_linked a (record l { port = cleared l.port })).controller l (record l { port = cleared l.port }) (own_port a q l found) refl refl
              (record { labels = labels_same (labels_of l.port) (labels_of l.port) refl; grants = grants_same l.port.grants l.port.grants refl });
          waiting = refl;
        }) (on_itself a)

clears_all : (qs : List PortNo) (a : Acted) → GoesOn a (fold clears_port a qs)
clears_all [] a = on_itself a
clears_all (q ∷ qs) a = on_then a (clears_port a q) (fold clears_port (clears_port a q) qs) (clears_one a q) (clears_all qs (clears_port a q))

-- *A join was made*, which is noted alone
module _ (b : Acted) (input from to : End) (to_link : to.port.0 ≢ 0) where
  noted : (o : Option Linked) → linked_at b.controller (port_of_input input to) ≡ o → GoesOn b (works b (λ setup desk w. done setup w (MoveBranch input from to)) o)
  noted None found = on_itself b
  noted (Some l) found = by (to.port.0 == 0)
    where
      joined : Bool → Work
      joined t = if t then begins b l
          else record (begins b l) { actions = Note (Join l.setup.node l.setup.port (number_of_channel input.channel) to.port (number_of_channel to.channel)) ∷ [] }

      by : (t : Bool) → GoesOn b (works_as b l (joined t))
      by true = record {
        keeps = plain_keeps b l (own_port b (port_of_input input to) l found) (joined true) tt (port_itself l.port);
        waiting = (works_plain b l (joined true) tt).waiting;
      }
      by false = record {
        keeps = plain_keeps b l (own_port b (port_of_input input to) l found) (joined false) (tt, tt) (port_itself l.port);
        waiting = (works_plain b l (joined false) (tt, tt)).waiting;
      }

  join_caused : GoesOn b (causes b (MoveBranch input from to))
  join_caused = on_both (GoesOn b) (is_estab b.controller.adjacency.state) (causes_in_estab b (MoveBranch input from to)) b (noted (linked_at b.controller (port_of_input input to)) refl) (on_itself b)

-- *A success*: what is held stays where it does at what that causes
module _ (a : Acted) (message : Message) (s : Standing) (h : IsDone a message s) where
  abbrev Keeps : Acted → Type 0
  Keeps b = HeldStays a.controller b.controller

  abbrev r : Acted
  r = relieved a message s h

  module _ (request : Request) (asks : s.request ≡ request) (never : (input : End) → leads_home input (home_of input) request ≡ false) (caused : Acted) (is_caused : causes r request ≡ caused)
      (goes : GoesOn r caused) where
    clear : GoesOn caused (clears caused)
    clear = clears_all (ports_of caused.controller) caused

    whole : message_comes a message ≡ clears caused
    whole = success_is a message s h request asks never caused is_caused (clear.waiting ∙ (goes.waiting ∙ h.none_waits))

    success_keeps : Keeps (message_comes a message)
    success_keeps = subst Keeps (sym whole) (held_then a.controller caused.controller (clears caused).controller
        (held_then a.controller r.controller caused.controller (held_same a.controller r.controller refl) goes.keeps) clear.keeps)

  join_keeps : (input from to : End) → to.port.0 ≢ 0 → s.request ≡ MoveBranch input from to → Keeps (message_comes a message)
  join_keeps input from to to_link asks = success_keeps (MoveBranch input from to) asks (never_home input from to to_link) (causes r (MoveBranch input from to)) refl (join_caused r input from to to_link)

  module _ (linked : Linked) (session : Session) (found : linked_at a.controller linked.setup.port ≡ Some linked) (working : IsWorking linked.setup (begins a linked) session) where
    -- *A label is offered*, that isn't joined
    module _ (label : Label) (wired : IsWired linked.setup (begins a linked) session label) (unjoined : label.join ≡ None) (asks : s.request ≡ label_branch linked.setup label.number) where
      abbrev offering : Work
      offering = offers_label linked.setup (begins a linked) session label

      abbrev offered : Label
      offered = record label { state = Offered }

      none_held : held_label label ≡ None
      none_held = ap (λ (state : LabelState). if is_offered state then Some (label.flow, label.join) else None) wired.wiring

      none_joined : joined_label offered ≡ None
      none_joined = ap (option_map (λ (output : End). (label.flow, output))) unjoined

      labels_go : LabelsGo (labels_of linked.port) (labels_of offering.port)
      labels_go = all_then held_label joined_label label_number (labels_of linked.port) session.labels (labels_of offering.port)
          (labels_same (labels_of linked.port) session.labels (sym (own_labels linked session working.is_open)))
          (all_put held_label joined_label label_number session.labels label offered wired.held (goes_fresh held_label joined_label (Some label) offered none_held none_joined))

      offer_keeps : Keeps (message_comes a message)
      offer_keeps = success_keeps (label_branch linked.setup label.number) asks (λ input. refl) (works_as r linked offering) (offer_caused a message s h linked session found working label wired) (record {
        keeps = plain_keeps r linked found offering (tt, (tt, tt)) (record { labels = labels_go; grants = grants_same linked.port.grants linked.port.grants refl });
        waiting = (works_plain r linked offering (tt, (tt, tt))).waiting;
      })

    -- *A grant is started*
    module _ (grant : Grant) (in_range : is_in_range linked.setup grant.label ≡ true) (held : at grant_label grant.label linked.port.grants ≡ Some grant) (idle : grant.state ≡ Idle)
        (asks : s.request ≡ grant_branch linked.setup grant.label) where
      abbrev started : Grant
      started = record grant { state = ByController }

      abbrev starting : Work
      starting = left (begins a linked) (record linked.port { grants = put grant_label started linked.port.grants }) []

      none_used : held_grant grant ≡ None
      none_used = ap (λ (state : GrantState). option_map (λ (used : GrantState). (grant.flow, used)) (used_as state)) idle

      start_keeps : Keeps (message_comes a message)
      start_keeps = success_keeps (grant_branch linked.setup grant.label) asks (λ input. refl) (works_as r linked starting) (start_caused a message s h linked session found working grant in_range held idle) (record {
        keeps = plain_keeps r linked found starting tt (record {
          labels = labels_same (labels_of linked.port) (labels_of linked.port) refl;
          grants = all_put held_grant lent_grant grant_label linked.port.grants grant started held (goes_fresh held_grant lent_grant (Some grant) started none_used refl);
        });
        waiting = (works_plain r linked starting tt).waiting;
      })

-- *The whole*, where the controller is in Estab
message_keeps : (a : Acted) (message : Message) → IsPlainMessage a message → HeldStays a.controller (message_comes a message).controller
message_keeps a message (greets switch met) = subst (λ (b : Acted). HeldStays a.controller b.controller) (sym (acked a switch met)) (held_same a.controller (hears_again a).controller refl)
message_keeps a message (answers_none own head is_head is) = subst (λ (b : Acted). HeldStays a.controller b.controller) (sym (unknown_is a own head is_head is))
    (held_same a.controller (takes_answer a Unknown).controller refl)
message_keeps a message (offers own s linked session label h found wired unjoined asks) = offer_keeps a own s h linked session found wired.working label wired unjoined asks
message_keeps a message (starts own s linked session grant h found working in_range held idle asks) = start_keeps a own s h linked session found working grant in_range held idle asks
message_keeps a message (joins own s input from output h labels leads link asks) = join_keeps a own s h input from output link asks

pub told_keeps : (a : Acted) (r : Result Message Fault) → IsPlainTold a r → HeldStays a.controller (gsmp_holds a r).controller
told_keeps a (Err fault) is = held_same a.controller a.controller refl
told_keeps a (Ok message) is = message_keeps a message is
