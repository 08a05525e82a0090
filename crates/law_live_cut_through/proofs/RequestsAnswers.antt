-- and so at what the switch says

use Rattle.std.proofs.Common.{◌≡◌, ◌≢◌, Bool, true, false, List, [], ◌∷◌, fold, Option, None, Some, Result, Ok, Err, refl, sym, ◌∙◌, ap, subst, if◌then◌else◌}
use Rattle.std.specs.Prelude.{◌==◌}
use Rattle.std.specs.Option.{option_map_or}
use Rattle.world_model.specs.Words.{PortNo, End, number_of_channel, Request, MoveBranch, Desk, Standing, leads_home, home_of, at, put, is_in_range, Label, Offered, label_number, labels_of, serves, Grant, Idle, ByController, grant_label, Session, Note, Work, Linked, port_key, linked_at, with_linked, begins, works, works_as, at_port, causes, causes_in_estab, port_of_input, may_clear, clears, clears_of, clears_port, gsmp_holds}
use Rattle.world_model.specs.Controller.{Acted, ports_of}
use Rattle.world_model.specs.Gsmp.{message_comes}
use Rattle.world_model.specs.gsmp_wire.declared.fault.Fault.{Fault}
use Rattle.world_model.specs.gsmp_wire.declared.message.Message.{Message}
use Rattle.world_model.specs.link_model.declared.record.Record.TheVariants.{Join}
use Rattle.world_model.specs.port_model.Answers.{done}
use Rattle.world_model.specs.port_model.Resets.{cleared}
use Rattle.law_live_ease.specs.law_port_facts.ordered_lists.Ordered.{Every}
use Rattle.law_live_ease.proofs.law_port_facts.Keyed.{on_both, at_key}
use Rattle.law_live_ease.specs.law_live_labels.Law.{IsWorking, IsWired, offers_label, left}
use Rattle.law_live_ease.specs.law_live_mirrors.Asking.{IsPlain}
use Rattle.law_live_ease.specs.law_live_mirrors.Answers.{IsDone}
use Rattle.law_live_ease.proofs.law_live_mirrors.Nodes.{Worked, works_plain}
use Rattle.law_live_ease.proofs.law_live_mirrors.Answered.{relieved}
use Rattle.law_live_ease.specs.law_live_bindings.Law.{label_branch, grant_branch}
use Rattle.law_live_ease.specs.law_live_asking.Frames.{IsPlainMessage, greets, answers_none, offers, starts, joins, IsPlainTold}
use Rattle.law_live_ease.proofs.law_live_brought.Telling.{acked}
use Rattle.law_live_ease.proofs.ComingAnswers.{unknown_is, never_home, success_is, offer_caused, start_caused}
use Rattle.law_live_cut_through.proofs.RequestsKeeping.{LabelsChange, stay, change, Keeps, Of, plain_on}

module _ (T : List Linked → Desk → Type 0) (k : Keeps T) where
  -- *It goes on so*, and the same changes of routes wait
  record GoesOn (a b : Acted) : Type 0 where
    on : Of T a → Of T b
    waiting : b.controller.waiting ≡ a.controller.waiting

  worked_on : (a : Acted) (l : Linked) (w : Work) → linked_at a.controller l.setup.port ≡ Some l → Every IsPlain w.actions → LabelsChange (labels_of l.port) (labels_of w.port) → GoesOn a (works_as a l w)
  worked_on a l w there plain labels = by (works_plain a l w plain)
    where
      by : Worked a (works_as a l w) l w.port [] → GoesOn a (works_as a l w)
      by worked = record { on = plain_on T k a l w there plain labels; waiting = worked.waiting }

  -- as ports are cleared
  clears_one : (a : Acted) (q : PortNo) → GoesOn a (clears_port a q)
  clears_one a q = by (linked_at a.controller q) refl
    where
      by : (o : Option Linked) → linked_at a.controller q ≡ o → GoesOn a (clears_of a o)
      by None found = record { on = λ t. t; waiting = refl }
      by (Some l) found = on_both (GoesOn a) (may_clear a.controller l) (with_linked a (record l { port = cleared l.port })) a (record { on = on; waiting = refl }) (record { on = λ t. t; waiting = refl })
        where
          on : T a.controller.ports a.controller.desk → T (put port_key (record l { port = cleared l.port }) a.controller.ports) a.controller.desk
          on = k.labels a.controller.ports a.controller.desk l (record l { port = cleared l.port })
              (subst (λ n. at port_key n a.controller.ports ≡ Some l) (sym (at_key port_key q.0 a.controller.ports l found)) found) refl (stay refl)

  clears_all : (qs : List PortNo) (a : Acted) → GoesOn a (fold clears_port a qs)
  clears_all [] a = record { on = λ t. t; waiting = refl }
  clears_all (q ∷ qs) a = by (clears_one a q) (clears_all qs (clears_port a q))
    where
      by : GoesOn a (clears_port a q) → GoesOn (clears_port a q) (fold clears_port (clears_port a q) qs) → GoesOn a (fold clears_port (clears_port a q) qs)
      by one rest = record { on = λ t. rest.on (one.on t); waiting = rest.waiting ∙ one.waiting }

  -- *A success*
  module _ (a : Acted) (message : Message) (s : Standing) (h : IsDone a message s) where
    abbrev r : Acted
    r = relieved a message s h

    success_on : (request : Request) → s.request ≡ request → ((input : End) → leads_home input (home_of input) request ≡ false) → (caused : Acted) → causes r request ≡ caused
        → GoesOn r caused → Of T a → Of T (message_comes a message)
    success_on request asks never caused is_caused goes t = subst (Of T) (sym (success_is a message s h request asks never caused is_caused (clear.waiting ∙ (goes.waiting ∙ h.none_waits)))) (clear.on (goes.on (k.answer a.controller.ports a.controller.desk s t)))
      where
        clear : GoesOn caused (clears caused)
        clear = clears_all (ports_of caused.controller) caused

    -- *A label is offered*
    offer_on : (linked : Linked) (session : Session) (label : Label) → linked_at a.controller linked.setup.port ≡ Some linked → IsWired linked.setup (begins a linked) session label
        → s.request ≡ label_branch linked.setup label.number → Of T a → Of T (message_comes a message)
    offer_on linked session label found wired asks = success_on (label_branch linked.setup label.number) asks (λ input. refl) (works_as r linked offering) (offer_caused a message s h linked session found wired.working label wired)
        (worked_on r linked offering found (tt, (tt, tt)) (change label offered (ap (at label_number label.number) own_labels ∙ wired.held) refl (ap serves (sym wired.wiring))
        (ap (put label_number offered) (sym own_labels))))
      where
        offering : Work
        offering = offers_label linked.setup (begins a linked) session label

        offered : Label
        offered = record label { state = Offered }

        own_labels : labels_of linked.port ≡ session.labels
        own_labels = ap (λ (o : Option Session). option_map_or (λ (x : Session). x.labels) o []) wired.working.is_open

    -- *A grant is started*
    start_on : (linked : Linked) (session : Session) (grant : Grant) → linked_at a.controller linked.setup.port ≡ Some linked → IsWorking linked.setup (begins a linked) session
        → is_in_range linked.setup grant.label ≡ true → at grant_label grant.label linked.port.grants ≡ Some grant → grant.state ≡ Idle
        → s.request ≡ grant_branch linked.setup grant.label → Of T a → Of T (message_comes a message)
    start_on linked session grant found working in_range held idle asks = success_on (grant_branch linked.setup grant.label) asks (λ input. refl) (works_as r linked starting) (start_caused a message s h linked session found working grant in_range held idle)
        (worked_on r linked starting found tt (stay refl))
      where
        starting : Work
        starting = left (begins a linked) (record linked.port { grants = put grant_label (record grant { state = ByController }) linked.port.grants }) []

    -- *A join is made*
    join_on : (input from output : End) → output.port.0 ≢ 0 → s.request ≡ MoveBranch input from output → Of T a → Of T (message_comes a message)
    join_on input from output away asks = success_on (MoveBranch input from output) asks (never_home input from output away) (at_port r (port_of_input input output) (λ setup desk w. done setup w (MoveBranch input from output)))
        (ap (λ (t : Bool). if t then causes_in_estab r (MoveBranch input from output) else r) h.up) (by (linked_at a.controller (port_of_input input output)) refl)
      where
        plain : (l : Linked) (t : Bool) → (let w : Work = if t then begins a l else record (begins a l) { actions = Note (Join l.setup.node l.setup.port (number_of_channel input.channel) output.port (number_of_channel output.channel)) ∷ [] } in
            Every IsPlain w.actions × LabelsChange (labels_of l.port) (labels_of w.port))
        plain l true = (tt, stay refl)
        plain l false = ((tt, tt), stay refl)

        by : (o : Option Linked) → linked_at a.controller (port_of_input input output) ≡ o → GoesOn r (works r (λ setup desk w. done setup w (MoveBranch input from output)) o)
        by None found = record { on = λ t. t; waiting = refl }
        by (Some l) found = worked_on r l (done l.setup (begins a l) (MoveBranch input from output))
            (subst (λ n. at port_key n a.controller.ports ≡ Some l) (sym (at_key port_key (port_of_input input output).0 a.controller.ports l found)) found)
            (plain l (output.port.0 == 0)).0 (plain l (output.port.0 == 0)).1

  -- *The whole*
  message_on : (a : Acted) (message : Message) → IsPlainMessage a message → Of T a → Of T (message_comes a message)
  message_on a message (greets switch met) t = subst (Of T) (sym (acked a switch met)) t
  message_on a message (answers_none own head is_answer is) t = subst (Of T) (sym (unknown_is a own head is_answer is)) t
  message_on a message (offers own s linked session label h found wired unjoined asks) t = offer_on a own s h linked session label found wired asks t
  message_on a message (starts own s linked session grant h found working in_range held idle asks) t = start_on a own s h linked session grant found working in_range held idle asks t
  message_on a message (joins own s input from output h labels leads link asks) t = join_on a own s h input from output link asks t

  pub told_on : (a : Acted) (r : Result Message Fault) → IsPlainTold a r → Of T a → Of T (gsmp_holds a r)
  told_on a (Err fault) is t = t
  told_on a (Ok message) is t = message_on a message is t
