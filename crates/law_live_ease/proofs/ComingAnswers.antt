-- what the switch says leaves desk and ports tied

use Rattle.std.proofs.Common.{◌≡◌, ◌≢◌, ◌⊎◌, inl, inr, ℕ, Bool, true, false, true≢false, List, [], ◌∷◌, fold, Option, None, Some, Result, Ok, Err, refl, sym, ◌∙◌, ap, subst, arith, if◌then◌else◌}
use Rattle.std.specs.Prelude.{Contains, ◌&&◌, ◌==◌, nat_eq}
use Rattle.std.proofs.lemmas.Bool.Decides.{nat_tests}
use Rattle.world_model.specs.Words.{PortNo, End, RouteChange, number_of_channel, same_end, Request, MoveBranch, Standing, Unknown, Done, answered, Head, head_of, without_request, leads_home, label_end, control_end, home_of, at, put, is_in_range, Label, Offered, label_number, labels_of, Grant, Idle, ByController, grant_label, Session, Note, Work, Linked, port_key, linked_at, with_linked, begins, works, works_as, at_port, causes, causes_in_estab, port_of_input, may_clear, clears, clears_of, clears_port, takes_changes, takes_each, takes_answer, gsmp_holds}
use Rattle.world_model.specs.gsmp_wire.declared.fault.Fault.{Fault}
use Rattle.world_model.specs.gsmp_wire.declared.message.Message.{Message}
use Rattle.world_model.specs.gsmp_wire.declared.message.Message.TheVariants.{Adjacency, Branch, Move, Port, AllPorts}
use Rattle.world_model.specs.link_model.declared.record.Record.TheVariants.{Join}
use Rattle.world_model.specs.port_model.Answers.{done}
use Rattle.world_model.specs.port_model.Port as ports
use Rattle.world_model.specs.port_model.Resets.{cleared}
use Rattle.world_model.specs.Controller.{Acted, ports_of}
use Rattle.world_model.specs.Gsmp.{message_comes}
use Rattle.world_model.specs.Meeting.{takes_success}
use Rattle.law_live_journeys.specs.law_port_facts.ordered_lists.Ordered.{Every}
use Rattle.law_live_journeys.proofs.law_port_facts.ordered_lists.Every.{every_map}
use Rattle.law_live_journeys.proofs.law_port_facts.Keyed.{on_both, at_key}
use Rattle.law_live_journeys.specs.law_input_steps.Asking.{concerns}
use Rattle.law_live_journeys.proofs.law_input_steps.Ends.{same_self}
use Rattle.law_live_journeys.proofs.law_run_facts.Numbers.{some_of}
use Rattle.law_live_journeys.specs.law_live_labels.Law.{IsWorking, IsWired, offers_label, left}
use Rattle.law_live_journeys.proofs.law_live_labels.Agreed.{labels_are_offered, grants_are_started}
use Rattle.law_live_journeys.specs.law_live_mirrors.Asking.{IsPlain}
use Rattle.law_live_journeys.specs.law_live_mirrors.Answers.{IsDone}
use Rattle.law_live_journeys.proofs.law_live_mirrors.Nodes.{Worked, works_plain, at_port_is}
use Rattle.law_live_journeys.proofs.law_live_mirrors.Answered.{relieved, released_none}
use Rattle.law_live_journeys.specs.law_live_bindings.Law.{label_branch, grant_branch}
use Rattle.law_live_journeys.specs.law_live_asking.Frames.{IsPlainMessage, greets, answers_none, offers, starts, joins, IsPlainTold}
use Rattle.law_live_journeys.proofs.law_live_brought.Telling.{acked}
use Rattle.law_live_ease.proofs.ComingOwed.{Wires, Idles, Owes, of_label, of_grant, Tie, same_labels, same_grants, label_not_grant, grant_not_label}
use Rattle.law_live_ease.proofs.ComingSteps.{tied_alike, tied_answered, tied_joined}
use Rattle.law_live_ease.proofs.ComingChanges.{has_gone, had_gone, owed_or, owed_apart, other_label, other_grant}
use Rattle.law_live_ease.proofs.ComingPorts.{TieOf, tie_by, plain_ties, same_alike, from_session, to_session}

-- *An answer to nothing* is taken as one
pub unknown_is : (a : Acted) (message : Message) (head : Head) → head_of message ≡ Some head → answered a.controller.desk message ≡ Unknown → message_comes a message ≡ takes_answer a Unknown
unknown_is a (Adjacency greeting) head is_answer is = absurd (cc is_answer)
unknown_is a (Branch kind result code transaction session input_port input output_port output branches priority) head is_answer is = ap (takes_answer a) is
unknown_is a (Move result code transaction session input_port input output_port output target_port target branches priority) head is_answer is = ap (takes_answer a) is
unknown_is a (Port result code transaction port session function) head is_answer is = ap (takes_answer a) is
unknown_is a (AllPorts result code transaction rows) head is_answer is = ap (takes_answer a) is

-- *Ports are cleared*, and no change of routes waits
record Clears (a b : Acted) : Type 0 where
  ties : TieOf a → TieOf b
  waiting : b.controller.waiting ≡ a.controller.waiting

clears_one : (a : Acted) (q : PortNo) → Clears a (clears_port a q)
clears_one a q = by (linked_at a.controller q) refl
  where
    by : (o : Option Linked) → linked_at a.controller q ≡ o → Clears a (clears_of a o)
    by None found = record { ties = λ tie. tie; waiting = refl }
    by (Some l) found = on_both (Clears a) (may_clear a.controller l) (with_linked a (record l { port = cleared l.port })) a (record { ties = ties; waiting = refl }) (record { ties = λ tie. tie; waiting = refl })
      where
        ties : TieOf a → Tie (put port_key (record l { port = cleared l.port }) a.controller.ports) a.controller.desk
        ties = tied_alike a.controller.ports a.controller.desk l (record l { port = cleared l.port })
            (subst (λ n. at port_key n a.controller.ports ≡ Some l) (sym (at_key port_key q.0 a.controller.ports l found)) found) refl ((λ request is. is), (λ request is. is))

clears_all : (qs : List PortNo) (a : Acted) → Clears a (fold clears_port a qs)
clears_all [] a = record { ties = λ tie. tie; waiting = refl }
clears_all (q ∷ qs) a = by (clears_one a q) (clears_all qs (clears_port a q))
  where
    by : Clears a (clears_port a q) → Clears (clears_port a q) (fold clears_port (clears_port a q) qs) → Clears a (fold clears_port (clears_port a q) qs)
    by one rest = record { ties = λ tie. rest.ties (one.ties tie); waiting = rest.waiting ∙ one.waiting }

changes_none : (x : Acted) → x.controller.waiting ≡ [] → takes_changes x ≡ x
changes_none x none = by x.controller.has_met
  where
    by : (t : Bool) → (if t then takes_each x x.controller.waiting else x) ≡ x
    by true = ap (λ (changes : List RouteChange). takes_each x changes) none
    by false = refl

not_zero : (n : ℕ) → (n == 0) ≡ false → n ≢ 0
not_zero n is e = absurd (true≢false (sym (zero n e) ∙ is))
  where
    zero : (n : ℕ) → n ≡ 0 → (n == 0) ≡ true
    zero n e = grind (arith, nat_tests)

is_zero : (n : ℕ) → n ≢ 0 → (n == 0) ≡ false
is_zero n e = grind (arith, nat_tests)

-- *A join never leads home*
pub never_home : (input from output : End) → output.port.0 ≢ 0 → (e : End) → leads_home e (home_of e) (MoveBranch input from output) ≡ false
never_home input from output away e = apart (same_end input e) (output.port.0 == 0) (is_zero output.port.0 away)
  where
    apart : (x y : Bool) → y ≡ false → (x && (y && (nat_eq output.channel.vpi (home_of e).channel.vpi && nat_eq output.channel.vci (home_of e).channel.vci))) ≡ false
    apart true true is = absurd (cc is)
    apart true false is = refl
    apart false y is = refl

-- *A success* comes to what it causes
module _ (a : Acted) (message : Message) (s : Standing) (h : IsDone a message s) where
  abbrev r : Acted
  r = relieved a message s h

  comes_is : (x : Message) → answered a.controller.desk x ≡ Done s → message_comes a x ≡ takes_success r s.request
  comes_is (Adjacency greeting) is = absurd (cc is)
  comes_is (Branch kind result code transaction session input_port input output_port output branches priority) is = ap (takes_answer a) is
  comes_is (Move result code transaction session input_port input output_port output target_port target branches priority) is = ap (takes_answer a) is
  comes_is (Port result code transaction port session function) is = ap (takes_answer a) is
  comes_is (AllPorts result code transaction rows) is = ap (takes_answer a) is

  pub success_is : (request : Request) → s.request ≡ request → ((input : End) → leads_home input (home_of input) request ≡ false) → (caused : Acted) → causes r request ≡ caused
      → (clears caused).controller.waiting ≡ [] → message_comes a message ≡ clears caused
  success_is request asks never caused is_caused none_waits = comes_is message h.answers
      ∙ (ap (takes_success r) asks
      ∙ (ap (λ (x : Acted). takes_changes (clears (causes x request))) (released_none r h.unspent request never)
      ∙ (ap (λ (x : Acted). takes_changes (clears x)) is_caused
      ∙ changes_none (clears caused) none_waits)))

  module _ (linked : Linked) (session : Session) (found : linked_at a.controller linked.setup.port ≡ Some linked) (working : IsWorking linked.setup (begins a linked) session) where
    -- a label is offered
    pub offer_caused : (label : Label) → IsWired linked.setup (begins a linked) session label
        → causes r (label_branch linked.setup label.number) ≡ works_as r linked (offers_label linked.setup (begins a linked) session label)
    offer_caused label wired = ap (λ (t : Bool). if t then causes_in_estab r (label_branch linked.setup label.number) else r) h.up
        ∙ (ap (λ (t : Bool). at_port r (if t then (control_end linked.setup.port label.number).port else linked.setup.port) (λ setup desk w. done setup w (label_branch linked.setup label.number))) working.of_link
        ∙ (at_port_is r linked.setup.port (λ setup desk w. done setup w (label_branch linked.setup label.number)) linked found
        ∙ ap (works_as r linked) (labels_are_offered linked.setup (begins a linked) session label wired)))

    -- and a grant is started
    pub start_caused : (grant : Grant) → is_in_range linked.setup grant.label ≡ true → at grant_label grant.label linked.port.grants ≡ Some grant → grant.state ≡ Idle
        → causes r (grant_branch linked.setup grant.label)
        ≡ works_as r linked (left (begins a linked) (record linked.port { grants = put grant_label (record grant { state = ByController }) linked.port.grants }) [])
    start_caused grant in_range held idle = ap (λ (t : Bool). if t then causes_in_estab r (grant_branch linked.setup grant.label) else r) h.up
        ∙ (at_port_is r linked.setup.port (λ setup desk w. done setup w (grant_branch linked.setup grant.label)) linked found
        ∙ ap (works_as r linked) (grants_are_started linked.setup (begins a linked) session grant working in_range held idle))

-- *It leaves them tied* where that does
module _ (a : Acted) (message : Message) (s : Standing) (h : IsDone a message s) where
  abbrev relieved_now : Acted
  relieved_now = relieved a message s h

  success_ties : (request : Request) → s.request ≡ request → ((input : End) → leads_home input (home_of input) request ≡ false) → (caused : Acted) → causes relieved_now request ≡ caused
      → caused.controller.waiting ≡ a.controller.waiting → TieOf caused → TieOf (message_comes a message)
  success_ties request asks never caused is_caused waiting tie =
      subst TieOf (sym (success_is a message s h request asks never caused is_caused (clear.waiting ∙ (waiting ∙ h.none_waits)))) (clear.ties tie)
    where
      clear : Clears caused (clears caused)
      clear = clears_all (ports_of caused.controller) caused

  -- what is answered stood alone
  alone_by : (input : End) → concerns input s.request ≡ true → Every (λ (x : Standing). x.request ≡ s.request → x ≡ s) a.controller.desk.standing
  alone_by input on = every_map (λ (x : Standing). concerns input x.request ≡ true → x ≡ s) (λ (x : Standing). x.request ≡ s.request → x ≡ s) a.controller.desk.standing
      (λ x alone same. alone (ap (concerns input) same ∙ on)) (h.alone.inputs input on)

  numbers : (x : Standing) → Contains a.controller.desk.standing x → x.number ≡ s.number → x ≡ s
  numbers x has = some_of (λ (y : Standing). y.number ≡ s.number → y ≡ s) a.controller.desk.standing x h.alone.number has

  module _ (linked : Linked) (session : Session) (found : linked_at a.controller linked.setup.port ≡ Some linked) (working : IsWorking linked.setup (begins a linked) session) (tie : TieOf a) where
    link : linked.setup.port.0 ≢ 0
    link = not_zero linked.setup.port.0 working.of_link

    -- *A label is offered*
    module _ (label : Label) (wired : IsWired linked.setup (begins a linked) session label) (asks : s.request ≡ label_branch linked.setup label.number) where
      abbrev offering : Work
      offering = offers_label linked.setup (begins a linked) session label

      abbrev offered : Label
      offered = record label { state = Offered }

      abbrev with_offered : Linked
      with_offered = record linked { port = offering.port }

      offer_forth : (request : Request) → Owes linked request → Owes with_offered request ⊎ (request ≡ s.request)
      offer_forth request is = elim (owed_or linked.setup (labels_of linked.port) (labels_of offering.port) linked.port.grants offering.port.grants (label_branch linked.setup label.number)
          (λ k has. elim (has_gone label_number Wires offered session.labels label wired.held k (from_session linked session working.is_open k has)) [
            | inl still ↦ inl still
            | inr same ↦ inr (ap (label_branch linked.setup) same)
          ]) (λ k has. inl has) request is) [
            | inl still ↦ inl still
            | inr same ↦ inr (same ∙ sym asks)
          ]

      never : Wires offered → ⊥
      never e = absurd (cc e)

      offer_back : (request : Request) → Owes with_offered request → Owes linked request × (request ≡ s.request → ⊥)
      offer_back request is = (let both : Owes linked request × (request ≡ label_branch linked.setup label.number → ⊥) =
          owed_apart linked.setup (labels_of offering.port) (labels_of linked.port) offering.port.grants linked.port.grants (label_branch linked.setup label.number)
          (λ k has. (
            to_session linked session working.is_open k (had_gone label_number Wires offered session.labels label wired.held never k has).0,
            λ e. (had_gone label_number Wires offered session.labels label wired.held never k has).1 (same_labels linked.setup linked.setup k label.number e).number,
          ))
          (λ k has. (has, λ e. grant_not_label linked.setup linked.setup k label.number link e)) request is in (both.0, λ e. both.1 (e ∙ asks)))

      on_itself : concerns (label_end linked.setup.port label.number) s.request ≡ true
      on_itself = ap (concerns (label_end linked.setup.port label.number)) asks ∙ same_self (label_end linked.setup.port label.number)

      offer_tie : Tie (put port_key with_offered a.controller.ports) (without_request a.controller.desk s)
      offer_tie = tied_answered a.controller.desk s (alone_by (label_end linked.setup.port label.number) on_itself) a.controller.ports linked with_offered found refl numbers offer_forth offer_back
          (λ l request apart is e. other_label l.setup linked.setup apart link (labels_of l.port) l.port.grants label.number request is (e ∙ asks)) tie

      offer_ties : TieOf (message_comes a message)
      offer_ties = by (works_plain relieved_now linked offering (tt, (tt, tt)))
        where
          by : Worked relieved_now (works_as relieved_now linked offering) linked offering.port [] → TieOf (message_comes a message)
          by worked = success_ties (label_branch linked.setup label.number) asks (λ input. refl) (works_as relieved_now linked offering) (offer_caused a message s h linked session found working label wired) worked.waiting
              (tie_by (works_as relieved_now linked offering) (put port_key with_offered a.controller.ports) (without_request a.controller.desk s) worked.ports worked.desk offer_tie)

    -- *A grant is started*
    module _ (grant : Grant) (in_range : is_in_range linked.setup grant.label ≡ true) (held : at grant_label grant.label linked.port.grants ≡ Some grant) (idle : grant.state ≡ Idle)
        (asks : s.request ≡ grant_branch linked.setup grant.label) where
      abbrev started : Grant
      started = record grant { state = ByController }

      abbrev starting : Work
      starting = left (begins a linked) (record linked.port { grants = put grant_label started linked.port.grants }) []

      abbrev with_started : Linked
      with_started = record linked { port = starting.port }

      start_forth : (request : Request) → Owes linked request → Owes with_started request ⊎ (request ≡ s.request)
      start_forth request is = elim (owed_or linked.setup (labels_of linked.port) (labels_of starting.port) linked.port.grants starting.port.grants (grant_branch linked.setup grant.label)
          (λ k has. inl has) (λ k has. elim (has_gone grant_label Idles started linked.port.grants grant held k has) [
            | inl still ↦ inl still
            | inr same ↦ inr (ap (grant_branch linked.setup) same)
          ]) request is) [
            | inl still ↦ inl still
            | inr same ↦ inr (same ∙ sym asks)
          ]

      never_idle : Idles started → ⊥
      never_idle e = absurd (cc e)

      start_back : (request : Request) → Owes with_started request → Owes linked request × (request ≡ s.request → ⊥)
      start_back request is = (let both : Owes linked request × (request ≡ grant_branch linked.setup grant.label → ⊥) =
          owed_apart linked.setup (labels_of starting.port) (labels_of linked.port) starting.port.grants linked.port.grants (grant_branch linked.setup grant.label)
          (λ k has. (has, λ e. label_not_grant linked.setup linked.setup k grant.label link e))
          (λ k has. (
            (had_gone grant_label Idles started linked.port.grants grant held never_idle k has).0,
            λ e. (had_gone grant_label Idles started linked.port.grants grant held never_idle k has).1 (same_grants linked.setup linked.setup k grant.label e).number,
          )) request is in
          (both.0, λ e. both.1 (e ∙ asks)))

      start_on : concerns (control_end linked.setup.port grant.label) s.request ≡ true
      start_on = ap (concerns (control_end linked.setup.port grant.label)) asks ∙ same_self (control_end linked.setup.port grant.label)

      start_tie : Tie (put port_key with_started a.controller.ports) (without_request a.controller.desk s)
      start_tie = tied_answered a.controller.desk s (alone_by (control_end linked.setup.port grant.label) start_on) a.controller.ports linked with_started found refl numbers start_forth start_back
          (λ l request apart is e. other_grant l.setup linked.setup apart link (labels_of l.port) l.port.grants grant.label request is (e ∙ asks)) tie

      start_ties : TieOf (message_comes a message)
      start_ties = by (works_plain relieved_now linked starting tt)
        where
          by : Worked relieved_now (works_as relieved_now linked starting) linked starting.port [] → TieOf (message_comes a message)
          by worked = success_ties (grant_branch linked.setup grant.label) asks (λ input. refl) (works_as relieved_now linked starting) (start_caused a message s h linked session found working grant in_range held idle) worked.waiting
              (tie_by (works_as relieved_now linked starting) (put port_key with_started a.controller.ports) (without_request a.controller.desk s) worked.ports worked.desk start_tie)

  -- *A join is made*
  module _ (input from output : End) (away : output.port.0 ≢ 0) (asks : s.request ≡ MoveBranch input from output) (tie : TieOf a) where
    not_owed : (l : Linked) (request : Request) → Owes l request → request ≡ MoveBranch input from output → ⊥
    not_owed l _ (of_label k has) e = cc e
    not_owed l _ (of_grant k has) e = cc e

    on_input : concerns input s.request ≡ true
    on_input = ap (concerns input) asks ∙ same_self input

    join_tie : TieOf relieved_now
    join_tie = tied_joined a.controller.desk s (alone_by input on_input) a.controller.ports numbers (λ l request is e. not_owed l request is (e ∙ asks)) tie

    record Noted (after : Acted) : Type 0 where
      ties : TieOf after
      waiting : after.controller.waiting ≡ a.controller.waiting

    noted : Noted (at_port relieved_now (port_of_input input output) (λ setup desk w. done setup w (MoveBranch input from output)))
    noted = by (linked_at a.controller (port_of_input input output)) refl
      where
        plain : (l : Linked) (t : Bool) → (let w : Work = if t then begins a l else record (begins a l) { actions = Note (Join l.setup.node l.setup.port (number_of_channel input.channel) output.port (number_of_channel output.channel)) ∷ [] } in
            Every IsPlain w.actions × (w.port ≡ l.port))
        plain l true = (tt, refl)
        plain l false = ((tt, tt), refl)

        worked : (l : Linked) (w : Work) → linked_at a.controller l.setup.port ≡ Some l → Every IsPlain w.actions → w.port ≡ l.port → Worked relieved_now (works_as relieved_now l w) l w.port [] → Noted (works_as relieved_now l w)
        worked l w there is same done_so = record {
          ties = plain_ties relieved_now l w there is (same_alike l w (ap labels_of same) (ap (λ (p : ports.Port). p.grants) same)) join_tie;
          waiting = done_so.waiting;
        }

        by : (o : Option Linked) → linked_at a.controller (port_of_input input output) ≡ o → Noted (works relieved_now (λ setup desk w. done setup w (MoveBranch input from output)) o)
        by None found = record { ties = join_tie; waiting = refl }
        by (Some l) found = worked l (done l.setup (begins a l) (MoveBranch input from output))
            (subst (λ n. at port_key n a.controller.ports ≡ Some l) (sym (at_key port_key (port_of_input input output).0 a.controller.ports l found)) found)
            (plain l (output.port.0 == 0)).0 (plain l (output.port.0 == 0)).1 (works_plain relieved_now l (done l.setup (begins a l) (MoveBranch input from output)) (plain l (output.port.0 == 0)).0)

    join_ties : TieOf (message_comes a message)
    join_ties = success_ties (MoveBranch input from output) asks (never_home input from output away) (at_port relieved_now (port_of_input input output) (λ setup desk w. done setup w (MoveBranch input from output)))
        (ap (λ (t : Bool). if t then causes_in_estab relieved_now (MoveBranch input from output) else relieved_now) h.up) noted.waiting noted.ties

-- *The whole*
message_ties : (a : Acted) (message : Message) → IsPlainMessage a message → TieOf a → TieOf (message_comes a message)
message_ties a message (greets switch met) tie = subst TieOf (sym (acked a switch met)) tie
message_ties a message (answers_none own head is_answer is) tie = subst TieOf (sym (unknown_is a own head is_answer is)) tie
message_ties a message (offers own s linked session label h found wired unjoined asks) tie = offer_ties a own s h linked session found wired.working tie label wired asks
message_ties a message (starts own s linked session grant h found working in_range held idle asks) tie = start_ties a own s h linked session found working tie grant in_range held idle asks
message_ties a message (joins own s input from output h labels leads link asks) tie = join_ties a own s h input from output link asks tie

pub told_ties : (a : Acted) (r : Result Message Fault) → IsPlainTold a r → TieOf a → TieOf (gsmp_holds a r)
told_ties a (Err fault) is tie = tie
told_ties a (Ok message) is tie = message_ties a message is tie
