-- the branch of a label, of a grant and of a join is made

use Rattle.std.proofs.Common.{◌≡◌, ◌≢◌, ℕ, Bool, true, false, true≢false, List, [], ◌∷◌, Option, None, Some, refl, sym, ◌∙◌, ap, subst, inr, arith, if◌then◌else◌}
use Rattle.std.specs.Prelude.{◌==◌, ◌&&◌, nat_le, nat_eq}
use Rattle.std.specs.Option.{option_map_or, option_or}
use Rattle.std.proofs.lemmas.Bool.Decides.{nat_tests}
use Rattle.world_model.specs.Words.{End, Channel, is_label_channel, is_label_number, label_channel_of, label_number_of, number_of_channel, same_end, Request, AddBranch, MoveBranch, at, put, Standing, leads_home, label_end, control_end, home_of, is_in_range, Label, Offered, label_number, Grant, Idle, ByController, grant_label, Session, Work, Note, Linked, port_key, linked_at, begins, works, works_as, at_port, causes, causes_in_estab, port_of_input, port_on, on_link}
use Rattle.world_model.specs.gsmp_wire.declared.message.Message.{Message}
use Rattle.world_model.specs.link_model.declared.record.Record.TheVariants.{Join}
use Rattle.world_model.specs.port_model.Answers.{done}
use Rattle.world_model.specs.Controller.{Acted}
use Rattle.world_model.specs.Gsmp.{message_comes}
use Rattle.law_port_facts.specs.ordered_lists.Ordered.{Every}
use Rattle.law_port_facts.proofs.Keyed.{at_key, at_put_same}
use Rattle.law_input_steps.specs.Asking.{concerns}
use Rattle.law_input_steps.proofs.Ends.{same_is, same_self}
use Rattle.law_live_labels.specs.Law.{IsWorking, IsWired, offers_label, left}
use Rattle.law_live_labels.proofs.Agreed.{labels_are_offered, grants_are_started}
use Rattle.law_live_mirrors.specs.Mirrors.{leads_to, is_labels, led_by, label_leads, other_end, IsHeld}
use Rattle.law_live_mirrors.specs.Standing.{LeadAlike}
use Rattle.law_live_mirrors.specs.Asking.{IsPlain}
use Rattle.law_live_mirrors.specs.Answers.{IsDone, HearsMirrored, OffersKeepMirrors, StartsKeepMirrors, JoinsKeepMirrors}
use Rattle.law_live_mirrors.proofs.Desks.{held_alike}
use Rattle.law_live_mirrors.proofs.Ports.{leads_by, is_out, grant_out, put_alike, put_label_leads, alike_itself, label_of, one_channel, labels_channel, labels_port, end_is, number_again, is_labels_end, other_of_control, control_is, relabelled, regranted}
use Rattle.law_live_mirrors.proofs.Nodes.{Worked, works_plain, at_port_is}
use Rattle.law_live_mirrors.proofs.Answered.{relieved, success_mirrors}

first_of : (x y : Bool) → (x && y) ≡ true → x ≡ true
first_of true y e = refl
first_of false y e = absurd (cc e)

not_zero : (n : ℕ) → (n == 0) ≡ false → n ≢ 0
not_zero n is e = absurd (true≢false (sym (zero n e) ∙ is))
  where
    zero : (n : ℕ) → n ≡ 0 → (n == 0) ≡ true
    zero n e = grind (arith, nat_tests)

-- the channel of a label's number
channel_of_number : (c : Channel) (number : ℕ) → label_number_of c ≡ Some number → c ≡ label_channel_of number
channel_of_number c number e = by (is_label_channel c) refl e
  where
    one : (x y : ℕ) → Some x ≡ Some y → x ≡ y
    one x y e = cc

    by : (t : Bool) → is_label_channel c ≡ t → (if t then Some (number_of_channel c) else None) ≡ Some number → c ≡ label_channel_of number
    by true is e = sym (label_of c is) ∙ ap label_channel_of (one (number_of_channel c) number e)
    by false is e = absurd (cc e)

-- *A label is offered*
module _ (a : Acted) (message : Message) (s : Standing) (linked : Linked) (session : Session) (label : Label) (h : IsDone a message s)
    (found : linked_at a.controller linked.setup.port ≡ Some linked) (wired : IsWired linked.setup (begins a linked) session label) (unjoined : label.join ≡ None) where
  abbrev offering : Work
  offering = offers_label linked.setup (begins a linked) session label

  abbrev offered : Label
  offered = record label { state = Offered }

  abbrev label_input : End
  label_input = label_end linked.setup.port label.number

  abbrev offer_request : Request
  offer_request = AddBranch label_input (control_end linked.setup.port label.number)

  label_is_number : is_label_number label.number ≡ true
  label_is_number = first_of (is_label_number label.number) (nat_le linked.setup.least label.number && nat_le label.number linked.setup.greatest) wired.in_range

  abbrev offered_node : Acted
  offered_node = works_as (relieved a message s h) linked offering

  offer_caused : causes (relieved a message s h) offer_request ≡ offered_node
  offer_caused = ap (λ (t : Bool). if t then causes_in_estab (relieved a message s h) offer_request else relieved a message s h) h.up
      ∙ (ap (λ (t : Bool). at_port (relieved a message s h) (if t then (control_end linked.setup.port label.number).port else linked.setup.port) (λ setup desk w. done setup w offer_request)) wired.working.of_link
      ∙ (at_port_is (relieved a message s h) linked.setup.port (λ setup desk w. done setup w offer_request) linked found
      ∙ ap (works_as (relieved a message s h) linked) (labels_are_offered linked.setup (begins a linked) session label wired)))

  offer_worked : Worked (relieved a message s h) offered_node linked offering.port []
  offer_worked = works_plain (relieved a message s h) linked offering (tt, (tt, tt))

  session_leads : (input : End) → leads_by input linked.port ≡ led_by input (at label_number (number_of_channel input.channel) session.labels)
  session_leads input = ap (λ (o : Option Session). led_by input (at label_number (number_of_channel input.channel) (option_map_or (λ (x : Session). x.labels) o []))) wired.working.is_open

  offer_alike : (input : End) → concerns input offer_request ≡ false → LeadAlike a.controller.ports offered_node.controller.ports input
  offer_alike input away = subst (λ (ports : List Linked). LeadAlike a.controller.ports ports input) (sym offer_worked.ports)
      (put_alike a.controller.ports linked found offering.port input
      (λ same is. relabelled input label offered session.labels (number_of_channel input.channel) wired.held (λ own. absurd (itself same is own)) ∙ sym (session_leads input))
      (λ same. refl))
    where
      itself : input.port.0 ≡ linked.setup.port.0 → is_labels input ≡ true → label.number ≡ number_of_channel input.channel → ⊥
      itself same is own = true≢false (sym (subst (λ (e : End). same_end e label_input ≡ true) (sym (end_is input label_input same
          (one_channel input.channel (label_channel_of label.number) (labels_channel input is) label_is_number (sym own ∙ sym (number_again label.number))))) (same_self label_input)) ∙ away)

  offered_leads : label_leads offered_node.controller.ports label_input ≡ Some (control_end linked.setup.port label.number)
  offered_leads = ap (λ (ports : List Linked). label_leads ports label_input) offer_worked.ports
      ∙ (put_label_leads a.controller.ports linked found offering.port label_input refl
      ∙ (ap (λ n. led_by label_input (at label_number n (put label_number offered session.labels))) (number_again label.number)
      ∙ (ap (led_by label_input) (at_put_same label_number offered session.labels label wired.held)
      ∙ ap (λ (o : Option End). option_or o (Some (home_of label_input))) unjoined)))

  offer_held : (input : End) → concerns input offer_request ≡ true → IsHeld offered_node.controller.ports input (leads_to offer_request)
  offer_held input on = subst (λ (e : End). IsHeld offered_node.controller.ports e (leads_to offer_request)) (sym (same_is input label_input on)) (record {
    label = λ is. sym offered_leads;
    other = λ is. absurd (true≢false (sym (is_labels_end linked.setup.port label.number (not_zero linked.setup.port.0 wired.working.of_link) label_is_number) ∙ is));
    grant = λ is. absurd (true≢false (sym is ∙ ap (λ (t : Bool). t && out) wired.working.of_link));
  })
    where
      out : Bool
      out = grant_out offered_node.controller.ports label_input

  offer_mirrors : s.request ≡ offer_request → HearsMirrored a (message_comes a message) s
  offer_mirrors asks = success_mirrors a message s h offer_request asks (λ input. refl) offered_node offer_caused offer_worked.desk offer_worked.waiting offer_held offer_alike

pub offers_keep_mirrors : OffersKeepMirrors
offers_keep_mirrors a message s linked session label h found wired unjoined asks = offer_mirrors a message s linked session label h found wired unjoined asks

-- *A grant is started*
module _ (a : Acted) (message : Message) (s : Standing) (linked : Linked) (session : Session) (grant : Grant) (h : IsDone a message s)
    (found : linked_at a.controller linked.setup.port ≡ Some linked) (working : IsWorking linked.setup (begins a linked) session) (in_range : is_in_range linked.setup grant.label ≡ true)
    (held : at grant_label grant.label linked.port.grants ≡ Some grant) (idle : grant.state ≡ Idle) where
  abbrev begun_grant : Grant
  begun_grant = record grant { state = ByController }

  abbrev starting : Work
  starting = left (begins a linked) (record linked.port { grants = put grant_label begun_grant linked.port.grants }) []

  abbrev grant_input : End
  grant_input = control_end linked.setup.port grant.label

  abbrev start_request : Request
  start_request = AddBranch grant_input (label_end linked.setup.port grant.label)

  grant_is_number : is_label_number grant.label ≡ true
  grant_is_number = first_of (is_label_number grant.label) (nat_le linked.setup.least grant.label && nat_le grant.label linked.setup.greatest) in_range

  abbrev started_node : Acted
  started_node = works_as (relieved a message s h) linked starting

  start_caused : causes (relieved a message s h) start_request ≡ started_node
  start_caused = ap (λ (t : Bool). if t then causes_in_estab (relieved a message s h) start_request else relieved a message s h) h.up
      ∙ (at_port_is (relieved a message s h) linked.setup.port (λ setup desk w. done setup w start_request) linked found
      ∙ ap (works_as (relieved a message s h) linked) (grants_are_started linked.setup (begins a linked) session grant working in_range held idle))

  start_worked : Worked (relieved a message s h) started_node linked starting.port []
  start_worked = works_plain (relieved a message s h) linked starting tt

  start_alike : (input : End) → concerns input start_request ≡ false → LeadAlike a.controller.ports started_node.controller.ports input
  start_alike input away = subst (λ (ports : List Linked). LeadAlike a.controller.ports ports input) (sym start_worked.ports)
      (put_alike a.controller.ports linked found starting.port input (λ same is. refl)
      (λ same. regranted grant begun_grant linked.port.grants (label_number_of (other_end input).channel) held (λ own. absurd (itself same own))))
    where
      far : (other_end input).port.0 ≡ linked.setup.port.0 → label_number_of (other_end input).channel ≡ Some grant.label → other_end input ≡ label_end linked.setup.port grant.label
      far same own = end_is (other_end input) (label_end linked.setup.port grant.label) same (channel_of_number (other_end input).channel grant.label own)

      is_zero : (n : ℕ) → (n == 0) ≡ true → n ≡ 0
      is_zero n e = grind (arith, nat_tests)

      home_port : (input.port.0 == 0) ≡ false → (other_end input).port.0 ≡ 0
      home_port t = ap (λ (b : Bool). (if b then record { port = port_on input.channel; channel = on_link input.channel } else home_of input).port.0) t

      itself : (other_end input).port.0 ≡ linked.setup.port.0 → label_number_of (other_end input).channel ≡ Some grant.label → ⊥
      itself same own = elim (input.port.0 == 0) as (λ t. (input.port.0 == 0) ≡ t → ⊥) [
        | true ↦ λ t. true≢false (sym (subst (λ (e : End). same_end e grant_input ≡ true) (sym (control_is input linked.setup.port grant.label (is_zero input.port.0 t) (far same own))) (same_self grant_input)) ∙ away)
        | false ↦ λ t. not_zero linked.setup.port.0 working.of_link (sym same ∙ home_port t)
      ] refl

  start_held : (input : End) → concerns input start_request ≡ true → IsHeld started_node.controller.ports input (leads_to start_request)
  start_held input on = subst (λ (e : End). IsHeld started_node.controller.ports e (leads_to start_request)) (sym (same_is input grant_input on)) (record {
    label = λ is. absurd (cc is);
    other = λ is. inr (ap (λ (e : End). Some e) (sym (other_of_control linked.setup.port grant.label grant_is_number)));
    grant = λ is. ap (λ (e : End). Some e) (sym (other_of_control linked.setup.port grant.label grant_is_number));
  })

  start_mirrors : s.request ≡ start_request → HearsMirrored a (message_comes a message) s
  start_mirrors asks = success_mirrors a message s h start_request asks (λ input. refl) started_node start_caused start_worked.desk start_worked.waiting start_held start_alike

pub starts_keep_mirrors : StartsKeepMirrors
starts_keep_mirrors a message s linked session grant h found working in_range held idle asks = start_mirrors a message s linked session grant h found working in_range held idle asks

-- *A join is made*
module _ (a : Acted) (message : Message) (s : Standing) (input from output : End) (h : IsDone a message s)
    (labels : is_labels input ≡ true) (leads : label_leads a.controller.ports input ≡ Some output) (link : output.port.0 ≢ 0) where
  abbrev join_request : Request
  join_request = MoveBranch input from output

  output_apart : (output.port.0 == 0) ≡ false
  output_apart = none output.port.0 link
    where
      none : (n : ℕ) → n ≢ 0 → (n == 0) ≡ false
      none n e = grind (arith, nat_tests)

  never_home : (e : End) → leads_home e (home_of e) join_request ≡ false
  never_home e = by (same_end input e) (output.port.0 == 0) output_apart
    where
      by : (x y : Bool) → y ≡ false → (x && (y && (nat_eq output.channel.vpi (home_of e).channel.vpi && nat_eq output.channel.vci (home_of e).channel.vci))) ≡ false
      by true true is = absurd (cc is)
      by true false is = refl
      by false y is = refl

  abbrev joined_node : Acted
  joined_node = at_port (relieved a message s h) (port_of_input input output) (λ setup desk w. done setup w join_request)

  join_caused : causes (relieved a message s h) join_request ≡ joined_node
  join_caused = ap (λ (t : Bool). if t then causes_in_estab (relieved a message s h) join_request else relieved a message s h) h.up

  record IsNoted (after : Acted) : Type 0 where
    desk : after.controller.desk ≡ (relieved a message s h).controller.desk
    waiting : after.controller.waiting ≡ a.controller.waiting
    alike : (e : End) → LeadAlike a.controller.ports after.controller.ports e

  join_noted : IsNoted joined_node
  join_noted = by (linked_at a.controller (port_of_input input output)) refl
    where
      plain : (l : Linked) (t : Bool) → (let w : Work = if t then begins a l else record (begins a l) { actions = Note (Join l.setup.node l.setup.port (number_of_channel input.channel) output.port (number_of_channel output.channel)) ∷ [] } in
          Every IsPlain w.actions × (w.port ≡ l.port))
      plain l true = (tt, refl)
      plain l false = ((tt, tt), refl)

      worked : (l : Linked) (w : Work) → w.port ≡ l.port → at port_key l.setup.port.0 a.controller.ports ≡ Some l → Worked (relieved a message s h) (works_as (relieved a message s h) l w) l w.port [] → IsNoted (works_as (relieved a message s h) l w)
      worked l w same there done_so = record {
        desk = done_so.desk;
        waiting = done_so.waiting;
        alike = λ e. subst (λ (ports : List Linked). LeadAlike a.controller.ports ports e) (sym done_so.ports)
            (put_alike a.controller.ports l there w.port e (λ own is. ap (leads_by e) same) (λ own. ap (λ p. is_out p.grants (label_number_of (other_end e).channel)) same));
      }

      by : (o : Option Linked) → linked_at a.controller (port_of_input input output) ≡ o → IsNoted (works (relieved a message s h) (λ setup desk w. done setup w join_request) o)
      by None found = record { desk = refl; waiting = refl; alike = λ e. alike_itself a.controller.ports e }
      by (Some l) found = worked l (done l.setup (begins a l) join_request) (plain l (output.port.0 == 0)).1
          (subst (λ n. at port_key n a.controller.ports ≡ Some l) (sym (at_key port_key (port_of_input input output).0 a.controller.ports l found)) found)
          (works_plain (relieved a message s h) l (done l.setup (begins a l) join_request) (plain l (output.port.0 == 0)).0)

  join_held : (e : End) → concerns e join_request ≡ true → IsHeld joined_node.controller.ports e (leads_to join_request)
  join_held e on = subst (λ (x : End). IsHeld joined_node.controller.ports x (Some output)) (sym (same_is e input on))
      (held_alike a.controller.ports joined_node.controller.ports input (Some output) (join_noted.alike input) (record {
        label = λ is. sym leads;
        other = λ is. absurd (true≢false (sym labels ∙ is));
        grant = λ is. absurd (true≢false (sym is ∙ ap (λ (t : Bool). t && out) (labels_port input labels)));
      }))
    where
      out : Bool
      out = grant_out a.controller.ports input

  join_mirrors : s.request ≡ join_request → HearsMirrored a (message_comes a message) s
  join_mirrors asks = success_mirrors a message s h join_request asks never_home joined_node join_caused join_noted.desk join_noted.waiting join_held (λ e away. join_noted.alike e)

pub joins_keep_mirrors : JoinsKeepMirrors
joins_keep_mirrors a message s input from output h labels leads link asks = join_mirrors a message s input from output h labels leads link asks
