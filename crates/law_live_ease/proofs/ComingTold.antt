-- what the switch says to such a node asks nothing of it: an ACK, an answer to nothing that stands, or the success of what does

use Rattle.std.proofs.Common.{◌≡◌, ℕ, Bool, true, false, true≢false, List, [], ◌∷◌, ◌<◌, find, Option, None, Some, refl, sym, ◌∙◌, ap, subst, arith, if◌then◌else◌}
use Rattle.std.specs.Prelude.{◌==◌, ◌&&◌}
use Rattle.std.specs.Option.{option_map_or}
use Rattle.std.proofs.lemmas.Bool.Decides.{nat_tests}
use Rattle.world_model.specs.Words.{Policy, NodeId, Up, Cell, Request, Standing, Unknown, Done, Failed, PortRow, answered, answered_with, Head, head_of, is_of_type, succeeded, outcome, at, Label, label_number, labels_of, Grant, grant_label, Session, last_number, Controller, Linked, ForGsmp, nothing_taken, with_reassembly, begins, Topology, Site, queue_at}
use Rattle.world_model.specs.Controller.{Acted}
use Rattle.world_model.specs.gsmp_wire.declared.message.Message.{Message}
use Rattle.world_model.specs.gsmp_wire.declared.message.Message.TheVariants.{Adjacency, Branch, Move, Port, AllPorts}
use Rattle.world_model.specs.switch_model.Requests.{result_of}
use Rattle.world_model.specs.network_model.declared.event.Event.{Event}
use Rattle.world_model.specs.network_model.declared.event.Event.TheVariants.{Carry}
use Rattle.law_live_journeys.specs.law_port_facts.Port.{IsLabel, IsGrant}
use Rattle.law_live_journeys.proofs.law_port_facts.Keyed.{at_key, at_every}
use Rattle.law_live_journeys.proofs.law_port_facts.Found.{find_every, find_passes}
use Rattle.law_live_journeys.specs.law_run_facts.law_world_views.Between.{setups_of}
use Rattle.law_live_journeys.specs.law_live_hearing.Law.{acting}
use Rattle.law_live_journeys.specs.law_live_labels.Law.{IsWorking}
use Rattle.law_live_journeys.specs.law_live_mirrors.Answers.{IsDone}
use Rattle.law_live_journeys.specs.law_live_asking.Frames.{IsPlainMessage, answers_none, offers, starts, MayCome}
use Rattle.law_live_journeys.proofs.law_live_asking.Calm.{calm_links_may_come}
use Rattle.law_live_journeys.proofs.law_live_asking.Joins.{joins_are_plain}
use Rattle.law_live_journeys.specs.law_live_unsaid.Carries.{EndsFrame}
use Rattle.law_live_journeys.specs.law_live_bindings.Law.{label_branch, grant_branch}
use Rattle.law_live_ease.proofs.ComingOwed.{Wires, Idles, Owes, IsOf, of_label, of_grant, owed, moves, own_key}
use Rattle.law_live_ease.proofs.ComingNode.{Brought, HasSession, IsThere, w, link, counted, tie, quiet, clear, alone, room, port_of, in_session, end_of_link, bound}

is_success : (result : ℕ) → result ≡ 3 → (result == 3) ≡ true
is_success result e = grind (arith, nat_tests, e)

not_both : (n : ℕ) → n ≡ 0 → n ≡ 3 → ⊥
not_both n zero three = omega (arith, zero, three)

second : (x y : Bool) → (x && y) ≡ true → y ≡ true
second true y e = e
second false y e = absurd (cc e)

-- no answer to a branch or a join holds ports
owed_no_ports : (linked : Linked) (result code number : ℕ) (rows : List PortRow) (request : Request) → Owes linked request → is_of_type (AllPorts result code number rows) request ≡ false
owed_no_ports linked result code number rows _ (of_label k has) = refl
owed_no_ports linked result code number rows _ (of_grant k has) = refl

no_ports : (ports : List Linked) (result code number : ℕ) (rows : List PortRow) (request : Request) → IsOf ports request → is_of_type (AllPorts result code number rows) request ≡ false
no_ports ports result code number rows _ (owed linked request there is) = owed_no_ports linked result code number rows request is
no_ports ports result code number rows _ (moves input from to away) = refl

module _ {policy : Policy} {topology : Topology} {before : List Event} {node : NodeId} {site : Site} (m : Brought policy topology before node site) where
  abbrev c : Controller
  c = site.controller

  abbrev a : Acted
  a = with_reassembly (acting (w m) site) ForGsmp nothing_taken

  -- *A success* of what stands
  module _ (message : Message) (s : Standing) (answers : answered c.desk message ≡ Done s) where
    is_done : (linked : Linked) → IsThere m linked → IsDone a message s
    is_done linked there = record { up = (quiet m).up; answers = answers; alone = alone m linked there message s answers; none_waits = (quiet m).none_waits; unspent = (quiet m).unspent }

    module _ (linked : Linked) (there : IsThere m linked) where
      session : HasSession linked
      session = in_session m linked there

      working : IsWorking linked.setup (begins a linked) session.session
      working = record { of_link = (bound m linked (end_of_link m linked there)).one_end.of_link; going = refl; is_open = session.is_open }

      label_is : (label : Label) → at label_number label.number (labels_of linked.port) ≡ Some label → IsLabel (setups_of c) linked.setup label
      label_is label held = at_every label_number (IsLabel (setups_of c) linked.setup) label.number (labels_of linked.port) label (port_of m linked there).labels held

      grant_is : (grant : Grant) → at grant_label grant.label linked.port.grants ≡ Some grant → IsGrant (setups_of c) linked.setup grant
      grant_is grant held = at_every grant_label (IsGrant (setups_of c) linked.setup) grant.label linked.port.grants grant (port_of m linked there).grants held

      offered : (label : Label) → at label_number label.number (labels_of linked.port) ≡ Some label → Wires label → s.request ≡ label_branch linked.setup label.number → IsPlainMessage a message
      offered label held wiring asks = offers message s linked session.session label (is_done linked there) there (record {
        working = working;
        in_range = (label_is label held).in_range;
        held = subst (λ (o : Option Session). at label_number label.number (labels_by o) ≡ Some label) session.is_open held;
        wiring = wiring;
        number_left = subst (λ (o : Option Session). number_by o < last_number) session.is_open (room m linked there).number_left;
      }) ((label_is label held).unjoined wiring) asks
        where
          labels_by : Option Session → List Label
          labels_by o = option_map_or (λ (x : Session). x.labels) o []

          number_by : Option Session → ℕ
          number_by o = option_map_or (λ (x : Session). x.number) o 0

      started : (grant : Grant) → at grant_label grant.label linked.port.grants ≡ Some grant → Idles grant → s.request ≡ grant_branch linked.setup grant.label → IsPlainMessage a message
      started grant held idle asks = starts message s linked session.session grant (is_done linked there) there working (grant_is grant held).in_range held idle asks

      by_owed : (request : Request) → Owes linked request → s.request ≡ request → IsPlainMessage a message
      by_owed _ (of_label k has) asks = offered has.item (own_key label_number k (labels_of linked.port) has.item has.held) has.is
          (asks ∙ ap (label_branch linked.setup) (sym (at_key label_number k (labels_of linked.port) has.item has.held)))
      by_owed _ (of_grant k has) asks = started has.item (own_key grant_label k linked.port.grants has.item has.held) has.is
          (asks ∙ ap (grant_branch linked.setup) (sym (at_key grant_label k linked.port.grants has.item has.held)))

    plain_success : (request : Request) → IsOf c.ports request → s.request ≡ request → IsPlainMessage a message
    plain_success _ (owed linked request there is) asks = by_owed linked there request is asks
    plain_success _ (moves input from to away) asks = joins_are_plain policy topology before (Carry (Up node)) node site message s input from to m.comes m.world m.found (quiet m) (clear m) answers asks away

  -- *An answer*, which is of a success
  by_answer : (message : Message) (head : Head) → head_of message ≡ Some head → head.result ≡ 3
      → ((x : Standing) → IsOf c.ports x.request → is_of_type message x.request ≡ true → succeeded message x ≡ Done x) → IsPlainMessage a message
  by_answer message head is_answer three done = by (find test c.desk.standing) refl
    where
      test : Standing → Bool
      test x = (x.number == head.number) && is_of_type message x.request

      answered_as : (o : Option Standing) → find test c.desk.standing ≡ o → answered c.desk message ≡ outcome message head o
      answered_as o found = ap (answered_with c.desk.standing message) is_answer ∙ ap (outcome message head) found

      by : (o : Option Standing) → find test c.desk.standing ≡ o → IsPlainMessage a message
      by None found = answers_none message head is_answer (answered_as None found)
      by (Some s) found = (let is : IsOf c.ports s.request = find_every (λ (x : Standing). IsOf c.ports x.request) test c.desk.standing s (tie m).standing found in
          plain_success message s (answered_as (Some s) found
          ∙ (ap (λ (b : Bool). if b then succeeded message s else (if head.result == 4 then Failed s head.code else Unknown)) (is_success head.result three)
          ∙ done s is (second (s.number == head.number) (is_of_type message s.request) (find_passes test c.desk.standing s found)))) s.request is refl)

  pub says_plainly : (message : Message) → result_of message ≡ 3 → IsPlainMessage a message
  says_plainly (Adjacency greeting) success = absurd (not_both (result_of (Adjacency greeting)) refl success)
  says_plainly (Branch kind result code number session input_port input output_port output count priority) success =
      by_answer (Branch kind result code number session input_port input output_port output count priority) (record { result = result; code = code; number = number }) refl success (λ x is of_type. refl)
  says_plainly (Move result code number session input_port input output_port output target_port target count priority) success =
      by_answer (Move result code number session input_port input output_port output target_port target count priority) (record { result = result; code = code; number = number }) refl success
      (λ x is of_type. refl)
  says_plainly (Port result code number port session function) success =
      by_answer (Port result code number port session function) (record { result = result; code = code; number = number }) refl success (λ x is of_type. refl)
  says_plainly (AllPorts result code number rows) success = by_answer (AllPorts result code number rows) (record { result = result; code = code; number = number }) refl success
      (λ x is of_type. absurd (true≢false (sym of_type ∙ no_ports c.ports result code number rows x.request is)))

  -- *So what comes on the GSMP channel* may come
  pub gsmp_may_come : (cell : Cell) (cells : List Cell) (payload : List ℕ) → queue_at (w m) (Up node) ≡ cell ∷ cells → EndsFrame (w m) node site cell ForGsmp payload → MayCome a ForGsmp payload
  gsmp_may_come cell cells payload queue ends = calm_links_may_come (w m) node (link m) cell cells payload (counted m) queue ends (λ message read success. says_plainly message success)
