-- meeting the switch and its answers keep all that holds of requests and joins

use Rattle.std.proofs.Common.{◌≡◌, ℕ, arith, Bool, true, false, List, [], ◌∷◌, Option, None, Some, refl, sym, ◌∙◌, ap, subst, if◌then◌else◌, inl, inr, map, fold}
use Rattle.std.specs.Prelude.{◌==◌, ◌||◌, ◌&&◌, not, find, filter, flat_map}
use Rattle.std.specs.List.{list_any}
use Rattle.std.specs.Option.{option_map_or}
use Rattle.std.proofs.lemmas.Bool.Decides.{nat_tests}
use Rattle.law_controller_facts.specs.world_model.Words.{PortNo, End, next_control, with_control, is_estab, Request, AddBranch, MoveBranch, DeleteTree, VerifyTree, PortManagement, PortRow, same_end, is_delete_all, withdraws, leads_home, Desk, Standing, all_on, empty_desk, last_transaction, Head, head_of, is_of_type, Answered, Unknown, Done, Ports, Failed, succeeded, outcome, answered_with, after_answer, Setup, home_of, Linked, linked_at, with_linked, with_desk, default_channel, default_end, default_home, asks_next, asks, node_resets, releases, is_clearing, meets, up_ports, empties, default_branches, ends_meeting, is_deleting, has_emptied, port_of_input, behind_delete_all, causes_in_estab, causes, may_clear, clears_of, clears_port, clears, takes_answer, answer_comes, IsLinkPort}
use Rattle.law_controller_facts.specs.world_model.gsmp_wire.Layout.{octets_of as gsmp_octets}
use Rattle.law_controller_facts.specs.world_model.port_model.Resets.{cleared}
use Rattle.law_controller_facts.specs.world_model.gsmp_wire.declared.request.Request.TheVariants.{DeleteAll, AllPorts}
use Rattle.law_controller_facts.specs.world_model.gsmp_wire.declared.message.Message.{Message}
use Rattle.law_controller_facts.specs.world_model.gsmp_wire.declared.message.Message.TheVariants as messages
use Rattle.law_controller_facts.specs.ordered_lists.Ordered.{Every}
use Rattle.law_controller_facts.proofs.ordered_lists.Every.{every_map, every_join}
use Rattle.law_controller_facts.proofs.ordered_lists.Parts.{every_part, part_filtered}
use Rattle.law_controller_facts.specs.world_model.port_model.Messages.{is_up}
use Rattle.law_controller_facts.specs.world_model.port_model.Requests.{request_input}
use Rattle.law_controller_facts.specs.world_model.port_model.Desk.{asked, message_at}
use Rattle.law_controller_facts.specs.law_port_facts.Port.{MovesNone, IsLabelEnd, IsShaped, IsLinked, IsDefaultEnd, asks_ports, empties_control, empties_port, opens_input, opens_output, frees_label}
use Rattle.law_controller_facts.proofs.law_port_facts.Keyed.{on_both, on_each}
use Rattle.law_controller_facts.proofs.law_port_facts.Found.{find_every, find_passes}
use Rattle.law_controller_facts.proofs.law_port_facts.Rules.{and_second}
use Rattle.law_controller_facts.specs.world_model.Controller.{Acted, ports_of}
use Rattle.law_controller_facts.specs.world_model.Meeting.{takes_success}
use Rattle.law_controller_facts.proofs.Moves.{ending_meeting, moves_to, HasPorts, IsShapedStanding, found_at_own}
use Rattle.law_controller_facts.proofs.Performing.{ports_linked}
use Rattle.law_controller_facts.proofs.Joining.{every_filter}
use Rattle.law_controller_facts.proofs.Laws.{has_ports, moves_sound}
use Rattle.law_controller.specs.Order.{IsDeleting, IsOther, IsClearingAt, IsOfClearing, is_default, IsLentMove}
use Rattle.law_controller.proofs.Lists.{each_any}
use Rattle.law_controller.proofs.Clearing.{IsEmptied}
use Rattle.law_controller.proofs.Ordering.{of_all, of_meeting, of_input, for_default, empty_order, of_input_deletes}
use Rattle.law_controller.proofs.Holding.{Holds, answered_holds, emptied_holds, node_holds, node_closed}
use Rattle.law_controller.specs.Match.{IsOfJoin, lent_at}
use Rattle.law_controller.proofs.Asked.{same_end_itself}
use Rattle.law_controller.proofs.Matched.{Never, shut_but}
use Rattle.law_controller.proofs.Desk.{none_moving}
use Rattle.law_controller.proofs.Matching.{node_fits}
use Rattle.law_controller.proofs.Settling.{IsSettled, answered_fits, releases_fits}
use Rattle.law_controller.proofs.Whole.{Whole, holds_of, whole_of, asks_whole, cleared_whole, tells_whole, tree_whole}
use Rattle.law_controller.proofs.Meeting.{left_deleting, answered_none, freed_by, releases_unmoved}
use Rattle.law_controller.proofs.Releasing.{IsFree, spent_holds, releases_holds}
use Rattle.law_controller.proofs.Saying.{sent_desk}
use Rattle.law_controller.proofs.Entering.{both_not}
use Rattle.law_controller.proofs.Changing.{takes_changes_holds}
use Rattle.law_controller.proofs.Steady.{Steady, asks_steady, releases_steady}

module _ (setups : List Setup) (links : Every (λ (setup : Setup). IsLinkPort setup.port) setups) where
  -- *Asking, one after the other*
  asked_desk : (b : Acted) (request : Request) → is_estab (asks b request).controller.adjacency.state ≡ true → (asks b request).controller.desk ≡ asked b.controller.desk request
  asked_desk b request = on_each (λ (v : Acted). is_estab v.controller.adjacency.state ≡ true → v.controller.desk ≡ asked b.controller.desk request) (is_estab b.controller.adjacency.state)
      (if b.controller.desk.next == last_transaction then node_resets b else asks_next b request) b
      (λ estab. on_both (λ (v : Acted). is_estab v.controller.adjacency.state ≡ true → v.controller.desk ≡ asked b.controller.desk request) (b.controller.desk.next == last_transaction) (node_resets b) (asks_next b request)
      (λ e. absurd (both_not (is_estab (node_resets b).controller.adjacency.state) e (node_closed setups b)))
      (λ e. sent_desk setups (record (with_desk b (asked b.controller.desk request)) { numbers = with_control b.numbers }) default_channel (next_control b.numbers)
      (gsmp_octets (message_at (asked b.controller.desk request) (record { number = b.controller.desk.next; request = request })))))
      (λ closed e. absurd (both_not (is_estab b.controller.adjacency.state) e closed))

  record IsForDefault (request : Request) : Type 0 where
    input : End
    on : request_input request ≡ Some input
    default : is_default input ≡ true
    shaped : IsShaped setups request
    other : (ports : List Linked) → IsLentMove ports request
    none : MovesNone request

  default_holds : (b : Acted) (request : Request) (d : IsForDefault request) → (is_estab b.controller.adjacency.state ≡ true → b.controller.has_met ≡ true)
      → (is_estab b.controller.adjacency.state ≡ true → all_on b.controller.desk d.input.port ≡ false) → Whole setups b → Whole setups (asks b request)
  default_holds b request d met alone h = asks_whole setups b request d.shaped (none_moving b.controller.ports request d.none) (λ e. of_input request d.input d.on (met e) (λ link. alone e) (for_default d.default) (d.other b.controller.ports)) h

  -- no Delete All
  abbrev DeletesNone : Standing → Type 0
  DeletesNone s = (port : PortNo) → is_delete_all port s.request ≡ false

  alone_on : (standing : List Standing) (port : PortNo) → Every DeletesNone standing → list_any (λ (s : Standing). is_delete_all port s.request) standing ≡ false
  alone_on standing port all = each_any (λ (s : Standing). is_delete_all port s.request) standing (every_map DeletesNone (λ (s : Standing). is_delete_all port s.request ≡ false) standing (λ s none. none port) all)

  defaults_each : (requests : List Request) (b : Acted) → Every IsForDefault requests → (is_estab b.controller.adjacency.state ≡ true → (b.controller.has_met ≡ true) × Every DeletesNone b.controller.desk.standing) → Whole setups b
      → Whole setups (fold asks b requests)
  defaults_each [] b all now h = h
  defaults_each (request ∷ requests) b all now h =
      let k : Steady setups b (asks b request) = asks_steady setups b request in
      defaults_each requests (asks b request) all.1
      (λ e. (
        k.met e ∙ (now (k.before e)).0,
        subst (λ (d : Desk). Every DeletesNone d.standing) (sym (asked_desk b request e))
            (every_join DeletesNone (filter (λ (s : Standing). not (withdraws request s.request)) b.controller.desk.standing) (record { number = b.controller.desk.next; request = request } ∷ [])
            (every_part DeletesNone (part_filtered (λ (s : Standing). not (withdraws request s.request)) b.controller.desk.standing) (now (k.before e)).1) ((λ port. of_input_deletes request all.0.input port all.0.on), tt)),
      ))
      (default_holds b request all.0 (λ e. (now e).0) (λ e. alone_on b.controller.desk.standing all.0.input.port (now e).1) h)

  deletes_each : (ports : List PortNo) (b : Acted) → Every (λ (port : PortNo). IsShaped setups (DeleteAll port)) ports
      → (is_estab b.controller.adjacency.state ≡ true → (b.controller.has_met ≡ false) × Every (λ (s : Standing). IsDeleting s.request) b.controller.desk.standing) → Whole setups b → Whole setups (fold asks b (map DeleteAll ports))
  deletes_each [] b shaped now h = h
  deletes_each (port ∷ ports) b shaped now h =
      let next : Acted = asks b (DeleteAll port) in
      let k : Steady setups b next = asks_steady setups b (DeleteAll port) in
      deletes_each ports next shaped.1
      (λ e. (
        k.met e ∙ (now (k.before e)).0,
        subst (λ (d : Desk). Every (λ (s : Standing). IsDeleting s.request) d.standing) (sym (asked_desk b (DeleteAll port) e))
            (every_join (λ (s : Standing). IsDeleting s.request) (filter (λ (s : Standing). not (withdraws (DeleteAll port) s.request)) b.controller.desk.standing) (record { number = b.controller.desk.next; request = DeleteAll port } ∷ [])
            (every_part (λ (s : Standing). IsDeleting s.request) (part_filtered (λ (s : Standing). not (withdraws (DeleteAll port) s.request)) b.controller.desk.standing) (now (k.before e)).1) (tt, tt)),
      ))
      (asks_whole setups b (DeleteAll port) shaped.0 tt (λ e. of_meeting port (now e).0 (now e).1) h)

  -- *Meeting*
  pub meets_holds : (a : Acted) → a.controller.has_met ≡ false → Whole setups a → Whole setups (meets a)
  meets_holds a unmet h = asks_whole setups (with_desk a empty_desk) AllPorts asks_ports tt (λ e. of_all refl unmet) (whole_of setups (with_desk a empty_desk) (emptied_holds setups a (holds_of setups a h)) (shut_but Never a.controller.ports a.controller.has_met empty_desk unmet (h.sound.unmet unmet)))

  ups_linked : (a : Acted) → HasPorts setups a → Every (IsLinked setups) (up_ports a.controller)
  ups_linked a h = every_filter (IsLinked setups) (is_up a.controller.desk.rows) (ports_of a.controller) (ports_linked setups a h)

  empties_holds : (a : Acted) → a.controller.has_met ≡ false → Every (λ (s : Standing). IsDeleting s.request) a.controller.desk.standing → Whole setups a → Whole setups (empties a)
  empties_holds a unmet deleting h = deletes_each (record { 0 = 0 } ∷ up_ports a.controller) a
      (empties_control (record { 0 = 0 }) refl, every_map (IsLinked setups) (λ (port : PortNo). IsShaped setups (DeleteAll port)) (up_ports a.controller) (λ port linked. empties_port port linked) (ups_linked a (has_ports setups a h.sound)))
      (λ e. (unmet, deleting)) h

  deleting_is : (request : Request) → IsDeleting request → is_deleting request ≡ true
  deleting_is (DeleteAll port) d = refl
  deleting_is (AddBranch input output) d = absurd d
  deleting_is (MoveBranch input from to) d = absurd d
  deleting_is (DeleteTree input) d = absurd d
  deleting_is (VerifyTree input) d = absurd d
  deleting_is (PortManagement port function) d = absurd d
  deleting_is AllPorts d = absurd d

  emptied_none : (standing : List Standing) → Every (λ (s : Standing). IsDeleting s.request) standing → not (list_any (λ (s : Standing). is_deleting s.request) standing) ≡ true → standing ≡ []
  emptied_none [] all e = refl
  emptied_none (s ∷ standing) all e = absurd (cc (sym (ap (λ (b : Bool). not (b || list_any (λ (x : Standing). is_deleting x.request) standing)) (deleting_is s.request all.0)) ∙ e))

  default_of : (port : PortNo) → IsLinked setups port → IsDefaultEnd setups (default_end port)
  default_of port linked = record { port = inr linked; vpi = refl; vci = refl }

  ends_meeting_holds : (a : Acted) → is_estab a.controller.adjacency.state ≡ true → a.controller.desk.standing ≡ [] → Whole setups a → Whole setups (ends_meeting a)
  ends_meeting_holds a estab none h =
      let met : Acted = record a { controller = record a.controller { has_met = true } } in
      defaults_each (flat_map default_branches (up_ports a.controller)) met (branches (up_ports a.controller) (ups_linked a (has_ports setups a h.sound))) (λ e. (refl, subst (Every DeletesNone) (sym none) tt)) (record {
        sound = moves_sound setups a met (moves_to (ending_meeting a estab)) h.sound;
        order = empty_order a.controller.ports true a.controller.desk none h.order.joined;
        fits = record {
          granted = h.fits.granted;
          joined = h.fits.joined;
          deleting = h.fits.deleting;
          once = h.fits.once;
          moving = λ t. subst (Every (IsOfJoin a.controller.ports)) (sym none) tt;
        };
      })
    where
      branches : (ports : List PortNo) → Every (IsLinked setups) ports → Every IsForDefault (flat_map default_branches ports)
      branches [] all = tt
      branches (port ∷ ports) all = (
        record { input = default_end port; on = refl; default = refl; shaped = opens_input (default_end port) (default_of port all.0); other = λ ports. tt; none = tt },
        (record { input = default_home port; on = refl; default = refl; shaped = opens_output (default_end port) (default_of port all.0); other = λ ports. tt; none = tt }, branches ports all.1),
      )

  -- *What an answer causes*
  emptied_end : (port : PortNo) → IsShaped setups (DeleteAll port) → IsDefaultEnd setups (default_end port)
  emptied_end port (empties_control other none) = record { port = inl none; vpi = refl; vci = refl }
  emptied_end port (empties_port other linked) = record { port = inr linked; vpi = refl; vci = refl }

  abbrev IsEmptying : Acted → Type 0
  IsEmptying a = a.controller.has_met ≡ false → Every (λ (s : Standing). IsDeleting s.request) a.controller.desk.standing

  behind_holds : (a : Acted) (port : PortNo) → IsShaped setups (DeleteAll port) → is_estab a.controller.adjacency.state ≡ true → IsEmptying a → (a.controller.has_met ≡ true → all_on a.controller.desk port ≡ false) → Whole setups a → Whole setups (behind_delete_all a port)
  behind_holds a port shaped estab deleting alone h = on_each (Whole setups) a.controller.has_met (asks a (AddBranch (default_end port) (default_home port))) (if has_emptied a.controller then ends_meeting a else a)
      (λ met. default_holds a (AddBranch (default_end port) (default_home port)) (record { input = default_end port; on = refl; default = refl; shaped = opens_input (default_end port) (emptied_end port shaped); other = λ ports. tt; none = tt }) (λ e. met) (λ e. alone met) h)
      (λ unmet. on_each (Whole setups) (has_emptied a.controller) (ends_meeting a) a (λ none. ends_meeting_holds a estab (emptied_none a.controller.desk.standing (deleting unmet) none) h) (λ some. h))

  tree_end : (input : End) → IsShaped setups (DeleteTree input) → IsLabelEnd setups input
  tree_end input (frees_label other end) = end

  -- nothing is lent to an input whose Delete Tree is answered
  abbrev IsUnlent : Acted → Request → Type 0
  IsUnlent a request = (e : End) → request ≡ DeleteTree e → (r k : ℕ) → lent_at a.controller.ports r k ≡ Some e → ⊥

  -- no other Delete All of a port whose Delete All is answered stands
  abbrev IsAlone : Acted → Request → Type 0
  IsAlone a request = (port : PortNo) → request ≡ DeleteAll port → a.controller.has_met ≡ true → all_on a.controller.desk port ≡ false

  causes_in_holds : (a : Acted) (request : Request) → IsShaped setups request → is_estab a.controller.adjacency.state ≡ true → IsEmptying a → IsUnlent a request → IsAlone a request → Whole setups a → Whole setups (causes_in_estab a request)
  causes_in_holds a (AddBranch input output) shaped estab deleting never alone h = tells_whole setups a (AddBranch input output) (port_of_input input output) (λ t. t) h
  causes_in_holds a (MoveBranch input from to) shaped estab deleting never alone h = tells_whole setups a (MoveBranch input from to) (port_of_input input to) (λ t. t) h
  causes_in_holds a (DeleteTree input) shaped estab deleting never alone h = tree_whole setups a input (tree_end input shaped) (never input refl) h
  causes_in_holds a (VerifyTree input) shaped estab deleting never alone h = tells_whole setups a (VerifyTree input) input.port (λ t. t) h
  causes_in_holds a (DeleteAll port) shaped estab deleting never alone h = behind_holds a port shaped estab deleting (alone port refl) h
  causes_in_holds a (PortManagement port function) shaped estab deleting never alone h = tells_whole setups a (PortManagement port function) port (λ t. t) h
  causes_in_holds a AllPorts shaped estab deleting never alone h = h

  causes_holds : (a : Acted) (request : Request) → IsShaped setups request → (is_estab a.controller.adjacency.state ≡ true → IsEmptying a) → IsUnlent a request → (is_estab a.controller.adjacency.state ≡ true → IsAlone a request) → Whole setups a → Whole setups (causes a request)
  causes_holds a request shaped deleting never alone h = on_each (Whole setups) (is_estab a.controller.adjacency.state) (causes_in_estab a request) a (λ estab. causes_in_holds a request shaped estab (deleting estab) never (alone estab) h) (λ closed. h)

  clears_of_holds : (a : Acted) (port : PortNo) (o : Option Linked) → linked_at a.controller port ≡ o → Whole setups a → Whole setups (clears_of a o)
  clears_of_holds a port None found h = h
  clears_of_holds a port (Some linked) found h = on_each (Whole setups) (may_clear a.controller linked) (with_linked a (record linked { port = cleared linked.port })) a
      (λ may. cleared_whole setups a linked (found_at_own setups a linked port found) may h) (λ t. h)

  clears_each : (ports : List PortNo) (a : Acted) → Whole setups a → Whole setups (fold clears_port a ports)
  clears_each [] a h = h
  clears_each (port ∷ ports) a h = clears_each ports (clears_port a port) (clears_of_holds a port (linked_at a.controller port) refl h)

  same_led : (e : End) → same_end e e ≡ true
  same_led e = same_end_itself e

  -- a Delete All that is answered was of a port in Clearing
  same_port : (port : PortNo) → is_delete_all port (DeleteAll port) ≡ true
  same_port port = itself port.0
    where
      itself : (n : ℕ) → (n == n) ≡ true
      itself n = grind (arith, nat_tests)

  emptied_of : (a : Acted) (s : Standing) (test : Standing → Bool) → find test a.controller.desk.standing ≡ Some s → (port : PortNo) → is_delete_all port s.request ≡ true → a.controller.has_met ≡ true → Holds setups a
      → IsEmptied setups port (with_desk a (after_answer a.controller.desk (Done s))).controller
  emptied_of a s test found port deletes met h =
      let there : IsClearingAt a.controller.ports port = find_every (IsOfClearing a.controller.ports) test a.controller.desk.standing s (h.order.clearing met) found port deletes in
      record {
        clearing = ap (λ (o : Option Linked). option_map_or (λ (x : Linked). is_clearing x.port.adjacency.state) o false) there.found ∙ ap is_clearing there.clearing;
        none = answered_none s test port deletes a.controller.desk h.sound.desk.own_ports found;
      }

  done_holds : (a : Acted) (s : Standing) (test : Standing → Bool) → find test a.controller.desk.standing ≡ Some s → IsShaped setups s.request → IsEmptying (with_desk a (after_answer a.controller.desk (Done s))) → Whole setups a
      → Whole setups (takes_success (with_desk a (after_answer a.controller.desk (Done s))) s.request)
  done_holds a s test found shaped deleting h =
      let held : Holds setups a = holds_of setups a h in
      let answered : Acted = with_desk a (after_answer a.controller.desk (Done s)) in
      let after : Holds setups answered = answered_holds setups a (Done s) held in
      let free : IsFree setups answered s.request = freed_by setups links a s test found held in
      let released : Acted = releases answered s.request in
      let r : Holds setups released = releases_holds setups answered s.request free after in
      let settled : IsSettled setups answered released s.request = releases_fits setups answered s.request free after (answered_fits setups a s test found h.sound h.fits) in
      let k : Steady setups answered released = releases_steady setups answered s.request in
      let caused : Acted = causes released s.request in
      let c : Whole setups caused = causes_holds released s.request shaped
      (λ estab unmet. (let was : answered.controller.has_met ≡ false = sym (k.met estab) ∙ unmet in
      subst (λ (d : Desk). Every (λ (x : Standing). IsDeleting x.request) d.standing) (sym (releases_unmoved setups links answered s.request was after (spent_holds setups))) (deleting was)))
      (λ e is r k lent. settled.unled r k e lent (ap (leads_home e (home_of e)) is ∙ same_led e))
      (λ estab port is met. (settled.emptied port (emptied_of a s test found port (ap (is_delete_all port) is ∙ same_port port) (sym (k.met estab) ∙ met) held) estab).none)
      (whole_of setups released r settled.fits) in
      takes_changes_holds setups (clears caused) (clears_each (ports_of caused.controller) caused c)

  -- *Answers of the switch*
  listing_type : (request : Request) (result code number : ℕ) (rows : List PortRow) → is_of_type (messages.AllPorts result code number rows) request ≡ true → request ≡ AllPorts
  listing_type AllPorts result code number rows e = refl
  listing_type (AddBranch input output) result code number rows e = absurd (cc e)
  listing_type (MoveBranch input from to) result code number rows e = absurd (cc e)
  listing_type (DeleteTree input) result code number rows e = absurd (cc e)
  listing_type (VerifyTree input) result code number rows e = absurd (cc e)
  listing_type (DeleteAll port) result code number rows e = absurd (cc e)
  listing_type (PortManagement port function) result code number rows e = absurd (cc e)

  module _ (a : Acted) (h : Whole setups a) (message : Message) (number : ℕ) where
    abbrev test : Standing → Bool
    test s = s.number == number && is_of_type message s.request

    deleting_left : (s : Standing) → find test a.controller.desk.standing ≡ Some s → (answer : Answered) → (after_answer a.controller.desk answer).standing ≡ filter (λ (t : Standing). not (t.number == s.number)) a.controller.desk.standing
        → IsEmptying (with_desk a (after_answer a.controller.desk answer))
    deleting_left s found answer is unmet = subst (Every (λ (t : Standing). IsDeleting t.request)) (sym is) (left_deleting s test a.controller.desk.standing (h.order.meeting unmet) found)

    is_done : (s : Standing) → find test a.controller.desk.standing ≡ Some s → Whole setups (takes_answer a (Done s))
    is_done s found = done_holds a s test found (find_every (IsShapedStanding setups) test a.controller.desk.standing s h.sound.requests found) (deleting_left s found (Done s) refl) h

    are_listed : (s : Standing) (rows : List PortRow) → s.request ≡ AllPorts → find test a.controller.desk.standing ≡ Some s → Whole setups (takes_answer a (Ports s rows))
    are_listed s rows is found = empties_holds (with_desk a (after_answer a.controller.desk (Ports s rows))) (unmet a.controller.has_met refl) (deleting_left s found (Ports s rows) refl (unmet a.controller.has_met refl))
        (whole_of setups (with_desk a (after_answer a.controller.desk (Ports s rows))) (answered_holds setups a (Ports s rows) (holds_of setups a h)) (shut_but Never a.controller.ports a.controller.has_met (after_answer a.controller.desk (Ports s rows)) (unmet a.controller.has_met refl) (h.sound.unmet (unmet a.controller.has_met refl))))
      where
        unmet : (b : Bool) → a.controller.has_met ≡ b → a.controller.has_met ≡ false
        unmet true e = absurd (subst IsOther is (find_every (λ (x : Standing). IsOther x.request) test a.controller.desk.standing s (h.order.met e) found))
        unmet false e = e

  succeeds_holds : (a : Acted) → Whole setups a → (message : Message) (number : ℕ) (s : Standing) → find (λ (x : Standing). x.number == number && is_of_type message x.request) a.controller.desk.standing ≡ Some s
      → Whole setups (takes_answer a (succeeded message s))
  succeeds_holds a h (messages.Adjacency greeting) number s found = is_done a h (messages.Adjacency greeting) number s found
  succeeds_holds a h (messages.Branch kind result code n session input_port input output_port output branches priority) number s found =
      is_done a h (messages.Branch kind result code n session input_port input output_port output branches priority) number s found
  succeeds_holds a h (messages.Move result code n session input_port input output_port output target_port target branches priority) number s found =
      is_done a h (messages.Move result code n session input_port input output_port output target_port target branches priority) number s found
  succeeds_holds a h (messages.Port result code n port session function) number s found = is_done a h (messages.Port result code n port session function) number s found
  succeeds_holds a h (messages.AllPorts result code n rows) number s found = are_listed a h (messages.AllPorts result code n rows) number s rows
      (listing_type s.request result code n rows (and_second (s.number == number) (is_of_type (messages.AllPorts result code n rows) s.request)
      (find_passes (λ (x : Standing). x.number == number && is_of_type (messages.AllPorts result code n rows) x.request) a.controller.desk.standing s found))) found

  pub answer_comes_holds : (a : Acted) (message : Message) → Whole setups a → Whole setups (answer_comes a message)
  answer_comes_holds a message h = by_head (head_of message)
    where
      unknown : Whole setups (takes_answer a Unknown)
      unknown = whole_of setups (takes_answer a Unknown) (answered_holds setups a Unknown (holds_of setups a h)) h.fits

      failed : (s : Standing) (code : ℕ) → Whole setups (takes_answer a (Failed s code))
      failed s code = (let told : Acted = with_desk a (after_answer a.controller.desk (Failed s code)) in let k : Holds setups told = answered_holds setups a (Failed s code) (holds_of setups a h) in
          whole_of setups (node_resets told) (node_holds setups told k) (node_fits setups Never told k.sound))

      by_found : (head : Head) (o : Option Standing) → find (λ (x : Standing). x.number == head.number && is_of_type message x.request) a.controller.desk.standing ≡ o → Whole setups (takes_answer a (outcome message head o))
      by_found head None found = unknown
      by_found head (Some s) found = on_both (λ (answer : Answered). Whole setups (takes_answer a answer)) (head.result == 3) (succeeded message s) (if head.result == 4 then Failed s head.code else Unknown)
          (succeeds_holds a h message head.number s found)
          (on_both (λ (answer : Answered). Whole setups (takes_answer a answer)) (head.result == 4) (Failed s head.code) Unknown
          (failed s head.code) unknown)

      by_head : (o : Option Head) → Whole setups (takes_answer a (answered_with a.controller.desk.standing message o))
      by_head None = unknown
      by_head (Some head) = by_found head (find (λ (x : Standing). x.number == head.number && is_of_type message x.request) a.controller.desk.standing) refl
