-- what the adjacency with the switch asks, and what is asked while the switch is met, can be asked

use Rattle.std.proofs.Common.{◌≡◌, Option, Bool, true, false, List, [], ◌∷◌, None, Some, refl, sym, ◌∙◌, ap, subst, if◌then◌else◌, inl, inr, map, fold}
use Rattle.std.specs.Prelude.{◌==◌, ◌||◌, not, filter, flat_map}
use Rattle.std.specs.List.{list_any}
use Rattle.law_controller.specs.world_model.Words.{PortNo, End, Party, Answer, Quiet, Send, Open, Said, same_party, heard_in, greeting_of, gsmp_answer, Side, IsSide, is_estab, is_open, Request, AddBranch, MoveBranch, DeleteTree, VerifyTree, PortManagement, IsLinkPort, next_control, with_control, is_delete_all, withdraws, all_on, Desk, Standing, empty_desk, last_transaction, Setup, with_desk, default_channel, default_end, default_home, Linked, linked_at, with_linked, says_gsmp, asks_next, asks, begins, node_resets, meets, up_ports, empties, default_branches, ends_meeting, is_deleting, has_emptied, port_of_input, tells_port, behind_delete_all, causes_in_estab, causes, may_clear, clears_of, clears_port, clears}
use Rattle.law_controller.specs.world_model.adjacency_table.declared.message.Answer.TheVariants.{Reset}
use Rattle.law_controller.specs.world_model.adjacency_table.Side as sides
use Rattle.law_controller.specs.world_model.gsmp_wire.Layout.{octets_of as gsmp_octets}
use Rattle.law_controller.specs.world_model.gsmp_wire.declared.message.Message.{Message}
use Rattle.law_controller.specs.world_model.gsmp_wire.declared.message.Message.TheVariants as messages
use Rattle.law_controller.specs.world_model.gsmp_wire.declared.request.Request.TheVariants.{DeleteAll, AllPorts}
use Rattle.law_controller.specs.ordered_lists.Ordered.{Every}
use Rattle.law_controller.proofs.ordered_lists.Every.{every_map, every_join}
use Rattle.law_controller.proofs.ordered_lists.Parts.{part_filtered, every_part}
use Rattle.law_controller.specs.world_model.port_model.Messages.{is_up}
use Rattle.law_controller.specs.world_model.port_model.Requests.{request_input}
use Rattle.law_controller.specs.world_model.port_model.Desk.{asked, message_at}
use Rattle.law_controller.specs.world_model.port_model.Answers as port_answers
use Rattle.law_controller.specs.world_model.port_model.Resets.{cleared}
use Rattle.law_controller.specs.law_port_facts.Port.{IsLinked, IsDefaultEnd, IsShaped, asks_ports, empties_control, empties_port, opens_input, opens_output}
use Rattle.law_controller.proofs.law_port_facts.Keyed.{on_both, on_each}
use Rattle.law_controller.proofs.law_port_facts.Rules.{done_goes}
use Rattle.law_controller.proofs.law_port_facts.Turns.{IsTurned, received_turns, ticked_turns}
use Rattle.law_controller.specs.world_model.Controller.{Acted, ports_of}
use Rattle.law_controller.specs.world_model.Gsmp.{answers, steps}
use Rattle.law_controller.proofs.law_controller_facts.Moves.{IsGsmpTurn, hears, ages, turning, ending_meeting, meeting, moves_to, moves_ports, HasPorts, clearing, found_at_own}
use Rattle.law_controller.proofs.law_controller_facts.Performing.{says_gsmp_goes, asks_goes, asks_each, ports_linked}
use Rattle.law_controller.proofs.law_controller_facts.Events.{meets_goes}
use Rattle.law_controller.proofs.law_controller_facts.Joining.{every_filter}
use Rattle.law_controller.proofs.law_controller_facts.Laws.{moves_sound}
use Rattle.law_controller.specs.Order.{IsDeleting, IsLentMove, is_default}
use Rattle.law_controller.proofs.Lists.{each_any}
use Rattle.law_controller.proofs.Ordering.{MayAsk, of_meeting, of_input, for_default, of_input_deletes, empty_order}
use Rattle.law_controller.proofs.Holding.{emptied_holds, sends_control_holds, node_closed, cleared_holds}
use Rattle.law_controller.proofs.Performing.{asks_holds}
use Rattle.law_controller.proofs.Saying.{sent_desk}
use Rattle.law_controller.proofs.Steady.{Steady, asks_steady}
use Rattle.law_controller.proofs.Entering.{both_not}
use Rattle.controller_router.specs.Conditions.{CanAsk, CanMeet, CanFollow, turned_to, EachCanBeAsked}
use Rattle.controller_router.specs.Meeting.{met, CanEmpty, CanEndMeeting, CanGoOn, CanCause}
use Rattle.law_controller_conditions.specs.Kept.{AreLinks, AreIn}
use Rattle.law_controller_conditions.proofs.Ready.{in_before, Ready, ready_by, ready_ports}
use Rattle.law_controller_conditions.proofs.Restarting.{can_reset_node}
use Rattle.law_controller_conditions.proofs.Asking.{can_ask}
use Rattle.law_controller_conditions.proofs.Rules.{can_tell, ready_at_port}

-- no Delete All
abbrev DeletesNone : Standing → Type 0
DeletesNone s = (port : PortNo) → is_delete_all port s.request ≡ false

alone_on : (standing : List Standing) (port : PortNo) → Every DeletesNone standing → list_any (λ (s : Standing). is_delete_all port s.request) standing ≡ false
alone_on standing port all = each_any (λ (s : Standing). is_delete_all port s.request) standing (every_map DeletesNone (λ (s : Standing). is_delete_all port s.request ≡ false) standing (λ s none. none port) all)

deleting_is : (request : Request) → IsDeleting request → is_deleting request ≡ true
deleting_is (DeleteAll port) d = refl
deleting_is (AddBranch input output) d = absurd d
deleting_is (MoveBranch input from to) d = absurd d
deleting_is (DeleteTree input) d = absurd d
deleting_is (VerifyTree input) d = absurd d
deleting_is (PortManagement port function) d = absurd d
deleting_is AllPorts d = absurd d

emptied_none : (standing : List Standing) → Every (λ (s : Standing). IsDeleting s.request) standing → not (list_any (λ (s : Standing). is_deleting s.request) standing) ≡ true → standing ≡ []
emptied_none [] all e = refl
emptied_none (s ∷ standing) all e = absurd (both_not (is_deleting s.request) (deleting_is s.request all.0) (first_not (is_deleting s.request) (list_any (λ (x : Standing). is_deleting x.request) standing) e))
  where
    first_not : (a b : Bool) → not (a || b) ≡ true → a ≡ false
    first_not true b e = absurd (cc e)
    first_not false b e = refl

module _ (setups : List Setup) (links : AreLinks setups) where
  -- *Asking*
  pub ready_asks : (a : Acted) (request : Request) → IsShaped setups request → (is_estab a.controller.adjacency.state ≡ true → MayAsk a.controller.ports a.controller.has_met a.controller.desk request) → Ready setups a → Ready setups (asks a request)
  ready_asks a request shaped may r = ready_by setups a (asks a request) (asks_goes setups a request (ready_ports setups a r) shaped) (asks_holds setups a request shaped may r.holds) r

  -- what stands then, in Estab
  asked_desk : (b : Acted) (request : Request) → is_estab (asks b request).controller.adjacency.state ≡ true → (asks b request).controller.desk ≡ asked b.controller.desk request
  asked_desk b request = on_each (λ (v : Acted). is_estab v.controller.adjacency.state ≡ true → v.controller.desk ≡ asked b.controller.desk request) (is_estab b.controller.adjacency.state)
      (if b.controller.desk.next == last_transaction then node_resets b else asks_next b request) b
      (λ estab. on_both (λ (v : Acted). is_estab v.controller.adjacency.state ≡ true → v.controller.desk ≡ asked b.controller.desk request) (b.controller.desk.next == last_transaction) (node_resets b) (asks_next b request)
      (λ e. absurd (both_not (is_estab (node_resets b).controller.adjacency.state) e (node_closed setups b)))
      (λ e. sent_desk setups (record (with_desk b (asked b.controller.desk request)) { numbers = with_control b.numbers }) default_channel (next_control b.numbers)
      (gsmp_octets (message_at (asked b.controller.desk request) (record { number = b.controller.desk.next; request = request })))))
      (λ closed e. absurd (both_not (is_estab b.controller.adjacency.state) e closed))

  -- a request can be asked before others
  asks_first : (b : Acted) (request : Request) (requests : List Request) → IsShaped setups request → Every (IsShaped setups) requests → Ready setups b → AreIn (fold asks (asks b request) requests).numbers → CanAsk b request
  asks_first b request requests shaped all r n = can_ask setups links b request r shaped
      (in_before setups (asks b request) (fold asks (asks b request) requests) (asks_each setups requests all (asks b request) (moves_ports setups (asks_goes setups b request (ready_ports setups b r) shaped) (ready_ports setups b r))) n)

  -- *Delete Alls*
  deletes_shaped : (ports : List PortNo) → Every (λ (port : PortNo). IsShaped setups (DeleteAll port)) ports → Every (IsShaped setups) (map DeleteAll ports)
  deletes_shaped [] all = tt
  deletes_shaped (port ∷ ports) all = (all.0, deletes_shaped ports all.1)

  deletes_can : (ports : List PortNo) (b : Acted) → Every (λ (port : PortNo). IsShaped setups (DeleteAll port)) ports
      → (is_estab b.controller.adjacency.state ≡ true → (b.controller.has_met ≡ false) × Every (λ (s : Standing). IsDeleting s.request) b.controller.desk.standing) → Ready setups b
      → AreIn (fold asks b (map DeleteAll ports)).numbers → EachCanBeAsked b (map DeleteAll ports)
  deletes_can [] b shaped now r n = tt
  deletes_can (port ∷ ports) b shaped now r n =
      let next : Acted = asks b (DeleteAll port) in
      let k : Steady setups b next = asks_steady setups b (DeleteAll port) in (
        asks_first b (DeleteAll port) (map DeleteAll ports) shaped.0 (deletes_shaped ports shaped.1) r n,
        deletes_can ports next shaped.1
            (λ e. (
              k.met e ∙ (now (k.before e)).0,
              subst (λ (d : Desk). Every (λ (s : Standing). IsDeleting s.request) d.standing) (sym (asked_desk b (DeleteAll port) e))
                  (every_join (λ (s : Standing). IsDeleting s.request) (filter (λ (s : Standing). not (withdraws (DeleteAll port) s.request)) b.controller.desk.standing) (record { number = b.controller.desk.next; request = DeleteAll port } ∷ [])
                  (every_part (λ (s : Standing). IsDeleting s.request) (part_filtered (λ (s : Standing). not (withdraws (DeleteAll port) s.request)) b.controller.desk.standing) (now (k.before e)).1) (tt, tt)),
            ))
            (ready_asks b (DeleteAll port) shaped.0 (λ e. of_meeting port (now e).0 (now e).1) r) n,
      )

  ups_linked : (a : Acted) → HasPorts setups a → Every (IsLinked setups) (up_ports a.controller)
  ups_linked a h = every_filter (IsLinked setups) (is_up a.controller.desk.rows) (ports_of a.controller) (ports_linked setups a h)

  pub can_empty : (a : Acted) → a.controller.has_met ≡ false → Every (λ (s : Standing). IsDeleting s.request) a.controller.desk.standing → Ready setups a → AreIn (empties a).numbers → CanEmpty a
  can_empty a unmet deleting r n = deletes_can (record { 0 = 0 } ∷ up_ports a.controller) a
      (empties_control (record { 0 = 0 }) refl, every_map (IsLinked setups) (λ (port : PortNo). IsShaped setups (DeleteAll port)) (up_ports a.controller) (λ port linked. empties_port port linked) (ups_linked a (ready_ports setups a r)))
      (λ e. (unmet, deleting)) r n

  -- *Default channels*
  record IsForDefault (request : Request) : Type 0 where
    input : End
    on : request_input request ≡ Some input
    default : is_default input ≡ true
    shaped : IsShaped setups request
    other : (a : Acted) → IsLentMove a.controller.ports request

  defaults_shaped : (requests : List Request) → Every IsForDefault requests → Every (IsShaped setups) requests
  defaults_shaped requests all = every_map IsForDefault (IsShaped setups) requests (λ request d. d.shaped) all

  abbrev IsMet : Acted → Type 0
  IsMet b = is_estab b.controller.adjacency.state ≡ true → (b.controller.has_met ≡ true) × Every DeletesNone b.controller.desk.standing

  none_later : (b : Acted) (request : Request) → IsForDefault request → IsMet b → IsMet (asks b request)
  none_later b request d now e = (let k : Steady setups b (asks b request) = asks_steady setups b request in (
    k.met e ∙ (now (k.before e)).0,
    subst (λ (x : Desk). Every DeletesNone x.standing) (sym (asked_desk b request e))
        (every_join DeletesNone (filter (λ (s : Standing). not (withdraws request s.request)) b.controller.desk.standing) (record { number = b.controller.desk.next; request = request } ∷ [])
        (every_part DeletesNone (part_filtered (λ (s : Standing). not (withdraws request s.request)) b.controller.desk.standing) (now (k.before e)).1) ((λ port. of_input_deletes request d.input port d.on), tt)),
  ))

  ready_default : (b : Acted) (request : Request) → IsForDefault request → IsMet b → Ready setups b → Ready setups (asks b request)
  ready_default b request d now r = ready_asks b request d.shaped (λ e. of_input request d.input d.on (now e).0 (λ link. alone_on b.controller.desk.standing d.input.port (now e).1) (for_default d.default) (d.other b)) r

  defaults_can : (requests : List Request) (b : Acted) → Every IsForDefault requests → IsMet b → Ready setups b → AreIn (fold asks b requests).numbers → EachCanBeAsked b requests
  defaults_can [] b all now r n = tt
  defaults_can (request ∷ requests) b all now r n = (
    asks_first b request requests all.0.shaped (defaults_shaped requests all.1) r n,
    defaults_can requests (asks b request) all.1 (none_later b request all.0 now) (ready_default b request all.0 now r) n,
  )

  ready_defaults : (requests : List Request) (b : Acted) → Every IsForDefault requests → IsMet b → Ready setups b → Ready setups (fold asks b requests)
  ready_defaults [] b all now r = r
  ready_defaults (request ∷ requests) b all now r = ready_defaults requests (asks b request) all.1 (none_later b request all.0 now) (ready_default b request all.0 now r)

  default_of : (port : PortNo) → IsLinked setups port → IsDefaultEnd setups (default_end port)
  default_of port linked = record { port = inr linked; vpi = refl; vci = refl }

  branches : (ports : List PortNo) → Every (IsLinked setups) ports → Every IsForDefault (flat_map default_branches ports)
  branches [] all = tt
  branches (port ∷ ports) all = (
    record { input = default_end port; on = refl; default = refl; shaped = opens_input (default_end port) (default_of port all.0); other = λ a. tt },
    (record { input = default_home port; on = refl; default = refl; shaped = opens_output (default_end port) (default_of port all.0); other = λ a. tt }, branches ports all.1),
  )

  ready_met : (a : Acted) → is_estab a.controller.adjacency.state ≡ true → a.controller.desk.standing ≡ [] → Ready setups a → Ready setups (met a)
  ready_met a estab none r = ready_by setups a (met a) (moves_to (ending_meeting a estab)) (record {
    sound = moves_sound setups a (met a) (moves_to (ending_meeting a estab)) r.holds.sound;
    order = empty_order a.controller.ports true a.controller.desk none r.holds.order.joined;
  }) r

  pub can_end_meeting : (a : Acted) → is_estab a.controller.adjacency.state ≡ true → a.controller.desk.standing ≡ [] → Ready setups a → AreIn (ends_meeting a).numbers → CanEndMeeting a
  can_end_meeting a estab none r n = defaults_can (flat_map default_branches (up_ports a.controller)) (met a) (branches (up_ports a.controller) (ups_linked a (ready_ports setups a r)))
      (λ e. (refl, subst (Every DeletesNone) (sym none) tt)) (ready_met a estab none r) n

  pub ready_ends : (a : Acted) → is_estab a.controller.adjacency.state ≡ true → a.controller.desk.standing ≡ [] → Ready setups a → Ready setups (ends_meeting a)
  ready_ends a estab none r = ready_defaults (flat_map default_branches (up_ports a.controller)) (met a) (branches (up_ports a.controller) (ups_linked a (ready_ports setups a r)))
      (λ e. (refl, subst (Every DeletesNone) (sym none) tt)) (ready_met a estab none r)

  -- *Meeting the switch*
  pub can_meet : (a : Acted) → a.controller.desk.standing ≡ [] → Ready setups a → AreIn (meets a).numbers → CanMeet a
  can_meet a none r n = record {
    idle = none;
    asks = can_ask setups links (with_desk a empty_desk) AllPorts (ready_by setups a (with_desk a empty_desk) (moves_to (meeting a)) (emptied_holds setups a r.holds) r) asks_ports n;
  }

  turns : (side : Side Party) (step : sides.Step Party) → IsSide side → IsGsmpTurn side step → IsTurned side step
  turns side step h (hears greeting) = received_turns side (heard_in greeting) same_party h
  turns side step h ages = ticked_turns side h

  says_ready : (a : Acted) (message : Message) → Ready setups a → Ready setups (says_gsmp a message)
  says_ready a message r = ready_by setups a (says_gsmp a message) (says_gsmp_goes setups a message) (sends_control_holds setups a default_channel (gsmp_octets message) r.holds) r

  says_desk : (a : Acted) (message : Message) → (says_gsmp a message).controller.desk ≡ a.controller.desk
  says_desk a message = sent_desk setups (record a { numbers = with_control a.numbers }) default_channel (next_control a.numbers) (gsmp_octets message)

  answer_can : (a : Acted) (answer : Answer (Said Party) Party) → (is_open answer ≡ true → a.controller.desk.standing ≡ []) → Ready setups a → AreIn (answers a (gsmp_answer answer)).numbers → CanFollow a (gsmp_answer answer)
  answer_can a Quiet none r n = tt
  answer_can a (Send message) none r n = n.controls
  answer_can a (Open None own) none r n = can_meet a (none refl) r n
  answer_can a (Open (Some message) own) none r n =
      let said : Acted = says_gsmp a (messages.Adjacency (greeting_of message)) in
      let k : Ready setups said = says_ready a (messages.Adjacency (greeting_of message)) r in (
        (in_before setups said (meets said) (meets_goes setups said (ready_ports setups said k)) n).controls,
        can_meet said (ap (λ (d : Desk). d.standing) (says_desk a (messages.Adjacency (greeting_of message))) ∙ none refl) k n,
      )
  answer_can a Reset none r n = can_reset_node setups links a r n

  pub ready_turned : (a : Acted) (step : sides.Step Party) → IsGsmpTurn a.controller.adjacency step → Ready setups a → Ready setups (turned_to a step)
  ready_turned a step turn r = ready_by setups a (turned_to a step) (moves_to (turning a step turn)) (record {
    sound = moves_sound setups a (turned_to a step) (moves_to (turning a step turn)) r.holds.sound;
    order = r.holds.order;
  }) r

  pub can_follow : (a : Acted) (step : sides.Step Party) → IsGsmpTurn a.controller.adjacency step → Ready setups a → AreIn (steps a step).numbers → CanFollow (turned_to a step) (gsmp_answer step.answer)
  can_follow a step turn r n = answer_can (turned_to a step) step.answer
      (λ entry. r.holds.sound.desk.waits ((turns a.controller.adjacency step r.holds.sound.side turn).before_entry entry)) (ready_turned a step turn r) n

  -- *What an answer causes*
  emptied_end : (port : PortNo) → IsShaped setups (DeleteAll port) → IsDefaultEnd setups (default_end port)
  emptied_end port (empties_control other none) = record { port = inl none; vpi = refl; vci = refl }
  emptied_end port (empties_port other linked) = record { port = inr linked; vpi = refl; vci = refl }

  abbrev pub IsEmptying : Acted → Type 0
  IsEmptying a = a.controller.has_met ≡ false → Every (λ (s : Standing). IsDeleting s.request) a.controller.desk.standing

  -- once the switch is met, a Delete All that is answered was of a link's port
  abbrev pub IsOfLink : Acted → Request → Type 0
  IsOfLink a request = (port : PortNo) → request ≡ DeleteAll port → a.controller.has_met ≡ true → IsLinkPort port

  can_go_on : (a : Acted) (port : PortNo) → IsShaped setups (DeleteAll port) → is_estab a.controller.adjacency.state ≡ true → IsEmptying a → IsOfLink a (DeleteAll port) → Ready setups a
      → AreIn (behind_delete_all a port).numbers → CanGoOn a port
  can_go_on a port shaped estab deleting link r n = record {
    least = λ now. (link port refl now).0;
    most = λ now. (link port refl now).1;
    asks = λ now. can_ask setups links a (AddBranch (default_end port) (default_home port)) r (opens_input (default_end port) (emptied_end port shaped))
        (subst (λ b. AreIn (if b then asks a (AddBranch (default_end port) (default_home port)) else (if has_emptied a.controller then ends_meeting a else a)).numbers) now n);
    ends = λ unmet none. can_end_meeting a estab (emptied_none a.controller.desk.standing (deleting unmet) none) r
        (subst (λ b. AreIn (if b then ends_meeting a else a).numbers) none
        (subst (λ b. AreIn (if b then asks a (AddBranch (default_end port) (default_home port)) else (if has_emptied a.controller then ends_meeting a else a)).numbers) unmet n));
  }

  pub can_cause : (a : Acted) (request : Request) → IsShaped setups request → is_estab a.controller.adjacency.state ≡ true → IsEmptying a → IsOfLink a request → Ready setups a
      → AreIn (causes_in_estab a request).numbers → CanCause a request
  can_cause a (AddBranch input output) shaped estab deleting link r n = can_tell setups links a (port_of_input input output) (AddBranch input output) r n
  can_cause a (MoveBranch input from to) shaped estab deleting link r n = can_tell setups links a (port_of_input input to) (MoveBranch input from to) r n
  can_cause a (DeleteTree input) shaped estab deleting link r n = can_tell setups links a input.port (DeleteTree input) r n
  can_cause a (VerifyTree input) shaped estab deleting link r n = can_tell setups links a input.port (VerifyTree input) r n
  can_cause a (DeleteAll port) shaped estab deleting link r n = can_go_on a port shaped estab deleting link r n
  can_cause a (PortManagement port function) shaped estab deleting link r n = can_tell setups links a port (PortManagement port function) r n
  can_cause a AllPorts shaped estab deleting link r n = tt

  -- *After it* all of it still holds, where no other Delete All of the port stands
  abbrev pub IsAlone : Acted → Request → Type 0
  IsAlone a request = (port : PortNo) → request ≡ DeleteAll port → a.controller.has_met ≡ true → all_on a.controller.desk port ≡ false

  ready_behind : (a : Acted) (port : PortNo) → IsShaped setups (DeleteAll port) → is_estab a.controller.adjacency.state ≡ true → IsEmptying a → IsAlone a (DeleteAll port) → Ready setups a → Ready setups (behind_delete_all a port)
  ready_behind a port shaped estab deleting alone r = on_each (Ready setups) a.controller.has_met (asks a (AddBranch (default_end port) (default_home port))) (if has_emptied a.controller then ends_meeting a else a)
      (λ now. ready_asks a (AddBranch (default_end port) (default_home port)) (opens_input (default_end port) (emptied_end port shaped))
      (λ e. of_input (AddBranch (default_end port) (default_home port)) (default_end port) refl now (λ link. alone port refl now) (for_default refl) tt) r)
      (λ unmet. on_each (Ready setups) (has_emptied a.controller) (ends_meeting a) a (λ none. ready_ends a estab (emptied_none a.controller.desk.standing (deleting unmet) none) r) (λ some. r))

  ready_tells : (a : Acted) (port : PortNo) (request : Request) → Ready setups a → Ready setups (tells_port a request (Some port))
  ready_tells a port request r = ready_at_port setups links a port (λ setup desk w. port_answers.done setup w request) (λ linked found. done_goes linked.setup a.controller.desk (begins a linked) request (λ t. tt)) r

  ready_caused : (a : Acted) (request : Request) → IsShaped setups request → is_estab a.controller.adjacency.state ≡ true → IsEmptying a → IsAlone a request → Ready setups a → Ready setups (causes_in_estab a request)
  ready_caused a (AddBranch input output) shaped estab deleting alone r = ready_tells a (port_of_input input output) (AddBranch input output) r
  ready_caused a (MoveBranch input from to) shaped estab deleting alone r = ready_tells a (port_of_input input to) (MoveBranch input from to) r
  ready_caused a (DeleteTree input) shaped estab deleting alone r = ready_tells a input.port (DeleteTree input) r
  ready_caused a (VerifyTree input) shaped estab deleting alone r = ready_tells a input.port (VerifyTree input) r
  ready_caused a (DeleteAll port) shaped estab deleting alone r = ready_behind a port shaped estab deleting alone r
  ready_caused a (PortManagement port function) shaped estab deleting alone r = ready_tells a port (PortManagement port function) r
  ready_caused a AllPorts shaped estab deleting alone r = r

  pub ready_causes : (a : Acted) (request : Request) → IsShaped setups request → (is_estab a.controller.adjacency.state ≡ true → IsEmptying a) → (is_estab a.controller.adjacency.state ≡ true → IsAlone a request) → Ready setups a → Ready setups (causes a request)
  ready_causes a request shaped deleting alone r = on_each (Ready setups) (is_estab a.controller.adjacency.state) (causes_in_estab a request) a (λ estab. ready_caused a request shaped estab (deleting estab) (alone estab) r) (λ closed. r)

  -- *Clearing*
  ready_cleared : (a : Acted) (port : PortNo) (o : Option Linked) → linked_at a.controller port ≡ o → Ready setups a → Ready setups (clears_of a o)
  ready_cleared a port None found r = r
  ready_cleared a port (Some linked) found r = on_each (Ready setups) (may_clear a.controller linked) (with_linked a (record linked { port = cleared linked.port })) a
      (λ may. (let own = found_at_own setups a linked port found in
      ready_by setups a (with_linked a (record linked { port = cleared linked.port })) (moves_to (clearing a linked own may)) (cleared_holds setups a linked own may r.holds) r)) (λ t. r)

  ready_clears_each : (ports : List PortNo) (a : Acted) → Ready setups a → Ready setups (fold clears_port a ports)
  ready_clears_each [] a r = r
  ready_clears_each (port ∷ ports) a r = ready_clears_each ports (clears_port a port) (ready_cleared a port (linked_at a.controller port) refl r)

  pub ready_clears : (a : Acted) → Ready setups a → Ready setups (clears a)
  ready_clears a r = ready_clears_each (ports_of a.controller) a r
