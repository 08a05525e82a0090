-- what a controller hears of its switch leaves a port as it is, or clears it, and says no greeting for it

use Rattle.std.proofs.Common.{◌≡◌, ℕ, ◌≤◌, ◌==◌, ◌&&◌, Bool, true, false, List, [], ◌∷◌, ◌++◌, length, map, flat_map, Option, None, Some, refl, sym, ap, subst, arith, fold, if◌then◌else◌}
use Rattle.world_model.specs.Words.{PortNo, End, Party, Peer, Side, State, Clearing, SynSent, SynRcvd, Estab, fresh, gsmp_received, is_estab, number_of_channel, RouteChange, Request, AddBranch, MoveBranch, DeleteTree, VerifyTree, PortManagement, Part, halts_if_spent, Linked, linked_at, with_linked, with_desk, begins, asks, parted, given_back, join_of, parts, gives_back, releases_join, releases_input, released_inputs, resets_spent, releases, up_ports, default_branches, ends_meeting, has_emptied, tells_port, behind_delete_all, causes_in_estab, causes, may_clear, is_clearing, awaits_nothing, clears_of, clears_port, clears, changed_joins, takes_join_back, begins_change, takes_change, may_take, takes_each, takes_changes, default_end, default_home, Answered, Unknown, Done, Ports, Failed, answered, after_answer, answer_comes}
use Rattle.world_model.specs.adjacency_table.Side as sides
use Rattle.world_model.specs.gsmp_wire.declared.message.Message.{Message}
use Rattle.world_model.specs.gsmp_wire.declared.message.Message.TheVariants as messages
use Rattle.world_model.specs.gsmp_wire.declared.request.Request.TheVariants.{DeleteAll, AllPorts}
use Rattle.world_model.specs.ifmp_wire.declared.message.Message.{Message as IfmpMessage}
use Rattle.world_model.specs.port_model.Answers as port_answers
use Rattle.world_model.specs.port_model.Messages.{is_up}
use Rattle.world_model.specs.port_model.Resets.{cleared}
use Rattle.world_model.specs.Controller.{Acted, note, ports_of}
use Rattle.world_model.specs.Gsmp.{steps, message_comes}
use Rattle.world_model.specs.Joins.{Join, output_joined}
use Rattle.world_model.specs.Meeting.{request_port, takes_success, answers_desk}
use Rattle.law_live_waking_links.specs.law_port_facts.ordered_lists.Ordered.{Every}
use Rattle.law_live_waking_links.proofs.law_port_facts.ordered_lists.Every.{every_join}
use Rattle.law_live_waking_links.proofs.law_port_facts.Keyed.{on_both, on_each}
use Rattle.law_live_waking_links.specs.law_live_meetings.Exchange.{cleared_state}
use Rattle.law_live_sending.proofs.Going.{goes_noting, goes_same}
use Rattle.law_live_tables.specs.Switches.{SwitchLeaves, stays, is_cleared, began}
use Rattle.law_live_tables.proofs.Plain.{IsOther, parting, giving_back, closing_spent, doing}
use Rattle.law_live_tables.proofs.Plain as plain
use Rattle.law_live_tables.proofs.Leaving.{Change, same, anew, IsUp, home, Does, does_then, Leaves, leaves_then, quietly, quietly_up, leaves_same, leaves_itself, leaves_fold, does_put, own_place}
use Rattle.law_live_tables.proofs.Working.{note_leaves, node_leaves, asks_leaves, back_leaves, plain_at, rule_leaves}
use Rattle.law_live_tables.proofs.Ticking.{answers_leave}

-- *Once cleared* it waits no more
cleared_once : (state : State) → cleared_state (cleared_state state) ≡ cleared_state state
cleared_once Clearing = refl
cleared_once SynSent = refl
cleared_once SynRcvd = refl
cleared_once Estab = refl

cleared_again : (side : Side Peer) → record side { state = cleared_state (cleared_state side.state) } ≡ record side { state = cleared_state side.state }
cleared_again side = ap (λ (s : State). record side { state = s }) (cleared_once side.state)

leaves_on : (m n : ℕ) (s t u : Side Peer) → m ≤ n → SwitchLeaves m s t → SwitchLeaves n t u → SwitchLeaves m s u
leaves_on m n s _ _ less stays stays = stays
leaves_on m n s _ _ less stays is_cleared = is_cleared
leaves_on m n s _ _ less stays (began now later) = began now (omega (arith, less, later))
leaves_on m n s _ _ less is_cleared stays = is_cleared
leaves_on m n s _ _ less is_cleared is_cleared = subst (SwitchLeaves m s) (sym (cleared_again s)) is_cleared
leaves_on m n s _ _ less is_cleared (began now later) = began now (omega (arith, less, later))
leaves_on m n s _ _ less (began was since) stays = began was since
leaves_on m n s _ _ less (began was since) is_cleared = began (record was { state = cleared_state was.state }) since
leaves_on m n s _ _ less (began was since) (began now later) = began now (omega (arith, less, later))

from_change : (m : ℕ) (s t : Side Peer) → Change m s t → SwitchLeaves m s t
from_change m s _ same = stays
from_change m s _ (anew own more) = began (fresh Clearing own) more

module _ (port : PortNo) (some : 1 ≤ port.0) where
  abbrev On : Acted → Acted → Type 0
  On a b = Leaves port some a b

  -- *So a controller goes on*, where ports may be cleared too
  pub record Clears (a b : Acted) : Type 0 where
    pub messages : List IfmpMessage
    pub others : Every IsOther messages
    pub does : Does port some SwitchLeaves a b messages

  clears_of_leaves : (a b : Acted) → On a b → Clears a b
  clears_of_leaves a b l = record {
    messages = l.messages;
    others = l.others;
    does = record {
      goes = l.does.goes;
      up = l.does.up;
      given = l.does.given;
      ports = l.does.ports;
      left = λ up linked is. (let x = l.does.left up linked is in record { now = x.now; is = x.is; setup = x.setup; side = from_change a.numbers.instances linked.port.adjacency x.now.port.adjacency x.side });
    };
  }

  clears_then : (a b c : Acted) → Clears a b → Clears b c → Clears a c
  clears_then a b c p q = record {
    messages = p.messages ++ q.messages;
    others = every_join IsOther p.messages q.messages p.others q.others;
    does = does_then port some SwitchLeaves SwitchLeaves SwitchLeaves leaves_on a b c p.messages q.messages p.does q.does;
  }

  clears_fold : {X : Type 0} (f : Acted → X → Acted) → ((a : Acted) (x : X) → Clears a (f a x)) → (xs : List X) (a : Acted) → Clears a (fold f a xs)
  clears_fold f each [] a = clears_of_leaves a a (leaves_itself port some a)
  clears_fold f each (x ∷ xs) a = clears_then a (f a x) (fold f (f a x) xs) (each a x) (clears_fold f each xs (f a x))

  -- *Joins are released*
  parts_leave : (a : Acted) (input : End) → On a (parts a input)
  parts_leave a input =
      let b : Acted = note a (Part a.controller.node input.port (number_of_channel input.channel)) in
      leaves_then port some a b (parts a input) (note_leaves port some a (Part a.controller.node input.port (number_of_channel input.channel)))
      (rule_leaves port some b input.port (λ setup desk w. parted w (number_of_channel input.channel))
      (λ q found. plain_at port some q b (parted (begins b q) (number_of_channel input.channel)) (parting ⊥ (begins b q) (begins b q) (number_of_channel input.channel) (plain.begins ⊥ (begins b q)))))

  back_leaves_port : (a : Acted) (join : Join) → On a (gives_back a join)
  back_leaves_port a join = rule_leaves port some a join.port (λ setup desk w. given_back w join.grant)
      (λ q found. plain_at port some q a (given_back (begins a q) join.grant) (giving_back ⊥ (begins a q) (begins a q) join.grant (plain.begins ⊥ (begins a q))))

  input_leaves : (a : Acted) (input : End) → On a (releases_input a input)
  input_leaves a input = by (join_of a.controller input)
    where
      by : (o : Option Join) → On a (releases_join a o)
      by None = leaves_itself port some a
      by (Some join) = leaves_then port some a (parts a join.input) (gives_back (parts a join.input) join) (parts_leave a join.input) (back_leaves_port (parts a join.input) join)

  spent_leaves : (a : Acted) (q : PortNo) → On a (resets_spent a q)
  spent_leaves a q = rule_leaves port some a q (λ setup desk w. halts_if_spent w)
      (λ l found. plain_at port some l a (halts_if_spent (begins a l)) (closing_spent ⊥ (begins a l) (begins a l) (plain.begins ⊥ (begins a l))))

  releases_leave : (a : Acted) (request : Request) → On a (releases a request)
  releases_leave a request =
      let released : Acted = fold releases_input a (released_inputs a.controller request) in
      leaves_then port some a released (releases a request) (leaves_fold port some releases_input input_leaves (released_inputs a.controller request) a)
      (leaves_fold port some resets_spent spent_leaves (ports_of released.controller) released)

  -- *What a success causes*
  all_asked : (requests : List Request) (a : Acted) → On a (fold asks a requests)
  all_asked requests a = leaves_fold port some asks (asks_leaves port some) requests a

  meeting_leaves : (a : Acted) → On a (ends_meeting a)
  meeting_leaves a =
      let b : Acted = record a { controller = record a.controller { has_met = true } } in
      leaves_then port some a b (ends_meeting a) (leaves_same port some a b refl refl refl refl refl refl refl refl) (all_asked (flat_map default_branches (up_ports a.controller)) b)

  behind_leaves : (a : Acted) (q : PortNo) → On a (behind_delete_all a q)
  behind_leaves a q = on_both (On a) a.controller.has_met (asks a (AddBranch (default_end q) (default_home q))) (if has_emptied a.controller then ends_meeting a else a)
      (asks_leaves port some a (AddBranch (default_end q) (default_home q)))
      (on_both (On a) (has_emptied a.controller) (ends_meeting a) a (meeting_leaves a) (leaves_itself port some a))

  tells_leave : (a : Acted) (request : Request) (o : Option PortNo) → On a (tells_port a request o)
  tells_leave a request None = leaves_itself port some a
  tells_leave a request (Some q) = rule_leaves port some a q (λ setup desk w. port_answers.done setup w request)
      (λ l found. plain_at port some l a (port_answers.done l.setup (begins a l) request) (doing ⊥ (begins a l) l.setup a.controller.desk (begins a l) request (plain.begins ⊥ (begins a l))))

  caused_leaves : (a : Acted) (request : Request) → On a (causes_in_estab a request)
  caused_leaves a (DeleteAll q) = behind_leaves a q
  caused_leaves a (AddBranch input output) = tells_leave a (AddBranch input output) (request_port (AddBranch input output))
  caused_leaves a (MoveBranch input from to) = tells_leave a (MoveBranch input from to) (request_port (MoveBranch input from to))
  caused_leaves a (DeleteTree input) = tells_leave a (DeleteTree input) (request_port (DeleteTree input))
  caused_leaves a (VerifyTree input) = tells_leave a (VerifyTree input) (request_port (VerifyTree input))
  caused_leaves a (PortManagement q function) = tells_leave a (PortManagement q function) (request_port (PortManagement q function))
  caused_leaves a AllPorts = leaves_itself port some a

  causes_leave : (a : Acted) (request : Request) → On a (causes a request)
  causes_leave a request = on_both (On a) (is_estab a.controller.adjacency.state) (causes_in_estab a request) a (caused_leaves a request) (leaves_itself port some a)

  -- *A port is cleared*
  low_itself : (n : ℕ) → n ≤ n
  low_itself n = omega arith

  cleared_so : (side : Side Peer) → is_clearing side.state ≡ true → record side { state = SynSent } ≡ record side { state = cleared_state side.state }
  cleared_so side waits = ap (λ (s : State). record side { state = s }) (by side.state waits)
    where
      by : (state : State) → is_clearing state ≡ true → SynSent ≡ cleared_state state
      by Clearing e = refl
      by SynSent e = absurd (cc e)
      by SynRcvd e = absurd (cc e)
      by Estab e = absurd (cc e)

  front : (x y : Bool) → (x && y) ≡ true → x ≡ true
  front true y e = refl
  front false y e = absurd (cc e)

  clear_leaves : (a : Acted) (q : PortNo) → Clears a (clears_port a q)
  clear_leaves a q = by (linked_at a.controller q) refl
    where
      by : (o : Option Linked) → linked_at a.controller q ≡ o → Clears a (clears_of a o)
      by None found = clears_of_leaves a a (leaves_itself port some a)
      by (Some linked) found = on_each (λ (b : Acted). Clears a b) (may_clear a.controller linked) (with_linked a (record linked { port = cleared linked.port })) a
          (λ may. record {
            messages = [];
            others = tt;
            does = does_put port some SwitchLeaves a (with_linked a (record linked { port = cleared linked.port })) linked (record linked { port = cleared linked.port }) (own_place a q linked found) refl
                (λ e. subst (SwitchLeaves a.numbers.instances linked.port.adjacency) (sym (cleared_so linked.port.adjacency (waits_first linked may))) is_cleared) (λ side differs. stays)
                refl refl (low_itself a.numbers.instances) (goes_same (home port some) a (with_linked a (record linked { port = cleared linked.port })) refl refl refl refl refl);
          })
          (λ may. clears_of_leaves a a (leaves_itself port some a))
        where
          waits_first : (l : Linked) → may_clear a.controller l ≡ true → is_clearing l.port.adjacency.state ≡ true
          waits_first l may = front (is_clearing l.port.adjacency.state) (length l.port.grants == 0)
              (front (is_clearing l.port.adjacency.state && (length l.port.grants == 0)) ((a.controller.has_met && is_up a.controller.desk.rows l.setup.port) && awaits_nothing a.controller l.setup.port) may)

  -- *Changes of routes*
  begins_leave : (a : Acted) (change : RouteChange) → On a (begins_change a change)
  begins_leave a change =
      let begun : Acted = record a { controller = record a.controller { is_begun = true } } in
      on_both (On a) a.controller.is_begun a (fold takes_join_back begun (changed_joins a.controller change)) (leaves_itself port some a)
      (leaves_then port some a begun (fold takes_join_back begun (changed_joins a.controller change)) (leaves_same port some a begun refl refl refl refl refl refl refl refl)
      (leaves_fold port some takes_join_back (λ b join. back_leaves port some b join.input (output_joined join)) (changed_joins a.controller change) begun))

  taken_leaves : (a : Acted) (change : RouteChange) (later : List RouteChange) → On a (takes_change a change later)
  taken_leaves a change later = quietly port some a (takes_change a change later)
      (goes_noting (home port some) a (takes_change a change later) [] refl refl refl refl refl) refl refl refl

  each_leaves : (changes : List RouteChange) (a : Acted) → On a (takes_each a changes)
  each_leaves [] a = leaves_itself port some a
  each_leaves (change ∷ later) a =
      let begun : Acted = begins_change a change in
      leaves_then port some a begun (takes_each a (change ∷ later)) (begins_leave a change)
      (on_both (On begun) (may_take begun.controller change) (takes_each (takes_change begun change later) later) begun
      (leaves_then port some begun (takes_change begun change later) (takes_each (takes_change begun change later) later) (taken_leaves begun change later) (each_leaves later (takes_change begun change later)))
      (leaves_itself port some begun))

  changes_leave : (a : Acted) → On a (takes_changes a)
  changes_leave a = on_both (On a) a.controller.has_met (takes_each a a.controller.waiting) a (each_leaves a.controller.waiting a) (leaves_itself port some a)

  -- *An answer*
  success_clears : (a : Acted) (request : Request) → Clears a (takes_success a request)
  success_clears a request =
      let released : Acted = releases a request in
      let caused : Acted = causes released request in
      clears_then a caused (takes_success a request)
      (clears_of_leaves a caused (leaves_then port some a released caused (releases_leave a request) (causes_leave released request)))
      (clears_then caused (clears caused) (takes_success a request) (clears_fold clears_port clear_leaves (ports_of caused.controller) caused)
      (clears_of_leaves (clears caused) (takes_success a request) (changes_leave (clears caused))))

  answered_clears : (a : Acted) (answer : Answered) → Clears a (answers_desk a answer)
  answered_clears a Unknown = clears_of_leaves a a (leaves_itself port some a)
  answered_clears a (Done s) = success_clears a s.request
  answered_clears a (Ports s rows) = clears_of_leaves a (answers_desk a (Ports s rows)) (all_asked (map DeleteAll (record { 0 = 0 } ∷ up_ports a.controller)) a)
  answered_clears a (Failed s code) = clears_of_leaves a (answers_desk a (Failed s code)) (node_leaves port some a)

  answer_clears : (a : Acted) (message : Message) → Clears a (answer_comes a message)
  answer_clears a message =
      let answer : Answered = answered a.controller.desk message in
      let b : Acted = with_desk a (after_answer a.controller.desk answer) in
      clears_then a b (answer_comes a message) (clears_of_leaves a b (leaves_same port some a b refl refl refl refl refl refl refl refl)) (answered_clears b answer)

  -- *The adjacency with the switch*, where the node is up before
  greeted_leaves : (a : Acted) (step : sides.Step Party) → IsUp a → On a (steps a step)
  greeted_leaves a step up =
      let b : Acted = record a { controller = record a.controller { adjacency = step.side } } in
      leaves_then port some a b (steps a step) (quietly_up port some a b (goes_same (home port some) a b refl refl refl refl refl) refl (λ is. up) refl) (answers_leave port some b step.answer)

  pub message_clears : (a : Acted) (message : Message) → IsUp a → Clears a (message_comes a message)
  message_clears a (messages.Adjacency greeting) up = clears_of_leaves a (message_comes a (messages.Adjacency greeting)) (greeted_leaves a (gsmp_received a.controller.adjacency greeting) up)
  message_clears a (messages.Branch kind result code number session input_port input output_port output branches priority) up =
      answer_clears a (messages.Branch kind result code number session input_port input output_port output branches priority)
  message_clears a (messages.Move result code number session input_port input output_port output target_port target branches priority) up =
      answer_clears a (messages.Move result code number session input_port input output_port output target_port target branches priority)
  message_clears a (messages.Port result code number port_named session function) up = answer_clears a (messages.Port result code number port_named session function)
  message_clears a (messages.AllPorts result code number rows) up = answer_clears a (messages.AllPorts result code number rows)
