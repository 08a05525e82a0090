-- how many messages a port says as its controller hears of its switch: one for each join that is released, and one for what was asked

use Rattle.std.proofs.Common.{◌≡◌, ℕ, ◌≤◌, true, List, [], ◌∷◌, length, map, flat_map, Option, None, Some, refl, arith, fold, if◌then◌else◌}
use Rattle.std.proofs.lemmas.List.{length-map}
use Rattle.std.specs.Prelude.{◌+◌}
use Rattle.world_model.specs.Words.{PortNo, End, Party, Peer, Said, Step, Answer, Quiet, Send, Open, is_estab, greeting_of, gsmp_answer, gsmp_received, number_of_channel, RouteChange, Request, AddBranch, MoveBranch, DeleteTree, VerifyTree, PortManagement, Part, halts_if_spent, Linked, linked_at, with_linked, with_desk, begins, asks, meets, empty_desk, says_gsmp, parted, given_back, joins_of, join_of, parts, gives_back, releases_join, releases_input, released_inputs, resets_spent, releases, up_ports, default_branches, ends_meeting, has_emptied, tells_port, behind_delete_all, causes_in_estab, causes, may_clear, clears_of, clears_port, clears, changed_joins, takes_join_back, begins_change, takes_change, may_take, takes_each, takes_changes, default_end, default_home, default_channel, home_of, leads_home, Answered, Unknown, Done, Ports, Failed, answered, after_answer, answer_comes}
use Rattle.world_model.specs.adjacency_table.declared.message.Answer.TheVariants.{Reset}
use Rattle.world_model.specs.gsmp_wire.Layout.{octets_of as gsmp_octets}
use Rattle.world_model.specs.gsmp_wire.declared.message.Message.{Message}
use Rattle.world_model.specs.gsmp_wire.declared.message.Message.TheVariants as messages
use Rattle.world_model.specs.gsmp_wire.declared.request.Request.TheVariants.{DeleteAll, AllPorts}
use Rattle.world_model.specs.port_model.Answers as port_answers
use Rattle.world_model.specs.port_model.Resets.{cleared}
use Rattle.world_model.specs.Controller.{Acted, note, ports_of}
use Rattle.world_model.specs.Gsmp.{answers, steps, message_comes}
use Rattle.world_model.specs.Joins.{Join, output_joined}
use Rattle.world_model.specs.Meeting.{request_port, takes_success, answers_desk}
use Rattle.law_port_facts.proofs.Keyed.{on_both}
use Rattle.law_controller_facts.proofs.Marked.{filter_few}
use Rattle.law_live_others.specs.Law.{IsUp}
use Rattle.law_live_others.proofs.Working.{own_place, node_leaves, control_leaves, asks_leaves, back_leaves}
use Rattle.law_live_others.proofs.Settling.{anyhow}
use Rattle.law_link_numbers.proofs.Room.{closing}
use Rattle.law_link_numbers.proofs.Hearing.{doing, parting, giving_back}
use Rattle.law_link_numbers.proofs.Spending.{At, Costs, fewer_at, costs_more, costs_then, costs_behind, costs_before, costs_alike, costs_same, costs_none, costs_fold, costs_each, costs_put, rule_none, rule_one}

module _ (port : PortNo) (own : Peer) where
  abbrev Spends : ℕ → Acted → Acted → Type 0
  Spends c a b = Costs port own c a b

  none_one : (a b : Acted) → Spends 0 a b → Spends 1 a b
  none_one a b h = costs_more port own 0 1 a b (omega arith) h

  -- *What is asked*
  pub asks_cost : (a : Acted) (request : Request) → Costs port own 0 a (asks a request)
  asks_cost a request = costs_alike port own a (asks a request) (asks_leaves (anyhow port) a request)

  all_asked : (requests : List Request) (a : Acted) → Spends 0 a (fold asks a requests)
  all_asked requests a = costs_fold port own asks asks_cost requests a

  -- *Joins are released*
  parts_cost : (a : Acted) (input : End) → Spends 0 a (parts a input)
  parts_cost a input =
      let b : Acted = note a (Part a.controller.node input.port (number_of_channel input.channel)) in
      costs_behind port own 0 a b (parts a input) (costs_same port own a b refl refl)
      (rule_none port own b input.port (λ setup desk w. parted w (number_of_channel input.channel)) (λ q found k room. parting own (begins b q) (number_of_channel input.channel) room))

  back_costs : (a : Acted) (join : Join) → Spends 1 a (gives_back a join)
  back_costs a join = rule_one port own a join.port (λ setup desk w. given_back w join.grant) (λ q found k room. giving_back own (begins a q) join.grant room)

  input_costs : (a : Acted) (input : End) → Spends 1 a (releases_input a input)
  input_costs a input = by (join_of a.controller input)
    where
      by : (o : Option Join) → Spends 1 a (releases_join a o)
      by None = none_one a a (costs_none port own a)
      by (Some join) = costs_behind port own 1 a (parts a join.input) (gives_back (parts a join.input) join) (parts_cost a join.input) (back_costs (parts a join.input) join)

  spent_costs : (a : Acted) (q : PortNo) → Spends 0 a (resets_spent a q)
  spent_costs a q = rule_none port own a q (λ setup desk w. halts_if_spent w) (λ l found k room. closing own (begins a l) room)

  released_few : (a : Acted) (request : Request) → length (released_inputs a.controller request) ≤ length (joins_of a.controller)
  released_few a request = on (length (released_inputs a.controller request)) (length inputs) (length (joins_of a.controller))
      (filter_few (λ (input : End). leads_home input (home_of input) request) inputs) (length-map (joins_of a.controller) (λ (join : Join). join.input))
    where
      inputs : List End
      inputs = map (λ (join : Join). join.input) (joins_of a.controller)

      on : (x y z : ℕ) → x ≤ y → y ≡ z → x ≤ z
      on x y z few same = omega (arith, few, same)

  releases_cost : (a : Acted) (request : Request) → Spends (length (joins_of a.controller)) a (releases a request)
  releases_cost a request =
      let released : Acted = fold releases_input a (released_inputs a.controller request) in
      costs_more port own (length (released_inputs a.controller request)) (length (joins_of a.controller)) a (releases a request) (released_few a request)
      (costs_before port own (length (released_inputs a.controller request)) a released (releases a request)
      (costs_each port own releases_input input_costs (released_inputs a.controller request) a)
      (costs_fold port own resets_spent spent_costs (ports_of released.controller) released))

  -- *What a success causes*
  meeting_costs : (a : Acted) → Spends 0 a (ends_meeting a)
  meeting_costs a =
      let b : Acted = record a { controller = record a.controller { has_met = true } } in
      costs_behind port own 0 a b (ends_meeting a) (costs_same port own a b refl refl) (all_asked (flat_map default_branches (up_ports a.controller)) b)

  behind_costs : (a : Acted) (q : PortNo) → Spends 0 a (behind_delete_all a q)
  behind_costs a q = on_both (Spends 0 a) a.controller.has_met (asks a (AddBranch (default_end q) (default_home q))) (if has_emptied a.controller then ends_meeting a else a)
      (asks_cost a (AddBranch (default_end q) (default_home q)))
      (on_both (Spends 0 a) (has_emptied a.controller) (ends_meeting a) a (meeting_costs a) (costs_none port own a))

  tells_cost : (a : Acted) (request : Request) (o : Option PortNo) → Spends 1 a (tells_port a request o)
  tells_cost a request None = none_one a a (costs_none port own a)
  tells_cost a request (Some q) = rule_one port own a q (λ setup desk w. port_answers.done setup w request)
      (λ l found k room. doing own l.setup a.controller.desk (begins a l) request room)

  caused_costs : (a : Acted) (request : Request) → Spends 1 a (causes_in_estab a request)
  caused_costs a (DeleteAll q) = none_one a (behind_delete_all a q) (behind_costs a q)
  caused_costs a (AddBranch input output) = tells_cost a (AddBranch input output) (request_port (AddBranch input output))
  caused_costs a (MoveBranch input from to) = tells_cost a (MoveBranch input from to) (request_port (MoveBranch input from to))
  caused_costs a (DeleteTree input) = tells_cost a (DeleteTree input) (request_port (DeleteTree input))
  caused_costs a (VerifyTree input) = tells_cost a (VerifyTree input) (request_port (VerifyTree input))
  caused_costs a (PortManagement q function) = tells_cost a (PortManagement q function) (request_port (PortManagement q function))
  caused_costs a AllPorts = none_one a a (costs_none port own a)

  causes_cost : (a : Acted) (request : Request) → Spends 1 a (causes a request)
  causes_cost a request = on_both (Spends 1 a) (is_estab a.controller.adjacency.state) (causes_in_estab a request) a (caused_costs a request) (none_one a a (costs_none port own a))

  -- *A port is cleared*
  clear_costs : (a : Acted) (q : PortNo) → Spends 0 a (clears_port a q)
  clear_costs a q = by (linked_at a.controller q) refl
    where
      by : (o : Option Linked) → linked_at a.controller q ≡ o → Spends 0 a (clears_of a o)
      by None found = costs_none port own a
      by (Some linked) found = on_both (Spends 0 a) (may_clear a.controller linked) (with_linked a (record linked { port = cleared linked.port })) a
          (costs_put port own a (with_linked a (record linked { port = cleared linked.port })) linked (record linked { port = cleared linked.port }) (own_place a q linked found) refl refl refl refl refl)
          (costs_none port own a)

  -- *Changes of routes*
  begins_cost : (a : Acted) (change : RouteChange) → Spends 0 a (begins_change a change)
  begins_cost a change =
      let begun : Acted = record a { controller = record a.controller { is_begun = true } } in
      on_both (Spends 0 a) a.controller.is_begun a (fold takes_join_back begun (changed_joins a.controller change)) (costs_none port own a)
      (costs_behind port own 0 a begun (fold takes_join_back begun (changed_joins a.controller change)) (costs_same port own a begun refl refl)
      (costs_fold port own takes_join_back (λ b join. costs_alike port own b (takes_join_back b join) (back_leaves (anyhow port) b join.input (output_joined join))) (changed_joins a.controller change) begun))

  each_costs : (changes : List RouteChange) (a : Acted) → Spends 0 a (takes_each a changes)
  each_costs [] a = costs_none port own a
  each_costs (change ∷ later) a =
      let begun : Acted = begins_change a change in
      costs_behind port own 0 a begun (takes_each a (change ∷ later)) (begins_cost a change)
      (on_both (Spends 0 begun) (may_take begun.controller change) (takes_each (takes_change begun change later) later) begun
      (costs_behind port own 0 begun (takes_change begun change later) (takes_each (takes_change begun change later) later)
      (costs_same port own begun (takes_change begun change later) refl refl) (each_costs later (takes_change begun change later)))
      (costs_none port own begun))

  changes_cost : (a : Acted) → Spends 0 a (takes_changes a)
  changes_cost a = on_both (Spends 0 a) a.controller.has_met (takes_each a a.controller.waiting) a (each_costs a.controller.waiting a) (costs_none port own a)

  -- *An answer*
  abbrev all_joins : Acted → ℕ
  all_joins a = length (joins_of a.controller)

  none_all : (a b : Acted) → Spends 0 a b → Spends (all_joins a + 1) a b
  none_all a b h = costs_more port own 0 (all_joins a + 1) a b (low (all_joins a)) h
    where
      low : (n : ℕ) → 0 ≤ n + 1
      low n = omega arith

  success_costs : (a : Acted) (request : Request) → Spends (all_joins a + 1) a (takes_success a request)
  success_costs a request =
      let released : Acted = releases a request in
      let caused : Acted = causes released request in
      costs_before port own (all_joins a + 1) a caused (takes_success a request)
      (costs_then port own (all_joins a) 1 a released caused (releases_cost a request) (causes_cost released request))
      (costs_behind port own 0 caused (clears caused) (takes_success a request) (costs_fold port own clears_port clear_costs (ports_of caused.controller) caused) (changes_cost (clears caused)))

  answered_costs : (a : Acted) (answer : Answered) → Spends (all_joins a + 1) a (answers_desk a answer)
  answered_costs a Unknown = none_all a a (costs_none port own a)
  answered_costs a (Done s) = success_costs a s.request
  answered_costs a (Ports s rows) = none_all a (answers_desk a (Ports s rows)) (all_asked (map DeleteAll (record { 0 = 0 } ∷ up_ports a.controller)) a)
  answered_costs a (Failed s code) = none_all a (answers_desk a (Failed s code)) (costs_alike port own a (answers_desk a (Failed s code)) (node_leaves (anyhow port) a))

  answer_costs : (a : Acted) (message : Message) → Spends (all_joins a + 1) a (answer_comes a message)
  answer_costs a message =
      let answer : Answered = answered a.controller.desk message in
      let b : Acted = with_desk a (after_answer a.controller.desk answer) in
      costs_behind port own (all_joins a + 1) a b (answer_comes a message) (costs_same port own a b refl refl) (answered_costs b answer)

  -- *The adjacency with the switch*, where the node is up before
  meets_cost : (a : Acted) → Spends 0 a (meets a)
  meets_cost a = costs_behind port own 0 a (with_desk a empty_desk) (meets a) (costs_same port own a (with_desk a empty_desk) refl refl) (asks_cost (with_desk a empty_desk) AllPorts)

  told_cost : (a : Acted) (message : Message) → Spends 0 a (says_gsmp a message)
  told_cost a message = costs_alike port own a (says_gsmp a message) (control_leaves (anyhow port) a default_channel (gsmp_octets message))

  pub turns_cost : (a : Acted) (answer : Answer (Said Party) Party) → Costs port own 0 a (answers a (gsmp_answer answer))
  turns_cost a Quiet = costs_none port own a
  turns_cost a (Send m) = told_cost a (messages.Adjacency (greeting_of m))
  turns_cost a (Open None key_of) = meets_cost a
  turns_cost a (Open (Some m) key_of) = costs_behind port own 0 a (says_gsmp a (messages.Adjacency (greeting_of m))) (meets (says_gsmp a (messages.Adjacency (greeting_of m))))
      (told_cost a (messages.Adjacency (greeting_of m))) (meets_cost (says_gsmp a (messages.Adjacency (greeting_of m))))
  turns_cost a Reset = costs_alike port own a (answers a (gsmp_answer Reset)) (node_leaves (anyhow port) a)

  pub steps_cost : (a : Acted) (step : Step Party) → IsUp a → Costs port own 0 a (steps a step)
  steps_cost a step up =
      let b : Acted = record a { controller = record a.controller { adjacency = step.side } } in
      costs_behind port own 0 a b (steps a step)
      (record { up = λ is. up; kept = λ is k h. (let g : At port own k a = fewer_at port own a (none_on k) h in record { linked = g.linked; is = g.is; own_party = g.own_party; room = g.room }) })
      (turns_cost b step.answer)
    where
      none_on : (n : ℕ) → n ≤ 0 + n
      none_on n = omega arith

  pub message_costs : (a : Acted) (message : Message) → IsUp a → Costs port own (length (joins_of a.controller) + 1) a (message_comes a message)
  message_costs a (messages.Adjacency greeting) up = none_all a (message_comes a (messages.Adjacency greeting)) (steps_cost a (gsmp_received a.controller.adjacency greeting) up)
  message_costs a (messages.Branch kind result code number session input_port input output_port output branches priority) up =
      answer_costs a (messages.Branch kind result code number session input_port input output_port output branches priority)
  message_costs a (messages.Move result code number session input_port input output_port output target_port target branches priority) up =
      answer_costs a (messages.Move result code number session input_port input output_port output target_port target branches priority)
  message_costs a (messages.Port result code number port_named session function) up = answer_costs a (messages.Port result code number port_named session function)
  message_costs a (messages.AllPorts result code number rows) up = answer_costs a (messages.AllPorts result code number rows)
