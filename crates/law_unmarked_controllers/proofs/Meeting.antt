-- releases and joins, changes of routes, the meeting of the switch, its answers, and a tick

use Rattle.std.proofs.Common.{◌≡◌, ℕ, ◌+◌, ◌&&◌, true, false, not, List, [], ◌∷◌, ◌++◌, map, fold, Option, None, Some, refl, sym, ◌∙◌, ap, if◌then◌else◌}
use Rattle.std.specs.Prelude.{find, filter, flat_map}
use Rattle.std.specs.List.{list_any}
use Rattle.std.specs.Option.{option_map}
use Rattle.world_model.specs.Words.{PortNo, End, Party, Greeting, number_of_channel, RouteChange, changed, Request, AddBranch, MoveBranch, DeleteTree, VerifyTree, PortManagement, Answer, Quiet, Send, Open, Said, Step, is_estab, ticked, gsmp_answer, gsmp_received, empty_desk, sent_again, Answered, Unknown, Done, Ports, Failed, answered, after_answer, Label, leads_home, same_end, halts_if_spent, home_of, Part, Routes, Record, Linked, linked_at, with_linked, with_desk, default_end, default_home, says_gsmp, sends_request, asks, at_port, join_of, parts, gives_back, releases_join, releases_input, released_inputs, resets_spent, releases, join_for, may_join, enters_grant, enters_label, joins, tries_label, label_on, tries_join, inputs_at, tries_joins, is_changed, changed_joins, takes_join_back, begins_change, takes_change, may_take, takes_each, takes_changes, change_comes, meets, up_ports, empties, default_branches, ends_meeting, has_emptied, tells_port, behind_delete_all, causes_in_estab, causes, may_clear, clears_of, clears_port, clears, answers_desk, answer_comes, sends_again, ticks_port, ticks_ports, ticks_by}
use Rattle.world_model.specs.gsmp_wire.declared.request.Request.TheVariants.{DeleteAll, AllPorts}
use Rattle.world_model.specs.gsmp_wire.declared.message.Message.{Message}
use Rattle.world_model.specs.gsmp_wire.declared.message.Message.TheVariants as messages
use Rattle.world_model.specs.adjacency_table.declared.message.Answer.TheVariants.{Reset}
use Rattle.world_model.specs.port_model.Messages.{is_up}
use Rattle.world_model.specs.port_model.Answers as port_answers
use Rattle.world_model.specs.port_model.Joins as port_joins
use Rattle.world_model.specs.port_model.Resets.{cleared}
use Rattle.world_model.specs.port_model.Ticks as port_ticks
use Rattle.world_model.specs.Controller.{Acted, ports_of, note}
use Rattle.world_model.specs.Joins.{Join, output_joined}
use Rattle.world_model.specs.Meeting.{request_port, takes_success}
use Rattle.world_model.specs.Gsmp.{answers, steps, message_comes}
use Rattle.world_model.specs.Ticks.{ticks}
use Rattle.law_unmarked_controllers.specs.Unmarked.{unmarked_linked, bare}
use Rattle.law_unmarked_controllers.proofs.Controllers.{linked_twice, linked_same, ports_same, joins_same, inputs_same, label_same, join_for_same, placed}
use Rattle.law_unmarked_controllers.proofs.Rules.{Blind, once, noted_alike, behind, folded, folded_over, each_port, by_read, chosen, node_blind, said_blind, request_blind, asks_blind, takes_back_blind, at_port_blind}

-- *Release*
parts_blind : (input : End) → Blind (λ a. parts a input)
parts_blind input a =
    let number : ℕ = number_of_channel input.channel in
    behind (λ b. at_port b input.port (λ setup desk w. port_joins.parted w number)) (at_port_blind (λ setup desk w. port_joins.parted w number) input.port)
    (note a (Part a.controller.node input.port number)) (note (bare a) (Part a.controller.node input.port number)) (noted_alike a (bare a) (once a) (Part a.controller.node input.port number) (Part a.controller.node input.port number) refl)

gives_back_blind : (join : Join) → Blind (λ a. gives_back a join)
gives_back_blind join = at_port_blind (λ setup desk w. port_joins.given_back w join.grant) join.port

join_blind : (o : Option Join) → Blind (λ a. releases_join a o)
join_blind None a = once a
join_blind (Some join) a = behind (λ b. gives_back b join) (gives_back_blind join) (parts a join.input) (parts (bare a) join.input) (parts_blind join.input a)

input_blind : (input : End) → Blind (λ a. releases_input a input)
input_blind input a = by_read releases_join join_blind a (join_of a.controller input) (join_of (bare a).controller input) (ap (find (λ join. same_end join.input input)) (joins_same a.controller))

spent_blind : (port : PortNo) → Blind (λ a. resets_spent a port)
spent_blind port = at_port_blind (λ setup desk w. halts_if_spent w) port

releases_blind : (request : Request) → Blind (λ a. releases a request)
releases_blind request a =
    let inputs : List End = released_inputs a.controller request in
    let others : List End = released_inputs (bare a).controller request in
    let same : others ≡ inputs = ap (λ (js : List Join). filter (λ input. leads_home input (home_of input) request) (map (λ join. join.input) js)) (joins_same a.controller) in
    behind (λ b. fold resets_spent b (ports_of b.controller)) (each_port resets_spent spent_blind) (fold releases_input a inputs) (fold releases_input (bare a) others)
    (folded_over releases_input input_blind inputs others same a (bare a) (once a))

-- *Joining*
enters_grant_blind : (join : Join) → Blind (λ a. enters_grant a join)
enters_grant_blind join = at_port_blind (λ setup desk w. port_joins.lent w join.grant join.input) join.port

enters_label_blind : (join : Join) → Blind (λ a. enters_label a join)
enters_label_blind join = at_port_blind (λ setup desk w. port_joins.joined w (number_of_channel join.input.channel) (output_joined join)) join.input.port

joins_blind : (o : Option Join) → Blind (λ a. joins a o)
joins_blind None a = once a
joins_blind (Some join) a =
    let request : Request = MoveBranch join.input (home_of join.input) (output_joined join) in
    behind (λ b. asks b request) (asks_blind request) (enters_label (enters_grant a join) join) (enters_label (enters_grant (bare a) join) join)
    (behind (λ b. enters_label b join) (enters_label_blind join) (enters_grant a join) (enters_grant (bare a) join) (enters_grant_blind join a))

tries_label_blind : (input : End) (o : Option Label) → Blind (λ a. tries_label a input o)
tries_label_blind input None a = once a
tries_label_blind input (Some label) a =
    let one : Option Join = join_for a.controller input label.flow in
    let other : Option Join = join_for (bare a).controller input label.flow in
    chosen (may_join a.controller input label) (joins a one) a (joins (bare a) other) (bare a)
    (by_read joins joins_blind a one other (join_for_same a.controller input _ _)) (once a)

tries_join_blind : (input : End) → Blind (λ a. tries_join a input)
tries_join_blind input a = by_read (λ b o. tries_label b input o) (tries_label_blind input) a (label_on a.controller input) (label_on (bare a).controller input) (label_same a.controller input)

tries_joins_blind : Blind tries_joins
tries_joins_blind a = folded_over tries_join tries_join_blind (flat_map inputs_at a.controller.ports) (flat_map inputs_at (bare a).controller.ports) (inputs_same a.controller) a (bare a) (once a)

-- *Changes of routes*
join_back_blind : (join : Join) → Blind (λ a. takes_join_back a join)
join_back_blind join = takes_back_blind join.input (output_joined join)

begins_blind : (change : RouteChange) → Blind (λ a. begins_change a change)
begins_blind change a =
    let one : Acted = record a { controller = record a.controller { is_begun = true } } in
    let other : Acted = record (bare a) { controller = record (bare a).controller { is_begun = true } } in
    chosen a.controller.is_begun a (fold takes_join_back one (changed_joins a.controller change)) (bare a) (fold takes_join_back other (changed_joins (bare a).controller change)) (once a)
    (folded_over takes_join_back join_back_blind (changed_joins a.controller change) (changed_joins (bare a).controller change) (ap (filter (is_changed a.controller.table change)) (joins_same a.controller)) one other
    (λ i. record (once a i) { controller = record (once a i).controller { is_begun = true } }))

takes_change_blind : (change : RouteChange) (later : List RouteChange) → Blind (λ a. takes_change a change later)
takes_change_blind change later a =
    let item : Record = Routes a.controller.node (a.controller.changes + 1) in
    noted_alike (record a { controller = record a.controller { table = changed a.controller.table change; waiting = later; is_begun = false; changes = a.controller.changes + 1 } })
    (record (bare a) { controller = record (bare a).controller { table = changed a.controller.table change; waiting = later; is_begun = false; changes = a.controller.changes + 1 } })
    (λ i. record (once a i) { controller = record (once a i).controller { table = changed a.controller.table change; waiting = later; is_begun = false; changes = a.controller.changes + 1 } }) item item refl

-- one that is begun is taken where it may be, and then the others
abbrev taken_of : RouteChange → (later : List RouteChange) → Acted → Acted
taken_of change later begun = if may_take begun.controller change then takes_each (takes_change begun change later) later else begun

taken_blind : (change : RouteChange) (later : List RouteChange) → Blind (λ a. takes_each a later) → Blind (taken_of change later)
taken_blind change later blind b =
    chosen (may_take b.controller change) (takes_each (takes_change b change later) later) b (takes_each (takes_change (bare b) change later) later) (bare b)
    (behind (λ c. takes_each c later) blind (takes_change b change later) (takes_change (bare b) change later) (takes_change_blind change later b)) (once b)
    ∙ ap (λ (js : List Join). bare (if b.controller.has_met && not (list_any (is_changed b.controller.table change) js) then takes_each (takes_change (bare b) change later) later else bare b)) (sym (joins_same b.controller))

takes_each_blind : (changes : List RouteChange) → Blind (λ a. takes_each a changes)
takes_each_blind [] a = once a
takes_each_blind (change ∷ later) a = behind (taken_of change later) (taken_blind change later (takes_each_blind later)) (begins_change a change) (begins_change (bare a) change) (begins_blind change a)

changes_blind : Blind takes_changes
changes_blind a = chosen a.controller.has_met (takes_each a a.controller.waiting) a (takes_each (bare a) a.controller.waiting) (bare a) (takes_each_blind a.controller.waiting a) (once a)

pub change_comes_blind : (change : RouteChange) → Blind (λ a. change_comes a change)
change_comes_blind change a = behind takes_changes changes_blind (record a { controller = record a.controller { waiting = a.controller.waiting ++ change ∷ [] } })
    (record (bare a) { controller = record (bare a).controller { waiting = (bare a).controller.waiting ++ change ∷ [] } })
    (λ i. record (once a i) { controller = record (once a i).controller { waiting = (once a i).controller.waiting ++ change ∷ [] } })

-- *Meeting the switch*
meets_blind : Blind meets
meets_blind a = behind (λ b. asks b AllPorts) (asks_blind AllPorts) (with_desk a empty_desk) (with_desk (bare a) empty_desk) (λ i. with_desk (once a i) empty_desk)

up_same : (a : Acted) → up_ports (bare a).controller ≡ up_ports a.controller
up_same a = ap (filter (is_up a.controller.desk.rows)) (ports_same a.controller)

empties_blind : Blind empties
empties_blind a = folded_over asks asks_blind (map DeleteAll (record { 0 = 0 } ∷ up_ports a.controller)) (map DeleteAll (record { 0 = 0 } ∷ up_ports (bare a).controller))
    (ap (λ (ports : List PortNo). map DeleteAll (record { 0 = 0 } ∷ ports)) (up_same a)) a (bare a) (once a)

ends_meeting_blind : Blind ends_meeting
ends_meeting_blind a = folded_over asks asks_blind (flat_map default_branches (up_ports a.controller)) (flat_map default_branches (up_ports (bare a).controller)) (ap (flat_map default_branches) (up_same a))
    (record a { controller = record a.controller { has_met = true } }) (record (bare a) { controller = record (bare a).controller { has_met = true } })
    (λ i. record (once a i) { controller = record (once a i).controller { has_met = true } })

-- *What an answer causes*
tells_blind : (request : Request) (o : Option PortNo) → Blind (λ a. tells_port a request o)
tells_blind request None a = once a
tells_blind request (Some port) a = at_port_blind (λ setup desk w. port_answers.done setup w request) port a

behind_blind : (port : PortNo) → Blind (λ a. behind_delete_all a port)
behind_blind port a =
    let request : Request = AddBranch (default_end port) (default_home port) in
    chosen a.controller.has_met (asks a request) (if has_emptied a.controller then ends_meeting a else a) (asks (bare a) request) (if has_emptied a.controller then ends_meeting (bare a) else bare a)
    (asks_blind request a) (chosen (has_emptied a.controller) (ends_meeting a) a (ends_meeting (bare a)) (bare a) (ends_meeting_blind a) (once a))

in_estab_blind : (request : Request) → Blind (λ a. causes_in_estab a request)
in_estab_blind (DeleteAll port) a = behind_blind port a
in_estab_blind (AddBranch input output) a = tells_blind (AddBranch input output) (request_port (AddBranch input output)) a
in_estab_blind (MoveBranch input from to) a = tells_blind (MoveBranch input from to) (request_port (MoveBranch input from to)) a
in_estab_blind (DeleteTree input) a = tells_blind (DeleteTree input) (request_port (DeleteTree input)) a
in_estab_blind (VerifyTree input) a = tells_blind (VerifyTree input) (request_port (VerifyTree input)) a
in_estab_blind (PortManagement port function) a = tells_blind (PortManagement port function) (request_port (PortManagement port function)) a
in_estab_blind AllPorts a = tells_blind AllPorts (request_port AllPorts) a

causes_blind : (request : Request) → Blind (λ a. causes a request)
causes_blind request a = chosen (is_estab a.controller.adjacency.state) (causes_in_estab a request) a (causes_in_estab (bare a) request) (bare a) (in_estab_blind request a) (once a)

clears_port_blind : (port : PortNo) → Blind (λ a. clears_port a port)
clears_port_blind port a = by (linked_at a.controller port) ∙ ap (λ (o : Option Linked). bare (clears_of (bare a) o)) (sym (linked_same a.controller port))
  where
    by : (o : Option Linked) → bare (clears_of a o) ≡ bare (clears_of (bare a) (option_map unmarked_linked o))
    by None = once a
    by (Some linked) =
        let one : Linked = record linked { port = cleared linked.port } in
        let other : Linked = record (unmarked_linked linked) { port = cleared linked.port } in
        chosen (may_clear a.controller linked) (with_linked a one) a (with_linked (bare a) other) (bare a)
        (placed a (bare a) (once a) one other (λ i. record (sym (linked_twice linked) i) { port = cleared linked.port })) (once a)

clears_blind : Blind clears
clears_blind = each_port clears_port clears_port_blind

done_blind : (request : Request) → Blind (λ a. takes_success a request)
done_blind request a =
    behind takes_changes changes_blind (clears (causes (releases a request) request)) (clears (causes (releases (bare a) request) request))
    (behind clears clears_blind (causes (releases a request) request) (causes (releases (bare a) request) request)
    (behind (λ b. causes b request) (causes_blind request) (releases a request) (releases (bare a) request) (releases_blind request a)))

answers_desk_blind : (answer : Answered) → Blind (λ a. answers_desk a answer)
answers_desk_blind Unknown a = once a
answers_desk_blind (Done s) a = done_blind s.request a
answers_desk_blind (Ports s rows) a = empties_blind a
answers_desk_blind (Failed s code) a = node_blind a

answer_comes_blind : (message : Message) → Blind (λ a. answer_comes a message)
answer_comes_blind message a =
    let answer : Answered = answered a.controller.desk message in
    behind (λ b. answers_desk b answer) (answers_desk_blind answer) (with_desk a (after_answer a.controller.desk answer)) (with_desk (bare a) (after_answer a.controller.desk answer))
    (λ i. with_desk (once a i) (after_answer a.controller.desk answer))

-- *The adjacency with the switch*
answers_blind : (answer : Answer Greeting Party) → Blind (λ a. answers a answer)
answers_blind Quiet a = once a
answers_blind (Send greeting) a = said_blind (messages.Adjacency greeting) a
answers_blind (Open None own) a = meets_blind a
answers_blind (Open (Some greeting) own) a = behind meets meets_blind (says_gsmp a (messages.Adjacency greeting)) (says_gsmp (bare a) (messages.Adjacency greeting)) (said_blind (messages.Adjacency greeting) a)
answers_blind Reset a = node_blind a

steps_blind : (step : Step Party) → Blind (λ a. steps a step)
steps_blind step a =
    behind (λ b. answers b (gsmp_answer step.answer)) (answers_blind (gsmp_answer step.answer)) (record a { controller = record a.controller { adjacency = step.side } })
    (record (bare a) { controller = record (bare a).controller { adjacency = step.side } }) (λ i. record (once a i) { controller = record (once a i).controller { adjacency = step.side } })

pub told_blind : (message : Message) → Blind (λ a. message_comes a message)
told_blind (messages.Adjacency greeting) a = steps_blind (gsmp_received a.controller.adjacency greeting) a
told_blind (messages.Branch kind result code number session input_port input output_port output branches priority) a =
    answer_comes_blind (messages.Branch kind result code number session input_port input output_port output branches priority) a
told_blind (messages.Move result code number session input_port input output_port output target_port target branches priority) a =
    answer_comes_blind (messages.Move result code number session input_port input output_port output target_port target branches priority) a
told_blind (messages.Port result code number port session function) a = answer_comes_blind (messages.Port result code number port session function) a
told_blind (messages.AllPorts result code number rows) a = answer_comes_blind (messages.AllPorts result code number rows) a

-- *Tick*
again_blind : Blind sends_again
again_blind a = chosen (is_estab a.controller.adjacency.state) (fold sends_request a (sent_again a.controller.desk)) a (fold sends_request (bare a) (sent_again a.controller.desk)) (bare a)
    (folded sends_request request_blind (sent_again a.controller.desk) a (bare a) (once a)) (once a)

ticks_ports_blind : Blind ticks_ports
ticks_ports_blind = each_port ticks_port (at_port_blind port_ticks.ticks)

ticks_on_blind : (step : Step Party) → Blind (λ a. tries_joins (ticks_ports (sends_again (steps a step))))
ticks_on_blind step a =
    behind tries_joins tries_joins_blind (ticks_ports (sends_again (steps a step))) (ticks_ports (sends_again (steps (bare a) step)))
    (behind ticks_ports ticks_ports_blind (sends_again (steps a step)) (sends_again (steps (bare a) step))
    (behind sends_again again_blind (steps a step) (steps (bare a) step) (steps_blind step a)))

ticks_by_blind : (step : Step Party) (answer : Answer (Said Party) Party) → Blind (λ a. ticks_by a step answer)
ticks_by_blind step Quiet a = ticks_on_blind step a
ticks_by_blind step (Send message) a = ticks_on_blind step a
ticks_by_blind step (Open message own) a = ticks_on_blind step a
ticks_by_blind step Reset a = node_blind a

pub ticks_blind : Blind ticks
ticks_blind a = ticks_by_blind (ticked a.controller.adjacency) (ticked a.controller.adjacency).answer a
