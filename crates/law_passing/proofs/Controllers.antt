-- whatever comes to a controller puts cells at the end of its queue, and takes none out

use Rattle.std.proofs.Common.{ℕ, true, List, [], ◌∷◌, ◌++◌, Option, None, Some, refl, if◌then◌else◌, map, fold}
use Rattle.std.specs.Prelude.{◌==◌, nat_lt, drop, flat_map, Result, Ok, Err}
use Rattle.law_actor_pace.specs.world_model.Words.{PortNo, Channel, End, Mark, Party, number_of_channel, protocol_of, source_of, PacketFault, hop_of, onward, Hop, Here, On, RouteChange, Cell, kind_of, default_payload, labelled_payload, EncapsFault, default_unwrapped, unwrapped, Request, AddBranch, MoveBranch, DeleteTree, VerifyTree, PortManagement, Said, Answer, Quiet, Send, Open, is_estab, ticked, greeting_of, gsmp_answer, gsmp_received, Part, Reassembly, Tested, tested, last_mark, next_mark, empty_desk, sent_again, Answered, Unknown, Done, Ports, Failed, answered, after_answer, home_of, control_end, Label, Grant, halts_if_spent, counts, used, hears, Linked, linked_at, with_linked, with_desk, default_end, default_home, sends_control, says_gsmp, asks, sends_request, node_restarts, join_of, parts, gives_back, releases_join, releases_input, released_inputs, resets_spent, releases, join_for, may_join, enters_grant, enters_label, joins, tries_label, label_on, tries_join, inputs_at, tries_joins, changed_joins, takes_join_back, begins_change, takes_change, may_take, takes_each, takes_changes, change_comes, meets, up_ports, default_branches, ends_meeting, has_emptied, port_of_input, tells_port, behind_delete_all, causes_in_estab, causes, may_clear, clears_of, clears_port, clears, takes_answer, answer_comes, gsmp_holds, is_control, sends_next, goes_by, grant_by, forwards_packet, control_protocol, injected, ForGsmp, ForDefault, ForLabel, taker_of, takes_cell, reassembly_of, with_reassembly, label_holds, ifmp_holds, counted_at, packet_holds, default_holds, frame_holds, sends_again, ticks_port, ticks_ports, ticks_by}
use Rattle.law_actor_pace.specs.world_model.ipv4_packet.Packet.{first_fault}
use Rattle.law_actor_pace.specs.world_model.ipv4_forward.declared.outcome.Hop.TheVariants.{NoRoute, Expired}
use Rattle.law_actor_pace.specs.world_model.ifmp_wire.declared.message.Message.{Message as IfmpMessage}
use Rattle.law_actor_pace.specs.world_model.ifmp_wire.declared.reader.Fault.{Fault as IfmpFault}
use Rattle.law_actor_pace.specs.world_model.ifmp_wire.Fields.{decoded as ifmp_decoded}
use Rattle.law_actor_pace.specs.world_model.gsmp_wire.Fields.{decoded as gsmp_decoded}
use Rattle.law_actor_pace.specs.world_model.gsmp_wire.declared.fault.Fault.{Fault as GsmpFault}
use Rattle.law_actor_pace.specs.world_model.gsmp_wire.declared.message.Message.{Message}
use Rattle.law_actor_pace.specs.world_model.gsmp_wire.declared.message.Message.TheVariants as messages
use Rattle.law_actor_pace.specs.world_model.gsmp_wire.declared.request.Request.TheVariants.{DeleteAll, AllPorts}
use Rattle.law_actor_pace.specs.world_model.adjacency_table.declared.message.Answer.TheVariants.{Reset}
use Rattle.law_actor_pace.specs.world_model.adjacency_table.Side as sides
use Rattle.law_actor_pace.specs.world_model.frame_model.Reassembly.{Taken, taken}
use Rattle.law_actor_pace.specs.world_model.port_model.Desk.{message_at}
use Rattle.law_actor_pace.specs.world_model.port_model.Answers as port_answers
use Rattle.law_actor_pace.specs.world_model.port_model.Joins as port_joins
use Rattle.law_actor_pace.specs.world_model.port_model.Resets.{cleared}
use Rattle.law_actor_pace.specs.world_model.port_model.Ticks as port_ticks
use Rattle.law_actor_pace.specs.world_model.Controller.{Acted, free_slots, ports_of, note}
use Rattle.law_actor_pace.specs.world_model.Sending.{sends}
use Rattle.law_actor_pace.specs.world_model.Joins.{Join, output_joined}
use Rattle.law_actor_pace.specs.world_model.Meeting.{takes_success}
use Rattle.law_actor_pace.specs.world_model.Gsmp.{answers, steps, message_comes}
use Rattle.law_actor_pace.specs.world_model.Packets.{forwarded}
use Rattle.law_actor_pace.specs.world_model.Cells.{Taker, opened_frame, ends_frame, after_cell, cell_comes}
use Rattle.law_actor_pace.specs.world_model.Ticks.{ticks}
use Rattle.law_actor_pace.proofs.Cells.{on_both}
use Rattle.law_passing.proofs.Rules.{Adds, itself, adds_then, adds_fold, same, sends_adds, sends_control_adds, says_gsmp_adds, node_resets_adds, asks_adds, takes_back_adds, at_port_adds, node_restarts_adds}

abbrev To : Acted → Acted → Type 0
To a b = Adds a b

-- *Releases*
releases_join_adds : (a : Acted) (o : Option Join) → To a (releases_join a o)
releases_join_adds a None = itself a
releases_join_adds a (Some join) =
    let noted : Acted = note a (Part a.controller.node join.input.port (number_of_channel join.input.channel)) in
    adds_then a (parts a join.input) (gives_back (parts a join.input) join)
    (adds_then a noted (parts a join.input) (same a noted refl refl)
    (at_port_adds noted join.input.port (λ setup desk w. port_joins.parted w (number_of_channel join.input.channel))))
    (at_port_adds (parts a join.input) join.port (λ setup desk w. port_joins.given_back w join.grant))

pub releases_adds : (a : Acted) (request : Request) → To a (releases a request)
releases_adds a request =
    let released : Acted = fold releases_input a (released_inputs a.controller request) in
    adds_then a released (releases a request)
    (adds_fold releases_input (λ b input. releases_join_adds b (join_of b.controller input)) (released_inputs a.controller request) a)
    (adds_fold resets_spent (λ b port. at_port_adds b port (λ setup desk w. halts_if_spent w)) (ports_of released.controller) released)

-- *What an answer causes*
ends_meeting_adds : (a : Acted) → To a (ends_meeting a)
ends_meeting_adds a =
    let met : Acted = record a { controller = record a.controller { has_met = true } } in
    adds_then a met (ends_meeting a) (same a met refl refl) (adds_fold asks asks_adds (flat_map default_branches (up_ports a.controller)) met)

tells_adds : (a : Acted) (request : Request) (port : PortNo) → To a (tells_port a request (Some port))
tells_adds a request port = at_port_adds a port (λ setup desk w. port_answers.done setup w request)

behind_adds : (a : Acted) (port : PortNo) → To a (behind_delete_all a port)
behind_adds a port = on_both (To a) a.controller.has_met (asks a (AddBranch (default_end port) (default_home port))) (if has_emptied a.controller then ends_meeting a else a)
    (asks_adds a (AddBranch (default_end port) (default_home port))) (on_both (To a) (has_emptied a.controller) (ends_meeting a) a (ends_meeting_adds a) (itself a))

causes_in_adds : (a : Acted) (request : Request) → To a (causes_in_estab a request)
causes_in_adds a (AddBranch input output) = tells_adds a (AddBranch input output) (port_of_input input output)
causes_in_adds a (MoveBranch input from to) = tells_adds a (MoveBranch input from to) (port_of_input input to)
causes_in_adds a (DeleteTree input) = tells_adds a (DeleteTree input) input.port
causes_in_adds a (VerifyTree input) = tells_adds a (VerifyTree input) input.port
causes_in_adds a (DeleteAll port) = behind_adds a port
causes_in_adds a (PortManagement port function) = tells_adds a (PortManagement port function) port
causes_in_adds a AllPorts = itself a

pub causes_adds : (a : Acted) (request : Request) → To a (causes a request)
causes_adds a request = on_both (To a) (is_estab a.controller.adjacency.state) (causes_in_estab a request) a (causes_in_adds a request) (itself a)

pub clears_of_adds : (a : Acted) (o : Option Linked) → To a (clears_of a o)
clears_of_adds a None = itself a
clears_of_adds a (Some linked) = on_both (To a) (may_clear a.controller linked) (with_linked a (record linked { port = cleared linked.port })) a
    (same a (with_linked a (record linked { port = cleared linked.port })) refl refl) (itself a)

-- *Changes of routes*: one that is taken waits no more
pub begins_change_adds : (a : Acted) (change : RouteChange) → To a (begins_change a change)
begins_change_adds a change =
    let begun : Acted = record a { controller = record a.controller { is_begun = true } } in
    on_both (To a) a.controller.is_begun a (fold takes_join_back begun (changed_joins a.controller change)) (itself a)
    (adds_then a begun (fold takes_join_back begun (changed_joins a.controller change)) (same a begun refl refl)
    (adds_fold takes_join_back (λ b join. takes_back_adds b join.input (output_joined join)) (changed_joins a.controller change) begun))

taken_adds : (a : Acted) (change : RouteChange) (later : List RouteChange) → To a (takes_change a change later)
taken_adds a change later = same a (takes_change a change later) refl refl

takes_each_adds : (changes : List RouteChange) (a : Acted) → To a (takes_each a changes)
takes_each_adds [] a = itself a
takes_each_adds (change ∷ later) a =
    let begun : Acted = begins_change a change in
    let first : To a begun = begins_change_adds a change in
    on_both (To a) (may_take begun.controller change) (takes_each (takes_change begun change later) later) begun
    (adds_then a begun (takes_each (takes_change begun change later) later) first
    (adds_then begun (takes_change begun change later) (takes_each (takes_change begun change later) later)
    (taken_adds begun change later) (takes_each_adds later (takes_change begun change later))))
    first

takes_changes_adds : (a : Acted) → To a (takes_changes a)
takes_changes_adds a = on_both (To a) a.controller.has_met (takes_each a a.controller.waiting) a (takes_each_adds a.controller.waiting a) (itself a)

done_adds : (a : Acted) (request : Request) → To a (takes_success a request)
done_adds a request =
    let released : Acted = releases a request in
    let caused : Acted = causes released request in
    let cleared_ones : Acted = clears caused in
    adds_then a cleared_ones (takes_changes cleared_ones)
    (adds_then a caused cleared_ones (adds_then a released caused (releases_adds a request) (causes_adds released request))
    (adds_fold clears_port (λ b port. clears_of_adds b (linked_at b.controller port)) (ports_of caused.controller) caused))
    (takes_changes_adds cleared_ones)

-- *The switch*
answer_comes_adds : (a : Acted) (message : Message) → To a (answer_comes a message)
answer_comes_adds a message = takes (answered a.controller.desk message)
  where
    at_desk : (answer : Answered) → To a (with_desk a (after_answer a.controller.desk answer))
    at_desk answer = same a (with_desk a (after_answer a.controller.desk answer)) refl refl

    takes : (answer : Answered) → To a (takes_answer a answer)
    takes Unknown = at_desk Unknown
    takes (Done s) = adds_then a (with_desk a (after_answer a.controller.desk (Done s))) (takes_answer a (Done s)) (at_desk (Done s))
        (done_adds (with_desk a (after_answer a.controller.desk (Done s))) s.request)
    takes (Ports s rows) = (let b : Acted = with_desk a (after_answer a.controller.desk (Ports s rows)) in
        adds_then a b (takes_answer a (Ports s rows)) (at_desk (Ports s rows))
        (adds_fold asks asks_adds (map DeleteAll (record { 0 = 0 } ∷ up_ports b.controller)) b))
    takes (Failed s code) = (let b : Acted = with_desk a (after_answer a.controller.desk (Failed s code)) in
        adds_then a b (takes_answer a (Failed s code)) (at_desk (Failed s code)) (node_resets_adds b))

meets_adds : (a : Acted) → To a (meets a)
meets_adds a = adds_then a (with_desk a empty_desk) (meets a) (same a (with_desk a empty_desk) refl refl) (asks_adds (with_desk a empty_desk) AllPorts)

answers_adds : (a : Acted) (answer : Answer (Said Party) Party) → To a (answers a (gsmp_answer answer))
answers_adds a Quiet = itself a
answers_adds a (Send message) = says_gsmp_adds a (messages.Adjacency (greeting_of message))
answers_adds a (Open None own) = meets_adds a
answers_adds a (Open (Some message) own) =
    let said : Acted = says_gsmp a (messages.Adjacency (greeting_of message)) in
    adds_then a said (meets said) (says_gsmp_adds a (messages.Adjacency (greeting_of message))) (meets_adds said)
answers_adds a Reset = node_resets_adds a

pub steps_adds : (a : Acted) (step : sides.Step Party) → To a (steps a step)
steps_adds a step =
    let turned : Acted = record a { controller = record a.controller { adjacency = step.side } } in
    adds_then a turned (steps a step) (same a turned refl refl) (answers_adds turned step.answer)

told_adds : (a : Acted) (message : Message) → To a (message_comes a message)
told_adds a (messages.Adjacency greeting) = steps_adds a (gsmp_received a.controller.adjacency greeting)
told_adds a (messages.Branch kind result code number session input_port input output_port output branches priority) =
    answer_comes_adds a (messages.Branch kind result code number session input_port input output_port output branches priority)
told_adds a (messages.Move result code number session input_port input output_port output target_port target branches priority) =
    answer_comes_adds a (messages.Move result code number session input_port input output_port output target_port target branches priority)
told_adds a (messages.Port result code number port session function) = answer_comes_adds a (messages.Port result code number port session function)
told_adds a (messages.AllPorts result code number rows) = answer_comes_adds a (messages.AllPorts result code number rows)

gsmp_adds : (a : Acted) (r : Result Message GsmpFault) → To a (gsmp_holds a r)
gsmp_adds a (Ok message) = told_adds a message
gsmp_adds a (Err fault) = same a (gsmp_holds a (Err fault)) refl refl

-- *Packets*
sends_next_adds : (a : Acted) (came : Mark) (channel : Channel) (payload : List ℕ) → To a (sends_next a came channel payload)
sends_next_adds a came channel payload = on_both (To a) (is_control came) (sends_control a channel payload) (sends a channel (next_mark came) payload)
    (sends_control_adds a channel payload) (sends_adds a channel (next_mark came) payload)

goes_by_adds : (a : Acted) (came : Mark) (port : PortNo) (packet : List ℕ) (o : Option Grant) → To a (goes_by a came port packet o)
goes_by_adds a came port packet None = sends_next_adds a came (default_home port).channel (default_payload packet)
goes_by_adds a came port packet (Some grant) = sends_next_adds a came (control_end port grant.label).channel (labelled_payload (kind_of grant.flow) packet)

forwarded_adds : (a : Acted) (came : Mark) (packet : List ℕ) (hop : Hop) → To a (forwarded a came packet hop)
forwarded_adds a came packet Here = same a (forwarded a came packet Here) refl refl
forwarded_adds a came packet NoRoute = same a (forwarded a came packet NoRoute) refl refl
forwarded_adds a came packet Expired = same a (forwarded a came packet Expired) refl refl
forwarded_adds a came packet (On port) = goes_by_adds a came port (onward packet) (grant_by a.controller port (onward packet))

routes_adds : (a : Acted) (came : Mark) (packet : List ℕ) → To a (forwards_packet a came packet)
routes_adds a came packet = forwarded_adds a came packet (hop_of a.controller.table packet)

label_holds_adds : (a : Acted) (linked : Linked) (label : Label) (mark : Mark) (r : Result (List ℕ) EncapsFault) → To a (label_holds a linked label mark r)
label_holds_adds a linked label mark (Err fault) = same a (label_holds a linked label mark (Err fault)) refl refl
label_holds_adds a linked label mark (Ok packet) =
    adds_then a (forwards_packet a mark packet) (label_holds a linked label mark (Ok packet)) (routes_adds a mark packet)
    (at_port_adds (forwards_packet a mark packet) linked.setup.port (λ setup desk w. used w label.number))

ifmp_adds : (a : Acted) (port : PortNo) (packet : List ℕ) (r : Result IfmpMessage IfmpFault) → To a (ifmp_holds a port packet r)
ifmp_adds a port packet (Err fault) = same a (ifmp_holds a port packet (Err fault)) refl refl
ifmp_adds a port packet (Ok message) = at_port_adds a port (λ setup desk w. hears setup desk w (source_of packet) message)

packet_adds : (a : Acted) (port : PortNo) (mark : Mark) (packet : List ℕ) (o : Option PacketFault) → To a (packet_holds a port mark packet o)
packet_adds a port mark packet (Some fault) = same a (packet_holds a port mark packet (Some fault)) refl refl
packet_adds a port mark packet None = on_both (To a) (protocol_of packet == control_protocol) (ifmp_holds a port packet (ifmp_decoded (drop 20 packet))) (counted_at (forwards_packet a mark packet) port packet)
    (ifmp_adds a port packet (ifmp_decoded (drop 20 packet)))
    (adds_then a (forwards_packet a mark packet) (counted_at (forwards_packet a mark packet) port packet) (routes_adds a mark packet)
    (at_port_adds (forwards_packet a mark packet) port (λ setup desk w. counts setup desk w packet)))

default_adds : (a : Acted) (port : PortNo) (mark : Mark) (r : Result (List ℕ) EncapsFault) → To a (default_holds a port mark r)
default_adds a port mark (Err fault) = same a (default_holds a port mark (Err fault)) refl refl
default_adds a port mark (Ok packet) = packet_adds a port mark packet (first_fault packet)

-- *Frames*
frame_adds : (a : Acted) (taker : Taker) (mark : Mark) (payload : List ℕ) → To a (frame_holds a taker mark payload)
frame_adds a ForGsmp mark payload = gsmp_adds a (gsmp_decoded payload)
frame_adds a (ForDefault linked) mark payload = default_adds a linked.setup.port mark (default_unwrapped payload)
frame_adds a (ForLabel linked label) mark payload = label_holds_adds a linked label mark (unwrapped label.flow payload)

opened_adds : (a : Acted) (taker : Taker) (mark : Mark) (o : Option (List ℕ)) → To a (opened_frame a taker mark o)
opened_adds a taker mark None = itself a
opened_adds a taker mark (Some payload) = frame_adds a taker mark payload

ends_adds : (a : Acted) (taker : Taker) (cells : List Cell) → To a (ends_frame a taker cells)
ends_adds a taker [] = itself a
ends_adds a taker (cell ∷ cells) =
    let test : Tested = tested a.notes (cell ∷ cells) in
    let b : Acted = record a { notes = test.notes } in
    adds_then a b (ends_frame a taker (cell ∷ cells)) (same a b refl refl) (opened_adds b taker (last_mark (cell ∷ cells)) test.payload)

-- *Cells*
with_reassembly_adds : (a : Acted) (taker : Taker) (r : Reassembly) → To a (with_reassembly a taker r)
with_reassembly_adds a ForGsmp r = same a (with_reassembly a ForGsmp r) refl refl
with_reassembly_adds a (ForDefault linked) r = same a (with_reassembly a (ForDefault linked) r) refl refl
with_reassembly_adds a (ForLabel linked label) r = same a (with_reassembly a (ForLabel linked label) r) refl refl

takes_adds : (a : Acted) (cell : Cell) (o : Option Taker) → To a (takes_cell a cell o)
takes_adds a cell None = same a (takes_cell a cell None) refl refl
takes_adds a cell (Some taker) =
    let t : Taken = taken a.notes (nat_lt 0 (free_slots a.controller)) (reassembly_of a.controller taker) cell in
    let noted : Acted = record a { notes = t.notes } in
    let kept : Acted = with_reassembly noted taker t.reassembly in
    adds_then a kept (after_cell a taker t) (adds_then a noted kept (same a noted refl refl) (with_reassembly_adds noted taker t.reassembly))
    (ends_adds kept taker t.ended)

pub cell_adds : (a : Acted) (cell : Cell) → To a (cell_comes a cell)
cell_adds a cell = takes_adds a cell (taker_of a.controller cell.header.channel)

pub injected_adds : (a : Acted) (number : ℕ) (packet : List ℕ) → To a (injected a number packet)
injected_adds a number packet = routes_adds a (record { packet = number; frame = 0 }) packet

-- *Tick*
pub sends_again_adds : (a : Acted) → To a (sends_again a)
sends_again_adds a = on_both (To a) (is_estab a.controller.adjacency.state) (fold sends_request a (sent_again a.controller.desk)) a
    (adds_fold sends_request (λ b s. says_gsmp_adds b (message_at b.controller.desk s)) (sent_again a.controller.desk) a) (itself a)

joins_adds : (a : Acted) (o : Option Join) → To a (joins a o)
joins_adds a None = itself a
joins_adds a (Some join) =
    let lends : Acted = enters_grant a join in
    let joined : Acted = enters_label lends join in
    adds_then a lends (joins a (Some join)) (at_port_adds a join.port (λ setup desk w. port_joins.lent w join.grant join.input))
    (adds_then lends joined (joins a (Some join)) (at_port_adds lends join.input.port (λ setup desk w. port_joins.joined w (number_of_channel join.input.channel) (output_joined join)))
    (asks_adds joined (MoveBranch join.input (home_of join.input) (output_joined join))))

pub tries_label_adds : (a : Acted) (input : End) (o : Option Label) → To a (tries_label a input o)
tries_label_adds a input None = itself a
tries_label_adds a input (Some label) = on_both (To a) (may_join a.controller input label) (joins a (join_for a.controller input label.flow)) a
    (joins_adds a (join_for a.controller input label.flow)) (itself a)

ticks_on_adds : (a : Acted) (step : sides.Step Party) → To a (tries_joins (ticks_ports (sends_again (steps a step))))
ticks_on_adds a step =
    let stepped : Acted = steps a step in
    let again : Acted = sends_again stepped in
    let ticked_all : Acted = ticks_ports again in
    adds_then a again (tries_joins ticked_all) (adds_then a stepped again (steps_adds a step) (sends_again_adds stepped))
    (adds_then again ticked_all (tries_joins ticked_all)
    (adds_fold ticks_port (λ b port. at_port_adds b port port_ticks.ticks) (ports_of again.controller) again)
    (adds_fold tries_join (λ b input. tries_label_adds b input (label_on b.controller input)) (flat_map inputs_at ticked_all.controller.ports) ticked_all))

ticks_by_adds : (a : Acted) (step : sides.Step Party) (answer : Answer (Said Party) Party) → To a (ticks_by a step answer)
ticks_by_adds a step Quiet = ticks_on_adds a step
ticks_by_adds a step (Send message) = ticks_on_adds a step
ticks_by_adds a step (Open message own) = ticks_on_adds a step
ticks_by_adds a step Reset = node_resets_adds a

pub ticks_adds : (a : Acted) → To a (ticks a)
ticks_adds a = ticks_by_adds a (ticked a.controller.adjacency) (ticked a.controller.adjacency).answer

pub restarts_adds : (a : Acted) → To a (node_restarts a)
restarts_adds a = node_restarts_adds a

-- *A change comes*
pub change_adds : (a : Acted) (change : RouteChange) → To a (change_comes a change)
change_adds a change =
    let waits : Acted = record a { controller = record a.controller { waiting = a.controller.waiting ++ change ∷ [] } } in
    adds_then a waits (change_comes a change) (same a waits refl refl) (takes_changes_adds waits)
