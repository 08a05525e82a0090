-- how many instances one input draws

use Rattle.std.proofs.Common.{◌≡◌, ℕ, ◌≤◌, ◌+◌, Bool, true, false, List, [], ◌∷◌, ◌++◌, length, Option, None, Some, refl, sym, ◌∙◌, ap, arith, if◌then◌else◌, map, fold}
use Rattle.std.specs.Prelude.{◌==◌, nat_lt, drop, flat_map, Result, Ok, Err}
use Rattle.claims_model.specs.world_model.Words.{PortNo, Channel, End, Mark, Party, number_of_channel, GivenOut, protocol_of, source_of, PacketFault, hop_of, onward, Hop, Here, On, RouteChange, Cell, kind_of, default_payload, labelled_payload, EncapsFault, default_unwrapped, unwrapped, Request, AddBranch, MoveBranch, DeleteTree, VerifyTree, PortManagement, State, Said, Answer, Quiet, Send, Open, Reply, Silent, Says, Resets, tick_reply, Side, is_estab, followed_tick, ticked, greeting_of, gsmp_answer, gsmp_received, Part, Reassembly, Tested, tested, last_mark, next_mark, empty_desk, sent_again, Answered, Unknown, Done, Ports, Failed, answered, after_answer, Setup, home_of, control_end, Label, Grant, Work, halts_if_spent, counts, used, hears, Controller, Linked, linked_at, with_linked, with_desk, chains_with, default_end, default_home, sends_control, says_gsmp, asks, sends_request, begins, node_resets, join_of, parts, gives_back, releases_join, releases_input, released_inputs, resets_spent, releases, join_for, may_join, enters_grant, enters_label, joins, tries_label, label_on, tries_join, inputs_at, tries_joins, changed_joins, takes_join_back, begins_change, takes_change, may_take, takes_each, takes_changes, change_comes, meets, up_ports, default_branches, ends_meeting, has_emptied, port_of_input, tells_port, behind_delete_all, causes_in_estab, causes, may_clear, clears_of, clears_port, clears, takes_answer, answer_comes, gsmp_holds, is_control, sends_next, goes_by, grant_by, forwards_packet, control_protocol, ForGsmp, ForDefault, ForLabel, reassembly_of, with_reassembly, label_holds, ifmp_holds, counted_at, packet_holds, default_holds, frame_holds, sends_again, ticks_port, ticks_ports, ticks_by}
use Rattle.claims_model.specs.world_model.ipv4_packet.Packet.{first_fault}
use Rattle.claims_model.specs.world_model.ipv4_forward.declared.outcome.Hop.TheVariants.{NoRoute, Expired}
use Rattle.claims_model.specs.world_model.ifmp_wire.declared.message.Message.{Message as IfmpMessage}
use Rattle.claims_model.specs.world_model.ifmp_wire.declared.reader.Fault.{Fault as IfmpFault}
use Rattle.claims_model.specs.world_model.ifmp_wire.Fields.{decoded as ifmp_decoded}
use Rattle.claims_model.specs.world_model.gsmp_wire.Fields.{decoded as gsmp_decoded}
use Rattle.claims_model.specs.world_model.gsmp_wire.declared.fault.Fault.{Fault as GsmpFault}
use Rattle.claims_model.specs.world_model.gsmp_wire.declared.message.Message.{Message}
use Rattle.claims_model.specs.world_model.gsmp_wire.declared.message.Message.TheVariants as messages
use Rattle.claims_model.specs.world_model.gsmp_wire.declared.request.Request.TheVariants.{DeleteAll, AllPorts}
use Rattle.claims_model.specs.world_model.adjacency_table.declared.message.Answer.TheVariants.{Reset}
use Rattle.claims_model.specs.world_model.adjacency_table.Side as sides
use Rattle.claims_model.specs.world_model.adjacency_table.Side.{counted}
use Rattle.claims_model.specs.world_model.frame_model.Reassembly.{Taken, taken}
use Rattle.claims_model.specs.world_model.port_model.Desk.{message_at}
use Rattle.claims_model.specs.world_model.port_model.Answers as port_answers
use Rattle.claims_model.specs.world_model.port_model.Joins as port_joins
use Rattle.claims_model.specs.world_model.port_model.Resets.{cleared}
use Rattle.claims_model.specs.world_model.port_model.Ticks as port_ticks
use Rattle.law_port_facts.specs.Port.{Lives}
use Rattle.law_port_facts.proofs.Keyed.{on_both}
use Rattle.law_port_facts.proofs.Steps.{Goes}
use Rattle.law_port_facts.proofs.Rules.{used_goes, counts_goes, done_goes}
use Rattle.law_port_facts.proofs.Hearings.{hears_goes, ticks_goes}
use Rattle.law_port_facts.proofs.Instances.{goes_gave, closes_gave, parted_gave, joined_gave, lent_gave, given_back_gave}
use Rattle.law_port_facts.proofs.Halting.{EndsOnce, goes_once, closes_once, parted_none, joined_none, lent_none, given_back_none}
use Rattle.claims_model.specs.world_model.Controller.{Acted, free_slots, ports_of, note}
use Rattle.claims_model.specs.world_model.Sending.{sends}
use Rattle.claims_model.specs.world_model.Joins.{Join, output_joined}
use Rattle.claims_model.specs.world_model.Meeting.{takes_success}
use Rattle.claims_model.specs.world_model.Gsmp.{answers, steps, message_comes}
use Rattle.claims_model.specs.world_model.Packets.{forwarded}
use Rattle.claims_model.specs.world_model.Cells.{Taker, opened_frame, ends_frame, after_cell, cell_comes}
use Rattle.claims_model.specs.world_model.Ticks.{ticks}
use Rattle.law_controller_facts.proofs.Lifetimes.{decoded_lives}
use Rattle.law_controller_facts.proofs.Moves.{HasPorts, found_port, moves_ports}
use Rattle.law_controller_facts.proofs.Events.{routes_goes, by_taker, kept_ports}
use Rattle.law_controller_facts.proofs.Draws.{left_by, Draws, IsCalm, Behaves, calm, itself, more, draws_then, then_none, none_then, calm_fold, none_fold, sends_calm, sends_control_calm, says_gsmp_calm, put_calm, ports_count, node_resets_draws, asks_draws, takes_back_draws, at_port_draws}

-- *Rules of a port*
begun_once : (a : Acted) (linked : Linked) → EndsOnce (begins a linked)
begun_once a linked = record { before = λ e. refl; most = omega arith }

by_goes : (a : Acted) (linked : Linked) (w : Work) → Goes linked.setup a.controller.desk (begins a linked) w → Behaves 1 a w
by_goes a linked w goes = record {
  same = goes_gave a.numbers.instances linked.setup a.controller.desk (begins a linked) w goes refl;
  resets = (goes_once linked.setup a.controller.desk (begins a linked) w goes (begun_once a linked)).most;
}

none_is_none : (n : ℕ) → n ≡ 0 → n ≤ 0
none_is_none n e = omega arith

-- *Lists*
ones_fold : {A : Type 0} (f : Acted → A → Acted) → ((a : Acted) (x : A) → Draws 1 a (f a x)) → (xs : List A) (a : Acted) → Draws (length xs) a (fold f a xs)
ones_fold f each [] a = calm a a (itself a)
ones_fold f each (x ∷ xs) a = more (1 + length xs) (length (x ∷ xs)) a (fold f (f a x) xs) (omega arith) (draws_then 1 (length xs) a (f a x) (fold f (f a x) xs) (each a x) (ones_fold f each xs (f a x)))

-- *Releases*
releases_join_draws : (a : Acted) (o : Option Join) → Draws 0 a (releases_join a o)
releases_join_draws a None = calm a a (itself a)
releases_join_draws a (Some join) =
    let noted : Acted = note a (Part a.controller.node join.input.port (number_of_channel join.input.channel)) in
    let parted : Draws 0 a (parts a join.input) = none_then 0 a noted (parts a join.input) (calm a noted (record { size = refl; side = refl; same = refl }))
    (at_port_draws 0 noted join.input.port (λ setup desk w. port_joins.parted w (number_of_channel join.input.channel))
    (λ linked found. record { same = parted_gave a.numbers.instances (begins noted linked) (number_of_channel join.input.channel) refl; resets = none_is_none _ (parted_none (begins noted linked) (number_of_channel join.input.channel) refl) })) in
    then_none 0 a (parts a join.input) (gives_back (parts a join.input) join) parted
    (at_port_draws 0 (parts a join.input) join.port (λ setup desk w. port_joins.given_back w join.grant)
    (λ linked found. record { same = given_back_gave (parts a join.input).numbers.instances (begins (parts a join.input) linked) join.grant refl; resets = none_is_none _ (given_back_none (begins (parts a join.input) linked) join.grant refl) }))

resets_spent_draws : (a : Acted) (port : PortNo) → Draws 1 a (resets_spent a port)
resets_spent_draws a port = at_port_draws 1 a port (λ setup desk w. halts_if_spent w)
    (λ linked found. record { same = closes_gave a.numbers.instances (begins a linked) refl; resets = (closes_once (begins a linked) (begun_once a linked)).most })

releases_draws : (a : Acted) (request : Request) → Draws (length a.controller.ports) a (releases a request)
releases_draws a request =
    let released : Acted = fold releases_input a (released_inputs a.controller request) in
    let first : Draws 0 a released = none_fold releases_input (λ b input. releases_join_draws b (join_of b.controller input)) (released_inputs a.controller request) a in
    let second : Draws (length (ports_of released.controller)) released (releases a request) = ones_fold resets_spent resets_spent_draws (ports_of released.controller) released in
    none_then (length a.controller.ports) a released (releases a request) first
    (more (length (ports_of released.controller)) (length a.controller.ports) released (releases a request) (omega (arith, ports_count released.controller.ports, first.size)) second)

-- *What an answer causes*
ends_meeting_draws : (a : Acted) → Draws 0 a (ends_meeting a)
ends_meeting_draws a =
    let met : Acted = record a { controller = record a.controller { has_met = true } } in
    none_then 0 a met (ends_meeting a) (calm a met (record { size = refl; side = refl; same = refl })) (none_fold asks asks_draws (flat_map default_branches (up_ports a.controller)) met)

tells_draws : (a : Acted) (request : Request) (port : PortNo) → Draws 1 a (tells_port a request (Some port))
tells_draws a request port = at_port_draws 1 a port (λ setup desk w. port_answers.done setup w request) (λ linked found. by_goes a linked _ (done_goes linked.setup a.controller.desk (begins a linked) request (λ t. tt)))

behind_draws : (a : Acted) (port : PortNo) → Draws 1 a (behind_delete_all a port)
behind_draws a port = more 0 1 a (behind_delete_all a port) (omega arith) (on_both (Draws 0 a) a.controller.has_met (asks a (AddBranch (default_end port) (default_home port))) (if has_emptied a.controller then ends_meeting a else a)
    (asks_draws a (AddBranch (default_end port) (default_home port))) (on_both (Draws 0 a) (has_emptied a.controller) (ends_meeting a) a (ends_meeting_draws a) (calm a a (itself a))))

nothing_draws : (a : Acted) → Draws 1 a a
nothing_draws a = more 0 1 a a (omega arith) (calm a a (itself a))

causes_in_draws : (a : Acted) (request : Request) → Draws 1 a (causes_in_estab a request)
causes_in_draws a (AddBranch input output) = tells_draws a (AddBranch input output) (port_of_input input output)
causes_in_draws a (MoveBranch input from to) = tells_draws a (MoveBranch input from to) (port_of_input input to)
causes_in_draws a (DeleteTree input) = tells_draws a (DeleteTree input) input.port
causes_in_draws a (VerifyTree input) = tells_draws a (VerifyTree input) input.port
causes_in_draws a (DeleteAll port) = behind_draws a port
causes_in_draws a (PortManagement port function) = tells_draws a (PortManagement port function) port
causes_in_draws a AllPorts = nothing_draws a

causes_draws : (a : Acted) (request : Request) → Draws 1 a (causes a request)
causes_draws a request = on_both (Draws 1 a) (is_estab a.controller.adjacency.state) (causes_in_estab a request) a (causes_in_draws a request) (nothing_draws a)

clears_of_calm : (a : Acted) (o : Option Linked) → IsCalm a (clears_of a o)
clears_of_calm a None = itself a
clears_of_calm a (Some linked) = on_both (IsCalm a) (may_clear a.controller linked) (with_linked a (record linked { port = cleared linked.port })) a (put_calm a (record linked { port = cleared linked.port })) (itself a)

begins_change_draws : (a : Acted) (change : RouteChange) → Draws 0 a (begins_change a change)
begins_change_draws a change =
    let begun : Acted = record a { controller = record a.controller { is_begun = true } } in
    on_both (Draws 0 a) a.controller.is_begun a (fold takes_join_back begun (changed_joins a.controller change)) (calm a a (itself a))
    (none_then 0 a begun (fold takes_join_back begun (changed_joins a.controller change)) (calm a begun (record { size = refl; side = refl; same = refl }))
    (none_fold takes_join_back (λ b join. takes_back_draws b join.input (output_joined join)) (changed_joins a.controller change) begun))

takes_each_draws : (changes : List RouteChange) (a : Acted) → Draws 0 a (takes_each a changes)
takes_each_draws [] a = calm a a (itself a)
takes_each_draws (change ∷ later) a =
    let begun : Acted = begins_change a change in
    let first : Draws 0 a begun = begins_change_draws a change in
    on_both (Draws 0 a) (may_take begun.controller change) (takes_each (takes_change begun change later) later) begun
    (then_none 0 a begun (takes_each (takes_change begun change later) later) first
    (none_then 0 begun (takes_change begun change later) (takes_each (takes_change begun change later) later)
    (calm begun (takes_change begun change later) (record { size = refl; side = refl; same = refl })) (takes_each_draws later (takes_change begun change later)))) first

takes_changes_draws : (a : Acted) → Draws 0 a (takes_changes a)
takes_changes_draws a = on_both (Draws 0 a) a.controller.has_met (takes_each a a.controller.waiting) a (takes_each_draws a.controller.waiting a) (calm a a (itself a))

done_draws : (a : Acted) (request : Request) → Draws (length a.controller.ports + 1) a (takes_success a request)
done_draws a request =
    let released : Acted = releases a request in
    let caused : Acted = causes released request in
    let cleared_ones : Acted = clears caused in
    let n : ℕ = length a.controller.ports in
    then_none (n + 1) a cleared_ones (takes_changes cleared_ones)
    (then_none (n + 1) a caused cleared_ones (draws_then n 1 a released caused (releases_draws a request) (causes_draws released request))
    (calm caused cleared_ones (calm_fold clears_port (λ b port. clears_of_calm b (linked_at b.controller port)) (ports_of caused.controller) caused)))
    (takes_changes_draws cleared_ones)

-- *One input draws* the instances of two node resets at most
pub record DrawsFew (a b : Acted) : Type 0 where
  pub few : b.numbers.instances ≤ a.numbers.instances + ((1 + length a.controller.ports) + (1 + length a.controller.ports))

left_few : (b : Bool) (n : ℕ) → left_by b n ≤ 1 + n
left_few true n = omega arith
left_few false n = omega arith

few_of : (k : ℕ) (a b : Acted) → k ≤ 1 + length a.controller.ports → Draws k a b → DrawsFew a b
few_of k a b le d = record { few = omega (arith, d.drawn, le, left_few (is_estab a.controller.adjacency.state) (length a.controller.ports)) }

pub calm_few : (a b c : Acted) → IsCalm a b → DrawsFew b c → DrawsFew a c
calm_few a b c p q = record { few = omega (arith, p.same, p.size, q.few) }

pub none_few : (a : Acted) → DrawsFew a a
none_few a = few_of 0 a a (omega arith) (calm a a (itself a))

reset_few : (a : Acted) → DrawsFew a (node_resets a)
reset_few a = record { few = omega (arith, (node_resets_draws a).drawn) }

-- *The switch*
answer_comes_few : (a : Acted) (message : Message) → DrawsFew a (answer_comes a message)
answer_comes_few a message = takes (answered a.controller.desk message)
  where
    desk_calm : (answer : Answered) → IsCalm a (with_desk a (after_answer a.controller.desk answer))
    desk_calm answer = record { size = refl; side = refl; same = refl }

    takes : (answer : Answered) → DrawsFew a (takes_answer a answer)
    takes Unknown = none_few a
    takes (Done s) = calm_few a (with_desk a (after_answer a.controller.desk (Done s))) (takes_answer a (Done s)) (desk_calm (Done s))
        (few_of (length a.controller.ports + 1) (with_desk a (after_answer a.controller.desk (Done s))) (takes_answer a (Done s)) (omega arith) (done_draws (with_desk a (after_answer a.controller.desk (Done s))) s.request))
    takes (Ports s rows) = calm_few a (with_desk a (after_answer a.controller.desk (Ports s rows))) (takes_answer a (Ports s rows)) (desk_calm (Ports s rows))
        (few_of 0 (with_desk a (after_answer a.controller.desk (Ports s rows))) (takes_answer a (Ports s rows)) (omega arith)
        (none_fold asks asks_draws (map DeleteAll (record { 0 = 0 } ∷ up_ports (with_desk a (after_answer a.controller.desk (Ports s rows))).controller)) (with_desk a (after_answer a.controller.desk (Ports s rows)))))
    takes (Failed s code) = calm_few a (with_desk a (after_answer a.controller.desk (Failed s code))) (takes_answer a (Failed s code)) (desk_calm (Failed s code)) (reset_few (with_desk a (after_answer a.controller.desk (Failed s code))))

meets_draws : (a : Acted) → Draws 0 a (meets a)
meets_draws a = none_then 0 a (with_desk a empty_desk) (meets a) (calm a (with_desk a empty_desk) (record { size = refl; side = refl; same = refl })) (asks_draws (with_desk a empty_desk) AllPorts)

-- what the table answers, but a reset
answers_draws : (a : Acted) (answer : Answer (Said Party) Party) → (answer ≡ Reset → ⊥) → Draws 0 a (answers a (gsmp_answer answer))
answers_draws a Quiet other = calm a a (itself a)
answers_draws a (Send message) other = calm a (says_gsmp a (messages.Adjacency (greeting_of message))) (says_gsmp_calm a (messages.Adjacency (greeting_of message)))
answers_draws a (Open None own) other = meets_draws a
answers_draws a (Open (Some message) own) other = none_then 0 a (says_gsmp a (messages.Adjacency (greeting_of message))) (meets (says_gsmp a (messages.Adjacency (greeting_of message))))
    (calm a (says_gsmp a (messages.Adjacency (greeting_of message))) (says_gsmp_calm a (messages.Adjacency (greeting_of message)))) (meets_draws (says_gsmp a (messages.Adjacency (greeting_of message))))
answers_draws a Reset other = absurd (other refl)

answers_few : (a : Acted) (answer : Answer (Said Party) Party) → DrawsFew a (answers a (gsmp_answer answer))
answers_few a Quiet = none_few a
answers_few a (Send message) = few_of 0 a (says_gsmp a (messages.Adjacency (greeting_of message))) (omega arith) (answers_draws a (Send message) (λ e. absurd (cc e)))
answers_few a (Open None own) = few_of 0 a (meets a) (omega arith) (answers_draws a (Open None own) (λ e. absurd (cc e)))
answers_few a (Open (Some message) own) = few_of 0 a (answers a (gsmp_answer (Open (Some message) own))) (omega arith) (answers_draws a (Open (Some message) own) (λ e. absurd (cc e)))
answers_few a Reset = reset_few a

steps_few : (a : Acted) (step : sides.Step Party) → DrawsFew a (steps a step)
steps_few a step = (let f : DrawsFew (record a { controller = record a.controller { adjacency = step.side } }) (steps a step) = answers_few (record a { controller = record a.controller { adjacency = step.side } }) step.answer in record { few = f.few })

told_few : (a : Acted) (message : Message) → DrawsFew a (message_comes a message)
told_few a (messages.Adjacency greeting) = steps_few a (gsmp_received a.controller.adjacency greeting)
told_few a (messages.Branch kind result code number session input_port input output_port output branches priority) =
    answer_comes_few a (messages.Branch kind result code number session input_port input output_port output branches priority)
told_few a (messages.Move result code number session input_port input output_port output target_port target branches priority) =
    answer_comes_few a (messages.Move result code number session input_port input output_port output target_port target branches priority)
told_few a (messages.Port result code number port session function) = answer_comes_few a (messages.Port result code number port session function)
told_few a (messages.AllPorts result code number rows) = answer_comes_few a (messages.AllPorts result code number rows)

calm_note : (a b : Acted) → b.controller ≡ a.controller → b.numbers ≡ a.numbers → IsCalm a b
calm_note a b c n = record { size = ap (λ (x : Controller). length x.ports) c; side = ap (λ (x : Controller). x.adjacency) c; same = ap (λ (x : GivenOut). x.instances) n }

gsmp_few : (a : Acted) (r : Result Message GsmpFault) → DrawsFew a (gsmp_holds a r)
gsmp_few a (Ok message) = told_few a message
gsmp_few a (Err fault) = record { few = omega arith }

-- *Packets*
sends_next_calm : (a : Acted) (came : Mark) (channel : Channel) (payload : List ℕ) → IsCalm a (sends_next a came channel payload)
sends_next_calm a came channel payload = on_both (IsCalm a) (is_control came) (sends_control a channel payload) (sends a channel (next_mark came) payload) (sends_control_calm a channel payload) (sends_calm a channel (next_mark came) payload)

goes_by_calm : (a : Acted) (came : Mark) (port : PortNo) (packet : List ℕ) (o : Option Grant) → IsCalm a (goes_by a came port packet o)
goes_by_calm a came port packet None = sends_next_calm a came (default_home port).channel (default_payload packet)
goes_by_calm a came port packet (Some grant) = sends_next_calm a came (control_end port grant.label).channel (labelled_payload (kind_of grant.flow) packet)

forwarded_calm : (a : Acted) (came : Mark) (packet : List ℕ) (hop : Hop) → IsCalm a (forwarded a came packet hop)
forwarded_calm a came packet Here = record { size = refl; side = refl; same = refl }
forwarded_calm a came packet NoRoute = record { size = refl; side = refl; same = refl }
forwarded_calm a came packet Expired = record { size = refl; side = refl; same = refl }
forwarded_calm a came packet (On port) = goes_by_calm a came port (onward packet) (grant_by a.controller port (onward packet))

pub routes_calm : (a : Acted) (came : Mark) (packet : List ℕ) → IsCalm a (forwards_packet a came packet)
routes_calm a came packet = forwarded_calm a came packet (hop_of a.controller.table packet)

module _ (setups : List Setup) where
  label_holds_few : (a : Acted) (linked : Linked) (label : Label) (mark : Mark) (r : Result (List ℕ) EncapsFault) → DrawsFew a (label_holds a linked label mark r)
  label_holds_few a linked label mark (Err fault) = record { few = omega arith }
  label_holds_few a linked label mark (Ok packet) =
      let routed : Acted = forwards_packet a mark packet in
      calm_few a routed (label_holds a linked label mark (Ok packet)) (routes_calm a mark packet)
      (few_of 1 routed (label_holds a linked label mark (Ok packet)) (omega arith) (at_port_draws 1 routed linked.setup.port (λ setup desk w. used w label.number)
      (λ other found. by_goes routed other _ (used_goes other.setup routed.controller.desk (begins routed other) label.number))))

  ifmp_few : (a : Acted) (port : PortNo) (packet : List ℕ) (r : Result IfmpMessage IfmpFault) → ((message : IfmpMessage) → r ≡ Ok message → Lives message) → DrawsFew a (ifmp_holds a port packet r)
  ifmp_few a port packet (Err fault) lives = record { few = omega arith }
  ifmp_few a port packet (Ok message) lives = few_of 1 a (ifmp_holds a port packet (Ok message)) (omega arith) (at_port_draws 1 a port (λ setup desk w. hears setup desk w (source_of packet) message)
      (λ linked found. by_goes a linked _ (hears_goes linked.setup a.controller.desk (begins a linked) (source_of packet) message refl (lives message refl))))

  counted_few : (a : Acted) (port : PortNo) (packet : List ℕ) → HasPorts setups a → DrawsFew a (counted_at a port packet)
  counted_few a port packet h = few_of 1 a (counted_at a port packet) (omega arith) (at_port_draws 1 a port (λ setup desk w. counts setup desk w packet)
      (λ linked found. by_goes a linked _ (counts_goes linked.setup a.controller.desk (begins a linked) packet (found_port setups a linked port h found).ascend)))

  packet_few : (a : Acted) (port : PortNo) (mark : Mark) (packet : List ℕ) (o : Option PacketFault) → HasPorts setups a → DrawsFew a (packet_holds a port mark packet o)
  packet_few a port mark packet (Some fault) h = record { few = omega arith }
  packet_few a port mark packet None h = on_both (DrawsFew a) (protocol_of packet == control_protocol) (ifmp_holds a port packet (ifmp_decoded (drop 20 packet))) (counted_at (forwards_packet a mark packet) port packet)
      (ifmp_few a port packet (ifmp_decoded (drop 20 packet)) (decoded_lives (drop 20 packet)))
      (calm_few a (forwards_packet a mark packet) (counted_at (forwards_packet a mark packet) port packet) (routes_calm a mark packet) (counted_few (forwards_packet a mark packet) port packet (moves_ports setups (routes_goes setups a mark packet) h)))

  default_few : (a : Acted) (port : PortNo) (mark : Mark) (r : Result (List ℕ) EncapsFault) → HasPorts setups a → DrawsFew a (default_holds a port mark r)
  default_few a port mark (Err fault) h = record { few = omega arith }
  default_few a port mark (Ok packet) h = packet_few a port mark packet (first_fault packet) h

  frame_few : (a : Acted) (taker : Taker) (mark : Mark) (payload : List ℕ) → HasPorts setups a → DrawsFew a (frame_holds a taker mark payload)
  frame_few a ForGsmp mark payload h = gsmp_few a (gsmp_decoded payload)
  frame_few a (ForDefault linked) mark payload h = default_few a linked.setup.port mark (default_unwrapped payload) h
  frame_few a (ForLabel linked label) mark payload h = label_holds_few a linked label mark (unwrapped label.flow payload)

  -- *Cells*
  opened_few : (a : Acted) (taker : Taker) (mark : Mark) (o : Option (List ℕ)) → HasPorts setups a → DrawsFew a (opened_frame a taker mark o)
  opened_few a taker mark None h = none_few a
  opened_few a taker mark (Some payload) h = frame_few a taker mark payload h

  ends_few : (a : Acted) (taker : Taker) (cells : List Cell) → HasPorts setups a → DrawsFew a (ends_frame a taker cells)
  ends_few a taker [] h = none_few a
  ends_few a taker (cell ∷ cells) h =
      let test : Tested = tested a.notes (cell ∷ cells) in
      calm_few a (record a { notes = test.notes }) (ends_frame a taker (cell ∷ cells)) (record { size = refl; side = refl; same = refl })
      (opened_few (record a { notes = test.notes }) taker (last_mark (cell ∷ cells)) test.payload (record { ports = h.ports; shaped = h.shaped }))

  with_reassembly_calm : (a : Acted) (taker : Taker) (r : Reassembly) → IsCalm a (with_reassembly a taker r)
  with_reassembly_calm a ForGsmp r = record { size = refl; side = refl; same = refl }
  with_reassembly_calm a (ForDefault linked) r = put_calm a (record linked { reassembly = r })
  with_reassembly_calm a (ForLabel linked label) r = put_calm a (record linked { chains = chains_with linked.chains label.number r })

  pub after_cell_few : (a : Acted) (taker : Taker) (t : Taken) → HasPorts setups (with_reassembly (record a { notes = t.notes }) taker t.reassembly) → DrawsFew a (after_cell a taker t)
  after_cell_few a taker t h =
      let noted : Acted = record a { notes = t.notes } in
      let kept : Acted = with_reassembly noted taker t.reassembly in
      let c : IsCalm noted kept = with_reassembly_calm noted taker t.reassembly in
      calm_few a kept (after_cell a taker t) (record { size = c.size; side = c.side; same = c.same }) (ends_few kept taker t.ended h)

  pub cell_few : (a : Acted) (cell : Cell) → HasPorts setups a → DrawsFew a (cell_comes a cell)
  cell_few a cell h = by_taker setups (DrawsFew a) a cell (record { few = omega arith })
      (λ taker is. (let t : Taken = taken a.notes (nat_lt 0 (free_slots a.controller)) (reassembly_of a.controller taker) cell in after_cell_few a taker t (kept_ports setups a taker t is h)))

-- *Tick*
-- the state stays
ticked_state : (side : Side Party) (reply : Reply) → (followed_tick side reply).side.state ≡ side.state
ticked_state side Silent = refl
ticked_state side (Says kind) = refl
ticked_state side Resets = refl

turned_calm : (a : Acted) (side : Side Party) → side.state ≡ a.controller.adjacency.state → Draws 0 a (record a { controller = record a.controller { adjacency = side } })
turned_calm a side same = record { size = refl; drawn = omega (arith, ap (λ (s : State). left_by (is_estab s) (length a.controller.ports)) same) }

steps_draws : (a : Acted) (step : sides.Step Party) → step.side.state ≡ a.controller.adjacency.state → (step.answer ≡ Reset → ⊥) → Draws 0 a (steps a step)
steps_draws a step same other = none_then 0 a (record a { controller = record a.controller { adjacency = step.side } }) (steps a step) (turned_calm a step.side same)
    (answers_draws (record a { controller = record a.controller { adjacency = step.side } }) step.answer other)

sends_again_calm : (a : Acted) → IsCalm a (sends_again a)
sends_again_calm a = on_both (IsCalm a) (is_estab a.controller.adjacency.state) (fold sends_request a (sent_again a.controller.desk)) a
    (calm_fold sends_request (λ b s. says_gsmp_calm b (message_at b.controller.desk s)) (sent_again a.controller.desk) a) (itself a)

ticks_port_draws : (a : Acted) (port : PortNo) → Draws 1 a (ticks_port a port)
ticks_port_draws a port = at_port_draws 1 a port port_ticks.ticks (λ linked found. by_goes a linked _ (ticks_goes linked.setup a.controller.desk (begins a linked) refl))

joins_draws : (a : Acted) (o : Option Join) → Draws 0 a (joins a o)
joins_draws a None = calm a a (itself a)
joins_draws a (Some join) =
    let lends : Acted = enters_grant a join in
    let joined : Acted = enters_label lends join in
    none_then 0 a lends (joins a (Some join))
    (at_port_draws 0 a join.port (λ setup desk w. port_joins.lent w join.grant join.input)
    (λ linked found. record { same = lent_gave a.numbers.instances (begins a linked) join.grant join.input refl; resets = none_is_none _ (lent_none (begins a linked) join.grant join.input refl) }))
    (none_then 0 lends joined (joins a (Some join))
    (at_port_draws 0 lends join.input.port (λ setup desk w. port_joins.joined w (number_of_channel join.input.channel) (output_joined join))
    (λ linked found. record { same = joined_gave lends.numbers.instances (begins lends linked) (number_of_channel join.input.channel) (output_joined join) refl; resets = none_is_none _ (joined_none (begins lends linked) (number_of_channel join.input.channel) (output_joined join) refl) }))
    (asks_draws joined (MoveBranch join.input (home_of join.input) (output_joined join))))

tries_label_draws : (a : Acted) (input : End) (o : Option Label) → Draws 0 a (tries_label a input o)
tries_label_draws a input None = calm a a (itself a)
tries_label_draws a input (Some label) = on_both (Draws 0 a) (may_join a.controller input label) (joins a (join_for a.controller input label.flow)) a (joins_draws a (join_for a.controller input label.flow)) (calm a a (itself a))

ticks_on_few : (a : Acted) (step : sides.Step Party) → step.side.state ≡ a.controller.adjacency.state → (step.answer ≡ Reset → ⊥) → DrawsFew a (tries_joins (ticks_ports (sends_again (steps a step))))
ticks_on_few a step same other =
    let stepped : Acted = steps a step in
    let again : Acted = sends_again stepped in
    let ticked_all : Acted = ticks_ports again in
    let n : ℕ = length (ports_of again.controller) in
    let first : Draws 0 a again = none_then 0 a stepped again (steps_draws a step same other) (calm stepped again (sends_again_calm stepped)) in
    let second : Draws n a ticked_all = none_then n a again ticked_all first (ones_fold ticks_port ticks_port_draws (ports_of again.controller) again) in
    let third : Draws n a (tries_joins ticked_all) = then_none n a ticked_all (tries_joins ticked_all) second
    (none_fold tries_join (λ b input. tries_label_draws b input (label_on b.controller input)) (flat_map inputs_at ticked_all.controller.ports) ticked_all) in
    few_of n a (tries_joins ticked_all) (omega (arith, ports_count again.controller.ports, first.size)) third

ticks_by_few : (a : Acted) (step : sides.Step Party) (answer : Answer (Said Party) Party) → step.answer ≡ answer → step.side.state ≡ a.controller.adjacency.state → DrawsFew a (ticks_by a step answer)
ticks_by_few a step Quiet is same = ticks_on_few a step same (λ e. absurd (cc (sym is ∙ e)))
ticks_by_few a step (Send message) is same = ticks_on_few a step same (λ e. absurd (cc (sym is ∙ e)))
ticks_by_few a step (Open message own) is same = ticks_on_few a step same (λ e. absurd (cc (sym is ∙ e)))
ticks_by_few a step Reset is same = reset_few a

pub ticks_few : (a : Acted) → DrawsFew a (ticks a)
ticks_few a = ticks_by_few a (ticked a.controller.adjacency) (ticked a.controller.adjacency).answer refl
    (ticked_state a.controller.adjacency (tick_reply a.controller.adjacency.state (counted a.controller.adjacency.state a.controller.adjacency.silence)))

-- *Changes of routes*
pub change_few : (a : Acted) (change : RouteChange) → DrawsFew a (change_comes a change)
change_few a change =
    let waits : Acted = record a { controller = record a.controller { waiting = a.controller.waiting ++ change ∷ [] } } in
    few_of 0 a (change_comes a change) (omega arith) (none_then 0 a waits (change_comes a change) (calm a waits (record { size = refl; side = refl; same = refl })) (takes_changes_draws waits))
