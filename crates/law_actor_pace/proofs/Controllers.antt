-- a controller keeps pace with each input

use Rattle.std.proofs.Common.{◌≡◌, ℕ, ◌≤◌, ◌+◌, true, List, [], ◌∷◌, ◌++◌, length, length-append, Option, None, Some, refl, sym, ◌∙◌, ap, arith, if◌then◌else◌, map, fold}
use Rattle.std.specs.Prelude.{◌==◌, nat_lt, drop, flat_map, Result, Ok, Err}
use Rattle.std.proofs.lemmas.List.Sums.{fold-append}
use Rattle.world_model.specs.Words.{PortNo, Channel, End, Mark, Party, number_of_channel, protocol_of, source_of, PacketFault, hop_of, onward, Hop, Here, On, changed, RouteChange, Cell, kind_of, default_payload, labelled_payload, EncapsFault, default_unwrapped, unwrapped, Request, AddBranch, MoveBranch, DeleteTree, VerifyTree, PortManagement, Said, Answer, Quiet, Send, Open, is_estab, ticked, greeting_of, gsmp_answer, gsmp_received, Part, Reassembly, Tested, tested, last_mark, next_mark, empty_desk, sent_again, Answered, Unknown, Done, Ports, Failed, answered, after_answer, home_of, control_end, Label, Grant, halts_if_spent, counts, used, hears, Linked, linked_at, with_linked, with_desk, chains_with, default_end, default_home, sends_control, says_gsmp, asks, sends_request, node_resets, node_restarts, join_of, parts, gives_back, releases_join, releases_input, released_inputs, resets_spent, releases, join_for, may_join, enters_grant, enters_label, joins, tries_label, label_on, tries_join, inputs_at, tries_joins, changed_joins, takes_join_back, begins_change, takes_change, may_take, takes_each, takes_changes, change_comes, meets, up_ports, default_branches, ends_meeting, has_emptied, port_of_input, tells_port, behind_delete_all, causes_in_estab, causes, may_clear, clears_of, clears_port, clears, takes_answer, answer_comes, gsmp_holds, is_control, sends_next, goes_by, grant_by, forwards_packet, control_protocol, injected, ForGsmp, ForDefault, ForLabel, taker_of, takes_cell, reassembly_of, with_reassembly, label_holds, ifmp_holds, counted_at, packet_holds, default_holds, frame_holds, sends_again, ticks_port, ticks_ports, ticks_by}
use Rattle.world_model.specs.ipv4_packet.Packet.{first_fault}
use Rattle.world_model.specs.ipv4_forward.declared.outcome.Hop.TheVariants.{NoRoute, Expired}
use Rattle.world_model.specs.ifmp_wire.declared.message.Message.{Message as IfmpMessage}
use Rattle.world_model.specs.ifmp_wire.declared.reader.Fault.{Fault as IfmpFault}
use Rattle.world_model.specs.ifmp_wire.Fields.{decoded as ifmp_decoded}
use Rattle.world_model.specs.gsmp_wire.Fields.{decoded as gsmp_decoded}
use Rattle.world_model.specs.gsmp_wire.declared.fault.Fault.{Fault as GsmpFault}
use Rattle.world_model.specs.gsmp_wire.declared.message.Message.{Message}
use Rattle.world_model.specs.gsmp_wire.declared.message.Message.TheVariants as messages
use Rattle.world_model.specs.gsmp_wire.declared.request.Request.TheVariants.{DeleteAll, AllPorts}
use Rattle.world_model.specs.adjacency_table.declared.message.Answer.TheVariants.{Reset}
use Rattle.world_model.specs.adjacency_table.Side as sides
use Rattle.world_model.specs.frame_model.Reassembly.{Taken, taken}
use Rattle.world_model.specs.port_model.Desk.{message_at}
use Rattle.world_model.specs.port_model.Answers as port_answers
use Rattle.world_model.specs.port_model.Joins as port_joins
use Rattle.world_model.specs.port_model.Resets.{cleared}
use Rattle.world_model.specs.port_model.Ticks as port_ticks
use Rattle.world_model.specs.Controller.{Acted, free_slots, ports_of, note}
use Rattle.world_model.specs.Sending.{sends}
use Rattle.world_model.specs.Joins.{Join, output_joined}
use Rattle.world_model.specs.Meeting.{takes_success}
use Rattle.world_model.specs.Gsmp.{answers, steps, message_comes}
use Rattle.world_model.specs.Packets.{forwarded}
use Rattle.world_model.specs.Cells.{Taker, opened_frame, ends_frame, after_cell, cell_comes}
use Rattle.world_model.specs.Ticks.{ticks}
use Rattle.law_actor_pace.specs.Pace.{AreUpTo, changes_of}
use Rattle.law_actor_pace.proofs.Cells.{ended_last, on_both}
use Rattle.law_actor_pace.proofs.Paces.{Paces, itself, paces_then, Follows, follows, follows_then, paces_fold, ports_put, sends_paces, sends_control_paces, says_gsmp_paces, same, node_resets_paces, asks_paces, takes_back_paces, at_port_paces, node_restarts_paces}

module _ (floor : ℕ) where
  abbrev To : Acted → Acted → Type 0
  To a b = Paces floor a b

  -- *Releases*
  releases_join_paces : (a : Acted) (o : Option Join) → To a (releases_join a o)
  releases_join_paces a None = itself floor a
  releases_join_paces a (Some join) =
      let noted : Acted = note a (Part a.controller.node join.input.port (number_of_channel join.input.channel)) in
      paces_then floor a (parts a join.input) (gives_back (parts a join.input) join)
      (paces_then floor a noted (parts a join.input) (same floor a noted refl refl refl refl refl refl refl)
      (at_port_paces floor noted join.input.port (λ setup desk w. port_joins.parted w (number_of_channel join.input.channel))))
      (at_port_paces floor (parts a join.input) join.port (λ setup desk w. port_joins.given_back w join.grant))

  pub releases_paces : (a : Acted) (request : Request) → To a (releases a request)
  releases_paces a request =
      let released : Acted = fold releases_input a (released_inputs a.controller request) in
      paces_then floor a released (releases a request)
      (paces_fold floor releases_input (λ b input. releases_join_paces b (join_of b.controller input)) (released_inputs a.controller request) a)
      (paces_fold floor resets_spent (λ b port. at_port_paces floor b port (λ setup desk w. halts_if_spent w)) (ports_of released.controller) released)

  -- *What an answer causes*
  ends_meeting_paces : (a : Acted) → To a (ends_meeting a)
  ends_meeting_paces a =
      let met : Acted = record a { controller = record a.controller { has_met = true } } in
      paces_then floor a met (ends_meeting a) (same floor a met refl refl refl refl refl refl refl) (paces_fold floor asks (asks_paces floor) (flat_map default_branches (up_ports a.controller)) met)

  tells_paces : (a : Acted) (request : Request) (port : PortNo) → To a (tells_port a request (Some port))
  tells_paces a request port = at_port_paces floor a port (λ setup desk w. port_answers.done setup w request)

  behind_paces : (a : Acted) (port : PortNo) → To a (behind_delete_all a port)
  behind_paces a port = on_both (To a) a.controller.has_met (asks a (AddBranch (default_end port) (default_home port))) (if has_emptied a.controller then ends_meeting a else a)
      (asks_paces floor a (AddBranch (default_end port) (default_home port))) (on_both (To a) (has_emptied a.controller) (ends_meeting a) a (ends_meeting_paces a) (itself floor a))

  causes_in_paces : (a : Acted) (request : Request) → To a (causes_in_estab a request)
  causes_in_paces a (AddBranch input output) = tells_paces a (AddBranch input output) (port_of_input input output)
  causes_in_paces a (MoveBranch input from to) = tells_paces a (MoveBranch input from to) (port_of_input input to)
  causes_in_paces a (DeleteTree input) = tells_paces a (DeleteTree input) input.port
  causes_in_paces a (VerifyTree input) = tells_paces a (VerifyTree input) input.port
  causes_in_paces a (DeleteAll port) = behind_paces a port
  causes_in_paces a (PortManagement port function) = tells_paces a (PortManagement port function) port
  causes_in_paces a AllPorts = itself floor a

  pub causes_paces : (a : Acted) (request : Request) → To a (causes a request)
  causes_paces a request = on_both (To a) (is_estab a.controller.adjacency.state) (causes_in_estab a request) a (causes_in_paces a request) (itself floor a)

  pub clears_of_paces : (a : Acted) (o : Option Linked) → To a (clears_of a o)
  clears_of_paces a None = itself floor a
  clears_of_paces a (Some linked) = on_both (To a) (may_clear a.controller linked) (with_linked a (record linked { port = cleared linked.port })) a
      (same floor a (with_linked a (record linked { port = cleared linked.port })) refl refl refl refl refl refl (ports_put (record linked { port = cleared linked.port }) a.controller.ports)) (itself floor a)

  -- *Changes of routes*: one that is taken waits no more
  pub begins_change_paces : (a : Acted) (change : RouteChange) → To a (begins_change a change)
  begins_change_paces a change =
      let begun : Acted = record a { controller = record a.controller { is_begun = true } } in
      on_both (To a) a.controller.is_begun a (fold takes_join_back begun (changed_joins a.controller change)) (itself floor a)
      (paces_then floor a begun (fold takes_join_back begun (changed_joins a.controller change)) (same floor a begun refl refl refl refl refl refl refl)
      (paces_fold floor takes_join_back (λ b join. takes_back_paces floor b join.input (output_joined join)) (changed_joins a.controller change) begun))

  abbrev Up : Acted → Acted → Type 0
  Up a b = Follows floor a b

  taken_follows : (a : Acted) (change : RouteChange) (later : List RouteChange) → a.controller.waiting ≡ change ∷ later → Up a (takes_change a change later)
  taken_follows a change later is = record { controls = omega arith; queue = λ most from le h. h; changes = omega (arith, ap length is); to_be = ap (fold changed a.controller.table) (sym is); node = refl; ports = refl }

  takes_each_follows : (changes : List RouteChange) (a : Acted) → a.controller.waiting ≡ changes → Up a (takes_each a changes)
  takes_each_follows [] a is = follows floor a a (itself floor a)
  takes_each_follows (change ∷ later) a is =
      let begun : Acted = begins_change a change in
      let first : To a begun = begins_change_paces a change in
      on_both (Up a) (may_take begun.controller change) (takes_each (takes_change begun change later) later) begun
      (follows_then floor a begun (takes_each (takes_change begun change later) later) (follows floor a begun first)
      (follows_then floor begun (takes_change begun change later) (takes_each (takes_change begun change later) later)
      (taken_follows begun change later (first.waiting ∙ is)) (takes_each_follows later (takes_change begun change later) refl)))
      (follows floor a begun first)

  takes_changes_follows : (a : Acted) → Up a (takes_changes a)
  takes_changes_follows a = on_both (Up a) a.controller.has_met (takes_each a a.controller.waiting) a (takes_each_follows a.controller.waiting a refl) (follows floor a a (itself floor a))

  done_follows : (a : Acted) (request : Request) → Up a (takes_success a request)
  done_follows a request =
      let released : Acted = releases a request in
      let caused : Acted = causes released request in
      let cleared_ones : Acted = clears caused in
      follows_then floor a cleared_ones (takes_changes cleared_ones)
      (follows floor a cleared_ones (paces_then floor a caused cleared_ones (paces_then floor a released caused (releases_paces a request) (causes_paces released request))
      (paces_fold floor clears_port (λ b port. clears_of_paces b (linked_at b.controller port)) (ports_of caused.controller) caused)))
      (takes_changes_follows cleared_ones)

  -- *The switch*
  answer_comes_follows : (a : Acted) (message : Message) → Up a (answer_comes a message)
  answer_comes_follows a message = takes (answered a.controller.desk message)
    where
      at_desk : (answer : Answered) → Up a (with_desk a (after_answer a.controller.desk answer))
      at_desk answer = follows floor a (with_desk a (after_answer a.controller.desk answer)) (same floor a (with_desk a (after_answer a.controller.desk answer)) refl refl refl refl refl refl refl)

      takes : (answer : Answered) → Up a (takes_answer a answer)
      takes Unknown = at_desk Unknown
      takes (Done s) = follows_then floor a (with_desk a (after_answer a.controller.desk (Done s))) (takes_answer a (Done s)) (at_desk (Done s))
          (done_follows (with_desk a (after_answer a.controller.desk (Done s))) s.request)
      takes (Ports s rows) = (let b : Acted = with_desk a (after_answer a.controller.desk (Ports s rows)) in
          follows_then floor a b (takes_answer a (Ports s rows)) (at_desk (Ports s rows))
          (follows floor b (takes_answer a (Ports s rows)) (paces_fold floor asks (asks_paces floor) (map DeleteAll (record { 0 = 0 } ∷ up_ports b.controller)) b)))
      takes (Failed s code) = (let b : Acted = with_desk a (after_answer a.controller.desk (Failed s code)) in
          follows_then floor a b (takes_answer a (Failed s code)) (at_desk (Failed s code)) (follows floor b (node_resets b) (node_resets_paces floor b)))

  meets_paces : (a : Acted) → To a (meets a)
  meets_paces a = paces_then floor a (with_desk a empty_desk) (meets a) (same floor a (with_desk a empty_desk) refl refl refl refl refl refl refl) (asks_paces floor (with_desk a empty_desk) AllPorts)

  answers_paces : (a : Acted) (answer : Answer (Said Party) Party) → To a (answers a (gsmp_answer answer))
  answers_paces a Quiet = itself floor a
  answers_paces a (Send message) = says_gsmp_paces floor a (messages.Adjacency (greeting_of message))
  answers_paces a (Open None own) = meets_paces a
  answers_paces a (Open (Some message) own) =
      let said : Acted = says_gsmp a (messages.Adjacency (greeting_of message)) in
      paces_then floor a said (meets said) (says_gsmp_paces floor a (messages.Adjacency (greeting_of message))) (meets_paces said)
  answers_paces a Reset = node_resets_paces floor a

  pub steps_paces : (a : Acted) (step : sides.Step Party) → To a (steps a step)
  steps_paces a step =
      let turned : Acted = record a { controller = record a.controller { adjacency = step.side } } in
      paces_then floor a turned (steps a step) (same floor a turned refl refl refl refl refl refl refl) (answers_paces turned step.answer)

  told_follows : (a : Acted) (message : Message) → Up a (message_comes a message)
  told_follows a (messages.Adjacency greeting) =
      follows floor a (steps a (gsmp_received a.controller.adjacency greeting)) (steps_paces a (gsmp_received a.controller.adjacency greeting))
  told_follows a (messages.Branch kind result code number session input_port input output_port output branches priority) =
      answer_comes_follows a (messages.Branch kind result code number session input_port input output_port output branches priority)
  told_follows a (messages.Move result code number session input_port input output_port output target_port target branches priority) =
      answer_comes_follows a (messages.Move result code number session input_port input output_port output target_port target branches priority)
  told_follows a (messages.Port result code number port session function) = answer_comes_follows a (messages.Port result code number port session function)
  told_follows a (messages.AllPorts result code number rows) = answer_comes_follows a (messages.AllPorts result code number rows)

  -- a record alone
  pub noted_paces : (a b : Acted) → b.controller ≡ a.controller → b.numbers ≡ a.numbers → To a b
  noted_paces a b c n = same floor a b (λ i. (n i).controls) (λ i. (c i).queue) (λ i. (c i).waiting) (λ i. (c i).changes) (λ i. (c i).table) (λ i. (c i).node) (λ i. ports_of (c i))

  gsmp_follows : (a : Acted) (r : Result Message GsmpFault) → Up a (gsmp_holds a r)
  gsmp_follows a (Ok message) = told_follows a message
  gsmp_follows a (Err fault) = follows floor a (gsmp_holds a (Err fault)) (noted_paces a (gsmp_holds a (Err fault)) refl refl)

  -- *Packets*: the next frame has the next number, up to the floor
  sends_next_paces : (a : Acted) (came : Mark) (channel : Channel) (payload : List ℕ) → came.frame + 1 ≤ floor → To a (sends_next a came channel payload)
  sends_next_paces a came channel payload low = on_both (To a) (is_control came) (sends_control a channel payload) (sends a channel (next_mark came) payload)
      (sends_control_paces floor a channel payload) (sends_paces floor a channel (next_mark came) payload (λ most from le. omega (arith, low, from)))

  goes_by_paces : (a : Acted) (came : Mark) (port : PortNo) (packet : List ℕ) (o : Option Grant) → came.frame + 1 ≤ floor → To a (goes_by a came port packet o)
  goes_by_paces a came port packet None low = sends_next_paces a came (default_home port).channel (default_payload packet) low
  goes_by_paces a came port packet (Some grant) low = sends_next_paces a came (control_end port grant.label).channel (labelled_payload (kind_of grant.flow) packet) low

  forwarded_paces : (a : Acted) (came : Mark) (packet : List ℕ) (hop : Hop) → came.frame + 1 ≤ floor → To a (forwarded a came packet hop)
  forwarded_paces a came packet Here low = noted_paces a (forwarded a came packet Here) refl refl
  forwarded_paces a came packet NoRoute low = noted_paces a (forwarded a came packet NoRoute) refl refl
  forwarded_paces a came packet Expired low = noted_paces a (forwarded a came packet Expired) refl refl
  forwarded_paces a came packet (On port) low = goes_by_paces a came port (onward packet) (grant_by a.controller port (onward packet)) low

  routes_paces : (a : Acted) (came : Mark) (packet : List ℕ) → came.frame + 1 ≤ floor → To a (forwards_packet a came packet)
  routes_paces a came packet low = forwarded_paces a came packet (hop_of a.controller.table packet) low

  pub label_holds_paces : (a : Acted) (linked : Linked) (label : Label) (mark : Mark) (r : Result (List ℕ) EncapsFault) → mark.frame + 1 ≤ floor → To a (label_holds a linked label mark r)
  label_holds_paces a linked label mark (Err fault) low = noted_paces a (label_holds a linked label mark (Err fault)) refl refl
  label_holds_paces a linked label mark (Ok packet) low =
      paces_then floor a (forwards_packet a mark packet) (label_holds a linked label mark (Ok packet)) (routes_paces a mark packet low)
      (at_port_paces floor (forwards_packet a mark packet) linked.setup.port (λ setup desk w. used w label.number))

  ifmp_paces : (a : Acted) (port : PortNo) (packet : List ℕ) (r : Result IfmpMessage IfmpFault) → To a (ifmp_holds a port packet r)
  ifmp_paces a port packet (Err fault) = noted_paces a (ifmp_holds a port packet (Err fault)) refl refl
  ifmp_paces a port packet (Ok message) = at_port_paces floor a port (λ setup desk w. hears setup desk w (source_of packet) message)

  packet_paces : (a : Acted) (port : PortNo) (mark : Mark) (packet : List ℕ) (o : Option PacketFault) → mark.frame + 1 ≤ floor → To a (packet_holds a port mark packet o)
  packet_paces a port mark packet (Some fault) low = noted_paces a (packet_holds a port mark packet (Some fault)) refl refl
  packet_paces a port mark packet None low = on_both (To a) (protocol_of packet == control_protocol) (ifmp_holds a port packet (ifmp_decoded (drop 20 packet))) (counted_at (forwards_packet a mark packet) port packet)
      (ifmp_paces a port packet (ifmp_decoded (drop 20 packet)))
      (paces_then floor a (forwards_packet a mark packet) (counted_at (forwards_packet a mark packet) port packet) (routes_paces a mark packet low)
      (at_port_paces floor (forwards_packet a mark packet) port (λ setup desk w. counts setup desk w packet)))

  pub default_paces : (a : Acted) (port : PortNo) (mark : Mark) (r : Result (List ℕ) EncapsFault) → mark.frame + 1 ≤ floor → To a (default_holds a port mark r)
  default_paces a port mark (Err fault) low = noted_paces a (default_holds a port mark (Err fault)) refl refl
  default_paces a port mark (Ok packet) low = packet_paces a port mark packet (first_fault packet) low

  -- *Frames*
  frame_follows : (a : Acted) (taker : Taker) (mark : Mark) (payload : List ℕ) → mark.frame + 1 ≤ floor → Up a (frame_holds a taker mark payload)
  frame_follows a ForGsmp mark payload low = gsmp_follows a (gsmp_decoded payload)
  frame_follows a (ForDefault linked) mark payload low =
      follows floor a (frame_holds a (ForDefault linked) mark payload) (default_paces a linked.setup.port mark (default_unwrapped payload) low)
  frame_follows a (ForLabel linked label) mark payload low =
      follows floor a (frame_holds a (ForLabel linked label) mark payload) (label_holds_paces a linked label mark (unwrapped label.flow payload) low)

  opened_follows : (a : Acted) (taker : Taker) (mark : Mark) (o : Option (List ℕ)) → mark.frame + 1 ≤ floor → Up a (opened_frame a taker mark o)
  opened_follows a taker mark None low = follows floor a a (itself floor a)
  opened_follows a taker mark (Some payload) low = frame_follows a taker mark payload low

  ends_follows : (a : Acted) (taker : Taker) (cells : List Cell) → ((first : Cell) (rest : List Cell) → cells ≡ first ∷ rest → (last_mark (first ∷ rest)).frame + 1 ≤ floor) → Up a (ends_frame a taker cells)
  ends_follows a taker [] low = follows floor a a (itself floor a)
  ends_follows a taker (cell ∷ cells) low =
      let test : Tested = tested a.notes (cell ∷ cells) in
      let b : Acted = record a { notes = test.notes } in
      follows_then floor a b (ends_frame a taker (cell ∷ cells)) (follows floor a b (noted_paces a b refl refl))
      (opened_follows b taker (last_mark (cell ∷ cells)) test.payload (low cell cells refl))

  -- *Cells*
  pub with_reassembly_paces : (a : Acted) (taker : Taker) (r : Reassembly) → To a (with_reassembly a taker r)
  with_reassembly_paces a ForGsmp r = same floor a (with_reassembly a ForGsmp r) refl refl refl refl refl refl refl
  with_reassembly_paces a (ForDefault linked) r = same floor a (with_reassembly a (ForDefault linked) r) refl refl refl refl refl refl (ports_put (record linked { reassembly = r }) a.controller.ports)
  with_reassembly_paces a (ForLabel linked label) r = same floor a (with_reassembly a (ForLabel linked label) r) refl refl refl refl refl refl (ports_put (record linked { chains = chains_with linked.chains label.number r }) a.controller.ports)

  takes_follows : (a : Acted) (cell : Cell) (o : Option Taker) → cell.mark.frame + 1 ≤ floor → Up a (takes_cell a cell o)
  takes_follows a cell None low = follows floor a (takes_cell a cell None) (noted_paces a (takes_cell a cell None) refl refl)
  takes_follows a cell (Some taker) low =
      let t : Taken = taken a.notes (nat_lt 0 (free_slots a.controller)) (reassembly_of a.controller taker) cell in
      let noted : Acted = record a { notes = t.notes } in
      let kept : Acted = with_reassembly noted taker t.reassembly in
      follows_then floor a kept (after_cell a taker t)
      (follows floor a kept (paces_then floor a noted kept (noted_paces a noted refl refl) (with_reassembly_paces noted taker t.reassembly)))
      (ends_follows kept taker t.ended (λ first rest is. (let same_mark : last_mark (first ∷ rest) ≡ cell.mark =
      ended_last a.notes (nat_lt 0 (free_slots a.controller)) (reassembly_of a.controller taker) cell first rest is in
      omega (arith, low, ap (λ (m : Mark). m.frame) same_mark))))

  pub cell_follows : (a : Acted) (cell : Cell) → cell.mark.frame + 1 ≤ floor → Up a (cell_comes a cell)
  cell_follows a cell low = takes_follows a cell (taker_of a.controller cell.header.channel) low

  pub injected_paces : (a : Acted) (number : ℕ) (packet : List ℕ) → 1 ≤ floor → To a (injected a number packet)
  injected_paces a number packet low = routes_paces a (record { packet = number; frame = 0 }) packet low

  -- *Tick*
  pub sends_again_paces : (a : Acted) → To a (sends_again a)
  sends_again_paces a = on_both (To a) (is_estab a.controller.adjacency.state) (fold sends_request a (sent_again a.controller.desk)) a
      (paces_fold floor sends_request (λ b s. says_gsmp_paces floor b (message_at b.controller.desk s)) (sent_again a.controller.desk) a) (itself floor a)

  joins_paces : (a : Acted) (o : Option Join) → To a (joins a o)
  joins_paces a None = itself floor a
  joins_paces a (Some join) =
      let lends : Acted = enters_grant a join in
      let joined : Acted = enters_label lends join in
      paces_then floor a lends (joins a (Some join)) (at_port_paces floor a join.port (λ setup desk w. port_joins.lent w join.grant join.input))
      (paces_then floor lends joined (joins a (Some join)) (at_port_paces floor lends join.input.port (λ setup desk w. port_joins.joined w (number_of_channel join.input.channel) (output_joined join)))
      (asks_paces floor joined (MoveBranch join.input (home_of join.input) (output_joined join))))

  pub tries_label_paces : (a : Acted) (input : End) (o : Option Label) → To a (tries_label a input o)
  tries_label_paces a input None = itself floor a
  tries_label_paces a input (Some label) = on_both (To a) (may_join a.controller input label) (joins a (join_for a.controller input label.flow)) a
      (joins_paces a (join_for a.controller input label.flow)) (itself floor a)

  ticks_on_paces : (a : Acted) (step : sides.Step Party) → To a (tries_joins (ticks_ports (sends_again (steps a step))))
  ticks_on_paces a step =
      let stepped : Acted = steps a step in
      let again : Acted = sends_again stepped in
      let ticked_all : Acted = ticks_ports again in
      paces_then floor a again (tries_joins ticked_all) (paces_then floor a stepped again (steps_paces a step) (sends_again_paces stepped))
      (paces_then floor again ticked_all (tries_joins ticked_all)
      (paces_fold floor ticks_port (λ b port. at_port_paces floor b port port_ticks.ticks) (ports_of again.controller) again)
      (paces_fold floor tries_join (λ b input. tries_label_paces b input (label_on b.controller input)) (flat_map inputs_at ticked_all.controller.ports) ticked_all))

  ticks_by_paces : (a : Acted) (step : sides.Step Party) (answer : Answer (Said Party) Party) → To a (ticks_by a step answer)
  ticks_by_paces a step Quiet = ticks_on_paces a step
  ticks_by_paces a step (Send message) = ticks_on_paces a step
  ticks_by_paces a step (Open message own) = ticks_on_paces a step
  ticks_by_paces a step Reset = node_resets_paces floor a

  pub ticks_paces : (a : Acted) → To a (ticks a)
  ticks_paces a = ticks_by_paces a (ticked a.controller.adjacency) (ticked a.controller.adjacency).answer

  pub restarts_paces : (a : Acted) → To a (node_restarts a)
  restarts_paces a = node_restarts_paces floor a

  -- *A change comes*
  pub record Changed (change : RouteChange) (a b : Acted) : Type 0 where
    pub controls : a.numbers.controls ≤ b.numbers.controls
    pub queue : (most : ℕ) → floor ≤ most → b.numbers.controls ≤ most → AreUpTo most a.controller.queue → AreUpTo most b.controller.queue
    pub changes : changes_of b.controller ≡ changes_of a.controller + 1
    pub to_be : fold changed b.controller.table b.controller.waiting ≡ changed (fold changed a.controller.table a.controller.waiting) change
    pub node : b.controller.node ≡ a.controller.node
    pub ports : ports_of b.controller ≡ ports_of a.controller

  pub change_changes : (a : Acted) (change : RouteChange) → Changed change a (change_comes a change)
  change_changes a change =
      let waits : Acted = record a { controller = record a.controller { waiting = a.controller.waiting ++ change ∷ [] } } in
      let f : Up waits (change_comes a change) = takes_changes_follows waits in
      record {
        controls = f.controls;
        queue = f.queue;
        changes = omega (arith, f.changes, length-append a.controller.waiting (change ∷ []));
        to_be = f.to_be ∙ fold-append changed a.controller.table a.controller.waiting (change ∷ []);
        node = f.node;
        ports = f.ports;
      }
