-- how many control marks one input draws

use Rattle.std.proofs.Common.{◌≡◌, ℕ, ◌≤◌, ◌+◌, ◌*◌, List, [], ◌∷◌, ◌++◌, length, Option, None, Some, refl, ◌∙◌, arith, length-append, map, fold}
use Rattle.std.specs.Prelude.{◌==◌, nat_lt, drop, flat_map, Result, Ok, Err}
use Rattle.std.proofs.lemmas.List.{length-map}
use Rattle.claims_model.specs.world_model.Words.{PortNo, Channel, End, Mark, Party, number_of_channel, protocol_of, source_of, PacketFault, hop_of, onward, Hop, Here, On, RouteChange, Cell, kind_of, default_payload, labelled_payload, EncapsFault, default_unwrapped, unwrapped, Request, MoveBranch, Said, Answer, Quiet, Send, Open, Side, is_estab, followed_tick, ticked, greeting_of, gsmp_answer, gsmp_received, Reassembly, Tested, tested, last_mark, next_mark, Standing, empty_desk, sent_again, Done, Ports, Failed, after_answer, Setup, home_of, label_end, control_end, Label, Grant, label_at, labels_of, counts, used, hears, Linked, linked_at, with_desk, default_home, sends_control, says_gsmp, sends_request, begins, cuts_default_of, cuts_default, cuts_gsmp, node_resets, node_restarts, works, works_as, releases, join_for, may_join, enters_grant, enters_label, joins, tries_label, label_on, tries_join, inputs_at, tries_joins, change_comes, meets, up_ports, empties, causes, clears_port, clears, takes_answer, answer_comes, gsmp_holds, is_control, sends_next, goes_by, grant_by, forwards_packet, control_protocol, ForGsmp, ForDefault, ForLabel, reassembly_of, with_reassembly, label_holds, ifmp_holds, counted_at, packet_holds, default_holds, frame_holds, takes_cell, sends_again, ticks_port, ticks_ports, ticks_by}
use Rattle.claims_model.specs.world_model.ipv4_packet.Packet.{first_fault}
use Rattle.claims_model.specs.world_model.ipv4_forward.declared.outcome.Hop.TheVariants.{NoRoute, Expired}
use Rattle.claims_model.specs.world_model.ifmp_wire.declared.message.Message.{Message as IfmpMessage}
use Rattle.claims_model.specs.world_model.ifmp_wire.declared.reader.Fault.{Fault as IfmpFault}
use Rattle.claims_model.specs.world_model.ifmp_wire.Fields.{decoded as ifmp_decoded}
use Rattle.claims_model.specs.world_model.gsmp_wire.Fields.{decoded as gsmp_decoded}
use Rattle.claims_model.specs.world_model.gsmp_wire.declared.fault.Fault.{Fault as GsmpFault}
use Rattle.claims_model.specs.world_model.gsmp_wire.declared.message.Message.{Message}
use Rattle.claims_model.specs.world_model.gsmp_wire.declared.message.Message.TheVariants as messages
use Rattle.claims_model.specs.world_model.gsmp_wire.declared.request.Request.TheVariants.{DeleteAll, AllPorts}
use Rattle.claims_model.specs.world_model.adjacency_table.declared.message.Answer.TheVariants.{Reset}
use Rattle.claims_model.specs.world_model.adjacency_table.Side as sides
use Rattle.claims_model.specs.world_model.adjacency_table.Side.{counted}
use Rattle.claims_model.specs.world_model.frame_model.Reassembly.{Taken, taken}
use Rattle.claims_model.specs.world_model.port_model.Messages.{is_up}
use Rattle.claims_model.specs.world_model.port_model.Joins as port_joins
use Rattle.claims_model.specs.world_model.port_model.Ticks as port_ticks
use Rattle.law_port_facts.specs.Port.{IsPort, IsShaped, Lives}
use Rattle.law_port_facts.proofs.Keyed.{on_both}
use Rattle.law_port_facts.proofs.Rules.{used_goes, counts_goes}
use Rattle.law_port_facts.proofs.Hearings.{hears_goes, ticks_goes}
use Rattle.claims_model.specs.world_model.Controller.{Acted, free_slots, ports_of}
use Rattle.claims_model.specs.world_model.Sending.{sends}
use Rattle.claims_model.specs.world_model.Joins.{Join, output_joined}
use Rattle.claims_model.specs.world_model.Meeting.{takes_success}
use Rattle.claims_model.specs.world_model.Gsmp.{answers, steps, message_comes}
use Rattle.claims_model.specs.world_model.Packets.{forwarded}
use Rattle.claims_model.specs.world_model.Cells.{Taker, opened_frame, ends_frame, after_cell, cell_comes}
use Rattle.claims_model.specs.world_model.Ticks.{ticks}
use Rattle.law_controller_facts.proofs.Lifetimes.{decoded_lives}
use Rattle.law_port_facts.specs.ordered_lists.Ordered.{Every}
use Rattle.law_port_facts.proofs.Weights.{counts_cost, used_cost}
use Rattle.law_port_facts.proofs.Weighed.{most_labels, labels_count, hears_cost, tick_cost, ticks_cost}
use Rattle.law_controller_facts.specs.Sound.{IsLinkedPort}
use Rattle.law_controller_facts.proofs.Moves.{IsGsmpTurn, ages, by_rule, Found, HasPorts, found_setup, found_at_own, found_port, begun, moves_ports}
use Rattle.law_controller_facts.proofs.Performing.{Any, any_ports}
use Rattle.law_controller_facts.proofs.Joining.{each_there, releases_goes}
use Rattle.law_controller_facts.proofs.Events.{routes_goes, by_taker, kept_ports, by_answer, causes_goes, clears_goes, steps_goes, sends_again_goes, ticks_port_goes, ticks_ports_goes}
use Rattle.law_controller_facts.proofs.Marks.{Marks, no_marks, mark_more, marks_then, marks_fold, same_fold, node_resets_marks, asks_marks, at_port_marks, light_of}
use Rattle.law_controller_facts.proofs.Marked.{filter_few, take_few, ports_size, ports_of_size, releases_marks, causes_marks, clears_of_marks, takes_changes_marks, asks_each_marks}

module _ (setups : List Setup) where
  -- *One input draws so many at most*
  abbrev most_marks : ℕ
  most_marks = 40000 + 50000 * length setups

  done_request_marks : (a : Acted) (request : Request) → HasPorts setups a → IsShaped setups request → Marks most_marks a (takes_success a request)
  done_request_marks a request h shaped =
      let released : Acted = releases a request in
      let caused : Acted = causes released request in
      let cleared_ones : Acted = clears caused in
      let k : HasPorts setups released = moves_ports setups (releases_goes setups a request h) h in
      let l : HasPorts setups caused = moves_ports setups (causes_goes setups released request k shaped) k in
      let m : HasPorts setups cleared_ones = moves_ports setups (clears_goes setups caused l) l in
      let first : Marks (513 * length setups) a released = releases_marks setups a request h in
      let second : Marks (258 + 2 * length setups) released caused = causes_marks setups released request k in
      let third : cleared_ones.numbers.controls ≡ caused.numbers.controls = same_fold setups clears_port (λ b port. clears_of_marks setups b (linked_at b.controller port)) (ports_of caused.controller) caused in
      let fourth : Marks (256 * length setups) cleared_ones (takes_success a request) = takes_changes_marks setups cleared_ones m in
      record { few = omega (arith, first.few, second.few, third, fourth.few) }

  -- the same numbers before
  after_same : (k : ℕ) (a b c : Acted) → b.numbers.controls ≡ a.numbers.controls → Marks k b c → Marks k a c
  after_same k a b c same m = record { few = omega (arith, same, m.few) }

  answer_marks : (a : Acted) (message : Message) → HasPorts setups a → Marks most_marks a (answer_comes a message)
  answer_marks a message h = by_answer setups (Marks most_marks a) a message h (no_marks most_marks a a refl)
      (λ s shaped k. after_same most_marks a (with_desk a (after_answer a.controller.desk (Done s))) (takes_answer a (Done s)) refl (done_request_marks (with_desk a (after_answer a.controller.desk (Done s))) s.request k shaped))
      (λ s rows k. after_same most_marks a (with_desk a (after_answer a.controller.desk (Ports s rows))) (takes_answer a (Ports s rows)) refl (empties_marks (with_desk a (after_answer a.controller.desk (Ports s rows))) k))
      (λ s code k. no_marks most_marks a (takes_answer a (Failed s code)) (node_resets_marks setups (with_desk a (after_answer a.controller.desk (Failed s code)))))
    where
      empties_marks : (b : Acted) → HasPorts setups b → Marks most_marks b (empties b)
      empties_marks b k =
          let all : Marks (length (map DeleteAll (record { 0 = 0 } ∷ up_ports b.controller))) b (empties b) = asks_each_marks setups (map DeleteAll (record { 0 = 0 } ∷ up_ports b.controller)) b in
          record { few = omega (arith, all.few, length-map (up_ports b.controller) DeleteAll, filter_few (is_up b.controller.desk.rows) (ports_of b.controller), ports_of_size setups b k) }

  answers_marks : (a : Acted) (answer : Answer (Said Party) Party) → Marks 2 a (answers a (gsmp_answer answer))
  answers_marks a Quiet = no_marks 2 a a refl
  answers_marks a (Send message) = record { few = omega arith }
  answers_marks a (Open None own) = mark_more 1 2 a (meets a) (omega arith) (after_same 1 a (with_desk a empty_desk) (meets a) refl (asks_marks setups (with_desk a empty_desk) AllPorts))
  answers_marks a (Open (Some message) own) = (let m : Marks 1 (says_gsmp a (messages.Adjacency (greeting_of message))) (meets (says_gsmp a (messages.Adjacency (greeting_of message)))) = met_marks (says_gsmp a (messages.Adjacency (greeting_of message))) in record { few = omega (arith, m.few) })
    where
      met_marks : (b : Acted) → Marks 1 b (meets b)
      met_marks b = after_same 1 b (with_desk b empty_desk) (meets b) refl (asks_marks setups (with_desk b empty_desk) AllPorts)
  answers_marks a Reset = no_marks 2 a (node_resets a) (node_resets_marks setups a)

  steps_marks : (a : Acted) (step : sides.Step Party) → Marks 2 a (steps a step)
  steps_marks a step = after_same 2 a (record a { controller = record a.controller { adjacency = step.side } }) (steps a step) refl (answers_marks (record a { controller = record a.controller { adjacency = step.side } }) step.answer)

  two_few : (a b : Acted) → Marks 2 a b → Marks most_marks a b
  two_few a b m = record { few = omega (arith, m.few) }

  told_marks : (a : Acted) (message : Message) → HasPorts setups a → Marks most_marks a (message_comes a message)
  told_marks a (messages.Adjacency greeting) h = two_few a (steps a (gsmp_received a.controller.adjacency greeting)) (steps_marks a (gsmp_received a.controller.adjacency greeting))
  told_marks a (messages.Branch kind result code number session input_port input output_port output branches priority) h =
      answer_marks a (messages.Branch kind result code number session input_port input output_port output branches priority) h
  told_marks a (messages.Move result code number session input_port input output_port output target_port target branches priority) h =
      answer_marks a (messages.Move result code number session input_port input output_port output target_port target branches priority) h
  told_marks a (messages.Port result code number port session function) h = answer_marks a (messages.Port result code number port session function) h
  told_marks a (messages.AllPorts result code number rows) h = answer_marks a (messages.AllPorts result code number rows) h

  gsmp_marks : (a : Acted) (r : Result Message GsmpFault) → HasPorts setups a → Marks most_marks a (gsmp_holds a r)
  gsmp_marks a (Ok message) h = told_marks a message h
  gsmp_marks a (Err fault) h = no_marks most_marks a (gsmp_holds a (Err fault)) refl

  -- *Packets*
  sends_next_marks : (a : Acted) (came : Mark) (channel : Channel) (payload : List ℕ) → Marks 1 a (sends_next a came channel payload)
  sends_next_marks a came channel payload = on_both (Marks 1 a) (is_control came) (sends_control a channel payload) (sends a channel (next_mark came) payload) (record { few = omega arith }) (no_marks 1 a (sends a channel (next_mark came) payload) refl)

  goes_by_marks : (a : Acted) (came : Mark) (port : PortNo) (packet : List ℕ) (o : Option Grant) → Marks 1 a (goes_by a came port packet o)
  goes_by_marks a came port packet None = sends_next_marks a came (default_home port).channel (default_payload packet)
  goes_by_marks a came port packet (Some grant) = sends_next_marks a came (control_end port grant.label).channel (labelled_payload (kind_of grant.flow) packet)

  forwarded_marks : (a : Acted) (came : Mark) (packet : List ℕ) (hop : Hop) → Marks 1 a (forwarded a came packet hop)
  forwarded_marks a came packet Here = no_marks 1 a (forwarded a came packet Here) refl
  forwarded_marks a came packet NoRoute = no_marks 1 a (forwarded a came packet NoRoute) refl
  forwarded_marks a came packet Expired = no_marks 1 a (forwarded a came packet Expired) refl
  forwarded_marks a came packet (On port) = goes_by_marks a came port (onward packet) (grant_by a.controller port (onward packet))

  pub routes_marks : (a : Acted) (came : Mark) (packet : List ℕ) → Marks 1 a (forwards_packet a came packet)
  routes_marks a came packet = forwarded_marks a came packet (hop_of a.controller.table packet)

  label_marks : (a : Acted) (linked : Linked) (label : Label) (mark : Mark) (r : Result (List ℕ) EncapsFault) → HasPorts setups a → Marks most_marks a (label_holds a linked label mark r)
  label_marks a linked label mark (Err fault) h = no_marks most_marks a (label_holds a linked label mark (Err fault)) refl
  label_marks a linked label mark (Ok packet) h =
      let routed : Acted = forwards_packet a mark packet in
      let k : HasPorts setups routed = moves_ports setups (routes_goes setups a mark packet) h in
      let first : Marks 1 a routed = routes_marks a mark packet in
      let second : Marks 258 routed (label_holds a linked label mark (Ok packet)) = at_port_marks setups 258 routed linked.setup.port (λ setup desk w. used w label.number) k
      (λ other found. by_rule (used (begins routed other) label.number) (used_goes other.setup routed.controller.desk (begins routed other) label.number))
      (λ other found. light_of 1 routed other (used (begins routed other) label.number) (used_cost other.setup routed.controller.desk (begins routed other) label.number)) in
      record { few = omega (arith, first.few, second.few) }

  ifmp_marks : (a : Acted) (port : PortNo) (packet : List ℕ) (r : Result IfmpMessage IfmpFault) → ((message : IfmpMessage) → r ≡ Ok message → Lives message) → HasPorts setups a → Marks most_marks a (ifmp_holds a port packet r)
  ifmp_marks a port packet (Err fault) lives h = no_marks most_marks a (ifmp_holds a port packet (Err fault)) refl
  ifmp_marks a port packet (Ok message) lives h =
      let all : Marks (257 + (2 + 2 * most_labels)) a (ifmp_holds a port packet (Ok message)) = at_port_marks setups (257 + (2 + 2 * most_labels)) a port (λ setup desk w. hears setup desk w (source_of packet) message) h
      (λ linked found. by_rule (hears linked.setup a.controller.desk (begins a linked) (source_of packet) message) (hears_goes linked.setup a.controller.desk (begins a linked) (source_of packet) message refl (lives message refl)))
      (λ linked found. light_of (2 + 2 * most_labels) a linked (hears linked.setup a.controller.desk (begins a linked) (source_of packet) message)
      (hears_cost setups linked.setup (found_setup setups a linked linked.setup.port h (found_at_own setups a linked port found)) a.controller.desk (begins a linked) (source_of packet) message refl (begun setups a linked port h found))) in
      record { few = omega (arith, all.few) }

  counted_marks : (a : Acted) (port : PortNo) (packet : List ℕ) → HasPorts setups a → Marks 258 a (counted_at a port packet)
  counted_marks a port packet h = at_port_marks setups 258 a port (λ setup desk w. counts setup desk w packet) h
      (λ linked found. by_rule (counts linked.setup a.controller.desk (begins a linked) packet) (counts_goes linked.setup a.controller.desk (begins a linked) packet (found_port setups a linked port h found).ascend))
      (λ linked found. light_of 1 a linked (counts linked.setup a.controller.desk (begins a linked) packet) (counts_cost linked.setup a.controller.desk (begins a linked) packet))

  packet_marks : (a : Acted) (port : PortNo) (mark : Mark) (packet : List ℕ) (o : Option PacketFault) → HasPorts setups a → Marks most_marks a (packet_holds a port mark packet o)
  packet_marks a port mark packet (Some fault) h = no_marks most_marks a (packet_holds a port mark packet (Some fault)) refl
  packet_marks a port mark packet None h = on_both (Marks most_marks a) (protocol_of packet == control_protocol) (ifmp_holds a port packet (ifmp_decoded (drop 20 packet))) (counted_at (forwards_packet a mark packet) port packet)
      (ifmp_marks a port packet (ifmp_decoded (drop 20 packet)) (decoded_lives (drop 20 packet)) h)
      (let first : Marks 1 a (forwards_packet a mark packet) = routes_marks a mark packet in
      let second : Marks 258 (forwards_packet a mark packet) (counted_at (forwards_packet a mark packet) port packet) = counted_marks (forwards_packet a mark packet) port packet (moves_ports setups (routes_goes setups a mark packet) h) in
      record { few = omega (arith, first.few, second.few) })

  default_marks : (a : Acted) (port : PortNo) (mark : Mark) (r : Result (List ℕ) EncapsFault) → HasPorts setups a → Marks most_marks a (default_holds a port mark r)
  default_marks a port mark (Err fault) h = no_marks most_marks a (default_holds a port mark (Err fault)) refl
  default_marks a port mark (Ok packet) h = packet_marks a port mark packet (first_fault packet) h

  frame_marks : (a : Acted) (taker : Taker) (mark : Mark) (payload : List ℕ) → HasPorts setups a → Marks most_marks a (frame_holds a taker mark payload)
  frame_marks a ForGsmp mark payload h = gsmp_marks a (gsmp_decoded payload) h
  frame_marks a (ForDefault linked) mark payload h = default_marks a linked.setup.port mark (default_unwrapped payload) h
  frame_marks a (ForLabel linked label) mark payload h = label_marks a linked label mark (unwrapped label.flow payload) h

  opened_marks : (a : Acted) (taker : Taker) (mark : Mark) (o : Option (List ℕ)) → HasPorts setups a → Marks most_marks a (opened_frame a taker mark o)
  opened_marks a taker mark None h = no_marks most_marks a a refl
  opened_marks a taker mark (Some payload) h = frame_marks a taker mark payload h

  ends_marks : (a : Acted) (taker : Taker) (cells : List Cell) → HasPorts setups a → Marks most_marks a (ends_frame a taker cells)
  ends_marks a taker [] h = no_marks most_marks a a refl
  ends_marks a taker (cell ∷ cells) h =
      let test : Tested = tested a.notes (cell ∷ cells) in
      after_same most_marks a (record a { notes = test.notes }) (ends_frame a taker (cell ∷ cells)) refl
      (opened_marks (record a { notes = test.notes }) taker (last_mark (cell ∷ cells)) test.payload (record { ports = h.ports; shaped = h.shaped }))

  with_reassembly_marks : (a : Acted) (taker : Taker) (r : Reassembly) → (with_reassembly a taker r).numbers.controls ≡ a.numbers.controls
  with_reassembly_marks a ForGsmp r = refl
  with_reassembly_marks a (ForDefault linked) r = refl
  with_reassembly_marks a (ForLabel linked label) r = refl

  pub cell_marks : (a : Acted) (cell : Cell) → HasPorts setups a → Marks most_marks a (cell_comes a cell)
  cell_marks a cell h = by_taker setups (Marks most_marks a) a cell (no_marks most_marks a (takes_cell a cell None) refl)
      (λ taker is. (let t : Taken = taken a.notes (nat_lt 0 (free_slots a.controller)) (reassembly_of a.controller taker) cell in
      let kept : Acted = with_reassembly (record a { notes = t.notes }) taker t.reassembly in
      after_same most_marks a kept (after_cell a taker t) (with_reassembly_marks (record a { notes = t.notes }) taker t.reassembly) (ends_marks kept taker t.ended (kept_ports setups a taker t is h))))

  -- *Tick*
  ticks_port_marks : (a : Acted) (port : PortNo) → HasPorts setups a → Marks (257 + (1 + tick_cost)) a (ticks_port a port)
  ticks_port_marks a port h = at_port_marks setups (257 + (1 + tick_cost)) a port port_ticks.ticks h
      (λ linked found. by_rule (port_ticks.ticks linked.setup a.controller.desk (begins a linked)) (ticks_goes linked.setup a.controller.desk (begins a linked) refl))
      (λ linked found. light_of (1 + tick_cost) a linked (port_ticks.ticks linked.setup a.controller.desk (begins a linked))
      (ticks_cost setups linked.setup (found_setup setups a linked linked.setup.port h (found_at_own setups a linked port found)) a.controller.desk (begins a linked) refl (begun setups a linked port h found)))

  sends_again_marks : (a : Acted) → Marks 32 a (sends_again a)
  sends_again_marks a = on_both (Marks 32 a) (is_estab a.controller.adjacency.state) (fold sends_request a (sent_again a.controller.desk)) a
      (mark_more (length (sent_again a.controller.desk)) 32 a (fold sends_request a (sent_again a.controller.desk)) (take_few 32 a.controller.desk.standing) (each_request (sent_again a.controller.desk) a)) (no_marks 32 a a refl)
    where
      each_request : (requests : List Standing) (b : Acted) → Marks (length requests) b (fold sends_request b requests)
      each_request [] b = no_marks 0 b b refl
      each_request (s ∷ requests) b = (let m : Marks (length requests) (sends_request b s) (fold sends_request (sends_request b s) requests) = each_request requests (sends_request b s) in record { few = omega (arith, m.few) })

  joins_marks : (a : Acted) (o : Option Join) → Marks 1 a (joins a o)
  joins_marks a None = no_marks 1 a a refl
  joins_marks a (Some join) =
      let lends : Acted = enters_grant a join in
      let entered : Acted = enters_label lends join in
      let asked_one : Marks 1 entered (joins a (Some join)) = asks_marks setups entered (MoveBranch join.input (home_of join.input) (output_joined join)) in
      record { few = omega (arith, asked_one.few, lends_none (linked_at a.controller join.port), label_none (linked_at lends.controller join.input.port)) }
    where
      lends_none : (o : Option Linked) → (works a (λ setup desk w. port_joins.lent w join.grant join.input) o).numbers.controls ≡ a.numbers.controls
      lends_none None = refl
      lends_none (Some linked) = refl

      by_label : (linked : Linked) (o : Option Label) → (works_as (enters_grant a join) linked (port_joins.joins_label (begins (enters_grant a join) linked) (Some (output_joined join)) o)).numbers.controls ≡ (enters_grant a join).numbers.controls
      by_label linked None = refl
      by_label linked (Some label) = refl

      label_none : (o : Option Linked) → (works (enters_grant a join) (λ setup desk w. port_joins.joined w (number_of_channel join.input.channel) (output_joined join)) o).numbers.controls ≡ (enters_grant a join).numbers.controls
      label_none None = refl
      label_none (Some linked) = by_label linked (label_at linked.port (number_of_channel join.input.channel))

  tries_label_marks : (a : Acted) (input : End) (o : Option Label) → Marks 1 a (tries_label a input o)
  tries_label_marks a input None = no_marks 1 a a refl
  tries_label_marks a input (Some label) = on_both (Marks 1 a) (may_join a.controller input label) (joins a (join_for a.controller input label.flow)) a (joins_marks a (join_for a.controller input label.flow)) (no_marks 1 a a refl)

  tries_marks : (inputs : List End) (a : Acted) → Marks (length inputs) a (fold tries_join a inputs)
  tries_marks [] a = no_marks 0 a a refl
  tries_marks (input ∷ inputs) a = mark_more (1 + length inputs) (length (input ∷ inputs)) a (fold tries_join (tries_join a input) inputs) (omega arith)
      (marks_then 1 (length inputs) a (tries_join a input) (fold tries_join (tries_join a input) inputs) (tries_label_marks a input (label_on a.controller input)) (tries_marks inputs (tries_join a input)))

  inputs_few : (a : Acted) → HasPorts setups a → length (flat_map inputs_at a.controller.ports) ≤ most_labels * length setups
  inputs_few a h = omega (arith, ports_size setups a h, by_ports a.controller.ports h.ports.each (each_there setups a h))
    where
      by_ports : (ports : List Linked) → Every (IsLinkedPort setups) ports → Every (λ (linked : Linked). Found setups a linked × IsPort setups linked.setup linked.port) ports → length (flat_map inputs_at ports) ≤ most_labels * length ports
      by_ports [] all there = omega arith
      by_ports (linked ∷ ports) all there = omega (
        arith,
        length-append (inputs_at linked) (flat_map inputs_at ports),
        length-map (labels_of linked.port) (λ (label : Label). label_end linked.setup.port label.number),
        labels_count setups linked.setup (found_setup setups a linked linked.setup.port h there.0.0) linked.port all.0,
        by_ports ports all.1 there.1,
      )

  ticks_on_marks : (a : Acted) (step : sides.Step Party) → IsGsmpTurn a.controller.adjacency step → HasPorts setups a → Marks most_marks a (tries_joins (ticks_ports (sends_again (steps a step))))
  ticks_on_marks a step turn h =
      let stepped : Acted = steps a step in
      let again : Acted = sends_again stepped in
      let ticked_all : Acted = ticks_ports again in
      let k : HasPorts setups stepped = moves_ports setups (steps_goes setups a step turn h) h in
      let l : HasPorts setups again = moves_ports setups (sends_again_goes setups stepped k) k in
      let m : HasPorts setups ticked_all = moves_ports setups (ticks_ports_goes setups again l) l in
      let first : Marks 2 a stepped = steps_marks a step in
      let second : Marks 32 stepped again = sends_again_marks stepped in
      let third : Marks ((257 + (1 + tick_cost)) * length (ports_of again.controller)) again ticked_all = marks_fold setups (257 + (1 + tick_cost)) (Any setups) ticks_port (λ b port kb any. ticks_port_goes setups b port kb) (λ b port kb any. ticks_port_marks b port kb)
      (ports_of again.controller) (any_ports setups (ports_of again.controller)) again l in
      let fourth : Marks (length (flat_map inputs_at ticked_all.controller.ports)) ticked_all (tries_joins ticked_all) = tries_marks (flat_map inputs_at ticked_all.controller.ports) ticked_all in
      record { few = omega (arith, first.few, second.few, third.few, fourth.few, ports_of_size setups again l, inputs_few ticked_all m) }

  ticks_by_marks : (a : Acted) (step : sides.Step Party) (answer : Answer (Said Party) Party) → IsGsmpTurn a.controller.adjacency step → HasPorts setups a → Marks most_marks a (ticks_by a step answer)
  ticks_by_marks a step Quiet turn h = ticks_on_marks a step turn h
  ticks_by_marks a step (Send message) turn h = ticks_on_marks a step turn h
  ticks_by_marks a step (Open message own) turn h = ticks_on_marks a step turn h
  ticks_by_marks a step Reset turn h = no_marks most_marks a (node_resets a) (node_resets_marks setups a)

  pub ticks_marks : (a : Acted) → HasPorts setups a → Marks most_marks a (ticks a)
  ticks_marks a h = ticks_by_marks a (ticked a.controller.adjacency) (ticked a.controller.adjacency).answer ages h

  pub change_marks : (a : Acted) (change : RouteChange) → HasPorts setups a → Marks most_marks a (change_comes a change)
  change_marks a change h =
      let waits : Acted = record a { controller = record a.controller { waiting = a.controller.waiting ++ change ∷ [] } } in
      let all : Marks (256 * length setups) waits (change_comes a change) = takes_changes_marks setups waits (record { ports = h.ports; shaped = h.shaped }) in
      record { few = omega (arith, all.few) }

  -- *Restart*
  cuts_default_same : (b : Acted) (o : Option Linked) → (cuts_default_of b o).numbers.controls ≡ b.numbers.controls
  cuts_default_same b None = refl
  cuts_default_same b (Some linked) = refl

  pub restarts_marks : (a : Acted) → (node_restarts a).numbers.controls ≡ a.numbers.controls
  restarts_marks a = same_fold setups cuts_default (λ b port. cuts_default_same b (linked_at b.controller port)) (ports_of a.controller) (cuts_gsmp (node_resets a)) ∙ node_resets_marks setups a
