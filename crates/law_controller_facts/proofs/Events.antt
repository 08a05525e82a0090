-- cells, packets, answers, ticks and all other inputs are made of the moves of a controller

use Rattle.std.proofs.Common.{◌≡◌, ℕ, true, List, [], ◌∷◌, Option, None, Some, refl, if◌then◌else◌, map, fold, inl, inr}
use Rattle.std.specs.Prelude.{nat_lt, ◌&&◌, ◌==◌, drop, flat_map, find, Result, Ok, Err}
use Rattle.std.specs.Option.{option_and_then}
use Rattle.claims_model.specs.world_model.Words.{PortNo, Channel, Mark, Party, label_number_of, protocol_of, source_of, PacketFault, hop_of, onward, Hop, Here, On, Cell, kind_of, default_payload, labelled_payload, EncapsFault, default_unwrapped, unwrapped, PortRow, Request, AddBranch, MoveBranch, DeleteTree, VerifyTree, PortManagement, Said, Answer, Quiet, Send, Open, is_estab, ticked, greeting_of, gsmp_answer, gsmp_received, Unbound, Bad, Loss, Delivered, Dropped, encaps_refusal, packet_refusal, ifmp_refusal, gsmp_refusal, Reassembly, Tested, tested, last_mark, next_mark, Standing, empty_desk, sent_again, Head, head_of, is_of_type, Answered, Unknown, Done, Ports, Failed, succeeded, outcome, answered_with, after_answer, Setup, control_end, Label, is_bound, Grant, label_at, counts, used, hears, Linked, linked_at, with_linked, with_desk, chains_with, default_channel, default_end, default_home, sends_control, says_gsmp, asks, sends_request, releases, tries_joins, meets, up_ports, empties, default_branches, ends_meeting, has_emptied, port_of_input, tells_port, behind_delete_all, causes_in_estab, causes, may_clear, clears_of, clears_port, clears, takes_answer, answer_comes, gsmp_holds, is_control, sends_next, goes_by, grant_by, forwards_packet, control_protocol, ForGsmp, ForDefault, ForLabel, port_on, on_link, same_channel, label_taker, taker_at, reassembly_of, with_reassembly, label_holds, ifmp_holds, counted_at, packet_holds, default_holds, frame_holds, takes_cell, sends_again, ticks_port, ticks_ports, ticks_by}
use Rattle.claims_model.specs.world_model.ipv4_packet.Packet.{first_fault}
use Rattle.claims_model.specs.world_model.ipv4_forward.declared.outcome.Hop.TheVariants.{NoRoute, Expired}
use Rattle.claims_model.specs.world_model.ifmp_wire.declared.message.Message.{Message as IfmpMessage}
use Rattle.claims_model.specs.world_model.ifmp_wire.declared.reader.Fault.{Fault as IfmpFault}
use Rattle.claims_model.specs.world_model.ifmp_wire.Fields.{decoded as ifmp_decoded}
use Rattle.claims_model.specs.world_model.gsmp_wire.Fields.{decoded as gsmp_decoded}
use Rattle.claims_model.specs.world_model.gsmp_wire.declared.fault.Fault.{Fault as GsmpFault}
use Rattle.claims_model.specs.world_model.gsmp_wire.declared.message.Message.{Message}
use Rattle.claims_model.specs.world_model.gsmp_wire.declared.message.Message.TheVariants as messages
use Rattle.claims_model.specs.world_model.gsmp_wire.declared.request.Request.TheVariants.{DeleteAll, AllPorts}
use Rattle.claims_model.specs.world_model.adjacency_table.declared.message.Answer.TheVariants.{Reset}
use Rattle.claims_model.specs.world_model.adjacency_table.Side as sides
use Rattle.claims_model.specs.world_model.link_model.declared.record.Layer.TheVariants as layers
use Rattle.claims_model.specs.world_model.link_model.declared.record.DropCause.TheVariants as causes_of
use Rattle.claims_model.specs.world_model.frame_model.Reassembly.{Taken, taken}
use Rattle.law_port_facts.specs.ordered_lists.Ordered.{Every}
use Rattle.claims_model.specs.world_model.port_model.Messages.{is_up}
use Rattle.claims_model.specs.world_model.port_model.Answers as port_answers
use Rattle.claims_model.specs.world_model.port_model.Resets.{cleared}
use Rattle.claims_model.specs.world_model.port_model.Ticks as port_ticks
use Rattle.law_port_facts.specs.Port.{IsLinked, IsDefaultEnd, Lives, IsShaped, asks_ports, empties_control, empties_port, opens_input, opens_output}
use Rattle.law_port_facts.proofs.Keyed.{on_both, on_each}
use Rattle.law_port_facts.proofs.Found.{find_every}
use Rattle.law_port_facts.proofs.Rules.{used_goes, counts_goes, done_goes}
use Rattle.law_port_facts.proofs.Hearings.{hears_goes, ticks_goes}
use Rattle.claims_model.specs.world_model.Controller.{Acted, free_slots, ports_of}
use Rattle.claims_model.specs.world_model.Sending.{sends}
use Rattle.claims_model.specs.world_model.Meeting.{takes_success}
use Rattle.claims_model.specs.world_model.Gsmp.{answers, steps, message_comes}
use Rattle.claims_model.specs.world_model.Packets.{forwarded}
use Rattle.claims_model.specs.world_model.Cells.{Taker, opened_frame, after_test, ends_frame, after_cell, cell_comes}
use Rattle.claims_model.specs.world_model.Ticks.{ticks}
use Rattle.law_controller_facts.proofs.Lifetimes.{decoded_lives}
use Rattle.law_controller_facts.proofs.Moves.{IsGsmpTurn, hears as hears_greeting, ages, by_rule, Found, noting, taking_notes, sending, sending_control, answering, meeting, ending_meeting, turning, clearing, gathering, chaining, stays, moves_to, further, HasPorts, IsShapedStanding, found_at_own, found_port, moves_ports, moves_fold, goes_on}
use Rattle.law_controller_facts.proofs.Performing.{To, Any, any_ports, ports_linked, says_gsmp_goes, node_resets_goes, sends_request_goes, asks_goes, asks_each, at_port_goes}
use Rattle.law_controller_facts.proofs.Joining.{every_filter, takes_changes_goes, releases_goes}
use Rattle.law_controller_facts.proofs.Entering.{tries_joins_goes}

module _ (setups : List Setup) where
  -- *Packets*
  sends_next_goes : (a : Acted) (came : Mark) (channel : Channel) (payload : List ℕ) → To setups a (sends_next a came channel payload)
  sends_next_goes a came channel payload = on_both (To setups a) (is_control came) (sends_control a channel payload) (sends a channel (next_mark came) payload)
      (moves_to (sending_control a channel payload)) (moves_to (sending a channel (next_mark came) payload))

  goes_by_goes : (a : Acted) (came : Mark) (port : PortNo) (packet : List ℕ) (o : Option Grant) → To setups a (goes_by a came port packet o)
  goes_by_goes a came port packet None = sends_next_goes a came (default_home port).channel (default_payload packet)
  goes_by_goes a came port packet (Some grant) = sends_next_goes a came (control_end port grant.label).channel (labelled_payload (kind_of grant.flow) packet)

  forwarded_goes : (a : Acted) (came : Mark) (packet : List ℕ) (hop : Hop) → To setups a (forwarded a came packet hop)
  forwarded_goes a came packet Here = moves_to (noting a (Delivered a.controller.node came.packet packet))
  forwarded_goes a came packet NoRoute = moves_to (noting a (Dropped a.controller.node came.packet causes_of.NoRoute))
  forwarded_goes a came packet Expired = moves_to (noting a (Dropped a.controller.node came.packet causes_of.Expired))
  forwarded_goes a came packet (On port) = goes_by_goes a came port (onward packet) (grant_by a.controller port (onward packet))

  pub routes_goes : (a : Acted) (came : Mark) (packet : List ℕ) → To setups a (forwards_packet a came packet)
  routes_goes a came packet = forwarded_goes a came packet (hop_of a.controller.table packet)

  -- *Meeting the switch*
  pub meets_goes : (a : Acted) → HasPorts setups a → To setups a (meets a)
  meets_goes a h = goes_on setups h (moves_to (meeting a)) (λ k. asks_goes setups (with_desk a empty_desk) AllPorts k asks_ports)

  pub ups_linked : (a : Acted) → HasPorts setups a → Every (IsLinked setups) (up_ports a.controller)
  ups_linked a h = every_filter (IsLinked setups) (is_up a.controller.desk.rows) (ports_of a.controller) (ports_linked setups a h)

  empties_goes : (a : Acted) → HasPorts setups a → To setups a (empties a)
  empties_goes a h = asks_each setups (map DeleteAll (record { 0 = 0 } ∷ up_ports a.controller)) (empties_control (record { 0 = 0 }) refl, shapes (up_ports a.controller) (ups_linked a h)) a h
    where
      shapes : (ports : List PortNo) → Every (IsLinked setups) ports → Every (IsShaped setups) (map DeleteAll ports)
      shapes [] e = tt
      shapes (port ∷ ports) e = (empties_port port e.0, shapes ports e.1)

  pub default_of : (port : PortNo) → IsLinked setups port → IsDefaultEnd setups (default_end port)
  default_of port linked = record { port = inr linked; vpi = refl; vci = refl }

  ends_meeting_goes : (a : Acted) → HasPorts setups a → is_estab a.controller.adjacency.state ≡ true → To setups a (ends_meeting a)
  ends_meeting_goes a h estab = goes_on setups h (moves_to (ending_meeting a estab))
      (λ k. asks_each setups (flat_map default_branches (up_ports a.controller)) (shapes (up_ports a.controller) (ups_linked a h)) (record a { controller = record a.controller { has_met = true } }) k)
    where
      shapes : (ports : List PortNo) → Every (IsLinked setups) ports → Every (IsShaped setups) (flat_map default_branches ports)
      shapes [] e = tt
      shapes (port ∷ ports) e = (opens_input (default_end port) (default_of port e.0), (opens_output (default_end port) (default_of port e.0), shapes ports e.1))

  -- *What an answer causes*
  tells_goes : (a : Acted) (request : Request) (port : PortNo) → HasPorts setups a → To setups a (tells_port a request (Some port))
  tells_goes a request port h = at_port_goes setups a port (λ setup desk w. port_answers.done setup w request) h
      (λ linked found. by_rule _ (done_goes linked.setup a.controller.desk _ request (λ t. tt)))

  pub emptied_port : (port : PortNo) → IsShaped setups (DeleteAll port) → IsDefaultEnd setups (default_end port)
  emptied_port port (empties_control other none) = record { port = inl none; vpi = refl; vci = refl }
  emptied_port port (empties_port other linked) = record { port = inr linked; vpi = refl; vci = refl }

  behind_goes : (a : Acted) (port : PortNo) → HasPorts setups a → IsShaped setups (DeleteAll port) → is_estab a.controller.adjacency.state ≡ true → To setups a (behind_delete_all a port)
  behind_goes a port h shaped estab = on_both (To setups a) a.controller.has_met (asks a (AddBranch (default_end port) (default_home port))) (if has_emptied a.controller then ends_meeting a else a)
      (asks_goes setups a (AddBranch (default_end port) (default_home port)) h (opens_input (default_end port) (emptied_port port shaped)))
      (on_both (To setups a) (has_emptied a.controller) (ends_meeting a) a (ends_meeting_goes a h estab) (stays a))

  causes_in_goes : (a : Acted) (request : Request) → HasPorts setups a → IsShaped setups request → is_estab a.controller.adjacency.state ≡ true → To setups a (causes_in_estab a request)
  causes_in_goes a (AddBranch input output) h shaped estab = tells_goes a (AddBranch input output) (port_of_input input output) h
  causes_in_goes a (MoveBranch input from to) h shaped estab = tells_goes a (MoveBranch input from to) (port_of_input input to) h
  causes_in_goes a (DeleteTree input) h shaped estab = tells_goes a (DeleteTree input) input.port h
  causes_in_goes a (VerifyTree input) h shaped estab = tells_goes a (VerifyTree input) input.port h
  causes_in_goes a (DeleteAll port) h shaped estab = behind_goes a port h shaped estab
  causes_in_goes a (PortManagement port function) h shaped estab = tells_goes a (PortManagement port function) port h
  causes_in_goes a AllPorts h shaped estab = stays a

  pub causes_goes : (a : Acted) (request : Request) → HasPorts setups a → IsShaped setups request → To setups a (causes a request)
  causes_goes a request h shaped = on_each (To setups a) (is_estab a.controller.adjacency.state) (causes_in_estab a request) a (λ estab. causes_in_goes a request h shaped estab) (λ t. stays a)

  clears_of_goes : (a : Acted) (port : PortNo) (o : Option Linked) → linked_at a.controller port ≡ o → To setups a (clears_of a o)
  clears_of_goes a port None found = stays a
  clears_of_goes a port (Some linked) found = on_each (To setups a) (may_clear a.controller linked) (with_linked a (record linked { port = cleared linked.port })) a
      (λ may. moves_to (clearing a linked (found_at_own setups a linked port found) may)) (λ t. stays a)

  pub clears_goes : (a : Acted) → HasPorts setups a → To setups a (clears a)
  clears_goes a h = moves_fold setups (Any setups) clears_port (λ b port k any. clears_of_goes b port (linked_at b.controller port) refl) (ports_of a.controller) (any_ports setups (ports_of a.controller)) a h

  pub done_request_goes : (a : Acted) (request : Request) → HasPorts setups a → IsShaped setups request → To setups a (takes_success a request)
  done_request_goes a request h shaped =
      let released : Acted = releases a request in
      let caused : Acted = causes released request in
      goes_on setups h (releases_goes setups a request h) (λ k. goes_on setups k (causes_goes released request k shaped)
      (λ l. goes_on setups l (clears_goes caused l) (λ m. takes_changes_goes setups (clears caused) m)))

  -- *Answers of the switch*
  -- by what an answer is to the desk: unknown, or of a request that stood
  pub by_answer : (P : Acted → Type 0) (a : Acted) (message : Message) → HasPorts setups a → P (takes_answer a Unknown)
      → ((s : Standing) → IsShapedStanding setups s → HasPorts setups (with_desk a (after_answer a.controller.desk (Done s))) → P (takes_answer a (Done s)))
      → ((s : Standing) (rows : List PortRow) → HasPorts setups (with_desk a (after_answer a.controller.desk (Ports s rows))) → P (takes_answer a (Ports s rows)))
      → ((s : Standing) (code : ℕ) → HasPorts setups (with_desk a (after_answer a.controller.desk (Failed s code))) → P (takes_answer a (Failed s code)))
      → P (answer_comes a message)
  by_answer P a message h unknown is_done are_listed fails = by_head (head_of message)
    where
      after : (answer : Answered) → HasPorts setups (with_desk a (after_answer a.controller.desk answer))
      after answer = moves_ports setups (moves_to (answering a answer)) h

      succeeds : (message : Message) (s : Standing) → IsShapedStanding setups s → P (takes_answer a (succeeded message s))
      succeeds (messages.Adjacency greeting) s shaped = is_done s shaped (after (Done s))
      succeeds (messages.Branch kind result code number session input_port input output_port output branches priority) s shaped = is_done s shaped (after (Done s))
      succeeds (messages.Move result code number session input_port input output_port output target_port target branches priority) s shaped = is_done s shaped (after (Done s))
      succeeds (messages.Port result code number port session function) s shaped = is_done s shaped (after (Done s))
      succeeds (messages.AllPorts result code number rows) s shaped = are_listed s rows (after (Ports s rows))

      by_found : (head : Head) (o : Option Standing) → ((s : Standing) → o ≡ Some s → IsShapedStanding setups s) → P (takes_answer a (outcome message head o))
      by_found head None shaped = unknown
      by_found head (Some s) shaped = on_both (λ (answer : Answered). P (takes_answer a answer)) (head.result == 3) (succeeded message s) (if head.result == 4 then Failed s head.code else Unknown)
          (succeeds message s (shaped s refl))
          (on_both (λ (answer : Answered). P (takes_answer a answer)) (head.result == 4) (Failed s head.code) Unknown (fails s head.code (after (Failed s head.code))) unknown)

      by_head : (o : Option Head) → P (takes_answer a (answered_with a.controller.desk.standing message o))
      by_head None = unknown
      by_head (Some head) = by_found head (find (λ (s : Standing). s.number == head.number && is_of_type message s.request) a.controller.desk.standing)
          (λ s e. find_every (IsShapedStanding setups) (λ (s : Standing). s.number == head.number && is_of_type message s.request) a.controller.desk.standing s h.shaped e)

  answer_comes_goes : (a : Acted) (message : Message) → HasPorts setups a → To setups a (answer_comes a message)
  answer_comes_goes a message h = by_answer (To setups a) a message h (moves_to (answering a Unknown))
      (λ s shaped k. further (moves_to (answering a (Done s))) (done_request_goes (with_desk a (after_answer a.controller.desk (Done s))) s.request k shaped))
      (λ s rows k. further (moves_to (answering a (Ports s rows))) (empties_goes (with_desk a (after_answer a.controller.desk (Ports s rows))) k))
      (λ s code k. further (moves_to (answering a (Failed s code))) (node_resets_goes setups (with_desk a (after_answer a.controller.desk (Failed s code))) k))

  -- *The adjacency with the switch*
  answers_goes : (a : Acted) (answer : Answer (Said Party) Party) → HasPorts setups a → To setups a (answers a (gsmp_answer answer))
  answers_goes a Quiet h = stays a
  answers_goes a (Send message) h = says_gsmp_goes setups a (messages.Adjacency (greeting_of message))
  answers_goes a (Open None own) h = meets_goes a h
  answers_goes a (Open (Some message) own) h = goes_on setups h (says_gsmp_goes setups a (messages.Adjacency (greeting_of message))) (λ k. meets_goes (says_gsmp a (messages.Adjacency (greeting_of message))) k)
  answers_goes a Reset h = node_resets_goes setups a h

  pub steps_goes : (a : Acted) (step : sides.Step Party) → IsGsmpTurn a.controller.adjacency step → HasPorts setups a → To setups a (steps a step)
  steps_goes a step turn h = goes_on setups h (moves_to (turning a step turn)) (λ k. answers_goes (record a { controller = record a.controller { adjacency = step.side } }) step.answer k)

  told_goes : (a : Acted) (message : Message) → HasPorts setups a → To setups a (message_comes a message)
  told_goes a (messages.Adjacency greeting) h = steps_goes a (gsmp_received a.controller.adjacency greeting) (hears_greeting greeting) h
  told_goes a (messages.Branch kind result code number session input_port input output_port output branches priority) h =
      answer_comes_goes a (messages.Branch kind result code number session input_port input output_port output branches priority) h
  told_goes a (messages.Move result code number session input_port input output_port output target_port target branches priority) h =
      answer_comes_goes a (messages.Move result code number session input_port input output_port output target_port target branches priority) h
  told_goes a (messages.Port result code number port session function) h = answer_comes_goes a (messages.Port result code number port session function) h
  told_goes a (messages.AllPorts result code number rows) h = answer_comes_goes a (messages.AllPorts result code number rows) h

  pub gsmp_holds_goes : (a : Acted) (r : Result Message GsmpFault) → HasPorts setups a → To setups a (gsmp_holds a r)
  gsmp_holds_goes a (Ok message) h = told_goes a message h
  gsmp_holds_goes a (Err fault) h = moves_to (noting a (Bad a.controller.node layers.Gsmp (gsmp_refusal fault)))

  -- *Frames*
  label_holds_goes : (a : Acted) (linked : Linked) (label : Label) (mark : Mark) (r : Result (List ℕ) EncapsFault) → HasPorts setups a → To setups a (label_holds a linked label mark r)
  label_holds_goes a linked label mark (Err fault) h = moves_to (noting a (Bad a.controller.node layers.Encaps (encaps_refusal fault)))
  label_holds_goes a linked label mark (Ok packet) h = goes_on setups h (routes_goes a mark packet)
      (λ k. at_port_goes setups (forwards_packet a mark packet) linked.setup.port (λ setup desk w. used w label.number) k (λ other found. by_rule _ (used_goes other.setup (forwards_packet a mark packet).controller.desk _ label.number)))

  ifmp_holds_goes : (a : Acted) (port : PortNo) (packet : List ℕ) (r : Result IfmpMessage IfmpFault) → ((message : IfmpMessage) → r ≡ Ok message → Lives message) → HasPorts setups a → To setups a (ifmp_holds a port packet r)
  ifmp_holds_goes a port packet (Err fault) lives h = moves_to (noting a (Bad a.controller.node layers.Ifmp (ifmp_refusal fault)))
  ifmp_holds_goes a port packet (Ok message) lives h = at_port_goes setups a port (λ setup desk w. hears setup desk w (source_of packet) message) h
      (λ linked found. by_rule _ (hears_goes linked.setup a.controller.desk _ (source_of packet) message refl (lives message refl)))

  counted_at_goes : (a : Acted) (port : PortNo) (packet : List ℕ) → HasPorts setups a → To setups a (counted_at a port packet)
  counted_at_goes a port packet h = at_port_goes setups a port (λ setup desk w. counts setup desk w packet) h
      (λ linked found. by_rule _ (counts_goes linked.setup a.controller.desk _ packet (found_port setups a linked port h found).ascend))

  packet_holds_goes : (a : Acted) (port : PortNo) (mark : Mark) (packet : List ℕ) (o : Option PacketFault) → HasPorts setups a → To setups a (packet_holds a port mark packet o)
  packet_holds_goes a port mark packet (Some fault) h = moves_to (noting a (Bad a.controller.node layers.Packet (packet_refusal fault)))
  packet_holds_goes a port mark packet None h = on_both (To setups a) (protocol_of packet == control_protocol) (ifmp_holds a port packet (ifmp_decoded (drop 20 packet))) (counted_at (forwards_packet a mark packet) port packet)
      (ifmp_holds_goes a port packet (ifmp_decoded (drop 20 packet)) (decoded_lives (drop 20 packet)) h)
      (goes_on setups h (routes_goes a mark packet) (λ k. counted_at_goes (forwards_packet a mark packet) port packet k))

  default_holds_goes : (a : Acted) (port : PortNo) (mark : Mark) (r : Result (List ℕ) EncapsFault) → HasPorts setups a → To setups a (default_holds a port mark r)
  default_holds_goes a port mark (Err fault) h = moves_to (noting a (Bad a.controller.node layers.Encaps (encaps_refusal fault)))
  default_holds_goes a port mark (Ok packet) h = packet_holds_goes a port mark packet (first_fault packet) h

  frame_holds_goes : (a : Acted) (taker : Taker) (mark : Mark) (payload : List ℕ) → HasPorts setups a → To setups a (frame_holds a taker mark payload)
  frame_holds_goes a ForGsmp mark payload h = gsmp_holds_goes a (gsmp_decoded payload) h
  frame_holds_goes a (ForDefault linked) mark payload h = default_holds_goes a linked.setup.port mark (default_unwrapped payload) h
  frame_holds_goes a (ForLabel linked label) mark payload h = label_holds_goes a linked label mark (unwrapped label.flow payload) h

  opened_frame_goes : (a : Acted) (taker : Taker) (mark : Mark) (o : Option (List ℕ)) → HasPorts setups a → To setups a (opened_frame a taker mark o)
  opened_frame_goes a taker mark None h = stays a
  opened_frame_goes a taker mark (Some payload) h = frame_holds_goes a taker mark payload h

  after_test_goes : (a : Acted) (taker : Taker) (mark : Mark) (test : Tested) → HasPorts setups a → To setups a (after_test a taker mark test)
  after_test_goes a taker mark test h = goes_on setups h (moves_to (taking_notes a test.notes)) (λ k. opened_frame_goes (record a { notes = test.notes }) taker mark test.payload k)

  ends_frame_goes : (a : Acted) (taker : Taker) (cells : List Cell) → HasPorts setups a → To setups a (ends_frame a taker cells)
  ends_frame_goes a taker [] h = stays a
  ends_frame_goes a taker (cell ∷ cells) h = after_test_goes a taker (last_mark (cell ∷ cells)) (tested a.notes (cell ∷ cells)) h

  -- *Cells*
  abbrev pub IsTaker : Acted → Taker → Type 0
  IsTaker a ForGsmp = Unit {0}
  IsTaker a (ForDefault linked) = Found setups a linked
  IsTaker a (ForLabel linked label) = Found setups a linked

  with_reassembly_goes : (a : Acted) (taker : Taker) (r : Reassembly) → IsTaker a taker → To setups a (with_reassembly a taker r)
  with_reassembly_goes a ForGsmp r is = moves_to (gathering a r)
  with_reassembly_goes a (ForDefault linked) r is = moves_to (chaining a linked (record linked { reassembly = r }) is refl refl)
  with_reassembly_goes a (ForLabel linked label) r is = moves_to (chaining a linked (record linked { chains = chains_with linked.chains label.number r }) is refl refl)

  noted_taker : (a : Acted) (taker : Taker) (t : Taken) → IsTaker a taker → IsTaker (record a { notes = t.notes }) taker
  noted_taker a ForGsmp t is = tt
  noted_taker a (ForDefault linked) t is = is
  noted_taker a (ForLabel linked label) t is = is

  pub kept_ports : (a : Acted) (taker : Taker) (t : Taken) → IsTaker a taker → HasPorts setups a → HasPorts setups (with_reassembly (record a { notes = t.notes }) taker t.reassembly)
  kept_ports a taker t is h = moves_ports setups (further (moves_to (taking_notes a t.notes)) (with_reassembly_goes (record a { notes = t.notes }) taker t.reassembly (noted_taker a taker t is))) h

  after_cell_goes : (a : Acted) (taker : Taker) (t : Taken) → IsTaker a taker → HasPorts setups a → To setups a (after_cell a taker t)
  after_cell_goes a taker t is h =
      let noted : Acted = record a { notes = t.notes } in
      goes_on setups h (further (moves_to (taking_notes a t.notes)) (with_reassembly_goes noted taker t.reassembly (noted_taker a taker t is)))
      (λ k. ends_frame_goes (with_reassembly noted taker t.reassembly) taker t.ended k)

  -- a cell has no taker, or one that is found
  pub by_taker : (P : Acted → Type 0) (a : Acted) (cell : Cell) → P (takes_cell a cell None) → ((taker : Taker) → IsTaker a taker → P (takes_cell a cell (Some taker))) → P (cell_comes a cell)
  by_taker P a cell nobody takes = on_both (λ (o : Option Taker). P (takes_cell a cell o)) (same_channel cell.header.channel default_channel) (Some ForGsmp)
      (taker_at (linked_at a.controller (port_on cell.header.channel)) (on_link cell.header.channel)) (takes ForGsmp tt) (by_found (linked_at a.controller (port_on cell.header.channel)) refl)
    where
      by_label : (linked : Linked) → Found setups a linked → (o : Option Label) → P (takes_cell a cell (label_taker linked o))
      by_label linked found None = nobody
      by_label linked found (Some label) = on_both (λ (o : Option Taker). P (takes_cell a cell o)) (is_bound label.state) (Some (ForLabel linked label)) None (takes (ForLabel linked label) found) nobody

      by_found : (o : Option Linked) → linked_at a.controller (port_on cell.header.channel) ≡ o → P (takes_cell a cell (taker_at o (on_link cell.header.channel)))
      by_found None found = nobody
      by_found (Some linked) found =
          let own : Found setups a linked = found_at_own setups a linked (port_on cell.header.channel) found in
          on_both (λ (o : Option Taker). P (takes_cell a cell o)) (same_channel (on_link cell.header.channel) default_channel) (Some (ForDefault linked))
          (label_taker linked (option_and_then (label_at linked.port) (label_number_of (on_link cell.header.channel)))) (takes (ForDefault linked) own)
          (by_label linked own (option_and_then (label_at linked.port) (label_number_of (on_link cell.header.channel))))

  pub cell_comes_goes : (a : Acted) (cell : Cell) → HasPorts setups a → To setups a (cell_comes a cell)
  cell_comes_goes a cell h = by_taker (To setups a) a cell (moves_to (noting a (Loss cell.mark Unbound)))
      (λ taker is. after_cell_goes a taker (taken a.notes (nat_lt 0 (free_slots a.controller)) (reassembly_of a.controller taker) cell) is h)

  -- *Tick*
  abbrev AnyStanding : Standing → Type 0
  AnyStanding s = Unit {0}

  any_standing : (standing : List Standing) → Every AnyStanding standing
  any_standing [] = tt
  any_standing (s ∷ standing) = (tt, any_standing standing)

  pub sends_again_goes : (a : Acted) → HasPorts setups a → To setups a (sends_again a)
  sends_again_goes a h = on_both (To setups a) (is_estab a.controller.adjacency.state) (fold sends_request a (sent_again a.controller.desk)) a
      (moves_fold setups AnyStanding sends_request (λ b s k any. sends_request_goes setups b s) (sent_again a.controller.desk) (any_standing (sent_again a.controller.desk)) a h) (stays a)

  pub ticks_port_goes : (a : Acted) (port : PortNo) → HasPorts setups a → To setups a (ticks_port a port)
  ticks_port_goes a port h = at_port_goes setups a port port_ticks.ticks h (λ linked found. by_rule _ (ticks_goes linked.setup a.controller.desk _ refl))

  pub ticks_ports_goes : (a : Acted) → HasPorts setups a → To setups a (ticks_ports a)
  ticks_ports_goes a h = moves_fold setups (Any setups) ticks_port (λ b port k any. ticks_port_goes b port k) (ports_of a.controller) (any_ports setups (ports_of a.controller)) a h

  ticks_on : (a : Acted) (step : sides.Step Party) → IsGsmpTurn a.controller.adjacency step → HasPorts setups a → To setups a (tries_joins (ticks_ports (sends_again (steps a step))))
  ticks_on a step turn h =
      let stepped : Acted = steps a step in
      let again : Acted = sends_again stepped in
      goes_on setups h (steps_goes a step turn h) (λ k. goes_on setups k (sends_again_goes stepped k)
      (λ l. goes_on setups l (ticks_ports_goes again l) (λ m. tries_joins_goes setups (ticks_ports again) m)))

  ticks_by_goes : (a : Acted) (step : sides.Step Party) (answer : Answer (Said Party) Party) → IsGsmpTurn a.controller.adjacency step → HasPorts setups a → To setups a (ticks_by a step answer)
  ticks_by_goes a step Quiet turn h = ticks_on a step turn h
  ticks_by_goes a step (Send message) turn h = ticks_on a step turn h
  ticks_by_goes a step (Open message own) turn h = ticks_on a step turn h
  ticks_by_goes a step Reset turn h = node_resets_goes setups a h

  pub controller_ticks_goes : (a : Acted) → HasPorts setups a → To setups a (ticks a)
  controller_ticks_goes a h = ticks_by_goes a (ticked a.controller.adjacency) (ticked a.controller.adjacency).answer ages h
