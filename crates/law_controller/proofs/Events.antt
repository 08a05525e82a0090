-- cells, packets, ticks and all other inputs keep requests and joins in order

use Rattle.std.proofs.Common.{◌≡◌, ℕ, Bool, true, false, List, [], ◌∷◌, length, Option, None, Some, refl, ◌∙◌, fold}
use Rattle.std.specs.Prelude.{nat_lt, nat_le, ◌==◌, drop, Result, Ok, Err}
use Rattle.law_controller_facts.specs.world_model.Words.{PortNo, Channel, Mark, Party, protocol_of, source_of, PacketFault, hop_of, onward, Hop, Here, On, Cell, kind_of, default_payload, labelled_payload, EncapsFault, default_unwrapped, unwrapped, Said, Answer, Quiet, Send, Open, Side, IsSide, is_estab, is_open, ticked, greeting_of, gsmp_answer, gsmp_received, heard_in, same_party, Unbound, PoolFull, frame_cells, made, next_control, with_control, Record, Bad, Loss, Delivered, Dropped, noted, encaps_refusal, packet_refusal, ifmp_refusal, gsmp_refusal, Reassembly, cut, nothing_taken, Tested, tested, last_mark, next_mark, Standing, sent_again, Setup, control_end, Label, Grant, counts, used, hears, IsLinkPort, Controller, Linked, linked_at, chains_with, default_channel, default_home, sends_control, says_gsmp, sends_request, begins, cuts_default_of, cuts_default, cuts_gsmp, node_resets, node_restarts, tries_joins, gsmp_holds, is_control, sends_next, goes_by, grant_by, forwards_packet, control_protocol, inject_refusal, ForGsmp, ForDefault, ForLabel, reassembly_of, with_reassembly, label_holds, ifmp_holds, counted_at, packet_holds, default_holds, frame_holds, sends_again, ticks_port, ticks_ports, ticks_by, Refusal}
use Rattle.law_controller_facts.specs.world_model.ipv4_packet.Packet.{first_fault}
use Rattle.law_controller_facts.specs.world_model.ipv4_forward.declared.outcome.Hop.TheVariants.{NoRoute, Expired}
use Rattle.law_controller_facts.specs.world_model.ifmp_wire.declared.message.Message.{Message as IfmpMessage}
use Rattle.law_controller_facts.specs.world_model.ifmp_wire.declared.reader.Fault.{Fault as IfmpFault}
use Rattle.law_controller_facts.specs.world_model.ifmp_wire.Fields.{decoded as ifmp_decoded}
use Rattle.law_controller_facts.specs.world_model.gsmp_wire.Layout.{octets_of as gsmp_octets}
use Rattle.law_controller_facts.specs.world_model.gsmp_wire.Fields.{decoded as gsmp_decoded}
use Rattle.law_controller_facts.specs.world_model.gsmp_wire.declared.fault.Fault.{Fault as GsmpFault}
use Rattle.law_controller_facts.specs.world_model.gsmp_wire.declared.message.Message.{Message}
use Rattle.law_controller_facts.specs.world_model.gsmp_wire.declared.message.Message.TheVariants as messages
use Rattle.law_controller_facts.specs.world_model.adjacency_table.declared.message.Answer.TheVariants.{Reset}
use Rattle.law_controller_facts.specs.world_model.adjacency_table.Side as sides
use Rattle.law_controller_facts.specs.world_model.frame_model.Sending.{Sender}
use Rattle.law_controller_facts.specs.world_model.link_model.declared.record.Layer.TheVariants as layers
use Rattle.law_controller_facts.specs.world_model.link_model.declared.record.DropCause.TheVariants as causes_of
use Rattle.law_controller_facts.specs.world_model.frame_model.Reassembly.{Taken, taken}
use Rattle.law_controller_facts.specs.world_model.port_model.Ticks as port_ticks
use Rattle.law_controller_facts.specs.law_port_facts.Port.{Lives}
use Rattle.law_controller_facts.proofs.law_port_facts.Keyed.{on_both}
use Rattle.law_controller_facts.proofs.law_port_facts.Rules.{used_goes, counts_goes}
use Rattle.law_controller_facts.proofs.law_port_facts.Hearings.{hears_goes, ticks_goes}
use Rattle.law_controller_facts.proofs.law_port_facts.Turns.{IsTurned, received_turns, ticked_turns}
use Rattle.law_controller_facts.specs.ordered_lists.Ordered.{Every}
use Rattle.law_controller_facts.specs.world_model.Controller.{Acted, free_slots, ports_of, note}
use Rattle.law_controller_facts.specs.world_model.Sending.{with_cells, sends}
use Rattle.law_controller_facts.specs.world_model.Gsmp.{answers, steps, message_comes}
use Rattle.law_controller_facts.specs.world_model.Packets.{forwarded}
use Rattle.law_controller_facts.specs.world_model.Cells.{Taker, opened_frame, ends_frame, after_cell, cell_comes}
use Rattle.law_controller_facts.specs.world_model.Ticks.{ticks}
use Rattle.law_controller_facts.specs.Inputs.{Input, CellComes, PacketEnters, Ticks, Restarts, ChangeComes, FrameIsForged, CellLeaves, Meanwhile, enters_unless, takes_input, takes_inputs}
use Rattle.law_controller_facts.proofs.Lifetimes.{decoded_lives}
use Rattle.law_controller_facts.proofs.Moves.{IsGsmpTurn, hears as hears_greeting, ages, gathering, popping, turning, moves_to, found_at_own, found_port}
use Rattle.law_controller_facts.proofs.Events.{IsTaker, by_taker}
use Rattle.law_controller_facts.proofs.Laws.{has_ports, moves_sound}
use Rattle.law_controller.proofs.Whole.{Whole, numbered_whole, sends_whole, sends_control_whole, chained_whole, node_whole, sends_request_whole, at_port_whole}
use Rattle.law_controller.proofs.Entering.{both_not}
use Rattle.law_controller.proofs.Changing.{tries_joins_holds, change_comes_holds}
use Rattle.law_controller.proofs.Answering.{meets_holds, answer_comes_holds}

module _ (setups : List Setup) (links : Every (λ (setup : Setup). IsLinkPort setup.port) setups) where
  noted_holds : (a : Acted) (item : Record) → Whole setups a → Whole setups (note a item)
  noted_holds a item h = numbered_whole setups a (noted a.notes item) h

  -- *Packets*
  sends_next_holds : (a : Acted) (came : Mark) (channel : Channel) (payload : List ℕ) → Whole setups a → Whole setups (sends_next a came channel payload)
  sends_next_holds a came channel payload h = on_both (Whole setups) (is_control came) (sends_control a channel payload) (sends a channel (next_mark came) payload)
      (sends_control_whole setups a channel payload h) (sends_whole setups a channel (next_mark came) payload h)

  goes_by_holds : (a : Acted) (came : Mark) (port : PortNo) (packet : List ℕ) (o : Option Grant) → Whole setups a → Whole setups (goes_by a came port packet o)
  goes_by_holds a came port packet None h = sends_next_holds a came (default_home port).channel (default_payload packet) h
  goes_by_holds a came port packet (Some grant) h = sends_next_holds a came (control_end port grant.label).channel (labelled_payload (kind_of grant.flow) packet) h

  forwarded_holds : (a : Acted) (came : Mark) (packet : List ℕ) (hop : Hop) → Whole setups a → Whole setups (forwarded a came packet hop)
  forwarded_holds a came packet Here h = noted_holds a (Delivered a.controller.node came.packet packet) h
  forwarded_holds a came packet NoRoute h = noted_holds a (Dropped a.controller.node came.packet causes_of.NoRoute) h
  forwarded_holds a came packet Expired h = noted_holds a (Dropped a.controller.node came.packet causes_of.Expired) h
  forwarded_holds a came packet (On port) h = goes_by_holds a came port (onward packet) (grant_by a.controller port (onward packet)) h

  pub routes_holds : (a : Acted) (came : Mark) (packet : List ℕ) → Whole setups a → Whole setups (forwards_packet a came packet)
  routes_holds a came packet h = forwarded_holds a came packet (hop_of a.controller.table packet) h

  -- *The adjacency with the switch*
  turns : (side : Side Party) (step : sides.Step Party) → IsSide side → IsGsmpTurn side step → IsTurned side step
  turns side step h (hears_greeting greeting) = received_turns side (heard_in greeting) same_party h
  turns side step h ages = ticked_turns side h

  says_gsmp_holds : (a : Acted) (message : Message) → Whole setups a → Whole setups (says_gsmp a message)
  says_gsmp_holds a message h = sends_control_whole setups a default_channel (gsmp_octets message) h

  sent_met : (b : Acted) (channel : Channel) (mark : Mark) (payload : List ℕ) → (sends b channel mark payload).controller.has_met ≡ b.controller.has_met
  sent_met b channel mark payload = on_both (λ (x : Sender Controller). x.queues.has_met ≡ b.controller.has_met) (nat_le (length (frame_cells channel mark payload)) (free_slots b.controller))
      (record { queues = with_cells b.controller (frame_cells channel mark payload); notes = made b.notes mark payload })
      (record { queues = b.controller; notes = noted (made b.notes mark payload) (Loss mark PoolFull) }) refl refl

  says_met : (a : Acted) (message : Message) → (says_gsmp a message).controller.has_met ≡ a.controller.has_met
  says_met a message = sent_met (record a { numbers = with_control a.numbers }) default_channel (next_control a.numbers) (gsmp_octets message)

  answers_holds : (a : Acted) (answer : Answer (Said Party) Party) → (is_open answer ≡ true → a.controller.has_met ≡ false) → Whole setups a → Whole setups (answers a (gsmp_answer answer))
  answers_holds a Quiet unmet h = h
  answers_holds a (Send message) unmet h = says_gsmp_holds a (messages.Adjacency (greeting_of message)) h
  answers_holds a (Open None own) unmet h = meets_holds setups links a (unmet refl) h
  answers_holds a (Open (Some message) own) unmet h = meets_holds setups links (says_gsmp a (messages.Adjacency (greeting_of message))) (says_met a (messages.Adjacency (greeting_of message)) ∙ unmet refl)
      (says_gsmp_holds a (messages.Adjacency (greeting_of message)) h)
  answers_holds a Reset unmet h = node_whole setups a h

  pub steps_holds : (a : Acted) (step : sides.Step Party) → IsGsmpTurn a.controller.adjacency step → Whole setups a → Whole setups (steps a step)
  steps_holds a step turn h = answers_holds (record a { controller = record a.controller { adjacency = step.side } }) step.answer (λ o. unmet o a.controller.has_met refl)
      (record { sound = moves_sound setups a (record a { controller = record a.controller { adjacency = step.side } }) (moves_to (turning a step turn)) h.sound; order = h.order; fits = h.fits })
    where
      unmet : is_open step.answer ≡ true → (b : Bool) → a.controller.has_met ≡ b → a.controller.has_met ≡ false
      unmet o true e = absurd (both_not (is_estab a.controller.adjacency.state) (h.sound.desk.met e) ((turns a.controller.adjacency step h.sound.side turn).before_entry o))
      unmet o false e = e

  told_holds : (a : Acted) (message : Message) → Whole setups a → Whole setups (message_comes a message)
  told_holds a (messages.Adjacency greeting) h = steps_holds a (gsmp_received a.controller.adjacency greeting) (hears_greeting greeting) h
  told_holds a (messages.Branch kind result code number session input_port input output_port output branches priority) h =
      answer_comes_holds setups links a (messages.Branch kind result code number session input_port input output_port output branches priority) h
  told_holds a (messages.Move result code number session input_port input output_port output target_port target branches priority) h =
      answer_comes_holds setups links a (messages.Move result code number session input_port input output_port output target_port target branches priority) h
  told_holds a (messages.Port result code number port session function) h = answer_comes_holds setups links a (messages.Port result code number port session function) h
  told_holds a (messages.AllPorts result code number rows) h = answer_comes_holds setups links a (messages.AllPorts result code number rows) h

  pub gsmp_holds_order : (a : Acted) (r : Result Message GsmpFault) → Whole setups a → Whole setups (gsmp_holds a r)
  gsmp_holds_order a (Ok message) h = told_holds a message h
  gsmp_holds_order a (Err fault) h = noted_holds a (Bad a.controller.node layers.Gsmp (gsmp_refusal fault)) h

  -- *Frames*
  label_holds_order : (a : Acted) (linked : Linked) (label : Label) (mark : Mark) (r : Result (List ℕ) EncapsFault) → Whole setups a → Whole setups (label_holds a linked label mark r)
  label_holds_order a linked label mark (Err fault) h = noted_holds a (Bad a.controller.node layers.Encaps (encaps_refusal fault)) h
  label_holds_order a linked label mark (Ok packet) h = (let routed : Acted = forwards_packet a mark packet in
      at_port_whole setups routed linked.setup.port (λ setup desk w. used w label.number) (λ other found. used_goes other.setup routed.controller.desk (begins routed other) label.number) (routes_holds a mark packet h))

  ifmp_holds_order : (a : Acted) (port : PortNo) (packet : List ℕ) (r : Result IfmpMessage IfmpFault) → ((message : IfmpMessage) → r ≡ Ok message → Lives message) → Whole setups a → Whole setups (ifmp_holds a port packet r)
  ifmp_holds_order a port packet (Err fault) lives h = noted_holds a (Bad a.controller.node layers.Ifmp (ifmp_refusal fault)) h
  ifmp_holds_order a port packet (Ok message) lives h = at_port_whole setups a port (λ setup desk w. hears setup desk w (source_of packet) message)
      (λ linked found. hears_goes linked.setup a.controller.desk (begins a linked) (source_of packet) message refl (lives message refl)) h

  counted_holds : (a : Acted) (port : PortNo) (packet : List ℕ) → Whole setups a → Whole setups (counted_at a port packet)
  counted_holds a port packet h = at_port_whole setups a port (λ setup desk w. counts setup desk w packet)
      (λ linked found. counts_goes linked.setup a.controller.desk (begins a linked) packet (found_port setups a linked port (has_ports setups a h.sound) found).ascend) h

  packet_holds_order : (a : Acted) (port : PortNo) (mark : Mark) (packet : List ℕ) (o : Option PacketFault) → Whole setups a → Whole setups (packet_holds a port mark packet o)
  packet_holds_order a port mark packet (Some fault) h = noted_holds a (Bad a.controller.node layers.Packet (packet_refusal fault)) h
  packet_holds_order a port mark packet None h = on_both (Whole setups) (protocol_of packet == control_protocol) (ifmp_holds a port packet (ifmp_decoded (drop 20 packet))) (counted_at (forwards_packet a mark packet) port packet)
      (ifmp_holds_order a port packet (ifmp_decoded (drop 20 packet)) (decoded_lives (drop 20 packet)) h) (counted_holds (forwards_packet a mark packet) port packet (routes_holds a mark packet h))

  default_holds_order : (a : Acted) (port : PortNo) (mark : Mark) (r : Result (List ℕ) EncapsFault) → Whole setups a → Whole setups (default_holds a port mark r)
  default_holds_order a port mark (Err fault) h = noted_holds a (Bad a.controller.node layers.Encaps (encaps_refusal fault)) h
  default_holds_order a port mark (Ok packet) h = packet_holds_order a port mark packet (first_fault packet) h

  frame_holds_order : (a : Acted) (taker : Taker) (mark : Mark) (payload : List ℕ) → Whole setups a → Whole setups (frame_holds a taker mark payload)
  frame_holds_order a ForGsmp mark payload h = gsmp_holds_order a (gsmp_decoded payload) h
  frame_holds_order a (ForDefault linked) mark payload h = default_holds_order a linked.setup.port mark (default_unwrapped payload) h
  frame_holds_order a (ForLabel linked label) mark payload h = label_holds_order a linked label mark (unwrapped label.flow payload) h

  opened_holds : (a : Acted) (taker : Taker) (mark : Mark) (o : Option (List ℕ)) → Whole setups a → Whole setups (opened_frame a taker mark o)
  opened_holds a taker mark None h = h
  opened_holds a taker mark (Some payload) h = frame_holds_order a taker mark payload h

  ends_holds : (a : Acted) (taker : Taker) (cells : List Cell) → Whole setups a → Whole setups (ends_frame a taker cells)
  ends_holds a taker [] h = h
  ends_holds a taker (cell ∷ cells) h = (let test : Tested = tested a.notes (cell ∷ cells) in
      opened_holds (record a { notes = test.notes }) taker (last_mark (cell ∷ cells)) test.payload (numbered_whole setups a test.notes h))

  -- *Cells*
  gathered_holds : (a : Acted) (taker : Taker) (r : Reassembly) → IsTaker setups a taker → Whole setups a → Whole setups (with_reassembly a taker r)
  gathered_holds a ForGsmp r is h = record { sound = moves_sound setups a (with_reassembly a ForGsmp r) (moves_to (gathering a r)) h.sound; order = h.order; fits = h.fits }
  gathered_holds a (ForDefault linked) r is h = chained_whole setups a linked (record linked { reassembly = r }) is refl refl h
  gathered_holds a (ForLabel linked label) r is h = chained_whole setups a linked (record linked { chains = chains_with linked.chains label.number r }) is refl refl h

  noted_taker : (a : Acted) (taker : Taker) (t : Taken) → IsTaker setups a taker → IsTaker setups (record a { notes = t.notes }) taker
  noted_taker a ForGsmp t is = tt
  noted_taker a (ForDefault linked) t is = is
  noted_taker a (ForLabel linked label) t is = is

  after_holds : (a : Acted) (taker : Taker) (t : Taken) → IsTaker setups a taker → Whole setups a → Whole setups (after_cell a taker t)
  after_holds a taker t is h = (let noted : Acted = record a { notes = t.notes } in
      ends_holds (with_reassembly noted taker t.reassembly) taker t.ended (gathered_holds noted taker t.reassembly (noted_taker a taker t is) (numbered_whole setups a t.notes h)))

  pub cell_comes_holds : (a : Acted) (cell : Cell) → Whole setups a → Whole setups (cell_comes a cell)
  cell_comes_holds a cell h = by_taker setups (Whole setups) a cell (noted_holds a (Loss cell.mark Unbound) h)
      (λ taker is. after_holds a taker (taken a.notes (nat_lt 0 (free_slots a.controller)) (reassembly_of a.controller taker) cell) is h)

  -- *Tick*
  again_each : (standing : List Standing) (a : Acted) → Whole setups a → Whole setups (fold sends_request a standing)
  again_each [] a h = h
  again_each (s ∷ standing) a h = again_each standing (sends_request a s) (sends_request_whole setups a s h)

  pub sends_again_holds : (a : Acted) → Whole setups a → Whole setups (sends_again a)
  sends_again_holds a h = on_both (Whole setups) (is_estab a.controller.adjacency.state) (fold sends_request a (sent_again a.controller.desk)) a (again_each (sent_again a.controller.desk) a h) h

  pub ticks_port_holds : (a : Acted) (port : PortNo) → Whole setups a → Whole setups (ticks_port a port)
  ticks_port_holds a port h = at_port_whole setups a port port_ticks.ticks (λ linked found. ticks_goes linked.setup a.controller.desk (begins a linked) refl) h

  ticks_each : (ports : List PortNo) (a : Acted) → Whole setups a → Whole setups (fold ticks_port a ports)
  ticks_each [] a h = h
  ticks_each (port ∷ ports) a h = ticks_each ports (ticks_port a port) (ticks_port_holds a port h)

  ticks_on : (a : Acted) (step : sides.Step Party) → IsGsmpTurn a.controller.adjacency step → Whole setups a → Whole setups (tries_joins (ticks_ports (sends_again (steps a step))))
  ticks_on a step turn h = (let again : Acted = sends_again (steps a step) in
      tries_joins_holds setups (ticks_ports again) (ticks_each (ports_of again.controller) again (sends_again_holds (steps a step) (steps_holds a step turn h))))

  ticks_by_holds : (a : Acted) (step : sides.Step Party) (answer : Answer (Said Party) Party) → IsGsmpTurn a.controller.adjacency step → Whole setups a → Whole setups (ticks_by a step answer)
  ticks_by_holds a step Quiet turn h = ticks_on a step turn h
  ticks_by_holds a step (Send message) turn h = ticks_on a step turn h
  ticks_by_holds a step (Open message own) turn h = ticks_on a step turn h
  ticks_by_holds a step Reset turn h = node_whole setups a h

  pub ticks_holds : (a : Acted) → Whole setups a → Whole setups (ticks a)
  ticks_holds a h = ticks_by_holds a (ticked a.controller.adjacency) (ticked a.controller.adjacency).answer ages h

  -- *Restart*
  cut_default_holds : (a : Acted) (port : PortNo) (o : Option Linked) → linked_at a.controller port ≡ o → Whole setups a → Whole setups (cuts_default_of a o)
  cut_default_holds a port None found h = h
  cut_default_holds a port (Some linked) found h = (let noted : Acted = record a { notes = cut a.notes linked.reassembly } in
      chained_whole setups noted linked (record linked { reassembly = nothing_taken }) (found_at_own setups a linked port found) refl refl (numbered_whole setups a (cut a.notes linked.reassembly) h))

  cut_defaults : (ports : List PortNo) (a : Acted) → Whole setups a → Whole setups (fold cuts_default a ports)
  cut_defaults [] a h = h
  cut_defaults (port ∷ ports) a h = cut_defaults ports (cuts_default a port) (cut_default_holds a port (linked_at a.controller port) refl h)

  pub node_restarts_holds : (a : Acted) → Whole setups a → Whole setups (node_restarts a)
  node_restarts_holds a h =
      let fresh : Acted = node_resets a in
      let noted : Acted = record fresh { notes = cut fresh.notes fresh.controller.reassembly } in
      cut_defaults (ports_of a.controller) (cuts_gsmp fresh) (gathered_holds noted ForGsmp nothing_taken tt (numbered_whole setups fresh noted.notes (node_whole setups a h)))

  -- *Each input*
  enters_holds : (a : Acted) (number : ℕ) (octets : List ℕ) (o : Option Refusal) → Whole setups a → Whole setups (enters_unless a number octets o)
  enters_holds a number octets (Some refusal) h = h
  enters_holds a number octets None h = routes_holds a (record { packet = number; frame = 0 }) octets h

  pub input_holds : (a : Acted) (input : Input) → Whole setups a → Whole setups (takes_input a input)
  input_holds a (CellComes cell) h = cell_comes_holds a cell h
  input_holds a (PacketEnters number octets) h = enters_holds a number octets (inject_refusal octets) h
  input_holds a Ticks h = ticks_holds a h
  input_holds a Restarts h = node_restarts_holds a h
  input_holds a (ChangeComes change) h = change_comes_holds setups a change h
  input_holds a (FrameIsForged channel mark payload) h = sends_whole setups a channel mark payload h
  input_holds a CellLeaves h = record { sound = moves_sound setups a (takes_input a CellLeaves) (moves_to (popping a (drop 1 a.controller.queue))) h.sound; order = h.order; fits = h.fits }
  input_holds a (Meanwhile notes numbers) h = record { sound = h.sound; order = h.order; fits = h.fits }

  pub inputs_hold : (inputs : List Input) (a : Acted) → Whole setups a → Whole setups (takes_inputs a inputs)
  inputs_hold [] a h = h
  inputs_hold (input ∷ inputs) a h = inputs_hold inputs (takes_input a input) (input_holds a input h)
