-- cells, packets, ticks and all other inputs keep labels bound, joins led and chains of bound labels

use Rattle.std.proofs.Common.{◌≡◌, ℕ, Bool, true, List, [], ◌∷◌, length, Option, None, Some, refl, ◌∙◌, fold, sym, ap, subst, inl, ◌++◌, append-nil, append_assoc}
use Rattle.std.specs.Prelude.{nat_lt, ◌==◌, drop, Result, Ok, Err, ◌||◌}
use Rattle.law_controller.specs.world_model.Words.{PortNo, Channel, Mark, Party, protocol_of, source_of, PacketFault, hop_of, onward, Hop, Here, On, Cell, kind_of, default_payload, labelled_payload, EncapsFault, default_unwrapped, unwrapped, Said, Answer, Quiet, Send, Open, Side, IsSide, is_estab, is_open, ticked, greeting_of, gsmp_answer, gsmp_received, Unbound, Tested, tested, last_mark, next_mark, Record, Bad, Loss, Delivered, Dropped, encaps_refusal, packet_refusal, ifmp_refusal, gsmp_refusal, Reassembly, cut, nothing_taken, sent_again, Setup, control_end, Label, is_bound, Grant, counts, used, hears, IsLinkPort, Linked, linked_at, chains_with, default_channel, default_home, LabelChain, port_key, chain_key, chain_slots, with_linked, sends_control, says_gsmp, sends_request, begins, cuts_default_of, cuts_default, cuts_gsmp, node_resets, node_restarts, tries_joins, gsmp_holds, is_control, sends_next, goes_by, grant_by, forwards_packet, control_protocol, inject_refusal, ForGsmp, ForDefault, ForLabel, reassembly_of, with_reassembly, label_holds, ifmp_holds, counted_at, packet_holds, default_holds, frame_holds, port_on, on_link, same_channel, label_taker, taker_at, takes_cell, sends_again, ticks_port, ticks_ports, ticks_by, Refusal, NodeId, label_number_of, entered, without, key_le, label_at, labels_of, meets, Layer}
use Rattle.law_controller.specs.world_model.ipv4_packet.Packet.{first_fault}
use Rattle.law_controller.specs.world_model.ipv4_forward.declared.outcome.Hop.TheVariants.{NoRoute, Expired}
use Rattle.law_controller.specs.world_model.ifmp_wire.declared.message.Message.{Message as IfmpMessage}
use Rattle.law_controller.specs.world_model.ifmp_wire.declared.reader.Fault.{Fault as IfmpFault}
use Rattle.law_controller.specs.world_model.ifmp_wire.Fields.{decoded as ifmp_decoded}
use Rattle.law_controller.specs.world_model.gsmp_wire.Fields.{decoded as gsmp_decoded}
use Rattle.law_controller.specs.world_model.gsmp_wire.declared.fault.Fault.{Fault as GsmpFault}
use Rattle.law_controller.specs.world_model.gsmp_wire.declared.message.Message.{Message}
use Rattle.law_controller.specs.world_model.gsmp_wire.declared.message.Message.TheVariants as messages
use Rattle.law_controller.specs.world_model.adjacency_table.declared.message.Answer.TheVariants.{Reset}
use Rattle.law_controller.specs.world_model.adjacency_table.Side as sides
use Rattle.law_controller.specs.world_model.link_model.declared.record.Layer.TheVariants as layers
use Rattle.law_controller.specs.world_model.link_model.declared.record.DropCause.TheVariants as causes_of
use Rattle.law_controller.specs.world_model.frame_model.Reassembly.{Taken, taken}
use Rattle.law_controller.specs.world_model.port_model.Ticks as port_ticks
use Rattle.law_controller.specs.law_port_facts.Port.{Lives}
use Rattle.law_controller.proofs.law_port_facts.Keyed.{on_both, on_each, entered_every, without_every}
use Rattle.law_controller.proofs.law_port_facts.Rules.{used_goes, counts_goes}
use Rattle.law_controller.proofs.law_port_facts.Hearings.{hears_goes, ticks_goes}
use Rattle.law_controller.specs.ordered_lists.Ordered.{Every}
use Rattle.law_controller.specs.world_model.Controller.{Acted, free_slots, ports_of, note}
use Rattle.law_controller.specs.world_model.Sending.{sends}
use Rattle.law_controller.specs.world_model.Gsmp.{answers, steps, message_comes}
use Rattle.law_controller.specs.world_model.Packets.{forwarded}
use Rattle.law_controller.specs.world_model.Cells.{Taker, opened_frame, ends_frame, cell_comes}
use Rattle.law_controller.specs.world_model.Ticks.{ticks}
use Rattle.law_controller.specs.law_controller_facts.Inputs.{Input, CellComes, PacketEnters, Ticks, Restarts, ChangeComes, FrameIsForged, CellLeaves, Meanwhile, enters_unless, takes_input, takes_inputs}
use Rattle.law_controller.proofs.law_controller_facts.Lifetimes.{decoded_lives}
use Rattle.law_controller.proofs.law_controller_facts.Moves.{IsGsmpTurn, ages, gathering, moves_to, found_at_own, found_port, Found}
use Rattle.law_controller.proofs.law_controller_facts.Laws.{has_ports, moves_sound}
use Rattle.law_controller.proofs.Whole.{Whole, numbered_whole, chained_whole}
use Rattle.std.specs.Option.{option_and_then}
use Rattle.law_controller.proofs.law_port_facts.Found.{by_number}
use Rattle.law_controller.specs.law_controller_facts.Sound.{IsOwn}
use Rattle.law_controller.proofs.Events.{routes_holds, steps_holds, sends_again_holds, ticks_port_holds, input_holds}
use Rattle.std.proofs.Math.Seq.{drop-append_seam}
use Rattle.law_controller_bindings.specs.Bindings.{IsOfNode, noted_by, noted_by_all}
use Rattle.law_controller_bindings.proofs.Lasts.{stays_so, cut_grows, taken_grows, tested_grows}
use Rattle.law_controller_bindings.proofs.Working.{Remains}
use Rattle.law_controller_bindings.proofs.Anew.{IsAt, Fit}
use Rattle.law_controller_bindings.proofs.Tied.{Tied, noted_put, Settled, NoCut, Goes, calmly, rests, goes_then, goes_fold, goes_fit, goes_settled, settled_fit, note_goes, notes_goes, sends_goes, sends_control_goes, says_gsmp_goes, sends_request_goes, node_goes}
use Rattle.law_controller_bindings.proofs.Performing.{IsTied, tied_at, put_tied, at_port_goes}
use Rattle.law_controller_bindings.proofs.Joining.{tries_joins_settled, change_comes_settled}
use Rattle.law_controller_bindings.proofs.Answering.{meets_goes, answer_comes_settled}

-- *Packets*
sends_next_goes : (a : Acted) (came : Mark) (channel : Channel) (payload : List ℕ) → Goes a (sends_next a came channel payload)
sends_next_goes a came channel payload = on_both (Goes a) (is_control came) (sends_control a channel payload) (sends a channel (next_mark came) payload) (sends_control_goes a channel payload) (sends_goes a channel (next_mark came) payload)

goes_by_goes : (a : Acted) (came : Mark) (port : PortNo) (packet : List ℕ) (o : Option Grant) → Goes a (goes_by a came port packet o)
goes_by_goes a came port packet None = sends_next_goes a came (default_home port).channel (default_payload packet)
goes_by_goes a came port packet (Some grant) = sends_next_goes a came (control_end port grant.label).channel (labelled_payload (kind_of grant.flow) packet)

pub routes_goes : (a : Acted) (came : Mark) (packet : List ℕ) → Goes a (forwards_packet a came packet)
routes_goes a came packet = by_hop (hop_of a.controller.table packet)
  where
    by_hop : (hop : Hop) → Goes a (forwarded a came packet hop)
    by_hop Here = note_goes a (Delivered a.controller.node came.packet packet) (λ end label. refl) (λ m own. own)
    by_hop NoRoute = note_goes a (Dropped a.controller.node came.packet causes_of.NoRoute) (λ end label. refl) (λ m own. own)
    by_hop Expired = note_goes a (Dropped a.controller.node came.packet causes_of.Expired) (λ end label. refl) (λ m own. own)
    by_hop (On port) = goes_by_goes a came port (onward packet) (grant_by a.controller port (onward packet))

-- *The adjacency with the switch*
answers_goes : (a : Acted) (answer : Answer (Said Party) Party) → Fit a.controller.ports → Goes a (answers a (gsmp_answer answer))
answers_goes a Quiet fit = rests a
answers_goes a (Send message) fit = says_gsmp_goes a (messages.Adjacency (greeting_of message))
answers_goes a (Open None own) fit = meets_goes a fit
answers_goes a (Open (Some message) own) fit = (let b : Acted = says_gsmp a (messages.Adjacency (greeting_of message)) in
    let said : Goes a b = says_gsmp_goes a (messages.Adjacency (greeting_of message)) in
    goes_then a b (meets b) said (meets_goes b (goes_fit a b said fit)))
answers_goes a Reset fit = node_goes a fit

pub steps_goes : (a : Acted) (step : sides.Step Party) → Fit a.controller.ports → Goes a (steps a step)
steps_goes a step fit = (let b : Acted = record a { controller = record a.controller { adjacency = step.side } } in
    goes_then a b (steps a step) (calmly refl refl refl (stays_so a.notes.records)) (answers_goes b step.answer fit))

pub again_goes : (a : Acted) → Fit a.controller.ports → Goes a (sends_again a)
again_goes a fit = on_both (Goes a) (is_estab a.controller.adjacency.state) (fold sends_request a (sent_again a.controller.desk)) a (goes_fold sends_request (λ b s k. sends_request_goes b s) (sent_again a.controller.desk) a fit) (rests a)

module _ (node : NodeId) (earlier began : List Record) (setups : List Setup) (links : Every (λ (setup : Setup). IsLinkPort setup.port) setups) (nodes : Every (λ (setup : Setup). setup.node ≡ node) setups) where
  abbrev Bound : Acted → Type 0
  Bound = Settled node earlier began

  noted_bound : (a : Acted) (layer : Layer) (name : Refusal) → Bound a → Bound (note a (Bad a.controller.node layer name))
  noted_bound a layer name k = goes_settled node earlier began a (note a (Bad a.controller.node layer name)) (note_goes a (Bad a.controller.node layer name) (λ end label. refl) (λ m own. own)) k

  routes_bound : (a : Acted) (came : Mark) (packet : List ℕ) → Bound a → Bound (forwards_packet a came packet)
  routes_bound a came packet k = goes_settled node earlier began a (forwards_packet a came packet) (routes_goes a came packet) k

  steps_bound : (a : Acted) (step : sides.Step Party) → Bound a → Bound (steps a step)
  steps_bound a step k = goes_settled node earlier began a (steps a step) (steps_goes a step (settled_fit node earlier began a k)) k

  -- *Frames*
  told_bound : (a : Acted) (message : Message) → Whole setups a → Bound a → Bound (message_comes a message)
  told_bound a (messages.Adjacency greeting) h k = steps_bound a (gsmp_received a.controller.adjacency greeting) k
  told_bound a (messages.Branch kind result code number session input_port input output_port output branches priority) h k =
      answer_comes_settled node earlier began setups links a h k (messages.Branch kind result code number session input_port input output_port output branches priority)
  told_bound a (messages.Move result code number session input_port input output_port output target_port target branches priority) h k =
      answer_comes_settled node earlier began setups links a h k (messages.Move result code number session input_port input output_port output target_port target branches priority)
  told_bound a (messages.Port result code number port session function) h k = answer_comes_settled node earlier began setups links a h k (messages.Port result code number port session function)
  told_bound a (messages.AllPorts result code number rows) h k = answer_comes_settled node earlier began setups links a h k (messages.AllPorts result code number rows)

  gsmp_bound : (a : Acted) (r : Result Message GsmpFault) → Whole setups a → Bound a → Bound (gsmp_holds a r)
  gsmp_bound a (Ok message) h k = told_bound a message h k
  gsmp_bound a (Err fault) h k = noted_bound a layers.Gsmp (gsmp_refusal fault) k

  label_bound : (a : Acted) (linked : Linked) (label : Label) (mark : Mark) (r : Result (List ℕ) EncapsFault) → Whole setups a → Bound a → Bound (label_holds a linked label mark r)
  label_bound a linked label mark (Err fault) h k = noted_bound a layers.Encaps (encaps_refusal fault) k
  label_bound a linked label mark (Ok packet) h k = (let routed : Acted = forwards_packet a mark packet in
      at_port_goes node earlier began setups routed linked.setup.port (λ setup desk w. used w label.number) (λ other found. used_goes other.setup routed.controller.desk (begins routed other) label.number)
      (routes_holds setups links a mark packet h) (routes_bound a mark packet k))

  pub ifmp_bound : (a : Acted) (port : PortNo) (packet : List ℕ) (r : Result IfmpMessage IfmpFault) → ((message : IfmpMessage) → r ≡ Ok message → Lives message) → Whole setups a → Bound a → Bound (ifmp_holds a port packet r)
  ifmp_bound a port packet (Err fault) lives h k = noted_bound a layers.Ifmp (ifmp_refusal fault) k
  ifmp_bound a port packet (Ok message) lives h k = at_port_goes node earlier began setups a port (λ setup desk w. hears setup desk w (source_of packet) message)
      (λ linked found. hears_goes linked.setup a.controller.desk (begins a linked) (source_of packet) message refl (lives message refl)) h k

  pub counted_bound : (a : Acted) (port : PortNo) (packet : List ℕ) → Whole setups a → Bound a → Bound (counted_at a port packet)
  counted_bound a port packet h k = at_port_goes node earlier began setups a port (λ setup desk w. counts setup desk w packet)
      (λ linked found. counts_goes linked.setup a.controller.desk (begins a linked) packet (found_port setups a linked port (has_ports setups a h.sound) found).ascend) h k

  packet_bound : (a : Acted) (port : PortNo) (mark : Mark) (packet : List ℕ) (o : Option PacketFault) → Whole setups a → Bound a → Bound (packet_holds a port mark packet o)
  packet_bound a port mark packet (Some fault) h k = noted_bound a layers.Packet (packet_refusal fault) k
  packet_bound a port mark packet None h k = on_both Bound (protocol_of packet == control_protocol) (ifmp_holds a port packet (ifmp_decoded (drop 20 packet))) (counted_at (forwards_packet a mark packet) port packet)
      (ifmp_bound a port packet (ifmp_decoded (drop 20 packet)) (decoded_lives (drop 20 packet)) h k) (counted_bound (forwards_packet a mark packet) port packet (routes_holds setups links a mark packet h) (routes_bound a mark packet k))

  default_bound : (a : Acted) (port : PortNo) (mark : Mark) (r : Result (List ℕ) EncapsFault) → Whole setups a → Bound a → Bound (default_holds a port mark r)
  default_bound a port mark (Err fault) h k = noted_bound a layers.Encaps (encaps_refusal fault) k
  default_bound a port mark (Ok packet) h k = packet_bound a port mark packet (first_fault packet) h k

  pub frame_bound : (a : Acted) (taker : Taker) (mark : Mark) (payload : List ℕ) → Whole setups a → Bound a → Bound (frame_holds a taker mark payload)
  frame_bound a ForGsmp mark payload h k = gsmp_bound a (gsmp_decoded payload) h k
  frame_bound a (ForDefault linked) mark payload h k = default_bound a linked.setup.port mark (default_unwrapped payload) h k
  frame_bound a (ForLabel linked label) mark payload h k = label_bound a linked label mark (unwrapped label.flow payload) h k

  opened_bound : (a : Acted) (taker : Taker) (mark : Mark) (o : Option (List ℕ)) → Whole setups a → Bound a → Bound (opened_frame a taker mark o)
  opened_bound a taker mark None h k = k
  opened_bound a taker mark (Some payload) h k = frame_bound a taker mark payload h k

  ends_bound : (a : Acted) (taker : Taker) (cells : List Cell) → Whole setups a → Bound a → Bound (ends_frame a taker cells)
  ends_bound a taker [] h k = k
  ends_bound a taker (cell ∷ cells) h k =
      let test : Tested = tested a.notes (cell ∷ cells) in
      let b : Acted = record a { notes = test.notes } in
      opened_bound b taker (last_mark (cell ∷ cells)) test.payload (numbered_whole setups a test.notes h) (goes_settled node earlier began a b (notes_goes a test.notes (tested_grows a.notes (cell ∷ cells))) k)

  -- *Cells*: a channel of a label is that of a bound one
  pub record IsBoundAt (a : Acted) (linked : Linked) (label : Label) : Type 0 where
    pub found : Found setups a linked
    pub there : label_at linked.port label.number ≡ Some label
    pub bound : is_bound label.state ≡ true

  abbrev pub IsTakerOf : Acted → Taker → Type 0
  IsTakerOf a ForGsmp = Unit {0}
  IsTakerOf a (ForDefault linked) = Found setups a linked
  IsTakerOf a (ForLabel linked label) = IsBoundAt a linked label

  by_taker_of : (P : Acted → Type 0) (a : Acted) (cell : Cell) → P (takes_cell a cell None) → ((taker : Taker) → IsTakerOf a taker → P (takes_cell a cell (Some taker))) → P (cell_comes a cell)
  by_taker_of P a cell nobody takes = on_both (λ (o : Option Taker). P (takes_cell a cell o)) (same_channel cell.header.channel default_channel) (Some ForGsmp)
      (taker_at (linked_at a.controller (port_on cell.header.channel)) (on_link cell.header.channel)) (takes ForGsmp tt) (by_found (linked_at a.controller (port_on cell.header.channel)) refl)
    where
      by_label : (linked : Linked) → Found setups a linked → (n : Option ℕ) (o : Option Label) → option_and_then (label_at linked.port) n ≡ o → P (takes_cell a cell (label_taker linked o))
      by_label linked found n None there = nobody
      by_label linked found None (Some label) there = absurd (cc there)
      by_label linked found (Some n) (Some label) there = on_each (λ (o : Option Taker). P (takes_cell a cell o)) (is_bound label.state) (Some (ForLabel linked label)) None
          (λ bound. takes (ForLabel linked label) (record { found = found; there = by_number linked.port n label there; bound = bound })) (λ t. nobody)

      by_found : (o : Option Linked) → linked_at a.controller (port_on cell.header.channel) ≡ o → P (takes_cell a cell (taker_at o (on_link cell.header.channel)))
      by_found None found = nobody
      by_found (Some linked) found =
          let own : Found setups a linked = found_at_own setups a linked (port_on cell.header.channel) found in
          on_both (λ (o : Option Taker). P (takes_cell a cell o)) (same_channel (on_link cell.header.channel) default_channel) (Some (ForDefault linked))
          (label_taker linked (option_and_then (label_at linked.port) (label_number_of (on_link cell.header.channel)))) (takes (ForDefault linked) own)
          (by_label linked own (label_number_of (on_link cell.header.channel)) (option_and_then (label_at linked.port) (label_number_of (on_link cell.header.channel))) refl)

  gathered_whole : (a : Acted) (taker : Taker) (r : Reassembly) → IsTakerOf a taker → Whole setups a → Whole setups (with_reassembly a taker r)
  gathered_whole a ForGsmp r is h = record { sound = moves_sound setups a (with_reassembly a ForGsmp r) (moves_to (gathering a r)) h.sound; order = h.order; fits = h.fits }
  gathered_whole a (ForDefault linked) r is h = chained_whole setups a linked (record linked { reassembly = r }) is refl refl h
  gathered_whole a (ForLabel linked label) r is h = chained_whole setups a linked (record linked { chains = chains_with linked.chains label.number r }) is.found refl refl h

  placed_bound : (a : Acted) (linked after : Linked) (k : Bound a) → Found setups a linked → after.setup ≡ linked.setup → IsTied node (earlier ++ k.new) a.controller.table NoCut after → Bound (with_linked a after)
  placed_bound a linked after k found same is = record { new = k.new; is = noted_put node earlier began k.new a.notes.records a.controller.node a.controller.ports (port_key linked) linked after found same k.is; tied = put_tied node (earlier ++ k.new) a.controller.table NoCut NoCut after a.controller.ports is (λ x other n cut. cut) k.tied }

  tied_now : (a : Acted) (linked : Linked) (k : Bound a) → Found setups a linked → IsTied node (earlier ++ k.new) a.controller.table NoCut linked
  tied_now a linked k found = tied_at node (earlier ++ k.new) a.controller.table NoCut a.controller.ports (port_key linked) linked found k.tied

  pub gathered_bound : (a : Acted) (taker : Taker) (r : Reassembly) → IsTakerOf a taker → Bound a → Bound (with_reassembly a taker r)
  gathered_bound a ForGsmp r is k = goes_settled node earlier began a (with_reassembly a ForGsmp r) (calmly refl refl refl (stays_so a.notes.records)) k
  gathered_bound a (ForDefault linked) r is k = (let t = tied_now a linked k is in placed_bound a linked (record linked { reassembly = r }) k is refl (record { flows = t.flows; leads = t.leads; chains = t.chains }))
  gathered_bound a (ForLabel linked label) r is k =
      let t = tied_now a linked k is.found in
      let fits : LabelChain → Type 0 = λ chain. Remains (labels_of linked.port) (NoCut linked) chain.label in
      let fewer : Every fits (without chain_key label.number linked.chains) = without_every chain_key fits label.number linked.chains t.chains in
      let chain : LabelChain = record { label = label.number; reassembly = r } in
      placed_bound a linked (record linked { chains = chains_with linked.chains label.number r }) k is.found refl (record {
        flows = t.flows;
        leads = t.leads;
        chains = on_both (Every fits) (r.is_skipping || nat_lt 0 (chain_slots r)) (entered (key_le chain_key) chain (without chain_key label.number linked.chains)) (without chain_key label.number linked.chains)
            (entered_every chain_key fits (key_le chain_key) chain (without chain_key label.number linked.chains) (record { label = label; found = is.there; live = inl is.bound }) fewer) fewer;
      })

  noted_taker : (a : Acted) (taker : Taker) (t : Taken) → IsTakerOf a taker → IsTakerOf (record a { notes = t.notes }) taker
  noted_taker a ForGsmp t is = tt
  noted_taker a (ForDefault linked) t is = is
  noted_taker a (ForLabel linked label) t is = record { found = is.found; there = is.there; bound = is.bound }

  pub cell_bound : (a : Acted) (cell : Cell) → Whole setups a → Bound a → Bound (cell_comes a cell)
  cell_bound a cell h k = by_taker_of Bound a cell (goes_settled node earlier began a (note a (Loss cell.mark Unbound)) (note_goes a (Loss cell.mark Unbound) (λ end label. refl) (λ m own. tt)) k)
      (λ taker is. (let has_slot : Bool = nat_lt 0 (free_slots a.controller) in
      let t : Taken = taken a.notes has_slot (reassembly_of a.controller taker) cell in
      let noted : Acted = record a { notes = t.notes } in
      let there : IsTakerOf noted taker = noted_taker a taker t is in
      ends_bound (with_reassembly noted taker t.reassembly) taker t.ended (gathered_whole noted taker t.reassembly there (numbered_whole setups a t.notes h))
      (gathered_bound noted taker t.reassembly there (goes_settled node earlier began a noted (notes_goes a t.notes (taken_grows a.notes has_slot (reassembly_of a.controller taker) cell)) k))))

  -- *Tick*
  pub ticks_each : (ports : List PortNo) (a : Acted) → Whole setups a → Bound a → Bound (fold ticks_port a ports)
  ticks_each [] a h k = k
  ticks_each (port ∷ ports) a h k = ticks_each ports (ticks_port a port) (ticks_port_holds setups links a port h)
      (at_port_goes node earlier began setups a port port_ticks.ticks (λ linked found. ticks_goes linked.setup a.controller.desk (begins a linked) refl) h k)

  each_whole : (ports : List PortNo) (a : Acted) → Whole setups a → Whole setups (fold ticks_port a ports)
  each_whole [] a h = h
  each_whole (port ∷ ports) a h = each_whole ports (ticks_port a port) (ticks_port_holds setups links a port h)

  ticks_on : (a : Acted) (step : sides.Step Party) → IsGsmpTurn a.controller.adjacency step → Whole setups a → Bound a → Bound (tries_joins (ticks_ports (sends_again (steps a step))))
  ticks_on a step turn h k =
      let stepped : Acted = steps a step in
      let again : Acted = sends_again stepped in
      let now : Bound stepped = steps_bound a step k in
      let whole : Whole setups again = sends_again_holds setups links stepped (steps_holds setups links a step turn h) in
      tries_joins_settled node earlier began setups nodes (ticks_ports again) (each_whole (ports_of again.controller) again whole).sound
      (ticks_each (ports_of again.controller) again whole (goes_settled node earlier began stepped again (again_goes stepped (settled_fit node earlier began stepped now)) now))

  pub ticks_bound : (a : Acted) → Whole setups a → Bound a → Bound (ticks a)
  ticks_bound a h k = by_answer (ticked a.controller.adjacency) (ticked a.controller.adjacency).answer ages
    where
      by_answer : (step : sides.Step Party) (answer : Answer (Said Party) Party) → IsGsmpTurn a.controller.adjacency step → Bound (ticks_by a step answer)
      by_answer step Quiet turn = ticks_on a step turn h k
      by_answer step (Send message) turn = ticks_on a step turn h k
      by_answer step (Open message own) turn = ticks_on a step turn h k
      by_answer step Reset turn = goes_settled node earlier began a (node_resets a) (node_goes a (settled_fit node earlier began a k)) k

  -- *Restart*
  cut_default_bound : (a : Acted) (port : PortNo) (o : Option Linked) → linked_at a.controller port ≡ o → Bound a → Bound (cuts_default_of a o)
  cut_default_bound a port None found k = k
  cut_default_bound a port (Some linked) found k =
      let noted : Acted = record a { notes = cut a.notes linked.reassembly } in
      let own : Found setups a linked = found_at_own setups a linked port found in
      let now : Bound noted = goes_settled node earlier began a noted (notes_goes a (cut a.notes linked.reassembly) (cut_grows a.notes linked.reassembly)) k in
      let t = tied_now noted linked now own in
      placed_bound noted linked (record linked { reassembly = nothing_taken }) now own refl (record { flows = t.flows; leads = t.leads; chains = t.chains })

  cut_defaults : (ports : List PortNo) (a : Acted) → Bound a → Bound (fold cuts_default a ports)
  cut_defaults [] a k = k
  cut_defaults (port ∷ ports) a k = cut_defaults ports (cuts_default a port) (cut_default_bound a port (linked_at a.controller port) refl k)

  pub restarts_bound : (a : Acted) → Bound a → Bound (node_restarts a)
  restarts_bound a k =
      let fresh : Acted = node_resets a in
      let now : Bound fresh = goes_settled node earlier began a fresh (node_goes a (settled_fit node earlier began a k)) k in
      cut_defaults (ports_of a.controller) (cuts_gsmp fresh) (goes_settled node earlier began fresh (cuts_gsmp fresh) (calmly refl refl refl (cut_grows fresh.notes fresh.controller.reassembly)) now)

  -- *Each input* of its own
  enters_bound : (a : Acted) (number : ℕ) (octets : List ℕ) (o : Option Refusal) → Bound a → Bound (enters_unless a number octets o)
  enters_bound a number octets (Some refusal) k = k
  enters_bound a number octets None k = routes_bound a (record { packet = number; frame = 0 }) octets k

  pub input_bound : (a : Acted) (input : Input) → IsOwn input → Whole setups a → Bound a → Bound (takes_input a input)
  input_bound a (CellComes cell) own h k = cell_bound a cell h k
  input_bound a (PacketEnters number octets) own h k = enters_bound a number octets (inject_refusal octets) k
  input_bound a Ticks own h k = ticks_bound a h k
  input_bound a Restarts own h k = restarts_bound a k
  input_bound a (ChangeComes change) own h k = change_comes_settled node earlier began a change k
  input_bound a (FrameIsForged channel mark payload) own h k = goes_settled node earlier began a (sends a channel mark payload) (sends_goes a channel mark payload) k
  input_bound a CellLeaves own h k = goes_settled node earlier began a (takes_input a CellLeaves) (calmly refl refl refl (stays_so a.notes.records)) k
  input_bound a (Meanwhile notes numbers) own h k = absurd own

-- *Between inputs*, behind what was told so far
pub record IsTiedTo (node : NodeId) (earlier : List Record) (a : Acted) : Type 0 where
  pub tied : Tied node earlier a.controller.table NoCut a.controller.ports
  pub here : IsAt node a.controller.node a.controller.ports

module _ (node : NodeId) (setups : List Setup) (links : Every (λ (setup : Setup). IsLinkPort setup.port) setups) (nodes : Every (λ (setup : Setup). setup.node ≡ node) setups) where
  abbrev pub IsBoundBy : List Record → Acted → Type 0
  IsBoundBy earlier a = IsTiedTo node earlier a

  abbrev Behind : Acted → Input → List Record
  Behind a input = drop (length a.notes.records) (takes_input a input).notes.records

  -- what an input of its own notes
  record IsTold (earlier : List Record) (a : Acted) (input : Input) : Type 0 where
    grows : (takes_input a input).notes.records ≡ a.notes.records ++ Behind a input
    own : Every (IsOfNode node) (Behind a input)
    bound : IsBoundBy (earlier ++ Behind a input) (takes_input a input)

  own_told : (earlier : List Record) (a : Acted) (input : Input) → IsOwn input → Whole setups a → IsBoundBy earlier a → IsTold earlier a input
  own_told earlier a input own h k =
      let began : List Record = a.notes.records in
      let b : Acted = takes_input a input in
      let start : Settled node earlier began a = record {
        new = [];
        is = record { same = sym (append-nil began); own = tt; here = k.here };
        tied = subst (λ (rs : List Record). Tied node rs a.controller.table NoCut a.controller.ports) (sym (append-nil earlier)) k.tied;
      } in
      let done : Settled node earlier began b = input_bound node earlier began setups links nodes a input own h start in
      let new : drop (length began) b.notes.records ≡ done.new = ap (λ (rs : List Record). drop (length began) rs) done.is.same ∙ drop-append_seam began done.new in
      record {
        grows = done.is.same ∙ ap (λ (rs : List Record). began ++ rs) (sym new);
        own = subst (Every (IsOfNode node)) (sym new) done.is.own;
        bound = record { tied = subst (λ (rs : List Record). Tied node (earlier ++ rs) b.controller.table NoCut b.controller.ports) (sym new) done.tied; here = done.is.here };
      }

  own_bound : (earlier : List Record) (a : Acted) (input : Input) → IsOwn input → Whole setups a → IsBoundBy earlier a → IsBoundBy (earlier ++ Behind a input) (takes_input a input)
  own_bound earlier a input own h k = (let t : IsTold earlier a input = own_told earlier a input own h k in t.bound)

  pub input_grows : (earlier : List Record) (a : Acted) (input : Input) → IsOwn input → Whole setups a → IsBoundBy earlier a → (takes_input a input).notes.records ≡ a.notes.records ++ noted_by a input
  input_grows earlier a (CellComes cell) own h k = (let t : IsTold earlier a (CellComes cell) = own_told earlier a (CellComes cell) tt h k in t.grows)
  input_grows earlier a (PacketEnters number octets) own h k = (let t : IsTold earlier a (PacketEnters number octets) = own_told earlier a (PacketEnters number octets) tt h k in t.grows)
  input_grows earlier a Ticks own h k = (let t : IsTold earlier a Ticks = own_told earlier a Ticks tt h k in t.grows)
  input_grows earlier a Restarts own h k = (let t : IsTold earlier a Restarts = own_told earlier a Restarts tt h k in t.grows)
  input_grows earlier a (ChangeComes change) own h k = (let t : IsTold earlier a (ChangeComes change) = own_told earlier a (ChangeComes change) tt h k in t.grows)
  input_grows earlier a (FrameIsForged channel mark payload) own h k = (let t : IsTold earlier a (FrameIsForged channel mark payload) = own_told earlier a (FrameIsForged channel mark payload) tt h k in t.grows)
  input_grows earlier a CellLeaves own h k = (let t : IsTold earlier a CellLeaves = own_told earlier a CellLeaves tt h k in t.grows)
  input_grows earlier a (Meanwhile notes numbers) own h k = absurd own

  pub input_own : (earlier : List Record) (a : Acted) (input : Input) → Whole setups a → IsBoundBy earlier a → Every (IsOfNode node) (noted_by a input)
  input_own earlier a (CellComes cell) h k = (let t : IsTold earlier a (CellComes cell) = own_told earlier a (CellComes cell) tt h k in t.own)
  input_own earlier a (PacketEnters number octets) h k = (let t : IsTold earlier a (PacketEnters number octets) = own_told earlier a (PacketEnters number octets) tt h k in t.own)
  input_own earlier a Ticks h k = (let t : IsTold earlier a Ticks = own_told earlier a Ticks tt h k in t.own)
  input_own earlier a Restarts h k = (let t : IsTold earlier a Restarts = own_told earlier a Restarts tt h k in t.own)
  input_own earlier a (ChangeComes change) h k = (let t : IsTold earlier a (ChangeComes change) = own_told earlier a (ChangeComes change) tt h k in t.own)
  input_own earlier a (FrameIsForged channel mark payload) h k = (let t : IsTold earlier a (FrameIsForged channel mark payload) = own_told earlier a (FrameIsForged channel mark payload) tt h k in t.own)
  input_own earlier a CellLeaves h k = (let t : IsTold earlier a CellLeaves = own_told earlier a CellLeaves tt h k in t.own)
  input_own earlier a (Meanwhile notes numbers) h k = tt

  pub input_told : (earlier : List Record) (a : Acted) (input : Input) → Whole setups a → IsBoundBy earlier a → IsBoundBy (earlier ++ noted_by a input) (takes_input a input)
  input_told earlier a (CellComes cell) h k = own_bound earlier a (CellComes cell) tt h k
  input_told earlier a (PacketEnters number octets) h k = own_bound earlier a (PacketEnters number octets) tt h k
  input_told earlier a Ticks h k = own_bound earlier a Ticks tt h k
  input_told earlier a Restarts h k = own_bound earlier a Restarts tt h k
  input_told earlier a (ChangeComes change) h k = own_bound earlier a (ChangeComes change) tt h k
  input_told earlier a (FrameIsForged channel mark payload) h k = own_bound earlier a (FrameIsForged channel mark payload) tt h k
  input_told earlier a CellLeaves h k = own_bound earlier a CellLeaves tt h k
  input_told earlier a (Meanwhile notes numbers) h k = record { tied = subst (λ (rs : List Record). Tied node rs a.controller.table NoCut a.controller.ports) (sym (append-nil earlier)) k.tied; here = k.here }

  pub inputs_told : (inputs : List Input) (earlier : List Record) (a : Acted) → Whole setups a → IsBoundBy earlier a → IsBoundBy (earlier ++ noted_by_all a inputs) (takes_inputs a inputs)
  inputs_told [] earlier a h k = subst (λ (rs : List Record). IsBoundBy rs a) (sym (append-nil earlier)) k
  inputs_told (input ∷ inputs) earlier a h k = subst (λ (rs : List Record). IsBoundBy rs (takes_inputs a (input ∷ inputs))) (append_assoc earlier (noted_by a input) (noted_by_all (takes_input a input) inputs))
      (inputs_told inputs (earlier ++ noted_by a input) (takes_input a input) (input_holds setups links a input h) (input_told earlier a input h k))
