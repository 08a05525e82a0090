-- what comes to a controller: packets, messages of IFMP, answers and greetings of its switch, ticks, restarts and changes
-- of routes

use Rattle.std.proofs.Common.{◌≡◌, ◌≢◌, ℕ, Bool, true, false, List, [], ◌∷◌, ◌++◌, length, Option, None, Some, Result, Ok, Err, refl, sym, ◌∙◌, ap, subst, arith, if◌then◌else◌, fold, inl}
use Rattle.std.specs.Prelude.{not, ◌==◌, ◌&&◌, nat_lt, nat_le, drop}
use Rattle.std.proofs.lemmas.Bool.Decides.{nat_tests}
use Rattle.law_controller_bindings.specs.world_model.Words.{PortNo, Channel, Mark, Greeting, Party, Answer, Quiet, Send, Open, Said, is_estab, ticked, gsmp_answer, gsmp_received, protocol_of, source_of, PacketFault, hop_of, onward, Hop, Here, On, Cell, FlowId, kind_of, default_payload, labelled_payload, EncapsFault, default_unwrapped, unwrapped, Request, AddBranch, MoveBranch, DeleteTree, VerifyTree, PortManagement, Bad, Loss, Delivered, Dropped, Unbound, Journal, Reassembly, passed_over, without_slot, too_long, most_cells, tested, tested_by, last_mark, next_mark, payload_in, Answered, Unknown, Done, Ports, Failed, answered, after_answer, sent_again, Setup, control_end, Label, Grant, counts, used, hears, Controller, Linked, linked_at, with_desk, chains_with, default_home, says_gsmp, sends_request, begins, works_as, tries_joins, releases, gsmp_holds, port_of_input, causes, causes_in_estab, clears, answers_desk, answer_comes, is_control, sends_next, goes_by, grant_by, forwards_packet, control_protocol, ForGsmp, ForDefault, ForLabel, port_on, taker_of, reassembly_of, with_reassembly, label_holds, ifmp_holds, counted_at, packet_holds, default_holds, frame_holds, takes_cell, sends_again, ticks_port, ticks_ports, ticks_by, label_number_of, Frame, Record, Refused, Chance, Forged, Opened, Closed, Bind, Free, Part, Routes, Standing, grant_on, label_by, works}
use Rattle.law_controller_bindings.specs.world_model.adjacency_table.declared.message.Answer.TheVariants.{Reset}
use Rattle.law_controller_bindings.specs.world_model.adjacency_table.Side as sides
use Rattle.law_controller_bindings.specs.world_model.ipv4_packet.Packet.{first_fault}
use Rattle.law_controller_bindings.specs.world_model.ipv4_forward.declared.outcome.Hop.TheVariants.{NoRoute, Expired}
use Rattle.law_controller_bindings.specs.world_model.ifmp_wire.declared.message.Message.{Message as IfmpMessage}
use Rattle.law_controller_bindings.specs.world_model.ifmp_wire.declared.reader.Fault.{Fault as IfmpFault}
use Rattle.law_controller_bindings.specs.world_model.ifmp_wire.Fields.{decoded as ifmp_decoded}
use Rattle.law_controller_bindings.specs.world_model.gsmp_wire.declared.fault.Fault.{Fault as GsmpFault}
use Rattle.law_controller_bindings.specs.world_model.gsmp_wire.declared.message.Message.{Message}
use Rattle.law_controller_bindings.specs.world_model.gsmp_wire.declared.message.Message.TheVariants as messages
use Rattle.law_controller_bindings.specs.world_model.gsmp_wire.declared.request.Request.TheVariants.{DeleteAll, AllPorts}
use Rattle.law_controller_bindings.specs.world_model.gsmp_wire.Fields.{decoded as gsmp_decoded}
use Rattle.law_controller_bindings.specs.world_model.frame_model.Reassembly.{Taken, taken, cell_joined}
use Rattle.law_controller_bindings.specs.world_model.frame_model.Frame.{octets_of}
use Rattle.law_controller_bindings.specs.ordered_lists.Ordered.{Every}
use Rattle.law_controller_bindings.specs.world_model.port_model.Port.{Port}
use Rattle.law_controller_bindings.specs.world_model.port_model.Answers as port_answers
use Rattle.law_controller_bindings.specs.world_model.port_model.Ticks as port_ticks
use Rattle.law_controller_bindings.proofs.law_port_facts.Keyed.{on_both, on_each, every_more}
use Rattle.law_controller_bindings.specs.world_model.Controller.{Acted, free_slots, ports_of}
use Rattle.law_controller_bindings.specs.world_model.Sending.{sends}
use Rattle.law_controller_bindings.specs.world_model.Gsmp.{answers, steps, message_comes}
use Rattle.law_controller_bindings.specs.world_model.Meeting.{takes_success}
use Rattle.law_controller_bindings.specs.world_model.Packets.{forwarded}
use Rattle.law_controller_bindings.specs.world_model.Cells.{Taker, opened_frame, ends_frame, after_cell, cell_comes}
use Rattle.law_controller_bindings.specs.world_model.Ticks.{ticks}
use Rattle.law_controller_bindings.proofs.Lasts.{taken_grows, tested_grows}
use Rattle.law_lifetimes.proofs.Events.{Belongs, taker_belongs, put_there}
use Rattle.law_world_views.proofs.law_shown_cells.Tested.{taken_frames, tested_frames, last_is}
use Rattle.law_controller_bindings.specs.world_model.link_model.declared.record.Record.TheVariants.{Join}
use Rattle.law_controller_bindings.specs.world_model.ifmp_wire.declared.message.Message.TheVariants as ifmp
use Rattle.law_controller_bindings.proofs.ordered_lists.Every.{every_map}
use Rattle.law_port_words.specs.Words.{Terms, of_default, of_label, IsMade, IsOfHeld, IsWord, IsNoted, IsSent, waited, of_packet, away, said, bound, IsSteady, IsSteadyAt, IsSteadily}
use Rattle.law_world_views.specs.Made.{IsFit}
use Rattle.law_port_words.proofs.Clearing.{Waits, OldOrFresh, releases_j, causes_j, clears_j, cleared_old}
use Rattle.law_port_words.proofs.Rules.{ticks_v, used_v}
use Rattle.law_port_words.proofs.Hearing.{Agrees, hears_v, counts_v}
use Rattle.law_port_words.proofs.Sending.{note_h, grows_h, packet_h, gsmp_h, put_h, found_h, fold_h}
use Rattle.law_port_words.proofs.Performing.{node_h, sends_request_h, at_port_h}
use Rattle.law_port_words.proofs.Joining.{releases_h, causes_h, clears_h, takes_changes_h, empties_h, meets_h, tries_joins_h}
use Rattle.law_port_words.proofs.Binding.{bound_work_h}

-- *A cell ends a frame* of a taker's channel, which passes its test
pub record Ends (a : Acted) (cell : Cell) (taker : Taker) (payload : List ℕ) : Type 0 where
  pub taker_is : taker_of a.controller cell.header.channel ≡ Some taker
  pub first : Cell
  pub cells : List Cell
  pub ended : (taken a.notes (nat_lt 0 (free_slots a.controller)) (reassembly_of a.controller taker) cell).ended ≡ first ∷ cells
  pub passes : payload_in (octets_of (first ∷ cells)) ≡ Some payload

-- a packet is in it
abbrev pub HoldsPacket : Taker → (payload packet : List ℕ) → Type 0
HoldsPacket ForGsmp payload packet = ⊥
HoldsPacket (ForLabel linked label) payload packet = unwrapped label.flow payload ≡ Ok packet
HoldsPacket (ForDefault linked) payload packet = (default_unwrapped payload ≡ Ok packet) × ((protocol_of packet == control_protocol) ≡ false)

-- *What a cell is*: the port agrees to a message that comes in its frame, and a frame in which a packet comes is that of a packet
-- that may be in the network
pub record IsHeeded (t : Terms) (a : Acted) (cell : Cell) : Type 0 where
  pub heard : (linked : Linked) (payload packet : List ℕ) (message : IfmpMessage) → Ends a cell (ForDefault linked) payload → default_unwrapped payload ≡ Ok packet
      → (protocol_of packet == control_protocol) ≡ true → ifmp_decoded (drop 20 packet) ≡ Ok message → Agrees t linked.setup linked.port message
  pub sent_on : (taker : Taker) (payload packet : List ℕ) → Ends a cell taker payload → HoldsPacket taker payload packet → (cell.mark.packet ≢ 0) × IsFit packet
  pub gathers : (linked : Linked) → taker_of a.controller cell.header.channel ≡ Some (ForDefault linked) → t.gathered linked.setup.port cell

-- *Cells that are gathered*
taken_chain : (G : Cell → Type 0) (notes : Journal) (slot : Bool) (r : Reassembly) (cell : Cell) → Every G r.chain → G cell → Every G (taken notes slot r cell).reassembly.chain
taken_chain G notes slot r cell all g = on_both To r.is_skipping (passed_over notes r cell) _ all
    (on_both To (not slot) (without_slot notes r cell) _ tt
    (on_both To (nat_le most_cells (length r.chain)) (too_long notes r cell) (cell_joined notes r cell) tt
    (on_both To cell.header.last (record { reassembly = record r { chain = [] }; notes = notes; ended = r.chain ++ cell ∷ [] }) (record { reassembly = record r { chain = r.chain ++ cell ∷ [] }; notes = notes; ended = [] }) tt (every_more G r.chain cell all g))))
  where
    To : Taken → Type 0
    To t = Every G t.reassembly.chain

-- what is ended ends with the cell
ended_mark : (notes : Journal) (slot : Bool) (r : Reassembly) (cell first : Cell) (cells : List Cell) → (taken notes slot r cell).ended ≡ first ∷ cells → last_mark (first ∷ cells) ≡ cell.mark
ended_mark notes slot r cell first cells = on_both To r.is_skipping (passed_over notes r cell) _ (λ e. absurd (cc e))
    (on_both To (not slot) (without_slot notes r cell) _ (λ e. absurd (cc e))
    (on_both To (nat_le most_cells (length r.chain)) (too_long notes r cell) (cell_joined notes r cell) (λ e. absurd (cc e))
    (on_both To cell.header.last (record { reassembly = record r { chain = [] }; notes = notes; ended = r.chain ++ cell ∷ [] }) (record { reassembly = record r { chain = r.chain ++ cell ∷ [] }; notes = notes; ended = [] })
    (λ e. ap last_mark (sym e) ∙ last_is r.chain cell) (λ e. absurd (cc e)))))
  where
    To : Taken → Type 0
    To t = t.ended ≡ first ∷ cells → last_mark (first ∷ cells) ≡ cell.mark

module _ (t : Terms) where
  abbrev H : Acted → Type 0
  H a = IsSteadily t a

  -- *Packets*
  next_h : (a : Acted) (came : Mark) (channel : Channel) (payload : List ℕ) → came.packet ≢ 0 → IsMade t.framed t.refused t.address (record { mark = next_mark came; payload = payload }) → H a → H (sends_next a came channel payload)
  next_h a came channel payload packet made h = on_each H (is_control came) _ (sends a channel (next_mark came) payload)
      (λ control. absurd (packet (first (came.packet) (nat_lt 0 came.frame) control))) (λ other. packet_h t a channel (next_mark came) payload packet made h)
    where
      first : (n : ℕ) (b : Bool) → ((n == 0) && b) ≡ true → n ≡ 0
      first n b e = grind (arith, nat_tests, both (n == 0) b e)
        where
          both : (x y : Bool) → (x && y) ≡ true → x ≡ true
          both true y e = refl
          both false y e = absurd (cc e)

  pub routes_h : (a : Acted) (came : Mark) (packet : List ℕ) → came.packet ≢ 0 → IsFit packet → H a → H (forwards_packet a came packet)
  routes_h a came packet some fit h = by (hop_of a.controller.table packet)
    where
      on_h : (port : PortNo) (o : Option Grant) → H (goes_by a came port (onward packet) o)
      on_h port None = next_h a came (default_home port).channel (default_payload (onward packet)) some (of_default packet fit refl) h
      on_h port (Some grant) = next_h a came (control_end port grant.label).channel (labelled_payload (kind_of grant.flow) (onward packet)) some (of_label (kind_of grant.flow) packet fit refl) h

      by : (hop : Hop) → H (forwarded a came packet hop)
      by Here = note_h t a _ tt h
      by NoRoute = note_h t a _ tt h
      by Expired = note_h t a _ tt h
      by (On port) = on_h port (grant_by a.controller port (onward packet))

  -- *The adjacency with the switch*
  pub steps_h : (a : Acted) (step : sides.Step Party) → H a → H (steps a step)
  steps_h a step h = by (gsmp_answer step.answer)
    where
      turned : Acted
      turned = record a { controller = record a.controller { adjacency = step.side } }

      k : H turned
      k = record { address = h.address; ports = h.ports; cells = h.cells; records = h.records; frames = h.frames }

      by : (answer : Answer Greeting Party) → H (answers turned answer)
      by Quiet = k
      by (Send greeting) = gsmp_h t turned (messages.Adjacency greeting) k
      by (Open None own) = meets_h t turned k
      by (Open (Some greeting) own) = meets_h t (says_gsmp turned (messages.Adjacency greeting)) (gsmp_h t turned (messages.Adjacency greeting) k)
      by Reset = node_h t turned k

  -- *Tick*
  pub again_h : (a : Acted) → H a → H (sends_again a)
  again_h a h = on_both H (is_estab a.controller.adjacency.state) (fold sends_request a (sent_again a.controller.desk)) a (fold_h t sends_request (sends_request_h t) (sent_again a.controller.desk) a h) h

module _ (t : Terms) (speaks : (port : PortNo) (instance : ℕ) → t.own port instance → t.told port instance) where
  pub ticks_h : ((port : PortNo) (label : ℕ) (flow : FlowId) → t.held port label flow → t.offered port label flow) → (a : Acted) → IsSteadily t a → IsSteadily t (ticks a)
  ticks_h offers a h = by (ticked a.controller.adjacency) (ticked a.controller.adjacency).answer
    where
      port_h : (b : Acted) (port : PortNo) → IsSteadily t b → IsSteadily t (ticks_port b port)
      port_h b port k = at_port_h t b port port_ticks.ticks (λ linked found v. ticks_v t linked.setup (speaks linked.setup.port) (offers linked.setup.port) b.controller.desk (begins b linked) v) k

      on_h : (step : sides.Step Party) → IsSteadily t (tries_joins (ticks_ports (sends_again (steps a step))))
      on_h step = (let again : Acted = sends_again (steps a step) in
          tries_joins_h t speaks (ticks_ports again) (fold_h t ticks_port port_h (ports_of again.controller) again (again_h t (steps a step) (steps_h t a step h))))

      by : (step : sides.Step Party) (answer : Answer (Said Party) Party) → IsSteadily t (ticks_by a step answer)
      by step Quiet = on_h step
      by step (Send message) = on_h step
      by step (Open message own) = on_h step
      by step Reset = node_h t a h

  -- *A label's channel*, and a default one
  label_h : (a : Acted) (linked : Linked) (label : Label) (mark : Mark) (r : Result (List ℕ) EncapsFault) → ((packet : List ℕ) → r ≡ Ok packet → (mark.packet ≢ 0) × IsFit packet) → IsSteadily t a → IsSteadily t (label_holds a linked label mark r)
  label_h a linked label mark (Err fault) some h = note_h t a _ tt h
  label_h a linked label mark (Ok packet) some h = at_port_h t (forwards_packet a mark packet) linked.setup.port (λ setup desk w. used w label.number)
      (λ other found v. used_v t other.setup (speaks other.setup.port) (begins (forwards_packet a mark packet) other) label.number v) (routes_h t a mark packet (some packet refl).0 (some packet refl).1 h)

  heard_h : (a : Acted) (port : PortNo) (packet : List ℕ) (r : Result IfmpMessage IfmpFault)
      → ((linked : Linked) (message : IfmpMessage) → linked_at a.controller port ≡ Some linked → r ≡ Ok message → Agrees t linked.setup linked.port message) → IsSteadily t a → IsSteadily t (ifmp_holds a port packet r)
  heard_h a port packet (Err fault) agrees h = note_h t a _ tt h
  heard_h a port packet (Ok message) agrees h = at_port_h t a port (λ setup desk w. hears setup desk w (source_of packet) message)
      (λ linked found v. hears_v t linked.setup (speaks linked.setup.port) a.controller.desk linked.port a.numbers.instances (source_of packet) message (agrees linked message found refl) v.port) h

  module _ (wires : (port : PortNo) (label : ℕ) (flow : FlowId) → t.wired port label flow) where
    counted_h : (a : Acted) (port : PortNo) (packet : List ℕ) → IsSteadily t a → IsSteadily t (counted_at a port packet)
    counted_h a port packet h = at_port_h t a port (λ setup desk w. counts setup desk w packet)
        (λ linked found v. counts_v t linked.setup (speaks linked.setup.port) a.controller.desk (begins a linked) packet (wires linked.setup.port) v) h

    -- *A frame of a default channel*, where its messages are agreed to and its packets are packets'
    default_h : (a : Acted) (port : PortNo) (mark : Mark) (r : Result (List ℕ) EncapsFault)
        → ((packet : List ℕ) → r ≡ Ok packet → (protocol_of packet == control_protocol) ≡ false → (mark.packet ≢ 0) × IsFit packet)
        → ((linked : Linked) (packet : List ℕ) (message : IfmpMessage) → linked_at a.controller port ≡ Some linked → r ≡ Ok packet → (protocol_of packet == control_protocol) ≡ true
        → ifmp_decoded (drop 20 packet) ≡ Ok message → Agrees t linked.setup linked.port message) → IsSteadily t a → IsSteadily t (default_holds a port mark r)
    default_h a port mark (Err fault) some agrees h = note_h t a _ tt h
    default_h a port mark (Ok packet) some agrees h = by (first_fault packet)
      where
        by : (o : Option PacketFault) → IsSteadily t (packet_holds a port mark packet o)
        by (Some fault) = note_h t a _ tt h
        by None = on_each (IsSteadily t) (protocol_of packet == control_protocol) (ifmp_holds a port packet (ifmp_decoded (drop 20 packet))) (counted_at (forwards_packet a mark packet) port packet)
            (λ control. heard_h a port packet (ifmp_decoded (drop 20 packet)) (λ linked message found e. agrees linked packet message found refl control e) h)
            (λ other. counted_h (forwards_packet a mark packet) port packet (routes_h t a mark packet (some packet refl other).0 (some packet refl other).1 h))

-- *A cell* is gathered, and the chain that it ends is tested
module _ (t : Terms) (a : Acted) (cell : Cell) (heeds : IsHeeded t a cell) where
  abbrev pub taken_by : Taker → Taken
  taken_by taker = taken a.notes (nat_lt 0 (free_slots a.controller)) (reassembly_of a.controller taker) cell

  abbrev pub gathered_by : Taker → Acted
  gathered_by taker = with_reassembly (record a { notes = (taken_by taker).notes }) taker (taken_by taker).reassembly

  pub gathered_h : (taker : Taker) → taker_of a.controller cell.header.channel ≡ Some taker → IsSteadily t a → IsSteadily t (gathered_by taker)
  gathered_h taker is h = by taker is (taker_belongs a.controller cell.header.channel taker is)
    where
      noted_h : (taker : Taker) → IsSteadily t (record a { notes = (taken_by taker).notes })
      noted_h taker = grows_h t {Here = λ node. ⊥} a (taken_by taker).notes (taken_frames a.notes (nat_lt 0 (free_slots a.controller)) (reassembly_of a.controller taker) cell)
          (taken_grows a.notes (nat_lt 0 (free_slots a.controller)) (reassembly_of a.controller taker) cell) h

      by : (taker : Taker) → taker_of a.controller cell.header.channel ≡ Some taker → Belongs a.controller cell.header.channel taker → IsSteadily t (gathered_by taker)
      by ForGsmp is there = (let k : IsSteadily t (record a { notes = (taken_by ForGsmp).notes }) = noted_h ForGsmp in record { address = k.address; ports = k.ports; cells = k.cells; records = k.records; frames = k.frames })
      by (ForDefault linked) is there = (let was : IsSteadyAt t linked = found_h t a (port_on cell.header.channel) linked there h in
          put_h t (record a { notes = (taken_by (ForDefault linked)).notes }) (record linked { reassembly = (taken_by (ForDefault linked)).reassembly })
          (was.0, taken_chain (t.gathered linked.setup.port) a.notes (nat_lt 0 (free_slots a.controller)) linked.reassembly cell was.1 (heeds.gathers linked is)) (noted_h (ForDefault linked)))
      by (ForLabel linked label) is there = put_h t (record a { notes = (taken_by (ForLabel linked label)).notes }) (record linked { chains = chains_with linked.chains label.number (taken_by (ForLabel linked label)).reassembly })
          (found_h t a (port_on cell.header.channel) linked there h) (noted_h (ForLabel linked label))

  -- where the chain that it ends holds what is steady, so does the cell
  pub ends_h : (Q : Acted → Type 0) → ((b : Acted) → IsSteadily t b → Q b) → (taker : Taker) → taker_of a.controller cell.header.channel ≡ Some taker
      → ((b : Acted) (payload : List ℕ) → Ends a cell taker payload → b.controller ≡ (gathered_by taker).controller → IsSteadily t b → Q (frame_holds b taker cell.mark payload))
      → IsSteadily t a → Q (after_cell a taker (taken_by taker))
  ends_h Q still taker is holds h = by_ended (taken_by taker).ended refl
    where
      b : Acted
      b = gathered_by taker

      k : IsSteadily t b
      k = gathered_h taker is h

      by_ended : (es : List Cell) → (taken_by taker).ended ≡ es → Q (ends_frame b taker es)
      by_ended [] e = still b k
      by_ended (first ∷ cells) e = by_payload (payload_in (octets_of (first ∷ cells))) refl
        where
          by_payload : (o : Option (List ℕ)) → payload_in (octets_of (first ∷ cells)) ≡ o → Q (opened_frame (record b { notes = (tested_by b.notes (first ∷ cells) o).notes }) taker (last_mark (first ∷ cells)) (tested_by b.notes (first ∷ cells) o).payload)
          by_payload None p = still _ (tested_h None p)
            where
              tested_h : (o : Option (List ℕ)) → payload_in (octets_of (first ∷ cells)) ≡ o → IsSteadily t (record b { notes = (tested_by b.notes (first ∷ cells) o).notes })
              tested_h o p = subst (λ (x : Option (List ℕ)). IsSteadily t (record b { notes = (tested_by b.notes (first ∷ cells) x).notes })) p
                  (grows_h t {Here = λ node. ⊥} b (tested b.notes (first ∷ cells)).notes (tested_frames b.notes (first ∷ cells) (payload_in (octets_of (first ∷ cells)))) (tested_grows b.notes (first ∷ cells)) k)
          by_payload (Some payload) p = subst (λ (m : Mark). Q (frame_holds c taker m payload)) (sym (ended_mark a.notes (nat_lt 0 (free_slots a.controller)) (reassembly_of a.controller taker) cell first cells e))
              (holds c payload (record { taker_is = is; first = first; cells = cells; ended = e; passes = p }) refl c_h)
            where
              c : Acted
              c = record b { notes = (tested_by b.notes (first ∷ cells) (Some payload)).notes }

              c_h : IsSteadily t c
              c_h = subst (λ (x : Option (List ℕ)). IsSteadily t (record b { notes = (tested_by b.notes (first ∷ cells) x).notes })) p
                  (grows_h t {Here = λ node. ⊥} b (tested b.notes (first ∷ cells)).notes (tested_frames b.notes (first ∷ cells) (payload_in (octets_of (first ∷ cells)))) (tested_grows b.notes (first ∷ cells)) k)

-- *Each cell* of another channel than GSMP's
module _ (t : Terms) (speaks : (port : PortNo) (instance : ℕ) → t.own port instance → t.told port instance) (wires : (port : PortNo) (label : ℕ) (flow : FlowId) → t.wired port label flow) where
  pub cell_h : (a : Acted) (cell : Cell) → IsHeeded t a cell → (taker_of a.controller cell.header.channel ≡ Some ForGsmp → ⊥) → IsSteadily t a → IsSteadily t (cell_comes a cell)
  cell_h a cell heeds other h = by (taker_of a.controller cell.header.channel) refl
    where
      linked_is : (x y : Linked) → Some x ≡ Some y → x ≡ y
      linked_is x y e = cc

      by_taker : (taker : Taker) → taker_of a.controller cell.header.channel ≡ Some taker → (b : Acted) (payload : List ℕ) → Ends a cell taker payload → b.controller ≡ (gathered_by t a cell heeds taker).controller
          → IsSteadily t b → IsSteadily t (frame_holds b taker cell.mark payload)
      by_taker ForGsmp is b payload ends same k = absurd (other is)
      by_taker (ForLabel linked label) is b payload ends same k = label_h t speaks b linked label cell.mark (unwrapped label.flow payload) (λ packet e. heeds.sent_on (ForLabel linked label) payload packet ends e) k
      by_taker (ForDefault linked) is b payload ends same k = default_h t speaks wires b linked.setup.port cell.mark (default_unwrapped payload)
          (λ packet e control. heeds.sent_on (ForDefault linked) payload packet ends (e, control))
          (λ x packet message found e control f. subst (λ (y : Linked). Agrees t y.setup y.port message)
          (linked_is (record linked { reassembly = (taken_by t a cell heeds (ForDefault linked)).reassembly }) x
          (sym (put_there (record a { notes = (taken_by t a cell heeds (ForDefault linked)).notes }) (port_on cell.header.channel) linked (record linked { reassembly = (taken_by t a cell heeds (ForDefault linked)).reassembly })
          (taker_belongs a.controller cell.header.channel (ForDefault linked) is) refl) ∙ (ap (λ (c : Controller). linked_at c linked.setup.port) (sym same) ∙ found)))
          (heeds.heard linked payload packet message ends e control f)) k

      by : (o : Option Taker) → taker_of a.controller cell.header.channel ≡ o → IsSteadily t (takes_cell a cell o)
      by None e = note_h t a (Loss cell.mark Unbound) tt h
      by (Some taker) e = ends_h t a cell heeds (IsSteadily t) (λ b k. k) taker e (by_taker taker e) h

-- *An answer of the switch*, and all that comes on the GSMP channel: a port that is cleared has an instance that it had before
module _ (t : Terms) (speaks : (port : PortNo) (instance : ℕ) → t.own port instance → t.told port instance)
    (holds : (port : PortNo) (label : ℕ) (flow : FlowId) → t.wired port label flow → t.held port label flow)
    (binds : (port : PortNo) (label : ℕ) (flow : FlowId) → t.wired port label flow → t.bindable port label flow)
    (old : PortNo → ℕ → Type 0) (wider : (port : PortNo) (instance : ℕ) → t.own port instance → old port instance) where
  abbrev pub later : Terms
  later = record t { own = old }

  steady_later : (setup : Setup) (port : Port) → IsSteady t setup port → IsSteady later setup port
  steady_later setup port k = record { node = k.node; own = λ live. wider setup.port port.adjacency.own.instance.0 (k.own live); stored = k.stored; lives = k.lives; labels = k.labels; grants = k.grants }

  sent_same : (records : List Record) (frames : List Frame) (controls : ℕ) (cell : Cell) → IsSent t records frames controls cell → IsSent later records frames controls cell
  sent_same records frames controls cell (waited w) = waited w
  sent_same records frames controls cell (of_packet n) = of_packet n
  sent_same records frames controls cell (away a) = away a
  sent_same records frames controls cell (said port message f word) = said port message (record { channel = f.channel; control = f.control; drawn = f.drawn; made = f.made }) (word_same port message word)
    where
      held_same : (port : PortNo) (message : IfmpMessage) → IsOfHeld t port message → IsOfHeld later port message
      held_same port (ifmp.Redirect sender peer number lifetime channel flow) held = record { number = held.number; is = held.is; offered = held.offered }
      held_same port (ifmp.Error sender peer number code channel) held = held
      held_same port (ifmp.Adjacency hello) held = tt
      held_same port (ifmp.Reclaim sender peer number channel flow) held = tt
      held_same port (ifmp.ReclaimAck sender peer number channel flow) held = tt
      held_same port (ifmp.LabelRange sender peer number least greatest) held = tt

      word_same : (port : PortNo) (message : IfmpMessage) → IsWord t port message → IsWord later port message
      word_same port message word = record { own = word.own; held = held_same port message word.held }
  sent_same records frames controls cell (bound port sender peer number lifetime label flow f own has) = bound port sender peer number lifetime label flow (record { channel = f.channel; control = f.control; drawn = f.drawn; made = f.made }) own has

  noted_same : (item : Record) → IsNoted t item → IsNoted later item
  noted_same (Bind node port label flow) n = n
  noted_same (Delivered node packet octets) n = tt
  noted_same (Dropped node packet cause) n = tt
  noted_same (Refused node packet name) n = tt
  noted_same (Loss mark cause) n = tt
  noted_same (Chance mark) n = tt
  noted_same (Forged place) n = tt
  noted_same (Bad node layer name) n = tt
  noted_same (Opened node port) n = tt
  noted_same (Closed node port) n = tt
  noted_same (Free node port label) n = tt
  noted_same (Join node port label to_port to_label) n = tt
  noted_same (Part node port label) n = tt
  noted_same (Routes node number) n = tt

  pub later_h : (a : Acted) → IsSteadily t a → IsSteadily later a
  later_h a h = record {
    address = h.address;
    ports = every_map (IsSteadyAt t) (IsSteadyAt later) a.controller.ports (λ x k. (steady_later x.setup x.port k.0, k.1)) h.ports;
    cells = every_map (IsSent t a.notes.records a.notes.frames a.numbers.controls) (IsSent later a.notes.records a.notes.frames a.numbers.controls) a.controller.queue
        (λ cell s. sent_same a.notes.records a.notes.frames a.numbers.controls cell s) h.cells;
    records = every_map (IsNoted t) (IsNoted later) a.notes.records noted_same h.records;
    frames = h.frames;
  }

  -- what an answer causes, a binding among it
  pub caused_h : (a : Acted) (request : Request) → IsSteadily t a → IsSteadily t (causes a request)
  caused_h a (AddBranch input output) h = on_each (IsSteadily t) (is_estab a.controller.adjacency.state) (causes_in_estab a (AddBranch input output)) a
      (λ estab. by estab (input.port.0 == 0) refl) (λ closed. h)
    where
      by : is_estab a.controller.adjacency.state ≡ true → (b : Bool) → (input.port.0 == 0) ≡ b → IsSteadily t (causes_in_estab a (AddBranch input output))
      by estab true e = subst (λ (b : Bool). IsSteadily t (if b then causes_in_estab a (AddBranch input output) else a)) estab (causes_h t speaks a (AddBranch input output) e h)
      by estab false e = found (linked_at a.controller (port_of_input input output)) refl
        where
          found : (o : Option Linked) → linked_at a.controller (port_of_input input output) ≡ o → IsSteadily t (works a (λ setup desk w. port_answers.done setup w (AddBranch input output)) o)
          found None is = h
          found (Some linked) is = subst (λ (b : Bool). IsSteadily t (works_as a linked (if b then port_answers.started (begins a linked) (grant_on linked.port.grants (label_number_of output.channel)) else port_answers.bound linked.setup (begins a linked) (label_by linked.port (label_number_of input.channel))))) (sym e)
              (bound_work_h t speaks holds binds a (port_of_input input output) linked (label_number_of input.channel) is estab h)
  caused_h a (MoveBranch input from to) h = causes_h t speaks a (MoveBranch input from to) tt h
  caused_h a (DeleteTree input) h = causes_h t speaks a (DeleteTree input) tt h
  caused_h a (VerifyTree input) h = causes_h t speaks a (VerifyTree input) tt h
  caused_h a (DeleteAll port) h = causes_h t speaks a (DeleteAll port) tt h
  caused_h a (PortManagement port function) h = causes_h t speaks a (PortManagement port function) tt h
  caused_h a AllPorts h = causes_h t speaks a AllPorts tt h

  done_h : (a : Acted) (request : Request) → Waits old a → IsSteadily t a → IsSteadily later (takes_success a request)
  done_h a request j h =
      let caused : Acted = causes (releases a request) request in
      let waits : Waits old caused = causes_j old (releases a request) request (releases_j old a request j) in
      takes_changes_h later (clears caused) (clears_h later (ports_of caused.controller) caused
      (λ b port linked on found may. cleared_old old b port linked found may (clears_j old caused b on waits))
      (later_h caused (caused_h (releases a request) request (releases_h t speaks a request h))))

  -- each port has an instance that it had before, and the switch is met in Estab alone
  pub record IsOld (a : Acted) : Type 0 where
    pub each : Every (λ (x : Linked). old x.setup.port x.port.adjacency.own.instance.0) a.controller.ports
    pub closed : is_estab a.controller.adjacency.state ≡ false → a.controller.has_met ≡ false

  pub answer_h : (a : Acted) (message : Message) → IsOld a → IsSteadily t a → IsSteadily later (answer_comes a message)
  answer_h a message j h = by (answered a.controller.desk message)
    where
      at_desk : (answer : Answered) → IsSteadily t (with_desk a (after_answer a.controller.desk answer))
      at_desk answer = record { address = h.address; ports = h.ports; cells = h.cells; records = h.records; frames = h.frames }

      by : (answer : Answered) → IsSteadily later (answers_desk (with_desk a (after_answer a.controller.desk answer)) answer)
      by Unknown = later_h _ (at_desk Unknown)
      by (Done s) = done_h (with_desk a (after_answer a.controller.desk (Done s))) s.request (answered_j s) (at_desk (Done s))
        where
          answered_j : (s : Standing) → Waits old (with_desk a (after_answer a.controller.desk (Done s)))
          answered_j s = record {
            each = every_map (λ (x : Linked). old x.setup.port x.port.adjacency.own.instance.0) (OldOrFresh old (with_desk a (after_answer a.controller.desk (Done s))).controller) a.controller.ports (λ x o. inl o) j.each;
            closed = j.closed;
          }
      by (Ports s rows) = later_h _ (empties_h t (with_desk a (after_answer a.controller.desk (Ports s rows))) (at_desk (Ports s rows)))
      by (Failed s code) = later_h _ (node_h t (with_desk a (after_answer a.controller.desk (Failed s code))) (at_desk (Failed s code)))

  told_h : (a : Acted) (message : Message) → IsOld a → IsSteadily t a → IsSteadily later (message_comes a message)
  told_h a (messages.Adjacency greeting) j h = later_h (steps a (gsmp_received a.controller.adjacency greeting)) (steps_h t a (gsmp_received a.controller.adjacency greeting) h)
  told_h a (messages.Branch kind result code number session input_port input output_port output branches priority) j h =
      answer_h a (messages.Branch kind result code number session input_port input output_port output branches priority) j h
  told_h a (messages.Move result code number session input_port input output_port output target_port target branches priority) j h =
      answer_h a (messages.Move result code number session input_port input output_port output target_port target branches priority) j h
  told_h a (messages.Port result code number port session function) j h = answer_h a (messages.Port result code number port session function) j h
  told_h a (messages.AllPorts result code number rows) j h = answer_h a (messages.AllPorts result code number rows) j h

  holds_h : (a : Acted) (r : Result Message GsmpFault) → IsOld a → IsSteadily t a → IsSteadily later (gsmp_holds a r)
  holds_h a (Ok message) j h = told_h a message j h
  holds_h a (Err fault) j h = later_h (gsmp_holds a (Err fault)) (note_h t a _ tt h)

  -- *A cell of GSMP*
  pub gsmp_cell_h : (a : Acted) (cell : Cell) → IsHeeded t a cell → taker_of a.controller cell.header.channel ≡ Some ForGsmp → IsOld a → IsSteadily t a → IsSteadily later (cell_comes a cell)
  gsmp_cell_h a cell heeds is j h = subst (λ (o : Option Taker). IsSteadily later (takes_cell a cell o)) (sym is)
      (ends_h t a cell heeds (IsSteadily later) later_h ForGsmp is (λ b payload ends same k. holds_h b (gsmp_decoded payload)
      (record { each = subst (λ (c : Controller). Every (λ (x : Linked). old x.setup.port x.port.adjacency.own.instance.0) c.ports) (sym same) j.each; closed = subst (λ (c : Controller). is_estab c.adjacency.state ≡ false → c.has_met ≡ false) (sym same) j.closed }) k) h)
