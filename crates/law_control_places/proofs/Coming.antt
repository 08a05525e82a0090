-- so it is as a cell comes, or a packet: a packet goes on in its next frame, and no message does

use Rattle.std.proofs.Common.{◌≡◌, ◌≢◌, ℕ, Bool, true, List, [], ◌∷◌, ◌++◌, Option, None, Some, Result, Ok, Err, refl, sym, ◌∙◌, subst, arith, drop, if◌then◌else◌}
use Rattle.std.specs.Prelude.{◌+◌, ◌==◌, nat_lt}
use Rattle.std.proofs.lemmas.Bool.Decides.{nat_tests}
use Rattle.world_model.specs.Words.{PortNo, Channel, Mark, Cell, source_of, ifmp_packet_of, PacketFault, changed, hop_of, onward, RouteChange, Hop, Here, On, kind_of, default_payload, labelled_payload, default_unwrapped, unwrapped, EncapsFault, Frame, Journal, last_mark, next_mark, Tested, tested, tested_by, payload_in, Setup, control_end, Label, Grant, hears, counts, used, Linked, chain_of, chains_with, default_home, sends_control, says_gsmp, Rule, at_port, is_control, sends_next, goes_by, grant_by, forwards_packet, ForGsmp, ForDefault, ForLabel, taker_of, reassembly_of, with_reassembly, label_holds, ifmp_holds, counted_at, packet_holds, default_holds, frame_holds, takes_cell}
use Rattle.world_model.specs.ipv4_packet.Packet.{first_fault}
use Rattle.world_model.specs.ipv4_forward.declared.outcome.Hop.TheVariants.{NoRoute, Expired}
use Rattle.world_model.specs.ipv4_forward.declared.table.Route.{Route}
use Rattle.world_model.specs.ifmp_wire.declared.message.Message.{Message as IfmpMessage}
use Rattle.world_model.specs.ifmp_wire.declared.reader.Fault.{Fault as IfmpFault}
use Rattle.world_model.specs.ifmp_wire.Message.{octets_of as ifmp_octets}
use Rattle.world_model.specs.ifmp_wire.Fields.{decoded as ifmp_decoded}
use Rattle.world_model.specs.gsmp_wire.declared.message.Message.{Message}
use Rattle.world_model.specs.gsmp_wire.Fields.{decoded as gsmp_decoded}
use Rattle.world_model.specs.frame_model.Frame.{octets_of}
use Rattle.world_model.specs.frame_model.Reassembly.{Taken, taken}
use Rattle.law_frame_readings.specs.law_world_views.Made.{IsMadeAs}
use Rattle.law_frame_readings.specs.Reading.{Holds, sent as holds_sent, told as holds_told}
use Rattle.law_frame_readings.proofs.Packets.{is_forwarded, is_heard}
use Rattle.law_frame_readings.proofs.Reading.{read_default}
use Rattle.law_frame_readings.proofs.law_port_facts.Rules.{and_first}
use Rattle.law_frame_readings.proofs.law_port_facts.Keyed.{on_each}
use Rattle.world_model.specs.Controller.{Acted, free_slots}
use Rattle.world_model.specs.Sending.{sends}
use Rattle.world_model.specs.Packets.{forwarded}
use Rattle.world_model.specs.Cells.{Taker, after_test, ends_frame, cell_comes}
use Rattle.law_run_facts.proofs.Taking.{taken_frames, tested_frames, taken_chain}
use Rattle.law_run_facts.proofs.Takers.{taker_at_port}
use Rattle.law_run_facts.proofs.law_actor_pace.Cells.{ended_last}
use Rattle.law_running_worlds.proofs.MadeCells.{IsRead, Ends, taken_by}
use Rattle.law_run_facts.proofs.Walks.{Sees, At, Has, with_frames, back, sent, at_work, gsmp_frame}

module _ (S : (queue chain : List Cell) → List Frame → (controls : ℕ) → Type 0) (T : List Route → Type 0) (Q : RouteChange → Type 0) (D : (controls : ℕ) → PortNo → (chain : List Cell) → Type 0) (L : PortNo → Type 0)
    (gsmp : (a : Acted) (message : Message) → Sees S T Q D a → Sees S T Q D (says_gsmp a message)) (ifmp : (a : Acted) (port : PortNo) (payload : List ℕ) → L port → Sees S T Q D a → Sees S T Q D (sends_control a (default_home port).channel payload))
    (linked_of : (controls : ℕ) (port : PortNo) (chain : List Cell) → D controls port chain → L port)
    (clear : (queue chain : List Cell) (frames : List Frame) (controls : ℕ) → S queue chain frames controls → S queue [] frames controls)
    (later : (controls : ℕ) (port : PortNo) (chain : List Cell) → D controls port chain → D (controls + 1) port chain) (nothing : (controls : ℕ) (port : PortNo) (chain : List Cell) → D controls port chain → D controls port [])
    (step : (table : List Route) (change : RouteChange) → T table → Q change → T (changed table change)) where
  abbrev Is : Acted → Type 0
  Is a = Has S T Q D a

  working : (a : Acted) (port : PortNo) (rule : Rule) → Is a → Is (at_port a port rule)
  working a port rule h = at_work S T Q D L gsmp ifmp linked_of clear later nothing step a port rule h

  -- *What came under a mark*
  module _ (setups : List Setup) (came : Mark) (gathers : (queue chain : List Cell) (frames : List Frame) (controls : ℕ) (cell : Cell) → S queue chain frames controls → S queue (chain ++ cell ∷ []) frames controls)
      (gathers_at : (controls : ℕ) (port : PortNo) (chain : List Cell) (cell : Cell) → D controls port chain → D controls port (chain ++ cell ∷ []))
      (packet : came.packet ≢ 0 → (a : Acted) (channel : Channel) (payload : List ℕ) → Sees S T Q D a → Sees S T Q D (sends a channel (next_mark came) payload)) where
    next_sent : came.packet ≢ 0 → (a : Acted) (channel : Channel) (payload : List ℕ) → Is a → Is (sends_next a came channel payload)
    next_sent counted a channel payload h = on_each Is (is_control came) (sends_control a channel payload) (sends a channel (next_mark came) payload)
        (λ e. absurd (counted (zero_is came.packet (and_first (came.packet == 0) (nat_lt 0 came.frame) e))))
        (λ e. (let k = sent S T Q D a channel (next_mark came) payload (h.1, h.2, h.3) in (packet counted a channel payload h.0, k.0, k.1, k.2)))
      where
        zero_is : (n : ℕ) → (n == 0) ≡ true → n ≡ 0
        zero_is n e = grind (arith, nat_tests)

    sent_by : came.packet ≢ 0 → (a : Acted) (port : PortNo) (octets : List ℕ) (o : Option Grant) → Is a → Is (goes_by a came port octets o)
    sent_by counted a port octets None h = next_sent counted a (default_home port).channel (default_payload octets) h
    sent_by counted a port octets (Some grant) h = next_sent counted a (control_end port grant.label).channel (labelled_payload (kind_of grant.flow) octets) h

    forwards : came.packet ≢ 0 → (a : Acted) (octets : List ℕ) (hop : Hop) → Is a → Is (forwarded a came octets hop)
    forwards counted a octets Here h = h
    forwards counted a octets NoRoute h = h
    forwards counted a octets Expired h = h
    forwards counted a octets (On port) h = sent_by counted a port (onward octets) (grant_by a.controller port (onward octets)) h

    pub routed_walk : came.packet ≢ 0 → (a : Acted) (octets : List ℕ) → Is a → Is (forwards_packet a came octets)
    routed_walk counted a octets h = forwards counted a octets (hop_of a.controller.table octets) h

    -- *A frame* that was made
    label_frame : (a : Acted) (linked : Linked) (label : Label) (r : Result (List ℕ) EncapsFault) → ((octets : List ℕ) → r ≡ Ok octets → came.packet ≢ 0) → Is a → Is (label_holds a linked label came r)
    label_frame a linked label (Err fault) is h = h
    label_frame a linked label (Ok octets) is h = working (forwards_packet a came octets) linked.setup.port (λ setup desk w. used w label.number) (routed_walk (is octets refl) a octets h)

    packet_frame : (a : Acted) (port : PortNo) (payload octets : List ℕ) → Holds came payload octets → Is a → Is (packet_holds a port came octets (first_fault octets))
    packet_frame a port payload octets (holds_sent counted fit filled) h =
        subst (λ (o : Option PacketFault). Is (packet_holds a port came octets o)) (sym (is_forwarded octets fit).whole)
        (subst (λ (b : Bool). Is (if b then ifmp_holds a port octets (ifmp_decoded (drop 20 octets)) else counted_at (forwards_packet a came octets) port octets)) (sym (is_forwarded octets fit).other)
        (working (forwards_packet a came octets) port (λ setup desk w. counts setup desk w octets) (routed_walk counted a octets h)))
    packet_frame a port payload octets (holds_told item t same) h =
        subst (λ (p : List ℕ). Is (packet_holds a port came p (first_fault p))) (sym same)
        (subst (λ (o : Option PacketFault). Is (packet_holds a port came ip o)) (sym (is_heard came payload item t).whole)
        (subst (λ (b : Bool). Is (if b then ifmp_holds a port ip (ifmp_decoded (drop 20 ip)) else counted_at (forwards_packet a came ip) port ip)) (sym (is_heard came payload item t).control)
        (subst (λ (r : Result IfmpMessage IfmpFault). Is (ifmp_holds a port ip r)) (sym (is_heard came payload item t).message)
        (working a port (λ setup desk w. hears setup desk w (source_of ip) item.message) h))))
      where
        ip : List ℕ
        ip = ifmp_packet_of item.source (ifmp_octets item.message)

    default_frame : (a : Acted) (port : PortNo) (payload : List ℕ) → IsMadeAs came payload → Is a → Is (default_holds a port came (default_unwrapped payload))
    default_frame a port payload made h = by (default_unwrapped payload) refl
      where
        by : (r : Result (List ℕ) EncapsFault) → default_unwrapped payload ≡ r → Is (default_holds a port came r)
        by (Err fault) is = h
        by (Ok octets) is = packet_frame a port payload octets (read_default came payload octets made is) h

    frame : (a : Acted) (taker : Taker) (payload : List ℕ) → IsMadeAs came payload → IsRead setups taker came payload → Is a → Is (frame_holds a taker came payload)
    frame a ForGsmp payload made read h = gsmp_frame S T Q D L gsmp ifmp linked_of clear later nothing step a (gsmp_decoded payload) h
    frame a (ForDefault linked) payload made read h = default_frame a linked.setup.port payload made h
    frame a (ForLabel linked label) payload made read h = label_frame a linked label (unwrapped label.flow payload) (λ octets is. (read octets is).0) h

    tests : (a : Acted) (taker : Taker) (first : Cell) (cells : List Cell) (o : Option (List ℕ)) → payload_in (octets_of (first ∷ cells)) ≡ o → last_mark (first ∷ cells) ≡ came → Ends setups taker (first ∷ cells)
        → Is (record a { notes = (tested_by a.notes (first ∷ cells) o).notes }) → Is (after_test a taker came (tested_by a.notes (first ∷ cells) o))
    tests a taker first cells None is last ends h = h
    tests a taker first cells (Some payload) is last ends h =
        frame (record a { notes = (tested_by a.notes (first ∷ cells) (Some payload)).notes }) taker payload (subst (λ (m : Mark). IsMadeAs m payload) last (ends payload is).0) (subst (λ (m : Mark). IsRead setups taker m payload) last (ends payload is).1) h

    ended : (a : Acted) (taker : Taker) (cells : List Cell) → ((first : Cell) (rest : List Cell) → cells ≡ first ∷ rest → last_mark (first ∷ rest) ≡ came) → Ends setups taker cells → Is a → Is (ends_frame a taker cells)
    ended a taker [] marks ends h = h
    ended a taker (cell ∷ cells) marks ends h =
        let last : last_mark (cell ∷ cells) ≡ came = marks cell cells refl in
        let test : Tested = tested a.notes (cell ∷ cells) in
        subst (λ m. Is (after_test a taker m test)) (sym last)
        (tests a taker cell cells (payload_in (octets_of (cell ∷ cells))) refl last ends (with_frames S T Q D (record a { notes = test.notes }) a.notes.frames (tested_frames a.notes (cell ∷ cells)) h))

    gathered : (a : Acted) (notes : Journal) (slot : Bool) (taker : Taker) (cell : Cell) → taker_of a.controller cell.header.channel ≡ Some taker → Is a
        → Is (with_reassembly a taker (taken notes slot (reassembly_of a.controller taker) cell).reassembly)
    gathered a notes slot ForGsmp cell found h = (
      taken_chain (λ chain. S a.controller.queue chain a.notes.frames a.numbers.controls) notes slot a.controller.reassembly cell h.0
          (clear a.controller.queue a.controller.reassembly.chain a.notes.frames a.numbers.controls h.0)
          (gathers a.controller.queue a.controller.reassembly.chain a.notes.frames a.numbers.controls cell h.0),
      h.1,
      h.2,
      h.3,
    )
    gathered a notes slot (ForDefault linked) cell found h =
        let d = taker_at_port (At S T Q D a.numbers.controls) a.controller cell.header.channel (ForDefault linked) h.3 found in (
          h.0,
          h.1,
          h.2,
          back S T Q D a (record linked { reassembly = (taken notes slot linked.reassembly cell).reassembly })
              (taken_chain (D a.numbers.controls linked.setup.port) notes slot linked.reassembly cell d (nothing a.numbers.controls linked.setup.port linked.reassembly.chain d) (gathers_at a.numbers.controls linked.setup.port linked.reassembly.chain cell d)) h,
        )
    gathered a notes slot (ForLabel linked label) cell found h = (
      h.0,
      h.1,
      h.2,
      back S T Q D a (record linked { chains = chains_with linked.chains label.number (taken notes slot (chain_of linked.chains label.number) cell).reassembly })
          (taker_at_port (At S T Q D a.numbers.controls) a.controller cell.header.channel (ForLabel linked label) h.3 found) h,
    )

    pub cell_walk : (a : Acted) (cell : Cell) → cell.mark ≡ came → ((taker : Taker) → taker_of a.controller cell.header.channel ≡ Some taker → Ends setups taker (taken_by setups a taker cell).ended) → Is a → Is (cell_comes a cell)
    cell_walk a cell is ends h = by (taker_of a.controller cell.header.channel) refl
      where
        by : (o : Option Taker) → taker_of a.controller cell.header.channel ≡ o → Is (takes_cell a cell o)
        by None found = h
        by (Some taker) found =
            let slot : Bool = nat_lt 0 (free_slots a.controller) in
            let t : Taken = taken a.notes slot (reassembly_of a.controller taker) cell in
            let b : Acted = record a { notes = t.notes } in
            ended (with_reassembly b taker t.reassembly) taker t.ended (λ first rest e. ended_last a.notes slot (reassembly_of a.controller taker) cell first rest e ∙ is) (ends taker found)
            (gathered b a.notes slot taker cell found (with_frames S T Q D b a.notes.frames (taken_frames a.notes slot (reassembly_of a.controller taker) cell) h))
