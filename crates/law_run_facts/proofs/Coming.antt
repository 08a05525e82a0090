-- so it is as a cell comes, or a packet: what came under a mark goes on in the next frame

use Rattle.std.proofs.Common.{◌≡◌, ℕ, Bool, true, false, List, [], ◌∷◌, ◌++◌, Option, None, Some, Result, Ok, Err, refl, sym, ◌∙◌, subst, drop}
use Rattle.std.specs.Prelude.{◌+◌, ◌==◌, nat_lt}
use Rattle.law_world_pace.specs.world_model.Words.{PortNo, Channel, Mark, Cell, protocol_of, source_of, PacketFault, changed, hop_of, onward, RouteChange, Hop, Here, On, kind_of, default_payload, labelled_payload, default_unwrapped, unwrapped, EncapsFault, Frame, Journal, last_mark, next_mark, Tested, tested, control_end, Label, Grant, hears, counts, used, Linked, chain_of, chains_with, default_channel, default_home, sends_control, is_control, sends_next, goes_by, grant_by, forwards_packet, control_protocol, ForGsmp, ForDefault, ForLabel, taker_of, reassembly_of, with_reassembly, label_holds, ifmp_holds, counted_at, packet_holds, default_holds, frame_holds, takes_cell, same_channel}
use Rattle.law_world_pace.specs.world_model.ipv4_packet.Packet.{first_fault}
use Rattle.law_world_pace.specs.world_model.ipv4_forward.declared.outcome.Hop.TheVariants.{NoRoute, Expired}
use Rattle.law_world_pace.specs.world_model.ipv4_forward.declared.table.Route.{Route}
use Rattle.law_world_pace.specs.world_model.ifmp_wire.declared.message.Message.{Message as IfmpMessage}
use Rattle.law_world_pace.specs.world_model.ifmp_wire.declared.reader.Fault.{Fault as IfmpFault}
use Rattle.law_world_pace.specs.world_model.ifmp_wire.Fields.{decoded as ifmp_decoded}
use Rattle.law_world_pace.specs.world_model.gsmp_wire.Fields.{decoded as gsmp_decoded}
use Rattle.law_world_pace.specs.world_model.frame_model.Reassembly.{Taken, taken}
use Rattle.law_controller_bindings.proofs.law_port_facts.Keyed.{on_both, on_each}
use Rattle.law_world_pace.specs.world_model.Controller.{Acted, free_slots}
use Rattle.law_world_pace.specs.world_model.Sending.{sends}
use Rattle.law_world_pace.specs.world_model.Packets.{forwarded}
use Rattle.law_world_pace.specs.world_model.Cells.{Taker, opened_frame, ends_frame, cell_comes}
use Rattle.law_run_facts.proofs.Taking.{taken_frames, tested_frames, taken_chain, ended_by_last}
use Rattle.law_run_facts.proofs.Takers.{gsmp_of, taker_at_port}
use Rattle.law_world_pace.proofs.law_actor_pace.Cells.{ended_last}
use Rattle.law_run_facts.proofs.Walks.{Sees, At, Has, with_frames, back, sent}
use Rattle.law_run_facts.proofs.Sending.{sent_control, at_work, gsmp_frame}

module _ (S : (queue chain : List Cell) → List Frame → (controls : ℕ) → Type 0) (T : List Route → Type 0) (Q : RouteChange → Type 0) (D : (controls : ℕ) → PortNo → (chain : List Cell) → Type 0)
    (control : (a : Acted) (channel : Channel) (payload : List ℕ) → Sees S T Q D a → Sees S T Q D (sends_control a channel payload))
    (clear : (queue chain : List Cell) (frames : List Frame) (controls : ℕ) → S queue chain frames controls → S queue [] frames controls)
    (later : (controls : ℕ) (port : PortNo) (chain : List Cell) → D controls port chain → D (controls + 1) port chain) (nothing : (controls : ℕ) (port : PortNo) → D controls port [])
    (step : (table : List Route) (change : RouteChange) → T table → Q change → T (changed table change)) where
  -- *What came under a mark*
  module _ (came : Mark) (Last : Type 0) (gathers : (queue chain : List Cell) (frames : List Frame) (controls : ℕ) (cell : Cell) → cell.mark ≡ came → same_channel cell.header.channel default_channel ≡ true → S queue chain frames controls → S queue (chain ++ cell ∷ []) frames controls)
      (gathers_at : (a : Acted) (linked : Linked) (cell : Cell) → cell.mark ≡ came → taker_of a.controller cell.header.channel ≡ Some (ForDefault linked) → Sees S T Q D a
      → D a.numbers.controls linked.setup.port linked.reassembly.chain → D a.numbers.controls linked.setup.port (linked.reassembly.chain ++ cell ∷ []))
      (packet : Last → (a : Acted) (channel : Channel) (payload : List ℕ) → is_control came ≡ false → Sees S T Q D a → Sees S T Q D (sends a channel (next_mark came) payload)) where
    module _ (last : Last) where
      next_sent : (a : Acted) (channel : Channel) (payload : List ℕ) → Has S T Q D a → Has S T Q D (sends_next a came channel payload)
      next_sent a channel payload h = on_each (Has S T Q D) (is_control came) (sends_control a channel payload) (sends a channel (next_mark came) payload) (λ e. sent_control S T Q D control clear later nothing step a channel payload h)
          (λ e. (let k = sent S T Q D a channel (next_mark came) payload (h.1, h.2, h.3) in (packet last a channel payload e h.0, k.0, k.1, k.2)))

      sent_by : (a : Acted) (port : PortNo) (octets : List ℕ) (o : Option Grant) → Has S T Q D a → Has S T Q D (goes_by a came port octets o)
      sent_by a port octets None h = next_sent a (default_home port).channel (default_payload octets) h
      sent_by a port octets (Some grant) h = next_sent a (control_end port grant.label).channel (labelled_payload (kind_of grant.flow) octets) h

      forwards : (a : Acted) (octets : List ℕ) (hop : Hop) → Has S T Q D a → Has S T Q D (forwarded a came octets hop)
      forwards a octets Here h = h
      forwards a octets NoRoute h = h
      forwards a octets Expired h = h
      forwards a octets (On port) h = sent_by a port (onward octets) (grant_by a.controller port (onward octets)) h

      pub routed_walk : (a : Acted) (octets : List ℕ) → Has S T Q D a → Has S T Q D (forwards_packet a came octets)
      routed_walk a octets h = forwards a octets (hop_of a.controller.table octets) h

      label_frame : (a : Acted) (linked : Linked) (label : Label) (r : Result (List ℕ) EncapsFault) → Has S T Q D a → Has S T Q D (label_holds a linked label came r)
      label_frame a linked label (Err fault) h = h
      label_frame a linked label (Ok octets) h = at_work S T Q D control clear later nothing step (forwards_packet a came octets) linked.setup.port (λ setup desk w. used w label.number) (routed_walk a octets h)

      ifmp_frame : (a : Acted) (port : PortNo) (octets : List ℕ) (r : Result IfmpMessage IfmpFault) → Has S T Q D a → Has S T Q D (ifmp_holds a port octets r)
      ifmp_frame a port octets (Err fault) h = h
      ifmp_frame a port octets (Ok message) h = at_work S T Q D control clear later nothing step a port (λ setup desk w. hears setup desk w (source_of octets) message) h

      packet_frame : (a : Acted) (port : PortNo) (octets : List ℕ) (o : Option PacketFault) → Has S T Q D a → Has S T Q D (packet_holds a port came octets o)
      packet_frame a port octets (Some fault) h = h
      packet_frame a port octets None h = on_both (Has S T Q D) (protocol_of octets == control_protocol) (ifmp_holds a port octets (ifmp_decoded (drop 20 octets))) (counted_at (forwards_packet a came octets) port octets)
          (ifmp_frame a port octets (ifmp_decoded (drop 20 octets)) h) (at_work S T Q D control clear later nothing step (forwards_packet a came octets) port (λ setup desk w. counts setup desk w octets) (routed_walk a octets h))

      default_frame : (a : Acted) (port : PortNo) (r : Result (List ℕ) EncapsFault) → Has S T Q D a → Has S T Q D (default_holds a port came r)
      default_frame a port (Err fault) h = h
      default_frame a port (Ok octets) h = packet_frame a port octets (first_fault octets) h

      frame : (a : Acted) (taker : Taker) (payload : List ℕ) → Has S T Q D a → Has S T Q D (frame_holds a taker came payload)
      frame a ForGsmp payload h = gsmp_frame S T Q D control clear later nothing step a (gsmp_decoded payload) h
      frame a (ForDefault linked) payload h = default_frame a linked.setup.port (default_unwrapped payload) h
      frame a (ForLabel linked label) payload h = label_frame a linked label (unwrapped label.flow payload) h

      opened_one : (a : Acted) (taker : Taker) (o : Option (List ℕ)) → Has S T Q D a → Has S T Q D (opened_frame a taker came o)
      opened_one a taker None h = h
      opened_one a taker (Some payload) h = frame a taker payload h

    ended : (a : Acted) (taker : Taker) (cells : List Cell) → ((first : Cell) (rest : List Cell) → cells ≡ first ∷ rest → (last_mark (first ∷ rest) ≡ came) × Last) → Has S T Q D a → Has S T Q D (ends_frame a taker cells)
    ended a taker [] ends h = h
    ended a taker (cell ∷ cells) ends h =
        let test : Tested = tested a.notes (cell ∷ cells) in
        let b : Acted = record a { notes = test.notes } in
        subst (λ m. Has S T Q D (opened_frame b taker m test.payload)) (sym (ends cell cells refl).0)
        (opened_one (ends cell cells refl).1 b taker test.payload (with_frames S T Q D b a.notes.frames (tested_frames a.notes (cell ∷ cells)) h))

    gathered : (a : Acted) (notes : Journal) (slot : Bool) (taker : Taker) (cell : Cell) → cell.mark ≡ came → taker_of a.controller cell.header.channel ≡ Some taker → Has S T Q D a
        → Has S T Q D (with_reassembly a taker (taken notes slot (reassembly_of a.controller taker) cell).reassembly)
    gathered a notes slot ForGsmp cell is found h = (
      taken_chain (λ chain. S a.controller.queue chain a.notes.frames a.numbers.controls) notes slot a.controller.reassembly cell h.0
          (clear a.controller.queue a.controller.reassembly.chain a.notes.frames a.numbers.controls h.0)
          (gathers a.controller.queue a.controller.reassembly.chain a.notes.frames a.numbers.controls cell is (gsmp_of a.controller cell.header.channel found) h.0),
      h.1,
      h.2,
      h.3,
    )
    gathered a notes slot (ForDefault linked) cell is found h = (
      h.0,
      h.1,
      h.2,
      back S T Q D a (record linked { reassembly = (taken notes slot linked.reassembly cell).reassembly })
          (taken_chain (D a.numbers.controls linked.setup.port) notes slot linked.reassembly cell (taker_at_port (At S T Q D a.numbers.controls) a.controller cell.header.channel (ForDefault linked) h.3 found) (nothing a.numbers.controls linked.setup.port)
          (gathers_at a linked cell is found h.0 (taker_at_port (At S T Q D a.numbers.controls) a.controller cell.header.channel (ForDefault linked) h.3 found))) h,
    )
    gathered a notes slot (ForLabel linked label) cell is found h = (
      h.0,
      h.1,
      h.2,
      back S T Q D a (record linked { chains = chains_with linked.chains label.number (taken notes slot (chain_of linked.chains label.number) cell).reassembly })
          (taker_at_port (At S T Q D a.numbers.controls) a.controller cell.header.channel (ForLabel linked label) h.3 found) h,
    )

    pub cell_walk : (a : Acted) (cell : Cell) → cell.mark ≡ came → (cell.header.last ≡ true → Last) → Has S T Q D a → Has S T Q D (cell_comes a cell)
    cell_walk a cell is last h = taken_by (taker_of a.controller cell.header.channel) refl
      where
        taken_by : (o : Option Taker) → taker_of a.controller cell.header.channel ≡ o → Has S T Q D (takes_cell a cell o)
        taken_by None found = h
        taken_by (Some taker) found =
            let slot : Bool = nat_lt 0 (free_slots a.controller) in
            let t : Taken = taken a.notes slot (reassembly_of a.controller taker) cell in
            let b : Acted = record a { notes = t.notes } in
            ended (with_reassembly b taker t.reassembly) taker t.ended (λ first rest e. (ended_last a.notes slot (reassembly_of a.controller taker) cell first rest e ∙ is, last (ended_by_last a.notes slot (reassembly_of a.controller taker) cell first rest e)))
            (gathered b a.notes slot taker cell is found (with_frames S T Q D b a.notes.frames (taken_frames a.notes slot (reassembly_of a.controller taker) cell) h))
