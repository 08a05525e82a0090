-- the lines of a trace have the forms that an audit reads

use Rattle.std.proofs.Common.{◌≡◌, ℕ, zero, suc, ◌+◌, ◌<◌, ◌≤◌, ◌==◌, ◌&&◌, not, Bool, true, false, nat_lt, nat_le, List, [], ◌∷◌, ◌++◌, length, map, take, drop, Option, None, Some, refl, sym, subst, arith, eqb-true, if◌then◌else◌}
use Rattle.std.specs.Prelude.{slice_get, slice_index}
use Rattle.std.specs.Int.{w16, to_be_bytes}
use Rattle.std.specs.Option.{option_map_or, option_or}
use Rattle.std.proofs.lemmas.Bool.{and_parts}
use Rattle.std.proofs.lemmas.Bool.Decides.{nat_tests}
use Rattle.world_model.specs.Words.{Place, Down, Up, Out, Mark, is_label_channel, Cell, FlowKind, FlowId, kind_of, EncapsFault, Carries, labelled_payload, checksum_at_ttl_zero, head_size, left_out, said_length, layout_fault, checksum_fault, Frame, payload_of, IsTopology, IsLink, IsWithin, AreOctets, IsEvent, Topology, Node, Link, node_in, World}
use Rattle.world_model.specs.ipv4_packet.declared.flow.FlowKind.TheVariants.{One as ConnectionKind, Two as HostsKind}
use Rattle.world_model.specs.flow_encaps.declared.default.EncapsFault.TheVariants as faults
use Rattle.world_model.specs.flow_encaps.Labelled.{has_zeros}
use Rattle.world_model.proofs.flow_encaps.CarryLemmas.{unwrap_fault-carried}
use Rattle.law_run_facts.proofs.octet_fields.FieldLemmas.{AreOctets-take, AreOctets-drop}
use Rattle.law_trace_truth.specs.lab_text.Forms.{is_name}
use Rattle.law_passing.specs.ordered_lists.Ordered.{Every}
use Rattle.law_passing.proofs.ordered_lists.Every.{every_join}
use Rattle.law_packet_worlds.proofs.Worlds.{port_above}
use Rattle.law_run_facts.proofs.law_port_facts.Keyed.{on_each}
use Rattle.law_trace_truth.specs.trace_model.Forms.{greatest_payload, is_cell_channel}
use Rattle.world_model.specs.network_model.declared.event.Event.{Event}
use Rattle.world_model.specs.network_model.declared.event.Event.TheVariants.{Inject, Carry, Lose, Tick, TickSwitch, Restart, RestartSwitch, Forge, Route}
use Rattle.world_model.specs.network_model.declared.link.LinkEnd.{LinkEnd}
use Rattle.law_passing.specs.telling_model.declared.standing.Standing.{Standing}
use Rattle.tell_trace.specs.Passages.{Linked, Put}
use Rattle.tell_trace.specs.Reading.{IsEnd, FitsMark, IsSayable}
use Rattle.tell_trace.specs.Trace.{Told, port_end, taken_told, is_due, framed_by, frame_told, cell_told, cells_told, links_told}
use Rattle.law_trace_truth.specs.Law.{HasNames}
use Rattle.law_trace_truth.proofs.Ends.{all_got, named}
use Rattle.law_trace_truth.proofs.Knows.{IsPortEnd}

-- *Octets*
octets_more : (octet : ℕ) (octets : List ℕ) → octet < 256 → AreOctets octets → AreOctets (octet ∷ octets)
octets_more octet octets low rest zero = low
octets_more octet octets low rest (suc place) = rest place

octets_join : (xs ys : List ℕ) → AreOctets xs → AreOctets ys → AreOctets (xs ++ ys)
octets_join [] ys h k place = k place
octets_join (x ∷ xs) ys h k zero = h zero
octets_join (x ∷ xs) ys h k (suc place) = octets_join xs ys (λ p. h (suc p)) k place

octets_two : (n : ℕ) → AreOctets (to_be_bytes w16 n)
octets_two n zero = omega arith
octets_two n (suc zero) = omega arith
octets_two n (suc (suc place)) = omega arith

labelled_octets : (kind : FlowKind) (packet : List ℕ) → AreOctets packet → AreOctets (labelled_payload kind packet)
labelled_octets ConnectionKind packet h =
    octets_join (take 6 (drop 2 packet)) (to_be_bytes w16 (checksum_at_ttl_zero packet) ++ drop 24 packet) (AreOctets-take (drop 2 packet) 6 (AreOctets-drop packet 2 h))
    (octets_join (to_be_bytes w16 (checksum_at_ttl_zero packet)) (drop 24 packet) (octets_two (checksum_at_ttl_zero packet)) (AreOctets-drop packet 24 h))
labelled_octets HostsKind packet h =
    let summed : List ℕ = to_be_bytes w16 (checksum_at_ttl_zero packet) ++ drop 20 packet in
    let behind : List ℕ = take 6 (drop 2 packet) ++ (0 ∷ slice_index packet 9 ∷ summed) in
    octets_more 0 (slice_index packet 1 ∷ behind) (omega arith)
    (octets_more (slice_index packet 1) behind (h 1)
    (octets_join (take 6 (drop 2 packet)) (0 ∷ slice_index packet 9 ∷ summed) (AreOctets-take (drop 2 packet) 6 (AreOctets-drop packet 2 h))
    (octets_more 0 (slice_index packet 9 ∷ summed) (omega arith) (octets_more (slice_index packet 9) summed (h 9)
    (octets_join (to_be_bytes w16 (checksum_at_ttl_zero packet)) (drop 20 packet) (octets_two (checksum_at_ttl_zero packet)) (AreOctets-drop packet 20 h))))))

-- *Lengths*
not_first : {rest : Option EncapsFault} (test : Bool) (fault : EncapsFault) → (if test then Some fault else rest) ≡ None → (test ≡ false) × (rest ≡ None)
not_first true fault e = absurd (cc e)
not_first false fault e = (refl, e)

layout_size : (kind : FlowKind) (payload : List ℕ) → layout_fault kind payload ≡ None → (head_size kind ≤ length payload) × (length payload ≤ 1500)
layout_size kind payload e =
    let short = not_first (nat_lt (length payload) (head_size kind)) faults.Short e in
    let zeros = not_first (not (has_zeros kind payload)) faults.Reserved short.1 in
    let sizes = not_first (not (said_length kind payload == length payload + left_out kind && nat_le (said_length kind payload) 1500)) faults.Length zeros.1 in
    let parts = and_parts (said_length kind payload == length payload + left_out kind) (nat_le (said_length kind payload) 1500) (not_false _ sizes.0) in
    (least (length payload) (head_size kind) short.0, most (said_length kind payload) (length payload) (left_out kind) (eqb-true (said_length kind payload) (length payload + left_out kind) parts.0) parts.1)
  where
    not_false : (b : Bool) → not b ≡ false → b ≡ true
    not_false true e = refl
    not_false false e = absurd (cc e)

    least : (n h : ℕ) → nat_lt n h ≡ false → h ≤ n
    least n h e = grind (arith, nat_tests, e)

    most : (s n l : ℕ) → s ≡ n + l → nat_le s 1500 ≡ true → n ≤ 1500
    most s n l e low = (let le : s ≤ 1500 = grind (arith, nat_tests, low) in omega (arith, e, le))

pub payload_fits : (flow : FlowId) (packet payload : List ℕ) → Carries flow packet payload → IsWithin 1 greatest_payload (length payload) × AreOctets payload
payload_fits flow packet payload carries =
    let size = layout_size (kind_of flow) payload (first_none (layout_fault (kind_of flow) payload) (checksum_fault flow payload) (unwrap_fault-carried flow packet payload carries)) in (
      (some (kind_of flow) (length payload) size.0, most (length payload) size.1),
      subst AreOctets (sym carries.filled) (labelled_octets (kind_of flow) packet carries.octets),
    )
  where
    first_none : (o p : Option EncapsFault) → option_or o p ≡ None → o ≡ None
    first_none None p e = refl
    first_none (Some x) p e = absurd (cc e)

    some : (kind : FlowKind) (n : ℕ) → head_size kind ≤ n → 1 ≤ n
    some ConnectionKind n low = omega (arith, low)
    some HostsKind n low = omega (arith, low)

    most : (n : ℕ) → n ≤ 1500 → n ≤ 1528
    most n low = omega (arith, low)

module _ (topology : Topology) (is : IsTopology topology) (names : HasNames topology) where
  -- *Ends*
  name_at : (n : ℕ) → (1 ≤ n) × (n ≤ length topology.nodes) → is_name (option_map_or (λ (found : Node). found.name) (node_in topology.nodes n) []) ≡ true
  name_at zero low = absurd (omega (arith, low.0))
  name_at (suc place) low =
      let g = named topology is names (suc place) low in
      subst (λ (o : Option Node). is_name (option_map_or (λ (found : Node). found.name) o []) ≡ true) (sym g.1) (all_got (λ (x : Node). is_name x.name ≡ true) topology.nodes place g.0 names g.1)

  pub end_is : (end : LinkEnd) → IsPortEnd topology end → IsEnd topology end
  end_is end there = (name_at end.node.0 there.0, port_above topology is end.node end.port there.1)

  -- *Links*
  pub links_sayable : Every (IsSayable topology) (links_told topology)
  links_sayable = each topology.links (λ k link e. all_got (IsLink topology) topology.links k link is.links e)
    where
      each : (links : List Link) → ((k : ℕ) (link : Link) → slice_get links k ≡ Some link → IsLink topology link) → Every (IsSayable topology) (map (λ (link : Link). Linked link.first link.second) links)
      each [] f = tt
      each (link ∷ links) f =
          let l = f 0 link refl in
          (((name_at link.first.node.0 l.first.0, l.first.1), (name_at link.second.node.0 l.second.0, l.second.1)), each links (λ k x e. f (suc k) x e))

  -- *The cell that is taken*
  pub taken_sayable : (w : World) (event : Event) → IsEvent topology w event → (o : Option Standing) → Every (IsSayable topology) (taken_told event o)
  taken_sayable w (Inject node octets) meant o = tt
  taken_sayable w (Carry (Down node)) meant o = tt
  taken_sayable w (Carry (Up node)) meant o = tt
  taken_sayable w (Carry (Out node port)) meant None = tt
  taken_sayable w (Carry (Out node port)) meant (Some s) = (end_is (port_end node port) meant, tt)
  taken_sayable w (Lose (Down node)) meant o = tt
  taken_sayable w (Lose (Up node)) meant o = tt
  taken_sayable w (Lose (Out node port)) meant None = tt
  taken_sayable w (Lose (Out node port)) meant (Some s) = (end_is (port_end node port) meant, tt)
  taken_sayable w (Tick node) meant o = tt
  taken_sayable w (TickSwitch node) meant o = tt
  taken_sayable w (Restart node) meant o = tt
  taken_sayable w (RestartSwitch node) meant o = tt
  taken_sayable w (Forge place channel payload) meant o = tt
  taken_sayable w (Route node change) meant o = tt

  -- *A cell that is put*, and its frame
  module _ (frames : List Frame) where
    abbrev pub IsSaidCell : Place → Cell → Type 0
    IsSaidCell (Out node port) cell = IsEnd topology (port_end node port) × (is_cell_channel cell.header.channel ≡ true) × FitsMark cell.mark
        × ((payload : List ℕ) → is_label_channel cell.header.channel ≡ true → payload_of frames cell.mark ≡ Some payload → IsWithin 1 greatest_payload (length payload) × AreOctets payload)
    IsSaidCell place cell = Unit {0}

    cell_sayable : (marks : List Mark) (place : Place) (cell : Cell) → IsSaidCell place cell → Every (IsSayable topology) (cell_told frames marks place cell).passages
    cell_sayable marks (Down node) cell h = tt
    cell_sayable marks (Up node) cell h = tt
    cell_sayable marks (Out node port) cell h = every_join (IsSayable topology) (frame_told frames marks cell.header.channel cell.mark).passages (Put (port_end node port) cell.header.channel cell.mark ∷ [])
        (on_each (λ (t : Told). Every (IsSayable topology) t.passages) (is_due marks cell.header.channel cell.mark) (framed_by marks cell.mark (payload_of frames cell.mark)) (record { passages = []; marks = marks })
        (λ due. by (payload_of frames cell.mark) refl (and_parts (is_label_channel cell.header.channel) _ due).0) (λ told. tt))
        ((h.0, h.1, h.2), tt)
      where
        by : (o : Option (List ℕ)) → payload_of frames cell.mark ≡ o → is_label_channel cell.header.channel ≡ true → Every (IsSayable topology) (framed_by marks cell.mark o).passages
        by None e label = tt
        by (Some payload) e label = (let f = h.3 payload label e in ((h.2, f.0, f.1), tt))

    pub cells_sayable : (marks : List Mark) (cells : List Standing) → Every (λ (s : Standing). IsSaidCell s.place s.cell) cells → Every (IsSayable topology) (cells_told frames marks cells).passages
    cells_sayable marks [] all = tt
    cells_sayable marks (s ∷ cells) all = every_join (IsSayable topology) (cell_told frames marks s.place s.cell).passages (cells_told frames (cell_told frames marks s.place s.cell).marks cells).passages
        (cell_sayable marks s.place s.cell all.0) (cells_sayable (cell_told frames marks s.place s.cell).marks cells all.1)
