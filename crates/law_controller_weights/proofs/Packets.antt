-- a packet that a controller sends on costs no more than its Time To Live pays for

use Rattle.std.proofs.Common.{◌≡◌, ◌≢◌, ℕ, zero, suc, ◌≤◌, ◌<◌, ◌+◌, ◌*◌, Bool, true, false, List, ◌∷◌, length, Option, None, Some, refl, sym, ◌∙◌, ap, subst, arith, if◌then◌else◌}
use Rattle.std.specs.Prelude.{◌==◌, ◌&&◌, ◌/◌, ◌%◌, nat_le, nat_lt, not}
use Rattle.std.specs.Option.{option_or, option_map_or, option_and_then}
use Rattle.std.proofs.lemmas.Bool.Decides.{nat_tests}
use Rattle.world_model.specs.Words.{NodeId, PortNo, Down, Mark, Channel, label_channel_of, number_of_channel, is_label_number, ttl_of, destination_of, tos_of, protocol_of, source_of, flow_of, flow_ttl, kind_of, shows_ports, same_flow, FlowId, FlowKind, best, hop_by, hop_of, onward, Hop, Here, On, Next, Local, Via, default_payload, labelled_payload, Frame, payload_of, next_mark, control_end, Grant, is_by_controller, grant_for, grant_of_kind, grant_matching, Linked, port_key, linked_at, default_home, on_link, port_on, sends_control, is_control, sends_next, goes_by, grant_by, goes_on, forwards_packet, Topology}
use Rattle.law_run_facts.specs.octet_fields.Fields.{u16_at}
use Rattle.world_model.specs.ipv4_packet.declared.flow.FlowId.TheVariants as flows
use Rattle.world_model.specs.ipv4_packet.declared.flow.FlowKind.TheVariants as kinds
use Rattle.world_model.specs.ipv4_forward.declared.outcome.Hop.TheVariants.{NoRoute, Expired}
use Rattle.law_run_facts.specs.ordered_lists.Ordered.{Every}
use Rattle.law_run_facts.proofs.law_port_facts.Keyed.{at_key, at_every, on_each}
use Rattle.law_run_facts.proofs.law_port_facts.Found.{find_every}
use Rattle.world_model.specs.Controller.{Acted}
use Rattle.world_model.specs.Sending.{sends}
use Rattle.world_model.specs.Packets.{forwarded}
use Rattle.world_model.specs.Topology.{peer_of}
use Rattle.law_run_facts.proofs.law_shown_cells.Made.{made_elsewhere}
use Rattle.law_action_weights.specs.claims_model.Costs.{forwarding}
use Rattle.law_action_weights.specs.claims_model.Weights.{Bearing, ToSwitch, Plain, Labelled, Bound, bearing_of, bearing_on, hops_at}
use Rattle.law_controller_weights.specs.Coming.{IsToldGrant, HasToldGrants}
use Rattle.law_action_weights.proofs.Judging.{Weighs, more, still, frame_cost, sent_cost, control_cost, bearing_home}
use Rattle.law_action_weights.proofs.law_frame_weights.Readings.{packet_reads}
use Rattle.law_controller_weights.proofs.Answering.{find_passes}

-- *A packet that goes on* has one less to live
less_to_live : (packet : List ℕ) (left : ℕ) → ttl_of packet ≡ suc left → ttl_of (onward packet) ≡ left
less_to_live (a ∷ b ∷ c ∷ d ∷ e ∷ f ∷ g ∷ h ∷ ttl ∷ octets) left is = omega (arith, is)
less_to_live octets left is = absurd (omega (arith, is))

goes_on_lives : (ttl : ℕ) (o : Option Next) (port : PortNo) → hop_by ttl o ≡ On port → 1 ≤ ttl
goes_on_lives ttl None port e = absurd (cc e)
goes_on_lives ttl (Some Local) port e = absurd (cc e)
goes_on_lives ttl (Some (Via other)) port e = by (nat_le ttl 1) refl e
  where
    by : (b : Bool) → nat_le ttl 1 ≡ b → (if b then Expired else On other) ≡ On port → 1 ≤ ttl
    by true t e = absurd (cc e)
    by false t e = some ttl t
      where
        some : (n : ℕ) → nat_le n 1 ≡ false → 1 ≤ n
        some n t = grind (arith, nat_tests)

-- *The grant that it goes by* is of its flow
flow_has : (kind : FlowKind) (packet : List ℕ) (flow : FlowId) → flow_of kind packet ≡ Some flow → flow_ttl flow ≡ ttl_of packet
flow_has kinds.One packet flow e = by (not (ttl_of packet == 0) && shows_ports packet) e
  where
    by : (b : Bool) → (if b then Some (flows.One (tos_of packet) (ttl_of packet) (protocol_of packet) (source_of packet) (destination_of packet) (u16_at packet 20) (u16_at packet 22)) else None) ≡ Some flow → flow_ttl flow ≡ ttl_of packet
    by true e = sym (ap (λ (o : Option FlowId). option_map_or flow_ttl o 0) e)
    by false e = absurd (cc e)
flow_has kinds.Two packet flow e = by (not (ttl_of packet == 0)) e
  where
    by : (b : Bool) → (if b then Some (flows.Two (ttl_of packet) (source_of packet) (destination_of packet)) else None) ≡ Some flow → flow_ttl flow ≡ ttl_of packet
    by true e = sym (ap (λ (o : Option FlowId). option_map_or flow_ttl o 0) e)
    by false e = absurd (cc e)

middle : (a b c d : Bool) → ((a && (b && c)) && d) ≡ true → b ≡ true
middle true true c d e = refl
middle true false c d e = absurd (cc e)
middle false b c d e = absurd (cc e)

first_of_two : (a b : Bool) → (a && b) ≡ true → a ≡ true
first_of_two true b e = refl
first_of_two false b e = absurd (cc e)

second_of_two : (a b : Bool) → (a && b) ≡ true → b ≡ true
second_of_two true b e = e
second_of_two false b e = absurd (cc e)

same_number : (n m : ℕ) → (n == m) ≡ true → n ≡ m
same_number n m e = grind (arith, nat_tests)

same_ttl : (x y : FlowId) → same_flow x y ≡ true → flow_ttl x ≡ flow_ttl y
same_ttl (flows.One tos ttl protocol source destination p q) (flows.One tos2 ttl2 protocol2 source2 destination2 p2 q2) e = same_number ttl ttl2 (middle (tos == tos2) (ttl == ttl2) (protocol == protocol2) _ e)
same_ttl (flows.Two ttl source destination) (flows.Two ttl2 source2 destination2) e = same_number ttl ttl2 (first_of_two (ttl == ttl2) _ e)
same_ttl (flows.One tos ttl protocol source destination p q) (flows.Two ttl2 source2 destination2) e = absurd (cc e)
same_ttl (flows.Two ttl source destination) (flows.One tos2 ttl2 protocol2 source2 destination2 p2 q2) e = absurd (cc e)

of_kind : (grants : List Grant) (kind : FlowKind) (packet : List ℕ) (grant : Grant) → grant_of_kind grants kind packet ≡ Some grant → flow_ttl grant.flow ≡ ttl_of packet
of_kind grants kind packet grant e = by (flow_of kind packet) refl e
  where
    by : (o : Option FlowId) → flow_of kind packet ≡ o → option_map_or (grant_for grants) o None ≡ Some grant → flow_ttl grant.flow ≡ ttl_of packet
    by None is e = absurd (cc e)
    by (Some flow) is e = same_ttl grant.flow flow (second_of_two (is_by_controller grant.state) (same_flow grant.flow flow)
        (find_passes (λ (g : Grant). is_by_controller g.state && same_flow g.flow flow) grants grant e)) ∙ flow_has kind packet flow is

-- one that is found stands among the grants
kind_every : (P : Grant → Type 0) (grants : List Grant) (kind : FlowKind) (packet : List ℕ) (grant : Grant) → Every P grants → grant_of_kind grants kind packet ≡ Some grant → P grant
kind_every P grants kind packet grant all e = by (flow_of kind packet) e
  where
    by : (o : Option FlowId) → option_map_or (grant_for grants) o None ≡ Some grant → P grant
    by None e = absurd (cc e)
    by (Some flow) e = find_every P (λ (g : Grant). is_by_controller g.state && same_flow g.flow flow) grants grant all e

by_either : {C : Type 0} (one two : Option Grant) (grant : Grant) → option_or one two ≡ Some grant → (one ≡ Some grant → C) → (two ≡ Some grant → C) → C
by_either None two grant e first second = second e
by_either (Some g) two grant e first second = first e

matching_has : (grants : List Grant) (packet : List ℕ) (grant : Grant) → grant_matching grants packet ≡ Some grant → flow_ttl grant.flow ≡ ttl_of packet
matching_has grants packet grant e = by_either (grant_of_kind grants kinds.One packet) (grant_of_kind grants kinds.Two packet) grant e (of_kind grants kinds.One packet grant) (of_kind grants kinds.Two packet grant)

matching_every : (P : Grant → Type 0) (grants : List Grant) (packet : List ℕ) (grant : Grant) → Every P grants → grant_matching grants packet ≡ Some grant → P grant
matching_every P grants packet grant all e = by_either (grant_of_kind grants kinds.One packet) (grant_of_kind grants kinds.Two packet) grant e
    (kind_every P grants kinds.One packet grant all) (kind_every P grants kinds.Two packet grant all)

module _ (topology : Topology) (node : NodeId) (bound : Bound) (final : List Frame) (short : (mark : Mark) (payload : List ℕ) → payload_of final mark ≡ Some payload → length payload ≤ 1528) where
  abbrev Costly : ℕ → Acted → Acted → Type 0
  Costly count a b = Weighs topology node bound final short count a b

  -- *The channel of a label* on the control link
  bearing_label : (port : PortNo) (label : ℕ) → is_label_number label ≡ true → bearing_of topology (Down node) (control_end port label).channel ≡ Labelled (peer_of topology node port) label
  bearing_label port label is = first ∙ second ∙ third ∙ fourth
    where
      channel : Channel
      channel = (control_end port label).channel

      apart : (p l : ℕ) → is_label_number l ≡ true → (16 * p + l / 1024 == 0 && l % 1024 == 15) ≡ false
      apart p l is = grind (arith, nat_tests)

      link : Bearing
      link = bearing_on (on_link channel) (peer_of topology node (port_on channel))

      first : bearing_of topology (Down node) channel ≡ link
      first = ap (λ (b : Bool). if b then ToSwitch else link) (apart port.0 label is)

      low : (l : ℕ) → is_label_number l ≡ true → l / 1024 < 16
      low l is = grind (arith, nat_tests)

      own : (p v : ℕ) → v < 16 → (16 * p + v) % 16 ≡ v
      own p v below = omega (arith, below)

      from : (p v : ℕ) → v < 16 → (16 * p + v) / 16 ≡ p
      from p v below = omega (arith, below)

      second : link ≡ bearing_on (label_channel_of label) (peer_of topology node (port_on channel))
      second = ap (λ (v : ℕ). bearing_on (record { vpi = v; vci = label % 1024 }) (peer_of topology node (port_on channel))) (own port.0 (label / 1024) (low label is))

      third : bearing_on (label_channel_of label) (peer_of topology node (port_on channel)) ≡ bearing_on (label_channel_of label) (peer_of topology node port)
      third = ap (λ (p : ℕ). bearing_on (label_channel_of label) (peer_of topology node (record { 0 = p }))) (from port.0 (label / 1024) (low label is))

      other : (l : ℕ) → is_label_number l ≡ true → (l / 1024 == 0 && l % 1024 == 15) ≡ false
      other l is = grind (arith, nat_tests)

      number : (l : ℕ) → (l / 1024) * 1024 + l % 1024 ≡ l
      number l = omega arith

      fourth : bearing_on (label_channel_of label) (peer_of topology node port) ≡ Labelled (peer_of topology node port) label
      fourth = ap (λ (b : Bool). if b then Plain else Labelled (peer_of topology node port) (number_of_channel (label_channel_of label))) (other label is)
          ∙ ap (λ (n : ℕ). Labelled (peer_of topology node port) n) (number label)

  -- *The next frame*: under the packet's next mark, or the next control mark
  pub record MaySend (a : Acted) (came : Mark) : Type 0 where
    pub newest : came.packet ≢ 0 → payload_of a.notes.frames (next_mark came) ≡ None
    pub counted : came.packet ≡ 0 → 0 < came.frame

  next_cost : (a : Acted) (came : Mark) (channel : Channel) (payload : List ℕ) → MaySend a came → Costly (frame_cost topology node bound final short (bearing_of topology (Down node) channel) payload) a (sends_next a came channel payload)
  next_cost a came channel payload may = on_each (Costly count a) (is_control came) (sends_control a channel payload) (sends a channel (next_mark came) payload)
      (λ t. control_cost topology node bound final short a channel payload)
      (λ t. (let other : came.packet ≢ 0 = λ z. absurd (control came.packet came.frame z (may.counted z) t) in
      sent_cost topology node bound final short a a.numbers channel (next_mark came) payload (λ f. may.newest other)
      (λ f k less. made_elsewhere a.notes.frames (next_mark came) (record { packet = 0; frame = k }) payload (λ e. other (ap (λ (m : Mark). m.packet) e)) ∙ f.unmade k less)))
    where
      count : ℕ
      count = frame_cost topology node bound final short (bearing_of topology (Down node) channel) payload

      control : (packet frame : ℕ) → packet ≡ 0 → 0 < frame → (packet == 0 && nat_lt 0 frame) ≡ false → ⊥
      control packet frame z some t = grind (arith, nat_tests)

  by_cost : (a : Acted) (came : Mark) (port : PortNo) (packet : List ℕ) (left : ℕ) (o : Option Grant) → ttl_of packet ≡ left → 1 ≤ port.0 → MaySend a came
      → ((grant : Grant) → o ≡ Some grant → (flow_ttl grant.flow ≡ ttl_of packet) × IsToldGrant topology node bound port grant)
      → Costly (forwarding (suc left)) a (goes_by a came port packet o)
  by_cost a came port packet left None ttl some may told =
      more topology node bound final short (frame_cost topology node bound final short (bearing_of topology (Down node) (default_home port).channel) (default_payload packet)) (forwarding (suc left)) a (goes_by a came port packet None)
      (omega (arith, ap (λ (b : Bearing). frame_cost topology node bound final short b (default_payload packet)) (bearing_home topology node bound final short port some), packet_reads packet, ap forwarding ttl))
      (next_cost a came (default_home port).channel (default_payload packet) may)
  by_cost a came port packet left (Some grant) ttl some may told =
      let t = told grant refl in
      let payload : List ℕ = labelled_payload (kind_of grant.flow) packet in
      let hops : hops_at bound (peer_of topology node port) grant.label ≡ left = t.1.1 ∙ t.0 ∙ ttl in
      more topology node bound final short (frame_cost topology node bound final short (bearing_of topology (Down node) (control_end port grant.label).channel) payload) (forwarding (suc left)) a (goes_by a came port packet (Some grant))
      (omega (arith, ap (λ (b : Bearing). frame_cost topology node bound final short b payload) (bearing_label port grant.label t.1.0), hops, ap forwarding hops))
      (next_cost a came (control_end port grant.label).channel payload may)

  -- *A packet at a node*
  pub routes_cost : (a : Acted) (came : Mark) (packet : List ℕ) → MaySend a came → Every (HasToldGrants topology node bound) a.controller.ports
      → ((port : PortNo) → hop_of a.controller.table packet ≡ On port → 1 ≤ port.0) → Costly (forwarding (ttl_of packet)) a (forwards_packet a came packet)
  routes_cost a came packet may grants onward_some = by (hop_of a.controller.table packet) refl
    where
      told : (port : PortNo) (grant : Grant) → grant_by a.controller port (onward packet) ≡ Some grant → (flow_ttl grant.flow ≡ ttl_of (onward packet)) × IsToldGrant topology node bound port grant
      told port grant e = found (linked_at a.controller port) refl e
        where
          found : (o : Option Linked) → linked_at a.controller port ≡ o → option_and_then (λ linked. grant_matching linked.port.grants (onward packet)) o ≡ Some grant
              → (flow_ttl grant.flow ≡ ttl_of (onward packet)) × IsToldGrant topology node bound port grant
          found None is e = absurd (cc e)
          found (Some linked) is e =
              let all : Every (IsToldGrant topology node bound linked.setup.port) linked.port.grants = at_every port_key (HasToldGrants topology node bound) port.0 a.controller.ports linked grants is in
              let one : IsToldGrant topology node bound linked.setup.port grant = matching_every (IsToldGrant topology node bound linked.setup.port) linked.port.grants (onward packet) grant all e in
              let same : linked.setup.port.0 ≡ port.0 = at_key port_key port.0 a.controller.ports linked is in
              (matching_has linked.port.grants (onward packet) grant e, subst (λ (p : ℕ). IsToldGrant topology node bound (record { 0 = p }) grant) same one)

      goes : (port : PortNo) → hop_of a.controller.table packet ≡ On port → (ttl : ℕ) → ttl_of packet ≡ ttl → Costly (forwarding ttl) a (goes_on a came port (onward packet))
      goes port e zero is = absurd (omega (arith, is, goes_on_lives (ttl_of packet) (best a.controller.table (destination_of packet)) port e))
      goes port e (suc left) is = by_cost a came port (onward packet) left (grant_by a.controller port (onward packet)) (less_to_live packet left is) (onward_some port e) may (told port)

      by : (hop : Hop) → hop_of a.controller.table packet ≡ hop → Costly (forwarding (ttl_of packet)) a (forwarded a came packet hop)
      by Here e = still topology node bound final short (forwarding (ttl_of packet)) a (forwarded a came packet Here) refl refl refl (omega arith)
      by NoRoute e = still topology node bound final short (forwarding (ttl_of packet)) a (forwarded a came packet NoRoute) refl refl refl (omega arith)
      by Expired e = still topology node bound final short (forwarding (ttl_of packet)) a (forwarded a came packet Expired) refl refl refl (omega arith)
      by (On port) e = goes port e (ttl_of packet) refl
