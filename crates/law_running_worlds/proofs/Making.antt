-- one more frame is made: a packet's, on its way from a node to the next, or a message's

use Rattle.std.proofs.Common.{◌≡◌, ℕ, ◌-◌, ◌≤◌, Bool, true, false, cond, List, [], ◌∷◌, ◌++◌, length, Option, None, Some, refl, sym, ◌∙◌, ap, subst, if◌then◌else◌}
use Rattle.std.specs.Prelude.{◌==◌, ◌&&◌}
use Rattle.std.specs.Option.{option_and_then, option_map_or, option_or}
use Rattle.std.proofs.lemmas.List.{length-set}
use Rattle.law_branch_shapes.specs.world_model.Words.{PortNo, Mark, protocol_of, ttl_of, with_ttl, IsPacket, onward, FlowId, FlowKind, kind_of, flow_of, same_flow, labelled_payload, Carries, Frame, Refusal, ControlProtocol, same_mark, payload_of, Grant, is_by_controller, grant_for, grant_of_kind, grant_matching, Controller, Linked, linked_at, control_protocol, refused_by, grant_by}
use Rattle.law_branch_shapes.specs.world_model.ipv4_packet.Packet.{first_fault}
use Rattle.law_input_events.proofs.world_model.ipv4_packet.HeaderLemmas.{IsPacket-with_ttl}
use Rattle.law_input_events.proofs.world_model.ipv4_packet.RouteLemmas.{protocol_of-rerouted, canonical-canonical}
use Rattle.law_branch_shapes.specs.world_model.ipv4_packet.declared.flow.FlowKind.TheVariants.{One, Two}
use Rattle.law_input_events.proofs.world_model.link_model.Latest.{payload_of_push}
use Rattle.law_input_events.proofs.world_model.link_model.Marks.{same_mark-Decides}
use Rattle.law_frame_readings.proofs.law_port_facts.Found.{find_passes}
use Rattle.law_frame_readings.proofs.law_port_facts.Rules.{and_second}
use Rattle.law_frame_readings.proofs.law_controller_facts.Onward.{octets_onward, packet_of}
use Rattle.law_frame_readings.proofs.law_port_views.Flows.{flow_is}
use Rattle.law_frame_readings.proofs.Packets.{is_forwarded, whole_packet}
use Rattle.law_frame_readings.specs.law_world_views.Made.{IsFit, IsMadeAs, AreMade}

-- *One more frame*
pub made_more : (frames : List Frame) (mark : Mark) (payload : List ℕ) → AreMade frames → IsMadeAs mark payload → AreMade (frames ++ record { mark = mark; payload = payload } ∷ [])
made_more frames mark payload all it other found e = by (same_mark mark other) refl (sym (payload_of_push frames (record { mark = mark; payload = payload }) other) ∙ e)
  where
    by : (b : Bool) → same_mark mark other ≡ b → cond b (Some payload) (payload_of frames other) ≡ Some found → IsMadeAs other found
    by false t f = all other found f
    by true t f = (let same : payload ≡ found = cc in subst (λ (m : Mark). IsMadeAs m found) ((same_mark-Decides mark other).0 t) (subst (IsMadeAs mark) same it))

-- *A packet behind a hop* may be in the network too
pub fit_packet : (packet : List ℕ) → IsFit packet → IsPacket packet
fit_packet packet fit = packet_of packet (is_forwarded packet fit).whole

pub fit_onward : (packet : List ℕ) → IsFit packet → IsFit (onward packet)
fit_onward packet fit =
    let is : IsPacket packet = fit_packet packet fit in
    let whole : first_fault (onward packet) ≡ None = whole_packet (onward packet) (IsPacket-with_ttl packet (ttl_of packet - 1) is) in
    let other : (protocol_of (onward packet) == control_protocol) ≡ false = ap (λ (n : ℕ). n == control_protocol) (protocol_of-rerouted packet (ttl_of packet - 1) is.has_header) ∙ (is_forwarded packet fit).other in
    record { accepted = ap (refused_by (onward packet)) whole ∙ accepts (protocol_of (onward packet) == control_protocol) other; octets = λ i. octets_onward packet fit.octets i }
  where
    accepts : (b : Bool) → b ≡ false → ◌≡◌ {A = Option Refusal} (if b then Some ControlProtocol else None) None
    accepts true e = absurd (cc e)
    accepts false e = refl

-- *A grant that matches a packet* is of the packet's flow
grant_for_is : (grants : List Grant) (flow : FlowId) (grant : Grant) → grant_for grants flow ≡ Some grant → grant.flow ≡ flow
grant_for_is grants flow grant e = flow_is grant.flow flow
    (and_second (is_by_controller grant.state) (same_flow grant.flow flow) (find_passes (λ (g : Grant). is_by_controller g.state && same_flow g.flow flow) grants grant e))

of_kind_is : (grants : List Grant) (kind : FlowKind) (packet : List ℕ) (grant : Grant) → ((flow : FlowId) → flow_of kind packet ≡ Some flow → kind_of flow ≡ kind) → grant_of_kind grants kind packet ≡ Some grant
    → flow_of (kind_of grant.flow) packet ≡ Some grant.flow
of_kind_is grants kind packet grant kinds e = by (flow_of kind packet) refl e
  where
    by : (o : Option FlowId) → flow_of kind packet ≡ o → option_map_or (grant_for grants) o None ≡ Some grant → flow_of (kind_of grant.flow) packet ≡ Some grant.flow
    by None is e = absurd (cc e)
    by (Some flow) is e =
        let same : grant.flow ≡ flow = grant_for_is grants flow grant e in
        subst (λ (f : FlowId). flow_of (kind_of f) packet ≡ Some f) (sym same) (ap (λ (k : FlowKind). flow_of k packet) (kinds flow is) ∙ is)

made_kind : (test : Bool) (flow found : FlowId) (kind : FlowKind) → kind_of flow ≡ kind → ◌≡◌ {A = Option FlowId} (if test then Some flow else None) (Some found) → kind_of found ≡ kind
made_kind true flow found kind is e = (let same : flow ≡ found = cc in ap kind_of (sym same) ∙ is)
made_kind false flow found kind is e = absurd (cc e)

flow_kind : (kind : FlowKind) (packet : List ℕ) (flow : FlowId) → flow_of kind packet ≡ Some flow → kind_of flow ≡ kind
flow_kind One packet flow e = made_kind _ _ flow One refl e
flow_kind Two packet flow e = made_kind _ _ flow Two refl e

matching_is : (grants : List Grant) (packet : List ℕ) (grant : Grant) → grant_matching grants packet ≡ Some grant → flow_of (kind_of grant.flow) packet ≡ Some grant.flow
matching_is grants packet grant e = by (grant_of_kind grants One packet) refl e
  where
    by : (o : Option Grant) → grant_of_kind grants One packet ≡ o → option_or o (grant_of_kind grants Two packet) ≡ Some grant → flow_of (kind_of grant.flow) packet ≡ Some grant.flow
    by None is e = of_kind_is grants Two packet grant (flow_kind Two packet) e
    by (Some other) is e = (let same : other ≡ grant = cc in of_kind_is grants One packet grant (flow_kind One packet) (is ∙ ap Some same))

pub grant_by_is : (c : Controller) (port : PortNo) (packet : List ℕ) (grant : Grant) → grant_by c port packet ≡ Some grant → flow_of (kind_of grant.flow) packet ≡ Some grant.flow
grant_by_is c port packet grant e = by (linked_at c port) e
  where
    by : (o : Option Linked) → option_and_then (λ (linked : Linked). grant_matching linked.port.grants packet) o ≡ Some grant → flow_of (kind_of grant.flow) packet ≡ Some grant.flow
    by None e = absurd (cc e)
    by (Some linked) e = matching_is linked.port.grants packet grant e

-- its label carries the packet behind a hop
pub carries_onward : (flow : FlowId) (packet : List ℕ) → IsFit packet → flow_of (kind_of flow) (onward packet) ≡ Some flow → Carries flow (onward packet) (labelled_payload (kind_of flow) (onward packet))
carries_onward flow packet fit is =
    let p : IsPacket packet = fit_packet packet fit in
    record {
      octets = λ i. (fit_onward packet fit).octets i;
      is_packet = IsPacket-with_ttl packet (ttl_of packet - 1) p;
      is_canonical = canonical-canonical (with_ttl packet (ttl_of packet - 1)) (long p);
      of_flow = is;
      filled = refl;
    }
  where
    long : IsPacket packet → 20 ≤ length (with_ttl packet (ttl_of packet - 1))
    long p = rw (length-set packet 8 (ttl_of packet - 1)) p.has_header
