-- where a branch leads a cell, the cell weighs less: it has come one stage further, and on a label it has one hop less

use Rattle.std.proofs.Common.{◌≡◌, ℕ, suc, ◌≤◌, ◌<◌, ◌+◌, ◌-◌, ◌*◌, Bool, true, false, List, Option, None, Some, refl, ◌∙◌, ap, subst, arith, if◌then◌else◌}
use Rattle.std.specs.Prelude.{◌==◌, ◌&&◌, nat_le}
use Rattle.std.proofs.lemmas.Bool.Decides.{nat_tests}
use Rattle.world_model.specs.Words.{NodeId, PortNo, Down, Up, Channel, channel_on_control, number_of_channel, flow_ttl, next_hop_of, at_ttl, FlowId, Cell, Frame, payload_of, default_channel, same_channel, on_link, port_on, Topology}
use Rattle.world_model.specs.ipv4_packet.declared.flow.FlowId.TheVariants as flows
use Rattle.world_model.specs.network_model.declared.link.LinkEnd.{LinkEnd}
use Rattle.world_model.specs.Topology.{peer_of}
use Rattle.law_controller_weights.specs.claims_model.Costs.{forwarding}
use Rattle.law_controller_weights.specs.claims_model.Weights.{Bearing, ToSwitch, ToController, Plain, Labelled, Bound, bearing_on, bearing_of, hops_at, hops_of, cost_of}
use Rattle.law_quiet_rounds.proofs.law_packet_worlds.Headings.{port_is, link_is}

-- *The bearing decides* what a cell weighs, and its stage
abbrev pub bears : Bound → List Frame → Bearing → Cell → ℕ
bears bound frames bearing cell = hops_of bound bearing + (if cell.header.last then cost_of bound (payload_of frames cell.mark) bearing else 0)

-- *Channels of the control link*
pub from_home : (topology : Topology) (node : NodeId) (port : PortNo) (channel : Channel) → channel.vpi < 16 → same_channel (channel_on_control port channel) default_channel ≡ false
    → bearing_of topology (Down node) (channel_on_control port channel) ≡ bearing_on channel (peer_of topology node port)
from_home topology node port channel low other =
    ap (λ (b : Bool). if b then ToSwitch else bearing_on (on_link (channel_on_control port channel)) (peer_of topology node (port_on (channel_on_control port channel)))) other
    ∙ ap (λ (c : Channel). bearing_on c (peer_of topology node (port_on (channel_on_control port channel)))) (link_is port channel low)
    ∙ ap (λ (p : PortNo). bearing_on channel (peer_of topology node p)) (port_is port channel low)

pub to_home : (topology : Topology) (node : NodeId) (port : PortNo) (channel : Channel) → channel.vpi < 16 → 1 ≤ port.0
    → bearing_of topology (Up node) (channel_on_control port channel) ≡ bearing_on channel (Some (record { node = node; port = port }))
to_home topology node port channel low some =
    ap (λ (b : Bool). if b then ToController else bearing_on (on_link (channel_on_control port channel)) (Some (record { node = node; port = port_on (channel_on_control port channel) }))) (apart port.0 channel.vpi channel.vci some)
    ∙ ap (λ (c : Channel). bearing_on c (Some (record { node = node; port = port_on (channel_on_control port channel) }))) (link_is port channel low)
    ∙ ap (λ (p : PortNo). bearing_on channel (Some (record { node = node; port = p }))) (port_is port channel low)
  where
    apart : (p v c : ℕ) → 1 ≤ p → (16 * p + v == 0 && c == 15) ≡ false
    apart p v c some = grind (arith, nat_tests)

-- *A label's* bearing, one hop further
pub on_label : (channel : Channel) (end : Option LinkEnd) → same_channel channel default_channel ≡ false → bearing_on channel end ≡ Labelled end (number_of_channel channel)
on_label channel end other = ap (λ (b : Bool). if b then Plain else Labelled end (number_of_channel channel)) other

forwarding_more : (n : ℕ) → forwarding n ≤ forwarding (suc n)
forwarding_more n = omega arith

pub next_ttl : (flow next : FlowId) → next_hop_of flow ≡ Some next → flow_ttl next + 1 ≡ flow_ttl flow
next_ttl flow next e = by (nat_le (flow_ttl flow) 1) refl e
  where
    lowered : (flow : FlowId) (n : ℕ) → flow_ttl (at_ttl flow n) ≡ n
    lowered (flows.One tos ttl protocol source destination p q) n = refl
    lowered (flows.Two ttl source destination) n = refl

    above : (n : ℕ) → nat_le n 1 ≡ false → 2 ≤ n
    above n t = grind (arith, nat_tests)

    by : (b : Bool) → nat_le (flow_ttl flow) 1 ≡ b → (if b then None else Some (at_ttl flow (flow_ttl flow - 1))) ≡ Some next → flow_ttl next + 1 ≡ flow_ttl flow
    by true t e = absurd (cc e)
    by false t e = (let same : at_ttl flow (flow_ttl flow - 1) ≡ next = some_is e in
        omega (arith, ap flow_ttl same, lowered flow (flow_ttl flow - 1), above (flow_ttl flow) t))
      where
        some_is : {x y : FlowId} → Some x ≡ Some y → x ≡ y
        some_is {x} {y} e = cc

pub one_hop_less : (bound : Bound) (frames : List Frame) (cell on : Cell) (from to : Option LinkEnd) (number label : ℕ) → on.header.last ≡ cell.header.last → on.mark ≡ cell.mark
    → hops_at bound to label + 1 ≡ hops_at bound from number → bears bound frames (Labelled to label) on + 1 ≤ bears bound frames (Labelled from number) cell
one_hop_less bound frames cell on from to number label last mark less =
    (let more : forwarding (hops_at bound to label) ≤ forwarding (hops_at bound from number) = subst (λ n. forwarding (hops_at bound to label) ≤ forwarding n) (one (hops_at bound to label) ∙ less) (forwarding_more (hops_at bound to label)) in
    let here = ap (λ (b : Bool). if b then forwarding (hops_at bound to label) else 0) last in
    let both = by cell.header.last (forwarding (hops_at bound to label)) (forwarding (hops_at bound from number)) more in omega (arith, less, here, both))
  where
    one : (n : ℕ) → suc n ≡ n + 1
    one n = omega arith

    by : (b : Bool) (x y : ℕ) → x ≤ y → (if b then x else 0) ≤ (if b then y else 0)
    by true x y le = le
    by false x y le = omega arith
