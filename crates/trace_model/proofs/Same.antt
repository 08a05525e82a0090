-- what tests of sameness decide

use Rattle.std.proofs.Common.{◌≡◌, true, ◌&&◌, eqb, eqb-true, eq-eqb, refl, subst}
use Rattle.std.proofs.lemmas.Bool.{and_parts, and_from}
use Rattle.std.proofs.lemmas.Slice.Eq.{bytes_eq-Decides}
use Rattle.std.specs.Bool.{Decides}
use Rattle.net_types.specs.declared.channel.Channel.{Channel}
use Rattle.net_types.specs.declared.prefix.Addr.{Addr}
use Rattle.ipv4_packet.specs.declared.flow.FlowId.{FlowId}
use Rattle.ipv4_packet.specs.declared.flow.FlowId.TheVariants.{One, Two}
use Rattle.ipv4_packet.specs.Parts.{same_flow}
use Rattle.trace_model.specs.declared.end.NodeName.{NodeName}
use Rattle.trace_model.specs.declared.end.TraceEnd.{TraceEnd}
use Rattle.trace_model.specs.declared.end.TraceLabel.{TraceLabel}
use Rattle.trace_model.specs.Ends.{same_node, same_end, same_channel, same_label}

pub same_node-is : (a b : NodeName) → a ≡ b → same_node a b ≡ true
same_node-is a b e = (bytes_eq-Decides a.0 b.0).1 (λ i. (e i).0)

pub same_channel-is : (a b : Channel) → a ≡ b → same_channel a b ≡ true
same_channel-is a b e =
    subst (λ (c : Channel). same_channel a c ≡ true) e
    (and_from (eqb a.vpi a.vpi) (eqb a.vci a.vci) (eq-eqb a.vpi a.vpi refl) (eq-eqb a.vci a.vci refl))

pub same_end-is : (a b : TraceEnd) → a ≡ b → same_end a b ≡ true
same_end-is a b e =
    subst (λ (c : TraceEnd). same_end a c ≡ true) e
    (and_from (same_node a.node a.node) (eqb a.port.0 a.port.0) (same_node-is a.node a.node refl) (eq-eqb a.port.0 a.port.0 refl))

is_node : (a b : NodeName) → same_node a b ≡ true → a ≡ b
is_node a b t = let e = (bytes_eq-Decides a.0 b.0).0 t in λ i. record { 0 = e i }

pub is_end : (a b : TraceEnd) → same_end a b ≡ true → a ≡ b
is_end a b t =
    let parts = and_parts (same_node a.node b.node) (eqb a.port.0 b.port.0) t in
    let node = is_node a.node b.node parts.0 in
    let port = eqb-true a.port.0 b.port.0 parts.1 in
    λ i. record { node = node i; port = record { 0 = port i } }

is_channel : (a b : Channel) → same_channel a b ≡ true → a ≡ b
is_channel a b t =
    let parts = and_parts (eqb a.vpi b.vpi) (eqb a.vci b.vci) t in
    let vpi = eqb-true a.vpi b.vpi parts.0 in
    let vci = eqb-true a.vci b.vci parts.1 in
    λ i. record { vpi = vpi i; vci = vci i }

pub is_label : (a b : TraceLabel) → same_label a b ≡ true → a ≡ b
is_label a b t =
    let parts = and_parts (same_end a.end b.end) (same_channel a.channel b.channel) t in
    let end = is_end a.end b.end parts.0 in
    let channel = is_channel a.channel b.channel parts.1 in
    λ i. record { end = end i; channel = channel i }

address : (a b : Addr) → eqb a.0 b.0 ≡ true → a ≡ b
address a b t = let e = eqb-true a.0 b.0 t in λ i. record { 0 = e i }

pub is_flow : (a b : FlowId) → same_flow a b ≡ true → a ≡ b
is_flow (One tos ttl protocol source destination from to) (One tos2 ttl2 protocol2 source2 destination2 from2 to2) t =
    let parts = and_parts (eqb tos tos2 && (eqb ttl ttl2 && eqb protocol protocol2)) ((eqb source.0 source2.0 && eqb destination.0 destination2.0) && (eqb from from2 && eqb to to2)) t in
    let head = and_parts (eqb tos tos2) (eqb ttl ttl2 && eqb protocol protocol2) parts.0 in
    let hops = and_parts (eqb ttl ttl2) (eqb protocol protocol2) head.1 in
    let tail = and_parts (eqb source.0 source2.0 && eqb destination.0 destination2.0) (eqb from from2 && eqb to to2) parts.1 in
    let hosts = and_parts (eqb source.0 source2.0) (eqb destination.0 destination2.0) tail.0 in
    let ports = and_parts (eqb from from2) (eqb to to2) tail.1 in
    let e1 = eqb-true tos tos2 head.0 in
    let e2 = eqb-true ttl ttl2 hops.0 in
    let e3 = eqb-true protocol protocol2 hops.1 in
    let e4 = address source source2 hosts.0 in
    let e5 = address destination destination2 hosts.1 in
    let e6 = eqb-true from from2 ports.0 in
    let e7 = eqb-true to to2 ports.1 in
    λ i. One (e1 i) (e2 i) (e3 i) (e4 i) (e5 i) (e6 i) (e7 i)
is_flow (Two ttl source destination) (Two ttl2 source2 destination2) t =
    let parts = and_parts (eqb ttl ttl2) (eqb source.0 source2.0 && eqb destination.0 destination2.0) t in
    let hosts = and_parts (eqb source.0 source2.0) (eqb destination.0 destination2.0) parts.1 in
    let e1 = eqb-true ttl ttl2 parts.0 in
    let e2 = address source source2 hosts.0 in
    let e3 = address destination destination2 hosts.1 in
    λ i. Two (e1 i) (e2 i) (e3 i)
is_flow (One tos ttl protocol source destination from to) (Two ttl2 source2 destination2) t = absurd (cc t)
is_flow (Two ttl source destination) (One tos2 ttl2 protocol2 source2 destination2 from2 to2) t = absurd (cc t)
