use Rattle.std.proofs.Common.{◌≡◌, ◌≤◌, length, Some, sym, ◌∙◌, subst, arith}
use Rattle.ipv4_packet.specs.declared.flow.FlowKind.{FlowKind}
use Rattle.ipv4_packet.specs.declared.flow.FlowKind.TheVariants.{One, Two}
use Rattle.ipv4_packet.specs.Flow.{kind_of, flow_of}
use Rattle.flow_encaps.specs.Labelled.{labelled_payload}
use Rattle.flow_encaps.proofs.CarryLemmas.{length-of_connection, length-labelled_connection, length-labelled_hosts}
use Rattle.flow_encaps.proofs.labelled.wrap_flow.Goals as goal

pub wrap_connection-requires-clause-room : goal.wrap_connection-requires-clause-room
wrap_connection-requires-clause-room c =
    let kind : kind_of c.args.flow.now ≡ One = sym c.kind.ensures ∙ c.in-One.is in
    let long = length-of_connection c.args.packet.now c.args.flow.now (subst (λ (k : FlowKind). flow_of k c.args.packet.now ≡ Some c.args.flow.now) kind c.requires.flow) in
    let room : length (labelled_payload One c.args.packet.now) ≤ length c.args.out.now = subst (λ (k : FlowKind). length (labelled_payload k c.args.packet.now) ≤ length c.args.out.now) kind c.requires.room in
    omega (arith, room, length-labelled_connection c.args.packet.now long)

pub returns-in-One-clause-len : goal.returns-in-One-clause-len
returns-in-One-clause-len c =
    let kind : kind_of c.args.flow.now ≡ One = sym c.kind.ensures ∙ c.in-One.is in
    let long = length-of_connection c.args.packet.now c.args.flow.now (subst (λ (k : FlowKind). flow_of k c.args.packet.now ≡ Some c.args.flow.now) kind c.requires.flow) in
    let size : c.wrap_connection.result ≡ length (labelled_payload One c.args.packet.now) = omega (arith, c.wrap_connection.ensures.len, length-labelled_connection c.args.packet.now long) in
    subst (λ (k : FlowKind). c.wrap_connection.result ≡ length (labelled_payload k c.args.packet.now)) (sym kind) size

pub returns-in-Two-clause-len : goal.returns-in-Two-clause-len
returns-in-Two-clause-len c =
    let kind : kind_of c.args.flow.now ≡ Two = sym c.kind.ensures ∙ c.in-Two.is in
    let size : c.wrap_hosts.result ≡ length (labelled_payload Two c.args.packet.now) = omega (arith, c.wrap_hosts.ensures.len, length-labelled_hosts c.args.packet.now c.requires.packet.has_header) in
    subst (λ (k : FlowKind). c.wrap_hosts.result ≡ length (labelled_payload k c.args.packet.now)) (sym kind) size
