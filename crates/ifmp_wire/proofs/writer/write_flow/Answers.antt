use Rattle.std.proofs.Common.{◌≡◌, ◌∷◌, ◌++◌, drop, refl, ap, ◌∙◌}
use Rattle.std.specs.Int.{w16, to_be_bytes}
use Rattle.ipv4_packet.specs.declared.flow.FlowKind.{FlowKind}
use Rattle.ipv4_packet.specs.Flow.{kind_of}
use Rattle.ipv4_packet.specs.Identifier.{identifier}
use Rattle.octet_fields.specs.Fields.{written}
use Rattle.ifmp_wire.specs.Message.{label_octets, flow_type, flow_words}
use Rattle.ifmp_wire.proofs.WriteLemmas.{written-behind}
use Rattle.ifmp_wire.proofs.writer.write_flow.Goals as goal

pub returns-clause-written : goal.returns-clause-written
returns-clause-written c =
    let head = to_be_bytes w16 c.args.lifetime ++ label_octets c.args.label in
    let kind = kind_of c.args.flow.now in
    let front = flow_type kind ∷ flow_words kind ∷ head in
    let whole : c.write_label.new.out ≡ front ++ drop 8 c.args.out.now =
    c.write_label.ensures ∙ ap (λ (k : FlowKind). written c.args.out.now 0 (flow_type k ∷ flow_words k ∷ head)) c.kind.ensures in
    written-behind 8 front c.args.out.now c.write_label.new.out c.write_identifier.new.out (identifier c.args.flow.now) c.write_identifier.result
    refl c.write_identifier.ensures.len whole c.write_identifier.ensures.written
