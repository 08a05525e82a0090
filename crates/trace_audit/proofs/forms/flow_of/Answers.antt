use Rattle.std.proofs.Common.{◌∙◌, ap, refl}
use Rattle.ipv4_packet.specs.declared.flow.FlowKind.{FlowKind}
use Rattle.trace_model.specs.Forms.{flow_by}
use Rattle.trace_audit.proofs.Identified.{identified}
use Rattle.trace_audit.proofs.forms.flow_of.Goals as goal

pub returns-in-Ok-clause-flow : goal.returns-in-Ok-clause-flow
returns-in-Ok-clause-flow c =
    let octets = c.args.octets.now in
    identified c.kind_of_size.result octets c.in-Ok.flow ((c.in-Ok.ensures.ok c.in-Ok.flow).0 refl) c.in-Ok.ensures.fault
    ∙ ap (λ (kind : FlowKind). flow_by kind octets) c.kind_of_size.ensures
