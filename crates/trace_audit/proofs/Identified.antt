-- the flow that octets identify is that of their fields

use Rattle.std.proofs.Common.{◌≡◌, List, ℕ, Option, None, Ok, refl, sym, ap, ◌∙◌}
use Rattle.ipv4_packet.specs.declared.flow.FlowKind.{FlowKind}
use Rattle.ipv4_packet.specs.declared.flow.FlowKind.TheVariants.{One, Two}
use Rattle.ipv4_packet.specs.declared.flow.FlowId.{FlowId}
use Rattle.ipv4_packet.specs.declared.identifier.FlowFault.{FlowFault}
use Rattle.ipv4_packet.specs.Identifier.{identifier, Identifies, first_fault}
use Rattle.ipv4_packet.proofs.IdentifierLemmas.{flow_at, flow_at-identifier}
use Rattle.trace_model.specs.Forms.{flow_in, flow_by, flow_unless}

same_fields : (kind : FlowKind) (octets : List ℕ) → flow_at kind octets ≡ flow_in kind octets
same_fields One octets = refl
same_fields Two octets = refl

pub identified : (kind : FlowKind) (octets : List ℕ) (flow : FlowId) → Identifies kind octets flow → None ≡ first_fault kind octets → Ok flow ≡ flow_by kind octets
identified kind octets flow is none =
    let flow_is : flow ≡ flow_in kind octets =
    sym (flow_at-identifier flow is.fits) ∙ ap (λ (k : FlowKind). flow_at k (identifier flow)) is.of_kind ∙ ap (flow_at kind) (sym is.spelled) ∙ same_fields kind octets in
    ap (λ (f : FlowId). flow_unless None f) flow_is ∙ ap (λ (fault : Option FlowFault). flow_unless fault (flow_in kind octets)) none
