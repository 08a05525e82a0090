-- a flow is read from its identifier

use Rattle.std.proofs.Common.{◌≡◌, ℕ, List, Option, None, Some, refl, ap, sym, ◌∙◌, subst}
use Rattle.ipv4_packet.specs.declared.flow.FlowId.{FlowId}
use Rattle.ipv4_packet.specs.declared.flow.FlowId.TheVariants.{One, Two}
use Rattle.ipv4_packet.specs.declared.flow.FlowKind.{FlowKind}
use Rattle.ipv4_packet.specs.declared.identifier.FlowFault.{FlowFault}
use Rattle.ipv4_packet.specs.Flow.{kind_of}
use Rattle.ipv4_packet.specs.Identifier.{identifier, FitsFields, Identifies, first_fault}
use Rattle.ipv4_packet.proofs.IdentifierLemmas.{flow_at-identifier}
use Rattle.record_text.specs.Forms.{flow_at, flow_by}

at_identifier : (flow : FlowId) → FitsFields flow → flow_at (kind_of flow) (identifier flow) ≡ flow
at_identifier (One tos ttl protocol source destination source_port destination_port) fits =
    flow_at-identifier (One tos ttl protocol source destination source_port destination_port) fits
at_identifier (Two ttl source destination) fits = flow_at-identifier (Two ttl source destination) fits

pub flow_found : (kind : FlowKind) (octets : List ℕ) (flow : FlowId) → Identifies kind octets flow
    → None ≡ first_fault kind octets → Some flow ≡ flow_by kind octets (first_fault kind octets)
flow_found kind octets flow is none =
    let here : flow_at kind octets ≡ flow =
    ap (flow_at kind) is.spelled ∙ ap (λ (k : FlowKind). flow_at k (identifier flow)) (sym is.of_kind) ∙ at_identifier flow is.fits in
    let answer : Option FlowFault → Type 0 = λ fault. Some flow ≡ flow_by kind octets fault in
    subst answer none (ap Some (sym here))

pub flow_refused : (kind : FlowKind) (octets : List ℕ) (fault : FlowFault) → Some fault ≡ first_fault kind octets
    → None ≡ flow_by kind octets (first_fault kind octets)
flow_refused kind octets fault told =
    let answer : Option FlowFault → Type 0 = λ first. None ≡ flow_by kind octets first in
    subst answer told refl
