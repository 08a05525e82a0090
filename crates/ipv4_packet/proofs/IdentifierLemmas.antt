-- identifiers both ways

use Rattle.std.proofs.Common.{◌≡◌, ℕ, ◌<◌, IsTrue, List, [], ◌∷◌, ◌++◌, length, get_or, None, Result, Ok, Err, refl, ap, sym, ◌∙◌, subst, arith}
use Rattle.std.specs.Prelude.{◌↔◌, IfOk}
use Rattle.std.specs.Result.{result_err}
use Rattle.std.specs.Int.{w16, w32, to_be_bytes}
use Rattle.std.proofs.lemmas.Nat.{from_be_bytes-to_be_bytes_2, from_be_bytes-to_be_bytes_4}
use Rattle.std.proofs.lemmas.Bool.Decides.{nat_tests}
use Rattle.octet_fields.specs.Fields.{u16_at, u32_at}
use Rattle.octet_fields.proofs.FieldLemmas.{AreOctets, octet-then, u16-then, u32-then, nothing-then, u16_at-fits, u32_at-fits}
use Rattle.ipv4_packet.specs.declared.flow.FlowKind.{FlowKind}
use Rattle.ipv4_packet.specs.declared.flow.FlowKind.TheVariants.{One as ConnectionKind, Two as HostsKind}
use Rattle.ipv4_packet.specs.declared.flow.FlowId.{FlowId}
use Rattle.ipv4_packet.specs.declared.flow.FlowId.TheVariants.{One, Two}
use Rattle.ipv4_packet.specs.declared.identifier.FlowFault.{FlowFault}
use Rattle.ipv4_packet.specs.Flow.{kind_of, has_ports, IsFlow}
use Rattle.ipv4_packet.specs.Identifier.{identifier, FitsFields, Identifies, first_fault}

-- the flow whose fields stand in these octets
abbrev pub flow_at : FlowKind → List ℕ → FlowId
flow_at ConnectionKind octets = One (get_or octets 1 0) (get_or octets 2 0) (get_or octets 3 0) (record { 0 = u32_at octets 4 }) (record { 0 = u32_at octets 8 }) (u16_at octets 12) (u16_at octets 14)
flow_at HostsKind octets = Two (get_or octets 2 0) (record { 0 = u32_at octets 4 }) (record { 0 = u32_at octets 8 })

pub flow_at-identifier : (flow : FlowId) → FitsFields flow → flow_at (kind_of flow) (identifier flow) ≡ flow
flow_at-identifier (One tos ttl protocol source destination source_port destination_port) fits =
    let a = from_be_bytes-to_be_bytes_4 source.0 fits.3 in
    let b = from_be_bytes-to_be_bytes_4 destination.0 fits.4 in
    let c = from_be_bytes-to_be_bytes_2 source_port fits.5 in
    let d = from_be_bytes-to_be_bytes_2 destination_port fits.6 in
    λ i. One tos ttl protocol (record { 0 = a i }) (record { 0 = b i }) (c i) (d i)
flow_at-identifier (Two ttl source destination) fits =
    let a = from_be_bytes-to_be_bytes_4 source.0 fits.1 in
    let b = from_be_bytes-to_be_bytes_4 destination.0 fits.2 in
    λ i. Two ttl (record { 0 = a i }) (record { 0 = b i })

-- two flows of one kind with the same identifier are the same
pub identifier-injective : (kind : FlowKind) (octets : List ℕ) (first second : FlowId) → Identifies kind octets first → Identifies kind octets second → first ≡ second
identifier-injective kind octets first second one other =
    sym (flow_at-identifier first one.fits)
    ∙ ap (λ (k : FlowKind). flow_at k (identifier first)) (one.of_kind ∙ sym other.of_kind)
    ∙ ap (λ (o : List ℕ). flow_at (kind_of second) o) (sym one.spelled ∙ other.spelled)
    ∙ flow_at-identifier second other.fits

pub identifies_connection : (octets : List ℕ) → AreOctets octets → length octets ≡ 16 → get_or octets 0 0 ≡ 69 → 0 < get_or octets 2 0 → IsTrue (has_ports (get_or octets 3 0)) → Identifies ConnectionKind octets (flow_at ConnectionKind octets)
identifies_connection octets small size first alive ports = record {
  of_kind = refl;
  spelled =
      octet-then octets 0 _ (omega arith) (octet-then octets 1 _ (omega arith) (octet-then octets 2 _ (omega arith) (octet-then octets 3 _ (omega arith)
      (u32-then octets 4 _ small (omega arith) (u32-then octets 8 _ small (omega arith)
      (u16-then octets 12 _ small (omega arith) (u16-then octets 14 [] small (omega arith) (nothing-then octets 16 size))))))))
      ∙ ap (λ (octet : ℕ). octet ∷ get_or octets 1 0 ∷ get_or octets 2 0 ∷ get_or octets 3 0 ∷ (to_be_bytes w32 (u32_at octets 4) ++ (to_be_bytes w32 (u32_at octets 8) ++ (to_be_bytes w16 (u16_at octets 12) ++ to_be_bytes w16 (u16_at octets 14))))) first;
  in_range = (alive, ports);
  fits = (small 1, small 2, small 3, u32_at-fits octets 4 small, u32_at-fits octets 8 small, u16_at-fits octets 12 small, u16_at-fits octets 14 small);
}

pub identifies_hosts : (octets : List ℕ) → AreOctets octets → length octets ≡ 12 → get_or octets 1 0 ≡ 0 → get_or octets 3 0 ≡ 0 → get_or octets 0 0 ≡ 69 → 0 < get_or octets 2 0 → Identifies HostsKind octets (flow_at HostsKind octets)
identifies_hosts octets small size second fourth first alive = record {
  of_kind = refl;
  spelled =
      octet-then octets 0 _ (omega arith) (octet-then octets 1 _ (omega arith) (octet-then octets 2 _ (omega arith) (octet-then octets 3 _ (omega arith)
      (u32-then octets 4 _ small (omega arith) (u32-then octets 8 [] small (omega arith) (nothing-then octets 12 size))))))
      ∙ ap (λ (octet : ℕ). octet ∷ get_or octets 1 0 ∷ get_or octets 2 0 ∷ get_or octets 3 0 ∷ (to_be_bytes w32 (u32_at octets 4) ++ to_be_bytes w32 (u32_at octets 8))) first
      ∙ ap (λ (octet : ℕ). 69 ∷ octet ∷ get_or octets 2 0 ∷ get_or octets 3 0 ∷ (to_be_bytes w32 (u32_at octets 4) ++ to_be_bytes w32 (u32_at octets 8))) second
      ∙ ap (λ (octet : ℕ). 69 ∷ 0 ∷ get_or octets 2 0 ∷ octet ∷ (to_be_bytes w32 (u32_at octets 4) ++ to_be_bytes w32 (u32_at octets 8))) fourth;
  in_range = alive;
  fits = (small 2, u32_at-fits octets 4 small, u32_at-fits octets 8 small);
}

-- the identifier of a flow passes each test
pub first_fault-identifier : (flow : FlowId) → IsFlow flow → first_fault (kind_of flow) (identifier flow) ≡ None
first_fault-identifier (One tos ttl protocol source destination source_port destination_port) alive = grind (arith, nat_tests)
first_fault-identifier (Two ttl source destination) alive = grind (arith, nat_tests)

-- a reader that finds a flow or tells the first fault, finds each flow that the octets identify
pub found_or_fault : (kind : FlowKind) (octets : List ℕ) (answer : Result FlowId FlowFault) → IfOk answer (λ flow. Identifies kind octets flow) → result_err answer ≡ first_fault kind octets → (flow : FlowId) → (answer ≡ Ok flow) ↔ Identifies kind octets flow
found_or_fault kind octets (Ok found) known fault flow = (
  (λ (same : ◌≡◌ {A = Result FlowId FlowFault} (Ok found) (Ok flow)). let inside : found ≡ flow = cc in subst (λ (f : FlowId). Identifies kind octets f) inside known),
  (λ (is : Identifies kind octets flow). let answered : FlowId → Result FlowId FlowFault = λ f. Ok f in ap answered (identifier-injective kind octets found flow known is)),
)
found_or_fault kind octets (Err refused) known fault flow = (
  (λ (same : ◌≡◌ {A = Result FlowId FlowFault} (Err refused) (Ok flow)). let never : ⊥ = cc in absurd never),
  (λ (is : Identifies kind octets flow).
      let passes = subst (λ (k : FlowKind). first_fault k (identifier flow) ≡ None) is.of_kind (first_fault-identifier flow is.in_range) in
      let accepted : first_fault kind octets ≡ None = rw is.spelled passes in
      let never : ⊥ = cc (fault ∙ accepted) in absurd never),
)
