-- a REDIRECT that octets tell has a lifetime

use Rattle.std.proofs.Common.{◌≡◌, ℕ, ◌≤◌, ◌<◌, Bool, true, false, List, Option, None, Some, refl, subst, arith, if◌then◌else◌}
use Rattle.std.specs.Prelude.{nat_le, nat_lt, not, drop, slice_index, ◌&&◌, ◌==◌, Ok}
use Rattle.std.specs.Option.{option_or}
use Rattle.std.proofs.lemmas.Bool.Decides.{nat_tests}
use Rattle.law_port_facts.specs.octet_fields.Fields.{u16_at}
use Rattle.claims_model.specs.world_model.ifmp_wire.declared.message.Message.{Message}
use Rattle.claims_model.specs.world_model.ifmp_wire.declared.reader.Fault.{Fault}
use Rattle.claims_model.specs.world_model.Words.{ZeroLifetime, FlowFields, op_at, head_fault, kind_fault, kind_at, lifetime_fault, identifier_fault, flow_fault, body_fault, flow_in, flow_at, FlowKind, IsFlow, has_ports, has_fields}
use Rattle.claims_model.specs.world_model.ifmp_wire.declared.reader.Fault.TheVariants.{Reserved}
use Rattle.claims_model.specs.world_model.ifmp_wire.Tests.{first_fault}
use Rattle.claims_model.specs.world_model.ifmp_wire.Fields.{decoded, decoded_by, message_at}
use Rattle.claims_model.specs.world_model.ipv4_packet.declared.flow.FlowKind.TheVariants.{One as ConnectionKind, Two as HostsKind}
use Rattle.claims_model.specs.world_model.ipv4_packet.Identifier.{has_zeros}
use Rattle.law_port_facts.specs.Port.{Lives}
use Rattle.law_port_facts.proofs.Keyed.{on_both, on_each}
use Rattle.law_port_facts.proofs.Rules.{and_second, and_first}

behind : (a b : Option Fault) → option_or a b ≡ None → b ≡ None
behind None b e = e
behind (Some fault) b e = absurd (cc e)

first : (a b : Option Fault) → option_or a b ≡ None → a ≡ None
first None b e = refl
first (Some fault) b e = absurd (cc e)

second_of : (a b : Bool) (x y z : Option Fault) → a ≡ false → b ≡ true → (if a then z else (if b then x else y)) ≡ None → x ≡ None
second_of false true x y z p q e = e
second_of true b x y z p q e = absurd (cc p)
second_of false false x y z p q e = absurd (cc q)

not_both : (a b : Bool) (rest : Option Fault) → a ≡ true → (if a && b then Some ZeroLifetime else rest) ≡ None → b ≡ false
not_both true true rest p e = absurd (cc e)
not_both true false rest p e = refl
not_both false b rest p e = absurd (cc p)

four_is_below : (op : ℕ) → (op == 4) ≡ true → nat_le op 6 ≡ true
four_is_below op e = grind (arith, nat_tests)

above_zero : (n : ℕ) → (n == 0) ≡ false → 1 ≤ n
above_zero n e = grind (arith, nat_tests)

five_is_below : (op : ℕ) → (op == 5) ≡ true → nat_le op 6 ≡ true
five_is_below op e = grind (arith, nat_tests)

has_fields_of : (kind : FlowKind) (octets : List ℕ) → identifier_fault kind octets ≡ None → has_fields kind octets ≡ true
has_fields_of kind octets e = by_tests (has_zeros kind octets) (has_fields kind octets) e
  where
    by_tests : (zeros fields : Bool) → (if not zeros then Some Reserved else (if not fields then Some FlowFields else None)) ≡ None → fields ≡ true
    by_tests true true e = refl
    by_tests true false e = absurd (cc e)
    by_tests false fields e = absurd (cc e)

less : (n : ℕ) → nat_lt 0 n ≡ true → 0 < n
less n e = grind (arith, nat_tests)

-- the flow that octets tell is one that packets can have
alive_in : (kind : FlowKind) (octets : List ℕ) → has_fields kind octets ≡ true → IsFlow (flow_in kind octets)
alive_in ConnectionKind octets e =
    let rest = and_second (slice_index octets 0 == 69) (nat_lt 0 (slice_index octets 2) && has_ports (slice_index octets 3)) e in
    (less (slice_index octets 2) (and_first (nat_lt 0 (slice_index octets 2)) (has_ports (slice_index octets 3)) rest), and_second (nat_lt 0 (slice_index octets 2)) (has_ports (slice_index octets 3)) rest)
alive_in HostsKind octets e = less (slice_index octets 2) (and_second (slice_index octets 0 == 69) (nat_lt 0 (slice_index octets 2)) e)

alive_at : (octets : List ℕ) → flow_fault octets ≡ None → IsFlow (flow_at octets)
alive_at octets none = alive_in (kind_at octets) (drop 24 octets) (has_fields_of (kind_at octets) (drop 24 octets) (behind (lifetime_fault octets) (identifier_fault (kind_at octets) (drop 24 octets)) (behind (kind_fault octets) _ none)))

lives_at : (octets : List ℕ) → first_fault octets ≡ None → Lives (message_at octets)
lives_at octets none = on_each Lives (nat_le (op_at octets) 3) _ _ (λ t. tt)
    (λ above. on_each Lives (op_at octets == 4) _ _
    (λ four. (let flow : flow_fault octets ≡ None = second_of (nat_le (op_at octets) 3) (nat_le (op_at octets) 6) (flow_fault octets) _ None above (four_is_below (op_at octets) four) (behind (head_fault octets) (body_fault octets) none) in
    let lifetime : lifetime_fault octets ≡ None = first (lifetime_fault octets) _ (behind (kind_fault octets) _ flow) in
    (above_zero (u16_at octets 18) (not_both (op_at octets == 4) (u16_at octets 18 == 0) _ four lifetime), tt, alive_at octets flow)))
    (λ t. on_each Lives (op_at octets == 5) _ _ (λ five. (tt, alive_at octets (second_of (nat_le (op_at octets) 3) (nat_le (op_at octets) 6) (flow_fault octets) _ None above (five_is_below (op_at octets) five) (behind (head_fault octets) (body_fault octets) none))))
    (λ other. on_both Lives (op_at octets == 6) _ _ tt (on_both Lives (op_at octets == 7) _ _ tt tt))))

pub decoded_lives : (octets : List ℕ) (message : Message) → decoded octets ≡ Ok message → Lives message
unfolding decoded
decoded_lives octets message e = by_fault (first_fault octets) refl e
  where
    by_fault : (o : Option Fault) → first_fault octets ≡ o → decoded_by o octets ≡ Ok message → Lives message
    by_fault (Some fault) is e = absurd (cc e)
    by_fault None is e = (let same : message_at octets ≡ message = cc in subst Lives same (lives_at octets is))
