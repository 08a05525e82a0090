-- covering field by field: all that a field of one rule takes, that of another takes

use Rattle.std.proofs.Common.{◌≡◌, ◌∙◌, ℕ, ◌<◌, ◌≤◌, ◌^◌, ◌==◌, ◌&&◌, ◌||◌, not, Bool, true, false, refl, sym, ap, arith}
use Rattle.std.specs.Cmp.Derive.{both_true}
use Rattle.std.proofs.lemmas.Bool.Decides.{nat_tests}
use Rattle.net_types.specs.declared.prefix.Addr.{Addr}
use Rattle.net_types.specs.Prefix.{Network, covers as has_address}
use Rattle.ipv4_packet.specs.Flow.{has_ports}
use Rattle.rule_model.specs.declared.rule.Protocol.{Protocol}
use Rattle.rule_model.specs.declared.rule.Protocol.TheVariants as protocols
use Rattle.rule_model.specs.declared.rule.Ports.{Ports}
use Rattle.rule_model.specs.declared.rule.Rule.{Rule}
use Rattle.rule_model.specs.Matching.{has_protocol, has_port, has_ends}
use Rattle.rule_model.specs.Covering.{lowest, highest, IsPrefix, IsRule, covers_network, covers_ports, covers_protocol, covers_ends, has_connections, least_port, greatest_port}
use Rattle.flow_policy.proofs.Ends.{address_between, has_between, port_between, has_port_between}

pub left : (a b : Bool) → (a && b) ≡ true → a ≡ true
left true b e = refl
left false b e = absurd (cc)

pub right : (a b : Bool) → (a && b) ≡ true → b ≡ true
right true b e = e
right false b e = absurd (cc)

pub network_taken : (one other : Network) (addr : Addr) → IsPrefix other → covers_network one other ≡ true → has_address other addr ≡ true → has_address one addr ≡ true
network_taken one other addr is covers there =
    let between = address_between other addr is there in
    has_between one (lowest other) addr (highest other) between.0 between.1
    (left (has_address one (lowest other)) (has_address one (highest other)) covers)
    (right (has_address one (lowest other)) (has_address one (highest other)) covers)

pub ends_taken : (one other : Rule) (source destination : Addr) → IsRule other → covers_ends one other ≡ true → has_ends other source destination ≡ true → has_ends one source destination ≡ true
ends_taken one other source destination is covers there =
    both_true
    (network_taken one.source other.source source is.source
    (left (covers_network one.source other.source) (covers_network one.destination other.destination) covers)
    (left (has_address other.source source) (has_address other.destination destination) there))
    (network_taken one.destination other.destination destination is.destination
    (right (covers_network one.source other.source) (covers_network one.destination other.destination) covers)
    (right (has_address other.source source) (has_address other.destination destination) there))

pub ports_taken : (one other : Ports) (port : ℕ) → port < 2 ^ 16 → covers_ports one other ≡ true → has_port other port ≡ true → has_port one port ≡ true
ports_taken one other port few covers there =
    let between = port_between other port few there in
    has_port_between one (least_port other) port (greatest_port other) between.0 between.1
    (left (has_port one (least_port other)) (has_port one (greatest_port other)) covers)
    (right (has_port one (least_port other)) (has_port one (greatest_port other)) covers)

is_number : (a b : ℕ) → a == b ≡ true → a ≡ b
is_number a b e = grind (arith, nat_tests)

-- TCP or UDP
one_of_two : (a b : Bool) (P : Type 0) → (a || b) ≡ true → (a ≡ true → P) → (b ≡ true → P) → P
one_of_two true b P e first second = first refl
one_of_two false b P e first second = second e

pub protocol_taken : (one other : Protocol) (protocol : ℕ) → covers_protocol one other ≡ true → has_protocol other protocol ≡ true → has_protocol one protocol ≡ true
protocol_taken one protocols.Udp protocol covers there = ap (has_protocol one) (is_number protocol 17 there) ∙ covers
protocol_taken one protocols.Tcp protocol covers there = ap (has_protocol one) (is_number protocol 6 there) ∙ covers
protocol_taken one protocols.Two protocol covers there = absurd (cc)
protocol_taken one protocols.Any protocol covers there =
    one_of_two (protocol == 6) (protocol == 17) (has_protocol one protocol ≡ true) there
    (λ tcp. ap (has_protocol one) (is_number protocol 6 tcp) ∙ right (has_protocol one 17) (has_protocol one 6) covers)
    (λ udp. ap (has_protocol one) (is_number protocol 17 udp) ∙ left (has_protocol one 17) (has_protocol one 6) covers)

-- a protocol that is taken is one of flows of type 1
pub is_connection : (taken : Protocol) (protocol : ℕ) → has_protocol taken protocol ≡ true → has_connections taken ≡ true
is_connection protocols.Udp protocol there = refl
is_connection protocols.Tcp protocol there = refl
is_connection protocols.Two protocol there = absurd (cc)
is_connection protocols.Any protocol there = refl
