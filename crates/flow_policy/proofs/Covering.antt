-- one rule covers another, told field by field, exactly where it matches each flow that the other matches

use Rattle.std.proofs.Common.{◌≡◌, ◌∙◌, ◌↔◌, ℕ, zero, suc, ◌+◌, ◌<◌, ◌≤◌, ◌^◌, ◌&&◌, ◌||◌, not, Bool, true, false, List, [], ◌∷◌, length, take, slice_get, Option, None, Some, IfSome, IfNone, refl, sym, ap, subst, arith}
use Rattle.std.specs.Cmp.Derive.{both_true}
use Rattle.net_types.specs.declared.prefix.Addr.{Addr}
use Rattle.net_types.specs.Prefix.{covers as has_address_of}
use Rattle.ipv4_packet.specs.declared.flow.FlowId.{FlowId}
use Rattle.ipv4_packet.specs.declared.flow.FlowId.TheVariants.{One, Two}
use Rattle.ipv4_packet.specs.Identifier.{FitsFields}
use Rattle.rule_model.specs.declared.rule.Protocol.{Protocol}
use Rattle.rule_model.specs.declared.rule.Protocol.TheVariants as protocols
use Rattle.rule_model.specs.declared.rule.Rule.{Rule}
use Rattle.rule_model.specs.Matching.{has_protocol, has_port, has_ends, takes_hosts, matches}
use Rattle.rule_model.specs.Covering.{Covers, IsRule, lowest, highest, covers, covers_network, covers_ends, covers_protocol, covers_ports, covers_connections, covers_hosts, has_connections, least_port, greatest_port}
use Rattle.flow_policy.proofs.Ends.{has_lowest, has_highest, highest_fits, has_least, has_greatest, port_fits}
use Rattle.flow_policy.proofs.Fields.{left, right, ends_taken, ports_taken, protocol_taken, is_connection}

-- a premise that holds leaves what stands behind it
behind : (a b : Bool) → a ≡ true → (not a || b) ≡ true → b ≡ true
behind true b is e = e
behind false b is e = absurd (cc)

unless : (a b : Bool) → (a ≡ true → b ≡ true) → (not a || b) ≡ true
unless true b h = h refl
unless false b h = refl

-- *What covers a rule matches all its flows*
pub covers_all : (one other : Rule) → IsRule other → covers one other ≡ true → Covers one other
covers_all one other is covering (One tos ttl protocol source destination source_port destination_port) fits there =
    let e = has_ends other source destination in
    let p = has_protocol other.protocol protocol in
    let s = has_port other.source_ports source_port in
    let d = has_port other.destination_ports destination_port in
    let rest : (p && (s && d)) ≡ true = right e (p && (s && d)) there in
    let ports : (s && d) ≡ true = right p (s && d) rest in
    let protocol_is : p ≡ true = left p (s && d) rest in
    let all = behind (has_connections other.protocol)
    (covers_ends one other && (covers_protocol one.protocol other.protocol && (covers_ports one.source_ports other.source_ports && covers_ports one.destination_ports other.destination_ports)))
    (is_connection other.protocol protocol protocol_is) (left (covers_connections one other) (covers_hosts one other) covering) in
    let fields = right (covers_ends one other) (covers_protocol one.protocol other.protocol && (covers_ports one.source_ports other.source_ports && covers_ports one.destination_ports other.destination_ports)) all in
    let both = right (covers_protocol one.protocol other.protocol) (covers_ports one.source_ports other.source_ports && covers_ports one.destination_ports other.destination_ports) fields in
    both_true
    (ends_taken one other source destination is
    (left (covers_ends one other) (covers_protocol one.protocol other.protocol && (covers_ports one.source_ports other.source_ports && covers_ports one.destination_ports other.destination_ports)) all)
    (left e (p && (s && d)) there))
    (both_true
    (protocol_taken one.protocol other.protocol protocol
    (left (covers_protocol one.protocol other.protocol) (covers_ports one.source_ports other.source_ports && covers_ports one.destination_ports other.destination_ports) fields) protocol_is)
    (both_true
    (ports_taken one.source_ports other.source_ports source_port fits.5
    (left (covers_ports one.source_ports other.source_ports) (covers_ports one.destination_ports other.destination_ports) both) (left s d ports))
    (ports_taken one.destination_ports other.destination_ports destination_port fits.6
    (right (covers_ports one.source_ports other.source_ports) (covers_ports one.destination_ports other.destination_ports) both) (right s d ports))))
covers_all one other is covering (Two ttl source destination) fits there =
    let all = behind (takes_hosts other) (covers_ends one other && takes_hosts one) (right (has_ends other source destination) (takes_hosts other) there)
    (right (covers_connections one other) (covers_hosts one other) covering) in
    both_true
    (ends_taken one other source destination is (left (covers_ends one other) (takes_hosts one) all) (left (has_ends other source destination) (takes_hosts other) there))
    (right (covers_ends one other) (takes_hosts one) all)

-- *What matches all flows of a rule covers it*: these are its flows with the lowest, and with the highest, of each field
abbrev low_flow : Rule → (protocol : ℕ) → FlowId
low_flow rule protocol =
    One 0 0 protocol (lowest rule.source) (lowest rule.destination) (least_port rule.source_ports) (least_port rule.destination_ports)

abbrev high_flow : Rule → (protocol : ℕ) → FlowId
high_flow rule protocol =
    One 0 0 protocol (highest rule.source) (highest rule.destination) (greatest_port rule.source_ports) (greatest_port rule.destination_ports)

low_fits : (rule : Rule) (protocol : ℕ) → IsRule rule → protocol < 2 ^ 8 → FitsFields (low_flow rule protocol)
low_fits rule protocol is few =
    (omega arith, omega arith, few, is.source.fits, is.destination.fits, (port_fits rule.source_ports is.source_ports).0, (port_fits rule.destination_ports is.destination_ports).0)

high_fits : (rule : Rule) (protocol : ℕ) → IsRule rule → protocol < 2 ^ 8 → FitsFields (high_flow rule protocol)
high_fits rule protocol is few =
    (omega arith, omega arith, few, highest_fits rule.source is.source, highest_fits rule.destination is.destination, (port_fits rule.source_ports is.source_ports).1, (port_fits rule.destination_ports is.destination_ports).1)

low_matched : (rule : Rule) (protocol : ℕ) → IsRule rule → has_protocol rule.protocol protocol ≡ true → matches rule (low_flow rule protocol) ≡ true
low_matched rule protocol is there =
    both_true (both_true (has_lowest rule.source) (has_lowest rule.destination))
    (both_true there (both_true (has_least rule.source_ports is.source_ports) (has_least rule.destination_ports is.destination_ports)))

high_matched : (rule : Rule) (protocol : ℕ) → IsRule rule → has_protocol rule.protocol protocol ≡ true → matches rule (high_flow rule protocol) ≡ true
high_matched rule protocol is there =
    both_true (both_true (has_highest rule.source is.source) (has_highest rule.destination is.destination))
    (both_true there (both_true (has_greatest rule.source_ports is.source_ports) (has_greatest rule.destination_ports is.destination_ports)))

-- what a flow of type 1 that is matched says
record IsMatched (rule : Rule) (protocol : ℕ) (source destination : Addr) (source_port destination_port : ℕ) : Type 0 where
  source_is : has_address_of rule.source source ≡ true
  destination_is : has_address_of rule.destination destination ≡ true
  protocol_is : has_protocol rule.protocol protocol ≡ true
  source_port_is : has_port rule.source_ports source_port ≡ true
  destination_port_is : has_port rule.destination_ports destination_port ≡ true

matched_is : (rule : Rule) (protocol : ℕ) (source destination : Addr) (source_port destination_port : ℕ) → matches rule (One 0 0 protocol source destination source_port destination_port) ≡ true
    → IsMatched rule protocol source destination source_port destination_port
matched_is rule protocol source destination source_port destination_port there =
    let s = has_address_of rule.source source in
    let d = has_address_of rule.destination destination in
    let p = has_protocol rule.protocol protocol in
    let sp = has_port rule.source_ports source_port in
    let dp = has_port rule.destination_ports destination_port in
    let ends : (s && d) ≡ true = left (s && d) (p && (sp && dp)) there in
    let rest : (p && (sp && dp)) ≡ true = right (s && d) (p && (sp && dp)) there in
    let ports : (sp && dp) ≡ true = right p (sp && dp) rest in
    record {
      source_is = left s d ends;
      destination_is = right s d ends;
      protocol_is = left p (sp && dp) rest;
      source_port_is = left sp dp ports;
      destination_port_is = right sp dp ports;
    }

module _ (one other : Rule) (is : IsRule other) (all : Covers one other) where
  low_is : (protocol : ℕ) → protocol < 2 ^ 8 → has_protocol other.protocol protocol ≡ true
      → IsMatched one protocol (lowest other.source) (lowest other.destination) (least_port other.source_ports) (least_port other.destination_ports)
  low_is protocol few there =
      matched_is one protocol (lowest other.source) (lowest other.destination) (least_port other.source_ports) (least_port other.destination_ports)
      (all (low_flow other protocol) (low_fits other protocol is few) (low_matched other protocol is there))

  high_is : (protocol : ℕ) → protocol < 2 ^ 8 → has_protocol other.protocol protocol ≡ true
      → IsMatched one protocol (highest other.source) (highest other.destination) (greatest_port other.source_ports) (greatest_port other.destination_ports)
  high_is protocol few there =
      matched_is one protocol (highest other.source) (highest other.destination) (greatest_port other.source_ports) (greatest_port other.destination_ports)
      (all (high_flow other protocol) (high_fits other protocol is few) (high_matched other protocol is there))

  -- where one protocol of the other is known
  by_protocol : (protocol : ℕ) → protocol < 2 ^ 8 → has_protocol other.protocol protocol ≡ true → covers_protocol one.protocol other.protocol ≡ true
      → (covers_ends one other && (covers_protocol one.protocol other.protocol && (covers_ports one.source_ports other.source_ports && covers_ports one.destination_ports other.destination_ports))) ≡ true
  by_protocol protocol few there protocols_covered =
      let low = low_is protocol few there in
      let high = high_is protocol few there in
      both_true
      (both_true (both_true low.source_is high.source_is) (both_true low.destination_is high.destination_is))
      (both_true protocols_covered
      (both_true (both_true low.source_port_is high.source_port_is) (both_true low.destination_port_is high.destination_port_is)))

  connections_covered : (protocol : Protocol) → other.protocol ≡ protocol → has_connections protocol ≡ true
      → (covers_ends one other && (covers_protocol one.protocol other.protocol && (covers_ports one.source_ports other.source_ports && covers_ports one.destination_ports other.destination_ports))) ≡ true
  connections_covered protocols.Udp e some =
      let there : has_protocol other.protocol 17 ≡ true = rw e in
      by_protocol 17 (omega arith) there (rw e (low_is 17 (omega arith) there).protocol_is)
  connections_covered protocols.Tcp e some =
      let there : has_protocol other.protocol 6 ≡ true = rw e in
      by_protocol 6 (omega arith) there (rw e (low_is 6 (omega arith) there).protocol_is)
  connections_covered protocols.Two e some = absurd (cc)
  connections_covered protocols.Any e some =
      let udp : has_protocol other.protocol 17 ≡ true = rw e in
      let tcp : has_protocol other.protocol 6 ≡ true = rw e in
      by_protocol 17 (omega arith) udp
      (rw e (both_true (low_is 17 (omega arith) udp).protocol_is (low_is 6 (omega arith) tcp).protocol_is))

  hosts_covered : takes_hosts other ≡ true → (covers_ends one other && takes_hosts one) ≡ true
  hosts_covered there =
      let low = all (Two 0 (lowest other.source) (lowest other.destination)) (omega arith, is.source.fits, is.destination.fits)
      (both_true (both_true (has_lowest other.source) (has_lowest other.destination)) there) in
      let high = all (Two 0 (highest other.source) (highest other.destination)) (omega arith, highest_fits other.source is.source, highest_fits other.destination is.destination)
      (both_true (both_true (has_highest other.source is.source) (has_highest other.destination is.destination)) there) in
      let lows = left (has_ends one (lowest other.source) (lowest other.destination)) (takes_hosts one) low in
      let highs = left (has_ends one (highest other.source) (highest other.destination)) (takes_hosts one) high in
      both_true
      (both_true
      (both_true
      (left (has_address_of one.source (lowest other.source)) (has_address_of one.destination (lowest other.destination)) lows)
      (left (has_address_of one.source (highest other.source)) (has_address_of one.destination (highest other.destination)) highs))
      (both_true
      (right (has_address_of one.source (lowest other.source)) (has_address_of one.destination (lowest other.destination)) lows)
      (right (has_address_of one.source (highest other.source)) (has_address_of one.destination (highest other.destination)) highs)))
      (right (has_ends one (lowest other.source) (lowest other.destination)) (takes_hosts one) low)

  pub all_covers : covers one other ≡ true
  all_covers =
      both_true
      (unless (has_connections other.protocol)
      (covers_ends one other && (covers_protocol one.protocol other.protocol && (covers_ports one.source_ports other.source_ports && covers_ports one.destination_ports other.destination_ports)))
      (connections_covered other.protocol refl))
      (unless (takes_hosts other) (covers_ends one other && takes_hosts one) hosts_covered)
