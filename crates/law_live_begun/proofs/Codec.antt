-- what is read in what is made before the first packet enters is such as was said

use Rattle.std.proofs.Common.{◌≡◌, ℕ, ◌+◌, ◌≤◌, ◌<◌, ◌^◌, ◌==◌, nat_lt, Bool, true, false, List, [], ◌∷◌, suc, drop, length, Result, Ok, Err, Option, None, Some, refl, sym, ◌∙◌, ap, subst, arith, if◌then◌else◌, Contains, inl, inr}
use Rattle.std.specs.Prelude.{find}
use Rattle.std.specs.Option.{option_map_or}
use Rattle.world_model.specs.Words.{PortNo, Hello, HelloKind, Syn, Synack, Ack, Rstack, Addr, default_unwrapped, protocol_of, ifmp_packet_of, EncapsFault, Request, PortRow, message_of, session_of, default_end, default_home, control_port, Fits, FitsRows, IsLinkPort}
use Rattle.world_model.specs.flow_encaps.declared.default.EncapsFault.TheVariants.{Short, BadSnap}
use Rattle.world_model.specs.ifmp_wire.declared.message.Message.{Message as IfmpMessage}
use Rattle.world_model.specs.ifmp_wire.declared.message.Message.TheVariants.{Adjacency as IfmpAdjacency}
use Rattle.world_model.specs.ifmp_wire.declared.reader.Fault.{Fault as IfmpFault}
use Rattle.world_model.specs.ifmp_wire.Fields.{decoded as ifmp_decoded, decoded_by as ifmp_decoded_by, message_at}
use Rattle.world_model.specs.ifmp_wire.Tests.{first_fault as ifmp_fault}
use Rattle.world_model.specs.ifmp_wire.Message.{octets_of as ifmp_octets}
use Rattle.world_model.specs.gsmp_wire.declared.message.Message.{Message}
use Rattle.world_model.specs.gsmp_wire.declared.message.Message.TheVariants.{Adjacency, Branch, AllPorts as AllPortsMessage}
use Rattle.world_model.specs.gsmp_wire.declared.request.Request.TheVariants.{AllPorts}
use Rattle.world_model.specs.gsmp_wire.declared.fault.Fault.{Fault}
use Rattle.world_model.specs.gsmp_wire.Layout.{octets_of}
use Rattle.world_model.specs.gsmp_wire.Range.{FitsChannel}
use Rattle.world_model.specs.Switch.{begun as begun_port}
use Rattle.world_model.specs.Answers.{port_row}
use Rattle.world_model.specs.gsmp_wire.Fields.{decoded}
use Rattle.law_link_parties.specs.law_run_facts.ordered_lists.Ordered.{Every, InOrder}
use Rattle.law_link_parties.proofs.law_run_facts.Numbers.{some_of}
use Rattle.law_link_parties.specs.law_link_met.law_frame_readings.law_gsmp_reading.Said.{IsSaid, asks, succeeds as has_succeeded, no_branch, all_asked, all_told}
use Rattle.law_link_parties.proofs.law_link_met.law_frame_readings.law_gsmp_reading.Read.{message_is_read}
use Rattle.law_link_parties.proofs.law_link_met.law_frame_readings.law_wire.Packets.{protocol_is, message_is, unwrapped_again}
use Rattle.law_live_ease.proofs.law_live_control.Reading.{read_as}
use Rattle.law_live_begun.specs.First.{Start, FitsStart, IsBelow, rows_of, IsFirstRequest, asks_ports, empties, opens_home, opens_out, IsFirstDown, greets_switch, asks_switch, IsFirstUp, greets_controller, tells_ports, succeeds, IsFirstPayload, of_gsmp, of_port}
use Rattle.law_live_begun.specs.Codec.{IsGreeting, GreetsAtMost, GreetingsAreRead}
use Rattle.law_live_begun.proofs.RunsNodes.{rows_by}

-- *On a default channel*: a message of GSMP isn't unwrapped there
not_default : (message : Message) (packet : List ℕ) → default_unwrapped (octets_of message) ≡ Ok packet → ⊥
not_default message packet e = by (nat_lt (length (octets_of message)) 8) e
  where
    refused : (fault : EncapsFault) → ◌≡◌ {A = Result (List ℕ) EncapsFault} (Err fault) (Ok packet) → ⊥
    refused fault e = cc e

    by : (b : Bool) → ◌≡◌ {A = Result (List ℕ) EncapsFault} (if b then Err Short else Err BadSnap) (Ok packet) → ⊥
    by true e = refused Short e
    by false e = refused BadSnap e

same_packet : (x y : List ℕ) → ◌≡◌ {A = Result (List ℕ) EncapsFault} (Ok x) (Ok y) → x ≡ y
same_packet x y e = cc e

same_ifmp : (x y : IfmpMessage) → ◌≡◌ {A = Result IfmpMessage IfmpFault} (Ok x) (Ok y) → x ≡ y
same_ifmp x y e = cc e

same_gsmp : (x y : Message) → ◌≡◌ {A = Result Message Fault} (Ok x) (Ok y) → x ≡ y
same_gsmp x y e = cc e

-- and a greeting of a port is read as one there, if at all
greeting_at : (hello : Hello) → IsGreeting (message_at (ifmp_octets (IfmpAdjacency hello)))
greeting_at hello = by hello.kind refl
  where
    by : (kind : HelloKind) → hello.kind ≡ kind → IsGreeting (message_at (ifmp_octets (IfmpAdjacency hello)))
    by Syn e = subst (λ (k : HelloKind). IsGreeting (message_at (ifmp_octets (IfmpAdjacency (record hello { kind = k }))))) (sym e) (record { hello = _; is = refl })
    by Synack e = subst (λ (k : HelloKind). IsGreeting (message_at (ifmp_octets (IfmpAdjacency (record hello { kind = k }))))) (sym e) (record { hello = _; is = refl })
    by Ack e = subst (λ (k : HelloKind). IsGreeting (message_at (ifmp_octets (IfmpAdjacency (record hello { kind = k }))))) (sym e) (record { hello = _; is = refl })
    by Rstack e = subst (λ (k : HelloKind). IsGreeting (message_at (ifmp_octets (IfmpAdjacency (record hello { kind = k }))))) (sym e) (record { hello = _; is = refl })

read_greeting : (hello : Hello) (message : IfmpMessage) → ifmp_decoded (ifmp_octets (IfmpAdjacency hello)) ≡ Ok message → IsGreeting message
unfolding ifmp_decoded
read_greeting hello message is = by (ifmp_fault (ifmp_octets (IfmpAdjacency hello))) refl
  where
    by : (o : Option IfmpFault) → ifmp_fault (ifmp_octets (IfmpAdjacency hello)) ≡ o → IsGreeting message
    by None e = subst IsGreeting (same_ifmp (message_at (ifmp_octets (IfmpAdjacency hello))) message
        (sym (ap (λ (o : Option IfmpFault). ifmp_decoded_by o (ifmp_octets (IfmpAdjacency hello))) e) ∙ is)) (greeting_at hello)
    by (Some fault) e = absurd (no_ifmp fault message (sym (ap (λ (o : Option IfmpFault). ifmp_decoded_by o (ifmp_octets (IfmpAdjacency hello))) e) ∙ is))
      where
        no_ifmp : (f : IfmpFault) (m : IfmpMessage) → ◌≡◌ {A = Result IfmpMessage IfmpFault} (Err f) (Ok m) → ⊥
        no_ifmp f m e = cc e

abbrev greeting_packet : Addr → Hello → List ℕ
greeting_packet source hello = ifmp_packet_of source (ifmp_octets (IfmpAdjacency hello))

from_peers : (payload : List ℕ) → IsFirstPayload payload → GreetsAtMost payload
from_peers payload (of_gsmp message e) = record {
  controls = λ packet is none. absurd (not_default message packet (sym (ap default_unwrapped e) ∙ is));
  greets = λ packet read is reads. absurd (not_default message packet (sym (ap default_unwrapped e) ∙ is));
}
from_peers payload (of_port source hello e) = record {
  controls = λ packet is none. ap protocol_of (the_packet packet is) ∙ protocol_is source (ifmp_octets (IfmpAdjacency hello));
  greets = λ packet read is reads. read_greeting hello read (sym (ap ifmp_decoded (ap (drop 20) (the_packet packet is) ∙ message_is source (ifmp_octets (IfmpAdjacency hello)))) ∙ reads);
}
  where
    the_packet : (packet : List ℕ) → default_unwrapped payload ≡ Ok packet → packet ≡ (greeting_packet source hello)
    the_packet packet is = sym (same_packet (greeting_packet source hello) packet (sym (ap default_unwrapped e ∙ unwrapped_again (greeting_packet source hello)) ∙ is))

-- *What fits* of what is said
row_small : (session : ℕ) (ports : List PortNo) (port : PortNo) → session < 2 ^ 32 → session_of (rows_by session ports) port < 2 ^ 32
row_small session [] port small = omega arith
row_small session (first ∷ ports) port small = elim (first.0 == port.0) as (λ b. option_map_or (λ (row : PortRow). row.session)
    (if b then Some (port_row (begun_port (record { 0 = session }) first)) else find (λ (row : PortRow). row.port == port.0) (rows_by session ports)) 0 < 2 ^ 32) [
      | true ↦ small
      | false ↦ row_small session ports port small
    ]

-- *A port of a link* is 1 to 8
small_port : (port : PortNo) → IsLinkPort port → port.0 ≤ 8
small_port port link = omega (arith, link.1)

home_fits : (port : PortNo) → IsLinkPort port → FitsChannel (default_home port).channel
home_fits port link = record { vpi = omega (arith, small_port port link); vci = (omega arith) }

end_fits : (port : PortNo) → FitsChannel (default_end port).channel
end_fits port = record { vpi = (omega arith); vci = (omega arith) }

-- *A request that is said* fits, and is said so
record IsReadSo (message : Message) : Type 0 where
  fits : Fits message
  said : IsSaid message

module _ (start : Start) (fits : FitsStart start) (number : ℕ) (small : number < 2 ^ 32) where
  link_of : (port : PortNo) → Contains start.ports port → IsLinkPort port
  link_of port within = some_of IsLinkPort start.ports port fits.links within

  any_of : (port : PortNo) → Contains (control_port ∷ start.ports) port → port.0 ≤ 8
  any_of port within = some_of (λ (p : PortNo). p.0 ≤ 8) (control_port ∷ start.ports) port (omega arith, each start.ports fits.links) within
    where
      each : (ports : List PortNo) → Every IsLinkPort ports → Every (λ (p : PortNo). p.0 ≤ 8) ports
      each [] links = tt
      each (p ∷ ports) links = (small_port p links.0, each ports links.1)

  session_small : (port : PortNo) → session_of (rows_of start) port < 2 ^ 32
  session_small port = row_small start.session (control_port ∷ start.ports) port fits.session

  request_fits : (request : Request) → IsFirstRequest start.ports request → IsReadSo (message_of (rows_of start) number request)
  request_fits request asks_ports = record { fits = (omega arith, omega arith, small, omega arith, tt); said = (asks, all_asked) }
  request_fits request (empties port within) = record {
    fits = (
      omega arith,
      omega arith,
      small,
      session_small port,
      omega (arith, any_of port within),
      record { vpi = omega arith; vci = omega arith },
      omega arith,
      record { vpi = omega arith; vci = omega arith },
      omega arith,
      omega arith,
    );
    said = (asks, no_branch 2, ((refl, refl), refl));
  }
  request_fits request (opens_home port within) = record {
    fits = (
      omega arith,
      omega arith,
      small,
      session_small port,
      omega (arith, small_port port (link_of port within)),
      end_fits port,
      omega arith,
      home_fits port (link_of port within),
      omega arith,
      omega arith,
    );
    said = (asks, no_branch 2, tt);
  }
  request_fits request (opens_out port within) = record {
    fits = (
      omega arith,
      omega arith,
      small,
      session_small control_port,
      omega arith,
      home_fits port (link_of port within),
      omega (arith, small_port port (link_of port within)),
      end_fits port,
      omega arith,
      omega arith,
    );
    said = (asks, no_branch 2, tt);
  }

  ports_fit : (rows : List PortRow) → IsReadSo (message_of rows number AllPorts)
  ports_fit rows = record { fits = (omega arith, omega arith, small, omega arith, tt); said = (asks, all_asked) }

down : (start : Start) (message read : Message) → FitsStart start → IsFirstDown start message → decoded (octets_of message) ≡ Ok read → IsFirstDown start read
down start message read fits (greets_switch greeting) is = subst (IsFirstDown start) (sym (read_as (Adjacency greeting) read is)) (greets_switch _)
down start message read fits (asks_switch rows number request small first (inl listing)) is =
    let so : IsReadSo (message_of rows number AllPorts) = ports_fit start fits number small rows in
    let same : message_of rows number request ≡ message_of rows number AllPorts = ap (message_of rows number) listing in
    let again : message_of rows number request ≡ read = same_gsmp (message_of rows number request) read
    (sym (subst (λ (m : Message). decoded (octets_of m) ≡ Ok m) (sym same) (message_is_read (message_of rows number AllPorts) so.fits so.said)) ∙ is) in
    subst (IsFirstDown start) again (asks_switch rows number request small first (inl listing))
down start message read fits (asks_switch rows number request small first (inr known)) is =
    let so : IsReadSo (message_of (rows_of start) number request) = request_fits start fits number small request first in
    let again : message_of rows number request ≡ read = same_gsmp (message_of rows number request) read
    (sym (subst (λ (rs : List PortRow). decoded (octets_of (message_of rs number request)) ≡ Ok (message_of rs number request)) (sym known)
    (message_is_read (message_of (rows_of start) number request) so.fits so.said)) ∙ is) in
    subst (IsFirstDown start) again (asks_switch rows number request small first (inr known))

-- *The rows of all ports* are nine at most, and fit
few_above : (low : ℕ) (ports : List PortNo) → low ≤ 9 → Every (λ (p : PortNo). low ≤ p.0) ports → Every IsLinkPort ports → InOrder IsBelow ports → low + length ports ≤ 9
few_above low [] few above links ascending = omega (arith, few)
few_above low (p ∷ ports) few above links ascending = omega (arith, above.0, few_above (p.0 + 1) ports (omega (arith, small_port p links.0)) (each ports ascending.0) links.1 ascending.1)
  where
    each : (ps : List PortNo) → Every (IsBelow p) ps → Every (λ (q : PortNo). p.0 + 1 ≤ q.0) ps
    each [] below = tt
    each (q ∷ ps) below = (omega (arith, below.0), each ps below.1)

from_one : (ports : List PortNo) → Every IsLinkPort ports → Every (λ (p : PortNo). 1 ≤ p.0) ports
from_one [] links = tt
from_one (p ∷ ports) links = (omega (arith, links.0.0), from_one ports links.1)

rows_fit : (session : ℕ) (ports : List PortNo) → session < 2 ^ 32 → Every (λ (p : PortNo). p.0 ≤ 8) ports → FitsRows (rows_by session ports)
rows_fit session [] small ports = tt
rows_fit session (p ∷ rest) small ports = (record { port = omega (arith, ports.0); session = small; least = (omega arith); greatest = (omega arith) }, rows_fit session rest small ports.1)

mapped_length : (session : ℕ) (ports : List PortNo) → length (rows_by session ports) ≡ length ports
mapped_length session [] = refl
mapped_length session (p ∷ ports) = ap suc (mapped_length session ports)

up : (start : Start) (message read : Message) → FitsStart start → IsFirstUp start message → decoded (octets_of message) ≡ Ok read → IsFirstUp start read
up start message read fits (greets_controller greeting) is = subst (IsFirstUp start) (sym (read_as (Adjacency greeting) read is)) (greets_controller _)
up start message read fits (tells_ports number small) is =
    subst (IsFirstUp start) (same_gsmp (AllPortsMessage 3 0 number (rows_of start)) read
    (sym (message_is_read (AllPortsMessage 3 0 number (rows_of start))
    (omega arith, omega arith, small, few, rows_fit start.session (control_port ∷ start.ports) fits.session (omega arith, each start.ports fits.links)) (has_succeeded, all_told _ _)) ∙ is))
    (tells_ports number small)
  where
    few : length (rows_of start) ≤ 9
    few = omega (arith, mapped_length start.session (control_port ∷ start.ports), few_above 1 start.ports (omega arith) (from_one start.ports fits.links) fits.links fits.ascending)

    each : (ports : List PortNo) → Every IsLinkPort ports → Every (λ (p : PortNo). p.0 ≤ 8) ports
    each [] links = tt
    each (p ∷ ports) links = (small_port p links.0, each ports links.1)
up start message read fits (succeeds kind code number session input_port input output_port output branches priority) is =
    subst (IsFirstUp start) (sym (read_as (Branch kind 3 code number session input_port input output_port output branches priority) read is)) (succeeds _ _ _ _ _ _ _ _ _ _)

pub greetings_are_read : GreetingsAreRead
greetings_are_read = record { from_peers = from_peers; down = down; up = up }
