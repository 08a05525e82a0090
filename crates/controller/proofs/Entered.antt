-- A packet enters where it isn't refused.

use Rattle.std.proofs.Common.{◌≡◌, ◌≢◌, ℕ, ◌==◌, Bool, true, false, List, None, Some, ap, sym, ◌∙◌, arith, if◌then◌else◌}
use Rattle.std.proofs.lemmas.Bool.Decides.{nat_tests}
use Rattle.ipv4_packet.specs.Packet.{first_fault, protocol_of}
use Rattle.ipv4_packet.specs.declared.validate.PacketFault.{PacketFault}
use Rattle.link_model.specs.declared.record.Refusal.TheVariants.{ControlProtocol}
use Rattle.world_model.specs.Controller.{Acted}
use Rattle.world_model.specs.Packets.{control_protocol, inject_refusal, injected, refused_by}
use Rattle.law_joining_conditions.specs.law_controller_facts.Inputs.{PacketEnters, enters_unless, takes_input}

pub not_equal : (m n : ℕ) → m ≢ n → (m == n) ≡ false
not_equal m n other = grind (arith, nat_tests)

pub enters_is : (a : Acted) (number : ℕ) (octets : List ℕ) → first_fault octets ≡ None → protocol_of octets ≢ control_protocol → injected a number octets ≡ takes_input a (PacketEnters number octets)
enters_is a number octets whole other =
    ap (enters_unless a number octets) (sym (ap (refused_by octets) whole ∙ ap (λ (b : Bool). if b then Some ControlProtocol else None) (not_equal (protocol_of octets) control_protocol other)))

-- *It is refused*
pub fault_refused : (octets : List ℕ) (fault : PacketFault) → first_fault octets ≡ Some fault → inject_refusal octets ≢ None
fault_refused octets fault is none = cc (sym none ∙ ap (refused_by octets) is)

equal : (m n : ℕ) → m ≡ n → (m == n) ≡ true
equal m n same = grind (arith, nat_tests)

pub protocol_refused : (octets : List ℕ) → first_fault octets ≡ None → protocol_of octets ≡ control_protocol → inject_refusal octets ≢ None
protocol_refused octets whole is none =
    cc (sym none ∙ ap (refused_by octets) whole ∙ ap (λ (b : Bool). if b then Some ControlProtocol else None) (equal (protocol_of octets) control_protocol is))
