-- What is read of a frame: the message of IFMP behind a packet's header, and the packet in the default encapsulation

use Rattle.std.proofs.Common.{◌≡◌, ℕ, Bool, true, false, not, List, length, take, drop, Option, None, Some, Result, Ok, Err, refl, ap, ◌∙◌, if◌then◌else◌}
use Rattle.std.specs.Prelude.{nat_lt}
use Rattle.std.specs.Str.{bytes_eq}
use Rattle.flow_encaps.specs.declared.default.EncapsFault.{EncapsFault}
use Rattle.flow_encaps.specs.declared.default.EncapsFault.TheVariants.{Short, BadSnap}
use Rattle.flow_encaps.specs.Default.{default_fault, default_payload, llc_snap}
use Rattle.flow_encaps.specs.Unwrapped.{default_unwrapped}
use Rattle.ifmp_wire.specs.declared.message.Message.{Message}
use Rattle.ifmp_wire.specs.declared.reader.Fault.{Fault}
use Rattle.ifmp_wire.specs.Message.{Tells}
use Rattle.ifmp_wire.specs.Tests.{first_fault}
use Rattle.ifmp_wire.specs.Fields.{decoded, decoded_by}
use Rattle.law_wire.proofs.Ifmp.{read_back}

-- *Messages*
pub message_told : (octets : List ℕ) (message : Message) → Tells octets message → decoded octets ≡ Ok message
message_told octets message told = ap decoded told.spelled ∙ read_back message told.in_range told.fits

pub message_refused : (octets : List ℕ) (fault : Fault) → first_fault octets ≡ Some fault → decoded octets ≡ Err fault
unfolding decoded
message_refused octets fault is = ap (λ (o : Option Fault). decoded_by o octets) is

-- *Packets*
abbrev fault_by : (short bad : Bool) → Option EncapsFault
fault_by short bad = if short then Some Short else (if bad then Some BadSnap else None)

abbrev answer_by : (short bad : Bool) → List ℕ → Result (List ℕ) EncapsFault
answer_by short bad packet = if short then Err Short else (if bad then Err BadSnap else Ok packet)

found_by : (short bad : Bool) (packet : List ℕ) → fault_by short bad ≡ None → answer_by short bad packet ≡ Ok packet
found_by true bad packet e = absurd (cc e)
found_by false true packet e = absurd (cc e)
found_by false false packet e = refl

refused_by : (short bad : Bool) (packet : List ℕ) (fault : EncapsFault) → fault_by short bad ≡ Some fault → answer_by short bad packet ≡ Err fault
refused_by true bad packet fault e = (let same : Short ≡ fault = cc e in ap (λ (f : EncapsFault). Err f) same)
refused_by false true packet fault e = (let same : BadSnap ≡ fault = cc e in ap (λ (f : EncapsFault). Err f) same)
refused_by false false packet fault e = absurd (cc e)

pub packet_found : (payload packet : List ℕ) → default_fault payload ≡ None → payload ≡ default_payload packet → default_unwrapped payload ≡ Ok packet
packet_found payload packet none is =
    found_by (nat_lt (length payload) 8) (not (bytes_eq (take 8 payload) llc_snap)) (drop 8 payload) none ∙ ap (λ (octets : List ℕ). Ok (drop 8 octets)) is

pub packet_refused : (payload : List ℕ) (fault : EncapsFault) → default_fault payload ≡ Some fault → default_unwrapped payload ≡ Err fault
packet_refused payload fault is = refused_by (nat_lt (length payload) 8) (not (bytes_eq (take 8 payload) llc_snap)) (drop 8 payload) fault is
