-- The packet that a payload carries, as it is unwrapped.

use Rattle.std.proofs.Common.{◌≡◌, ℕ, Bool, true, false, not, List, length, take, drop, Option, None, Some, Result, Ok, Err, refl, ap, ◌∙◌, if◌then◌else◌}
use Rattle.std.specs.Prelude.{nat_lt}
use Rattle.std.specs.Str.{bytes_eq}
use Rattle.ipv4_packet.specs.declared.flow.FlowId.{FlowId}
use Rattle.flow_encaps.specs.declared.default.EncapsFault.{EncapsFault}
use Rattle.flow_encaps.specs.declared.default.EncapsFault.TheVariants.{Short, BadSnap}
use Rattle.flow_encaps.specs.Default.{default_fault, default_payload, llc_snap}
use Rattle.flow_encaps.specs.Labelled.{Carries, unwrap_fault}
use Rattle.flow_encaps.specs.Unwrapped.{default_unwrapped, unwrapped, unwrapped_by}
use Rattle.flow_encaps.proofs.CarryLemmas.{packet-carried, unwrap_fault-carried}

-- *In the default encapsulation*
abbrev fault_by : (short bad : Bool) → Option EncapsFault
fault_by short bad = if short then Some Short else (if bad then Some BadSnap else None)

abbrev answer_by : (short bad : Bool) → List ℕ → Result (List ℕ) EncapsFault
answer_by short bad packet = if short then Err Short else (if bad then Err BadSnap else Ok packet)

found_by : (short bad : Bool) (packet : List ℕ) → fault_by short bad ≡ None → answer_by short bad packet ≡ Ok packet
found_by true bad packet e = absurd (cc e)
found_by false true packet e = absurd (cc e)
found_by false false packet e = refl

refused_by : (short bad : Bool) (packet : List ℕ) (fault : EncapsFault) → fault_by short bad ≡ Some fault → answer_by short bad packet ≡ Err fault
refused_by true bad packet fault e = (let same : Short ≡ fault = cc e in ap (λ (f : EncapsFault). Err f) same)
refused_by false true packet fault e = (let same : BadSnap ≡ fault = cc e in ap (λ (f : EncapsFault). Err f) same)
refused_by false false packet fault e = absurd (cc e)

pub default_found : (payload packet : List ℕ) → default_fault payload ≡ None → payload ≡ default_payload packet → default_unwrapped payload ≡ Ok packet
default_found payload packet none is =
    found_by (nat_lt (length payload) 8) (not (bytes_eq (take 8 payload) llc_snap)) (drop 8 payload) none ∙ ap (λ (octets : List ℕ). Ok (drop 8 octets)) is

pub default_refused : (payload : List ℕ) (fault : EncapsFault) → default_fault payload ≡ Some fault → default_unwrapped payload ≡ Err fault
default_refused payload fault is = refused_by (nat_lt (length payload) 8) (not (bytes_eq (take 8 payload) llc_snap)) (drop 8 payload) fault is

-- *Under a flow's label*
pub labelled_found : (flow : FlowId) (payload packet : List ℕ) → Carries flow packet payload → unwrapped flow payload ≡ Ok packet
unfolding unwrapped
labelled_found flow payload packet carried =
    ap (unwrapped_by flow payload) (unwrap_fault-carried flow packet payload carried) ∙ ap (λ (octets : List ℕ). Ok octets) (packet-carried flow packet payload carried)

pub labelled_refused : (flow : FlowId) (payload : List ℕ) (fault : EncapsFault) → unwrap_fault flow payload ≡ Some fault → unwrapped flow payload ≡ Err fault
unfolding unwrapped
labelled_refused flow payload fault is = ap (unwrapped_by flow payload) is
