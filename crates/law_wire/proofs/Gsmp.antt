-- a message of GSMP is read back from its octets

use Rattle.std.proofs.Common.{◌≡◌, None, Some, Option, Result, Ok, drop, refl, ◌∙◌, ap}
use Rattle.std.specs.Prelude.{slice_index}
use Rattle.gsmp_wire.specs.declared.fault.Fault.{Fault}
use Rattle.gsmp_wire.specs.declared.message.Message.{Message}
use Rattle.gsmp_wire.specs.Fields.{decoded_by, decoded}
use Rattle.gsmp_wire.specs.Layout.{octets_of}
use Rattle.gsmp_wire.specs.Range.{IsInRange}
use Rattle.gsmp_wire.specs.Refusal.{type_of}
use Rattle.gsmp_wire.proofs.Reading.{kind_of, type_again, type_at}
use Rattle.gsmp_wire.proofs.Inverse.{read_whole}

found : Message → Result Message Fault
found message = Ok message

pub read_back : (message : Message) → IsInRange message → decoded (octets_of message) ≡ Ok message
unfolding decoded found
read_back message range =
    let typed : type_of (slice_index (octets_of message) 9) ≡ Some (kind_of message) = ap type_of (type_at message) ∙ type_again (kind_of message) in
    ap (λ (fault : Option Fault). decoded_by fault (type_of (slice_index (octets_of message) 9)) (drop 8 (octets_of message))) range.accepted
    ∙ (ap (λ kind. decoded_by None kind (drop 8 (octets_of message))) typed
    ∙ ap found (read_whole message (octets_of message) (kind_of message) range.fits refl typed))
