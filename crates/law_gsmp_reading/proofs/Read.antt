-- so what is said is read

use Rattle.std.proofs.Common.{◌≡◌, ◌∙◌, ap, refl, Ok, Some}
use Rattle.std.specs.Prelude.{slice_index, Result}
use Rattle.gsmp_wire.specs.declared.fault.Fault.{Fault}
use Rattle.gsmp_wire.specs.declared.message.Message.{Message}
use Rattle.gsmp_wire.specs.Fields.{decoded}
use Rattle.gsmp_wire.specs.Layout.{octets_of}
use Rattle.gsmp_wire.specs.Range.{Fits}
use Rattle.gsmp_wire.specs.Refusal.{type_of}
use Rattle.gsmp_wire.proofs.Decoding.{decoded_accepted}
use Rattle.gsmp_wire.proofs.Inverse.{read_whole}
use Rattle.gsmp_wire.proofs.Reading.{kind_of, type_again, type_at}
use Rattle.law_gsmp_reading.specs.Said.{IsSaid}
use Rattle.law_gsmp_reading.proofs.Accepted.{accepted}

pub message_is_read : (m : Message) → Fits m → IsSaid m → decoded (octets_of m) ≡ Ok m
message_is_read m fits said =
    let typed : type_of (slice_index (octets_of m) 9) ≡ Some (kind_of m) = ap type_of (type_at m) ∙ type_again (kind_of m) in
    let answer : Message → Result Message Fault = λ (x : Message). Ok x in
    decoded_accepted (octets_of m) (kind_of m) (accepted m fits said) typed ∙ ap answer (read_whole m (octets_of m) (kind_of m) fits refl typed)
