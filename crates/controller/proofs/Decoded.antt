-- What the octets of a message of IFMP are decoded to.

use Rattle.std.proofs.Common.{◌≡◌, ℕ, List, Option, Some, Ok, Err, ap, ◌∙◌}
use Rattle.ifmp_wire.specs.declared.message.Message.{Message}
use Rattle.ifmp_wire.specs.declared.reader.Fault.{Fault}
use Rattle.ifmp_wire.specs.Message.{Tells}
use Rattle.ifmp_wire.specs.Tests.{first_fault}
use Rattle.ifmp_wire.specs.Fields.{decoded, decoded_by}
use Rattle.law_wire.proofs.Ifmp.{read_back}

pub decoded_told : (octets : List ℕ) (message : Message) → Tells octets message → decoded octets ≡ Ok message
decoded_told octets message told = ap decoded told.spelled ∙ read_back message told.in_range told.fits

pub decoded_refused : (octets : List ℕ) (fault : Fault) → first_fault octets ≡ Some fault → decoded octets ≡ Err fault
unfolding decoded
decoded_refused octets fault is = ap (λ (o : Option Fault). decoded_by o octets) is
