-- What `decoded` gives by the answer of the tests

use Rattle.std.proofs.Common.{◌≡◌, ◌∙◌, ℕ, List, drop, ap, Option, Some, None, Ok, Err}
use Rattle.std.specs.Prelude.{slice_index}
use Rattle.gsmp_wire.specs.declared.fault.Fault.{Fault}
use Rattle.gsmp_wire.specs.declared.message.MessageType.{MessageType}
use Rattle.gsmp_wire.specs.Fields.{decoded, decoded_by, message_in}
use Rattle.gsmp_wire.specs.Refusal.{refusal, type_of}

pub decoded_refused : (o : List ℕ) (fault : Fault) → refusal o ≡ Some fault → decoded o ≡ Err fault
unfolding decoded
decoded_refused o fault h = ap (λ (r : Option Fault). decoded_by r (type_of (slice_index o 9)) (drop 8 o)) h

pub decoded_accepted : (o : List ℕ) (kind : MessageType) → refusal o ≡ None → type_of (slice_index o 9) ≡ Some kind → decoded o ≡ Ok (message_in kind (drop 8 o))
unfolding decoded
decoded_accepted o kind none typed =
    ap (λ (r : Option Fault). decoded_by r (type_of (slice_index o 9)) (drop 8 o)) none
    ∙ ap (λ (k : Option MessageType). decoded_by None k (drop 8 o)) typed
