-- An answer on a line of its own

use Rattle.std.proofs.Common.{◌≡◌, List, ℕ, ◌++◌, Some, Result, Ok, Err, OnOk, codes, refl, ap, ◌∙◌}
use Rattle.std.proofs.lemmas.List.{append_assoc}
use Rattle.ifmp_wire.specs.declared.message.Message.{Message as IfmpMessage}
use Rattle.ifmp_wire.specs.declared.reader.Fault.{Fault as IfmpFault}
use Rattle.ifmp_wire.specs.Message.{Tells}
use Rattle.ifmp_wire.specs.Tests.{first_fault}
use Rattle.gsmp_wire.specs.declared.message.Message.{Message as GsmpMessage}
use Rattle.gsmp_wire.specs.declared.fault.Fault.{Fault as GsmpFault}
use Rattle.gsmp_wire.specs.declared.message.Head.{Head}
use Rattle.gsmp_wire.specs.Layout.{octets_of}
use Rattle.gsmp_wire.specs.Range.{IsInRange}
use Rattle.gsmp_wire.specs.Refusal.{refusal}
use Rattle.message_text.specs.declared.protocol.Protocol.TheVariants.{Ifmp, Gsmp}
use Rattle.refusal_names.specs.Names.{ifmp_refusal, gsmp_refusal}
use Rattle.message_text.specs.Ifmp.{ifmp_text}
use Rattle.message_text.specs.Fields.{named_number}
use Rattle.message_text.specs.Gsmp.{gsmp_text, head_text, result_word}
use Rattle.message_text.specs.Listing.{AppendsAnswer, IfmpTold, IfmpRefused, GsmpTold, GsmpRefused, refuse_text}

lined : (old mid new text : List ℕ) → mid ≡ old ++ text → new ≡ mid ++ codes "\n" → new ≡ old ++ (text ++ codes "\n")
lined old mid new text written ended = ended ∙ (ap (λ (xs : List ℕ). xs ++ codes "\n") written ∙ append_assoc old text (codes "\n"))

pub ifmp_told : (octets old mid new : List ℕ) (message : IfmpMessage) → Tells octets message → mid ≡ old ++ ifmp_text message → new ≡ mid ++ codes "\n" → AppendsAnswer Ifmp octets old new
ifmp_told octets old mid new message tells written ended =
    record { answer = ifmp_text message; is_answer = IfmpTold message tells refl; appended = lined old mid new (ifmp_text message) written ended }

pub ifmp_refused : (octets old mid new : List ℕ) (fault : IfmpFault) → first_fault octets ≡ Some fault → mid ≡ old ++ refuse_text (ifmp_refusal fault) → new ≡ mid ++ codes "\n" → AppendsAnswer Ifmp octets old new
ifmp_refused octets old mid new fault fails written ended =
    let text : List ℕ = refuse_text (ifmp_refusal fault) in
    record { answer = text; is_answer = IfmpRefused fault fails refl; appended = lined old mid new text written ended }

pub gsmp_told : (octets old mid new : List ℕ) (message : GsmpMessage) → IsInRange message → octets ≡ octets_of message → mid ≡ old ++ gsmp_text message → new ≡ mid ++ codes "\n" → AppendsAnswer Gsmp octets old new
gsmp_told octets old mid new message in_range spelled written ended =
    record { answer = gsmp_text message; is_answer = GsmpTold message in_range spelled refl; appended = lined old mid new (gsmp_text message) written ended }

pub gsmp_refused : (octets old mid new : List ℕ) (fault : GsmpFault) → refusal octets ≡ Some fault → mid ≡ old ++ refuse_text (gsmp_refusal fault) → new ≡ mid ++ codes "\n" → AppendsAnswer Gsmp octets old new
gsmp_refused octets old mid new fault fails written ended =
    let text : List ℕ = refuse_text (gsmp_refusal fault) in
    record { answer = text; is_answer = GsmpRefused fault fails refl; appended = lined old mid new text written ended }

-- what follows from a fact of an outcome that is Ok
pub on_ok : {T E : Type 0} (outcome : Result T E) (A B : Type 0) → (A → B) → OnOk outcome A → OnOk outcome B
on_ok (Ok value) A B follows holds = follows holds
on_ok (Err error) A B follows holds = holds

-- the head of a message about a switch
pub head_written : (a c d e : List ℕ) (head : Head) (code_written number_written : ℕ)
    → code_written ≡ head.code → number_written ≡ head.number
    → c ≡ a ++ result_word head.result → d ≡ c ++ named_number (codes " ") code_written → e ≡ d ++ named_number (codes " transaction ") number_written
    → e ≡ a ++ head_text head
unfolding head_text
head_written a c d e head code_written number_written of_code of_number ec ed ee =
    rw (ee, ed, ec, of_code, of_number, append_assoc, append_assoc) refl
