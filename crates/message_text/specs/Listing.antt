-- What a text of hexadecimal lines is decoded to: an answer for each message, in order, and a last
-- line where a line is refused

use Rattle.std.specs.Prelude.{◌≡◌, ℕ, ◌+◌, List, [], ◌∷◌, ◌++◌, length, take, codes, decimal, Option, None, Some, Result, Ok, Err}
use Rattle.ifmp_wire.specs.declared.message.Message.{Message as IfmpMessage}
use Rattle.ifmp_wire.specs.declared.reader.Fault.{Fault as IfmpFault}
use Rattle.ifmp_wire.specs.Message.{Tells}
use Rattle.ifmp_wire.specs.Tests.{first_fault}
use Rattle.gsmp_wire.specs.declared.message.Message.{Message as GsmpMessage}
use Rattle.gsmp_wire.specs.declared.fault.Fault.{Fault as GsmpFault}
use Rattle.gsmp_wire.specs.Layout.{octets_of}
use Rattle.gsmp_wire.specs.Range.{IsInRange}
use Rattle.gsmp_wire.specs.Refusal.{refusal}
use Rattle.link_model.specs.declared.record.Refusal.{Refusal as Name}
use Rattle.refusal_names.specs.Names.{ifmp_refusal, gsmp_refusal}
use Rattle.lab_text.specs.declared.line.LineFault.{LineFault}
use Rattle.lab_text.specs.declared.line.LineFault.TheVariants.{ScriptTooLong, LineTooLong, BadByte, Arity, BadHex, OutOfMemory}
use Rattle.lab_text.specs.Line.{hex_line, input_limit}
use Rattle.lab_text.specs.Lines.{lines_of}
use Rattle.lab_text.specs.Names.{refusal_text}
use Rattle.message_text.specs.declared.protocol.Protocol.{Protocol}
use Rattle.message_text.specs.declared.protocol.Protocol.TheVariants.{Ifmp, Gsmp}
use Rattle.message_text.specs.Ifmp.{ifmp_text}
use Rattle.message_text.specs.Gsmp.{gsmp_text}

-- the answer to octets that are no message
abbrev pub refuse_text : Name → List ℕ
refuse_text name = codes "refuse " ++ refusal_text name

-- a text answers octets: it is that of the message whose octets they are, or names the first test
-- that they fail
pub data IsIfmpAnswer (octets text : List ℕ) : Type 0 where
  IfmpTold : (message : IfmpMessage) → Tells octets message → text ≡ ifmp_text message → IsIfmpAnswer octets text
  IfmpRefused : (fault : IfmpFault) → first_fault octets ≡ Some fault → text ≡ refuse_text (ifmp_refusal fault) → IsIfmpAnswer octets text

pub data IsGsmpAnswer (octets text : List ℕ) : Type 0 where
  GsmpTold : (message : GsmpMessage) → IsInRange message → octets ≡ octets_of message → text ≡ gsmp_text message → IsGsmpAnswer octets text
  GsmpRefused : (fault : GsmpFault) → refusal octets ≡ Some fault → text ≡ refuse_text (gsmp_refusal fault) → IsGsmpAnswer octets text

abbrev pub IsAnswer : Protocol → (octets text : List ℕ) → Type 0
IsAnswer Ifmp octets text = IsIfmpAnswer octets text
IsAnswer Gsmp octets text = IsGsmpAnswer octets text

-- the text after an answer, on a line of its own
pub record AppendsAnswer (protocol : Protocol) (octets old new : List ℕ) : Type 0 where
  pub answer : List ℕ
  pub is_answer : IsAnswer protocol octets answer
  pub appended : new ≡ old ++ (answer ++ codes "\n")

-- the text after one line was read, and the refusal of the line, where it is refused
abbrev pub IsLineListed : Protocol → Result (Option (List ℕ)) LineFault → Option LineFault → (old new : List ℕ) → Type 0
IsLineListed protocol (Ok None) refused old new = (refused ≡ None) × (new ≡ old)
IsLineListed protocol (Ok (Some octets)) refused old new = (refused ≡ None) × AppendsAnswer protocol octets old new
IsLineListed protocol (Err fault) refused old new = (refused ≡ Some fault) × (new ≡ old)

abbrev pub line_fault_text : LineFault → List ℕ
line_fault_text ScriptTooLong = codes "ScriptTooLong"
line_fault_text LineTooLong = codes "LineTooLong"
line_fault_text BadByte = codes "BadByte"
line_fault_text Arity = codes "Arity"
line_fault_text BadHex = codes "BadHex"
line_fault_text (OutOfMemory error) = codes "OutOfMemory"

-- the last line where the line of this number is refused
abbrev pub refused_line : (number : ℕ) → LineFault → List ℕ
refused_line number fault = codes "refused " ++ (decimal number ++ (codes " " ++ (line_fault_text fault ++ codes "\n")))

-- a text begins with the answer to these octets, on a line of its own
pub record IsFollowed (protocol : Protocol) (octets : List ℕ) (others : List ℕ → Type 0) (text : List ℕ) : Type 0 where
  pub answer : List ℕ
  pub rest : List ℕ
  pub is_answer : IsAnswer protocol octets answer
  pub is_rest : others rest
  pub whole : text ≡ answer ++ (codes "\n" ++ rest)

abbrev pub listed_by : Protocol → (number : ℕ) → (others : List ℕ → Type 0) → Result (Option (List ℕ)) LineFault → List ℕ → Type 0
listed_by protocol number others (Ok None) text = others text
listed_by protocol number others (Ok (Some octets)) text = IsFollowed protocol octets others text
listed_by protocol number others (Err fault) text = text ≡ refused_line number fault

-- a text is what these lines are decoded to; so many octets and so many lines stand before them
abbrev pub IsListedFrom : Protocol → (before number : ℕ) → List (List ℕ) → List ℕ → Type 0
IsListedFrom protocol before number [] text = text ≡ []
IsListedFrom protocol before number (line ∷ lines) text =
    listed_by protocol (number + 1) (IsListedFrom protocol (before + length line) (number + 1) lines) (hex_line before line) text

abbrev pub fault_by : Result (Option (List ℕ)) LineFault → Option LineFault → Option LineFault
fault_by (Ok octets) others = others
fault_by (Err fault) others = Some fault

-- the first refusal of a line, where one is refused
abbrev pub fault_from : (before : ℕ) → List (List ℕ) → Option LineFault
fault_from before [] = None
fault_from before (line ∷ lines) = fault_by (hex_line before line) (fault_from (before + length line) lines)

unfoldable pub lines_in : List ℕ → List (List ℕ)
lines_in octets = lines_of (take input_limit octets)

-- what an input is decoded to
abbrev pub IsListing : Protocol → (input text : List ℕ) → Type 0
IsListing protocol input text = IsListedFrom protocol 0 0 (lines_in input) text

abbrev pub fault_in : List ℕ → Option LineFault
fault_in input = fault_from 0 (lines_in input)
