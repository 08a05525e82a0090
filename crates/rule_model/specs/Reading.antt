-- A line of rules: which of its tests fails first, and which rule it says. The language is this project's own

use Rattle.std.specs.Prelude.{ℕ, ◌&&◌, nat_le, List, [], ◌∷◌, length, codes, bytes_eq, Option, None, Some, Result, Ok, Err, if◌then◌else◌}
use Rattle.std.specs.Option.{option_and_then, ok_or}
use Rattle.net_types.specs.Prefix.{Network}
use Rattle.lab_text.specs.declared.line.LineFault.{LineFault}
use Rattle.lab_text.specs.declared.line.LineFault.TheVariants as fault
use Rattle.lab_text.specs.Forms.{number_in, parts, prefix_of}
use Rattle.lab_text.specs.Line.{text_fault}
use Rattle.lab_text.specs.Words.{words, is_blank_text}
use Rattle.rule_model.specs.declared.refusal.RuleRefusal.{RuleRefusal}
use Rattle.rule_model.specs.declared.refusal.RuleRefusal.TheVariants.{LineTooLong, BadByte, UnknownWord, Arity, BadPrefix, BadPorts, BadNumber, TooManyRules}
use Rattle.rule_model.specs.declared.rule.Protocol.{Protocol}
use Rattle.rule_model.specs.declared.rule.Protocol.TheVariants as protocols
use Rattle.rule_model.specs.declared.rule.Ports.{Ports}
use Rattle.rule_model.specs.declared.rule.Ports.TheVariants as ports
use Rattle.rule_model.specs.declared.rule.Decision.{Decision}
use Rattle.rule_model.specs.declared.rule.Decision.TheVariants.{Deny, Offer}
use Rattle.rule_model.specs.declared.rule.Rule.{Rule}

-- the most rules that there may be
abbrev pub greatest_rules : ℕ
greatest_rules = 256

-- *The forms of words*
abbrev pub protocol_of : List ℕ → Option Protocol
protocol_of word =
    if bytes_eq word (codes "udp") then Some protocols.Udp
    else if bytes_eq word (codes "tcp") then Some protocols.Tcp
    else if bytes_eq word (codes "two") then Some protocols.Two
    else if bytes_eq word (codes "any") then Some protocols.Any
    else None

-- LO-HI
abbrev pub range_by : (least greatest : Option ℕ) → Option Ports
range_by (Some least) (Some greatest) = if nat_le least greatest then Some (ports.Between least greatest) else None
range_by least greatest = None

abbrev pub ports_of : List ℕ → Option Ports
ports_of word =
    if bytes_eq word (codes "any") then Some ports.Any
    else option_and_then (λ ends. range_by (number_in 0 65535 ends.0) (number_in 0 65535 ends.1)) (parts 45 word)

-- flows of type 2 have no ports: where only these are meant, the word is `any`
abbrev pub ports_for : Protocol → List ℕ → Option Ports
ports_for protocols.Two word = if bytes_eq word (codes "any") then Some ports.Any else None
ports_for protocols.Udp word = ports_of word
ports_for protocols.Tcp word = ports_of word
ports_for protocols.Any word = ports_of word

-- one thing after another, up to the first refusal
abbrev pub after : {A B : Type 0} → (A → Result B RuleRefusal) → Result A RuleRefusal → Result B RuleRefusal
after next (Ok value) = next value
after next (Err refusal) = Err refusal

-- *The two kinds of lines*: `deny PROTOCOL SOURCE DESTINATION PORTS PORTS`, read from left to right
abbrev pub denial_of : Protocol → (source destination source_ports destination_ports : List ℕ) → Result Rule RuleRefusal
denial_of protocol source destination source_ports destination_ports =
    after
    (λ (from : Network). after
    (λ (to : Network). after
    (λ (from_ports : Ports). after
    (λ (to_ports : Ports). Ok
    (record {
      protocol = protocol;
      source = from;
      destination = to;
      source_ports = from_ports;
      destination_ports = to_ports;
      decision = Deny;
    }))
    (ok_or (ports_for protocol destination_ports) BadPorts))
    (ok_or (ports_for protocol source_ports) BadPorts))
    (ok_or (prefix_of destination) BadPrefix))
    (ok_or (prefix_of source) BadPrefix)

abbrev pub denies : List (List ℕ) → Result Rule RuleRefusal
denies (protocol ∷ source ∷ destination ∷ source_ports ∷ destination_ports ∷ []) =
    after (λ (p : Protocol). denial_of p source destination source_ports destination_ports)
    (ok_or (protocol_of protocol) UnknownWord)
denies words = Err Arity

-- and the same with `offer`, and behind it `after PACKETS keep TICKS`; `after` and `keep` are tested with the protocol
abbrev pub offer_of : (packets ticks : List ℕ) → Result Decision RuleRefusal
offer_of packets ticks =
    after (λ (least : ℕ). after (λ (longest : ℕ). Ok (Offer least longest)) (ok_or (number_in 1 65535 ticks) BadNumber))
    (ok_or (number_in 1 65535 packets) BadNumber)

abbrev pub with_offer : Result Decision RuleRefusal → Rule → Result Rule RuleRefusal
with_offer offer rule = after (λ (decision : Decision). Ok (record rule { decision = decision })) offer

abbrev pub offers : List (List ℕ) → Result Rule RuleRefusal
offers (protocol ∷ source ∷ destination ∷ source_ports ∷ destination_ports ∷ fixed ∷ packets ∷ other_fixed ∷ ticks ∷ []) =
    if bytes_eq fixed (codes "after") && bytes_eq other_fixed (codes "keep")
    then
    after (with_offer (offer_of packets ticks))
    (after (λ (p : Protocol). denial_of p source destination source_ports destination_ports)
    (ok_or (protocol_of protocol) UnknownWord))
    else Err UnknownWord
offers words = Err Arity

abbrev pub rule_of : (first : List ℕ) → (words : List (List ℕ)) → Result Rule RuleRefusal
rule_of first words =
    if bytes_eq first (codes "deny") then denies words
    else if bytes_eq first (codes "offer") then offers words
    else Err UnknownWord

abbrev pub words_rule : List (List ℕ) → Result (Option Rule) RuleRefusal
words_rule [] = Ok None
words_rule (first ∷ others) = after (λ (rule : Rule). Ok (Some rule)) (rule_of first others)

-- *A line*, which has no end; none where it is blank
abbrev pub fault_name : LineFault → Option RuleRefusal
fault_name fault.LineTooLong = Some LineTooLong
fault_name fault.BadByte = Some BadByte
fault_name other = None

abbrev pub rule_by : Option RuleRefusal → Result (Option Rule) RuleRefusal → Result (Option Rule) RuleRefusal
rule_by None said = said
rule_by (Some refusal) said = Err refusal

abbrev pub text_rule : List ℕ → Result (Option Rule) RuleRefusal
text_rule text =
    rule_by (option_and_then fault_name (text_fault text))
    (if is_blank_text (words text) then Ok None else words_rule (words text))

-- *Behind so many rules*: the limit is tested last
abbrev pub limited : (count : ℕ) → Result (Option Rule) RuleRefusal → Result (Option Rule) RuleRefusal
limited count (Ok (Some rule)) = if nat_le greatest_rules count then Err TooManyRules else Ok (Some rule)
limited count (Ok None) = Ok None
limited count (Err refusal) = Err refusal

abbrev pub rule_says : List Rule → (text : List ℕ) → Result (Option Rule) RuleRefusal
rule_says rules text = limited (length rules) (text_rule text)
