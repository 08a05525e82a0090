-- a rule that a line says has prefixes, and ranges of ports that aren't empty

use Rattle.std.proofs.Common.{◌≡◌, ◌∙◌, ℕ, ◌<◌, ◌≤◌, ◌^◌, ◌==◌, ◌&&◌, Bool, true, false, List, [], ◌∷◌, length, nat_le, bytes_eq, codes, Option, None, Some, Result, Ok, Err, refl, sym, ap, subst, arith, option_and_then, if◌then◌else◌}
use Rattle.std.specs.Option.{ok_or}
use Rattle.std.specs.Result.{result_unwrap_or}
use Rattle.std.proofs.lemmas.Bool.Decides.{nat_tests}
use Rattle.net_types.specs.Prefix.{Network}
use Rattle.lab_text.specs.Forms.{number_in, parts, prefix_of}
use Rattle.lab_text.specs.Line.{text_fault}
use Rattle.lab_text.specs.Words.{words, is_blank_text}
use Rattle.script_model.specs.Forms.{PrefixWord}
use Rattle.script_model.proofs.ReadForms.{none_is, some_is, then_some, if_some, number_is, read_all_is}
use Rattle.rule_model.specs.declared.refusal.RuleRefusal.{RuleRefusal}
use Rattle.rule_model.specs.declared.refusal.RuleRefusal.TheVariants.{UnknownWord, Arity, BadPrefix, BadPorts, BadNumber}
use Rattle.rule_model.specs.declared.rule.Protocol.{Protocol}
use Rattle.rule_model.specs.declared.rule.Protocol.TheVariants as protocols
use Rattle.rule_model.specs.declared.rule.Ports.{Ports}
use Rattle.rule_model.specs.declared.rule.Ports.TheVariants as ports
use Rattle.rule_model.specs.declared.rule.Decision.{Decision}
use Rattle.rule_model.specs.declared.rule.Decision.TheVariants.{Deny}
use Rattle.rule_model.specs.declared.rule.Rule.{Rule}
use Rattle.rule_model.specs.Covering.{IsPrefix, IsRange, IsRule}
use Rattle.rule_model.specs.Reading.{protocol_of, range_by, ports_of, ports_for, after, denial_of, denies, offer_of, with_offer, offers, rule_of, words_rule, fault_name, rule_by, text_rule}

ok_is : {A : Type 0} (x y : A) → ◌≡◌ {A = Result A RuleRefusal} (Ok x) (Ok y) → x ≡ y
ok_is x y e = ap (λ r. result_unwrap_or r x) e

after_ok : {A B : Type 0} (next : A → Result B RuleRefusal) (r : Result A RuleRefusal) (y : B) → after next r ≡ Ok y
    → (x : A) × (r ≡ Ok x) × (next x ≡ Ok y)
after_ok next (Ok x) y e = (x, refl, e)
after_ok next (Err refusal) y e = absurd (cc e)

-- *Prefixes*
prefix_said : (word : List ℕ) (network : Network) → prefix_of word ≡ Some network → IsPrefix network
prefix_said [] network e = absurd (none_is network e)
prefix_said (octet ∷ octets) network e =
    let read = read_all_is (PrefixWord ∷ []) ((octet ∷ octets) ∷ []) (network, tt) (omega arith, tt) (rw e refl) in
    record { network_is = read.0.1; fits = read.0.0 }

-- *Ports*
range_said : (least greatest : Option ℕ) (taken : Ports) → ((n : ℕ) → greatest ≡ Some n → n ≤ 65535) → range_by least greatest ≡ Some taken → IsRange taken
range_said None greatest taken few e = absurd (none_is taken e)
range_said (Some least) None taken few e = absurd (none_is taken e)
range_said (Some least) (Some greatest) taken few e =
    let told = if_some (nat_le least greatest) (ports.Between least greatest) taken e in
    let high : greatest ≤ 65535 = few greatest refl in
    subst IsRange told.1 (grind (arith, nat_tests, told.0), omega (arith, high))

any_said : (b : Bool) (found : Option Ports) (taken : Ports) → ((found_is : Ports) → found ≡ Some found_is → IsRange found_is) → (if b then Some ports.Any else found) ≡ Some taken → IsRange taken
any_said true found taken rest e = subst IsRange (some_is ports.Any taken e) tt
any_said false found taken rest e = rest taken e

ports_said : (word : List ℕ) (taken : Ports) → ports_of word ≡ Some taken → IsRange taken
ports_said word taken e =
    any_said (bytes_eq word (codes "any")) (option_and_then (λ ends. range_by (number_in 0 65535 ends.0) (number_in 0 65535 ends.1)) (parts 45 word)) taken
    (λ found is.
    let ends = then_some (λ (ends : List ℕ × List ℕ). range_by (number_in 0 65535 ends.0) (number_in 0 65535 ends.1)) (parts 45 word) found is in
    range_said (number_in 0 65535 ends.0.0) (number_in 0 65535 ends.0.1) found (λ n told. (number_is 0 65535 ends.0.1 n told).1) ends.2)
    e

ports_for_said : (protocol : Protocol) (word : List ℕ) (taken : Ports) → ports_for protocol word ≡ Some taken → IsRange taken
ports_for_said protocols.Udp word taken e = ports_said word taken e
ports_for_said protocols.Tcp word taken e = ports_said word taken e
ports_for_said protocols.Any word taken e = ports_said word taken e
ports_for_said protocols.Two word taken e =
    any_said (bytes_eq word (codes "any")) None taken (λ found is. absurd (none_is found is)) e

-- *Rules*
abbrev rule_from : Protocol → (from to : Option Network) → (from_ports to_ports : Option Ports) → Result Rule RuleRefusal
rule_from protocol from to from_ports to_ports =
    after
    (λ (source : Network). after
    (λ (destination : Network). after
    (λ (source_ports : Ports). after
    (λ (destination_ports : Ports). Ok
    (record {
      protocol = protocol;
      source = source;
      destination = destination;
      source_ports = source_ports;
      destination_ports = destination_ports;
      decision = Deny;
    }))
    (ok_or to_ports BadPorts))
    (ok_or from_ports BadPorts))
    (ok_or to BadPrefix))
    (ok_or from BadPrefix)

rule_from_said : (protocol : Protocol) (from to : Option Network) (from_ports to_ports : Option Ports) (rule : Rule)
    → ((network : Network) → from ≡ Some network → IsPrefix network) → ((network : Network) → to ≡ Some network → IsPrefix network)
    → ((taken : Ports) → from_ports ≡ Some taken → IsRange taken) → ((taken : Ports) → to_ports ≡ Some taken → IsRange taken)
    → rule_from protocol from to from_ports to_ports ≡ Ok rule → IsRule rule
rule_from_said protocol None to from_ports to_ports rule a b c d e = absurd (cc e)
rule_from_said protocol (Some from) None from_ports to_ports rule a b c d e = absurd (cc e)
rule_from_said protocol (Some from) (Some to) None to_ports rule a b c d e = absurd (cc e)
rule_from_said protocol (Some from) (Some to) (Some from_ports) None rule a b c d e = absurd (cc e)
rule_from_said protocol (Some from) (Some to) (Some from_ports) (Some to_ports) rule a b c d e =
    subst IsRule
    (ok_is (record { protocol = protocol; source = from; destination = to; source_ports = from_ports; destination_ports = to_ports; decision = Deny }) rule e)
    (record { source = a from refl; destination = b to refl; source_ports = c from_ports refl; destination_ports = d to_ports refl })

denial_said : (protocol : Protocol) (source destination source_ports destination_ports : List ℕ) (rule : Rule) → denial_of protocol source destination source_ports destination_ports ≡ Ok rule → IsRule rule
denial_said protocol source destination source_ports destination_ports rule e =
    rule_from_said protocol (prefix_of source) (prefix_of destination) (ports_for protocol source_ports) (ports_for protocol destination_ports) rule
    (prefix_said source) (prefix_said destination) (ports_for_said protocol source_ports) (ports_for_said protocol destination_ports) e

by_protocol_said : (found : Option Protocol) (source destination source_ports destination_ports : List ℕ) (rule : Rule)
    → after (λ (p : Protocol). denial_of p source destination source_ports destination_ports) (ok_or found UnknownWord) ≡ Ok rule → IsRule rule
by_protocol_said None source destination source_ports destination_ports rule e = absurd (cc e)
by_protocol_said (Some p) source destination source_ports destination_ports rule e = denial_said p source destination source_ports destination_ports rule e

denies_said : (ws : List (List ℕ)) (rule : Rule) → denies ws ≡ Ok rule → IsRule rule
denies_said [] rule e = absurd (cc e)
denies_said (a ∷ []) rule e = absurd (cc e)
denies_said (a ∷ b ∷ []) rule e = absurd (cc e)
denies_said (a ∷ b ∷ c ∷ []) rule e = absurd (cc e)
denies_said (a ∷ b ∷ c ∷ d ∷ []) rule e = absurd (cc e)
denies_said (a ∷ b ∷ c ∷ d ∷ f ∷ []) rule e = by_protocol_said (protocol_of a) b c d f rule e
denies_said (a ∷ b ∷ c ∷ d ∷ f ∷ g ∷ more) rule e = absurd (cc e)

-- an offer is of the same flows
offer_kept : (offer : Result Decision RuleRefusal) (denied rule : Rule) → with_offer offer denied ≡ Ok rule → IsRule denied → IsRule rule
offer_kept (Err refusal) denied rule e is = absurd (cc e)
offer_kept (Ok decision) denied rule e is =
    subst IsRule (ok_is (record denied { decision = decision }) rule e)
    (record { source = is.source; destination = is.destination; source_ports = is.source_ports; destination_ports = is.destination_ports })

fixed_said : (fixed : Bool) (a b c d f packets ticks : List ℕ) (rule : Rule)
    → (if fixed then after (with_offer (offer_of packets ticks)) (after (λ (p : Protocol). denial_of p b c d f) (ok_or (protocol_of a) UnknownWord)) else Err UnknownWord) ≡ Ok rule → IsRule rule
fixed_said false a b c d f packets ticks rule e = absurd (cc e)
fixed_said true a b c d f packets ticks rule e =
    let denied = after_ok (with_offer (offer_of packets ticks)) (after (λ (p : Protocol). denial_of p b c d f) (ok_or (protocol_of a) UnknownWord)) rule e in
    offer_kept (offer_of packets ticks) denied.0 rule denied.2 (by_protocol_said (protocol_of a) b c d f denied.0 denied.1)

offers_said : (ws : List (List ℕ)) (rule : Rule) → offers ws ≡ Ok rule → IsRule rule
offers_said [] rule e = absurd (cc e)
offers_said (a ∷ []) rule e = absurd (cc e)
offers_said (a ∷ b ∷ []) rule e = absurd (cc e)
offers_said (a ∷ b ∷ c ∷ []) rule e = absurd (cc e)
offers_said (a ∷ b ∷ c ∷ d ∷ []) rule e = absurd (cc e)
offers_said (a ∷ b ∷ c ∷ d ∷ f ∷ []) rule e = absurd (cc e)
offers_said (a ∷ b ∷ c ∷ d ∷ f ∷ g ∷ []) rule e = absurd (cc e)
offers_said (a ∷ b ∷ c ∷ d ∷ f ∷ g ∷ h ∷ []) rule e = absurd (cc e)
offers_said (a ∷ b ∷ c ∷ d ∷ f ∷ g ∷ h ∷ i ∷ []) rule e = absurd (cc e)
offers_said (a ∷ b ∷ c ∷ d ∷ f ∷ g ∷ h ∷ i ∷ j ∷ []) rule e =
    fixed_said (bytes_eq g (codes "after") && bytes_eq i (codes "keep")) a b c d f h j rule e
offers_said (a ∷ b ∷ c ∷ d ∷ f ∷ g ∷ h ∷ i ∷ j ∷ k ∷ more) rule e = absurd (cc e)

kind_said : (deny offer : Bool) (ws : List (List ℕ)) (rule : Rule) → (if deny then denies ws else (if offer then offers ws else Err UnknownWord)) ≡ Ok rule → IsRule rule
kind_said true offer ws rule e = denies_said ws rule e
kind_said false true ws rule e = offers_said ws rule e
kind_said false false ws rule e = absurd (cc e)

some_rule_is : (x y : Rule) → ◌≡◌ {A = Result (Option Rule) RuleRefusal} (Ok (Some x)) (Ok (Some y)) → x ≡ y
some_rule_is x y e = some_is x y (ap (λ r. result_unwrap_or r (Some x)) e)

rule_some : (found : Result Rule RuleRefusal) (rule : Rule) → after (λ (r : Rule). Ok (Some r)) found ≡ Ok (Some rule) → found ≡ Ok rule
rule_some (Ok x) rule e = ap Ok (some_rule_is x rule e)
rule_some (Err refusal) rule e = absurd (cc e)

words_said : (ws : List (List ℕ)) (rule : Rule) → words_rule ws ≡ Ok (Some rule) → IsRule rule
words_said [] rule e = absurd (none_is rule (ap (λ r. result_unwrap_or r None) e))
words_said (first ∷ others) rule e =
    kind_said (bytes_eq first (codes "deny")) (bytes_eq first (codes "offer")) others rule (rule_some (rule_of first others) rule e)

blank_said : (blank : Bool) (ws : List (List ℕ)) (rule : Rule) → (if blank then Ok None else words_rule ws) ≡ Ok (Some rule) → IsRule rule
blank_said true ws rule e = absurd (none_is rule (ap (λ r. result_unwrap_or r None) e))
blank_said false ws rule e = words_said ws rule e

unrefused : (refusal : Option RuleRefusal) (said : Result (Option Rule) RuleRefusal) (rule : Rule) → rule_by refusal said ≡ Ok (Some rule) → said ≡ Ok (Some rule)
unrefused None said rule e = e
unrefused (Some name) said rule e = absurd (cc e)

pub text_said : (text : List ℕ) (rule : Rule) → text_rule text ≡ Ok (Some rule) → IsRule rule
text_said text rule e =
    blank_said (is_blank_text (words text)) (words text) rule
    (unrefused (option_and_then fault_name (text_fault text)) (if is_blank_text (words text) then Ok None else words_rule (words text)) rule e)

-- *Another number of words*
pub denies_else : (ws : List (List ℕ)) → 5 == length ws ≡ false → denies ws ≡ Err Arity
denies_else [] e = refl
denies_else (a ∷ []) e = refl
denies_else (a ∷ b ∷ []) e = refl
denies_else (a ∷ b ∷ c ∷ []) e = refl
denies_else (a ∷ b ∷ c ∷ d ∷ []) e = refl
denies_else (a ∷ b ∷ c ∷ d ∷ f ∷ []) e = absurd (cc e)
denies_else (a ∷ b ∷ c ∷ d ∷ f ∷ g ∷ more) e = refl

pub offers_else : (ws : List (List ℕ)) → 9 == length ws ≡ false → offers ws ≡ Err Arity
offers_else [] e = refl
offers_else (a ∷ []) e = refl
offers_else (a ∷ b ∷ []) e = refl
offers_else (a ∷ b ∷ c ∷ []) e = refl
offers_else (a ∷ b ∷ c ∷ d ∷ []) e = refl
offers_else (a ∷ b ∷ c ∷ d ∷ f ∷ []) e = refl
offers_else (a ∷ b ∷ c ∷ d ∷ f ∷ g ∷ []) e = refl
offers_else (a ∷ b ∷ c ∷ d ∷ f ∷ g ∷ h ∷ []) e = refl
offers_else (a ∷ b ∷ c ∷ d ∷ f ∷ g ∷ h ∷ i ∷ []) e = refl
offers_else (a ∷ b ∷ c ∷ d ∷ f ∷ g ∷ h ∷ i ∷ j ∷ []) e = absurd (cc e)
offers_else (a ∷ b ∷ c ∷ d ∷ f ∷ g ∷ h ∷ i ∷ j ∷ k ∷ more) e = refl

-- *A line that was read*
pub line_said : (text : List ℕ) (result : Result (Option Rule) RuleRefusal) (found : Option Rule) (rule : Rule) → result ≡ text_rule text → result ≡ Ok found → found ≡ Some rule → IsRule rule
line_said text result found rule read was is = text_said text rule (sym read ∙ (was ∙ ap Ok is))
