-- what is so of each value that was read

use Rattle.std.proofs.Common.{◌≡◌, ℕ, zero, suc, ◌+◌, ◌*◌, ◌/◌, ◌%◌, ◌-◌, ◌^◌, ◌<◌, ◌≤◌, ◌==◌, ◌&&◌, ◌||◌, Bool, true, false, List, [], ◌∷◌, length, nat_lt, nat_le, bytes_eq, slice_index, Some, None, Ok, Err, Option, Result, is_some, unwrap_or, codes, refl, ap, ◌∙◌, arith, subst, ok_or, option_map, option_and_then, if◌then◌else◌}
use Rattle.std.specs.Int.{w32, from_be_bytes}
use Rattle.std.specs.List.{list_all}
use Rattle.std.specs.Result.{result_unwrap_or}
use Rattle.std.specs.Char.{is_ascii_hexdigit, digit_value}
use Rattle.std.proofs.lemmas.Bool.Decides.{nat_tests}
use Rattle.net_types.specs.declared.prefix.Addr.{Addr}
use Rattle.net_types.specs.declared.node.PortNo.{PortNo}
use Rattle.net_types.specs.declared.channel.Channel.{Channel}
use Rattle.net_types.specs.Label.{is_label_number, is_label_channel, label_number_of, number_of_channel}
use Rattle.net_types.specs.Prefix.{Network, IsNetwork}
use Rattle.rule_model.specs.lab_text.Forms.{is_name, within, number_in, parts, dotted, address_of, network_of, prefix_of}
use Rattle.rule_model.specs.lab_text.Numeral.{number, is_hex, hex_octets, paired}
use Rattle.world_model.specs.Conditions.{IsWithin, IsPort, AreOctets}
use Rattle.script_model.specs.declared.refusal.LineRefusal.{LineRefusal}
use Rattle.script_model.specs.declared.refusal.LineRefusal.TheVariants as why
use Rattle.script_model.specs.Forms.{QueueSide, FromController, FromPort, Form, FixedWord, NameWord, NameOrAll, AddressWord, PrefixWord, NumberWord, EndWord, QueueWord, ChannelWord, LabelWord, HexWord, PayloadWord, Value, Values, port_of, behind_name, end_of, side_of, queue_of, channel_by, channel_of, label_of, payload_of, name_or_all, read, after, read_all}
use Rattle.script_model.specs.Sayable.{IsName, IsPrefix}

-- *From an answer to what was tested*
pub some_is : {A : Type 0} (x y : A) → Some x ≡ Some y → x ≡ y
some_is x y e = ap (λ o. unwrap_or o x) e

pub ok_is : {A : Type 0} (x y : A) → ◌≡◌ {A = Result A LineRefusal} (Ok x) (Ok y) → x ≡ y
ok_is x y e = ap (λ r. result_unwrap_or r x) e

pub none_is : {A : Type 0} (y : A) → None ≡ Some y → ⊥
none_is y e =
    let told : false ≡ true = ap is_some e in
    cc

pub map_some : {A B : Type 0} (f : A → B) (o : Option A) (y : B) → option_map f o ≡ Some y
    → (x : A) × (o ≡ Some x) × (f x ≡ y)
map_some f None y e = absurd (none_is y e)
map_some f (Some x) y e = (x, refl, some_is (f x) y e)

pub then_some : {A B : Type 0} (f : A → Option B) (o : Option A) (y : B) → option_and_then f o ≡ Some y
    → (x : A) × (o ≡ Some x) × (f x ≡ Some y)
then_some f None y e = absurd (none_is y e)
then_some f (Some x) y e = (x, refl, e)

pub ok_or_ok : {A : Type 0} (o : Option A) (refusal : LineRefusal) (x : A) → ok_or o refusal ≡ Ok x → o ≡ Some x
ok_or_ok None refusal x e = absurd (cc)
ok_or_ok (Some y) refusal x e = ap Some (ok_is y x e)

pub after_ok : {A B : Type 0} (next : A → Result B LineRefusal) (r : Result A LineRefusal) (y : B) → after next r ≡ Ok y
    → (x : A) × (r ≡ Ok x) × (next x ≡ Ok y)
after_ok next (Ok x) y e = (x, refl, e)
after_ok next (Err refusal) y e = absurd (cc)

pub if_some : {A : Type 0} (b : Bool) (x y : A) → (if b then Some x else None) ≡ Some y → (b ≡ true) × (x ≡ y)
if_some true x y e = (refl, some_is x y e)
if_some false x y e = absurd (none_is y e)

-- *Numbers*
within_is : (least greatest : ℕ) (o : Option ℕ) (n : ℕ) → within least greatest o ≡ Some n → IsWithin least greatest n
within_is least greatest None n e = absurd (none_is n e)
within_is least greatest (Some m) n e = by (nat_le least m) refl (nat_le m greatest) refl e
  where
    by : (low : Bool) → nat_le least m ≡ low → (high : Bool) → nat_le m greatest ≡ high
        → (if low && high then Some m else None) ≡ Some n → IsWithin least greatest n
    by true l true h e =
        let same : m ≡ n = some_is m n e in
        (grind (arith, nat_tests), grind (arith, nat_tests))
    by true l false h e = absurd (none_is n e)
    by false l high h e = absurd (none_is n e)

pub number_is : (least greatest : ℕ) (word : List ℕ) (n : ℕ) → number_in least greatest word ≡ Some n
    → IsWithin least greatest n
number_is least greatest word n e = within_is least greatest (number word) n e

-- *Ends and queues*
abbrev pub IsSide : QueueSide → Type 0
IsSide FromController = Unit {0}
IsSide (FromPort port) = port ≤ 8

port_is : (word : List ℕ) (port : PortNo) → port_of word ≡ Some port → IsPort port
port_is word port e =
    let found = map_some (λ p. record { 0 = p }) (number_in 1 8 word) port e in
    subst IsPort found.2 (number_is 1 8 word found.0 found.1)

side_is : (word : List ℕ) (side : QueueSide) → side_of word ≡ Some side → IsSide side
side_is word side e = by (bytes_eq word (codes "c")) e
  where
    by : (all : Bool) → (if all then Some FromController else option_map FromPort (number_in 0 8 word)) ≡ Some side → IsSide side
    by true e = subst IsSide (some_is FromController side e) tt
    by false e =
        let found = map_some FromPort (number_in 0 8 word) side e in
        subst IsSide found.2 ((number_is 0 8 word found.0 found.1).1)

behind_is : {A : Type 0} (reads : List ℕ → Option A) (halves : List ℕ × List ℕ) (out : List ℕ × A)
    → behind_name reads halves ≡ Some out → IsName out.0 × (reads halves.1 ≡ Some out.1)
behind_is {A} reads halves out e = by (is_name halves.0) refl e
  where
    by : (name : Bool) → is_name halves.0 ≡ name
        → (if name then option_map (λ value. (halves.0, value)) (reads halves.1) else None) ≡ Some out
        → IsName out.0 × (reads halves.1 ≡ Some out.1)
    by true told e =
        let found = map_some {B = List ℕ × A} (λ value. (halves.0, value)) (reads halves.1) out e in
        (subst (λ (o : List ℕ × A). IsName o.0) found.2 told, found.1 ∙ ap (λ (o : List ℕ × A). Some o.1) found.2)
    by false told e = absurd (none_is out e)

end_is : (word : List ℕ) (out : List ℕ × PortNo) → end_of word ≡ Some out → IsName out.0 × IsPort out.1
end_is word out e =
    let halves = then_some (behind_name port_of) (parts 58 word) out e in
    let behind = behind_is port_of halves.0 out halves.2 in
    (behind.0, port_is halves.0.1 out.1 behind.1)

queue_is : (word : List ℕ) (out : List ℕ × QueueSide) → queue_of word ≡ Some out → IsName out.0 × IsSide out.1
queue_is word out e =
    let halves = then_some (behind_name side_of) (parts 58 word) out e in
    let behind = behind_is side_of halves.0 out halves.2 in
    (behind.0, side_is halves.0.1 out.1 behind.1)

-- *Channels and labels*
abbrev pub IsOnLink : Channel → Type 0
IsOnLink channel = (channel.vpi ≤ 255) × (channel.vci ≤ 65535)

channel_by_is : (vpi vci : Option ℕ) (channel : Channel) → ((n : ℕ) → vpi ≡ Some n → n ≤ 255)
    → ((n : ℕ) → vci ≡ Some n → n ≤ 65535) → channel_by vpi vci ≡ Some channel → IsOnLink channel
channel_by_is (Some vpi) (Some vci) channel low high e =
    subst IsOnLink (some_is (record { vpi = vpi; vci = vci }) channel e) (low vpi refl, high vci refl)
channel_by_is (Some vpi) None channel low high e = absurd (none_is channel e)
channel_by_is None vci channel low high e = absurd (none_is channel e)

channel_is : (word : List ℕ) (channel : Channel) → channel_of word ≡ Some channel → IsOnLink channel
channel_is word channel e =
    let halves =
    then_some (λ halves. channel_by (number_in 0 255 halves.0) (number_in 0 65535 halves.1)) (parts 47 word) channel e in
    channel_by_is (number_in 0 255 halves.0.0) (number_in 0 65535 halves.0.1) channel
    (λ n told. (number_is 0 255 halves.0.0 n told).1) (λ n told. (number_is 0 65535 halves.0.1 n told).1) halves.2

pub both : (a b : Bool) → (a && b) ≡ true → (a ≡ true) × (b ≡ true)
both true true e = (refl, refl)
both true false e = absurd (cc)
both false b e = absurd (cc)

label_number_is : (vpi vci : ℕ) → is_label_channel (record { vpi = vpi; vci = vci }) ≡ true
    → is_label_number (vpi * 1024 + vci) ≡ true
label_number_is vpi vci is =
    let rest = both (nat_lt vpi 16) (nat_le 32 vci && nat_lt vci 1024) is in
    let low = both (nat_le 32 vci) (nat_lt vci 1024) rest.1 in
    let few : vci < 1024 = grind (arith, nat_tests, low.1) in
    let first : (vpi * 1024 + vci) / 1024 ≡ vpi = omega arith in
    let second : (vpi * 1024 + vci) % 1024 ≡ vci = omega arith in
    rw (first, second) is

label_is : (word : List ℕ) (n : ℕ) → label_of word ≡ Some n → is_label_number n ≡ true
label_is word n e =
    let channel = then_some label_number_of (channel_of word) n e in
    let told = if_some (is_label_channel channel.0) (number_of_channel channel.0) n channel.2 in
    subst (λ m. is_label_number m ≡ true) told.1 (label_number_is channel.0.vpi channel.0.vci told.0)

-- *Addresses and prefixes*
abbrev AreBytes : List ℕ → Type 0
AreBytes octets = (i : ℕ) → slice_index octets i ≤ 255

cons_bytes : (n : ℕ) (ns : List ℕ) → n ≤ 255 → AreBytes ns → AreBytes (n ∷ ns)
cons_bytes n ns small rest zero = small
cons_bytes n ns small rest (suc i) = rest i

dotted_is : (more : ℕ) (word octets : List ℕ) → dotted more word ≡ Some octets → AreBytes octets
dotted_is zero word octets e =
    let found = map_some (λ n. n ∷ []) (number_in 0 255 word) octets e in
    let none : AreBytes [] = λ i. omega arith in
    subst AreBytes found.2 (cons_bytes found.0 [] (number_is 0 255 word found.0 found.1).1 none)
dotted_is (suc more) word octets e =
    let halves = then_some (λ halves. option_and_then (λ n. option_map (λ others. n ∷ others) (dotted more halves.1)) (number_in 0 255 halves.0)) (parts 46 word) octets e in
    let first = then_some (λ n. option_map (λ others. n ∷ others) (dotted more halves.0.1)) (number_in 0 255 halves.0.0) octets halves.2 in
    let others = map_some (λ others. first.0 ∷ others) (dotted more halves.0.1) octets first.2 in
    subst AreBytes others.2
    (cons_bytes first.0 others.0 (number_is 0 255 halves.0.0 first.0 first.1).1 (dotted_is more halves.0.1 others.0 others.1))

address_is : (word : List ℕ) (addr : Addr) → address_of word ≡ Some addr → addr.0 < 2 ^ 32
address_is word addr e =
    let found = map_some (λ octets. record { 0 = from_be_bytes w32 octets }) (dotted 3 word) addr e in
    let small = dotted_is 3 word found.0 found.1 in
    let whole : from_be_bytes w32 found.0 < 2 ^ 32 = omega (arith, small 0, small 1, small 2, small 3) in
    subst (λ (a : Addr). a.0 < 2 ^ 32) found.2 whole

network_is : (addr : Addr) (len : ℕ) (prefix : Network) → addr.0 < 2 ^ 32 → len ≤ 32 → network_of addr len ≡ Some prefix
    → IsPrefix prefix
network_is addr len prefix few within e =
    let told = if_some (addr.0 % 2 ^ (32 - len) == 0) (record { addr = addr; len = len }) prefix e in
    let none : addr.0 % 2 ^ (32 - len) ≡ 0 = grind (arith, nat_tests, told.0) in
    let network : IsNetwork addr.0 len = record { within = within; no_host_bits = none } in
    subst IsPrefix told.1 (few, network)

prefix_is : (word : List ℕ) (prefix : Network) → prefix_of word ≡ Some prefix → IsPrefix prefix
prefix_is word prefix e =
    let halves = then_some (λ halves. option_and_then (λ addr. option_and_then (network_of addr) (number_in 0 32 halves.1)) (address_of halves.0)) (parts 47 word) prefix e in
    let addr = then_some (λ addr. option_and_then (network_of addr) (number_in 0 32 halves.0.1)) (address_of halves.0.0) prefix halves.2 in
    let len = then_some (network_of addr.0) (number_in 0 32 halves.0.1) prefix addr.2 in
    network_is addr.0 len.0 prefix (address_is halves.0.0 addr.0 addr.1) (number_is 0 32 halves.0.1 len.0 len.1).1 len.2

-- *Octets*
digit_small : (c : ℕ) → is_ascii_hexdigit c ≡ true → digit_value c < 16
digit_small c e = by (nat_le 48 c && nat_le c 57) refl (nat_le 65 c && nat_le c 70) refl (nat_le 97 c && nat_le c 102) refl e
  where
    by : (digit : Bool) → (nat_le 48 c && nat_le c 57) ≡ digit → (upper : Bool) → (nat_le 65 c && nat_le c 70) ≡ upper
        → (lower : Bool) → (nat_le 97 c && nat_le c 102) ≡ lower → ((digit || upper) || lower) ≡ true → digit_value c < 16
    by true d upper u lower l e =
        let range = both (nat_le 48 c) (nat_le c 57) d in
        let a : nat_lt c 48 ≡ false = grind (arith, nat_tests, range.0) in
        let b : nat_lt c 58 ≡ true = grind (arith, nat_tests, range.1) in
        let high : c ≤ 57 = grind (arith, nat_tests, range.1) in
        rw (a, b) (omega arith)
    by false d true u lower l e =
        let range = both (nat_le 65 c) (nat_le c 70) u in
        let low : 65 ≤ c = grind (arith, nat_tests, range.0) in
        let high : c ≤ 70 = grind (arith, nat_tests, range.1) in
        let a : nat_lt c 48 ≡ false = grind (arith, nat_tests) in
        let b : nat_lt c 58 ≡ false = grind (arith, nat_tests) in
        let f : nat_lt c 65 ≡ false = grind (arith, nat_tests) in
        let g : nat_lt c 91 ≡ true = grind (arith, nat_tests) in
        rw (a, b, f, g) (omega arith)
    by false d false u true l e =
        let range = both (nat_le 97 c) (nat_le c 102) l in
        let low : 97 ≤ c = grind (arith, nat_tests, range.0) in
        let high : c ≤ 102 = grind (arith, nat_tests, range.1) in
        let a : nat_lt c 48 ≡ false = grind (arith, nat_tests) in
        let b : nat_lt c 58 ≡ false = grind (arith, nat_tests) in
        let f : nat_lt c 65 ≡ false = grind (arith, nat_tests) in
        let g : nat_lt c 91 ≡ false = grind (arith, nat_tests) in
        let h : nat_lt c 97 ≡ false = grind (arith, nat_tests) in
        let i : nat_lt c 123 ≡ true = grind (arith, nat_tests) in
        rw (a, b, f, g, h, i) (omega arith)
    by false d false u false l e = absurd (cc)

pair_small : (high low : ℕ) (digits : List ℕ) → is_ascii_hexdigit high ≡ true → is_ascii_hexdigit low ≡ true
    → AreOctets (paired digits) → AreOctets (paired (high ∷ low ∷ digits))
pair_small high low digits one other rest zero = omega (arith, digit_small high one, digit_small low other)
pair_small high low digits one other rest (suc i) = rest i

paired_small : (word : List ℕ) → list_all is_ascii_hexdigit word ≡ true → AreOctets (paired word)
paired_small [] all = λ i. omega arith
paired_small (high ∷ []) all = λ i. omega arith
paired_small (high ∷ low ∷ digits) all =
    let first = both (is_ascii_hexdigit high) (list_all is_ascii_hexdigit (low ∷ digits)) all in
    let second = both (is_ascii_hexdigit low) (list_all is_ascii_hexdigit digits) first.1 in
    pair_small high low digits first.0 second.0 (paired_small digits second.1)

paired_some : (word : List ℕ) → 0 < length word → (length word % 2 == 0) ≡ true → 0 < length (paired word)
paired_some [] some even = absurd (omega arith)
paired_some (high ∷ []) some even = absurd (cc)
paired_some (high ∷ low ∷ digits) some even = omega arith

hex_is : (word octets : List ℕ) → 0 < length word → hex_octets word ≡ Some octets
    → (0 < length octets) × AreOctets octets
hex_is word octets some e =
    let told = if_some (is_hex word) (paired word) octets e in
    let parts = both (length word % 2 == 0) (list_all is_ascii_hexdigit word) told.0 in (
      subst (λ os. 0 < length os) told.1 (paired_some word some parts.0),
      subst AreOctets told.1 (paired_small word parts.1),
    )

payload_is : (found : Option (List ℕ)) (octets : List ℕ) → payload_of found ≡ Ok octets
    → (found ≡ Some octets) × (length octets ≤ 1528)
payload_is None octets e = absurd (cc)
payload_is (Some payload) octets e = by (nat_lt 1528 (length payload)) refl e
  where
    by : (long : Bool) → nat_lt 1528 (length payload) ≡ long
        → (if long then Err why.BadLength else Ok payload) ≡ Ok octets
        → (Some payload ≡ Some octets) × (length octets ≤ 1528)
    by true told e = absurd (cc)
    by false told e =
        let same : payload ≡ octets = ok_is payload octets e in
        let few : length payload ≤ 1528 = grind (arith, nat_tests) in
        (ap Some same, subst (λ os. length os ≤ 1528) same few)

-- *What is so of what a form gives*
abbrev pub IsNamed : Option (List ℕ) → Type 0
IsNamed None = Unit {0}
IsNamed (Some name) = IsName name

abbrev pub IsRead : (form : Form) → Value form → Type 0
IsRead (FixedWord text) value = Unit {0}
IsRead NameWord name = IsName name
IsRead NameOrAll name = IsNamed name
IsRead AddressWord addr = addr.0 < 2 ^ 32
IsRead PrefixWord prefix = IsPrefix prefix
IsRead (NumberWord least greatest) n = IsWithin least greatest n
IsRead EndWord out = IsName out.0 × IsPort out.1
IsRead QueueWord out = IsName out.0 × IsSide out.1
IsRead ChannelWord channel = IsOnLink channel
IsRead LabelWord n = is_label_number n ≡ true
IsRead HexWord octets = (0 < length octets) × AreOctets octets
IsRead PayloadWord octets = IsWithin 1 1528 (length octets) × AreOctets octets

name_read : (word name : List ℕ) → read NameWord word ≡ Ok name → IsName name
name_read word name e = by (is_name word) refl e
  where
    by : (is : Bool) → is_name word ≡ is → (if is then Ok word else Err why.BadName) ≡ Ok name → IsName name
    by true told e = subst IsName (ok_is word name e) told
    by false told e = absurd (cc)

name_or_all_read : (word : List ℕ) (name : Option (List ℕ)) → name_or_all word ≡ Ok name → IsNamed name
name_or_all_read word name e = by (bytes_eq word (codes "*")) (is_name word) refl e
  where
    by : (all is : Bool) → is_name word ≡ is
        → (if all then Ok None else (if is then Ok (Some word) else Err why.BadName)) ≡ Ok name → IsNamed name
    by true is told e = subst IsNamed (ok_is None name e) tt
    by false true told e = subst IsNamed (ok_is (Some word) name e) told
    by false false told e = absurd (cc)

read_is : (form : Form) (word : List ℕ) (value : Value form) → 0 < length word → read form word ≡ Ok value → IsRead form value
read_is (FixedWord text) word value some e = tt
read_is NameWord word name some e = name_read word name e
read_is NameOrAll word name some e = name_or_all_read word name e
read_is AddressWord word addr some e = address_is word addr (ok_or_ok (address_of word) why.BadAddress addr e)
read_is PrefixWord word prefix some e = prefix_is word prefix (ok_or_ok (prefix_of word) why.BadPrefix prefix e)
read_is (NumberWord least greatest) word n some e =
    number_is least greatest word n (ok_or_ok (number_in least greatest word) why.BadNumber n e)
read_is EndWord word out some e = end_is word out (ok_or_ok (end_of word) why.BadPlace out e)
read_is QueueWord word out some e = queue_is word out (ok_or_ok (queue_of word) why.BadPlace out e)
read_is ChannelWord word channel some e =
    channel_is word channel (ok_or_ok (channel_of word) why.BadChannel channel e)
read_is LabelWord word n some e = label_is word n (ok_or_ok (label_of word) why.BadChannel n e)
read_is HexWord word octets some e = hex_is word octets some (ok_or_ok (hex_octets word) why.BadHex octets e)
read_is PayloadWord word octets some e =
    let payload = payload_is (hex_octets word) octets e in
    let hex = hex_is word octets some payload.0 in
    ((omega (arith, hex.0), payload.1), hex.1)

-- words that aren't empty
abbrev pub AreSome : List (List ℕ) → Type 0
AreSome [] = Unit {0}
AreSome (word ∷ words) = (0 < length word) × AreSome words

abbrev pub AllRead : (forms : List Form) → Values forms → Type 0
AllRead [] values = Unit {0}
AllRead (form ∷ forms) values = IsRead form values.0 × AllRead forms values.1

pub read_all_is : (forms : List Form) (words : List (List ℕ)) (values : Values forms) → AreSome words
    → read_all forms words ≡ Ok values → AllRead forms values
read_all_is [] words values some e = tt
read_all_is (form ∷ forms) [] values some e = absurd (cc)
read_all_is (form ∷ forms) (word ∷ words) values some e =
    let first = after_ok (λ value. after (λ values. Ok (value, values)) (read_all forms words)) (read form word) values e in
    let rest = after_ok (λ values. Ok (first.0, values)) (read_all forms words) values first.2 in
    let same : (first.0, rest.0) ≡ values = ok_is (first.0, rest.0) values rest.2 in
    subst (AllRead (form ∷ forms)) same
    (read_is form word first.0 some.0 first.1, read_all_is forms words rest.0 some.1 rest.1)
