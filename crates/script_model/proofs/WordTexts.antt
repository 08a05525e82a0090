-- each text of a value is a word

use Rattle.std.proofs.Common.{◌≡◌, ℕ, ◌^◌, ◌<◌, ◌≤◌, ◌&&◌, ◌||◌, Bool, true, false, List, [], ◌∷◌, ◌++◌, length, nat_lt, nat_le, slice_index, decimal, refl, ◌∙◌, arith, length-append}
use Rattle.std.specs.List.{list_all}
use Rattle.std.specs.Char.{is_ascii_digit, is_ascii_hexdigit}
use Rattle.std.specs.Int.{byte_at}
use Rattle.std.proofs.lemmas.Bool.Decides.{nat_tests}
use Rattle.std.proofs.lemmas.Fmt.{decimal_nonempty}
use Rattle.std.proofs.lemmas.List.Folds.{list_all-append}
use Rattle.net_types.specs.declared.prefix.Addr.{Addr}
use Rattle.net_types.specs.declared.node.PortNo.{PortNo}
use Rattle.net_types.specs.declared.channel.Channel.{Channel}
use Rattle.net_types.specs.Prefix.{Network}
use Rattle.rule_model.specs.lab_text.Forms.{is_letter, is_name, is_name_octet}
use Rattle.rule_model.specs.lab_text.Text.{hex_digits}
use Rattle.world_model.specs.Conditions.{AreOctets}
use Rattle.script_model.specs.Texts.{dotted_text, address_text, prefix_text, channel_text, end_text}
use Rattle.script_model.proofs.Numbers.{decimal_digits}
use Rattle.script_model.proofs.ReadBack.{AreSmall, byte_small, bytes_small, name_octets, bytes_of, hex_all, hex_length}
use Rattle.script_model.proofs.Tokens.{is_plain, IsWord}

-- octets that pass a test that plain ones pass
plain_by : (test : ℕ → Bool) → ((c : ℕ) → test c ≡ true → is_plain c ≡ true) → (text : List ℕ) → list_all test text ≡ true
    → list_all is_plain text ≡ true
plain_by test says [] all = refl
plain_by test says (c ∷ cs) all = by (test c) refl all (plain_by test says cs)
  where
    by : (passes : Bool) → test c ≡ passes → (passes && list_all test cs) ≡ true
        → (list_all test cs ≡ true → list_all is_plain cs ≡ true) → list_all is_plain (c ∷ cs) ≡ true
    by true told e rest = rw (says c told, rest e) refl
    by false told e rest = absurd (cc)

plain_within : (c least greatest : ℕ) → 33 ≤ least → greatest ≤ 126 → (nat_le least c && nat_le c greatest) ≡ true
    → is_plain c ≡ true
plain_within c least greatest low high e = by (nat_le least c) refl (nat_le c greatest) refl e
  where
    by : (above : Bool) → nat_le least c ≡ above → (below : Bool) → nat_le c greatest ≡ below → (above && below) ≡ true
        → is_plain c ≡ true
    by true a true b e =
        let over : nat_lt 32 c ≡ true = grind (arith, nat_tests) in
        let under : nat_le c 126 ≡ true = grind (arith, nat_tests) in
        rw (over, under) refl
    by true a false b e = absurd (cc)
    by false a below b e = absurd (cc)

plain_either : (c : ℕ) (one other : Bool) → (one ≡ true → is_plain c ≡ true) → (other ≡ true → is_plain c ≡ true)
    → (one || other) ≡ true → is_plain c ≡ true
plain_either c true other first second e = first refl
plain_either c false other first second e = second e

digit_plain : (c : ℕ) → is_ascii_digit c ≡ true → is_plain c ≡ true
digit_plain c e = plain_within c 48 57 (omega arith) (omega arith) e

name_plain : (c : ℕ) → is_name_octet c ≡ true → is_plain c ≡ true
name_plain c e =
    plain_either c (is_letter c) (nat_le 48 c && nat_le c 57)
    (plain_within c 97 122 (omega arith) (omega arith)) (plain_within c 48 57 (omega arith) (omega arith)) e

hex_plain : (c : ℕ) → is_ascii_hexdigit c ≡ true → is_plain c ≡ true
hex_plain c e =
    plain_either c ((nat_le 48 c && nat_le c 57) || (nat_le 65 c && nat_le c 70)) (nat_le 97 c && nat_le c 102)
    (plain_either c (nat_le 48 c && nat_le c 57) (nat_le 65 c && nat_le c 70)
    (plain_within c 48 57 (omega arith) (omega arith)) (plain_within c 65 70 (omega arith) (omega arith)))
    (plain_within c 97 102 (omega arith) (omega arith)) e

-- one text behind another
plain_append : (xs ys : List ℕ) → list_all is_plain xs ≡ true → list_all is_plain ys ≡ true → list_all is_plain (xs ++ ys) ≡ true
plain_append xs ys first second = list_all-append is_plain xs ys ∙ rw (first, second) refl

pub word_append : (xs ys : List ℕ) → IsWord xs → list_all is_plain ys ≡ true → IsWord (xs ++ ys)
word_append xs ys first second = (omega (arith, first.0, length-append xs ys), plain_append xs ys first.1 second)

-- *Numbers and addresses*
pub decimal_word : (n : ℕ) → n < 2 ^ 64 → IsWord (decimal n)
decimal_word n few = (decimal_nonempty n few, plain_by is_ascii_digit digit_plain (decimal n) (decimal_digits n few))

dotted_word : (n : ℕ) (ns : List ℕ) → n ≤ 255 → AreSmall ns → IsWord (dotted_text (n ∷ ns))
dotted_word n [] within rest = decimal_word n (omega arith)
dotted_word n (m ∷ ms) within rest =
    word_append (decimal n) (46 ∷ dotted_text (m ∷ ms)) (decimal_word n (omega arith)) (dotted_word m ms rest.0 rest.1).1

pub address_word : (a : Addr) → IsWord (address_text a)
address_word a =
    dotted_word (byte_at 3 a.0) (byte_at 2 a.0 ∷ byte_at 1 a.0 ∷ byte_at 0 a.0 ∷ []) (byte_small 3 a.0) (bytes_small a.0)

pub prefix_word : (p : Network) → p.len ≤ 32 → IsWord (prefix_text p)
prefix_word p within =
    word_append (address_text p.addr) (47 ∷ decimal p.len) (address_word p.addr) (decimal_word p.len (omega arith)).1

pub channel_word : (c : Channel) → c.vpi ≤ 255 → c.vci ≤ 65535 → IsWord (channel_text c)
channel_word c vpi vci =
    word_append (decimal c.vpi) (47 ∷ decimal c.vci) (decimal_word c.vpi (omega arith)) (decimal_word c.vci (omega arith)).1

-- *Names and what stands behind them*
pub name_word : (name : List ℕ) → is_name name ≡ true → IsWord name
name_word name is = (by (nat_le 1 (length name)) refl is, plain_by is_name_octet name_plain name (name_octets name is))
  where
    by : (some : Bool) → nat_le 1 (length name) ≡ some
        → (some && (nat_le (length name) 16 && (is_letter (slice_index name 0) && list_all is_name_octet name))) ≡ true
        → 0 < length name
    by true told e = grind (arith, nat_tests)
    by false told e = absurd (cc)

pub end_word : (name : List ℕ) (port : PortNo) → is_name name ≡ true → port.0 ≤ 8 → IsWord (end_text name port)
end_word name port is within =
    word_append name (58 ∷ decimal port.0) (name_word name is) (decimal_word port.0 (omega arith)).1

-- *Octets*
pub hex_word : (octets : List ℕ) → 0 < length octets → AreOctets octets → IsWord (hex_digits octets)
hex_word octets some are =
    (omega (arith, hex_length octets), plain_by is_ascii_hexdigit hex_plain (hex_digits octets) (hex_all octets (bytes_of octets are)))
