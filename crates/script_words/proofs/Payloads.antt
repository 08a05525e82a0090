-- digits of a payload

use Rattle.std.proofs.Common.{◌≡◌, ℕ, ◌<◌, ◌≤◌, ◌/◌, true, false, nat_lt, List, length, Ok, Err, refl, arith}
use Rattle.std.proofs.lemmas.Bool.Decides.{nat_tests}
use Rattle.lab_text.specs.Numeral.{is_hex, hex_octets, paired}
use Rattle.lab_text.proofs.NumeralLemmas.{paired_len}
use Rattle.script_model.specs.declared.refusal.LineRefusal.TheVariants.{BadLength}
use Rattle.script_model.specs.Forms.{payload_of}

pub too_long : (word : List ℕ) → is_hex word ≡ true → 1528 < length word / 2 → Err BadLength ≡ payload_of (hex_octets word)
too_long word hex long =
    let test : nat_lt 1528 (length (paired word)) ≡ true = grind (arith, nat_tests, paired_len word, long) in
    rw (hex, test) refl

pub fits : (word : List ℕ) → is_hex word ≡ true → length word / 2 ≤ 1528 → Ok (paired word) ≡ payload_of (hex_octets word)
fits word hex short =
    let test : nat_lt 1528 (length (paired word)) ≡ false = grind (arith, nat_tests, paired_len word, short) in
    rw (hex, test) refl
