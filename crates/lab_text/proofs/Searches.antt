-- the place that a search for an octet found
use Rattle.std.proofs.Common.{◌≡◌, ℕ, Bool, true, false, List, Option, None, Some, length, nat_lt, refl, sym, ap, arith}
use Rattle.std.specs.Prelude.{position}
use Rattle.std.specs.List.{position_or_len}
use Rattle.std.proofs.lemmas.Bool.{false_from_ne_true}
use Rattle.std.proofs.lemmas.Bool.Decides.{nat_tests}
use Rattle.std.proofs.lemmas.List.Sums.{position_or_len_is}
use Rattle.memchr.specs.Find.{IsFirstByte}

pub found_nowhere : (test : ℕ → Bool) (octets : List ℕ) → IsFirstByte test octets None → length octets ≡ position_or_len test octets
found_nowhere test octets none =
    sym (position_or_len_is test octets (length octets) 0 (omega arith)
    (λ k within. false_from_ne_true _ (none k (omega arith) within))
    (λ past. absurd (omega arith)))

pub found_first : (test : ℕ → Bool) (octets : List ℕ) (place : ℕ) → IsFirstByte test octets (Some place) → place ≡ position_or_len test octets
found_first test octets place found =
    sym (position_or_len_is test octets place 0 (omega (arith, found.0.high))
    (λ k before. false_from_ne_true _ (found.0.before k (omega arith) before))
    (λ within. found.1))

-- as an option
pub found_position : (test : ℕ → Bool) (octets : List ℕ) (found : Option ℕ) → IsFirstByte test octets found → found ≡ position test octets
found_position test octets None none =
    let past : nat_lt (position_or_len test octets) (length octets) ≡ false = grind (arith, nat_tests, found_nowhere test octets none) in
    rw past refl
found_position test octets (Some place) found =
    let at : place ≡ position_or_len test octets = found_first test octets place found in
    let within : nat_lt (position_or_len test octets) (length octets) ≡ true = rw (← at) (grind (arith, nat_tests, found.0.high)) in
    rw within (ap Some at)
