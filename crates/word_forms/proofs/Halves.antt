-- the two parts of a word round a sign

use Rattle.std.proofs.Common.{◌≡◌, ℕ, List, ◌+◌, ◌-◌, ◌==◌, length, take, drop, Some, arith, length-drop, refl}
use Rattle.std.specs.Prelude.{position}
use Rattle.std.proofs.lemmas.List.{take_all}
use Rattle.lab_text.specs.Forms.{parts}

pub parts_at : (sign : ℕ) (word : List ℕ) (place : ℕ) → Some place ≡ position (λ octet. octet == sign) word → Some (take place word, take (length word - (place + 1)) (drop (place + 1) word)) ≡ parts sign word
parts_at sign word place e =
    rw (← e, take_all (length word - (place + 1)) (drop (place + 1) word) (omega (arith, length-drop (place + 1) word))) refl
