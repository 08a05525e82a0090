-- Texts of several parts, as parts of a longer one

use Rattle.std.proofs.Common.{◌≡◌, List, ℕ, ◌++◌, append_assoc, ap, ◌∙◌}
use Rattle.std.specs.Prelude.{decimal}
use Rattle.record_text.proofs.Parts.{flat_5}

-- a number behind what it is
pub number_part : (words : List ℕ) (a b : ℕ) (rest : List ℕ) → a ≡ b → (words ++ decimal a) ++ rest ≡ words ++ (decimal b ++ rest)
number_part words a b rest same = append_assoc words (decimal a) rest ∙ ap (λ n. words ++ (decimal n ++ rest)) same

pub flat_6 : (a b c d e f rest : List ℕ) → (a ++ (b ++ (c ++ (d ++ (e ++ f))))) ++ rest ≡ a ++ (b ++ (c ++ (d ++ (e ++ (f ++ rest)))))
flat_6 a b c d e f rest = append_assoc a (b ++ (c ++ (d ++ (e ++ f)))) rest ∙ ap (λ xs. a ++ xs) (flat_5 b c d e f rest)
