-- The octets of an address are written one by one, each with a dot behind it but the last

use Rattle.std.proofs.Common.{◌≡◌, List, ℕ, ◌++◌, codes, append_assoc, ap, ◌∙◌}
use Rattle.std.specs.Prelude.{decimal}
use Rattle.lab_text.specs.Kept.{BreaksOff}
use Rattle.lab_text.proofs.Fronts.{as_text, here, next}

-- a number with its dot, which is told in other words
dotted : (a b : ℕ) (rest : List ℕ) → a ≡ b → (decimal a ++ codes ".") ++ rest ≡ decimal b ++ (codes "." ++ rest)
dotted a b rest same = append_assoc (decimal a) (codes ".") rest ∙ ap (λ n. decimal n ++ (codes "." ++ rest)) same

pub dot_told : (old mid new : List ℕ) (a b : ℕ) (rest : List ℕ) → a ≡ b → mid ≡ old ++ (decimal a ++ codes ".") → new ≡ mid ++ rest
    → new ≡ old ++ (decimal b ++ (codes "." ++ rest))
dot_told old mid new a b rest same first told =
    told ∙ (ap (λ xs. xs ++ rest) first ∙ (append_assoc old (decimal a ++ codes ".") rest ∙ ap (λ xs. old ++ xs) (dotted a b rest same)))

pub dot_here : (old new : List ℕ) (a b : ℕ) (rest : List ℕ) → a ≡ b → BreaksOff old (old ++ (decimal a ++ codes ".")) new
    → BreaksOff old (old ++ (decimal b ++ (codes "." ++ rest))) new
dot_here old new a b rest same broke =
    as_text old ((decimal a ++ codes ".") ++ rest) (decimal b ++ (codes "." ++ rest)) new (dotted a b rest same) (here old (decimal a ++ codes ".") rest new broke)

pub dot_next : (old mid new : List ℕ) (a b : ℕ) (rest : List ℕ) → a ≡ b → mid ≡ old ++ (decimal a ++ codes ".") → BreaksOff mid (mid ++ rest) new
    → BreaksOff old (old ++ (decimal b ++ (codes "." ++ rest))) new
dot_next old mid new a b rest same first broke =
    as_text old ((decimal a ++ codes ".") ++ rest) (decimal b ++ (codes "." ++ rest)) new (dotted a b rest same) (next old mid (decimal a ++ codes ".") rest new first broke)
