-- the last line is written count by count

use Rattle.std.proofs.Common.{◌≡◌, ℕ, List, ◌++◌, append_assoc, ◌∙◌, ap}
use Rattle.std.specs.Prelude.{codes, decimal}
use Rattle.world_model.specs.World.{Counts}
use Rattle.record_text.specs.script_model.Reports.{end_line}

-- what is written behind a text, and what behind that
behind : (out next piece rest : List ℕ) → next ≡ out ++ piece → next ++ rest ≡ out ++ (piece ++ rest)
behind out next piece rest e = ap (λ xs. xs ++ rest) e ∙ append_assoc out piece rest

pub end_written : (out o1 o2 o3 o4 o5 o6 o7 o8 o9 last : List ℕ) (lines : ℕ) (c : Counts)
    → o1 ≡ out ++ (codes "end events " ++ decimal lines) → o2 ≡ o1 ++ (codes " sent " ++ decimal c.sent) → o3 ≡ o2 ++ (codes " delivered " ++ decimal c.delivered)
    → o4 ≡ o3 ++ (codes " dropped " ++ decimal c.dropped) → o5 ≡ o4 ++ (codes " refused " ++ decimal c.refused) → o6 ≡ o5 ++ (codes " losses " ++ decimal c.losses)
    → o7 ≡ o6 ++ (codes " redirects " ++ decimal c.redirects) → o8 ≡ o7 ++ (codes " switched " ++ decimal c.switched) → o9 ≡ o8 ++ (codes " chance " ++ decimal c.chance)
    → last ≡ o9 ++ codes "\n" → last ≡ out ++ end_line lines c
end_written out o1 o2 o3 o4 o5 o6 o7 o8 o9 last lines c e1 e2 e3 e4 e5 e6 e7 e8 e9 e10 =
    e10 ∙ behind o8 o9 _ _ e9 ∙ behind o7 o8 _ _ e8 ∙ behind o6 o7 _ _ e7 ∙ behind o5 o6 _ _ e6 ∙ behind o4 o5 _ _ e5 ∙ behind o3 o4 _ _ e4 ∙ behind o2 o3 _ _ e3
    ∙ behind o1 o2 _ _ e2 ∙ behind out o1 _ _ e1
