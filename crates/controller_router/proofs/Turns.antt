-- Ports in turn, where a loop has come so far.

use Rattle.std.proofs.Common.{◌≡◌, ℕ, zero, suc, ◌+◌, ◌<◌, ◌≤◌, List, [], ◌∷◌, length, drop, get_or, refl, sym, ap, ◌∙◌, arith}
use Rattle.net_types.specs.declared.node.PortNo.{PortNo}

first : (ports : List PortNo) (k : ℕ) (d : PortNo) → k < length ports → drop k ports ≡ get_or ports k d ∷ drop (suc k) ports
first [] k d within = absurd (omega (arith, within))
first (port ∷ ports) zero d within = refl
first (port ∷ ports) (suc k) d within = first ports k d (omega (arith, within))

-- the ports that are left begin with the one at this place
pub later : (ports before : List PortNo) (k : ℕ) (port : PortNo) → k < length before → ports ≡ before → ((d : PortNo) → get_or ports k d ≡ port) → drop k before ≡ port ∷ drop (k + 1) before
later ports before k port within same is =
    let next : suc k ≡ k + 1 = omega arith in
    first before k port within ∙ (λ i. (ap (λ all. get_or all k port) (sym same) ∙ is port) i ∷ ap (λ m. drop m before) next i)

pub nothing_left : (ports : List PortNo) (k : ℕ) → length ports ≤ k → drop k ports ≡ []
nothing_left [] zero past = refl
nothing_left [] (suc k) past = refl
nothing_left (port ∷ ports) zero past = absurd (omega (arith, past))
nothing_left (port ∷ ports) (suc k) past = nothing_left ports k (omega (arith, past))
