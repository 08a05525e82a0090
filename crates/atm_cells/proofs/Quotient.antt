-- long division leaves the one remainder

use Rattle.std.proofs.Common.{◌≡◌, ℕ, zero, suc, ◌+◌, ◌-◌, ◌≤◌, Bool, true, false, List, [], ◌∷◌, ◌++◌, length, replicate, refl, sym, ap, ◌∙◌, arith, length-append}
use Rattle.std.proofs.lemmas.List.{length-replicate}
use mathlib.Core.Bool.{xor}
use Rattle.atm_cells.specs.Polynomial.{plus, divided, product, remainder, IsRemainder}
use Rattle.atm_cells.proofs.Division.{plus_assoc, zeros-plus, length-plus, divided-plus}

plus-self : (p : List Bool) → plus p p ≡ replicate (length p) false
unfolding plus xor
plus-self [] = refl
plus-self (true ∷ p) = ap (λ l. false ∷ l) (plus-self p)
plus-self (false ∷ p) = ap (λ l. false ∷ l) (plus-self p)

-- what is added twice is gone
plus-plus : (g p : List Bool) → length g ≤ length p → plus g (plus g p) ≡ p
plus-plus g p within = sym (plus_assoc g g p) ∙ ap (λ l. plus l p) (plus-self g) ∙ zeros-plus (length g) p within

length-product : (q g : List Bool) → length (product q g) ≡ length q + length g
unfolding product
length-product [] g = length-replicate (length g) false ∙ omega arith
length-product (true ∷ q) g =
    let rest : length (product q g) ≡ length q + length g = length-product q g in
    omega (arith, length-plus g (product q g) (omega arith))
length-product (false ∷ q) g = let rest : length (product q g) ≡ length q + length g = length-product q g in omega arith

-- a multiple leaves nothing
divided-product : (q g : List Bool) → divided (length q) g (product q g) ≡ replicate (length g) false
unfolding divided product
divided-product [] g = refl
divided-product (true ∷ q) g =
    ap (divided (length q) g) (plus-plus g (product q g) (omega (arith, length-product q g))) ∙ divided-product q g
divided-product (false ∷ q) g = divided-product q g

-- what n steps leave, with the quotient that they find
record Divides (n : ℕ) (g p : List Bool) : Type 0 where
  quotient : List Bool
  steps : length quotient ≡ n
  is : p ≡ plus (product quotient g) (replicate n false ++ divided n g p)
  degree : length (divided n g p) ≡ length g

divides : (n : ℕ) (g p : List Bool) → length p ≡ n + length g → Divides n g p
unfolding divided product plus xor
divides zero g p long = record {
  quotient = [];
  steps = refl;
  is = sym (zeros-plus (length g) p (omega arith));
  degree = omega arith;
}
divides (suc n) g [] long = absurd (omega arith)
divides (suc n) g (true ∷ p) long =
    let longer : length g ≤ length p = omega arith in
    let rest : Divides n g (plus g p) = divides n g (plus g p) (omega (arith, length-plus g p longer)) in
    record {
      quotient = true ∷ rest.quotient;
      steps = ap suc rest.steps;
      is = ap (λ l. true ∷ l)
          (sym (plus-plus g p longer)
          ∙ ap (plus g) rest.is
          ∙ sym (plus_assoc g (product rest.quotient g) (replicate n false ++ divided n g (plus g p))));
      degree = rest.degree;
    }
divides (suc n) g (false ∷ p) long =
    let rest : Divides n g p = divides n g p (omega arith) in
    record {
      quotient = false ∷ rest.quotient;
      steps = ap suc rest.steps;
      is = ap (λ l. false ∷ l) rest.is;
      degree = rest.degree;
    }

pub remainder_found : (g p : List Bool) → length g ≤ length p → IsRemainder g p (remainder g p)
remainder_found g p within =
    let all : Divides (length p - length g) g p = divides (length p - length g) g p (omega arith) in
    record {
      quotient = all.quotient;
      is = all.is ∙ ap (λ n. plus (product all.quotient g) (replicate n false ++ remainder g p)) (sym all.steps);
      degree = all.degree;
    }

pub remainder_one : (g p r : List Bool) → IsRemainder g p r → r ≡ remainder g p
remainder_one g p r division =
    let q : List Bool = division.quotient in
    let shifted : List Bool = replicate (length q) false ++ r in
    let long : length shifted ≡ length q + length g
    = omega (arith, length-append (replicate (length q) false) r, length-replicate (length q) false, division.degree) in
    let steps : length q ≡ length p - length g
    = omega (arith, ap length division.is, length-plus (product q g) shifted (omega (arith, length-product q g)), length-product q g) in
    sym (ap (λ n. divided n g p) (sym steps)
    ∙ ap (divided (length q) g) division.is
    ∙ divided-plus (length q) g (product q g) r
    ∙ ap (λ l. plus l r) (divided-product q g)
    ∙ zeros-plus (length g) r (omega (arith, division.degree)))
