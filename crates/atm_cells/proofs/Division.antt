-- sums of polynomials; long division of a sum, and one division after another

use Rattle.std.proofs.Common.{◌≡◌, ℕ, zero, suc, ◌+◌, ◌≤◌, Bool, true, false, List, [], ◌∷◌, ◌++◌, length, replicate, refl, sym, ap, ap₂, ◌∙◌, arith, zero-add, suc-add, append-nil}
use mathlib.Core.Bool.{xor}
use Rattle.atm_cells.specs.Polynomial.{plus, divided}

xor_assoc : (a b c : Bool) → xor (xor a b) c ≡ xor a (xor b c)
unfolding xor
xor_assoc false false false = refl
xor_assoc false false true = refl
xor_assoc false true false = refl
xor_assoc false true true = refl
xor_assoc true false false = refl
xor_assoc true false true = refl
xor_assoc true true false = refl
xor_assoc true true true = refl

xor_comm : (a b : Bool) → xor a b ≡ xor b a
unfolding xor
xor_comm false false = refl
xor_comm false true = refl
xor_comm true false = refl
xor_comm true true = refl

xor-false : (a : Bool) → xor a false ≡ a
unfolding xor
xor-false false = refl
xor-false true = refl

pub plus_assoc : (p q r : List Bool) → plus (plus p q) r ≡ plus p (plus q r)
unfolding plus
plus_assoc [] q r = refl
plus_assoc (a ∷ p) [] r = refl
plus_assoc (a ∷ p) (b ∷ q) [] = refl
plus_assoc (a ∷ p) (b ∷ q) (c ∷ r) = ap₂ ◌∷◌ (xor_assoc a b c) (plus_assoc p q r)

pub plus_comm : (p q : List Bool) → plus p q ≡ plus q p
unfolding plus
plus_comm [] [] = refl
plus_comm [] (b ∷ q) = refl
plus_comm (a ∷ p) [] = refl
plus_comm (a ∷ p) (b ∷ q) = ap₂ ◌∷◌ (xor_comm a b) (plus_comm p q)

-- zeros add nothing where they reach, and stand as they are beyond
pub plus-zeros : (p : List Bool) (k : ℕ) → plus p (replicate (length p + k) false) ≡ p ++ replicate k false
unfolding plus
plus-zeros [] k = rw zero-add refl
plus-zeros (a ∷ p) k = rw suc-add (ap₂ ◌∷◌ (xor-false a) (plus-zeros p k))

pub plus-zeros_same : (p : List Bool) (n : ℕ) → n ≡ length p → plus p (replicate n false) ≡ p
plus-zeros_same p n same =
    let e : n ≡ length p + 0 = omega arith in
    ap (λ k. plus p (replicate k false)) e ∙ plus-zeros p 0 ∙ append-nil p

-- zeros under a longer list add nothing
pub zeros-plus : (n : ℕ) (q : List Bool) → n ≤ length q → plus (replicate n false) q ≡ q
unfolding plus
zeros-plus zero q within = refl
zeros-plus (suc n) [] within = absurd (omega arith)
zeros-plus (suc n) (b ∷ q) within = ap₂ ◌∷◌ (xor_comm false b ∙ xor-false b) (zeros-plus n q (omega arith))

-- sums go part by part
pub plus-append : (u v p q : List Bool) → length u ≡ length v → plus (u ++ p) (v ++ q) ≡ plus u v ++ plus p q
unfolding plus
plus-append [] [] p q same = refl
plus-append [] (b ∷ v) p q same = absurd (omega arith)
plus-append (a ∷ u) [] p q same = absurd (omega arith)
plus-append (a ∷ u) (b ∷ v) p q same = ap (λ l. xor a b ∷ l) (plus-append u v p q (omega arith))

pub length-plus : (p q : List Bool) → length p ≤ length q → length (plus p q) ≡ length q
unfolding plus
length-plus [] q within = refl
length-plus (a ∷ p) [] within = absurd (omega arith)
length-plus (a ∷ p) (b ∷ q) within = ap suc (length-plus p q (omega arith))

-- nothing is left of the empty list
pub divided-nil : (n : ℕ) (g : List Bool) → divided n g [] ≡ []
unfolding divided
divided-nil zero g = refl
divided-nil (suc n) g = refl

-- what is added behind the first n coefficients comes through n steps as it is
pub divided-plus : (n : ℕ) (g p s : List Bool) → divided n g (plus p (replicate n false ++ s)) ≡ plus (divided n g p) s
unfolding plus divided xor
divided-plus zero g p s = refl
divided-plus (suc n) g [] s = divided-plus n g [] s ∙ ap (λ l. plus l s) (divided-nil n g)
divided-plus (suc n) g (true ∷ p) s = ap (divided n g) (sym (plus_assoc g p (replicate n false ++ s))) ∙ divided-plus n g (plus g p) s
divided-plus (suc n) g (false ∷ p) s = divided-plus n g p s

-- the steps of one division after those of another
pub divided-divided : (j k : ℕ) (g p : List Bool) → divided (j + k) g p ≡ divided k g (divided j g p)
unfolding divided
divided-divided zero k g p = rw zero-add refl
divided-divided (suc j) k g [] = rw suc-add (sym (divided-nil k g))
divided-divided (suc j) k g (true ∷ p) = rw suc-add (divided-divided j k g (plus g p))
divided-divided (suc j) k g (false ∷ p) = rw suc-add (divided-divided j k g p)
