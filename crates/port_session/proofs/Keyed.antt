-- Lists of elements with a number as their key.

use Rattle.std.proofs.Common.{◌≡◌, ℕ, Bool, true, false, cond, nat_eq, List, [], ◌∷◌, map, refl, sym, ap, Some, is_some}
use Rattle.std.proofs.lemmas.Bool.{eqb-true}
use Rattle.keyed_lists.specs.Keyed.{at, put}

module _ {A : Type 0} (key : A → ℕ) where
  -- what is found has the key
  pub at_key : (k : ℕ) (xs : List A) (x : A) → at key k xs ≡ Some x → key x ≡ k
  at_key k [] x h = absurd (cc h)
  at_key k (y ∷ xs) x h = by (nat_eq (key y) k) refl (λ g. at_key k xs x g) h where
    by : (b : Bool) → nat_eq (key y) k ≡ b → (at key k xs ≡ Some x → key x ≡ k) → cond b (Some y) (at key k xs) ≡ Some x → key x ≡ k
    by true e rest g = let same : y ≡ x = cc g in rw (← same) (eqb-true (key y) k e)
    by false e rest g = rest g

  -- a change keeps the keys
  pub keys_put : (y : A) (xs : List A) → map key (put key y xs) ≡ map key xs
  keys_put y [] = refl
  keys_put y (x ∷ xs) = by (nat_eq (key x) (key y)) refl (keys_put y xs) where
    by : (b : Bool) → nat_eq (key x) (key y) ≡ b → map key (put key y xs) ≡ map key xs → map key (cond b (y ∷ xs) (x ∷ put key y xs)) ≡ key x ∷ map key xs
    by true e rest = ap (λ n. n ∷ map key xs) (sym (eqb-true (key x) (key y) e))
    by false e rest = ap (λ ns. key x ∷ ns) rest

  -- what is held is told by the keys
  pub held_by_keys : (xs ys : List A) → map key xs ≡ map key ys → (k : ℕ) → is_some (at key k xs) ≡ is_some (at key k ys)
  held_by_keys [] [] e k = refl
  held_by_keys [] (y ∷ ys) e k = absurd (cc e)
  held_by_keys (x ∷ xs) [] e k = absurd (cc e)
  held_by_keys (x ∷ xs) (y ∷ ys) e k =
      let first : key x ≡ key y = cc e in
      let rest : map key xs ≡ map key ys = cc e in
      rw first (by (nat_eq (key y) k) (held_by_keys xs ys rest k))
    where
      by : (b : Bool) → is_some (at key k xs) ≡ is_some (at key k ys) → is_some (cond b (Some x) (at key k xs)) ≡ is_some (cond b (Some y) (at key k ys))
      by true e = refl
      by false e = e
