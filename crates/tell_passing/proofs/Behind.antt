-- the cells behind so many, one by one, and port by port

use Rattle.std.proofs.Common.{◌≡◌, ℕ, zero, suc, ◌+◌, ◌<◌, ◌≤◌, List, [], ◌∷◌, ◌++◌, length, map, append-nil, append_assoc, slice_get, flat_map, None, Some, refl, sym, ◌∙◌, ap, subst, arith}
use Rattle.std.specs.Prelude.{drop}
use Rattle.net_types.specs.declared.node.PortNo.{PortNo}
use Rattle.tell_passing.specs.Lengths.{link_ports}

-- *One more* of the rest
behind_one : {A : Type 0} (xs : List A) (i : ℕ) (x : A) → slice_get xs i ≡ Some x → drop i xs ≡ x ∷ drop (suc i) xs
behind_one [] i x e = absurd (cc e)
behind_one (y ∷ ys) zero x e = (let one : y ≡ x = cc in ap (λ z. z ∷ ys) one)
behind_one (y ∷ ys) (suc i) x e = behind_one ys i x e

next_of : {A : Type 0} (xs : List A) (i : ℕ) (x : A) → slice_get xs i ≡ Some x → drop i xs ≡ x ∷ drop (i + 1) xs
next_of xs i x e = (let up : suc i ≡ i + 1 = omega arith in subst (λ k. drop i xs ≡ x ∷ drop k xs) up (behind_one xs i x e))

none_of : {A : Type 0} (xs : List A) (i : ℕ) → length xs ≤ i → drop i xs ≡ []
none_of [] zero low = refl
none_of [] (suc i) low = refl
none_of (y ∷ ys) zero low = absurd (omega (arith, low))
none_of (y ∷ ys) (suc i) low = none_of ys i (omega (arith, low))

not_there : {A : Type 0} (xs : List A) (i : ℕ) → slice_get xs i ≡ None → length xs ≤ i
not_there [] i e = omega arith
not_there (y ∷ ys) zero e = absurd (cc e)
not_there (y ∷ ys) (suc i) e = omega (arith, not_there ys i e)

module _ {A B : Type 0} (f : A → B) (xs : List A) where
  pub one_more : (out start rest : List B) (i : ℕ) (x : A) → slice_get xs i ≡ Some x → out ++ map f (drop i xs) ≡ start ++ rest → (out ++ f x ∷ []) ++ map f (drop (i + 1) xs) ≡ start ++ rest
  one_more out start rest i x e so = append_assoc out (f x ∷ []) (map f (drop (i + 1) xs)) ∙ sym (ap (λ zs. out ++ map f zs) (next_of xs i x e)) ∙ so

  pub no_more : (out start rest : List B) (i : ℕ) → slice_get xs i ≡ None → out ++ map f (drop i xs) ≡ start ++ rest → out ++ map f (drop (i + 1) xs) ≡ start ++ rest
  no_more out start rest i e so =
      let low : length xs ≤ i = not_there xs i e in
      ap (λ zs. out ++ map f zs) (none_of xs (i + 1) (omega (arith, low)) ∙ sym (none_of xs i low)) ∙ so

  pub at_end : (out start rest : List B) (i : ℕ) → length xs ≤ i → out ++ map f (drop i xs) ≡ start ++ rest → out ≡ start ++ rest
  at_end out start rest i low so = sym (append-nil out) ∙ sym (ap (λ zs. out ++ map f zs) (none_of xs i low)) ∙ so

-- *Port by port*
next_port : (k : ℕ) → k < 8 → drop k link_ports ≡ record { 0 = suc k } ∷ drop (suc k) link_ports
next_port zero low = refl
next_port (suc zero) low = refl
next_port (suc (suc zero)) low = refl
next_port (suc (suc (suc zero))) low = refl
next_port (suc (suc (suc (suc zero)))) low = refl
next_port (suc (suc (suc (suc (suc zero))))) low = refl
next_port (suc (suc (suc (suc (suc (suc zero)))))) low = refl
next_port (suc (suc (suc (suc (suc (suc (suc zero))))))) low = refl
next_port (suc (suc (suc (suc (suc (suc (suc (suc k)))))))) low = absurd (omega (arith, low))

module _ {B : Type 0} (f : PortNo → List B) where
  pub port_more : (old out start : List B) (k : ℕ) → k < 8 → old ++ flat_map f (drop k link_ports) ≡ start ++ flat_map f link_ports
      → out ≡ old ++ f (record { 0 = suc k }) → out ++ flat_map f (drop (suc k) link_ports) ≡ start ++ flat_map f link_ports
  port_more old out start k low so is = ap (λ zs. zs ++ flat_map f (drop (suc k) link_ports)) is
      ∙ append_assoc old (f (record { 0 = suc k })) (flat_map f (drop (suc k) link_ports)) ∙ sym (ap (λ ports. old ++ flat_map f ports) (next_port k low)) ∙ so

  pub ports_end : (out start : List B) (k : ℕ) → 8 ≤ k → out ++ flat_map f (drop k link_ports) ≡ start ++ flat_map f link_ports → out ≡ start ++ flat_map f link_ports
  ports_end out start k high so = sym (append-nil out) ∙ sym (ap (λ ports. out ++ flat_map f ports) (none_of link_ports k (omega (arith, high)))) ∙ so
