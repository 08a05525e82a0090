-- what is found by a key once an element was put, and what holds of each site

use Rattle.std.proofs.Common.{◌≡◌, ℕ, Bool, true, false, List, [], ◌∷◌, Some, refl, ◌∙◌, ap, subst, arith, ◌⊎◌, inl, inr, if◌then◌else◌}
use Rattle.std.specs.Prelude.{nat_eq}
use Rattle.std.proofs.lemmas.Bool.Decides.{nat_tests}
use Rattle.law_controller_views.specs.world_model.Words.{NodeId, at, put, Site, site_key}

-- *What is found* once an element was put is that one, or was found before
pub found_put : {A : Type 0} (key : A → ℕ) (new : A) (xs : List A) (k : ℕ) (x : A) → at key k (put key new xs) ≡ Some x → (new ≡ x) ⊎ (at key k xs ≡ Some x)
found_put key new [] k x e = inr e
found_put {A} key new (z ∷ xs) k x e = by_new (nat_eq (key z) (key new)) refl (found_put key new xs k x) e
  where
    moved : (a b k : ℕ) → nat_eq a b ≡ true → nat_eq b k ≡ false → nat_eq a k ≡ false
    moved a b k s t = grind (arith, nat_tests)

    by_key : (t : Bool) → nat_eq (key new) k ≡ t → nat_eq (key z) (key new) ≡ true → (if t then Some new else at key k xs) ≡ Some x
        → (new ≡ x) ⊎ ((if nat_eq (key z) k then Some z else at key k xs) ≡ Some x)
    by_key true t same e = inl (cc e)
    by_key false t same e = inr (ap (λ (b : Bool). if b then Some z else at key k xs) (moved (key z) (key new) k same t) ∙ e)

    by_old : (t : Bool) → (at key k (put key new xs) ≡ Some x → (new ≡ x) ⊎ (at key k xs ≡ Some x))
        → (if t then Some z else at key k (put key new xs)) ≡ Some x → (new ≡ x) ⊎ ((if t then Some z else at key k xs) ≡ Some x)
    by_old true rest e = inr e
    by_old false rest e = rest e

    by_new : (s : Bool) → nat_eq (key z) (key new) ≡ s → (at key k (put key new xs) ≡ Some x → (new ≡ x) ⊎ (at key k xs ≡ Some x))
        → at key k (if s then new ∷ xs else z ∷ put key new xs) ≡ Some x → (new ≡ x) ⊎ ((if nat_eq (key z) k then Some z else at key k xs) ≡ Some x)
    by_new true same rest e = by_key (nat_eq (key new) k) refl same e
    by_new false other rest e = by_old (nat_eq (key z) k) rest e

-- *Sites*
pub put_found : (new : Site) (sites : List Site) (k : ℕ) (x : Site) → at site_key k (put site_key new sites) ≡ Some x → (new ≡ x) ⊎ (at site_key k sites ≡ Some x)
put_found new sites k x e = found_put site_key new sites k x e

abbrev pub Sited : (Site → Type 0) → List Site → Type 0
Sited P sites = (node : NodeId) (site : Site) → at site_key node.0 sites ≡ Some site → P site

pub put_sited : (P : Site → Type 0) (new : Site) (sites : List Site) → P new → Sited P sites → Sited P (put site_key new sites)
put_sited P new sites p all node x e = elim (put_found new sites node.0 x e) [
  | inl same ↦ subst P same p
  | inr before ↦ all node x before
]
