-- Lemmas on lists of places.

use Rattle.std.proofs.Common.{◌≡◌, ◌≢◌, ℕ, zero, suc, ◌+◌, ◌<◌, ◌≤◌, false, cond, eqb, ltb, List, [], ◌∷◌, ◌++◌, length, map, get_or, set, refl, sym, ap, subst, ◌∙◌, arith, get_or-set_other, get_or-set_same}
use Rattle.std.specs.List.{list_any}
use Rattle.std.proofs.lemmas.Bool.Decides.{nat_tests}
use Rattle.cell_pool.specs.Places.{NotIn, Apart, Distinct, Below}
use Rattle.cell_pool.specs.Region.{EndsAt, LeadsBack, others_below}

pub NotIn-push : (p : ℕ) (xs : List ℕ) (s : ℕ) → NotIn p xs → p ≢ s → NotIn p (xs ++ s ∷ [])
NotIn-push p [] s n e = (e, tt)
NotIn-push p (x ∷ xs) s n e = (n.0, NotIn-push p xs s n.1 e)

pub Distinct-push : (xs : List ℕ) (s : ℕ) → Distinct xs → NotIn s xs → Distinct (xs ++ s ∷ [])
Distinct-push [] s d n = (tt, tt)
Distinct-push (x ∷ xs) s d n = (NotIn-push x xs s d.0 (λ e. n.0 (sym e)), Distinct-push xs s d.1 n.1)

pub Below-push : (n : ℕ) (xs : List ℕ) (s : ℕ) → Below n xs → s < n → Below n (xs ++ s ∷ [])
Below-push n [] s b h = (h, tt)
Below-push n (x ∷ xs) s b h = (b.0, Below-push n xs s b.1 h)

pub Apart-push : (xs ys : List ℕ) (s : ℕ) → Apart xs ys → NotIn s ys → Apart (xs ++ s ∷ []) ys
Apart-push [] ys s a n = (n, tt)
Apart-push (x ∷ xs) ys s a n = (a.0, Apart-push xs ys s a.1 n)

pub EndsAt-push : (xs : List ℕ) (s : ℕ) → EndsAt (xs ++ s ∷ []) s
EndsAt-push [] s = refl
EndsAt-push (x ∷ []) s = refl
EndsAt-push (x ∷ y ∷ ys) s = EndsAt-push (y ∷ ys) s

-- what isn't in a list isn't its last place
pub NotIn-end : (p x : ℕ) (xs : List ℕ) (t : ℕ) → NotIn p (x ∷ xs) → EndsAt (x ∷ xs) t → p ≢ t
NotIn-end p x [] t n ends e = n.0 (e ∙ sym ends)
NotIn-end p x (y ∷ ys) t n ends e = NotIn-end p y ys t n.1 ends e

-- the last place of a list of places of the region is one of them
pub Below-end : (n x : ℕ) (xs : List ℕ) (t : ℕ) → Below n (x ∷ xs) → EndsAt (x ∷ xs) t → t < n
Below-end n x [] t b ends = subst (λ y. y < n) ends b.0
Below-end n x (y ∷ ys) t b ends = Below-end n y ys t b.1 ends

pub Apart-end : (x : ℕ) (xs : List ℕ) (t : ℕ) (ys : List ℕ) → Apart (x ∷ xs) ys → EndsAt (x ∷ xs) t → NotIn t ys
Apart-end x [] t ys a ends = subst (λ z. NotIn z ys) ends a.0
Apart-end x (y ∷ xs) t ys a ends = Apart-end y xs t ys a.1 ends

-- the list without its first two places ends where the list without its first one does
pub EndsAt-rest : (x : ℕ) (xs : List ℕ) (t : ℕ) → EndsAt (x ∷ xs) t → EndsAt xs t
EndsAt-rest x [] t ends = tt
EndsAt-rest x (y ∷ ys) t ends = ends

-- a new lead back from a place that isn't in the list leaves how the list leads back
pub LeadsBack-set : (back xs : List ℕ) (s t : ℕ) → LeadsBack back xs → NotIn s xs → LeadsBack (set back s t) xs
LeadsBack-set back [] s t leads n = tt
LeadsBack-set back (x ∷ []) s t leads n = tt
LeadsBack-set back (x ∷ y ∷ ys) s t leads n =
    (get_or-set_other back s y t 0 (λ e. n.1.0 (sym e)) ∙ leads.0, LeadsBack-set back (y ∷ ys) s t leads.1 n.1)

-- a place put at the end of a list leads back to the place where the list ended
pub LeadsBack-push : (back xs : List ℕ) (s t : ℕ) → s < length back → LeadsBack back xs → NotIn s xs → EndsAt xs t → LeadsBack (set back s t) (xs ++ s ∷ [])
LeadsBack-push back [] s t within leads n ends = tt
LeadsBack-push back (x ∷ []) s t within leads n ends = (get_or-set_same back s t 0 within ∙ sym ends, tt)
LeadsBack-push back (x ∷ y ∷ ys) s t within leads n ends =
    (get_or-set_other back s y t 0 (λ e. n.1.0 (sym e)) ∙ leads.0, LeadsBack-push back (y ∷ ys) s t within leads.1 n.1 ends)

-- the list without its first place leads back as the list does
pub LeadsBack-rest : (back : List ℕ) (x : ℕ) (xs : List ℕ) → LeadsBack back (x ∷ xs) → LeadsBack back xs
LeadsBack-rest back x [] leads = tt
LeadsBack-rest back x (y ∷ ys) leads = leads.1

pub Apart-cons_right : (xs : List ℕ) (y : ℕ) (ys : List ℕ) → Apart xs ys → NotIn y xs → Apart xs (y ∷ ys)
Apart-cons_right [] y ys a n = tt
Apart-cons_right (x ∷ xs) y ys a n = ((λ e. n.0 (sym e), a.0), Apart-cons_right xs y ys a.1 n.1)

pub Apart-rest_right : (xs : List ℕ) (y : ℕ) (ys : List ℕ) → Apart xs (y ∷ ys) → Apart xs ys
Apart-rest_right [] y ys a = tt
Apart-rest_right (x ∷ xs) y ys a = (a.0.1, Apart-rest_right xs y ys a.1)

pub NotIn_from_apart : (xs : List ℕ) (y : ℕ) (ys : List ℕ) → Apart xs (y ∷ ys) → NotIn y xs
NotIn_from_apart [] y ys a = tt
NotIn_from_apart (x ∷ xs) y ys a = (λ e. a.0.0 (sym e), NotIn_from_apart xs y ys a.1)

pub Apart-nil : (xs : List ℕ) → Apart xs []
Apart-nil [] = tt
Apart-nil (x ∷ xs) = (tt, Apart-nil xs)

pub Apart-sym : (xs ys : List ℕ) → Apart xs ys → Apart ys xs
Apart-sym xs [] a = tt
Apart-sym xs (y ∷ ys) a = (NotIn_from_apart xs y ys a, Apart-sym xs ys (Apart-rest_right xs y ys a))

-- a write at a place that isn't in the list leaves what the list's places have
pub map-set_apart : {A : Type 0} (cells : List A) (s : ℕ) (c d : A) (ps : List ℕ) → NotIn s ps → map (λ p. get_or (set cells s c) p d) ps ≡ map (λ p. get_or cells p d) ps
map-set_apart cells s c d [] n = refl
map-set_apart cells s c d (p ∷ ps) n =
    rw (get_or-set_other cells s p c d (λ e. n.0 (sym e))) (ap (λ t. get_or cells p d ∷ t) (map-set_apart cells s c d ps n.1))

-- how many places of the list are below n
abbrev count_below : ℕ → List ℕ → ℕ
count_below n [] = 0
count_below n (x ∷ xs) = cond (ltb x n) 1 0 + count_below n xs

any-NotIn : (n : ℕ) (xs : List ℕ) → NotIn n xs → list_any (λ x. eqb x n) xs ≡ false
any-NotIn n [] h = refl
any-NotIn n (x ∷ xs) h = grind (arith, nat_tests, any-NotIn n xs h.1, h.0)

count_below-suc : (n : ℕ) (xs : List ℕ) → Distinct xs → count_below (suc n) xs ≡ count_below n xs + cond (list_any (λ x. eqb x n) xs) 1 0
count_below-suc n [] d = refl
count_below-suc n (x ∷ xs) d = grind (arith, nat_tests, count_below-suc n xs d.1, any-NotIn x xs d.0)

count_below-all : (n : ℕ) (xs : List ℕ) → Below n xs → count_below n xs ≡ length xs
count_below-all n [] b = refl
count_below-all n (x ∷ xs) b = grind (arith, nat_tests, count_below-all n xs b.1, b.0)

count_below-zero : (xs : List ℕ) → count_below 0 xs ≡ 0
count_below-zero [] = refl
count_below-zero (x ∷ xs) = grind (arith, nat_tests, count_below-zero xs)

others_below-count : (n : ℕ) (xs : List ℕ) → Distinct xs → count_below n xs + others_below n xs ≡ n
others_below-count zero xs d = simp count_below-zero
others_below-count (suc n) xs d = grind (arith, nat_tests, others_below-count n xs d, count_below-suc n xs d)

-- the places of a list and the others are all
pub others_below-length : (n : ℕ) (xs : List ℕ) → Distinct xs → Below n xs → length xs + others_below n xs ≡ n
others_below-length n xs d b = rw (← count_below-all n xs b) (others_below-count n xs d)

pub length-le_from_Distinct : (n : ℕ) (xs : List ℕ) → Distinct xs → Below n xs → length xs ≤ n
length-le_from_Distinct n xs d b = omega (arith, others_below-length n xs d b)
