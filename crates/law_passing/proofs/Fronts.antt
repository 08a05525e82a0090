-- a list that is another with more at its end

use Rattle.std.proofs.Common.{◌≡◌, List, [], ◌++◌, length, append_assoc, append-nil, sym, ◌∙◌, ap}
use Rattle.std.specs.Prelude.{drop}
use Rattle.std.proofs.Math.Seq.{drop-append_seam}

pub record Grows {A : Type 0} (xs ys : List A) : Type 0 where
  pub more : List A
  pub is : ys ≡ xs ++ more

pub as_it_was : {A : Type 0} (xs : List A) → Grows xs xs
as_it_was xs = record { more = []; is = sym (append-nil xs) }

pub grows_same : {A : Type 0} {xs ys : List A} → ys ≡ xs → Grows xs ys
grows_same {xs = xs} e = record { more = []; is = e ∙ sym (append-nil xs) }

pub grows_then : {A : Type 0} {xs ys zs : List A} → Grows xs ys → Grows ys zs → Grows xs zs
grows_then {xs = xs} p q = record { more = p.more ++ q.more; is = q.is ∙ ap (λ list. list ++ q.more) p.is ∙ append_assoc xs p.more q.more }

pub grown_to : {A : Type 0} {xs ys us vs : List A} → us ≡ xs → vs ≡ ys → Grows xs ys → Grows us vs
grown_to u v g = record { more = g.more; is = v ∙ g.is ∙ ap (λ list. list ++ g.more) (sym u) }

-- what is behind the first list is what was added
pub grown : {A : Type 0} (xs ys : List A) → Grows xs ys → ys ≡ xs ++ drop (length xs) ys
grown xs ys g = g.is ∙ ap (λ more. xs ++ more) (sym (drop-append_seam xs g.more) ∙ sym (ap (drop (length xs)) g.is))

-- and is nothing where the two are the same
pub nothing_added : {A : Type 0} (xs ys : List A) → ys ≡ xs → drop (length xs) ys ≡ []
nothing_added xs ys e = ap (drop (length xs)) (e ∙ sym (append-nil xs)) ∙ drop-append_seam xs []
