-- an entry Broken at a place stands in the stretch, behind an entry of another cause for a mark of the stretch

use Rattle.std.proofs.Common.{◌≡◌, ℕ, zero, suc, ◌+◌, true, List, [], ◌∷◌, ◌++◌, length, Some, slice_get, sym, ◌∙◌, ap, subst, arith, append_assoc, length-append}
use Rattle.world_model.specs.Words.{Cell, Entry, Broken, has_mark}
use Rattle.law_cell_lists.specs.Causes.{is_caused}
use Rattle.law_cell_lists.proofs.Taking.{Beside, Adds}

pub record AtPlace (stretch : List Cell) (entries : List Entry) (place : ℕ) (entry : Entry) : Type 0 where
  pub own : has_mark stretch entry.mark ≡ true
  pub before : List Entry
  pub after : List Entry
  pub parts : entries ≡ before ++ entry ∷ after
  pub place_is : length before ≡ place
  pub caused : is_caused before stretch ≡ true

at_place : (stretch : List Cell) (old more : List Entry) → Beside stretch old more → (i : ℕ) (entry : Entry) → slice_get more i ≡ Some entry → entry.cause ≡ Broken → AtPlace stretch (old ++ more) (length old + i) entry
at_place stretch old [] h i entry is b = absurd (cc is)
at_place stretch old (e ∷ more) h zero entry is b =
    let same : e ≡ entry = cc in
    let both : (has_mark stretch e.mark ≡ true) × (is_caused old stretch ≡ true) = h.0 (ap (λ (x : Entry). x.cause) same ∙ b) in
    record { own = subst (λ (x : Entry). has_mark stretch x.mark ≡ true) same both.0; before = old; after = more; parts = ap (λ (x : Entry). old ++ x ∷ more) same; place_is = omega arith; caused = both.1 }
at_place stretch old (e ∷ more) h (suc i) entry is b =
    let rest : AtPlace stretch ((old ++ e ∷ []) ++ more) (length (old ++ e ∷ []) + i) entry = at_place stretch (old ++ e ∷ []) more h.1 i entry is b in
    record { own = rest.own; before = rest.before; after = rest.after; parts = sym (append_assoc old (e ∷ []) more) ∙ rest.parts; place_is = omega (arith, rest.place_is, length-append old (e ∷ [])); caused = rest.caused }

pub adds_at : (stretch : List Cell) (old new : List Entry) (a : Adds stretch old new) (i : ℕ) (entry : Entry) → slice_get a.more i ≡ Some entry → entry.cause ≡ Broken → AtPlace stretch new (length old + i) entry
adds_at stretch old new a i entry is b = subst (λ (l : List Entry). AtPlace stretch l (length old + i) entry) (sym a.is) (at_place stretch old a.more a.each i entry is b)
