-- What each call of a region, of a queue and of a chain does, over plain regions.

use Rattle.std.proofs.Common.{◌≡◌, ◌≢◌, ℕ, zero, suc, ◌+◌, ◌<◌, ◌≤◌, List, [], ◌∷◌, ◌++◌, length, map, get_or, set, refl, sym, ap, subst, ◌∙◌, arith, add-one, get_or-set_same, get_or-set_other, length-set}
use Rattle.std.proofs.lemmas.List.{map-append}
use Rattle.atm_cells.specs.declared.cell.Cell.{Cell}
use Rattle.cell_pool.specs.Places.{NotIn, Apart, Distinct, Below}
use Rattle.cell_pool.specs.Region.{Region, Line, size, blank, cell_at, walk, places, cells_of, len_of, IsOut, EndsAt, LeadsBack, IsLine}
use Rattle.cell_pool.specs.Steps.{IsKept, IsKeptFrom, IsTaken, IsPut, IsPushed}
use Rattle.cell_pool.proofs.Lists.{Distinct-push, Below-push, Apart-push, EndsAt-push, length-le_from_Distinct, Below-end, Apart-end, NotIn_from_apart, Apart-rest_right, Apart-cons_right, LeadsBack-set, LeadsBack-push, map-set_apart}
use Rattle.cell_pool.proofs.Walks.{length-walk, walk-set, walk-link}

-- a line whose places and cells are as they were, and lead back as they did, is kept, if none of its
-- places became free
pub kept : (old new : Region) (l : Line) → IsLine old l → size new ≡ size old → Apart (places old l) new.free → LeadsBack new.back (places old l) → places new l ≡ places old l → cells_of new l ≡ cells_of old l → IsKept old new l
kept old new l line same taken leads p c = record {
  threaded = record { inside = rw (same, p) line.inside; taken = rw p taken; distinct = rw p line.distinct; ends = rw p line.ends; leads_back = rw p leads };
  same_places = p;
  same_cells = c;
}

-- a line's places don't depend on what is free, nor on the cells
pub places-next : (old : Region) (free : List ℕ) (cells : List Cell) (l : Line) → places (record { free = free; cells = cells; next = old.next; back = old.back }) l ≡ places old l
places-next old free cells l = refl

-- a new lead from a place that isn't in the line leaves its places
pub places-set : (old : Region) (free back : List ℕ) (i v : ℕ) (l : Line) → NotIn i (places old l) → places (record { free = free; cells = old.cells; next = set old.next i v; back = back }) l ≡ places old l
places-set old free back i v l n = walk-set old.next i v l.head l.len n

pub length-places : (r : Region) (l : Line) → length (places r l) ≡ len_of l
length-places r l = length-walk r.next l.head l.len

abbrev pub taken_region : Region → ℕ → Cell → List ℕ → Region
taken_region old s c rest = record { free = rest; cells = set old.cells s c; next = old.next; back = old.back }

take_others : (old : Region) (s : ℕ) (c : Cell) (rest : List ℕ) → old.free ≡ s ∷ rest → (l : Line) → IsLine old l → IsKeptFrom old (taken_region old s c rest) s l
take_others old s c rest e l line =
    let taken : Apart (places old l) (s ∷ rest) = rw e at line.taken in
    let fresh : NotIn s (places old l) = NotIn_from_apart (places old l) s rest taken in
    let new : Region = taken_region old s c rest in
    let p : places new l ≡ places old l = places-next old rest (set old.cells s c) l in
    record {
      kept = kept old new l line (length-set old.cells s c) (Apart-rest_right (places old l) s rest taken) line.leads_back p
          (ap (map (cell_at new)) p ∙ map-set_apart old.cells s c blank (places old l) fresh);
      without = fresh;
    }

-- the first free place is taken, with a cell
pub take_first : (old : Region) (s : ℕ) (c : Cell) (rest : List ℕ) → old.free ≡ s ∷ rest → Distinct old.free → Below (size old) old.free → IsTaken old (taken_region old s c rest) s c
take_first old s c rest e distinct below =
    let d : Distinct (s ∷ rest) = rw e at distinct in
    let b : Below (size old) (s ∷ rest) = rw e at below in
    record {
      first = e;
      same_size = length-set old.cells s c;
      out = record { inside = rw (length-set old.cells s c) b.0; taken = d.0 };
      holds = get_or-set_same old.cells s c blank b.0;
      others_out = λ p o.
          let away : NotIn p (s ∷ rest) = rw e at o.taken in
          record {
            stays = record { out = record { inside = rw (length-set old.cells s c) o.inside; taken = away.1 }; same_cell = get_or-set_other old.cells s p c blank away.0 };
            differs = away.0;
          };
      others = take_others old s c rest e;
    }

-- a place is put back before the free ones
pub put_back : (old : Region) (s head : ℕ) → IsPut old (record { free = s ∷ old.free; cells = old.cells; next = set old.next s head; back = old.back }) s
put_back old s head =
    let new : Region = record { free = s ∷ old.free; cells = old.cells; next = set old.next s head; back = old.back } in
    record {
      first = refl;
      same_size = refl;
      others_out = λ p o differs. record { out = record { inside = o.inside; taken = (differs, o.taken) }; same_cell = refl };
      others = λ l line without.
          let p : places new l ≡ places old l = places-set old (s ∷ old.free) old.back s head l without in
          kept old new l line refl (Apart-cons_right (places old l) s old.free line.taken without) line.leads_back p (ap (map (cell_at old)) p);
    }

-- the place s is pushed to an empty line
pub push_first : (r : Region) (h t s : ℕ) → IsOut r s → IsPushed r r (record { head = h; tail = t; len = 0 }) (record { head = s; tail = s; len = 1 }) s
push_first r h t s out = record {
  threaded = record { inside = (out.inside, tt); taken = (out.taken, tt); distinct = (tt, tt); ends = refl; leads_back = tt };
  now_places = refl;
  now_cells = refl;
  same_free = refl;
  same_store = refl;
  others = λ l line apart without. kept r r l line refl line.taken line.leads_back refl refl;
}

-- what a line has with one place more at its end
more : (r new : Region) (q l : Line) (s : ℕ) → IsLine r q → IsOut r s → NotIn s (places r q) → size new ≡ size r → new.free ≡ r.free → new.cells ≡ r.cells → places new l ≡ places r q ++ s ∷ []
    → Below (size new) (places new l) × Apart (places new l) new.free × Distinct (places new l) × (cells_of new l ≡ cells_of r q ++ cell_at r s ∷ [])
more r new q l s line out fresh same_size same_free same_cells p = (
  rw (p, same_size) (Below-push (size r) (places r q) s line.inside out.inside),
  rw (p, same_free) (Apart-push (places r q) r.free s line.taken out.taken),
  rw p (Distinct-push (places r q) s line.distinct fresh),
  rw (p, same_cells) (map-append (cell_at r) (places r q) (s ∷ [])),
)

-- the place s is pushed to a line that has places: its tail leads on to it, and it leads back there
pub push_more : (r : Region) (h t k s : ℕ) → length r.next ≡ size r → length r.back ≡ size r → IsLine r (record { head = h; tail = t; len = suc k }) → IsOut r s → NotIn s (walk r.next h (suc k))
    → IsPushed r (record { free = r.free; cells = r.cells; next = set r.next t s; back = set r.back s t }) (record { head = h; tail = t; len = suc k }) (record { head = h; tail = s; len = suc k + 1 }) s
push_more r h t k s even back_even line out fresh =
    let q : Line = record { head = h; tail = t; len = suc k } in
    let l : Line = record { head = h; tail = s; len = suc k + 1 } in
    let new : Region = record { free = r.free; cells = r.cells; next = set r.next t s; back = set r.back s t } in
    let rest : List ℕ = walk r.next (get_or r.next h 0) k in
    let within : t < length r.next = rw even (Below-end (size r) h rest t line.inside line.ends) in
    let p : places new l ≡ walk r.next h (suc k) ++ s ∷ [] = rw add-one (walk-link r.next h k t s within line.distinct line.ends) in
    let m = more r new q l s line out fresh refl refl refl p in
    let leads : LeadsBack new.back (walk r.next h (suc k) ++ s ∷ []) =
    LeadsBack-push r.back (walk r.next h (suc k)) s t (rw back_even out.inside) line.leads_back fresh line.ends in
    record {
      threaded = record {
        inside = m.0;
        taken = m.1;
        distinct = m.2;
        ends = subst (λ (xs : List ℕ). EndsAt xs s) (sym p) (EndsAt-push (walk r.next h (suc k)) s);
        leads_back = subst (λ (xs : List ℕ). LeadsBack new.back xs) (sym p) leads;
      };
      now_places = p;
      now_cells = m.3;
      same_free = refl;
      same_store = refl;
      others = λ x other apart without.
          let e : places new x ≡ places r x = places-set r r.free new.back t s x (Apart-end h rest t (places r x) apart line.ends) in
          kept r new x other refl other.taken (LeadsBack-set r.back (places r x) s t other.leads_back without) e (ap (map (cell_at r)) e);
    }

-- the same at any length that isn't 0
pub push_some : (r : Region) (h t n s : ℕ) → n ≢ 0 → length r.next ≡ size r → length r.back ≡ size r → IsLine r (record { head = h; tail = t; len = n }) → IsOut r s → NotIn s (walk r.next h n)
    → IsPushed r (record { free = r.free; cells = r.cells; next = set r.next t s; back = set r.back s t }) (record { head = h; tail = t; len = n }) (record { head = h; tail = s; len = n + 1 }) s
push_some r h t zero s some even back_even line out fresh = absurd (some refl)
push_some r h t (suc k) s some even back_even line out fresh = push_more r h t k s even back_even line out fresh

-- the tail of a line that has places is out
pub tail_out : (r : Region) (h t n : ℕ) → n ≢ 0 → IsLine r (record { head = h; tail = t; len = n }) → IsOut r t
tail_out r h t zero some line = absurd (some refl)
tail_out r h t (suc k) some line = record {
  inside = Below-end (size r) h (walk r.next (get_or r.next h 0) k) t line.inside line.ends;
  taken = Apart-end h (walk r.next (get_or r.next h 0) k) t r.free line.taken line.ends;
}

-- a line and one place more are no more than the region has
pub len-lt-size : (r : Region) (l : Line) (s : ℕ) → IsLine r l → IsOut r s → NotIn s (places r l) → len_of l < size r
len-lt-size r l s line out fresh =
    let few : length (s ∷ places r l) ≤ size r = length-le_from_Distinct (size r) (s ∷ places r l) (fresh, line.distinct) (out.inside, line.inside) in
    omega (arith, few, length-places r l)

-- a region is its parts
pub region_is : (r : Region) (free : List ℕ) (cells : List Cell) (next back : List ℕ) → r.free ≡ free → r.cells ≡ cells → r.next ≡ next → r.back ≡ back → r ≡ record { free = free; cells = cells; next = next; back = back }
region_is r free cells next back f c n b = rw (← f, ← c, ← n, ← b) refl
