-- The chains of a port's labels, as the list of those that have cells or skip.

use Rattle.std.proofs.Common.{◌≡◌, ℕ, suc, zero, ◌+◌, ◌<◌, Bool, true, false, cond, ◌||◌, nat_eq, nat_lt, nat_le, List, [], ◌∷◌, length, get_or, None, refl, sym, ap, ◌∙◌, arith, replicate}
use Rattle.std.proofs.Math.ListN.{set}
use Rattle.std.specs.List.{sum_by}
use Rattle.std.proofs.lemmas.List.Sums.{sum_by-cons}
use Rattle.std.proofs.lemmas.Bool.Decides.{nat_tests}
use Rattle.atm_cells.specs.declared.cell.Cell.{Cell}
use Rattle.frame_model.specs.Reassembly.{Reassembly, nothing_taken}
use Rattle.keyed_lists.specs.Keyed.{at, without, entered, key_le}
use Rattle.world_model.specs.Controller.{LabelChain, chain_key, chain_of, chain_slots, chains_with}
use Rattle.controller_link.specs.Link.{chains_from, has_cells}

differ : (a b : ℕ) → b < a → nat_eq a b ≡ false
differ a b low = grind (arith, nat_tests)

differ_up : (a b : ℕ) → a < b → nat_eq a b ≡ false
differ_up a b low = grind (arith, nat_tests)

same : (a b : ℕ) → b ≡ a → nat_eq a b ≡ true
same a b e = grind (arith, nat_tests)

not_le : (a b : ℕ) → b < a → nat_le a b ≡ false
not_le a b low = grind (arith, nat_tests)

below_le : (a b : ℕ) → a < b → nat_le a b ≡ true
below_le a b low = grind (arith, nat_tests)

-- a channel that has no cell and doesn't skip took nothing
pub nothing_kept : (r : Reassembly) → has_cells r ≡ false → nothing_taken ≡ r
nothing_kept r h = by r.is_skipping r.chain h where
  by : (b : Bool) (cells : List Cell) → (b || nat_lt 0 (length cells)) ≡ false → nothing_taken ≡ record { chain = cells; is_skipping = b }
  by true cells h = absurd (cc h)
  by false [] h = refl
  by false (cell ∷ cells) h = absurd (grind (arith, nat_tests, h))

-- *No chain is of a label below the first*

pub absent : (first label : ℕ) (rs : List Reassembly) → label < first → at chain_key label (chains_from first rs) ≡ None
absent first label [] low = refl
absent first label (r ∷ rs) low = by (absent (first + 1) label rs (omega (arith, low))) (has_cells r) where
  by : at chain_key label (chains_from (first + 1) rs) ≡ None → (b : Bool) → at chain_key label (cond b (record { label = first; reassembly = r } ∷ chains_from (first + 1) rs) (chains_from (first + 1) rs)) ≡ None
  by rest true = rw (differ first label low) rest
  by rest false = rest

without_absent : (first label : ℕ) (rs : List Reassembly) → label < first → without chain_key label (chains_from first rs) ≡ chains_from first rs
without_absent first label [] low = refl
without_absent first label (r ∷ rs) low = by (without_absent (first + 1) label rs (omega (arith, low))) (has_cells r) where
  by : without chain_key label (chains_from (first + 1) rs) ≡ chains_from (first + 1) rs → (b : Bool)
      → without chain_key label (cond b (record { label = first; reassembly = r } ∷ chains_from (first + 1) rs) (chains_from (first + 1) rs)) ≡ cond b (record { label = first; reassembly = r } ∷ chains_from (first + 1) rs) (chains_from (first + 1) rs)
  by rest true = rw (differ first label low) (ap (λ (cs : List LabelChain). let c : LabelChain = record { label = first; reassembly = r } in c ∷ cs) rest)
  by rest false = rest

entered_front : (first : ℕ) (chain : LabelChain) (rs : List Reassembly) → chain.label < first → entered (key_le chain_key) chain (chains_from first rs) ≡ chain ∷ chains_from first rs
entered_front first chain [] low = refl
entered_front first chain (r ∷ rs) low = by (entered_front (first + 1) chain rs (omega (arith, low))) (has_cells r) where
  by : entered (key_le chain_key) chain (chains_from (first + 1) rs) ≡ chain ∷ chains_from (first + 1) rs → (b : Bool)
      → entered (key_le chain_key) chain (cond b (record { label = first; reassembly = r } ∷ chains_from (first + 1) rs) (chains_from (first + 1) rs)) ≡ chain ∷ cond b (record { label = first; reassembly = r } ∷ chains_from (first + 1) rs) (chains_from (first + 1) rs)
  by rest true = rw (below_le chain.label first low) refl
  by rest false = rest

-- *The chain of a label*

pub chain_of_from : (first label : ℕ) (rs : List Reassembly) (j : ℕ) → label ≡ first + j → chain_of (chains_from first rs) label ≡ get_or rs j nothing_taken
chain_of_from first label [] j e = refl
chain_of_from first label (r ∷ rs) zero e = by (has_cells r) refl where
  by : (b : Bool) → has_cells r ≡ b → chain_of (cond b (record { label = first; reassembly = r } ∷ chains_from (first + 1) rs) (chains_from (first + 1) rs)) label ≡ r
  by true h = rw (same first label (omega (arith, e))) refl
  by false h = rw (absent (first + 1) label rs (omega (arith, e))) (nothing_kept r h)
chain_of_from first label (r ∷ rs) (suc j) e = by (chain_of_from (first + 1) label rs j (omega (arith, e))) (has_cells r) where
  by : chain_of (chains_from (first + 1) rs) label ≡ get_or rs j nothing_taken → (b : Bool) → chain_of (cond b (record { label = first; reassembly = r } ∷ chains_from (first + 1) rs) (chains_from (first + 1) rs)) label ≡ get_or rs j nothing_taken
  by rest true = rw (differ_up first label (omega (arith, e))) rest
  by rest false = rest

without_set : (first label : ℕ) (rs : List Reassembly) (j : ℕ) → label ≡ first + j → without chain_key label (chains_from first rs) ≡ chains_from first (set rs j nothing_taken)
without_set first label [] j e = refl
without_set first label (r ∷ rs) zero e = by (without_absent (first + 1) label rs (omega (arith, e))) (has_cells r) where
  by : without chain_key label (chains_from (first + 1) rs) ≡ chains_from (first + 1) rs → (b : Bool) → without chain_key label (cond b (record { label = first; reassembly = r } ∷ chains_from (first + 1) rs) (chains_from (first + 1) rs)) ≡ chains_from (first + 1) rs
  by rest true = rw (same first label (omega (arith, e))) rest
  by rest false = rest
without_set first label (r ∷ rs) (suc j) e = by (without_set (first + 1) label rs j (omega (arith, e))) (has_cells r) where
  by : without chain_key label (chains_from (first + 1) rs) ≡ chains_from (first + 1) (set rs j nothing_taken) → (b : Bool)
      → without chain_key label (cond b (record { label = first; reassembly = r } ∷ chains_from (first + 1) rs) (chains_from (first + 1) rs))
      ≡ cond b (record { label = first; reassembly = r } ∷ chains_from (first + 1) (set rs j nothing_taken)) (chains_from (first + 1) (set rs j nothing_taken))
  by rest true = rw (differ_up first label (omega (arith, e))) (ap (λ (cs : List LabelChain). let c : LabelChain = record { label = first; reassembly = r } in c ∷ cs) rest)
  by rest false = rest

entered_set : (first label : ℕ) (rs : List Reassembly) (j : ℕ) (new : Reassembly) → label ≡ first + j → j < length rs → has_cells new ≡ true → entered (key_le chain_key) (record { label = label; reassembly = new }) (chains_from first (set rs j nothing_taken)) ≡ chains_from first (set rs j new)
entered_set first label [] j new e within kept = absurd (omega (arith, within))
entered_set first label (r ∷ rs) zero new e within kept =
    let is : label ≡ first = omega (arith, e) in
    entered_front (first + 1) (record { label = label; reassembly = new }) rs (omega (arith, e))
    ∙ (rw (kept, is) refl)
entered_set first label (r ∷ rs) (suc j) new e within kept = by (entered_set (first + 1) label rs j new (omega (arith, e)) (omega (arith, within)) kept) (has_cells r) where
  by : entered (key_le chain_key) (record { label = label; reassembly = new }) (chains_from (first + 1) (set rs j nothing_taken)) ≡ chains_from (first + 1) (set rs j new) → (b : Bool)
      → entered (key_le chain_key) (record { label = label; reassembly = new }) (cond b (record { label = first; reassembly = r } ∷ chains_from (first + 1) (set rs j nothing_taken)) (chains_from (first + 1) (set rs j nothing_taken)))
      ≡ cond b (record { label = first; reassembly = r } ∷ chains_from (first + 1) (set rs j new)) (chains_from (first + 1) (set rs j new))
  by rest true = rw (not_le label first (omega (arith, e))) (ap (λ (cs : List LabelChain). let c : LabelChain = record { label = first; reassembly = r } in c ∷ cs) rest)
  by rest false = rest

pub chains_with_set : (first label : ℕ) (rs : List Reassembly) (j : ℕ) (new : Reassembly) → label ≡ first + j → j < length rs → chains_with (chains_from first rs) label new ≡ chains_from first (set rs j new)
chains_with_set first label rs j new e within = by (has_cells new) refl where
  by : (b : Bool) → has_cells new ≡ b
      → cond b (entered (key_le chain_key) (record { label = label; reassembly = new }) (without chain_key label (chains_from first rs))) (without chain_key label (chains_from first rs)) ≡ chains_from first (set rs j new)
  by true h =
      ap (entered (key_le chain_key) (record { label = label; reassembly = new })) (without_set first label rs j e)
      ∙ entered_set first label rs j new e within h
  by false h = without_set first label rs j e ∙ ap (λ (x : Reassembly). chains_from first (set rs j x)) (nothing_kept new h)

-- *Slots*

pub slots_from : (first : ℕ) (rs : List Reassembly) → sum_by (λ c. chain_slots c.reassembly) (chains_from first rs) ≡ sum_by (λ r. length r.chain) rs
slots_from first [] = refl
slots_from first (r ∷ rs) = by (slots_from (first + 1) rs) (has_cells r) refl where
  by : sum_by (λ c. chain_slots c.reassembly) (chains_from (first + 1) rs) ≡ sum_by (λ x. length x.chain) rs → (b : Bool) → has_cells r ≡ b
      → sum_by (λ c. chain_slots c.reassembly) (cond b (record { label = first; reassembly = r } ∷ chains_from (first + 1) rs) (chains_from (first + 1) rs)) ≡ sum_by (λ x. length x.chain) (r ∷ rs)
  by rest true h =
      sum_by-cons (λ (c : LabelChain). chain_slots c.reassembly) (record { label = first; reassembly = r }) (chains_from (first + 1) rs)
      ∙ ap (λ n. length r.chain + n) rest ∙ sym (sum_by-cons (λ (x : Reassembly). length x.chain) r rs)
  by rest false h =
      let none : length r.chain ≡ 0 = sym (ap (λ (x : Reassembly). length x.chain) (nothing_kept r h)) in
      let whole = sum_by-cons (λ (x : Reassembly). length x.chain) r rs in
      omega (arith, rest, none, whole)

pub no_chains : (first n : ℕ) → chains_from first (replicate n nothing_taken) ≡ []
no_chains first zero = refl
no_chains first (suc n) = no_chains (first + 1) n
