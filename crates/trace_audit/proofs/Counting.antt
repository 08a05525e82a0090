-- how many cells of a channel stand in a queue

use Rattle.std.proofs.Common.{◌≡◌, ◌≤◌, ℕ, suc, ◌+◌, ◌-◌, Bool, true, false, cond, ◌&&◌, ◌||◌, nat_lt, filter, List, [], ◌∷◌, ◌++◌, length, drop, slice_get, None, Some, refl, sym, ap, subst, ◌∙◌, arith}
use Rattle.std.proofs.lemmas.Bool.{and_from}
use Rattle.std.proofs.lemmas.Bool.Decides.{nat_tests}
use Rattle.std.specs.List.{list_any}
use Rattle.std.specs.Map.{lookup}
use Rattle.std.specs.Option.{option_map_or}
use Rattle.trace_model.specs.declared.cell.TraceCell.{TraceCell}
use Rattle.trace_model.specs.declared.end.TraceEnd.{TraceEnd}
use Rattle.trace_model.specs.declared.end.TraceLabel.{TraceLabel}
use Rattle.trace_model.specs.Ends.{same_end, same_channel, same_label}
use Rattle.trace_model.specs.Judgement.{stands_on}
use Rattle.trace_model.proofs.Same.{is_end, is_label, same_end-is, same_channel-is}
use Rattle.trace_audit.specs.Counted.{Cells, Standing, cells_in, standing_on, AreCounted}

positive : (n : ℕ) → nat_lt 0 (suc n) ≡ true
positive n = grind (arith, nat_tests)

-- some pass exactly where one does
pub some_counted : {A : Type 0} (test : A → Bool) (xs : List A) → nat_lt 0 (length (filter test xs)) ≡ list_any test xs
some_counted test [] = refl
some_counted test (x ∷ xs) = by (test x) (some_counted test xs) where
  by : (b : Bool) → nat_lt 0 (length (filter test xs)) ≡ list_any test xs → nat_lt 0 (length (cond b (x ∷ filter test xs) (filter test xs))) ≡ (b || list_any test xs)
  by true rest = positive (length (filter test xs))
  by false rest = rest

-- one more at the end
pub counted_push : {A : Type 0} (test : A → Bool) (xs : List A) (x : A) → length (filter test (xs ++ x ∷ [])) ≡ length (filter test xs) + cond (test x) 1 0
counted_push test [] x = by (test x) where
  by : (b : Bool) → length (cond b (x ∷ []) []) ≡ 0 + cond b 1 0
  by true = refl
  by false = refl
counted_push test (y ∷ xs) x = by (test y) (counted_push test xs x) where
  by : (b : Bool) → length (filter test (xs ++ x ∷ [])) ≡ length (filter test xs) + cond (test x) 1 0
      → length (cond b (y ∷ filter test (xs ++ x ∷ [])) (filter test (xs ++ x ∷ []))) ≡ length (cond b (y ∷ filter test xs) (filter test xs)) + cond (test x) 1 0
  by true rest = omega (arith, rest)
  by false rest = rest

-- one less at the front
pub counted_pop : {A : Type 0} (test : A → Bool) (xs : List A) (x : A) → Some x ≡ slice_get xs 0 → length (filter test (drop 1 xs)) ≡ length (filter test xs) - cond (test x) 1 0
counted_pop test [] x e = absurd (cc e)
counted_pop test (y ∷ xs) x e =
    let same : x ≡ y = cc in
    subst (λ z. length (filter test xs) ≡ length (filter test (y ∷ xs)) - cond (test z) 1 0) (sym same) (by (test y)) where
      by : (b : Bool) → length (filter test xs) ≡ length (cond b (y ∷ filter test xs) (filter test xs)) - cond b 1 0
      by true = omega arith
      by false = omega arith

pub none_first : {A : Type 0} (xs : List A) → None ≡ slice_get xs 0 → xs ≡ []
none_first [] e = refl
none_first (x ∷ xs) e = absurd (cc e)

pub counted-fits : {A : Type 0} (test : A → Bool) (xs : List A) → length (filter test xs) ≤ length xs
counted-fits test [] = omega arith
counted-fits test (x ∷ xs) = by (test x) (counted-fits test xs) where
  by : (b : Bool) → length (filter test xs) ≤ length xs → length (cond b (x ∷ filter test xs) (filter test xs)) ≤ length (x ∷ xs)
  by true rest = omega (arith, rest)
  by false rest = omega (arith, rest)

-- *The counts of all channels* behind a cell that is taken, and behind one that is put
taken : (old new : Cells) (end : TraceEnd) (cell : TraceCell) (at : TraceLabel) → Some cell ≡ slice_get (cells_in old end) 0
    → ((e : TraceEnd) → cells_in new e ≡ cond (same_end end e) (drop 1 (cells_in old e)) (cells_in old e))
    → length (filter (stands_on at.channel) (cells_in new at.end))
    ≡ cond (same_end end at.end && same_channel cell.channel at.channel) (length (filter (stands_on at.channel) (cells_in old at.end)) - 1) (length (filter (stands_on at.channel) (cells_in old at.end)))
taken old new end cell at first rest = ap (λ (cells : List TraceCell). length (filter (stands_on at.channel) cells)) (rest at.end) ∙ by (same_end end at.end) refl where
  less : (b : Bool) (n : ℕ) → n - cond b 1 0 ≡ cond b (n - 1) n
  less true n = refl
  less false n = omega arith

  by : (b : Bool) → same_end end at.end ≡ b → length (filter (stands_on at.channel) (cond b (drop 1 (cells_in old at.end)) (cells_in old at.end)))
      ≡ cond (b && same_channel cell.channel at.channel) (length (filter (stands_on at.channel) (cells_in old at.end)) - 1) (length (filter (stands_on at.channel) (cells_in old at.end)))
  by true s =
      let here : Some cell ≡ slice_get (cells_in old at.end) 0 = subst (λ (e : TraceEnd). Some cell ≡ slice_get (cells_in old e) 0) (is_end end at.end s) first in
      counted_pop (stands_on at.channel) (cells_in old at.end) cell here
      ∙ less (same_channel cell.channel at.channel) (length (filter (stands_on at.channel) (cells_in old at.end)))
  by false s = refl

pub AreCounted-pop : (standing standing_new : Standing) (old new : Cells) (end : TraceEnd) (cell : TraceCell) → AreCounted standing old → Some cell ≡ slice_get (cells_in old end) 0
    → ((e : TraceEnd) → cells_in new e ≡ cond (same_end end e) (drop 1 (cells_in old e)) (cells_in old e))
    → ((at : TraceLabel) → standing_on standing_new at ≡ cond (same_label (record { end = end; channel = cell.channel }) at) (standing_on standing at - 1) (standing_on standing at))
    → AreCounted standing_new new
AreCounted-pop standing standing_new old new end cell counted first rest less at =
    less at ∙ ap (λ (n : ℕ). cond (same_label (record { end = end; channel = cell.channel }) at) (n - 1) n) (counted at)
    ∙ sym (taken old new end cell at first rest)

-- an empty queue stays as it was
pub AreCounted-none : (standing : Standing) (old new : Cells) (end : TraceEnd) → AreCounted standing old → None ≡ slice_get (cells_in old end) 0
    → ((e : TraceEnd) → cells_in new e ≡ cond (same_end end e) (drop 1 (cells_in old e)) (cells_in old e)) → AreCounted standing new
AreCounted-none standing old new end counted none rest at =
    counted at ∙ ap (λ (cells : List TraceCell). length (filter (stands_on at.channel) cells)) (sym (rest at.end ∙ by (same_end end at.end) refl)) where
      by : (b : Bool) → same_end end at.end ≡ b → cond b (drop 1 (cells_in old at.end)) (cells_in old at.end) ≡ cells_in old at.end
      by true s =
          let empty : cells_in old at.end ≡ [] = none_first (cells_in old at.end) (subst (λ (e : TraceEnd). None ≡ slice_get (cells_in old e) 0) (is_end end at.end s) none) in
          ap (drop 1) empty ∙ sym empty
      by false s = refl

pub AreCounted-push : (standing standing_new : Standing) (old new : Cells) (end : TraceEnd) (cell : TraceCell) (count : ℕ) → AreCounted standing old
    → count ≡ standing_on standing (record { end = end; channel = cell.channel })
    → ((e : TraceEnd) → cells_in new e ≡ cond (same_end end e) (cells_in old e ++ cell ∷ []) (cells_in old e))
    → ((at : TraceLabel) → standing_on standing_new at ≡ cond (same_label (record { end = end; channel = cell.channel }) at) (count + 1) (standing_on standing at))
    → AreCounted standing_new new
AreCounted-push standing standing_new old new end cell count counted is rest more at =
    more at ∙ own (same_end end at.end) (same_channel cell.channel at.channel) refl refl
    ∙ sym (ap (λ (cells : List TraceCell). length (filter (stands_on at.channel) cells)) (rest at.end) ∙ by (same_end end at.end)) where
      counts : ℕ
      counts = length (filter (stands_on at.channel) (cells_in old at.end))

      own : (e c : Bool) → same_end end at.end ≡ e → same_channel cell.channel at.channel ≡ c → cond (e && c) (count + 1) (standing_on standing at) ≡ cond e (counts + cond c 1 0) counts
      own true true s t =
          let same : record { end = end; channel = cell.channel } ≡ at = is_label (record { end = end; channel = cell.channel }) at (and_from (same_end end at.end) (same_channel cell.channel at.channel) s t) in
          ap (λ (n : ℕ). n + 1) (is ∙ ap (standing_on standing) same ∙ counted at)
      own true false s t = counted at ∙ (omega arith)
      own false c s t = counted at

      by : (b : Bool) → length (filter (stands_on at.channel) (cond b (cells_in old at.end ++ cell ∷ []) (cells_in old at.end))) ≡ cond b (counts + cond (same_channel cell.channel at.channel) 1 0) counts
      by true = counted_push (stands_on at.channel) (cells_in old at.end) cell
      by false = refl

-- one more of a channel is no more than there are cells
pub count-fits : (standing : Standing) (old new : Cells) (end : TraceEnd) (cell : TraceCell) (count len : ℕ) → AreCounted standing old
    → count ≡ standing_on standing (record { end = end; channel = cell.channel })
    → ((e : TraceEnd) → cells_in new e ≡ cond (same_end end e) (cells_in old e ++ cell ∷ []) (cells_in old e))
    → len ≡ length (cells_in new end) → count + 1 ≤ len
count-fits standing old new end cell count len counted is rest len_is =
    let label : TraceLabel = record { end = end; channel = cell.channel } in
    let whole : cells_in new end ≡ cells_in old end ++ cell ∷ [] = rest end ∙ ap (λ (b : Bool). cond b (cells_in old end ++ cell ∷ []) (cells_in old end)) (same_end-is end end refl) in
    let more : length (filter (stands_on cell.channel) (cells_in old end ++ cell ∷ [])) ≡ length (filter (stands_on cell.channel) (cells_in old end)) + 1 =
    counted_push (stands_on cell.channel) (cells_in old end) cell
    ∙ ap (λ (b : Bool). length (filter (stands_on cell.channel) (cells_in old end)) + cond b 1 0) (same_channel-is cell.channel cell.channel refl) in
    let fits = counted-fits (stands_on cell.channel) (cells_in old end ++ cell ∷ []) in
    let counts : count ≡ length (filter (stands_on cell.channel) (cells_in old end)) = is ∙ counted label in
    let long : len ≡ length (cells_in old end ++ cell ∷ []) = len_is ∙ ap (λ (cells : List TraceCell). length cells) whole in
    omega arith

-- the same entries count the same
pub AreCounted-same : (old new : Standing) (cells : Cells) → new.entries ≡ old.entries → AreCounted old cells → AreCounted new cells
AreCounted-same old new cells same counted at =
    ap (λ (entries : List (TraceLabel × ℕ)). option_map_or (λ count. count) (lookup (same_label at) entries) 0) same ∙ counted at
