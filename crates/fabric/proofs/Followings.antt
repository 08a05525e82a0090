-- The branches of some rows, one by one.

use Rattle.std.proofs.Common.{◌≡◌, ℕ, zero, suc, ◌+◌, ◌*◌, ◌/◌, ◌%◌, ◌<◌, ◌≤◌, ◌⊎◌, inl, inr, Bool, true, false, cond, List, [], map, get_or, Some, None, refl, ap, subst, ◌∙◌, arith}
use Rattle.std.specs.Prelude.{Option, find}
use Rattle.std.specs.FinMap.{entries, entries-from_sorted}
use Rattle.std.proofs.lemmas.Bool.{cases_lt, cases_eq}
use Rattle.net_types.specs.declared.channel.End.{End}
use Rattle.crossbar_model.specs.declared.branch.Branch.{Branch}
use Rattle.crossbar_model.specs.Channels.{end_cmp}
use Rattle.fabric.specs.Following.{branch_behind, is_behind}
use Rattle.fabric.specs.Table.{branches_in, end_at, end_of, entries_from, entry_at, map_of, with_entry}
use Rattle.fabric.proofs.Channels.{end_at-of}
use Rattle.fabric.proofs.Tables.{entries_sorted}
use Rattle.fabric.proofs.Rows.{entry_of}

-- *The first branch that passes a test*

abbrev outputs : List (End × Branch) → List (End × End)
outputs es = map (λ e. (e.0, e.1.output)) es

abbrev first_that : (End → Bool) → List (End × Branch) → Option (End × End)
first_that P es = find (λ b. P b.0) (outputs es)

skips : (P : End → Bool) (e : End) (o : Option Branch) (rest : List (End × Branch)) → (P e ≡ false) ⊎ (o ≡ None) → first_that P (with_entry e o rest) ≡ first_that P rest
skips P e None rest h = refl
skips P e (Some b) rest (inl other) = ap (λ (t : Bool). cond t (Some (e, b.output)) (first_that P rest)) other
skips P e (Some b) rest (inr none) = absurd (cc none)

stops : (P : End → Bool) (e : End) (o : Option Branch) (b : Branch) (rest : List (End × Branch)) → o ≡ Some b → P e ≡ true → first_that P (with_entry e o rest) ≡ Some (e, b.output)
stops P e None b rest some passes = absurd (cc some)
stops P e (Some c) b rest some passes =
    let same : c ≡ b = cc some in
    ap (λ (t : Bool). cond t (Some (e, c.output)) (first_that P rest)) passes ∙ ap (λ (x : Branch). Some (e, x.output)) same

first_from : (P : End → Bool) (f : ℕ → Option Branch) (j k n : ℕ) (b : Branch) → k ≤ j → j < k + n → f j ≡ Some b → P (end_at j) ≡ true → ((i : ℕ) → i < j → (P (end_at i) ≡ false) ⊎ (f i ≡ None))
    → first_that P (entries_from f k n) ≡ Some (end_at j, b.output)
first_from P f j k zero b low high some passes before = absurd (omega arith)
first_from P f j k (suc n) b low high some passes before =
    elim (cases_eq j k) [
      | inl e ↦ rw e (stops P (end_at k) (f k) b (entries_from f (suc k) n) (subst (λ (i : ℕ). f i ≡ Some b) e some) (subst (λ (i : ℕ). P (end_at i) ≡ true) e passes))
      | inr other ↦
          skips P (end_at k) (f k) (entries_from f (suc k) n) (before k (omega (arith, low, other)))
          ∙ first_from P f j (suc k) n b (omega (arith, low, other)) (omega arith) some passes before
    ]

none_from : (P : End → Bool) (f : ℕ → Option Branch) (k n : ℕ) → ((i : ℕ) → i < k + n → (P (end_at i) ≡ false) ⊎ (f i ≡ None)) → first_that P (entries_from f k n) ≡ None
none_from P f k zero before = refl
none_from P f k (suc n) before =
    skips P (end_at k) (f k) (entries_from f (suc k) n) (before k (omega arith)) ∙ none_from P f (suc k) n (λ i h. before i (omega arith))

first_is : (P : End → Bool) (f : ℕ → Option Branch) (j n : ℕ) (b : Branch) → j < n → f j ≡ Some b → P (end_at j) ≡ true → ((i : ℕ) → i < j → (P (end_at i) ≡ false) ⊎ (f i ≡ None))
    → first_that P (entries (map_of f n)) ≡ Some (end_at j, b.output)
first_is P f j n b h some passes before =
    ap (first_that P) (entries-from_sorted end_cmp (entries_from f 0 n) (entries_sorted f 0 n))
    ∙ first_from P f j 0 n b (omega arith) (omega (arith, h)) some passes before

first_none : (P : End → Bool) (f : ℕ → Option Branch) (n : ℕ) → ((i : ℕ) → i < n → (P (end_at i) ≡ false) ⊎ (f i ≡ None)) → first_that P (entries (map_of f n)) ≡ None
first_none P f n before =
    ap (first_that P) (entries-from_sorted end_cmp (entries_from f 0 n) (entries_sorted f 0 n))
    ∙ none_from P f 0 n (λ i h. before i (omega (arith, h)))

-- *A scan*

abbrev Rows : Type 0
Rows = List (List (Option Branch))

-- no branch in the places before this one stands behind the end
pub record IsPassed (rows : Rows) (other : Option End) (row column : ℕ) : Type 0 where
  pub before : (n : ℕ) → n < 15888 * row + column → (is_behind other (end_at n) ≡ false) ⊎ (entry_at rows n ≡ None)

pub passed_start : (rows : Rows) (other : Option End) (place : ℕ) → ((n : ℕ) → n < place → is_behind other (end_at n) ≡ false) → IsPassed rows other (place / 15888) (place % 15888)
passed_start rows other place up_to = record { before = λ n h. inl (up_to n (omega (arith, h))) }

-- the entries of a row from a column on, by their places
entry_in : (rows : Rows) (row column n : ℕ) → 15888 * row + column ≤ n → n < 15888 * row + 15888 → entry_at rows n ≡ get_or (get_or rows row []) (n % 15888) None
entry_in rows row column n low high =
    let same : n / 15888 ≡ row = omega (arith, low, high) in
    rw same refl

pub passed_row : (rows : Rows) (other : Option End) (row column : ℕ) → IsPassed rows other row column → ((j : ℕ) → column ≤ j → get_or (get_or rows row []) j None ≡ None) → IsPassed rows other (row + 1) 0
passed_row rows other row column passed none = record {
  before = λ n h.
      elim (cases_lt n (15888 * row + column)) [
        | inl less ↦ passed.before n less
        | inr level ↦ inr (entry_in rows row column n level (omega (arith, h)) ∙ none (n % 15888) (omega (arith, h, level)))
      ];
}

pub behind_here : (rows : Rows) (other : Option End) (row column from : ℕ) (b : Branch) → row < 16 → column < 15888 → from ≤ column → IsPassed rows other row from → get_or (get_or rows row []) column None ≡ Some b → is_behind other (end_at (15888 * row + column)) ≡ true
    → ((j : ℕ) → from ≤ j → j < column → get_or (get_or rows row []) j None ≡ None) → branch_behind (branches_in rows) other ≡ Some (end_of row column, b.output)
unfolding branches_in
behind_here rows other row column from b low most up passed some behind before =
    first_is (is_behind other) (entry_at rows) (15888 * row + column) (15888 * 16) b (omega (arith, low, most)) (entry_of rows row column most ∙ some) behind
    (λ n h.
    elim (cases_lt n (15888 * row + from)) [
      | inl less ↦ passed.before n less
      | inr level ↦ inr (entry_in rows row from n level (omega (arith, h, most)) ∙ before (n % 15888) (omega (arith, h, level, most)) (omega (arith, h, level, most)))
    ])
    ∙ ap (λ (e : End). Some (e, b.output)) (end_at-of row column most)

pub behind_none : (rows : Rows) (other : Option End) (row column : ℕ) → 16 ≤ row → IsPassed rows other row column → branch_behind (branches_in rows) other ≡ None
unfolding branches_in
behind_none rows other row column end passed = first_none (is_behind other) (entry_at rows) (15888 * 16) (λ n h. passed.before n (omega (arith, h, end)))
