-- The finite map of the places of some rows.

use Rattle.std.proofs.Common.{◌≡◌, ◌≢◌, ℕ, zero, suc, ◌+◌, ◌<◌, ◌≤◌, ◌⊎◌, inl, inr, Bool, true, false, cond, ◌&&◌, T, List, map, Some, None, refl, sym, ap, subst, ◌∙◌, arith}
use Rattle.std.specs.Prelude.{Option, find}
use Rattle.std.specs.List.{list_all}
use Rattle.std.specs.declared.cmp.Ordering.{Ordering}
use Rattle.std.specs.declared.cmp.Ordering.TheVariants.{Less, Equal, Greater}
use Rattle.std.specs.Ordering.{eq_by_cmp, is_eq, is_lt}
use Rattle.std.specs.Cmp.{tied_itself}
use Rattle.std.specs.FinMap.{get, insert, remove, empty, keys, same_map, get-from_sorted, get-insert, get-remove, get-empty, entries-from_sorted}
use Rattle.std.specs.FinMap.Entries.{find as find_entry, below_all, is_sorted}
use Rattle.std.proofs.lemmas.Bool.{cases_eq}
use Rattle.net_types.specs.declared.channel.End.{End}
use Rattle.crossbar_model.specs.declared.branch.Branch.{Branch}
use Rattle.crossbar_model.specs.Channels.{end_cmp}
use Rattle.crossbar_model.specs.Crossbar.{Branches}
use Rattle.fabric.specs.Table.{end_at, with_entry, entries_from, map_of}
use Rattle.fabric.proofs.Channels.{end_cmp_total, end_cmp-IsAntisymmetric, ends_rise, ends_differ}

true_with : (a b : Bool) → a ≡ true → T b → T (a && b)
true_with true b e h = h
true_with false b e h = absurd (cc e)

below_with : (x e : End) (o : Option Branch) (rest : List (End × Branch)) → end_cmp x e ≡ Less → T (below_all end_cmp x rest) → T (below_all end_cmp x (with_entry e o rest))
below_with x e None rest less h = h
below_with x e (Some b) rest less h = true_with (is_lt (end_cmp x e)) _ (ap is_lt less) h

below_from : (f : ℕ → Option Branch) (x : End) (k n : ℕ) → ((j : ℕ) → k ≤ j → end_cmp x (end_at j) ≡ Less) → T (below_all end_cmp x (entries_from f k n))
below_from f x k zero less = tt
below_from f x k (suc n) less =
    below_with x (end_at k) (f k) (entries_from f (suc k) n) (less k (omega arith)) (below_from f x (suc k) n (λ j h. less j (omega arith)))

sorted_with : (e : End) (o : Option Branch) (rest : List (End × Branch)) → T (below_all end_cmp e rest) → T (is_sorted end_cmp rest) → T (is_sorted end_cmp (with_entry e o rest))
sorted_with e None rest below h = h
sorted_with e (Some b) rest below h = both (below_all end_cmp e rest) _ below h
  where
    both : (a b : Bool) → T a → T b → T (a && b)
    both true b p q = q
    both false b p q = absurd p

pub entries_sorted : (f : ℕ → Option Branch) (k n : ℕ) → T (is_sorted end_cmp (entries_from f k n))
entries_sorted f k zero = tt
entries_sorted f k (suc n) =
    sorted_with (end_at k) (f k) (entries_from f (suc k) n) (below_from f (end_at k) (suc k) n (λ j h. ends_rise k j (omega arith))) (entries_sorted f (suc k) n)

-- *A look-up*

not_tied : (x y : End) → x ≢ y → eq_by_cmp end_cmp x y ≡ false
not_tied x y differ = by (end_cmp x y) refl
  where
    by : (o : Ordering) → end_cmp x y ≡ o → is_eq (end_cmp x y) ≡ false
    by Less e = ap is_eq e
    by Equal e = absurd (differ (end_cmp-IsAntisymmetric x y e))
    by Greater e = ap is_eq e

skipped : (q e : End) (o : Option Branch) (rest : List (End × Branch)) → q ≢ e → find_entry end_cmp q (with_entry e o rest) ≡ find_entry end_cmp q rest
skipped q e None rest differ = refl
skipped q e (Some b) rest differ = ap (λ (t : Bool). cond t (Some b) (find_entry end_cmp q rest)) (not_tied q e differ)

here : (e : End) (o : Option Branch) (rest : List (End × Branch)) → find_entry end_cmp e rest ≡ None → find_entry end_cmp e (with_entry e o rest) ≡ o
here e None rest none = none
here e (Some b) rest none = ap (λ (t : Bool). cond t (Some b) (find_entry end_cmp e rest)) (ap is_eq (tied_itself end_cmp_total e))

absent : (f : ℕ → Option Branch) (q : End) (k n : ℕ) → ((j : ℕ) → k ≤ j → j < k + n → end_at j ≢ q) → find_entry end_cmp q (entries_from f k n) ≡ None
absent f q k zero differ = refl
absent f q k (suc n) differ =
    skipped q (end_at k) (f k) (entries_from f (suc k) n) (λ e. differ k (omega arith) (omega arith) (sym e))
    ∙ absent f q (suc k) n (λ j low high. differ j (omega arith) (omega arith))

present : (f : ℕ → Option Branch) (j k n : ℕ) → k ≤ j → j < k + n → find_entry end_cmp (end_at j) (entries_from f k n) ≡ f j
present f j k zero low high = absurd (omega arith)
present f j k (suc n) low high =
    elim (cases_eq j k) [
      | inl e ↦
          rw e (here (end_at k) (f k) (entries_from f (suc k) n)
          (absent f (end_at k) (suc k) n (λ i above within same. absurd (omega (arith, above, ends_differ i k same)))))
      | inr n' ↦
          skipped (end_at j) (end_at k) (f k) (entries_from f (suc k) n) (λ e. n' (ends_differ j k e))
          ∙ present f j (suc k) n (omega (arith, low, n')) (omega arith)
    ]

pub get_at : (f : ℕ → Option Branch) (n j : ℕ) → j < n → get (map_of f n) (end_at j) ≡ f j
get_at f n j h = get-from_sorted end_cmp (entries_from f 0 n) (end_at j) (entries_sorted f 0 n) ∙ present f j 0 n (omega arith) (omega (arith, h))

pub get_none : (f : ℕ → Option Branch) (n : ℕ) (q : End) → ((j : ℕ) → j < n → end_at j ≢ q) → get (map_of f n) q ≡ None
get_none f n q differ = get-from_sorted end_cmp (entries_from f 0 n) q (entries_sorted f 0 n) ∙ absent f q 0 n (λ j low high. differ j (omega (arith, high)))

-- *A change*

-- an end has one of the first n places, or none
record HasPlace (n : ℕ) (q : End) : Type 0 where
  pub place : ℕ
  pub within : place < n
  pub is : end_at place ≡ q

place_or_none : (n : ℕ) (q : End) → HasPlace n q ⊎ ((j : ℕ) → j < n → end_at j ≢ q)
place_or_none zero q = inr (λ j h e. absurd (omega arith))
place_or_none (suc n) q =
    elim (place_or_none n q) [
      | inl at ↦ inl (record { place = at.place; within = omega (arith, at.within); is = at.is })
      | inr none ↦ by (end_cmp (end_at n) q) refl none
    ]
  where
    last : end_at n ≢ q → ((j : ℕ) → j < n → end_at j ≢ q) → (j : ℕ) → j < suc n → end_at j ≢ q
    last differ none j h e =
        elim (cases_eq j n) [
          | inl same ↦ differ (subst (λ (i : ℕ). end_at i ≡ q) same e)
          | inr other ↦ none j (omega (arith, h, other)) e
        ]

    by : (o : Ordering) → end_cmp (end_at n) q ≡ o → ((j : ℕ) → j < n → end_at j ≢ q) → HasPlace (suc n) q ⊎ ((j : ℕ) → j < suc n → end_at j ≢ q)
    by Equal e none = inl (record { place = n; within = omega arith; is = end_cmp-IsAntisymmetric (end_at n) q e })
    by Less e none = inr (last (λ same. absurd (cc (sym e ∙ ap (end_cmp (end_at n)) (sym same) ∙ tied_itself end_cmp_total (end_at n)))) none)
    by Greater e none = inr (last (λ same. absurd (cc (sym e ∙ ap (end_cmp (end_at n)) (sym same) ∙ tied_itself end_cmp_total (end_at n)))) none)

-- two maps that answer alike at each place, and at each other end, are one
alike : (m : Branches) (f : ℕ → Option Branch) (n : ℕ) → ((j : ℕ) → j < n → get m (end_at j) ≡ f j) → ((q : End) → ((j : ℕ) → j < n → end_at j ≢ q) → get m q ≡ None) → map_of f n ≡ m
alike m f n places others = same_map end_cmp_total end_cmp-IsAntisymmetric (map_of f n) m by
  where
    by : (q : End) → get (map_of f n) q ≡ get m q
    by q =
        elim (place_or_none n q) [
          | inl at ↦ subst (λ (e : End). get (map_of f n) e ≡ get m e) at.is (get_at f n at.place at.within ∙ sym (places at.place at.within))
          | inr none ↦ get_none f n q none ∙ sym (others q none)
        ]

module _ (f g : ℕ → Option Branch) (n k : ℕ) (within : k < n) (same : (j : ℕ) → j < n → j ≢ k → g j ≡ f j) where
  pub inserted : (b : Branch) → g k ≡ Some b → map_of g n ≡ insert (map_of f n) (end_at k) b
  inserted b now = alike (insert (map_of f n) (end_at k) b) g n places others
    where
      places : (j : ℕ) → j < n → get (insert (map_of f n) (end_at k) b) (end_at j) ≡ g j
      places j h =
          get-insert end_cmp_total (map_of f n) (end_at k) b (end_at j)
          ∙ elim (cases_eq j k) [
            | inl e ↦ rw e (ap (λ (t : Bool). cond t (Some b) (get (map_of f n) (end_at k))) (ap is_eq (tied_itself end_cmp_total (end_at k))) ∙ sym now)
            | inr other ↦
                ap (λ (t : Bool). cond t (Some b) (get (map_of f n) (end_at j))) (not_tied (end_at j) (end_at k) (λ e. other (ends_differ j k e)))
                ∙ get_at f n j h ∙ sym (same j h other)
          ]

      others : (q : End) → ((j : ℕ) → j < n → end_at j ≢ q) → get (insert (map_of f n) (end_at k) b) q ≡ None
      others q none =
          get-insert end_cmp_total (map_of f n) (end_at k) b q
          ∙ ap (λ (t : Bool). cond t (Some b) (get (map_of f n) q)) (not_tied q (end_at k) (λ e. none k within (sym e)))
          ∙ get_none f n q none

  pub removed : g k ≡ None → map_of g n ≡ remove (map_of f n) (end_at k)
  removed now = alike (remove (map_of f n) (end_at k)) g n places others
    where
      places : (j : ℕ) → j < n → get (remove (map_of f n) (end_at k)) (end_at j) ≡ g j
      places j h =
          get-remove end_cmp_total (map_of f n) (end_at k) (end_at j)
          ∙ elim (cases_eq j k) [
            | inl e ↦ rw e (ap (λ (t : Bool). cond t None (get (map_of f n) (end_at k))) (ap is_eq (tied_itself end_cmp_total (end_at k))) ∙ sym now)
            | inr other ↦
                ap (λ (t : Bool). cond t None (get (map_of f n) (end_at j))) (not_tied (end_at j) (end_at k) (λ e. other (ends_differ j k e)))
                ∙ get_at f n j h ∙ sym (same j h other)
          ]

      others : (q : End) → ((j : ℕ) → j < n → end_at j ≢ q) → get (remove (map_of f n) (end_at k)) q ≡ None
      others q none =
          get-remove end_cmp_total (map_of f n) (end_at k) q
          ∙ ap (λ (t : Bool). cond t None (get (map_of f n) q)) (not_tied q (end_at k) (λ e. none k within (sym e)))
          ∙ get_none f n q none

pub nothing : (f : ℕ → Option Branch) (n : ℕ) → ((j : ℕ) → j < n → f j ≡ None) → map_of f n ≡ empty
nothing f n none = alike empty f n (λ j h. get-empty end_cmp (end_at j) ∙ sym (none j h)) (λ q other. get-empty end_cmp q)

-- *The first input that passes a test*

keys_with : (P : End → Bool) (e : End) (o : Option Branch) (rest : List (End × Branch)) → (P e ≡ false) ⊎ (o ≡ None) → find P (map (λ x. x.0) (with_entry e o rest)) ≡ find P (map (λ x. x.0) rest)
keys_with P e None rest h = refl
keys_with P e (Some b) rest (inl other) = ap (λ (t : Bool). cond t (Some e) (find P (map (λ (x : End × Branch). x.0) rest))) other
keys_with P e (Some b) rest (inr none) = absurd (cc none)

key_here : (P : End → Bool) (e : End) (o : Option Branch) (b : Branch) (rest : List (End × Branch)) → o ≡ Some b → P e ≡ true → find P (map (λ x. x.0) (with_entry e o rest)) ≡ Some e
key_here P e None b rest some passes = absurd (cc some)
key_here P e (Some c) b rest some passes = ap (λ (t : Bool). cond t (Some e) (find P (map (λ (x : End × Branch). x.0) rest))) passes

first_from : (P : End → Bool) (f : ℕ → Option Branch) (j k n : ℕ) (b : Branch) → k ≤ j → j < k + n → f j ≡ Some b → P (end_at j) ≡ true → ((i : ℕ) → i < j → (P (end_at i) ≡ false) ⊎ (f i ≡ None))
    → find P (map (λ x. x.0) (entries_from f k n)) ≡ Some (end_at j)
first_from P f j k zero b low high some passes before = absurd (omega arith)
first_from P f j k (suc n) b low high some passes before =
    elim (cases_eq j k) [
      | inl e ↦ rw e (key_here P (end_at k) (f k) b (entries_from f (suc k) n) (subst (λ (i : ℕ). f i ≡ Some b) e some) (subst (λ (i : ℕ). P (end_at i) ≡ true) e passes))
      | inr other ↦
          keys_with P (end_at k) (f k) (entries_from f (suc k) n) (before k (omega (arith, low, other)))
          ∙ first_from P f j (suc k) n b (omega (arith, low, other)) (omega arith) some passes before
    ]

none_from : (P : End → Bool) (f : ℕ → Option Branch) (k n : ℕ) → ((i : ℕ) → i < k + n → (P (end_at i) ≡ false) ⊎ (f i ≡ None)) → find P (map (λ x. x.0) (entries_from f k n)) ≡ None
none_from P f k zero before = refl
none_from P f k (suc n) before =
    keys_with P (end_at k) (f k) (entries_from f (suc k) n) (before k (omega arith)) ∙ none_from P f (suc k) n (λ i h. before i (omega arith))

pub first_is : (P : End → Bool) (f : ℕ → Option Branch) (j n : ℕ) (b : Branch) → j < n → f j ≡ Some b → P (end_at j) ≡ true → ((i : ℕ) → i < j → (P (end_at i) ≡ false) ⊎ (f i ≡ None)) → find P (keys (map_of f n)) ≡ Some (end_at j)
first_is P f j n b h some passes before =
    ap (λ (es : List (End × Branch)). find P (map (λ x. x.0) es)) (entries-from_sorted end_cmp (entries_from f 0 n) (entries_sorted f 0 n))
    ∙ first_from P f j 0 n b (omega arith) (omega (arith, h)) some passes before

pub first_none : (P : End → Bool) (f : ℕ → Option Branch) (n : ℕ) → ((i : ℕ) → i < n → (P (end_at i) ≡ false) ⊎ (f i ≡ None)) → find P (keys (map_of f n)) ≡ None
first_none P f n before =
    ap (λ (es : List (End × Branch)). find P (map (λ x. x.0) es)) (entries-from_sorted end_cmp (entries_from f 0 n) (entries_sorted f 0 n))
    ∙ none_from P f 0 n (λ i h. before i (omega (arith, h)))

all_with : (P : End → Bool) (e : End) (o : Option Branch) (rest : List (End × Branch)) → ((b : Branch) → o ≡ Some b → P e ≡ true) → list_all P (map (λ x. x.0) rest) ≡ true → list_all P (map (λ x. x.0) (with_entry e o rest)) ≡ true
all_with P e None rest one h = h
all_with P e (Some b) rest one h = rw (one b refl) h

all_from : (P : End → Bool) (f : ℕ → Option Branch) (k n : ℕ) → ((i : ℕ) (b : Branch) → f i ≡ Some b → P (end_at i) ≡ true) → list_all P (map (λ x. x.0) (entries_from f k n)) ≡ true
all_from P f k zero each = refl
all_from P f k (suc n) each = all_with P (end_at k) (f k) (entries_from f (suc k) n) (λ b e. each k b e) (all_from P f (suc k) n each)

-- what holds of the channel of each branch holds of each key
pub all_keys : (P : End → Bool) (f : ℕ → Option Branch) (n : ℕ) → ((i : ℕ) (b : Branch) → f i ≡ Some b → P (end_at i) ≡ true) → list_all P (keys (map_of f n)) ≡ true
all_keys P f n each =
    ap (λ (es : List (End × Branch)). list_all P (map (λ x. x.0) es)) (entries-from_sorted end_cmp (entries_from f 0 n) (entries_sorted f 0 n))
    ∙ all_from P f 0 n each
