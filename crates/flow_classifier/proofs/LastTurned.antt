-- Each row is brought up to date and put first once, the last one at each step, and so they stand as they stood.

use Rattle.std.proofs.Common.{◌≡◌, ◌⊎◌, inl, inr, Bool, ℕ, ◌+◌, ◌-◌, ◌<◌, List, [], ◌∷◌, ◌++◌, length, take, map, All, Some, refl, sym, ap, subst, ◌∙◌, append-nil, arith}
use Rattle.std.specs.Prelude.{slice_get}
use Rattle.std.specs.List.{IsDistinct}
use Rattle.std.specs.Map.{keys_of, lookup, set_value}
use Rattle.std.proofs.lemmas.List.{append_assoc, length-append, take_at}
use Rattle.std.proofs.lemmas.List.Elements.{All-head, All-map, All-tail, All-weaker}
use Rattle.lru.specs.LruCache.{last_entry, LruCache, lru_cache, promoted}
use Rattle.ipv4_packet.specs.declared.flow.FlowId.{FlowId}
use Rattle.ipv4_packet.specs.Parts.{same_flow}
use Rattle.port_model.specs.Counts.{Counted, window_moved}
use Rattle.flow_classifier.specs.declared.tally.Tally.{Tally}
use Rattle.flow_classifier.specs.Rows.{AreRows, begun_anew, counted, counts_of, last_turned, Row}
use Rattle.flow_classifier.proofs.Backwards.{back}
use Rattle.flow_classifier.proofs.Orders.{back_is, map-back}
use Rattle.flow_classifier.proofs.Tallies.{begins_anew, stands_after_tick}
use Rattle.flow_classifier.proofs.Turning.{last_found, last_removed, OfWindow, set_first}

abbrev Split : List Row → Type 0
Split rows = (rows ≡ []) ⊎ ((before : List Row) × (last : Row) × (rows ≡ before ++ last ∷ []))

split : (rows : List Row) → Split rows
split [] = inl refl
split (row ∷ rows) = elim (split rows) [
  | inl e ↦ inr ([], row, ap (λ (others : List Row). row ∷ others) e)
  | inr s ↦ inr (row ∷ s.0, s.1, ap (λ (others : List Row). row ∷ others) s.2)
]

stands_last : (before : List Row) (last : Row) → slice_get (before ++ last ∷ []) (length before) ≡ Some last
stands_last [] last = refl
stands_last (row ∷ before) last = stands_last before last

behind : (before : List Row) (last : Row) → length (before ++ last ∷ []) - 1 ≡ length before
behind before last = omega (arith, length-append before (last ∷ []))

last_is : (before : List Row) (last : Row) → last_entry (before ++ last ∷ []) ≡ Some last
last_is before last = ap (slice_get (before ++ last ∷ [])) (behind before last) ∙ stands_last before last

turned_is : (ticks : ℕ) (before : List Row) (last : Row) → last_turned ticks (before ++ last ∷ []) ≡ begun_anew ticks last ∷ before
turned_is ticks before last =
    rw (last_is before last)
    (ap (λ (others : List Row). begun_anew ticks last ∷ others) (take_at before (last ∷ []) (length (before ++ last ∷ []) - 1) (sym (behind before last))))

module _ (eq : FlowId → FlowId → Bool) (is : (a b : FlowId) → eq a b ≡ same_flow b a) where
  -- the last row is found by its flow
  pub found_by_last : (flow : FlowId) (tally : Tally) (rows : List Row) → IsDistinct eq (keys_of rows) → Some (flow, tally) ≡ last_entry rows → lookup (eq flow) rows ≡ Some tally
  found_by_last flow tally rows distinct h = elim (split rows) [
    | inl e ↦ let none = rw e at h in absurd (cc none)
    | inr s ↦
        let here : (flow, tally) ≡ s.1 = cc (h ∙ ap last_entry s.2 ∙ last_is s.0 s.1) in
        let there = last_found eq is s.1 s.0 (subst (λ (rs : List Row). IsDistinct eq (keys_of rs)) s.2 distinct) in
        ap (λ (rs : List Row). lookup (eq flow) rs) s.2
        ∙ ap (λ (row : Row). lookup (eq row.0) (s.0 ++ s.1 ∷ [])) here
        ∙ there
        ∙ ap (λ (row : Row). Some row.1) (sym here)
  ]

  turned_so : (ticks : ℕ) (tally : Tally) (before : List Row) (last : Row) → IsDistinct eq (keys_of (before ++ last ∷ [])) → lookup (eq last.0) (before ++ last ∷ []) ≡ Some tally
      → set_value (eq last.0) (promoted (eq last.0) (before ++ last ∷ [])) (begun_anew ticks (last.0, tally)).1 ≡ last_turned ticks (before ++ last ∷ [])
  turned_so ticks tally before last distinct h =
      let own : tally ≡ last.1 = cc (sym h ∙ last_found eq is last before distinct) in
      set_first eq is last.0 tally (begun_anew ticks (last.0, tally)).1 (before ++ last ∷ []) h
      ∙ (λ i. begun_anew ticks (last.0, own i) ∷ last_removed eq is last before distinct i)
      ∙ sym (turned_is ticks before last)

  pub last_is_turned : (ticks : ℕ) (flow : FlowId) (tally held : Tally) (rows : List Row) → IsDistinct eq (keys_of rows) → Some (flow, tally) ≡ last_entry rows → Some held ≡ lookup (eq flow) rows
      → set_value (eq flow) (promoted (eq flow) rows) (begun_anew ticks (flow, held)).1 ≡ last_turned ticks rows
  last_is_turned ticks flow tally held rows distinct h there = elim (split rows) [
    | inl e ↦ let none = rw e at h in absurd (cc none)
    | inr s ↦
        let here : (flow, tally) ≡ s.1 = cc (h ∙ ap last_entry s.2 ∙ last_is s.0 s.1) in
        let key : flow ≡ s.1.0 = ap (λ (row : Row). row.0) here in
        let held_so : lookup (eq s.1.0) (s.0 ++ s.1 ∷ []) ≡ Some held = (λ i. lookup (eq (sym key i)) (sym s.2 i)) ∙ sym there in
        (λ i. set_value (eq (key i)) (promoted (eq (key i)) (s.2 i)) (begun_anew ticks (key i, held)).1)
        ∙ turned_so ticks held s.0 s.1 (subst (λ (rs : List Row). IsDistinct eq (keys_of rs)) s.2 distinct) held_so
        ∙ ap (last_turned ticks) (sym s.2)
  ]

-- so many rows were turned, and those before them weren't
pub record AreTurned (ticks done : ℕ) (old new : LruCache FlowId Tally) : Type 0 where
  pub before : List Row
  pub turned : List Row
  pub split_so : old.entries ≡ before ++ turned
  pub as_many : length turned ≡ done
  pub stand : new ≡ lru_cache (map (begun_anew ticks) turned ++ before) old.cap

pub none_turned : (ticks : ℕ) (old : LruCache FlowId Tally) → AreTurned ticks 0 old old
none_turned ticks old = record { before = old.entries; turned = []; split_so = sym (append-nil old.entries); as_many = refl; stand = refl }

pub one_turned : (ticks done : ℕ) (old new next : LruCache FlowId Tally) → done < length old.entries → next ≡ lru_cache (last_turned ticks new.entries) new.cap → AreTurned ticks done old new → AreTurned ticks (done + 1) old next
one_turned ticks done old new next more step are = elim (split are.before) [
  | inl e ↦ absurd (omega (arith, more, are.as_many, ap length are.split_so, ap (λ (rs : List Row). length (rs ++ are.turned)) e))
  | inr s ↦
      let began : List Row = map (begun_anew ticks) are.turned in
      record {
        before = s.0;
        turned = s.1 ∷ are.turned;
        split_so = are.split_so ∙ ap (λ (rs : List Row). rs ++ are.turned) s.2 ∙ append_assoc s.0 (s.1 ∷ []) are.turned;
        as_many = omega (arith, are.as_many);
        stand =
            step
            ∙ (λ i. lru_cache (last_turned ticks (are.stand i).entries) (are.stand i).cap)
            ∙ ap (λ (rs : List Row). lru_cache (last_turned ticks rs) old.cap) (ap (λ (rs : List Row). began ++ rs) s.2 ∙ sym (append_assoc began s.0 (s.1 ∷ [])))
            ∙ ap (λ (rs : List Row). lru_cache rs old.cap) (turned_is ticks (began ++ s.0) s.1);
      }
]

none_before : (rows : List Row) → length rows ≡ 0 → rows ≡ []
none_before [] h = refl
none_before (row ∷ rows) h = absurd (omega (arith, h))

pub all_turned : (ticks done : ℕ) (old new : LruCache FlowId Tally) → length old.entries ≡ done → AreTurned ticks done old new → new ≡ lru_cache (map (begun_anew ticks) old.entries) old.cap
all_turned ticks done old new all are =
    let empty : are.before ≡ [] = none_before are.before (omega (arith, all, are.as_many, ap length are.split_so, length-append are.before are.turned)) in
    are.stand
    ∙ ap (λ (rs : List Row). lru_cache (map (begun_anew ticks) are.turned ++ rs) old.cap) empty
    ∙ ap (λ (rs : List Row). lru_cache rs old.cap) (append-nil (map (begun_anew ticks) are.turned))
    ∙ ap (λ (rs : List Row). lru_cache (map (begun_anew ticks) rs) old.cap) (sym (are.split_so ∙ ap (λ (rs : List Row). rs ++ are.turned) empty))

-- they count what they counted
counted_anew : (ticks : ℕ) (rows : List Row) → map (counted 0) (map (begun_anew ticks) rows) ≡ map (counted ticks) rows
counted_anew ticks [] = refl
counted_anew ticks (row ∷ rows) = λ i. record { flow = row.0; packets = begins_anew ticks row i } ∷ counted_anew ticks rows i

pub counts_anew : (ticks : ℕ) (rows : List Row) → counts_of 0 (map (begun_anew ticks) rows) ≡ counts_of ticks rows
counts_anew ticks rows =
    back_is (map (counted 0) (map (begun_anew ticks) rows))
    ∙ ap back (counted_anew ticks rows)
    ∙ sym (back_is (map (counted ticks) rows))

pub rows_anew : (window ticks : ℕ) (rows : LruCache FlowId Tally) → AreRows window ticks rows → AreRows window 0 (lru_cache (map (begun_anew ticks) rows.entries) rows.cap)
rows_anew window ticks rows are = record {
  most = are.most;
  rings = All-map (OfWindow window 0) (begun_anew ticks) rows.entries
      (All-weaker (OfWindow window ticks) (λ (row : Row). OfWindow window 0 (begun_anew ticks row)) (λ row h. (h.0, omega arith)) rows.entries are.rings);
}

-- a tick
counted_next : (window ticks : ℕ) (rows : List Row) → All (OfWindow window ticks) rows → map (λ (c : Counted). record c { packets = take window (0 ∷ c.packets) }) (map (counted ticks) rows) ≡ map (counted (ticks + 1)) rows
counted_next window ticks [] kept = refl
counted_next window ticks (row ∷ rows) kept =
    let first = All-head (OfWindow window ticks) row rows kept in
    let next = ap (λ (k : ℕ). take k (0 ∷ (counted ticks row).packets)) (sym first.0) ∙ stands_after_tick ticks row.1 first.1 in
    λ i. record { flow = row.0; packets = next i } ∷ counted_next window ticks rows (All-tail (OfWindow window ticks) row rows kept) i

pub counts_next : (window ticks : ℕ) (rows : List Row) → All (OfWindow window ticks) rows → counts_of (ticks + 1) rows ≡ window_moved window (counts_of ticks rows)
counts_next window ticks rows kept =
    back_is (map (counted (ticks + 1)) rows)
    ∙ ap back (sym (counted_next window ticks rows kept))
    ∙ sym (map-back (λ (c : Counted). record c { packets = take window (0 ∷ c.packets) }) (map (counted ticks) rows))
    ∙ ap (window_moved window) (sym (back_is (map (counted ticks) rows)))

pub rows_next : (window ticks : ℕ) (rows : LruCache FlowId Tally) → AreRows window ticks rows → AreRows window (ticks + 1) rows
rows_next window ticks rows are = record {
  most = are.most;
  rings = All-weaker (OfWindow window ticks) (OfWindow window (ticks + 1)) (λ row h. (h.0, omega (arith, h.1))) rows.entries are.rings;
}
