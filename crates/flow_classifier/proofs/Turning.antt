-- Rows are put first: one that is there, a new one, and each in turn.

use Rattle.std.proofs.Common.{◌≡◌, ℕ, suc, ◌≤◌, Bool, true, false, cond, List, [], ◌∷◌, ◌++◌, length, All, None, Some, refl, sym, ap, ◌∙◌, arith}
use Rattle.std.specs.List.{IsDistinct, AllByRecursion}
use Rattle.std.specs.Map.{keys_of, lookup, lookup_entry, remove_entry, set_value}
use Rattle.std.proofs.lemmas.List.{take_all}
use Rattle.std.proofs.lemmas.List.Elements.{All-cons, All-head, All-tail, All-take}
use Rattle.std.proofs.lemmas.Map.Keys.{IsDistinct-head, IsDistinct-tail}
use Rattle.lru.specs.LruCache.{LruCache, lru_cache, promoted, put_entries}
use Rattle.ipv4_packet.specs.declared.flow.FlowId.{FlowId}
use Rattle.ipv4_packet.specs.Parts.{same_flow}
use Rattle.port_model.specs.Counts.{most_flows}
use Rattle.flow_classifier.specs.declared.tally.Tally.{Tally}
use Rattle.flow_classifier.specs.Rows.{AreRows, Row}
use Rattle.flow_classifier.proofs.Flows.{flow_from_same, same_itself, same_turned}
use Rattle.flow_classifier.proofs.Orders.{put}

abbrev pub OfWindow : (window ticks : ℕ) → Row → Type 0
OfWindow window ticks row = (row.1.packets.capacity ≡ window) × (row.1.until ≤ ticks)

module _ (eq : FlowId → FlowId → Bool) (is : (a b : FlowId) → eq a b ≡ same_flow b a) where
  entry_found : (flow : FlowId) (tally : Tally) (rows : List Row) → lookup (eq flow) rows ≡ Some tally → lookup_entry (eq flow) rows ≡ Some (flow, tally)
  entry_found flow tally [] h = absurd (cc h)
  entry_found flow tally (row ∷ rows) h = by (entry_found flow tally rows) (eq flow row.0) refl h where
    by : (lookup (eq flow) rows ≡ Some tally → lookup_entry (eq flow) rows ≡ Some (flow, tally))
        → (b : Bool) → eq flow row.0 ≡ b → cond b (Some row.1) (lookup (eq flow) rows) ≡ Some tally → cond b (Some row) (lookup_entry (eq flow) rows) ≡ Some (flow, tally)
    by rest true e h =
        let key : row.0 ≡ flow = flow_from_same row.0 flow (sym (is flow row.0) ∙ e) in
        let value : row.1 ≡ tally = cc h in
        λ i. Some (key i, value i)
    by rest false e h = rest h

  fewer_left : (flow : FlowId) (tally : Tally) (rows : List Row) → lookup (eq flow) rows ≡ Some tally → suc (length (remove_entry (eq flow) rows)) ≡ length rows
  fewer_left flow tally [] h = absurd (cc h)
  fewer_left flow tally (row ∷ rows) h = by (fewer_left flow tally rows) (eq flow row.0) h where
    by : (lookup (eq flow) rows ≡ Some tally → suc (length (remove_entry (eq flow) rows)) ≡ length rows)
        → (b : Bool) → cond b (Some row.1) (lookup (eq flow) rows) ≡ Some tally → suc (length (cond b rows (row ∷ remove_entry (eq flow) rows))) ≡ suc (length rows)
    by rest true h = refl
    by rest false h = ap suc (rest h)

  none_entered : (flow : FlowId) (rows : List Row) → lookup (eq flow) rows ≡ None → lookup_entry (eq flow) rows ≡ None
  none_entered flow [] h = refl
  none_entered flow (row ∷ rows) h = by (none_entered flow rows) (eq flow row.0) h where
    by : (lookup (eq flow) rows ≡ None → lookup_entry (eq flow) rows ≡ None)
        → (b : Bool) → cond b (Some row.1) (lookup (eq flow) rows) ≡ None → cond b (Some row) (lookup_entry (eq flow) rows) ≡ None
    by rest true h = absurd (cc h)
    by rest false h = rest h

  none_removed : (flow : FlowId) (rows : List Row) → lookup (eq flow) rows ≡ None → remove_entry (eq flow) rows ≡ rows
  none_removed flow [] h = refl
  none_removed flow (row ∷ rows) h = by (none_removed flow rows) (eq flow row.0) h where
    by : (lookup (eq flow) rows ≡ None → remove_entry (eq flow) rows ≡ rows)
        → (b : Bool) → cond b (Some row.1) (lookup (eq flow) rows) ≡ None → cond b rows (row ∷ remove_entry (eq flow) rows) ≡ row ∷ rows
    by rest true h = absurd (cc h)
    by rest false h = ap (λ (others : List Row). row ∷ others) (rest h)

  -- one that is there goes first
  pub set_first : (flow : FlowId) (before after : Tally) (rows : List Row) → lookup (eq flow) rows ≡ Some before → set_value (eq flow) (promoted (eq flow) rows) after ≡ (flow, after) ∷ remove_entry (eq flow) rows
  set_first flow before after rows h = rw (entry_found flow before rows h, is flow flow, same_itself flow) refl

  pub set_is_put : (flow : FlowId) (before after : Tally) (rows : List Row) → lookup (eq flow) rows ≡ Some before → length rows ≤ most_flows → set_value (eq flow) (promoted (eq flow) rows) after ≡ put eq flow after rows
  set_is_put flow before after rows h few =
      set_first flow before after rows h
      ∙ sym (take_all most_flows ((flow, after) ∷ remove_entry (eq flow) rows) (omega (arith, few, fewer_left flow before rows h)))

  -- a new one goes first
  pub new_is_put : (flow : FlowId) (tally : Tally) (rows : LruCache FlowId Tally) → lookup (eq flow) rows.entries ≡ None → rows.cap ≡ most_flows → put_entries eq rows flow tally ≡ put eq flow tally rows.entries
  new_is_put flow tally rows h most = rw (none_entered flow rows.entries h, none_removed flow rows.entries h, most) refl

  kept_left : (window ticks : ℕ) (flow : FlowId) (rows : List Row) → All (OfWindow window ticks) rows → All (OfWindow window ticks) (remove_entry (eq flow) rows)
  kept_left window ticks flow [] kept = kept
  kept_left window ticks flow (row ∷ rows) kept = by (kept_left window ticks flow rows (All-tail (OfWindow window ticks) row rows kept)) (eq flow row.0) where
    by : All (OfWindow window ticks) (remove_entry (eq flow) rows) → (b : Bool) → All (OfWindow window ticks) (cond b rows (row ∷ remove_entry (eq flow) rows))
    by rest true = All-tail (OfWindow window ticks) row rows kept
    by rest false = All-cons (OfWindow window ticks) row (remove_entry (eq flow) rows) (All-head (OfWindow window ticks) row rows kept) rest

  pub rows_put : (window ticks : ℕ) (flow : FlowId) (tally : Tally) (rows : LruCache FlowId Tally) → AreRows window ticks rows → tally.packets.capacity ≡ window → tally.until ≤ ticks → AreRows window ticks (lru_cache (put eq flow tally rows.entries) rows.cap)
  rows_put window ticks flow tally rows are wide past = record {
    most = are.most;
    rings = All-take (OfWindow window ticks) most_flows ((flow, tally) ∷ remove_entry (eq flow) rows.entries)
        (All-cons (OfWindow window ticks) (flow, tally) (remove_entry (eq flow) rows.entries) (wide, past) (kept_left window ticks flow rows.entries are.rings));
  }

  -- the ring of a flow that is there
  pub ring_of : (window ticks : ℕ) (flow : FlowId) (tally : Tally) (rows : List Row) → lookup (eq flow) rows ≡ Some tally → All (OfWindow window ticks) rows → tally.packets.capacity ≡ window
  ring_of window ticks flow tally [] h rings = absurd (cc h)
  ring_of window ticks flow tally (row ∷ rows) h rings = by (λ k. ring_of window ticks flow tally rows k (All-tail (OfWindow window ticks) row rows rings)) (eq flow row.0) h where
    by : (lookup (eq flow) rows ≡ Some tally → tally.packets.capacity ≡ window)
        → (b : Bool) → cond b (Some row.1) (lookup (eq flow) rows) ≡ Some tally → tally.packets.capacity ≡ window
    by rest true h =
        let value : row.1 ≡ tally = cc h in
        ap (λ (t : Tally). t.packets.capacity) (sym value) ∙ (All-head (OfWindow window ticks) row rows rings).0
    by rest false h = rest h

  apart_from_last : (flow : FlowId) (last : Row) (rows : List Row) → AllByRecursion (λ key. eq flow key ≡ false) (keys_of (rows ++ last ∷ [])) → eq last.0 flow ≡ false
  apart_from_last flow last [] h = is last.0 flow ∙ same_turned last.0 flow (sym (is flow last.0) ∙ h.0)
  apart_from_last flow last (row ∷ rows) h = apart_from_last flow last rows h.1

  -- the last row is found by its flow
  pub last_found : (last : Row) (rows : List Row) → IsDistinct eq (keys_of (rows ++ last ∷ [])) → lookup (eq last.0) (rows ++ last ∷ []) ≡ Some last.1
  last_found last [] distinct = rw (is last.0 last.0, same_itself last.0) refl
  last_found last (row ∷ rows) distinct =
      rw (apart_from_last row.0 last rows (IsDistinct-head eq row.0 (keys_of (rows ++ last ∷ [])) distinct))
      (last_found last rows (IsDistinct-tail eq row.0 (keys_of (rows ++ last ∷ [])) distinct))

  pub last_removed : (last : Row) (rows : List Row) → IsDistinct eq (keys_of (rows ++ last ∷ [])) → remove_entry (eq last.0) (rows ++ last ∷ []) ≡ rows
  last_removed last [] distinct = rw (is last.0 last.0, same_itself last.0) refl
  last_removed last (row ∷ rows) distinct =
      rw (apart_from_last row.0 last rows (IsDistinct-head eq row.0 (keys_of (rows ++ last ∷ [])) distinct))
      (ap (λ (others : List Row). row ∷ others) (last_removed last rows (IsDistinct-tail eq row.0 (keys_of (rows ++ last ∷ [])) distinct)))
