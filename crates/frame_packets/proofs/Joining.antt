-- What a place of a tap tells of the taps

use Rattle.std.proofs.Common.{◌≡◌, ℕ, zero, suc, ◌+◌, ◌<◌, Bool, true, false, not, nat_lt, cond, ◌&&◌, ◌||◌, List, [], ◌∷◌, ◌++◌, length, map, get_or, subst, Option, None, Some, slice_get, refl, sym, ap, ◌∙◌, eq-eqb, arith}
use Rattle.std.proofs.Math.ListN.{set}
use Rattle.std.proofs.lemmas.Bool.{and_from, ltb-true}
use Rattle.std.proofs.lemmas.List.{length-map, map-append}
use Rattle.std.specs.Option.{option_map_or}
use Rattle.std.specs.List.{list_any, position, position_or_len}
use Rattle.indexmap.specs.IndexSet.{insert_key}
use Rattle.atm_cells.specs.declared.cell.Cell.{Cell}
use Rattle.topology.proofs.Places.{map-set, none_listed}
use Rattle.frame_packets.specs.declared.queue.TapKey.{TapKey}
use Rattle.frame_packets.specs.Taps.{Tap, tap_cleared, cell_tapped, keys_of, no_cells, same_key, tap_at, with_cell}

-- where the tap of a key stands, or how many there are
abbrev place_of : List Tap → TapKey → ℕ
place_of taps key = position_or_len (same_key key) (keys_of taps)

pub same_key-self : (key : TapKey) → same_key key key ≡ true
same_key-self key =
    and_from _ _ (and_from _ _ (eq-eqb key.queue.node.0 key.queue.node.0 refl) (eq-eqb key.queue.number key.queue.number refl))
    (and_from _ _ (eq-eqb key.channel.vpi key.channel.vpi refl) (eq-eqb key.channel.vci key.channel.vci refl))

-- *A tap that is there*
joined_there : (taps : List Tap) (key : TapKey) (cell : Cell) (d : Tap) → place_of taps key < length taps
    → cell_tapped taps key cell ≡ set taps (place_of taps key) (with_cell (get_or taps (place_of taps key) d) cell)
joined_there [] key cell d h = absurd (omega (arith, h))
joined_there (tap ∷ taps) key cell d h = by (same_key key tap.key) (joined_there taps key cell d) h where
  by : (b : Bool) → (place_of taps key < length taps → cell_tapped taps key cell ≡ set taps (place_of taps key) (with_cell (get_or taps (place_of taps key) d) cell))
      → cond (not b) (1 + place_of taps key) 0 < suc (length taps)
      → cond b (with_cell tap cell ∷ taps) (tap ∷ cell_tapped taps key cell) ≡ set (tap ∷ taps) (cond (not b) (1 + place_of taps key) 0) (with_cell (get_or (tap ∷ taps) (cond (not b) (1 + place_of taps key) 0) d) cell)
  by true others h = refl
  by false others h =
      let next : 1 + place_of taps key ≡ suc (place_of taps key) = omega arith in
      rw next (ap (λ ts. tap ∷ ts) (others (omega (arith, h))))

read_there : (taps : List Tap) (key : TapKey) (cell : Cell) → place_of taps key < length taps
    → slice_get (cell_tapped taps key cell) (place_of taps key) ≡ Some (tap_at (cell_tapped taps key cell) key)
read_there [] key cell h = absurd (omega (arith, h))
read_there (tap ∷ taps) key cell h = by (same_key key tap.key) refl (read_there taps key cell) h where
  by : (b : Bool) → same_key key tap.key ≡ b
      → (place_of taps key < length taps → slice_get (cell_tapped taps key cell) (place_of taps key) ≡ Some (tap_at (cell_tapped taps key cell) key))
      → cond (not b) (1 + place_of taps key) 0 < suc (length taps)
      → slice_get (cond b (with_cell tap cell ∷ taps) (tap ∷ cell_tapped taps key cell)) (cond (not b) (1 + place_of taps key) 0) ≡ Some (tap_at (cond b (with_cell tap cell ∷ taps) (tap ∷ cell_tapped taps key cell)) key)
  by true e others h = rw e refl
  by false e others h =
      let next : 1 + place_of taps key ≡ suc (place_of taps key) = omega arith in
      rw (next, e) (others (omega (arith, h)))

cleared_there : (taps : List Tap) (key : TapKey) (d : Tap) → place_of taps key < length taps
    → tap_cleared taps key ≡ set taps (place_of taps key) (no_cells (get_or taps (place_of taps key) d).key)
cleared_there [] key d h = absurd (omega (arith, h))
cleared_there (tap ∷ taps) key d h = by (same_key key tap.key) (cleared_there taps key d) h where
  by : (b : Bool) → (place_of taps key < length taps → tap_cleared taps key ≡ set taps (place_of taps key) (no_cells (get_or taps (place_of taps key) d).key))
      → cond (not b) (1 + place_of taps key) 0 < suc (length taps)
      → cond b (no_cells tap.key ∷ taps) (tap ∷ tap_cleared taps key) ≡ set (tap ∷ taps) (cond (not b) (1 + place_of taps key) 0) (no_cells (get_or (tap ∷ taps) (cond (not b) (1 + place_of taps key) 0) d).key)
  by true others h = refl
  by false others h =
      let next : 1 + place_of taps key ≡ suc (place_of taps key) = omega arith in
      rw next (ap (λ ts. tap ∷ ts) (others (omega (arith, h))))

-- *A tap that isn't there*
pub joined_new : (taps : List Tap) (key : TapKey) (cell : Cell) → list_any (same_key key) (keys_of taps) ≡ false
    → cell_tapped taps key cell ≡ taps ++ with_cell (no_cells key) cell ∷ []
joined_new [] key cell h = refl
joined_new (tap ∷ taps) key cell h = by (same_key key tap.key) (joined_new taps key cell) h where
  by : (b : Bool) → (list_any (same_key key) (keys_of taps) ≡ false → cell_tapped taps key cell ≡ taps ++ with_cell (no_cells key) cell ∷ [])
      → b || list_any (same_key key) (keys_of taps) ≡ false
      → cond b (with_cell tap cell ∷ taps) (tap ∷ cell_tapped taps key cell) ≡ tap ∷ (taps ++ with_cell (no_cells key) cell ∷ [])
  by true others h = absurd (cc h)
  by false others h = ap (λ ts. tap ∷ ts) (others h)

pub read_new : (taps : List Tap) (key : TapKey) (cell : Cell) → list_any (same_key key) (keys_of taps) ≡ false
    → slice_get (taps ++ with_cell (no_cells key) cell ∷ []) (length taps) ≡ Some (tap_at (taps ++ with_cell (no_cells key) cell ∷ []) key)
read_new [] key cell h = rw (same_key-self key) refl
read_new (tap ∷ taps) key cell h = by (same_key key tap.key) refl (read_new taps key cell) h where
  by : (b : Bool) → same_key key tap.key ≡ b
      → (list_any (same_key key) (keys_of taps) ≡ false → slice_get (taps ++ with_cell (no_cells key) cell ∷ []) (length taps) ≡ Some (tap_at (taps ++ with_cell (no_cells key) cell ∷ []) key))
      → b || list_any (same_key key) (keys_of taps) ≡ false
      → slice_get (taps ++ with_cell (no_cells key) cell ∷ []) (length taps) ≡ Some (tap_at (tap ∷ (taps ++ with_cell (no_cells key) cell ∷ [])) key)
  by true e others h = absurd (cc h)
  by false e others h = rw e (others h)

cleared_new : (taps : List Tap) (key : TapKey) → list_any (same_key key) (keys_of taps) ≡ false → tap_cleared taps key ≡ taps
cleared_new [] key h = refl
cleared_new (tap ∷ taps) key h = by (same_key key tap.key) (cleared_new taps key) h where
  by : (b : Bool) → (list_any (same_key key) (keys_of taps) ≡ false → tap_cleared taps key ≡ taps)
      → b || list_any (same_key key) (keys_of taps) ≡ false → cond b (no_cells tap.key ∷ taps) (tap ∷ tap_cleared taps key) ≡ tap ∷ taps
  by true others h = absurd (cc h)
  by false others h = ap (λ ts. tap ∷ ts) (others h)

-- *By the keys that are held*
is_there : (taps : List Tap) (key : TapKey) (place : ℕ) → Some place ≡ position (same_key key) (keys_of taps) → (place ≡ place_of taps key) × (place_of taps key < length taps)
is_there taps key place found = by (nat_lt (place_of taps key) (length (keys_of taps))) refl found where
  by : (b : Bool) → nat_lt (place_of taps key) (length (keys_of taps)) ≡ b → Some place ≡ cond b (Some (place_of taps key)) None
      → (place ≡ place_of taps key) × (place_of taps key < length taps)
  by true e h =
      let within : place_of taps key < length (keys_of taps) = ltb-true (place_of taps key) (length (keys_of taps)) e in
      (ap (λ (o : Option ℕ). option_map_or (λ n. n) o 0) h, omega (arith, within, length-map taps (λ (tap : Tap). tap.key)))
  by false e h = absurd (cc h)

found_in : (keys : List TapKey) (taps : List Tap) (key : TapKey) (place : ℕ) → keys ≡ keys_of taps → Some place ≡ position (same_key key) keys
    → Some place ≡ position (same_key key) (keys_of taps)
found_in keys taps key place same found = found ∙ ap (position (same_key key)) same

pub absent_in : (keys : List TapKey) (taps : List Tap) (key : TapKey) → keys ≡ keys_of taps → position (same_key key) keys ≡ None
    → list_any (same_key key) (keys_of taps) ≡ false
absent_in keys taps key same absent = none_listed (same_key key) (keys_of taps) (sym (ap (position (same_key key)) same) ∙ absent)

pub joined_at : (keys : List TapKey) (taps : List Tap) (key : TapKey) (cell : Cell) (place : ℕ) (tap : Tap) → keys ≡ keys_of taps
    → Some place ≡ position (same_key key) keys → tap ≡ get_or taps place tap → set taps place (with_cell tap cell) ≡ cell_tapped taps key cell
joined_at keys taps key cell place tap same found value =
    let there = is_there taps key place (found_in keys taps key place same found) in
    ap (λ x. set taps place (with_cell x cell)) value
    ∙ ap (λ k. set taps k (with_cell (get_or taps k tap) cell)) there.0
    ∙ sym (joined_there taps key cell tap there.1)

pub read_at : (keys : List TapKey) (taps : List Tap) (key : TapKey) (cell : Cell) (place : ℕ) (tap : Tap) → keys ≡ keys_of taps
    → Some place ≡ position (same_key key) keys → tap ≡ get_or taps place tap
    → slice_get (set taps place (with_cell tap cell)) place ≡ Some (tap_at (set taps place (with_cell tap cell)) key)
read_at keys taps key cell place tap same found value =
    let there = is_there taps key place (found_in keys taps key place same found) in
    subst (λ (ts : List Tap). slice_get ts place ≡ Some (tap_at ts key)) (sym (joined_at keys taps key cell place tap same found value))
    (ap (slice_get (cell_tapped taps key cell)) there.0 ∙ read_there taps key cell there.1)

pub cleared_at : (keys : List TapKey) (taps : List Tap) (key : TapKey) (place : ℕ) (tap : Tap) → keys ≡ keys_of taps
    → Some place ≡ position (same_key key) keys → tap ≡ get_or taps place tap → set taps place (no_cells tap.key) ≡ tap_cleared taps key
cleared_at keys taps key place tap same found value =
    let there = is_there taps key place (found_in keys taps key place same found) in
    ap (λ (x : Tap). set taps place (no_cells x.key)) value
    ∙ ap (λ k. set taps k (no_cells (get_or taps k tap).key)) there.0
    ∙ sym (cleared_there taps key tap there.1)

pub cleared_none : (keys : List TapKey) (taps : List Tap) (key : TapKey) → keys ≡ keys_of taps → position (same_key key) keys ≡ None → taps ≡ tap_cleared taps key
cleared_none keys taps key same absent = sym (cleared_new taps key (absent_in keys taps key same absent))

-- the keys stay, or one comes behind them
pub keys_at : (keys : List TapKey) (taps : List Tap) (place : ℕ) (tap new : Tap) → keys ≡ keys_of taps → tap ≡ get_or taps place tap → new.key ≡ tap.key
    → keys ≡ keys_of (set taps place new)
keys_at keys taps place tap new same value key =
    same ∙ sym (map-set (λ (t : Tap). t.key) taps place tap new (key ∙ ap (λ (t : Tap). t.key) value))

pub keys_more : (keys now : List TapKey) (taps : List Tap) (key : TapKey) (tap : Tap) → keys ≡ keys_of taps → list_any (same_key key) (keys_of taps) ≡ false
    → now ≡ insert_key same_key keys key → tap.key ≡ key → now ≡ keys_of (taps ++ tap ∷ [])
keys_more keys now taps key tap same absent inserted key_is =
    inserted
    ∙ ap (λ ks. insert_key same_key ks key) same
    ∙ ap (λ b. cond b (keys_of taps) (keys_of taps ++ key ∷ [])) absent
    ∙ ap (λ k. keys_of taps ++ k ∷ []) (sym key_is)
    ∙ sym (map-append (λ (t : Tap). t.key) taps (tap ∷ []))
