-- Rows in the order of their last packets, the last one first: which flows are counted.

use Rattle.std.proofs.Common.{◌≡◌, ℕ, zero, suc, ◌-◌, Bool, true, false, not, cond, List, [], ◌∷◌, ◌++◌, length, take, map, reverse, filter, find, Option, None, Some, refl, sym, ap, ◌∙◌}
use Rattle.std.specs.List.{list_any, IsDistinct, AllByRecursion}
use Rattle.std.specs.Map.{keys_of, lookup, remove_entry}
use Rattle.std.proofs.lemmas.List.{reverse-append}
use Rattle.std.proofs.lemmas.Map.Keys.{IsDistinct-head, IsDistinct-tail}
use Rattle.ipv4_packet.specs.declared.flow.FlowId.{FlowId}
use Rattle.ipv4_packet.specs.Parts.{same_flow}
use Rattle.port_model.specs.Counts.{Counted, counted_of, counted_once, last_of, most_flows, one_more_packet, packets_in, packets_of, packet_total}
use Rattle.flow_classifier.specs.declared.tally.Tally.{Tally}
use Rattle.flow_classifier.specs.Rows.{counted, counts_of, Row, standing}
use Rattle.flow_classifier.proofs.Backwards.{any-back, back, back-filter, last-back, length-back}
use Rattle.flow_classifier.proofs.Flows.{flow_from_same, same_itself}
use Rattle.flow_classifier.proofs.Recency.{or_left, or_right}

abbrev pub of_flow : FlowId → Counted → Bool
of_flow flow c = same_flow c.flow flow

-- whose packets they are, if the flow has a row
abbrev pub found : (ticks : ℕ) → Option Tally → List ℕ
found ticks None = []
found ticks (Some tally) = standing ticks tally

pub back_is : {A : Type 0} (xs : List A) → reverse xs ≡ back xs
back_is [] = refl
back_is (x ∷ xs) = reverse-append (x ∷ []) xs ∙ ap (λ (ys : List _). ys ++ x ∷ []) (back_is xs)

pub map-back : {A B : Type 0} (f : A → B) (xs : List A) → map f (back xs) ≡ back (map f xs)
map-back f [] = refl
map-back f (x ∷ xs) = map-join (back xs) ∙ ap (λ (ys : List _). ys ++ f x ∷ []) (map-back f xs) where
  map-join : (ys : List _) → map f (ys ++ x ∷ []) ≡ map f ys ++ f x ∷ []
  map-join [] = refl
  map-join (y ∷ ys) = ap (λ (zs : List _). f y ∷ zs) (map-join ys)

map-take : {A B : Type 0} (f : A → B) (n : ℕ) (xs : List A) → map f (take n xs) ≡ take n (map f xs)
map-take f zero xs = refl
map-take f (suc n) [] = refl
map-take f (suc n) (x ∷ xs) = ap (λ (ys : List _). f x ∷ ys) (map-take f n xs)

none_left : {X : Type 0} (p : X → Bool) (xs : List X) → list_any p (filter (λ x. not (p x)) xs) ≡ false
none_left p [] = refl
none_left p (x ∷ xs) = by (none_left p xs) (p x) refl where
  by : list_any p (filter (λ y. not (p y)) xs) ≡ false → (b : Bool) → p x ≡ b → list_any p (cond (not b) (x ∷ filter (λ y. not (p y)) xs) (filter (λ y. not (p y)) xs)) ≡ false
  by rest true e = rest
  by rest false e = rw e rest

none_taken : {X : Type 0} (p : X → Bool) (n : ℕ) (xs : List X) → list_any p xs ≡ false → list_any p (take n xs) ≡ false
none_taken p zero xs h = refl
none_taken p (suc n) [] h = h
none_taken p (suc n) (x ∷ xs) h = rw (or_left (p x) _ h) (none_taken p n xs (or_right (p x) _ h))

-- the last of a list is found where none before it is
find_last : {X : Type 0} (p : X → Bool) (xs : List X) (x : X) → list_any p xs ≡ false → p x ≡ true → find p (xs ++ x ∷ []) ≡ Some x
find_last p [] x none passes = rw passes refl
find_last p (y ∷ xs) x none passes = rw (or_left (p y) _ none) (find_last p xs x (or_right (p y) _ none) passes)

-- or else those before it are looked through
find_before : {X : Type 0} (p : X → Bool) (xs : List X) (x : X) → p x ≡ false → find p (xs ++ x ∷ []) ≡ find p xs
find_before p [] x fails = rw fails refl
find_before p (y ∷ xs) x fails = by (p y) (find_before p xs x fails) where
  by : (b : Bool) → find p (xs ++ x ∷ []) ≡ find p xs → cond b (Some y) (find p (xs ++ x ∷ [])) ≡ cond b (Some y) (find p xs)
  by true rest = refl
  by false rest = rest

-- the last so many, where one is put behind the others
last_put : (x : Counted) (xs : List Counted) → last_of most_flows (back xs ++ x ∷ []) ≡ back (take most_flows (x ∷ xs))
last_put x xs = last-back most_flows (length (back (x ∷ xs)) - most_flows) (x ∷ xs) (ap (λ (n : ℕ). n - most_flows) (length-back (x ∷ xs)))

-- a row that is put first, and of the others no more than there may be
abbrev pub put : (FlowId → FlowId → Bool) → FlowId → Tally → List Row → List Row
put eq flow tally rows = take most_flows ((flow, tally) ∷ remove_entry (eq flow) rows)

module _ (eq : FlowId → FlowId → Bool) (is : (a b : FlowId) → eq a b ≡ same_flow b a) (ticks : ℕ) where
  none_of : (flow : FlowId) (rows : List Row) → AllByRecursion (λ key. eq flow key ≡ false) (keys_of rows) → list_any (of_flow flow) (map (counted ticks) rows) ≡ false
  none_of flow [] h = refl
  none_of flow (row ∷ rows) h = rw (sym (is flow row.0) ∙ h.0) (none_of flow rows h.1)

  apart : (flow : FlowId) (row : Row) (rows : List Row) → IsDistinct eq (keys_of (row ∷ rows)) → eq flow row.0 ≡ true → AllByRecursion (λ key. eq flow key ≡ false) (keys_of rows)
  apart flow row rows distinct e =
      let same : row.0 ≡ flow = flow_from_same row.0 flow (sym (is flow row.0) ∙ e) in
      rw same at (IsDistinct-head eq row.0 (keys_of rows) distinct)

  -- a flow's packets are those of its row
  pub packets_found : (flow : FlowId) (rows : List Row) → IsDistinct eq (keys_of rows) → packets_of (counted_of (back (map (counted ticks) rows)) flow) ≡ found ticks (lookup (eq flow) rows)
  packets_found flow [] distinct = refl
  packets_found flow (row ∷ rows) distinct = by (packets_found flow rows (IsDistinct-tail eq row.0 (keys_of rows) distinct)) (eq flow row.0) refl where
    by : packets_of (counted_of (back (map (counted ticks) rows)) flow) ≡ found ticks (lookup (eq flow) rows)
        → (b : Bool) → eq flow row.0 ≡ b → packets_of (counted_of (back (map (counted ticks) rows) ++ counted ticks row ∷ []) flow) ≡ found ticks (cond b (Some row.1) (lookup (eq flow) rows))
    by rest true e =
        let none : list_any (of_flow flow) (map (counted ticks) rows) ≡ false = none_of flow rows (apart flow row rows distinct e) in
        ap packets_of (find_last (of_flow flow) (back (map (counted ticks) rows)) (counted ticks row) (any-back (of_flow flow) (map (counted ticks) rows) ∙ none) (sym (is flow row.0) ∙ e))
    by rest false e =
        ap packets_of (find_before (of_flow flow) (back (map (counted ticks) rows)) (counted ticks row) (sym (is flow row.0) ∙ e))
        ∙ rest

  -- a flow without a row isn't counted
  none_counted : (flow : FlowId) (rows : List Row) → lookup (eq flow) rows ≡ None → counted_of (back (map (counted ticks) rows)) flow ≡ None
  none_counted flow [] h = refl
  none_counted flow (row ∷ rows) h = by (none_counted flow rows) (eq flow row.0) refl h where
    by : (lookup (eq flow) rows ≡ None → counted_of (back (map (counted ticks) rows)) flow ≡ None)
        → (b : Bool) → eq flow row.0 ≡ b → cond b (Some row.1) (lookup (eq flow) rows) ≡ None → counted_of (back (map (counted ticks) rows) ++ counted ticks row ∷ []) flow ≡ None
    by rest true e h = absurd (cc h)
    by rest false e h =
        find_before (of_flow flow) (back (map (counted ticks) rows)) (counted ticks row) (sym (is flow row.0) ∙ e)
        ∙ rest h

  pub not_counted : (flow : FlowId) (rows : List Row) → lookup (eq flow) rows ≡ None → counted_of (counts_of ticks rows) flow ≡ None
  not_counted flow rows h = ap (λ (cs : List Counted). counted_of cs flow) (back_is (map (counted ticks) rows)) ∙ none_counted flow rows h

  all_kept : (flow : FlowId) (rows : List Row) → AllByRecursion (λ key. eq flow key ≡ false) (keys_of rows) → filter (λ c. not (of_flow flow c)) (map (counted ticks) rows) ≡ map (counted ticks) rows
  all_kept flow [] h = refl
  all_kept flow (row ∷ rows) h = rw (sym (is flow row.0) ∙ h.0) (ap (λ t. counted ticks row ∷ t) (all_kept flow rows h.1))

  -- the others stay
  others_stay : (flow : FlowId) (rows : List Row) → IsDistinct eq (keys_of rows) → map (counted ticks) (remove_entry (eq flow) rows) ≡ filter (λ c. not (of_flow flow c)) (map (counted ticks) rows)
  others_stay flow [] distinct = refl
  others_stay flow (row ∷ rows) distinct = by (others_stay flow rows (IsDistinct-tail eq row.0 (keys_of rows) distinct)) (eq flow row.0) refl where
    by : map (counted ticks) (remove_entry (eq flow) rows) ≡ filter (λ c. not (of_flow flow c)) (map (counted ticks) rows)
        → (b : Bool) → eq flow row.0 ≡ b
        → map (counted ticks) (cond b rows (row ∷ remove_entry (eq flow) rows)) ≡ filter (λ c. not (of_flow flow c)) (counted ticks row ∷ map (counted ticks) rows)
    by rest true e = rw (sym (is flow row.0) ∙ e) (sym (all_kept flow rows (apart flow row rows distinct e)))
    by rest false e = rw (sym (is flow row.0) ∙ e) (ap (λ t. counted ticks row ∷ t) rest)

  module _ (flow : FlowId) (tally : Tally) (rows : List Row) (distinct : IsDistinct eq (keys_of rows)) where
    abbrev rest_of : List Counted
    rest_of = map (counted ticks) (remove_entry (eq flow) rows)

    put_is : counts_of ticks (put eq flow tally rows) ≡ back (take most_flows (counted ticks (flow, tally) ∷ rest_of))
    put_is = back_is (map (counted ticks) (put eq flow tally rows)) ∙ ap back (map-take (counted ticks) most_flows ((flow, tally) ∷ remove_entry (eq flow) rows))

    pub put_once : standing ticks tally ≡ one_more_packet (found ticks (lookup (eq flow) rows)) → counts_of ticks (put eq flow tally rows) ≡ counted_once (counts_of ticks rows) flow
    put_once more =
        let counts : counts_of ticks rows ≡ back (map (counted ticks) rows) = back_is (map (counted ticks) rows) in
        let others : back rest_of ≡ filter (λ c. not (of_flow flow c)) (back (map (counted ticks) rows)) = ap back (others_stay flow rows distinct) ∙ sym (back-filter (λ c. not (of_flow flow c)) (map (counted ticks) rows)) in
        let new : standing ticks tally ≡ one_more_packet (packets_of (counted_of (back (map (counted ticks) rows)) flow)) = more ∙ ap one_more_packet (sym (packets_found flow rows distinct)) in
        put_is
        ∙ sym (last_put (counted ticks (flow, tally)) rest_of)
        ∙ (λ i. last_of most_flows (others i ++ record { flow = flow; packets = new i } ∷ []))
        ∙ ap (λ (cs : List Counted). counted_once cs flow) (sym counts)

    pub put_packets : packets_in (counts_of ticks (put eq flow tally rows)) flow ≡ packet_total (standing ticks tally)
    put_packets =
        let none : list_any (of_flow flow) (take 1023 rest_of) ≡ false = none_taken (of_flow flow) 1023 rest_of (ap (list_any (of_flow flow)) (others_stay flow rows distinct) ∙ none_left (of_flow flow) (map (counted ticks) rows)) in
        ap (λ (cs : List Counted). packets_in cs flow) put_is
        ∙ ap (λ (c : Option Counted). packet_total (packets_of c)) (find_last (of_flow flow) (back (take 1023 rest_of)) (counted ticks (flow, tally)) (any-back (of_flow flow) (take 1023 rest_of) ∙ none) (same_itself flow))
