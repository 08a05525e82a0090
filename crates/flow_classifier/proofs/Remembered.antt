-- The flows that are counted are those that are remembered, each with its row.

use Rattle.std.proofs.Common.{◌≡◌, ℕ, ◌-◌, ◌≤◌, ◌||◌, Bool, true, false, not, cond, if◌then◌else◌, List, [], ◌∷◌, ◌++◌, length, take, map, filter, min, Some, refl, sym, ap, ◌∙◌, arith}
use Rattle.std.specs.List.{list_any}
use Rattle.std.proofs.lemmas.List.{length-map, drop-map, map-append}
use Rattle.ipv4_packet.specs.declared.flow.FlowId.{FlowId}
use Rattle.ipv4_packet.specs.Parts.{same_flow}
use Rattle.port_model.specs.Counts.{Counted, counted_of, counted_once, greatest_count, last_of, most_flows, window_moved, one_more_packet, packets_in, packets_of, packet_total}
use Rattle.flow_classifier.specs.History.{Call, counts_after, is_remembered, packets_since, recency}
use Rattle.flow_classifier.specs.History.Call.{Count, Tick, Clear}
use Rattle.flow_classifier.proofs.Backwards.{back, back-filter, any-back, last-back, length-back}
use Rattle.flow_classifier.proofs.Flows.{flow_from_same, same_itself, same_turned}
use Rattle.flow_classifier.proofs.Packets.{row, total-row}
use Rattle.flow_classifier.proofs.Recency.{is, others, once-recency, none-others, or_left, or_right, take-others}

abbrev remembered : List Call → List FlowId
remembered calls = take most_flows (recency calls)

abbrev entry : (window : ℕ) → List Call → FlowId → Counted
entry window calls flow = record { flow = flow; packets = row window flow calls }

abbrev entries : (window : ℕ) → List Call → List FlowId → List Counted
entries window calls flows = map (entry window calls) flows

-- what is counted of a flow among entries
found_among : (window : ℕ) (calls : List Call) (flow : FlowId) (flows : List FlowId) → packets_of (counted_of (entries window calls flows) flow) ≡ cond (list_any (is flow) flows) (row window flow calls) []
found_among window calls flow [] = refl
found_among window calls flow (x ∷ xs) = by (found_among window calls flow xs) (is flow x) refl where
  by : packets_of (counted_of (entries window calls xs) flow) ≡ cond (list_any (is flow) xs) (row window flow calls) []
      → (b : Bool) → is flow x ≡ b
      → packets_of (cond b (Some (entry window calls x)) (counted_of (entries window calls xs) flow)) ≡ cond (b || list_any (is flow) xs) (row window flow calls) []
  by rest true e = ap (λ f. row window f calls) (flow_from_same x flow e)
  by rest false e = rest

-- the others
others_among : (window : ℕ) (calls : List Call) (flow : FlowId) (flows : List FlowId) → filter (λ c. not (same_flow c.flow flow)) (entries window calls flows) ≡ entries window calls (others flow flows)
others_among window calls flow [] = refl
others_among window calls flow (x ∷ xs) = by (others_among window calls flow xs) (is flow x) where
  by : filter (λ c. not (same_flow c.flow flow)) (entries window calls xs) ≡ entries window calls (others flow xs)
      → (b : Bool) → cond (not b) (entry window calls x ∷ filter (λ c. not (same_flow c.flow flow)) (entries window calls xs)) (filter (λ c. not (same_flow c.flow flow)) (entries window calls xs)) ≡ entries window calls (cond (not b) (x ∷ others flow xs) (others flow xs))
  by rest true = rest
  by rest false = ap (λ t. entry window calls x ∷ t) rest

-- a packet of one flow changes no other flow's row
stay : (window : ℕ) (calls : List Call) (flow : FlowId) (flows : List FlowId) → list_any (is flow) flows ≡ false → entries window calls flows ≡ entries window (Count flow ∷ calls) flows
stay window calls flow [] h = refl
stay window calls flow (x ∷ xs) h =
    rw (same_turned x flow (or_left (is flow x) _ h)) (ap (λ t. entry window calls x ∷ t) (stay window calls flow xs (or_right (is flow x) _ h)))

moved_entries : (window : ℕ) (calls : List Call) (flows : List FlowId) → window_moved window (entries window calls flows) ≡ entries window (Tick ∷ calls) flows
moved_entries window calls [] = refl
moved_entries window calls (x ∷ xs) = ap (λ t. entry window (Tick ∷ calls) x ∷ t) (moved_entries window calls xs)

-- the last ones of entries
last_entries : (window : ℕ) (calls : List Call) (flows : List FlowId) → last_of most_flows (entries window calls (back flows)) ≡ entries window calls (back (take most_flows flows))
last_entries window calls flows =
    drop-map (entry window calls) (length (entries window calls (back flows)) - most_flows) (back flows)
    ∙ ap (entries window calls) (last-back most_flows (length (entries window calls (back flows)) - most_flows) flows
    (omega (arith, length-map (back flows) (entry window calls), length-back flows)))

row_counted : (window : ℕ) (calls : List Call) (flow : FlowId) → row window flow (Count flow ∷ calls) ≡ one_more_packet (cond (is_remembered flow calls) (row window flow calls) [])
row_counted window calls flow = rw (same_itself flow) refl

one : (window : ℕ) (calls : List Call) (flow : FlowId)
    → filter (λ c. not (same_flow c.flow flow)) (entries window calls (back (remembered calls)))
    ++ record { flow = flow; packets = one_more_packet (packets_of (counted_of (entries window calls (back (remembered calls))) flow)) } ∷ []
    ≡ entries window (Count flow ∷ calls) (back (flow ∷ others flow (remembered calls)))
one window calls flow =
    let kept : filter (λ c. not (same_flow c.flow flow)) (entries window calls (back (remembered calls))) ≡ entries window (Count flow ∷ calls) (back (others flow (remembered calls))) =
    others_among window calls flow (back (remembered calls))
    ∙ ap (entries window calls) (back-filter (λ other. not (same_flow other flow)) (remembered calls))
    ∙ stay window calls flow (back (others flow (remembered calls))) (any-back (is flow) (others flow (remembered calls)) ∙ none-others flow (remembered calls)) in
    let packets : one_more_packet (packets_of (counted_of (entries window calls (back (remembered calls))) flow)) ≡ row window flow (Count flow ∷ calls) =
    ap one_more_packet (found_among window calls flow (back (remembered calls)) ∙ ap (λ b. cond b (row window flow calls) []) (any-back (is flow) (remembered calls)))
    ∙ sym (row_counted window calls flow) in
    rw (kept, packets) (sym (map-append (entry window (Count flow ∷ calls)) (back (others flow (remembered calls))) (flow ∷ [])))

pub counts_are : (window : ℕ) (calls : List Call) → counts_after window calls ≡ entries window calls (back (remembered calls))
counts_are window [] = refl
counts_are window (Clear ∷ before) = refl
counts_are window (Tick ∷ before) = ap (window_moved window) (counts_are window before) ∙ moved_entries window before (back (remembered before))
counts_are window (Count flow ∷ before) =
    ap (λ counts. counted_once counts flow) (counts_are window before)
    ∙ ap (last_of most_flows) (one window before flow)
    ∙ last_entries window (Count flow ∷ before) (flow ∷ others flow (remembered before))
    ∙ ap (λ flows. entries window (Count flow ∷ before) (back (flow ∷ flows))) (take-others flow 1023 (recency before) (once-recency before))

pub counts_law : (window : ℕ) (flow : FlowId) (calls : List Call) → 1 ≤ window → packets_in (counts_after window calls) flow ≡ (if is_remembered flow calls then min greatest_count (packets_since window flow 0 calls) else 0)
counts_law window flow calls some =
    ap (λ counts. packets_in counts flow) (counts_are window calls)
    ∙ ap packet_total (found_among window calls flow (back (remembered calls)) ∙ ap (λ b. cond b (row window flow calls) []) (any-back (is flow) (remembered calls)))
    ∙ by (is_remembered flow calls) where
      by : (b : Bool) → packet_total (cond b (row window flow calls) []) ≡ cond b (min greatest_count (packets_since window flow 0 calls)) 0
      by true = total-row window flow calls some
      by false = refl
