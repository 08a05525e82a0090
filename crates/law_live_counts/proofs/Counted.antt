-- a packet more of a flow is one more that is counted

use Rattle.std.proofs.Common.{◌≡◌, ℕ, zero, suc, ◌≤◌, ◌+◌, ◌-◌, Bool, true, false, not, List, [], ◌∷◌, ◌++◌, length, length-append, Option, None, Some, refl, ◌∙◌, ap, arith, if◌then◌else◌}
use Rattle.std.specs.Prelude.{find, filter, drop, min, nat_eq}
use Rattle.std.proofs.lemmas.Bool.{eq-eqb}
use Rattle.std.proofs.lemmas.List.Sums.{sum_by-cons}
use Rattle.port_model.specs.Words.{FlowId, same_flow, counted_once, packets_in}
use Rattle.port_model.specs.link_model.ipv4_packet.declared.flow.FlowId.TheVariants.{One, Two}
use Rattle.port_model.specs.Counts.{Counted, greatest_count, most_flows, counted_of, one_more_packet, packets_of, packet_total}
use Rattle.law_port_facts.specs.ordered_lists.Ordered.{Every}
use Rattle.law_port_facts.proofs.Found.{filter_passes}

same : (n : ℕ) → nat_eq n n ≡ true
same n = eq-eqb n n refl

-- a flow is the same as itself
pub same_itself : (f : FlowId) → same_flow f f ≡ true
same_itself (One tos ttl protocol source destination from to) =
    rw (same tos, same ttl, same protocol, same source.0, same destination.0, same from, same to) refl
same_itself (Two ttl source destination) = rw (same ttl, same source.0, same destination.0) refl

-- *One packet more* in a list of counts
total_more : (packets : List ℕ) → packet_total (one_more_packet packets) ≡ min greatest_count (packet_total packets + 1)
total_more [] = refl
total_more (n ∷ before) =
    let more = sum_by-cons (λ (k : ℕ). k) (min greatest_count (n + 1)) before in
    let own = sum_by-cons (λ (k : ℕ). k) n before in
    omega (arith, more, own)

-- the last of a list is found, where no other is of the flow
module _ (flow : FlowId) where
  abbrev is_it : Counted → Bool
  is_it c = same_flow c.flow flow

  found_last : (n : ℕ) (xs : List Counted) (y : Counted) → is_it y ≡ true → Every (λ c. not (is_it c) ≡ true) xs → n ≤ length xs
      → find is_it (drop n (xs ++ y ∷ [])) ≡ Some y
  found_last zero [] y it others le = ap (λ (b : Bool). if b then Some y else None) it
  found_last (suc n) [] y it others le = absurd (omega (arith, le))
  found_last zero (x ∷ xs) y it others le =
      ap (λ (b : Bool). if b then Some x else find is_it (xs ++ y ∷ [])) (other (is_it x) others.0) ∙ found_last zero xs y it others.1 (omega arith)
    where
      other : (b : Bool) → not b ≡ true → b ≡ false
      other true h = absurd (cc h)
      other false h = refl
  found_last (suc n) (x ∷ xs) y it others le = found_last n xs y it others.1 (omega (arith, le))

-- *A packet of a flow*
pub one_counted : (counts : List Counted) (flow : FlowId) → packets_in (counted_once counts flow) flow ≡ min greatest_count (packets_in counts flow + 1)
one_counted counts flow =
    let others : List Counted = filter (λ c. not (same_flow c.flow flow)) counts in
    let now : Counted = record { flow = flow; packets = one_more_packet (packets_of (counted_of counts flow)) } in
    let longer = length-append others (now ∷ []) in
    let found = found_last flow (length (others ++ now ∷ []) - most_flows) others now (same_itself flow) (filter_passes (λ (c : Counted). not (same_flow c.flow flow)) counts) (omega (arith, longer)) in
    ap (λ (o : Option Counted). packet_total (packets_of o)) found ∙ total_more (packets_of (counted_of counts flow))
