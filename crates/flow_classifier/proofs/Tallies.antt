-- The packets of one flow, of which the ring isn't up to date.

use Rattle.std.proofs.Common.{◌≡◌, ℕ, zero, suc, ◌+◌, ◌-◌, ◌≤◌, List, [], ◌∷◌, ◌++◌, length, take, replicate, fold, min, refl, sym, ap, ◌∙◌, arith}
use Rattle.std.specs.List.{sum_by}
use Rattle.std.proofs.lemmas.List.{length-take, take_all, take-take}
use Rattle.std.proofs.lemmas.List.Sums.{sum_by-cons}
use Rattle.port_model.specs.Counts.{greatest_count, one_more_packet, packet_total}
use Rattle.flow_classifier.specs.declared.tally.Tally.{Tally}
use Rattle.flow_classifier.specs.Rows.{begun_anew, Row, standing, tally_of}

-- added up one by one, or all at once
summed_from : (g sum : ℕ) (ns : List ℕ) → sum ≤ g → fold (λ s n. min (s + n) g) sum ns ≡ min g (sum + sum_by (λ n. n) ns)
summed_from g sum [] h = grind (arith, h)
summed_from g sum (n ∷ ns) h =
    summed_from g (min (sum + n) g) ns (grind (arith))
    ∙ (rw (sum_by-cons (λ (k : ℕ). k) n ns) (grind (arith)))

-- the packets in all, added up one by one
abbrev pub summed : List ℕ → ℕ
summed packets = fold (λ sum n. min (sum + n) greatest_count) 0 packets

pub summed_is : (ns : List ℕ) → summed ns ≡ packet_total ns
summed_is ns = summed_from greatest_count 0 ns (omega arith) ∙ ap (min greatest_count) (omega arith)

-- a tick more without a packet
pub one_step : (places missed : ℕ) (ns : List ℕ) → take places (0 ∷ take places (replicate missed 0 ++ ns)) ≡ take places (replicate (suc missed) 0 ++ ns)
one_step zero missed ns = refl
one_step (suc places) missed ns = ap (λ (t : List ℕ). 0 ∷ t) (take-take places (suc places) (replicate missed 0 ++ ns) (omega arith))

-- more ticks than there are places are as many as there are places
pub no_more_than_places : (places missed : ℕ) (ns : List ℕ) → take places (replicate (min missed places) 0 ++ ns) ≡ take places (replicate missed 0 ++ ns)
no_more_than_places zero missed ns = refl
no_more_than_places (suc places) zero ns = let none : min zero (suc places) ≡ zero = grind (arith) in rw none refl
no_more_than_places (suc places) (suc missed) ns =
    let one : min (suc missed) (suc places) ≡ suc (min missed places) = grind (arith) in
    rw one (ap (λ (t : List ℕ). 0 ∷ t) (no_more_than_places places missed ns))

-- what was counted before the ticks that were missed
sum_left : (places missed : ℕ) (ns : List ℕ) → sum_by (λ n. n) (take places (replicate missed 0 ++ ns)) ≡ sum_by (λ n. n) (take (places - missed) ns)
sum_left places zero ns =
    let left : places ≡ places - zero = omega arith in
    ap (λ (k : ℕ). sum_by (λ n. n) (take k ns)) left
sum_left zero (suc missed) ns =
    let left : zero ≡ zero - suc missed = omega arith in
    ap (λ (k : ℕ). sum_by (λ n. n) (take k ns)) left
sum_left (suc places) (suc missed) ns =
    let left : places - missed ≡ suc places - suc missed = omega arith in
    let later : ℕ = sum_by (λ n. n) (take places (replicate missed 0 ++ ns)) in
    let none : 0 + later ≡ later = omega arith in
    sum_by-cons (λ (k : ℕ). k) 0 (take places (replicate missed 0 ++ ns))
    ∙ none
    ∙ sum_left places missed ns
    ∙ ap (λ (k : ℕ). sum_by (λ n. n) (take k ns)) left

pub total_left : (places missed : ℕ) (ns : List ℕ) → summed (take (places - missed) ns) ≡ packet_total (take places (replicate missed 0 ++ ns))
total_left places missed ns = summed_is (take (places - missed) ns) ∙ ap (min greatest_count) (sym (sum_left places missed ns))

-- a tally that is up to date has what its ring has
pub up_to_date : (ticks places : ℕ) (ns : List ℕ) → length ns ≤ places → standing ticks (tally_of ticks places ns) ≡ ns
up_to_date ticks places ns h =
    let none : ticks - ticks ≡ 0 = omega arith in
    ap (λ (k : ℕ). take places (replicate k 0 ++ ns)) none
    ∙ take_all places ns h

one_more_fits : (places : ℕ) (ns : List ℕ) → 1 ≤ places → length ns ≤ places → length (one_more_packet ns) ≤ places
one_more_fits places [] some h = some
one_more_fits places (n ∷ ns) some h = h

-- and so it is where a packet was counted
pub counted_up : (ticks : ℕ) (before after : Tally) → 1 ≤ before.packets.capacity → after ≡ tally_of ticks before.packets.capacity (one_more_packet (standing ticks before)) → standing ticks after ≡ one_more_packet (standing ticks before)
counted_up ticks before after some e =
    let places : ℕ = before.packets.capacity in
    let packets : List ℕ = replicate (ticks - before.until) 0 ++ before.packets.items in
    ap (standing ticks) e
    ∙ up_to_date ticks places (one_more_packet (standing ticks before)) (one_more_fits places (take places packets) some (omega (arith, length-take places packets)))

-- where ticks are counted from zero again, its packets are what they were
pub begins_anew : (ticks : ℕ) (row : Row) → standing 0 (begun_anew ticks row).1 ≡ standing ticks row.1
begins_anew ticks row =
    let places : ℕ = row.1.packets.capacity in
    take-take places places (replicate (ticks - row.1.until) 0 ++ row.1.packets.items) (omega arith)

-- a tick
pub stands_after_tick : (ticks : ℕ) (tally : Tally) → tally.until ≤ ticks → take tally.packets.capacity (0 ∷ standing ticks tally) ≡ standing (ticks + 1) tally
stands_after_tick ticks tally h =
    let more : ticks + 1 - tally.until ≡ suc (ticks - tally.until) = omega (arith, h) in
    rw more (one_step tally.packets.capacity (ticks - tally.until) tally.packets.items)
