-- the lines from a place on, and those of the whole script

use Rattle.std.proofs.Common.{◌≡◌, ℕ, zero, suc, ◌+◌, ◌-◌, ◌<◌, ◌≤◌, List, [], ◌∷◌, ◌++◌, map, ap, sym, ◌∙◌, append_assoc, arith}
use Rattle.std.specs.List.{range_with_len, repeat, flat_map}
use Rattle.lab_text.specs.Text.{line_of}
use Rattle.script_model.specs.Drill.{draw, node_count, node_line, link_line, route_line, topology_lines, behind, sends_from, all_tick, rounds}
use Rattle.drill_script.specs.Places.{drill_lines, sent_packet, send_words, closing, others, from_ticks, from_routes, from_links}

-- the first packet of some
sends_first : (nodes drawn number more : ℕ) → sends_from nodes drawn (range_with_len number (suc more)) ++ closing
    ≡ send_words nodes number (draw drawn) ∷ (behind number ++ (sends_from nodes (draw drawn) (range_with_len (number + 1) more) ++ closing))
unfolding sent_packet
sends_first nodes drawn number more =
    ap (λ lines. send_words nodes number (draw drawn) ∷ lines) (append_assoc (behind number) (sends_from nodes (draw drawn) (range_with_len (number + 1) more)) closing)

pub others_more : (nodes drawn number : ℕ) → number < 400
    → others nodes drawn number ≡ send_words nodes (number + 1) (draw drawn) ∷ (behind (number + 1) ++ others nodes (draw drawn) (number + 1))
unfolding others
others_more nodes drawn number some =
    let more : 400 - number ≡ suc (400 - (number + 1)) = omega arith in
    rw more (sends_first nodes drawn (number + 1) (400 - (number + 1)))

pub others_last : (nodes drawn number : ℕ) → 400 ≤ number → others nodes drawn number ≡ closing
unfolding others
others_last nodes drawn number all =
    let none : 400 - number ≡ 0 = omega arith in rw none

-- the first of numbers
map-first : {X : Type 0} (f : ℕ → X) (least count : ℕ) → 0 < count → map f (range_with_len least count) ≡ f least ∷ map f (range_with_len (least + 1) (count - 1))
map-first f least zero some = absurd (omega arith)
map-first f least (suc count) some = let fewer : suc count - 1 ≡ count = omega arith in rw fewer

-- the lines of a topology and those behind them, from the first on
topology_first : (nodes : ℕ) (rest : List (List (List ℕ))) → 0 < nodes → topology_lines nodes ++ rest
    ≡ node_line 1 ∷ (map node_line (range_with_len (1 + 1) (nodes - 1)) ++ (map link_line (range_with_len 1 (nodes - 1))
    ++ (flat_map (λ i. map (route_line i) (range_with_len 1 nodes)) (range_with_len 1 nodes) ++ rest)))
topology_first nodes rest some =
    append_assoc (map node_line (range_with_len 1 nodes)) _ rest
    ∙ (ap (λ lines. map node_line (range_with_len 1 nodes) ++ lines) (append_assoc (map link_line (range_with_len 1 (nodes - 1))) _ rest)
    ∙ ap (λ lines. lines ++ (map link_line (range_with_len 1 (nodes - 1)) ++ (flat_map (λ i. map (route_line i) (range_with_len 1 nodes)) (range_with_len 1 nodes) ++ rest))) (map-first node_line 1 nodes some))

-- the whole script, whatever the number of packets is
whole : (nodes drill more : ℕ) → 0 < nodes
    → topology_lines nodes ++ (repeat 3 (all_tick ∷ rounds 200 ∷ []) ++ (sends_from nodes drill (range_with_len 1 (suc more)) ++ closing))
    ≡ node_line 1 ∷ (map node_line (range_with_len (1 + 1) (nodes - 1)) ++ (map link_line (range_with_len 1 (nodes - 1))
    ++ (flat_map (λ i. map (route_line i) (range_with_len 1 nodes)) (range_with_len 1 nodes) ++ (repeat 3 (all_tick ∷ rounds 200 ∷ [])
    ++ (send_words nodes 1 (draw drill) ∷ (behind 1 ++ (sends_from nodes (draw drill) (range_with_len (1 + 1) more) ++ closing)))))))
whole nodes drill more some = topology_first nodes _ some
    ∙ ap (λ lines. node_line 1 ∷ (map node_line (range_with_len (1 + 1) (nodes - 1)) ++ (map link_line (range_with_len 1 (nodes - 1))
    ++ (flat_map (λ i. map (route_line i) (range_with_len 1 nodes)) (range_with_len 1 nodes) ++ (repeat 3 (all_tick ∷ rounds 200 ∷ []) ++ lines))))) (sends_first nodes drill 1 more)

drill_lines-drawn : (drill : ℕ)
    → map line_of (node_line 1 ∷ (map node_line (range_with_len (1 + 1) (node_count drill - 1)) ++ from_links (node_count drill) (draw drill))) ≡ drill_lines drill
unfolding drill_lines others
drill_lines-drawn drill = ap (map line_of) (sym (whole (node_count drill) drill 399 (omega arith)))

pub drill_lines-first : (drill drawn : ℕ) → drawn ≡ draw drill
    → map line_of (node_line 1 ∷ (map node_line (range_with_len (1 + 1) (node_count drill - 1)) ++ from_links (node_count drill) drawn)) ≡ drill_lines drill
drill_lines-first drill drawn is =
    ap (λ (number : ℕ). map line_of (node_line 1 ∷ (map node_line (range_with_len (1 + 1) (node_count drill - 1)) ++ from_links (node_count drill) number))) is
    ∙ drill_lines-drawn drill

-- the first route of a node, and those behind it
routes_first : (nodes drawn node more : ℕ) → 0 < nodes → from_routes nodes drawn node (suc more)
    ≡ route_line node 1 ∷ (map (route_line node) (range_with_len (1 + 1) (nodes - 1)) ++ from_routes nodes drawn (node + 1) more)
routes_first nodes drawn node more some =
    append_assoc (map (route_line node) (range_with_len 1 nodes)) (flat_map (λ i. map (route_line i) (range_with_len 1 nodes)) (range_with_len (node + 1) more)) (from_ticks nodes drawn 3)
    ∙ ap (λ lines. lines ++ from_routes nodes drawn (node + 1) more) (map-first (route_line node) 1 nodes some)

pub routes_more : (nodes drawn node : ℕ) → node < nodes → from_routes nodes drawn (node + 1) (nodes - node)
    ≡ route_line (node + 1) 1 ∷ (map (route_line (node + 1)) (range_with_len (1 + 1) (nodes - 1)) ++ from_routes nodes drawn (node + 1 + 1) (nodes - (node + 1)))
routes_more nodes drawn node some =
    let more : nodes - node ≡ suc (nodes - (node + 1)) = omega arith in
    ap (from_routes nodes drawn (node + 1)) more ∙ routes_first nodes drawn (node + 1) (nodes - (node + 1)) (omega arith)
