-- how many lines a drill has at most, and how long they are

use Rattle.std.proofs.Common.{◌≡◌, ◌∙◌, ℕ, zero, suc, ◌+◌, ◌-◌, ◌*◌, ◌/◌, ◌%◌, ◌<◌, ◌≤◌, ◌==◌, Bool, true, false, List, [], ◌∷◌, ◌++◌, codes, decimal, length, length-append, map, flat_map, refl, sym, ap, subst, arith, if◌then◌else◌}
use Rattle.std.specs.Prelude.{nat_lt}
use Rattle.std.specs.List.{range_with_len, repeat, sum_by}
use Rattle.std.proofs.lemmas.Fmt.{length-decimal-le}
use Rattle.std.proofs.lemmas.List.{map-append}
use Rattle.std.proofs.lemmas.List.Concat.{flat_map-cons}
use Rattle.std.proofs.lemmas.List.FromFn.{length-range_with_len}
use Rattle.std.proofs.lemmas.List.Sums.{sum_by-append, sum_by-cons}
use Rattle.ipv4_packet.proofs.HeaderLemmas.{length-canonical}
use Rattle.lab_text.specs.Text.{hex_digits, line_of}
use Rattle.script_model.proofs.ReadBack.{hex_length}
use Rattle.script_model.specs.Drill.{all_tick, behind, direction, draw, drill_words, link_line, node_count, node_line, node_name, packet, rounds, route_line, send_line, sends_from, topology_lines}
use Rattle.drill_script.specs.Packets.{headers}
use Rattle.drill_script.specs.Places.{drill_lines}

-- *A line* is as long as its words, with an octet behind each
abbrev words_size : List (List ℕ) → ℕ
words_size [] = 1
words_size (word ∷ words) = suc (length word + words_size words)

line_size : (words : List (List ℕ)) → length (line_of words) ≤ words_size words
line_size [] = omega arith
line_size (word ∷ []) = (let all : length (word ++ codes "\n") ≡ length word + 1 = length-append word (codes "\n") in omega (arith, all))
line_size (word ∷ next ∷ words) =
    let rest : length (line_of (next ∷ words)) ≤ words_size (next ∷ words) = line_size (next ∷ words) in
    let all : length (word ++ (codes " " ++ line_of (next ∷ words))) ≡ length word + suc (length (line_of (next ∷ words))) = length-append word (codes " " ++ line_of (next ∷ words)) in
    omega (arith, all, rest)

-- *Few lines*: so many at most, and none of them is long
record AreFew (count : ℕ) (lines : List (List (List ℕ))) : Type 0 where
  number : length (map line_of lines) ≤ count
  octets : sum_by length (map line_of lines) ≤ 300 * count

few_none : AreFew 0 []
few_none = record { number = omega arith; octets = omega arith }

few_line : (count : ℕ) (words : List (List ℕ)) (lines : List (List (List ℕ))) → words_size words ≤ 300 → AreFew count lines → AreFew (suc count) (words ∷ lines)
few_line count words lines short few =
    let one : length (line_of words) ≤ words_size words = line_size words in
    let all : sum_by length (map line_of (words ∷ lines)) ≡ length (line_of words) + sum_by length (map line_of lines) = sum_by-cons length (line_of words) (map line_of lines) in
    record { number = omega (arith, few.number); octets = omega (arith, short, one, all, few.octets) }

few_both : (count more : ℕ) (lines others : List (List (List ℕ))) → AreFew count lines → AreFew more others → AreFew (count + more) (lines ++ others)
few_both count more lines others few rest =
    let both : map line_of (lines ++ others) ≡ map line_of lines ++ map line_of others = map-append line_of lines others in
    let number : length (map line_of (lines ++ others)) ≡ length (map line_of lines) + length (map line_of others) = ap length both ∙ length-append (map line_of lines) (map line_of others) in
    let octets : sum_by length (map line_of (lines ++ others)) ≡ sum_by length (map line_of lines) + sum_by length (map line_of others) =
    ap (sum_by length) both ∙ sum_by-append length (map line_of lines) (map line_of others) in
    record { number = omega (arith, number, few.number, rest.number); octets = omega (arith, octets, few.octets, rest.octets) }

few_more : (count more : ℕ) (lines : List (List (List ℕ))) → count ≤ more → AreFew count lines → AreFew more lines
few_more count more lines low few = record { number = omega (arith, low, few.number); octets = omega (arith, low, few.octets) }

few_if : (b : Bool) (count : ℕ) (lines : List (List (List ℕ))) → AreFew count lines → AreFew count (if b then lines else [])
few_if true count lines few = few
few_if false count lines few = few_more 0 count [] (omega arith) few_none

few_map : (line : ℕ → List (List ℕ)) (first count : ℕ) → ((i : ℕ) → i < first + count → words_size (line i) ≤ 300) → AreFew count (map line (range_with_len first count))
few_map line first zero short = few_none
few_map line first (suc count) short =
    few_line count (line first) (map line (range_with_len (first + 1) count)) (short first (omega arith)) (few_map line (first + 1) count (λ i low. short i (omega (arith, low))))

-- *The lines of the nodes*
short_number : (n : ℕ) → n < 1000 → length (decimal n) ≤ 3
short_number n low = length-decimal-le 3 n (omega arith) (omega (arith, low)) (omega (arith, low))

short_name : (n : ℕ) → n < 1000 → length (node_name n) ≤ 4
short_name n low =
    let all : length (node_name n) ≡ 1 + length (decimal n) = length-append (codes "n") (decimal n) in
    omega (arith, all, short_number n low)

short_between : (before after : List ℕ) (n : ℕ) → n < 1000 → length (before ++ (decimal n ++ after)) ≤ length before + (3 + length after)
short_between before after n low =
    let all : length (before ++ (decimal n ++ after)) ≡ length before + length (decimal n ++ after) = length-append before (decimal n ++ after) in
    let rest : length (decimal n ++ after) ≡ length (decimal n) + length after = length-append (decimal n) after in
    omega (arith, all, rest, short_number n low)

short_place : (after : List ℕ) (n : ℕ) → n < 1000 → length (node_name n ++ after) ≤ 4 + length after
short_place after n low =
    let all : length (node_name n ++ after) ≡ length (node_name n) + length after = length-append (node_name n) after in
    omega (arith, all, short_name n low)

short_node : (i : ℕ) → i < 100 → words_size (node_line i) ≤ 300
short_node i low =
    let name : length (node_name i) ≤ 4 = short_name i (omega (arith, low)) in
    let address : length (codes "10.0." ++ (decimal i ++ codes ".1")) ≤ 5 + (3 + 2) = short_between (codes "10.0.") (codes ".1") i (omega (arith, low)) in
    omega (arith, name, address)

short_link : (i : ℕ) → i < 100 → words_size (link_line i) ≤ 300
short_link i low =
    let one : length (node_name i ++ codes ":2") ≤ 4 + 2 = short_place (codes ":2") i (omega (arith, low)) in
    let other : length (node_name (i + 1) ++ codes ":1") ≤ 4 + 2 = short_place (codes ":1") (i + 1) (omega (arith, low)) in
    omega (arith, one, other)

short_direction : (i j : ℕ) → words_size (direction i j) ≤ 8
short_direction i j = by (i == j) (nat_lt i j)
  where
    by : (same less : Bool) → words_size (if same then codes "local" ∷ [] else if less then codes "via" ∷ codes "2" ∷ [] else codes "via" ∷ codes "1" ∷ []) ≤ 8
    by true less = omega arith
    by false true = omega arith
    by false false = omega arith

short_route : (i j : ℕ) → i < 100 → j < 100 → words_size (route_line i j) ≤ 300
short_route i j low other =
    let name : length (node_name i) ≤ 4 = short_name i (omega (arith, low)) in
    let prefix : length (codes "10.0." ++ (decimal j ++ codes ".0/24")) ≤ 5 + (3 + 5) = short_between (codes "10.0.") (codes ".0/24") j (omega (arith, other)) in
    omega (arith, name, prefix, short_direction i j)

few_routes : (nodes first count : ℕ) → nodes ≤ 8 → first + count ≤ 9 → AreFew (8 * count) (flat_map (λ i. map (route_line i) (range_with_len 1 nodes)) (range_with_len first count))
few_routes nodes first zero few low = few_none
few_routes nodes first (suc count) few low =
    let one : AreFew nodes (map (route_line first) (range_with_len 1 nodes)) = few_map (route_line first) 1 nodes (λ j at. short_route first j (omega (arith, low)) (omega (arith, at, few))) in
    subst (AreFew (8 * suc count)) (sym (flat_map-cons (λ i. map (route_line i) (range_with_len 1 nodes)) first (range_with_len (first + 1) count)))
    (few_more (nodes + 8 * count) (8 * suc count) _ (omega (arith, few)) (few_both nodes (8 * count) _ _ one (few_routes nodes (first + 1) count few (omega (arith, low)))))

few_topology : (nodes : ℕ) → nodes ≤ 8 → AreFew 80 (topology_lines nodes)
few_topology nodes few =
    let one : AreFew nodes (map node_line (range_with_len 1 nodes)) = few_map node_line 1 nodes (λ i at. short_node i (omega (arith, at, few))) in
    let other : AreFew (nodes - 1) (map link_line (range_with_len 1 (nodes - 1))) = few_map link_line 1 (nodes - 1) (λ i at. short_link i (omega (arith, at, few))) in
    let routes : AreFew (8 * nodes) (flat_map (λ i. map (route_line i) (range_with_len 1 nodes)) (range_with_len 1 nodes)) = few_routes nodes 1 nodes few (omega (arith, few)) in
    few_more (nodes + ((nodes - 1) + 8 * nodes)) 80 (topology_lines nodes) (omega (arith, few)) (few_both nodes ((nodes - 1) + 8 * nodes) _ _ one (few_both (nodes - 1) (8 * nodes) _ _ other routes))

-- *The lines of the packets*
short_tick : words_size all_tick ≤ 300
short_tick = omega arith

short_rounds : (n : ℕ) → n < 10000 → words_size (rounds n) ≤ 300
short_rounds n low = (let number : length (decimal n) ≤ 4 = length-decimal-le 4 n (omega arith) (omega (arith, low)) (omega (arith, low)) in omega (arith, number))

size_repeat : (size : ℕ) → length (repeat {A = ℕ} size (0 ∷ [])) ≡ size
size_repeat zero = refl
size_repeat (suc size) = ap suc (size_repeat size)

size_packet : (nodes m port size : ℕ) → length (packet nodes m port size) ≡ 28 + size
size_packet nodes m port size =
    let zeros : List ℕ = repeat size (0 ∷ []) in
    let octets : List ℕ = headers nodes m port size ++ zeros in
    let all : length octets ≡ 28 + length zeros = length-append (headers nodes m port size) zeros in
    let long : 20 ≤ length octets = omega (arith, all) in
    let made : length (packet nodes m port size) ≡ length octets = length-canonical octets long in
    omega (arith, made, all, size_repeat size)

short_send : (nodes m x : ℕ) → words_size (send_line nodes m x) ≤ 300
short_send nodes m x =
    let size : ℕ = x / 16 % 64 in
    let small : size ≤ 63 = omega arith in
    let octets : List ℕ = packet nodes m (4000 + x / 1024 % 4) size in
    let digits : length (hex_digits octets) ≡ 2 * length octets = hex_length octets in
    let all : length octets ≡ 28 + size = size_packet nodes m (4000 + x / 1024 % 4) size in
    omega (arith, digits, all, small, short_name 1 (omega arith))

few_behind : (m : ℕ) → AreFew 6 (behind m)
few_behind m =
    few_both 1 5 _ _ (few_if (m % 16 == 0) 1 _ (few_line 0 _ [] (short_loss) few_none))
    (few_line 4 (rounds 20) _ (short_rounds 20 (omega arith))
    (few_both 2 2 _ _ (few_if (m % 10 == 0) 2 _ (few_line 1 all_tick _ short_tick (few_line 0 (rounds 60) [] (short_rounds 60 (omega arith)) few_none)))
    (few_both 1 1 _ _ (few_if (m == 200) 1 _ (few_line 0 _ [] short_restart few_none)) (few_if (m == 300) 1 _ (few_line 0 _ [] short_switch_restart few_none)))))
  where
    short_loss : words_size (codes "lose" ∷ (node_name 1 ++ codes ":c") ∷ []) ≤ 300
    short_loss = omega (arith, short_place (codes ":c") 1 (omega arith))

    short_restart : words_size (codes "restart" ∷ node_name 2 ∷ []) ≤ 300
    short_restart = omega (arith, short_name 2 (omega arith))

    short_switch_restart : words_size (codes "restartswitch" ∷ node_name 3 ∷ []) ≤ 300
    short_switch_restart = omega (arith, short_name 3 (omega arith))

few_sends : (nodes x : ℕ) (ms : List ℕ) → AreFew (7 * length ms) (sends_from nodes x ms)
few_sends nodes x [] = few_none
few_sends nodes x (m ∷ ms) =
    few_more (suc (6 + 7 * length ms)) (7 * suc (length ms)) _ (omega arith)
    (few_line (6 + 7 * length ms) (send_line nodes m (draw x)) _ (short_send nodes m (draw x)) (few_both 6 (7 * length ms) (behind m) _ (few_behind m) (few_sends nodes (draw x) ms)))

few_ticks : (count : ℕ) → AreFew (2 * count) (repeat count (all_tick ∷ rounds 200 ∷ []))
few_ticks zero = few_none
few_ticks (suc count) =
    few_more (2 + 2 * count) (2 * suc count) _ (omega arith)
    (few_both 2 (2 * count) (all_tick ∷ rounds 200 ∷ []) _ (few_line 1 all_tick _ short_tick (few_line 0 (rounds 200) [] (short_rounds 200 (omega arith)) few_none)) (few_ticks count))

few_words : (drill : ℕ) → AreFew 2888 (drill_words drill)
few_words drill =
    let nodes : ℕ = node_count drill in
    let all : length (range_with_len 1 400) ≡ 400 = length-range_with_len 1 400 in
    let sends : AreFew 2800 (sends_from nodes drill (range_with_len 1 400)) = few_more (7 * length (range_with_len 1 400)) 2800 _ (omega (arith, all)) (few_sends nodes drill (range_with_len 1 400)) in
    few_both 80 2808 (topology_lines nodes) _ (few_topology nodes (omega arith))
    (few_both 6 2802 _ _ (few_ticks 3) (few_both 2800 2 _ _ sends (few_line 1 all_tick _ short_tick (few_line 0 (rounds 1000) [] (short_rounds 1000 (omega arith)) few_none))))

-- *A drill* is short
pub few_lines : (drill : ℕ) → length (drill_lines drill) ≤ 2888
unfolding drill_lines
few_lines drill = (few_words drill).number

pub few_octets : (drill : ℕ) → sum_by length (drill_lines drill) ≤ 866400
unfolding drill_lines
few_octets drill = (few_words drill).octets
