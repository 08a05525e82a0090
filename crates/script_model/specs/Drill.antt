-- The script of a drill: a row of nodes, packets of four flows from the first to the last, losses and two restarts.
-- It is this project's own.

use Rattle.std.specs.Prelude.{ℕ, ◌+◌, ◌-◌, ◌*◌, ◌/◌, ◌%◌, ◌==◌, nat_lt, List, [], ◌∷◌, ◌++◌, codes, decimal, map, flat_map, if◌then◌else◌}
use Rattle.std.specs.Int.{w16, to_be_bytes}
use Rattle.std.specs.List.{range_with_len, repeat}
use Rattle.world_model.specs.ipv4_packet.Packet.{canonical}
use Rattle.rule_model.specs.lab_text.Text.{hex_digits, line_of}
use Rattle.script_model.specs.State.{nothing_read}
use Rattle.script_model.specs.Reading.{line_says}
use Rattle.script_model.specs.Script.{Script, script_from}

-- *Numbers* are drawn one from another
abbrev pub draw : ℕ → ℕ
draw x = (1103515245 * x + 12345) % 2147483648

-- *The nodes*
abbrev pub node_count : (drill : ℕ) → ℕ
node_count drill = 4 + drill % 5

abbrev pub node_name : ℕ → List ℕ
node_name i = codes "n" ++ decimal i

abbrev pub node_line : ℕ → List (List ℕ)
node_line i = codes "node" ∷ node_name i ∷ (codes "10.0." ++ (decimal i ++ codes ".1")) ∷ []

abbrev pub link_line : ℕ → List (List ℕ)
link_line i = codes "link" ∷ (node_name i ++ codes ":2") ∷ (node_name (i + 1) ++ codes ":1") ∷ []

-- a node's own packets are for it, and the others' go towards them
abbrev pub direction : (i j : ℕ) → List (List ℕ)
direction i j =
    if i == j then codes "local" ∷ []
    else if nat_lt i j then codes "via" ∷ codes "2" ∷ []
    else codes "via" ∷ codes "1" ∷ []

abbrev pub route_line : (i j : ℕ) → List (List ℕ)
route_line i j = codes "route" ∷ node_name i ∷ (codes "10.0." ++ (decimal j ++ codes ".0/24")) ∷ direction i j

abbrev pub topology_lines : (nodes : ℕ) → List (List (List ℕ))
topology_lines nodes =
    map node_line (range_with_len 1 nodes) ++ (map link_line (range_with_len 1 (nodes - 1))
    ++ flat_map (λ i. map (route_line i) (range_with_len 1 nodes)) (range_with_len 1 nodes))

abbrev pub all_tick : List (List ℕ)
all_tick = codes "tick" ∷ codes "*" ∷ []

abbrev pub rounds : ℕ → List (List ℕ)
rounds n = codes "run" ∷ decimal n ∷ []

-- *A packet* of UDP (RFC 768) with so many octets of data, all 0; its header has the canonical checksum
abbrev pub packet : (nodes identification source_port size : ℕ) → List ℕ
packet nodes identification source_port size =
    canonical (69 ∷ 0 ∷ (to_be_bytes w16 (28 + size) ++ (to_be_bytes w16 identification
    ++ (0 ∷ 0 ∷ 32 ∷ 17 ∷ 0 ∷ 0 ∷ 10 ∷ 0 ∷ 1 ∷ 1 ∷ 10 ∷ 0 ∷ nodes ∷ 1 ∷ (to_be_bytes w16 source_port
    ++ (to_be_bytes w16 9 ++ (to_be_bytes w16 (8 + size) ++ (0 ∷ 0 ∷ repeat size (0 ∷ [])))))))))

abbrev pub send_line : (nodes m x : ℕ) → List (List ℕ)
send_line nodes m x =
    codes "send" ∷ node_name 1 ∷ hex_digits (packet nodes m (4000 + x / 1024 % 4) (x / 16 % 64)) ∷ []

-- these lines where one number divides another, or is it
abbrev pub where_divides : (divisor number : ℕ) → List (List (List ℕ)) → List (List (List ℕ))
where_divides divisor number lines = if number % divisor == 0 then lines else []

abbrev pub where_is : (one other : ℕ) → List (List (List ℕ)) → List (List (List ℕ))
where_is one other lines = if one == other then lines else []

-- the lines behind the m-th packet
abbrev pub behind : (m : ℕ) → List (List (List ℕ))
behind m =
    where_divides 16 m ((codes "lose" ∷ (node_name 1 ++ codes ":c") ∷ []) ∷ [])
    ++ (rounds 20 ∷ (where_divides 10 m (all_tick ∷ rounds 60 ∷ [])
    ++ (where_is m 200 ((codes "restart" ∷ node_name 2 ∷ []) ∷ [])
    ++ where_is m 300 ((codes "restartswitch" ∷ node_name 3 ∷ []) ∷ []))))

-- packets, for each of which a number is drawn
abbrev pub sends_from : (nodes x : ℕ) → (ms : List ℕ) → List (List (List ℕ))
sends_from nodes x [] = []
sends_from nodes x (m ∷ ms) = send_line nodes m (draw x) ∷ (behind m ++ sends_from nodes (draw x) ms)

-- *The script*, line by line, as words
abbrev pub drill_words : (drill : ℕ) → List (List (List ℕ))
drill_words drill =
    topology_lines (node_count drill)
    ++ (repeat 3 (all_tick ∷ rounds 200 ∷ [])
    ++ (sends_from (node_count drill) drill (range_with_len 1 400)
    ++ (all_tick ∷ rounds 1000 ∷ [])))

unfoldable pub drill_script : (drill : ℕ) → Script
drill_script drill = script_from line_says nothing_read (map line_of (drill_words drill))
