-- the line at each cursor of a drill's script, and the lines behind it

use Rattle.std.specs.Prelude.{ℕ, ◌+◌, ◌-◌, ◌/◌, ◌%◌, List, [], ◌∷◌, ◌++◌, codes, map, flat_map, Option, Some, None}
use Rattle.std.specs.List.{range_with_len, repeat}
use Rattle.lab_text.specs.Text.{hex_digits, line_of}
use Rattle.script_model.specs.Drill.{node_name, node_line, link_line, route_line, all_tick, rounds, packet, behind, where_divides, where_is, sends_from, drill_words}
use Rattle.drill_script.specs.declared.cursor.Cursor.{Cursor}
use Rattle.drill_script.specs.declared.cursor.Stage.{Stage}
use Rattle.drill_script.specs.declared.cursor.Stage.TheVariants.{Node, Link, Route, OpeningTick, OpeningRun, Send, Lose, Run, Tick, LongRun, Restart, RestartSwitch, ClosingTick, ClosingRun}

-- *The lines* of a drill's script
unfoldable pub drill_lines : (drill : ℕ) → List (List ℕ)
drill_lines drill = map line_of (drill_words drill)

-- the packet of a number, for which a number was drawn
unfoldable pub sent_packet : (nodes number drawn : ℕ) → List ℕ
sent_packet nodes number drawn = packet nodes number (4000 + drawn / 1024 % 4) (drawn / 16 % 64)

abbrev pub send_words : (nodes number drawn : ℕ) → List (List ℕ)
send_words nodes number drawn = codes "send" ∷ node_name 1 ∷ hex_digits (sent_packet nodes number drawn) ∷ []

-- what may belong to a packet, behind its first rounds
abbrev pub loss : List (List ℕ)
loss = codes "lose" ∷ (node_name 1 ++ codes ":c") ∷ []

abbrev pub restart : List (List ℕ)
restart = codes "restart" ∷ node_name 2 ∷ []

abbrev pub switch_restart : List (List ℕ)
switch_restart = codes "restartswitch" ∷ node_name 3 ∷ []

abbrev pub switch_restarts : (number : ℕ) → List (List (List ℕ))
switch_restarts number = where_is number 300 (switch_restart ∷ [])

abbrev pub restarts : (number : ℕ) → List (List (List ℕ))
restarts number = where_is number 200 (restart ∷ []) ++ switch_restarts number

abbrev pub ticks : (number : ℕ) → List (List (List ℕ))
ticks number = where_divides 10 number (all_tick ∷ rounds 60 ∷ []) ++ restarts number

-- the lines behind all that belongs to a packet
abbrev pub closing : List (List (List ℕ))
closing = all_tick ∷ rounds 1000 ∷ []

unfoldable pub others : (nodes drawn number : ℕ) → List (List (List ℕ))
others nodes drawn number = sends_from nodes drawn (range_with_len (number + 1) (400 - number)) ++ closing

-- the lines from the first packet on, from the opening ticks on, from the routes of a node on, and from the links on
abbrev pub from_packets : (nodes drawn : ℕ) → List (List (List ℕ))
from_packets nodes drawn = send_words nodes 1 drawn ∷ (behind 1 ++ others nodes drawn 1)

abbrev pub from_ticks : (nodes drawn more : ℕ) → List (List (List ℕ))
from_ticks nodes drawn more = repeat more (all_tick ∷ rounds 200 ∷ []) ++ from_packets nodes drawn

abbrev pub from_routes : (nodes drawn node more : ℕ) → List (List (List ℕ))
from_routes nodes drawn node more =
    flat_map (λ i. map (route_line i) (range_with_len 1 nodes)) (range_with_len node more) ++ from_ticks nodes drawn 3

abbrev pub from_links : (nodes drawn : ℕ) → List (List (List ℕ))
from_links nodes drawn = map link_line (range_with_len 1 (nodes - 1)) ++ from_routes nodes drawn 1 nodes

-- *The line* at a cursor
abbrev pub words_of : (nodes drawn : ℕ) → Stage → List (List ℕ)
words_of nodes drawn (Node node) = node_line node
words_of nodes drawn (Link node) = link_line node
words_of nodes drawn (Route node towards) = route_line node towards
words_of nodes drawn (OpeningTick more) = all_tick
words_of nodes drawn (OpeningRun more) = rounds 200
words_of nodes drawn (Send number) = send_words nodes number drawn
words_of nodes drawn (Lose number) = loss
words_of nodes drawn (Run number) = rounds 20
words_of nodes drawn (Tick number) = all_tick
words_of nodes drawn (LongRun number) = rounds 60
words_of nodes drawn (Restart number) = restart
words_of nodes drawn (RestartSwitch number) = switch_restart
words_of nodes drawn ClosingTick = all_tick
words_of nodes drawn ClosingRun = rounds 1000

-- *The lines behind it*
abbrev pub behind_it : (nodes drawn : ℕ) → Stage → List (List (List ℕ))
behind_it nodes drawn (Node node) = map node_line (range_with_len (node + 1) (nodes - node)) ++ from_links nodes drawn
behind_it nodes drawn (Link node) = map link_line (range_with_len (node + 1) (nodes - 1 - node)) ++ from_routes nodes drawn 1 nodes
behind_it nodes drawn (Route node towards) =
    map (route_line node) (range_with_len (towards + 1) (nodes - towards)) ++ from_routes nodes drawn (node + 1) (nodes - node)
behind_it nodes drawn (OpeningTick more) = rounds 200 ∷ from_ticks nodes drawn more
behind_it nodes drawn (OpeningRun more) = from_ticks nodes drawn more
behind_it nodes drawn (Send number) = behind number ++ others nodes drawn number
behind_it nodes drawn (Lose number) = rounds 20 ∷ (ticks number ++ others nodes drawn number)
behind_it nodes drawn (Run number) = ticks number ++ others nodes drawn number
behind_it nodes drawn (Tick number) = rounds 60 ∷ (restarts number ++ others nodes drawn number)
behind_it nodes drawn (LongRun number) = restarts number ++ others nodes drawn number
behind_it nodes drawn (Restart number) = switch_restarts number ++ others nodes drawn number
behind_it nodes drawn (RestartSwitch number) = others nodes drawn number
behind_it nodes drawn ClosingTick = rounds 1000 ∷ []
behind_it nodes drawn ClosingRun = []

-- the lines from a cursor on
abbrev pub from_cursor : Cursor → List (List (List ℕ))
from_cursor cursor = words_of cursor.nodes cursor.drawn cursor.stage ∷ behind_it cursor.nodes cursor.drawn cursor.stage

abbrev pub lines_from : Option Cursor → List (List (List ℕ))
lines_from None = []
lines_from (Some cursor) = from_cursor cursor
