-- worked lives of a label: what the machine makes of lists of moves, so that its guards are met

use Rattle.std.proofs.Common.{◌≡◌, true, false, List, [], ◌∷◌, ◌++◌, refl}
use Rattle.adjacency_table.specs.declared.State.{State}
use Rattle.adjacency_table.specs.declared.State.TheVariants.{Clearing, SynSent, Estab}
use Rattle.law_label_line.specs.Cells.{Role, Downstream, Upstream, InOutput, ToSwitch}
use Rattle.law_label_line.specs.Line.{Label, Spare, Offered, Recalled, Wired, Grant, NoGrant, Idle, ByController, Leaving, Line, start}
use Rattle.law_label_line.specs.Moves.{Move, Switch, Pass, Reassemble, Lose, Split, Hear, Tick, Clear, Restart, Wire, Bind, Refresh, Recall, RecallAgain, Quit, Free, Start, Lend, Release, Expire, SendLabelled, SwitchLabelled, run}

-- the states of both ends, of the label and of the grant
abbrev Shows : Line → State → State → Label → Grant → Type 0
Shows line downstream upstream label grant = (line.downstream.state ≡ downstream) × (line.upstream.state ≡ upstream)
    × (line.label ≡ label) × (line.grant ≡ grant)

-- the next frame comes through and is heard, or a cell of the label
abbrev arrives : Role → List Move
arrives end = Switch end ∷ Pass end ∷ Reassemble end ∷ Hear end true 0 ∷ []

abbrev cell_arrives : List Move
cell_arrives = Switch Downstream ∷ Pass Downstream ∷ Reassemble Downstream ∷ []

-- SYN, SYNACK and ACK
abbrev greetings : List Move
greetings = Tick Downstream 0 0 ∷ (arrives Upstream ++ (arrives Downstream ++ arrives Upstream))

abbrev met : Line
met = run (start 1 2 3) (Clear Downstream ∷ Clear Upstream ∷ greetings)

met_is : Shows met Estab Estab Spare NoGrant
met_is = (refl, refl, refl, refl)

-- a label is offered for flow 7, and a cell is sent under it
abbrev offered : Line
offered = run met (Wire 7 ∷ Bind ∷ (arrives Upstream ++ (Start ∷ [])))

offered_is : Shows offered Estab Estab Offered (ByController 7)
offered_is = (refl, refl, refl, refl)

-- the same where the frame of the REDIRECT has two cells, and where the first of them is lost
abbrev in_two_cells : List Move
in_two_cells = Wire 7 ∷ Bind ∷ Split Upstream 0 ∷ Switch Upstream ∷ Switch Upstream ∷ []

abbrev both_arrive : List Move
both_arrive = Pass Upstream ∷ Pass Upstream ∷ Reassemble Upstream ∷ Reassemble Upstream ∷ Hear Upstream true 0 ∷ []

split_is : Shows (run met (in_two_cells ++ (both_arrive ++ (Start ∷ [])))) Estab Estab Offered (ByController 7)
split_is = (refl, refl, refl, refl)

half_is : Shows (run met (in_two_cells ++ (Lose Upstream InOutput 0 ∷ (both_arrive ++ (Start ∷ []))))) Estab Estab Offered
    (ByController 7)
half_is = (refl, refl, refl, refl)

sent_is : (run offered (SendLabelled ∷ cell_arrives)).reassembly ≡ 7 ∷ []
sent_is = refl

-- REDIRECT again: only the number counts
refreshed_is : Shows (run offered (Refresh ∷ arrives Upstream)) Estab Estab Offered (ByController 7) ×
    ((run offered (Refresh ∷ arrives Upstream)).expected ≡ 3)
refreshed_is = ((refl, refl, refl, refl), refl)

-- RECLAIM, RECLAIM ACK, and an ACK with the next number: quit, free, and offered for flow 9
abbrev acknowledged : Line
acknowledged = run offered (Recall ∷ (arrives Upstream ++ arrives Downstream))

acknowledged_is : Shows acknowledged Estab Estab (Recalled 2 true) NoGrant
acknowledged_is = (refl, refl, refl, refl)

no_quit_yet : Shows (run acknowledged (Quit ∷ [])) Estab Estab (Recalled 2 true) NoGrant
no_quit_yet = (refl, refl, refl, refl)

abbrev wired : Line
wired = run acknowledged (Tick Upstream 0 0 ∷ (arrives Downstream ++ (Quit ∷ [])))

wired_is : Shows wired Estab Estab Wired NoGrant
wired_is = (refl, refl, refl, refl)

reused_is : Shows (run wired (Free ∷ Wire 9 ∷ Bind ∷ (arrives Upstream ++ (Start ∷ [])))) Estab Estab Offered
    (ByController 9)
reused_is = (refl, refl, refl, refl)

-- a RECLAIM ACK is lost; RECLAIM is said again and acknowledged again, and an ACK that only passed
-- the first RECLAIM isn't enough
abbrev repeated : Line
repeated = run offered (Recall ∷ (arrives Upstream ++ (Lose Downstream ToSwitch 0 ∷
    Tick Upstream 0 0 ∷ RecallAgain ∷ (arrives Downstream ++ (arrives Upstream ++ arrives Downstream)))))

repeated_is : Shows repeated Estab Estab (Recalled 3 true) NoGrant × (repeated.known ≡ 3)
repeated_is = ((refl, refl, refl, refl), refl)

repeated_stays : Shows (run repeated (Quit ∷ [])) Estab Estab (Recalled 3 true) NoGrant
repeated_stays = (refl, refl, refl, refl)

repeated_quits : Shows (run repeated (Tick Upstream 0 0 ∷ (arrives Downstream ++ (Quit ∷ [])))) Estab Estab Wired
    NoGrant
repeated_quits = (refl, refl, refl, refl)

-- the label is joined: the RECLAIM ACK is owed, an ACK that passed the RECLAIM comes first and isn't
-- enough, and the RECLAIM ACK is said once the join is released
abbrev joined : Line
joined = run offered (Lend ∷ SwitchLabelled ∷ Pass Downstream ∷ Reassemble Downstream ∷ Recall ∷
    (arrives Upstream ++ (Tick Upstream 0 0 ∷ arrives Downstream)))

joined_is : Shows joined Estab Estab (Recalled 2 false) (Leaving 7 true) × (joined.known ≡ 3) ×
    (joined.reassembly ≡ 7 ∷ [])
joined_is = ((refl, refl, refl, refl), refl, refl)

joined_stays : Shows (run joined (Quit ∷ [])) Estab Estab (Recalled 2 false) (Leaving 7 true)
joined_stays = (refl, refl, refl, refl)

released_quits : Shows (run joined (Release ∷ (arrives Downstream ++ (Quit ∷ [])))) Estab Estab Wired NoGrant
released_quits = (refl, refl, refl, refl)

-- a grant expires at the upstream end, and the label stays offered: it is free only after a RECLAIM
expired_is : Shows (run offered (Expire ∷ [])) Estab Estab Offered NoGrant
expired_is = (refl, refl, refl, refl)

-- the upstream end restarts while an input is joined: it isn't cleared before the join is released;
-- the downstream end is told by an RSTACK, gives its label up, and both meet anew
abbrev restarted : Line
restarted = run offered (Lend ∷ Restart Upstream 0 ∷ Clear Upstream ∷ [])

restarted_is : Shows restarted Estab Clearing Offered (Leaving 7 false)
restarted_is = (refl, refl, refl, refl)

abbrev told : Line
told = run restarted (Release ∷ Clear Upstream ∷ Tick Upstream 0 0 ∷
    (arrives Downstream ++ (arrives Upstream ++ arrives Downstream)))

told_is : Shows told Clearing SynSent Spare NoGrant
told_is = (refl, refl, refl, refl)

met_anew_is : Shows (run told (Clear Downstream ∷ (greetings ++ (Wire 9 ∷ Bind ∷ arrives Upstream)))) Estab Estab
    Offered (Idle 9)
met_anew_is = (refl, refl, refl, refl)

-- the downstream end restarts: what the upstream end still sends under the label is dropped, its
-- grant ends with its own reset, and the label is offered anew only then
abbrev dropped : Line
dropped = run offered (Restart Downstream 0 ∷ SendLabelled ∷ cell_arrives)

dropped_is : Shows dropped Clearing Estab Spare (ByController 7) × (dropped.reassembly ≡ [])
dropped_is = ((refl, refl, refl, refl), refl)

abbrev reset : Line
reset = run dropped
    (Clear Downstream ∷ Tick Downstream 0 0 ∷ (arrives Upstream ++ (arrives Downstream ++ arrives Upstream)))

reset_is : Shows reset SynSent Clearing Spare NoGrant
reset_is = (refl, refl, refl, refl)

offered_anew_is : Shows
    (run reset (Clear Upstream ∷ (greetings ++ (Wire 9 ∷ Bind ∷ (arrives Upstream ++ (Start ∷ [])))))) Estab Estab
    Offered (ByController 9)
offered_anew_is = (refl, refl, refl, refl)
