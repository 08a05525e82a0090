-- worked lives: lists of moves, and what they come to. They show that the machine of the law does
-- what a controller and a switch do; the law itself needs none of them

use Rattle.std.proofs.Common.{◌≡◌, Some, None, List, [], ◌∷◌, ◌++◌, refl}
use Rattle.net_types.specs.declared.channel.End.{End}
use Rattle.adjacency_table.specs.declared.State.TheVariants.{SynSent}
use Rattle.law_branch_line.specs.Words.{AddBranch, MoveBranch, DeleteTree, DeleteAll, OnInput, Success, Copy}
use Rattle.law_branch_line.specs.Line.{Apart, Stands, Answered, Emptying, Met, Line, way_to_switch, start}
use Rattle.law_branch_line.specs.Moves.{Move, Ask, AskAgain, ControllerTakes, ControllerTicks, ControllerRestarts, SwitchTakes, SwitchRestarts, CarryToSwitch, CarryToController, LoseToController, run}

-- the channel of the control link that stands for label 0/33 of port 1, and label 0/40 of port 2
abbrev control : End
control = record { port = record { 0 = 0 }; channel = record { vpi = 16; vci = 33 } }

abbrev label : End
label = record { port = record { 0 = 2 }; channel = record { vpi = 0; vci = 40 } }

-- a message gets there and is taken, and another gets back
abbrev there : List Move
there = CarryToSwitch ∷ SwitchTakes Success ∷ []

abbrev back : List Move
back = CarryToController ∷ ControllerTakes ∷ []

-- SYN, SYNACK, ACK and All Ports, and Delete All of ports 0, 1 and 2
abbrev greeting : List Move
greeting = (ControllerTicks 1 ∷ []) ++ there ++ back ++ there ++ there ++ back

abbrev emptying : List Move
emptying = there ++ there ++ there ++ back ++ back ++ back

abbrev met : Line
met = run (start 1 2 3 1 1) (greeting ++ emptying)

meeting_life : (met.controller.meeting ≡ Met) × (met.controller.asked ≡ Answered 3 DeleteAll) ×
    (met.switch.branch ≡ None)
meeting_life = (refl, refl, refl)

-- the input is connected to the control link
abbrev added : Line
added = run met (Ask (OnInput (AddBranch control)) ∷ (there ++ back))

adding_life : (added.controller.asked ≡ Answered 5 (AddBranch control)) ×
    (added.switch.branch ≡ Some control)
adding_life = (refl, refl)

-- its branch is moved to a label. The request is sent twice, and the copy that is still on its way
-- is of the request that was answered
abbrev moved_out : Line
moved_out = run added (Ask (OnInput (MoveBranch control label)) ∷ AskAgain ∷ (there ++ back))

moving_life : (moved_out.controller.asked ≡ Answered 6 (MoveBranch control label)) ×
    (moved_out.switch.branch ≡ Some label) × (way_to_switch moved_out ≡ Copy 1 6
    (OnInput (MoveBranch control label)) ∷ [])
moving_life = (refl, refl, refl)

-- it is moved back: the answer is lost, and the request asked again
abbrev unanswered : Line
unanswered =
    run moved_out (Ask (OnInput (MoveBranch label control)) ∷
    (there ++ there ++ back ++ LoseToController 0 ∷ []))

abbrev moved_back : Line
moved_back = run unanswered (AskAgain ∷ (there ++ back))

moving_back_life : (unanswered.controller.asked ≡ Stands 7 (MoveBranch label control)) ×
    (unanswered.switch.branch ≡ Some control) × (moved_back.controller.asked ≡ Answered 7
    (MoveBranch label control)) × (moved_back.switch.branch ≡ Some control)
moving_back_life = (refl, refl, refl, refl)

-- Delete Tree takes the place of that Move Branch. The switch carries both out, and the first answer
-- is to a request that was withdrawn
abbrev withdrawn : Line
withdrawn =
    run moved_out (Ask (OnInput (MoveBranch label control)) ∷ Ask (OnInput DeleteTree) ∷
    (there ++ there ++ there ++ back ++ back))

abbrev deleted : Line
deleted = run withdrawn back

deleting_life : (withdrawn.controller.asked ≡ Stands 8 DeleteTree) × (withdrawn.switch.branch ≡ None) ×
    (deleted.controller.asked ≡ Answered 8 DeleteTree) × (deleted.switch.branch ≡ None)
deleting_life = (refl, refl, refl, refl)

-- the switch restarts. At its RSTACK the node is reset, and they meet again
abbrev bare : Line
bare = run moved_out (SwitchRestarts ∷ there)

abbrev noticed : Line
noticed = run bare ((ControllerTicks 1 ∷ []) ++ there ++ back)

switch_restart_life : (bare.controller.asked ≡ Answered 6 (MoveBranch control label)) ×
    (bare.switch.branch ≡ None) × (noticed.controller.adjacency.state ≡ SynSent) ×
    (noticed.controller.asked ≡ Apart) × ((run noticed (greeting ++ emptying)).controller.meeting ≡ Met)
switch_restart_life = (refl, refl, refl, refl, refl)

-- the controller restarts, and again while it empties the ports: its SYN makes the switch say ACK,
-- its RSTACK resets the switch, and only then they greet one another anew. What was asked before the
-- second restart is carried out, its answers do nothing, and it is asked anew
abbrev noticing : List Move
noticing = (ControllerRestarts ∷ ControllerTicks 1 ∷ []) ++ there ++ back ++ there

abbrev begun_again : Line
begun_again = run moved_out (there ++ back ++ noticing ++ greeting)

abbrev restarted : Line
restarted = run begun_again ((ControllerRestarts ∷ []) ++ emptying)

controller_restart_life : (begun_again.controller.meeting ≡ Emptying) ×
    (begun_again.controller.asked ≡ Stands 3 DeleteAll) × (begun_again.switch.branch ≡ Some label) ×
    (restarted.controller.asked ≡ Apart) × (restarted.switch.branch ≡ None) ×
    ((run restarted (noticing ++ greeting ++ emptying)).controller.meeting ≡ Met)
controller_restart_life = (refl, refl, refl, refl, refl, refl)
