-- while All Ports stands, nothing was asked behind it

use Rattle.std.proofs.Common.{◌≡◌, ℕ, Bool, true, false, not, List, [], ◌∷◌, Option, None, Some, refl, ◌∙◌, filter, if◌then◌else◌}
use Rattle.std.specs.Prelude.{find, ◌&&◌, ◌||◌}
use Rattle.std.specs.List.{list_any}
use Rattle.net_types.specs.declared.adjacency.HelloKind.{HelloKind}
use Rattle.adjacency_table.specs.declared.State.{State}
use Rattle.adjacency_table.specs.declared.State.TheVariants.{Clearing, SynSent, SynRcvd, Estab}
use Rattle.adjacency_table.specs.Side.{is_entry}
use Rattle.adjacency_table.specs.Table.{Row, Reply, Silent, Says, Resets, tick_reply}
use Rattle.adjacency_table.specs.Instances.{row_for, enters, is_reset}
use Rattle.law_branch_line.specs.Words.{Request, OnInput, Elsewhere, Outcome, Success, Failure, ToSwitch, ControllerGreets, Copy, ToController, SwitchGreets, Answer}
use Rattle.law_branch_line.specs.Line.{Asked, Apart, Unasked, Stands, Answered, Other, Meeting, Listing, Emptying, Met, MetAndAsked, Line, start}
use Rattle.law_branch_line.specs.Asking.{ask, has_met, may_ask, since_asked, is_numbered, ask_again, ask_other_again}
use Rattle.law_branch_line.specs.Controller.{reset_node, meet_on_entering, follow, tick_controller, meeting_after, answered, answers_asked, answers_other, input_answered, other_answered, hear_answer, hear_switch, controller_takes}
use Rattle.law_branch_line.specs.Switch.{reset_switch, obey, hear_controller, tick_switch, takes_requests, handle, switch_takes}
use Rattle.law_branch_line.specs.Moves.{Move, Ask, AskAgain, AskOtherAgain, WithdrawOther, ControllerTakes, ControllerTicks, ControllerResets, ControllerRestarts, SwitchTakes, SwitchTicks, SwitchResets, SwitchRestarts, CarryToSwitch, CarryToController, LoseToSwitch, LoseAtSwitch, LoseToController, LoseAtController, DrawElsewhere, carry_to_switch, carry_to_controller, step, run}
use Rattle.law_branch_line.specs.Law.{Always, AsksFirst}

both_of : {A : Type 0} (P : A → Type 0) (b : Bool) (x y : A) → P x → P y → P (if b then x else y)
both_of P true x y p q = p
both_of P false x y p q = q

reset_first : (w : Line) → AsksFirst (reset_node w)
reset_first w l e = absurd (cc e)

-- *A greeting*: entering Estab asks All Ports under the first number
entered : (before after : State) → is_entry before after ≡ false → after ≡ Estab → before ≡ Estab
entered Clearing Estab e is = absurd (cc e)
entered SynSent Estab e is = absurd (cc e)
entered SynRcvd Estab e is = absurd (cc e)
entered Estab after e is = refl
entered Clearing Clearing e is = absurd (cc is)
entered Clearing SynSent e is = absurd (cc is)
entered Clearing SynRcvd e is = absurd (cc is)
entered SynSent Clearing e is = absurd (cc is)
entered SynSent SynSent e is = absurd (cc is)
entered SynSent SynRcvd e is = absurd (cc is)
entered SynRcvd Clearing e is = absurd (cc is)
entered SynRcvd SynSent e is = absurd (cc is)
entered SynRcvd SynRcvd e is = absurd (cc is)

meets_first : (b : Bool) (w : Line) → (b ≡ false → AsksFirst w) → AsksFirst (meet_on_entering b w)
meets_first true w h = λ l e. refl
meets_first false w h = h refl

hears_first : (w : Line) (kind : HelloKind) (sender receiver : ℕ) → AsksFirst w → AsksFirst (hear_switch w kind sender receiver)
hears_first w kind sender receiver h = (let found : Row = row_for w.controller.adjacency kind sender receiver in
    both_of AsksFirst (is_reset found.reply) (reset_node w) (follow w found sender receiver) (reset_first w)
    (meets_first (enters w.controller.adjacency found) _ (λ stays l e. h l (entered w.controller.adjacency.state found.next stays e))))

ticks_first : (w : Line) (answer : Reply) → AsksFirst w → AsksFirst (tick_controller w answer)
ticks_first w Resets h = reset_first w
ticks_first w Silent h = h
ticks_first w (Says kind) h = h

-- *Answers*
left_listing : (meeting : Meeting) (asked : Asked) (others : List Other) → meeting_after meeting asked others ≡ Listing → meeting ≡ Listing
left_listing Listing asked others e = refl
left_listing Emptying (Stands number request) others e = absurd (cc e)
left_listing Emptying Apart [] e = absurd (cc e)
left_listing Emptying Unasked [] e = absurd (cc e)
left_listing Emptying (Answered number request) [] e = absurd (cc e)
left_listing Emptying Apart (other ∷ others) e = absurd (cc e)
left_listing Emptying Unasked (other ∷ others) e = absurd (cc e)
left_listing Emptying (Answered number request) (other ∷ others) e = absurd (cc e)
left_listing Met asked [] e = absurd (cc e)
left_listing Met asked (other ∷ others) e = absurd (cc e)
left_listing MetAndAsked asked [] e = absurd (cc e)
left_listing MetAndAsked asked (other ∷ others) e = absurd (cc e)

others_first : (w : Line) (meeting : Meeting) (left : List Other) → w.controller.meeting ≡ meeting → AsksFirst w → AsksFirst (other_answered w meeting left)
others_first w Listing left is h = λ l e. absurd (cc l)
others_first w Emptying left is h = λ l e. h (is ∙ left_listing Emptying w.controller.asked left l) e
others_first w Met left is h = λ l e. h (is ∙ left_listing Met w.controller.asked left l) e
others_first w MetAndAsked left is h = λ l e. h (is ∙ left_listing MetAndAsked w.controller.asked left l) e

answer_first : (w : Line) (number : ℕ) (request : Request) (outcome : Outcome) → AsksFirst w → AsksFirst (hear_answer w number request outcome)
answer_first w number request Success h =
    let left : List Other = filter (λ other. not (answers_other number request other)) w.controller.others in
    both_of AsksFirst (answers_asked number request w.controller.asked) (input_answered w) (if list_any (answers_other number request) w.controller.others then other_answered w w.controller.meeting left else w)
    (λ l e. h (left_listing w.controller.meeting (answered w.controller.asked) w.controller.others l) e)
    (both_of AsksFirst (list_any (answers_other number request) w.controller.others) (other_answered w w.controller.meeting left) w (others_first w w.controller.meeting left refl h) h)
answer_first w number request Failure h =
    both_of AsksFirst (answers_asked number request w.controller.asked || list_any (answers_other number request) w.controller.others) (reset_node w) w (reset_first w) h

takes_first : (w : Line) (xs : List ToController) → AsksFirst w → AsksFirst (controller_takes w xs)
takes_first w [] h = h
takes_first w (SwitchGreets kind sender receiver ∷ rest) h = hears_first (record w { at_controller = rest }) kind sender receiver h
takes_first w (Answer under number request outcome ∷ rest) h = answer_first (record w { at_controller = rest }) number request outcome h

-- *What is asked* freely is asked once the switch is met
met_not : (meeting : Meeting) → has_met meeting ≡ true → meeting ≡ Listing → ⊥
met_not Listing m l = cc m
met_not Emptying m l = cc m
met_not Met m l = cc l
met_not MetAndAsked m l = cc l

both_first : (a b : Bool) → (a && b) ≡ true → a ≡ true
both_first true b e = refl
both_first false b e = absurd (cc e)

asks_first : (w : Line) (request : Request) (b : Bool) → may_ask w.controller.meeting w.controller.asked request ≡ b → AsksFirst w
    → AsksFirst (if b then ask (record w { controller = record w.controller { meeting = since_asked w.controller.meeting request } }) request else w)
asks_first w (OnInput request) true may h = λ l e. absurd (cc l)
asks_first w (Elsewhere other) true may h = λ l e. absurd (met_not w.controller.meeting may l)
asks_first w request false may h = h

again_first : (w : Line) (asked : Asked) → AsksFirst w → AsksFirst (ask_again w asked)
again_first w Apart h = h
again_first w Unasked h = h
again_first w (Stands number request) h = h
again_first w (Answered number request) h = h

other_again_first : (w : Line) (o : Option Other) → AsksFirst w → AsksFirst (ask_other_again w o)
other_again_first w None h = h
other_again_first w (Some other) h = h

-- *The switch* leaves the controller
obeys_first : (w : Line) (kind : HelloKind) (sender receiver : ℕ) → AsksFirst w → AsksFirst (hear_controller w kind sender receiver)
obeys_first w kind sender receiver h = (let found : Row = row_for w.switch.adjacency kind sender receiver in both_of AsksFirst (is_reset found.reply) (reset_switch w) (obey w found sender receiver) h h)

switch_ticks_first : (w : Line) (answer : Reply) → AsksFirst w → AsksFirst (tick_switch w answer)
switch_ticks_first w Resets h = h
switch_ticks_first w Silent h = h
switch_ticks_first w (Says kind) h = h

handled_first : (w : Line) (under number : ℕ) (request : Request) (outcome : Outcome) → AsksFirst w → AsksFirst (handle w under number request outcome)
handled_first w under number request Success h = h
handled_first w under number request Failure h = h

switch_takes_first : (w : Line) (xs : List ToSwitch) (outcome : Outcome) → AsksFirst w → AsksFirst (switch_takes w xs outcome)
switch_takes_first w [] outcome h = h
switch_takes_first w (ControllerGreets kind sender receiver ∷ rest) outcome h = obeys_first (record w { at_switch = rest }) kind sender receiver h
switch_takes_first w (Copy under number request ∷ rest) outcome h = both_of AsksFirst (takes_requests w.switch.adjacency.state) (handle (record w { at_switch = rest }) under number request outcome) (record w { at_switch = rest })
    (handled_first (record w { at_switch = rest }) under number request outcome h) h

carried_first : (w : Line) (xs : List ToSwitch) → AsksFirst w → AsksFirst (carry_to_switch w xs)
carried_first w [] h = h
carried_first w (message ∷ rest) h = h

carried_back_first : (w : Line) (xs : List ToController) → AsksFirst w → AsksFirst (carry_to_controller w xs)
carried_back_first w [] h = h
carried_back_first w (message ∷ rest) h = h

step_first : (w : Line) (move : Move) → AsksFirst w → AsksFirst (step w move)
step_first w (Ask request) h = asks_first w request (may_ask w.controller.meeting w.controller.asked request) refl h
step_first w AskAgain h = again_first w w.controller.asked h
step_first w (AskOtherAgain number) h = other_again_first w (find (is_numbered number) w.controller.others) h
step_first w (WithdrawOther number) h = both_of AsksFirst (has_met w.controller.meeting) (record w { controller = record w.controller { others = filter (λ other. not (is_numbered number other)) w.controller.others } }) w h h
step_first w ControllerTakes h = takes_first w w.at_controller h
step_first w (ControllerTicks silence) h = ticks_first w (tick_reply w.controller.adjacency.state silence) h
step_first w ControllerResets h = reset_first w
step_first w ControllerRestarts h = reset_first (record w { at_controller = [] })
step_first w (SwitchTakes outcome) h = switch_takes_first w w.at_switch outcome h
step_first w (SwitchTicks silence) h = switch_ticks_first w (tick_reply w.switch.adjacency.state silence) h
step_first w SwitchResets h = h
step_first w SwitchRestarts h = h
step_first w CarryToSwitch h = carried_first w w.to_switch h
step_first w CarryToController h = carried_back_first w w.to_controller h
step_first w (LoseToSwitch place) h = h
step_first w (LoseAtSwitch place) h = h
step_first w (LoseToController place) h = h
step_first w (LoseAtController place) h = h
step_first w DrawElsewhere h = h

run_first : (moves : List Move) (w : Line) → AsksFirst w → AsksFirst (run w moves)
run_first [] w h = h
run_first (move ∷ moves) w h = run_first moves (step w move) (step_first w move h)

pub always_first : Always AsksFirst
always_first controller switch fresh before behind positive drawn also moves = run_first moves (start controller switch fresh before behind) (λ l e. absurd (cc e))
