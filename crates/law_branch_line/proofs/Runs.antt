-- the invariant holds after every list of moves, and the law is read off it

use Rattle.std.proofs.Common.{◌≡◌, ℕ, true, Option, None, List, [], ◌∷◌, ◌++◌, map, find, refl, ◌<◌, arith}
use Rattle.net_types.specs.declared.channel.End.{End}
use Rattle.adjacency_table.specs.declared.State.{State}
use Rattle.adjacency_table.specs.declared.State.TheVariants.{Estab}
use Rattle.adjacency_table.specs.Table.{tick_reply}
use Rattle.ordered_lists.specs.Ordered.{Every, InOrder}
use Rattle.ordered_lists.proofs.Every.{every_left, every_right, every_map, every_unmapped}
use Rattle.ordered_lists.proofs.InOrder.{order_left, order_right, order_map, order_unmapped}
use Rattle.law_branch_line.specs.Words.{ToSwitch, ToController}
use Rattle.law_branch_line.specs.Line.{Asked, Met, Line, way_to_switch, way_to_controller, start}
use Rattle.law_branch_line.specs.Switch.{takes_requests}
use Rattle.law_branch_line.specs.Moves.{Move, Ask, AskAgain, AskOtherAgain, ControllerTakes, ControllerTicks, ControllerResets, ControllerRestarts, SwitchTakes, SwitchTicks, SwitchResets, SwitchRestarts, CarryToSwitch, CarryToController, LoseToSwitch, LoseAtSwitch, LoseToController, LoseAtController, DrawElsewhere, WithdrawOther, step, run}
use Rattle.law_branch_line.specs.Asking.{is_numbered}
use Rattle.law_branch_line.specs.Law.{Always, IsOfTheLast, IsAskedFor, IsSettledInEstab, IsOfTheStanding, AnswersTellTrue, IsAskedUnder, IsAnsweredUnder, HasOnlyNewInEstab, IsEmptied, IsEmptyWhenMet, TakesItsControllers, IsBefore, CopiesAreInOrder}
use Rattle.law_branch_line.proofs.Trip.{Up, Down, Last, Fits, Before, HasStored, AfterStored, MayBranch, here, trip}
use Rattle.law_branch_line.proofs.Kept.{InStep, IsMeeting, FitsFor, BeforeFor, GoodFor, IsKept, drawn_later}
use Rattle.law_branch_line.proofs.ControllerSteps.{ask_freely_kept, ask_again_kept, ask_other_again_kept, withdraw_other_kept, reset_node_kept, restart_node_kept, tick_controller_kept}
use Rattle.law_branch_line.proofs.GreetingSteps.{controller_takes_kept}
use Rattle.law_branch_line.proofs.SwitchSteps.{switch_takes_kept, tick_switch_kept, reset_switch_kept, restart_switch_kept}
use Rattle.law_branch_line.proofs.LinkSteps.{carry_to_switch_kept, carry_to_controller_kept, lose_to_switch_kept, lose_at_switch_kept, lose_to_controller_kept, lose_at_controller_kept}

step_kept : (w : Line) (move : Move) → IsKept w → IsKept (step w move)
step_kept w (Ask q) kept = ask_freely_kept w q kept
step_kept w AskAgain kept = ask_again_kept w w.controller.asked refl kept
step_kept w (AskOtherAgain number) kept =
    ask_other_again_kept w number (find (is_numbered number) w.controller.others) refl kept
step_kept w (WithdrawOther number) kept = withdraw_other_kept w number kept
step_kept w ControllerTakes kept = controller_takes_kept w w.at_controller refl kept
step_kept w (ControllerTicks silence) kept =
    tick_controller_kept w (tick_reply w.controller.adjacency.state silence) kept
step_kept w ControllerResets kept = reset_node_kept w kept
step_kept w ControllerRestarts kept = restart_node_kept w kept
step_kept w (SwitchTakes outcome) kept = switch_takes_kept w w.at_switch outcome refl kept
step_kept w (SwitchTicks silence) kept =
    tick_switch_kept w (tick_reply w.switch.adjacency.state silence) kept
step_kept w SwitchResets kept = reset_switch_kept w kept
step_kept w SwitchRestarts kept = restart_switch_kept w kept
step_kept w CarryToSwitch kept = carry_to_switch_kept w w.to_switch refl kept
step_kept w CarryToController kept = carry_to_controller_kept w w.to_controller refl kept
step_kept w (LoseToSwitch place) kept = lose_to_switch_kept w place kept
step_kept w (LoseAtSwitch place) kept = lose_at_switch_kept w place kept
step_kept w (LoseToController place) kept = lose_to_controller_kept w place kept
step_kept w (LoseAtController place) kept = lose_at_controller_kept w place kept
step_kept w DrawElsewhere kept = drawn_later w.controller w.fresh (trip w) kept

run_kept : (w : Line) (moves : List Move) → IsKept w → IsKept (run w moves)
run_kept w [] kept = kept
run_kept w (move ∷ moves) kept = run_kept (step w move) moves (step_kept w move kept)

start_kept : (controller switch fresh before behind : ℕ) → 0 < controller → controller < fresh
    → IsKept (start controller switch fresh before behind)
start_kept controller switch fresh before behind positive drawn = record {
  good = record { each = grind arith; order = grind arith };
  sound = record {
    others = tt;
    own = omega arith;
    drawn = omega arith;
    in_step = tt;
    numbered = tt;
    meeting = tt;
  };
}

-- what is read off the invariant holds after every list of moves
pub always_lem : (P : Line → Type 0) → ((w : Line) → IsKept w → P w) → Always P
always_lem P f controller switch fresh before behind positive drawn also moves =
    f (run (start controller switch fresh before behind) moves)
    (run_kept (start controller switch fresh before behind) moves
    (start_kept controller switch fresh before behind positive drawn))

-- each part of the trip fits
messages_up : (w : Line) → IsKept w → Every (λ m. FitsFor w.controller (Up m)) (way_to_controller w)
messages_up w kept =
    every_unmapped Up (FitsFor w.controller) (way_to_controller w)
    (every_left (FitsFor w.controller) (map Up (way_to_controller w)) _ kept.good.each)

from_here : (w : Line) → IsKept w
    → GoodFor w.controller (here w.switch ∷ (map Down (way_to_switch w) ++ (Last ∷ [])))
from_here w kept = record {
  each = every_right (FitsFor w.controller) (map Up (way_to_controller w)) _ kept.good.each;
  order = order_right (BeforeFor w.controller) (map Up (way_to_controller w)) _ kept.good.order;
}

messages_down : (w : Line) → IsKept w → Every (λ m. FitsFor w.controller (Down m)) (way_to_switch w)
messages_down w kept =
    every_unmapped Down (FitsFor w.controller) (way_to_switch w)
    (every_left (FitsFor w.controller) (map Down (way_to_switch w)) (Last ∷ [])
    (from_here w kept).each.1)

-- the clauses, of what fits
last_alone : (d k : ℕ) (a : Asked) (m : ToSwitch) → Fits d k a (Down m) → IsOfTheLast a m
last_alone d k a m f = grind arith

asked_for : (a : Asked) (b : Option End) → InStep Estab a → MayBranch a b → IsAskedFor a b
asked_for a b i h = grind arith

of_the_standing : (d k : ℕ) (a : Asked) (m : ToController) → Fits d k a (Up m) → IsOfTheStanding a m
of_the_standing d k a m f = grind arith

asked_under : (d k : ℕ) (a : Asked) (m : ToSwitch) → InStep Estab a → Fits d k a (Down m) → IsAskedUnder d m
asked_under d k a m i f = grind arith

answered_under : (d k : ℕ) (a : Asked) (m : ToController) → InStep Estab a → Fits d k a (Up m)
    → IsAnsweredUnder d m
answered_under d k a m i f = grind arith

emptied : (a : Asked) (b : Option End) → IsMeeting Met a → MayBranch a b → (b ≡ None) × IsEmptied a
emptied a b i h = grind arith

taken_under : (st : State) (y : ℕ) (m : ToSwitch) → takes_requests st ≡ true → HasStored st y
    → AfterStored y (Down m) → IsAskedUnder y m
taken_under st y m e h f = grind arith

pub settled_lem : (w : Line) → IsKept w → IsSettledInEstab w
settled_lem w kept e = record {
  copies = every_map _ _ (way_to_switch w) (λ m f. last_alone _ _ _ m f) (messages_down w kept);
  branch =
      asked_for w.controller.asked w.switch.branch (rw e at kept.sound.in_step) (from_here w kept).each.0.3;
}

pub true_answers_lem : (w : Line) → IsKept w → AnswersTellTrue w
true_answers_lem w kept =
    every_map _ _ (way_to_controller w) (λ m f. of_the_standing _ _ _ m f) (messages_up w kept)

pub only_new_lem : (w : Line) → IsKept w → HasOnlyNewInEstab w
only_new_lem w kept e =
    let i : InStep Estab w.controller.asked = rw e at kept.sound.in_step in
    record {
      requests =
          every_map _ _ (way_to_switch w) (λ m f. asked_under _ _ w.controller.asked m i f)
          (messages_down w kept);
      answers =
          every_map _ _ (way_to_controller w) (λ m f. answered_under _ _ w.controller.asked m i f)
          (messages_up w kept);
    }

pub emptied_lem : (w : Line) → IsKept w → IsEmptyWhenMet w
emptied_lem w kept e =
    emptied w.controller.asked w.switch.branch (rw e at kept.sound.meeting) (from_here w kept).each.0.3

pub own_controller_lem : (w : Line) → IsKept w → TakesItsControllers w
own_controller_lem w kept e =
    let behind : Every (AfterStored w.switch.adjacency.stored) (map Down (way_to_switch w)) =
    every_left (AfterStored w.switch.adjacency.stored) (map Down (way_to_switch w)) (Last ∷ [])
    (from_here w kept).order.0 in
    every_map _ _ (way_to_switch w) (λ m f. taken_under w.switch.adjacency.state w.switch.adjacency.stored m
    e (from_here w kept).each.0.1 f) (every_unmapped Down (AfterStored w.switch.adjacency.stored)
    (way_to_switch w) behind)

before_of : (a : Asked) (m n : ToSwitch) → Before a (Down m) (Down n) → IsBefore m n
before_of a m n h = grind arith

pub copies_in_order_lem : (w : Line) → IsKept w → CopiesAreInOrder w
copies_in_order_lem w kept =
    let down : InOrder (BeforeFor w.controller) (map Down (way_to_switch w)) =
    order_left (BeforeFor w.controller) (map Down (way_to_switch w)) (Last ∷ []) (from_here w kept).order.1 in
    order_map (λ m n. BeforeFor w.controller (Down m) (Down n)) IsBefore (λ m. FitsFor w.controller (Down m)) (way_to_switch w)
    (λ m n p q h. before_of w.controller.asked m n h) (messages_down w kept)
    (order_unmapped Down (BeforeFor w.controller) (way_to_switch w) down)
