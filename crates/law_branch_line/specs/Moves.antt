-- what may happen at any time, one thing after another

use Rattle.std.specs.Prelude.{ℕ, ◌+◌, List, [], ◌∷◌, ◌++◌, find, fold, remove}
use Rattle.adjacency_table.specs.Table.{tick_reply}
use Rattle.law_branch_line.specs.Words.{Request, Outcome, ToSwitch, ToController}
use Rattle.law_branch_line.specs.Line.{Line}
use Rattle.law_branch_line.specs.Asking.{ask_freely, ask_again, is_numbered, ask_other_again, withdraw_other}
use Rattle.law_branch_line.specs.Controller.{tick_controller, controller_takes, reset_node, restart_node}
use Rattle.law_branch_line.specs.Switch.{tick_switch, switch_takes, reset_switch, restart_switch}

pub data Move : Type 0 where
  -- the controller asks a request, sends the input's standing one again, or one of the others, or
  -- withdraws one of the others, by its number
  Ask : Request → Move
  AskAgain : Move
  AskOtherAgain : (number : ℕ) → Move
  WithdrawOther : (number : ℕ) → Move
  -- it takes a message; its adjacency ticks; the node is reset, for any reason, or restarts
  ControllerTakes : Move
  ControllerTicks : (silence : ℕ) → Move
  ControllerResets : Move
  ControllerRestarts : Move
  -- the switch takes a message; its adjacency ticks; it is reset, or restarts
  SwitchTakes : Outcome → Move
  SwitchTicks : (silence : ℕ) → Move
  SwitchResets : Move
  SwitchRestarts : Move
  -- the link carries the first message that is queued, or loses any message
  CarryToSwitch : Move
  CarryToController : Move
  LoseToSwitch : (place : ℕ) → Move
  LoseAtSwitch : (place : ℕ) → Move
  LoseToController : (place : ℕ) → Move
  LoseAtController : (place : ℕ) → Move
  -- an instance is drawn elsewhere
  DrawElsewhere : Move

abbrev pub carry_to_switch : Line → List ToSwitch → Line
carry_to_switch w [] = w
carry_to_switch w (message ∷ rest) =
    record w { at_switch = w.at_switch ++ message ∷ []; to_switch = rest }

abbrev pub carry_to_controller : Line → List ToController → Line
carry_to_controller w [] = w
carry_to_controller w (message ∷ rest) =
    record w { at_controller = w.at_controller ++ message ∷ []; to_controller = rest }

-- the line after a move; one that isn't possible changes nothing
abbrev pub step : Line → Move → Line
step w (Ask request) = ask_freely w request
step w AskAgain = ask_again w w.controller.asked
step w (AskOtherAgain number) = ask_other_again w (find (is_numbered number) w.controller.others)
step w (WithdrawOther number) = withdraw_other w number
step w ControllerTakes = controller_takes w w.at_controller
step w (ControllerTicks silence) =
    tick_controller w (tick_reply w.controller.adjacency.state silence)
step w ControllerResets = reset_node w
step w ControllerRestarts = restart_node w
step w (SwitchTakes outcome) = switch_takes w w.at_switch outcome
step w (SwitchTicks silence) = tick_switch w (tick_reply w.switch.adjacency.state silence)
step w SwitchResets = reset_switch w
step w SwitchRestarts = restart_switch w
step w CarryToSwitch = carry_to_switch w w.to_switch
step w CarryToController = carry_to_controller w w.to_controller
step w (LoseToSwitch place) = record w { to_switch = remove w.to_switch place }
step w (LoseAtSwitch place) = record w { at_switch = remove w.at_switch place }
step w (LoseToController place) = record w { to_controller = remove w.to_controller place }
step w (LoseAtController place) = record w { at_controller = remove w.at_controller place }
step w DrawElsewhere = record w { fresh = w.fresh + 1 }

-- the line after a list of moves
abbrev pub run : Line → List Move → Line
run w moves = fold step w moves
