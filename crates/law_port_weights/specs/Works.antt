-- What a port at work weighs: the port, and what it has asked so far

use Rattle.std.specs.Prelude.{ℕ, ◌+◌}
use Rattle.claims_model.specs.world_model.Words.{Action, Say, Ask, Note, CutChain, TakeBack, Withdraw, Work}
use Rattle.claims_model.specs.world_model.port_model.declared.action.Action.TheVariants.{Reset}
use Rattle.claims_model.specs.Costs.{total_weight, frame_weight, request_weight, reset_weight, message_cost}
use Rattle.claims_model.specs.Weights.{standing_cost, port_weight}

abbrev pub action_cost : Action → ℕ
action_cost (Say message) = frame_weight + message_cost message
action_cost (Ask request needed) = request_weight + standing_cost request
action_cost (Note item) = 0
action_cost (CutChain label) = 0
action_cost (TakeBack input output) = request_weight
action_cost (Withdraw input) = 0
action_cost Reset = reset_weight

abbrev pub work_weight : (changes : ℕ) → Work → ℕ
work_weight changes w = port_weight changes w.port + total_weight action_cost w.actions
