-- the conduct of the switch, as far as it concerns one input

use Rattle.std.specs.Prelude.{ℕ, ◌+◌, Bool, List, [], ◌∷◌, ◌++◌, Option, None, if◌then◌else◌}
use Rattle.net_types.specs.declared.channel.End.{End}
use Rattle.net_types.specs.declared.adjacency.HelloKind.{HelloKind}
use Rattle.adjacency_table.specs.declared.State.{State}
use Rattle.adjacency_table.specs.declared.State.TheVariants.{SynSent}
use Rattle.adjacency_table.specs.Side.{is_estab}
use Rattle.adjacency_table.specs.Table.{Row, Reply, Resets}
use Rattle.adjacency_table.specs.Instances.{SideByInstances, begun, row_for, after_row, is_reset}
use Rattle.law_branch_line.specs.Words.{Request, OnInput, Elsewhere, asked_branch, Outcome, Success, Failure, ToSwitch, ControllerGreets, Copy, ToController, SwitchGreets, Answer}
use Rattle.law_branch_line.specs.Line.{spoken, Line}

abbrev pub reply : Line → List ToController → Line
reply w messages = record w { to_controller = w.to_controller ++ messages }

-- a reset changes the instance alone; a restart also ends every branch and loses what the switch has
-- gathered
abbrev pub reset_switch : Line → Line
reset_switch w = record w {
  switch = record w.switch { adjacency = begun SynSent w.fresh };
  fresh = w.fresh + 1;
}

abbrev pub restart_switch : Line → Line
restart_switch w = reset_switch (record w {
  switch = record w.switch { branch = None };
  at_switch = [];
})

-- a greeting of the controller is taken by the adjacency table
abbrev pub obey : Line → Row → (sender receiver : ℕ) → Line
obey w found sender receiver =
    let after : SideByInstances = after_row w.switch.adjacency found sender in
    reply
    (record w { switch = record w.switch { adjacency = after } })
    (spoken SwitchGreets found.reply after sender receiver)

abbrev pub hear_controller : Line → HelloKind → (sender receiver : ℕ) → Line
hear_controller w kind sender receiver =
    let found : Row = row_for w.switch.adjacency kind sender receiver in
    if is_reset found.reply then reset_switch w else obey w found sender receiver

abbrev pub tick_switch : Line → Reply → Line
tick_switch w Resets = reset_switch w
tick_switch w answer = reply w (spoken SwitchGreets answer w.switch.adjacency 0 0)

-- requests are taken only in Estab
abbrev pub takes_requests : State → Bool
takes_requests state = is_estab state

-- the input's branch after a request that succeeded
abbrev pub branch_after : Request → Option End → Option End
branch_after (OnInput request) branch = asked_branch request
branch_after (Elsewhere other) branch = branch

-- a request succeeds, or fails and changes nothing; the answer repeats it. Why one fails is left
-- open, so the law holds whatever the reason is
abbrev pub handle : Line → (under number : ℕ) → Request → Outcome → Line
handle w under number request Success =
    reply
    (record w { switch = record w.switch { branch = branch_after request w.switch.branch } })
    (Answer under number request Success ∷ [])
handle w under number request Failure = reply w (Answer under number request Failure ∷ [])

-- the switch takes the first message that it has gathered; `outcome` is that of a request
abbrev pub switch_takes : Line → List ToSwitch → Outcome → Line
switch_takes w [] outcome = w
switch_takes w (ControllerGreets kind sender receiver ∷ rest) outcome =
    hear_controller (record w { at_switch = rest }) kind sender receiver
switch_takes w (Copy under number request ∷ rest) outcome =
    if takes_requests w.switch.adjacency.state
    then handle (record w { at_switch = rest }) under number request outcome
    else record w { at_switch = rest }
