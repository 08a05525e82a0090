-- what a controller does at a message, a tick and a restart, as far as it concerns one input

use Rattle.std.specs.Prelude.{ℕ, ◌+◌, Bool, true, false, not, ◌||◌, List, [], ◌∷◌, ◌++◌, filter, replicate, if◌then◌else◌}
use Rattle.std.specs.List.{list_any}
use Rattle.net_types.specs.declared.adjacency.HelloKind.{HelloKind}
use Rattle.adjacency_table.specs.declared.State.TheVariants.{SynSent}
use Rattle.adjacency_table.specs.Table.{Row, Reply, Resets}
use Rattle.adjacency_table.specs.Instances.{SideByInstances, begun, row_for, enters, after_row, is_reset}
use Rattle.law_branch_line.specs.Words.{DeleteAll, Request, OnInput, Elsewhere, delete_all, all_ports, Outcome, Success, Failure, ControllerGreets, ToController, SwitchGreets, Answer, answers}
use Rattle.law_branch_line.specs.Line.{spoken, Asked, Apart, Unasked, Stands, Answered, Other, Meeting, Listing, Emptying, Met, Line}
use Rattle.law_branch_line.specs.Asking.{say, ask, ask_each}

-- the node is reset: a new instance, and nothing stands any more
abbrev pub reset_node : Line → Line
reset_node w = record w {
  controller = record {
    adjacency = begun SynSent w.fresh;
    next = 1;
    asked = Apart;
    others = [];
    meeting = Listing;
  };
  fresh = w.fresh + 1;
}

-- a restart also loses what the controller has gathered
abbrev pub restart_node : Line → Line
restart_node w = reset_node (record w { at_controller = [] })

-- on entering Estab numbers begin at 1, and All Ports is asked
abbrev pub meet : Line → Line
meet w =
    ask
    (record w {
      controller = record w.controller {
        next = 1;
        asked = Unasked;
        others = [];
        meeting = Listing;
      };
    })
    (Elsewhere all_ports)

abbrev pub meet_on_entering : Bool → Line → Line
meet_on_entering true w = meet w
meet_on_entering false w = w

-- a greeting of the switch is taken by the adjacency table
abbrev pub follow : Line → Row → (sender receiver : ℕ) → Line
follow w found sender receiver =
    let after : SideByInstances = after_row w.controller.adjacency found sender in
    meet_on_entering
    (enters w.controller.adjacency found)
    (say
    (record w { controller = record w.controller { adjacency = after } })
    (spoken ControllerGreets found.reply after sender receiver))

abbrev pub hear_switch : Line → HelloKind → (sender receiver : ℕ) → Line
hear_switch w kind sender receiver =
    let found : Row = row_for w.controller.adjacency kind sender receiver in
    if is_reset found.reply then reset_node w else follow w found sender receiver

-- a tick of the adjacency; `silence` is how long the switch was silent
abbrev pub tick_controller : Line → Reply → Line
tick_controller w Resets = reset_node w
tick_controller w reply = say w (spoken ControllerGreets reply w.controller.adjacency 0 0)

-- Delete All is asked of each port, of the input's in its place among them
abbrev pub deletes : (ports_before ports_behind : ℕ) → List Request
deletes ports_before ports_behind =
    replicate ports_before (Elsewhere delete_all)
    ++ (OnInput DeleteAll ∷ replicate ports_behind (Elsewhere delete_all))

abbrev pub empty_ports : Line → Line
empty_ports w =
    let asking : Line = ask_each w (deletes w.ports_before w.ports_behind) in
    record asking { controller = record asking.controller { meeting = Emptying } }

-- the switch is met when no Delete All stands any more
abbrev pub meeting_after : Meeting → Asked → List Other → Meeting
meeting_after Emptying (Stands number request) others = Emptying
meeting_after Emptying asked [] = Met
meeting_after meeting asked others = meeting

-- whether an answer is one to the input's standing request, or to one of the others
abbrev pub answers_asked : (number : ℕ) → Request → Asked → Bool
answers_asked number request (Stands standing_number standing) =
    answers number request standing_number (OnInput standing)
answers_asked number request asked = false

abbrev pub answers_other : (number : ℕ) → Request → Other → Bool
answers_other number request other =
    answers number request other.number (Elsewhere other.message_type)

abbrev pub answered : Asked → Asked
answered (Stands number request) = Answered number request
answered asked = asked

abbrev pub input_answered : Line → Line
input_answered w =
    let asked : Asked = answered w.controller.asked in
    record w {
      controller = record w.controller {
        asked = asked;
        meeting = meeting_after w.controller.meeting asked w.controller.others;
      };
    }

abbrev pub other_answered : Line → Meeting → List Other → Line
other_answered w Listing left =
    empty_ports (record w { controller = record w.controller { others = left } })
other_answered w meeting left = record w {
  controller = record w.controller {
    others = left;
    meeting = meeting_after meeting w.controller.asked left;
  };
}

-- an answer: of a success the request stands no more, a failure resets the node, and an answer to
-- no standing request does nothing
abbrev pub hear_answer : Line → (number : ℕ) → Request → Outcome → Line
hear_answer w number request Success =
    if answers_asked number request w.controller.asked
    then input_answered w
    else (
    if list_any (answers_other number request) w.controller.others
    then
    other_answered
    w
    w.controller.meeting
    (filter (λ other. not (answers_other number request other)) w.controller.others)
    else w)
hear_answer w number request Failure =
    if answers_asked number request w.controller.asked
    || list_any (answers_other number request) w.controller.others
    then reset_node w
    else w

-- the controller takes the first message that it has gathered
abbrev pub controller_takes : Line → List ToController → Line
controller_takes w [] = w
controller_takes w (SwitchGreets kind sender receiver ∷ rest) =
    hear_switch (record w { at_controller = rest }) kind sender receiver
controller_takes w (Answer under number request outcome ∷ rest) =
    hear_answer (record w { at_controller = rest }) number request outcome
