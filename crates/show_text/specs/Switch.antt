-- What a switch holds: its adjacency, its slots, its branches

use Rattle.std.specs.Prelude.{ℕ, List, ◌++◌, codes, decimal}
use Rattle.std.specs.List.{flat_map}
use Rattle.std.specs.FinMap.{entries}
use Rattle.net_types.specs.declared.channel.End.{End}
use Rattle.net_types.specs.declared.node.NodeId.{NodeId}
use Rattle.adjacency_table.specs.declared.State.{State}
use Rattle.crossbar_model.specs.Crossbar.{Branches}
use Rattle.world_model.specs.Switch.{Switch, free_slots}
use Rattle.world_model.specs.Topology.{Topology}
use Rattle.script_model.specs.Texts.{channel_text, name_of, port_text}
use Rattle.show_text.specs.Words.{slots_text, state_text}

-- *The switch*: the state of its side of the adjacency with its controller, and how many cells it switched from link to
-- link since its opening
abbrev pub switch_line : Topology → NodeId → State → (switched free cells : ℕ) → List ℕ
switch_line topology node state switched free cells =
    codes "switch " ++ (name_of topology node ++ (codes " " ++ (state_text state
    ++ (codes " switched " ++ (decimal switched ++ (slots_text free cells ++ codes "\n"))))))

-- *A branch*, from its input to its output; they stand in the order of port, VPI and VCI of their inputs, as the inputs
-- of a switch's branches ascend
abbrev pub channel_at_text : End → List ℕ
channel_at_text end = port_text end.port ++ (codes " " ++ channel_text end.channel)

abbrev pub branch_line : Topology → NodeId → (input output : End) → List ℕ
branch_line topology node input output =
    codes "branch " ++ (name_of topology node ++ (codes " " ++ (channel_at_text input
    ++ (codes " to " ++ (channel_at_text output ++ codes "\n")))))

abbrev pub branch_lines : Topology → NodeId → Branches → List ℕ
branch_lines topology node branches = flat_map (λ e. branch_line topology node e.0 e.1.output) (entries branches)

-- *All of a switch*
abbrev pub switch_lines : Topology → NodeId → Switch → List ℕ
switch_lines topology node s =
    switch_line topology node s.adjacency.state s.switched (free_slots s) s.cells
    ++ branch_lines topology node s.crossbar.branches
