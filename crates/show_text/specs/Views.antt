-- The line of a grant as it is read. That it is the grant's line is `view_is_grant`; no claim needs this file

use Rattle.std.specs.Prelude.{Bool, true, false, List, ℕ, ◌++◌, codes, decimal}
use Rattle.net_types.specs.declared.node.NodeId.{NodeId}
use Rattle.net_types.specs.declared.node.PortNo.{PortNo}
use Rattle.grant_table.specs.declared.table.GrantState.{GrantState}
use Rattle.grant_table.specs.declared.table.GrantState.TheVariants.{Idle, ByController, ByInput, Leaving}
use Rattle.grant_table.specs.declared.table.GrantView.{GrantView}
use Rattle.world_model.specs.Topology.{Topology}
use Rattle.script_model.specs.Texts.{label_text}
use Rattle.show_text.specs.Words.{at_text, flow_text, joined_text}

abbrev pub word_by : GrantState → (owed : Bool) → List ℕ
word_by Idle owed = codes "idle"
word_by ByController owed = codes "own"
word_by ByInput owed = codes "lent"
word_by Leaving false = codes "leaving"
word_by Leaving true = codes "owed"

abbrev pub view_line : Topology → NodeId → PortNo → GrantView → List ℕ
view_line topology node number view =
    codes "grant " ++ (at_text topology node number ++ (codes " " ++ (label_text topology view.label
    ++ (codes " " ++ (word_by view.state view.owed ++ (codes " lifetime " ++ (decimal view.lifetime
    ++ (codes " " ++ (flow_text view.flow ++ (joined_text topology (codes " for ") view.input ++ codes "\n"))))))))))
