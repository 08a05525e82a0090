-- A grant as it is read has the grant's line

use Rattle.std.proofs.Common.{◌≡◌, ◌++◌, ℕ, true, false, List, codes, refl, ap}
use Rattle.std.specs.Prelude.{decimal}
use Rattle.net_types.specs.declared.node.NodeId.{NodeId}
use Rattle.net_types.specs.declared.node.PortNo.{PortNo}
use Rattle.port_model.specs.Grants.{Grant, GrantState, Idle, ByController, ByInput, Leaving, lent_input}
use Rattle.grant_table.specs.Table.{is_owed, kind_of, view_of}
use Rattle.world_model.specs.Topology.{Topology}
use Rattle.script_model.specs.Texts.{label_text}
use Rattle.show_text.specs.Port.{grant_line, grant_state_text}
use Rattle.show_text.specs.Views.{view_line, word_by}
use Rattle.show_text.specs.Words.{at_text, flow_text, joined_text}

word_is : (state : GrantState) → word_by (kind_of state) (is_owed state) ≡ grant_state_text state
word_is Idle = refl
word_is ByController = refl
word_is (ByInput input) = refl
word_is (Leaving input false) = refl
word_is (Leaving input true) = refl

pub view_is_grant : (t : Topology) (node : NodeId) (port : PortNo) (grant : Grant) → view_line t node port (view_of grant) ≡ grant_line t node port grant
view_is_grant t node port grant =
    ap (λ (word : List ℕ). codes "grant " ++ (at_text t node port ++ (codes " " ++ (label_text t grant.label ++ (codes " " ++ (word ++ (codes " lifetime " ++ (decimal grant.lifetime
    ++ (codes " " ++ (flow_text grant.flow ++ (joined_text t (codes " for ") (lent_input grant.state) ++ codes "\n")))))))))))
    (word_is grant.state)
