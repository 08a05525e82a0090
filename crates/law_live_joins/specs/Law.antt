-- A label that can be joined is joined at its turn in a tick

use Rattle.std.specs.Prelude.{◌≡◌, ◌<◌, true, List, [], Some}
use Rattle.std.specs.Option.{option_map_or}
use Rattle.world_model.specs.Words.{PortNo, End, MoveBranch, Request, at, last_transaction, home_of, Label, Grant, ByInput, grant_label, is_estab, Controller, linked_at, join_for, label_on, may_join, sends_request, tries_join}
use Rattle.world_model.specs.port_model.Desk.{asked}
use Rattle.world_model.specs.Controller.{Acted}
use Rattle.world_model.specs.Joins.{Join, output_joined}
use Rattle.law_port_facts.specs.ordered_lists.Ordered.{InOrder}

-- the grants of a port, if it is linked
abbrev pub granted_at : Controller → PortNo → List Grant
granted_at c port = option_map_or (λ linked. linked.port.grants) (linked_at c port) []

-- *Its turn comes*: the label on this input may be joined, a grant is there that its way leads on to, no other grant of that
-- port has its label, and the session with the switch stands and has a number left
pub record IsDue (a : Acted) (input : End) (label : Label) (join : Join) : Type 0 where
  pub there : label_on a.controller input ≡ Some label
  pub may : may_join a.controller input label ≡ true
  pub leads_on : join_for a.controller input label.flow ≡ Some join
  pub apart : InOrder (λ (x y : Grant). grant_label x ≡ grant_label y → ⊥) (granted_at a.controller join.port)
  pub in_session : is_estab a.controller.adjacency.state ≡ true
  pub number_left : a.controller.desk.next < last_transaction

abbrev pub move_of : (input : End) → Join → Request
move_of input join = MoveBranch input (home_of input) (output_joined join)

-- *It is joined*: at the label, at the grant, and at the desk; and then the request is sent
pub record IsJoined (a : Acted) (input : End) (label : Label) (join : Join) (after : Acted) : Type 0 where
  pub label_joined : label_on after.controller input ≡ Some (record label { join = Some (output_joined join) })
  pub grant_lent : at grant_label join.grant.label (granted_at after.controller join.port) ≡ Some (record join.grant { state = ByInput input })
  pub asked_for : after.controller.desk ≡ asked a.controller.desk (move_of input join)
  pub before_sending : Acted
  pub same_queue : before_sending.controller.queue ≡ a.controller.queue
  pub sent : after ≡ sends_request before_sending (record { number = a.controller.desk.next; request = move_of input join })

abbrev pub LabelsAreJoined : Type 0
LabelsAreJoined = (a : Acted) (input : End) (label : Label) (join : Join) → IsDue a input label join
    → IsJoined a input label join (tries_join a input)
