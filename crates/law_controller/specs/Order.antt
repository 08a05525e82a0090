-- What holds of the requests that stand, and of joins

use Rattle.std.specs.Prelude.{◌≡◌, ◌≢◌, ℕ, ◌≤◌, ◌+◌, ◌==◌, ◌&&◌, not, true, false, Bool, List, [], ◌∷◌, Some}
use Rattle.std.specs.List.{list_any}
use Rattle.std.specs.Option.{option_map_or}
use Rattle.law_controller_facts.specs.world_model.Words.{PortNo, End, Request, MoveBranch, Clearing, same_end, at, is_delete_all, Desk, Standing, all_on, most_asked, label_end, Label, Grant, labels_of, Controller, Linked, port_key}
use Rattle.law_controller_facts.specs.world_model.gsmp_wire.declared.request.Request.TheVariants.{DeleteAll, AllPorts}
use Rattle.law_controller_facts.specs.ordered_lists.Ordered.{Every}
use Rattle.law_controller_facts.specs.world_model.port_model.Requests.{request_input}
use Rattle.law_controller_facts.specs.world_model.port_model.Grants as grants

-- *Joins*: a grant is lent to an input
abbrev pub lends : End → Grant → Bool
lends input grant = option_map_or (same_end input) (grants.lent_input grant.state) false

abbrev pub lends_at : End → Linked → Bool
lends_at input linked = list_any (lends input) linked.port.grants

abbrev pub is_lent : List Linked → End → Bool
is_lent ports input = list_any (lends_at input) ports

-- and one is lent to each label that is joined
abbrev pub IsLentTo : List Linked → Linked → Label → Type 0
IsLentTo ports linked label = (output : End) → label.join ≡ Some output → is_lent ports (label_end linked.setup.port label.number) ≡ true

abbrev pub HasLentLabels : List Linked → Linked → Type 0
HasLentLabels ports linked = Every (IsLentTo ports linked) (labels_of linked.port)

-- *Meeting the switch*: All Ports stands alone, or nothing stands but Delete Alls
abbrev pub IsDeleting : Request → Type 0
IsDeleting (DeleteAll port) = Unit {0}
IsDeleting request = ⊥

pub data IsMeeting : List Standing → Type 0 where
  listing : (s : Standing) → s.request ≡ AllPorts → IsMeeting (s ∷ [])
  emptying : (standing : List Standing) → Every (λ (s : Standing). IsDeleting s.request) standing → IsMeeting standing

-- once it is met, All Ports doesn't stand
abbrev pub IsOther : Request → Type 0
IsOther AllPorts = ⊥
IsOther request = Unit {0}

-- *Delete All* of a port stands only while the port is in Clearing, once the switch is met
pub record IsClearingAt (ports : List Linked) (port : PortNo) : Type 0 where
  pub linked : Linked
  pub found : at port_key port.0 ports ≡ Some linked
  pub clearing : linked.port.adjacency.state ≡ Clearing

abbrev pub IsOfClearing : List Linked → Standing → Type 0
IsOfClearing ports s = (port : PortNo) → is_delete_all port s.request ≡ true → IsClearingAt ports port

-- and nothing stands beside it on an input of the port, if it is a link's
abbrev pub IsLinkInput : End → Type 0
IsLinkInput input = input.port.0 ≢ 0

abbrev pub IsApart : Desk → Standing → Type 0
IsApart desk s = (input : End) → request_input s.request ≡ Some input → IsLinkInput input → all_on desk input.port ≡ false

-- *A Move Branch* that stands is of an input to which a grant is lent
abbrev pub IsLentMove : List Linked → Request → Type 0
IsLentMove ports (MoveBranch input from to) = is_lent ports input ≡ true
IsLentMove ports request = Unit {0}

abbrev pub MovesLent : List Linked → Standing → Type 0
MovesLent ports s = IsLentMove ports s.request

-- *How many stand*: at most 1,024 on inputs that no grant is lent to, default channels aside
abbrev pub is_default : End → Bool
is_default input = input.channel.vci == 15

abbrev pub is_unlent : List Linked → End → Bool
is_unlent ports input = not (is_default input) && not (is_lent ports input)

abbrev pub stands_unlent : List Linked → Standing → Bool
stands_unlent ports s = option_map_or (is_unlent ports) (request_input s.request) false

abbrev pub is_listing : Request → Bool
is_listing AllPorts = true
is_listing request = false

abbrev pub is_all_ports : Standing → Bool
is_all_ports s = is_listing s.request

abbrev pub one_if : Bool → ℕ
one_if true = 1
one_if false = 0

abbrev pub count_of : {A : Type 0} → (A → Bool) → List A → ℕ
count_of test [] = 0
count_of test (x ∷ xs) = one_if (test x) + count_of test xs

-- all of it, of the ports, whether the switch is met, and the desk
pub record IsOrder (ports : List Linked) (has_met : Bool) (desk : Desk) : Type 0 where
  pub joined : Every (HasLentLabels ports) ports
  pub meeting : has_met ≡ false → IsMeeting desk.standing
  pub met : has_met ≡ true → Every (λ (s : Standing). IsOther s.request) desk.standing
  pub clearing : has_met ≡ true → Every (IsOfClearing ports) desk.standing
  pub apart : Every (IsApart desk) desk.standing
  pub moves : Every (MovesLent ports) desk.standing
  pub unlent : count_of (stands_unlent ports) desk.standing ≤ most_asked
  pub one : count_of is_all_ports desk.standing ≤ 1

abbrev pub IsOrderly : Controller → Type 0
IsOrderly c = IsOrder c.ports c.has_met c.desk
