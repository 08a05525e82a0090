-- What the calls about joins, changes of routes and ticks ask of the controller, beside what a router's calls do. What
-- holds of one controller gives all of it.

use Rattle.std.specs.Prelude.{◌≡◌, ℕ, None, ◌<◌, ◌≤◌, ◌+◌, ◌^◌, true, false, List, [], ◌∷◌, flat_map, fold, length, IsTrue, Some}
use Rattle.std.specs.List.{list_any}
use Rattle.net_types.specs.declared.node.PortNo.{PortNo}
use Rattle.net_types.specs.declared.channel.End.{End}
use Rattle.net_types.specs.declared.adjacency.Greeting.{Greeting}
use Rattle.net_types.specs.declared.adjacency.Party.{Party}
use Rattle.net_types.specs.Label.{is_label_channel, number_of_channel}
use Rattle.ipv4_forward.specs.declared.change.RouteChange.{RouteChange}
use Rattle.adjacency_table.specs.declared.message.Answer.{Answer}
use Rattle.adjacency_table.specs.declared.message.Answer.TheVariants as replies
use Rattle.adjacency_table.specs.declared.message.Said.{Said}
use Rattle.adjacency_table.specs.Greeting.{gsmp_answer}
use Rattle.adjacency_table.specs.Side.{Step, is_estab, ticked}
use Rattle.gsmp_wire.specs.declared.request.Request.{Request}
use Rattle.gsmp_wire.specs.declared.request.Request.TheVariants.{MoveBranch}
use Rattle.crossbar_model.specs.Crossbar.{same_end}
use Rattle.ordered_lists.specs.Ordered.{Every}
use Rattle.keyed_lists.specs.Keyed.{at}
use Rattle.grant_table.specs.Table.{AreApart}
use Rattle.port_model.specs.Setup.{home_of}
use Rattle.port_model.specs.Labels.{Label, Offered}
use Rattle.port_model.specs.Grants.{ByController, grant_label}
use Rattle.port_model.specs.Joins.{given_back}
use Rattle.port_model.specs.Ticks as port_ticks
use Rattle.controller_joins.specs.world_model.Controller.{Acted, Controller, Linked, linked_at, ports_of}
use Rattle.controller_joins.specs.world_model.Performing.{Rule}
use Rattle.controller_joins.specs.world_model.Resets.{begins}
use Rattle.controller_joins.specs.world_model.Joins.{Join, enters_grant, enters_label, inputs_at, join_for, join_of, joins_of, label_on, may_join, output_joined, parts, released_inputs, releases_input, tries_join}
use Rattle.controller_joins.specs.world_model.Changes.{begins_change, changed_joins, may_take, takes_change, takes_join_back}
use Rattle.controller_joins.specs.world_model.Gsmp.{answers}
use Rattle.controller_joins.specs.world_model.Ticks.{sends_again, ticks_port, ticks_ports}
use Rattle.controller_router.specs.Conditions.{CanAsk, CanFollow, CanResetNode, CanTakeBack, CanWork, turned_to}
use Rattle.controller_router.specs.Meeting.{EachCanResetSpent, with_begun}
use Rattle.controller_joins.specs.Joined.{joined_of}
use Rattle.controller_joins.specs.declared.places.Joined.{Joined}
use Rattle.law_join_facts.specs.Joins.{inputs_on, joined_at}

-- *A rule at a port* leaves each grant that is lent with its input, and lends no other
abbrev pub KeepsJoins : Acted → PortNo → Rule → Type 0
KeepsJoins a port rule = (linked : Linked) → linked_at a.controller port ≡ Some linked
    → joined_at (record linked { port = (rule linked.setup a.controller.desk (begins a linked)).port }) ≡ joined_at linked

pub record CanWorkOn (a : Acted) (port : PortNo) (rule : Rule) : Type 0 where
  pub can : CanWork a port rule
  pub keeps : KeepsJoins a port rule

-- *A join's grant* is the one of its label at its port, and no two grants there are of one label
pub record IsGrantOf (c : Controller) (join : Join) : Type 0 where
  pub linked : Linked
  pub found : linked_at c join.port ≡ Some linked
  pub granted : at grant_label join.grant.label linked.port.grants ≡ Some join.grant
  pub apart : AreApart linked.port.grants

abbrev pub HasGrants : Controller → Type 0
HasGrants c = Every (IsGrantOf c) (joins_of c)

-- *A release*: the input is the channel of a label, and what the grant's port asks can be done
pub record CanReleaseJoin (a : Acted) (join : Join) : Type 0 where
  pub label : IsTrue (is_label_channel join.input.channel)
  pub grant : IsGrantOf (parts a join.input).controller join
  pub work : CanWork (parts a join.input) join.port (λ setup desk w. given_back w join.grant)

abbrev pub CanReleaseInput : Acted → (input : End) → Type 0
CanReleaseInput a input = (join : Join) → join_of a.controller input ≡ Some join → CanReleaseJoin a join

abbrev pub EachCanBeReleased : Acted → List End → Type 0
EachCanBeReleased a [] = Unit {0}
EachCanBeReleased a (input ∷ inputs) = CanReleaseInput a input × EachCanBeReleased (releases_input a input) inputs

abbrev pub released : Acted → Request → Acted
released a request = fold releases_input a (released_inputs a.controller request)

-- those of an answer, and then the resets of the ports whose numbers are spent
pub record CanRelease (a : Acted) (request : Request) : Type 0 where
  pub inputs : EachCanBeReleased a (released_inputs a.controller request)
  pub spent : EachCanResetSpent (released a request) (ports_of (released a request).controller)

-- *A join*: no grant is lent to the input yet, and Move Branch can be asked
abbrev pub entered : Acted → Join → Acted
entered a join = enters_label (enters_grant a join) join

pub record CanJoin (a : Acted) (join : Join) : Type 0 where
  pub free : list_any (λ other. same_end other.input join.input) (joins_of a.controller) ≡ false
  pub grant : IsGrantOf a.controller join
  pub asks : CanAsk (entered a join) (MoveBranch join.input (home_of join.input) (output_joined join))

-- as the code knows it: the label is offered and isn't joined, and the router sends under the grant
pub record IsPlanned (a : Acted) (number : ℕ) (joined : Joined) : Type 0 where
  pub join : Join
  pub is : joined_of join ≡ joined
  pub can : CanJoin a join
  pub sent : join.grant.state ≡ ByController
  pub label : Label
  pub held : label_on a.controller join.input ≡ Some label
  pub numbered : number_of_channel join.input.channel ≡ number
  pub offered : label.state ≡ Offered
  pub unjoined : label.join ≡ None

abbrev pub CanTryLabel : Acted → (input : End) → Label → Type 0
CanTryLabel a input label = may_join a.controller input label ≡ true
    → (join : Join) → join_for a.controller input label.flow ≡ Some join → CanJoin a join

abbrev pub CanTryJoin : Acted → (input : End) → Type 0
CanTryJoin a input = (label : Label) → label_on a.controller input ≡ Some label → CanTryLabel a input label

abbrev pub EachCanBeTried : Acted → List End → Type 0
EachCanBeTried a [] = Unit {0}
EachCanBeTried a (input ∷ inputs) = CanTryJoin a input × EachCanBeTried (tries_join a input) inputs

-- a port holds 16,384 labels at most
abbrev pub HoldFew : Controller → Type 0
HoldFew c = (port : PortNo) → length (inputs_on c port) ≤ 16384

pub record CanTryJoins (a : Acted) : Type 0 where
  pub few : HoldFew a.controller
  pub each : EachCanBeTried a (flat_map inputs_at a.controller.ports)

-- *A change of routes* is begun: each join can be taken back
abbrev pub EachCanBeTakenBack : Acted → List Join → Type 0
EachCanBeTakenBack a [] = Unit {0}
EachCanBeTakenBack a (join ∷ joins) = CanTakeBack a join.input (output_joined join) × EachCanBeTakenBack (takes_join_back a join) joins

abbrev pub CanBeginChange : Acted → RouteChange → Type 0
CanBeginChange a change = a.controller.is_begun ≡ false → EachCanBeTakenBack (with_begun a) (changed_joins a.controller change)

-- and the changes that wait, one after the other
abbrev pub EachCanBeTaken : Acted → List RouteChange → Type 0
EachCanBeTaken a [] = Unit {0}
EachCanBeTaken a (change ∷ later) =
    HasGrants a.controller
    × CanBeginChange a change
    × (may_take (begins_change a change).controller change ≡ true → EachCanBeTaken (takes_change (begins_change a change) change later) later)

abbrev pub CanTakeChanges : Acted → Type 0
CanTakeChanges a = a.controller.has_met ≡ true → EachCanBeTaken a a.controller.waiting

-- *A tick* of each port in turn
abbrev pub EachCanTickOn : Acted → List PortNo → Type 0
EachCanTickOn a [] = Unit {0}
EachCanTickOn a (port ∷ ports) = CanWorkOn a port port_ticks.ticks × EachCanTickOn (ticks_port a port) ports

-- what stands is sent again in Estab: 32 marks are left
abbrev pub CanSendAgain : Acted → Type 0
CanSendAgain a = is_estab a.controller.adjacency.state ≡ true → a.numbers.controls + 32 < 2 ^ 64

-- behind the answer of the adjacency with the switch
pub record CanTickOn (a : Acted) (answer : Answer Greeting Party) : Type 0 where
  pub follow : CanFollow a answer
  pub again : CanSendAgain (answers a answer)
  pub ports : EachCanTickOn (sends_again (answers a answer)) (ports_of (sends_again (answers a answer)).controller)
  pub joins : CanTryJoins (ticks_ports (sends_again (answers a answer)))

-- whose reset ends the tick
abbrev pub CanTickWith : Acted → Step Party → Answer (Said Party) Party → Type 0
CanTickWith a step replies.Reset = CanResetNode a
CanTickWith a step answer = CanTickOn (turned_to a step) (gsmp_answer step.answer)

abbrev pub CanTick : Acted → Type 0
CanTick a = CanTickWith a (ticked a.controller.adjacency) (ticked a.controller.adjacency).answer
