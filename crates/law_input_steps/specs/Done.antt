-- When all that a controller does at a success may be done, once the switch is met, as the line of an input tells

use Rattle.std.specs.Prelude.{◌≡◌, true, false, List, [], ◌∷◌, fold, Option, None, Some}
use Rattle.law_input_views.specs.world_model.Words.{End, PortNo, number_of_channel, RouteChange, is_estab, Request, AddBranch, MoveBranch, DeleteTree, VerifyTree, PortManagement, Part as Parted, is_led_home, home_of, halts_if_spent, linked_at, default_end, default_home, join_of, parts, releases_input, released_inputs, resets_spent, releases, causes, clears, changed_joins, takes_join_back, begins_change, takes_change, may_take}
use Rattle.law_input_views.specs.world_model.gsmp_wire.declared.request.Request.TheVariants.{DeleteAll, AllPorts}
use Rattle.law_input_views.specs.world_model.port_model.Joins as port_joins
use Rattle.law_input_views.specs.world_model.port_model.Answers as port_answers
use Rattle.law_input_views.specs.world_model.Controller.{Acted, ports_of, note}
use Rattle.law_input_views.specs.world_model.Joins.{Join, output_joined}
use Rattle.law_input_views.specs.world_model.Meeting.{request_port}
use Rattle.law_input_steps.specs.Asking.{CanEach, MayAsk, CanApply}

-- *A release*: the label isn't joined any more, and the grant is given back
pub record CanPart (input : End) (a : Acted) (join : Join) : Type 0 where
  pub label : CanApply input (note a (Parted a.controller.node join.input.port (number_of_channel join.input.channel)))
      (λ setup desk w. port_joins.parted w (number_of_channel join.input.channel)) (linked_at a.controller join.input.port)
  pub grant : CanApply input (parts a join.input) (λ setup desk w. port_joins.given_back w join.grant) (linked_at (parts a join.input).controller join.port)

abbrev pub CanRelease : (input : End) → Acted → Option Join → Type 0
CanRelease input a None = Unit {0}
CanRelease input a (Some join) = CanPart input a join

abbrev pub CanReleaseInput : (input : End) → Acted → (joined : End) → Type 0
CanReleaseInput input a joined = CanRelease input a (join_of a.controller joined)

abbrev pub released : Acted → Request → Acted
released a request = fold releases_input a (released_inputs a.controller request)

abbrev pub CanSpend : (input : End) → Acted → PortNo → Type 0
CanSpend input a port = CanApply input a (λ setup desk w. halts_if_spent w) (linked_at a.controller port)

-- *What the answer causes*, where the switch is met
abbrev pub CanTell : (input : End) → Acted → Request → Option PortNo → Type 0
CanTell input a request None = Unit {0}
CanTell input a request (Some port) = CanApply input a (λ setup desk w. port_answers.done setup w request) (linked_at a.controller port)

pub record CanGiveBranch (input : End) (a : Acted) (port : PortNo) : Type 0 where
  pub met : a.controller.has_met ≡ true
  pub asks : MayAsk input a (AddBranch (default_end port) (default_home port))

abbrev pub CanCause : (input : End) → Acted → Request → Type 0
CanCause input a (DeleteAll port) = CanGiveBranch input a port
CanCause input a (AddBranch i o) = CanTell input a (AddBranch i o) (request_port (AddBranch i o))
CanCause input a (MoveBranch i from to) = CanTell input a (MoveBranch i from to) (request_port (MoveBranch i from to))
CanCause input a (DeleteTree i) = CanTell input a (DeleteTree i) (request_port (DeleteTree i))
CanCause input a (VerifyTree i) = CanTell input a (VerifyTree i) (request_port (VerifyTree i))
CanCause input a (PortManagement port function) = CanTell input a (PortManagement port function) (request_port (PortManagement port function))
CanCause input a AllPorts = Unit {0}

-- *Changes of routes*: the joins whose route changes are taken back
abbrev pub CanTakeBack : (input : End) → Acted → Join → Type 0
CanTakeBack input a join = is_led_home a.controller.desk join.input (home_of join.input) ≡ false → MayAsk input a (MoveBranch join.input (output_joined join) (home_of join.input))

abbrev pub begun : Acted → Acted
begun a = record a { controller = record a.controller { is_begun = true } }

abbrev pub CanBegin : (input : End) → Acted → RouteChange → Type 0
CanBegin input a change = a.controller.is_begun ≡ false → CanEach takes_join_back (CanTakeBack input) (begun a) (changed_joins a.controller change)

abbrev pub CanTakeEach : (input : End) → Acted → List RouteChange → Type 0
CanTakeEach input a [] = Unit {0}
CanTakeEach input a (change ∷ later) =
    CanBegin input a change
    × (may_take (begins_change a change).controller change ≡ true → CanTakeEach input (takes_change (begins_change a change) change later) later)

-- *A success*
pub record CanFinish (input : End) (a : Acted) (request : Request) : Type 0 where
  pub releases_each : CanEach releases_input (CanReleaseInput input) a (released_inputs a.controller request)
  pub spent : CanEach resets_spent (CanSpend input) (released a request) (ports_of (released a request).controller)
  pub causes_it : is_estab (releases a request).controller.adjacency.state ≡ true → CanCause input (releases a request) request
  pub changes : (clears (causes (releases a request) request)).controller.has_met ≡ true
      → CanTakeEach input (clears (causes (releases a request) request)) (clears (causes (releases a request) request)).controller.waiting
