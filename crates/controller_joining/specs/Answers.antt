-- What is asked of the controller where its switch answers, a change of routes comes, or a frame acts

use Rattle.std.specs.Prelude.{◌≡◌, ◌<◌, ◌+◌, ◌^◌, true, fold, length, None, Some}
use Rattle.net_types.specs.declared.node.PortNo.{PortNo}
use Rattle.ipv4_forward.specs.Change.{change_fault, changed}
use Rattle.ipv4_forward.specs.declared.change.RouteChange.{RouteChange}
use Rattle.adjacency_table.specs.Greeting.{gsmp_answer, gsmp_received}
use Rattle.adjacency_table.specs.Side.{is_estab}
use Rattle.gsmp_wire.specs.declared.message.Message.{Message}
use Rattle.gsmp_wire.specs.declared.message.Message.TheVariants.{Adjacency}
use Rattle.gsmp_wire.specs.declared.request.Request.{Request}
use Rattle.port_model.specs.DeskAnswers.{Answered, Unknown, Done, Ports, Failed, after_answer, answered}
use Rattle.port_model.specs.Answers as port_answers
use Rattle.controller_joins.specs.world_model.Controller.{Acted, with_desk}
use Rattle.controller_joins.specs.world_model.Joins.{releases}
use Rattle.controller_joins.specs.world_model.Meeting.{causes, clears, request_port}
use Rattle.controller_router.specs.Conditions.{CanFollow, CanResetNode, turned_to}
use Rattle.controller_router.specs.Engine.{CanBeDone}
use Rattle.controller_router.specs.Meeting.{CanCause, CanEmpty, with_change}
use Rattle.controller_joining.specs.Conditions.{CanRelease, CanTakeChanges, KeepsJoins}

-- *A success*: releases come first, then what the answer causes, then changes of routes
pub record CanFinish (a : Acted) (request : Request) : Type 0 where
  pub done : CanBeDone request
  pub release : CanRelease a request
  pub cause : is_estab (releases a request).controller.adjacency.state ≡ true → CanCause (releases a request) request
  pub keeps : (port : PortNo) → request_port request ≡ Some port → KeepsJoins (releases a request) port (λ setup desk w. port_answers.done setup w request)
  pub changes : CanTakeChanges (clears (causes (releases a request) request))

-- *An answer* of the switch
abbrev pub CanGoOnFrom : Acted → Answered → Type 0
CanGoOnFrom a Unknown = Unit {0}
CanGoOnFrom a (Done s) = CanFinish a s.request
CanGoOnFrom a (Ports s rows) = CanEmpty a
CanGoOnFrom a (Failed s code) = CanResetNode a

abbrev pub CanTakeAnswer : Acted → Answered → Type 0
CanTakeAnswer a answer = CanGoOnFrom (with_desk a (after_answer a.controller.desk answer)) answer

-- *A message* of the switch
abbrev pub CanBeTold : Acted → Message → Type 0
CanBeTold a (Adjacency greeting) = CanFollow (turned_to a (gsmp_received a.controller.adjacency greeting)) (gsmp_answer (gsmp_received a.controller.adjacency greeting).answer)
CanBeTold a message = CanTakeAnswer a (answered a.controller.desk message)

-- *A change of routes* comes, which the table takes after all that wait
pub record CanChange (a : Acted) (change : RouteChange) : Type 0 where
  pub taken : change_fault (fold changed a.controller.table a.controller.waiting) change ≡ None
  pub count : a.controller.changes + length a.controller.waiting + 1 < 2 ^ 32
  pub changes : CanTakeChanges (with_change a change)
