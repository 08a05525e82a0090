-- what a frame for others leaves of a port

use Rattle.std.proofs.Common.{◌≡◌, List, Option, None, Some, Result, refl, ◌⊎◌, inl, inr}
use Rattle.std.specs.Prelude.{Ok, Err}
use Rattle.world_model.specs.Words.{PortNo, Mark, Party, Said, Answer, Quiet, Send, Open, greeting_of, gsmp_answer, gsmp_received, Linked, linked_at, empty_desk, with_desk, asks, meets, says_gsmp, gsmp_holds, answer_comes, ForGsmp, ForDefault, ForLabel, frame_holds, default_unwrapped, unwrapped, default_channel}
use Rattle.world_model.specs.Controller.{Acted}
use Rattle.world_model.specs.Cells.{Taker}
use Rattle.world_model.specs.Gsmp.{answers, steps, message_comes}
use Rattle.world_model.specs.adjacency_table.Side as sides
use Rattle.world_model.specs.adjacency_table.declared.message.Answer.TheVariants.{Reset}
use Rattle.world_model.specs.gsmp_wire.Fields.{decoded as gsmp_decoded}
use Rattle.world_model.specs.gsmp_wire.Layout.{octets_of as gsmp_octets}
use Rattle.world_model.specs.gsmp_wire.declared.fault.Fault.{Fault}
use Rattle.world_model.specs.gsmp_wire.declared.message.Message.{Message}
use Rattle.world_model.specs.gsmp_wire.declared.message.Message.TheVariants as messages
use Rattle.world_model.specs.gsmp_wire.declared.request.Request.TheVariants.{AllPorts}
use Rattle.law_live_others.specs.Law.{LeavesAlike, IsUp, IsSettled, IsForOthers, FramesForOthersAreUnseen}
use Rattle.law_live_others.proofs.Leaving.{Terms, Leaves, leaves_same, leaves_then, to_alike}
use Rattle.law_live_others.proofs.Working.{node_leaves, control_leaves, asks_leaves}
use Rattle.law_live_others.proofs.Holding.{label_leaves, other_default, unheard_default}
use Rattle.law_live_others.proofs.Settling.{ArePlaced, settled, anyhow}
use Rattle.law_live_others.proofs.Answering.{answer_leaves}

-- *The adjacency with the switch* answers
module _ (t : Terms) where
  meets_leaves : (a : Acted) → Leaves t a (meets a)
  meets_leaves a = leaves_then t a (with_desk a empty_desk) (meets a) (leaves_same t a (with_desk a empty_desk) refl refl refl) (asks_leaves t (with_desk a empty_desk) AllPorts)

  turns_leaves : (a : Acted) (answer : Answer (Said Party) Party) → Leaves t a (answers a (gsmp_answer answer))
  turns_leaves a Quiet = leaves_same t a a refl refl refl
  turns_leaves a (Send m) = control_leaves t a default_channel (gsmp_octets (messages.Adjacency (greeting_of m)))
  turns_leaves a (Open None own) = meets_leaves a
  turns_leaves a (Open (Some m) own) =
      let b : Acted = says_gsmp a (messages.Adjacency (greeting_of m)) in
      leaves_then t a b (meets b) (control_leaves t a default_channel (gsmp_octets (messages.Adjacency (greeting_of m)))) (meets_leaves b)
  turns_leaves a Reset = node_leaves t a

-- *On the GSMP channel*, to a settled port
module _ (port : PortNo) (a : Acted) (placed : ArePlaced a.controller.ports) (is : (linked : Linked) → linked_at a.controller port ≡ Some linked → IsSettled linked.port) where
  steps_alike : (step : sides.Step Party) → IsUp (steps a step) → LeavesAlike port a (steps a step)
  steps_alike step up =
      let turned : Acted = record a { controller = record a.controller { adjacency = step.side } } in
      let left : LeavesAlike port turned (steps a step) = to_alike (settled port) turned (steps a step) (turns_leaves (settled port) turned step.answer) up placed is in
      record { left = left.left; address = left.address }

  answer_alike : (message : Message) → IsUp (answer_comes a message) → LeavesAlike port a (answer_comes a message)
  answer_alike message up = to_alike (settled port) a (answer_comes a message) (answer_leaves port a message) up placed is

  message_alike : (message : Message) → IsUp (message_comes a message) → LeavesAlike port a (message_comes a message)
  message_alike (messages.Adjacency greeting) up = steps_alike (gsmp_received a.controller.adjacency greeting) up
  message_alike (messages.Branch kind result code number session input_port input output_port output branches priority) up =
      answer_alike (messages.Branch kind result code number session input_port input output_port output branches priority) up
  message_alike (messages.Move result code number session input_port input output_port output target_port target branches priority) up =
      answer_alike (messages.Move result code number session input_port input output_port output target_port target branches priority) up
  message_alike (messages.Port result code number port_named session function) up = answer_alike (messages.Port result code number port_named session function) up
  message_alike (messages.AllPorts result code number rows) up = answer_alike (messages.AllPorts result code number rows) up

  gsmp_alike : (r : Result Message Fault) → IsUp (gsmp_holds a r) → LeavesAlike port a (gsmp_holds a r)
  gsmp_alike (Ok message) up = message_alike message up
  gsmp_alike (Err fault) up = to_alike (settled port) a (gsmp_holds a (Err fault)) (leaves_same (settled port) a (gsmp_holds a (Err fault)) refl refl refl) up placed is

pub frames_for_others : FramesForOthersAreUnseen
frames_for_others port a ForGsmp mark payload for_others up = gsmp_alike port a for_others.0 for_others.1 (gsmp_decoded payload) up
frames_for_others port a (ForDefault linked) mark payload (inl differs) up =
    to_alike (anyhow port) a (frame_holds a (ForDefault linked) mark payload) (other_default (anyhow port) linked.setup.port differs a mark (default_unwrapped payload)) up tt (λ l found. tt)
frames_for_others port a (ForDefault linked) mark payload (inr unheard) up =
    to_alike (anyhow port) a (frame_holds a (ForDefault linked) mark payload) (unheard_default (anyhow port) a linked.setup.port mark (default_unwrapped payload) unheard) up tt (λ l found. tt)
frames_for_others port a (ForLabel linked label) mark payload for_others up =
    to_alike (anyhow port) a (frame_holds a (ForLabel linked label) mark payload) (label_leaves (anyhow port) a linked label mark (unwrapped label.flow payload)) up tt (λ l found. tt)
