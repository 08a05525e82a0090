-- What a few changes of a controller and each change of routes that is taken keep, a change that comes keeps, and so do
-- the messages of the switch

use Rattle.std.proofs.Common.{◌≡◌, ℕ, List, [], ◌∷◌, map, ◌++◌, refl, ◌∙◌}
use Rattle.world_model.specs.Words.{RouteChange, Request, is_estab, gsmp_received, Desk, Answered, Unknown, Done, Ports, Failed, answered, after_answer, Action, Setup, Work, with_desk, releases, begins_change, takes_change, may_take, takes_each, takes_changes, change_comes, up_ports, causes_in_estab, causes, clears_port, clears, takes_answer, answer_comes, Channel, Greeting, Mark, next_control, with_control, Loss, PoolFull, noted, frame_cells, made, Controller, sends_control}
use Rattle.world_model.specs.gsmp_wire.declared.message.Message.{Message}
use Rattle.world_model.specs.gsmp_wire.declared.message.Message.TheVariants as messages
use Rattle.world_model.specs.gsmp_wire.declared.request.Request.TheVariants.{DeleteAll}
use Rattle.law_port_facts.proofs.Keyed.{on_both}
use Rattle.world_model.specs.Controller.{Acted, ports_of}
use Rattle.world_model.specs.Meeting.{takes_success}
use Rattle.world_model.specs.Gsmp.{message_comes}
use Rattle.std.specs.Prelude.{nat_le}
use Rattle.std.proofs.Common.{length}
use Rattle.world_model.specs.frame_model.Sending.{Sender}
use Rattle.world_model.specs.Controller.{free_slots}
use Rattle.world_model.specs.Sending.{with_cells, sends}
use Rattle.law_rule_walks.proofs.Ports.{IsAsked}
use Rattle.law_rule_walks.proofs.Controllers.{Keeps, AsksOnlyAt, asks_only_works, fold_kept, node_resets_kept, asks_each_kept, releases_kept, begins_change_kept, causes_in_kept, clears_kept, steps_kept}

-- *The changes that wait* stay until one is taken
sends_waits : (a : Acted) (channel : Channel) (mark : Mark) (payload : List ℕ) → (sends a channel mark payload).controller.waiting ≡ a.controller.waiting
sends_waits a channel mark payload = on_both (λ (s : Sender Controller). s.queues.waiting ≡ a.controller.waiting) (nat_le (length (frame_cells channel mark payload)) (free_slots a.controller))
    (record { queues = with_cells a.controller (frame_cells channel mark payload); notes = made a.notes mark payload })
    (record { queues = a.controller; notes = noted (made a.notes mark payload) (Loss mark PoolFull) }) refl refl

control_waits : (a : Acted) (channel : Channel) (payload : List ℕ) → (sends_control a channel payload).controller.waiting ≡ a.controller.waiting
control_waits a channel payload = sends_waits (record a { numbers = with_control a.numbers }) channel (next_control a.numbers) payload

abbrev Waits : List RouteChange → Acted → Type 0
Waits changes a = a.controller.waiting ≡ changes

waits : (changes : List RouteChange) → Keeps (Unit {0}) (Waits changes) (AsksOnlyAt (Unit {0})) (IsAsked (Unit {0}))
waits changes = record {
  beginning = λ a linked found h. tt;
  working = asks_only_works;
  asking = λ setup desk w asks. asks;
  placing = λ a linked w found asks h. h;
  clearing = λ a linked found may h. h;
  saying = λ setup a message is h. control_waits a _ _ ∙ h;
  noting = λ setup a item is h. h;
  withdrawing = λ setup a input is h. h;
  parting = λ a input h. h;
  telling = λ a message h. control_waits a _ _ ∙ h;
  requesting = λ a request estab room h. h;
  resetting = λ a h. h;
  emptying = λ a h. h;
  meeting = λ a h. h;
  cutting_label = λ a linked label found h. h;
  cutting_default = λ a linked found h. h;
  cutting_gsmp = λ a h. h;
  changing = λ a h. h;
}

module _ {Binds : Type 0} {P : Acted → Type 0} {K : Setup → Desk → Work → Type 0} {A : Setup → Action → Type 0} (k : Keeps Binds P K A)
    (takes : (a : Acted) (change : RouteChange) (later : List RouteChange) → a.controller.waiting ≡ change ∷ later → P a → P (takes_change a change later)) where
  takes_each_kept : (a : Acted) (changes : List RouteChange) → a.controller.waiting ≡ changes → P a → P (takes_each a changes)
  takes_each_kept a [] e h = h
  takes_each_kept a (change ∷ later) e h =
      let begun : Acted = begins_change a change in
      let b : P begun = begins_change_kept k a change h in
      on_both P (may_take begun.controller change) (takes_each (takes_change begun change later) later) begun
      (takes_each_kept (takes_change begun change later) later refl (takes begun change later (begins_change_kept (waits (change ∷ later)) a change e) b)) b

  pub takes_changes_kept : (a : Acted) → P a → P (takes_changes a)
  takes_changes_kept a h = on_both P a.controller.has_met (takes_each a a.controller.waiting) a (takes_each_kept a a.controller.waiting refl h) h

  -- it waits behind the others
  pub change_comes_kept : (a : Acted) (change : RouteChange) → P (record a { controller = record a.controller { waiting = a.controller.waiting ++ change ∷ [] } }) → P (change_comes a change)
  change_comes_kept a change h = takes_changes_kept (record a { controller = record a.controller { waiting = a.controller.waiting ++ change ∷ [] } }) h

  -- *Where labels may be bound*, and an answer is taken from the desk
  module _ (binds : Binds) (answering : (a : Acted) (answer : Answered) → P a → P (with_desk a (after_answer a.controller.desk answer))) where
    done_kept : (a : Acted) (request : Request) → P a → P (takes_success a request)
    done_kept a request h =
        let released : Acted = releases a request in
        let caused : Acted = causes released request in
        let r : P released = releases_kept k a request h in
        takes_changes_kept (clears caused) (fold_kept P clears_port (clears_kept k) (ports_of caused.controller) caused
        (on_both P (is_estab released.controller.adjacency.state) (causes_in_estab released request) released (causes_in_kept k binds released request r) r))

    takes_kept : (a : Acted) (answer : Answered) → P a → P (takes_answer a answer)
    takes_kept a Unknown h = answering a Unknown h
    takes_kept a (Done s) h = done_kept (with_desk a (after_answer a.controller.desk (Done s))) s.request (answering a (Done s) h)
    takes_kept a (Ports s rows) h =
        let b : Acted = with_desk a (after_answer a.controller.desk (Ports s rows)) in
        asks_each_kept k (map DeleteAll (record { 0 = 0 } ∷ up_ports b.controller)) b (answering a (Ports s rows) h)
    takes_kept a (Failed s code) h = node_resets_kept k (with_desk a (after_answer a.controller.desk (Failed s code))) (answering a (Failed s code) h)

    answer_kept : (a : Acted) (message : Message) → P a → P (answer_comes a message)
    answer_kept a message h = takes_kept a (answered a.controller.desk message) h

    -- *What is read* of the switch, once the adjacency with it has heard a greeting
    pub told_kept : (a : Acted) (message : Message)
        → ((greeting : Greeting) → message ≡ messages.Adjacency greeting → P (record a { controller = record a.controller { adjacency = (gsmp_received a.controller.adjacency greeting).side } }))
        → P a → P (message_comes a message)
    told_kept a (messages.Adjacency greeting) turned h = steps_kept k a (gsmp_received a.controller.adjacency greeting) (turned greeting refl)
    told_kept a (messages.Branch kind result code number session input_port input output_port output branches priority) turned h =
        answer_kept a (messages.Branch kind result code number session input_port input output_port output branches priority) h
    told_kept a (messages.Move result code number session input_port input output_port output target_port target branches priority) turned h =
        answer_kept a (messages.Move result code number session input_port input output_port output target_port target branches priority) h
    told_kept a (messages.Port result code number port session function) turned h = answer_kept a (messages.Port result code number port session function) h
    told_kept a (messages.AllPorts result code number rows) turned h = answer_kept a (messages.AllPorts result code number rows) h
