-- what a controller does beside the rules of its ports, for each way in which one controller follows another

use Rattle.std.proofs.Common.{◌≡◌, true, List, [], ◌∷◌, ◌++◌, None, Some, refl, map, fold, if◌then◌else◌}
use Rattle.std.specs.Prelude.{flat_map}
use Rattle.law_arrival_views.specs.world_model.Words.{PortNo, End, Party, RouteChange, Answer, Quiet, Send, Open, Greeting, Step, is_estab, gsmp_answer, Request, AddBranch, empty_desk, sent_again, with_desk, default_end, default_home, says_gsmp, node_resets, sends_request, asks, takes_back, changed_joins, takes_join_back, begins_change, takes_change, may_take, takes_each, takes_changes, change_comes, meets, up_ports, empties, default_branches, ends_meeting, has_emptied, behind_delete_all, sends_again}
use Rattle.law_arrival_views.specs.world_model.adjacency_table.declared.message.Answer.TheVariants.{Reset}
use Rattle.law_arrival_views.specs.world_model.gsmp_wire.declared.request.Request.TheVariants.{DeleteAll, AllPorts}
use Rattle.law_arrival_views.specs.world_model.gsmp_wire.declared.message.Message.{Message}
use Rattle.law_arrival_views.specs.world_model.gsmp_wire.declared.message.Message.TheVariants.{Adjacency}
use Rattle.law_arrival_views.specs.world_model.port_model.Desk.{message_at}
use Rattle.law_label_steps.proofs.law_port_facts.Keyed.{on_both}
use Rattle.law_arrival_views.specs.world_model.Controller.{Acted}
use Rattle.law_arrival_views.specs.world_model.Joins.{output_joined}
use Rattle.law_arrival_views.specs.world_model.Gsmp.{answers, steps}

-- *One controller follows another*: itself, on from one that follows, where nothing changes that bears on ports, frames
-- or numbers, and by the smallest things that are done
pub record IsFollowed (R : Acted → Acted → Type 0) : Type 0 where
  pub itself : (a : Acted) → R a a
  pub further : (a b c : Acted) → R a b → R b c → R a c
  pub alike : (a b : Acted) → b.notes.frames ≡ a.notes.frames → b.numbers ≡ a.numbers → b.controller.ports ≡ a.controller.ports → b.controller.address ≡ a.controller.address
      → b.controller.node ≡ a.controller.node → b.controller.queue ≡ a.controller.queue → R a b
  pub says : (a : Acted) (message : Message) → R a (says_gsmp a message)
  pub resets : (a : Acted) → R a (node_resets a)
  pub asked : (a : Acted) (request : Request) → R a (asks a request)
  pub led_back : (a : Acted) (input output : End) → R a (takes_back a input output)

module _ (R : Acted → Acted → Type 0) (f : IsFollowed R) where
  pub on_fold : {A : Type 0} (g : Acted → A → Acted) → ((a : Acted) (x : A) → R a (g a x)) → (xs : List A) (a : Acted) → R a (fold g a xs)
  on_fold g each [] a = f.itself a
  on_fold g each (x ∷ xs) a = f.further a (g a x) (fold g (g a x) xs) (each a x) (on_fold g each xs (g a x))

  -- *The adjacency with the switch*, and meeting it
  meets_follow : (a : Acted) → R a (meets a)
  meets_follow a = f.further a (with_desk a empty_desk) (meets a) (f.alike a (with_desk a empty_desk) refl refl refl refl refl refl) (f.asked (with_desk a empty_desk) AllPorts)

  answers_follow : (a : Acted) (answer : Answer Greeting Party) → R a (answers a answer)
  answers_follow a Quiet = f.itself a
  answers_follow a (Send greeting) = f.says a (Adjacency greeting)
  answers_follow a (Open None own) = meets_follow a
  answers_follow a (Open (Some greeting) own) = f.further a (says_gsmp a (Adjacency greeting)) (meets (says_gsmp a (Adjacency greeting))) (f.says a (Adjacency greeting)) (meets_follow (says_gsmp a (Adjacency greeting)))
  answers_follow a Reset = f.resets a

  pub steps_follow : (a : Acted) (step : Step Party) → R a (steps a step)
  steps_follow a step =
      let turned : Acted = record a { controller = record a.controller { adjacency = step.side } } in
      f.further a turned (steps a step) (f.alike a turned refl refl refl refl refl refl) (answers_follow turned (gsmp_answer step.answer))

  pub empties_follow : (a : Acted) → R a (empties a)
  empties_follow a = on_fold asks f.asked (map DeleteAll (record { 0 = 0 } ∷ up_ports a.controller)) a

  pub ends_meeting_follow : (a : Acted) → R a (ends_meeting a)
  ends_meeting_follow a =
      let met : Acted = record a { controller = record a.controller { has_met = true } } in
      f.further a met (ends_meeting a) (f.alike a met refl refl refl refl refl refl) (on_fold asks f.asked (flat_map default_branches (up_ports a.controller)) met)

  pub behind_follow : (a : Acted) (port : PortNo) → R a (behind_delete_all a port)
  behind_follow a port = on_both (R a) a.controller.has_met (asks a (AddBranch (default_end port) (default_home port))) (if has_emptied a.controller then ends_meeting a else a)
      (f.asked a (AddBranch (default_end port) (default_home port))) (on_both (R a) (has_emptied a.controller) (ends_meeting a) a (ends_meeting_follow a) (f.itself a))

  pub sends_again_follow : (a : Acted) → R a (sends_again a)
  sends_again_follow a = on_both (R a) (is_estab a.controller.adjacency.state) (fold sends_request a (sent_again a.controller.desk)) a
      (on_fold sends_request (λ b s. f.says b (message_at b.controller.desk s)) (sent_again a.controller.desk) a) (f.itself a)

  -- *Changes of routes*
  begins_follow : (a : Acted) (change : RouteChange) → R a (begins_change a change)
  begins_follow a change =
      let begun : Acted = record a { controller = record a.controller { is_begun = true } } in
      on_both (R a) a.controller.is_begun a (fold takes_join_back begun (changed_joins a.controller change)) (f.itself a)
      (f.further a begun (fold takes_join_back begun (changed_joins a.controller change)) (f.alike a begun refl refl refl refl refl refl)
      (on_fold takes_join_back (λ b join. f.led_back b join.input (output_joined join)) (changed_joins a.controller change) begun))

  takes_follow : (a : Acted) (change : RouteChange) (later : List RouteChange) → R a (takes_change a change later)
  takes_follow a change later = f.alike a (takes_change a change later) refl refl refl refl refl refl

  each_follow : (changes : List RouteChange) (a : Acted) → R a (takes_each a changes)
  each_follow [] a = f.itself a
  each_follow (change ∷ later) a =
      let begun : Acted = begins_change a change in
      f.further a begun (takes_each a (change ∷ later)) (begins_follow a change)
      (on_both (R begun) (may_take begun.controller change) (takes_each (takes_change begun change later) later) begun
      (f.further begun (takes_change begun change later) (takes_each (takes_change begun change later) later) (takes_follow begun change later) (each_follow later (takes_change begun change later)))
      (f.itself begun))

  pub changes_follow : (a : Acted) → R a (takes_changes a)
  changes_follow a = on_both (R a) a.controller.has_met (takes_each a a.controller.waiting) a (each_follow a.controller.waiting a) (f.itself a)

  pub change_follows : (a : Acted) (change : RouteChange) → R a (change_comes a change)
  change_follows a change =
      let waits : Acted = record a { controller = record a.controller { waiting = a.controller.waiting ++ change ∷ [] } } in
      f.further a waits (change_comes a change) (f.alike a waits refl refl refl refl refl refl) (changes_follow waits)
