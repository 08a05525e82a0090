-- an ACK and a success, to a controller that asks for joins alone

use Rattle.std.proofs.Common.{◌≡◌, ◌≢◌, ℕ, Bool, true, false, true≢false, List, Option, None, Some, Result, Ok, Err, refl, sym, ◌∙◌, ap, subst, arith, if◌then◌else◌}
use Rattle.std.specs.Prelude.{◌==◌, ◌&&◌, find}
use Rattle.std.proofs.lemmas.Bool.Decides.{nat_tests}
use Rattle.world_model.specs.Words.{Ack, Rstack, Party, Request, Standing, Unknown, Failed, is_of_type, succeeded, outcome}
use Rattle.world_model.specs.Controller.{Acted}
use Rattle.world_model.specs.port_model.DeskAnswers.{Head}
use Rattle.world_model.specs.switch_model.Requests.{result_of}
use Rattle.world_model.specs.gsmp_wire.Fields.{decoded}
use Rattle.world_model.specs.gsmp_wire.declared.fault.Fault.{Fault}
use Rattle.world_model.specs.gsmp_wire.declared.message.Message.{Message}
use Rattle.world_model.specs.gsmp_wire.declared.message.Message.TheVariants as messages
use Rattle.law_port_facts.proofs.Found.{find_passes, find_every}
use Rattle.law_live_numbers.specs.Law.{IsJoinMade, IsHarmlessAnswer, IsHarmlessMessage, IsHarmless}
use Rattle.law_live_control.specs.Calm.{IsCalmUp, greets_controller, answers_controller}
use Rattle.law_live_answers.specs.Law.{IsJoin, AsksJoinsAlone, CalmMessagesAreHarmless, CalmFramesAreHarmless}

is_success : (result : ℕ) → result ≡ 3 → (result == 3) ≡ true
is_success result e = grind (arith, nat_tests, e)

not_both : (n : ℕ) → n ≡ 0 → n ≡ 3 → ⊥
not_both n zero three = omega (arith, zero, three)

second : (a b : Bool) → (a && b) ≡ true → b ≡ true
second true b e = e
second false b e = absurd (cc e)

module _ (a : Acted) (asks : AsksJoinsAlone a) where
  abbrev standing : List Standing
  standing = a.controller.desk.standing

  -- a request that stands is for a join, and no answer to one holds ports
  made : (test : Standing → Bool) (s : Standing) → find test standing ≡ Some s → IsJoinMade a s.request
  made test s found =
      let join : IsJoin s.request = find_every (λ (x : Standing). IsJoin x.request) test standing s asks.joins found in
      record { input = join.input; from = join.from; to = join.to; is = join.is; to_link = join.to_link; none_waits = asks.none_waits; unspent = asks.unspent }

  no_ports : (message : Message) (number : ℕ) → ((request : Request) → IsJoin request → is_of_type message request ≡ false) → (s : Standing)
      → find (λ (x : Standing). (x.number == number) && is_of_type message x.request) standing ≡ Some s → ⊥
  no_ports message number none s found =
      let test : Standing → Bool = λ x. (x.number == number) && is_of_type message x.request in
      let join : IsJoin s.request = find_every (λ (x : Standing). IsJoin x.request) test standing s asks.joins found in
      true≢false (sym (second (s.number == number) (is_of_type message s.request) (find_passes test standing s found)) ∙ none s.request join)

  -- *A success* is harmless, if what it succeeds in is
  success : (message : Message) (head : Head) → head.result ≡ 3 → (o : Option Standing) → ((s : Standing) → o ≡ Some s → IsHarmlessAnswer a (succeeded message s))
      → IsHarmlessAnswer a (outcome message head o)
  success message head is None each = tt
  success message head is (Some s) each =
      subst (λ (b : Bool). IsHarmlessAnswer a (if b then succeeded message s else (if head.result == 4 then Failed s head.code else Unknown))) (sym (is_success head.result is)) (each s refl)

  by_message : (message : Message) → result_of message ≡ 3 → IsHarmlessMessage a message
  by_message (messages.Adjacency greeting) is = absurd (not_both (result_of (messages.Adjacency greeting)) refl is)
  by_message (messages.Branch kind result code number session input_port input output_port output branches priority) is =
      let message : Message = messages.Branch kind result code number session input_port input output_port output branches priority in
      let test : Standing → Bool = λ x. (x.number == number) && is_of_type message x.request in
      success message (record { result = result; code = code; number = number }) is (find test standing) (λ s found. made test s found)
  by_message (messages.Move result code number session input_port input output_port output target_port target branches priority) is =
      let message : Message = messages.Move result code number session input_port input output_port output target_port target branches priority in
      let test : Standing → Bool = λ x. (x.number == number) && is_of_type message x.request in
      success message (record { result = result; code = code; number = number }) is (find test standing) (λ s found. made test s found)
  by_message (messages.Port result code number port_named session function) is =
      let message : Message = messages.Port result code number port_named session function in
      let test : Standing → Bool = λ x. (x.number == number) && is_of_type message x.request in
      success message (record { result = result; code = code; number = number }) is (find test standing) (λ s found. made test s found)
  by_message (messages.AllPorts result code number rows) is =
      let message : Message = messages.AllPorts result code number rows in
      let test : Standing → Bool = λ x. (x.number == number) && is_of_type message x.request in
      success message (record { result = result; code = code; number = number }) is (find test standing)
      (λ s found. absurd (no_ports message number (λ request join. ap (is_of_type message) join.is) s found))

  calm : (controller switch : Party) (message : Message) → IsCalmUp controller switch message → IsHarmlessMessage a message
  calm controller switch message greets_controller = ack_apart
    where
      ack_apart : Ack ≢ Rstack
      ack_apart e = cc e
  calm controller switch message (answers_controller answer is) = by_message answer is

  read : (controller switch : Party) (r : Result Message Fault) → ((message : Message) → r ≡ Ok message → IsCalmUp controller switch message) → IsHarmless a r
  read controller switch (Ok message) calmly = calm controller switch message (calmly message refl)
  read controller switch (Err fault) calmly = tt

pub calm_messages_are_harmless : CalmMessagesAreHarmless
calm_messages_are_harmless a controller switch message asks is = calm a asks controller switch message is

pub calm_frames_are_harmless : CalmFramesAreHarmless
calm_frames_are_harmless a controller switch payload asks calmly = read a asks controller switch (decoded payload) calmly
