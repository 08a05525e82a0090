-- What an answer means, by its Result and by the request that it answers.

use Rattle.std.proofs.Common.{◌≡◌, ℕ, ◌==◌, ◌&&◌, Option, None, Some, List, find, refl, ◌∙◌}
use Rattle.gsmp_wire.specs.declared.message.Message.{Message}
use Rattle.gsmp_wire.specs.declared.message.Message.TheVariants as messages
use Rattle.gsmp_wire.specs.declared.rows.PortRow.{PortRow}
use Rattle.port_model.specs.Desk.{Desk, Standing}
use Rattle.port_model.specs.DeskAnswers.{Head, head_of, is_of_type, outcome, succeeded, answered}
use Rattle.port_model.specs.DeskAnswers.Answered.{Unknown, Done, Failed}

module _ (desk : Desk) (m : Message) (h : Head) (is : head_of m ≡ Some h) where
  answered_is : (o : Option Standing) → find (λ s. s.number == h.number && is_of_type m s.request) desk.standing ≡ o → answered desk m ≡ outcome m h o
  answered_is o e = rw (is, e) refl

  pub unknown_is : find (λ s. s.number == h.number && is_of_type m s.request) desk.standing ≡ None → answered desk m ≡ Unknown
  unknown_is e = answered_is None e

  module _ (s : Standing) (found : find (λ s. s.number == h.number && is_of_type m s.request) desk.standing ≡ Some s) where
    pub succeeded_is : h.result ≡ 3 → answered desk m ≡ succeeded m s
    succeeded_is e = answered_is (Some s) found ∙ (rw e refl)

    pub failed_is : h.result ≡ 4 → answered desk m ≡ Failed s h.code
    failed_is e = answered_is (Some s) found ∙ (rw e refl)

pub done_is : (m : Message) (s : Standing) → ((result code number : ℕ) (rows : List PortRow) → m ≡ messages.AllPorts result code number rows → ⊥) → succeeded m s ≡ Done s
done_is (messages.Adjacency greeting) s not_ports = refl
done_is (messages.Branch kind result code number session input_port input output_port output branches priority) s not_ports = refl
done_is (messages.Move result code number session input_port input output_port output target_port target branches priority) s not_ports = refl
done_is (messages.Port result code number port session function) s not_ports = refl
done_is (messages.AllPorts result code number rows) s not_ports = absurd (not_ports result code number rows refl)
