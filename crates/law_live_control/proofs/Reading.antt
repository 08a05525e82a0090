-- what is read in the octets of a message has its kind and its Result, and an ACK is read as it is

use Rattle.std.proofs.Common.{◌≡◌, ℕ, Option, None, Some, Result, Ok, Err, refl, sym, ◌∙◌, ap, subst}
use Rattle.std.specs.Prelude.{◌==◌}
use Rattle.gsmp_wire.specs.declared.fault.Fault.{Fault}
use Rattle.gsmp_wire.specs.declared.message.Message.{Message}
use Rattle.gsmp_wire.specs.declared.message.Message.TheVariants.{Adjacency, Branch, Move, Port, AllPorts}
use Rattle.gsmp_wire.specs.Fields.{decoded, message_in}
use Rattle.gsmp_wire.specs.Layout.{message_octets, octets_of}
use Rattle.gsmp_wire.specs.Refusal.{refusal, type_of}
use Rattle.gsmp_wire.proofs.Decoding.{decoded_accepted, decoded_refused}
use Rattle.gsmp_wire.proofs.Reading.{kind_of, type_again, type_at, read_again}
use Rattle.live_model.specs.world_model.Words.{Party, FitsParty}
use Rattle.live_model.specs.world_model.switch_model.Requests.{result_of}
use Rattle.law_live_control.specs.Calm.{ack, IsCalmDown, greets_switch, asks_switch, IsCalmUp, greets_controller, answers_controller}
use Rattle.law_live_control.specs.Law.{CalmIsRead}

abbrev pub found : Message → Message
found message = message_in (kind_of message) (message_octets message)

same_message : (m n : Message) → ◌≡◌ {A = Result Message Fault} (Ok m) (Ok n) → n ≡ m
same_message m n e = cc

no_message : (fault : Fault) (n : Message) → ◌≡◌ {A = Result Message Fault} (Err fault) (Ok n) → ⊥
no_message fault n e = cc

pub read_as : (message read : Message) → decoded (octets_of message) ≡ Ok read → read ≡ found message
read_as message read is = by (refusal (octets_of message)) refl
  where
    by : (o : Option Fault) → refusal (octets_of message) ≡ o → read ≡ found message
    by None none = same_message (found message) read
        (sym (decoded_accepted (octets_of message) (kind_of message) none (ap type_of (type_at message) ∙ type_again (kind_of message))) ∙ is)
    by (Some fault) some = absurd (no_message fault read (sym (decoded_refused (octets_of message) fault some) ∙ is))

-- the Result
result_again : (message : Message) → result_of (found message) ≡ result_of message
result_again (Adjacency greeting) = refl
result_again (Branch kind result code transaction session input_port input output_port output branches priority) = refl
result_again (Move result code transaction session input_port input output_port output target_port target branches priority) = refl
result_again (Port result code transaction port session function) = refl
result_again (AllPorts result code transaction rows) = refl

result_read : (message read : Message) → decoded (octets_of message) ≡ Ok read → result_of read ≡ result_of message
result_read message read is = ap result_of (read_as message read is) ∙ result_again message

-- an ACK
ack_read : (own far : Party) (read : Message) → FitsParty own → FitsParty far → decoded (octets_of (ack own far)) ≡ Ok read → read ≡ ack own far
ack_read own far read fits far_fits is = read_as (ack own far) read is ∙ read_again (ack own far) (fits, far_fits)

down : (controller switch : Party) (message read : Message) → FitsParty controller → FitsParty switch
    → IsCalmDown controller switch message → decoded (octets_of message) ≡ Ok read → IsCalmDown controller switch read
down controller switch message read fits far greets_switch is =
    subst (IsCalmDown controller switch) (sym (ack_read controller switch read fits far is)) greets_switch
down controller switch message read fits far (asks_switch asked request) is = asks_switch read (ap (λ (n : ℕ). n == 2) (result_read asked read is) ∙ request)

up : (controller switch : Party) (message read : Message) → FitsParty controller → FitsParty switch
    → IsCalmUp controller switch message → decoded (octets_of message) ≡ Ok read → IsCalmUp controller switch read
up controller switch message read fits far greets_controller is =
    subst (IsCalmUp controller switch) (sym (ack_read switch controller read far fits is)) greets_controller
up controller switch message read fits far (answers_controller answer success) is = answers_controller read (result_read answer read is ∙ success)

pub calm_is_read : CalmIsRead
calm_is_read = record { down = down; up = up }
