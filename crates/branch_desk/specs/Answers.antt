-- What a desk answers, as the definitions of an answer's meaning have it.

use Rattle.std.specs.Prelude.{◌≡◌, ℕ, true, Option, None, Some}
use Rattle.gsmp_wire.specs.declared.message.Message.{Message}
use Rattle.port_model.specs.DeskAnswers.{head_of, is_of_type}
use Rattle.port_model.specs.DeskAnswers as meaning
use Rattle.port_model.specs.Desk.{Standing}
use Rattle.branch_desk.specs.declared.answered.Answered.{Answered}
use Rattle.branch_desk.specs.declared.answered.Answered.TheVariants.{Unknown, Done, Ports, Failed}

-- a failure tells the number of its request
abbrev pub told : meaning.Answered → Answered
told meaning.Unknown = Unknown
told (meaning.Done s) = Done s
told (meaning.Ports s rows) = Ports rows s
told (meaning.Failed s code) = Failed s.number code

-- the request that is done
abbrev pub done_of : Answered → Option Standing
done_of Unknown = None
done_of (Done s) = Some s
done_of (Ports rows s) = Some s
done_of (Failed number code) = None

-- the message is a success answer of the request's type, under its number
pub record IsDoneBy (message : Message) (s : Standing) : Type 0 where
  pub kind : is_of_type message s.request ≡ true
  pub code : ℕ
  pub head : head_of message ≡ Some (record { result = 3; code = code; number = s.number })
