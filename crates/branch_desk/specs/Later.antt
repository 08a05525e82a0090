-- What a desk may be made to do, until it begins anew.

use Rattle.std.specs.Prelude.{ℕ, Bool, ◌==◌, List, [], ◌∷◌}
use Rattle.std.specs.List.{list_any}
use Rattle.gsmp_wire.specs.declared.message.Message.{Message}
use Rattle.gsmp_wire.specs.declared.request.Request.{Request}
use Rattle.port_model.specs.Desk.{Desk, Standing, asked}
use Rattle.port_model.specs.DeskAnswers.{answered, after_answer, without_request}

pub data Call : Type 0 where
  Ask : Request → Call
  Withdraw : Standing → Call
  Answer : Message → Call

abbrev pub after_call : Desk → Call → Desk
after_call desk (Ask request) = asked desk request
after_call desk (Withdraw s) = without_request desk s
after_call desk (Answer message) = after_answer desk (answered desk message)

abbrev pub after_calls : Desk → List Call → Desk
after_calls desk [] = desk
after_calls desk (call ∷ calls) = after_calls (after_call desk call) calls

-- a request stands under the number
abbrev pub stands_under : (number : ℕ) → Desk → Bool
stands_under number desk = list_any (λ s. s.number == number) desk.standing
