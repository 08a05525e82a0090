-- What a controller asks is read by its switch as it was said, by the records that the controller keeps of the ports

use Rattle.std.specs.Prelude.{ℕ, ◌<◌, List}
use Rattle.law_controller.specs.world_model.Words.{Request, PortRow, last_transaction, message_of, Setup}
use Rattle.law_controller.specs.law_port_facts.Port.{IsShaped}
use Rattle.law_input_steps.specs.Asking.{IsReadable}

-- under each transaction number that it uses
abbrev pub AreRead : List Setup → List PortRow → Type 0
AreRead setups rows = (number : ℕ) (request : Request) → number < last_transaction → IsShaped setups request → IsReadable (message_of rows number request)
