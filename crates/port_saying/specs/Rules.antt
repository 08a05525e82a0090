-- A port at work, and how its rules end

use Rattle.std.specs.Prelude.{◌≡◌, ℕ, true, false, List, Result, Ok, Err}
use Rattle.port_model.specs.declared.action.Action.{Action}
use Rattle.port_model.specs.Port.{Port, Work}
use Rattle.port_saying.specs.declared.stop.Stop.{Stop}
use Rattle.port_saying.specs.declared.stop.Stop.TheVariants as stop

-- a port at work that hasn't asked to be reset, and one that has
abbrev pub begun : Port → List Action → (instances : ℕ) → Work
begun port actions instances = record { port = port; actions = actions; halted = false; instances = instances }

abbrev pub stopped : Port → List Action → (instances : ℕ) → Work
stopped port actions instances = record { port = port; actions = actions; halted = true; instances = instances }

-- a rule of the port is done; or it has asked to be reset, and does nothing more
abbrev pub Ends : {A : Type 0} → Result A Stop → Port → List Action → (instances : ℕ) → Work → Type 0
Ends (Ok _) port actions instances w = w ≡ begun port actions instances
Ends (Err stop.Reset) port actions instances w = w ≡ stopped port actions instances
Ends (Err (stop.OutOfMemory error)) port actions instances w = Unit {0}
