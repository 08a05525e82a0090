-- Before all ports are told to be up a controller hasn't met its switch, and no Delete All stands

use Rattle.std.specs.Prelude.{◌≡◌, true, false, List, map}
use Rattle.law_branch_shapes.specs.world_model.Words.{PortNo, PortRow, Request, Standing, Setup, Controller}
use Rattle.law_branch_shapes.specs.world_model.port_model.Messages.{is_up}
use Rattle.law_branch_shapes.specs.world_model.gsmp_wire.declared.request.Request.TheVariants.{DeleteAll}
use Rattle.law_frame_readings.specs.ordered_lists.Ordered.{Every}

-- these records tell that the ports are up
abbrev pub AreUp : List PortRow → List PortNo → Type 0
AreUp rows ports = Every (λ (port : PortNo). is_up rows port ≡ true) ports

pub data Mode : Type 0 where
  Told : Mode
  Untold : Mode

abbrev pub IsMild : Request → Type 0
IsMild (DeleteAll port) = ⊥
IsMild request = Unit {0}

abbrev pub IsMildStanding : Standing → Type 0
IsMildStanding s = IsMild s.request

abbrev pub Knows : List Setup → Mode → Controller → Type 0
Knows setups Told c = AreUp c.desk.rows (map (λ (setup : Setup). setup.port) setups)
Knows setups Untold c = (c.has_met ≡ false) × Every IsMildStanding c.desk.standing
