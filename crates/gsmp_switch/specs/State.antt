-- The ports of a switch and those of its exchange

use Rattle.std.specs.Prelude.{◌≡◌, ◌+◌, ◌<◌, ◌^◌, List, ◌∷◌, map, IfSome, Option, option_and_then}
use Rattle.net_types.specs.declared.node.PortNo.{PortNo}
use Rattle.link_model.specs.Notes.{Journal}
use Rattle.net_types.specs.Number.{GivenOut}
use Rattle.crossbar_model.specs.Channels.{ArePorts}
use Rattle.world_model.specs.switch_model.declared.port.PortState.{PortState}
use Rattle.gsmp_wire.specs.declared.request.Request.{Request}
use Rattle.gsmp_wire.specs.declared.request.Request.TheVariants.{PortManagement}
use Rattle.gsmp_wire.specs.declared.message.Message.{Message}
use Rattle.world_model.specs.gsmp_wire.declared.failure.Failure.{Failure}
use Rattle.world_model.specs.Failures.{failure_of}
use Rattle.world_model.specs.Requests.{asked_in}
use Rattle.world_model.specs.Switch.{ActedSwitch, Switch, control_port, state_of_port}

-- the control port, and then these ports of links
pub record AreStatesOf (states : List PortState) (linked : List PortNo) : Type 0 where
  pub numbers : map (λ state. state.number) states ≡ control_port ∷ linked
  pub are_ports : ArePorts linked

-- a switch in a run
abbrev pub acted : Switch → Journal → GivenOut → ActedSwitch
acted s notes numbers = record { switch = s; notes = notes; numbers = numbers }

-- why a switch refuses a request, if it does
abbrev pub refusal_of : Switch → Message → Option Failure
refusal_of s m = option_and_then (failure_of s.ports s.vpis s.crossbar.branches) (asked_in m)

-- the session of the port that a request manages isn't the last
abbrev pub CanRaise : List PortState → Request → Type 0
CanRaise states (PortManagement port function) = IfSome (state_of_port states port) (λ state. state.session + 1 < 2 ^ 32)
CanRaise states request = Unit {0}
