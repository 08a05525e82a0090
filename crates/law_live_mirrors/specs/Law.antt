-- A switch that mirrors its controller carries out what it is asked, and mirrors it still

use Rattle.std.specs.Prelude.{◌≡◌, ℕ, true, List, ◌∷◌, Some}
use Rattle.world_model.specs.Words.{End, PortNo, Cell, Greeting, PortRow, is_estab, Request, message_of, Desk, Switch, asked_in, is_request, Setup, Linked, switched_cell, tick_comes}
use Rattle.world_model.specs.gsmp_wire.declared.message.Message.{Message}
use Rattle.world_model.specs.gsmp_wire.declared.message.Message.TheVariants.{Adjacency}
use Rattle.world_model.specs.switch_model.declared.request.Asked.{Asked}
use Rattle.world_model.specs.port_model.Requests.{request_input}
use Rattle.world_model.specs.Switch.{ActedSwitch}
use Rattle.world_model.specs.Conduct.{message_heard}
use Rattle.law_port_facts.specs.Port.{IsShaped}
use Rattle.law_live_control.specs.Calm.{IsCarriedOut}
use Rattle.law_live_mirrors.specs.Mirrors.{Mirrors}
use Rattle.law_live_mirrors.specs.Fit.{IsFit, IsKnown, NamesNoGsmp, AsksFit}

-- *Requests are fit* for a switch as the controller knows it, where they have one of the shapes that a controller asks
abbrev pub RequestsAreFit : Type 0
RequestsAreFit = (setups : List Setup) (rows : List PortRow) (s : Switch) (number : ℕ) (request : Request) → IsKnown setups rows s
    → IsShaped setups request → NamesNoGsmp request → AsksFit s (message_of rows number request) request

-- *The first on its way comes to the switch*, in Estab: it is fit, and its input mirrors the controller
pub record Comes (ports : List Linked) (desk : Desk) (a : ActedSwitch) (message : Message) (asked : Asked) (way : List Request) : Type 0 where
  pub up : is_estab a.switch.adjacency.state ≡ true
  pub request : is_request message ≡ true
  pub asks : asked_in message ≡ Some asked
  pub fit : IsFit a.switch asked
  pub mirrors : (input : End) → request_input asked.request ≡ Some input
      → Mirrors ports desk a.switch.crossbar.branches (asked.request ∷ way) input

-- it is carried out; whatever is fit, is so still; and each input that mirrored the controller does so, with the others on their way
pub record IsHeard (ports : List Linked) (desk : Desk) (a after : ActedSwitch) (message : Message) (asked : Asked) (way : List Request) : Type 0 where
  pub carried : IsCarriedOut a.switch message
  pub fit : (other : Asked) → IsFit a.switch other → IsFit after.switch other
  pub mirrors : (input : End) → Mirrors ports desk a.switch.crossbar.branches (asked.request ∷ way) input
      → Mirrors ports desk after.switch.crossbar.branches way input

abbrev pub SwitchesCarryOut : Type 0
SwitchesCarryOut = (ports : List Linked) (desk : Desk) (a : ActedSwitch) (message : Message) (asked : Asked) (way : List Request)
    → Comes ports desk a message asked way → IsHeard ports desk a (message_heard a message) message asked way

-- *All else* that comes to a switch leaves it so: greetings, cells that it switches, and ticks
pub record LeadsSame (before after : Switch) : Type 0 where
  pub fit : (asked : Asked) → IsFit before asked → IsFit after asked
  pub mirrors : (ports : List Linked) (desk : Desk) (way : List Request) (input : End)
      → Mirrors ports desk before.crossbar.branches way input → Mirrors ports desk after.crossbar.branches way input

pub record SwitchesLeadSame : Type 0 where
  pub greetings : (a : ActedSwitch) (greeting : Greeting) → LeadsSame a.switch (message_heard a (Adjacency greeting)).switch
  pub cells : (a : ActedSwitch) (port : PortNo) (cell : Cell) → LeadsSame a.switch (switched_cell a port cell).switch
  pub ticks : (a : ActedSwitch) → LeadsSame a.switch (tick_comes a).switch
