-- What a switch asks of a request, beside the branch that it speaks of

use Rattle.std.specs.Prelude.{◌≡◌, ℕ, ◌<◌, ◌*◌, true, false, List, ◌∷◌, map, Some}
use Rattle.std.specs.List.{list_all, list_any}
use Rattle.world_model.specs.Words.{End, IsLinkPort, PortRow, Request, session_of, is_connectable, Switch, control_port, numbers_of, has_port, named_ends, named_ports, names_session, used_ports, is_gsmp, asked_in, Setup}
use Rattle.world_model.specs.Switch.{is_up}
use Rattle.world_model.specs.gsmp_wire.declared.message.Message.{Message}
use Rattle.world_model.specs.switch_model.declared.port.PortState.{PortState}
use Rattle.world_model.specs.switch_model.declared.request.Asked.{Asked}
use Rattle.law_port_facts.specs.ordered_lists.Ordered.{Every}
use Rattle.law_input_steps.specs.Asking.{IsAsked}

-- *A request is fit* for the switch: it is one that a controller asks, of ports that the switch has and that are up, in the
-- session of the first, and of channels that it connects
pub record IsFit (s : Switch) (asked : Asked) : Type 0 where
  pub is_asked : IsAsked asked.request
  pub ports : list_all (has_port s.ports) (named_ports asked.request) ≡ true
  pub session : names_session s.ports asked.session (named_ports asked.request) ≡ true
  pub up : list_all (is_up s.ports) (used_ports asked.request) ≡ true
  pub channels : list_all (is_connectable (numbers_of s.ports) s.vpis) (named_ends asked.request) ≡ true

-- *A switch as its controller knows it*: it has the control port and the ports of the links, all up; the records tell the session
-- of each; and it connects the paths of all labels
pub record IsKnown (setups : List Setup) (rows : List PortRow) (s : Switch) : Type 0 where
  pub numbers : numbers_of s.ports ≡ control_port ∷ map (λ (setup : Setup). setup.port) setups
  pub links : Every (λ (setup : Setup). IsLinkPort setup.port) setups
  pub up : Every (λ (state : PortState). state.is_up ≡ true) s.ports
  pub sessions : Every (λ (state : PortState). session_of rows state.number ≡ state.session) s.ports
  pub paths : Every (λ (setup : Setup). setup.greatest < 1024 * s.vpis) setups

-- it doesn't name the channel of GSMP, which no switch connects
abbrev pub NamesNoGsmp : Request → Type 0
NamesNoGsmp request = list_any (λ (end : End). is_gsmp end.port end.channel) (named_ends request) ≡ false

-- *A message asks* this, and that is fit
pub record AsksFit (s : Switch) (message : Message) (request : Request) : Type 0 where
  pub session : ℕ
  pub is : asked_in message ≡ Some (record { session = session; request = request })
  pub fit : IsFit s (record { session = session; request = request })
