-- Requests that keep ways open, and what a switch makes of its default channels

use Rattle.std.specs.Prelude.{◌≡◌, ◌≤◌, true, false, List, Some}
use Rattle.world_model.specs.Words.{PortNo, End, is_label_channel, Request, AddBranch, MoveBranch, DeleteTree, Branches, Setup, home_of, default_end, default_home, asked_in, is_request, is_deleting, tick_comes}
use Rattle.world_model.specs.crossbar_model.Crossbar.{output_of}
use Rattle.world_model.specs.gsmp_wire.declared.message.Message.{Message}
use Rattle.world_model.specs.gsmp_wire.declared.request.Request.TheVariants.{AllPorts}
use Rattle.world_model.specs.switch_model.declared.request.Asked.{Asked}
use Rattle.world_model.specs.Switch.{ActedSwitch}
use Rattle.world_model.specs.Conduct.{message_heard}
use Rattle.law_run_facts.specs.law_port_facts.Port.{IsShaped}

-- *The channel of a label*, at the end of a link or on the control link of its node: VCI 32 to 1023
abbrev pub IsOfLabel : End → Type 0
IsOfLabel end = is_label_channel end.channel ≡ true

-- *Requests that keep ways open*: a port's default channel is opened, the channel of a label is led home, that of a grant is led
-- out, and a label is joined to another, parted from it, or freed
pub data KeepsWays : Request → Type 0 where
  asks_ports : KeepsWays AllPorts
  opens_input : (port : PortNo) → KeepsWays (AddBranch (default_end port) (default_home port))
  opens_output : (port : PortNo) → KeepsWays (AddBranch (default_home port) (default_end port))
  leads_label : (end : End) → IsOfLabel end → KeepsWays (AddBranch end (home_of end))
  leads_grant : (end : End) → IsOfLabel end → KeepsWays (AddBranch (home_of end) end)
  joins_label : (input output : End) → IsOfLabel input → IsOfLabel output → KeepsWays (MoveBranch input (home_of input) output)
  parts_label : (input output : End) → IsOfLabel input → KeepsWays (MoveBranch input output (home_of input))
  frees_label : (end : End) → IsOfLabel end → KeepsWays (DeleteTree end)

-- *All that a controller asks* but Delete All is so
abbrev pub ShapesKeepWays : Type 0
ShapesKeepWays = (setups : List Setup) (request : Request) → IsShaped setups request → is_deleting request ≡ false → KeepsWays request

-- a message that asks for nothing else
abbrev pub AsksKeeping : Message → Type 0
AsksKeeping message = (asked : Asked) → is_request message ≡ true → asked_in message ≡ Some asked → KeepsWays asked.request

-- *An input leads there alone*
pub record LeadsThere (branches : Branches) (input output : End) : Type 0 where
  pub leads : output_of branches input ≡ Some output
  pub alone : (other : End) → output_of branches other ≡ Some output → other ≡ input

-- *A switch* that hears such a message, whatever it answers, keeps the default channels of a port of a link as they were, where they
-- led out and home alone; and at a tick it keeps all branches
pub record AreKept (port : PortNo) (before after : Branches) : Type 0 where
  pub out : LeadsThere before (default_home port) (default_end port) → LeadsThere after (default_home port) (default_end port)
  pub home : LeadsThere before (default_end port) (default_home port) → LeadsThere after (default_end port) (default_home port)

pub record SwitchesKeepWays : Type 0 where
  pub hear : (port : PortNo) (a : ActedSwitch) (message : Message) → 1 ≤ port.0 → AsksKeeping message
      → AreKept port a.switch.crossbar.branches (message_heard a message).switch.crossbar.branches
  pub tick : (a : ActedSwitch) → (tick_comes a).switch.crossbar.branches ≡ a.switch.crossbar.branches
