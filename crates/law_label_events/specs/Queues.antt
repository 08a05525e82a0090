-- The queues of a network where events take place

use Rattle.std.specs.Prelude.{◌≡◌, ◌≢◌, ℕ, ◌<◌, ◌≤◌, true, length, Some}
use Rattle.std.specs.FinMap.{get}
use Rattle.world_model.specs.Words.{End, PortNo, Place, Down, Up, Out, channel_on_control, is_label_number, Cell, control_port, home_of, label_end, Site}
use Rattle.world_model.specs.crossbar_model.declared.branch.Branch.{Branch}
use Rattle.world_model.specs.crossbar_model.Crossbar.{input_of, output_of}
use Rattle.law_controller_lifts.specs.law_label_line.Cells.{Role}
use Rattle.world_model.specs.network_model.declared.link.LinkEnd.{LinkEnd}
use Rattle.law_controller_lifts.specs.law_port_views.Link.{LinkLabel, other}
use Rattle.law_world_views.specs.Shown.{end_of}

-- a switch has a queue at each of the ports 0 to 8
abbrev pub HasQueues : Site → Type 0
HasQueues site = length site.switch.crossbar.queues ≡ 9

-- a queue at a port is that of a link
abbrev pub IsLinkPlace : Place → Type 0
IsLinkPlace (Down node) = Unit {0}
IsLinkPlace (Up node) = Unit {0}
IsLinkPlace (Out node port) = 0 < port.0

-- the ports of a link are of those
abbrev pub HasLowPorts : LinkLabel → Type 0
HasLowPorts link = (role : Role) → (link.port role).0 ≤ 8

-- a cell that its controller sends leaves a switch, where it does, by a port of a link, on the link's channel of the
-- one of the control link that it came on
abbrev pub LeadsOut : Site → Cell → Type 0
LeadsOut site cell = (branch : Branch) → get site.switch.crossbar.branches (input_of control_port cell) ≡ Some branch
    → (0 < branch.output.port.0) × (cell.header.channel ≡ channel_on_control branch.output.port branch.output.channel)

-- one that came from a link leaves it for the controller, on the channel of the control link that stands for its own, or
-- by a port of a link, on the channel of a label
pub data LeadsOn (input output : End) : Type 0 where
  home : input.channel.vpi < 16 → output ≡ home_of input → LeadsOn input output
  joined : (port : PortNo) (number : ℕ) → 0 < port.0 → is_label_number number ≡ true → output ≡ label_end port number
      → LeadsOn input output

abbrev pub LeadsFromLinks : Site → Type 0
LeadsFromLinks site = (input output : End) → 0 < input.port.0 → output_of site.switch.crossbar.branches input ≡ Some output
    → LeadsOn input output

-- *The other end of a link*: it is at another node, and an end of this link only where the first one is its other end
pub record IsAcross (link : LinkLabel) (from far : LinkEnd) : Type 0 where
  pub above : 0 < far.port.0
  pub apart : far.node.0 ≢ from.node.0
  pub back : (role : Role) → far ≡ end_of role link → from ≡ end_of (other role) link
