-- What is asked of controllers, of nodes and of default channels, so that a network begins so

use Rattle.law_live_begun.specs.Controllers.{ControllersGoOn, ControllersStayReady}
use Rattle.law_live_begun.specs.Worlds.{NetworksGoOn}
use Rattle.law_live_begun.specs.Beats.{NodesBeginInPeace, NodesStayUp, NodesAreCleared}
use Rattle.law_live_begun.specs.Ways.{DefaultChannelsLead}
use Rattle.law_live_begun.specs.Law.{RunsBegin}

-- *Of a controller*
pub record ControllersAreGiven : Type 0 where
  pub controllers : ControllersGoOn
  pub ready : ControllersStayReady

-- *Of a network*: its nodes are cleared behind five beats, and default channels lead behind one in which all ports stay up
pub record NetworksAreCleared : Type 0 where
  pub nodes : NodesAreCleared
  pub lead : DefaultChannelsLead

-- *Given the first*, a network goes on so, and nodes begin in peace and stay up
abbrev pub GivenNetworksGoOn : Type 0
GivenNetworksGoOn = ControllersAreGiven → NetworksGoOn

abbrev pub GivenNodesBeginInPeace : Type 0
GivenNodesBeginInPeace = ControllersAreGiven → NodesBeginInPeace

abbrev pub GivenNodesStayUp : Type 0
GivenNodesStayUp = ControllersAreGiven → NodesStayUp

-- *Given both*, every run begins so
abbrev pub GivenRunsBegin : Type 0
GivenRunsBegin = ControllersAreGiven → NetworksAreCleared → RunsBegin
