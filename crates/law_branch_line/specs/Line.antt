-- one input of a switch, its controller and the control link between them, as plain data

use Rattle.std.specs.Prelude.{ℕ, Option, None, List, [], ◌∷◌, ◌++◌}
use Rattle.net_types.specs.declared.channel.End.{End}
use Rattle.net_types.specs.declared.adjacency.HelloKind.{HelloKind}
use Rattle.adjacency_table.specs.declared.State.TheVariants.{SynSent}
use Rattle.adjacency_table.specs.Table.{Reply, Says}
use Rattle.adjacency_table.specs.Instances.{SideByInstances, begun, greeting}
use Rattle.law_branch_line.specs.Words.{InputRequest, ToSwitch, ToController}

-- what a side says by a reply
abbrev pub spoken : {W : Type 0} → (HelloKind → (sender receiver : ℕ) → W)
    → Reply → SideByInstances → (sender receiver : ℕ) → List W
spoken message (Says kind) side sender receiver = greeting message side kind sender receiver ∷ []
spoken message reply side sender receiver = []

-- what the controller has asked on the input, or of its port as a whole, since its adjacency entered
-- Estab
pub data Asked : Type 0 where
  Apart : Asked  -- it isn't in Estab
  Unasked : Asked  -- nothing yet
  Stands : (number : ℕ) → InputRequest → Asked  -- this request waits for its answer
  Answered : (number : ℕ) → InputRequest → Asked  -- none stands; this one was answered last

-- a standing request that doesn't concern the input
pub record Other : Type 0 where
  pub number : ℕ
  pub message_type : ℕ

-- how far the controller has met its switch since its adjacency entered Estab
pub data Meeting : Type 0 where
  Listing : Meeting  -- All Ports stands
  Emptying : Meeting  -- Delete All of each port was asked, and one of them stands
  Met : Meeting  -- all were answered, and nothing that concerns the input was asked since
  MetAndAsked : Meeting  -- something was

pub record Controller : Type 0 where
  pub adjacency : SideByInstances
  pub next : ℕ  -- the next transaction number
  pub asked : Asked
  pub others : List Other
  pub meeting : Meeting

pub record Switch : Type 0 where
  pub adjacency : SideByInstances
  pub branch : Option End  -- the output of the input's branch

-- each way of the link is what is queued, behind what the receiver has gathered and not yet taken;
-- the first message of a list is taken first
pub record Line : Type 0 where
  pub controller : Controller
  pub switch : Switch
  pub to_switch : List ToSwitch
  pub at_switch : List ToSwitch
  pub to_controller : List ToController
  pub at_controller : List ToController
  pub fresh : ℕ  -- the next instance that is drawn
  pub ports_before : ℕ  -- ports of the switch before the input's, port 0 among them
  pub ports_behind : ℕ  -- and behind it

-- all that is on its way to the switch, and to the controller
abbrev pub way_to_switch : Line → List ToSwitch
way_to_switch w = w.at_switch ++ w.to_switch

abbrev pub way_to_controller : Line → List ToController
way_to_controller w = w.at_controller ++ w.to_controller

-- the opening: both ends have drawn their first instances, and nothing is said
abbrev pub start : (controller switch fresh ports_before ports_behind : ℕ) → Line
start controller switch fresh ports_before ports_behind = record {
  controller = record {
    adjacency = begun SynSent controller;
    next = 1;
    asked = Apart;
    others = [];
    meeting = Listing;
  };
  switch = record { adjacency = begun SynSent switch; branch = None };
  to_switch = [];
  at_switch = [];
  to_controller = [];
  at_controller = [];
  fresh = fresh;
  ports_before = ports_before;
  ports_behind = ports_behind;
}
