-- A script is a run: of a topology that lines make, and of events of which each can come when it comes

use Rattle.world_model.specs.Words.{Policy, IsRun}
use Rattle.law_run_facts.specs.law_world_views.Fronts.{HasAddresses}
use Rattle.script_model.specs.Script.{Script}

-- whatever the policy
pub record IsScriptRun (script : Script) : Type 0 where
  pub addresses : HasAddresses script.topology
  pub run : (policy : Policy) → IsRun policy script.topology script.events
