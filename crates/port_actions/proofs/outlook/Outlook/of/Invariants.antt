use Rattle.port_actions.proofs.Clearing.{IsFollowing}
use Rattle.port_actions.proofs.outlook.Outlook.of.Given as goal

abbrev pub invariant-loop-place : goal.invariant-loop-place
invariant-loop-place l = IsFollowing l.outlook l.desk l.actions l.place
