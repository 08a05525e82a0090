use Rattle.port_actions.proofs.Clearing.{IsClearing, IsSweeping}
use Rattle.port_actions.proofs.outlook.Outlook.delete_all.Given as goal

abbrev pub invariant-loop-place : goal.invariant-loop-place
invariant-loop-place l = IsClearing l.port l.desk l.fn.self l.self l.place

abbrev pub invariant-loop-index : goal.invariant-loop-index
invariant-loop-index l = IsSweeping l.port l.desk l.fn.self l.initial.self l.self l.index
