-- a node of a run between whose controller and switch nothing is on its way rests, and so it wakes

use Rattle.law_live_woken.specs.law_run_facts.Nodes.{HasSite}
use Rattle.law_live_woken.proofs.law_run_facts.Rooms.{runs_keep_nodes}
use Rattle.law_live_woken.proofs.law_run_facts.Steps.{front_run}
use Rattle.world_model.specs.Words.{past_of}
use Rattle.law_live_woken.specs.law_live_hearing.Law.{world_at}
use Rattle.law_live_woken.specs.Law.{RunsWake, events_of}
use Rattle.law_live_rested.specs.Law.{HasSuchSides, StillNodesRest, StillNodesWake}
use Rattle.law_live_rested.proofs.Worlds.{runs_have_such_sides}

pub still_nodes_rest : StillNodesRest
still_nodes_rest policy topology events node run still =
    let has : HasSite (past_of policy topology events).now node = runs_keep_nodes policy topology events run node still.within in
    let sides : HasSuchSides has.site = runs_have_such_sides policy topology events node has.site has.is in
    record { site = has.site; found = has.is; controller = sides.controller; switch = sides.switch; down = still.down; up = still.up }

pub still_nodes_wake : RunsWake → StillNodesWake
still_nodes_wake wake policy topology before node beats given still peace enough =
    wake policy topology before node beats given
    (still_nodes_rest policy topology before node (front_run policy topology before (events_of topology (world_at policy topology before) beats) given.run) still) peace enough
