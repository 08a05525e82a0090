-- what is asked of a node and of an event holds in a run

use Rattle.law_run_facts.proofs.Nodes.{runs_have_nodes}
use Rattle.law_run_facts.proofs.Steps.{runs_have_fronts}
use Rattle.law_live_control_links.proofs.Runs.{runs_are_steady}
use Rattle.law_live_waking.specs.Law.{RunsGo}

pub runs_go : RunsGo
runs_go policy topology before event comes world node =
    let both = runs_are_steady policy topology before event comes world node in
    record {
      steady = both.0;
      is_true = both.1;
      fits = λ site found. ((world.ready node site found).side, (world.ready node site found).switch_side);
      queues = λ site found. (runs_have_nodes policy topology before comes.addresses (runs_have_fronts policy topology before event comes).run node site found).is_node.queues;
      made = world.made;
    }
