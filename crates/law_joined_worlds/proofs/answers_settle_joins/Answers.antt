-- answers settle joins, from what is so of every run

use Rattle.law_run_facts.proofs.Chains.{runs_have_own_chains}
use Rattle.law_run_facts.proofs.Nodes.{runs_have_nodes}
use Rattle.law_run_facts.proofs.Rooms.{runs_have_room}
use Rattle.law_run_facts.proofs.Steps.{events_are_steps, runs_have_fronts}
use Rattle.law_joined_worlds.proofs.Settled.{answers_settle}
use Rattle.law_joined_worlds.proofs.answers_settle_joins.Goals as goal

pub returns : goal.returns
returns c = λ made. answers_settle runs_have_nodes runs_have_fronts runs_have_own_chains
    (c.runs_make_no_pairs.ensures runs_have_nodes runs_have_room runs_have_fronts events_are_steps made)
