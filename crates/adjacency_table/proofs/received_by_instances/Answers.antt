use Rattle.adjacency_table.proofs.EndsLemmas.{ifmp_received_by_instances, gsmp_received_by_instances}
use Rattle.adjacency_table.proofs.received_by_instances.Goals as goal

pub returns : goal.returns
returns c = record { ifmp = ifmp_received_by_instances; gsmp = gsmp_received_by_instances }
