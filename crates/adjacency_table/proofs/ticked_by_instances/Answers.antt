use Rattle.adjacency_table.specs.Ends.{router, entity}
use Rattle.adjacency_table.proofs.EndsLemmas.{ticked_by_instances}
use Rattle.adjacency_table.proofs.ticked_by_instances.Goals as goal

pub returns : goal.returns
returns c = record { ifmp = λ own far. ticked_by_instances (router own) (router far); gsmp = λ own far. ticked_by_instances (entity own) (entity far) }
