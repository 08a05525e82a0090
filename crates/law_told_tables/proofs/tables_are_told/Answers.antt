-- the law is proved over definitions alone

use Rattle.law_told_tables.proofs.Runs.{tables_are_told}
use Rattle.law_told_tables.proofs.tables_are_told.Goals as goal

pub returns : goal.returns
returns c = record { tables = tables_are_told }
