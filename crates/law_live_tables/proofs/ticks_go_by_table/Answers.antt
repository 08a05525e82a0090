-- the laws, put together

use Rattle.law_live_tables.proofs.Ticks.{ticks_go_by_table, runs_are_orderly}
use Rattle.law_live_tables.proofs.ticks_go_by_table.Goals as goal

pub returns : goal.returns
returns c = record { orderly = runs_are_orderly; ticks = ticks_go_by_table }
