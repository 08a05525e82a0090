-- the law, put together

use Rattle.law_link_tables.proofs.Carries.{carries_go_by_table}
use Rattle.law_link_tables.proofs.carries_go_by_table.Goals as goal

pub returns : goal.returns
returns c = record { carries = carries_go_by_table }
