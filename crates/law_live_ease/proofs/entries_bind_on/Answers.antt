-- the law is proved over definitions alone

use Rattle.law_live_ease.proofs.EntriesBinding.{entries_bind_on}
use Rattle.law_live_ease.proofs.entries_bind_on.Goals as goal

pub returns : goal.returns
returns c = record { entries = entries_bind_on }
