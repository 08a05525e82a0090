-- the law is proved over definitions alone

use Rattle.law_live_counts.proofs.Asking.{flows_ask_once}
use Rattle.law_live_counts.proofs.flows_ask_once.Goals as goal

pub returns : goal.returns
returns c = record { once = flows_ask_once }
