-- the law is proved over definitions alone

use Rattle.law_link_orders.proofs.Runs.{runs_may_lead}
use Rattle.law_link_orders.proofs.runs_may_lead.Goals as goal

pub returns : goal.returns
returns c = record { lead = runs_may_lead }
