-- the law that is called, put together

use Rattle.law_live_ease.proofs.ServedStretches.{flows_come_to_be_served}
use Rattle.law_live_ease.proofs.flows_come_to_be_served.Goals as goal

pub returns : goal.returns
returns c = record { served = flows_come_to_be_served c.networks_bind_on.ensures.stretches }
