-- the law is proved over definitions alone

use Rattle.law_live_orders.proofs.Shapes.{shapes_lead_alone}
use Rattle.law_live_orders.proofs.shapes_lead_alone.Goals as goal

pub returns : goal.returns
returns c = record { alone = shapes_lead_alone }
