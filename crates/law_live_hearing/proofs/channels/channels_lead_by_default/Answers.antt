-- the law is proved over definitions alone

use Rattle.law_live_hearing.proofs.Shapes.{shapes_lead_by_default}
use Rattle.law_live_hearing.proofs.channels.channels_lead_by_default.Goals as goal

pub returns : goal.returns
returns c = record { shapes = shapes_lead_by_default }
